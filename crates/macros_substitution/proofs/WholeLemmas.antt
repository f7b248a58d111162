-- Laws of the subsets noted for sets.
use Rattle.std.proofs.Common.{◌≡◌, ℕ, ◌≤◌, List, [], ◌∷◌, ◌++◌, Option, Some, None, Bool, true, false, cond, nat_eq, not, ◌||◌, if◌then◌else◌, length, refl, sym, ap, ◌∙◌, subst, arith}
use Rattle.std.proofs.lemmas.Bool.{eqb-true}
use Rattle.std.specs.List.{list_any, filter}
use Rattle.macros_substitution.specs.declared.hide_sets.Node.{Node}
use Rattle.macros_substitution.specs.HideSets.{Sets, members, is_new, united, Extends}
use Rattle.macros_substitution.specs.inside.Nodes.{sets_of}
use Rattle.macros_substitution.specs.inside.Firsts.{Firsts, first_of, Notes, NotesBy}
use Rattle.macros_substitution.specs.inside.Both.{Holds}
use Rattle.macros_substitution.specs.inside.Wholes.{AreWhole}
use Rattle.macros_substitution.proofs.Tables.{WithNode, extends_with, has_later}

pub holds_later : (old new : Sets) (set other : ℕ) → Extends old new → set ≤ length old → other ≤ length old → Holds old set other → Holds new set other
holds_later old new set other grown p q h n k =
    ap (list_any (nat_eq n)) (grown.same other q) ∙ h n (ap (list_any (nat_eq n)) (sym (grown.same set p)) ∙ k)

pub whole_later : (old new : Sets) (wholes : Firsts) → Extends old new → AreWhole old wholes → AreWhole new wholes
whole_later old new wholes grown w = record {
  is_set = λ set whole e. let p = w.is_set set whole e in omega (arith, grown.longer, p);
  is_whole = λ set whole e. let p = w.is_whole set whole e in omega (arith, grown.longer, p);
  holds = λ set whole e. holds_later old new whole set grown (w.is_whole set whole e) (w.is_set set whole e) (w.holds set whole e);
}

pub whole_with : (old new : List Node) (node : Node) (index : ℕ) (wholes : Firsts) → WithNode old new node index → AreWhole (sets_of old) wholes → AreWhole (sets_of new) wholes
whole_with old new node index wholes put w = whole_later (sets_of old) (sets_of new) wholes (extends_with old new node index put) w

-- one more is noted
pub whole_noted : (sets : Sets) (old new : Firsts) (set whole : ℕ) → set ≤ length sets → whole ≤ length sets → Holds sets whole set → Notes old set whole new → AreWhole sets old → AreWhole sets new
whole_noted sets old new set whole p q h notes w = by (first_of old set) notes
  where
    some_same : (m n : ℕ) → Some m ≡ Some n → m ≡ n
    some_same m n e = cc

    set_in : (b : Bool) (r a : ℕ) → nat_eq set r ≡ b → Some a ≡ cond b (Some whole) (first_of old r) → r ≤ length sets
    set_in true r a k e = subst (λ m. m ≤ length sets) (eqb-true set r k) p
    set_in false r a k e = w.is_set r a (sym e)

    whole_in : (b : Bool) (r a : ℕ) → Some a ≡ cond b (Some whole) (first_of old r) → a ≤ length sets
    whole_in true r a e = subst (λ m. m ≤ length sets) (sym (some_same a whole e)) q
    whole_in false r a e = w.is_whole r a (sym e)

    holds_in : (b : Bool) (r a : ℕ) → nat_eq set r ≡ b → Some a ≡ cond b (Some whole) (first_of old r) → Holds sets a r
    holds_in true r a k e = subst (λ m. Holds sets m r) (sym (some_same a whole e)) (subst (λ m. Holds sets whole m) (eqb-true set r k) h)
    holds_in false r a k e = w.holds r a (sym e)

    by : (o : Option ℕ) → NotesBy o old set whole new → AreWhole sets new
    by None h2 = record {
      is_set = λ r a e. set_in (nat_eq set r) r a refl (sym e ∙ h2 r);
      is_whole = λ r a e. whole_in (nat_eq set r) r a (sym e ∙ h2 r);
      holds = λ r a e. holds_in (nat_eq set r) r a refl (sym e ∙ h2 r);
    }
    by (Some f) h2 = subst (AreWhole sets) (sym h2) w

-- ---- the names of either have the names of both

has_all : (m : ℕ) (ns others : List ℕ) → list_any (nat_eq m) others ≡ true → list_any (nat_eq m) (ns ++ others) ≡ true
has_all m [] others h = h
has_all m (n ∷ ns) others h = has_later m n (ns ++ others) (has_all m ns others h)

pub united_has : (ms others : List ℕ) (m : ℕ) → list_any (nat_eq m) ms ≡ true → list_any (nat_eq m) (united ms others) ≡ true
united_has [] others m h = absurd (no h)
  where
    no : false ≡ true → ⊥
    no e = cc
united_has (n ∷ ms) others m h = by (list_any (nat_eq n) others) refl (nat_eq m n) refl h (united_has ms others m)
  where
    rest : List ℕ
    rest = filter (is_new others) ms

    by : (b : Bool) → list_any (nat_eq n) others ≡ b → (c : Bool) → nat_eq m n ≡ c → (c || list_any (nat_eq m) ms) ≡ true
        → (list_any (nat_eq m) ms ≡ true → list_any (nat_eq m) (rest ++ others) ≡ true)
        → list_any (nat_eq m) ((if not b then n ∷ rest else rest) ++ others) ≡ true
    by true e true f h2 less = has_all m rest others (ap (λ k. list_any (nat_eq k) others) (eqb-true m n f) ∙ e)
    by true e false f h2 less = less h2
    by false e true f h2 less = ap (λ b. b || list_any (nat_eq m) (rest ++ others)) f
    by false e false f h2 less = has_later m n (rest ++ others) (less h2)

pub united_holds : (old new : Sets) (set behind made : ℕ) → Extends old new → set ≤ length old → members new made ≡ united (members old set) (members old behind) → Holds new set made
united_holds old new set behind made grown p e n h =
    ap (list_any (nat_eq n)) e ∙ united_has (members old set) (members old behind) n (ap (list_any (nat_eq n)) (sym (grown.same set p)) ∙ h)
