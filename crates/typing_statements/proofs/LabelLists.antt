-- The labels of a switch, of which no two have one value.
use Rattle.std.proofs.Common.{◌≡◌, inl, ℕ, ◌+◌, ◌<◌, ◌≤◌, ℤ, Bool, true, false, not, ◌&&◌, ◌||◌, List, [], ◌∷◌, ◌++◌, Option, Some, None, drop, length, map, refl, sym, ap, ◌∙◌, subst, arith, int_eq, get_or}
use Rattle.std.specs.Prelude.{int_le, slice_index_or, if◌then◌else◌}
use Rattle.std.specs.Option.{option_eq}
use Rattle.std.specs.List.{list_any}
use Rattle.std.proofs.lemmas.List.{drop_more, drop_all}
use Rattle.std.proofs.lemmas.List.Folds.{list_any-append}
use Rattle.srcset.specs.declared.code.Code.TheVariants as code
use Rattle.srcset.specs.declared.refusal.Pos.{Pos}
use Rattle.srcset.specs.declared.refusal.Refusal.{Refusal}
use Rattle.typing_spec.specs.Verdict.{Verdict, fine, broken, both, each, refuse_if}
use Rattle.typing_spec.specs.Statements as typed
use Rattle.typing_spec.specs.Statements.{same_label, is_among, no_label_twice}
use Rattle.typing_expressions.specs.Refused.{IsOf, Tells, refused}
use Rattle.typing_expressions.proofs.Verdicts.{tells_left}
use Rattle.indexmap.specs.IndexSet.{insert_key}
use Rattle.typing_statements.specs.declared.labels.Label.{Label}
use Rattle.typing_statements.specs.Views.{label_of}

abbrev key_eq : Option ℤ → Option ℤ → Bool
key_eq = option_eq int_eq

same_number : (v w : ℤ) → (int_le v w && int_le w v) ≡ int_eq v w
same_number v w = grind arith

same_is : (v w : Option ℤ) → same_label v w ≡ key_eq v w
same_is None None = refl
same_is (Some v) (Some w) = same_number v w
same_is None (Some w) = refl
same_is (Some v) None = refl

-- the labels so far, of which these are the values
abbrev Known : List (Option ℤ) → List typed.Label → Type 0
Known keys before = (v : Option ℤ) → is_among v before ≡ list_any (key_eq v) keys

-- the invariant: the labels up to an index have been checked
pub record Read (all rest : List typed.Label) (keys : List (Option ℤ)) : Type 0 where
  pub before : List typed.Label
  pub known : Known keys before
  pub same : no_label_twice [] all ≡ no_label_twice before rest

pub begun : (all : List typed.Label) (keys : List (Option ℤ)) → keys ≡ [] → Read all all keys
begun all keys e = record { before = []; known = λ v. ap (list_any (key_eq v)) (sym e); same = refl }

or_swap : (a b : Bool) → a || (b || false) ≡ b || a
or_swap true true = refl
or_swap true false = refl
or_swap false true = refl
or_swap false false = refl

known_next : (keys new : List (Option ℤ)) (before : List typed.Label) (l : typed.Label) → Known keys before → new ≡ keys ++ l.value ∷ [] → Known new (l ∷ before)
known_next keys new before l h e v =
    ap (λ b. b || is_among v before) (same_is v l.value) ∙ ap (λ b. key_eq v l.value || b) (h v)
    ∙ sym (ap (list_any (key_eq v)) e ∙ list_any-append (key_eq v) keys (l.value ∷ []) ∙ or_swap (list_any (key_eq v) keys) (key_eq v l.value))

each_alone : (v : Verdict (Unit {0})) → each (fine tt) v ≡ v
each_alone (fine u) = refl
each_alone (broken vs) = refl

abbrev behind : List typed.Label → typed.Label → List typed.Label → Bool → Verdict (Unit {0})
behind before l ls b = each (refuse_if b code.LabelTwice l.at) (no_label_twice (l ∷ before) ls)

new_keys : (keys new : List (Option ℤ)) (v : Option ℤ) → list_any (key_eq v) keys ≡ false → new ≡ insert_key key_eq keys v → new ≡ keys ++ v ∷ []
new_keys keys new v h e = e ∙ ap (λ b. if b then keys else keys ++ v ∷ []) h

next_of : (ls : List Label) (i : ℕ) (d : Label) → i < length ls → map label_of (drop i ls) ≡ label_of (slice_index_or ls i d) ∷ map label_of (drop (i + 1) ls)
next_of ls i d h = ap (map label_of) (drop_more ls i d h)

was_new : (b c : Bool) → b ≡ not c → b ≡ true → c ≡ false
was_new b true e f = absurd (cc)
was_new b false e f = refl

was_old : (b c : Bool) → b ≡ not c → b ≡ false → c ≡ true
was_old b true e f = refl
was_old b false e f = absurd (cc)

pub next : (ls : List Label) (i : ℕ) (d : Label) (keys new : List (Option ℤ)) (b : Bool) → i < length ls → b ≡ true → b ≡ not (list_any (key_eq (slice_index_or ls i d).value) keys) →
    new ≡ insert_key key_eq keys (slice_index_or ls i d).value → Read (map label_of ls) (map label_of (drop i ls)) keys → Read (map label_of ls) (map label_of (drop (i + 1) ls)) new
next ls i d keys new b h t a k r =
    let l = slice_index_or ls i d in
    let c = was_new b (list_any (key_eq l.value) keys) a t in
    record {
      before = label_of l ∷ r.before;
      known = known_next keys new r.before (label_of l) r.known (new_keys keys new l.value c k);
      same = r.same ∙ ap (no_label_twice r.before) (next_of ls i d h) ∙ ap (behind r.before (label_of l) (map label_of (drop (i + 1) ls))) (r.known l.value ∙ c) ∙ each_alone (no_label_twice (label_of l ∷ r.before) (map label_of (drop (i + 1) ls)));
    }

pub twice : (ls : List Label) (i : ℕ) (d : Label) (keys : List (Option ℤ)) (b : Bool) (r : Refusal) → i < length ls → b ≡ false → b ≡ not (list_any (key_eq (slice_index_or ls i d).value) keys) →
    r ≡ refused code.LabelTwice (slice_index_or ls i d).pos → Read (map label_of ls) (map label_of (drop i ls)) keys → Tells r (no_label_twice [] (map label_of ls))
twice ls i d keys b r h t a e k =
    let l = slice_index_or ls i d in
    let c = was_old b (list_any (key_eq l.value) keys) a t in
    subst (λ x. Tells x (no_label_twice [] (map label_of ls))) (sym e)
    (subst (λ v. Tells (refused code.LabelTwice l.pos) v)
    (sym (k.same ∙ ap (no_label_twice k.before) (next_of ls i d h) ∙ ap (behind k.before (label_of l) (map label_of (drop (i + 1) ls))) (k.known l.value ∙ c)))
    (inl (refl, refl)))

pub ended : (ls : List Label) (i : ℕ) (keys : List (Option ℤ)) → length ls ≤ i → Read (map label_of ls) (map label_of (drop i ls)) keys → no_label_twice [] (map label_of ls) ≡ fine tt
ended ls i keys h r = r.same ∙ ap (λ l. no_label_twice r.before (map label_of l)) (drop_all i ls h)
