-- Words that change places: each number is that of one word.
use Rattle.std.proofs.Common.{◌≡◌, ◌≤◌, ◌<◌, ℕ, zero, suc, ◌+◌, List, [], ◌∷◌, ◌++◌, length, map, Bool, true, false, refl, sym, ap, ◌∙◌, subst, arith}
use Rattle.std.specs.Prelude.{◌==◌, if◌then◌else◌}
use Rattle.std.proofs.lemmas.Bool.{eqb-true, eq-eqb}
use Rattle.std.proofs.lemmas.List.{map-append, append_assoc}
use Rattle.frames_code.specs.declared.code.Function.{Function as Held}
use Rattle.frames_code.specs.declared.code.Instruction.{Instruction}
use Rattle.frames_code.specs.Code.{Function, function_of}
use Rattle.frames_regalloc.specs.declared.swaps.Swap.{Swap}
use Rattle.frames_regalloc.specs.Renumbered.{renumbered, renumbered_function, IsRenumberedFunction, AreRenumbered}
use Rattle.frames_regalloc.specs.inside.Pairs.{swapped, through, AreInside}

abbrev pair : (a b c : ℕ) → ℕ
pair a b c = if c == a then b else if c == b then a else c

at_first : (a b c : ℕ) → c ≡ a → pair a b c ≡ b
at_first a b c e = let t : (c == a) ≡ true = eq-eqb c a e in rw t refl

at_second : (a b c : ℕ) → c ≡ b → pair a b c ≡ a
at_second a b c e = on (c == a) refl
  where
    on : (t : Bool) → (c == a) ≡ t → pair a b c ≡ a
    on true u = at_first a b c (eqb-true c a u) ∙ (sym e ∙ eqb-true c a u)
    on false u = let v : (c == b) ≡ true = eq-eqb c b e in rw (u, v) refl

pair_twice : (a b c : ℕ) → pair a b (pair a b c) ≡ c
pair_twice a b c = on (c == a) refl
  where
    other : (t : Bool) → (c == a) ≡ false → (c == b) ≡ t → pair a b (pair a b c) ≡ c
    other true u v = ap (pair a b) (at_second a b c (eqb-true c b v)) ∙ (at_first a b a refl ∙ sym (eqb-true c b v))
    other false u v = let e : pair a b c ≡ c = rw (u, v) refl in ap (pair a b) e ∙ e

    on : (t : Bool) → (c == a) ≡ t → pair a b (pair a b c) ≡ c
    on true u = ap (pair a b) (at_first a b c (eqb-true c a u)) ∙ (at_second a b b refl ∙ sym (eqb-true c a u))
    on false u = other (c == b) u refl

swapped_twice : (s : Swap) (c : ℕ) → swapped s (swapped s c) ≡ c
swapped_twice s c = pair_twice s.first s.second c

abbrev pub back : List Swap → ℕ → ℕ
back [] c = c
back (s ∷ ss) c = swapped s (back ss c)

back_through : (ss : List Swap) (c : ℕ) → back ss (through ss c) ≡ c
back_through [] c = refl
back_through (s ∷ ss) c = ap (swapped s) (back_through ss (swapped s c)) ∙ swapped_twice s c

through_back : (ss : List Swap) (c : ℕ) → through ss (back ss c) ≡ c
through_back [] c = refl
through_back (s ∷ ss) c = ap (through ss) (swapped_twice s (back ss c)) ∙ through_back ss c

chosen : (t u : Bool) (a b c n : ℕ) → a < n → b < n → c < n → (if t then b else if u then a else c) < n
chosen true u a b c n la lb lc = lb
chosen false true a b c n la lb lc = la
chosen false false a b c n la lb lc = lc

through_inside : (n : ℕ) (ss : List Swap) → AreInside n ss → (c : ℕ) → c < n → through ss c < n
through_inside n [] all c lt = lt
through_inside n (s ∷ ss) all c lt = through_inside n ss all.2 (swapped s c) (chosen (c == s.first) (c == s.second) s.first s.second c n all.0 all.1 lt)

pub one_more_inside : (n : ℕ) (ss more : List Swap) (s : Swap) → AreInside n ss → s.first < n → s.second < n → more ≡ ss ++ s ∷ [] → AreInside n more
one_more_inside n ss more s all a b e = subst (AreInside n) (sym e) (longer ss all)
  where
    longer : (xs : List Swap) → AreInside n xs → AreInside n (xs ++ s ∷ [])
    longer [] h = (a, b, tt)
    longer (x ∷ xs) h = (h.0, h.1, longer xs h.2)

pub is_renumbered : (f g : Function) (ss : List Swap) → AreInside f.cells ss → g.resident ≤ f.resident → g ≡ renumbered_function (through ss) g.resident f → IsRenumberedFunction f g
is_renumbered f g ss all few made = record {
  to = through ss;
  from = back ss;
  from_to = back_through ss;
  to_from = through_back ss;
  inside = through_inside f.cells ss all;
  few = few;
  is = made;
}

abbrev with_code : Function → (resident : ℕ) → List Instruction → Function
with_code f resident code = record { code = code; cells = f.cells; resident = resident; area = f.area; outgoing = f.outgoing; gives = f.gives }

pub code_put : (f : Function) (resident : ℕ) (code start xs : List Instruction) (ss ts : List Swap) → code ≡ start ++ map (renumbered (through ss)) xs → start ≡ [] → ss ≡ ts → xs ≡ f.code
    → with_code f resident code ≡ renumbered_function (through ts) resident f
code_put f resident code start xs ss ts e none same all =
    ap (with_code f resident) (e ∙ ap (λ zs. zs ++ map (renumbered (through ss)) xs) none ∙ ap (λ us. map (renumbered (through us)) xs) same ∙ ap (map (renumbered (through ts))) all)

-- ---- one function after the other

no_more : {A : Type 0} (xs : List A) → xs ++ [] ≡ xs
no_more [] = refl
no_more (x ∷ xs) = ap (λ ys. x ∷ ys) (no_more xs)

abbrev pub Continued : (all left made : List Held) → Type 0
Continued all left made = (more : List Function) → AreRenumbered (map function_of left) more → AreRenumbered (map function_of all) (map function_of made ++ more)

pub one_more_renumbered : (all left rest : List Held) (x y : Held) (old made : List Held) → left ≡ x ∷ rest → made ≡ old ++ y ∷ [] → IsRenumberedFunction (function_of x) (function_of y) → Continued all left old → Continued all rest made
one_more_renumbered all left rest x y old made split put is before more done =
    let held : AreRenumbered (map function_of left) (function_of y ∷ more) = subst (λ xs. AreRenumbered (map function_of xs) (function_of y ∷ more)) (sym split) (is, done) in
    let list : map function_of made ++ more ≡ map function_of old ++ function_of y ∷ more =
    ap (λ xs. map function_of xs ++ more) put ∙ ap (λ xs. xs ++ more) (map-append function_of old (y ∷ [])) ∙ append_assoc (map function_of old) (function_of y ∷ []) more in
    subst (AreRenumbered (map function_of all)) (sym list) (before (function_of y ∷ more) held)

empty : {A : Type 0} (xs : List A) → length xs ≡ 0 → xs ≡ []
empty [] e = refl
empty (x ∷ xs) e = absurd (omega (arith, e))

pub all_renumbered : (all left made : List Held) → length left ≡ 0 → Continued all left made → AreRenumbered (map function_of all) (map function_of made)
all_renumbered all left made end done =
    let none : AreRenumbered (map function_of left) [] = subst (λ xs. AreRenumbered (map function_of xs) []) (sym (empty left end)) tt in
    subst (AreRenumbered (map function_of all)) (no_more (map function_of made)) (done [] none)
