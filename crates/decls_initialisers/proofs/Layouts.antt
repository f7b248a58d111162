-- The values of elements, as far as they are laid out.
use Rattle.std.proofs.Common.{◌≡◌, ℕ, zero, suc, ◌+◌, ◌-◌, ◌<◌, ◌≤◌, List, [], ◌∷◌, ◌++◌, take, drop, get_or, length, map, Option, Some, None, refl, sym, ap, ◌∙◌, subst, arith, append_assoc, append-nil, length-append, ℤ, pos, OnOk, inl, inr}
use Rattle.std.specs.Prelude.{Result, slice_get, replicate, min, ◌^◌}
use Rattle.std.proofs.lemmas.List.{drop_all, take_all, length-take-le}
use Rattle.std.proofs.lemmas.Bool.{cases_lt}
use Rattle.srcset.specs.declared.refusal.Refusal.{Refusal}
use Rattle.ctypes.specs.declared.types.IntType.{IntType}
use Rattle.ctypes.specs.Types.{converted}
use Rattle.tree.specs.Capped.{capped}
use Rattle.typed_ast.specs.declared.initialisers.Initialiser as held
use Rattle.typed_ast.specs.View.{initialiser_of, initialisers_of}
use Rattle.typing_spec.specs.Types.{elements_in}
use Rattle.typing_spec.specs.Verdict.{Verdict, fine, both, then_check}
use Rattle.typing_spec.specs.Program as program
use Rattle.typing_spec.specs.Scope.{Scope, file_scope}
use Rattle.typing_spec.specs.Initialisers as typed
use Rattle.typing_spec.specs.Initialisers.{characters, zeros, padded, literal_text, and_values}
use Rattle.typing_expressions.specs.Forms.{seen}
use Rattle.typing_expressions.specs.Refused.{Tells}
use Rattle.typing_expressions.proofs.Verdicts.{tells_left, tells_right, tells_then}
use Rattle.decls_declarators.proofs.Verdicts.{next_of, both_fine}
use Rattle.decls_initialisers.specs.inside.Values.{with_both, values_with, all_values_with, characters_with, text_with}

-- ---- they depend on the texts and the literals alone

text_same : (t : List (List ℕ)) (k : List ℕ) (s r : Scope) (o : Option ℕ) → literal_text (seen t k s) o ≡ literal_text (seen t k r) o
text_same t k s r None = refl
text_same t k s r (Some n) = refl

mutual
  pub values_same : (t : List (List ℕ)) (k : List ℕ) (s r : Scope) (u : IntType) (lengths : List ℕ) (i : program.Initialiser) → typed.values (seen t k s) u lengths i ≡ typed.values (seen t k r) u lengths i
  values_same t k s r u lengths (program.one_value ty e) = refl
  values_same t k s r u lengths (program.text n) = ap (λ l. fine (characters u l)) (text_same t k s r (slice_get k n))
  values_same t k s r u lengths (program.in_braces i) = values_same t k s r u lengths i
  values_same t k s r u [] (program.list is) = refl
  values_same t k s r u (n ∷ lengths) (program.list is) = all_same t k s r u lengths is

  all_same : (t : List (List ℕ)) (k : List ℕ) (s r : Scope) (u : IntType) (lengths : List ℕ) (is : program.Initialisers) → typed.all_values (seen t k s) u lengths is ≡ typed.all_values (seen t k r) u lengths is
  all_same t k s r u lengths program.no_initialisers = refl
  all_same t k s r u lengths (program.and_initialiser i is) =
      ap (λ v. both (then_check v (λ vs. fine (padded (elements_in lengths) vs))) (typed.all_values (seen t k s) u lengths is) and_values) (values_same t k s r u lengths i)
      ∙ ap (λ v. both (then_check (typed.values (seen t k r) u lengths i) (λ vs. fine (padded (elements_in lengths) vs))) v and_values) (all_same t k s r u lengths is)

-- ---- characters, zeros

pub one_character : (u : IntType) (start now next : List ℤ) (text : List ℕ) (i c : ℕ) → i < length text → c ≡ get_or text i c → now ++ characters u (drop i text) ≡ start ++ characters u text →
    next ≡ now ++ converted u (pos c) ∷ [] → next ++ characters u (drop (i + 1) text) ≡ start ++ characters u text
one_character u start now next text i c h g inv e =
    ap (λ l. l ++ characters u (drop (i + 1) text)) e ∙ append_assoc now (converted u (pos c) ∷ []) (characters u (drop (i + 1) text)) ∙ ap (λ l. now ++ characters u l) (sym (next_of text i c h g)) ∙ inv

pub no_character : (u : IntType) (start now : List ℤ) (text : List ℕ) (i : ℕ) → length text ≤ i → now ++ characters u (drop i text) ≡ start ++ characters u text → now ≡ start ++ characters u text
no_character u start now text i h inv = sym (append-nil now) ∙ ap (λ l. now ++ characters u l) (sym (drop_all i text h)) ∙ inv

zeros_length : (m : ℕ) → length (zeros m) ≡ m
zeros_length zero = refl
zeros_length (suc m) = omega (arith, zeros_length m)

take_past : (before vs : List ℤ) (count n : ℕ) → n ≡ length before + count → take n (before ++ vs) ≡ before ++ take count vs
take_past [] vs count n e = ap (λ k. take k vs) (let h : n ≡ count = omega (arith, e) in h)
take_past (x ∷ before) vs count zero e = absurd (omega (arith, e))
take_past (x ∷ before) vs count (suc n) e = ap (λ l. x ∷ l) (take_past before vs count n (omega (arith, e)))

padded_cut : (count : ℕ) (vs : List ℤ) → count < length vs → padded count vs ≡ take count vs ++ zeros (count - length (take count vs))
padded_cut count vs lt =
    let a : count - length vs ≡ 0 = omega (arith, lt) in
    let k = length-take-le count vs (omega (arith, lt)) in
    let b : 0 ≡ count - length (take count vs) = omega (arith, k) in
    ap (λ n. take count (vs ++ zeros n)) a ∙ ap (take count) (append-nil vs) ∙ sym (append-nil (take count vs)) ∙ ap (λ n. take count vs ++ zeros n) b

padded_more : (count : ℕ) (vs : List ℤ) → length vs ≤ count → padded count vs ≡ take count vs ++ zeros (count - length (take count vs))
padded_more count vs ge =
    let a = length-append vs (zeros (count - length vs)) in
    let b = zeros_length (count - length vs) in
    take_all count (vs ++ zeros (count - length vs)) (omega (arith, ge, a, b)) ∙ ap (λ l. l ++ zeros (count - length l)) (sym (take_all count vs ge))

padded_is : (count : ℕ) (vs : List ℤ) → padded count vs ≡ take count vs ++ zeros (count - length (take count vs))
padded_is count vs = elim (cases_lt count (length vs)) [ inl lt ↦ padded_cut count vs lt | inr ge ↦ padded_more count vs ge ]

pad_is : (before vs old cut new : List ℤ) (start count end missing : ℕ) → old ≡ before ++ vs → start ≡ length before → end ≡ start + count → cut ≡ take end old → missing ≡ end - length cut → new ≡ cut ++ zeros missing →
    new ≡ before ++ padded count vs
pad_is before vs old cut new start count end missing o s e c m n =
    let k : cut ≡ before ++ take count vs = c ∙ ap (take end) o ∙ take_past before vs count end (omega (arith, e, s)) in
    let a : length cut ≡ length before + length (take count vs) = ap length k ∙ length-append before (take count vs) in
    let b : missing ≡ count - length (take count vs) = omega (arith, a, m, e, s) in
    n ∙ ap (λ l. l ++ zeros missing) k ∙ append_assoc before (take count vs) (zeros missing) ∙ ap (λ x. before ++ (take count vs ++ zeros x)) b ∙ ap (λ l. before ++ l) (sym (padded_is count vs))

zeros_are : (n : ℕ) → replicate n (pos 0) ≡ zeros n
zeros_are zero = refl
zeros_are (suc n) = ap (λ l. pos 0 ∷ l) (zeros_are n)

missing_after : (end : ℕ) (old : List ℤ) → end - length old ≡ end - length (take end old)
missing_after end old = elim (cases_lt end (length old)) [
  | inl lt ↦ (let k = length-take-le end old (omega (arith, lt)) in omega (arith, k, lt))
  | inr ge ↦ ap (λ l. end - length l) (sym (take_all end old ge))
]

-- a count that a vector can have is below the greatest word
in_a_word : (n count start end : ℕ) → count ≡ capped n → end ≡ min (start + count) (2 ^ 64 - 1) → end < 2 ^ 63 → end ≡ start + n
unfolding capped
in_a_word n count start end e f h = omega (arith, e, f, h)

pub resized : (n count start end : ℕ) (before vs old new : List ℤ) → count ≡ capped n → old ≡ before ++ vs → start ≡ length before → end ≡ min (start + count) (2 ^ 64 - 1) → end < 2 ^ 63 →
    new ≡ take end old ++ replicate (end - length old) (pos 0) → new ≡ before ++ padded n vs
resized n count start end before vs old new e o s f h g =
    pad_is before vs old (take end old) new start n end (end - length old) o s (in_a_word n count start end e f h) refl (missing_after end old)
    (g ∙ ap (λ l. take end old ++ l) (zeros_are (end - length old)))

-- ---- the parts of a list

abbrev pub parts_of : List held.Initialiser → program.Initialisers
parts_of is = initialisers_of (map initialiser_of is)

-- the result on the rest determines the result on the whole
pub record Laid (t : List (List ℕ)) (k : List ℕ) (u : IntType) (lengths : List ℕ) (all rest : List held.Initialiser) (old new : List ℤ) : Type 0 where
  pub ok : (ws : List ℤ) → all_values_with t k u lengths (parts_of rest) ≡ fine ws → (vs : List ℤ) × (all_values_with t k u lengths (parts_of all) ≡ fine vs) × (new ++ ws ≡ old ++ vs)
  pub err : (r : Refusal) → Tells r (all_values_with t k u lengths (parts_of rest)) → Tells r (all_values_with t k u lengths (parts_of all))

pub begun : (t : List (List ℕ)) (k : List ℕ) (u : IntType) (lengths : List ℕ) (all : List held.Initialiser) (old : List ℤ) → Laid t k u lengths all all old old
begun t k u lengths all old = record { ok = λ ws e. (ws, e, refl); err = λ r h. h }

abbrev part_of : List (List ℕ) → List ℕ → IntType → List ℕ → program.Initialiser → Verdict (List ℤ)
part_of t k u lengths i = then_check (values_with t k u lengths i) (λ vs. fine (padded (elements_in lengths) vs))

step_rest : (t : List (List ℕ)) (k : List ℕ) (u : IntType) (lengths : List ℕ) (all : List held.Initialiser) (part : held.Initialiser) (rest : List held.Initialiser) (old new more vs : List ℤ) →
    Laid t k u lengths all (part ∷ rest) old new → values_with t k u lengths (initialiser_of part) ≡ fine vs → more ≡ new ++ padded (elements_in lengths) vs → Laid t k u lengths all rest old more
step_rest t k u lengths all part rest old new more vs h f g =
    let p = padded (elements_in lengths) vs in
    let e : part_of t k u lengths (initialiser_of part) ≡ fine p = ap (λ v. then_check v (λ vs. fine (padded (elements_in lengths) vs))) f in record {
      ok = λ ws q.
          let w = h.ok (p ++ ws) (both_fine (part_of t k u lengths (initialiser_of part)) (all_values_with t k u lengths (parts_of rest)) p ws and_values e q) in
          (w.0, w.1, ap (λ l. l ++ ws) g ∙ append_assoc new p ws ∙ w.2);
      err = λ r q. h.err r (tells_right r (part_of t k u lengths (initialiser_of part)) (all_values_with t k u lengths (parts_of rest)) and_values q);
    }

at_rest : (t : List (List ℕ)) (k : List ℕ) (u : IntType) (lengths : List ℕ) (all rest other : List held.Initialiser) (old new : List ℤ) → rest ≡ other → Laid t k u lengths all rest old new → Laid t k u lengths all other old new
at_rest t k u lengths all rest other old new e h = subst (λ l. Laid t k u lengths all l old new) e h

pub step : (t : List (List ℕ)) (k : List ℕ) (u : IntType) (lengths : List ℕ) (all : List held.Initialiser) (i : ℕ) (part : held.Initialiser) (old new more vs : List ℤ) → i < length all → part ≡ get_or all i part →
    Laid t k u lengths all (drop i all) old new → values_with t k u lengths (initialiser_of part) ≡ fine vs → more ≡ new ++ padded (elements_in lengths) vs → Laid t k u lengths all (drop (i + 1) all) old more
step t k u lengths all i part old new more vs h g inv f c = step_rest t k u lengths all part (drop (i + 1) all) old new more vs (at_rest t k u lengths all _ _ old new (next_of all i part h g) inv) f c

pub stops : (t : List (List ℕ)) (k : List ℕ) (u : IntType) (lengths : List ℕ) (all : List held.Initialiser) (i : ℕ) (part : held.Initialiser) (old new : List ℤ) (r : Refusal) → i < length all → part ≡ get_or all i part →
    Laid t k u lengths all (drop i all) old new → Tells r (values_with t k u lengths (initialiser_of part)) → Tells r (all_values_with t k u lengths (parts_of all))
stops t k u lengths all i part old new r h g inv q =
    inv.err r (subst (λ l. Tells r (all_values_with t k u lengths (parts_of l))) (sym (next_of all i part h g))
    (tells_left r (part_of t k u lengths (initialiser_of part)) (all_values_with t k u lengths (parts_of (drop (i + 1) all))) and_values
    (tells_then r (values_with t k u lengths (initialiser_of part)) (λ vs. fine (padded (elements_in lengths) vs)) q)))

pub ended : (t : List (List ℕ)) (k : List ℕ) (u : IntType) (lengths : List ℕ) (all : List held.Initialiser) (i : ℕ) (old new : List ℤ) → length all ≤ i → Laid t k u lengths all (drop i all) old new →
    (vs : List ℤ) × (new ≡ old ++ vs) × (all_values_with t k u lengths (parts_of all) ≡ fine vs)
ended t k u lengths all i old new h inv = let w = (at_rest t k u lengths all _ _ old new (drop_all i all h) inv).ok [] refl in (w.0, sym (append-nil new) ∙ w.2, w.1)

-- ---- literals

pub no_literal : (t : List (List ℕ)) (k : List ℕ) (n : ℕ) (u : IntType) (all : List ℤ) → None ≡ slice_get k n → all ≡ all ++ characters u (text_with t k n)
no_literal t k n u all h = sym (append-nil all) ∙ ap (λ o. all ++ characters u (literal_text (with_both t k) o)) h

pub one_literal : (r : Result (Unit {0}) Refusal) (t : List (List ℕ)) (k : List ℕ) (n m : ℕ) (u : IntType) (new all : List ℤ) (text : List ℕ) → Some m ≡ slice_get k n → text ≡ characters_with t m → OnOk r (new ≡ all ++ characters u text) →
    OnOk r (new ≡ all ++ characters u (text_with t k n))
one_literal r t k n m u new all text h g q = subst (λ x. OnOk r (new ≡ all ++ characters u x)) (g ∙ ap (λ o. literal_text (with_both t k) o) h) q

pub whole_values : (t : List (List ℕ)) (k : List ℕ) (s : Scope) (u : IntType) (lengths : List ℕ) (i : program.Initialiser) (new empty vs : List ℤ) → empty ≡ [] → new ≡ empty ++ vs → values_with t k u lengths i ≡ fine vs →
    typed.values (seen t k s) u lengths i ≡ fine new
whole_values t k s u lengths i new empty vs e n h = values_same t k s (file_scope [] []) u lengths i ∙ h ∙ ap fine (sym (n ∙ ap (λ l. l ++ vs) e))
