-- The functions of a program, one after the other.
use Rattle.std.proofs.Common.{◌≡◌, ◌≤◌, ℕ, zero, suc, ◌<◌, ◌+◌, ◌^◌, List, [], ◌∷◌, length, map, get_or, Some, sym, ap, subst, arith, ◌∙◌, inl, inr, Bool, true, false}
use Rattle.std.specs.Prelude.{slice_get, IsTrue, ◌↔◌}
use Rattle.std.proofs.lemmas.Bool.{cases_lt}
use Rattle.std.proofs.lemmas.List.{length-map}
use Rattle.std.proofs.lemmas.Option.{none-some, same_Some}
use Rattle.frames_code.specs.declared.code.Function.{Function as Held}
use Rattle.frames_code.specs.declared.code.FlatProgram.{FlatProgram}
use Rattle.frames_code.specs.Code.{Function, function_of, program_of}
use Rattle.frames_code.specs.Sound.{FunctionFits, IsSoundProgram, places_of}
use Rattle.test_frames_soundness.specs.inside.Parts.{FunctionsFit}

pub got_in_map : {A B : Type 0} (f : A → B) (xs : List A) (i : ℕ) (x : A) → i < length xs → x ≡ get_or xs i x → slice_get (map f xs) i ≡ Some (f x)
got_in_map f [] i x lt e = absurd (omega (arith, lt))
got_in_map f (y ∷ xs) zero x lt e = ap (λ z. Some (f z)) (sym e)
got_in_map f (y ∷ xs) (suc i) x lt e = got_in_map f xs i x (omega (arith, lt)) e

pub one_more : (n : ℕ) (hs : List Held) (k : ℕ) (x : Held) → FunctionsFit n (map function_of hs) k → k < length hs → x ≡ get_or hs k x → FunctionFits n (function_of x) → FunctionsFit n (map function_of hs) (k + 1)
one_more n hs k x before lt e fits = record { each = step }
  where
    step : (j : ℕ) (f : Function) → j < k + 1 → slice_get (map function_of hs) j ≡ Some f → FunctionFits n f
    step j f below got = elim (cases_lt j k) [
      | inl lower ↦ before.each j f lower got
      | inr upper ↦ (
          let same : j ≡ k = omega (arith, below, upper) in
          let there : slice_get (map function_of hs) j ≡ Some (function_of x) = ap (slice_get (map function_of hs)) same ∙ got_in_map function_of hs k x lt e in
          subst (FunctionFits n) (same_Some (function_of x) f (sym there ∙ got)) fits)
    ]

pub sound : (p : FlatProgram) (fs : List Held) → fs ≡ p.functions.items → p.main < length fs → length p.statics.items ≤ 0x10000000 → length fs + places_of (map function_of fs) < 2 ^ 32 → FunctionsFit (length fs) (map function_of fs) (length fs) → IsSoundProgram (program_of p)
sound p fs e main statics countable fit =
    let count : length (map function_of fs) ≡ length fs = length-map fs function_of in
    let all : map function_of fs ≡ map function_of p.functions.items = ap (map function_of) e in
    let here : (k : ℕ) (f : Function) → slice_get (map function_of fs) k ≡ Some f → FunctionFits (length (map function_of fs)) f =
    λ k f got. subst (λ n. FunctionFits n f) (sym count) (fit.each k f (omega (arith, count, inside (map function_of fs) k f got)) got) in
    record {
      has_main = subst (λ xs. p.main < length xs) all (subst (λ n. p.main < n) (sym count) main);
      each = subst (λ xs. (k : ℕ) (f : Function) → slice_get xs k ≡ Some f → FunctionFits (length xs) f) all here;
      statics = statics;
      countable = subst (λ xs. length xs + places_of xs < 2 ^ 32) all (subst (λ n. n + places_of (map function_of fs) < 2 ^ 32) (sym count) countable);
    }
  where
    inside : {A : Type 0} (xs : List A) (k : ℕ) (x : A) → slice_get xs k ≡ Some x → k < length xs
    inside [] k x e = absurd (none-some x e)
    inside (y ∷ ys) zero x e = omega (arith)
    inside (y ∷ ys) (suc k) x e = omega (arith, inside ys k x e)

abbrev IsTruth : Bool → Type 0
IsTruth true = Unit {0}
IsTruth false = ⊥

false-true : false ≡ true → ⊥
false-true e = subst IsTruth (sym e) tt

pub not_all : (n : ℕ) (hs : List Held) (k : ℕ) (x : Held) → k < length hs → x ≡ get_or hs k x → (FunctionFits n (function_of x) → IsTrue false) → IsTrue false ↔ FunctionsFit n (map function_of hs) (length hs)
not_all n hs k x lt e refuted = (λ t. absurd (false-true t), λ fit. refuted (fit.each k (function_of x) lt (got_in_map function_of hs k x lt e)))

pub sound_functions : (p : FlatProgram) (fs : List Held) → fs ≡ p.functions.items → IsSoundProgram (program_of p) → FunctionsFit (length fs) (map function_of fs) (length fs)
sound_functions p fs e s = record { each = λ k f lt got. subst (λ n. FunctionFits n f) (length-map p.functions.items function_of ∙ ap length (sym e)) (s.each k f (ap (λ xs. slice_get (map function_of xs) k) (sym e) ∙ got)) }
