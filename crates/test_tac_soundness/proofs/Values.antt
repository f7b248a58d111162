-- The result of each test, as the definitions have it.
use Rattle.std.proofs.Common.{◌≡◌, ℕ, zero, suc, ◌+◌, min, ◌<◌, ◌≤◌, ◌^◌, Bool, true, false, List, [], ◌∷◌, length, map, get_or, Option, Some, None, inl, inr, refl, sym, ap, subst, arith, ◌∙◌}
use Rattle.std.specs.Prelude.{slice_get, IsTrue, ◌↔◌, nat_lt}
use Rattle.std.proofs.lemmas.Bool.{cases_lt, ltb-true, lt-ltb}
use Rattle.std.proofs.lemmas.List.{length-map}
use Rattle.std.proofs.lemmas.Option.{none-some}
use Rattle.ctypes.specs.declared.types.IntType.{IntType}
use Rattle.typing_spec.specs.Types.{ObjectType, elements_in}
use Rattle.typing_spec.specs.Program.{Static}
use Rattle.tac_code.specs.declared.code.Function.{Function as HeldFunction}
use Rattle.tac_code.specs.declared.code.Instruction.{Instruction}
use Rattle.tac_code.specs.declared.code.TacProgram.{TacProgram}
use Rattle.tac_code.specs.Code.{Function, Program, function_of, program_of, function_at, scalar_type, type_if_scalar}
use Rattle.tac_code.specs.Sound.{IsScalar, HasElement, IsDefined, InstructionFits, AreBytes, IsSoundProgram, data_bytes}
use Rattle.frames.specs.Sizes.{literal_bytes, statics_bytes}
use Rattle.frames.proofs.Whole.{data_bytes_are}
use Rattle.test_tac_soundness.proofs.Lists.{false-true, got_in, one_more_here}
use Rattle.test_tac_soundness.specs.inside.Parts.{element_in, IsElement, defined_in, AreScalars, CodeFits, BytesFit, LiteralsFit, ValuesFit, FunctionsFit, places_of}

-- ---- names

same_element : (o : Option ObjectType) (t : IntType) → scalar_type o ≡ Some t → scalar_type o ≡ Some (element_in o)
same_element None t e = absurd (none-some t e)
same_element (Some o) t e = of_lengths o.lengths e
  where
    of_lengths : (ns : List ℕ) → type_if_scalar ns o.element ≡ Some t → type_if_scalar ns o.element ≡ Some o.element
    of_lengths [] e = refl
    of_lengths (n ∷ ns) e = absurd (none-some t e)

pub scalar : (b : Bool) (f : Function) (n : ℕ) → (IsTrue b ↔ (scalar_type (slice_get f.objects n) ≡ Some (element_in (slice_get f.objects n)))) → IsTrue b ↔ IsScalar f n
scalar b f n h = (λ t. (element_in (slice_get f.objects n), h.0 t), λ s. h.1 (same_element (slice_get f.objects n) s.0 s.1))

defined_there : (o : Option Static) → defined_in o ≡ true → (x : Static) × (o ≡ Some x) × (x.defined ≡ true)
defined_there None e = absurd (let z : ⊥ = cc in z)
defined_there (Some x) e = (x, refl, e)

pub defined : (b : Bool) (p : Program) (n : ℕ) → b ≡ defined_in (slice_get p.statics n) → IsTrue b ↔ IsDefined p n
defined b p n e = (λ t. defined_there (slice_get p.statics n) (sym e ∙ t), λ d. e ∙ ap defined_in d.1 ∙ d.2)

element_there : (o : Option ObjectType) (i : ℕ) (t : IntType) → IsElement o i t
    → (x : ObjectType) × (o ≡ Some x) × (scalar_type (Some x) ≡ None) × (i < elements_in x.lengths) × (t ≡ x.element)
element_there None i t e = absurd e
element_there (Some x) i t e = (x, refl, e.0, e.1, e.2)

pub element : (b : Bool) (f : Function) (n i : ℕ) (t : IntType) → (IsTrue b ↔ IsElement (slice_get f.objects n) i t) → IsTrue b ↔ HasElement f n i t
element b f n i t h = (λ yes. element_there (slice_get f.objects n) i t (h.0 yes), λ e. h.1 (subst (λ o. IsElement o i t) (sym e.1) (e.2, e.3, e.4)))

pub one_more_scalar : (f : Function) (n : ℕ) → AreScalars f n → IsScalar f n → AreScalars f (n + 1)
one_more_scalar f n before here = record { each = step }
  where
    step : (k : ℕ) → k < n + 1 → IsScalar f k
    step k lt = elim (cases_lt k n) [
      | inl lower ↦ before.each k lower
      | inr upper ↦ subst (IsScalar f) (let same : n ≡ k = omega (arith, lt, upper) in same) here
    ]

pub one_more_fits : (p : Program) (f : Function) (code : List Instruction) (i : ℕ) (d : Instruction) → code ≡ f.code → CodeFits p f i → i < length code → InstructionFits p f (get_or code i d) → CodeFits p f (i + 1)
one_more_fits p f code i d e before lt fits = record {
  each = λ k x below got. one_more_here (InstructionFits p f) code i d (λ j y less there. before.each j y less (ap (λ xs. slice_get xs j) (sym e) ∙ there)) lt fits k x below (ap (λ xs. slice_get xs k) e ∙ got);
}

pub not_all_fit : (p : Program) (f : Function) (code : List Instruction) (i : ℕ) (d : Instruction) → code ≡ f.code → i < length code → (InstructionFits p f (get_or code i d) → IsTrue false) → IsTrue false ↔ CodeFits p f (length f.code)
not_all_fit p f code i d e lt refuted = (λ t. absurd (false-true t), λ all. refuted (all.each i (get_or code i d) (omega (arith, lt, ap length e)) (ap (λ xs. slice_get xs i) (sym e) ∙ got_in code i d lt)))

-- ---- literals and statics

pub below : {A : Type 0} (xs : List A) (n : ℕ) (x : A) → slice_get xs n ≡ Some x → n < length xs
below [] n x e = absurd (let z : ⊥ = cc in z)
below (z ∷ xs) zero x e = omega arith
below (z ∷ xs) (suc n) x e = omega (arith, below xs n x e)

pub all_bytes : (text : List ℕ) → BytesFit text (length text) → AreBytes text
all_bytes text fit k c e = fit.each k c (below text k c e) e

pub fit_bytes : (text : List ℕ) → AreBytes text → BytesFit text (length text)
fit_bytes text each = record { each = λ k c lt e. each k c e }

pub small_data : (ls : List (List ℕ)) (os : List Static) (a b : ℕ) → a ≡ min (literal_bytes ls) 16777217 → b ≡ min (statics_bytes os) 16777217 → IsTrue (nat_lt (a + b) 16777217) ↔ (data_bytes ls os ≤ 16777216)
small_data ls os a b e g =
    (λ t. omega (arith, e, g, ltb-true (a + b) 16777217 t, data_bytes_are ls os), λ le. (let lt : a + b < 16777217 = omega (arith, e, g, le, data_bytes_are ls os) in lt-ltb (a + b) 16777217 lt))

-- ---- programs

none : {A : Type 0} (xs : List A) → length xs ≡ 0 → xs ≡ []
none [] e = refl
none (x ∷ xs) e = absurd (omega (arith, e))

pub sound : (p : TacProgram) (fs : List HeldFunction) (ls : List (List ℕ)) (os : List Static) → fs ≡ p.functions.items → ls ≡ (program_of p).literals → os ≡ (program_of p).statics
    → (p.main < length (program_of p).functions) × (length (function_at (program_of p) p.main).parameters ≡ 0)
    → LiteralsFit ls (length ls) → ValuesFit os (length os) → data_bytes (program_of p).literals (program_of p).statics ≤ 2 ^ 24
    → length fs + places_of (map function_of fs) < 2 ^ 32 → FunctionsFit (program_of p) (map function_of fs) (length fs) → IsSoundProgram (program_of p)
sound p fs ls os ef el eo main bytes values small countable fit = record {
  has_main = main.0;
  main_takes_nothing = none (function_at (program_of p) p.main).parameters main.1;
  each = λ k f got.
      let there : slice_get (map function_of fs) k ≡ Some f = ap (λ xs. slice_get (map function_of xs) k) ef ∙ got in
      fit.each k f (omega (arith, length-map fs function_of, below (map function_of fs) k f there)) there;
  literals = λ n text got.
      let there : slice_get ls n ≡ Some text = ap (λ xs. slice_get xs n) el ∙ got in
      bytes.each n text (below ls n text there) there;
  statics = λ n o got.
      let there : slice_get os n ≡ Some o = ap (λ xs. slice_get xs n) eo ∙ got in
      values.each n o (below os n o there) there;
  small = small;
  countable = subst (λ xs. length (map function_of xs) + places_of (map function_of xs) < 2 ^ 32) ef (subst (λ n. n + places_of (map function_of fs) < 2 ^ 32) (sym (length-map fs function_of)) countable);
}

-- and the other way round

pub parts : (p : TacProgram) (fs : List HeldFunction) → fs ≡ p.functions.items → IsSoundProgram (program_of p) → FunctionsFit (program_of p) (map function_of fs) (length fs)
parts p fs e s = record { each = λ k f lt got. s.each k f (ap (λ xs. slice_get (map function_of xs) k) (sym e) ∙ got) }
