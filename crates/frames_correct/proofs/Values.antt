-- The sources of operands have their values.
use Rattle.std.proofs.Common.{◌≡◌, ◌≢◌, ℕ, ◌^◌, ◌<◌, List, Option, Some, None, refl, ap, ◌∙◌, subst, arith, eqb}
use Rattle.std.specs.Prelude.{slice_get, ℤ, pos, negsuc, option_map}
use Rattle.std.proofs.lemmas.Bool.Decides.{nat_tests}
use Rattle.csem.specs.Store.{Reference, value_at}
use Rattle.tac_code.specs.declared.code.Operand.{Operand}
use Rattle.tac_code.specs.declared.code.Operand.TheVariants as operand
use Rattle.tac_code.specs.Code.{Program, Function, function_at}
use Rattle.tac_code.specs.Run.{State, Value, word, reference, Values, with_at, word_for, word_in, reference_in, value, word_at, own, open_calls}
use Rattle.tac_code.specs.Sound.{OperandFits}
use Rattle.frames_code.specs.Code as flat_code
use Rattle.frames_code.specs.Run as flat
use Rattle.frames.specs.Layout.{layout_of}
use Rattle.frames.specs.Translated.{operand_of}
use Rattle.frames_correct.specs.Matched.{Spot, Matched, Shows, Good, Leads, shown, spots, list_in, offset_in}
use Rattle.frames_correct.proofs.Lists.{same_some, bool_cases}
use Rattle.frames_correct.proofs.Bytes.{set_here, set_elsewhere}

pub word_small : (v : ℤ) → word_for v < 2 ^ 32
word_small (pos n) = omega arith
word_small (negsuc n) = omega arith

pub record Gave {A B : Type 0} (f : A → B) (o : Option A) (y : B) : Type 0 where
  pub from : A
  pub from_is : o ≡ Some from
  pub is : f from ≡ y

pub gave : {A B : Type 0} (f : A → B) (o : Option A) (y : B) → option_map f o ≡ Some y → Gave f o y
gave f None y e = absurd (let z : ⊥ = cc in z)
gave f (Some x) y e = record { from = x; from_is = refl; is = same_some (f x) y e }

pub word_known : (o : Option Value) (w : ℕ) → word_in o ≡ Some w → o ≡ Some (word w)
word_known None w e = absurd (let z : ⊥ = cc in z)
word_known (Some (word u)) w e = ap (λ z. Some (word z)) (same_some u w e)
word_known (Some (reference r)) w e = absurd (let z : ⊥ = cc in z)

pub reference_known : (o : Option Value) (r : Reference) → reference_in o ≡ Some r → o ≡ Some (reference r)
reference_known None r e = absurd (let z : ⊥ = cc in z)
reference_known (Some (word u)) r e = absurd (let z : ⊥ = cc in z)
reference_known (Some (reference u)) r e = ap (λ z. Some (reference z)) (same_some u r e)

-- ---- one more value

pub show_set : (xs : List Spot) (values : Values) (places : flat.Values) (to : ℕ → ℕ) (k : ℕ) (v : Value) → Good xs v → ((i j : ℕ) → i ≢ j → to i ≢ to j)
    → ((j : ℕ) (u : Value) → values j ≡ Some u → Shows xs u (places (to j))) → (j : ℕ) (u : Value) → with_at values k v j ≡ Some u → Shows xs u (flat.with_at places (to k) (shown xs v) (to j))
show_set xs values places to k v good apart all j u e =
    bool_cases (eqb j k)
    (λ t.
    let is : j ≡ k = grind (arith, nat_tests) in
    let now : Some v ≡ Some u = rw t at e in
    let same : v ≡ u = same_some v u now in
    subst (λ x. Shows xs x (flat.with_at places (to k) (shown xs v) (to j))) same
    (good, ap (λ i. flat.with_at places (to k) (shown xs v) (to i)) is ∙ set_here places (to k) (shown xs v)))
    (λ t.
    let ne : j ≢ k = grind (arith, nat_tests) in
    let before : values j ≡ Some u = rw t at e in
    let old = all j u before in
    (old.0, set_elsewhere places (to k) (shown xs v) (to j) (apart j k ne) ∙ old.1))

pub show_off : (xs : List Spot) (places : flat.Values) (to at : ℕ) (u : Value) (w : flat.Value) → at ≢ to → Shows xs u (places at) → Shows xs u (flat.with_at places to w at)
show_off xs places to at u w ne h = (h.0, set_elsewhere places to w at ne ∙ h.1)

-- ---- operands

module _ (q : Program) (f : flat_code.Program) (t : State) (s : flat.State) (m : Matched q f t s) where
  abbrev pub here : List Spot
  here = spots q (open_calls t)

  abbrev pub fn : Function
  fn = function_at q t.call.function

  object_shows : (n : ℕ) (v : Value) → OperandFits fn (operand.Object n) → value t (operand.Object n) ≡ Some v → Shows here v (flat.value s (operand_of (layout_of fn) (operand.Object n)))
  object_shows n v fit e =
      let g = gave (λ z. word (word_for z)) (value_at t.store (own t n)) v e in
      let there = m.frames.0.objects n fit.0 g.from fit.1 g.from_is in
      subst (λ x. Shows here x (flat.value s (operand_of (layout_of fn) (operand.Object n)))) g.is (word_small g.from, there)

  parameter_shows : (n : ℕ) (v : Value) → value t (operand.Parameter n) ≡ Some v → Shows here v (flat.value s (operand_of (layout_of fn) (operand.Parameter n)))
  parameter_shows n v e =
      let g = gave reference (slice_get t.call.arrays n) v e in
      subst (λ x. Shows here x (flat.value s (operand_of (layout_of fn) (operand.Parameter n)))) g.is (m.frames.0.arrays n g.from g.from_is)

  constant_shows : (c : ℕ) (v : Value) → c < 2 ^ 32 → Some (word c) ≡ Some v → Shows here v (flat.value s (operand_of (layout_of fn) (operand.Constant c)))
  constant_shows c v small e = subst (λ x. Shows here x (Some (flat.word c))) (same_some (word c) v e) (small, refl)

  pub operand_shows : (x : Operand) (v : Value) → OperandFits fn x → value t x ≡ Some v → Shows here v (flat.value s (operand_of (layout_of fn) x))
  operand_shows (operand.Temporary k) v fit e = m.temporaries k v e
  operand_shows (operand.Kept k) v fit e = m.frames.0.kept k v e
  operand_shows (operand.Object n) v fit e = object_shows n v fit e
  operand_shows (operand.Parameter n) v fit e = parameter_shows n v e
  operand_shows (operand.Constant c) v fit e = constant_shows c v fit e

  pub record WordThere (x : Operand) (w : ℕ) : Type 0 where
    pub small : w < 2 ^ 32
    pub is : flat.word_at s (operand_of (layout_of fn) x) ≡ Some w

  pub word_shows : (x : Operand) (w : ℕ) → OperandFits fn x → word_at t x ≡ Some w → WordThere x w
  word_shows x w fit e =
      let h = operand_shows x (word w) fit (word_known (value t x) w e) in
      record { small = h.0; is = ap flat.word_in h.1 }

  pub record ReferenceThere (x : Operand) (r : Reference) : Type 0 where
    pub leads : Leads here r
    pub is : flat.reference_in (flat.value s (operand_of (layout_of fn) x)) ≡ Some (record { list = list_in (slice_get here r.object); offset = offset_in (slice_get here r.object) r.path })

  pub reference_shows : (x : Operand) (r : Reference) → OperandFits fn x → reference_in (value t x) ≡ Some r → ReferenceThere x r
  reference_shows x r fit e =
      let h = operand_shows x (reference r) fit (reference_known (value t x) r e) in
      record { leads = h.0; is = ap flat.reference_in h.1 }
