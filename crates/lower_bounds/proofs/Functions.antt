-- The code of a function keeps within its nodes' room, and is fine.
use Rattle.std.proofs.Common.{◌≡◌, ℕ, zero, suc, ◌+◌, ◌*◌, ◌<◌, ◌≤◌, ◌^◌, max, List, [], ◌∷◌, length, map, Some, Bool, true, false, refl, sym, ap, ◌∙◌, subst, arith}
use Rattle.std.specs.Prelude.{slice_get}
use Rattle.std.proofs.Math.Nat.{max-le, le-max_left, le-max_right}
use Rattle.typing_spec.specs.Nodes.{statement_nodes}
use Rattle.typing_spec.specs.WellTyped.{statement_is_typed}
use Rattle.tac_code.specs.Spans.{widest}
use Rattle.tac_code.specs.declared.code.Operand.{Operand}
use Rattle.tac_code.specs.declared.code.Operand.TheVariants as operand
use Rattle.tac_code.specs.declared.code.Target.{Target}
use Rattle.tac_code.specs.declared.code.Target.TheVariants as target
use Rattle.tac_code.specs.declared.code.Place.{Place as Spot}
use Rattle.tac_code.specs.declared.code.Place.TheVariants as place
use Rattle.tac_code.specs.declared.code.Instruction.{Instruction}
use Rattle.tac_code.specs.declared.code.Instruction.TheVariants as instruction
use Rattle.tac_code.specs.Code.{Function, function_at, scalar_type}
use Rattle.tac_code.specs.Costs.{array_parameters}
use Rattle.tac_code.specs.Designated.{in_statement}
use Rattle.tac_code.specs.Lowered.{kind_of}
use Rattle.tac_code.specs.Sound.{IsScalar, OperandFits, TargetFits, PlaceFits, InstructionFits}
use Rattle.lower_wf.specs.Asked.{types_are_sized}
use Rattle.lower_correct.specs.Code.{One}
use Rattle.lower_correct.specs.Bodies.{Idles, Closes, Stands, temporary_in, kept_in, temporary_at, kept_at, temporary_to, kept_to, temporaries_of, slots_of, most}
use Rattle.lower_bounds.proofs.Grounds.{Ground, IsNumber, OperandFine, TargetFine, SpotFine, Fine}
use Rattle.lower_bounds.proofs.Stretches.{Within, one, one_in, none, join, settle, aimed}
use Rattle.lower_bounds.proofs.Statements.{stands_within}

idle_room : (n : ℕ) → 128 * (1 + n) + 124 * suc n ≤ 128 * suc n + (124 + 124 * n)
idle_room n = omega arith

less_room : (n d : ℕ) → 128 * n + 0 ≤ 128 * n + d
less_room n d = omega arith

zero_small : 0 < 2 ^ 32
zero_small = omega arith

same_le : (n : ℕ) → n ≤ n
same_le n = omega arith

past : (t b : ℕ) → t < b → suc t ≤ b
past t b h = omega (arith, h)

before_it : (t b : ℕ) → suc t ≤ b → t < b
before_it t b h = omega (arith, h)

le_trans : (a b c : ℕ) → a ≤ b → b ≤ c → a ≤ c
le_trans a b c x y = omega (arith, x, y)

to_inside : (a b c : ℕ) → a ≤ b → b < c → a < c
to_inside a b c x y = omega (arith, x, y)

left_max : (a b c : ℕ) → max a b ≤ c → a ≤ c
left_max a b c h = le_trans a (max a b) c (le-max_left a b) h

right_max : (a b c : ℕ) → max a b ≤ c → b ≤ c
right_max a b c h = le_trans b (max a b) c (le-max_right a b) h

nothing_below : (b : ℕ) → 0 ≤ b
nothing_below b = omega arith

one_below : (b : ℕ) → 1 ≤ b → 0 < b
one_below b h = omega (arith, h)

-- ---- the most that code names

pub most_le : (size : Instruction → ℕ) (code : List Instruction) (b : ℕ) → ((j : ℕ) (x : Instruction) → slice_get code j ≡ Some x → size x ≤ b) → most size code ≤ b
most_le size [] b each = nothing_below b
most_le size (i ∷ code) b each = max-le (each zero i refl) (most_le size code b (λ j x e. each (suc j) x e))

pub in_most : (size : Instruction → ℕ) (code : List Instruction) (j : ℕ) (x : Instruction) → slice_get code j ≡ Some x → size x ≤ most size code
in_most size [] j x e = absurd (let no_such : ⊥ = cc in no_such)
in_most size (i ∷ code) zero x e = let same : i ≡ x = cc in subst (λ y. size y ≤ max (size i) (most size code)) same (le-max_left (size i) (most size code))
in_most size (i ∷ code) (suc j) x e = le_trans (size x) (most size code) (max (size i) (most size code)) (in_most size code j x e) (le-max_right (size i) (most size code))

module _ (z : Ground) where
  -- ---- its code as a whole

  idles_within : {A : Type 0} (n pc pc2 : ℕ) → Idles z.code n pc pc2 → Within z A n (124 * n) pc pc2
  idles_within zero pc pc2 i = none z pc pc2 i
  idles_within (suc n) pc pc2 i = settle z (suc n) (124 * suc n) (idle_room n) (join z (one z _ 124 pc i.0 i.1 (omega arith) (λ a. tt)) (idles_within n i.0 pc2 i.2))

  closes_within : {A : Type 0} (is_main : Bool) (pc pc2 : ℕ) → 0 < z.bound → Closes z.code is_main pc pc2 → Within z A 1 104 pc pc2
  closes_within true pc pc2 b i = one z _ 104 pc pc2 i (omega arith) (λ a. (b, zero_small))
  closes_within false pc pc2 b i = one z _ 104 pc pc2 i (omega arith) (λ a. nothing_below (length z.function.objects))

  pub all_within : (n start end back size lo : ℕ) (is_main : Bool) → back ≤ z.limit
      → statement_is_typed z.source z.function lo (length z.function.objects) z.function.body ≡ true → in_statement z.source z.function.body ≡ true
      → widest z.function.body + 1 ≤ z.slots → 0 < z.bound → Idles z.code n 0 start → Stands z.code z.source z.function z.function.body end end back start end
      → Closes z.code is_main end back → One z.code instruction.Return back size
      → Within z (Unit {0}) (n + (statement_nodes z.function.body + (1 + 2))) (124 * n + (0 + (104 + 84))) 0 size
  all_within n start end back size lo is_main e h d w b idles body closes leaves =
      let nodes = statement_nodes z.function.body in
      let close = closes_within is_main end back b closes in
      let at_end : end ≤ z.limit = le_trans end back z.limit close.forward e in
      let stands = stands_within z z.function.body end end back lo (length z.function.objects) start end h d (same_le (length z.function.objects)) w body in
      join z (idles_within n 0 start idles) (join z (settle z nodes 0 (less_room nodes _) (aimed z (λ a. (at_end, at_end, at_end, e)) stands)) (join z close (one_in z 2 _ 84 back size leaves (omega arith) (λ a. tt))))

  -- ---- the names in it are within bounds

  pub temporary_in_le : (o : Operand) → OperandFine z o → temporary_in o ≤ z.bound
  temporary_in_le (operand.Temporary j) f = past j z.bound f
  temporary_in_le (operand.Kept j) f = nothing_below z.bound
  temporary_in_le (operand.Object j) f = nothing_below z.bound
  temporary_in_le (operand.Parameter j) f = nothing_below z.bound
  temporary_in_le (operand.Constant j) f = nothing_below z.bound

  kept_in_le : (o : Operand) → OperandFine z o → kept_in o ≤ z.slots
  kept_in_le (operand.Temporary j) f = nothing_below z.slots
  kept_in_le (operand.Kept j) f = past j z.slots f
  kept_in_le (operand.Object j) f = nothing_below z.slots
  kept_in_le (operand.Parameter j) f = nothing_below z.slots
  kept_in_le (operand.Constant j) f = nothing_below z.slots

  temporary_to_le : (g : Target) → TargetFine z g → temporary_to g ≤ z.bound
  temporary_to_le (target.Temporary j) f = past j z.bound f
  temporary_to_le (target.Kept j) f = nothing_below z.bound
  temporary_to_le (target.Object j) f = nothing_below z.bound

  kept_to_le : (g : Target) → TargetFine z g → kept_to g ≤ z.slots
  kept_to_le (target.Temporary j) f = nothing_below z.slots
  kept_to_le (target.Kept j) f = past j z.slots f
  kept_to_le (target.Object j) f = nothing_below z.slots

  temporary_at_le : (a : Spot) → SpotFine z a → temporary_at a ≤ z.bound
  temporary_at_le (place.Literal n) f = nothing_below z.bound
  temporary_at_le (place.Static n) f = nothing_below z.bound
  temporary_at_le (place.Array n) f = nothing_below z.bound
  temporary_at_le (place.Element n i t) f = nothing_below z.bound
  temporary_at_le (place.At o) f = temporary_in_le o f

  kept_at_le : (a : Spot) → SpotFine z a → kept_at a ≤ z.slots
  kept_at_le (place.Literal n) f = nothing_below z.slots
  kept_at_le (place.Static n) f = nothing_below z.slots
  kept_at_le (place.Array n) f = nothing_below z.slots
  kept_at_le (place.Element n i t) f = nothing_below z.slots
  kept_at_le (place.At o) f = kept_in_le o f

  pub temporaries_le : (x : Instruction) → 1 ≤ z.bound → Fine z x → temporaries_of z.made x ≤ z.bound
  temporaries_le instruction.Nothing b f = nothing_below z.bound
  temporaries_le (instruction.Move g x) b f = max-le (temporary_to_le g f.0) (temporary_in_le x f.1)
  temporaries_le (instruction.Compute o r g x y) b f = max-le (temporary_to_le g f.0) (max-le (temporary_in_le x f.1) (temporary_in_le y f.2))
  temporaries_le (instruction.Convert t g x) b f = max-le (temporary_to_le g f.0) (temporary_in_le x f.1)
  temporaries_le (instruction.Load t g l) b f = max-le (temporary_to_le g f.0) (temporary_at_le l f.1)
  temporaries_le (instruction.Store t x l) b f = max-le (temporary_in_le x f.0) (temporary_at_le l f.1)
  temporaries_le (instruction.Address g l) b f = max-le (temporary_to_le g f.0) (temporary_at_le l f.1)
  temporaries_le (instruction.Part g x y size) b f = max-le (temporary_to_le g f.0) (max-le (temporary_in_le x f.1) (temporary_in_le y f.2))
  temporaries_le (instruction.Element t g x y) b f = max-le (temporary_to_le g f.0) (max-le (temporary_in_le x f.1) (temporary_in_le y f.2))
  temporaries_le (instruction.Forget n k) b f = nothing_below z.bound
  temporaries_le (instruction.Jump to) b f = nothing_below z.bound
  temporaries_le (instruction.Branch c r x y to) b f = max-le (temporary_in_le x f.0) (temporary_in_le y f.1)
  temporaries_le (instruction.Call g) b f = max-le b f.1
  temporaries_le instruction.PutByte b f = b
  temporaries_le instruction.GetByte b f = b
  temporaries_le instruction.Exit b f = b
  temporaries_le instruction.Return b f = b

  pub slots_le : (x : Instruction) → Fine z x → slots_of x ≤ z.slots
  slots_le instruction.Nothing f = nothing_below z.slots
  slots_le (instruction.Move g x) f = max-le (kept_to_le g f.0) (kept_in_le x f.1)
  slots_le (instruction.Compute o r g x y) f = max-le (kept_to_le g f.0) (max-le (kept_in_le x f.1) (kept_in_le y f.2))
  slots_le (instruction.Convert t g x) f = max-le (kept_to_le g f.0) (kept_in_le x f.1)
  slots_le (instruction.Load t g l) f = max-le (kept_to_le g f.0) (kept_at_le l f.1)
  slots_le (instruction.Store t x l) f = max-le (kept_in_le x f.0) (kept_at_le l f.1)
  slots_le (instruction.Address g l) f = max-le (kept_to_le g f.0) (kept_at_le l f.1)
  slots_le (instruction.Part g x y size) f = max-le (kept_to_le g f.0) (max-le (kept_in_le x f.1) (kept_in_le y f.2))
  slots_le (instruction.Element t g x y) f = max-le (kept_to_le g f.0) (max-le (kept_in_le x f.1) (kept_in_le y f.2))
  slots_le (instruction.Forget n k) f = nothing_below z.slots
  slots_le (instruction.Jump to) f = nothing_below z.slots
  slots_le (instruction.Branch c r x y to) f = max-le (kept_in_le x f.0) (kept_in_le y f.1)
  slots_le (instruction.Call g) f = nothing_below z.slots
  slots_le instruction.PutByte f = nothing_below z.slots
  slots_le instruction.GetByte f = nothing_below z.slots
  slots_le instruction.Exit f = nothing_below z.slots
  slots_le instruction.Return f = nothing_below z.slots

  -- ---- and is there

  module _ (g : Function) (same : g.objects ≡ z.function.objects) (passed : g.parameters ≡ map kind_of z.function.type.parameters)
      (literals : z.made.literals ≡ z.source.literals) (statics : z.made.statics ≡ z.source.statics) (sized : types_are_sized z.source ≡ true)
      (inside : z.limit < length g.code) where
    scalar : (n : ℕ) → IsNumber z n → IsScalar g n
    scalar n f = (f.0, ap (λ l. scalar_type (slice_get l n)) same ∙ f.1)

    operand_fits : (o : Operand) → OperandFine z o → temporary_in o ≤ g.temporaries → kept_in o ≤ g.kept → OperandFits g o
    operand_fits (operand.Temporary j) f t k = before_it j g.temporaries t
    operand_fits (operand.Kept j) f t k = before_it j g.kept k
    operand_fits (operand.Object n) f t k = scalar n f
    operand_fits (operand.Parameter n) f t k = subst (λ ps. n < array_parameters ps) (sym passed) f
    operand_fits (operand.Constant v) f t k = f

    target_fits : (d : Target) → TargetFine z d → temporary_to d ≤ g.temporaries → kept_to d ≤ g.kept → TargetFits g d
    target_fits (target.Temporary j) f t k = before_it j g.temporaries t
    target_fits (target.Kept j) f t k = before_it j g.kept k
    target_fits (target.Object n) f t k = scalar n f

    place_fits : (a : Spot) → SpotFine z a → temporary_at a ≤ g.temporaries → kept_at a ≤ g.kept → PlaceFits z.made g a
    place_fits (place.Literal n) f t k = subst (λ l. n < length l) (sym literals) f
    place_fits (place.Static n) f t k = (f.0, ap (λ l. slice_get l n) statics ∙ f.1, f.2)
    place_fits (place.Array n) f t k = (subst (λ l. n < length l) (sym same) f.0, ap (λ l. scalar_type (slice_get l n)) same ∙ f.1)
    place_fits (place.Element n i u) f t k = (f.0, ap (λ l. slice_get l n) same ∙ f.1, f.2, f.3, f.4)
    place_fits (place.At o) f t k = operand_fits o f t k

    pub fits : (x : Instruction) → Fine z x → temporaries_of z.made x ≤ g.temporaries → slots_of x ≤ g.kept → InstructionFits z.made g x
    fits instruction.Nothing f t k = tt
    fits (instruction.Move d x) f t k = (
      target_fits d f.0 (left_max (temporary_to d) (temporary_in x) g.temporaries t) (left_max (kept_to d) (kept_in x) g.kept k),
      operand_fits x f.1 (right_max (temporary_to d) (temporary_in x) g.temporaries t) (right_max (kept_to d) (kept_in x) g.kept k),
    )
    fits (instruction.Compute o r d x y) f t k =
        let t2 = right_max (temporary_to d) (max (temporary_in x) (temporary_in y)) g.temporaries t in
        let k2 = right_max (kept_to d) (max (kept_in x) (kept_in y)) g.kept k in (
          target_fits d f.0 (left_max (temporary_to d) (max (temporary_in x) (temporary_in y)) g.temporaries t) (left_max (kept_to d) (max (kept_in x) (kept_in y)) g.kept k),
          operand_fits x f.1 (left_max (temporary_in x) (temporary_in y) g.temporaries t2) (left_max (kept_in x) (kept_in y) g.kept k2),
          operand_fits y f.2 (right_max (temporary_in x) (temporary_in y) g.temporaries t2) (right_max (kept_in x) (kept_in y) g.kept k2),
        )
    fits (instruction.Convert u d x) f t k = (
      target_fits d f.0 (left_max (temporary_to d) (temporary_in x) g.temporaries t) (left_max (kept_to d) (kept_in x) g.kept k),
      operand_fits x f.1 (right_max (temporary_to d) (temporary_in x) g.temporaries t) (right_max (kept_to d) (kept_in x) g.kept k),
    )
    fits (instruction.Load u d l) f t k = (
      target_fits d f.0 (left_max (temporary_to d) (temporary_at l) g.temporaries t) (left_max (kept_to d) (kept_at l) g.kept k),
      place_fits l f.1 (right_max (temporary_to d) (temporary_at l) g.temporaries t) (right_max (kept_to d) (kept_at l) g.kept k),
    )
    fits (instruction.Store u x l) f t k = (
      operand_fits x f.0 (left_max (temporary_in x) (temporary_at l) g.temporaries t) (left_max (kept_in x) (kept_at l) g.kept k),
      place_fits l f.1 (right_max (temporary_in x) (temporary_at l) g.temporaries t) (right_max (kept_in x) (kept_at l) g.kept k),
    )
    fits (instruction.Address d l) f t k = (
      target_fits d f.0 (left_max (temporary_to d) (temporary_at l) g.temporaries t) (left_max (kept_to d) (kept_at l) g.kept k),
      place_fits l f.1 (right_max (temporary_to d) (temporary_at l) g.temporaries t) (right_max (kept_to d) (kept_at l) g.kept k),
    )
    fits (instruction.Part d x y size) f t k =
        let t2 = right_max (temporary_to d) (max (temporary_in x) (temporary_in y)) g.temporaries t in
        let k2 = right_max (kept_to d) (max (kept_in x) (kept_in y)) g.kept k in (
          target_fits d f.0 (left_max (temporary_to d) (max (temporary_in x) (temporary_in y)) g.temporaries t) (left_max (kept_to d) (max (kept_in x) (kept_in y)) g.kept k),
          operand_fits x f.1 (left_max (temporary_in x) (temporary_in y) g.temporaries t2) (left_max (kept_in x) (kept_in y) g.kept k2),
          operand_fits y f.2 (right_max (temporary_in x) (temporary_in y) g.temporaries t2) (right_max (kept_in x) (kept_in y) g.kept k2),
          f.3 sized,
        )
    fits (instruction.Element u d x y) f t k =
        let t2 = right_max (temporary_to d) (max (temporary_in x) (temporary_in y)) g.temporaries t in
        let k2 = right_max (kept_to d) (max (kept_in x) (kept_in y)) g.kept k in (
          target_fits d f.0 (left_max (temporary_to d) (max (temporary_in x) (temporary_in y)) g.temporaries t)
              (left_max (kept_to d) (max (kept_in x) (kept_in y)) g.kept k),
          operand_fits x f.1 (left_max (temporary_in x) (temporary_in y) g.temporaries t2) (left_max (kept_in x) (kept_in y) g.kept k2),
          operand_fits y f.2 (right_max (temporary_in x) (temporary_in y) g.temporaries t2) (right_max (kept_in x) (kept_in y) g.kept k2),
        )
    fits (instruction.Forget n c) f t k = subst (λ l. n + c ≤ length l) (sym same) f
    fits (instruction.Jump to) f t k = to_inside to z.limit (length g.code) f inside
    fits (instruction.Branch c r x y to) f t k = (
      operand_fits x f.0 (left_max (temporary_in x) (temporary_in y) g.temporaries t) (left_max (kept_in x) (kept_in y) g.kept k),
      operand_fits y f.1 (right_max (temporary_in x) (temporary_in y) g.temporaries t) (right_max (kept_in x) (kept_in y) g.kept k),
      to_inside to z.limit (length g.code) f.2 inside,
    )
    fits (instruction.Call n) f t k =
        (f.0, right_max 1 (length (function_at z.made n).parameters) g.temporaries t, one_below g.temporaries (left_max 1 (length (function_at z.made n).parameters) g.temporaries t))
    fits instruction.PutByte f t k = one_below g.temporaries t
    fits instruction.GetByte f t k = one_below g.temporaries t
    fits instruction.Exit f t k = one_below g.temporaries t
    fits instruction.Return f t k = one_below g.temporaries t
