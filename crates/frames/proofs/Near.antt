-- The numbers in a sound function are small enough for sums.
use Rattle.std.proofs.Common.{◌≡◌, ℕ, ◌+◌, ◌-◌, ◌*◌, ◌/◌, ◌^◌, ◌<◌, ◌≤◌, length, Some, arith}
use Rattle.std.specs.Prelude.{slice_get}
use Rattle.typing_spec.specs.Units.{bytes_of_objects}
use Rattle.tac_code.specs.declared.code.Operand.{Operand}
use Rattle.tac_code.specs.declared.code.Operand.TheVariants as operand
use Rattle.tac_code.specs.declared.code.Target.{Target}
use Rattle.tac_code.specs.declared.code.Target.TheVariants as target
use Rattle.tac_code.specs.declared.code.Place.{Place}
use Rattle.tac_code.specs.declared.code.Place.TheVariants as place
use Rattle.tac_code.specs.declared.code.Instruction.{Instruction}
use Rattle.tac_code.specs.declared.code.Instruction.TheVariants as instruction
use Rattle.tac_code.specs.Code.{Function, Program}
use Rattle.tac_code.specs.Costs.{array_parameters}
use Rattle.tac_code.specs.Sound as tac_sound
use Rattle.frames.specs.Layout.{layout_of, words_in, bytes_in}
use Rattle.frames.specs.inside.Held.{OperandIsNear, TargetIsNear, PlaceIsNear, InstructionIsNear}
use Rattle.frames.proofs.Elements.{one_of_sum}
use Rattle.frames.proofs.Places.{of_objects}
use Rattle.frames.proofs.Sound as sound

rounded_up : (n : ℕ) → n ≤ (n + 15) / 16 * 16
rounded_up n = omega arith

in_call : (t r k b : ℕ) → (4 * t + (8 + (4 * k + (4 * r + b))) + 15) / 16 * 16 ≤ 2 ^ 24 → (4 * k ≤ 2 ^ 24) × (4 * r ≤ 2 ^ 24) × (b ≤ 2 ^ 24)
in_call t r k b h = let all = rounded_up (4 * t + (8 + (4 * k + (4 * r + b)))) in (omega (arith, all, h), omega (arith, all, h), omega (arith, all, h))

module _ (p : Program) (f : Function) (fits : tac_sound.FunctionFits p f) where
  parts : (4 * f.kept ≤ 2 ^ 24) × (4 * array_parameters f.parameters ≤ 2 ^ 24) × (bytes_of_objects f.objects ≤ 2 ^ 24)
  parts = in_call (f.temporaries - 8) (array_parameters f.parameters) f.kept (bytes_of_objects f.objects) fits.small

  pub few_bytes : words_in f.objects + bytes_in f.objects < 2 ^ 32
  few_bytes = omega (arith, parts.2, of_objects f.objects)

  pub few_kept : f.kept < 2 ^ 32
  few_kept = omega (arith, parts.0)

  pub few_parameters : length f.parameters < 2 ^ 32
  few_parameters = omega (arith, sound.few_parameters p f fits)

  operand_near : (x : Operand) → tac_sound.OperandFits f x → OperandIsNear x
  operand_near (operand.Temporary k) h = tt
  operand_near (operand.Kept k) h = omega (arith, h, parts.0)
  operand_near (operand.Object n) h = tt
  operand_near (operand.Parameter n) h = omega (arith, h, parts.1)
  operand_near (operand.Constant v) h = tt

  target_near : (d : Target) → tac_sound.TargetFits f d → TargetIsNear d
  target_near (target.Temporary k) h = tt
  target_near (target.Kept k) h = omega (arith, h, parts.0)
  target_near (target.Object n) h = tt

  place_near : (at : Place) → tac_sound.PlaceFits p f at → PlaceIsNear (layout_of f) at
  place_near (place.Literal n) h = tt
  place_near (place.Static n) h = tt
  place_near (place.Array n) h = tt
  place_near (place.Element n i t) h = omega (arith, parts.2, of_objects f.objects, sound.element_fits f n i t h)
  place_near (place.At x) h = operand_near x h

  module _ (short : length f.code < 2 ^ 32) where
    instruction_near : (x : Instruction) → tac_sound.InstructionFits p f x → InstructionIsNear (layout_of f) x
    instruction_near instruction.Nothing h = tt
    instruction_near (instruction.Move d x) h = (target_near d h.0, operand_near x h.1)
    instruction_near (instruction.Compute o r d x y) h = (target_near d h.0, operand_near x h.1, operand_near y h.2)
    instruction_near (instruction.Convert t d x) h = (target_near d h.0, operand_near x h.1)
    instruction_near (instruction.Load t d at) h = (target_near d h.0, place_near at h.1)
    instruction_near (instruction.Store t x at) h = (operand_near x h.0, place_near at h.1)
    instruction_near (instruction.Address d at) h = (target_near d h.0, place_near at h.1)
    instruction_near (instruction.Part d x y size) h = (target_near d h.0, operand_near x h.1, operand_near y h.2)
    instruction_near (instruction.Element t d x y) h = (target_near d h.0, operand_near x h.1, operand_near y h.2)
    instruction_near (instruction.Forget n k) h = tt
    instruction_near (instruction.Jump to) h = omega (arith, h, short)
    instruction_near (instruction.Branch c r x y to) h = (operand_near x h.0, operand_near y h.1, omega (arith, h.2, short))
    instruction_near (instruction.Call k) h = tt
    instruction_near instruction.PutByte h = tt
    instruction_near instruction.GetByte h = tt
    instruction_near instruction.Exit h = tt
    instruction_near instruction.Return h = tt

    pub is_near : (k : ℕ) (x : Instruction) → slice_get f.code k ≡ Some x → InstructionIsNear (layout_of f) x
    is_near k x e = instruction_near x (fits.each k x e)

pub short_code : (p : Program) → tac_sound.IsSoundProgram p → (k : ℕ) (f : Function) → slice_get p.functions k ≡ Some f → length f.code < 2 ^ 32
short_code p sound k f e = omega (arith, sound.countable, one_of_sum (λ (g : Function). length g.code + (length g.parameters + 1)) p.functions k f e)
