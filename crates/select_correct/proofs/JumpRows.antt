-- A program that meets the premises of the law: one that jumps backwards and forwards.
use Rattle.std.proofs.Common.{◌≡◌, true, ℕ, zero, suc, ◌≤◌, [], ◌∷◌, Some, refl, subst, arith}
use Rattle.std.specs.Prelude.{slice_get}
use Rattle.std.proofs.lemmas.Option.{none-some, same_Some}
use Rattle.rv32.specs.declared.instr.Test.TheVariants as test
use Rattle.asm.specs.Layout.{AllReach}
use Rattle.frames_code.specs.declared.code.Operand.TheVariants as operand
use Rattle.frames_code.specs.declared.code.Instruction.{Instruction}
use Rattle.frames_code.specs.declared.code.Instruction.TheVariants as instruction
use Rattle.frames_code.specs.Code.{Function, Program}
use Rattle.frames_code.specs.Sound.{InstructionFits, FunctionFits, IsSoundProgram}
use Rattle.select.specs.Program.{program_items}
use Rattle.select_correct.specs.Reaching.{IsShortProgram, rows_of}
use Rattle.select_correct.proofs.Reaching.{jumps_reach}

-- for (; a0 != 7;) {} return a0;
abbrev waits : Function
waits = record { code = instruction.Branch test.Equal (operand.Temporary 0) (operand.Constant 7) 2 ∷ instruction.Jump 0 ∷ instruction.Return ∷ []; cells = 0; resident = 0; area = 0; outgoing = 0; gives = true }

abbrev whole : Program
whole = record { functions = waits ∷ []; statics = []; main = 0 }

waits_fits : (k : ℕ) (x : Instruction) → slice_get waits.code k ≡ Some x → InstructionFits 1 waits x
waits_fits zero x e = subst (InstructionFits 1 waits) (same_Some (instruction.Branch test.Equal (operand.Temporary 0) (operand.Constant 7) 2) x e) (omega arith, omega arith, omega arith)
waits_fits (suc zero) x e = subst (InstructionFits 1 waits) (same_Some (instruction.Jump 0) x e) (omega arith)
waits_fits (suc (suc zero)) x e = subst (InstructionFits 1 waits) (same_Some instruction.Return x e) tt
waits_fits (suc (suc (suc k))) x e = absurd (none-some x e)

fits : (k : ℕ) (f : Function) → slice_get whole.functions k ≡ Some f → FunctionFits 1 f
fits zero f e = subst (FunctionFits 1) (same_Some waits f e) (record { small = omega arith; few = omega arith; all = omega arith; each = waits_fits })
fits (suc k) f e = absurd (none-some f e)

short : (k : ℕ) (f : Function) → slice_get whole.functions k ≡ Some f → rows_of f ≤ 1000
short zero f e = let rows : rows_of waits ≡ 56 = refl in subst (λ g. rows_of g ≤ 1000) (same_Some waits f e) (omega (arith, rows))
short (suc k) f e = absurd (none-some f e)

whole_is_sound : IsSoundProgram whole
whole_is_sound = record { has_main = omega arith; each = fits; statics = omega arith; countable = omega arith }

whole_is_short : IsShortProgram whole
whole_is_short = record { each = λ k f e. omega (arith, short k f e) }

its_jumps_reach : (base : ℕ) → AllReach base (program_items whole)
its_jumps_reach base = jumps_reach whole base whole_is_sound whole_is_short
