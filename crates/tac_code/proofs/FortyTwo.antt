-- The contract of lowering can be met: it is here, for one program and every clock. int main(void) { return 42; }
use Rattle.std.proofs.Common.{◌≡◌, ◌≤◌, ℕ, zero, suc, ◌+◌, ◌*◌, List, [], ◌∷◌, ℤ, refl, Option, Bool, true, false, ap, arith}
use Rattle.srcset.specs.declared.refusal.Pos.{Pos}
use Rattle.ctypes.specs.declared.operators.Undef.{Undef}
use Rattle.typing_spec.specs.Program as typed
use Rattle.csem.specs.Machine as machine
use Rattle.csem.specs.Machine.{Goes, Stops, Ended, Undefined, TicksUsed, Ending}
use Rattle.csem.specs.Meaning.{cstep, last_of}
use Rattle.tac_code.specs.declared.code.Operand.TheVariants.{Constant as constant}
use Rattle.tac_code.specs.declared.code.Target.TheVariants.{Temporary as to_temporary}
use Rattle.tac_code.specs.declared.code.Instruction.TheVariants.{Nothing as nothing, Move as move, Return as return}
use Rattle.tac_code.specs.Code.{Program}
use Rattle.tac_code.specs.Run.{Progress, ended, stuck, step, next, start}
use Rattle.tac_code.specs.Lowered.{Behaves, GoesOn, CostsAtMost, run_of}
use Rattle.tac_code.proofs.Rows.{function, program, block, gives_back, value, coded, code_of}

abbrev forty_two : typed.Program
forty_two = program (function [] [] 4 0 (block 0 0 (gives_back (value 42) ∷ [])) ∷ [])

abbrev forty_two_code : Program
forty_two_code = code_of (coded [] [] (nothing ∷ nothing ∷ nothing ∷ move (to_temporary 0) (constant 42) ∷ return ∷ []) ∷ [])

abbrev has_ended : machine.Run (Option ℤ) → Bool
has_ended (Goes v s) = false
has_ended (Stops (Ended status) s) = true
has_ended (Stops (Undefined act at) s) = false
has_ended (Stops TicksUsed s) = false

-- how it ended
abbrev end_of : machine.Run (Option ℤ) → Progress
end_of (Goes v s) = stuck
end_of (Stops (Ended status) s) = ended status s.input s.history
end_of (Stops (Undefined act at) s) = stuck
end_of (Stops TicksUsed s) = stuck

abbrev Ends : List ℕ → ℕ → Progress → Type 0
Ends input n r = (m : ℕ) × (run_of forty_two_code input m ≡ r) × CostsAtMost forty_two_code input m n

few : (n : ℕ) → 91 ≤ 60 * (suc (suc (suc (suc n)))) + 60
few n = omega arith

ends : (input : List ℕ) (n status : ℕ) (s : machine.State) → cstep n forty_two input ≡ Stops (Ended status) s → Ends input n (ended status s.input s.history)
unfolding step
ends input zero status s e = absurd (cc (ap has_ended e))
ends input (suc zero) status s e = absurd (cc (ap has_ended e))
ends input (suc (suc zero)) status s e = absurd (cc (ap has_ended e))
ends input (suc (suc (suc zero))) status s e = absurd (cc (ap has_ended e))
ends input (suc (suc (suc (suc n)))) status s e = (5, ap end_of e, few n)

abbrev On : List ℕ → ℕ → machine.State → Type 0
On input n s = (m : ℕ) × (n ≤ m) × GoesOn forty_two_code input m s × CostsAtMost forty_two_code input m n

at_most : (n : ℕ) → n ≤ n
at_most n = omega arith

begins : (n : ℕ) → 42 ≤ 60 * n + 60
begins n = omega arith

goes_on : (input : List ℕ) (n : ℕ) (s : machine.State) → cstep n forty_two input ≡ Stops TicksUsed s → On input n s
unfolding step
goes_on input zero s e = (0, at_most 0, (start forty_two_code input, refl, ap (λ r. (last_of r).history) e, ap (λ r. (last_of r).input) e), begins 0)
goes_on input (suc zero) s e = (1, at_most 1, (next (start forty_two_code input), refl, ap (λ r. (last_of r).history) e, ap (λ r. (last_of r).input) e), begins 1)
goes_on input (suc (suc zero)) s e = (2, at_most 2, (next (next (start forty_two_code input)), refl, ap (λ r. (last_of r).history) e, ap (λ r. (last_of r).input) e), begins 2)
goes_on input (suc (suc (suc zero))) s e = (3, at_most 3, (next (next (next (start forty_two_code input))), refl, ap (λ r. (last_of r).history) e, ap (λ r. (last_of r).input) e), begins 3)
goes_on input (suc (suc (suc (suc n)))) s e = absurd (cc (ap has_ended e))

abbrev is_undefined : machine.Run (Option ℤ) → Bool
is_undefined (Goes v s) = false
is_undefined (Stops (Ended status) s) = false
is_undefined (Stops (Undefined act at) s) = true
is_undefined (Stops TicksUsed s) = false

-- nothing in it is undefined
never_undefined : (input : List ℕ) (n : ℕ) (act : Undef) (at : Pos) (s : machine.State) → cstep n forty_two input ≡ Stops (Undefined act at) s → ⊥
never_undefined input zero act at s e = cc (ap is_undefined e)
never_undefined input (suc zero) act at s e = cc (ap is_undefined e)
never_undefined input (suc (suc zero)) act at s e = cc (ap is_undefined e)
never_undefined input (suc (suc (suc zero))) act at s e = cc (ap is_undefined e)
never_undefined input (suc (suc (suc (suc n)))) act at s e = cc (ap is_undefined e)

pub behaves : (input : List ℕ) → Behaves forty_two forty_two_code input
behaves input = record { ends = ends input; goes_on = goes_on input; stops = λ n act at s e. absurd (never_undefined input n act at s e) }
