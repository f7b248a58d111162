-- The visible state of a machine, and how far a run goes.
use Rattle.std.specs.Prelude.{◌≢◌, ℕ, ◌≤◌, ◌^◌, nat_lt, if◌then◌else◌}
use Rattle.rv32.specs.Space.{Space}
use Rattle.rv32.specs.declared.state.Cause.{Cause}
use Rattle.rv32.specs.declared.state.Cause.TheVariants as cause
use Rattle.io_ports.specs.declared.port.PortFault.TheVariants.{Memory, Read, Write}
use Rattle.sim.specs.declared.machine.Outcome.{Outcome}
use Rattle.sim.specs.declared.machine.Outcome.TheVariants as outcome
use Rattle.sim.specs.Runs.{Progress, Running, Ended, Trapped}
use Rattle.machine_kept.specs.declared.stepping.Halt.{Halt}

-- the byte at an address, where it may be read, and else 0
abbrev pub shown_byte : Space → ℕ → ℕ
shown_byte s a = if nat_lt a (2 ^ 32) then (if s.can_read a then s.byte a else 0) else 0

-- the number of a cause
abbrev pub cause_number : Cause → ℕ
cause_number cause.Illegal = 1
cause_number cause.FetchFault = 2
cause_number cause.Target = 3
cause_number cause.Misaligned = 4
cause_number cause.LoadFault = 5
cause_number cause.StoreFault = 6
cause_number cause.Break = 7
cause_number cause.BadCall = 8

-- after k instructions the run goes on, and is not to halt there
abbrev pub Passes : Halt → ℕ → Progress → Type 0
Passes halt k (Running w) = halt.after ≤ k → w.machine.pc ≢ halt.at
Passes halt k (Ended s w) = ⊥
Passes halt k (Trapped c w) = ⊥

-- 0 where it goes on, 1 where it ended, 2 where it trapped, 3 where memory ran out for the output, 5 where it needs input
abbrev pub answer_of : Outcome → ℕ
answer_of outcome.Budget = 0
answer_of (outcome.Ended status) = 1
answer_of (outcome.Trapped pc cause) = 2
answer_of (outcome.Port Memory) = 3
answer_of (outcome.Port Read) = 5
answer_of (outcome.Port Write) = 3

-- the status with which it ended, or the number of why it trapped
abbrev pub outcome_detail : Outcome → ℕ
outcome_detail outcome.Budget = 0
outcome_detail (outcome.Ended status) = status
outcome_detail (outcome.Trapped pc cause) = cause_number cause
outcome_detail (outcome.Port fault) = 0
