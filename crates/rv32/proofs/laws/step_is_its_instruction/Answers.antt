use Rattle.rv32.proofs.Uses.{step_at, step_at_row}
use Rattle.rv32.proofs.Stays.{stays_step}
use Rattle.rv32.proofs.laws.step_is_its_instruction.Goals as goal

pub returns-clause-instruction : goal.returns-clause-instruction
returns-clause-instruction c = step_at

pub returns-clause-row : goal.returns-clause-row
returns-clause-row c = step_at_row

pub returns-clause-stays : goal.returns-clause-stays
returns-clause-stays c = stays_step
