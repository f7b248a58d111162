use Rattle.std.proofs.Common.{rules}
use Rattle.rv32.proofs.Stays.{stays_executed}
use Rattle.rv32.proofs.Tables.{step_done}
use Rattle.rv32.specs.Step.{machine_of}
use Rattle.rv32.proofs.state.step.Goals as goal

pub returns-in-Some-decode_apart-clause-table : goal.returns-in-Some-decode_apart-clause-table
returns-in-Some-decode_apart-clause-table c = step_done (machine_of c.args.state.now) _ c.in-Some.word c.in-Some-decode_apart.instr (search rules) (search rules) c.in-Some-decode_apart.ensures.found c.execute.ensures

pub returns-in-Some-decode_apart-clause-stays : goal.returns-in-Some-decode_apart-clause-stays
returns-in-Some-decode_apart-clause-stays c = stays_executed (machine_of c.args.state.now) _ c.in-Some-decode_apart.instr c.execute.ensures
