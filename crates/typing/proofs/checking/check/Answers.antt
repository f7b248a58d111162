use Rattle.tree.specs.View.{unit_of}
use Rattle.typing_spec.specs.Units.{unit_typed}
use Rattle.typing.proofs.Units.{fault_told}
use Rattle.typing.proofs.checking.check.Goals as goal

pub returns-in-Err-clause-err : goal.returns-in-Err-clause-err
returns-in-Err-clause-err c =
    fault_told c.to_fault.result c.args.names.now (unit_typed c.args.stack c.args.names.now c.args.whole (unit_of c.args.unit)) c.in-Err.refusal c.in-Err.ensures.err c.to_fault.ensures
