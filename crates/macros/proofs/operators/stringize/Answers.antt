use Rattle.macros.proofs.RefusalLemmas.{operator_fault}
use Rattle.macros.proofs.operators.stringize.Goals as goal

pub returns-in-Err-clause-err : goal.returns-in-Err-clause-err
returns-in-Err-clause-err c = operator_fault _ c.args.at c.in-Err.refusal c.to_fault.result c.args.names.now c.in-Err.ensures.err c.to_fault.ensures
