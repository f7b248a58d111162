use Rattle.macros.proofs.RefusalLemmas.{undefine_fault}
use Rattle.macros.proofs.table.MacroTable.undef.Goals as goal

pub returns-in-Err-clause-err : goal.returns-in-Err-clause-err
returns-in-Err-clause-err c = undefine_fault c.args.name.now c.args.at c.in-Err.refusal c.to_fault.result c.args.names.now c.in-Err.ensures.err c.to_fault.ensures
