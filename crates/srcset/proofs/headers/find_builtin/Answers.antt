use Rattle.std.proofs.Common.{sym}
use Rattle.srcset.proofs.FindLemmas.{no_header}
use Rattle.srcset.proofs.headers.find_builtin.Goals as goal

pub returns-in-Err-clause-text : goal.returns-in-Err-clause-text
returns-in-Err-clause-text c = sym (no_header c.args.name.now c.in-Err.ensures.cases.0)
