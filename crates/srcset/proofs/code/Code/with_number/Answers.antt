use Rattle.std.proofs.Common.{sym, arith}
use Rattle.srcset.proofs.CodeLemmas.{no_code_outside}
use Rattle.srcset.proofs.code.Code.with_number.Goals as goal

pub returns-in_default : goal.returns-in_default
returns-in_default c = sym (no_code_outside c.args.number (λ low high. omega arith))
