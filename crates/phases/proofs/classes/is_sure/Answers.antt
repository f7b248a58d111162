use Rattle.std.proofs.Common.{ℕ, nat_eq, bit_and, get_or, refl, arith}
use Rattle.std.proofs.lemmas.Bool.{agree_below_at}
use Rattle.phases.specs.declared.classes.TheConstants.{CLASSES}
use Rattle.phases.specs.inside.Runs.{is_sure}
use Rattle.phases.proofs.classes.is_sure.Goals as goal

pub returns : goal.returns
returns c = agree_below_at (λ (b : ℕ). nat_eq (bit_and (get_or CLASSES b 0) 16) 0) is_sure 256 c.args.byte refl (omega arith)
