use Rattle.std.proofs.Common.{ℕ, not, nat_eq, bit_and, get_or, refl, arith}
use Rattle.std.proofs.lemmas.Bool.{agree_below_at}
use Rattle.phases.specs.declared.classes.TheConstants.{CLASSES}
use Rattle.phases.specs.inside.Lexical.{is_single}
use Rattle.phases.proofs.classes.is_single.Goals as goal

pub returns : goal.returns
returns c = agree_below_at (λ (b : ℕ). not (nat_eq (bit_and (get_or CLASSES b 0) 8) 0)) is_single 256 c.args.byte refl (omega arith)
