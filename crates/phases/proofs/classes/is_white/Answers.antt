use Rattle.std.proofs.Common.{ℕ, not, nat_eq, bit_and, get_or, refl, arith}
use Rattle.std.proofs.lemmas.Bool.{agree_below_at}
use Rattle.phases.specs.declared.classes.TheConstants.{CLASSES}
use Rattle.phases.specs.inside.Lexical.{is_white}
use Rattle.phases.proofs.classes.is_white.Goals as goal

pub returns : goal.returns
returns c = agree_below_at (λ (b : ℕ). not (nat_eq (bit_and (get_or CLASSES b 0) 4) 0)) is_white 256 c.args.byte refl (omega arith)
