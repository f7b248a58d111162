use Rattle.std.proofs.Common.{ℕ, not, nat_eq, bit_and, get_or, refl, arith}
use Rattle.std.proofs.lemmas.Bool.{agree_below_at}
use Rattle.phases.specs.declared.classes.TheConstants.{CLASSES}
use Rattle.phases.specs.inside.Lexical.{is_letter}
use Rattle.phases.proofs.classes.is_letter.Goals as goal

pub returns : goal.returns
returns c = agree_below_at (λ (b : ℕ). not (nat_eq (bit_and (get_or CLASSES b 0) 2) 0)) is_letter 256 c.args.byte refl (omega arith)
