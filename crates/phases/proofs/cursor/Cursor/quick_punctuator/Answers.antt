use Rattle.phases.proofs.QuickLemmas.{pair_piece, single_piece}
use Rattle.phases.proofs.cursor.Cursor.quick_punctuator.Goals as goal

pub returns-then-is_pair : goal.returns-then-is_pair
returns-then-is_pair c =
    λ place other. pair_piece place c.args.self c.args.first c.in_ok-second.second other c.requires.step (cc) c.in_ok-second.ensures (cc) (cc)

pub returns : goal.returns
returns c =
    λ place other. single_piece place c.args.self c.args.first c.in_ok-second.second other c.requires.step (cc) c.in_ok-second.ensures (cc) (cc)
