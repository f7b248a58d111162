use Rattle.select.proofs.Nearer as nearer
use Rattle.select.proofs.laws.near_calls_are_shorter.Goals as goal

pub returns : goal.returns
returns c = nearer.shortened_longest
