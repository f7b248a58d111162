use Rattle.select.proofs.Nearer as nearer
use Rattle.select.proofs.laws.calls_shorten_in_parts.Goals as goal

pub returns : goal.returns
returns c = nearer.shortened_append
