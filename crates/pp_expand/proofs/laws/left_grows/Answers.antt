use Rattle.std.proofs.Common.{sym}
use Rattle.pp_expand.proofs.Streams.{left_kept}
use Rattle.pp_expand.proofs.laws.left_grows.Goals as goal

pub returns : goal.returns
returns c = λ names after s keeps knows. sym (left_kept names after keeps s knows)
