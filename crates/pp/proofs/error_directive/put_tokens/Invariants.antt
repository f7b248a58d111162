use Rattle.std.proofs.Common.{◌≡◌, ◌++◌, take, map}
use Rattle.std.specs.List.{flat_map}
use Rattle.pp.specs.Phase4.{printable}
use Rattle.pp.specs.inside.Stepping.{spaced_out}
use Rattle.pp.proofs.error_directive.put_tokens.Given as goal

abbrev pub invariant-loop-token : goal.invariant-loop-token
invariant-loop-token l = l.text.items ≡ l.initial.text.items ++ map printable (flat_map spaced_out (take l.token-index l.tokens))
