use Rattle.std.proofs.Common.{◌≡◌, ◌++◌, drop}
use Rattle.macros.specs.Operators.{shown_behind}
use Rattle.macros.proofs.operators.push_behind.Given as goal

abbrev pub invariant-loop-token : goal.invariant-loop-token
invariant-loop-token l = l.text.items ++ shown_behind (drop l.token-index l.tokens) ≡ l.fn.text.items ++ shown_behind l.tokens
