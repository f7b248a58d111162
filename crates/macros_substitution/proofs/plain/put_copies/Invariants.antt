use Rattle.std.proofs.Common.{◌≡◌, ◌++◌, take}
use Rattle.macros_substitution.proofs.plain.put_copies.Given as goal

abbrev pub invariant-loop-token : goal.invariant-loop-token
invariant-loop-token l = l.done.items ≡ l.initial.done.items ++ take l.token-index l.tokens
