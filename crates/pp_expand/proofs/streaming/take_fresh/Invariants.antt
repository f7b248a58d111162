use Rattle.std.proofs.Common.{◌≡◌, ◌++◌, map}
use Rattle.pp_expand.proofs.streaming.take_fresh.Given as goal

abbrev pub invariant-loop-token : goal.invariant-loop-token
invariant-loop-token l = l.list.items ++ map (λ x. record { token = x; hides = 0 }) l.token-iterator.rest.items ≡ l.initial.list.items ++ map (λ x. record { token = x; hides = 0 }) l.fn.fresh.items
