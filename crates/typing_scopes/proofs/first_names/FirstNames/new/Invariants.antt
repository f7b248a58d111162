use Rattle.std.proofs.Common.{◌≡◌, ◌++◌}
use Rattle.std.specs.Prelude.{reverse}
use Rattle.typing_scopes.proofs.first_names.FirstNames.new.Given as goal

abbrev pub invariant-loop-name : goal.invariant-loop-name
invariant-loop-name l = reverse l.name-iterator.rest.items ++ l.backwards ≡ l.fn.names.items
