use Rattle.std.proofs.Common.{◌≡◌, take}
use Rattle.tree.specs.Capped.{capped32}
use Rattle.typing_scopes.specs.Scopes.{with_texts}
use Rattle.typing_spec.specs.Scope.{Scope}
use Rattle.typing_spec.specs.Units.{bytes_of_literals, literals_of}
use Rattle.typing_units.proofs.literals.bytes_of_literals.Given as goal

abbrev pub invariant-loop-name : goal.invariant-loop-name
invariant-loop-name l = (s : Scope) → l.total ≡ capped32 (bytes_of_literals (literals_of (with_texts l.names s) (take l.name-index l.literals)))
