use Rattle.std.proofs.Common.{◌≡◌, ◌++◌, drop, map}
use Rattle.typing_scopes.specs.Scopes.{with_texts}
use Rattle.typing_spec.specs.Scope.{Scope}
use Rattle.typing_spec.specs.Units.{literals_of}
use Rattle.typing_units.proofs.literals.literals_of.Given as goal

abbrev pub invariant-loop-name : goal.invariant-loop-name
invariant-loop-name l = (s : Scope) → map (λ text. text.items) l.texts.items ++ literals_of (with_texts l.names s) (drop l.name-index l.literals) ≡ literals_of (with_texts l.names s) l.literals
