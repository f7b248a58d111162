use Rattle.std.proofs.Common.{◌≡◌, ◌++◌, drop}
use Rattle.typing_spec.specs.Initialisers.{characters}
use Rattle.decls_initialisers.proofs.element_values.push_characters.Given as goal

abbrev pub invariant-loop-byte : goal.invariant-loop-byte
invariant-loop-byte l = l.all.items ++ characters l.element (drop l.byte-index l.text) ≡ l.initial.all.items ++ characters l.element l.text
