use Rattle.std.proofs.Common.{drop}
use Rattle.decls_initialisers.proofs.Readings.{Reading}
use Rattle.decls_initialisers.proofs.typing.+typing.Given as goal

abbrev pub invariant-typed_parts-loop-part : goal.invariant-typed_parts-loop-part
invariant-typed_parts-loop-part l = Reading l.names l.scope l.pos l.element l.lengths l.initial.literals l.literals l.parts (drop l.part-index l.parts) l.all.items
