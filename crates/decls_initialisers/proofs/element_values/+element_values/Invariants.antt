use Rattle.std.proofs.Common.{drop}
use Rattle.decls_initialisers.proofs.Layouts.{Laid}
use Rattle.decls_initialisers.proofs.element_values.+element_values.Given as goal

abbrev pub invariant-push_parts-loop-part : goal.invariant-push_parts-loop-part
invariant-push_parts-loop-part l = Laid l.names l.literals l.element l.lengths l.parts (drop l.part-index l.parts) l.initial.all.items l.all.items
