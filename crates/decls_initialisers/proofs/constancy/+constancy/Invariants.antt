use Rattle.std.proofs.Common.{◌≡◌, drop}
use Rattle.decls_initialisers.specs.Views.{wanted_of}
use Rattle.decls_initialisers.proofs.ConstantParts.{left_of}
use Rattle.decls_initialisers.proofs.constancy.+constancy.Given as goal

abbrev pub invariant-all_constant-loop-part : goal.invariant-all_constant-loop-part
invariant-all_constant-loop-part l = left_of l.scope l.element (wanted_of l.wanted) (drop l.part-index l.parts) ≡ left_of l.scope l.element (wanted_of l.wanted) l.parts
