use Rattle.std.proofs.Common.{ap}
use Rattle.typed_ast.specs.View.{object_type_of, declared_type_of}
use Rattle.decls.proofs.Lengths.{elements_positive}
use Rattle.decls.proofs.finished_objects.finished.Goals as goal

pub sized_by-requires : goal.sized_by-requires
sized_by-requires c =
    elements_positive (declared_type_of c.args.begun.now.declared) (object_type_of c.in-UnknownSize.element) (ap declared_type_of c.in-UnknownSize.is) c.args.begun.now.sized
