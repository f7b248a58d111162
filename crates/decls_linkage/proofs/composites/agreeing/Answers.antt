use Rattle.std.proofs.Common.{sym, ◌∙◌}
use Rattle.typed_ast.specs.View.{object_type_of}
use Rattle.decls_linkage.proofs.Same.{kept}
use Rattle.decls_linkage.proofs.composites.agreeing.Goals as goal

pub returns-then-same_object : goal.returns-then-same_object
returns-then-same_object c = kept (object_type_of c.args.old.now) (object_type_of c.args.new) (sym c.same_object.ensures ∙ c.if-same_object.true)
