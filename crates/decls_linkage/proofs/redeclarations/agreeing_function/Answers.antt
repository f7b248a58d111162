use Rattle.std.proofs.Common.{sym, ◌∙◌}
use Rattle.typed_ast.specs.View.{function_type_of}
use Rattle.decls_linkage.proofs.Same.{kept_function}
use Rattle.decls_linkage.proofs.redeclarations.agreeing_function.Goals as goal

pub returns-then-same_function : goal.returns-then-same_function
returns-then-same_function c = kept_function (function_type_of c.args.old.now) (function_type_of c.args.new) (sym c.same_function.ensures ∙ c.if-same_function.true)
