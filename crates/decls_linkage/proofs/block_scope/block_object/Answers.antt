use Rattle.typed_ast.specs.View.{declared_type_of}
use Rattle.decls_linkage.proofs.Blocks.{automatic_left, static_left}
use Rattle.decls_linkage.proofs.block_scope.block_object.Goals as goal

pub returns-in-Err-clause-err : goal.returns-in-Err-clause-err
returns-in-Err-clause-err c = λ t. rw c.in-None.is (automatic_left t c.args.scope.now c.args.pos c.args.name (declared_type_of c.args.declared) c.in-Err.refusal c.in-Err.ensures.err)

pub returns-in-Err-fresh-clause-err : goal.returns-in-Err-fresh-clause-err
returns-in-Err-fresh-clause-err c = λ t. rw c.in-Static.is (static_left t c.args.scope.now c.args.pos c.args.name (declared_type_of c.args.declared) c.in-Err-fresh.refusal c.in-Err-fresh.ensures.err)
