use Rattle.typed_ast.specs.View.{function_of}
use Rattle.verify_expressions.specs.Views.{frame_of, known_of}
use Rattle.verify_expressions.proofs.Summaries.{called_by}
use Rattle.verify_expressions.proofs.calls.defined_called.Goals as goal

pub returns : goal.returns
returns c = called_by (frame_of c.args.scope.now) c.args.at c.args.f c.args.used c.args.passed.now c.args.arrays.now (known_of c.args.known) c.in_ok-own.own.items _ (function_of c.args.function.now) _ _ c.requires c.in_ok-own.ensures c.in_ok-entry.ensures c.in_ok-e.ensures
