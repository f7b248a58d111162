use Rattle.std.proofs.Common.{List, map, subst}
use Rattle.typed_ast.specs.declared.types.ObjectType.{ObjectType}
use Rattle.typed_ast.specs.View.{object_type_of}
use Rattle.verify_logic.specs.Calls.{Entered}
use Rattle.verify_expressions.proofs.calls.own_objects.Goals as goal

pub returns : goal.returns
returns c = let P : List ObjectType → Type 0 = λ xs. Entered c.args.passed.now (map object_type_of xs) c.in_ok-own.own.items in subst P c.deref.ensures.value c.in_ok-own.ensures
