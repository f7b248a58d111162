use Rattle.std.proofs.Common.{List, map, subst}
use Rattle.typed_ast.specs.View.{object_type_of}
use Rattle.verify_logic.specs.declared.abstract_values.AbsValue.{AbsValue}
use Rattle.verify_logic.specs.Calls.{Entered}
use Rattle.verify_expressions.proofs.calls.entered.Goals as goal

pub returns-then-right : goal.returns-then-right
returns-then-right c = let P : List AbsValue → Type 0 = λ ks. Entered c.args.passed.now (map object_type_of c.args.objects.now) ks in subst P c.deref.ensures.value (c.is_entered-right.ensures c.if-right.true)
