use Rattle.std.proofs.Common.{ap, sym}
use Rattle.typed_ast.specs.View.{function_type_of}
use Rattle.typing_spec.specs.Types.{FunctionType}
use Rattle.typing_spec.specs.Verdict.{Verdict, fine}
use Rattle.typing_spec.specs.Expressions.{Called}
use Rattle.typing_spec.specs.Program.{Callee}
use Rattle.typing_expressions.proofs.callees.function_meant.Goals as goal

abbrev found : FunctionType → Callee → Verdict Called
found t k = fine (record { callee = k; type = t })

pub returns-in-Function-clause-ok : goal.returns-in-Function-clause-ok
returns-in-Function-clause-ok c = λ n. rw c.in-Function.is (ap (found (function_type_of c.in-Function.function)) (sym (c.callee.ensures n)))
