use Rattle.std.proofs.Common.{sym, subst, length}
use Rattle.std.proofs.lemmas.List.{length-map}
use Rattle.typed_ast.specs.View.{function_of}
use Rattle.typing_spec.specs.Units.{within_limits}
use Rattle.typing_expressions.specs.Refused.{IsOf}
use Rattle.typing_units.specs.Views.{unit_scope, built_of}
use Rattle.typing_units.proofs.Bytes.{statics_refused, all_within}
use Rattle.typing_units.proofs.limits.within_limits.Goals as goal

pub returns-then-static_bytes-gt-STATIC_LIMIT-clause-err : goal.returns-then-static_bytes-gt-STATIC_LIMIT-clause-err
returns-then-static_bytes-gt-STATIC_LIMIT-clause-err c = λ stack s is.
    let b = built_of stack (unit_scope c.args.names.now c.args.literals.now c.args.statics.now s) c.args.functions.now is in
    subst (λ r. IsOf r (within_limits c.args.whole b)) (sym c.broken.ensures) (statics_refused c.args.whole b c.static_bytes.result (c.static_bytes.ensures s) c.if-static_bytes-gt-STATIC_LIMIT.true)

pub returns-clause-ok : goal.returns-clause-ok
returns-clause-ok c = λ stack s is.
    all_within c.args.whole (built_of stack (unit_scope c.args.names.now c.args.literals.now c.args.statics.now s) c.args.functions.now is) c.static_bytes.result (length c.args.functions.now) (c.static_bytes.ensures s)
    c.if-static_bytes-gt-STATIC_LIMIT.false (sym (length-map c.args.functions.now function_of)) c.if-functions-gt-FUNCTION_LIMIT.false
