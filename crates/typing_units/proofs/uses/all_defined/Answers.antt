use Rattle.std.proofs.Common.{[], map, sym, subst, refl, ◌∙◌}
use Rattle.typed_ast.specs.View.{function_of}
use Rattle.typing_scopes.specs.Scopes.{static_of, with_statics}
use Rattle.typing_spec.specs.Uses.{all_defined, uses_in_functions}
use Rattle.typing_expressions.specs.Refused.{IsOf}
use Rattle.typing_units.proofs.Firsts.{none_undefined, first_stands}
use Rattle.typing_units.proofs.uses.all_defined.Goals as goal

pub returns-in-None-clause-ok : goal.returns-in-None-clause-ok
returns-in-None-clause-ok c = λ s. none_undefined (with_statics (map static_of c.args.statics.now) s) [] (uses_in_functions (map function_of c.args.functions.now)) (sym c.in_functions.ensures ∙ c.in-None.is)

pub returns-in-Some-clause-err : goal.returns-in-Some-clause-err
returns-in-Some-clause-err c = λ s.
    subst (λ r. IsOf r (all_defined (with_statics (map static_of c.args.statics.now) s) [] (uses_in_functions (map function_of c.args.functions.now)))) (sym c.broken.ensures)
    (first_stands (with_statics (map static_of c.args.statics.now) s) [] (uses_in_functions (map function_of c.args.functions.now)) c.in-Some.pos refl (sym c.in_functions.ensures ∙ c.in-Some.is))
