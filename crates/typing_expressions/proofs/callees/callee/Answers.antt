use Rattle.std.proofs.Common.{◌≡◌, ℕ, Option, Some, None, sym, ap, ◌∙◌}
use Rattle.typing_spec.specs.Scope.{built_in, built_in_or, by_definition, place_from}
use Rattle.typing_scopes.specs.BuiltIns.{option_built_in}
use Rattle.typing_expressions.specs.Numbered.{numbered}
use Rattle.typing_expressions.proofs.callees.callee.Goals as goal

pub returns-in-Some : goal.returns-in-Some
returns-in-Some c = λ n.
    let s = numbered c.args.names.now n c.args.scope.now in
    let known : option_built_in (Some c.in-Some.function) ≡ built_in s c.args.name = ap option_built_in (sym c.in-Some.is) ∙ c.built_in.ensures s in
    c.callee.ensures ∙ ap (built_in_or (by_definition c.args.name (place_from 0 s.definitions c.args.name))) known

pub returns-in-None : goal.returns-in-None
returns-in-None c = λ n.
    let s = numbered c.args.names.now n c.args.scope.now in
    let known : option_built_in None ≡ built_in s c.args.name = ap option_built_in (sym c.in-None.is) ∙ c.built_in.ensures s in
    c.defined_callee.ensures ∙ ap (built_in_or (by_definition c.args.name (place_from 0 s.definitions c.args.name))) known
