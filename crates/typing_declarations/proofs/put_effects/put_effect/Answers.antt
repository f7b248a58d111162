use Rattle.std.proofs.Common.{refl, ap}
use Rattle.typed_ast.specs.View.{declared_type_of}
use Rattle.typing_expressions.specs.Forms.{seen}
use Rattle.typing_declarations.specs.inside.Effects.{effect_in}
use Rattle.typing_declarations.proofs.Objects.{nothing_done, values_put}
use Rattle.typing_declarations.proofs.put_effects.put_effect.Goals as goal

pub returns-in-Nothing-clause-ok : goal.returns-in-Nothing-clause-ok
returns-in-Nothing-clause-ok c = λ s.
    nothing_done (effect_in (seen c.args.names.now c.args.literals.now s) (declared_type_of c.args.declared.now) c.args.effect) c.args.statements.now.items c.args.firsts.now.items
    (ap (effect_in (seen c.args.names.now c.args.literals.now s) (declared_type_of c.args.declared.now)) c.in-Nothing.is)

pub returns-in-Ok-push_initial-clause-ok : goal.returns-in-Ok-push_initial-clause-ok
returns-in-Ok-push_initial-clause-ok c = λ s.
    values_put (seen c.args.names.now c.args.literals.now s) (declared_type_of c.args.declared.now) c.args.effect c.in-First.n c.in-First.initialiser (record { static_number = c.in-First.n; values = c.in-Ok.values })
    c.args.statements.now.items c.args.firsts.now.items c.push_initial.new.firsts.items c.in-First.is refl (c.in-Ok.ensures.ok s) c.in-Ok-push_initial.ensures.ok
