use Rattle.std.proofs.Common.{map}
use Rattle.typed_ast.specs.View.{static_of}
use Rattle.typing_units.specs.Views.{unit_scope, built_of}
use Rattle.typing_units.proofs.Wholes.{program_is}
use Rattle.typing_units.proofs.programs.program_of.Goals as goal

pub returns-clause-ok : goal.returns-clause-ok
returns-clause-ok c = λ stack s.
    program_is (built_of stack (unit_scope c.args.names.now c.args.literals.now c.args.statics.items s) c.args.functions.items c.args.initial.items) c.args.main (map (λ text. text.items) c.in-Ok.literals.items)
    (map static_of c.in-Ok-statics_of.statics.items) (c.in-Ok.ensures.ok (unit_scope c.args.names.now c.args.literals.now c.args.statics.items s)) c.in-Ok-statics_of.ensures.ok
