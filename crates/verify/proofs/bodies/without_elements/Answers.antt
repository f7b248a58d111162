use Rattle.typed_ast.specs.View.{program_of}
use Rattle.verify_expressions.specs.Views.{known_of, shapes_in}
use Rattle.verify.proofs.Steps.{begins_without}
use Rattle.verify.proofs.bodies.without_elements.Goals as goal

pub returns : goal.returns
returns c = begins_without (program_of c.args.program.now) (shapes_in c.args.before.outer.items) (known_of c.args.before.known) _ c.new-facts.ensures.items c.requires
