use Rattle.std.proofs.Common.{◌∙◌}
use Rattle.typed_ast.specs.View.{function_of, program_of}
use Rattle.verify_stack.proofs.Steps.{called_in}
use Rattle.verify_stack.proofs.recursions.body_calls_it.Goals as goal

pub returns : goal.returns
returns c = λ t.
    called_in (program_of c.args.program.now) c.args.f c.args.g (function_of c.args.function.now) c.deref.result.now c.requires
    (c.deref.ensures.value ∙ c.in_ok-calls.ensures) (c.is_among.ensures t)
