use Rattle.std.proofs.Common.{ap}
use Rattle.typed_ast.specs.View.{initialiser_of}
use Rattle.typing_spec.specs.Verdict.{fine, then_check}
use Rattle.typing_spec.specs.Program as program
use Rattle.typing_spec.specs.Initialisers as typed
use Rattle.typing_expressions.specs.Numbered.{numbered}
use Rattle.typing_expressions.proofs.Verdicts.{tells_then}
use Rattle.decls_initialisers.specs.inside.Braces.{braced_text_at}
use Rattle.decls_initialisers.proofs.Rules.{braced_ok}
use Rattle.decls_initialisers.proofs.typing.text_in_braces.Goals as goal

pub returns-in-Ok-clause-ok : goal.returns-in-Ok-clause-ok
returns-in-Ok-clause-ok c = λ s.
    braced_ok c.in_braces.result (braced_text_at c.args.names.now c.args.literals.now s c.args.pos c.args.room c.args.name) (initialiser_of c.in-Ok.inner) (ap (λ v. then_check v (λ i. fine (program.in_braces i))) (c.in-Ok.ensures.ok s)) c.in_braces.ensures.ok

pub returns-in-Err-clause-err : goal.returns-in-Err-clause-err
returns-in-Err-clause-err c = λ s. tells_then c.in-Err.refusal (typed.text_from (numbered c.args.names.now c.args.literals.now s) c.args.pos c.args.room c.args.name) (λ i. fine (program.in_braces i)) (c.in-Err.ensures.err s)
