use Rattle.typed_ast.specs.View.{program_of}
use Rattle.verify_build.specs.declared.Verified.{Verified}
use Rattle.verify_build.specs.Verified.{IsShown, IsVerified}
use Rattle.verify_build.proofs.Joined.{some_means, verified}
use Rattle.verify_report.proofs.answering.verify_sources.Goals as goal

pub returns-in-Ok-judged-clause-verified : goal.returns-in-Ok-judged-clause-verified
returns-in-Ok-judged-clause-verified c =
    let p = program_of c.in-Ok.program in
    let texts = c.checked_program.new.names in
    let asked = c.args.asked.now in
    some_means c.in-Ok-judged.said.file (λ (v : Verified). IsShown asked.stack texts p v.built v.most) (λ (v : Verified). IsVerified asked.stack c.args.set.now asked.main.now v.built v.most)
    (λ v h. verified asked.stack c.args.set.now asked.main.now texts c.in-Ok.ensures.program.0 p v.built v.most c.in-Ok.ensures.program.1 h)
    c.in-Ok-judged.ensures
