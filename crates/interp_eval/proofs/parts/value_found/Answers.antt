use Rattle.std.proofs.Common.{rules, ◌≡◌, Some, ap, ◌∙◌, to_z, of_z, w64}
use Rattle.std.proofs.Math.Facts.{to_z-of_z}
use Rattle.typed_ast.specs.View.{program_of, value_of}
use Rattle.interp_store.specs.layer.Frames as on
use Rattle.interp_store.specs.layer.Agrees.{number}
use Rattle.interp_eval.specs.layer.Comes.{valued, state_at}
use Rattle.interp_eval.proofs.Comings.{leads_given, came}
use Rattle.interp_eval.proofs.parts.value_found.Goals as goal

pub returns-in-None-clause-does : goal.returns-in-None-clause-does
returns-in-None-clause-does c = λ run rest h.
    let part = valued (value_of c.args.e.now) (program_of c.args.scope.now.program.now) in
    came number run c.args.scope.now.limit (λ v s. rest (on.a_value v) s) _ _ c.value.new.clock c.value.new.scene c.in-None.is
    (c.value.ensures.does run (λ v s. rest (on.a_value v) s) (leads_given on.a_value run c.args.clock.now.spent c.args.scene.now part rest h))

pub returns-in-None-clause-here : goal.returns-in-None-clause-here
returns-in-None-clause-here c = λ q none. c.value.ensures.here q c.in-None.is

pub returns-in-Some-clause-does : goal.returns-in-Some-clause-does
returns-in-Some-clause-does c = λ run rest h n.
    let part = valued (value_of c.args.e.now) (program_of c.args.scope.now.program.now) in
    let same : to_z w64 (of_z w64 c.in-Some.v) ≡ c.in-Some.v = search (rules, to_z-of_z) in
    ap (λ v. rest (on.a_value v) (state_at run c.value.new.scene n)) same
    ∙ came number run c.args.scope.now.limit (λ v s. rest (on.a_value v) s) _ (Some c.in-Some.v) c.value.new.clock c.value.new.scene c.in-Some.is
    (c.value.ensures.does run (λ v s. rest (on.a_value v) s) (leads_given on.a_value run c.args.clock.now.spent c.args.scene.now part rest h)) n
