use Rattle.std.proofs.Common.{ap, ◌∙◌, ◌++◌, ◌∷◌, [], map}
use Rattle.std.proofs.lemmas.List.{map-append}
use Rattle.typed_ast.specs.View.{callee_of, argument_of, arguments_of}
use Rattle.interp_store.specs.layer.Views.{passed_of}
use Rattle.interp_store.specs.layer.Steps.{asked_for}
use Rattle.interp_store.proofs.Taken.{takes_as}
use Rattle.interp_store.proofs.operands.pass.Goals as goal

pub returns-in-Ok-clause-takes : goal.returns-in-Ok-clause-takes
returns-in-Ok-clause-takes c =
    let a = c.args.asked in
    takes_as c.args.machine.now c.ask.new.machine c.ask.result
    (λ p s. asked_for a.at (callee_of a.callee) a.used (arguments_of (map argument_of a.more.now)) (map passed_of a.before.items ++ passed_of c.args.passed ∷ []) s)
    (λ p s. asked_for a.at (callee_of a.callee) a.used (arguments_of (map argument_of a.more.now)) (map passed_of c.push.new.self.items) s)
    (λ p s. ap (λ items. asked_for a.at (callee_of a.callee) a.used (arguments_of (map argument_of a.more.now)) items s) (ap (map passed_of) c.in-Ok.ensures.items ∙ map-append _ _ _)) c.ask.ensures.takes
