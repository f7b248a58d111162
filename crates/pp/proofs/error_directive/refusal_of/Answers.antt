use Rattle.std.proofs.Common.{Some, ap, ◌∙◌}
use Rattle.pp.proofs.ErrorLemmas.{error_told}
use Rattle.pp.proofs.error_directive.refusal_of.Goals as goal

pub returns-in-Ok-intern-clause-told : goal.returns-in-Ok-intern-clause-told
returns-in-Ok-intern-clause-told c s =
    error_told c.intern.new.self c.args.at c.args.tokens.now c.in-Ok-intern.text s (c.in-Ok-intern.ensures.text ∙ ap Some (c.deref.ensures.value ∙ c.in-Ok.ensures))
