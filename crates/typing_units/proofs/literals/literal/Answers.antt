use Rattle.std.proofs.Common.{[], ◌∷◌, ◌++◌, ap, ◌∙◌}
use Rattle.typing_units.proofs.literals.literal.Goals as goal

pub returns-in-Ok-push-clause-ok : goal.returns-in-Ok-push-clause-ok
returns-in-Ok-push-clause-ok c = λ s.
    c.in-Ok-push.ensures.items ∙ ap (λ l. l ++ 0 ∷ []) (c.in-Ok.ensures.items ∙ ap (λ l. l ++ c.characters.result.now) c.new-text.ensures.items ∙ c.characters.ensures s)
