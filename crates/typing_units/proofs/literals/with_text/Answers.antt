use Rattle.std.proofs.Common.{[], ◌∷◌, ◌++◌}
use Rattle.typing_scopes.specs.Scopes.{with_texts}
use Rattle.typing_spec.specs.Scope.{literal_of}
use Rattle.typing_units.proofs.Readings.{text_more}
use Rattle.typing_units.proofs.literals.with_text.Goals as goal

pub returns-in-Ok-clause-ok : goal.returns-in-Ok-clause-ok
returns-in-Ok-clause-ok c = λ s.
    text_more c.push_text.result c.args.texts.now.items c.push_text.new.texts.items c.in-Ok.text (literal_of (with_texts c.args.names.now s) c.args.name ++ 0 ∷ []) (c.in-Ok.ensures.ok s) c.push_text.ensures.ok
