use Rattle.std.proofs.Common.{refl, sym, ◌∙◌}
use Rattle.pp_cond.specs.inside.Operands.{known_option}
use Rattle.pp_cond.proofs.Whole.{holds_of_word, holds_of_run}
use Rattle.pp_cond.proofs.condition.ConditionReader.truth.Goals as goal

pub returns-then-self-clause-err : goal.returns-then-self-clause-err
returns-then-self-clause-err c = λ xs h. (holds_of_word xs (sym h.has_defined_is ∙ c.if-self.true), refl)

pub returns-in-Ok-clause-ok : goal.returns-in-Ok-clause-ok
returns-in-Ok-clause-ok c = λ xs h. holds_of_run xs (known_option c.whole.result) _ (sym h.has_defined_is ∙ c.if-self.false) (c.whole.ensures xs h) c.in-Ok.ensures

pub returns-clause-err : goal.returns-clause-err
returns-clause-err c = λ xs h. (holds_of_run xs (known_option c.whole.result) _ (sym h.has_defined_is ∙ c.if-self.false) (c.whole.ensures xs h) c.in-Err.ensures, refl)
