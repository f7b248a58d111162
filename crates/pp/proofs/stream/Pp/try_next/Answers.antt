use Rattle.std.proofs.Common.{refl, sym, subst, ◌∙◌}
use Rattle.pp.specs.Stream.{IsAnswer}
use Rattle.pp.specs.inside.Reading.{IsPulled}
use Rattle.pp.proofs.FileLemmas.{keeps_through}
use Rattle.pp.proofs.StreamLemmas.{stays_first, stays_then, stays_reading, first_answer, end_answer}
use Rattle.pp.proofs.stream.Pp.try_next.Goals as goal

pub steps-init : goal.steps-init
steps-init c = record {
  stream = c.requires;
  stays = stays_first c.args.names.now c.args.self.now;
  keeps = λ n text e. e;
}

pub steps-preserved : goal.steps-preserved
steps-preserved c =
    let l = c.steps in
    record {
      stream = c.step.ensures.stream;
      stays = stays_then c.args.names.now l.names c.step.new.names c.args.self.now c.pull.new.self c.step.new.self c.step.ensures.keeps
          (stays_then c.args.names.now l.names l.names c.args.self.now l.self c.pull.new.self (λ n text e. e) l.invariant.stays c.in_default.ensures.pulled)
          (stays_reading l.names c.step.new.names c.pull.new.self c.step.new.self (sym c.is_reading.ensures ∙ c.if-not-is_reading.false) c.step.ensures.rest c.step.ensures.taken);
      keeps = keeps_through c.args.names.now l.names c.step.new.names l.invariant.keeps c.step.ensures.keeps;
    }

pub returns-in-Some-clause-answer : goal.returns-in-Some-clause-answer
returns-in-Some-clause-answer c =
    let l = c.steps in
    first_answer c.args.names.now l.names c.args.self.now l.self c.pull.new.self c.in-Some.token l.invariant.stays
    (subst (λ o. IsPulled o l.names l.self c.pull.new.self) c.in-Some.is c.pull.ensures.pulled)

pub returns-then-not-is_reading-clause-answer : goal.returns-then-not-is_reading-clause-answer
returns-then-not-is_reading-clause-answer c =
    let l = c.steps in
    subst (λ r. IsAnswer r c.args.names.now l.names c.args.self.now c.pull.new.self) (sym c.end.ensures)
    (end_answer c.args.names.now l.names c.args.self.now c.pull.new.self
    (stays_then c.args.names.now l.names l.names c.args.self.now l.self c.pull.new.self (λ n text e. e) l.invariant.stays c.in_default.ensures.pulled)
    (sym c.is_reading.ensures ∙ c.if-not-is_reading.true) (c.in_default.ensures.stage refl))
