use Rattle.std.proofs.Common.{refl, sym, ap, subst, ◌∙◌}
use Rattle.pp.specs.declared.conditionals.BranchState.TheVariants.{Waiting, Taken, Past}
use Rattle.pp.specs.Groups.{closes, with_line}
use Rattle.pp.specs.Rest.{rest_done}
use Rattle.pp.specs.Held.{presumed_of}
use Rattle.pp.specs.inside.Stepping.{presumed_by, line_with, StopsAs}
use Rattle.pp.proofs.BranchLemmas.{closes_alone, closes_skipped, closes_checked}
use Rattle.pp.proofs.file.closes.Goals as goal

pub returns-in_default : goal.returns-in_default
returns-in_default c = record {
  rests = λ names around end p s a.
      subst (λ r. StopsAs s.given names r (rest_done around c.args.conditionals.now (with_line closes (line_with c.args.line.now end) p) s)) (sym c.unbalanced.ensures)
      (closes_alone names c.args.state.now around c.args.conditionals.now c.args.line.now end p s c.place-at.result (a, c.place-at.ensures ∙ ap (λ p. presumed_by (presumed_of c.args.state.now.presumed) p) c.place_of.ensures) c.in_default.ensures.first);
}

pub returns-in-Skipped : goal.returns-in-Skipped
returns-in-Skipped c = record {
  rests = λ names around end p s a.
      closes_skipped names c.args.state.now around c.args.conditionals.now c.pop.new.self c.in-Some.innermost c.args.line.now end p s c.requires.role c.in-Some.ensures.first c.in-Some.ensures.rest c.in-Skipped.is a;
}

pub returns-in-Waiting : goal.returns-in-Waiting
returns-in-Waiting c = record {
  rests = λ names around end p s a.
      closes_checked c.check_end.result names c.args.state.now around c.args.conditionals.now c.pop.new.self c.in-Some.innermost c.args.line.now end p s Waiting c.requires.role c.in-Some.ensures.first c.in-Some.ensures.rest refl c.in-Waiting.is (c.check_end.ensures names end s a);
}

pub returns-in-Taken : goal.returns-in-Taken
returns-in-Taken c = record {
  rests = λ names around end p s a.
      closes_checked c.check_end-in-Taken.result names c.args.state.now around c.args.conditionals.now c.pop.new.self c.in-Some.innermost c.args.line.now end p s Taken c.requires.role c.in-Some.ensures.first c.in-Some.ensures.rest refl c.in-Taken.is (c.check_end-in-Taken.ensures names end s a);
}

pub returns-in-Past : goal.returns-in-Past
returns-in-Past c = record {
  rests = λ names around end p s a.
      closes_checked c.check_end-in-Past.result names c.args.state.now around c.args.conditionals.now c.pop.new.self c.in-Some.innermost c.args.line.now end p s Past c.requires.role c.in-Some.ensures.first c.in-Some.ensures.rest refl c.in-Past.is (c.check_end-in-Past.ensures names end s a);
}
