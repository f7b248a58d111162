use Rattle.std.proofs.Common.{ap, ◌∙◌}
use Rattle.phases.proofs.CutLemmas.{ascend_all}
use Rattle.phases.proofs.line_list.LineBuilder.into_lines.Goals as goal

pub invariant_of-result : goal.invariant_of-result
invariant_of-result c =
    let s = c.self.inside in
    ascend_all s.ends.items s.start s.tokens.items c.self.invariant.1 c.self.invariant.0 (ap (λ b. b.line) c.self.view_is ∙ c.requires)

pub returns : goal.returns
returns c = ap (λ b. b.lines) c.self.view_is
