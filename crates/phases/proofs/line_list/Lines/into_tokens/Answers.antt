use Rattle.std.proofs.Common.{sym, ap, ◌∙◌}
use Rattle.std.specs.List.{flat_map}
use Rattle.phases.proofs.CutLemmas.{cut_all}
use Rattle.phases.proofs.line_list.Lines.into_tokens.Goals as goal

pub returns : goal.returns
returns c = sym (ap (flat_map (λ l. l)) (sym c.self.view_is) ∙ cut_all 0 c.self.inside.ends.items c.self.inside.tokens.items c.self.invariant)
