use Rattle.std.proofs.Common.{length, sym, ap, ◌∙◌}
use Rattle.phases.proofs.CutLemmas.{cut_length}
use Rattle.phases.proofs.line_list.Lines.len.Goals as goal

pub returns : goal.returns
returns c = c.len.ensures ∙ c.self.inside.ends.ok.0 ∙ sym (ap length (sym c.self.view_is) ∙ cut_length 0 c.self.inside.ends.items c.self.inside.tokens.items)
