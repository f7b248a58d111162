use Rattle.std.proofs.Common.{sym, ◌∙◌}
use Rattle.pp.proofs.scans.Scans.passes_over.Goals as goal

pub returns-in-Some : goal.returns-in-Some
returns-in-Some c t s a h = c.in-Some.ensures s h (sym (c.is_macro.ensures s a) ∙ t)
