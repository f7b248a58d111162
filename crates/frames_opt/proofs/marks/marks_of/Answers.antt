use Rattle.std.proofs.Common.{◌∙◌}
use Rattle.frames_opt.proofs.Results.{marks_kept}
use Rattle.frames_opt.proofs.marks.marks_of.Goals as goal

pub returns : goal.returns
returns c = marks_kept c.resize.new.self.len c.resize.new.self.items c.mark_each.new.marks c.args.code.now c.mark_each.ensures.marked (c.mark_each.ensures.len ∙ c.deref_mut.ensures.len)
