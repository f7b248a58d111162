use Rattle.frames_opt.proofs.Results.{marks_stay}
use Rattle.frames_opt.proofs.marks.mark_each.Goals as goal

pub returns-clause-marked : goal.returns-clause-marked
returns-clause-marked c = marks_stay c.args.marks.now c.mark_all.new.marks c.mark_shared.new.marks c.args.code.now c.mark_all.ensures c.mark_shared.ensures.more
