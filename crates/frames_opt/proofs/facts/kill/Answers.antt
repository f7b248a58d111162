use Rattle.frames_opt.specs.inside.Facts.{killed}
use Rattle.frames_opt.proofs.Lists.{each_of_eight}
use Rattle.frames_opt.proofs.facts.kill.Goals as goal

pub returns : goal.returns
returns c =
    each_of_eight (killed c.args.target) c.args.facts.now c.told-facts c.killed.result c.killed-2.result c.killed-3.result c.killed-4.result c.killed-5.result c.killed-6.result c.killed-7.result c.killed-8.result
    c.killed.ensures c.killed-2.ensures c.killed-3.ensures c.killed-4.ensures c.killed-5.ensures c.killed-6.ensures c.killed-7.ensures c.killed-8.ensures
