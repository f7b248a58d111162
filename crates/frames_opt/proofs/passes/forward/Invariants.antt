use Rattle.std.proofs.Common.{◌≡◌, ◌++◌, drop}
use Rattle.frames_opt.specs.inside.Facts.{nothing}
use Rattle.frames_opt.specs.inside.Passes as passes
use Rattle.frames_opt.specs.inside.Sweep as sweep
use Rattle.frames_opt.proofs.passes.forward.Given as goal

abbrev pub invariant-loop-number : goal.invariant-loop-number
invariant-loop-number l =
    (l.made.items ++ passes.forward l.room l.marks l.number l.facts (drop l.number l.code) ≡ passes.forward l.room l.marks 0 nothing l.code)
    × (l.list.items ++ sweep.offers l.room l.marks l.number l.facts (drop l.number l.code) ≡ sweep.offers l.room l.marks 0 nothing l.code)
