use Rattle.std.proofs.Common.{◌+◌}
use Rattle.typed_ast.specs.View.{value_of}
use Rattle.interp_eval.proofs.Work.{work}
use Rattle.cabs.proofs.sweeping.+descending.Given as goal

abbrev pub decreases-descend : goal.decreases-descend
decreases-descend l = work (value_of l.e.now)

abbrev pub decreases-later : goal.decreases-later
decreases-later l = work (value_of l.e.now) + 1

abbrev pub decreases-binary : goal.decreases-binary
decreases-binary l = work (value_of l.a.now) + work (value_of l.b.now) + 2

abbrev pub decreases-assigned : goal.decreases-assigned
decreases-assigned l = work (value_of l.e.now) + 2

abbrev pub decreases-combined : goal.decreases-combined
decreases-combined l = work (value_of l.e.now) + 2

abbrev pub decreases-both_true : goal.decreases-both_true
decreases-both_true l = work (value_of l.a.now) + work (value_of l.b.now) + 2

abbrev pub decreases-one_true : goal.decreases-one_true
decreases-one_true l = work (value_of l.a.now) + work (value_of l.b.now) + 2

abbrev pub decreases-chosen : goal.decreases-chosen
decreases-chosen l = work (value_of l.c.now) + work (value_of l.choice.a.now) + work (value_of l.choice.b.now) + 2

abbrev pub decreases-picked : goal.decreases-picked
decreases-picked l = work (value_of l.e.now) + 1
