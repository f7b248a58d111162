use Rattle.std.proofs.Common.{◌≡◌, ◌+◌, ◌-◌}
use Rattle.csem.specs.Statements.{zeros}
use Rattle.interp_store.specs.View.{reference_of}
use Rattle.interp_store.specs.layer.Agrees.{Outside, state_in}
use Rattle.interp_steps.proofs.elements.clear.Given as goal

abbrev pub invariant-loop-i : goal.invariant-loop-i
invariant-loop-i l = (o : Outside) → zeros (l.end - l.i) (l.first + l.i) (reference_of l.r) (state_in l.scene o) ≡
    zeros l.end l.first (reference_of l.r) (state_in l.initial.scene o)
