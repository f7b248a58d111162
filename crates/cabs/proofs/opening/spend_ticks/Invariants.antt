use Rattle.typing_spec.specs.Program as typed
use Rattle.std.proofs.Common.{List}
use Rattle.interp_store.specs.declared.scene.Scene.{Scene}
use Rattle.interp_store.specs.layer.Frames as on
use Rattle.interp_eval.specs.layer.Comes.{Course, Spends}
use Rattle.cabs.specs.inside.Sweeping.{After, steps_to}
use Rattle.cabs.proofs.opening.spend_ticks.Given as goal

abbrev pub invariant-loop-left : goal.invariant-loop-left
invariant-loop-left l = record {
  spends : Spends l.initial.clock.spent l.clock.spent l.limit;
  does : (c : Course) (p : typed.Program) (fs : List on.Frame) (scene : Scene) (late : on.Late) → After c p l.initial.clock.spent fs scene (steps_to (on.enters (on.ticking l.more late))) →
      After c p l.clock.spent fs scene (steps_to (on.enters (on.ticking l.left late)));
}

abbrev pub decreases-loop-left : goal.decreases-loop-left
decreases-loop-left l = l.left
