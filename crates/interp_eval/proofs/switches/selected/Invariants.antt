use Rattle.std.proofs.Common.{◌≡◌, ℕ, length, map}
use Rattle.std.specs.Prelude.{drop}
use Rattle.typing_spec.specs.Program as typed
use Rattle.typed_ast.specs.View.{statement_of, statements_of}
use Rattle.csem.specs.Machine.{State, Run}
use Rattle.interp_store.specs.declared.scene.Scene.{Scene}
use Rattle.interp_store.specs.layer.Frames.{Found}
use Rattle.interp_eval.specs.layer.Comes.{Course, Leads, Spends, selected}
use Rattle.interp_eval.proofs.Jumps.{choosing}
use Rattle.interp_eval.proofs.switches.selected.Given as goal

abbrev pub decreases-loop-a : goal.decreases-loop-a
decreases-loop-a l = length l.rest

abbrev pub invariant-loop-a : goal.invariant-loop-a
invariant-loop-a l = record {
  spends : Spends l.initial.clock.spent l.clock.spent l.scope.limit;
  left : (k : ℕ) × (l.rest ≡ drop k l.all);
  passed : (k : ℕ) × (l.default ≡ drop k l.all);
  leads : (c : Course) (scene : Scene) (rest : typed.Statements → State → Run Found) →
      Leads c l.initial.clock.spent scene (selected l.value (statements_of (map statement_of l.all))) rest →
      Leads c l.clock.spent scene (choosing l.value (statements_of (map statement_of l.rest)) (statements_of (map statement_of l.default))) rest;
}
