use Rattle.std.proofs.Common.{◌≡◌, ◌+◌, ◌-◌, map}
use Rattle.typed_ast.specs.View.{object_type_of}
use Rattle.csem.specs.Statements.{all_renewed}
use Rattle.interp_store.specs.layer.Agrees.{Outside, state_in}
use Rattle.interp_steps.proofs.objects.renew_all.Given as goal

abbrev pub invariant-loop-i : goal.invariant-loop-i
invariant-loop-i l = (o : Outside) → all_renewed (map object_type_of l.objects) (l.first + l.i) (l.count - l.i) (state_in l.scene o) ≡
    all_renewed (map object_type_of l.objects) l.first l.count (state_in l.initial.scene o)
