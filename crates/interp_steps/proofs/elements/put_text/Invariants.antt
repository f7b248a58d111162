use Rattle.std.proofs.Common.{◌≡◌, ◌-◌, drop}
use Rattle.csem.specs.Statements.{characters}
use Rattle.interp_store.specs.View.{reference_of}
use Rattle.interp_store.specs.layer.Agrees.{Outside, state_in}
use Rattle.interp_steps.proofs.elements.put_text.Given as goal

abbrev pub invariant-loop-i : goal.invariant-loop-i
invariant-loop-i l = (o : Outside) → characters l.ty (l.count - l.i) l.i (drop l.i l.text) (reference_of l.r) (state_in l.scene o) ≡
    characters l.ty l.count 0 l.text (reference_of l.r) (state_in l.initial.scene o)
