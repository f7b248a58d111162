use Rattle.std.proofs.Common.{◌≡◌, ◌≤◌, ◌++◌, drop}
use Rattle.frames.specs.Translated.{moves_from}
use Rattle.frames.specs.inside.Held.{layout_in}
use Rattle.frames.proofs.functions.put_moves.Given as goal

abbrev pub invariant-loop-parameter : goal.invariant-loop-parameter
invariant-loop-parameter l = record {
  at : l.number ≡ l.parameter-index;
  objects : l.object ≤ l.parameter-index;
  references : l.reference ≤ l.parameter-index;
  done : l.code.items ++ moves_from (layout_in l.layout) l.number l.object l.reference (drop l.parameter-index l.parameters) ≡ l.initial.code.items ++ moves_from (layout_in l.layout) 0 0 0 l.parameters;
}
