use Rattle.std.proofs.Common.{◌≡◌, ◌++◌, drop, map}
use Rattle.frames.specs.Translated.{translated}
use Rattle.frames.specs.layer.Alone.{starts_in}
use Rattle.frames.specs.inside.Held.{layout_in}
use Rattle.frames.proofs.functions.put_code.Given as goal

abbrev pub invariant-loop-instruction : goal.invariant-loop-instruction
invariant-loop-instruction l =
    l.code.items ++ map (translated (starts_in l.starts) (layout_in l.layout)) (drop l.instruction-index l.instructions) ≡ l.initial.code.items ++ map (translated (starts_in l.starts) (layout_in l.layout)) l.instructions
