use Rattle.std.proofs.Common.{◌≡◌, ◌≤◌, ◌+◌, drop, map, min}
use Rattle.frames.specs.Sizes.{literal_bytes}
use Rattle.test_tac_soundness.proofs.statics.literals_size.Given as goal

abbrev pub invariant-loop-text : goal.invariant-loop-text
invariant-loop-text l = record {
  counted : min (l.total + literal_bytes (map (λ text. text.items) (drop l.text-index l.literals))) 16777217 ≡ min (literal_bytes (map (λ text. text.items) l.literals)) 16777217;
  few : l.total ≤ 16777217;
}
