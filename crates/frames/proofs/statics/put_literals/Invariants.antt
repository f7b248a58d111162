use Rattle.std.proofs.Common.{◌≡◌, ◌+◌, ◌++◌, drop, length, map}
use Rattle.frames.specs.Data.{bytes_of_literals}
use Rattle.frames.specs.Sizes.{literal_bytes}
use Rattle.frames.proofs.statics.put_literals.Given as goal

abbrev pub invariant-loop-text : goal.invariant-loop-text
invariant-loop-text l = record {
  counted : length l.bytes.items + literal_bytes (map (λ text. text.items) (drop l.text-index l.literals)) ≡ length l.initial.bytes.items + literal_bytes (map (λ text. text.items) l.literals);
  done : l.bytes.items ++ bytes_of_literals (map (λ text. text.items) (drop l.text-index l.literals)) ≡ l.initial.bytes.items ++ bytes_of_literals (map (λ text. text.items) l.literals);
}
