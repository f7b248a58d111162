use Rattle.std.proofs.Common.{◌≡◌, ◌+◌, ◌++◌, drop, map}
use Rattle.frames.specs.Layout.{starts_from}
use Rattle.frames.specs.Sizes.{literal_bytes, literal_sizes}
use Rattle.frames.proofs.starts.put_literal_starts.Given as goal

abbrev pub invariant-loop-text : goal.invariant-loop-text
invariant-loop-text l = record {
  counted : l.start + literal_bytes (map (λ text. text.items) (drop l.text-index l.literals)) ≡ l.first + literal_bytes (map (λ text. text.items) l.literals);
  done : l.starts.items ++ starts_from l.start (literal_sizes (map (λ text. text.items) (drop l.text-index l.literals))) ≡ l.initial.starts.items ++ starts_from l.first (literal_sizes (map (λ text. text.items) l.literals));
}
