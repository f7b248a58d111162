use Rattle.std.proofs.Common.{◌≡◌, [], drop, take}
use Rattle.macros.specs.inside.Reading.{distinct_from}
use Rattle.macros.proofs.reading.distinct.Given as goal

abbrev pub invariant-loop-number : goal.invariant-loop-number
invariant-loop-number l = record {
  keys : l.set.keys ≡ take l.number-index l.numbers;
  rest : distinct_from [] l.numbers ≡ distinct_from l.set.keys (drop l.number-index l.numbers);
}
