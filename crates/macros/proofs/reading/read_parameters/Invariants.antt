use Rattle.std.proofs.Common.{◌≡◌, ◌+◌, ◌++◌, ◌-◌, ◌≤◌, ℕ, Bool, List, drop, length, None}
use Rattle.srcset.specs.NameTable.{Texts, KeepsNumbers, NumbersOnce}
use Rattle.macros.specs.inside.Reading.{IsRead, read_from, KeepsTables}
use Rattle.macros.proofs.reading.read_parameters.Given as goal

abbrev pub invariant-loop-at : goal.invariant-loop-at
invariant-loop-at l = record {
  some : (texts : Texts) (numbers : List ℕ) (variadic : Bool) (len : ℕ) → KeepsNumbers l.names texts → IsRead texts numbers variadic len (read_from (drop l.at l.tokens)) → IsRead texts (l.numbers.items ++ numbers) variadic (l.at + len) (read_from l.tokens);
  none : read_from (drop l.at l.tokens) ≡ None → read_from l.tokens ≡ None;
  once : NumbersOnce l.names;
  within : l.at ≤ length l.tokens;
  keeps : KeepsNumbers l.fn.names l.names;
  tables : KeepsTables l.fn.names l.names;
}

abbrev pub decreases-loop-at : goal.decreases-loop-at
decreases-loop-at l = length l.tokens - l.at
