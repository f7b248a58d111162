use Rattle.std.proofs.Common.{◌≡◌, ◌++◌, drop, map}
use Rattle.cc.specs.Compiled.{shown_entry}
use Rattle.zikorape.specs.Answered.{entries_text}
use Rattle.zikorape.proofs.building.entries_text.Given as goal

abbrev pub invariant-loop-entry : goal.invariant-loop-entry
invariant-loop-entry l = l.text.items ++ entries_text (map shown_entry (drop l.entry-index l.entries)) ≡ entries_text (map shown_entry l.entries)
