use Rattle.std.proofs.Common.{◌≡◌, ◌≤◌, ◌-◌, false, map, drop, length}
use Rattle.srcset.specs.NameTable.{Texts}
use Rattle.macros.specs.Definition.{names_of}
use Rattle.macros.specs.Table.{with_parameter}
use Rattle.macros_substitution.specs.HideSets.{Sets}
use Rattle.macros_substitution.specs.Meaning.{pieces_as, PiecesIn, hidden_lists}
use Rattle.macros_substitution.specs.Substitution.{Call}
use Rattle.macros_substitution.specs.inside.Reading.{read, is_function}
use Rattle.macros_substitution.proofs.ReadingLaws.{read_on}
use Rattle.macros_substitution.proofs.reading.pieces.Given as goal

abbrev pub invariant-loop-i : goal.invariant-loop-i
invariant-loop-i l = record {
  within : l.i ≤ length l.body;
  known : PiecesIn 0 l.made.items;
  same : (texts : Texts) (sets : Sets) (call : Call) → l.is_function_like ≡ is_function call → call.at ≡ l.at → call.arguments ≡ hidden_lists texts sets l.arguments
      → l.body ≡ map (with_parameter (names_of call.macro.parameters)) call.macro.body
      → read_on (pieces_as texts sets l.made.items) (read call l.after (drop l.i call.macro.body)) ≡ read call false call.macro.body;
}

abbrev pub decreases-loop-i : goal.decreases-loop-i
decreases-loop-i l = length l.body - l.i
