use Rattle.std.proofs.Common.{◌<◌, length, map}
use Rattle.tree.specs.View.{enumerator_of}
use Rattle.parser_declarations.proofs.EnumeratorLists.{EnumeratorsLoop}
use Rattle.parser_declarations.proofs.enumerators.enumerators.Given as goal

abbrev pub invariant-loop-after : goal.invariant-loop-after
invariant-loop-after l = record {
  shorter : length l.rest < length l.tokens;
  read : EnumeratorsLoop l.depth l.tokens (map enumerator_of l.list.items) l.deepest l.rest;
}

abbrev pub decreases-loop-after : goal.decreases-loop-after
decreases-loop-after l = length l.rest
