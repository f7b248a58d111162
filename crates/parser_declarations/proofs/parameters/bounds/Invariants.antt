use Rattle.std.proofs.Common.{◌≤◌, length, map}
use Rattle.tree.specs.View.{option_tree}
use Rattle.parser_declarations.proofs.BoundsLists.{BoundsLoop}
use Rattle.parser_declarations.proofs.parameters.bounds.Given as goal

abbrev pub invariant-loop-after : goal.invariant-loop-after
invariant-loop-after l = record {
  no_longer : length l.rest ≤ length l.tokens;
  read : BoundsLoop l.depth l.tokens (map option_tree l.sizes.items) l.deepest l.rest;
}

abbrev pub decreases-loop-after : goal.decreases-loop-after
decreases-loop-after l = length l.rest
