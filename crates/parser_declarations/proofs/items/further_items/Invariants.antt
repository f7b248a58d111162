use Rattle.std.proofs.Common.{◌≡◌, ◌≤◌, List, ◌∷◌, length, map}
use Rattle.tree.specs.Tree.{ItemTree}
use Rattle.tree.specs.View.{item_of}
use Rattle.parser_declarations.proofs.ItemFacts.{ItemLoop}
use Rattle.parser_declarations.proofs.items.further_items.Given as goal

abbrev pub invariant-loop-after : goal.invariant-loop-after
invariant-loop-after l = record {
  no_longer : length l.rest ≤ length l.tokens;
  read : (is : List ItemTree) × (map item_of l.items.items ≡ item_of l.fn.first ∷ is) × ItemLoop l.scope l.depth l.tokens is l.deepest l.rest;
}

abbrev pub decreases-loop-after : goal.decreases-loop-after
decreases-loop-after l = length l.rest
