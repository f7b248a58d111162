use Rattle.std.proofs.Common.{◌≤◌, ◌+◌, ◌*◌, length, map}
use Rattle.tree.specs.View.{piece_of}
use Rattle.parser.proofs.BlockParts.{BlockLoop}
use Rattle.parser.proofs.statements.+statements.Given as goal

abbrev pub decreases-statement : goal.decreases-statement
decreases-statement l = 8 * length l.tokens.now

abbrev pub decreases-block_item : goal.decreases-block_item
decreases-block_item l = 8 * length l.tokens.now + 1

abbrev pub decreases-block_items : goal.decreases-block_items
decreases-block_items l = 8 * length l.tokens.now + 2

abbrev pub decreases-labelled_statement : goal.decreases-labelled_statement
decreases-labelled_statement l = 8 * length l.tokens.now + 1

abbrev pub decreases-tested_statement : goal.decreases-tested_statement
decreases-tested_statement l = 8 * length l.tokens.now + 1

abbrev pub decreases-block : goal.decreases-block
decreases-block l = 8 * length l.tokens.now + 3

abbrev pub decreases-if_statement : goal.decreases-if_statement
decreases-if_statement l = 8 * length l.tokens.now + 3

abbrev pub decreases-switch_statement : goal.decreases-switch_statement
decreases-switch_statement l = 8 * length l.tokens.now + 3

abbrev pub decreases-while_statement : goal.decreases-while_statement
decreases-while_statement l = 8 * length l.tokens.now + 3

abbrev pub decreases-case_statement : goal.decreases-case_statement
decreases-case_statement l = 8 * length l.tokens.now + 3

abbrev pub decreases-default_statement : goal.decreases-default_statement
decreases-default_statement l = 8 * length l.tokens.now + 3

abbrev pub decreases-do_statement : goal.decreases-do_statement
decreases-do_statement l = 8 * length l.tokens.now + 3

abbrev pub decreases-for_statement : goal.decreases-for_statement
decreases-for_statement l = 8 * length l.tokens.now + 3

abbrev pub invariant-block_items-loop-after : goal.invariant-block_items-loop-after
invariant-block_items-loop-after l = record {
  no_longer : length l.rest ≤ length l.tokens;
  read : BlockLoop l.depth l.tokens (map piece_of l.items.items) l.deepest l.rest;
}

abbrev pub decreases-block_items-loop-after : goal.decreases-block_items-loop-after
decreases-block_items-loop-after l = length l.rest
