use Rattle.std.proofs.Common.{List, map, refl, rules}
use Rattle.tree.specs.Counts.{piece_depth, pieces_depth}
use Rattle.tree.specs.View.{pieces_of, piece_of}
use Rattle.tree.specs.declared.statement.BlockItem.{BlockItem}
use Rattle.tree.proofs.Sums.{capped32_one, next_max}
use Rattle.tree.specs.declared.statement.Stmt.{the_lemmas}
use Rattle.tree.proofs.+statement_depth.Goals as goal

pub statement::Stmt::depth-returns-in-Empty : goal.statement::Stmt::depth-returns-in-Empty
statement::Stmt::depth-returns-in-Empty t c = rw c.in-Empty.is (search (rules, the_lemmas, capped32_one))

pub statement::Stmt::depth-returns-in-Break : goal.statement::Stmt::depth-returns-in-Break
statement::Stmt::depth-returns-in-Break t c = rw c.in-Break.is (search (rules, the_lemmas, capped32_one))

pub statement::Stmt::depth-returns-in-Continue : goal.statement::Stmt::depth-returns-in-Continue
statement::Stmt::depth-returns-in-Continue t c = rw c.in-Continue.is (search (rules, the_lemmas, capped32_one))

pub depths::block_items_depth-loop-item-preserved : goal.depths::block_items_depth-loop-item-preserved
depths::block_items_depth-loop-item-preserved t c = next_max (λ (xs : List BlockItem). pieces_depth (pieces_of (map piece_of xs)))
    (λ (x : BlockItem). piece_depth (piece_of x)) refl (λ _ _. refl) c.args.items.now c.loop-item.item-index c.item-item.result c.loop-item-test.true _ _ _
    c.loop-item.invariant c.item-item.is c.depth.ensures c.greater-deepest.ensures
