use Rattle.std.proofs.Common.{List, map, refl, rules}
use Rattle.tree.specs.Counts.{piece_nodes, pieces_nodes}
use Rattle.tree.specs.View.{pieces_of, piece_of}
use Rattle.tree.specs.declared.statement.BlockItem.{BlockItem}
use Rattle.tree.proofs.Sums.{capped_one, next_sum}
use Rattle.tree.specs.declared.statement.Stmt.{the_lemmas}
use Rattle.tree.proofs.+statement_nodes.Goals as goal

pub statement::Stmt::nodes-returns-in-Empty : goal.statement::Stmt::nodes-returns-in-Empty
statement::Stmt::nodes-returns-in-Empty t c = rw c.in-Empty.is (search (rules, the_lemmas, capped_one))

pub statement::Stmt::nodes-returns-in-Break : goal.statement::Stmt::nodes-returns-in-Break
statement::Stmt::nodes-returns-in-Break t c = rw c.in-Break.is (search (rules, the_lemmas, capped_one))

pub statement::Stmt::nodes-returns-in-Continue : goal.statement::Stmt::nodes-returns-in-Continue
statement::Stmt::nodes-returns-in-Continue t c = rw c.in-Continue.is (search (rules, the_lemmas, capped_one))

pub node_counts::block_items_nodes-loop-item-preserved : goal.node_counts::block_items_nodes-loop-item-preserved
node_counts::block_items_nodes-loop-item-preserved t c = next_sum (λ (xs : List BlockItem). pieces_nodes (pieces_of (map piece_of xs)))
    (λ (x : BlockItem). piece_nodes (piece_of x)) refl (λ _ _. refl) c.args.items.now c.loop-item.item-index c.item-item.result c.loop-item-test.true _ _ _
    c.loop-item.invariant c.item-item.is c.nodes.ensures c.sum-total.ensures
