-- The counts of the known functions.
use Rattle.std.proofs.Common.{◌≡◌, ℕ, zero, suc, ◌+◌, refl, arith}
use Rattle.srcset.specs.declared.refusal.Pos.{Pos}
use Rattle.tree.specs.Tree.{Tree}
use Rattle.tree.specs.Counts.{depth, nodes, function_depth}
use Rattle.tree.specs.Rows.{in_parens, nested, number}

pub parens_nodes : (n : ℕ) (e : Tree) → nodes (in_parens n e) ≡ nodes e
unfolding in_parens
parens_nodes zero e = refl
parens_nodes (suc n) e = parens_nodes n e

pub parens_depth : (n : ℕ) (e : Tree) → depth (in_parens n e) ≡ n + depth e
unfolding in_parens
parens_depth zero e = omega arith
parens_depth (suc n) e = let more = parens_depth n e in omega arith

pub nested_depth : (p : Pos) → function_depth (nested 252 p) ≡ 256
nested_depth p = let deep : depth (in_parens 252 (number p 0)) ≡ 253 = parens_depth 252 (number p 0) in omega arith
