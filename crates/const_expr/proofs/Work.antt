-- How much there is to do in typing an expression.
use Rattle.std.proofs.Common.{◌≡◌, ℕ, zero, suc, ◌+◌, ◌<◌, List, [], ◌∷◌, get_or, length, map, arith, subst, sym}
use Rattle.tree.specs.declared.expression.Expr.{Expr}
use Rattle.tree.specs.View.{tree_of, trees_of}
use Rattle.tree.specs.Tree.{Tree, Trees, TypeTree, hole, identifier, constant, string, paren, call, subscript, after, before, prefix, size_of, size_of_type, cast, binary, conditional, assign, no_trees, one_more, type_name}

abbrev mutual
  pub work : Tree → ℕ
  work hole = 1
  work (identifier at n) = 1
  work (constant at t v) = 1
  work (string at n) = 1
  work (paren e) = work e + 1
  work (call at f args) = works args + 2
  work (subscript at a i) = work a + work i + 3
  work (after at op a) = work a + 2
  work (before at op a) = work a + 2
  work (prefix at op a) = work a + 2
  work (size_of at a) = work a + 2
  work (size_of_type at t) = work_type t + 2
  work (cast at t a) = work_type t + work a + 2
  work (binary at op a b) = work a + work b + 3
  work (conditional at c a b) = work c + work a + work b + 3
  work (assign at op a b) = work a + work b + 3

  pub works : Trees → ℕ
  works no_trees = 1
  works (one_more e es) = work e + works es + 2

  pub work_type : TypeTree → ℕ
  work_type (type_name at specifiers sizes) = works sizes + 1

each_less : (es : List Expr) (i : ℕ) (d : Expr) → i < length es → work (tree_of (get_or es i d)) + 1 < works (trees_of (map tree_of es))
each_less [] i d h = absurd (omega (arith, h))
each_less (e ∷ es) zero d h = omega arith
each_less (e ∷ es) (suc i) d h = let k = each_less es i d (omega (arith, h)) in omega (arith, k)

-- an item of a list
pub item_less : (es : List Expr) (i : ℕ) (e : Expr) → i < length es → e ≡ get_or es i e → work (tree_of e) + 1 < works (trees_of (map tree_of es))
item_less es i e h g = subst (λ x. work (tree_of x) + 1 < works (trees_of (map tree_of es))) (sym g) (each_less es i e h)
