-- Functions whose counts are known, and the law of parentheses. Places and numbers of names do not matter.
use Rattle.std.specs.Prelude.{◌≡◌, ℕ, zero, suc, ◌+◌, List, [], ◌∷◌, None, Some}
use Rattle.srcset.specs.declared.refusal.Pos.{Pos}
use Rattle.ctypes.specs.declared.types.IntType.TheVariants as ty
use Rattle.tree.specs.declared.expression.Word.TheVariants as word
use Rattle.tree.specs.declared.expression.TypeSpecifier.TheVariants as specifier
use Rattle.tree.specs.declared.expression.BinaryOp.TheVariants as op
use Rattle.tree.specs.Tree.{Tree, identifier, constant, paren, call, binary, no_trees, one_more, plain_specifier, ParameterTree, object, declared, StmtTree, if_stmt, return_stmt, declaration_item, statement_item, Pieces, no_pieces, and_piece, FunctionTree}
use Rattle.tree.specs.Counts.{depth, nodes, function_nodes, weight_of}

-- int NAME(PARAMETERS) { BODY }
abbrev pub of_int : Pos → List ParameterTree → Pieces → FunctionTree
of_int p parameters body = record {
  start = p;
  specifiers = plain_specifier (specifier.Word word.Int) ∷ [];
  at = p;
  name = 0;
  parameters = parameters;
  brace = p;
  body = body;
}

abbrev pub number : Pos → ℕ → Tree
number p n = constant p ty.Int n

abbrev pub return : Pos → Tree → StmtTree
return p e = return_stmt p (Some e)

-- int main(void) { return 42; }
abbrev pub answer : Pos → FunctionTree
answer p = of_int p [] (and_piece (statement_item (return p (number p 42))) no_pieces)

-- int f(int n) { if (n == 0) return 0; return f(n - 1); }
abbrev pub countdown : Pos → FunctionTree
countdown p = of_int p
    (record { at = p; start = p; specifiers = specifier.Word word.Int ∷ []; name = Some 1; sizes = [] } ∷ [])
    (and_piece (statement_item (if_stmt p (binary p op.Equal (identifier p 1) (number p 0)) (return p (number p 0))))
    (and_piece (statement_item (return p (call p 0 (one_more (binary p op.Sub (identifier p 1) (number p 1)) no_trees)))) no_pieces))

-- int main(void) { char pad[208]; return f(3447); }
abbrev pub padded : Pos → FunctionTree
padded p = of_int p []
    (and_piece (declaration_item (declared p (plain_specifier (specifier.Word word.Char) ∷ []) (object p 2 (Some (number p 208) ∷ []) None ∷ [])))
    (and_piece (statement_item (return p (call p 0 (one_more (number p 3447) no_trees)))) no_pieces))

-- an expression in a number of pairs of parentheses
unfoldable pub in_parens : ℕ → Tree → Tree
in_parens zero e = e
in_parens (suc n) e = paren (in_parens n e)

-- int main(void) { return ((..0..)); }
abbrev pub nested : ℕ → Pos → FunctionTree
nested n p = of_int p [] (and_piece (statement_item (return p (in_parens n (number p 0)))) no_pieces)

-- a pair of parentheses is no node, and counts for the depth
abbrev pub ParensAreNoNodes : Type 0
ParensAreNoNodes = (n : ℕ) (e : Tree) → nodes (in_parens n e) ≡ nodes e

abbrev pub ParensAreDeep : Type 0
ParensAreDeep = (n : ℕ) (e : Tree) → depth (in_parens n e) ≡ n + depth e

-- the node count of this function, and its weight for objects of `bytes` bytes
pub record HasCounts (f : FunctionTree) (count bytes weight : ℕ) : Type 0 where
  pub counted : function_nodes f ≡ count
  pub weighed : weight_of count bytes ≡ weight
