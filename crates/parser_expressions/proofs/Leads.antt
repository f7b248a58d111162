-- The tokens that expressions and type names begin with.
use Rattle.std.specs.Prelude.{None}
use Rattle.std.proofs.Common.{◌≤◌, List, [], ◌∷◌, sym, subst, arith}
use Rattle.srcset.specs.declared.refusal.Pos.{Pos}
use Rattle.lexer.specs.declared.token.Token.{Token}
use Rattle.lexer.specs.declared.token.Kind.{Kind}
use Rattle.lexer.specs.declared.token.Kind.TheVariants as kind
use Rattle.lexer.specs.declared.token.Keyword.{Keyword}
use Rattle.lexer.specs.declared.token.Keyword.TheVariants as keyword
use Rattle.tree.specs.declared.expression.Word.{Word}
use Rattle.tree.specs.declared.expression.Word.TheVariants as word
use Rattle.tree.specs.declared.expression.TypeSpecifier.{TypeSpecifier}
use Rattle.tree.specs.declared.expression.TypeSpecifier.TheVariants as specifier
use Rattle.tree.specs.declared.expression.PrefixOp.{PrefixOp}
use Rattle.tree.specs.declared.expression.PrefixOp.TheVariants as prefix_op
use Rattle.tree.specs.declared.expression.StepOp.{StepOp}
use Rattle.tree.specs.declared.expression.StepOp.TheVariants as step_op
use Rattle.tree.specs.Tree.{Tree, hole, identifier, constant, string, paren, call, subscript, after, before, prefix, size_of, size_of_type, cast, binary, conditional, assign, no_trees, one_more, TypeTree, type_name}
use Rattle.tree.specs.Counts.{depth}
use Rattle.parser_grammar.specs.Expressions.{prefix_sign, step_sign, word_keyword, SpellsSpecifier, Spells, SpellsType}
use Rattle.parser_grammar.specs.Tokens.{Own}
use Rattle.parser_expressions.specs.ExpressionAnswers.{KeywordBeginsType, KindBeginsType, BeginsType}
use Rattle.parser_expressions.specs.ExpressionLeads.{SignBeginsExpression, KeywordBeginsExpression, KindBeginsExpression, BeginsExpression}
use Rattle.parser_grammar.proofs.Tokens.{no_hole}

-- ---- first tokens

own_begins : (k : Kind) (at : Pos) (ts rest : List Token) → KindBeginsExpression k → Own k at ts rest → BeginsExpression ts
own_begins k at ts rest b own = subst BeginsExpression (sym own) b

prefix_begins : (op : PrefixOp) → SignBeginsExpression (prefix_sign op)
prefix_begins prefix_op.Plus = tt
prefix_begins prefix_op.Minus = tt
prefix_begins prefix_op.Complement = tt
prefix_begins prefix_op.Not = tt

step_begins : (op : StepOp) → SignBeginsExpression (step_sign op)
step_begins step_op.Increment = tt
step_begins step_op.Decrement = tt

pub whole_begins : (t : Tree) (ts rest : List Token) → Spells None t ts rest → BeginsExpression ts
whole_begins hole ts rest h = absurd (no_hole h)
whole_begins (identifier at n) ts rest h = own_begins _ at ts rest tt h
whole_begins (constant at ty n) ts rest h = own_begins _ at ts rest tt h
whole_begins (string at n) ts rest h = own_begins _ at ts rest tt h
whole_begins (paren e) ts rest h = own_begins _ _ ts _ tt h.3
whole_begins (call at f args) ts rest h = own_begins _ _ ts _ tt h.3
whole_begins (subscript at a i) ts rest h = whole_begins a ts h.0 h.4
whole_begins (after at op a) ts rest h = whole_begins a ts h.0 h.2
whole_begins (before at op a) ts rest h = own_begins _ _ ts _ (step_begins op) h.1
whole_begins (prefix at op a) ts rest h = own_begins _ _ ts _ (prefix_begins op) h.1
whole_begins (size_of at a) ts rest h = own_begins _ _ ts _ tt h.1
whole_begins (size_of_type at ty) ts rest h = own_begins _ _ ts _ tt h.3
whole_begins (cast at ty a) ts rest h = own_begins _ _ ts _ tt h.3
whole_begins (binary at op a b) ts rest h = whole_begins a ts h.0 h.3
whole_begins (conditional at c a b) ts rest h = whole_begins c ts h.0 h.5
whole_begins (assign at op a b) ts rest h = whole_begins a ts h.0 h.3

-- each whole tree has a node or a pair
pub whole_deep : (t : Tree) (ts rest : List Token) → Spells None t ts rest → 1 ≤ depth t
whole_deep hole ts rest h = absurd (no_hole h)
whole_deep t ts rest h = omega arith

-- a token that begins no expression
pub no_begin : (t : Tree) (k : Kind) (at : Pos) (ts us rest : List Token) → (KindBeginsExpression k → ⊥) → Own k at ts us → Spells None t ts rest → ⊥
no_begin t k at ts us rest none own h = none (subst BeginsExpression own (whole_begins t ts rest h))

keyword_apart : (k : Keyword) → KeywordBeginsType k → KeywordBeginsExpression k → ⊥
keyword_apart keyword.Sizeof a b = a
keyword_apart k a b = b

kind_apart : (k : Kind) → KindBeginsType k → KindBeginsExpression k → ⊥
kind_apart (kind.Keyword k) a b = keyword_apart k a b
kind_apart k a b = a

-- no token begins both a type and an expression
pub begins_apart : (ts : List Token) → BeginsType ts → BeginsExpression ts → ⊥
begins_apart [] a b = a
begins_apart (t ∷ ts) a b = kind_apart t.kind a b

-- a type name begins with a token of a type
word_begins : (w : Word) → KeywordBeginsType (word_keyword w)
word_begins word.Void = tt
word_begins word.Char = tt
word_begins word.Short = tt
word_begins word.Int = tt
word_begins word.Long = tt
word_begins word.Signed = tt
word_begins word.Unsigned = tt
word_begins word.Bool = tt

own_begins_type : (k : Kind) (at : Pos) (ts rest : List Token) → KindBeginsType k → Own k at ts rest → BeginsType ts
own_begins_type k at ts rest b own = subst BeginsType (sym own) b

pub specifier_begins : (s : TypeSpecifier) (ts r : List Token) → SpellsSpecifier s ts r → BeginsType ts
specifier_begins specifier.Const ts r h = own_begins_type _ _ ts r tt h.1
specifier_begins (specifier.Word w) ts r h = own_begins_type _ _ ts r (word_begins w) h.1
specifier_begins (specifier.Enum tag) ts r h = own_begins_type _ _ ts _ tt h.3

pub type_begins : (ty : TypeTree) (ts r : List Token) → SpellsType None ty ts r → BeginsType ts
type_begins (type_name at [] no_trees) ts r h = absurd h
type_begins (type_name at [] (one_more e es)) ts r h = absurd h
type_begins (type_name at (s ∷ ss) sizes) ts r h = specifier_begins s ts h.2.0 h.2.1
