-- The grammar of expressions and type names (ISO/IEC 9899:2011 6.5, 6.7.7), by cases on the tree.
use Rattle.std.specs.Prelude.{◌≡◌, ℕ, ◌<◌, ◌≤◌, Option, List, [], ◌∷◌}
use Rattle.srcset.specs.declared.refusal.Pos.{Pos}
use Rattle.lexer.specs.declared.token.Token.{Token}
use Rattle.lexer.specs.declared.token.Kind.TheVariants as kind
use Rattle.lexer.specs.declared.token.Keyword.{Keyword}
use Rattle.lexer.specs.declared.token.Keyword.TheVariants as keyword
use Rattle.lexer.specs.declared.token.Punctuator.{Punctuator}
use Rattle.lexer.specs.declared.token.Punctuator.TheVariants as sign
use Rattle.tree.specs.declared.expression.Word.{Word}
use Rattle.tree.specs.declared.expression.Word.TheVariants as word
use Rattle.tree.specs.declared.expression.TypeSpecifier.{TypeSpecifier}
use Rattle.tree.specs.declared.expression.TypeSpecifier.TheVariants as specifier
use Rattle.tree.specs.declared.expression.PrefixOp.{PrefixOp}
use Rattle.tree.specs.declared.expression.PrefixOp.TheVariants as prefix_op
use Rattle.tree.specs.declared.expression.StepOp.{StepOp}
use Rattle.tree.specs.declared.expression.StepOp.TheVariants as step_op
use Rattle.tree.specs.declared.expression.BinaryOp.{BinaryOp}
use Rattle.tree.specs.declared.expression.BinaryOp.TheVariants as binary_op
use Rattle.tree.specs.declared.expression.AssignOp.{AssignOp}
use Rattle.tree.specs.declared.expression.AssignOp.TheVariants as assign_op
use Rattle.tree.specs.Tree.{Tree, hole, identifier, constant, string, paren, call, subscript, after, before, prefix, size_of, size_of_type, cast, binary, conditional, assign, Trees, no_trees, one_more, TypeTree, type_name}
use Rattle.parser_grammar.specs.Tokens.{Missing, Own, Sign, StartsAt}

-- ---- the tokens of operators and words

abbrev pub binary_sign : BinaryOp → Punctuator
binary_sign binary_op.Mul = sign.Star
binary_sign binary_op.Div = sign.Slash
binary_sign binary_op.Rem = sign.Percent
binary_sign binary_op.Add = sign.Plus
binary_sign binary_op.Sub = sign.Minus
binary_sign binary_op.ShiftLeft = sign.ShiftLeft
binary_sign binary_op.ShiftRight = sign.ShiftRight
binary_sign binary_op.Less = sign.Less
binary_sign binary_op.Greater = sign.Greater
binary_sign binary_op.LessEqual = sign.LessEqual
binary_sign binary_op.GreaterEqual = sign.GreaterEqual
binary_sign binary_op.Equal = sign.EqualEqual
binary_sign binary_op.NotEqual = sign.BangEqual
binary_sign binary_op.BitAnd = sign.Ampersand
binary_sign binary_op.BitXor = sign.Caret
binary_sign binary_op.BitOr = sign.Bar
binary_sign binary_op.And = sign.AndAnd
binary_sign binary_op.Or = sign.BarBar
binary_sign binary_op.Comma = sign.Comma

abbrev pub prefix_sign : PrefixOp → Punctuator
prefix_sign prefix_op.Plus = sign.Plus
prefix_sign prefix_op.Minus = sign.Minus
prefix_sign prefix_op.Complement = sign.Tilde
prefix_sign prefix_op.Not = sign.Bang

abbrev pub step_sign : StepOp → Punctuator
step_sign step_op.Increment = sign.PlusPlus
step_sign step_op.Decrement = sign.MinusMinus

abbrev pub assign_sign : AssignOp → Punctuator
assign_sign assign_op.Plain = sign.Assign
assign_sign assign_op.Mul = sign.StarAssign
assign_sign assign_op.Div = sign.SlashAssign
assign_sign assign_op.Rem = sign.PercentAssign
assign_sign assign_op.Add = sign.PlusAssign
assign_sign assign_op.Sub = sign.MinusAssign
assign_sign assign_op.ShiftLeft = sign.ShiftLeftAssign
assign_sign assign_op.ShiftRight = sign.ShiftRightAssign
assign_sign assign_op.BitAnd = sign.AmpersandAssign
assign_sign assign_op.BitXor = sign.CaretAssign
assign_sign assign_op.BitOr = sign.BarAssign

abbrev pub word_keyword : Word → Keyword
word_keyword word.Void = keyword.Void
word_keyword word.Char = keyword.Char
word_keyword word.Short = keyword.Short
word_keyword word.Int = keyword.Int
word_keyword word.Long = keyword.Long
word_keyword word.Signed = keyword.Signed
word_keyword word.Unsigned = keyword.Unsigned
word_keyword word.Bool = keyword.Bool

-- ---- layers

-- The layers, from the loosest (6.5.1 to 6.5.17): 0 expression, 1 assignment, 2 conditional, 3 logical OR, 4 logical AND,
-- 5 inclusive OR, 6 exclusive OR, 7 AND, 8 equality, 9 relational, 10 shift, 11 additive, 12 multiplicative, 13 cast,
-- 14 unary, 15 postfix, 16 primary.
abbrev pub layer_of : BinaryOp → ℕ
layer_of binary_op.Mul = 12
layer_of binary_op.Div = 12
layer_of binary_op.Rem = 12
layer_of binary_op.Add = 11
layer_of binary_op.Sub = 11
layer_of binary_op.ShiftLeft = 10
layer_of binary_op.ShiftRight = 10
layer_of binary_op.Less = 9
layer_of binary_op.Greater = 9
layer_of binary_op.LessEqual = 9
layer_of binary_op.GreaterEqual = 9
layer_of binary_op.Equal = 8
layer_of binary_op.NotEqual = 8
layer_of binary_op.BitAnd = 7
layer_of binary_op.BitXor = 6
layer_of binary_op.BitOr = 5
layer_of binary_op.And = 4
layer_of binary_op.Or = 3
layer_of binary_op.Comma = 0

-- the tightest layer that a tree belongs to
abbrev pub layer : Tree → ℕ
layer hole = 16
layer (identifier at n) = 16
layer (constant at ty value) = 16
layer (string at n) = 16
layer (paren e) = 16
layer (call at f args) = 16
layer (subscript at a i) = 15
layer (after at op a) = 15
layer (before at op a) = 14
layer (prefix at op a) = 14
layer (size_of at a) = 14
layer (size_of_type at ty) = 14
layer (cast at ty a) = 13
layer (binary at op a b) = layer_of op
layer (conditional at c a b) = 2
layer (assign at op a b) = 1

-- 6.7.2, 6.7.3
abbrev pub SpellsSpecifier : TypeSpecifier → List Token → List Token → Type 0
SpellsSpecifier specifier.Const ts rest = (at : Pos) × Own (kind.Keyword keyword.Const) at ts rest
SpellsSpecifier (specifier.Word w) ts rest = (at : Pos) × Own (kind.Keyword (word_keyword w)) at ts rest
SpellsSpecifier (specifier.Enum tag) ts rest = (t1 : List Token) × (at : Pos) × (o : Pos) × Own (kind.Keyword keyword.Enum) at ts t1
    × Own (kind.Identifier tag) o t1 rest

abbrev pub SpellsSpecifiers : List TypeSpecifier → List Token → List Token → Type 0
SpellsSpecifiers [] ts rest = ts ≡ rest
SpellsSpecifiers (s ∷ ss) ts rest = (t1 : List Token) × SpellsSpecifier s ts t1 × SpellsSpecifiers ss t1 rest

-- The tree spells the front of ts up to rest, by the layers of the grammar. A begun tree (Some cut) may lack
-- parts where its front ends, but no node lacks its own token.
abbrev mutual
  pub Spells : Option (List Token) → Tree → List Token → List Token → Type 0
  Spells b hole ts rest = Missing b ts rest
  -- 6.5.1
  Spells b (identifier at n) ts rest = Own (kind.Identifier n) at ts rest
  Spells b (constant at ty value) ts rest = Own (kind.Constant ty value) at ts rest
  Spells b (string at n) ts rest = Own (kind.StringLiteral n) at ts rest
  Spells b (paren e) ts rest = (t1 : List Token) × (t2 : List Token) × (at : Pos) × Own (kind.Punctuator sign.ParenOpen) at ts t1
      × Spells b e t1 t2 × Sign b sign.ParenClose t2 rest
  -- 6.5.2
  Spells b (call at f args) ts rest = (t1 : List Token) × (t2 : List Token) × (t3 : List Token) × Own (kind.Identifier f) at ts t1
      × Sign b sign.ParenOpen t1 t2 × SpellsArguments b args t2 t3 × Sign b sign.ParenClose t3 rest
  Spells b (subscript at a i) ts rest = (t1 : List Token) × (t2 : List Token) × (t3 : List Token) × (15 ≤ layer a) × Spells b a ts t1
      × Own (kind.Punctuator sign.BracketOpen) at t1 t2 × Spells b i t2 t3 × Sign b sign.BracketClose t3 rest
  Spells b (after at op a) ts rest = (t1 : List Token) × (15 ≤ layer a) × Spells b a ts t1 × Own (kind.Punctuator (step_sign op)) at t1 rest
  -- 6.5.3
  Spells b (before at op a) ts rest = (t1 : List Token) × Own (kind.Punctuator (step_sign op)) at ts t1 × (14 ≤ layer a) × Spells b a t1 rest
  Spells b (prefix at op a) ts rest = (t1 : List Token) × Own (kind.Punctuator (prefix_sign op)) at ts t1 × (13 ≤ layer a) × Spells b a t1 rest
  Spells b (size_of at a) ts rest = (t1 : List Token) × Own (kind.Keyword keyword.Sizeof) at ts t1 × (14 ≤ layer a) × Spells b a t1 rest
  Spells b (size_of_type at ty) ts rest = (t1 : List Token) × (t2 : List Token) × (t3 : List Token) × Own (kind.Keyword keyword.Sizeof) at ts t1
      × Sign b sign.ParenOpen t1 t2 × SpellsType b ty t2 t3 × Sign b sign.ParenClose t3 rest
  -- 6.5.4
  Spells b (cast at ty a) ts rest = (t1 : List Token) × (t2 : List Token) × (t3 : List Token) × Own (kind.Punctuator sign.ParenOpen) at ts t1
      × SpellsType b ty t1 t2 × Sign b sign.ParenClose t2 t3 × (13 ≤ layer a) × Spells b a t3 rest
  -- 6.5.5 to 6.5.14, 6.5.17
  Spells b (binary at op l r) ts rest = (t1 : List Token) × (t2 : List Token) × (layer_of op ≤ layer l) × Spells b l ts t1
      × Own (kind.Punctuator (binary_sign op)) at t1 t2 × (layer_of op < layer r) × Spells b r t2 rest
  -- 6.5.15
  Spells b (conditional at c x y) ts rest = (t1 : List Token) × (t2 : List Token) × (t3 : List Token) × (t4 : List Token)
      × (3 ≤ layer c) × Spells b c ts t1 × Own (kind.Punctuator sign.Question) at t1 t2 × Spells b x t2 t3
      × Sign b sign.Colon t3 t4 × (2 ≤ layer y) × Spells b y t4 rest
  -- 6.5.16
  Spells b (assign at op l r) ts rest = (t1 : List Token) × (t2 : List Token) × (14 ≤ layer l) × Spells b l ts t1
      × Own (kind.Punctuator (assign_sign op)) at t1 t2 × (1 ≤ layer r) × Spells b r t2 rest

  -- arguments with a comma between any two
  pub SpellsArguments : Option (List Token) → Trees → List Token → List Token → Type 0
  SpellsArguments b no_trees ts rest = ts ≡ rest
  SpellsArguments b (one_more e es) ts rest = (t1 : List Token) × (1 ≤ layer e) × Spells b e ts t1 × SpellsMore b es t1 rest

  -- further arguments, each after a comma
  pub SpellsMore : Option (List Token) → Trees → List Token → List Token → Type 0
  SpellsMore b no_trees ts rest = ts ≡ rest
  SpellsMore b (one_more e es) ts rest = (t1 : List Token) × (t2 : List Token) × Sign b sign.Comma ts t1
      × (1 ≤ layer e) × Spells b e t1 t2 × SpellsMore b es t2 rest

  -- 6.7.7; at least one specifier
  pub SpellsType : Option (List Token) → TypeTree → List Token → List Token → Type 0
  SpellsType b (type_name at [] no_trees) ts rest = Missing b ts rest
  SpellsType b (type_name at [] (one_more e es)) ts rest = ⊥
  SpellsType b (type_name at (s ∷ ss) sizes) ts rest = (t1 : List Token) × StartsAt at ts × SpellsSpecifiers (s ∷ ss) ts t1 × SpellsSizes b sizes t1 rest

  -- sizes, each in brackets
  pub SpellsSizes : Option (List Token) → Trees → List Token → List Token → Type 0
  SpellsSizes b no_trees ts rest = ts ≡ rest
  SpellsSizes b (one_more e es) ts rest = (t1 : List Token) × (t2 : List Token) × (t3 : List Token) × Sign b sign.BracketOpen ts t1
      × (2 ≤ layer e) × Spells b e t1 t2 × Sign b sign.BracketClose t2 t3 × SpellsSizes b es t3 rest
