-- The postconditions of the functions that parse expressions and type names.
use Rattle.std.specs.Prelude.{◌≡◌, ℕ, ◌+◌, ◌<◌, ◌≤◌, None, Some, List, [], ◌∷◌, length, Result, Ok, Err}
use Rattle.srcset.specs.declared.refusal.Pos.{Pos}
use Rattle.lexer.specs.declared.token.Token.{Token}
use Rattle.lexer.specs.declared.token.Kind.{Kind}
use Rattle.lexer.specs.declared.token.Kind.TheVariants as kind
use Rattle.lexer.specs.declared.token.Keyword.{Keyword}
use Rattle.lexer.specs.declared.token.Keyword.TheVariants as keyword
use Rattle.lexer.specs.declared.token.Punctuator.{Punctuator}
use Rattle.lexer.specs.declared.token.Punctuator.TheVariants as sign
use Rattle.tree.specs.declared.expression.TypeSpecifier.{TypeSpecifier}
use Rattle.tree.specs.Tree.{Tree}
use Rattle.tree.specs.Counts.{depth}
use Rattle.tree.specs.View.{tree_of}
use Rattle.parser_grammar.specs.declared.refusal.Refusal.{Refusal}
use Rattle.parser_grammar.specs.declared.refusal.Refusal.TheVariants.{Syntax, Depth, Memory}
use Rattle.parser_expressions.specs.declared.expressions.Part.{Part}
use Rattle.parser_expressions.specs.declared.type_specifiers.SpecifiersPart.{SpecifiersPart}
use Rattle.parser_grammar.specs.Expressions.{layer, SpellsSpecifiers, Spells}
use Rattle.parser_grammar.specs.Tokens.{StartsAt, Reaches}
use Rattle.parser_grammar.specs.layer.Answer.{Excuses}
use Rattle.tree.specs.Limits.{depth_limit}

-- one more than the tightest layer that this punctuator continues, or 0
abbrev pub sign_power : Punctuator → ℕ
sign_power sign.ParenOpen = 17
sign_power sign.BracketOpen = 16
sign_power sign.PlusPlus = 16
sign_power sign.MinusMinus = 16
sign_power sign.Star = 13
sign_power sign.Slash = 13
sign_power sign.Percent = 13
sign_power sign.Plus = 12
sign_power sign.Minus = 12
sign_power sign.ShiftLeft = 11
sign_power sign.ShiftRight = 11
sign_power sign.Less = 10
sign_power sign.Greater = 10
sign_power sign.LessEqual = 10
sign_power sign.GreaterEqual = 10
sign_power sign.EqualEqual = 9
sign_power sign.BangEqual = 9
sign_power sign.Ampersand = 8
sign_power sign.Caret = 7
sign_power sign.Bar = 6
sign_power sign.AndAnd = 5
sign_power sign.BarBar = 4
sign_power sign.Question = 3
sign_power sign.Assign = 2
sign_power sign.StarAssign = 2
sign_power sign.SlashAssign = 2
sign_power sign.PercentAssign = 2
sign_power sign.PlusAssign = 2
sign_power sign.MinusAssign = 2
sign_power sign.ShiftLeftAssign = 2
sign_power sign.ShiftRightAssign = 2
sign_power sign.AmpersandAssign = 2
sign_power sign.CaretAssign = 2
sign_power sign.BarAssign = 2
sign_power sign.Comma = 1
sign_power _ = 0

abbrev pub power : Kind → ℕ
power (kind.Punctuator p) = sign_power p
power _ = 0

-- an expression of layer n does not continue here
abbrev pub Stops : ℕ → List Token → Type 0
Stops n [] = 0 ≤ n
Stops n (t ∷ ts) = power t.kind ≤ n

-- a tree of layer n at the front of the list, where it can end
pub record Front (n : ℕ) (t : Tree) (ts rest : List Token) : Type 0 where
  pub tight : n ≤ layer t
  pub spells : Spells None t ts rest
  pub stops : Stops n rest

-- the tree e of depth k, at the front of the list, under d nodes, and no other
pub record Reads (n d : ℕ) (ts : List Token) (e : Tree) (k : ℕ) (rest : List Token) : Type 0 where
  pub tight : n ≤ layer e
  pub spells : Spells None e ts rest
  pub height : k ≡ depth e
  pub fits : d + k ≤ depth_limit
  pub only : (t : Tree) (r : List Token) → Front n t ts r → (t ≡ e) × (r ≡ rest)

-- the refusal excuses each tree at the front of the list
pub record Fails (n d : ℕ) (ts : List Token) (f : Refusal) : Type 0 where
  pub each : (t : Tree) (r : List Token) → Front n t ts r → Excuses f d (depth t)

abbrev pub Answers : ℕ → ℕ → List Token → Result Part Refusal → Type 0
Answers n d ts (Ok p) = Reads n d ts (tree_of p.expr) p.depth p.rest.now
Answers n d ts (Err f) = Fails n d ts f

-- A begun tree of layer n, whose front ends at this place, exceeds the depth under d nodes.
pub record Passes (n d : ℕ) (ts : List Token) (at : Pos) : Type 0 where
  pub tree : Tree
  pub cut : List Token
  pub last : Kind
  pub tight : n ≤ layer tree
  pub spells : Spells (Some cut) tree ts cut
  pub ends : Reaches ts (record { kind = last; pos = at } ∷ cut)
  pub deep : depth_limit < d + depth tree

-- the refusal is justified: for a depth, some begun tree exceeds it
abbrev pub Stands : ℕ → ℕ → List Token → Refusal → Type 0
Stands n d ts (Syntax left) = Unit {0}
Stands n d ts (Depth at) = Passes n d ts at
Stands n d ts Memory = Unit {0}

-- ---- type specifiers

-- a type specifier or qualifier may begin with this keyword
abbrev pub KeywordBeginsType : Keyword → Type 0
KeywordBeginsType keyword.Const = Unit {0}
KeywordBeginsType keyword.Enum = Unit {0}
KeywordBeginsType keyword.Void = Unit {0}
KeywordBeginsType keyword.Char = Unit {0}
KeywordBeginsType keyword.Short = Unit {0}
KeywordBeginsType keyword.Int = Unit {0}
KeywordBeginsType keyword.Long = Unit {0}
KeywordBeginsType keyword.Signed = Unit {0}
KeywordBeginsType keyword.Unsigned = Unit {0}
KeywordBeginsType keyword.Bool = Unit {0}
KeywordBeginsType _ = ⊥

abbrev pub KindBeginsType : Kind → Type 0
KindBeginsType (kind.Keyword k) = KeywordBeginsType k
KindBeginsType _ = ⊥

abbrev pub BeginsType : List Token → Type 0
BeginsType [] = ⊥
BeginsType (t ∷ ts) = KindBeginsType t.kind

-- the specifiers at the front, at least one and the first at this place, up to a token that begins no other; and no others
pub record ReadsSpecifiers (ts : List Token) (at : Pos) (ss : List TypeSpecifier) (rest : List Token) : Type 0 where
  pub some : 0 < length ss
  pub starts : StartsAt at ts
  pub spells : SpellsSpecifiers ss ts rest
  pub only : (us : List TypeSpecifier) (r : List Token) → SpellsSpecifiers us ts r → (BeginsType r → ⊥) → (us ≡ ss) × (r ≡ rest)

-- the tokens spell none
pub record FailsSpecifiers (ts : List Token) (f : Refusal) : Type 0 where
  pub each : (us : List TypeSpecifier) (r : List Token) → SpellsSpecifiers us ts r → 0 < length us → (BeginsType r → ⊥) → Excuses f 0 0

abbrev pub AnswersSpecifiers : List Token → Result SpecifiersPart Refusal → Type 0
AnswersSpecifiers ts (Ok p) = ReadsSpecifiers ts p.specifiers.pos p.specifiers.list.items p.rest.now
AnswersSpecifiers ts (Err f) = FailsSpecifiers ts f

-- refusals other than those for the depth
abbrev pub NotDepth : Refusal → Type 0
NotDepth (Syntax left) = Unit {0}
NotDepth (Depth at) = ⊥
NotDepth Memory = Unit {0}
