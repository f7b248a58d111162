-- The first token of a statement determines its form.
use Rattle.std.specs.Prelude.{None}
use Rattle.std.proofs.Common.{◌≡◌, ℕ, List, [], ◌∷◌, refl, sym, ap, ◌∙◌, subst, arith}
use Rattle.srcset.specs.declared.refusal.Pos.{Pos}
use Rattle.lexer.specs.declared.token.Token.{Token}
use Rattle.lexer.specs.declared.token.Kind.{Kind}
use Rattle.lexer.specs.declared.token.Kind.TheVariants as kind
use Rattle.lexer.specs.declared.token.Keyword.{Keyword}
use Rattle.lexer.specs.declared.token.Keyword.TheVariants as keyword
use Rattle.lexer.specs.declared.token.Punctuator.{Punctuator}
use Rattle.lexer.specs.declared.token.Punctuator.TheVariants as sign
use Rattle.tree.specs.Tree.{Tree, StmtTree, stmt_hole, block_stmt, empty_stmt, expression_stmt, if_stmt, if_else_stmt, switch_stmt, case_stmt, default_stmt, while_stmt, do_while_stmt, for_stmt, break_stmt, continue_stmt, return_stmt, PieceTree, declaration_item, statement_item}
use Rattle.parser_grammar.specs.declared.scope.Scope.TheVariants.{Block}
use Rattle.parser_grammar.specs.Tokens.{Own, NotFront}
use Rattle.parser_grammar.specs.Expressions.{Spells}
use Rattle.parser_grammar.specs.Statements.{SpellsStmt, SpellsPiece}
use Rattle.parser_expressions.specs.ExpressionLeads.{SignBeginsExpression, KeywordBeginsExpression, KindBeginsExpression, BeginsExpression}
use Rattle.parser_declarations.specs.DeclarationAnswers.{KeywordBeginsDeclaration, BeginsDeclaration}
use Rattle.parser_expressions.proofs.Leads.{whole_begins}
use Rattle.parser_declarations.proofs.DeclarationFacts.{declaration_begins}

abbrev pub sign_tag : Punctuator → ℕ
sign_tag sign.BraceOpen = 1
sign_tag sign.Semicolon = 2
sign_tag sign.ParenOpen = 15
sign_tag sign.PlusPlus = 15
sign_tag sign.MinusMinus = 15
sign_tag sign.Plus = 15
sign_tag sign.Minus = 15
sign_tag sign.Tilde = 15
sign_tag sign.Bang = 15
sign_tag _ = 0

abbrev pub keyword_tag : Keyword → ℕ
keyword_tag keyword.If = 3
keyword_tag keyword.Switch = 4
keyword_tag keyword.Case = 5
keyword_tag keyword.Default = 6
keyword_tag keyword.While = 7
keyword_tag keyword.Do = 8
keyword_tag keyword.For = 9
keyword_tag keyword.Break = 10
keyword_tag keyword.Continue = 11
keyword_tag keyword.Return = 12
keyword_tag keyword.Else = 13
keyword_tag keyword.Sizeof = 15
keyword_tag _ = 14

-- 1 to 12 for the forms, 13 for else, 14 for a declaration, 15 for an expression
abbrev pub tag : Kind → ℕ
tag (kind.Keyword k) = keyword_tag k
tag (kind.Punctuator p) = sign_tag p
tag _ = 15

abbrev pub Tagged : ℕ → List Token → Type 0
Tagged n [] = ⊥
Tagged n (t ∷ ts) = tag t.kind ≡ n

pub own_tag : (n : ℕ) (k : Kind) (at : Pos) (ts us : List Token) → Own k at ts us → Tagged n ts → tag k ≡ n
own_tag n k at ts us own h = subst (Tagged n) own h

pub own_tagged : (n : ℕ) (k : Kind) (at : Pos) (ts us : List Token) → tag k ≡ n → Own k at ts us → Tagged n ts
own_tagged n k at ts us e own = subst (Tagged n) (sym own) e

pub tagged_once : (m n : ℕ) (ts : List Token) → Tagged m ts → Tagged n ts → m ≡ n
tagged_once m n [] h i = absurd h
tagged_once m n (t ∷ ts) h i = sym h ∙ i

keyword_expression : (k : Keyword) → KeywordBeginsExpression k → keyword_tag k ≡ 15
keyword_expression keyword.Sizeof h = refl
keyword_expression k h = absurd h

sign_expression : (p : Punctuator) → SignBeginsExpression p → sign_tag p ≡ 15
sign_expression sign.ParenOpen h = refl
sign_expression sign.PlusPlus h = refl
sign_expression sign.MinusMinus h = refl
sign_expression sign.Plus h = refl
sign_expression sign.Minus h = refl
sign_expression sign.Tilde h = refl
sign_expression sign.Bang h = refl
sign_expression p h = absurd h

kind_expression : (k : Kind) → KindBeginsExpression k → tag k ≡ 15
kind_expression (kind.Keyword k) h = keyword_expression k h
kind_expression (kind.Punctuator p) h = sign_expression p h
kind_expression k h = refl

pub expression_tagged : (ts : List Token) → BeginsExpression ts → Tagged 15 ts
expression_tagged [] h = absurd h
expression_tagged (t ∷ ts) h = kind_expression t.kind h

pub whole_tagged : (e : Tree) (ts r : List Token) → Spells None e ts r → Tagged 15 ts
whole_tagged e ts r h = expression_tagged ts (whole_begins e ts r h)

keyword_declaration : (k : Keyword) → KeywordBeginsDeclaration k → keyword_tag k ≡ 14
keyword_declaration keyword.If h = absurd h
keyword_declaration keyword.Switch h = absurd h
keyword_declaration keyword.Case h = absurd h
keyword_declaration keyword.Default h = absurd h
keyword_declaration keyword.While h = absurd h
keyword_declaration keyword.Do h = absurd h
keyword_declaration keyword.For h = absurd h
keyword_declaration keyword.Break h = absurd h
keyword_declaration keyword.Continue h = absurd h
keyword_declaration keyword.Return h = absurd h
keyword_declaration keyword.Else h = absurd h
keyword_declaration keyword.Sizeof h = absurd h
keyword_declaration k h = refl

kind_declaration : (t : Token) (ts : List Token) (k : Kind) → k ≡ t.kind → BeginsDeclaration (t ∷ ts) → tag t.kind ≡ 14
kind_declaration t ts (kind.Keyword k) e h = sym (ap tag e) ∙ keyword_declaration k (subst (λ x. BeginsDeclaration (record { kind = x; pos = t.pos } ∷ ts))
    (sym e) h)
kind_declaration t ts (kind.Punctuator p) e h = absurd (subst (λ x. BeginsDeclaration (record { kind = x; pos = t.pos } ∷ ts)) (sym e) h)
kind_declaration t ts (kind.Identifier n) e h = absurd (subst (λ x. BeginsDeclaration (record { kind = x; pos = t.pos } ∷ ts)) (sym e) h)
kind_declaration t ts (kind.Constant ty n) e h = absurd (subst (λ x. BeginsDeclaration (record { kind = x; pos = t.pos } ∷ ts)) (sym e) h)
kind_declaration t ts (kind.StringLiteral n) e h = absurd (subst (λ x. BeginsDeclaration (record { kind = x; pos = t.pos } ∷ ts)) (sym e) h)

pub declaration_tagged : (ts : List Token) → BeginsDeclaration ts → Tagged 14 ts
declaration_tagged [] h = absurd h
declaration_tagged (t ∷ ts) h = kind_declaration t ts t.kind refl h

abbrev pub stmt_tag : StmtTree → ℕ
stmt_tag stmt_hole = 0
stmt_tag (block_stmt at ps) = 1
stmt_tag (empty_stmt at) = 2
stmt_tag (expression_stmt at e) = 15
stmt_tag (if_stmt at e a) = 3
stmt_tag (if_else_stmt at e a c) = 3
stmt_tag (switch_stmt at e a) = 4
stmt_tag (case_stmt at e a) = 5
stmt_tag (default_stmt at a) = 6
stmt_tag (while_stmt at e a) = 7
stmt_tag (do_while_stmt at a e) = 8
stmt_tag (for_stmt at start test step a) = 9
stmt_tag (break_stmt at) = 10
stmt_tag (continue_stmt at) = 11
stmt_tag (return_stmt at e) = 12

pub stmt_tagged : (u : StmtTree) (ts r : List Token) → SpellsStmt None u ts r → Tagged (stmt_tag u) ts
stmt_tagged stmt_hole ts r h = absurd h
stmt_tagged (block_stmt at ps) ts r h = own_tagged 1 _ at ts h.0 refl h.2
stmt_tagged (empty_stmt at) ts r h = own_tagged 2 _ at ts r refl h
stmt_tagged (expression_stmt at e) ts r h = whole_tagged e ts h.0 h.3
stmt_tagged (if_stmt at e a) ts r h = own_tagged 3 _ at ts h.0 refl h.2
stmt_tagged (if_else_stmt at e a c) ts r h = own_tagged 3 _ at ts h.0 refl h.5
stmt_tagged (switch_stmt at e a) ts r h = own_tagged 4 _ at ts h.0 refl h.2
stmt_tagged (case_stmt at e a) ts r h = own_tagged 5 _ at ts h.0 refl h.3
stmt_tagged (default_stmt at a) ts r h = own_tagged 6 _ at ts h.0 refl h.2
stmt_tagged (while_stmt at e a) ts r h = own_tagged 7 _ at ts h.0 refl h.2
stmt_tagged (do_while_stmt at a e) ts r h = own_tagged 8 _ at ts h.0 refl h.4
stmt_tagged (for_stmt at start test step a) ts r h = own_tagged 9 _ at ts h.0 refl h.7
stmt_tagged (break_stmt at) ts r h = own_tagged 10 _ at ts h.0 refl h.1
stmt_tagged (continue_stmt at) ts r h = own_tagged 11 _ at ts h.0 refl h.1
stmt_tagged (return_stmt at e) ts r h = own_tagged 12 _ at ts h.0 refl h.2

-- the statement at a token is of its form
pub same_form : (k : Kind) (at : Pos) (ts us r : List Token) (u : StmtTree) → Own k at ts us → SpellsStmt None u ts r → tag k ≡ stmt_tag u
same_form k at ts us r u own h = own_tag (stmt_tag u) k at ts us own (stmt_tagged u ts r h)

-- no statement begins with else
pub stmt_no_else : (u : StmtTree) (ts r : List Token) → SpellsStmt None u ts r → NotFront (kind.Keyword keyword.Else) ts
stmt_no_else u ts r h at us own = different u (own_tag (stmt_tag u) (kind.Keyword keyword.Else) at ts us own (stmt_tagged u ts r h))
  where
    different : (v : StmtTree) → 13 ≡ stmt_tag v → ⊥
    different stmt_hole e = omega (arith, e)
    different v e = omega (arith, e)

pub piece_no_else : (p : PieceTree) (ts r : List Token) → SpellsPiece None p ts r → NotFront (kind.Keyword keyword.Else) ts
piece_no_else (statement_item s) ts r h = stmt_no_else s ts r h
piece_no_else (declaration_item d) ts r h = λ at us own. let e : 13 ≡ 14 = own_tag 14 (kind.Keyword keyword.Else) at ts us own
    (declaration_tagged ts (declaration_begins Block d ts r h)) in omega (arith, e)

-- a declaration is no statement
pub no_stmt_declares : (u : StmtTree) (ts r : List Token) → BeginsDeclaration ts → SpellsStmt None u ts r → ⊥
no_stmt_declares u ts r b h = different u (tagged_once 14 (stmt_tag u) ts (declaration_tagged ts b) (stmt_tagged u ts r h))
  where
    different : (v : StmtTree) → 14 ≡ stmt_tag v → ⊥
    different stmt_hole e = omega (arith, e)
    different v e = omega (arith, e)

-- and begins no expression
pub no_expression_declares : (e : Tree) (ts r : List Token) → BeginsDeclaration ts → Spells None e ts r → ⊥
no_expression_declares e ts r b h = let x : 14 ≡ 15 = tagged_once 14 15 ts (declaration_tagged ts b) (whole_tagged e ts r h) in omega (arith, x)
