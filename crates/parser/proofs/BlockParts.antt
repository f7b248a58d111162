-- The items of a block.
use Rattle.std.specs.Prelude.{Option, None, Some}
use Rattle.std.proofs.Common.{◌≡◌, ℕ, ◌+◌, ◌≤◌, max, inl, inr, List, [], ◌∷◌, ◌++◌, refl, sym, ap, ◌∙◌, subst, arith}
use Rattle.srcset.specs.declared.refusal.Pos.{Pos}
use Rattle.lexer.specs.declared.token.Token.{Token}
use Rattle.lexer.specs.declared.token.Kind.TheVariants as kind
use Rattle.lexer.specs.declared.token.Keyword.TheVariants as keyword
use Rattle.lexer.specs.declared.token.Punctuator.TheVariants as sign
use Rattle.tree.specs.Tree.{StmtTree, stmt_hole, DeclarationTree, PieceTree, declaration_item, statement_item, Pieces, no_pieces, and_piece}
use Rattle.tree.specs.Counts.{stmt_depth, piece_depth, pieces_depth, declaration_depth}
use Rattle.tree.specs.View.{pieces_of}
use Rattle.parser_grammar.specs.declared.refusal.Refusal.{Refusal}
use Rattle.parser_grammar.specs.declared.refusal.Refusal.TheVariants.{Syntax, Depth, Memory}
use Rattle.parser_grammar.specs.declared.scope.Scope.TheVariants.{Block}
use Rattle.parser_grammar.specs.Tokens.{Own, Sign, NotFront, Reaches}
use Rattle.parser_grammar.specs.Declarations.{SpellsDeclaration}
use Rattle.parser_grammar.specs.Statements.{SpellsStmt, SpellsPiece, SpellsPieces}
use Rattle.parser_grammar.specs.layer.Answer.{Excuses, ReadsOf, FailsOf, StandsOf, Anywhere}
use Rattle.parser.specs.inside.StatementAnswers.{EndsStmt, SpellsBody}
use Rattle.parser_declarations.specs.DeclarationAnswers.{BeginsDeclaration}
use Rattle.parser.specs.inside.StmtParts.{EndsPiece}
use Rattle.parser_grammar.proofs.Exits.{excuses_grow}
use Rattle.parser_grammar.proofs.Tokens.{own_once, own_kinds, mark_own, reaches_on, reaches_self}
use Rattle.parser.proofs.StmtLeading.{tag, own_tag, declaration_tagged, stmt_tag, stmt_tagged, piece_no_else, no_stmt_declares}
use Rattle.parser_declarations.proofs.DeclarationFacts.{declaration_begins}
use Rattle.parser_grammar.proofs.UnitBegun.{piece_is_begun, piece_reaches}

-- ---- one of them

pub local_reads : (d : ℕ) (ts : List Token) (x : DeclarationTree) (k : ℕ) (rest : List Token) → BeginsDeclaration ts → ReadsOf (SpellsDeclaration None Block)
    Anywhere declaration_depth d ts x k rest → ReadsOf (SpellsPiece None) EndsPiece piece_depth d ts (declaration_item x) k rest
local_reads d ts x k rest b h = record { spelled = h.spelled; tall = h.tall; fits = h.fits; only = λ p r sp en. each p r sp }
  where
    each : (p : PieceTree) (r : List Token) → SpellsPiece None p ts r → (p ≡ declaration_item x) × (r ≡ rest)
    each (declaration_item y) r sp = let u = h.only y r sp tt in (ap declaration_item u.0, u.1)
    each (statement_item s) r sp = absurd (no_stmt_declares s ts r b sp)

pub local_fails : (d : ℕ) (ts : List Token) (f : Refusal) → BeginsDeclaration ts → FailsOf (SpellsDeclaration None Block) Anywhere declaration_depth d ts f →
    FailsOf (SpellsPiece None) EndsPiece piece_depth d ts f
local_fails d ts f b h = record { each = λ p r sp en. each p r sp }
  where
    each : (p : PieceTree) (r : List Token) → SpellsPiece None p ts r → Excuses f d (piece_depth p)
    each (declaration_item y) r sp = h.each y r sp tt
    each (statement_item s) r sp = absurd (no_stmt_declares s ts r b sp)

pub local_stands : (d : ℕ) (ts : List Token) (f : Refusal) → StandsOf (λ b. SpellsDeclaration b Block) declaration_depth d ts f →
    StandsOf SpellsPiece piece_depth d ts f
local_stands d ts (Syntax at) h = tt
local_stands d ts Memory h = tt
local_stands d ts (Depth at) h = record { tree = declaration_item h.tree; cut = h.cut; last = h.last; spelled = h.spelled; reaches = h.reaches; deep = h.deep }

pub run_reads : (d : ℕ) (ts : List Token) (x : StmtTree) (k : ℕ) (rest : List Token) → (BeginsDeclaration ts → ⊥) → ReadsOf (SpellsStmt None) EndsStmt
    stmt_depth d ts x k rest → ReadsOf (SpellsPiece None) EndsPiece piece_depth d ts (statement_item x) k rest
run_reads d ts x k rest b h = record { spelled = h.spelled; tall = h.tall; fits = h.fits; only = λ p r sp en. each p r sp en }
  where
    each : (p : PieceTree) (r : List Token) → SpellsPiece None p ts r → EndsPiece p r → (p ≡ statement_item x) × (r ≡ rest)
    each (declaration_item y) r sp en = absurd (b (declaration_begins Block y ts r sp))
    each (statement_item s) r sp en = let u = h.only s r sp en in (ap statement_item u.0, u.1)

pub run_fails : (d : ℕ) (ts : List Token) (f : Refusal) → (BeginsDeclaration ts → ⊥) → FailsOf (SpellsStmt None) EndsStmt stmt_depth d ts f →
    FailsOf (SpellsPiece None) EndsPiece piece_depth d ts f
run_fails d ts f b h = record { each = λ p r sp en. each p r sp en }
  where
    each : (p : PieceTree) (r : List Token) → SpellsPiece None p ts r → EndsPiece p r → Excuses f d (piece_depth p)
    each (declaration_item y) r sp en = absurd (b (declaration_begins Block y ts r sp))
    each (statement_item s) r sp en = h.each s r sp en

pub run_stands : (d : ℕ) (ts : List Token) (f : Refusal) → StandsOf SpellsStmt stmt_depth d ts f → StandsOf SpellsPiece piece_depth d ts f
run_stands d ts (Syntax at) h = tt
run_stands d ts Memory h = tt
run_stands d ts (Depth at) h = record { tree = statement_item h.tree; cut = h.cut; last = h.last; spelled = h.spelled; reaches = h.reaches; deep = h.deep }

-- ---- the closing brace begins none

stmt_no_close : (u : StmtTree) (ts r : List Token) → SpellsStmt None u ts r → NotFront (kind.Punctuator sign.BraceClose) ts
stmt_no_close u ts r h at us own = different u h (own_tag (stmt_tag u) (kind.Punctuator sign.BraceClose) at ts us own (stmt_tagged u ts r h))
  where
    different : (v : StmtTree) → SpellsStmt None v ts r → 0 ≡ stmt_tag v → ⊥
    different stmt_hole i e = i
    different v i e = omega (arith, e)

piece_no_close : (p : PieceTree) (ts r : List Token) → SpellsPiece None p ts r → NotFront (kind.Punctuator sign.BraceClose) ts
piece_no_close (statement_item s) ts r h = stmt_no_close s ts r h
piece_no_close (declaration_item d) ts r h = λ at us own. let e : 0 ≡ 14 = own_tag 14 (kind.Punctuator sign.BraceClose) at ts us own
    (declaration_tagged ts (declaration_begins Block d ts r h)) in omega (arith, e)

-- ---- the loop

-- pieces before others
abbrev pub add : List PieceTree → Pieces → Pieces
add [] m = m
add (x ∷ xs) m = and_piece x (add xs m)

add_none : (xs : List PieceTree) → add xs no_pieces ≡ pieces_of xs
add_none [] = refl
add_none (x ∷ xs) = ap (and_piece x) (add_none xs)

add_push : (xs : List PieceTree) (x : PieceTree) (m : Pieces) → add (xs ++ x ∷ []) m ≡ add xs (and_piece x m)
add_push [] x m = refl
add_push (y ∷ xs) x m = ap (and_piece y) (add_push xs x m)

depth_push : (xs : List PieceTree) (x : PieceTree) → pieces_depth (pieces_of (xs ++ x ∷ [])) ≡ max (pieces_depth (pieces_of xs)) (piece_depth x)
depth_push [] x = omega arith
depth_push (y ∷ xs) x = let i = depth_push xs x in omega (arith, i)

depth_add : (xs : List PieceTree) (x : PieceTree) (m : Pieces) → piece_depth x ≤ pieces_depth (add xs (and_piece x m))
depth_add [] x m = omega arith
depth_add (y ∷ xs) x m = let i = depth_add xs x m in omega (arith, i)

-- the loop invariant: these pieces are read, and every block of the list continues from them
pub record BlockLoop (d : ℕ) (ts : List Token) (xs : List PieceTree) (k : ℕ) (cur : List Token) : Type 0 where
  pub spells : (o : Option (List Token)) (m : Pieces) (r : List Token) → SpellsPieces o m cur r → SpellsPieces o (add xs m) ts r
  pub reaches : Reaches ts cur
  pub height : k ≡ pieces_depth (pieces_of xs)
  pub fits : d + k ≤ 256
  pub only : (us : Pieces) (r : List Token) → SpellsBody None us ts r → (m : Pieces) × SpellsBody None m cur r × (us ≡ add xs m)

pub block_starts : (d : ℕ) (ts : List Token) → d ≤ 256 → BlockLoop d ts [] 0 ts
block_starts d ts le = record {
  spells = λ o m r h. h;
  reaches = reaches_self ts;
  height = refl;
  fits = omega (arith, le);
  only = λ us r h. (us, h, refl);
}

piece_any : (o : Option (List Token)) (p : PieceTree) (ts r : List Token) → SpellsPiece None p ts r → SpellsPiece o p ts r
piece_any None p ts r h = h
piece_any (Some c) p ts r h = piece_is_begun c p ts r h

close_no_else : (ts us : List Token) → Sign None sign.BraceClose ts us → NotFront (kind.Keyword keyword.Else) ts
close_no_else ts us h at vs own = let m = mark_own (kind.Punctuator sign.BraceClose) ts us h in
    let e : 13 ≡ 0 = ap tag (own_kinds (kind.Keyword keyword.Else) (kind.Punctuator sign.BraceClose) at m.0 ts vs us own m.1) in omega (arith, e)

body_no_else : (m : Pieces) (ts r : List Token) → SpellsBody None m ts r → NotFront (kind.Keyword keyword.Else) ts
body_no_else no_pieces ts r h = subst (NotFront (kind.Keyword keyword.Else)) (sym h.1) (close_no_else h.0 r h.2)
body_no_else (and_piece p ps) ts r h = piece_no_else p ts h.1.0 h.1.1

ends_before : (p : PieceTree) (rest : List Token) → NotFront (kind.Keyword keyword.Else) rest → EndsPiece p rest
ends_before (declaration_item d) rest none = tt
ends_before (statement_item s) rest none = λ op. none

-- the next piece of a block
piece_front : (p : PieceTree) (ps : Pieces) (ts r : List Token) → SpellsBody None (and_piece p ps) ts r → (mid : List Token) × SpellsPiece None p ts mid
    × EndsPiece p mid × SpellsBody None ps mid r
piece_front p ps ts r h = let b : SpellsBody None ps h.1.0 r = (h.0, h.1.2, h.2) in (h.1.0, h.1.1, ends_before p h.1.0 (body_no_else ps h.1.0 r b), b)

no_close : (ts r : List Token) → NotFront (kind.Punctuator sign.BraceClose) ts → SpellsBody None no_pieces ts r → ⊥
no_close ts r none h = let m = mark_own (kind.Punctuator sign.BraceClose) h.0 r h.2 in
    none m.0 r (subst (λ x. Own (kind.Punctuator sign.BraceClose) m.0 x r) (sym h.1) m.1)

pub block_goes_on : (d : ℕ) (ts cur : List Token) (xs : List PieceTree) (k : ℕ) (p : PieceTree) (j : ℕ) (rest : List Token) (m : ℕ) →
    NotFront (kind.Punctuator sign.BraceClose) cur → BlockLoop d ts xs k cur → ReadsOf (SpellsPiece None) EndsPiece piece_depth d cur p j rest → m ≡ max k j →
    BlockLoop d ts (xs ++ p ∷ []) m rest
block_goes_on d ts cur xs k p j rest m none h i em = record {
  spells = λ o n r s. subst (λ y. SpellsPieces o y ts r) (sym (add_push xs p n)) (h.spells o (and_piece p n) r (rest, piece_any o p cur rest i.spelled, s));
  reaches = reaches_on ts cur rest h.reaches (piece_reaches p cur rest i.spelled);
  height = omega (arith, em, h.height, i.tall, depth_push xs p);
  fits = omega (arith, em, h.fits, i.fits);
  only = λ us r b. let g = h.only us r b in next us r g.0 g.1 g.2;
}
  where
    next : (us : Pieces) (r : List Token) (n : Pieces) → SpellsBody None n cur r → us ≡ add xs n → (n' : Pieces) × SpellsBody None n' rest r
        × (us ≡ add (xs ++ p ∷ []) n')
    next us r no_pieces b e = absurd (no_close cur r none b)
    next us r (and_piece q n) b e =
        let g = piece_front q n cur r b in
        let u = i.only q g.0 g.1 g.2 in
        (n, subst (λ y. SpellsBody None n y r) u.1 g.3, e ∙ ap (λ y. add xs (and_piece y n)) u.0 ∙ sym (add_push xs p n))

pub block_fails : (d : ℕ) (ts cur : List Token) (xs : List PieceTree) (k : ℕ) (f : Refusal) → NotFront (kind.Punctuator sign.BraceClose) cur →
    BlockLoop d ts xs k cur → FailsOf (SpellsPiece None) EndsPiece piece_depth d cur f → FailsOf (SpellsBody None) Anywhere pieces_depth d ts f
block_fails d ts cur xs k f none h bad = record { each = λ us r b en. let g = h.only us r b in next us r g.0 g.1 g.2 }
  where
    next : (us : Pieces) (r : List Token) (n : Pieces) → SpellsBody None n cur r → us ≡ add xs n → Excuses f d (pieces_depth us)
    next us r no_pieces b e = absurd (no_close cur r none b)
    next us r (and_piece q n) b e =
        let g = piece_front q n cur r b in
        let deep : piece_depth q ≤ pieces_depth us = subst (λ y. piece_depth q ≤ pieces_depth y) (sym e) (depth_add xs q n) in
        excuses_grow f d d (piece_depth q) (pieces_depth us) (omega (arith, deep)) (bad.each q g.0 g.1 g.2)

pub block_stands : (d : ℕ) (ts cur : List Token) (xs : List PieceTree) (k : ℕ) (f : Refusal) → BlockLoop d ts xs k cur → StandsOf SpellsPiece piece_depth d cur
    f → StandsOf SpellsBody pieces_depth d ts f
block_stands d ts cur xs k (Syntax at) h s = tt
block_stands d ts cur xs k Memory h s = tt
block_stands d ts cur xs k (Depth at) h s = let deep = depth_add xs s.tree no_pieces in record {
  tree = add xs (and_piece s.tree no_pieces);
  cut = s.cut;
  last = s.last;
  spelled = (s.cut, h.spells (Some s.cut) (and_piece s.tree no_pieces) s.cut (s.cut, s.spelled, refl), inr (refl, refl));
  reaches = reaches_on ts cur _ h.reaches s.reaches;
  deep = omega (arith, s.deep, deep);
}

pub block_ends : (d : ℕ) (at : Pos) (ts cur : List Token) (xs : List PieceTree) (k : ℕ) (rest : List Token) → Own (kind.Punctuator sign.BraceClose) at cur rest
    → BlockLoop d ts xs k cur → ReadsOf (SpellsBody None) Anywhere pieces_depth d ts (pieces_of xs) k rest
block_ends d at ts cur xs k rest own h = record {
  spelled = (cur, subst (λ y. SpellsPieces None y ts cur) (add_none xs) (h.spells None no_pieces cur refl), inl (at, own));
  tall = h.height;
  fits = h.fits;
  only = λ us r b en. let g = h.only us r b in next us r g.0 g.1 g.2;
}
  where
    next : (us : Pieces) (r : List Token) (n : Pieces) → SpellsBody None n cur r → us ≡ add xs n → (us ≡ pieces_of xs) × (r ≡ rest)
    next us r no_pieces b e = let m = mark_own (kind.Punctuator sign.BraceClose) b.0 r b.2 in (
      e ∙ add_none xs,
      (own_once (kind.Punctuator sign.BraceClose) m.0 at cur r rest (subst (λ x. Own (kind.Punctuator sign.BraceClose) m.0 x r) (sym b.1)
          m.1) own).1,
    )
    next us r (and_piece q n) b e = let g = piece_front q n cur r b in absurd (piece_no_close q cur g.0 g.1 at rest own)
