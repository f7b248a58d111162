-- Declarations, and the front of a translation unit.
use Rattle.std.specs.Prelude.{Option, None, Some, max, Result, Ok, Err, IfOk, IfErr}
use Rattle.std.proofs.Common.{◌≡◌, ℕ, ◌+◌, ◌<◌, ◌≤◌, inl, inr, List, [], ◌∷◌, length, refl, sym, ap, ◌∙◌, subst, arith}
use Rattle.srcset.specs.declared.refusal.Pos.{Pos}
use Rattle.lexer.specs.declared.token.Token.{Token}
use Rattle.lexer.specs.declared.token.Kind.{Kind}
use Rattle.lexer.specs.declared.token.Kind.TheVariants as kind
use Rattle.lexer.specs.declared.token.Keyword.{Keyword}
use Rattle.lexer.specs.declared.token.Keyword.TheVariants as keyword
use Rattle.lexer.specs.declared.token.Punctuator.TheVariants as sign
use Rattle.tree.specs.Tree.{Tree, hole, SpecifierTree, ItemTree, object, function, DeclarationTree, declared, assertion, extern_specifier, static_specifier, plain_specifier, enumerators_specifier}
use Rattle.tree.specs.Counts.{depth, specifiers_depth, items_depth, declaration_depth}
use Rattle.parser_grammar.specs.declared.refusal.Refusal.{Refusal}
use Rattle.parser_grammar.specs.declared.refusal.Refusal.TheVariants.{Depth}
use Rattle.parser_grammar.specs.declared.scope.Scope.{Scope}
use Rattle.parser_grammar.specs.declared.scope.Scope.TheVariants.{Block}
use Rattle.parser_grammar.specs.Tokens.{Own, StartsAt, NotFront}
use Rattle.parser_grammar.specs.Declarations.{SpellsDeclarationSpecifiers, SpellsItem, SpellsDeclaration, SpellsDeclarationSpecifier}
use Rattle.parser_grammar.specs.layer.Answer.{ReadsOf, FailsOf, StandsOf, Anywhere}
use Rattle.parser_expressions.specs.ExpressionAnswers.{power, Stops, Front, Reads, Fails, Stands, KeywordBeginsType, BeginsType}
use Rattle.parser_grammar.proofs.Tokens.{same_token, mark_own, reaches_self, reaches_on, own_reaches, own_once, own_kinds}
use Rattle.parser_grammar.proofs.Exits.{excuses_grow}
use Rattle.parser_declarations.specs.DeclarationAnswers.{KeywordBeginsSpecifier, KeywordBeginsDeclaration, KindBeginsDeclaration, BeginsDeclaration, AnswersDeclaration, StandsDeclaration}
use Rattle.parser_declarations.specs.inside.SpecifierAnswers.{KindBeginsSpecifier, BeginsSpecifier, SpellsSomeSpecifiers, EndsSpecifiers}
use Rattle.parser_declarations.specs.inside.DeclarationFronts.{SpellsText, Behind, AnswersAsserted, StandsAsserted}
use Rattle.parser_declarations.specs.inside.ItemAnswers.{SpellsItemList}
use Rattle.parser_declarations.specs.declared.declarations.DeclarationPart.{DeclarationPart}
use Rattle.tree.specs.View.{declaration_of}
use Rattle.parser_expressions.proofs.Leads.{specifier_begins}
use Rattle.parser_grammar.proofs.DeclarationBegun.{specifiers_are_begun, declaration_specifiers_reach}
use Rattle.parser_expressions.proofs.PartFacts.{Layered, stands_of, never_reads, part_fails, part_stands, full_fails, full_stands}

-- ---- where declarations begin

type_is_specifier : (k : Keyword) → KeywordBeginsType k → KeywordBeginsSpecifier k
type_is_specifier keyword.Extern h = absurd h
type_is_specifier keyword.Static h = absurd h
type_is_specifier k h = h

kind_is_specifier : (ts : List Token) → BeginsType ts → BeginsSpecifier ts
kind_is_specifier [] h = absurd h
kind_is_specifier (t ∷ ts) h = on t.kind h
  where
    on : (k : Kind) → BeginsType (record { kind = k; pos = t.pos } ∷ ts) → KindBeginsSpecifier k
    on (kind.Keyword k) b = type_is_specifier k b
    on k b = absurd b

specifier_is_declaration : (k : Keyword) → KeywordBeginsSpecifier k → KeywordBeginsDeclaration k
specifier_is_declaration keyword.StaticAssert h = absurd h
specifier_is_declaration k h = h

kind_is_declaration : (ts : List Token) → BeginsSpecifier ts → BeginsDeclaration ts
kind_is_declaration [] h = absurd h
kind_is_declaration (t ∷ ts) h = on t.kind h
  where
    on : (k : Kind) → KindBeginsSpecifier k → KindBeginsDeclaration k
    on (kind.Keyword k) b = specifier_is_declaration k b
    on k b = absurd b

first_begins : (b : Option (List Token)) (scope : Scope) (s : SpecifierTree) (ts r : List Token) → SpellsDeclarationSpecifier b scope s ts r →
    BeginsSpecifier ts
first_begins b scope extern_specifier ts r h = subst BeginsSpecifier (sym h.1.1) tt
first_begins b scope static_specifier ts r h = subst BeginsSpecifier (sym h.1) tt
first_begins b scope (plain_specifier s) ts r h = kind_is_specifier ts (specifier_begins s ts r h)
first_begins b scope (enumerators_specifier tag list) ts r h = subst BeginsSpecifier (sym h.6) tt

specifiers_begin : (b : Option (List Token)) (scope : Scope) (ss : List SpecifierTree) (ts r : List Token) → 0 < length ss → SpellsDeclarationSpecifiers b scope
    ss ts r → BeginsSpecifier ts
specifiers_begin b scope [] ts r lt h = absurd (omega (arith, lt))
specifiers_begin b scope (s ∷ ss) ts r lt h = first_begins b scope s ts h.0 h.1

-- each declaration begins so
pub declaration_begins : (scope : Scope) (y : DeclarationTree) (ts r : List Token) → SpellsDeclaration None scope y ts r → BeginsDeclaration ts
declaration_begins scope (declared at ss is) ts r h = kind_is_declaration ts (specifiers_begin None scope ss ts h.0 h.3 h.4)
declaration_begins scope (assertion at e n) ts r h = subst BeginsDeclaration (sym h.6) tt

-- without a keyword none begins
pub no_keyword : (ts : List Token) → ((k : Keyword) → NotFront (kind.Keyword k) ts) → BeginsDeclaration ts → ⊥
no_keyword [] none h = h
no_keyword (t ∷ ts) none h = on t.kind refl h
  where
    on : (k : Kind) → t.kind ≡ k → KindBeginsDeclaration k → ⊥
    on (kind.Keyword k) e b = none k t.pos ts (ap (λ z. record { kind = z; pos = t.pos } ∷ ts) e)
    on k e b = absurd b

pub keyword_begins : (ts us : List Token) (at : Pos) (k : Keyword) → Own (kind.Keyword k) at ts us → (KeywordBeginsDeclaration k → BeginsDeclaration ts)
    × (BeginsDeclaration ts → KeywordBeginsDeclaration k)
keyword_begins ts us at k own = (λ h. subst BeginsDeclaration (sym own) h, λ h. subst BeginsDeclaration own h)

-- ---- specifiers before the tokens that follow them

no_specifier : (k : Kind) (at : Pos) (ts r : List Token) → (KindBeginsSpecifier k → ⊥) → Own k at ts r → BeginsSpecifier ts → ⊥
no_specifier k at ts r none own h = none (subst BeginsSpecifier own h)

-- no declaration begins at an assertion's keyword
pub no_assertion : (b : Option (List Token)) (scope : Scope) (ss : List SpecifierTree) (ts r us : List Token) (at : Pos) →
    Own (kind.Keyword keyword.StaticAssert) at ts us → 0 < length ss → SpellsDeclarationSpecifiers b scope ss ts r → ⊥
no_assertion b scope ss ts r us at own lt h = no_specifier _ at ts us (λ x. x) own (specifiers_begin b scope ss ts r lt h)

-- an item's name ends them
pub name_ends : (scope : Scope) (i : ItemTree) (ss : List SpecifierTree) (ts r : List Token) → SpellsItem None scope i ts r → EndsSpecifiers ss ts
name_ends scope (object at n sizes i) ss ts r s = (
  no_specifier _ at ts s.0 (λ b. b) s.2,
  λ o w own. let e = own_kinds _ _ at o ts s.0 w s.2 own in
      let e' : kind.Identifier n ≡ kind.Punctuator sign.BraceOpen = e in cc,
)
name_ends scope (function at n ps) ss ts r s = let t = s.1 in (
  no_specifier _ at ts t.0 (λ b. b) t.3,
  λ o w own. let e = own_kinds _ _ at o ts t.0 w t.3 own in
      let e' : kind.Identifier n ≡ kind.Punctuator sign.BraceOpen = e in cc,
)

pub items_end : (scope : Scope) (is : List ItemTree) (ss : List SpecifierTree) (ts r : List Token) → SpellsItemList None scope is ts r → EndsSpecifiers ss ts
items_end scope [] ss ts r s =
    let o = mark_own _ s.0 r s.2 in
    let own : Own (kind.Punctuator sign.Semicolon) o.0 ts r = subst (λ z. Own (kind.Punctuator sign.Semicolon) o.0 z r) (sym s.1) o.1 in (
      no_specifier _ o.0 ts r (λ b. b) own,
      λ p w q. let e = own_kinds _ _ o.0 p ts r w own q in let e' : kind.Punctuator sign.Semicolon ≡ kind.Punctuator
          sign.BraceOpen = e in cc,
    )
items_end scope (i ∷ is) ss ts r s = name_ends scope i ss ts s.1.0 s.1.1

pub starts_once : (a b : Pos) (ts : List Token) → StartsAt a ts → StartsAt b ts → a ≡ b
starts_once a b ts p q = (same_token p.0 q.0 a b ts p.1 q.1 p.2 q.2).1

begins_starts : (ts : List Token) → BeginsSpecifier ts → (at : Pos) × StartsAt at ts
begins_starts [] h = absurd h
begins_starts (t ∷ ts) h = (t.pos, (t.kind, ts, refl))

some_deep : (d : ℕ) (ss : List SpecifierTree) → d ≤ 256 → 256 < d + specifiers_depth ss → 0 < length ss
some_deep d [] le lt = absurd (omega (arith, le, lt))
some_deep d (s ∷ ss) le lt = omega arith

-- the place of the first token, where there is one
abbrev front_place : List Token → Pos
front_place [] = record { file = 0; line = 0 }
front_place (t ∷ ts) = t.pos

begins_front : (ts : List Token) → BeginsSpecifier ts → StartsAt (front_place ts) ts
begins_front [] h = absurd h
begins_front (t ∷ ts) h = (t.kind, ts, refl)

-- a justified refusal of the specifiers is one of the declaration
pub specifiers_stand : (scope : Scope) (d : ℕ) (ts : List Token) (f : Refusal) → d ≤ 256 → StandsOf (λ b. SpellsDeclarationSpecifiers b scope) specifiers_depth
    d ts f → StandsOf (λ b. SpellsDeclaration b scope) declaration_depth d ts f
specifiers_stand scope d ts f le h = part_stands (λ b. SpellsDeclarationSpecifiers b scope) specifiers_depth (λ b. SpellsDeclaration b scope) declaration_depth
    d d ts ts f (λ ss. declared (front_place ts) ss []) (reaches_self ts) (λ a cut lt s. let m = some_deep d a le lt in
    (cut, cut, begins_front ts (specifiers_begin (Some cut) scope a ts cut m s), m, s, refl, inr (refl, refl))) (λ a. omega arith) h

-- a justified refusal of the items is one of the declaration
pub items_stand : (scope : Scope) (d : ℕ) (ts : List Token) (at : Pos) (ss : List SpecifierTree) (k : ℕ) (cur : List Token) (f : Refusal) → StartsAt at ts →
    ReadsOf (SpellsSomeSpecifiers scope) EndsSpecifiers specifiers_depth d ts ss k cur → StandsOf (λ b. SpellsItemList b scope) items_depth d cur f →
    StandsOf (λ b. SpellsDeclaration b scope) declaration_depth d ts f
items_stand scope d ts at ss k cur f starts g h = part_stands (λ b. SpellsItemList b scope) items_depth (λ b. SpellsDeclaration b scope) declaration_depth d d
    ts cur f (λ is. declared at ss is) (declaration_specifiers_reach scope ss ts cur g.spelled.spells)
    (λ a cut lt s. (cur, s.0, starts, g.spelled.some, specifiers_are_begun cut scope ss ts cur g.spelled.spells, s.1, s.2)) (λ a. omega arith) h

-- ---- a declaration

-- its parts, where it is no assertion
declared_parts : (scope : Scope) (y : DeclarationTree) (ts r : List Token) → NotFront (kind.Keyword keyword.StaticAssert) ts → SpellsDeclaration None scope y ts
    r → (at : Pos) × (ss : List SpecifierTree) × (is : List ItemTree) × (x : List Token) × StartsAt at ts × SpellsSomeSpecifiers scope ss ts x
    × SpellsItemList None scope is x r × (y ≡ declared at ss is)
declared_parts scope (declared at ss is) ts r none s = (at, ss, is, s.0, s.2, record { some = s.3; spells = s.4 }, (s.1, s.5, s.6), refl)
declared_parts scope (assertion at e n) ts r none s = absurd (none at s.0 s.6)

pub specifiers_fail : (scope : Scope) (d : ℕ) (ts : List Token) (f : Refusal) → NotFront (kind.Keyword keyword.StaticAssert) ts →
    FailsOf (SpellsSomeSpecifiers scope) EndsSpecifiers specifiers_depth d ts f → FailsOf (SpellsDeclaration None scope) Anywhere declaration_depth d ts f
specifiers_fail scope d ts f none h = part_fails (SpellsSomeSpecifiers scope) EndsSpecifiers specifiers_depth (SpellsDeclaration None scope) Anywhere
    declaration_depth d d ts ts f (λ y r s en. let i = declared_parts scope y ts r none s in
    (i.1, i.3, i.5, items_end scope i.2 i.1 i.3 r i.6, subst (λ z. d + specifiers_depth i.1 ≤ d + declaration_depth z) (sym i.7) (omega arith))) h

-- with these specifiers
declared_front : (scope : Scope) (d : ℕ) (ts : List Token) (at : Pos) (ss : List SpecifierTree) (k : ℕ) (cur : List Token) →
    NotFront (kind.Keyword keyword.StaticAssert) ts → StartsAt at ts → ReadsOf (SpellsSomeSpecifiers scope) EndsSpecifiers specifiers_depth d ts ss k cur →
    (y : DeclarationTree) (r : List Token) → SpellsDeclaration None scope y ts r → (is : List ItemTree) × SpellsItemList None scope is cur r
    × (y ≡ declared at ss is)
declared_front scope d ts at ss k cur none starts g y r s =
    let i = declared_parts scope y ts r none s in
    let u = g.only i.1 i.3 i.5 (items_end scope i.2 i.1 i.3 r i.6) in (
      i.2,
      subst (λ z. SpellsItemList None scope i.2 z r) u.1 i.6,
      i.7 ∙ ap (λ z. declared z i.1 i.2) (starts_once i.0 at ts i.4 starts)
          ∙ ap (λ z. declared at z i.2) u.0,
    )

pub declared_items_fail : (scope : Scope) (d : ℕ) (ts : List Token) (at : Pos) (ss : List SpecifierTree) (k : ℕ) (cur : List Token) (f : Refusal) →
    NotFront (kind.Keyword keyword.StaticAssert) ts → StartsAt at ts → ReadsOf (SpellsSomeSpecifiers scope) EndsSpecifiers specifiers_depth d ts ss k cur →
    FailsOf (SpellsItemList None scope) Anywhere items_depth d cur f → FailsOf (SpellsDeclaration None scope) Anywhere declaration_depth d ts f
declared_items_fail scope d ts at ss k cur f none starts g h = part_fails (SpellsItemList None scope) Anywhere items_depth (SpellsDeclaration None scope)
    Anywhere declaration_depth d d ts cur f (λ y r s en. let i = declared_front scope d ts at ss k cur none starts g y r s in
    (i.0, r, i.1, tt, subst (λ z. d + items_depth i.0 ≤ d + declaration_depth z) (sym i.2) (omega arith))) h

pub declared_reads : (scope : Scope) (d : ℕ) (ts : List Token) (at : Pos) (ss : List SpecifierTree) (k : ℕ) (cur : List Token) (is : List ItemTree) (j : ℕ)
    (rest : List Token) (m : ℕ) → NotFront (kind.Keyword keyword.StaticAssert) ts → StartsAt at ts → ReadsOf (SpellsSomeSpecifiers scope) EndsSpecifiers
    specifiers_depth d ts ss k cur → ReadsOf (SpellsItemList None scope) Anywhere items_depth d cur is j rest → m ≡ max k j →
    ReadsOf (SpellsDeclaration None scope) Anywhere declaration_depth d ts (declared at ss is) m rest
declared_reads scope d ts at ss k cur is j rest m none starts g h em = record {
  spelled = let s = h.spelled in (cur, s.0, starts, g.spelled.some, g.spelled.spells, s.1, s.2);
  tall = omega (arith, em, g.tall, h.tall);
  fits = omega (arith, em, g.fits, h.fits);
  only = λ y r s en.
      let i = declared_front scope d ts at ss k cur none starts g y r s in
      let u = h.only i.0 r i.1 tt in
      (i.2 ∙ ap (declared at ss) u.0, u.1);
}

-- ---- a static assertion

text_once : (n m : ℕ) (ts r q : List Token) → SpellsText None n ts r → SpellsText None m ts q → (n ≡ m) × (r ≡ q)
text_once n m ts r q a b =
    let a1 = mark_own _ ts a.0 a.3 in let b1 = mark_own _ ts b.0 b.3 in
    let u1 = own_once _ a1.0 b1.0 ts a.0 b.0 a1.1 b1.1 in
    let a2 = mark_own _ a.0 a.1 a.4 in let b2 = mark_own _ b.0 b.1 b.4 in
    let u2 = same_token _ _ a2.0 b2.0 b.0 a.1 b.1 (subst (λ z. Own (kind.StringLiteral n) a2.0 z a.1) u1.1 a2.1) b2.1 in
    let a3 = mark_own _ a.1 a.2 a.5 in let b3 = mark_own _ b.1 b.2 b.5 in
    let u3 = own_once _ a3.0 b3.0 b.1 a.2 b.2 (subst (λ z. Own (kind.Punctuator sign.ParenClose) a3.0 z a.2) u2.2 a3.1) b3.1 in
    let a4 = mark_own _ a.2 r a.6 in let b4 = mark_own _ b.2 q b.6 in
    let u4 = own_once _ a4.0 b4.0 b.2 r q (subst (λ z. Own (kind.Punctuator sign.Semicolon) a4.0 z r) u3.1 a4.1) b4.1 in
    (ap number u2.0, u4.1)
  where
    number : Kind → ℕ
    number (kind.StringLiteral k) = k
    number _ = 0

text_stops : (n : ℕ) (ts r : List Token) → SpellsText None n ts r → Stops 2 ts
text_stops n ts r a = let o = mark_own _ ts a.0 a.3 in let le : power (kind.Punctuator sign.Comma) ≤ 2 = omega arith in subst (Stops 2) (sym o.1) le

-- the parts of the assertion after its keyword
asserted_parts : (scope : Scope) (y : DeclarationTree) (at : Pos) (us r : List Token) → SpellsDeclaration None scope y (Behind keyword.StaticAssert at us) r →
    (e : Tree) × (n : ℕ) × (v : List Token) × (w : List Token) × (o : Pos) × Own (kind.Punctuator sign.ParenOpen) o us v × Front 2 e v w × SpellsText None n w r
    × (y ≡ assertion at e n)
asserted_parts scope (declared o ss is) at us r s = absurd (specifiers_begin None scope ss _ s.0 s.3 s.4)
asserted_parts scope (assertion o e n) at us r s =
    let u = own_once _ o at _ s.0 us s.6 refl in
    let q = mark_own _ s.0 s.1 s.7 in
    let text : SpellsText None n s.2 r = (s.3, s.4, s.5, s.10, s.11, s.12, s.13) in (
      e,
      n,
      s.1,
      s.2,
      q.0,
      subst (λ z. Own (kind.Punctuator sign.ParenOpen) q.0 z s.1) u.1 q.1,
      record {
        tight = s.8;
        spells = s.9;
        stops = text_stops n s.2 r
            text;
      },
      text,
      ap (λ z. assertion z e n) u.0,
    )

pub asserted_full : (d : ℕ) (at : Pos) (us : List Token) (f : Refusal) → f ≡ Depth at → d ≡ 256 → (scope : Scope) → FailsOf (SpellsDeclaration None scope)
    Anywhere declaration_depth d (Behind keyword.StaticAssert at us) f
asserted_full d at us f ef ed scope = full_fails (SpellsDeclaration None scope) Anywhere declaration_depth d (Behind keyword.StaticAssert at us) at f ef ed
    (λ y r s en. let i = asserted_parts scope y at us r s in subst (λ z. 1 ≤ declaration_depth z) (sym i.8) (omega arith))

pub asserted_full_stands : (d : ℕ) (at : Pos) (us : List Token) (f : Refusal) → f ≡ Depth at → d ≡ 256 → (scope : Scope) →
    StandsOf (λ b. SpellsDeclaration b scope) declaration_depth d (Behind keyword.StaticAssert at us) f
asserted_full_stands d at us f ef ed scope = full_stands (λ b. SpellsDeclaration b scope) declaration_depth d (Behind keyword.StaticAssert at us) us
    (kind.Keyword keyword.StaticAssert) at f (assertion at hole 0) ef ed refl (
      us,
      us,
      us,
      us,
      us,
      us,
      refl,
      inr (refl, refl),
      omega arith,
      (refl, refl),
      inr
          (refl, refl),
      inr (refl, refl),
      inr (refl, refl),
      inr (refl, refl),
    ) (omega arith)

pub asserted_open : (d : ℕ) (at : Pos) (us : List Token) (f : Refusal) → NotFront (kind.Punctuator sign.ParenOpen) us → (scope : Scope) →
    FailsOf (SpellsDeclaration None scope) Anywhere declaration_depth d (Behind keyword.StaticAssert at us) f
asserted_open d at us f none scope = never_reads (SpellsDeclaration None scope) Anywhere declaration_depth d (Behind keyword.StaticAssert at us) f
    (λ y r s en. let i = asserted_parts scope y at us r s in none i.4 i.2 i.5)

pub asserted_fails : (d : ℕ) (at o : Pos) (us vs : List Token) (f : Refusal) → Own (kind.Punctuator sign.ParenOpen) o us vs → Fails 2 (d + 1) vs f →
    (scope : Scope) → FailsOf (SpellsDeclaration None scope) Anywhere declaration_depth d (Behind keyword.StaticAssert at us) f
asserted_fails d at o us vs f own h scope = record {
  each = λ y r s en.
      let i = asserted_parts scope y at us r s in
      let u = own_once _ i.4 o us i.2 vs i.5 own in
      let deep : depth i.0 + 1 ≤ declaration_depth y = subst (λ z. depth i.0 + 1 ≤ declaration_depth z) (sym i.8) (omega arith) in
      excuses_grow f (d + 1) d (depth i.0) (declaration_depth y) (omega (arith, deep)) (h.each i.0 i.3 (subst (λ z. Front 2 i.0 z i.3) u.1 i.6));
}

pub asserted_stands : (d : ℕ) (at o : Pos) (us vs : List Token) (f : Refusal) → Own (kind.Punctuator sign.ParenOpen) o us vs → Stands 2 (d + 1) vs f →
    (scope : Scope) → StandsOf (λ b. SpellsDeclaration b scope) declaration_depth d (Behind keyword.StaticAssert at us) f
asserted_stands d at o us vs f own h scope = part_stands (Layered 2) depth (λ b. SpellsDeclaration b scope) declaration_depth (d + 1) d
    (Behind keyword.StaticAssert at us) vs f (λ e. assertion at e 0) (reaches_on _ us vs (own_reaches _ at _ us refl) (own_reaches _ o us vs own))
    (λ a cut lt s. (us, vs, cut, cut, cut, cut, refl, inl (o, own), s.0, s.1, inr (refl, refl), inr (refl, refl), inr (refl, refl), inr (refl, refl)))
    (λ a. omega arith) (stands_of 2 (d + 1) vs f h)

pub asserted_no_text : (d : ℕ) (at o : Pos) (us vs : List Token) (e : Tree) (k : ℕ) (ws : List Token) (f : Refusal) → Own (kind.Punctuator sign.ParenOpen) o us
    vs → Reads 2 (d + 1) vs e k ws → ((n : ℕ) (rest : List Token) → SpellsText None n ws rest → ⊥) → (scope : Scope) → FailsOf (SpellsDeclaration None scope)
    Anywhere declaration_depth d (Behind keyword.StaticAssert at us) f
asserted_no_text d at o us vs e k ws f own h none scope = never_reads (SpellsDeclaration None scope) Anywhere declaration_depth d
    (Behind keyword.StaticAssert at us) f (λ y r s en.
    let i = asserted_parts scope y at us r s in
    let u = own_once _ i.4 o us i.2 vs i.5 own in
    let v = h.only i.0 i.3 (subst (λ z. Front 2 i.0 z i.3) u.1 i.6) in
    none i.1 r (subst (λ z. SpellsText None i.1 z r) v.1 i.7))

pub asserted_reads : (d : ℕ) (at o : Pos) (us vs : List Token) (e : Tree) (k : ℕ) (ws : List Token) (n : ℕ) (rest : List Token) →
    Own (kind.Punctuator sign.ParenOpen) o us vs → Reads 2 (d + 1) vs e k ws → SpellsText None n ws rest → (scope : Scope) →
    ReadsOf (SpellsDeclaration None scope) Anywhere declaration_depth d (Behind keyword.StaticAssert at us) (assertion at e n) (k + 1) rest
asserted_reads d at o us vs e k ws n rest own h t scope = record {
  spelled = (us, vs, ws, t.0, t.1, t.2, refl, inl (o, own), h.tight, h.spells, t.3, t.4, t.5, t.6);
  tall = ap (λ x. x + 1) h.height;
  fits = omega (arith, h.fits);
  only = λ y r s en.
      let i = asserted_parts scope y at us r s in
      let u = own_once _ i.4 o us i.2 vs i.5 own in
      let v = h.only i.0 i.3 (subst (λ z. Front 2 i.0 z i.3) u.1 i.6) in
      let w = text_once i.1 n ws r rest (subst (λ z. SpellsText None i.1 z r) v.1 i.7) t in
      (i.8 ∙ ap (λ z. assertion at z i.1) v.0 ∙ ap (assertion at e) w.0, w.1);
}

-- ---- in a block

pub asserted_block : (d : ℕ) (ts us : List Token) (at : Pos) (r : Result DeclarationPart Refusal) → Own (kind.Keyword keyword.StaticAssert) at ts us →
    AnswersAsserted d at us r → AnswersDeclaration d ts r
asserted_block d ts us at (Ok p) own h = subst (λ z. ReadsOf (SpellsDeclaration None Block) Anywhere declaration_depth d z (declaration_of p.declaration)
    p.depth p.rest.now) (sym own) (h Block)
asserted_block d ts us at (Err f) own h = subst (λ z. FailsOf (SpellsDeclaration None Block) Anywhere declaration_depth d z f) (sym own) (h Block)

pub asserted_block_stands : (d : ℕ) (ts us : List Token) (at : Pos) (r : Result DeclarationPart Refusal) → Own (kind.Keyword keyword.StaticAssert) at ts us →
    IfErr r (λ f. StandsAsserted d at us f) → IfErr r (λ f. StandsDeclaration d ts f)
asserted_block_stands d ts us at (Ok p) own h = tt
asserted_block_stands d ts us at (Err f) own h = subst (λ z. StandsOf (λ b. SpellsDeclaration b Block) declaration_depth d z f) (sym own) (h Block)

pub asserted_shorter : (ts us : List Token) (at : Pos) (r : Result DeclarationPart Refusal) → Own (kind.Keyword keyword.StaticAssert) at ts us →
    IfOk r (λ p. length p.rest.now < length us) → IfOk r (λ p. length p.rest.now < length ts)
asserted_shorter ts us at (Ok p) own h = let e = ap length own in omega (arith, h, e)
asserted_shorter ts us at (Err f) own h = tt
