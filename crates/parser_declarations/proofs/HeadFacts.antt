-- The tokens after the specifiers at file scope, and the front of a translation unit.
use Rattle.std.specs.Prelude.{None, max, Result, Ok, Err, IfOk, IfErr}
use Rattle.std.proofs.Common.{◌≡◌, ℕ, ◌+◌, ◌<◌, ◌≤◌, inr, List, [], ◌∷◌, length, refl, sym, ap, ◌∙◌, subst, arith}
use Rattle.srcset.specs.declared.refusal.Pos.{Pos}
use Rattle.lexer.specs.declared.token.Token.{Token}
use Rattle.lexer.specs.declared.token.Kind.TheVariants as kind
use Rattle.lexer.specs.declared.token.Keyword.TheVariants as keyword
use Rattle.lexer.specs.declared.token.Punctuator.TheVariants as sign
use Rattle.tree.specs.Tree.{SpecifierTree, ParameterTree, ItemTree, object, function, DeclarationTree, declared, assertion, definition, declaration, no_pieces}
use Rattle.tree.specs.Counts.{specifiers_depth, item_depth, items_depth, declaration_depth, external_depth}
use Rattle.parser_grammar.specs.declared.refusal.Refusal.{Refusal}
use Rattle.parser_grammar.specs.declared.refusal.Refusal.TheVariants.{Syntax, Depth}
use Rattle.parser_grammar.specs.declared.scope.Scope.{Scope}
use Rattle.parser_grammar.specs.declared.scope.Scope.TheVariants.{File}
use Rattle.parser_grammar.specs.Tokens.{Own, StartsAt, NotFront}
use Rattle.parser_grammar.specs.Declarations.{SpellsDeclarationSpecifiers, SpellsItem, SpellsDeclaration}
use Rattle.parser_grammar.specs.layer.Answer.{ReadsOf, FailsOf, PassesOf, StandsOf, Anywhere}
use Rattle.parser_expressions.specs.ExpressionAnswers.{Stops}
use Rattle.parser_grammar.proofs.Tokens.{mark_own, reaches_self, reaches_on, own_last, own_kinds, mark_begun}
use Rattle.parser_grammar.specs.Statements.{SpellsExternal}
use Rattle.parser_declarations.specs.inside.SpecifierAnswers.{SpellsSomeSpecifiers, EndsSpecifiers}
use Rattle.parser_declarations.specs.DeclarationAnswers.{HeadTree, whole, opening, SpellsHead, EndsHead, head_depth, head_of, AnswersHead, StandsHead}
use Rattle.parser_declarations.specs.inside.DeclarationFronts.{Behind, TailTree, listing, defining, SpellsTail, BraceAt, EndsTail, tail_depth, tail_of, HasBrace, Defines, IsObject, head_tree, specifiers_height, AnswersTail}
use Rattle.parser_declarations.specs.inside.ItemAnswers.{EndsItem, SpellsFurther, SpellsItemList, StandsItems}
use Rattle.parser_declarations.specs.declared.declarations.TailPart.{TailPart}
use Rattle.parser_declarations.specs.declared.declarations.HeadPart.{HeadPart}
use Rattle.parser_grammar.proofs.DeclarationBegun.{specifiers_are_begun, declaration_specifiers_reach, parameters_are_begun, item_reaches}
use Rattle.parser_expressions.proofs.PartFacts.{stops_own, never_reads, part_fails, part_stands}
use Rattle.parser_declarations.proofs.ItemFacts.{items_none, items_front, items_further_fails, items_read, item_name}
use Rattle.parser_declarations.specs.declared.declarations.Tail.{Tail}
use Rattle.parser_declarations.specs.declared.declarations.Tail.TheVariants as tails
use Rattle.parser_declarations.proofs.DeclarationFacts.{no_assertion, name_ends, items_end, starts_once, specifiers_stand, items_stand}

-- ---- the tokens after the specifiers

-- before the brace of a body an item can end
brace_stops : (at : Pos) (r : List Token) → BraceAt at r → Stops 1 r
brace_stops at r b = stops_own _ at r b.0 b.1 (omega arith)

pub tail_none : (d : ℕ) (ts rest : List Token) (at : Pos) → d ≤ 256 → Own (kind.Punctuator sign.Semicolon) at ts rest → ReadsOf SpellsTail EndsTail tail_depth d
    ts (listing []) 0 rest
tail_none d ts rest at le own = record { spelled = h.spelled; tall = refl; fits = omega (arith, le); only = on }
  where
    h : ReadsOf (SpellsItemList None File) Anywhere items_depth d ts [] 0 rest
    h = items_none File d ts rest at le own

    on : (y : TailTree) (r : List Token) → SpellsTail y ts r → EndsTail y r → (y ≡ listing []) × (r ≡ rest)
    on (listing is) r s en = let u = h.only is r s tt in (ap listing u.0, u.1)
    on (defining p n ps) r s en = let i = item_name File (function p n ps) ts r s in let w = own_kinds _ _ i.1 at ts i.2 rest i.3 own in
        let w' : kind.Identifier i.0 ≡ kind.Punctuator sign.Semicolon = w in cc

-- the first item of any tree that these tokens spell
tail_first : (y : TailTree) (ts r : List Token) → NotFront (kind.Punctuator sign.Semicolon) ts → SpellsTail y ts r → EndsTail y r → (i : ItemTree)
    × (x : List Token) × SpellsItem None File i ts x × EndsItem i x × (item_depth i ≤ tail_depth y)
tail_first (listing is) ts r none s en = let i = items_front File ts none is r s in
    (i.0, i.2, i.3, i.4, subst (λ z. item_depth i.0 ≤ items_depth z) (sym i.6) (omega arith))
tail_first (defining p n ps) ts r none s en = (function p n ps, r, s, brace_stops en.0 r en.1, omega arith)

pub tail_fails : (d : ℕ) (ts : List Token) (f : Refusal) → NotFront (kind.Punctuator sign.Semicolon) ts → FailsOf (SpellsItem None File) EndsItem item_depth d
    ts f → FailsOf SpellsTail EndsTail tail_depth d ts f
tail_fails d ts f none h = part_fails (SpellsItem None File) EndsItem item_depth SpellsTail EndsTail tail_depth d d ts ts f
    (λ y r s en. let i = tail_first y ts r none s en in (i.0, i.1, i.2, i.3, let le = i.4 in omega (arith, le))) h

-- after an item neither a comma nor a semicolon is a brace
further_no_brace : (is : List ItemTree) (ts r us : List Token) (at : Pos) → Own (kind.Punctuator sign.BraceOpen) at ts us → SpellsFurther None File is ts r → ⊥
further_no_brace [] ts r us at own s = let o = mark_own _ s.0 r s.2 in let e = own_kinds _ _ o.0 at ts r us
    (subst (λ z. Own (kind.Punctuator sign.Semicolon) o.0 z r) (sym s.1) o.1) own in let e' : kind.Punctuator sign.Semicolon ≡ kind.Punctuator
    sign.BraceOpen = e in cc
further_no_brace (i ∷ is) ts r us at own s = let t = s.1 in let o = mark_own _ ts t.0 t.2 in let e = own_kinds _ _ o.0 at ts t.0 us o.1 own in
    let e' : kind.Punctuator sign.Comma ≡ kind.Punctuator sign.BraceOpen = e in cc

-- only the function's own definition precedes a brace
brace_front : (d : ℕ) (ts : List Token) (i : ItemTree) (k : ℕ) (cur : List Token) (at : Pos) → NotFront (kind.Punctuator sign.Semicolon) ts →
    ReadsOf (SpellsItem None File) EndsItem item_depth d ts i k cur → BraceAt at cur → (y : TailTree) (r : List Token) → SpellsTail y ts r → EndsTail y r →
    (p : Pos) × (n : ℕ) × (ps : List ParameterTree) × (y ≡ defining p n ps) × (i ≡ function p n ps) × (r ≡ cur)
brace_front d ts i k cur at none first brace (listing is) r s en =
    let g = items_front File ts none is r s in
    let u = first.only g.0 g.2 g.3 g.4 in
    absurd (further_no_brace g.1 cur r brace.0 at brace.1 (subst (λ z. SpellsFurther None File g.1 z r) u.1 g.5))
brace_front d ts i k cur at none first brace (defining p n ps) r s en = let u = first.only (function p n ps) r s (brace_stops en.0 r en.1) in
    (p, n, ps, refl, sym u.0, u.1)

object_fails : (d : ℕ) (ts : List Token) (i : ItemTree) (k : ℕ) (cur : List Token) (at : Pos) (f : Refusal) → NotFront (kind.Punctuator sign.Semicolon) ts →
    ReadsOf (SpellsItem None File) EndsItem item_depth d ts i k cur → BraceAt at cur → IsObject i → FailsOf SpellsTail EndsTail tail_depth d ts f
object_fails d ts i k cur at f none first brace is_object = never_reads SpellsTail EndsTail tail_depth d ts f
    (λ y r s en. let g = brace_front d ts i k cur at none first brace y r s en in subst IsObject g.4 is_object)

defining_reads : (d : ℕ) (ts : List Token) (p : Pos) (n : ℕ) (ps : List ParameterTree) (k : ℕ) (cur : List Token) (at : Pos) →
    NotFront (kind.Punctuator sign.Semicolon) ts → ReadsOf (SpellsItem None File) EndsItem item_depth d ts (function p n ps) k cur → BraceAt at cur →
    ReadsOf SpellsTail EndsTail tail_depth d ts (defining p n ps) k cur
defining_reads d ts p n ps k cur at none first brace = record {
  spelled = first.spelled;
  tall = first.tall;
  fits = first.fits;
  only = λ y r s en. let g = brace_front d ts (function p n ps) k cur at none first brace y r s en in (g.3 ∙ ap as_tail (sym g.4), g.5);
}
  where
    as_tail : ItemTree → TailTree
    as_tail (object q m es o) = listing []
    as_tail (function q m qs) = defining q m qs

defines_reads : (d : ℕ) (ts : List Token) (i : ItemTree) (t : TailTree) (k : ℕ) (cur : List Token) (at : Pos) → NotFront (kind.Punctuator sign.Semicolon) ts →
    ReadsOf (SpellsItem None File) EndsItem item_depth d ts i k cur → BraceAt at cur → Defines i t → ReadsOf SpellsTail EndsTail tail_depth d ts t k cur
defines_reads d ts (object q m es o) t k cur at none first brace h = absurd h
defines_reads d ts (function q m qs) t k cur at none first brace h = subst (λ z. ReadsOf SpellsTail EndsTail tail_depth d ts z k cur) (sym h)
    (defining_reads d ts q m qs k cur at none first brace)

-- the result of `defined` satisfies the postcondition
pub tail_defined : (d : ℕ) (ts : List Token) (i : ItemTree) (k : ℕ) (cur : List Token) (at : Pos) (r : Result TailPart Refusal) →
    NotFront (kind.Punctuator sign.Semicolon) ts → ReadsOf (SpellsItem None File) EndsItem item_depth d ts i k cur → BraceAt at cur →
    IfOk r (λ p. Defines i (tail_of p.tail)) → IfOk r (λ p. HasBrace p.tail p.rest.now) → IfOk r (λ p. p.depth ≡ k) → IfOk r (λ p. p.rest.now ≡ cur) →
    IfErr r (λ f. IsObject i × ((left : ℕ) × (f ≡ Syntax left))) → AnswersTail d ts r
tail_defined d ts i k cur at (Ok p) none first brace h b ed er e = (rw (ed, er) (defines_reads d ts i (tail_of p.tail) k cur at none first brace h), b)
tail_defined d ts i k cur at (Err f) none first brace h b ed er e = object_fails d ts i k cur at f none first brace e.0

pub tail_defined_stands : (d : ℕ) (ts : List Token) (i : ItemTree) (at : Pos) (r : Result TailPart Refusal) →
    IfErr r (λ f. IsObject i × ((left : ℕ) × (f ≡ Syntax left))) → IfErr r (λ f. StandsItems File d ts f)
tail_defined_stands d ts i at (Ok p) e = tt
tail_defined_stands d ts i at (Err f) e = rw e.1.1 tt

pub tail_defined_shorter : (ts cur : List Token) (r : Result TailPart Refusal) → length cur < length ts → IfOk r (λ p. p.rest.now ≡ cur) →
    IfOk r (λ p. length p.rest.now < length ts)
tail_defined_shorter ts cur (Ok p) lt er = rw er lt
tail_defined_shorter ts cur (Err f) lt er = tt

-- no brace follows the first item
listing_front : (d : ℕ) (ts : List Token) (i : ItemTree) (k : ℕ) (cur : List Token) → NotFront (kind.Punctuator sign.Semicolon) ts →
    NotFront (kind.Punctuator sign.BraceOpen) cur → ReadsOf (SpellsItem None File) EndsItem item_depth d ts i k cur → (y : TailTree) (r : List Token) →
    SpellsTail y ts r → EndsTail y r → (is : List ItemTree) × SpellsItemList None File is ts r × (y ≡ listing is)
listing_front d ts i k cur none bare first (listing is) r s en = (is, s, refl)
listing_front d ts i k cur none bare first (defining p n ps) r s en =
    let u = first.only (function p n ps) r s (brace_stops en.0 r en.1) in
    absurd (bare en.0 en.1.0 (subst (λ z. Own (kind.Punctuator sign.BraceOpen) en.0 z en.1.0) u.1 en.1.1))

pub tail_further_fails : (d : ℕ) (ts : List Token) (i : ItemTree) (k : ℕ) (cur : List Token) (f : Refusal) → NotFront (kind.Punctuator sign.Semicolon) ts →
    NotFront (kind.Punctuator sign.BraceOpen) cur → ReadsOf (SpellsItem None File) EndsItem item_depth d ts i k cur → FailsOf (SpellsFurther None File) Anywhere
    items_depth d cur f → FailsOf SpellsTail EndsTail tail_depth d ts f
tail_further_fails d ts i k cur f none bare first h = part_fails (SpellsItemList None File) Anywhere items_depth SpellsTail EndsTail tail_depth d d ts ts f
    (λ y r s en. let g = listing_front d ts i k cur none bare first y r s en in
    (g.0, r, g.1, tt, subst (λ z. d + items_depth g.0 ≤ d + tail_depth z) (sym g.2) (omega arith))) (items_further_fails File d ts i k cur f none first h)

pub tail_reads : (d : ℕ) (ts : List Token) (i : ItemTree) (k : ℕ) (cur : List Token) (is : List ItemTree) (j : ℕ) (rest : List Token) (m : ℕ) →
    NotFront (kind.Punctuator sign.Semicolon) ts → NotFront (kind.Punctuator sign.BraceOpen) cur → ReadsOf (SpellsItem None File) EndsItem item_depth d ts i k
    cur → ReadsOf (SpellsFurther None File) Anywhere items_depth d cur is j rest → m ≡ max k j → ReadsOf SpellsTail EndsTail tail_depth d ts (listing (i ∷ is))
    m rest
tail_reads d ts i k cur is j rest m none bare first h em = record {
  spelled = l.spelled;
  tall = l.tall;
  fits = l.fits;
  only = λ y r s en.
      let g = listing_front d ts i k cur none bare first y r s en in
      let u = l.only g.0 r g.1 tt in
      (g.2 ∙ ap listing u.0, u.1);
}
  where
    l : ReadsOf (SpellsItemList None File) Anywhere items_depth d ts (i ∷ is) m rest
    l = items_read File d ts i k cur is j rest m none first h em

-- ---- the whole front

-- a declaration is an external declaration
external_stands : (d : ℕ) (ts : List Token) (f : Refusal) → StandsOf (λ b. SpellsDeclaration b File) declaration_depth d ts f →
    StandsOf SpellsExternal external_depth d ts f
external_stands d ts f h = part_stands (λ b. SpellsDeclaration b File) declaration_depth SpellsExternal external_depth d d ts ts f declaration (reaches_self ts)
    (λ a cut lt s. s) (λ a. omega arith) h

-- an assertion
assertion_front : (y : HeadTree) (ts us r : List Token) (at : Pos) → Own (kind.Keyword keyword.StaticAssert) at ts us → SpellsHead None y ts r →
    (z : DeclarationTree) × SpellsDeclaration None File z (Behind keyword.StaticAssert at us) r × (y ≡ whole z)
assertion_front (whole z) ts us r at own s = (z, subst (λ t. SpellsDeclaration None File z t r) own s, refl)
assertion_front (opening o) ts us r at own s = absurd (no_assertion None File o.specifiers ts s.0 us at own s.5 s.6)

pub assertion_head_fails : (d : ℕ) (ts us : List Token) (at : Pos) (f : Refusal) → Own (kind.Keyword keyword.StaticAssert) at ts us →
    ((scope : Scope) → FailsOf (SpellsDeclaration None scope) Anywhere declaration_depth d (Behind keyword.StaticAssert at us) f) →
    FailsOf (SpellsHead None) EndsHead head_depth d ts f
assertion_head_fails d ts us at f own h = part_fails (SpellsDeclaration None File) Anywhere declaration_depth (SpellsHead None) EndsHead head_depth d d ts
    (Behind keyword.StaticAssert at us) f (λ y r s en. let i = assertion_front y ts us r at own s in
    (i.0, r, i.1, tt, subst (λ z. d + declaration_depth i.0 ≤ d + head_depth z) (sym i.2) (omega arith))) (h File)

pub assertion_head_stands : (d : ℕ) (ts us : List Token) (at : Pos) (f : Refusal) → Own (kind.Keyword keyword.StaticAssert) at ts us →
    ((scope : Scope) → StandsOf (λ b. SpellsDeclaration b scope) declaration_depth d (Behind keyword.StaticAssert at us) f) →
    StandsOf SpellsExternal external_depth d ts f
assertion_head_stands d ts us at f own h = external_stands d ts f (subst (λ z. StandsOf (λ b. SpellsDeclaration b File) declaration_depth d z f) (sym own)
    (h File))

pub assertion_head_reads : (d : ℕ) (ts us : List Token) (at : Pos) (z : DeclarationTree) (k : ℕ) (rest : List Token) → Own (kind.Keyword keyword.StaticAssert)
    at ts us → ((scope : Scope) → ReadsOf (SpellsDeclaration None scope) Anywhere declaration_depth d (Behind keyword.StaticAssert at us) z k rest) →
    ReadsOf (SpellsHead None) EndsHead head_depth d ts (whole z) k rest × EndsHead (whole z) rest
assertion_head_reads d ts us at z k rest own h = (
  record {
    spelled = subst (λ t. SpellsDeclaration None File z t rest) (sym own) (h File).spelled;
    tall = (h File).tall;
    fits = (h File).fits;
    only = λ y r s en. let i = assertion_front y ts us r at own s in let u = (h File).only i.0 r i.1 tt in (i.2 ∙ ap whole u.0, u.1);
  },
  tt,
)

-- its parts, where it is no assertion
head_parts : (y : HeadTree) (ts r : List Token) → NotFront (kind.Keyword keyword.StaticAssert) ts → SpellsHead None y ts r → EndsHead y r → (start : Pos)
    × (ss : List SpecifierTree) × (t : TailTree) × (x : List Token) × StartsAt start ts × SpellsSomeSpecifiers File ss ts x × EndsSpecifiers ss x
    × SpellsTail t x r × EndsTail t r × (y ≡ head_tree start ss t)
head_parts (whole (declared at ss is)) ts r none s en = (
  at,
  ss,
  listing is,
  s.0,
  s.2,
  record { some = s.3; spells = s.4 },
  items_end File is ss s.0 r
      (s.1, s.5, s.6),
  (s.1, s.5, s.6),
  tt,
  refl,
)
head_parts (whole (assertion at e n)) ts r none s en = absurd (none at s.0 s.6)
head_parts (opening o) ts r none s en =
    let item : SpellsItem None File (function o.at o.name o.parameters) s.0 r = (refl, (s.1, s.2, s.3, s.7, s.8, s.9, s.10)) in (
      o.start,
      o.specifiers,
      defining o.at o.name o.parameters,
      s.0,
      s.4,
      record { some = s.5; spells = s.6 },
      name_ends File (function o.at o.name o.parameters)
          o.specifiers s.0 r item,
      item,
      (en.0, (en.1, en.2)),
      refl,
    )

head_tall : (start : Pos) (ss : List SpecifierTree) (t : TailTree) → head_depth (head_tree start ss t) ≡ max (specifiers_height (specifiers_depth ss) t)
    (tail_depth t)
head_tall start ss (listing is) = refl
head_tall start ss (defining at n ps) = omega arith

height_least : (k : ℕ) (t : TailTree) → k ≤ specifiers_height k t
height_least k (listing is) = omega arith
height_least k (defining at n ps) = omega arith

pub head_specifiers_fail : (d : ℕ) (ts : List Token) (f : Refusal) → NotFront (kind.Keyword keyword.StaticAssert) ts → FailsOf (SpellsSomeSpecifiers File)
    EndsSpecifiers specifiers_depth d ts f → FailsOf (SpellsHead None) EndsHead head_depth d ts f
head_specifiers_fail d ts f none h = part_fails (SpellsSomeSpecifiers File) EndsSpecifiers specifiers_depth (SpellsHead None) EndsHead head_depth d d ts ts f
    (λ y r s en. let i = head_parts y ts r none s en in (
      i.1,
      i.3,
      i.5,
      i.6,
      subst (λ z. d + specifiers_depth i.1 ≤ d + head_depth z) (sym i.9)
          (let e = head_tall i.0 i.1 i.2 in let l = height_least (specifiers_depth i.1) i.2 in omega (arith, e, l)),
    )) h

pub head_specifiers_stand : (d : ℕ) (ts : List Token) (f : Refusal) → d ≤ 256 → StandsOf (λ b. SpellsDeclarationSpecifiers b File) specifiers_depth d ts f →
    StandsOf SpellsExternal external_depth d ts f
head_specifiers_stand d ts f le h = external_stands d ts f (specifiers_stand File d ts f le h)

-- with these specifiers
head_front : (d : ℕ) (ts : List Token) (at : Pos) (ss : List SpecifierTree) (k : ℕ) (cur : List Token) → NotFront (kind.Keyword keyword.StaticAssert) ts →
    StartsAt at ts → ReadsOf (SpellsSomeSpecifiers File) EndsSpecifiers specifiers_depth d ts ss k cur → (y : HeadTree) (r : List Token) →
    SpellsHead None y ts r → EndsHead y r → (t : TailTree) × SpellsTail t cur r × EndsTail t r × (y ≡ head_tree at ss t)
head_front d ts at ss k cur none starts g y r s en =
    let i = head_parts y ts r none s en in
    let u = g.only i.1 i.3 i.5 i.6 in (
      i.2,
      subst (λ z. SpellsTail i.2 z r) u.1 i.7,
      i.8,
      i.9 ∙ ap (λ z. head_tree z i.1 i.2) (starts_once i.0 at ts i.4 starts)
          ∙ ap (λ z. head_tree at z i.2) u.0,
    )

pub head_tail_fails : (d : ℕ) (ts : List Token) (at : Pos) (ss : List SpecifierTree) (k : ℕ) (cur : List Token) (f : Refusal) →
    NotFront (kind.Keyword keyword.StaticAssert) ts → StartsAt at ts → ReadsOf (SpellsSomeSpecifiers File) EndsSpecifiers specifiers_depth d ts ss k cur →
    FailsOf SpellsTail EndsTail tail_depth d cur f → FailsOf (SpellsHead None) EndsHead head_depth d ts f
head_tail_fails d ts at ss k cur f none starts g h = part_fails SpellsTail EndsTail tail_depth (SpellsHead None) EndsHead head_depth d d ts cur f
    (λ y r s en. let i = head_front d ts at ss k cur none starts g y r s en in
    (i.0, r, i.1, i.2, subst (λ z. d + tail_depth i.0 ≤ d + head_depth z) (sym i.3) (let e = head_tall at ss i.0 in omega (arith, e)))) h

pub head_tail_stands : (d : ℕ) (ts : List Token) (at : Pos) (ss : List SpecifierTree) (k : ℕ) (cur : List Token) (f : Refusal) → StartsAt at ts →
    ReadsOf (SpellsSomeSpecifiers File) EndsSpecifiers specifiers_depth d ts ss k cur → StandsItems File d cur f → StandsOf SpellsExternal external_depth d ts f
head_tail_stands d ts at ss k cur f starts g h = external_stands d ts f (items_stand File d ts at ss k cur f starts g h)

head_spells : (start : Pos) (ss : List SpecifierTree) (t : TailTree) (ts cur rest : List Token) → StartsAt start ts → SpellsSomeSpecifiers File ss ts cur →
    SpellsTail t cur rest → SpellsHead None (head_tree start ss t) ts rest
head_spells start ss (listing is) ts cur rest starts g s = (cur, s.0, starts, g.some, g.spells, s.1, s.2)
head_spells start ss (defining at n ps) ts cur rest starts g s = let t = s.1 in (cur, t.0, t.1, t.2, starts, g.some, g.spells, t.3, t.4, t.5, t.6)

head_ends : (start : Pos) (ss : List SpecifierTree) (t : TailTree) (rest : List Token) → EndsTail t rest → EndsHead (head_tree start ss t) rest
head_ends start ss (listing is) rest en = tt
head_ends start ss (defining at n ps) rest en = (en.0, en.1.0, en.1.1)

pub brace_ends : (t : Tail) (rest : List Token) → HasBrace t rest → EndsTail (tail_of t) rest
brace_ends (tails.Items is) rest h = tt
brace_ends (tails.Function f at) rest h = (at, h)

head_reads : (d : ℕ) (ts : List Token) (at : Pos) (ss : List SpecifierTree) (k : ℕ) (cur : List Token) (t : TailTree) (j : ℕ) (rest : List Token) →
    NotFront (kind.Keyword keyword.StaticAssert) ts → StartsAt at ts → ReadsOf (SpellsSomeSpecifiers File) EndsSpecifiers specifiers_depth d ts ss k cur →
    ReadsOf SpellsTail EndsTail tail_depth d cur t j rest → d + specifiers_height k t ≤ 256 → ReadsOf (SpellsHead None) EndsHead head_depth d ts
    (head_tree at ss t) (max (specifiers_height k t) j) rest
head_reads d ts at ss k cur t j rest none starts g h fits = record {
  spelled = head_spells at ss t ts cur rest starts g.spelled h.spelled;
  tall = let e = head_tall at ss t in let a = ap (λ z. specifiers_height z t) g.tall in omega (arith, e, a, h.tall);
  fits = omega (arith, fits, h.fits);
  only = λ y r s en.
      let i = head_front d ts at ss k cur none starts g y r s en in
      let u = h.only i.0 r i.1 i.2 in
      (i.3 ∙ ap (head_tree at ss) u.0, u.1);
}

head_deep : (d : ℕ) (ts : List Token) (at o : Pos) (ss : List SpecifierTree) (k : ℕ) (cur : List Token) (t : TailTree) (j : ℕ) (rest : List Token) →
    NotFront (kind.Keyword keyword.StaticAssert) ts → StartsAt at ts → ReadsOf (SpellsSomeSpecifiers File) EndsSpecifiers specifiers_depth d ts ss k cur →
    ReadsOf SpellsTail EndsTail tail_depth d cur t j rest → 256 < d + specifiers_height k t → FailsOf (SpellsHead None) EndsHead head_depth d ts (Depth o)
head_deep d ts at o ss k cur t j rest none starts g h deep = record {
  each = λ y r s en.
      let i = head_front d ts at ss k cur none starts g y r s en in
      let u = h.only i.0 r i.1 i.2 in
      let q : y ≡ head_tree at ss t = i.3 ∙ ap (head_tree at ss) u.0 in
      let a = ap (λ z. specifiers_height z t) g.tall in
      let le : specifiers_height (specifiers_depth ss) t ≤ head_depth y = subst (λ z. specifiers_height (specifiers_depth ss) t ≤ head_depth z) (sym q)
      (let e = head_tall at ss t in omega (arith, e)) in
      omega (arith, deep, le, a);
}

-- the result of `external` satisfies the postcondition
pub head_answers : (d : ℕ) (ts : List Token) (at : Pos) (ss : List SpecifierTree) (k : ℕ) (cur : List Token) (t : TailTree) (j : ℕ) (rest : List Token)
    (r : Result HeadPart Refusal) → NotFront (kind.Keyword keyword.StaticAssert) ts → StartsAt at ts → ReadsOf (SpellsSomeSpecifiers File) EndsSpecifiers
    specifiers_depth d ts ss k cur → ReadsOf SpellsTail EndsTail tail_depth d cur t j rest → EndsTail t rest → IfOk r (λ p. head_of p.head ≡ head_tree at ss t)
    → IfOk r (λ p. d + specifiers_height k t ≤ 256) → IfOk r (λ p. p.depth ≡ max (specifiers_height k t) j) → IfOk r (λ p. p.rest.now ≡ rest) →
    IfErr r (λ f. (256 < d + specifiers_height k t) × ((o : Pos) × BraceAt o rest × (f ≡ Depth o))) → AnswersHead d ts r
head_answers d ts at ss k cur t j rest (Ok p) none starts g h en eh fits ed er e = rw (eh, ed, er) (
  head_reads d ts at ss k cur t j rest none starts g h fits,
  head_ends at ss t rest en,
)
head_answers d ts at ss k cur t j rest (Err f) none starts g h en eh fits ed er e = rw e.1.2 (head_deep d ts at e.1.0 ss k cur t j rest none starts g h e.0)

-- a function definition whose specifiers are too deep below its node, begun up to the brace of its body
brace_passes : (d : ℕ) (ts : List Token) (at o : Pos) (ss : List SpecifierTree) (k : ℕ) (cur : List Token) (t : TailTree) (j : ℕ) (rest : List Token) →
    StartsAt at ts → ReadsOf (SpellsSomeSpecifiers File) EndsSpecifiers specifiers_depth d ts ss k cur → ReadsOf SpellsTail EndsTail tail_depth d cur t j rest →
    BraceAt o rest → 256 < d + specifiers_height k t → PassesOf SpellsExternal external_depth d ts o
brace_passes d ts at o ss k cur (listing is) j rest starts g h brace deep = absurd (omega (arith, deep, g.fits))
brace_passes d ts at o ss k cur (defining p n ps) j rest starts g h brace deep = record {
  tree = definition (record { start = at; specifiers = ss; at = p; name = n; parameters = ps; brace = o; body = no_pieces });
  cut = brace.0;
  last = kind.Punctuator sign.BraceOpen;
  spelled =
      let s = h.spelled.1 in
      let c = brace.0 in (
        cur,
        s.0,
        s.1,
        s.2,
        rest,
        c,
        c,
        starts,
        g.spelled.some,
        specifiers_are_begun c File ss ts cur g.spelled.spells,
        s.3,
        mark_begun c _ _ _ s.4,
        parameters_are_begun c ps s.1 s.2 s.5,
        mark_begun c _ _ _ s.6,
        brace.1,
        refl,
        inr (refl, refl),
      );
  reaches = reaches_on ts cur _ (declaration_specifiers_reach File ss ts cur g.spelled.spells)
      (reaches_on cur rest _ (item_reaches File (function p n ps) cur rest h.spelled) (own_last _ o rest brace.0 brace.1));
  deep = omega (arith, deep, g.tall);
}

pub head_stands : (d : ℕ) (ts : List Token) (at : Pos) (ss : List SpecifierTree) (k : ℕ) (cur : List Token) (t : TailTree) (j : ℕ) (rest : List Token)
    (r : Result HeadPart Refusal) → StartsAt at ts → ReadsOf (SpellsSomeSpecifiers File) EndsSpecifiers specifiers_depth d ts ss k cur →
    ReadsOf SpellsTail EndsTail tail_depth d cur t j rest → IfErr r (λ f. (256 < d + specifiers_height k t) × ((o : Pos) × BraceAt o rest × (f ≡ Depth o))) →
    IfErr r (λ f. StandsHead d ts f)
head_stands d ts at ss k cur t j rest (Ok p) starts g h e = tt
head_stands d ts at ss k cur t j rest (Err f) starts g h e = rw e.1.2 (brace_passes d ts at e.1.0 ss k cur t j rest starts g h e.1.1 e.0)

pub head_shorter : (ts rest : List Token) (r : Result HeadPart Refusal) → length rest < length ts → IfOk r (λ p. p.rest.now ≡ rest) →
    IfOk r (λ p. length p.rest.now < length ts)
head_shorter ts rest (Ok p) lt er = rw er lt
head_shorter ts rest (Err f) lt er = tt
