-- One specifier of a declaration.
use Rattle.std.specs.Prelude.{Option, None, Some}
use Rattle.std.proofs.Common.{◌≡◌, ℕ, ◌≤◌, inl, List, [], ◌∷◌, refl, sym, ap, ◌∙◌, subst, arith}
use Rattle.srcset.specs.declared.refusal.Pos.{Pos}
use Rattle.lexer.specs.declared.token.Token.{Token}
use Rattle.lexer.specs.declared.token.Kind.TheVariants as kind
use Rattle.lexer.specs.declared.token.Keyword.{Keyword}
use Rattle.lexer.specs.declared.token.Keyword.TheVariants as keyword
use Rattle.lexer.specs.declared.token.Punctuator.TheVariants as sign
use Rattle.tree.specs.declared.expression.TypeSpecifier.{TypeSpecifier}
use Rattle.tree.specs.declared.expression.TypeSpecifier.TheVariants as specifier
use Rattle.tree.specs.Tree.{EnumeratorTree, SpecifierTree, extern_specifier, static_specifier, plain_specifier, enumerators_specifier}
use Rattle.tree.specs.Counts.{enumerators_depth, specifier_depth}
use Rattle.parser_grammar.specs.declared.refusal.Refusal.{Refusal}
use Rattle.parser_grammar.specs.declared.refusal.Refusal.TheVariants.{Syntax, Depth, Memory}
use Rattle.parser_grammar.specs.Tokens.{Own, NotFront, Reaches}
use Rattle.parser_grammar.specs.Declarations.{SpellsTag, SpellsDeclarationSpecifier}
use Rattle.parser_grammar.specs.layer.Answer.{Excuses, ReadsOf, FailsOf, StandsOf, Anywhere}
use Rattle.parser_declarations.specs.inside.SpecifierAnswers.{BeginsSpecifier, KindBeginsSpecifier}
use Rattle.parser_declarations.specs.inside.DeclarationParts.{SpellsEnumeratorList, EndsSpecifier, IsAlone, IsNoneAlone}
use Rattle.parser_grammar.proofs.Tokens.{same_token, mark_own, reaches_on, own_reaches}
use Rattle.tree.specs.declared.expression.Word.{Word}
use Rattle.tree.specs.declared.expression.Word.TheVariants as word
use Rattle.parser_grammar.specs.declared.scope.Scope.{Scope}
use Rattle.parser_grammar.specs.Expressions.{word_keyword}

-- ---- the keyword that a specifier begins with, and the specifier that it alone denotes

abbrev lead_of_type : TypeSpecifier → Keyword
lead_of_type specifier.Const = keyword.Const
lead_of_type (specifier.Word w) = word_keyword w
lead_of_type (specifier.Enum tag) = keyword.Enum

abbrev lead_of : SpecifierTree → Keyword
lead_of extern_specifier = keyword.Extern
lead_of static_specifier = keyword.Static
lead_of (plain_specifier s) = lead_of_type s
lead_of (enumerators_specifier tag list) = keyword.Enum

abbrev alone_of : Keyword → SpecifierTree
alone_of keyword.Extern = extern_specifier
alone_of keyword.Const = plain_specifier specifier.Const
alone_of keyword.Void = plain_specifier (specifier.Word word.Void)
alone_of keyword.Char = plain_specifier (specifier.Word word.Char)
alone_of keyword.Short = plain_specifier (specifier.Word word.Short)
alone_of keyword.Int = plain_specifier (specifier.Word word.Int)
alone_of keyword.Long = plain_specifier (specifier.Word word.Long)
alone_of keyword.Signed = plain_specifier (specifier.Word word.Signed)
alone_of keyword.Unsigned = plain_specifier (specifier.Word word.Unsigned)
alone_of keyword.Bool = plain_specifier (specifier.Word word.Bool)
alone_of _ = static_specifier

word_alone : (w : Word) → alone_of (word_keyword w) ≡ plain_specifier (specifier.Word w)
word_alone word.Void = refl
word_alone word.Char = refl
word_alone word.Short = refl
word_alone word.Int = refl
word_alone word.Long = refl
word_alone word.Signed = refl
word_alone word.Unsigned = refl
word_alone word.Bool = refl

alone_again : (s : SpecifierTree) → (lead_of s ≡ keyword.Enum → ⊥) → alone_of (lead_of s) ≡ s
alone_again extern_specifier h = refl
alone_again static_specifier h = refl
alone_again (plain_specifier specifier.Const) h = refl
alone_again (plain_specifier (specifier.Word w)) h = word_alone w
alone_again (plain_specifier (specifier.Enum tag)) h = absurd (h refl)
alone_again (enumerators_specifier tag list) h = absurd (h refl)

word_begins : (w : Word) → KindBeginsSpecifier (kind.Keyword (word_keyword w))
word_begins word.Void = tt
word_begins word.Char = tt
word_begins word.Short = tt
word_begins word.Int = tt
word_begins word.Long = tt
word_begins word.Signed = tt
word_begins word.Unsigned = tt
word_begins word.Bool = tt

-- the first token, which is the whole where it is not `enum`
specifier_lead : (b : Option (List Token)) (scope : Scope) (s : SpecifierTree) (ts r : List Token) → SpellsDeclarationSpecifier b scope s ts r → (at : Pos)
    × (t : List Token) × Own (kind.Keyword (lead_of s)) at ts t × ((lead_of s ≡ keyword.Enum → ⊥) → t ≡ r)
specifier_lead b scope extern_specifier ts r s = (s.1.0, r, s.1.1, λ h. refl)
specifier_lead b scope static_specifier ts r s = (s.0, r, s.1, λ h. refl)
specifier_lead b scope (plain_specifier specifier.Const) ts r s = (s.0, r, s.1, λ h. refl)
specifier_lead b scope (plain_specifier (specifier.Word w)) ts r s = (s.0, r, s.1, λ h. refl)
specifier_lead b scope (plain_specifier (specifier.Enum tag)) ts r s = (s.1, s.0, s.3, λ h. absurd (h refl))
specifier_lead b scope (enumerators_specifier tag list) ts r s = (s.5, s.0, s.6, λ h. absurd (h refl))

lead_begins : (s : SpecifierTree) → KindBeginsSpecifier (kind.Keyword (lead_of s))
lead_begins extern_specifier = tt
lead_begins static_specifier = tt
lead_begins (plain_specifier specifier.Const) = tt
lead_begins (plain_specifier (specifier.Word w)) = word_begins w
lead_begins (plain_specifier (specifier.Enum tag)) = tt
lead_begins (enumerators_specifier tag list) = tt

pub specifier_starts : (scope : Scope) (s : SpecifierTree) (ts r : List Token) → SpellsDeclarationSpecifier None scope s ts r → BeginsSpecifier ts
specifier_starts scope s ts r h = let l = specifier_lead None scope s ts r h in subst BeginsSpecifier (sym l.2) (lead_begins s)

keyword_no_brace : (k : Keyword) → kind.Keyword k ≡ kind.Punctuator sign.BraceOpen → ⊥
keyword_no_brace k e = cc

pub specifier_no_brace : (scope : Scope) (s : SpecifierTree) (ts r : List Token) → SpellsDeclarationSpecifier None scope s ts r →
    NotFront (kind.Punctuator sign.BraceOpen) ts
specifier_no_brace scope s ts r h at rest own = let l = specifier_lead None scope s ts r h in
    keyword_no_brace (lead_of s) (same_token _ _ l.0 at ts l.1 rest l.2 own).0

same_keyword : (k l : Keyword) → kind.Keyword k ≡ kind.Keyword l → k ≡ l
same_keyword k l e = cc

-- ---- a keyword alone

pub no_keyword : (scope : Scope) (d : ℕ) (ts : List Token) (f : Refusal) → ((k : Keyword) → NotFront (kind.Keyword k) ts) →
    FailsOf (SpellsDeclarationSpecifier None scope) EndsSpecifier specifier_depth d ts f
no_keyword scope d ts f none = record { each = λ y r s e. let l = specifier_lead None scope y ts r s in absurd (none (lead_of y) l.0 l.1 l.2) }

pub none_alone : (scope : Scope) (k : Keyword) (d : ℕ) (at : Pos) (ts rest : List Token) (f : Refusal) → (k ≡ keyword.Enum → ⊥) → IsNoneAlone scope k →
    Own (kind.Keyword k) at ts rest → FailsOf (SpellsDeclarationSpecifier None scope) EndsSpecifier specifier_depth d ts f
none_alone scope k d at ts rest f no_enum none own = record {
  each = λ y r s e. absurd
      (no_enum (none y at rest r (subst (λ z. SpellsDeclarationSpecifier None scope y z r) own s)));
}

pub alone_reads : (scope : Scope) (k : Keyword) (d : ℕ) (at : Pos) (ts rest : List Token) (s : SpecifierTree) → IsAlone scope k s →
    Own (kind.Keyword k) at ts rest → d ≤ 256 → ReadsOf (SpellsDeclarationSpecifier None scope) EndsSpecifier specifier_depth d ts s 0 rest
alone_reads scope k d at ts rest s h own room = record {
  spelled = subst (λ z. SpellsDeclarationSpecifier None scope s z rest) (sym own) (h.spelled at rest);
  tall = sym h.flat;
  fits = omega (arith, room);
  only = λ y r sp e.
      let l = specifier_lead None scope y ts r sp in
      let u = same_token _ _ l.0 at ts l.1 rest l.2 own in
      let ky : lead_of y ≡ k = same_keyword _ _ u.0 in
      let m = specifier_lead None scope s _ rest (h.spelled at rest) in
      let ks : lead_of s ≡ k = same_keyword _ _ (same_token _ _ m.0 at _ m.1 rest m.2 refl).0 in
      let ny : lead_of y ≡ keyword.Enum → ⊥ = λ q. h.no_enum (sym ky ∙ q) in
      let ns : lead_of s ≡ keyword.Enum → ⊥ = λ q. h.no_enum (sym ks ∙ q) in
      (sym (alone_again y ny) ∙ ap alone_of (ky ∙ sym ks) ∙ alone_again s ns, sym (l.3 ny) ∙ u.2);
}

-- ---- `enum`

-- the tokens after `enum`
data EnumThere (us r : List Token) (y : SpecifierTree) : Type 0 where
  bare : (tag : ℕ) (o : Pos) → Own (kind.Identifier tag) o us r → y ≡ plain_specifier (specifier.Enum tag) → EnumThere us r y
  full : (tag : Option ℕ) (list : List EnumeratorTree) (t2 t3 : List Token) (p : Pos) → SpellsTag tag us t2 → Own (kind.Punctuator sign.BraceOpen) p t2 t3 →
      SpellsEnumeratorList None list t3 r → y ≡ enumerators_specifier tag list → EnumThere us r y

enum_only : (s : SpecifierTree) (k : Keyword) → lead_of s ≡ k → k ≡ keyword.Enum → (alone_of (lead_of s) ≡ s) → alone_of keyword.Enum ≡ s
enum_only s k p q e = sym (ap alone_of (p ∙ q)) ∙ e

word_no_enum : (w : Word) → word_keyword w ≡ keyword.Enum → ⊥
word_no_enum word.Void e = cc
word_no_enum word.Char e = cc
word_no_enum word.Short e = cc
word_no_enum word.Int e = cc
word_no_enum word.Long e = cc
word_no_enum word.Signed e = cc
word_no_enum word.Unsigned e = cc
word_no_enum word.Bool e = cc

enum_there : (scope : Scope) (y : SpecifierTree) (at : Pos) (us r : List Token) → SpellsDeclarationSpecifier None scope y
    (record { kind = kind.Keyword keyword.Enum; pos = at } ∷ us) r → EnumThere us r y
enum_there scope extern_specifier at us r s = let e : keyword.Extern ≡ keyword.Enum = same_keyword _ _ (same_token _ _ s.1.0 at _ r us s.1.1 refl).0 in
    absurd (elim_it e)
  where
    elim_it : keyword.Extern ≡ keyword.Enum → ⊥
    elim_it e = cc
enum_there scope static_specifier at us r s = let e : keyword.Static ≡ keyword.Enum = same_keyword _ _ (same_token _ _ s.0 at _ r us s.1 refl).0 in
    absurd (elim_it e)
  where
    elim_it : keyword.Static ≡ keyword.Enum → ⊥
    elim_it e = cc
enum_there scope (plain_specifier specifier.Const) at us r s = let e : keyword.Const ≡ keyword.Enum = same_keyword _ _ (same_token _ _ s.0 at _ r us s.1 refl).0
    in absurd (elim_it e)
  where
    elim_it : keyword.Const ≡ keyword.Enum → ⊥
    elim_it e = cc
enum_there scope (plain_specifier (specifier.Word w)) at us r s = absurd (word_no_enum w (same_keyword _ _ (same_token _ _ s.0 at _ r us s.1 refl).0))
enum_there scope (plain_specifier (specifier.Enum tag)) at us r s =
    let u = same_token _ _ s.1 at _ s.0 us s.3 refl in
    bare tag s.2 (subst (λ z. Own (kind.Identifier tag) s.2 z r) u.2 s.4) refl
enum_there scope (enumerators_specifier tag list) at us r s =
    let u = same_token _ _ s.5 at _ s.0 us s.6 refl in
    let m = mark_own _ s.1 s.2 s.8 in
    full tag list s.1 s.2 m.0 (subst (λ z. SpellsTag tag z s.1) u.2 s.7) m.1 (s.3, s.4, s.9, s.10, s.11) refl

-- the postcondition of the test for a tag
pub record TagThere (tag : Option ℕ) (us vs : List Token) : Type 0 where
  pub spelled : SpellsTag tag us vs
  pub none : tag ≡ None → (n : ℕ) → NotFront (kind.Identifier n) us

name_no_open : (n : ℕ) → kind.Identifier n ≡ kind.Punctuator sign.BraceOpen → ⊥
name_no_open n e = cc

same_number : (m n : ℕ) → kind.Identifier m ≡ kind.Identifier n → m ≡ n
same_number m n e = cc

some_not_none : (n : ℕ) → Some n ≡ None → ⊥
some_not_none n e = cc

-- the tag before a brace
tag_once : (a b : Option ℕ) (us vs t rest : List Token) (p : Pos) → TagThere a us vs → SpellsTag b us t → Own (kind.Punctuator sign.BraceOpen) p t rest →
    (b ≡ a) × (t ≡ vs)
tag_once None None us vs t rest p h s own = (refl, sym s ∙ h.spelled)
tag_once None (Some n) us vs t rest p h s own = absurd (h.none refl n s.0 t s.1)
tag_once (Some m) None us vs t rest p h s own = absurd (name_no_open m (same_token _ _ h.spelled.0 p us vs rest h.spelled.1 (s ∙ own)).0)
tag_once (Some m) (Some n) us vs t rest p h s own =
    let u = same_token _ _ s.0 h.spelled.0 us t vs s.1 h.spelled.1 in (ap (λ z. Some z) (same_number n m u.0), u.2)

-- a tag alone
bare_once : (a : Option ℕ) (n : ℕ) (us vs r : List Token) (o : Pos) → TagThere a us vs → Own (kind.Identifier n) o us r → (a ≡ Some n) × (r ≡ vs)
bare_once None n us vs r o h own = absurd (h.none refl n o r own)
bare_once (Some m) n us vs r o h own =
    let u = same_token _ _ o h.spelled.0 us r vs own h.spelled.1 in (ap (λ z. Some z) (sym (same_number n m u.0)), u.2)

module _ (scope : Scope) (d : ℕ) (at : Pos) (us vs : List Token) (tag : Option ℕ) (here : TagThere tag us vs) where
  -- the list fails
  pub enum_list_fails : (p : Pos) (ws : List Token) (f : Refusal) → Own (kind.Punctuator sign.BraceOpen) p vs ws → FailsOf (SpellsEnumeratorList None) Anywhere
      enumerators_depth d ws f → FailsOf (SpellsDeclarationSpecifier None scope) EndsSpecifier specifier_depth d
      (record { kind = kind.Keyword keyword.Enum; pos = at } ∷ us) f
  enum_list_fails p ws f own bad = record { each = λ y r s e. on y r e (enum_there scope y at us r s) }
    where
      on : (y : SpecifierTree) (r : List Token) → EndsSpecifier y r → EnumThere us r y → Excuses f d (specifier_depth y)
      on y r e (bare n o w eq) = let u = bare_once tag n us vs r o here w in
          absurd (e p ws (subst (λ z. Own (kind.Punctuator sign.BraceOpen) p z ws) (sym u.1) own))
      on y r e (full t list t2 t3 q g w sp eq) =
          let u = tag_once tag t us vs t2 t3 q here g w in
          let v = same_token _ _ q p vs t3 ws (subst (λ z. Own (kind.Punctuator sign.BraceOpen) q z t3) u.1 w) own in
          subst (λ z. Excuses f d (specifier_depth z)) (sym eq) (bad.each list r (subst (λ z. SpellsEnumeratorList None list z r) v.2 sp) tt)

  pub enum_list_stands : (p : Pos) (ws : List Token) (f : Refusal) → Own (kind.Punctuator sign.BraceOpen) p vs ws →
      StandsOf SpellsEnumeratorList enumerators_depth d ws f → StandsOf (λ b. SpellsDeclarationSpecifier b scope) specifier_depth d
      (record { kind = kind.Keyword keyword.Enum; pos = at } ∷ us) f
  enum_list_stands p ws (Syntax o) own s = tt
  enum_list_stands p ws Memory own s = tt
  enum_list_stands p ws (Depth o) own s = record {
    tree = enumerators_specifier tag s.tree;
    cut = s.cut;
    last = s.last;
    spelled = (us, vs, ws, s.spelled.0, s.spelled.1, at, refl, here.spelled, inl (p, own), s.spelled.2, s.spelled.3, s.spelled.4);
    reaches = reaches_on _ us _ (own_reaches (kind.Keyword keyword.Enum) at _ us refl)
        (reaches_on us vs _ (tag_reaches tag here.spelled) (reaches_on vs ws _ (own_reaches _ p vs ws own) s.reaches));
    deep = s.deep;
  }
    where
      tag_reaches : (t : Option ℕ) → SpellsTag t us vs → Reaches us vs
      tag_reaches None g = ([], g)
      tag_reaches (Some n) g = own_reaches _ g.0 us vs g.1

  pub enum_list_reads : (p : Pos) (ws : List Token) (list : List EnumeratorTree) (k : ℕ) (rest : List Token) → Own (kind.Punctuator sign.BraceOpen) p vs ws →
      ReadsOf (SpellsEnumeratorList None) Anywhere enumerators_depth d ws list k rest → ReadsOf (SpellsDeclarationSpecifier None scope) EndsSpecifier
      specifier_depth d (record { kind = kind.Keyword keyword.Enum; pos = at } ∷ us) (enumerators_specifier tag list) k rest
  enum_list_reads p ws list k rest own h = record {
    spelled = (us, vs, ws, h.spelled.0, h.spelled.1, at, refl, here.spelled, inl (p, own), h.spelled.2, h.spelled.3, h.spelled.4);
    tall = h.tall;
    fits = h.fits;
    only = λ y r s e. on y r e (enum_there scope y at us r s);
  }
    where
      on : (y : SpecifierTree) (r : List Token) → EndsSpecifier y r → EnumThere us r y → (y ≡ enumerators_specifier tag list) × (r ≡ rest)
      on y r e (bare n o w eq) = let u = bare_once tag n us vs r o here w in
          absurd (e p ws (subst (λ z. Own (kind.Punctuator sign.BraceOpen) p z ws) (sym u.1) own))
      on y r e (full t l t2 t3 q g w sp eq) =
          let u = tag_once tag t us vs t2 t3 q here g w in
          let v = same_token _ _ q p vs t3 ws (subst (λ z. Own (kind.Punctuator sign.BraceOpen) q z t3) u.1 w) own in
          let x = h.only l r (subst (λ z. SpellsEnumeratorList None l z r) v.2 sp) tt in
          (eq ∙ ap (λ z. enumerators_specifier z l) u.0 ∙ ap (λ z. enumerators_specifier tag z) x.0, x.1)

  -- neither a list nor a tag
  pub enum_nothing : (f : Refusal) → NotFront (kind.Punctuator sign.BraceOpen) vs → tag ≡ None → FailsOf (SpellsDeclarationSpecifier None scope) EndsSpecifier
      specifier_depth d (record { kind = kind.Keyword keyword.Enum; pos = at } ∷ us) f
  enum_nothing f none no_tag = record { each = λ y r s e. absurd (on y r (enum_there scope y at us r s)) }
    where
      on : (y : SpecifierTree) (r : List Token) → EnumThere us r y → ⊥
      on y r (bare n o w eq) = here.none no_tag n o r w
      on y r (full t l t2 t3 q g w sp eq) = let u = tag_once tag t us vs t2 t3 q here g w in
          none q t3 (subst (λ z. Own (kind.Punctuator sign.BraceOpen) q z t3) u.1 w)

  -- a tag alone
  pub enum_bare : (n : ℕ) → NotFront (kind.Punctuator sign.BraceOpen) vs → tag ≡ Some n → d ≤ 256 → ReadsOf (SpellsDeclarationSpecifier None scope)
      EndsSpecifier specifier_depth d (record { kind = kind.Keyword keyword.Enum; pos = at } ∷ us) (plain_specifier (specifier.Enum n)) 0 vs
  enum_bare n none is_tag room = record {
    spelled = let g : SpellsTag (Some n) us vs = subst (λ z. SpellsTag z us vs) is_tag here.spelled in (us, at, g.0, refl, g.1);
    tall = refl;
    fits = omega (arith, room);
    only = λ y r s e. on y r (enum_there scope y at us r s);
  }
    where
      same_some : (a b : ℕ) → Some a ≡ Some b → a ≡ b
      same_some a b e = cc

      on : (y : SpecifierTree) (r : List Token) → EnumThere us r y → (y ≡ plain_specifier (specifier.Enum n)) × (r ≡ vs)
      on y r (bare m o w eq) = let u = bare_once tag m us vs r o here w in
          (eq ∙ ap (λ z. plain_specifier (specifier.Enum z)) (same_some m n (sym u.0 ∙ is_tag)), u.1)
      on y r (full t l t2 t3 q g w sp eq) = let u = tag_once tag t us vs t2 t3 q here g w in
          absurd (none q t3 (subst (λ z. Own (kind.Punctuator sign.BraceOpen) q z t3) u.1 w))
