-- One parameter.
use Rattle.std.specs.Prelude.{Option, None, Some}
use Rattle.std.proofs.Common.{◌≡◌, ℕ, ◌+◌, ◌<◌, List, [], ◌∷◌, length, refl, sym, ap, ◌∙◌, subst, arith}
use Rattle.srcset.specs.declared.refusal.Pos.{Pos}
use Rattle.lexer.specs.declared.token.Token.{Token}
use Rattle.lexer.specs.declared.token.Kind.TheVariants as kind
use Rattle.lexer.specs.declared.token.Keyword.{Keyword}
use Rattle.lexer.specs.declared.token.Keyword.TheVariants as keyword
use Rattle.lexer.specs.declared.token.Punctuator.TheVariants as sign
use Rattle.tree.specs.declared.expression.TypeSpecifier.{TypeSpecifier}
use Rattle.tree.specs.declared.expression.TypeSpecifier.TheVariants as specifier
use Rattle.tree.specs.Tree.{Tree, ParameterTree}
use Rattle.tree.specs.Counts.{sizes_depth, parameter_depth}
use Rattle.parser_grammar.specs.declared.refusal.Refusal.{Refusal}
use Rattle.parser_grammar.specs.declared.refusal.Refusal.TheVariants.{Syntax, Depth, Memory}
use Rattle.parser_grammar.specs.Tokens.{Own, StartsAt, NotFront, Reaches}
use Rattle.parser_grammar.specs.Expressions.{SpellsSpecifiers, word_keyword}
use Rattle.parser_grammar.specs.Declarations.{SpellsBounds, SpellsParameterName, SpellsParameter}
use Rattle.parser_grammar.specs.layer.Answer.{Excuses, ReadsOf, FailsOf, PassesOf, StandsOf}
use Rattle.parser_expressions.specs.ExpressionAnswers.{BeginsType, ReadsSpecifiers, FailsSpecifiers, NotDepth}
use Rattle.parser_declarations.specs.inside.SpecifierAnswers.{EndsBounds}
use Rattle.parser_declarations.specs.inside.DeclarationParts.{EndsParameter, EndsFirstAt, NameThere}
use Rattle.parser_grammar.proofs.Tokens.{same_token, mark_own, reaches_on, own_reaches}
use Rattle.parser_grammar.proofs.Exits.{excuses_grow}
use Rattle.parser_grammar.proofs.ExpressionBegun.{specifiers_reach}
use Rattle.tree.specs.declared.expression.Word.{Word}
use Rattle.tree.specs.declared.expression.Word.TheVariants as word

-- ---- where the first specifier ends

word_no_enum : (w : Word) → word_keyword w ≡ keyword.Enum → ⊥
word_no_enum word.Void e = cc
word_no_enum word.Char e = cc
word_no_enum word.Short e = cc
word_no_enum word.Int e = cc
word_no_enum word.Long e = cc
word_no_enum word.Signed e = cc
word_no_enum word.Unsigned e = cc
word_no_enum word.Bool e = cc

same_keyword : (k l : Keyword) → kind.Keyword k ≡ kind.Keyword l → k ≡ l
same_keyword k l e = cc

const_no_enum : keyword.Const ≡ keyword.Enum → ⊥
const_no_enum e = cc

pub first_ends_enum : (o at : Pos) (n : ℕ) (ts us vs : List Token) → Own (kind.Keyword keyword.Enum) o ts us → Own (kind.Identifier n) at us vs →
    EndsFirstAt at ts
first_ends_enum o at n ts us vs own tag specifier.Const rest s = absurd (const_no_enum (same_keyword _ _ (same_token _ _ s.0 o ts rest us s.1 own).0))
first_ends_enum o at n ts us vs own tag (specifier.Word w) rest s = absurd (word_no_enum w (same_keyword _ _ (same_token _ _ s.0 o ts rest us s.1 own).0))
first_ends_enum o at n ts us vs own tag (specifier.Enum m) rest s =
    let u = same_token _ _ s.1 o ts s.0 us s.3 own in
    let v = same_token _ _ s.2 at us rest vs (subst (λ z. Own (kind.Identifier m) s.2 z rest) u.2 s.4) tag in (
      kind.Identifier m,
      reaches_on ts us _ (own_reaches _ o ts us own) (
        [],
        subst (λ z. Own (kind.Identifier m) z us rest) v.1
            (subst (λ z. Own (kind.Identifier m) s.2 z rest) u.2 s.4),
      ),
    )

pub first_ends_nothing : (o at : Pos) (ts us : List Token) → Own (kind.Keyword keyword.Enum) o ts us → ((n : ℕ) → NotFront (kind.Identifier n) us) →
    EndsFirstAt at ts
first_ends_nothing o at ts us own none specifier.Const rest s = absurd (const_no_enum (same_keyword _ _ (same_token _ _ s.0 o ts rest us s.1 own).0))
first_ends_nothing o at ts us own none (specifier.Word w) rest s = absurd (word_no_enum w (same_keyword _ _ (same_token _ _ s.0 o ts rest us s.1 own).0))
first_ends_nothing o at ts us own none (specifier.Enum m) rest s =
    let u = same_token _ _ s.1 o ts s.0 us s.3 own in absurd (none m s.2 rest (subst (λ z. Own (kind.Identifier m) s.2 z rest) u.2 s.4))

pub first_ends_word : (at : Pos) (ts : List Token) → NotFront (kind.Keyword keyword.Enum) ts → StartsAt at ts → EndsFirstAt at ts
first_ends_word at ts none starts specifier.Const rest s = (
  kind.Keyword keyword.Const,
  (
    [],
    subst (λ z. Own (kind.Keyword keyword.Const) z ts rest)
        (same_token _ _ s.0 at ts rest starts.1 s.1 starts.2).1 s.1,
  ),
)
first_ends_word at ts none starts (specifier.Word w) rest s = (
  kind.Keyword (word_keyword w),
  (
    [],
    subst (λ z. Own (kind.Keyword (word_keyword w)) z ts rest)
        (same_token _ _ s.0 at ts rest starts.1 s.1 starts.2).1 s.1,
  ),
)
first_ends_word at ts none starts (specifier.Enum m) rest s = absurd (none s.1 s.0 s.3)

-- ---- refusals other than those for the depth

pub plain_stands : {A : Type 0} (begun : Option (List Token) → A → List Token → List Token → Type 0) (height : A → ℕ) (d : ℕ) (ts : List Token) (f : Refusal) →
    NotDepth f → StandsOf begun height d ts f
plain_stands begun height d ts (Syntax at) h = tt
plain_stands begun height d ts (Depth at) h = absurd h
plain_stands begun height d ts Memory h = tt

plain_excuses : (f : Refusal) (d k : ℕ) → NotDepth f → Excuses f 0 0 → Excuses f d k
plain_excuses (Syntax at) d k h e = e
plain_excuses (Depth at) d k h e = absurd h
plain_excuses Memory d k h e = tt

-- ---- the tokens after the specifiers

name_no_type : (n : ℕ) (at : Pos) (ts rest : List Token) → Own (kind.Identifier n) at ts rest → BeginsType ts → ⊥
name_no_type n at ts rest own h = subst BeginsType own h

bracket_no_type : (at : Pos) (ts rest : List Token) → Own (kind.Punctuator sign.BracketOpen) at ts rest → BeginsType ts → ⊥
bracket_no_type at ts rest own h = subst BeginsType own h

bounds_no_type : (es : List (Option Tree)) (ts r : List Token) → SpellsBounds None es ts r → (BeginsType r → ⊥) → BeginsType ts → ⊥
bounds_no_type [] ts r s none h = none (subst BeginsType s h)
bounds_no_type (e ∷ es) ts r s none h = let m = mark_own _ ts s.0 s.3 in bracket_no_type m.0 ts s.0 m.1 h

rest_no_type : (y : ParameterTree) (name : Option ℕ) (t1 t2 r : List Token) → SpellsParameterName y name t1 t2 → SpellsBounds None y.sizes t2 r →
    (BeginsType r → ⊥) → BeginsType t1 → ⊥
rest_no_type y None t1 t2 r n s none h = bounds_no_type y.sizes t2 r s none (subst BeginsType n.0 h)
rest_no_type y (Some m) t1 t2 r n s none h = name_no_type m y.at t1 t2 n h

-- the specifiers fail
pub parameter_type_fails : (d : ℕ) (ts : List Token) (f : Refusal) → NotDepth f → FailsSpecifiers ts f → FailsOf (SpellsParameter None) EndsParameter
    parameter_depth d ts f
parameter_type_fails d ts f plain bad = record {
  each = λ y r s e. plain_excuses f d (parameter_depth y) plain (bad.each y.specifiers s.0 s.4 s.3 (rest_no_type y y.name s.0 s.1 r s.5 s.6 e.no_type));
}

-- no room for any
pub parameter_full : (d : ℕ) (ts : List Token) (at : Pos) (f : Refusal) → d ≡ 256 → f ≡ Depth at → FailsOf (SpellsParameter None) EndsParameter parameter_depth
    d ts f
parameter_full d ts at f e ef = rw ef (record { each = λ y r s ends. omega (arith, e) })

pub parameter_full_stands : (d : ℕ) (ts us : List Token) (start at : Pos) (ss : List TypeSpecifier) (f : Refusal) → ReadsSpecifiers ts start ss us →
    EndsFirstAt at ts → d ≡ 256 → f ≡ Depth at → StandsOf SpellsParameter parameter_depth d ts f
parameter_full_stands d ts us start at ss f h ends e ef = rw ef (on ss h.some h.spells)
  where
    on : (ss : List TypeSpecifier) → 0 < length ss → SpellsSpecifiers ss ts us → PassesOf SpellsParameter parameter_depth d ts at
    on [] some s = absurd (omega (arith, some))
    on (x ∷ xs) some s =
        let l = ends x s.0 s.1 in
        record {
          tree = record { at = start; start = start; specifiers = x ∷ []; name = None; sizes = [] };
          cut = s.0;
          last = l.0;
          spelled = (s.0, s.0, h.starts, omega arith, (s.0, s.1, refl), (refl, refl), refl);
          reaches = l.1;
          deep = omega (arith, e);
        }

-- a name before sizes or the end
same_number : (m n : ℕ) → kind.Identifier m ≡ kind.Identifier n → m ≡ n
same_number m n e = cc

name_no_bracket : (n : ℕ) → kind.Identifier n ≡ kind.Punctuator sign.BracketOpen → ⊥
name_no_bracket n e = cc

no_name_bounds : (n : ℕ) (at : Pos) (es : List (Option Tree)) (us vs r : List Token) → Own (kind.Identifier n) at us vs → SpellsBounds None es us r →
    NotFront (kind.Identifier n) r → ⊥
no_name_bounds n at [] us vs r own s none = none at vs (subst (λ z. Own (kind.Identifier n) at z vs) s own)
no_name_bounds n at (e ∷ es) us vs r own s none = let m = mark_own _ us s.0 s.3 in name_no_bracket n (same_token _ _ at m.0 us vs s.0 own m.1).0

same_parameter : (y : ParameterTree) (at start : Pos) (ss : List TypeSpecifier) (name : Option ℕ) → y.at ≡ at → y.start ≡ start → y.specifiers ≡ ss →
    y.name ≡ name → y ≡ record { at = at; start = start; specifiers = ss; name = name; sizes = y.sizes }
same_parameter y at start ss name p q r s =
    ap (λ a. record { at = a; start = y.start; specifiers = y.specifiers; name = y.name; sizes = y.sizes }) p
    ∙ ap (λ a. record { at = at; start = a; specifiers = y.specifiers; name = y.name; sizes = y.sizes }) q
    ∙ ap (λ a. record { at = at; start = start; specifiers = a; name = y.name; sizes = y.sizes }) r
    ∙ ap (λ a. record { at = at; start = start; specifiers = ss; name = a; sizes = y.sizes }) s

module _ (d : ℕ) (ts us vs : List Token) (start at : Pos) (ss : List TypeSpecifier) (name : Option ℕ) (h : ReadsSpecifiers ts start ss us)
    (there : NameThere start at name us vs) where
  -- a parameter at the front has these specifiers and this name
  parameter_there : (y : ParameterTree) (r : List Token) → SpellsParameter None y ts r → EndsParameter y r → SpellsBounds None y.sizes vs r
      × (y ≡ record { at = at; start = start; specifiers = ss; name = name; sizes = y.sizes })
  parameter_there y r s e =
      let u = h.only y.specifiers s.0 s.4 (rest_no_type y y.name s.0 s.1 r s.5 s.6 e.no_type) in
      let st : y.start ≡ start = (same_token _ _ y.start start ts s.2.1 h.starts.1 s.2.2 h.starts.2).1 in
      let n = names name y.name there s.1 (subst (λ z. SpellsParameterName y y.name z s.1) u.1 s.5) s.6 st in
      (subst (λ z. SpellsBounds None y.sizes z r) n.0 s.6, same_parameter y at start ss name n.1 st u.0 n.2)
    where
      names : (a b : Option ℕ) → NameThere start at a us vs → (t : List Token) → SpellsParameterName y b us t → SpellsBounds None y.sizes t r → y.start ≡ start
          → (t ≡ vs) × (y.at ≡ at) × (b ≡ a)
      names None None p t q bs st = (sym q.0 ∙ p.1, q.1 ∙ st ∙ sym p.0, refl)
      names None (Some n) p t q bs st = absurd (p.2 n y.at t q)
      names (Some m) None p t q bs st = absurd (no_name_bounds m at y.sizes us vs r p (subst (λ z. SpellsBounds None y.sizes z r) (sym q.0) bs) (e.no_name m))
      names (Some m) (Some n) p t q bs st = let w = same_token _ _ y.at at us t vs q p in (w.2, w.1, ap (λ z. Some z) (same_number n m w.0))

  pub parameter_bounds_fail : (f : Refusal) → FailsOf (SpellsBounds None) EndsBounds sizes_depth (d + 1) vs f → FailsOf (SpellsParameter None) EndsParameter
      parameter_depth d ts f
  parameter_bounds_fail f bad = record {
    each = λ y r s e. let i = parameter_there y r s e in excuses_grow f (d + 1) d (sizes_depth y.sizes) (parameter_depth y) (omega arith)
        (bad.each y.sizes r i.0 e.no_size);
  }

  name_spelled : (p : ParameterTree) (n : Option ℕ) → p.at ≡ at → p.start ≡ start → NameThere start at n us vs → SpellsParameterName p n us vs
  name_spelled p None e f t = (t.1, e ∙ t.0 ∙ sym f)
  name_spelled p (Some n) e f t = subst (λ z. Own (kind.Identifier n) z us vs) (sym e) t

  name_reaches : (n : Option ℕ) → NameThere start at n us vs → Reaches us vs
  name_reaches None t = ([], t.1)
  name_reaches (Some n) t = own_reaches _ at us vs t

  pub parameter_bounds_stand : (f : Refusal) → StandsOf SpellsBounds sizes_depth (d + 1) vs f → StandsOf SpellsParameter parameter_depth d ts f
  parameter_bounds_stand (Syntax p) s = tt
  parameter_bounds_stand Memory s = tt
  parameter_bounds_stand (Depth p) s =
      let tree : ParameterTree = record { at = at; start = start; specifiers = ss; name = name; sizes = s.tree } in
      record {
        tree = tree;
        cut = s.cut;
        last = s.last;
        spelled = (us, vs, h.starts, h.some, h.spells, name_spelled tree name refl refl there, s.spelled);
        reaches = reaches_on ts us _ (specifiers_reach ss ts us h.spells) (reaches_on us vs _ (name_reaches name there) s.reaches);
        deep = omega (arith, s.deep);
      }

  pub parameter_reads : (sizes : List (Option Tree)) (k : ℕ) (rest : List Token) → ReadsOf (SpellsBounds None) EndsBounds sizes_depth (d + 1) vs sizes k rest →
      ReadsOf (SpellsParameter None) EndsParameter parameter_depth d ts (record { at = at; start = start; specifiers = ss; name = name; sizes = sizes }) (k + 1)
      rest
  parameter_reads sizes k rest read =
      let tree : ParameterTree = record { at = at; start = start; specifiers = ss; name = name; sizes = sizes } in
      record {
        spelled = (us, vs, h.starts, h.some, h.spells, name_spelled tree name refl refl there, read.spelled);
        tall = ap (λ z. z + 1) read.tall;
        fits = omega (arith, read.fits);
        only = λ y r s e.
            let i = parameter_there y r s e in
            let u = read.only y.sizes r i.0 e.no_size in
            (i.1 ∙ ap (λ z. record { at = at; start = start; specifiers = ss; name = name; sizes = z }) u.0, u.1);
      }
