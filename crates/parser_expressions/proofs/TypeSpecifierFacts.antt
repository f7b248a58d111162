-- Specifiers of types.
use Rattle.std.specs.Prelude.{Result, IfErr}
use Rattle.std.specs.Result.{IsErrAnd}
use Rattle.std.proofs.Common.{◌≡◌, ℕ, ◌<◌, List, [], ◌∷◌, ◌++◌, length, refl, sym, ap, ◌∙◌, subst, arith, append_assoc, length-append}
use Rattle.srcset.specs.declared.refusal.Pos.{Pos}
use Rattle.lexer.specs.declared.token.Token.{Token}
use Rattle.lexer.specs.declared.token.Kind.{Kind}
use Rattle.lexer.specs.declared.token.Kind.TheVariants as kind
use Rattle.lexer.specs.declared.token.Keyword.{Keyword}
use Rattle.lexer.specs.declared.token.Keyword.TheVariants as keyword
use Rattle.parser_grammar.proofs.Exits.{passed_on, err_passed_on}
use Rattle.parser_grammar.specs.declared.refusal.Refusal.{Refusal}
use Rattle.parser_grammar.specs.declared.refusal.Refusal.TheVariants.{Syntax}
use Rattle.parser_grammar.specs.Tokens.{Own, StartsAt, NotFront}
use Rattle.parser_grammar.specs.Expressions.{SpellsSpecifiers, word_keyword, SpellsSpecifier}
use Rattle.parser_grammar.specs.layer.Answer.{Excuses}
use Rattle.parser_expressions.specs.ExpressionAnswers.{BeginsType, KindBeginsType, ReadsSpecifiers, FailsSpecifiers, AnswersSpecifiers, NotDepth}
use Rattle.parser_grammar.proofs.Tokens.{own_once, own_kinds}
use Rattle.tree.specs.declared.expression.Word.{Word}
use Rattle.tree.specs.declared.expression.Word.TheVariants as word
use Rattle.tree.specs.declared.expression.TypeSpecifier.{TypeSpecifier}
use Rattle.tree.specs.declared.expression.TypeSpecifier.TheVariants as specifier
use Rattle.parser_expressions.specs.declared.type_specifiers.SpecifiersPart.{SpecifiersPart}
use Rattle.parser_expressions.specs.inside.PlainSpecifiers.{IsPlain}
use Rattle.parser_expressions.proofs.Leads.{specifier_begins}

-- ---- tokens

pub no_type_front : (ts : List Token) → ((k : Keyword) → NotFront (kind.Keyword k) ts) → BeginsType ts → ⊥
no_type_front [] none b = b
no_type_front (t ∷ ts) none b = by_kind t.kind refl b
  where
    by_kind : (k : Kind) → t.kind ≡ k → KindBeginsType k → ⊥
    by_kind (kind.Keyword w) e b = none w t.pos ts (ap (λ k. record { kind = k; pos = t.pos } ∷ ts) e)
    by_kind k e b = b

abbrev of_keyword : Kind → Keyword
of_keyword (kind.Keyword k) = k
of_keyword _ = keyword.Void

abbrev of_identifier : Kind → ℕ
of_identifier (kind.Identifier n) = n
of_identifier _ = 0

abbrev of_word : Keyword → Word
of_word keyword.Void = word.Void
of_word keyword.Char = word.Char
of_word keyword.Short = word.Short
of_word keyword.Int = word.Int
of_word keyword.Long = word.Long
of_word keyword.Signed = word.Signed
of_word keyword.Unsigned = word.Unsigned
of_word _ = word.Bool

of_word_keyword : (w : Word) → of_word (word_keyword w) ≡ w
of_word_keyword word.Void = refl
of_word_keyword word.Char = refl
of_word_keyword word.Short = refl
of_word_keyword word.Int = refl
of_word_keyword word.Long = refl
of_word_keyword word.Signed = refl
of_word_keyword word.Unsigned = refl
of_word_keyword word.Bool = refl

word_once : (v w : Word) → word_keyword v ≡ word_keyword w → v ≡ w
word_once v w e = sym (of_word_keyword v) ∙ ap of_word e ∙ of_word_keyword w

pub same_keyword : (k l : Keyword) (a b : Pos) (ts r s : List Token) → Own (kind.Keyword k) a ts r → Own (kind.Keyword l) b ts s → k ≡ l
same_keyword k l a b ts r s p q = ap of_keyword (own_kinds _ _ a b ts r s p q)

abbrev apart_number : Keyword → ℕ
apart_number keyword.Const = 0
apart_number keyword.Enum = 1
apart_number _ = 2

apart_word : (w : Word) → apart_number (word_keyword w) ≡ 2
apart_word word.Void = refl
apart_word word.Char = refl
apart_word word.Short = refl
apart_word word.Int = refl
apart_word word.Long = refl
apart_word word.Signed = refl
apart_word word.Unsigned = refl
apart_word word.Bool = refl

enum_const : keyword.Enum ≡ keyword.Const → ⊥
enum_const e = let n : 1 ≡ 0 = ap apart_number e in omega (arith, n)

enum_word : (w : Word) → keyword.Enum ≡ word_keyword w → ⊥
enum_word w e = let n : 1 ≡ apart_number (word_keyword w) = ap apart_number e in omega (arith, n, apart_word w)

const_word : (w : Word) → keyword.Const ≡ word_keyword w → ⊥
const_word w e = let n : 0 ≡ apart_number (word_keyword w) = ap apart_number e in omega (arith, n, apart_word w)

-- ---- one specifier

pub no_specifier : (k : Keyword) (at : Pos) (ts rest : List Token) → Own (kind.Keyword k) at ts rest → NotFront (kind.Keyword keyword.Enum) ts →
    ((s : TypeSpecifier) → IsPlain s k → ⊥) → (s : TypeSpecifier) (r : List Token) → SpellsSpecifier s ts r → ⊥
no_specifier k at ts rest own no_enum none specifier.Const r h = none specifier.Const (same_keyword _ _ at h.0 ts rest r own h.1)
no_specifier k at ts rest own no_enum none (specifier.Word w) r h = none (specifier.Word w) (same_keyword _ _ at h.0 ts rest r own h.1)
no_specifier k at ts rest own no_enum none (specifier.Enum tag) r h = no_enum h.1 h.0 h.3

pub no_tag : (at : Pos) (ts rest : List Token) → Own (kind.Keyword keyword.Enum) at ts rest → ((n : ℕ) → NotFront (kind.Identifier n) rest) →
    (s : TypeSpecifier) (r : List Token) → SpellsSpecifier s ts r → ⊥
no_tag at ts rest own none specifier.Const r h = let e : keyword.Enum ≡ keyword.Const = same_keyword _ _ at h.0 ts rest r own h.1 in enum_const e
no_tag at ts rest own none (specifier.Word w) r h = enum_word w (same_keyword _ _ at h.0 ts rest r own h.1)
no_tag at ts rest own none (specifier.Enum tag) r h = let e = own_once (kind.Keyword keyword.Enum) h.1 at ts h.0 rest h.3 own in
    none tag h.2 r (subst (λ x. Own (kind.Identifier tag) h.2 x r) e.1 h.4)

-- two specifiers at one place
pub specifier_once : (s u : TypeSpecifier) (ts r q : List Token) → SpellsSpecifier s ts r → SpellsSpecifier u ts q → (s ≡ u) × (r ≡ q)
specifier_once specifier.Const specifier.Const ts r q a b = (refl, (own_once _ a.0 b.0 ts r q a.1 b.1).1)
specifier_once specifier.Const (specifier.Word w) ts r q a b = absurd (const_word w (same_keyword _ _ a.0 b.0 ts r q a.1 b.1))
specifier_once specifier.Const (specifier.Enum tag) ts r q a b = absurd (enum_const (same_keyword _ _ b.1 a.0 ts b.0 r b.3 a.1))
specifier_once (specifier.Word w) specifier.Const ts r q a b = absurd (const_word w (same_keyword _ _ b.0 a.0 ts q r b.1 a.1))
specifier_once (specifier.Word v) (specifier.Word w) ts r q a b =
    let e = word_once v w (same_keyword _ _ a.0 b.0 ts r q a.1 b.1) in
    (ap specifier.Word e, (own_once (kind.Keyword (word_keyword w)) a.0 b.0 ts r q (subst (λ x. Own (kind.Keyword (word_keyword x)) a.0 ts r) e a.1) b.1).1)
specifier_once (specifier.Word w) (specifier.Enum tag) ts r q a b = absurd (enum_word w (same_keyword _ _ b.1 a.0 ts b.0 r b.3 a.1))
specifier_once (specifier.Enum tag) specifier.Const ts r q a b = absurd (enum_const (same_keyword _ _ a.1 b.0 ts a.0 q a.3 b.1))
specifier_once (specifier.Enum tag) (specifier.Word w) ts r q a b = absurd (enum_word w (same_keyword _ _ a.1 b.0 ts a.0 q a.3 b.1))
specifier_once (specifier.Enum tag) (specifier.Enum nr) ts r q a b =
    let e = own_once (kind.Keyword keyword.Enum) a.1 b.1 ts a.0 b.0 a.3 b.3 in
    let h = subst (λ x. Own (kind.Identifier tag) a.2 x r) e.1 a.4 in
    let n : tag ≡ nr = ap of_identifier (own_kinds _ _ a.2 b.2 b.0 r q h b.4) in
    (ap specifier.Enum n, (own_once (kind.Identifier nr) a.2 b.2 b.0 r q (subst (λ x. Own (kind.Identifier x) a.2 b.0 r) n h) b.4).1)

-- ---- the loop

-- The loop invariant: these are read, and any specifiers that the tokens spell continue them.
pub record SpecifiersLoop (ts : List Token) (ss : List TypeSpecifier) (cur : List Token) : Type 0 where
  pub some : 0 < length ss
  pub spells : (m : List TypeSpecifier) (r : List Token) → SpellsSpecifiers m cur r → SpellsSpecifiers (ss ++ m) ts r
  pub only : (us : List TypeSpecifier) (r : List Token) → SpellsSpecifiers us ts r → (BeginsType r → ⊥) → (m : List TypeSpecifier) × SpellsSpecifiers m cur r
      × (us ≡ ss ++ m)

pub specifiers_begin : (ts : List Token) (s : TypeSpecifier) (cur : List Token) → SpellsSpecifier s ts cur → SpecifiersLoop ts (s ∷ []) cur
specifiers_begin ts s cur h = record {
  some = omega arith;
  spells = λ m r sp. (cur, h, sp);
  only = first;
}
  where
    first : (us : List TypeSpecifier) (r : List Token) → SpellsSpecifiers us ts r → (BeginsType r → ⊥) → (m : List TypeSpecifier) × SpellsSpecifiers m cur r
        × (us ≡ s ∷ m)
    first [] r sp none = absurd (none (subst BeginsType sp (specifier_begins s ts cur h)))
    first (u ∷ us) r sp none =
        let e = specifier_once u s ts sp.0 cur sp.1 h in
        (us, subst (λ x. SpellsSpecifiers us x r) e.1 sp.2, ap (λ x. x ∷ us) e.0)

pub specifiers_next : (ts cur next : List Token) (ss : List TypeSpecifier) (s : TypeSpecifier) → SpecifiersLoop ts ss cur → SpellsSpecifier s cur next →
    SpecifiersLoop ts (ss ++ s ∷ []) next
specifiers_next ts cur next ss s h one_more_read = record {
  some = omega (arith, length-append ss (s ∷ []));
  spells = λ m r sp. subst (λ x. SpellsSpecifiers x ts r) (sym (append_assoc ss (s ∷ []) m)) (h.spells (s ∷ m) r (next, one_more_read, sp));
  only = λ us r sp none. let i = h.only us r sp none in go us r none i.0 i.1 i.2;
}
  where
    go : (us : List TypeSpecifier) (r : List Token) → (BeginsType r → ⊥) → (m : List TypeSpecifier) → SpellsSpecifiers m cur r → us ≡ ss ++ m →
        (n : List TypeSpecifier) × SpellsSpecifiers n next r × (us ≡ (ss ++ s ∷ []) ++ n)
    go us r none [] sp e = absurd (none (subst BeginsType sp (specifier_begins s cur next one_more_read)))
    go us r none (u ∷ m) sp e =
        let o = specifier_once u s cur sp.0 next sp.1 one_more_read in
        (m, subst (λ x. SpellsSpecifiers m x r) o.1 sp.2, e ∙ ap (λ x. ss ++ x ∷ m) o.0 ∙ sym (append_assoc ss (s ∷ []) m))

pub specifiers_end : (ts cur : List Token) (at : Pos) (ss : List TypeSpecifier) → StartsAt at ts → (BeginsType cur → ⊥) → SpecifiersLoop ts ss cur →
    ReadsSpecifiers ts at ss cur
specifiers_end ts cur at ss starts none h = record {
  some = h.some;
  starts = starts;
  spells = subst (λ x. SpellsSpecifiers x ts cur) (append_nil ss) (h.spells [] cur refl);
  only = λ us r sp stop. let i = h.only us r sp stop in go us r i.0 i.1 i.2;
}
  where
    append_nil : (xs : List TypeSpecifier) → xs ++ [] ≡ xs
    append_nil [] = refl
    append_nil (x ∷ xs) = ap (λ y. x ∷ y) (append_nil xs)

    go : (us : List TypeSpecifier) (r : List Token) (m : List TypeSpecifier) → SpellsSpecifiers m cur r → us ≡ ss ++ m → (us ≡ ss) × (r ≡ cur)
    go us r [] sp e = (e ∙ append_nil ss, sym sp)
    go us r (u ∷ m) sp e = absurd (none (specifier_begins u cur sp.0 sp.1))

pub specifiers_none : (ts : List Token) (f : Refusal) → ((s : TypeSpecifier) (r : List Token) → SpellsSpecifier s ts r → ⊥) → FailsSpecifiers ts f
specifiers_none ts f none = record { each = first }
  where
    first : (us : List TypeSpecifier) (r : List Token) → SpellsSpecifiers us ts r → 0 < length us → (BeginsType r → ⊥) → Excuses f 0 0
    first [] r sp lt stop = absurd (omega (arith, lt))
    first (u ∷ us) r sp lt stop = absurd (none u sp.0 sp.1)

pub specifiers_next_fails : (ts cur : List Token) (ss : List TypeSpecifier) (f : Refusal) → SpecifiersLoop ts ss cur → BeginsType cur →
    ((s : TypeSpecifier) (r : List Token) → SpellsSpecifier s cur r → ⊥) → FailsSpecifiers ts f
specifiers_next_fails ts cur ss f h begins none = record { each = λ us r sp lt stop. let i = h.only us r sp stop in go r stop i.0 i.1 }
  where
    go : (r : List Token) → (BeginsType r → ⊥) → (m : List TypeSpecifier) → SpellsSpecifiers m cur r → Excuses f 0 0
    go r stop [] sp = absurd (stop (subst BeginsType sp begins))
    go r stop (u ∷ m) sp = absurd (none u sp.0 sp.1)

-- the exit of a `?`
pub pass_specifiers : (ts : List Token) (r : Result SpecifiersPart Refusal) (f : Refusal) → IsErrAnd r (λ e. e ≡ f) → FailsSpecifiers ts f →
    AnswersSpecifiers ts r
pass_specifiers ts r f is h = passed_on (AnswersSpecifiers ts) r f is h

pub pass_syntax : (r : Result SpecifiersPart Refusal) (f : Refusal) → IsErrAnd r (λ e. e ≡ f) → (left : ℕ) → f ≡ Syntax left → IfErr r NotDepth
pass_syntax r f is at e = err_passed_on NotDepth r f is (rw e tt)
