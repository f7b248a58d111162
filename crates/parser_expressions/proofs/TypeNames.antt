-- Type names, casts and sizes.
use Rattle.std.specs.Prelude.{Option, None, Some, Result, IfErr}
use Rattle.std.specs.Result.{IsErrAnd}
use Rattle.std.proofs.Common.{◌≡◌, ℕ, ◌+◌, ◌<◌, ◌≤◌, max, ◌⊎◌, inl, inr, List, [], ◌∷◌, ◌++◌, length, refl, sym, ap, ◌∙◌, subst, ⊎_elim, arith}
use Rattle.srcset.specs.declared.refusal.Pos.{Pos}
use Rattle.lexer.specs.declared.token.Token.{Token}
use Rattle.lexer.specs.declared.token.Kind.{Kind}
use Rattle.lexer.specs.declared.token.Kind.TheVariants as kind
use Rattle.lexer.specs.declared.token.Keyword.TheVariants as keyword
use Rattle.lexer.specs.declared.token.Punctuator.TheVariants as sign
use Rattle.tree.specs.Tree.{Tree, before, prefix, size_of, size_of_type, cast, binary, conditional, assign, Trees, no_trees, one_more, TypeTree, type_name}
use Rattle.tree.specs.Counts.{depth, depths, type_depth}
use Rattle.parser_grammar.proofs.Exits.{passed_on, err_passed_on}
use Rattle.parser_grammar.specs.declared.refusal.Refusal.{Refusal}
use Rattle.parser_grammar.specs.declared.refusal.Refusal.TheVariants.{Syntax, Depth, Memory}
use Rattle.parser_grammar.specs.Expressions.{layer, SpellsSpecifiers, Spells, SpellsType, SpellsSizes}
use Rattle.parser_grammar.specs.Tokens.{Own, StartsAt, NotFront, Reaches}
use Rattle.parser_grammar.specs.layer.Answer.{Excuses, ReadsOf, FailsOf, Anywhere}
use Rattle.parser_expressions.specs.ExpressionAnswers.{power, Front, Reads, Fails, Stands, BeginsType, KindBeginsType, ReadsSpecifiers, FailsSpecifiers, NotDepth}
use Rattle.parser_grammar.proofs.Tokens.{own_kind, own_once, own_kinds, mark_own, mark_not, mark_once, reaches_on, own_reaches}
use Rattle.parser_grammar.proofs.ExpressionBegun.{whole_is_begun, whole_reaches, specifiers_reach}
use Rattle.parser_expressions.proofs.Leads.{type_begins}
use Rattle.tree.specs.declared.expression.TypeSpecifier.{TypeSpecifier}
use Rattle.tree.specs.View.{trees_of}
use Rattle.parser_expressions.specs.declared.expressions.TypePart.{TypePart}
use Rattle.parser_expressions.specs.inside.PartAnswers.{SpellsNamed, AnswersType, StandsType}
use Rattle.parser_expressions.proofs.Spine.{layer_of_most, stops_at, excuses_more}
use Rattle.parser_expressions.proofs.Productions.{no_type, step_tag, prefix_tag, tags, low_tag, wrap_fails, wrap_reads}
use Rattle.parser_expressions.proofs.Arguments.{add, add_none, add_push, depths_push, depths_add}

-- ---- the parts of a type name

starts_once : (a b : Pos) (ts : List Token) → StartsAt a ts → StartsAt b ts → a ≡ b
starts_once a b ts x y = (own_kind y.0 b (record { kind = x.0; pos = a }) x.1 y.1 (sym x.2 ∙ y.2)).1

spell_type : (b : Option (List Token)) (at : Pos) (ss : List TypeSpecifier) (sizes : Trees) (ts t1 rest : List Token) → 0 < length ss → StartsAt at ts →
    SpellsSpecifiers ss ts t1 → SpellsSizes b sizes t1 rest → SpellsType b (type_name at ss sizes) ts rest
spell_type b at [] sizes ts t1 rest lt st sp sz = absurd (omega (arith, lt))
spell_type b at (s ∷ ss) sizes ts t1 rest lt st sp sz = (t1, st, sp, sz)

type_parts : (o : Pos) (us : List TypeSpecifier) (sizes : Trees) (ts r : List Token) → SpellsType None (type_name o us sizes) ts r → (x : List Token)
    × (0 < length us) × StartsAt o ts × SpellsSpecifiers us ts x × SpellsSizes None sizes x r
type_parts o [] no_trees ts r h = absurd h
type_parts o [] (one_more e es) ts r h = absurd h
type_parts o (s ∷ ss) sizes ts r h = (h.0, omega arith, h.1, h.2, h.3)

-- sizes up to the closing parenthesis
abbrev pub MoreSizes : Trees → List Token → List Token → Type 0
MoreSizes es ts rest = (t1 : List Token) × (q : Pos) × SpellsSizes None es ts t1 × Own (kind.Punctuator sign.ParenClose) q t1 rest

-- a token that begins no type
not_type : (k : Kind) (at : Pos) (ts rest : List Token) → (KindBeginsType k → ⊥) → Own k at ts rest → BeginsType ts → ⊥
not_type k at ts rest none own b = none (subst BeginsType own b)

sizes_no_type : (es : Trees) (ts r : List Token) → MoreSizes es ts r → BeginsType ts → ⊥
sizes_no_type no_trees ts r h b = not_type (kind.Punctuator sign.ParenClose) h.1 h.0 r (λ x. x) h.3 (subst BeginsType h.2 b)
sizes_no_type (one_more e es) ts r h b = let m = mark_own (kind.Punctuator sign.BracketOpen) ts h.2.0 h.2.3 in not_type (kind.Punctuator sign.BracketOpen) m.0
    ts h.2.0 (λ x. x) m.1 b

-- The loop invariant: the specifiers and these sizes are read, and any type name that the tokens spell continues them.
pub record SizesLoop (d : ℕ) (ts : List Token) (at : Pos) (ss : List TypeSpecifier) (xs : List Tree) (k : ℕ) (cur : List Token) : Type 0 where
  pub spells : (m : Trees) (r : List Token) → SpellsSizes None m cur r → SpellsType None (type_name at ss (add xs m)) ts r
  pub begun : (c : List Token) (m : Trees) (r : List Token) → SpellsSizes (Some c) m cur r → SpellsType (Some c) (type_name at ss (add xs m)) ts r
  pub reaches : Reaches ts cur
  pub height : k ≡ depths (trees_of xs)
  pub fits : d + k ≤ 256
  pub only : (u : TypeTree) (r : List Token) → SpellsNamed None u ts r → (m : Trees) × MoreSizes m cur r × (u ≡ type_name at ss (add xs m))

pub sizes_begin : (d : ℕ) (ts : List Token) (at : Pos) (ss : List TypeSpecifier) (cur : List Token) → d ≤ 256 → ReadsSpecifiers ts at ss cur →
    SizesLoop d ts at ss [] 0 cur
sizes_begin d ts at ss cur le h = record {
  spells = λ m r sp. spell_type None at ss m ts cur r h.some h.starts h.spells sp;
  begun = λ c m r sp. spell_type (Some c) at ss m ts cur r h.some h.starts h.spells sp;
  reaches = specifiers_reach ss ts cur h.spells;
  height = refl;
  fits = omega (arith, le);
  only = first;
}
  where
    first : (u : TypeTree) (r : List Token) → SpellsNamed None u ts r → (m : Trees) × MoreSizes m cur r × (u ≡ type_name at ss m)
    first (type_name o us sizes) r n =
        let p = type_parts o us sizes ts n.0 n.1 in
        let q = mark_own (kind.Punctuator sign.ParenClose) n.0 r n.2 in
        let ms : MoreSizes sizes p.0 r = (n.0, q.0, p.4, q.1) in
        let e = h.only us p.0 p.3 (sizes_no_type sizes p.0 r ms) in
        let eo = starts_once o at ts p.2 h.starts in
        (sizes, subst (λ x. MoreSizes sizes x r) e.1 ms, ap (λ x. type_name x us sizes) eo ∙ ap (λ x. type_name at x sizes) e.0)

excuses_type : (f : Refusal) (d k : ℕ) → NotDepth f → Excuses f 0 0 → Excuses f d k
excuses_type (Syntax at) d k nd h = h
excuses_type (Depth at) d k nd h = absurd nd
excuses_type Memory d k nd h = tt

pub type_none : (d : ℕ) (ts : List Token) (f : Refusal) → NotDepth f → FailsSpecifiers ts f → FailsOf (SpellsNamed None) Anywhere type_depth d ts f
type_none d ts f nd h = record { each = λ u r n end. first u r n }
  where
    first : (u : TypeTree) (r : List Token) → SpellsNamed None u ts r → Excuses f d (type_depth u)
    first (type_name o us sizes) r n =
        let p = type_parts o us sizes ts n.0 n.1 in
        let q = mark_own (kind.Punctuator sign.ParenClose) n.0 r n.2 in
        let ms : MoreSizes sizes p.0 r = (n.0, q.0, p.4, q.1) in
        excuses_type f d _ nd (h.each us p.0 p.3 p.1 (sizes_no_type sizes p.0 r ms))

-- a further size at the front
size_front : (e : Tree) (es : Trees) (cur us r : List Token) (at : Pos) → Own (kind.Punctuator sign.BracketOpen) at cur us → MoreSizes (one_more e es) cur r →
    (x : List Token) × (y : List Token) × (q : Pos) × Front 2 e us x × Own (kind.Punctuator sign.BracketClose) q x y × MoreSizes es y r
size_front e es cur us r at own h =
    let s = h.2 in
    let o = mark_once (kind.Punctuator sign.BracketOpen) at cur us s.0 own s.3 in
    let m = mark_own (kind.Punctuator sign.BracketClose) s.1 s.2 s.6 in (
      s.1,
      s.2,
      m.0,
      record {
        tight = s.4;
        spells = subst (λ y. Spells None e y s.1) o s.5;
        stops = stops_at 2 (kind.Punctuator sign.BracketClose) m.0 s.1 s.2
            m.1 (omega arith);
      },
      m.1,
      (h.0, h.1, s.7, h.3),
    )

-- a closing parenthesis after no further size
no_size : (cur x : List Token) → (c : MoreSizes no_trees cur x) → Own (kind.Punctuator sign.ParenClose) c.1 cur x
no_size cur x c = subst (λ y. Own (kind.Punctuator sign.ParenClose) c.1 y x) (sym c.2) c.3

close_bracket : (a b : Pos) (ts r s : List Token) → Own (kind.Punctuator sign.ParenClose) a ts r → Own (kind.Punctuator sign.BracketOpen) b ts s → ⊥
close_bracket a b ts r s p q = let e : 0 ≡ 16 = ap power (own_kinds _ _ a b ts r s p q) in omega (arith, e)

pub sizes_next : (d : ℕ) (ts : List Token) (at : Pos) (ss : List TypeSpecifier) (cur us mid rest : List Token) (xs : List Tree) (k : ℕ) (p q : Pos) (e : Tree)
    (j m : ℕ) → Own (kind.Punctuator sign.BracketOpen) p cur us → SizesLoop d ts at ss xs k cur → Reads 2 d us e j mid → Own (kind.Punctuator sign.BracketClose)
    q mid rest → m ≡ max k j → SizesLoop d ts at ss (xs ++ e ∷ []) m rest
sizes_next d ts at ss cur us mid rest xs k p q e j m own h r close em = record {
  spells = λ n x s. subst (λ y. SpellsType None (type_name at ss y) ts x) (sym (add_push xs e n))
      (h.spells (one_more e n) x (us, mid, rest, inl (p, own), r.tight, r.spells, inl (q, close), s));
  begun = λ c n x s. subst (λ y. SpellsType (Some c) (type_name at ss y) ts x) (sym (add_push xs e n))
      (h.begun c (one_more e n) x (us, mid, rest, inl (p, own), r.tight, whole_is_begun c e us mid r.spells, inl (q, close), s));
  reaches = reaches_on ts cur rest h.reaches (reaches_on cur us rest (own_reaches _ _ _ _ own) (reaches_on us mid rest (whole_reaches e us mid r.spells)
      (own_reaches _ _ _ _ close)));
  height = omega (arith, em, h.height, r.height, depths_push xs e);
  fits = omega (arith, em, h.fits, r.fits);
  only = λ u x n. let i = h.only u x n in next u x i.0 i.1 i.2;
}
  where
    next : (u : TypeTree) (x : List Token) → (n : Trees) → MoreSizes n cur x → u ≡ type_name at ss (add xs n) → (n' : Trees) × MoreSizes n' rest x
        × (u ≡ type_name at ss (add (xs ++ e ∷ []) n'))
    next u x no_trees c ev = absurd (close_bracket c.1 p cur x us (no_size cur x c) own)
    next u x (one_more b n) c ev =
        let g = size_front b n cur us x p own c in
        let v = r.only b g.0 g.3 in
        let o = own_once (kind.Punctuator sign.BracketClose) g.2 q mid g.1 rest (subst (λ y. Own (kind.Punctuator sign.BracketClose) g.2 y g.1) v.1 g.4) close
        in
        (n, subst (λ y. MoreSizes n y x) o.1 g.5, ev ∙ ap (λ y. type_name at ss (add xs (one_more y n))) v.0 ∙ ap (type_name at ss) (sym (add_push xs e n)))

pub sizes_next_fails : (d : ℕ) (ts : List Token) (at : Pos) (ss : List TypeSpecifier) (cur us : List Token) (xs : List Tree) (k : ℕ) (p : Pos) (f : Refusal) →
    Own (kind.Punctuator sign.BracketOpen) p cur us → SizesLoop d ts at ss xs k cur → Fails 2 d us f → FailsOf (SpellsNamed None) Anywhere type_depth d ts f
sizes_next_fails d ts at ss cur us xs k p f own h bad = record { each = λ u x n end. let i = h.only u x n in next u x i.0 i.1 i.2 }
  where
    next : (u : TypeTree) (x : List Token) → (n : Trees) → MoreSizes n cur x → u ≡ type_name at ss (add xs n) → Excuses f d (type_depth u)
    next u x no_trees c ev = absurd (close_bracket c.1 p cur x us (no_size cur x c) own)
    next u x (one_more b n) c ev =
        let g = size_front b n cur us x p own c in
        let deep : depth b ≤ type_depth u = subst (λ y. depth b ≤ type_depth y) (sym ev) (depths_add xs b n) in
        excuses_more f d d _ _ (omega (arith, deep)) (bad.each b g.0 g.3)

pub sizes_next_open : (d n : ℕ) (ts : List Token) (at : Pos) (ss : List TypeSpecifier) (cur us mid : List Token) (xs : List Tree) (k : ℕ) (p : Pos) (e : Tree)
    (j : ℕ) (f : Refusal) → Own (kind.Punctuator sign.BracketOpen) p cur us → SizesLoop d ts at ss xs k cur → Reads 2 n us e j mid →
    NotFront (kind.Punctuator sign.BracketClose) mid → FailsOf (SpellsNamed None) Anywhere type_depth d ts f
sizes_next_open d n ts at ss cur us mid xs k p e j f own h r none = record { each = λ u x named end. let i = h.only u x named in next u x i.0 i.1 }
  where
    next : (u : TypeTree) (x : List Token) → (m : Trees) → MoreSizes m cur x → Excuses f d (type_depth u)
    next u x no_trees c = absurd (close_bracket c.1 p cur x us (no_size cur x c) own)
    next u x (one_more b m) c =
        let g = size_front b m cur us x p own c in
        let v = r.only b g.0 g.3 in
        absurd (none g.2 g.1 (subst (λ y. Own (kind.Punctuator sign.BracketClose) g.2 y g.1) v.1 g.4))

pub sizes_open : (d : ℕ) (ts : List Token) (at : Pos) (ss : List TypeSpecifier) (cur : List Token) (xs : List Tree) (k : ℕ) (f : Refusal) →
    NotFront (kind.Punctuator sign.BracketOpen) cur → NotFront (kind.Punctuator sign.ParenClose) cur → SizesLoop d ts at ss xs k cur →
    FailsOf (SpellsNamed None) Anywhere type_depth d ts f
sizes_open d ts at ss cur xs k f n1 n2 h = record { each = λ u x named end. let i = h.only u x named in next u x i.0 i.1 }
  where
    next : (u : TypeTree) (x : List Token) → (m : Trees) → MoreSizes m cur x → Excuses f d (type_depth u)
    next u x no_trees c = absurd (n2 c.1 x (no_size cur x c))
    next u x (one_more b m) c = absurd (mark_not (kind.Punctuator sign.BracketOpen) cur c.2.0 n1 c.2.3)

pub sizes_end : (d : ℕ) (ts : List Token) (at : Pos) (ss : List TypeSpecifier) (cur rest : List Token) (xs : List Tree) (k : ℕ) (q : Pos) →
    NotFront (kind.Punctuator sign.BracketOpen) cur → Own (kind.Punctuator sign.ParenClose) q cur rest → SizesLoop d ts at ss xs k cur →
    ReadsOf (SpellsNamed None) Anywhere type_depth d ts (type_name at ss (trees_of xs)) k rest
sizes_end d ts at ss cur rest xs k q none own h = record {
  spelled = (cur, subst (λ y. SpellsType None (type_name at ss y) ts cur) (add_none xs) (h.spells no_trees cur refl), inl (q, own));
  tall = h.height;
  fits = h.fits;
  only = λ u x n end. let i = h.only u x n in next u x i.0 i.1 i.2;
}
  where
    next : (u : TypeTree) (x : List Token) → (n : Trees) → MoreSizes n cur x → u ≡ type_name at ss (add xs n) → (u ≡ type_name at ss (trees_of xs)) × (x ≡ rest)
    next u x no_trees c ev = (ev ∙ ap (type_name at ss) (add_none xs), (own_once (kind.Punctuator sign.ParenClose) c.1 q cur x rest (no_size cur x c) own).1)
    next u x (one_more b n) c ev = absurd (mark_not (kind.Punctuator sign.BracketOpen) cur c.2.0 none c.2.3)

pub sizes_next_lift : (d : ℕ) (ts : List Token) (at : Pos) (ss : List TypeSpecifier) (cur us : List Token) (xs : List Tree) (k : ℕ) (p : Pos) (f : Refusal) →
    Own (kind.Punctuator sign.BracketOpen) p cur us → SizesLoop d ts at ss xs k cur → Stands 2 d us f → StandsType d ts f
sizes_next_lift d ts at ss cur us xs k p (Syntax x) own h s = tt
sizes_next_lift d ts at ss cur us xs k p Memory own h s = tt
sizes_next_lift d ts at ss cur us xs k p (Depth x) own h s =
    let deep = depths_add xs s.tree no_trees in
    record {
      tree = type_name at ss (add xs (one_more s.tree no_trees));
      cut = s.cut;
      last = s.last;
      spelled = (
        s.cut,
        h.begun s.cut (one_more s.tree no_trees) s.cut (us, s.cut, s.cut, inl (p, own), s.tight, s.spells, inr (refl, refl), refl),
        inr
            (refl, refl),
      );
      reaches = reaches_on ts cur _ h.reaches (reaches_on cur us _ (own_reaches _ _ _ _ own) s.ends);
      deep = omega (arith, s.deep, deep);
    }

pub plain_lift : (d : ℕ) (ts : List Token) (f : Refusal) → NotDepth f → StandsType d ts f
plain_lift d ts (Syntax x) h = tt
plain_lift d ts Memory h = tt
plain_lift d ts (Depth x) h = absurd h

-- the exit of a `?`
pub pass_type : (d : ℕ) (ts : List Token) (r : Result TypePart Refusal) (f : Refusal) → IsErrAnd r (λ e. e ≡ f) → FailsOf (SpellsNamed None) Anywhere type_depth
    d ts f → AnswersType d ts r
pass_type d ts r f is h = passed_on (AnswersType d ts) r f is h

pub pass_stands_type : (d : ℕ) (ts : List Token) (r : Result TypePart Refusal) (f : Refusal) → IsErrAnd r (λ e. e ≡ f) → StandsType d ts f →
    IfErr r (λ e. StandsType d ts e)
pass_stands_type d ts r f is h = err_passed_on (StandsType d ts) r f is h

-- ---- casts

pub cast_inverts : (t : Tree) (at : Pos) (ts us r : List Token) → Own (kind.Punctuator sign.ParenOpen) at ts us → BeginsType us → Front 13 t ts r →
    (ty : TypeTree) × (a : Tree) × (x : List Token) × SpellsNamed None ty us x × Front 13 a x r × (t ≡ cast at ty a)
cast_inverts (cast o ty a) at ts us r own b f =
    let h = f.spells in
    let e = own_once (kind.Punctuator sign.ParenOpen) o at ts h.0 us h.3 own in
    (ty, a, h.2, (h.1, subst (λ x. SpellsType None ty x h.1) e.1 h.4, h.5), record { tight = h.6; spells = h.7; stops = f.stops }, ap (λ x. cast x ty a) e.0)
cast_inverts (binary o op a c) at ts us r own b f = absurd (omega (arith, f.tight, layer_of_most op))
cast_inverts (conditional o a c e) at ts us r own b f = absurd (omega (arith, f.tight))
cast_inverts (assign o op a c) at ts us r own b f = absurd (omega (arith, f.tight))
cast_inverts t at ts us r own b f = absurd (no_type t at ts us r own b (omega arith) f.spells)

pub cast_reads : (d : ℕ) (at : Pos) (ts us mid : List Token) (ty : TypeTree) (j : ℕ) (e : Tree) (k : ℕ) (rest : List Token) (m : ℕ) →
    Own (kind.Punctuator sign.ParenOpen) at ts us → BeginsType us → ReadsOf (SpellsNamed None) Anywhere type_depth (d + 1) us ty j mid →
    Reads 13 (d + 1) mid e k rest → m ≡ max j k + 1 → Reads 13 d ts (cast at ty e) m rest
cast_reads d at ts us mid ty j e k rest m own b named h em = record {
  tight = omega arith;
  spells = (us, named.spelled.0, mid, own, named.spelled.1, named.spelled.2, h.tight, h.spells);
  height = omega (arith, em, named.tall, h.height);
  fits = omega (arith, em, named.fits, h.fits);
  only = λ t r f. let i = cast_inverts t at ts us r own b f in
      let u = named.only i.0 i.2 i.3 tt in
      let v = h.only i.1 r (subst (λ x. Front 13 i.1 x r) u.1 i.4) in
      (i.5 ∙ ap (λ x. cast at x i.1) u.0 ∙ ap (λ x. cast at ty x) v.0, v.1);
}

pub cast_type_fails : (d : ℕ) (at : Pos) (ts us : List Token) (x : Refusal) → Own (kind.Punctuator sign.ParenOpen) at ts us → BeginsType us →
    FailsOf (SpellsNamed None) Anywhere type_depth (d + 1) us x → Fails 13 d ts x
cast_type_fails d at ts us x own b bad = record {
  each = λ t r f. let i = cast_inverts t at ts us r own b f in
      let deep : type_depth i.0 + 1 ≤ depth t = subst (λ y. type_depth i.0 + 1 ≤ depth y) (sym i.5) (omega arith) in
      excuses_more x (d + 1) d _ _ (omega (arith, deep)) (bad.each i.0 i.2 i.3 tt);
}

pub cast_fails : (d n : ℕ) (at : Pos) (ts us mid : List Token) (ty : TypeTree) (j : ℕ) (x : Refusal) → Own (kind.Punctuator sign.ParenOpen) at ts us →
    BeginsType us → ReadsOf (SpellsNamed None) Anywhere type_depth n us ty j mid → Fails 13 (d + 1) mid x → Fails 13 d ts x
cast_fails d n at ts us mid ty j x own b named bad = wrap_fails 13 13 d ts mid x (λ t r f. let i = cast_inverts t at ts us r own b f in
    let u = named.only i.0 i.2 i.3 tt in
    (i.1, r, subst (λ y. Front 13 i.1 y r) u.1 i.4, subst (λ y. depth i.1 + 1 ≤ depth y) (sym i.5) (omega arith))) bad

pub no_cast : (t : Tree) (ts r : List Token) → ((at : Pos) (rest : List Token) → Own (kind.Punctuator sign.ParenOpen) at ts rest → BeginsType rest → ⊥) →
    Front 13 t ts r → 14 ≤ layer t
no_cast (cast o ty a) ts r none f = let h = f.spells in absurd (none o h.0 h.3 (type_begins ty h.0 h.1 h.4))
no_cast (binary o op a b) ts r none f = absurd (omega (arith, f.tight, layer_of_most op))
no_cast (conditional o a b c) ts r none f = absurd (omega (arith, f.tight))
no_cast (assign o op a b) ts r none f = absurd (omega (arith, f.tight))
no_cast t ts r none f = omega arith

-- ---- sizeof

size_inverts : (t : Tree) (at : Pos) (ts us r : List Token) → Own (kind.Keyword keyword.Sizeof) at ts us → Front 14 t ts r →
    ((a : Tree) × Front 14 a us r × (t ≡ size_of at a)) ⊎ ((ty : TypeTree) × (x : List Token) × (p : Pos) × Own (kind.Punctuator sign.ParenOpen) p us x
    × SpellsNamed None ty x r × (t ≡ size_of_type at ty))
size_inverts (size_of o a) at ts us r own f =
    let h = f.spells in let e = own_once (kind.Keyword keyword.Sizeof) o at ts h.0 us h.1 own in
    inl (a, record { tight = h.2; spells = subst (λ x. Spells None a x r) e.1 h.3; stops = f.stops }, ap (λ x. size_of x a) e.0)
size_inverts (size_of_type o ty) at ts us r own f =
    let h = f.spells in let e = own_once (kind.Keyword keyword.Sizeof) o at ts h.0 us h.3 own in
    let m = mark_own (kind.Punctuator sign.ParenOpen) h.0 h.1 h.4 in
    inr (ty, h.1, m.0, subst (λ x. Own (kind.Punctuator sign.ParenOpen) m.0 x h.1) e.1 m.1, (h.2, h.5, h.6), ap (λ x. size_of_type x ty) e.0)
size_inverts (before o p a) at ts us r own f = absurd (omega (arith, step_tag p, tags _ _ at o ts us f.spells.0 own f.spells.1))
size_inverts (prefix o p a) at ts us r own f = absurd (omega (arith, prefix_tag p, tags _ _ at o ts us f.spells.0 own f.spells.1))
size_inverts (cast o ty a) at ts us r own f = absurd (omega (arith, f.tight))
size_inverts (binary o p a b) at ts us r own f = absurd (omega (arith, f.tight, layer_of_most p))
size_inverts (conditional o a b c) at ts us r own f = absurd (omega (arith, f.tight))
size_inverts (assign o p a b) at ts us r own f = absurd (omega (arith, f.tight))
size_inverts t at ts us r own f = absurd (omega (arith, low_tag t (kind.Keyword keyword.Sizeof) at ts us r (omega arith) own f.spells))

-- a type in parentheses after sizeof
size_type : (t : Tree) (at p : Pos) (ts us x r : List Token) → Own (kind.Keyword keyword.Sizeof) at ts us → Own (kind.Punctuator sign.ParenOpen) p us x →
    BeginsType x → Front 14 t ts r → (ty : TypeTree) × SpellsNamed None ty x r × (t ≡ size_of_type at ty)
size_type t at p ts us x r own o1 b f =
    ⊎_elim (λ i. absurd (no_type i.0 p us x r o1 b i.1.tight i.1.spells)) (λ i.
    let e1 = own_once (kind.Punctuator sign.ParenOpen) i.2 p us i.1 x i.3 o1 in
    (i.0, subst (λ z. SpellsNamed None i.0 z r) e1.1 i.4, i.5)) (size_inverts t at ts us r own f)

size_expr : (t : Tree) (at : Pos) (ts us r : List Token) → Own (kind.Keyword keyword.Sizeof) at ts us →
    ((p : Pos) (x : List Token) → Own (kind.Punctuator sign.ParenOpen) p us x → BeginsType x → ⊥) → Front 14 t ts r → (a : Tree) × Front 14 a us r
    × (t ≡ size_of at a)
size_expr t at ts us r own none f =
    ⊎_elim (λ i. i) (λ i. absurd (none i.2 i.1 i.3 (type_begins i.0 i.1 i.4.0 i.4.1))) (size_inverts t at ts us r own f)

pub size_type_reads : (d : ℕ) (at p : Pos) (ts us x rest : List Token) (ty : TypeTree) (j : ℕ) → Own (kind.Keyword keyword.Sizeof) at ts us →
    Own (kind.Punctuator sign.ParenOpen) p us x → BeginsType x → ReadsOf (SpellsNamed None) Anywhere type_depth (d + 1) x ty j rest →
    Reads 14 d ts (size_of_type at ty) (j + 1) rest
size_type_reads d at p ts us x rest ty j own o1 b named = record {
  tight = omega arith;
  spells = (us, x, named.spelled.0, own, inl (p, o1), named.spelled.1, named.spelled.2);
  height = ap (λ y. y + 1) named.tall;
  fits = omega (arith, named.fits);
  only = λ t r f. let i = size_type t at p ts us x r own o1 b f in
      let u = named.only i.0 r i.1 tt in (i.2 ∙ ap (size_of_type at) u.0, u.1);
}

pub size_type_fails : (d : ℕ) (at p : Pos) (ts us x : List Token) (f : Refusal) → Own (kind.Keyword keyword.Sizeof) at ts us →
    Own (kind.Punctuator sign.ParenOpen) p us x → BeginsType x → FailsOf (SpellsNamed None) Anywhere type_depth (d + 1) x f → Fails 14 d ts f
size_type_fails d at p ts us x f own o1 b bad = record {
  each = λ t r fr. let i = size_type t at p ts us x r own o1 b fr in
      let deep : type_depth i.0 + 1 ≤ depth t = subst (λ y. type_depth i.0 + 1 ≤ depth y) (sym i.2) (omega arith) in
      excuses_more f (d + 1) d _ _ (omega (arith, deep)) (bad.each i.0 r i.1 tt);
}

pub size_reads : (d : ℕ) (at : Pos) (ts us : List Token) (e : Tree) (k : ℕ) (rest : List Token) → Own (kind.Keyword keyword.Sizeof) at ts us →
    ((p : Pos) (x : List Token) → Own (kind.Punctuator sign.ParenOpen) p us x → BeginsType x → ⊥) → Reads 14 (d + 1) us e k rest →
    Reads 14 d ts (size_of at e) (k + 1) rest
size_reads d at ts us e k rest own none h =
    wrap_reads 14 14 d ts us (size_of at) e k rest rest (omega arith) (us, own, h.tight, h.spells) refl (λ t r f. let i = size_expr t at ts us r own none f in
    (i.0, r, i.1, i.2, λ w. w)) h

pub size_fails : (d : ℕ) (at : Pos) (ts us : List Token) (x : Refusal) → Own (kind.Keyword keyword.Sizeof) at ts us →
    ((p : Pos) (y : List Token) → Own (kind.Punctuator sign.ParenOpen) p us y → BeginsType y → ⊥) → Fails 14 (d + 1) us x → Fails 14 d ts x
size_fails d at ts us x own none h =
    wrap_fails 14 14 d ts us x (λ t r f. let i = size_expr t at ts us r own none f in
    (i.0, r, i.1, subst (λ y. depth i.0 + 1 ≤ depth y) (sym i.2) (omega arith))) h
