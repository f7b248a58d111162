-- The arguments of a call.
use Rattle.std.specs.Prelude.{None, Some, Result, IfErr}
use Rattle.std.specs.Result.{IsErrAnd}
use Rattle.std.proofs.Common.{◌≡◌, ℕ, ◌+◌, ◌≤◌, max, inl, inr, List, [], ◌∷◌, ◌++◌, refl, sym, ap, ◌∙◌, subst, arith}
use Rattle.srcset.specs.declared.refusal.Pos.{Pos}
use Rattle.lexer.specs.declared.token.Token.{Token}
use Rattle.lexer.specs.declared.token.Kind.TheVariants as kind
use Rattle.lexer.specs.declared.token.Punctuator.TheVariants as sign
use Rattle.tree.specs.Tree.{Tree, Trees, no_trees, one_more}
use Rattle.tree.specs.Counts.{depth, depths}
use Rattle.parser_grammar.proofs.Exits.{passed_on, err_passed_on}
use Rattle.parser_grammar.specs.declared.refusal.Refusal.{Refusal}
use Rattle.parser_grammar.specs.declared.refusal.Refusal.TheVariants.{Syntax, Depth, Memory}
use Rattle.parser_grammar.specs.Tokens.{Own, NotFront, Reaches}
use Rattle.parser_grammar.specs.Expressions.{Spells, SpellsArguments, SpellsMore}
use Rattle.parser_grammar.specs.layer.Answer.{Excuses, ReadsOf, FailsOf, Anywhere}
use Rattle.parser_expressions.specs.ExpressionAnswers.{power, Stops, Front, Reads, Fails, Stands}
use Rattle.parser_grammar.proofs.Tokens.{own_once, own_kinds, mark_own, mark_not, reaches_on, own_reaches}
use Rattle.parser_grammar.proofs.ExpressionBegun.{whole_is_begun, whole_reaches}
use Rattle.parser_expressions.proofs.Leads.{no_begin}
use Rattle.tree.specs.View.{trees_of}
use Rattle.parser_expressions.specs.declared.expressions.ArgumentsPart.{ArgumentsPart}
use Rattle.parser_expressions.specs.ExpressionLeads.{SignBeginsExpression}
use Rattle.parser_expressions.specs.inside.PartAnswers.{SpellsClosed, AnswersArguments, StandsArguments}
use Rattle.parser_expressions.proofs.Spine.{stops_at, excuses_more}

-- trees before others
abbrev pub add : List Tree → Trees → Trees
add [] m = m
add (x ∷ xs) m = one_more x (add xs m)

pub add_none : (xs : List Tree) → add xs no_trees ≡ trees_of xs
add_none [] = refl
add_none (x ∷ xs) = ap (one_more x) (add_none xs)

pub add_push : (xs : List Tree) (x : Tree) (m : Trees) → add (xs ++ x ∷ []) m ≡ add xs (one_more x m)
add_push [] x m = refl
add_push (y ∷ xs) x m = ap (one_more y) (add_push xs x m)

pub depths_push : (xs : List Tree) (x : Tree) → depths (trees_of (xs ++ x ∷ [])) ≡ max (depths (trees_of xs)) (depth x)
depths_push [] x = omega arith
depths_push (y ∷ xs) x = let i = depths_push xs x in omega (arith, i)

pub depths_add : (xs : List Tree) (x : Tree) (m : Trees) → depth x ≤ depths (add xs (one_more x m))
depths_add [] x m = omega arith
depths_add (y ∷ xs) x m = let i = depths_add xs x m in omega (arith, i)

-- arguments up to the closing parenthesis
abbrev pub Closed : Trees → List Token → List Token → Type 0
Closed es ts rest = (t1 : List Token) × (at : Pos) × SpellsArguments None es ts t1 × Own (kind.Punctuator sign.ParenClose) at t1 rest

closed : (es : Trees) (ts r : List Token) → SpellsClosed None es ts r → Closed es ts r
closed es ts r h = let m = mark_own (kind.Punctuator sign.ParenClose) h.0 r h.2 in (h.0, m.0, h.1, m.1)

-- further arguments up to the closing parenthesis
abbrev pub MoreClosed : Trees → List Token → List Token → Type 0
MoreClosed es ts rest = (t1 : List Token) × (at : Pos) × SpellsMore None es ts t1 × Own (kind.Punctuator sign.ParenClose) at t1 rest

more_stops : (es : Trees) (ts r : List Token) → MoreClosed es ts r → Stops 1 ts
more_stops no_trees ts r h = subst (Stops 1) (sym h.2) (stops_at 1 (kind.Punctuator sign.ParenClose) h.1 h.0 r h.3 (omega arith))
more_stops (one_more e es) ts r h = let m = mark_own (kind.Punctuator sign.Comma) ts h.2.0 h.2.2 in stops_at 1 (kind.Punctuator sign.Comma) m.0 ts h.2.0 m.1
    (omega arith)

-- The loop invariant: these are read, and any arguments that the tokens spell continue them.
pub record ArgumentsLoop (d : ℕ) (ts : List Token) (xs : List Tree) (k : ℕ) (cur : List Token) : Type 0 where
  pub spells : (m : Trees) (r : List Token) → SpellsMore None m cur r → SpellsArguments None (add xs m) ts r
  pub begun : (c : List Token) (m : Trees) (r : List Token) → SpellsMore (Some c) m cur r → SpellsArguments (Some c) (add xs m) ts r
  pub reaches : Reaches ts cur
  pub height : k ≡ depths (trees_of xs)
  pub fits : d + k ≤ 256
  pub only : (us : Trees) (r : List Token) → Closed us ts r → (m : Trees) × MoreClosed m cur r × (us ≡ add xs m)

closed_front : (e : Tree) (es : Trees) (ts r : List Token) → Closed (one_more e es) ts r → (x : List Token) × Front 1 e ts x × MoreClosed es x r
closed_front e es ts r h = (h.2.0, record { tight = h.2.1; spells = h.2.2; stops = more_stops es h.2.0 r (h.0, h.1, h.2.3, h.3) }, (h.0, h.1, h.2.3, h.3))

more_front : (e : Tree) (es : Trees) (ts us r : List Token) (at : Pos) → Own (kind.Punctuator sign.Comma) at ts us → MoreClosed (one_more e es) ts r →
    (x : List Token) × Front 1 e us x × MoreClosed es x r
more_front e es ts us r at own h =
    let s = h.2 in
    let m = mark_own (kind.Punctuator sign.Comma) ts s.0 s.2 in
    let e1 = own_once (kind.Punctuator sign.Comma) m.0 at ts s.0 us m.1 own in
    (s.1, record { tight = s.3; spells = subst (λ y. Spells None e y s.1) e1.1 s.4; stops = more_stops es s.1 r (h.0, h.1, s.5, h.3) }, (h.0, h.1, s.5, h.3))

-- a closing parenthesis after no further argument
no_more : (cur x : List Token) → (c : MoreClosed no_trees cur x) → Own (kind.Punctuator sign.ParenClose) c.1 cur x
no_more cur x c = subst (λ y. Own (kind.Punctuator sign.ParenClose) c.1 y x) (sym c.2) c.3

close_comma : (a b : Pos) (ts r s : List Token) → Own (kind.Punctuator sign.ParenClose) a ts r → Own (kind.Punctuator sign.Comma) b ts s → ⊥
close_comma a b ts r s p q = let e : 0 ≡ 1 = ap power (own_kinds _ _ a b ts r s p q) in omega (arith, e)

pub arguments_begin : (d : ℕ) (ts : List Token) (e : Tree) (k : ℕ) (cur : List Token) → NotFront (kind.Punctuator sign.ParenClose) ts → Reads 1 d ts e k cur →
    ArgumentsLoop d ts (e ∷ []) k cur
arguments_begin d ts e k cur none h = record {
  spells = λ m r s. (cur, h.tight, h.spells, s);
  begun = λ c m r s. (cur, h.tight, whole_is_begun c e ts cur h.spells, s);
  reaches = whole_reaches e ts cur h.spells;
  height = omega (arith, h.height);
  fits = h.fits;
  only = first;
}
  where
    first : (us : Trees) (r : List Token) → Closed us ts r → (m : Trees) × MoreClosed m cur r × (us ≡ add (e ∷ []) m)
    first no_trees r c = absurd (none c.1 r (subst (λ y. Own (kind.Punctuator sign.ParenClose) c.1 y r) (sym c.2) c.3))
    first (one_more x es) r c =
        let g = closed_front x es ts r c in
        let u = h.only x g.0 g.1 in
        (es, subst (λ y. MoreClosed es y r) u.1 g.2, ap (λ y. one_more y es) u.0)

pub arguments_first_fails : (d : ℕ) (ts : List Token) (f : Refusal) → NotFront (kind.Punctuator sign.ParenClose) ts → Fails 1 d ts f →
    FailsOf (SpellsClosed None) Anywhere depths d ts f
arguments_first_fails d ts f none h = record { each = λ us r c end. first us r (closed us ts r c) }
  where
    first : (us : Trees) (r : List Token) → Closed us ts r → Excuses f d (depths us)
    first no_trees r c = absurd (none c.1 r (subst (λ y. Own (kind.Punctuator sign.ParenClose) c.1 y r) (sym c.2) c.3))
    first (one_more x es) r c = let g = closed_front x es ts r c in excuses_more f d d _ _ (omega arith) (h.each x g.0 g.1)

close_begins : SignBeginsExpression sign.ParenClose → ⊥
close_begins h = h

pub arguments_none : (d : ℕ) (ts rest : List Token) (q : Pos) → Own (kind.Punctuator sign.ParenClose) q ts rest → d ≤ 256 → ReadsOf (SpellsClosed None) Anywhere
    depths d ts no_trees 0 rest
arguments_none d ts rest q own le = record {
  spelled = (ts, refl, inl (q, own));
  tall = refl;
  fits = omega (arith, le);
  only = λ us r c end. first us r (closed us ts r c);
}
  where
    first : (us : Trees) (r : List Token) → Closed us ts r → (us ≡ no_trees) × (r ≡ rest)
    first no_trees r c = (
      refl,
      (own_once (kind.Punctuator sign.ParenClose) c.1 q ts r rest (subst (λ y. Own (kind.Punctuator sign.ParenClose) c.1 y r)
          (sym c.2) c.3) own).1,
    )
    first (one_more x es) r c = absurd (no_begin x (kind.Punctuator sign.ParenClose) q ts rest c.2.0 close_begins own c.2.2)

pub arguments_next : (d : ℕ) (ts cur us : List Token) (xs : List Tree) (k : ℕ) (at : Pos) (e : Tree) (j : ℕ) (rest : List Token) (m : ℕ) →
    Own (kind.Punctuator sign.Comma) at cur us → ArgumentsLoop d ts xs k cur → Reads 1 d us e j rest → m ≡ max k j → ArgumentsLoop d ts (xs ++ e ∷ []) m rest
arguments_next d ts cur us xs k at e j rest m own h r em = record {
  spells = λ n x s. subst (λ y. SpellsArguments None y ts x) (sym (add_push xs e n))
      (h.spells (one_more e n) x (us, rest, inl (at, own), r.tight, r.spells, s));
  begun = λ c n x s. subst (λ y. SpellsArguments (Some c) y ts x) (sym (add_push xs e n))
      (h.begun c (one_more e n) x (us, rest, inl (at, own), r.tight, whole_is_begun c e us rest r.spells, s));
  reaches = reaches_on ts cur rest h.reaches (reaches_on cur us rest (own_reaches _ _ _ _ own) (whole_reaches e us rest r.spells));
  height = omega (arith, em, h.height, r.height, depths_push xs e);
  fits = omega (arith, em, h.fits, r.fits);
  only = λ vs x c. let i = h.only vs x c in next vs x i.0 i.1 i.2;
}
  where
    next : (vs : Trees) (x : List Token) → (n : Trees) → MoreClosed n cur x → vs ≡ add xs n → (n' : Trees) × MoreClosed n' rest x × (vs ≡ add (xs ++ e ∷ []) n')
    next vs x no_trees c ev = absurd (close_comma c.1 at cur x us (no_more cur x c) own)
    next vs x (one_more b n) c ev =
        let g = more_front b n cur us x at own c in
        let u = r.only b g.0 g.1 in
        (n, subst (λ y. MoreClosed n y x) u.1 g.2, ev ∙ ap (λ y. add xs (one_more y n)) u.0 ∙ sym (add_push xs e n))

pub arguments_next_fails : (d : ℕ) (ts cur us : List Token) (xs : List Tree) (k : ℕ) (at : Pos) (f : Refusal) → Own (kind.Punctuator sign.Comma) at cur us →
    ArgumentsLoop d ts xs k cur → Fails 1 d us f → FailsOf (SpellsClosed None) Anywhere depths d ts f
arguments_next_fails d ts cur us xs k at f own h bad = record { each = λ vs x c end. let i = h.only vs x (closed vs ts x c) in next vs x i.0 i.1 i.2 }
  where
    next : (vs : Trees) (x : List Token) → (n : Trees) → MoreClosed n cur x → vs ≡ add xs n → Excuses f d (depths vs)
    next vs x no_trees c ev = absurd (close_comma c.1 at cur x us (no_more cur x c) own)
    next vs x (one_more b n) c ev =
        let g = more_front b n cur us x at own c in
        let deep : depth b ≤ depths vs = subst (λ y. depth b ≤ depths y) (sym ev) (depths_add xs b n) in
        excuses_more f d d _ _ (omega (arith, deep)) (bad.each b g.0 g.1)

pub arguments_open : (d : ℕ) (ts cur : List Token) (xs : List Tree) (k : ℕ) (f : Refusal) → NotFront (kind.Punctuator sign.Comma) cur →
    NotFront (kind.Punctuator sign.ParenClose) cur → ArgumentsLoop d ts xs k cur → FailsOf (SpellsClosed None) Anywhere depths d ts f
arguments_open d ts cur xs k f n1 n2 h = record { each = λ vs x c end. let i = h.only vs x (closed vs ts x c) in next vs x i.0 i.1 }
  where
    next : (vs : Trees) (x : List Token) → (n : Trees) → MoreClosed n cur x → Excuses f d (depths vs)
    next vs x no_trees c = absurd (n2 c.1 x (no_more cur x c))
    next vs x (one_more b n) c = absurd (mark_not (kind.Punctuator sign.Comma) cur c.2.0 n1 c.2.2)

pub arguments_end : (d : ℕ) (ts cur rest : List Token) (xs : List Tree) (k : ℕ) (q : Pos) → NotFront (kind.Punctuator sign.Comma) cur →
    Own (kind.Punctuator sign.ParenClose) q cur rest → ArgumentsLoop d ts xs k cur → ReadsOf (SpellsClosed None) Anywhere depths d ts (trees_of xs) k rest
arguments_end d ts cur rest xs k q none own h = record {
  spelled = (cur, subst (λ y. SpellsArguments None y ts cur) (add_none xs) (h.spells no_trees cur refl), inl (q, own));
  tall = h.height;
  fits = h.fits;
  only = λ vs x c end. let i = h.only vs x (closed vs ts x c) in next vs x i.0 i.1 i.2;
}
  where
    next : (vs : Trees) (x : List Token) → (n : Trees) → MoreClosed n cur x → vs ≡ add xs n → (vs ≡ trees_of xs) × (x ≡ rest)
    next vs x no_trees c ev = (ev ∙ add_none xs, (own_once (kind.Punctuator sign.ParenClose) c.1 q cur x rest (no_more cur x c) own).1)
    next vs x (one_more b n) c ev = absurd (mark_not (kind.Punctuator sign.Comma) cur c.2.0 none c.2.2)

-- the exit of a `?`
pub pass_arguments : (d : ℕ) (ts : List Token) (r : Result ArgumentsPart Refusal) (f : Refusal) → IsErrAnd r (λ e. e ≡ f) → FailsOf (SpellsClosed None) Anywhere
    depths d ts f → AnswersArguments d ts r
pass_arguments d ts r f is h = passed_on (AnswersArguments d ts) r f is h

pub pass_stands_arguments : (d : ℕ) (ts : List Token) (r : Result ArgumentsPart Refusal) (f : Refusal) → IsErrAnd r (λ e. e ≡ f) → StandsArguments d ts f →
    IfErr r (λ e. StandsArguments d ts e)
pass_stands_arguments d ts r f is h = err_passed_on (StandsArguments d ts) r f is h

pub arguments_first_lift : (d : ℕ) (ts : List Token) (f : Refusal) → Stands 1 d ts f → StandsArguments d ts f
arguments_first_lift d ts (Syntax x) h = tt
arguments_first_lift d ts Memory h = tt
arguments_first_lift d ts (Depth x) h = record {
  tree = one_more h.tree no_trees;
  cut = h.cut;
  last = h.last;
  spelled = (h.cut, (h.cut, h.tight, h.spells, refl), inr (refl, refl));
  reaches = h.ends;
  deep = omega (arith, h.deep);
}

pub arguments_next_lift : (d : ℕ) (ts cur us : List Token) (xs : List Tree) (k : ℕ) (at : Pos) (f : Refusal) → Own (kind.Punctuator sign.Comma) at cur us →
    ArgumentsLoop d ts xs k cur → Stands 1 d us f → StandsArguments d ts f
arguments_next_lift d ts cur us xs k at (Syntax x) own h s = tt
arguments_next_lift d ts cur us xs k at Memory own h s = tt
arguments_next_lift d ts cur us xs k at (Depth x) own h s =
    let deep = depths_add xs s.tree no_trees in
    record {
      tree = add xs (one_more s.tree no_trees);
      cut = s.cut;
      last = s.last;
      spelled = (s.cut, h.begun s.cut (one_more s.tree no_trees) s.cut (us, s.cut, inl (at, own), s.tight, s.spells, refl), inr (refl, refl));
      reaches = reaches_on ts cur _ h.reaches (reaches_on cur us _ (own_reaches _ _ _ _ own) s.ends);
      deep = omega (arith, s.deep, deep);
    }
