-- Initialisers.
use Rattle.std.specs.Prelude.{Option, None, Some, max, Vec}
use Rattle.std.proofs.Common.{◌≡◌, ℕ, ◌+◌, ◌≤◌, inl, inr, List, [], ◌∷◌, ◌++◌, map, refl, sym, ap, ◌∙◌, subst, arith, Global, rules}
use Rattle.srcset.specs.declared.refusal.Pos.{Pos}
use Rattle.lexer.specs.declared.token.Token.{Token}
use Rattle.lexer.specs.declared.token.Kind.TheVariants as kind
use Rattle.lexer.specs.declared.token.Punctuator.TheVariants as sign
use Rattle.tree.specs.Tree.{Tree, Init, init_hole, one_init, braced_init, Inits, no_inits, and_init}
use Rattle.tree.specs.Counts.{depth, init_depth, inits_depth, option_init_depth}
use Rattle.tree.specs.View.{inits_of, tree_of, init_of}
use Rattle.parser_grammar.specs.declared.refusal.Refusal.{Refusal}
use Rattle.parser_grammar.specs.declared.refusal.Refusal.TheVariants.{Depth}
use Rattle.parser_grammar.specs.Tokens.{Own, NotFront}
use Rattle.parser_grammar.specs.Expressions.{Spells}
use Rattle.parser_grammar.specs.Declarations.{SpellsMoreOf, SpellsSeries, Trailing, SpellsInit, SpellsInits, SpellsMoreInits, SpellsInitialiser}
use Rattle.parser_grammar.specs.layer.Answer.{Excuses, ReadsOf, FailsOf, StandsOf, Anywhere}
use Rattle.parser_expressions.specs.ExpressionAnswers.{Stops, Reads, Fails, Stands}
use Rattle.parser_grammar.proofs.Tokens.{mark_own, reaches_self, own_reaches, own_once, own_kinds}
use Rattle.parser_expressions.proofs.Leads.{no_begin}
use Rattle.tree.specs.declared.expression.Expr.{Expr}
use Rattle.tree.specs.declared.declaration.Initialiser.{Initialiser, the_lemmas}
use Rattle.tree.specs.declared.declaration.Initialiser.TheVariants as W
use Rattle.parser_declarations.specs.inside.InitAnswers.{EndsInit, EndsInitialiser, Goes, Closes, SpellsInitList}
use Rattle.parser_grammar.proofs.Series.{tallest, CommaThen, SeriesOf, Going, going_ends, going_stuck, series_begins, series_fails, series_first_stands, series_more, series_more_fails, series_more_stands}
use Rattle.parser_grammar.proofs.DeclarationBegun.{init_is_begun, init_reaches}
use Rattle.parser_expressions.proofs.PartFacts.{Layered, stands_of, stops_own, stops_not, part_fails, part_stands, full_fails, full_stands}

-- ---- one initialiser

-- none begins with a brace that closes
init_not_close : (y : Init) (ts r us : List Token) (at : Pos) → Own (kind.Punctuator sign.BraceClose) at ts us → SpellsInit None y ts r → ⊥
init_not_close init_hole ts r us at own h = h
init_not_close (one_init e) ts r us at own h = no_begin e _ at ts us r (λ b. b) own h.1
init_not_close (braced_init o is) ts r us at own h = let e = own_kinds _ _ o at ts h.0 us h.3 own in let e' : kind.Punctuator sign.BraceOpen ≡ kind.Punctuator
    sign.BraceClose = e in cc

one_no_brace : (e : Tree) (ts r us : List Token) (at : Pos) → Own (kind.Punctuator sign.BraceOpen) at ts us → Spells None e ts r → ⊥
one_no_brace e ts r us at own h = no_begin e _ at ts us r (λ b. b) own h

pub one_reads : (d : ℕ) (ts : List Token) (e : Tree) (k : ℕ) (rest : List Token) → NotFront (kind.Punctuator sign.BraceOpen) ts → Reads 1 d ts e k rest →
    ReadsOf (SpellsInit None) EndsInit init_depth d ts (one_init e) k rest
one_reads d ts e k rest none h = record { spelled = (h.tight, h.spells); tall = h.height; fits = h.fits; only = on }
  where
    on : (y : Init) (r : List Token) → SpellsInit None y ts r → EndsInit y r → (y ≡ one_init e) × (r ≡ rest)
    on init_hole r s en = absurd s
    on (one_init u) r s en = let i = h.only u r (record { tight = s.0; spells = s.1; stops = en }) in (ap one_init i.0, i.1)
    on (braced_init o is) r s en = absurd (none o s.0 s.3)

pub one_fails : (d : ℕ) (ts : List Token) (f : Refusal) → NotFront (kind.Punctuator sign.BraceOpen) ts → Fails 1 d ts f → FailsOf (SpellsInit None) EndsInit
    init_depth d ts f
one_fails d ts f none h = record { each = on }
  where
    on : (y : Init) (r : List Token) → SpellsInit None y ts r → EndsInit y r → Excuses f d (init_depth y)
    on init_hole r s en = absurd s
    on (one_init u) r s en = h.each u r (record { tight = s.0; spells = s.1; stops = en })
    on (braced_init o is) r s en = absurd (none o s.0 s.3)

pub one_stands : (d : ℕ) (ts : List Token) (f : Refusal) → Stands 1 d ts f → StandsOf SpellsInit init_depth d ts f
one_stands d ts f h = part_stands (Layered 1) depth SpellsInit init_depth d d ts ts f one_init (reaches_self ts) (λ a cut lt s. s) (λ a. omega arith)
    (stands_of 1 d ts f h)

-- the parts of a braced list at the front
braced_front : (y : Init) (ts us r : List Token) (at : Pos) → Own (kind.Punctuator sign.BraceOpen) at ts us → SpellsInit None y ts r → (is : Inits)
    × SpellsInitList None is us r × (y ≡ braced_init at is)
braced_front init_hole ts us r at own h = absurd h
braced_front (one_init e) ts us r at own h = absurd (one_no_brace e ts r us at own h.1)
braced_front (braced_init o is) ts us r at own h =
    let e = own_once _ o at ts h.0 us h.3 own in
    (is, (h.1, h.2, subst (λ x. SpellsInits None is x h.1) e.1 h.4, h.5, h.6), ap (λ x. braced_init x is) e.0)

pub braced_full : (d : ℕ) (ts us : List Token) (at : Pos) (f : Refusal) → Own (kind.Punctuator sign.BraceOpen) at ts us → f ≡ Depth at → d ≡ 256 →
    FailsOf (SpellsInit None) EndsInit init_depth d ts f
braced_full d ts us at f own ef ed = full_fails (SpellsInit None) EndsInit init_depth d ts at f ef ed (λ y r s en. let i = braced_front y ts us r at own s in
    subst (λ x. 1 ≤ init_depth x) (sym i.2) (omega arith))

pub braced_full_stands : (d : ℕ) (ts us : List Token) (at : Pos) (f : Refusal) → Own (kind.Punctuator sign.BraceOpen) at ts us → f ≡ Depth at → d ≡ 256 →
    StandsOf SpellsInit init_depth d ts f
braced_full_stands d ts us at f own ef ed = full_stands SpellsInit init_depth d ts us _ at f (braced_init at no_inits) ef ed own
    (us, us, us, own, (refl, refl), inl refl, inr (refl, refl)) (omega arith)

pub braced_fails : (d : ℕ) (ts us : List Token) (at : Pos) (f : Refusal) → Own (kind.Punctuator sign.BraceOpen) at ts us →
    FailsOf (SpellsInitList None) Anywhere inits_depth (d + 1) us f → FailsOf (SpellsInit None) EndsInit init_depth d ts f
braced_fails d ts us at f own h = part_fails (SpellsInitList None) Anywhere inits_depth (SpellsInit None) EndsInit init_depth (d + 1) d ts us f
    (λ y r s en. let i = braced_front y ts us r at own s in (i.0, r, i.1, tt, subst (λ x. d + 1 + inits_depth i.0 ≤ d + init_depth x) (sym i.2) (omega arith)))
    h

pub braced_stands : (d : ℕ) (ts us : List Token) (at : Pos) (f : Refusal) → Own (kind.Punctuator sign.BraceOpen) at ts us → StandsOf SpellsInitList inits_depth
    (d + 1) us f → StandsOf SpellsInit init_depth d ts f
braced_stands d ts us at f own h = part_stands SpellsInitList inits_depth SpellsInit init_depth (d + 1) d ts us f (braced_init at) (own_reaches _ at ts us own)
    (λ a cut lt s. (us, s.0, s.1, own, s.2, s.3, s.4)) (λ a. omega arith) h

pub braced_reads : (d : ℕ) (ts us : List Token) (at : Pos) (is : Inits) (k : ℕ) (rest : List Token) → Own (kind.Punctuator sign.BraceOpen) at ts us →
    ReadsOf (SpellsInitList None) Anywhere inits_depth (d + 1) us is k rest → ReadsOf (SpellsInit None) EndsInit init_depth d ts (braced_init at is) (k + 1)
    rest
braced_reads d ts us at is k rest own h = record {
  spelled = let s = h.spelled in (us, s.0, s.1, own, s.2, s.3, s.4);
  tall = ap (λ x. x + 1) h.tall;
  fits = omega (arith, h.fits);
  only = λ y r s en. let i = braced_front y ts us r at own s in let u = h.only i.0 r i.1 tt in (i.2 ∙ ap (braced_init at) u.0, u.1);
}

-- ---- braced lists, as lists of parts

abbrev list_of : Inits → List Init
list_of no_inits = []
list_of (and_init i is) = i ∷ list_of is

inits_back : (is : Inits) → inits_of (list_of is) ≡ is
inits_back no_inits = refl
inits_back (and_init i is) = ap (and_init i) (inits_back is)

inits_tall : (xs : List Init) → inits_depth (inits_of xs) ≡ tallest init_depth xs
inits_tall [] = refl
inits_tall (x ∷ xs) = ap (max (init_depth x)) (inits_tall xs)

list_tall : (is : Inits) → inits_depth is ≡ tallest init_depth (list_of is)
list_tall no_inits = refl
list_tall (and_init i is) = ap (max (init_depth i)) (list_tall is)

more_list : (b : Option (List Token)) (is : Inits) (ts r : List Token) → SpellsMoreInits b is ts r → SpellsMoreOf (SpellsInit b) b (list_of is) ts r
more_list b no_inits ts r h = h
more_list b (and_init i is) ts r h = (h.0, h.1, h.2, h.3, more_list b is h.1 r h.4)

list_more : (b : Option (List Token)) (xs : List Init) (ts r : List Token) → SpellsMoreOf (SpellsInit b) b xs ts r → SpellsMoreInits b (inits_of xs) ts r
list_more b [] ts r h = h
list_more b (x ∷ xs) ts r h = (h.0, h.1, h.2, h.3, list_more b xs h.1 r h.4)

inits_series : (b : Option (List Token)) (is : Inits) (ts r : List Token) → SpellsInits b is ts r → SpellsSeries (SpellsInit b) b (list_of is) ts r
inits_series b no_inits ts r h = h
inits_series b (and_init i is) ts r h = (h.0, h.1, more_list b is h.0 r h.2)

series_inits : (b : Option (List Token)) (xs : List Init) (ts r : List Token) → SpellsSeries (SpellsInit b) b xs ts r → SpellsInits b (inits_of xs) ts r
series_inits b [] ts r h = h
series_inits b (x ∷ xs) ts r h = (h.0, h.1, list_more b xs h.0 r h.2)

-- ---- where a braced list ends

abbrev EndsList : List Init → List Token → Type 0
EndsList xs rest = (r : List Token) × Closes rest r

closes_stops : (ts r : List Token) → Closes ts r → Stops 1 ts
closes_stops ts r c = on c.2
  where
    on : Trailing ts c.0 → Stops 1 ts
    on (inl e) = stops_own _ c.1 ts r (subst (λ x. Own (kind.Punctuator sign.BraceClose) c.1 x r) (sym e) c.3) (omega arith)
    on (inr o) = stops_own _ o.0 ts c.0 o.1 (omega arith)

list_follows : (us : List Init) (y : Init) (r : List Token) → EndsList us r → EndsInit y r
list_follows us y r e = closes_stops r e.0 e.1

comma_follows : (y : Init) (at : Pos) (t r : List Token) → Own (kind.Punctuator sign.Comma) at t r → EndsInit y t
comma_follows y at t r own = stops_own _ at t r own (omega arith)

-- where a list continues it does not end
goes_on : (cur us : List Token) → Goes cur us → (xs : List Init) → EndsList xs cur → ⊥
goes_on cur us g xs e = let c = e.1 in on c.2
  where
    on : Trailing cur e.1.0 → ⊥
    on (inl q) = let w = own_kinds _ _ e.1.1 g.0 cur e.0 us (subst (λ x. Own (kind.Punctuator sign.BraceClose) e.1.1 x e.0) (sym q) e.1.3) g.1 in
        let w' : kind.Punctuator sign.BraceClose ≡ kind.Punctuator sign.Comma = w in cc
    on (inr o) = let u = own_once _ o.0 g.0 cur e.1.0 us o.1 g.1 in g.2 e.1.1 e.0 (subst (λ x. Own (kind.Punctuator sign.BraceClose) e.1.1 x e.0) u.1 e.1.3)

-- where no comma continues the list there is no further part
no_part : (cur : List Token) → ((r : List Token) → Goes cur r → ⊥) → (y : Init) (r : List Token) → CommaThen SpellsInit None y cur r → ⊥
no_part cur none y r s = let o = mark_own _ cur s.0 s.1 in none s.0 (o.0, o.1, λ p x own. init_not_close y s.0 r x p own s.2)

closes_once : (cur r s : List Token) → Closes cur r → Closes cur s → r ≡ s
closes_once cur r s a b = on a.2 b.2
  where
    on : Trailing cur a.0 → Trailing cur b.0 → r ≡ s
    on (inl p) (inl q) = (own_once _ a.1 b.1 cur r s (subst (λ x. Own (kind.Punctuator sign.BraceClose) a.1 x r) (sym p) a.3)
        (subst (λ x. Own (kind.Punctuator sign.BraceClose) b.1 x s) (sym q) b.3)).1
    on (inl p) (inr q) = let w = own_kinds _ _ a.1 q.0 cur r b.0 (subst (λ x. Own (kind.Punctuator sign.BraceClose) a.1 x r) (sym p) a.3) q.1 in
        let w' : kind.Punctuator sign.BraceClose ≡ kind.Punctuator sign.Comma = w in cc
    on (inr p) (inl q) = let w = own_kinds _ _ b.1 p.0 cur s a.0 (subst (λ x. Own (kind.Punctuator sign.BraceClose) b.1 x s) (sym q) b.3) p.1 in
        let w' : kind.Punctuator sign.BraceClose ≡ kind.Punctuator sign.Comma = w in cc
    on (inr p) (inr q) = let u = own_once _ p.0 q.0 cur a.0 b.0 p.1 q.1 in
        (own_once _ a.1 b.1 b.0 r s (subst (λ x. Own (kind.Punctuator sign.BraceClose) a.1 x r) u.1 a.3) b.3).1

-- ---- the loop over the parts

lift_fails : (d : ℕ) (ts : List Token) (f : Refusal) → FailsOf (SeriesOf SpellsInit None) EndsList (tallest init_depth) d ts f →
    FailsOf (SpellsInitList None) Anywhere inits_depth d ts f
lift_fails d ts f h = part_fails (SeriesOf SpellsInit None) EndsList (tallest init_depth) (SpellsInitList None) Anywhere inits_depth d d ts ts f inverts h
  where
    inverts : (y : Inits) (r : List Token) → SpellsInitList None y ts r → Anywhere y r → (a : List Init) × (x : List Token) × SeriesOf SpellsInit None a ts x
        × EndsList a x × (d + tallest init_depth a ≤ d + inits_depth y)
    inverts y r s en = let o = mark_own _ s.1 r s.4 in (
      list_of y,
      s.0,
      inits_series None y ts s.0 s.2,
      (r, (s.1, o.0, s.3, o.1)),
      let e = list_tall y in
          omega (arith, e),
    )

lift_stands : (d : ℕ) (ts : List Token) (f : Refusal) → StandsOf (SeriesOf SpellsInit) (tallest init_depth) d ts f → StandsOf SpellsInitList inits_depth d ts f
lift_stands d ts f h = part_stands (SeriesOf SpellsInit) (tallest init_depth) SpellsInitList inits_depth d d ts ts f inits_of (reaches_self ts)
    (λ a cut lt s. (cut, cut, series_inits (Some cut) a ts cut s, inl refl, inr (refl, refl))) (λ a. let e = inits_tall a in omega (arith, e)) h

-- The loop invariant.
abbrev pub InitLoop : ℕ → List Token → List Init → ℕ → List Token → Type 0
InitLoop d ts xs k cur = Going (CommaThen SpellsInit) (SeriesOf SpellsInit) EndsList init_depth d ts xs k cur

pub inits_first_fails : (d : ℕ) (ts : List Token) (f : Refusal) → FailsOf (SpellsInit None) EndsInit init_depth d ts f → FailsOf (SpellsInitList None) Anywhere
    inits_depth d ts f
inits_first_fails d ts f h = lift_fails d ts f (series_fails SpellsInit EndsList EndsInit init_depth d ts f list_follows comma_follows h)

pub inits_first_stands : (d : ℕ) (ts : List Token) (f : Refusal) → StandsOf SpellsInit init_depth d ts f → StandsOf SpellsInitList inits_depth d ts f
inits_first_stands d ts f h = lift_stands d ts f (series_first_stands SpellsInit EndsList EndsInit init_depth d ts f h)

pub inits_begin : (d : ℕ) (ts : List Token) (x : Init) (k : ℕ) (cur : List Token) → ReadsOf (SpellsInit None) EndsInit init_depth d ts x k cur →
    InitLoop d ts (x ∷ []) k cur
inits_begin d ts x k cur h = series_begins SpellsInit EndsList EndsInit init_depth d ts x k cur list_follows comma_follows init_is_begun
    (init_reaches x ts cur h.spelled) h

pub inits_more : (d : ℕ) (ts : List Token) (xs : List Init) (k : ℕ) (cur us : List Token) (x : Init) (j : ℕ) (next : List Token) (n : ℕ) → Goes cur us →
    InitLoop d ts xs k cur → ReadsOf (SpellsInit None) EndsInit init_depth d us x j next → n ≡ max k j → InitLoop d ts (xs ++ x ∷ []) n next
inits_more d ts xs k cur us x j next n g l h e = series_more SpellsInit EndsList EndsInit init_depth d ts xs k cur us g.0 x j next n (goes_on cur us g)
    list_follows comma_follows init_is_begun (init_reaches x us next h.spelled) g.1 l h e

pub inits_more_fails : (d : ℕ) (ts : List Token) (xs : List Init) (k : ℕ) (cur us : List Token) (f : Refusal) → Goes cur us → InitLoop d ts xs k cur →
    FailsOf (SpellsInit None) EndsInit init_depth d us f → FailsOf (SpellsInitList None) Anywhere inits_depth d ts f
inits_more_fails d ts xs k cur us f g l h = lift_fails d ts f (series_more_fails SpellsInit EndsList EndsInit init_depth d ts xs k cur us g.0 f
    (goes_on cur us g) list_follows comma_follows g.1 l h)

pub inits_more_stands : (d : ℕ) (ts : List Token) (xs : List Init) (k : ℕ) (cur us : List Token) (f : Refusal) → Goes cur us → InitLoop d ts xs k cur →
    StandsOf SpellsInit init_depth d us f → StandsOf SpellsInitList inits_depth d ts f
inits_more_stands d ts xs k cur us f g l h = lift_stands d ts f (series_more_stands SpellsInit EndsList EndsInit init_depth d ts xs k cur us g.0 f g.1 l h)

pub inits_stuck : (d : ℕ) (ts : List Token) (xs : List Init) (k : ℕ) (cur : List Token) (f : Refusal) → ((r : List Token) → Goes cur r → ⊥) →
    ((r : List Token) → Closes cur r → ⊥) → InitLoop d ts xs k cur → FailsOf (SpellsInitList None) Anywhere inits_depth d ts f
inits_stuck d ts xs k cur f no_comma no_end l = lift_fails d ts f (going_stuck (CommaThen SpellsInit) (SeriesOf SpellsInit) EndsList EndsInit init_depth d ts xs
    k cur f (λ us e. no_end e.0 e.1) (no_part cur no_comma) l)

pub inits_end : (d : ℕ) (ts : List Token) (xs : List Init) (k : ℕ) (cur rest : List Token) → ((r : List Token) → Goes cur r → ⊥) → Closes cur rest →
    InitLoop d ts xs k cur → ReadsOf (SpellsInitList None) Anywhere inits_depth d ts (inits_of xs) k rest
inits_end d ts xs k cur rest none c l = record {
  spelled = (cur, c.0, series_inits None xs ts cur h.spelled, c.2, inl (c.1, c.3));
  tall = h.tall ∙ sym (inits_tall xs);
  fits = h.fits;
  only = on;
}
  where
    h : ReadsOf (SeriesOf SpellsInit None) EndsList (tallest init_depth) d ts xs k cur
    h = going_ends (CommaThen SpellsInit) (SeriesOf SpellsInit) EndsList EndsInit init_depth d ts xs k cur (no_part cur none) l

    on : (y : Inits) (r : List Token) → SpellsInitList None y ts r → Anywhere y r → (y ≡ inits_of xs) × (r ≡ rest)
    on y r s en =
        let o = mark_own _ s.1 r s.4 in
        let u = h.only (list_of y) s.0 (inits_series None y ts s.0 s.2) (r, (s.1, o.0, s.3, o.1)) in
        (sym (inits_back y) ∙ ap inits_of u.0, closes_once cur r rest (subst (λ x. Closes x r) u.1 (s.1, o.0, s.3, o.1)) c)

-- ---- the initialiser of a declarator

pub initialiser_none : (d : ℕ) (ts : List Token) → d ≤ 256 → NotFront (kind.Punctuator sign.Assign) ts → ReadsOf (SpellsInitialiser None) EndsInitialiser
    option_init_depth d ts None 0 ts
initialiser_none d ts le none = record { spelled = refl; tall = refl; fits = omega (arith, le); only = on }
  where
    on : (y : Option Init) (r : List Token) → SpellsInitialiser None y ts r → EndsInitialiser y r → (y ≡ None) × (r ≡ ts)
    on None r s en = (refl, sym s)
    on (Some i) r s en = let o = mark_own _ ts s.0 s.1 in absurd (none o.0 s.0 o.1)

initialiser_front : (y : Option Init) (ts us r : List Token) (at : Pos) → Own (kind.Punctuator sign.Assign) at ts us → SpellsInitialiser None y ts r →
    EndsInitialiser y r → (i : Init) × SpellsInit None i us r × (y ≡ Some i)
initialiser_front None ts us r at own s en = absurd (stops_not _ at ts us (omega arith) (subst (Stops 1) (sym s) en) own)
initialiser_front (Some i) ts us r at own s en = let o = mark_own _ ts s.0 s.1 in let u = own_once _ o.0 at ts s.0 us o.1 own in
    (i, subst (λ x. SpellsInit None i x r) u.1 s.2, refl)

pub initialiser_fails : (d : ℕ) (ts us : List Token) (at : Pos) (f : Refusal) → Own (kind.Punctuator sign.Assign) at ts us → FailsOf (SpellsInit None) EndsInit
    init_depth d us f → FailsOf (SpellsInitialiser None) EndsInitialiser option_init_depth d ts f
initialiser_fails d ts us at f own h = part_fails (SpellsInit None) EndsInit init_depth (SpellsInitialiser None) EndsInitialiser option_init_depth d d ts us f
    (λ y r s en. let i = initialiser_front y ts us r at own s en in
    (i.0, r, i.1, en, subst (λ x. d + init_depth i.0 ≤ d + option_init_depth x) (sym i.2) (omega arith))) h

pub initialiser_stands : (d : ℕ) (ts us : List Token) (at : Pos) (f : Refusal) → Own (kind.Punctuator sign.Assign) at ts us → StandsOf SpellsInit init_depth d
    us f → StandsOf SpellsInitialiser option_init_depth d ts f
initialiser_stands d ts us at f own h = part_stands SpellsInit init_depth SpellsInitialiser option_init_depth d d ts us f Some (own_reaches _ at ts us own)
    (λ a cut lt s. (us, inl (at, own), s)) (λ a. omega arith) h

pub initialiser_reads : (d : ℕ) (ts us : List Token) (at : Pos) (i : Init) (k : ℕ) (rest : List Token) → Own (kind.Punctuator sign.Assign) at ts us →
    ReadsOf (SpellsInit None) EndsInit init_depth d us i k rest → ReadsOf (SpellsInitialiser None) EndsInitialiser option_init_depth d ts (Some i) k rest
initialiser_reads d ts us at i k rest own h = record {
  spelled = (us, inl (at, own), h.spelled);
  tall = h.tall;
  fits = h.fits;
  only = λ y r s en. let g = initialiser_front y ts us r at own s en in let u = h.only g.0 r g.1 en in (g.2 ∙ ap Some u.0, u.1);
}

-- the end of a braced list, with a comma and without
pub closes_comma : (ts us r : List Token) (at : Pos) → Own (kind.Punctuator sign.Comma) at ts us → (p : Pos) × Own (kind.Punctuator sign.BraceClose) p us r →
    Closes ts r
closes_comma ts us r at own h = (us, h.0, inr (at, own), h.1)

pub closes_bare : (ts r : List Token) → (p : Pos) × Own (kind.Punctuator sign.BraceClose) p ts r → Closes ts r
closes_bare ts r h = (ts, h.0, inl refl, h.1)

-- ---- the trees of the code's values

pub init_One : (e : Expr) → init_of (W.One e) ≡ one_init (tree_of e)
init_One e = search (rules, the_lemmas)

pub init_List : (at : Pos) (v : Vec Initialiser Global) → init_of (W.List at v) ≡ braced_init at (inits_of (map init_of v.items))
init_List at v = search (rules, the_lemmas)
