-- Declarators.
use Rattle.std.specs.Prelude.{Option, None, Some, max}
use Rattle.std.proofs.Common.{◌≡◌, ℕ, ◌+◌, ◌≤◌, inl, inr, List, [], ◌∷◌, ◌++◌, refl, sym, ap, ◌∙◌, subst, arith}
use Rattle.srcset.specs.declared.refusal.Pos.{Pos}
use Rattle.lexer.specs.declared.token.Token.{Token}
use Rattle.lexer.specs.declared.token.Kind.{Kind}
use Rattle.lexer.specs.declared.token.Kind.TheVariants as kind
use Rattle.lexer.specs.declared.token.Punctuator.TheVariants as sign
use Rattle.tree.specs.Tree.{Tree, Init, ParameterTree, ItemTree, object, function}
use Rattle.tree.specs.Counts.{sizes_depth, option_init_depth, parameters_depth, item_depth, items_depth}
use Rattle.parser_grammar.specs.declared.refusal.Refusal.{Refusal}
use Rattle.parser_grammar.specs.declared.refusal.Refusal.TheVariants.{Depth}
use Rattle.parser_grammar.specs.declared.scope.Scope.{Scope}
use Rattle.parser_grammar.specs.declared.scope.Scope.TheVariants.{File}
use Rattle.parser_grammar.specs.Tokens.{Own, NotFront}
use Rattle.parser_grammar.specs.Declarations.{SpellsMoreOf, SpellsBounds, SpellsParameters, SpellsInitialiser, SpellsItem}
use Rattle.parser_grammar.specs.layer.Answer.{ReadsOf, FailsOf, StandsOf, Anywhere}
use Rattle.parser_expressions.specs.ExpressionAnswers.{Stops}
use Rattle.parser_declarations.specs.inside.SpecifierAnswers.{EndsBounds, SpellsParameterList}
use Rattle.parser_grammar.proofs.Tokens.{same_token, mark_own, reaches_self, reaches_on, own_reaches, own_once, own_kinds}
use Rattle.parser_declarations.specs.inside.InitAnswers.{EndsInitialiser}
use Rattle.parser_declarations.specs.inside.ItemAnswers.{EndsItem, SpellsFurther, SpellsItemList}
use Rattle.parser_grammar.proofs.Series.{tallest, CommaThen, Going, more_chain, chain_more, going_starts, going_more, going_fails, going_stuck, going_ends, going_stands, comma_reads, comma_fails, comma_stands, comma_is_begun}
use Rattle.parser_grammar.proofs.DeclarationBegun.{bounds_are_begun, bounds_reach, item_is_begun, item_reaches}
use Rattle.parser_expressions.proofs.PartFacts.{stops_own, stops_not, never_reads, part_fails, part_stands, full_fails, full_stands}

-- a declarator begins with its name
pub item_name : (scope : Scope) (y : ItemTree) (ts r : List Token) → SpellsItem None scope y ts r → (n : ℕ) × (at : Pos) × (us : List Token)
    × Own (kind.Identifier n) at ts us
item_name scope (object at n sizes i) ts r s = (n, at, s.0, s.2)
item_name scope (function at n ps) ts r s = (n, at, s.1.0, s.1.3)

pub item_none : (scope : Scope) (d : ℕ) (ts : List Token) (f : Refusal) → ((n : ℕ) → NotFront (kind.Identifier n) ts) → FailsOf (SpellsItem None scope) EndsItem
    item_depth d ts f
item_none scope d ts f none = never_reads (SpellsItem None scope) EndsItem item_depth d ts f (λ y r s en. let i = item_name scope y ts r s in
    none i.0 i.1 i.2 i.3)

item_tall : (y : ItemTree) → 1 ≤ item_depth y
item_tall (object at n sizes i) = omega arith
item_tall (function at n ps) = omega arith

pub item_full : (scope : Scope) (d : ℕ) (ts : List Token) (at : Pos) (f : Refusal) → f ≡ Depth at → d ≡ 256 → FailsOf (SpellsItem None scope) EndsItem
    item_depth d ts f
item_full scope d ts at f ef ed = full_fails (SpellsItem None scope) EndsItem item_depth d ts at f ef ed (λ y r s en. item_tall y)

pub item_full_stands : (scope : Scope) (d n : ℕ) (ts us : List Token) (at : Pos) (f : Refusal) → Own (kind.Identifier n) at ts us → f ≡ Depth at → d ≡ 256 →
    StandsOf (λ b. SpellsItem b scope) item_depth d ts f
item_full_stands scope d n ts us at f own ef ed = full_stands (λ b. SpellsItem b scope) item_depth d ts us _ at f (object at n [] None) ef ed own
    (us, us, own, refl, refl) (omega arith)

-- the number of a name
name_once : (n m : ℕ) (a b : Pos) (ts r s : List Token) → Own (kind.Identifier n) a ts r → Own (kind.Identifier m) b ts s → (n ≡ m) × (a ≡ b) × (r ≡ s)
name_once n m a b ts r s p q = let u = same_token _ _ a b ts r s p q in (ap number u.0, u.1, u.2)
  where
    number : Kind → ℕ
    number (kind.Identifier k) = k
    number _ = 0

-- ---- a function

-- no object's declarator precedes a parenthesis
object_no_paren : (sizes : List (Option Tree)) (i : Option Init) (us x r vs : List Token) (o : Pos) → Own (kind.Punctuator sign.ParenOpen) o us vs →
    SpellsBounds None sizes us x → SpellsInitialiser None i x r → Stops 1 r → ⊥
object_no_paren [] None us x r vs o own b s en = stops_not _ o us vs (omega arith) (subst (Stops 1) (sym (b ∙ s)) en) own
object_no_paren [] (Some i) us x r vs o own b s en = let m = mark_own _ x s.0 s.1 in let e = own_kinds _ _ m.0 o x s.0 vs m.1
    (subst (λ z. Own (kind.Punctuator sign.ParenOpen) o z vs) b own) in let e' : kind.Punctuator sign.Assign ≡ kind.Punctuator sign.ParenOpen = e in cc
object_no_paren (e ∷ es) i us x r vs o own b s en = let m = mark_own _ us b.0 b.3 in let e = own_kinds _ _ m.0 o us b.0 vs m.1 own in
    let e' : kind.Punctuator sign.BracketOpen ≡ kind.Punctuator sign.ParenOpen = e in cc

-- the parameters of the function that these tokens spell
function_front : (scope : Scope) (n : ℕ) (at o : Pos) (ts us vs : List Token) (y : ItemTree) (r : List Token) → Own (kind.Identifier n) at ts us →
    Own (kind.Punctuator sign.ParenOpen) o us vs → SpellsItem None scope y ts r → EndsItem y r → (ps : List ParameterTree) × SpellsParameterList None ps vs r
    × (y ≡ function at n ps)
function_front scope n at o ts us vs (object p m sizes i) r own par s en =
    let u = name_once m n p at ts s.0 us s.2 own in
    absurd (object_no_paren sizes i us s.1 r vs o par (subst (λ z. SpellsBounds None sizes z s.1) u.2 s.3) s.4 en)
function_front scope n at o ts us vs (function p m ps) r own par s en =
    let t = s.1 in
    let u = name_once m n p at ts t.0 us t.3 own in
    let q = mark_own _ t.0 t.1 t.4 in
    let v = own_once _ q.0 o us t.1 vs (subst (λ z. Own (kind.Punctuator sign.ParenOpen) q.0 z t.1) u.2 q.1) par in
    (ps, (t.2, subst (λ z. SpellsParameters None ps z t.2) v.1 t.5, t.6), ap (λ z. function z m ps) u.1 ∙ ap (λ z. function at z ps) u.0)

pub function_fails : (scope : Scope) (d n : ℕ) (at o : Pos) (ts us vs : List Token) (f : Refusal) → Own (kind.Identifier n) at ts us →
    Own (kind.Punctuator sign.ParenOpen) o us vs → FailsOf (SpellsParameterList None) Anywhere parameters_depth (d + 1) vs f → FailsOf (SpellsItem None scope)
    EndsItem item_depth d ts f
function_fails scope d n at o ts us vs f own par h = part_fails (SpellsParameterList None) Anywhere parameters_depth (SpellsItem None scope) EndsItem item_depth
    (d + 1) d ts vs f (λ y r s en. let i = function_front scope n at o ts us vs y r own par s en in
    (i.0, r, i.1, tt, subst (λ z. d + 1 + parameters_depth i.0 ≤ d + item_depth z) (sym i.2) (omega arith))) h

pub function_stands : (scope : Scope) (d n : ℕ) (at o : Pos) (ts us vs : List Token) (f : Refusal) → scope ≡ File → Own (kind.Identifier n) at ts us →
    Own (kind.Punctuator sign.ParenOpen) o us vs → StandsOf SpellsParameterList parameters_depth (d + 1) vs f → StandsOf (λ b. SpellsItem b scope) item_depth d
    ts f
function_stands scope d n at o ts us vs f file own par h = part_stands SpellsParameterList parameters_depth (λ b. SpellsItem b scope) item_depth (d + 1) d ts vs
    f (function at n) (reaches_on ts us vs (own_reaches _ at ts us own) (own_reaches _ o us vs par))
    (λ a cut lt s. (file, (us, vs, s.0, own, inl (o, par), s.1, s.2))) (λ a. omega arith) h

pub function_reads : (scope : Scope) (d n : ℕ) (at o : Pos) (ts us vs : List Token) (ps : List ParameterTree) (k : ℕ) (rest : List Token) → scope ≡ File →
    Own (kind.Identifier n) at ts us → Own (kind.Punctuator sign.ParenOpen) o us vs → ReadsOf (SpellsParameterList None) Anywhere parameters_depth (d + 1) vs ps
    k rest → ReadsOf (SpellsItem None scope) EndsItem item_depth d ts (function at n ps) (k + 1) rest
function_reads scope d n at o ts us vs ps k rest file own par h = record {
  spelled = (file, (us, vs, h.spelled.0, own, inl (o, par), h.spelled.1, h.spelled.2));
  tall = ap (λ x. x + 1) h.tall;
  fits = omega (arith, h.fits);
  only = λ y r s en. let i = function_front scope n at o ts us vs y r own par s en in let u = h.only i.0 r i.1 tt in (i.2 ∙ ap (function at n) u.0, u.1);
}

-- ---- an object

bounds_end : (i : Option Init) (x r : List Token) → SpellsInitialiser None i x r → Stops 1 r → NotFront (kind.Punctuator sign.BracketOpen) x
bounds_end None x r s en o w own = stops_not _ o x w (omega arith) (subst (Stops 1) (sym s) en) own
bounds_end (Some i) x r s en o w own = let m = mark_own _ x s.0 s.1 in let e = own_kinds _ _ m.0 o x s.0 w m.1 own in let e' : kind.Punctuator sign.Assign ≡
    kind.Punctuator sign.BracketOpen = e in cc

-- the parts of the object that these tokens spell
object_front : (scope : Scope) (n : ℕ) (at : Pos) (ts us : List Token) (y : ItemTree) (r : List Token) → Own (kind.Identifier n) at ts us →
    (scope ≡ File → NotFront (kind.Punctuator sign.ParenOpen) us) → SpellsItem None scope y ts r → EndsItem y r → (sizes : List (Option Tree))
    × (i : Option Init) × (x : List Token) × SpellsBounds None sizes us x × EndsBounds sizes x × SpellsInitialiser None i x r × (y ≡ object at n sizes i)
object_front scope n at ts us (object p m sizes i) r own none s en =
    let u = name_once m n p at ts s.0 us s.2 own in (
      sizes,
      i,
      s.1,
      subst (λ z. SpellsBounds None sizes z s.1) u.2 s.3,
      bounds_end i s.1 r s.4 en,
      s.4,
      ap (λ z. object z m sizes i) u.1
          ∙ ap (λ z. object at z sizes i) u.0,
    )
object_front scope n at ts us (function p m ps) r own none s en =
    let t = s.1 in
    let u = name_once m n p at ts t.0 us t.3 own in
    let q = mark_own _ t.0 t.1 t.4 in
    absurd (none s.0 q.0 t.1 (subst (λ z. Own (kind.Punctuator sign.ParenOpen) q.0 z t.1) u.2 q.1))

pub sizes_fail : (scope : Scope) (d n : ℕ) (at : Pos) (ts us : List Token) (f : Refusal) → Own (kind.Identifier n) at ts us →
    (scope ≡ File → NotFront (kind.Punctuator sign.ParenOpen) us) → FailsOf (SpellsBounds None) EndsBounds sizes_depth (d + 1) us f →
    FailsOf (SpellsItem None scope) EndsItem item_depth d ts f
sizes_fail scope d n at ts us f own none h = part_fails (SpellsBounds None) EndsBounds sizes_depth (SpellsItem None scope) EndsItem item_depth (d + 1) d ts us f
    (λ y r s en. let i = object_front scope n at ts us y r own none s en in
    (i.0, i.2, i.3, i.4, subst (λ z. d + 1 + sizes_depth i.0 ≤ d + item_depth z) (sym i.6) (omega arith))) h

pub sizes_stand : (scope : Scope) (d n : ℕ) (at : Pos) (ts us : List Token) (f : Refusal) → Own (kind.Identifier n) at ts us → StandsOf SpellsBounds sizes_depth
    (d + 1) us f → StandsOf (λ b. SpellsItem b scope) item_depth d ts f
sizes_stand scope d n at ts us f own h = part_stands SpellsBounds sizes_depth (λ b. SpellsItem b scope) item_depth (d + 1) d ts us f (λ es. object at n es None)
    (own_reaches _ at ts us own) (λ a cut lt s. (us, cut, own, s, refl)) (λ a. omega arith) h

pub value_fails : (scope : Scope) (d n : ℕ) (at : Pos) (ts us : List Token) (es : List (Option Tree)) (k : ℕ) (vs : List Token) (f : Refusal) →
    Own (kind.Identifier n) at ts us → (scope ≡ File → NotFront (kind.Punctuator sign.ParenOpen) us) → ReadsOf (SpellsBounds None) EndsBounds sizes_depth
    (d + 1) us es k vs → FailsOf (SpellsInitialiser None) EndsInitialiser option_init_depth (d + 1) vs f → FailsOf (SpellsItem None scope) EndsItem item_depth d
    ts f
value_fails scope d n at ts us es k vs f own none b h = part_fails (SpellsInitialiser None) EndsInitialiser option_init_depth (SpellsItem None scope) EndsItem
    item_depth (d + 1) d ts vs f (λ y r s en. let i = object_front scope n at ts us y r own none s en in let u = b.only i.0 i.2 i.3 i.4 in
    (i.1, r, subst (λ z. SpellsInitialiser None i.1 z r) u.1 i.5, en, subst (λ z. d + 1 + option_init_depth i.1 ≤ d + item_depth z) (sym i.6) (omega arith))) h

pub value_stands : (scope : Scope) (d n : ℕ) (at : Pos) (ts us : List Token) (es : List (Option Tree)) (k : ℕ) (vs : List Token) (f : Refusal) →
    Own (kind.Identifier n) at ts us → ReadsOf (SpellsBounds None) EndsBounds sizes_depth (d + 1) us es k vs → StandsOf SpellsInitialiser option_init_depth
    (d + 1) vs f → StandsOf (λ b. SpellsItem b scope) item_depth d ts f
value_stands scope d n at ts us es k vs f own b h = part_stands SpellsInitialiser option_init_depth (λ b. SpellsItem b scope) item_depth (d + 1) d ts vs f
    (object at n es) (reaches_on ts us vs (own_reaches _ at ts us own) (bounds_reach es us vs b.spelled))
    (λ a cut lt s. (us, vs, own, bounds_are_begun cut es us vs b.spelled, s)) (λ a. omega arith) h

pub object_reads : (scope : Scope) (d n : ℕ) (at : Pos) (ts us : List Token) (es : List (Option Tree)) (k : ℕ) (vs : List Token) (i : Option Init) (j : ℕ)
    (rest : List Token) (m : ℕ) → Own (kind.Identifier n) at ts us → (scope ≡ File → NotFront (kind.Punctuator sign.ParenOpen) us) →
    ReadsOf (SpellsBounds None) EndsBounds sizes_depth (d + 1) us es k vs → ReadsOf (SpellsInitialiser None) EndsInitialiser option_init_depth (d + 1) vs i j
    rest → m ≡ max k j → ReadsOf (SpellsItem None scope) EndsItem item_depth d ts (object at n es i) (m + 1) rest
object_reads scope d n at ts us es k vs i j rest m own none b h em = record {
  spelled = (us, vs, own, b.spelled, h.spelled);
  tall = omega (arith, em, b.tall, h.tall);
  fits = omega (arith, em, b.fits, h.fits);
  only = λ y r s en.
      let g = object_front scope n at ts us y r own none s en in
      let u = b.only g.0 g.2 g.3 g.4 in
      let v = h.only g.1 r (subst (λ z. SpellsInitialiser None g.1 z r) u.1 g.5) en in
      (g.6 ∙ ap (λ z. object at n z g.1) u.0 ∙ ap (object at n es) v.0, v.1);
}

-- ---- the declarators after the first

abbrev MoreOf : Scope → Option (List Token) → List ItemTree → List Token → List Token → Type 0
MoreOf scope b is ts r = SpellsMoreOf (SpellsItem b scope) b is ts r

abbrev EndsMore : List ItemTree → List Token → Type 0
EndsMore is rest = (at : Pos) × (r : List Token) × Own (kind.Punctuator sign.Semicolon) at rest r

items_tall : (is : List ItemTree) → items_depth is ≡ tallest item_depth is
items_tall [] = refl
items_tall (i ∷ is) = ap (max (item_depth i)) (items_tall is)

-- The loop invariant.
abbrev pub ItemLoop : Scope → ℕ → List Token → List ItemTree → ℕ → List Token → Type 0
ItemLoop scope d ts xs k cur = Going (CommaThen (λ b. SpellsItem b scope)) (MoreOf scope) EndsMore item_depth d ts xs k cur

further_lift_fails : (scope : Scope) (d : ℕ) (ts : List Token) (f : Refusal) → FailsOf (MoreOf scope None) EndsMore (tallest item_depth) d ts f →
    FailsOf (SpellsFurther None scope) Anywhere items_depth d ts f
further_lift_fails scope d ts f h = part_fails (MoreOf scope None) EndsMore (tallest item_depth) (SpellsFurther None scope) Anywhere items_depth d d ts ts f
    (λ y r s en. let o = mark_own _ s.0 r s.2 in (y, s.0, s.1, (o.0, r, o.1), let e = items_tall y in omega (arith, e))) h

further_lift_stands : (scope : Scope) (d : ℕ) (ts : List Token) (f : Refusal) → StandsOf (MoreOf scope) (tallest item_depth) d ts f →
    StandsOf (λ b. SpellsFurther b scope) items_depth d ts f
further_lift_stands scope d ts f h = part_stands (MoreOf scope) (tallest item_depth) (λ b. SpellsFurther b scope) items_depth d d ts ts f (λ is. is)
    (reaches_self ts) (λ a cut lt s. (cut, s, inr (refl, refl))) (λ a. let e = items_tall a in omega (arith, e)) h

pub further_starts : (scope : Scope) (d : ℕ) (ts : List Token) → d ≤ 256 → ItemLoop scope d ts [] 0 ts
further_starts scope d ts le = going_starts (CommaThen (λ b. SpellsItem b scope)) (MoreOf scope) EndsMore EndsItem item_depth d ts
    (λ m r s. chain_more (λ b. SpellsItem b scope) None m ts r s) (λ c m r s. chain_more (λ b. SpellsItem b scope) (Some c) m ts r s)
    (λ us r s. more_chain (λ b. SpellsItem b scope) None us ts r s) le

more_follows : (us : List ItemTree) (y : ItemTree) (r : List Token) → EndsMore us r → EndsItem y r
more_follows us y r e = stops_own _ e.0 r e.1 e.2 (omega arith)

comma_precedes : (scope : Scope) (y z : ItemTree) (t r : List Token) → CommaThen (λ b. SpellsItem b scope) None z t r → EndsItem y t
comma_precedes scope y z t r s = let o = mark_own _ t s.0 s.1 in stops_own _ o.0 t s.0 o.1 (omega arith)

-- before a comma the list does not end
more_stays : (cur us : List Token) (at : Pos) → Own (kind.Punctuator sign.Comma) at cur us → (xs : List ItemTree) → EndsMore xs cur → ⊥
more_stays cur us at own xs e = let w = own_kinds _ _ e.0 at cur e.1 us e.2 own in let w' : kind.Punctuator sign.Semicolon ≡ kind.Punctuator sign.Comma = w in
    cc

no_more : (scope : Scope) (cur : List Token) → NotFront (kind.Punctuator sign.Comma) cur → (y : ItemTree) (r : List Token) → CommaThen (λ b. SpellsItem b scope)
    None y cur r → ⊥
no_more scope cur none y r s = let o = mark_own _ cur s.0 s.1 in none o.0 s.0 o.1

pub further_more : (scope : Scope) (d : ℕ) (ts : List Token) (xs : List ItemTree) (k : ℕ) (cur us : List Token) (at : Pos) (x : ItemTree) (j : ℕ)
    (next : List Token) (n : ℕ) → Own (kind.Punctuator sign.Comma) at cur us → ItemLoop scope d ts xs k cur → ReadsOf (SpellsItem None scope) EndsItem
    item_depth d us x j next → n ≡ max k j → ItemLoop scope d ts (xs ++ x ∷ []) n next
further_more scope d ts xs k cur us at x j next n own l h e =
    going_more (CommaThen (λ b. SpellsItem b scope)) (MoreOf scope) EndsMore EndsItem item_depth d ts xs k cur x j next n (more_stays cur us at own)
    more_follows (comma_precedes scope) (comma_is_begun (λ b. SpellsItem b scope) EndsMore EndsItem item_depth (λ c y t r s. item_is_begun c scope y t r s))
    (reaches_on cur us next (own_reaches _ at cur us own) (item_reaches scope x us next h.spelled)) l
    (comma_reads (λ b. SpellsItem b scope) EndsMore EndsItem item_depth d cur us at x j next own h) e

pub further_fails : (scope : Scope) (d : ℕ) (ts : List Token) (xs : List ItemTree) (k : ℕ) (cur us : List Token) (at : Pos) (f : Refusal) →
    Own (kind.Punctuator sign.Comma) at cur us → ItemLoop scope d ts xs k cur → FailsOf (SpellsItem None scope) EndsItem item_depth d us f →
    FailsOf (SpellsFurther None scope) Anywhere items_depth d ts f
further_fails scope d ts xs k cur us at f own l h =
    further_lift_fails scope d ts f (going_fails (CommaThen (λ b. SpellsItem b scope)) (MoreOf scope) EndsMore EndsItem item_depth d ts xs k cur f
    (more_stays cur us at own) more_follows (comma_precedes scope) l (comma_fails (λ b. SpellsItem b scope) EndsMore EndsItem item_depth d cur us at f own
    h))

pub further_stands : (scope : Scope) (d : ℕ) (ts : List Token) (xs : List ItemTree) (k : ℕ) (cur us : List Token) (at : Pos) (f : Refusal) →
    Own (kind.Punctuator sign.Comma) at cur us → ItemLoop scope d ts xs k cur → StandsOf (λ b. SpellsItem b scope) item_depth d us f →
    StandsOf (λ b. SpellsFurther b scope) items_depth d ts f
further_stands scope d ts xs k cur us at f own l h =
    further_lift_stands scope d ts f (going_stands (CommaThen (λ b. SpellsItem b scope)) (MoreOf scope) EndsMore EndsItem item_depth d ts xs k cur f l
    (comma_stands (λ b. SpellsItem b scope) EndsMore EndsItem item_depth d cur us at f own h))

pub further_stuck : (scope : Scope) (d : ℕ) (ts : List Token) (xs : List ItemTree) (k : ℕ) (cur : List Token) (f : Refusal) →
    NotFront (kind.Punctuator sign.Comma) cur → NotFront (kind.Punctuator sign.Semicolon) cur → ItemLoop scope d ts xs k cur →
    FailsOf (SpellsFurther None scope) Anywhere items_depth d ts f
further_stuck scope d ts xs k cur f no_comma no_end l =
    further_lift_fails scope d ts f (going_stuck (CommaThen (λ b. SpellsItem b scope)) (MoreOf scope) EndsMore EndsItem item_depth d ts xs k cur f
    (λ us e. no_end e.0 e.1 e.2) (no_more scope cur no_comma) l)

pub further_reads : (scope : Scope) (d : ℕ) (ts : List Token) (xs : List ItemTree) (k : ℕ) (cur rest : List Token) (at : Pos) →
    NotFront (kind.Punctuator sign.Comma) cur → Own (kind.Punctuator sign.Semicolon) at cur rest → ItemLoop scope d ts xs k cur →
    ReadsOf (SpellsFurther None scope) Anywhere items_depth d ts xs k rest
further_reads scope d ts xs k cur rest at none own l = record {
  spelled = (cur, h.spelled, inl (at, own));
  tall = h.tall ∙ sym (items_tall xs);
  fits = h.fits;
  only = λ y r s en.
      let o = mark_own _ s.0 r s.2 in
      let u = h.only y s.0 s.1 (o.0, r, o.1) in
      (u.0, (own_once _ o.0 at cur r rest (subst (λ z. Own (kind.Punctuator sign.Semicolon) o.0 z r) u.1 o.1) own).1);
}
  where
    h : ReadsOf (MoreOf scope None) EndsMore (tallest item_depth) d ts xs k cur
    h = going_ends (CommaThen (λ b. SpellsItem b scope)) (MoreOf scope) EndsMore EndsItem item_depth d ts xs k cur (no_more scope cur none) l

-- ---- all of them

-- after an item the declaration can end
pub further_stops : (scope : Scope) (is : List ItemTree) (ts r : List Token) → SpellsFurther None scope is ts r → Stops 1 ts
further_stops scope [] ts r s = let o = mark_own _ s.0 r s.2 in stops_own _ o.0 ts r (subst (λ z. Own (kind.Punctuator sign.Semicolon) o.0 z r) (sym s.1) o.1)
    (omega arith)
further_stops scope (i ∷ is) ts r s = let t = s.1 in let o = mark_own _ ts t.0 t.2 in stops_own _ o.0 ts t.0 o.1 (omega arith)

pub items_none : (scope : Scope) (d : ℕ) (ts rest : List Token) (at : Pos) → d ≤ 256 → Own (kind.Punctuator sign.Semicolon) at ts rest →
    ReadsOf (SpellsItemList None scope) Anywhere items_depth d ts [] 0 rest
items_none scope d ts rest at le own = record { spelled = (ts, refl, inl (at, own)); tall = refl; fits = omega (arith, le); only = on }
  where
    on : (y : List ItemTree) (r : List Token) → SpellsItemList None scope y ts r → Anywhere y r → (y ≡ []) × (r ≡ rest)
    on [] r s en = let o = mark_own _ s.0 r s.2 in (
      refl,
      (own_once _ o.0 at ts r rest (subst (λ z. Own (kind.Punctuator sign.Semicolon) o.0 z r) (sym s.1) o.1)
          own).1,
    )
    on (i ∷ is) r s en = let t = s.1 in let n = item_name scope i ts t.0 t.1 in let w = own_kinds _ _ n.1 at ts n.2 rest n.3 own in
        let w' : kind.Identifier n.0 ≡ kind.Punctuator sign.Semicolon = w in cc

-- the first item and the others, where no semicolon comes first
pub items_front : (scope : Scope) (ts : List Token) → NotFront (kind.Punctuator sign.Semicolon) ts → (y : List ItemTree) (r : List Token) →
    SpellsItemList None scope y ts r → (i : ItemTree) × (is : List ItemTree) × (x : List Token) × SpellsItem None scope i ts x × EndsItem i x
    × SpellsFurther None scope is x r × (y ≡ i ∷ is)
items_front scope ts none [] r s = let o = mark_own _ s.0 r s.2 in absurd (none o.0 r (subst (λ z. Own (kind.Punctuator sign.Semicolon) o.0 z r) (sym s.1) o.1))
items_front scope ts none (i ∷ is) r s = let t = s.1 in (i, is, t.0, t.1, further_stops scope is t.0 r (s.0, t.2, s.2), (s.0, t.2, s.2), refl)

pub items_first_fails : (scope : Scope) (d : ℕ) (ts : List Token) (f : Refusal) → NotFront (kind.Punctuator sign.Semicolon) ts → FailsOf (SpellsItem None scope)
    EndsItem item_depth d ts f → FailsOf (SpellsItemList None scope) Anywhere items_depth d ts f
items_first_fails scope d ts f none h = part_fails (SpellsItem None scope) EndsItem item_depth (SpellsItemList None scope) Anywhere items_depth d d ts ts f
    (λ y r s en. let i = items_front scope ts none y r s in (i.0, i.2, i.3, i.4, subst (λ z. d + item_depth i.0 ≤ d + items_depth z) (sym i.6) (omega arith))) h

pub items_first_stands : (scope : Scope) (d : ℕ) (ts : List Token) (f : Refusal) → StandsOf (λ b. SpellsItem b scope) item_depth d ts f →
    StandsOf (λ b. SpellsItemList b scope) items_depth d ts f
items_first_stands scope d ts f h = part_stands (λ b. SpellsItem b scope) item_depth (λ b. SpellsItemList b scope) items_depth d d ts ts f (λ i. i ∷ [])
    (reaches_self ts) (λ a cut lt s. (cut, (cut, s, refl), inr (refl, refl))) (λ a. omega arith) h

pub items_further_fails : (scope : Scope) (d : ℕ) (ts : List Token) (i : ItemTree) (k : ℕ) (cur : List Token) (f : Refusal) →
    NotFront (kind.Punctuator sign.Semicolon) ts → ReadsOf (SpellsItem None scope) EndsItem item_depth d ts i k cur → FailsOf (SpellsFurther None scope)
    Anywhere items_depth d cur f → FailsOf (SpellsItemList None scope) Anywhere items_depth d ts f
items_further_fails scope d ts i k cur f none first h = part_fails (SpellsFurther None scope) Anywhere items_depth (SpellsItemList None scope) Anywhere
    items_depth d d ts cur f (λ y r s en. let g = items_front scope ts none y r s in let u = first.only g.0 g.2 g.3 g.4 in
    (g.1, r, subst (λ z. SpellsFurther None scope g.1 z r) u.1 g.5, tt, subst (λ z. d + items_depth g.1 ≤ d + items_depth z) (sym g.6) (omega arith))) h

pub items_further_stands : (scope : Scope) (d : ℕ) (ts : List Token) (i : ItemTree) (k : ℕ) (cur : List Token) (f : Refusal) → ReadsOf (SpellsItem None scope)
    EndsItem item_depth d ts i k cur → StandsOf (λ b. SpellsFurther b scope) items_depth d cur f → StandsOf (λ b. SpellsItemList b scope) items_depth d ts f
items_further_stands scope d ts i k cur f first h = part_stands (λ b. SpellsFurther b scope) items_depth (λ b. SpellsItemList b scope) items_depth d d ts cur f
    (λ is. i ∷ is) (item_reaches scope i ts cur first.spelled) (λ a cut lt s. (s.0, (cur, item_is_begun cut scope i ts cur first.spelled, s.1), s.2))
    (λ a. omega arith) h

pub items_read : (scope : Scope) (d : ℕ) (ts : List Token) (i : ItemTree) (k : ℕ) (cur : List Token) (is : List ItemTree) (j : ℕ) (rest : List Token) (m : ℕ) →
    NotFront (kind.Punctuator sign.Semicolon) ts → ReadsOf (SpellsItem None scope) EndsItem item_depth d ts i k cur → ReadsOf (SpellsFurther None scope)
    Anywhere items_depth d cur is j rest → m ≡ max k j → ReadsOf (SpellsItemList None scope) Anywhere items_depth d ts (i ∷ is) m rest
items_read scope d ts i k cur is j rest m none first h em = record {
  spelled = let s = h.spelled in (s.0, (cur, first.spelled, s.1), s.2);
  tall = omega (arith, em, first.tall, h.tall);
  fits = omega (arith, em, first.fits, h.fits);
  only = λ y r s en.
      let g = items_front scope ts none y r s in
      let u = first.only g.0 g.2 g.3 g.4 in
      let v = h.only g.1 r (subst (λ z. SpellsFurther None scope g.1 z r) u.1 g.5) tt in
      (g.6 ∙ ap (λ z. z ∷ g.1) u.0 ∙ ap (λ z. i ∷ z) v.0, v.1);
}
