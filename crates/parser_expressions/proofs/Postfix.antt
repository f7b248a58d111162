-- A postfix expression as its primary one and the marks after it.
use Rattle.std.specs.Prelude.{None}
use Rattle.std.proofs.Common.{◌≡◌, ℕ, ◌+◌, ◌<◌, ◌≤◌, inl, List, refl, sym, ap, ◌∙◌, subst, arith}
use Rattle.srcset.specs.declared.refusal.Pos.{Pos}
use Rattle.lexer.specs.declared.token.Token.{Token}
use Rattle.lexer.specs.declared.token.Kind.{Kind}
use Rattle.lexer.specs.declared.token.Kind.TheVariants as kind
use Rattle.lexer.specs.declared.token.Punctuator.TheVariants as sign
use Rattle.tree.specs.declared.expression.StepOp.{StepOp}
use Rattle.tree.specs.declared.expression.StepOp.TheVariants as step_op
use Rattle.tree.specs.Tree.{Tree, hole, subscript, after, before, prefix, size_of, size_of_type, cast, binary, conditional, assign}
use Rattle.tree.specs.Counts.{depth}
use Rattle.parser_grammar.specs.declared.refusal.Refusal.{Refusal}
use Rattle.parser_grammar.specs.declared.refusal.Refusal.TheVariants.{Depth}
use Rattle.parser_grammar.specs.Expressions.{step_sign, layer, Spells}
use Rattle.parser_grammar.specs.Tokens.{Own, NotFront}
use Rattle.parser_expressions.specs.ExpressionAnswers.{sign_power, Stops, Front, Reads, Fails}
use Rattle.parser_grammar.proofs.Tokens.{no_hole, own_once, own_kinds, mark_own}
use Rattle.parser_expressions.proofs.Spine.{layer_of_most, stops_at, stops_more, excuses_more}
use Rattle.parser_expressions.proofs.Productions.{step_once, never}

-- the marks after an operand, each with its contents
pub data Marks : Type 0 where
  no_marks : Marks
  index_mark : (at : Pos) (i : Tree) (s : Marks) → Marks
  step_mark : (at : Pos) (op : StepOp) (s : Marks) → Marks

abbrev pub wrap : Tree → Marks → Tree
wrap l no_marks = l
wrap l (index_mark at i s) = wrap (subscript at l i) s
wrap l (step_mark at op s) = wrap (after at op l) s

abbrev pub SpellsMarks : Marks → List Token → List Token → Type 0
SpellsMarks no_marks ts rest = ts ≡ rest
SpellsMarks (index_mark at i s) ts rest = (t1 : List Token) × (t2 : List Token) × (t3 : List Token) × (q : Pos) × Own (kind.Punctuator sign.BracketOpen) at ts
    t1
    × Spells None i t1 t2 × Own (kind.Punctuator sign.BracketClose) q t2 t3 × SpellsMarks s t3 rest
SpellsMarks (step_mark at op s) ts rest = (t1 : List Token) × Own (kind.Punctuator (step_sign op)) at ts t1 × SpellsMarks s t1 rest

record Stem (t : Tree) (ts rest : List Token) : Type 0 where
  head : Tree
  marks : Marks
  mid : List Token
  tight : 16 ≤ layer head
  spells : Spells None head ts mid
  after_head : SpellsMarks marks mid rest
  whole : t ≡ wrap head marks

abbrev snoc_index : Marks → Pos → Tree → Marks
snoc_index no_marks at i = index_mark at i no_marks
snoc_index (index_mark a b s) at i = index_mark a b (snoc_index s at i)
snoc_index (step_mark a o s) at i = step_mark a o (snoc_index s at i)

abbrev snoc_step : Marks → Pos → StepOp → Marks
snoc_step no_marks at op = step_mark at op no_marks
snoc_step (index_mark a b s) at op = index_mark a b (snoc_step s at op)
snoc_step (step_mark a o s) at op = step_mark a o (snoc_step s at op)

wrap_index : (h : Tree) (s : Marks) (at : Pos) (i : Tree) → wrap h (snoc_index s at i) ≡ subscript at (wrap h s) i
wrap_index h no_marks at i = refl
wrap_index h (index_mark a b s) at i = wrap_index (subscript a h b) s at i
wrap_index h (step_mark a o s) at i = wrap_index (after a o h) s at i

wrap_step : (h : Tree) (s : Marks) (at : Pos) (op : StepOp) → wrap h (snoc_step s at op) ≡ after at op (wrap h s)
wrap_step h no_marks at op = refl
wrap_step h (index_mark a b s) at op = wrap_step (subscript a h b) s at op
wrap_step h (step_mark a o s) at op = wrap_step (after a o h) s at op

spells_index : (s : Marks) (at q : Pos) (i : Tree) (ts t1 t2 t3 rest : List Token) → SpellsMarks s ts t1 → Own (kind.Punctuator sign.BracketOpen) at t1 t2 →
    Spells None i t2 t3 → Own (kind.Punctuator sign.BracketClose) q t3 rest → SpellsMarks (snoc_index s at i) ts rest
spells_index no_marks at q i ts t1 t2 t3 rest h o1 sp o2 = (
  t2,
  t3,
  rest,
  q,
  subst (λ x. Own (kind.Punctuator sign.BracketOpen) at x t2) (sym h) o1,
  sp,
  o2,
  refl,
)
spells_index (index_mark a b s) at q i ts t1 t2 t3 rest h o1 sp o2 = (h.0, h.1, h.2, h.3, h.4, h.5, h.6, spells_index s at q i h.2 t1 t2 t3 rest h.7 o1 sp o2)
spells_index (step_mark a o s) at q i ts t1 t2 t3 rest h o1 sp o2 = (h.0, h.1, spells_index s at q i h.0 t1 t2 t3 rest h.2 o1 sp o2)

spells_step : (s : Marks) (at : Pos) (op : StepOp) (ts t1 rest : List Token) → SpellsMarks s ts t1 → Own (kind.Punctuator (step_sign op)) at t1 rest →
    SpellsMarks (snoc_step s at op) ts rest
spells_step no_marks at op ts t1 rest h own = (rest, subst (λ x. Own (kind.Punctuator (step_sign op)) at x rest) (sym h) own, refl)
spells_step (index_mark a b s) at op ts t1 rest h own = (h.0, h.1, h.2, h.3, h.4, h.5, h.6, spells_step s at op h.2 t1 rest h.7 own)
spells_step (step_mark a o s) at op ts t1 rest h own = (h.0, h.1, spells_step s at op h.0 t1 rest h.2 own)

stem : (t : Tree) (ts rest : List Token) → 15 ≤ layer t → Spells None t ts rest → Stem t ts rest
stem (subscript at a i) ts rest le h =
    let s = stem a ts h.0 h.3 h.4 in
    let m = mark_own (kind.Punctuator sign.BracketClose) h.2 rest h.7 in
    record {
      head = s.head;
      marks = snoc_index s.marks at i;
      mid = s.mid;
      tight = s.tight;
      spells = s.spells;
      after_head = spells_index s.marks at m.0 i s.mid h.0 h.1 h.2 rest s.after_head h.5 h.6 m.1;
      whole = ap (λ x. subscript at x i) s.whole ∙ sym (wrap_index s.head s.marks at i);
    }
stem (after at op a) ts rest le h =
    let s = stem a ts h.0 h.1 h.2 in
    record {
      head = s.head;
      marks = snoc_step s.marks at op;
      mid = s.mid;
      tight = s.tight;
      spells = s.spells;
      after_head = spells_step s.marks at op s.mid h.0 rest s.after_head h.3;
      whole = ap (λ x. after at op x) s.whole ∙ sym (wrap_step s.head s.marks at op);
    }
stem hole ts rest le h = absurd (no_hole h)
stem (binary at op a b) ts rest le h = absurd (omega (arith, le, layer_of_most op))
stem (before at op a) ts rest le h = absurd (omega (arith, le))
stem (prefix at op a) ts rest le h = absurd (omega (arith, le))
stem (size_of at a) ts rest le h = absurd (omega (arith, le))
stem (size_of_type at ty) ts rest le h = absurd (omega (arith, le))
stem (cast at ty a) ts rest le h = absurd (omega (arith, le))
stem (conditional at c a b) ts rest le h = absurd (omega (arith, le))
stem (assign at op a b) ts rest le h = absurd (omega (arith, le))
stem t ts rest le h = record { head = t; marks = no_marks; mid = rest; tight = omega arith; spells = h; after_head = refl; whole = refl }

step_power : (op : StepOp) → sign_power (step_sign op) ≡ 16
step_power step_op.Increment = refl
step_power step_op.Decrement = refl

-- an operand ends where its marks begin
marks_stop : (s : Marks) (ts rest : List Token) → SpellsMarks s ts rest → Stops 15 rest → Stops 16 ts
marks_stop no_marks ts rest h st = subst (Stops 16) (sym h) (stops_more 15 16 rest (omega arith) st)
marks_stop (index_mark at i s) ts rest h st = stops_at 16 (kind.Punctuator sign.BracketOpen) at ts h.0 h.4 (omega arith)
marks_stop (step_mark at op s) ts rest h st = stops_at 16 (kind.Punctuator (step_sign op)) at ts h.0 h.1 (omega (arith, step_power op))

abbrev mark_tag : Kind → ℕ
mark_tag (kind.Punctuator sign.BracketOpen) = 1
mark_tag (kind.Punctuator sign.PlusPlus) = 2
mark_tag (kind.Punctuator sign.MinusMinus) = 2
mark_tag _ = 0

step_mark_tag : (op : StepOp) → mark_tag (kind.Punctuator (step_sign op)) ≡ 2
step_mark_tag step_op.Increment = refl
step_mark_tag step_op.Decrement = refl

-- marks that begin with `++` or `--`
at_step : (cur mid : List Token) (at : Pos) (op : StepOp) → Own (kind.Punctuator (step_sign op)) at cur mid → (s : Marks) (r : List Token) → SpellsMarks s cur r
    → Stops 15 r → (s' : Marks) × SpellsMarks s' mid r × (s ≡ step_mark at op s')
at_step cur mid at op own no_marks r h st =
    let st' : sign_power (step_sign op) ≤ 15 = subst (Stops 15) (sym h ∙ own) st in absurd (omega (arith, st', step_power op))
at_step cur mid at op own (index_mark a i s) r h st =
    let e : mark_tag (kind.Punctuator (step_sign op)) ≡ 1 = ap mark_tag (own_kinds _ _ at a cur mid h.0 own h.4) in absurd (omega (arith, e, step_mark_tag op))
at_step cur mid at op own (step_mark a o s) r h st =
    let eo = step_once o op (own_kinds _ _ a at cur h.0 mid h.1 own) in
    let e = own_once (kind.Punctuator (step_sign op)) a at cur h.0 mid (subst (λ x. Own (kind.Punctuator (step_sign x)) a cur h.0) eo h.1) own in
    (s, subst (λ x. SpellsMarks s x r) e.1 h.2, ap (λ x. step_mark x o s) e.0 ∙ ap (λ x. step_mark at x s) eo)

-- marks that begin with a bracket
at_index : (cur us : List Token) (at : Pos) → Own (kind.Punctuator sign.BracketOpen) at cur us → (s : Marks) (r : List Token) → SpellsMarks s cur r → Stops 15 r
    → (i : Tree) × (s' : Marks) × (x : List Token) × (y : List Token) × (q : Pos) × Front 0 i us x × Own (kind.Punctuator sign.BracketClose) q x y
    × SpellsMarks s' y r × (s ≡ index_mark at i s')
at_index cur us at own no_marks r h st =
    let st' : 16 ≤ 15 = subst (Stops 15) (sym h ∙ own) st in absurd (omega (arith, st'))
at_index cur us at own (step_mark a o s) r h st =
    let e : 1 ≡ mark_tag (kind.Punctuator (step_sign o)) = ap mark_tag (own_kinds _ _ at a cur us h.0 own h.1) in absurd (omega (arith, e, step_mark_tag o))
at_index cur us at own (index_mark a i s) r h st =
    let e = own_once (kind.Punctuator sign.BracketOpen) a at cur h.0 us h.4 own in (
      i,
      s,
      h.1,
      h.2,
      h.3,
      record {
        tight = omega arith;
        spells = subst (λ x. Spells None i x h.1) e.1 h.5;
        stops = stops_at 0
            (kind.Punctuator sign.BracketClose) h.3 h.1 h.2 h.6 (omega arith);
      },
      h.6,
      h.7,
      ap (λ x. index_mark x i s) e.0,
    )

wrap_deeper : (h : Tree) (s : Marks) → depth h ≤ depth (wrap h s)
wrap_deeper h no_marks = omega arith
wrap_deeper h (index_mark at i s) = let j = wrap_deeper (subscript at h i) s in omega (arith, j)
wrap_deeper h (step_mark at op s) = let j = wrap_deeper (after at op h) s in omega (arith, j)

-- The loop invariant: left is read, and any tree that the tokens spell grows from it.
pub record Growing (d : ℕ) (ts : List Token) (left : Tree) (k : ℕ) (cur : List Token) : Type 0 where
  pub tight : 15 ≤ layer left
  pub spells : Spells None left ts cur
  pub height : k ≡ depth left
  pub fits : d + k ≤ 256
  pub only : (t : Tree) (r : List Token) → Front 15 t ts r → (s : Marks) × SpellsMarks s cur r × (t ≡ wrap left s)

pub growing_begins : (d : ℕ) (ts : List Token) (e : Tree) (k : ℕ) (rest : List Token) → Reads 16 d ts e k rest → Growing d ts e k rest
growing_begins d ts e k rest h = record {
  tight = omega (arith, h.tight);
  spells = h.spells;
  height = h.height;
  fits = h.fits;
  only = λ t r f.
      let s = stem t ts r f.tight f.spells in
      let st = marks_stop s.marks s.mid r s.after_head f.stops in
      let o = h.only s.head s.mid (record { tight = s.tight; spells = s.spells; stops = st }) in
      (s.marks, subst (λ x. SpellsMarks s.marks x r) o.1 s.after_head, s.whole ∙ ap (λ x. wrap x s.marks) o.0);
}

pub growing_none : (d : ℕ) (ts : List Token) (f : Refusal) → Fails 16 d ts f → Fails 15 d ts f
growing_none d ts f h = record {
  each = λ t r fr.
      let s = stem t ts r fr.tight fr.spells in
      let st = marks_stop s.marks s.mid r s.after_head fr.stops in
      let e = h.each s.head s.mid (record { tight = s.tight; spells = s.spells; stops = st }) in
      let deep = subst (λ x. depth s.head ≤ depth x) (sym s.whole) (wrap_deeper s.head s.marks) in excuses_more f d d _ _ (omega (arith, deep)) e;
}

-- another `++` or `--`
pub growing_step : (d : ℕ) (ts cur mid : List Token) (left : Tree) (k : ℕ) (at : Pos) (op : StepOp) (m : ℕ) → Own (kind.Punctuator (step_sign op)) at cur mid →
    Growing d ts left k cur → d + 1 + k ≤ 256 → m ≡ k + 1 → Growing d ts (after at op left) m mid
growing_step d ts cur mid left k at op m own h room em = record {
  tight = omega arith;
  spells = (cur, h.tight, h.spells, own);
  height = omega (arith, em, h.height);
  fits = omega (arith, em, room);
  only = λ t r f. let g = h.only t r f in let i = at_step cur mid at op own g.0 r g.1 f.stops in
      (i.0, i.1, g.2 ∙ ap (wrap left) i.2);
}

-- another index
pub growing_index : (d : ℕ) (ts cur us mid rest : List Token) (left : Tree) (k : ℕ) (at q : Pos) (e : Tree) (j m : ℕ) → Own (kind.Punctuator sign.BracketOpen)
    at cur us → Growing d ts left k cur → Reads 0 (d + 1) us e j mid → Own (kind.Punctuator sign.BracketClose) q mid rest → d + 1 + k ≤ 256 →
    m ≡ depth (subscript at left e) → Growing d ts (subscript at left e) m rest
growing_index d ts cur us mid rest left k at q e j m own h r close room em = record {
  tight = omega arith;
  spells = (cur, us, mid, h.tight, h.spells, own, r.spells, inl (q, close));
  height = em;
  fits = omega (arith, em, room, h.height, r.height, r.fits);
  only = λ t x f. let g = h.only t x f in
      let i = at_index cur us at own g.0 x g.1 f.stops in
      let u = r.only i.0 i.2 i.5 in
      let c = own_once (kind.Punctuator sign.BracketClose) i.4 q mid i.3 rest (subst (λ y. Own (kind.Punctuator sign.BracketClose) i.4 y i.3) u.1 i.6) close in
      (i.1, subst (λ y. SpellsMarks i.1 y x) c.1 i.7, g.2 ∙ ap (wrap left) i.8 ∙ ap (λ y. wrap (subscript at left y) i.1) u.0);
}

pub growing_ends : (d : ℕ) (ts cur : List Token) (left : Tree) (k : ℕ) → ((op : StepOp) → NotFront (kind.Punctuator (step_sign op)) cur) →
    NotFront (kind.Punctuator sign.BracketOpen) cur → Growing d ts left k cur → Reads 15 d ts left k cur
growing_ends d ts cur left k n1 n2 h = record {
  tight = h.tight;
  spells = h.spells;
  height = h.height;
  fits = h.fits;
  only = λ t r f. let g = h.only t r f in ended t r g.0 g.1 g.2;
}
  where
    ended : (t : Tree) (r : List Token) (s : Marks) → SpellsMarks s cur r → t ≡ wrap left s → (t ≡ left) × (r ≡ cur)
    ended t r no_marks g0 g1 = (g1, sym g0)
    ended t r (index_mark a i s) g0 g1 = absurd (n2 a g0.0 g0.4)
    ended t r (step_mark a o s) g0 g1 = absurd (n1 o a g0.0 g0.1)

-- no room for the next node
pub growing_step_full : (d : ℕ) (ts cur mid : List Token) (left : Tree) (k : ℕ) (at : Pos) (op : StepOp) (p : Pos) → Own (kind.Punctuator (step_sign op)) at cur
    mid → Growing d ts left k cur → 256 < d + 1 + k → Fails 15 d ts (Depth p)
growing_step_full d ts cur mid left k at op p own h lt = record {
  each = λ t r f. let g = h.only t r f in
      let i = at_step cur mid at op own g.0 r g.1 f.stops in
      let deep = subst (λ y. depth left + 1 ≤ depth y) (sym (g.2 ∙ ap (wrap left) i.2)) (wrap_deeper (after at op left) i.0) in
      omega (arith, deep, lt, h.height);
}

pub growing_index_full : (d : ℕ) (ts cur us : List Token) (left : Tree) (k : ℕ) (at p : Pos) → Own (kind.Punctuator sign.BracketOpen) at cur us →
    Growing d ts left k cur → 256 < d + 1 + k → Fails 15 d ts (Depth p)
growing_index_full d ts cur us left k at p own h lt = record {
  each = λ t r f. let g = h.only t r f in
      let i = at_index cur us at own g.0 r g.1 f.stops in
      let deep = subst (λ y. depth (subscript at left i.0) ≤ depth y) (sym (g.2 ∙ ap (wrap left) i.8)) (wrap_deeper (subscript at left i.0) i.1) in
      omega (arith, deep, lt, h.height);
}

pub growing_index_fails : (d : ℕ) (ts cur us : List Token) (left : Tree) (k : ℕ) (at : Pos) (x : Refusal) → Own (kind.Punctuator sign.BracketOpen) at cur us →
    Growing d ts left k cur → Fails 0 (d + 1) us x → Fails 15 d ts x
growing_index_fails d ts cur us left k at x own h bad = record {
  each = λ t r f. let g = h.only t r f in
      let i = at_index cur us at own g.0 r g.1 f.stops in
      let deep = subst (λ y. depth (subscript at left i.0) ≤ depth y) (sym (g.2 ∙ ap (wrap left) i.8)) (wrap_deeper (subscript at left i.0) i.1) in
      excuses_more x (d + 1) d _ _ (omega (arith, deep)) (bad.each i.0 i.2 i.5);
}

pub growing_index_open : (d n : ℕ) (ts cur us mid : List Token) (left : Tree) (k : ℕ) (at : Pos) (e : Tree) (j : ℕ) (x : Refusal) →
    Own (kind.Punctuator sign.BracketOpen) at cur us → Growing d ts left k cur → Reads 0 n us e j mid → NotFront (kind.Punctuator sign.BracketClose) mid →
    Fails 15 d ts x
growing_index_open d n ts cur us mid left k at e j x own h r none = never 15 d ts x (λ t y f. let g = h.only t y f in
    let i = at_index cur us at own g.0 y g.1 f.stops in
    let u = r.only i.0 i.2 i.5 in
    none i.4 i.3 (subst (λ z. Own (kind.Punctuator sign.BracketClose) i.4 z i.3) u.1 i.6))
