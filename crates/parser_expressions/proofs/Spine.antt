-- A tree of binary operators as its leftmost operand and the steps after it.
use Rattle.std.specs.Prelude.{None}
use Rattle.std.proofs.Common.{◌≡◌, ℕ, ◌+◌, ◌<◌, ◌≤◌, ◌⊎◌, inl, inr, List, [], ◌∷◌, refl, sym, ap, ◌∙◌, subst, ⊎_elim, arith}
use Rattle.std.proofs.lemmas.Bool.{cases_lt}
use Rattle.srcset.specs.declared.refusal.Pos.{Pos}
use Rattle.lexer.specs.declared.token.Token.{Token}
use Rattle.lexer.specs.declared.token.Kind.{Kind}
use Rattle.lexer.specs.declared.token.Kind.TheVariants as kind
use Rattle.lexer.specs.declared.token.Punctuator.TheVariants as sign
use Rattle.tree.specs.declared.expression.BinaryOp.{BinaryOp}
use Rattle.tree.specs.declared.expression.BinaryOp.TheVariants as binary_op
use Rattle.tree.specs.Tree.{Tree, hole, binary, conditional, assign}
use Rattle.tree.specs.Counts.{depth}
use Rattle.parser_grammar.specs.declared.refusal.Refusal.{Refusal}
use Rattle.parser_grammar.specs.declared.refusal.Refusal.TheVariants.{Syntax, Depth, Memory}
use Rattle.parser_grammar.specs.Expressions.{binary_sign, layer_of, layer, Spells}
use Rattle.parser_grammar.specs.Tokens.{Own, NotFront}
use Rattle.parser_grammar.specs.layer.Answer.{Excuses}
use Rattle.parser_expressions.specs.ExpressionAnswers.{sign_power, power, Stops, Front, Reads, Fails}
use Rattle.parser_grammar.proofs.Tokens.{no_hole, own_kind}

pub layer_of_most : (op : BinaryOp) → layer_of op ≤ 12
layer_of_most binary_op.Mul = omega arith
layer_of_most binary_op.Div = omega arith
layer_of_most binary_op.Rem = omega arith
layer_of_most binary_op.Add = omega arith
layer_of_most binary_op.Sub = omega arith
layer_of_most binary_op.ShiftLeft = omega arith
layer_of_most binary_op.ShiftRight = omega arith
layer_of_most binary_op.Less = omega arith
layer_of_most binary_op.Greater = omega arith
layer_of_most binary_op.LessEqual = omega arith
layer_of_most binary_op.GreaterEqual = omega arith
layer_of_most binary_op.Equal = omega arith
layer_of_most binary_op.NotEqual = omega arith
layer_of_most binary_op.BitAnd = omega arith
layer_of_most binary_op.BitXor = omega arith
layer_of_most binary_op.BitOr = omega arith
layer_of_most binary_op.And = omega arith
layer_of_most binary_op.Or = omega arith
layer_of_most binary_op.Comma = omega arith

pub power_sign : (op : BinaryOp) → sign_power (binary_sign op) ≡ layer_of op + 1
power_sign binary_op.Mul = refl
power_sign binary_op.Div = refl
power_sign binary_op.Rem = refl
power_sign binary_op.Add = refl
power_sign binary_op.Sub = refl
power_sign binary_op.ShiftLeft = refl
power_sign binary_op.ShiftRight = refl
power_sign binary_op.Less = refl
power_sign binary_op.Greater = refl
power_sign binary_op.LessEqual = refl
power_sign binary_op.GreaterEqual = refl
power_sign binary_op.Equal = refl
power_sign binary_op.NotEqual = refl
power_sign binary_op.BitAnd = refl
power_sign binary_op.BitXor = refl
power_sign binary_op.BitOr = refl
power_sign binary_op.And = refl
power_sign binary_op.Or = refl
power_sign binary_op.Comma = refl

-- the operator of a token
abbrev of_sign : Kind → BinaryOp
of_sign (kind.Punctuator sign.Star) = binary_op.Mul
of_sign (kind.Punctuator sign.Slash) = binary_op.Div
of_sign (kind.Punctuator sign.Percent) = binary_op.Rem
of_sign (kind.Punctuator sign.Plus) = binary_op.Add
of_sign (kind.Punctuator sign.Minus) = binary_op.Sub
of_sign (kind.Punctuator sign.ShiftLeft) = binary_op.ShiftLeft
of_sign (kind.Punctuator sign.ShiftRight) = binary_op.ShiftRight
of_sign (kind.Punctuator sign.Less) = binary_op.Less
of_sign (kind.Punctuator sign.Greater) = binary_op.Greater
of_sign (kind.Punctuator sign.LessEqual) = binary_op.LessEqual
of_sign (kind.Punctuator sign.GreaterEqual) = binary_op.GreaterEqual
of_sign (kind.Punctuator sign.EqualEqual) = binary_op.Equal
of_sign (kind.Punctuator sign.BangEqual) = binary_op.NotEqual
of_sign (kind.Punctuator sign.Ampersand) = binary_op.BitAnd
of_sign (kind.Punctuator sign.Caret) = binary_op.BitXor
of_sign (kind.Punctuator sign.Bar) = binary_op.BitOr
of_sign (kind.Punctuator sign.AndAnd) = binary_op.And
of_sign (kind.Punctuator sign.BarBar) = binary_op.Or
of_sign _ = binary_op.Comma

of_sign_sign : (op : BinaryOp) → of_sign (kind.Punctuator (binary_sign op)) ≡ op
of_sign_sign binary_op.Mul = refl
of_sign_sign binary_op.Div = refl
of_sign_sign binary_op.Rem = refl
of_sign_sign binary_op.Add = refl
of_sign_sign binary_op.Sub = refl
of_sign_sign binary_op.ShiftLeft = refl
of_sign_sign binary_op.ShiftRight = refl
of_sign_sign binary_op.Less = refl
of_sign_sign binary_op.Greater = refl
of_sign_sign binary_op.LessEqual = refl
of_sign_sign binary_op.GreaterEqual = refl
of_sign_sign binary_op.Equal = refl
of_sign_sign binary_op.NotEqual = refl
of_sign_sign binary_op.BitAnd = refl
of_sign_sign binary_op.BitXor = refl
of_sign_sign binary_op.BitOr = refl
of_sign_sign binary_op.And = refl
of_sign_sign binary_op.Or = refl
of_sign_sign binary_op.Comma = refl

pub sign_once : (a b : BinaryOp) → kind.Punctuator (binary_sign a) ≡ kind.Punctuator (binary_sign b) → a ≡ b
sign_once a b e = sym (of_sign_sign a) ∙ ap of_sign e ∙ of_sign_sign b

-- operators, each with its right operand
pub data Steps : Type 0 where
  no_steps : Steps
  step : (at : Pos) (op : BinaryOp) (r : Tree) (s : Steps) → Steps

abbrev pub grow : Tree → Steps → Tree
grow l no_steps = l
grow l (step at op r s) = grow (binary at op l r) s

-- each operator is looser than top, none is looser than min, nor tighter than the one before it
abbrev pub SpellsSteps : ℕ → ℕ → ℕ → Steps → List Token → List Token → Type 0
SpellsSteps top min most no_steps ts rest = ts ≡ rest
SpellsSteps top min most (step at op r s) ts rest = (t1 : List Token) × (t2 : List Token) × (min ≤ layer_of op) × (layer_of op ≤ most)
    × Own (kind.Punctuator (binary_sign op)) at ts t1 × (layer_of op < layer r) × Spells None r t1 t2 × SpellsSteps top min (layer_of op) s t2 rest
    × (layer_of op < top)

pub record Spine (top min : ℕ) (t : Tree) (ts rest : List Token) : Type 0 where
  pub head : Tree
  pub steps : Steps
  pub mid : List Token
  pub tight : top ≤ layer head
  pub spells : Spells None head ts mid
  pub after_head : SpellsSteps top min (layer head) steps mid rest
  pub whole : t ≡ grow head steps

abbrev snoc : Steps → Pos → BinaryOp → Tree → Steps
snoc no_steps at op r = step at op r no_steps
snoc (step a o b s) at op r = step a o b (snoc s at op r)

grow_snoc : (h : Tree) (s : Steps) (at : Pos) (op : BinaryOp) (r : Tree) → grow h (snoc s at op r) ≡ binary at op (grow h s) r
grow_snoc h no_steps at op r = refl
grow_snoc h (step a o b s) at op r = grow_snoc (binary a o h b) s at op r

spells_snoc : (top min : ℕ) (h : Tree) (s : Steps) (at : Pos) (op : BinaryOp) (r : Tree) (ts t1 t2 rest : List Token) → min ≤ layer_of op → layer_of op < top →
    layer_of op ≤ layer (grow h s) → Own (kind.Punctuator (binary_sign op)) at t1 t2 → layer_of op < layer r → Spells None r t2 rest →
    SpellsSteps top min (layer h) s ts t1 → SpellsSteps top min (layer h) (snoc s at op r) ts rest
spells_snoc top min h no_steps at op r ts t1 t2 rest lo hi le own lt sp h0 = (
  t2,
  rest,
  lo,
  le,
  subst (λ x. Own (kind.Punctuator (binary_sign op)) at x t2)
      (sym h0) own,
  lt,
  sp,
  refl,
  hi,
)
spells_snoc top min h (step a o b s) at op r ts t1 t2 rest lo hi le own lt sp h0 =
    (h0.0, h0.1, h0.2, h0.3, h0.4, h0.5, h0.6, spells_snoc top min (binary a o h b) s at op r h0.1 t1 t2 rest lo hi le own lt sp h0.7, h0.8)

alone : (top min : ℕ) (t : Tree) (ts rest : List Token) → top ≤ layer t → Spells None t ts rest → Spine top min t ts rest
alone top min t ts rest le h = record { head = t; steps = no_steps; mid = rest; tight = le; spells = h; after_head = refl; whole = refl }

-- the trees of a series of operators: those below a cast are binary, those below an assignment are commas
pub record Climbs (top min : ℕ) : Type 0 where
  pub upto : top ≤ 13
  pub below : min ≤ top
  pub gap : (3 ≤ min) ⊎ (top ≤ 1)

pub spine : (top min : ℕ) (t : Tree) (ts rest : List Token) → Climbs top min → min ≤ layer t → Spells None t ts rest → Spine top min t ts rest
spine top min (binary at op l r) ts rest cl lo h = ⊎_elim (λ lt.
    let i = spine top min l ts h.0 cl (omega (arith, lo, h.2)) h.3 in
    let w = subst (λ x. layer_of op ≤ layer x) i.whole h.2 in
    record {
      head = i.head;
      steps = snoc i.steps at op r;
      mid = i.mid;
      tight = i.tight;
      spells = i.spells;
      after_head = spells_snoc top min i.head i.steps at op r i.mid h.0 h.1 rest lo lt w h.4 h.5 h.6 i.after_head;
      whole = ap (λ x. binary at op x r) i.whole ∙ sym (grow_snoc i.head i.steps at op r);
    }) (λ le. alone top min _ ts rest le h) (cases_lt (layer_of op) top)
spine top min (conditional at c x y) ts rest cl lo h = ⊎_elim (λ g. absurd (omega (arith, g, lo))) (λ g. alone top min _ ts rest (omega (arith, g)) h) cl.gap
spine top min (assign at op l r) ts rest cl lo h = ⊎_elim (λ g. absurd (omega (arith, g, lo))) (λ g. alone top min _ ts rest (omega (arith, g)) h) cl.gap
spine top min hole ts rest cl lo h = absurd (no_hole h)
spine top min t ts rest cl lo h = alone top min _ ts rest (omega (arith, cl.upto)) h

pub stops_at : (n : ℕ) (k : Kind) (at : Pos) (ts rest : List Token) → Own k at ts rest → power k ≤ n → Stops n ts
stops_at n k at ts rest own le = subst (Stops n) (sym own) le

pub stops_more : (m n : ℕ) (ts : List Token) → m ≤ n → Stops m ts → Stops n ts
stops_more m n [] le h = omega arith
stops_more m n (t ∷ ts) le h = omega (arith, le, h)

-- an operand ends where the next step begins
pub steps_stop : (n top min most : ℕ) (s : Steps) (ts rest : List Token) → min ≤ n → ((op : BinaryOp) → layer_of op ≤ most → layer_of op < top →
    layer_of op < n) → SpellsSteps top min most s ts rest → Stops min rest → Stops n ts
steps_stop n top min most no_steps ts rest le lt h st = subst (Stops n) (sym h) (stops_more min n rest le st)
steps_stop n top min most (step at op r s) ts rest le lt h st = stops_at n (kind.Punctuator (binary_sign op)) at ts h.0 h.4
    (omega (arith, power_sign op, lt op h.3 h.8))

pub excuses_more : (f : Refusal) (a b j k : ℕ) → a + j ≤ b + k → Excuses f a j → Excuses f b k
excuses_more (Syntax at) a b j k le h = h
excuses_more (Depth at) a b j k le h = omega (arith, le, h)
excuses_more Memory a b j k le h = tt

pub grow_deeper : (h : Tree) (s : Steps) → depth h ≤ depth (grow h s)
grow_deeper h no_steps = omega arith
grow_deeper h (step at op r s) = let i = grow_deeper (binary at op h r) s in omega (arith, i)

not_more : (a b : ℕ) → (a + 1 ≤ b → ⊥) → b ≤ a
not_more a b h = ⊎_elim (λ lt. absurd (h (omega (arith, lt)))) (λ le. le) (cases_lt a b)

-- The invariant of a loop over the operators: left is read, and any tree that the tokens spell grows from it.
pub record Loop (top min d : ℕ) (ts : List Token) (left : Tree) (k : ℕ) (cur : List Token) : Type 0 where
  pub tight : min ≤ layer left
  pub spells : Spells None left ts cur
  pub height : k ≡ depth left
  pub fits : d + k ≤ 256
  pub next : (op : BinaryOp) (at : Pos) (mid : List Token) → layer_of op < top → Own (kind.Punctuator (binary_sign op)) at cur mid → layer_of op ≤ layer left
  pub only : (t : Tree) (r : List Token) → Front min t ts r → (s : Steps) × SpellsSteps top min (layer left) s cur r × (t ≡ grow left s)

pub loop_begins : (top min d : ℕ) (ts : List Token) (e : Tree) (k : ℕ) (rest : List Token) → Climbs top min → Reads top d ts e k rest →
    Loop top min d ts e k rest
loop_begins top min d ts e k rest cl h = record {
  tight = omega (arith, cl.below, h.tight);
  spells = h.spells;
  height = h.height;
  fits = h.fits;
  next = λ op at mid lt own. omega (arith, lt, h.tight);
  only = λ t r f.
      let sp = spine top min t ts r cl f.tight f.spells in
      let st = steps_stop top top min (layer sp.head) sp.steps sp.mid r cl.below (λ op le lt. lt) sp.after_head f.stops in
      let o = h.only sp.head sp.mid (record { tight = sp.tight; spells = sp.spells; stops = st }) in
      let a = subst (λ x. SpellsSteps top min (layer x) sp.steps sp.mid r) o.0 sp.after_head in
      (sp.steps, subst (λ x. SpellsSteps top min (layer e) sp.steps x r) o.1 a, sp.whole ∙ ap (λ x. grow x sp.steps) o.0);
}

-- where no operand is read, the tokens spell none of the operand's layer
pub loop_fails : (top min d : ℕ) (ts : List Token) (f : Refusal) → Climbs top min → Fails top d ts f → Fails min d ts f
loop_fails top min d ts f cl h = record {
  each = λ t r fr.
      let sp = spine top min t ts r cl fr.tight fr.spells in
      let st = steps_stop top top min (layer sp.head) sp.steps sp.mid r cl.below (λ op le lt. lt) sp.after_head fr.stops in
      let e = h.each sp.head sp.mid (record { tight = sp.tight; spells = sp.spells; stops = st }) in
      let deep = subst (λ x. depth sp.head ≤ depth x) (sym sp.whole) (grow_deeper sp.head sp.steps) in excuses_more f d d _ _ (omega (arith, deep)) e;
}

-- a step that begins with this operator
same_step : (cur mid t1 : List Token) (at a : Pos) (op o : BinaryOp) → Own (kind.Punctuator (binary_sign op)) at cur mid → Own (kind.Punctuator (binary_sign o))
    a cur t1 → (op ≡ o) × (at ≡ a) × (mid ≡ t1)
same_step cur mid t1 at a op o own other =
    let same = own_kind (kind.Punctuator (binary_sign o)) a (record { kind = kind.Punctuator (binary_sign op); pos = at }) mid t1
    (subst (λ y. Own (kind.Punctuator (binary_sign o)) a y t1) own other) in
    (sign_once op o same.0, same.1, same.2)

-- another operator
pub loop_goes_on : (top min d : ℕ) (ts cur mid : List Token) (left : Tree) (k : ℕ) (at : Pos) (op : BinaryOp) (e : Tree) (j : ℕ) (rest : List Token) →
    min ≤ layer_of op → layer_of op < top → Own (kind.Punctuator (binary_sign op)) at cur mid → Loop top min d ts left k cur → Reads (layer_of op + 1) (d + 1)
    mid e j rest → ((o : BinaryOp) → layer_of op + 1 ≤ layer_of o → layer_of o < top → NotFront (kind.Punctuator (binary_sign o)) rest) → d + 1 + k ≤ 256 →
    (m : ℕ) → m ≡ depth (binary at op left e) → Loop top min d ts (binary at op left e) m rest
loop_goes_on top min d ts cur mid left k at op e j rest lo hi own h r ends room m em = record {
  tight = lo;
  spells = (cur, mid, h.next op at mid hi own, h.spells, own, omega (arith, r.tight), r.spells);
  height = em;
  fits = omega (arith, em, room, h.height, r.height, r.fits);
  next = λ o a x lt ow. not_more (layer_of op) (layer_of o) (λ le. ends o le lt a x ow);
  only = λ t x f. let g = h.only t x f in next t x f g.0 g.1 g.2;
}
  where
    next : (t : Tree) (x : List Token) → Front min t ts x → (s : Steps) → SpellsSteps top min (layer left) s cur x → t ≡ grow left s → (s' : Steps)
        × SpellsSteps top min (layer_of op) s' rest x × (t ≡ grow (binary at op left e) s')
    next t x f no_steps g0 g1 =
        let st = subst (Stops min) (sym g0 ∙ own) f.stops in
        absurd (omega (arith, st, power_sign op, lo))
    next t x f (step a o b s) g0 g1 =
        let same = same_step cur mid g0.0 at a op o own g0.4 in
        let st = steps_stop (layer_of op + 1) top min (layer_of o) s g0.1 x (omega (arith, lo)) (λ q le lt. omega (arith, le, ap layer_of same.0)) g0.7 f.stops
        in
        let sp = subst (λ y. Spells None b y g0.1) (sym same.2) g0.6 in
        let u = r.only b g0.1 (record { tight = omega (arith, g0.5, ap layer_of same.0); spells = sp; stops = st }) in
        let a1 = subst (λ y. SpellsSteps top min (layer_of y) s g0.1 x) (sym same.0) g0.7 in (
          s,
          subst (λ y. SpellsSteps top min (layer_of op) s y x) u.1 a1,
          g1 ∙ ap (λ y. grow (binary y o left b) s) (sym same.1)
              ∙ ap (λ y. grow (binary at y left b) s) (sym same.0) ∙ ap (λ y. grow (binary at op left y) s) u.0,
        )

-- the loop ends where the front is no operator of the layer
pub loop_ends : (top min d : ℕ) (ts cur : List Token) (left : Tree) (k : ℕ) → ((op : BinaryOp) (at : Pos) (mid : List Token) → min ≤ layer_of op →
    layer_of op < top → Own (kind.Punctuator (binary_sign op)) at cur mid → ⊥) → Loop top min d ts left k cur → Reads min d ts left k cur
loop_ends top min d ts cur left k none h = record {
  tight = h.tight;
  spells = h.spells;
  height = h.height;
  fits = h.fits;
  only = λ t x f. let g = h.only t x f in ended t x g.0 g.1 g.2;
}
  where
    ended : (t : Tree) (x : List Token) → (s : Steps) → SpellsSteps top min (layer left) s cur x → t ≡ grow left s → (t ≡ left) × (x ≡ cur)
    ended t x no_steps g0 g1 = (g1, sym g0)
    ended t x (step a o b s) g0 g1 = absurd (none o a g0.0 g0.2 g0.8 g0.4)

-- where the front is an operator, some step begins with it
pub loop_operand : (top min d : ℕ) (ts cur mid : List Token) (left : Tree) (k : ℕ) (at : Pos) (op : BinaryOp) (f : Refusal) → min ≤ layer_of op →
    Own (kind.Punctuator (binary_sign op)) at cur mid → Loop top min d ts left k cur → Fails (layer_of op + 1) (d + 1) mid f → Fails min d ts f
loop_operand top min d ts cur mid left k at op f lo own h bad = record { each = λ t x fr. let g = h.only t x fr in next t x fr g.0 g.1 g.2 }
  where
    next : (t : Tree) (x : List Token) → Front min t ts x → (s : Steps) → SpellsSteps top min (layer left) s cur x → t ≡ grow left s → Excuses f d (depth t)
    next t x fr no_steps g0 g1 =
        let st = subst (Stops min) (sym g0 ∙ own) fr.stops in
        absurd (omega (arith, st, power_sign op, lo))
    next t x fr (step a o b s) g0 g1 =
        let same = same_step cur mid g0.0 at a op o own g0.4 in
        let st = steps_stop (layer_of op + 1) top min (layer_of o) s g0.1 x (omega (arith, lo)) (λ q le lt. omega (arith, le, ap layer_of same.0)) g0.7 fr.stops
        in
        let sp = subst (λ y. Spells None b y g0.1) (sym same.2) g0.6 in
        let e = bad.each b g0.1 (record { tight = omega (arith, g0.5, ap layer_of same.0); spells = sp; stops = st }) in
        let deep = subst (λ y. depth (binary a o left b) ≤ depth y) (sym g1) (grow_deeper (binary a o left b) s) in
        excuses_more f (d + 1) d _ _ (omega (arith, deep)) e

-- where the front is an operator and there is no room for its node
pub loop_full : (top min d : ℕ) (ts cur mid : List Token) (left : Tree) (k : ℕ) (at : Pos) (op : BinaryOp) (p : Pos) → min ≤ layer_of op →
    Own (kind.Punctuator (binary_sign op)) at cur mid → Loop top min d ts left k cur → 256 < d + 1 + k → Fails min d ts (Depth p)
loop_full top min d ts cur mid left k at op p lo own h full = record { each = λ t x fr. let g = h.only t x fr in next t x fr g.0 g.1 g.2 }
  where
    next : (t : Tree) (x : List Token) → Front min t ts x → (s : Steps) → SpellsSteps top min (layer left) s cur x → t ≡ grow left s → 256 < d + depth t
    next t x fr no_steps g0 g1 =
        let st = subst (Stops min) (sym g0 ∙ own) fr.stops in
        absurd (omega (arith, st, power_sign op, lo))
    next t x fr (step a o b s) g0 g1 =
        let deep = subst (λ y. depth (binary a o left b) ≤ depth y) (sym g1) (grow_deeper (binary a o left b) s) in
        omega (arith, deep, h.height, full)

-- ---- commas, and the operators below a cast

pub comma_climbs : Climbs 1 0
comma_climbs = record { upto = omega arith; below = omega arith; gap = inr (omega arith) }

pub cast_climbs : (min : ℕ) → 3 ≤ min → min ≤ 13 → Climbs 13 min
cast_climbs min lo hi = record { upto = omega arith; below = hi; gap = inl lo }

pub below_cast : (op : BinaryOp) → layer_of op < 13
below_cast op = omega (arith, layer_of_most op)

-- of the loosest layer there is the comma alone
pub comma_only : (op : BinaryOp) (ts : List Token) (at : Pos) (mid : List Token) → layer_of op < 1 → NotFront (kind.Punctuator sign.Comma) ts →
    Own (kind.Punctuator (binary_sign op)) at ts mid → ⊥
comma_only binary_op.Comma ts at mid lt none own = none at mid own
comma_only binary_op.Mul ts at mid lt none own = omega (arith, lt)
comma_only binary_op.Div ts at mid lt none own = omega (arith, lt)
comma_only binary_op.Rem ts at mid lt none own = omega (arith, lt)
comma_only binary_op.Add ts at mid lt none own = omega (arith, lt)
comma_only binary_op.Sub ts at mid lt none own = omega (arith, lt)
comma_only binary_op.ShiftLeft ts at mid lt none own = omega (arith, lt)
comma_only binary_op.ShiftRight ts at mid lt none own = omega (arith, lt)
comma_only binary_op.Less ts at mid lt none own = omega (arith, lt)
comma_only binary_op.Greater ts at mid lt none own = omega (arith, lt)
comma_only binary_op.LessEqual ts at mid lt none own = omega (arith, lt)
comma_only binary_op.GreaterEqual ts at mid lt none own = omega (arith, lt)
comma_only binary_op.Equal ts at mid lt none own = omega (arith, lt)
comma_only binary_op.NotEqual ts at mid lt none own = omega (arith, lt)
comma_only binary_op.BitAnd ts at mid lt none own = omega (arith, lt)
comma_only binary_op.BitXor ts at mid lt none own = omega (arith, lt)
comma_only binary_op.BitOr ts at mid lt none own = omega (arith, lt)
comma_only binary_op.And ts at mid lt none own = omega (arith, lt)
comma_only binary_op.Or ts at mid lt none own = omega (arith, lt)

pub drop_last : (n top : ℕ) (ts : List Token) → ((o : BinaryOp) → n ≤ layer_of o → NotFront (kind.Punctuator (binary_sign o)) ts) → (o : BinaryOp) →
    n ≤ layer_of o → layer_of o < top → NotFront (kind.Punctuator (binary_sign o)) ts
drop_last n top ts h o le lt = h o le
