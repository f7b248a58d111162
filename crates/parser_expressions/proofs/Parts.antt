-- Productions with several parts.
use Rattle.std.specs.Prelude.{None}
use Rattle.std.proofs.Common.{◌≡◌, ℕ, ◌+◌, ◌<◌, ◌≤◌, ◌⊎◌, inl, inr, List, refl, sym, ap, ◌∙◌, subst, ⊎_elim, arith}
use Rattle.srcset.specs.declared.refusal.Pos.{Pos}
use Rattle.ctypes.specs.declared.types.IntType.{IntType}
use Rattle.lexer.specs.declared.token.Token.{Token}
use Rattle.lexer.specs.declared.token.Kind.{Kind}
use Rattle.lexer.specs.declared.token.Kind.TheVariants as kind
use Rattle.lexer.specs.declared.token.Punctuator.TheVariants as sign
use Rattle.tree.specs.declared.expression.BinaryOp.{BinaryOp}
use Rattle.tree.specs.declared.expression.BinaryOp.TheVariants as binary_op
use Rattle.tree.specs.declared.expression.AssignOp.{AssignOp}
use Rattle.tree.specs.declared.expression.AssignOp.TheVariants as assign_op
use Rattle.tree.specs.Tree.{Tree, hole, identifier, constant, string, paren, call, binary, conditional, assign, Trees}
use Rattle.tree.specs.Counts.{depth, depths}
use Rattle.parser_grammar.specs.declared.refusal.Refusal.{Refusal}
use Rattle.parser_grammar.specs.declared.refusal.Refusal.TheVariants.{Depth}
use Rattle.parser_grammar.specs.Expressions.{assign_sign, layer_of, layer, Spells}
use Rattle.parser_grammar.specs.Tokens.{Own, NotFront}
use Rattle.parser_grammar.specs.layer.Answer.{ReadsOf, FailsOf, Anywhere}
use Rattle.parser_expressions.specs.ExpressionAnswers.{power, Stops, Front, Reads, Fails}
use Rattle.parser_grammar.proofs.Tokens.{no_hole, own_kind, own_once, own_kinds, mark_own}
use Rattle.parser_expressions.specs.inside.PartAnswers.{SpellsClosed}
use Rattle.parser_expressions.proofs.Spine.{layer_of_most, stops_at, stops_more, excuses_more}
use Rattle.parser_expressions.proofs.Productions.{assign_once, tags, never, wrap_fails}

layer_gap : (op : BinaryOp) → 1 ≤ layer_of op → 3 ≤ layer_of op
layer_gap binary_op.Comma le = absurd (omega (arith, le))
layer_gap binary_op.Mul le = omega arith
layer_gap binary_op.Div le = omega arith
layer_gap binary_op.Rem le = omega arith
layer_gap binary_op.Add le = omega arith
layer_gap binary_op.Sub le = omega arith
layer_gap binary_op.ShiftLeft le = omega arith
layer_gap binary_op.ShiftRight le = omega arith
layer_gap binary_op.Less le = omega arith
layer_gap binary_op.Greater le = omega arith
layer_gap binary_op.LessEqual le = omega arith
layer_gap binary_op.GreaterEqual le = omega arith
layer_gap binary_op.Equal le = omega arith
layer_gap binary_op.NotEqual le = omega arith
layer_gap binary_op.BitAnd le = omega arith
layer_gap binary_op.BitXor le = omega arith
layer_gap binary_op.BitOr le = omega arith
layer_gap binary_op.And le = omega arith
layer_gap binary_op.Or le = omega arith

-- the choice of two
choice_inverts : (t : Tree) → 2 ≤ layer t → (3 ≤ layer t) ⊎ ((o : Pos) × (a : Tree) × (b : Tree) × (c : Tree) × (t ≡ conditional o a b c))
choice_inverts (conditional o a b c) le = inr (o, a, b, c, refl)
choice_inverts (binary o p a b) le = inl (layer_gap p (omega (arith, le)))
choice_inverts (assign o p a b) le = absurd (omega (arith, le))
choice_inverts t le = inl (omega arith)

-- the test of a choice at the front
abbrev test_front : (o : Pos) (a b c : Tree) (ts r : List Token) → Spells None (conditional o a b c) ts r → (x : List Token) × (y : List Token) × Front 3 a ts x
    × Own (kind.Punctuator sign.Question) o x y
test_front o a b c ts r h = (
  h.0,
  h.1,
  record { tight = h.4; spells = h.5; stops = stops_at 3 (kind.Punctuator sign.Question) o h.0 h.1 h.6 (omega arith) },
  h.6,
)

pub cond_ends : (d : ℕ) (ts : List Token) (e : Tree) (k : ℕ) (cur : List Token) → NotFront (kind.Punctuator sign.Question) cur → Reads 3 d ts e k cur →
    Reads 2 d ts e k cur
cond_ends d ts e k cur none h = record {
  tight = omega (arith, h.tight);
  spells = h.spells;
  height = h.height;
  fits = h.fits;
  only = λ t r f. ⊎_elim (λ le. h.only t r (record { tight = le; spells = f.spells; stops = stops_more 2 3 r (omega arith) f.stops })) (λ i.
      let g = test_front i.0 i.1 i.2 i.3 ts r (subst (λ x. Spells None x ts r) i.4 f.spells) in
      let u = h.only i.1 g.0 g.2 in
      absurd (none i.0 g.1 (subst (λ x. Own (kind.Punctuator sign.Question) i.0 x g.1) u.1 g.3))) (choice_inverts t f.tight);
}

pub cond_fails : (d : ℕ) (ts : List Token) (x : Refusal) → Fails 3 d ts x → Fails 2 d ts x
cond_fails d ts x h = record {
  each = λ t r f. ⊎_elim (λ le. h.each t r (record { tight = le; spells = f.spells; stops = stops_more 2 3 r (omega arith) f.stops })) (λ i.
      let g = test_front i.0 i.1 i.2 i.3 ts r (subst (λ x. Spells None x ts r) i.4 f.spells) in
      let deep : depth i.1 ≤ depth t = subst (λ y. depth i.1 ≤ depth y) (sym i.4) (omega arith) in
      excuses_more x d d _ _ (omega (arith, deep)) (h.each i.1 g.0 g.2)) (choice_inverts t f.tight);
}

-- after the test and a question mark
pub after_test : (d : ℕ) (ts : List Token) (e : Tree) (k : ℕ) (cur us : List Token) (at : Pos) → Own (kind.Punctuator sign.Question) at cur us →
    Reads 3 d ts e k cur → (t : Tree) (r : List Token) → Front 2 t ts r → (b : Tree) × (c : Tree) × (x : List Token) × (y : List Token) × (q : Pos)
    × Front 0 b us x × Own (kind.Punctuator sign.Colon) q x y × Front 2 c y r × (t ≡ conditional at e b c)
after_test d ts e k cur us at own h t r f =
    ⊎_elim (λ le.
    let u = h.only t r (record { tight = le; spells = f.spells; stops = stops_more 2 3 r (omega arith) f.stops }) in
    let st : 3 ≤ 2 = subst (Stops 2) (u.1 ∙ own) f.stops in
    absurd (omega (arith, st))) (λ i.
    let sp = subst (λ x. Spells None x ts r) i.4 f.spells in
    let g = test_front i.0 i.1 i.2 i.3 ts r sp in
    let u = h.only i.1 g.0 g.2 in
    let e1 = own_once (kind.Punctuator sign.Question) i.0 at cur g.1 us (subst (λ x. Own (kind.Punctuator sign.Question) i.0 x g.1) u.1 g.3) own in
    let m = mark_own (kind.Punctuator sign.Colon) sp.2 sp.3 sp.8 in (
      i.2,
      i.3,
      sp.2,
      sp.3,
      m.0,
      record {
        tight = omega arith;
        spells = subst (λ x. Spells None i.2 x sp.2) e1.1 sp.7;
        stops = stops_at 0
            (kind.Punctuator sign.Colon) m.0 sp.2 sp.3 m.1 (omega arith);
      },
      m.1,
      record { tight = sp.9; spells = sp.10; stops = f.stops },
      i.4
          ∙ ap (λ x. conditional x i.1 i.2 i.3) e1.0 ∙ ap (λ x. conditional at x i.2 i.3) u.0,
    )) (choice_inverts t f.tight)

pub cond_full : (d : ℕ) (ts : List Token) (e : Tree) (k : ℕ) (cur us : List Token) (at p : Pos) → Own (kind.Punctuator sign.Question) at cur us →
    Reads 3 d ts e k cur → 256 < d + 1 + k → Fails 2 d ts (Depth p)
cond_full d ts e k cur us at p own h lt = record {
  each = λ t r f. let i = after_test d ts e k cur us at own h t r f in
      let deep : depth e + 1 ≤ depth t = subst (λ y. depth e + 1 ≤ depth y) (sym i.8) (omega arith) in omega (arith, deep, lt, h.height);
}

pub cond_yes_fails : (d : ℕ) (ts : List Token) (e : Tree) (k : ℕ) (cur us : List Token) (at : Pos) (x : Refusal) → Own (kind.Punctuator sign.Question) at cur us
    → Reads 3 d ts e k cur → Fails 0 (d + 1) us x → Fails 2 d ts x
cond_yes_fails d ts e k cur us at x own h bad = wrap_fails 2 0 d ts us x (λ t r f. let i = after_test d ts e k cur us at own h t r f in
    (i.0, i.2, i.5, subst (λ y. depth i.0 + 1 ≤ depth y) (sym i.8) (omega arith))) bad

pub cond_colon : (d n : ℕ) (ts : List Token) (e : Tree) (k : ℕ) (cur us : List Token) (at : Pos) (b : Tree) (j : ℕ) (mid : List Token) (x : Refusal) →
    Own (kind.Punctuator sign.Question) at cur us → Reads 3 d ts e k cur → Reads 0 n us b j mid → NotFront (kind.Punctuator sign.Colon) mid → Fails 2 d ts x
cond_colon d n ts e k cur us at b j mid x own h first none = never 2 d ts x (λ t r f. let i = after_test d ts e k cur us at own h t r f in
    let u = first.only i.0 i.2 i.5 in none i.4 i.3 (subst (λ y. Own (kind.Punctuator sign.Colon) i.4 y i.3) u.1 i.6))

pub cond_no_fails : (d n : ℕ) (ts : List Token) (e : Tree) (k : ℕ) (cur us : List Token) (at p : Pos) (b : Tree) (j : ℕ) (mid vs : List Token) (x : Refusal) →
    Own (kind.Punctuator sign.Question) at cur us → Reads 3 d ts e k cur → Reads 0 n us b j mid → Own (kind.Punctuator sign.Colon) p mid vs →
    Fails 2 (d + 1) vs x → Fails 2 d ts x
cond_no_fails d n ts e k cur us at p b j mid vs x own h first colon bad = wrap_fails 2 2 d ts vs x (λ t r f. let i = after_test d ts e k cur us at own h t r f
    in
    let u = first.only i.0 i.2 i.5 in
    let e2 = own_once (kind.Punctuator sign.Colon) i.4 p mid i.3 vs (subst (λ y. Own (kind.Punctuator sign.Colon) i.4 y i.3) u.1 i.6) colon in
    (i.1, r, subst (λ y. Front 2 i.1 y r) e2.1 i.7, subst (λ y. depth i.1 + 1 ≤ depth y) (sym i.8) (omega arith))) bad

pub cond_reads : (d n : ℕ) (ts : List Token) (e : Tree) (k : ℕ) (cur us : List Token) (at p : Pos) (b : Tree) (j : ℕ) (mid vs : List Token) (c : Tree) (l : ℕ)
    (rest : List Token) (m : ℕ) → Own (kind.Punctuator sign.Question) at cur us → Reads 3 d ts e k cur → Reads 0 n us b j mid → Own (kind.Punctuator sign.Colon)
    p mid vs → Reads 2 (d + 1) vs c l rest → d + 1 + k ≤ 256 → n ≡ d + 1 → m ≡ depth (conditional at e b c) → Reads 2 d ts (conditional at e b c) m rest
cond_reads d n ts e k cur us at p b j mid vs c l rest m own h first colon no_part room en em = record {
  tight = omega arith;
  spells = (cur, us, mid, vs, h.tight, h.spells, own, first.spells, inl (p, colon), no_part.tight, no_part.spells);
  height = em;
  fits = omega (arith, em, room, h.height, first.height, no_part.height, first.fits, no_part.fits, en);
  only = λ t r f. let i = after_test d ts e k cur us at own h t r f in
      let u = first.only i.0 i.2 i.5 in
      let e2 = own_once (kind.Punctuator sign.Colon) i.4 p mid i.3 vs (subst (λ y. Own (kind.Punctuator sign.Colon) i.4 y i.3) u.1 i.6) colon in
      let v = no_part.only i.1 r (subst (λ y. Front 2 i.1 y r) e2.1 i.7) in
      (i.8 ∙ ap (λ x. conditional at e x i.1) u.0 ∙ ap (λ x. conditional at e b x) v.0, v.1);
}

-- assignments
assign_inverts : (t : Tree) → 1 ≤ layer t → (2 ≤ layer t) ⊎ ((o : Pos) × (op : AssignOp) × (a : Tree) × (b : Tree) × (t ≡ assign o op a b))
assign_inverts (assign o op a b) le = inr (o, op, a, b, refl)
assign_inverts (binary o p a b) le = inl (omega (arith, layer_gap p le))
assign_inverts t le = inl (omega arith)

assign_power : (op : AssignOp) → power (kind.Punctuator (assign_sign op)) ≡ 2
assign_power assign_op.Plain = refl
assign_power assign_op.Mul = refl
assign_power assign_op.Div = refl
assign_power assign_op.Rem = refl
assign_power assign_op.Add = refl
assign_power assign_op.Sub = refl
assign_power assign_op.ShiftLeft = refl
assign_power assign_op.ShiftRight = refl
assign_power assign_op.BitAnd = refl
assign_power assign_op.BitXor = refl
assign_power assign_op.BitOr = refl

abbrev left_front : (o : Pos) (op : AssignOp) (a b : Tree) (ts r : List Token) → Spells None (assign o op a b) ts r → (x : List Token) × (y : List Token)
    × Front 2 a ts x × Own (kind.Punctuator (assign_sign op)) o x y
left_front o op a b ts r h = (
  h.0,
  h.1,
  record {
    tight = omega (arith, h.2);
    spells = h.3;
    stops = stops_at 2 (kind.Punctuator (assign_sign op)) o h.0 h.1 h.4
        (omega (arith, assign_power op));
  },
  h.4,
)

pub assign_ends : (d : ℕ) (ts : List Token) (e : Tree) (k : ℕ) (cur : List Token) → ((op : AssignOp) → NotFront (kind.Punctuator (assign_sign op)) cur) →
    Reads 2 d ts e k cur → Reads 1 d ts e k cur
assign_ends d ts e k cur none h = record {
  tight = omega (arith, h.tight);
  spells = h.spells;
  height = h.height;
  fits = h.fits;
  only = λ t r f. ⊎_elim (λ le. h.only t r (record { tight = le; spells = f.spells; stops = stops_more 1 2 r (omega arith) f.stops })) (λ i.
      let g = left_front i.0 i.1 i.2 i.3 ts r (subst (λ x. Spells None x ts r) i.4 f.spells) in
      let u = h.only i.2 g.0 g.2 in
      absurd (none i.1 i.0 g.1 (subst (λ x. Own (kind.Punctuator (assign_sign i.1)) i.0 x g.1) u.1 g.3))) (assign_inverts t f.tight);
}

pub assign_left_fails : (d : ℕ) (ts : List Token) (x : Refusal) → Fails 2 d ts x → Fails 1 d ts x
assign_left_fails d ts x h = record {
  each = λ t r f. ⊎_elim (λ le. h.each t r (record { tight = le; spells = f.spells; stops = stops_more 1 2 r (omega arith) f.stops })) (λ i.
      let g = left_front i.0 i.1 i.2 i.3 ts r (subst (λ x. Spells None x ts r) i.4 f.spells) in
      let deep : depth i.2 ≤ depth t = subst (λ y. depth i.2 ≤ depth y) (sym i.4) (omega arith) in
      excuses_more x d d _ _ (omega (arith, deep)) (h.each i.2 g.0 g.2)) (assign_inverts t f.tight);
}

pub after_left : (d : ℕ) (ts : List Token) (e : Tree) (k : ℕ) (cur us : List Token) (at : Pos) (op : AssignOp) → Own (kind.Punctuator (assign_sign op)) at cur
    us → Reads 2 d ts e k cur → (t : Tree) (r : List Token) → Front 1 t ts r → (b : Tree) × Front 1 b us r × (14 ≤ layer e) × (t ≡ assign at op e b)
after_left d ts e k cur us at op own h t r f =
    ⊎_elim (λ le.
    let u = h.only t r (record { tight = le; spells = f.spells; stops = stops_more 1 2 r (omega arith) f.stops }) in
    let st : power (kind.Punctuator (assign_sign op)) ≤ 1 = subst (Stops 1) (u.1 ∙ own) f.stops in
    absurd (omega (arith, st, assign_power op))) (λ i.
    let sp = subst (λ x. Spells None x ts r) i.4 f.spells in
    let g = left_front i.0 i.1 i.2 i.3 ts r sp in
    let u = h.only i.2 g.0 g.2 in
    let o2 = subst (λ x. Own (kind.Punctuator (assign_sign i.1)) i.0 x g.1) u.1 g.3 in
    let eo = assign_once i.1 op (own_kinds _ _ i.0 at cur g.1 us o2 own) in
    let e1 = own_once (kind.Punctuator (assign_sign op)) i.0 at cur g.1 us (subst (λ x. Own (kind.Punctuator (assign_sign x)) i.0 cur g.1) eo o2) own in (
      i.3,
      record { tight = sp.5; spells = subst (λ x. Spells None i.3 x r) e1.1 sp.6; stops = f.stops },
      subst (λ x. 14 ≤ layer x) u.0 sp.2,
      i.4
          ∙ ap (λ x. assign x i.1 i.2 i.3) e1.0 ∙ ap (λ x. assign at x i.2 i.3) eo ∙ ap (λ x. assign at op x i.3) u.0,
    )) (assign_inverts t f.tight)

pub assign_no_left : (d : ℕ) (ts : List Token) (e : Tree) (k : ℕ) (cur us : List Token) (at : Pos) (op : AssignOp) (x : Refusal) →
    Own (kind.Punctuator (assign_sign op)) at cur us → Reads 2 d ts e k cur → (14 ≤ layer e → ⊥) → Fails 1 d ts x
assign_no_left d ts e k cur us at op x own h none = never 1 d ts x (λ t r f. none (after_left d ts e k cur us at op own h t r f).2)

pub assign_full : (d : ℕ) (ts : List Token) (e : Tree) (k : ℕ) (cur us : List Token) (at p : Pos) (op : AssignOp) → Own (kind.Punctuator (assign_sign op)) at
    cur us → Reads 2 d ts e k cur → 256 < d + 1 + k → Fails 1 d ts (Depth p)
assign_full d ts e k cur us at p op own h lt = record {
  each = λ t r f. let i = after_left d ts e k cur us at op own h t r f in
      let deep : depth e + 1 ≤ depth t = subst (λ y. depth e + 1 ≤ depth y) (sym i.3) (omega arith) in omega (arith, deep, lt, h.height);
}

pub assign_right_fails : (d : ℕ) (ts : List Token) (e : Tree) (k : ℕ) (cur us : List Token) (at : Pos) (op : AssignOp) (x : Refusal) →
    Own (kind.Punctuator (assign_sign op)) at cur us → Reads 2 d ts e k cur → Fails 1 (d + 1) us x → Fails 1 d ts x
assign_right_fails d ts e k cur us at op x own h bad = wrap_fails 1 1 d ts us x (λ t r f. let i = after_left d ts e k cur us at op own h t r f in
    (i.0, r, i.1, subst (λ y. depth i.0 + 1 ≤ depth y) (sym i.3) (omega arith))) bad

pub assign_reads : (d : ℕ) (ts : List Token) (e : Tree) (k : ℕ) (cur us : List Token) (at : Pos) (op : AssignOp) (b : Tree) (j : ℕ) (rest : List Token) (m : ℕ)
    → Own (kind.Punctuator (assign_sign op)) at cur us → Reads 2 d ts e k cur → 14 ≤ layer e → Reads 1 (d + 1) us b j rest → d + 1 + k ≤ 256 →
    m ≡ depth (assign at op e b) → Reads 1 d ts (assign at op e b) m rest
assign_reads d ts e k cur us at op b j rest m own h le right room em = record {
  tight = omega arith;
  spells = (cur, us, le, h.spells, own, right.tight, right.spells);
  height = em;
  fits = omega (arith, em, room, h.height, right.height, right.fits);
  only = λ t r f. let i = after_left d ts e k cur us at op own h t r f in
      let u = right.only i.0 r i.1 in (i.3 ∙ ap (λ x. assign at op e x) u.0, u.1);
}

-- ---- leaves and calls

abbrev of_identifier : Kind → ℕ
of_identifier (kind.Identifier n) = n
of_identifier _ = 0

abbrev of_string : Kind → ℕ
of_string (kind.StringLiteral n) = n
of_string _ = 0

abbrev of_constant : Kind → ℕ
of_constant (kind.Constant ty n) = n
of_constant _ = 0

abbrev of_type : IntType → Kind → IntType
of_type t (kind.Constant ty n) = ty
of_type t _ = t

identifier_inverts : (t : Tree) (n : ℕ) (at : Pos) (ts us r : List Token) → Own (kind.Identifier n) at ts us → Front 16 t ts r →
    ((t ≡ identifier at n) × (r ≡ us)) ⊎ ((args : Trees) × (x : List Token) × (q : Pos) × Own (kind.Punctuator sign.ParenOpen) q us x
    × SpellsClosed None args x r × (t ≡ call at n args))
identifier_inverts (identifier o m) n at ts us r own f =
    let em : m ≡ n = ap of_identifier (own_kinds _ _ o at ts r us f.spells own) in
    let e = own_once (kind.Identifier n) o at ts r us (subst (λ x. Own (kind.Identifier x) o ts r) em f.spells) own in
    inl (ap (λ x. identifier x m) e.0 ∙ ap (λ x. identifier at x) em, e.1)
identifier_inverts (call o m args) n at ts us r own f =
    let h = f.spells in
    let em : m ≡ n = ap of_identifier (own_kinds _ _ o at ts h.0 us h.3 own) in
    let e = own_once (kind.Identifier n) o at ts h.0 us (subst (λ x. Own (kind.Identifier x) o ts h.0) em h.3) own in
    let m1 = mark_own (kind.Punctuator sign.ParenOpen) h.0 h.1 h.4 in
    inr (
      args,
      h.1,
      m1.0,
      subst (λ x. Own (kind.Punctuator sign.ParenOpen) m1.0 x h.1) e.1 m1.1,
      (h.2, h.5, h.6),
      ap (λ x. call x m args) e.0
          ∙ ap (λ x. call at x args) em,
    )
identifier_inverts hole n at ts us r own f = absurd (no_hole f.spells)
identifier_inverts (constant o ty m) n at ts us r own f = let e' : 1 ≡ 2 = tags _ _ at o ts us r own f.spells in absurd (omega (arith, e'))
identifier_inverts (string o m) n at ts us r own f = let e' : 1 ≡ 3 = tags _ _ at o ts us r own f.spells in absurd (omega (arith, e'))
identifier_inverts (paren e) n at ts us r own f = let e' : 1 ≡ 4 = tags _ _ at f.spells.2 ts us f.spells.0 own f.spells.3 in absurd (omega (arith, e'))
identifier_inverts (binary o p a b) n at ts us r own f = absurd (omega (arith, f.tight, layer_of_most p))
identifier_inverts t n at ts us r own f = absurd (omega (arith, f.tight))

pub identifier_reads : (d n : ℕ) (at : Pos) (ts us : List Token) → Own (kind.Identifier n) at ts us → NotFront (kind.Punctuator sign.ParenOpen) us → d < 256 →
    Reads 16 d ts (identifier at n) 1 us
identifier_reads d n at ts us own none lt = record {
  tight = omega arith;
  spells = own;
  height = refl;
  fits = omega (arith, lt);
  only = λ t r f. ⊎_elim (λ i. i) (λ i. absurd (none i.2 i.1 i.3)) (identifier_inverts t n at ts us r own f);
}

after_paren : (t : Tree) (n : ℕ) (at p : Pos) (ts us vs r : List Token) → Own (kind.Identifier n) at ts us → Own (kind.Punctuator sign.ParenOpen) p us vs →
    Front 16 t ts r → (args : Trees) × SpellsClosed None args vs r × (t ≡ call at n args)
after_paren t n at p ts us vs r own open_own f =
    ⊎_elim (λ i. let st : 17 ≤ 16 = subst (Stops 16) (i.1 ∙ open_own) f.stops in absurd (omega (arith, st))) (λ i.
    let e = own_once (kind.Punctuator sign.ParenOpen) i.2 p us i.1 vs i.3 open_own in (i.0, subst (λ x. SpellsClosed None i.0 x r) e.1 i.4, i.5))
    (identifier_inverts t n at ts us r own f)

pub call_reads : (d n : ℕ) (at p : Pos) (ts us vs : List Token) (es : Trees) (k : ℕ) (rest : List Token) → Own (kind.Identifier n) at ts us →
    Own (kind.Punctuator sign.ParenOpen) p us vs → ReadsOf (SpellsClosed None) Anywhere depths (d + 1) vs es k rest → Reads 16 d ts (call at n es) (k + 1) rest
call_reads d n at p ts us vs es k rest own op h = record {
  tight = omega arith;
  spells = (us, vs, h.spelled.0, own, inl (p, op), h.spelled.1, h.spelled.2);
  height = ap (λ x. x + 1) h.tall;
  fits = omega (arith, h.fits);
  only = λ t r f. let i = after_paren t n at p ts us vs r own op f in let u = h.only i.0 r i.1 tt in (i.2 ∙ ap (λ x. call at n x) u.0, u.1);
}

pub call_fails : (d n : ℕ) (at p : Pos) (ts us vs : List Token) (x : Refusal) → Own (kind.Identifier n) at ts us → Own (kind.Punctuator sign.ParenOpen) p us vs
    → FailsOf (SpellsClosed None) Anywhere depths (d + 1) vs x → Fails 16 d ts x
call_fails d n at p ts us vs x own op h = record {
  each = λ t r f. let i = after_paren t n at p ts us vs r own op f in
      let deep : depths i.0 + 1 ≤ depth t = subst (λ y. depths i.0 + 1 ≤ depth y) (sym i.2) (omega arith) in
      excuses_more x (d + 1) d _ _ (omega (arith, deep)) (h.each i.0 r i.1 tt);
}

constant_only : (t : Tree) (ty : IntType) (n : ℕ) (at : Pos) (ts us r : List Token) → Own (kind.Constant ty n) at ts us → Front 16 t ts r →
    (t ≡ constant at ty n) × (r ≡ us)
constant_only (constant o ty' m) ty n at ts us r own f =
    let k = own_kinds _ _ o at ts r us f.spells own in
    let et : ty' ≡ ty = ap (of_type ty) k in
    let em : m ≡ n = ap of_constant k in
    let e = own_kind (kind.Constant ty n) at (record { kind = kind.Constant ty' m; pos = o }) r us (sym f.spells ∙ own) in
    (ap (λ x. constant x ty' m) e.1 ∙ ap (λ x. constant at x m) et ∙ ap (λ x. constant at ty x) em, e.2)
constant_only hole ty n at ts us r own f = absurd (no_hole f.spells)
constant_only (identifier o m) ty n at ts us r own f = let e' : 2 ≡ 1 = tags _ _ at o ts us r own f.spells in absurd (omega (arith, e'))
constant_only (string o m) ty n at ts us r own f = let e' : 2 ≡ 3 = tags _ _ at o ts us r own f.spells in absurd (omega (arith, e'))
constant_only (call o m args) ty n at ts us r own f = let e' : 2 ≡ 1 = tags _ _ at o ts us f.spells.0 own f.spells.3 in absurd (omega (arith, e'))
constant_only (paren e) ty n at ts us r own f = let e' : 2 ≡ 4 = tags _ _ at f.spells.2 ts us f.spells.0 own f.spells.3 in absurd (omega (arith, e'))
constant_only (binary o p a b) ty n at ts us r own f = absurd (omega (arith, f.tight, layer_of_most p))
constant_only t ty n at ts us r own f = absurd (omega (arith, f.tight))

pub constant_reads : (d : ℕ) (ty : IntType) (n : ℕ) (at : Pos) (ts us : List Token) → Own (kind.Constant ty n) at ts us → d < 256 →
    Reads 16 d ts (constant at ty n) 1 us
constant_reads d ty n at ts us own lt = record {
  tight = omega arith;
  spells = own;
  height = refl;
  fits = omega (arith, lt);
  only = λ t r f. constant_only t ty n at ts us r own f;
}

string_only : (t : Tree) (n : ℕ) (at : Pos) (ts us r : List Token) → Own (kind.StringLiteral n) at ts us → Front 16 t ts r → (t ≡ string at n) × (r ≡ us)
string_only (string o m) n at ts us r own f =
    let e = own_kind (kind.StringLiteral n) at (record { kind = kind.StringLiteral m; pos = o }) r us (sym f.spells ∙ own) in
    let em : m ≡ n = ap of_string e.0 in
    (ap (λ x. string x m) e.1 ∙ ap (λ x. string at x) em, e.2)
string_only hole n at ts us r own f = absurd (no_hole f.spells)
string_only (identifier o m) n at ts us r own f = let e' : 3 ≡ 1 = tags _ _ at o ts us r own f.spells in absurd (omega (arith, e'))
string_only (constant o ty m) n at ts us r own f = let e' : 3 ≡ 2 = tags _ _ at o ts us r own f.spells in absurd (omega (arith, e'))
string_only (call o m args) n at ts us r own f = let e' : 3 ≡ 1 = tags _ _ at o ts us f.spells.0 own f.spells.3 in absurd (omega (arith, e'))
string_only (paren e) n at ts us r own f = let e' : 3 ≡ 4 = tags _ _ at f.spells.2 ts us f.spells.0 own f.spells.3 in absurd (omega (arith, e'))
string_only (binary o p a b) n at ts us r own f = absurd (omega (arith, f.tight, layer_of_most p))
string_only t n at ts us r own f = absurd (omega (arith, f.tight))

pub string_reads : (d n : ℕ) (at : Pos) (ts us : List Token) → Own (kind.StringLiteral n) at ts us → d < 256 → Reads 16 d ts (string at n) 1 us
string_reads d n at ts us own lt = record {
  tight = omega arith;
  spells = own;
  height = refl;
  fits = omega (arith, lt);
  only = λ t r f. string_only t n at ts us r own f;
}
