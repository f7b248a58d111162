-- Each production of the grammar: the tokens spell it, and no other tree.
use Rattle.std.specs.Prelude.{None, Result, Ok, Err}
use Rattle.std.specs.Result.{IsErrAnd}
use Rattle.std.proofs.Common.{◌≡◌, ℕ, ◌+◌, ◌≤◌, inl, List, [], ◌∷◌, refl, sym, ap, ◌∙◌, subst, arith}
use Rattle.srcset.specs.declared.refusal.Pos.{Pos}
use Rattle.ctypes.specs.declared.types.IntType.{IntType}
use Rattle.lexer.specs.declared.token.Token.{Token}
use Rattle.lexer.specs.declared.token.Kind.{Kind}
use Rattle.lexer.specs.declared.token.Kind.TheVariants as kind
use Rattle.lexer.specs.declared.token.Keyword.TheVariants as keyword
use Rattle.lexer.specs.declared.token.Punctuator.{Punctuator}
use Rattle.lexer.specs.declared.token.Punctuator.TheVariants as sign
use Rattle.tree.specs.declared.expression.PrefixOp.{PrefixOp}
use Rattle.tree.specs.declared.expression.PrefixOp.TheVariants as prefix_op
use Rattle.tree.specs.declared.expression.StepOp.{StepOp}
use Rattle.tree.specs.declared.expression.StepOp.TheVariants as step_op
use Rattle.tree.specs.declared.expression.AssignOp.{AssignOp}
use Rattle.tree.specs.declared.expression.AssignOp.TheVariants as assign_op
use Rattle.tree.specs.Tree.{Tree, hole, identifier, constant, string, paren, call, subscript, after, before, prefix, size_of, size_of_type, cast, binary, conditional, assign}
use Rattle.tree.specs.Counts.{depth}
use Rattle.parser_grammar.proofs.Exits.{passed_on}
use Rattle.parser_grammar.specs.declared.refusal.Refusal.{Refusal}
use Rattle.parser_grammar.specs.declared.refusal.Refusal.TheVariants.{Depth}
use Rattle.parser_expressions.specs.declared.expressions.BoxedPart.{BoxedPart}
use Rattle.parser_grammar.specs.Expressions.{prefix_sign, step_sign, assign_sign, layer, Spells}
use Rattle.parser_grammar.specs.Tokens.{Own, NotFront}
use Rattle.parser_expressions.specs.inside.PartAnswers.{AnswersBoxed}
use Rattle.parser_expressions.specs.ExpressionAnswers.{sign_power, power, Stops, Front, Reads, Fails, BeginsType}
use Rattle.parser_grammar.proofs.Tokens.{no_hole, own_once, own_kinds, mark_own}
use Rattle.parser_expressions.proofs.Leads.{whole_deep, whole_begins, begins_apart}
use Rattle.parser_expressions.specs.ExpressionLeads.{BeginsExpression}
use Rattle.parser_expressions.proofs.Spine.{layer_of_most, stops_at, stops_more, excuses_more}

abbrev pub tag : Kind → ℕ
tag (kind.Identifier n) = 1
tag (kind.Constant ty n) = 2
tag (kind.StringLiteral n) = 3
tag (kind.Punctuator sign.ParenOpen) = 4
tag (kind.Punctuator sign.PlusPlus) = 5
tag (kind.Punctuator sign.MinusMinus) = 5
tag (kind.Punctuator sign.Plus) = 6
tag (kind.Punctuator sign.Minus) = 6
tag (kind.Punctuator sign.Tilde) = 6
tag (kind.Punctuator sign.Bang) = 6
tag (kind.Keyword keyword.Sizeof) = 7
tag _ = 0

pub step_tag : (op : StepOp) → tag (kind.Punctuator (step_sign op)) ≡ 5
step_tag step_op.Increment = refl
step_tag step_op.Decrement = refl

pub prefix_tag : (op : PrefixOp) → tag (kind.Punctuator (prefix_sign op)) ≡ 6
prefix_tag prefix_op.Plus = refl
prefix_tag prefix_op.Minus = refl
prefix_tag prefix_op.Complement = refl
prefix_tag prefix_op.Not = refl

-- two tokens at one place have one tag
pub tags : (k l : Kind) (a b : Pos) (ts r s : List Token) → Own k a ts r → Own l b ts s → tag k ≡ tag l
tags k l a b ts r s p q = ap tag (own_kinds k l a b ts r s p q)

-- a postfix expression begins with a primary one
pub low_tag : (t : Tree) (k : Kind) (at : Pos) (ts us r : List Token) → 15 ≤ layer t → Own k at ts us → Spells None t ts r → tag k ≤ 4
low_tag hole k at ts us r le own h = absurd (no_hole h)
low_tag (identifier o n) k at ts us r le own h = omega (arith, tags _ _ at o ts us r own h)
low_tag (constant o ty n) k at ts us r le own h = omega (arith, tags _ _ at o ts us r own h)
low_tag (string o n) k at ts us r le own h = omega (arith, tags _ _ at o ts us r own h)
low_tag (paren e) k at ts us r le own h = omega (arith, tags _ _ at h.2 ts us h.0 own h.3)
low_tag (call o n args) k at ts us r le own h = omega (arith, tags _ _ at o ts us h.0 own h.3)
low_tag (subscript o a i) k at ts us r le own h = low_tag a k at ts us h.0 h.3 own h.4
low_tag (after o op a) k at ts us r le own h = low_tag a k at ts us h.0 h.1 own h.2
low_tag (binary o op a b) k at ts us r le own h = absurd (omega (arith, le, layer_of_most op))
low_tag t k at ts us r le own h = absurd (omega (arith, le))

abbrev of_step : Kind → StepOp
of_step (kind.Punctuator sign.PlusPlus) = step_op.Increment
of_step _ = step_op.Decrement

of_step_sign : (op : StepOp) → of_step (kind.Punctuator (step_sign op)) ≡ op
of_step_sign step_op.Increment = refl
of_step_sign step_op.Decrement = refl

pub step_once : (a b : StepOp) → kind.Punctuator (step_sign a) ≡ kind.Punctuator (step_sign b) → a ≡ b
step_once a b e = sym (of_step_sign a) ∙ ap of_step e ∙ of_step_sign b

abbrev of_prefix : Kind → PrefixOp
of_prefix (kind.Punctuator sign.Plus) = prefix_op.Plus
of_prefix (kind.Punctuator sign.Minus) = prefix_op.Minus
of_prefix (kind.Punctuator sign.Tilde) = prefix_op.Complement
of_prefix _ = prefix_op.Not

of_prefix_sign : (op : PrefixOp) → of_prefix (kind.Punctuator (prefix_sign op)) ≡ op
of_prefix_sign prefix_op.Plus = refl
of_prefix_sign prefix_op.Minus = refl
of_prefix_sign prefix_op.Complement = refl
of_prefix_sign prefix_op.Not = refl

prefix_once : (a b : PrefixOp) → kind.Punctuator (prefix_sign a) ≡ kind.Punctuator (prefix_sign b) → a ≡ b
prefix_once a b e = sym (of_prefix_sign a) ∙ ap of_prefix e ∙ of_prefix_sign b

abbrev of_assign : Kind → AssignOp
of_assign (kind.Punctuator sign.Assign) = assign_op.Plain
of_assign (kind.Punctuator sign.StarAssign) = assign_op.Mul
of_assign (kind.Punctuator sign.SlashAssign) = assign_op.Div
of_assign (kind.Punctuator sign.PercentAssign) = assign_op.Rem
of_assign (kind.Punctuator sign.PlusAssign) = assign_op.Add
of_assign (kind.Punctuator sign.MinusAssign) = assign_op.Sub
of_assign (kind.Punctuator sign.ShiftLeftAssign) = assign_op.ShiftLeft
of_assign (kind.Punctuator sign.ShiftRightAssign) = assign_op.ShiftRight
of_assign (kind.Punctuator sign.AmpersandAssign) = assign_op.BitAnd
of_assign (kind.Punctuator sign.CaretAssign) = assign_op.BitXor
of_assign _ = assign_op.BitOr

of_assign_sign : (op : AssignOp) → of_assign (kind.Punctuator (assign_sign op)) ≡ op
of_assign_sign assign_op.Plain = refl
of_assign_sign assign_op.Mul = refl
of_assign_sign assign_op.Div = refl
of_assign_sign assign_op.Rem = refl
of_assign_sign assign_op.Add = refl
of_assign_sign assign_op.Sub = refl
of_assign_sign assign_op.ShiftLeft = refl
of_assign_sign assign_op.ShiftRight = refl
of_assign_sign assign_op.BitAnd = refl
of_assign_sign assign_op.BitXor = refl
of_assign_sign assign_op.BitOr = refl

pub assign_once : (a b : AssignOp) → kind.Punctuator (assign_sign a) ≡ kind.Punctuator (assign_sign b) → a ≡ b
assign_once a b e = sym (of_assign_sign a) ∙ ap of_assign e ∙ of_assign_sign b

-- ---- results

pub full : (n d : ℕ) (ts : List Token) (at : Pos) → d ≡ 256 → Fails n d ts (Depth at)
full n d ts at e = record { each = λ t r f. let deep = whole_deep t ts r f.spells in omega (arith, deep, e) }

pub never : (n d : ℕ) (ts : List Token) (f : Refusal) → ((t : Tree) (r : List Token) → Front n t ts r → ⊥) → Fails n d ts f
never n d ts f no_front = record { each = λ t r fr. absurd (no_front t r fr) }

-- a failure of a part is one of the whole
pub wrap_fails : (n m d : ℕ) (ts us : List Token) (f : Refusal) → ((t : Tree) (r : List Token) → Front n t ts r → (a : Tree) × (x : List Token) × Front m a us x
    × (depth a + 1 ≤ depth t)) → Fails m (d + 1) us f → Fails n d ts f
wrap_fails n m d ts us f inv h = record {
  each = λ t r fr. let i = inv t r fr in excuses_more f (d + 1) d _ _ (omega (arith, i.3)) (h.each i.0 i.1 i.2);
}

-- a node above one part
pub wrap_reads : (n m d : ℕ) (ts us : List Token) (w : Tree → Tree) (e : Tree) (k : ℕ) (mid rest : List Token) → n ≤ layer (w e) → Spells None (w e) ts rest →
    depth (w e) ≡ depth e + 1 → ((t : Tree) (r : List Token) → Front n t ts r → (a : Tree) × (x : List Token) × Front m a us x × (t ≡ w a)
    × (x ≡ mid → r ≡ rest)) → Reads m (d + 1) us e k mid → Reads n d ts (w e) (k + 1) rest
wrap_reads n m d ts us w e k mid rest le sp dep inv h = record {
  tight = le;
  spells = sp;
  height = ap (λ x. x + 1) h.height ∙ sym dep;
  fits = omega (arith, h.fits);
  only = λ t r fr. let i = inv t r fr in let u = h.only i.0 i.1 i.2 in (i.3 ∙ ap w u.0, i.4 u.1);
}

-- a result at a tighter layer, where the tokens spell only trees of that layer
pub raise : (m n d : ℕ) (ts : List Token) (r : Result BoxedPart Refusal) → m ≤ n → ((t : Tree) (x : List Token) → Front m t ts x → n ≤ layer t) → AnswersBoxed n d ts r →
    AnswersBoxed m d ts r
raise m n d ts (Ok p) le up h = record {
  tight = omega (arith, le, h.tight);
  spells = h.spells;
  height = h.height;
  fits = h.fits;
  only = λ t x f. h.only t x (record { tight = up t x f; spells = f.spells; stops = stops_more m n x le f.stops });
}
raise m n d ts (Err f) le up h = record {
  each = λ t x fr. h.each t x (record { tight = up t x fr; spells = fr.spells; stops = stops_more m n x le fr.stops });
}

-- the exit of a `?`
pub pass : (n d : ℕ) (ts : List Token) (r : Result BoxedPart Refusal) (f : Refusal) → IsErrAnd r (λ e. e ≡ f) → Fails n d ts f → AnswersBoxed n d ts r
pass n d ts r f is h = passed_on (AnswersBoxed n d ts) r f is h

-- ---- a type in parentheses

-- no expression of layer 14 begins with a parenthesis and a type
pub no_type : (t : Tree) (at : Pos) (ts us r : List Token) → Own (kind.Punctuator sign.ParenOpen) at ts us → BeginsType us → 14 ≤ layer t → Spells None t ts r →
    ⊥
no_type hole at ts us r own b le h = no_hole h
no_type (identifier o n) at ts us r own b le h = let e : 4 ≡ 1 = tags _ _ at o ts us r own h in omega (arith, e)
no_type (constant o ty n) at ts us r own b le h = let e : 4 ≡ 2 = tags _ _ at o ts us r own h in omega (arith, e)
no_type (string o n) at ts us r own b le h = let e : 4 ≡ 3 = tags _ _ at o ts us r own h in omega (arith, e)
no_type (paren e) at ts us r own b le h =
    let same = own_once _ h.2 at ts h.0 us h.3 own in
    begins_apart us b (subst BeginsExpression same.1 (whole_begins e h.0 h.1 h.4))
no_type (call o n args) at ts us r own b le h = let e : 4 ≡ 1 = tags _ _ at o ts us h.0 own h.3 in omega (arith, e)
no_type (subscript o a i) at ts us r own b le h = no_type a at ts us h.0 own b (omega (arith, h.3)) h.4
no_type (after o op a) at ts us r own b le h = no_type a at ts us h.0 own b (omega (arith, h.1)) h.2
no_type (before o op a) at ts us r own b le h = omega (arith, step_tag op, tags _ _ at o ts us h.0 own h.1)
no_type (prefix o op a) at ts us r own b le h = omega (arith, prefix_tag op, tags _ _ at o ts us h.0 own h.1)
no_type (size_of o a) at ts us r own b le h = let e : 4 ≡ 7 = tags _ _ at o ts us h.0 own h.1 in omega (arith, e)
no_type (size_of_type o ty) at ts us r own b le h = let e : 4 ≡ 7 = tags _ _ at o ts us h.0 own h.3 in omega (arith, e)
no_type (binary o op a b) at ts us r own bt le h = omega (arith, le, layer_of_most op)
no_type t at ts us r own b le h = omega (arith, le)

-- ---- operators before their operand

pub before_inverts : (t : Tree) (op : StepOp) (at : Pos) (ts us r : List Token) → Own (kind.Punctuator (step_sign op)) at ts us → Front 14 t ts r → (a : Tree)
    × Front 14 a us r × (t ≡ before at op a)
before_inverts (before o p a) op at ts us r own f =
    let h = f.spells in
    let eo = step_once p op (own_kinds _ _ o at ts h.0 us h.1 own) in
    let e = own_once (kind.Punctuator (step_sign op)) o at ts h.0 us (subst (λ x. Own (kind.Punctuator (step_sign x)) o ts h.0) eo h.1) own in
    (a, record { tight = h.2; spells = subst (λ x. Spells None a x r) e.1 h.3; stops = f.stops }, ap (λ x. before x p a) e.0 ∙ ap (λ x. before at x a) eo)
before_inverts (prefix o p a) op at ts us r own f = absurd (omega (arith, step_tag op, prefix_tag p, tags _ _ at o ts us f.spells.0 own f.spells.1))
before_inverts (size_of o a) op at ts us r own f = absurd (omega (arith, step_tag op, tags _ _ at o ts us f.spells.0 own f.spells.1))
before_inverts (size_of_type o ty) op at ts us r own f = absurd (omega (arith, step_tag op, tags _ _ at o ts us f.spells.0 own f.spells.3))
before_inverts (cast o ty a) op at ts us r own f = absurd (omega (arith, f.tight))
before_inverts (binary o p a b) op at ts us r own f = absurd (omega (arith, f.tight, layer_of_most p))
before_inverts (conditional o a b c) op at ts us r own f = absurd (omega (arith, f.tight))
before_inverts (assign o p a b) op at ts us r own f = absurd (omega (arith, f.tight))
before_inverts t op at ts us r own f = absurd (omega (arith, step_tag op, low_tag t _ at ts us r (omega arith) own f.spells))

pub before_reads : (d : ℕ) (op : StepOp) (at : Pos) (ts us : List Token) (e : Tree) (k : ℕ) (rest : List Token) → Own (kind.Punctuator (step_sign op)) at ts us
    → Reads 14 (d + 1) us e k rest → Reads 14 d ts (before at op e) (k + 1) rest
before_reads d op at ts us e k rest own h =
    wrap_reads 14 14 d ts us (before at op) e k rest rest (omega arith) (us, own, h.tight, h.spells) refl
    (λ t r f. let i = before_inverts t op at ts us r own f in (i.0, r, i.1, i.2, λ w. w)) h

pub before_fails : (d : ℕ) (op : StepOp) (at : Pos) (ts us : List Token) (x : Refusal) → Own (kind.Punctuator (step_sign op)) at ts us → Fails 14 (d + 1) us x →
    Fails 14 d ts x
before_fails d op at ts us x own h =
    wrap_fails 14 14 d ts us x (λ t r f. let i = before_inverts t op at ts us r own f in
    (i.0, r, i.1, subst (λ y. depth i.0 + 1 ≤ depth y) (sym i.2) (omega arith))) h

-- no token continues an expression of layer 13 or 14 alone
sign_gap : (p : Punctuator) → sign_power p ≤ 14 → sign_power p ≤ 13
sign_gap sign.Question h = omega (arith, h)
sign_gap p h = omega (arith, h)

power_gap : (k : Kind) → power k ≤ 14 → power k ≤ 13
power_gap (kind.Punctuator p) h = sign_gap p h
power_gap k h = omega (arith, h)

pub stops_gap : (ts : List Token) → Stops 14 ts → Stops 13 ts
stops_gap [] h = omega arith
stops_gap (t ∷ ts) h = power_gap t.kind h

pub prefix_inverts : (t : Tree) (op : PrefixOp) (at : Pos) (ts us r : List Token) → Own (kind.Punctuator (prefix_sign op)) at ts us → Front 14 t ts r →
    (a : Tree) × Front 13 a us r × (t ≡ prefix at op a)
prefix_inverts (prefix o p a) op at ts us r own f =
    let h = f.spells in
    let eo = prefix_once p op (own_kinds _ _ o at ts h.0 us h.1 own) in
    let e = own_once (kind.Punctuator (prefix_sign op)) o at ts h.0 us (subst (λ x. Own (kind.Punctuator (prefix_sign x)) o ts h.0) eo h.1) own in (
      a,
      record { tight = h.2; spells = subst (λ x. Spells None a x r) e.1 h.3; stops = stops_gap r f.stops },
      ap (λ x. prefix x p a) e.0
          ∙ ap (λ x. prefix at x a) eo,
    )
prefix_inverts (before o p a) op at ts us r own f = absurd (omega (arith, prefix_tag op, step_tag p, tags _ _ at o ts us f.spells.0 own f.spells.1))
prefix_inverts (size_of o a) op at ts us r own f = absurd (omega (arith, prefix_tag op, tags _ _ at o ts us f.spells.0 own f.spells.1))
prefix_inverts (size_of_type o ty) op at ts us r own f = absurd (omega (arith, prefix_tag op, tags _ _ at o ts us f.spells.0 own f.spells.3))
prefix_inverts (cast o ty a) op at ts us r own f = absurd (omega (arith, f.tight))
prefix_inverts (binary o p a b) op at ts us r own f = absurd (omega (arith, f.tight, layer_of_most p))
prefix_inverts (conditional o a b c) op at ts us r own f = absurd (omega (arith, f.tight))
prefix_inverts (assign o p a b) op at ts us r own f = absurd (omega (arith, f.tight))
prefix_inverts t op at ts us r own f = absurd (omega (arith, prefix_tag op, low_tag t _ at ts us r (omega arith) own f.spells))

pub prefix_reads : (d : ℕ) (op : PrefixOp) (at : Pos) (ts us : List Token) (e : Tree) (k : ℕ) (rest : List Token) → Own (kind.Punctuator (prefix_sign op)) at ts
    us → Reads 13 (d + 1) us e k rest → Reads 14 d ts (prefix at op e) (k + 1) rest
prefix_reads d op at ts us e k rest own h =
    wrap_reads 14 13 d ts us (prefix at op) e k rest rest (omega arith) (us, own, h.tight, h.spells) refl
    (λ t r f. let i = prefix_inverts t op at ts us r own f in (i.0, r, i.1, i.2, λ w. w)) h

pub prefix_fails : (d : ℕ) (op : PrefixOp) (at : Pos) (ts us : List Token) (x : Refusal) → Own (kind.Punctuator (prefix_sign op)) at ts us →
    Fails 13 (d + 1) us x → Fails 14 d ts x
prefix_fails d op at ts us x own h =
    wrap_fails 14 13 d ts us x (λ t r f. let i = prefix_inverts t op at ts us r own f in
    (i.0, r, i.1, subst (λ y. depth i.0 + 1 ≤ depth y) (sym i.2) (omega arith))) h

-- where there is no prefix operator, a unary expression is a postfix one
pub no_prefix : (t : Tree) (ts r : List Token) → ((op : StepOp) → NotFront (kind.Punctuator (step_sign op)) ts) →
    ((op : PrefixOp) → NotFront (kind.Punctuator (prefix_sign op)) ts) → NotFront (kind.Keyword keyword.Sizeof) ts → Front 14 t ts r → 15 ≤ layer t
no_prefix (before o p a) ts r n1 n2 n3 f = absurd (n1 p o f.spells.0 f.spells.1)
no_prefix (prefix o p a) ts r n1 n2 n3 f = absurd (n2 p o f.spells.0 f.spells.1)
no_prefix (size_of o a) ts r n1 n2 n3 f = absurd (n3 o f.spells.0 f.spells.1)
no_prefix (size_of_type o ty) ts r n1 n2 n3 f = absurd (n3 o f.spells.0 f.spells.3)
no_prefix (cast o ty a) ts r n1 n2 n3 f = absurd (omega (arith, f.tight))
no_prefix (binary o op a b) ts r n1 n2 n3 f = absurd (omega (arith, f.tight, layer_of_most op))
no_prefix (conditional o a b c) ts r n1 n2 n3 f = absurd (omega (arith, f.tight))
no_prefix (assign o op a b) ts r n1 n2 n3 f = absurd (omega (arith, f.tight))
no_prefix t ts r n1 n2 n3 f = omega arith

-- ---- parentheses

pub paren_inverts : (t : Tree) (at : Pos) (ts us r : List Token) → Own (kind.Punctuator sign.ParenOpen) at ts us → Front 16 t ts r → (e : Tree)
    × (x : List Token) × (q : Pos) × Front 0 e us x × Own (kind.Punctuator sign.ParenClose) q x r × (t ≡ paren e)
paren_inverts (paren e) at ts us r own f =
    let h = f.spells in
    let e1 = own_once (kind.Punctuator sign.ParenOpen) h.2 at ts h.0 us h.3 own in
    let m = mark_own (kind.Punctuator sign.ParenClose) h.1 r h.5 in (
      e,
      h.1,
      m.0,
      record {
        tight = omega arith;
        spells = subst (λ x. Spells None e x h.1) e1.1 h.4;
        stops = stops_at 0 (kind.Punctuator sign.ParenClose) m.0 h.1
            r m.1 (omega arith);
      },
      m.1,
      refl,
    )
paren_inverts hole at ts us r own f = absurd (no_hole f.spells)
paren_inverts (identifier o n) at ts us r own f = let e' : 4 ≡ 1 = tags _ _ at o ts us r own f.spells in absurd (omega (arith, e'))
paren_inverts (constant o ty n) at ts us r own f = let e' : 4 ≡ 2 = tags _ _ at o ts us r own f.spells in absurd (omega (arith, e'))
paren_inverts (string o n) at ts us r own f = let e' : 4 ≡ 3 = tags _ _ at o ts us r own f.spells in absurd (omega (arith, e'))
paren_inverts (call o n args) at ts us r own f = let e' : 4 ≡ 1 = tags _ _ at o ts us f.spells.0 own f.spells.3 in absurd (omega (arith, e'))
paren_inverts (binary o p a b) at ts us r own f = absurd (omega (arith, f.tight, layer_of_most p))
paren_inverts t at ts us r own f = absurd (omega (arith, f.tight))

pub paren_reads : (d : ℕ) (at q : Pos) (ts us : List Token) (e : Tree) (k : ℕ) (mid rest : List Token) → Own (kind.Punctuator sign.ParenOpen) at ts us →
    Own (kind.Punctuator sign.ParenClose) q mid rest → Reads 0 (d + 1) us e k mid → Reads 16 d ts (paren e) (k + 1) rest
paren_reads d at q ts us e k mid rest own close h =
    wrap_reads 16 0 d ts us paren e k mid rest (omega arith) (us, mid, at, own, h.spells, inl (q, close)) refl (λ t r f.
    let i = paren_inverts t at ts us r own f in (
      i.0,
      i.1,
      i.3,
      i.5,
      λ w. (own_once (kind.Punctuator sign.ParenClose) i.2 q mid r rest (subst (λ y. Own (kind.Punctuator sign.ParenClose) i.2 y r) w i.4)
          close).1,
    )) h

pub paren_fails : (d : ℕ) (at : Pos) (ts us : List Token) (x : Refusal) → Own (kind.Punctuator sign.ParenOpen) at ts us → Fails 0 (d + 1) us x → Fails 16 d ts x
paren_fails d at ts us x own h =
    wrap_fails 16 0 d ts us x (λ t r f. let i = paren_inverts t at ts us r own f in
    (i.0, i.1, i.3, subst (λ y. depth i.0 + 1 ≤ depth y) (sym i.5) (omega arith))) h

pub paren_open : (d n : ℕ) (at : Pos) (ts us : List Token) (e : Tree) (k : ℕ) (mid : List Token) (x : Refusal) → Own (kind.Punctuator sign.ParenOpen) at ts us →
    Reads 0 n us e k mid → NotFront (kind.Punctuator sign.ParenClose) mid → Fails 16 d ts x
paren_open d n at ts us e k mid x own h none = never 16 d ts x (λ t r f.
    let i = paren_inverts t at ts us r own f in
    let u = h.only i.0 i.1 i.3 in
    none i.2 r (subst (λ y. Own (kind.Punctuator sign.ParenClose) i.2 y r) u.1 i.4))

-- a front that no primary expression has
pub no_primary : (t : Tree) (ts r : List Token) → ((n : ℕ) → NotFront (kind.Identifier n) ts) → ((ty : IntType) (n : ℕ) → NotFront (kind.Constant ty n) ts) →
    ((n : ℕ) → NotFront (kind.StringLiteral n) ts) → NotFront (kind.Punctuator sign.ParenOpen) ts → Front 16 t ts r → ⊥
no_primary hole ts r n1 n2 n3 n4 f = no_hole f.spells
no_primary (identifier o n) ts r n1 n2 n3 n4 f = n1 n o r f.spells
no_primary (constant o ty n) ts r n1 n2 n3 n4 f = n2 ty n o r f.spells
no_primary (string o n) ts r n1 n2 n3 n4 f = n3 n o r f.spells
no_primary (paren e) ts r n1 n2 n3 n4 f = n4 f.spells.2 f.spells.0 f.spells.3
no_primary (call o n args) ts r n1 n2 n3 n4 f = n1 n o f.spells.0 f.spells.3
no_primary (binary o p a b) ts r n1 n2 n3 n4 f = absurd (omega (arith, f.tight, layer_of_most p))
no_primary t ts r n1 n2 n3 n4 f = absurd (omega (arith, f.tight))
