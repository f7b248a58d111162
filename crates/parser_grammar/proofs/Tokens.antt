-- Tokens at the front of a list.
use Rattle.std.specs.Prelude.{None, Some}
use Rattle.std.proofs.Common.{◌≡◌, ◌<◌, inl, inr, List, [], ◌∷◌, ◌++◌, length, refl, sym, ap, ◌∙◌, arith, append_assoc}
use Rattle.srcset.specs.declared.refusal.Pos.{Pos}
use Rattle.lexer.specs.declared.token.Token.{Token}
use Rattle.lexer.specs.declared.token.Kind.{Kind}
use Rattle.parser_grammar.specs.Tokens.{Own, Mark, Reaches, NotFront}

pub no_hole : ⊥ → ⊥
no_hole e = e

-- ---- tokens

-- two tokens at the front of one list
pub own_kind : (k : Kind) (at : Pos) (t : Token) (ts rest : List Token) → Own k at (t ∷ ts) rest → (t.kind ≡ k) × (t.pos ≡ at) × (ts ≡ rest)
own_kind k at t ts rest h = (ap kind_at h, ap pos_at h, ap tail_at h)
  where
    kind_at : List Token → Kind
    kind_at [] = t.kind
    kind_at (u ∷ us) = u.kind

    pos_at : List Token → Pos
    pos_at [] = t.pos
    pos_at (u ∷ us) = u.pos

    tail_at : List Token → List Token
    tail_at [] = ts
    tail_at (u ∷ us) = us

-- one token at a place
pub own_once : (k : Kind) (a b : Pos) (ts r s : List Token) → Own k a ts r → Own k b ts s → (a ≡ b) × (r ≡ s)
own_once k a b ts r s p q = let h = own_kind k b (record { kind = k; pos = a }) r s (sym p ∙ q) in (h.1, h.2)

pub own_kinds : (k l : Kind) (a b : Pos) (ts r s : List Token) → Own k a ts r → Own l b ts s → k ≡ l
own_kinds k l a b ts r s p q = (own_kind l b (record { kind = k; pos = a }) r s (sym p ∙ q)).0

-- a mark of a whole tree is a token
pub mark_own : (k : Kind) (ts rest : List Token) → Mark None k ts rest → (at : Pos) × Own k at ts rest
mark_own k ts rest (inl h) = h
mark_own k ts rest (inr h) = absurd (no_hole h)

-- a token that is not at the front is no mark of a whole tree
pub mark_not : (k : Kind) (ts rest : List Token) → NotFront k ts → Mark None k ts rest → ⊥
mark_not k ts rest none h = let m = mark_own k ts rest h in none m.0 rest m.1

-- the same mark
pub mark_once : (k : Kind) (at : Pos) (ts us rest : List Token) → Own k at ts us → Mark None k ts rest → rest ≡ us
mark_once k at ts us rest own h = let m = mark_own k ts rest h in (own_once k m.0 at ts rest us m.1 own).1

pub mark_begun : (c : List Token) (k : Kind) (ts r : List Token) → Mark None k ts r → Mark (Some c) k ts r
mark_begun c k ts r (inl h) = inl h
mark_begun c k ts r (inr h) = absurd h

pub own_shorter : (k : Kind) (at : Pos) (ts rest : List Token) → Own k at ts rest → length rest < length ts
own_shorter k at ts rest h = omega (arith, ap length h)

pub mark_shorter : (k : Kind) (ts rest : List Token) → Mark None k ts rest → length rest < length ts
mark_shorter k ts rest h = let m = mark_own k ts rest h in own_shorter k m.0 ts rest m.1

-- ---- fronts

pub reaches_on : (ts us vs : List Token) → Reaches ts us → Reaches us vs → Reaches ts vs
reaches_on ts us vs a b = (a.0 ++ b.0, a.1 ∙ ap (λ x. a.0 ++ x) b.1 ∙ sym (append_assoc a.0 b.0 vs))

pub reaches_self : (ts : List Token) → Reaches ts ts
reaches_self ts = ([], refl)

pub own_reaches : (k : Kind) (at : Pos) (ts us : List Token) → Own k at ts us → Reaches ts us
own_reaches k at ts us h = (record { kind = k; pos = at } ∷ [], h)

pub own_last : (k : Kind) (at : Pos) (ts us : List Token) → Own k at ts us → Reaches ts (record { kind = k; pos = at } ∷ us)
own_last k at ts us h = ([], h)

pub mark_reaches : (k : Kind) (ts us : List Token) → Mark None k ts us → Reaches ts us
mark_reaches k ts us (inl h) = own_reaches k h.0 ts us h.1
mark_reaches k ts us (inr h) = absurd h

-- two tokens at one place
pub same_token : (k l : Kind) (a b : Pos) (ts r s : List Token) → Own k a ts r → Own l b ts s → (k ≡ l) × (a ≡ b) × (r ≡ s)
same_token k l a b ts r s p q = own_kind l b (record { kind = k; pos = a }) r s (sym p ∙ q)
