-- How a file ends, by its characters after phase 1 and by its bytes.
use Rattle.std.proofs.Common.{◌≡◌, ℕ, suc, ◌+◌, ◌-◌, eqb, ◌||◌, ◌&&◌, not, Bool, true, false, cond, List, [], ◌∷◌, length, refl, sym, ap, ◌∙◌, subst, arith, Option, None, Some, inl, inr}
use Rattle.std.specs.Prelude.{nat_eq}
use Rattle.std.specs.Cmp.Lexicographic.{pointwise}
use Rattle.std.specs.List.{ends_with}
use Rattle.std.proofs.lemmas.Bool.{cases_Bool, cases_lt, eqb-true, and_parts, and_right}
use Rattle.phases.specs.Text.{Char, trigraph, trigraph_at, is_return, phase1, is_splice, last_byte, ends_open, is_one_character, ends_spliced}
use Rattle.phases.proofs.PunctuatorTable.{turned, and_true}
use Rattle.phases.specs.inside.Ends.{bytes_end_spliced}

-- ---- a list by its first character after phase 1

abbrev OfTrigraph : (List ℕ → Type 0) → Type 0
OfTrigraph M = (t x : ℕ) (r : List ℕ) → trigraph t ≡ Some x → M r → M (63 ∷ 63 ∷ t ∷ r)

abbrev OfReturn : (List ℕ → Type 0) → Type 0
OfReturn M = (r : List ℕ) → M r → M (13 ∷ 10 ∷ r)

abbrev OfByte : (List ℕ → Type 0) → Type 0
OfByte M = (a : ℕ) (r : List ℕ) → trigraph_at a r ≡ None → is_return a r ≡ false → M r → M (a ∷ r)

record Cases (M : List ℕ → Type 0) : Type 0 where
  none : M []
  of_trigraph : OfTrigraph M
  of_return : OfReturn M
  of_byte : OfByte M

-- no trigraph comes first
no_trigraph_step : (M : List ℕ → Type 0) → Cases M → (a b : ℕ) (r : List ℕ) → trigraph_at a (b ∷ r) ≡ None → M r → M (b ∷ r) → M (a ∷ b ∷ r)
no_trigraph_step M c a b r h m n =
    elim (cases_Bool (eqb a 13 && eqb b 10)) [
      | inl t ↦ (let p = and_parts (eqb a 13) (eqb b 10) t in subst (λ x. M (x ∷ b ∷ r)) (sym (eqb-true a 13 p.0)) (subst (λ y. M (13 ∷ y ∷ r)) (sym (eqb-true b 10 p.1)) (c.of_return r m)))
      | inr f ↦ c.of_byte a (b ∷ r) h f n
    ]

trigraph_step : (M : List ℕ → Type 0) → Cases M → (t : ℕ) (r : List ℕ) (o : Option ℕ) → trigraph t ≡ o → M r → M (t ∷ r) → M (63 ∷ t ∷ r) → M (63 ∷ 63 ∷ t ∷ r)
trigraph_step M c t r (Some x) e m n k = c.of_trigraph t x r e m
trigraph_step M c t r None e m n k = c.of_byte 63 (63 ∷ t ∷ r) e refl k

three_step : (M : List ℕ → Type 0) → Cases M → (a b t : ℕ) (r : List ℕ) → M r → M (t ∷ r) → M (b ∷ t ∷ r) → M (a ∷ b ∷ t ∷ r)
three_step M c a b t r m n k =
    elim (cases_Bool (eqb a 63 && eqb b 63)) [
      | inl h ↦ (let p = and_parts (eqb a 63) (eqb b 63) h in let x = sym (eqb-true a 63 p.0) in let y = sym (eqb-true b 63 p.1) in subst (λ z. M (z ∷ b ∷ t ∷ r)) x (subst (λ z. M (63 ∷ z ∷ t ∷ r)) y (trigraph_step M c t r (trigraph t) refl m n (subst (λ z. M (z ∷ t ∷ r)) (sym y) k))))
      | inr h ↦ no_trigraph_step M c a b (t ∷ r) (rw h refl) n k
    ]

by_characters : (M : List ℕ → Type 0) → Cases M → (bs : List ℕ) → M bs
by_characters M c [] = c.none
by_characters M c (a ∷ []) = c.of_byte a [] refl refl c.none
by_characters M c (a ∷ b ∷ []) = no_trigraph_step M c a b [] refl c.none (c.of_byte b [] refl refl c.none)
by_characters M c (a ∷ b ∷ t ∷ r) = let m = by_characters M c r in let n = by_characters M c (t ∷ r) in let k = by_characters M c (b ∷ t ∷ r) in three_step M c a b t r m n k

-- ---- the replacement of a trigraph

record IsNoLine (t x : ℕ) : Type 0 where
  byte : eqb t 10 ≡ false
  character : eqb x 10 ≡ false
  splice : eqb x 92 ≡ eqb t 47
  mark : eqb t 63 ≡ false
  escape : eqb t 92 ≡ false

if_some : (b : Bool) (v x : ℕ) (o : Option ℕ) (Q : Type 0) → cond b (Some v) o ≡ Some x → (b ≡ true → v ≡ x → Q) → (o ≡ Some x → Q) → Q
if_some true v x o Q h f g = f refl (cc)
if_some false v x o Q h f g = g h

this_one : (t x k v : ℕ) → IsNoLine k v → eqb t k ≡ true → v ≡ x → IsNoLine t x
this_one t x k v n e f = subst (λ y. IsNoLine y x) (sym (eqb-true t k e)) (subst (λ y. IsNoLine k y) f n)

trigraph_line : (t x : ℕ) → trigraph t ≡ Some x → IsNoLine t x
unfolding trigraph
trigraph_line t x h =
    if_some (eqb t 61) 35 x _ (IsNoLine t x) h (this_one t x 61 35 (record { byte = refl; character = refl; splice = refl; mark = refl; escape = refl })) (λ h.
    if_some (eqb t 40) 91 x _ (IsNoLine t x) h (this_one t x 40 91 (record { byte = refl; character = refl; splice = refl; mark = refl; escape = refl })) (λ h.
    if_some (eqb t 47) 92 x _ (IsNoLine t x) h (this_one t x 47 92 (record { byte = refl; character = refl; splice = refl; mark = refl; escape = refl })) (λ h.
    if_some (eqb t 41) 93 x _ (IsNoLine t x) h (this_one t x 41 93 (record { byte = refl; character = refl; splice = refl; mark = refl; escape = refl })) (λ h.
    if_some (eqb t 39) 94 x _ (IsNoLine t x) h (this_one t x 39 94 (record { byte = refl; character = refl; splice = refl; mark = refl; escape = refl })) (λ h.
    if_some (eqb t 60) 123 x _ (IsNoLine t x) h (this_one t x 60 123 (record { byte = refl; character = refl; splice = refl; mark = refl; escape = refl })) (λ h.
    if_some (eqb t 33) 124 x _ (IsNoLine t x) h (this_one t x 33 124 (record { byte = refl; character = refl; splice = refl; mark = refl; escape = refl })) (λ h.
    if_some (eqb t 62) 125 x _ (IsNoLine t x) h (this_one t x 62 125 (record { byte = refl; character = refl; splice = refl; mark = refl; escape = refl })) (λ h.
    if_some (eqb t 45) 126 x _ (IsNoLine t x) h (this_one t x 45 126 (record { byte = refl; character = refl; splice = refl; mark = refl; escape = refl })) (λ h. absurd (cc))))))))))

-- ---- the last character

abbrev last_of : ℕ → List ℕ → ℕ
last_of other [] = other
last_of other (b ∷ bs) = last_of b bs

abbrev SameLast : List ℕ → Type 0
SameLast bs = (l o p : ℕ) → eqb o 10 ≡ eqb p 10 → eqb (last_byte o (phase1 0 l bs)) 10 ≡ eqb (last_of p bs) 10

-- the character that phase 1 leaves unchanged
byte_phase1 : (l a : ℕ) (r : List ℕ) → trigraph_at a r ≡ None → is_return a r ≡ false
    → phase1 0 l (a ∷ r) ≡ record { byte = a; line = l } ∷ phase1 0 (cond (eqb a 10) (l + 1) l) r
byte_phase1 l a r e f = rw (e, f) refl

trigraph_phase1 : (l t x : ℕ) (r : List ℕ) → trigraph t ≡ Some x → phase1 0 l (63 ∷ 63 ∷ t ∷ r) ≡ record { byte = x; line = l } ∷ phase1 0 l r
trigraph_phase1 l t x r e = rw e refl

return_phase1 : (l : ℕ) (r : List ℕ) → phase1 0 l (13 ∷ 10 ∷ r) ≡ record { byte = 10; line = l } ∷ phase1 0 (l + 1) r
return_phase1 l [] = refl
return_phase1 l (b ∷ r) = refl

same_last : (bs : List ℕ) → SameLast bs
same_last = by_characters SameLast (record {
  none = λ l o p e. e;
  of_trigraph = λ t x r e m l o p h. let n = trigraph_line t x e in ap (λ k. eqb (last_byte o k) 10) (trigraph_phase1 l t x r e) ∙ m l x t (n.character ∙ sym n.byte);
  of_return = λ r m l o p h. ap (λ k. eqb (last_byte o k) 10) (return_phase1 l r) ∙ m (l + 1) 10 10 refl;
  of_byte = λ a r e f m l o p h. ap (λ k. eqb (last_byte o k) 10) (byte_phase1 l a r e f) ∙ m (cond (eqb a 10) (l + 1) l) a a refl;
})

-- ---- the ends of lists

length_of_equal : (xs ys : List ℕ) → pointwise nat_eq xs ys ≡ true → length xs ≡ length ys
length_of_equal [] [] h = refl
length_of_equal [] (y ∷ ys) h = absurd (cc)
length_of_equal (x ∷ xs) [] h = absurd (cc)
length_of_equal (x ∷ xs) (y ∷ ys) h = ap suc (length_of_equal xs ys (and_parts (eqb x y) (pointwise nat_eq xs ys) h).1)

other_length : (xs ys : List ℕ) → (length xs ≡ length ys → ⊥) → pointwise nat_eq xs ys ≡ false
other_length xs ys h = elim (cases_Bool (pointwise nat_eq xs ys)) [ inl t ↦ absurd (h (length_of_equal xs ys t)) | inr f ↦ f ]

or_none : (t : Bool) → (t || false) ≡ t
or_none true = refl
or_none false = refl

ends_step : (a : ℕ) (bs n : List ℕ) → ends_with nat_eq (a ∷ bs) n ≡ (pointwise nat_eq n (a ∷ bs) || ends_with nat_eq bs n)
ends_step a bs n =
    elim (cases_lt (length bs) (length n)) [
      | inl h ↦ (let e : suc (length bs) - length n ≡ 0 = omega arith in let f : length bs - length n ≡ 0 = omega arith in rw (e, f, other_length n bs (λ q. omega arith)) (sym (or_none (pointwise nat_eq n (a ∷ bs)))))
      | inr h ↦ (let e : suc (length bs) - length n ≡ suc (length bs - length n) = omega arith in rw (e, other_length n (a ∷ bs) (λ q. omega arith)) refl)
    ]

last_line_byte : (b : ℕ) (bs : List ℕ) → ends_with nat_eq (b ∷ bs) (10 ∷ []) ≡ eqb (last_of b bs) 10
last_line_byte b [] = and_true (eqb 10 b) ∙ turned 10 b
last_line_byte b (c ∷ bs) = ends_step b (c ∷ bs) (10 ∷ []) ∙ rw (and_right (eqb 10 b) false refl) (last_line_byte c bs)

pub open_none : (bs : List ℕ) (t : Bool) → t ≡ eqb (length bs) 0 → t ≡ true → false ≡ ends_open (phase1 0 1 bs)
open_none [] t e f = refl
open_none (b ∷ bs) t e f = let h : length (b ∷ bs) ≡ 0 = eqb-true (length (b ∷ bs)) 0 (sym e ∙ f) in absurd (omega arith)

pub open_some : (bs : List ℕ) (t u : Bool) → t ≡ eqb (length bs) 0 → t ≡ false → u ≡ ends_with nat_eq bs (10 ∷ []) → not u ≡ ends_open (phase1 0 1 bs)
open_some [] t u e f g = absurd (cc)
open_some (b ∷ bs) t u e f g = ap not (g ∙ last_line_byte b bs ∙ sym (same_last (b ∷ bs) 1 10 10 refl))

-- ---- a splice at the end

abbrev lone : List Char → Bool
lone [] = false
lone (c ∷ []) = eqb c.byte 10
lone (c ∷ d ∷ cs) = false

abbrev line_end : List ℕ → Bool
line_end [] = false
line_end (b ∷ []) = eqb b 10
line_end (b ∷ c ∷ []) = eqb b 13 && eqb c 10
line_end (b ∷ c ∷ d ∷ bs) = false

last_splice : (c : Char) (cs : List Char) → (is_splice c cs && is_one_character cs) ≡ (eqb c.byte 92 && lone cs)
last_splice c [] = sym (and_right (eqb c.byte 92) false refl)
last_splice c (d ∷ []) = and_true (eqb c.byte 92 && eqb d.byte 10)
last_splice c (d ∷ e ∷ cs) = and_right (eqb c.byte 92 && eqb d.byte 10) false refl ∙ sym (and_right (eqb c.byte 92) false refl)

not_lone : (c : Char) (cs : List Char) → eqb c.byte 10 ≡ false → lone (c ∷ cs) ≡ false
not_lone c [] h = h
not_lone c (d ∷ cs) h = refl

abbrev SameLine : List ℕ → Type 0
SameLine bs = (l : ℕ) → lone (phase1 0 l bs) ≡ line_end bs

return_line : (l : ℕ) (r : List ℕ) → lone (record { byte = 10; line = l } ∷ phase1 0 (l + 1) r) ≡ line_end (13 ∷ 10 ∷ r)
return_line l [] = refl
return_line l (b ∷ r) = refl

byte_line : (l m a : ℕ) (r : List ℕ) → is_return a r ≡ false → lone (record { byte = a; line = l } ∷ phase1 0 m r) ≡ line_end (a ∷ r)
byte_line l m a [] f = refl
byte_line l m a (b ∷ []) f = sym f
byte_line l m a (b ∷ c ∷ r) f = refl

same_line : (bs : List ℕ) → SameLine bs
same_line = by_characters SameLine (record {
  none = λ l. refl;
  of_trigraph = λ t x r e m l. ap lone (trigraph_phase1 l t x r e) ∙ not_lone (record { byte = x; line = l }) (phase1 0 l r) (trigraph_line t x e).character;
  of_return = λ r m l. ap lone (return_phase1 l r) ∙ return_line l r;
  of_byte = λ a r e f m l. ap lone (byte_phase1 l a r e f) ∙ byte_line l (cond (eqb a 10) (l + 1) l) a r f;
})

-- the four texts that end in a splice
abbrev is_tail : List ℕ → Bool
is_tail bs =
    pointwise nat_eq (92 ∷ 10 ∷ []) bs || (pointwise nat_eq (92 ∷ 13 ∷ 10 ∷ []) bs
    || (pointwise nat_eq (63 ∷ 63 ∷ 47 ∷ 10 ∷ []) bs || pointwise nat_eq (63 ∷ 63 ∷ 47 ∷ 13 ∷ 10 ∷ []) bs))

abbrev has_tail : List ℕ → Bool
has_tail [] = false
has_tail (b ∷ bs) = is_tail (b ∷ bs) || has_tail bs

or_true : (t : Bool) → (t || true) ≡ true
or_true true = refl
or_true false = refl

two_ors : (r g s h : Bool) → ((r || g) || (s || h)) ≡ ((r || s) || (g || h))
two_ors true g s h = refl
two_ors false true s h = sym (or_true s)
two_ors false false s h = refl

three_ors : (q f r g s h : Bool) → ((q || f) || ((r || g) || (s || h))) ≡ ((q || (r || s)) || (f || (g || h)))
three_ors true f r g s h = refl
three_ors false true r g s h = sym (or_true (r || s))
three_ors false false r g s h = two_ors r g s h

four_ors : (p e q f r g s h : Bool) → ((p || e) || ((q || f) || ((r || g) || (s || h)))) ≡ ((p || (q || (r || s))) || (e || (f || (g || h))))
four_ors true e q f r g s h = refl
four_ors false true q f r g s h = sym (or_true (q || (r || s)))
four_ors false false q f r g s h = three_ors q f r g s h

tail_law : (bs : List ℕ) → bytes_end_spliced bs ≡ has_tail bs
tail_law [] = refl
tail_law (a ∷ bs) =
    let n1 : List ℕ = 92 ∷ 10 ∷ [] in
    let n2 : List ℕ = 92 ∷ 13 ∷ 10 ∷ [] in
    let n3 : List ℕ = 63 ∷ 63 ∷ 47 ∷ 10 ∷ [] in
    let n4 : List ℕ = 63 ∷ 63 ∷ 47 ∷ 13 ∷ 10 ∷ [] in
    rw (ends_step a bs n1, ends_step a bs n2, ends_step a bs n3, ends_step a bs n4)
    (four_ors (pointwise nat_eq n1 (a ∷ bs)) (ends_with nat_eq bs n1) (pointwise nat_eq n2 (a ∷ bs)) (ends_with nat_eq bs n2)
    (pointwise nat_eq n3 (a ∷ bs)) (ends_with nat_eq bs n3) (pointwise nat_eq n4 (a ∷ bs)) (ends_with nat_eq bs n4)
    ∙ ap (λ t. is_tail (a ∷ bs) || t) (tail_law bs))

-- no trigraph for a backslash comes first
no_mark : (a b c : ℕ) (r : List ℕ) → trigraph_at a (b ∷ c ∷ r) ≡ None → (eqb 63 a && (eqb 63 b && eqb 47 c)) ≡ false
unfolding trigraph
no_mark a b c r h =
    elim (cases_Bool (eqb 63 a && (eqb 63 b && eqb 47 c))) [
      | inl t ↦ (let p = and_parts (eqb 63 a) (eqb 63 b && eqb 47 c) t in let q = and_parts (eqb 63 b) (eqb 47 c) p.1 in let x = sym (eqb-true 63 a p.0) in let y = sym (eqb-true 63 b q.0) in let z = sym (eqb-true 47 c q.1) in let k : trigraph_at 63 (63 ∷ 47 ∷ r) ≡ None = subst (λ u. trigraph_at 63 (63 ∷ u ∷ r) ≡ None) z (subst (λ v. trigraph_at 63 (v ∷ c ∷ r) ≡ None) y (subst (λ w. trigraph_at w (b ∷ c ∷ r) ≡ None) x h)) in absurd (some_none 92 k))
      | inr f ↦ f
    ]
  where
    some_none : (v : ℕ) → Some v ≡ None → ⊥
    some_none v e = absurd (cc)

three_false : (p q r x : Bool) → (p && (q && r)) ≡ false → (p && (q && (r && x))) ≡ false
three_false false q r x h = refl
three_false true false r x h = refl
three_false true true false x h = refl
three_false true true true x h = absurd (cc)

tail_byte : (a : ℕ) (r : List ℕ) → trigraph_at a r ≡ None → is_tail (a ∷ r) ≡ (eqb a 92 && line_end r)
tail_byte a [] e = rw (and_right (eqb 92 a) false refl, and_right (eqb 63 a) false refl) (sym (and_right (eqb a 92) false refl))
tail_byte a (b ∷ []) e =
    rw (and_right (eqb 13 b) false refl, and_right (eqb 63 b) false refl, and_right (eqb 92 a) false refl, and_right (eqb 63 a) false refl)
    (or_none (eqb 92 a && (eqb 10 b && true)) ∙ ap (λ t. eqb 92 a && t) (and_true (eqb 10 b) ∙ turned 10 b) ∙ ap (λ t. t && eqb b 10) (turned 92 a))
tail_byte a (b ∷ c ∷ []) e =
    rw (and_right (eqb 10 b) false refl, and_right (eqb 47 c) false refl, and_right (eqb 63 b) false refl, and_right (eqb 92 a) false refl, and_right (eqb 63 a) false refl)
    (or_none (eqb 92 a && (eqb 13 b && (eqb 10 c && true))) ∙ ap (λ t. eqb 92 a && (eqb 13 b && t)) (and_true (eqb 10 c) ∙ turned 10 c) ∙ ap (λ t. eqb 92 a && (t && eqb c 10)) (turned 13 b) ∙ ap (λ t. t && (eqb b 13 && eqb c 10)) (turned 92 a))
tail_byte a (b ∷ c ∷ d ∷ r) e =
    rw (
      three_false (eqb 63 a) (eqb 63 b) (eqb 47 c) (pointwise nat_eq (10 ∷ []) (d ∷ r)) (no_mark a b c (d ∷ r) e),
      three_false (eqb 63 a) (eqb 63 b) (eqb 47 c) (pointwise nat_eq (13 ∷ 10 ∷ []) (d ∷ r)) (no_mark a b c (d ∷ r) e),
      and_right (eqb 10 b) false refl,
      and_right (eqb 10 c) false refl,
      and_right (eqb 13 b) false refl,
      and_right (eqb 92 a) false refl,
      and_right (eqb a 92) false refl,
    ) refl

line_text : (r : List ℕ) → (pointwise nat_eq (10 ∷ []) r || pointwise nat_eq (13 ∷ 10 ∷ []) r) ≡ line_end r
line_text [] = refl
line_text (b ∷ []) = rw (and_right (eqb 13 b) false refl) (or_none (eqb 10 b && true) ∙ and_true (eqb 10 b) ∙ turned 10 b)
line_text (b ∷ c ∷ []) = rw (and_right (eqb 10 b) false refl) (ap (λ t. eqb 13 b && t) (and_true (eqb 10 c) ∙ turned 10 c) ∙ ap (λ t. t && eqb c 10) (turned 13 b))
line_text (b ∷ c ∷ d ∷ r) = rw (and_right (eqb 10 b) false refl, and_right (eqb 10 c) false refl, and_right (eqb 13 b) false refl) refl

and_or : (t u v : Bool) → ((t && u) || (t && v)) ≡ (t && (u || v))
and_or true u v = refl
and_or false u v = refl

tail_trigraph : (t x : ℕ) (r : List ℕ) → IsNoLine t x → has_tail (63 ∷ 63 ∷ t ∷ r) ≡ ((eqb x 92 && line_end r) || has_tail r)
tail_trigraph t x r n =
    rw (turned 63 t ∙ n.mark, turned 92 t ∙ n.escape)
    (ap (λ k. k || has_tail r) (and_or (eqb 47 t) (pointwise nat_eq (10 ∷ []) r) (pointwise nat_eq (13 ∷ 10 ∷ []) r) ∙ ap (λ k. eqb 47 t && k) (line_text r) ∙ ap (λ k. k && line_end r) (turned 47 t ∙ sym n.splice)))

abbrev SameEnd : List ℕ → Type 0
SameEnd bs = (l : ℕ) → ends_spliced (phase1 0 l bs) ≡ has_tail bs

spliced_first : (c : Char) (r : List ℕ) (l : ℕ) → SameEnd r → ends_spliced (c ∷ phase1 0 l r) ≡ ((eqb c.byte 92 && line_end r) || has_tail r)
spliced_first c r l m =
    ap (λ t. t || ends_spliced (phase1 0 l r)) (last_splice c (phase1 0 l r) ∙ ap (λ t. eqb c.byte 92 && t) (same_line r l)) ∙ ap (λ t. (eqb c.byte 92 && line_end r) || t) (m l)

same_end : (bs : List ℕ) → SameEnd bs
same_end = by_characters SameEnd (record {
  none = λ l. refl;
  of_trigraph = λ t x r e m l. ap ends_spliced (trigraph_phase1 l t x r e) ∙ spliced_first (record { byte = x; line = l }) r l m ∙ sym (tail_trigraph t x r (trigraph_line t x e));
  of_return = λ r m l. ap ends_spliced (return_phase1 l r) ∙ spliced_first (record { byte = 10; line = l }) r (l + 1) m;
  of_byte = λ a r e f m l. ap ends_spliced (byte_phase1 l a r e f) ∙ spliced_first (record { byte = a; line = l }) r (cond (eqb a 10) (l + 1) l) m ∙ ap (λ t. t || has_tail r) (sym (tail_byte a r e));
})

spliced_law : (bs : List ℕ) → bytes_end_spliced bs ≡ ends_spliced (phase1 0 1 bs)
spliced_law bs = tail_law bs ∙ sym (same_end bs 1)

pub spliced_by : (bs : List ℕ) (a b c d : Bool) → a ≡ ends_with nat_eq bs (92 ∷ 10 ∷ []) → b ≡ ends_with nat_eq bs (92 ∷ 13 ∷ 10 ∷ [])
    → c ≡ ends_with nat_eq bs (63 ∷ 63 ∷ 47 ∷ 10 ∷ []) → d ≡ ends_with nat_eq bs (63 ∷ 63 ∷ 47 ∷ 13 ∷ 10 ∷ [])
    → (a || (b || (c || d))) ≡ ends_spliced (phase1 0 1 bs)
spliced_by bs a b c d e f g h = rw (e, f, g, h) (spliced_law bs)
