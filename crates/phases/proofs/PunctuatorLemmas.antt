-- Laws of punctuators.
use Rattle.std.proofs.Common.{◌≡◌, ℕ, suc, slice_index, eqb, ◌||◌, ◌&&◌, Bool, true, false, cond, List, [], ◌∷◌, drop, refl, sym, ap, ◌∙◌, subst, arith, ⊎_elim}
use Rattle.std.specs.Prelude.{codes}
use Rattle.std.proofs.lemmas.Bool.{both_ways, and_parts, or_cases, eqb-true, ne_eqb}
use Rattle.phases.specs.inside.Lexical.{one_of, seconds, is_single, is_pair, is_triple, is_quadruple, punctuator_of, punctuator_len}
use Rattle.phases.specs.inside.Quick.{is_second}
use Rattle.phases.specs.declared.cursor.Cursor.{Cursor}
use Rattle.phases.specs.declared.cursor.Step.{Step}
use Rattle.phases.specs.inside.Reading.{bytes_at, Spans}
use Rattle.phases.specs.inside.Fronts.{IsSomeFront, IsAhead}
use Rattle.phases.proofs.ReadingLemmas.{spans_join, spans_step}

if_not : (b : ℕ) (t : Bool) (x y : List ℕ) → one_of b x ≡ false → one_of b y ≡ false → one_of b (cond t x y) ≡ false
if_not b true x y p q = p
if_not b false x y p q = q

other : (b k : ℕ) → is_second b ≡ false → is_second k ≡ true → eqb k b ≡ false
other b k h z = ne_eqb k b (λ e. both_ways (is_second b) h (subst (λ x. is_second x ≡ true) e z))

-- no other byte comes second
no_second : (a b : ℕ) → is_second b ≡ false → one_of b (seconds a) ≡ false
unfolding seconds
no_second a b h =
    let r14 : List ℕ = [] in
    let p14 : one_of b r14 ≡ false = refl in
    let r13 : List ℕ = cond (eqb a 33) (codes "=") r14 in
    let p13 : one_of b r13 ≡ false = if_not b (eqb a 33) (codes "=") r14 (rw (other b 61 h refl) refl) p14 in
    let r12 : List ℕ = cond (eqb a 61) (codes "=") r13 in
    let p12 : one_of b r12 ≡ false = if_not b (eqb a 61) (codes "=") r13 (rw (other b 61 h refl) refl) p13 in
    let r11 : List ℕ = cond (eqb a 94) (codes "=") r12 in
    let p11 : one_of b r11 ≡ false = if_not b (eqb a 94) (codes "=") r12 (rw (other b 61 h refl) refl) p12 in
    let r10 : List ℕ = cond (eqb a 47) (codes "=") r11 in
    let p10 : one_of b r10 ≡ false = if_not b (eqb a 47) (codes "=") r11 (rw (other b 61 h refl) refl) p11 in
    let r9 : List ℕ = cond (eqb a 42) (codes "=") r10 in
    let p9 : one_of b r9 ≡ false = if_not b (eqb a 42) (codes "=") r10 (rw (other b 61 h refl) refl) p10 in
    let r8 : List ℕ = cond (eqb a 35) (codes "#") r9 in
    let p8 : one_of b r8 ≡ false = if_not b (eqb a 35) (codes "#") r9 (rw (other b 35 h refl) refl) p9 in
    let r7 : List ℕ = cond (eqb a 58) (codes ">") r8 in
    let p7 : one_of b r7 ≡ false = if_not b (eqb a 58) (codes ">") r8 (rw (other b 62 h refl) refl) p8 in
    let r6 : List ℕ = cond (eqb a 37) (codes "=>:") r7 in
    let p6 : one_of b r6 ≡ false = if_not b (eqb a 37) (codes "=>:") r7 (rw (other b 61 h refl, other b 62 h refl, other b 58 h refl) refl) p7 in
    let r5 : List ℕ = cond (eqb a 62) (codes ">=") r6 in
    let p5 : one_of b r5 ≡ false = if_not b (eqb a 62) (codes ">=") r6 (rw (other b 62 h refl, other b 61 h refl) refl) p6 in
    let r4 : List ℕ = cond (eqb a 60) (codes "<=:%") r5 in
    let p4 : one_of b r4 ≡ false = if_not b (eqb a 60) (codes "<=:%") r5 (rw (other b 60 h refl, other b 61 h refl, other b 58 h refl, other b 37 h refl) refl) p5 in
    let r3 : List ℕ = cond (eqb a 124) (codes "|=") r4 in
    let p3 : one_of b r3 ≡ false = if_not b (eqb a 124) (codes "|=") r4 (rw (other b 124 h refl, other b 61 h refl) refl) p4 in
    let r2 : List ℕ = cond (eqb a 38) (codes "&=") r3 in
    let p2 : one_of b r2 ≡ false = if_not b (eqb a 38) (codes "&=") r3 (rw (other b 38 h refl, other b 61 h refl) refl) p3 in
    let r1 : List ℕ = cond (eqb a 43) (codes "+=") r2 in
    let p1 : one_of b r1 ≡ false = if_not b (eqb a 43) (codes "+=") r2 (rw (other b 43 h refl, other b 61 h refl) refl) p2 in
    let r0 : List ℕ = cond (eqb a 45) (codes ">-=") r1 in
    let p0 : one_of b r0 ≡ false = if_not b (eqb a 45) (codes ">-=") r1 (rw (other b 62 h refl, other b 45 h refl, other b 61 h refl) refl) p1 in
    p0

pub no_zero_second : (a : ℕ) → one_of 0 (seconds a) ≡ false
no_zero_second a = no_second a 0 refl

-- a byte that no punctuator has second makes no pair
pub no_pair : (a b : ℕ) (t : Bool) → t ≡ is_second b → t ≡ false → t ≡ is_pair a b
no_pair a b t e h = h ∙ sym (no_second a b (sym e ∙ h))

not_first : (f : ℕ → Bool) (b : ℕ) → f 0 ≡ false → f b ≡ true → b ≡ 0 → ⊥
not_first f b z h e = both_ways (f 0) z (subst (λ x. f x ≡ true) e h)

pair_first : (a b : ℕ) → is_pair a b ≡ true → a ≡ 0 → ⊥
unfolding seconds
pair_first a b h = not_first (λ x. is_pair x b) a refl h

pair_second : (a b : ℕ) → is_pair a b ≡ true → b ≡ 0 → ⊥
pair_second a b h = not_first (λ x. is_pair a x) b (no_zero_second a) h

triple_third : (a b c : ℕ) → is_triple a b c ≡ true → (a ≡ b) × ((a ≡ 0 → ⊥) × (c ≡ 0 → ⊥))
triple_third a b c h =
    let p = and_parts (eqb a b) _ h in (
      eqb-true a b p.0,
      ⊎_elim
          (λ q. let r = and_parts (eqb a 46) (eqb c 46) q in let x = eqb-true a 46 r.0 in let y = eqb-true c 46 r.1 in (λ e. omega arith, λ e. omega arith))
          (λ q. let r = and_parts (eqb a 60 || eqb a 62) (eqb c 61) q in let y = eqb-true c 61 r.1 in (not_first (λ x. eqb x 60 || eqb x 62) a refl r.0, λ e. omega arith))
          (or_cases (eqb a 46 && eqb c 46) ((eqb a 60 || eqb a 62) && eqb c 61) p.1),
    )

quadruple_bytes : (a b c d : ℕ) → is_quadruple a b c d ≡ true → (a ≡ 37) × (b ≡ 58) × (c ≡ 37) × (d ≡ 58)
quadruple_bytes a b c d h =
    let p = and_parts (eqb a 37 && eqb b 58) (eqb c 37 && eqb d 58) h in
    let q = and_parts (eqb a 37) (eqb b 58) p.0 in
    let r = and_parts (eqb c 37) (eqb d 58) p.1 in
    (eqb-true a 37 q.0, eqb-true b 58 q.1, eqb-true c 37 r.0, eqb-true d 58 r.1)

index_1 : (bs : List ℕ) → slice_index (drop 1 bs) 0 ≡ slice_index bs 1
index_1 [] = refl
index_1 (b ∷ bs) = refl

index_2 : (bs : List ℕ) → slice_index (drop 1 (drop 1 bs)) 0 ≡ slice_index bs 2
index_2 [] = refl
index_2 (a ∷ []) = refl
index_2 (a ∷ b ∷ bs) = refl

index_3 : (bs : List ℕ) → slice_index (drop 1 (drop 1 (drop 1 bs))) 0 ≡ slice_index bs 3
index_3 [] = refl
index_3 (a ∷ []) = refl
index_3 (a ∷ b ∷ []) = refl
index_3 (a ∷ b ∷ c ∷ bs) = refl

-- four characters ahead, one after another
pub record Four (a : Cursor) (s t u v : Step) : Type 0 where
  pub first : IsAhead a s
  pub second : IsAhead s.next t
  pub third : IsAhead t.next u
  pub fourth : IsAhead u.next v

pub punctuator_is : (a : Cursor) (s t u v : Step) → Four a s t u v → punctuator_len (bytes_at a) ≡ punctuator_of s.byte t.byte u.byte v.byte
punctuator_is a s t u v f =
    let bs = bytes_at a in
    let e1 = f.first.rest_is in
    let e2 : bytes_at t.next ≡ drop 1 (drop 1 bs) = f.second.rest_is ∙ ap (λ x. drop 1 x) e1 in
    let e3 : bytes_at u.next ≡ drop 1 (drop 1 (drop 1 bs)) = f.third.rest_is ∙ ap (λ x. drop 1 x) e2 in
    let i1 : t.byte ≡ slice_index bs 1 = f.second.byte_is ∙ ap (λ x. slice_index x 0) e1 ∙ index_1 bs in
    let i2 : u.byte ≡ slice_index bs 2 = f.third.byte_is ∙ ap (λ x. slice_index x 0) e2 ∙ index_2 bs in
    let i3 : v.byte ≡ slice_index bs 3 = f.fourth.byte_is ∙ ap (λ x. slice_index x 0) e3 ∙ index_3 bs in
    sym (ap (λ x. punctuator_of x t.byte u.byte v.byte) f.first.byte_is ∙ ap (λ x. punctuator_of (slice_index bs 0) x u.byte v.byte) i1 ∙ ap (λ x. punctuator_of (slice_index bs 0) (slice_index bs 1) x v.byte) i2 ∙ ap (λ x. punctuator_of (slice_index bs 0) (slice_index bs 1) (slice_index bs 2) x) i3)

one : (a : Cursor) (s : Step) → IsAhead a s → (s.byte ≡ 0 → ⊥) → Spans a 1 s.next
one a s p n = spans_step a s (p.step n)

front_of : (a b : Cursor) (n total : ℕ) → total ≡ suc n → Spans a (suc n) b → IsSomeFront a total (record { count = suc n; after = b })
front_of a b n total e p = record { count_is = sym e; spans = p; some = omega (arith, e) }

pub quadruple_front : (a : Cursor) (s t u v : Step) → Four a s t u v → is_quadruple s.byte t.byte u.byte v.byte ≡ true → IsSomeFront a (punctuator_len (bytes_at a)) (record { count = 4; after = v.next })
quadruple_front a s t u v f h =
    let q = quadruple_bytes s.byte t.byte u.byte v.byte h in
    let x = one a s f.first (λ e. omega (arith, q.0)) in
    let y = one s.next t f.second (λ e. omega (arith, q.1)) in
    let z = one t.next u f.third (λ e. omega (arith, q.2)) in
    let w = one u.next v f.fourth (λ e. omega (arith, q.3)) in
    front_of a v.next 3 _ (punctuator_is a s t u v f ∙ rw h refl) (spans_join a u.next v.next 3 1 (spans_join a t.next u.next 2 1 (spans_join a s.next t.next 1 1 x y) z) w)

pub triple_front : (a : Cursor) (s t u v : Step) → Four a s t u v → is_quadruple s.byte t.byte u.byte v.byte ≡ false → is_triple s.byte t.byte u.byte ≡ true → IsSomeFront a (punctuator_len (bytes_at a)) (record { count = 3; after = u.next })
triple_front a s t u v f g h =
    let q = triple_third s.byte t.byte u.byte h in
    let x = one a s f.first q.1.0 in
    let y = one s.next t f.second (λ e. q.1.0 (q.0 ∙ e)) in
    let z = one t.next u f.third q.1.1 in
    front_of a u.next 2 _ (punctuator_is a s t u v f ∙ rw (g, h) refl) (spans_join a t.next u.next 2 1 (spans_join a s.next t.next 1 1 x y) z)

pub pair_front : (a : Cursor) (s t u v : Step) → Four a s t u v → is_quadruple s.byte t.byte u.byte v.byte ≡ false → is_triple s.byte t.byte u.byte ≡ false → is_pair s.byte t.byte ≡ true → IsSomeFront a (punctuator_len (bytes_at a)) (record { count = 2; after = t.next })
pair_front a s t u v f g h i =
    let x = one a s f.first (pair_first s.byte t.byte i) in
    let y = one s.next t f.second (pair_second s.byte t.byte i) in
    front_of a t.next 1 _ (punctuator_is a s t u v f ∙ rw (g, h, i) refl) (spans_join a s.next t.next 1 1 x y)

pub single_front : (a : Cursor) (s t u v : Step) → Four a s t u v → is_quadruple s.byte t.byte u.byte v.byte ≡ false → is_triple s.byte t.byte u.byte ≡ false → is_pair s.byte t.byte ≡ false → is_single s.byte ≡ true → IsSomeFront a (punctuator_len (bytes_at a)) (record { count = 1; after = s.next })
single_front a s t u v f g h i j =
    front_of a s.next 0 _ (punctuator_is a s t u v f ∙ rw (g, h, i, j) refl) (one a s f.first (not_first is_single s.byte refl j))

pub no_front : (a : Cursor) (s t u v : Step) → Four a s t u v → is_quadruple s.byte t.byte u.byte v.byte ≡ false → is_triple s.byte t.byte u.byte ≡ false → is_pair s.byte t.byte ≡ false → is_single s.byte ≡ false → punctuator_len (bytes_at a) ≡ 0
no_front a s t u v f g h i j = punctuator_is a s t u v f ∙ rw (g, h, i, j) refl
