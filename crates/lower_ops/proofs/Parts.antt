-- Parts of code, one after the other.
use Rattle.std.proofs.Common.{◌≡◌, ℕ, ◌+◌, ◌<◌, ◌≤◌, List, [], ◌∷◌, ◌++◌, length, slice_get, Some, refl, ap, sym, ◌∙◌, subst, append_assoc, append-nil, length-append, arith}
use Rattle.tac_code.specs.declared.code.Instruction.{Instruction}
use Rattle.lower_correct.specs.Code.{One}
use Rattle.lower_ops.specs.layer.Parts.{plus, Begins, Wrote}

-- ---- sums

pub plus_is : (m n k : ℕ) → m + n ≤ k → k < 4611686018427387904 → plus m n ≡ m + n
unfolding plus
plus_is m n k h l = omega arith

pub sum_two : (n m a b c : ℕ) → b ≡ a + n → c ≡ b + m → c < 4611686018427387904 → c ≡ a + plus n m
unfolding plus
sum_two n m a b c e f l = omega arith

-- a position that was computed before as a sum is correct once it is reached
pub reach_one : (e l n k : ℕ) → e ≡ plus l n → k ≡ l + n → k < 4611686018427387904 → e ≡ k
unfolding plus
reach_one e l n k h g b = omega arith

pub reach_two : (e l n m k : ℕ) → e ≡ plus l (plus n m) → k ≡ l + (n + m) → k < 4611686018427387904 → e ≡ k
reach_two e l n m k h g b =
    reach_one e l (plus n m) k h (g ∙ ap (λ x. l + x) (sym (plus_is n m k (omega (arith, g)) b))) b

pub reach_three : (e l n m o k : ℕ) → e ≡ plus l (plus n (plus m o)) → k ≡ l + (n + (m + o)) → k < 4611686018427387904 → e ≡ k
reach_three e l n m o k h g b =
    reach_two e l n (plus m o) k h (g ∙ ap (λ x. l + (n + x)) (sym (plus_is m o k (omega (arith, g)) b))) b

pub reach_four : (e l n m o p k : ℕ) → e ≡ plus l (plus n (plus m (plus o p))) → k ≡ l + (n + (m + (o + p))) → k < 4611686018427387904 → e ≡ k
reach_four e l n m o p k h g b =
    reach_three e l n m (plus o p) k h (g ∙ ap (λ x. l + (n + (m + x))) (sym (plus_is o p k (omega (arith, g)) b))) b

pub reach_five : (e l n m o p q k : ℕ) → e ≡ plus l (plus n (plus m (plus o (plus p q)))) → k ≡ l + (n + (m + (o + (p + q)))) → k < 4611686018427387904 → e ≡ k
reach_five e l n m o p q k h g b =
    reach_four e l n m o (plus p q) k h (g ∙ ap (λ x. l + (n + (m + (o + x)))) (sym (plus_is p q k (omega (arith, g)) b))) b

-- ---- beginnings

pub begins_all : (c : List Instruction) → Begins c c
begins_all c = record { rest = []; is = sym (append-nil c) }

pub begins_on : {a b c : List Instruction} → Begins a b → Begins b c → Begins a c
begins_on {a} {b} {c} x y = record { rest = x.rest ++ y.rest; is = y.is ∙ ap (λ k. k ++ y.rest) x.is ∙ append_assoc a x.rest y.rest }

-- ---- parts

get_behind : (xs : List Instruction) (x : Instruction) (rest : List Instruction) → slice_get (xs ++ x ∷ rest) (length xs) ≡ Some x
get_behind [] x rest = refl
get_behind (y ∷ xs) x rest = get_behind xs x rest

pub one_wrote : (i : Instruction) (c0 c1 : List Instruction) → c1 ≡ c0 ++ i ∷ [] → length c1 < 4611686018427387904 → Wrote (λ w p q. One w i p q) 1 c0 c1
one_wrote i c0 c1 e l =
    let grows : length c1 ≡ length c0 + 1 = ap length e ∙ length-append c0 (i ∷ []) in
    record {
      begins = record { rest = i ∷ []; is = e };
      grows = grows;
      short = l;
      stands = λ w h. record {
        at = ap (λ k. slice_get k (length c0)) (h.is ∙ ap (λ k. k ++ h.rest) e ∙ append_assoc c0 (i ∷ []) h.rest) ∙ get_behind c0 i h.rest;
        next = sym grows;
      };
    }

pub none_wrote : (P : List Instruction → ℕ → ℕ → Type 0) (c0 c1 : List Instruction) → c1 ≡ c0 → length c0 < 4611686018427387904 → ((w : List Instruction) → P w (length c0) (length c0)) → Wrote P 0 c0 c1
none_wrote P c0 c1 e l h = subst (λ c. Wrote P 0 c0 c) (sym e) (record { begins = begins_all c0; grows = omega arith; short = l; stands = λ w b. h w })

pub as_wrote : {P : List Instruction → ℕ → ℕ → Type 0} {n : ℕ} {a b : List Instruction} → (Q : List Instruction → ℕ → ℕ → Type 0) → Wrote P n a b
    → ((w : List Instruction) → P w (length a) (length b) → Q w (length a) (length b)) → Wrote Q n a b
as_wrote Q x f = record { begins = x.begins; grows = x.grows; short = x.short; stands = λ w h. f w (x.stands w h) }

module _ {P0 P1 : List Instruction → ℕ → ℕ → Type 0} {n0 n1 : ℕ} {c0 c1 c2 : List Instruction} where
  pub two : Wrote P0 n0 c0 c1 → Wrote P1 n1 c1 c2 → Wrote (λ w p q. (p1 : ℕ) × P0 w p p1 × P1 w p1 q) (plus n0 n1) c0 c2
  two x0 x1 = record {
    begins = begins_on x0.begins x1.begins;
    grows = sum_two n0 n1 (length c0) (length c1) (length c2) x0.grows x1.grows x1.short;
    short = x1.short;
    stands = λ w h. (length c1, x0.stands w (begins_on x1.begins h), x1.stands w h);
  }

module _ {P0 P1 P2 : List Instruction → ℕ → ℕ → Type 0} {n0 n1 n2 : ℕ} {c0 c1 c2 c3 : List Instruction} where
  pub three : Wrote P0 n0 c0 c1 → Wrote P1 n1 c1 c2 → Wrote P2 n2 c2 c3 → Wrote (λ w p q. (p1 p2 : ℕ) × P0 w p p1 × P1 w p1 p2 × P2 w p2 q) (plus n0 (plus n1 n2)) c0 c3
  three x0 x1 x2 =
      let y = two x1 x2 in
      record {
        begins = begins_on x0.begins y.begins;
        grows = sum_two n0 (plus n1 n2) (length c0) (length c1) (length c3) x0.grows y.grows x2.short;
        short = x2.short;
        stands = λ w h. (length c1, length c2, x0.stands w (begins_on y.begins h), x1.stands w (begins_on x2.begins h), x2.stands w h);
      }

module _ {P0 P1 P2 P3 : List Instruction → ℕ → ℕ → Type 0} {n0 n1 n2 n3 : ℕ} {c0 c1 c2 c3 c4 : List Instruction} where
  pub four : Wrote P0 n0 c0 c1 → Wrote P1 n1 c1 c2 → Wrote P2 n2 c2 c3 → Wrote P3 n3 c3 c4
      → Wrote (λ w p q. (p1 p2 p3 : ℕ) × P0 w p p1 × P1 w p1 p2 × P2 w p2 p3 × P3 w p3 q) (plus n0 (plus n1 (plus n2 n3))) c0 c4
  four x0 x1 x2 x3 =
      let y = three x1 x2 x3 in
      let z = two x2 x3 in
      record {
        begins = begins_on x0.begins y.begins;
        grows = sum_two n0 (plus n1 (plus n2 n3)) (length c0) (length c1) (length c4) x0.grows y.grows x3.short;
        short = x3.short;
        stands = λ w h.
            (length c1, length c2, length c3, x0.stands w (begins_on y.begins h), x1.stands w (begins_on z.begins h), x2.stands w (begins_on x3.begins h), x3.stands w h);
      }

module _ {P0 P1 P2 P3 P4 : List Instruction → ℕ → ℕ → Type 0} {n0 n1 n2 n3 n4 : ℕ} {c0 c1 c2 c3 c4 c5 : List Instruction} where
  pub five : Wrote P0 n0 c0 c1 → Wrote P1 n1 c1 c2 → Wrote P2 n2 c2 c3 → Wrote P3 n3 c3 c4 → Wrote P4 n4 c4 c5
      → Wrote (λ w p q. (p1 p2 p3 p4 : ℕ) × P0 w p p1 × P1 w p1 p2 × P2 w p2 p3 × P3 w p3 p4 × P4 w p4 q) (plus n0 (plus n1 (plus n2 (plus n3 n4)))) c0 c5
  five x0 x1 x2 x3 x4 =
      let y = four x1 x2 x3 x4 in
      let z = three x2 x3 x4 in
      let u = two x3 x4 in
      record {
        begins = begins_on x0.begins y.begins;
        grows = sum_two n0 (plus n1 (plus n2 (plus n3 n4))) (length c0) (length c1) (length c5) x0.grows y.grows x4.short;
        short = x4.short;
        stands = λ w h.
            (length c1, length c2, length c3, length c4, x0.stands w (begins_on y.begins h), x1.stands w (begins_on z.begins h), x2.stands w (begins_on u.begins h), x3.stands w (begins_on x4.begins h), x4.stands w h);
      }
