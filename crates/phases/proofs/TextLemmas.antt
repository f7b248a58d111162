-- Laws of the logical text.
use Rattle.std.proofs.Common.{◌≡◌, ℕ, ◌+◌, eqb, ◌||◌, Bool, true, false, not, cond, List, [], ◌∷◌, refl, sym, subst, None}
use Rattle.phases.specs.Text.{Char, phase1, logical, is_splice, trigraph_at, is_return}
use Rattle.phases.specs.inside.Plain.{is_plain}

pub no_splice : (c : Char) (cs : List Char) → eqb c.byte 92 ≡ false → is_splice c cs ≡ false
no_splice c [] h = refl
no_splice c (d ∷ ds) h = rw h

-- a character of phase 1 that begins no splice is the first of the text
pub stands : (l m : ℕ) (r s : List ℕ) (c : Char) → phase1 0 l r ≡ c ∷ phase1 0 m s → is_splice c (phase1 0 m s) ≡ false → logical l r ≡ c ∷ logical m s
unfolding logical
stands l m r s c e n = rw (e, n) refl

-- a splice is not part of the text
pub goes : (l m n : ℕ) (r s t : List ℕ) (c d : Char) → phase1 0 l r ≡ c ∷ phase1 0 m s → phase1 0 m s ≡ d ∷ phase1 0 n t → c.byte ≡ 92 → d.byte ≡ 10 → logical l r ≡ logical n t
unfolding logical
goes l m n r s t c d e f x y = rw (e, f, x, y) refl

pub ends : (l : ℕ) → logical l [] ≡ []
unfolding logical
ends l = refl

no_trigraph : (b : ℕ) (bs : List ℕ) → eqb b 63 ≡ false → trigraph_at b bs ≡ None
no_trigraph b [] h = refl
no_trigraph b (c ∷ []) h = refl
no_trigraph b (c ∷ d ∷ bs) h = rw h refl

no_return : (b : ℕ) (bs : List ℕ) → eqb b 13 ≡ false → is_return b bs ≡ false
no_return b [] h = refl
no_return b (c ∷ bs) h = rw h refl

not_or : (a b c d : Bool) → not (a || b || c || d) ≡ true → (a ≡ false) × (b ≡ false) × (c ≡ false) × (d ≡ false)
not_or false false false false h = (refl, refl, refl, refl)
not_or true b c d h = absurd (cc)
not_or false true c d h = absurd (cc)
not_or false false true d h = absurd (cc)
not_or false false false true h = absurd (cc)

-- a plain byte denotes itself
pub plain_first : (l b : ℕ) (bs : List ℕ) → is_plain b ≡ true → logical l (b ∷ bs) ≡ record { byte = b; line = l } ∷ logical l bs
plain_first l b bs p =
    let h = not_or (eqb b 63) (eqb b 92) (eqb b 13) (eqb b 10) p in
    let e : phase1 0 l (b ∷ bs) ≡ record { byte = b; line = l } ∷ phase1 0 l bs = rw (no_trigraph b bs h.0, no_return b bs h.2, h.3) refl in
    stands l l (b ∷ bs) bs (record { byte = b; line = l }) e (no_splice (record { byte = b; line = l }) (phase1 0 l bs) h.1)

pub plain_no_line : (b : ℕ) → is_plain b ≡ true → eqb b 10 ≡ false
plain_no_line b p = (not_or (eqb b 63) (eqb b 92) (eqb b 13) (eqb b 10) p).3

-- so does a line feed, which ends its line
pub line_first : (l b : ℕ) (bs : List ℕ) → b ≡ 10 → logical l (b ∷ bs) ≡ record { byte = b; line = l } ∷ logical (cond (eqb b 10) (l + 1) l) bs
line_first l b bs p =
    let e : phase1 0 l (10 ∷ bs) ≡ record { byte = 10; line = l } ∷ phase1 0 (l + 1) bs = rw (no_trigraph 10 bs refl, no_return 10 bs refl) refl in
    subst (λ x. logical l (x ∷ bs) ≡ record { byte = x; line = l } ∷ logical (cond (eqb x 10) (l + 1) l) bs) (sym p) (stands l (l + 1) (10 ∷ bs) bs (record { byte = 10; line = l }) e (no_splice (record { byte = 10; line = l }) (phase1 0 (l + 1) bs) refl))

pub plain_no_escape : (b : ℕ) → is_plain b ≡ true → eqb b 92 ≡ false
plain_no_escape b p = (not_or (eqb b 63) (eqb b 92) (eqb b 13) (eqb b 10) p).1
