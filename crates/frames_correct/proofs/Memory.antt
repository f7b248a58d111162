-- The lists of bytes of a flat state after a write to one of them.
use Rattle.std.proofs.Common.{◌≡◌, ◌≢◌, ℕ, zero, suc, ◌+◌, List, [], ◌∷◌, Some, true, false, refl, sym, ap, ◌∙◌, subst, arith, eqb}
use Rattle.std.proofs.lemmas.Bool.Decides.{nat_tests}
use Rattle.frames_code.specs.Code.{Program, frame_bytes}
use Rattle.frames_code.specs.Run.{Bytes, Frame, State, Memory, function_at, bytes_of, name_of, arrays, memory_among, memory, changed_among, with_frames, with_memory}
use Rattle.frames_correct.proofs.Lists.{same_some, bool_cases}

abbrev pub with_bytes : Memory → Bytes → Memory
with_bytes m b = record m { bytes = b }

module _ (p : Program) where
  pub bytes_stay : (fs : List Frame) (l : ℕ) (b : Bytes) → bytes_of p (changed_among p fs l b) ≡ bytes_of p fs
  bytes_stay [] l b = refl
  bytes_stay (f ∷ fs) l b =
      bool_cases (eqb (name_of p f fs) l)
      (λ t. ap (bytes_of p) (let e : changed_among p (f ∷ fs) l b ≡ record f { area = b } ∷ fs = rw t refl in e))
      (λ t. ap (bytes_of p) (let e : changed_among p (f ∷ fs) l b ≡ f ∷ changed_among p fs l b = rw t refl in e) ∙ ap (λ k. frame_bytes (function_at p f.function) + k) (bytes_stay fs l b))

  pub among_here : (f : Frame) (fs : List Frame) (l : ℕ) → eqb (name_of p f fs) l ≡ true → memory_among p (f ∷ fs) l ≡ Some (arrays (function_at p f.function) f.area)
  among_here f fs l t = rw t refl

  pub among_later : (f : Frame) (fs : List Frame) (l : ℕ) → eqb (name_of p f fs) l ≡ false → memory_among p (f ∷ fs) l ≡ memory_among p fs l
  among_later f fs l t = rw t refl

  changed_here : (f : Frame) (fs : List Frame) (l : ℕ) (b : Bytes) → eqb (name_of p f fs) l ≡ true → changed_among p (f ∷ fs) l b ≡ record f { area = b } ∷ fs
  changed_here f fs l b t = rw t refl

  changed_later : (f : Frame) (fs : List Frame) (l : ℕ) (b : Bytes) → eqb (name_of p f fs) l ≡ false → changed_among p (f ∷ fs) l b ≡ f ∷ changed_among p fs l b
  changed_later f fs l b t = rw t refl

  name_stays : (f : Frame) (fs : List Frame) (l : ℕ) (b : Bytes) → name_of p f (changed_among p fs l b) ≡ name_of p f fs
  name_stays f fs l b = ap (λ k. frame_bytes (function_at p f.function) + k) (bytes_stay fs l b)

  pub among_same : (fs : List Frame) (l : ℕ) (m : Memory) (b : Bytes) → memory_among p fs l ≡ Some m → memory_among p (changed_among p fs l b) l ≡ Some (with_bytes m b)
  among_same [] l m b e = absurd (let x : ⊥ = cc in x)
  among_same (f ∷ fs) l m b e =
      bool_cases (eqb (name_of p f fs) l)
      (λ t.
      let is : arrays (function_at p f.function) f.area ≡ m = same_some (arrays (function_at p f.function) f.area) m (sym (among_here f fs l t) ∙ e) in
      ap (λ gs. memory_among p gs l) (changed_here f fs l b t) ∙ (among_here (record f { area = b }) fs l t ∙ ap (λ x. Some (with_bytes x b)) is))
      (λ t.
      let other : eqb (name_of p f (changed_among p fs l b)) l ≡ false = ap (λ k. eqb k l) (name_stays f fs l b) ∙ t in
      ap (λ gs. memory_among p gs l) (changed_later f fs l b t) ∙ (among_later f (changed_among p fs l b) l other ∙ among_same fs l m b (sym (among_later f fs l t) ∙ e)))

  pub among_other : (fs : List Frame) (l l2 : ℕ) (b : Bytes) → l2 ≢ l → memory_among p (changed_among p fs l b) l2 ≡ memory_among p fs l2
  among_other [] l l2 b ne = refl
  among_other (f ∷ fs) l l2 b ne =
      bool_cases (eqb (name_of p f fs) l)
      (λ t.
      let no_more : eqb (name_of p f fs) l2 ≡ false = grind (arith, nat_tests) in
      ap (λ gs. memory_among p gs l2) (changed_here f fs l b t) ∙ (among_later (record f { area = b }) fs l2 no_more ∙ sym (among_later f fs l2 no_more)))
      (λ t. ap (λ gs. memory_among p gs l2) (changed_later f fs l b t) ∙ by_name (among_other fs l l2 b ne))
    where
      by_name : memory_among p (changed_among p fs l b) l2 ≡ memory_among p fs l2 → memory_among p (f ∷ changed_among p fs l b) l2 ≡ memory_among p (f ∷ fs) l2
      by_name more =
          bool_cases (eqb (name_of p f fs) l2)
          (λ t. among_here f (changed_among p fs l b) l2 (ap (λ k. eqb k l2) (name_stays f fs l b) ∙ t) ∙ sym (among_here f fs l2 t))
          (λ t. among_later f (changed_among p fs l b) l2 (ap (λ k. eqb k l2) (name_stays f fs l b) ∙ t) ∙ (more ∙ sym (among_later f fs l2 t)))

  -- ---- a state

  among_with : (s : State) (f : Frame) (fs gs : List Frame) (l : ℕ) → gs ≡ f ∷ fs → memory p (with_frames s gs) (suc l) ≡ memory_among p gs (suc l)
  among_with s f fs gs l e = subst (λ hs. memory p (with_frames s hs) (suc l) ≡ memory_among p hs (suc l)) (sym e) refl

  pub record IsCons (gs : List Frame) : Type 0 where
    pub head : Frame
    pub tail : List Frame
    pub is : gs ≡ head ∷ tail

  pub changed_cons : (f : Frame) (fs : List Frame) (l : ℕ) (b : Bytes) → IsCons (changed_among p (f ∷ fs) l b)
  changed_cons f fs l b =
      bool_cases (eqb (name_of p f fs) l)
      (λ t. record { head = record f { area = b }; tail = fs; is = changed_here f fs l b t })
      (λ t. record { head = f; tail = changed_among p fs l b; is = changed_later f fs l b t })

  pub memory_same : (s : State) (l : ℕ) (m : Memory) (b : Bytes) → memory p s l ≡ Some m → memory p (with_memory p s l b) l ≡ Some (with_bytes m b)
  memory_same s zero m b e = ap (λ x. Some (with_bytes x b)) (same_some _ m e)
  memory_same s (suc l) m b e =
      let c = changed_cons s.frame s.waiting (suc l) b in
      among_with s c.head c.tail (changed_among p (s.frame ∷ s.waiting) (suc l) b) l c.is ∙ among_same (s.frame ∷ s.waiting) (suc l) m b e

  statics_stay : (s : State) (gs : List Frame) → memory p (with_frames s gs) 0 ≡ memory p s 0
  statics_stay s [] = refl
  statics_stay s (g ∷ gs) = refl

  pub memory_other : (s : State) (l l2 : ℕ) (b : Bytes) → l2 ≢ l → memory p (with_memory p s l b) l2 ≡ memory p s l2
  memory_other s zero zero b ne = absurd (ne refl)
  memory_other s zero (suc l2) b ne = refl
  memory_other s (suc l) zero b ne = statics_stay s (changed_among p (s.frame ∷ s.waiting) (suc l) b)
  memory_other s (suc l) (suc l2) b ne =
      let c = changed_cons s.frame s.waiting (suc l) b in
      among_with s c.head c.tail (changed_among p (s.frame ∷ s.waiting) (suc l) b) l2 c.is ∙ among_other (s.frame ∷ s.waiting) (suc l) (suc l2) b ne
