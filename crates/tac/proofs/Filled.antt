-- Parts of lists of initialisers.
use Rattle.std.proofs.Common.{◌≡◌, ℕ, zero, suc, ◌+◌, ◌*◌, ◌<◌, ◌≤◌, Bool, ◌||◌, List, [], ◌∷◌, map, length, get_or, drop, ◌⊎◌, inl, inr, refl, ap, sym, ◌∙◌, subst, arith}
use Rattle.std.proofs.lemmas.List.{drop_more, drop_all}
use Rattle.ctypes.specs.declared.types.IntType.{IntType}
use Rattle.typing_spec.specs.Types.{elements_in}
use Rattle.typing_spec.specs.Program as typed
use Rattle.typing_spec.specs.Program.{Value, Initialiser, Initialisers}
use Rattle.tac_code.specs.declared.code.Operand.{Operand}
use Rattle.tac_code.specs.declared.code.Place.{Place as Spot}
use Rattle.tac_code.specs.declared.code.Place.TheVariants as place
use Rattle.tac_code.specs.declared.code.Instruction.{Instruction}
use Rattle.lower_correct.specs.Values.{keeps, operand_of, mode_of, Nowhere}
use Rattle.lower_correct.specs.Places.{size_of_place, cuts}
use Rattle.lower_correct.specs.Code.{Puts}
use Rattle.lower_correct.specs.Initialisers.{Clears, Sets, FillAll}
use Rattle.lower_ops.specs.declared.modes.Shape.TheVariants as shape
use Rattle.lower_ops.specs.layer.FormSizes.{puts_size}
use Rattle.lower_ops.proofs.Stored.{stored_by}
use Rattle.lower_exprs.specs.layer.Written.{WroteValue}
use Rattle.lower_ops.specs.layer.Parts.{plus, Begins, Wrote}
use Rattle.lower_ops.proofs.Parts.{plus_is, begins_all, begins_on, two}
use Rattle.tac.specs.declared.elements.Start.{Start}
use Rattle.tac.specs.inside.FirstSizes.{begins_size, clears_to_size, clears_size, sets_size, fills_size, fill_all_size}
use Rattle.tac.specs.inside.Starts.{WroteClears}
use Rattle.tac.specs.inside.Written.{WroteFills, WroteFillAll}

-- ---- sums and products as far as a word counts

plus_none : (m n : ℕ) → plus 0 (plus m n) ≡ plus m n
unfolding plus
plus_none m n = omega arith

pub plus_assoc : (k m n : ℕ) → plus (plus k m) n ≡ plus k (plus m n)
unfolding plus
plus_assoc k m n = omega arith

nothing_more : plus 0 0 ≡ 0
unfolding plus
nothing_more = refl

one_more : plus 0 1 ≡ 1
unfolding plus
one_more = refl

counted : (n : ℕ) → plus 0 (clears_size n) ≡ clears_size n
counted zero = nothing_more
counted (suc zero) = one_more
counted (suc (suc n)) = plus_none begins_size clears_to_size

pub all_counts : (texts : List (List ℕ)) (all : Initialisers) (k : ℕ) (lengths : List ℕ) → plus 0 (fill_all_size texts all k lengths) ≡ fill_all_size texts all k lengths
all_counts texts typed.no_initialisers k lengths = counted (k * elements_in lengths)
all_counts texts (typed.and_initialiser x more) zero lengths = nothing_more
all_counts texts (typed.and_initialiser x more) (suc k) lengths = plus_none (fills_size texts x lengths) (fill_all_size texts more k lengths)

-- ---- the end of a list: no initialisers are left, or no elements

pub ends_list : {X : Type 0} (g : X → Initialiser) (of : List Initialiser → Initialisers) → of [] ≡ typed.no_initialisers → (xs : List X) (i k : ℕ)
    → (length xs ≤ i) ⊎ (k ≡ 0) → (of (map g (drop i xs)) ≡ typed.no_initialisers) ⊎ (k ≡ 0)
ends_list g of none xs i k (inl le) = inl (ap (λ zs. of (map g zs)) (drop_all i xs le) ∙ none)
ends_list g of none xs i k (inr e) = inr e

no_rows : (e : ℕ) → 0 * e ≡ 0
no_rows e = grind arith

goes_on : {A : Type 0} (x : Initialiser) (more : Initialisers) (k : ℕ) → (typed.and_initialiser x more ≡ typed.no_initialisers) ⊎ (suc k ≡ 0) → A
goes_on x more k (inl e) = absurd (let no_such : ⊥ = cc in no_such)
goes_on x more k (inr e) = absurd (omega (arith, e))

pub ends_size : (texts : List (List ℕ)) (rest : Initialisers) (k : ℕ) (lengths : List ℕ) → (rest ≡ typed.no_initialisers) ⊎ (k ≡ 0)
    → fill_all_size texts rest k lengths ≡ clears_size (k * elements_in lengths)
ends_size texts typed.no_initialisers k lengths ends = refl
ends_size texts (typed.and_initialiser x more) zero lengths ends = sym (ap clears_size (no_rows (elements_in lengths)))
ends_size texts (typed.and_initialiser x more) (suc k) lengths ends = goes_on x more k ends

ends_stand : (w : List Instruction) (p : typed.Program) (f : typed.Function) (rest : Initialisers) (t : IntType) (k : ℕ) (lengths : List ℕ) (n i pc pc2 : ℕ)
    → (rest ≡ typed.no_initialisers) ⊎ (k ≡ 0) → Clears w t n i (k * elements_in lengths) pc pc2
    → FillAll w p.literals (size_of_place p f) rest t k lengths n i pc pc2
ends_stand w p f typed.no_initialisers t k lengths n i pc pc2 ends h = h
ends_stand w p f (typed.and_initialiser x more) t zero lengths n i pc pc2 ends h = subst (λ c. Clears w t n i c pc pc2) (no_rows (elements_in lengths)) h
ends_stand w p f (typed.and_initialiser x more) t (suc k) lengths n i pc pc2 ends h = goes_on x more k ends

-- ---- one value

pub sets_wrote : (p : typed.Program) (f : typed.Function) (u : IntType) (e : Value) (n i : ℕ) (o : Operand) (a : Spot) (kept : Bool) {c0 c1 c2 : List Instruction}
    → o ≡ operand_of e 0 0 → a ≡ place.Element n i u → kept ≡ cuts u Nowhere || keeps u e
    → WroteValue (size_of_place p f) e (mode_of (operand_of e 0 0)) 0 0 c0 c1
    → Wrote (λ w pc pc2. Puts w kept u o a Nowhere 0 pc pc2) (puts_size kept shape.Nowhere) c1 c2
    → Wrote (λ w pc pc2. Sets w p.literals (size_of_place p f) u e n i pc pc2) (sets_size u e) c0 c2
sets_wrote p f u e n i o a kept {c0} {c1} {c2} eo ea ek x0 x1 =
    let y1 = subst (λ b. Wrote (λ w pc pc2. Puts w kept u (operand_of e 0 0) b Nowhere 0 pc pc2) (puts_size kept shape.Nowhere) c1 c2) ea
    (subst (λ b. Wrote (λ w pc pc2. Puts w kept u b a Nowhere 0 pc pc2) (puts_size kept shape.Nowhere) c1 c2) eo x1) in
    two x0 (stored_by u (operand_of e 0 0) (place.Element n i u) Nowhere 0 (keeps u e) kept ek y1)

start_as : (P : Start → Type 0) (s : Start) (t : IntType) (n i : ℕ) → s.element ≡ t → s.array ≡ n → s.number ≡ i → P (record { element = t; array = n; number = i }) → P s
start_as P s t n i e1 e2 e3 x =
    subst (λ k. P (record { element = s.element; array = s.array; number = k })) (sym e3)
    (subst (λ k. P (record { element = s.element; array = k; number = i })) (sym e2) (subst (λ u. P (record { element = u; array = n; number = i })) (sym e1) x))

-- ---- a list, of whose initialisers some are left

-- the instructions written so far, for all of them, where `rest` is left for k more from number i on
pub record Filling (p : typed.Program) (f : typed.Function) (all : Initialisers) (count : ℕ) (lengths : List ℕ) (a : Start)
    (rest : Initialisers) (k : ℕ) (b : Start) (old new : List Instruction) : Type 0 where
  pub begins : Begins old new
  pub short : length new < 4611686018427387904
  pub done : ℕ
  pub grows : length new ≡ length old + done
  pub size : fill_all_size p.literals all count lengths ≡ plus done (fill_all_size p.literals rest k lengths)
  pub stands : (w : List Instruction) (q : ℕ) → Begins new w → FillAll w p.literals (size_of_place p f) rest b.element k lengths b.array b.number (length new) q
      → FillAll w p.literals (size_of_place p f) all a.element count lengths a.array a.number (length old) q

pub none_filled : (p : typed.Program) (f : typed.Function) (all : Initialisers) (count : ℕ) (lengths : List ℕ) (a : Start) (c : List Instruction) → length c < 4611686018427387904
    → Filling p f all count lengths a all count a c c
none_filled p f all count lengths a c l = record {
  begins = begins_all c;
  short = l;
  done = 0;
  grows = omega arith;
  size = sym (all_counts p.literals all count lengths);
  stands = λ w q h x. x;
}

module _ (p : typed.Program) (f : typed.Function) (all : Initialisers) (count : ℕ) (lengths : List ℕ) (a : Start) where
  one_filled : (x : Initialiser) (more : Initialisers) (k : ℕ) (b : Start) {c0 c1 c2 : List Instruction} → Filling p f all count lengths a (typed.and_initialiser x more) (suc k) b c0 c1
      → WroteFills p f x lengths b c1 c2
      → Filling p f all count lengths a more k (record { element = b.element; array = b.array; number = b.number + elements_in lengths }) c0 c2
  one_filled x more k b {c0} {c1} {c2} y z =
      let n = fills_size p.literals x lengths in
      let sum : plus y.done n ≡ y.done + n = plus_is y.done n (length c2) (omega (arith, y.grows, z.grows)) z.short in
      record {
        begins = begins_on y.begins z.begins;
        short = z.short;
        done = y.done + n;
        grows = omega (arith, y.grows, z.grows);
        size = y.size ∙ sym (plus_assoc y.done n (fill_all_size p.literals more k lengths)) ∙ ap (λ m. plus m (fill_all_size p.literals more k lengths)) sum;
        stands = λ w q h r. y.stands w q (begins_on z.begins h) (length c2, z.stands w h, r);
      }

  pub next_filled : {X : Type 0} (g : X → Initialiser) (of : List Initialiser → Initialisers)
      → ((i : Initialiser) (is : List Initialiser) → of (i ∷ is) ≡ typed.and_initialiser i (of is))
      → (xs : List X) (i : ℕ) (x : X) → i < length xs → x ≡ get_or xs i x → (k k2 row : ℕ) (b b2 : Start) {c0 c1 c2 : List Instruction}
      → Filling p f all count lengths a (of (map g (drop i xs))) k b c0 c1 → WroteFills p f (g x) lengths b c1 c2 → row ≡ elements_in lengths
      → k ≡ suc k2 → b2.element ≡ b.element → b2.array ≡ b.array → b2.number ≡ b.number + row
      → Filling p f all count lengths a (of (map g (drop (i + 1) xs))) k2 b2 c0 c2
  next_filled g of step xs i x lt e k k2 row b b2 {c0} {c1} {c2} y z er ek e1 e2 e3 =
      let here : of (map g (drop i xs)) ≡ typed.and_initialiser (g x) (of (map g (drop (i + 1) xs))) =
      ap (λ zs. of (map g zs)) (drop_more xs i x lt) ∙ step (g (get_or xs i x)) (map g (drop (i + 1) xs)) ∙ ap (λ v. typed.and_initialiser (g v) (of (map g (drop (i + 1) xs)))) (sym e) in
      start_as (λ s. Filling p f all count lengths a (of (map g (drop (i + 1) xs))) k2 s c0 c2) b2 b.element b.array (b.number + elements_in lengths) e1 e2 (e3 ∙ ap (λ n. b.number + n) er)
      (one_filled (g x) (of (map g (drop (i + 1) xs))) k2 b (subst (λ n. Filling p f all count lengths a (typed.and_initialiser (g x) (of (map g (drop (i + 1) xs)))) n b c0 c1) ek
      (subst (λ r. Filling p f all count lengths a r k b c0 c1) here y)) z)

  -- what is left of the elements becomes zero, where no initialisers are left or no elements
  rest_filled : (rest : Initialisers) (k : ℕ) (b : Start) {c0 c1 c2 : List Instruction} → (rest ≡ typed.no_initialisers) ⊎ (k ≡ 0)
      → Filling p f all count lengths a rest k b c0 c1 → WroteClears (k * elements_in lengths) b c1 c2 → WroteFillAll p f all count lengths a c0 c2
  rest_filled rest k b {c0} {c1} {c2} ends y z =
      let n = clears_size (k * elements_in lengths) in
      let left : fill_all_size p.literals rest k lengths ≡ n = ends_size p.literals rest k lengths ends in
      let sum : plus y.done n ≡ y.done + n = plus_is y.done n (length c2) (omega (arith, y.grows, z.grows)) z.short in
      let size : fill_all_size p.literals all count lengths ≡ y.done + n = y.size ∙ ap (λ m. plus y.done m) left ∙ sum in
      record {
        begins = begins_on y.begins z.begins;
        grows = omega (arith, y.grows, z.grows, size);
        short = z.short;
        stands = λ w h. y.stands w (length c2) (begins_on z.begins h) (ends_stand w p f rest b.element k lengths b.array b.number (length c1) (length c2) ends (z.stands w h));
      }

  pub all_filled : {X : Type 0} (g : X → Initialiser) (of : List Initialiser → Initialisers) → of [] ≡ typed.no_initialisers
      → (xs : List X) (i : ℕ) (k rest : ℕ) (b : Start) {c0 c1 c2 : List Instruction} → (length xs ≤ i) ⊎ (k ≡ 0)
      → Filling p f all count lengths a (of (map g (drop i xs))) k b c0 c1 → rest ≡ k * elements_in lengths → WroteClears rest b c1 c2
      → WroteFillAll p f all count lengths a c0 c2
  all_filled g of none xs i k rest b {c0} {c1} {c2} ends y e x =
      rest_filled (of (map g (drop i xs))) k b (ends_list g of none xs i k ends) y (subst (λ n. WroteClears n b c1 c2) e x)
