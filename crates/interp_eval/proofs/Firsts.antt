-- The results of initialisers.
use Rattle.std.proofs.Common.{◌≡◌, ◌≤◌, ◌<◌, ◌⊎◌, inl, inr, ℕ, zero, suc, ◌+◌, ◌-◌, ◌*◌, List, [], ◌∷◌, drop, get_or, length, map, Option, Some, refl, sym, ap, ◌∙◌, subst, arith}
use Rattle.std.specs.Prelude.{min, true}
use Rattle.std.proofs.lemmas.Bool.{and_parts, cases_lt}
use Rattle.ctypes.specs.declared.types.IntType.{IntType}
use Rattle.typing_spec.specs.Types.{elements_in}
use Rattle.typing_spec.specs.Program as typed
use Rattle.typed_ast.specs.declared.initialisers.Initialiser.{Initialiser}
use Rattle.typed_ast.specs.View.{initialiser_of, initialisers_of}
use Rattle.csem.specs.Store.{Reference, into}
use Rattle.csem.specs.Machine.{State, Run, then_do}
use Rattle.csem.specs.Statements.{clear}
use Rattle.interp_store.specs.declared.scene.Scene.{Scene}
use Rattle.interp_store.specs.layer.Frames.{Found}
use Rattle.interp_eval.specs.declared.clock.Clock.{Clock}
use Rattle.interp_eval.specs.layer.Comes.{Course, Leads, Comes, all_initialised, initialised, nothing}
use Rattle.interp_eval.specs.layer.Quick.{quick_initialiser, quick_initialisers}
use Rattle.interp_eval.proofs.Comings.{gone_on, leads_as}
use Rattle.interp_eval.proofs.Work.{work_initialiser, work_initialisers}

-- the parts of a braced list
abbrev pub these : List Initialiser → typed.Initialisers
these xs = initialisers_of (map initialiser_of xs)

module _ (c : Course) (k : ℕ) (scene : Scene) (p : typed.Program) (t : IntType) (r : Reference) (rest : Unit {0} → State → Run Found) where
  -- none is left
  pub parts_end : (n i : ℕ) (inner : List ℕ) (xs : List Initialiser) → length xs ≡ 0 → Leads c k scene (all_initialised (these xs) t n i inner r p) rest →
      Leads c k scene (clear n i inner r) rest
  parts_end n i inner [] e h = h
  parts_end n i inner (x ∷ xs) e h = absurd (omega (arith, e))

  -- at the same number
  pub parts_at : (all : typed.Initialisers) (n m i j : ℕ) (inner : List ℕ) → n ≡ m → i ≡ j → Leads c k scene (all_initialised all t n i inner r p) rest →
      Leads c k scene (all_initialised all t m j inner r p) rest
  parts_at all n m i j inner e f h =
      leads_as c k scene (all_initialised all t n i inner r p) (all_initialised all t m j inner r p) rest
      (λ s. ap (λ n. all_initialised all t n i inner r p s) e ∙ ap (λ i. all_initialised all t m i inner r p s) f) h

-- ---- how many elements, up to a number

counted_from : (ls : List ℕ) (i : ℕ) → i < length ls → elements_in (drop i ls) ≡ get_or ls i 0 * elements_in (drop (suc i) ls)
counted_from [] i h = absurd (omega (arith, h))
counted_from (n ∷ ls) zero h = refl
counted_from (n ∷ ls) (suc i) h = counted_from ls i (omega (arith, h))

no_length : (ls : List ℕ) (i : ℕ) → length ls ≤ i → elements_in (drop i ls) ≡ 1
no_length [] zero h = refl
no_length [] (suc i) h = refl
no_length (n ∷ ls) zero h = absurd (omega (arith, h))
no_length (n ∷ ls) (suc i) h = no_length ls i (omega (arith, h))

-- a product of what is capped is capped alike
capped : (a r most : ℕ) → min (min a most * r) most ≡ min (a * r) most
capped a r most = by_size (cases_lt a most)
  where
    by_factor : (r : ℕ) → most ≤ a → min (min a most * r) most ≡ min (a * r) most
    by_factor zero h =
        let one : min a most * 0 ≡ 0 = grind arith in
        let other : a * 0 ≡ 0 = grind arith in
        ap (λ x. min x most) (one ∙ sym other)
    by_factor (suc r) h =
        let is : min a most ≡ most = omega (arith, h) in
        let one : most ≤ most * suc r = grind arith in
        let other : a ≤ a * suc r = grind arith in
        ap (λ x. min (x * suc r) most) is ∙ omega (arith, h, one, other)

    by_size : (a < most) ⊎ (most ≤ a) → min (min a most * r) most ≡ min (a * r) most
    by_size (inl h) = let is : min a most ≡ a = omega (arith, h) in ap (λ x. min (x * r) most) is
    by_size (inr h) = by_factor r h

-- one length more
pub one_counted : (ls : List ℕ) (i product next most whole : ℕ) → i < length ls → next ≡ min (product * get_or ls i 0) most →
    min (product * elements_in (drop i ls)) most ≡ whole → min (next * elements_in (drop (i + 1) ls)) most ≡ whole
one_counted ls i product next most whole h e all =
    let rest = elements_in (drop (suc i) ls) in
    let number : i + 1 ≡ suc i = omega arith in
    let around : (product * get_or ls i 0) * rest ≡ product * (get_or ls i 0 * rest) = grind arith in
    ap (λ k. min (next * elements_in (drop k ls)) most) number ∙ ap (λ x. min (x * rest) most) e ∙ capped (product * get_or ls i 0) rest most
    ∙ ap (λ x. min x most) (around ∙ ap (λ x. product * x) (sym (counted_from ls i h))) ∙ all

pub all_counted : (ls : List ℕ) (i product most whole : ℕ) → length ls ≤ i → min (product * elements_in (drop i ls)) most ≡ whole → min product most ≡ whole
all_counted ls i product most whole h all =
    let one : product * 1 ≡ product = grind arith in
    ap (λ x. min x most) (sym one ∙ sym (ap (λ x. product * x) (no_length ls i h))) ∙ all

-- as many ticks as elements
pub as_many : (lengths inner : List ℕ) (k count : ℕ) → inner ≡ lengths → count ≡ k → count * elements_in inner ≡ k * elements_in lengths
as_many lengths inner k count e f = ap (λ k. k * elements_in inner) f ∙ ap (λ l. k * elements_in l) e

-- zeros behind the same number of parts
pub clears_at : (c : Course) (k : ℕ) (scene : Scene) (r : Reference) (rest : Unit {0} → State → Run Found) (n m i j : ℕ) (inner : List ℕ) → n ≡ m → i ≡ j →
    Leads c k scene (clear n i inner r) rest → Leads c k scene (clear m j inner r) rest
clears_at c k scene r rest n m i j inner e f h =
    leads_as c k scene (clear n i inner r) (clear m j inner r) rest (λ s. ap (λ n. clear n i inner r s) e ∙ ap (λ i. clear m i inner r s) f) h

-- ---- one part more

one_less : (xs : List Initialiser) (x : Initialiser) (more : List Initialiser) → xs ≡ x ∷ more → length xs ≡ suc (length more)
one_less xs x more e = ap (λ (xs : List Initialiser). length xs) e

module _ (c : Course) (k n : ℕ) (scene : Scene) (p : typed.Program) (t : IntType) (r : Reference) (inner : List ℕ) (rest : Unit {0} → State → Run Found)
    (all xs : List Initialiser) (x : Initialiser) (more : List Initialiser) (e : xs ≡ x ∷ more)
    (h : Leads c k scene (all_initialised (these xs) t (n - (length all - length xs)) (length all - length xs) inner r p) rest)
    (lengths : List ℕ) (to : Reference) (same : lengths ≡ inner) (is : to ≡ into r (length all - length xs)) where
  abbrev part_of : ℕ → List ℕ → Reference → State → Run (Unit {0})
  part_of i lengths to s = then_do (initialised (initialiser_of x) t lengths to p s) (λ u s. all_initialised (these more) t (n - i - 1) (suc i) inner r p s)

  split : (i : ℕ) → Leads c k scene (all_initialised (these xs) t (n - i) i inner r p) rest → Leads c k scene (part_of i inner (into r i)) rest
  split i h = let P : List Initialiser → Type 0 = λ xs. Leads c k scene (all_initialised (these xs) t (n - i) i inner r p) rest in subst P e h

  -- it comes first
  pub part_first : Leads c k scene (part_of (length all - length xs) lengths to) rest
  part_first =
      let i = length all - length xs in
      leads_as c k scene (part_of i inner (into r i)) (part_of i lengths to) rest
      (λ s. ap (λ l. part_of i l (into r i) s) (sym same) ∙ ap (λ to. part_of i lengths to s) (sym is)) (split i h)

  -- and the others are left
  pub parts_left : length xs ≤ length all → (limit : ℕ) (result : Option (Unit {0})) (u : Unit {0}) (new : Clock) (later : Scene) → result ≡ Some u →
      ((rest2 : Unit {0} → State → Run Found) → Leads c k scene (initialised (initialiser_of x) t lengths to p) rest2 → Comes nothing c rest2 limit result new later) →
      Leads c new.spent later (all_initialised (these more) t (n - (length all - length more)) (length all - length more) inner r p) rest
  parts_left below limit result u new later some does =
      let less = one_less xs x more e in
      let i = length all - length xs in
      let left : n - i - 1 ≡ n - (length all - length more) = omega (arith, less, below) in
      let next : suc i ≡ length all - length more = omega (arith, less, below) in
      parts_at c new.spent later p t r rest (these more) (n - i - 1) (n - (length all - length more)) (suc i) (length all - length more) inner left next
      (gone_on nothing c limit k scene (initialised (initialiser_of x) t lengths to p) (λ u s. all_initialised (these more) t (n - i - 1) (suc i) inner r p s) rest
      result u new later some does part_first)

-- ---- numbers of parts

module _ (xs : List Initialiser) (x : Initialiser) (more : List Initialiser) (e : xs ≡ x ∷ more) where
  pub one_fewer : (n : ℕ) → length xs ≤ n → length more ≤ n
  one_fewer n h = let less = one_less xs x more e in omega (arith, less, h)

  pub work_more : (n : ℕ) → work_initialisers (these xs) ≤ n → work_initialisers (these more) ≤ n
  work_more n h =
      let P : List Initialiser → Type 0 = λ xs. work_initialisers (these xs) ≤ n in
      let all : work_initialiser (initialiser_of x) + work_initialisers (these more) + 1 ≤ n = subst P e h in
      omega (arith, all)

  -- ---- quick parts

  quick_both : quick_initialisers (these xs) ≡ true → (quick_initialiser (initialiser_of x) ≡ true) × (quick_initialisers (these more) ≡ true)
  quick_both q =
      let P : List Initialiser → Type 0 = λ xs. quick_initialisers (these xs) ≡ true in
      and_parts (quick_initialiser (initialiser_of x)) (quick_initialisers (these more)) (subst P e q)

  pub quick_first : quick_initialisers (these xs) ≡ true → quick_initialiser (initialiser_of x) ≡ true
  quick_first q = (quick_both q).0

  pub quick_more : quick_initialisers (these xs) ≡ true → quick_initialisers (these more) ≡ true
  quick_more q = (quick_both q).1
