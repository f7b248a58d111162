-- Elements that are written one after the other.
use Rattle.std.proofs.Common.{◌≡◌, inl, inr, ℕ, zero, suc, ◌+◌, ◌<◌, ◌≤◌, List, [], Option, Some, None, ℤ, refl, sym, ap, ◌∙◌, subst, arith}
use Rattle.ctypes.specs.declared.types.IntType.{IntType}
use Rattle.ctypes.specs.Types.{IsValueOf}
use Rattle.typing_spec.specs.Types.{elements_in}
use Rattle.csem.specs.Store.{Tree, Element, put_at}
use Rattle.tac_code.specs.Run.{path_of, first_of}
use Rattle.lower_correct.proofs.Shapes.{HasShape, Leads, shape_put}
use Rattle.lower_correct.proofs.Elements.{path_there, first_within}
use Rattle.lower_correct.proofs.Elementwise.{value_no, cases, put_inside, put_outside}

-- ---- one element

abbrev pub set_at : Option (List ℕ) → ℤ → Tree → Tree
set_at None v tree = tree
set_at (Some path) v tree = put_at path (Element (Some v)) tree

abbrev pub set_no : Tree → ℕ → ℤ → Tree
set_no tree i v = set_at (path_of tree i) v tree

pub set_shape : (t : IntType) (l : List ℕ) (tree : Tree) (i : ℕ) (v : ℤ) → HasShape t l tree → i < elements_in l → IsValueOf t v → HasShape t l (set_no tree i v)
set_shape t l tree i v h lt hv =
    let p = path_there t l tree i h lt in
    subst (λ o. HasShape t l (set_at o v tree)) (sym p.is) (shape_put p.path t l [] tree (Element (Some v)) p.leads h hv)

pub set_here : (t : IntType) (l : List ℕ) (tree : Tree) (i : ℕ) (v : ℤ) → HasShape t l tree → i < elements_in l → IsValueOf t v → value_no (set_no tree i v) i ≡ Some v
set_here t l tree i v h lt hv =
    let p = path_there t l tree i h lt in
    ap (λ o. value_no (set_at o v tree) i) p.is
    ∙ (ap (value_no (put_at p.path (Element (Some v)) tree)) (let z : i ≡ i + 0 = omega arith in z)
    ∙ (ap (λ n. value_no (put_at p.path (Element (Some v)) tree) (n + 0)) (sym p.first) ∙ put_inside t p.path l [] tree (Element (Some v)) 0 h p.leads hv (omega arith)))

above : (i j : ℕ) → i ≤ j → (j ≡ i → ⊥) → i + 1 ≤ j
above i j ge ne = cases i j (λ lt. omega (arith, lt)) (λ le. absurd (ne (omega (arith, le, ge))))

pub set_elsewhere : (t : IntType) (l : List ℕ) (tree : Tree) (i j : ℕ) (v : ℤ) → HasShape t l tree → i < elements_in l → IsValueOf t v → j < elements_in l → (j ≡ i → ⊥)
    → value_no (set_no tree i v) j ≡ value_no tree j
set_elsewhere t l tree i j v h lt hv lj ne =
    let p = path_there t l tree i h lt in
    ap (λ o. value_no (set_at o v tree) j) p.is
    ∙ cases j i
    (λ less. put_outside t p.path l [] tree (Element (Some v)) j h p.leads hv lj (inl (omega (arith, less, p.first))))
    (λ ge. put_outside t p.path l [] tree (Element (Some v)) j h p.leads hv lj (inr (omega (arith, above i j ge ne, p.first))))

-- ---- c elements from number `first` on, by the values that a function gives for each

abbrev pub written : Tree → (first c : ℕ) → (ℕ → ℤ) → Tree
written tree first zero give = tree
written tree first (suc c) give = set_no (written tree first c give) (first + c) (give c)

pub record IsWritten (t : IntType) (l : List ℕ) (old new : Tree) (first c : ℕ) (give : ℕ → ℤ) : Type 0 where
  pub shape : HasShape t l new
  pub inside : (j : ℕ) → j < c → value_no new (first + j) ≡ Some (give j)
  pub before : (i : ℕ) → i < first → value_no new i ≡ value_no old i
  pub behind : (i : ℕ) → first + c ≤ i → i < elements_in l → value_no new i ≡ value_no old i

pub is_written : (t : IntType) (l : List ℕ) (tree : Tree) (first c : ℕ) (give : ℕ → ℤ) → HasShape t l tree → first + c ≤ elements_in l
    → ((j : ℕ) → j < c → IsValueOf t (give j)) → IsWritten t l tree (written tree first c give) first c give
is_written t l tree first zero give h room each = record {
  shape = h;
  inside = λ j lt. absurd (omega (arith, lt));
  before = λ i lt. refl;
  behind = λ i ge lt. refl;
}
is_written t l tree first (suc c) give h room each =
    let old = written tree first c give in
    let more = is_written t l tree first c give h (omega (arith, room)) (λ j lt. each j (omega (arith, lt))) in
    let here : first + c < elements_in l = omega (arith, room) in
    let fits = each c (omega arith) in record {
      shape = set_shape t l old (first + c) (give c) more.shape here fits;
      inside = λ j lt. cases j c
          (λ less. set_elsewhere t l old (first + c) (first + j) (give c) more.shape here fits (omega (arith, less, here)) (λ e. omega (arith, e, less)) ∙ more.inside j less)
          (λ ge. let same : j ≡ c = omega (arith, ge, lt) in
          subst (λ n. value_no (set_no old (first + c) (give c)) (first + n) ≡ Some (give n)) (sym same) (set_here t l old (first + c) (give c) more.shape here fits));
      before = λ i lt. set_elsewhere t l old (first + c) i (give c) more.shape here fits (omega (arith, lt, here)) (λ e. omega (arith, e, lt)) ∙ more.before i lt;
      behind = λ i ge lt. set_elsewhere t l old (first + c) i (give c) more.shape here fits lt (λ e. omega (arith, e, ge)) ∙ more.behind i (omega (arith, ge)) lt;
    }

-- ---- rows that become zero (6.7.9p10, p21)

-- a part put in the place of another, of the same shape
pub record IsPut (t : IntType) (l : List ℕ) (old new : Tree) (first c : ℕ) (part : Tree) : Type 0 where
  pub shape : HasShape t l new
  pub inside : (j : ℕ) → j < c → value_no new (first + j) ≡ value_no part j
  pub before : (i : ℕ) → i < first → value_no new i ≡ value_no old i
  pub behind : (i : ℕ) → first + c ≤ i → i < elements_in l → value_no new i ≡ value_no old i

pub is_put : (t : IntType) (path l rest : List ℕ) (old new : Tree) → HasShape t l old → Leads path l rest → HasShape t rest new
    → IsPut t l old (put_at path new old) (first_of old path) (elements_in rest) new
is_put t path l rest old new h lead g = record {
  shape = shape_put path t l rest old new lead h g;
  inside = λ j lt. put_inside t path l rest old new j h lead g lt;
  before = λ i lt. put_outside t path l rest old new i h lead g (let room = first_within t path l rest old h lead in omega (arith, lt, room)) (inl lt);
  behind = λ i ge lt. put_outside t path l rest old new i h lead g lt (inr ge);
}
