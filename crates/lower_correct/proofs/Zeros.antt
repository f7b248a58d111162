-- Rows that become zero one after the other are elements that do (ISO/IEC 9899:2011 6.7.9p10, p21).
use Rattle.std.proofs.Common.{◌≡◌, ℕ, zero, suc, ◌+◌, ◌-◌, ◌*◌, ◌<◌, ◌≤◌, List, [], ◌∷◌, ◌++◌, Some, ℤ, pos, refl, sym, ap, ◌∙◌, subst, arith}
use Rattle.ctypes.specs.declared.types.IntType.{IntType}
use Rattle.ctypes.specs.Types.{IsValueOf}
use Rattle.typing_spec.specs.Types.{elements_in}
use Rattle.csem.specs.Store.{Tree, Element, Array, Row, no_parts, and_part, put_at, filled}
use Rattle.tac_code.specs.Run.{first_of, first_in}
use Rattle.lower_correct.proofs.Shapes.{HasShape, RowHas, Leads, elements_are, filled_has}
use Rattle.lower_correct.proofs.Elements.{none_first}
use Rattle.lower_correct.proofs.Elementwise.{value_no, cases, same_trees, filled_values}
use Rattle.lower_correct.proofs.Written.{written, IsWritten, is_written, is_put}

-- ---- the number of a part's first element, by the lengths alone

abbrev pub number : (lengths path : List ℕ) → ℕ
number [] path = 0
number (n ∷ l) [] = 0
number (n ∷ l) (i ∷ path) = i * elements_in l + number l path

none_before : (l : List ℕ) → number l [] ≡ 0
none_before [] = refl
none_before (n ∷ l) = refl

no_rows : (e x y : ℕ) → x ≡ y → x ≡ 0 * e + y
no_rows e x y h = let z : 0 * e ≡ 0 = grind arith in omega (arith, h, z)

one_row : (j e : ℕ) → suc j * e ≡ e + j * e
one_row j e = grind arith

mutual
  pub first_is : (t : IntType) (path l rest : List ℕ) (tree : Tree) → HasShape t l tree → Leads path l rest → first_of tree path ≡ number l path
  first_is t [] l rest tree h lead = none_first tree ∙ sym (none_before l)
  first_is t (j ∷ path) [] rest tree h lead = absurd lead
  first_is t (j ∷ path) (n ∷ l) rest (Element v) h lead = absurd h
  first_is t (j ∷ path) (n ∷ l) rest (Array row) h lead = first_in_is t n j path l rest row h lead.0 lead.1

  first_in_is : (t : IntType) (n j : ℕ) (path l rest : List ℕ) (row : Row) → RowHas t n l row → j < n → Leads path l rest
      → first_in row j path ≡ j * elements_in l + number l path
  first_in_is t zero j path l rest row h lt lead = absurd (omega (arith, lt))
  first_in_is t (suc n) j path l rest no_parts h lt lead = absurd h
  first_in_is t (suc n) zero path l rest (and_part part row) h lt lead = no_rows (elements_in l) (first_of part path) (number l path) (first_is t path l rest part h.0 lead)
  first_in_is t (suc n) (suc j) path l rest (and_part part row) h lt lead =
      let more = first_in_is t n j path l rest row h.1 (omega (arith, lt)) lead in
      let size = elements_are t l part h.0 in
      let sum = one_row j (elements_in l) in
      omega (arith, more, size, sum)

pub leads_on : (path l : List ℕ) (n i : ℕ) (rest : List ℕ) → Leads path l (n ∷ rest) → i < n → Leads (path ++ i ∷ []) l rest
leads_on [] l n i rest h lt = subst (λ z. Leads (i ∷ []) z rest) (sym h) (lt, refl)
leads_on (j ∷ path) [] n i rest h lt = absurd h
leads_on (j ∷ path) (m ∷ l) n i rest h lt = (h.0, leads_on path l n i rest h.1 lt)

pub number_on : (path l : List ℕ) (n i : ℕ) (rest : List ℕ) → Leads path l (n ∷ rest) → number l (path ++ i ∷ []) ≡ number l path + i * elements_in rest
number_on [] l n i rest h =
    ap (λ z. number z (i ∷ [])) h ∙ (ap (λ m. i * elements_in rest + m) (none_before rest)
    ∙ (let e : i * elements_in rest + 0 ≡ 0 + i * elements_in rest = omega arith in e) ∙ ap (λ m. m + i * elements_in rest) (sym (none_before l)))
number_on (j ∷ path) [] n i rest h = absurd h
number_on (j ∷ path) (m ∷ l) n i rest h = let more = number_on path l n i rest h.1 in omega (arith, more)

-- ---- k rows from number i on

abbrev pub zero_rows : (path : List ℕ) (k i : ℕ) (rest : List ℕ) → Tree → Tree
zero_rows path zero i rest tree = tree
zero_rows path (suc k) i rest tree = zero_rows path k (suc i) rest (put_at (path ++ i ∷ []) (filled (Some (pos 0)) rest) tree)

pub zeroed : (t : IntType) (path l : List ℕ) (n : ℕ) (rest : List ℕ) (k i : ℕ) (tree : Tree) → HasShape t l tree → Leads path l (n ∷ rest) → i + k ≤ n
    → IsValueOf t (pos 0) → IsWritten t l tree (zero_rows path k i rest tree) (number l path + i * elements_in rest) (k * elements_in rest) (λ j. pos 0)
zeroed t path l n rest zero i tree h lead room hv = record {
  shape = h;
  inside = λ j lt. absurd (let z : 0 * elements_in rest ≡ 0 = grind arith in omega (arith, lt, z));
  before = λ j lt. refl;
  behind = λ j ge lt. refl;
}
zeroed t path l n rest (suc k) i tree h lead room hv =
    let e = elements_in rest in
    let one = filled (Some (pos 0)) rest in
    let here = leads_on path l n i rest lead (omega (arith, room)) in
    let put = is_put t (path ++ i ∷ []) l rest tree one h here (filled_has t (Some (pos 0)) rest hv) in
    let first : first_of tree (path ++ i ∷ []) ≡ number l path + i * e = first_is t (path ++ i ∷ []) l rest tree h here ∙ number_on path l n i rest lead in
    let more = zeroed t path l n rest k (suc i) (put_at (path ++ i ∷ []) one tree) put.shape lead (omega (arith, room)) hv in
    let next = one_row i e in
    let all = one_row k e in record {
      shape = more.shape;
      inside = λ j lt. cases j e
          (λ small. more.before (number l path + i * e + j) (omega (arith, small, next))
          ∙ (ap (λ m. value_no (put_at (path ++ i ∷ []) one tree) (m + j)) (sym first) ∙ (put.inside j small ∙ filled_values (Some (pos 0)) rest j small)))
          (λ ge. ap (value_no (zero_rows path (suc k) i rest tree)) (let z : number l path + i * e + j ≡ number l path + suc i * e + (j - e) = omega (arith, ge, next) in z)
          ∙ more.inside (j - e) (omega (arith, ge, lt, all)));
      before = λ j lt. more.before j (omega (arith, lt, next)) ∙ put.before j (omega (arith, lt, first));
      behind = λ j ge lt. more.behind j (omega (arith, ge, next, all)) lt ∙ put.behind j (omega (arith, ge, first, all)) lt;
    }

-- ---- a written object is known by its values

pub same_written : (t : IntType) (l : List ℕ) (old a b : Tree) (first c : ℕ) (give : ℕ → ℤ) → IsWritten t l old a first c give → IsWritten t l old b first c give → a ≡ b
same_written t l old a b first c give h g =
    same_trees t t l a b h.shape g.shape (λ i lt. cases i first
    (λ less. h.before i less ∙ sym (g.before i less))
    (λ ge. cases i (first + c)
    (λ below.
    let at : first + (i - first) ≡ i = omega (arith, ge) in
    let inside : i - first < c = omega (arith, ge, below) in
    ap (value_no a) (sym at) ∙ (h.inside (i - first) inside ∙ (sym (g.inside (i - first) inside) ∙ ap (value_no b) at)))
    (λ behind. h.behind i behind lt ∙ sym (g.behind i behind lt))))

-- rows that become zero are elements that do
pub zeros_are_written : (t : IntType) (path l : List ℕ) (n : ℕ) (rest : List ℕ) (k i : ℕ) (tree : Tree) → HasShape t l tree → Leads path l (n ∷ rest) → i + k ≤ n
    → IsValueOf t (pos 0) → number l path + i * elements_in rest + k * elements_in rest ≤ elements_in l
    → written tree (number l path + i * elements_in rest) (k * elements_in rest) (λ j. pos 0) ≡ zero_rows path k i rest tree
zeros_are_written t path l n rest k i tree h lead room hv fit =
    let first = number l path + i * elements_in rest in
    let c = k * elements_in rest in
    same_written t l tree (written tree first c (λ j. pos 0)) (zero_rows path k i rest tree) first c (λ j. pos 0)
    (is_written t l tree first c (λ j. pos 0) h fit (λ j lt. hv)) (zeroed t path l n rest k i tree h lead room hv)
