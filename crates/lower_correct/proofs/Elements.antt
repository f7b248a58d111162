-- Elements by their numbers, in memory order: where they are, and trees that have the same ones (ISO/IEC 9899:2011 6.5.2.1p3).
use Rattle.std.proofs.Common.{◌≡◌, ℕ, zero, suc, ◌+◌, ◌-◌, ◌*◌, ◌<◌, ◌≤◌, List, [], ◌∷◌, ◌++◌, Some, Bool, true, false, refl, ap, ◌∙◌, subst, arith}
use Rattle.std.specs.Prelude.{option_map, nat_lt, if◌then◌else◌}
use Rattle.std.proofs.lemmas.Bool.Decides.{nat_tests}
use Rattle.ctypes.specs.declared.types.IntType.{IntType}
use Rattle.typing_spec.specs.Types.{elements_in}
use Rattle.csem.specs.Store.{Tree, Element, Array, Row, no_parts, and_part, part_of, at_path}
use Rattle.tac_code.specs.Run.{elements_of, path_of, path_in, first_of, first_in}
use Rattle.lower_correct.proofs.Shapes.{HasShape, RowHas, Leads, elements_are}

pub is_less : (i e : ℕ) → i < e → nat_lt i e ≡ true
is_less i e h = grind (arith, nat_tests)

pub no_less : (i e : ℕ) → e ≤ i → nat_lt i e ≡ false
no_less i e h = grind (arith, nat_tests)

pub less : (i e : ℕ) → nat_lt i e ≡ true → i < e
less i e h = grind (arith, nat_tests)

pub at_least : (i e : ℕ) → nat_lt i e ≡ false → e ≤ i
at_least i e h = grind (arith, nat_tests)

-- ---- each element has a path

pub record PathTo (l : List ℕ) (tree : Tree) (i : ℕ) : Type 0 where
  pub path : List ℕ
  pub is : path_of tree i ≡ Some path
  pub leads : Leads path l []
  pub first : first_of tree path ≡ i

-- in a row of n parts, the first of which has number k
record PathIn (n : ℕ) (l : List ℕ) (row : Row) (k i : ℕ) : Type 0 where
  pub part : ℕ
  pub rest : List ℕ
  pub is : path_in row k i ≡ Some ((k + part) ∷ rest)
  pub below : part < n
  pub leads : Leads rest l []
  pub first : first_in row part rest ≡ i

pub if_true : {A : Type 0} (b : Bool) (x y : A) → b ≡ true → (if b then x else y) ≡ x
if_true b x y e = ap (λ c. if c then x else y) e

pub if_false : {A : Type 0} (b : Bool) (x y : A) → b ≡ false → (if b then x else y) ≡ y
if_false b x y e = ap (λ c. if c then x else y) e

first_number : (k : ℕ) → k ≡ k + 0
first_number k = omega arith

next_number : (k p : ℕ) → suc k + p ≡ k + suc p
next_number k p = omega arith

from_zero : (p : ℕ) → 0 + p ≡ p
from_zero p = omega arith

-- in the first part, or after it
one_of_row : (t : IntType) (n : ℕ) (l : List ℕ) (part : Tree) (row : Row) (k i : ℕ) → elements_of part ≡ elements_in l → i < suc n * elements_in l
    → (i < elements_in l → PathTo l part i) → ((j : ℕ) → j < n * elements_in l → PathIn n l row (suc k) j) → PathIn (suc n) l (and_part part row) k i
one_of_row t n l part row k i size lt here more = by_test (nat_lt i (elements_of part)) refl
  where
    by_test : (b : Bool) → nat_lt i (elements_of part) ≡ b → PathIn (suc n) l (and_part part row) k i
    by_test true e =
        let one = here (subst (λ m. i < m) size (less i (elements_of part) e)) in
        record {
          part = 0;
          rest = one.path;
          is = if_true (nat_lt i (elements_of part)) (option_map (λ path. k ∷ path) (path_of part i)) (path_in row (suc k) (i - elements_of part)) e
              ∙ (ap (option_map (λ path. k ∷ path)) one.is ∙ ap (λ j. Some (j ∷ one.path)) (first_number k));
          below = omega arith;
          leads = one.leads;
          first = one.first;
        }
    by_test false e =
        let ge = at_least i (elements_of part) e in
        let sum : suc n * elements_in l ≡ elements_in l + n * elements_in l = grind arith in
        let others = more (i - elements_of part) (omega (arith, lt, ge, size, sum)) in
        record {
          part = suc others.part;
          rest = others.rest;
          is = if_false (nat_lt i (elements_of part)) (option_map (λ path. k ∷ path) (path_of part i)) (path_in row (suc k) (i - elements_of part)) e
              ∙ (others.is ∙ ap (λ j. Some (j ∷ others.rest)) (next_number k others.part));
          below = omega (arith, others.below);
          leads = others.leads;
          first = omega (arith, others.first, ge);
        }

mutual
  pub path_there : (t : IntType) (l : List ℕ) (tree : Tree) (i : ℕ) → HasShape t l tree → i < elements_in l → PathTo l tree i
  path_there t [] (Element v) zero h lt = record { path = []; is = refl; leads = refl; first = refl }
  path_there t [] (Element v) (suc i) h lt = absurd (omega (arith, lt))
  path_there t [] (Array row) i h lt = absurd h
  path_there t (n ∷ l) (Element v) i h lt = absurd h
  path_there t (n ∷ l) (Array row) i h lt =
      let f = path_there_in t n l row 0 i h lt in
      record { path = f.part ∷ f.rest; is = f.is ∙ ap (λ j. Some (j ∷ f.rest)) (from_zero f.part); leads = (f.below, f.leads); first = f.first }

  path_there_in : (t : IntType) (n : ℕ) (l : List ℕ) (row : Row) (k i : ℕ) → RowHas t n l row → i < n * elements_in l → PathIn n l row k i
  path_there_in t zero l row k i h lt = absurd (let z : 0 * elements_in l ≡ 0 = grind arith in omega (arith, lt, z))
  path_there_in t (suc n) l no_parts k i h lt = absurd h
  path_there_in t (suc n) l (and_part part row) k i h lt =
      one_of_row t n l part row k i (elements_are t l part h.0) lt (λ small. path_there t l part i h.0 small) (λ j small. path_there_in t n l row (suc k) j h.1 small)

-- ---- elements of a part

pub none_first : (tree : Tree) → first_of tree [] ≡ 0
none_first (Element v) = refl
none_first (Array row) = refl

mutual
  -- a part's elements are within the whole
  pub first_within : (t : IntType) (path l rest : List ℕ) (tree : Tree) → HasShape t l tree → Leads path l rest → first_of tree path + elements_in rest ≤ elements_in l
  first_within t [] l rest tree h lead =
      let same : elements_in l ≡ elements_in rest = ap elements_in lead in omega (arith, same, none_first tree)
  first_within t (j ∷ path) [] rest tree h lead = absurd lead
  first_within t (j ∷ path) (n ∷ l) rest (Element v) h lead = absurd h
  first_within t (j ∷ path) (n ∷ l) rest (Array row) h lead = first_within_in t n j path l rest row h lead.0 lead.1

  first_within_in : (t : IntType) (n j : ℕ) (path l rest : List ℕ) (row : Row) → RowHas t n l row → j < n → Leads path l rest
      → first_in row j path + elements_in rest ≤ n * elements_in l
  first_within_in t zero j path l rest row h lt lead = absurd (omega (arith, lt))
  first_within_in t (suc n) j path l rest no_parts h lt lead = absurd h
  first_within_in t (suc n) zero path l rest (and_part part row) h lt lead =
      let one = first_within t path l rest part h.0 lead in
      let sum : suc n * elements_in l ≡ elements_in l + n * elements_in l = grind arith in
      omega (arith, one, sum)
  first_within_in t (suc n) (suc j) path l rest (and_part part row) h lt lead =
      let more = first_within_in t n j path l rest row h.1 (omega (arith, lt)) lead in
      let size = elements_are t l part h.0 in
      let sum : suc n * elements_in l ≡ elements_in l + n * elements_in l = grind arith in
      omega (arith, more, size, sum)

mutual
  -- element c of a part is the one that is c elements after the part's first one
  pub through : (t : IntType) (path l rest : List ℕ) (tree sub : Tree) (c : ℕ) (inner : List ℕ) → HasShape t l tree → Leads path l rest
      → at_path (Some tree) path ≡ Some sub → path_of sub c ≡ Some inner → c < elements_in rest → path_of tree (first_of tree path + c) ≡ Some (path ++ inner)
  through t [] l rest tree sub c inner h lead at is lt =
      let same : tree ≡ sub = cc in
      ap (λ n. path_of tree (n + c)) (none_first tree) ∙ (ap (path_of tree) (let z : 0 + c ≡ c = omega arith in z) ∙ (ap (λ x. path_of x c) same ∙ is))
  through t (j ∷ path) [] rest tree sub c inner h lead at is lt = absurd lead
  through t (j ∷ path) (n ∷ l) rest (Element v) sub c inner h lead at is lt = absurd h
  through t (j ∷ path) (n ∷ l) rest (Array row) sub c inner h lead at is lt =
      through_in t n j path l rest row 0 sub c inner h lead.0 lead.1 at is lt ∙ ap (λ m. Some (m ∷ path ++ inner)) (from_zero j)

  through_in : (t : IntType) (n j : ℕ) (path l rest : List ℕ) (row : Row) (k : ℕ) (sub : Tree) (c : ℕ) (inner : List ℕ) → RowHas t n l row → j < n
      → Leads path l rest → at_path (part_of row j) path ≡ Some sub → path_of sub c ≡ Some inner → c < elements_in rest
      → path_in row k (first_in row j path + c) ≡ Some ((k + j) ∷ path ++ inner)
  through_in t zero j path l rest row k sub c inner h lt lead at is small = absurd (omega (arith, lt))
  through_in t (suc n) j path l rest no_parts k sub c inner h lt lead at is small = absurd h
  through_in t (suc n) zero path l rest (and_part part row) k sub c inner h lt lead at is small =
      let i = first_of part path + c in
      let within = first_within t path l rest part h.0 lead in
      let size = elements_are t l part h.0 in
      let b : nat_lt i (elements_of part) ≡ true = is_less i (elements_of part) (omega (arith, within, size, small)) in
      if_true (nat_lt i (elements_of part)) (option_map (λ path. k ∷ path) (path_of part i)) (path_in row (suc k) (i - elements_of part)) b
      ∙ (ap (option_map (λ path. k ∷ path)) (through t path l rest part sub c inner h.0 lead at is small) ∙ ap (λ m. Some (m ∷ path ++ inner)) (first_number k))
  through_in t (suc n) (suc j) path l rest (and_part part row) k sub c inner h lt lead at is small =
      let i = elements_of part + first_in row j path + c in
      let b : nat_lt i (elements_of part) ≡ false = no_less i (elements_of part) (omega arith) in
      let less : i - elements_of part ≡ first_in row j path + c = omega arith in
      if_false (nat_lt i (elements_of part)) (option_map (λ path. k ∷ path) (path_of part i)) (path_in row (suc k) (i - elements_of part)) b
      ∙ (ap (path_in row (suc k)) less
      ∙ (through_in t n j path l rest row (suc k) sub c inner h.1 (omega (arith, lt)) lead at is small ∙ ap (λ m. Some (m ∷ path ++ inner)) (next_number k j)))
