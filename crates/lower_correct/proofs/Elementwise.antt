-- Trees by their elements: those of one shape that have the same values are the same, and which values another part changes.
use Rattle.std.proofs.Common.{◌≡◌, ◌⊎◌, inl, inr, ℕ, zero, suc, ◌+◌, ◌-◌, ◌*◌, ◌<◌, ◌≤◌, List, [], ◌∷◌, Option, None, Bool, true, false, ℤ, refl, sym, ap, ◌∙◌, arith}
use Rattle.std.specs.Prelude.{nat_lt, if◌then◌else◌}
use Rattle.ctypes.specs.declared.types.IntType.{IntType}
use Rattle.typing_spec.specs.Types.{elements_in}
use Rattle.csem.specs.Store.{Tree, Element, Array, Row, no_parts, and_part, change_part, put_at, repeated, filled}
use Rattle.tac_code.specs.Run.{elements_of, elements_of_row, first_of, first_in}
use Rattle.lower_correct.proofs.Shapes.{HasShape, RowHas, Leads, elements_are, shape_put}
use Rattle.lower_correct.proofs.Elements.{is_less, no_less, less, at_least, if_true, if_false, none_first, first_within}

-- the value of element i, none where it is indeterminate
abbrev mutual
  pub value_no : Tree → ℕ → Option ℤ
  value_no (Element v) zero = v
  value_no (Element v) (suc i) = None
  value_no (Array row) i = value_no_in row i

  pub value_no_in : Row → ℕ → Option ℤ
  value_no_in no_parts i = None
  value_no_in (and_part t row) i = if nat_lt i (elements_of t) then value_no t i else value_no_in row (i - elements_of t)

-- in the first part, and after it
in_first : (part : Tree) (row : Row) (i : ℕ) → i < elements_of part → value_no_in (and_part part row) i ≡ value_no part i
in_first part row i lt = if_true (nat_lt i (elements_of part)) (value_no part i) (value_no_in row (i - elements_of part)) (is_less i (elements_of part) lt)

past_first : (part : Tree) (row : Row) (i : ℕ) → elements_of part ≤ i → value_no_in (and_part part row) i ≡ value_no_in row (i - elements_of part)
past_first part row i ge = if_false (nat_lt i (elements_of part)) (value_no part i) (value_no_in row (i - elements_of part)) (no_less i (elements_of part) ge)

pub cases : {P : Type 0} (i e : ℕ) → (i < e → P) → (e ≤ i → P) → P
cases {P} i e a b = by_test (nat_lt i e) refl
  where
    by_test : (t : Bool) → nat_lt i e ≡ t → P
    by_test true h = a (less i e h)
    by_test false h = b (at_least i e h)

more_rows : (n e : ℕ) → suc n * e ≡ e + n * e
more_rows n e = grind arith

-- ---- trees with the same values

mutual
  pub same_trees : (t u : IntType) (l : List ℕ) (a b : Tree) → HasShape t l a → HasShape u l b
      → ((i : ℕ) → i < elements_in l → value_no a i ≡ value_no b i) → a ≡ b
  same_trees t u [] (Element v) (Element w) h g each = ap Element (each 0 (omega arith))
  same_trees t u [] (Element v) (Array row) h g each = absurd g
  same_trees t u [] (Array row) b h g each = absurd h
  same_trees t u (n ∷ l) (Element v) b h g each = absurd h
  same_trees t u (n ∷ l) (Array row) (Element v) h g each = absurd g
  same_trees t u (n ∷ l) (Array row) (Array row2) h g each = ap Array (same_rows t u n l row row2 h g each)

  same_rows : (t u : IntType) (n : ℕ) (l : List ℕ) (row row2 : Row) → RowHas t n l row → RowHas u n l row2
      → ((i : ℕ) → i < n * elements_in l → value_no_in row i ≡ value_no_in row2 i) → row ≡ row2
  same_rows t u zero l no_parts no_parts h g each = refl
  same_rows t u zero l no_parts (and_part b row2) h g each = absurd g
  same_rows t u zero l (and_part a row) row2 h g each = absurd h
  same_rows t u (suc n) l no_parts row2 h g each = absurd h
  same_rows t u (suc n) l (and_part a row) no_parts h g each = absurd g
  same_rows t u (suc n) l (and_part a row) (and_part b row2) h g each =
      let size = elements_are t l a h.0 in
      let size2 = elements_are u l b g.0 in
      let sum = more_rows n (elements_in l) in
      let first : a ≡ b = same_trees t u l a b h.0 g.0 (λ i lt.
      sym (in_first a row i (omega (arith, lt, size))) ∙ (each i (omega (arith, lt, sum)) ∙ in_first b row2 i (omega (arith, lt, size2)))) in
      let others : row ≡ row2 = same_rows t u n l row row2 h.1 g.1 (λ i lt.
      let here : value_no_in (and_part a row) (elements_in l + i) ≡ value_no_in row i =
      past_first a row (elements_in l + i) (omega (arith, size)) ∙ ap (value_no_in row) (let z : elements_in l + i - elements_of a ≡ i = omega (arith, size) in z) in
      let there : value_no_in (and_part b row2) (elements_in l + i) ≡ value_no_in row2 i =
      past_first b row2 (elements_in l + i) (omega (arith, size2)) ∙ ap (value_no_in row2) (let z : elements_in l + i - elements_of b ≡ i = omega (arith, size2) in z) in
      sym here ∙ (each (elements_in l + i) (omega (arith, lt, sum)) ∙ there)) in
      ap (λ x. and_part x row) first ∙ ap (λ r. and_part b r) others

-- ---- another part

mutual
  -- its own elements
  pub put_inside : (t : IntType) (path l rest : List ℕ) (old new : Tree) (c : ℕ) → HasShape t l old → Leads path l rest → HasShape t rest new
      → c < elements_in rest → value_no (put_at path new old) (first_of old path + c) ≡ value_no new c
  put_inside t [] l rest old new c h lead g lt = ap (value_no new) (let z : first_of old [] + c ≡ c = omega (arith, none_first old) in z)
  put_inside t (j ∷ path) [] rest old new c h lead g lt = absurd lead
  put_inside t (j ∷ path) (n ∷ l) rest (Element v) new c h lead g lt = absurd h
  put_inside t (j ∷ path) (n ∷ l) rest (Array row) new c h lead g lt = put_inside_in t n j path l rest row new c h lead.0 lead.1 g lt

  put_inside_in : (t : IntType) (n j : ℕ) (path l rest : List ℕ) (row : Row) (new : Tree) (c : ℕ) → RowHas t n l row → j < n → Leads path l rest
      → HasShape t rest new → c < elements_in rest → value_no_in (change_part row j (put_at path new)) (first_in row j path + c) ≡ value_no new c
  put_inside_in t zero j path l rest row new c h lt lead g small = absurd (omega (arith, lt))
  put_inside_in t (suc n) j path l rest no_parts new c h lt lead g small = absurd h
  put_inside_in t (suc n) zero path l rest (and_part part row) new c h lt lead g small =
      let within = first_within t path l rest part h.0 lead in
      let size = elements_are t l (put_at path new part) (shape_put path t l rest part new lead h.0 g) in
      in_first (put_at path new part) row (first_of part path + c) (omega (arith, within, size, small))
      ∙ put_inside t path l rest part new c h.0 lead g small
  put_inside_in t (suc n) (suc j) path l rest (and_part part row) new c h lt lead g small =
      past_first part (change_part row j (put_at path new)) (elements_of part + first_in row j path + c) (omega arith)
      ∙ (ap (value_no_in (change_part row j (put_at path new))) (let z : elements_of part + first_in row j path + c - elements_of part ≡ first_in row j path + c = omega arith in z)
      ∙ put_inside_in t n j path l rest row new c h.1 (omega (arith, lt)) lead g small)

-- before it, or after it
abbrev pub IsOutside : (i first count : ℕ) → Type 0
IsOutside i first count = (i < first) ⊎ (first + count ≤ i)

behind_one : (i e x r : ℕ) → e ≤ i → IsOutside i (e + x) r → IsOutside (i - e) x r
behind_one i e x r le (inl lt) = inl (omega (arith, le, lt))
behind_one i e x r le (inr ge) = inr (omega (arith, le, ge))

mutual
  -- those of others
  pub put_outside : (t : IntType) (path l rest : List ℕ) (old new : Tree) (i : ℕ) → HasShape t l old → Leads path l rest → HasShape t rest new
      → i < elements_in l → IsOutside i (first_of old path) (elements_in rest) → value_no (put_at path new old) i ≡ value_no old i
  put_outside t [] l rest old new i h lead g small (inl lt) = absurd (omega (arith, lt, none_first old))
  put_outside t [] l rest old new i h lead g small (inr ge) = absurd (let same : elements_in l ≡ elements_in rest = ap elements_in lead in omega (arith, ge, small, same))
  put_outside t (j ∷ path) [] rest old new i h lead g small out = absurd lead
  put_outside t (j ∷ path) (n ∷ l) rest (Element v) new i h lead g small out = absurd h
  put_outside t (j ∷ path) (n ∷ l) rest (Array row) new i h lead g small out = put_outside_in t n j path l rest row new i h lead.0 lead.1 g out

  put_outside_in : (t : IntType) (n j : ℕ) (path l rest : List ℕ) (row : Row) (new : Tree) (i : ℕ) → RowHas t n l row → j < n → Leads path l rest
      → HasShape t rest new → IsOutside i (first_in row j path) (elements_in rest)
      → value_no_in (change_part row j (put_at path new)) i ≡ value_no_in row i
  put_outside_in t zero j path l rest row new i h lt lead g out = absurd (omega (arith, lt))
  put_outside_in t (suc n) j path l rest no_parts new i h lt lead g out = absurd h
  put_outside_in t (suc n) zero path l rest (and_part part row) new i h lt lead g out =
      let new_part = put_at path new part in
      let size : elements_of new_part ≡ elements_in l = elements_are t l new_part (shape_put path t l rest part new lead h.0 g) in
      let old_size = elements_are t l part h.0 in
      cases i (elements_in l)
      (λ small. in_first new_part row i (omega (arith, small, size))
      ∙ (put_outside t path l rest part new i h.0 lead g small out ∙ sym (in_first part row i (omega (arith, small, old_size)))))
      (λ ge. past_first new_part row i (omega (arith, ge, size))
      ∙ (ap (λ n. value_no_in row (i - n)) (size ∙ sym old_size) ∙ sym (past_first part row i (omega (arith, ge, old_size)))))
  put_outside_in t (suc n) (suc j) path l rest (and_part part row) new i h lt lead g out =
      cases i (elements_of part)
      (λ small. in_first part (change_part row j (put_at path new)) i small ∙ sym (in_first part row i small))
      (λ ge. past_first part (change_part row j (put_at path new)) i ge
      ∙ (put_outside_in t n j path l rest row new (i - elements_of part) h.1 (omega (arith, lt)) lead g
      (behind_one i (elements_of part) (first_in row j path) (elements_in rest) ge out)
      ∙ sym (past_first part row i ge)))

-- ---- all alike

row_size : (tree : Tree) (e n : ℕ) → elements_of tree ≡ e → elements_of_row (repeated n tree) ≡ n * e
row_size tree e zero h = omega arith
row_size tree e (suc n) h = let others = row_size tree e n h in let sum = more_rows n e in omega (arith, h, others, sum)

pub filled_size : (v : Option ℤ) (l : List ℕ) → elements_of (filled v l) ≡ elements_in l
filled_size v [] = refl
filled_size v (n ∷ l) = row_size (filled v l) (elements_in l) n (filled_size v l)

row_values : (v : Option ℤ) (tree : Tree) (e n i : ℕ) → elements_of tree ≡ e → ((j : ℕ) → j < e → value_no tree j ≡ v) → i < n * e
    → value_no_in (repeated n tree) i ≡ v
row_values v tree e zero i h each lt = absurd (let z : 0 * e ≡ 0 = grind arith in omega (arith, lt, z))
row_values v tree e (suc n) i h each lt =
    cases i e
    (λ small. in_first tree (repeated n tree) i (omega (arith, small, h)) ∙ each i small)
    (λ ge. past_first tree (repeated n tree) i (omega (arith, ge, h))
    ∙ row_values v tree e n (i - elements_of tree) h each (let sum = more_rows n e in omega (arith, lt, ge, h, sum)))

pub filled_values : (v : Option ℤ) (l : List ℕ) (i : ℕ) → i < elements_in l → value_no (filled v l) i ≡ v
filled_values v [] zero lt = refl
filled_values v [] (suc i) lt = absurd (omega (arith, lt))
filled_values v (n ∷ l) i lt = row_values v (filled v l) (elements_in l) n i (filled_size v l) (filled_values v l) lt
