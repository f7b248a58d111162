-- Arrays as the values of their elements: the part at a path, and the result of a change of elements.
use Rattle.std.proofs.Common.{◌≡◌, ◌≢◌, ℕ, zero, suc, ◌+◌, ◌*◌, ◌<◌, ◌≤◌, ◌⊎◌, inl, inr, List, [], ◌∷◌, length, drop, get_or}
use Rattle.std.proofs.Common.{Option, Some, None, ℤ, pos, refl, sym, ap, ◌∙◌, arith, add-one, drop-cons}
use Rattle.std.proofs.lemmas.Bool.{lt-ltb, le-ltb, cases_lt}
use Rattle.std.specs.Prelude.{slice_get, option_map, IfSome}
use Rattle.typing_spec.specs.Types.{elements_in}
use Rattle.csem.specs.Machine.{choose}
use Rattle.csem.specs.Store as machine
use Rattle.csem.specs.Store.{at_path, part_in, part_of, put_at, with_value, with_zeros, zeroed, zeroed_row, filled}
use Rattle.csem.proofs.InPlace.{put_back, put_nowhere}
use Rattle.interp_store.specs.Cells.{rows, shaped, behind, number}

-- ---- products

pub split_number : (k n i size : ℕ) → (k * n + i) * size ≡ k * (n * size) + i * size
split_number k n i size = grind arith

below : (i n size : ℕ) → i < n → i * size + size ≤ n * size
below i zero size h = absurd (omega arith)
below zero (suc n) size h = grind arith
below (suc i) (suc n) size h = let less : i * size + size ≤ n * size = below i n size (omega arith) in grind arith

-- ---- rows

pub rows_count : (n size : ℕ) (part : ℕ → machine.Tree) (k : ℕ) → machine.parts (rows n size part k) ≡ n
rows_count zero size part k = refl
rows_count (suc n) size part k = ap suc (rows_count n size part (k + size))

rows_part : (n size : ℕ) (part : ℕ → machine.Tree) (k i : ℕ) → i < n → part_of (rows n size part k) i ≡ Some (part (k + i * size))
rows_part zero size part k i h = absurd (omega arith)
rows_part (suc n) size part k zero h = let here : k ≡ k + 0 * size = grind arith in ap (λ k. Some (part k)) here
rows_part (suc n) size part k (suc i) h =
    let on : k + size + i * size ≡ k + suc i * size = grind arith in
    rows_part n size part (k + size) i (omega arith) ∙ ap (λ k. Some (part k)) on

no_part : (n size : ℕ) (part : ℕ → machine.Tree) (k i : ℕ) → n ≤ i → part_of (rows n size part k) i ≡ None
no_part zero size part k i h = refl
no_part (suc n) size part k zero h = absurd (omega arith)
no_part (suc n) size part k (suc i) h = no_part n size part (k + size) i (omega arith)

rows_alike : (n size : ℕ) (part other : ℕ → machine.Tree) (k m : ℕ) → ((i : ℕ) → i < n → part (k + i * size) ≡ other (m + i * size)) → rows n size part k ≡ rows n size other m
rows_alike zero size part other k m each = refl
rows_alike (suc n) size part other k m each =
    let here : (k : ℕ) → k + 0 * size ≡ k = λ k. grind arith in
    let on : (k i : ℕ) → k + suc i * size ≡ k + size + i * size = λ k i. grind arith in
    ap (λ t. machine.and_part t (rows n size part (k + size))) (sym (ap part (here k)) ∙ each 0 (omega arith) ∙ ap other (here m))
    ∙ ap (machine.and_part (other m)) (rows_alike n size part other (k + size) (m + size) (λ i h. sym (ap part (on k i)) ∙ each (suc i) (omega arith) ∙ ap other (on m i)))

rows_repeated : (n size : ℕ) (part : ℕ → machine.Tree) (k : ℕ) (t : machine.Tree) → ((i : ℕ) → i < n → part (k + i * size) ≡ t) → rows n size part k ≡ machine.repeated n t
rows_repeated zero size part k t each = refl
rows_repeated (suc n) size part k t each =
    let here : k + 0 * size ≡ k = grind arith in
    let on : (i : ℕ) → k + suc i * size ≡ k + size + i * size = λ i. grind arith in
    ap (λ u. machine.and_part u (rows n size part (k + size))) (sym (ap part here) ∙ each 0 (omega arith))
    ∙ ap (machine.and_part t) (rows_repeated n size part (k + size) t (λ i h. sym (ap part (on i)) ∙ each (suc i) (omega arith)))

rows_put : (n size : ℕ) (part other : ℕ → machine.Tree) (k i : ℕ) (change : machine.Tree → machine.Tree) → i < n → change (part (k + i * size)) ≡ other (k + i * size) →
    ((j : ℕ) → j < n → (j < i) ⊎ (i < j) → part (k + j * size) ≡ other (k + j * size)) → machine.change_part (rows n size part k) i change ≡ rows n size other k
rows_put zero size part other k i change h here each = absurd (omega arith)
rows_put (suc n) size part other k zero change h here each =
    let at : k + 0 * size ≡ k = grind arith in
    let on : (i : ℕ) → k + suc i * size ≡ k + size + i * size = λ i. grind arith in
    ap (λ t. machine.and_part t (rows n size part (k + size))) (sym (ap (λ k. change (part k)) at) ∙ here ∙ ap other at)
    ∙ ap (machine.and_part (other k)) (rows_alike n size part other (k + size) (k + size) (λ i h. sym (ap part (on i)) ∙ each (suc i) (omega arith) (inr (omega arith)) ∙ ap other (on i)))
rows_put (suc n) size part other k (suc i) change h here each =
    let at : k + 0 * size ≡ k = grind arith in
    let on : (i : ℕ) → k + suc i * size ≡ k + size + i * size = λ i. grind arith in
    ap (λ t. machine.and_part t (machine.change_part (rows n size part (k + size)) i change)) (sym (ap part at) ∙ each 0 (omega arith) (inl (omega arith)) ∙ ap other at)
    ∙ ap (machine.and_part (other k)) (rows_put n size part other (k + size) i change (omega arith) (sym (ap (λ k. change (part k)) (on i)) ∙ here ∙ ap other (on i))
    (λ j h s. sym (ap part (on j)) ∙ each (suc j) (omega arith) (later j i s) ∙ ap other (on j)))
  where
    later : (j i : ℕ) → (j < i) ⊎ (i < j) → (suc j < suc i) ⊎ (suc i < suc j)
    later j i (inl s) = inl (omega arith)
    later j i (inr s) = inr (omega arith)

-- ---- parts

none_behind : (path : List ℕ) → at_path None path ≡ None
none_behind [] = refl
none_behind (i ∷ path) = none_behind path

each_in : (size : ℕ) (vs ws : ℕ → Option ℤ) (n i j k m : ℕ) → i < n → j < size → ((j : ℕ) → j < n * size → vs (k + j) ≡ ws (m + j)) →
    vs (k + i * size + j) ≡ ws (m + i * size + j)
each_in size vs ws n i j k m h s each =
    let fits : i * size + size ≤ n * size = below i n size h in
    let on : (k : ℕ) → k + (i * size + j) ≡ k + i * size + j = λ k. omega arith in
    sym (ap vs (on k)) ∙ each (i * size + j) (omega arith) ∙ ap ws (on m)

-- the same values make the same part
pub same_values : (ls : List ℕ) (vs ws : ℕ → Option ℤ) (k m : ℕ) → ((j : ℕ) → j < elements_in ls → vs (k + j) ≡ ws (m + j)) → shaped ls vs k ≡ shaped ls ws m
same_values [] vs ws k m each =
    let here : (k : ℕ) → k + 0 ≡ k = λ k. omega arith in
    ap machine.Element (sym (ap vs (here k)) ∙ each 0 (omega arith) ∙ ap ws (here m))
same_values (n ∷ ls) vs ws k m each =
    ap machine.Array (rows_alike n (elements_in ls) (shaped ls vs) (shaped ls ws) k m (λ i h. same_values ls vs ws (k + i * elements_in ls) (m + i * elements_in ls)
    (λ j s. each_in (elements_in ls) vs ws n i j k m h s each)))

pub filled_values : (ls : List ℕ) (vs : ℕ → Option ℤ) (k : ℕ) (v : Option ℤ) → ((j : ℕ) → j < elements_in ls → vs (k + j) ≡ v) → shaped ls vs k ≡ filled v ls
filled_values [] vs k v each =
    let here : k + 0 ≡ k = omega arith in
    ap machine.Element (sym (ap vs here) ∙ each 0 (omega arith))
filled_values (n ∷ ls) vs k v each =
    let size = elements_in ls in
    ap machine.Array (rows_repeated n size (shaped ls vs) k (filled v ls) (λ i h. filled_values ls vs (k + i * size) v (λ j s.
    let fits : i * size + size ≤ n * size = below i n size h in
    let on : k + (i * size + j) ≡ k + i * size + j = omega arith in
    sym (ap vs on) ∙ each (i * size + j) (omega arith))))

-- ---- parts after subscripts

in_range : (path : List ℕ) (i n : ℕ) (ls : List ℕ) → i < n → behind (i ∷ path) (n ∷ ls) ≡ behind path ls
in_range path i n ls h = ap (λ b. choose b (behind path ls) None) (lt-ltb i n h)

out_of_range : (path : List ℕ) (i n : ℕ) (ls : List ℕ) → n ≤ i → behind (i ∷ path) (n ∷ ls) ≡ None
out_of_range path i n ls h = ap (λ b. choose b (behind path ls) None) (le-ltb i n h)

-- a part at these subscripts
abbrev pub part_from : (ℕ → Option ℤ) → List ℕ → List ℕ → ℕ → List ℕ → machine.Tree
part_from vs path ls k rest = shaped rest vs (number path ls k * elements_in rest)

pub stands : (path ls : List ℕ) (vs : ℕ → Option ℤ) (k : ℕ) → at_path (Some (shaped ls vs (k * elements_in ls))) path ≡ option_map (part_from vs path ls k) (behind path ls)
stands [] ls vs k = refl
stands (i ∷ path) [] vs k = none_behind path
stands (i ∷ path) (n ∷ ls) vs k = by_range (cases_lt i n) (stands path ls vs (k * n + i))
  where
    size : ℕ
    size = elements_in ls

    by_range : (i < n) ⊎ (n ≤ i) → at_path (Some (shaped ls vs ((k * n + i) * size))) path ≡ option_map (part_from vs path ls (k * n + i)) (behind path ls) →
        at_path (part_of (rows n size (shaped ls vs) (k * (n * size))) i) path ≡ option_map (part_from vs path ls (k * n + i)) (behind (i ∷ path) (n ∷ ls))
    by_range (inl h) inner =
        ap (λ o. at_path o path) (rows_part n size (shaped ls vs) (k * (n * size)) i h)
        ∙ ap (λ k. at_path (Some (shaped ls vs k)) path) (sym (split_number k n i size))
        ∙ inner ∙ ap (option_map (part_from vs path ls (k * n + i))) (sym (in_range path i n ls h))
    by_range (inr h) inner =
        ap (λ o. at_path o path) (no_part n size (shaped ls vs) (k * (n * size)) i h) ∙ none_behind path
        ∙ ap (option_map (part_from vs path ls (k * n + i))) (sym (out_of_range path i n ls h))

-- where there is a part, its subscripts are in range
ranged : (path ls rest : List ℕ) (i n : ℕ) → behind (i ∷ path) (n ∷ ls) ≡ Some rest → i < n
ranged path ls rest i n e = by_range (cases_lt i n)
  where
    by_range : (i < n) ⊎ (n ≤ i) → i < n
    by_range (inl h) = h
    by_range (inr h) = let no : None ≡ Some rest = sym (out_of_range path i n ls h) ∙ e in absurd (cc no)

within : (path ls rest : List ℕ) (k : ℕ) → behind path ls ≡ Some rest →
    (k * elements_in ls ≤ number path ls k * elements_in rest) × (number path ls k * elements_in rest + elements_in rest ≤ k * elements_in ls + elements_in ls)
within [] ls rest k e =
    let same : ls ≡ rest = cc e in
    let size : elements_in ls ≡ elements_in rest = ap elements_in same in
    let place : k * elements_in ls ≡ k * elements_in rest = ap (λ x. k * x) size in
    (omega arith, omega arith)
within (i ∷ path) [] rest k e = absurd (cc e)
within (i ∷ path) (n ∷ ls) rest k e =
    let size = elements_in ls in
    let h : i < n = ranged path ls rest i n e in
    let inner : ((k * n + i) * size ≤ number path ls (k * n + i) * elements_in rest) × (number path ls (k * n + i) * elements_in rest + elements_in rest ≤ (k * n + i) * size + size) =
    within path ls rest (k * n + i) (sym (in_range path i n ls h) ∙ e) in
    let place : (k * n + i) * size ≡ k * (n * size) + i * size = split_number k n i size in
    let fits : i * size + size ≤ n * size = below i n size h in
    (omega (arith, inner.0), omega (arith, inner.1))

-- ---- another part in its place

module _ (vs ws : ℕ → Option ℤ) (rest : List ℕ) (new : machine.Tree) where
  pub put_in_values : (path ls : List ℕ) (k f : ℕ) → behind path ls ≡ Some rest → f ≡ number path ls k * elements_in rest → shaped rest ws f ≡ new →
      ((j : ℕ) → (j < f) ⊎ (f + elements_in rest ≤ j) → ws j ≡ vs j) → shaped ls ws (k * elements_in ls) ≡ put_at path new (shaped ls vs (k * elements_in ls))
  put_in_values [] ls k f e at is each =
      let same : ls ≡ rest = cc e in
      ap (λ ls. shaped ls ws (k * elements_in ls)) same ∙ ap (shaped rest ws) (sym at) ∙ is
  put_in_values (i ∷ path) [] k f e at is each = absurd (cc e)
  put_in_values (i ∷ path) (n ∷ ls) k f e at is each =
      let size = elements_in ls in
      let h : i < n = ranged path ls rest i n e in
      let inner : behind path ls ≡ Some rest = sym (in_range path i n ls h) ∙ e in
      let place : (k * n + i) * size ≡ k * (n * size) + i * size = split_number k n i size in
      let put : shaped ls ws ((k * n + i) * size) ≡ put_at path new (shaped ls vs ((k * n + i) * size)) = put_in_values path ls (k * n + i) f inner at is each in
      let lies : ((k * n + i) * size ≤ number path ls (k * n + i) * elements_in rest) × (number path ls (k * n + i) * elements_in rest + elements_in rest ≤ (k * n + i) * size + size) =
      within path ls rest (k * n + i) inner in
      sym (ap machine.Array (rows_put n size (shaped ls vs) (shaped ls ws) (k * (n * size)) i (put_at path new) h
      (sym (ap (λ p. put_at path new (shaped ls vs p)) place) ∙ sym put ∙ ap (shaped ls ws) place)
      (λ m _ s. same_values ls vs ws (k * (n * size) + m * size) (k * (n * size) + m * size) (λ j t.
      sym (each (k * (n * size) + m * size + j) (apart (k * (n * size)) size i m j f (elements_in rest) t s
      (omega (arith, place, at, lies.0)) (omega (arith, place, at, lies.1))))))))
    where
      apart : (base size i m j f wide : ℕ) → j < size → (m < i) ⊎ (i < m) → base + i * size ≤ f → f + wide ≤ base + i * size + size →
          (base + m * size + j < f) ⊎ (f + wide ≤ base + m * size + j)
      apart base size i m j f wide t (inl s) low high = let fits : m * size + size ≤ i * size = below m i size s in inl (omega arith)
      apart base size i m j f wide t (inr s) low high = let fits : i * size + size ≤ m * size = below i m size s in inr (omega arith)

-- ---- subscript by subscript

pub entered : (path : List ℕ) (at : ℕ) → at < length path → drop at path ≡ get_or path at 0 ∷ drop (at + 1) path
entered path at h = rw add-one (drop-cons path at 0 h)

pub goes_no_further : (path : List ℕ) (at : ℕ) (ls : List ℕ) (whole : Option (List ℕ)) → length ls ≡ 0 → at < length path → behind (drop at path) ls ≡ whole → None ≡ whole
goes_no_further path at [] whole e h all = ap (λ p. behind p []) (sym (entered path at h)) ∙ all
goes_no_further path at (n ∷ ls) whole e h all = absurd (omega (arith, e))

-- ---- reads

there : (path ls : List ℕ) (vs : ℕ → Option ℤ) (o : Option (List ℕ)) → behind path ls ≡ o → at_path (Some (shaped ls vs 0)) path ≡ option_map (part_from vs path ls 0) o
there path ls vs o e =
    let here : 0 ≡ 0 * elements_in ls = grind arith in
    ap (λ k. at_path (Some (shaped ls vs k)) path) here ∙ stands path ls vs 0 ∙ ap (option_map (part_from vs path ls 0)) e

pub no_value_there : (path ls : List ℕ) (vs : ℕ → Option ℤ) → None ≡ behind path ls → None ≡ machine.value_of (at_path (Some (shaped ls vs 0)) path)
no_value_there path ls vs e = sym (ap machine.value_of (there path ls vs None (sym e)))

pub no_length_there : (path ls : List ℕ) (vs : ℕ → Option ℤ) → None ≡ behind path ls → 0 ≡ machine.length_of (at_path (Some (shaped ls vs 0)) path)
no_length_there path ls vs e = sym (ap machine.length_of (there path ls vs None (sym e)))

pub value_there : (path ls rest : List ℕ) (vs : ℕ → Option ℤ) (v : Option ℤ) → Some rest ≡ behind path ls → length rest ≡ 0 → v ≡ vs (number path ls 0) →
    v ≡ machine.value_of (at_path (Some (shaped ls vs 0)) path)
value_there path ls [] vs v e none is =
    let one : number path ls 0 ≡ number path ls 0 * 1 = omega arith in
    is ∙ ap vs one ∙ sym (ap machine.value_of (there path ls vs (Some []) (sym e)))
value_there path ls (n ∷ rest) vs v e none is = absurd (omega (arith, none))

pub row_there : (path ls rest : List ℕ) (vs : ℕ → Option ℤ) → Some rest ≡ behind path ls → 0 < length rest → None ≡ machine.value_of (at_path (Some (shaped ls vs 0)) path)
row_there path ls [] vs e some = absurd (omega (arith, some))
row_there path ls (n ∷ rest) vs e some = sym (ap machine.value_of (there path ls vs (Some (n ∷ rest)) (sym e)))

pub element_there : (path ls rest : List ℕ) (vs : ℕ → Option ℤ) → Some rest ≡ behind path ls → None ≡ slice_get rest 0 → 0 ≡ machine.length_of (at_path (Some (shaped ls vs 0)) path)
element_there path ls [] vs e none = sym (ap machine.length_of (there path ls vs (Some []) (sym e)))
element_there path ls (n ∷ rest) vs e none = absurd (cc none)

pub length_there : (path ls rest : List ℕ) (vs : ℕ → Option ℤ) (n : ℕ) → Some rest ≡ behind path ls → Some n ≡ slice_get rest 0 → n ≡ machine.length_of (at_path (Some (shaped ls vs 0)) path)
length_there path ls [] vs n e is = absurd (cc is)
length_there path ls (m ∷ rest) vs n e is =
    let same : n ≡ m = cc is in
    same ∙ sym (ap machine.length_of (there path ls vs (Some (m ∷ rest)) (sym e)) ∙ rows_count m (elements_in rest) (shaped rest vs) (number path ls 0 * elements_in (m ∷ rest)))

-- ---- writes

-- where there is no element, no value is written
pub no_element_set : (path : List ℕ) (t : machine.Tree) (v : ℤ) → ((w : Option ℤ) → at_path (Some t) path ≢ Some (machine.Element w)) → t ≡ put_at path (with_value v (at_path (Some t) path)) t
no_element_set path t v none = by_part (at_path (Some t) path) refl
  where
    by_part : (o : Option machine.Tree) → at_path (Some t) path ≡ o → t ≡ put_at path (with_value v o) t
    by_part None e = sym (put_nowhere path t (with_value v None) e)
    by_part (Some (machine.Element w)) e = absurd (none w e)
    by_part (Some (machine.Array row)) e = sym (put_back path t (machine.Array row) e)

-- nor is zero where there is nothing
pub no_part_zeroed : (path ls : List ℕ) (vs : ℕ → Option ℤ) → None ≡ behind path ls → shaped ls vs 0 ≡ put_at path (with_zeros (at_path (Some (shaped ls vs 0)) path)) (shaped ls vs 0)
no_part_zeroed path ls vs e = sym (put_nowhere path (shaped ls vs 0) _ (there path ls vs None (sym e)))

-- behind these subscripts is no element
pub no_element_behind : (path ls : List ℕ) (vs : ℕ → Option ℤ) (w : Option ℤ) → None ≡ behind path ls → at_path (Some (shaped ls vs 0)) path ≢ Some (machine.Element w)
no_element_behind path ls vs w e same = let no : None ≡ Some (machine.Element w) = sym (there path ls vs None (sym e)) ∙ same in absurd (cc no)

pub row_is_no_element : (path ls rest : List ℕ) (vs : ℕ → Option ℤ) (w : Option ℤ) → Some rest ≡ behind path ls → 0 < length rest → at_path (Some (shaped ls vs 0)) path ≢ Some (machine.Element w)
row_is_no_element path ls [] vs w e some same = absurd (omega (arith, some))
row_is_no_element path ls (n ∷ rest) vs w e some same =
    let no : Some (part_from vs path ls 0 (n ∷ rest)) ≡ Some (machine.Element w) = sym (there path ls vs (Some (n ∷ rest)) (sym e)) ∙ same in
    absurd (cc no)

-- the elements of the part at these subscripts become those of `new`, and the others stay
puts : (path ls rest : List ℕ) (vs ws : ℕ → Option ℤ) (k n : ℕ) (new : machine.Tree) → behind path ls ≡ Some rest → k ≡ number path ls 0 * elements_in rest → n ≡ elements_in rest →
    shaped rest ws k ≡ new → ((j : ℕ) → (j < k) ⊎ (k + n ≤ j) → ws j ≡ vs j) → shaped ls ws 0 ≡ put_at path new (shaped ls vs 0)
puts path ls rest vs ws k n new e at size is outside =
    let here : 0 * elements_in ls ≡ 0 = grind arith in
    sym (ap (shaped ls ws) here)
    ∙ put_in_values vs ws rest new path ls 0 k e at is (λ j s. outside j (apart j s size))
    ∙ ap (λ m. put_at path new (shaped ls vs m)) here
  where
    apart : (j : ℕ) → (j < k) ⊎ (k + elements_in rest ≤ j) → n ≡ elements_in rest → (j < k) ⊎ (k + n ≤ j)
    apart j (inl s) e = inl s
    apart j (inr s) e = inr (omega arith)

pub puts_value : (path ls : List ℕ) (vs ws : ℕ → Option ℤ) (k : ℕ) (v : ℤ) → behind path ls ≡ Some [] → k ≡ number path ls 0 → ws k ≡ Some v →
    ((j : ℕ) → (j < k) ⊎ (k < j) → ws j ≡ vs j) → shaped ls ws 0 ≡ put_at path (with_value v (at_path (Some (shaped ls vs 0)) path)) (shaped ls vs 0)
puts_value path ls vs ws k v e at is outside =
    let one : k ≡ number path ls 0 * 1 = omega (arith, at) in
    puts path ls [] vs ws k 1 (machine.Element (Some v)) e one refl (ap machine.Element is) (λ j s. outside j (apart j s))
    ∙ ap (λ o. put_at path (with_value v o) (shaped ls vs 0)) (sym (there path ls vs (Some []) e))
  where
    apart : (j : ℕ) → (j < k) ⊎ (k + 1 ≤ j) → (j < k) ⊎ (k < j)
    apart j (inl s) = inl s
    apart j (inr s) = inr (omega arith)

zeroed_rows : (n size : ℕ) (part : ℕ → machine.Tree) (k : ℕ) (t : machine.Tree) → ((k : ℕ) → zeroed (part k) ≡ t) → zeroed_row (rows n size part k) ≡ machine.repeated n t
zeroed_rows zero size part k t each = refl
zeroed_rows (suc n) size part k t each = ap (λ u. machine.and_part u (zeroed_row (rows n size part (k + size)))) (each k) ∙ ap (machine.and_part t) (zeroed_rows n size part (k + size) t each)

zeroed_shape : (ls : List ℕ) (vs : ℕ → Option ℤ) (k : ℕ) → zeroed (shaped ls vs k) ≡ filled (Some (pos 0)) ls
zeroed_shape [] vs k = refl
zeroed_shape (n ∷ ls) vs k = ap machine.Array (zeroed_rows n (elements_in ls) (shaped ls vs) k (filled (Some (pos 0)) ls) (λ k. zeroed_shape ls vs k))

pub puts_zeros : (path ls rest : List ℕ) (vs ws : ℕ → Option ℤ) (k n : ℕ) → Some rest ≡ behind path ls → k ≡ number path ls 0 * elements_in rest → n ≡ elements_in rest →
    ((j : ℕ) → j < n → ws (k + j) ≡ Some (pos 0)) → ((j : ℕ) → (j < k) ⊎ (k + n ≤ j) → ws j ≡ vs j) →
    shaped ls ws 0 ≡ put_at path (with_zeros (at_path (Some (shaped ls vs 0)) path)) (shaped ls vs 0)
puts_zeros path ls rest vs ws k n e at size inside outside =
    puts path ls rest vs ws k n (filled (Some (pos 0)) rest) (sym e) at size (filled_values rest ws k (Some (pos 0)) (λ j s. inside j (omega (arith, size, s)))) outside
    ∙ ap (λ t. put_at path t (shaped ls vs 0)) (sym (zeroed_shape rest vs (number path ls 0 * elements_in rest)))
    ∙ ap (λ o. put_at path (with_zeros o) (shaped ls vs 0)) (sym (there path ls vs (Some rest) (sym e)))

-- an array of which no element has a value
pub none_yet : (ls : List ℕ) (cs : List ℤ) → cs ≡ [] → shaped ls (slice_get cs) 0 ≡ filled None ls
none_yet ls cs e = ap (λ xs. shaped ls (slice_get xs) 0) e ∙ filled_values ls (slice_get []) 0 None (λ j h. refl)

-- ---- elements of an array that has no rows

part_value : (ls inner : List ℕ) (vs : ℕ → Option ℤ) (i n : ℕ) (v : Option ℤ) → ls ≡ n ∷ inner → length inner ≡ 0 → i < n → v ≡ vs i →
    machine.value_of (part_in (Some (shaped ls vs 0)) i) ≡ v
part_value ls [] vs i n v e none h is =
    let at : 0 + i * 1 ≡ i = omega arith in
    ap (λ ls. machine.value_of (part_in (Some (shaped ls vs 0)) i)) e ∙ ap machine.value_of (rows_part n 1 (shaped [] vs) 0 i h) ∙ ap vs at ∙ sym is
part_value ls (m ∷ inner) vs i n v e none h is = absurd (omega (arith, none))

pub part_there : (ls inner : List ℕ) (vs : ℕ → Option ℤ) (i n : ℕ) (v : Option ℤ) → ls ≡ n ∷ inner → length inner ≡ 0 → i < n → v ≡ vs i →
    IfSome v (λ v. machine.value_of (part_in (Some (shaped ls vs 0)) i) ≡ Some v)
part_there ls inner vs i n v e none h is = found v (part_value ls inner vs i n v e none h is)
  where
    found : (v : Option ℤ) → machine.value_of (part_in (Some (shaped ls vs 0)) i) ≡ v → IfSome v (λ v. machine.value_of (part_in (Some (shaped ls vs 0)) i) ≡ Some v)
    found None e = tt
    found (Some v) e = e
