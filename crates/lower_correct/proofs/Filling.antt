-- The store after initialisers of arrays (ISO/IEC 9899:2011 6.7.9p10, p14, p21): rows of zeros and characters are elements that were
-- written one after the other.
use Rattle.std.proofs.Common.{◌≡◌, ℕ, zero, suc, ◌+◌, ◌-◌, ◌*◌, ◌<◌, ◌≤◌, List, [], ◌∷◌, ◌++◌, Some, ℤ, pos, refl, sym, ap, ◌∙◌, subst, arith}
use Rattle.std.specs.Prelude.{slice_get}
use Rattle.ctypes.specs.declared.types.IntType.{IntType}
use Rattle.ctypes.specs.Types.{IsValueOf, converted}
use Rattle.typing_spec.specs.Types.{elements_in}
use Rattle.csem.specs.Store.{Tree, Element, Store, Reference, into, put_at, put_in, set_zeros, filled}
use Rattle.csem.specs.Machine as machine
use Rattle.csem.specs.Machine.{stored}
use Rattle.csem.specs.Statements.{zeros, characters}
use Rattle.tac_code.specs.Run.{path_of, first_of}
use Rattle.lower_correct.proofs.Shapes.{HasShape, Leads, shape_put, filled_has, target_there, set_there, zeros_there}
use Rattle.lower_correct.proofs.Elementwise.{value_no, cases}
use Rattle.lower_correct.proofs.Written.{set_at, set_no, IsWritten, is_put}
use Rattle.lower_correct.proofs.Zeros.{number, first_is, leads_on, number_on, zero_rows}

-- ---- an object of the store as a whole

-- the store with another tree for object x
abbrev pub with_object : Store → ℕ → Tree → Store
with_object store x tree = put_in store x [] tree

pub put_whole : (store : Store) (x : ℕ) (path : List ℕ) (tree new : Tree) → slice_get store x ≡ Some tree → put_in store x path new ≡ with_object store x (put_at path new tree)
put_whole [] x path tree new e = absurd (let z : ⊥ = cc in z)
put_whole (t ∷ store) zero path tree new e = let same : t ≡ tree = cc in ap (λ u. put_at path new u ∷ store) same
put_whole (t ∷ store) (suc x) path tree new e = ap (λ l. t ∷ l) (put_whole store x path tree new e)

pub put_again : (store : Store) (x : ℕ) (a b : Tree) → with_object (with_object store x a) x b ≡ with_object store x b
put_again [] x a b = refl
put_again (t ∷ store) zero a b = refl
put_again (t ∷ store) (suc x) a b = ap (λ l. t ∷ l) (put_again store x a b)

pub put_itself : (store : Store) (x : ℕ) (tree : Tree) → slice_get store x ≡ Some tree → with_object store x tree ≡ store
put_itself [] x tree e = refl
put_itself (t ∷ store) zero tree e = let same : tree ≡ t = cc in ap (λ u. u ∷ store) same
put_itself (t ∷ store) (suc x) tree e = ap (λ l. t ∷ l) (put_itself store x tree e)

pub got_object : (store : Store) (x : ℕ) (old new : Tree) → slice_get store x ≡ Some old → slice_get (with_object store x new) x ≡ Some new
got_object [] x old new e = absurd (let z : ⊥ = cc in z)
got_object (t ∷ store) zero old new e = refl
got_object (t ∷ store) (suc x) old new e = got_object store x old new e

-- one more element of it
pub put_element : (store : Store) (x : ℕ) (old tree : Tree) (i : ℕ) (path : List ℕ) (v : ℤ) → slice_get store x ≡ Some old → path_of tree i ≡ Some path
    → put_in (with_object store x tree) x path (Element (Some v)) ≡ with_object store x (set_no tree i v)
put_element store x old tree i path v e is =
    put_whole (with_object store x tree) x path tree (Element (Some v)) (got_object store x old tree e)
    ∙ (put_again store x tree (put_at path (Element (Some v)) tree) ∙ ap (λ o. with_object store x (set_at o v tree)) (sym is))

-- ---- zeros

pub zeros_state : (t : IntType) (l : List ℕ) (n : ℕ) (rest : List ℕ) (k i : ℕ) (r : Reference) (s : machine.State) (tree : Tree)
    → slice_get s.store r.object ≡ Some tree → HasShape t l tree → Leads r.path l (n ∷ rest) → i + k ≤ n → IsValueOf t (pos 0)
    → zeros k i r s ≡ record s { store = with_object s.store r.object (zero_rows r.path k i rest tree) }
zeros_state t l n rest zero i r s tree e h lead room hv = ap (λ (l : Store). record s { store = l }) (sym (put_itself s.store r.object tree e))
zeros_state t l n rest (suc k) i r s tree e h lead room hv =
    let one = filled (Some (pos 0)) rest in
    let path = r.path ++ i ∷ [] in
    let here = leads_on r.path l n i rest lead (omega (arith, room)) in
    let next = put_at path one tree in
    let cleared = set_zeros s.store (into r i) in
    let s1 : machine.State = record s { store = cleared } in
    let whole : cleared ≡ with_object s.store r.object next =
    zeros_there s.store (into r i) t rest (target_there s.store (into r i) t l rest tree e h here) ∙ put_whole s.store r.object path tree one e in
    let there : slice_get cleared r.object ≡ Some next = ap (λ l. slice_get l r.object) whole ∙ got_object s.store r.object tree next e in
    let shape = shape_put path t l rest tree one here h (filled_has t (Some (pos 0)) rest hv) in
    let last = zero_rows r.path k (suc i) rest next in
    zeros_state t l n rest k (suc i) r s1 next there shape lead (omega (arith, room)) hv
    ∙ ap (λ (l : Store). record s { store = l }) (ap (λ l. with_object l r.object last) whole ∙ put_again s.store r.object next last)

-- ---- characters

abbrev pub character : IntType → List ℕ → ℕ → ℤ
character t [] j = pos 0
character t (c ∷ text) zero = converted t (pos c)
character t (c ∷ text) (suc j) = character t text j

abbrev pub behind_first : List ℕ → List ℕ
behind_first [] = []
behind_first (c ∷ text) = text

later : (t : IntType) (text : List ℕ) (j : ℕ) → character t (behind_first text) j ≡ character t text (suc j)
later t [] j = refl
later t (c ∷ text) j = refl

-- k elements of a row from number i on
abbrev pub text_rows : (path : List ℕ) → IntType → (k i : ℕ) → List ℕ → Tree → Tree
text_rows path t zero i text tree = tree
text_rows path t (suc k) i text tree = text_rows path t k (suc i) (behind_first text) (put_at (path ++ i ∷ []) (Element (Some (character t text 0))) tree)

pub texted : (t : IntType) (path l : List ℕ) (n k i : ℕ) (text : List ℕ) (tree : Tree) → HasShape t l tree → Leads path l (n ∷ []) → i + k ≤ n
    → ((j : ℕ) → IsValueOf t (character t text j)) → IsWritten t l tree (text_rows path t k i text tree) (number l path + i) k (character t text)
texted t path l n zero i text tree h lead room hv = record {
  shape = h;
  inside = λ j lt. absurd (omega (arith, lt));
  before = λ j lt. refl;
  behind = λ j ge lt. refl;
}
texted t path l n (suc k) i text tree h lead room hv =
    let one = Element (Some (character t text 0)) in
    let here = leads_on path l n i [] lead (omega (arith, room)) in
    let put = is_put t (path ++ i ∷ []) l [] tree one h here (hv 0) in
    let first : first_of tree (path ++ i ∷ []) ≡ number l path + i = first_is t (path ++ i ∷ []) l [] tree h here ∙ (number_on path l n i [] lead ∙ by_one (number l path) i) in
    let more = texted t path l n k (suc i) (behind_first text) (put_at (path ++ i ∷ []) one tree) put.shape lead (omega (arith, room))
    (λ j. subst (IsValueOf t) (sym (later t text j)) (hv (suc j))) in record {
      shape = more.shape;
      inside = λ j lt. cases j 1
          (λ small. more.before (number l path + i + j) (omega (arith, small))
          ∙ (ap (λ m. value_no (put_at (path ++ i ∷ []) one tree) (m + j)) (sym first)
          ∙ (put.inside j small ∙ ap (value_no one) (let z : j ≡ 0 = omega (arith, small) in z) ∙ ap (λ m. Some (character t text m)) (let z : 0 ≡ j = omega (arith, small) in z))))
          (λ ge. ap (value_no (text_rows path t (suc k) i text tree)) (let z : number l path + i + j ≡ number l path + suc i + (j - 1) = omega (arith, ge) in z)
          ∙ (more.inside (j - 1) (omega (arith, ge, lt)) ∙ (ap Some (later t text (j - 1)) ∙ ap (λ m. Some (character t text m)) (let z : suc (j - 1) ≡ j = omega (arith, ge) in z))));
      before = λ j lt. more.before j (omega (arith, lt)) ∙ put.before j (omega (arith, lt, first));
      behind = λ j ge lt. more.behind j (omega (arith, ge)) lt ∙ put.behind j (omega (arith, ge, first)) lt;
    }
  where
    by_one : (m i : ℕ) → m + i * elements_in [] ≡ m + i
    by_one m i = omega arith

-- an element is stored, and then the others
one_more : (t : IntType) (l : List ℕ) (n k i : ℕ) (text : List ℕ) (v : ℤ) (r : Reference) (s : machine.State) (tree : Tree)
    → slice_get s.store r.object ≡ Some tree → HasShape t l tree → Leads r.path l (n ∷ []) → i < n → IsValueOf t v
    → ((s1 : machine.State) (tree1 : Tree) → slice_get s1.store r.object ≡ Some tree1 → HasShape t l tree1
    → characters t k (suc i) text r s1 ≡ record s1 { store = with_object s1.store r.object (text_rows r.path t k (suc i) text tree1) })
    → characters t k (suc i) text r (stored (into r i) v s)
    ≡ record s { store = with_object s.store r.object (text_rows r.path t k (suc i) text (put_at (r.path ++ i ∷ []) (Element (Some v)) tree)) }
one_more t l n k i text v r s tree e h lead lt hv others =
    let one = Element (Some v) in
    let path = r.path ++ i ∷ [] in
    let here = leads_on r.path l n i [] lead lt in
    let next = put_at path one tree in
    let s1 = stored (into r i) v s in
    let whole : s1.store ≡ with_object s.store r.object next =
    set_there s.store (into r i) t v (target_there s.store (into r i) t l [] tree e h here) ∙ put_whole s.store r.object path tree one e in
    let there : slice_get s1.store r.object ≡ Some next = ap (λ l. slice_get l r.object) whole ∙ got_object s.store r.object tree next e in
    let last = text_rows r.path t k (suc i) text next in
    others s1 next there (shape_put path t l [] tree one here h hv)
    ∙ ap (λ (l : Store). record s { store = l }) (ap (λ l. with_object l r.object last) whole ∙ put_again s.store r.object next last)

pub characters_state : (t : IntType) (l : List ℕ) (n k i : ℕ) (text : List ℕ) (r : Reference) (s : machine.State) (tree : Tree)
    → slice_get s.store r.object ≡ Some tree → HasShape t l tree → Leads r.path l (n ∷ []) → i + k ≤ n → ((j : ℕ) → IsValueOf t (character t text j))
    → characters t k i text r s ≡ record s { store = with_object s.store r.object (text_rows r.path t k i text tree) }
characters_state t l n zero i text r s tree e h lead room hv = ap (λ (l : Store). record s { store = l }) (sym (put_itself s.store r.object tree e))
characters_state t l n (suc k) i [] r s tree e h lead room hv =
    one_more t l n k i [] (pos 0) r s tree e h lead (omega (arith, room)) (hv 0)
    (λ s1 tree1 e1 h1. characters_state t l n k (suc i) [] r s1 tree1 e1 h1 lead (omega (arith, room)) hv)
characters_state t l n (suc k) i (c ∷ text) r s tree e h lead room hv =
    one_more t l n k i text (converted t (pos c)) r s tree e h lead (omega (arith, room)) (hv 0)
    (λ s1 tree1 e1 h1. characters_state t l n k (suc i) text r s1 tree1 e1 h1 lead (omega (arith, room)) (λ j. hv (suc j)))
