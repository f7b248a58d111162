-- The start of a call: its parameters, and the objects of its body (ISO/IEC 9899:2011 6.9.1p9, p10).
use Rattle.std.proofs.Common.{◌≡◌, ℕ, zero, suc, ◌+◌, ◌<◌, ◌≤◌, List, [], ◌∷◌, ◌++◌, length, take, map, Option, Some, None, Bool, true, ◌&&◌, ℤ, refl, sym, ap, ◌∙◌, subst, arith}
use Rattle.std.specs.Prelude.{nat_eq, slice_get, if◌then◌else◌}
use Rattle.std.specs.List.{list_all}
use Rattle.ctypes.specs.declared.types.IntType.{IntType}
use Rattle.ctypes.specs.Types.{IsValueOf}
use Rattle.ctypes.proofs.Uses.{converted_keeps}
use Rattle.typing_spec.specs.Types.{ObjectType, ParameterType, number, elements, same_type}
use Rattle.typing_spec.specs.Program as typed
use Rattle.typing_spec.specs.Program.{Function}
use Rattle.typing_spec.specs.WellTyped.{parameters_are_first, function_is_typed, functions_are_typed}
use Rattle.csem.specs.Store.{Tree, Element, Store, Reference, indeterminate, literal_object}
use Rattle.csem.specs.Machine as machine
use Rattle.csem.specs.Expressions.{Passed, Number, Referred}
use Rattle.csem.specs.Meaning.{numbers_of, arrays_of, objects_of, words_of, enter, leave}
use Rattle.tac_code.specs.Code.{scalar_type, type_if_scalar}
use Rattle.tac_code.specs.Lowered.{kind_of}
use Rattle.tac_code.specs.Run.{Values, word_in, word_for, number_of, is_word_of, number_object, numbers_in, arrays_in, words_in, and_then, reference_in, is_element}
use Rattle.tac_code.specs.Sound.{AreBytes}
use Rattle.lower_correct.proofs.Words.{differ, left_true, right_true, ranged, converts_again, is_word}
use Rattle.lower_correct.proofs.Shapes.{HasShape, filled_has}
use Rattle.lower_correct.proofs.Stores.{World, all_types, ObjectFits, Refers, RefersToRows, Fine, After, behind, before_it, below_length, length_mapped, cases_lt}
use Rattle.lower_correct.proofs.Standing.{rows_of}
use Rattle.lower_correct.proofs.Typing.{same_type_is, no_length}
use Rattle.lower_correct.proofs.Passing.{Fitting}
use Rattle.lower_correct.proofs.Flows.{writes_all}

-- ---- lists

pub item_is : {A : Type 0} (test : A → Bool) (xs : List A) (n : ℕ) (x : A) → list_all test xs ≡ true → slice_get xs n ≡ Some x → test x ≡ true
item_is test [] n x h e = absurd (let z : ⊥ = cc in z)
item_is test (y ∷ xs) zero x h e = ap test (let z : x ≡ y = cc in z) ∙ left_true (test y) (list_all test xs) h
item_is test (y ∷ xs) (suc n) x h e = item_is test xs n x (right_true (test y) (list_all test xs) h) e

pub function_is : (p : typed.Program) (fs : List Function) (n : ℕ) (f : Function) → functions_are_typed p fs ≡ true → slice_get fs n ≡ Some f
    → function_is_typed p f ≡ true
function_is p [] n f h e = absurd (let z : ⊥ = cc in z)
function_is p (g ∷ fs) zero f h e = ap (function_is_typed p) (let z : f ≡ g = cc in z) ∙ left_true (function_is_typed p g) (functions_are_typed p fs) h
function_is p (g ∷ fs) (suc n) f h e = function_is p fs n f (right_true (function_is_typed p g) (functions_are_typed p fs) h) e

pub record Item {A : Type 0} (xs : List A) (n : ℕ) : Type 0 where
  pub element : A
  pub is : slice_get xs n ≡ Some element

pub item_below : {A : Type 0} (xs : List A) (n : ℕ) → n < length xs → Item xs n
item_below [] n lt = absurd (omega (arith, lt))
item_below (z ∷ xs) zero lt = record { element = z; is = refl }
item_below (z ∷ xs) (suc n) lt = let more = item_below xs n (omega (arith, lt)) in record { element = more.element; is = more.is }

pub taken : {A : Type 0} (xs ys : List A) → take (length xs) (xs ++ ys) ≡ xs
taken [] ys = refl
taken (x ∷ xs) ys = ap (λ l. x ∷ l) (taken xs ys)

-- ---- parameters

next_place : (t : ℕ) → t + 1 ≡ suc t
next_place t = omega arith

and_reference : (a : Option Reference) (b : Option (List Reference)) (x : Reference) (l : List Reference) → a ≡ Some x → b ≡ Some l
    → and_then a b ≡ Some (x ∷ l)
and_reference a b x l e g = ap (λ y. and_then y b) e ∙ ap (λ y. and_then (Some x) y) g

pub arrays_are : (W : World) (ps : List ParameterType) (passed : List Passed) (t : ℕ) (m : Values) → Fitting W ps passed t m
    → arrays_in (map kind_of ps) m t ≡ Some (arrays_of passed)
arrays_are W [] [] t m h = refl
arrays_are W (number u ∷ ps) (Number v ∷ passed) t m h =
    arrays_are W ps passed (suc t) m (subst (λ n. Fitting W ps passed n m) (next_place t) h.2)
arrays_are W (elements u ∷ ps) (Referred r ∷ passed) t m h =
    and_reference (reference_in (m t)) (arrays_in (map kind_of ps) m (suc t)) r (arrays_of passed) (ap reference_in h.1)
    (arrays_are W ps passed (suc t) m (subst (λ n. Fitting W ps passed n m) (next_place t) h.2))
arrays_are W [] (Number v ∷ passed) t m h = absurd h
arrays_are W [] (Referred r ∷ passed) t m h = absurd h
arrays_are W (number u ∷ ps) [] t m h = absurd h
arrays_are W (number u ∷ ps) (Referred r ∷ passed) t m h = absurd h
arrays_are W (elements u ∷ ps) [] t m h = absurd h
arrays_are W (elements u ∷ ps) (Number v ∷ passed) t m h = absurd h

-- the history has the word of each number, and none of an array
pub words_are : (W : World) (ps : List ParameterType) (passed : List Passed) (t : ℕ) (m : Values) → Fitting W ps passed t m
    → words_in (map kind_of ps) m t ≡ words_of passed
words_are W [] [] t m h = refl
words_are W (number u ∷ ps) (Number v ∷ passed) t m h =
    ap (λ o. word_in o ∷ words_in (map kind_of ps) m (suc t)) h.1
    ∙ ap (λ l. Some (word_for v) ∷ l) (words_are W ps passed (suc t) m (subst (λ n. Fitting W ps passed n m) (next_place t) h.2))
words_are W (elements u ∷ ps) (Referred r ∷ passed) t m h =
    ap (λ l. None ∷ l) (words_are W ps passed (suc t) m (subst (λ n. Fitting W ps passed n m) (next_place t) h.2))
words_are W [] (Number v ∷ passed) t m h = absurd h
words_are W [] (Referred r ∷ passed) t m h = absurd h
words_are W (number u ∷ ps) [] t m h = absurd h
words_are W (number u ∷ ps) (Referred r ∷ passed) t m h = absurd h
words_are W (elements u ∷ ps) [] t m h = absurd h
words_are W (elements u ∷ ps) (Number v ∷ passed) t m h = absurd h

-- the object of a parameter
given_object : (u : IntType) (o : ObjectType) (v : ℤ) → u ≡ o.element → o.lengths ≡ [] → IsValueOf u v
    → number_object (scalar_type (Some o)) (Some (word_for v)) ≡ Some (Element (Some v))
given_object u o v eu el hv =
    let scalar : scalar_type (Some o) ≡ Some u = ap (λ l. type_if_scalar l o.element) el ∙ ap Some (sym eu) in
    let word_is : is_word_of u (word_for v) ≡ true = is_word u v (ranged u v hv) (ap word_for (converted_keeps u v hv)) in
    let number_is : number_of u (word_for v) ≡ v = converts_again u v (ranged u v hv) ∙ converted_keeps u v hv in
    ap (λ x. number_object x (Some (word_for v))) scalar
    ∙ (ap (λ b. if b then Some (Element (Some (number_of u (word_for v)))) else None) word_is ∙ ap (λ z. Some (Element (Some z))) number_is)

and_both_then : (a : Option Tree) (b : Option (List Tree)) (x : Tree) (l : List Tree) → a ≡ Some x → b ≡ Some l → and_then a b ≡ Some (x ∷ l)
and_both_then a b x l e g = ap (λ y. and_then y b) e ∙ ap (λ y. and_then (Some x) y) g

pub numbers_are : (W : World) (ps : List ParameterType) (objects : List ObjectType) (passed : List Passed) (t : ℕ) (m : Values) → parameters_are_first ps objects ≡ true
    → Fitting W ps passed t m
    → numbers_in (map kind_of ps) objects m t ≡ Some (numbers_of passed)
numbers_are W [] objects [] t m hf h = refl
numbers_are W (number u ∷ ps) [] passed t m hf h = absurd (differ hf)
numbers_are W (number u ∷ ps) (o ∷ objects) (Number v ∷ passed) t m hf h =
    let h1 = right_true (same_type u o.element) (nat_eq (length o.lengths) 0 && parameters_are_first ps objects) hf in
    and_both_then (number_object (scalar_type (Some o)) (word_in (m t))) (numbers_in (map kind_of ps) objects m (suc t)) (Element (Some v)) (numbers_of passed)
    (ap (λ x. number_object (scalar_type (Some o)) (word_in x)) h.1
    ∙ given_object u o v (same_type_is u o.element (left_true (same_type u o.element) (nat_eq (length o.lengths) 0 && parameters_are_first ps objects) hf))
    (no_length o.lengths (left_true (nat_eq (length o.lengths) 0) (parameters_are_first ps objects) h1)) h.0)
    (numbers_are W ps objects passed (suc t) m (right_true (nat_eq (length o.lengths) 0) (parameters_are_first ps objects) h1)
    (subst (λ n. Fitting W ps passed n m) (next_place t) h.2))
numbers_are W [] objects (Number v ∷ passed) t m hf h = absurd h
numbers_are W [] objects (Referred r ∷ passed) t m hf h = absurd h
numbers_are W (number u ∷ ps) (o ∷ objects) [] t m hf h = absurd h
numbers_are W (number u ∷ ps) (o ∷ objects) (Referred r ∷ passed) t m hf h = absurd h
numbers_are W (elements u ∷ ps) objects [] t m hf h = absurd h
numbers_are W (elements u ∷ ps) objects (Number v ∷ passed) t m hf h = absurd h
numbers_are W (elements u ∷ ps) objects (Referred r ∷ passed) t m hf h =
    numbers_are W ps objects passed (suc t) m hf (subst (λ n. Fitting W ps passed n m) (next_place t) h.2)

-- ---- the objects of the call have their shapes

new_fits : (objects : List ObjectType) (n : ℕ) (o : ObjectType) → slice_get objects n ≡ Some o → ObjectFits o (slice_get (map indeterminate objects) n)
new_fits [] n o e = absurd (let z : ⊥ = cc in z)
new_fits (x ∷ objects) zero o e =
    let same : x ≡ o = cc in
    subst (λ y. ObjectFits o (Some (indeterminate y))) (sym same) (filled_has o.element None o.lengths tt)
new_fits (x ∷ objects) (suc n) o e = new_fits objects n o e

pub objects_fit : (W : World) (ps : List ParameterType) (objects : List ObjectType) (passed : List Passed) (t : ℕ) (m : Values)
    → parameters_are_first ps objects ≡ true → Fitting W ps passed t m
    → (n : ℕ) (o : ObjectType) → slice_get objects n ≡ Some o → ObjectFits o (slice_get (objects_of objects passed) n)
objects_fit W [] objects [] t m hf h n o e = new_fits objects n o e
objects_fit W (number u ∷ ps) [] passed t m hf h n o e = absurd (differ hf)
objects_fit W (number u ∷ ps) (x ∷ objects) (Number v ∷ passed) t m hf h zero o e =
    let same : x ≡ o = cc in
    let h1 = right_true (same_type u x.element) (nat_eq (length x.lengths) 0 && parameters_are_first ps objects) hf in
    let eu : u ≡ x.element = same_type_is u x.element (left_true (same_type u x.element) (nat_eq (length x.lengths) 0 && parameters_are_first ps objects) hf) in
    let el = no_length x.lengths (left_true (nat_eq (length x.lengths) 0) (parameters_are_first ps objects) h1) in
    subst (λ y. ObjectFits y (Some (Element (Some v)))) same
    (subst (λ l. HasShape x.element l (Element (Some v))) (sym el) (subst (λ y. IsValueOf y v) eu h.0))
objects_fit W (number u ∷ ps) (x ∷ objects) (Number v ∷ passed) t m hf h (suc n) o e =
    let h1 = right_true (same_type u x.element) (nat_eq (length x.lengths) 0 && parameters_are_first ps objects) hf in
    objects_fit W ps objects passed (t + 1) m (right_true (nat_eq (length x.lengths) 0) (parameters_are_first ps objects) h1) h.2 n o e
objects_fit W (elements u ∷ ps) objects (Referred r ∷ passed) t m hf h n o e = objects_fit W ps objects passed (t + 1) m hf h.2 n o e
objects_fit W [] objects (Number v ∷ passed) t m hf h n o e = absurd h
objects_fit W [] objects (Referred r ∷ passed) t m hf h n o e = absurd h
objects_fit W (number u ∷ ps) (x ∷ objects) [] t m hf h n o e = absurd h
objects_fit W (number u ∷ ps) (x ∷ objects) (Referred r ∷ passed) t m hf h n o e = absurd h
objects_fit W (elements u ∷ ps) objects [] t m hf h n o e = absurd h
objects_fit W (elements u ∷ ps) objects (Number v ∷ passed) t m hf h n o e = absurd h

objects_count : (W : World) (ps : List ParameterType) (objects : List ObjectType) (passed : List Passed) (t : ℕ) (m : Values)
    → parameters_are_first ps objects ≡ true → Fitting W ps passed t m → length (objects_of objects passed) ≡ length objects
objects_count W [] objects [] t m hf h = length_mapped indeterminate objects
objects_count W (number u ∷ ps) [] passed t m hf h = absurd (differ hf)
objects_count W (number u ∷ ps) (x ∷ objects) (Number v ∷ passed) t m hf h =
    let h1 = right_true (same_type u x.element) (nat_eq (length x.lengths) 0 && parameters_are_first ps objects) hf in
    ap suc (objects_count W ps objects passed (t + 1) m (right_true (nat_eq (length x.lengths) 0) (parameters_are_first ps objects) h1) h.2)
objects_count W (elements u ∷ ps) objects (Referred r ∷ passed) t m hf h = objects_count W ps objects passed (t + 1) m hf h.2
objects_count W [] objects (Number v ∷ passed) t m hf h = absurd h
objects_count W [] objects (Referred r ∷ passed) t m hf h = absurd h
objects_count W (number u ∷ ps) (x ∷ objects) [] t m hf h = absurd h
objects_count W (number u ∷ ps) (x ∷ objects) (Referred r ∷ passed) t m hf h = absurd h
objects_count W (elements u ∷ ps) objects [] t m hf h = absurd h
objects_count W (elements u ∷ ps) objects (Number v ∷ passed) t m hf h = absurd h

-- ---- objects that were referred to still live

abbrev pub entered_world : World → List ObjectType → List ObjectType → World
entered_world W objects rows = record { texts = W.texts; first = W.first; outer = all_types W; own = objects; rows = rows }

refers_on : (W : World) (objects rows : List ObjectType) (r : Reference) (t : IntType) (l : List ℕ) → Refers W r t l
    → Refers (entered_world W objects rows) r t l
refers_on W objects rows r t l h = record {
  object = h.object;
  at = before_it (all_types W) objects r.object (below_length (all_types W) r.object h.object h.at) ∙ h.at;
  element = h.element;
  leads = h.leads;
  memory = h.memory;
}

arrays_refer : (W : World) (objects rows : List ObjectType) (ps : List ParameterType) (passed : List Passed) (t : ℕ) (m : Values) → Fitting W ps passed t m
    → (n : ℕ) (o : ObjectType) → slice_get (rows_of ps) n ≡ Some o → RefersToRows (entered_world W objects rows) o (slice_get (arrays_of passed) n)
arrays_refer W objects rows [] [] t m h n o e = absurd (let z : ⊥ = cc in z)
arrays_refer W objects rows (number u ∷ ps) (Number v ∷ passed) t m h n o e = arrays_refer W objects rows ps passed (t + 1) m h.2 n o e
arrays_refer W objects rows (elements u ∷ ps) (Referred r ∷ passed) t m h zero o e =
    let same : u ≡ o = cc in
    subst (λ y. RefersToRows (entered_world W objects rows) y (Some r)) same
    (h.0.0, refers_on W objects rows r u.element (h.0.0 ∷ u.lengths) h.0.1)
arrays_refer W objects rows (elements u ∷ ps) (Referred r ∷ passed) t m h (suc n) o e = arrays_refer W objects rows ps passed (t + 1) m h.2 n o e
arrays_refer W objects rows [] (Number v ∷ passed) t m h n o e = absurd h
arrays_refer W objects rows [] (Referred r ∷ passed) t m h n o e = absurd h
arrays_refer W objects rows (number u ∷ ps) [] t m h n o e = absurd h
arrays_refer W objects rows (number u ∷ ps) (Referred r ∷ passed) t m h n o e = absurd h
arrays_refer W objects rows (elements u ∷ ps) [] t m h n o e = absurd h
arrays_refer W objects rows (elements u ∷ ps) (Number v ∷ passed) t m h n o e = absurd h

-- ---- a call begins

pub length_joined : {A : Type 0} (xs ys : List A) → length (xs ++ ys) ≡ length xs + length ys
length_joined [] ys = omega arith
length_joined (x ∷ xs) ys = let e = length_joined xs ys in omega (arith, e)

-- the objects that lived before it
pub record Lives (W : World) (s : machine.State) : Type 0 where
  pub few : length W.texts ≤ W.first
  pub low : W.first ≤ length (all_types W)
  pub size : length s.store ≡ length (all_types W)
  pub fits : (n : ℕ) (o : ObjectType) → slice_get (all_types W) n ≡ Some o → ObjectFits o (slice_get s.store n)
  pub literals : (n : ℕ) (text : List ℕ) → slice_get W.texts n ≡ Some text → slice_get s.store n ≡ Some (literal_object text)
  pub input : AreBytes s.input

pub fine_lives : (W : World) (s : machine.State) → Fine W s → Lives W s
fine_lives W s h =
    let e = length_joined W.outer W.own in
    record {
      few = h.few;
      low = let low = h.low in omega (arith, low, e);
      size = h.size ∙ sym e;
      fits = h.fits;
      literals = h.literals;
      input = h.input;
    }

pub fine_entered : (W : World) (g : ℕ) (f : Function) (passed : List Passed) (t : ℕ) (m : Values) (s : machine.State)
    → parameters_are_first f.type.parameters f.objects ≡ true → Fitting W f.type.parameters passed t m → Lives W s
    → Fine (entered_world W f.objects (rows_of f.type.parameters)) (enter g f passed s)
fine_entered W g f passed t m s hf h was = record {
  few = was.few;
  low = was.low;
  base = was.size;
  size = length_joined s.store (objects_of f.objects passed)
      ∙ (ap (λ k. k + length (objects_of f.objects passed)) was.size
      ∙ ap (λ k. length (all_types W) + k) (objects_count W f.type.parameters f.objects passed t m hf h));
  fits = fits;
  literals = λ n text e.
      let few = was.few in let low = was.low in let size = was.size in let lt = below_length W.texts n text e in
      before_it s.store (objects_of f.objects passed) n (omega (arith, few, low, size, lt)) ∙ was.literals n text e;
  arrays = arrays_refer W f.objects (rows_of f.type.parameters) f.type.parameters passed t m h;
  input = was.input;
}
  where
    fits : (n : ℕ) (o : ObjectType) → slice_get (all_types W ++ f.objects) n ≡ Some o
        → ObjectFits o (slice_get (s.store ++ objects_of f.objects passed) n)
    fits n o e = cases_lt n (length (all_types W))
        (λ lt. subst (λ y. ObjectFits o y)
        (sym (before_it s.store (objects_of f.objects passed) n (let size = was.size in omega (arith, lt, size))))
        (was.fits n o (sym (before_it (all_types W) f.objects n lt) ∙ e)))
        (λ k there.
        let e2 : slice_get f.objects k ≡ Some o =
        sym (behind (all_types W) f.objects k) ∙ (ap (slice_get (all_types W ++ f.objects)) (sym there) ∙ e) in
        let at : slice_get (s.store ++ objects_of f.objects passed) n ≡ slice_get (objects_of f.objects passed) k =
        ap (slice_get (s.store ++ objects_of f.objects passed)) (let size = was.size in let z : n ≡ length s.store + k = omega (arith, there, size) in z)
        ∙ behind s.store (objects_of f.objects passed) k in
        subst (λ y. ObjectFits o y) (sym at) (objects_fit W f.type.parameters f.objects passed t m hf h k o e2))

-- ---- and ends

slice_take : {A : Type 0} (xs : List A) (n i : ℕ) → i < n → slice_get (take n xs) i ≡ slice_get xs i
slice_take xs zero i lt = absurd (omega (arith, lt))
slice_take [] (suc n) i lt = refl
slice_take (x ∷ xs) (suc n) zero lt = refl
slice_take (x ∷ xs) (suc n) (suc i) lt = slice_take xs n i (omega (arith, lt))

length_taken : {A : Type 0} (xs : List A) (n : ℕ) → n ≤ length xs → length (take n xs) ≡ n
length_taken xs zero le = refl
length_taken [] (suc n) le = absurd (omega (arith, le))
length_taken (x ∷ xs) (suc n) le = ap suc (length_taken xs n (omega (arith, le)))

pub fine_left : (W : World) (objects rows : List ObjectType) (v : Option ℤ) (s s2 : machine.State) → Fine W s → Fine (entered_world W objects rows) s2
    → Fine W (leave s v s2)
fine_left W objects rows v s s2 fine inner = record {
  few = fine.few;
  low = fine.low;
  base = fine.base;
  size = length_taken s2.store (length s.store) (omega (arith, whole, size)) ∙ fine.size;
  fits = fits;
  literals = λ n text e.
      let few = fine.few in let low = (fine_lives W s fine).low in let lt = below_length W.texts n text e in
      slice_take s2.store (length s.store) n (omega (arith, few, low, size, lt)) ∙ inner.literals n text e;
  arrays = fine.arrays;
  input = inner.input;
}
  where
    size : length s.store ≡ length (all_types W)
    size = (fine_lives W s fine).size

    whole : length s2.store ≡ length (all_types W) + length objects
    whole = inner.size

    fits : (n : ℕ) (o : ObjectType) → slice_get (all_types W) n ≡ Some o → ObjectFits o (slice_get (take (length s.store) s2.store) n)
    fits n o e =
        let lt = below_length (all_types W) n o e in
        subst (λ y. ObjectFits o y) (sym (slice_take s2.store (length s.store) n (omega (arith, lt, size))))
        (inner.fits n o (before_it (all_types W) objects n lt ∙ e))

element_below : (store : Store) (i : ℕ) → is_element (slice_get store i) ≡ true → i < length store
element_below [] i e = absurd (let z : ⊥ = cc in z)
element_below (t ∷ store) zero e = omega arith
element_below (t ∷ store) (suc i) e = omega (arith, element_below store i e)

pub after_left : (W : World) (w : ℕ → Bool) (g : ℕ) (f : Function) (passed : List Passed) (v : Option ℤ) (s s2 : machine.State) → Fine W s
    → After W.first writes_all (enter g f passed s) s2 → After W.first w s (leave s v s2)
after_left W w g f passed v s s2 fine after = record {
  base = refl;
  arrays = refl;
  below = λ i lo lt e. stays_same i lo e;
  still = λ x d e. stays_same (s.base + x) (let low = fine.low in let b = fine.base in omega (arith, low, b)) e;
}
  where
    stays_same : (i : ℕ) → W.first ≤ i → is_element (slice_get s.store i) ≡ true → slice_get (take (length s.store) s2.store) i ≡ slice_get s.store i
    stays_same i lo e =
        let lt = element_below s.store i e in
        let there = before_it s.store (objects_of f.objects passed) i lt in
        slice_take s2.store (length s.store) i lt ∙ (after.below i lo lt (ap is_element there ∙ e) ∙ there)
