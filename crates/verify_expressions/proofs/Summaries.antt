-- Calls by summaries, as the functions have them.
use Rattle.std.proofs.Common.{◌≡◌, ◌≤◌, ◌<◌, ◌+◌, ℕ, zero, suc, List, [], ◌∷◌, ◌++◌, length, map, take, get_or, refl, sym, ap, subst, ◌∙◌, arith, add-one}
use Rattle.std.proofs.lemmas.List.{take_all}
use Rattle.std.proofs.Math.Seq.{take-suc}
use Rattle.std.specs.Prelude.{Option, Some, None, Bool, true, false, slice_get, Contains}
use Rattle.std.proofs.Common.{pos}
use Rattle.srcset.specs.declared.refusal.Pos.{Pos}
use Rattle.typing_spec.specs.Types.{ObjectType}
use Rattle.typing_spec.specs.Program.{Function}
use Rattle.typed_ast.specs.declared.types.ObjectType as held
use Rattle.typed_ast.specs.declared.units.Function as code_function
use Rattle.typed_ast.specs.View.{function_of, object_type_of}
use Rattle.std.specs.declared.vec.Vec.{Vec}
use Rattle.std.specs.declared.alloc.Global.{Global}
use Rattle.verify_logic.specs.declared.abstract_values.Interval.{Interval}
use Rattle.verify_logic.specs.declared.abstract_values.AbsValue.{AbsValue}
use Rattle.verify_logic.specs.declared.abstract_values.ArrayArgument.{ArrayArgument}
use Rattle.verify_logic.specs.States.{Known, Summary, Frame, just, Below, KnownEntails, or_scalar}
use Rattle.verify_logic.specs.Calls.{Entered, CallGives, CallValue, Cuts, with_own}
use Rattle.verify_logic.proofs.Objects.{below}
use Rattle.verify_logic.proofs.Calls.{summary_rule, function_rule, no_call, value_used, value_unused, value_listed}
use Rattle.verify_expressions.specs.Views.{shapes_in, shape_in, shapes_at, summary_of}
use Rattle.verify_expressions.specs.declared.scope.Summary as code
use Rattle.verify_expressions.specs.Parts.{CallsAt, EntersAt, Gets, Summarised}
use Rattle.verify_expressions.proofs.Steps.{in_just}

-- ---- the objects of a call

pub enters_set : (is : List Interval) (n : ℕ) (d : Interval) (t : ObjectType) (k : AbsValue) → n < length is → Gets (get_or is n d) t k → EntersAt is n t k
enters_set [] n d t k lt h = absurd (omega (arith, lt))
enters_set (i ∷ is) zero d t k lt h = h
enters_set (i ∷ is) (suc n) d t k lt h = enters_set is n d t k (let q : suc n < suc (length is) = lt in omega (arith, q)) h

pub enters_unset : (is : List Interval) (n : ℕ) (t : ObjectType) (k : AbsValue) → length is ≤ n → k.initialised ≡ false → EntersAt is n t k
enters_unset [] n t k le h = h
enters_unset (i ∷ is) zero t k le h = absurd (let q : suc (length is) ≤ 0 = le in omega (arith, q))
enters_unset (i ∷ is) (suc n) t k le h = enters_unset is n t k (let q : suc (length is) ≤ suc n = le in omega (arith, q)) h

-- the first n objects of a call begin in this way
abbrev pub EnteredTo : ℕ → List Interval → List held.ObjectType → List AbsValue → Type 0
EnteredTo n is objects ks = Entered (take n is) (map object_type_of (take n objects)) (take n ks)

take_none : (n : ℕ) → take {A = Interval} n [] ≡ []
take_none zero = refl
take_none (suc n) = refl

entered_suc : (is : List Interval) (objects : List held.ObjectType) (ks : List AbsValue) (n : ℕ) (dt : held.ObjectType) (dk : AbsValue) → n < length objects → n < length ks → EntersAt is n (object_type_of (get_or objects n dt)) (get_or ks n dk) →
    EnteredTo n is objects ks → EnteredTo (suc n) is objects ks
entered_suc is [] ks n dt dk lo lk h e = absurd (omega (arith, lo))
entered_suc is (t ∷ objects) [] n dt dk lo lk h e = absurd (omega (arith, lk))
entered_suc [] (t ∷ objects) (k ∷ ks) zero dt dk lo lk h e = (h, tt)
entered_suc (i ∷ is) (t ∷ objects) (k ∷ ks) zero dt dk lo lk h e = (h.0, h.1, tt)
entered_suc [] (t ∷ objects) (k ∷ ks) (suc n) dt dk lo lk h e = (e.0, entered_suc [] objects ks n dt dk (let q : suc n < suc (length objects) = lo in omega (arith, q)) (let q : suc n < suc (length ks) = lk in omega (arith, q)) h (let P : List Interval → Type 0 = λ xs. Entered xs (map object_type_of (take n objects)) (take n ks) in subst P (sym (take_none n)) e.1))
entered_suc (i ∷ is) (t ∷ objects) (k ∷ ks) (suc n) dt dk lo lk h e = (e.0, e.1, entered_suc is objects ks n dt dk (let q : suc n < suc (length objects) = lo in omega (arith, q)) (let q : suc n < suc (length ks) = lk in omega (arith, q)) h e.2)

pub entered_step : (is : List Interval) (objects : List held.ObjectType) (ks : List AbsValue) (n : ℕ) (t : held.ObjectType) (dk : AbsValue) → length objects ≡ length ks → n < length ks → t ≡ get_or objects n t → EntersAt is n (object_type_of t) (get_or ks n dk) →
    EnteredTo n is objects ks → EnteredTo (n + 1) is objects ks
entered_step is objects ks n t dk el lt et h e =
    let P : held.ObjectType → Type 0 = λ u. EntersAt is n (object_type_of u) (get_or ks n dk) in
    let Q : ℕ → Type 0 = λ m. EnteredTo m is objects ks in
    subst Q (sym (add-one n)) (entered_suc is objects ks n t dk (omega (arith, el, lt)) lt (subst P et h) e)

pub entered_begin : (is : List Interval) (objects : List held.ObjectType) (ks : List AbsValue) → EnteredTo 0 is objects ks
entered_begin is objects ks = tt

pub entered_end : (is : List Interval) (objects : List held.ObjectType) (ks : List AbsValue) (n : ℕ) → length objects ≡ length ks → length is ≤ length ks → length ks ≤ n → EnteredTo n is objects ks → Entered is (map object_type_of objects) ks
entered_end is objects ks n eo li le h =
    let I : List Interval → Type 0 = λ xs. Entered xs (map object_type_of (take n objects)) (take n ks) in
    let O : List held.ObjectType → Type 0 = λ xs. Entered is (map object_type_of xs) (take n ks) in
    let K : List AbsValue → Type 0 = λ xs. Entered is (map object_type_of objects) xs in
    subst K (take_all n ks le) (subst O (take_all n objects (omega (arith, eo, le))) (subst I (take_all n is (omega (arith, li, le))) h))

-- ---- the arrays

pub same_step : (xs ys : List ArrayArgument) (n : ℕ) (d d2 : ArrayArgument) → n < length xs → length xs ≡ length ys → get_or xs n d ≡ get_or ys n d2 → take n xs ≡ take n ys → take (n + 1) xs ≡ take (n + 1) ys
same_step xs ys n d d2 lt el e h =
    let lt2 : n < length ys = omega (arith, lt, el) in
    ap (λ m. take m xs) (add-one n) ∙ take-suc xs n d lt ∙ ap (λ zs. zs ++ get_or xs n d ∷ []) h ∙ ap (λ z. take n ys ++ z ∷ []) e ∙ sym (take-suc ys n d2 lt2) ∙ ap (λ m. take m ys) (sym (add-one n))

pub same_end : (xs ys : List ArrayArgument) (n : ℕ) → length xs ≤ n → length xs ≡ length ys → take n xs ≡ take n ys → xs ≡ ys
same_end xs ys n le el h = sym (take_all n xs le) ∙ h ∙ take_all n ys (omega (arith, le, el))

-- ---- the lengths of objects

shape_suc : (ys : List (List ℕ)) (n : ℕ) → n < length ys → take n ys ++ or_scalar (slice_get ys n) ∷ [] ≡ take (suc n) ys
shape_suc [] n h = absurd (omega (arith, h))
shape_suc (y ∷ ys) zero h = refl
shape_suc (y ∷ ys) (suc n) h = ap (λ rest. y ∷ rest) (shape_suc ys n (let q : suc n < suc (length ys) = h in omega (arith, q)))

shape_more : (ys : List (List ℕ)) (n : ℕ) → n < length ys → take n ys ++ or_scalar (slice_get ys n) ∷ [] ≡ take (n + 1) ys
shape_more ys n h = shape_suc ys n h ∙ ap (λ m. take m ys) (sym (add-one n))

items_suc : (xs : List (Vec ℕ Global)) (n : ℕ) (d : Vec ℕ Global) → n < length xs → take n (shapes_in xs) ++ (get_or xs n d).items ∷ [] ≡ take (suc n) (shapes_in xs)
items_suc [] n d h = absurd (omega (arith, h))
items_suc (x ∷ xs) zero d h = refl
items_suc (x ∷ xs) (suc n) d h = ap (λ rest. x.items ∷ rest) (items_suc xs n d (let q : suc n < suc (length xs) = h in omega (arith, q)))

items_more : (xs : List (Vec ℕ Global)) (n : ℕ) (d : Vec ℕ Global) → n < length xs → take n (shapes_in xs) ++ (get_or xs n d).items ∷ [] ≡ take (n + 1) (shapes_in xs)
items_more xs n d h = items_suc xs n d h ∙ ap (λ m. take m (shapes_in xs)) (sym (add-one n))

shapes_long : (outer : List (Vec ℕ Global)) (objects : List held.ObjectType) → length (shapes_at outer objects) ≡ length outer + length objects
shapes_long [] [] = refl
shapes_long [] (t ∷ objects) = let q : length (shapes_at [] objects) ≡ 0 + length objects = shapes_long [] objects in let r : suc (length (shapes_at [] objects)) ≡ 0 + suc (length objects) = omega (arith, q) in r
shapes_long (x ∷ outer) objects = let q : length (shapes_at outer objects) ≡ length outer + length objects = shapes_long outer objects in let r : suc (length (shapes_at outer objects)) ≡ suc (length outer) + length objects = omega (arith, q) in r

items_long : (xs : List (Vec ℕ Global)) → length (shapes_in xs) ≡ length xs
items_long [] = refl
items_long (x ∷ xs) = ap suc (items_long xs)

pub shapes_step : (xs outer : List (Vec ℕ Global)) (objects : List held.ObjectType) (n : ℕ) (d : Vec ℕ Global) (l : List ℕ) → n < length xs → length xs ≡ length outer + length objects → (get_or xs n d).items ≡ l → l ≡ shape_in outer objects n →
    take n (shapes_in xs) ≡ take n (shapes_at outer objects) → take (n + 1) (shapes_in xs) ≡ take (n + 1) (shapes_at outer objects)
shapes_step xs outer objects n d l lt e el es h =
    let long : n < length (shapes_at outer objects) = (let q : length (shapes_at outer objects) ≡ length outer + length objects = shapes_long outer objects in omega (arith, lt, e, q)) in
    sym (items_more xs n d lt) ∙ ap (λ a. a ++ (get_or xs n d).items ∷ []) h ∙ ap (λ a. take n (shapes_at outer objects) ++ a ∷ []) (el ∙ es) ∙ shape_more (shapes_at outer objects) n long

pub shapes_next : (xs outer : List (Vec ℕ Global)) (objects : List held.ObjectType) (n : ℕ) (x : Vec ℕ Global) (b l : List ℕ) → length xs ≡ length outer + length objects → n < length xs → x ≡ get_or xs n x → b ≡ x.items → b ≡ l → l ≡ shape_in outer objects n →
    take n (shapes_in xs) ≡ take n (shapes_at outer objects) → take (n + 1) (shapes_in xs) ≡ take (n + 1) (shapes_at outer objects)
shapes_next xs outer objects n x b l e lt ex eb el es h = shapes_step xs outer objects n x l lt e (sym (ap (λ v. v.items) ex) ∙ sym eb ∙ el) es h

pub shapes_end : (xs outer : List (Vec ℕ Global)) (objects : List held.ObjectType) (n : ℕ) → length xs ≤ n → length xs ≡ length outer + length objects → take n (shapes_in xs) ≡ take n (shapes_at outer objects) → shapes_in xs ≡ shapes_at outer objects
shapes_end xs outer objects n le e h =
    let a : length (shapes_in xs) ≡ length xs = items_long xs in
    let b : length (shapes_at outer objects) ≡ length outer + length objects = shapes_long outer objects in
    sym (take_all n (shapes_in xs) (omega (arith, le, a))) ∙ h ∙ take_all n (shapes_at outer objects) (omega (arith, le, e, b))

pub shapes_count : (outer : List (Vec ℕ Global)) (objects : List held.ObjectType) (n : ℕ) → n ≡ length outer + length objects → n ≡ length (shapes_at outer objects)
shapes_count outer objects n e = e ∙ sym (shapes_long outer objects)

-- ---- the call

pub hull_unused : (fr : Frame) (at : Pos) (used : Bool) (value : AbsValue) (zero r : Interval) → used ≡ false → zero ≡ just (pos 0) → Below value.interval r → Below zero r → CallValue fr at used value r
hull_unused fr at used value z r e ez b0 b1 = value_unused fr at used value r e (λ v m. below value.interval r v b0 m) (below z r (pos 0) b1 (in_just z (pos 0) ez))

pub hull_listed : (fr : Frame) (at : Pos) (used : Bool) (value : AbsValue) (zero r : Interval) → Contains fr.listed at → zero ≡ just (pos 0) → Below value.interval r → Below zero r → CallValue fr at used value r
hull_listed fr at used value z r e ez b0 b1 = value_listed fr at used value r e (λ v m. below value.interval r v b0 m) (below z r (pos 0) b1 (in_just z (pos 0) ez))

pub none_calls : (fr : Frame) (at : Pos) (f : ℕ) (used : Bool) (is : List Interval) (ps : List ArrayArgument) (i : Interval) (o : Option Known) → CallsAt fr at f used is ps None i o
none_calls fr at f used is ps i o = record { gives = λ t arguments o0 p. function_rule fr at f t used arguments o0 is ps None (record { initialised = true; interval = i }) o i p (no_call fr f is ps _ o) (value_used fr at used (record { initialised = true; interval = i }) refl) }

pub called_by : (fr : Frame) (at : Pos) (f : ℕ) (used : Bool) (is : List Interval) (ps : List ArrayArgument) (known : Known) (own : List AbsValue) (entry : Known) (g : Function) (i : Interval) (o : Option Known) → slice_get fr.program.functions f ≡ Some g → Entered is g.objects own → entry ≡ with_own known own →
    Summarised fr at f used ps entry i o → CallsAt fr at f used is ps (Some known) i o
called_by fr at f used is ps known own entry g i o eg en ee h = record {
  gives = λ t arguments o0 p.
      let a : Summary = h.summary in
      let E : Known → Type 0 = λ entry. KnownEntails entry a.entry in
      let gives : CallGives fr f is ps (Some known) a.value o = summary_rule fr f g is ps known own h.number a o eg en h.there h.fits.function h.fits.outer h.fits.arrays (subst E ee h.fits.entry_is) h.left in
      function_rule fr at f t used arguments o0 is ps (Some known) a.value o i p gives h.value;
}

pub summary_there : (xs : List code.Summary) (n : ℕ) (a : code.Summary) → slice_get xs n ≡ Some a → slice_get (map summary_of xs) n ≡ Some (summary_of a)
summary_there [] n a e = absurd (cc e)
summary_there (x ∷ xs) zero a e = let q : x ≡ a = cc e in ap (λ x. Some (summary_of x)) q
summary_there (x ∷ xs) (suc n) a e = summary_there xs n a e

pub array_there : (outer : List (Vec ℕ Global)) (objects : List held.ObjectType) (x n : ℕ) → n ≡ length outer + length objects → x < n → x < length (shapes_at outer objects)
array_there outer objects x n e lt = let P : ℕ → Type 0 = λ m. x < m in subst P (shapes_count outer objects n e) lt

pub function_there : (functions : List code_function.Function) (f : ℕ) (g : code_function.Function) → slice_get functions f ≡ Some g → slice_get (map function_of functions) f ≡ Some (function_of g)
function_there [] f g e = absurd (cc e)
function_there (x ∷ functions) zero g e = let q : x ≡ g = cc e in ap (λ x. Some (function_of x)) q
function_there (x ∷ functions) (suc f) g e = function_there functions f g e

pub cuts_count : (outer : List (Vec ℕ Global)) (objects : List held.ObjectType) (n : ℕ) (left o : Option Known) → n ≡ length outer + length objects → Cuts n left o → Cuts (length (shapes_at outer objects)) left o
cuts_count outer objects n left o e h = let P : ℕ → Type 0 = λ n. Cuts n left o in subst P (shapes_count outer objects n e) h
