-- The words that calls pass and return are those of the history.
use Rattle.std.proofs.Common.{◌≡◌, ℕ, zero, suc, ◌+◌, ◌<◌, List, [], ◌∷◌, length, map, Option, Some, None, Bool, true, false, ◌&&◌, refl, sym, ap, ◌∙◌, subst, arith}
use Rattle.std.specs.Prelude.{nat_eq, nat_le, nat_lt, slice_get, if◌then◌else◌}
use Rattle.std.proofs.lemmas.Bool.Decides.{nat_tests}
use Rattle.ctypes.specs.declared.types.IntType.{IntType}
use Rattle.typing_spec.specs.Types.{ObjectType, ParameterType, number, elements, same_type}
use Rattle.typing_spec.specs.Units as units
use Rattle.typing_spec.specs.Nodes.{typed_nodes}
use Rattle.typing_spec.specs.Program as typed
use Rattle.typing_spec.specs.WellTyped.{is_typed, functions_are_typed, statics_are_typed, parameters_are_first, statement_is_typed}
use Rattle.csem.specs.Store.{Tree, Reference}
use Rattle.csem.specs.History.{Entry, Entered}
use Rattle.tac_code.specs.Code.{Function, Program, function_at, or_no_function, scalar_type, type_if_scalar}
use Rattle.tac_code.specs.Run.{Value, Values, Call, State, Progress, running, ended, stuck, ◌>>=◌, word, reference, word_in, is_word_of, number_object, numbers_in, arrays_in, words_in, and_then, begun, entered, result_in, returned, act, instruction_at, step}
use Rattle.tac_code.specs.Lowered.{kind_of, IsLowered}
use Rattle.lower_correct.specs.Words.{IsWordOf, ArePassed, IsReturned, PassesWords, ReturnsWord, CallsPassWords, ReturnsPassWords}
use Rattle.lower_correct.proofs.Words.{differ, left_true, right_true}
use Rattle.lower_correct.proofs.Stores.{below_length}
use Rattle.lower_correct.proofs.Typing.{same_type_is, no_length}
use Rattle.lower_correct.proofs.Entering.{function_is, item_below}

-- ---- what an option must have been

record Bound {A : Type 0} (o : Option A) (go : A → Progress) (u : State) : Type 0 where
  pub item : A
  pub there : o ≡ Some item
  pub goes : go item ≡ running u

bound : {A : Type 0} (o : Option A) (go : A → Progress) (u : State) → (o >>= go) ≡ running u → Bound o go u
bound None go u e = absurd (let z : ⊥ = cc in z)
bound (Some x) go u e = record { item = x; there = refl; goes = e }

record Both {A : Type 0} (a : Option A) (b : Option (List A)) : Type 0 where
  pub first : A
  pub more : List A
  pub is_first : a ≡ Some first
  pub is_more : b ≡ Some more

both_there : {A : Type 0} (a : Option A) (b : Option (List A)) (l : List A) → and_then a b ≡ Some l → Both a b
both_there None b l e = absurd (let z : ⊥ = cc in z)
both_there (Some x) None l e = absurd (let z : ⊥ = cc in z)
both_there (Some x) (Some y) l e = record { first = x; more = y; is_first = refl; is_more = refl }

word_there : (o : Option Value) (w : ℕ) → word_in o ≡ Some w → o ≡ Some (word w)
word_there None w e = absurd (let z : ⊥ = cc in z)
word_there (Some (word v)) w e = cc
word_there (Some (reference r)) w e = absurd (let z : ⊥ = cc in z)

-- ---- arguments

word_is : (t : IntType) (w : ℕ) → is_word_of t w ≡ true → IsWordOf t w
word_is t w h = grind (arith, nat_tests, h)

record Passed (t : IntType) (o : Option ℕ) : Type 0 where
  pub w : ℕ
  pub there : o ≡ Some w
  pub fits : IsWordOf t w

if_word : (b : Bool) (x : Tree) (y : Tree) → (if b then Some x else None) ≡ Some y → b ≡ true
if_word true x y e = refl
if_word false x y e = absurd (let z : ⊥ = cc in z)

number_passed : (t : IntType) (o : Option ℕ) (x : Tree) → number_object (Some t) o ≡ Some x → Passed t o
number_passed t None x e = absurd (let z : ⊥ = cc in z)
number_passed t (Some w) x e = record { w = w; there = refl; fits = word_is t w (if_word (is_word_of t w) _ x e) }

scalar_is : (t : IntType) (o : ObjectType) → t ≡ o.element → o.lengths ≡ [] → scalar_type (Some o) ≡ Some t
scalar_is t o e l = ap (λ l. type_if_scalar l o.element) l ∙ ap Some (sym e)

are_passed : (ps : List ParameterType) (objects : List ObjectType) (m : Values) (k : ℕ) (numbers : List Tree) → parameters_are_first ps objects ≡ true
    → numbers_in (map kind_of ps) objects m k ≡ Some numbers → ArePassed ps (words_in (map kind_of ps) m k)
are_passed [] objects m k numbers h e = refl
are_passed (number t ∷ ps) [] m k numbers h e = absurd (differ h)
are_passed (number t ∷ ps) (o ∷ objects) m k numbers h e =
    let h1 = right_true (same_type t o.element) (nat_eq (length o.lengths) 0 && parameters_are_first ps objects) h in
    let b = both_there (number_object (scalar_type (Some o)) (word_in (m k))) (numbers_in (map kind_of ps) objects m (suc k)) numbers e in
    let scalar = scalar_is t o (same_type_is t o.element (left_true (same_type t o.element) (nat_eq (length o.lengths) 0 && parameters_are_first ps objects) h))
    (no_length o.lengths (left_true (nat_eq (length o.lengths) 0) (parameters_are_first ps objects) h1)) in
    let it = number_passed t (word_in (m k)) b.first (ap (λ x. number_object x (word_in (m k))) (sym scalar) ∙ b.is_first) in
    subst (λ x. ArePassed (number t ∷ ps) (x ∷ words_in (map kind_of ps) m (suc k))) (sym it.there)
    (it.fits, are_passed ps objects m (suc k) b.more (right_true (nat_eq (length o.lengths) 0) (parameters_are_first ps objects) h1) b.is_more)
are_passed (elements r ∷ ps) objects m k numbers h e = (refl, are_passed ps objects m (suc k) numbers h e)

item_at : (ps : List ParameterType) (m : Values) (k i w : ℕ) → slice_get (words_in (map kind_of ps) m k) i ≡ Some (Some w) → m (k + i) ≡ Some (word w)
item_at [] m k i w e = absurd (let z : ⊥ = cc in z)
item_at (number t ∷ ps) m k zero w e =
    let there : word_in (m k) ≡ Some w = cc in
    ap m (let z : k + 0 ≡ k = omega arith in z) ∙ word_there (m k) w there
item_at (number t ∷ ps) m k (suc i) w e = ap m (let z : k + suc i ≡ suc k + i = omega arith in z) ∙ item_at ps m (suc k) i w e
item_at (elements r ∷ ps) m k zero w e = absurd (let z : ⊥ = cc in z)
item_at (elements r ∷ ps) m k (suc i) w e = ap m (let z : k + suc i ≡ suc k + i = omega arith in z) ∙ item_at ps m (suc k) i w e

begun_history : (t u : State) (g : ℕ) (h : Function) (numbers : List Tree) (arrays : List Reference) (ps : List ParameterType) → h.parameters ≡ map kind_of ps
    → begun t g h numbers arrays ≡ running u → u.history ≡ Entered g (words_in (map kind_of ps) t.temporaries 0) ∷ t.history
begun_history t u g h numbers arrays ps e b = sym (ap history_of b) ∙ ap (λ l. Entered g (words_in l t.temporaries 0) ∷ t.history) e
  where
    history_of : Progress → List Entry
    history_of (running s) = s.history
    history_of (ended status input history) = history
    history_of stuck = []

first_parameters : (p : typed.Program) (g : ℕ) (f : typed.Function) → is_typed p ≡ true → slice_get p.functions g ≡ Some f
    → parameters_are_first f.type.parameters f.objects ≡ true
first_parameters p g f h e =
    let body = statement_is_typed p f (units.numbers_in f.type.parameters) (length f.objects) f.body in
    let it = function_is p p.functions g f (left_true (functions_are_typed p p.functions) (statics_are_typed p.statics && nat_lt p.main (length p.functions)) h) e in
    left_true (parameters_are_first f.type.parameters f.objects) body
    (right_true (nat_le f.weight 16777216) (parameters_are_first f.type.parameters f.objects && body)
    (right_true (nat_le (typed_nodes f) f.nodes) (nat_le f.weight 16777216 && (parameters_are_first f.type.parameters f.objects && body)) it))

passes : (p : typed.Program) (q : Program) → is_typed p ≡ true → IsLowered p q → (t u : State) (g : ℕ) (f : typed.Function) → entered q t g ≡ running u
    → slice_get p.functions g ≡ Some f → PassesWords f g t u
passes p q typed_well code t u g f e at =
    let ps = f.type.parameters in
    let m = t.temporaries in
    let callee = bound (slice_get q.functions g) _ u e in
    let h = callee.item in
    let is = code.each g f h at callee.there in
    let numbers = bound (numbers_in h.parameters h.objects m 0) _ u callee.goes in
    let arrays = bound (arrays_in h.parameters m 0) _ u numbers.goes in
    let given : numbers_in (map kind_of ps) f.objects m 0 ≡ Some numbers.item =
    ap (λ l. numbers_in (map kind_of ps) l m 0) (sym is.objects) ∙ (ap (λ l. numbers_in l h.objects m 0) (sym is.parameters) ∙ numbers.there) in (
      words_in (map kind_of ps) m 0,
      begun_history t u g h numbers.item arrays.item ps is.parameters arrays.goes,
      are_passed ps f.objects m 0 numbers.item (first_parameters p g f typed_well at) given,
      λ i w there. ap m (let z : i ≡ 0 + i = omega arith in z) ∙ item_at ps m 0 i w there,
    )

pub calls_pass_words : CallsPassWords
unfolding step
calls_pass_words p q typed_well code t u g f it e at = passes p q typed_well code t u g f (sym (ap (λ x. x >>= act q t) it) ∙ e) at

-- ---- results

record Given (r : Option IntType) (o : Option Value) (result : Option ℕ) : Type 0 where
  pub is : IsReturned r result
  pub there : (w : ℕ) → result ≡ Some w → o ≡ Some (word w)

word_returned : (u : IntType) (o : Option Value) (w : ℕ) (b : Bool) (result : Option ℕ) → word_in o ≡ Some w → is_word_of u w ≡ b
    → (if b then Some (Some w) else None) ≡ Some result → Given (Some u) o result
word_returned u o w true result there fits e =
    let same : Some w ≡ result = cc in
    subst (Given (Some u) o) same (record { is = word_is u w fits; there = λ v ev. word_there o v (there ∙ ev) })
word_returned u o w false result there fits e = absurd (let z : ⊥ = cc in z)

nothing_returned : (u : IntType) (o : Option Value) (result : Option ℕ) → None ≡ result → Given (Some u) o result
nothing_returned u o result e = subst (Given (Some u) o) e (record { is = tt; there = λ w ev. absurd (let z : ⊥ = cc in z) })

number_returned : (u : IntType) (o : Option Value) (x : Option ℕ) (result : Option ℕ) → word_in o ≡ x → result_in (Some u) x ≡ Some result → Given (Some u) o result
number_returned u o None result there e = nothing_returned u o result (let z : None ≡ result = cc in z)
number_returned u o (Some w) result there e = word_returned u o w (is_word_of u w) result there refl e

is_given : (r : Option IntType) (o : Option Value) (result : Option ℕ) → result_in r (word_in o) ≡ Some result → Given r o result
is_given None o result e =
    let same : None ≡ result = cc in
    subst (Given None o) same (record { is = refl; there = λ w ev. absurd (let z : ⊥ = cc in z) })
is_given (Some u) o result e = number_returned u o (word_in o) result refl e

leaves_word : (f : typed.Function) (t : State) (waiting : List Call) (result : Option ℕ) → Given f.type.result (t.temporaries 0) result
    → ReturnsWord f t (returned t waiting result)
leaves_word f t [] None g = tt
leaves_word f t [] (Some w) g = (Some w, refl, g.is, g.there)
leaves_word f t (c ∷ waiting) result g = (result, refl, g.is, g.there)

returns_word : (f : typed.Function) (t : State) (x : Option (Option ℕ)) → result_in f.type.result (word_in (t.temporaries 0)) ≡ x
    → ReturnsWord f t (x >>= returned t t.waiting)
returns_word f t None e = tt
returns_word f t (Some result) e = leaves_word f t t.waiting result (is_given f.type.result (t.temporaries 0) result e)

result_same : (p : typed.Program) (q : Program) → IsLowered p q → (n : ℕ) (f : typed.Function) → slice_get p.functions n ≡ Some f
    → (function_at q n).result ≡ f.type.result
result_same p q code n f at =
    let i = item_below q.functions n (subst (λ l. n < l) (sym code.count) (below_length p.functions n f at)) in
    ap (λ x. (or_no_function x).result) i.is ∙ (code.each n f i.element at i.is).result

pub returns_pass_words : ReturnsPassWords
unfolding step
returns_pass_words p q code t f it at =
    let r = result_same p q code t.call.function f at in
    let steps : (instruction_at q t >>= act q t) ≡ (result_in f.type.result (word_in (t.temporaries 0)) >>= returned t t.waiting) =
    ap (λ x. x >>= act q t) it ∙ ap (λ x. result_in x (word_in (t.temporaries 0)) >>= returned t t.waiting) r in
    subst (ReturnsWord f t) (sym steps) (returns_word f t (result_in f.type.result (word_in (t.temporaries 0))) refl)
