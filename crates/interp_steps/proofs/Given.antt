-- Steps of initialisers.
use Rattle.std.proofs.Common.{◌≡◌, ℕ, zero, suc, ◌+◌, ◌*◌, ◌<◌, List, [], ◌∷◌, length, map, drop, get_or, refl, sym, ap, ◌∙◌, rules, arith, Global}
use Rattle.std.specs.Prelude.{Result, Vec}
use Rattle.ctypes.specs.declared.types.IntType.{IntType}
use Rattle.typed_ast.specs.declared.expressions.Value.{Value}
use Rattle.typed_ast.specs.declared.initialisers.Initialiser.{Initialiser, the_lemmas}
use Rattle.typed_ast.specs.declared.initialisers.Initialiser as I
use Rattle.typed_ast.specs.View.{value_of, initialiser_of, initialisers_of}
use Rattle.typing_spec.specs.Types.{elements_in}
use Rattle.typing_spec.specs.Program as typed
use Rattle.csem.specs.Store.{Reference}
use Rattle.csem.specs.Statements.{first_length}
use Rattle.interp_store.specs.declared.stop.Stop.{Stop}
use Rattle.interp_store.specs.declared.machine.Machine.{Machine}
use Rattle.interp_store.specs.declared.frames.InitialiserFrame.{InitialiserFrame}
use Rattle.interp_store.specs.declared.frames.Late.{Late}
use Rattle.interp_store.specs.declared.frames.Step.{Step}
use Rattle.interp_store.specs.layer.Frames as on
use Rattle.interp_store.specs.layer.Steps.{came_late, counted, entered_initialiser, left_initialised, listed}
use Rattle.interp_store.specs.layer.Views.{initialiser_frame, late_of}
use Rattle.interp_store.specs.layer.Agrees.{Takes}
use Rattle.interp_store.proofs.Taken.{takes_as}

-- equal deferred operations take the same steps
pub late_as : (late l : Late) (old new : Machine) (r : Result Step Stop) → late ≡ l →
    Takes (λ p s. came_late p (late_of l) s) old r new → Takes (λ p s. came_late p (late_of late) s) old r new
late_as late l old new r e h =
    takes_as old new r (λ p s. came_late p (late_of late) s) (λ p s. came_late p (late_of l) s) (λ p s. ap (λ l. came_late p (late_of l) s) (sym e)) h

-- equal numbers of ticks take the same steps
pub counted_as : (n k : ℕ) (late : on.Late) (old new : Machine) (r : Result Step Stop) → n ≡ k →
    Takes (λ p s. counted p k late s) old r new → Takes (λ p s. counted p n late s) old r new
counted_as n k late old new r e h =
    takes_as old new r (λ p s. counted p n late s) (λ p s. counted p k late s) (λ p s. ap (λ k. counted p k late s) (sym e)) h

-- ---- how many elements

counted_from : (ls : List ℕ) (i : ℕ) → i < length ls → elements_in (drop i ls) ≡ get_or ls i 0 * elements_in (drop (suc i) ls)
counted_from [] i h = absurd (omega (arith, h))
counted_from (n ∷ ls) zero h = refl
counted_from (n ∷ ls) (suc i) h = counted_from ls i (omega (arith, h))

-- one length more
pub one_counted : (ls : List ℕ) (i product next whole : ℕ) → i < length ls → next ≡ product * get_or ls i 0 →
    product * elements_in (drop i ls) ≡ whole → next * elements_in (drop (i + 1) ls) ≡ whole
one_counted ls i product next whole h e all =
    let rest = elements_in (drop (suc i) ls) in
    let number : i + 1 ≡ suc i = omega arith in
    let around : (product * get_or ls i 0) * rest ≡ product * (get_or ls i 0 * rest) = grind arith in
    ap (λ k. next * elements_in (drop k ls)) number ∙ ap (λ x. x * rest) e ∙ around ∙ ap (λ x. product * x) (sym (counted_from ls i h)) ∙ all

-- ---- initialisers

one_is : (t : IntType) (v : Value) → initialiser_of (I.One t v) ≡ typed.one_value t (value_of v)
one_is t v = search (rules, the_lemmas)

text_is : (n : ℕ) → initialiser_of (I.Text n) ≡ typed.text n
text_is n = search (rules, the_lemmas)

list_is : (all : Vec Initialiser Global) → initialiser_of (I.List all) ≡ typed.list (initialisers_of (map initialiser_of all.items))
list_is all = search (rules, the_lemmas)

pub sees_one : (x : Initialiser) (t : IntType) (v : Value) → x ≡ I.One t v → initialiser_of x ≡ typed.one_value t (value_of v)
sees_one x t v e = ap initialiser_of e ∙ one_is t v

pub sees_text : (x : Initialiser) (n : ℕ) → x ≡ I.Text n → initialiser_of x ≡ typed.text n
sees_text x n e = ap initialiser_of e ∙ text_is n

pub sees_list : (x : Initialiser) (all : Vec Initialiser Global) (items : List Initialiser) → x ≡ I.List all → items ≡ all.items →
    initialiser_of x ≡ typed.list (initialisers_of (map initialiser_of items))
sees_list x all items e f = ap initialiser_of e ∙ list_is all ∙ ap (λ (l : List Initialiser). typed.list (initialisers_of (map initialiser_of l))) (sym f)

module _ (old new : Machine) (r : Result Step Stop) (t : IntType) where
  pub initialiser_as : (i j : typed.Initialiser) (lengths : List ℕ) (to : Reference) → i ≡ j →
      Takes (λ p s. entered_initialiser p j t lengths to s) old r new → Takes (λ p s. entered_initialiser p i t lengths to s) old r new
  initialiser_as i j lengths to e h =
      takes_as old new r (λ p s. entered_initialiser p i t lengths to s) (λ p s. entered_initialiser p j t lengths to s)
      (λ p s. ap (λ x. entered_initialiser p x t lengths to s) (sym e)) h

  pub text_as : (count n : ℕ) (lengths : List ℕ) (to : Reference) → count ≡ first_length lengths →
      Takes (λ p s. counted p count (on.puts_text t count n to) s) old r new →
      Takes (λ p s. counted p (first_length lengths) (on.puts_text t (first_length lengths) n to) s) old r new
  text_as count n lengths to e h =
      takes_as old new r (λ p s. counted p (first_length lengths) (on.puts_text t (first_length lengths) n to) s) (λ p s. counted p count (on.puts_text t count n to) s)
      (λ p s. ap (λ k. counted p k (on.puts_text t k n to) s) e) h

  pub listed_at : (all : typed.Initialisers) (k l i j : ℕ) (inner same : List ℕ) (to : Reference) → l ≡ k → j ≡ i → same ≡ inner →
      Takes (λ p s. listed p all t l j same to s) old r new → Takes (λ p s. listed p all t k i inner to s) old r new
  listed_at all k l i j inner same to e f g h =
      takes_as old new r (λ p s. listed p all t k i inner to s) (λ p s. listed p all t l j same to s)
      (λ p s. ap (λ k. listed p all t k j same to s) e ∙ ap (λ i. listed p all t k i same to s) f ∙ ap (λ inner. listed p all t k i inner to s) g) h

  -- nothing is left of the list
  pub list_ends : (all : List Initialiser) (k i : ℕ) (lengths : List ℕ) (to : Reference) → length all ≡ 0 →
      Takes (λ p s. counted p (k * elements_in lengths) (on.puts_zeros k i to) s) old r new →
      Takes (λ p s. listed p (initialisers_of (map initialiser_of all)) t k i lengths to s) old r new
  list_ends [] k i lengths to e h = h
  list_ends (x ∷ all) k i lengths to e h = absurd (omega (arith, e))

-- equal frames take the same steps
pub initialised_as : (frame f : InitialiserFrame) (old new : Machine) (r : Result Step Stop) → frame ≡ f →
    Takes (λ p s. left_initialised p (initialiser_frame f) s) old r new → Takes (λ p s. left_initialised p (initialiser_frame frame) s) old r new
initialised_as frame f old new r e h =
    takes_as old new r (λ p s. left_initialised p (initialiser_frame frame) s) (λ p s. left_initialised p (initialiser_frame f) s)
    (λ p s. ap (λ f. left_initialised p (initialiser_frame f) s) (sym e)) h
