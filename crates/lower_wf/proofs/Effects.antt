-- A value that goes unused is typed as it was, also where its call is marked as unused.
use Rattle.std.proofs.Common.{◌≡◌, Bool, true, false, not, ◌&&◌, ◌||◌, ◌++◌, Option, Some, None, refl, ap, ◌∙◌, subst}
use Rattle.std.proofs.lemmas.Bool.{and_from}
use Rattle.srcset.specs.declared.code.Code.{Code}
use Rattle.srcset.specs.declared.refusal.Pos.{Pos}
use Rattle.ctypes.specs.declared.types.IntType.{IntType}
use Rattle.typing_spec.specs.Types.{FunctionType, same_result}
use Rattle.typing_spec.specs.Program as typed
use Rattle.typing_spec.specs.Program.{Value, Program, Function}
use Rattle.typing_spec.specs.Verdict.{IfFine}
use Rattle.typing_spec.specs.Expressions.{Checked, value, object, array, reference, nothing, designator, worth, effect, unused}
use Rattle.typing_spec.specs.Nodes.{type_of_value}
use Rattle.typing_spec.specs.Uses.{uses}
use Rattle.typing_spec.specs.WellTyped.{is_scalar, some_number, same_none, callee_type, params_of, call_fits, place_is_typed, value_is_typed, arguments_are_typed}
use Rattle.lower_wf.proofs.Same.{both_true}
use Rattle.lower_wf.proofs.Ground.{Setting, Present, Typed, PlaceTyped, IsGood, IsWorth, type_at}

pub uses_unused : (e : Value) → uses (unused e) ≡ uses e
uses_unused (typed.constant t v) = refl
uses_unused (typed.read t a) = refl
uses_unused (typed.assigned at t a e) = refl
uses_unused (typed.compound at op t of a e) = refl
uses_unused (typed.stepped at m op t of a) = refl
uses_unused (typed.unary at op t e) = refl
uses_unused (typed.binary at op t a b) = refl
uses_unused (typed.both_true a b) = refl
uses_unused (typed.one_true a b) = refl
uses_unused (typed.chosen t c a b) = ap (λ us. uses c ++ us ++ uses (unused b)) (uses_unused a) ∙ ap (λ us. uses c ++ uses a ++ us) (uses_unused b)
uses_unused (typed.sequence a b) = ap (λ us. uses a ++ us) (uses_unused b)
uses_unused (typed.cast t e) = refl
uses_unused (typed.discarded e) = refl
uses_unused (typed.call at f t used args) = refl

pub type_unused : (e : Value) → type_of_value (unused e) ≡ type_of_value e
type_unused (typed.constant t v) = refl
type_unused (typed.read t a) = refl
type_unused (typed.assigned at t a e) = refl
type_unused (typed.compound at op t of a e) = refl
type_unused (typed.stepped at m op t of a) = refl
type_unused (typed.unary at op t e) = refl
type_unused (typed.binary at op t a b) = refl
type_unused (typed.both_true a b) = refl
type_unused (typed.one_true a b) = refl
type_unused (typed.chosen t c a b) = refl
type_unused (typed.sequence a b) = type_unused b
type_unused (typed.cast t e) = refl
type_unused (typed.discarded e) = refl
type_unused (typed.call at f t used args) = refl

call_unused : (t : Option IntType) (used : Bool) (o : Option FunctionType) → call_fits t used o ≡ true → call_fits t false o ≡ true
call_unused t used None h = h
call_unused t used (Some g) h = and_from (same_result t g.result) true (both_true (same_result t g.result) (not used || some_number t) h).0 refl

module _ (p : Program) (f : Function) where
  four : (a b c d x y : Bool) → (a && b) && ((x && c) && (y && d)) ≡ true → (p q : Bool) → (x ≡ true → p ≡ true) → (y ≡ true → q ≡ true) → (a && b) && ((p && c) && (q && d)) ≡ true
  four a b c d x y h p q k l =
      let w = both_true (a && b) ((x && c) && (y && d)) h in
      let v = both_true (x && c) (y && d) w.1 in
      let m = both_true x c v.0 in
      let n = both_true y d v.1 in
      and_from (a && b) ((p && c) && (q && d)) w.0 (and_from (p && c) (q && d) (and_from p c (k m.0) m.1) (and_from q d (l n.0) n.1))

  five : (a b x c y d p q : Bool) → (a && b) && (x && (c && (y && d))) ≡ true → (x ≡ true → p ≡ true) → (y ≡ true → q ≡ true) → (a && b) && (p && (c && (q && d))) ≡ true
  five a b x c y d p q h k l =
      let w = both_true (a && b) (x && (c && (y && d))) h in
      let v = both_true x (c && (y && d)) w.1 in
      let m = both_true c (y && d) v.1 in
      let n = both_true y d m.1 in
      and_from (a && b) (p && (c && (q && d))) w.0 (and_from p (c && (q && d)) (k v.0) (and_from c (q && d) m.0 (and_from q d (l n.0) n.1)))

  abbrev V : Value → Bool
  V e = value_is_typed p f e

  abbrev N : Value → Bool
  N e = some_number (type_of_value e)

  abbrev O : Value → Bool
  O e = same_none (type_of_value e)

  pub typed_unused : (e : Value) → value_is_typed p f e ≡ true → value_is_typed p f (unused e) ≡ true
  typed_unused (typed.constant t v) h = h
  typed_unused (typed.read t a) h = h
  typed_unused (typed.assigned at t a e) h = h
  typed_unused (typed.compound at op t of a e) h = h
  typed_unused (typed.stepped at m op t of a) h = h
  typed_unused (typed.unary at op t e) h = h
  typed_unused (typed.binary at op t a b) h = h
  typed_unused (typed.both_true a b) h = h
  typed_unused (typed.one_true a b) h = h
  typed_unused (typed.chosen (Some t) c a b) h =
      ap (λ x. (V c && N c) && ((V (unused a) && some_number x) && (V (unused b) && N (unused b)))) (type_unused a)
      ∙ ap (λ x. (V c && N c) && ((V (unused a) && N a) && (V (unused b) && some_number x))) (type_unused b)
      ∙ four (V c) (N c) (N a) (N b) (V a) (V b) h (V (unused a)) (V (unused b)) (typed_unused a) (typed_unused b)
  typed_unused (typed.chosen None c a b) h =
      ap (λ x. (V c && N c) && (V (unused a) && (same_none x && (V (unused b) && O (unused b))))) (type_unused a)
      ∙ ap (λ x. (V c && N c) && (V (unused a) && (O a && (V (unused b) && same_none x)))) (type_unused b)
      ∙ five (V c) (N c) (V a) (O a) (V b) (O b) (V (unused a)) (V (unused b)) h (typed_unused a) (typed_unused b)
  typed_unused (typed.sequence a b) h = let w = both_true (V a) (V b) h in and_from (V a) (V (unused b)) w.0 (typed_unused b w.1)
  typed_unused (typed.cast t e) h = h
  typed_unused (typed.discarded e) h = h
  typed_unused (typed.call at g t used args) h =
      let w = both_true (arguments_are_typed p f (params_of (callee_type p g)) args) (call_fits t used (callee_type p g)) h in
      and_from (arguments_are_typed p f (params_of (callee_type p g)) args) (call_fits t false (callee_type p g)) w.0 (call_unused t used (callee_type p g) w.1)

module _ (W : Setting) where
  pub is_unused : (e : Value) → Typed W e → Typed W (unused e)
  is_unused e g u = typed_unused W.program W.function e (g (subst (Present W.program) (uses_unused e) u))

  pub read_typed : (t : IntType) (a : typed.Place) → PlaceTyped W a → is_scalar t (type_at W a) ≡ true → Typed W (typed.read t a)
  read_typed t a g h u = and_from (place_is_typed W.program W.function a) (is_scalar t (type_at W a)) (g u) h

  pub good_worth : (c : Code) (at : Pos) (x : Checked) → IsGood W x → IfFine (IsWorth W) (worth c at x)
  good_worth c at (value p t e) g = g
  good_worth c at (object p t k a) g = (read_typed t a g.0 g.1, refl)
  good_worth c at (array p t a) g = tt
  good_worth c at (reference p t a) g = tt
  good_worth c at (nothing p e) g = tt
  good_worth c at (designator p) g = tt

  pub good_effect : (x : Checked) → IsGood W x → IfFine (Typed W) (effect x)
  good_effect (value p t e) g = is_unused e g.0
  good_effect (object p t k a) g = read_typed t a g.0 g.1
  good_effect (array p t a) g = tt
  good_effect (reference p t a) g = tt
  good_effect (nothing p e) g = g.0
  good_effect (designator p) g = tt
