-- Each form of an expression is typed where its parts are (6.5).
use Rattle.std.proofs.Common.{◌≡◌, ◌≤◌, ℕ, Bool, true, false, not, ◌&&◌, ◌||◌, List, [], ◌∷◌, ◌++◌, Option, Some, None, refl, sym, ap, ◌∙◌, subst, arith}
use Rattle.std.specs.Prelude.{if◌then◌else◌}
use Rattle.std.proofs.lemmas.Bool.{and_from}
use Rattle.srcset.specs.declared.code.Code.TheVariants as code
use Rattle.srcset.specs.declared.refusal.Pos.{Pos}
use Rattle.ctypes.specs.declared.types.IntType.{IntType}
use Rattle.ctypes.specs.declared.operators.BinOp.{BinOp}
use Rattle.ctypes.specs.declared.operators.BinOp.TheVariants as op
use Rattle.ctypes.specs.Types.{bytes_of}
use Rattle.tree.specs.declared.expression.BinaryOp.{BinaryOp}
use Rattle.tree.specs.declared.expression.BinaryOp.TheVariants as operator
use Rattle.tree.specs.declared.expression.PrefixOp.{PrefixOp}
use Rattle.tree.specs.declared.expression.StepOp.{StepOp}
use Rattle.typing_spec.specs.Types.{ObjectType, complete, unknown_size, ParameterType, number, elements, FunctionType, size_of_object, alike, same_truth, same_type, same_result, inner_type}
use Rattle.typing_spec.specs.Program as typed
use Rattle.typing_spec.specs.Program.{Value, Place, Arguments, Moment}
use Rattle.typing_spec.specs.Verdict.{fine, breaks, both, IfFine}
use Rattle.typing_spec.specs.Expressions as rules
use Rattle.typing_spec.specs.Expressions.{Checked, value, object, array, reference, nothing, designator, Worth, Target, Called, worth, effect, unused}
use Rattle.typing_spec.specs.Nodes.{type_of_value}
use Rattle.typing_spec.specs.Uses.{uses, uses_in_place, uses_in_arguments}
use Rattle.typing_spec.specs.WellTyped.{is_scalar, is_array, rows_of, rows_alike, some_number, same_none, callee_type, params_of, call_fits, place_is_typed, value_is_typed, arguments_are_typed}
use Rattle.lower_wf.proofs.Verdicts.{then_some, both_some}
use Rattle.lower_wf.proofs.Ground as ground
use Rattle.lower_wf.proofs.Ground.{Setting, Present, first, second, RowsAre, FitsBy, Fits, Sized, SizedType, row_is, fits_self, same_self, scalar_is, few_bytes, size_value, row_sized, Typed, PlaceTyped, Is, IsGood, IsWorth, IsTarget, IsCalled, type_at, CalleeFits}
use Rattle.lower_wf.proofs.Effects.{good_worth, good_effect, read_typed}

refers : (a s t : Bool) → ((a && s) || (a && t)) ≡ true → a ≡ true
refers true s t h = refl
refers false s t h = h

-- none for void
abbrev pub SizedOption : Option ObjectType → Type 0
SizedOption None = Unit {0}
SizedOption (Some t) = Sized t

module _ (W : Setting) where
  abbrev V : Value → Bool
  V e = value_is_typed W.program W.function e

  abbrev N : Value → Bool
  N e = some_number (type_of_value e)

  abbrev P : Place → Bool
  P a = place_is_typed W.program W.function a

  -- ---- 6.5.1, 6.5.2.1: objects, their elements

  whole_good : (at : Pos) (t : ObjectType) (ls : List ℕ) (a : Place) → PlaceTyped W a → FitsBy t.element t.constant ls (type_at W a) → Fits (complete t) (type_at W a) → Sized t → IsGood W (rules.whole_object at t ls a)
  whole_good at t [] a g fit all s = (g, scalar_is t.element t.constant (type_at W a) fit)
  whole_good at t (n ∷ l) a g fit all s = (g, all, s)

  pub designated_good : (at : Pos) (t : ObjectType) (a : Place) → PlaceTyped W a → Fits (complete t) (type_at W a) → Sized t → IsGood W (rules.designated at t a)
  designated_good at t a g fit s = whole_good at t t.lengths a g fit fit s

  element_typed : (at : Pos) (u : ObjectType) (a : Place) (w : Worth) → PlaceTyped W a → RowsAre u (type_at W a) → IsWorth W w → PlaceTyped W (typed.element at a w.e)
  element_typed at u a w g r i h =
      and_from (P a) (is_array (type_at W a) && (V w.e && N w.e)) (g (first W.program (uses_in_place a) (uses w.e) h))
      (and_from (is_array (type_at W a)) (V w.e && N w.e) r.0 (ground.number W w.type w.e i (second W.program (uses_in_place a) (uses w.e) h)))

  element_good : (at : Pos) (u : ObjectType) (a : Place) (w : Worth) → PlaceTyped W a → RowsAre u (type_at W a) → Sized u → IsWorth W w → IsGood W (rules.designated at u (typed.element at a w.e))
  element_good at u a w g r s i =
      designated_good at u (typed.element at a w.e) (element_typed at u a w g r i) (subst (Fits (complete u)) (sym (row_is u (type_at W a) r)) (fits_self u)) s

  part_good : (at : Pos) (e : IntType) (k : Bool) (ls : List ℕ) (a : Place) (w : Worth) → let t : ObjectType = record { element = e; constant = k; lengths = ls } in PlaceTyped W a → FitsBy e k ls (type_at W a) → Sized t → IsWorth W w →
      IfFine (IsGood W) (rules.element_at at (inner_type e k ls) a w)
  part_good at e k [] a w g r s i = tt
  part_good at e k (n ∷ l) a w g r s i = element_good at (record { element = e; constant = k; lengths = l }) a w g r (row_sized e k n l s) i

  index_good : (at : Pos) (x : Checked) → IsGood W x → IfFine (IsWorth W) (rules.index at x)
  index_good at (value p t e) g = g
  index_good at (object p t k a) g = (read_typed W t a g.0 g.1, refl)
  index_good at (array p t a) g = tt
  index_good at (reference p t a) g = tt
  index_good at (nothing p e) g = tt
  index_good at (designator p) g = tt

  no_array : (at : Pos) (x : Checked) → IfFine (IsGood W) (rules.no_array at x)
  no_array at (value p t e) = tt
  no_array at (object p t k a) = tt
  no_array at (array p t a) = tt
  no_array at (reference p t a) = tt
  no_array at (nothing p e) = tt
  no_array at (designator p) = tt

  pub subscripted_good : (at : Pos) (x y : Checked) → IsGood W x → IsGood W y → IfFine (IsGood W) (rules.subscripted at x y)
  subscripted_good at (array q (complete t) a) i g h =
      then_some (IsWorth W) (IsGood W) (rules.index at i) _ (index_good at i h) (λ w k. part_good at t.element t.constant t.lengths a w g.0 g.1 g.2 k)
  subscripted_good at (array q (unknown_size t) a) i g h =
      then_some (IsWorth W) (IsGood W) (rules.index at i) _ (index_good at i h) (λ w k. element_good at t a w g.0 g.1 g.2 k)
  subscripted_good at (reference q t a) i g h =
      then_some (IsWorth W) (IsGood W) (rules.index at i) _ (index_good at i h) (λ w k. element_good at t a w g.0 g.1 g.2 k)
  subscripted_good at (value q t e) i g h = no_array at i
  subscripted_good at (object q t k a) i g h = no_array at i
  subscripted_good at (nothing q e) i g h = tt
  subscripted_good at (designator q) i g h = tt

  -- ---- 6.5.2.2: calls

  abbrev pub ArgsTyped : List ParameterType → Arguments → Type 0
  ArgsTyped ps args = Present W.program (uses_in_arguments args) → arguments_are_typed W.program W.function ps args ≡ true

  refer : (at : Pos) (t u : ObjectType) (a : Place) (ps : List ParameterType) (more : Arguments) → PlaceTyped W a → RowsAre u (type_at W a) → ArgsTyped ps more → (b : Bool) → b ≡ rules.may_refer t u →
      IfFine (ArgsTyped (elements t ∷ ps)) (if b then fine (typed.and_array a more) else breaks code.ArgumentType at)
  refer at t u a ps more g r m false e = tt
  refer at t u a ps more g r m true e = λ h.
      and_from (P a) (rows_alike t (rows_of (type_at W a)) && arguments_are_typed W.program W.function ps more) (g (first W.program (uses_in_place a) (uses_in_arguments more) h))
      (and_from (rows_alike t (rows_of (type_at W a))) (arguments_are_typed W.program W.function ps more)
      (ap (rows_alike t) r.1 ∙ refers (alike t u) (same_truth t.constant u.constant) (t.constant && rules.has_no_lengths t.lengths) (sym e)) (m (second W.program (uses_in_place a) (uses_in_arguments more) h)))

  refer_part : (at : Pos) (t : ObjectType) (e : IntType) (k : Bool) (ls : List ℕ) (a : Place) (ps : List ParameterType) (more : Arguments) → PlaceTyped W a → FitsBy e k ls (type_at W a) → ArgsTyped ps more →
      IfFine (ArgsTyped (elements t ∷ ps)) (rules.referring at t (inner_type e k ls) a more)
  refer_part at t e k [] a ps more g r m = tt
  refer_part at t e k (n ∷ l) a ps more g r m = let u : ObjectType = record { element = e; constant = k; lengths = l } in refer at t u a ps more g r m (rules.may_refer t u) refl

  pub argument_good : (at : Pos) (p : ParameterType) (ps : List ParameterType) (x : Checked) (more : Arguments) → IsGood W x → ArgsTyped ps more → IfFine (ArgsTyped (p ∷ ps)) (rules.argument at p x more)
  argument_good at (number t) ps x more g m =
      then_some (IsWorth W) (ArgsTyped (number t ∷ ps)) (worth code.ArgumentType at x) _ (good_worth W code.ArgumentType at x g) (λ w k h.
      and_from (same_type t t) ((V w.e && N w.e) && arguments_are_typed W.program W.function ps more) (same_self t)
      (and_from (V w.e && N w.e) (arguments_are_typed W.program W.function ps more) (ground.number W w.type w.e k (first W.program (uses w.e) (uses_in_arguments more) h)) (m (second W.program (uses w.e) (uses_in_arguments more) h))))
  argument_good at (elements t) ps (value q u e) more g m = tt
  argument_good at (elements t) ps (object q u k a) more g m = tt
  argument_good at (elements t) ps (array q (complete u) a) more g m = refer_part at t u.element u.constant u.lengths a ps more g.0 g.1 m
  argument_good at (elements t) ps (array q (unknown_size u) a) more g m = refer at t u a ps more g.0 g.1 m (rules.may_refer t u) refl
  argument_good at (elements t) ps (reference q u a) more g m = refer at t u a ps more g.0 g.1 m (rules.may_refer t u) refl
  argument_good at (elements t) ps (nothing q e) more g m = tt
  argument_good at (elements t) ps (designator q) more g m = tt

  fitting : (o : Option FunctionType) (g : FunctionType) (used : Bool) (args : Arguments) → o ≡ Some g → arguments_are_typed W.program W.function g.parameters args ≡ true → (not used || some_number g.result) ≡ true →
      (arguments_are_typed W.program W.function (params_of o) args && call_fits g.result used o) ≡ true
  fitting o g used args e a h =
      ap (λ x. arguments_are_typed W.program W.function (params_of x) args && call_fits g.result used x) e
      ∙ and_from (arguments_are_typed W.program W.function g.parameters args) (call_fits g.result used (Some g)) a (and_from (same_result g.result g.result) (not used || some_number g.result) (same_result_self g.result) h)
    where
      same_result_self : (t : Option IntType) → same_result t t ≡ true
      same_result_self None = refl
      same_result_self (Some t) = same_self t

  call_typed : (at : Pos) (c : typed.Callee) (g : FunctionType) (used : Bool) (args : Arguments) → CalleeFits W.program c g → ArgsTyped g.parameters args → (not used || some_number g.result) ≡ true → Typed W (typed.call at c g.result used args)
  call_typed at (typed.function f) g used args k m h u = fitting (callee_type W.program (typed.function f)) g used args k (m u) h
  call_typed at typed.get_byte g used args k m h u = fitting (callee_type W.program typed.get_byte) g used args k (m u) h
  call_typed at typed.put_byte g used args k m h u = fitting (callee_type W.program typed.put_byte) g used args k (m u) h
  call_typed at typed.exit g used args k m h u = fitting (callee_type W.program typed.exit) g used args k (m u) h
  call_typed at (typed.missing n) g used args k m h u = absurd (u.0)

  result_good : (at : Pos) (c : typed.Callee) (g : FunctionType) (args : Arguments) → CalleeFits W.program c g → ArgsTyped g.parameters args → (r : Option IntType) → r ≡ g.result → IsGood W (rules.result_at at r (typed.call at c g.result true args))
  result_good at c g args k m None e = (call_typed at c g false args k m refl, sym e)
  result_good at c g args k m (Some t) e = (call_typed at c g true args k m (ap some_number (sym e)), sym e)

  pub call_good : (at : Pos) (g : Called) (args : Arguments) → IsCalled W g → ArgsTyped g.type.parameters args → IfFine (IsGood W) (rules.call_of at g args)
  call_good at g args k m = result_good at g.callee g.type args k m g.type.result refl

  -- ---- 6.5.3, 6.5.16: assignments and steps

  pub target_good : (at : Pos) (x : Checked) → IsGood W x → IfFine (IsTarget W) (rules.target at x)
  target_good at (value p t e) g = tt
  target_good at (object p t true a) g = tt
  target_good at (object p t false a) g = g
  target_good at (array p t a) g = tt
  target_good at (reference p t a) g = tt
  target_good at (nothing p e) g = tt
  target_good at (designator p) g = tt

  pub step_good : (at : Pos) (m : Moment) (o : StepOp) (to : Target) → IsTarget W to → IfFine (IsGood W) (rules.step at m o to)
  step_good at m o to g = (λ u. and_from (P to.place) (is_scalar to.type (type_at W to.place)) (g.0 u) g.1, refl)

  stored : (to : Target) (x : Worth) → IsTarget W to → IsWorth W x → Present W.program (uses_in_place to.place ++ uses x.e) → (P to.place && (is_scalar to.type (type_at W to.place) && (V x.e && N x.e))) ≡ true
  stored to x g k u =
      and_from (P to.place) (is_scalar to.type (type_at W to.place) && (V x.e && N x.e)) (g.0 (first W.program (uses_in_place to.place) (uses x.e) u))
      (and_from (is_scalar to.type (type_at W to.place)) (V x.e && N x.e) g.1 (ground.number W x.type x.e k (second W.program (uses_in_place to.place) (uses x.e) u)))

  pub assignment_good : (at : Pos) (o : Option BinOp) (a b : Checked) → IsGood W a → IsGood W b → IfFine (IsGood W) (rules.assignment at o a b)
  assignment_good at None a b g h =
      both_some (IsTarget W) (IsWorth W) (IsGood W) (rules.target at a) (worth code.VoidAssigned at b) (rules.simple at) (target_good at a g) (good_worth W code.VoidAssigned at b h) (λ to x i j. (stored to x i j, refl))
  assignment_good at (Some o) a b g h =
      both_some (IsTarget W) (IsWorth W) (IsGood W) (rules.target at a) (worth code.VoidOperand at b) (rules.compound at o) (target_good at a g) (good_worth W code.VoidOperand at b h) (λ to x i j. (stored to x i j, refl))

  -- ---- 6.5.3.3, 6.5.3.4, 6.5.4

  pub signed_good : (at : Pos) (o : PrefixOp) (x : Worth) → IsWorth W x → IfFine (IsGood W) (rules.signed_value at o x)
  signed_good at o x g = (λ u. ground.number W x.type x.e g u, refl)

  size_good : (at : Pos) (n : ℕ) → n ≤ 1048576 → IfFine (IsGood W) (rules.size_is at n)
  size_good at n h = (λ u. size_value n h, refl)

  pub measured_good : (at : Pos) (x : Checked) → IsGood W x → IfFine (IsGood W) (rules.measured at x)
  measured_good at (value p t e) g = size_good at (bytes_of t) (few_bytes t)
  measured_good at (object p t k a) g = size_good at (bytes_of t) (few_bytes t)
  measured_good at (array p (complete t) a) g = size_good at (size_of_object t) (g.2).1
  measured_good at (array p (unknown_size t) a) g = tt
  measured_good at (reference p t a) g = size_good at 4 (omega arith)
  measured_good at (nothing p e) g = tt
  measured_good at (designator p) g = tt

  pub type_measured_good : (at : Pos) (t : Option ObjectType) → SizedOption t → IfFine (IsGood W) (rules.type_measured at t)
  type_measured_good at None g = tt
  type_measured_good at (Some t) g = size_good at (size_of_object t) g.1

  cast_good_by : (at : Pos) (t : ObjectType) (ls : List ℕ) (x : Checked) → IsGood W x → IfFine (IsGood W) (rules.cast_to_object at t ls x)
  cast_good_by at t [] x g = then_some (IsWorth W) (IsGood W) (worth code.VoidOperand at x) _ (good_worth W code.VoidOperand at x g) (λ w k. (λ u. ground.number W w.type w.e k u, refl))
  cast_good_by at t (n ∷ l) x g = tt

  pub cast_good : (at : Pos) (t : Option ObjectType) (x : Checked) → IsGood W x → IfFine (IsGood W) (rules.cast_to at t x)
  cast_good at None x g = then_some (Typed W) (IsGood W) (effect x) _ (good_effect W x g) (λ e k. (k, refl))
  cast_good at (Some t) x g = cast_good_by at t t.lengths x g

  -- ---- 6.5.5 to 6.5.15, 6.5.17

  two : (a b : Worth) → IsWorth W a → IsWorth W b → Present W.program (uses a.e ++ uses b.e) → ((V a.e && N a.e) && (V b.e && N b.e)) ≡ true
  two a b g h u = and_from (V a.e && N a.e) (V b.e && N b.e) (ground.number W a.type a.e g (first W.program (uses a.e) (uses b.e) u)) (ground.number W b.type b.e h (second W.program (uses a.e) (uses b.e) u))

  arithmetic_good : (at : Pos) (o : BinOp) (a b : Checked) → IsGood W a → IsGood W b → IfFine (IsGood W) (rules.arithmetic at o a b)
  arithmetic_good at o a b g h =
      both_some (IsWorth W) (IsWorth W) (IsGood W) (worth code.VoidOperand at a) (worth code.VoidOperand at b) (rules.computed_by at o) (good_worth W code.VoidOperand at a g) (good_worth W code.VoidOperand at b h) (λ x y i j. (two x y i j, refl))

  last_good : (at : Pos) (a : Value) (x : Checked) → Typed W a → IsGood W x → IfFine (IsGood W) (rules.last at a x)
  last_good at a (value p t e) g h = (λ u. and_from (V a) (V e) (g (first W.program (uses a) (uses e) u)) (h.0 (second W.program (uses a) (uses e) u)), h.1)
  last_good at a (object p t k b) g h = (λ u. and_from (V a) (V (typed.read t b)) (g (first W.program (uses a) (uses_in_place b) u)) (read_typed W t b h.0 h.1 (second W.program (uses a) (uses_in_place b) u)), refl)
  last_good at a (array p t b) g h = tt
  last_good at a (reference p t b) g h = tt
  last_good at a (nothing p e) g h = (λ u. and_from (V a) (V (unused e)) (g (first W.program (uses a) (uses (unused e)) u)) (h.0 (second W.program (uses a) (uses (unused e)) u)), h.1)
  last_good at a (designator p) g h = tt

  sequence_good : (at : Pos) (a b : Checked) → IsGood W a → IsGood W b → IfFine (IsGood W) (rules.sequence at a b)
  sequence_good at a b g h = both_some (Typed W) (IsGood W) (IsGood W) (effect a) (fine b) (rules.last at) (good_effect W a g) h (λ e x i j. last_good at e x i j)

  pub operated_good : (at : Pos) (o : BinaryOp) (a b : Checked) → IsGood W a → IsGood W b → IfFine (IsGood W) (rules.operated at o a b)
  operated_good at operator.Mul a b g h = arithmetic_good at op.Mul a b g h
  operated_good at operator.Div a b g h = arithmetic_good at op.Div a b g h
  operated_good at operator.Rem a b g h = arithmetic_good at op.Rem a b g h
  operated_good at operator.Add a b g h = arithmetic_good at op.Add a b g h
  operated_good at operator.Sub a b g h = arithmetic_good at op.Sub a b g h
  operated_good at operator.ShiftLeft a b g h = arithmetic_good at op.Shl a b g h
  operated_good at operator.ShiftRight a b g h = arithmetic_good at op.Shr a b g h
  operated_good at operator.Less a b g h = arithmetic_good at op.Less a b g h
  operated_good at operator.Greater a b g h = arithmetic_good at op.Greater a b g h
  operated_good at operator.LessEqual a b g h = arithmetic_good at op.LessEqual a b g h
  operated_good at operator.GreaterEqual a b g h = arithmetic_good at op.GreaterEqual a b g h
  operated_good at operator.Equal a b g h = arithmetic_good at op.Equal a b g h
  operated_good at operator.NotEqual a b g h = arithmetic_good at op.NotEqual a b g h
  operated_good at operator.BitAnd a b g h = arithmetic_good at op.BitAnd a b g h
  operated_good at operator.BitXor a b g h = arithmetic_good at op.BitXor a b g h
  operated_good at operator.BitOr a b g h = arithmetic_good at op.BitOr a b g h
  operated_good at operator.And a b g h =
      both_some (IsWorth W) (IsWorth W) (IsGood W) (worth code.VoidOperand at a) (worth code.VoidOperand at b) (rules.conjunction at) (good_worth W code.VoidOperand at a g) (good_worth W code.VoidOperand at b h) (λ x y i j. (two x y i j, refl))
  operated_good at operator.Or a b g h =
      both_some (IsWorth W) (IsWorth W) (IsGood W) (worth code.VoidOperand at a) (worth code.VoidOperand at b) (rules.disjunction at) (good_worth W code.VoidOperand at a g) (good_worth W code.VoidOperand at b h) (λ x y i j. (two x y i j, refl))
  operated_good at operator.Comma a b g h = sequence_good at a b g h

  abbrev AreUsed : Value → Value → Value → Type 0
  AreUsed c a b = Present W.program (uses c ++ uses a ++ uses b)

  three : (c x y : Worth) → IsWorth W c → IsWorth W x → IsWorth W y → AreUsed c.e x.e y.e → ((V c.e && N c.e) && ((V x.e && N x.e) && (V y.e && N y.e))) ≡ true
  three c x y k i j u =
      let v = first W.program (uses c.e ++ uses x.e) (uses y.e) u in
      and_from (V c.e && N c.e) ((V x.e && N x.e) && (V y.e && N y.e)) (ground.number W c.type c.e k (first W.program (uses c.e) (uses x.e) v))
      (and_from (V x.e && N x.e) (V y.e && N y.e) (ground.number W x.type x.e i (second W.program (uses c.e) (uses x.e) v)) (ground.number W y.type y.e j (second W.program (uses c.e ++ uses x.e) (uses y.e) u)))

  common_good : (at : Pos) (c : Worth) (a b : Checked) → IsWorth W c → IsGood W a → IsGood W b → IfFine (IsGood W) (both (worth code.UnmatchedArms at a) (worth code.UnmatchedArms at b) (rules.common_type at c.e))
  common_good at c a b k g h =
      both_some (IsWorth W) (IsWorth W) (IsGood W) (worth code.UnmatchedArms at a) (worth code.UnmatchedArms at b) (rules.common_type at c.e) (good_worth W code.UnmatchedArms at a g) (good_worth W code.UnmatchedArms at b h)
      (λ x y i j. (three c x y k i j, refl))

  void_good : (c : Worth) (a b : Value) → IsWorth W c → Typed W (unused a) → type_of_value (unused a) ≡ None → Typed W (unused b) → type_of_value (unused b) ≡ None → Typed W (unused (typed.chosen None c.e a b))
  void_good c a b k g n h m u =
      let v = first W.program (uses c.e ++ uses (unused a)) (uses (unused b)) u in
      and_from (V c.e && N c.e) (V (unused a) && (same_none (type_of_value (unused a)) && (V (unused b) && same_none (type_of_value (unused b)))))
      (ground.number W c.type c.e k (first W.program (uses c.e) (uses (unused a)) v))
      (and_from (V (unused a)) (same_none (type_of_value (unused a)) && (V (unused b) && same_none (type_of_value (unused b)))) (g (second W.program (uses c.e) (uses (unused a)) v))
      (and_from (same_none (type_of_value (unused a))) (V (unused b) && same_none (type_of_value (unused b))) (ap same_none n)
      (and_from (V (unused b)) (same_none (type_of_value (unused b))) (h (second W.program (uses c.e ++ uses (unused a)) (uses (unused b)) u)) (ap same_none m))))

  pub choice_good : (at : Pos) (c : Worth) (a b : Checked) → ((e : Value) → type_of_value (unused e) ≡ type_of_value e) → IsWorth W c → IsGood W a → IsGood W b → IfFine (IsGood W) (rules.choice at c.e a b)
  choice_good at c (nothing p a) (nothing q b) s k g h = (void_good c a b k g.0 (s a ∙ g.1) h.0 (s b ∙ h.1), refl)
  choice_good at c (nothing p a) (value q t e) s k g h = tt
  choice_good at c (nothing p a) (object q t l e) s k g h = tt
  choice_good at c (nothing p a) (array q t e) s k g h = tt
  choice_good at c (nothing p a) (reference q t e) s k g h = tt
  choice_good at c (nothing p a) (designator q) s k g h = tt
  choice_good at c (value p t e) b s k g h = common_good at c (value p t e) b k g h
  choice_good at c (object p t l e) b s k g h = common_good at c (object p t l e) b k g h
  choice_good at c (array p t e) b s k g h = tt
  choice_good at c (reference p t e) b s k g h = tt
  choice_good at c (designator p) b s k g h = tt
