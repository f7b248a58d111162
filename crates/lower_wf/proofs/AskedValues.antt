-- Operands of typed expressions have promoted types, and a used expression gives a value (6.3.1.8, 6.5).
use Rattle.std.proofs.Common.{◌≡◌, ℕ, Bool, true, false, ◌&&◌, List, [], ◌∷◌, length, Option, Some, None, refl}
use Rattle.std.specs.Prelude.{if◌then◌else◌}
use Rattle.std.proofs.lemmas.Bool.{and_from}
use Rattle.srcset.specs.declared.code.Code.{Code}
use Rattle.srcset.specs.declared.code.Code.TheVariants as code
use Rattle.srcset.specs.declared.refusal.Pos.{Pos}
use Rattle.ctypes.specs.declared.types.IntType.{IntType}
use Rattle.ctypes.specs.declared.types.IntType.TheVariants as ty
use Rattle.ctypes.specs.declared.operators.BinOp.{BinOp}
use Rattle.ctypes.specs.declared.operators.BinOp.TheVariants as op
use Rattle.ctypes.specs.Types.{promoted, common, usual_of}
use Rattle.tree.specs.declared.expression.BinaryOp.{BinaryOp}
use Rattle.tree.specs.declared.expression.BinaryOp.TheVariants as operator
use Rattle.tree.specs.declared.expression.StepOp.{StepOp}
use Rattle.tree.specs.Tree.{Tree, Trees, hole, identifier, constant, string, paren, call, subscript, after, before, prefix, size_of, size_of_type, cast, binary, conditional, assign, no_trees, one_more}
use Rattle.typing_spec.specs.Types.{ObjectType, complete, unknown_size, ParameterType, number, elements, element_type}
use Rattle.typing_spec.specs.Program as typed
use Rattle.typing_spec.specs.Program.{Value, Place, Arguments}
use Rattle.typing_spec.specs.Verdict.{fine, breaks, both, then_check, IfFine}
use Rattle.typing_spec.specs.Operators.{assigning, operands_type}
use Rattle.typing_spec.specs.Scope.{Scope, Binding, Meaning, an_object, an_array_parameter, a_function, an_enumerator, lookup, past, past_type, literal_of}
use Rattle.typing_spec.specs.Expressions as rules
use Rattle.typing_spec.specs.Expressions.{Checked, value, object, array, reference, nothing, designator, Worth, Target, Called, Arms, worth, effect, unused, typing, arguments, valued}
use Rattle.lower_wf.specs.Asked.{is_wide, gives, value_is_asked, place_is_asked, arguments_are_asked}
use Rattle.lower_wf.proofs.Same.{both_true}
use Rattle.lower_wf.proofs.Verdicts.{then_any, then_some, both_some, both_any, part}

-- ---- promoted types

of_promotion : (P : IntType → Type 0) → P ty.Int → P ty.UInt → P ty.Long → P ty.ULong → (t : IntType) → P (promoted t)
of_promotion P i u l ul ty.Bool = i
of_promotion P i u l ul ty.Char = i
of_promotion P i u l ul ty.SChar = i
of_promotion P i u l ul ty.UChar = i
of_promotion P i u l ul ty.Short = i
of_promotion P i u l ul ty.UShort = i
of_promotion P i u l ul ty.Int = i
of_promotion P i u l ul ty.UInt = u
of_promotion P i u l ul ty.Long = l
of_promotion P i u l ul ty.ULong = ul

abbrev IsWide : IntType → Type 0
IsWide t = is_wide t ≡ true

pub promoted_wide : (t : IntType) → IsWide (promoted t)
promoted_wide t = of_promotion IsWide refl refl refl refl t

pub usual_wide : (a b : IntType) → IsWide (usual_of a b)
usual_wide a b = of_promotion (λ x. IsWide (common x (promoted b)))
    (of_promotion (λ y. IsWide (common ty.Int y)) refl refl refl refl b)
    (of_promotion (λ y. IsWide (common ty.UInt y)) refl refl refl refl b)
    (of_promotion (λ y. IsWide (common ty.Long y)) refl refl refl refl b)
    (of_promotion (λ y. IsWide (common ty.ULong y)) refl refl refl refl b) a

operands_wide : (o : BinOp) (a b : IntType) → IsWide (operands_type o a b)
operands_wide op.Shl a b = promoted_wide a
operands_wide op.Shr a b = promoted_wide a
operands_wide op.Mul a b = usual_wide a b
operands_wide op.Div a b = usual_wide a b
operands_wide op.Rem a b = usual_wide a b
operands_wide op.Add a b = usual_wide a b
operands_wide op.Sub a b = usual_wide a b
operands_wide op.Less a b = usual_wide a b
operands_wide op.Greater a b = usual_wide a b
operands_wide op.LessEqual a b = usual_wide a b
operands_wide op.GreaterEqual a b = usual_wide a b
operands_wide op.Equal a b = usual_wide a b
operands_wide op.NotEqual a b = usual_wide a b
operands_wide op.BitAnd a b = usual_wide a b
operands_wide op.BitXor a b = usual_wide a b
operands_wide op.BitOr a b = usual_wide a b

-- ---- the requirements on a value, also on one that goes unused

abbrev A : Value → Bool
A e = value_is_asked e

abbrev G : Value → Bool
G e = gives e

abbrev L : Place → Bool
L a = place_is_asked a

pub asked_unused : (e : Value) → A e ≡ true → A (unused e) ≡ true
asked_unused (typed.constant t v) h = h
asked_unused (typed.read t a) h = h
asked_unused (typed.assigned at t a e) h = h
asked_unused (typed.compound at op t of a e) h = h
asked_unused (typed.stepped at m op t of a) h = h
asked_unused (typed.unary at op t e) h = h
asked_unused (typed.binary at op t a b) h = h
asked_unused (typed.both_true a b) h = h
asked_unused (typed.one_true a b) h = h
asked_unused (typed.chosen None c a b) h =
    let w = both_true (A c && G c) (A a && A b) h in
    let v = both_true (A a) (A b) w.1 in and_from (A c && G c) (A (unused a) && A (unused b)) w.0 (and_from (A (unused a)) (A (unused b)) (asked_unused a v.0) (asked_unused b v.1))
asked_unused (typed.chosen (Some t) c a b) h =
    let z = both_true (is_wide t) ((A c && G c) && (A a && A b)) h in
    let w = both_true (A c && G c) (A a && A b) z.1 in
    let v = both_true (A a) (A b) w.1 in
    and_from (is_wide t) ((A c && G c) && (A (unused a) && A (unused b))) z.0
    (and_from (A c && G c) (A (unused a) && A (unused b)) w.0 (and_from (A (unused a)) (A (unused b)) (asked_unused a v.0) (asked_unused b v.1)))
asked_unused (typed.sequence a b) h = let w = both_true (A a) (A b) h in and_from (A a) (A (unused b)) w.0 (asked_unused b w.1)
asked_unused (typed.cast t e) h = h
asked_unused (typed.discarded e) h = h
asked_unused (typed.call at f t used args) h = h

abbrev pub Asked : Checked → Type 0
Asked (value at t e) = (A e ≡ true) × (G e ≡ true)
Asked (object at t k a) = L a ≡ true
Asked (array at t a) = L a ≡ true
Asked (reference at t a) = L a ≡ true
Asked (nothing at e) = A e ≡ true
Asked (designator at) = Unit {0}

abbrev pub WorthAsked : Worth → Type 0
WorthAsked w = (A w.e ≡ true) × (G w.e ≡ true)

abbrev pub ValueAsked : Value → Type 0
ValueAsked e = A e ≡ true

abbrev TargetAsked : Target → Type 0
TargetAsked to = L to.place ≡ true

abbrev ArgumentsAsked : Arguments → Type 0
ArgumentsAsked args = arguments_are_asked args ≡ true

pub number_asked : (w : Worth) → WorthAsked w → (A w.e && G w.e) ≡ true
number_asked w h = and_from (A w.e) (G w.e) h.0 h.1

pub worth_asked : (c : Code) (at : Pos) (x : Checked) → Asked x → IfFine WorthAsked (worth c at x)
worth_asked c at (value p t e) h = h
worth_asked c at (object p t k a) h = (h, refl)
worth_asked c at (array p t a) h = tt
worth_asked c at (reference p t a) h = tt
worth_asked c at (nothing p e) h = tt
worth_asked c at (designator p) h = tt

pub effect_asked : (x : Checked) → Asked x → IfFine ValueAsked (effect x)
effect_asked (value p t e) h = asked_unused e h.0
effect_asked (object p t k a) h = h
effect_asked (array p t a) h = tt
effect_asked (reference p t a) h = tt
effect_asked (nothing p e) h = asked_unused e h
effect_asked (designator p) h = tt

whole_asked : (at : Pos) (t : ObjectType) (ls : List ℕ) (a : Place) → L a ≡ true → Asked (rules.whole_object at t ls a)
whole_asked at t [] a h = h
whole_asked at t (k ∷ l) a h = h

index_asked : (at : Pos) (x : Checked) → Asked x → IfFine WorthAsked (rules.index at x)
index_asked at (value p t e) h = h
index_asked at (object p t k a) h = (h, refl)
index_asked at (array p t a) h = tt
index_asked at (reference p t a) h = tt
index_asked at (nothing p e) h = tt
index_asked at (designator p) h = tt

no_array : (at : Pos) (x : Checked) → IfFine Asked (rules.no_array at x)
no_array at (value p t e) = tt
no_array at (object p t k a) = tt
no_array at (array p t a) = tt
no_array at (reference p t a) = tt
no_array at (nothing p e) = tt
no_array at (designator p) = tt

element_asked : (at : Pos) (o : Option ObjectType) (a : Place) (w : Worth) → L a ≡ true → WorthAsked w → IfFine Asked (rules.element_at at o a w)
element_asked at None a w h k = tt
element_asked at (Some t) a w h k = whole_asked at t t.lengths (typed.element at a w.e) (and_from (L a) (A w.e && G w.e) h (number_asked w k))

subscripted_asked : (at : Pos) (x y : Checked) → Asked x → Asked y → IfFine Asked (rules.subscripted at x y)
subscripted_asked at (array q (complete t) a) i h k = then_some WorthAsked Asked (rules.index at i) (rules.element_at at (element_type t) a) (index_asked at i k) (λ w l. element_asked at (element_type t) a w h l)
subscripted_asked at (array q (unknown_size t) a) i h k = then_some WorthAsked Asked (rules.index at i) (rules.element_at at (Some t) a) (index_asked at i k) (λ w l. element_asked at (Some t) a w h l)
subscripted_asked at (reference q t a) i h k = then_some WorthAsked Asked (rules.index at i) (rules.element_at at (Some t) a) (index_asked at i k) (λ w l. element_asked at (Some t) a w h l)
subscripted_asked at (value q t e) i h k = no_array at i
subscripted_asked at (object q t l a) i h k = no_array at i
subscripted_asked at (nothing q e) i h k = tt
subscripted_asked at (designator q) i h k = tt

refer_asked : (at : Pos) (t : ObjectType) (o : Option ObjectType) (a : Place) (more : Arguments) → L a ≡ true → ArgumentsAsked more → IfFine ArgumentsAsked (rules.referring at t o a more)
refer_asked at t None a more h k = tt
refer_asked at t (Some u) a more h k = by (rules.may_refer t u)
  where
    by : (b : Bool) → IfFine ArgumentsAsked (if b then fine (typed.and_array a more) else breaks code.ArgumentType at)
    by true = and_from (L a) (arguments_are_asked more) h k
    by false = tt

argument_asked : (at : Pos) (p : ParameterType) (x : Checked) (more : Arguments) → Asked x → ArgumentsAsked more → IfFine ArgumentsAsked (rules.argument at p x more)
argument_asked at (number t) x more h k = then_some WorthAsked ArgumentsAsked (worth code.ArgumentType at x) (λ w. fine (typed.and_number t w.e more)) (worth_asked code.ArgumentType at x h) (λ w l. and_from (A w.e && G w.e) (arguments_are_asked more) (number_asked w l) k)
argument_asked at (elements t) (value q u e) more h k = tt
argument_asked at (elements t) (object q u l a) more h k = tt
argument_asked at (elements t) (array q (complete u) a) more h k = refer_asked at t (element_type u) a more h k
argument_asked at (elements t) (array q (unknown_size u) a) more h k = refer_asked at t (Some u) a more h k
argument_asked at (elements t) (reference q u a) more h k = refer_asked at t (Some u) a more h k
argument_asked at (elements t) (nothing q e) more h k = tt
argument_asked at (elements t) (designator q) more h k = tt

result_asked : (at : Pos) (r : Option IntType) (e : Value) → A e ≡ true → G e ≡ true → Asked (rules.result_at at r e)
result_asked at None e h k = h
result_asked at (Some t) e h k = (h, k)

target_asked : (at : Pos) (x : Checked) → Asked x → IfFine TargetAsked (rules.target at x)
target_asked at (value p t e) h = tt
target_asked at (object p t true a) h = tt
target_asked at (object p t false a) h = h
target_asked at (array p t a) h = tt
target_asked at (reference p t a) h = tt
target_asked at (nothing p e) h = tt
target_asked at (designator p) h = tt

stored : (to : Target) (x : Worth) → TargetAsked to → WorthAsked x → (L to.place && (A x.e && G x.e)) ≡ true
stored to x i j = and_from (L to.place) (A x.e && G x.e) i (number_asked x j)

assignment_asked : (at : Pos) (o : Option BinOp) (a b : Checked) → Asked a → Asked b → IfFine Asked (rules.assignment at o a b)
assignment_asked at None a b h k =
    both_some TargetAsked WorthAsked Asked (rules.target at a) (worth code.VoidAssigned at b) (rules.simple at) (target_asked at a h) (worth_asked code.VoidAssigned at b k) (λ to x i j. (stored to x i j, refl))
assignment_asked at (Some o) a b h k =
    both_some TargetAsked WorthAsked Asked (rules.target at a) (worth code.VoidOperand at b) (rules.compound at o) (target_asked at a h) (worth_asked code.VoidOperand at b k) (λ to x i j.
    (and_from (is_wide (operands_type o to.type x.type)) (L to.place && (A x.e && G x.e)) (operands_wide o to.type x.type) (stored to x i j), refl))

measured_asked : (at : Pos) (x : Checked) → IfFine Asked (rules.measured at x)
measured_asked at (value p t e) = (refl, refl)
measured_asked at (object p t k a) = (refl, refl)
measured_asked at (array p (complete t) a) = (refl, refl)
measured_asked at (array p (unknown_size t) a) = tt
measured_asked at (reference p t a) = (refl, refl)
measured_asked at (nothing p e) = tt
measured_asked at (designator p) = tt

type_measured_asked : (at : Pos) (t : Option ObjectType) → IfFine Asked (rules.type_measured at t)
type_measured_asked at None = tt
type_measured_asked at (Some t) = (refl, refl)

cast_by : (at : Pos) (t : ObjectType) (ls : List ℕ) (x : Checked) → Asked x → IfFine Asked (rules.cast_to_object at t ls x)
cast_by at t [] x h = then_some WorthAsked Asked (worth code.VoidOperand at x) (λ w. fine (value at t.element (typed.cast t.element w.e))) (worth_asked code.VoidOperand at x h) (λ w k. (number_asked w k, refl))
cast_by at t (k ∷ l) x h = tt

cast_asked : (at : Pos) (t : Option ObjectType) (x : Checked) → Asked x → IfFine Asked (rules.cast_to at t x)
cast_asked at None x h = then_some ValueAsked Asked (effect x) (λ e. fine (nothing at (typed.discarded e))) (effect_asked x h) (λ e k. k)
cast_asked at (Some t) x h = cast_by at t t.lengths x h

last_asked : (at : Pos) (a : Value) (x : Checked) → ValueAsked a → Asked x → IfFine Asked (rules.last at a x)
last_asked at a (value p t e) h k = (and_from (A a) (A e) h k.0, k.1)
last_asked at a (object p t l b) h k = (and_from (A a) (L b) h k, refl)
last_asked at a (array p t b) h k = tt
last_asked at a (reference p t b) h k = tt
last_asked at a (nothing p e) h k = and_from (A a) (A e) h k
last_asked at a (designator p) h k = tt

two : (x y : Worth) → WorthAsked x → WorthAsked y → ((A x.e && G x.e) && (A y.e && G y.e)) ≡ true
two x y i j = and_from (A x.e && G x.e) (A y.e && G y.e) (number_asked x i) (number_asked y j)

arithmetic_asked : (at : Pos) (o : BinOp) (a b : Checked) → Asked a → Asked b → IfFine Asked (rules.arithmetic at o a b)
arithmetic_asked at o a b h k =
    both_some WorthAsked WorthAsked Asked (worth code.VoidOperand at a) (worth code.VoidOperand at b) (rules.computed_by at o) (worth_asked code.VoidOperand at a h) (worth_asked code.VoidOperand at b k) (λ x y i j.
    (and_from (is_wide (operands_type o x.type y.type)) ((A x.e && G x.e) && (A y.e && G y.e)) (operands_wide o x.type y.type) (two x y i j), refl))

operated_asked : (at : Pos) (o : BinaryOp) (a b : Checked) → Asked a → Asked b → IfFine Asked (rules.operated at o a b)
operated_asked at operator.Mul a b h k = arithmetic_asked at op.Mul a b h k
operated_asked at operator.Div a b h k = arithmetic_asked at op.Div a b h k
operated_asked at operator.Rem a b h k = arithmetic_asked at op.Rem a b h k
operated_asked at operator.Add a b h k = arithmetic_asked at op.Add a b h k
operated_asked at operator.Sub a b h k = arithmetic_asked at op.Sub a b h k
operated_asked at operator.ShiftLeft a b h k = arithmetic_asked at op.Shl a b h k
operated_asked at operator.ShiftRight a b h k = arithmetic_asked at op.Shr a b h k
operated_asked at operator.Less a b h k = arithmetic_asked at op.Less a b h k
operated_asked at operator.Greater a b h k = arithmetic_asked at op.Greater a b h k
operated_asked at operator.LessEqual a b h k = arithmetic_asked at op.LessEqual a b h k
operated_asked at operator.GreaterEqual a b h k = arithmetic_asked at op.GreaterEqual a b h k
operated_asked at operator.Equal a b h k = arithmetic_asked at op.Equal a b h k
operated_asked at operator.NotEqual a b h k = arithmetic_asked at op.NotEqual a b h k
operated_asked at operator.BitAnd a b h k = arithmetic_asked at op.BitAnd a b h k
operated_asked at operator.BitXor a b h k = arithmetic_asked at op.BitXor a b h k
operated_asked at operator.BitOr a b h k = arithmetic_asked at op.BitOr a b h k
operated_asked at operator.And a b h k =
    both_some WorthAsked WorthAsked Asked (worth code.VoidOperand at a) (worth code.VoidOperand at b) (rules.conjunction at) (worth_asked code.VoidOperand at a h) (worth_asked code.VoidOperand at b k) (λ x y i j. (two x y i j, refl))
operated_asked at operator.Or a b h k =
    both_some WorthAsked WorthAsked Asked (worth code.VoidOperand at a) (worth code.VoidOperand at b) (rules.disjunction at) (worth_asked code.VoidOperand at a h) (worth_asked code.VoidOperand at b k) (λ x y i j. (two x y i j, refl))
operated_asked at operator.Comma a b h k = both_some ValueAsked Asked Asked (effect a) (fine b) (rules.last at) (effect_asked a h) k (λ e x i j. last_asked at e x i j)

common_asked : (at : Pos) (c : Worth) (a b : Checked) → WorthAsked c → Asked a → Asked b → IfFine Asked (both (worth code.UnmatchedArms at a) (worth code.UnmatchedArms at b) (rules.common_type at c.e))
common_asked at c a b g h k =
    both_some WorthAsked WorthAsked Asked (worth code.UnmatchedArms at a) (worth code.UnmatchedArms at b) (rules.common_type at c.e) (worth_asked code.UnmatchedArms at a h) (worth_asked code.UnmatchedArms at b k) (λ x y i j. (
      and_from (is_wide (usual_of x.type y.type)) ((A c.e && G c.e) && (A x.e && A y.e)) (usual_wide x.type y.type) (and_from (A c.e && G c.e) (A x.e && A y.e) (number_asked c g) (and_from (A x.e) (A y.e) i.0 j.0)),
      and_from (G x.e) (G y.e) i.1 j.1,
    ))

choice_asked : (at : Pos) (c : Worth) (a b : Checked) → WorthAsked c → Asked a → Asked b → IfFine Asked (rules.choice at c.e a b)
choice_asked at c (nothing p a) (nothing q b) g h k = and_from (A c.e && G c.e) (A a && A b) (number_asked c g) (and_from (A a) (A b) h k)
choice_asked at c (nothing p a) (value q t e) g h k = tt
choice_asked at c (nothing p a) (object q t z e) g h k = tt
choice_asked at c (nothing p a) (array q t e) g h k = tt
choice_asked at c (nothing p a) (reference q t e) g h k = tt
choice_asked at c (nothing p a) (designator q) g h k = tt
choice_asked at c (value p t e) b g h k = common_asked at c (value p t e) b g h k
choice_asked at c (object p t z e) b g h k = common_asked at c (object p t z e) b g h k
choice_asked at c (array p t e) b g h k = tt
choice_asked at c (reference p t e) b g h k = tt
choice_asked at c (designator p) b g h k = tt

meant_asked : (at : Pos) (m : Meaning) → IfFine Asked (rules.meant at m)
meant_asked at (an_object what (complete t)) = whole_asked at t t.lengths (typed.named at what) refl
meant_asked at (an_object what (unknown_size t)) = refl
meant_asked at (an_array_parameter n t) = refl
meant_asked at (a_function t) = tt
meant_asked at (an_enumerator v) = (refl, refl)

named_asked : (at : Pos) (o : Option Binding) → IfFine Asked (rules.named at o)
named_asked at None = tt
named_asked at (Some b) = meant_asked at b.meaning

abbrev ArmsAsked : Arms → Type 0
ArmsAsked ab = Asked ab.first × Asked ab.second

step_asked : (at : Pos) (m : typed.Moment) (o : StepOp) (to : Target) → TargetAsked to → IfFine Asked (rules.step at m o to)
step_asked at m o to h = (and_from (is_wide (usual_of to.type ty.Int)) (L to.place) (usual_wide to.type ty.Int) h, refl)

mutual
  pub typing_asked : (s : Scope) (e : Tree) → IfFine Asked (typing s e)
  typing_asked s hole = tt
  typing_asked s (identifier at n) = named_asked at (lookup s n)
  typing_asked s (constant at t v) = (refl, refl)
  typing_asked s (string at n) = let t = rules.string_type (literal_of s n) in part Asked (rules.too_large at t) (fine (array at (complete t) (typed.named at (typed.literal (length s.literals))))) refl
  typing_asked s (paren e) = typing_asked s e
  typing_asked s (call at f args) =
      then_any Asked (rules.function_named s at f (lookup s f)) (λ g. then_check (arguments s at g.type.parameters args) (rules.call_of at g)) (λ g.
      then_some ArgumentsAsked Asked (arguments s at g.type.parameters args) (rules.call_of at g) (arguments_asked s at g.type.parameters args) (λ given h.
      result_asked at g.type.result (typed.call at g.callee g.type.result true given) h refl))
  typing_asked s (subscript at a i) = both_some Asked Asked Asked (typing s a) (typing (past s a) i) (rules.subscripted at) (typing_asked s a) (typing_asked (past s a) i) (λ x y h k. subscripted_asked at x y h k)
  typing_asked s (after at o a) =
      then_some Asked Asked (typing s a) (λ x. then_check (rules.target at x) (rules.step at typed.after o)) (typing_asked s a) (λ x h.
      then_some TargetAsked Asked (rules.target at x) (rules.step at typed.after o) (target_asked at x h) (λ to k. step_asked at typed.after o to k))
  typing_asked s (before at o a) =
      then_some Asked Asked (typing s a) (λ x. then_check (rules.target at x) (rules.step at typed.before o)) (typing_asked s a) (λ x h.
      then_some TargetAsked Asked (rules.target at x) (rules.step at typed.before o) (target_asked at x h) (λ to k. step_asked at typed.before o to k))
  typing_asked s (prefix at o a) =
      then_some WorthAsked Asked (valued code.VoidOperand at (typing s a)) (rules.signed_value at o)
      (then_some Asked WorthAsked (typing s a) (worth code.VoidOperand at) (typing_asked s a) (λ x h. worth_asked code.VoidOperand at x h)) (λ w k.
      (and_from (is_wide (promoted w.type)) (A w.e && G w.e) (promoted_wide w.type) (number_asked w k), refl))
  typing_asked s (size_of at a) = then_any Asked (typing s a) (rules.measured at) (λ x. measured_asked at x)
  typing_asked s (size_of_type at t) = then_any Asked (rules.named_in s t) (rules.type_measured at) (λ o. type_measured_asked at o)
  typing_asked s (cast at t a) = both_any Asked Asked (rules.named_in s t) (typing (past_type s t) a) (rules.cast_to at) (typing_asked (past_type s t) a) (λ o x h. cast_asked at o x h)
  typing_asked s (binary at o a b) = both_some Asked Asked Asked (typing s a) (typing (past s a) b) (rules.operated at o) (typing_asked s a) (typing_asked (past s a) b) (λ x y h k. operated_asked at o x y h k)
  typing_asked s (conditional at c a b) =
      both_some WorthAsked ArmsAsked Asked (valued code.VoidOperand at (typing s c)) (both (typing (past s c) a) (typing (past (past s c) a) b) rules.arms) (rules.chosen_by at)
      (then_some Asked WorthAsked (typing s c) (worth code.VoidOperand at) (typing_asked s c) (λ x h. worth_asked code.VoidOperand at x h))
      (both_some Asked Asked ArmsAsked (typing (past s c) a) (typing (past (past s c) a) b) rules.arms (typing_asked (past s c) a) (typing_asked (past (past s c) a) b) (λ x y h k. (h, k)))
      (λ w ab g h. choice_asked at w ab.first ab.second g h.0 h.1)
  typing_asked s (assign at o a b) = both_some Asked Asked Asked (typing s a) (typing (past s a) b) (rules.assignment at (assigning o)) (typing_asked s a) (typing_asked (past s a) b) (λ x y h k. assignment_asked at (assigning o) x y h k)

  pub arguments_asked : (s : Scope) (at : Pos) (ps : List ParameterType) (es : Trees) → IfFine ArgumentsAsked (arguments s at ps es)
  arguments_asked s at [] no_trees = refl
  arguments_asked s at [] (one_more e es) = tt
  arguments_asked s at (p ∷ ps) no_trees = tt
  arguments_asked s at (p ∷ ps) (one_more e es) =
      both_some Asked ArgumentsAsked ArgumentsAsked (typing s e) (arguments (past s e) at ps es) (rules.argument at p) (typing_asked s e) (arguments_asked (past s e) at ps es) (λ x more h k. argument_asked at p x more h k)
