-- A typed expression has no more nodes than its tree.
use Rattle.std.proofs.Common.{◌≡◌, ◌≤◌, ℕ, length, ◌+◌, Bool, true, false, List, [], ◌∷◌, Option, Some, None, refl, sym, ap, ◌∙◌, subst, arith}
use Rattle.std.specs.Prelude.{if◌then◌else◌}
use Rattle.srcset.specs.declared.code.Code.{Code}
use Rattle.srcset.specs.declared.code.Code.TheVariants as code
use Rattle.srcset.specs.declared.refusal.Pos.{Pos}
use Rattle.ctypes.specs.declared.types.IntType.{IntType}
use Rattle.ctypes.specs.declared.operators.BinOp.{BinOp}
use Rattle.ctypes.specs.declared.operators.BinOp.TheVariants as op
use Rattle.ctypes.specs.Types.{bytes_of}
use Rattle.tree.specs.declared.expression.BinaryOp.{BinaryOp}
use Rattle.tree.specs.declared.expression.BinaryOp.TheVariants as operator
use Rattle.tree.specs.Tree.{Tree, Trees, hole, identifier, constant, string, paren, call, subscript, after, before, prefix, size_of, size_of_type, cast, binary, conditional, assign, no_trees, one_more}
use Rattle.tree.specs.Counts.{nodes, all_nodes, type_nodes}
use Rattle.typing_spec.specs.Types.{ObjectType, complete, unknown_size, ParameterType, number, elements, size_of_object, element_type}
use Rattle.typing_spec.specs.Program as typed
use Rattle.typing_spec.specs.Program.{Value, Place, Arguments}
use Rattle.typing_spec.specs.Verdict.{fine, breaks, both, then_check, IfFine}
use Rattle.typing_spec.specs.Operators.{assigning}
use Rattle.typing_spec.specs.Scope.{Scope, Binding, Meaning, an_object, an_array_parameter, a_function, an_enumerator, lookup, past, past_type, literal_of}
use Rattle.typing_spec.specs.Expressions as rules
use Rattle.typing_spec.specs.Expressions.{Checked, value, object, array, reference, nothing, designator, Worth, Target, Called, Arms, worth, effect, unused, typing, arguments, valued}
use Rattle.typing_spec.specs.Nodes.{place_nodes, value_nodes, argument_nodes}
use Rattle.lower_wf.proofs.Verdicts.{then_any, then_some, both_some, both_any, part}

pub nodes_unused : (e : Value) → value_nodes (unused e) ≡ value_nodes e
nodes_unused (typed.constant t v) = refl
nodes_unused (typed.read t a) = refl
nodes_unused (typed.assigned at t a e) = refl
nodes_unused (typed.compound at op t of a e) = refl
nodes_unused (typed.stepped at m op t of a) = refl
nodes_unused (typed.unary at op t e) = refl
nodes_unused (typed.binary at op t a b) = refl
nodes_unused (typed.both_true a b) = refl
nodes_unused (typed.one_true a b) = refl
nodes_unused (typed.chosen t c a b) = ap (λ n. value_nodes c + n + value_nodes (unused b) + 1) (nodes_unused a) ∙ ap (λ n. value_nodes c + value_nodes a + n + 1) (nodes_unused b)
nodes_unused (typed.sequence a b) = ap (λ n. value_nodes a + n + 1) (nodes_unused b)
nodes_unused (typed.cast t e) = refl
nodes_unused (typed.discarded e) = refl
nodes_unused (typed.call at f t used args) = refl

abbrev pub nodes_in : Checked → ℕ
nodes_in (value at t e) = value_nodes e
nodes_in (object at t k a) = place_nodes a
nodes_in (array at t a) = place_nodes a
nodes_in (reference at t a) = place_nodes a
nodes_in (nothing at e) = value_nodes e
nodes_in (designator at) = 0

abbrev pub Within : ℕ → Checked → Type 0
Within n x = nodes_in x ≤ n

abbrev pub WorthWithin : ℕ → Worth → Type 0
WorthWithin n w = value_nodes w.e ≤ n

abbrev pub ValueWithin : ℕ → Value → Type 0
ValueWithin n e = value_nodes e ≤ n

abbrev TargetWithin : ℕ → Target → Type 0
TargetWithin n to = place_nodes to.place ≤ n

abbrev ArgumentsWithin : ℕ → Arguments → Type 0
ArgumentsWithin n args = argument_nodes args ≤ n

pub worth_within : (n : ℕ) (c : Code) (at : Pos) (x : Checked) → Within n x → IfFine (WorthWithin n) (worth c at x)
worth_within n c at (value p t e) h = h
worth_within n c at (object p t k a) h = h
worth_within n c at (array p t a) h = tt
worth_within n c at (reference p t a) h = tt
worth_within n c at (nothing p e) h = tt
worth_within n c at (designator p) h = tt

pub effect_within : (n : ℕ) (x : Checked) → Within n x → IfFine (ValueWithin n) (effect x)
effect_within n (value p t e) h = subst (λ k. k ≤ n) (sym (nodes_unused e)) h
effect_within n (object p t k a) h = h
effect_within n (array p t a) h = tt
effect_within n (reference p t a) h = tt
effect_within n (nothing p e) h = subst (λ k. k ≤ n) (sym (nodes_unused e)) h
effect_within n (designator p) h = tt

whole_within : (n : ℕ) (at : Pos) (t : ObjectType) (ls : List ℕ) (a : Place) → place_nodes a ≤ n → Within n (rules.whole_object at t ls a)
whole_within n at t [] a h = h
whole_within n at t (k ∷ l) a h = h

index_within : (n : ℕ) (at : Pos) (x : Checked) → Within n x → IfFine (WorthWithin n) (rules.index at x)
index_within n at (value p t e) h = h
index_within n at (object p t k a) h = h
index_within n at (array p t a) h = tt
index_within n at (reference p t a) h = tt
index_within n at (nothing p e) h = tt
index_within n at (designator p) h = tt

no_array : (P : Checked → Type 0) (at : Pos) (x : Checked) → IfFine P (rules.no_array at x)
no_array P at (value p t e) = tt
no_array P at (object p t k a) = tt
no_array P at (array p t a) = tt
no_array P at (reference p t a) = tt
no_array P at (nothing p e) = tt
no_array P at (designator p) = tt

element_within : (m n : ℕ) (at : Pos) (o : Option ObjectType) (a : Place) (w : Worth) → place_nodes a ≤ m → WorthWithin n w → IfFine (Within (m + n + 1)) (rules.element_at at o a w)
element_within m n at None a w h k = tt
element_within m n at (Some t) a w h k = whole_within (m + n + 1) at t t.lengths (typed.element at a w.e) (omega (arith, h, k))

subscripted_within : (m n : ℕ) (at : Pos) (x y : Checked) → Within m x → Within n y → IfFine (Within (m + n + 1)) (rules.subscripted at x y)
subscripted_within m n at (array q (complete t) a) i h k = then_some (WorthWithin n) (Within (m + n + 1)) (rules.index at i) _ (index_within n at i k) (λ w l. element_within m n at (element_type t) a w h l)
subscripted_within m n at (array q (unknown_size t) a) i h k = then_some (WorthWithin n) (Within (m + n + 1)) (rules.index at i) _ (index_within n at i k) (λ w l. element_within m n at (Some t) a w h l)
subscripted_within m n at (reference q t a) i h k = then_some (WorthWithin n) (Within (m + n + 1)) (rules.index at i) _ (index_within n at i k) (λ w l. element_within m n at (Some t) a w h l)
subscripted_within m n at (value q t e) i h k = no_array (Within (m + n + 1)) at i
subscripted_within m n at (object q t l a) i h k = no_array (Within (m + n + 1)) at i
subscripted_within m n at (nothing q e) i h k = tt
subscripted_within m n at (designator q) i h k = tt

refer_within : (n : ℕ) (at : Pos) (t : ObjectType) (o : Option ObjectType) (a : Place) (more : Arguments) → place_nodes a + argument_nodes more ≤ n → IfFine (ArgumentsWithin n) (rules.referring at t o a more)
refer_within n at t None a more h = tt
refer_within n at t (Some u) a more h = by (rules.may_refer t u)
  where
    by : (b : Bool) → IfFine (ArgumentsWithin n) (if b then fine (typed.and_array a more) else breaks code.ArgumentType at)
    by true = h
    by false = tt

argument_within : (m n : ℕ) (at : Pos) (p : ParameterType) (x : Checked) (more : Arguments) → Within m x → ArgumentsWithin n more → IfFine (ArgumentsWithin (m + n)) (rules.argument at p x more)
argument_within m n at (number t) x more h k = then_some (WorthWithin m) (ArgumentsWithin (m + n)) (worth code.ArgumentType at x) _ (worth_within m code.ArgumentType at x h) (λ w l. omega (arith, k, l))
argument_within m n at (elements t) (value q u e) more h k = tt
argument_within m n at (elements t) (object q u l a) more h k = tt
argument_within m n at (elements t) (array q (complete u) a) more h k = refer_within (m + n) at t (element_type u) a more (omega (arith, h, k))
argument_within m n at (elements t) (array q (unknown_size u) a) more h k = refer_within (m + n) at t (Some u) a more (omega (arith, h, k))
argument_within m n at (elements t) (reference q u a) more h k = refer_within (m + n) at t (Some u) a more (omega (arith, h, k))
argument_within m n at (elements t) (nothing q e) more h k = tt
argument_within m n at (elements t) (designator q) more h k = tt

result_within : (n : ℕ) (at : Pos) (r : Option IntType) (e : Value) → value_nodes e ≤ n → Within n (rules.result_at at r e)
result_within n at None e h = h
result_within n at (Some t) e h = h

target_within : (n : ℕ) (at : Pos) (x : Checked) → Within n x → IfFine (TargetWithin n) (rules.target at x)
target_within n at (value p t e) h = tt
target_within n at (object p t true a) h = tt
target_within n at (object p t false a) h = h
target_within n at (array p t a) h = tt
target_within n at (reference p t a) h = tt
target_within n at (nothing p e) h = tt
target_within n at (designator p) h = tt

assignment_within : (m n : ℕ) (at : Pos) (o : Option BinOp) (a b : Checked) → Within m a → Within n b → IfFine (Within (m + n + 1)) (rules.assignment at o a b)
assignment_within m n at None a b h k =
    both_some (TargetWithin m) (WorthWithin n) (Within (m + n + 1)) (rules.target at a) (worth code.VoidAssigned at b) (rules.simple at) (target_within m at a h) (worth_within n code.VoidAssigned at b k) (λ to x i j. omega (arith, i, j))
assignment_within m n at (Some o) a b h k =
    both_some (TargetWithin m) (WorthWithin n) (Within (m + n + 1)) (rules.target at a) (worth code.VoidOperand at b) (rules.compound at o) (target_within m at a h) (worth_within n code.VoidOperand at b k) (λ to x i j. omega (arith, i, j))

one_within : (n k : ℕ) (at : Pos) → IfFine (Within (n + 1)) (rules.size_is at k)
one_within n k at = omega arith

measured_within : (n : ℕ) (at : Pos) (x : Checked) → IfFine (Within (n + 1)) (rules.measured at x)
measured_within n at (value p t e) = one_within n (bytes_of t) at
measured_within n at (object p t k a) = one_within n (bytes_of t) at
measured_within n at (array p (complete t) a) = one_within n (size_of_object t) at
measured_within n at (array p (unknown_size t) a) = tt
measured_within n at (reference p t a) = one_within n 4 at
measured_within n at (nothing p e) = tt
measured_within n at (designator p) = tt

type_measured_within : (n : ℕ) (at : Pos) (t : Option ObjectType) → IfFine (Within (n + 1)) (rules.type_measured at t)
type_measured_within n at None = tt
type_measured_within n at (Some t) = one_within n (size_of_object t) at

cast_by : (m n : ℕ) (at : Pos) (t : ObjectType) (ls : List ℕ) (x : Checked) → Within n x → IfFine (Within (m + n + 1)) (rules.cast_to_object at t ls x)
cast_by m n at t [] x h = then_some (WorthWithin n) (Within (m + n + 1)) (worth code.VoidOperand at x) _ (worth_within n code.VoidOperand at x h) (λ w k. omega (arith, k))
cast_by m n at t (k ∷ l) x h = tt

cast_within : (m n : ℕ) (at : Pos) (t : Option ObjectType) (x : Checked) → Within n x → IfFine (Within (m + n + 1)) (rules.cast_to at t x)
cast_within m n at None x h = then_some (ValueWithin n) (Within (m + n + 1)) (effect x) _ (effect_within n x h) (λ e k. omega (arith, k))
cast_within m n at (Some t) x h = cast_by m n at t t.lengths x h

last_within : (m n : ℕ) (at : Pos) (a : Value) (x : Checked) → ValueWithin m a → Within n x → IfFine (Within (m + n + 1)) (rules.last at a x)
last_within m n at a (value p t e) h k = omega (arith, h, k)
last_within m n at a (object p t l b) h k = omega (arith, h, k)
last_within m n at a (array p t b) h k = tt
last_within m n at a (reference p t b) h k = tt
last_within m n at a (nothing p e) h k = omega (arith, h, k)
last_within m n at a (designator p) h k = tt

arithmetic_within : (m n : ℕ) (at : Pos) (o : BinOp) (a b : Checked) → Within m a → Within n b → IfFine (Within (m + n + 1)) (rules.arithmetic at o a b)
arithmetic_within m n at o a b h k =
    both_some (WorthWithin m) (WorthWithin n) (Within (m + n + 1)) (worth code.VoidOperand at a) (worth code.VoidOperand at b) (rules.computed_by at o) (worth_within m code.VoidOperand at a h) (worth_within n code.VoidOperand at b k) (λ x y i j. omega (arith, i, j))

operated_within : (m n : ℕ) (at : Pos) (o : BinaryOp) (a b : Checked) → Within m a → Within n b → IfFine (Within (m + n + 1)) (rules.operated at o a b)
operated_within m n at operator.Mul a b h k = arithmetic_within m n at op.Mul a b h k
operated_within m n at operator.Div a b h k = arithmetic_within m n at op.Div a b h k
operated_within m n at operator.Rem a b h k = arithmetic_within m n at op.Rem a b h k
operated_within m n at operator.Add a b h k = arithmetic_within m n at op.Add a b h k
operated_within m n at operator.Sub a b h k = arithmetic_within m n at op.Sub a b h k
operated_within m n at operator.ShiftLeft a b h k = arithmetic_within m n at op.Shl a b h k
operated_within m n at operator.ShiftRight a b h k = arithmetic_within m n at op.Shr a b h k
operated_within m n at operator.Less a b h k = arithmetic_within m n at op.Less a b h k
operated_within m n at operator.Greater a b h k = arithmetic_within m n at op.Greater a b h k
operated_within m n at operator.LessEqual a b h k = arithmetic_within m n at op.LessEqual a b h k
operated_within m n at operator.GreaterEqual a b h k = arithmetic_within m n at op.GreaterEqual a b h k
operated_within m n at operator.Equal a b h k = arithmetic_within m n at op.Equal a b h k
operated_within m n at operator.NotEqual a b h k = arithmetic_within m n at op.NotEqual a b h k
operated_within m n at operator.BitAnd a b h k = arithmetic_within m n at op.BitAnd a b h k
operated_within m n at operator.BitXor a b h k = arithmetic_within m n at op.BitXor a b h k
operated_within m n at operator.BitOr a b h k = arithmetic_within m n at op.BitOr a b h k
operated_within m n at operator.And a b h k =
    both_some (WorthWithin m) (WorthWithin n) (Within (m + n + 1)) (worth code.VoidOperand at a) (worth code.VoidOperand at b) (rules.conjunction at) (worth_within m code.VoidOperand at a h) (worth_within n code.VoidOperand at b k) (λ x y i j. omega (arith, i, j))
operated_within m n at operator.Or a b h k =
    both_some (WorthWithin m) (WorthWithin n) (Within (m + n + 1)) (worth code.VoidOperand at a) (worth code.VoidOperand at b) (rules.disjunction at) (worth_within m code.VoidOperand at a h) (worth_within n code.VoidOperand at b k) (λ x y i j. omega (arith, i, j))
operated_within m n at operator.Comma a b h k = both_some (ValueWithin m) (Within n) (Within (m + n + 1)) (effect a) (fine b) (rules.last at) (effect_within m a h) k (λ e x i j. last_within m n at e x i j)

common_within : (l m n : ℕ) (at : Pos) (c : Value) (a b : Checked) → ValueWithin l c → Within m a → Within n b → IfFine (Within (l + m + n + 1)) (both (worth code.UnmatchedArms at a) (worth code.UnmatchedArms at b) (rules.common_type at c))
common_within l m n at c a b g h k =
    both_some (WorthWithin m) (WorthWithin n) (Within (l + m + n + 1)) (worth code.UnmatchedArms at a) (worth code.UnmatchedArms at b) (rules.common_type at c) (worth_within m code.UnmatchedArms at a h) (worth_within n code.UnmatchedArms at b k)
    (λ x y i j. omega (arith, g, i, j))

choice_within : (l m n : ℕ) (at : Pos) (c : Value) (a b : Checked) → ValueWithin l c → Within m a → Within n b → IfFine (Within (l + m + n + 1)) (rules.choice at c a b)
choice_within l m n at c (nothing p a) (nothing q b) g h k = omega (arith, g, h, k)
choice_within l m n at c (nothing p a) (value q t e) g h k = tt
choice_within l m n at c (nothing p a) (object q t z e) g h k = tt
choice_within l m n at c (nothing p a) (array q t e) g h k = tt
choice_within l m n at c (nothing p a) (reference q t e) g h k = tt
choice_within l m n at c (nothing p a) (designator q) g h k = tt
choice_within l m n at c (value p t e) b g h k = common_within l m n at c (value p t e) b g h k
choice_within l m n at c (object p t z e) b g h k = common_within l m n at c (object p t z e) b g h k
choice_within l m n at c (array p t e) b g h k = tt
choice_within l m n at c (reference p t e) b g h k = tt
choice_within l m n at c (designator p) b g h k = tt

meant_within : (at : Pos) (m : Meaning) → IfFine (Within 1) (rules.meant at m)
meant_within at (an_object what (complete t)) = whole_within 1 at t t.lengths (typed.named at what) (omega arith)
meant_within at (an_object what (unknown_size t)) = omega arith
meant_within at (an_array_parameter n t) = omega arith
meant_within at (a_function t) = omega arith
meant_within at (an_enumerator v) = omega arith

named_within : (at : Pos) (o : Option Binding) → IfFine (Within 1) (rules.named at o)
named_within at None = tt
named_within at (Some b) = meant_within at b.meaning

abbrev ArmsWithin : ℕ → ℕ → Arms → Type 0
ArmsWithin m n ab = Within m ab.first × Within n ab.second

mutual
  pub typing_within : (s : Scope) (e : Tree) → IfFine (Within (nodes e)) (typing s e)
  typing_within s hole = tt
  typing_within s (identifier at n) = named_within at (lookup s n)
  typing_within s (constant at t v) = omega arith
  typing_within s (string at n) = let t = rules.string_type (literal_of s n) in part (Within 1) (rules.too_large at t) (fine (array at (complete t) (typed.named at (typed.literal (length s.literals))))) (omega arith)
  typing_within s (paren e) = typing_within s e
  typing_within s (call at f args) =
      then_any (Within (all_nodes args + 1)) (rules.function_named s at f (lookup s f)) (λ g. then_check (arguments s at g.type.parameters args) (rules.call_of at g)) (λ g.
      then_some (ArgumentsWithin (all_nodes args)) (Within (all_nodes args + 1)) (arguments s at g.type.parameters args) (rules.call_of at g) (arguments_within s at g.type.parameters args) (λ given h.
      result_within (all_nodes args + 1) at g.type.result (typed.call at g.callee g.type.result true given) (omega (arith, h))))
  typing_within s (subscript at a i) =
      both_some (Within (nodes a)) (Within (nodes i)) (Within (nodes a + nodes i + 1)) (typing s a) (typing (past s a) i) (rules.subscripted at) (typing_within s a) (typing_within (past s a) i) (λ x y h k. subscripted_within (nodes a) (nodes i) at x y h k)
  typing_within s (after at o a) =
      then_some (Within (nodes a)) (Within (nodes a + 1)) (typing s a) (λ x. then_check (rules.target at x) (rules.step at typed.after o)) (typing_within s a) (λ x h.
      then_some (TargetWithin (nodes a)) (Within (nodes a + 1)) (rules.target at x) (rules.step at typed.after o) (target_within (nodes a) at x h) (λ to k. omega (arith, k)))
  typing_within s (before at o a) =
      then_some (Within (nodes a)) (Within (nodes a + 1)) (typing s a) (λ x. then_check (rules.target at x) (rules.step at typed.before o)) (typing_within s a) (λ x h.
      then_some (TargetWithin (nodes a)) (Within (nodes a + 1)) (rules.target at x) (rules.step at typed.before o) (target_within (nodes a) at x h) (λ to k. omega (arith, k)))
  typing_within s (prefix at o a) =
      then_some (WorthWithin (nodes a)) (Within (nodes a + 1)) (valued code.VoidOperand at (typing s a)) (rules.signed_value at o)
      (then_some (Within (nodes a)) (WorthWithin (nodes a)) (typing s a) (worth code.VoidOperand at) (typing_within s a) (λ x h. worth_within (nodes a) code.VoidOperand at x h)) (λ w k. omega (arith, k))
  typing_within s (size_of at a) = then_any (Within (nodes a + 1)) (typing s a) (rules.measured at) (λ x. measured_within (nodes a) at x)
  typing_within s (size_of_type at t) = then_any (Within (type_nodes t + 1)) (rules.named_in s t) (rules.type_measured at) (λ o. type_measured_within (type_nodes t) at o)
  typing_within s (cast at t a) =
      both_any (Within (nodes a)) (Within (type_nodes t + nodes a + 1)) (rules.named_in s t) (typing (past_type s t) a) (rules.cast_to at) (typing_within (past_type s t) a) (λ o x h. cast_within (type_nodes t) (nodes a) at o x h)
  typing_within s (binary at o a b) =
      both_some (Within (nodes a)) (Within (nodes b)) (Within (nodes a + nodes b + 1)) (typing s a) (typing (past s a) b) (rules.operated at o) (typing_within s a) (typing_within (past s a) b) (λ x y h k. operated_within (nodes a) (nodes b) at o x y h k)
  typing_within s (conditional at c a b) =
      both_some (WorthWithin (nodes c)) (ArmsWithin (nodes a) (nodes b)) (Within (nodes c + nodes a + nodes b + 1)) (valued code.VoidOperand at (typing s c)) (both (typing (past s c) a) (typing (past (past s c) a) b) rules.arms) (rules.chosen_by at)
      (then_some (Within (nodes c)) (WorthWithin (nodes c)) (typing s c) (worth code.VoidOperand at) (typing_within s c) (λ x h. worth_within (nodes c) code.VoidOperand at x h))
      (both_some (Within (nodes a)) (Within (nodes b)) (ArmsWithin (nodes a) (nodes b)) (typing (past s c) a) (typing (past (past s c) a) b) rules.arms (typing_within (past s c) a) (typing_within (past (past s c) a) b) (λ x y h k. (h, k)))
      (λ w ab g h. choice_within (nodes c) (nodes a) (nodes b) at w.e ab.first ab.second g h.0 h.1)
  typing_within s (assign at o a b) =
      both_some (Within (nodes a)) (Within (nodes b)) (Within (nodes a + nodes b + 1)) (typing s a) (typing (past s a) b) (rules.assignment at (assigning o)) (typing_within s a) (typing_within (past s a) b) (λ x y h k. assignment_within (nodes a) (nodes b) at (assigning o) x y h k)

  pub arguments_within : (s : Scope) (at : Pos) (ps : List ParameterType) (es : Trees) → IfFine (ArgumentsWithin (all_nodes es)) (arguments s at ps es)
  arguments_within s at [] no_trees = omega arith
  arguments_within s at [] (one_more e es) = tt
  arguments_within s at (p ∷ ps) no_trees = tt
  arguments_within s at (p ∷ ps) (one_more e es) =
      both_some (Within (nodes e)) (ArgumentsWithin (all_nodes es)) (ArgumentsWithin (nodes e + all_nodes es)) (typing s e) (arguments (past s e) at ps es) (rules.argument at p) (typing_within s e) (arguments_within (past s e) at ps es)
      (λ x more h k. argument_within (nodes e) (all_nodes es) at p x more h k)
