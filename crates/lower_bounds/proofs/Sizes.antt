-- Bytes of the stack and of code against nodes.
use Rattle.std.proofs.Common.{◌≡◌, ℕ, zero, suc, ◌+◌, ◌*◌, ◌-◌, ◌/◌, ◌<◌, ◌≤◌, ◌^◌, max, List, [], ◌∷◌, length, map, Some, true, ◌&&◌, refl, subst, arith}
use Rattle.std.specs.Prelude.{sum_by, slice_get, nat_eq}
use Rattle.std.proofs.Math.Nat.{max-le, le-max_left, le-max_right}
use Rattle.std.proofs.lemmas.List.Sums.{sum_by-cons}
use Rattle.ctypes.specs.declared.types.IntType.{IntType}
use Rattle.ctypes.specs.declared.types.IntType.TheVariants as ty
use Rattle.ctypes.specs.Types.{bytes_of}
use Rattle.typing_spec.specs.Types.{ObjectType, ParameterType, number, elements, same_type, elements_in, size_of_object}
use Rattle.typing_spec.specs.Program as typed
use Rattle.typing_spec.specs.Program.{Initialiser, Initialisers, Statement, Statements}
use Rattle.typing_spec.specs.Nodes.{value_nodes, option_nodes, initialiser_nodes, initialisers_nodes, statement_nodes, statements_nodes}
use Rattle.typing_spec.specs.Units.{bytes_of_objects, bytes_of_references}
use Rattle.typing_spec.specs.WellTyped.{parameters_are_first}
use Rattle.tac_code.specs.Spans.{widest_initial, widest_initials, widest, widest_of}
use Rattle.tac_code.specs.declared.code.Instruction.{Instruction}
use Rattle.tac_code.specs.Code.{scalar_type}
use Rattle.tac_code.specs.Costs.{code_bytes, array_parameters}
use Rattle.tac_code.specs.Lowered.{kind_of}
use Rattle.tac_code.specs.Sound.{number_parameters}
use Rattle.lower_correct.proofs.Words.{left_true, right_true, differ}
use Rattle.lower_bounds.specs.inside.Rooms.{room_of, before}
use Rattle.lower_bounds.proofs.Lists.{same_some}
use Rattle.lower_bounds.proofs.Numbers.{some_inside}
use Rattle.lower_bounds.proofs.Operands.{scalar_if}

-- ---- the widest full expression has no more nodes than the statement

le_trans : (a b c : ℕ) → a ≤ b → b ≤ c → a ≤ c
le_trans a b c x y = omega (arith, x, y)

nothing_below : (b : ℕ) → 0 ≤ b
nothing_below b = omega arith

same_le : (n : ℕ) → n ≤ n
same_le n = omega arith

up : (a b : ℕ) → a ≤ b → a ≤ b + 1
up a b h = omega (arith, h)

within_sum : (a b x y : ℕ) → a ≤ x → b ≤ y → max a b ≤ x + y
within_sum a b x y h g = max-le (let e : a ≤ x + y = omega (arith, h) in e) (let e : b ≤ x + y = omega (arith, g) in e)

mutual
  initial_le : (i : Initialiser) → widest_initial i ≤ initialiser_nodes i
  initial_le (typed.one_value u e) = same_le (value_nodes e)
  initial_le (typed.text n) = same_le 1
  initial_le (typed.in_braces i) = up (widest_initial i) (initialiser_nodes i) (initial_le i)
  initial_le (typed.list all) = up (widest_initials all) (initialisers_nodes all) (initials_le all)

  initials_le : (all : Initialisers) → widest_initials all ≤ initialisers_nodes all
  initials_le typed.no_initialisers = same_le 0
  initials_le (typed.and_initialiser i more) = within_sum (widest_initial i) (widest_initials more) (initialiser_nodes i) (initialisers_nodes more) (initial_le i) (initials_le more)

branches_le : (e a b x y : ℕ) → a ≤ x → b ≤ y → max e (max a b) ≤ e + x + y
branches_le e a b x y h g = max-le (let l : e ≤ e + x + y = omega arith in l)
    (max-le (let l : a ≤ e + x + y = omega (arith, h) in l) (let l : b ≤ e + x + y = omega (arith, g) in l))

switch_le : (e a x : ℕ) → a ≤ x → max e a ≤ e + x + 2
switch_le e a x h = max-le (let l : e ≤ e + x + 2 = omega arith in l) (let l : a ≤ e + x + 2 = omega (arith, h) in l)

do_le : (e a x : ℕ) → a ≤ x → max e a ≤ x + e
do_le e a x h = max-le (let l : e ≤ x + e = omega arith in l) (let l : a ≤ x + e = omega (arith, h) in l)

for_le : (d s t u a x y : ℕ) → d ≤ x → a ≤ y → max d (max s (max t (max u a))) ≤ x + s + t + u + y
for_le d s t u a x y h g = max-le (let l : d ≤ x + s + t + u + y = omega (arith, h) in l) (max-le (let l : s ≤ x + s + t + u + y = omega arith in l)
    (max-le (let l : t ≤ x + s + t + u + y = omega arith in l) (max-le (let l : u ≤ x + s + t + u + y = omega arith in l) (let l : a ≤ x + s + t + u + y = omega (arith, g) in l))))

mutual
  pub widest_le : (x : Statement) → widest x ≤ statement_nodes x
  widest_le typed.empty = nothing_below 1
  widest_le (typed.evaluate e) = up (value_nodes e) (value_nodes e) (same_le (value_nodes e))
  widest_le (typed.declare n) = nothing_below 1
  widest_le (typed.define n i) = up (widest_initial i) (initialiser_nodes i) (initial_le i)
  widest_le (typed.block a k all) = up (widest_of all) (statements_nodes all) (widest_of_le all)
  widest_le (typed.branch e a) = up (max (value_nodes e) (widest a)) (value_nodes e + statement_nodes a) (within_sum (value_nodes e) (widest a) (value_nodes e) (statement_nodes a) (same_le (value_nodes e)) (widest_le a))
  widest_le (typed.branches e a b) = up (max (value_nodes e) (max (widest a) (widest b))) (value_nodes e + statement_nodes a + statement_nodes b)
      (branches_le (value_nodes e) (widest a) (widest b) (statement_nodes a) (statement_nodes b) (widest_le a) (widest_le b))
  widest_le (typed.switch u e a k all) = switch_le (value_nodes e) (widest_of all) (statements_nodes all) (widest_of_le all)
  widest_le (typed.case v) = nothing_below 1
  widest_le typed.default = nothing_below 1
  widest_le (typed.while e a) = up (max (value_nodes e) (widest a)) (value_nodes e + statement_nodes a) (within_sum (value_nodes e) (widest a) (value_nodes e) (statement_nodes a) (same_le (value_nodes e)) (widest_le a))
  widest_le (typed.do_while a e) = up (max (value_nodes e) (widest a)) (statement_nodes a + value_nodes e) (do_le (value_nodes e) (widest a) (statement_nodes a) (widest_le a))
  widest_le (typed.for declared start test step a) =
      up (max (widest_of declared) (max (option_nodes start) (max (option_nodes test) (max (option_nodes step) (widest a))))) (statements_nodes declared + option_nodes start + option_nodes test + option_nodes step + statement_nodes a)
      (for_le (widest_of declared) (option_nodes start) (option_nodes test) (option_nodes step) (widest a) (statements_nodes declared) (statement_nodes a) (widest_of_le declared) (widest_le a))
  widest_le typed.break = nothing_below 1
  widest_le typed.continue = nothing_below 1
  widest_le typed.return_nothing = nothing_below 1
  widest_le (typed.return_value u e) = up (value_nodes e) (value_nodes e) (same_le (value_nodes e))

  pub widest_of_le : (all : Statements) → widest_of all ≤ statements_nodes all
  widest_of_le typed.no_statements = same_le 0
  widest_of_le (typed.and_statement x more) = within_sum (widest x) (widest_of more) (statement_nodes x) (statements_nodes more) (widest_le x) (widest_of_le more)

-- ---- parameters

next_reference : (a r : ℕ) → 4 * a ≡ r → 4 * suc a ≡ 4 + r
next_reference a r e = omega (arith, e)

pub references : (ps : List ParameterType) → 4 * array_parameters (map kind_of ps) ≡ bytes_of_references ps
references [] = refl
references (number t ∷ ps) = references ps
references (elements t ∷ ps) = next_reference (array_parameters (map kind_of ps)) (bytes_of_references ps) (references ps)

lower : (n m : ℕ) → suc n < m + 1 → n < m
lower n m h = omega (arith, h)

pub first_scalar : (ps : List ParameterType) (objects : List ObjectType) (n : ℕ) → parameters_are_first ps objects ≡ true → n < number_parameters (map kind_of ps)
    → (t : IntType) × (scalar_type (slice_get objects n) ≡ Some t)
first_scalar [] objects n h lt = absurd (let no_such : ⊥ = omega (arith, lt) in no_such)
first_scalar (elements t ∷ ps) objects n h lt = first_scalar ps objects n h lt
first_scalar (number t ∷ ps) [] n h lt = absurd (differ h)
first_scalar (number t ∷ ps) (o ∷ objects) zero h lt =
    (o.element, scalar_if o.lengths o.element (left_true (nat_eq (length o.lengths) 0) (parameters_are_first ps objects) (right_true (same_type t o.element) (nat_eq (length o.lengths) 0 && parameters_are_first ps objects) h)))
first_scalar (number t ∷ ps) (o ∷ objects) (suc n) h lt =
    first_scalar ps objects n (right_true (nat_eq (length o.lengths) 0) (parameters_are_first ps objects) (right_true (same_type t o.element) (nat_eq (length o.lengths) 0 && parameters_are_first ps objects) h))
    (lower n (number_parameters (map kind_of ps)) lt)

-- ---- objects

first_object : (s r : ℕ) → s ≤ (s + 3) / 4 * 4 + r
first_object s r = omega arith

behind_object : (s t r : ℕ) → s ≤ r → s ≤ (t + 3) / 4 * 4 + r
behind_object s t r h = omega (arith, h)

pub in_objects : (ts : List ObjectType) (n : ℕ) (o : ObjectType) → slice_get ts n ≡ Some o → size_of_object o ≤ bytes_of_objects ts
in_objects [] n o e = absurd (let no_such : ⊥ = cc in no_such)
in_objects (t ∷ ts) zero o e =
    subst (λ x. size_of_object x ≤ bytes_of_objects (t ∷ ts)) (same_some t o e) (first_object (size_of_object t) (bytes_of_objects ts))
in_objects (t ∷ ts) (suc n) o e = behind_object (size_of_object o) (size_of_object t) (bytes_of_objects ts) (in_objects ts n o e)

pub objects_small : (r o n w : ℕ) → w ≡ (64 + (r + o) + 16 * n + 15) / 16 * 16 → w ≤ 16777216 → o ≤ 16777216
objects_small r o n w e h = omega (arith, e, h)

some_bytes : (t : IntType) → 1 ≤ bytes_of t
some_bytes ty.Bool = omega arith
some_bytes ty.Char = omega arith
some_bytes ty.SChar = omega arith
some_bytes ty.UChar = omega arith
some_bytes ty.Short = omega arith
some_bytes ty.UShort = omega arith
some_bytes ty.Int = omega arith
some_bytes ty.UInt = omega arith
some_bytes ty.Long = omega arith
some_bytes ty.ULong = omega arith

no_more_elements : (b e c : ℕ) → 1 ≤ b → b * e ≤ c → c ≤ 16777216 → e < 2 ^ 32
no_more_elements zero e c s h g = absurd (let none : ⊥ = omega (arith, s) in none)
no_more_elements (suc b) e c s h g = let sum : suc b * e ≡ e + b * e = grind arith in omega (arith, h, g, sum)

-- an object has elements, and no more than its function has bytes
pub object_filled : (o : ObjectType) (bytes : ℕ) → 0 < size_of_object o → size_of_object o ≤ bytes → bytes ≤ 16777216
    → (0 < elements_in o.lengths) × (elements_in o.lengths < 2 ^ 32)
object_filled o bytes some h g =
    let b = bytes_of o.element in
    (some_inside b (elements_in o.lengths) some, no_more_elements b (elements_in o.lengths) bytes (some_bytes o.element) h g)

-- ---- the stack

rounded : (a b : ℕ) → a ≤ b → a / 16 * 16 ≤ b / 16 * 16
rounded a b h = omega (arith, h)

-- the first 8 temporaries take none
past_registers : (t w : ℕ) → t ≤ max 8 (w + 1) → t - 8 ≤ w + 1
past_registers t w h = omega (arith, h)

pub stack_fits : (t k a r o w n : ℕ) → t ≤ max 8 (w + 1) → k ≤ w + 1 → 4 * a ≡ r → w ≤ n
    → (4 * (t - 8) + (8 + (4 * k + (4 * a + o))) + 15) / 16 * 16 ≤ (64 + (r + o) + 16 * n + 15) / 16 * 16
stack_fits t k a r o w n ht hk e h =
    let few = past_registers t w ht in
    rounded (4 * (t - 8) + (8 + (4 * k + (4 * a + o))) + 15) (64 + (r + o) + 16 * n + 15) (omega (arith, few, hk, e, h))

-- ---- the code

more_bytes : (s t x r b : ℕ) → s ≡ x + t → t ≤ b → x ≤ r → s ≤ b + r
more_bytes s t x r b e h g = omega (arith, e, h, g)

pub bytes_le : (code : List Instruction) → sum_by code_bytes code ≤ before code (length code)
bytes_le [] = omega arith
bytes_le (i ∷ code) = more_bytes (sum_by code_bytes (i ∷ code)) (sum_by code_bytes code) (code_bytes i) (room_of i) (before code (length code)) (sum_by-cons code_bytes i code) (bytes_le code) (le-max_right 4 (code_bytes i))

longer : (n b r : ℕ) → 4 * n ≤ b → 4 ≤ r → 4 * suc n ≤ b + r
longer n b r h g = omega (arith, h, g)

pub length_le : (code : List Instruction) → 4 * length code ≤ before code (length code)
length_le [] = omega arith
length_le (i ∷ code) = longer (length code) (before code (length code)) (room_of i) (length_le code) (le-max_left 4 (code_bytes i))
