-- Parts of the code of statements keep within their room, and are fine.
use Rattle.std.proofs.Common.{◌≡◌, ℕ, suc, ◌+◌, ◌*◌, ◌<◌, ◌≤◌, max, List, [], ◌∷◌, ◌++◌, length, map, Option, Some, None, Bool, true, false, ◌&&◌, ℤ, ap, ◌∙◌, arith}
use Rattle.std.specs.Prelude.{nat_le, nat_lt, nat_eq, slice_get}
use Rattle.std.proofs.Math.Nat.{le-max_left, le-max_right}
use Rattle.std.proofs.lemmas.Bool.Decides.{nat_tests}
use Rattle.ctypes.specs.declared.types.IntType.{IntType}
use Rattle.typing_spec.specs.Types.{ObjectType, same_type}
use Rattle.typing_spec.specs.Program as typed
use Rattle.typing_spec.specs.Program.{Value, Initialiser}
use Rattle.typing_spec.specs.Nodes.{type_of_value, value_nodes, option_nodes, initialiser_nodes, initialisers_nodes}
use Rattle.typing_spec.specs.WellTyped.{some_number, value_is_typed, initialiser_is_typed, option_is_typed, test_is_typed}
use Rattle.tac_code.specs.Designated.{in_value, in_initialiser, in_option}
use Rattle.tac_code.specs.Spans.{widest_initial}
use Rattle.tac_code.specs.declared.code.Operand.{Operand}
use Rattle.tac_code.specs.declared.code.Target.{Target}
use Rattle.tac_code.specs.declared.code.Target.TheVariants as target
use Rattle.tac_code.specs.declared.code.Instruction.TheVariants as instruction
use Rattle.tac_code.specs.Code.{scalar_type}
use Rattle.lower_correct.specs.Values.{writes_none, keeps, operand_of, Mode, Nowhere, To, If}
use Rattle.lower_correct.specs.Code.{One, Into}
use Rattle.lower_correct.specs.Bodies.{Gives, InitialisesWord, Effects, Repeats, Tests}
use Rattle.lower_correct.proofs.Words.{word_small, left_true, right_true}
use Rattle.lower_bounds.proofs.Grounds.{Ground, sizes, IsNumber, OperandFine, Lands, ModeLands, Aims}
use Rattle.lower_bounds.proofs.Stretches.{Within, one, none, join, settle, aimed}
use Rattle.lower_bounds.proofs.Operands.{scalar_if, waits, rests_fine}
use Rattle.lower_bounds.proofs.Leaves.{converts_within}
use Rattle.lower_bounds.proofs.Expressions.{Fits, free, into_within}

-- ---- numbers

pub on : (p q l : ℕ) → p ≤ q → q ≤ l → p ≤ l
on p q l x y = omega (arith, x, y)

pub next_le : (p q : ℕ) → p + 1 ≡ q → p ≤ q
next_le p q e = omega (arith, e)

pub same_le : (p : ℕ) → p ≤ p
same_le p = omega arith

pub le_holds : (a b : ℕ) → nat_le a b ≡ true → a ≤ b
le_holds a b h = grind (arith, nat_tests)

pub lt_holds : (a b : ℕ) → nat_lt a b ≡ true → a < b
lt_holds a b h = grind (arith, nat_tests)

pub one_object : (n hi l : ℕ) → n < hi → hi ≤ l → n + 1 ≤ l
one_object n hi l x y = omega (arith, x, y)

less_wide : (a b c : ℕ) → a ≤ b → b + 1 ≤ c → a + 1 ≤ c
less_wide a b c x y = omega (arith, x, y)

pub left_wide : (a b c : ℕ) → max a b + 1 ≤ c → a + 1 ≤ c
left_wide a b c h = less_wide a (max a b) c (le-max_left a b) h

pub right_wide : (a b c : ℕ) → max a b + 1 ≤ c → b + 1 ≤ c
right_wide a b c h = less_wide b (max a b) c (le-max_right a b) h

wide_fits : (n b : ℕ) → n + 1 ≤ b → 0 + n ≤ b
wide_fits n b h = omega (arith, h)

-- ---- room

pub evaluate_room : (e : ℕ) → 128 * (1 + e) + 0 ≤ 128 * (e + 1) + (124 + 32)
evaluate_room e = omega arith

initial_room : (e : ℕ) → 128 * (e + 1) + 64 ≤ 128 * (e + 1) + (0 + 124)
initial_room e = omega arith

braces_room : (i : ℕ) → 128 * (1 + (i + 1)) + 64 ≤ 128 * (i + 1 + 1) + (124 + 64)
braces_room i = omega arith

pub define_room : (i : ℕ) → 128 * (1 + (i + 1)) + 0 ≤ 128 * (i + 1) + (124 + 64)
define_room i = omega arith

pub block_room : (n : ℕ) → 128 * (1 + n) + 0 ≤ 128 * (n + 1) + (124 + 0)
block_room n = omega arith

pub branch_room : (e a : ℕ) → 128 * (1 + (e + a)) + 0 ≤ 128 * (e + a + 1) + (124 + (32 + 0))
branch_room e a = omega arith

pub branches_room : (e a b : ℕ) → 128 * (1 + (e + (a + (1 + b)))) + 0 ≤ 128 * (e + a + b + 1) + (124 + (32 + (0 + (124 + 0))))
branches_room e a b = omega arith

pub switch_room : (e n c : ℕ) → 128 * (1 + (e + (1 + (c + 1 + n)))) + 0 ≤ 128 * (e + n + 2) + (124 + (32 + (124 + (96 * c + 124 + 32 * c))))
switch_room e n c = omega arith

pub while_room : (e a : ℕ) → 128 * (1 + (a + e)) + 0 ≤ 128 * (e + a + 1) + (124 + (0 + 32))
while_room e a = omega arith

pub do_room : (e a : ℕ) → 128 * (1 + (a + e)) + 0 ≤ 128 * (a + e + 1) + (124 + (0 + 32))
do_room e a = omega arith

pub for_room : (d s t u a : ℕ) → 128 * (1 + (d + (s + (1 + (a + (u + (t + 1))))))) + 0 ≤ 128 * (d + s + t + u + a + 1) + (124 + (0 + (0 + (124 + (0 + (0 + 124))))))
for_room d s t u a = omega arith

pub return_room : (e : ℕ) → 128 * (1 + (e + 1)) + 0 ≤ 128 * (e + 1) + (124 + (0 + 124))
return_room e = omega arith

no_label_room : (c : ℕ) → 128 * (c + 1) + (96 * suc c + 124) ≤ 128 * (suc c + 1) + (96 * c + 124)
no_label_room c = omega arith

label_room : (c : ℕ) → 128 * (1 + (c + 1)) + (96 * suc c + 124) ≤ 128 * (suc c + 1) + (96 + (96 * c + 124))
label_room c = omega arith

pub less_room : (n d : ℕ) → 128 * n + 0 ≤ 128 * n + d
less_room n d = omega arith

listed_room : (n : ℕ) → 128 * 1 + 64 ≤ 128 * (n + 1 + 1) + 124
listed_room n = omega arith

repeat_room : (e : ℕ) → 128 * e + 124 ≤ 128 * (e + 1) + 32
repeat_room e = omega arith

pub labels_room : (a b x y l : ℕ) → l ≡ x + y → 128 * (a + b) + 32 * l ≤ 128 * (a + b) + (32 * x + 32 * y)
labels_room a b x y l e = omega (arith, e)

pub length_both : {A : Type 0} (xs ys : List A) → length (xs ++ ys) ≡ length xs + length ys
length_both [] ys = omega arith
length_both (x ∷ xs) ys = omega (arith, length_both xs ys)

module _ (z : Ground) where
  -- ends, and where `break` and `continue` go
  abbrev pub Leads : ℕ → ℕ → ℕ → ℕ → Type 0
  Leads out again back pc2 = (pc2 ≤ z.limit) × (out ≤ z.limit) × (again ≤ z.limit) × (back ≤ z.limit)

  abbrev pub Inside : List ℕ → Type 0
  Inside [] = Unit {0}
  Inside (p ∷ places) = (p ≤ z.limit) × Inside places

  pub inside_labels : (labels : List (Option ℤ)) (pc : ℕ) (rest : List ℕ) → pc ≤ z.limit → Inside rest → Inside (map (λ l. pc) labels ++ rest)
  inside_labels [] pc rest h r = r
  inside_labels (l ∷ labels) pc rest h r = (h, inside_labels labels pc rest h r)

  abbrev V : Value → Bool
  V e = value_is_typed z.source z.function e

  abbrev N : Value → Bool
  N e = some_number (type_of_value e)

  -- ---- full expressions

  pub whole : (e : Value) → value_nodes e + 1 ≤ z.slots → Fits z (value_nodes e) 0 0
  whole e w = let f = wide_fits (value_nodes e) z.slots w in (on (0 + value_nodes e) z.slots z.bound f z.fewer, f)

  pub effect_within : (e : Value) (m : Mode) (pc pc2 : ℕ) → V e ≡ true → in_value z.source e ≡ true → value_nodes e + 1 ≤ z.slots → ModeLands z m 0 0
      → Into z.code (sizes z) e m 0 0 pc pc2 → Within z (Aims z m pc2) (value_nodes e) 32 pc pc2
  effect_within e m pc pc2 h d w l i = into_within z e m 0 0 pc pc2 h d (whole e w) l i

  pub gives_within : (u : IntType) (e : Value) (g : Target) (pc pc2 : ℕ) → V e ≡ true → in_value z.source e ≡ true → value_nodes e + 1 ≤ z.slots → Lands z g 0 0
      → Gives z.code z.source z.function u e g pc pc2 → Within z (Aims z (To g) pc2) (value_nodes e) 0 pc pc2
  gives_within u e g pc pc2 h d w l i =
      converts_within z (keeps u e) (λ m a b. Into z.code (sizes z) e m 0 0 a b) u (operand_of e 0 0) g (value_nodes e) 0 0 pc pc2 l
      (waits z e writes_none false 0 0 (rests_fine z e h)) (free z e 0 0 (whole e w))
      (λ m p p2 l2 i2. effect_within e m p p2 h d w l2 i2) i

  pub nothing : {A : Type 0} (pc pc2 : ℕ) → One z.code instruction.Nothing pc pc2 → Within z A 1 124 pc pc2
  nothing pc pc2 i = one z _ 124 pc pc2 i (omega arith) (λ a. tt)

  -- ---- first values of objects that are no arrays

  pub word_within : (i : Initialiser) (n : ℕ) (o : ObjectType) (pc pc2 : ℕ) → slice_get z.function.objects n ≡ Some o
      → initialiser_is_typed z.source z.function o.element o.lengths i ≡ true → in_initialiser z.source i ≡ true
      → widest_initial i + 1 ≤ z.slots → InitialisesWord z.code z.source z.function i n pc pc2
      → Within z (pc2 ≤ z.limit) (initialiser_nodes i + 1) 64 pc pc2
  word_within (typed.one_value u e) n o pc pc2 at h d w i =
      let h2 = right_true (same_type o.element u) (nat_eq (length o.lengths) 0 && (V e && N e)) h in
      let he = left_true (V e) (N e) (right_true (nat_eq (length o.lengths) 0) (V e && N e) h2) in
      let is : IsNumber z n = (o.element, ap scalar_type at ∙ scalar_if o.lengths o.element (left_true (nat_eq (length o.lengths) 0) (V e && N e) h2)) in
      settle z (value_nodes e + 1) 64 (initial_room (value_nodes e)) (join z
      (aimed z (λ a. (on i.0 pc2 z.limit (next_le i.0 pc2 i.2.next) a, tt)) (gives_within u e (target.Object n) pc i.0 he d w is i.1)) (nothing i.0 pc2 i.2))
  word_within (typed.text t) n o pc pc2 at h d w i = settle z (1 + 1) 64 (omega arith) (nothing pc pc2 i)
  word_within (typed.list all) n o pc pc2 at h d w i = settle z (initialisers_nodes all + 1 + 1) 64 (listed_room (initialisers_nodes all)) (nothing pc pc2 i)
  word_within (typed.in_braces b) n o pc pc2 at h d w i =
      settle z (initialiser_nodes b + 1 + 1) 64 (braces_room (initialiser_nodes b)) (join z (nothing pc i.0 i.1) (word_within b n o i.0 pc2 at h d w i.2))

  -- ---- parts of loops

  pub effects_within : (o : Option Value) (pc pc2 : ℕ) → option_is_typed z.source z.function o ≡ true → in_option z.source o ≡ true
      → option_nodes o + 1 ≤ z.slots → Effects z.code z.source z.function o pc pc2 → Within z (pc2 ≤ z.limit) (option_nodes o) 0 pc pc2
  effects_within None pc pc2 h d w i = none z pc pc2 i
  effects_within (Some e) pc pc2 h d w i = settle z (value_nodes e) 0 (less_room (value_nodes e) 32)
      (aimed z (λ a. (a, tt)) (effect_within e Nowhere pc pc2 h d w tt i))

  pub repeats_within : (o : Option Value) (top pc pc2 : ℕ) → test_is_typed z.source z.function o ≡ true → in_option z.source o ≡ true
      → option_nodes o + 1 ≤ z.slots → Repeats z.code z.source z.function o top pc pc2
      → Within z ((pc2 ≤ z.limit) × (top ≤ z.limit)) (option_nodes o + 1) 124 pc pc2
  repeats_within None top pc pc2 h d w i = settle z (0 + 1) 124 (omega arith) (one z _ 124 pc pc2 i (omega arith) (λ a. a.1))
  repeats_within (Some e) top pc pc2 h d w i = settle z (value_nodes e + 1) 124 (repeat_room (value_nodes e))
      (effect_within e (If true top) pc pc2 (left_true (V e) (N e) h) d w tt i)

  pub tests_within : (o : Operand) (labels : List (Option ℤ)) (places : List ℕ) (default pc pc2 : ℕ) → OperandFine z o → Tests z.code o labels places default pc pc2
      → Within z (Inside places × (default ≤ z.limit)) (length labels + 1) (96 * length labels + 124) pc pc2
  tests_within o [] places default pc pc2 f i = settle z (0 + 1) (96 * 0 + 124) (omega arith) (one z _ 124 pc pc2 i (omega arith) (λ a. a.1))
  tests_within o (l ∷ labels) [] default pc pc2 f i = absurd i
  tests_within o (None ∷ labels) (p ∷ places) default pc pc2 f i =
      settle z (suc (length labels) + 1) (96 * suc (length labels) + 124) (no_label_room (length labels)) (aimed z (λ a. (a.0.1, a.0.0)) (tests_within o labels places p pc pc2 f i))
  tests_within o (Some c ∷ labels) (p ∷ places) default pc pc2 f i =
      settle z (suc (length labels) + 1) (96 * suc (length labels) + 124) (label_room (length labels)) (join z
      (one z _ 96 pc i.0 i.1 (omega arith) (λ a. (f, word_small c, a.0.0))) (aimed z (λ a. (a.0.1, a.1)) (tests_within o labels places default i.0 pc2 f i.2)))
