-- The code of a program is sound and within its bounds: all of it.
use Rattle.std.proofs.Common.{◌≡◌, ℕ, zero, suc, ◌+◌, ◌*◌, ◌-◌, ◌/◌, ◌<◌, ◌≤◌, ◌^◌, Bool, max, List, [], ◌∷◌, length, map, Some, true, ◌&&◌, refl, sym, ap, ◌∙◌, subst, arith}
use Rattle.std.specs.Prelude.{nat_eq, nat_le, nat_lt, slice_get, sum_by}
use Rattle.std.proofs.Math.Nat.{le-max_left, le-max_right}
use Rattle.std.proofs.lemmas.Option.{slice_get_within}
use Rattle.std.proofs.lemmas.List.Sums.{sum_by-cons}
use Rattle.std.proofs.lemmas.Bool.Decides.{nat_tests}
use Rattle.tree.specs.Counts.{weight_of}
use Rattle.typing_spec.specs.Types.{elements_in}
use Rattle.typing_spec.specs.Program as typed
use Rattle.typing_spec.specs.Program.{Static}
use Rattle.typing_spec.specs.Nodes.{statement_nodes, typed_nodes}
use Rattle.typing_spec.specs.Units.{bytes_of_objects, bytes_of_references, numbers_in}
use Rattle.typing_spec.specs.WellTyped.{parameters_are_first, statement_is_typed, function_is_typed, functions_are_typed, values_fit, statics_are_typed}
use Rattle.tac_code.specs.declared.code.Instruction.{Instruction}
use Rattle.tac_code.specs.Code.{Function, Program, function_at, or_no_function, scalar_type}
use Rattle.tac_code.specs.Costs.{code_bytes, array_parameters, call_bytes}
use Rattle.tac_code.specs.Spans.{widest, own_bytes}
use Rattle.tac_code.specs.Sound.{IsScalar, InstructionFits, number_parameters, FunctionFits, data_bytes, IsSoundProgram}
use Rattle.tac_code.specs.Lowered.{kind_of, IsChecked, IsCodeOf}
use Rattle.lower_wf.specs.Asked.{bodies_are_asked, types_are_sized}
use Rattle.lower_correct.specs.Bodies.{temporaries_of, slots_of, IsFunctionFor, IsCodeFor}
use Rattle.lower_correct.proofs.Words.{left_true, right_true}
use Rattle.lower_correct.proofs.Program.{code_behaves}
use Rattle.lower_bounds.specs.inside.Rooms.{before}
use Rattle.lower_bounds.specs.Laws.{NamesAreThere, CodeIsSound, FunctionIsSound, CodeIsBounded, CodeIsLowered}
use Rattle.lower_bounds.proofs.Lists.{same_some, got_below, length_map}
use Rattle.lower_bounds.proofs.Grounds.{Ground, Fine}
use Rattle.lower_bounds.proofs.Stretches.{Within}
use Rattle.lower_bounds.proofs.Rows.{parts_are_small}
use Rattle.lower_bounds.proofs.Functions.{most_le, in_most, all_within, temporaries_le, slots_le, fits}
use Rattle.lower_bounds.proofs.Sizes.{widest_le, references, first_scalar, in_objects, objects_small, object_filled, stack_fits, bytes_le, length_le}

-- ---- numbers

same_le : (n : ℕ) → n ≤ n
same_le n = omega arith

nothing_below : (n : ℕ) → 0 ≤ n
nothing_below n = omega arith

le_trans : (a b c : ℕ) → a ≤ b → b ≤ c → a ≤ c
le_trans a b c x y = omega (arith, x, y)

le_holds : (a b : ℕ) → nat_le a b ≡ true → a ≤ b
le_holds a b h = grind (arith, nat_tests)

lt_holds : (a b : ℕ) → nat_lt a b ≡ true → a < b
lt_holds a b h = grind (arith, nat_tests)

one_on : (p q : ℕ) → p + 1 ≡ q → p < q
one_on p q e = omega (arith, e)

less_nodes : (w s n l : ℕ) → w ≤ s → s + l + 1 ≤ n → w ≤ n
less_nodes w s n l h g = omega (arith, h, g)

limit_is : (b c : ℕ) → b ≤ c → c ≤ 16777216 → b ≤ 2 ^ 24
limit_is b c h g = omega (arith, h, g)

bytes_fit : (c b l s n m : ℕ) → c ≤ b → b + (124 * suc l + (0 + (104 + 84))) ≤ 0 + 128 * (suc l + (s + (1 + 2))) → s + l + 1 ≤ n → m ≡ l → 4 * (42 + 6 * m) + c ≤ 128 * n + 1024
bytes_fit c b l s n m x h g e = omega (arith, x, h, g, e)

length_fits : (len b l s n m : ℕ) → 4 * len ≤ b → b + (124 * suc l + (0 + (104 + 84))) ≤ 0 + 128 * (suc l + (s + (1 + 2))) → s + l + 1 ≤ n → m ≡ l → n ≤ 8000 → len + (m + 1) ≤ 256020
length_fits len b l s n m x h g e k = omega (arith, x, h, g, e, k)

counts : (m s : ℕ) → m ≤ 16384 → s ≤ 256020 * m → m + s < 2 ^ 32
counts m s h g = omega (arith, h, g)

more : (s x t n : ℕ) → s ≡ x + t → x ≤ 256020 → t ≤ 256020 * n → s ≤ 256020 * suc n
more s x t n e h g = omega (arith, e, h, g)

is_short : (c n : ℕ) → c + (n + 1) ≤ 256020 → c < 2 ^ 32
is_short c n h = omega (arith, h)

sum_le : (size : Function → ℕ) (fs : List Function) → ((k : ℕ) (g : Function) → slice_get fs k ≡ Some g → size g ≤ 256020) → sum_by size fs ≤ 256020 * length fs
sum_le size [] each = omega arith
sum_le size (g ∷ fs) each = more (sum_by size (g ∷ fs)) (size g) (sum_by size fs) (length fs) (sum_by-cons size g fs) (each zero g refl) (sum_le size fs (λ k x e. each (suc k) x e))

-- ---- typed items

function_typed : (p : typed.Program) (fs : List typed.Function) (k : ℕ) (f : typed.Function) → functions_are_typed p fs ≡ true → slice_get fs k ≡ Some f → function_is_typed p f ≡ true
function_typed p [] k f h e = absurd (let no_such : ⊥ = cc in no_such)
function_typed p (x ∷ fs) zero f h e = subst (λ y. function_is_typed p y ≡ true) (same_some x f e) (left_true (function_is_typed p x) (functions_are_typed p fs) h)
function_typed p (x ∷ fs) (suc k) f h e = function_typed p fs k f (right_true (function_is_typed p x) (functions_are_typed p fs) h) e

static_typed : (os : List Static) (n : ℕ) (o : Static) → statics_are_typed os ≡ true → slice_get os n ≡ Some o → values_fit o.type.element o.values ≡ true
static_typed [] n o h e = absurd (let no_such : ⊥ = cc in no_such)
static_typed (x ∷ os) zero o h e =
    subst (λ y. values_fit y.type.element y.values ≡ true) (same_some x o e)
    (left_true (values_fit x.type.element x.values) (statics_are_typed os) (right_true (nat_le (length x.values) (elements_in x.type.lengths)) (values_fit x.type.element x.values && statics_are_typed os) h))
static_typed (x ∷ os) (suc n) o h e =
    static_typed os n o (right_true (values_fit x.type.element x.values) (statics_are_typed os) (right_true (nat_le (length x.values) (elements_in x.type.lengths)) (values_fit x.type.element x.values && statics_are_typed os) h)) e

module _ (p : typed.Program) (checked : IsChecked p) where
  parts : (functions_are_typed p p.functions ≡ true) × (statics_are_typed p.statics ≡ true) × (nat_lt p.main (length p.functions) ≡ true)
  parts =
      let h = checked.well_typed in
      let rest = right_true (functions_are_typed p p.functions) (statics_are_typed p.statics && nat_lt p.main (length p.functions)) h in (
        left_true (functions_are_typed p p.functions) (statics_are_typed p.statics && nat_lt p.main (length p.functions)) h,
        left_true (statics_are_typed p.statics) (nat_lt p.main (length p.functions)) rest,
        right_true (statics_are_typed p.statics) (nat_lt p.main (length p.functions)) rest,
      )

  -- ---- one function

  module _ (q : Program) (there : NamesAreThere p q) (k : ℕ) (f : typed.Function) (g : Function) (ef : slice_get p.functions k ≡ Some f) (is_main : Bool) (made : IsFunctionFor p q is_main f g) where
    typed_parts : (typed_nodes f ≤ f.nodes) × (f.weight ≤ 16777216) × (parameters_are_first f.type.parameters f.objects ≡ true)
        × (statement_is_typed p f (numbers_in f.type.parameters) (length f.objects) f.body ≡ true)
    typed_parts =
        let a = nat_le (typed_nodes f) f.nodes in
        let b = nat_le f.weight 16777216 in
        let c = parameters_are_first f.type.parameters f.objects in
        let d = statement_is_typed p f (numbers_in f.type.parameters) (length f.objects) f.body in
        let h = function_typed p p.functions k f parts.0 ef in
        let h2 = right_true a (b && (c && d)) h in
        let h3 = right_true b (c && d) h2 in
        (le_holds (typed_nodes f) f.nodes (left_true a (b && (c && d)) h), le_holds f.weight 16777216 (left_true b (c && d) h2), left_true c d h3, right_true c d h3)

    abbrev ground : Ground
    ground = record {
      source = p;
      function = f;
      made = q;
      code = g.code;
      limit = made.back;
      bound = max 8 (widest f.body + 1);
      slots = widest f.body + 1;
      fewer = le-max_right 8 (widest f.body + 1);
      registers = le-max_left 8 (widest f.body + 1);
      callees = there.callees;
      sized = λ at array index h. parts_are_small p k f ef h at array index;
      filled = λ n o e. object_filled o (bytes_of_objects f.objects) ((checked.each k f ef).sized n o e) (in_objects f.objects n o e)
          (objects_small (bytes_of_references f.type.parameters) (bytes_of_objects f.objects) f.nodes f.weight (checked.each k f ef).weight typed_parts.1);
    }

    some_registers : 1 ≤ max 8 (widest f.body + 1)
    some_registers = le_trans 1 8 (max 8 (widest f.body + 1)) (let e : 1 ≤ 8 = omega arith in e) (le-max_left 8 (widest f.body + 1))

    whole : Within ground (Unit {0}) (suc (length f.type.parameters) + (statement_nodes f.body + (1 + 2))) (124 * suc (length f.type.parameters) + (0 + (104 + 84))) 0 (length g.code)
    whole = all_within ground (suc (length f.type.parameters)) made.start made.end made.back (length g.code) (numbers_in f.type.parameters) is_main
        (same_le made.back) typed_parts.3 (checked.each k f ef).defined (same_le (widest f.body + 1))
        some_registers made.idles made.body made.closes made.leaves

    each_fine : (j : ℕ) (x : Instruction) → slice_get g.code j ≡ Some x → Fine ground x
    each_fine j x e = whole.each tt j x (nothing_below j) (slice_get_within g.code j x e) e

    temporaries_few : g.temporaries ≤ max 8 (widest f.body + 1)
    temporaries_few = subst (λ n. n ≤ max 8 (widest f.body + 1)) (sym made.temporaries)
        (most_le (temporaries_of q) g.code (max 8 (widest f.body + 1)) (λ j x e. temporaries_le ground x some_registers (each_fine j x e)))

    slots_few : g.kept ≤ widest f.body + 1
    slots_few = subst (λ n. n ≤ widest f.body + 1) (sym made.kept) (most_le slots_of g.code (widest f.body + 1) (λ j x e. slots_le ground x (each_fine j x e)))

    stack : (n : ℕ) → widest f.body ≤ n → call_bytes g ≤ weight_of n (own_bytes f)
    stack n h =
        subst (λ ps. (4 * (g.temporaries - 8) + (8 + (4 * g.kept + (4 * array_parameters ps + bytes_of_objects g.objects))) + 15) / 16 * 16 ≤ weight_of n (own_bytes f)) (sym made.parameters)
        (subst (λ os. (4 * (g.temporaries - 8) + (8 + (4 * g.kept + (4 * array_parameters (map kind_of f.type.parameters) + bytes_of_objects os))) + 15) / 16 * 16 ≤ weight_of n (own_bytes f)) (sym made.objects)
        (stack_fits g.temporaries g.kept (array_parameters (map kind_of f.type.parameters)) (bytes_of_references f.type.parameters) (bytes_of_objects f.objects) (widest f.body) n
        temporaries_few slots_few (references f.type.parameters) h))

    parameters_same : length g.parameters ≡ length f.type.parameters
    parameters_same = ap length made.parameters ∙ length_map kind_of f.type.parameters

    bounded : IsCodeOf f g
    bounded = record {
      objects = made.objects;
      parameters = made.parameters;
      result = made.result;
      within_weight = subst (λ w. call_bytes g ≤ w) (sym (checked.each k f ef).weight)
          (stack f.nodes (less_nodes (widest f.body) (statement_nodes f.body) f.nodes (length f.type.parameters) (widest_le f.body) typed_parts.0));
      within_span = stack (widest f.body) (same_le (widest f.body));
      code = bytes_fit (sum_by code_bytes g.code) (before g.code (length g.code)) (length f.type.parameters) (statement_nodes f.body) f.nodes (length g.parameters)
          (bytes_le g.code) whole.room typed_parts.0 parameters_same;
    }

    short : length g.code + (length g.parameters + 1) ≤ 256020
    short = length_fits (length g.code) (before g.code (length g.code)) (length f.type.parameters) (statement_nodes f.body) f.nodes (length g.parameters)
        (length_le g.code) whole.room typed_parts.0 parameters_same (checked.each k f ef).nodes

    instruction_fits : types_are_sized p ≡ true → (j : ℕ) (x : Instruction) → slice_get g.code j ≡ Some x → InstructionFits q g x
    instruction_fits sized j x e = fits ground g made.objects made.parameters there.literals there.statics sized
        (one_on made.back (length g.code) made.leaves.next) x
        (each_fine j x e)
        (subst (λ n. temporaries_of q x ≤ n) (sym made.temporaries) (in_most (temporaries_of q) g.code j x e))
        (subst (λ n. slots_of x ≤ n) (sym made.kept) (in_most slots_of g.code j x e))

    parameter_scalar : (n : ℕ) → n < number_parameters g.parameters → IsScalar g n
    parameter_scalar n lt =
        let s = first_scalar f.type.parameters f.objects n typed_parts.2 (subst (λ ps. n < number_parameters ps) made.parameters lt) in
        (s.0, ap (λ l. scalar_type (slice_get l n)) made.objects ∙ s.1)

    function_fits : types_are_sized p ≡ true → FunctionFits q g
    function_fits sized = record {
      small = limit_is (call_bytes g) f.weight bounded.within_weight typed_parts.1;
      parameters = parameter_scalar;
      sized = λ n o e. (checked.each k f ef).sized n o (subst (λ l. slice_get l n ≡ Some o) made.objects e);
      each = instruction_fits sized;
    }

-- ---- all functions

module _ (p : typed.Program) (q : Program) (checked : IsChecked p) (code : IsCodeFor p q) where
  callees : (n : ℕ) (f : typed.Function) → slice_get p.functions n ≡ Some f → (n < length q.functions) × (length (function_at q n).parameters ≡ length f.type.parameters)
  callees n f e =
      let lt : n < length q.functions = subst (λ l. n < l) (sym code.count) (slice_get_within p.functions n f e) in
      let there = got_below q.functions n lt in
      (lt, ap (λ o. length (or_no_function o).parameters) there.is ∙ (ap length (code.each n f there.element e there.is).parameters ∙ length_map kind_of f.type.parameters))

  there : NamesAreThere p q
  there = record { literals = code.literals; statics = code.statics; callees = callees }

  source_of : (k : ℕ) (g : Function) → slice_get q.functions k ≡ Some g → k < length p.functions
  source_of k g e = subst (λ l. k < l) code.count (slice_get_within q.functions k g e)

  main_there : q.main < length q.functions
  main_there = subst (λ n. q.main < n) (sym code.count) (subst (λ n. n < length p.functions) (sym code.main) (lt_holds p.main (length p.functions) (parts p checked).2))

  main_bare : (function_at q p.main).parameters ≡ []
  main_bare =
      let f = got_below p.functions p.main (lt_holds p.main (length p.functions) (parts p checked).2) in
      let g = got_below q.functions p.main (callees p.main f.element f.is).0 in
      ap (λ o. (or_no_function o).parameters) g.is ∙ ((code.each p.main f.element g.element f.is g.is).parameters ∙ ap (map kind_of) (checked.main_takes_nothing f.element f.is))

  sound : types_are_sized p ≡ true → IsSoundProgram q
  sound sized = record {
    has_main = main_there;
    main_takes_nothing = ap (λ n. (function_at q n).parameters) code.main ∙ main_bare;
    each = λ k g e. let f = got_below p.functions k (source_of k g e) in function_fits p checked q there k f.element g f.is (nat_eq k p.main) (code.each k f.element g f.is e) sized;
    literals = λ n text e. checked.literals n text (subst (λ l. slice_get l n ≡ Some text) code.literals e);
    statics = λ n o e. static_typed p.statics n o (parts p checked).1 (subst (λ l. slice_get l n ≡ Some o) code.statics e);
    small = subst (λ l. data_bytes l q.statics ≤ 2 ^ 24) (sym code.literals) (subst (λ s. data_bytes p.literals s ≤ 2 ^ 24) (sym code.statics) checked.small);
    countable = counts (length q.functions) (sum_by (λ f. length f.code + (length f.parameters + 1)) q.functions) (subst (λ n. n ≤ 16384) (sym code.count) checked.few)
        (sum_le (λ f. length f.code + (length f.parameters + 1)) q.functions (λ k g e. let f = got_below p.functions k (source_of k g e) in short p checked q there k f.element g f.is (nat_eq k p.main) (code.each k f.element g f.is e)));
  }

pub code_is_sound : CodeIsSound
code_is_sound p q checked sized code = sound p q checked code sized

pub function_is_sound : FunctionIsSound
function_is_sound p q checked sized there k f g ef is_main made = (function_fits p checked q there k f g ef is_main made sized, is_short (length g.code) (length g.parameters) (short p checked q there k f g ef is_main made))

pub code_is_bounded : CodeIsBounded
code_is_bounded p q checked code k f g ef eg = bounded p checked q (there p q checked code) k f g ef (nat_eq k p.main) (code.each k f g ef eg)

pub code_is_lowered : CodeIsLowered
code_is_lowered p q checked asked code = record {
  sound = sound p q checked code (right_true (bodies_are_asked p) (types_are_sized p) asked);
  behaves = λ input bytes. code_behaves p q input checked asked code bytes;
  literals = code.literals;
  statics = code.statics;
  main = code.main;
  count = code.count;
  each = code_is_bounded p q checked code;
}
