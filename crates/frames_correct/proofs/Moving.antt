-- Arguments are moved into their places as a call begins.
use Rattle.std.proofs.Common.{◌≡◌, ◌≢◌, ℕ, zero, suc, ◌+◌, ◌*◌, ◌<◌, ◌≤◌, List, [], ◌∷◌, length, Option, Some, None, true, false, refl, sym, ap, ◌∙◌, subst, arith}
use Rattle.std.specs.Prelude.{slice_get, nat_lt, ℤ, if◌then◌else◌}
use Rattle.std.proofs.lemmas.Bool.Decides.{nat_tests}
use Rattle.ctypes.specs.declared.types.IntType.{IntType}
use Rattle.typing_spec.specs.Types.{ObjectType}
use Rattle.csem.specs.Store.{Tree, Element, Reference, value_of}
use Rattle.tac_code.specs.declared.code.Parameter.{Parameter}
use Rattle.tac_code.specs.declared.code.Parameter.TheVariants as parameter
use Rattle.tac_code.specs.Code.{scalar_type}
use Rattle.tac_code.specs.Run.{Values, word, reference, word_in, reference_in, word_for, number_of, is_word_of, and_then, number_object, numbers_in, arrays_in}
use Rattle.frames_code.specs.declared.code.Operand.{Operand}
use Rattle.frames_code.specs.declared.code.Operand.TheVariants as source
use Rattle.frames_code.specs.declared.code.Target.{Target}
use Rattle.frames_code.specs.declared.code.Target.TheVariants as into
use Rattle.frames_code.specs.declared.code.Instruction.{Instruction}
use Rattle.frames_code.specs.declared.code.Instruction.TheVariants as instruction
use Rattle.frames_code.specs.Code.{Program}
use Rattle.frames_code.specs.Costs.{spent, cost_if, cost_on, next_of}
use Rattle.frames_code.specs.Run as flat
use Rattle.frames_code.specs.Run.{State, Progress, running, function_at, step, act, run, goes_on, entered, active, ◌>>=◌}
use Rattle.frames.specs.Layout.{Layout, cell_in}
use Rattle.frames.specs.Translated.{argument, moves_from}
use Rattle.frames_correct.specs.Matched.{Spot, AllShow, Shows, shown}
use Rattle.frames_correct.proofs.Lists.{same_some, bool_cases}
use Rattle.frames_correct.proofs.Bytes.{set_here, set_elsewhere}
use Rattle.frames_correct.proofs.Values.{word_known, reference_known}

-- ---- one step

pub step_is : (p : Program) (s : State) (x : Instruction) → slice_get (function_at p s.frame.function).code s.frame.at ≡ Some x → step p s ≡ act p s x
unfolding step
step_is p s x e = ap (λ o. o >>= act p s) e

-- a call of g that has made `at` moves
abbrev pub moving : State → ℕ → ℕ → flat.Values → State
moving s g at cells = record (entered s g) { frame = record { function = g; at = at; cells = cells; area = flat.unset } }

argument_is : (s : State) (g at k : ℕ) (cells : flat.Values) → flat.value (moving s g at cells) (argument k) ≡ s.temporaries k
argument_is s g at k cells =
    bool_cases (nat_lt k 8)
    (λ t. ap (λ b. flat.value (moving s g at cells) (if b then source.Temporary k else source.Argument k)) t ∙ ap (λ b. if b then s.temporaries k else None) t)
    (λ t. ap (λ b. flat.value (moving s g at cells) (if b then source.Temporary k else source.Argument k)) t ∙ ap (λ b. if b then None else s.temporaries k) t)

move_step : (p : Program) (s : State) (g at c k : ℕ) (cells : flat.Values) (v : flat.Value) → slice_get (function_at p g).code at ≡ Some (instruction.Move (into.Cell c) (argument k)) → s.temporaries k ≡ Some v
    → step p (moving s g at cells) ≡ running (moving s g (at + 1) (flat.with_at cells c v))
move_step p s g at c k cells v e ev =
    let there : State = moving s g at cells in
    step_is p there (instruction.Move (into.Cell c) (argument k)) e ∙ ap (λ (o : Option flat.Value). o >>= λ u. running (flat.set (into.Cell c) u (flat.past there))) (argument_is s g at k cells ∙ ev)

-- ---- all of them

abbrev pub home : Layout → ℕ → ℕ
home l i = cell_in (slice_get l.homes i)

pub record IsAtMove (p : Program) (u : State) : Type 0 where
  pub to : Target
  pub from : Operand
  pub is : next_of p u ≡ Some (instruction.Move to from)

pub record Moved (p : Program) (s : State) (xs : List Spot) (g : ℕ) (l : Layout) (k n m count : ℕ) (numbers : List Tree) (arrays : List Reference) (cells : flat.Values) : Type 0 where
  pub cells2 : flat.Values
  pub runs : run p count (moving s g k cells) ≡ running (moving s g (k + count) cells2)
  pub spends : spent p count (moving s g k cells) ≡ 6 * count
  pub within : (j : ℕ) (u : State) → j ≤ count → run p j (moving s g k cells) ≡ running u → active u ≡ g ∷ active s
  pub moves : (j : ℕ) (u : State) → j < count → run p j (moving s g k cells) ≡ running u → IsAtMove p u
  pub objects : (i : ℕ) (z : ℤ) → value_of (slice_get numbers i) ≡ Some z → cells2 (home l (n + i)) ≡ Some (flat.word (word_for z))
  pub references : (i : ℕ) (r : Reference) → slice_get arrays i ≡ Some r → Shows xs (reference r) (cells2 (l.references + (m + i)))
  pub keeps : (c : ℕ) → ((i : ℕ) → i < length numbers → c ≢ home l (n + i)) → ((i : ℕ) → i < length arrays → c ≢ l.references + (m + i)) → cells2 c ≡ cells c

-- a number or a reference that is moved
pub record Joined {A : Type 0} (o : Option A) (rest : Option (List A)) (all : List A) : Type 0 where
  pub head : A
  pub tail : List A
  pub head_is : o ≡ Some head
  pub tail_is : rest ≡ Some tail
  pub is : head ∷ tail ≡ all

pub joined : {A : Type 0} (o : Option A) (rest : Option (List A)) (all : List A) → and_then o rest ≡ Some all → Joined o rest all
joined None rest all e = absurd (let z : ⊥ = cc in z)
joined (Some x) None all e = absurd (let z : ⊥ = cc in z)
joined (Some x) (Some xs) all e = record { head = x; tail = xs; head_is = refl; tail_is = refl; is = same_some (x ∷ xs) all e }

pub record IsNumber (o : Option IntType) (w : Option ℕ) (tree : Tree) : Type 0 where
  pub type : IntType
  pub number : ℕ
  pub type_is : o ≡ Some type
  pub number_is : w ≡ Some number
  pub word : is_word_of type number ≡ true
  pub is : Element (Some (number_of type number)) ≡ tree

pub is_number : (o : Option IntType) (w : Option ℕ) (tree : Tree) → number_object o w ≡ Some tree → IsNumber o w tree
is_number None w tree e = absurd (let z : ⊥ = cc in z)
is_number (Some t) None tree e = absurd (let z : ⊥ = cc in z)
is_number (Some t) (Some w) tree e =
    bool_cases (is_word_of t w)
    (λ b.
    let now : Some (Element (Some (number_of t w))) ≡ Some tree = sym (if_true b) ∙ e in
    record { type = t; number = w; type_is = refl; number_is = refl; word = b; is = same_some (Element (Some (number_of t w))) tree now })
    (λ b. let none : None ≡ Some tree = sym (if_false b) ∙ e in absurd (let z : ⊥ = cc in z))
  where
    if_true : is_word_of t w ≡ true → number_object (Some t) (Some w) ≡ Some (Element (Some (number_of t w)))
    if_true b = ap (λ c. if c then Some (Element (Some (number_of t w))) else None) b

    if_false : is_word_of t w ≡ false → number_object (Some t) (Some w) ≡ None
    if_false b = ap (λ c. if c then Some (Element (Some (number_of t w))) else None) b

module _ (p : Program) (s : State) (xs : List Spot) (g : ℕ) (l : Layout) (bound : ℕ) (apart : (i j : ℕ) → i < j → j < bound → home l i < home l j) (low : (i : ℕ) → i < bound → home l i < l.references) where
  -- one move in front of the others
  first_runs : (c k count : ℕ) (cells cells2 : flat.Values) (v : flat.Value) → step p (moving s g k cells) ≡ running (moving s g (k + 1) (flat.with_at cells c v)) → run p count (moving s g (k + 1) (flat.with_at cells c v)) ≡ running (moving s g (k + 1 + count) cells2)
      → run p (suc count) (moving s g k cells) ≡ running (moving s g (k + suc count) cells2)
  first_runs c k count cells cells2 v e h =
      ap (λ r. goes_on r (run p count)) e ∙ (h ∙ ap (λ i. running (moving s g i cells2)) (let sum : k + 1 + count ≡ k + suc count = omega arith in sum))

  first_spends : (c k count : ℕ) (cells : flat.Values) (v : flat.Value) (x : Instruction) → slice_get (function_at p g).code k ≡ Some (instruction.Move (into.Cell c) (argument k)) → step p (moving s g k cells) ≡ running (moving s g (k + 1) (flat.with_at cells c v))
      → spent p count (moving s g (k + 1) (flat.with_at cells c v)) ≡ 6 * count → spent p (suc count) (moving s g k cells) ≡ 6 * suc count
  first_spends c k count cells v x ec e h =
      let one : cost_if (next_of p (moving s g k cells)) ≡ 6 = ap cost_if ec in
      let more : cost_on (step p (moving s g k cells)) (spent p count) ≡ 6 * count = ap (λ r. cost_on r (spent p count)) e ∙ h in
      omega (arith, one, more)

  first_within : (c k count : ℕ) (cells : flat.Values) (v : flat.Value) → step p (moving s g k cells) ≡ running (moving s g (k + 1) (flat.with_at cells c v))
      → ((j : ℕ) (u : State) → j ≤ count → run p j (moving s g (k + 1) (flat.with_at cells c v)) ≡ running u → active u ≡ g ∷ active s) → (j : ℕ) (u : State) → j ≤ suc count → run p j (moving s g k cells) ≡ running u → active u ≡ g ∷ active s
  first_within c k count cells v e h zero u le eu = let same : moving s g k cells ≡ u = same_state (moving s g k cells) u eu in ap active (sym same)
    where
      same_state : (a b : State) → running a ≡ running b → a ≡ b
      same_state a b e = cc
  first_within c k count cells v e h (suc j) u le eu = h j u (omega (arith, le)) (sym (ap (λ r. goes_on r (run p j)) e) ∙ eu)

  first_moves : (c k count : ℕ) (cells : flat.Values) (v : flat.Value) → slice_get (function_at p g).code k ≡ Some (instruction.Move (into.Cell c) (argument k)) → step p (moving s g k cells) ≡ running (moving s g (k + 1) (flat.with_at cells c v))
      → ((j : ℕ) (u : State) → j < count → run p j (moving s g (k + 1) (flat.with_at cells c v)) ≡ running u → IsAtMove p u) → (j : ℕ) (u : State) → j < suc count → run p j (moving s g k cells) ≡ running u → IsAtMove p u
  first_moves c k count cells v ec e h zero u lt eu = let same : moving s g k cells ≡ u = same_state (moving s g k cells) u eu in subst (IsAtMove p) same (record { to = into.Cell c; from = argument k; is = ec })
    where
      same_state : (a b : State) → running a ≡ running b → a ≡ b
      same_state a b e = cc
  first_moves c k count cells v ec e h (suc j) u lt eu = h j u (omega (arith, lt)) (sym (ap (λ r. goes_on r (run p j)) e) ∙ eu)

  number_first : (k n m count w : ℕ) (ty : IntType) (numbers : List Tree) (arrays : List Reference) (cells : flat.Values) → slice_get (function_at p g).code k ≡ Some (instruction.Move (into.Cell (home l n)) (argument k)) → s.temporaries k ≡ Some (flat.word w) → is_word_of ty w ≡ true → n + suc (length numbers) ≤ bound
      → Moved p s xs g l (k + 1) (n + 1) m count numbers arrays (flat.with_at cells (home l n) (flat.word w)) → Moved p s xs g l k n m (suc count) (Element (Some (number_of ty w)) ∷ numbers) arrays cells
  number_first k n m count w ty numbers arrays cells ec ew eword room h =
      let one = move_step p s g k (home l n) k cells (flat.word w) ec ew in
      let is : word_for (number_of ty w) ≡ w = grind (arith, nat_tests) in
      let kept : h.cells2 (home l n) ≡ Some (flat.word w) =
      h.keeps (home l n) (λ i lt e. omega (arith, e, apart n (n + 1 + i) (omega arith) (omega (arith, lt, room)))) (λ i lt e. omega (arith, e, low n (omega (arith, room))))
      ∙ set_here cells (home l n) (flat.word w) in
      record {
        cells2 = h.cells2;
        runs = first_runs (home l n) k count cells h.cells2 (flat.word w) one h.runs;
        spends = first_spends (home l n) k count cells (flat.word w) instruction.Nothing ec one h.spends;
        within = first_within (home l n) k count cells (flat.word w) one h.within;
        moves = first_moves (home l n) k count cells (flat.word w) ec one h.moves;
        objects = by_place kept is h.objects;
        references = h.references;
        keeps = λ c no_object no_reference.
            let more = h.keeps c (λ i lt e. no_object (suc i) (omega (arith, lt)) (e ∙ ap (home l) (let sum : n + 1 + i ≡ n + suc i = omega arith in sum))) no_reference in
            more ∙ set_elsewhere cells (home l n) (flat.word w) c (λ e. no_object 0 (omega arith) (e ∙ ap (home l) (let sum : n ≡ n + 0 = omega arith in sum)));
      }
    where
      by_place : h.cells2 (home l n) ≡ Some (flat.word w) → word_for (number_of ty w) ≡ w → ((i : ℕ) (z : ℤ) → value_of (slice_get numbers i) ≡ Some z → h.cells2 (home l (n + 1 + i)) ≡ Some (flat.word (word_for z)))
          → (i : ℕ) (z : ℤ) → value_of (slice_get (Element (Some (number_of ty w)) ∷ numbers) i) ≡ Some z → h.cells2 (home l (n + i)) ≡ Some (flat.word (word_for z))
      by_place kept is old zero z e =
          ap (λ i. h.cells2 (home l i)) (let sum : n + 0 ≡ n = omega arith in sum) ∙ (kept ∙ ap (λ i. Some (flat.word i)) (sym is ∙ ap word_for (same_some (number_of ty w) z e)))
      by_place kept is old (suc i) z e = ap (λ j. h.cells2 (home l j)) (let sum : n + suc i ≡ n + 1 + i = omega arith in sum) ∙ old i z e

  array_first : (k n m count : ℕ) (r : Reference) (numbers : List Tree) (arrays : List Reference) (cells : flat.Values) → slice_get (function_at p g).code k ≡ Some (instruction.Move (into.Cell (l.references + m)) (argument k)) → Shows xs (reference r) (s.temporaries k) → n + length numbers ≤ bound
      → Moved p s xs g l (k + 1) n (m + 1) count numbers arrays (flat.with_at cells (l.references + m) (shown xs (reference r))) → Moved p s xs g l k n m (suc count) numbers (r ∷ arrays) cells
  array_first k n m count r numbers arrays cells ec er room h =
      let v = shown xs (reference r) in
      let one = move_step p s g k (l.references + m) k cells v ec er.1 in
      let kept : h.cells2 (l.references + m) ≡ Some v =
      h.keeps (l.references + m) (λ i lt e. omega (arith, e, low (n + i) (omega (arith, lt, room)))) (λ i lt e. omega (arith, e)) ∙ set_here cells (l.references + m) v in
      record {
        cells2 = h.cells2;
        runs = first_runs (l.references + m) k count cells h.cells2 v one h.runs;
        spends = first_spends (l.references + m) k count cells v instruction.Nothing ec one h.spends;
        within = first_within (l.references + m) k count cells v one h.within;
        moves = first_moves (l.references + m) k count cells v ec one h.moves;
        objects = h.objects;
        references = by_place kept h.references;
        keeps = λ c no_object no_reference.
            let more = h.keeps c no_object (λ i lt e. no_reference (suc i) (omega (arith, lt)) (omega (arith, e))) in
            more ∙ set_elsewhere cells (l.references + m) v c (λ e. no_reference 0 (omega arith) (omega (arith, e)));
      }
    where
      by_place : h.cells2 (l.references + m) ≡ Some (shown xs (reference r)) → ((i : ℕ) (r2 : Reference) → slice_get arrays i ≡ Some r2 → Shows xs (reference r2) (h.cells2 (l.references + (m + 1 + i))))
          → (i : ℕ) (r2 : Reference) → slice_get (r ∷ arrays) i ≡ Some r2 → Shows xs (reference r2) (h.cells2 (l.references + (m + i)))
      by_place kept old zero r2 e =
          let same : r ≡ r2 = same_some r r2 e in
          subst (λ z. Shows xs (reference z) (h.cells2 (l.references + (m + 0)))) same (er.0, ap (λ i. h.cells2 i) (let sum : l.references + (m + 0) ≡ l.references + m = omega arith in sum) ∙ kept)
      by_place kept old (suc i) r2 e = subst (λ j. Shows xs (reference r2) (h.cells2 (l.references + j))) (let sum : m + 1 + i ≡ m + suc i = omega arith in sum) (old i r2 e)

  module _ (values : Values) (shows : AllShow xs values s.temporaries) where
    -- the code of the moves is placed from k on
    abbrev Stand : (k n m : ℕ) → List Parameter → Type 0
    Stand k n m ps = (i : ℕ) (x : Instruction) → slice_get (moves_from l k n m ps) i ≡ Some x → slice_get (function_at p g).code (k + i) ≡ Some x

    first_stands : (k : ℕ) (x : Instruction) (rest : List Instruction) → ((i : ℕ) (y : Instruction) → slice_get (x ∷ rest) i ≡ Some y → slice_get (function_at p g).code (k + i) ≡ Some y) → slice_get (function_at p g).code k ≡ Some x
    first_stands k x rest h = ap (slice_get (function_at p g).code) (let sum : k ≡ k + 0 = omega arith in sum) ∙ h 0 x refl

    rest_stands : (k : ℕ) (x : Instruction) (rest : List Instruction) → ((i : ℕ) (y : Instruction) → slice_get (x ∷ rest) i ≡ Some y → slice_get (function_at p g).code (k + i) ≡ Some y) → (i : ℕ) (y : Instruction) → slice_get rest i ≡ Some y → slice_get (function_at p g).code (k + 1 + i) ≡ Some y
    rest_stands k x rest h i y e = ap (slice_get (function_at p g).code) (let sum : k + 1 + i ≡ k + suc i = omega arith in sum) ∙ h (suc i) y e

    next_one : (k : ℕ) → suc k ≡ k + 1
    next_one k = omega arith

    pub moves : (ps : List Parameter) (os : List ObjectType) (k n m : ℕ) (numbers : List Tree) (arrays : List Reference) (cells : flat.Values) → numbers_in ps os values k ≡ Some numbers → arrays_in ps values k ≡ Some arrays → n + length numbers ≤ bound → Stand k n m ps
        → Moved p s xs g l k n m (length ps) numbers arrays cells
    moves [] os k n m numbers arrays cells en ea room stand = record {
      cells2 = cells;
      runs = ap (λ i. running (moving s g i cells)) (let sum : k ≡ k + 0 = omega arith in sum);
      spends = refl;
      within = none_within;
      moves = λ j u lt e. absurd (omega (arith, lt));
      objects = λ i z e. let none : [] ≡ numbers = same_some [] numbers en in absurd (no_value i z (ap (λ ns. value_of (slice_get ns i)) none ∙ e));
      references = λ i r e. let none : [] ≡ arrays = same_some [] arrays ea in absurd (no_reference i r (ap (λ rs. slice_get rs i) none ∙ e));
      keeps = λ c no_object no_reference. refl;
    }
      where
        none_within : (j : ℕ) (u : State) → j ≤ 0 → run p j (moving s g k cells) ≡ running u → active u ≡ g ∷ active s
        none_within zero u le e = let same : moving s g k cells ≡ u = same_state (moving s g k cells) u e in ap active (sym same)
          where
            same_state : (a b : State) → running a ≡ running b → a ≡ b
            same_state a b e2 = cc
        none_within (suc j) u le e = absurd (omega (arith, le))

        no_value : (i : ℕ) (z : ℤ) → value_of (slice_get [] i) ≡ Some z → ⊥
        no_value i z e = cc

        no_reference : (i : ℕ) (r : Reference) → slice_get [] i ≡ Some r → ⊥
        no_reference i r e = cc
    moves (parameter.Array ∷ ps) os k n m numbers arrays cells en ea room stand =
        let j = joined (reference_in (values k)) (arrays_in ps values (suc k)) arrays ea in
        let there = shows k (reference j.head) (reference_known (values k) j.head j.head_is) in
        let x = instruction.Move (into.Cell (l.references + m)) (argument k) in
        let more = moves ps os (k + 1) n (m + 1) numbers j.tail (flat.with_at cells (l.references + m) (shown xs (reference j.head))) (ap (numbers_in ps os values) (sym (next_one k)) ∙ en) (ap (arrays_in ps values) (sym (next_one k)) ∙ j.tail_is) room
        (rest_stands k x (moves_from l (k + 1) n (m + 1) ps) stand) in
        subst (λ rs. Moved p s xs g l k n m (suc (length ps)) numbers rs cells) j.is
        (array_first k n m (length ps) j.head numbers j.tail cells (first_stands k x (moves_from l (k + 1) n (m + 1) ps) stand) there room more)
    moves (parameter.Number ∷ ps) [] k n m numbers arrays cells en ea room stand = absurd (let z : ⊥ = cc in z)
    moves (parameter.Number ∷ ps) (o ∷ os) k n m numbers arrays cells en ea room stand =
        let j = joined (number_object (scalar_type (Some o)) (word_in (values k))) (numbers_in ps os values (suc k)) numbers en in
        let w = is_number (scalar_type (Some o)) (word_in (values k)) j.head j.head_is in
        let there = shows k (word w.number) (word_known (values k) w.number w.number_is) in
        let x = instruction.Move (into.Cell (home l n)) (argument k) in
        let size : length numbers ≡ suc (length j.tail) = ap length (sym j.is) in
        let more = moves ps os (k + 1) (n + 1) m j.tail arrays (flat.with_at cells (home l n) (flat.word w.number)) (ap (numbers_in ps os values) (sym (next_one k)) ∙ j.tail_is) (ap (arrays_in ps values) (sym (next_one k)) ∙ ea) (omega (arith, size, room))
        (rest_stands k x (moves_from l (k + 1) (n + 1) m ps) stand) in
        subst (λ ns. Moved p s xs g l k n m (suc (length ps)) ns arrays cells) (ap (λ z. z ∷ j.tail) w.is ∙ j.is)
        (number_first k n m (length ps) w.number w.type j.tail arrays cells (first_stands k x (moves_from l (k + 1) (n + 1) m ps) stand) there.1 w.word (omega (arith, size, room)) more)
