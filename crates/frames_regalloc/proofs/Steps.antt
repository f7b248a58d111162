-- Each step of a renumbered program is that of the program.
use Rattle.std.proofs.Common.{◌≡◌, ℕ, zero, suc, ◌+◌, ◌*◌, ◌%◌, ◌^◌, List, [], ◌∷◌, map, Option, Some, None, Bool, true, false, refl, ap, ◌∙◌}
use Rattle.std.specs.Prelude.{if◌then◌else◌, slice_get, option_map}
use Rattle.std.proofs.lemmas.Option.{slice_get-map}
use Rattle.rv32.specs.Arithmetic.{compare_of}
use Rattle.frames_code.specs.declared.code.Operand.TheVariants as operand
use Rattle.frames_code.specs.declared.code.Target.{Target}
use Rattle.frames_code.specs.declared.code.Width.{Width}
use Rattle.frames_code.specs.declared.code.Instruction.{Instruction}
use Rattle.frames_code.specs.declared.code.Instruction.TheVariants as instruction
use Rattle.frames_code.specs.Code.{Function, Program}
use Rattle.frames_code.specs.Costs.{entry_cost_of, cost_in, cost_in_if, cost_on, next_of, spent_in}
use Rattle.frames_code.specs.Run.{Value, Frame, State, Reference, Progress, running, ended, stuck, word, reference, value, word_at, word_in, reference_in, set, next, past, goes_to, place, memory, with_memory, with_element, element_in, fits, gives, gives_word, operate, converted, loaded, stored, put, got, result_if, result_of, returned, act, step, run, start, goes_on, function_at, unset, ◌>>=◌}
use Rattle.frames_regalloc.specs.Renumbered.{renumbered, renumbered_operand, renumbered_target, renumbered_location}
use Rattle.frames_regalloc.specs.Laws.{moved_frame, moved, moved_progress}
use Rattle.frames_regalloc.proofs.Words.{Alike, value_same, place_same, target_set, memory_same, memory_put}

module _ (from : ℕ → ℕ → ℕ) where
  bound : {A : Type 0} (o : Option A) (go2 go : A → Progress) → ((x : A) → go2 x ≡ moved_progress from (go x)) → (o >>= go2) ≡ moved_progress from (o >>= go)
  bound None go2 go each = refl
  bound (Some x) go2 go each = each x

  both : {A : Type 0} (u o : Option A) (go2 go : A → Progress) → u ≡ o → ((x : A) → go2 x ≡ moved_progress from (go x)) → (u >>= go2) ≡ moved_progress from (o >>= go)
  both u o go2 go e each = ap (λ z. z >>= go2) e ∙ bound o go2 go each

  tested : (t : Bool) (x2 x : Progress) → x2 ≡ moved_progress from x → (if t then x2 else stuck) ≡ moved_progress from (if t then x else stuck)
  tested true x2 x e = e
  tested false x2 x e = refl

  either : (t : Bool) (a b : State) → running (if t then moved from a else moved from b) ≡ moved_progress from (running (if t then a else b))
  either true a b = refl
  either false a b = refl

  returned_same : (s : State) (result : Option Value) (ws : List Frame) → returned (moved from s) result (map (moved_frame from) ws) ≡ moved_progress from (returned s result ws)
  returned_same s result [] =
      let out : ℕ → Progress = λ v. ended (v % 2 ^ 8) s.input s.trace in
      bound (word_in result) out out (λ v. refl)
  returned_same s result (f ∷ fs) = refl

  got_same : (s : State) (input : List ℕ) → got (moved from s) input ≡ moved_progress from (got s input)
  got_same s [] = refl
  got_same s (b ∷ rest) = refl

module _ (p q : Program) (to from : ℕ → ℕ → ℕ) (r : Alike p q to from) where
  pub entry_same : (k : ℕ) → entry_cost_of (function_at q k) ≡ entry_cost_of (function_at p k)
  entry_same k = ap entry_cost_of (r.at k)

  cost_same : (here : ℕ → ℕ) (x : Instruction) → cost_in q (renumbered here x) ≡ cost_in p x
  cost_same here instruction.Nothing = refl
  cost_same here (instruction.Move d x) = refl
  cost_same here (instruction.Compute o d x y) = refl
  cost_same here (instruction.Convert c d x) = refl
  cost_same here (instruction.Load w d l) = refl
  cost_same here (instruction.Store w x l) = refl
  cost_same here (instruction.Address d l) = refl
  cost_same here (instruction.Element d x y size) = refl
  cost_same here (instruction.Jump k) = refl
  cost_same here (instruction.Branch t x y k) = refl
  cost_same here (instruction.Call f) = ap (λ n. 2 + n) (entry_same f)
  cost_same here instruction.PutByte = refl
  cost_same here instruction.GetByte = refl
  cost_same here instruction.Exit = refl
  cost_same here instruction.Return = refl

  cost_mapped : (here : ℕ → ℕ) (o : Option Instruction) → cost_in_if q (option_map (renumbered here) o) ≡ cost_in_if p o
  cost_mapped here None = refl
  cost_mapped here (Some x) = cost_same here x

  module _ (s : State) where
    abbrev s2 : State
    s2 = moved from s

    abbrev here : ℕ → ℕ
    here = to s.frame.function

    gives_same : (d : Target) (v : Value) → gives (renumbered_target here d) s2 v ≡ moved_progress from (gives d s v)
    gives_same d v = ap running (target_set p q to from r (next s) d v)

    loaded_same : (w : Width) (d : Target) (v : Reference) → loaded q s2 w (renumbered_target here d) v ≡ moved_progress from (loaded p s w d v)
    loaded_same w d v =
        both from (memory q s2 v.list) (memory p s v.list)
        (λ m. if fits w v.offset m then element_in w m.bytes v.offset >>= gives_word (renumbered_target here d) s2 else stuck)
        (λ m. if fits w v.offset m then element_in w m.bytes v.offset >>= gives_word d s else stuck)
        (memory_same p q to from r s v.list)
        (λ m. tested from (fits w v.offset m) (element_in w m.bytes v.offset >>= gives_word (renumbered_target here d) s2) (element_in w m.bytes v.offset >>= gives_word d s)
        (bound from (element_in w m.bytes v.offset) (gives_word (renumbered_target here d) s2) (gives_word d s) (λ k. gives_same d (word k))))

    stored_same : (w : Width) (a : ℕ) (v : Reference) → stored q s2 w a v ≡ moved_progress from (stored p s w a v)
    stored_same w a v =
        both from (memory q s2 v.list) (memory p s v.list)
        (λ m. if fits w v.offset m then running (with_memory q (next s2) v.list (with_element w m.bytes v.offset a)) else stuck)
        (λ m. if fits w v.offset m then running (with_memory p (next s) v.list (with_element w m.bytes v.offset a)) else stuck)
        (memory_same p q to from r s v.list)
        (λ m. tested from (fits w v.offset m) (running (with_memory q (next s2) v.list (with_element w m.bytes v.offset a))) (running (with_memory p (next s) v.list (with_element w m.bytes v.offset a)))
        (ap running (memory_put p q to from r (next s) v.list (with_element w m.bytes v.offset a))))

    pub result_is : result_of q s2 ≡ result_of p s
    result_is = ap (λ b. result_if b (s.temporaries 0)) (ap (λ (f : Function). f.gives) (r.at s.frame.function))

    act_same : (x : Instruction) → act q s2 (renumbered here x) ≡ moved_progress from (act p s x)
    act_same instruction.Nothing = refl
    act_same (instruction.Move d x) =
        both from (value s2 (renumbered_operand here x)) (value s x) (λ v. running (set (renumbered_target here d) v (past s2))) (λ v. running (set d v (past s)))
        (value_same p q to from r s x) (λ v. ap running (target_set p q to from r (past s) d v))
    act_same (instruction.Compute o d x y) =
        both from (word_at s2 (renumbered_operand here x)) (word_at s x)
        (λ a. word_at s2 (renumbered_operand here y) >>= λ b. gives_word (renumbered_target here d) s2 (operate o a b)) (λ a. word_at s y >>= λ b. gives_word d s (operate o a b))
        (ap word_in (value_same p q to from r s x))
        (λ a. both from (word_at s2 (renumbered_operand here y)) (word_at s y) (λ b. gives_word (renumbered_target here d) s2 (operate o a b)) (λ b. gives_word d s (operate o a b))
        (ap word_in (value_same p q to from r s y)) (λ b. gives_same d (word (operate o a b))))
    act_same (instruction.Convert c d x) =
        both from (word_at s2 (renumbered_operand here x)) (word_at s x) (λ a. gives_word (renumbered_target here d) s2 (converted c a)) (λ a. gives_word d s (converted c a))
        (ap word_in (value_same p q to from r s x)) (λ a. gives_same d (word (converted c a)))
    act_same (instruction.Load w d l) =
        both from (place q s2 (renumbered_location here l)) (place p s l) (loaded q s2 w (renumbered_target here d)) (loaded p s w d)
        (place_same p q to from r s l) (loaded_same w d)
    act_same (instruction.Store w x l) =
        both from (word_at s2 (renumbered_operand here x)) (word_at s x)
        (λ a. place q s2 (renumbered_location here l) >>= stored q s2 w a) (λ a. place p s l >>= stored p s w a)
        (ap word_in (value_same p q to from r s x))
        (λ a. both from (place q s2 (renumbered_location here l)) (place p s l) (stored q s2 w a) (stored p s w a) (place_same p q to from r s l) (stored_same w a))
    act_same (instruction.Address d l) =
        both from (place q s2 (renumbered_location here l)) (place p s l) (λ v. gives (renumbered_target here d) s2 (reference v.list v.offset)) (λ v. gives d s (reference v.list v.offset))
        (place_same p q to from r s l) (λ v. gives_same d (reference v.list v.offset))
    act_same (instruction.Element d x y size) =
        both from (reference_in (value s2 (renumbered_operand here x))) (reference_in (value s x))
        (λ v. word_at s2 (renumbered_operand here y) >>= λ n. gives (renumbered_target here d) s2 (reference v.list (v.offset + n * size)))
        (λ v. word_at s y >>= λ n. gives d s (reference v.list (v.offset + n * size)))
        (ap reference_in (value_same p q to from r s x))
        (λ v. both from (word_at s2 (renumbered_operand here y)) (word_at s y)
        (λ n. gives (renumbered_target here d) s2 (reference v.list (v.offset + n * size))) (λ n. gives d s (reference v.list (v.offset + n * size)))
        (ap word_in (value_same p q to from r s y)) (λ n. gives_same d (reference v.list (v.offset + n * size))))
    act_same (instruction.Jump k) = refl
    act_same (instruction.Branch t x y k) =
        both from (word_at s2 (renumbered_operand here x)) (word_at s x)
        (λ a. word_at s2 (renumbered_operand here y) >>= λ b. running (if compare_of t a b then goes_to s2 k else next s2))
        (λ a. word_at s y >>= λ b. running (if compare_of t a b then goes_to s k else next s))
        (ap word_in (value_same p q to from r s x))
        (λ a. both from (word_at s2 (renumbered_operand here y)) (word_at s y)
        (λ b. running (if compare_of t a b then goes_to s2 k else next s2)) (λ b. running (if compare_of t a b then goes_to s k else next s))
        (ap word_in (value_same p q to from r s y)) (λ b. either from (compare_of t a b) (goes_to s k) (next s)))
    act_same (instruction.Call f) = refl
    act_same instruction.PutByte = bound from (word_at s (operand.Temporary 0)) (put s2) (put s) (λ v. refl)
    act_same instruction.GetByte = got_same from s s.input
    act_same instruction.Exit =
        let out : ℕ → Progress = λ v. ended (v % 2 ^ 8) s.input s.trace in
        bound from (word_at s (operand.Temporary 0)) out out (λ v. refl)
    act_same instruction.Return = ap (λ v. returned s2 v s2.waiting) result_is ∙ returned_same from s (result_of p s) s.waiting

    act_mapped : (o : Option Instruction) → (option_map (renumbered here) o >>= act q s2) ≡ moved_progress from (o >>= act p s)
    act_mapped None = refl
    act_mapped (Some x) = act_same x

    pub next_same : next_of q s2 ≡ option_map (renumbered here) (next_of p s)
    next_same =
        ap (λ f. slice_get f.code s.frame.at) (r.at s.frame.function) ∙ slice_get-map (renumbered here) (function_at p s.frame.function).code s.frame.at

    step_same : step q s2 ≡ moved_progress from (step p s)
    unfolding step
    step_same = ap (λ o. o >>= act q s2) next_same ∙ act_mapped (next_of p s)

    cost_next : cost_in_if q (next_of q s2) ≡ cost_in_if p (next_of p s)
    cost_next = ap (cost_in_if q) next_same ∙ cost_mapped here (next_of p s)

  goes_same : (n : ℕ) (x : Progress) → ((s : State) → run q n (moved from s) ≡ moved_progress from (run p n s)) → goes_on (moved_progress from x) (run q n) ≡ moved_progress from (goes_on x (run p n))
  goes_same n (running s) each = each s
  goes_same n (ended status input trace) each = refl
  goes_same n stuck each = refl

  pub run_same : (n : ℕ) (s : State) → run q n (moved from s) ≡ moved_progress from (run p n s)
  run_same zero s = refl
  run_same (suc n) s = ap (λ x. goes_on x (run q n)) (step_same s) ∙ goes_same n (step p s) (run_same n)

  cost_rest : (n : ℕ) (x : Progress) → ((s : State) → spent_in q n (moved from s) ≡ spent_in p n s) → cost_on (moved_progress from x) (spent_in q n) ≡ cost_on x (spent_in p n)
  cost_rest n (running s) each = each s
  cost_rest n (ended status input trace) each = refl
  cost_rest n stuck each = refl

  pub spent_same : (n : ℕ) (s : State) → spent_in q n (moved from s) ≡ spent_in p n s
  spent_same zero s = refl
  spent_same (suc n) s =
      ap (λ k. k + cost_on (step q (moved from s)) (spent_in q n)) (cost_next s)
      ∙ ap (λ k. cost_in_if p (next_of p s) + k) (ap (λ x. cost_on x (spent_in q n)) (step_same s) ∙ cost_rest n (step p s) (spent_same n))

  abbrev started : ℕ → List ℕ → List ℕ → State
  started main statics input = record {
    frame = record { function = main; at = 0; cells = unset; area = unset };
    temporaries = unset;
    arguments = unset;
    waiting = [];
    statics = slice_get statics;
    input = input;
    trace = [];
  }

  pub start_same : (input : List ℕ) → start q input ≡ moved from (start p input)
  start_same input = ap (λ m. started m q.statics input) r.main ∙ ap (λ (xs : List ℕ). started p.main xs input) r.statics
