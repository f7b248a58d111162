-- One walk over the instructions: the entries that a step adds to the history, and that the open calls stay those of the history.
use Rattle.std.proofs.Common.{◌≡◌, ℕ, zero, suc, ◌+◌, Bool, true, false, List, [], ◌∷◌, ◌++◌, map, Option, Some, None, refl, ap, ◌∙◌, subst, sym, arith}
use Rattle.csem.specs.Store.{Tree, Reference, into, tree_at}
use Rattle.csem.specs.History.{Entry, Did, Entered, Left, active, without_innermost}
use Rattle.csem_events.specs.Events.{Got, GotEnd, Put}
use Rattle.std.specs.Prelude.{◌%◌, ◌^◌, ◌*◌, ◌==◌, if◌then◌else◌, slice_get}
use Rattle.ctypes.specs.Types.{bytes_of}
use Rattle.csem.specs.Laws.{Grows}
use Rattle.tac_code.specs.Laws.{ComesOf, RunGrows, HasCalls, CallsAreActive}
use Rattle.ctypes.specs.declared.types.IntType.{IntType}
use Rattle.tac_code.specs.declared.code.Target.{Target}
use Rattle.tac_code.specs.declared.code.Target.TheVariants as target
use Rattle.tac_code.specs.declared.code.Operand.TheVariants as operand
use Rattle.tac_code.specs.declared.code.Instruction.{Instruction}
use Rattle.tac_code.specs.declared.code.Instruction.TheVariants as instruction
use Rattle.tac_code.specs.Code.{Program, Function, function_at, scalar_type}
use Rattle.tac_code.specs.Run.{words_in, result_in, State, Call, Progress, Value, word, reference, running, ended, stuck, ◌>>=◌, where_true, open_calls, word_for, number_of, is_word_of, held_by, reference_in, word_of, operate, holds, own, own_type, value, word_at, goes_to, next, with_number, gives, gives_word, element_type, elements_of, element_behind, reference_to, loaded, stored, part, element, numbers_in, arrays_in, begun, entered, returned, got, put_byte, act, instruction_at, step, goes_on, run, start}

abbrev pub Adds : State → Progress → Type 0
Adds s (running t) = (new : List Entry) × (t.history ≡ new ++ s.history) × (open_calls s ≡ active s.history → open_calls t ≡ active t.history)
Adds s (ended status input history) = Grows s.history history
Adds s stuck = Unit {0}

pub record Follows (s : State) (r : Progress) : Type 0 where
  pub adds : Adds s r

-- continuations of a value that may be absent, or of a test
bound : {A : Type 0} (s : State) (o : Option A) (go : A → Progress) → ((x : A) → Follows s (go x)) → Follows s (o >>= go)
bound s None go each = record { adds = tt }
bound s (Some x) go each = each x

tested : (s : State) (b : Bool) (r : Progress) → Follows s r → Follows s (where_true b r)
tested s true r follows = follows
tested s false r follows = record { adds = tt }

-- on without an entry
quiet : (s t : State) → t.history ≡ s.history → open_calls t ≡ open_calls s → Follows s (running t)
quiet s t history calls = record { adds = ([], history, λ e. calls ∙ (e ∙ ap active (sym history))) }

gives_follows : (p : Program) (d : Target) (s : State) (v : Value) → Follows s (gives p d s v)
gives_follows p (target.Temporary k) s v = quiet s _ refl refl
gives_follows p (target.Kept k) s v = quiet s _ refl refl
gives_follows p (target.Object n) s v =
    bound s (scalar_type (own_type p s n)) (λ t. word_of v >>= λ w. takes t w) (λ t. bound s (word_of v) (takes t) (λ w.
    tested s (is_word_of t w) (running (changed t w)) (quiet s (changed t w) refl refl)))
  where
    changed : IntType → ℕ → State
    changed t w = with_number (own s n) (number_of t w) (next s)

    takes : IntType → ℕ → Progress
    takes t w = where_true (is_word_of t w) (running (changed t w))

loaded_follows : (p : Program) (s : State) (t : IntType) (d : Target) (r : Reference) → Follows s (loaded p s t d r)
loaded_follows p s t d r = tested s _ _ (bound s _ _ (λ v. gives_follows p d s _))

stored_follows : (p : Program) (s : State) (t : IntType) (w : ℕ) (r : Reference) → Follows s (stored p s t w r)
stored_follows p s t w r = tested s _ _ (bound s (held_by t w) (λ v. running (with_number r v (next s))) (λ v. quiet s (with_number r v (next s)) refl refl))

part_follows : (p : Program) (s : State) (d : Target) (r : Reference) (size : ℕ) → Follows s (part p s d r size)
part_follows p s d r size =
    bound s (element_type p s r) (λ t. tree_at s.store r >>= in_bytes t) (λ t. bound s (tree_at s.store r) (in_bytes t) (λ tree.
    tested s (bytes_of t * elements_of tree == size) (gives p d s (reference r)) (gives_follows p d s (reference r))))
  where
    in_bytes : IntType → Tree → Progress
    in_bytes t tree = where_true (bytes_of t * elements_of tree == size) (gives p d s (reference r))

element_follows : (p : Program) (s : State) (t : IntType) (d : Target) (r : Reference) (i : ℕ) → Follows s (element p s t d r i)
element_follows p s t d r i =
    tested s _ _ (bound s (element_behind s.store r i) (λ r2. gives p d s (reference r2)) (λ r2. gives_follows p d s (reference r2)))

-- with a call its function is the innermost
begun_follows : (s : State) (f : ℕ) (g : Function) (numbers : List Tree) (arrays : List Reference) → Follows s (begun s f g numbers arrays)
begun_follows s f g numbers arrays = record { adds = (Entered f (words_in g.parameters s.temporaries 0) ∷ [], refl, λ e. ap (λ fs. f ∷ fs) e) }

entered_follows : (p : Program) (s : State) (f : ℕ) → Follows s (entered p s f)
entered_follows p s f =
    bound s (slice_get p.functions f) with_numbers (λ g. bound s (numbers_in g.parameters g.objects s.temporaries 0) (with_arrays g) (λ numbers.
    bound s (arrays_in g.parameters s.temporaries 0) (begun s f g numbers) (begun_follows s f g numbers)))
  where
    with_arrays : Function → List Tree → Progress
    with_arrays g numbers = arrays_in g.parameters s.temporaries 0 >>= begun s f g numbers

    with_numbers : Function → Progress
    with_numbers g = numbers_in g.parameters g.objects s.temporaries 0 >>= with_arrays g

-- with its end it goes
returned_follows : (s : State) (waiting : List Call) (result : Option ℕ) → s.waiting ≡ waiting → Follows s (returned s waiting result)
returned_follows s [] result e =
    bound s result (λ w. ended (w % 2 ^ 8) s.input (Left (Some w) ∷ s.history)) (λ w. record { adds = (Left (Some w) ∷ [], refl) })
returned_follows s (c ∷ waiting) result e =
    record { adds = (Left result ∷ [], refl, λ same. ap (λ cs. map (λ c. c.function) cs) (sym e) ∙ ap without_innermost same) }

got_follows : (s : State) (input : List ℕ) → Follows s (got s input)
got_follows s [] = record { adds = (Did GotEnd ∷ [], refl, λ e. e) }
got_follows s (b ∷ more) = record { adds = (Did (Got b) ∷ [], refl, λ e. e) }

put_follows : (s : State) (w : ℕ) → Follows s (put_byte s w)
put_follows s w = record { adds = (Did (Put (w % 2 ^ 8)) ∷ [], refl, λ e. e) }

abbrev exits : State → ℕ → Progress
exits s w = ended (w % 2 ^ 8) s.input s.history

exit_follows : (s : State) (w : ℕ) → Follows s (exits s w)
exit_follows s w = record { adds = ([], refl) }

act_follows : (p : Program) (s : State) (i : Instruction) → Follows s (act p s i)
act_follows p s instruction.Nothing = quiet s _ refl refl
act_follows p s (instruction.Move d x) = bound s (value s x) (gives p d s) (gives_follows p d s)
act_follows p s (instruction.Compute o r d x y) =
    bound s (word_at s x) _ (λ a. bound s (word_at s y) _ (λ b. bound s (operate o r a b) (gives_word p d s) (λ w. gives_follows p d s (word w))))
act_follows p s (instruction.Convert t d x) =
    bound s (word_at s x) (λ a. gives_word p d s (word_for (number_of t a))) (λ a. gives_follows p d s (word (word_for (number_of t a))))
act_follows p s (instruction.Load t d l) = bound s (reference_to p s l) (loaded p s t d) (loaded_follows p s t d)
act_follows p s (instruction.Store t x l) =
    bound s (word_at s x) _ (λ a. bound s (reference_to p s l) (stored p s t a) (stored_follows p s t a))
act_follows p s (instruction.Address d l) = bound s (reference_to p s l) (λ r. gives p d s (reference r)) (λ r. gives_follows p d s (reference r))
act_follows p s (instruction.Part d x y size) =
    bound s (reference_in (value s x)) _ (λ r. bound s (word_at s y) (λ i. part p s d (into r i) size) (λ i. part_follows p s d (into r i) size))
act_follows p s (instruction.Element t d x y) =
    bound s (reference_in (value s x)) _ (λ r. bound s (word_at s y) (element p s t d r) (λ i. element_follows p s t d r i))
act_follows p s (instruction.Forget n k) = quiet s _ refl refl
act_follows p s (instruction.Jump to) = quiet s _ refl refl
act_follows p s (instruction.Branch c r x y to) =
    bound s (word_at s x) (λ a. word_at s y >>= leads a) (λ a. bound s (word_at s y) (leads a) (λ b. quiet s (target_of a b) refl refl))
  where
    target_of : ℕ → ℕ → State
    target_of a b = goes_to s (if holds c r a b then to else s.call.at + 1)

    leads : ℕ → ℕ → Progress
    leads a b = running (target_of a b)
act_follows p s (instruction.Call f) = entered_follows p s f
act_follows p s instruction.PutByte = bound s (word_at s (operand.Temporary 0)) (put_byte s) (put_follows s)
act_follows p s instruction.GetByte = got_follows s s.input
act_follows p s instruction.Exit = bound s (word_at s (operand.Temporary 0)) (exits s) (exit_follows s)
act_follows p s instruction.Return =
    bound s (result_in (function_at p s.call.function).result (word_at s (operand.Temporary 0))) (returned s s.waiting) (λ result. returned_follows s s.waiting result refl)

pub step_follows : (p : Program) (s : State) → Follows s (step p s)
unfolding step
step_follows p s = bound s (instruction_at p s) (act p s) (act_follows p s)

-- ---- histories

joins : (a b h : List Entry) → b ++ (a ++ h) ≡ (b ++ a) ++ h
joins a [] h = refl
joins a (e ∷ b) h = ap (λ es. e ∷ es) (joins a b h)

grows_on : (h h2 h3 : List Entry) → Grows h h2 → Grows h2 h3 → Grows h h3
grows_on h h2 h3 first second =
    (second.0 ++ first.0, second.1 ∙ (ap (λ es. second.0 ++ es) first.1 ∙ joins first.0 second.0 h))

-- a run from t on, where s has reached t
goes_further : (s t : State) (r : Progress) → Grows s.history t.history → ComesOf (running t) r → ComesOf (running s) r
goes_further s t (running u) first second = grows_on s.history t.history u.history first second
goes_further s t (ended status input history) first second = grows_on s.history t.history history first second
goes_further s t stuck first second = tt

steps_on : (s : State) (r : Progress) (go : State → Progress) → Follows s r → ((t : State) → ComesOf (running t) (go t)) → ComesOf (running s) (goes_on r go)
steps_on s (running t) go follows each = goes_further s t (go t) (follows.adds.0, follows.adds.1) (each t)
steps_on s (ended status input history) go follows each = follows.adds
steps_on s stuck go follows each = tt

begins : (p : Program) (k : ℕ) (s : State) → ComesOf (running s) (run p k s)
begins p zero s = ([], refl)
begins p (suc k) s = steps_on s (step p s) (run p k) (step_follows p s) (begins p k)

both : (r : Progress) (go further : State → Progress) → ((t : State) → ComesOf (go t) (further t)) → ComesOf (goes_on r go) (goes_on r further)
both (running t) go further each = each t
both (ended status input history) go further each = refl
both stuck go further each = refl

zero_plus : (k : ℕ) → k ≡ zero + k
zero_plus k = omega arith

suc_plus : (n k : ℕ) → suc (n + k) ≡ suc n + k
suc_plus n k = omega arith

pub run_grows : RunGrows
run_grows p zero k s = subst (λ m. ComesOf (running s) (run p m s)) (zero_plus k) (begins p k s)
run_grows p (suc n) k s = subst (λ m. ComesOf (run p (suc n) s) (run p m s)) (suc_plus n k)
    (both (step p s) (run p n) (run p (n + k)) (λ t. run_grows p n k t))

-- ---- calls

keeps_calls : (s : State) (r : Progress) (go : State → Progress) → Follows s r → open_calls s ≡ active s.history → ((t : State) → open_calls t ≡ active t.history → HasCalls (go t)) → HasCalls (goes_on r go)
keeps_calls s (running t) go follows same each = each t (follows.adds.2 same)
keeps_calls s (ended status input history) go follows same each = tt
keeps_calls s stuck go follows same each = tt

has_calls : (p : Program) (n : ℕ) (s : State) → open_calls s ≡ active s.history → HasCalls (run p n s)
has_calls p zero s same = same
has_calls p (suc n) s same = keeps_calls s (step p s) (run p n) (step_follows p s) same (has_calls p n)

pub calls_are_active : CallsAreActive
calls_are_active p n input = has_calls p n (start p input) refl
