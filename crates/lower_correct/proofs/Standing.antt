-- The match of three-address code with a state of the abstract machine, and the effect of one instruction there.
use Rattle.std.proofs.Common.{◌≡◌, ℕ, ◌+◌, List, [], ◌∷◌, ◌++◌, length, map, Option, Some, None, Bool, true, false, refl, sym, ap, ◌∙◌, arith}
use Rattle.std.specs.Prelude.{◌==◌, if◌then◌else◌, slice_get}
use Rattle.std.proofs.lemmas.Bool.Decides.{nat_tests}
use Rattle.ctypes.specs.declared.types.IntType.{IntType}
use Rattle.ctypes.specs.declared.types.IntType.TheVariants as ty
use Rattle.typing_spec.specs.Types.{ObjectType, DeclaredType, ParameterType, number, elements}
use Rattle.typing_spec.specs.Program as typed
use Rattle.typing_spec.specs.Program.{Place, Function}
use Rattle.typing_spec.specs.Nodes.{type_of_place}
use Rattle.csem.specs.Store.{Element, whole, put}
use Rattle.csem.specs.Machine as machine
use Rattle.tac_code.specs.declared.code.Operand.{Operand}
use Rattle.tac_code.specs.declared.code.Operand.TheVariants as operand
use Rattle.tac_code.specs.declared.code.Target.{Target}
use Rattle.tac_code.specs.declared.code.Target.TheVariants as target
use Rattle.tac_code.specs.declared.code.Reading.{Reading}
use Rattle.tac_code.specs.declared.code.Operation.{Operation}
use Rattle.tac_code.specs.declared.code.Comparison.{Comparison}
use Rattle.tac_code.specs.declared.code.Instruction.{Instruction}
use Rattle.tac_code.specs.declared.code.Instruction.TheVariants as instruction
use Rattle.tac_code.specs.Code.{Program, function_at, scalar_type}
use Rattle.tac_code.specs.Costs.{cost, cost_if}
use Rattle.tac_code.specs.Run.{Value, word, Values, unset, with_at, Call, State, Progress, running, ◌>>=◌, where_true, word_in, word_for, number_of, is_word_of, operate, holds, value, word_at, goes_to, next, with_number, own, gives, gives_word, forgotten, act, step}
use Rattle.lower_correct.specs.Places.{size_of_type}
use Rattle.lower_correct.specs.Code.{One}
use Rattle.lower_correct.proofs.Steps.{Reaches, one_step}
use Rattle.lower_correct.proofs.Stores.{World}

-- the temporaries and the slots of a call
pub record Scratch : Type 0 where
  pub temporaries : Values
  pub kept : Values

-- the same slots, and no temporary
abbrev pub slots_only : Scratch → Scratch
slots_only now = record { temporaries = unset; kept = now.kept }

-- the code at instruction pc of function f, in the same state
abbrev pub here : ℕ → ℕ → Scratch → List Call → machine.State → State
here f pc now ws s = record {
  call = record { function = f; at = pc; kept = now.kept; base = s.base; arrays = s.arrays };
  temporaries = now.temporaries;
  waiting = ws;
  store = s.store;
  input = s.input;
  history = s.history;
}

-- ---- a word to a target

abbrev pub put_scratch : Target → ℕ → Scratch → Scratch
put_scratch (target.Temporary k) w now = record { temporaries = with_at now.temporaries k (word w); kept = now.kept }
put_scratch (target.Kept k) w now = record { temporaries = now.temporaries; kept = with_at now.kept k (word w) }
put_scratch (target.Object n) w now = now

abbrev pub put_typed : Option IntType → ℕ → ℕ → machine.State → machine.State
put_typed None n w s = s
put_typed (Some u) n w s = record s { store = put s.store (whole (s.base + n)) (Element (Some (number_of u w))) }

pub is_same : (n : ℕ) → (n == n) ≡ true
is_same n = grind (arith, nat_tests)

pub is_other : (m n : ℕ) → (m ≡ n → ⊥) → (m == n) ≡ false
is_other m n h = grind (arith, nat_tests)

pub set_same : (m : Values) (k : ℕ) (x : Value) → with_at m k x k ≡ Some x
set_same m k x = ap (λ b. if b then Some x else m k) (is_same k)

pub set_other : (m : Values) (k j : ℕ) (x : Value) → (j ≡ k → ⊥) → with_at m k x j ≡ m j
set_other m k j x h = ap (λ b. if b then Some x else m j) (is_other j k h)

-- ---- the objects that live while a call of function f runs, in addition to the waiting calls

abbrev pub literal_type : List ℕ → ObjectType
literal_type text = record { element = ty.Char; constant = false; lengths = length text ∷ [] }

abbrev pub types_below : Program → List Call → List ObjectType
types_below q [] = map literal_type q.literals ++ map (λ o. o.type) q.statics
types_below q (c ∷ earlier) = types_below q earlier ++ (function_at q c.function).objects

abbrev pub first_automatic : Program → ℕ
first_automatic q = length q.literals + length q.statics

abbrev pub rows_of : List ParameterType → List ObjectType
rows_of [] = []
rows_of (number t ∷ ps) = rows_of ps
rows_of (elements t ∷ ps) = t ∷ rows_of ps

abbrev pub parameters_of : Option Function → List ParameterType
parameters_of None = []
parameters_of (Some g) = g.type.parameters

-- the type of a place, and the bytes of an element or a row, in function f
abbrev pub type_at : typed.Program → Option Function → Place → Option DeclaredType
type_at p None a = None
type_at p (Some g) a = type_of_place p g a

abbrev pub sizes : typed.Program → ℕ → Place → ℕ
sizes p f a = size_of_type (type_at p (slice_get p.functions f) a)

-- function f of q is the code of tf
pub record IsCode (p : typed.Program) (tf : Function) (q : Program) (f : ℕ) : Type 0 where
  pub function : slice_get p.functions f ≡ Some tf
  pub objects : (function_at q f).objects ≡ tf.objects
  pub literals : q.literals ≡ p.literals
  pub statics : q.statics ≡ p.statics

abbrev pub world : typed.Program → Program → ℕ → List Call → World
world p q f ws = record {
  texts = q.literals;
  first = first_automatic q;
  outer = types_below q ws;
  own = (function_at q f).objects;
  rows = rows_of (parameters_of (slice_get p.functions f));
}

module _ (q : Program) (f : ℕ) where
  abbrev pub type_in : ℕ → Option IntType
  type_in n = scalar_type (slice_get (function_at q f).objects n)

  abbrev pub put_state : Target → ℕ → machine.State → machine.State
  put_state (target.Temporary k) w s = s
  put_state (target.Kept k) w s = s
  put_state (target.Object n) w s = put_typed (type_in n) n w s

  -- an object takes only words that are values of its type
  abbrev pub Takes : Target → ℕ → Type 0
  Takes (target.Temporary k) w = Unit {0}
  Takes (target.Kept k) w = Unit {0}
  Takes (target.Object n) w = (u : IntType) × (type_in n ≡ Some u) × (is_word_of u w ≡ true)

  -- a word in an operand
  abbrev pub Holds : Operand → ℕ → Scratch → machine.State → Type 0
  Holds o w now s = value (here f 0 now [] s) o ≡ Some (word w)

  object_given : (pc n w : ℕ) (now : Scratch) (ws : List Call) (s : machine.State) (o : Option IntType) (u : IntType) → o ≡ Some u → is_word_of u w ≡ true
      → (o >>= λ t. where_true (is_word_of t w) (running (with_number (own (here f pc now ws s) n) (number_of t w) (next (here f pc now ws s)))))
      ≡ running (here f (pc + 1) now ws (put_typed o n w s))
  object_given pc n w now ws s o u e h =
      ap (λ x. x >>= λ t. where_true (is_word_of t w) (running (with_number (own (here f pc now ws s) n) (number_of t w) (next (here f pc now ws s))))) e
      ∙ (ap (λ b. where_true b (running (here f (pc + 1) now ws (put_typed (Some u) n w s)))) h
      ∙ sym (ap (λ x. running (here f (pc + 1) now ws (put_typed x n w s))) e))

  pub given : (g : Target) (pc w : ℕ) (now : Scratch) (ws : List Call) (s : machine.State) → Takes g w
      → gives_word q g (here f pc now ws s) w ≡ running (here f (pc + 1) (put_scratch g w now) ws (put_state g w s))
  given (target.Temporary k) pc w now ws s h = refl
  given (target.Kept k) pc w now ws s h = refl
  given (target.Object n) pc w now ws s h = object_given pc n w now ws s (type_in n) h.0 h.1 h.2

  -- ---- one instruction

  pub does_one : (i : Instruction) (pc pc2 : ℕ) (now : Scratch) (ws : List Call) (s : machine.State) (r : Progress) → One (function_at q f).code i pc pc2
      → act q (here f pc now ws s) i ≡ r → Reaches q (here f pc now ws s) 1 (cost q i) r
  unfolding step
  does_one i pc pc2 now ws s r o e =
      one_step q (here f pc now ws s) (cost q i) r (ap (λ x. x >>= act q (here f pc now ws s)) o.at ∙ e) (ap (cost_if q) o.at)

  -- on to the next one
  on_to : (pc pc2 : ℕ) (now : Scratch) (ws : List Call) (s : machine.State) → pc + 1 ≡ pc2 → running (here f (pc + 1) now ws s) ≡ running (here f pc2 now ws s)
  on_to pc pc2 now ws s e = ap (λ n. running (here f n now ws s)) e

  pub does_nothing : (pc pc2 : ℕ) (now : Scratch) (ws : List Call) (s : machine.State) → One (function_at q f).code instruction.Nothing pc pc2
      → Reaches q (here f pc now ws s) 1 0 (running (here f pc2 now ws s))
  does_nothing pc pc2 now ws s o = does_one instruction.Nothing pc pc2 now ws s (running (here f pc2 now ws s)) o (on_to pc pc2 now ws s o.next)

  pub does_jump : (to pc pc2 : ℕ) (now : Scratch) (ws : List Call) (s : machine.State) → One (function_at q f).code (instruction.Jump to) pc pc2
      → Reaches q (here f pc now ws s) 1 1 (running (here f to now ws s))
  does_jump to pc pc2 now ws s o = does_one (instruction.Jump to) pc pc2 now ws s (running (here f to now ws s)) o refl

  pub does_move : (g : Target) (o : Operand) (w pc pc2 : ℕ) (now : Scratch) (ws : List Call) (s : machine.State)
      → One (function_at q f).code (instruction.Move g o) pc pc2
      → Holds o w now s → Takes g w → Reaches q (here f pc now ws s) 1 6 (running (here f pc2 (put_scratch g w now) ws (put_state g w s)))
  does_move g o w pc pc2 now ws s i h k =
      does_one (instruction.Move g o) pc pc2 now ws s (running (here f pc2 (put_scratch g w now) ws (put_state g w s))) i
      (ap (λ x. x >>= gives q g (here f pc now ws s)) (held o pc w now ws s h)
      ∙ (given g pc w now ws s k ∙ on_to pc pc2 (put_scratch g w now) ws (put_state g w s) i.next))
    where
      held : (o : Operand) (pc w : ℕ) (now : Scratch) (ws : List Call) (s : machine.State) → Holds o w now s → value (here f pc now ws s) o ≡ Some (word w)
      held (operand.Temporary j) pc w now ws s h = h
      held (operand.Kept j) pc w now ws s h = h
      held (operand.Object x) pc w now ws s h = h
      held (operand.Parameter n) pc w now ws s h = h
      held (operand.Constant v) pc w now ws s h = h

  -- the word of an operand
  pub word_there : (o : Operand) (pc w : ℕ) (now : Scratch) (ws : List Call) (s : machine.State) → Holds o w now s → word_at (here f pc now ws s) o ≡ Some w
  word_there (operand.Temporary j) pc w now ws s h = ap word_in h
  word_there (operand.Kept j) pc w now ws s h = ap word_in h
  word_there (operand.Object x) pc w now ws s h = ap word_in h
  word_there (operand.Parameter n) pc w now ws s h = ap word_in h
  word_there (operand.Constant v) pc w now ws s h = ap word_in h

  pub does_convert : (u : IntType) (g : Target) (o : Operand) (w pc pc2 : ℕ) (now : Scratch) (ws : List Call) (s : machine.State)
      → One (function_at q f).code (instruction.Convert u g o) pc pc2 → Holds o w now s → Takes g (word_for (number_of u w))
      → Reaches q (here f pc now ws s) 1 8 (running (here f pc2 (put_scratch g (word_for (number_of u w)) now) ws (put_state g (word_for (number_of u w)) s)))
  does_convert u g o w pc pc2 now ws s i h k =
      let w2 = word_for (number_of u w) in
      does_one (instruction.Convert u g o) pc pc2 now ws s (running (here f pc2 (put_scratch g w2 now) ws (put_state g w2 s))) i
      (ap (λ x. x >>= λ a. gives_word q g (here f pc now ws s) (word_for (number_of u a))) (word_there o pc w now ws s h)
      ∙ (given g pc w2 now ws s k ∙ on_to pc pc2 (put_scratch g w2 now) ws (put_state g w2 s) i.next))

  pub does_compute : (c : Operation) (r : Reading) (g : Target) (x y : Operand) (a b w pc pc2 : ℕ) (now : Scratch) (ws : List Call) (s : machine.State)
      → One (function_at q f).code (instruction.Compute c r g x y) pc pc2 → Holds x a now s → Holds y b now s → operate c r a b ≡ Some w → Takes g w
      → Reaches q (here f pc now ws s) 1 11 (running (here f pc2 (put_scratch g w now) ws (put_state g w s)))
  does_compute c r g x y a b w pc pc2 now ws s i hx hy e k =
      let t = here f pc now ws s in
      does_one (instruction.Compute c r g x y) pc pc2 now ws s (running (here f pc2 (put_scratch g w now) ws (put_state g w s))) i
      (ap (λ o. o >>= λ m. word_at t y >>= λ n. operate c r m n >>= gives_word q g t) (word_there x pc a now ws s hx)
      ∙ (ap (λ o. o >>= λ n. operate c r a n >>= gives_word q g t) (word_there y pc b now ws s hy)
      ∙ (ap (λ o. o >>= gives_word q g t) e ∙ (given g pc w now ws s k ∙ on_to pc pc2 (put_scratch g w now) ws (put_state g w s) i.next))))

  pub does_branch : (c : Comparison) (r : Reading) (x y : Operand) (to a b : ℕ) (z : Bool) (pc pc2 : ℕ) (now : Scratch) (ws : List Call) (s : machine.State)
      → One (function_at q f).code (instruction.Branch c r x y to) pc pc2 → Holds x a now s → Holds y b now s → holds c r a b ≡ z
      → Reaches q (here f pc now ws s) 1 8 (running (here f (if z then to else pc2) now ws s))
  does_branch c r x y to a b z pc pc2 now ws s i hx hy e =
      let t = here f pc now ws s in
      does_one (instruction.Branch c r x y to) pc pc2 now ws s (running (here f (if z then to else pc2) now ws s)) i
      (ap (λ o. o >>= λ m. word_at t y >>= λ n. running (goes_to t (if holds c r m n then to else t.call.at + 1))) (word_there x pc a now ws s hx)
      ∙ (ap (λ o. o >>= λ n. running (goes_to t (if holds c r a n then to else t.call.at + 1))) (word_there y pc b now ws s hy)
      ∙ (ap (λ z. running (here f (if z then to else pc + 1) now ws s)) e ∙ ap (λ n. running (here f (if z then to else n) now ws s)) i.next)))

  pub does_forget : (n k pc pc2 : ℕ) (now : Scratch) (ws : List Call) (s : machine.State) → One (function_at q f).code (instruction.Forget n k) pc pc2
      → Reaches q (here f pc now ws s) 1 0 (running (here f pc2 (slots_only now) ws (record s { store = forgotten (function_at q f).objects s.base n k s.store })))
  does_forget n k pc pc2 now ws s o =
      let s2 : machine.State = record s { store = forgotten (function_at q f).objects s.base n k s.store } in
      does_one (instruction.Forget n k) pc pc2 now ws s (running (here f pc2 (slots_only now) ws s2)) o (on_to pc pc2 (slots_only now) ws s2 o.next)
