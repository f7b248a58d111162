-- The semantics of initialisers and statements (ISO/IEC 9899:2011 6.7.9, 6.8). Entering a node, testing a case and giving an element its first
-- value take a tick each.
use Rattle.std.specs.Prelude.{ℕ, zero, suc, ◌+◌, ◌-◌, ◌*◌, List, [], ◌∷◌, ◌++◌, length, Option, Some, None, Bool, ◌&&◌, ℤ, pos, int_le, nat_lt, slice_get}
use Rattle.ctypes.specs.declared.types.IntType.{IntType}
use Rattle.ctypes.specs.Types.{truth, converted}
use Rattle.typing_spec.specs.Types.{ObjectType, elements_in}
use Rattle.typing_spec.specs.Program as typed
use Rattle.typing_spec.specs.Program.{Value, Initialiser, Initialisers, Statement, Statements, Program}
use Rattle.csem.specs.Store.{Tree, Element, Reference, whole, into, put, set_zeros, indeterminate}
use Rattle.csem.specs.Machine.{State, TicksUsed, Run, Goes, Stops, then_do, choose, tick, ticks, stored}
use Rattle.csem.specs.Expressions.{Calling, evaluate, evaluate_or}

-- ---- initialisers (6.7.9)

-- p10, p21: k elements or rows from number i on become zero
abbrev pub zeros : ℕ → ℕ → Reference → State → State
zeros zero i r s = s
zeros (suc k) i r s = zeros k (suc i) r (record s { store = set_zeros s.store (into r i) })

-- with a tick for each element of these rows
abbrev pub clear : ℕ → ℕ → List ℕ → Reference → State → Run (Unit {0})
clear k i lengths r s = then_do (ticks (k * elements_in lengths) s) (λ u s. Goes tt (zeros k i r s))

-- p14, p21: k characters of type t from number i on become those of the text, those past it zero
abbrev pub characters : IntType → ℕ → ℕ → List ℕ → Reference → State → State
characters t zero i text r s = s
characters t (suc k) i [] r s = characters t k (suc i) [] r (stored (into r i) (pos 0) s)
characters t (suc k) i (c ∷ text) r s = characters t k (suc i) text r (stored (into r i) (converted t (pos c)) s)

abbrev pub first_length : List ℕ → ℕ
first_length [] = 0
first_length (n ∷ lengths) = n

abbrev pub inner_lengths : List ℕ → List ℕ
inner_lengths [] = []
inner_lengths (n ∷ lengths) = lengths

abbrev pub text_or_none : Option (List ℕ) → List ℕ
text_or_none None = []
text_or_none (Some text) = text

module _ (p : Program) (call : Calling) where
  abbrev mutual
    -- the object, row or element at r, whose elements have type t and whose lengths are these, gets its first value
    pub initialise : Initialiser → IntType → List ℕ → Reference → State → Run (Unit {0})
    initialise (typed.one_value u e) t lengths r s = then_do (evaluate p call e s) (λ v s. tick s (λ s. Goes tt (stored r (converted u v) s)))
    initialise (typed.text n) t lengths r s = tick s (λ s. then_do (ticks (first_length lengths) s) (λ u s.
        Goes tt (characters t (first_length lengths) 0 (text_or_none (slice_get p.literals n)) r s)))
    initialise (typed.in_braces i) t lengths r s = tick s (λ s. initialise i t lengths r s)
    initialise (typed.list all) t lengths r s = tick s (λ s. initialise_all all t (first_length lengths) 0 (inner_lengths lengths) r s)

    -- the k elements or rows from number i on (p17), in their order, which p23 leaves to us
    pub initialise_all : Initialisers → IntType → ℕ → ℕ → List ℕ → Reference → State → Run (Unit {0})
    initialise_all typed.no_initialisers t k i lengths r s = clear k i lengths r s
    initialise_all (typed.and_initialiser x more) t k i lengths r s =
        then_do (initialise x t lengths (into r i) s) (λ u s. initialise_all more t (k - 1) (suc i) lengths r s)

-- ---- objects of a block (6.2.4p6)

abbrev pub own : ℕ → State → Reference
own n s = whole (s.base + n)

abbrev pub new_object : Option ObjectType → Tree
new_object None = Element None
new_object (Some t) = indeterminate t

-- object n of the present call becomes indeterminate; so do those from number n on
abbrev pub renewed : List ObjectType → ℕ → State → State
renewed objects n s = record s { store = put s.store (own n s) (new_object (slice_get objects n)) }

abbrev pub all_renewed : List ObjectType → (first count : ℕ) → State → State
all_renewed objects n zero s = s
all_renewed objects n (suc k) s = all_renewed objects (suc n) k (renewed objects n s)

-- ---- how a statement is left (6.8.6)

pub data Flow : Type 0 where
  Normal : Flow
  Broken : Flow
  Continued : Flow
  Returned : (value : Option ℤ) → Flow

-- the next statement is executed where the one before it was left normally (6.8p2)
abbrev pub next_after : Flow → State → (State → Run Flow) → Run Flow
next_after Normal s go = go s
next_after Broken s go = Goes Broken s
next_after Continued s go = Goes Continued s
next_after (Returned v) s go = Goes (Returned v) s

-- after the body of a loop: again, or out of it (6.8.6.2, 6.8.6.3)
abbrev pub after_body : Flow → State → (again : State → Run Flow) → Run Flow
after_body Normal s again = again s
after_body Continued s again = again s
after_body Broken s again = Goes Normal s
after_body (Returned v) s again = Goes (Returned v) s

-- after a switch (6.8.6.3)
abbrev pub after_switch : Flow → State → Run Flow
after_switch Normal s = Goes Normal s
after_switch Broken s = Goes Normal s
after_switch Continued s = Goes Continued s
after_switch (Returned v) s = Goes (Returned v) s

-- ---- loops (6.8.5): n turns at most. The body of each takes a tick, so that as many as the clock has ticks are enough
abbrev pub turns : ℕ → (test : State → Run ℤ) → (body : State → Run Flow) → (step : State → Run ℤ) → State → Run Flow
turns zero test body step s = Stops TicksUsed s
turns (suc n) test body step s = then_do (test s) (λ v s.
    choose (truth v) (then_do (body s) (λ flow s. after_body flow s (λ s. then_do (step s) (λ w s. turns n test body step s)))) (Goes Normal s))

-- ---- labels of a switch (6.8.4.2): the value of a case, none for default

abbrev pub labels_at : Statement → List (Option ℤ)
labels_at (typed.case v) = Some v ∷ []
labels_at typed.default = None ∷ []
labels_at typed.empty = []
labels_at (typed.evaluate e) = []
labels_at (typed.declare n) = []
labels_at (typed.define n i) = []
labels_at (typed.block first count all) = []
labels_at (typed.branch e a) = []
labels_at (typed.branches e a b) = []
labels_at (typed.switch t e first count all) = []
labels_at (typed.while e a) = []
labels_at (typed.do_while a e) = []
labels_at (typed.for all start test step a) = []
labels_at typed.break = []
labels_at typed.continue = []
labels_at typed.return_nothing = []
labels_at (typed.return_value t e) = []

-- in the order of the source
abbrev pub labels_of : Statements → List (Option ℤ)
labels_of typed.no_statements = []
labels_of (typed.and_statement x more) = labels_at x ++ labels_of more

abbrev pub same_value : ℤ → ℤ → Bool
same_value v w = int_le v w && int_le w v

-- p5: which label is jumped to, the labels from number n on being left: the first case of this value, else default, else none.
-- Each case that is tested takes a tick
abbrev pub label_for : ℤ → List (Option ℤ) → ℕ → (default : Option ℕ) → State → Run (Option ℕ)
label_for v [] n default s = Goes default s
label_for v (None ∷ labels) n default s = label_for v labels (suc n) (Some n) s
label_for v (Some c ∷ labels) n default s = tick s (λ s. choose (same_value c v) (Goes (Some n) s) (label_for v labels (suc n) default s))

-- ---- statements (6.8). `objects` are those of the present call
module _ (p : Program) (call : Calling) (objects : List ObjectType) where
  abbrev pub define_object : Option ObjectType → ℕ → Initialiser → State → Run Flow
  define_object None n i s = Goes Normal s
  define_object (Some t) n i s = then_do (initialise p call i t.element t.lengths (own n s) s) (λ u s. Goes Normal s)

  abbrev mutual
    pub execute : Statement → State → Run Flow
    -- expression statements and null statements (6.8.3)
    execute typed.empty s = tick s (λ s. Goes Normal s)
    execute (typed.evaluate e) s = tick s (λ s. then_do (evaluate p call e s) (λ v s. Goes Normal s))
    -- declarators (6.2.4p6, 6.8p3): the object becomes indeterminate each time, and then gets its first value
    execute (typed.declare n) s = tick s (λ s. Goes Normal (renewed objects n s))
    execute (typed.define n i) s = tick s (λ s. define_object (slice_get objects n) n i (renewed objects n s))
    -- blocks (6.8.2, 6.2.4p6)
    execute (typed.block first count all) s = tick s (λ s. execute_all all (all_renewed objects first count s))
    -- if (6.8.4.1)
    execute (typed.branch e a) s = tick s (λ s. then_do (evaluate p call e s) (λ v s. choose (truth v) (execute a s) (Goes Normal s)))
    execute (typed.branches e a b) s = tick s (λ s. then_do (evaluate p call e s) (λ v s. choose (truth v) (execute a s) (execute b s)))
    -- switch (6.8.4.2), and its block, whose declarations a jump passes over
    execute (typed.switch t e first count all) s = tick s (λ s.
        then_do (evaluate p call e s) (λ v s. tick s (λ s.
        then_do (label_for (converted t v) (labels_of all) 0 None (all_renewed objects first count s)) (λ label s.
        then_do (execute_from label all s) after_switch))))
    -- loops (6.8.5.1 to 6.8.5.3)
    execute (typed.while e a) s = tick s (λ s. turns s.clock (evaluate p call e) (execute a) (evaluate_or p call None) s)
    execute (typed.do_while a e) s = tick s (λ s. then_do (execute a s) (λ flow s.
        after_body flow s (λ s. turns s.clock (evaluate p call e) (execute a) (evaluate_or p call None) s)))
    execute (typed.for declared start test step a) s = tick s (λ s.
        then_do (execute_all declared s) (λ flow s.
        then_do (evaluate_or p call start s) (λ v s. turns s.clock (evaluate_or p call test) (execute a) (evaluate_or p call step) s)))
    -- labels (6.8.1)
    execute (typed.case v) s = tick s (λ s. Goes Normal s)
    execute typed.default s = tick s (λ s. Goes Normal s)
    -- jumps (6.8.6.2 to 6.8.6.4)
    execute typed.break s = tick s (λ s. Goes Broken s)
    execute typed.continue s = tick s (λ s. Goes Continued s)
    execute typed.return_nothing s = tick s (λ s. Goes (Returned None) s)
    execute (typed.return_value t e) s = tick s (λ s. then_do (evaluate p call e s) (λ v s. Goes (Returned (Some (converted t v))) s))

    pub execute_all : Statements → State → Run Flow
    execute_all typed.no_statements s = Goes Normal s
    execute_all (typed.and_statement a more) s = then_do (execute a s) (λ flow s. next_after flow s (execute_all more))

    -- from the label of this number on, or nothing
    pub execute_from : Option ℕ → Statements → State → Run Flow
    execute_from label typed.no_statements s = Goes Normal s
    execute_from None (typed.and_statement a more) s = Goes Normal s
    execute_from (Some k) (typed.and_statement a more) s = choose (nat_lt k (length (labels_at a)))
        (then_do (execute a s) (λ flow s. next_after flow s (execute_all more)))
        (execute_from (Some (k - length (labels_at a))) more s)
