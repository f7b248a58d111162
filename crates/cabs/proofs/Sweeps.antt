-- What the machine does in several ticks, and the parts that are evaluated on the spot.
use Rattle.std.proofs.Common.{◌≡◌, ◌<◌, ℕ, zero, suc, ◌+◌, ◌-◌, List, [], ◌∷◌, ◌++◌, length, map, Option, Some, None, refl, sym, ap, ◌∙◌, subst, arith, Bor}
use Rattle.std.specs.Prelude.{Bool, Result, Ok, Err, true, false, ⊤}
use Rattle.ctypes.specs.declared.operators.Undef.{Undef}
use Rattle.std.specs.Bool.{OnTrue, OnFalse}
use Rattle.typing_spec.specs.Program as typed
use Rattle.typed_ast.specs.declared.units.Program as unit
use Rattle.typed_ast.specs.declared.expressions.Argument.{Argument}
use Rattle.typed_ast.specs.declared.statements.Statement.{Statement}
use Rattle.typed_ast.specs.View.{Given, argument_of, arguments_of, program_of, statement_of, statements_of}
use Rattle.typing_spec.specs.Types.{ObjectType}
use Rattle.srcset.specs.declared.refusal.Pos.{Pos}
use Rattle.csem.specs.Expressions as meaning
use Rattle.interp_store.specs.declared.frames.Passed.{Passed}
use Rattle.csem.specs.History.{Entry}
use Rattle.io_ports.specs.Port.{PortView}
use Rattle.csem.specs.Machine as machine
use Rattle.csem.specs.Machine.{State, Goes, Stops, choose, tick, then_do}
use Rattle.interp_store.specs.declared.machine.Machine.{Machine}
use Rattle.interp_store.specs.declared.scene.Scene.{Scene}
use Rattle.interp_store.specs.declared.frames.Step.{Step}
use Rattle.interp_store.specs.declared.stop.Stop.{Stop}
use Rattle.interp_store.specs.declared.stop.Stop.TheVariants as stop
use Rattle.interp_store.specs.layer.Frames as on
use Rattle.interp_store.specs.layer.Frames.{Moved, moves, halts, enters, leaves}
use Rattle.interp_store.specs.layer.Presents.{given, after, presented, resume, resumed, call_in}
use Rattle.interp_store.specs.layer.Steps.{asked_for, counted, entered, left, started, waits}
use Rattle.interp_store.specs.layer.Views.{passed_of, step_of}
use Rattle.interp_store.specs.layer.Agrees.{Outside, state_in, onto, Takes, frames_of}
use Rattle.interp_store.proofs.Resumes.{node_enters, frame_leaves, resume_more}
use Rattle.interp_store.proofs.Adequate.{real}
use Rattle.interp_eval.specs.declared.clock.Clock.{Clock}
use Rattle.interp_eval.specs.declared.clock.Why.{Why}
use Rattle.interp_eval.specs.declared.clock.Why.TheVariants as why
use Rattle.interp_eval.specs.layer.Comes.{Course, state_at, Leads, Comes, StopsBy, Idles}
use Rattle.interp_eval.proofs.Comings.{no_tick}
use Rattle.cabs.specs.declared.state.Interpreter.{Interpreter}
use Rattle.cabs.specs.inside.Standing.{Grows, Outset, Runs, Stands, Whole, left_of, waiting}
use Rattle.cabs.specs.inside.Sweeping.{After, AskedOn, AsksOn, ComesTo, FindsHere, FoundFor, Sweeps, steps_to}
use Rattle.cabs.proofs.Begun.{done_kept}
use Rattle.cabs.proofs.Telling.{tells_as}
use Rattle.cabs.proofs.AtOnce.{goes_to, then_resumed}
use Rattle.cabs.proofs.Following.{onto_resumed, resume_stops}

pub on_true : (P : Type 0) (b : Bool) → b ≡ true → OnTrue b P → P
on_true P b e h = let Q : Bool → Type 0 = λ b. OnTrue b P in subst Q e h

pub on_false : (P : Type 0) (b : Bool) → b ≡ false → OnFalse b P → P
on_false P b e h = let Q : Bool → Type 0 = λ b. OnFalse b P in subst Q e h

pub picks_true : (b : Bool) (x y : Moved) → b ≡ true → choose b x y ≡ x
picks_true b x y e = ap (λ b. choose b x y) e

pub picks_false : (b : Bool) (x y : Moved) → b ≡ false → choose b x y ≡ y
picks_false b x y e = ap (λ b. choose b x y) e

abbrev outside_at : Course → ℕ → Outside
outside_at c n = record { clock = n; input = c.input; history = c.history }

-- ---- a step before a call stops for want of memory alone

abbrev pub Moves : Moved → Type 0
Moves (moves pushed step s) = ⊤
Moves (halts e s) = ⊥

no_halt : (fs : List on.Frame) (m : Moved) (e : machine.Ending) (s : State) → Moves m → onto fs m ≡ halts e s → ⊥
no_halt fs (moves pushed step now) e s k same = absurd (cc same)
no_halt fs (halts other now) e s k same = k

nowhere : Outside
nowhere = record { clock = 0; input = []; history = [] }

pub never_ends : (step : typed.Program → State → Moved) → ((p : typed.Program) (s : State) → Moves (step p s)) → (old new : Machine) (r : Result Step Stop) (n : ℕ) → r ≡ Err (stop.Ended n) → Takes step old r new → ⊥
never_ends step k old new r n e takes =
    let P : Result Step Stop → Type 0 = λ r. Takes step old r new in
    let p = program_of old.program.now in
    no_halt (frames_of old) (step p (state_in old.scene nowhere)) (machine.Ended n) (state_in new.scene nowhere) (k p (state_in old.scene nowhere)) (subst P e takes nowhere)

pub never_undefined : (step : typed.Program → State → Moved) → ((p : typed.Program) (s : State) → Moves (step p s)) → (old new : Machine) (r : Result Step Stop) (act : Undef) (at : Pos) →
    r ≡ Err (stop.Undefined act at) → Takes step old r new → ⊥
never_undefined step k old new r act at e takes =
    let P : Result Step Stop → Type 0 = λ r. Takes step old r new in
    let p = program_of old.program.now in
    no_halt (frames_of old) (step p (state_in old.scene nowhere)) (machine.Undefined act at) (state_in new.scene nowhere) (k p (state_in old.scene nowhere)) (subst P e takes nowhere)

module _ (c : Course) (p : typed.Program) where
  -- ---- a tick

  -- is taken
  pub ticked : (k k2 : ℕ) (fs : List on.Frame) (scene : Scene) (x : on.Node) (b : Bool) → b ≡ true → OnTrue b (k2 ≡ k + 1) → After c p k fs scene (steps_to (enters x)) →
      After c p k2 fs scene (λ s. entered p x s)
  ticked k k2 fs scene x b on t h = record {
    is_left = λ n.
        let same : suc n + k ≡ n + k2 = omega (arith, on_true (k2 ≡ k + 1) b on t) in
        sym (ap (resume p (call_in p) fs) (node_enters p (call_in p) (real p) x (state_at c scene (suc n)))) ∙ h.is_left (suc n) ∙ ap c.whole same;
  }

  pub ticked_as : (k k2 : ℕ) (fs : List on.Frame) (scene : Scene) (x y : on.Node) (b : Bool) → x ≡ y → b ≡ true → OnTrue b (k2 ≡ k + 1) → After c p k fs scene (steps_to (enters x)) →
      After c p k2 fs scene (λ s. entered p y s)
  ticked_as k k2 fs scene x y b e fact t h = let P : on.Node → Type 0 = λ x. After c p k2 fs scene (λ s. entered p x s) in subst P e (ticked k k2 fs scene x b fact t h)

  ticking : (k : ℕ) (fs : List on.Frame) (scene : Scene) (x : on.Node) → After c p k fs scene (steps_to (enters x)) →
      Leads c k scene (λ s. tick s (λ s. resumed p (call_in p) (entered p x s))) (goes_to p fs)
  ticking k fs scene x h = record {
    is_left = λ n.
        then_resumed p fs (tick (state_at c scene n) (λ s. resumed p (call_in p) (entered p x s)))
        ∙ ap (resume p (call_in p) fs) (sym (node_enters p (call_in p) (real p) x (state_at c scene n))) ∙ h.is_left n;
  }

  -- or none is left
  pub unticked : (limit k : ℕ) (new : Clock) (fs : List on.Frame) (scene : Scene) (x : on.Node) (b : Bool) → b ≡ false → OnFalse b (Idles new.why new.spent limit) →
      OnFalse b (new.spent ≡ k) → After c p k fs scene (steps_to (enters x)) → StopsBy c limit new.why new.spent scene
  unticked limit k new fs scene x b off i e h =
      no_tick c limit k new scene (λ s. resumed p (call_in p) (entered p x s)) (goes_to p fs) b off i e (ticking k fs scene x h)

  -- ---- a frame waits for a node

  -- it is on the stack
  pub on_stack : (k k2 : ℕ) (fs gs : List on.Frame) (scene scene2 : Scene) (f : on.Frame) (x : on.Node) → k2 ≡ k → gs ≡ fs ++ f ∷ [] → scene2 ≡ scene → After c p k fs scene (λ s. waits f x s) →
      After c p k2 gs scene2 (steps_to (enters x))
  on_stack k k2 fs gs scene scene2 f x same pushed e h = record {
    is_left = λ n.
        ap (λ fs. resume p (call_in p) fs (presented p (call_in p) x (state_at c scene2 n))) pushed
        ∙ resume_more p (call_in p) fs (f ∷ []) (presented p (call_in p) x (state_at c scene2 n))
        ∙ ap (λ scene. resume p (call_in p) fs (resume p (call_in p) (f ∷ []) (presented p (call_in p) x (state_at c scene n)))) e
        ∙ h.is_left n ∙ ap (λ k. c.whole (n + k)) (sym same);
  }

  -- or it is not, and the node is evaluated on the spot
  module _ {A B : Type 0} (view : A → B) (g : B → on.Found) (part : State → machine.Run B) (x : on.Node) (is : (s : State) → presented p (call_in p) x s ≡ given g (part s)) (f : on.Frame)
      (limit k : ℕ) (fs : List on.Frame) (scene : Scene) (r : Option A) (new : Clock) (later : Scene)
      (does : (rest : B → State → machine.Run on.Found) → Leads c k scene part rest → Comes view c rest limit r new later)
      (h : After c p k fs scene (λ s. waits f x s)) where
    abbrev then_frame : B → State → machine.Run on.Found
    then_frame b s = resume p (call_in p) fs (after p (call_in p) f (g b) s)

    framed : (r : machine.Run B) → then_do r then_frame ≡ resume p (call_in p) fs (then_do (given g r) (after p (call_in p) f))
    framed (Goes b s) = refl
    framed (Stops e s) = sym (resume_stops p (call_in p) fs e s)

    spot : Leads c k scene part then_frame
    spot = record {
      is_left = λ n.
          framed (part (state_at c scene n)) ∙ ap (λ r. resume p (call_in p) fs (then_do r (after p (call_in p) f))) (sym (is (state_at c scene n))) ∙ h.is_left n;
    }

    pub found_on_spot : (a : A) → r ≡ Some a → After c p new.spent fs later (λ s. left p f (g (view a)) s)
    found_on_spot a e =
        let P : Option A → Type 0 = λ r. Comes view c then_frame limit r new later in
        let came : P (Some a) = subst P e (does then_frame spot) in
        record {
          is_left = λ n. ap (resume p (call_in p) fs) (sym (frame_leaves p (call_in p) (real p) f (g (view a)) (state_at c later n))) ∙ came n;
        }

    pub stopped_on_spot : r ≡ None → StopsBy c limit new.why new.spent later
    stopped_on_spot e = let P : Option A → Type 0 = λ r. Comes view c then_frame limit r new later in subst P e (does then_frame spot)

  pub found_for : {A B : Type 0} (view : A → B) (g : B → on.Found) (part : State → machine.Run B) (x : on.Node) → ((s : State) → presented p (call_in p) x s ≡ given g (part s)) → (f : on.Frame) (limit k : ℕ)
      (fs : List on.Frame) (scene : Scene) (r : Option A) (new : Clock) (m : Machine) → frames_of m ≡ fs →
      ((rest : B → State → machine.Run on.Found) → Leads c k scene part rest → Comes view c rest limit r new m.scene) → After c p k fs scene (λ s. waits f x s) →
      FoundFor (λ a. g (view a)) c p f limit r new m
  found_for view g part x is f limit k fs scene (Some a) new m e does h =
      let P : List on.Frame → Type 0 = λ gs. After c p new.spent gs m.scene (λ s. left p f (g (view a)) s) in
      subst P (sym e) (found_on_spot view g part x is f limit k fs scene (Some a) new m.scene does h a refl)
  found_for view g part x is f limit k fs scene None new m e does h = stopped_on_spot view g part x is f limit k fs scene None new m.scene does h refl

  -- ---- what the machine does is the same

  pub after_as : (k : ℕ) (fs : List on.Frame) (scene : Scene) (next next2 : State → Moved) → ((s : State) → next s ≡ next2 s) → After c p k fs scene next → After c p k fs scene next2
  after_as k fs scene next next2 e h = record {
    is_left = λ n. ap (λ m. resume p (call_in p) fs (resumed p (call_in p) m)) (sym (e (state_at c scene n))) ∙ h.is_left n;
  }

  -- the objects have changed as they should
  pub after_change : (k : ℕ) (fs : List on.Frame) (old new : Scene) (change : State → State) (next : State → Moved) → ((o : Outside) → state_in new o ≡ change (state_in old o)) →
      After c p k fs old (λ s. next (change s)) → After c p k fs new next
  after_change k fs old new change next e h = record {
    is_left = λ n. ap (λ s. resume p (call_in p) fs (resumed p (call_in p) (next s))) (e (outside_at c n)) ∙ h.is_left n;
  }

  -- ---- a step of the machine in code

  module _ (k : ℕ) (old new : Machine) (next : typed.Program → State → Moved) (same : program_of old.program.now ≡ p) (h : After c p k (frames_of old) old.scene (next p)) where
    here : (n : ℕ) → resumed p (call_in p) (onto (frames_of old) (next p (state_at c old.scene n))) ≡ c.whole (n + k)
    here n = onto_resumed p (call_in p) (frames_of old) (next p (state_at c old.scene n)) ∙ h.is_left n

    pub took : (y : Step) → Takes next old (Ok y) new → After c p k (frames_of new) new.scene (steps_to (step_of y))
    took y takes =
        let P : typed.Program → Type 0 = λ p. (o : Outside) → onto (frames_of old) (next p (state_in old.scene o)) ≡ moves (frames_of new) (step_of y) (state_in new.scene o) in
        let is : P p = subst P same takes in
        record { is_left = λ n. sym (ap (resumed p (call_in p)) (is (outside_at c n))) ∙ here n }

-- ---- the run

module _ (T : List Entry → Type 0) (p : typed.Program) (all : Whole) (o : Outset) (limit k : ℕ) (mid : Interpreter) (x : on.Node) (port : PortView)
    (s : Stands T p (λ n. all (n + k)) o mid (enters x) port) (none : mid.kept ≡ None) where
  abbrev pub run_course : Course
  run_course = record { whole = all; input = s.input; history = s.history }

  swept_from : After run_course p k (frames_of mid.machine) mid.machine.scene (steps_to (enters x))
  unfolding left_of
  swept_from = record { is_left = λ n. s.follows n }

  pub swept_here : (r t : Option Step) (new : Clock) (later : Machine) → r ≡ t →
      Sweeps (λ x. steps_to (step_of x)) limit (λ p s. steps_to (enters x) s) (record { spent = k; why = why.Ticks }) mid.machine r new later →
      ComesTo (λ x. steps_to (step_of x)) run_course p limit t new later
  swept_here r t new later e does =
      let P : typed.Program → Type 0 = λ q. After run_course q k (frames_of mid.machine) mid.machine.scene (steps_to (enters x)) → ComesTo (λ x. steps_to (step_of x)) run_course q limit r new later in
      let Q : Option Step → Type 0 = λ r. ComesTo (λ x. steps_to (step_of x)) run_course p limit r new later in
      let here : P p = subst P s.program_is (does run_course) in
      subst Q e (here swept_from)

  pub sweep_goes : Grows all → (new : Interpreter) (spent : ℕ) (y : on.Step) → new.machine.program ≡ mid.machine.program → new.tally ≡ mid.tally → new.kept ≡ mid.kept → k < spent →
      After run_course p spent (frames_of new.machine) new.machine.scene (steps_to y) → Runs T p all o spent new y port
  unfolding left_of
  sweep_goes grows new spent y program t kept more h = record {
    grows = grows;
    stands = record {
      sent = s.sent;
      input = s.input;
      history = s.history;
      program_is = ap (λ (b : Bor unit.Program). program_of b.now) program ∙ s.program_is;
      follows = λ n. h.is_left n;
      input_is = s.input_is;
      output_is = s.output_is;
      bytes_are = s.bytes_are ∙ ap (λ k. s.sent ++ waiting k) (sym kept);
      done = done_kept o.input s.history s.input s.sent mid.kept new.kept kept s.done;
      tells = tells_as p s.history s.history mid.tally new.tally refl t s.tells;
      told = s.told;
    };
  }

-- ---- what was found, by its kind

pub found_some : {A : Type 0} (view : A → on.Found) (c : Course) (p : typed.Program) (f : on.Frame) (limit : ℕ) (r : Option A) (a : A) (clock : Clock) (m : Machine) → r ≡ Some a → FoundFor view c p f limit r clock m →
    After c p clock.spent (frames_of m) m.scene (λ s. left p f (view a) s)
found_some view c p f limit r a clock m e h = let P : Option _ → Type 0 = λ r. FoundFor view c p f limit r clock m in subst P e h

pub found_none : {A : Type 0} (view : A → on.Found) (c : Course) (p : typed.Program) (f : on.Frame) (limit : ℕ) (r : Option A) (clock : Clock) (m : Machine) → r ≡ None → FoundFor view c p f limit r clock m →
    StopsBy c limit clock.why clock.spent m.scene
found_none view c p f limit r clock m e h = let P : Option _ → Type 0 = λ r. FoundFor view c p f limit r clock m in subst P e h

pub comes_as : {A : Type 0} (view : A → State → Moved) (c : Course) (p q : typed.Program) (limit : ℕ) (r : Option A) (clock : Clock) (m : Machine) → p ≡ q → ComesTo view c p limit r clock m → ComesTo view c q limit r clock m
comes_as view c p q limit r clock m e h = let P : typed.Program → Type 0 = λ p. ComesTo view c p limit r clock m in subst P e h

pub stops_for : (c : Course) (limit spent : ℕ) (scene : Scene) (v w : Why) → w ≡ v → StopsBy c limit v spent scene → StopsBy c limit w spent scene
stops_for c limit spent scene v w e h = let P : Why → Type 0 = λ w. StopsBy c limit w spent scene in subst P (sym e) h

pub no_memory : (c : Course) (limit spent : ℕ) (scene : Scene) (w : Why) → w ≡ why.Memory → StopsBy c limit w spent scene
no_memory c limit spent scene w e = stops_for c limit spent scene why.Memory w e tt

-- where a function left the program as it was
pub on_with : {A : Type 0} (view : A → State → Moved) (limit : ℕ) (next : typed.Program → State → Moved) (c : Course) (p : typed.Program) (before later : Machine) (old new : Clock) (r : Option A) → program_of before.program.now ≡ p →
    Sweeps view limit next old before r new later → After c p old.spent (frames_of before) before.scene (next p) → ComesTo view c p limit r new later
on_with view limit next c p before later old new r e does h =
    let P : typed.Program → Type 0 = λ p. After c p old.spent (frames_of before) before.scene (next p) → ComesTo view c p limit r new later in
    let here : P p = subst P e (does c) in
    here h

pub finds_with : {A B : Type 0} (as_found : B → on.Found) (view : A → B) (limit : ℕ) (x : on.Node) (c : Course) (p : typed.Program) (before later : Machine) (old new : Clock) (r : Option A) → program_of before.program.now ≡ p →
    FindsHere as_found view limit x old before r new later → (f : on.Frame) → After c p old.spent (frames_of before) before.scene (λ s. waits f x s) → FoundFor (λ a. as_found (view a)) c p f limit r new later
finds_with as_found view limit x c p before later old new r e does f h =
    let P : typed.Program → Type 0 = λ p. After c p old.spent (frames_of before) before.scene (λ s. waits f x s) → FoundFor (λ a. as_found (view a)) c p f limit r new later in
    let here : P p = subst P e (does c f) in
    here h

-- ---- arguments

module _ (c : Course) (p : typed.Program) (at : Pos) (callee : typed.Callee) (used : Bool) where
  pub asks_with : (limit : ℕ) (argument : Given) (before later : Machine) (old new : Clock) (r : Option Passed) → program_of before.program.now ≡ p → AsksOn limit argument old before r new later →
      (more : List Given) (done : List meaning.Passed) → After c p old.spent (frames_of before) before.scene (λ s. asked_for at callee used (arguments_of (argument ∷ more)) done s) →
      AskedOn c p at callee used more done limit r new later
  asks_with limit argument before later old new r e does more done h =
      let P : typed.Program → Type 0 = λ p. After c p old.spent (frames_of before) before.scene (λ s. asked_for at callee used (arguments_of (argument ∷ more)) done s) → AskedOn c p at callee used more done limit r new later in
      let here : P p = subst P e (does c at callee used more done) in
      here h

  pub asked_head : (k : ℕ) (fs : List on.Frame) (scene : Scene) (xs : List Argument) (x : Argument) (more : List Argument) (done : List meaning.Passed) → xs ≡ x ∷ more →
      After c p k fs scene (λ s. asked_for at callee used (arguments_of (map argument_of xs)) done s) →
      After c p k fs scene (λ s. asked_for at callee used (arguments_of (argument_of x ∷ map argument_of more)) done s)
  asked_head k fs scene xs x more done e h =
      let P : List Argument → Type 0 = λ xs. After c p k fs scene (λ s. asked_for at callee used (arguments_of (map argument_of xs)) done s) in
      subst P e h

  pub asked_some : (more : List Given) (done : List meaning.Passed) (limit : ℕ) (r : Option Passed) (x : Passed) (clock : Clock) (m : Machine) → r ≡ Some x → AskedOn c p at callee used more done limit r clock m →
      After c p clock.spent (frames_of m) m.scene (λ s. asked_for at callee used (arguments_of more) (done ++ passed_of x ∷ []) s)
  asked_some more done limit r x clock m e h = let P : Option Passed → Type 0 = λ r. AskedOn c p at callee used more done limit r clock m in subst P e h

  pub asked_none : (more : List Given) (done : List meaning.Passed) (limit : ℕ) (r : Option Passed) (clock : Clock) (m : Machine) → r ≡ None → AskedOn c p at callee used more done limit r clock m →
      StopsBy c limit clock.why clock.spent m.scene
  asked_none more done limit r clock m e h = let P : Option Passed → Type 0 = λ r. AskedOn c p at callee used more done limit r clock m in subst P e h

pub no_items : {A : Type 0} (xs : List A) → length xs ≡ 0 → xs ≡ []
no_items [] e = refl
no_items (x ∷ xs) e = absurd (cc e)

-- ---- statements

pub started_head : (c : Course) (p : typed.Program) (k : ℕ) (fs : List on.Frame) (scene : Scene) (objects : List ObjectType) (xs : List Statement) (x : Statement) (more : List Statement) → xs ≡ x ∷ more →
    After c p k fs scene (λ s. started objects (statements_of (map statement_of xs)) s) →
    After c p k fs scene (λ s. waits (on.rest objects (statements_of (map statement_of more))) (on.statement objects (statement_of x)) s)
started_head c p k fs scene objects xs x more e h =
    let P : List Statement → Type 0 = λ xs. After c p k fs scene (λ s. started objects (statements_of (map statement_of xs)) s) in
    subst P e h

-- ---- ticks that come before the body of a function

pub counted_less : (p : typed.Program) (k : ℕ) (late : on.Late) (s : State) → 0 < k → counted p k late s ≡ moves [] (enters (on.ticking (k - 1) late)) s
counted_less p zero late s e = absurd (omega (arith, e))
counted_less p (suc k) late s e = let same : k ≡ suc k - 1 = omega arith in ap (λ k. moves [] (enters (on.ticking k late)) s) same

module _ (c : Course) (p : typed.Program) where
  pub ticked_if : (k k2 : ℕ) (fs : List on.Frame) (scene : Scene) (x : on.Node) (b : Bool) → OnTrue b (k2 ≡ k + 1) → After c p k fs scene (steps_to (enters x)) → OnTrue b (After c p k2 fs scene (λ s. entered p x s))
  ticked_if k k2 fs scene x true t h = ticked c p k k2 fs scene x true refl t h
  ticked_if k k2 fs scene x false t h = tt

  pub unticked_if : (limit k : ℕ) (new : Clock) (fs : List on.Frame) (scene : Scene) (x : on.Node) (b : Bool) → OnFalse b (Idles new.why new.spent limit) → OnFalse b (new.spent ≡ k) →
      After c p k fs scene (steps_to (enters x)) → OnFalse b (StopsBy c limit new.why new.spent scene)
  unticked_if limit k new fs scene x true i e h = tt
  unticked_if limit k new fs scene x false i e h = unticked c p limit k new fs scene x false refl i e h

-- ---- what comes next, by its kind

pub comes_some : {A : Type 0} (view : A → State → Moved) (c : Course) (p : typed.Program) (limit : ℕ) (r : Option A) (a : A) (clock : Clock) (m : Machine) → r ≡ Some a → ComesTo view c p limit r clock m →
    After c p clock.spent (frames_of m) m.scene (view a)
comes_some view c p limit r a clock m e h = let P : Option _ → Type 0 = λ r. ComesTo view c p limit r clock m in subst P e h

pub comes_none : {A : Type 0} (view : A → State → Moved) (c : Course) (p : typed.Program) (limit : ℕ) (r : Option A) (clock : Clock) (m : Machine) → r ≡ None → ComesTo view c p limit r clock m →
    StopsBy c limit clock.why clock.spent m.scene
comes_none view c p limit r clock m e h = let P : Option _ → Type 0 = λ r. ComesTo view c p limit r clock m in subst P e h
