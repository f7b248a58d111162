-- A node that is entered goes on, and arguments that are asked for: neither ends the run.
use Rattle.std.proofs.Common.{ℕ, zero, suc, ◌-◌, ◌*◌, ℤ, List, [], ◌∷◌, length, Option, Some, None}
use Rattle.std.specs.Prelude.{Bool, true, false, nat_lt, slice_get}
use Rattle.srcset.specs.declared.refusal.Pos.{Pos}
use Rattle.ctypes.specs.declared.types.IntType.{IntType}
use Rattle.typing_spec.specs.Program as typed
use Rattle.typing_spec.specs.Program.{Program}
use Rattle.typing_spec.specs.Types.{ObjectType, elements_in}
use Rattle.csem.specs.Store.{Reference}
use Rattle.csem.specs.Machine.{State, choose}
use Rattle.csem.specs.Expressions.{Passed}
use Rattle.csem.specs.Statements.{all_renewed, first_length, inner_lengths, labels_at, labels_of, renewed, same_value}
use Rattle.interp_store.specs.layer.Frames as on
use Rattle.interp_store.specs.layer.Frames.{Moved, moves, halts}
use Rattle.interp_store.specs.layer.Steps.{asked_for, behind, counted, came_late, defines, entered, entered_initialiser, entered_place, entered_statement, entered_value, from_label, listed, looped, sought, started}
use Rattle.cabs.proofs.Sweeps.{Moves}

chosen : (b : Bool) (x y : Moved) → Moves x → Moves y → Moves (choose b x y)
chosen true x y k h = k
chosen false x y k h = h

framed : (f : on.Frame) (m : Moved) → Moves m → Moves (behind f m)
framed f (moves pushed step s) k = tt
framed f (halts e s) k = k

begins : (objects : List ObjectType) (all : typed.Statements) (s : State) → Moves (started objects all s)
begins objects typed.no_statements s = tt
begins objects (typed.and_statement a more) s = tt

pub asked_moves : (at : Pos) (callee : typed.Callee) (used : Bool) (more : typed.Arguments) (before : List Passed) (s : State) → Moves (asked_for at callee used more before s)
asked_moves at callee used typed.no_arguments before s = tt
asked_moves at callee used (typed.and_number t e more) before s = tt
asked_moves at callee used (typed.and_array a more) before s = tt

loops : (objects : List ObjectType) (test : Option typed.Value) (a : typed.Statement) (step : Option typed.Value) (s : State) → Moves (looped objects test a step s)
loops objects None a step s = tt
loops objects (Some e) a step s = tt

labelled : (objects : List ObjectType) (label : Option ℕ) (all : typed.Statements) (s : State) → Moves (from_label objects label all s)
labelled objects label typed.no_statements s = tt
labelled objects None (typed.and_statement a more) s = tt
labelled objects (Some k) (typed.and_statement a more) s =
    chosen (nat_lt k (length (labels_at a))) _ _ tt (labelled objects (Some (k - length (labels_at a))) more s)

seeks : (objects : List ObjectType) (v : ℤ) (labels : List (Option ℤ)) (n : ℕ) (default : Option ℕ) (all : typed.Statements) (s : State) → Moves (sought objects v labels n default all s)
seeks objects v [] n default all s = framed on.in_switch _ (labelled objects default all s)
seeks objects v (None ∷ labels) n default all s = seeks objects v labels (suc n) (Some n) all s
seeks objects v (Some c ∷ labels) n default all s = tt

module _ (p : Program) where
  late : (what : on.Late) (s : State) → Moves (came_late p what s)
  late (on.puts_text t count n r) s = tt
  late (on.puts_zeros count i r) s = tt
  late (on.enters_body objects body) s = tt

  counts : (k : ℕ) (what : on.Late) (s : State) → Moves (counted p k what s)
  counts zero what s = late what s
  counts (suc k) what s = tt

  places : (a : typed.Place) (s : State) → Moves (entered_place p a s)
  places (typed.named at what) s = tt
  places (typed.element at array index) s = tt

  values : (e : typed.Value) (s : State) → Moves (entered_value p e s)
  values (typed.constant t v) s = tt
  values (typed.read t a) s = framed _ _ (places a s)
  values (typed.assigned at t a e) s = tt
  values (typed.compound at op t of a e) s = tt
  values (typed.stepped at moment op t of a) s = tt
  values (typed.unary at op t e) s = tt
  values (typed.binary at op t a b) s = tt
  values (typed.both_true a b) s = tt
  values (typed.one_true a b) s = tt
  values (typed.chosen t c a b) s = tt
  values (typed.sequence a b) s = tt
  values (typed.cast t e) s = tt
  values (typed.discarded e) s = tt
  values (typed.call at callee result used arguments) s = asked_moves at callee used arguments [] s

  defined : (t : Option ObjectType) (n : ℕ) (i : typed.Initialiser) (s : State) → Moves (defines p t n i s)
  defined None n i s = tt
  defined (Some t) n i s = tt

  statements : (objects : List ObjectType) (a : typed.Statement) (s : State) → Moves (entered_statement p objects a s)
  statements objects typed.empty s = tt
  statements objects (typed.evaluate e) s = tt
  statements objects (typed.declare n) s = tt
  statements objects (typed.define n i) s = defined (slice_get objects n) n i (renewed objects n s)
  statements objects (typed.block first count all) s = begins objects all (all_renewed objects first count s)
  statements objects (typed.branch e a) s = tt
  statements objects (typed.branches e a b) s = tt
  statements objects (typed.switch t e first count all) s = tt
  statements objects (typed.case v) s = tt
  statements objects typed.default s = tt
  statements objects (typed.while e a) s = tt
  statements objects (typed.do_while a e) s = tt
  statements objects (typed.for declared start test step a) s = framed _ _ (begins objects declared s)
  statements objects typed.break s = tt
  statements objects typed.continue s = tt
  statements objects typed.return_nothing s = tt
  statements objects (typed.return_value t e) s = tt

  lists : (all : typed.Initialisers) (t : IntType) (k i : ℕ) (lengths : List ℕ) (r : Reference) (s : State) → Moves (listed p all t k i lengths r s)
  lists typed.no_initialisers t k i lengths r s = counts (k * elements_in lengths) (on.puts_zeros k i r) s
  lists (typed.and_initialiser x more) t k i lengths r s = tt

  initialisers : (i : typed.Initialiser) (t : IntType) (lengths : List ℕ) (r : Reference) (s : State) → Moves (entered_initialiser p i t lengths r s)
  initialisers (typed.one_value u e) t lengths r s = framed _ _ (values e s)
  initialisers (typed.text n) t lengths r s = counts (first_length lengths) (on.puts_text t (first_length lengths) n r) s
  initialisers (typed.in_braces i) t lengths r s = tt
  initialisers (typed.list all) t lengths r s = lists all t (first_length lengths) 0 (inner_lengths lengths) r s

  pub entered_moves : (x : on.Node) (s : State) → Moves (entered p x s)
  entered_moves (on.place a) s = places a s
  entered_moves (on.value e) s = values e s
  entered_moves (on.statement objects a) s = statements objects a s
  entered_moves (on.initialiser i t lengths r) s = initialisers i t lengths r s
  entered_moves (on.element r v) s = tt
  entered_moves (on.ticking more what) s = counts more what s
  entered_moves (on.switch_block objects v first count all) s = seeks objects v (labels_of all) 0 None all (all_renewed objects first count s)
  entered_moves (on.case_test objects v c labels n default all) s =
      chosen (same_value c v) _ _ (framed on.in_switch _ (labelled objects (Some n) all s)) (seeks objects v labels (suc n) default all s)
