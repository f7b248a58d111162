-- What is shown of a switch (6.8.1, 6.8.4.2).
use Rattle.std.specs.Prelude.{Option, Bool, true, false}
use Rattle.typing_spec.specs.Program as typed
use Rattle.typing_spec.specs.Program.{Statement, Statements}
use Rattle.verify_logic.specs.States.{Known, Frame, Implies}
use Rattle.verify_logic.specs.Statements.{Ways, Enters, Follows}

abbrev pub is_default : Statement → Bool
is_default typed.default = true
is_default typed.empty = false
is_default (typed.evaluate e) = false
is_default (typed.declare n) = false
is_default (typed.define n i) = false
is_default (typed.block first count all) = false
is_default (typed.branch e a) = false
is_default (typed.branches e a b) = false
is_default (typed.switch t e first count all) = false
is_default (typed.case v) = false
is_default (typed.while e a) = false
is_default (typed.do_while a e) = false
is_default (typed.for declared start test step a) = false
is_default typed.break = false
is_default typed.continue = false
is_default typed.return_nothing = false
is_default (typed.return_value t e) = false

abbrev pub is_label : Statement → Bool
is_label (typed.case v) = true
is_label typed.default = true
is_label typed.empty = false
is_label (typed.evaluate e) = false
is_label (typed.declare n) = false
is_label (typed.define n i) = false
is_label (typed.block first count all) = false
is_label (typed.branch e a) = false
is_label (typed.branches e a b) = false
is_label (typed.switch t e first count all) = false
is_label (typed.while e a) = false
is_label (typed.do_while a e) = false
is_label (typed.for declared start test step a) = false
is_label typed.break = false
is_label typed.continue = false
is_label typed.return_nothing = false
is_label (typed.return_value t e) = false

-- this statement of a switch may be jumped to from the state before them, or follows what was executed so far
pub record EntersOne (fr : Frame) (entry : Option Known) (so_far : Ways) (a : Statement) (w : Ways) : Type 0 where
  pub leads : (more : Statements) (out : Ways) → Enters fr entry w more out → Enters fr entry so_far (typed.and_statement a more) out

-- this label is jumped to, or follows
pub record EntersLabel (fr : Frame) (entry : Option Known) (so_far : Ways) (a : Statement) (w : Ways) : Type 0 where
  pub both : Option Known
  pub jumped : Implies entry both
  pub behind : Implies so_far.normal both
  pub follows : Follows fr (record so_far { normal = both }) a w

-- the statements of a switch, of which none was executed before
pub record EntersAll (fr : Frame) (entry : Option Known) (all : Statements) (w : Ways) : Type 0 where
  pub nothing : Ways
  pub enters : Enters fr entry nothing all w
