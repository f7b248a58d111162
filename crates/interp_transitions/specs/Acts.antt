-- How the code agrees with a step that also does something outside: a call begins or ends, a byte is got or put.
use Rattle.std.specs.Prelude.{Result}
use Rattle.typing_spec.specs.Program as typed
use Rattle.typed_ast.specs.View.{program_of}
use Rattle.csem.specs.Machine.{State}
use Rattle.interp_store.specs.declared.stop.Stop.{Stop}
use Rattle.interp_store.specs.declared.machine.Machine.{Machine}
use Rattle.interp_store.specs.declared.frames.Step.{Step}
use Rattle.interp_store.specs.layer.Frames.{Moved, moves, halts}
use Rattle.interp_store.specs.layer.Agrees.{Outside, state_in, onto, Agrees, frames_of}

-- the components of a state other than the objects
abbrev pub outside_of : State → Outside
outside_of s = record { clock = s.clock; input = s.input; history = s.history }

-- the clock, the input left and the history after a step
abbrev pub outside_behind : Moved → Outside
outside_behind (moves pushed step s) = outside_of s
outside_behind (halts e s) = outside_of s

-- the machine takes this step, whose clock, input left and history are the definition's
abbrev pub Acts : (typed.Program → State → Moved) → Machine → Result Step Stop → Machine → Type 0
Acts step old result new = (o : Outside) → let moved = step (program_of old.program.now) (state_in old.scene o) in
    Agrees (onto (frames_of old) moved) result (frames_of new) (state_in new.scene (outside_behind moved))
