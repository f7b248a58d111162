-- Expressions without side effects.
use Rattle.std.specs.Prelude.{Bool, true, false, ◌&&◌}
use Rattle.typing_spec.specs.Program as typed
use Rattle.typing_spec.specs.Program.{Value, Place}

abbrev mutual
  pub quiet : Value → Bool
  quiet (typed.constant t v) = true
  quiet (typed.read t place) = quiet_place place
  quiet (typed.assigned at t place e) = false
  quiet (typed.compound at op t of place e) = false
  quiet (typed.stepped at moment op t of place) = false
  quiet (typed.unary at op t e) = quiet e
  quiet (typed.binary at op t a b) = quiet a && quiet b
  quiet (typed.both_true a b) = quiet a && quiet b
  quiet (typed.one_true a b) = quiet a && quiet b
  quiet (typed.chosen t c a b) = quiet c && (quiet a && quiet b)
  quiet (typed.sequence a b) = quiet a && quiet b
  quiet (typed.cast t e) = quiet e
  quiet (typed.discarded e) = quiet e
  quiet (typed.call at callee result used passed) = false

  pub quiet_place : Place → Bool
  quiet_place (typed.named at what) = true
  quiet_place (typed.element at array index) = quiet_place array && quiet index
