use Rattle.std.proofs.Common.{◌≡◌, ap, sym, ◌∙◌, ℤ, rules, to_z, of_z, w64}
use Rattle.std.proofs.Math.Facts.{to_z-of_z}
use Rattle.interp_store.specs.View.{reference_of}
use Rattle.interp_store.specs.layer.Frames as on
use Rattle.interp_store.specs.layer.Steps.{left_by_place, left_by_value, left_initialised}
use Rattle.interp_store.specs.layer.Views.{found_of, frame_of}
use Rattle.interp_transitions.proofs.Left.{found_as, takes_acts}
use Rattle.interp_transitions.proofs.leaving.leave.Goals as goal

pub returns-in-Value-clause-acts : goal.returns-in-Value-clause-acts
returns-in-Value-clause-acts c =
    let v : ℤ = to_z w64 (of_z w64 c.in-Value.v) in
    let same : v ≡ c.in-Value.v = search (rules, to_z-of_z) in
    found_as (found_of c.args.found) (on.a_value v) (frame_of c.args.frame) c.args.machine.now c.leave_value.new.machine c.leave_value.result
    (ap found_of c.in-Value.is ∙ sym (ap on.a_value same))
    (takes_acts c.args.machine.now c.leave_value.new.machine c.leave_value.result (λ p s. left_by_value p (frame_of c.args.frame) v s) c.leave_value.ensures.takes)

pub returns-in-Place-clause-acts : goal.returns-in-Place-clause-acts
returns-in-Place-clause-acts c = found_as (found_of c.args.found) (on.a_place (reference_of c.in-Place.r)) (frame_of c.args.frame) c.args.machine.now c.leave_found_place.new.machine c.leave_found_place.result
    (ap found_of c.in-Place.is) (takes_acts c.args.machine.now c.leave_found_place.new.machine c.leave_found_place.result (λ p s. left_by_place p (frame_of c.args.frame) (reference_of c.in-Place.r) s) c.leave_found_place.ensures.takes)

pub returns-in-Flow-clause-acts : goal.returns-in-Flow-clause-acts
returns-in-Flow-clause-acts c = found_as (found_of c.args.found) _ (frame_of c.args.frame) c.args.machine.now c.leave_flow.new.machine c.leave_flow.result
    (ap found_of c.in-Flow.is) c.leave_flow.ensures.acts

pub returns-in-Initialised-clause-acts : goal.returns-in-Initialised-clause-acts
returns-in-Initialised-clause-acts c = found_as (found_of c.args.found) on.initialised (frame_of c.args.frame) c.args.machine.now c.leave_given.new.machine c.leave_given.result
    (ap found_of c.in-Initialised.is) (takes_acts c.args.machine.now c.leave_given.new.machine c.leave_given.result (λ p s. left_initialised p (frame_of c.args.frame) s) c.leave_given.ensures.takes)
