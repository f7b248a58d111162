use Rattle.std.proofs.Common.{rules, ◌≡◌, ◌∙◌, ℤ, ap, sym, to_z, of_z, w64}
use Rattle.std.proofs.Math.Facts.{to_z-of_z}
use Rattle.interp_store.specs.layer.Frames as on
use Rattle.interp_store.specs.layer.Views.{found_of, kept_of}
use Rattle.interp_transitions.proofs.Left.{found_as}
use Rattle.cabs.proofs.leaving.leave_kept.Goals as goal

pub returns-in-Value-clause-acts : goal.returns-in-Value-clause-acts
returns-in-Value-clause-acts c =
    let v : ℤ = to_z w64 (of_z w64 c.in-Value.v) in
    let same : v ≡ c.in-Value.v = search (rules, to_z-of_z) in
    found_as (found_of c.args.found) (on.a_value v) (kept_of c.args.kept) c.args.machine.now c.leave_value.new.machine c.leave_value.result (ap found_of c.in-Value.is ∙ sym (ap on.a_value same)) c.leave_value.ensures.acts

pub returns-in-Flow-clause-acts : goal.returns-in-Flow-clause-acts
returns-in-Flow-clause-acts c = found_as (found_of c.args.found) _ (kept_of c.args.kept) c.args.machine.now c.leave_flow.new.machine c.leave_flow.result (ap found_of c.in-Flow.is) c.leave_flow.ensures.acts

pub returns-in-Place-clause-acts : goal.returns-in-Place-clause-acts
returns-in-Place-clause-acts c = found_as (found_of c.args.found) _ (kept_of c.args.kept) c.args.machine.now c.leave_any.new.machine c.leave_any.result (ap found_of c.in-Place.is) c.leave_any.ensures.acts

pub returns-in-Initialised-clause-acts : goal.returns-in-Initialised-clause-acts
returns-in-Initialised-clause-acts c = found_as (found_of c.args.found) _ (kept_of c.args.kept) c.args.machine.now c.leave_any-in-Initialised.new.machine c.leave_any-in-Initialised.result (ap found_of c.in-Initialised.is) c.leave_any-in-Initialised.ensures.acts
