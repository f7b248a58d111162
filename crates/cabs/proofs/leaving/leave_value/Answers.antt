use Rattle.std.proofs.Common.{rules, ◌≡◌, ◌∙◌, ap, sym, to_z, of_z, w64}
use Rattle.std.proofs.Math.Facts.{to_z-of_z}
use Rattle.interp_store.specs.layer.Frames as on
use Rattle.interp_store.specs.layer.Steps.{left_by_value}
use Rattle.interp_store.specs.layer.Views.{kept_of}
use Rattle.interp_transitions.proofs.Left.{found_as, takes_acts, value_as}
use Rattle.cabs.proofs.leaving.leave_value.Goals as goal

pub returns-in-Right-clause-acts : goal.returns-in-Right-clause-acts
returns-in-Right-clause-acts c =
    let m = c.args.machine.now in
    let i = c.in-Right in
    takes_acts m c.leave_operand.new.machine c.leave_operand.result (λ p s. left_by_value p (kept_of c.args.kept) c.args.v s)
    (value_as (kept_of c.args.kept) _ c.args.v _ m c.leave_operand.new.machine c.leave_operand.result (ap kept_of i.is) (to_z-of_z c.ranges.v) c.leave_operand.ensures.takes)

pub returns-in-Applies-clause-acts : goal.returns-in-Applies-clause-acts
returns-in-Applies-clause-acts c =
    let m = c.args.machine.now in
    let i = c.in-Applies in
    let same : to_z w64 (of_z w64 i.a) ≡ i.a = search (rules, to_z-of_z) in
    takes_acts m c.leave_operand-in-Applies.new.machine c.leave_operand-in-Applies.result (λ p s. left_by_value p (kept_of c.args.kept) c.args.v s)
    (value_as (kept_of c.args.kept) _ c.args.v _ m c.leave_operand-in-Applies.new.machine c.leave_operand-in-Applies.result (ap kept_of i.is ∙ ap (on.applies i.at i.op i.ty) (sym same)) (to_z-of_z c.ranges.v) c.leave_operand-in-Applies.ensures.takes)

pub returns-in-Converts-clause-acts : goal.returns-in-Converts-clause-acts
returns-in-Converts-clause-acts c =
    let m = c.args.machine.now in
    let i = c.in-Converts in
    takes_acts m c.leave_operand-in-Converts.new.machine c.leave_operand-in-Converts.result (λ p s. left_by_value p (kept_of c.args.kept) c.args.v s)
    (value_as (kept_of c.args.kept) _ c.args.v _ m c.leave_operand-in-Converts.new.machine c.leave_operand-in-Converts.result (ap kept_of i.is) (to_z-of_z c.ranges.v) c.leave_operand-in-Converts.ensures.takes)

pub returns-in-Forgets-clause-acts : goal.returns-in-Forgets-clause-acts
returns-in-Forgets-clause-acts c =
    let m = c.args.machine.now in
    let i = c.in-Forgets in
    takes_acts m c.leave_control.new.machine c.leave_control.result (λ p s. left_by_value p (kept_of c.args.kept) c.args.v s)
    (value_as (kept_of c.args.kept) _ c.args.v _ m c.leave_control.new.machine c.leave_control.result (ap kept_of i.is) (to_z-of_z c.ranges.v) c.leave_control.ensures.takes)

pub returns-in-GivesBack-clause-acts : goal.returns-in-GivesBack-clause-acts
returns-in-GivesBack-clause-acts c =
    let m = c.args.machine.now in
    let i = c.in-GivesBack in
    takes_acts m c.leave_control-in-GivesBack.new.machine c.leave_control-in-GivesBack.result (λ p s. left_by_value p (kept_of c.args.kept) c.args.v s)
    (value_as (kept_of c.args.kept) _ c.args.v _ m c.leave_control-in-GivesBack.new.machine c.leave_control-in-GivesBack.result (ap kept_of i.is) (to_z-of_z c.ranges.v) c.leave_control-in-GivesBack.ensures.takes)

pub returns-in-TestsStepped-clause-acts : goal.returns-in-TestsStepped-clause-acts
returns-in-TestsStepped-clause-acts c =
    let m = c.args.machine.now in
    let i = c.in-TestsStepped in
    takes_acts m c.leave_control-in-TestsStepped.new.machine c.leave_control-in-TestsStepped.result (λ p s. left_by_value p (kept_of c.args.kept) c.args.v s)
    (value_as (kept_of c.args.kept) _ c.args.v _ m c.leave_control-in-TestsStepped.new.machine c.leave_control-in-TestsStepped.result (ap kept_of i.is) (to_z-of_z c.ranges.v) c.leave_control-in-TestsStepped.ensures.takes)

pub returns-in-LoopsTested-clause-acts : goal.returns-in-LoopsTested-clause-acts
returns-in-LoopsTested-clause-acts c =
    let m = c.args.machine.now in
    let i = c.in-LoopsTested in
    takes_acts m c.leave_control-in-LoopsTested.new.machine c.leave_control-in-LoopsTested.result (λ p s. left_by_value p (kept_of c.args.kept) c.args.v s)
    (value_as (kept_of c.args.kept) _ c.args.v _ m c.leave_control-in-LoopsTested.new.machine c.leave_control-in-LoopsTested.result (ap kept_of i.is) (to_z-of_z c.ranges.v) c.leave_control-in-LoopsTested.ensures.takes)

pub returns-in-Tests-clause-acts : goal.returns-in-Tests-clause-acts
returns-in-Tests-clause-acts c =
    let m = c.args.machine.now in
    let i = c.in-Tests in
    takes_acts m c.leave_control-in-Tests.new.machine c.leave_control-in-Tests.result (λ p s. left_by_value p (kept_of c.args.kept) c.args.v s)
    (value_as (kept_of c.args.kept) _ c.args.v _ m c.leave_control-in-Tests.new.machine c.leave_control-in-Tests.result (ap kept_of i.is) (to_z-of_z c.ranges.v) c.leave_control-in-Tests.ensures.takes)

pub returns-in-IfTrue-clause-acts : goal.returns-in-IfTrue-clause-acts
returns-in-IfTrue-clause-acts c =
    let m = c.args.machine.now in
    let i = c.in-IfTrue in
    takes_acts m c.leave_control-in-IfTrue.new.machine c.leave_control-in-IfTrue.result (λ p s. left_by_value p (kept_of c.args.kept) c.args.v s)
    (value_as (kept_of c.args.kept) _ c.args.v _ m c.leave_control-in-IfTrue.new.machine c.leave_control-in-IfTrue.result (ap kept_of i.is) (to_z-of_z c.ranges.v) c.leave_control-in-IfTrue.ensures.takes)

pub returns-in-IfElse-clause-acts : goal.returns-in-IfElse-clause-acts
returns-in-IfElse-clause-acts c =
    let m = c.args.machine.now in
    let i = c.in-IfElse in
    takes_acts m c.leave_control-in-IfElse.new.machine c.leave_control-in-IfElse.result (λ p s. left_by_value p (kept_of c.args.kept) c.args.v s)
    (value_as (kept_of c.args.kept) _ c.args.v _ m c.leave_control-in-IfElse.new.machine c.leave_control-in-IfElse.result (ap kept_of i.is) (to_z-of_z c.ranges.v) c.leave_control-in-IfElse.ensures.takes)

pub returns-in-Stores-clause-acts : goal.returns-in-Stores-clause-acts
returns-in-Stores-clause-acts c =
    let m = c.args.machine.now in
    let i = c.in-Stores in
    takes_acts m c.leave_operand-in-Stores.new.machine c.leave_operand-in-Stores.result (λ p s. left_by_value p (kept_of c.args.kept) c.args.v s)
    (value_as (kept_of c.args.kept) _ c.args.v _ m c.leave_operand-in-Stores.new.machine c.leave_operand-in-Stores.result (ap kept_of i.is ∙ ap (on.stores i.at i.ty) (sym c.whole-r.ensures)) (to_z-of_z c.ranges.v) c.leave_operand-in-Stores.ensures.takes)

pub returns-in-AndAlso-clause-acts : goal.returns-in-AndAlso-clause-acts
returns-in-AndAlso-clause-acts c =
    let m = c.args.machine.now in
    let i = c.in-AndAlso in
    takes_acts m c.leave_operand-in-AndAlso.new.machine c.leave_operand-in-AndAlso.result (λ p s. left_by_value p (kept_of c.args.kept) c.args.v s)
    (value_as (kept_of c.args.kept) _ c.args.v _ m c.leave_operand-in-AndAlso.new.machine c.leave_operand-in-AndAlso.result (ap kept_of i.is) (to_z-of_z c.ranges.v) c.leave_operand-in-AndAlso.ensures.takes)

pub returns-in-OrElse-clause-acts : goal.returns-in-OrElse-clause-acts
returns-in-OrElse-clause-acts c =
    let m = c.args.machine.now in
    let i = c.in-OrElse in
    takes_acts m c.leave_operand-in-OrElse.new.machine c.leave_operand-in-OrElse.result (λ p s. left_by_value p (kept_of c.args.kept) c.args.v s)
    (value_as (kept_of c.args.kept) _ c.args.v _ m c.leave_operand-in-OrElse.new.machine c.leave_operand-in-OrElse.result (ap kept_of i.is) (to_z-of_z c.ranges.v) c.leave_operand-in-OrElse.ensures.takes)

pub returns-in-TellsTruth-clause-acts : goal.returns-in-TellsTruth-clause-acts
returns-in-TellsTruth-clause-acts c =
    let m = c.args.machine.now in
    let i = c.in-TellsTruth in
    takes_acts m c.leave_operand-in-TellsTruth.new.machine c.leave_operand-in-TellsTruth.result (λ p s. left_by_value p (kept_of c.args.kept) c.args.v s)
    (value_as (kept_of c.args.kept) _ c.args.v _ m c.leave_operand-in-TellsTruth.new.machine c.leave_operand-in-TellsTruth.result (ap kept_of i.is) (to_z-of_z c.ranges.v) c.leave_operand-in-TellsTruth.ensures.takes)

pub returns-in-Chooses-clause-acts : goal.returns-in-Chooses-clause-acts
returns-in-Chooses-clause-acts c =
    let m = c.args.machine.now in
    let i = c.in-Chooses in
    takes_acts m c.leave_operand-in-Chooses.new.machine c.leave_operand-in-Chooses.result (λ p s. left_by_value p (kept_of c.args.kept) c.args.v s)
    (value_as (kept_of c.args.kept) _ c.args.v _ m c.leave_operand-in-Chooses.new.machine c.leave_operand-in-Chooses.result (ap kept_of i.is) (to_z-of_z c.ranges.v) c.leave_operand-in-Chooses.ensures.takes)

pub returns-in_default : goal.returns-in_default
returns-in_default c = record {
  acts = found_as (on.a_value c.args.v) _ (kept_of c.args.kept) c.args.machine.now c.leave_any.new.machine c.leave_any.result (ap on.a_value (sym (to_z-of_z c.ranges.v))) c.leave_any.ensures.acts;
  program = c.leave_any.ensures.program;
}
