-- The frames, nodes and steps of the definition that the code's values hold.
use Rattle.std.specs.Prelude.{map, option_map, [], Some, None}
use Rattle.typed_ast.specs.View.{place_of, value_of, statement_of, statements_of, initialiser_of, initialisers_of, argument_of, arguments_of, object_type_of, callee_of, moment_of}
use Rattle.csem.specs.Expressions as meaning
use Rattle.csem.specs.Statements as statements
use Rattle.interp_store.specs.declared.frames.Flow.{Flow}
use Rattle.interp_store.specs.declared.frames.Flow.TheVariants as flow
use Rattle.interp_store.specs.declared.frames.Found.{Found}
use Rattle.interp_store.specs.declared.frames.Found.TheVariants as found
use Rattle.interp_store.specs.declared.frames.Passed.{Passed}
use Rattle.interp_store.specs.declared.frames.Passed.TheVariants as passed
use Rattle.interp_store.specs.declared.frames.Late.{Late}
use Rattle.interp_store.specs.declared.frames.Late.TheVariants as late
use Rattle.interp_store.specs.declared.frames.Node.{Node}
use Rattle.interp_store.specs.declared.frames.Node.TheVariants as node
use Rattle.interp_store.specs.declared.frames.Step.{Step}
use Rattle.interp_store.specs.declared.frames.Step.TheVariants as step
use Rattle.interp_store.specs.declared.frames.Back.{Back}
use Rattle.interp_store.specs.declared.frames.Back.TheVariants as back
use Rattle.interp_store.specs.declared.frames.PlaceFrame.{PlaceFrame}
use Rattle.interp_store.specs.declared.frames.PlaceFrame.TheVariants as place
use Rattle.interp_store.specs.declared.frames.OperandFrame.{OperandFrame}
use Rattle.interp_store.specs.declared.frames.OperandFrame.TheVariants as operand
use Rattle.interp_store.specs.declared.frames.ControlFrame.{ControlFrame}
use Rattle.interp_store.specs.declared.frames.ControlFrame.TheVariants as control
use Rattle.interp_store.specs.declared.frames.FlowFrame.{FlowFrame}
use Rattle.interp_store.specs.declared.frames.FlowFrame.TheVariants as flows
use Rattle.interp_store.specs.declared.frames.InitialiserFrame.{InitialiserFrame}
use Rattle.interp_store.specs.declared.frames.InitialiserFrame.TheVariants as initialiser
use Rattle.interp_store.specs.declared.frames.Frame.{Frame}
use Rattle.interp_store.specs.declared.frames.Frame.TheVariants as frame
use Rattle.interp_store.specs.declared.kept.Call.{Call}
use Rattle.interp_store.specs.declared.kept.Kept.{Kept}
use Rattle.interp_store.specs.declared.kept.Kept.TheVariants as kept
use Rattle.csem.specs.Store.{whole}
use Rattle.interp_store.specs.View.{reference_of}
use Rattle.interp_store.specs.layer.Digits.{number_of}
use Rattle.interp_store.specs.layer.Frames as on

abbrev pub flow_of : Flow → statements.Flow
flow_of flow.Normal = statements.Normal
flow_of flow.Broken = statements.Broken
flow_of flow.Continued = statements.Continued
flow_of (flow.Returned v) = statements.Returned v

abbrev pub found_of : Found → on.Found
found_of (found.Value v) = on.a_value v
found_of (found.Place r) = on.a_place (reference_of r)
found_of (found.Flow f) = on.a_flow (flow_of f)
found_of found.Initialised = on.initialised

abbrev pub passed_of : Passed → meaning.Passed
passed_of (passed.Number v) = meaning.Number v
passed_of (passed.Referred r) = meaning.Referred (reference_of r)

abbrev pub late_of : Late → on.Late
late_of (late.PutsText t count n r) = on.puts_text t count n (reference_of r)
late_of (late.PutsZeros count i r) = on.puts_zeros count i (reference_of r)
late_of (late.EntersBody objects body) = on.enters_body (map object_type_of objects.now) (statement_of body.now)

abbrev pub node_of : Node → on.Node
node_of (node.Place a) = on.place (place_of a.now)
node_of (node.Value e) = on.value (value_of e.now)
node_of (node.Statement objects a) = on.statement (map object_type_of objects.now) (statement_of a.now)
node_of (node.Initialiser i t lengths r) = on.initialiser (initialiser_of i.now) t lengths.now (reference_of r)
node_of (node.Element r v) = on.element (reference_of r) v
node_of (node.Ticking more what) = on.ticking more (late_of what)
node_of (node.TickingLong digits what) = on.ticking (number_of digits.items) (late_of what)
node_of (node.SwitchBlock v block) =
    on.switch_block (map object_type_of block.objects.now) v block.first block.count (statements_of (map statement_of block.all.now.items))
node_of (node.CaseTest t) = on.case_test (map object_type_of t.objects.now) t.value t.case
    (statements.labels_of (statements_of (map statement_of t.more.now))) t.number t.default (statements_of (map statement_of t.all.now.items))

abbrev pub step_of : Step → on.Step
step_of (step.Enters n) = on.enters (node_of n)
step_of (step.Leaves x) = on.leaves (found_of x)
step_of (step.Calls at callee used passed) = on.calls at (callee_of callee) used (map passed_of passed.items)

abbrev pub back_of : Back → on.Back
back_of (back.ToCaller at used) = on.to_caller at used
back_of back.ToEnd = on.to_end

-- ---- frames

abbrev pub place_frame : PlaceFrame → on.Frame
place_frame (place.Indexes at index) = on.indexes at (value_of index.now)
place_frame (place.Reads at) = on.reads at
place_frame (place.Assigns at t e) = on.assigns at t (value_of e.now)
place_frame (place.Compounds c e) = on.compounds c.at c.op c.ty c.of c.read_at (value_of e.now)
place_frame (place.Steps s) = on.steps s.at (moment_of s.moment) s.op s.ty s.of s.read_at
place_frame (place.ArrayPassed a) =
    on.array_passed a.at (callee_of a.callee) a.used (arguments_of (map argument_of a.more.now)) (map passed_of a.before.items)

abbrev pub operand_frame : OperandFrame → on.Frame
operand_frame (operand.IndexOf at r) = on.index_of at (reference_of r)
operand_frame (operand.Stores at t r) = on.stores at t (reference_of r)
operand_frame (operand.Combines c r) = on.combines c.at c.op c.ty c.of c.read_at (reference_of r)
operand_frame (operand.Signs at op t) = on.signs at op t
operand_frame (operand.Right at op t b) = on.right at op t (value_of b.now)
operand_frame (operand.Applies at op t a) = on.applies at op t a
operand_frame (operand.AndAlso b) = on.and_also (value_of b.now)
operand_frame (operand.OrElse b) = on.or_else (value_of b.now)
operand_frame operand.TellsTruth = on.tells_truth
operand_frame (operand.Chooses t a b) = on.chooses t (value_of a.now) (value_of b.now)
operand_frame (operand.Converts t) = on.converts t
operand_frame (operand.ThenValue b) = on.then_value (value_of b.now)
operand_frame (operand.NumberPassed t a) =
    on.number_passed a.at (callee_of a.callee) a.used t (arguments_of (map argument_of a.more.now)) (map passed_of a.before.items)

abbrev pub control_frame : ControlFrame → on.Frame
control_frame (control.Gives t r) = on.gives t (reference_of r)
control_frame control.Forgets = on.forgets
control_frame (control.IfTrue objects a) = on.if_true (map object_type_of objects.now) (statement_of a.now.value)
control_frame (control.IfElse objects a b) = on.if_else (map object_type_of objects.now) (statement_of a.now.value) (statement_of b.now.value)
control_frame (control.Switches t block) =
    on.switches (map object_type_of block.objects.now) t block.first block.count (statements_of (map statement_of block.all.now.items))
control_frame (control.Tests l) = on.tests (map object_type_of l.objects.now)
    (option_map (λ e. value_of e.now) l.test) (statement_of l.body.now.value) (option_map (λ e. value_of e.now) l.step)
control_frame (control.Loops l) = on.loops (map object_type_of l.objects.now)
    (option_map (λ e. value_of e.now) l.test) (statement_of l.body.now.value) (option_map (λ e. value_of e.now) l.step)
control_frame (control.GivesBack t) = on.gives_back t

abbrev pub flow_frame : FlowFrame → on.Frame
flow_frame (flows.Returns r) = on.returns (back_of r.back) r.is_main r.count r.base (map reference_of r.arrays.items)
flow_frame (flows.Rest objects more) = on.rest (map object_type_of objects.now) (statements_of (map statement_of more.now))
flow_frame flows.InSwitch = on.in_switch
flow_frame (flows.Turn l) = on.turn (map object_type_of l.objects.now)
    (option_map (λ e. value_of e.now) l.test) (statement_of l.body.now.value) (option_map (λ e. value_of e.now) l.step)
flow_frame (flows.ForStarts start l) = on.for_starts (map object_type_of l.objects.now) (option_map (λ e. value_of e.now) start)
    (option_map (λ e. value_of e.now) l.test) (statement_of l.body.now.value) (option_map (λ e. value_of e.now) l.step)

abbrev pub initialiser_frame : InitialiserFrame → on.Frame
initialiser_frame (initialiser.NextPart l) =
    on.next_part (initialisers_of (map initialiser_of l.more.now)) l.ty l.count l.number l.lengths.now (reference_of l.array)
initialiser_frame initialiser.Defined = on.defined

abbrev pub frame_of : Frame → on.Frame
frame_of (frame.Place f) = place_frame f
frame_of (frame.Operand f) = operand_frame f
frame_of (frame.Control f) = control_frame f
frame_of (frame.Flow f) = flow_frame f
frame_of (frame.Initialiser f) = initialiser_frame f

-- ---- frames as the stack stores them

abbrev pub call_frame : Call → on.Frame
call_frame c = on.returns (on.to_caller (record { file = c.file; line = c.line }) c.used) c.is_main c.count c.base []

abbrev pub kept_of : Kept → on.Frame
kept_of (kept.Indexes at index) = on.indexes at (value_of index.now)
kept_of (kept.Reads at) = on.reads at
kept_of (kept.Assigns at t e) = on.assigns at t (value_of e.now)
kept_of (kept.Steps s) = place_frame (place.Steps s)
kept_of (kept.IndexOf at n) = on.index_of at (whole n)
kept_of (kept.Stores at t n) = on.stores at t (whole n)
kept_of (kept.Signs at op t) = on.signs at op t
kept_of (kept.Right at op t b) = on.right at op t (value_of b.now)
kept_of (kept.Applies at op t a) = on.applies at op t a
kept_of (kept.AndAlso b) = on.and_also (value_of b.now)
kept_of (kept.OrElse b) = on.or_else (value_of b.now)
kept_of kept.TellsTruth = on.tells_truth
kept_of (kept.Chooses t a b) = on.chooses t (value_of a.now) (value_of b.now)
kept_of (kept.Converts t) = on.converts t
kept_of (kept.ThenValue b) = on.then_value (value_of b.now)
kept_of kept.Forgets = on.forgets
kept_of (kept.IfTrue objects a) = on.if_true (map object_type_of objects.now) (statement_of a.now.value)
kept_of (kept.IfElse objects a b) = on.if_else (map object_type_of objects.now) (statement_of a.now.value) (statement_of b.now.value)
kept_of (kept.Tests objects test body) =
    control_frame (control.Tests (record { objects = objects; test = Some test; body = body; step = None }))
kept_of (kept.TestsStepped objects test body step) =
    control_frame (control.Tests (record { objects = objects; test = Some test; body = body; step = Some step }))
kept_of (kept.Loops objects body step) =
    control_frame (control.Loops (record { objects = objects; test = None; body = body; step = Some step }))
kept_of (kept.LoopsTested objects test body step) =
    control_frame (control.Loops (record { objects = objects; test = Some test; body = body; step = Some step }))
kept_of (kept.GivesBack t) = on.gives_back t
kept_of (kept.Returns c) = call_frame c
kept_of (kept.Rest objects more) = on.rest (map object_type_of objects.now) (statements_of (map statement_of more.now))
kept_of kept.InSwitch = on.in_switch
kept_of (kept.Turn objects body) =
    flow_frame (flows.Turn (record { objects = objects; test = None; body = body; step = None }))
kept_of (kept.TurnTested objects test body) =
    flow_frame (flows.Turn (record { objects = objects; test = Some test; body = body; step = None }))
kept_of (kept.TurnStepped objects body step) =
    flow_frame (flows.Turn (record { objects = objects; test = None; body = body; step = Some step }))
kept_of (kept.TurnOfBoth objects test body step) =
    flow_frame (flows.Turn (record { objects = objects; test = Some test; body = body; step = Some step }))
kept_of kept.Defined = on.defined
kept_of (kept.Other f) = frame_of f.value
