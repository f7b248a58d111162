use Rattle.std.proofs.Common.{◌≡◌, ◌∷◌, map, drop, ap, sym, subst, ◌∙◌, rules, arith}
use Rattle.typing_spec.specs.Program as typed
use Rattle.typed_ast.specs.View.{value_of, place_of, argument_of, moment_of}
use Rattle.lower_exprs.specs.layer.Sizes as size
use Rattle.lower_exprs.specs.inside.Ends.{AreEnds}
use Rattle.lower_ops.proofs.Held.{sees_element}
use Rattle.lower_exprs.proofs.Held.{sees_read, sees_assigned, sees_compound, sees_stepped, sees_unary, sees_binary}
use Rattle.lower_exprs.proofs.Passed.{size_begins, size_goes, size_ends, plus_within, nodes_left}
use Rattle.lower_exprs.proofs.sizes.+value_sizes.Goals as goal

pub place_size-returns-in-Element : goal.place_size-returns-in-Element
place_size-returns-in-Element t c =
    let s = c.in-Element in
    c.element_size.ensures s.field-0
    ∙ ap (λ x. size.place_size (typed.element s.field-0 (place_of x) (value_of c.deref-in-Element.result.now))) c.deref.ensures
    ∙ ap (λ x. size.place_size (typed.element s.field-0 (place_of s.array.value) (value_of x))) c.deref-in-Element.ensures
    ∙ ap size.place_size (sym (sees_element c.args.place.now s.field-0 s.array s.index s.is))

pub unary_size-returns-in-Not : goal.unary_size-returns-in-Not
unary_size-returns-in-Not t c = λ at u. rw c.in-Not.is (c.not_size.ensures at u)

pub value_size-returns-in-Read : goal.value_size-returns-in-Read
value_size-returns-in-Read t c =
    let s = c.in-Read in
    c.read_size.ensures s.field-0
    ∙ ap (λ x. size.value_size (typed.read s.field-0 (place_of x)) c.args.shape) c.deref.ensures
    ∙ ap (λ v. size.value_size v c.args.shape) (sym (sees_read c.args.e.now s.field-0 s.place s.is))

pub value_size-returns-in-Assigned : goal.value_size-returns-in-Assigned
value_size-returns-in-Assigned t c =
    let s = c.in-Assigned in
    c.assigned_size.ensures s.field-0
    ∙ ap (λ x. size.value_size (typed.assigned s.field-0 s.ty (place_of x) (value_of c.deref-in-Assigned-2.result.now)) c.args.shape) c.deref-in-Assigned.ensures
    ∙ ap (λ x. size.value_size (typed.assigned s.field-0 s.ty (place_of s.place.value) (value_of x)) c.args.shape) c.deref-in-Assigned-2.ensures
    ∙ ap (λ v. size.value_size v c.args.shape) (sym (sees_assigned c.args.e.now s.field-0 s.ty s.place s.e s.is))

pub value_size-returns-in-Compound : goal.value_size-returns-in-Compound
value_size-returns-in-Compound t c =
    let s = c.in-Compound in
    c.compound_size.ensures s.field-0 s.field-3
    ∙ ap (λ x. size.value_size (typed.compound s.field-0 s.op s.ty s.field-3 (place_of x) (value_of c.deref-in-Compound-2.result.now)) c.args.shape) c.deref-in-Compound.ensures
    ∙ ap (λ x. size.value_size (typed.compound s.field-0 s.op s.ty s.field-3 (place_of s.place.value) (value_of x)) c.args.shape) c.deref-in-Compound-2.ensures
    ∙ ap (λ v. size.value_size v c.args.shape) (sym (sees_compound c.args.e.now s.field-0 s.op s.ty s.field-3 s.place s.e s.is))

pub value_size-returns-in-Stepped : goal.value_size-returns-in-Stepped
value_size-returns-in-Stepped t c =
    let s = c.in-Stepped in
    c.stepped_size.ensures s.field-0 s.field-4
    ∙ ap (λ x. size.value_size (typed.stepped s.field-0 (moment_of s.moment) s.op s.ty s.field-4 (place_of x)) c.args.shape) c.deref-in-Stepped.ensures
    ∙ ap (λ v. size.value_size v c.args.shape) (sym (sees_stepped c.args.e.now s.field-0 s.moment s.op s.ty s.field-4 s.place s.is))

pub value_size-returns-in-Unary : goal.value_size-returns-in-Unary
value_size-returns-in-Unary t c =
    let s = c.in-Unary in
    c.unary_size.ensures s.field-0 s.field-2 ∙ ap (λ x. size.value_size (typed.unary s.field-0 s.op s.field-2 (value_of x)) c.args.shape) c.deref-in-Unary.ensures
    ∙ ap (λ v. size.value_size v c.args.shape) (sym (sees_unary c.args.e.now s.field-0 s.op s.field-2 s.e s.is))

pub value_size-returns-in-Binary : goal.value_size-returns-in-Binary
value_size-returns-in-Binary t c =
    let s = c.in-Binary in
    c.binary_size.ensures s.field-0 s.field-2
    ∙ ap (λ x. size.value_size (typed.binary s.field-0 s.op s.field-2 (value_of x) (value_of c.deref-in-Binary-2.result.now)) c.args.shape) c.deref-in-Binary.ensures
    ∙ ap (λ x. size.value_size (typed.binary s.field-0 s.op s.field-2 (value_of s.a.value) (value_of x)) c.args.shape) c.deref-in-Binary-2.ensures
    ∙ ap (λ v. size.value_size v c.args.shape) (sym (sees_binary c.args.e.now s.field-0 s.op s.field-2 s.a s.b s.is))

pub passes_size-loop-argument-init : goal.passes_size-loop-argument-init
passes_size-loop-argument-init t c = record { so_far = size_begins (map argument_of c.args.arguments.now); within = omega arith; fewer = omega arith; ends = c.of-ends.ensures }

pub passes_size-loop-argument-preserved : goal.passes_size-loop-argument-preserved
passes_size-loop-argument-preserved t c =
    let l = c.loop-argument in
    let rest : l.rest.now ≡ c.in-Some.argument.now ∷ c.in-Some.more.now = search rules in
    record {
      so_far = size_goes l.size c.argument_size.result c.plus-size.result c.in-Some.argument.now c.in-Some.more.now l.rest.now _ rest c.argument_size.ensures c.plus-size.ensures l.invariant.so_far;
      within = plus_within c.plus-size.result _ _ c.plus-size.ensures;
      fewer = omega (arith, nodes_left c.in-Some.argument.now c.in-Some.more.now l.rest.now _ rest l.invariant.fewer);
      ends = subst (AreEnds c.behind-ends.result) (ap (drop 1) rest) (c.behind-ends.ensures l.rest.now l.invariant.ends);
    }

pub passes_size-returns : goal.passes_size-returns
passes_size-returns t c = size_ends c.loop-argument.size c.loop-argument.rest.now _ c.loop-argument.invariant.within (search rules) c.loop-argument.invariant.so_far
