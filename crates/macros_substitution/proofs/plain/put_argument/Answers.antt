use Rattle.std.proofs.Common.{◌++◌, ap, ◌∙◌, sym, append-nil, subst, OnOk, refl, ◌≡◌}
use Rattle.std.proofs.lemmas.Option.{slice_get_past, slice_get_read}
use Rattle.macros_substitution.specs.inside.Plain.{marked_held}
use Rattle.macros_substitution.proofs.PlainLaws.{held_here, held_none}
use Rattle.macros_substitution.proofs.plain.put_argument.Goals as goal

pub returns-in_default-clause-ok : goal.returns-in_default-clause-ok
returns-in_default-clause-ok c =
    sym (ap (λ t. c.args.done.now.items ++ marked_held c.args.space_before t) (held_none c.args.index c.args.arguments.now (slice_get_past c.args.arguments.now c.args.index c.in_default.ensures.lookup.3)) ∙ append-nil c.args.done.now.items)

pub returns-clause-ok : goal.returns-clause-ok
returns-clause-ok c =
    let same = c.as_slice.ensures.value ∙ held_here c.args.index c.args.arguments.now c.in-Some.argument.now (slice_get_read c.args.arguments.now _ c.args.index c.in-Some.argument.now refl c.in-Some.ensures.lookup.3.0 c.in-Some.ensures.lookup.1) in
    subst (λ t. OnOk c.put_marked.result (c.put_marked.new.done.items ≡ c.args.done.now.items ++ marked_held c.args.space_before t)) same c.put_marked.ensures.ok
