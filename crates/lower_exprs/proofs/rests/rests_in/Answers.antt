use Rattle.std.proofs.Common.{ap, sym, ◌∙◌}
use Rattle.typing_spec.specs.Program as typed
use Rattle.typed_ast.specs.View.{place_of, moment_of}
use Rattle.lower_correct.specs.Values.{rests_in}
use Rattle.lower_exprs.proofs.Held.{sees_stepped}
use Rattle.lower_exprs.proofs.rests.rests_in.Goals as goal

pub returns-in-Stepped : goal.returns-in-Stepped
returns-in-Stepped c =
    let s = c.in-Stepped in
    c.stepped_rests.ensures s.field-0 s.field-2 s.field-3 s.field-4
    ∙ ap (λ p. rests_in (typed.stepped s.field-0 (moment_of s.moment) s.field-2 s.field-3 s.field-4 (place_of p))) c.deref-in-Stepped.ensures
    ∙ ap rests_in (sym (sees_stepped c.args.e.now s.field-0 s.moment s.field-2 s.field-3 s.field-4 s.place s.is))
