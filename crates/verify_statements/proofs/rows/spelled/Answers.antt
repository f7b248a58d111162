use Rattle.std.proofs.Common.{List, ℕ, ap, refl, sym, subst, ◌∙◌}
use Rattle.std.specs.Prelude.{slice_get}
use Rattle.std.proofs.lemmas.Option.{slice_get_read}
use Rattle.verify_expressions.specs.Views.{frame_of, state_of}
use Rattle.verify_statements.specs.Rows.{RowSpells}
use Rattle.verify_statements.proofs.RowRules.{text_row, text_there}
use Rattle.verify_statements.proofs.rows.spelled.Goals as goal

pub returns-in_ok-state2-in-Some : goal.returns-in_ok-state2-in-Some
returns-in_ok-state2-in-Some c =
    let n = c.args.text in
    let x = c.in-Some.characters.now in
    let P : List ℕ → Type 0 = λ text. RowSpells (frame_of c.args.scope.now) c.args.element text c.args.x c.args.n 0 (state_of c.args.state) (state_of c.in_ok-state2-in-Some.state2) in
    text_row _ n x.items _ _ _ _ _
    (text_there c.args.scope.now.program.now.literals.items n x (sym (ap (λ ts. slice_get ts n) c.deref.ensures.value) ∙ slice_get_read c.deref.result.now _ n x refl c.in-Some.ensures.lookup.3.0 c.in-Some.ensures.lookup.1))
    (subst P c.deref-in-Some.ensures.value c.in_ok-state2-in-Some.ensures)
