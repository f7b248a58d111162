use Rattle.std.proofs.Common.{◌∙◌, ◌-◌, ap, sym, arith}
use Rattle.std.specs.Prelude.{Some}
use Rattle.typing_spec.specs.Scope.{place_from}
use Rattle.typing_scopes.proofs.FirstPlaces.{newest_within, first_place, first_missing}
use Rattle.typing_scopes.proofs.first_names.FirstNames.find.Goals as goal

pub overflow_sub-result-in-Some : goal.overflow_sub-result-in-Some
overflow_sub-result-in-Some c =
    let lt = newest_within c.self.inside.backwards c.args.name c.in-Some.place (sym c.find.ensures ∙ c.in-Some.is) in omega (arith, lt, c.len.ensures)

pub returns-in-Some : goal.returns-in-Some
returns-in-Some c =
    ap (λ m. Some (m - 1 - c.in-Some.place)) c.len.ensures ∙ sym (first_place c.self.inside.backwards c.args.name c.in-Some.place (sym c.find.ensures ∙ c.in-Some.is)) ∙ ap (λ l. place_from 0 l c.args.name) c.self.view_is

pub returns-in-None : goal.returns-in-None
returns-in-None c = sym (first_missing c.self.inside.backwards 0 c.args.name (sym c.find.ensures ∙ c.in-None.is)) ∙ ap (λ l. place_from 0 l c.args.name) c.self.view_is
