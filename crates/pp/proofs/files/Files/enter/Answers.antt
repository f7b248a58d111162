use Rattle.std.proofs.Common.{◌≡◌, ◌<◌, ◌+◌, ◌∷◌, sym, ap, subst, ◌∙◌}
use Rattle.std.proofs.lemmas.Result.{err_from_is_err_and}
use Rattle.pp.specs.declared.places.Presumed.{Presumed}
use Rattle.pp.specs.Left.{Left, room_of}
use Rattle.pp.specs.inside.Including.{size_of, weight}
use Rattle.pp.proofs.StackLemmas.{includer_of, begun_held, entered_left, entered_stops, entered_less}
use Rattle.pp.proofs.files.Files.enter.Goals as goal

pub returns-in_err-reading-clause-left : goal.returns-in_err-reading-clause-left
returns-in_err-reading-clause-left c names texts set made o w e =
    let q = err_from_is_err_and c.from_residual.result c.from_residual.ensures.1 in
    rw (q.1, q.2) (entered_stops c.in_err-reading.field-0.0 names c.args.state.now set texts c.args.self.now.innermost c.args.self.now.includers.items c.args.source.now made o w e c.in_err-reading.ensures.err)

pub returns-clause-left : goal.returns-clause-left
returns-clause-left c names texts set made o w e =
    let held = c.args.state.now in
    let old = c.args.self.now in
    let is : c.push_front.new.self.items ≡ includer_of old.innermost held ∷ old.includers.items =
    c.in_ok-push_front.ensures.items ∙ ap (λ r. includer_of r held ∷ old.includers.items) c.replace.ensures.value in
    subst (λ (p : Presumed). Left names (record held { presumed = p }) set texts c.replace.new.dest c.push_front.new.self.items o) (sym c.physical-state.ensures)
    (subst (λ k. Left names (begun_held c.args.source.now.name held) set texts c.replace.new.dest k o) (sym is)
    (subst (λ r. Left names (begun_held c.args.source.now.name held) set texts r (includer_of old.innermost held ∷ old.includers.items) o) (sym c.replace.ensures.after)
    (entered_left names held set texts old.innermost old.includers.items c.args.source.now made o c.in_ok-reading.reading w e c.in_ok-reading.ensures.ok)))

pub returns-clause-less : goal.returns-clause-less
returns-clause-less c further e =
    let held = c.args.state.now in
    let old = c.args.self.now in
    let is : c.push_front.new.self.items ≡ includer_of old.innermost held ∷ old.includers.items =
    c.in_ok-push_front.ensures.items ∙ ap (λ r. includer_of r held ∷ old.includers.items) c.replace.ensures.value in
    let most = size_of old.innermost old.includers.items + weight (room_of old.includers.items) in
    subst (λ k. size_of c.replace.new.dest k < most) (sym is)
    (subst (λ r. size_of r (includer_of old.innermost held ∷ old.includers.items) < most) (sym c.replace.ensures.after)
    (entered_less old.innermost old.includers.items held c.args.source.now c.in_ok-reading.reading further e c.in_ok-reading.ensures.ok))
