use Rattle.std.proofs.Common.{◌≡◌, ap, refl, sym, map, ◌∙◌}
use Rattle.std.specs.Prelude.{slice_get}
use Rattle.typed_ast.specs.View.{program_of}
use Rattle.csem.specs.Machine.{Goes}
use Rattle.csem.specs.Statements.{characters, first_length, text_or_none}
use Rattle.interp_store.specs.View.{reference_of}
use Rattle.interp_store.specs.layer.Agrees.{Outside, state_in}
use Rattle.interp_eval.specs.layer.Comes.{nothing}
use Rattle.interp_eval.proofs.Comings.{after_tick, no_tick, after_ticks, no_ticks, ticks_as, gave_now}
use Rattle.interp_eval.proofs.Flows.{moved}
use Rattle.interp_eval.proofs.initialisers.text.Goals as goal

pub returns-then-not-tick-clause-does : goal.returns-then-not-tick-clause-does
returns-then-not-tick-clause-does c = λ run rest h.
    no_tick run c.args.scope.now.limit c.args.clock.now.spent c.tick.new.self c.args.scene.now _ rest c.tick.result c.if-not-tick.true c.tick.ensures.idle c.tick.ensures.same h

pub returns-then-not-tick-clause-here : goal.returns-then-not-tick-clause-here
returns-then-not-tick-clause-here c = λ q none. c.tick.ensures.here c.if-not-tick.true

pub returns-then-not-ticks-clause-does : goal.returns-then-not-ticks-clause-does
returns-then-not-ticks-clause-does c = λ run rest h.
    no_ticks run c.tick.new.self.spent c.first_of-count.result c.args.scene.now _ rest
    (ticks_as run c.tick.new.self.spent c.args.scene.now _ rest _ c.first_of-count.result (sym c.first_of-count.ensures)
    (after_tick run c.args.clock.now.spent c.tick.new.self.spent c.args.scene.now _ rest c.tick.result c.if-not-tick.false c.tick.ensures.taken h))
    c.args.scope.now.limit c.ticks.new.self c.ticks.result c.if-not-ticks.true c.ticks.ensures.idle c.ticks.ensures.short c.tick.ensures.spends.1

pub returns-then-not-ticks-clause-here : goal.returns-then-not-ticks-clause-here
returns-then-not-ticks-clause-here c = λ q none. c.ticks.ensures.here c.if-not-ticks.true

pub returns-in-Ok-clause-does : goal.returns-in-Ok-clause-does
returns-in-Ok-clause-does c = λ run rest h.
    let p = program_of c.args.scope.now.program.now in
    let r = reference_of c.args.r.now in
    let t = c.args.of.ty in
    let k = first_length c.args.of.lengths.now in
    let what = text_or_none (slice_get p.literals c.args.n) in
    let same : c.text_of-text.result.now ≡ what = c.text_of-text.ensures ∙ ap (λ l. text_or_none (slice_get (map (λ t. t.items) l) c.args.n)) c.as_slice.ensures.value in
    let is : (o : Outside) → state_in c.put_text.new.scene o ≡ characters t k 0 what r (state_in c.args.scene.now o) = λ o. c.in-Ok.ensures.ok o
    ∙ ap (λ k. characters t k 0 c.text_of-text.result.now r (state_in c.args.scene.now o)) c.first_of-count.ensures
    ∙ ap (λ text. characters t k 0 text r (state_in c.args.scene.now o)) same in
    gave_now nothing run c.args.scope.now.limit c.put_text.new.scene tt rest tt c.ticks.new.self refl
    (moved run c.ticks.new.self.spent c.args.scene.now c.put_text.new.scene (characters t k 0 what r) (λ s. Goes tt s) rest is
    (after_ticks run c.tick.new.self.spent c.first_of-count.result c.args.scene.now (λ u s. Goes tt (characters t k 0 what r s)) rest
    (ticks_as run c.tick.new.self.spent c.args.scene.now (λ u s. Goes tt (characters t k 0 what r s)) rest k c.first_of-count.result (sym c.first_of-count.ensures)
    (after_tick run c.args.clock.now.spent c.tick.new.self.spent c.args.scene.now _ rest c.tick.result c.if-not-tick.false c.tick.ensures.taken h))
    c.ticks.new.self.spent c.ticks.result c.if-not-ticks.false c.ticks.ensures.taken))
