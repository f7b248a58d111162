use Rattle.std.proofs.Common.{◌≡◌, ◌<◌, ◌+◌, ◌-◌, ◌*◌, ap, refl, ◌∙◌, arith, rules}
use Rattle.typing_spec.specs.Types.{elements_in}
use Rattle.csem.specs.Machine.{Goes}
use Rattle.csem.specs.Statements.{first_length, inner_lengths, zeros}
use Rattle.interp_store.specs.View.{reference_of}
use Rattle.interp_store.specs.layer.Agrees.{Outside, state_in}
use Rattle.interp_eval.specs.layer.Comes.{nothing}
use Rattle.interp_eval.proofs.Comings.{all_taken, on_false, on_true, ticks_short, gave_now}
use Rattle.interp_eval.proofs.Flows.{moved}
use Rattle.interp_eval.proofs.Firsts.{as_many}
use Rattle.interp_eval.proofs.initialisers.zeros.Goals as goal

pub returns-then-not-ticks-clause-does : goal.returns-then-not-ticks-clause-does
returns-then-not-ticks-clause-does c = λ run rest h.
    let inner = inner_lengths c.args.of.lengths.now in
    let k = first_length c.args.of.lengths.now - c.args.first in
    let count : c.saturating_sub-count.result ≡ k = search (rules) in
    let many = as_many inner c.inner_of-inner.result.now k c.saturating_sub-count.result c.inner_of-inner.ensures count in
    let few = on_false (c.args.scope.now.limit < c.args.clock.now.spent + c.element_count.result) c.ticks.result c.if-not-ticks.true c.ticks.ensures.short in
    let short : c.args.scope.now.limit < c.args.clock.now.spent + k * elements_in inner = omega (arith, few, c.element_count.ensures.most, many) in
    ticks_short run c.args.clock.now.spent (k * elements_in inner) c.args.scene.now _ rest h
    c.args.scope.now.limit c.ticks.new.self c.ticks.result c.if-not-ticks.true c.ticks.ensures.idle short c.requires.room

pub returns-then-not-ticks-clause-here : goal.returns-then-not-ticks-clause-here
returns-then-not-ticks-clause-here c = λ q none. c.ticks.ensures.here c.if-not-ticks.true

pub returns-in-Ok-clause-does : goal.returns-in-Ok-clause-does
returns-in-Ok-clause-does c = λ run rest h.
    let r = reference_of c.args.r.now in
    let inner = inner_lengths c.args.of.lengths.now in
    let k = first_length c.args.of.lengths.now - c.args.first in
    let count : c.saturating_sub-count.result ≡ k = search (rules) in
    let many = as_many inner c.inner_of-inner.result.now k c.saturating_sub-count.result c.inner_of-inner.ensures count in
    let spent = on_true (c.ticks.new.self.spent ≡ c.args.clock.now.spent + c.element_count.result) c.ticks.result c.if-not-ticks.false c.ticks.ensures.taken in
    let taken : c.ticks.new.self.spent ≡ c.args.clock.now.spent + k * elements_in inner = omega (arith, spent, c.ticks.ensures.spends, c.element_count.ensures.exact, many) in
    let is : (o : Outside) → state_in c.clear.new.scene o ≡ zeros k c.args.first r (state_in c.args.scene.now o) = λ o. c.in-Ok.ensures.ok o
    ∙ ap (λ k. zeros k c.args.first r (state_in c.args.scene.now o)) count in
    gave_now nothing run c.args.scope.now.limit c.clear.new.scene tt rest tt c.ticks.new.self refl
    (moved run c.ticks.new.self.spent c.args.scene.now c.clear.new.scene (zeros k c.args.first r) (λ s. Goes tt s) rest is
    (all_taken run c.args.clock.now.spent (k * elements_in inner) c.args.scene.now (λ u s. Goes tt (zeros k c.args.first r s)) rest h c.ticks.new.self.spent taken))
