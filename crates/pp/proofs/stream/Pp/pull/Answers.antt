use Rattle.std.proofs.Common.{◌≡◌, ◌+◌, suc, Ok, Some, refl, sym, ap, subst, ◌∙◌, arith}
use Rattle.macros.specs.Table.{IsTable}
use Rattle.pp.specs.declared.state.State.{State as Held}
use Rattle.pp.specs.declared.stream.Stage.TheVariants.{Reads, Refused}
use Rattle.pp.specs.Phase4.{max_tokens}
use Rattle.pp.specs.Left.{run_left}
use Rattle.pp.specs.Stream.{taken_of}
use Rattle.pp.specs.inside.Calls.{CallsAll, IsRefusedAt}
use Rattle.pp.specs.inside.Reading.{Stays, IsPulled}
use Rattle.pp.proofs.StreamLemmas.{with_state, stays_first, some_given, none_given, err_given, past_given}
use Rattle.pp.proofs.stream.Pp.pull.Goals as goal

pub returns-then-not-is_pulling-clause-pulled : goal.returns-then-not-is_pulling-clause-pulled
returns-then-not-is_pulling-clause-pulled c = stays_first c.args.names.now c.args.self.now

pub returns-in_default-clause-pulled : goal.returns-in_default-clause-pulled
returns-in_default-clause-pulled c =
    let pp = c.args.self.now in
    let names = c.args.names.now in
    let run = c.pull_run.new.run in
    let left = c.pull_run.new.state.budget in
    subst (λ (s : Held). Stays names names pp (with_state s run Reads pp)) (sym c.pull_run.ensures.same)
    (none_given names pp run left (sym c.is_pulling.ensures ∙ c.if-not-is_pulling.false)
    (subst (λ o. CallsAll names pp.state.table pp.run run pp.state.budget left (Ok o)) c.in_default.is c.in-Ok.ensures.pulls) c.requires)

pub returns-then-self-lt-MAX_TOKENS-clause-pulled : goal.returns-then-self-lt-MAX_TOKENS-clause-pulled
returns-then-self-lt-MAX_TOKENS-clause-pulled c =
    let pp = c.args.self.now in
    let names = c.args.names.now in
    let run = c.pull_run.new.run in
    let left = c.pull_run.new.state.budget in
    let one : taken_of pp + 1 ≡ suc (taken_of pp) = omega arith in
    subst (λ (s : Held). IsPulled (Some c.in-Some.token) names pp (with_state (record s { given = s.given + 1 }) run pp.stage pp)) (sym c.pull_run.ensures.same)
    (some_given names pp run left (taken_of pp + 1) c.in-Some.token (sym c.is_pulling.ensures ∙ c.if-not-is_pulling.false) one
    (subst (λ o. CallsAll names pp.state.table pp.run run pp.state.budget left (Ok o)) c.in-Some.is c.in-Ok.ensures.pulls) c.pull_run.ensures.known c.pull_run.ensures.end c.in-Ok.ensures.refused)

pub returns-else-self-lt-MAX_TOKENS-clause-pulled : goal.returns-else-self-lt-MAX_TOKENS-clause-pulled
returns-else-self-lt-MAX_TOKENS-clause-pulled c =
    let pp = c.args.self.now in
    let names = c.args.names.now in
    let run = c.pull_run.new.run in
    let left = c.pull_run.new.state.budget in
    let f = c.refusal_behind-refusal.result in
    let same = c.pull_run.ensures.same in
    let count = ap (λ (s : Held). s.given) same in
    let full : taken_of pp ≡ max_tokens = omega (arith, c.if-self-lt-MAX_TOKENS.false, count, c.requires.few) in
    past_given names pp (with_state c.refusal_behind-refusal.new.state c.refusal_behind-refusal.new.run (Refused f) pp) run left c.in-Some.token f
    (sym c.is_pulling.ensures ∙ c.if-not-is_pulling.false) full
    (subst (λ o. CallsAll names pp.state.table pp.run run pp.state.budget left (Ok o)) c.in-Some.is c.in-Ok.ensures.pulls) c.pull_run.ensures.known c.pull_run.ensures.end c.in-Ok.ensures.refused
    (λ macros texts is keeps g.
    subst (λ at. IsRefusedAt f at (run_left (record { macros = macros; texts = texts }) run left)) c.pos.ensures
    (c.refusal_behind-refusal.ensures.refused macros texts (subst (λ (s : Held). IsTable names s.table macros) (sym same) is) keeps g))
    refl (ap (λ (s : Held). s.given) c.refusal_behind-refusal.ensures.same ∙ count)

pub returns-in-Err-clause-pulled : goal.returns-in-Err-clause-pulled
returns-in-Err-clause-pulled c =
    let pp = c.args.self.now in
    let f = c.in-Err.refusal in
    err_given c.args.names.now pp (with_state c.pull_run.new.state c.pull_run.new.run (Refused f) pp) c.pull_run.new.run c.pull_run.new.state.budget f
    (sym c.is_pulling.ensures ∙ c.if-not-is_pulling.false) c.in-Err.ensures.pulls refl
    (ap (λ (s : Held). s.given) c.pull_run.ensures.same)
