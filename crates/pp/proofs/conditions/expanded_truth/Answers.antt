use Rattle.std.proofs.Common.{Ok, refl, sym, ap, subst}
use Rattle.macros.specs.Table.{IsTable}
use Rattle.pp_expand.specs.Expansion.{Known}
use Rattle.pp.specs.declared.state.State.{State as Held}
use Rattle.pp.specs.inside.Calls.{Calls}
use Rattle.pp.proofs.StateLemmas.{expand_gives, expand_stops}
use Rattle.pp.proofs.ConditionLemmas.{condition_gives, condition_stops}
use Rattle.pp.proofs.TruthLemmas.{read_none, read_one, read_all, read_fault}
use Rattle.pp.proofs.conditions.expanded_truth.Goals as goal

pub loop-next-init : goal.loop-next-init
loop-next-init c = record {
  same = refl;
  reads = λ macros texts is keeps.
      read_none (record { macros = macros; texts = texts }) c.args.names.now c.args.tokens.items c.args.state.now.budget c.new-reader.result c.new-expander.result c.new-reader.ensures
      (c.new-expander.ensures.known c.args.names.now c.requires.files) c.new-expander.ensures.end c.new-expander.ensures.refused (c.new-expander.ensures.left texts);
}

pub loop-next-preserved : goal.loop-next-preserved
loop-next-preserved c =
    let l = c.loop-next in
    record {
      same = ap (λ (s : Held). record s { budget = c.try_next.new.budget }) l.invariant.same;
      reads = λ macros texts is keeps.
          let k : Known = record { macros = macros; texts = texts } in
          let now = subst (λ t. IsTable c.args.names.now t macros) (sym (ap (λ (s : Held). s.table) l.invariant.same)) is in
          let r = l.invariant.reads macros texts is keeps in
          let call = subst (λ o. Calls k l.expander c.try_next.new.self l.state.budget c.try_next.new.budget (Ok o)) c.in-Some.is (c.in-Ok.ensures.pulls macros texts now keeps r.knows r.not_refused) in
          read_one k c.args.names.now c.args.tokens.items c.args.state.now.budget l.reader c.take.new.self l.expander c.try_next.new.self l.state.budget c.try_next.new.budget c.in-Some.token r call
          c.in_default-take.ensures.ok (c.try_next.ensures.known macros now r.knows) c.try_next.ensures.end c.in-Ok.ensures.refused;
    }

pub loop-next-preserved-in_default-take : goal.loop-next-preserved-in_default-take
loop-next-preserved-in_default-take c =
    let l = c.loop-next in
    record {
      same = ap (λ (s : Held). record s { budget = c.try_next.new.budget }) l.invariant.same;
      reads = λ macros texts is keeps.
          let k : Known = record { macros = macros; texts = texts } in
          let now = subst (λ t. IsTable c.args.names.now t macros) (sym (ap (λ (s : Held). s.table) l.invariant.same)) is in
          let r = l.invariant.reads macros texts is keeps in
          let call = subst (λ o. Calls k l.expander c.try_next.new.self l.state.budget c.try_next.new.budget (Ok o)) c.in-Some.is (c.in-Ok.ensures.pulls macros texts now keeps r.knows r.not_refused) in
          read_one k c.args.names.now c.args.tokens.items c.args.state.now.budget l.reader c.take.new.self l.expander c.try_next.new.self l.state.budget c.try_next.new.budget c.in-Some.token r call
          c.in_default-take.ensures.ok (c.try_next.ensures.known macros now r.knows) c.try_next.ensures.end c.in-Ok.ensures.refused;
    }

pub returns-in_default-clause-asks : goal.returns-in_default-clause-asks
returns-in_default-clause-asks c texts s keeps a =
    let l = c.loop-next in
    let held = c.args.state.now in
    let new : Held = record l.state { budget = c.try_next.new.budget } in
    let k : Known = record { macros = s.macros; texts = texts } in
    let now = subst (λ t. IsTable c.args.names.now t s.macros) (sym (ap (λ (s : Held). s.table) l.invariant.same)) a.table_is in
    let r = l.invariant.reads s.macros texts a.table_is keeps in
    let call = subst (λ o. Calls k l.expander c.try_next.new.self l.state.budget c.try_next.new.budget (Ok o)) c.in_default.is (c.in-Ok.ensures.pulls s.macros texts now keeps r.knows r.not_refused) in
    let all = read_all k c.args.names.now c.args.tokens.items held.budget l.reader l.expander c.try_next.new.self l.state.budget c.try_next.new.budget r call in
    let g = expand_gives texts c.args.names.now c.args.tokens.items r.front held new s a all (ap (λ (s : Held). s.table) l.invariant.same) (ap (λ (s : Held). s.given) l.invariant.same) (ap (λ (s : Held). s.presumed) l.invariant.same) in
    condition_gives c.truth.result texts c.args.names.now new c.args.tokens.items r.front c.args.at s g (c.truth.ensures.ok r.front r.has_read) (c.truth.ensures.err r.front r.has_read)

pub returns-in-Err-clause-asks : goal.returns-in-Err-clause-asks
returns-in-Err-clause-asks c texts s keeps a =
    let l = c.loop-next in
    let held = c.args.state.now in
    let k : Known = record { macros = s.macros; texts = texts } in
    let now = subst (λ t. IsTable c.args.names.now t s.macros) (sym (ap (λ (s : Held). s.table) l.invariant.same)) a.table_is in
    let r = l.invariant.reads s.macros texts a.table_is keeps in
    condition_stops c.in-Err.refusal texts c.args.names.now c.args.tokens.items c.args.at s
    (expand_stops c.in-Err.refusal texts c.args.names.now c.args.tokens.items held held.budget s a
    (read_fault k c.args.names.now c.args.tokens.items held.budget l.reader l.expander c.try_next.new.self l.state.budget c.try_next.new.budget c.in-Err.refusal r (c.in-Err.ensures.pulls s.macros texts now keeps r.knows r.not_refused)))
