use Rattle.std.proofs.Common.{Ok, subst}
use Rattle.pp_expand.specs.Expansion.{Known}
use Rattle.pp.specs.inside.Calls.{Calls}
use Rattle.pp.proofs.RunLemmas.{reaches_first, reaches_next, reaches_end, reaches_refusal}
use Rattle.pp.proofs.pulling.refusal_by.Goals as goal

pub behind-init : goal.behind-init
behind-init c = λ macros texts is keeps g. reaches_first (record { macros = macros; texts = texts }) c.args.names.now c.args.run.now c.args.budget.now g

pub behind-preserved : goal.behind-preserved
behind-preserved c = λ macros texts is keeps g.
    let l = c.behind in
    let k : Known = record { macros = macros; texts = texts } in
    let r = l.invariant macros texts is keeps g in
    let call = subst (λ o. Calls k l.run c.try_next.new.self l.budget c.try_next.new.budget (Ok o)) c.in-Some.is (c.in-Ok.ensures.pulls macros texts is keeps r.going.knows r.going.not_refused) in
    reaches_next k c.args.names.now c.args.run.now l.run c.try_next.new.self c.args.budget.now l.budget c.try_next.new.budget c.in-Some._token r call
    (c.try_next.ensures.known macros is r.going.knows) c.try_next.ensures.end c.in-Ok.ensures.refused

pub behind-preserved-in-Some : goal.behind-preserved-in-Some
behind-preserved-in-Some c = λ macros texts is keeps g.
    let l = c.behind in
    let k : Known = record { macros = macros; texts = texts } in
    let r = l.invariant macros texts is keeps g in
    let call = subst (λ o. Calls k l.run c.try_next.new.self l.budget c.try_next.new.budget (Ok o)) c.in-Some.is (c.in-Ok.ensures.pulls macros texts is keeps r.going.knows r.going.not_refused) in
    reaches_next k c.args.names.now c.args.run.now l.run c.try_next.new.self c.args.budget.now l.budget c.try_next.new.budget c.in-Some._token r call
    (c.try_next.ensures.known macros is r.going.knows) c.try_next.ensures.end c.in-Ok.ensures.refused

pub returns-in_default : goal.returns-in_default
returns-in_default c = λ macros texts is keeps g.
    let l = c.behind in
    let k : Known = record { macros = macros; texts = texts } in
    let r = l.invariant macros texts is keeps g in
    reaches_end k c.args.names.now c.args.run.now l.run c.try_next.new.self c.args.budget.now l.budget c.try_next.new.budget c.args.at r
    (subst (λ o. Calls k l.run c.try_next.new.self l.budget c.try_next.new.budget (Ok o)) c.in_default.is (c.in-Ok.ensures.pulls macros texts is keeps r.going.knows r.going.not_refused))

pub returns-in-Err : goal.returns-in-Err
returns-in-Err c = λ macros texts is keeps g.
    let l = c.behind in
    let r = l.invariant macros texts is keeps g in
    reaches_refusal (record { macros = macros; texts = texts }) c.args.names.now c.args.run.now l.run c.try_next.new.self c.args.budget.now l.budget
    c.try_next.new.budget c.args.at c.in-Err.refusal r (c.in-Err.ensures.pulls macros texts is keeps r.going.knows r.going.not_refused)
