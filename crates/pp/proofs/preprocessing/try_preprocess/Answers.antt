use Rattle.std.proofs.Common.{Ok, subst}
use Rattle.std.proofs.lemmas.Result.{err_from_is_err_and}
use Rattle.pp.specs.Phase4.{phase4}
use Rattle.pp.specs.Stream.{IsNext}
use Rattle.pp.proofs.CollectLemmas.{collect_next, collect_done, collect_refused}
use Rattle.pp.proofs.FileLemmas.{keeps_through}
use Rattle.pp.proofs.preprocessing.try_preprocess.Goals as goal

pub returns-in_err-token-clause-err : goal.returns-in_err-token-clause-err
returns-in_err-token-clause-err c =
    let p = err_from_is_err_and c.from_residual-in_err-token.result c.from_residual-in_err-token.ensures.1 in
    let l = c.tokens in
    rw (p.1, p.2) (λ texts keeps.
    let col = l.invariant.collects texts (keeps_through l.names c.try_next.new.names texts c.in_err-token.ensures.keeps keeps) in
    collect_refused c.in_err-token.field-0.0 c.args.set.now l.names c.try_next.new.names texts c.args.main.now l.pp c.try_next.new.self l.list.items col
    (c.in_err-token.ensures.answer.next texts col.rest keeps col.is_rest))

pub returns-in_err-token-clause-keeps : goal.returns-in_err-token-clause-keeps
returns-in_err-token-clause-keeps c = keeps_through c.args.names.now c.tokens.names c.try_next.new.names c.tokens.invariant.keeps c.in_err-token.ensures.keeps

pub tokens-preserved : goal.tokens-preserved
tokens-preserved c =
    let l = c.tokens in
    let next = c.in_ok-token.ensures in
    record {
      stream = next.stream;
      keeps = keeps_through c.args.names.now l.names c.try_next.new.names l.invariant.keeps next.keeps;
      collects = λ texts keeps.
          let col = l.invariant.collects texts (keeps_through l.names c.try_next.new.names texts next.keeps keeps) in
          collect_next l.names c.try_next.new.names texts l.pp c.try_next.new.self l.list.items c.push.new.self.items c.in-Some.token (phase4 c.args.set.now texts c.args.main.now) col
          (subst (λ o. IsNext (Ok o) c.try_next.new.names texts c.try_next.new.self col.rest) c.in-Some.is (next.answer.next texts col.rest keeps col.is_rest)) c.in_ok-push.ensures.items;
    }

pub returns-in_err-push-clause-keeps : goal.returns-in_err-push-clause-keeps
returns-in_err-push-clause-keeps c = keeps_through c.args.names.now c.tokens.names c.try_next.new.names c.tokens.invariant.keeps c.in_ok-token.ensures.keeps

pub returns-clause-ok : goal.returns-clause-ok
returns-clause-ok c texts keeps =
    let l = c.tokens in
    let next = c.in_ok-token.ensures in
    let col = l.invariant.collects texts (keeps_through l.names c.try_next.new.names texts next.keeps keeps) in
    collect_done c.args.set.now l.names c.try_next.new.names texts c.args.main.now l.pp c.try_next.new.self l.list.items col
    (subst (λ o. IsNext (Ok o) c.try_next.new.names texts c.try_next.new.self col.rest) c.in_default.is (next.answer.next texts col.rest keeps col.is_rest))

pub returns-clause-keeps : goal.returns-clause-keeps
returns-clause-keeps c = keeps_through c.args.names.now c.tokens.names c.try_next.new.names c.tokens.invariant.keeps c.in_ok-token.ensures.keeps

pub returns-in_err-push-clause-err : goal.returns-in_err-push-clause-err
returns-in_err-push-clause-err c =
    let p = err_from_is_err_and c.from_residual-in_err-push.result c.from_residual-in_err-push.ensures.1 in
    rw (p.1, p.2) (λ texts keeps. tt)
