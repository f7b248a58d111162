use Rattle.std.proofs.Common.{◌+◌, drop, take, subst}
use Rattle.std.proofs.lemmas.Result.{err_from_is_err_and}
use Rattle.lexer.specs.CTokens.{ctokens}
use Rattle.lexer.specs.Numbering.{TakesUp}
use Rattle.lexer.proofs.CarryLemmas.{on_err_any}
use Rattle.lexer.proofs.ReadingLemmas.{list_at, list_refused}
use Rattle.lexer.proofs.translation.all_tokens.Goals as goal

pub returns-in_err-try_take-clause-err : goal.returns-in_err-try_take-clause-err
returns-in_err-try_take-clause-err c =
    let l = c.loop-token in
    let p = err_from_is_err_and c.from_residual-in_err-try_take.result c.from_residual-in_err-try_take.ensures.1 in
    let read = c.in_err-try_take.ensures.reads (take l.token-index c.args.list.now) l.invariant.reads in
    rw (p.1, p.2) (list_refused c.try_take.new.names c.args.list.now l.token-index c.token-item.result c.try_take.new.self c.in_err-try_take.field-0.0 c.loop-token-test.true c.token-item.is c.in_err-try_take.ensures.err read)

pub returns-in_err-try_take-clause-stops : goal.returns-in_err-try_take-clause-stops
returns-in_err-try_take-clause-stops c =
    let l = c.loop-token in
    let stops = c.in_err-try_take.ensures.stops c.args.names.now (take l.token-index c.args.list.now) (drop (l.token-index + 1) c.args.list.now) l.invariant.reads l.invariant.texts in
    let whole = list_at c.args.list.now l.token-index c.token-item.result c.loop-token-test.true c.token-item.is in
    on_err_any c.from_residual-in_err-try_take.result (subst (λ x. TakesUp c.args.names.now c.try_take.new.names (ctokens x).tokens) whole stops)
