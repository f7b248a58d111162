use Rattle.std.proofs.Common.{Ok, Some, None, subst}
use Rattle.std.proofs.lemmas.Result.{err_from_is_err_and}
use Rattle.lexer.proofs.Uses.{read_is_kept}
use Rattle.pp.specs.Stream.{IsAnswer}
use Rattle.pp.proofs.StreamLaws.{stream_grows}
use Rattle.cc.proofs.Streams.{keeps_all, keeps_both, nothing_read, reads_on, reads_all, stream_ends}
use Rattle.cc.proofs.token_stream.read_all.Goals as goal

pub tokens-init : goal.tokens-init
tokens-init c = record {
  stream = c.requires;
  keeps = keeps_all c.args.names.now;
  some = nothing_read c.args.names.now c.args.stream c.new-lexer.result (c.new-lexer.ensures.nothing c.args.names.now);
}

pub returns-in_err-token-clause-err : goal.returns-in_err-token-clause-err
returns-in_err-token-clause-err c =
    let l = c.tokens in
    let p = err_from_is_err_and c.from_residual.result c.from_residual.ensures.1 in
    rw (p.1, p.2) (stream_ends c.args.names.now l.names c.try_next.new.names c.args.stream l.stream c.try_next.new.self l.lexer c.in_err-token.field-0.0 l.invariant.some c.in_err-token.ensures.answer c.in_err-token.ensures.keeps)

pub returns-in_err-token-clause-keeps : goal.returns-in_err-token-clause-keeps
returns-in_err-token-clause-keeps c = keeps_both c.args.names.now c.tokens.names c.try_next.new.names c.tokens.invariant.keeps c.in_err-token.ensures.keeps

pub tokens-preserved : goal.tokens-preserved
tokens-preserved c =
    let l = c.tokens in
    let next = c.in_ok-token.ensures in
    let answer : IsAnswer (Ok (Some c.in-Some.token)) l.names c.try_next.new.names l.stream c.try_next.new.self = subst (λ o. IsAnswer (Ok o) l.names c.try_next.new.names l.stream c.try_next.new.self) c.in-Some.is next.answer in
    record {
      stream = stream_grows c.try_next.new.names c.read_one.new.names c.try_next.new.self c.read_one.ensures.keeps next.stream;
      keeps = keeps_both c.args.names.now c.try_next.new.names c.read_one.new.names (keeps_both c.args.names.now l.names c.try_next.new.names l.invariant.keeps next.keeps) c.read_one.ensures.keeps;
      some = reads_on c.args.names.now l.names c.try_next.new.names c.read_one.new.names c.args.stream l.stream c.try_next.new.self l.lexer c.read_one.new.lexer c.in-Some.token l.invariant.some answer next.keeps c.read_one.ensures.keeps c.read_one.ensures.table
          c.read_one.ensures.reads (λ front h. read_is_kept l.names c.try_next.new.names front l.lexer h next.keeps);
    }

pub tokens-preserved-in-Some : goal.tokens-preserved-in-Some
tokens-preserved-in-Some c =
    let l = c.tokens in
    let next = c.in_ok-token.ensures in
    let answer : IsAnswer (Ok (Some c.in-Some.token)) l.names c.try_next.new.names l.stream c.try_next.new.self = subst (λ o. IsAnswer (Ok o) l.names c.try_next.new.names l.stream c.try_next.new.self) c.in-Some.is next.answer in
    record {
      stream = stream_grows c.try_next.new.names c.read_one.new.names c.try_next.new.self c.read_one.ensures.keeps next.stream;
      keeps = keeps_both c.args.names.now c.try_next.new.names c.read_one.new.names (keeps_both c.args.names.now l.names c.try_next.new.names l.invariant.keeps next.keeps) c.read_one.ensures.keeps;
      some = reads_on c.args.names.now l.names c.try_next.new.names c.read_one.new.names c.args.stream l.stream c.try_next.new.self l.lexer c.read_one.new.lexer c.in-Some.token l.invariant.some answer next.keeps c.read_one.ensures.keeps c.read_one.ensures.table
          c.read_one.ensures.reads (λ front h. read_is_kept l.names c.try_next.new.names front l.lexer h next.keeps);
    }

pub returns-clause-reads : goal.returns-clause-reads
returns-clause-reads c =
    let l = c.tokens in
    let next = c.in_ok-token.ensures in
    let answer : IsAnswer (Ok None) l.names c.try_next.new.names l.stream c.try_next.new.self = subst (λ o. IsAnswer (Ok o) l.names c.try_next.new.names l.stream c.try_next.new.self) c.in_default.is next.answer in
    reads_all c.args.names.now l.names c.try_next.new.names c.args.stream l.stream c.try_next.new.self l.lexer l.invariant.some answer next.keeps (λ front h. read_is_kept l.names c.try_next.new.names front l.lexer h next.keeps)

pub returns-clause-keeps : goal.returns-clause-keeps
returns-clause-keeps c = keeps_both c.args.names.now c.tokens.names c.try_next.new.names c.tokens.invariant.keeps c.in_ok-token.ensures.keeps
