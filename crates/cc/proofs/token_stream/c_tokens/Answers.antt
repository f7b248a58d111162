use Rattle.std.proofs.Common.{inl, inr}
use Rattle.std.specs.Prelude.{◌⊎◌}
use Rattle.cc.proofs.Streams.{keeps_all, keeps_both, numbers_at, told_as, preprocess_fault, has_tokens, fails_tokens}
use Rattle.cc.proofs.token_stream.c_tokens.Goals as goal

pub returns-in-Err-clause-stops : goal.returns-in-Err-clause-stops
returns-in-Err-clause-stops c = told_as c.in-Err.stop _ _ (λ f m. inr (inr m)) c.in-Err.ensures.stops

pub returns-in-Err-new-clause-stops : goal.returns-in-Err-new-clause-stops
returns-in-Err-new-clause-stops c =
    inl (record {
      texts = c.new.new.names;
      numbers = numbers_at c.args.main.now c.number_name.new.names c.new.new.names c.in-Ok.ensures.named c.in-Err-new.ensures.keeps c.numbers_once.ensures;
      fault_is = c.in-Err-new.ensures.err;
    })

pub returns-in-Err-read_all-clause-stops : goal.returns-in-Err-read_all-clause-stops
returns-in-Err-read_all-clause-stops c =
    let late = c.read_all.new.names in
    let made = c.in-Ok-new.ensures in
    inl (record {
      texts = late;
      numbers = numbers_at c.args.main.now c.number_name.new.names late c.in-Ok.ensures.named (keeps_both c.number_name.new.names c.new.new.names late made.keeps c.in-Err-read_all.ensures.keeps) c.numbers_once-in-Err-read_all.ensures;
      fault_is = preprocess_fault c.args.set.now c.args.main.now c.new.new.names c.in-Ok-new.stream made.ok late c.to_fault.result c.in-Err-read_all.refusal c.in-Err-read_all.ensures.keeps c.in-Err-read_all.ensures.err c.to_fault.ensures;
    })

pub returns-in-Ok-made-clause-tokens : goal.returns-in-Ok-made-clause-tokens
returns-in-Ok-made-clause-tokens c =
    let first = c.number_name.new.names in
    let early = c.new.new.names in
    let late = c.read_all.new.names in
    let texts = c.end-made.new.names in
    let made = c.in-Ok-new.ensures in
    let all = c.in-Ok-read_all.ensures in
    let named = numbers_at c.args.main.now first texts c.in-Ok.ensures.named (keeps_both first late texts (keeps_both first early late made.keeps all.keeps) c.end-made.ensures.keeps) c.numbers_once-2.ensures in
    has_tokens c.args.set.now c.args.main.now early c.in-Ok-new.stream made.ok late texts c.in-Ok-read_all.lexer c.in-Ok-made.tokens.items all.reads all.keeps c.end-made.ensures.keeps named (c.in-Ok-made.ensures.ok all.reads.front all.reads.read)

pub returns-in-Err-made-clause-stops : goal.returns-in-Err-made-clause-stops
returns-in-Err-made-clause-stops c =
    let first = c.number_name.new.names in
    let early = c.new.new.names in
    let late = c.read_all.new.names in
    let texts = c.end-made.new.names in
    let made = c.in-Ok-new.ensures in
    let all = c.in-Ok-read_all.ensures in
    let named = numbers_at c.args.main.now first texts c.in-Ok.ensures.named (keeps_both first late texts (keeps_both first early late made.keeps all.keeps) c.end-made.ensures.keeps) c.numbers_once-2.ensures in
    fails_tokens c.args.set.now c.args.main.now early c.in-Ok-new.stream made.ok late texts c.in-Ok-read_all.lexer c.in-Err-made.fault all.reads all.keeps c.end-made.ensures.keeps named (c.in-Err-made.ensures.err all.reads.front all.reads.read)
