use Rattle.std.proofs.Common.{◌∙◌, sym, subst}
use Rattle.macros.specs.inside.Reading.{read_from}
use Rattle.macros.specs.inside.Readings.{IsReading}
use Rattle.macros.proofs.ReadingLemmas.{front_of, reads_some, reads_none, reads_empty}
use Rattle.macros.proofs.reading.function_like.Goals as goal

pub returns-then-is_spelled-clause-ok : goal.returns-then-is_spelled-clause-ok
returns-then-is_spelled-clause-ok c =
    let x = c.first-item.result in
    let ts = c.args.tokens.now in
    reads_empty c.args.names.now ts x (front_of ts x c.first-item.is c.in-len1-up.len_at_least) (sym c.is_spelled.ensures ∙ c.if-is_spelled.true) c.in_ok-with_parameters.field-0 c.new.result.items c.new.ensures.items c.behind-body.result.now c.behind-body.ensures
    c.in_ok-with_parameters.ensures

pub returns-in_default-2-clause-ok : goal.returns-in_default-2-clause-ok
returns-in_default-2-clause-ok c =
    let x = c.first-item.result in
    let ts = c.args.tokens.now in
    reads_none c.read_parameters.new.names ts x (front_of ts x c.first-item.is c.in-len1-up.len_at_least) (sym c.is_spelled.ensures ∙ c.if-is_spelled.false)
    (subst (λ o. IsReading c.read_parameters.new.names o (read_from ts)) c.in_default-2.is c.in_ok-reading.ensures.ok)

pub returns-clause-ok : goal.returns-clause-ok
returns-clause-ok c =
    let x = c.first-item.result in
    let ts = c.args.tokens.now in
    reads_some c.read_parameters.new.names ts x (front_of ts x c.first-item.is c.in-len1-up.len_at_least) c.in_ok-reading.ensures.once c.in-Some.reading.numbers.items c.in-Some.reading.variadic c.in-Some.reading.len
    (sym c.is_spelled.ensures ∙ c.if-is_spelled.false) (subst (λ o. IsReading c.read_parameters.new.names o (read_from ts)) c.in-Some.is c.in_ok-reading.ensures.ok) c.in_ok-with_parameters-2.field-0 c.behind-body-2.result.now c.behind-body-2.ensures c.in_ok-with_parameters-2.ensures
