use Rattle.std.proofs.Common.{sym, ◌∙◌}
use Rattle.pp.specs.Phase4.{entered}
use Rattle.pp.proofs.IncludeLemmas.{string_includes}
use Rattle.pp.proofs.StateLemmas.{one_item}
use Rattle.pp.proofs.includes.string_named.Goals as goal

pub returns-clause-includes : goal.returns-clause-includes
returns-clause-includes c texts s keeps a =
    string_includes c.source_named.result c.args.names.now c.source_named.new.names c.args.state.now c.args.set.now texts c.args.room (entered c.args.room c.args.set.now texts) c.args.at c.args.tokens.now c.name-item.result c.spelling.result.now s
    (one_item c.args.tokens.now c.name-item.result c.in-len1.len_at_least c.in-len1.len_below c.name-item.is) c.spelling.ensures (sym c.is_plain_string.ensures ∙ c.if-not-is_plain_string.false)
    a c.source_named.ensures.keeps c.source_named.ensures.once (c.source_named.ensures.enters texts s keeps)
