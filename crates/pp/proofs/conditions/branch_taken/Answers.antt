use Rattle.std.proofs.Common.{sym, ap, ◌∙◌}
use Rattle.pp.specs.Held.{presumed_of}
use Rattle.pp.specs.inside.Stepping.{presumed_by}
use Rattle.pp.proofs.StateLemmas.{Reads}
use Rattle.pp.proofs.ConditionLemmas.{asks_nothing, asks_ifdef, asks_ifndef, asks_else, asks_condition}
use Rattle.pp.proofs.conditions.branch_taken.Goals as goal

pub returns-in_default-clause-asks : goal.returns-in_default-clause-asks
returns-in_default-clause-asks c texts end s keeps a = asks_nothing texts c.args.names.now c.args.state.now c.args.line.now end s c.in_default.len_below a

pub returns-then-is_spelled-clause-asks : goal.returns-then-is_spelled-clause-asks
returns-then-is_spelled-clause-asks c texts end s keeps a =
    let reads : Reads c.args.state.now c.args.line.now c.hash-item.result c.name-item.result c.place-at.result = record { long = c.in-len2-up.len_at_least; first = c.hash-item.is; second = c.name-item.is; at_is = c.place-at.ensures ∙ ap (λ p. presumed_by (presumed_of c.args.state.now.presumed) p) c.pos.ensures } in
    asks_ifdef c.macro_asked.result texts c.args.names.now c.args.state.now c.args.state.now c.args.line.now end c.hash-item.result c.name-item.result c.place-at.result s reads a
    (sym c.is_spelled.ensures ∙ c.if-is_spelled.true) (c.macro_asked.ensures s a)

pub returns-then-is_spelled-2-clause-asks : goal.returns-then-is_spelled-2-clause-asks
returns-then-is_spelled-2-clause-asks c texts end s keeps a =
    let reads : Reads c.args.state.now c.args.line.now c.hash-item.result c.name-item.result c.place-at.result = record { long = c.in-len2-up.len_at_least; first = c.hash-item.is; second = c.name-item.is; at_is = c.place-at.ensures ∙ ap (λ p. presumed_by (presumed_of c.args.state.now.presumed) p) c.pos.ensures } in
    asks_ifndef c.macro_asked-then-is_spelled-2.result texts c.args.names.now c.args.state.now c.args.state.now c.args.line.now end c.hash-item.result c.name-item.result c.place-at.result s reads a
    (sym c.is_spelled.ensures ∙ c.if-is_spelled.false) (sym c.is_spelled-2.ensures ∙ c.if-is_spelled-2.true) (c.macro_asked-then-is_spelled-2.ensures s a)

pub returns-then-is_spelled-3-clause-asks : goal.returns-then-is_spelled-3-clause-asks
returns-then-is_spelled-3-clause-asks c texts end s keeps a =
    let reads : Reads c.args.state.now c.args.line.now c.hash-item.result c.name-item.result c.place-at.result = record { long = c.in-len2-up.len_at_least; first = c.hash-item.is; second = c.name-item.is; at_is = c.place-at.ensures ∙ ap (λ p. presumed_by (presumed_of c.args.state.now.presumed) p) c.pos.ensures } in
    asks_else c.else_asked.result texts c.args.names.now c.args.state.now c.args.state.now c.args.line.now end c.hash-item.result c.name-item.result c.place-at.result s reads a
    (sym c.is_spelled.ensures ∙ c.if-is_spelled.false) (sym c.is_spelled-2.ensures ∙ c.if-is_spelled-2.false) (sym c.is_spelled-3.ensures ∙ c.if-is_spelled-3.true) (c.else_asked.ensures c.args.names.now s a)

pub returns-clause-asks : goal.returns-clause-asks
returns-clause-asks c texts end s keeps a =
    let reads : Reads c.args.state.now c.args.line.now c.hash-item.result c.name-item.result c.place-at.result = record { long = c.in-len2-up.len_at_least; first = c.hash-item.is; second = c.name-item.is; at_is = c.place-at.ensures ∙ ap (λ p. presumed_by (presumed_of c.args.state.now.presumed) p) c.pos.ensures } in
    asks_condition c.condition.result texts c.args.names.now c.args.state.now c.condition.new.state c.args.line.now end c.hash-item.result c.name-item.result c.place-at.result s reads a
    (sym c.is_spelled.ensures ∙ c.if-is_spelled.false) (sym c.is_spelled-2.ensures ∙ c.if-is_spelled-2.false) (sym c.is_spelled-3.ensures ∙ c.if-is_spelled-3.false) (c.condition.ensures.asks texts s keeps a)
