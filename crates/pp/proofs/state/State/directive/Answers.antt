use Rattle.std.proofs.Common.{sym, ap, subst, drop, ◌∙◌}
use Rattle.pp.specs.Lines.{first_end}
use Rattle.pp.specs.Held.{presumed_of}
use Rattle.pp.specs.inside.Stepping.{presumed_by, line_with, StopsAs}
use Rattle.pp.specs.Phase4.{directive_done}
use Rattle.pp.proofs.StateLemmas.{Reads, directive_named, directive_bad, does_alone}
use Rattle.pp.proofs.state.State.directive.Goals as goal

pub returns-in_default-clause-does : goal.returns-in_default-clause-does
returns-in_default-clause-does c texts enter keeps s a =
    does_alone texts c.args.names.now enter c.args.self.now c.args.line.now (first_end (drop c.args.index c.args.ends.now)) s c.in_default.len_below a

pub returns-then-not-is_identifier-clause-does : goal.returns-then-not-is_identifier-clause-does
returns-then-not-is_identifier-clause-does c texts enter keeps s a =
    let reads : Reads c.args.self.now c.args.line.now c.hash-item.result c.name-item.result c.place-at.result = record { long = c.in-len2-up.len_at_least; first = c.hash-item.is; second = c.name-item.is; at_is = c.place-at.ensures ∙ ap (λ p. presumed_by (presumed_of c.args.self.now.presumed) p) c.pos.ensures } in
    let end = first_end (drop c.args.index c.args.ends.now) in
    subst (λ r. StopsAs s.given c.args.names.now r (directive_done texts enter (line_with c.args.line.now end) s)) (sym c.bad_directive.ensures)
    (directive_bad texts c.args.names.now enter c.args.self.now c.args.line.now end c.hash-item.result c.name-item.result c.place-at.result s reads (sym c.is_identifier.ensures ∙ c.if-not-is_identifier.true) a)

pub returns-clause-does : goal.returns-clause-does
returns-clause-does c texts enter keeps s a =
    let reads : Reads c.args.self.now c.args.line.now c.hash-item.result c.name-item.result c.place-at.result = record { long = c.in-len2-up.len_at_least; first = c.hash-item.is; second = c.name-item.is; at_is = c.place-at.ensures ∙ ap (λ p. presumed_by (presumed_of c.args.self.now.presumed) p) c.pos.ensures } in
    directive_named c.named.result texts c.args.names.now c.named.new.names enter c.args.self.now c.named.new.self c.args.line.now (first_end (drop c.args.index c.args.ends.now)) c.hash-item.result c.name-item.result c.place-at.result reads
    (sym c.is_identifier.ensures ∙ c.if-not-is_identifier.false) (c.named.ensures.does texts enter keeps) s a
