use Rattle.std.proofs.Common.{sym, subst, drop, ◌∙◌}
use Rattle.pp.specs.Lines.{first_end}
use Rattle.pp.specs.Phase4.{presume}
use Rattle.pp.specs.inside.Stepping.{Answers}
use Rattle.pp.proofs.StateLemmas.{named_define, named_undef, error_is}
use Rattle.pp.proofs.state.State.named.Goals as goal

pub returns-then-is_spelled-clause-does : goal.returns-then-is_spelled-clause-does
returns-then-is_spelled-clause-does c texts enter keeps s a =
    subst (Answers s.given c.define.result c.define.new.names c.define.new.self)
    (sym (named_define texts enter c.args.name.now (presume s c.args.further.now) (first_end (drop c.args.index c.args.ends.now)) c.args.at s (sym c.is_spelled.ensures ∙ c.if-is_spelled.true))) (c.define.ensures.does s a)

pub returns-then-is_spelled-2-clause-does : goal.returns-then-is_spelled-2-clause-does
returns-then-is_spelled-2-clause-does c texts enter keeps s a =
    subst (Answers s.given c.undef.result c.args.names.now c.undef.new.self)
    (sym (named_undef texts enter c.args.name.now (presume s c.args.further.now) (first_end (drop c.args.index c.args.ends.now)) c.args.at s (sym c.is_spelled.ensures ∙ c.if-is_spelled.false) (sym c.is_spelled-2.ensures ∙ c.if-is_spelled-2.true))) (c.undef.ensures.does s a)

pub returns-then-is_spelled-4-clause-does : goal.returns-then-is_spelled-4-clause-does
returns-then-is_spelled-4-clause-does c texts enter keeps s a =
    error_is texts c.refusal_of.new.names c.refusal_of.result enter c.args.name.now c.args.further.now (first_end (drop c.args.index c.args.ends.now)) c.args.at s
    (sym c.is_spelled.ensures ∙ c.if-is_spelled.false) (sym c.is_spelled-2.ensures ∙ c.if-is_spelled-2.false) c.requires.other (sym c.is_spelled-3.ensures ∙ c.if-is_spelled-3.false) (sym c.is_spelled-4.ensures ∙ c.if-is_spelled-4.true)
    (c.refusal_of.ensures.told s)
