use Rattle.std.proofs.Common.{refl, sym, ◌∙◌}
use Rattle.pp.proofs.StateLemmas.{undefines, does_undefine}
use Rattle.pp.proofs.state.State.undef.Goals as goal

pub returns-clause-does : goal.returns-clause-does
returns-clause-does c s a =
    let new = record c.args.self.now { table = c.try_undef.new.self } in
    let i = sym c.is_identifier.ensures ∙ c.if-not-is_identifier.false in
    does_undefine c.try_undef.result c.args.names.now c.args.names.now c.args.self.now new c.args.line.now c.name-item.result c.args.at s c.in-len1.len_at_least c.in-len1.len_below c.name-item.is i
    (undefines c.try_undef.result c.args.names.now c.args.self.now new c.name-item.result c.args.at c.try_undef.ensures.ok c.try_undef.ensures.err refl refl refl s a)
