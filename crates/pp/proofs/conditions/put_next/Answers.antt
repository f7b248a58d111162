use Rattle.std.proofs.Common.{subst, IfOk}
use Rattle.pp.specs.inside.Stepping.{PutsResolved}
use Rattle.pp.proofs.ConditionLemmas.{resolves_skip, resolves_put, no_skip, rest_from}
use Rattle.pp.proofs.conditions.put_next.Goals as goal

pub returns-then-skip-gt0-clause-ok : goal.returns-then-skip-gt0-clause-ok
returns-then-skip-gt0-clause-ok c =
    resolves_skip c.args.names.now c.args.state.now c.args.tokens.now c.args.list.now.items c.args.skip c.args.index c.requires.within c.if-skip-gt0.true c.requires.resolves

pub returns-clause-ok : goal.returns-clause-ok
returns-clause-ok c =
    resolves_put c.put_resolved.result c.args.names.now c.args.state.now c.args.tokens.now c.args.list.now.items c.put_resolved.new.list.items c.args.index c.requires.files c.requires.within
    (no_skip c.args.names.now c.args.state.now c.args.tokens.now c.args.list.now.items c.args.skip c.args.index c.if-skip-gt0.false c.requires.resolves)
    (subst (λ ts. IfOk c.put_resolved.result (PutsResolved c.args.names.now c.args.state.now ts c.args.list.now.items c.put_resolved.new.list.items)) (rest_from c.args.tokens.now c.args.index) c.put_resolved.ensures.ok)
