use Rattle.std.proofs.Common.{map, refl, rules, arith, suc, ◌+◌, ◌-◌}
use Rattle.typed_ast.specs.View.{initialiser_of, initialisers_of}
use Rattle.interp_store.specs.View.{reference_of}
use Rattle.interp_steps.proofs.Given.{listed_at}
use Rattle.interp_steps.proofs.initialisers.next_part.Goals as goal

pub returns-clause-takes : goal.returns-clause-takes
returns-clause-takes c = let l = c.args.l in
    listed_at c.args.machine.now c.list.new.machine c.list.result l.ty (initialisers_of (map initialiser_of l.more.now)) (l.count - 1) c.saturating_sub.result (suc l.number) (l.number + 1)
    l.lengths.now l.lengths.now (reference_of l.array) (search rules) (omega arith) refl c.list.ensures.takes
