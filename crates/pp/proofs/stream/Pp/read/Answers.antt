use Rattle.std.proofs.Common.{sym, ap, subst, ◌∙◌}
use Rattle.pp.specs.declared.stream.Pp.{Pp}
use Rattle.pp.specs.Phase4.{ending_of}
use Rattle.pp.specs.Stream.{RestBy, left_behind}
use Rattle.pp.proofs.StreamLemmas.{rest_now, stepped}
use Rattle.pp.proofs.stream.Pp.read.Goals as goal

pub returns-clause-rest : goal.returns-clause-rest
returns-clause-rest c texts rest keeps r =
    let pp = c.args.self.now in
    let k = rest_now pp.stage c.args.names.now texts pp rest c.requires.reads r in
    let new : Pp = record { set = pp.set; files = c.step-done.new.self; state = c.step-done.new.state; run = pp.run; stage = c.stage_after-self.result } in
    subst (λ s. RestBy s c.step-done.new.names texts new rest) (sym c.stage_after-self.ensures)
    (stepped c.step-done.result c.step-done.new.names texts new rest k.outcome keeps (c.step-done.ensures.left texts k.outcome keeps k.left)
    (k.rest_is ∙ ap (λ n. left_behind n (ending_of k.outcome)) (sym c.step-done.ensures.given)))
