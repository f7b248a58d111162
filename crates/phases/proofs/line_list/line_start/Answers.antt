use Rattle.std.proofs.Common.{◌≡◌, suc, ◌-◌, sym, ap, ◌∙◌, arith}
use Rattle.phases.specs.inside.Cut.{line_start}
use Rattle.phases.proofs.CutLemmas.{line_start_is}
use Rattle.phases.proofs.line_list.line_start.Goals as goal

pub returns : goal.returns
returns c =
    let e : c.args.index ≡ suc (c.args.index - 1) = omega (arith, c.if-index-eq0.false) in
    sym (ap (line_start 0 c.args.ends.now) e ∙ line_start_is 0 c.args.ends.now (c.args.index - 1) 0 (omega (arith, c.requires, c.if-index-eq0.false)))
