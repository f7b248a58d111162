use Rattle.std.proofs.Common.{None, sym, subst, arith}
use Rattle.pp.specs.inside.Guards.{PassesTo}
use Rattle.pp.proofs.GuardLemmas.{passes_first, passes_next, all_passed}
use Rattle.pp.proofs.guards.guard_of.Goals as goal

pub loop-index-init : goal.loop-index-init
loop-index-init c = subst (PassesTo None c.args.lines.now 0) (sym c.new-conditionals.ensures) (passes_first c.args.lines.now)

pub loop-index-preserved : goal.loop-index-preserved
loop-index-preserved c =
    let l = c.loop-index in
    let passed = c.if-not-line_passed.false in
    passes_next l.guard c.line_passed.new.guard c.args.lines.now l.index c.in-Some.line.now l.conditionals c.line_passed.new.conditionals (sym c.in-Some.ensures.line)
    (c.line_passed.ensures.stays passed) l.invariant (c.line_passed.ensures.passes passed)

pub returns-in-None : goal.returns-in-None
returns-in-None c =
    let l = c.loop-index in
    all_passed l.guard c.args.lines.now l.index l.conditionals (omega (arith, c.loop-index-test.false, c.len-index-end.ensures)) c.in-None.ensures l.invariant
