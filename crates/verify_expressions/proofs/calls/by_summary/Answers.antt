use Rattle.verify_expressions.specs.Views.{summary_of}
use Rattle.verify_expressions.proofs.calls.by_summary.Goals as goal

pub returns : goal.returns
returns c = record { number = c.args.n; summary = summary_of c.args.a.now; there = c.requires; fits = c.fits-fit.ensures c.if-not-fit.false; value = c.in_ok-interval.ensures; left = c.in_ok-state.ensures }
