use Rattle.std.proofs.Common.{refl}
use Rattle.std.proofs.lemmas.Option.{slice_get_read}
use Rattle.verify_expressions.proofs.Summaries.{summary_there}
use Rattle.verify_expressions.proofs.calls.summarised.Goals as goal

pub by_summary-requires : goal.by_summary-requires
by_summary-requires c =
    let xs = c.args.scope.now.summaries.now in
    let a = c.in-Some.a.now in
    summary_there xs c.args.n a (slice_get_read xs _ c.args.n a refl c.in-Some.ensures.lookup.3.0 c.in-Some.ensures.lookup.1)
