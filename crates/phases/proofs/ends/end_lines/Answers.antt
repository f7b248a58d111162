use Rattle.std.proofs.Common.{sym, ◌∙◌, append-nil, subst}
use Rattle.phases.specs.Text.{bytes_of}
use Rattle.phases.specs.inside.Closing.{IsHopeless}
use Rattle.phases.proofs.ClosingLemmas.{hopeless_more}
use Rattle.phases.proofs.LineEndLemmas.{ends_more, ends_done}
use Rattle.phases.proofs.ends.end_lines.Goals as goal

pub loop-first-preserved : goal.loop-first-preserved
loop-first-preserved c =
    let skips = c.past_splices-at-in-Some.ensures.skips in
    let x = c.front_at-front.result in
    record {
      known_is = subst (λ t. IsHopeless c.behind-known.result (bytes_of t)) skips.text_is (hopeless_more c.hopeless-hopeless.result c.behind-known.result c.loop-first.at x.span.after x.span.count c.hopeless-hopeless.ensures c.front_at-front.ensures.spans c.behind-known.ensures.single c.behind-known.ensures.double);
      ends_is = ends_more _ c.loop-first.ends.items c.add_end.new.ends.items c.loop-first.place c.in_ok-place.place c.loop-first.at c.past_splices-at-in-Some.result c.in-Some.first x c.loop-first.invariant.ends_is c.in-Some.ensures c.front_at-front.ensures c.in_ok-add_end.ensures c.in_ok-place.ensures skips.text_is;
    }

pub returns : goal.returns
returns c = sym (ends_done _ c.loop-first.ends.items c.loop-first.place c.loop-first.at c.loop-first.invariant.ends_is c.in_default.ensures ∙ append-nil c.loop-first.ends.items)
