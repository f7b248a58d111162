use Rattle.std.proofs.Common.{◌≡◌, Ok, Err, IfOk, IfErr, ◌⊎◌, sym, ap, subst, ◌∙◌}
use Rattle.srcset.specs.declared.refusal.Refusal.TheVariants.{Memory}
use Rattle.phases.specs.Text.{bytes_of}
use Rattle.phases.specs.Lines.{found, lines_or_fault}
use Rattle.phases.specs.inside.Closing.{IsHopeless}
use Rattle.phases.specs.inside.Scanning as spec
use Rattle.phases.proofs.ClosingLemmas.{hopeless_more}
use Rattle.phases.proofs.ScanLemmas.{scan_step, scan_end, goes_after}
use Rattle.phases.proofs.lines.token_lines.Goals as goal

pub loop-first-preserved : goal.loop-first-preserved
loop-first-preserved c =
    let puts = c.in_ok-put.ensures.ok in
    let goes = c.in_ok-quick.ensures.ok in
    let after = c.front-front.result.span.after in
    let file = puts.file_is ∙ c.loop-first.invariant.file_is in
    let known = hopeless_more c.hopeless-hopeless.result c.behind.result c.loop-first.at after c.front-front.result.span.count c.hopeless-hopeless.ensures c.front-front.ensures.spans c.behind.ensures.single c.behind.ensures.double in
    let whole = scan_step c.args.file c.loop-first.scanner c.put.new.self _ c.loop-first.at c.in-Some.first c.front-front.result c.loop-first.invariant.file_is c.loop-first.invariant.whole_is c.in-Some.ensures c.front-front.ensures puts in
    let scanner = c.put_quick-in-Some.new.self in
    let skips = c.past_splices-at-in-Some.ensures.skips in
    record {
      known_is = subst (λ t. IsHopeless c.behind-known.result (bytes_of t)) skips.text_is (hopeless_more c.behind.result c.behind-known.result after c.in_ok-quick.quick.after c.in_ok-quick.quick.count known goes.spans c.behind-known.ensures.single c.behind-known.ensures.double);
      file_is = goes.file_is ∙ file;
      whole_is = goes_after c.args.file c.put.new.self scanner _ after c.in_ok-quick.quick file whole goes
          ∙ ap (λ t. spec.whole scanner (found c.args.file 0 scanner.place scanner.space t)) skips.text_is;
    }

pub returns-clause-ok : goal.returns-clause-ok
returns-clause-ok c =
    let e = scan_end c.args.file c.loop-first.scanner _ c.loop-first.at c.loop-first.invariant.whole_is c.in_default.ensures in
    subst (λ f. IfOk c.end_file.result (λ lines. lines_or_fault f ≡ Ok lines)) (sym e) c.end_file.ensures.ok

pub returns-clause-err : goal.returns-clause-err
returns-clause-err c =
    let e = scan_end c.args.file c.loop-first.scanner _ c.loop-first.at c.loop-first.invariant.whole_is c.in_default.ensures in
    subst (λ f. IfErr c.end_file.result (λ r. (r ≡ Memory) ⊎ (lines_or_fault f ≡ Err r))) (sym e) c.end_file.ensures.err
