use Rattle.std.specs.Prelude.{◌&&◌, not, slice_get}
use Rattle.std.proofs.Common.{Some, [], sym, ap, ◌∙◌, arith}
use Rattle.std.proofs.lemmas.Option.{slice_get_within}
use Rattle.std.proofs.lemmas.Result.{err_from_is_err_and}
use Rattle.pp.specs.declared.includes.Source.{Source}
use Rattle.pp.specs.Phase4.{ending_of, file_done, start, max_includes}
use Rattle.pp.specs.Stream.{left_behind}
use Rattle.pp.specs.Left.{around_with, is_text_line}
use Rattle.pp.proofs.PhaseLemmas.{number_kept, no_main_is, main_is, scan_stops, stopped_is, absent_main, unread_main}
use Rattle.pp.proofs.StackLemmas.{main_left, main_open}
use Rattle.pp.proofs.stream.Pp.try_new.Goals as goal

pub returns-in_default-get-clause-err : goal.returns-in_default-get-clause-err
returns-in_default-get-clause-err c texts keeps =
    let number = number_kept c.intern.new.self texts c.args.main.now c.in-Ok.file c.intern.ensures.once keeps (c.in-Ok.ensures.text ∙ ap Some c.as_bytes.ensures.value) in
    no_main_is c.args.set.now texts c.args.main.now c.in-Ok.file (sym c.in_default-get.ensures.bytes) number

pub returns-in_err-files-clause-err : goal.returns-in_err-files-clause-err
returns-in_err-files-clause-err c =
    let p = err_from_is_err_and c.from_residual.result c.from_residual.ensures.1 in
    rw (p.1, p.2) (λ texts keeps.
    let number = number_kept c.intern.new.self texts c.args.main.now c.in-Ok.file c.intern.ensures.once keeps (c.in-Ok.ensures.text ∙ ap Some c.as_bytes.ensures.value) in
    stopped_is c.in_err-files.field-0.0 [] c.args.set.now texts c.intern.new.self c.args.main.now c.in-Some.bytes.now keeps (sym c.in-Some.ensures.bytes)
    (scan_stops c.in_err-files.field-0.0 c.intern.new.self (around_with max_includes c.args.set.now texts) c.args.main.now c.in-Some.bytes.now c.in-Ok.file start number c.in_err-files.ensures.err))

pub returns-clause-ok : goal.returns-clause-ok
returns-clause-ok c texts keeps =
    let number = number_kept c.intern.new.self texts c.args.main.now c.in-Ok.file c.intern.ensures.once keeps (c.in-Ok.ensures.text ∙ ap Some c.as_bytes.ensures.value) in
    let source : Source = record { name = c.in-Ok.file; bytes = c.in-Some.bytes } in
    let files = c.in_ok-files.files in
    let o = file_done (around_with max_includes c.args.set.now texts) c.args.main.now c.in-Some.bytes.now start in
    record {
      outcome = o;
      left = main_left c.intern.new.self c.new-2.result c.args.set.now texts source files.innermost files.includers.items c.args.main.now start c.in_ok-files.ensures.ok.1 c.in_ok-files.ensures.ok.0 number
          (c.new-2.ensures.agrees c.intern.new.self);
      rest_is = main_is c.args.set.now texts c.args.main.now c.in-Some.bytes.now (sym c.in-Some.ensures.bytes) ∙ ap (λ n. left_behind n (ending_of o)) (sym c.new-2.ensures.none);
    }

pub returns-clause-stream : goal.returns-clause-stream
returns-clause-stream c =
    let source : Source = record { name = c.in-Ok.file; bytes = c.in-Some.bytes } in
    let files = c.in_ok-files.files in
    record {
      few = omega (arith, c.new-2.ensures.none);
      reads = (
        c.new-2.ensures.sound c.intern.new.self (slice_get_within c.intern.new.self c.in-Ok.file c.as_bytes.result.now c.in-Ok.ensures.text),
        main_open c.intern.new.self source files.innermost files.includers.items c.in_ok-files.ensures.ok.1 c.in_ok-files.ensures.ok.0,
        ap (λ b. b && not (is_text_line (slice_get files.innermost.lines files.innermost.next))) c.in_ok-files.ensures.ok.0.fresh.begun,
      );
    }

pub returns-in_default-get-clause-unbegun : goal.returns-in_default-get-clause-unbegun
returns-in_default-get-clause-unbegun c texts keeps =
    let number = number_kept c.intern.new.self texts c.args.main.now c.in-Ok.file c.intern.ensures.once keeps (c.in-Ok.ensures.text ∙ ap Some c.as_bytes.ensures.value) in
    absent_main c.args.set.now texts c.args.main.now c.in-Ok.file (sym c.in_default-get.ensures.bytes) number

pub returns-in_err-files-clause-unbegun : goal.returns-in_err-files-clause-unbegun
returns-in_err-files-clause-unbegun c =
    let p = err_from_is_err_and c.from_residual.result c.from_residual.ensures.1 in
    rw (p.1, p.2) (λ texts keeps.
    let number = number_kept c.intern.new.self texts c.args.main.now c.in-Ok.file c.intern.ensures.once keeps (c.in-Ok.ensures.text ∙ ap Some c.as_bytes.ensures.value) in
    unread_main c.in_err-files.field-0.0 c.args.set.now texts c.args.main.now c.in-Some.bytes.now c.in-Ok.file (sym c.in-Some.ensures.bytes) number c.in_err-files.ensures.err)
