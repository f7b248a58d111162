use Rattle.std.proofs.Common.{sym, ◌∙◌, ap}
use Rattle.zikorape.proofs.GivenLemmas.{texts_before, texts_more, lengths_before, lengths_more, fits_more}
use Rattle.zikorape.proofs.files.file_set.Goals as goal

pub returns-in-Err : goal.returns-in-Err
returns-in-Err c = record {
  before = c.loop-file.set;
  name = c.split_at.result.0.now;
  bytes = c.split_at-in-loop-file.result.0.now;
  rest = c.split_at-in-loop-file.result.1.now;
  more = _;
  texts_are = sym (texts_before c.loop-file.set _ _ _ c.loop-file.rest.now c.split_at.result.1.now _ c.split_at.ensures.by_index.0 c.split_at-in-loop-file.ensures.by_index.0 c.loop-file.invariant.texts);
  lengths_are = sym (lengths_before c.loop-file.set _ _ c.args.files.now c.loop-file.file-index _ c.loop-file-test.true c.split_at.ensures.front_len c.split_at-in-loop-file.ensures.front_len c.loop-file.invariant.lengths);
  fault_is = c.in-Err.ensures.fault;
}

pub loop-file-preserved : goal.loop-file-preserved
loop-file-preserved c =
    let texts = texts_before c.loop-file.set _ _ _ c.loop-file.rest.now c.split_at.result.1.now _ c.split_at.ensures.by_index.0 c.split_at-in-loop-file.ensures.by_index.0 c.loop-file.invariant.texts in
    let lengths = lengths_before c.loop-file.set _ _ c.args.files.now c.loop-file.file-index _ c.loop-file-test.true c.split_at.ensures.front_len c.split_at-in-loop-file.ensures.front_len c.loop-file.invariant.lengths in
    record {
      texts = rw c.in-Ok.ensures.ok (texts_more c.loop-file.set _ _ _ _ texts);
      lengths = rw c.in-Ok.ensures.ok (lengths_more c.loop-file.set _ _ _ _ lengths);
      fits = fits_more c.args.files.now c.loop-file.file-index _ _ _ _ c.loop-file-test.true c.loop-file.invariant.fits c.split_at.ensures.back_len c.split_at-in-loop-file.ensures.back_len;
    }
