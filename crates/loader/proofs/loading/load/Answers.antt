use Rattle.std.proofs.Common.{◌≡◌, true, subst, List, ◌∙◌}
use Rattle.loader.specs.declared.header.LoadHeader.{LoadHeader}
use Rattle.loader.specs.File.{are_apart, loads}
use Rattle.loader.specs.inside.Segments.{AreLoaded}
use Rattle.loader.proofs.ImageFacts.{apart_of_none, laid_out, same_space, is_image}
use Rattle.loader.proofs.loading.load.Goals as goal

pub of_segments-requires : goal.of_segments-requires
of_segments-requires c =
    let e : are_apart c.as_slice.result.now ≡ true = apart_of_none c.args.bytes.now c.as_slice.result.now (c.as_slice.ensures.value ∙ c.in-Ok.ensures.0) c.in-Ok.ensures.1 in
    rw c.as_slice-in-Ok-segments_of.ensures.value (laid_out _ _ _ c.in-Ok-segments_of.ensures e)

pub new-requires : goal.new-requires
new-requires c =
    let e : are_apart c.as_slice.result.now ≡ true = apart_of_none c.args.bytes.now c.as_slice.result.now (c.as_slice.ensures.value ∙ c.in-Ok.ensures.0) c.in-Ok.ensures.1 in
    laid_out _ _ _ c.in-Ok-segments_of.ensures e

pub returns-in-Ok-of_segments : goal.returns-in-Ok-of_segments
returns-in-Ok-of_segments c =
    let same : c.as_slice.result.now ≡ loads c.args.bytes.now = c.as_slice.ensures.value ∙ c.in-Ok.ensures.0 in
    let P : List LoadHeader → Type 0 = λ ls. AreLoaded c.args.bytes.now ls c.in-Ok-segments_of.segments.items in
    let h = subst P same c.in-Ok-segments_of.ensures in
    is_image c.args.bytes.now _ _ c.in-Ok.ensures.1 c.word.ensures (rw c.new.ensures (same_space c.args.bytes.now c.in-Ok-segments_of.segments.items h))
