use Rattle.loader.specs.inside.Segments.{nothing}
use Rattle.loader.proofs.ImageFacts.{sound_at, fits_at, one_more_loaded}
use Rattle.loader.proofs.segments.segments_of.Goals as goal

pub loop-load-init : goal.loop-load-init
loop-load-init c = rw c.new-segments.ensures.items nothing

pub push_segment-requires-clause-sound : goal.push_segment-requires-clause-sound
push_segment-requires-clause-sound c = sound_at _ _ _ _ c.requires.sound c.loop-load-test.true

pub push_segment-requires-clause-fits : goal.push_segment-requires-clause-fits
push_segment-requires-clause-fits c = fits_at _ _ _ c.requires.apart c.loop-load-test.true

pub loop-load-preserved : goal.loop-load-preserved
loop-load-preserved c = one_more_loaded _ _ _ _ _ _ c.loop-load-test.true c.loop-load.invariant c.in_ok-push_segment.ensures
