use Rattle.cc_laws.proofs.Touching as laws
use Rattle.cc_laws.proofs.files_touch_their_frames.Goals as goal

pub returns : goal.returns
returns c = laws.files_touch_their_frames
