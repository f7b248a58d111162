use Rattle.cc_laws.proofs.ByFrames as laws
use Rattle.cc_laws.proofs.files_run_within_frames.Goals as goal

pub returns : goal.returns
returns c = laws.files_run_within_frames
