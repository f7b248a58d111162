use Rattle.frames.proofs.Whole.{data_bytes_are, length_data}
use Rattle.frames.proofs.laws.data_have_their_size.Goals as goal

pub returns : goal.returns
returns c = record { parts = data_bytes_are; whole = length_data }
