use Rattle.ctypes.proofs.Uses.{usual_is_by_rank, usual_is_promoted, usual_commutes, usual_of_same}
use Rattle.ctypes.proofs.laws.a_common_type.Goals as goal

pub returns : goal.returns
returns c = record { by_rank = usual_is_by_rank; promoted = usual_is_promoted; commutes = usual_commutes; of_same = usual_of_same }
