use Rattle.ctypes.proofs.Uses.{promoted_stays, promoted_has_values}
use Rattle.ctypes.proofs.laws.a_promotion.Goals as goal

pub returns : goal.returns
returns c = record { stays = promoted_stays; values = promoted_has_values }
