use Rattle.lower_bounds.proofs.Whole as laws
use Rattle.lower_bounds.proofs.function_is_sound.Goals as goal

pub returns : goal.returns
returns c = laws.function_is_sound
