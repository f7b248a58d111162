use Rattle.verify.proofs.Steps.{all_end}
use Rattle.verify.proofs.bodies.joined_end.Goals as goal

pub returns : goal.returns
returns c = all_end _ _ _ _ _ _ _ _ _ c.is_entry-is_main.ensures c.end_value-end.ensures c.either-value.ensures.first c.either-value.ensures.second c.in_ok-two.ensures.first c.in_ok-two.ensures.second c.in_ok-three.ensures.first c.in_ok-three.ensures.second c.in_ok-state.ensures.first c.in_ok-state.ensures.second
