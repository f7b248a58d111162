use Rattle.verify_statements.proofs.Steps.{ways_join}
use Rattle.verify_statements.proofs.ways.joined_ways.Goals as goal

pub returns-clause-first : goal.returns-clause-first
returns-clause-first c = ways_join _ _ c.in_ok-normal.ensures.first c.in_ok-broken.ensures.first c.in_ok-continued.ensures.first c.in_ok-returned.ensures.first c.either-value.ensures.first

pub returns-clause-second : goal.returns-clause-second
returns-clause-second c = ways_join _ _ c.in_ok-normal.ensures.second c.in_ok-broken.ensures.second c.in_ok-continued.ensures.second c.in_ok-returned.ensures.second c.either-value.ensures.second
