use Rattle.verify_build.proofs.Joined.{shown_file}
use Rattle.verify_build.proofs.judge.Goals as goal

pub returns : goal.returns
returns c = shown_file _ _ _ _ _ _ _ c.in_ok-verdict.ensures c.in_ok-built.ensures c.in_ok-bound.ensures c.shown-file.ensures
