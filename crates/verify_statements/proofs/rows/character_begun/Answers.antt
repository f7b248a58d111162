use Rattle.std.proofs.Common.{Some, subst}
use Rattle.verify_logic.specs.declared.abstract_values.Interval.{Interval}
use Rattle.verify_logic.specs.States.{Writes}
use Rattle.verify_expressions.specs.Views.{frame_of, state_of}
use Rattle.verify_statements.proofs.rows.character_begun.Goals as goal

pub returns : goal.returns
returns c = let P : Interval → Type 0 = λ sub. Writes (frame_of c.args.scope.now) (state_of c.args.state) c.args.x (Some sub) c.args.value (state_of c.in_ok-state2.state2) in subst P c.single_index-at.ensures c.in_ok-state2.ensures
