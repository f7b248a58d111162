use Rattle.std.proofs.Common.{◌+◌}
use Rattle.typed_ast.specs.View.{place_of, value_of}
use Rattle.verify_expressions.proofs.Work.{work, work_place}
use Rattle.verify_statements.proofs.effects.+quiet.Given as goal

abbrev pub decreases-both_quiet : goal.decreases-both_quiet
decreases-both_quiet l = work (value_of l.a.now) + work (value_of l.b.now) + 1

abbrev pub decreases-all_quiet : goal.decreases-all_quiet
decreases-all_quiet l = work (value_of l.c.now) + work (value_of l.a.now) + work (value_of l.b.now) + 2

abbrev pub decreases-element_quiet : goal.decreases-element_quiet
decreases-element_quiet l = work_place (place_of l.array.now) + work (value_of l.index.now) + 1

abbrev pub decreases-is_quiet_place : goal.decreases-is_quiet_place
decreases-is_quiet_place l = work_place (place_of l.a.now)

abbrev pub decreases-is_quiet : goal.decreases-is_quiet
decreases-is_quiet l = work (value_of l.e.now)
