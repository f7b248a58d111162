use Rattle.std.proofs.Common.{sym, ◌∙◌}
use Rattle.lower_ops.proofs.Operated.{one_as, compares_one, compares_two}
use Rattle.lower_ops.proofs.operations.put_comparison.Goals as goal

pub returns-in_ok-put : goal.returns-in_ok-put
returns-in_ok-put c = compares_one c.args.op (sym c.is_comparison.ensures ∙ c.if-is_comparison.true) c.args.reading c.args.sense c.args.to c.args.left c.args.right c.args.temporary (one_as c.jump_of.ensures c.in_ok-put.ensures)

pub returns-in_ok-put_then : goal.returns-in_ok-put_then
returns-in_ok-put_then c = compares_two c.args.op (sym c.is_comparison.ensures ∙ c.if-is_comparison.false) c.args.reading c.args.sense c.args.to c.args.left c.args.right c.args.temporary c.in_ok-put_then.ensures
