use Rattle.std.proofs.Common.{None}
use Rattle.pp_expand.proofs.Whole.{begins_in}
use Rattle.pp_expand.proofs.Streams.{of_left, of_known}
use Rattle.pp_expand.proofs.streaming.Expander.of.Goals as goal

pub invariant_of-result : goal.invariant_of-result
invariant_of-result c = begins_in _ c.args.list c.into_hidden.result.items c.into_hidden.ensures

pub returns-clause-left : goal.returns-clause-left
returns-clause-left c = λ texts. of_left texts (record { list = c.into_hidden.result.items; fresh = c.new.result.items; sets = c.new-2.result; end = c.args.end; refused = None }) c.args.list c.into_hidden.ensures c.new.ensures.items

pub returns-clause-known : goal.returns-clause-known
returns-clause-known c = λ names have. of_known names (record { list = c.into_hidden.result.items; fresh = c.new.result.items; sets = c.new-2.result; end = c.args.end; refused = None }) c.args.list c.into_hidden.ensures c.new.ensures.items c.new-2.ensures have
