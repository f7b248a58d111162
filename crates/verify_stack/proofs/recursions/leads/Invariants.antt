use Rattle.std.proofs.Common.{length}
use Rattle.typed_ast.specs.View.{program_of}
use Rattle.verify_stack.specs.Recursions.{Leads}
use Rattle.verify_stack.proofs.recursions.leads.Given as goal

abbrev pub invariant-loop-next : goal.invariant-loop-next
invariant-loop-next l = Leads (program_of l.program) l.at l.rest l.to → Leads (program_of l.program) l.initial.at l.initial.rest l.to

abbrev pub decreases-loop-next : goal.decreases-loop-next
decreases-loop-next l = length l.rest
