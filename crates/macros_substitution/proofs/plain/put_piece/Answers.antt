use Rattle.std.proofs.Common.{sym, ◌∙◌}
use Rattle.macros_substitution.proofs.PlainLaws.{taken_last, if_done}
use Rattle.macros_substitution.proofs.plain.put_piece.Goals as goal

pub returns-else-is_expanded-clause-ok : goal.returns-else-is_expanded-clause-ok
returns-else-is_expanded-clause-ok c =
    if_done c.put_moved.result _ _ (taken_last c.args.arguments.now c.args.full.now.items c.take_expansion-expansion.new.full.items c.in-Parameter.index c.in-Parameter.beside c.in-Parameter.space_before c.args.piece.now c.args.rest.now c.args.done.now.items c.put_moved.new.done.items c.take_expansion-expansion.result.items c.in-Parameter.is c.if-beside.false (sym c.is_expanded.ensures ∙ c.if-is_expanded.false) c.take_expansion-expansion.ensures.taken c.take_expansion-expansion.ensures.others) c.put_moved.ensures.ok
