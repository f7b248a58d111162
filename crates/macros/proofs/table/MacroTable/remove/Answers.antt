use Rattle.std.proofs.Common.{◌∙◌, sym}
use Rattle.macros.proofs.TableLemmas.{removed, nothing_removed}
use Rattle.macros.proofs.table.MacroTable.remove.Goals as goal

pub returns-in_default : goal.returns-in_default
returns-in_default c = λ macros is. nothing_removed c.args.names.now c.args.self.now macros c.args.spelling.now is (λ n e. let f = sym c.in_default.is ∙ (c.find.ensures.found n).1 e in absurd (cc))

pub returns : goal.returns
returns c = λ macros is.
    removed c.args.names.now c.find.ensures.once c.self.inside.macros.entries c.swap_remove.new.self.entries macros (rw c.self.view_is is) c.in-Some.n c.args.spelling.now
    ((c.find.ensures.found c.in-Some.n).0 c.in-Some.is) c.swap_remove.ensures.updates.0 (rw (← c.swap_remove.ensures.value) c.swap_remove.ensures.len)
