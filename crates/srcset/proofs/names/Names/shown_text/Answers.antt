use Rattle.std.proofs.Common.{sym, ◌∙◌}
use Rattle.srcset.proofs.NameLemmas.{named_by_text, not_named}
use Rattle.srcset.proofs.names.Names.shown_text.Goals as goal

pub returns-in-Ok : goal.returns-in-Ok
returns-in-Ok c = c.in-Ok.ensures.cases.0 ∙ named_by_text c.args.self.now c.args.n c.in-Some.text.now (sym c.in-Some.ensures) c.in-Ok.ensures.cases.1

pub returns-in-Err : goal.returns-in-Err
returns-in-Err c = not_named c.args.self.now c.args.n c.in-Some.text.now (sym c.in-Some.ensures) c.in-Err.ensures.cases.0
