use Rattle.std.proofs.Common.{◌∙◌, sym, ap}
use Rattle.std.specs.Option.{option_copied}
use Rattle.macros.proofs.TableLemmas.{absent_number, present_number}
use Rattle.macros.proofs.table.MacroTable.find.Goals as goal

pub returns-in_default-get : goal.returns-in_default-get
returns-in_default-get c = λ macros is.
    absent_number c.args.names.now c.args.self.now macros is c.args.spelling.now c.in-Some.n ((c.find.ensures.found c.in-Some.n).0 c.in-Some.is) (sym c.get.ensures ∙ ap option_copied c.in_default-get.is)

pub returns : goal.returns
returns c = λ macros is.
    present_number c.args.names.now c.args.self.now macros is c.args.spelling.now c.in-Some.n c.in-Some-get.found.now ((c.find.ensures.found c.in-Some.n).0 c.in-Some.is) (sym c.get.ensures ∙ ap option_copied c.in-Some-get.is)
