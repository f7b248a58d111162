use Rattle.std.proofs.Common.{sym, ◌∙◌}
use Rattle.decls_initialisers.proofs.Layouts.{no_literal, one_literal}
use Rattle.decls_initialisers.proofs.element_values.push_text.Goals as goal

pub returns-in-None-clause-ok : goal.returns-in-None-clause-ok
returns-in-None-clause-ok c = no_literal c.args.names.now c.args.literals.now c.args.number c.args.element c.args.all.now.items (sym c.in-None.is ∙ c.literal_at.ensures)

pub returns-in-Some-clause-ok : goal.returns-in-Some-clause-ok
returns-in-Some-clause-ok c = one_literal c.push_characters.result c.args.names.now c.args.literals.now c.args.number c.in-Some.name c.args.element c.push_characters.new.all.items c.args.all.now.items c.characters_of.result.now (sym c.in-Some.is ∙ c.literal_at.ensures) c.characters_of.ensures c.push_characters.ensures.ok
