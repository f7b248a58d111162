use Rattle.std.proofs.Common.{rules, sym, ◌∙◌, map}
use Rattle.tree.specs.View.{init_of, inits_of}
use Rattle.typing_scopes.specs.Scopes.{with_texts}
use Rattle.decls.proofs.Initialisers.{list_text}
use Rattle.decls.proofs.initialised_sizes.size_of_list.Goals as goal

pub returns-in-Some-clause-ok : goal.returns-in-Some-clause-ok
returns-in-Some-clause-ok c = λ s.
    list_text (with_texts c.args.names.now s) c.args.characters c.args.pos (inits_of (map init_of c.args.parts.now)) c.in-Some.name c.text_length.result (search rules) (sym c.literal_alone.ensures ∙ c.in-Some.is) (c.text_length.ensures s)
