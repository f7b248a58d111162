use Rattle.std.proofs.Common.{rules, sym, ◌∙◌}
use Rattle.tree.specs.View.{tree_of}
use Rattle.typing_scopes.specs.Scopes.{with_texts}
use Rattle.decls.proofs.Initialisers.{text_text}
use Rattle.decls.proofs.initialised_sizes.size_of_text.Goals as goal

pub returns-in-Some-clause-ok : goal.returns-in-Some-clause-ok
returns-in-Some-clause-ok c = λ s.
    text_text (with_texts c.args.names.now s) c.args.characters c.args.pos (tree_of c.args.e.now) c.in-Some.name c.text_length.result (search rules) (sym c.literal_in.ensures ∙ c.in-Some.is) (c.text_length.ensures s)
