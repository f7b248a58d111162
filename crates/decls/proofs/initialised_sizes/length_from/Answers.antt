use Rattle.std.proofs.Common.{rules, ◌≡◌, IfOk, IfErr, subst}
use Rattle.tree.specs.declared.declaration.Initialiser.{the_lemmas}
use Rattle.tree.specs.View.{tree_of, init_of}
use Rattle.typed_ast.specs.View.{object_type_of}
use Rattle.typing_spec.specs.Verdict.{fine}
use Rattle.typing_expressions.specs.Refused.{Tells}
use Rattle.typing_scopes.specs.Scopes.{with_texts}
use Rattle.decls.proofs.Initialisers.{length_of_text, length_of_list}
use Rattle.decls.proofs.initialised_sizes.length_from.Goals as goal

pub returns-in-One-clause-ok : goal.returns-in-One-clause-ok
returns-in-One-clause-ok c = λ s.
    (subst (λ v. IfOk c.size_of_text.result (λ n. v ≡ fine n))
    (length_of_text (with_texts c.args.names.now s) c.args.pos (object_type_of c.args.element.now) (tree_of c.in-One.e) (init_of c.args.initialiser.now) c.has_characters-characters.result c.has_characters-characters.ensures (search (rules, the_lemmas))) (c.size_of_text.ensures.ok s))

pub returns-in-One-clause-err : goal.returns-in-One-clause-err
returns-in-One-clause-err c = λ s.
    (subst (λ v. IfErr c.size_of_text.result (λ r. Tells r v))
    (length_of_text (with_texts c.args.names.now s) c.args.pos (object_type_of c.args.element.now) (tree_of c.in-One.e) (init_of c.args.initialiser.now) c.has_characters-characters.result c.has_characters-characters.ensures (search (rules, the_lemmas))) (c.size_of_text.ensures.err s))

pub returns-in-List-clause-ok : goal.returns-in-List-clause-ok
returns-in-List-clause-ok c = λ s.
    (subst (λ v. IfOk c.size_of_list.result (λ n. v ≡ fine n))
    (length_of_list (with_texts c.args.names.now s) c.args.pos c.in-List.brace (object_type_of c.args.element.now) c.deref.result.now c.in-List.parts.items (init_of c.args.initialiser.now) c.has_characters-characters.result
    c.has_characters-characters.ensures c.deref.ensures.value (search (rules, the_lemmas))) (c.size_of_list.ensures.ok s))

pub returns-in-List-clause-err : goal.returns-in-List-clause-err
returns-in-List-clause-err c = λ s.
    (subst (λ v. IfErr c.size_of_list.result (λ r. Tells r v))
    (length_of_list (with_texts c.args.names.now s) c.args.pos c.in-List.brace (object_type_of c.args.element.now) c.deref.result.now c.in-List.parts.items (init_of c.args.initialiser.now) c.has_characters-characters.result
    c.has_characters-characters.ensures c.deref.ensures.value (search (rules, the_lemmas))) (c.size_of_list.ensures.err s))
