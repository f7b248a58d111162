-- The forms of initialisers, as the code holds them.
use Rattle.std.proofs.Common.{◌≡◌, ◌≢◌, List, [], ◌∷◌, length, map, refl, sym, ap, ◌∙◌, arith, rules, Global, None}
use Rattle.srcset.specs.declared.refusal.Pos.{Pos}
use Rattle.std.specs.Prelude.{Vec}
use Rattle.tree.specs.Tree.{Tree, Init, init_hole, Inits, no_inits, and_init, one_init, braced_init, hole, identifier, constant, string, paren, call, subscript, after, before, prefix, size_of, size_of_type, cast, binary, conditional, assign}
use Rattle.tree.specs.declared.expression.Expr.{Expr}
use Rattle.tree.specs.declared.declaration.Initialiser.{Initialiser, the_lemmas}
use Rattle.tree.specs.declared.declaration.Initialiser as I
use Rattle.tree.specs.View.{tree_of, init_of, inits_of}
use Rattle.typing_spec.specs.Initialisers.{count_of, text_alone}
use Rattle.decls_initialisers.specs.Views.{option_string}
use Rattle.decls_initialisers.specs.inside.Braces.{string_in}

abbrev pub parts_of : List Initialiser → Inits
parts_of is = inits_of (map init_of is)

pub counted : (is : List Initialiser) → count_of (inits_of (map init_of is)) ≡ length is
counted [] = refl
counted (i ∷ is) = omega (arith, counted is)

pub sees_one : (e : Expr) → init_of (I.One e) ≡ one_init (tree_of e)
sees_one e = search (rules, the_lemmas)

pub sees_list : (at : Pos) (parts : Vec Initialiser Global) → init_of (I.List at parts) ≡ braced_init at (inits_of (map init_of parts.items))
sees_list at parts = search (rules, the_lemmas)

-- the string literal that is the only part
alone_tree : (e : Tree) → option_string (string_in e) ≡ text_alone (and_init (one_init e) no_inits)
alone_tree hole = refl
alone_tree (identifier at n) = refl
alone_tree (constant at t v) = refl
alone_tree (string at n) = refl
alone_tree (paren e) = refl
alone_tree (call at f args) = refl
alone_tree (subscript at a i) = refl
alone_tree (after at op a) = refl
alone_tree (before at op a) = refl
alone_tree (prefix at op a) = refl
alone_tree (size_of at a) = refl
alone_tree (size_of_type at ty) = refl
alone_tree (cast at ty a) = refl
alone_tree (binary at op a b) = refl
alone_tree (conditional at c a b) = refl
alone_tree (assign at op a b) = refl

-- none, of two or more parts
many_trees : (e : Tree) (j : Init) (js : Inits) → None ≡ text_alone (and_init (one_init e) (and_init j js))
many_trees hole j js = refl
many_trees (identifier at n) j js = refl
many_trees (constant at t v) j js = refl
many_trees (string at n) j js = refl
many_trees (paren e) j js = refl
many_trees (call at f args) j js = refl
many_trees (subscript at a i) j js = refl
many_trees (after at op a) j js = refl
many_trees (before at op a) j js = refl
many_trees (prefix at op a) j js = refl
many_trees (size_of at a) j js = refl
many_trees (size_of_type at ty) j js = refl
many_trees (cast at ty a) j js = refl
many_trees (binary at op a b) j js = refl
many_trees (conditional at c a b) j js = refl
many_trees (assign at op a b) j js = refl

alone_many : (k j : Init) (js : Inits) → None ≡ text_alone (and_init k (and_init j js))
alone_many init_hole j js = refl
alone_many (one_init e) j js = many_trees e j js
alone_many (braced_init at parts) j js = refl

pub alone_none : (is : List Initialiser) → is ≡ [] → None ≡ text_alone (inits_of (map init_of is))
alone_none is e = ap (λ l. text_alone (inits_of (map init_of l))) (sym e)

pub alone_one : (is : List Initialiser) (first : Initialiser) (rest : List Initialiser) (e : Expr) → is ≡ first ∷ rest → rest ≡ [] → first ≡ I.One e → option_string (string_in (tree_of e)) ≡ text_alone (inits_of (map init_of is))
alone_one is first rest e i r f =
    alone_tree (tree_of e) ∙ ap (λ k. text_alone (and_init k no_inits)) (sym (ap init_of f ∙ sees_one e))
    ∙ ap (λ l. text_alone (and_init (init_of first) (inits_of (map init_of l)))) (sym r) ∙ ap (λ l. text_alone (inits_of (map init_of l))) (sym i)

pub alone_list : (is : List Initialiser) (first : Initialiser) (rest : List Initialiser) (at : Pos) (parts : Vec Initialiser Global) → is ≡ first ∷ rest → first ≡ I.List at parts → None ≡ text_alone (inits_of (map init_of is))
alone_list is first [] at parts i f = ap (λ k. text_alone (and_init k no_inits)) (sym (ap init_of f ∙ sees_list at parts)) ∙ ap (λ l. text_alone (inits_of (map init_of l))) (sym i)
alone_list is first (j ∷ js) at parts i f = alone_many (init_of first) (init_of j) (inits_of (map init_of js)) ∙ ap (λ l. text_alone (inits_of (map init_of l))) (sym i)

pub alone_more : (is : List Initialiser) (first : Initialiser) (rest : List Initialiser) → is ≡ first ∷ rest → rest ≢ [] → None ≡ text_alone (inits_of (map init_of is))
alone_more is first [] i r = absurd (r refl)
alone_more is first (j ∷ js) i r = alone_many (init_of first) (init_of j) (inits_of (map init_of js)) ∙ ap (λ l. text_alone (inits_of (map init_of l))) (sym i)
