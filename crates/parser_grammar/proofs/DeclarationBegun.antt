-- Whole declarations are begun ones, and the tokens that they spell are a front.
use Rattle.std.specs.Prelude.{Option, None, Some}
use Rattle.std.proofs.Common.{ℕ, inl, inr, List, [], ◌∷◌}
use Rattle.lexer.specs.declared.token.Token.{Token}
use Rattle.tree.specs.Tree.{Tree, Init, init_hole, one_init, braced_init, Inits, no_inits, and_init, EnumeratorTree, SpecifierTree, extern_specifier, static_specifier, plain_specifier, enumerators_specifier, ParameterTree, ItemTree, object, function, DeclarationTree, declared, assertion}
use Rattle.parser_grammar.specs.declared.scope.Scope.{Scope}
use Rattle.parser_grammar.specs.Declarations.{SpellsMoreOf, SpellsSeries, Trailing, SpellsValue, SpellsEnumerator, SpellsTag, SpellsDeclarationSpecifier, SpellsDeclarationSpecifiers, SpellsBound, SpellsBounds, SpellsParameterName, SpellsParameter, SpellsParameters, SpellsInit, SpellsInits, SpellsMoreInits, SpellsInitialiser, SpellsItem, SpellsItems, SpellsDeclaration}
use Rattle.parser_grammar.specs.Tokens.{Reaches}
use Rattle.parser_grammar.proofs.Tokens.{mark_begun, reaches_on, own_reaches, mark_reaches}
use Rattle.parser_grammar.proofs.ExpressionBegun.{specifiers_reach, specifier_reaches, whole_is_begun, whole_reaches}

-- ---- lists with a comma between any two

more_of_begun : {A : Type 0} (S T : A → List Token → List Token → Type 0) (c : List Token) (each : (x : A) (ts r : List Token) → S x ts r → T x ts r)
    (xs : List A) (ts r : List Token) → SpellsMoreOf S None xs ts r → SpellsMoreOf T (Some c) xs ts r
more_of_begun S T c each [] ts r h = h
more_of_begun S T c each (x ∷ xs) ts r h = (h.0, h.1, mark_begun c _ _ _ h.2, each x h.0 h.1 h.3, more_of_begun S T c each xs h.1 r h.4)

series_begun : {A : Type 0} (S T : A → List Token → List Token → Type 0) (c : List Token) (each : (x : A) (ts r : List Token) → S x ts r → T x ts r)
    (xs : List A) (ts r : List Token) → SpellsSeries S None xs ts r → SpellsSeries T (Some c) xs ts r
series_begun S T c each [] ts r h = absurd h
series_begun S T c each (x ∷ xs) ts r h = (h.0, each x ts h.0 h.1, more_of_begun S T c each xs h.0 r h.2)

more_of_reach : {A : Type 0} (S : A → List Token → List Token → Type 0) (each : (x : A) (ts r : List Token) → S x ts r → Reaches ts r)
    (xs : List A) (ts r : List Token) → SpellsMoreOf S None xs ts r → Reaches ts r
more_of_reach S each [] ts r h = ([], h)
more_of_reach S each (x ∷ xs) ts r h = reaches_on ts h.0 r (mark_reaches _ _ _ h.2)
    (reaches_on h.0 h.1 r (each x h.0 h.1 h.3) (more_of_reach S each xs h.1 r h.4))

series_reaches : {A : Type 0} (S : A → List Token → List Token → Type 0) (each : (x : A) (ts r : List Token) → S x ts r → Reaches ts r)
    (xs : List A) (ts r : List Token) → SpellsSeries S None xs ts r → Reaches ts r
series_reaches S each [] ts r h = absurd h
series_reaches S each (x ∷ xs) ts r h = reaches_on ts h.0 r (each x ts h.0 h.1) (more_of_reach S each xs h.0 r h.2)

trailing_reaches : (ts r : List Token) → Trailing ts r → Reaches ts r
trailing_reaches ts r (inl h) = ([], h)
trailing_reaches ts r (inr h) = own_reaches _ _ ts r h.1

-- ---- specifiers

value_is_begun : (c : List Token) (v : Option Tree) (ts r : List Token) → SpellsValue None v ts r → SpellsValue (Some c) v ts r
value_is_begun c None ts r h = h
value_is_begun c (Some e) ts r h = (h.0, mark_begun c _ _ _ h.1, h.2, whole_is_begun c e h.0 r h.3)

value_reaches : (v : Option Tree) (ts r : List Token) → SpellsValue None v ts r → Reaches ts r
value_reaches None ts r h = ([], h)
value_reaches (Some e) ts r h = reaches_on ts h.0 r (mark_reaches _ _ _ h.1) (whole_reaches e h.0 r h.3)

pub enumerator_is_begun : (c : List Token) (e : EnumeratorTree) (ts r : List Token) → SpellsEnumerator None e ts r → SpellsEnumerator (Some c) e ts r
enumerator_is_begun c e ts r h = (h.0, h.1, value_is_begun c e.value h.0 r h.2)

pub enumerator_reaches : (e : EnumeratorTree) (ts r : List Token) → SpellsEnumerator None e ts r → Reaches ts r
enumerator_reaches e ts r h = reaches_on ts h.0 r (own_reaches _ _ _ _ h.1) (value_reaches e.value h.0 r h.2)

tag_reaches : (tag : Option ℕ) (ts r : List Token) → SpellsTag tag ts r → Reaches ts r
tag_reaches None ts r h = ([], h)
tag_reaches (Some tag) ts r h = own_reaches _ _ ts r h.1

pub specifier_is_begun : (c : List Token) (scope : Scope) (s : SpecifierTree) (ts r : List Token) → SpellsDeclarationSpecifier None scope s ts r →
    SpellsDeclarationSpecifier (Some c) scope s ts r
specifier_is_begun c scope extern_specifier ts r h = h
specifier_is_begun c scope static_specifier ts r h = h
specifier_is_begun c scope (plain_specifier s) ts r h = h
specifier_is_begun c scope (enumerators_specifier tag list) ts r h = (
  h.0,
  h.1,
  h.2,
  h.3,
  h.4,
  h.5,
  h.6,
  h.7,
  mark_begun c _ _ _ h.8,
  series_begun
      (SpellsEnumerator None) (SpellsEnumerator (Some c)) c (enumerator_is_begun c) list h.2 h.3 h.9,
  h.10,
  mark_begun c _ _ _ h.11,
)

pub declaration_specifier_reaches : (scope : Scope) (s : SpecifierTree) (ts r : List Token) → SpellsDeclarationSpecifier None scope s ts r → Reaches ts r
declaration_specifier_reaches scope extern_specifier ts r h = own_reaches _ _ ts r h.1.1
declaration_specifier_reaches scope static_specifier ts r h = own_reaches _ _ ts r h.1
declaration_specifier_reaches scope (plain_specifier s) ts r h = specifier_reaches s ts r h
declaration_specifier_reaches scope (enumerators_specifier tag list) ts r h = reaches_on ts h.0 r (own_reaches _ _ _ _ h.6)
    (reaches_on h.0 h.1 r (tag_reaches tag h.0 h.1 h.7) (reaches_on h.1 h.2 r (mark_reaches _ _ _ h.8)
    (reaches_on h.2 h.3 r (series_reaches (SpellsEnumerator None) enumerator_reaches list h.2 h.3 h.9)
    (reaches_on h.3 h.4 r (trailing_reaches h.3 h.4 h.10) (mark_reaches _ _ _ h.11)))))

pub specifiers_are_begun : (c : List Token) (scope : Scope) (ss : List SpecifierTree) (ts r : List Token) → SpellsDeclarationSpecifiers None scope ss ts r →
    SpellsDeclarationSpecifiers (Some c) scope ss ts r
specifiers_are_begun c scope [] ts r h = h
specifiers_are_begun c scope (s ∷ ss) ts r h = (h.0, specifier_is_begun c scope s ts h.0 h.1, specifiers_are_begun c scope ss h.0 r h.2)

pub declaration_specifiers_reach : (scope : Scope) (ss : List SpecifierTree) (ts r : List Token) → SpellsDeclarationSpecifiers None scope ss ts r → Reaches ts r
declaration_specifiers_reach scope [] ts r h = ([], h)
declaration_specifiers_reach scope (s ∷ ss) ts r h = reaches_on ts h.0 r (declaration_specifier_reaches scope s ts h.0 h.1)
    (declaration_specifiers_reach scope ss h.0 r h.2)

-- ---- declarators

bound_is_begun : (c : List Token) (e : Option Tree) (ts r : List Token) → SpellsBound None e ts r → SpellsBound (Some c) e ts r
bound_is_begun c None ts r h = h
bound_is_begun c (Some e) ts r h = (h.0, whole_is_begun c e ts r h.1)

bound_reaches : (e : Option Tree) (ts r : List Token) → SpellsBound None e ts r → Reaches ts r
bound_reaches None ts r h = ([], h)
bound_reaches (Some e) ts r h = whole_reaches e ts r h.1

pub bounds_are_begun : (c : List Token) (es : List (Option Tree)) (ts r : List Token) → SpellsBounds None es ts r → SpellsBounds (Some c) es ts r
bounds_are_begun c [] ts r h = h
bounds_are_begun c (e ∷ es) ts r h = (
  h.0,
  h.1,
  h.2,
  mark_begun c _ _ _ h.3,
  bound_is_begun c e h.0 h.1 h.4,
  mark_begun c _ _ _ h.5,
  bounds_are_begun c es h.2 r
      h.6,
)

pub bounds_reach : (es : List (Option Tree)) (ts r : List Token) → SpellsBounds None es ts r → Reaches ts r
bounds_reach [] ts r h = ([], h)
bounds_reach (e ∷ es) ts r h = reaches_on ts h.0 r (mark_reaches _ _ _ h.3)
    (reaches_on h.0 h.1 r (bound_reaches e h.0 h.1 h.4) (reaches_on h.1 h.2 r (mark_reaches _ _ _ h.5) (bounds_reach es h.2 r h.6)))

parameter_name_reaches : (p : ParameterTree) (n : Option ℕ) (ts r : List Token) → SpellsParameterName p n ts r → Reaches ts r
parameter_name_reaches p None ts r h = ([], h.0)
parameter_name_reaches p (Some n) ts r h = own_reaches _ _ ts r h

pub parameter_is_begun : (c : List Token) (p : ParameterTree) (ts r : List Token) → SpellsParameter None p ts r → SpellsParameter (Some c) p ts r
parameter_is_begun c p ts r h = (h.0, h.1, h.2, h.3, h.4, h.5, bounds_are_begun c p.sizes h.1 r h.6)

pub parameter_reaches : (p : ParameterTree) (ts r : List Token) → SpellsParameter None p ts r → Reaches ts r
parameter_reaches p ts r h = reaches_on ts h.0 r (specifiers_reach p.specifiers ts h.0 h.4) (reaches_on h.0 h.1 r (parameter_name_reaches p p.name h.0 h.1 h.5)
    (bounds_reach p.sizes h.1 r h.6))

pub parameters_are_begun : (c : List Token) (ps : List ParameterTree) (ts r : List Token) → SpellsParameters None ps ts r → SpellsParameters (Some c) ps ts r
parameters_are_begun c [] ts r h = h
parameters_are_begun c (p ∷ ps) ts r h = (h.0, series_begun (SpellsParameter None) (SpellsParameter (Some c)) c (parameter_is_begun c) (p ∷ ps) ts r h.1)

pub parameters_reach : (ps : List ParameterTree) (ts r : List Token) → SpellsParameters None ps ts r → Reaches ts r
parameters_reach [] ts r h = own_reaches _ _ ts r h.1
parameters_reach (p ∷ ps) ts r h = series_reaches (SpellsParameter None) parameter_reaches (p ∷ ps) ts r h.1

mutual
  pub init_is_begun : (c : List Token) (i : Init) (ts r : List Token) → SpellsInit None i ts r → SpellsInit (Some c) i ts r
  init_is_begun c init_hole ts r h = absurd h
  init_is_begun c (one_init e) ts r h = (h.0, whole_is_begun c e ts r h.1)
  init_is_begun c (braced_init at parts) ts r h = (h.0, h.1, h.2, h.3, inits_are_begun c parts h.0 h.1 h.4, h.5, mark_begun c _ _ _ h.6)

  pub inits_are_begun : (c : List Token) (is : Inits) (ts r : List Token) → SpellsInits None is ts r → SpellsInits (Some c) is ts r
  inits_are_begun c no_inits ts r h = absurd h
  inits_are_begun c (and_init i is) ts r h = (h.0, init_is_begun c i ts h.0 h.1, more_inits_are_begun c is h.0 r h.2)

  pub more_inits_are_begun : (c : List Token) (is : Inits) (ts r : List Token) → SpellsMoreInits None is ts r → SpellsMoreInits (Some c) is ts r
  more_inits_are_begun c no_inits ts r h = h
  more_inits_are_begun c (and_init i is) ts r h = (h.0, h.1, mark_begun c _ _ _ h.2, init_is_begun c i h.0 h.1 h.3, more_inits_are_begun c is h.1 r h.4)

mutual
  pub init_reaches : (i : Init) (ts r : List Token) → SpellsInit None i ts r → Reaches ts r
  init_reaches init_hole ts r h = absurd h
  init_reaches (one_init e) ts r h = whole_reaches e ts r h.1
  init_reaches (braced_init at parts) ts r h = reaches_on ts h.0 r (own_reaches _ _ _ _ h.3)
      (reaches_on h.0 h.1 r (inits_reach parts h.0 h.1 h.4) (reaches_on h.1 h.2 r (trailing_reaches h.1 h.2 h.5) (mark_reaches _ _ _ h.6)))

  pub inits_reach : (is : Inits) (ts r : List Token) → SpellsInits None is ts r → Reaches ts r
  inits_reach no_inits ts r h = absurd h
  inits_reach (and_init i is) ts r h = reaches_on ts h.0 r (init_reaches i ts h.0 h.1) (more_inits_reach is h.0 r h.2)

  pub more_inits_reach : (is : Inits) (ts r : List Token) → SpellsMoreInits None is ts r → Reaches ts r
  more_inits_reach no_inits ts r h = ([], h)
  more_inits_reach (and_init i is) ts r h = reaches_on ts h.0 r (mark_reaches _ _ _ h.2)
      (reaches_on h.0 h.1 r (init_reaches i h.0 h.1 h.3) (more_inits_reach is h.1 r h.4))

pub initialiser_is_begun : (c : List Token) (i : Option Init) (ts r : List Token) → SpellsInitialiser None i ts r → SpellsInitialiser (Some c) i ts r
initialiser_is_begun c None ts r h = h
initialiser_is_begun c (Some i) ts r h = (h.0, mark_begun c _ _ _ h.1, init_is_begun c i h.0 r h.2)

pub initialiser_reaches : (i : Option Init) (ts r : List Token) → SpellsInitialiser None i ts r → Reaches ts r
initialiser_reaches None ts r h = ([], h)
initialiser_reaches (Some i) ts r h = reaches_on ts h.0 r (mark_reaches _ _ _ h.1) (init_reaches i h.0 r h.2)

pub item_is_begun : (c : List Token) (scope : Scope) (i : ItemTree) (ts r : List Token) → SpellsItem None scope i ts r → SpellsItem (Some c) scope i ts r
item_is_begun c scope (object at n sizes init) ts r h = (h.0, h.1, h.2, bounds_are_begun c sizes h.0 h.1 h.3, initialiser_is_begun c init h.1 r h.4)
item_is_begun c scope (function at n ps) ts r h = (
  h.0,
  (
    h.1.0,
    h.1.1,
    h.1.2,
    h.1.3,
    mark_begun c _ _ _ h.1.4,
    parameters_are_begun c ps h.1.1 h.1.2 h.1.5,
    mark_begun c _ _ _ h.1.6,
  ),
)

pub item_reaches : (scope : Scope) (i : ItemTree) (ts r : List Token) → SpellsItem None scope i ts r → Reaches ts r
item_reaches scope (object at n sizes init) ts r h = reaches_on ts h.0 r (own_reaches _ _ _ _ h.2)
    (reaches_on h.0 h.1 r (bounds_reach sizes h.0 h.1 h.3) (initialiser_reaches init h.1 r h.4))
item_reaches scope (function at n ps) ts r h = reaches_on ts h.1.0 r (own_reaches _ _ _ _ h.1.3)
    (reaches_on h.1.0 h.1.1 r (mark_reaches _ _ _ h.1.4) (reaches_on h.1.1 h.1.2 r (parameters_reach ps h.1.1 h.1.2 h.1.5) (mark_reaches _ _ _ h.1.6)))

pub items_are_begun : (c : List Token) (scope : Scope) (is : List ItemTree) (ts r : List Token) → SpellsItems None scope is ts r →
    SpellsItems (Some c) scope is ts r
items_are_begun c scope [] ts r h = h
items_are_begun c scope (i ∷ is) ts r h = series_begun (SpellsItem None scope) (SpellsItem (Some c) scope) c (item_is_begun c scope) (i ∷ is) ts r h

pub items_reach : (scope : Scope) (is : List ItemTree) (ts r : List Token) → SpellsItems None scope is ts r → Reaches ts r
items_reach scope [] ts r h = ([], h)
items_reach scope (i ∷ is) ts r h = series_reaches (SpellsItem None scope) (item_reaches scope) (i ∷ is) ts r h

-- ---- declarations

pub declaration_is_begun : (c : List Token) (scope : Scope) (d : DeclarationTree) (ts r : List Token) → SpellsDeclaration None scope d ts r →
    SpellsDeclaration (Some c) scope d ts r
declaration_is_begun c scope (declared at ss is) ts r h = (
  h.0,
  h.1,
  h.2,
  h.3,
  specifiers_are_begun c scope ss ts h.0 h.4,
  items_are_begun c scope is h.0 h.1
      h.5,
  mark_begun c _ _ _ h.6,
)
declaration_is_begun c scope (assertion at e n) ts r h = (
  h.0,
  h.1,
  h.2,
  h.3,
  h.4,
  h.5,
  h.6,
  mark_begun c _ _ _ h.7,
  h.8,
  whole_is_begun c e h.1 h.2 h.9,
  mark_begun c _ _ _ h.10,
  mark_begun c _ _ _ h.11,
  mark_begun c _ _ _ h.12,
  mark_begun c _ _ _ h.13,
)

pub declaration_reaches : (scope : Scope) (d : DeclarationTree) (ts r : List Token) → SpellsDeclaration None scope d ts r → Reaches ts r
declaration_reaches scope (declared at ss is) ts r h = reaches_on ts h.0 r (declaration_specifiers_reach scope ss ts h.0 h.4)
    (reaches_on h.0 h.1 r (items_reach scope is h.0 h.1 h.5) (mark_reaches _ _ _ h.6))
declaration_reaches scope (assertion at e n) ts r h = reaches_on ts h.0 r (own_reaches _ _ _ _ h.6)
    (reaches_on h.0 h.1 r (mark_reaches _ _ _ h.7) (reaches_on h.1 h.2 r (whole_reaches e h.1 h.2 h.9)
    (reaches_on h.2 h.3 r (mark_reaches _ _ _ h.10) (reaches_on h.3 h.4 r (mark_reaches _ _ _ h.11)
    (reaches_on h.4 h.5 r (mark_reaches _ _ _ h.12) (mark_reaches _ _ _ h.13))))))
