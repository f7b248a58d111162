-- Whole expressions are begun ones, the tokens that they spell are a front, and each spells at least one.
use Rattle.std.specs.Prelude.{None, Some}
use Rattle.std.proofs.Common.{◌<◌, ◌≤◌, List, [], ◌∷◌, length, ap, arith}
use Rattle.lexer.specs.declared.token.Token.{Token}
use Rattle.tree.specs.declared.expression.TypeSpecifier.{TypeSpecifier}
use Rattle.tree.specs.declared.expression.TypeSpecifier.TheVariants as specifier
use Rattle.tree.specs.Tree.{Tree, hole, identifier, constant, string, paren, call, subscript, after, before, prefix, size_of, size_of_type, cast, binary, conditional, assign, Trees, no_trees, one_more, TypeTree, type_name}
use Rattle.parser_grammar.specs.Expressions.{SpellsSpecifier, SpellsSpecifiers, Spells, SpellsArguments, SpellsMore, SpellsType, SpellsSizes}
use Rattle.parser_grammar.specs.Tokens.{Reaches}
use Rattle.parser_grammar.proofs.Tokens.{mark_begun, mark_reaches, mark_shorter, own_reaches, own_shorter, reaches_on}

-- ---- specifiers

pub specifier_reaches : (s : TypeSpecifier) (ts r : List Token) → SpellsSpecifier s ts r → Reaches ts r
specifier_reaches specifier.Const ts r h = own_reaches _ _ ts r h.1
specifier_reaches (specifier.Word w) ts r h = own_reaches _ _ ts r h.1
specifier_reaches (specifier.Enum tag) ts r h = reaches_on ts h.0 r (own_reaches _ _ _ _ h.3) (own_reaches _ _ _ _ h.4)

pub specifiers_reach : (ss : List TypeSpecifier) (ts r : List Token) → SpellsSpecifiers ss ts r → Reaches ts r
specifiers_reach [] ts r h = ([], h)
specifiers_reach (s ∷ ss) ts r h = reaches_on ts h.0 r (specifier_reaches s ts h.0 h.1) (specifiers_reach ss h.0 r h.2)

pub specifier_shorter : (s : TypeSpecifier) (ts r : List Token) → SpellsSpecifier s ts r → length r < length ts
specifier_shorter specifier.Const ts r h = own_shorter _ _ ts r h.1
specifier_shorter (specifier.Word w) ts r h = own_shorter _ _ ts r h.1
specifier_shorter (specifier.Enum tag) ts r h = omega (arith, own_shorter _ _ _ _ h.3, own_shorter _ _ _ _ h.4)

pub specifiers_shorter : (ss : List TypeSpecifier) (ts r : List Token) → SpellsSpecifiers ss ts r → length r ≤ length ts
specifiers_shorter [] ts r h = omega (arith, ap length h)
specifiers_shorter (s ∷ ss) ts r h = omega (arith, specifier_shorter s ts h.0 h.1, specifiers_shorter ss h.0 r h.2)

-- ---- whole trees

-- a whole tree is a begun one
mutual
  pub whole_is_begun : (c : List Token) (t : Tree) (ts r : List Token) → Spells None t ts r → Spells (Some c) t ts r
  whole_is_begun c hole ts r h = absurd h
  whole_is_begun c (identifier at n) ts r h = h
  whole_is_begun c (constant at ty n) ts r h = h
  whole_is_begun c (string at n) ts r h = h
  whole_is_begun c (paren e) ts r h = (h.0, h.1, h.2, h.3, whole_is_begun c e h.0 h.1 h.4, mark_begun c _ _ _ h.5)
  whole_is_begun c (call at f args) ts r h = (h.0, h.1, h.2, h.3, mark_begun c _ _ _ h.4, arguments_begun c args h.1 h.2 h.5, mark_begun c _ _ _ h.6)
  whole_is_begun c (subscript at a i) ts r h = (h.0, h.1, h.2, h.3, whole_is_begun c a ts h.0 h.4, h.5, whole_is_begun c i h.1 h.2 h.6, mark_begun c _ _ _ h.7)
  whole_is_begun c (after at op a) ts r h = (h.0, h.1, whole_is_begun c a ts h.0 h.2, h.3)
  whole_is_begun c (before at op a) ts r h = (h.0, h.1, h.2, whole_is_begun c a h.0 r h.3)
  whole_is_begun c (prefix at op a) ts r h = (h.0, h.1, h.2, whole_is_begun c a h.0 r h.3)
  whole_is_begun c (size_of at a) ts r h = (h.0, h.1, h.2, whole_is_begun c a h.0 r h.3)
  whole_is_begun c (size_of_type at ty) ts r h = (h.0, h.1, h.2, h.3, mark_begun c _ _ _ h.4, type_is_begun c ty h.1 h.2 h.5, mark_begun c _ _ _ h.6)
  whole_is_begun c (cast at ty a) ts r h = (h.0, h.1, h.2, h.3, type_is_begun c ty h.0 h.1 h.4, mark_begun c _ _ _ h.5, h.6, whole_is_begun c a h.2 r h.7)
  whole_is_begun c (binary at op a b) ts r h = (h.0, h.1, h.2, whole_is_begun c a ts h.0 h.3, h.4, h.5, whole_is_begun c b h.1 r h.6)
  whole_is_begun c (conditional at x a b) ts r h = (
    h.0,
    h.1,
    h.2,
    h.3,
    h.4,
    whole_is_begun c x ts h.0 h.5,
    h.6,
    whole_is_begun c a h.1 h.2 h.7,
    mark_begun c _
        _ _ h.8,
    h.9,
    whole_is_begun c b h.3 r h.10,
  )
  whole_is_begun c (assign at op a b) ts r h = (h.0, h.1, h.2, whole_is_begun c a ts h.0 h.3, h.4, h.5, whole_is_begun c b h.1 r h.6)

  pub arguments_begun : (c : List Token) (es : Trees) (ts r : List Token) → SpellsArguments None es ts r → SpellsArguments (Some c) es ts r
  arguments_begun c no_trees ts r h = h
  arguments_begun c (one_more e es) ts r h = (h.0, h.1, whole_is_begun c e ts h.0 h.2, more_begun c es h.0 r h.3)

  pub more_begun : (c : List Token) (es : Trees) (ts r : List Token) → SpellsMore None es ts r → SpellsMore (Some c) es ts r
  more_begun c no_trees ts r h = h
  more_begun c (one_more e es) ts r h = (h.0, h.1, mark_begun c _ _ _ h.2, h.3, whole_is_begun c e h.0 h.1 h.4, more_begun c es h.1 r h.5)

  pub type_is_begun : (c : List Token) (ty : TypeTree) (ts r : List Token) → SpellsType None ty ts r → SpellsType (Some c) ty ts r
  type_is_begun c (type_name at [] no_trees) ts r h = absurd h
  type_is_begun c (type_name at [] (one_more e es)) ts r h = absurd h
  type_is_begun c (type_name at (s ∷ ss) sizes) ts r h = (h.0, h.1, h.2, sizes_begun c sizes h.0 r h.3)

  pub sizes_begun : (c : List Token) (es : Trees) (ts r : List Token) → SpellsSizes None es ts r → SpellsSizes (Some c) es ts r
  sizes_begun c no_trees ts r h = h
  sizes_begun c (one_more e es) ts r h = (
    h.0,
    h.1,
    h.2,
    mark_begun c _ _ _ h.3,
    h.4,
    whole_is_begun c e h.0 h.1 h.5,
    mark_begun c _ _ _ h.6,
    sizes_begun c es
        h.2 r h.7,
  )

-- the tokens that a tree spells are a front
mutual
  pub whole_reaches : (t : Tree) (ts r : List Token) → Spells None t ts r → Reaches ts r
  whole_reaches hole ts r h = absurd h
  whole_reaches (identifier at n) ts r h = own_reaches _ _ ts r h
  whole_reaches (constant at ty n) ts r h = own_reaches _ _ ts r h
  whole_reaches (string at n) ts r h = own_reaches _ _ ts r h
  whole_reaches (paren e) ts r h = reaches_on ts h.0 r (own_reaches _ _ _ _ h.3) (reaches_on h.0 h.1 r (whole_reaches e h.0 h.1 h.4) (mark_reaches _ _ _ h.5))
  whole_reaches (call at f args) ts r h = reaches_on ts h.0 r (own_reaches _ _ _ _ h.3)
      (reaches_on h.0 h.1 r (mark_reaches _ _ _ h.4) (reaches_on h.1 h.2 r (arguments_reach args h.1 h.2 h.5) (mark_reaches _ _ _ h.6)))
  whole_reaches (subscript at a i) ts r h = reaches_on ts h.0 r (whole_reaches a ts h.0 h.4)
      (reaches_on h.0 h.1 r (own_reaches _ _ _ _ h.5) (reaches_on h.1 h.2 r (whole_reaches i h.1 h.2 h.6) (mark_reaches _ _ _ h.7)))
  whole_reaches (after at op a) ts r h = reaches_on ts h.0 r (whole_reaches a ts h.0 h.2) (own_reaches _ _ _ _ h.3)
  whole_reaches (before at op a) ts r h = reaches_on ts h.0 r (own_reaches _ _ _ _ h.1) (whole_reaches a h.0 r h.3)
  whole_reaches (prefix at op a) ts r h = reaches_on ts h.0 r (own_reaches _ _ _ _ h.1) (whole_reaches a h.0 r h.3)
  whole_reaches (size_of at a) ts r h = reaches_on ts h.0 r (own_reaches _ _ _ _ h.1) (whole_reaches a h.0 r h.3)
  whole_reaches (size_of_type at ty) ts r h = reaches_on ts h.0 r (own_reaches _ _ _ _ h.3)
      (reaches_on h.0 h.1 r (mark_reaches _ _ _ h.4) (reaches_on h.1 h.2 r (type_reaches ty h.1 h.2 h.5) (mark_reaches _ _ _ h.6)))
  whole_reaches (cast at ty a) ts r h = reaches_on ts h.0 r (own_reaches _ _ _ _ h.3)
      (reaches_on h.0 h.1 r (type_reaches ty h.0 h.1 h.4) (reaches_on h.1 h.2 r (mark_reaches _ _ _ h.5) (whole_reaches a h.2 r h.7)))
  whole_reaches (binary at op a b) ts r h = reaches_on ts h.0 r (whole_reaches a ts h.0 h.3)
      (reaches_on h.0 h.1 r (own_reaches _ _ _ _ h.4) (whole_reaches b h.1 r h.6))
  whole_reaches (conditional at x a b) ts r h = reaches_on ts h.0 r (whole_reaches x ts h.0 h.5)
      (reaches_on h.0 h.1 r (own_reaches _ _ _ _ h.6) (reaches_on h.1 h.2 r (whole_reaches a h.1 h.2 h.7)
      (reaches_on h.2 h.3 r (mark_reaches _ _ _ h.8) (whole_reaches b h.3 r h.10))))
  whole_reaches (assign at op a b) ts r h = reaches_on ts h.0 r (whole_reaches a ts h.0 h.3)
      (reaches_on h.0 h.1 r (own_reaches _ _ _ _ h.4) (whole_reaches b h.1 r h.6))

  pub arguments_reach : (es : Trees) (ts r : List Token) → SpellsArguments None es ts r → Reaches ts r
  arguments_reach no_trees ts r h = ([], h)
  arguments_reach (one_more e es) ts r h = reaches_on ts h.0 r (whole_reaches e ts h.0 h.2) (more_reach es h.0 r h.3)

  pub more_reach : (es : Trees) (ts r : List Token) → SpellsMore None es ts r → Reaches ts r
  more_reach no_trees ts r h = ([], h)
  more_reach (one_more e es) ts r h = reaches_on ts h.0 r (mark_reaches _ _ _ h.2)
      (reaches_on h.0 h.1 r (whole_reaches e h.0 h.1 h.4) (more_reach es h.1 r h.5))

  pub type_reaches : (ty : TypeTree) (ts r : List Token) → SpellsType None ty ts r → Reaches ts r
  type_reaches (type_name at [] no_trees) ts r h = absurd h
  type_reaches (type_name at [] (one_more e es)) ts r h = absurd h
  type_reaches (type_name at (s ∷ ss) sizes) ts r h = reaches_on ts h.0 r (specifiers_reach (s ∷ ss) ts h.0 h.2) (sizes_reach sizes h.0 r h.3)

  pub sizes_reach : (es : Trees) (ts r : List Token) → SpellsSizes None es ts r → Reaches ts r
  sizes_reach no_trees ts r h = ([], h)
  sizes_reach (one_more e es) ts r h = reaches_on ts h.0 r (mark_reaches _ _ _ h.3)
      (reaches_on h.0 h.1 r (whole_reaches e h.0 h.1 h.5) (reaches_on h.1 h.2 r (mark_reaches _ _ _ h.6) (sizes_reach es h.2 r h.7)))

-- no tree spells nothing
mutual
  pub whole_shorter : (t : Tree) (ts r : List Token) → Spells None t ts r → length r < length ts
  whole_shorter hole ts r h = absurd h
  whole_shorter (identifier at n) ts r h = own_shorter _ _ ts r h
  whole_shorter (constant at ty n) ts r h = own_shorter _ _ ts r h
  whole_shorter (string at n) ts r h = own_shorter _ _ ts r h
  whole_shorter (paren e) ts r h = omega (arith, own_shorter _ _ _ _ h.3, whole_shorter e h.0 h.1 h.4, mark_shorter _ _ _ h.5)
  whole_shorter (call at f args) ts r h = omega (
    arith,
    own_shorter _ _ _ _ h.3,
    mark_shorter _ _ _ h.4,
    arguments_shorter args h.1 h.2 h.5,
    mark_shorter _ _ _
        h.6,
  )
  whole_shorter (subscript at a i) ts r h = omega (
    arith,
    whole_shorter a ts h.0 h.4,
    own_shorter _ _ _ _ h.5,
    whole_shorter i h.1 h.2 h.6,
    mark_shorter _ _ _
        h.7,
  )
  whole_shorter (after at op a) ts r h = omega (arith, whole_shorter a ts h.0 h.2, own_shorter _ _ _ _ h.3)
  whole_shorter (before at op a) ts r h = omega (arith, own_shorter _ _ _ _ h.1, whole_shorter a h.0 r h.3)
  whole_shorter (prefix at op a) ts r h = omega (arith, own_shorter _ _ _ _ h.1, whole_shorter a h.0 r h.3)
  whole_shorter (size_of at a) ts r h = omega (arith, own_shorter _ _ _ _ h.1, whole_shorter a h.0 r h.3)
  whole_shorter (size_of_type at ty) ts r h = omega (
    arith,
    own_shorter _ _ _ _ h.3,
    mark_shorter _ _ _ h.4,
    type_shorter ty h.1 h.2 h.5,
    mark_shorter _ _ _
        h.6,
  )
  whole_shorter (cast at ty a) ts r h = omega (arith, own_shorter _ _ _ _ h.3, type_shorter ty h.0 h.1 h.4, mark_shorter _ _ _ h.5, whole_shorter a h.2 r h.7)
  whole_shorter (binary at op a b) ts r h = omega (arith, whole_shorter a ts h.0 h.3, own_shorter _ _ _ _ h.4, whole_shorter b h.1 r h.6)
  whole_shorter (conditional at x a b) ts r h = omega (
    arith,
    whole_shorter x ts h.0 h.5,
    own_shorter _ _ _ _ h.6,
    whole_shorter a h.1 h.2 h.7,
    mark_shorter _ _
        _ h.8,
    whole_shorter b h.3 r h.10,
  )
  whole_shorter (assign at op a b) ts r h = omega (arith, whole_shorter a ts h.0 h.3, own_shorter _ _ _ _ h.4, whole_shorter b h.1 r h.6)

  pub arguments_shorter : (es : Trees) (ts r : List Token) → SpellsArguments None es ts r → length r ≤ length ts
  arguments_shorter no_trees ts r h = omega (arith, ap length h)
  arguments_shorter (one_more e es) ts r h = omega (arith, whole_shorter e ts h.0 h.2, more_shorter es h.0 r h.3)

  pub more_shorter : (es : Trees) (ts r : List Token) → SpellsMore None es ts r → length r ≤ length ts
  more_shorter no_trees ts r h = omega (arith, ap length h)
  more_shorter (one_more e es) ts r h = omega (arith, mark_shorter _ _ _ h.2, whole_shorter e h.0 h.1 h.4, more_shorter es h.1 r h.5)

  pub type_shorter : (ty : TypeTree) (ts r : List Token) → SpellsType None ty ts r → length r ≤ length ts
  type_shorter (type_name at [] no_trees) ts r h = absurd h
  type_shorter (type_name at [] (one_more e es)) ts r h = absurd h
  type_shorter (type_name at (s ∷ ss) sizes) ts r h = omega (arith, specifiers_shorter (s ∷ ss) ts h.0 h.2, sizes_shorter sizes h.0 r h.3)

  pub sizes_shorter : (es : Trees) (ts r : List Token) → SpellsSizes None es ts r → length r ≤ length ts
  sizes_shorter no_trees ts r h = omega (arith, ap length h)
  sizes_shorter (one_more e es) ts r h = omega (arith, mark_shorter _ _ _ h.3, whole_shorter e h.0 h.1 h.5, mark_shorter _ _ _ h.6, sizes_shorter es h.2 r h.7)
