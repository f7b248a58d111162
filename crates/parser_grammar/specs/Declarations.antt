-- The grammar of declarations (ISO/IEC 9899:2011 6.7), by cases on the tree.
use Rattle.std.specs.Prelude.{◌≡◌, ℕ, ◌<◌, ◌≤◌, Option, None, Some, ◌⊎◌, List, [], ◌∷◌, length}
use Rattle.srcset.specs.declared.refusal.Pos.{Pos}
use Rattle.lexer.specs.declared.token.Token.{Token}
use Rattle.lexer.specs.declared.token.Kind.TheVariants as kind
use Rattle.lexer.specs.declared.token.Keyword.TheVariants as keyword
use Rattle.lexer.specs.declared.token.Punctuator.TheVariants as sign
use Rattle.tree.specs.declared.expression.Word.TheVariants as word
use Rattle.tree.specs.declared.expression.TypeSpecifier.TheVariants as specifier
use Rattle.tree.specs.Tree.{Tree, Init, init_hole, one_init, braced_init, Inits, no_inits, and_init, EnumeratorTree, SpecifierTree, extern_specifier, static_specifier, plain_specifier, enumerators_specifier, ParameterTree, ItemTree, object, function, DeclarationTree, declared, assertion}
use Rattle.parser_grammar.specs.declared.scope.Scope.{Scope}
use Rattle.parser_grammar.specs.declared.scope.Scope.TheVariants.{File}
use Rattle.parser_grammar.specs.Expressions.{layer, SpellsSpecifiers, SpellsSpecifier, Spells}
use Rattle.parser_grammar.specs.Tokens.{Own, Missing, Mark, Sign, StartsAt}

-- ---- lists with a comma between any two

abbrev pub SpellsMoreOf : {A : Type 0} → (A → List Token → List Token → Type 0) → Option (List Token) → List A → List Token → List Token → Type 0
SpellsMoreOf S b [] ts rest = ts ≡ rest
SpellsMoreOf S b (x ∷ xs) ts rest = (t1 : List Token) × (t2 : List Token) × Sign b sign.Comma ts t1 × S x t1 t2 × SpellsMoreOf S b xs t2 rest

-- at least one, but for a begun list
abbrev pub SpellsSeries : {A : Type 0} → (A → List Token → List Token → Type 0) → Option (List Token) → List A → List Token → List Token → Type 0
SpellsSeries S b [] ts rest = Missing b ts rest
SpellsSeries S b (x ∷ xs) ts rest = (t1 : List Token) × S x ts t1 × SpellsMoreOf S b xs t1 rest

-- a comma may follow the last
abbrev pub Trailing : List Token → List Token → Type 0
Trailing ts rest = (ts ≡ rest) ⊎ ((at : Pos) × Own (kind.Punctuator sign.Comma) at ts rest)

-- ---- specifiers

-- 6.7.2.2
abbrev pub SpellsValue : Option (List Token) → Option Tree → List Token → List Token → Type 0
SpellsValue b None ts rest = ts ≡ rest
SpellsValue b (Some e) ts rest = (t1 : List Token) × Sign b sign.Assign ts t1 × (2 ≤ layer e) × Spells b e t1 rest

abbrev pub SpellsEnumerator : Option (List Token) → EnumeratorTree → List Token → List Token → Type 0
SpellsEnumerator b e ts rest = (t1 : List Token) × Own (kind.Identifier e.name) e.at ts t1 × SpellsValue b e.value t1 rest

abbrev pub SpellsTag : Option ℕ → List Token → List Token → Type 0
SpellsTag None ts rest = ts ≡ rest
SpellsTag (Some tag) ts rest = (at : Pos) × Own (kind.Identifier tag) at ts rest

-- 6.7.1 to 6.7.3; `extern` appears at file scope only
abbrev pub SpellsDeclarationSpecifier : Option (List Token) → Scope → SpecifierTree → List Token → List Token → Type 0
SpellsDeclarationSpecifier b scope extern_specifier ts rest = (scope ≡ File) × ((at : Pos) × Own (kind.Keyword keyword.Extern) at ts rest)
SpellsDeclarationSpecifier b scope static_specifier ts rest = (at : Pos) × Own (kind.Keyword keyword.Static) at ts rest
SpellsDeclarationSpecifier b scope (plain_specifier s) ts rest = SpellsSpecifier s ts rest
SpellsDeclarationSpecifier b scope (enumerators_specifier tag list) ts rest = (t1 : List Token) × (t2 : List Token) × (t3 : List Token) × (t4 : List Token)
    × (t5 : List Token) × (at : Pos)
    × Own (kind.Keyword keyword.Enum) at ts t1 × SpellsTag tag t1 t2 × Sign b sign.BraceOpen t2 t3
    × SpellsSeries (SpellsEnumerator b) b list t3 t4 × Trailing t4 t5 × Sign b sign.BraceClose t5 rest

abbrev pub SpellsDeclarationSpecifiers : Option (List Token) → Scope → List SpecifierTree → List Token → List Token → Type 0
SpellsDeclarationSpecifiers b scope [] ts rest = ts ≡ rest
SpellsDeclarationSpecifiers b scope (s ∷ ss) ts rest = (t1 : List Token) × SpellsDeclarationSpecifier b scope s ts t1 × SpellsDeclarationSpecifiers b scope ss
    t1 rest

-- ---- declarators

-- 6.7.6.2
abbrev pub SpellsBound : Option (List Token) → Option Tree → List Token → List Token → Type 0
SpellsBound b None ts rest = ts ≡ rest
SpellsBound b (Some e) ts rest = (2 ≤ layer e) × Spells b e ts rest

abbrev pub SpellsBounds : Option (List Token) → List (Option Tree) → List Token → List Token → Type 0
SpellsBounds b [] ts rest = ts ≡ rest
SpellsBounds b (e ∷ es) ts rest = (t1 : List Token) × (t2 : List Token) × (t3 : List Token) × Sign b sign.BracketOpen ts t1
    × SpellsBound b e t1 t2 × Sign b sign.BracketClose t2 t3 × SpellsBounds b es t3 rest

-- 6.7.6.3; a parameter without a name has the place of its first token
abbrev pub SpellsParameterName : ParameterTree → Option ℕ → List Token → List Token → Type 0
SpellsParameterName p None ts rest = (ts ≡ rest) × (p.at ≡ p.start)
SpellsParameterName p (Some n) ts rest = Own (kind.Identifier n) p.at ts rest

abbrev pub SpellsParameter : Option (List Token) → ParameterTree → List Token → List Token → Type 0
SpellsParameter b p ts rest = (t1 : List Token) × (t2 : List Token) × StartsAt p.start ts × (0 < length p.specifiers) × SpellsSpecifiers p.specifiers ts t1
    × SpellsParameterName p p.name t1 t2 × SpellsBounds b p.sizes t2 rest

-- ( void ) alone denotes no parameters
pub record IsVoid (p : ParameterTree) : Type 0 where
  pub word_void : p.specifiers ≡ specifier.Word word.Void ∷ []
  pub no_name : p.name ≡ None
  pub no_sizes : p.sizes ≡ []

abbrev pub IsVoidAlone : List ParameterTree → Type 0
IsVoidAlone [] = ⊥
IsVoidAlone (p ∷ []) = IsVoid p
IsVoidAlone (p ∷ q ∷ ps) = ⊥

abbrev pub SpellsParameters : Option (List Token) → List ParameterTree → List Token → List Token → Type 0
SpellsParameters b [] ts rest = (at : Pos) × Own (kind.Keyword keyword.Void) at ts rest
SpellsParameters b (p ∷ ps) ts rest = (IsVoidAlone (p ∷ ps) → ⊥) × SpellsSeries (SpellsParameter b) b (p ∷ ps) ts rest

-- 6.7.9
abbrev mutual
  pub SpellsInit : Option (List Token) → Init → List Token → List Token → Type 0
  SpellsInit b init_hole ts rest = Missing b ts rest
  SpellsInit b (one_init e) ts rest = (1 ≤ layer e) × Spells b e ts rest
  SpellsInit b (braced_init at parts) ts rest = (t1 : List Token) × (t2 : List Token) × (t3 : List Token) × Own (kind.Punctuator sign.BraceOpen) at ts t1
      × SpellsInits b parts t1 t2 × Trailing t2 t3 × Sign b sign.BraceClose t3 rest

  -- at least one, but for a begun list
  pub SpellsInits : Option (List Token) → Inits → List Token → List Token → Type 0
  SpellsInits b no_inits ts rest = Missing b ts rest
  SpellsInits b (and_init i is) ts rest = (t1 : List Token) × SpellsInit b i ts t1 × SpellsMoreInits b is t1 rest

  -- further ones, each after a comma
  pub SpellsMoreInits : Option (List Token) → Inits → List Token → List Token → Type 0
  SpellsMoreInits b no_inits ts rest = ts ≡ rest
  SpellsMoreInits b (and_init i is) ts rest = (t1 : List Token) × (t2 : List Token) × Sign b sign.Comma ts t1 × SpellsInit b i t1 t2
      × SpellsMoreInits b is t2 rest

abbrev pub SpellsInitialiser : Option (List Token) → Option Init → List Token → List Token → Type 0
SpellsInitialiser b None ts rest = ts ≡ rest
SpellsInitialiser b (Some i) ts rest = (t1 : List Token) × Sign b sign.Assign ts t1 × SpellsInit b i t1 rest

-- 6.7.6; the declarator of a function appears at file scope only
abbrev pub SpellsItem : Option (List Token) → Scope → ItemTree → List Token → List Token → Type 0
SpellsItem b scope (object at n sizes init) ts rest = (t1 : List Token) × (t2 : List Token) × Own (kind.Identifier n) at ts t1
    × SpellsBounds b sizes t1 t2 × SpellsInitialiser b init t2 rest
SpellsItem b scope (function at n parameters) ts rest = (scope ≡ File) × ((t1 : List Token) × (t2 : List Token) × (t3 : List Token)
    × Own (kind.Identifier n) at ts t1
    × Sign b sign.ParenOpen t1 t2 × SpellsParameters b parameters t2 t3 × Sign b sign.ParenClose t3 rest)

abbrev pub SpellsItems : Option (List Token) → Scope → List ItemTree → List Token → List Token → Type 0
SpellsItems b scope [] ts rest = ts ≡ rest
SpellsItems b scope (i ∷ is) ts rest = SpellsSeries (SpellsItem b scope) b (i ∷ is) ts rest

-- ---- declarations

-- 6.7, 6.7.10
abbrev pub SpellsDeclaration : Option (List Token) → Scope → DeclarationTree → List Token → List Token → Type 0
SpellsDeclaration b scope (declared at specifiers items) ts rest = (t1 : List Token) × (t2 : List Token) × StartsAt at ts × (0 < length specifiers)
    × SpellsDeclarationSpecifiers b scope specifiers ts t1 × SpellsItems b scope items t1 t2 × Sign b sign.Semicolon t2 rest
SpellsDeclaration b scope (assertion at e n) ts rest = (t1 : List Token) × (t2 : List Token) × (t3 : List Token) × (t4 : List Token) × (t5 : List Token)
    × (t6 : List Token)
    × Own (kind.Keyword keyword.StaticAssert) at ts t1 × Sign b sign.ParenOpen t1 t2 × (2 ≤ layer e) × Spells b e t2 t3 × Sign b sign.Comma t3 t4
    × Mark b (kind.StringLiteral n) t4 t5 × Sign b sign.ParenClose t5 t6 × Sign b sign.Semicolon t6 rest
