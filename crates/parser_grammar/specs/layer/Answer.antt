-- The results of the functions of the parser, for all categories.
use Rattle.std.specs.Prelude.{◌≡◌, ℕ, ◌+◌, ◌<◌, ◌≤◌, Option, Some, List, ◌∷◌}
use Rattle.srcset.specs.declared.refusal.Pos.{Pos}
use Rattle.lexer.specs.declared.token.Token.{Token}
use Rattle.lexer.specs.declared.token.Kind.{Kind}
use Rattle.parser_grammar.specs.declared.refusal.Refusal.{Refusal}
use Rattle.parser_grammar.specs.declared.refusal.Refusal.TheVariants.{Syntax, Depth, Memory}
use Rattle.parser_grammar.specs.Tokens.{Reaches}
use Rattle.tree.specs.Limits.{depth_limit}

-- the reason against a tree of depth k that is nested in d nodes
abbrev pub Excuses : Refusal → ℕ → ℕ → Type 0
Excuses (Syntax left) d k = ⊥
Excuses (Depth at) d k = depth_limit < d + k
Excuses Memory d k = Unit {0}

-- Below, `spells` says which trees of a category spell which fronts of a list, `ends` where one can end, before
-- these tokens; `height` is its depth.

-- the tree x at the front of the list, and no other; it is nested in d nodes and is k deep
pub record ReadsOf {A : Type 0} (spells : A → List Token → List Token → Type 0) (ends : A → List Token → Type 0) (height : A → ℕ) (d : ℕ) (ts : List Token)
    (x : A) (k : ℕ) (rest : List Token) : Type 0 where
  pub spelled : spells x ts rest
  pub tall : k ≡ height x
  pub fits : d + k ≤ depth_limit
  pub only : (y : A) (r : List Token) → spells y ts r → ends y r → (y ≡ x) × (r ≡ rest)

-- each tree at the front of the list has this against it
pub record FailsOf {A : Type 0} (spells : A → List Token → List Token → Type 0) (ends : A → List Token → Type 0) (height : A → ℕ) (d : ℕ) (ts : List Token)
    (f : Refusal) : Type 0 where
  pub each : (y : A) (r : List Token) → spells y ts r → ends y r → Excuses f d (height y)

-- a begun tree, whose front ends at this place, passes the depth below d nodes
pub record PassesOf {A : Type 0} (begun : Option (List Token) → A → List Token → List Token → Type 0) (height : A → ℕ) (d : ℕ) (ts : List Token) (at : Pos) :
    Type 0 where
  pub tree : A
  pub cut : List Token
  pub last : Kind
  pub spelled : begun (Some cut) tree ts cut
  pub reaches : Reaches ts (record { kind = last; pos = at } ∷ cut)
  pub deep : depth_limit < d + height tree

-- the refusal is correct: of a depth, some begun tree passes it
abbrev pub StandsOf : {A : Type 0} (begun : Option (List Token) → A → List Token → List Token → Type 0) (height : A → ℕ) → ℕ → List Token → Refusal → Type 0
StandsOf begun height d ts (Syntax left) = Unit {0}
StandsOf begun height d ts (Depth at) = PassesOf begun height d ts at
StandsOf begun height d ts Memory = Unit {0}

-- a tree that ends in a token of its own can end anywhere
abbrev pub Anywhere : {A : Type 0} → A → List Token → Type 0
Anywhere x rest = Unit {0}
