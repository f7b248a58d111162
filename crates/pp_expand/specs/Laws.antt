-- Laws of expansions.
use Rattle.std.specs.Prelude.{◌≡◌, ℕ, ◌+◌, ◌≤◌, List, Ok}
use Rattle.srcset.specs.NameTable.{Texts, KeepsNumbers}
use Rattle.macros_substitution.specs.Substitution.{◌>>=◌, Hidden}
use Rattle.pp_expand.specs.Expansion.{Ending, Known, expanded_by}
use Rattle.pp_expand.specs.Pulled.{expanding, pulled_by, pulled, then_expanded}
use Rattle.pp_expand.specs.Streams.{Stream, list_left, Knows}

-- the pulled token, followed by the expansion of the list left, is the expansion of the list, with the replacements that are left
abbrev pub PullsFirst : Type 0
PullsFirst =
    (known : Known) (xs : List Hidden) (ending : Ending) (left : ℕ)
    → expanding known xs ending left ≡ (pulled known xs ending left >>= λ a. then_expanded known ending a.0 a.1 a.2)

-- the facts known of a list left stay true when the table gains names
abbrev pub KnowsGrows : Type 0
KnowsGrows = (names after : Texts) (s : Stream) → KeepsNumbers names after → Knows names s → Knows after s

-- and so does the list
abbrev pub LeftGrows : Type 0
LeftGrows = (names after : Texts) (s : Stream) → KeepsNumbers names after → Knows names s → list_left after s ≡ list_left names s

-- a bound of the recursion that is at least the number of replacements left gives the result of that number
abbrev pub BoundSuffices : Type 0
BoundSuffices =
    (bound : ℕ) (known : Known) (xs : List Hidden) (ending : Ending) (left : ℕ) → left ≤ bound
    → expanded_by bound known xs ending left ≡ expanded_by left known xs ending left

-- the same for pulling
abbrev pub PullBoundSuffices : Type 0
PullBoundSuffices =
    (bound : ℕ) (known : Known) (xs : List Hidden) (ending : Ending) (left : ℕ) → left ≤ bound
    → pulled_by bound known xs ending left ≡ pulled_by left known xs ending left

-- with more replacements left the list is the same, and so many more are left behind it
abbrev pub BudgetSuffices : Type 0
BudgetSuffices =
    (known : Known) (xs : List Hidden) (ending : Ending) (left more rest : ℕ) (list : List Hidden)
    → expanding known xs ending left ≡ Ok (list, rest) → expanding known xs ending (more + left) ≡ Ok (list, more + rest)
