-- The stack usage of functions: for each by its number a sum of sizes that a call of it takes at most, with the calls within it, or none where
-- there is no claim. How usages were found does not matter: these inequalities are enough, and where sizes are above 0 no recursion meets them.
use Rattle.std.specs.Prelude.{ℕ, ◌≤◌, ◌-◌, List, [], ◌∷◌, Option, Some, None, slice_get}
use Rattle.typing_spec.specs.Program.{Function, Program}
use Rattle.verify_stack.specs.Calls.{statement_calls}

-- the usage of a function is known, and there is room for it
abbrev pub FitsIn : (room : ℕ) → Option (Option ℕ) → Type 0
FitsIn room None = ⊥
FitsIn room (Some None) = ⊥
FitsIn room (Some (Some usage)) = usage ≤ room

abbrev pub EachFits : (usages : List (Option ℕ)) → (room : ℕ) → (calls : List ℕ) → Type 0
EachFits usages room [] = Unit {0}
EachFits usages room (f ∷ calls) = FitsIn room (slice_get usages f) × EachFits usages room calls

-- a function uses its own size, and in addition the usage of any of the calls in its body
pub record Covers (usages : List (Option ℕ)) (size : ℕ) (g : Function) (usage : ℕ) : Type 0 where
  pub own : size ≤ usage
  pub calls : EachFits usages (usage - size) (statement_calls g.body)

abbrev pub CoversIfSaid : (usages : List (Option ℕ)) (size : ℕ) → Function → Option ℕ → Type 0
CoversIfSaid usages size g None = Unit {0}
CoversIfSaid usages size g (Some usage) = Covers usages size g usage

-- the same for each of these functions, with these usages and sizes
abbrev pub EachCovers : (usages : List (Option ℕ)) → List Function → List (Option ℕ) → (sizes : List ℕ) → Type 0
EachCovers usages [] ns sizes = Unit {0}
EachCovers usages (g ∷ gs) [] sizes = Unit {0}
EachCovers usages (g ∷ gs) (n ∷ ns) [] = ⊥
EachCovers usages (g ∷ gs) (n ∷ ns) (s ∷ sizes) = CoversIfSaid usages s g n × EachCovers usages gs ns sizes

abbrev pub AreUsages : Program → (sizes : List ℕ) → List (Option ℕ) → Type 0
AreUsages p sizes usages = EachCovers usages p.functions usages sizes
