-- Hide sets in a table (ISO/IEC 9899:2011 6.10.3.4p2): each is a list of names, given as the numbers of their texts.
use Rattle.std.specs.Prelude.{◌≡◌, ℕ, zero, suc, ◌<◌, ◌≤◌, List, [], ◌∷◌, ◌++◌, Option, Some, None, Bool, not, nat_eq, length, map, slice_get}
use Rattle.std.specs.List.{list_any, filter}
use Rattle.srcset.specs.NameTable.{Texts}

-- the sets with the numbers 1, 2, 3 and so on; number 0 is the empty set
abbrev pub Sets : Type 0
Sets = List (List ℕ)

abbrev pub list_or_none : Option (List ℕ) → List ℕ
list_or_none None = []
list_or_none (Some names) = names

-- the names in the set with this number
abbrev pub members : Sets → ℕ → List ℕ
members sets zero = []
members sets (suc n) = list_or_none (slice_get sets n)

-- each set of the old table has its number in the new one
pub record Extends (old new : Sets) : Type 0 where
  pub longer : length old ≤ length new
  pub same : (n : ℕ) → n ≤ length old → members new n ≡ members old n

-- each of these numbers is less than count
abbrev pub AreBelow : ℕ → List ℕ → Type 0
AreBelow count [] = Unit {0}
AreBelow count (n ∷ ns) = (n < count) × AreBelow count ns

-- each name in a set is below `count`
abbrev pub NamesBelow : ℕ → Sets → Type 0
NamesBelow count [] = Unit {0}
NamesBelow count (names ∷ sets) = AreBelow count names × NamesBelow count sets

-- the text with this number, empty where there is none
abbrev pub name_of : Texts → ℕ → List ℕ
name_of texts n = list_or_none (slice_get texts n)

abbrev pub spelled : Texts → List ℕ → List (List ℕ)
spelled texts names = map (λ n. name_of texts n) names

-- whether a name is not among these
abbrev pub is_new : List ℕ → ℕ → Bool
is_new others n = not (list_any (nat_eq n) others)

-- the names of either: those of the first that the second has not, before those of the second
abbrev pub united : List ℕ → List ℕ → List ℕ
united names others = filter (is_new others) names ++ others
