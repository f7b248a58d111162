-- The parts of a text that a literal is filled with.
use Rattle.std.proofs.Common.{◌≡◌, ℕ, List, ◌++◌, codes, Option, Some, subst}
use Rattle.std.specs.Option.{IfSome}
use Rattle.std.specs.Fmt.{option_append}

pub last_part : (t name rd hex : List ℕ) (shown : Option (List ℕ)) → shown ≡ Some hex
    → IfSome (option_append (Some name) (option_append (Some (codes " x")) (option_append (Some rd) (option_append (Some (codes ",0x")) shown)))) (λ bs. t ≡ bs)
    → t ≡ name ++ (codes " x" ++ (rd ++ (codes ",0x" ++ hex)))
last_part t name rd hex shown is e =
    subst (λ o. IfSome (option_append (Some name) (option_append (Some (codes " x")) (option_append (Some rd) (option_append (Some (codes ",0x")) o)))) (λ bs. t ≡ bs)) is e
