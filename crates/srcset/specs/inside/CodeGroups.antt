-- The groups of codes in which src/code.rt looks a number up.
use Rattle.std.specs.Prelude.{ℕ, ◌/◌, nat_eq, Option, find, filter}
use Rattle.srcset.specs.declared.code.Code.{Code}
use Rattle.srcset.specs.Codes.{number_of, all_codes}

-- the code with this number among those whose numbers begin with this digit
unfoldable pub code_in_group : ℕ → ℕ → Option Code
code_in_group digit n = find (λ c. nat_eq n (number_of c)) (filter (λ c. nat_eq (number_of c / 100) digit) all_codes)
