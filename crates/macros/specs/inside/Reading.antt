-- Parameters as they are written, whether a name is there twice or not.
use Rattle.std.specs.Prelude.{◌≡◌, ℕ, suc, List, [], ◌∷◌, ◌++◌, nat_eq, Bool, true, false, not, ◌&&◌, Option, Some, None, codes, if◌then◌else◌}
use Rattle.std.specs.List.{list_any}
use Rattle.srcset.specs.NameTable.{Texts}
use Rattle.phases.specs.Token.{Token}
use Rattle.macros.specs.Macro.{Macro, Macros, is_identifier, is_spelled}
use Rattle.macros.specs.Table.{Table, AreNumbered, IsTable}

-- names, whether an ellipsis ends them, and how many tokens there are through the `)`
pub record Read : Type 0 where
  pub names : List (List ℕ)
  pub variadic : Bool
  pub len : ℕ

abbrev pub read_before : List ℕ → Option Read → Option Read
read_before name None = None
read_before name (Some r) = Some (record { names = name ∷ r.names; variadic = r.variadic; len = suc (suc r.len) })

abbrev pub read_from : List Token → Option Read
read_from [] = None
read_from (x ∷ []) = None
read_from (x ∷ y ∷ rest) =
    if is_spelled (codes "...") x
    then if is_spelled (codes ")") y then Some (record { names = []; variadic = true; len = 2 }) else None
    else if not (is_identifier x) then None
    else if is_spelled (codes ")") y then Some (record { names = x.spelling ∷ []; variadic = false; len = 2 })
    else if is_spelled (codes ",") y then read_before x.spelling (read_from rest)
    else None

-- the numbers are of the names that were read
abbrev pub IsRead : Texts → List ℕ → Bool → ℕ → Option Read → Type 0
IsRead texts numbers variadic len None = ⊥
IsRead texts numbers variadic len (Some r) = AreNumbered texts numbers r.names × (variadic ≡ r.variadic) × (len ≡ r.len)

-- each table means the same macros under the new texts
abbrev pub KeepsTables : Texts → Texts → Type 0
KeepsTables old new = (table : Table) (macros : Macros) → IsTable old table macros → IsTable new table macros

-- no number occurs twice, or among those before
abbrev pub distinct_from : List ℕ → List ℕ → Bool
distinct_from seen [] = true
distinct_from seen (n ∷ ns) = not (list_any (nat_eq n) seen) && distinct_from (seen ++ n ∷ []) ns

-- the function-like macro with these parameters, where the test holds
abbrev pub macro_if : Bool → List (List ℕ) → Bool → List Token → Option Macro
macro_if true names variadic body =
    Some (record { parameters = Some (record { names = names; variadic = variadic }); body = body })
macro_if false names variadic body = None

-- the place of a name that is among `count` names or is __VA_ARGS__ after them
abbrev pub place_behind : Option ℕ → Bool → ℕ → Option ℕ
place_behind (Some i) variable count = Some i
place_behind None true count = Some count
place_behind None false count = None
