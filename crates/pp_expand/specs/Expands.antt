-- The results of this crate's calls, with the macros and the texts seen by number.
use Rattle.std.specs.Prelude.{◌≡◌, ℕ, ◌-◌, ◌<◌, List, ◌++◌, take, length, slice_get, Some, Result, Ok, Err, Vec}
use Rattle.std.specs.declared.alloc.Global.{Global}
use Rattle.srcset.specs.declared.fault.Fault.{Fault as ToldFault}
use Rattle.srcset.specs.declared.refusal.Refusal.{Refusal}
use Rattle.srcset.specs.declared.refusal.Refusal.TheVariants.{Memory, At, Told}
use Rattle.srcset.specs.NameTable.{Texts}
use Rattle.srcset.specs.Refusal.{IsFaultOfRefusal}
use Rattle.phases.specs.Token.{Token}
use Rattle.pp_expand.specs.declared.run_end.RunEnd.{RunEnd}
use Rattle.pp_expand.specs.declared.run_end.RunEnd.TheVariants as run_end
use Rattle.pp_expand.specs.Expansion.{Ending, of_run, of_directive, of_argument, Fault}

abbrev pub ending_of : RunEnd → Ending
ending_of run_end.Run = of_run
ending_of run_end.Directive = of_directive
ending_of run_end.Argument = of_argument

-- the file of each token has a number
abbrev pub HaveFiles : Texts → List Token → Type 0
HaveFiles texts xs = (i : ℕ) (x : Token) → slice_get xs i ≡ Some x → x.pos.file < length texts

-- the code returns this expansion: `old` replacements are left before it and `new` after it
abbrev pub IsExpansion : Result (Vec Token Global) Refusal → ℕ → ℕ → Result (List Token × ℕ) Fault → Type 0
IsExpansion (Ok v) old new expansion = expansion ≡ Ok (v.items, new)
IsExpansion (Err Memory) old new expansion = new ≡ old
IsExpansion (Err (At code pos)) old new expansion = (expansion ≡ Err (record { code = code; at = pos })) × (new ≡ old)
IsExpansion (Err (Told code pos text)) old new expansion = ⊥

-- the list appended to `before`, up to `most` tokens in all
abbrev pub put_behind : ℕ → List Token → List Token → List Token
put_behind most before list = before ++ take (most - length before) list

-- the same, where the expansion is appended to existing tokens, up to a maximum count in all
abbrev pub IsExpansionBehind : {A : Type 0} → Result A Refusal → ℕ → List Token → List Token → ℕ → ℕ → Result (List Token × ℕ) Fault → Type 0
IsExpansionBehind (Ok u) most before all old new expansion = (list : List Token) × (expansion ≡ Ok (list, new)) × (all ≡ put_behind most before list)
IsExpansionBehind (Err refusal) most before all old new expansion = IsExpansion (Err refusal) old new expansion

-- the same, where the failure is a fault, with its texts
abbrev pub IsToldExpansion : Texts → Result (Vec Token Global) ToldFault → ℕ → ℕ → Result (List Token × ℕ) Fault → Type 0
IsToldExpansion texts (Ok v) old new expansion = expansion ≡ Ok (v.items, new)
IsToldExpansion texts (Err fault) old new expansion =
    (refusal : Refusal) × IsFaultOfRefusal fault texts refusal × IsExpansion (Err refusal) old new expansion
