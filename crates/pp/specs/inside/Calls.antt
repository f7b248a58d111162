-- The effect of a call on the run that is pulled.
use Rattle.std.specs.Prelude.{◌≡◌, ◌⊎◌, ℕ, List, Option, None, Result, Ok, Err}
use Rattle.srcset.specs.declared.code.Code.TheVariants as code
use Rattle.srcset.specs.declared.refusal.Pos.{Pos}
use Rattle.srcset.specs.declared.refusal.Refusal.{Refusal}
use Rattle.srcset.specs.declared.refusal.Refusal.TheVariants.{Memory, At, Told}
use Rattle.srcset.specs.NameTable.{Texts, KeepsNumbers}
use Rattle.phases.specs.Token.{Token}
use Rattle.macros.specs.Macro.{Macros}
use Rattle.macros.specs.Table.{Table, IsTable}
use Rattle.pp_expand.specs.Expansion.{Known, Fault}
use Rattle.pp_expand.specs.Expands.{ending_of}
use Rattle.pp_expand.specs.Pulled.{pulled}
use Rattle.pp_expand.specs.Streams.{Stream, list_left, Knows, IsPulled}
use Rattle.pp.specs.Left.{IsGoing, run_left}

-- the first token of the rest, and the rest after it; with these numbers of replacements left before and after
abbrev pub Calls : Known → Stream → Stream → ℕ → ℕ → Result (Option Token) Refusal → Type 0
Calls known run new left after answer =
    IsPulled answer (list_left known.texts new) left after (pulled known (list_left known.texts run) (ending_of run.end) left)

-- the same of a run that was not refused, by the macros of this table and for later texts too
abbrev pub CallsAll : Texts → Table → Stream → Stream → ℕ → ℕ → Result (Option Token) Refusal → Type 0
CallsAll names table run new left after answer =
    (macros : Macros) (texts : Texts) → IsTable names table macros → KeepsNumbers names texts → Knows names run → run.refused ≡ None
    → Calls (record { macros = macros; texts = texts }) run new left after answer

-- names and files of the rest are known
abbrev pub KnowsAll : Texts → Table → Stream → Stream → Type 0
KnowsAll names table run new = (macros : Macros) → IsTable names table macros → Knows names run → Knows names new

-- why a run is refused whose rest after the first token in excess is this
abbrev pub IsRefusedAt : Refusal → Pos → Result (List Token × ℕ) Fault → Type 0
IsRefusedAt Memory at left = Unit {0}
IsRefusedAt (At c p) at left = (left ≡ Err (record { code = c; at = p })) ⊎ ((a : List Token × ℕ) × (left ≡ Ok a) × (c ≡ code.TokenLimit) × (p ≡ at))
IsRefusedAt (Told c p n) at left = ⊥

-- the same by the macros of this table and for later texts too
abbrev pub RefusesAll : Texts → Table → Stream → ℕ → Refusal → Pos → Type 0
RefusesAll names table run left refusal at =
    (macros : Macros) (texts : Texts) → IsTable names table macros → KeepsNumbers names texts → IsGoing names run
    → IsRefusedAt refusal at (run_left (record { macros = macros; texts = texts }) run left)
