-- Arguments one by one: where each waits for those after it, and how it goes into its temporary.
use Rattle.std.specs.Prelude.{◌≡◌, ◌<◌, ◌+◌, ℕ, List, [], ◌∷◌, length}
use Rattle.typing_spec.specs.Program.{Place, Arguments}
use Rattle.typed_ast.specs.View.{Given, number_given, array_given, arguments_of}
use Rattle.tac_code.specs.declared.code.Instruction.{Instruction}
use Rattle.lower_correct.specs.Values.{arguments_call, arguments_write, keeps, waits_in, mode_of, free_kept}
use Rattle.lower_correct.specs.Places.{found, free_kept_at}
use Rattle.lower_correct.specs.Code.{Loads, HandsOver}
use Rattle.lower_ops.specs.layer.Parts.{plus, Wrote}
use Rattle.lower_ops.specs.layer.FormSizes.{loads_size, hands_over_size}
use Rattle.lower_exprs.specs.declared.places.Free.{Free}
use Rattle.lower_exprs.specs.layer.Sizes.{value_size, place_size, wait_shape}
use Rattle.lower_exprs.specs.layer.Written.{WroteFinds, WroteValue}

-- the number of instructions of one, without those after it
abbrev pub given_size : Given → Arguments → ℕ
given_size (number_given u e) more =
    plus (value_size e (wait_shape e (arguments_write more) (arguments_call more))) (loads_size (keeps u e) (waits_in e (arguments_write more) (arguments_call more) 0 0))
given_size (array_given array) more = plus (place_size array) (hands_over_size (found array (arguments_call more) 0 0))

abbrev pub Waits : (size : Place → ℕ) → Given → Arguments → (free less : Free) → (old new : List Instruction) → Type 0
Waits size (number_given u e) more free less old new =
    let o = waits_in e (arguments_write more) (arguments_call more) free.temporary free.slot in
    (less.temporary ≡ free.temporary + 1) × (less.slot ≡ free_kept o free.slot) × WroteValue size e (mode_of o) free.temporary free.slot old new
Waits size (array_given array) more free less old new =
    (less.temporary ≡ free.temporary + 1) × (less.slot ≡ free_kept_at (found array (arguments_call more) free.temporary free.slot) free.slot)
    × WroteFinds size array (arguments_call more) free.temporary free.slot old new

abbrev pub Fetches : Given → Arguments → Free → (old new : List Instruction) → Type 0
Fetches (number_given u e) more free old new =
    let o = waits_in e (arguments_write more) (arguments_call more) free.temporary free.slot in
    Wrote (λ w p q. Loads w (keeps u e) u o free.temporary p q) (loads_size (keeps u e) o) old new
Fetches (array_given array) more free old new =
    let a = found array (arguments_call more) free.temporary free.slot in
    Wrote (λ w p q. HandsOver w a free.temporary p q) (hands_over_size a) old new

-- all wait, the first one below
abbrev pub AllWait : (size : Place → ℕ) → List Given → List Free → Free → (old new : List Instruction) → Type 0
AllWait size [] [] free old new = (old ≡ new) × (length old < 9223372036854775808)
AllWait size [] (f ∷ fs) free old new = ⊥
AllWait size (g ∷ gs) [] free old new = ⊥
AllWait size (g ∷ gs) (f ∷ fs) free old new =
    (less : Free) × (mid : List Instruction) × (f ≡ free) × Waits size g (arguments_of gs) free less old mid × AllWait size gs fs less mid new

-- the last one is fetched first
abbrev pub AllFetched : List Given → List Free → (old new : List Instruction) → Type 0
AllFetched [] fs old new = old ≡ new
AllFetched (g ∷ gs) [] old new = old ≡ new
AllFetched (g ∷ gs) (f ∷ fs) old new = (mid : List Instruction) × AllFetched gs fs old mid × Fetches g (arguments_of gs) f mid new
