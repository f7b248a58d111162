-- An instruction that is shortened is itself or Nothing.
use Rattle.std.proofs.Common.{◌≡◌, ◌⊎◌, inl, inr, ⊎_elim, ℕ, suc, ◌+◌, ◌-◌, ◌<◌, ◌≤◌, Bool, true, false, List, refl, sym, subst, ap, ◌∙◌, arith}
use Rattle.std.specs.Prelude.{if◌then◌else◌, ◌&&◌, slice_get}
use Rattle.frames_code.specs.declared.code.Instruction.{Instruction}
use Rattle.frames_code.specs.declared.code.Instruction.TheVariants as instruction
use Rattle.frames_code.specs.Code.{Function}
use Rattle.frames_code.specs.Sound.{InstructionFits}
use Rattle.select.specs.Selected.{is_same, is_nothing, is_nothing_if, are_nothing, skips_nothing, shortened}
use Rattle.select.specs.Bytes.{instruction_bytes}

or_nothing : (t : Bool) (x : Instruction) → ((if t then instruction.Nothing else x) ≡ instruction.Nothing) ⊎ ((if t then instruction.Nothing else x) ≡ x)
or_nothing true x = inl refl
or_nothing false x = inr refl

pub shortened_is : (code : List Instruction) (k : ℕ) (x : Instruction) → (shortened code k x ≡ instruction.Nothing) ⊎ (shortened code k x ≡ x)
shortened_is code k instruction.Nothing = inl refl
shortened_is code k (instruction.Move d x) = or_nothing (is_same d x) (instruction.Move d x)
shortened_is code k (instruction.Compute o d x y) = inr refl
shortened_is code k (instruction.Convert c d x) = inr refl
shortened_is code k (instruction.Load w d l) = inr refl
shortened_is code k (instruction.Store w x l) = inr refl
shortened_is code k (instruction.Address d l) = inr refl
shortened_is code k (instruction.Element d x y size) = inr refl
shortened_is code k (instruction.Jump to) = or_nothing (skips_nothing code k to) (instruction.Jump to)
shortened_is code k (instruction.Branch t x y to) = inr refl
shortened_is code k (instruction.Call g) = inr refl
shortened_is code k instruction.PutByte = inr refl
shortened_is code k instruction.GetByte = inr refl
shortened_is code k instruction.Exit = inr refl
shortened_is code k instruction.Return = inr refl

pub shortened_fits : (n : ℕ) (f : Function) (code : List Instruction) (k : ℕ) (x : Instruction) → InstructionFits n f x → InstructionFits n f (shortened code k x)
shortened_fits n f code k x fit = ⊎_elim (λ e. subst (InstructionFits n f) (sym e) tt) (λ e. subst (InstructionFits n f) (sym e) fit) (shortened_is code k x)

pub shortened_bytes : (f : Function) (code : List Instruction) (k : ℕ) (x : Instruction) → instruction_bytes f (shortened code k x) ≤ instruction_bytes f x
shortened_bytes f code k x =
    ⊎_elim
    (λ e. let none : instruction_bytes f (shortened code k x) ≡ 0 = ap (instruction_bytes f) e in omega (arith, none))
    (λ e. let same : instruction_bytes f (shortened code k x) ≡ instruction_bytes f x = ap (instruction_bytes f) e in omega (arith, same))
    (shortened_is code k x)

pub nothing_shortened : (code : List Instruction) (k : ℕ) (x : Instruction) → is_nothing x ≡ true → shortened code k x ≡ instruction.Nothing
nothing_shortened code k instruction.Nothing e = refl
nothing_shortened code k (instruction.Move d x) e = rw e refl
nothing_shortened code k (instruction.Compute o d x y) e = cc
nothing_shortened code k (instruction.Convert c d x) e = cc
nothing_shortened code k (instruction.Load w d l) e = cc
nothing_shortened code k (instruction.Store w x l) e = cc
nothing_shortened code k (instruction.Address d l) e = cc
nothing_shortened code k (instruction.Element d x y size) e = cc
nothing_shortened code k (instruction.Jump to) e = cc
nothing_shortened code k (instruction.Branch t x y to) e = cc
nothing_shortened code k (instruction.Call g) e = cc
nothing_shortened code k instruction.PutByte e = cc
nothing_shortened code k instruction.GetByte e = cc
nothing_shortened code k instruction.Exit e = cc
nothing_shortened code k instruction.Return e = cc

-- one instruction further
pub nothing_on : (code : List Instruction) (k to : ℕ) (all : Bool) → k < to → is_nothing_if (slice_get code k) ≡ true → are_nothing code k (to - k) ≡ all → are_nothing code (k + 1) (to - (k + 1)) ≡ all
nothing_on code k to all lt here is =
    let n = to - (k + 1) in
    let more : to - k ≡ suc n = omega (arith, lt) in
    let split : are_nothing code k (to - k) ≡ (is_nothing_if (slice_get code k) && are_nothing code (k + 1) n) = ap (are_nothing code k) more in
    let rest : (is_nothing_if (slice_get code k) && are_nothing code (k + 1) n) ≡ are_nothing code (k + 1) n = ap (λ b. b && are_nothing code (k + 1) n) here in
    sym rest ∙ (sym split ∙ is)
