-- Parts of stretches of elements.
use Rattle.std.proofs.Common.{◌≡◌, ℕ, zero, suc, ◌≤◌, ◌<◌, Bool, true, false, min, nat_lt, List, length, refl, sym, subst, arith}
use Rattle.ctypes.specs.declared.types.IntType.{IntType}
use Rattle.ctypes.specs.declared.types.IntType.TheVariants as ty
use Rattle.tac_code.specs.declared.code.Operand.TheVariants as operand
use Rattle.tac_code.specs.declared.code.Target.TheVariants as target
use Rattle.tac_code.specs.declared.code.Place.TheVariants as place
use Rattle.tac_code.specs.declared.code.Instruction.{Instruction}
use Rattle.tac_code.specs.declared.code.Instruction.TheVariants as instruction
use Rattle.lower_correct.specs.Code.{One, zero_word}
use Rattle.lower_correct.specs.Initialisers.{GoesOn, ClearsTo, CopiesTo, CopiesFirst, Clears, ClearsRest, Copies}
use Rattle.lower_ops.specs.layer.Parts.{plus, Wrote}
use Rattle.lower_ops.proofs.Parts.{as_wrote, none_wrote, two, three, five, reach_one}
use Rattle.tac.specs.declared.elements.Start.{Start}
use Rattle.tac.specs.inside.FirstSizes.{goes_on_size, clears_to_size, copies_to_size, clears_rest_size, copies_first_size, copies_size}
use Rattle.tac.specs.inside.Starts.{element_at, WroteBegins, WroteClears}

-- ---- loops

-- a loop begins at its first instruction
at_top : (limit top : ℕ) (c0 : List Instruction) {c1 c2 : List Instruction} → top ≡ plus (length c0) 0 → length c0 < 9223372036854775808
    → Wrote (λ w p q. GoesOn w limit top p q) goes_on_size c1 c2 → Wrote (λ w p q. GoesOn w limit (length c0) p q) goes_on_size c1 c2
at_top limit top c0 {c1} {c2} e l x =
    let here : top ≡ length c0 = reach_one top (length c0) 0 (length c0) e (omega arith) l in
    subst (λ n. Wrote (λ w p q. GoesOn w limit n p q) goes_on_size c1 c2) here x

pub clears_to_wrote : (t : IntType) (limit top : ℕ) {c0 c1 c2 c3 : List Instruction} → top ≡ plus (length c0) 0 → length c0 < 9223372036854775808
    → Wrote (λ w p q. One w (instruction.Element t (target.Temporary 2) (operand.Temporary 1) (operand.Temporary 0)) p q) 1 c0 c1
    → Wrote (λ w p q. One w (instruction.Store t zero_word (place.At (operand.Temporary 2))) p q) 1 c1 c2
    → Wrote (λ w p q. GoesOn w limit top p q) goes_on_size c2 c3 → Wrote (λ w p q. ClearsTo w t limit p q) clears_to_size c0 c3
clears_to_wrote t limit top {c0} {c1} {c2} {c3} e l x0 x1 x2 =
    as_wrote (λ w p q. ClearsTo w t limit p q) (three x0 x1 (at_top limit top c0 e l x2)) (λ w h. h)

pub copies_to_wrote : (t : IntType) (limit top : ℕ) {c0 c1 c2 c3 c4 c5 : List Instruction} → top ≡ plus (length c0) 0 → length c0 < 9223372036854775808
    → Wrote (λ w p q. One w (instruction.Element ty.Char (target.Temporary 3) (operand.Temporary 2) (operand.Temporary 0)) p q) 1 c0 c1
    → Wrote (λ w p q. One w (instruction.Load ty.Char (target.Temporary 3) (place.At (operand.Temporary 3))) p q) 1 c1 c2
    → Wrote (λ w p q. One w (instruction.Element t (target.Temporary 4) (operand.Temporary 1) (operand.Temporary 0)) p q) 1 c2 c3
    → Wrote (λ w p q. One w (instruction.Store t (operand.Temporary 3) (place.At (operand.Temporary 4))) p q) 1 c3 c4
    → Wrote (λ w p q. GoesOn w limit top p q) goes_on_size c4 c5 → Wrote (λ w p q. CopiesTo w t limit p q) copies_to_size c0 c5
copies_to_wrote t limit top {c0} {c1} {c2} {c3} {c4} {c5} e l x0 x1 x2 x3 x4 =
    as_wrote (λ w p q. CopiesTo w t limit p q) (five x0 x1 x2 x3 (at_top limit top c0 e l x4)) (λ w h. h)

pub none_copied : (t : IntType) (limit : ℕ) (c : List Instruction) → limit ≡ 0 → length c < 9223372036854775808
    → Wrote (λ w p q. CopiesFirst w t limit p q) (copies_first_size limit) c c
none_copied t limit c e l =
    subst (λ k. Wrote (λ w p q. CopiesFirst w t k p q) (copies_first_size k) c c) (sym e) (none_wrote (λ w p q. CopiesFirst w t 0 p q) c c refl l (λ w. refl))

pub some_copied : (t : IntType) (limit : ℕ) {c0 c1 : List Instruction} → 1 ≤ limit → Wrote (λ w p q. CopiesTo w t limit p q) copies_to_size c0 c1
    → Wrote (λ w p q. CopiesFirst w t limit p q) (copies_first_size limit) c0 c1
some_copied t zero {c0} {c1} h x = absurd (omega (arith, h))
some_copied t (suc limit) {c0} {c1} h x = x

-- ---- stretches of elements

pub no_clears : (a : Start) (n : ℕ) (c : List Instruction) → n ≡ 0 → length c < 9223372036854775808 → WroteClears n a c c
no_clears a n c e l = subst (λ k. WroteClears k a c c) (sym e) (none_wrote (λ w p q. Clears w a.element a.array a.number 0 p q) c c refl l (λ w. refl))

pub clears_one : (a : Start) (n : ℕ) {c0 c1 : List Instruction} → n ≡ 1 → Wrote (λ w p q. One w (instruction.Store a.element zero_word (element_at a)) p q) 1 c0 c1 → WroteClears n a c0 c1
clears_one a n {c0} {c1} e x = subst (λ k. WroteClears k a c0 c1) (sym e) x

clears_more : (a : Start) (n : ℕ) {c0 c1 c2 : List Instruction} → 2 ≤ n → WroteBegins a c0 c1 → Wrote (λ w p q. ClearsTo w a.element n p q) clears_to_size c1 c2 → WroteClears n a c0 c2
clears_more a zero {c0} {c1} {c2} h x0 x1 = absurd (omega (arith, h))
clears_more a (suc zero) {c0} {c1} {c2} h x0 x1 = absurd (omega (arith, h))
clears_more a (suc (suc n)) {c0} {c1} {c2} h x0 x1 =
    as_wrote (λ w p q. Clears w a.element a.array a.number (suc (suc n)) p q) (two x0 x1) (λ w h. (h.1.0, h.0, h.1.1, h.1.2, h.2))

pub clears_by_loop : (a : Start) (n limit : ℕ) {c0 c1 c2 : List Instruction} → 2 ≤ n → limit ≡ n → WroteBegins a c0 c1
    → Wrote (λ w p q. ClearsTo w a.element limit p q) clears_to_size c1 c2 → WroteClears n a c0 c2
clears_by_loop a n limit {c0} {c1} {c2} h e x0 x1 = clears_more a n h x0 (subst (λ k. Wrote (λ w p q. ClearsTo w a.element k p q) clears_to_size c1 c2) e x1)

pub rest_cleared : (less : Bool) (t : IntType) (limit : ℕ) {c0 c1 : List Instruction} → less ≡ true → Wrote (λ w p q. ClearsTo w t limit p q) clears_to_size c0 c1
    → Wrote (λ w p q. ClearsRest w less t limit p q) (clears_rest_size less) c0 c1
rest_cleared less t limit {c0} {c1} e x = subst (λ b. Wrote (λ w p q. ClearsRest w b t limit p q) (clears_rest_size b) c0 c1) (sym e) x

pub no_rest : (less : Bool) (t : IntType) (limit : ℕ) (c : List Instruction) → less ≡ false → length c < 9223372036854775808
    → Wrote (λ w p q. ClearsRest w less t limit p q) (clears_rest_size less) c c
no_rest less t limit c e l =
    subst (λ b. Wrote (λ w p q. ClearsRest w b t limit p q) (clears_rest_size b) c c) (sym e)
    (none_wrote (λ w p q. ClearsRest w false t limit p q) c c refl l (λ w. refl))

pub copies_wrote : (a : Start) (m count characters copied : ℕ) (less : Bool) {c0 c1 c2 c3 c4 c5 : List Instruction} → copied ≡ min count characters
    → Wrote (λ w p q. One w instruction.Nothing p q) 1 c0 c1 → WroteBegins a c1 c2
    → Wrote (λ w p q. One w (instruction.Address (target.Temporary 2) (place.Literal m)) p q) 1 c2 c3
    → Wrote (λ w p q. CopiesFirst w a.element copied p q) (copies_first_size copied) c3 c4
    → Wrote (λ w p q. ClearsRest w less a.element count p q) (clears_rest_size less) c4 c5
    → less ≡ nat_lt characters count
    → Wrote (λ w p q. Copies w a.element a.array a.number m count characters p q) (copies_size count characters) c0 c5
copies_wrote a m count characters copied less {c0} {c1} {c2} {c3} {c4} {c5} e x0 x1 x2 x3 x4 f =
    let y3 = subst (λ k. Wrote (λ w p q. CopiesFirst w a.element k p q) (copies_first_size k) c3 c4) e x3 in
    let y4 = subst (λ b. Wrote (λ w p q. ClearsRest w b a.element count p q) (clears_rest_size b) c4 c5) f x4 in
    as_wrote (λ w p q. Copies w a.element a.array a.number m count characters p q) (five x0 x1 x2 y3 y4)
    (λ w h. (h.0, h.5.0, h.1, h.2, h.3, h.4, h.5.1, h.5.2, h.6, h.7, h.8))
