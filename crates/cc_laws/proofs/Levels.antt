-- Of the items of a flat instruction, each instruction loads or stores nothing below the lowest stack pointer, or is idle.
use Rattle.std.proofs.Common.{◌≡◌, ◌⊎◌, inl, inr, ⊎_elim, ◌≤◌, ◌<◌, ℕ, zero, suc, ◌+◌, ◌-◌, ◌*◌, ◌/◌, ◌%◌, ◌^◌, List, [], ◌∷◌, ◌++◌, Bool, true, false, Some, refl, sym, ap, ◌∙◌, subst, arith}
use Rattle.std.specs.Prelude.{if◌then◌else◌, ◌==◌}
use Rattle.std.proofs.lemmas.Bool.{cases_lt}
use Rattle.std.proofs.lemmas.List.{append_assoc}
use Rattle.std.proofs.lemmas.List.Sums.{sum_by-append}
use Rattle.csem_events.specs.Events.{Event}
use Rattle.rv32.specs.declared.instr.Instr.TheVariants.{Auipc, Jal, Jalr, Branch}
use Rattle.rv32.specs.declared.instr.Instr.TheVariants as instr
use Rattle.rv32.specs.declared.instr.Test.{Test}
use Rattle.rv32.specs.declared.instr.Test.TheVariants as test
use Rattle.rv32.specs.declared.instr.StoreKind.TheVariants as store_kind
use Rattle.rv32.specs.declared.instr.ImmediateOp.TheVariants as immediate_op
use Rattle.rv32.specs.Arithmetic.{operate_immediate_of}
use Rattle.asm.specs.declared.item.Item.{Item}
use Rattle.asm.specs.declared.item.Item.TheVariants as item
use Rattle.asm.specs.Layout.{size, longest}
use Rattle.asm.specs.Placed.{Short, Long, Calls, Loads, opposite}
use Rattle.select_exec.specs.Standing.{CallAt, Stands}
use Rattle.frames_code.specs.declared.code.Operand.{Operand}
use Rattle.frames_code.specs.declared.code.Instruction.{Instruction}
use Rattle.frames_code.specs.declared.code.Instruction.TheVariants as instruction
use Rattle.frames_code.specs.Code.{Function, frame_bytes}
use Rattle.select_exec.specs.Light.{Fixed, Light, Go, Done, Fell, reg, with_reg, sum32, act, light_step, light_run}
use Rattle.select_exec.proofs.Steps.{run_plus}
use Rattle.select_exec.proofs.Standing.{stands_parts}
use Rattle.select.specs.Selected.{source_of, home_of, fetch, made_in, register_of, address_of, combine, narrow, reach, put_byte, change_sp, saves, restores, keep_return, take_return, entry, leave, exit, byte_home, items_of, shortened, is_same, skips_nothing, add_to}
use Rattle.select_correct.specs.Costs.{row, item_count, opening_cost, call_cost}
use Rattle.select_correct.proofs.Lengths.{rows_are_lengths}
use Rattle.cc_laws.proofs.Quiet.{Words, words, IsQuiet, IsBare, AreQuiet, quiet_both, five, six, ten, eleven, twelve, seventeen, fetch_quiet, keep_quiet, move_quiet, home_off, combine_quiet, narrow_quiet, reach_quiet, reference_quiet, element_quiet, saving_quiet, restoring_quiet, byte_quiet, change_bare}
use Rattle.cc_laws.proofs.Stretches.{HasSp, HasPc, IsFine, sp_of, pc_of, fine_low, fine_idle, done_stays, fell_stays, branch_step, at_text, quiet_run, bare_run, bare_fine}

-- ---- instructions that change no frame

abbrev pub IsLevel : Instruction → Type 0
IsLevel instruction.Nothing = Unit {0}
IsLevel (instruction.Move d x) = Unit {0}
IsLevel (instruction.Compute o d x y) = Unit {0}
IsLevel (instruction.Convert c d x) = Unit {0}
IsLevel (instruction.Load w d l) = Unit {0}
IsLevel (instruction.Store w x l) = Unit {0}
IsLevel (instruction.Address d l) = Unit {0}
IsLevel (instruction.Element d x y n) = Unit {0}
IsLevel (instruction.Jump to) = Unit {0}
IsLevel (instruction.Branch t x y to) = Unit {0}
IsLevel (instruction.Call g) = ⊥
IsLevel instruction.PutByte = Unit {0}
IsLevel instruction.GetByte = Unit {0}
IsLevel instruction.Exit = Unit {0}
IsLevel instruction.Return = ⊥

level_either : (t : Bool) (x : Instruction) → IsLevel x → IsLevel (if t then instruction.Nothing else x)
level_either true x q = tt
level_either false x q = q

pub level_shortened : (code : List Instruction) (k : ℕ) (x : Instruction) → IsLevel x → IsLevel (shortened code k x)
level_shortened code k instruction.Nothing q = tt
level_shortened code k (instruction.Move d x) q = level_either (is_same d x) (instruction.Move d x) tt
level_shortened code k (instruction.Compute o d x y) q = tt
level_shortened code k (instruction.Convert c d x) q = tt
level_shortened code k (instruction.Load w d l) q = tt
level_shortened code k (instruction.Store w x l) q = tt
level_shortened code k (instruction.Address d l) q = tt
level_shortened code k (instruction.Element d x y n) q = tt
level_shortened code k (instruction.Jump to) q = level_either (skips_nothing code k to) (instruction.Jump to) tt
level_shortened code k (instruction.Branch t x y to) q = tt
level_shortened code k (instruction.Call g) q = absurd q
level_shortened code k instruction.PutByte q = tt
level_shortened code k instruction.GetByte q = tt
level_shortened code k instruction.Exit q = tt
level_shortened code k instruction.Return q = absurd q

-- an instruction that changes no frame, a call, or a return
pub level_or_not : (R : Instruction → Type 0) → ((x : Instruction) → IsLevel x → R x) → ((g : ℕ) → R (instruction.Call g)) → R instruction.Return → (x : Instruction) → R x
level_or_not R level call return instruction.Nothing = level instruction.Nothing tt
level_or_not R level call return (instruction.Move d x) = level (instruction.Move d x) tt
level_or_not R level call return (instruction.Compute o d x y) = level (instruction.Compute o d x y) tt
level_or_not R level call return (instruction.Convert c d x) = level (instruction.Convert c d x) tt
level_or_not R level call return (instruction.Load w d l) = level (instruction.Load w d l) tt
level_or_not R level call return (instruction.Store w x l) = level (instruction.Store w x l) tt
level_or_not R level call return (instruction.Address d l) = level (instruction.Address d l) tt
level_or_not R level call return (instruction.Element d x y n) = level (instruction.Element d x y n) tt
level_or_not R level call return (instruction.Jump to) = level (instruction.Jump to) tt
level_or_not R level call return (instruction.Branch t x y to) = level (instruction.Branch t x y to) tt
level_or_not R level call return (instruction.Call g) = call g
level_or_not R level call return instruction.PutByte = level instruction.PutByte tt
level_or_not R level call return instruction.GetByte = level instruction.GetByte tt
level_or_not R level call return instruction.Exit = level instruction.Exit tt
level_or_not R level call return instruction.Return = return

-- ---- their items

-- the instruction after the branch that a byte's items end with
abbrev put_last : List Item
put_last = item.Plain (instr.Branch test.Equal 10 0 16) ∷ add_to 10 0 126 ∷ add_to 17 0 93 ∷ item.Plain instr.Ecall ∷ []

within : (x c j : ℕ) → x ≡ 4 * c → j ≤ c → 4 * j ≤ x
within x c j e le = omega arith

within_first : (x y z c d j : ℕ) → z ≡ 4 * c → z ≡ x + y → y ≡ 4 * d → j + d ≤ c + 1 → 4 * j ≤ x + 4
within_first x y z c d j e f g le = omega arith

-- the run goes on, with this stack pointer
abbrev pub GoesAt : (sp : ℕ) → Light → Type 0
GoesAt sp (Go r at b i h) = r 2 ≡ sp
GoesAt sp (Done s h) = ⊥
GoesAt sp (Fell h) = ⊥

sp_same : (sp low : ℕ) (m : Light) → HasSp sp m → GoesAt low m → sp ≡ low
sp_same sp low (Go r at b i h) q g = sym q ∙ g
sp_same sp low (Done s h) q g = absurd g
sp_same sp low (Fell h) q g = absurd g

module _ (F : Fixed) (env : ℕ → ℕ) (seg : ℕ) where
  module _ (r : ℕ → ℕ) (a : ℕ) (b : ℕ → ℕ) (i : List ℕ) (h : List Event) where
    abbrev run_at : ℕ → Light
    run_at k = light_run F k (Go r a b i h)

    abbrev FineUpTo : (low j : ℕ) → Type 0
    FineUpTo low j = (k : ℕ) → k < j → IsFine F low (run_at k)

    quiet_fine : (low n k : ℕ) → r 2 ≤ low → Words IsQuiet F.text a n → k ≤ n → IsFine F low (run_at k)
    quiet_fine low n k le ws lk = fine_low F low (r 2) (run_at k) le (sp_of (a + 4 * k) (r 2) (run_at k) (quiet_run F k n a r b i h lk ws))

    all_quiet : (low j e : ℕ) (xs : List Item) → r 2 ≤ low → AreQuiet xs → Stands F.text env seg xs a e → 4 * j ≤ longest xs → FineUpTo low j
    all_quiet low j e xs le q st lj k lk =
        let ws = words IsQuiet F.text env seg xs a e q st in
        quiet_fine low ws.count k le ws.each (omega (arith, lk, lj, ws.length_is))

    first_quiet : (low j e : ℕ) (xs ys : List Item) → r 2 ≤ low → AreQuiet xs → Stands F.text env seg (xs ++ ys) a e → 4 * j ≤ longest xs + 4 → FineUpTo low j
    first_quiet low j e xs ys le q st lj k lk =
        let parts = stands_parts F.text env seg xs ys a e st in
        let ws = words IsQuiet F.text env seg xs a parts.0 q parts.1 in
        quiet_fine low ws.count k le ws.each (omega (arith, lk, lj, ws.length_is))

    -- after the first word of a branch
    past_branch : (pc sp : ℕ) (t : Test) (l n v : ℕ) (m : Light) → F.text pc ≡ Some (Branch t l n v) → HasPc pc m → HasSp sp m → HasSp sp (light_step F m)
    past_branch pc sp t l n v (Go r2 at b2 i2 h2) e ep es =
        subst (HasSp sp) (sym (at_text F r2 at b2 i2 h2 (Branch t l n v) (ap F.text ep ∙ e)))
        (subst (λ z. HasSp z (act F (Some (Branch t l n v)) r2 at b2 i2 h2)) es (branch_step F r2 at b2 i2 h2 t l n v))
    past_branch pc sp t l n v (Done s h2) e ep es = tt
    past_branch pc sp t l n v (Fell h2) e ep es = tt

    branches_at : (t : Test) (l n to x next : ℕ) → Short F.text t l n x to next ⊎ Long F.text t l n x to next → (u : Test) × (v : ℕ) × (F.text x ≡ Some (Branch u l n v))
    branches_at t l n to x next (inl s) = (t, s.v, s.at)
    branches_at t l n to x next (inr s) = (opposite t, s.over, s.at)

    branch_fine : (low j e : ℕ) (xs : List Item) (t : Test) (l n to : ℕ) → r 2 ≤ low → AreQuiet xs → Stands F.text env seg (xs ++ (item.Branch t l n to ∷ [])) a e → 4 * j ≤ longest xs + 8 → FineUpTo low j
    branch_fine low j e xs t l n to le q st lj k lk =
        let parts = stands_parts F.text env seg xs (item.Branch t l n to ∷ []) a e st in
        let ws = words IsQuiet F.text env seg xs a parts.0 q parts.1 in
        let c = ws.count in
        let word = branches_at t l n (env to) parts.0 parts.2.0 parts.2.1 in
        let there = quiet_run F c c a r b i h (omega arith) ws.each in
        ⊎_elim
        (λ lt. quiet_fine low c k le ws.each (omega (arith, lt)))
        (λ ge.
        let is : c + 1 ≡ k = omega (arith, ge, lk, lj, ws.length_is) in
        let one : HasSp (r 2) (light_step F (run_at c)) =
        past_branch (a + 4 * c) (r 2) word.0 l n word.1 (run_at c) (ap F.text (sym ws.end_is) ∙ word.2) (pc_of (a + 4 * c) (r 2) (run_at c) there) (sp_of (a + 4 * c) (r 2) (run_at c) there) in
        let now : HasSp (r 2) (run_at (c + 1)) = subst (HasSp (r 2)) (sym (run_plus F c 1 (Go r a b i h))) one in
        subst (λ x. IsFine F low (run_at x)) is (fine_low F low (r 2) (run_at (c + 1)) le now))
        (cases_lt k (c + 1))

    quiet_form : (f : Function) (first : ℕ) (y : Instruction) (low j e : ℕ) → AreQuiet (items_of f first y) → item_count f y ≡ row f y → r 2 ≤ low → Stands F.text env seg (items_of f first y) a e → j ≤ row f y → FineUpTo low j
    quiet_form f first y low j e q same le st lj =
        all_quiet low j e (items_of f first y) le q st (within (longest (items_of f first y)) (item_count f y) j ((rows_are_lengths f first).1 y) (omega (arith, same, lj)))

    put_fine : (f : Function) (low j e : ℕ) → r 2 ≤ low → Stands F.text env seg (put_byte f) a e → j ≤ row f instruction.PutByte → FineUpTo low j
    put_fine f low j e le st lj =
        let xs = address_of 11 (byte_home f) in
        let ys = item.Plain (instr.Store store_kind.Byte 10 11 0) ∷ add_to 10 0 1 ∷ add_to 12 0 1 ∷ add_to 17 0 64 ∷ item.Plain instr.Ecall ∷ add_to 10 10 (2 ^ 32 - 1) ∷ [] in
        let whole : longest (put_byte f) ≡ 4 * item_count f instruction.PutByte = (rows_are_lengths f 0).1 instruction.PutByte in
        let sum : longest (put_byte f) ≡ longest (xs ++ ys) + longest put_last = ap longest (sym (append_assoc xs ys put_last)) ∙ sum_by-append (size true) (xs ++ ys) put_last in
        first_quiet low j e (xs ++ ys) put_last le (quiet_both xs ys (byte_quiet f) (tt, (ten, (twelve, (seventeen, (tt, (ten, tt)))))))
        (subst (λ zs. Stands F.text env seg zs a e) (sym (append_assoc xs ys put_last)) st)
        (within_first (longest (xs ++ ys)) (longest put_last) (longest (put_byte f)) (item_count f instruction.PutByte) 4 j whole sum refl (omega (arith, lj)))

    branch_form : (f : Function) (first : ℕ) (t : Test) (x y : Operand) (to low j e : ℕ) → r 2 ≤ low → Stands F.text env seg (items_of f first (instruction.Branch t x y to)) a e → j ≤ row f (instruction.Branch t x y to) → FineUpTo low j
    branch_form f first t x y to low j e le st lj =
        let z = instruction.Branch t x y to in
        let xs = fetch 5 (source_of f x) in
        let ys = fetch 6 (source_of f y) in
        let end = item.Branch t (register_of 5 (source_of f x)) (register_of 6 (source_of f y)) (first + to) ∷ [] in
        let whole : longest (items_of f first z) ≡ 4 * row f z = (rows_are_lengths f first).1 z in
        let sum : longest (items_of f first z) ≡ longest (xs ++ ys) + longest end = ap longest (sym (append_assoc xs ys end)) ∙ sum_by-append (size true) (xs ++ ys) end in
        let eight : longest end ≡ 8 = refl in
        branch_fine low j e (xs ++ ys) t (register_of 5 (source_of f x)) (register_of 6 (source_of f y)) (first + to) le (quiet_both xs ys (fetch_quiet 5 (source_of f x) five) (fetch_quiet 6 (source_of f y) six))
        (subst (λ zs. Stands F.text env seg zs a e) (sym (append_assoc xs ys end)) st)
        (past_first (longest (xs ++ ys)) (longest end) (longest (items_of f first z)) (row f z) j whole sum eight lj)
      where
        past_first : (x y z c j : ℕ) → z ≡ 4 * c → z ≡ x + y → y ≡ 8 → j ≤ c → 4 * j ≤ x + 8
        past_first x y z c j e f g le = omega arith

    -- an instruction that changes no frame
    pub level : (f : Function) (first : ℕ) (y : Instruction) (low j e : ℕ) → IsLevel y → r 2 ≤ low → Stands F.text env seg (items_of f first y) a e → j ≤ row f y → FineUpTo low j
    level f first instruction.Nothing low j e q le st lj k lk = absurd (omega (arith, lk, lj))
    level f first (instruction.Move d x) low j e q le st lj k lk = quiet_form f first (instruction.Move d x) low j e (move_quiet (home_of f d) (source_of f x) (home_off f d)) refl le st lj k lk
    level f first (instruction.Compute o d x y) low j e q le st lj k lk =
        quiet_form f first (instruction.Compute o d x y) low j e
        (quiet_both (fetch 5 (source_of f x)) _ (fetch_quiet 5 (source_of f x) five)
        (quiet_both (combine o (made_in (home_of f d)) (register_of 5 (source_of f x)) (source_of f y)) _ (combine_quiet o _ _ (source_of f y) (home_off f d)) (keep_quiet (home_of f d)))) refl le st lj k lk
    level f first (instruction.Convert c d x) low j e q le st lj k lk =
        quiet_form f first (instruction.Convert c d x) low j e
        (quiet_both (fetch 5 (source_of f x)) _ (fetch_quiet 5 (source_of f x) five)
        (quiet_both (narrow c (made_in (home_of f d)) (register_of 5 (source_of f x))) _ (narrow_quiet c _ _ (home_off f d)) (keep_quiet (home_of f d)))) refl le st lj k lk
    level f first (instruction.Load w d l) low j e q le st lj k lk =
        quiet_form f first (instruction.Load w d l) low j e (quiet_both (reach f l) _ (reach_quiet f l) (home_off f d, keep_quiet (home_of f d))) refl le st lj k lk
    level f first (instruction.Store w x l) low j e q le st lj k lk =
        quiet_form f first (instruction.Store w x l) low j e
        (quiet_both (fetch 5 (source_of f x)) _ (fetch_quiet 5 (source_of f x) five) (quiet_both (reach f l) _ (reach_quiet f l) (tt, tt))) refl le st lj k lk
    level f first (instruction.Address d l) low j e q le st lj k lk = quiet_form f first (instruction.Address d l) low j e (reference_quiet f (home_of f d) l (home_off f d)) refl le st lj k lk
    level f first (instruction.Element d x y n) low j e q le st lj k lk =
        quiet_form f first (instruction.Element d x y n) low j e (element_quiet (home_of f d) (source_of f x) (source_of f y) n (home_off f d)) refl le st lj k lk
    level f first (instruction.Jump to) low j e q le st lj zero lk = inl le
    level f first (instruction.Jump to) low j e q le st lj (suc k) lk = absurd (omega (arith, lk, lj))
    level f first (instruction.Branch t x y to) low j e q le st lj k lk = branch_form f first t x y to low j e le st lj k lk
    level f first (instruction.Call g) low j e q le st lj k lk = absurd q
    level f first instruction.PutByte low j e q le st lj k lk = put_fine f low j e le st lj k lk
    level f first instruction.GetByte low j e q le st lj k lk =
        quiet_form f first instruction.GetByte low j e
        (quiet_both (address_of 11 (byte_home f)) _ (byte_quiet f) (ten, (twelve, (seventeen, (tt, (eleven, (ten, (ten, (ten, (ten, tt)))))))))) refl le st lj k lk
    level f first instruction.Exit low j e q le st lj k lk = quiet_form f first instruction.Exit low j e (seventeen, (tt, tt)) refl le st lj k lk
    level f first instruction.Return low j e q le st lj k lk = absurd q

    -- ---- a return: loads come before sp changes

    pub returns_fine : (f : Function) (low j e : ℕ) → r 2 ≤ low → Stands F.text env seg (leave f) a e → j ≤ row f instruction.Return → FineUpTo low j
    returns_fine f low j e le st lj k lk =
        let xs = restores f f.resident in
        let ys = take_return f in
        let zs = change_sp (frame_bytes f) in
        let end = item.Plain (Jalr 0 1 0) ∷ [] in
        let one = stands_parts F.text env seg (xs ++ ys) (zs ++ end) a e (subst (λ l. Stands F.text env seg l a e) (sym (append_assoc xs ys (zs ++ end))) st) in
        let two = stands_parts F.text env seg zs end one.0 e one.2 in
        let ws = words IsQuiet F.text env seg (xs ++ ys) a one.0 (restoring_quiet f) one.1 in
        let vs = words IsBare F.text env seg zs one.0 two.0 (change_bare (frame_bytes f)) two.1 in
        let n = ws.count in
        let c = vs.count in
        let whole : longest (leave f) ≡ 4 * row f instruction.Return = (rows_are_lengths f 0).1 instruction.Return in
        let sum : longest (leave f) ≡ longest (xs ++ ys) + longest (zs ++ end) = ap longest (sym (append_assoc xs ys (zs ++ end))) ∙ sum_by-append (size true) (xs ++ ys) (zs ++ end) in
        let sum2 : longest (zs ++ end) ≡ longest zs + 4 = sum_by-append (size true) zs end in
        let all : row f instruction.Return ≡ n + c + 1 = counts (longest (leave f)) (longest (xs ++ ys)) (longest (zs ++ end)) (longest zs) (row f instruction.Return) n c whole sum sum2 ws.length_is vs.length_is in
        let m = run_at n in
        let there : HasPc one.0 m = subst (λ x. HasPc x m) (sym ws.end_is) (pc_of (a + 4 * n) (r 2) m (quiet_run F n n a r b i h (omega arith) ws.each)) in
        ⊎_elim
        (λ lt. quiet_fine low n k le ws.each (omega (arith, lt)))
        (λ ge.
        let d = k - n in
        let is : n + d ≡ k = omega (arith, ge) in
        let now : IsFine F low (light_run F d m) =
        ⊎_elim
        (λ lt. bare_fine F low c one.0 d m there lt vs.each)
        (λ over.
        let last : d ≡ c = omega (arith, over, is, lk, lj, all) in
        let pc = bare_run F c c one.0 m there (omega arith) vs.each in
        subst (λ x. IsFine F low (light_run F x m)) (sym last)
        (fine_idle F low (one.0 + 4 * c) (light_run F c m) (Jalr 0 1 0, ap F.text (sym vs.end_is) ∙ two.2.1.0, λ r2. tt) pc))
        (cases_lt d c) in
        subst (λ x. IsFine F low (run_at x)) is (subst (IsFine F low) (sym (run_plus F n d (Go r a b i h))) now))
        (cases_lt k n)
      where
        counts : (w x y z row n c : ℕ) → w ≡ 4 * row → w ≡ x + y → y ≡ z + 4 → x ≡ 4 * n → z ≡ 4 * c → row ≡ n + c + 1
        counts w x y z row n c p q s t u = omega arith

    -- ---- an entry: stores come after the change of sp

    saving_fine : (low pc n x y : ℕ) (m : Light) → HasPc pc m → Words IsQuiet F.text pc n → x ≤ n → y < x → GoesAt low (light_run F x m) → IsFine F low (light_run F y m)
    saving_fine low pc n x y (Go r2 at b2 i2 h2) q ws lx ly g =
        let m = Go r2 at b2 i2 h2 in
        let here = subst (λ z. Words IsQuiet F.text z n) (sym q) ws in
        let same : r2 2 ≡ low = sp_same (r2 2) low (light_run F x m) (sp_of (at + 4 * x) (r2 2) (light_run F x m) (quiet_run F x n at r2 b2 i2 h2 lx here)) g in
        fine_low F low (r2 2) (light_run F y m) (omega (arith, same)) (sp_of (at + 4 * y) (r2 2) (light_run F y m) (quiet_run F y n at r2 b2 i2 h2 (omega (arith, lx, ly)) here))
    saving_fine low pc n x y (Done s h2) q ws lx ly g = subst (IsFine F low) (sym (done_stays F y s h2)) tt
    saving_fine low pc n x y (Fell h2) q ws lx ly g = subst (IsFine F low) (sym (fell_stays F y h2)) tt

    pub enters_fine : (f : Function) (low j e : ℕ) → Stands F.text env seg (entry f) a e → j ≤ opening_cost f → GoesAt low (run_at j) → FineUpTo low j
    enters_fine f low j e st lj g k lk =
        let zs = change_sp (2 ^ 32 - frame_bytes f) in
        let xs = keep_return f ++ saves f f.resident in
        let one = stands_parts F.text env seg zs xs a e st in
        let vs = words IsBare F.text env seg zs a one.0 (change_bare (2 ^ 32 - frame_bytes f)) one.1 in
        let ws = words IsQuiet F.text env seg xs one.0 e (saving_quiet f) one.2 in
        let c = vs.count in
        let n = ws.count in
        let whole : longest (entry f) ≡ 4 * opening_cost f = (rows_are_lengths f 0).0 in
        let sum : longest (entry f) ≡ longest zs + longest xs = sum_by-append (size true) zs xs in
        let all : opening_cost f ≡ c + n = counts (longest (entry f)) (longest zs) (longest xs) (opening_cost f) c n whole sum vs.length_is ws.length_is in
        let m = run_at c in
        let there : HasPc one.0 m = subst (λ x. HasPc x m) (sym vs.end_is) (bare_run F c c a (Go r a b i h) refl (omega arith) vs.each) in
        ⊎_elim
        (λ lt. bare_fine F low c a k (Go r a b i h) refl lt vs.each)
        (λ ge.
        let y = k - c in
        let x = j - c in
        let is : c + y ≡ k = omega (arith, ge) in
        let to : c + x ≡ j = omega (arith, ge, lk) in
        let goes : GoesAt low (light_run F x m) = subst (GoesAt low) (run_plus F c x (Go r a b i h)) (subst (λ z. GoesAt low (run_at z)) (sym to) g) in
        let now = saving_fine low one.0 n x y m there ws.each (omega (arith, to, lj, all)) (omega (arith, is, to, lk)) goes in
        subst (λ z. IsFine F low (run_at z)) is (subst (IsFine F low) (sym (run_plus F c y (Go r a b i h))) now))
        (cases_lt k c)
      where
        counts : (w x y row c n : ℕ) → w ≡ 4 * row → w ≡ x + y → x ≡ 4 * c → y ≡ 4 * n → row ≡ c + n
        counts w x y row c n p q s t = omega arith

  -- ---- a call, and the beginning of a program

  abbrev called : (r : ℕ → ℕ) (a high : ℕ) → ℕ → ℕ
  called r a high = with_reg r 1 (sum32 a high)

  calls_first : (r : ℕ → ℕ) (a : ℕ) (b : ℕ → ℕ) (i : List ℕ) (h : List Event) (to next : ℕ) → (q : Calls F.text a to next) → light_step F (Go r a b i h) ≡ Go (called r a q.high) (a + 4) b i h
  calls_first r a b i h to next q = at_text F r a b i h (Auipc 1 q.high) q.first

  calls_second : (r : ℕ → ℕ) (a : ℕ) (b : ℕ → ℕ) (i : List ℕ) (h : List Event) (to next : ℕ) → (q : Calls F.text a to next) → to % 4 ≡ 0
      → light_step F (Go (called r a q.high) (a + 4) b i h) ≡ Go (with_reg (called r a q.high) 1 (a + 4 + 4)) to b i h
  calls_second r a b i h to next q al =
      let r1 = called r a q.high in
      let is : reg r1 1 ≡ sum32 a q.high = refl in
      let there : sum32 (reg r1 1) q.low ≡ to = ap (λ x. sum32 x q.low) is ∙ q.target in
      let even : to / 2 * 2 ≡ to = omega (arith, al) in
      at_text F r1 (a + 4) b i h (Jalr 1 1 q.low) q.second ∙ rw (there, even, al) refl

  module _ (r : ℕ → ℕ) (a : ℕ) (b : ℕ → ℕ) (i : List ℕ) (h : List Event) where
    abbrev from_at : ℕ → Light
    from_at k = light_run F k (Go r a b i h)

    -- where two steps lead to the entry
    pub calls_fine : (near : Bool) (f : Function) (to next low j e : ℕ) → CallAt near F.text a to next → to % 4 ≡ 0 → Stands F.text env seg (entry f) to e → j ≤ call_cost near + opening_cost f → GoesAt low (from_at j) → (k : ℕ) → k < j → IsFine F low (from_at k)
    calls_fine false f to next low j e q al st lj g zero lk = inr (Auipc 1 q.high, q.first, tt)
    calls_fine false f to next low j e q al st lj g (suc zero) lk = subst (IsFine F low) (sym (calls_first r a b i h to next q)) (inr (Jalr 1 1 q.low, q.second, tt))
    calls_fine false f to next low zero e q al st lj g (suc (suc k)) lk = absurd (omega (arith, lk))
    calls_fine false f to next low (suc zero) e q al st lj g (suc (suc k)) lk = absurd (omega (arith, lk))
    calls_fine false f to next low (suc (suc j)) e q al st lj g (suc (suc k)) lk =
        let r2 = with_reg (called r a q.high) 1 (a + 4 + 4) in
        let two : light_step F (light_step F (Go r a b i h)) ≡ Go r2 to b i h = ap (light_step F) (calls_first r a b i h to next q) ∙ calls_second r a b i h to next q al in
        let goes : GoesAt low (light_run F j (Go r2 to b i h)) = subst (λ m. GoesAt low (light_run F j m)) two g in
        subst (λ m. IsFine F low (light_run F k m)) (sym two) (enters_fine r2 to b i h f low j e st (omega (arith, lj)) goes k (omega (arith, lk)))
    calls_fine true f to next low j e q al st lj g zero lk = inr (Jal 1 q.v, q.at, tt)
    calls_fine true f to next low zero e q al st lj g (suc k) lk = absurd (omega (arith, lk))
    calls_fine true f to next low (suc j) e q al st lj g (suc k) lk =
        let r2 = with_reg r 1 (a + 4) in
        let one : light_step F (Go r a b i h) ≡ Go r2 to b i h = at_text F r a b i h (Jal 1 q.v) q.at ∙ rw (q.target, al) refl in
        let goes : GoesAt low (light_run F j (Go r2 to b i h)) = subst (λ m. GoesAt low (light_run F j m)) one g in
        subst (λ m. IsFine F low (light_run F k m)) (sym one) (enters_fine r2 to b i h f low j e st (omega (arith, lj)) goes k (omega (arith, lk)))

  module _ (r : ℕ → ℕ) (a : ℕ) (b : ℕ → ℕ) (i : List ℕ) (h : List Event) where
    abbrev begins_at : ℕ → Light
    begins_at k = light_run F k (Go r a b i h)

    abbrev loaded : (rd v behind : ℕ) → Loads F.text a rd v behind → ℕ → ℕ
    loaded rd v behind l = let r1 = with_reg r rd l.high in with_reg r1 rd (operate_immediate_of immediate_op.Add (reg r1 rd) l.low)

    -- a register is loaded with a constant, and what follows is fine
    loads_fine : (rd v behind low j : ℕ) (l : Loads F.text a rd v behind) → GoesAt low (begins_at j)
        → ((n : ℕ) → suc (suc n) ≡ j → GoesAt low (light_run F n (Go (loaded rd v behind l) behind b i h)) → (m : ℕ) → m < n → IsFine F low (light_run F m (Go (loaded rd v behind l) behind b i h)))
        → (k : ℕ) → k < j → IsFine F low (begins_at k)
    loads_fine rd v behind low j l g rest zero lk = inr (instr.Lui rd l.high, l.first, tt)
    loads_fine rd v behind low j l g rest (suc zero) lk =
        subst (IsFine F low) (sym (at_text F r a b i h (instr.Lui rd l.high) l.first)) (inr (instr.Immediate immediate_op.Add rd rd l.low, l.second, tt))
    loads_fine rd v behind low zero l g rest (suc (suc k)) lk = absurd (omega (arith, lk))
    loads_fine rd v behind low (suc zero) l g rest (suc (suc k)) lk = absurd (omega (arith, lk))
    loads_fine rd v behind low (suc (suc j)) l g rest (suc (suc k)) lk =
        let r1 = with_reg r rd l.high in
        let r2 = loaded rd v behind l in
        let there : a + 4 + 4 ≡ behind = omega (arith, l.next_is) in
        let two : light_step F (light_step F (Go r a b i h)) ≡ Go r2 behind b i h =
        ap (light_step F) (at_text F r a b i h (instr.Lui rd l.high) l.first) ∙ at_text F r1 (a + 4) b i h (instr.Immediate immediate_op.Add rd rd l.low) l.second ∙ ap (λ x. Go r2 x b i h) there in
        let goes : GoesAt low (light_run F j (Go r2 behind b i h)) = subst (λ m. GoesAt low (light_run F j m)) two g in
        subst (λ m. IsFine F low (light_run F k m)) (sym two) (rest j refl goes k (omega (arith, lk)))

  -- sp and gp are set, and main is called
  pub starts_fine : (r : ℕ → ℕ) (a : ℕ) (b : ℕ → ℕ) (i : List ℕ) (h : List Event) (f : Function) (v behind gp past to next low j e : ℕ) → Loads F.text a 2 v behind → Loads F.text behind 3 gp past → Calls F.text past to next → to % 4 ≡ 0
      → Stands F.text env seg (entry f) to e → j ≤ 6 + opening_cost f → GoesAt low (light_run F j (Go r a b i h)) → (k : ℕ) → k < j → IsFine F low (light_run F k (Go r a b i h))
  starts_fine r a b i h f v behind gp past to next low j e one two q al st lj g k lk =
      loads_fine r a b i h 2 v behind low j one g (λ n en gn m lm.
      let r1 = loaded r a b i h 2 v behind one in
      loads_fine r1 behind b i h 3 gp past low n two gn (λ n2 en2 gn2 m2 lm2.
      calls_fine (loaded r1 behind b i h 3 gp past two) past b i h false f to next low n2 e q al st (omega (arith, en, en2, lj)) gn2 m2 lm2) m lm) k lk

  -- ---- the end: the status is in a0, and 93 in a7

  pub exits_fine : (low e k : ℕ) (r : ℕ → ℕ) (a : ℕ) (b : ℕ → ℕ) (i : List ℕ) (h : List Event) → Stands F.text env seg exit a e → k < 2 → IsFine F low (light_run F k (Go r a b i h))
  exits_fine low e zero r a b i h st lk = inr (instr.Immediate immediate_op.Add 17 0 93, st.1.0, tt)
  exits_fine low e (suc zero) r a b i h st lk =
      let there : F.text (a + 4) ≡ Some instr.Ecall = ap F.text (sym st.1.1) ∙ st.2.1.0 in
      subst (IsFine F low) (sym (at_text F r a b i h (instr.Immediate immediate_op.Add 17 0 93) st.1.0)) (inr (instr.Ecall, there, refl))
  exits_fine low e (suc (suc k)) r a b i h st lk = absurd (omega (arith, lk))

  pub exits_done : (e : ℕ) (r : ℕ → ℕ) (a : ℕ) (b : ℕ → ℕ) (i : List ℕ) (h : List Event) → Stands F.text env seg exit a e → (status : ℕ) × (light_run F 2 (Go r a b i h) ≡ Done status h)
  exits_done e r a b i h st =
      let r1 = with_reg r 17 (operate_immediate_of immediate_op.Add (reg r 0) 93) in
      let there : F.text (a + 4) ≡ Some instr.Ecall = ap F.text (sym st.1.1) ∙ st.2.1.0 in
      (reg r1 10 % 2 ^ 8, ap (light_step F) (at_text F r a b i h (instr.Immediate immediate_op.Add 17 0 93) st.1.0) ∙ at_text F r1 (a + 4) b i h instr.Ecall there)
