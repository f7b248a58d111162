-- The memory of an image has a flat program's items and statics at the places that the machine's laws require.
use Rattle.std.proofs.Common.{◌≡◌, ℕ, zero, suc, ◌+◌, ◌-◌, ◌%◌, ◌^◌, ◌<◌, ◌≤◌, List, [], ◌∷◌, length, Some, Bool, true, false, ◌||◌, refl, ap, ◌∙◌, arith, eqb}
use Rattle.std.specs.Prelude.{◌==◌, if◌then◌else◌, slice_index, slice_get, nat_le, nat_lt, replicate}
use Rattle.std.proofs.lemmas.Bool.Decides.{nat_tests}
use Rattle.std.proofs.lemmas.List.{get_or-replicate}
use Rattle.std.proofs.lemmas.Option.{get_or_from_slice_get, slice_get_within}
use Rattle.rv32.specs.Space.{Space}
use Rattle.memory_map.specs.MemoryMap.{data_start, text_start, stack_start}
use Rattle.elf_out.specs.Layout.{Parts}
use Rattle.elf_out.specs.Program.{program_space, program_image, is_within, is_text, is_data, is_stack}
use Rattle.asm.specs.Placed as placed
use Rattle.asm.specs.Placed.{Stands, text_of}
use Rattle.frames_code.specs.Code.{Program}
use Rattle.frames_code.specs.Run.{State, Progress, running, ended, stuck, entered, run, start}
use Rattle.sim.specs.Runs as sim
use Rattle.sim.specs.Runs.{rvrun, start_world}
use Rattle.select_exec.specs.Light.{Fixed, reg}
use Rattle.select_exec.specs.Whole.{Permits, fixed}
use Rattle.select_exec.specs.Worlds.{Registers}
use Rattle.select_exec.specs.Laws.{AgreeOn}
use Rattle.select_exec.proofs.Placing.{stands_in}
use Rattle.cc_backend.proofs.Plain.{and_left, and_right}
use Rattle.select.specs.Program.{program_items}
use Rattle.select_correct.specs.Matches.{HasRoom, Holds}
use Rattle.select_correct.specs.Laws.{AreBytes}
use Rattle.select_correct.specs.Convention.{KeepsConvention, HasRoomFor, behind_call}
use Rattle.select_correct.specs.Runs.{Laid, ground_at}
use Rattle.select_correct.proofs.Real.{goes_on, ends_so}
use Rattle.select_correct.proofs.Keeping.{calls_keep}
use Rattle.select_correct.proofs.Conventions as convention
use Rattle.cc_backend.specs.FlatImages.{IsImageOf, FitStack, ImageGoesOn, ImageEnds, ImageCallsKeep}
use Rattle.cc_backend.specs.Convention.{FitsFor, ImageCallsKeepConvention, ImageMainKeepsConvention}

pub within_low : (start n a : ℕ) → is_within start n a ≡ true → (start ≤ a) × (a < start + n)
within_low start n a e =
    let low = and_left (nat_le start a) (nat_lt a (start + n)) e in
    let high = and_right (nat_le start a) (nat_lt a (start + n)) e in
    (grind (arith, nat_tests), grind (arith, nat_tests))

pub within_is : (start n a : ℕ) → start ≤ a → a < start + n → is_within start n a ≡ true
within_is start n a le lt = grind (arith, nat_tests)

pub below_not : (start n a : ℕ) → a < start → is_within start n a ≡ false
below_not start n a lt = grind (arith, nat_tests)

past_not : (start n a : ℕ) → start + n ≤ a → is_within start n a ≡ false
past_not start n a le = grind (arith, nat_tests)

pub or_left : (a b : Bool) → a ≡ true → (a || b) ≡ true
or_left a b e = rw e refl

pub or_right : (a b : Bool) → b ≡ true → (a || b) ≡ true
or_right true b e = refl
or_right false b e = e

pub or_none : (a b : Bool) → a ≡ false → b ≡ false → (a || b) ≡ false
or_none a b e f = rw (e, f) refl

zero_at : (k : ℕ) → k < 32 → (if k == 0 then 0 else slice_index (replicate 32 0) k) ≡ reg (λ j. 0) k
zero_at k kl = let e : slice_index (replicate 32 0) k ≡ 0 = get_or-replicate {A = ℕ} 32 k 0 0 kl in rw e refl

-- also past the end, where it is 0
index_small : (xs : List ℕ) → AreBytes xs → (k : ℕ) → slice_index xs k < 2 ^ 8
index_small [] q k = omega arith
index_small (x ∷ xs) q zero = q 0 x refl
index_small (x ∷ xs) q (suc k) = index_small xs (λ j c e. q (suc j) c e) k

pick_small : (t u : Bool) (x y : ℕ) → x < 2 ^ 8 → y < 2 ^ 8 → (if t then x else if u then y else 0) < 2 ^ 8
pick_small true u x y sx sy = sx
pick_small false true x y sx sy = sy
pick_small false false x y sx sy = omega arith

module _ (p : Program) (parts : Parts) (q : IsImageOf p parts) where
  abbrev pub space : Space
  space = program_space parts

  abbrev pub permits : Permits
  permits = record { can_read = space.can_read; can_write = space.can_write; can_execute = space.can_execute }

  abbrev pub F : Fixed
  F = fixed permits space.byte

  abbrev pub past_text : ℕ
  past_text = text_start + length parts.text

  abbrev pub floor : ℕ
  floor = stack_start parts.stack

  abbrev pub data_at : ℕ
  data_at = placed.data_start past_text

  pub low : (a : ℕ) → permits.can_execute a ≡ true → a < 2 ^ 31
  unfolding program_space
  low a e = omega (arith, within_low text_start (length parts.text) a e, q.size)

  apart : (a : ℕ) → permits.can_execute a ≡ true → permits.can_write a ≡ false
  unfolding program_space
  apart a e =
      let r = within_low text_start (length parts.text) a e in
      or_none (is_data parts a) (is_stack parts a) (below_not (data_start (length parts.text)) (length parts.statics) a (omega (arith, r.0, r.1))) (below_not (stack_start parts.stack) parts.stack a (omega (arith, r.1, q.size, q.stack.2)))

  reads_stack : (a : ℕ) → floor ≤ a → a < 2 ^ 31 → permits.can_read a ≡ true
  unfolding program_space
  reads_stack a le lt = or_right (is_data parts a) (is_stack parts a) (within_is (stack_start parts.stack) parts.stack a le (omega (arith, lt, q.stack.2)))

  writes_stack : (a : ℕ) → floor ≤ a → a < 2 ^ 31 → permits.can_write a ≡ true
  unfolding program_space
  writes_stack a le lt = or_right (is_data parts a) (is_stack parts a) (within_is (stack_start parts.stack) parts.stack a le (omega (arith, lt, q.stack.2)))

  pub count : length parts.statics ≡ length p.statics
  count = ap length q.statics

  reads_data : (a : ℕ) → data_at ≤ a → a < data_at + length p.statics → permits.can_read a ≡ true
  unfolding program_space
  reads_data a le lt = or_left (is_data parts a) (is_stack parts a) (within_is (data_start (length parts.text)) (length parts.statics) a le (omega (arith, lt, count)))

  writes_data : (a : ℕ) → data_at ≤ a → a < data_at + length p.statics → permits.can_write a ≡ true
  unfolding program_space
  writes_data a le lt = or_left (is_data parts a) (is_stack parts a) (within_is (data_start (length parts.text)) (length parts.statics) a le (omega (arith, lt, count)))

  holds_text : placed.Holds space.byte text_start parts.text
  unfolding program_space
  holds_text = record {
    at = λ j lt.
        let here : is_text parts (text_start + j) ≡ true = within_is text_start (length parts.text) (text_start + j) (omega arith) (omega (arith, lt)) in
        let same : text_start + j - text_start ≡ j = omega arith in
        rw (here, same) refl;
  }

  holds_data : Holds (slice_get p.statics) data_at 0 (length p.statics) space.byte
  unfolding program_space
  holds_data k c e =
      let there : slice_get parts.statics k ≡ Some c = ap (λ xs. slice_get xs k) q.statics ∙ e in
      let lt : k < length parts.statics = slice_get_within parts.statics k c there in
      let behind : is_text parts (data_at + k) ≡ false = past_not text_start (length parts.text) (data_at + k) (omega arith) in
      let here : is_data parts (data_at + k) ≡ true = within_is (data_start (length parts.text)) (length parts.statics) (data_at + k) (omega arith) (omega (arith, lt)) in
      let same : data_at + k - data_start (length parts.text) ≡ k = omega arith in
      (omega arith, omega (arith, lt, count), rw (behind, here, same) (get_or_from_slice_get parts.statics k c 0 there))

  small_bytes : (a : ℕ) → space.byte a < 2 ^ 8
  unfolding program_space
  small_bytes a =
      pick_small (is_text parts a) (is_data parts a) (slice_index parts.text (a - text_start)) (slice_index parts.statics (a - data_start (length parts.text)))
      (index_small parts.text q.text_bytes (a - text_start)) (index_small parts.statics q.static_bytes (a - data_start (length parts.text)))

  executes : (a : ℕ) → text_start ≤ a → a < past_text → permits.can_execute a ≡ true
  unfolding program_space
  executes a le lt = within_is text_start (length parts.text) a le lt

  agree : AgreeOn (text_of space.byte) F.text text_start past_text
  agree x lo hi al =
      let t : eqb (x % 4) 0 ≡ true = rw al refl in
      let e0 = executes x lo (omega (arith, hi)) in
      let e1 = executes (x + 1) (omega (arith, lo)) (omega (arith, hi)) in
      let e2 = executes (x + 2) (omega (arith, lo)) (omega (arith, hi)) in
      let e3 = executes (x + 3) (omega (arith, lo)) (omega (arith, hi)) in
      rw (t, e0, e1, e2, e3) refl

  stands : Stands F.text q.assembled.env data_at (program_items p) text_start past_text
  stands = stands_in (text_of space.byte) F.text q.assembled.env data_at (program_items p) text_start past_text refl agree (q.assembled.placed space.byte holds_text)

  pub laid : Laid p F q.assembled.env floor data_at text_start past_text (λ k. 0) space.byte
  laid = record {
    sound = q.sound;
    stands = stands;
    aligned = refl;
    low = omega (arith, q.size);
    stack_read = reads_stack;
    stack_written = writes_stack;
    data_read = reads_data;
    data_written = writes_data;
    data_aligned = omega arith;
    data_below = omega (arith, q.size, count, q.stack.2);
    floor_below = omega arith;
    small = λ j. omega arith;
    bytes = small_bytes;
    statics = holds_data;
  }

  pub zero_registers : Registers (replicate 32 0) (λ k. 0)
  zero_registers = record { count = refl; each = λ k kl. zero_at k kl }

  room : (x : Progress) → FitStack parts.stack p x → HasRoom (ground_at p F q.assembled.env floor data_at text_start (λ k. 0) space.byte) x
  room (running s) fit = omega (arith, fit, q.stack.2)
  room (ended status input trace) fit = tt
  room stuck fit = tt

pub image_goes_on : ImageGoesOn
image_goes_on p parts input q bytes n s over rooms =
    goes_on (permits p parts q) (low p parts q) (apart p parts q) p q.assembled.env (floor p parts q) (data_at p parts q) text_start (past_text p parts q) (λ k. 0) (space p parts q).byte (replicate 32 0) input (laid p parts q) (zero_registers p parts q) bytes n s over
    (λ k le. room p parts q (run p k (start p input)) (rooms k le))

pub image_ends : ImageEnds
image_ends p parts input q bytes n status left trace over rooms =
    ends_so (permits p parts q) (low p parts q) (apart p parts q) p q.assembled.env (floor p parts q) (data_at p parts q) text_start (past_text p parts q) (λ k. 0) (space p parts q).byte (replicate 32 0) input (laid p parts q) (zero_registers p parts q) bytes n status left trace over
    (λ k le. room p parts q (run p k (start p input)) (rooms k le))

pub image_calls_keep : ImageCallsKeep
image_calls_keep p parts input q bytes n m f s t over es later et same rooms inner within =
    calls_keep (permits p parts q) (low p parts q) (apart p parts q) p q.assembled.env (floor p parts q) (data_at p parts q) text_start (past_text p parts q) (λ k. 0) (space p parts q).byte (replicate 32 0) input (laid p parts q) (zero_registers p parts q) bytes n m f s t over es later et same
    (λ k le. room p parts q (run p k (start p input)) (rooms k le)) (λ k le. room p parts q (run p k (entered s f)) (inner k le)) within

-- what is kept while the stack serves in one sense is kept while it serves in another sense that implies the first
pub serves_more : (p : Program) (env : ℕ → ℕ) (data_at : ℕ) (at : ℕ → sim.Progress) (entry back : ℕ) (c : State) (S T : ℕ → Type 0) → ((m : ℕ) → T m → S m) → KeepsConvention p env data_at at entry back c S
    → KeepsConvention p env data_at at entry back c T
serves_more p env data_at at entry back c S T gives keeps = record {
  k = keeps.k;
  v = keeps.v;
  runs = keeps.runs;
  enters = keeps.enters;
  has_frame = λ m t serves inner. keeps.has_frame m t (gives m serves) inner;
  leaves = λ m t serves inner e. keeps.leaves m t (gives m serves) inner e;
}

pub calls_keep_convention : ImageCallsKeepConvention
calls_keep_convention p parts input q bytes n f s c rooms =
    let G = ground_at p (F p parts q) q.assembled.env (floor p parts q) (data_at p parts q) text_start (λ k. 0) (space p parts q).byte in
    serves_more p q.assembled.env (data_at p parts q) (λ k. rvrun k (start_world (program_image parts) input)) (q.assembled.env f) (behind_call p q.assembled.env s) (entered s f) (HasRoomFor G (entered s f)) (FitsFor parts.stack p (entered s f))
    (λ m fits j le. room p parts q (run p j (entered s f)) (fits j le))
    (convention.calls_keep (permits p parts q) (low p parts q) (apart p parts q) p q.assembled.env (floor p parts q) (data_at p parts q) text_start (past_text p parts q) (λ k. 0) (space p parts q).byte (replicate 32 0) input (laid p parts q) (zero_registers p parts q) bytes n f s c
    (λ k le. room p parts q (run p k (start p input)) (rooms k le)))

pub main_keeps_convention : ImageMainKeepsConvention
main_keeps_convention p parts input q bytes fits =
    let G = ground_at p (F p parts q) q.assembled.env (floor p parts q) (data_at p parts q) text_start (λ k. 0) (space p parts q).byte in
    serves_more p q.assembled.env (data_at p parts q) (λ k. rvrun k (start_world (program_image parts) input)) (q.assembled.env p.main) (text_start + 24) (start p input) (HasRoomFor G (start p input)) (FitsFor parts.stack p (start p input))
    (λ m each j le. room p parts q (run p j (start p input)) (each j le))
    (convention.main_keeps (permits p parts q) (low p parts q) (apart p parts q) p q.assembled.env (floor p parts q) (data_at p parts q) text_start (past_text p parts q) (λ k. 0) (space p parts q).byte (replicate 32 0) input (laid p parts q) (zero_registers p parts q) bytes
    (room p parts q (running (start p input)) fits))
