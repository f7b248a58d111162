-- The contents of the written file.
use Rattle.std.proofs.Common.{ℕ, ◌≡◌, ◌<◌, ◌≤◌, ◌+◌, ◌*◌, ◌/◌, ◌%◌, ◌^◌, Bool, true, false, ◌&&◌, ◌||◌, List, [], ◌∷◌, ◌++◌, length, refl, ap, sym, ◌∙◌, arith, leb, ltb}
use Rattle.std.specs.Prelude.{None}
use Rattle.std.specs.List.{sum_by}
use Rattle.std.proofs.lemmas.Bool.Decides.{nat_tests}
use Rattle.loader.specs.declared.header.LoadHeader.{LoadHeader}
use Rattle.loader.specs.File.{e_type, e_machine, e_flags, e_entry, is_elf32, is_table, loads, header_fault, loads_fault, fault_of, first_of, is_sound, all_sound, apart, are_apart}
use Rattle.memory_map.specs.MemoryMap.{data_start, data_offset, stack_start}
use Rattle.elf_out.specs.Written.{headers_of}

-- ---- the headers, read again

is_elf32_again : (n m s : ℕ) (rest : List ℕ) → is_elf32 (headers_of n m s ++ rest) ≡ true
unfolding headers_of
is_elf32_again n m s rest = refl

e_type_again : (n m s : ℕ) (rest : List ℕ) → e_type (headers_of n m s ++ rest) ≡ 2
unfolding headers_of
e_type_again n m s rest = refl

e_machine_again : (n m s : ℕ) (rest : List ℕ) → e_machine (headers_of n m s ++ rest) ≡ 243
unfolding headers_of
e_machine_again n m s rest = refl

e_flags_again : (n m s : ℕ) (rest : List ℕ) → e_flags (headers_of n m s ++ rest) ≡ 0
unfolding headers_of
e_flags_again n m s rest = refl

pub e_entry_again : (n m s : ℕ) (rest : List ℕ) → e_entry (headers_of n m s ++ rest) ≡ 0x11000
unfolding headers_of
e_entry_again n m s rest = refl

is_table_again : (n m s : ℕ) (rest : List ℕ) (k : ℕ) → leb 148 k ≡ true → k ≡ length (headers_of n m s ++ rest) → is_table (headers_of n m s ++ rest) ≡ leb 148 k
unfolding headers_of
is_table_again n m s rest k h e = ap (λ j. leb 148 j) (sym e)

-- four bytes of a number of 32 bits
four_again : (n : ℕ) → n < 2 ^ 32 → n % 2 ^ 8 + n / 2 ^ 8 % 2 ^ 8 * 2 ^ 8 + n / 2 ^ 16 % 2 ^ 8 * 2 ^ 16 + n / 2 ^ 24 % 2 ^ 8 * 2 ^ 24 ≡ n
four_again n h = omega arith

-- the three headers of a text of n bytes, statics of m and a stack of s
abbrev pub text_load : ℕ → LoadHeader
text_load n = record { offset = 0x1000; address = 0x11000; file_size = n; memory_size = n; flags = 1 }

abbrev pub data_load : ℕ → ℕ → LoadHeader
data_load n m = record { offset = data_offset n; address = data_start n; file_size = m; memory_size = m; flags = 6 }

abbrev pub stack_load : ℕ → LoadHeader
stack_load s = record { offset = 0; address = stack_start s; file_size = 0; memory_size = s; flags = 6 }

pub loads_again : (n m s : ℕ) (rest : List ℕ) → n + m ≤ 117440512 → s ≤ 16777216 → loads (headers_of n m s ++ rest) ≡ text_load n ∷ data_load n m ∷ stack_load s ∷ []
unfolding headers_of loads
loads_again n m s rest h t =
    rw (four_again n (omega arith), four_again m (omega arith), four_again (data_start n) (omega arith), four_again (data_offset n) (omega arith), four_again s (omega arith), four_again (stack_start s) (omega arith)) refl

-- ---- no fault

le_true : (m n : ℕ) → m ≤ n → leb m n ≡ true
le_true m n h = grind (arith, nat_tests)

lt_false : (m n : ℕ) → n ≤ m → ltb m n ≡ false
lt_false m n h = grind (arith, nat_tests)

and_true : (a b : Bool) → a ≡ true → b ≡ true → (a && b) ≡ true
and_true true b p q = q
and_true false b p q = p

or_right : (a b : Bool) → b ≡ true → (a || b) ≡ true
or_right true b p = refl
or_right false b p = p

header_none : (f : List ℕ) → ltb (length f) 52 ≡ false → is_elf32 f ≡ true → e_type f ≡ 2 → e_machine f ≡ 243 → e_flags f ≡ 0 → is_table f ≡ true → header_fault f ≡ None
header_none f h a b c d e = rw (h, a, b, c, d, e) refl

loads_none : (len : ℕ) (ls : List LoadHeader) → all_sound len ls ≡ true → are_apart ls ≡ true → ltb (2 ^ 27) (sum_by (λ l. l.memory_size) ls) ≡ false → loads_fault len ls ≡ None
loads_none len ls a b c = rw (a, b, c) refl

sound_if : (len : ℕ) (l : LoadHeader) → l.offset + l.file_size ≤ len → l.file_size ≤ l.memory_size → is_sound len l ≡ true
sound_if len l h g = and_true _ _ (or_right _ _ (le_true _ _ h)) (le_true _ _ g)

apart_if : (l k : LoadHeader) → l.address + l.memory_size ≤ k.address → apart l k ≡ true
apart_if l k h = grind (arith, nat_tests)

all_sound_again : (len n m s : ℕ) → n + m ≤ 117440512 → s ≤ 16777216 → data_offset n + m ≤ len → all_sound len (text_load n ∷ data_load n m ∷ stack_load s ∷ []) ≡ true
all_sound_again len n m s h t e =
    let a : 0x1000 + n ≤ len = omega arith in
    and_true _ _ (sound_if len (text_load n) a (omega arith)) (and_true _ _ (sound_if len (data_load n m) e (omega arith)) (and_true _ _ (sound_if len (stack_load s) (omega arith) (omega arith)) refl))

are_apart_again : (n m s : ℕ) → n + m ≤ 117440512 → s ≤ 16777216 → are_apart (text_load n ∷ data_load n m ∷ stack_load s ∷ []) ≡ true
are_apart_again n m s h t =
    let a : 0x11000 + n ≤ data_start n = omega arith in
    let b : data_start n + m ≤ stack_start s = omega arith in
    and_true _ _
    (and_true _ _ (le_true (0x11000 + n) (2 ^ 32) (omega arith)) (and_true _ _ (apart_if (text_load n) (data_load n m) a) (and_true _ _ (apart_if (text_load n) (stack_load s) (omega arith)) refl)))
    (and_true _ _ (and_true _ _ (le_true (data_start n + m) (2 ^ 32) (omega arith)) (and_true _ _ (apart_if (data_load n m) (stack_load s) b) refl)) (and_true _ _ (and_true _ _ (le_true (stack_start s + s) (2 ^ 32) (omega arith)) refl) refl))

pub no_fault : (n m s : ℕ) (rest : List ℕ) → n + m ≤ 117440512 → s ≤ 16777216 → length (headers_of n m s ++ rest) ≡ data_offset n + m → fault_of (headers_of n m s ++ rest) ≡ None
no_fault n m s rest h q e =
    let f = headers_of n m s ++ rest in
    let table : is_table f ≡ true = let t = le_true 148 (length f) (omega arith) in is_table_again n m s rest (length f) t refl ∙ t in
    let header : header_fault f ≡ None = header_none f (lt_false (length f) 52 (omega arith)) (is_elf32_again n m s rest) (e_type_again n m s rest) (e_machine_again n m s rest) (e_flags_again n m s rest) table in
    let ls = text_load n ∷ data_load n m ∷ stack_load s ∷ [] in
    let three : loads_fault (length f) ls ≡ None = loads_none (length f) ls (all_sound_again (length f) n m s h q (omega arith)) (are_apart_again n m s h q) (lt_false (2 ^ 27) (sum_by (λ l. l.memory_size) ls) (omega arith)) in
    ap (λ x. first_of x (loads_fault (length f) (loads f))) header ∙ ap (λ x. loads_fault (length f) x) (loads_again n m s rest h q) ∙ three
