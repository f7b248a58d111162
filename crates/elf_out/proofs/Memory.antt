-- The image of the written file is the program's.
use Rattle.std.proofs.Common.{ℕ, ◌≡◌, ◌≢◌, ◌<◌, ◌≤◌, ◌+◌, ◌-◌, ◌/◌, ◌%◌, Bool, true, false, ◌||◌, List, [], ◌∷◌, ◌++◌, length, refl, ap, sym, ◌∙◌, arith, eqb, ltb, append_assoc, length-append}
use Rattle.std.specs.Prelude.{if◌then◌else◌, None, Ok, Err, slice_index}
use Rattle.std.proofs.lemmas.Bool.Decides.{nat_tests}
use Rattle.std.proofs.lemmas.List.{get_or_append_left, get_or-append-add, length-replicate}
use Rattle.loader.specs.declared.header.LoadHeader.{LoadHeader}
use Rattle.loader.specs.declared.fault.LoadFault.{LoadFault}
use Rattle.loader.specs.File.{Image, loads, file_image, fault_of, answer_of, e_entry, image_space, byte_of, said}
use Rattle.memory_map.specs.MemoryMap.{data_start, data_offset, stack_start}
use Rattle.elf_out.specs.Layout.{Parts}
use Rattle.elf_out.specs.Written.{headers_of, file_of, zeros}
use Rattle.elf_out.specs.Program.{is_within, is_text, is_data, is_stack, program_space, program_image}
use Rattle.elf_out.proofs.Pushing.{length-headers_of}
use Rattle.elf_out.proofs.Reading.{text_load, data_load, stack_load, loads_again, no_fault, e_entry_again}
use Rattle.elf_out.specs.Laws.{WrittenIsRead}

-- ---- the parts of the file

before_text : Parts → List ℕ
before_text p = headers_of (length p.text) (length p.statics) p.stack ++ zeros (0x1000 - 148)

before_data : Parts → List ℕ
before_data p = before_text p ++ p.text ++ zeros (data_start (length p.text) - (0x11000 + length p.text))

file_is : (p : Parts) → file_of p ≡ before_data p ++ p.statics
unfolding file_of before_data before_text
file_is p = refl

length-before_text : (p : Parts) → length (before_text p) ≡ 0x1000
unfolding before_text
length-before_text p =
    length-append (headers_of (length p.text) (length p.statics) p.stack) (zeros (0x1000 - 148)) ∙ ap (λ k. k + (0x1000 - 148)) (length-headers_of (length p.text) (length p.statics) p.stack)

length-before_data : (p : Parts) → length p.text ≤ 117440512 → length (before_data p) ≡ data_offset (length p.text)
unfolding before_data
length-before_data p h =
    let n = length p.text in
    let z = zeros (data_start n - (0x11000 + n)) in
    let a : length (before_text p ++ p.text ++ z) ≡ length (before_text p ++ p.text) + length z = length-append (before_text p ++ p.text) z in
    let b : length (before_text p ++ p.text) ≡ length (before_text p) + n = length-append (before_text p) p.text in
    let c : length z ≡ data_start n - (0x11000 + n) = length-replicate _ 0 in
    let d = length-before_text p in
    omega arith

length-file_of : (p : Parts) → length p.text ≤ 117440512 → length (file_of p) ≡ data_offset (length p.text) + (length p.statics)
length-file_of p h =
    ap length (file_is p) ∙ length-append (before_data p) p.statics ∙ ap (λ k. k + length p.statics) (length-before_data p h)

-- the headers come first
file_rest : (p : Parts) → (rest : List ℕ) × (file_of p ≡ headers_of (length p.text) (length p.statics) p.stack ++ rest)
unfolding file_of
file_rest p =
    let n = length p.text in
    let h = headers_of n (length p.statics) p.stack in
    let a = zeros (0x1000 - 148) in
    let b = zeros (data_start n - (0x11000 + n)) in (
      a ++ (p.text ++ (b ++ p.statics)),
      append_assoc (h ++ a ++ p.text) b p.statics ∙ append_assoc (h ++ a) p.text (b ++ p.statics) ∙ append_assoc h a (p.text ++ (b ++ p.statics)),
    )

text_byte : (p : Parts) (k : ℕ) → k < length p.text → slice_index (file_of p) (0x1000 + k) ≡ slice_index p.text k
unfolding before_data
text_byte p k lt =
    let n = length p.text in
    let r = zeros (data_start n - (0x11000 + n)) ++ p.statics in
    let e : file_of p ≡ before_text p ++ (p.text ++ r) =
    file_is p ∙ append_assoc (before_text p ++ p.text) (zeros (data_start n - (0x11000 + n))) p.statics ∙ append_assoc (before_text p) p.text r in
    let at : slice_index (before_text p ++ (p.text ++ r)) (length (before_text p) + k) ≡ slice_index (p.text ++ r) k = get_or-append-add (before_text p) (p.text ++ r) k 0 in
    ap (λ f. slice_index f (0x1000 + k)) e ∙ ap (λ j. slice_index (before_text p ++ (p.text ++ r)) (j + k)) (sym (length-before_text p)) ∙ at ∙ get_or_append_left p.text r 0 k lt

data_byte : (p : Parts) (k : ℕ) → length p.text ≤ 117440512 → slice_index (file_of p) (data_offset (length p.text) + k) ≡ slice_index p.statics k
data_byte p k h =
    let at : slice_index (before_data p ++ p.statics) (length (before_data p) + k) ≡ slice_index p.statics k = get_or-append-add (before_data p) p.statics k 0 in
    ap (λ f. slice_index f (data_offset (length p.text) + k)) (file_is p) ∙ ap (λ j. slice_index (before_data p ++ p.statics) (j + k)) (sym (length-before_data p h)) ∙ at

-- ---- the memory

lt_true : (m n : ℕ) → m < n → ltb m n ≡ true
lt_true m n h = grind (arith, nat_tests)

-- the facts that the tests of a place give
within_low : (s n a : ℕ) → is_within s n a ≡ true → s ≤ a
within_low s n a h = grind (arith, nat_tests)

within_high : (s n a : ℕ) → is_within s n a ≡ true → a < s + n
within_high s n a h = grind (arith, nat_tests)

not_within : (s n a : ℕ) → s + n ≤ a → is_within s n a ≡ false
not_within s n a h = grind (arith, nat_tests)

below : (s n a : ℕ) → a < s → is_within s n a ≡ false
below s n a h = grind (arith, nat_tests)

by_cases : {X : Type 0} (b : Bool) → (b ≡ true → X) → (b ≡ false → X) → X
by_cases true f g = f refl
by_cases false f g = g refl

may_execute : (x y z : Bool) → (if x then true else if y then false else if z then false else false) ≡ x
may_execute true y z = refl
may_execute false true z = refl
may_execute false false true = refl
may_execute false false false = refl

-- the text is none of the data and of the stack
may_write : (x y z : Bool) → (x ≡ true → y ≡ false) → (x ≡ true → z ≡ false) → (if x then false else if y then true else if z then true else false) ≡ (y || z)
may_write true y z f g = rw (f refl, g refl) refl
may_write false true z f g = refl
may_write false false true f g = refl
may_write false false false f g = refl

data_not_text : (p : Parts) (a : ℕ) → is_text p a ≡ true → is_data p a ≡ false
data_not_text p a h = let lt = within_high 0x11000 (length p.text) a h in below (data_start (length p.text)) (length p.statics) a (omega arith)

stack_not_text : (p : Parts) (a : ℕ) → length p.text ≤ 117440512 → p.stack ≤ 16777216 → is_text p a ≡ true → is_stack p a ≡ false
stack_not_text p a f t h = let lt = within_high 0x11000 (length p.text) a h in below (stack_start p.stack) p.stack a (omega arith)

-- the byte at a, by the part that contains a
chosen : (x y z : Bool) (p q r p' q' : ℕ) → (x ≡ true → p ≡ p') → (y ≡ true → q ≡ q') → r ≡ 0 → (if x then p else if y then q else if z then r else 0) ≡ (if x then p' else if y then q' else 0)
chosen true y z p q r p' q' f g h = f refl
chosen false true z p q r p' q' f g h = g refl
chosen false false true p q r p' q' f g h = h
chosen false false false p q r p' q' f g h = refl

text_at : (p : Parts) (a : ℕ) → is_text p a ≡ true → byte_of (file_of p) (text_load (length p.text)) a ≡ slice_index p.text (a - 0x11000)
text_at p a h =
    let low = within_low 0x11000 (length p.text) a h in
    let high = within_high 0x11000 (length p.text) a h in
    let lt : a - 0x11000 < length p.text = omega arith in
    rw (lt_true (a - 0x11000) (length p.text) lt) (text_byte p (a - 0x11000) lt)

data_at : (p : Parts) (a : ℕ) → length p.text ≤ 117440512 → is_data p a ≡ true → byte_of (file_of p) (data_load (length p.text) (length p.statics)) a ≡ slice_index p.statics (a - data_start (length p.text))
data_at p a f h =
    let s = data_start (length p.text) in
    let low = within_low s (length p.statics) a h in
    let high = within_high s (length p.statics) a h in
    let lt : a - s < length p.statics = omega arith in
    rw (lt_true (a - s) (length p.statics) lt) (data_byte p (a - s) f)

nothing_at : (p : Parts) (a : ℕ) → byte_of (file_of p) (stack_load p.stack) a ≡ 0
nothing_at p a = let e : ltb (a - stack_start p.stack) 0 ≡ false = grind (arith, nat_tests) in rw e refl

three : Parts → List LoadHeader
three p = text_load (length p.text) ∷ data_load (length p.text) (length p.statics) ∷ stack_load p.stack ∷ []

same_loads : (p : Parts) → length p.text + length p.statics ≤ 117440512 → p.stack ≤ 16777216 → loads (file_of p) ≡ three p
unfolding three
same_loads p h t =
    let r = file_rest p in
    ap loads r.1 ∙ loads_again (length p.text) (length p.statics) p.stack r.0 h t

written_space : (p : Parts) → length p.text + length p.statics ≤ 117440512 → p.stack ≤ 16777216 → image_space (file_of p) ≡ program_space p
unfolding program_space three
written_space p h t =
    let f = file_of p in
    let fits : length p.text ≤ 117440512 = omega arith in
    let e = same_loads p h t in
    let bytes : (a : ℕ) → said (byte_of f) 0 (loads f) a ≡ (if is_text p a then slice_index p.text (a - 0x11000) else if is_data p a then slice_index p.statics (a - data_start (length p.text)) else 0) =
    λ a. ap (λ ls. said (byte_of f) 0 ls a) e ∙ chosen (is_text p a) (is_data p a) (is_stack p a) _ _ _ _ _ (text_at p a) (data_at p a fits) (nothing_at p a) in
    let reads : (a : ℕ) → said (λ l a. eqb (l.flags / 4 % 2) 1) false (loads f) a ≡ (is_data p a || is_stack p a) =
    λ a. ap (λ ls. said (λ l a. eqb (l.flags / 4 % 2) 1) false ls a) e ∙ may_write (is_text p a) (is_data p a) (is_stack p a) (data_not_text p a) (stack_not_text p a fits t) in
    let writes : (a : ℕ) → said (λ l a. eqb (l.flags / 2 % 2) 1) false (loads f) a ≡ (is_data p a || is_stack p a) =
    λ a. ap (λ ls. said (λ l a. eqb (l.flags / 2 % 2) 1) false ls a) e ∙ may_write (is_text p a) (is_data p a) (is_stack p a) (data_not_text p a) (stack_not_text p a fits t) in
    let runs : (a : ℕ) → said (λ l a. eqb (l.flags % 2) 1) false (loads f) a ≡ is_text p a =
    λ a. ap (λ ls. said (λ l a. eqb (l.flags % 2) 1) false ls a) e ∙ may_execute (is_text p a) (is_data p a) (is_stack p a) in
    λ j. record { byte = λ b. bytes b j; can_read = λ b. reads b j; can_write = λ b. writes b j; can_execute = λ b. runs b j }

written_entry : (p : Parts) → e_entry (file_of p) ≡ 0x11000
written_entry p =
    let r = file_rest p in
    ap (λ f. e_entry f) r.1 ∙ e_entry_again (length p.text) (length p.statics) p.stack r.0

written_sound : (p : Parts) → length p.text + length p.statics ≤ 117440512 → p.stack ≤ 16777216 → fault_of (file_of p) ≡ None
written_sound p h t =
    let r = file_rest p in
    let len : length (headers_of (length p.text) (length p.statics) p.stack ++ r.0) ≡ data_offset (length p.text) + (length p.statics) = ap length (sym r.1) ∙ length-file_of p (omega arith) in
    ap (λ f. fault_of f) r.1 ∙ no_fault (length p.text) (length p.statics) p.stack r.0 h t len

pub written_image : WrittenIsRead
unfolding file_image
written_image p h t =
    ap (λ o. answer_of o (record { entry = e_entry (file_of p); space = image_space (file_of p) })) (written_sound p h t)
    ∙ ap (λ s. Ok (record { entry = e_entry (file_of p); space = s })) (written_space p h t)
    ∙ ap (λ n. Ok (record { entry = n; space = program_space p })) (written_entry p)

-- a file with an image has no fault
pub not_refused : (f : List ℕ) (image : Image) (fault : LoadFault) → file_image f ≡ Ok image → file_image f ≢ Err fault
not_refused f image fault h e = cc
