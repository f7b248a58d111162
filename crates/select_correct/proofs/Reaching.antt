-- Jumps reach in functions whose code is short, and in lists made of parts in which they do.
use Rattle.std.proofs.Common.{◌≡◌, ⊎_elim, inl, inr, ℕ, zero, suc, ◌+◌, ◌-◌, ◌<◌, ◌≤◌, ◌%◌, ◌^◌, Bool, true, false, List, [], ◌∷◌, ◌++◌, length, Some, refl, sym, ap, ◌∙◌, subst, arith}
use Rattle.std.specs.Prelude.{if◌then◌else◌, nat_lt, slice_get}
use Rattle.std.proofs.lemmas.Bool.{cases_lt, leb-true}
use Rattle.std.proofs.lemmas.List.{length-append}
use Rattle.std.proofs.lemmas.List.Sums.{sum_by-append}
use Rattle.asm.specs.declared.item.Item.{Item}
use Rattle.asm.specs.declared.item.Item.TheVariants.{Mark, Plain, Branch, Jump, Call, NearCall, Constant, LabelAddress, DataAddress}
use Rattle.asm.specs.Layout.{item_at, size, place, all_long, longest, Reach, MissesMark, AllReach, IsSound}
use Rattle.asm.proofs.Parts.{places_in_parts}
use Rattle.asm.proofs.Ends.{ends}
use Rattle.frames_code.specs.declared.code.Instruction.{Instruction}
use Rattle.frames_code.specs.Code.{Function, Program, frame_bytes}
use Rattle.frames_code.specs.Sound.{FunctionFits, IsSoundProgram}
use Rattle.select.specs.Selected.{entry, items_of, shortened, change_sp, keep_return, saves}
use Rattle.select.specs.Program.{code_items, function_items, functions_items, start_items, far_items, shorten_calls, are_near, labels_of}
use Rattle.select.proofs.Lengths.{code_is_short}
use Rattle.select.proofs.Nearer.{shortened_longest}
use Rattle.select.proofs.Sound.{is_sound}
use Rattle.select_correct.specs.Reaching.{rows_of, IsShortProgram, JumpsReach}
use Rattle.select_correct.proofs.Inside.{Names, Inside, named, entry_in, code_in}

item_in_front : (xs ys : List Item) (k : ℕ) → k < length xs → item_at (xs ++ ys) k ≡ item_at xs k
item_in_front [] ys k lt = absurd (omega (arith, lt))
item_in_front (x ∷ xs) ys zero lt = refl
item_in_front (x ∷ xs) ys (suc k) lt = item_in_front xs ys k (omega (arith, lt))

item_behind : (xs ys : List Item) (k : ℕ) → item_at (xs ++ ys) (length xs + k) ≡ item_at ys k
item_behind [] ys k = ap (item_at ys) (let e : 0 + k ≡ k = omega arith in e)
item_behind (x ∷ xs) ys k =
    let e : length (x ∷ xs) + k ≡ suc (length xs + k) = omega arith in
    ap (item_at (x ∷ (xs ++ ys))) e ∙ item_behind xs ys k

-- later items have no lower addresses
place_rises : (L : ℕ → Bool) (base : ℕ) (xs : List Item) (j k : ℕ) → j ≤ k → place L base xs j ≤ place L base xs k
place_rises L base xs j zero le =
    let e : j ≡ 0 = omega arith in
    rw e (omega arith)
place_rises L base xs j (suc k) le =
    elim (cases_lt k j) [
      | inl lt ↦ (let e : j ≡ suc k = omega arith in rw e (omega arith))
      | inr ge ↦ omega (arith, place_rises L base xs j k ge)
    ]

-- from a there is a mark of a label within reach
pub record Lands (base : ℕ) (xs : List Item) (a to : ℕ) : Type 0 where
  pub home : ℕ
  pub inside : home < length xs
  pub mark : item_at xs home ≡ Mark to
  pub reach : Reach a (place all_long base xs home)

-- the item at a, if it is a jump, lands
abbrev pub LandsFrom : ℕ → List Item → ℕ → Item → Type 0
LandsFrom base xs a (Branch t l r to) = Lands base xs (a + 4) to
LandsFrom base xs a (Jump to) = Lands base xs a to
LandsFrom base xs a (Mark l) = Unit {0}
LandsFrom base xs a (Plain i) = Unit {0}
LandsFrom base xs a (Call to) = Unit {0}
LandsFrom base xs a (NearCall to) = Lands base xs a to
LandsFrom base xs a (Constant rd v) = Unit {0}
LandsFrom base xs a (LabelAddress rd l) = Unit {0}
LandsFrom base xs a (DataAddress rd o) = Unit {0}

abbrev pub AllLand : ℕ → List Item → Type 0
AllLand base xs = (k : ℕ) → k < length xs → LandsFrom base xs (place all_long base xs k) (item_at xs k)

-- where landing in xs is landing in ys, jumps that land in xs land in ys
carried : (base low : ℕ) (xs ys : List Item) (a : ℕ) → ((b to : ℕ) → Lands base xs b to → Lands low ys b to) → (x : Item) → LandsFrom base xs a x → LandsFrom low ys a x
carried base low xs ys a go (Branch t l r to) p = go (a + 4) to p
carried base low xs ys a go (Jump to) p = go a to p
carried base low xs ys a go (Mark l) p = tt
carried base low xs ys a go (Plain i) p = tt
carried base low xs ys a go (Call to) p = tt
carried base low xs ys a go (NearCall to) p = go a to p
carried base low xs ys a go (Constant rd v) p = tt
carried base low xs ys a go (LabelAddress rd l) p = tt
carried base low xs ys a go (DataAddress rd o) p = tt

module _ (base : ℕ) (xs ys : List Item) where
  mid : ℕ
  mid = place all_long base xs (length xs)

  total : length (xs ++ ys) ≡ length xs + length ys
  total = length-append xs ys

  front : (k : ℕ) → k ≤ length xs → place all_long base (xs ++ ys) k ≡ place all_long base xs k
  front = (places_in_parts all_long base xs ys).0

  behind : (k : ℕ) → place all_long base (xs ++ ys) (length xs + k) ≡ place all_long (place all_long base xs (length xs)) ys k
  behind = (places_in_parts all_long base xs ys).1

  lands_front : (b to : ℕ) → Lands base xs b to → Lands base (xs ++ ys) b to
  lands_front b to p = record {
    home = p.home;
    inside = omega (arith, p.inside, total);
    mark = item_in_front xs ys p.home p.inside ∙ p.mark;
    reach = subst (Reach b) (sym (front p.home (omega (arith, p.inside)))) p.reach;
  }

  lands_behind : (b to : ℕ) → Lands (place all_long base xs (length xs)) ys b to → Lands base (xs ++ ys) b to
  lands_behind b to p = record {
    home = length xs + p.home;
    inside = omega (arith, p.inside, total);
    mark = item_behind xs ys p.home ∙ p.mark;
    reach = subst (Reach b) (sym (behind p.home)) p.reach;
  }

  joined : AllLand base xs → AllLand (place all_long base xs (length xs)) ys → AllLand base (xs ++ ys)
  joined p q k lt =
      ⊎_elim
      (λ h.
      let here = carried base base xs (xs ++ ys) (place all_long base xs k) lands_front (item_at xs k) (p k h) in
      let moved : LandsFrom base (xs ++ ys) (place all_long base (xs ++ ys) k) (item_at xs k) = subst (λ (a : ℕ). LandsFrom base (xs ++ ys) a (item_at xs k)) (sym (front k (omega (arith, h)))) here in
      subst (LandsFrom base (xs ++ ys) (place all_long base (xs ++ ys) k)) (sym (item_in_front xs ys k h)) moved)
      (λ h.
      let j = k - length xs in
      let same : length xs + j ≡ k = omega (arith, h) in
      let low = place all_long base xs (length xs) in
      let here = carried low base ys (xs ++ ys) (place all_long low ys j) lands_behind (item_at ys j) (q j (omega (arith, total, lt, h))) in
      let moved : LandsFrom base (xs ++ ys) (place all_long base (xs ++ ys) (length xs + j)) (item_at ys j) = subst (λ (a : ℕ). LandsFrom base (xs ++ ys) a (item_at ys j)) (sym (behind j)) here in
      let there : LandsFrom base (xs ++ ys) (place all_long base (xs ++ ys) (length xs + j)) (item_at (xs ++ ys) (length xs + j)) = subst (LandsFrom base (xs ++ ys) (place all_long base (xs ++ ys) (length xs + j))) (sym (item_behind xs ys j)) moved in
      subst (λ (i : ℕ). LandsFrom base (xs ++ ys) (place all_long base (xs ++ ys) i) (item_at (xs ++ ys) i)) same there)
      (cases_lt k (length xs))

-- ---- short lists

-- a list that marks each of the labels from a up to b
abbrev HasMarks : ℕ → ℕ → List Item → Type 0
HasMarks a b xs = (l : ℕ) → a ≤ l → l < b → (h : ℕ) × (h < length xs) × (item_at xs h ≡ Mark l)

module _ (a b base : ℕ) (xs : List Item) (marks : HasMarks a b xs) (short : longest xs ≤ 1048572) where
  lands : (c k to : ℕ) → k ≤ length xs → place all_long base xs k ≤ c → c ≤ place all_long base xs k + 4 → a ≤ to → to < b → Lands base xs c to
  lands c k to le from until ge lt =
      let m = marks to ge lt in
      let low : base ≤ place all_long base xs k = place_rises all_long base xs 0 k (omega arith) in
      let high = place_rises all_long base xs k (length xs) le in
      let home_low : base ≤ place all_long base xs m.0 = place_rises all_long base xs 0 m.0 (omega arith) in
      let home_high = place_rises all_long base xs m.0 (length xs) (omega (arith, m.1)) in
      let end = ends base xs in
      record {
        home = m.0;
        inside = m.1;
        mark = m.2;
        reach = (omega (arith, until, high, home_low, end, short), omega (arith, from, low, home_high, end, short));
      }

  named_lands : (k : ℕ) → k < length xs → (x : Item) → Names a b x → LandsFrom base xs (place all_long base xs k) x
  named_lands k lt (Branch t l r to) p = lands (place all_long base xs k + 4) k to (omega (arith, lt)) (omega arith) (omega arith) p.0 p.1
  named_lands k lt (Jump to) p = lands (place all_long base xs k) k to (omega (arith, lt)) (omega arith) (omega arith) p.0 p.1
  named_lands k lt (Mark l) p = tt
  named_lands k lt (Plain i) p = tt
  named_lands k lt (Call to) p = tt
  named_lands k lt (NearCall to) p = lands (place all_long base xs k) k to (omega (arith, lt)) (omega arith) (omega arith) p.0 p.1
  named_lands k lt (Constant rd v) p = tt
  named_lands k lt (LabelAddress rd l) p = tt
  named_lands k lt (DataAddress rd o) p = tt

  all_land : Inside a b xs → AllLand base xs
  all_land p k lt = named_lands k lt (item_at xs k) (named a b xs k lt p)

-- a list without jumps
no_jump : (base : ℕ) (xs : List Item) (a : ℕ) (x : Item) → Names 0 0 x → LandsFrom base xs a x
no_jump base xs a (Branch t l r to) p = absurd (omega (arith, p.1))
no_jump base xs a (Jump to) p = absurd (omega (arith, p.1))
no_jump base xs a (Mark l) p = tt
no_jump base xs a (Plain i) p = tt
no_jump base xs a (Call to) p = tt
no_jump base xs a (NearCall to) p = absurd (omega (arith, p.1))
no_jump base xs a (Constant rd v) p = tt
no_jump base xs a (LabelAddress rd l) p = tt
no_jump base xs a (DataAddress rd o) p = tt

no_jumps : (base : ℕ) (xs : List Item) → Inside 0 0 xs → AllLand base xs
no_jumps base xs p k lt = no_jump base xs (place all_long base xs k) (item_at xs k) (named 0 0 xs k lt p)

-- ---- functions

code_marks : (f : Function) (first k : ℕ) (xs : List Instruction) → HasMarks (first + k) (first + k + length xs) (code_items f first k xs)
code_marks f first k [] l ge lt = absurd (omega (arith, ge, lt))
code_marks f first k (x ∷ xs) l ge lt =
    ⊎_elim
    (λ h. let same : first + k ≡ l = omega (arith, ge, h) in (0, omega arith, ap Mark same))
    (λ h.
    let m = code_marks f first (k + 1) xs l (omega (arith, h)) (omega (arith, lt)) in
    let items = Mark (first + k) ∷ items_of f first (shortened f.code k x) in
    let rest = code_items f first (k + 1) xs in
    let sum = length-append items rest in
    (length items + m.0, omega (arith, m.1, sum), item_behind items rest m.0 ∙ m.2))
    (cases_lt l (first + k + 1))

at_least : (t : Bool) (xs ys : List Item) (a : ℕ) → a ≤ longest xs → a ≤ longest ys → a ≤ longest (if t then xs else ys)
at_least true xs ys a p q = p
at_least false xs ys a p q = q

-- the items before a function's instructions have at least 4 bytes
entry_takes : (f : Function) → 4 ≤ longest (entry f)
entry_takes f =
    let by = 2 ^ 32 - frame_bytes f in
    let change : 4 ≤ longest (change_sp by) = at_least (nat_lt ((by + 0x800) % 2 ^ 32) 0x1000) _ _ 4 (omega arith) (omega arith) in
    let outer : longest (entry f) ≡ longest (change_sp by) + longest (keep_return f ++ saves f f.resident) = sum_by-append (size true) (change_sp by) (keep_return f ++ saves f f.resident) in
    omega (arith, change, outer)

code_fits : (f : Function) (k first : ℕ) → rows_of f ≤ 2 ^ 20 → longest (code_items f first 0 f.code) ≤ 1048572
code_fits f k first short =
    let whole : longest (function_items k first f) ≡ longest (Mark k ∷ entry f) + longest (code_items f first 0 f.code) = sum_by-append (size true) (Mark k ∷ entry f) (code_items f first 0 f.code) in
    let begun : longest (Mark k ∷ entry f) ≡ 0 + longest (entry f) = sum_by-append (size true) (Mark k ∷ []) (entry f) in
    omega (arith, whole, begun, entry_takes f, code_is_short f k first, short)

function_lands : (f : Function) (n k first : ℕ) → FunctionFits n f → rows_of f ≤ 2 ^ 20 → (base : ℕ) → AllLand base (function_items k first f)
function_lands f n k first fits short base =
    let head = Mark k ∷ entry f in
    let code = code_items f first 0 f.code in
    let marks : HasMarks first (first + length f.code) code = λ l ge lt. code_marks f first 0 f.code l (omega (arith, ge)) (omega (arith, lt)) in
    let inside : Inside first (first + length f.code) code = code_in first (first + length f.code) f first (omega arith) (omega arith) n 0 f.code fits.each in
    joined base head code (no_jumps base head (entry_in 0 0 f)) (all_land first (first + length f.code) (place all_long base head (length head)) code marks (code_fits f k first short) inside)

functions_land : (n k first : ℕ) (fs : List Function) → ((j : ℕ) (f : Function) → slice_get fs j ≡ Some f → FunctionFits n f) → ((j : ℕ) (f : Function) → slice_get fs j ≡ Some f → rows_of f ≤ 2 ^ 20) → (base : ℕ) → AllLand base (functions_items k first fs)
functions_land n k first [] fits short base = λ j lt. absurd (omega (arith, lt))
functions_land n k first (f ∷ fs) fits short base =
    let items = function_items k first f in
    joined base items (functions_items (k + 1) (first + (length f.code + 1)) fs) (function_lands f n k first (fits 0 f refl) (short 0 f refl) base)
    (functions_land n (k + 1) (first + (length f.code + 1)) fs (λ j g e. fits (suc j) g e) (λ j g e. short (suc j) g e) (place all_long base items (length items)))

program_lands : (p : Program) (base : ℕ) → IsSoundProgram p → IsShortProgram p → AllLand base (far_items p)
program_lands p base sound short =
    let begun = start_items p.main in
    let count = length p.functions in
    joined base begun (functions_items 0 count p.functions) (no_jumps base begun tt) (functions_land count 0 count p.functions sound.each short.each (place all_long base begun (length begun)))

-- ---- the law

-- the one mark of a label is within reach where some mark of it is
at_its_mark : (n base : ℕ) (xs : List Item) (a to h : ℕ) → IsSound n xs → h < length xs → item_at xs h ≡ Mark to → Lands base xs a to → Reach a (place all_long base xs h)
at_its_mark n base xs a to h sound lt mark p =
    let same : p.home ≡ h = sound.once p.home h to p.inside lt p.mark mark in
    subst (λ (j : ℕ). Reach a (place all_long base xs j)) same p.reach

no_miss : (n base : ℕ) (xs : List Item) (k h : ℕ) (x : Item) → IsSound n xs → h < length xs → LandsFrom base xs (place all_long base xs k) x → MissesMark base xs k h x → ⊥
no_miss n base xs k h (Branch t l r to) sound lt p m = m.1 (at_its_mark n base xs (place all_long base xs k + 4) to h sound lt m.0 p)
no_miss n base xs k h (Jump to) sound lt p m = m.1 (at_its_mark n base xs (place all_long base xs k) to h sound lt m.0 p)
no_miss n base xs k h (Mark l) sound lt p m = m
no_miss n base xs k h (Plain i) sound lt p m = m
no_miss n base xs k h (Call to) sound lt p m = m
no_miss n base xs k h (NearCall to) sound lt p m = m.1 (at_its_mark n base xs (place all_long base xs k) to h sound lt m.0 p)
no_miss n base xs k h (Constant rd v) sound lt p m = m
no_miss n base xs k h (LabelAddress rd l) sound lt p m = m
no_miss n base xs k h (DataAddress rd o) sound lt p m = m

-- ---- items that are near each other

-- the items lie between the base and the end
lies : (base : ℕ) (xs : List Item) (k : ℕ) → k ≤ length xs → (base ≤ place all_long base xs k) × (place all_long base xs k ≤ base + longest xs)
lies base xs k le =
    let end : place all_long base xs (length xs) ≡ base + longest xs = ends base xs in
    let begin : place all_long base xs 0 ≡ base = refl in
    (omega (arith, begin, place_rises all_long base xs 0 k (omega arith)), omega (arith, end, place_rises all_long base xs k (length xs) le))

within_reach : (base : ℕ) (xs : List Item) (k h d : ℕ) (x : Item) → longest xs ≤ 1048574 → k < length xs → h < length xs → item_at xs k ≡ x → d ≤ size true x → Reach (place all_long base xs k + d) (place all_long base xs h)
within_reach base xs k h d x few lk lh is le =
    let a = lies base xs k (omega (arith, lk)) in
    let b = lies base xs h (omega (arith, lh)) in
    let next = lies base xs (suc k) (omega (arith, lk)) in
    let bytes : size true (item_at xs k) ≡ size true x = ap (size true) is in
    let further : place all_long base xs (suc k) ≡ place all_long base xs k + size true (item_at xs k) = refl in
    (omega (arith, few, a, b, next, bytes, further, le), omega (arith, few, a, b, next, bytes, further, le))

near_by : (base : ℕ) (xs : List Item) (k h : ℕ) (x : Item) → longest xs ≤ 1048574 → k < length xs → h < length xs → item_at xs k ≡ x → MissesMark base xs k h x → ⊥
near_by base xs k h (Branch t l r to) few lk lh is m = m.1 (within_reach base xs k h 4 (Branch t l r to) few lk lh is (omega arith))
near_by base xs k h (Jump to) few lk lh is m = m.1 (at_once (within_reach base xs k h 0 (Jump to) few lk lh is (omega arith)))
  where
    at_once : Reach (place all_long base xs k + 0) (place all_long base xs h) → Reach (place all_long base xs k) (place all_long base xs h)
    at_once r = (omega (arith, r.0), omega (arith, r.1))
near_by base xs k h (NearCall to) few lk lh is m = m.1 (at_once (within_reach base xs k h 0 (NearCall to) few lk lh is (omega arith)))
  where
    at_once : Reach (place all_long base xs k + 0) (place all_long base xs h) → Reach (place all_long base xs k) (place all_long base xs h)
    at_once r = (omega (arith, r.0), omega (arith, r.1))
near_by base xs k h (Mark l) few lk lh is m = m
near_by base xs k h (Plain i) few lk lh is m = m
near_by base xs k h (Call to) few lk lh is m = m
near_by base xs k h (Constant rd v) few lk lh is m = m
near_by base xs k h (LabelAddress rd l) few lk lh is m = m
near_by base xs k h (DataAddress rd o) few lk lh is m = m

-- calls that are near make the items no longer
short_items : (p : Program) (near : Bool) → longest (start_items p.main ++ shorten_calls near (functions_items 0 (length p.functions) p.functions)) ≤ longest (far_items p)
short_items p near =
    let all = functions_items 0 (length p.functions) p.functions in
    omega (arith, sum_by-append (size true) (start_items p.main) (shorten_calls near all), sum_by-append (size true) (start_items p.main) all, shortened_longest near all)

reaches : (p : Program) (base : ℕ) → IsSoundProgram p → IsShortProgram p → (near : Bool) → are_near (far_items p) ≡ near → AllReach base (start_items p.main ++ shorten_calls near (functions_items 0 (length p.functions) p.functions))
reaches p base sound short true is m =
    let xs = start_items p.main ++ shorten_calls true (functions_items 0 (length p.functions) p.functions) in
    let few = leb-true (longest (far_items p)) 1048574 is in
    near_by base xs m.item m.target (item_at xs m.item) (omega (arith, few, short_items p true)) m.inside m.target_inside refl m.misses
reaches p base sound short false is m =
    let xs = far_items p in
    no_miss (labels_of p) base xs m.item m.target (item_at xs m.item) (is_sound p sound) m.target_inside (program_lands p base sound short m.item m.inside) m.misses

pub jumps_reach : JumpsReach
jumps_reach p base sound short = reaches p base sound short (are_near (far_items p)) refl
