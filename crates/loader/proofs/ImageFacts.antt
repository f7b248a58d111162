-- The space of the loaded segments is the image's.
use Rattle.std.proofs.lemmas.Bool.Decides.{nat_tests}
use Rattle.std.proofs.Common.{ℕ, ◌≡◌, ◌≢◌, ◌<◌, ◌≤◌, ◌+◌, ◌/◌, ◌%◌, ◌^◌, zero, suc, Bool, true, false, ◌&&◌, List, [], ◌∷◌, ◌++◌, take, get_or, length, refl, sym, arith, eqb, leb}
use Rattle.std.proofs.lemmas.List.{take_more}
use Rattle.std.specs.Prelude.{if◌then◌else◌, Option, Some, None, not, Ok, Err}
use Rattle.rv32.specs.declared.memory.Segment.{Segment}
use Rattle.rv32.specs.Space.{Space, covers, space_of, is_laid_out, byte_in}
use Rattle.rv32.specs.Space as space
use Rattle.loader.specs.declared.header.LoadHeader.{LoadHeader}
use Rattle.loader.specs.declared.fault.LoadFault.{LoadFault}
use Rattle.loader.specs.File.{first_of, header_fault, loads_fault, fault_of, holds, byte_of, loads, image_space, apart, apart_from_all, are_apart, Image, file_image, answer_of, e_entry}
use Rattle.loader.specs.inside.Segments.{IsLoaded, AreLoaded, nothing, skipped, loaded}
use Rattle.loader.specs.File as elf

and_left : (a b : Bool) → (a && b) ≡ true → a ≡ true
and_left true b e = refl
and_left false b e = e

and_right : (a b : Bool) → (a && b) ≡ true → b ≡ true
and_right true b e = e
and_right false b e = absurd (let h = e in cc)

bool_cases : {X : Type 0} (b : Bool) → (b ≡ true → X) → (b ≡ false → X) → X
bool_cases true f g = f refl
bool_cases false f g = g refl

-- one after another
pub loaded-append : (f : List ℕ) (ls ms : List LoadHeader) (ss ts : List Segment) → AreLoaded f ls ss → AreLoaded f ms ts → AreLoaded f (ls ++ ms) (ss ++ ts)
loaded-append f ls ms ss ts nothing t = t
loaded-append f ls ms ss ts (skipped l rest segments e h) t = skipped l (rest ++ ms) (segments ++ ts) e (loaded-append f rest ms segments ts h t)
loaded-append f ls ms ss ts (loaded l s rest segments n e h) t = loaded l s (rest ++ ms) (segments ++ ts) n e (loaded-append f rest ms segments ts h t)

leb_true : (m n : ℕ) → leb m n ≡ true → m ≤ n
leb_true m n h = grind (arith, nat_tests)

same_place : (f : List ℕ) (l : LoadHeader) (s : Segment) (a : ℕ) → IsLoaded f l s → covers s a ≡ holds l a
same_place f l s a h = rw (h.start, h.len) refl

empty_holds : (l : LoadHeader) (a : ℕ) → l.memory_size ≡ 0 → holds l a ≡ false
empty_holds l a e = grind (arith, nat_tests)

-- the property of address a, where each segment has that of its load header
pub same_said : {X : Type 0} (file : List ℕ) (f : Segment → ℕ → X) (g : LoadHeader → ℕ → X) (none : X) (a : ℕ) → ((l : LoadHeader) (s : Segment) → IsLoaded file l s → covers s a ≡ true → f s a ≡ g l a) → (ls : List LoadHeader) (ss : List Segment) → AreLoaded file ls ss → space.said f none ss a ≡ elf.said g none ls a
same_said file f g none a same ls ss nothing = refl
same_said file f g none a same ls ss (skipped l rest segments e h) = rw (empty_holds l a e) (same_said file f g none a same rest segments h)
same_said file f g none a same ls ss (loaded l s rest segments n e h) =
    bool_cases (covers s a)
    (λ p. rw (sym (same_place file l s a e), p) (same l s e p))
    (λ p. rw (sym (same_place file l s a e), p) (same_said file f g none a same rest segments h))

pub same_space : (f : List ℕ) (ss : List Segment) → AreLoaded f (loads f) ss → space_of ss ≡ image_space f
unfolding space_of
same_space f ss h =
    let bytes : (a : ℕ) → space.said byte_in 0 ss a ≡ elf.said (byte_of f) 0 (loads f) a = λ a. same_said f byte_in (byte_of f) 0 a (λ l s e p. e.byte a p) (loads f) ss h in
    let reads : (a : ℕ) → space.said (λ s a. s.readable) false ss a ≡ elf.said (λ l a. eqb (l.flags / 4 % 2) 1) false (loads f) a = λ a. same_said f (λ s a. s.readable) (λ l a. eqb (l.flags / 4 % 2) 1) false a (λ l s e p. e.readable) (loads f) ss h in
    let writes : (a : ℕ) → space.said (λ s a. s.writable) false ss a ≡ elf.said (λ l a. eqb (l.flags / 2 % 2) 1) false (loads f) a = λ a. same_said f (λ s a. s.writable) (λ l a. eqb (l.flags / 2 % 2) 1) false a (λ l s e p. e.writable) (loads f) ss h in
    let runs : (a : ℕ) → space.said (λ s a. s.executable) false ss a ≡ elf.said (λ l a. eqb (l.flags % 2) 1) false (loads f) a = λ a. same_said f (λ s a. s.executable) (λ l a. eqb (l.flags % 2) 1) false a (λ l s e p. e.executable) (loads f) ss h in
    λ j. record { byte = λ b. bytes b j; can_read = λ b. reads b j; can_write = λ b. writes b j; can_execute = λ b. runs b j }

-- ---- no two share an address

and_both : (a b : Bool) → a ≡ true → b ≡ true → (a && b) ≡ true
and_both true b p q = q
and_both false b p q = p

apart_too : (f : List ℕ) (l k : LoadHeader) (s t : Segment) → IsLoaded f l s → IsLoaded f k t → apart l k ≡ true → l.memory_size ≢ 0 → k.memory_size ≢ 0 → space.apart s t ≡ true
apart_too f l k s t h g e p q = rw (h.start, h.len, g.start, g.len) (grind (arith, nat_tests))

apart_from_loaded : (f : List ℕ) (l : LoadHeader) (s : Segment) → IsLoaded f l s → l.memory_size ≢ 0 → (ls : List LoadHeader) (ss : List Segment) → AreLoaded f ls ss → apart_from_all l ls ≡ true → space.apart_from_all s ss ≡ true
apart_from_loaded f l s h n ls ss nothing e = refl
apart_from_loaded f l s h n ls ss (skipped k rest segments z g) e = apart_from_loaded f l s h n rest segments g (and_right _ _ e)
apart_from_loaded f l s h n ls ss (loaded k t rest segments z m g) e =
    and_both _ _ (apart_too f l k s t h m (and_left _ _ e) n z) (apart_from_loaded f l s h n rest segments g (and_right _ _ e))

pub laid_out : (f : List ℕ) (ls : List LoadHeader) (ss : List Segment) → AreLoaded f ls ss → are_apart ls ≡ true → is_laid_out ss ≡ true
laid_out f ls ss nothing e = refl
laid_out f ls ss (skipped l rest segments z h) e = laid_out f rest segments h (and_right _ _ e)
laid_out f ls ss (loaded l s rest segments n m h) e =
    and_both _ _ (apart_from_loaded f l s m n rest segments h (and_right _ _ (and_left _ _ e))) (laid_out f rest segments h (and_right _ _ e))

-- ---- each load

pub sound_at : (n : ℕ) (ls : List LoadHeader) (k : ℕ) (d : LoadHeader) → elf.all_sound n ls ≡ true → k < length ls → elf.is_sound n (get_or ls k d) ≡ true
sound_at n [] k d h lt = absurd (omega arith)
sound_at n (x ∷ rest) zero d h lt = and_left _ _ h
sound_at n (x ∷ rest) (suc k) d h lt = sound_at n rest k d (and_right _ _ h) (omega arith)

pub fits_at : (ls : List LoadHeader) (k : ℕ) (d : LoadHeader) → are_apart ls ≡ true → k < length ls → (get_or ls k d).address + (get_or ls k d).memory_size ≤ 2 ^ 32
fits_at [] k d h lt = absurd (omega arith)
fits_at (x ∷ rest) zero d h lt = leb_true _ _ (and_left _ _ (and_left _ _ h))
fits_at (x ∷ rest) (suc k) d h lt = fits_at rest k d (and_right _ _ h) (omega arith)

-- one more load
pub one_more_loaded : (f : List ℕ) (ls : List LoadHeader) (k : ℕ) (d : LoadHeader) (ss next : List Segment) → k < length ls → AreLoaded f (take k ls) ss → (ts : List Segment) × (next ≡ ss ++ ts) × AreLoaded f (get_or ls k d ∷ []) ts → AreLoaded f (take (k + 1) ls) next
one_more_loaded f ls k d ss next lt h t = rw (take_more ls k d lt, t.1) (loaded-append f (take k ls) (get_or ls k d ∷ []) ss t.0 h t.2)

-- ---- the consequences of no fault

first_none : (a b : Option LoadFault) → first_of a b ≡ None → b ≡ None
first_none None b h = h
first_none (Some e) b h = cc

if_none : (b : Bool) (e : LoadFault) (r : Option LoadFault) → (if not b then Some e else r) ≡ None → (b ≡ true) × (r ≡ None)
if_none true e r h = (refl, h)
if_none false e r h = cc

pub apart_of_none : (f : List ℕ) (ls : List LoadHeader) → ls ≡ loads f → fault_of f ≡ None → are_apart ls ≡ true
apart_of_none f ls e h =
    let loads_none : loads_fault (length f) (loads f) ≡ None = first_none (header_fault f) _ h in
    rw e (if_none _ _ _ (if_none _ _ _ loads_none).1).0

-- ---- the result of a load

pub is_image : (f : List ℕ) (entry : ℕ) (s : Space) → fault_of f ≡ None → entry ≡ e_entry f → s ≡ image_space f → file_image f ≡ Ok (record { entry = entry; space = s })
unfolding file_image
is_image f entry s none e h = rw (none, e, h) refl

pub is_fault : (f : List ℕ) (fault : LoadFault) → fault_of f ≡ Some fault → file_image f ≡ Err fault
unfolding file_image
is_fault f fault e = rw e refl
