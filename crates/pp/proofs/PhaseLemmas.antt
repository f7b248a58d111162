-- Files as they are entered, and phase 4 of a main file.
use Rattle.std.proofs.Common.{◌≡◌, ◌<◌, ◌≤◌, ℕ, zero, suc, List, [], ◌∷◌, length, Bool, true, false, Option, Some, None, Result, Ok, Err, get_or, refl, sym, ap, subst, ◌∙◌, arith, ◌⊎◌, inl, inr}
use Rattle.std.specs.Prelude.{slice_get, if◌then◌else◌}
use Rattle.std.specs.Str.{bytes_eq, is_utf8}
use Rattle.std.proofs.lemmas.Option.{none-some, slice_get_within, slice_get-get_or}
use Rattle.srcset.specs.declared.refusal.Pos.{Pos}
use Rattle.srcset.specs.declared.refusal.Refusal.{Refusal}
use Rattle.srcset.specs.declared.refusal.Refusal.TheVariants.{Memory, At, Told}
use Rattle.srcset.specs.declared.code.Code.{Code}
use Rattle.srcset.specs.declared.code.Code.TheVariants as code
use Rattle.srcset.specs.Files.{Files, file_of}
use Rattle.srcset.specs.NameTable.{Texts, KeepsNumbers, NumbersOnce, utf8_or_empty, shown_text}
use Rattle.pp.proofs.TextLemmas.{same_text, equals_itself}
use Rattle.phases.specs.Token.{Token}
use Rattle.phases.specs.Text.{logical, phase1, last_line, ends_open, ends_spliced}
use Rattle.phases.specs.Lines.{scanned, at_end, lines_or_fault, fault_or, found, Found}
use Rattle.phases.specs.declared.token.Place.TheVariants.{Start}
use Rattle.phases.specs.LineEnds.{line_ends}
use Rattle.pp.specs.Lines.{Line, lines_with, lines_or_refusal, lines_of}
use Rattle.pp.specs.Groups.{groups}
use Rattle.pp.specs.Phase4.{State, Fault, Around, start, max_includes, number_in, lines_done, file_done, main_done, ending_of, phase4, group_done}
use Rattle.pp.specs.Preprocessed.{IsStopped, IsRefused, IsUnread, IsUnbegun}
use Rattle.pp.specs.Left.{around_with}
use Rattle.pp.specs.Rest.{nowhere}
use Rattle.pp.specs.inside.Stepping.{Stops, StopsAs}
use Rattle.pp.proofs.StateLemmas.{true-false}

-- ---- numbers of texts

from_some : Option (List ℕ) → List ℕ
from_some None = []
from_some (Some text) = text

some_is : (a b : List ℕ) → Some a ≡ Some b → a ≡ b
unfolding from_some
some_is a b e = ap from_some e

record FirstOf (texts : Texts) (text : List ℕ) (n : ℕ) : Type 0 where
  here : slice_get texts (number_in texts text) ≡ Some text
  no_later : number_in texts text ≤ n

first_at : (b : Bool) (t : List ℕ) (ts : Texts) (text : List ℕ) (n : ℕ) → bytes_eq t text ≡ b → slice_get (t ∷ ts) n ≡ Some text
    → ((m : ℕ) → slice_get ts m ≡ Some text → FirstOf ts text m) → FirstOf (t ∷ ts) text n
first_at true t ts text n e s more =
    let zero_is : number_in (t ∷ ts) text ≡ 0 = ap (λ b. if b then 0 else suc (number_in ts text)) e in
    record { here = ap (λ k. slice_get (t ∷ ts) k) zero_is ∙ ap Some (same_text t text e); no_later = omega (arith, zero_is) }
first_at false t ts text zero e s more =
    absurd (true-false (sym (equals_itself text) ∙ ap (λ k. bytes_eq k text) (sym (some_is t text s)) ∙ e))
first_at false t ts text (suc n) e s more =
    let later : number_in (t ∷ ts) text ≡ suc (number_in ts text) = ap (λ b. if b then 0 else suc (number_in ts text)) e in
    let f = more n s in
    record { here = ap (λ k. slice_get (t ∷ ts) k) later ∙ f.here; no_later = omega (arith, later, f.no_later) }

first_of : (texts : Texts) (text : List ℕ) (n : ℕ) → slice_get texts n ≡ Some text → FirstOf texts text n
first_of [] text n e = absurd (none-some text e)
first_of (t ∷ ts) text n e = first_at (bytes_eq t text) t ts text n refl e (λ m d. first_of ts text m d)

-- a text of the table has its number in each later one
pub number_kept : (names texts : Texts) (text : List ℕ) (n : ℕ) → NumbersOnce names → KeepsNumbers names texts → slice_get names n ≡ Some text → number_in texts text ≡ n
number_kept names texts text n once keeps e =
    let f = first_of texts text n (keeps n text e) in
    let m = number_in texts text in
    let inside : m < length names = omega (arith, f.no_later, slice_get_within names n text e) in
    let own = get_or names m [] in
    let got = slice_get-get_or names m [] inside in
    let own_is : own ≡ text = some_is own text (sym (keeps m own got) ∙ f.here) in
    once m n text (got ∙ ap Some own_is) e

-- ---- a file

abbrev pub start_of : ℕ → State
start_of file = record start { presumed = record { from = 1; line = 1; file = file } }

-- places are the physical ones of a file
abbrev pub begun_in : ℕ → State → State
begun_in file s = record s { presumed = record { from = 1; line = 1; file = file } }

abbrev pub numbered_lines : List ℕ → List (List Token) → List Line
numbered_lines bytes tss = lines_with tss (line_ends 0 Start (logical 1 bytes))

pub file_is : (around : Around) (name bytes : List ℕ) (file : ℕ) (tss : List (List Token)) (s : State)
    → number_in around.texts name ≡ file → scanned file bytes ≡ Ok tss
    → file_done around name bytes s ≡ group_done around nowhere 0 (groups (numbered_lines bytes tss)) (begun_in file s)
unfolding file_done lines_of
file_is around name bytes file tss s numbered scans =
    ap (λ n. lines_done around (lines_of n bytes) (begun_in n s)) numbered
    ∙ ap (λ r. lines_done around (lines_or_refusal r (line_ends 0 Start (logical 1 bytes))) (begun_in file s)) scans

IsPlaced : Result (List (List Token)) Refusal → Type 0
IsPlaced (Ok lines) = Unit {0}
IsPlaced (Err Memory) = ⊥
IsPlaced (Err (At c at)) = Unit {0}
IsPlaced (Err (Told c at text)) = ⊥

fault_placed : (c : Code) (o : Option Pos) (r : Result (List (List Token)) Refusal) → IsPlaced r → IsPlaced (fault_or c o r)
unfolding IsPlaced
fault_placed c None r p = p
fault_placed c (Some at) r p = tt

end_placed : (open' spliced : Bool) (file line : ℕ) (r : Result (List (List Token)) Refusal) → IsPlaced r → IsPlaced (at_end open' spliced file line r)
unfolding IsPlaced
end_placed true spliced file line r p = tt
end_placed false true file line r p = tt
end_placed false false file line r p = p

lines_placed : (f : Found) → IsPlaced (lines_or_fault f)
unfolding IsPlaced
lines_placed f = fault_placed code.OpenComment f.unclosed (fault_or code.TokenLengthLimit f.overlong (Ok f.lines)) (fault_placed code.TokenLengthLimit f.overlong (Ok f.lines) tt)

scan_placed : (file : ℕ) (bytes : List ℕ) → IsPlaced (scanned file bytes)
scan_placed file bytes =
    let f = found file 0 Start false (logical 1 bytes) in
    end_placed (ends_open (phase1 0 1 bytes)) (ends_spliced (phase1 0 1 bytes)) file (last_line bytes) (lines_or_fault f) (lines_placed f)

-- phases 1 to 3 refuse at places
pub file_refused : (r : Refusal) (names : Texts) (around : Around) (name bytes : List ℕ) (file : ℕ) (s : State)
    → number_in around.texts name ≡ file → scanned file bytes ≡ Err r → StopsAs s.given names r (file_done around name bytes s)
unfolding file_done lines_of IsPlaced
file_refused Memory names around name bytes file s numbered e = tt
file_refused (At c at) names around name bytes file s numbered e = record {
  stops_is = ap (λ n. lines_done around (lines_of n bytes) (begun_in n s)) numbered
      ∙ ap (λ r. lines_done around (lines_or_refusal r (line_ends 0 Start (logical 1 bytes))) (begun_in file s)) e;
}
file_refused (Told c at text) names around name bytes file s numbered e = absurd (subst IsPlaced e (scan_placed file bytes))

pub scan_stops : (r : Refusal) (names : Texts) (around : Around) (name bytes : List ℕ) (file : ℕ) (s : State)
    → number_in around.texts name ≡ file → (r ≡ Memory) ⊎ (scanned file bytes ≡ Err r) → StopsAs s.given names r (file_done around name bytes s)
scan_stops r names around name bytes file s numbered (inl m) = subst (λ r. StopsAs s.given names r (file_done around name bytes s)) (sym m) tt
scan_stops r names around name bytes file s numbered (inr e) = file_refused r names around name bytes file s numbered e

-- ---- phase 4

pub main_is : (files : Files) (texts : Texts) (main bytes : List ℕ) → file_of files main ≡ Some bytes
    → phase4 files texts main ≡ ending_of (file_done (around_with max_includes files texts) main bytes start)
unfolding phase4
main_is files texts main bytes given = ap (λ o. ending_of (main_done files texts main o)) given

pub shown_is : (texts : Texts) (n : ℕ) (text : List ℕ) → slice_get texts n ≡ Some text → is_utf8 text ≡ true → shown_text texts n ≡ text
shown_is texts n text e u = ap utf8_or_empty e ∙ ap (λ b. if b then text else []) u

stops_with : (files : Files) (texts : Texts) (main bytes : List ℕ) (given : List Token) (c : Code) (at : Pos) (text : List ℕ) → file_of files main ≡ Some bytes
    → Stops given c at text (file_done (around_with max_includes files texts) main bytes start) → IsStopped files texts main c at text
stops_with files texts main bytes given c at text found s = record {
  stops = ap (λ p. p.fault) (main_is files texts main bytes found ∙ ap ending_of s.stops_is);
}

pub stopped_is : (refusal : Refusal) (given : List Token) (files : Files) (texts names : Texts) (main bytes : List ℕ) → KeepsNumbers names texts → file_of files main ≡ Some bytes
    → StopsAs given names refusal (file_done (around_with max_includes files texts) main bytes start) → IsRefused files texts main refusal
stopped_is Memory given files texts names main bytes keeps found s = tt
stopped_is (At c at) given files texts names main bytes keeps found s = stops_with files texts main bytes given c at [] found s
stopped_is (Told c at n) given files texts names main bytes keeps found s =
    subst (IsStopped files texts main c at) (sym (shown_is texts n s.text (keeps n s.text s.number_is) s.utf8))
    (stops_with files texts main bytes given c at s.text found s.fault_is)

abbrev no_main : ℕ → Fault
no_main n = record { code = code.NoMainFile; at = record { file = n; line = 0 }; text = [] }

pub no_main_is : (files : Files) (texts : Texts) (main : List ℕ) (file : ℕ) → file_of files main ≡ None → number_in texts main ≡ file
    → IsRefused files texts main (At code.NoMainFile (record { file = file; line = 0 }))
unfolding phase4
no_main_is files texts main file given numbered = record {
  stops = ap (λ o. (ending_of (main_done files texts main o)).fault) given
      ∙ ap (λ (n : ℕ). Some (no_main n)) numbered;
}

-- ---- where it does not begin

pub absent_main : (files : Files) (texts : Texts) (main : List ℕ) (file : ℕ) → file_of files main ≡ None → number_in texts main ≡ file
    → IsUnbegun files texts main (At code.NoMainFile (record { file = file; line = 0 }))
absent_main files texts main file given numbered =
    inr (subst (λ o. IsUnread texts main o (At code.NoMainFile (record { file = file; line = 0 }))) (sym given)
    (ap (λ (n : ℕ). At code.NoMainFile (record { file = n; line = 0 })) (sym numbered)))

pub unread_main : (r : Refusal) (files : Files) (texts : Texts) (main bytes : List ℕ) (file : ℕ) → file_of files main ≡ Some bytes → number_in texts main ≡ file
    → (r ≡ Memory) ⊎ (scanned file bytes ≡ Err r) → IsUnbegun files texts main r
unread_main r files texts main bytes file given numbered (inl m) = inl m
unread_main r files texts main bytes file given numbered (inr e) =
    inr (subst (λ o. IsUnread texts main o r) (sym given) (ap (λ n. scanned n bytes) numbered ∙ e))
