-- How a writer takes one text and then another.
use native.Mathlib.Omega.{arith}
use Rattle.std.proofs.Common.{◌≡◌, ℕ, ◌+◌, ◌≤◌, List, [], ◌∷◌, ◌++◌, take, length, codes, decimal, Option, Some, None, refl, sym, ap, subst, ◌∙◌, append_assoc}
use Rattle.std.specs.Prelude.{Result, Ok, Err, OnOk}
use Rattle.std.specs.Fmt.{WritesText}
use Rattle.std.proofs.Math.Seq.{take-append-add}
use Rattle.std.proofs.lemmas.Fmt.{contents_after_writes}
use Rattle.arrayvec.specs.ArrayString.{ArrayString}
use Rattle.std.proofs.lemmas.List.{take-append-le, length-append}
use Rattle.std.specs.Io.KnownBytes.{Appends}
use Rattle.std.specs.String.{string_bytes}
use Rattle.srcset.specs.Codes.{message_of}
use Rattle.srcset.specs.Fault.{place_text}
use Rattle.srcset.specs.Writing.{TakesBeginning}
use Rattle.srcset.specs.declared.fault.Fault.{Fault}
use Rattle.ctypes.specs.declared.operators.Undef.{Undef}
use Rattle.ctypes.specs.Arithmetic.{number_of}
use Rattle.cc.specs.Reported.{fault_text, behind_file}
use Rattle.cc.proofs.Transfers.{appends_none, appends_twice}

-- nothing is a beginning
pub nothing : (a : Option (List ℕ)) (xs : List ℕ) → TakesBeginning a a xs
nothing a xs = record { count = 0; within = omega arith; taken = appends_none a }

-- a beginning of the first
pub cut : (a b : Option (List ℕ)) (xs ys : List ℕ) → TakesBeginning a b xs → TakesBeginning a b (xs ++ ys)
cut a b xs ys t = record {
  count = t.count;
  within = omega (arith, t.within, length-append xs ys);
  taken = subst (Appends a b) (sym (take-append-le t.count xs ys t.within)) t.taken;
}

-- the whole first, and a beginning of the second
pub joined : (a b c : Option (List ℕ)) (xs ys : List ℕ) → Appends a b xs → TakesBeginning b c ys → TakesBeginning a c (xs ++ ys)
joined a b c xs ys all t = record {
  count = length xs + t.count;
  within = omega (arith, t.within, length-append xs ys);
  taken = subst (Appends a c) (sym (take-append-add xs ys t.count)) (appends_twice a b c xs (take t.count ys) all t.taken);
}

place_is : (file : List ℕ) (line : ℕ) → (file ≡ [] → ⊥) → (file ++ codes ":") ++ (decimal line ++ codes ": ") ≡ place_text file line
place_is [] line some = absurd (some refl)
place_is (b ∷ bs) line some = sym (append_assoc ((b ∷ bs) ++ codes ":") (decimal line) (codes ": "))

pub says_place : (a b c : Option (List ℕ)) (file : List ℕ) (line : ℕ) → (file ≡ [] → ⊥)
    → Appends a b (file ++ codes ":") → TakesBeginning b c (decimal line ++ codes ": ") → TakesBeginning a c (place_text file line)
says_place a b c file line some all t =
    subst (TakesBeginning a c) (place_is file line some) (joined a b c (file ++ codes ":") (decimal line ++ codes ": ") all t)

-- a place, then a message, then the text that a fault adds and the newline
joins : (p d s m t n : List ℕ) → (p ++ (d ++ s ++ m)) ++ (t ++ n) ≡ p ++ d ++ s ++ m ++ t ++ n
joins p d s m t n =
    ap (λ l. l ++ (t ++ n)) (sym (append_assoc p (d ++ s) m) ∙ ap (λ l. l ++ m) (sym (append_assoc p d s))) ∙ sym (append_assoc (p ++ d ++ s ++ m) t n)

abbrev pub message : Fault → List ℕ
message fault = decimal fault.code ++ codes " " ++ message_of fault.code

abbrev pub place : Fault → List ℕ
place fault = place_text (string_bytes fault.file) fault.line

abbrev pub rest : Fault → List ℕ
rest fault = string_bytes fault.text ++ codes "\n"

text_is : (fault : Fault) → (place fault ++ message fault) ++ rest fault ≡ fault_text fault
text_is fault = joins (place fault) (decimal fault.code) (codes " ") (message_of fault.code) (string_bytes fault.text) (codes "\n")

pub says_place_only : (fault : Fault) (a b c : Option (List ℕ)) → Appends a b (place fault) → TakesBeginning b c (message fault)
    → TakesBeginning a c (fault_text fault)
says_place_only fault a b c all t =
    subst (TakesBeginning a c) (text_is fault) (cut a c (place fault ++ message fault) (rest fault) (joined a b c (place fault) (message fault) all t))

pub says_all : (fault : Fault) (a b c d : Option (List ℕ)) → Appends a b (place fault) → Appends b c (message fault)
    → TakesBeginning c d (rest fault) → TakesBeginning a d (fault_text fault)
says_all fault a b c d first second t =
    let begun = appends_twice a b c (place fault) (message fault) first second in
    subst (TakesBeginning a d) (text_is fault) (joined a c d (place fault ++ message fault) (rest fault) begun t)

abbrev took : ArrayString → List ℕ → ArrayString → Type 0
took s bytes t = t.bytes ≡ s.bytes ++ bytes

-- the contents of a text of fixed capacity once all of another was appended
pub holds : {A B : Type 0} (r : Result A B) (old new : ArrayString) (o : Option (List ℕ)) (text : List ℕ) → o ≡ Some text
    → OnOk r (WritesText (λ s bytes t. t.bytes ≡ s.bytes ++ bytes) old o new) → OnOk r (new.bytes ≡ old.bytes ++ text)
holds (Ok x) old new o text e h =
    contents_after_writes took (λ w. w.bytes) (λ w bs v h. h) old text new (subst (λ p. WritesText took old p new) e h)
holds (Err x) old new o text e h = h

five : (a b c d e : List ℕ) → a ++ (b ++ (c ++ (d ++ e))) ≡ a ++ b ++ c ++ d ++ e
five a b c d e = sym (append_assoc a b (c ++ (d ++ e))) ∙ sym (append_assoc (a ++ b) c (d ++ e)) ∙ sym (append_assoc (a ++ b ++ c) d e)

pub behind_is : (line n : ℕ) (act : Undef) → n ≡ number_of act
    → Some (codes ":" ++ (decimal line ++ (codes ": undefined U" ++ (decimal n ++ codes "\n")))) ≡ Some (behind_file line act)
behind_is line n act e =
    ap Some (five (codes ":") (decimal line) (codes ": undefined U") (decimal n) (codes "\n")
    ∙ ap (λ k. codes ":" ++ decimal line ++ codes ": undefined U" ++ decimal k ++ codes "\n") e)
