-- Laws of spellings.
use Rattle.std.proofs.Common.{◌≡◌, ℕ, ◌+◌, ◌≤◌, List, [], ◌∷◌, ◌++◌, length, take, refl, sym, ap, ◌∙◌, arith}
use Rattle.std.proofs.lemmas.List.{map-append, length-map, take_at, take_all, append-nil}
use Rattle.phases.specs.Text.{bytes_of}
use Rattle.phases.specs.declared.cursor.Cursor.{Cursor}
use Rattle.phases.specs.declared.cursor.Step.{Step}
use Rattle.phases.specs.inside.Reading.{text_at, bytes_at, char_of, IsStep, Spans}
use Rattle.phases.specs.inside.Along.{Copied}
use Rattle.phases.proofs.ReadingLemmas.{reads_none, reads_more, spans_take}

pub copied_none : (a : Cursor) → Copied a [] a
copied_none a = record { front = []; copy_is = refl; reads = reads_none a }

pub copied_more : (a b : Cursor) (s : Step) (copy : List ℕ) → Copied a copy b → IsStep b s → Copied a (copy ++ s.byte ∷ []) s.next
copied_more a b s copy p q =
    record { front = p.front ++ char_of s ∷ []; copy_is = rw map-append (ap (λ t. t ++ s.byte ∷ []) p.copy_is); reads = reads_more a b s.next p.front (char_of s ∷ []) p.reads q }

-- all the text
pub copied_all : (a b : Cursor) (copy : List ℕ) (n : ℕ) → Copied a copy b → text_at b ≡ [] → length copy ≤ n → copy ≡ take n (bytes_at a)
copied_all a b copy n p e h =
    let t : bytes_at a ≡ copy = ap bytes_of p.reads.text_is ∙ rw (map-append, e, append-nil) (sym p.copy_is) in
    rw t (sym (take_all n copy h))

-- as many as were requested
pub copied_count : (a b : Cursor) (copy : List ℕ) (n : ℕ) → Copied a copy b → length copy ≡ n → copy ≡ take n (bytes_at a)
copied_count a b copy n p e =
    let t : bytes_at a ≡ copy ++ bytes_at b = ap bytes_of p.reads.text_is ∙ rw map-append (ap (λ x. x ++ bytes_at b) (sym p.copy_is)) in
    rw t (sym (take_at copy (bytes_at b) n e))

-- where each character takes one byte, the bytes are borrowed
pub lent : (a b : Cursor) (n : ℕ) → Spans a n b → length a.rest.now ≡ n + length b.rest.now → take n a.rest.now ≡ take n (bytes_at a)
lent a b n p e =
    let h : length a.rest.now ≡ length p.front + length b.rest.now = omega (arith, p.count) in
    let m : length (bytes_of p.front) ≡ n = length-map p.front (λ c. c.byte) ∙ p.count in
    rw (p.reads.plain h) (take_at (bytes_of p.front) b.rest.now n m) ∙ sym (spans_take a b n p)

pub length_spelling : (a b : Cursor) (n : ℕ) → Spans a n b → length (take n (bytes_at a)) ≡ n
length_spelling a b n p = ap length (spans_take a b n p) ∙ length-map p.front (λ c. c.byte) ∙ p.count
