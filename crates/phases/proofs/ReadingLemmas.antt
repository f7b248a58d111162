-- Laws of reading a text character by character.
use Rattle.std.proofs.Common.{◌≡◌, ℕ, suc, ◌+◌, List, [], ◌∷◌, ◌++◌, length, take, drop, refl, sym, ap, ◌∙◌, arith, Bool, false, Option, Some, None, MatchOption}
use Rattle.std.proofs.lemmas.List.{append_assoc, length-append, map-append, drop_at, take_at, length-map}
use Rattle.phases.specs.Text.{Char, phase1, logical, bytes_of, is_splice}
use Rattle.phases.specs.declared.cursor.Cursor.{Cursor}
use Rattle.phases.specs.declared.cursor.Step.{Step}
use Rattle.phases.specs.inside.Reading.{mapped_at, text_at, bytes_at, char_of, MapsTo, Skips, IsNoSplice, IsPastSplices, EndsSplice, Reads, IsStep, Spans}
use Rattle.phases.proofs.TextLemmas.{stands, goes, ends}

pub skips_none : (a : Cursor) → Skips a a
skips_none a = record { text_is = refl; least = omega arith; plain = λ h. refl }

pub skips_more : (a b c : Cursor) (s : Step) → Skips a b → MapsTo b s → EndsSplice s c → Skips a c
skips_more a b c s p m e =
    let f : text_at b ≡ text_at c = goes b.line s.next.line c.line b.rest.now s.next.rest.now c.rest.now (char_of s) (record { byte = 10; line = e.line }) m.text_is e.text_is e.is_backslash refl in
    record { text_is = p.text_is ∙ f; least = omega (arith, p.least, m.least, e.least); plain = λ h. absurd (omega (arith, p.least, m.least, e.least)) }

abbrev splice_first : List Char → Bool
splice_first [] = false
splice_first (c ∷ cs) = is_splice c cs

pub past_at : (a : Cursor) (s : Step) → MapsTo a s → IsNoSplice s → IsPastSplices a
past_at a s m n = λ t q. sym (ap splice_first (sym m.text_is ∙ q.text_is)) ∙ n

pub past_at_end : (a : Cursor) → a.rest.now ≡ [] → IsPastSplices a
past_at_end a e = λ t q.
    let none : 0 ≡ suc (length (mapped_at t.next)) = ap (λ l. length l) (sym (ap (phase1 0 a.line) e) ∙ q.text_is) in
    absurd (omega (arith, none))

pub step_after : (a b : Cursor) (s : Step) → Skips a b → MapsTo b s → IsNoSplice s → IsStep a s
step_after a b s p m n =
    let f : text_at b ≡ char_of s ∷ text_at s.next = stands b.line s.next.line b.rest.now s.next.rest.now (char_of s) m.text_is n in
    record { text_is = p.text_is ∙ f; least = omega (arith, p.least, m.least); plain = λ h. p.plain (omega (arith, p.least, m.least)) ∙ m.plain (omega (arith, p.least, m.least)) }

pub end_after : (a b : Cursor) → Skips a b → b.rest.now ≡ [] → text_at a ≡ []
end_after a b p e = p.text_is ∙ ap (logical b.line) e ∙ ends b.line

pub read_after : (a b : Cursor) (r : Option Step) → Skips a b → IsPastSplices b → MatchOption r (b.rest.now ≡ []) (MapsTo b)
    → MatchOption r (text_at a ≡ []) (IsStep a)
read_after a b (Some s) p q m = step_after a b s p m (q s m)
read_after a b None p q m = end_after a b p m

pub reads_none : (a : Cursor) → Reads a [] a
reads_none a = record { text_is = refl; least = omega arith; plain = λ h. refl }

pub reads_more : (a b c : Cursor) (f g : List Char) → Reads a f b → Reads b g c → Reads a (f ++ g) c
reads_more a b c f g p q =
    let n = length-append f g in
    record {
      text_is = rw append_assoc (p.text_is ∙ ap (λ t. f ++ t) q.text_is);
      least = omega (arith, n, p.least, q.least);
      plain = λ h. let x : length a.rest.now ≡ length f + length b.rest.now = omega (arith, n, p.least, q.least) in
          let y : length b.rest.now ≡ length g + length c.rest.now = omega (arith, n, p.least, q.least) in
          rw (map-append, append_assoc) (p.plain x ∙ ap (λ t. bytes_of f ++ t) (q.plain y));
    }

pub spans_none : (a : Cursor) → Spans a 0 a
spans_none a = record { front = []; count = refl; reads = reads_none a }

pub spans_join : (a b c : Cursor) (m n : ℕ) → Spans a m b → Spans b n c → Spans a (m + n) c
spans_join a b c m n p q =
    record { front = p.front ++ q.front; count = length-append p.front q.front ∙ rw (p.count, q.count) refl; reads = reads_more a b c p.front q.front p.reads q.reads }

pub spans_step : (a : Cursor) (s : Step) → IsStep a s → Spans a 1 s.next
spans_step a s p = record { front = char_of s ∷ []; count = refl; reads = p }

pub spans_drop : (a b : Cursor) (n : ℕ) → Spans a n b → drop n (bytes_at a) ≡ bytes_at b
spans_drop a b n p =
    ap (λ t. drop n (bytes_of t)) p.reads.text_is ∙ rw map-append (drop_at (bytes_of p.front) (bytes_at b) n (length-map p.front (λ c. c.byte) ∙ p.count))

pub spans_take : (a b : Cursor) (n : ℕ) → (p : Spans a n b) → take n (bytes_at a) ≡ bytes_of (p.front)
spans_take a b n p =
    ap (λ t. take n (bytes_of t)) p.reads.text_is ∙ rw map-append (take_at (bytes_of p.front) (bytes_at b) n (length-map p.front (λ c. c.byte) ∙ p.count))
