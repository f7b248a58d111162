-- Laws of quotes that are not closed on their line.
use Rattle.std.proofs.Common.{◌≡◌, ℕ, zero, suc, ◌+◌, ◌-◌, ◌≤◌, ◌<◌, eqb, ◌&&◌, Bool, true, false, not, cond, List, [], ◌∷◌, drop, refl, ap, subst, arith, Option, None, Some, is_none}
use Rattle.std.proofs.lemmas.Bool.{and_parts, and_from}
use Rattle.phases.specs.inside.Lexical.{one_more, closes, escapes_next, to_close, closed_over, enclosed, behind}
use Rattle.phases.specs.Lines.{line_len}
use Rattle.phases.specs.inside.Closing.{unclosed_for, IsHopeless}
use Rattle.phases.specs.declared.cursor.Hopeless.{Hopeless}
use Rattle.phases.specs.declared.cursor.Cursor.{Cursor}
use Rattle.phases.specs.inside.Reading.{bytes_at, Spans}
use Rattle.phases.proofs.ReadingLemmas.{spans_drop}

unclosed_end : (q m : ℕ) → unclosed_for q m [] ≡ true
unclosed_end q zero = refl
unclosed_end q (suc m) = refl

pub unclosed_drop : (q m n : ℕ) (bs : List ℕ) → unclosed_for q m bs ≡ true → unclosed_for q (m - n) (drop n bs) ≡ true
unclosed_drop q m zero bs h = let e : m - 0 ≡ m = omega arith in rw e h
unclosed_drop q zero (suc n) bs h = let e : 0 - suc n ≡ 0 = omega arith in rw e refl
unclosed_drop q (suc m) (suc n) [] h = let e : suc m - suc n ≡ m - n = omega arith in rw e (unclosed_end q (m - n))
unclosed_drop q (suc m) (suc n) (b ∷ bs) h =
    let e : suc m - suc n ≡ m - n = omega arith in
    rw e (unclosed_drop q m n bs (and_parts (cond (eqb b q) (is_none (to_close q true false bs)) true) (unclosed_for q m bs) h).1)

one_none : (o : Option ℕ) → one_more o ≡ None → o ≡ None
one_none None h = refl
one_none (Some n) h = absurd (cc)

none_step : (nl cl : Bool) (o : Option ℕ) → cond nl None (cond cl (Some 1) (one_more o)) ≡ None → nl ≡ false → (cl ≡ false) × (o ≡ None)
none_step true cl o h f = absurd (cc)
none_step false true o h f = absurd (cc)
none_step false false o h f = (refl, one_none o h)

head_step : (t e : Bool) (q b : ℕ) (bs : List ℕ) → (t && not e) ≡ false → to_close q true (not e && eqb b 92) bs ≡ None → cond t (is_none (to_close q true false bs)) true ≡ true
head_step false e q b bs f h = refl
head_step true true q b bs f h = ap is_none h
head_step true false q b bs f h = absurd (cc)

on_line : (t : Bool) (k m : ℕ) → suc m ≤ cond t 0 (suc k) → (t ≡ false) × (m ≤ k)
on_line true k m h = absurd (omega arith)
on_line false k m h = (refl, omega arith)

unclosed_make : (q m : ℕ) (e : Bool) (bs : List ℕ) → to_close q true e bs ≡ None → m ≤ line_len bs → unclosed_for q m bs ≡ true
unclosed_make q zero e bs h l = refl
unclosed_make q (suc m) e [] h l = refl
unclosed_make q (suc m) e (b ∷ bs) h l =
    let x = on_line (eqb b 10) (line_len bs) m l in
    let y = none_step (eqb b 10) (closes q e b) (to_close q true (escapes_next true e b) bs) h x.0 in
    and_from _ _ (head_step (eqb b q) e q b bs y.0 y.1) (unclosed_make q m (escapes_next true e b) bs y.1 x.1)

first_unclosed : (t : Bool) (q : ℕ) (bs : List ℕ) → to_close q true false bs ≡ None → cond t (is_none (to_close q true false bs)) true ≡ true
first_unclosed true q bs h = ap is_none h
first_unclosed false q bs h = refl

-- a quote that is not closed, and the rest of its line
pub unclosed_line : (q n b : ℕ) (bs text : List ℕ) → text ≡ b ∷ bs → to_close q true false bs ≡ None → n ≡ line_len bs → unclosed_for q (1 + n) text ≡ true
unclosed_line q n b bs text t h l =
    let k : 1 + n ≡ suc n = omega arith in
    let m : n ≤ line_len bs = omega arith in
    rw (t, k) (and_from _ _ (first_unclosed (eqb b q) q bs h) (unclosed_make q n false bs h m))

enclosed_none_step : (t : Bool) (o : Option ℕ) (least : ℕ) → cond t (is_none o) true ≡ true → cond t (closed_over least o) 0 ≡ 0
enclosed_none_step false o least h = refl
enclosed_none_step true None least h = refl
enclosed_none_step true (Some n) least h = absurd (cc)

enclosed_none : (q least m : ℕ) (bs : List ℕ) → unclosed_for q (suc m) bs ≡ true → enclosed q q least true bs ≡ 0
enclosed_none q least m [] h = refl
enclosed_none q least m (b ∷ bs) h =
    enclosed_none_step (eqb b q) (to_close q true false bs) least (and_parts (cond (eqb b q) (is_none (to_close q true false bs)) true) (unclosed_for q m bs) h).0

-- after a prefix shorter than the known range, no literal begins
pub hopeless_literal : (q least h k : ℕ) (bs : List ℕ) → unclosed_for q h bs ≡ true → k < h → behind k (enclosed q q least true (drop k bs)) ≡ 0
hopeless_literal q least h k bs u l =
    let e : h - k ≡ suc (h - k - 1) = omega arith in
    let v : unclosed_for q (suc (h - k - 1)) (drop k bs) ≡ true = subst (λ m. unclosed_for q m (drop k bs) ≡ true) e (unclosed_drop q h k bs u) in
    rw (enclosed_none q least (h - k - 1) (drop k bs) v) refl

pub hopeless_more : (h k : Hopeless) (a b : Cursor) (n : ℕ) → IsHopeless h (bytes_at a) → Spans a n b → k.single ≡ h.single - n → k.double ≡ h.double - n → IsHopeless k (bytes_at b)
hopeless_more h k a b n p s e f =
    let d = spans_drop a b n s in
    record {
      single = rw (e, ← d) (unclosed_drop 39 h.single n (bytes_at a) p.single);
      double = rw (f, ← d) (unclosed_drop 34 h.double n (bytes_at a) p.double);
    }
