-- Laws of the fronts of a text, a character at a time.
use Rattle.std.proofs.Common.{◌≡◌, ℕ, zero, suc, slice_index, ◌+◌, ◌<◌, Bool, true, false, List, drop, refl, sym, ap, ◌∙◌, Option, None, Some, subst, arith, eq-eqb}
use Rattle.std.proofs.lemmas.Bool.{ne_eqb, lt-ltb}
use Rattle.phases.specs.Text.{bytes_of}
use Rattle.phases.specs.inside.Lexical.{is_word, is_letter, word_len, name_len, goes_on, number_more, begins_number, number_len, behind, enclosed, string_prefix, closes, escapes_next, to_close, one_more}
use Rattle.phases.specs.declared.cursor.Cursor.{Cursor}
use Rattle.phases.specs.declared.cursor.Step.{Step}
use Rattle.phases.specs.inside.Reading.{bytes_at, IsStep, Spans}
use Rattle.phases.specs.declared.cursor.Span.{Span}
use Rattle.phases.specs.inside.Fronts.{IsFront, IsSomeFront, IsCloseFront, IsAhead}
use Rattle.phases.specs.inside.Along.{Along, AlongClose, plus}
use Rattle.phases.proofs.ReadingLemmas.{spans_join, spans_step, spans_drop}

pub along_more : (a b : Cursor) (s : Step) (total n left m : ℕ) → Along a total n b left → IsStep b s → left ≡ suc m → Along a total (n + 1) s.next m
along_more a b s total n left m p q e =
    record { spans = spans_join a b s.next n 1 p.spans (spans_step b s q); sum_is = p.sum_is ∙ omega (arith, e) }

pub word_step : (a : Cursor) (s : Step) → IsStep a s → is_word s.byte ≡ true → word_len (bytes_at a) ≡ suc (word_len (bytes_at s.next))
word_step a s p h = ap (λ t. word_len (bytes_of t)) p.text_is ∙ rw h refl

pub number_step : (last : ℕ) (a : Cursor) (s : Step) → IsStep a s → goes_on last s.byte ≡ true → number_more last (bytes_at a) ≡ suc (number_more s.byte (bytes_at s.next))
number_step last a s p h = ap (λ t. number_more last (bytes_of t)) p.text_is ∙ rw h refl

plus_one : (n : ℕ) (o : Option ℕ) → plus n (one_more o) ≡ plus (n + 1) o
plus_one n None = refl
plus_one n (Some m) = ap Some (omega arith)

pub close_more : (a b : Cursor) (s : Step) (total : Option ℕ) (n : ℕ) (left m : Option ℕ) → AlongClose a total n b left → IsStep b s → left ≡ one_more m → AlongClose a total (n + 1) s.next m
close_more a b s total n left m p q e =
    record { spans = spans_join a b s.next n 1 p.spans (spans_step b s q); sum_is = p.sum_is ∙ ap (plus n) e ∙ plus_one n m }

pub close_here : (close : ℕ) (escapes escaped : Bool) (a : Cursor) (s : Step) → IsStep a s → (s.byte ≡ 10 → ⊥) → closes close escaped s.byte ≡ true → to_close close escapes escaped (bytes_at a) ≡ Some 1
close_here close escapes escaped a s p n h = ap (λ t. to_close close escapes escaped (bytes_of t)) p.text_is ∙ rw (ne_eqb s.byte 10 n, h) refl

pub close_step : (close : ℕ) (escapes escaped : Bool) (a : Cursor) (s : Step) → IsStep a s → (s.byte ≡ 10 → ⊥) → closes close escaped s.byte ≡ false → to_close close escapes escaped (bytes_at a) ≡ one_more (to_close close escapes (escapes_next escapes escaped s.byte) (bytes_at s.next))
close_step close escapes escaped a s p n h = ap (λ t. to_close close escapes escaped (bytes_of t)) p.text_is ∙ rw (ne_eqb s.byte 10 n, h) refl

-- one character, and the front after it
pub some_after : (a : Cursor) (s : Step) (n total : ℕ) (t : Span) → IsStep a s → n ≡ t.count → Spans s.next t.count t.after → total ≡ suc n → IsSomeFront a total (record { count = 1 + t.count; after = t.after })
some_after a s n total t p e q f =
    record { count_is = omega (arith, e, f); spans = spans_join a s.next t.after 1 t.count (spans_step a s p) q; some = omega (arith, f) }

pub name_step : (a : Cursor) (s : Step) → IsStep a s → is_letter s.byte ≡ true → name_len (bytes_at a) ≡ suc (word_len (bytes_at s.next))
name_step a s p h = ap (λ t. name_len (bytes_of t)) p.text_is ∙ rw h refl

pub number_first : (a : Cursor) (s : Step) → IsStep a s → begins_number s.byte (bytes_at s.next) ≡ true → number_len (bytes_at a) ≡ suc (number_more s.byte (bytes_at s.next))
number_first a s p h = ap (λ t. number_len (bytes_of t)) p.text_is ∙ rw h refl

behind_some : (k n : ℕ) → 0 < n → behind k n ≡ k + n
behind_some k zero h = absurd (omega arith)
behind_some k (suc n) h = refl

pub prefixed : (a : Cursor) (p t : Span) (k : ℕ) (L : List ℕ → ℕ) → IsFront a k p → IsSomeFront p.after (L (bytes_at p.after)) t → IsSomeFront a (behind k (L (drop k (bytes_at a)))) (record { count = p.count + t.count; after = t.after })
prefixed a p t k L f g =
    let d : L (drop k (bytes_at a)) ≡ L (bytes_at p.after) = rw (← f.count_is) (ap L (spans_drop a p.after p.count f.spans)) in
    let e : behind k (L (drop k (bytes_at a))) ≡ k + L (bytes_at p.after) = rw d (behind_some k (L (bytes_at p.after)) g.some) in
    record {
      count_is = omega (arith, e, f.count_is, g.count_is);
      spans = spans_join a p.after t.after p.count t.count f.spans g.spans;
      some = omega (arith, e, g.some);
    }

pub prefixed_none : (a : Cursor) (p : Span) (k : ℕ) (L : List ℕ → ℕ) → IsFront a k p → L (bytes_at p.after) ≡ 0 → behind k (L (drop k (bytes_at a))) ≡ 0
prefixed_none a p k L f z =
    let d : L (drop k (bytes_at a)) ≡ L (bytes_at p.after) = rw (← f.count_is) (ap L (spans_drop a p.after p.count f.spans)) in
    rw (d, z) refl

pub u8_prefix : (a : Cursor) (s t : Step) → IsStep a s → IsAhead s.next t → s.byte ≡ 117 → t.byte ≡ 56 → IsFront a (string_prefix (bytes_at a)) (record { count = 2; after = t.next })
u8_prefix a s t p q e f =
    let g : slice_index (bytes_at s.next) 0 ≡ 56 = sym q.byte_is ∙ f in
    let n : t.byte ≡ 0 → ⊥ = λ z. omega arith in
    record {
      count_is = sym (ap (λ x. string_prefix (bytes_of x)) p.text_is ∙ rw (e, g) refl);
      spans = spans_join a s.next t.next 1 1 (spans_step a s p) (spans_step s.next t (q.step n));
    }

pub enclosed_some : (a : Cursor) (s : Step) (first close least : ℕ) (escapes : Bool) (t : Span) → IsStep a s → s.byte ≡ first → IsCloseFront s.next (to_close close escapes false (bytes_at s.next)) t → least < t.count → IsSomeFront a (enclosed first close least escapes (bytes_at a)) (record { count = 1 + t.count; after = t.after })
enclosed_some a s first close least escapes t p e f l =
    let total : enclosed first close least escapes (bytes_at a) ≡ suc t.count = ap (λ x. enclosed first close least escapes (bytes_of x)) p.text_is ∙ rw (eq-eqb s.byte first e, f.count_is, lt-ltb least t.count l) refl in
    some_after a s t.count (enclosed first close least escapes (bytes_at a)) t p refl f.spans total

plus_plus : (n k : ℕ) (o : Option ℕ) → plus n (plus k o) ≡ plus (n + k) o
plus_plus n k None = refl
plus_plus n k (Some m) = ap Some (omega arith)

-- one character, and a run after it
pub close_far : (a b : Cursor) (s : Step) (r : Span) (total : Option ℕ) (n : ℕ) (left m o : Option ℕ) → AlongClose a total n b left → IsStep b s → left ≡ one_more m → Spans s.next r.count r.after → m ≡ plus r.count o → AlongClose a total (n + (1 + r.count)) r.after o
close_far a b s r total n left m o p q e u f =
    let x = close_more a b s total n left m p q e in
    let y : n + 1 + r.count ≡ n + (1 + r.count) = omega arith in
    subst (λ k. AlongClose a total k r.after o) y (record { spans = spans_join a s.next r.after (n + 1) r.count x.spans u; sum_is = x.sum_is ∙ ap (plus (n + 1)) f ∙ plus_plus (n + 1) r.count o })

pub along_far : (a b : Cursor) (s : Step) (r : Span) (total n left m o : ℕ) → Along a total n b left → IsStep b s → left ≡ suc m → Spans s.next r.count r.after → m ≡ r.count + o → Along a total (n + (1 + r.count)) r.after o
along_far a b s r total n left m o p q e u f =
    let x = along_more a b s total n left m p q e in
    let y : n + 1 + r.count ≡ n + (1 + r.count) = omega arith in
    subst (λ k. Along a total k r.after o) y (record { spans = spans_join a s.next r.after (n + 1) r.count x.spans u; sum_is = omega (arith, x.sum_is, f) })
