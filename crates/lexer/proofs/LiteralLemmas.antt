-- Lemmas on reading a literal part by part.
use Rattle.std.proofs.Common.{◌≡◌, ℕ, zero, suc, ◌-◌, ◌<◌, ◌==◌, ◌||◌, Bool, true, false, cond, Option, Some, None, Result, Ok, Err, List, [], ◌∷◌, ◌++◌, length, drop, refl, sym, ap, ◌∙◌, subst, arith, inl, inr, append_assoc, append-nil}
use Rattle.srcset.specs.declared.code.Code.{Code}
use Rattle.srcset.specs.declared.code.Code.TheVariants.{BadLiteral, ConstantOutOfRange, LeftOutLiteral}
use Rattle.std.proofs.lemmas.Bool.{eqb-true}
use Rattle.std.specs.List.{list_any}
use Rattle.srcset.specs.declared.refusal.Pos.{Pos}
use Rattle.srcset.specs.declared.refusal.Refusal.{Refusal}
use Rattle.srcset.specs.declared.refusal.Refusal.TheVariants.{Memory, At}
use Rattle.lexer.specs.declared.literals.Element.{Element}
use Rattle.lexer.specs.declared.literals.Element.TheVariants.{Byte, Large, Unreadable, Universal}
use Rattle.lexer.specs.declared.literals.Met.{Met}
use Rattle.lexer.specs.declared.literals.Part.{Part}
use Rattle.lexer.specs.Literals.{first_part, elements, is_universal, is_unreadable, is_large, bytes_of, string_of}
use Rattle.lexer.specs.inside.Decoding.{part_at, met_with, IsDecoded, by_fault, fault_of, IsAppended, IsRefusal}

pub elements_skip : (k : ℕ) (bs : List ℕ) → elements k bs ≡ elements 0 (drop k bs)
unfolding elements
elements_skip zero bs = refl
elements_skip (suc k) [] = refl
elements_skip (suc k) (b ∷ bs) = elements_skip k bs

drop_pred : (n : ℕ) (b : ℕ) (bs : List ℕ) → 0 < n → drop (n - 1) bs ≡ drop n (b ∷ bs)
drop_pred zero b bs h = absurd (omega arith)
drop_pred (suc m) b bs h = let e : suc m - 1 ≡ m = omega arith in ap (λ k. drop k bs) e

-- the elements of a text, by its first part
pub elements_step : (bs : List ℕ) → 0 < length bs → 0 < (part_at bs).count → elements 0 bs ≡ (part_at bs).element ∷ elements 0 (drop (part_at bs).count bs)
unfolding elements
elements_step [] h some = absurd (omega arith)
elements_step (b ∷ bs) h some =
    let p = first_part b bs in
    ap (λ es. p.element ∷ es) (elements_skip (p.count - 1) bs ∙ ap (elements 0) (drop_pred p.count b bs some))

or_join : (a x y : Bool) → ((a || (x || false)) || y) ≡ (a || (x || y))
or_join true x y = refl
or_join false true y = refl
or_join false false y = refl

met_join : (m : Met) (e : Element) (es : List Element) → met_with (met_with m (e ∷ [])) es ≡ met_with m (e ∷ es)
met_join m e es =
    let u = or_join m.universal (is_universal e) (list_any is_universal es) in
    let r = or_join m.unreadable (is_unreadable e) (list_any is_unreadable es) in
    let l = or_join m.large (is_large e) (list_any is_large es) in
    cc

bytes_join : (e : Element) (es : List Element) → bytes_of (e ∷ []) ++ bytes_of es ≡ bytes_of (e ∷ es)
bytes_join (Byte b) es = refl
bytes_join Large es = refl
bytes_join Unreadable es = refl
bytes_join Universal es = refl

-- one element after another
pub decoded_step : (old between new : List ℕ) (met meanwhile after : Met) (e : Element) (es : List Element) → IsDecoded old met (e ∷ []) between meanwhile → IsDecoded between meanwhile es new after → IsDecoded old met (e ∷ es) new after
decoded_step old between new met meanwhile after e es p q = record {
  bytes_are = q.bytes_are ∙ ap (λ x. x ++ bytes_of es) p.bytes_are ∙ append_assoc old (bytes_of (e ∷ [])) (bytes_of es) ∙ ap (λ x. old ++ x) (bytes_join e es);
  met_is = q.met_is ∙ ap (λ m. met_with m es) p.met_is ∙ met_join met e es;
}

or_none : (a : Bool) → (a || false) ≡ a
or_none true = refl
or_none false = refl

met_none : (m : Met) → met_with m [] ≡ m
met_none m =
    let make : Bool → Bool → Bool → Met = λ u r l. record { universal = u; unreadable = r; large = l } in
    ap (λ x. make x (m.unreadable || false) (m.large || false)) (or_none m.universal) ∙ ap (λ x. make m.universal x (m.large || false)) (or_none m.unreadable) ∙ ap (λ x. make m.universal m.unreadable x) (or_none m.large)

-- the meaning of the test for an empty text
pub is_some_text : (bs : List ℕ) (b : Bool) → b ≡ (length bs == 0) → b ≡ false → 0 < length bs
is_some_text [] b e f = absurd (cc)
is_some_text (x ∷ bs) b e f = omega arith

pub is_no_text : (bs : List ℕ) (b : Bool) → b ≡ (length bs == 0) → b ≡ true → bs ≡ []
is_no_text [] b e f = refl
is_no_text (x ∷ bs) b e f = let h : length (x ∷ bs) ≡ 0 = eqb-true (length (x ∷ bs)) 0 (sym e ∙ f) in absurd (omega arith)

pub decoded_all : (old : List ℕ) (met : Met) (bs : List ℕ) → bs ≡ [] → IsDecoded old met (elements 0 bs) old met
unfolding elements
decoded_all old met bs e =
    let f : elements 0 bs ≡ [] = ap (elements 0) e in
    record {
      bytes_are = sym (ap (λ es. old ++ bytes_of es) f ∙ append-nil old);
      met_is = sym (ap (met_with met) f ∙ met_none met);
    }

-- a text by its first part
pub decoded_part : (old between new : List ℕ) (met meanwhile after : Met) (bs : List ℕ) → 0 < length bs → 0 < (part_at bs).count → IsDecoded old met ((part_at bs).element ∷ []) between meanwhile → IsDecoded between meanwhile (elements 0 (drop (part_at bs).count bs)) new after → IsDecoded old met (elements 0 bs) new after
decoded_part old between new met meanwhile after bs h some p q =
    subst (λ es. IsDecoded old met es new after) (sym (elements_step bs h some)) (decoded_step old between new met meanwhile after (part_at bs).element (elements 0 (drop (part_at bs).count bs)) p q)

-- one iteration of the loop, which reads the first part and continues after it
pub decoded_turn : (old between new : List ℕ) (met meanwhile after : Met) (bs rest : List ℕ) (p : Part) → p ≡ part_at bs → 0 < p.count → 0 < length bs → rest ≡ drop p.count bs → IsDecoded old met (p.element ∷ []) between meanwhile → IsDecoded between meanwhile (elements 0 rest) new after → IsDecoded old met (elements 0 bs) new after
decoded_turn old between new met meanwhile after bs rest p e some h r d q =
    let some' : 0 < (part_at bs).count = subst (λ x. 0 < x.count) e some in
    let r' : rest ≡ drop (part_at bs).count bs = r ∙ ap (λ x. drop x.count bs) e in
    decoded_part old between new met meanwhile after bs h some' (subst (λ x. IsDecoded old met (x.element ∷ []) between meanwhile) e d) (subst (λ x. IsDecoded between meanwhile (elements 0 x) new after) r' q)

-- the faults of all elements, in their order
pub string_is : (prefixed : Bool) (es : List Element) → (f : Option Code) → f ≡ fault_of (met_with (record { universal = prefixed; unreadable = false; large = false }) es) → string_of prefixed es ≡ by_fault f (bytes_of es)
string_is prefixed es f e = by (prefixed || list_any is_universal es) (list_any is_unreadable es) (list_any is_large es) (bytes_of es) ∙ sym (ap (λ x. by_fault x (bytes_of es)) e)
  where
    by : (u r l : Bool) (bs : List ℕ) → cond u (Err LeftOutLiteral) (cond r (Err BadLiteral) (cond l (Err ConstantOutOfRange) (Ok bs))) ≡ by_fault (fault_of (record { universal = u; unreadable = r; large = l })) bs
    by true r l bs = refl
    by false true l bs = refl
    by false false true bs = refl
    by false false false bs = refl

-- a literal without a fault, and one with a fault
pub string_read : (prefixed : Bool) (es : List Element) (met : Met) (old new : List ℕ) → IsDecoded old (record { universal = prefixed; unreadable = false; large = false }) es new met → None ≡ fault_of met → IsAppended (string_of prefixed es) old new
string_read prefixed es met old new d f =
    subst (λ x. IsAppended x old new) (sym (string_is prefixed es None (f ∙ ap fault_of d.met_is))) d.bytes_are

pub string_refused : (prefixed : Bool) (es : List Element) (met : Met) (old new : List ℕ) (code : Code) (pos : Pos) → IsDecoded old (record { universal = prefixed; unreadable = false; large = false }) es new met → Some code ≡ fault_of met → IsRefusal (At code pos) pos (string_of prefixed es)
string_refused prefixed es met old new code pos d f =
    subst (λ x. IsRefusal (At code pos) pos x) (sym (string_is prefixed es (Some code) (f ∙ ap fault_of d.met_is))) (inr refl)

-- out of memory is always allowed
pub memory_refused : {X : Type 0} (e : Refusal) (pos : Pos) (r : Result X Code) → e ≡ Memory → IsRefusal e pos r
memory_refused e pos (Ok x) h = h
memory_refused e pos (Err code) h = inl h
