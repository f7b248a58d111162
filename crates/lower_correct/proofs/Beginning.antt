-- The start of a run: the string literals and the objects with static storage (ISO/IEC 9899:2011 5.1.2, 6.4.5p6, 6.7.9p10).
use Rattle.std.proofs.Common.{◌≡◌, ℕ, zero, suc, ◌+◌, ◌<◌, ◌^◌, List, [], ◌∷◌, ◌++◌, length, drop, map, Some, true, ◌&&◌, ℤ, pos, refl, sym, ap, ◌∙◌, subst, arith}
use Rattle.std.specs.Prelude.{nat_le, slice_get}
use Rattle.std.proofs.lemmas.Int.{ints}
use Rattle.ctypes.specs.declared.types.IntType.{IntType}
use Rattle.ctypes.specs.declared.types.IntType.TheVariants as ty
use Rattle.ctypes.specs.Types.{IsValueOf, is_value_of}
use Rattle.typing_spec.specs.Types.{ObjectType, elements_in}
use Rattle.typing_spec.specs.Program as typed
use Rattle.typing_spec.specs.Program.{Static}
use Rattle.typing_spec.specs.WellTyped.{values_fit, statics_are_typed}
use Rattle.csem.specs.Store.{Tree, first_or_zero, row_of, laid_out, static_object, characters_of, literal_object}
use Rattle.csem.specs.Meaning.{start}
use Rattle.tac_code.specs.Code.{Program}
use Rattle.tac_code.specs.Sound.{AreBytes}
use Rattle.lower_correct.proofs.Words.{is_value, left_true, right_true}
use Rattle.lower_correct.proofs.Shapes.{HasShape, RowHas}
use Rattle.lower_correct.proofs.Stores.{length_mapped, World, ObjectFits}
use Rattle.lower_correct.proofs.Standing.{literal_type, types_below, first_automatic}
use Rattle.lower_correct.proofs.Expressions.{zero_fits}
use Rattle.lower_correct.proofs.Entering.{Lives, length_joined}

char_fits : (c : ℕ) → c < 2 ^ 8 → IsValueOf ty.Char (pos c)
char_fits c h = (omega (arith, ints), omega (arith, ints, h))

characters_have : (text : List ℕ) → AreBytes text → RowHas ty.Char (length text) [] (characters_of text)
characters_have [] h = tt
characters_have (c ∷ text) h = (char_fits c (h 0 c refl), characters_have text (λ k d e. h (suc k) d e))

dropped_fit : (t : IntType) (n : ℕ) (vs : List ℤ) → values_fit t vs ≡ true → values_fit t (drop n vs) ≡ true
dropped_fit t zero vs h = h
dropped_fit t (suc n) [] h = refl
dropped_fit t (suc n) (v ∷ vs) h = dropped_fit t n vs (right_true (is_value_of t v) (values_fit t vs) h)

first_fits : (t : IntType) (vs : List ℤ) → values_fit t vs ≡ true → IsValueOf t (first_or_zero vs)
first_fits t [] h = zero_fits (Some t)
first_fits t (v ∷ vs) h = is_value t v (left_true (is_value_of t v) (values_fit t vs) h)

row_has : (t : IntType) (n : ℕ) (l : List ℕ) (size : ℕ) (part : List ℤ → Tree) (vs : List ℤ)
    → ((ws : List ℤ) → values_fit t ws ≡ true → HasShape t l (part ws)) → values_fit t vs ≡ true → RowHas t n l (row_of n size part vs)
row_has t zero l size part vs each h = tt
row_has t (suc n) l size part vs each h = (each vs h, row_has t n l size part (drop size vs) each (dropped_fit t size vs h))

laid_has : (t : IntType) (l : List ℕ) (vs : List ℤ) → values_fit t vs ≡ true → HasShape t l (laid_out l vs)
laid_has t [] vs h = first_fits t vs h
laid_has t (n ∷ l) vs h = row_has t n l (elements_in l) (laid_out l) vs (λ ws g. laid_has t l ws g) h

statics_fit : (statics : List Static) → statics_are_typed statics ≡ true → (n : ℕ) (o : ObjectType) → slice_get (map (λ x. x.type) statics) n ≡ Some o
    → ObjectFits o (slice_get (map static_object statics) n)
statics_fit [] h n o e = absurd (let z : ⊥ = cc in z)
statics_fit (x ∷ statics) h zero o e =
    let same : x.type ≡ o = cc in
    let fit = left_true (values_fit x.type.element x.values) (statics_are_typed statics)
    (right_true (nat_le (length x.values) (elements_in x.type.lengths)) (values_fit x.type.element x.values && statics_are_typed statics) h) in
    subst (λ y. ObjectFits y (Some (static_object x))) same (laid_has x.type.element x.type.lengths x.values fit)
statics_fit (x ∷ statics) h (suc n) o e =
    statics_fit statics (right_true (values_fit x.type.element x.values) (statics_are_typed statics)
    (right_true (nat_le (length x.values) (elements_in x.type.lengths)) (values_fit x.type.element x.values && statics_are_typed statics) h)) n o e

globals_fit : (literals : List (List ℕ)) (statics : List Static) → ((n : ℕ) (text : List ℕ) → slice_get literals n ≡ Some text → AreBytes text)
    → statics_are_typed statics ≡ true → (n : ℕ) (o : ObjectType) → slice_get (map literal_type literals ++ map (λ x. x.type) statics) n ≡ Some o
    → ObjectFits o (slice_get (map literal_object literals ++ map static_object statics) n)
globals_fit [] statics h g n o e = statics_fit statics g n o e
globals_fit (text ∷ literals) statics h g zero o e =
    let same : literal_type text ≡ o = cc in
    subst (λ y. ObjectFits y (Some (literal_object text))) same (characters_have text (h 0 text refl))
globals_fit (text ∷ literals) statics h g (suc n) o e = globals_fit literals statics (λ k t d. h (suc k) t d) g n o e

texts_there : (literals : List (List ℕ)) (n : ℕ) (text : List ℕ) (more : List Tree) → slice_get literals n ≡ Some text
    → slice_get (map literal_object literals ++ more) n ≡ Some (literal_object text)
texts_there [] n text more e = absurd (let z : ⊥ = cc in z)
texts_there (x ∷ literals) zero text more e = let same : x ≡ text = cc in ap (λ y. Some (literal_object y)) same
texts_there (x ∷ literals) (suc n) text more e = texts_there literals n text more e

-- before the first call
abbrev pub first_world : Program → World
first_world q = record { texts = q.literals; first = first_automatic q; outer = []; own = types_below q []; rows = [] }

pub lives_first : (p : typed.Program) (q : Program) (n : ℕ) (input : List ℕ) → q.literals ≡ p.literals → q.statics ≡ p.statics
    → ((k : ℕ) (text : List ℕ) → slice_get p.literals k ≡ Some text → AreBytes text) → statics_are_typed p.statics ≡ true → AreBytes input
    → Lives (first_world q) (start n p input)
lives_first p q n input el es texts statics bytes = record {
  few = omega arith;
  low = let e = counted in omega (arith, e);
  size = stored ∙ (ap (λ l. length l + length p.statics) (sym el) ∙ (ap (λ l. length q.literals + length l) (sym es) ∙ sym counted));
  fits = λ k o e. globals_fit p.literals p.statics texts statics k o
      (ap (λ l. slice_get (map literal_type l ++ map (λ x. x.type) p.statics) k) (sym el)
      ∙ (ap (λ l. slice_get (map literal_type q.literals ++ map (λ x. x.type) l) k) (sym es) ∙ e));
  literals = λ k text e. texts_there p.literals k text (map static_object p.statics) (ap (λ l. slice_get l k) (sym el) ∙ e);
  input = bytes;
}
  where
    counted : length (map literal_type q.literals ++ map (λ x. x.type) q.statics) ≡ length q.literals + length q.statics
    counted =
        let a = length_joined (map literal_type q.literals) (map (λ x. x.type) q.statics) in
        let b = length_mapped literal_type q.literals in
        let c = length_mapped (λ x. x.type) q.statics in
        omega (arith, a, b, c)

    stored : length (map literal_object p.literals ++ map static_object p.statics) ≡ length p.literals + length p.statics
    stored =
        let a = length_joined (map literal_object p.literals) (map static_object p.statics) in
        let b = length_mapped literal_object p.literals in
        let c = length_mapped static_object p.statics in
        omega (arith, a, b, c)
