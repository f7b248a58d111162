-- An object with static storage that has a value for each element has these values alone (6.7.9p10, p21).
use Rattle.std.proofs.Common.{◌≡◌, ◌≤◌, ◌+◌, ◌*◌, ℕ, zero, suc, ℤ, List, [], ◌∷◌, length, refl, sym, ap, ◌∙◌, subst, mul_assoc, arith}
use Rattle.std.specs.Prelude.{drop, true}
use Rattle.std.proofs.Math.Nat.{suc-mul}
use Rattle.typing_spec.specs.Types.{elements_in}
use Rattle.typed_ast.specs.declared.units.Static as held
use Rattle.typed_ast.specs.View.{static_of}
use Rattle.csem.specs.Store.{Tree, parts, first_or_zero, row_of, laid_out, static_object}
use Rattle.verify_logic.specs.declared.abstract_values.Interval.{Interval}
use Rattle.verify_logic.specs.declared.abstract_values.AbsValue.{AbsValue}
use Rattle.verify_logic.specs.States.{In, EachPart, TreeIs}
use Rattle.verify_logic.specs.Calls.{EachIn}

first_of : (i : Interval) (vs : List ℤ) → 1 ≤ length vs → EachIn i vs → In i (first_or_zero vs)
first_of i [] le h = absurd (omega (arith, le))
first_of i (v ∷ vs) le h = h.0

dropped_in : (i : Interval) (n : ℕ) (vs : List ℤ) → EachIn i vs → EachIn i (drop n vs)
dropped_in i zero vs h = h
dropped_in i (suc n) [] h = tt
dropped_in i (suc n) (v ∷ vs) h = dropped_in i n vs h.1

left_behind : (n k : ℕ) (vs : List ℤ) → n + k ≤ length vs → k ≤ length (drop n vs)
left_behind zero k vs h = omega (arith, h)
left_behind (suc n) k [] h = absurd (omega (arith, h))
left_behind (suc n) k (v ∷ vs) h = left_behind n k vs (omega (arith, h))

parts_of_row : (n size : ℕ) (part : List ℤ → Tree) (vs : List ℤ) → parts (row_of n size part vs) ≡ n
parts_of_row zero size part vs = refl
parts_of_row (suc n) size part vs = ap suc (parts_of_row n size part (drop size vs))

row_is : (k : AbsValue) (lengths : List ℕ) (n size : ℕ) (part : List ℤ → Tree) → ((ws : List ℤ) → size ≤ length ws → EachIn k.interval ws → TreeIs k lengths (part ws)) → (vs : List ℤ) → n * size ≤ length vs → EachIn k.interval vs
    → EachPart (TreeIs k lengths) (row_of n size part vs)
row_is k lengths zero size part f vs le h = tt
row_is k lengths (suc n) size part f vs le h =
    let whole : suc n * size ≡ n * size + size = suc-mul n size in
    let first : size ≤ length vs = omega (arith, le, whole) in
    let order : size + n * size ≤ length vs = omega (arith, le, whole) in
    (f vs first h, row_is k lengths n size part f (drop size vs) (left_behind size (n * size) vs order) (dropped_in k.interval size vs h))

laid_out_whole : (k : AbsValue) (lengths : List ℕ) (vs : List ℤ) → elements_in lengths ≤ length vs → EachIn k.interval vs → TreeIs k lengths (laid_out lengths vs)
laid_out_whole k [] vs le h = first_of k.interval vs le h
laid_out_whole k (n ∷ lengths) vs le h = (parts_of_row n (elements_in lengths) (laid_out lengths) vs, row_is k lengths n (elements_in lengths) (laid_out lengths) (laid_out_whole k lengths) vs le h)

pub known_whole : (k : AbsValue) (i : Interval) (o : held.Static) (values : List ℤ) → values ≡ o.values.items → k ≡ record { initialised = true; interval = i } → elements_in (static_of o).type.lengths ≤ length o.values.items → EachIn i values
    → TreeIs k (static_of o).type.lengths (static_object (static_of o))
known_whole k i o values ev ek le h =
    let P : AbsValue → Type 0 = λ k. TreeIs k (static_of o).type.lengths (static_object (static_of o)) in
    let Q : List ℤ → Type 0 = EachIn i in
    subst P (sym ek) (laid_out_whole (record { initialised = true; interval = i }) (static_of o).type.lengths (static_of o).values le (subst Q ev h))

-- one more length is counted
pub counted : (rows n product : ℕ) (rest more lengths : List ℕ) → rest ≡ n ∷ more → product ≡ rows * n → rows * elements_in rest ≡ elements_in lengths → product * elements_in more ≡ elements_in lengths
counted rows n product rest more lengths er ep h =
    ap (λ k. k * elements_in more) ep ∙ (mul_assoc rows n (elements_in more) ∙ (ap (λ xs. rows * elements_in xs) (sym er) ∙ h))
