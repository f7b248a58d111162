-- Sizes up to the greatest number of 32 bits.
use Rattle.std.proofs.Common.{◌≡◌, ℕ, zero, suc, ◌+◌, ◌*◌, ◌/◌, ◌-◌, ◌^◌, ◌<◌, ◌≤◌, inl, inr, Bool, true, false, nat_lt, subst, List, [], ◌∷◌, ◌++◌, length, take, get_or, min, refl, sym, ap, ◌∙◌, arith}
use Rattle.std.proofs.lemmas.Bool.{cases_lt}
use Rattle.std.proofs.lemmas.List.{take_more, length_push}
use Rattle.ctypes.specs.declared.types.IntType.{IntType}
use Rattle.ctypes.specs.declared.types.IntType.TheVariants as ty
use Rattle.ctypes.specs.Types.{bytes_of}
use Rattle.srcset.specs.declared.code.Code.TheVariants as code
use Rattle.srcset.specs.declared.refusal.Pos.{Pos}
use Rattle.srcset.specs.declared.refusal.Refusal.TheVariants.{At}
use Rattle.tree.specs.Capped.{capped, capped32}
use Rattle.tree.specs.Counts.{weight_of}
use Rattle.typing_spec.specs.Types.{ParameterType, number, elements, elements_in}
use Rattle.typing_spec.specs.Verdict.{fine, refuse_if}
use Rattle.typing_spec.specs.Scope.{Scope, literal_of}
use Rattle.typing_spec.specs.Units.{Built, in_words, bytes_of_references, static_bytes, within_limits}
use Rattle.typing_expressions.specs.Refused.{IsOf}
use Rattle.typing_expressions.proofs.Verdicts.{each_left, each_fine}
use Rattle.typing_units.specs.inside.Parts.{reference_bytes, literal_bytes}

-- ---- whole words

pub in_words_more : (b x : ℕ) → b + 3 < 2 ^ 32 → b ≡ capped32 x → (b + 3) / 4 * 4 ≡ capped32 (in_words x)
unfolding capped32
in_words_more b x h e = omega (arith, h, e)

pub in_words_none : (b x : ℕ) → 2 ^ 32 ≤ b + 3 → b ≡ capped32 x → 4294967295 ≡ capped32 (in_words x)
unfolding capped32
in_words_none b x h e = omega (arith, h, e)

-- ---- elements

elements_snoc : (xs : List ℕ) (y : ℕ) → elements_in (xs ++ y ∷ []) ≡ elements_in xs * y
elements_snoc [] y = omega arith
elements_snoc (x ∷ xs) y = ap (λ n. x * n) (elements_snoc xs y) ∙ grind arith

one_more_length : (xs : List ℕ) (i d : ℕ) → i < length xs → elements_in (take (i + 1) xs) ≡ elements_in (take i xs) * get_or xs i d
one_more_length xs i d lt = ap elements_in (take_more xs i d lt) ∙ elements_snoc (take i xs) (get_or xs i d)

above : (a y m : ℕ) → m < a → min (m * suc y) m ≡ min (a * suc y) m
above a y m lt =
    let here : m ≤ m * suc y = grind arith in
    let there : m ≤ a * suc y = grind arith in
    omega arith

least_product : (a y m : ℕ) → min (min a m * y) m ≡ min (a * y) m
least_product a zero m = omega arith
least_product a (suc y) m = elim (cases_lt m a) [
  | inl more ↦ (let e : min a m ≡ m = omega arith in ap (λ k. min (k * suc y) m) e ∙ above a y m more)
  | inr less ↦ (let e : min a m ≡ a = omega arith in ap (λ k. min (k * suc y) m) e)
]

pub capped32_times : (a b r x : ℕ) → r ≡ min (a * b) (2 ^ 32 - 1) → a ≡ capped32 x → r ≡ capped32 (x * b)
unfolding capped32
capped32_times a b r x e f = e ∙ ap (λ k. min (k * b) (2 ^ 32 - 1)) f ∙ least_product x b (2 ^ 32 - 1)

commuted : (x y : ℕ) → x * y ≡ y * x
commuted x y = grind arith

pub capped32_product : (a b r x y : ℕ) → r ≡ min (a * b) (2 ^ 32 - 1) → a ≡ capped32 x → b ≡ capped32 y → r ≡ capped32 (x * y)
unfolding capped32
capped32_product a b r x y e f g =
    e ∙ ap (λ k. min (k * b) (2 ^ 32 - 1)) f ∙ least_product x b (2 ^ 32 - 1)
    ∙ ap (λ k. min (x * k) (2 ^ 32 - 1)) g ∙ ap (λ k. min k (2 ^ 32 - 1)) (commuted x (min y (2 ^ 32 - 1)))
    ∙ least_product y x (2 ^ 32 - 1) ∙ ap (λ k. min k (2 ^ 32 - 1)) (commuted y x)

pub next_length : (xs : List ℕ) (i d c r : ℕ) → i < length xs → c ≡ capped32 (elements_in (take i xs)) → r ≡ min (c * get_or xs i d) (2 ^ 32 - 1) → r ≡ capped32 (elements_in (take (i + 1) xs))
next_length xs i d c r lt e f = capped32_times c (get_or xs i d) r (elements_in (take i xs)) f e ∙ ap capped32 (sym (one_more_length xs i d lt))

-- ---- references

pub references_step : (p : ParameterType) (ps : List ParameterType) → bytes_of_references (p ∷ ps) ≡ reference_bytes p + bytes_of_references ps
references_step (number t) ps = omega arith
references_step (elements t) ps = refl

-- ---- weights

pub weight_within : (n m b c w : ℕ) → m ≡ capped32 n → c ≡ capped32 b → w ≡ weight_of m c → min w (2 ^ 32) ≡ min (weight_of n b) (2 ^ 32)
unfolding capped32
weight_within n m b c w e f g = omega (arith, e, f, g)

pub capped32_four : 4 ≡ capped32 4
unfolding capped32
capped32_four = refl

pub narrowed_small : (n x : ℕ) → n < 4294967295 → n ≡ capped x → n ≡ capped32 x
unfolding capped capped32
narrowed_small n x h e = omega (arith, h, e)

pub narrowed_large : (n x : ℕ) → 4294967295 ≤ n → n ≡ capped x → 4294967295 ≡ capped32 x
unfolding capped capped32
narrowed_large n x h e = omega (arith, h, e)

pub capped_small : (n : ℕ) → n < 2 ^ 64 → n ≡ capped n
unfolding capped
capped_small n h = omega (arith, h)

pub capped32_small : (n : ℕ) → n < 2 ^ 32 → n ≡ capped32 n
unfolding capped32
capped32_small n h = omega (arith, h)

-- ---- objects and literals

pub few_bytes : (t : IntType) → bytes_of t < 2 ^ 32
few_bytes ty.Bool = omega arith
few_bytes ty.Char = omega arith
few_bytes ty.SChar = omega arith
few_bytes ty.UChar = omega arith
few_bytes ty.Short = omega arith
few_bytes ty.UShort = omega arith
few_bytes ty.Int = omega arith
few_bytes ty.UInt = omega arith
few_bytes ty.Long = omega arith
few_bytes ty.ULong = omega arith

pub literal_is : (s : Scope) (n count : ℕ) → count ≡ length (literal_of s n) → in_words (count + 1) ≡ literal_bytes s n
literal_is s n count e = ap (λ k. in_words (k + 1)) e ∙ ap in_words (sym (length_push (literal_of s n) 0))

-- ---- limits

same_limit : (c x : ℕ) → c ≡ capped32 x → nat_lt 16777216 c ≡ nat_lt 16777216 x
unfolding capped32
same_limit c x e = grind (arith, e)

pub statics_refused : (whole : Pos) (b : Built) (c : ℕ) → c ≡ capped32 (static_bytes b.scope) → 16777216 < c → IsOf (At code.StaticSizeLimit whole) (within_limits whole b)
statics_refused whole b c e h =
    let t : nat_lt 16777216 (static_bytes b.scope) ≡ true = sym (same_limit c (static_bytes b.scope) e) ∙ grind (arith, h) in
    each_left (At code.StaticSizeLimit whole) (refuse_if (nat_lt 16777216 (static_bytes b.scope)) code.StaticSizeLimit whole) (refuse_if (nat_lt 16384 (length b.functions)) code.FunctionLimit whole)
    (subst (λ k. IsOf (At code.StaticSizeLimit whole) (refuse_if k code.StaticSizeLimit whole)) (sym t) (refl, refl))

pub all_within : (whole : Pos) (b : Built) (c n : ℕ) → c ≡ capped32 (static_bytes b.scope) → c ≤ 16777216 → n ≡ length b.functions → n ≤ 16384 → within_limits whole b ≡ fine tt
all_within whole b c n e h f g =
    let t : nat_lt 16777216 (static_bytes b.scope) ≡ false = sym (same_limit c (static_bytes b.scope) e) ∙ grind (arith, h) in
    let u : nat_lt 16384 (length b.functions) ≡ false = grind (arith, f, g) in
    each_fine (refuse_if (nat_lt 16777216 (static_bytes b.scope)) code.StaticSizeLimit whole) (refuse_if (nat_lt 16384 (length b.functions)) code.FunctionLimit whole)
    (ap (λ k. refuse_if k code.StaticSizeLimit whole) t) (ap (λ k. refuse_if k code.FunctionLimit whole) u)

-- ---- weights within the stack

not_greater : (stack x : ℕ) (v : Bool) (at : Pos) → v ≡ nat_lt stack x → refuse_if v code.WeightLimit at ≡ fine tt → x ≤ stack
not_greater stack x true at e h = absurd (cc)
not_greater stack x false at e h = grind (arith, e)

pub light : (stack x : ℕ) (at : Pos) → refuse_if (nat_lt stack x) code.WeightLimit at ≡ fine tt → x ≤ stack
light stack x at h = not_greater stack x (nat_lt stack x) at refl h

pub weight_exact : (stack w x : ℕ) → stack < 2 ^ 32 → w ≡ min x (2 ^ 32) → x ≤ stack → w ≡ x
weight_exact stack w x lt e h = omega (arith, lt, e, h)

pub nodes_exact : (stack m n b : ℕ) → stack < 2 ^ 32 → m ≡ capped n → weight_of n b ≤ stack → m ≡ n
unfolding capped
nodes_exact stack m n b lt e h = omega (arith, lt, e, h)
