-- Objects within the limit, whose lengths fit in 32 bits.
use Rattle.std.proofs.Common.{◌≡◌, ℕ, zero, suc, ◌*◌, ◌<◌, ◌≤◌, true, false, nat_lt, List, [], ◌∷◌, refl, sym, ap, ◌∙◌, subst, arith, length, get_or}
use Rattle.std.specs.List.{All}
use Rattle.std.proofs.lemmas.Nat.{mul-le}
use Rattle.std.proofs.lemmas.List.Elements.{All-from_get_or}
use Rattle.srcset.specs.declared.code.Code.TheVariants as code
use Rattle.srcset.specs.declared.refusal.Pos.{Pos}
use Rattle.srcset.specs.declared.refusal.Refusal.{Refusal}
use Rattle.ctypes.specs.declared.types.IntType.{IntType}
use Rattle.ctypes.specs.declared.types.IntType.TheVariants as ty
use Rattle.ctypes.specs.Types.{bytes_of}
use Rattle.tree.specs.Capped.{capped}
use Rattle.typing_spec.specs.Types.{ObjectType, elements_in, size_of_object}
use Rattle.typing_spec.specs.Verdict.{fine, refuse_if}
use Rattle.typing_spec.specs.Expressions.{too_large}
use Rattle.typing_expressions.specs.Refused.{Tells, refused}
use Rattle.const_expr.proofs.Sizes.{limit_of_capped}
use Rattle.decls_declarators.specs.Views.{Positive}

is_over : (c x : ℕ) → c ≡ capped x → 1048576 < c → nat_lt 1048576 x ≡ true
is_over c x e h = sym (limit_of_capped c x e) ∙ grind (arith, h)

is_within : (c x : ℕ) → c ≡ capped x → c ≤ 1048576 → nat_lt 1048576 x ≡ false
is_within c x e h = sym (limit_of_capped c x e) ∙ grind (arith, h)

pub over_limit : (at : Pos) (t : ObjectType) (c : ℕ) (r : Refusal) → c ≡ capped (size_of_object t) → 1048576 < c → r ≡ refused code.ObjectSizeLimit at → Tells r (too_large at t)
over_limit at t c r e h is =
    subst (λ k. Tells k (too_large at t)) (sym is) (subst (λ b. Tells (refused code.ObjectSizeLimit at) (refuse_if b code.ObjectSizeLimit at)) (sym (is_over c (size_of_object t) e h)) (refl, refl))

pub within_limit : (at : Pos) (t : ObjectType) (c : ℕ) → c ≡ capped (size_of_object t) → c ≤ 1048576 → too_large at t ≡ fine tt
within_limit at t c e h = ap (λ b. refuse_if b code.ObjectSizeLimit at) (is_within c (size_of_object t) e h)

-- ---- a length is at most the bytes

at_most : (n x : ℕ) → nat_lt n x ≡ false → x ≤ n
at_most n x e = grind (arith, e)

some_bytes : (t : IntType) → 0 < bytes_of t
some_bytes ty.Bool = omega arith
some_bytes ty.Char = omega arith
some_bytes ty.SChar = omega arith
some_bytes ty.UChar = omega arith
some_bytes ty.Short = omega arith
some_bytes ty.UShort = omega arith
some_bytes ty.Int = omega arith
some_bytes ty.UInt = omega arith
some_bytes ty.Long = omega arith
some_bytes ty.ULong = omega arith

some_elements : (ns : List ℕ) → Positive ns → 0 < elements_in ns
some_elements [] h = omega arith
some_elements (n ∷ ns) h = let p = mul-le 1 1 n (elements_in ns) (omega (arith, h.0)) (let q = some_elements ns h.1 in omega (arith, q)) in omega (arith, p)

factor_left : (a b m : ℕ) → 0 < b → a * b ≤ m → a ≤ m
factor_left a b m h le = let p = mul-le a 1 a b (omega arith) (omega (arith, h)) in omega (arith, p, le)

factor_right : (a b m : ℕ) → 0 < a → a * b ≤ m → b ≤ m
factor_right a b m h le = let p = mul-le 1 b a b (omega (arith, h)) (omega arith) in omega (arith, p, le)

each_within : (m : ℕ) (ns : List ℕ) → Positive ns → elements_in ns ≤ m → (i : ℕ) → i < length ns → get_or ns i 0 ≤ m
each_within m [] h le i lt = absurd (omega (arith, lt))
each_within m (n ∷ ns) h le zero lt = factor_left n (elements_in ns) m (some_elements ns h.1) le
each_within m (n ∷ ns) h le (suc i) lt = each_within m ns h.1 (factor_right n (elements_in ns) m h.0 le) i (omega (arith, lt))

pub lengths_within : (t : ObjectType) (c : ℕ) → Positive t.lengths → c ≡ capped (size_of_object t) → c ≤ 1048576 → All (λ n. n ≤ 1048576) t.lengths
lengths_within t c h e le =
    let whole = at_most 1048576 (size_of_object t) (is_within c (size_of_object t) e le) in
    All-from_get_or (λ n. n ≤ 1048576) t.lengths 0 (each_within 1048576 t.lengths h (factor_right (bytes_of t.element) (elements_in t.lengths) 1048576 (some_bytes t.element) whole))
