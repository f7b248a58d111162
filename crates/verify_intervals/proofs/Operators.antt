-- The results of operators on intervals.
use Rattle.std.proofs.Common.{◌≡◌, ◌*◌, ◌/◌, ◌%◌, ◌^◌, ◌≤◌, ℕ, zero, suc, ℤ, pos, negsuc, ◌+ℤ◌, ◌-ℤ◌, ◌*ℤ◌, ◌≤ℤ◌, ◌<ℤ◌, refl, ap, subst, sym, ◌∙◌, arith, int_div, int_rem, bit_and}
use Rattle.std.proofs.lemmas.Int.{ints}
use Rattle.std.proofs.Math.Nat.{div-le_self}
use Rattle.std.proofs.lemmas.Nat.{mul-le, and_le_l, and_le_r}
use Rattle.std.specs.Prelude.{Bool, true, false, not, ◌&&◌, int_lt, Ok, Err, if◌then◌else◌}
use Rattle.ctypes.specs.declared.types.IntType.{IntType}
use Rattle.ctypes.specs.declared.types.IntType.TheVariants as ty
use Rattle.ctypes.specs.declared.operators.BinOp.TheVariants.{Mul, Div, Rem, Add, Sub, Shl, Shr, BitAnd}
use Rattle.ctypes.specs.declared.operators.Undef.{Undef}
use Rattle.ctypes.specs.declared.operators.Undef.TheVariants.{U1, U2, U3, U4}
use Rattle.ctypes.specs.Types.{signed, bits_of, least, greatest, is_value_of, IsValueOf, truth, converted, modulo}
use Rattle.ctypes.specs.Arithmetic.{in_range, is_count, magnitude, quotient_down}
use Rattle.ctypes.proofs.Uses.{converted_fits, converted_keeps}
use Rattle.tree.specs.declared.expression.PrefixOp.{PrefixOp}
use Rattle.tree.specs.declared.expression.PrefixOp.TheVariants as prefix
use Rattle.std.specs.Prelude.{Option, Some, None, IfSome}
use Rattle.verify_logic.specs.States.{just}
use Rattle.verify_logic.specs.declared.abstract_values.Interval.{Interval}
use Rattle.verify_logic.specs.States.{In, Below, range_of}
use Rattle.verify_logic.specs.Judgements.{GivesIn, Computes, Converts, Ranges, Signs}
use Rattle.verify_logic.proofs.Objects.{below}
use Rattle.verify_intervals.proofs.Numbers.{magnitude_in, quotient_in, one_quotient, quotient_turned, remainder_turned, remainder_in, remainder_of, shifted_in, pow_mono}

pub converts_within : (t : IntType) (i : Interval) → Below i (range_of t) → Converts t i i
converts_within t i b = record { gives = λ v m. let P : ℤ → Type 0 = In i in subst P (sym (converted_keeps t v (below i (range_of t) v b m))) m }

pub converts_all : (t : IntType) (i : Interval) → Converts t i (range_of t)
converts_all t i = record { gives = λ v m. converted_fits t v }

fits_test : (t : IntType) (v : ℤ) → IsValueOf t v → is_value_of t v ≡ true
fits_test t v h = grind (arith, ints, h.0, h.1)

pub range_within : (t : IntType) (i : Interval) → Below i (range_of t) → Ranges t i i
range_within t i b = record { gives = λ act v m. at act v m }
  where
    at : (act : Undef) (v : ℤ) → In i v → GivesIn i (in_range act t v v)
    at act v m = in_it (signed t) (is_value_of t v) (fits_test t v (below i (range_of t) v b m))
      where
        in_it : (sg fit : Bool) → fit ≡ true → GivesIn i (if sg && not fit then Err act else Ok (converted t v))
        in_it true true e = (converts_within t i b).gives v m
        in_it false true e = (converts_within t i b).gives v m
        in_it sg false e = absurd (cc e)

pub range_modulo : (t : IntType) (i : Interval) → signed t ≡ false → Ranges t i (range_of t)
range_modulo t i e = record { gives = λ act v m. at act v }
  where
    at : (act : Undef) (v : ℤ) → GivesIn (range_of t) (in_range act t v v)
    at act v = in_it (signed t) (is_value_of t v) e
      where
        in_it : (sg fit : Bool) → sg ≡ false → GivesIn (range_of t) (if sg && not fit then Err act else Ok (converted t v))
        in_it false fit e = converted_fits t v
        in_it true fit e = absurd (cc e)

pub sum_rule : (t : IntType) (i j k r : Interval) → k.low ≡ i.low +ℤ j.low → k.high ≡ i.high +ℤ j.high → Ranges t k r → Computes Add t i j r
sum_rule t i j k r el eh h = record { gives = λ v w m n. h.gives _ (v +ℤ w) (omega (arith, ints, el, m.0, n.0), omega (arith, ints, eh, m.1, n.1)) }

pub difference_rule : (t : IntType) (i j k r : Interval) → k.low ≡ i.low -ℤ j.high → k.high ≡ i.high -ℤ j.low → Ranges t k r → Computes Sub t i j r
difference_rule t i j k r el eh h = record { gives = λ v w m n. h.gives _ (v -ℤ w) (omega (arith, ints, el, m.0, n.1), omega (arith, ints, eh, m.1, n.0)) }

product_in : (a b c d : ℤ) → pos 0 ≤ℤ a → pos 0 ≤ℤ b → a ≤ℤ c → b ≤ℤ d → (pos 0 ≤ℤ (a *ℤ b)) × ((a *ℤ b) ≤ℤ (c *ℤ d))
product_in (pos a) (pos b) (pos c) (pos d) h g k l =
    let e : a * b ≤ c * d = mul-le a b c d (omega (arith, ints, k)) (omega (arith, ints, l)) in (omega (arith, ints), omega (arith, ints, e))
product_in (negsuc a) b c d h g k l = absurd (omega (arith, ints, h))
product_in a (negsuc b) c d h g k l = absurd (omega (arith, ints, g))
product_in a b (negsuc c) d h g k l = absurd (omega (arith, ints, h, k))
product_in a b c (negsuc d) h g k l = absurd (omega (arith, ints, g, l))

pub product_rule : (t : IntType) (i j k r : Interval) → pos 0 ≤ℤ i.low → pos 0 ≤ℤ j.low → k.low ≡ pos 0 → k.high ≡ i.high *ℤ j.high → Ranges t k r → Computes Mul t i j r
product_rule t i j k r hi hj el eh h = record {
  gives = λ v w m n.
      let q = product_in v w i.high j.high (omega (arith, ints, hi, m.0)) (omega (arith, ints, hj, n.0)) m.1 n.1 in
      h.gives _ (v *ℤ w) (omega (arith, ints, el, q.0), omega (arith, ints, eh, q.1));
}

pub sum_some : (t : IntType) (i j k : Interval) (r : Option Interval) → k.low ≡ i.low +ℤ j.low → k.high ≡ i.high +ℤ j.high → IfSome r (λ r. Ranges t k r) → IfSome r (λ r. Computes Add t i j r)
sum_some t i j k None el eh h = tt
sum_some t i j k (Some r) el eh h = sum_rule t i j k r el eh h

pub difference_some : (t : IntType) (i j k : Interval) (r : Option Interval) → k.low ≡ i.low -ℤ j.high → k.high ≡ i.high -ℤ j.low → IfSome r (λ r. Ranges t k r) → IfSome r (λ r. Computes Sub t i j r)
difference_some t i j k None el eh h = tt
difference_some t i j k (Some r) el eh h = difference_rule t i j k r el eh h

pub product_some : (t : IntType) (i j k : Interval) (r : Option Interval) → pos 0 ≤ℤ i.low → pos 0 ≤ℤ j.low → k.low ≡ pos 0 → k.high ≡ i.high *ℤ j.high → IfSome r (λ r. Ranges t k r) →
    IfSome r (λ r. Computes Mul t i j r)
product_some t i j k None hi hj el eh h = tt
product_some t i j k (Some r) hi hj el eh h = product_rule t i j k r hi hj el eh h

minus_rule : (t : IntType) (i a r : Interval) → Converts t i a → Computes Sub t (just (pos 0)) a r → Signs prefix.Minus t i r
minus_rule t i a r c h = record { gives = λ v m. h.gives (pos 0) (converted t v) (omega (arith, ints), omega (arith, ints)) (c.gives v m) }

pub minus_some : (op : PrefixOp) (t : IntType) (i a : Interval) (r : Option Interval) → op ≡ prefix.Minus → Converts t i a → IfSome r (λ r. Computes Sub t (just (pos 0)) a r) → IfSome r (λ r. Signs op t i r)
minus_some op t i a None e c h = tt
minus_some op t i a (Some r) e c h = let P : PrefixOp → Type 0 = λ op. Signs op t i r in subst P (sym e) (minus_rule t i a r c h)

-- ---- products of any sign

signed_product_rule : (t : IntType) (i j k r : Interval) (a b : ℤ) → Below i (record { low = pos 0 -ℤ a; high = a }) → Below j (record { low = pos 0 -ℤ b; high = b }) → k.low ≡ pos 0 -ℤ (a *ℤ b) → k.high ≡ a *ℤ b → Ranges t k r →
    Computes Mul t i j r
signed_product_rule t i j k r a b hi hj el eh h = record {
  gives = λ v w m n.
      let q = magnitude_in v w a b (omega (arith, ints, hi.0, m.0)) (omega (arith, ints, hi.1, m.1)) (omega (arith, ints, hj.0, n.0)) (omega (arith, ints, hj.1, n.1)) in
      h.gives _ (v *ℤ w) (omega (arith, ints, el, q.0), omega (arith, ints, eh, q.1));
}

pub signed_product_some : (t : IntType) (i j k : Interval) (a b : ℤ) (r : Option Interval) → Below i (record { low = pos 0 -ℤ a; high = a }) → Below j (record { low = pos 0 -ℤ b; high = b }) → k.low ≡ pos 0 -ℤ (a *ℤ b) → k.high ≡ a *ℤ b →
    IfSome r (λ r. Ranges t k r) → IfSome r (λ r. Computes Mul t i j r)
signed_product_some t i j k a b None hi hj el eh h = tt
signed_product_some t i j k a b (Some r) hi hj el eh h = signed_product_rule t i j k r a b hi hj el eh h

pub modulo_product_rule : (t : IntType) (i j r : Interval) → signed t ≡ false → r ≡ range_of t → Computes Mul t i j r
modulo_product_rule t i j r e er = let P : Interval → Type 0 = λ r. Computes Mul t i j r in subst P (sym er) (record { gives = λ v w m n. (range_modulo t (just (v *ℤ w)) e).gives _ (v *ℤ w) (omega (arith, ints), omega (arith, ints)) })

-- ---- quotients and remainders

above_zero : (b : ℤ) → pos 0 <ℤ b → truth b ≡ true
above_zero (pos zero) h = absurd (omega (arith, ints, h))
above_zero (pos (suc n)) h = refl
above_zero (negsuc n) h = absurd (omega (arith, ints, h))

quotient_rule : (t : IntType) (i j whole k r : Interval) → pos 0 <ℤ j.low → Below i whole → whole.low ≤ℤ pos 0 → pos 0 ≤ℤ whole.high → k.low ≡ int_div whole.low j.low → k.high ≡ int_div whole.high j.low → Ranges t k r → Computes Div t i j r
quotient_rule t i j whole k r z b lz hz el eh h = record {
  gives = λ v w m n.
      let q = quotient_in v w whole.low whole.high j.low z n.0 (omega (arith, ints, b.0, m.0)) (omega (arith, ints, b.1, m.1)) lz hz in
      let P : Bool → Type 0 = λ t1. GivesIn r (if t1 then in_range U1 t (int_div v w) (int_div v w) else Err U2) in
      subst P (sym (above_zero w (omega (arith, ints, z, n.0)))) (h.gives U1 (int_div v w) (omega (arith, ints, el, q.0), omega (arith, ints, eh, q.1)));
}

pub quotient_some : (t : IntType) (i j whole k : Interval) (r : Option Interval) → pos 0 <ℤ j.low → Below i whole → whole.low ≤ℤ pos 0 → pos 0 ≤ℤ whole.high → k.low ≡ int_div whole.low j.low → k.high ≡ int_div whole.high j.low →
    IfSome r (λ r. Ranges t k r) → IfSome r (λ r. Computes Div t i j r)
quotient_some t i j whole k None z b lz hz el eh h = tt
quotient_some t i j whole k (Some r) z b lz hz el eh h = quotient_rule t i j whole k r z b lz hz el eh h

-- a quotient that is in range, and the remainder with it
remainder_gives : (act : Undef) (t : IntType) (q v : ℤ) (r : Interval) → IsValueOf t q → IsValueOf t v → In r v → GivesIn r (in_range act t q v)
remainder_gives act t q v r hq hv m = in_it (signed t) (is_value_of t q) (fits_test t q hq)
  where
    in_it : (sg fit : Bool) → fit ≡ true → GivesIn r (if sg && not fit then Err act else Ok (converted t v))
    in_it true true e = let P : ℤ → Type 0 = In r in subst P (sym (converted_keeps t v hv)) m
    in_it false true e = let P : ℤ → Type 0 = In r in subst P (sym (converted_keeps t v hv)) m
    in_it sg false e = absurd (cc e)

remainder_rule : (t : IntType) (i j whole r : Interval) → pos 0 <ℤ j.low → Below i whole → whole.low ≤ℤ pos 0 → pos 0 ≤ℤ whole.high → Below whole (range_of t) → ((v : ℤ) → In whole v → (pos 0 -ℤ j.high) <ℤ v → v <ℤ j.high → In r v) →
    Computes Rem t i j r
remainder_rule t i j whole r z b lz hz f h = record {
  gives = λ v w m n.
      let lo : whole.low ≤ℤ v = omega (arith, ints, b.0, m.0) in
      let hi : v ≤ℤ whole.high = omega (arith, ints, b.1, m.1) in
      let p : pos 0 <ℤ w = omega (arith, ints, z, n.0) in
      let o = one_quotient whole.low whole.high v w p lo hi lz hz in
      let rem = remainder_of v w whole.low whole.high p lo hi lz hz in
      let cut = remainder_in v w j.high p n.1 in
      let P : Bool → Type 0 = λ t1. GivesIn r (if t1 then in_range U1 t (int_div v w) (int_rem v w) else Err U2) in
      subst P (sym (above_zero w p)) (remainder_gives U1 t (int_div v w) (int_rem v w) r (omega (arith, ints, f.0, o.0), omega (arith, ints, f.1, o.1)) (omega (arith, ints, f.0, rem.0), omega (arith, ints, f.1, rem.1)) (h (int_rem v w) rem cut.0 cut.1));
}

pub remainder_some : (t : IntType) (i j whole : Interval) (r : Option Interval) → pos 0 <ℤ j.low → Below i whole → whole.low ≤ℤ pos 0 → pos 0 ≤ℤ whole.high → Below whole (range_of t) →
    IfSome r (λ r. (v : ℤ) → In whole v → (pos 0 -ℤ j.high) <ℤ v → v <ℤ j.high → In r v) → IfSome r (λ r. Computes Rem t i j r)
remainder_some t i j whole None z b lz hz f h = tt
remainder_some t i j whole (Some r) z b lz hz f h = remainder_rule t i j whole r z b lz hz f h

-- by numbers below zero

quotient_below_rule : (t : IntType) (i j whole k turned r : Interval) (d : ℤ) → j.high <ℤ pos 0 → d ≡ pos 0 -ℤ j.high → Below i whole → whole.low ≤ℤ pos 0 → pos 0 ≤ℤ whole.high → k.low ≡ int_div whole.low d → k.high ≡ int_div whole.high d →
    turned.low ≡ pos 0 -ℤ k.high → turned.high ≡ pos 0 -ℤ k.low → Ranges t turned r → Computes Div t i j r
quotient_below_rule t i j whole k turned r d z ed b lz hz el eh tl th h = record { gives = λ v w m n. by v w m n }
  where
    by : (v w : ℤ) → In i v → In j w → GivesIn r (if truth w then in_range U1 t (int_div v w) (int_div v w) else Err U2)
    by v (pos w) m n = absurd (omega (arith, ints, z, n.1))
    by v (negsuc w) m n =
        let q = quotient_in v (pos (suc w)) whole.low whole.high d (omega (arith, ints, z, ed)) (omega (arith, ints, ed, n.1)) (omega (arith, ints, b.0, m.0)) (omega (arith, ints, b.1, m.1)) lz hz in
        let e : int_div v (negsuc w) ≡ pos 0 -ℤ int_div v (pos (suc w)) = quotient_turned v w in
        h.gives U1 (int_div v (negsuc w)) (omega (arith, ints, tl, eh, e, q.1), omega (arith, ints, th, el, e, q.0))

pub quotient_below_some : (t : IntType) (i j whole k turned : Interval) (d : ℤ) (r : Option Interval) → j.high <ℤ pos 0 → d ≡ pos 0 -ℤ j.high → Below i whole → whole.low ≤ℤ pos 0 → pos 0 ≤ℤ whole.high → k.low ≡ int_div whole.low d → k.high ≡ int_div whole.high d →
    turned.low ≡ pos 0 -ℤ k.high → turned.high ≡ pos 0 -ℤ k.low → IfSome r (λ r. Ranges t turned r) → IfSome r (λ r. Computes Div t i j r)
quotient_below_some t i j whole k turned d None z ed b lz hz el eh tl th h = tt
quotient_below_some t i j whole k turned d (Some r) z ed b lz hz el eh tl th h = quotient_below_rule t i j whole k turned r d z ed b lz hz el eh tl th h

remainder_below_rule : (t : IntType) (i j whole turned r : Interval) (d : ℤ) → j.high <ℤ pos 0 → d ≡ pos 0 -ℤ j.low → Below i whole → whole.low ≤ℤ pos 0 → pos 0 ≤ℤ whole.high → Below whole (range_of t) → turned.low ≡ pos 0 -ℤ whole.high → turned.high ≡ pos 0 -ℤ whole.low →
    Below turned (range_of t) → ((v : ℤ) → In whole v → (pos 0 -ℤ d) <ℤ v → v <ℤ d → In r v) → Computes Rem t i j r
remainder_below_rule t i j whole turned r d z ed b lz hz f tl th g h = record { gives = λ v w m n. by v w m n }
  where
    by : (v w : ℤ) → In i v → In j w → GivesIn r (if truth w then in_range U1 t (int_div v w) (int_rem v w) else Err U2)
    by v (pos w) m n = absurd (omega (arith, ints, z, n.1))
    by v (negsuc w) m n =
        let lo : whole.low ≤ℤ v = omega (arith, ints, b.0, m.0) in
        let hi : v ≤ℤ whole.high = omega (arith, ints, b.1, m.1) in
        let p : pos 0 <ℤ pos (suc w) = omega (arith, ints) in
        let o = one_quotient whole.low whole.high v (pos (suc w)) p lo hi lz hz in
        let rem = remainder_of v (pos (suc w)) whole.low whole.high p lo hi lz hz in
        let cut = remainder_in v (pos (suc w)) d p (omega (arith, ints, ed, n.0)) in
        let e : int_div v (negsuc w) ≡ pos 0 -ℤ int_div v (pos (suc w)) = quotient_turned v w in
        let P : ℤ → Type 0 = λ x. GivesIn r (in_range U1 t (int_div v (negsuc w)) x) in
        subst P (sym (remainder_turned v w)) (remainder_gives U1 t (int_div v (negsuc w)) (int_rem v (pos (suc w))) r (omega (arith, ints, g.0, tl, e, o.1), omega (arith, ints, g.1, th, e, o.0)) (omega (arith, ints, f.0, rem.0), omega (arith, ints, f.1, rem.1)) (h (int_rem v (pos (suc w))) rem cut.0 cut.1))

pub remainder_below_some : (t : IntType) (i j whole turned : Interval) (d : ℤ) (r : Option Interval) → j.high <ℤ pos 0 → d ≡ pos 0 -ℤ j.low → Below i whole → whole.low ≤ℤ pos 0 → pos 0 ≤ℤ whole.high → Below whole (range_of t) → turned.low ≡ pos 0 -ℤ whole.high →
    turned.high ≡ pos 0 -ℤ whole.low → Below turned (range_of t) → IfSome r (λ r. (v : ℤ) → In whole v → (pos 0 -ℤ d) <ℤ v → v <ℤ d → In r v) → IfSome r (λ r. Computes Rem t i j r)
remainder_below_some t i j whole turned d None z ed b lz hz f tl th g h = tt
remainder_below_some t i j whole turned d (Some r) z ed b lz hz f tl th g h = remainder_below_rule t i j whole turned r d z ed b lz hz f tl th g h

-- ---- shifts

width_size : (t : IntType) → bits_of t ≤ 32
width_size ty.Bool = omega arith
width_size ty.Char = omega arith
width_size ty.SChar = omega arith
width_size ty.UChar = omega arith
width_size ty.Short = omega arith
width_size ty.UShort = omega arith
width_size ty.Int = omega arith
width_size ty.UInt = omega arith
width_size ty.Long = omega arith
width_size ty.ULong = omega arith

pub count_is : (t : IntType) (b : ℤ) → pos 0 ≤ℤ b → b <ℤ pos (bits_of t) → is_count t b ≡ true
count_is t b h g = grind (arith, ints, h, g)

pub below_width : (t : IntType) (b : ℤ) → b <ℤ pos (bits_of t) → b <ℤ pos 32
below_width t b h = omega (arith, ints, width_size t, h)

pow_within : (l h w : ℤ) → pos 0 ≤ℤ l → l ≤ℤ w → w ≤ℤ h → (2 ^ magnitude l ≤ 2 ^ magnitude w) × (2 ^ magnitude w ≤ 2 ^ magnitude h)
pow_within (negsuc l) h w z a b = absurd (omega (arith, ints, z))
pow_within (pos l) (negsuc h) w z a b = absurd (omega (arith, ints, z, a, b))
pow_within (pos l) (pos h) (negsuc w) z a b = absurd (omega (arith, ints, z, a))
pow_within (pos l) (pos h) (pos w) z a b = (pow_mono l w (omega (arith, ints, a)), pow_mono w h (omega (arith, ints, b)))

not_below : (v : ℤ) → pos 0 ≤ℤ v → int_lt v (pos 0) ≡ false
not_below v h = grind (arith, ints, h)

left_rule : (t : IntType) (i j k r : Interval) (most : ℤ) → pos 0 ≤ℤ i.low → pos 0 ≤ℤ j.low → pos 0 ≤ℤ j.high → j.high <ℤ pos (bits_of t) → most ≡ pos (2 ^ magnitude j.high) → k.low ≡ pos 0 → k.high ≡ i.high *ℤ most → Ranges t k r → Computes Shl t i j r
left_rule t i j k r most iz jz hz hb em el eh h = record {
  gives = λ v w m n.
      let p : pos 0 ≤ℤ v = omega (arith, ints, iz, m.0) in
      let c : is_count t w ≡ true = count_is t w (omega (arith, ints, jz, n.0)) (omega (arith, ints, hb, n.1)) in
      let pw : 2 ^ magnitude w ≤ 2 ^ magnitude j.high = (pow_within j.low j.high w jz n.0 n.1).1 in
      let x : ℤ = v *ℤ pos (2 ^ magnitude w) in
      let q = product_in v (pos (2 ^ magnitude w)) i.high most p (omega (arith, ints)) m.1 (omega (arith, ints, em, pw)) in
      let C : Bool → Type 0 = λ b. GivesIn r (if b then (if int_lt v (pos 0) then Err U4 else in_range U4 t x x) else Err U3) in
      let N : Bool → Type 0 = λ b. GivesIn r (if b then Err U4 else in_range U4 t x x) in
      subst C (sym c) (subst N (sym (not_below v p)) (h.gives U4 x (omega (arith, ints, el, q.0), omega (arith, ints, eh, q.1))));
}

pub left_some : (t : IntType) (i j k : Interval) (r : Option Interval) (most : ℤ) → pos 0 ≤ℤ i.low → pos 0 ≤ℤ j.low → pos 0 ≤ℤ j.high → j.high <ℤ pos (bits_of t) → most ≡ pos (2 ^ magnitude j.high) → k.low ≡ pos 0 → k.high ≡ i.high *ℤ most →
    IfSome r (λ r. Ranges t k r) → IfSome r (λ r. Computes Shl t i j r)
left_some t i j k None most iz jz hz hb em el eh h = tt
left_some t i j k (Some r) most iz jz hz hb em el eh h = left_rule t i j k r most iz jz hz hb em el eh h

quotient_down_in : (v w l low high : ℤ) (k : ℕ) → pos 0 ≤ℤ l → l ≤ℤ w → low ≤ℤ v → v ≤ℤ high → low ≤ℤ pos 0 → pos 0 ≤ℤ high → k ≡ 2 ^ magnitude l → (low ≤ℤ quotient_down v (2 ^ magnitude w)) × (quotient_down v (2 ^ magnitude w) ≤ℤ int_div high (pos k))
quotient_down_in v (negsuc w) l low high k lz lw a b lz2 hz e = absurd (omega (arith, ints, lz, lw))
quotient_down_in v w (negsuc l) low high k lz lw a b lz2 hz e = absurd (omega (arith, ints, lz))
quotient_down_in v w l low (negsuc high) k lz lw a b lz2 hz e = absurd (omega (arith, ints, hz))
quotient_down_in (pos v) (pos w) (pos l) low (pos high) k lz lw a b lz2 hz e =
    let q : v / 2 ^ w ≤ high / k = shifted_in v w high l k (omega (arith, ints, b)) (omega (arith, ints, lw)) e in (omega (arith, ints, lz2), omega (arith, ints, q))
quotient_down_in (negsuc v) (pos w) (pos l) low (pos high) k lz lw a b lz2 hz e =
    let q : v / 2 ^ w ≤ v = div-le_self v (2 ^ w) in (omega (arith, ints, a, q), omega (arith, ints))

pub right_rule : (t : IntType) (i j whole r : Interval) (least_power : ℤ) → pos 0 ≤ℤ j.low → j.high <ℤ pos (bits_of t) → least_power ≡ pos (2 ^ magnitude j.low) → Below i whole → whole.low ≤ℤ pos 0 → pos 0 ≤ℤ whole.high → r.low ≡ whole.low →
    r.high ≡ int_div whole.high least_power → Computes Shr t i j r
right_rule t i j whole r lp jz hb ep b lz hz el eh = record {
  gives = λ v w m n.
      let c : is_count t w ≡ true = count_is t w (omega (arith, ints, jz, n.0)) (omega (arith, ints, hb, n.1)) in
      let q = quotient_down_in v w j.low whole.low whole.high (2 ^ magnitude j.low) jz n.0 (omega (arith, ints, b.0, m.0)) (omega (arith, ints, b.1, m.1)) lz hz refl in
      let e2 : r.high ≡ int_div whole.high (pos (2 ^ magnitude j.low)) = eh ∙ ap (λ x. int_div whole.high x) ep in
      let C : Bool → Type 0 = λ b. GivesIn r (if b then Ok (quotient_down v (2 ^ magnitude w)) else Err U3) in
      subst C (sym c) (omega (arith, ints, el, q.0), omega (arith, ints, e2, q.1));
}

-- ---- bits

modulo_small : (v : ℤ) (h : ℤ) → pos 0 ≤ℤ v → v ≤ℤ h → pos (modulo 32 v) ≤ℤ h
modulo_small (negsuc v) h p l = absurd (omega (arith, ints, p))
modulo_small (pos v) h p l = let q : v % 4294967296 ≤ v = omega arith in omega (arith, ints, l, q)

kept_small : (t : IntType) (h : ℤ) (n : ℕ) → h ≤ℤ greatest t → pos n ≤ℤ h → In (record { low = pos 0; high = h }) (converted t (pos n))
kept_small t h n g l = let P : ℤ → Type 0 = In (record { low = pos 0; high = h }) in subst P (sym (converted_keeps t (pos n) (omega (arith, ints, least_not_above t), omega (arith, ints, g, l)))) (omega (arith, ints), l)
  where
    least_not_above : (t : IntType) → least t ≤ℤ pos 0
    least_not_above ty.Bool = omega (arith, ints)
    least_not_above ty.Char = omega (arith, ints)
    least_not_above ty.SChar = omega (arith, ints)
    least_not_above ty.UChar = omega (arith, ints)
    least_not_above ty.Short = omega (arith, ints)
    least_not_above ty.UShort = omega (arith, ints)
    least_not_above ty.Int = omega (arith, ints)
    least_not_above ty.UInt = omega (arith, ints)
    least_not_above ty.Long = omega (arith, ints)
    least_not_above ty.ULong = omega (arith, ints)

pub mask_left : (t : IntType) (i j r : Interval) → pos 0 ≤ℤ i.low → i.high ≤ℤ greatest t → r.low ≡ pos 0 → r.high ≡ i.high → Computes BitAnd t i j r
mask_left t i j r z g el eh = record {
  gives = λ v w m n.
      let s : pos (modulo 32 v) ≤ℤ i.high = modulo_small v i.high (omega (arith, ints, z, m.0)) m.1 in
      let a : bit_and (modulo 32 v) (modulo 32 w) ≤ modulo 32 v = and_le_l (modulo 32 v) (modulo 32 w) in
      let k = kept_small t i.high (bit_and (modulo 32 v) (modulo 32 w)) g (omega (arith, ints, s, a)) in (omega (arith, ints, el, k.0), omega (arith, ints, eh, k.1));
}

pub mask_right : (t : IntType) (i j r : Interval) → pos 0 ≤ℤ j.low → j.high ≤ℤ greatest t → r.low ≡ pos 0 → r.high ≡ j.high → Computes BitAnd t i j r
mask_right t i j r z g el eh = record {
  gives = λ v w m n.
      let s : pos (modulo 32 w) ≤ℤ j.high = modulo_small w j.high (omega (arith, ints, z, n.0)) n.1 in
      let a : bit_and (modulo 32 v) (modulo 32 w) ≤ modulo 32 w = and_le_r (modulo 32 v) (modulo 32 w) in
      let k = kept_small t j.high (bit_and (modulo 32 v) (modulo 32 w)) g (omega (arith, ints, s, a)) in (omega (arith, ints, el, k.0), omega (arith, ints, eh, k.1));
}

pub mask_all : (t : IntType) (r : Interval) → r ≡ range_of t → r.high ≡ greatest t
mask_all t r e = ap (λ r. r.high) e

pub within_range : (t : IntType) (i r : Interval) → r ≡ range_of t → Below i r → Below i (range_of t)
within_range t i r e b = let P : Interval → Type 0 = Below i in subst P e b
