-- A simplified instruction does the same where the known facts hold.
use Rattle.std.proofs.Common.{◌≡◌, ◌<◌, ℕ, ◌+◌, ◌*◌, ◌-◌, ◌/◌, ◌%◌, ◌^◌, List, Option, Some, None, Bool, true, false, refl, sym, ap, ◌∙◌, subst, arith}
use Rattle.std.specs.Prelude.{◌==◌, ◌&&◌, nat_lt, bit_and, if◌then◌else◌}
use Rattle.std.specs.Int.{w32, trailing_zeros}
use Rattle.std.proofs.lemmas.Bool.{eqb-true, ltb-true}
use Rattle.std.proofs.lemmas.Nat.{and_comm, or_comm, xor_comm, and_mask, pow_pos}
use Rattle.std.proofs.Math.Nat.{mul_comm}
use Rattle.rv32.specs.declared.instr.RegisterOp.{RegisterOp}
use Rattle.rv32.specs.declared.instr.RegisterOp.TheVariants as register_op
use Rattle.rv32.specs.Arithmetic.{compare_of, operate_of}
use Rattle.frames_code.specs.declared.code.Operand.{Operand}
use Rattle.frames_code.specs.declared.code.Operand.TheVariants as operand
use Rattle.frames_code.specs.declared.code.Target.{Target}
use Rattle.frames_code.specs.declared.code.Target.TheVariants as target
use Rattle.frames_code.specs.declared.code.Base.{Base}
use Rattle.frames_code.specs.declared.code.Base.TheVariants as base
use Rattle.frames_code.specs.declared.code.Location.{Location}
use Rattle.frames_code.specs.declared.code.Location.TheVariants as location
use Rattle.frames_code.specs.declared.code.Operation.{Operation}
use Rattle.frames_code.specs.declared.code.Operation.TheVariants as operation
use Rattle.frames_code.specs.declared.code.Instruction.{Instruction}
use Rattle.frames_code.specs.declared.code.Instruction.TheVariants as instruction
use Rattle.frames_code.specs.Code.{Program, area_home}
use Rattle.frames_code.specs.Run.{Value, Values, State, Progress, running, ended, stuck, word, reference, value, word_at, word_in, reference_in, set, with_at, next, past, goes_to, Reference, place, base_of, indexed, gives, gives_word, operate, loaded, stored, act, function_at, name_of, ◌>>=◌}
use Rattle.frames_opt.specs.declared.facts.Known.{Known}
use Rattle.frames_opt.specs.declared.facts.Known.TheVariants as known
use Rattle.frames_opt.specs.inside.Facts.{held, known_of, is_target, is_index}
use Rattle.frames_opt.specs.inside.Rules.{constant_or, simpler_operand, location_or, simpler_location, carried, commutes, with_constant, with_power, is_power, with_word, arranged, compute, stepped, statics_or, frame_or, numbered, simpler_element, simpler}

-- ---- known facts hold of a value, where the frame has a name, its arrays begin `home` bytes above its start, and its words and temporaries are c and t

abbrev pub base_at : (name home : ℕ) → Base → Reference
base_at name home (base.Statics o) = record { list = 0; offset = o }
base_at name home (base.Frame o) = record { list = name; offset = home + o }

-- the word that an index has
abbrev pub index_in : (c t : Values) → Operand → Option ℕ
index_in c t (operand.Temporary k) = word_in (t k)
index_in c t (operand.Cell e) = word_in (c e)
index_in c t (operand.Constant v) = None
index_in c t (operand.Argument k) = None

pub record Leads (name home : ℕ) (c t : Values) (b : Base) (y : Operand) (size : ℕ) (v : Option Value) : Type 0 where
  pub index : is_index y ≡ true
  pub is : reference_in v ≡ indexed (base_at name home b) size (index_in c t y)

abbrev pub Knows : (name home : ℕ) → (c t : Values) → Known → Option Value → Type 0
Knows name home c t known.Unknown v = Unit {0}
Knows name home c t (known.Word w) v = v ≡ Some (word w)
Knows name home c t (known.Statics o) v = v ≡ Some (reference 0 o)
Knows name home c t (known.Frame o) v = v ≡ Some (reference name (home + o))
Knows name home c t (known.Indexed b y size) v = Leads name home c t b y size v

abbrev pub Holds : (name home : ℕ) → List Known → (c t : Values) → Type 0
Holds name home facts c t = (k : ℕ) → Knows name home c t (held facts k) (t k)

abbrev pub name_in : Program → State → ℕ
name_in p s = name_of p s.frame s.waiting

abbrev pub home_in : Program → State → ℕ
home_in p s = area_home (function_at p s.frame.function)

-- whether the function has a result
abbrev pub gives_in : Program → State → Bool
gives_in p s = (function_at p s.frame.function).gives

-- ---- both sides of a step

pub bind_same : {A : Type 0} (o : Option A) (f g : A → Progress) → ((x : A) → f x ≡ g x) → (o >>= f) ≡ (o >>= g)
bind_same None f g e = refl
bind_same (Some x) f g e = e x

pub binds_same : {A : Type 0} (u o : Option A) (f g : A → Progress) → u ≡ o → ((x : A) → f x ≡ g x) → (u >>= f) ≡ (o >>= g)
binds_same u o f g e each = ap (λ z. z >>= f) e ∙ bind_same o f g each

-- ---- the second does what the first does, and may have more arguments left; nothing is asked of it where the first is stuck

pub record Keeps (s : State) (z : Progress) : Type 0 where
  pub given : Values
  pub is : z ≡ running (record s { arguments = given })
  pub more : (k : ℕ) (v : Value) → s.arguments k ≡ Some v → given k ≡ Some v

abbrev pub Follows : Progress → Progress → Type 0
Follows (running s) z = Keeps s z
Follows (ended status input trace) z = z ≡ ended status input trace
Follows stuck z = Unit {0}

pub follows_same : (x z : Progress) → z ≡ x → Follows x z
follows_same (running s) z e = record { given = s.arguments; is = e; more = λ k v h. h }
follows_same (ended status input trace) z e = e
follows_same stuck z e = tt

follows_on : (x y z : Progress) → Follows x y → Follows y z → Follows x z
follows_on (running s) y z one two =
    let next : Keeps (record s { arguments = one.given }) z = subst (λ w. Follows w z) one.is two in
    record { given = next.given; is = next.is; more = λ k v h. next.more k v (one.more k v h) }
follows_on (ended status input trace) y z one two = subst (λ w. Follows w z) one two
follows_on stuck y z one two = tt

none_some : (v : Value) → None ≡ Some v → ⊥
none_some v e = let x : ⊥ = cc in x

put_back : (m : Values) (k : ℕ) (v : Value) → m k ≡ Some v → with_at m k v ≡ m
put_back m k v e = let each : (j : ℕ) → with_at m k v j ≡ m j = λ j. on j (j == k) refl in λ i j. each j i
  where
    on : (j : ℕ) (t : Bool) → (j == k) ≡ t → (if j == k then Some v else m j) ≡ m j
    on j true u = rw u (sym e ∙ ap m (sym (eqb-true j k u)))
    on j false u = rw u refl

-- ---- operations

abbrev IsNo : Bool → Type 0
IsNo true = ⊥
IsNo false = Unit {0}

pub not_true : false ≡ true → ⊥
not_true e = subst IsNo e tt

pub word_is : (s : State) (y : Operand) → is_index y ≡ true → word_at s y ≡ index_in s.frame.cells s.temporaries y
word_is s (operand.Temporary k) e = refl
word_is s (operand.Cell c) e = refl
word_is s (operand.Constant v) e = absurd (not_true e)
word_is s (operand.Argument k) e = absurd (not_true e)

commuted : (o : Operation) (a b : ℕ) → commutes o ≡ true → operate o a b ≡ operate o b a
commuted (operation.Machine register_op.Add) a b e = let sum : a + b ≡ b + a = omega arith in ap (λ n. n % 2 ^ 32) sum
commuted (operation.Machine register_op.Sub) a b e = absurd (not_true e)
commuted (operation.Machine register_op.ShiftLeft) a b e = absurd (not_true e)
commuted (operation.Machine register_op.Less) a b e = absurd (not_true e)
commuted (operation.Machine register_op.LessUnsigned) a b e = absurd (not_true e)
commuted (operation.Machine register_op.Xor) a b e = xor_comm a b
commuted (operation.Machine register_op.ShiftRight) a b e = absurd (not_true e)
commuted (operation.Machine register_op.ShiftRightArithmetic) a b e = absurd (not_true e)
commuted (operation.Machine register_op.Or) a b e = or_comm a b
commuted (operation.Machine register_op.And) a b e = and_comm a b
commuted (operation.Machine register_op.Mul) a b e = ap (λ n. n % 2 ^ 32) (mul_comm a b)
commuted (operation.Machine register_op.MulHigh) a b e = absurd (not_true e)
commuted (operation.Machine register_op.MulHighSignedUnsigned) a b e = absurd (not_true e)
commuted (operation.Machine register_op.MulHighUnsigned) a b e = absurd (not_true e)
commuted (operation.Machine register_op.Div) a b e = absurd (not_true e)
commuted (operation.Machine register_op.DivUnsigned) a b e = absurd (not_true e)
commuted (operation.Machine register_op.Rem) a b e = absurd (not_true e)
commuted (operation.Machine register_op.RemUnsigned) a b e = absurd (not_true e)
commuted operation.Equal a b e = absurd (not_true e)
commuted operation.NotEqual a b e = absurd (not_true e)

-- 2^k is v, with k < 32
pub record Power (k v : ℕ) : Type 0 where
  pub small : k < 32
  pub is : 2 ^ k ≡ v

pub power_is : (k v : ℕ) → is_power k v ≡ true → Power k v
power_is k v e = on (nat_lt k 32) refl
  where
    on : (t : Bool) → nat_lt k 32 ≡ t → Power k v
    on false u = absurd (not_true (sym (ap (λ t. t && (2 ^ k == v)) u) ∙ e))
    on true u =
        let same : (2 ^ k == v) ≡ true = ap (λ t. t && (2 ^ k == v)) (sym u) ∙ e in
        record { small = ltb-true k 32 u; is = eqb-true (2 ^ k) v same }

-- no power of two is zero
power_some : (k : ℕ) → (2 ^ k == 0) ≡ false
power_some k = on (2 ^ k == 0) refl
  where
    on : (t : Bool) → (2 ^ k == 0) ≡ t → (2 ^ k == 0) ≡ false
    on false e = e
    on true e = absurd (omega (arith, pow_pos k, eqb-true (2 ^ k) 0 e))

module _ (a k v : ℕ) (power : Power k v) where
  amount : k % 2 ^ 5 ≡ k
  amount = let small = power.small in omega (arith, small)

  some : (v == 0) ≡ false
  some = ap (λ n. n == 0) (sym power.is) ∙ power_some k

  product_is : operate_of register_op.ShiftLeft a k ≡ operate_of register_op.Mul a v
  product_is = ap (λ n. a * 2 ^ n % 2 ^ 32) amount ∙ ap (λ n. a * n % 2 ^ 32) power.is

  quotient_is : operate_of register_op.ShiftRight a k ≡ operate_of register_op.DivUnsigned a v
  quotient_is = ap (λ n. a / 2 ^ n) amount ∙ (ap (λ n. a / n) power.is ∙ ap (λ t. if t then 2 ^ 32 - 1 else a / v) (sym some))

  remainder_is : operate_of register_op.And a (v - 1) ≡ operate_of register_op.RemUnsigned a v
  remainder_is = ap (λ n. bit_and a (n - 1)) (sym power.is) ∙ (and_mask a k ∙ (ap (λ n. a % n) power.is ∙ ap (λ t. if t then a else a % v) (sym some)))

module _ (p : Program) (s : State) where
  abbrev does : Instruction → Progress
  does = act p s

  operated_same : (o u : RegisterOp) (d : Target) (x : Operand) (w v : ℕ) → ((a : ℕ) → operate_of o a w ≡ operate_of u a v) → does (with_constant o d x w) ≡ does (with_constant u d x v)
  operated_same o u d x w v each = bind_same (word_at s x) (λ a. gives_word d s (operate_of o a w)) (λ a. gives_word d s (operate_of u a v)) (λ a. ap (gives_word d s) (each a))

  bits_same : (d : Target) (x : Operand) (k v : ℕ) (t : Bool) → Power k v
      → does (if t then with_constant register_op.And d x (v - 1) else with_constant register_op.RemUnsigned d x v) ≡ does (with_constant register_op.RemUnsigned d x v)
  bits_same d x k v false e = refl
  bits_same d x k v true e = operated_same register_op.And register_op.RemUnsigned d x (v - 1) v (λ a. remainder_is a k v e)

  power_same : (o : RegisterOp) (d : Target) (x : Operand) (k v : ℕ) → Power k v → does (with_power o d x k v) ≡ does (with_constant o d x v)
  power_same register_op.Add d x k v e = refl
  power_same register_op.Sub d x k v e = refl
  power_same register_op.ShiftLeft d x k v e = refl
  power_same register_op.Less d x k v e = refl
  power_same register_op.LessUnsigned d x k v e = refl
  power_same register_op.Xor d x k v e = refl
  power_same register_op.ShiftRight d x k v e = refl
  power_same register_op.ShiftRightArithmetic d x k v e = refl
  power_same register_op.Or d x k v e = refl
  power_same register_op.And d x k v e = refl
  power_same register_op.Mul d x k v e = operated_same register_op.ShiftLeft register_op.Mul d x k v (λ a. product_is a k v e)
  power_same register_op.MulHigh d x k v e = refl
  power_same register_op.MulHighSignedUnsigned d x k v e = refl
  power_same register_op.MulHighUnsigned d x k v e = refl
  power_same register_op.Div d x k v e = refl
  power_same register_op.DivUnsigned d x k v e = operated_same register_op.ShiftRight register_op.DivUnsigned d x k v (λ a. quotient_is a k v e)
  power_same register_op.Rem d x k v e = refl
  power_same register_op.RemUnsigned d x k v e = bits_same d x k v (nat_lt k 12) e

  with_word_same : (o : RegisterOp) (d : Target) (x : Operand) (v : ℕ) → does (with_word o d x v) ≡ does (with_constant o d x v)
  with_word_same o d x v = on (trailing_zeros w32 v) (is_power (trailing_zeros w32 v) v) refl
    where
      on : (k : ℕ) (t : Bool) → is_power k v ≡ t → does (if t then with_power o d x k v else with_constant o d x v) ≡ does (with_constant o d x v)
      on k false e = refl
      on k true e = power_same o d x k v (power_is k v e)

  arranged_same : (o : Operation) (d : Target) (x y : Operand) → does (arranged o d x y) ≡ does (instruction.Compute o d x y)
  arranged_same (operation.Machine o) d x (operand.Temporary k) = refl
  arranged_same (operation.Machine o) d x (operand.Cell c) = refl
  arranged_same (operation.Machine o) d x (operand.Constant v) = with_word_same o d x v
  arranged_same (operation.Machine o) d x (operand.Argument k) = refl
  arranged_same operation.Equal d x y = refl
  arranged_same operation.NotEqual d x y = refl

  swapped_same : (o : Operation) (d : Target) (v : ℕ) (y : Operand) (t : Bool) → commutes o ≡ t
      → does (if t then arranged o d y (operand.Constant v) else arranged o d (operand.Constant v) y) ≡ does (instruction.Compute o d (operand.Constant v) y)
  swapped_same o d v y false e = arranged_same o d (operand.Constant v) y
  swapped_same o d v y true e =
      arranged_same o d y (operand.Constant v)
      ∙ bind_same (word_at s y) (λ a. gives_word d s (operate o a v)) (λ b. gives_word d s (operate o v b)) (λ a. ap (gives_word d s) (commuted o a v e))

  compute_same : (o : Operation) (d : Target) (x y : Operand) → does (compute o d x y) ≡ does (instruction.Compute o d x y)
  compute_same o d (operand.Temporary k) y = arranged_same o d (operand.Temporary k) y
  compute_same o d (operand.Cell c) y = arranged_same o d (operand.Cell c) y
  compute_same o d (operand.Argument k) y = arranged_same o d (operand.Argument k) y
  compute_same o d (operand.Constant v) (operand.Temporary k) = swapped_same o d v (operand.Temporary k) (commutes o) refl
  compute_same o d (operand.Constant v) (operand.Cell c) = swapped_same o d v (operand.Cell c) (commutes o) refl
  compute_same o d (operand.Constant v) (operand.Constant w) = arranged_same o d (operand.Constant v) (operand.Constant w)
  compute_same o d (operand.Constant v) (operand.Argument k) = swapped_same o d v (operand.Argument k) (commutes o) refl

  -- ---- the known facts

  abbrev name : ℕ
  name = name_in p s

  abbrev home : ℕ
  home = home_in p s

  abbrev Here : Known → Option Value → Type 0
  Here k v = Knows name home s.frame.cells s.temporaries k v

  constant_same : (x : Operand) (k : Known) → Here k (value s x) → value s (constant_or x k) ≡ value s x
  constant_same x known.Unknown e = refl
  constant_same x (known.Word w) e = sym e
  constant_same x (known.Statics o) e = refl
  constant_same x (known.Frame o) e = refl
  constant_same x (known.Indexed b y size) e = refl

  base_same : (b : Base) → base_of p s b ≡ base_at name home b
  base_same (base.Statics o) = refl
  base_same (base.Frame o) = refl

  indexed_same : (b : Base) (y : Operand) (size : ℕ) (v : Option Value) → Leads name home s.frame.cells s.temporaries b y size v → place p s (location.Indexed b y size) ≡ reference_in v
  indexed_same b y size v e = ap (λ r. indexed r size (word_at s y)) (base_same b) ∙ (ap (indexed (base_at name home b) size) (word_is s y e.index) ∙ sym e.is)

  reference_same : (x : Operand) (k : Known) → Here k (value s x) → place p s (location_or x k) ≡ reference_in (value s x)
  reference_same x known.Unknown e = refl
  reference_same x (known.Word w) e = refl
  reference_same x (known.Statics o) e = ap reference_in (sym e)
  reference_same x (known.Frame o) e = ap reference_in (sym e)
  reference_same x (known.Indexed b y size) e = indexed_same b y size (value s x) e

  abbrev addressed : Target → (list offset : ℕ) → Progress
  addressed d list offset = gives d s (reference list offset)

  back_same : (d : Target) (x : Operand) → is_target d x ≡ true → (v : Value) → value s x ≡ Some v → running (past s) ≡ running (set d v (past s))
  back_same (target.Temporary j) (operand.Temporary k) e v h = ap (λ (m : Values). running (record (past s) { temporaries = m })) (sym (put_back s.temporaries j v (ap s.temporaries (eqb-true j k e) ∙ h)))
  back_same (target.Temporary j) (operand.Cell c) e v h = absurd (not_true e)
  back_same (target.Temporary j) (operand.Constant w) e v h = absurd (not_true e)
  back_same (target.Temporary j) (operand.Argument k) e v h = absurd (not_true e)
  back_same (target.Cell c) (operand.Temporary k) e v h = absurd (not_true e)
  back_same (target.Cell c) (operand.Cell k) e v h =
      ap (λ (m : Values). running (record s { frame = record s.frame { at = s.frame.at + 1; cells = m } })) (sym (put_back s.frame.cells c v (ap s.frame.cells (eqb-true c k e) ∙ h)))
  back_same (target.Cell c) (operand.Constant w) e v h = absurd (not_true e)
  back_same (target.Cell c) (operand.Argument k) e v h = absurd (not_true e)

  carried_follows : (d : Target) (x : Operand) → Follows (does (instruction.Move d x)) (does (carried d x))
  carried_follows d x = on (is_target d x) refl
    where
      itself : is_target d x ≡ true → (o : Option Value) → value s x ≡ o → Follows (o >>= λ v. running (set d v (past s))) (running (past s))
      itself e None h = tt
      itself e (Some v) h = follows_same (running (set d v (past s))) (running (past s)) (back_same d x e v h)

      on : (t : Bool) → is_target d x ≡ t → Follows (does (instruction.Move d x)) (does (if t then instruction.Nothing else instruction.Move d x))
      on true e = itself e (value s x) refl
      on false e = follows_same (does (instruction.Move d x)) (does (instruction.Move d x)) refl

  past_follows : (d : Target) (v : Value) → Keeps (set d v (next s)) (running (set d v (past s)))
  past_follows (target.Temporary j) v = record { given = s.arguments; is = refl; more = λ k v2 h. absurd (none_some v2 h) }
  past_follows (target.Cell c) v = record { given = s.arguments; is = refl; more = λ k v2 h. absurd (none_some v2 h) }

  -- an element that is none further on
  first_follows : (d : Target) (x : Operand) (n size : ℕ) → n ≡ 0 → Follows (does (instruction.Element d x (operand.Constant n) size)) (does (instruction.Move d x))
  first_follows d x n size e = on (value s x)
    where
      on : (o : Option Value) → Follows (reference_in o >>= λ r. gives d s (reference r.list (r.offset + n * size))) (o >>= λ v. running (set d v (past s)))
      on None = tt
      on (Some (word w)) = tt
      on (Some (reference l o)) =
          let none : n * size ≡ 0 * size = ap (λ m. m * size) e in
          let sum : o ≡ o + n * size = omega (arith, none) in
          subst (λ m. Keeps (set d (reference l m) (next s)) (running (set d (reference l o) (past s)))) sum (past_follows d (reference l o))

  stepped_follows : (d : Target) (x : Operand) (n size : ℕ) → Follows (does (instruction.Element d x (operand.Constant n) size)) (does (stepped d x n size))
  stepped_follows d x n size = on (n == 0) refl
    where
      on : (t : Bool) → (n == 0) ≡ t → Follows (does (instruction.Element d x (operand.Constant n) size)) (does (if t then carried d x else instruction.Element d x (operand.Constant n) size))
      on true e =
          follows_on (does (instruction.Element d x (operand.Constant n) size)) (does (instruction.Move d x)) (does (carried d x)) (first_follows d x n size (eqb-true n 0 e)) (carried_follows d x)
      on false e = follows_same (does (instruction.Element d x (operand.Constant n) size)) (does (instruction.Element d x (operand.Constant n) size)) refl

  abbrev Element : Target → Operand → ℕ → ℕ → Progress
  Element d x n size = does (instruction.Element d x (operand.Constant n) size)

  statics_follows : (d : Target) (x : Operand) (n size o : ℕ) (t : Bool) → value s x ≡ Some (reference 0 o) → Follows (Element d x n size) (does (statics_or (if t then Some (o + n * size) else None) d x n size))
  statics_follows d x n size o false e = stepped_follows d x n size
  statics_follows d x n size o true e = follows_same (Element d x n size) (addressed d 0 (o + n * size)) (ap (λ v. reference_in v >>= λ r. addressed d r.list (r.offset + n * size)) (sym e))

  frame_follows : (d : Target) (x : Operand) (n size o : ℕ) (t : Bool) → value s x ≡ Some (reference name (home + o)) → Follows (Element d x n size) (does (frame_or (if t then Some (o + n * size) else None) d x n size))
  frame_follows d x n size o false e = stepped_follows d x n size
  frame_follows d x n size o true e =
      let sum : home + (o + n * size) ≡ home + o + n * size = omega arith in
      follows_same (Element d x n size) (addressed d name (home + (o + n * size))) (ap (addressed d name) sum ∙ ap (λ v. reference_in v >>= λ r. addressed d r.list (r.offset + n * size)) (sym e))

  numbered_follows : (area : ℕ) (k : Known) (d : Target) (x : Operand) (n size : ℕ) → Here k (value s x) → Follows (Element d x n size) (does (numbered area k d x n size))
  numbered_follows area known.Unknown d x n size e = stepped_follows d x n size
  numbered_follows area (known.Word w) d x n size e = stepped_follows d x n size
  numbered_follows area (known.Statics o) d x n size e = statics_follows d x n size o (nat_lt (o + n * size) 0x10000000) e
  numbered_follows area (known.Frame o) d x n size e = frame_follows d x n size o (nat_lt (o + n * size) area) e
  numbered_follows area (known.Indexed b y width) d x n size e = stepped_follows d x n size

  element_follows : (area : ℕ) (k : Known) (d : Target) (x y : Operand) (size : ℕ) → Here k (value s x) → Follows (does (instruction.Element d x y size)) (does (simpler_element area k d x y size))
  element_follows area k d x (operand.Temporary j) size e = follows_same (does (instruction.Element d x (operand.Temporary j) size)) _ refl
  element_follows area k d x (operand.Cell c) size e = follows_same (does (instruction.Element d x (operand.Cell c) size)) _ refl
  element_follows area k d x (operand.Constant n) size e = numbered_follows area k d x n size e
  element_follows area k d x (operand.Argument j) size e = follows_same (does (instruction.Element d x (operand.Argument j) size)) _ refl

  module _ (facts : List Known) (holds : Holds name home facts s.frame.cells s.temporaries) where
    pub known_holds : (x : Operand) → Here (known_of facts x) (value s x)
    known_holds (operand.Temporary k) = holds k
    known_holds (operand.Cell c) = tt
    known_holds (operand.Constant v) = refl
    known_holds (operand.Argument k) = tt

    operand_same : (x : Operand) → value s (simpler_operand facts x) ≡ value s x
    operand_same x = constant_same x (known_of facts x) (known_holds x)

    word_same : (x : Operand) → word_at s (simpler_operand facts x) ≡ word_at s x
    word_same x = ap word_in (operand_same x)

    place_same : (l : Location) → place p s (simpler_location facts l) ≡ place p s l
    place_same (location.Statics o) = refl
    place_same (location.Frame o) = refl
    place_same (location.At x) = reference_same x (known_of facts x) (known_holds x)
    place_same (location.Indexed b y size) = refl

    -- where it is an equation
    same : (x z : Instruction) → does z ≡ does x → Follows (does x) (does z)
    same x z e = follows_same (does x) (does z) e

    pub act_follows : (area : ℕ) (x : Instruction) → Follows (does x) (does (simpler area facts x))
    act_follows area instruction.Nothing = same instruction.Nothing instruction.Nothing refl
    act_follows area (instruction.Move d x) =
        subst (λ v. Follows (v >>= λ u. running (set d u (past s))) (does (carried d (simpler_operand facts x)))) (operand_same x) (carried_follows d (simpler_operand facts x))
    act_follows area (instruction.Compute o d x y) = same (instruction.Compute o d x y) (compute o d (simpler_operand facts x) (simpler_operand facts y))
        (compute_same o d (simpler_operand facts x) (simpler_operand facts y)
        ∙ (ap (λ v. v >>= λ a. word_at s (simpler_operand facts y) >>= λ b. gives_word d s (operate o a b)) (word_same x)
        ∙ ap (λ v. word_at s x >>= λ a. v >>= λ b. gives_word d s (operate o a b)) (word_same y)))
    act_follows area (instruction.Convert c d x) = same (instruction.Convert c d x) (instruction.Convert c d x) refl
    act_follows area (instruction.Load w d l) = same (instruction.Load w d l) (instruction.Load w d (simpler_location facts l)) (ap (λ r. r >>= loaded p s w d) (place_same l))
    act_follows area (instruction.Store w x l) = same (instruction.Store w x l) (instruction.Store w (simpler_operand facts x) (simpler_location facts l))
        (ap (λ v. v >>= λ a. place p s (simpler_location facts l) >>= stored p s w a) (word_same x)
        ∙ ap (λ r. word_at s x >>= λ a. r >>= stored p s w a) (place_same l))
    act_follows area (instruction.Address d l) = same (instruction.Address d l) (instruction.Address d (simpler_location facts l)) (ap (λ o. o >>= λ r. gives d s (reference r.list r.offset)) (place_same l))
    act_follows area (instruction.Element d x y size) =
        subst (λ v. Follows (reference_in (value s x) >>= λ r. v >>= λ n. gives d s (reference r.list (r.offset + n * size))) (does (simpler_element area (known_of facts x) d x (simpler_operand facts y) size))) (word_same y)
        (element_follows area (known_of facts x) d x (simpler_operand facts y) size (known_holds x))
    act_follows area (instruction.Jump to) = same (instruction.Jump to) (instruction.Jump to) refl
    act_follows area (instruction.Branch t x y to) = same (instruction.Branch t x y to) (instruction.Branch t (simpler_operand facts x) (simpler_operand facts y) to)
        (ap (λ v. v >>= λ a. word_at s (simpler_operand facts y) >>= λ b. running (if compare_of t a b then goes_to s to else next s)) (word_same x)
        ∙ ap (λ v. word_at s x >>= λ a. v >>= λ b. running (if compare_of t a b then goes_to s to else next s)) (word_same y))
    act_follows area (instruction.Call f) = same (instruction.Call f) (instruction.Call f) refl
    act_follows area instruction.PutByte = same instruction.PutByte instruction.PutByte refl
    act_follows area instruction.GetByte = same instruction.GetByte instruction.GetByte refl
    act_follows area instruction.Exit = same instruction.Exit instruction.Exit refl
    act_follows area instruction.Return = same instruction.Return instruction.Return refl
