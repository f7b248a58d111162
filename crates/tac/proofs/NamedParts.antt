-- Parts of the code of expressions name few temporaries and slots, where their operands do.
use Rattle.std.proofs.Common.{◌≡◌, ⊎_elim, ℕ, ◌+◌, ◌<◌, ◌≤◌, List, length, Option, Some, None, Bool, true, false, ◌||◌, ℤ, sym, ap, ◌∙◌, subst, arith}
use Rattle.std.specs.Prelude.{slice_get}
use Rattle.std.proofs.lemmas.Bool.{cases_lt}
use Rattle.std.proofs.lemmas.Option.{slice_get_within}
use Rattle.ctypes.specs.declared.types.IntType.{IntType}
use Rattle.ctypes.specs.declared.operators.BinOp.{BinOp}
use Rattle.ctypes.specs.declared.operators.BinOp.TheVariants as op
use Rattle.ctypes.specs.Types.{truth}
use Rattle.typing_spec.specs.Program as typed
use Rattle.typing_spec.specs.Program.{Callee, Moment, Place, Value}
use Rattle.tac_code.specs.declared.code.Operand.{Operand}
use Rattle.tac_code.specs.declared.code.Operand.TheVariants as operand
use Rattle.tac_code.specs.declared.code.Target.{Target}
use Rattle.tac_code.specs.declared.code.Target.TheVariants as target
use Rattle.tac_code.specs.declared.code.Place.{Place as Spot}
use Rattle.tac_code.specs.declared.code.Place.TheVariants as place
use Rattle.tac_code.specs.declared.code.Reading.{Reading}
use Rattle.tac_code.specs.declared.code.Instruction.{Instruction}
use Rattle.lower_wf.specs.Asked.{is_wide}
use Rattle.lower_correct.specs.Values.{rests_in, pending, unless_written, at_rest, constant_of, constant_or, waits_in, free_temporary, free_kept, reading_of, Mode, Nowhere, To, If, mode_of, target_of}
use Rattle.lower_correct.specs.Places.{target_for, found, free_temporary_at, free_kept_at, cuts}
use Rattle.lower_correct.specs.Code.{truth_jump, test, zero_word, OnObject, One, Ends, Follows, Constantly, Computes, Then, Compares, Operates, Converts, Casts, Changes, StepsAside, StepsAfter, StepsBy, PartsNamed, Parts, Gets, Puts, Alters, AltersAside, AltersBy, HandsOver, Loads, Calls, Truths}
use Rattle.tac.specs.inside.Few.{Few, FewIn, FewTo, FewAt, FewOf}

same_some : {A : Type 0} (x y : A) → Some x ≡ Some y → x ≡ y
same_some x y e = cc

no_less : (p q : ℕ) → p + 1 ≡ q → p ≤ q
no_less p q e = omega (arith, e)

only : (p q j : ℕ) → p + 1 ≡ q → p ≤ j → j < q → p ≡ j
only p q j e lo hi = omega (arith, e, lo, hi)

on : (a b c : ℕ) → a ≤ b → b ≤ c → a ≤ c
on a b c x y = omega (arith, x, y)

is_none : (p q j : ℕ) → p ≡ q → p ≤ j → j < q → ⊥
is_none p q j e lo hi = omega (arith, e, lo, hi)

same_le : (p q : ℕ) → p ≡ q → p ≤ q
same_le p q e = omega (arith, e)

up_to : (a b l : ℕ) → a + 1 ≡ b → a < l → b ≤ l
up_to a b l e h = omega (arith, e, h)

from_same : (a b l : ℕ) → a ≡ b → a ≤ l → b ≤ l
from_same a b l e h = omega (arith, e, h)

pub one_less : (j : ℕ) → Few (j + 1) → Few j
one_less j h = omega (arith, h)

pub nothing_few : Few 0
nothing_few = omega arith

-- ---- operands, targets, places

abbrev pub FewFor : Mode → Type 0
FewFor Nowhere = Unit {0}
FewFor (To g) = FewTo g
FewFor (If sense to) = Unit {0}

-- one more than its number, if it is a temporary
abbrev pub NextIn : Operand → Type 0
NextIn (operand.Temporary j) = Few (j + 1)
NextIn (operand.Kept j) = Few j
NextIn (operand.Object n) = Unit {0}
NextIn (operand.Parameter n) = Unit {0}
NextIn (operand.Constant v) = Unit {0}

abbrev pub NextFor : Mode → Type 0
NextFor Nowhere = Unit {0}
NextFor (To (target.Temporary j)) = Few (j + 1)
NextFor (To (target.Kept j)) = Few j
NextFor (To (target.Object n)) = Unit {0}
NextFor (If sense to) = Unit {0}

pub next_in : (o : Operand) → NextIn o → FewIn o
next_in (operand.Temporary j) h = one_less j h
next_in (operand.Kept j) h = h
next_in (operand.Object n) h = tt
next_in (operand.Parameter n) h = tt
next_in (operand.Constant v) h = tt

pub next_mode : (o : Operand) → NextIn o → NextFor (mode_of o)
next_mode (operand.Temporary j) h = h
next_mode (operand.Kept j) h = h
next_mode (operand.Object n) h = tt
next_mode (operand.Parameter n) h = tt
next_mode (operand.Constant v) h = tt

pub next_for : (m : Mode) → NextFor m → FewFor m
next_for Nowhere h = tt
next_for (To (target.Temporary j)) h = one_less j h
next_for (To (target.Kept j)) h = h
next_for (To (target.Object n)) h = tt
next_for (If sense to) h = tt

pub target_few : (m : Mode) (t : ℕ) → FewFor m → Few t → FewTo (target_of m t)
target_few Nowhere t h f = f
target_few (To g) t h f = h
target_few (If sense to) t h f = f

pending_next : (b : Bool) (t k : ℕ) → Few (t + 1) → Few k → NextIn (pending b t k)
pending_next true t k f g = g
pending_next false t k f g = f

unless_next : (b : Bool) (x : ℕ) (o : Operand) → NextIn o → NextIn (unless_written b x o)
unless_next true x o h = h
unless_next false x o h = tt

rest_next : (r : Option ℕ) (written : ℕ → Bool) (o : Operand) → NextIn o → NextIn (at_rest r written o)
rest_next None written o h = h
rest_next (Some x) written o h = unless_next (written x) x o h

constant_next : (c : Option ℤ) (o : Operand) → NextIn o → NextIn (constant_or c o)
constant_next None o h = h
constant_next (Some v) o h = tt

pub waits_next : (e : Value) (written : ℕ → Bool) (b : Bool) (t k : ℕ) → Few (t + 1) → Few k → NextIn (waits_in e written b t k)
waits_next e written b t k f g =
    constant_next (constant_of e) (at_rest (rests_in e) written (pending b t k)) (rest_next (rests_in e) written (pending b t k) (pending_next b t k f g))

pending_few : (b : Bool) (t k : ℕ) → Few t → Few k → FewIn (pending b t k)
pending_few true t k f g = g
pending_few false t k f g = f

pub found_few : (a : Place) (c : Bool) (t k : ℕ) → Few t → Few k → FewAt (found a c t k)
found_few (typed.named at (typed.literal n)) c t k f g = tt
found_few (typed.named at (typed.static n)) c t k f g = tt
found_few (typed.named at (typed.automatic n)) c t k f g = tt
found_few (typed.named at (typed.parameter n)) c t k f g = tt
found_few (typed.element at a i) c t k f g = pending_few c t k f g

pub target_for_few : (c : Bool) (t k : ℕ) → Few t → Few k → FewTo (target_for c t k)
target_for_few true t k f g = g
target_for_few false t k f g = f

same : (t : ℕ) → t ≤ t
same t = omega arith

no_more : (t : ℕ) → t ≤ t + 1
no_more t = omega arith

pub more_temporaries : (o : Operand) (t : ℕ) → free_temporary o t ≤ t + 1
more_temporaries (operand.Temporary j) t = same (t + 1)
more_temporaries (operand.Kept j) t = no_more t
more_temporaries (operand.Object n) t = no_more t
more_temporaries (operand.Parameter n) t = no_more t
more_temporaries (operand.Constant v) t = no_more t

pub more_kept : (o : Operand) (k : ℕ) → free_kept o k ≤ k + 1
more_kept (operand.Kept j) k = same (k + 1)
more_kept (operand.Temporary j) k = no_more k
more_kept (operand.Object n) k = no_more k
more_kept (operand.Parameter n) k = no_more k
more_kept (operand.Constant v) k = no_more k

pub more_temporaries_at : (a : Spot) (t : ℕ) → free_temporary_at a t ≤ t + 1
more_temporaries_at (place.Literal n) t = no_more t
more_temporaries_at (place.Static n) t = no_more t
more_temporaries_at (place.Array n) t = no_more t
more_temporaries_at (place.Element n i u) t = no_more t
more_temporaries_at (place.At o) t = more_temporaries o t

pub more_kept_at : (a : Spot) (k : ℕ) → free_kept_at a k ≤ k + 1
more_kept_at (place.Literal n) k = no_more k
more_kept_at (place.Static n) k = no_more k
more_kept_at (place.Array n) k = no_more k
more_kept_at (place.Element n i u) k = no_more k
more_kept_at (place.At o) k = more_kept o k

-- ---- stretches of code

module _ (w : List Instruction) where
  -- the instructions from position a up to b
  pub record Names (a b : ℕ) : Type 0 where
    pub forward : a ≤ b
    pub stays : a ≤ length w → b ≤ length w
    pub each : (j : ℕ) (x : Instruction) → a ≤ j → j < b → slice_get w j ≡ Some x → FewOf x

  -- an instruction is at a position of the code
  pub past : (i : Instruction) (a b : ℕ) → One w i a b → b ≤ length w
  past i a b o = up_to a b (length w) o.next (slice_get_within w a i o.at)

  pub one : (i : Instruction) (a b : ℕ) → One w i a b → FewOf i → Names a b
  one i a b o few = record {
    forward = no_less a b o.next;
    stays = λ l. past i a b o;
    each = λ j x lo hi at. subst FewOf (same_some i x (sym o.at ∙ (ap (slice_get w) (only a b j o.next lo hi) ∙ at))) few;
  }

  pub none : (a b : ℕ) → a ≡ b → Names a b
  none a b e = record {
    forward = same_le a b e;
    stays = λ l. from_same a b (length w) e l;
    each = λ j x lo hi at. absurd (is_none a b j e lo hi);
  }

  pub join : {a b c : ℕ} → Names a b → Names b c → Names a c
  join {a} {b} {c} first second = record {
    forward = on a b c first.forward second.forward;
    stays = λ l. second.stays (first.stays l);
    each = λ j x lo hi at. ⊎_elim (λ lt. first.each j x lo lt at) (λ ge. second.each j x ge hi at) (cases_lt j b);
  }

  pub on_object : {G : Type 0} (o : Option ℕ) (F : ℕ → Type 0) (M : Type 0) → OnObject o F M → ((x : ℕ) → F x → G) → (M → G) → G
  on_object None F M i g h = h i
  on_object (Some x) F M i g h = g x i

  -- ---- the ends of expressions

  tested : (sense : Bool) (o : Operand) (to a b : ℕ) → FewIn o → One w (test sense o to) a b → Names a b
  tested true o to a b f i = one _ a b i (f, tt)
  tested false o to a b f i = one _ a b i (f, tt)

  pub ends : (m : Mode) (o : Operand) (a b : ℕ) → FewFor m → FewIn o → Ends w m o a b → Names a b
  ends Nowhere o a b fm f i = none a b i
  ends (To g) o a b fm f i = one _ a b i (fm, f)
  ends (If sense to) o a b fm f i = tested sense o to a b f i

  pub follows : (m : Mode) (t a b : ℕ) → Few t → Follows w m t a b → Names a b
  follows Nowhere t a b f i = none a b i
  follows (To g) t a b f i = none a b i
  follows (If sense to) t a b f i = tested sense (operand.Temporary t) to a b f i

  jumps : (b sense : Bool) (to p q : ℕ) → One w (truth_jump b sense to) p q → Names p q
  jumps true true to p q i = one _ p q i tt
  jumps false false to p q i = one _ p q i tt
  jumps true false to p q i = one _ p q i tt
  jumps false true to p q i = one _ p q i tt

  pub constantly : (m : Mode) (v : ℤ) (a b : ℕ) → FewFor m → Constantly w m v a b → Names a b
  constantly Nowhere v a b fm i = one _ a b i tt
  constantly (To g) v a b fm i = one _ a b i (fm, tt)
  constantly (If sense to) v a b fm i = jumps (truth v) sense to a b i

  -- ---- operations

  pub computes : (o : BinOp) (r : Reading) (g : Target) (x y : Operand) (t a b : ℕ) → FewTo g → FewIn x → FewIn y → Few t → Computes w o r g x y t a b → Names a b
  computes op.Mul r g x y t a b fg fx fy ft i = one _ a b i (fg, fx, fy)
  computes op.Div r g x y t a b fg fx fy ft i = one _ a b i (fg, fx, fy)
  computes op.Rem r g x y t a b fg fx fy ft i = one _ a b i (fg, fx, fy)
  computes op.Add r g x y t a b fg fx fy ft i = one _ a b i (fg, fx, fy)
  computes op.Sub r g x y t a b fg fx fy ft i = one _ a b i (fg, fx, fy)
  computes op.Shl r g x y t a b fg fx fy ft i = one _ a b i (fg, fx, fy)
  computes op.Shr r g x y t a b fg fx fy ft i = one _ a b i (fg, fx, fy)
  computes op.Less r g x y t a b fg fx fy ft i = one _ a b i (fg, fx, fy)
  computes op.Greater r g x y t a b fg fx fy ft i = one _ a b i (fg, fy, fx)
  computes op.LessEqual r g x y t a b fg fx fy ft i = join (one _ a i.0 i.1 (ft, fy, fx)) (one _ i.0 b i.2 (fg, ft, tt))
  computes op.GreaterEqual r g x y t a b fg fx fy ft i = join (one _ a i.0 i.1 (ft, fx, fy)) (one _ i.0 b i.2 (fg, ft, tt))
  computes op.Equal r g x y t a b fg fx fy ft i = one _ a b i (fg, fx, fy)
  computes op.NotEqual r g x y t a b fg fx fy ft i = one _ a b i (fg, fx, fy)
  computes op.BitAnd r g x y t a b fg fx fy ft i = one _ a b i (fg, fx, fy)
  computes op.BitXor r g x y t a b fg fx fy ft i = one _ a b i (fg, fx, fy)
  computes op.BitOr r g x y t a b fg fx fy ft i = one _ a b i (fg, fx, fy)

  pub thens : (o : BinOp) (r : Reading) (m : Mode) (x y : Operand) (t a b : ℕ) → FewFor m → FewIn x → FewIn y → Few t → Then w o r m x y t a b → Names a b
  thens o r m x y t a b fm fx fy ft i = join (computes o r (target_of m t) x y t a i.0 (target_few m t fm ft) fx fy ft i.1) (follows m t i.0 b ft i.2)

  compares : (o : BinOp) (r : Reading) (sense : Bool) (to : ℕ) (x y : Operand) (t a b : ℕ) → FewIn x → FewIn y → Few t → Compares w o r sense to x y t a b → Names a b
  compares op.Less r sense to x y t a b fx fy ft i = one _ a b i (fx, fy)
  compares op.Greater r sense to x y t a b fx fy ft i = one _ a b i (fy, fx)
  compares op.LessEqual r sense to x y t a b fx fy ft i = one _ a b i (fy, fx)
  compares op.GreaterEqual r sense to x y t a b fx fy ft i = one _ a b i (fx, fy)
  compares op.Equal r sense to x y t a b fx fy ft i = one _ a b i (fx, fy)
  compares op.NotEqual r sense to x y t a b fx fy ft i = one _ a b i (fx, fy)
  compares op.Mul r sense to x y t a b fx fy ft i = thens op.Mul r (If sense to) x y t a b tt fx fy ft i
  compares op.Div r sense to x y t a b fx fy ft i = thens op.Div r (If sense to) x y t a b tt fx fy ft i
  compares op.Rem r sense to x y t a b fx fy ft i = thens op.Rem r (If sense to) x y t a b tt fx fy ft i
  compares op.Add r sense to x y t a b fx fy ft i = thens op.Add r (If sense to) x y t a b tt fx fy ft i
  compares op.Sub r sense to x y t a b fx fy ft i = thens op.Sub r (If sense to) x y t a b tt fx fy ft i
  compares op.Shl r sense to x y t a b fx fy ft i = thens op.Shl r (If sense to) x y t a b tt fx fy ft i
  compares op.Shr r sense to x y t a b fx fy ft i = thens op.Shr r (If sense to) x y t a b tt fx fy ft i
  compares op.BitAnd r sense to x y t a b fx fy ft i = thens op.BitAnd r (If sense to) x y t a b tt fx fy ft i
  compares op.BitXor r sense to x y t a b fx fy ft i = thens op.BitXor r (If sense to) x y t a b tt fx fy ft i
  compares op.BitOr r sense to x y t a b fx fy ft i = thens op.BitOr r (If sense to) x y t a b tt fx fy ft i

  pub operates : (o : BinOp) (r : Reading) (m : Mode) (x y : Operand) (t a b : ℕ) → FewFor m → FewIn x → FewIn y → Few t → Operates w o r m x y t a b → Names a b
  operates o r Nowhere x y t a b fm fx fy ft i = thens o r Nowhere x y t a b fm fx fy ft i
  operates o r (To g) x y t a b fm fx fy ft i = thens o r (To g) x y t a b fm fx fy ft i
  operates o r (If sense to) x y t a b fm fx fy ft i = compares o r sense to x y t a b fx fy ft i

  -- ---- conversion; I is the code of the expression

  pub converts : (c : Bool) (I : Mode → ℕ → ℕ → Type 0) (u : IntType) (o : Operand) (g : Target) (a b : ℕ) → NextFor (To g) → NextIn o
      → ((m : Mode) (q : ℕ) → NextFor m → I m a q → Names a q) → Converts w c I u o g a b → Names a b
  converts true I u o g a b fg fo does i = does (To g) b fg i
  converts false I u o g a b fg fo does i = join (does (mode_of o) i.0 (next_mode o fo) i.1) (one _ i.0 b i.2 (next_for (To g) fg, next_in o fo))

  pub casts : (c : Bool) (I : Mode → ℕ → ℕ → Type 0) (u : IntType) (o : Operand) (m : Mode) (t a b : ℕ) → NextFor m → NextIn o → Few t
      → ((m : Mode) (q : ℕ) → NextFor m → I m a q → Names a q) → Casts w c I u o m t a b → Names a b
  casts true I u o m t a b fm fo ft does i = does m b fm i
  casts false I u o m t a b fm fo ft does i =
      join (does (mode_of o) i.0 (next_mode o fo) i.2)
      (join (one _ i.0 i.1 i.3 (target_few m t (next_for m fm) ft, next_in o fo)) (follows m t i.1 b ft i.4))

  -- ---- objects that change

  pub changes : (wide : Bool) (o : BinOp) (u of : IntType) (x : ℕ) (y : Operand) (t a b : ℕ) → FewIn y → Few t → Changes w wide o u of x y t a b → Names a b
  changes true o u of x y t a b fy ft i = computes o (reading_of of) (target.Object x) (operand.Object x) y t a b tt tt fy ft i
  changes false o u of x y t a b fy ft i =
      join (computes o (reading_of of) (target.Temporary t) (operand.Object x) y t a i.0 ft tt fy ft i.1) (one _ i.0 b i.2 (tt, ft))

  aside : (wide : Bool) (o : BinOp) (u of : IntType) (m : Mode) (x t a b : ℕ) → FewFor m → Few (t + 1) → StepsAside w wide o u of m x t a b → Names a b
  aside wide o u of m x t a b fm ft i =
      join (one _ a i.0 i.2 (one_less t ft, tt)) (join (changes wide o u of x (operand.Constant 1) (t + 1) i.0 i.1 tt ft i.3) (ends m (operand.Temporary t) i.1 b fm (one_less t ft) i.4))

  after : (wide : Bool) (o : BinOp) (u of : IntType) (m : Mode) (x t a b : ℕ) → NextFor m → Few (t + 1) → StepsAfter w wide o u of m x t a b → Names a b
  after wide o u of Nowhere x t a b fm ft i = changes wide o u of x (operand.Constant 1) t a b tt (one_less t ft) i
  after wide o u of (To (target.Temporary j)) x t a b fm ft i =
      join (one _ a i.0 i.1 (one_less j fm, tt)) (changes wide o u of x (operand.Constant 1) (j + 1) i.0 b tt fm i.2)
  after wide o u of (To (target.Kept j)) x t a b fm ft i = join (one _ a i.0 i.1 (fm, tt)) (changes wide o u of x (operand.Constant 1) t i.0 b tt (one_less t ft) i.2)
  after wide o u of (To (target.Object y)) x t a b fm ft i = aside wide o u of (To (target.Object y)) x t a b tt ft i
  after wide o u of (If sense to) x t a b fm ft i = aside wide o u of (If sense to) x t a b tt ft i

  pub steps_by : (moment : Moment) (wide : Bool) (o : BinOp) (u of : IntType) (m : Mode) (x t a b : ℕ) → NextFor m → Few (t + 1) → StepsBy w moment wide o u of m x t a b → Names a b
  steps_by typed.before wide o u of m x t a b fm ft i =
      join (changes wide o u of x (operand.Constant 1) t a i.0 tt (one_less t ft) i.1) (ends m (operand.Object x) i.0 b (next_for m fm) tt i.2)
  steps_by typed.after wide o u of m x t a b fm ft i = after wide o u of m x t a b fm ft i

  -- ---- values in memory

  parts_named : (s : Spot) (g : Target) (x : Operand) (size t a b : ℕ) → FewTo g → FewAt s → FewIn x → Few t → PartsNamed w s g x size t a b → Names a b
  parts_named s g x size t a b fg fs fx ft i = join (one _ a i.0 i.1 (ft, fs)) (one _ i.0 b i.2 (fg, ft, fx))

  pub parts : (s : Spot) (g : Target) (x : Operand) (size t a b : ℕ) → FewTo g → FewAt s → FewIn x → Few t → Parts w s g x size t a b → Names a b
  parts (place.At o) g x size t a b fg fs fx ft i = one _ a b i (fg, fs, fx)
  parts (place.Literal n) g x size t a b fg fs fx ft i = parts_named (place.Literal n) g x size t a b fg fs fx ft i
  parts (place.Static n) g x size t a b fg fs fx ft i = parts_named (place.Static n) g x size t a b fg fs fx ft i
  parts (place.Array n) g x size t a b fg fs fx ft i = parts_named (place.Array n) g x size t a b fg fs fx ft i
  parts (place.Element n j u) g x size t a b fg fs fx ft i = parts_named (place.Element n j u) g x size t a b fg fs fx ft i

  pub gets : (u : IntType) (s : Spot) (m : Mode) (t a b : ℕ) → FewFor m → FewAt s → Few t → Gets w u s m t a b → Names a b
  gets u s m t a b fm fs ft i = join (one _ a i.0 i.1 (target_few m t fm ft, fs)) (follows m t i.0 b ft i.2)

  pub puts : (c : Bool) (u : IntType) (o : Operand) (s : Spot) (m : Mode) (t a b : ℕ) → FewFor m → FewIn o → FewAt s → Few t → Puts w c u o s m t a b → Names a b
  puts true u o s m t a b fm fo fs ft i = join (one _ a i.0 i.1 (fo, fs)) (ends m o i.0 b fm fo i.2)
  puts false u o s m t a b fm fo fs ft i =
      join (one _ a i.0 i.2 (ft, fo)) (join (one _ i.0 i.1 i.3 (ft, fs)) (ends m (operand.Temporary t) i.1 b fm ft i.4))

  pub alters : (o : BinOp) (u of : IntType) (x : Operand) (s : Spot) (m : Mode) (j a b : ℕ) → FewFor m → FewIn x → FewAt s → Few j → Alters w o u of x s m j a b → Names a b
  alters o u of x s m j a b fm fx fs fj i =
      join (computes o (reading_of of) (target.Temporary j) (operand.Temporary j) x j a i.0 fj fj fx fj i.1)
      (puts (cuts u m || is_wide u) u (operand.Temporary j) s m j i.0 b fm fj fs fj i.2)

  alters_aside : (o : BinOp) (u of : IntType) (s : Spot) (m : Mode) (j a b : ℕ) → FewFor m → FewAt s → Few (j + 1) → AltersAside w o u of s m j a b → Names a b
  alters_aside o u of s m j a b fm fs fj i =
      join (computes o (reading_of of) (target.Temporary (j + 1)) (operand.Temporary j) (operand.Constant 1) (j + 1) a i.0 fj (one_less j fj) tt fj i.2)
      (join (puts (cuts u Nowhere || is_wide u) u (operand.Temporary (j + 1)) s Nowhere (j + 1) i.0 i.1 tt fj fs fj i.3)
      (ends m (operand.Temporary j) i.1 b fm (one_less j fj) i.4))

  pub alters_by : (moment : Moment) (o : BinOp) (u of : IntType) (s : Spot) (m : Mode) (j a b : ℕ) → FewFor m → FewAt s → Few (j + 1) → AltersBy w moment o u of s m j a b → Names a b
  alters_by typed.before o u of s m j a b fm fs fj i = alters o u of (operand.Constant 1) s m j a b fm tt fs (one_less j fj) i
  alters_by typed.after o u of s Nowhere j a b fm fs fj i = alters o u of (operand.Constant 1) s Nowhere j a b fm tt fs (one_less j fj) i
  alters_by typed.after o u of s (To g) j a b fm fs fj i = alters_aside o u of s (To g) j a b fm fs fj i
  alters_by typed.after o u of s (If sense to) j a b fm fs fj i = alters_aside o u of s (If sense to) j a b fm fs fj i

  -- ---- calls

  pub hands_over : (s : Spot) (t a b : ℕ) → FewAt s → Few t → HandsOver w s t a b → Names a b
  hands_over (place.At (operand.Temporary j)) t a b fs ft i = none a b i
  hands_over (place.At (operand.Kept j)) t a b fs ft i = one _ a b i (ft, fs)
  hands_over (place.At (operand.Object j)) t a b fs ft i = one _ a b i (ft, fs)
  hands_over (place.At (operand.Parameter j)) t a b fs ft i = one _ a b i (ft, fs)
  hands_over (place.At (operand.Constant j)) t a b fs ft i = one _ a b i (ft, fs)
  hands_over (place.Literal n) t a b fs ft i = one _ a b i (ft, fs)
  hands_over (place.Static n) t a b fs ft i = one _ a b i (ft, fs)
  hands_over (place.Array n) t a b fs ft i = one _ a b i (ft, fs)
  hands_over (place.Element n j u) t a b fs ft i = one _ a b i (ft, fs)

  pub loads : (c : Bool) (u : IntType) (o : Operand) (t a b : ℕ) → FewIn o → Few t → Loads w c u o t a b → Names a b
  loads false u o t a b fo ft i = one _ a b i (ft, fo)
  loads true u (operand.Temporary j) t a b fo ft i = none a b i
  loads true u (operand.Kept j) t a b fo ft i = one _ a b i (ft, fo)
  loads true u (operand.Object j) t a b fo ft i = one _ a b i (ft, fo)
  loads true u (operand.Parameter j) t a b fo ft i = one _ a b i (ft, fo)
  loads true u (operand.Constant j) t a b fo ft i = one _ a b i (ft, fo)

  pub calls_few : (callee : Callee) (m : Mode) (a b : ℕ) → FewFor m → Calls w callee m a b → Names a b
  calls_few (typed.function f) m a b fm i = join (one _ a i.0 i.1 tt) (ends m (operand.Temporary 0) i.0 b fm nothing_few i.2)
  calls_few typed.get_byte m a b fm i = join (one _ a i.0 i.1 tt) (ends m (operand.Temporary 0) i.0 b fm nothing_few i.2)
  calls_few typed.put_byte m a b fm i = join (one _ a i.0 i.1 tt) (ends m zero_word i.0 b fm tt i.2)
  calls_few typed.exit m a b fm i = one _ a b i tt
  calls_few (typed.missing name) m a b fm i = ends m zero_word a b fm tt i

  -- ---- truths

  pub truths : (g : Target) (a other b : ℕ) → FewTo g → Truths w g a other b → Names a b
  truths g a other b fg i = join (one _ a i.0 i.1 (fg, tt)) (join (one _ i.0 other i.2 tt) (one _ other b i.3 (fg, tt)))
