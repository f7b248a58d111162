-- Functions and programs of the instructions written.
use Rattle.std.proofs.Common.{◌≡◌, ℕ, zero, suc, ◌+◌, ◌<◌, Bool, max, List, [], ◌∷◌, ◌++◌, take, get_or, length, map, Option, Some, None, refl, ap, sym, ◌∙◌, subst, length-append, arith}
use Rattle.std.specs.Prelude.{slice_get, nat_eq}
use Rattle.std.proofs.lemmas.List.{take_more}
use Rattle.typing_spec.specs.Program as typed
use Rattle.tac_code.specs.declared.code.Instruction.{Instruction}
use Rattle.tac_code.specs.declared.code.Instruction.TheVariants as instruction
use Rattle.tac_code.specs.Code.{Function, Program, function_at, or_no_function}
use Rattle.tac_code.specs.Lowered.{kind_of}
use Rattle.lower_correct.specs.Code.{One}
use Rattle.lower_correct.specs.Bodies.{Idles, Closes, most, temporaries_of, IsCodeFor}
use Rattle.lower_ops.specs.layer.Parts.{plus, Wrote}
use Rattle.tac.specs.inside.Sizes.{statement_size}
use Rattle.tac.specs.inside.Written.{WroteStatement}
use Rattle.tac.specs.layer.Functions.{parameters_if, parameters_at, temporaries_with, IsBodyOf, IsFunctionWith, FunctionIsCode, FunctionsAreCode}
use Rattle.tac.specs.inside.Functions.{AreFunctionsOf}
use Rattle.lower_ops.proofs.Parts.{as_wrote, begins_all, begins_on, reach_one}

-- ---- the most of instructions

max_none : (n : ℕ) → max n 0 ≡ max 0 n
max_none n = omega arith

max_assoc : (k m n : ℕ) → max k (max m n) ≡ max (max k m) n
max_assoc k m n = omega arith

most_snoc : (size : Instruction → ℕ) (xs : List Instruction) (y : Instruction) → most size (xs ++ y ∷ []) ≡ max (most size xs) (size y)
most_snoc size [] y = max_none (size y)
most_snoc size (x ∷ xs) y = ap (λ n. max (size x) n) (most_snoc size xs y) ∙ max_assoc (size x) (most size xs) (size y)

pub most_next : (size : Instruction → ℕ) (xs : List Instruction) (i : ℕ) (x : Instruction) → i < length xs → (old more next : ℕ) → old ≡ most size (take i xs) → more ≡ size (get_or xs i x) → next ≡ max old more
    → next ≡ most size (take (i + 1) xs)
most_next size xs i x l old more next a m n =
    n ∙ ap (λ k. max k more) a ∙ ap (λ k. max (most size (take i xs)) k) m ∙ sym (ap (most size) (take_more xs i x l) ∙ most_snoc size (take i xs) (get_or xs i x))

-- ---- ticks at entry

pub idles_begin : {c0 c1 : List Instruction} → Wrote (λ w p q. One w instruction.Nothing p q) 1 c0 c1 → Wrote (λ w p q. Idles w 1 p q) 1 c0 c1
idles_begin {c0} {c1} x = as_wrote (λ w p q. Idles w 1 p q) x (λ w h. (length c1, h, refl))

idles_snoc : (w : List Instruction) (n p q r : ℕ) → Idles w n p q → One w instruction.Nothing q r → Idles w (suc n) p r
idles_snoc w zero p q r h one = (r, subst (λ k. One w instruction.Nothing k r) (sym h) one, refl)
idles_snoc w (suc n) p q r h one = (h.0, h.1, idles_snoc w n h.0 q r h.2 one)

pub idles_next : (n m : ℕ) → m ≡ suc n → {c0 c1 c2 : List Instruction} → Wrote (λ w p q. Idles w n p q) n c0 c1 → Wrote (λ w p q. One w instruction.Nothing p q) 1 c1 c2
    → Wrote (λ w p q. Idles w m p q) m c0 c2
idles_next n m e {c0} {c1} {c2} x0 x1 = subst (λ k. Wrote (λ w p q. Idles w k p q) k c0 c2) (sym e) (record {
  begins = begins_on x0.begins x1.begins;
  grows = omega (arith, x0.grows, x1.grows);
  short = x1.short;
  stands = λ w h. idles_snoc w n (length c0) (length c1) (length c2) (x0.stands w (begins_on x1.begins h)) (x1.stands w h);
})

pub idles_all : (n m : ℕ) → n ≡ m → {c0 c1 : List Instruction} → Wrote (λ w p q. Idles w (suc n) p q) (suc n) c0 c1 → Wrote (λ w p q. Idles w (suc m) p q) (suc m) c0 c1
idles_all n m e {c0} {c1} x = subst (λ k. Wrote (λ w p q. Idles w (suc k) p q) (suc k) c0 c1) e x

-- ---- one function

pub body_written : (p : typed.Program) (m : Bool) (f : typed.Function) (end back : ℕ) {c0 c1 c2 c3 c4 : List Instruction} → c0 ≡ []
    → end ≡ plus (length c1) (statement_size p f f.body) → back ≡ plus end 1
    → Wrote (λ w pc pc2. Idles w (suc (length f.type.parameters)) pc pc2) (suc (length f.type.parameters)) c0 c1 → WroteStatement p f f.body end end back c1 c2
    → Wrote (λ w pc pc2. Closes w m pc pc2) 1 c2 c3 → Wrote (λ w pc pc2. One w instruction.Return pc pc2) 1 c3 c4 → IsBodyOf p m f c4
body_written p m f end back {c0} {c1} {c2} {c3} {c4} none h1 h2 x0 x1 x2 x3 =
    let at_end : end ≡ length c2 = reach_one end (length c1) (statement_size p f f.body) (length c2) h1 x1.grows x1.short in
    let at_back : back ≡ length c3 = reach_one back (length c2) 1 (length c3) (h2 ∙ ap (λ k. plus k 1) at_end) x2.grows x2.short in
    let y1 = subst (λ k. WroteStatement p f f.body (length c2) (length c2) k c1 c2) at_back (subst (λ k. WroteStatement p f f.body k k back c1 c2) at_end x1) in
    let b3 = begins_on x3.begins (begins_all c4) in
    let b2 = begins_on x2.begins b3 in
    let b1 = begins_on y1.begins b2 in
    record {
      start = length c1;
      end = length c2;
      back = length c3;
      idles = subst (λ k. Idles c4 (suc (length f.type.parameters)) k (length c1)) (ap length none) (x0.stands c4 b1);
      body = y1.stands c4 b2;
      closes = x2.stands c4 b3;
      leaves = x3.stands c4 (begins_all c4);
    }

-- ---- all functions

same_some : {A : Type 0} (x y : A) → Some x ≡ Some y → x ≡ y
same_some x y e = cc

pub item_in_map : {A B : Type 0} (f : A → B) (xs : List A) (i : ℕ) (x : A) → i < length xs → x ≡ get_or xs i x → slice_get (map f xs) i ≡ Some (f x)
item_in_map f [] i x lt e = absurd (omega (arith, lt))
item_in_map f (y ∷ xs) zero x lt e = ap (λ z. Some (f z)) (sym e)
item_in_map f (y ∷ xs) (suc i) x lt e = item_in_map f xs i x (omega (arith, lt)) e

pub each_snoc : {F G : Type 0} (P : ℕ → F → G → Type 0) (fs : List F) (gs : List G) (f0 : F) (g0 : G) → slice_get fs (length gs) ≡ Some f0 → P (length gs) f0 g0
    → ((n : ℕ) (f : F) (g : G) → slice_get fs n ≡ Some f → slice_get gs n ≡ Some g → P n f g)
    → (n : ℕ) (f : F) (g : G) → slice_get fs n ≡ Some f → slice_get (gs ++ g0 ∷ []) n ≡ Some g → P n f g
each_snoc P [] gs f0 g0 there last each n f g e h = absurd (let z : ⊥ = cc in z)
each_snoc P (x ∷ fs) [] f0 g0 there last each zero f g e h =
    subst (λ k. P 0 f k) (same_some g0 g h) (subst (λ k. P 0 k g0) (sym (same_some x f0 there) ∙ same_some x f e) last)
each_snoc P (x ∷ fs) [] f0 g0 there last each (suc n) f g e h = absurd (let z : ⊥ = cc in z)
each_snoc P (x ∷ fs) (y ∷ gs) f0 g0 there last each zero f g e h = each zero f g e h
each_snoc P (x ∷ fs) (y ∷ gs) f0 g0 there last each (suc n) f g e h =
    each_snoc (λ k. P (suc k)) fs gs f0 g0 there last (λ k a b u v. each (suc k) a b u v) n f g e h

pub no_functions : (p : typed.Program) → AreFunctionsOf p 0 []
no_functions p = record { count = refl; each = λ n f g e h. absurd (let z : ⊥ = cc in z) }

pub one_more_function : (p : typed.Program) (n : ℕ) (old : List Function) (f : typed.Function) (g : Function) → slice_get p.functions n ≡ Some f → AreFunctionsOf p n old
    → IsFunctionWith p (nat_eq n p.main) f g → AreFunctionsOf p (n + 1) (old ++ g ∷ [])
one_more_function p n old f g there x last =
    let count : length old ≡ n = x.count in
    record {
      count = length-append old (g ∷ []) ∙ ap (λ k. k + 1) count;
      each = each_snoc (λ k a b. IsFunctionWith p (nat_eq k p.main) a b) p.functions old f g (ap (slice_get p.functions) count ∙ there) (subst (λ k. IsFunctionWith p (nat_eq k p.main) f g) (sym count) last) x.each;
    }

-- ---- the whole program

pub length_map : {A B : Type 0} (f : A → B) (xs : List A) → length (map f xs) ≡ length xs
length_map f [] = refl
length_map f (x ∷ xs) = ap suc (length_map f xs)

same_at : {F G : Type 0} (a : Option F → ℕ) (b : Option G → ℕ) → b None ≡ a None → (fs : List F) (gs : List G) → length gs ≡ length fs
    → ((n : ℕ) (f : F) (g : G) → slice_get fs n ≡ Some f → slice_get gs n ≡ Some g → b (Some g) ≡ a (Some f)) → (k : ℕ) → b (slice_get gs k) ≡ a (slice_get fs k)
same_at a b none [] [] l each k = none
same_at a b none [] (g ∷ gs) l each k = absurd (omega (arith, l))
same_at a b none (f ∷ fs) [] l each k = absurd (omega (arith, l))
same_at a b none (f ∷ fs) (g ∷ gs) l each zero = each zero f g refl refl
same_at a b none (f ∷ fs) (g ∷ gs) l each (suc k) = same_at a b none fs gs (omega (arith, l)) (λ n x y u v. each (suc n) x y u v) k

same_temporaries : (q : Program) (count : ℕ → ℕ) → ((f : ℕ) → length (function_at q f).parameters ≡ count f) → (i : Instruction) → temporaries_with count i ≡ temporaries_of q i
same_temporaries q count h instruction.Nothing = refl
same_temporaries q count h (instruction.Move g x) = refl
same_temporaries q count h (instruction.Compute o r g x y) = refl
same_temporaries q count h (instruction.Convert t g x) = refl
same_temporaries q count h (instruction.Load t g l) = refl
same_temporaries q count h (instruction.Store t x l) = refl
same_temporaries q count h (instruction.Address g l) = refl
same_temporaries q count h (instruction.Part g x y s) = refl
same_temporaries q count h (instruction.Element t g x y) = refl
same_temporaries q count h (instruction.Forget n k) = refl
same_temporaries q count h (instruction.Jump to) = refl
same_temporaries q count h (instruction.Branch c r x y to) = refl
same_temporaries q count h (instruction.Call f) = ap (λ n. max 1 n) (sym (h f))
same_temporaries q count h instruction.PutByte = refl
same_temporaries q count h instruction.GetByte = refl
same_temporaries q count h instruction.Exit = refl
same_temporaries q count h instruction.Return = refl

same_most : (s t : Instruction → ℕ) → ((i : Instruction) → s i ≡ t i) → (code : List Instruction) → most s code ≡ most t code
same_most s t h [] = refl
same_most s t h (i ∷ code) = ap (λ n. max n (most s code)) (h i) ∙ ap (λ n. max (t i) n) (same_most s t h code)

pub function_is_code : FunctionIsCode
function_is_code p q counts is_main f g x = record {
  start = x.code.start;
  end = x.code.end;
  back = x.code.back;
  idles = x.code.idles;
  body = x.code.body;
  closes = x.code.closes;
  leaves = x.code.leaves;
  objects = x.objects;
  parameters = x.parameters;
  result = x.result;
  temporaries = x.temporaries ∙ same_most (temporaries_with (parameters_at p.functions)) (temporaries_of q) (same_temporaries q (parameters_at p.functions) counts) g.code;
  kept = x.kept;
}

pub functions_are_code : FunctionsAreCode
functions_are_code p q literals statics main count each =
    let counts : (f : ℕ) → length (function_at q f).parameters ≡ parameters_at p.functions f =
    same_at parameters_if (λ g. length (or_no_function g).parameters) refl p.functions q.functions count (λ n f g e h. ap length (each n f g e h).parameters ∙ length_map kind_of f.type.parameters) in
    record {
      literals = literals;
      statics = statics;
      main = main;
      count = count;
      each = λ n f g e h. function_is_code p q counts (nat_eq n p.main) f g (each n f g e h);
    }

pub program_written : (p : typed.Program) (q : Program) (n : ℕ) → AreFunctionsOf p n q.functions → n ≡ length p.functions
    → q.literals ≡ p.literals → q.statics ≡ p.statics → q.main ≡ p.main → IsCodeFor p q
program_written p q n0 all same literals statics main = functions_are_code p q literals statics main (all.count ∙ same) all.each
