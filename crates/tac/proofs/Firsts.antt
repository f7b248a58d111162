-- First values of objects, by their types.
use Rattle.std.proofs.Common.{◌≡◌, ℕ, ◌<◌, ◌≤◌, List, [], ◌∷◌, map, length, Option, Some, None, refl, ap, sym, ◌∙◌, subst, arith}
use Rattle.std.specs.Prelude.{slice_get, option_map}
use Rattle.std.proofs.lemmas.Option.{slice_get-map}
use Rattle.ctypes.specs.declared.types.IntType.{IntType}
use Rattle.typing_spec.specs.Types.{ObjectType}
use Rattle.typing_spec.specs.Program as typed
use Rattle.typing_spec.specs.Program.{Initialiser}
use Rattle.tac_code.specs.declared.code.Instruction.{Instruction}
use Rattle.lower_correct.specs.Bodies.{InitialisesWord, InitialisesObject, Initialises}
use Rattle.lower_ops.specs.layer.Parts.{Wrote}
use Rattle.lower_ops.proofs.Parts.{none_wrote}
use Rattle.tac.specs.inside.FirstSizes.{word_size, fills_size, first_size}
use Rattle.tac.specs.inside.Written.{WroteFills, WroteInitialises}

-- a look-up among the types of objects
pub looked_up : {A B C : Type 0} (F : Option B → C) (f : A → B) (xs : List A) (i : ℕ) (o : Option A) → slice_get xs i ≡ o → F (option_map f o) ≡ F (slice_get (map f xs) i)
looked_up F f xs i o e = sym (ap F (slice_get-map f xs i ∙ ap (option_map f) e))

-- ---- sizes

pub word_sized : (texts : List (List ℕ)) (lengths : List ℕ) (i : Initialiser) → length lengths ≡ 0 → word_size i ≡ first_size texts lengths i
word_sized texts [] i h = refl
word_sized texts (k ∷ lengths) i h = absurd (omega (arith, h))

pub array_sized : (texts : List (List ℕ)) (lengths : List ℕ) (i : Initialiser) → 1 ≤ length lengths → fills_size texts i lengths ≡ first_size texts lengths i
array_sized texts [] i h = absurd (omega (arith, h))
array_sized texts (k ∷ lengths) i h = refl

-- ---- code

module _ (p : typed.Program) (f : typed.Function) (i : Initialiser) (n : ℕ) where
  pub no_object : (o : Option ObjectType) (c : List Instruction) → o ≡ None → length c < 9223372036854775808 → WroteInitialises p f o i n c c
  no_object o c e l = subst (λ k. WroteInitialises p f k i n c c) (sym e) (none_wrote (λ w pc pc2. Initialises w p f None i n pc pc2) c c refl l (λ w. refl))

  word_object : (t : IntType) (lengths : List ℕ) {c0 c1 : List Instruction} → length lengths ≡ 0
      → Wrote (λ w pc pc2. InitialisesWord w p f i n pc pc2) (word_size i) c0 c1
      → Wrote (λ w pc pc2. InitialisesObject w p f t lengths i n pc pc2) (first_size p.literals lengths i) c0 c1
  word_object t [] {c0} {c1} h x = x
  word_object t (k ∷ lengths) {c0} {c1} h x = absurd (omega (arith, h))

  array_object : (t : IntType) (lengths : List ℕ) {c0 c1 : List Instruction} → 1 ≤ length lengths
      → WroteFills p f i lengths (record { element = t; array = n; number = 0 }) c0 c1
      → Wrote (λ w pc pc2. InitialisesObject w p f t lengths i n pc pc2) (first_size p.literals lengths i) c0 c1
  array_object t [] {c0} {c1} h x = absurd (omega (arith, h))
  array_object t (k ∷ lengths) {c0} {c1} h x = x

  pub word_initialised : (t : ObjectType) {c0 c1 : List Instruction} → length t.lengths ≡ 0
      → Wrote (λ w pc pc2. InitialisesWord w p f i n pc pc2) (word_size i) c0 c1 → WroteInitialises p f (Some t) i n c0 c1
  word_initialised t {c0} {c1} h x = word_object t.element t.lengths h x

  pub array_initialised : (t : ObjectType) {c0 c1 : List Instruction} → 1 ≤ length t.lengths
      → WroteFills p f i t.lengths (record { element = t.element; array = n; number = 0 }) c0 c1 → WroteInitialises p f (Some t) i n c0 c1
  array_initialised t {c0} {c1} h x = array_object t.element t.lengths h x
