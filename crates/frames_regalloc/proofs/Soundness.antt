-- A renumbered program is as sound.
use Rattle.std.proofs.Common.{◌≡◌, ◌≤◌, ◌<◌, ℕ, zero, suc, ◌+◌, List, [], ◌∷◌, length, map, Some, refl, sym, ap, ◌∙◌, subst, arith}
use Rattle.std.specs.Prelude.{slice_get}
use Rattle.std.proofs.lemmas.List.{length-map}
use Rattle.std.proofs.lemmas.List.Sums.{sum_by-cons}
use Rattle.frames_code.specs.declared.code.Operand.{Operand}
use Rattle.frames_code.specs.declared.code.Operand.TheVariants as operand
use Rattle.frames_code.specs.declared.code.Target.{Target}
use Rattle.frames_code.specs.declared.code.Target.TheVariants as target
use Rattle.frames_code.specs.declared.code.Base.{Base}
use Rattle.frames_code.specs.declared.code.Base.TheVariants as base
use Rattle.frames_code.specs.declared.code.Location.{Location}
use Rattle.frames_code.specs.declared.code.Location.TheVariants as location
use Rattle.frames_code.specs.declared.code.Instruction.{Instruction}
use Rattle.frames_code.specs.declared.code.Instruction.TheVariants as instruction
use Rattle.frames_code.specs.Code.{Function}
use Rattle.frames_code.specs.Sound.{OperandFits, TargetFits, BaseFits, IndexFits, LocationFits, InstructionFits, FunctionFits, places_of}
use Rattle.frames_regalloc.specs.Renumbered.{renumbered, renumbered_operand, renumbered_target, renumbered_location, renumbered_function, IsRenumberedFunction, AreRenumbered}
use Rattle.frames_regalloc.specs.Laws.{StaysSound}

each_in_map : {A B : Type 0} (P : B → Type 0) (h : A → B) (xs : List A) → ((k : ℕ) (x : A) → slice_get xs k ≡ Some x → P (h x)) → (k : ℕ) (y : B) → slice_get (map h xs) k ≡ Some y → P y
each_in_map P h [] a k y e = absurd (let x : ⊥ = cc in x)
each_in_map P h (z ∷ zs) a zero y e = let same : h z ≡ y = cc in subst P same (a zero z refl)
each_in_map P h (z ∷ zs) a (suc k) y e = each_in_map P h zs (λ j x g. a (suc j) x g) k y e

module _ (n : ℕ) (f : Function) (to : ℕ → ℕ) (resident : ℕ) (inside : (c : ℕ) → c < f.cells → to c < f.cells) where
  abbrev g : Function
  g = renumbered_function to resident f

  operand_fits : (x : Operand) → OperandFits f x → OperandFits g (renumbered_operand to x)
  operand_fits (operand.Temporary k) h = h
  operand_fits (operand.Cell c) h = inside c h
  operand_fits (operand.Constant v) h = h
  operand_fits (operand.Argument k) h = h

  target_fits : (d : Target) → TargetFits f d → TargetFits g (renumbered_target to d)
  target_fits (target.Temporary k) h = h
  target_fits (target.Cell c) h = inside c h

  base_fits : (b : Base) → BaseFits f b → BaseFits g b
  base_fits (base.Statics o) h = h
  base_fits (base.Frame o) h = h

  index_fits : (y : Operand) → IndexFits f y → IndexFits g (renumbered_operand to y)
  index_fits (operand.Temporary k) h = h
  index_fits (operand.Cell c) h = inside c h
  index_fits (operand.Constant v) h = absurd h
  index_fits (operand.Argument k) h = absurd h

  location_fits : (l : Location) → LocationFits f l → LocationFits g (renumbered_location to l)
  location_fits (location.Statics o) h = h
  location_fits (location.Frame o) h = h
  location_fits (location.At x) h = operand_fits x h
  location_fits (location.Indexed b y size) h = (base_fits b h.0, index_fits y h.1, h.2, h.3)

  jump_fits : (k : ℕ) → k < length f.code → k < length g.code
  jump_fits k h = subst (λ m. k < m) (sym (length-map f.code (renumbered to))) h

  instruction_fits : (x : Instruction) → InstructionFits n f x → InstructionFits n g (renumbered to x)
  instruction_fits instruction.Nothing h = tt
  instruction_fits (instruction.Move d x) h = (target_fits d h.0, operand_fits x h.1)
  instruction_fits (instruction.Compute o d x y) h = (target_fits d h.0, operand_fits x h.1, operand_fits y h.2)
  instruction_fits (instruction.Convert c d x) h = (target_fits d h.0, operand_fits x h.1)
  instruction_fits (instruction.Load w d l) h = (target_fits d h.0, location_fits l h.1)
  instruction_fits (instruction.Store w x l) h = (operand_fits x h.0, location_fits l h.1)
  instruction_fits (instruction.Address d l) h = (target_fits d h.0, location_fits l h.1)
  instruction_fits (instruction.Element d x y size) h = (target_fits d h.0, operand_fits x h.1, operand_fits y h.2, h.3)
  instruction_fits (instruction.Jump k) h = jump_fits k h
  instruction_fits (instruction.Branch t x y k) h = (operand_fits x h.0, operand_fits y h.1, jump_fits k h.2)
  instruction_fits (instruction.Call k) h = h
  instruction_fits instruction.PutByte h = tt
  instruction_fits instruction.GetByte h = tt
  instruction_fits instruction.Exit h = tt
  instruction_fits instruction.Return h = tt

  function_fits : resident ≤ f.resident → FunctionFits n f → FunctionFits n g
  function_fits fewer fits = record {
    small = fits.small;
    few = omega (arith, fewer, fits.few);
    all = omega (arith, fewer, fits.all);
    each = each_in_map (InstructionFits n g) (renumbered to) f.code (λ k x e. instruction_fits x (fits.each k x e));
  }

one_fits : (n : ℕ) (f g : Function) → IsRenumberedFunction f g → FunctionFits n f → FunctionFits n g
one_fits n f g r fits = subst (FunctionFits n) (sym r.is) (function_fits n f r.to g.resident r.inside r.few fits)

all_fit : (n : ℕ) (fs gs : List Function) → AreRenumbered fs gs → ((k : ℕ) (f : Function) → slice_get fs k ≡ Some f → FunctionFits n f) → (k : ℕ) (g : Function) → slice_get gs k ≡ Some g → FunctionFits n g
all_fit n [] [] r fit k g e = absurd (let x : ⊥ = cc in x)
all_fit n [] (y ∷ ys) r fit k g e = absurd r
all_fit n (x ∷ xs) [] r fit k g e = absurd r
all_fit n (x ∷ xs) (y ∷ ys) r fit zero g e = let same : y ≡ g = cc in subst (FunctionFits n) same (one_fits n x y r.0 (fit zero x refl))
all_fit n (x ∷ xs) (y ∷ ys) r fit (suc k) g e = all_fit n xs ys r.1 (λ j. fit (suc j)) k g e

pub same_count : (fs gs : List Function) → AreRenumbered fs gs → length gs ≡ length fs
same_count [] [] r = refl
same_count [] (g ∷ gs) r = absurd r
same_count (f ∷ fs) [] r = absurd r
same_count (f ∷ fs) (g ∷ gs) r = ap suc (same_count fs gs r.1)

same_places : (fs gs : List Function) → AreRenumbered fs gs → places_of gs ≡ places_of fs
same_places [] [] r = refl
same_places [] (g ∷ gs) r = absurd r
same_places (f ∷ fs) [] r = absurd r
same_places (f ∷ fs) (g ∷ gs) r =
    let one : length g.code ≡ length f.code = ap (λ (h : Function). length h.code) r.0.is ∙ length-map f.code (renumbered r.0.to) in
    omega (arith, one, same_places fs gs r.1, sum_by-cons (λ (h : Function). length h.code + 1) f fs, sum_by-cons (λ (h : Function). length h.code + 1) g gs)

pub stays_sound : StaysSound
stays_sound p q same sound =
    let count = same_count p.functions q.functions same.functions in
    let places = same_places p.functions q.functions same.functions in
    record {
      has_main = omega (arith, count, same.main, sound.has_main);
      each = λ k g e. subst (λ n. FunctionFits n g) (sym count) (all_fit (length p.functions) p.functions q.functions same.functions sound.each k g e);
      statics = subst (λ xs. length xs ≤ 0x10000000) (sym same.statics) sound.statics;
      countable = omega (arith, count, places, sound.countable);
    }
