-- Each instruction, and one step.
use Rattle.std.proofs.Common.{◌≡◌, ◌⊎◌, inl, inr, ⊎_elim, ℕ, zero, suc, ◌+◌, ◌*◌, ◌<◌, ◌≤◌, List, [], ◌∷◌, ◌++◌, length, map, Option, Some, None, refl, sym, ap, ◌∙◌, subst, arith}
use Rattle.std.specs.Prelude.{slice_get}
use Rattle.std.proofs.lemmas.Bool.{cases_lt}
use Rattle.ctypes.specs.declared.types.IntType.{IntType}
use Rattle.ctypes.specs.declared.types.IntType.TheVariants as ty
use Rattle.csem.specs.Store.{Tree, Reference}
use Rattle.csem.specs.History.{Entry}
use Rattle.tac_code.specs.declared.code.Instruction.{Instruction}
use Rattle.tac_code.specs.declared.code.Instruction.TheVariants as instruction
use Rattle.tac_code.specs.Code.{Program, Function, function_at}
use Rattle.tac_code.specs.Costs as tac_costs
use Rattle.tac_code.specs.Run.{State, Progress, running, ended, stuck, step, act, begun, entered, numbers_in, arrays_in, instruction_at, open_calls, ◌>>=◌}
use Rattle.tac_code.specs.Sound.{InstructionFits}
use Rattle.frames_code.specs.Code as flat_code
use Rattle.frames_code.specs.Costs as flat_costs
use Rattle.frames_code.specs.Run as flat
use Rattle.frames_code.specs.Run.{active}
use Rattle.frames_code.specs.declared.code.Target as flat_target
use Rattle.frames_code.specs.declared.code.Operand as flat_operand
use Rattle.frames_code.specs.declared.code.Instruction as flat_instruction
use Rattle.frames_code.specs.declared.code.Instruction.TheVariants as flat_instructions
use Rattle.frames.specs.Layout.{Starts, Layout, layout_of, starts_of}
use Rattle.frames.specs.Translated.{translated, moves_from, conversion_of, target_of, operand_of}
use Rattle.frames.specs.Flattened.{IsAtCall}
use Rattle.frames.proofs.Sound.{length_moves}
use Rattle.frames_correct.specs.Matched.{Matched, Alike}
use Rattle.frames_correct.specs.Laws.{HasCallsOf, HasCallsAfter, Comes, Follows}
use Rattle.frames_correct.proofs.Lists.{get_right, get_map}
use Rattle.frames_correct.proofs.Frames.{functions_same}
use Rattle.frames_correct.proofs.Ground.{IsMadeOf, function_is}
use Rattle.frames_correct.proofs.Computing.{does_nothing, does_move, does_compute, does_convert, does_jump, does_branch}
use Rattle.frames_correct.proofs.Outside.{does_put, does_get, does_exit}
use Rattle.frames_correct.proofs.References.{does_address, does_part, does_element}
use Rattle.frames_correct.proofs.Storing.{does_load, does_store}
use Rattle.frames_correct.proofs.Forgetting.{does_forget}
use Rattle.frames_correct.proofs.Returning.{does_return}
use Rattle.frames_correct.proofs.Moving.{step_is, moving, IsAtMove}
use Rattle.frames_correct.proofs.Calling.{arguments_moved, begun_matched, begun_state}
use Rattle.frames_correct.proofs.AtCalls.{at_call}

-- ---- instructions but for calls

abbrev pub IsNoCall : Instruction → Type 0
IsNoCall instruction.Nothing = Unit {0}
IsNoCall (instruction.Move d x) = Unit {0}
IsNoCall (instruction.Compute o r d x y) = Unit {0}
IsNoCall (instruction.Convert e d x) = Unit {0}
IsNoCall (instruction.Load e d l) = Unit {0}
IsNoCall (instruction.Store e x l) = Unit {0}
IsNoCall (instruction.Address d l) = Unit {0}
IsNoCall (instruction.Part d x y size) = Unit {0}
IsNoCall (instruction.Element e d x y) = Unit {0}
IsNoCall (instruction.Forget n k) = Unit {0}
IsNoCall (instruction.Jump to) = Unit {0}
IsNoCall (instruction.Branch c r x y to) = Unit {0}
IsNoCall (instruction.Call g) = ⊥
IsNoCall instruction.PutByte = Unit {0}
IsNoCall instruction.GetByte = Unit {0}
IsNoCall instruction.Exit = Unit {0}
IsNoCall instruction.Return = Unit {0}

conversion_cost : (e : IntType) (d : flat_target.Target) (x : flat_operand.Operand) → flat_costs.cost (conversion_of e d x) ≤ 8
conversion_cost ty.Bool d x = omega arith
conversion_cost ty.Char d x = omega arith
conversion_cost ty.SChar d x = omega arith
conversion_cost ty.UChar d x = omega arith
conversion_cost ty.Short d x = omega arith
conversion_cost ty.UShort d x = omega arith
conversion_cost ty.Int d x = omega arith
conversion_cost ty.UInt d x = omega arith
conversion_cost ty.Long d x = omega arith
conversion_cost ty.ULong d x = omega arith

pub costs_no_more : (q : Program) (u : Starts) (l : Layout) (x : Instruction) → IsNoCall x → flat_costs.cost (translated u l x) ≤ tac_costs.cost q x
costs_no_more q u l instruction.Nothing h = omega arith
costs_no_more q u l (instruction.Move d x) h = omega arith
costs_no_more q u l (instruction.Compute o r d x y) h = omega arith
costs_no_more q u l (instruction.Convert e d x) h = conversion_cost e (target_of l d) (operand_of l x)
costs_no_more q u l (instruction.Load e d p) h = omega arith
costs_no_more q u l (instruction.Store e x p) h = omega arith
costs_no_more q u l (instruction.Address d p) h = omega arith
costs_no_more q u l (instruction.Part d x y size) h = omega arith
costs_no_more q u l (instruction.Element e d x y) h = omega arith
costs_no_more q u l (instruction.Forget n k) h = omega arith
costs_no_more q u l (instruction.Jump to) h = omega arith
costs_no_more q u l (instruction.Branch c r x y to) h = omega arith
costs_no_more q u l (instruction.Call g) h = absurd h
costs_no_more q u l instruction.PutByte h = omega arith
costs_no_more q u l instruction.GetByte h = omega arith
costs_no_more q u l instruction.Exit h = omega arith
costs_no_more q u l instruction.Return h = omega arith

-- ---- the outcome of a step

pub follows_bound : {A : Type 0} (q : Program) (f : flat_code.Program) (t : State) (s : flat.State) (cost : ℕ) (o : Option A) (go : A → Progress) → ((x : A) → o ≡ Some x → Follows q f t s cost (go x)) → Follows q f t s cost (o >>= go)
follows_bound q f t s cost None go each = tt
follows_bound q f t s cost (Some x) go each = each x refl

pub same_running : (a b : flat.State) → flat.running a ≡ flat.running b → a ≡ b
same_running a b e = cc

-- before a move nothing is called, and nothing returns
at_move : (q : Program) (f : flat_code.Program) (t : State) (u : flat.State) → IsAtMove f u → IsAtCall q f t u
at_move q f t u h = record {
  calls = λ n e. absurd (let both : Some (flat_instructions.Move h.to h.from) ≡ Some (flat_instructions.Call n) = sym h.is ∙ e in let z : ⊥ = cc in z);
  returns = λ e. absurd (let both : Some (flat_instructions.Move h.to h.from) ≡ Some flat_instructions.Return = sym h.is ∙ e in let z : ⊥ = cc in z);
}

-- a state that matches
pub calls_of : (q : Program) (f : flat_code.Program) (g : IsMadeOf q f) (t : State) (s : flat.State) → Matched q f t s → HasCallsOf q f t s
calls_of q f g t s m = (functions_same q (t.call ∷ t.waiting) (s.frame ∷ s.waiting) t.store m.frames, at_call q f g t s m)

nothing_more : (p : flat_code.Program) (r : flat.Progress) → flat_costs.cost_on r (flat_costs.spent p zero) ≡ 0
nothing_more p (flat.running s) = refl
nothing_more p (flat.ended status input trace) = refl
nothing_more p flat.stuck = refl

module _ (q : Program) (f : flat_code.Program) (g : IsMadeOf q f) (t : State) (s : flat.State) (m : Matched q f t s) where
  abbrev the : Function
  the = function_at q t.call.function

  abbrev flat_of : Instruction → flat_instruction.Instruction
  flat_of x = translated (starts_of q) (layout_of the) x

  pub acts : (x : Instruction) → IsNoCall x → InstructionFits q the x → Alike q f (act q t x) (flat.act f s (flat_of x))
  acts instruction.Nothing h fit = does_nothing q f t s m (starts_of q)
  acts (instruction.Move d x) h fit = does_move q f t s m (starts_of q) d x fit.0 fit.1
  acts (instruction.Compute o r d x y) h fit = does_compute q f t s m (starts_of q) o r d x y fit.0 fit.1 fit.2
  acts (instruction.Convert e d x) h fit = does_convert q f t s m (starts_of q) e d x fit.0 fit.1
  acts (instruction.Load e d l) h fit = does_load q f g t s m e d l fit.0 fit.1
  acts (instruction.Store e x l) h fit = does_store q f g t s m e x l fit.0 fit.1
  acts (instruction.Address d l) h fit = does_address q f g t s m d l fit.0 fit.1
  acts (instruction.Part d x y size) h fit = does_part q f g t s m d x y size fit.0 fit.1 fit.2
  acts (instruction.Element e d x y) h fit = does_element q f g t s m e d x y fit.0 fit.1 fit.2
  acts (instruction.Forget n k) h fit = does_forget q f t s m (starts_of q) n k fit
  acts (instruction.Jump to) h fit = does_jump q f t s m (starts_of q) to
  acts (instruction.Branch c r x y to) h fit = does_branch q f t s m (starts_of q) c r x y to fit.0 fit.1
  acts (instruction.Call n) h fit = absurd h
  acts instruction.PutByte h fit = does_put q f t s m (starts_of q) fit
  acts instruction.GetByte h fit = does_get q f t s m (starts_of q)
  acts instruction.Exit h fit = does_exit q f t s m (starts_of q) fit
  acts instruction.Return h fit = does_return q f g t s m (starts_of q)

  -- the instruction that comes next
  pub stands : (x : Instruction) → instruction_at q t ≡ Some x → flat_costs.next_of f s ≡ Some (flat_of x)
  stands x e =
      let moves = moves_from (layout_of the) 0 0 0 the.parameters in
      let rest = map (translated (starts_of q) (layout_of the)) the.code in
      let at : s.frame.at ≡ length moves + t.call.at = m.frames.0.at ∙ ap (λ k. k + t.call.at) (sym (length_moves (layout_of the) 0 0 0 the.parameters)) in
      ap (λ (h : flat_code.Function). slice_get h.code s.frame.at) (function_is q f g t s m)
      ∙ (ap (slice_get (moves ++ rest)) at ∙ (get_right moves rest t.call.at ∙ get_map (translated (starts_of q) (layout_of the)) the.code t.call.at x e))

  calls_now : (v : flat.State) → flat.running s ≡ flat.running v → HasCallsOf q f t v
  calls_now v e = subst (HasCallsOf q f t) (same_running s v e) (calls_of q f g t s m)

  one_cost : (x : Instruction) → instruction_at q t ≡ Some x → IsNoCall x → flat_costs.spent f 1 s ≤ tac_costs.cost q x
  one_cost x e no_call_here =
      let one : flat_costs.cost_if (flat_costs.next_of f s) ≡ flat_costs.cost (flat_of x) = ap flat_costs.cost_if (stands x e) in
      omega (arith, one, nothing_more f (flat.step f s), costs_no_more q (starts_of q) (layout_of the) x no_call_here)

  -- one step that leads to a state
  comes_one : (cost : ℕ) (u : State) (p : flat.Progress) → flat.step f s ≡ p → flat_costs.spent f 1 s ≤ cost → Alike q f (running u) p → Comes q f t s cost (running u)
  comes_one cost u (flat.running s2) e le h = record {
    count = 1;
    some = omega arith;
    alike = subst (λ r. Alike q f (running u) (flat.goes_on r (flat.run f zero))) (sym e) h;
    costs = le;
    calls = each;
  }
    where
      each : (j : ℕ) (v : flat.State) → j ≤ 1 → flat.run f j s ≡ flat.running v → HasCallsOf q f t v ⊎ HasCallsOf q f u v
      each zero v le ev = inl (calls_now v ev)
      each (suc zero) v le ev =
          let there : flat.running s2 ≡ flat.running v = sym (ap (λ r. flat.goes_on r (flat.run f zero)) e) ∙ ev in
          inr (subst (HasCallsOf q f u) (same_running s2 v there) (calls_of q f g u s2 h))
      each (suc (suc j)) v le ev = absurd (omega (arith, le))
  comes_one cost u (flat.ended status input trace) e le h = absurd h
  comes_one cost u flat.stuck e le h = absurd h

  -- one that ends
  ends_one : (cost status : ℕ) (input : List ℕ) (history : List Entry) (p : flat.Progress) → flat.step f s ≡ p → flat_costs.spent f 1 s ≤ cost → Alike q f (ended status input history) p → Comes q f t s cost (ended status input history)
  ends_one cost status input history (flat.running s2) e le h = absurd h
  ends_one cost status input history flat.stuck e le h = absurd h
  ends_one cost status input history (flat.ended status2 input2 trace) e le h = record {
    count = 1;
    some = omega arith;
    alike = subst (λ r. Alike q f (ended status input history) (flat.goes_on r (flat.run f zero))) (sym e) h;
    costs = le;
    calls = each;
  }
    where
      each : (j : ℕ) (v : flat.State) → j ≤ 1 → flat.run f j s ≡ flat.running v → HasCallsOf q f t v ⊎ ⊥
      each zero v le ev = inl (calls_now v ev)
      each (suc zero) v le ev =
          let there : flat.ended status2 input2 trace ≡ flat.running v = sym (ap (λ r. flat.goes_on r (flat.run f zero)) e) ∙ ev in
          absurd (let z : ⊥ = cc in z)
      each (suc (suc j)) v le ev = absurd (omega (arith, le))

  follows_one : (cost : ℕ) (r : Progress) (p : flat.Progress) → flat.step f s ≡ p → flat_costs.spent f 1 s ≤ cost → Alike q f r p → Follows q f t s cost r
  follows_one cost (running u) p e le h = comes_one cost u p e le h
  follows_one cost (ended status input history) p e le h = ends_one cost status input history p e le h
  follows_one cost stuck p e le h = tt

  -- ---- a call

  known : (n : ℕ) (h : Function) → slice_get q.functions n ≡ Some h → h ≡ function_at q n
  known n h e = rw e refl

  module _ (n : ℕ) (numbers : List Tree) (references : List Reference) (en : numbers_in (function_at q n).parameters (function_at q n).objects t.temporaries 0 ≡ Some numbers) (er : arrays_in (function_at q n).parameters t.temporaries 0 ≡ Some references) where
    abbrev size : ℕ
    size = length (function_at q n).parameters

    abbrev callee : State
    callee = begun_state q f g t s m n numbers references en er

    abbrev first : flat.State
    first = moving s n 0 flat.unset

    -- the call, its moves, and the state after these
    on_the_way : flat.step f s ≡ flat.running first → ((j : ℕ) (u : flat.State) → j ≤ size → flat.run f j first ≡ flat.running u → active u ≡ n ∷ active s) → ((j : ℕ) (u : flat.State) → j < size → flat.run f j first ≡ flat.running u → IsAtMove f u)
        → (w : flat.State) → flat.run f (suc size) s ≡ flat.running w → HasCallsOf q f callee w
        → (j : ℕ) (v : flat.State) → j ≤ suc size → flat.run f j s ≡ flat.running v → HasCallsOf q f t v ⊎ HasCallsOf q f callee v
    on_the_way one within moves w there last zero v le ev = inl (calls_now v ev)
    on_the_way one within moves w there last (suc j) v le ev =
        let later : flat.run f j first ≡ flat.running v = sym (ap (λ r. flat.goes_on r (flat.run f j)) one) ∙ ev in
        inr (⊎_elim
        (λ lt. (within j v (omega (arith, le)) later ∙ ap (λ fs. n ∷ fs) (calls_of q f g t s m).0, at_move q f callee v (moves j v lt later)))
        (λ ge.
        let end : suc j ≡ suc size = omega (arith, ge, le) in
        subst (HasCallsOf q f callee) (same_running w v (sym there ∙ (ap (λ k. flat.run f k s) (sym end) ∙ ev))) last)
        (cases_lt j size))

    enters : instruction_at q t ≡ Some (instruction.Call n) → Follows q f t s (tac_costs.cost q (instruction.Call n)) (begun t n (function_at q n) numbers references)
    enters e =
        let h = arguments_moved q f g t s m n numbers references en er in
        let next = stands (instruction.Call n) e in
        let one : flat.step f s ≡ flat.running first = step_is f s (flat_instructions.Call n) next in
        let w = moving s n (0 + size) h.cells2 in
        let there : flat.run f (suc size) s ≡ flat.running w = ap (λ r. flat.goes_on r (flat.run f size)) one ∙ h.runs in
        let last : Matched q f callee w = begun_matched q f g t s m n numbers references en er h in
        let cost : flat_costs.cost_if (flat_costs.next_of f s) ≡ 44 = ap flat_costs.cost_if next in
        let rest : flat_costs.cost_on (flat.step f s) (flat_costs.spent f size) ≡ 6 * size = ap (λ r. flat_costs.cost_on r (flat_costs.spent f size)) one ∙ h.spends in
        record {
          count = suc size;
          some = omega arith;
          alike = subst (Alike q f (begun t n (function_at q n) numbers references)) (sym there) last;
          costs = omega (arith, cost, rest);
          calls = on_the_way one h.within h.moves w there (calls_of q f g callee w last);
        }

  calls_follow : (n : ℕ) → instruction_at q t ≡ Some (instruction.Call n) → Follows q f t s (tac_costs.cost q (instruction.Call n)) (entered q t n)
  calls_follow n e =
      let cost = tac_costs.cost q (instruction.Call n) in
      let last : Function → List Tree → Progress = λ h numbers. arrays_in h.parameters t.temporaries 0 >>= λ references. begun t n h numbers references in
      let more : Function → Progress = λ h. numbers_in h.parameters h.objects t.temporaries 0 >>= last h in
      follows_bound q f t s cost (slice_get q.functions n) more (λ h eh.
      subst (λ k. Follows q f t s cost (more k)) (sym (known n h eh))
      (follows_bound q f t s cost (numbers_in (function_at q n).parameters (function_at q n).objects t.temporaries 0) (last (function_at q n)) (λ numbers en.
      follows_bound q f t s cost (arrays_in (function_at q n).parameters t.temporaries 0) (λ references. begun t n (function_at q n) numbers references) (λ references er.
      enters n numbers references en er e))))

  -- ---- any instruction

  plain_follows : (x : Instruction) → instruction_at q t ≡ Some x → IsNoCall x → InstructionFits q the x → Follows q f t s (tac_costs.cost q x) (act q t x)
  plain_follows x e h fit = follows_one (tac_costs.cost q x) (act q t x) (flat.act f s (flat_of x)) (step_is f s (flat_of x) (stands x e)) (one_cost x e h) (acts x h fit)

  instruction_follows : (x : Instruction) → instruction_at q t ≡ Some x → InstructionFits q the x → Follows q f t s (tac_costs.cost q x) (act q t x)
  instruction_follows instruction.Nothing e fit = plain_follows instruction.Nothing e tt fit
  instruction_follows (instruction.Move d x) e fit = plain_follows (instruction.Move d x) e tt fit
  instruction_follows (instruction.Compute o r d x y) e fit = plain_follows (instruction.Compute o r d x y) e tt fit
  instruction_follows (instruction.Convert c d x) e fit = plain_follows (instruction.Convert c d x) e tt fit
  instruction_follows (instruction.Load c d l) e fit = plain_follows (instruction.Load c d l) e tt fit
  instruction_follows (instruction.Store c x l) e fit = plain_follows (instruction.Store c x l) e tt fit
  instruction_follows (instruction.Address d l) e fit = plain_follows (instruction.Address d l) e tt fit
  instruction_follows (instruction.Part d x y size) e fit = plain_follows (instruction.Part d x y size) e tt fit
  instruction_follows (instruction.Element c d x y) e fit = plain_follows (instruction.Element c d x y) e tt fit
  instruction_follows (instruction.Forget n k) e fit = plain_follows (instruction.Forget n k) e tt fit
  instruction_follows (instruction.Jump to) e fit = plain_follows (instruction.Jump to) e tt fit
  instruction_follows (instruction.Branch c r x y to) e fit = plain_follows (instruction.Branch c r x y to) e tt fit
  instruction_follows (instruction.Call n) e fit = calls_follow n e
  instruction_follows instruction.PutByte e fit = plain_follows instruction.PutByte e tt fit
  instruction_follows instruction.GetByte e fit = plain_follows instruction.GetByte e tt fit
  instruction_follows instruction.Exit e fit = plain_follows instruction.Exit e tt fit
  instruction_follows instruction.Return e fit = plain_follows instruction.Return e tt fit

  fits_in : (o : Option Function) → slice_get q.functions t.call.function ≡ o → (x : Instruction) → instruction_at q t ≡ Some x → InstructionFits q the x
  fits_in None eo x e =
      let none : function_at q t.call.function ≡ record { code = []; parameters = []; objects = []; result = None; temporaries = 0; kept = 0 } = rw eo refl in
      let nothing : slice_get [] t.call.at ≡ Some x = sym (ap (λ (h : Function). slice_get h.code t.call.at) none) ∙ e in
      absurd (let z : ⊥ = cc in z)
  fits_in (Some h) eo x e =
      let same = known t.call.function h eo in
      subst (λ (k : Function). InstructionFits q k x) same ((g.sound.each t.call.function h eo).each t.call.at x (ap (λ (k : Function). slice_get k.code t.call.at) same ∙ e))

  step_by : (o : Option Instruction) → instruction_at q t ≡ o → Follows q f t s (tac_costs.cost_if q o) (o >>= act q t)
  step_by None e = tt
  step_by (Some x) e = instruction_follows x e (fits_in (slice_get q.functions t.call.function) refl x e)

  pub step_follows : Follows q f t s (tac_costs.cost_if q (instruction_at q t)) (step q t)
  unfolding step
  step_follows = step_by (instruction_at q t) refl
