-- The facts that a match with flat code gives of the world of a run.
use Rattle.std.proofs.Common.{◌≡◌, ℕ, ◌+◌, ◌*◌, ◌-◌, ◌%◌, ◌<◌, ◌≤◌, List, ◌∷◌, sym, ap, ◌∙◌, arith}
use Rattle.std.specs.Prelude.{if◌then◌else◌}
use Rattle.std.proofs.lemmas.Bool.{lt-ltb, le-ltb}
use Rattle.memory_map.specs.MemoryMap.{stack_end}
use Rattle.rv32.specs.Space.{word_at}
use Rattle.rv32.specs.Step.{register}
use Rattle.csem_events.specs.Events.{Event}
use Rattle.frames_code.specs.Run.{word, State, bytes_of}
use Rattle.select_exec.specs.Whole.{Permits}
use Rattle.select_exec.specs.Worlds.{Registers, world}
use Rattle.select_exec.proofs.Words.{reg_is}
use Rattle.select_correct.specs.Matches.{Ground, Ready, Matched, temporary_at}
use Rattle.select_correct.specs.Runs.{StandsWith}
use Rattle.select_correct.proofs.Frames.{sum_is}

-- the registers of a world that goes on
pub register_shown : (P : Permits) (list : List ℕ) (r : ℕ → ℕ) (pc : ℕ) (b : ℕ → ℕ) (i : List ℕ) (h : List Event) → Registers list r → (k : ℕ) → 0 < k → k < 32 → register (world P list pc b i h).machine k ≡ r k
register_shown P list r pc b i h q k pos lt = q.each k lt ∙ reg_is r k pos

pub in_register : (r b : ℕ → ℕ) (sp k : ℕ) → k < 8 → temporary_at r b sp k ≡ r (10 + k)
in_register r b sp k lt = ap (λ x. if x then r (10 + k) else word_at b (sp + 4 * (k - 8))) (lt-ltb k 8 lt)

pub on_stack : (r b : ℕ → ℕ) (sp k : ℕ) → 8 ≤ k → temporary_at r b sp k ≡ word_at b (sp + 4 * (k - 8))
on_stack r b sp k le = ap (λ x. if x then r (10 + k) else word_at b (sp + 4 * (k - 8))) (le-ltb k 8 le)

pub stands_with : (P : Permits) (G : Ground) (s : State) (list : List ℕ) (r : ℕ → ℕ) (at : ℕ) (b : ℕ → ℕ) (i : List ℕ) (h : List Event) → Ready G → G.sp ≡ stack_end → Matched G s r at b → i ≡ s.input → h ≡ s.trace → Registers list r
    → StandsWith G.program G.env s (world P list at b i h)
stands_with P G s list r at b i h ready top m ei eh shows =
    let x = world P list at b i h in
    let sp : register x.machine 2 ≡ m.sp = register_shown P list r at b i h shows 2 (omega arith) (omega arith) ∙ m.sp_is in
    let sum = sum_is G ready s r at b m in
    record {
      pc = m.at_is;
      sp = ap (λ k. k + bytes_of G.program (s.frame ∷ s.waiting)) sp ∙ omega (arith, sum, top);
      aligned = ap (λ k. k % 16) sp ∙ m.frame.aligned;
      registers = λ k v lt e. register_shown P list r at b i h shows (10 + k) (omega arith) (omega (arith, lt)) ∙ (sym (in_register r b m.sp k lt) ∙ (m.temporaries k (word v) e).2);
      stack = λ k v le e. ap (λ a. word_at b (a + 4 * (k - 8))) sp ∙ (sym (on_stack r b m.sp k le) ∙ (m.temporaries k (word v) e).2);
      trace = eh;
      input = ei;
    }
