-- A run, and one step more.
use Rattle.std.proofs.Common.{◌≡◌, ◌↔◌, ◌<◌, ◌≤◌, ◌+◌, ◌∙◌, ℕ, Bool, false, IsTrue, inl, inr, ap, sym, subst, arith}
use Rattle.std.proofs.lemmas.Bool.{cases_lt}
use Rattle.rv32.specs.Step.{Machine}
use Rattle.sim.specs.Runs.{World, Progress, Running, rvrun}
use Rattle.machine_kept.specs.Standing.{Passes}
use Rattle.machine_kept.specs.declared.stepping.Halt.{Halt}

not_both : (b : Bool) → b ≡ false → IsTrue b → ⊥
not_both b e h = cc

-- where the test for a halt fails, the run passes there too
pub passes_more : (halt : Halt) (k : ℕ) (w v : World) (m : Machine) (test : Bool) → test ≡ false → (IsTrue test ↔ ((halt.after ≤ k) × (m.pc ≡ halt.at))) → m ≡ v.machine → rvrun k w ≡ Running v
    → ((i : ℕ) → i < k → Passes halt i (rvrun i w)) → (i : ℕ) → i < k + 1 → Passes halt i (rvrun i w)
passes_more halt k w v m test failed is_halted same r before i lt = elim (cases_lt i k) [
  | inl below ↦ before i below
  | inr above ↦
      let here : k ≡ i = omega arith in
      let P : Progress → Type 0 = Passes halt k in
      let Q : ℕ → Type 0 = λ n. Passes halt n (rvrun n w) in
      let at : P (Running v) = λ late e. not_both test failed (is_halted.1 (late, ap (λ (n : Machine). n.pc) same ∙ e)) in
      subst Q here (subst P (sym r) at)
]
