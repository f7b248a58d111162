-- Running whole items: a lemma for each that is no single instruction.
use Rattle.std.proofs.Common.{◌≡◌, ◌⊎◌, inl, inr, ℕ, suc, ◌+◌, ◌%◌, List, Bool, true, false, refl, sym, ap, ◌∙◌, subst, arith, eqb}
use Rattle.std.specs.Prelude.{if◌then◌else◌, not}
use Rattle.std.proofs.lemmas.Bool.Decides.{nat_tests}
use Rattle.rv32.specs.declared.instr.Test.{Test}
use Rattle.rv32.specs.declared.instr.ImmediateOp.TheVariants as immediate_op
use Rattle.rv32.specs.Arithmetic.{compare_of}
use Rattle.csem_events.specs.Events.{Event}
use Rattle.asm.specs.Placed.{Short, Long, Loads, Jumps, Calls, opposite}
use Rattle.asm.proofs.Opposites.{opposite_is_not}
use Rattle.select_exec.specs.Light.{Fixed, Light, Go, reg, with_reg, sum32, Comes}
use Rattle.select_exec.proofs.Bridge.{bool_cases}
use Rattle.select_exec.proofs.Steps.{on_lui, on_auipc, on_immediate, on_jump, on_jump_register, on_branch, comes_by}

-- a register that is written twice has the value written last
twice_at : (r : ℕ → ℕ) (rd x v k : ℕ) → (if eqb k rd then v else (if eqb k rd then x else r k)) ≡ (if eqb k rd then v else r k)
twice_at r rd x v k = bool_cases (eqb k rd) (λ e. rw e refl) (λ e. rw e refl)

pub written_twice : (r : ℕ → ℕ) (rd x v : ℕ) → with_reg (with_reg r rd x) rd v ≡ with_reg r rd v
written_twice r rd x v =
    bool_cases (eqb rd 0)
    (λ e. rw e refl)
    (λ e.
    let each : (k : ℕ) → (if eqb k rd then v else (if eqb k rd then x else r k)) ≡ (if eqb k rd then v else r k) = twice_at r rd x v in
    rw e (λ j k. each k j))

pub read_back : (r : ℕ → ℕ) (rd x : ℕ) → eqb rd 0 ≡ false → reg (with_reg r rd x) rd ≡ x
read_back r rd x nz = let same : eqb rd rd ≡ true = grind (arith, nat_tests) in rw (nz, same) refl

module _ (F : Fixed) (I : Light → Type 0) (Q : Light → Type 0) (n : ℕ) (r : ℕ → ℕ) (pc : ℕ) (b : ℕ → ℕ) (i : List ℕ) (h : List Event) (p : I (Go r pc b i h)) where
  -- LUI and ADDI: a constant, a label's address, an address in the data
  pub on_loads : {a0 : ℕ} → (rd v next : ℕ) → eqb rd 0 ≡ false → (q : Loads F.text pc rd v next) → I (Go (with_reg r rd q.high) (pc + 4) b i h) → Comes F I a0 n (Go (with_reg r rd v) next b i h) Q → Comes F I 1 (suc (suc n)) (Go r pc b i h) Q
  on_loads {a0} rd v next nz q mid c =
      let value : sum32 (reg (with_reg r rd q.high) rd) q.low ≡ v = ap (λ x. sum32 x q.low) (read_back r rd q.high nz) ∙ q.value in
      let ends : next ≡ pc + 4 + 4 = omega (arith, q.next_is) in
      let there : Comes F I a0 n (Go (with_reg (with_reg r rd q.high) rd v) (pc + 4 + 4) b i h) Q =
      subst (λ s. Comes F I a0 n s Q) (ap (λ x. Go (with_reg r rd v) x b i h) ends ∙ ap (λ f. Go f (pc + 4 + 4) b i h) (sym (written_twice r rd q.high v))) c in
      on_lui F I Q (suc n) r pc b i h p rd q.high q.first
      (on_immediate F I Q n (with_reg r rd q.high) (pc + 4) b i h mid immediate_op.Add rd rd q.low v q.second value there)

  -- AUIPC and JALR with x1, which then holds the address after them
  pub on_call : {a0 : ℕ} → (to next : ℕ) → to % 4 ≡ 0 → (q : Calls F.text pc to next) → I (Go (with_reg r 1 (sum32 pc q.high)) (pc + 4) b i h) → Comes F I a0 n (Go (with_reg r 1 next) to b i h) Q → Comes F I 1 (suc (suc n)) (Go r pc b i h) Q
  on_call {a0} to next al q mid c =
      let ends : next ≡ pc + 4 + 4 = omega (arith, q.next_is) in
      let there : Comes F I a0 n (Go (with_reg (with_reg r 1 (sum32 pc q.high)) 1 (pc + 4 + 4)) to b i h) Q =
      subst (λ s. Comes F I a0 n s Q) (ap (λ x. Go (with_reg r 1 x) to b i h) ends ∙ ap (λ f. Go f to b i h) (sym (written_twice r 1 (sum32 pc q.high) (pc + 4 + 4)))) c in
      on_auipc F I Q (suc n) r pc b i h p 1 q.high q.first
      (on_jump_register F I Q n (with_reg r 1 (sum32 pc q.high)) (pc + 4) b i h mid 1 1 q.low to q.second q.target al there)

  -- JAL with x1
  pub on_near_call : {a0 : ℕ} → (to next : ℕ) → to % 4 ≡ 0 → Jumps F.text 1 pc to next → Comes F I a0 n (Go (with_reg r 1 next) to b i h) Q → Comes F I 1 (suc n) (Go r pc b i h) Q
  on_near_call {a0} to next al q c =
      let there : Comes F I a0 n (Go (with_reg r 1 (pc + 4)) to b i h) Q = subst (λ x. Comes F I a0 n (Go (with_reg r 1 x) to b i h) Q) q.next_is c in
      on_jump F I Q n r pc b i h p 1 q.v to q.at q.target al there

  -- JAL with x0
  pub on_jump_to : {a0 : ℕ} → (to next : ℕ) → to % 4 ≡ 0 → Jumps F.text 0 pc to next → Comes F I a0 n (Go r to b i h) Q → Comes F I 1 (suc n) (Go r pc b i h) Q
  on_jump_to to next al q c = on_jump F I Q n r pc b i h p 0 q.v to q.at q.target al c

  -- a branch as itself
  on_short : {a0 : ℕ} → (t : Test) (l k to next : ℕ) (x : Bool) → pc % 4 ≡ 0 → to % 4 ≡ 0 → compare_of t (reg r l) (reg r k) ≡ x → Short F.text t l k pc to next → Comes F I a0 n (Go r (if x then to else next) b i h) Q → Comes F I 1 (suc n) (Go r pc b i h) Q
  on_short t l k to next true here al ex q c = on_branch F I Q n r pc b i h p t l k q.v to true q.at ex q.target al c
  on_short t l k to next false here al ex q c =
      let ends : pc + 4 ≡ next = sym q.next_is in
      on_branch F I Q n r pc b i h p t l k q.v next false q.at ex ends (omega (arith, here, q.next_is)) c

  -- a branch as its opposite over a jump
  on_long : {a0 : ℕ} → (t : Test) (l k to next : ℕ) (x : Bool) → pc % 4 ≡ 0 → to % 4 ≡ 0 → compare_of t (reg r l) (reg r k) ≡ x → Long F.text t l k pc to next → I (Go r (pc + 4) b i h) → Comes F I a0 n (Go r (if x then to else next) b i h) Q → Comes F I 1 (suc (suc n)) (Go r pc b i h) Q
  on_long t l k to next true here al ex q mid c =
      let not_taken : compare_of (opposite t) (reg r l) (reg r k) ≡ false = opposite_is_not t (reg r l) (reg r k) ∙ ap not ex in
      on_branch F I Q (suc n) r pc b i h p (opposite t) l k q.over (pc + 4) false q.at not_taken refl (omega (arith, here))
      (on_jump F I Q n r (pc + 4) b i h mid 0 q.v to q.jump q.target al c)
  on_long t l k to next false here al ex q mid c =
      let taken : compare_of (opposite t) (reg r l) (reg r k) ≡ true = opposite_is_not t (reg r l) (reg r k) ∙ ap not ex in
      let ends : sum32 pc q.over ≡ next = q.skips ∙ sym q.next_is in
      comes_by F I (suc n) (suc (suc n)) _ Q (omega arith)
      (on_branch F I Q n r pc b i h p (opposite t) l k q.over next true q.at taken ends (omega (arith, here, q.next_is)) c)

  -- a branch in either form takes one or two steps
  pub on_either_branch : {a0 : ℕ} → (t : Test) (l k to next : ℕ) (x : Bool) → pc % 4 ≡ 0 → to % 4 ≡ 0 → compare_of t (reg r l) (reg r k) ≡ x → Short F.text t l k pc to next ⊎ Long F.text t l k pc to next → I (Go r (pc + 4) b i h) → Comes F I a0 n (Go r (if x then to else next) b i h) Q → Comes F I 1 (suc (suc n)) (Go r pc b i h) Q
  on_either_branch t l k to next x here al ex (inl q) mid c = comes_by F I (suc n) (suc (suc n)) _ Q (omega arith) (on_short t l k to next x here al ex q c)
  on_either_branch t l k to next x here al ex (inr q) mid c = on_long t l k to next x here al ex q mid c
