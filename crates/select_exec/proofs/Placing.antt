-- Placed code in texts that have the same words.
use Rattle.std.proofs.Common.{◌≡◌, ◌⊎◌, inl, inr, ℕ, ◌+◌, ◌%◌, ◌≤◌, List, [], ◌∷◌, ◌++◌, Option, sym, ◌∙◌, arith}
use Rattle.rv32.specs.declared.instr.Instr.{Instr}
use Rattle.rv32.specs.declared.instr.Test.{Test}
use Rattle.asm.specs.declared.item.Item.{Item}
use Rattle.asm.specs.declared.item.Item.TheVariants.{Mark, Plain, Branch, Jump, Call, NearCall, Constant, LabelAddress, DataAddress}
use Rattle.asm.specs.Placed.{Short, Long, Loads, Jumps, ItemAt, Stands}
use Rattle.asm.proofs.Standing.{in_parts}
use Rattle.select_exec.specs.Laws.{AgreeOn}

-- where an item's words end
pub record Onward (a next : ℕ) : Type 0 where
  pub on : a ≤ next
  pub aligned : next % 4 ≡ 0

module _ (T : ℕ → Option Instr) (env : ℕ → ℕ) (seg : ℕ) where
  after_branch : (t : Test) (l r a to next : ℕ) → a % 4 ≡ 0 → Short T t l r a to next ⊎ Long T t l r a to next → Onward a next
  after_branch t l r a to next al (inl q) = record { on = omega (arith, q.next_is); aligned = omega (arith, q.next_is) }
  after_branch t l r a to next al (inr q) = record { on = omega (arith, q.next_is); aligned = omega (arith, q.next_is) }

  pub after_item : (x : Item) (a next : ℕ) → a % 4 ≡ 0 → ItemAt T env seg x a next → Onward a next
  after_item (Mark l) a next al q = record { on = omega (arith, q.1); aligned = omega (arith, q.1) }
  after_item (Plain i) a next al q = record { on = omega (arith, q.1); aligned = omega (arith, q.1) }
  after_item (Branch t l r to) a next al q = after_branch t l r a (env to) next al q
  after_item (Jump to) a next al q = record { on = omega (arith, q.next_is); aligned = omega (arith, q.next_is) }
  after_item (Call to) a next al q = record { on = omega (arith, q.next_is); aligned = omega (arith, q.next_is) }
  after_item (NearCall to) a next al q = record { on = omega (arith, q.next_is); aligned = omega (arith, q.next_is) }
  after_item (Constant rd v) a next al q = record { on = omega (arith, q.next_is); aligned = omega (arith, q.next_is) }
  after_item (LabelAddress rd l) a next al q = record { on = omega (arith, q.next_is); aligned = omega (arith, q.next_is) }
  after_item (DataAddress rd o) a next al q = record { on = omega (arith, q.next_is); aligned = omega (arith, q.next_is) }

  pub after_items : (xs : List Item) (a e : ℕ) → a % 4 ≡ 0 → Stands T env seg xs a e → Onward a e
  after_items [] a e al q = record { on = omega (arith, q); aligned = omega (arith, q) }
  after_items (x ∷ rest) a e al q =
      let one = after_item x a q.0 al q.1 in
      let more = after_items rest q.0 e one.aligned q.2 in
      record { on = omega (arith, one.on, more.on); aligned = more.aligned }

  -- up to its end only
  agree_less : (U : ℕ → Option Instr) (a e f : ℕ) → e ≤ f → AgreeOn T U a f → AgreeOn T U a e
  agree_less U a e f le g x lo hi al = g x lo (omega (arith, hi, le)) al

  agree_later : (U : ℕ → Option Instr) (a b e : ℕ) → a ≤ b → AgreeOn T U a e → AgreeOn T U b e
  agree_later U a b e le g x lo hi al = g x (omega (arith, lo, le)) hi al

  module _ (U : ℕ → Option Instr) where
    loads_in : (a rd v next : ℕ) → a % 4 ≡ 0 → AgreeOn T U a next → Loads T a rd v next → Loads U a rd v next
    loads_in a rd v next al g q = record {
      high = q.high;
      low = q.low;
      first = sym (g a (omega arith) (omega (arith, q.next_is)) al) ∙ q.first;
      second = sym (g (a + 4) (omega arith) (omega (arith, q.next_is)) (omega (arith, al))) ∙ q.second;
      value = q.value;
      next_is = q.next_is;
    }

    branch_in : (t : Test) (l r a to next : ℕ) → a % 4 ≡ 0 → AgreeOn T U a next → Short T t l r a to next ⊎ Long T t l r a to next → Short U t l r a to next ⊎ Long U t l r a to next
    branch_in t l r a to next al g (inl q) = inl (record { v = q.v; at = sym (g a (omega arith) (omega (arith, q.next_is)) al) ∙ q.at; target = q.target; next_is = q.next_is })
    branch_in t l r a to next al g (inr q) = inr (record {
      over = q.over;
      v = q.v;
      at = sym (g a (omega arith) (omega (arith, q.next_is)) al) ∙ q.at;
      skips = q.skips;
      jump = sym (g (a + 4) (omega arith) (omega (arith, q.next_is)) (omega (arith, al))) ∙ q.jump;
      target = q.target;
      next_is = q.next_is;
    })

    jump_in : (link a to next : ℕ) → a % 4 ≡ 0 → AgreeOn T U a next → Jumps T link a to next → Jumps U link a to next
    jump_in link a to next al g q = record { v = q.v; at = sym (g a (omega arith) (omega (arith, q.next_is)) al) ∙ q.at; target = q.target; next_is = q.next_is }

    item_in : (x : Item) (a next : ℕ) → a % 4 ≡ 0 → AgreeOn T U a next → ItemAt T env seg x a next → ItemAt U env seg x a next
    item_in (Mark l) a next al g q = q
    item_in (Plain i) a next al g q = (sym (g a (omega arith) (omega (arith, q.1)) al) ∙ q.0, q.1)
    item_in (Branch t l r to) a next al g q = branch_in t l r a (env to) next al g q
    item_in (Jump to) a next al g q = jump_in 0 a (env to) next al g q
    item_in (NearCall to) a next al g q = jump_in 1 a (env to) next al g q
    item_in (Call to) a next al g q = record {
      high = q.high;
      low = q.low;
      first = sym (g a (omega arith) (omega (arith, q.next_is)) al) ∙ q.first;
      second = sym (g (a + 4) (omega arith) (omega (arith, q.next_is)) (omega (arith, al))) ∙ q.second;
      target = q.target;
      next_is = q.next_is;
    }
    item_in (Constant rd v) a next al g q = loads_in a rd v next al g q
    item_in (LabelAddress rd l) a next al g q = loads_in a rd (env l) next al g q
    item_in (DataAddress rd o) a next al g q = loads_in a rd (seg + o) next al g q

pub stands_in : (T U : ℕ → Option Instr) (env : ℕ → ℕ) (seg : ℕ) (xs : List Item) (a e : ℕ) → a % 4 ≡ 0 → AgreeOn T U a e → Stands T env seg xs a e → Stands U env seg xs a e
stands_in T U env seg [] a e al g q = q
stands_in T U env seg (x ∷ rest) a e al g q =
    let one = after_item T env seg x a q.0 al q.1 in
    let more = after_items T env seg rest q.0 e one.aligned q.2 in (
      q.0,
      item_in T env seg U x a q.0 al (agree_less T env seg U a q.0 e more.on g) q.1,
      stands_in T U env seg rest q.0 e one.aligned (agree_later T env seg U a q.0 e one.on g) q.2,
    )

-- items are placed in parts
pub stands_parts : (T : ℕ → Option Instr) (env : ℕ → ℕ) (seg : ℕ) (xs ys : List Item) (a e : ℕ) → Stands T env seg (xs ++ ys) a e → (m : ℕ) × Stands T env seg xs a m × Stands T env seg ys m e
stands_parts T env seg xs ys a e = (in_parts T env seg xs ys a e).0
