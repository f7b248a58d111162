-- The loop that clears elements of an array, a tick for each (ISO/IEC 9899:2011 6.7.9p21).
use Rattle.std.proofs.Common.{◌≡◌, ℕ, zero, suc, ◌+◌, ◌*◌, ◌^◌, ◌<◌, ◌≤◌, List, true, false, ℤ, pos, refl, sym, ap, ◌∙◌, subst, arith}
use Rattle.std.specs.Prelude.{nat_lt, if◌then◌else◌}
use Rattle.std.proofs.lemmas.Bool.Decides.{nat_tests}
use Rattle.ctypes.specs.declared.types.IntType.{IntType}
use Rattle.ctypes.specs.Types.{IsValueOf}
use Rattle.typing_spec.specs.Types.{elements_in}
use Rattle.typing_spec.specs.Program as typed
use Rattle.csem.specs.Store.{whole}
use Rattle.csem.specs.Machine as machine
use Rattle.csem.specs.Machine.{Run, then_do, tick_of, ticks}
use Rattle.tac_code.specs.Code.{Program, function_at}
use Rattle.tac_code.specs.Run.{Call, State, running}
use Rattle.lower_correct.specs.Initialisers.{ClearsTo}
use Rattle.lower_correct.proofs.Steps.{Reaches, stays, Sim, sim_after, sim_move}
use Rattle.lower_correct.proofs.Shapes.{HasShape}
use Rattle.lower_correct.proofs.Written.{written, is_written}
use Rattle.lower_correct.proofs.Stores.{Fine, fine_changed, fine_later}
use Rattle.lower_correct.proofs.Standing.{Scratch, here, world}
use Rattle.lower_correct.proofs.Counting.{adds_one, less_is}
use Rattle.lower_correct.proofs.Turning.{Array, reached, Counts, Turned, turn}

-- one more tick of the first part, at any state that has done the same
pub tick_then : {A B : Type 0} (q : Program) (Good : B → machine.State → State → Type 0) (m : ℕ) (t : State) (s : machine.State) (extra : ℕ)
    (inner : machine.State → Run A) (go : A → machine.State → Run B)
    → t.history ≡ s.history → t.input ≡ s.input
    → ((k : ℕ) → k < m → Sim q 14 (60 * k + 60 + extra) (suc k) t Good (then_do (inner (record s { clock = k })) go))
    → Sim q 14 (60 * m + extra) m t Good (then_do (tick_of m s inner) go)
tick_then q Good zero t s extra inner go e1 e2 next =
    record { j = 0; c = 0; u = t; reaches = stays q t; within = omega arith; progress = omega arith; history = e1; input = e2 }
tick_then q Good (suc m) t s extra inner go e1 e2 next =
    sim_after q 14 Good (60 * suc m + extra) (suc m) (60 * m + 60 + extra) (suc m) 0 0 t t (then_do (inner (record s { clock = m })) go) (stays q t)
    (omega arith) (omega arith) (next m (omega arith))

pub is_less : (a b : ℕ) → a < b → nat_lt a b ≡ true
is_less a b h = grind (arith, nat_tests)

pub not_less : (a b : ℕ) → b ≤ a → nat_lt a b ≡ false
not_less a b h = grind (arith, nat_tests)

module _ (p : typed.Program) (q : Program) (f : ℕ) (ws : List Call) (t : IntType) (first : ℕ) where
  -- a tick later it is the same array
  abbrev pub later : (s : machine.State) (k : ℕ) → Array p q f ws s t first → Array p q f ws (record s { clock = k }) t first
  later s k a = record {
    object = a.object;
    type = a.type;
    at = a.at;
    element = a.element;
    is_array = a.is_array;
    no_literal = a.no_literal;
    tree = a.tree;
    there = a.there;
    path = a.path;
    leads = a.leads;
    number = a.number;
  }

  -- those from number `from` on are zero
  module _ (c top pc2 : ℕ) (i : ClearsTo (function_at q f).code t c top pc2) (small : c < 2 ^ 32) (give : ℕ → ℤ) (hv : (j : ℕ) → IsValueOf t (give j))
      (fits : IsValueOf t (pos 0)) (from : ℕ) (past : (j : ℕ) → from ≤ j → give j ≡ pos 0) where
    turned : (j : ℕ) (now : Scratch) (s : machine.State) (a : Array p q f ws s t first) → from ≤ j → j < c → first + c ≤ elements_in a.type.lengths
        → HasShape t a.type.lengths a.tree → Fine (world p q f ws) s → Counts p q f ws s t first a give j now (reached p q f ws s t first a give j)
        → Turned p q f ws s t first a give j c top pc2 now (here f top now ws (reached p q f ws s t first a give j))
    turned j now s a le lt room shape fine has =
        let w = is_written t a.type.lengths a.tree first j give shape (omega (arith, lt, room)) (λ k less. hv k) in
        let fine2 : Fine (world p q f ws) (reached p q f ws s t first a give j) =
        fine_changed (world p q f ws) (whole a.object) a.type a.type.lengths (written a.tree first j give) s a.at refl
        (subst (λ u. HasShape u a.type.lengths (written a.tree first j give)) (sym a.element) w.shape) a.no_literal fine in
        turn p q f ws s t first a give j c top pc2 now i has w.shape (omega (arith, lt, room)) fits fine2
        (adds_one j (omega (arith, lt, small))) (less_is (suc j) c (omega (arith, lt, small)) small) (past j le)

    pub clears : {B : Type 0} (n j : ℕ) (now : Scratch) (s : machine.State) (a : Array p q f ws s t first) (extra : ℕ)
        (Good : B → machine.State → State → Type 0) (go : Unit {0} → machine.State → Run B)
        → from ≤ j → j + suc n ≡ c → first + c ≤ elements_in a.type.lengths → HasShape t a.type.lengths a.tree → Fine (world p q f ws) s
        → Counts p q f ws s t first a give j now (reached p q f ws s t first a give j)
        → ((k : ℕ) (now2 : Scratch) → now2.kept ≡ now.kept → Sim q 14 (60 * k + 21 + extra) k (here f pc2 now2 ws (reached p q f ws s t first a give c)) Good (go tt (record s { clock = k })))
        → Sim q 14 (60 * s.clock + extra) s.clock (here f top now ws (reached p q f ws s t first a give j)) Good (then_do (ticks (suc n) s) go)
    clears zero j now s a extra Good go le e room shape fine has next =
        let u = turned j now s a le (omega (arith, e)) room shape fine has in
        let out : nat_lt (suc j) c ≡ false = not_less (suc j) c (omega (arith, e)) in
        let all : suc j ≡ c = omega (arith, e) in
        let z = here f top now ws (reached p q f ws s t first a give j) in
        let reaches : Reaches q z 4 39 (running (here f pc2 u.now2 ws (reached p q f ws s t first a give (suc j)))) =
        subst (λ b. Reaches q z 4 39 (running (here f (if b then top else pc2) u.now2 ws (reached p q f ws s t first a give (suc j))))) out u.reaches in
        tick_then q Good s.clock z s extra (ticks zero) go refl refl (λ k lt.
        sim_after q 14 Good (60 * k + 60 + extra) (suc k) (60 * k + 21 + extra) k 4 39 z (here f pc2 u.now2 ws (reached p q f ws s t first a give (suc j))) (go tt (record s { clock = k })) reaches
        (omega arith) (omega arith)
        (sim_move q 14 Good (60 * k + 21 + extra) k (here f pc2 u.now2 ws (reached p q f ws s t first a give (suc j))) (here f pc2 u.now2 ws (reached p q f ws s t first a give c)) (go tt (record s { clock = k }))
        (ap (λ m. here f pc2 u.now2 ws (reached p q f ws s t first a give m)) all) (next k u.now2 u.kept)))
    clears (suc n) j now s a extra Good go le e room shape fine has next =
        let u = turned j now s a le (omega (arith, e)) room shape fine has in
        let out : nat_lt (suc j) c ≡ true = is_less (suc j) c (omega (arith, e)) in
        let z = here f top now ws (reached p q f ws s t first a give j) in
        let v = here f top u.now2 ws (reached p q f ws s t first a give (suc j)) in
        let reaches : Reaches q z 4 39 (running v) =
        subst (λ b. Reaches q z 4 39 (running (here f (if b then top else pc2) u.now2 ws (reached p q f ws s t first a give (suc j))))) out u.reaches in
        tick_then q Good s.clock z s extra (ticks (suc n)) go refl refl (λ k lt.
        sim_after q 14 Good (60 * k + 60 + extra) (suc k) (60 * k + extra) k 4 39 z v (then_do (ticks (suc n) (record s { clock = k })) go) reaches
        (omega arith) (omega arith)
        (clears n (suc j) u.now2 (record s { clock = k }) (later s k a) extra Good go (omega (arith, le)) (omega (arith, e)) room shape (fine_later (world p q f ws) s k fine)
        (record { count = u.counts.count; base = u.counts.base }) (λ m now2 same. next m now2 (same ∙ u.kept))))
