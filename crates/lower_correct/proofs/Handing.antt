-- The code hands over references to arrays as arguments (ISO/IEC 9899:2011 6.5.2.2p4, 6.7.6.3p7), if it finds them.
use Rattle.std.proofs.Common.{◌≡◌, ℕ, suc, ◌+◌, ◌*◌, ◌≤◌, List, [], ◌∷◌, Option, Some, None, Bool, true, false, ◌&&◌, ◌||◌, refl, sym, ap, ◌∙◌, subst, arith}
use Rattle.std.specs.Prelude.{nat_eq, nat_lt, length}
use Rattle.std.proofs.lemmas.Bool.Decides.{nat_tests}
use Rattle.ctypes.specs.declared.types.IntType.{IntType}
use Rattle.typing_spec.specs.Types.{ObjectType, DeclaredType, complete, unknown_size, ParameterType, elements, inner_type, same_type, same_lengths}
use Rattle.typing_spec.specs.Program as typed
use Rattle.typing_spec.specs.Program.{Place, Arguments, Function}
use Rattle.typing_spec.specs.Nodes.{type_of_place}
use Rattle.typing_spec.specs.WellTyped.{is_array, rows_of, rows_alike}
use Rattle.csem.specs.Store.{Reference}
use Rattle.csem.specs.Machine as machine
use Rattle.csem.specs.Machine.{Run, Goes, then_do}
use Rattle.csem.specs.Expressions.{Passed, Referred, Calling, find, pass}
use Rattle.tac_code.specs.declared.code.Operand.TheVariants as operand
use Rattle.tac_code.specs.declared.code.Target.TheVariants as target
use Rattle.tac_code.specs.declared.code.Place.{Place as Spot}
use Rattle.tac_code.specs.declared.code.Place.TheVariants as place
use Rattle.tac_code.specs.Code.{Program, function_at}
use Rattle.tac_code.specs.Run.{reference, Call, State, running}
use Rattle.lower_correct.specs.Values.{place_calls, arguments_call, place_writes, arguments_write}
use Rattle.lower_correct.specs.Places.{found, free_temporary_at, free_kept_at}
use Rattle.lower_correct.specs.Code.{HandsOver}
use Rattle.lower_correct.proofs.Words.{differ, left_true, right_true}
use Rattle.lower_correct.proofs.Steps.{Reaches, stays, from, goes, sim_then, sim_move}
use Rattle.lower_correct.proofs.Stores.{World, Refers, RefersToRows, after_on}
use Rattle.lower_correct.proofs.Standing.{Scratch, here, set_same, set_other, world, IsCode}
use Rattle.lower_correct.proofs.Memory.{IsAt, value_is, does_address, does_move_reference, put_reference}
use Rattle.lower_correct.proofs.Leaves.{or_left, or_right}
use Rattle.lower_correct.proofs.Typing.{same_type_is}
use Rattle.lower_correct.proofs.Passing.{count, fitting_moved, free_bound, keeps_less, Row, RowDoes}
use Rattle.lower_correct.proofs.Finding.{RefersAs, Found, FindsDo, stays_found, free_more_at}

-- ---- the rows of an argument are those of its parameter

lengths_same : (m n : List ℕ) → same_lengths m n ≡ true → m ≡ n
lengths_same [] [] h = refl
lengths_same (a ∷ m) (b ∷ n) h =
    let e : a ≡ b = (let g = left_true (nat_eq a b) (same_lengths m n) h in grind (arith, nat_tests, g)) in
    ap (λ x. x ∷ m) e ∙ ap (λ l. b ∷ l) (lengths_same m n (right_true (nat_eq a b) (same_lengths m n) h))
lengths_same [] (b ∷ n) h = absurd (differ h)
lengths_same (a ∷ m) [] h = absurd (differ h)

alike_refers : (W : World) (r : Reference) (u : ObjectType) (t : IntType) (n : ℕ) (l : List ℕ) → (same_type u.element t && same_lengths u.lengths l) ≡ true
    → Refers W r t (n ∷ l) → RefersToRows W u (Some r)
alike_refers W r u t n l h g =
    let et = same_type_is u.element t (left_true (same_type u.element t) (same_lengths u.lengths l) h) in
    let el = lengths_same u.lengths l (right_true (same_type u.element t) (same_lengths u.lengths l) h) in
    (n, subst (λ y. Refers W r y (n ∷ u.lengths)) (sym et) (subst (λ y. Refers W r t (n ∷ y)) (sym el) g))

complete_refers : (W : World) (r : Reference) (u : ObjectType) (t : IntType) (c : Bool) (l : List ℕ) → rows_alike u (inner_type t c l) ≡ true → Refers W r t l
    → RefersToRows W u (Some r)
complete_refers W r u t c [] h g = absurd (differ h)
complete_refers W r u t c (n ∷ l) h g = alike_refers W r u t n l h g

pub rows_refer : (W : World) (r : Reference) (u : ObjectType) (T : Option DeclaredType) → rows_alike u (rows_of T) ≡ true → RefersAs W r T
    → RefersToRows W u (Some r)
rows_refer W r u None h g = absurd g
rows_refer W r u (Some (complete t)) h g = complete_refers W r u t.element t.constant t.lengths h g
rows_refer W r u (Some (unknown_size t)) h g = alike_refers W r u t.element g.0 t.lengths h g.1

pub rows_of_array : (u : ObjectType) (T : Option DeclaredType) → rows_alike u (rows_of T) ≡ true → is_array T ≡ true
rows_of_array u None h = absurd (differ h)
rows_of_array u (Some (complete t)) h = has_rows t.element t.constant t.lengths h
  where
    has_rows : (e : IntType) (c : Bool) (l : List ℕ) → rows_alike u (inner_type e c l) ≡ true → nat_lt 0 (length l) ≡ true
    has_rows e c [] h = absurd (differ h)
    has_rows e c (n ∷ l) h = grind (arith, nat_tests)
rows_of_array u (Some (unknown_size t)) h = refl

module _ (p : typed.Program) (tf : Function) (call : Calling) (q : Program) (deep f : ℕ) (is : IsCode p tf q f) where
  -- a reference is in its temporary
  record Handed (t pc2 : ℕ) (r : Reference) (now : Scratch) (ws : List Call) (s : machine.State) (z : State) : Type 0 where
    steps : ℕ
    cost : ℕ
    now2 : Scratch
    reaches : Reaches q z steps cost (running (here f pc2 now2 ws s))
    small : cost ≤ 6
    has : now2.temporaries t ≡ Some (reference r)
    others : (i : ℕ) → (i ≡ t → ⊥) → now2.temporaries i ≡ now.temporaries i
    kept : (i : ℕ) → now2.kept i ≡ now.kept i

  put_there : (t pc pc2 : ℕ) (r : Reference) (now : Scratch) (ws : List Call) (s : machine.State)
      → Reaches q (here f pc now ws s) 1 6 (running (here f pc2 (put_reference (target.Temporary t) r now) ws s)) → Handed t pc2 r now ws s (here f pc now ws s)
  put_there t pc pc2 r now ws s l = record {
    steps = 1;
    cost = 6;
    now2 = put_reference (target.Temporary t) r now;
    reaches = l;
    small = omega arith;
    has = set_same now.temporaries t (reference r);
    others = λ i d. set_other now.temporaries t i (reference r) d;
    kept = λ i. refl;
  }

  hands_over : (a : Place) (c : Bool) (t k pc pc2 : ℕ) (r : Reference) (now : Scratch) (ws : List Call) (s : machine.State)
      → HandsOver (function_at q f).code (found a c t k) t pc pc2 → IsAt p q f (found a c t k) r now s → Handed t pc2 r now ws s (here f pc now ws s)
  hands_over (typed.named at (typed.literal n)) c t k pc pc2 r now ws s i h =
      put_there t pc pc2 r now ws s (does_address p q f (target.Temporary t) (place.Literal n) r pc pc2 now ws s i h tt)
  hands_over (typed.named at (typed.static n)) c t k pc pc2 r now ws s i h =
      put_there t pc pc2 r now ws s (does_address p q f (target.Temporary t) (place.Static n) r pc pc2 now ws s i h tt)
  hands_over (typed.named at (typed.automatic n)) c t k pc pc2 r now ws s i h =
      put_there t pc pc2 r now ws s (does_address p q f (target.Temporary t) (place.Array n) r pc pc2 now ws s i h tt)
  hands_over (typed.named at (typed.parameter n)) c t k pc pc2 r now ws s i h =
      put_there t pc pc2 r now ws s (does_move_reference p q f (target.Temporary t) (operand.Parameter n) r pc pc2 now ws s i h tt)
  hands_over (typed.element at array index) true t k pc pc2 r now ws s i h =
      put_there t pc pc2 r now ws s (does_move_reference p q f (target.Temporary t) (operand.Kept k) r pc pc2 now ws s i h tt)
  hands_over (typed.element at array index) false t k pc pc2 r now ws s i h = record {
    steps = 0;
    cost = 0;
    now2 = now;
    reaches = subst (λ n. Reaches q (here f pc now ws s) 0 0 (running (here f n now ws s))) i (stays q (here f pc now ws s));
    small = omega arith;
    has = value_is p q f (now.temporaries t) r h;
    others = λ j d. refl;
    kept = λ j. refl;
  }

  free_bound_at : (a : Spot) (t : ℕ) → free_temporary_at a t ≤ t + 1
  free_bound_at (place.Literal n) t = omega arith
  free_bound_at (place.Static n) t = omega arith
  free_bound_at (place.Array n) t = omega arith
  free_bound_at (place.Element n i u) t = omega arith
  free_bound_at (place.At o) t = free_bound o t

  pub array_row : (u : ObjectType) (ps : List ParameterType) (array : Place) (more : Arguments) (t k pc p1 p2 pc2 : ℕ)
      → rows_alike u (rows_of (type_of_place p tf array)) ≡ true → FindsDo p tf call q deep f is array (arguments_call more) t k pc p1
      → RowDoes p call q deep f ps more (t + 1) (free_kept_at (found array (arguments_call more) t k) k) p1 p2
      → HandsOver (function_at q f).code (found array (arguments_call more) t k) t p2 pc2
      → RowDoes p call q deep f (elements u ∷ ps) (typed.and_array array more) t k pc pc2
  array_row u ps array more t k pc p1 p2 pc2 alike_rows da dm i s now ws le fine =
      let a = found array (arguments_call more) t k in
      let k2 = free_kept_at a k in
      let n = count more in
      let Result2 = Row p call q deep f (elements u ∷ ps) (typed.and_array array more) t k pc2 s now ws in
      let last : Reference → List Passed → machine.State → Run (List Passed) = λ r passed s. Goes (Referred r ∷ passed) s in
      sim_then q 40 (6 * suc n) (Found p tf call q deep f is array (arguments_call more) t k p1 s now ws) Result2 (60 * s.clock) 40 (60 * s.clock) s.clock
      (here f pc now ws s) (find p call array s) (λ r s. then_do (pass p call more s) (last r)) (omega arith) (omega arith) (da s now ws le fine)
      (λ r s2 z lt fa.
      sim_move q (6 * suc n) Result2 (60 * s2.clock + 40) s2.clock z (here f p1 fa.now ws s2) (then_do (pass p call more s2) (last r)) fa.at
      (sim_then q (6 * n) (6 * suc n) (Row p call q deep f ps more (t + 1) k2 p2 s2 fa.now ws) Result2 (60 * s2.clock) (40 + 6 * n) (60 * s2.clock + 40) s2.clock
      (here f p1 fa.now ws s2) (pass p call more s2) (last r) (omega arith) (omega arith)
      (dm s2 fa.now ws (omega (arith, le, lt)) fa.fine)
      (λ passed s3 z3 lt3 row.
      let kept_row = keeps_less (arguments_call more) (free_temporary_at a t) k2 (t + 1) fa.now row.now (free_bound_at a t) row.keeps in
      let there = stays_found p tf call q deep f is array (arguments_call more) t k r fa.now row.now (arguments_write more) s2 s3 kept_row row.after fa.holds in
      let l = hands_over array (arguments_call more) t k p2 pc2 r row.now ws s3 i there in
      let lk = (free_more_at p tf call q deep f is a t k).1 in
      goes q (6 * suc n) (Result2 (Referred r ∷ passed)) (60 * s3.clock + (40 + 6 * n)) s3.clock l.steps l.cost z3 (here f pc2 l.now2 ws s3) s3
      (from q z3 (here f p2 row.now ws s3) l.steps l.cost (running (here f pc2 l.now2 ws s3)) row.at l.reaches) (let h = l.small in omega (arith, h)) (omega arith)
      (record {
        now = l.now2;
        at = refl;
        fits = (
          rows_refer (world p q f ws) r u (type_of_place p tf array) alike_rows fa.refers,
          l.has,
          fitting_moved (world p q f ws) ps passed (t + 1) row.now.temporaries l.now2.temporaries
              (λ i lo. l.others i (λ m. let y : ⊥ = omega (arith, lo, m) in y)) row.fits,
        );
        keeps = record {
          temporaries = λ d i lo. l.others i (λ m. let y : ⊥ = omega (arith, lo, m) in y)
              ∙ (row.keeps.temporaries (or_right (place_calls array) (arguments_call more) d) i (omega (arith, lo))
              ∙ fa.keeps.temporaries (or_left (place_calls array) (arguments_call more) d) i lo);
          kept = λ i lo. l.kept i ∙ (row.keeps.kept i (omega (arith, lo, lk)) ∙ fa.keeps.kept i lo);
        };
        fine = row.fine;
        after = after_on (λ x. place_writes array x || arguments_write more x) (place_writes array) (arguments_write more) s s2 s3
            (λ x d. or_left (place_writes array x) (arguments_write more x) d) (λ x d. or_right (place_writes array x) (arguments_write more x) d) fa.after
            row.after;
      }))))
