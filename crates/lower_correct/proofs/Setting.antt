-- The code follows an element's value (ISO/IEC 9899:2011 6.7.9p11).
use Rattle.std.proofs.Common.{◌≡◌, ℕ, suc, ◌+◌, ◌*◌, ◌≤◌, List, [], ◌∷◌, ◌++◌, Option, Some, false, ◌||◌, ℤ, refl, sym, ap, ◌∙◌, subst, arith}
use Rattle.std.specs.Prelude.{slice_get}
use Rattle.ctypes.specs.declared.types.IntType.{IntType}
use Rattle.ctypes.specs.Types.{IsValueOf, converted}
use Rattle.ctypes.proofs.Uses.{converted_fits}
use Rattle.typing_spec.specs.Types.{ObjectType}
use Rattle.typing_spec.specs.Program as typed
use Rattle.typing_spec.specs.Program.{Function, Value as Expression}
use Rattle.csem.specs.Store.{Tree, Element, Array, Reference}
use Rattle.csem.specs.Machine as machine
use Rattle.csem.specs.Machine.{Run, Goes, then_do, tick, stored}
use Rattle.csem.specs.Expressions.{Calling, evaluate}
use Rattle.tac_code.specs.declared.code.Target.TheVariants as target
use Rattle.tac_code.specs.declared.code.Place.TheVariants as place
use Rattle.tac_code.specs.Code.{Program, function_at}
use Rattle.tac_code.specs.Run.{Call, State, path_of, first_of}
use Rattle.lower_correct.specs.Values.{writes_none, extent, keeps, operand_of, Nowhere, mode_of}
use Rattle.lower_correct.specs.Places.{cuts}
use Rattle.lower_correct.specs.Code.{Puts}
use Rattle.lower_correct.proofs.Words.{ranged, word_stays}
use Rattle.lower_correct.proofs.Steps.{goes, Sim, sim_then, sim_move, sim_tick}
use Rattle.lower_correct.proofs.Shapes.{HasShape, Leads, sub_there}
use Rattle.lower_correct.proofs.Elements.{through}
use Rattle.lower_correct.proofs.Zeros.{number, first_is}
use Rattle.lower_correct.proofs.Stores.{Refers, Fine, fine_changed, fine_later, after_on, after_store, after_since, tree_is, own_at, own_fits, own_apart}
use Rattle.lower_correct.proofs.Standing.{Scratch, here, put_scratch, world, IsCode}
use Rattle.lower_correct.proofs.Memory.{IsAt, element_is_stored, is_at_element}
use Rattle.lower_correct.proofs.Goods.{Good, held}
use Rattle.lower_correct.proofs.Leaves.{IntoDoes}
use Rattle.lower_correct.proofs.Accesses.{can_stay, with_element, puts_do}
use Rattle.lower_correct.proofs.Flows.{writes_all, all_after, StandsAt}
use Rattle.lower_correct.proofs.Stretches.{done, IsArray, refers_to}

-- ---- an element, by its path and by its number

no_path : (t : IntType) (tree : Tree) → HasShape t [] tree → path_of tree 0 ≡ Some []
no_path t (Element v) h = refl
no_path t (Array row) h = absurd h

and_none : (path : List ℕ) → path ++ [] ≡ path
and_none [] = refl
and_none (i ∷ path) = ap (λ l. i ∷ l) (and_none path)

path_there : (t : IntType) (path l : List ℕ) (i : ℕ) (tree : Tree) → HasShape t l tree → Leads path l [] → number l path ≡ i → path_of tree i ≡ Some path
path_there t path l i tree shape lead e =
    let sub = sub_there path t l [] tree lead shape in
    let start = first_is t path l [] tree shape lead in
    let none : i ≡ first_of tree path + 0 = omega (arith, start, e) in
    ap (path_of tree) none ∙ (through t path l [] tree sub.tree 0 [] shape lead sub.is (no_path t sub.tree sub.has) (omega arith) ∙ ap Some (and_none path))

module _ (p : typed.Program) (tf : Function) (call : Calling) (q : Program) (deep f : ℕ) (same : IsCode p tf q f) (result : Option IntType) (n : ℕ) (o : ObjectType)
    (is : IsArray q f n o) where
  pub sets_do : (u : IntType) (e : Expression) (path : List ℕ) (i pc p1 pc2 : ℕ) → o.element ≡ u → Leads path o.lengths [] → number o.lengths path ≡ i
      → IntoDoes p call q deep f e (mode_of (operand_of e 0 0)) 0 0 pc p1
      → Puts (function_at q f).code (cuts u Nowhere || keeps u e) u (operand_of e 0 0) (place.Element n i u) Nowhere 0 p1 pc2
      → (s : machine.State) (now : Scratch) (ws : List Call) → s.clock ≤ deep → Fine (world p q f ws) s
      → Sim q 14 (60 * s.clock + 8) s.clock (here f pc now ws s) (λ y. StandsAt p call q deep f result pc2 s ws)
      (then_do (evaluate p call e s) (λ v s2. tick s2 (λ s3. Goes done (stored (record { object = s.base + n; path = path }) (converted u v) s3))))
  sets_do u e path i pc p1 pc2 eu lead ei de puts s now ws le fine =
      let W = world p q f ws in
      let Good2 : Unit {0} → machine.State → State → Type 0 = λ y. StandsAt p call q deep f result pc2 s ws in
      let at : ℕ → Reference = λ b. record { object = b + n; path = path } in
      let last : ℤ → machine.State → Run (Unit {0}) = λ v s2. tick s2 (λ s3. Goes done (stored (at s.base) (converted u v) s3)) in
      sim_then q 14 14 (Good p q f e (mode_of (operand_of e 0 0)) 0 0 p1 s now ws) Good2 (60 * s.clock) 22 (60 * s.clock + 8) s.clock (here f pc now ws s)
      (evaluate p call e s) last (omega arith) (omega arith) (de s now ws le fine)
      (λ v s2 z lt g.
      let hb = held p q f e writes_none false 0 0 p1 s now ws v s2 z g in
      let ke = hb.known in
      let cv = converted u v in
      let r = at s2.base in
      let old = tree_is o (slice_get s2.store (s2.base + n)) (own_fits W s2 n o ke.fine is.at) in
      let path_is = path_there o.element path o.lengths i old.0 old.2 lead ei in
      let refers : Refers W r u [] = subst (λ y. Refers W r y []) eu (refers_to p call q deep f result n o is ws s2 path [] ke.fine lead) in
      let there : (now : Scratch) → IsAt p q f (place.Element n i u) r now s2 =
      λ now. is_at_element p q f n i u o old.0 path now s2 is.at (sym eu) old.1 path_is in
      let rv = ranged (extent e) v ke.value in
      let apart = own_apart W s2 n ke.fine in
      let st = puts_do p tf call q deep f same (cuts u Nowhere || keeps u e) u (operand_of e 0 0) (place.Element n i u) Nowhere 0 p1 pc2 r v hb.now ws s2
      (can_stay u Nowhere v (keeps u e) rv (λ g. sym (word_stays u (extent e) v g ke.value))) puts hb.holds (there hb.now)
      (λ w. there (put_scratch (target.Temporary 0) w hb.now)) refers ke.fine apart rv in
      let x = here f p1 hb.now ws s2 in
      sim_move q 14 Good2 (60 * s2.clock + 22) s2.clock z x (last v s2) hb.at
      (subst (λ b. Sim q 14 (60 * s2.clock + 22) s2.clock x Good2 (tick s2 (λ s3. Goes done (stored (at b) cv s3)))) (ke.after.base)
      (sim_tick q 14 Good2 x s2 22 (λ s3. Goes done (stored r cv s3)) refl refl
      (λ k lt2.
      let s3 : machine.State = record s2 { clock = k } in
      let fine3 = fine_later W s2 k ke.fine in
      let s4 = with_element p tf call q deep f same r cv s3 in
      subst (λ y. Sim q 14 (60 * k + 60 + 22) (suc k) x Good2 (Goes done y)) (element_is_stored W r u cv s3 fine3 refers)
      (goes q 14 (Good2 done) (60 * k + 60 + 22) (suc k) st.steps st.cost x (here f st.pc st.now2 ws s4) s4 st.reaches
      (let small = st.small in omega (arith, small)) (let some = st.some in omega (arith, some))
      (record {
        now = st.now2;
        at = ap (λ m. here f m st.now2 ws s4) st.ends;
        fine = fine_changed W r o [] (Element (Some cv)) s3 (own_at W s2 n o ke.fine is.at) lead
            (subst (λ y. IsValueOf y cv) (sym eu) (converted_fits u v)) apart fine3;
        after = after_on writes_all writes_all writes_all s s2 s4 (λ y h. h) (λ y h. h)
            (all_after p call q deep f result _ s s2 ke.after)
            (after_since writes_all s2 s4 k (after_store W writes_all r u [] (Element (Some cv)) s3 fine3 refers));
      }))))))
