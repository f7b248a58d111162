-- A new machine is written into the caller's memory.
use Rattle.std.proofs.Common.{[], ◌∷◌, refl}
use Rattle.std.proofs.raw_atomic.Walks.{proved}
use base.Fraction.{full_share}
use base.Logic.{id⊢}
use base.Fml.{ftrue, fsep, fex}
use mir.Val.{vunit}
use prog.Wp.{WpFn}
use contract.Monad.{fact}
use contract.Running.{tables}
use types.Kit.{‵, raw, ◌⊛◌, some, later, prop, ◌$◌, ◌∵◌, !, qed, done, move, drop, use2, use1, split, join, fjoin, fpack, feq_i, pick, await, regoal, suffices, group}
use types.Run.{enter, of_opd, unit_lit, assigns, init, stop, no_more, and_then, returns}
use types.ByLocal.{alloc_all, pass_all, free_all, look_at, get, through, sets, lands_as}
use borrow.Table.OneValue.{part_in}
use denote.Exit.{yes}
use denote.Laws.{Is, shows}
use denote.Memory.{part_at}
use denote.RawPtr.{Ptr, RawPtr, block_ptr, in_a_block, rawptr_vals, rawptr_Tells}
use denote.Signature.{plain}
use denote.Steps.{nothing, heard, peeks}
use denote.Triple.Call.{calls_at}
use denote.Triple.Clauses.{lasts}
use denote.Triple.Spec.{triple_of}
use denote.Triple.Walked.{Stays, walk_of, stay_dropped, Goes-dropped, ends_at}
use denote.Triple.Table.{framed}
use Rattle.std.specs.Ptr.{points_to, room_at}
use Rattle.machine_kept.specs.Kept.{IsNew}
use Rattle.std_heap.specs.contracts.Global.{the_row as Heap}
use Rattle.std_heap.proofs.Global.TheLaws.{lowers as heap}
use Rattle.machine_kept.specs.declared.kept.Kept.{Kept}
use Rattle.machine_kept.specs.contracts.kept.Kept.{the_row as R}
use Rattle.machine_kept.proofs.kept.Kept.TheLaws.{the_row_laws as laws}
use Rattle.zikorape.specs.contracts.zk_machine_place as f
use Rattle.zikorape.proofs.zk_machine_place.Statement.{statement}
use Rattle.zikorape.proofs.zk_machine_place.Code as code
use Rattle.machine_kept.specs.contracts.kept.Kept.new as g
use Rattle.machine_kept.proofs.kept.Kept.new.Met.{met}

abbrev stayed : Stays f.ended.signature.params f.ended.kept
stayed = (stay_dropped _ yes, (stay_dropped _ yes, tt))

pub zk_machine_place_spec : {M : Type 1} → statement M
zk_machine_place_spec 𝓤 𝓛 𝓜 𝓡 wired =
    let c = f.clauses 𝓛 𝓜.mem 𝓡.returns in let W = walk_of 𝓛 f.ended stayed c in let 𝓣 = tables 𝓤 𝓛.H 𝓜 𝓡 𝓡.env in
    proved 𝓛 f.ended stayed c 𝓜 𝓡 (Goes-dropped 𝓛 0 (plain (λ _. Heap)) yes (λ κs x w. refl), (Goes-dropped 𝓛 0 (plain (λ _. RawPtr)) yes (λ κs x w. refl), tt))
    f.Key.name code.function (code.unfolded 𝓤 𝓛.H 𝓜 𝓡 wired)
    (λ κs. ((λ h. heap.lowered h ∷ []), (rawptr_vals, tt))) (λ κs. ((λ h vs is. heap.val_is h vs is), (rawptr_Tells, tt))) (λ κs qs bounds a n are.
    let h = a.0 in
    let y : Ptr → W.Ghost = λ p. ((κs, qs, bounds, (h, (p, tt)), (heap.lowered h ∷ [], (rawptr_vals p, tt))), n) in
    qed 𝓛 ((‵ ftrue ⊛ (‵ (Heap.own_val h (heap.lowered h ∷ [])) ⊛ (‵ (RawPtr.own_val a.1.0 (rawptr_vals a.1.0)) ⊛ ‵ ftrue))) ∷ ‵ (room_at R a.1.0) ∷ []) ∵
    split ! $ drop ! $ split ! $ move ! (1 ∷ []) $ drop ! $ move ! (1 ∷ []) $
    in_a_block ! a.1.0 (λ p. room_at R p) (id⊢ 𝓤 _) (λ b o e.
    regoal ! (λ p. prop (WpFn 𝓤 𝓛.H 𝓣.C 𝓣.Λ code.function (heap.lowered h ∷ rawptr_vals p) (W.post (y p)))) e refl $
    enter ! _ _ _ _ _ $ alloc_all ! (λ l. pass_all ! refl ((tt, ((tt, tt), tt)), ((tt, tt), tt)) $
    sets ! (of_opd ! (get ! refl)) refl (tt, tt) $
    let G = triple_of 𝓛 g.signature (g.spec 𝓛 𝓜.mem 𝓡.returns) in
    let z : G.Ghost = ((tt, tt, tt, (h, tt), (heap.lowered h ∷ [], tt)), tt) in
    -- [the room; the owned share of the allocator]
    nothing ! $ move ! (2 ∷ 0 ∷ []) $ join ! $ nothing ! $ join ! $ nothing ! $ move ! (1 ∷ 0 ∷ []) $ use2 𝓛 (raw (G.pre z)) (id⊢ 𝓤 _) $
    calls_at ! (framed 𝓤 𝓛.H 𝓜 (tables 𝓤 𝓛.H 𝓜 𝓡 𝓡.env)) G (met 𝓤 𝓛 𝓜 𝓡 (code.calls-machine_kept::kept::Kept::new 𝓡.env wired)) z
    (and_then ! (get ! refl) (no_more !)) (λ v.
    use1 𝓛 (later (some (λ (k : Kept). (‵ ftrue ⊛ ‵ (R.own_val k (v ∷ []))) ⊛
    some (λ (ws : Unit {0} × Unit {0}). ‵ (lasts g.ended z.0.0 z.0.3 ws) ⊛ raw (fact 𝓤 (IsNew k)))))) (id⊢ 𝓤 _) $
    await ! tt $ pick ! (λ k. split ! $ split ! $ drop ! $
    peeks ! R (Is R) (shows 𝓛 R) k (v ∷ []) (λ is. let good = ((laws.lawful 𝓛).typed k (v ∷ []) is).0 in lands_as ! refl refl good $
    move ! (1 ∷ []) $ pick ! (λ ws. split ! $ drop ! $ heard ! _ (λ new.
    -- [the machine; the room]
    assigns ! (of_opd ! (get ! refl)) (through ! refl (stop !)) (init ! 1 refl good) $
    move ! (1 ∷ 0 ∷ []) $ use2 𝓛 (‵ (part_at R full_share k b o)) (part_in 𝓛 R refl full_share k b o v) $
    sets ! (of_opd ! (unit_lit !)) refl (tt, tt) $
    returns ! (look_at ! 0 refl) $ free_all ! refl $
    suffices ! _ (ends_at 𝓛 f.ended stayed c (y (block_ptr b o)) vunit tt (tt, (tt, tt)) (tt, (tt, tt))) $
    nothing ! $ fpack ! (IsNew k) (λ _. ftrue) new $ move ! (1 ∷ 0 ∷ []) $ fjoin ! $
    fpack ! Kept (λ w. fsep (points_to R (block_ptr b o) w) (fex (IsNew w) (λ _. ftrue))) k $
    feq_i ! _ (vunit ∷ []) _ refl $ nothing ! $ nothing ! $ join ! $ nothing ! $ join ! $ nothing ! $ group ! 3 $ done !))))))))
