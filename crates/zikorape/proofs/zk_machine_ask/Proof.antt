-- A machine at the caller's pointer is lent to `serve`, and taken back.
use Rattle.std.proofs.Common.{ℕ, [], ◌∷◌, ◌++◌, refl, w32, w64, MutBor}
use Rattle.std.proofs.raw_atomic.Walks.{proved}
use base.Fraction.{full_share}
use base.Logic.{id⊢}
use base.Fml.{ftrue, fsep, fex, flft, flent}
use mir.Syntax.{named}
use mir.Val.{vint, vptr}
use prog.Wp.{WpFn}
use contract.Monad.{fact}
use contract.Running.{tables}
use types.Kit.{‵, raw, ◌⊛◌, some, later, prop, ◌$◌, ◌∵◌, !, qed, done, move, keep, drop, use1, use2, use3, split, join, fsplit, fjoin, fpack, pick, await, regoal, suffices, group}
use types.Run.{enter, of_opd, addr, stop, no_more, and_then, returns}
use types.ByLocal.{alloc_all, pass_all, free_all, look_at, get, through, sets, lands_as}
use types.Tokens.{lft_new, lft_end}
use types.SemTy.{Body}
use denote.Builtin.{u32, u64}
use denote.Exit.{yes}
use denote.Laws.{Is, shows}
use denote.Memory.{mem, part_at}
use denote.Lend.{lends_ref, ref_back}
use denote.Plain.{uint_vals, uint_Tells, uint_Makes, uint_Lawful}
use denote.RawPtr.{Ptr, RawPtr, block_ptr, in_a_block, rawptr_vals, rawptr_Tells}
use denote.Ref.{MutRef}
use denote.Signature.{plain}
use denote.Steps.{nothing, owned, heard, peeks}
use denote.Triple.Call.{calls_at}
use denote.Triple.Clauses.{lasts}
use denote.Triple.Entry.{on_entry}
use denote.Triple.Spec.{triple_of}
use denote.Triple.Walked.{Stays, walk_of, stay_dropped, Goes-dropped, ends_at}
use denote.Triple.Table.{framed}
use Rattle.std.specs.Ptr.{points_to}
use Rattle.machine_kept.specs.Served.{Answers}
use Rattle.machine_kept.specs.declared.kept.Kept.{Kept}
use Rattle.machine_kept.specs.contracts.kept.Kept.{the_row as R}
use Rattle.zikorape.specs.contracts.zk_machine_ask as f
use Rattle.zikorape.proofs.zk_machine_ask.Statement.{statement}
use Rattle.zikorape.proofs.zk_machine_ask.Code as code
use Rattle.machine_kept.specs.contracts.kept.Kept.serve as g
use Rattle.machine_kept.proofs.kept.Kept.serve.Met.{met}

abbrev stayed : Stays f.ended.signature.params f.ended.kept
stayed = (stay_dropped _ yes, (stay_dropped _ yes, (stay_dropped _ yes, (stay_dropped _ yes, tt))))

pub zk_machine_ask_spec : {M : Type 1} → statement M
zk_machine_ask_spec 𝓤 𝓛 𝓜 𝓡 wired =
    let c = f.clauses 𝓛 𝓜.mem 𝓡.returns in let W = walk_of 𝓛 f.ended stayed c in let 𝓣 = tables 𝓤 𝓛.H 𝓜 𝓡 𝓡.env in
    proved 𝓛 f.ended stayed c 𝓜 𝓡 (Goes-dropped 𝓛 0 (plain (λ _. RawPtr)) yes (λ κs x w. refl), (Goes-dropped 𝓛 0 (plain (λ _. u32)) yes (λ κs x w. refl), (Goes-dropped 𝓛 0 (plain (λ _. u64)) yes (λ κs x w. refl), (Goes-dropped 𝓛 0 (plain (λ _. u64)) yes (λ κs x w. refl), tt))))
    f.Key.name code.function (code.unfolded 𝓤 𝓛.H 𝓜 𝓡 wired)
    (λ κs. (rawptr_vals, (uint_vals w32, (uint_vals w64, (uint_vals w64, tt))))) (λ κs. (rawptr_Tells, (uint_Tells w32, (uint_Tells w64, (uint_Tells w64, tt))))) (λ κs qs bounds a n are.
    let number = a.1.0 in let first = a.1.1.0 in let second = a.1.1.1.0 in
    let y : Ptr → W.Ghost = λ p. ((κs, qs, bounds, (p, a.1), (rawptr_vals p, (uint_vals w32 number, (uint_vals w64 first, (uint_vals w64 second, tt))))), n) in
    qed 𝓛 (raw (on_entry 𝓛 f.signature κs qs a (y a.0).0.4) ∷ ‵ (points_to R a.0 n) ∷ []) ∵ drop ! $
    in_a_block ! a.0 (λ p. points_to R p n) (id⊢ 𝓤 _) (λ b o e.
    regoal ! (λ p. prop (WpFn 𝓤 𝓛.H 𝓣.C 𝓣.Λ code.function (rawptr_vals p ++ (vint w32 number ∷ vint w64 first ∷ vint w64 second ∷ [])) (W.post (y p)))) e refl $
    enter ! _ _ _ _ _ $ alloc_all ! (λ l. pass_all ! refl ((tt, tt), ((tt, record { fits = are.1.0.1 }), ((tt, record { fits = are.1.1.0.1 }), ((tt, record { fits = are.1.1.1.0.1 }), tt)))) $
    sets ! (of_opd ! (get ! refl)) refl (tt, tt) $
    sets ! (addr ! (through ! refl (stop !))) refl (tt, tt) $
    sets ! (addr ! (through ! refl (stop !))) refl (tt, tt) $
    lft_new ! tt (λ α. move ! (1 ∷ []) $
    let Ref : ℕ → MutBor R.Denot = λ δ. record { ref_ptr = (b, o); ghost_name = δ; now = n } in
    use1 𝓛 (later (some (λ (δ : ℕ). ‵ ((MutRef (named 0) (α ∷ []) R).own_val (Ref δ) (vptr b o ∷ [])) ⊛ ‵ (flent (α ∷ []) (Body (mem R) b o δ))))) (lends_ref 𝓛 R (named 0) (α ∷ []) n b o) $ await ! tt $ pick ! (λ δ. split ! $
    let vs = vptr b o ∷ [] in
    let G = triple_of 𝓛 g.signature (g.spec 𝓛 𝓜.mem 𝓡.returns) in
    let z : G.Ghost = (((α ∷ [], tt), (full_share, tt), tt, (Ref δ, (number, (first, (second, tt)))), (vs, (vint w32 number ∷ [], (vint w64 first ∷ [], (vint w64 second ∷ [], tt))))), tt) in
    -- [the loan; the lender's share; the token of α]
    nothing ! $ owned ! u64 (Is u64) (uint_Makes 𝓛 w64) second _ (refl, are.1.1.1.0.1) $ join ! $ owned ! u64 (Is u64) (uint_Makes 𝓛 w64) first _ (refl, are.1.1.0.1) $ join ! $
    owned ! u32 (Is u32) (uint_Makes 𝓛 w32) number _ (refl, are.1.0.1) $ join ! $ move ! (1 ∷ 0 ∷ []) $ join ! $
    nothing ! $ move ! (3 ∷ 0 ∷ []) $ join ! $ join ! $ nothing ! $ move ! (1 ∷ 0 ∷ []) $ use2 𝓛 (raw (G.pre z)) (id⊢ 𝓤 _) $
    calls_at ! (framed 𝓤 𝓛.H 𝓜 (tables 𝓤 𝓛.H 𝓜 𝓡 𝓡.env)) G (met 𝓤 𝓛 𝓜 𝓡 (code.calls-machine_kept::kept::Kept::serve 𝓡.env wired)) z
    (and_then ! (get ! refl) (and_then ! (get ! refl) (and_then ! (get ! refl) (and_then ! (get ! refl) (no_more !))))) (λ v.
    use1 𝓛 (later (some (λ (r : ℕ). ((‵ (flft (α ∷ []) full_share) ⊛ ‵ ftrue) ⊛ ‵ (u64.own_val r (v ∷ []))) ⊛
    some (λ (ws : Kept × (Unit {0} × (Unit {0} × (Unit {0} × Unit {0})))). ‵ (lasts g.ended z.0.0 z.0.3 ws) ⊛ raw (fact 𝓤 (Answers number first second n r ws.0)))))) (id⊢ 𝓤 _) $
    await ! tt $ pick ! (λ r. split ! $ split ! $ split ! $ lft_end ! tt $ move ! (2 ∷ []) $
    peeks ! u64 (Is u64) (shows 𝓛 u64) r (v ∷ []) (λ is. lands_as ! refl refl ((uint_Lawful 𝓛 w64).typed r _ is).0 $
    -- [the result; α is over; nothing; the callee's rest; the lender's share]
    move ! (3 ∷ []) $ pick ! (λ ws. split ! $ move ! (1 ∷ []) $ heard ! _ (λ served. fsplit ! $ fsplit ! $
    -- [the last value; its borrow; the rest; the result; α is over; nothing; the lender's share]
    move ! (4 ∷ 6 ∷ 0 ∷ []) $ use3 𝓛 (later (‵ (part_at R full_share ws.0 b o))) (ref_back 𝓛 R (α ∷ []) δ ws.0 b o) $ await ! tt $
    returns ! (look_at ! 0 refl) $ free_all ! refl $ keep ! (0 ∷ 3 ∷ []) $
    suffices ! _ (ends_at 𝓛 f.ended stayed c (y (block_ptr b o)) v r (tt, (tt, (tt, (tt, tt)))) (tt, (tt, (tt, (tt, tt))))) $
    nothing ! $ fpack ! (Answers number first second n r ws.0) (λ _. ftrue) served $ move ! (1 ∷ 0 ∷ []) $ fjoin ! $
    fpack ! Kept (λ w. fsep (points_to R (block_ptr b o) w) (fex (Answers number first second n r w) (λ _. ftrue))) ws.0 $ move ! (1 ∷ 0 ∷ []) $
    nothing ! $ nothing ! $ join ! $ nothing ! $ join ! $ nothing ! $ join ! $ nothing ! $ join ! $ nothing ! $ group ! 3 $ done !))))))))))
