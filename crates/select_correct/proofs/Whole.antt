-- The machine follows flat code: from a program's entry to its end.
use Rattle.std.proofs.Common.{◌≡◌, ℕ, ◌+◌, ◌*◌, ◌-◌, ◌^◌, ◌<◌, ◌≤◌, List, [], length, suc, refl, sym, ap, ◌∙◌, subst, arith}
use Rattle.std.specs.Prelude.{slice_get}
use Rattle.memory_map.specs.MemoryMap.{stack_end}
use Rattle.rv32.specs.declared.instr.ImmediateOp.TheVariants as immediate_op
use Rattle.rv32.specs.Space.{word_at}
use Rattle.select_exec.specs.Standing.{Stands}
use Rattle.csem_events.specs.Events.{Event}
use Rattle.frames_code.specs.Code.{Program, frame_bytes}
use Rattle.frames_code.specs.Run.{unset, Progress, running, ended, stuck, run, start, function_at}
use Rattle.select_exec.specs.Light.{Fixed, Light, Go, Done, Fell, with_reg, Comes}
use Rattle.select_exec.proofs.Words.{with_other}
use Rattle.select_exec.proofs.Steps.{comes_now, comes_by, comes_some, comes_then, on_immediate, on_exit}
use Rattle.select_exec.proofs.ItemSteps.{on_loads, on_call}
use Rattle.select_exec.proofs.Placing.{stands_parts}
use Rattle.select.specs.Selected.{kept, exit, gp_offset}
use Rattle.select.specs.Program.{functions_items, far_items, shorten_calls, are_near}
use Rattle.select_correct.specs.Matches.{HasRoom, IsBelow, Ground, ArgumentsShow, Waits, Matches, address, argument_at, file_of}
use Rattle.select_correct.specs.Costs.{least_spent, opening_cost, most_start, most_spent}
use Rattle.select_correct.specs.Laws.{Anything, AreBytes}
use Rattle.select_correct.specs.Runs.{Laid, Entered, outermost, ground_at, EntriesFollow, ConventionKept, BeginsFollow, EndsFollow}
use Rattle.select_correct.proofs.Registers.{kept_above}
use Rattle.select_correct.proofs.Fits.{Within, frame_tall, function_fits}
use Rattle.select_correct.proofs.Entering.{enters}
use Rattle.select_correct.proofs.Calls.{opened_matched}
use Rattle.select_correct.proofs.Steps.{steps}
use Rattle.select_correct.proofs.Laying.{is_ready}

-- where no call is spoken of
pub unwatched : (G : Ground) → 2 ^ 32 ≤ G.watch_sp → G.sp ≤ 2 ^ 31 → (x : Progress) → IsBelow G x
unwatched G none top (running s) = omega (arith, none, top)
unwatched G none top (ended status input trace) = tt
unwatched G none top stuck = tt

pub entries : EntriesFollow
entries G g temporaries arguments statics input trace r at b ready known q room =
    let Q : Light → Type 0 = Matches G (running (outermost g temporaries arguments statics input trace)) in
    let f = function_at G.program g in
    let fit = function_fits G.program ready.sound g in
    let tall = frame_tall f in
    let sp = G.sp - frame_bytes f in
    let up : sp + frame_bytes f ≡ G.sp = omega (arith, room) in
    let win : Within G.floor f sp = record { low = omega (arith, room); top = omega (arith, up, ready.top); aligned = omega (arith, up, q.aligned, tall) } in
    let small : r 1 < 2 ^ 32 = omega (arith, q.ra_is, ready.return_small) in
    let waits : Waits G [] b (file_of r) (sp + frame_bytes f) (r 1) = (up, q.small, q.file_is, q.ra_is, λ k le. q.bytes_are k (omega (arith, le, up))) in
    let xs : ArgumentsShow G f arguments b sp = λ k v ek.
    let old = q.further k v ek in
    let there : argument_at f sp k ≡ G.sp + 4 * (k - 8) = omega (arith, up) in
    (old.0, omega (arith, there, old.1), ap (word_at b) there ∙ old.2) in
    subst (λ x. Comes G.machine Anything 1 (opening_cost f) (Go r x b input trace) Q) (sym q.at_is)
    (enters G.machine G.env G.data_at input trace Q f sp win (record { reads = λ a lo hi. ready.stack_read a (omega (arith, lo, win.low)) hi; writes = λ a lo hi. ready.stack_written a (omega (arith, lo, win.low)) hi }) G.sp (G.env g) (address G g 0) r b fit.all up ready.top fit.small q.sp_is q.small small q.bytes (ready.entries g known) (λ r2 b2 o.
    comes_now G.machine Anything 0 _ Q tt
    (opened_matched G ready g sp temporaries arguments [] statics input trace r b r2 b2 win q.gp_is q.small q.registers xs q.globals waits o, refl, refl)))

pub convention : ConventionKept
convention G f temporaries arguments statics input trace r at b ready known q bytes n status left later over rooms =
    let p = G.program in
    let s = outermost f temporaries arguments statics input trace in
    let here = Go r at b input trace in
    let one = entries G f temporaries arguments statics input trace r at b ready known q (rooms 0 (omega arith)) in
    let two = comes_then G.machine Anything (opening_cost (function_at p f)) (most_spent p n s) here (Matches G (running s)) (Matches G (run p n s)) one (λ m k. steps G ready n s m k bytes rooms (λ j lt. unwatched G q.unwatched ready.top (run p j s))) in
    let all : Comes G.machine Anything (1 + least_spent p n s) (opening_cost (function_at p f) + most_spent p n s) here (Matches G (ended status left later)) =
    subst (λ x. Comes G.machine Anything (1 + least_spent p n s) (opening_cost (function_at p f) + most_spent p n s) here (Matches G x)) over two in
    record { j = all.j; some = omega (arith, all.some); within = all.within; kept = all.kept; good = all.good }

-- the items before main's call write none of s0 to s11
pub start_keeps : (r : ℕ → ℕ) (gp ra j : ℕ) → with_reg (with_reg (with_reg r 2 stack_end) 3 gp) 1 ra (kept j) ≡ r (kept j)
start_keeps r gp ra j =
    let above = kept_above j in
    let r1 = with_reg r 2 stack_end in
    with_other (with_reg r1 3 gp) 1 ra (kept j) (λ x. omega (arith, x, above)) ∙ (with_other r1 3 gp (kept j) (λ x. omega (arith, x, above)) ∙ with_other r 2 stack_end (kept j) (λ x. omega (arith, x, above)))

pub begins : BeginsFollow
begins p F env floor data_at base e r b input q room =
    let G = ground_at p F env floor data_at base r b in
    let ready = is_ready p F env floor data_at base e r b q in
    let Q : Light → Type 0 = Matches G (running (start p input)) in
    let st = q.stands in
    let c = st.1 in
    let points = st.2.1 in
    let call = st.2.2.1 in
    let ra = st.2.2.0 in
    let r1 = with_reg r 2 stack_end in
    let r2 = with_reg r1 3 (data_at + gp_offset) in
    let r3 = with_reg r2 1 ra in
    let file : (j : ℕ) → file_of r3 j ≡ file_of r j = start_keeps r (data_at + gp_offset) ra in
    let entered : Entered G p.main unset unset (slice_get p.statics) r3 (env p.main) b = record {
      at_is = refl;
      sp_is = refl;
      gp_is = refl;
      aligned = refl;
      ra_is = omega (arith, c.next_is, points.next_is, call.next_is);
      file_is = file;
      small = λ j. subst (λ x. x < 2 ^ 32) (sym (file j)) (q.small j);
      bytes_are = λ k le. refl;
      bytes = q.bytes;
      registers = λ k v ek. cc;
      further = λ k v ek. cc;
      globals = q.statics;
      unwatched = omega arith;
    } in
    let opened = opening_cost (function_at p p.main) in
    comes_by F Anything (suc (suc (suc (suc (suc (suc opened)))))) (6 + opened) (Go r base b input []) Q (omega arith)
    (on_loads F Anything Q (suc (suc (suc (suc opened)))) r base b input [] tt 2 stack_end st.0 refl c tt
    (on_loads F Anything Q (suc (suc opened)) r1 st.0 b input [] tt 3 (data_at + gp_offset) st.2.0 refl points tt
    (on_call F Anything Q opened r2 st.2.0 b input [] tt (env p.main) ra (ready.entry_aligned p.main ready.sound.has_main) call tt
    (entries G p.main unset unset (slice_get p.statics) input [] r3 (env p.main) b ready ready.sound.has_main entered room))))

-- after main's call, or where the program has exited
exits : (G : Ground) (status : ℕ) (left : List ℕ) (trace : List Event) (e : ℕ) → Stands G.machine.text G.env G.data_at exit G.ra e → (m : Light) → Matches G (ended status left trace) m → Comes G.machine Anything 0 2 m (λ x. x ≡ Done status trace)
exits G status left trace e st (Go r at b i h) q =
    let P : Light → Type 0 = λ x. x ≡ Done status trace in
    subst (λ x. Comes G.machine Anything 0 2 (Go r x b i h) P) (sym q.0.at_is)
    (comes_some G.machine Anything 2 _ P
    (on_immediate G.machine Anything P 1 r G.ra b i h tt immediate_op.Add 17 0 93 93 st.1.0 refl
    (on_exit G.machine Anything P 0 (with_reg r 17 93) (G.ra + 4) b i h tt status (ap G.machine.text (sym st.1.1) ∙ st.2.1.0) refl q.0.status_is
    (comes_now G.machine Anything 0 (Done status h) P tt (ap (Done status) q.2)))))
exits G status left trace e st (Done x h) q = comes_now G.machine Anything 2 (Done x h) (λ y. y ≡ Done status trace) tt (ap (λ y. Done y h) q.0 ∙ ap (Done status) q.1)
exits G status left trace e st (Fell h) q = absurd q

-- after n steps
pub comes_to : (p : Program) (F : Fixed) (env : ℕ → ℕ) (floor data_at base e : ℕ) (r b : ℕ → ℕ) (input : List ℕ) → Laid p F env floor data_at base e r b → AreBytes input → (n : ℕ) → ((k : ℕ) → k ≤ n → HasRoom (ground_at p F env floor data_at base r b) (run p k (start p input)))
    → Comes F Anything (1 + least_spent p n (start p input)) (most_start p + most_spent p n (start p input)) (Go r base b input []) (Matches (ground_at p F env floor data_at base r b) (run p n (start p input)))
comes_to p F env floor data_at base e r b input q bytes n rooms =
    let G = ground_at p F env floor data_at base r b in
    let s = start p input in
    let one = begins p F env floor data_at base e r b input q (rooms 0 (omega arith)) in
    comes_then F Anything (most_start p) (most_spent p n s) (Go r base b input []) (Matches G (running s)) (Matches G (run p n s)) one (λ m k. steps G (is_ready p F env floor data_at base e r b q) n s m k bytes rooms (λ j lt. unwatched G (omega arith) (omega arith) (run p j s)))

pub ends : EndsFollow
ends p F env floor data_at base e r b input q bytes n status left trace over rooms =
    let G = ground_at p F env floor data_at base r b in
    let s = start p input in
    let P : Light → Type 0 = λ x. x ≡ Done status trace in
    let here = Go r base b input [] in
    let ra = q.stands.2.2.0 in
    let ra_is : ra ≡ base + 24 = omega (arith, q.stands.1.next_is, q.stands.2.1.next_is, q.stands.2.2.1.next_is) in
    let parts = stands_parts F.text env data_at exit (shorten_calls (are_near (far_items p)) (functions_items 0 (length p.functions) p.functions)) ra e q.stands.2.2.2 in
    let tail : Stands F.text env data_at exit (base + 24) parts.0 = subst (λ x. Stands F.text env data_at exit x parts.0) ra_is parts.1 in
    let two = comes_to p F env floor data_at base e r b input q bytes n rooms in
    let all : Comes F Anything (1 + least_spent p n s + 0) (most_start p + most_spent p n s + 2) here P =
    comes_then F Anything (most_start p + most_spent p n s) 2 here (Matches G (run p n s)) P two (λ m k. exits G status left trace parts.0 tail m (subst (λ x. Matches G x m) over k)) in
    record { j = all.j; some = omega (arith, all.some); within = all.within; kept = all.kept; good = all.good }
