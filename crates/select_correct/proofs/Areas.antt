-- The lists of bytes that references name: their addresses, and what is unchanged when one of them changes.
use Rattle.std.proofs.Common.{◌≡◌, ◌⊎◌, inl, inr, ℕ, zero, suc, ◌+◌, ◌*◌, ◌-◌, ◌%◌, ◌^◌, ◌<◌, ◌≤◌, List, [], ◌∷◌, length, Some, true, refl, sym, ap, ◌∙◌, subst, arith, eqb}
use Rattle.std.specs.Prelude.{nat_lt}
use Rattle.std.proofs.lemmas.Bool.{ltb-true}
use Rattle.std.proofs.lemmas.Bool.Decides.{nat_tests}
use Rattle.rv32.specs.Space.{word_at}
use Rattle.select_exec.proofs.Bridge.{bool_cases}
use Rattle.select_exec.proofs.Words.{word_same}
use Rattle.frames_code.specs.Code.{Function, cell_home, area_home, frame_bytes}
use Rattle.frames_code.specs.Run.{reference, Values, Bytes, Frame, Memory, State, unset, next, function_at, bytes_of, name_of, arrays, memory, memory_among, changed_among, with_memory}
use Rattle.select.specs.Selected.{calls, return_home}
use Rattle.select_correct.specs.Matches.{Ground, Ready, Returns, FrameHolds, Holds, Waits, Matched, address, shown, file_below, file_of, return_at}
use Rattle.select_correct.proofs.Registers.{Off, off_kept_free, off_sp, off_ra, off_gp, off_temporary}
use Rattle.select_correct.proofs.Waiting.{if_same, waits_same, waits_sum}
use Rattle.select_correct.proofs.Fits.{Within, frame_room, function_fits}
use Rattle.select_correct.proofs.Frames.{sum_is, within, small_same, temporaries_same}

-- where a list begins
abbrev pub start_of : Ground → ℕ → ℕ
start_of G zero = G.data_at
start_of G (suc l) = G.sp - suc l

-- a list is there, open, with its bytes
pub record Lives (G : Ground) (l : ℕ) (m : Memory) (b : ℕ → ℕ) : Type 0 where
  pub top : start_of G l + m.past ≤ 2 ^ 31
  pub aligned : start_of G l % 4 ≡ 0
  pub held : Holds m.bytes (start_of G l) m.first m.past b
  pub reads : (a : ℕ) → start_of G l + m.first ≤ a → a < start_of G l + m.past → G.machine.can_read a ≡ true
  pub writes : (a : ℕ) → start_of G l + m.first ≤ a → a < start_of G l + m.past → G.machine.can_write a ≡ true

-- nothing but the list's bytes change
abbrev pub Elsewhere : ℕ → Memory → (b b2 : ℕ → ℕ) → Type 0
Elsewhere start m b b2 = (k : ℕ) → (k < start + m.first) ⊎ (start + m.past ≤ k) → b2 k ≡ b k

pub shown_in : (G : Ground) (l o : ℕ) → start_of G l + o < 2 ^ 32 → shown G (reference l o) ≡ start_of G l + o
shown_in G zero o small = omega (arith, small)
shown_in G (suc l) o small = omega (arith, small)

module _ (G : Ground) (ready : Ready G) where
  statics_live : (bytes : Bytes) (b : ℕ → ℕ) → Holds bytes G.data_at 0 (length G.program.statics) b → Lives G 0 (record { bytes = bytes; first = 0; past = length G.program.statics }) b
  statics_live bytes b held = record {
    top = omega (arith, ready.data_below, ready.floor_below);
    aligned = ready.data_aligned;
    held = held;
    reads = λ a lo hi. ready.data_read a (omega (arith, lo)) hi;
    writes = λ a lo hi. ready.data_written a (omega (arith, lo)) hi;
  }

  frame_lives : (f : Function) (area : Bytes) (sp l : ℕ) (b : ℕ → ℕ) → G.sp - suc l ≡ sp → Within G.floor f sp → Holds area sp (area_home f) (area_home f + f.area) b → Lives G (suc l) (arrays f area) b
  frame_lives f area sp l b e win held = record {
    top = omega (arith, e, win.top, frame_room f);
    aligned = omega (arith, e, win.aligned);
    held = subst (λ x. Holds area x (area_home f) (area_home f + f.area) b) (sym e) held;
    reads = λ a lo hi. ready.stack_read a (omega (arith, e, lo, win.low)) (omega (arith, e, hi, win.top, frame_room f));
    writes = λ a lo hi. ready.stack_written a (omega (arith, e, lo, win.low)) (omega (arith, e, hi, win.top, frame_room f));
  }

  -- the frame on top is below those that wait
  memory_low : (ws : List Frame) (l : ℕ) (m : Memory) → memory_among G.program ws l ≡ Some m → l ≤ bytes_of G.program ws
  memory_low [] l m e = cc
  memory_low (w ∷ ws) l m e =
      bool_cases (eqb (name_of G.program w ws) l)
      (λ t. let is : name_of G.program w ws ≡ l = grind (arith, nat_tests) in omega (arith, is))
      (λ t. let more : memory_among G.program ws l ≡ Some m = rw t at e in omega (arith, memory_low ws l m more))

  waits_live : (ws : List Frame) (b s : ℕ → ℕ) (base ra l : ℕ) (m : Memory) → Waits G ws b s base ra → G.floor ≤ base → memory_among G.program ws (suc l) ≡ Some m → Lives G (suc l) m b
  waits_live [] b s base ra l m st low e = cc
  waits_live (w ∷ ws) b s base ra l m st low e =
      let f = function_at G.program w.function in
      let sum : base + (frame_bytes f + bytes_of G.program ws) ≡ G.sp = waits_sum G (w ∷ ws) b s base ra st in
      bool_cases (eqb (name_of G.program w ws) (suc l))
      (λ t.
      let is : name_of G.program w ws ≡ suc l = grind (arith, nat_tests) in
      let now : Some (arrays f w.area) ≡ Some m = rw t at e in
      let same : arrays f w.area ≡ m = cc in
      let at : G.sp - suc l ≡ base = omega (arith, sum, is) in
      let win : Within G.floor f base = record { low = low; top = omega (arith, sum, ready.top); aligned = st.1.aligned } in
      subst (λ x. Lives G (suc l) x b) same (frame_lives f w.area base l b at win st.1.area))
      (λ t.
      let more : memory_among G.program ws (suc l) ≡ Some m = rw t at e in
      waits_live ws b _ (base + frame_bytes f) _ l m st.2 (omega (arith, low)) more)

  -- ---- a list changes

  frame_put : (f : Function) (cells : Values) (area area2 : Bytes) (b b2 s : ℕ → ℕ) (sp : ℕ) → FrameHolds G f cells area b sp s → Holds area2 sp (area_home f) (area_home f + f.area) b2 → ((o : ℕ) → o + 4 ≤ area_home f → word_at b2 (sp + o) ≡ word_at b (sp + o)) → FrameHolds G f cells area2 b2 sp s
  frame_put f cells area area2 b b2 s sp h put word = record {
    aligned = h.aligned;
    small = h.small;
    cells = λ c v ec. let old = h.cells c v ec in (old.0, old.1, if_same (nat_lt c f.resident) (s c) (s c) _ _ refl (word (cell_home f c) (omega (arith, old.0))) ∙ old.2);
    area = put;
  }

  -- the homes of resident words are words before the arrays
  pub below_same : (g : ℕ) (b b2 s : ℕ → ℕ) (sp : ℕ) → ((o : ℕ) → o + 4 ≤ area_home (function_at G.program g) → word_at b2 (sp + o) ≡ word_at b (sp + o)) → (j : ℕ) → file_below (function_at G.program g) b2 sp s j ≡ file_below (function_at G.program g) b sp s j
  below_same g b b2 s sp word j =
      let f = function_at G.program g in
      let fit = function_fits G.program ready.sound g in
      bool_cases (nat_lt j f.resident)
      (λ t. rw t (word (cell_home f j) (omega (arith, ltb-true j f.resident t, fit.all))))
      (λ t. rw t refl)

  returns_moved : (w w2 : Frame) (s : ℕ → ℕ) (base ra : ℕ) → w2.function ≡ w.function → w2.at ≡ w.at → Returns G w s base ra → Returns G w2 s base ra
  returns_moved w w2 s base ra ef ea q = record { at_is = q.at_is ∙ (ap (λ x. address G x w.at) (sym ef) ∙ ap (address G w2.function) (sym ea)); aligned = q.aligned; small = q.small; calls = ap (λ x. calls (function_at G.program x).code) ef ∙ q.calls; seen = q.seen }

  waits_put : (ws : List Frame) (b b2 s : ℕ → ℕ) (base ra l : ℕ) (m : Memory) (bytes : Bytes) → Waits G ws b s base ra → memory_among G.program ws (suc l) ≡ Some m → Holds bytes (G.sp - suc l) m.first m.past b2 → Elsewhere (G.sp - suc l) m b b2
      → Waits G (changed_among G.program ws (suc l) bytes) b2 s base ra
  waits_put [] b b2 s base ra l m bytes st e put off = cc
  waits_put (w ∷ ws) b b2 s base ra l m bytes st e put off =
      let f = function_at G.program w.function in
      let sum : base + (frame_bytes f + bytes_of G.program ws) ≡ G.sp = waits_sum G (w ∷ ws) b s base ra st in
      let room = frame_room f in
      bool_cases (eqb (name_of G.program w ws) (suc l))
      (λ t.
      let is : name_of G.program w ws ≡ suc l = grind (arith, nat_tests) in
      let now : Some (arrays f w.area) ≡ Some m = rw t at e in
      let same : arrays f w.area ≡ m = cc in
      let first : m.first ≡ area_home f = ap (λ (x : Memory). x.first) (sym same) in
      let past : m.past ≡ area_home f + f.area = ap (λ (x : Memory). x.past) (sym same) in
      let at : G.sp - suc l ≡ base = omega (arith, sum, is) in
      let w2 : Frame = record w { area = bytes } in
      let word : (o : ℕ) → o + 4 ≤ area_home f → word_at b2 (base + o) ≡ word_at b (base + o) = λ o le. word_same b b2 (base + o) (λ k lo hi. off k (inl (omega (arith, at, first, le, hi)))) in
      let ret : word_at b2 (base + return_home f) ≡ word_at b (base + return_home f) = word_same b b2 (base + return_home f) (λ k lo hi. off k (inr (omega (arith, at, past, room, lo)))) in
      let held : Holds bytes base (area_home f) (area_home f + f.area) b2 = subst (λ x. Holds bytes base (area_home f) x b2) past (subst (λ x. Holds bytes base x m.past b2) first (subst (λ x. Holds bytes x m.first m.past b2) at put)) in
      let up : Waits G ws b2 (file_below f b2 base s) (base + frame_bytes f) (word_at b (base + return_home f)) =
      waits_same G ws b b2 (file_below f b base s) (file_below f b2 base s) (base + frame_bytes f) _ (λ k le. off k (inr (omega (arith, at, past, room, le)))) (below_same w.function b b2 s base word) st.2 in
      let new : Waits G (w2 ∷ ws) b2 s base ra = (returns_moved w w2 s base ra refl refl st.0, frame_put f w.cells w.area bytes b b2 s base st.1 held word, subst (Waits G ws b2 (file_below f b2 base s) (base + frame_bytes f)) (sym ret) up) in
      let list : changed_among G.program (w ∷ ws) (suc l) bytes ≡ w2 ∷ ws = rw t refl in
      subst (λ x. Waits G x b2 s base ra) (sym list) new)
      (λ t.
      let more : memory_among G.program ws (suc l) ≡ Some m = rw t at e in
      let high : suc l ≤ bytes_of G.program ws = memory_low ws (suc l) m more in
      let far : base + frame_bytes f ≤ G.sp - suc l = omega (arith, sum, high) in
      let under : (k : ℕ) → k < base + frame_bytes f → b2 k ≡ b k = λ k lt. off k (inl (omega (arith, far, lt))) in
      let word : (o : ℕ) → o + 4 ≤ area_home f → word_at b2 (base + o) ≡ word_at b (base + o) = λ o le. word_same b b2 (base + o) (λ k lo hi. under k (omega (arith, le, hi, room))) in
      let ret : word_at b2 (base + return_home f) ≡ word_at b (base + return_home f) = word_same b b2 (base + return_home f) (λ k lo hi. under k (omega (arith, room, hi))) in
      let held : Holds w.area base (area_home f) (area_home f + f.area) b2 = λ k c ek. let old = st.1.area k c ek in (old.0, old.1, under (base + k) (omega (arith, old.1, room)) ∙ old.2) in
      let ws2 = changed_among G.program ws (suc l) bytes in
      let rest : Waits G ws2 b2 (file_below f b base s) (base + frame_bytes f) (word_at b (base + return_home f)) = waits_put ws b b2 (file_below f b base s) (base + frame_bytes f) (word_at b (base + return_home f)) l m bytes st.2 more put off in
      let up : Waits G ws2 b2 (file_below f b2 base s) (base + frame_bytes f) (word_at b (base + return_home f)) =
      waits_same G ws2 b2 b2 (file_below f b base s) (file_below f b2 base s) (base + frame_bytes f) _ (λ k le. refl) (below_same w.function b b2 s base word) rest in
      let new : Waits G (w ∷ ws2) b2 s base ra = (st.0, frame_put f w.cells w.area w.area b b2 s base st.1 held word, subst (Waits G ws2 b2 (file_below f b2 base s) (base + frame_bytes f)) (sym ret) up) in
      let list : changed_among G.program (w ∷ ws) (suc l) bytes ≡ w ∷ ws2 = rw t refl in
      subst (λ x. Waits G x b2 s base ra) (sym list) new)

module _ (G : Ground) (ready : Ready G) (s : State) (r : ℕ → ℕ) (at : ℕ) (b : ℕ → ℕ) (m : Matched G s r at b) where
  abbrev fn : Function
  fn = function_at G.program s.frame.function

  abbrev below : ℕ → ℕ
  below = file_below fn b m.sp (file_of r)

  -- a list that is named lives
  pub memory_lives : (l : ℕ) (x : Memory) → memory G.program s l ≡ Some x → Lives G l x b
  memory_lives zero x e =
      let same : record { bytes = s.statics; first = 0; past = length G.program.statics } ≡ x = cc in
      subst (λ y. Lives G 0 y b) same (statics_live G ready s.statics b m.statics)
  memory_lives (suc l) x e =
      let sum = sum_is G ready s r at b m in
      bool_cases (eqb (name_of G.program s.frame s.waiting) (suc l))
      (λ t.
      let is : name_of G.program s.frame s.waiting ≡ suc l = grind (arith, nat_tests) in
      let now : Some (arrays fn s.frame.area) ≡ Some x = rw t at e in
      let same : arrays fn s.frame.area ≡ x = cc in
      let here : G.sp - suc l ≡ m.sp = omega (arith, sum, is) in
      subst (λ y. Lives G (suc l) y b) same (frame_lives G ready fn s.frame.area m.sp l b here (within G ready s r at b m) m.frame.area))
      (λ t.
      let more : memory_among G.program s.waiting (suc l) ≡ Some x = rw t at e in
      waits_live G ready s.waiting b below (m.sp + frame_bytes fn) _ l x m.waits (omega (arith, m.low)) more)

  -- everything except the named list is unchanged, where no word before the frame's arrays changes
  stored : (a at2 : ℕ) (area : Bytes) (ws : List Frame) (statics : Bytes) (r2 b2 : ℕ → ℕ) → at2 ≡ address G s.frame.function a → Off 5 r r2 → ((k : ℕ) → b2 k < 2 ^ 8) → Holds area m.sp (area_home fn) (area_home fn + fn.area) b2 → Holds statics G.data_at 0 (length G.program.statics) b2
      → ((o : ℕ) → o + 4 ≤ area_home fn → word_at b2 (m.sp + o) ≡ word_at b (m.sp + o)) → word_at b2 (m.sp + return_home fn) ≡ word_at b (m.sp + return_home fn) → Waits G ws b2 below (m.sp + frame_bytes fn) (return_at fn b m.sp (r 1))
      → Matched G (record s { frame = record s.frame { at = a; area = area }; arguments = unset; waiting = ws; statics = statics }) r2 at2 b2
  stored a at2 area ws statics r2 b2 e o bytes held globals word ret up =
      let f = off_kept_free r r2 o in
      let back : return_at fn b2 m.sp (r2 1) ≡ return_at fn b m.sp (r 1) = if_same (calls fn.code) _ _ (r 1) (r2 1) ret (off_ra 5 r r2 o (λ x. omega (arith, x))) in
      let file : (j : ℕ) → file_below fn b2 m.sp (file_of r2) j ≡ below j = λ j. if_same (nat_lt j fn.resident) _ _ (file_of r j) (file_of r2 j) refl (f j) ∙ below_same G ready s.frame.function b b2 (file_of r) m.sp word j in
      record {
        sp = m.sp;
        at_is = e;
        sp_is = off_sp 5 r r2 o (λ x. omega (arith, x)) ∙ m.sp_is;
        gp_is = off_gp 5 r r2 o (λ x. omega (arith, x)) ∙ m.gp_is;
        low = m.low;
        bytes = bytes;
        frame = record {
          aligned = m.frame.aligned;
          small = small_same G ready s r at b m r2 f;
          cells = λ c v ec. let old = m.frame.cells c v ec in (old.0, old.1, if_same (nat_lt c fn.resident) (file_of r c) (file_of r2 c) _ _ (f c) (word (cell_home fn c) (omega (arith, old.0))) ∙ old.2);
          area = held;
        };
        temporaries = temporaries_same G ready s r at b m r2 b2 (λ k lk. off_temporary 5 r r2 o k (λ x. omega (arith, x))) (λ k lo hi. word (4 * (k - 8)) (omega (arith, lo, hi)));
        arguments = λ k v ek. cc;
        statics = globals;
        waits = subst (Waits G ws b2 (file_below fn b2 m.sp (file_of r2)) (m.sp + frame_bytes fn)) (sym back)
            (waits_same G ws b2 b2 below (file_below fn b2 m.sp (file_of r2)) (m.sp + frame_bytes fn) (return_at fn b m.sp (r 1)) (λ k le. refl) file up);
      }

  -- a list that is named has changed
  pub matched_put : (at2 l : ℕ) (x : Memory) (bytes : Bytes) (r2 b2 : ℕ → ℕ) → at2 ≡ address G s.frame.function (s.frame.at + 1) → Off 5 r r2 → ((k : ℕ) → b2 k < 2 ^ 8) → memory G.program s l ≡ Some x → Holds bytes (start_of G l) x.first x.past b2 → Elsewhere (start_of G l) x b b2
      → Matched G (with_memory G.program (next s) l bytes) r2 at2 b2
  matched_put at2 zero x bytes r2 b2 e o small ex put off =
      let same : record { bytes = s.statics; first = 0; past = length G.program.statics } ≡ x = cc in
      let first : x.first ≡ 0 = ap (λ (y : Memory). y.first) (sym same) in
      let past : x.past ≡ length G.program.statics = ap (λ (y : Memory). y.past) (sym same) in
      let globals : Holds bytes G.data_at 0 (length G.program.statics) b2 = subst (λ y. Holds bytes G.data_at 0 y b2) past (subst (λ y. Holds bytes G.data_at y x.past b2) first put) in
      let high : (k : ℕ) → m.sp ≤ k → b2 k ≡ b k = λ k le. off k (inr (omega (arith, past, le, m.low, ready.data_below))) in
      let word : (p : ℕ) → word_at b2 (m.sp + p) ≡ word_at b (m.sp + p) = λ p. word_same b b2 (m.sp + p) (λ k lo hi. high k (omega (arith, lo))) in
      let held : Holds s.frame.area m.sp (area_home fn) (area_home fn + fn.area) b2 = λ k c ek. let old = m.frame.area k c ek in (old.0, old.1, high (m.sp + k) (omega arith) ∙ old.2) in
      stored (s.frame.at + 1) at2 s.frame.area s.waiting bytes r2 b2 e o small held globals (λ p le. word p) (word (return_home fn))
      (waits_same G s.waiting b b2 below below (m.sp + frame_bytes fn) _ (λ k le. high k (omega (arith, le))) (λ j. refl) m.waits)
  matched_put at2 (suc l) x bytes r2 b2 e o small ex put off =
      let sum = sum_is G ready s r at b m in
      let room = frame_room fn in
      bool_cases (eqb (name_of G.program s.frame s.waiting) (suc l))
      (λ t.
      let is : name_of G.program s.frame s.waiting ≡ suc l = grind (arith, nat_tests) in
      let now : Some (arrays fn s.frame.area) ≡ Some x = rw t at ex in
      let same : arrays fn s.frame.area ≡ x = cc in
      let first : x.first ≡ area_home fn = ap (λ (y : Memory). y.first) (sym same) in
      let past : x.past ≡ area_home fn + fn.area = ap (λ (y : Memory). y.past) (sym same) in
      let here : G.sp - suc l ≡ m.sp = omega (arith, sum, is) in
      let held : Holds bytes m.sp (area_home fn) (area_home fn + fn.area) b2 = subst (λ y. Holds bytes m.sp (area_home fn) y b2) past (subst (λ y. Holds bytes m.sp y x.past b2) first (subst (λ y. Holds bytes y x.first x.past b2) here put)) in
      let under : (k : ℕ) → k < m.sp + area_home fn → b2 k ≡ b k = λ k lt. off k (inl (omega (arith, here, first, lt))) in
      let above : (k : ℕ) → m.sp + (area_home fn + fn.area) ≤ k → b2 k ≡ b k = λ k le. off k (inr (omega (arith, here, past, le))) in
      let globals : Holds s.statics G.data_at 0 (length G.program.statics) b2 = λ k c ek. let old = m.statics k c ek in (old.0, old.1, under (G.data_at + k) (omega (arith, old.1, ready.data_below, m.low)) ∙ old.2) in
      let new = stored (s.frame.at + 1) at2 bytes s.waiting s.statics r2 b2 e o small held globals
      (λ p le. word_same b b2 (m.sp + p) (λ k lo hi. under k (omega (arith, le, hi))))
      (word_same b b2 (m.sp + return_home fn) (λ k lo hi. above k (omega (arith, room, lo))))
      (waits_same G s.waiting b b2 below below (m.sp + frame_bytes fn) _ (λ k le. above k (omega (arith, room, le))) (λ j. refl) m.waits) in
      let list : with_memory G.program (next s) (suc l) bytes ≡ record s { frame = record s.frame { at = s.frame.at + 1; area = bytes }; arguments = unset; waiting = s.waiting; statics = s.statics } = rw t refl in
      subst (λ y. Matched G y r2 at2 b2) (sym list) new)
      (λ t.
      let more : memory_among G.program s.waiting (suc l) ≡ Some x = rw t at ex in
      let high : suc l ≤ bytes_of G.program s.waiting = memory_low G ready s.waiting (suc l) x more in
      let far : m.sp + frame_bytes fn ≤ G.sp - suc l = omega (arith, sum, high) in
      let under : (k : ℕ) → k < m.sp + frame_bytes fn → b2 k ≡ b k = λ k lt. off k (inl (omega (arith, far, lt))) in
      let held : Holds s.frame.area m.sp (area_home fn) (area_home fn + fn.area) b2 = λ k c ek. let old = m.frame.area k c ek in (old.0, old.1, under (m.sp + k) (omega (arith, old.1, room)) ∙ old.2) in
      let globals : Holds s.statics G.data_at 0 (length G.program.statics) b2 = λ k c ek. let old = m.statics k c ek in (old.0, old.1, under (G.data_at + k) (omega (arith, old.1, ready.data_below, m.low)) ∙ old.2) in
      let ws2 = changed_among G.program s.waiting (suc l) bytes in
      let new = stored (s.frame.at + 1) at2 s.frame.area ws2 s.statics r2 b2 e o small held globals
      (λ p le. word_same b b2 (m.sp + p) (λ k lo hi. under k (omega (arith, le, hi, room))))
      (word_same b b2 (m.sp + return_home fn) (λ k lo hi. under k (omega (arith, room, hi))))
      (waits_put G ready s.waiting b b2 below (m.sp + frame_bytes fn) _ l x bytes m.waits more put off) in
      let list : with_memory G.program (next s) (suc l) bytes ≡ record s { frame = record s.frame { at = s.frame.at + 1; area = s.frame.area }; arguments = unset; waiting = ws2; statics = s.statics } = rw t refl in
      subst (λ y. Matched G y r2 at2 b2) (sym list) new)
