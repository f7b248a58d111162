-- The calls that wait see only the bytes from their frames up, and the registers s0 to s11.
use Rattle.std.proofs.Common.{◌≡◌, ℕ, ◌+◌, ◌<◌, ◌≤◌, ◌^◌, List, [], ◌∷◌, Bool, true, false, sym, ◌∙◌, subst, arith}
use Rattle.std.specs.Prelude.{if◌then◌else◌, nat_lt}
use Rattle.rv32.specs.Space.{word_at}
use Rattle.select_exec.proofs.Words.{word_same}
use Rattle.frames_code.specs.Code.{Function, cell_home, frame_bytes}
use Rattle.frames_code.specs.Run.{Frame, Values, Bytes, function_at, bytes_of}
use Rattle.select.specs.Selected.{return_home}
use Rattle.select_correct.specs.Matches.{Ground, Returns, Waits, FrameHolds, Small, file_below}

pub if_same : (t : Bool) (x x' y y' : ℕ) → x' ≡ x → y' ≡ y → (if t then x' else y') ≡ (if t then x else y)
if_same true x x' y y' e f = e
if_same false x x' y y' e f = f

pub frame_same : (G : Ground) (f : Function) (cells : Values) (area : Bytes) (b b' s s' : ℕ → ℕ) (sp : ℕ) → ((k : ℕ) → sp ≤ k → b' k ≡ b k) → ((j : ℕ) → s' j ≡ s j) → FrameHolds G f cells area b sp s → FrameHolds G f cells area b' sp s'
frame_same G f cells area b b' s s' sp same e h =
    let word : (o : ℕ) → word_at b' (sp + o) ≡ word_at b (sp + o) = λ o. word_same b b' (sp + o) (λ k lo hi. same k (omega (arith, lo))) in
    record {
      aligned = h.aligned;
      small = λ j. subst (λ x. x < 2 ^ 32) (sym (e j)) (h.small j);
      cells = λ c v ec. let old = h.cells c v ec in (old.0, old.1, if_same (nat_lt c f.resident) (s c) (s' c) _ _ (e c) (word (cell_home f c)) ∙ old.2);
      area = λ k c ek. let old = h.area k c ek in (old.0, old.1, same (sp + k) (omega arith) ∙ old.2);
    }

returns_same : (G : Ground) (w : Frame) (s s' : ℕ → ℕ) (base ra : ℕ) → ((j : ℕ) → s' j ≡ s j) → Returns G w s base ra → Returns G w s' base ra
returns_same G w s s' base ra e q = record { at_is = q.at_is; aligned = q.aligned; small = q.small; calls = q.calls; seen = λ x. let y = q.seen x in (y.0, λ j. e j ∙ y.1 j) }

pub waits_same : (G : Ground) (ws : List Frame) (b b' s s' : ℕ → ℕ) (base ra : ℕ) → ((k : ℕ) → base ≤ k → b' k ≡ b k) → ((j : ℕ) → s' j ≡ s j) → Waits G ws b s base ra → Waits G ws b' s' base ra
waits_same G [] b b' s s' base ra same e st =
    (st.0, λ j. subst (λ x. x < 2 ^ 32) (sym (e j)) (st.1 j), λ j. e j ∙ st.2 j, st.3, λ k le. same k le ∙ st.4 k le)
waits_same G (w ∷ ws) b b' s s' base ra same e st =
    let f = function_at G.program w.function in
    let word : (o : ℕ) → word_at b' (base + o) ≡ word_at b (base + o) = λ o. word_same b b' (base + o) (λ k lo hi. same k (omega (arith, lo))) in
    let below : (j : ℕ) → file_below f b' base s' j ≡ file_below f b base s j = λ j. if_same (nat_lt j f.resident) _ _ (s j) (s' j) (word (cell_home f j)) (e j) in
    let up : Waits G ws b' (file_below f b' base s') (base + frame_bytes f) (word_at b (base + return_home f)) =
    waits_same G ws b b' (file_below f b base s) (file_below f b' base s') (base + frame_bytes f) _ (λ k le. same k (omega (arith, le))) below st.2 in
    (returns_same G w s s' base ra e st.0, frame_same G f w.cells w.area b b' s s' base same e st.1, subst (Waits G ws b' (file_below f b' base s') (base + frame_bytes f)) (sym (word (return_home f))) up)

-- they end at the outermost call's stack pointer
pub waits_sum : (G : Ground) (ws : List Frame) (b s : ℕ → ℕ) (base ra : ℕ) → Waits G ws b s base ra → base + bytes_of G.program ws ≡ G.sp
waits_sum G [] b s base ra st = omega (arith, st.0)
waits_sum G (w ∷ ws) b s base ra st = omega (arith, waits_sum G ws b _ (base + frame_bytes (function_at G.program w.function)) _ st.2)

-- the one on top sees words
pub waits_small : (G : Ground) (ws : List Frame) (b s : ℕ → ℕ) (base ra : ℕ) → Waits G ws b s base ra → Small s
waits_small G [] b s base ra st = st.1
waits_small G (w ∷ ws) b s base ra st = st.1.small
