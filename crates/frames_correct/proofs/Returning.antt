-- The end of a call.
use Rattle.std.proofs.Common.{◌≡◌, ◌≢◌, ℕ, zero, suc, ◌+◌, ◌%◌, ◌^◌, ◌≤◌, ◌<◌, List, [], ◌∷◌, length, take, map, Some, None, true, false, refl, sym, ap, ◌∙◌, subst, arith, eqb}
use Rattle.std.specs.Prelude.{slice_get, option_map, is_some, Option}
use Rattle.std.proofs.lemmas.Bool.Decides.{nat_tests}
use Rattle.ctypes.specs.declared.types.IntType.{IntType}
use Rattle.csem.specs.History.{Left}
use Rattle.tac_code.specs.declared.code.Operand.TheVariants as operand
use Rattle.tac_code.specs.declared.code.Instruction.TheVariants as instruction
use Rattle.tac_code.specs.Code.{Program, function_at}
use Rattle.tac_code.specs.Run as tac
use Rattle.tac_code.specs.Run.{State, Call, word, Progress, running, ended, word_at, is_word_of, result_in, result_alone, returned, open_calls, ◌>>=◌}
use Rattle.frames_code.specs.Code as flat_code
use Rattle.frames_code.specs.Code.{frame_bytes}
use Rattle.frames_code.specs.Run as flat
use Rattle.frames_code.specs.Run.{Frame, Memory, memory, memory_among, name_of}
use Rattle.frames.specs.Layout.{Starts, layout_of}
use Rattle.frames.specs.Translated.{translated}
use Rattle.frames_correct.specs.Matched.{Spot, FramesHold, Matched, Alike, AllShow, Shows, function_for, stack_bytes, spots, spots_from, own_piece}
use Rattle.frames_correct.proofs.Lists.{same_some, bool_cases, some_below, get_left, get_take, length_take, length_both}
use Rattle.frames_correct.proofs.Memory.{among_later}
use Rattle.frames_correct.proofs.Spots.{orderly, frame_some}
use Rattle.frames_correct.proofs.Frames.{functions_of, frames_stay, lies_by}
use Rattle.frames_correct.proofs.Values.{gave, word_known}
use Rattle.frames_correct.proofs.Targets.{bound, found}
use Rattle.frames_correct.proofs.Ground.{IsMadeOf, name_is, result_held}

-- a result that is a word is that of temporary 0, in a function that has a result
result_is : (o : Option IntType) (here result : Option ℕ) → result_in o here ≡ Some result → (w : ℕ) → result ≡ Some w → (is_some o ≡ true) × (here ≡ Some w)
result_is None here result e w ew = let none : None ≡ Some w = same_some None result e ∙ ew in absurd (let z : ⊥ = cc in z)
result_is (Some t) None result e w ew = let none : None ≡ Some w = same_some None result e ∙ ew in absurd (let z : ⊥ = cc in z)
result_is (Some t) (Some u) result e w ew =
    bool_cases (is_word_of t u)
    (λ b. let now : Some (Some u) ≡ Some result = rw b at e in (refl, same_some (Some u) result now ∙ ew))
    (λ b. let none : None ≡ Some result = rw b at e in absurd (let z : ⊥ = cc in z))

-- a word that three-address code returns is what flat code returns
abbrev Returns : (result : Option ℕ) → (given : Option flat.Value) → Type 0
Returns result given = (w : ℕ) → result ≡ Some w → (w < 2 ^ 32) × (given ≡ Some (flat.word w))

-- all but the result are lost
result_shows : (xs : List Spot) (result : Option ℕ) (given : Option flat.Value) → Returns result given → AllShow xs (result_alone result) (flat.result_alone given)
result_shows xs result given is k v e =
    bool_cases (eqb k 0)
    (λ t.
    let now : option_map word result ≡ Some v = rw t at e in
    let g = gave word result v now in
    let old = is g.from g.from_is in
    let there : flat.result_alone given k ≡ Some (flat.word g.from) = rw t old.1 in
    subst (λ x. Shows xs x (flat.result_alone given k)) g.is (old.0, there))
    (λ t. let none : None ≡ Some v = rw t at e in absurd (let z : ⊥ = cc in z))

-- a list below the frame on top
pub below_top : (p : flat_code.Program) (s : flat.State) (g : Frame) (gs : List Frame) (t2 : flat.Values) (l : ℕ) → s.waiting ≡ g ∷ gs → l ≢ name_of p s.frame s.waiting
    → memory p (record s { frame = g; temporaries = t2; arguments = flat.unset; waiting = gs }) l ≡ memory p s l
below_top p s g gs t2 zero e ne = refl
below_top p s g gs t2 (suc l) e ne =
    let other : eqb (name_of p s.frame s.waiting) (suc l) ≡ false = grind (arith, nat_tests) in
    ap (λ hs. memory_among p hs (suc l)) (sym e) ∙ sym (among_later p s.frame s.waiting (suc l) other)

module _ (q : Program) (f : flat_code.Program) (g : IsMadeOf q f) (t : State) (s : flat.State) (m : Matched q f t s) where
  to_caller : (c : Call) (cs : List Call) (fr : Frame) (fs : List Frame) (result : Option ℕ) (given : Option flat.Value) → Returns result given → t.waiting ≡ c ∷ cs → s.waiting ≡ fr ∷ fs → FramesHold q (c ∷ cs) (fr ∷ fs) t.store
      → Matched q f (record t { call = c; temporaries = result_alone result; waiting = cs; store = take t.call.base t.store; history = Left result ∷ t.history }) (record s { frame = fr; temporaries = flat.result_alone given; arguments = flat.unset; waiting = fs })
  to_caller c cs fr fs result given is et es frames =
      let lower = functions_of (c ∷ cs) in
      let base : t.call.base ≡ length (spots q lower) = m.frames.0.base ∙ ap (λ ws. length (spots q (functions_of ws))) et in
      let own = spots_from (stack_bytes q (open_calls t)) (flat_code.area_home (function_for q t.call.function)) (map own_piece (function_at q t.call.function).objects) in
      let all : length t.store ≡ length (spots q (functions_of t.waiting)) + length own = m.count ∙ length_both (spots q (functions_of t.waiting)) own in
      let at_least : t.call.base ≤ length t.store = omega (arith, all, m.frames.0.base) in
      let s2 : flat.State = record s { frame = fr; temporaries = flat.result_alone given; arguments = flat.unset; waiting = fs } in
      let kept : (n : ℕ) (x : Spot) → slice_get (spots q lower) n ≡ Some x → slice_get (take t.call.base t.store) n ≡ slice_get t.store n = λ n x ex. get_take t.call.base t.store n (omega (arith, base, some_below (spots q lower) n x ex)) in
      record {
        frames = frames_stay q (c ∷ cs) (fr ∷ fs) t.store (take t.call.base t.store) (λ n x ex out. kept n x ex) frames;
        temporaries = result_shows (spots q lower) result given is;
        count = length_take t.call.base t.store at_least ∙ base;
        in_place = λ n x ex bx.
            let before : slice_get (spots q (functions_of t.waiting)) n ≡ Some x = ap (λ ws. slice_get (spots q (functions_of ws)) n) et ∙ ex in
            let low = (orderly q lower).low n x ex in
            let name = name_is q f g t s m in
            let more : stack_bytes q (open_calls t) ≡ frame_bytes (function_for q t.call.function) + stack_bytes q lower = ap (λ ws. frame_bytes (function_for q t.call.function) + stack_bytes q (functions_of ws)) et in
            lies_by x (slice_get t.store n) (slice_get (take t.call.base t.store) n) (memory f s x.list) (memory f s2 x.list) (kept n x ex)
            (below_top f s fr fs (flat.result_alone given) x.list es (λ e. omega (arith, e, low, name, more, frame_some (function_for q t.call.function))))
            (m.in_place n x (get_left (spots q (functions_of t.waiting)) own n x before) bx);
        input = m.input;
        bytes = m.bytes;
        trace = m.trace;
      }

  returns : (cs : List Call) (fs : List Frame) (result : Option ℕ) (given : Option flat.Value) → Returns result given → t.waiting ≡ cs → s.waiting ≡ fs → FramesHold q cs fs t.store
      → Alike q f (returned t cs result) (flat.returned s given fs)
  returns [] [] result given is et es frames =
      bound q f result (λ w. ended (w % 2 ^ 8) t.input (Left (Some w) ∷ t.history)) (flat.returned s given []) (λ w ew.
      let h = is w ew in
      found q f (ended (w % 2 ^ 8) t.input (Left (Some w) ∷ t.history)) (flat.word_in given) w (λ v. flat.ended (v % 2 ^ 8) s.input s.trace) (ap flat.word_in h.1)
      (refl, m.input, m.trace))
  returns [] (fr ∷ fs) result given is et es frames = absurd frames
  returns (c ∷ cs) [] result given is et es frames = absurd frames
  returns (c ∷ cs) (fr ∷ fs) result given is et es frames = to_caller c cs fr fs result given is et es frames

  pub does_return : (u : Starts) → Alike q f (tac.act q t instruction.Return) (flat.act f s (translated u (layout_of (function_at q t.call.function)) instruction.Return))
  does_return u =
      let type = (function_at q t.call.function).result in
      bound q f (result_in type (word_at t (operand.Temporary 0))) (returned t t.waiting) (flat.returned s (flat.result_of f s) s.waiting)
      (λ result e. returns t.waiting s.waiting result (flat.result_of f s)
      (λ w ew.
      let is = result_is type (word_at t (operand.Temporary 0)) result e w ew in
      let shows = m.temporaries 0 (word w) (word_known (t.temporaries 0) w is.1) in
      (shows.0, result_held q f g t s m is.0 ∙ shows.1))
      refl refl m.frames.1)
