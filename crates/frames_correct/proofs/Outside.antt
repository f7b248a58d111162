-- Bytes put and got, and the end of the program.
use Rattle.std.proofs.Common.{◌≡◌, ℕ, suc, ◌+◌, ◌%◌, ◌^◌, ◌-◌, ◌<◌, List, [], ◌∷◌, Some, None, refl, sym, ap, subst, arith, eqb}
use Rattle.csem_events.specs.Events.{Event, Got, GotEnd, Put}
use Rattle.csem.specs.History.{Entry, Did, trace_of}
use Rattle.tac_code.specs.declared.code.Operand.TheVariants as operand
use Rattle.tac_code.specs.declared.code.Instruction.TheVariants as instruction
use Rattle.tac_code.specs.Code.{Program, Function, function_at}
use Rattle.tac_code.specs.Run as tac
use Rattle.tac_code.specs.Run.{State, Value, Values, word, Progress, running, ended, word_at, ◌>>=◌}
use Rattle.tac_code.specs.Sound.{OperandFits, AreBytes}
use Rattle.frames_code.specs.declared.code.Operand.TheVariants as source
use Rattle.frames_code.specs.Code as flat_code
use Rattle.frames_code.specs.Run as flat
use Rattle.frames.specs.Layout.{Starts, layout_of}
use Rattle.frames.specs.Translated.{translated}
use Rattle.frames_correct.specs.Matched.{Spot, Matched, Alike, Shows, AllShow}
use Rattle.frames_correct.proofs.Lists.{same_some, bool_cases}
use Rattle.frames_correct.proofs.Values.{word_shows}
use Rattle.frames_correct.proofs.Frames.{all_lie_by}
use Rattle.frames_correct.proofs.Targets.{bound, found, xs, moved, lists_stay}

-- the result alone
pub alone_shows : (xs : List Spot) (w : ℕ) → w < 2 ^ 32 → AllShow xs (tac.result_alone (Some w)) (flat.result_alone (Some (flat.word w)))
alone_shows xs w small k v e =
    bool_cases (eqb k 0)
    (λ t.
    let now : Some (word w) ≡ Some v = rw t at e in
    let there : flat.result_alone (Some (flat.word w)) k ≡ Some (flat.word w) = rw t refl in
    subst (λ x. Shows xs x (flat.result_alone (Some (flat.word w)) k)) (same_some (word w) v now) (small, there))
    (λ t. let none : None ≡ Some v = rw t at e in absurd (let z : ⊥ = cc in z))

pub none_shows : (xs : List Spot) (places : flat.Values) → AllShow xs tac.unset places
none_shows xs places k v e = absurd (let z : ⊥ = cc in z)

tail_bytes : (b : ℕ) (more : List ℕ) → AreBytes (b ∷ more) → AreBytes more
tail_bytes b more h k c e = h (suc k) c e

module _ (q : Program) (f : flat_code.Program) (t : State) (s : flat.State) (m : Matched q f t s) where
  abbrev the : Function
  the = function_at q t.call.function

  -- the states after it, with other temporaries, input and history
  further : (temporaries : Values) (places : flat.Values) (input input2 : List ℕ) (history : List Entry) (trace : List Event) → AllShow (xs q f t s m) temporaries places → AreBytes input → input2 ≡ input → trace ≡ trace_of history
      → Matched q f (record (tac.next t) { temporaries = temporaries; input = input; history = history }) (record (flat.next s) { temporaries = places; input = input2; trace = trace })
  further temporaries places input input2 history trace shows bytes same_input same = record {
    frames = (moved q f t s m (t.call.at + 1) (s.frame.at + 1) (omega (arith, m.frames.0.at)), m.frames.1);
    temporaries = shows;
    count = m.count;
    in_place = all_lie_by (xs q f t s m) t.store t.store (flat.memory f s) (flat.memory f (record (flat.next s) { temporaries = places; input = input2; trace = trace })) (λ n x ex bx. refl)
        (lists_stay q f t s m (record s.frame { at = s.frame.at + 1 }) places flat.unset input2 trace refl refl) m.in_place;
    input = same_input;
    bytes = bytes;
    trace = same;
  }

  pub does_put : (u : Starts) → OperandFits the (operand.Temporary 0) → Alike q f (tac.act q t instruction.PutByte) (flat.act f s (translated u (layout_of the) instruction.PutByte))
  does_put u fit =
      bound q f (word_at t (operand.Temporary 0)) (tac.put_byte t) (flat.act f s (translated u (layout_of the) instruction.PutByte)) (λ w ew.
      let h = word_shows q f t s m (operand.Temporary 0) w fit ew in
      found q f (tac.put_byte t w) (flat.word_at s (source.Temporary 0)) w (flat.put s) h.is
      (further tac.unset flat.unset t.input s.input (Did (Put (w % 2 ^ 8)) ∷ t.history) (Put (w % 2 ^ 8) ∷ s.trace) (none_shows (xs q f t s m) flat.unset) m.bytes m.input (ap (λ (h2 : List Event). Put (w % 2 ^ 8) ∷ h2) m.trace)))

  gets : (input : List ℕ) → t.input ≡ input → Alike q f (tac.got t input) (flat.got s input)
  gets [] e =
      further (tac.result_alone (Some (2 ^ 32 - 1))) (flat.result_alone (Some (flat.word (2 ^ 32 - 1)))) t.input s.input (Did GotEnd ∷ t.history) (GotEnd ∷ s.trace) (alone_shows (xs q f t s m) (2 ^ 32 - 1) (omega arith)) m.bytes m.input
      (ap (λ (h : List Event). GotEnd ∷ h) m.trace)
  gets (b ∷ more) e =
      let bytes : AreBytes (b ∷ more) = subst AreBytes e m.bytes in
      let small : b < 2 ^ 32 = omega (arith, bytes 0 b refl) in
      further (tac.result_alone (Some b)) (flat.result_alone (Some (flat.word b))) more more (Did (Got b) ∷ t.history) (Got b ∷ s.trace) (alone_shows (xs q f t s m) b small) (tail_bytes b more bytes) refl
      (ap (λ (h : List Event). Got b ∷ h) m.trace)

  pub does_get : (u : Starts) → Alike q f (tac.act q t instruction.GetByte) (flat.act f s (translated u (layout_of the) instruction.GetByte))
  does_get u = subst (λ i. Alike q f (tac.got t t.input) (flat.got s i)) (sym m.input) (gets t.input refl)

  pub does_exit : (u : Starts) → OperandFits the (operand.Temporary 0) → Alike q f (tac.act q t instruction.Exit) (flat.act f s (translated u (layout_of the) instruction.Exit))
  does_exit u fit =
      bound q f (word_at t (operand.Temporary 0)) (λ w. ended (w % 2 ^ 8) t.input t.history) (flat.act f s (translated u (layout_of the) instruction.Exit)) (λ w ew.
      let h = word_shows q f t s m (operand.Temporary 0) w fit ew in
      found q f (ended (w % 2 ^ 8) t.input t.history) (flat.word_at s (source.Temporary 0)) w (λ v. flat.ended (v % 2 ^ 8) s.input s.trace) h.is
      (refl, m.input, m.trace))
