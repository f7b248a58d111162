-- A beginning of what a run reads and writes ends with a tick, or inside a tick that writes several bytes.
use Rattle.std.proofs.Common.{◌≡◌, ◌≤◌, ◌⊎◌, inl, inr, ℕ, zero, suc, ◌+◌, List, [], ◌∷◌, ◌++◌, refl, sym, ap, ◌∙◌, arith}
use Rattle.std.specs.Prelude.{Option, None, Some, slice_get, reverse}
use Rattle.std.proofs.lemmas.List.{reverse-append}
use Rattle.std.specs.Io.KnownBytes.{Appends}
use Rattle.csem_events.specs.Events.{Event, Got, GotEnd, Put, puts, written}
use Rattle.typing_spec.specs.Program as typed
use Rattle.csem.specs.History.{Entry, Did, Entered, Left, trace_of}
use Rattle.csem.proofs.Histories.{history_grows}
use Rattle.csem.specs.Machine.{then_do}
use Rattle.csem.specs.Meaning.{start, end_with, calling, call_defined, cstep, last_of, answer}
use Rattle.io_ports.specs.Port.{PortView}
use Rattle.cabs.specs.Interpreting.{IsGivenUp, IsBegun}
use Rattle.cabs.specs.inside.Standing.{bytes_of}
use Rattle.cabs.proofs.Telling.{append_none, output_as}

-- ---- lists

-- of two ways to part a list in two, one cuts no later than the other
cuts : {A : Type 0} (n e d t : List A) → n ++ e ≡ d ++ t → ((m : List A) × (t ≡ m ++ e)) ⊎ ((m : List A) × (e ≡ m ++ t))
cuts [] e d t h = inr (d, h)
cuts (x ∷ n) e [] t h = inl (x ∷ n, sym h)
cuts (x ∷ n) e (y ∷ d) t h = let tails : n ++ e ≡ d ++ t = cc h in cuts n e d t tails

nothing_before : (xs ys : List ℕ) → xs ++ ys ≡ [] → xs ≡ []
nothing_before [] ys e = refl
nothing_before (x ∷ xs) ys e = absurd (cc e)

puts_append : (m t : List Event) → puts (m ++ t) ≡ puts m ++ puts t
puts_append [] t = refl
puts_append (Got b ∷ m) t = puts_append m t
puts_append (GotEnd ∷ m) t = puts_append m t
puts_append (Put b ∷ m) t = ap (λ l. b ∷ l) (puts_append m t)

written_append : (m t : List Event) → written (m ++ t) ≡ written t ++ written m
written_append m t = ap reverse (puts_append m t) ∙ reverse-append (puts m) (puts t)

-- ---- what the run does grows with its clock

first_bytes : (p : typed.Program) (g : Option typed.Function) (input : List ℕ) → bytes_of (last_of (then_do (call_defined p (calling p 0) g p.main [] (start 0 p input)) end_with)).history ≡ []
first_bytes p None input = refl
first_bytes p (Some g) input = refl

nothing_put : (p : typed.Program) (input : List ℕ) → [] ≡ (answer 0 p input).output
nothing_put p input = sym (first_bytes p (slice_get p.functions p.main) input)

pub trace_more : (newer h : List Entry) → trace_of (newer ++ h) ≡ trace_of newer ++ trace_of h
trace_more [] h = refl
trace_more (Did e ∷ newer) h = ap (λ l. e ∷ l) (trace_more newer h)
trace_more (Entered f arguments ∷ newer) h = trace_more newer h
trace_more (Left result ∷ newer) h = trace_more newer h

pub one_more : (k : ℕ) → suc k ≡ 1 + k
one_more k = omega arith

module _ (p : typed.Program) (input : List ℕ) where
  abbrev trace_at : ℕ → List Event
  trace_at n = trace_of (last_of (cstep n p input)).history

  pub trace_grows : (k : ℕ) → (more : List Event) × (trace_at (suc k) ≡ more ++ trace_at k)
  trace_grows k =
      let g = history_grows k 1 p input in
      (trace_of g.0, ap (λ n. trace_at n) (one_more k) ∙ ap trace_of g.1 ∙ trace_more g.0 (last_of (cstep k p input)).history)

  module _ (old new : PortView) where
    -- some bytes of a tick and the rest of them
    settled : (k : ℕ) (bytes some rest : List ℕ) → bytes ≡ (answer k p input).output ++ some → (answer (suc k) p input).output ≡ bytes ++ rest → Appends old.output new.output bytes →
        IsGivenUp p input (suc k) old new
    settled k bytes [] rest a b out = (k, inl (omega arith, output_as old.output new.output _ _ (a ∙ sym (append_none (answer k p input).output)) out))
    settled k bytes (x ∷ some) [] a b out = (suc k, inl (omega arith, output_as old.output new.output _ _ (append_none bytes ∙ sym b) out))
    settled k bytes (x ∷ some) (y ∷ rest) a b out = (
      k,
      inr (
        omega arith,
        record {
          first = x;
          some = some;
          next = y;
          rest = rest;
          tick_is = b ∙ ap (λ bs. bs ++ y ∷ rest) a;
          output_is = output_as old.output new.output _ _ a out;
        },
      ),
    )

    wider : (k ticks : ℕ) → k ≤ ticks → IsGivenUp p input k old new → IsGivenUp p input ticks old new
    wider k ticks le g = (
      g.0,
      elim g.1 [
        | inl h ↦ inl (omega (arith, le, h.0), h.1)
        | inr h ↦ inr (omega (arith, le, h.0), h.1)
      ],
    )

    placed : (k : ℕ) (newer events : List Event) → trace_at k ≡ newer ++ events → Appends old.output new.output (written events) → IsGivenUp p input k old new
    placed zero newer events e out =
        let none : written events ++ written newer ≡ [] = sym (written_append newer events) ∙ ap written (sym e) ∙ sym (nothing_put p input) in
        (0, inl (omega arith, output_as old.output new.output _ _ (nothing_before _ _ none ∙ nothing_put p input) out))
    placed (suc k) newer events e out =
        let g = trace_grows k in
        elim (cuts newer events g.0 (trace_at k) (sym e ∙ g.1)) [
          | inl m ↦ wider k (suc k) (omega arith) (placed k m.0 events m.1 out)
          | inr m ↦ settled k (written events) (written m.0) (written newer) (ap written m.1 ∙ written_append m.0 (trace_at k)) (ap written e ∙ written_append newer events) out
        ]

    pub given_up : (ticks : ℕ) → IsBegun p input ticks old new → IsGivenUp p input ticks old new × IsBegun p input ticks old new
    given_up ticks b = (wider b.clock ticks b.within (placed b.clock b.begins.0 b.events b.begins.1 b.output_is), b)
