-- What a file does before it meets undefined behaviour, and that it depends only on the input that it has read.
use Rattle.std.specs.Prelude.{◌≡◌, ◌≤◌, ℕ, suc, List, [], ◌∷◌, ◌++◌, length}
use Rattle.csem_events.specs.Events.{Event, Got, GotEnd, Put}
use Rattle.loader.specs.File.{Image}
use Rattle.sim.specs.Runs as sim
use Rattle.sim.specs.Runs.{World, Progress, Running, Trapped}
use Rattle.typing_spec.specs.Program.{Program}
use Rattle.csem.specs.Meaning.{answer}
use Rattle.cc_backend.specs.Runs.{RunsAs, IsInput}
use Rattle.cc_laws.specs.Laws.{HasImage, run_of, done_in, IsBeginning}

-- ---- up to undefined behaviour

-- Whatever the abstract machine does within n ticks, up to undefined behaviour where it meets any, also within the tick in which it meets it, and whatever would come
-- later: where its calls were within the stack, after some k instructions the file has done all that it did, and at each before, a beginning of it.
abbrev pub DoesAllSoFar : Type 0
DoesAllSoFar =
    (stack : ℕ) (p : Program) (frames file : List ℕ) → RunsAs stack p frames file
    → HasImage file (λ image. (input : List ℕ) → IsInput input
    → (n : ℕ) → (answer n p input).greatest ≤ stack
    → (k : ℕ) × (done_in (run_of image input k) ≡ (answer n p input).trace)
    × ((j : ℕ) → j ≤ k → IsBeginning (done_in (run_of image input j)) (answer n p input).trace))

-- ---- the input

-- how often the input was read, the end included
abbrev pub reads : List Event → ℕ
reads [] = 0
reads (Got b ∷ earlier) = suc (reads earlier)
reads (GotEnd ∷ earlier) = suc (reads earlier)
reads (Put b ∷ earlier) = reads earlier

abbrev pub trace_in : Progress → List Event
trace_in (Running w) = w.trace
trace_in (sim.Ended status w) = w.trace
trace_in (Trapped c w) = w.trace

-- the same, with another input left
abbrev pub leaving : List ℕ → World → World
leaving input w = record { machine = w.machine; input = input; trace = w.trace }

abbrev pub with_left : List ℕ → Progress → Progress
with_left input (Running w) = Running (leaving input w)
with_left input (sim.Ended status w) = sim.Ended status (leaving input w)
with_left input (Trapped c w) = Trapped c (leaving input w)

-- The runs of an image on two inputs that begin with the same bytes a: as long as the first has read no more often than a has bytes, they are the same except for the
-- input that is left.
abbrev pub ReadsAsItGoes : Type 0
ReadsAsItGoes =
    (image : Image) (a b c : List ℕ) (k : ℕ) → reads (trace_in (run_of image (a ++ b) k)) ≤ length a
    → (left : List ℕ) × (x : Progress) × (run_of image (a ++ b) k ≡ with_left (left ++ b) x) × (run_of image (a ++ c) k ≡ with_left (left ++ c) x)
