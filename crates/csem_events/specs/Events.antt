-- The effects of a run on its outside: the bytes that it gets and puts, in one order. A history has the newest event first.
use Rattle.std.specs.Prelude.{ℕ, List, [], ◌∷◌, reverse}

-- a byte of the input was got, or its end was met, or a byte was put
pub data Event : Type 0 where
  Got : (b : ℕ) → Event
  GotEnd : Event
  Put : (b : ℕ) → Event

-- the bytes put, the newest first
abbrev pub puts : List Event → List ℕ
puts [] = []
puts (Got b ∷ earlier) = puts earlier
puts (GotEnd ∷ earlier) = puts earlier
puts (Put b ∷ earlier) = b ∷ puts earlier

-- the bytes got, the newest first
abbrev pub gets : List Event → List ℕ
gets [] = []
gets (Got b ∷ earlier) = b ∷ gets earlier
gets (GotEnd ∷ earlier) = gets earlier
gets (Put b ∷ earlier) = gets earlier

-- the bytes written, in their order
abbrev pub written : List Event → List ℕ
written history = reverse (puts history)

-- the bytes taken from the input, in their order
abbrev pub taken : List Event → List ℕ
taken history = reverse (gets history)
