-- The segments of memory that a file's headers make.
use Rattle.std.specs.Prelude.{ℕ, ◌≡◌, ◌≢◌, ◌/◌, ◌%◌, ◌==◌, true, List, [], ◌∷◌, vec_len}
use Rattle.rv32.specs.Space.{covers, byte_in}
use Rattle.rv32.specs.declared.memory.Segment.{Segment}
use Rattle.loader.specs.declared.header.LoadHeader.{LoadHeader}
use Rattle.loader.specs.File.{byte_of}

-- s is the segment that l loads
pub record IsLoaded (file : List ℕ) (l : LoadHeader) (s : Segment) : Type 0 where
  pub start : s.start ≡ l.address
  pub len : vec_len s.bytes ≡ l.memory_size
  pub readable : s.readable ≡ (l.flags / 4 % 2 == 1)
  pub writable : s.writable ≡ (l.flags / 2 % 2 == 1)
  pub executable : s.executable ≡ (l.flags % 2 == 1)
  pub byte : (a : ℕ) → covers s a ≡ true → byte_in s a ≡ byte_of file l a

-- the segments are those of the headers that take memory, in order
pub data AreLoaded (file : List ℕ) : List LoadHeader → List Segment → Type 0 where
  nothing : AreLoaded file [] []
  skipped : (l : LoadHeader) (rest : List LoadHeader) (segments : List Segment) → l.memory_size ≡ 0 → AreLoaded file rest segments → AreLoaded file (l ∷ rest) segments
  loaded : (l : LoadHeader) (s : Segment) (rest : List LoadHeader) (segments : List Segment) → l.memory_size ≢ 0 → IsLoaded file l s → AreLoaded file rest segments → AreLoaded file (l ∷ rest) (s ∷ segments)
