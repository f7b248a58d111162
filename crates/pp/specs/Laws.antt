-- Laws of streams: what stays the same as the table of names grows.
use Rattle.srcset.specs.NameTable.{Texts, KeepsNumbers, NumbersOnce}
use Rattle.pp.specs.declared.stream.Pp.{Pp}
use Rattle.pp.specs.Phase4.{Phase4}
use Rattle.pp.specs.Stream.{IsRest, IsStream}

-- a stream stays one
abbrev pub StreamGrows : Type 0
StreamGrows = (names after : Texts) (pp : Pp) → KeepsNumbers names after → IsStream names pp → IsStream after pp

-- and the same is left of it, where no text of the later table has two numbers
abbrev pub RestGrows : Type 0
RestGrows =
    (names after texts : Texts) (pp : Pp) (rest : Phase4) → KeepsNumbers names after → NumbersOnce after → IsRest names texts pp rest
    → IsRest after texts pp rest
