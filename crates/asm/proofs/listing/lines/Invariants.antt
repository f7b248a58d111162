use Rattle.std.proofs.Common.{◌≡◌, ◌+◌, ◌*◌, List, [], take, map}
use Rattle.rv32.specs.declared.instr.Instr.{Instr}
use Rattle.rv32.specs.Words.{word_of}
use Rattle.asm.specs.Listing.{IsListing}
use Rattle.asm.specs.inside.Code.{Writes}
use Rattle.asm.proofs.listing.lines.Given as goal

abbrev pub invariant-loop-number : goal.invariant-loop-number
invariant-loop-number l = record {
  at_is : l.at ≡ l.base + 4 * l.number;
  listed : (is : List Instr) → Writes [] l.code is → IsListing l.base (map word_of (take l.number is)) l.bytes.items;
}
