use Rattle.std.proofs.Common.{arith, ap, length, List, ℕ, [], map, subst, sym}
use Rattle.rv32.specs.Words.{word_of}
use Rattle.asm.specs.inside.Code.{Writes, AreWords, whole_code}
use Rattle.asm.specs.Placed.{IsFewest}
use Rattle.asm.proofs.Standing.{resolved_low, assembled}
use Rattle.asm.proofs.listing.listing_of.Goals as goal

pub lines-requires-clause-words : goal.lines-requires-clause-words
lines-requires-clause-words c =
    let r = c.in_ok-code.ensures.ok in
    let here : AreWords c.in_ok-code.code.items = record { instrs = whole_code c.args.homes.now r.long r.places c.args.base c.args.items.now; written = r.written } in
    subst (λ (bs : List ℕ). AreWords bs) (sym c.deref.ensures.value) here

pub lines-requires-clause-low : goal.lines-requires-clause-low
lines-requires-clause-low c =
    let low = resolved_low c.args.homes.now c.args.base c.args.items.now c.in_ok-code.code.items c.in_ok-code.ensures.ok c.requires.low in
    let same = ap (λ (bs : List ℕ). length bs) c.deref.ensures.value in
    omega (arith, low, same)

pub returns-clause-ok : goal.returns-clause-ok
returns-clause-ok c =
    let r = c.in_ok-code.ensures.ok in
    let is = whole_code c.args.homes.now r.long r.places c.args.base c.args.items.now in
    let fewest = assembled c.args.homes.now c.args.base c.args.items.now c.in_ok-code.code.items c.requires.table c.requires.aligned c.requires.low r in
    record {
      words = map word_of is;
      assembled = subst (λ (bs : List ℕ). IsFewest c.args.items.now c.args.base bs) r.written.bytes fewest;
      lines = c.in_ok-bytes.ensures is (subst (λ (bs : List ℕ). Writes [] bs is) (sym c.deref.ensures.value) r.written);
    }
