use Rattle.std.proofs.Common.{◌≡◌, ◌<◌, ◌+◌, ◌++◌, ◌∷◌, [], List, arith, subst, refl, ◌∙◌, sym, length, take, map}
use Rattle.std.proofs.lemmas.List.{length-take-le, length-map, take_all}
use Rattle.rv32.specs.declared.instr.Instr.{Instr}
use Rattle.rv32.specs.Words.{word_of, decode_of}
use Rattle.std.specs.Prelude.{Option, Some, IsSome}
use Rattle.asm.specs.Listing.{IsListing}
use Rattle.asm.specs.Text.{text_of}
use Rattle.asm.proofs.Listings.{listing_more}
use Rattle.asm.proofs.WordLemmas.{words_count, words_more, decodes_at}
use Rattle.asm.proofs.listing.lines.Goals as goal

pub loop-number-preserved : goal.loop-number-preserved
loop-number-preserved c =
    let bs = c.args.code.now in
    let n = c.loop-number.number in
    let text_is : c.as_str.result.now ≡ text_of c.instr_in.result = c.as_str.ensures.value ∙ c.in_ok-words.ensures in
    record {
      at_is = omega arith;
      listed = λ is w.
          let lt : n < length is = omega (arith, words_count bs is w) in
          let ws = map word_of (take n is) in
          let len : length ws ≡ n = length-map (take n is) word_of ∙ length-take-le n is (omega arith) in
          let next : map word_of (take (n + 1) is) ≡ ws ++ c.word_in-word.result ∷ [] = words_more bs is n c.word_in-word.result w lt c.word_in-word.ensures in
          rw (next, c.in_ok-put_line.ensures, text_is) (listing_more c.args.base c.loop-number.at c.word_in-word.result ws c.loop-number.bytes.items c.instr_in.result (c.loop-number.invariant.listed is w) c.instr_in.ensures (omega (arith, len)));
    }

some_is : (o : Option Instr) (x : Instr) → o ≡ Some x → IsSome o
some_is o x e = subst (λ (p : Option Instr). IsSome p) (sym e) refl

pub instr_in-requires : goal.instr_in-requires
instr_in-requires c =
    let r = c.requires.words in
    let n = c.loop-number.number in
    let lt : n < length r.instrs = omega (arith, words_count c.args.code.now r.instrs r.written) in
    some_is (decode_of c.word_in-word.result) _ (decodes_at c.args.code.now r.instrs n c.word_in-word.result r.written lt c.word_in-word.ensures)

pub returns : goal.returns
returns c = λ is w.
    let whole : take c.loop-number.number is ≡ is = take_all c.loop-number.number is (omega (arith, words_count c.args.code.now is w)) in
    subst (λ (js : List Instr). IsListing c.args.base (map word_of js) c.loop-number.bytes.items) whole (c.loop-number.invariant.listed is w)
