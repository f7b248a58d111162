-- The words read from code, one after another.
use Rattle.std.proofs.Common.{length, get_or, take, map, ◌≡◌, ℕ, ◌+◌, ◌*◌, ◌<◌, List, [], ◌∷◌, ◌++◌, sym, ap, ◌∙◌, subst, arith}
use Rattle.std.specs.Prelude.{Some, slice_index, slice_index_or}
use Rattle.std.proofs.lemmas.List.{take_more, map-append, get_or_default, length-map}
use Rattle.rv32.specs.declared.instr.Instr.{Instr}
use Rattle.rv32.specs.declared.instr.Instr.TheVariants as instr
use Rattle.rv32.specs.Space.{word_at}
use Rattle.rv32.specs.Words.{decode_of, word_of}
use Rattle.asm.specs.inside.Code.{Writes}
use Rattle.asm.specs.Placed.{bytes_of, Holds}
use Rattle.asm.proofs.Standing.{bytes_len, held_at}

pub words_count : (bs : List ℕ) (is : List Instr) → Writes [] bs is → length bs ≡ 4 * length is
words_count bs is w =
    let len : length bs ≡ length (bytes_of (map word_of is)) = ap length w.bytes in
    omega (arith, len, bytes_len (map word_of is), length-map is word_of)

read : (bs : List ℕ) (is : List Instr) (n : ℕ) → Writes [] bs is → n < length is → (word_at (slice_index bs) (4 * n) ≡ word_of (slice_index_or is n instr.Ebreak)) × (decode_of (word_at (slice_index bs) (4 * n)) ≡ Some (slice_index_or is n instr.Ebreak))
read bs is n w lt =
    let holds : Holds (slice_index bs) 0 bs = record { at = λ j below. (let same : 0 + j ≡ j = omega arith in ap (slice_index bs) same) } in
    let same : 0 + 4 * n ≡ 4 * n = omega arith in
    subst (λ (b : ℕ). (word_at (slice_index bs) b ≡ word_of (slice_index_or is n instr.Ebreak)) × (decode_of (word_at (slice_index bs) b) ≡ Some (slice_index_or is n instr.Ebreak))) same
    (held_at (slice_index bs) 0 is n (subst (λ (b : List ℕ). Holds (slice_index bs) 0 b) w.bytes holds) w.decoding lt)

pub decodes_at : (bs : List ℕ) (is : List Instr) (n v : ℕ) → Writes [] bs is → n < length is → v ≡ word_at (slice_index bs) (4 * n) → decode_of v ≡ Some (slice_index_or is n instr.Ebreak)
decodes_at bs is n v w lt e = ap decode_of e ∙ (read bs is n w lt).1

pub words_more : (bs : List ℕ) (is : List Instr) (n v : ℕ) → Writes [] bs is → n < length is → v ≡ word_at (slice_index bs) (4 * n) → map word_of (take (n + 1) is) ≡ map word_of (take n is) ++ v ∷ []
words_more bs is n v w lt e =
    let x : Instr = slice_index_or is n instr.Ebreak in
    let here : x ≡ get_or is n x = get_or_default is n instr.Ebreak x lt in
    let word : word_of x ≡ v = sym (e ∙ (read bs is n w lt).0) in
    ap (map word_of) (take_more is n x lt) ∙ map-append word_of (take n is) _ ∙ ap (λ (y : Instr). map word_of (take n is) ++ word_of y ∷ []) (sym here) ∙ ap (λ (u : ℕ). map word_of (take n is) ++ u ∷ []) word
