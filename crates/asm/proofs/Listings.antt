-- One more line at the end of a listing.
use Rattle.std.proofs.Common.{length, ◌≡◌, ℕ, ◌+◌, ◌*◌, List, [], ◌∷◌, ◌++◌, refl, sym, ap, ◌∙◌, arith, append_assoc, append-nil, Some}
use Rattle.rv32.specs.declared.instr.Instr.{Instr}
use Rattle.rv32.specs.Words.{decode_of}
use Rattle.asm.specs.Text.{text_of}
use Rattle.asm.specs.Listing.{line, IsListing}

pub listing_more : (a b w : ℕ) (ws bs : List ℕ) (i : Instr) → IsListing a ws bs → decode_of w ≡ Some i → b ≡ a + 4 * length ws
    → IsListing a (ws ++ w ∷ []) (bs ++ line b w (text_of i))
listing_more a b w [] bs i l d e =
    let same : b ≡ a = omega (arith, e) in
    (i, d, [], rw (l, same) (sym (append-nil (line a w (text_of i)))), refl)
listing_more a b w (v ∷ ws) bs i l d e =
    let q = listing_more (a + 4) b w ws l.2 i l.4 d (omega (arith, e)) in
    (l.0, l.1, l.2 ++ line b w (text_of i), ap (λ x. x ++ line b w (text_of i)) l.3 ∙ append_assoc (line a v (text_of l.0)) l.2 (line b w (text_of i)), q)
