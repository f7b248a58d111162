-- Laws of the third pass.
use Rattle.std.proofs.Common.{◌≡◌, ℕ, List, [], ◌∷◌, ◌++◌, false, Result, Ok, Err, IfOk, Vec, refl, sym, ap, ◌∙◌, subst, append_assoc, append-nil}
use Rattle.std.specs.declared.alloc.Global.{Global}
use Rattle.srcset.specs.declared.refusal.Pos.{Pos}
use Rattle.srcset.specs.declared.refusal.Refusal.{Refusal}
use Rattle.srcset.specs.declared.refusal.Refusal.TheVariants.{Memory, At, Told}
use Rattle.srcset.specs.declared.code.Code.{Code}
use Rattle.srcset.specs.NameTable.{Texts}
use Rattle.macros_substitution.specs.declared.piece.HiddenToken.{HiddenToken}
use Rattle.macros_substitution.specs.declared.piece.Piece.{Piece as HeldPiece}
use Rattle.macros_substitution.specs.declared.piece.Piece.TheVariants.{One, Parameter, Joint, Placemarker}
use Rattle.macros_substitution.specs.declared.joining.Hand.TheVariants.{Left, Joining as HandJoining}
use Rattle.macros_substitution.specs.declared.joining.Joining.{Joining}
use Rattle.macros_substitution.specs.HideSets.{Sets}
use Rattle.macros_substitution.specs.Meaning.{hidden_all, piece_as, AreIn, PieceIn}
use Rattle.macros_substitution.specs.Substitution.{◌>>=◌, Hidden, Piece, joint, in_front, join, all_joined, tokens_of}
use Rattle.macros_substitution.specs.inside.Steps.{joint_held, tokens_in, resumed, behind_done, going, HandIn, JoiningIn, JoinsTo, GoesOn}
use Rattle.macros_substitution.proofs.Fronts.{hidden_append, are_in_append}

next_joined : (texts : Texts) (sets : Sets) (p : Piece) (q : HeldPiece) (ps : List Piece) (at : Pos) → joint_held q ≡ false
    → all_joined p (piece_as texts sets q ∷ ps) at ≡ in_front p (all_joined (piece_as texts sets q) ps at)
unfolding all_joined
next_joined texts sets p (One x) ps at e = refl
next_joined texts sets p (Parameter b s i) ps at e = refl
next_joined texts sets p Joint ps at e = absurd (cc)
next_joined texts sets p (Placemarker s) ps at e = refl

both_joined : (p q : Piece) (ps : List Piece) (at : Pos) → all_joined p (joint ∷ q ∷ ps) at ≡ (join p q at >>= λ r. all_joined r ps at)
unfolding all_joined
both_joined p q ps at = refl

tokens_first : (texts : Texts) (sets : Sets) (p : HeldPiece) (ps : List Piece) → tokens_of (piece_as texts sets p ∷ ps) ≡ hidden_all texts sets (tokens_in p) ++ tokens_of ps
tokens_first texts sets (One x) ps = refl
tokens_first texts sets (Parameter b s i) ps = refl
tokens_first texts sets Joint ps = refl
tokens_first texts sets (Placemarker s) ps = refl

-- a piece that is done
piece_done : (texts : Texts) (sets : Sets) (done : List HiddenToken) (p : HeldPiece) (r : Result (List Piece) Code)
    → behind_done (hidden_all texts sets done) (in_front (piece_as texts sets p) r) ≡ behind_done (hidden_all texts sets (done ++ tokens_in p)) r
piece_done texts sets done p (Err e) = refl
piece_done texts sets done p (Ok ps) =
    ap Ok (ap (λ t. hidden_all texts sets done ++ t) (tokens_first texts sets p ps)
    ∙ sym (append_assoc (hidden_all texts sets done) (hidden_all texts sets (tokens_in p)) (tokens_of ps))
    ∙ ap (λ t. t ++ tokens_of ps) (sym (hidden_append texts sets done (tokens_in p))))

pub feed_left : (texts : Texts) (sets : Sets) (j : Joining) (p q : HeldPiece) (done : List HiddenToken) (behind : List Piece) (at : Pos)
    → j.hand ≡ Left p → joint_held q ≡ false → done ≡ j.done.items ++ tokens_in p
    → going texts sets j (piece_as texts sets q ∷ behind) at ≡ behind_done (hidden_all texts sets done) (all_joined (piece_as texts sets q) behind at)
feed_left texts sets j p q done behind at h n d =
    let D : List HiddenToken → List Hidden = hidden_all texts sets in
    ap (λ k. behind_done (D j.done.items) (resumed texts sets k (piece_as texts sets q ∷ behind) at)) h
    ∙ ap (λ r. behind_done (D j.done.items) r) (next_joined texts sets (piece_as texts sets p) q behind at n)
    ∙ piece_done texts sets j.done.items p (all_joined (piece_as texts sets q) behind at)
    ∙ ap (λ t. behind_done (D t) (all_joined (piece_as texts sets q) behind at)) (sym d)

pub feed_joining : (texts : Texts) (sets : Sets) (j : Joining) (p q : HeldPiece) (behind : List Piece) (at : Pos) → j.hand ≡ HandJoining p
    → going texts sets j (piece_as texts sets q ∷ behind) at
    ≡ behind_done (hidden_all texts sets j.done.items) (join (piece_as texts sets p) (piece_as texts sets q) at >>= λ r. all_joined r behind at)
feed_joining texts sets j p q behind at h =
    ap (λ k. behind_done (hidden_all texts sets j.done.items) (resumed texts sets k (piece_as texts sets q ∷ behind) at)) h
    ∙ ap (λ r. behind_done (hidden_all texts sets j.done.items) r) (both_joined (piece_as texts sets p) (piece_as texts sets q) behind at)

pub feed_made : (texts : Texts) (sets : Sets) (j : Joining) (p q made : HeldPiece) (behind : List Piece) (at : Pos) → j.hand ≡ HandJoining p
    → join (piece_as texts sets p) (piece_as texts sets q) at ≡ Ok (piece_as texts sets made)
    → going texts sets j (piece_as texts sets q ∷ behind) at ≡ behind_done (hidden_all texts sets j.done.items) (all_joined (piece_as texts sets made) behind at)
feed_made texts sets j p q made behind at h e =
    feed_joining texts sets j p q behind at h
    ∙ ap (λ r. behind_done (hidden_all texts sets j.done.items) (r >>= λ m. all_joined m behind at)) e

-- the refusal of a `##` is the pass's
pub feed_refused : (texts : Texts) (sets : Sets) (j : Joining) (p q : HeldPiece) (behind : List Piece) (at : Pos) (refusal : Refusal) → j.hand ≡ HandJoining p
    → JoinsTo texts sets at (Err refusal) (join (piece_as texts sets p) (piece_as texts sets q) at)
    → GoesOn texts sets at j (piece_as texts sets q ∷ []) (Err refusal) behind
feed_refused texts sets j p q behind at Memory h e = tt
feed_refused texts sets j p q behind at (At code pos) h e =
    (e.0, feed_joining texts sets j p q behind at h ∙ ap (λ r. behind_done (hidden_all texts sets j.done.items) (r >>= λ m. all_joined m behind at)) e.1)
feed_refused texts sets j p q behind at (Told code pos text) h e = e

pub tokens_known : (count : ℕ) (p : HeldPiece) → PieceIn count p → AreIn count (tokens_in p)
tokens_known count (One x) h = (h, tt)
tokens_known count (Parameter b s i) h = tt
tokens_known count Joint h = tt
tokens_known count (Placemarker s) h = tt

pub done_known : (count : ℕ) (j : Joining) (p : HeldPiece) (done : List HiddenToken) → j.hand ≡ Left p → JoiningIn count j → done ≡ j.done.items ++ tokens_in p → AreIn count done
done_known count j p done h known d =
    subst (AreIn count) (sym d) (are_in_append count _ _ known.done (tokens_known count p (subst (HandIn count) h known.hand)))

-- ---- the last piece

pub finish_left : (texts : Texts) (sets : Sets) (at : Pos) (j : Joining) (p : HeldPiece) (done : List HiddenToken) → j.hand ≡ Left p → done ≡ j.done.items ++ tokens_in p
    → going texts sets j [] at ≡ Ok (hidden_all texts sets done)
unfolding all_joined
finish_left texts sets at j p done h d =
    ap (λ k. behind_done (hidden_all texts sets j.done.items) (resumed texts sets k [] at)) h
    ∙ piece_done texts sets j.done.items p (Ok [])
    ∙ ap Ok (append-nil (hidden_all texts sets (j.done.items ++ tokens_in p)) ∙ ap (hidden_all texts sets) (sym d))

pub finish_joining : (texts : Texts) (sets : Sets) (at : Pos) (j : Joining) (p : HeldPiece) (done : List HiddenToken) → j.hand ≡ HandJoining p → done ≡ j.done.items ++ tokens_in p
    → going texts sets j [] at ≡ Ok (hidden_all texts sets done)
unfolding all_joined
finish_joining texts sets at j p done h d =
    ap (λ k. behind_done (hidden_all texts sets j.done.items) (resumed texts sets k [] at)) h
    ∙ piece_done texts sets j.done.items p (Ok (joint ∷ []))
    ∙ ap Ok (append-nil (hidden_all texts sets (j.done.items ++ tokens_in p)) ∙ ap (hidden_all texts sets) (sym d))

-- the result of a list that is finished, or not when out of memory
pub if_finished : (r : Result (Vec HiddenToken Global) Refusal) (items : List HiddenToken) (P : List HiddenToken → Type 0) → IfOk r (λ all. all.items ≡ items) → P items → IfOk r (λ all. P all.items)
if_finished (Ok v) items P e p = subst P (sym e) p
if_finished (Err e) items P h p = tt

pub done_joining : (count : ℕ) (j : Joining) (p : HeldPiece) → j.hand ≡ HandJoining p → JoiningIn count j → AreIn count (j.done.items ++ tokens_in p)
done_joining count j p h known = are_in_append count _ _ known.done (tokens_known count p (subst (HandIn count) h known.hand))
