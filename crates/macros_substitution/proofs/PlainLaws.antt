-- Laws of a replacement list without `##`.
use Rattle.std.proofs.Common.{arith, ◌≡◌, ℕ, zero, suc, ◌≤◌, nat_eq, List, [], ◌∷◌, ◌++◌, ◌||◌, Bool, true, false, Result, Ok, Err, IfOk, IfErr, Vec, Some, None, OnOk, ◌<◌, get_or, length, slice_get, slice_set, refl, sym, ap, ◌∙◌, subst, append_assoc, append-nil}
use Rattle.std.proofs.lemmas.Bool.{eqb-true, eq-eqb}
use Rattle.std.specs.List.{list_any}
use Rattle.std.specs.declared.alloc.Global.{Global}
use Rattle.srcset.specs.declared.refusal.Pos.{Pos}
use Rattle.srcset.specs.declared.refusal.Refusal.{Refusal}
use Rattle.srcset.specs.declared.refusal.Refusal.TheVariants.{Memory, At, Told}
use Rattle.srcset.specs.NameTable.{Texts}
use Rattle.macros_substitution.specs.declared.piece.HiddenToken.{HiddenToken}
use Rattle.macros_substitution.specs.declared.piece.Piece.{Piece as HeldPiece}
use Rattle.macros_substitution.specs.declared.piece.Piece.TheVariants.{One, Parameter, Joint, Placemarker}
use Rattle.macros_substitution.specs.HideSets.{Sets}
use Rattle.macros_substitution.specs.Meaning.{hidden_all, hidden_lists, piece_as, pieces_as, AreIn, ListsIn, PieceIn, PiecesIn, HasBeside, GivesTokens}
use Rattle.macros_substitution.specs.Substitution.{Hidden, Piece, one, parameter, joint, placemarker, Call, list_at, ones, marked, plain, in_front, all_joined, joints_done, tokens_of, substituted}
use Rattle.macros_substitution.specs.inside.Reading.{expanded_held}
use Rattle.macros_substitution.specs.inside.Steps.{joint_held, put_of, all_put}
use Rattle.macros_substitution.specs.inside.Plain.{marked_held, held_at, put_held, all_held, KeepsUsed, PutsPiece}
use Rattle.macros_substitution.proofs.Fronts.{hidden_append, are_in_append}
use Rattle.macros_substitution.proofs.Feeds.{substituted_by, tokens_left}

-- ---- no `##`

abbrev NoJoint : List Piece → Type 0
NoJoint [] = Unit {0}
NoJoint (one x ∷ ps) = NoJoint ps
NoJoint (parameter b s i ∷ ps) = NoJoint ps
NoJoint (joint ∷ ps) = ⊥
NoJoint (placemarker s ∷ ps) = NoJoint ps

none_joined : (p : Piece) (ps : List Piece) (at : Pos) → NoJoint ps → all_joined p ps at ≡ Ok (p ∷ ps)
unfolding all_joined
none_joined p [] at h = refl
none_joined p (one x ∷ ps) at h = ap (in_front p) (none_joined (one x) ps at h)
none_joined p (parameter b s i ∷ ps) at h = ap (in_front p) (none_joined (parameter b s i) ps at h)
none_joined p (joint ∷ ps) at h = absurd h
none_joined p (placemarker s ∷ ps) at h = ap (in_front p) (none_joined (placemarker s) ps at h)

none_done : (ps : List Piece) (at : Pos) → NoJoint ps → joints_done ps at ≡ Ok ps
none_done [] at h = refl
none_done (one x ∷ ps) at h = none_joined (one x) ps at h
none_done (parameter b s i ∷ ps) at h = none_joined (parameter b s i) ps at h
none_done (joint ∷ ps) at h = absurd h
none_done (placemarker s ∷ ps) at h = none_joined (placemarker s) ps at h

no_append : (ps qs : List Piece) → NoJoint ps → NoJoint qs → NoJoint (ps ++ qs)
no_append [] qs p q = q
no_append (one x ∷ ps) qs p q = no_append ps qs p q
no_append (parameter b s i ∷ ps) qs p q = no_append ps qs p q
no_append (joint ∷ ps) qs p q = absurd p
no_append (placemarker s ∷ ps) qs p q = no_append ps qs p q

no_ones : (xs : List Hidden) → NoJoint (ones xs)
no_ones [] = tt
no_ones (x ∷ xs) = no_ones xs

no_marked : (space : Bool) (xs : List Hidden) → NoJoint (ones (marked space xs))
no_marked space [] = tt
no_marked space (x ∷ xs) = no_ones xs

no_plain : (space : Bool) (xs : List Hidden) → NoJoint (plain space xs)
no_plain space [] = tt
no_plain space (x ∷ xs) = no_ones xs

no_put : (texts : Texts) (sets : Sets) (arguments full : List (List Hidden)) (p : HeldPiece) → joint_held p ≡ false → NoJoint (put_of arguments full (piece_as texts sets p))
no_put texts sets arguments full (One x) e = tt
no_put texts sets arguments full (Parameter true s i) e = no_plain s (list_at i arguments)
no_put texts sets arguments full (Parameter false s i) e = no_marked s (list_at i full)
no_put texts sets arguments full Joint e = absurd (cc)
no_put texts sets arguments full (Placemarker s) e = tt

or_false : (a b : Bool) → (a || b) ≡ false → (a ≡ false) × (b ≡ false)
or_false false b e = (refl, e)
or_false true b e = absurd (cc)

no_all : (texts : Texts) (sets : Sets) (arguments full : List (List Hidden)) (ps : List HeldPiece) → list_any joint_held ps ≡ false → NoJoint (all_put arguments full (pieces_as texts sets ps))
no_all texts sets arguments full [] e = tt
no_all texts sets arguments full (p ∷ ps) e =
    let q = or_false (joint_held p) (list_any joint_held ps) e in
    no_append (put_of arguments full (piece_as texts sets p)) (all_put arguments full (pieces_as texts sets ps)) (no_put texts sets arguments full p q.0) (no_all texts sets arguments full ps q.1)

-- ---- the tokens

tokens_append : (ps qs : List Piece) → tokens_of (ps ++ qs) ≡ tokens_of ps ++ tokens_of qs
tokens_append [] qs = refl
tokens_append (one x ∷ ps) qs = ap (λ t. x ∷ t) (tokens_append ps qs)
tokens_append (parameter b s i ∷ ps) qs = tokens_append ps qs
tokens_append (joint ∷ ps) qs = tokens_append ps qs
tokens_append (placemarker s ∷ ps) qs = tokens_append ps qs

tokens_ones : (xs : List Hidden) → tokens_of (ones xs) ≡ xs
tokens_ones [] = refl
tokens_ones (x ∷ xs) = ap (λ t. x ∷ t) (tokens_ones xs)

tokens_plain : (space : Bool) (xs : List Hidden) → tokens_of (plain space xs) ≡ marked space xs
tokens_plain space [] = refl
tokens_plain space (x ∷ xs) = tokens_ones (marked space (x ∷ xs))

at_held : (texts : Texts) (sets : Sets) (i : ℕ) (lists : List (Vec HiddenToken Global)) → list_at i (hidden_lists texts sets lists) ≡ hidden_all texts sets (held_at i lists)
at_held texts sets i [] = refl
at_held texts sets zero (list ∷ lists) = refl
at_held texts sets (suc i) (list ∷ lists) = at_held texts sets i lists

marked_law : (texts : Texts) (sets : Sets) (space : Bool) (xs : List HiddenToken) → marked space (hidden_all texts sets xs) ≡ hidden_all texts sets (marked_held space xs)
marked_law texts sets space [] = refl
marked_law texts sets space (x ∷ xs) = refl

tokens_put : (texts : Texts) (sets : Sets) (arguments full : List (Vec HiddenToken Global)) (p : HeldPiece)
    → tokens_of (put_of (hidden_lists texts sets arguments) (hidden_lists texts sets full) (piece_as texts sets p)) ≡ hidden_all texts sets (put_held arguments full p)
tokens_put texts sets arguments full (One x) = refl
tokens_put texts sets arguments full (Parameter true s i) =
    tokens_plain s (list_at i (hidden_lists texts sets arguments)) ∙ ap (marked s) (at_held texts sets i arguments) ∙ marked_law texts sets s (held_at i arguments)
tokens_put texts sets arguments full (Parameter false s i) =
    tokens_ones (marked s (list_at i (hidden_lists texts sets full))) ∙ ap (marked s) (at_held texts sets i full) ∙ marked_law texts sets s (held_at i full)
tokens_put texts sets arguments full Joint = refl
tokens_put texts sets arguments full (Placemarker s) = refl

tokens_all : (texts : Texts) (sets : Sets) (arguments full : List (Vec HiddenToken Global)) (ps : List HeldPiece)
    → tokens_of (all_put (hidden_lists texts sets arguments) (hidden_lists texts sets full) (pieces_as texts sets ps)) ≡ hidden_all texts sets (all_held arguments full ps)
tokens_all texts sets arguments full [] = refl
tokens_all texts sets arguments full (p ∷ ps) =
    tokens_append (put_of (hidden_lists texts sets arguments) (hidden_lists texts sets full) (piece_as texts sets p)) _
    ∙ ap (λ t. t ++ tokens_of (all_put (hidden_lists texts sets arguments) (hidden_lists texts sets full) (pieces_as texts sets ps))) (tokens_put texts sets arguments full p)
    ∙ ap (λ t. hidden_all texts sets (put_held arguments full p) ++ t) (tokens_all texts sets arguments full ps)
    ∙ sym (hidden_append texts sets (put_held arguments full p) (all_held arguments full ps))

-- where no `##` is, the three passes are one
substituted_plain : (texts : Texts) (sets : Sets) (at : Pos) (call : Call) (arguments full : List (Vec HiddenToken Global)) (ps : List HeldPiece) → list_any joint_held ps ≡ false
    → call.at ≡ at → HasBeside (pieces_as texts sets ps) (hidden_lists texts sets arguments) call
    → substituted call (hidden_lists texts sets full) (pieces_as texts sets ps) ≡ Ok (hidden_all texts sets (all_held arguments full ps))
substituted_plain texts sets at call arguments full ps none e beside =
    let puts = all_put (hidden_lists texts sets arguments) (hidden_lists texts sets full) (pieces_as texts sets ps) in
    substituted_by call (hidden_lists texts sets arguments) (hidden_lists texts sets full) (pieces_as texts sets ps) at e beside
    ∙ ap (λ t. tokens_left (joints_done t at)) (append-nil puts)
    ∙ ap tokens_left (none_done puts at (no_all texts sets (hidden_lists texts sets arguments) (hidden_lists texts sets full) ps none))
    ∙ ap Ok (tokens_all texts sets arguments full ps)

gives_plain : (texts : Texts) (sets : Sets) (at : Pos) (call : Call) (arguments full : List (Vec HiddenToken Global)) (ps : List HeldPiece) (r : Result (Vec HiddenToken Global) Refusal)
    → list_any joint_held ps ≡ false → call.at ≡ at → HasBeside (pieces_as texts sets ps) (hidden_lists texts sets arguments) call
    → IfOk r (λ all. all.items ≡ all_held arguments full ps) → IfErr r (λ refusal. refusal ≡ Memory)
    → GivesTokens texts sets at r (substituted call (hidden_lists texts sets full) (pieces_as texts sets ps))
gives_plain texts sets at call arguments full ps (Ok v) none e beside is m =
    substituted_plain texts sets at call arguments full ps none e beside ∙ ap (λ t. Ok (hidden_all texts sets t)) (sym is)
gives_plain texts sets at call arguments full ps (Err Memory) none e beside is m = tt
gives_plain texts sets at call arguments full ps (Err (At code pos)) none e beside is m = absurd (cc)
gives_plain texts sets at call arguments full ps (Err (Told code pos text)) none e beside is m = absurd (cc)

-- ---- hide sets

marked_in : (count : ℕ) (space : Bool) (xs : List HiddenToken) → AreIn count xs → AreIn count (marked_held space xs)
marked_in count space [] h = tt
marked_in count space (x ∷ xs) h = h

held_in : (count i : ℕ) (lists : List (Vec HiddenToken Global)) → ListsIn count lists → AreIn count (held_at i lists)
held_in count i [] h = tt
held_in count zero (list ∷ lists) h = h.0
held_in count (suc i) (list ∷ lists) h = held_in count i lists h.1

put_in : (count : ℕ) (arguments full : List (Vec HiddenToken Global)) (p : HeldPiece) → PieceIn count p → ListsIn count arguments → ListsIn count full → AreIn count (put_held arguments full p)
put_in count arguments full (One x) p a f = (p, tt)
put_in count arguments full (Parameter true s i) p a f = marked_in count s (held_at i arguments) (held_in count i arguments a)
put_in count arguments full (Parameter false s i) p a f = marked_in count s (held_at i full) (held_in count i full f)
put_in count arguments full Joint p a f = tt
put_in count arguments full (Placemarker s) p a f = tt

all_in : (count : ℕ) (arguments full : List (Vec HiddenToken Global)) (ps : List HeldPiece) → PiecesIn count ps → ListsIn count arguments → ListsIn count full → AreIn count (all_held arguments full ps)
all_in count arguments full [] p a f = tt
all_in count arguments full (q ∷ ps) p a f = are_in_append count _ _ (put_in count arguments full q p.0 a f) (all_in count arguments full ps p.1 a f)

plain_in : (count : ℕ) (arguments full : List (Vec HiddenToken Global)) (ps : List HeldPiece) (r : Result (Vec HiddenToken Global) Refusal) → PiecesIn count ps → ListsIn count arguments
    → ListsIn count full → IfOk r (λ all. all.items ≡ all_held arguments full ps) → IfOk r (λ all. AreIn count all.items)
plain_in count arguments full ps (Ok v) p a f e = subst (AreIn count) (sym e) (all_in count arguments full ps p a f)
plain_in count arguments full ps (Err r) p a f e = tt

-- ---- an expansion that is taken

pub held_here : (i : ℕ) (lists : List (Vec HiddenToken Global)) (list : Vec HiddenToken Global) → slice_get lists i ≡ Some list → list.items ≡ held_at i lists
held_here i [] list e = absurd (cc)
held_here zero (l ∷ lists) list e = let k : l ≡ list = cc in ap (λ (v : Vec HiddenToken Global). v.items) (sym k)
held_here (suc i) (l ∷ lists) list e = held_here i lists list e

pub held_past : (i : ℕ) (lists : List (Vec HiddenToken Global)) → length lists ≤ i → held_at i lists ≡ []
held_past i [] h = refl
held_past zero (l ∷ lists) h = absurd (omega arith)
held_past (suc i) (l ∷ lists) h = held_past i lists (omega arith)

pub held_other : (i k : ℕ) (lists : List (Vec HiddenToken Global)) (list : Vec HiddenToken Global) → (i ≡ k → ⊥) → held_at i (slice_set lists k list) ≡ held_at i lists
held_other i k [] list h = refl
held_other zero zero (l ∷ lists) list h = absurd (h refl)
held_other zero (suc k) (l ∷ lists) list h = refl
held_other (suc i) zero (l ∷ lists) list h = refl
held_other (suc i) (suc k) (l ∷ lists) list h = held_other i k lists list (λ e. h (ap suc e))

-- ---- a step

-- the expansion that the first piece uses is still there
pub used_first : (arguments first now : List (Vec HiddenToken Global)) (p : HeldPiece) (ps : List HeldPiece) → KeepsUsed (p ∷ ps) first now → put_held arguments now p ≡ put_held arguments first p
used_first arguments first now (One x) ps h = refl
used_first arguments first now (Parameter true s i) ps h = refl
used_first arguments first now (Parameter false s i) ps h = ap (marked_held s) (h i (ap (λ b. b || list_any (expanded_held i) ps) (eq-eqb i i refl)))
used_first arguments first now Joint ps h = refl
used_first arguments first now (Placemarker s) ps h = refl

or_right : (a b : Bool) → b ≡ true → (a || b) ≡ true
or_right true b e = refl
or_right false b e = e

pub used_more : (arguments first now new : List (Vec HiddenToken Global)) (p : HeldPiece) (ps : List HeldPiece) (before after : List HiddenToken) → KeepsUsed (p ∷ ps) first now
    → PutsPiece arguments now new p ps before after → KeepsUsed ps first new
used_more arguments first now new p ps before after h q = λ i e. q.keeps i e ∙ h i (or_right (expanded_held i p) (list_any (expanded_held i) ps) e)

pub put_more : (arguments first now new : List (Vec HiddenToken Global)) (all : List HiddenToken) (left : List HeldPiece) (p : HeldPiece) (ps : List HeldPiece) (before after : List HiddenToken)
    → left ≡ p ∷ ps → KeepsUsed left first now → before ++ all_held arguments first left ≡ all → PutsPiece arguments now new p ps before after
    → (after ++ all_held arguments first ps ≡ all) × KeepsUsed ps first new
put_more arguments first now new all left p ps before after e h t q =
    let k = subst (λ l. KeepsUsed l first now) e h in (
      ap (λ l. l ++ all_held arguments first ps) (q.done ∙ ap (λ l. before ++ l) (used_first arguments first now p ps k))
          ∙ append_assoc before (put_held arguments first p) (all_held arguments first ps) ∙ ap (λ l. before ++ all_held arguments first l) (sym e) ∙ t,
      used_more arguments first now new p ps before after k q,
    )

-- ---- the results of the code

pub held_index : (i : ℕ) (lists : List (Vec HiddenToken Global)) (list : Vec HiddenToken Global) → i < length lists → list ≡ get_or lists i list → list.items ≡ held_at i lists
held_index i [] list h e = absurd (omega arith)
held_index zero (l ∷ lists) list h e = ap (λ (v : Vec HiddenToken Global). v.items) e
held_index (suc i) (l ∷ lists) list h e = held_index i lists list (omega arith) e

pub unequal : (i k : ℕ) → nat_eq i k ≡ false → i ≡ k → ⊥
unequal i k e p = by (nat_eq i k) e (eq-eqb i k p)
  where
    by : (b : Bool) → b ≡ false → b ≡ true → ⊥
    by true e q = absurd (cc)
    by false e q = absurd (cc)

-- an expansion that is used no more may be taken
pub taken_last : (arguments old new : List (Vec HiddenToken Global)) (k : ℕ) (beside space : Bool) (p : HeldPiece) (rest : List HeldPiece) (before after list : List HiddenToken)
    → p ≡ Parameter beside space k → beside ≡ false → list_any (expanded_held k) rest ≡ false → list ≡ held_at k old
    → ((i : ℕ) → nat_eq i k ≡ false → held_at i new ≡ held_at i old) → after ≡ before ++ marked_held space list → PutsPiece arguments old new p rest before after
taken_last arguments old new k beside space p rest before after list e b unused l others a = record {
  done = a ∙ ap (λ t. before ++ marked_held space t) l ∙ ap (λ t. before ++ put_held arguments old (Parameter t space k)) (sym b) ∙ ap (λ t. before ++ put_held arguments old t) (sym e);
  keeps = λ i used. others i (apart i used (nat_eq i k) refl);
}
  where
    apart : (i : ℕ) → list_any (expanded_held i) rest ≡ true → (t : Bool) → nat_eq i k ≡ t → nat_eq i k ≡ false
    apart i used true q = let z : ⊥ = by (sym (ap (λ m. list_any (expanded_held m) rest) (eqb-true i k q)) ∙ used) in absurd z
      where
        by : list_any (expanded_held k) rest ≡ true → ⊥
        by h = let z : false ≡ true = sym unused ∙ h in absurd (cc)
    apart i used false q = q

pub if_done : {X E : Type 0} (r : Result X E) (P Q : Type 0) → (P → Q) → OnOk r P → OnOk r Q
if_done (Ok x) P Q f h = f h
if_done (Err e) P Q f h = h

pub held_none : (i : ℕ) (lists : List (Vec HiddenToken Global)) → slice_get lists i ≡ None → held_at i lists ≡ []
held_none i [] e = refl
held_none zero (l ∷ lists) e = absurd (cc)
held_none (suc i) (l ∷ lists) e = held_none i lists e

-- the same of lists that are seen otherwise
pub gives_seen : (texts : Texts) (sets : Sets) (at : Pos) (call : Call) (arguments seen full : List (Vec HiddenToken Global)) (ps ps0 ps1 : List HeldPiece) (r : Result (Vec HiddenToken Global) Refusal)
    → ps0 ≡ ps → ps1 ≡ ps → seen ≡ arguments → list_any joint_held ps0 ≡ false → call.at ≡ at → HasBeside (pieces_as texts sets ps) (hidden_lists texts sets arguments) call
    → IfOk r (λ all. all.items ≡ all_held seen full ps1) → IfErr r (λ refusal. refusal ≡ Memory)
    → GivesTokens texts sets at r (substituted call (hidden_lists texts sets full) (pieces_as texts sets ps))
gives_seen texts sets at call arguments seen full ps ps0 ps1 r a b d none e beside is m =
    gives_plain texts sets at call arguments full ps r (subst (λ t. list_any joint_held t ≡ false) a none) e beside
    (subst (λ t. IfOk r (λ all. all.items ≡ all_held arguments full t)) b (subst (λ t. IfOk r (λ all. all.items ≡ all_held t full ps1)) d is)) m

pub seen_in : (count : ℕ) (arguments seen full : List (Vec HiddenToken Global)) (ps ps1 : List HeldPiece) (r : Result (Vec HiddenToken Global) Refusal) → ps1 ≡ ps → seen ≡ arguments
    → PiecesIn count ps → ListsIn count arguments → ListsIn count full → IfOk r (λ all. all.items ≡ all_held seen full ps1) → IfOk r (λ all. AreIn count all.items)
seen_in count arguments seen full ps ps1 r b d p a f is =
    plain_in count arguments full ps r p a f
    (subst (λ t. IfOk r (λ all. all.items ≡ all_held arguments full t)) b (subst (λ t. IfOk r (λ all. all.items ≡ all_held t full ps1)) d is))
