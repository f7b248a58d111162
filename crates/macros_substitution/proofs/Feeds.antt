-- Laws of the second pass, and of all three.
use Rattle.std.proofs.Common.{◌≡◌, ℕ, zero, suc, ◌+◌, ◌<◌, ◌≤◌, ◌==◌, ◌||◌, nat_eq, List, [], ◌∷◌, ◌++◌, Bool, true, false, Some, None, Result, Ok, Err, IfOk, IfErr, Vec, length, drop, get_or, slice_get, refl, sym, ap, ◌∙◌, subst, arith, append_assoc, append-nil, drop-cons}
use Rattle.std.proofs.lemmas.Bool.{eq-eqb}
use Rattle.std.specs.List.{flat_map}
use Rattle.std.specs.declared.alloc.Global.{Global}
use Rattle.srcset.specs.declared.refusal.Pos.{Pos}
use Rattle.srcset.specs.declared.refusal.Refusal.{Refusal}
use Rattle.srcset.specs.declared.refusal.Refusal.TheVariants.{Memory, At, Told}
use Rattle.srcset.specs.declared.code.Code.{Code}
use Rattle.srcset.specs.NameTable.{Texts}
use Rattle.macros_substitution.specs.declared.piece.HiddenToken.{HiddenToken}
use Rattle.macros_substitution.specs.declared.piece.Piece.{Piece as HeldPiece}
use Rattle.macros_substitution.specs.declared.piece.Piece.TheVariants.{One, Parameter, Joint, Placemarker}
use Rattle.macros_substitution.specs.declared.joining.Hand.TheVariants.{Nothing}
use Rattle.macros_substitution.specs.declared.joining.Joining.{Joining}
use Rattle.macros_substitution.specs.HideSets.{Sets}
use Rattle.macros_substitution.specs.Meaning.{hidden_all, hidden_lists, piece_as, pieces_as, AreIn, ListsIn, PieceIn, PiecesIn, is_beside, HasBeside, GivesTokens}
use Rattle.macros_substitution.specs.Substitution.{◌>>=◌, Hidden, Piece, one, parameter, joint, placemarker, Call, list_at, ones, marked, plain, argument_put, arguments_put, joints_done, tokens_of, substituted}
use Rattle.macros_substitution.specs.inside.Steps.{resumed, behind_done, going, GoesOn, put_of, all_put}
use Rattle.macros_substitution.proofs.Fronts.{are_in_more}

-- a pass continues from where another one ended
pub goes_from : (texts : Texts) (sets : Sets) (at : Pos) (j k : Joining) (ps qs : List Piece) (r : Result Joining Refusal) (behind : List Piece)
    → going texts sets j (ps ++ (qs ++ behind)) at ≡ going texts sets k (qs ++ behind) at → GoesOn texts sets at k qs r behind → GoesOn texts sets at j (ps ++ qs) r behind
goes_from texts sets at j k ps qs (Ok m) behind e h = ap (λ t. going texts sets j t at) (append_assoc ps qs behind) ∙ e ∙ h
goes_from texts sets at j k ps qs (Err Memory) behind e h = tt
goes_from texts sets at j k ps qs (Err (At code pos)) behind e h = (h.0, ap (λ t. going texts sets j t at) (append_assoc ps qs behind) ∙ e ∙ h.1)
goes_from texts sets at j k ps qs (Err (Told code pos text)) behind e h = h

-- a refusal of the next piece is one of all
pub refused_on : (texts : Texts) (sets : Sets) (at : Pos) (j k : Joining) (ps : List Piece) (p : Piece) (qs behind : List Piece) (r : Refusal)
    → going texts sets j (ps ++ behind) at ≡ going texts sets k (p ∷ (qs ++ behind)) at → GoesOn texts sets at k (p ∷ []) (Err r) (qs ++ behind) → GoesOn texts sets at j ps (Err r) behind
refused_on texts sets at j k ps p qs behind Memory e h = tt
refused_on texts sets at j k ps p qs behind (At code pos) e h = (h.0, e ∙ h.1)
refused_on texts sets at j k ps p qs behind (Told code pos text) e h = h

-- the same where a piece gives way to several
pub refused_in : (texts : Texts) (sets : Sets) (at : Pos) (j k : Joining) (ps os qs behind : List Piece) (r : Refusal)
    → going texts sets j (ps ++ behind) at ≡ going texts sets k (os ++ (qs ++ behind)) at → GoesOn texts sets at k os (Err r) (qs ++ behind) → GoesOn texts sets at j ps (Err r) behind
refused_in texts sets at j k ps os qs behind Memory e h = tt
refused_in texts sets at j k ps os qs behind (At code pos) e h = (h.0, e ∙ h.1)
refused_in texts sets at j k ps os qs behind (Told code pos text) e h = h

pub drop_first : (xs : List HiddenToken) (i : ℕ) (x y : HiddenToken) → i < length xs → x ≡ get_or xs i x → y ≡ x → drop i xs ≡ y ∷ drop (i + 1) xs
drop_first xs i x y h e k =
    let n : i + 1 ≡ suc i = omega arith in
    rw n (drop-cons xs i x h ∙ ap (λ t. t ∷ drop (suc i) xs) (sym e ∙ sym k))

pub first_marked : (texts : Texts) (sets : Sets) (space : Bool) (xs : List HiddenToken) (x y : HiddenToken) (others : List HiddenToken) → xs ≡ x ∷ others
    → y ≡ record { token = record x.token { space_before = space }; hides = x.hides }
    → ones (marked space (hidden_all texts sets xs)) ≡ piece_as texts sets (One y) ∷ ones (hidden_all texts sets others)
first_marked texts sets space xs x y others e k =
    ap (λ t. ones (marked space (hidden_all texts sets t))) e
    ∙ ap (λ t. piece_as texts sets (One t) ∷ ones (hidden_all texts sets others)) (sym k)

pub plain_marked : (texts : Texts) (sets : Sets) (space : Bool) (xs : List HiddenToken) → (length xs == 0) ≡ false
    → ones (marked space (hidden_all texts sets xs)) ≡ plain space (hidden_all texts sets xs)
plain_marked texts sets space [] e = absurd (cc)
plain_marked texts sets space (x ∷ xs) e = refl

pub listed : (texts : Texts) (sets : Sets) (i : ℕ) (lists : List (Vec HiddenToken Global)) (list : Vec HiddenToken Global) → slice_get lists i ≡ Some list
    → hidden_all texts sets list.items ≡ list_at i (hidden_lists texts sets lists)
listed texts sets i [] list e = absurd (cc)
listed texts sets zero (l ∷ lists) list e = let k : l ≡ list = cc in ap (λ v. hidden_all texts sets v.items) (sym k)
listed texts sets (suc i) (l ∷ lists) list e = listed texts sets i lists list e

pub unlisted : (texts : Texts) (sets : Sets) (i : ℕ) (lists : List (Vec HiddenToken Global)) → slice_get lists i ≡ None → [] ≡ list_at i (hidden_lists texts sets lists)
unlisted texts sets i [] e = refl
unlisted texts sets zero (l ∷ lists) e = absurd (cc)
unlisted texts sets (suc i) (l ∷ lists) e = unlisted texts sets i lists e

pub listed_known : (count i : ℕ) (lists : List (Vec HiddenToken Global)) (list : Vec HiddenToken Global) → slice_get lists i ≡ Some list → ListsIn count lists → AreIn count list.items
listed_known count i [] list e p = absurd (cc)
listed_known count zero (l ∷ lists) list e p = let k : l ≡ list = cc in subst (λ v. AreIn count v.items) k p.0
listed_known count (suc i) (l ∷ lists) list e p = listed_known count i lists list e p.1

pub pieces_more : (m n : ℕ) (ps : List HeldPiece) → m ≤ n → PiecesIn m ps → PiecesIn n ps
pieces_more m n [] h p = tt
pieces_more m n (q ∷ ps) h p = (more q p.0, pieces_more m n ps h p.1)
  where
    more : (q : HeldPiece) → PieceIn m q → PieceIn n q
    more (One x) k = omega arith
    more (Parameter b s i) k = tt
    more Joint k = tt
    more (Placemarker s) k = tt

pub lists_more : (m n : ℕ) (lists : List (Vec HiddenToken Global)) → m ≤ n → ListsIn m lists → ListsIn n lists
lists_more m n [] h p = tt
lists_more m n (l ∷ lists) h p = (are_in_more m n l.items h p.0, lists_more m n lists h p.1)

pub put_first : (texts : Texts) (sets : Sets) (arguments full : List (List Hidden)) (items : List HeldPiece) (p : HeldPiece) (ps : List HeldPiece) (behind : List Piece) → items ≡ p ∷ ps
    → all_put arguments full (pieces_as texts sets items) ++ behind ≡ put_of arguments full (piece_as texts sets p) ++ (all_put arguments full (pieces_as texts sets ps) ++ behind)
put_first texts sets arguments full items p ps behind e =
    ap (λ t. all_put arguments full (pieces_as texts sets t) ++ behind) e
    ∙ append_assoc (put_of arguments full (piece_as texts sets p)) (all_put arguments full (pieces_as texts sets ps)) behind

-- ---- all three passes

puts_agree : (call : Call) (arguments full : List (List Hidden)) (ps : List Piece) → HasBeside ps arguments call → flat_map (argument_put call full) ps ≡ all_put arguments full ps
puts_agree call arguments full [] h = refl
puts_agree call arguments full (parameter true s i ∷ ps) h =
    let here : list_at i call.arguments ≡ list_at i arguments = h i (ap (λ b. b || is_beside i ps) (eq-eqb i i refl)) in
    let tail = puts_agree call arguments full ps (λ k e. h k (later k (nat_eq k i) e)) in
    ap (λ t. plain s t ++ flat_map (argument_put call full) ps) here ∙ ap (λ t. plain s (list_at i arguments) ++ t) tail
  where
    later : (k : ℕ) (b : Bool) → is_beside k ps ≡ true → (b || is_beside k ps) ≡ true
    later k true e = refl
    later k false e = e
puts_agree call arguments full (parameter false s i ∷ ps) h =
    ap (λ t. ones (marked s (list_at i full)) ++ t) (puts_agree call arguments full ps h)
puts_agree call arguments full (one x ∷ ps) h = ap (λ t. one x ∷ t) (puts_agree call arguments full ps h)
puts_agree call arguments full (joint ∷ ps) h = ap (λ t. joint ∷ t) (puts_agree call arguments full ps h)
puts_agree call arguments full (placemarker s ∷ ps) h = ap (λ t. placemarker s ∷ t) (puts_agree call arguments full ps h)

abbrev pub tokens_left : Result (List Piece) Code → Result (List Hidden) Code
tokens_left r = r >>= λ ps. Ok (tokens_of ps)

pub substituted_by : (call : Call) (arguments full : List (List Hidden)) (ps : List Piece) (at : Pos) → call.at ≡ at → HasBeside ps arguments call
    → substituted call full ps ≡ tokens_left (joints_done (all_put arguments full ps ++ []) at)
unfolding substituted arguments_put
substituted_by call arguments full ps at e h =
    ap (λ a. tokens_left (joints_done (flat_map (argument_put call full) ps) a)) e
    ∙ ap (λ t. tokens_left (joints_done t at)) (puts_agree call arguments full ps h ∙ sym (append-nil (all_put arguments full ps)))

start_is : (texts : Texts) (sets : Sets) (j : Joining) (ps : List Piece) (at : Pos) → j.done.items ≡ [] → j.hand ≡ Nothing → tokens_left (joints_done ps at) ≡ going texts sets j ps at
start_is texts sets j ps at d h =
    ap (λ t. behind_done (hidden_all texts sets t) (joints_done ps at)) (sym d)
    ∙ ap (λ k. behind_done (hidden_all texts sets j.done.items) (resumed texts sets k ps at)) (sym h)

-- where the pass refuses
pub gives_refusal : (texts : Texts) (sets : Sets) (at : Pos) (j : Joining) (call : Call) (arguments full : List (List Hidden)) (ps : List Piece) (r : Refusal)
    → j.done.items ≡ [] → j.hand ≡ Nothing → call.at ≡ at → HasBeside ps arguments call
    → GoesOn texts sets at j (all_put arguments full ps) (Err r) [] → GivesTokens texts sets at (Err r) (substituted call full ps)
gives_refusal texts sets at j call arguments full ps Memory d h e b g = tt
gives_refusal texts sets at j call arguments full ps (At code pos) d h e b g =
    (g.0, substituted_by call arguments full ps at e b ∙ start_is texts sets j _ at d h ∙ g.1)
gives_refusal texts sets at j call arguments full ps (Told code pos text) d h e b g = g

-- where it ends
pub gives_tokens : (texts : Texts) (sets : Sets) (at : Pos) (j k : Joining) (call : Call) (arguments full : List (List Hidden)) (ps : List Piece) (r : Result (Vec HiddenToken Global) Refusal)
    → j.done.items ≡ [] → j.hand ≡ Nothing → call.at ≡ at → HasBeside ps arguments call
    → going texts sets j (all_put arguments full ps ++ []) at ≡ going texts sets k [] at
    → IfOk r (λ done. (t : Texts) (s : Sets) (a : Pos) → going t s k [] a ≡ Ok (hidden_all t s done.items)) → IfErr r (λ refusal. refusal ≡ Memory)
    → GivesTokens texts sets at r (substituted call full ps)
gives_tokens texts sets at j k call arguments full ps (Ok v) d h e b g f m =
    substituted_by call arguments full ps at e b ∙ start_is texts sets j _ at d h ∙ g ∙ f texts sets at
gives_tokens texts sets at j k call arguments full ps (Err Memory) d h e b g f m = tt
gives_tokens texts sets at j k call arguments full ps (Err (At code pos)) d h e b g f m = absurd (cc)
gives_tokens texts sets at j k call arguments full ps (Err (Told code pos text)) d h e b g f m = absurd (cc)

pub put_beside : (arguments full : List (List Hidden)) (texts : Texts) (sets : Sets) (p : HeldPiece) (beside space : Bool) (i : ℕ) → p ≡ Parameter beside space i → beside ≡ true
    → plain space (list_at i arguments) ≡ put_of arguments full (piece_as texts sets p)
put_beside arguments full texts sets p beside space i e b =
    ap (λ t. put_of arguments full (parameter t space i)) (sym b) ∙ ap (λ t. put_of arguments full (piece_as texts sets t)) (sym e)

pub put_elsewhere : (arguments full : List (List Hidden)) (texts : Texts) (sets : Sets) (p : HeldPiece) (beside space : Bool) (i : ℕ) → p ≡ Parameter beside space i → beside ≡ false
    → ones (marked space (list_at i full)) ≡ put_of arguments full (piece_as texts sets p)
put_elsewhere arguments full texts sets p beside space i e b =
    ap (λ t. put_of arguments full (parameter t space i)) (sym b) ∙ ap (λ t. put_of arguments full (piece_as texts sets t)) (sym e)

pub empty_list : {X : Type 0} (xs : List X) → length xs ≡ 0 → xs ≡ []
empty_list [] e = refl
empty_list (x ∷ xs) e = absurd (omega arith)

pub puts_same : (texts : Texts) (sets : Sets) (a b c d : List (Vec HiddenToken Global)) (ps qs : List HeldPiece) → a ≡ b → c ≡ d → ps ≡ qs
    → all_put (hidden_lists texts sets a) (hidden_lists texts sets c) (pieces_as texts sets ps) ≡ all_put (hidden_lists texts sets b) (hidden_lists texts sets d) (pieces_as texts sets qs)
puts_same texts sets a b c d ps qs e f g =
    ap (λ t. all_put (hidden_lists texts sets t) (hidden_lists texts sets c) (pieces_as texts sets ps)) e
    ∙ ap (λ t. all_put (hidden_lists texts sets b) (hidden_lists texts sets t) (pieces_as texts sets ps)) f
    ∙ ap (λ t. all_put (hidden_lists texts sets b) (hidden_lists texts sets d) (pieces_as texts sets t)) g

pub drop_all : {X : Type 0} (xs : List X) → drop (length xs) xs ≡ []
drop_all [] = refl
drop_all (x ∷ xs) = drop_all xs
