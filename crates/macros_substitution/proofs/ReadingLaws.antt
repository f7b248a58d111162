-- Laws of the first pass.
use Rattle.std.proofs.Common.{codes, ◌≡◌, ℕ, zero, suc, ◌+◌, ◌<◌, ◌≤◌, ◌&&◌, ◌||◌, ◌⊎◌, inl, inr, List, [], ◌∷◌, ◌++◌, map, Bool, true, false, if◌then◌else◌, Option, Some, None, Result, Ok, Err, length, drop, take, ◌-◌, length-drop, get_or, slice_get, refl, sym, ap, ◌∙◌, subst, arith, append_assoc, append-nil}
use Rattle.std.specs.List.{list_any}
use Rattle.std.specs.Str.{bytes_eq}
use Rattle.std.proofs.lemmas.Slice.Eq.{bytes_eq-Decides}
use Rattle.srcset.specs.declared.refusal.Pos.{Pos}
use Rattle.srcset.specs.declared.refusal.Refusal.{Refusal}
use Rattle.srcset.specs.declared.refusal.Refusal.TheVariants.{Memory, At, Told}
use Rattle.srcset.specs.declared.code.Code.{Code}
use Rattle.srcset.specs.NameTable.{Texts}
use Rattle.phases.specs.Token.{Token}
use Rattle.macros.specs.Macro.{is_hash, is_joint}
use Rattle.macros.specs.Definition.{names_of, parameter_among}
use Rattle.macros.specs.Operators.{stringized}
use Rattle.std.specs.Option.{option_map, is_some}
use Rattle.macros.specs.Macro.{Parameters}
use Rattle.macros.specs.Table.{BodyToken, NumberedParameters, AreParameters, with_parameter}
use Rattle.macros_substitution.specs.declared.piece.Use.{Use}
use Rattle.macros_substitution.specs.declared.piece.HiddenToken.{HiddenToken}
use Rattle.macros_substitution.specs.declared.piece.Piece.{Piece as HeldPiece}
use Rattle.macros_substitution.specs.declared.piece.Piece.TheVariants.{One, Parameter, Joint, Placemarker}
use Rattle.macros_substitution.specs.HideSets.{Sets}
use Rattle.macros_substitution.specs.Meaning.{hidden_all, piece_as, pieces_as, PieceIn, PiecesIn, is_beside, stands_beside, use_of, GivesPieces}
use Rattle.macros_substitution.specs.Substitution.{◌>>=◌, Hidden, Piece, one, parameter, joint, placemarker, Call, list_at, parameter_of, piece_of, token_or_parameter, string_piece, in_front, string_or_piece, strings_made, begins_joint, sides, wants_full, is_expanded, is_function_like}
use Rattle.macros_substitution.specs.inside.Steps.{joint_held, JoinsTo}
use Rattle.macros_substitution.specs.inside.Reading.{beside_held, expanded_held, tokens_held, string_made, operand_in, joint_first, parameter_in, piece_in, read, ReadsNext, is_function}
use Rattle.macros_substitution.proofs.Tables.{slice_get_front, slice_get_behind}

-- ---- how parameters are used

abbrev pub use_held : ℕ → List HeldPiece → Use
use_held i ps = record { beside = list_any (beside_held i) ps; expanded = list_any (expanded_held i) ps }

beside_same : (texts : Texts) (sets : Sets) (i : ℕ) (ps : List HeldPiece) → is_beside i (pieces_as texts sets ps) ≡ list_any (beside_held i) ps
beside_same texts sets i [] = refl
beside_same texts sets i (p ∷ ps) = ap (λ b. b || is_beside i (pieces_as texts sets ps)) (one_same p) ∙ ap (λ b. beside_held i p || b) (beside_same texts sets i ps)
  where
    one_same : (p : HeldPiece) → stands_beside i (piece_as texts sets p) ≡ beside_held i p
    one_same (One x) = refl
    one_same (Parameter b s j) = refl
    one_same Joint = refl
    one_same (Placemarker s) = refl

expanded_any : (texts : Texts) (sets : Sets) (i : ℕ) (ps : List HeldPiece) → list_any (wants_full i) (pieces_as texts sets ps) ≡ list_any (expanded_held i) ps
expanded_any texts sets i [] = refl
expanded_any texts sets i (p ∷ ps) = ap (λ b. b || list_any (wants_full i) (pieces_as texts sets ps)) (one_same p) ∙ ap (λ b. expanded_held i p || b) (expanded_any texts sets i ps)
  where
    one_same : (p : HeldPiece) → wants_full i (piece_as texts sets p) ≡ expanded_held i p
    one_same (One x) = refl
    one_same (Parameter b s j) = refl
    one_same Joint = refl
    one_same (Placemarker s) = refl

expanded_same : (texts : Texts) (sets : Sets) (i : ℕ) (ps : List HeldPiece) → is_expanded i (pieces_as texts sets ps) ≡ list_any (expanded_held i) ps
unfolding is_expanded
expanded_same texts sets i ps = expanded_any texts sets i ps

pub use_same : (texts : Texts) (sets : Sets) (i : ℕ) (ps : List HeldPiece) → use_of i (pieces_as texts sets ps) ≡ use_held i ps
use_same texts sets i ps =
    let first : Bool → Use = λ b. record { beside = b; expanded = is_expanded i (pieces_as texts sets ps) } in
    let second : Bool → Use = λ b. record { beside = list_any (beside_held i) ps; expanded = b } in
    ap first (beside_same texts sets i ps) ∙ ap second (expanded_same texts sets i ps)

pub one_use : (found : List Use) (n : ℕ) (ps : List HeldPiece) (all : List Use) (u : Use) → length found ≡ n → all ≡ found ++ u ∷ [] → u ≡ use_held n ps
    → ((i : ℕ) → i < n → slice_get found i ≡ Some (use_held i ps)) → (i : ℕ) → i < n + 1 → slice_get all i ≡ Some (use_held i ps)
one_use found n ps all u k e h each i lt = by (cases_lt i n lt)
  where
    cases_lt : (i n : ℕ) → i < n + 1 → (i < n) ⊎ (i ≡ n)
    cases_lt zero zero lt = inr refl
    cases_lt zero (suc n) lt = inl (omega arith)
    cases_lt (suc i) zero lt = absurd (omega arith)
    cases_lt (suc i) (suc n) lt = elim (cases_lt i n (omega arith)) [ inl a ↦ inl (omega arith) | inr a ↦ inr (ap suc a) ]

    by : (i < n) ⊎ (i ≡ n) → slice_get all i ≡ Some (use_held i ps)
    by (inl a) = ap (λ t. slice_get t i) e ∙ slice_get_front found (u ∷ []) i (omega arith) ∙ each i a
    by (inr a) =
        let m : i ≡ length found = a ∙ sym k in
        ap (λ t. slice_get t i) e ∙ ap (λ j. slice_get (found ++ u ∷ []) j) m ∙ slice_get_behind found u ∙ ap Some (h ∙ ap (λ j. use_held j ps) (sym a))

-- ---- strings

pub shown_tokens : (texts : Texts) (sets : Sets) (xs : List HiddenToken) → map (λ x. x.token) (hidden_all texts sets xs) ≡ tokens_held xs
shown_tokens texts sets [] = refl
shown_tokens texts sets (x ∷ xs) = ap (λ t. x.token ∷ t) (shown_tokens texts sets xs)

-- ---- one piece

abbrev tokens_with : Call → List Token → List BodyToken
tokens_with call xs = map (with_parameter (names_of call.macro.parameters)) xs

abbrev token_with : Call → Token → BodyToken
token_with call x = with_parameter (names_of call.macro.parameters) x

abbrev operand_at : Call → Token → List Token → Option ℕ
operand_at call x xs = operand_in (is_function call) (token_with call x) (tokens_with call xs)

made_plain : (call : Call) (x : Token) (xs : List Token) → operand_at call x xs ≡ None → strings_made call (x ∷ xs) ≡ in_front (piece_of call x) (strings_made call xs)
unfolding strings_made
made_plain call x [] e = refl
made_plain call x (y ∷ ys) e = ap (λ o. string_or_piece call x o (λ _. strings_made call (y ∷ ys)) (λ _. strings_made call ys)) e

made_string : (call : Call) (x : Token) (xs : List Token) (i : ℕ) → operand_at call x xs ≡ Some i
    → strings_made call (x ∷ xs) ≡ (string_piece call x i >>= λ s. in_front s (strings_made call (drop 1 xs)))
unfolding strings_made
made_string call x [] i e = absurd (cc)
made_string call x (y ∷ ys) i e = ap (λ o. string_or_piece call x o (λ _. strings_made call (y ∷ ys)) (λ _. strings_made call ys)) e

made_none : (call : Call) → strings_made call [] ≡ Ok []
unfolding strings_made
made_none call = refl

-- `##` is no `#`
spelled_hash : (s : List ℕ) (b : Bool) → bytes_eq s (codes "#") ≡ b → (b || bytes_eq s (codes "%:")) ≡ true → (bytes_eq s (codes "##") || bytes_eq s (codes "%:%:")) ≡ false
spelled_hash s true e h = ap (λ t. bytes_eq t (codes "##") || bytes_eq t (codes "%:%:")) ((bytes_eq-Decides s (codes "#")).0 e)
spelled_hash s false e h = ap (λ t. bytes_eq t (codes "##") || bytes_eq t (codes "%:%:")) ((bytes_eq-Decides s (codes "%:")).0 h)

hash_is_no_joint : (x : Token) → is_hash x ≡ true → is_joint x ≡ false
hash_is_no_joint x h = spelled_hash x.spelling (bytes_eq x.spelling (codes "#")) refl h

operand_hash : (f h : Bool) (o : Option ℕ) (i : ℕ) → (if f && h then o else None) ≡ Some i → h ≡ true
operand_hash true true o i e = refl
operand_hash true false o i e = absurd (cc)
operand_hash false h o i e = absurd (cc)

operand_is_hash : (call : Call) (x : Token) (xs : List Token) (i : ℕ) → operand_at call x xs ≡ Some i → is_hash x ≡ true
operand_is_hash call x [] i e = absurd (cc)
operand_is_hash call x (y ∷ ys) i e = operand_hash (is_function call) (is_hash x) (parameter_among (names_of call.macro.parameters) y) i e

first_joint : (call : Call) (x : Token) (b : Bool) (o : Option ℕ) (ps : List Piece) → begins_joint ((if b then joint else token_or_parameter call x o) ∷ ps) ≡ b
first_joint call x true o ps = refl
first_joint call x false None ps = refl
first_joint call x false (Some i) ps = refl

front_is : (p : Piece) (r : Result (List Piece) Code) (ps : List Piece) (b : Bool) → ((qs : List Piece) → begins_joint (p ∷ qs) ≡ b) → in_front p r ≡ Ok ps → begins_joint ps ≡ b
front_is p (Err e) ps b h k = absurd (cc)
front_is p (Ok qs) ps b h k = let e : p ∷ qs ≡ ps = cc in ap begins_joint (sym e) ∙ h qs

string_front : (space : Bool) (s : Result Token Code) (r : Result (List Piece) Code) (ps : List Piece)
    → ((s >>= λ t. Ok (one (record { token = record t { space_before = space }; hides = [] }))) >>= λ p. in_front p r) ≡ Ok ps → begins_joint ps ≡ false
string_front space (Err e) r ps k = absurd (cc)
string_front space (Ok t) r ps k = front_is (one (record { token = record t { space_before = space }; hides = [] })) r ps false (λ qs. refl) k

-- the pieces that follow begin with a `##` where their first token is one
joint_next : (call : Call) (xs : List Token) (ps : List Piece) → strings_made call xs ≡ Ok ps → begins_joint ps ≡ joint_first (tokens_with call xs)
joint_next call [] ps e = let k : [] ≡ ps = cc (made_none call) in ap begins_joint (sym k)
joint_next call (y ∷ ys) ps e = by (operand_at call y ys) refl
  where
    by : (o : Option ℕ) → operand_at call y ys ≡ o → begins_joint ps ≡ is_joint y
    by None k = front_is (piece_of call y) (strings_made call ys) ps (is_joint y) (first_joint call y (is_joint y) (parameter_of call y)) (sym (made_plain call y ys k) ∙ e)
    by (Some i) k =
        string_front y.space_before (stringized (map (λ x. x.token) (list_at i call.arguments)) call.at) (strings_made call (drop 1 ys)) ps (sym (made_string call y ys i k) ∙ e)
        ∙ sym (hash_is_no_joint y (operand_is_hash call y ys i k))

front_sides : (p q : Piece) (r : Result (List Piece) Code) (after behind : Bool) → ((ps : List Piece) → r ≡ Ok ps → sides after (p ∷ ps) ≡ q ∷ sides behind ps)
    → (in_front p r >>= λ ps. Ok (sides after ps)) ≡ in_front q (r >>= λ ps. Ok (sides behind ps))
front_sides p q (Err e) after behind h = refl
front_sides p q (Ok ps) after behind h = ap Ok (h ps refl)

abbrev is_joint_piece : Piece → Bool
is_joint_piece (one x) = false
is_joint_piece (parameter b s i) = false
is_joint_piece joint = true
is_joint_piece (placemarker s) = false

held_joint : (texts : Texts) (sets : Sets) (p : HeldPiece) → joint_held p ≡ is_joint_piece (piece_as texts sets p)
held_joint texts sets (One x) = refl
held_joint texts sets (Parameter b s i) = refl
held_joint texts sets Joint = refl
held_joint texts sets (Placemarker s) = refl

piece_side : (call : Call) (after : Bool) (x : Token) (b : Bool) (o : Option ℕ) (next : Bool) (ps : List Piece) → begins_joint ps ≡ next
    → sides after ((if b then joint else token_or_parameter call x o) ∷ ps)
    ≡ (if b then joint else parameter_in (after || next) (token_with call x) call.at o) ∷ sides (is_joint_piece (if b then joint else parameter_in (after || next) (token_with call x) call.at o)) ps
piece_side call after x true o next ps e = refl
piece_side call after x false None next ps e = refl
piece_side call after x false (Some i) next ps e = ap (λ n. parameter (after || n) x.space_before i ∷ sides false ps) e

-- a token that is no operand of `#`, nor a `#` with one
pub reads_token : (texts : Texts) (sets : Sets) (call : Call) (after : Bool) (x : Token) (xs : List Token) (f beside : Bool) (at : Pos) (b : BodyToken) (bs : List BodyToken) (p : HeldPiece)
    → f ≡ is_function call → call.at ≡ at → b ≡ token_with call x → bs ≡ tokens_with call xs → operand_in f b bs ≡ None → beside ≡ (after || joint_first bs)
    → piece_as texts sets p ≡ piece_in beside b at → ReadsNext texts sets call after (x ∷ xs) (Ok (p, 1))
reads_token texts sets call after x xs f beside at b bs p ef ea eb ebs eo es ep =
    let o : operand_at call x xs ≡ None =
    ap (λ t. operand_in t (token_with call x) (tokens_with call xs)) (sym ef) ∙ ap (λ t. operand_in f t (tokens_with call xs)) (sym eb) ∙ ap (λ t. operand_in f b t) (sym ebs) ∙ eo in
    let Q : Piece = piece_in (after || joint_first (tokens_with call xs)) (token_with call x) call.at in
    let q : piece_as texts sets p ≡ Q =
    ep ∙ ap (λ t. piece_in t b at) (es ∙ ap (λ t. after || joint_first t) ebs) ∙ ap (λ t. piece_in (after || joint_first (tokens_with call xs)) t at) eb
    ∙ ap (λ t. piece_in (after || joint_first (tokens_with call xs)) (token_with call x) t) (sym ea) in
    let j : joint_held p ≡ is_joint_piece Q = held_joint texts sets p ∙ ap is_joint_piece q in
    ap (λ r. r >>= λ ps. Ok (sides after ps)) (made_plain call x xs o)
    ∙ front_sides (piece_of call x) Q (strings_made call xs) after (is_joint_piece Q)
    (λ ps k. piece_side call after x (is_joint x) (parameter_of call x) (joint_first (tokens_with call xs)) ps (joint_next call xs ps k))
    ∙ ap (λ t. in_front t (read call (is_joint_piece Q) xs)) (sym q)
    ∙ ap (λ t. in_front (piece_as texts sets p) (read call t xs)) (sym j)

string_side : (texts : Texts) (sets : Sets) (space after : Bool) (r : Result Token Code) (p : HeldPiece) (ps : List Piece)
    → (r >>= λ s. Ok (one (record { token = record s { space_before = space }; hides = [] }))) ≡ Ok (piece_as texts sets p)
    → sides after (piece_as texts sets p ∷ ps) ≡ piece_as texts sets p ∷ sides (joint_held p) ps
string_side texts sets space after (Err c) p ps e = absurd (cc)
string_side texts sets space after (Ok s) (One x) ps e = refl
string_side texts sets space after (Ok s) (Parameter b t i) ps e = absurd (cc)
string_side texts sets space after (Ok s) Joint ps e = absurd (cc)
string_side texts sets space after (Ok s) (Placemarker t) ps e = absurd (cc)

operand_from : (call : Call) (x : Token) (xs : List Token) (f : Bool) (b : BodyToken) (bs : List BodyToken) (i : ℕ)
    → f ≡ is_function call → b ≡ token_with call x → bs ≡ tokens_with call xs → operand_in f b bs ≡ Some i → operand_at call x xs ≡ Some i
operand_from call x xs f b bs i ef eb ebs eo =
    ap (λ t. operand_in t (token_with call x) (tokens_with call xs)) (sym ef) ∙ ap (λ t. operand_in f t (tokens_with call xs)) (sym eb) ∙ ap (λ t. operand_in f b t) (sym ebs) ∙ eo

-- a `#` and its operand
pub reads_string : (texts : Texts) (sets : Sets) (call : Call) (after : Bool) (x : Token) (xs : List Token) (f space : Bool) (at : Pos) (arguments : List (List Hidden)) (b : BodyToken) (bs : List BodyToken) (i : ℕ) (p : HeldPiece)
    → f ≡ is_function call → call.at ≡ at → call.arguments ≡ arguments → b ≡ token_with call x → bs ≡ tokens_with call xs → operand_in f b bs ≡ Some i → space ≡ b.token.space_before
    → string_made space (map (λ t. t.token) (list_at i arguments)) at ≡ Ok (piece_as texts sets p) → ReadsNext texts sets call after (x ∷ xs) (Ok (p, 2))
reads_string texts sets call after x xs f space at arguments b bs i p ef ea eargs eb ebs eo es ep =
    let o = operand_from call x xs f b bs i ef eb ebs eo in
    let s : string_piece call x i ≡ Ok (piece_as texts sets p) =
    ap (λ t. string_made t (map (λ t. t.token) (list_at i call.arguments)) call.at) (sym (es ∙ ap (λ t. t.token.space_before) eb))
    ∙ ap (λ t. string_made space (map (λ t. t.token) (list_at i t)) call.at) eargs
    ∙ ap (λ t. string_made space (map (λ t. t.token) (list_at i arguments)) t) ea ∙ ep in
    ap (λ r. r >>= λ ps. Ok (sides after ps)) (made_string call x xs i o ∙ ap (λ r. r >>= λ t. in_front t (strings_made call (drop 1 xs))) s)
    ∙ front_sides (piece_as texts sets p) (piece_as texts sets p) (strings_made call (drop 1 xs)) after (joint_held p)
    (λ ps k. string_side texts sets space after (stringized (map (λ t. t.token) (list_at i arguments)) at) p ps ep)

pub string_refused : (texts : Texts) (sets : Sets) (call : Call) (after : Bool) (x : Token) (xs : List Token) (f space : Bool) (at : Pos) (arguments : List (List Hidden)) (b : BodyToken) (bs : List BodyToken) (i : ℕ) (r : Refusal)
    → f ≡ is_function call → call.at ≡ at → call.arguments ≡ arguments → b ≡ token_with call x → bs ≡ tokens_with call xs → operand_in f b bs ≡ Some i → space ≡ b.token.space_before
    → JoinsTo texts sets at (Err r) (string_made space (map (λ t. t.token) (list_at i arguments)) at) → ReadsNext texts sets call after (x ∷ xs) (Err r)
string_refused texts sets call after x xs f space at arguments b bs i Memory ef ea eargs eb ebs eo es ep = tt
string_refused texts sets call after x xs f space at arguments b bs i (At code pos) ef ea eargs eb ebs eo es ep =
    let o = operand_from call x xs f b bs i ef eb ebs eo in
    let s : string_piece call x i ≡ Err code =
    ap (λ t. string_made t (map (λ t. t.token) (list_at i call.arguments)) call.at) (sym (es ∙ ap (λ t. t.token.space_before) eb))
    ∙ ap (λ t. string_made space (map (λ t. t.token) (list_at i t)) call.at) eargs
    ∙ ap (λ t. string_made space (map (λ t. t.token) (list_at i arguments)) t) ea ∙ ep.1 in
    (ep.0 ∙ sym ea, ap (λ r. r >>= λ ps. Ok (sides after ps)) (made_string call x xs i o ∙ ap (λ r. r >>= λ t. in_front t (strings_made call (drop 1 xs))) s))
string_refused texts sets call after x xs f space at arguments b bs i (Told code pos text) ef ea eargs eb ebs eo es ep = ep

-- ---- all pieces

-- these pieces, and those of the rest
abbrev pub read_on : List Piece → Result (List Piece) Code → Result (List Piece) Code
read_on done r = r >>= λ ps. Ok (done ++ ps)

read_more : (done : List Piece) (p : Piece) (r : Result (List Piece) Code) → read_on done (in_front p r) ≡ read_on (done ++ p ∷ []) r
read_more done p (Err e) = refl
read_more done p (Ok ps) = ap Ok (sym (append_assoc done (p ∷ []) ps))

pub pieces_append : (texts : Texts) (sets : Sets) (ps : List HeldPiece) (p : HeldPiece) → pieces_as texts sets (ps ++ p ∷ []) ≡ pieces_as texts sets ps ++ piece_as texts sets p ∷ []
pieces_append texts sets [] p = refl
pieces_append texts sets (q ∷ ps) p = ap (λ t. piece_as texts sets q ∷ t) (pieces_append texts sets ps p)

pub pieces_in_append : (n : ℕ) (ps : List HeldPiece) (p : HeldPiece) → PiecesIn n ps → PieceIn n p → PiecesIn n (ps ++ p ∷ [])
pieces_in_append n [] p h k = (k, tt)
pieces_in_append n (q ∷ ps) p h k = (h.0, pieces_in_append n ps p h.1 k)

-- the token of the macro at a place of the body
pub record BodyAt (f : Token → BodyToken) (ms : List Token) (i : ℕ) (b : BodyToken) (bs : List BodyToken) : Type 0 where
  pub token : Token
  pub behind : List Token
  pub here : drop i ms ≡ token ∷ behind
  pub is : b ≡ f token
  pub are : bs ≡ map f behind

pub body_at : (f : Token → BodyToken) (ms : List Token) (i : ℕ) (b : BodyToken) → i < length (map f ms) → b ≡ get_or (map f ms) i b → BodyAt f ms i b (drop (suc i) (map f ms))
body_at f [] i b h e = absurd (omega arith)
body_at f (m ∷ ms) zero b h e = record { token = m; behind = ms; here = refl; is = e; are = refl }
body_at f (m ∷ ms) (suc i) b h e =
    let r = body_at f ms i b (omega arith) e in
    record { token = r.token; behind = r.behind; here = r.here; is = r.is; are = r.are }

pub body_found : (f : Token → BodyToken) (body : List BodyToken) (ms : List Token) (i : ℕ) (b : BodyToken) → body ≡ map f ms → i < length body → b ≡ get_or body i b
    → BodyAt f ms i b (drop (i + 1) body)
body_found f body ms i b e h k =
    let n : i + 1 ≡ suc i = omega arith in
    rw n (subst (λ t. BodyAt f ms i b (drop (suc i) t)) (sym e)
    (body_at f ms i b (subst (λ t. i < length t) e h) (subst (λ t. b ≡ get_or t i b) e k)))

drop_none : (X : Type 0) (n : ℕ) → drop n (let none : List X = [] in none) ≡ []
drop_none X zero = refl
drop_none X (suc n) = refl

take_all : {X : Type 0} (xs : List X) (n : ℕ) → length xs ≤ n → take n xs ≡ xs
take_all [] zero h = refl
take_all [] (suc n) h = refl
take_all (x ∷ xs) zero h = absurd (omega arith)
take_all (x ∷ xs) (suc n) h = ap (λ t. x ∷ t) (take_all xs n (omega arith))

-- a slice up to the end
pub rest_whole : {X : Type 0} (xs : List X) (i : ℕ) → take (length xs - i) (drop i xs) ≡ drop i xs
rest_whole xs i = take_all (drop i xs) (length xs - i) (omega (arith, length-drop i xs))

pub drop_drop : {X : Type 0} (xs : List X) (i n : ℕ) → drop n (drop i xs) ≡ drop (i + n) xs
drop_drop xs zero n = let k : 0 + n ≡ n = omega arith in rw k refl
drop_drop {X} [] (suc i) n = drop_none X n ∙ sym (drop_none X (suc i + n))
drop_drop (x ∷ xs) (suc i) n = let k : suc i + n ≡ suc (i + n) = omega arith in rw k (drop_drop xs i n)

pub drop_past : {X : Type 0} (xs : List X) (i : ℕ) → length xs ≤ i → drop i xs ≡ []
drop_past [] zero h = refl
drop_past [] (suc i) h = refl
drop_past (x ∷ xs) zero h = absurd (omega arith)
drop_past (x ∷ xs) (suc i) h = drop_past xs i (omega arith)

pub function_known : (texts : Texts) (g : NumberedParameters → ℕ) (p : Option NumberedParameters) (q : Option Parameters) → AreParameters texts p q
    → is_some (option_map g p) ≡ is_function_like q
function_known texts g None None h = refl
function_known texts g None (Some q) h = absurd h
function_known texts g (Some p) None h = absurd h
function_known texts g (Some p) (Some q) h = refl

-- one piece more
pub read_step : (texts : Texts) (sets : Sets) (call : Call) (made more : List HeldPiece) (p : HeldPiece) (after behind : Bool) (ms xs : List Token) (i taken : ℕ) (all : Result (List Piece) Code)
    → read_on (pieces_as texts sets made) (read call after (drop i ms)) ≡ all → drop i ms ≡ xs → ReadsNext texts sets call after xs (Ok (p, taken)) → more ≡ made ++ p ∷ [] → behind ≡ joint_held p
    → read_on (pieces_as texts sets more) (read call behind (drop (i + taken) ms)) ≡ all
read_step texts sets call made more p after behind ms xs i taken all e d h m j =
    let done : List Piece = pieces_as texts sets made in
    ap (λ t. read_on (pieces_as texts sets t) (read call behind (drop (i + taken) ms))) m
    ∙ ap (λ t. read_on t (read call behind (drop (i + taken) ms))) (pieces_append texts sets made p)
    ∙ ap (λ t. read_on (done ++ piece_as texts sets p ∷ []) (read call t (drop (i + taken) ms))) j
    ∙ ap (λ t. read_on (done ++ piece_as texts sets p ∷ []) (read call (joint_held p) t)) (sym (drop_drop ms i taken) ∙ ap (drop taken) d)
    ∙ sym (read_more done (piece_as texts sets p) (read call (joint_held p) (drop taken xs)))
    ∙ ap (read_on done) (sym h ∙ ap (read call after) (sym d))
    ∙ e

pub read_end : (texts : Texts) (sets : Sets) (call : Call) (made : List HeldPiece) (after : Bool) (ms : List Token) (i : ℕ) (all : Result (List Piece) Code)
    → read_on (pieces_as texts sets made) (read call after (drop i ms)) ≡ all → length ms ≤ i → all ≡ Ok (pieces_as texts sets made)
read_end texts sets call made after ms i all e h =
    sym e ∙ ap (λ t. read_on (pieces_as texts sets made) (read call after t)) (drop_past ms i h)
    ∙ ap (λ r. read_on (pieces_as texts sets made) (r >>= λ ps. Ok (sides after ps))) (made_none call)
    ∙ ap Ok (append-nil (pieces_as texts sets made))

pub read_refused : (texts : Texts) (sets : Sets) (call : Call) (done : List Piece) (after : Bool) (ys xs : List Token) (all : Result (List Piece) Code) (r : Refusal)
    → read_on done (read call after ys) ≡ all → ys ≡ xs → ReadsNext texts sets call after xs (Err r) → GivesPieces texts sets call.at (Err r) all
read_refused texts sets call done after ys xs all Memory e d h = tt
read_refused texts sets call done after ys xs all (At code pos) e d h =
    (h.0, sym e ∙ ap (λ t. read_on done (read call after t)) d ∙ ap (read_on done) h.1)
read_refused texts sets call done after ys xs all (Told code pos text) e d h = h
