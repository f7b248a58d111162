-- The files of tokens through an expansion: each token of the list has the file of a token that was given, and texts are read for
-- those files alone.
use Rattle.std.proofs.Common.{◌≡◌, ◌<◌, ℕ, zero, suc, List, [], ◌∷◌, ◌++◌, length, map, Bool, true, false, Option, Some, None, refl, sym, ap, ◌∙◌, subst}
use Rattle.std.specs.Prelude.{Result, Ok, Err, slice_get, nat_lt, nat_eq, codes, decimal, if◌then◌else◌}
use Rattle.std.specs.Str.{bytes_eq}
use Rattle.std.proofs.lemmas.Option.{slice_get-get_or}
use Rattle.std.specs.Prelude.{get_or}
use Rattle.srcset.specs.declared.refusal.Pos.{Pos}
use Rattle.srcset.specs.declared.code.Code.{Code}
use Rattle.srcset.specs.NameTable.{Texts, KeepsNumbers}
use Rattle.phases.specs.declared.token.Kind.{Kind}
use Rattle.phases.specs.declared.token.Kind.TheVariants as kind
use Rattle.phases.specs.Grammar.{plain_kind}
use Rattle.phases.specs.Token.{Token}
use Rattle.macros.specs.Macro.{Parameters, Macro, Macros, is_spelled, is_joint}
use Rattle.macros.specs.Definition.{names_of}
use Rattle.macros.specs.Operators.{is_string_kind, string_text, string_of, stringized, joined_as, pasted}
use Rattle.macros_substitution.specs.Substitution.{◌>>=◌, Hidden, hiding, marked, Piece, one, parameter, joint, placemarker, Call, list_at, token_or_parameter, parameter_of, piece_of, operand_of, string_piece, in_front, string_or_piece, strings_made, sides, is_expanded, ones, plain, plain_or_full, argument_put, arguments_put, joined, join, all_joined, joints_done, tokens_of, substituted}
use Rattle.pp_expand.specs.Expansion.{Ending, of_run, of_directive, of_argument, Known, text_or_empty, text_of, quoted, is_live_predefined, macro_at, Further, Taken, with_token, behind_comma, merged, with_merged, separated, Mark, opens, closes, separates, other, mark_of, taken_with, arguments_in, arguments_for, Replacement, Turn, stands, refused, predefined, replaced, counted_turn, taken_turn, last_turn, function_turn, turn_by, turn_of, turn, Fault, Answer, Next, at_place, argument_by, arguments_expanded, front_of, replace, predefined_by, predefined_front, predefined_one, replace_one, taken, walk, expanded_by, unhidden, shown_answer, expanded}
use Rattle.pp_expand.specs.Expands.{HaveFiles}
use Rattle.pp_expand.specs.Pulled.{expanding, made_by, Pull, one_less, pulled_at, pulled_first, pulled_by, pulled}

-- ---- properties of a result

abbrev Res : {A E : Type 0} → (A → Type 0) → Result A E → Type 0
Res P (Ok x) = P x
Res P (Err e) = Unit {0}

-- two results that are equal, and a property of the first
abbrev Alike : {A E : Type 0} → (A → Type 0) → (r s : Result A E) → Type 0
Alike P r s = (r ≡ s) × Res P r

bind_same : {A B E : Type 0} (P : A → Type 0) (Q : B → Type 0) (r : Result A E) (f g : A → Result B E) → Res P r → ((x : A) → P x → Alike Q (f x) (g x)) → Alike Q (r >>= f) (r >>= g)
bind_same P Q (Ok x) f g p each = each x p
bind_same P Q (Err e) f g p each = (refl, tt)

bind : {A B E : Type 0} (P : A → Type 0) (Q : B → Type 0) (r s : Result A E) (f g : A → Result B E) → Alike P r s → ((x : A) → P x → Alike Q (f x) (g x)) → Alike Q (r >>= f) (s >>= g)
bind P Q r s f g a each =
    let both = bind_same P Q r f g a.1 each in
    (both.0 ∙ ap (λ x. x >>= g) a.0, both.1)

module _ (c : ℕ) where
  abbrev Placed : Pos → Type 0
  Placed at = at.file < c

  abbrev Has : Hidden → Type 0
  Has x = Placed x.token.pos

  abbrev All : List Hidden → Type 0
  All [] = Unit {0}
  All (x ∷ xs) = Has x × All xs

  abbrev Lists : List (List Hidden) → Type 0
  Lists [] = Unit {0}
  Lists (xs ∷ xss) = All xs × Lists xss

  all_append : (xs ys : List Hidden) → All xs → All ys → All (xs ++ ys)
  all_append [] ys p q = q
  all_append (x ∷ xs) ys p q = (p.0, all_append xs ys p.1 q)

  all_hiding : (names : List (List ℕ)) (xs : List Hidden) → All xs → All (hiding names xs)
  all_hiding names [] p = tt
  all_hiding names (x ∷ xs) p = (p.0, all_hiding names xs p.1)

  all_marked : (space : Bool) (xs : List Hidden) → All xs → All (marked space xs)
  all_marked space [] p = tt
  all_marked space (x ∷ xs) p = p

  all_at : (i : ℕ) (xss : List (List Hidden)) → Lists xss → All (list_at i xss)
  all_at i [] p = tt
  all_at zero (xs ∷ xss) p = p.0
  all_at (suc i) (xs ∷ xss) p = all_at i xss p.1

  -- ---- arguments

  abbrev Furthers : List Further → Type 0
  Furthers [] = Unit {0}
  Furthers (m ∷ ms) = Has m.comma × All m.argument × Furthers ms

  abbrev Takes : Option Taken → Type 0
  Takes None = Unit {0}
  Takes (Some t) = All t.first × Furthers t.more × All t.rest

  takes_token : (x : Hidden) (o : Option Taken) → Has x → Takes o → Takes (with_token x o)
  takes_token x None h p = tt
  takes_token x (Some t) h p = ((h, p.0), p.1, p.2)

  takes_comma : (x : Hidden) (o : Option Taken) → Has x → Takes o → Takes (behind_comma x o)
  takes_comma x None h p = tt
  takes_comma x (Some t) h p = (tt, (h, p.0, p.1), p.2)

  takes_with : (m : Mark) (depth : ℕ) (x : Hidden) (rest : List Hidden) (next : ℕ → Option Taken) → Has x → All rest → ((d : ℕ) → Takes (next d)) → Takes (taken_with m depth x rest next)
  takes_with opens depth x rest next h a each = takes_token x (next (suc depth)) h (each (suc depth))
  takes_with closes zero x rest next h a each = (tt, tt, a)
  takes_with closes (suc depth) x rest next h a each = takes_token x (next depth) h (each depth)
  takes_with separates zero x rest next h a each = takes_comma x (next zero) h (each zero)
  takes_with separates (suc depth) x rest next h a each = takes_token x (next (suc depth)) h (each (suc depth))
  takes_with other depth x rest next h a each = takes_token x (next depth) h (each depth)

  takes : (depth : ℕ) (xs : List Hidden) → All xs → Takes (arguments_in depth xs)
  unfolding arguments_in
  takes depth [] a = tt
  takes depth (x ∷ rest) a = takes_with (mark_of x.token) depth x rest (λ d. arguments_in d rest) a.0 a.1 (λ d. takes d rest a.1)

  lists_more : (ms : List Further) → Furthers ms → Lists (map (λ m. m.argument) ms)
  lists_more [] p = tt
  lists_more (m ∷ ms) p = (p.1, lists_more ms p.2)

  all_merged : (xs : List Hidden) (ms : List Further) → All xs → Furthers ms → All (merged xs ms)
  all_merged xs [] a p = a
  all_merged xs (m ∷ ms) a p = all_append xs (m.comma ∷ merged m.argument ms) a (p.0, all_merged m.argument ms p.1 p.2)

  lists_merged : (named : ℕ) (xs : List Hidden) (ms : List Further) → All xs → Furthers ms → Lists (with_merged named xs ms)
  lists_merged zero xs ms a p = (all_merged xs ms a p, tt)
  lists_merged (suc named) xs [] a p = (a, tt)
  lists_merged (suc named) xs (m ∷ ms) a p = (a, lists_merged named m.argument ms p.1 p.2)

  lists_separated : (variadic : Bool) (named : ℕ) (xs : List Hidden) (ms : List Further) → All xs → Furthers ms → Lists (separated variadic named xs ms)
  lists_separated false named xs ms a p = (a, lists_more ms p)
  lists_separated true named xs ms a p = lists_merged named xs ms a p

  lists_for : (names : List (List ℕ)) (xss : List (List Hidden)) → Lists xss → Lists (arguments_for names xss)
  lists_for [] [] p = p
  lists_for [] ([] ∷ []) p = tt
  lists_for [] ([] ∷ (ys ∷ yss)) p = p
  lists_for [] ((x ∷ xs) ∷ xss) p = p
  lists_for (n ∷ ns) xss p = p

  -- ---- turns

  abbrev Turns : Turn → Type 0
  Turns stands = Unit {0}
  Turns (refused k) = Unit {0}
  Turns predefined = Unit {0}
  Turns (replaced r) = Has r.name × Placed r.call.at × Lists r.call.arguments × All r.rest

  if_turns : (b : Bool) (s t : Turn) → Turns s → Turns t → Turns (if b then s else t)
  if_turns true s t p q = p
  if_turns false s t p q = q

  counted : (x : Hidden) (m : Macro) (q : Parameters) (t : Taken) (xss : List (List Hidden)) → Has x → Lists xss → All t.rest → Turns (counted_turn x m q t xss)
  counted x m q t xss h l a = if_turns (nat_lt 127 (length xss)) _ _ tt (if_turns (nat_eq (length xss) (length (names_of (Some q)))) _ _ (h, h, l, a) tt)

  taken_turns : (x : Hidden) (m : Macro) (q : Parameters) (o : Option Taken) → Has x → Takes o → Turns (taken_turn x m q o)
  taken_turns x m q None h p = tt
  taken_turns x m q (Some t) h p =
      let all = separated q.variadic (length q.names) t.first t.more in
      counted x m q t (arguments_for (names_of (Some q)) all) h (lists_for (names_of (Some q)) all (lists_separated q.variadic (length q.names) t.first t.more p.0 p.1)) p.2

  last_turns : (e : Ending) → Turns (last_turn e)
  last_turns of_run = tt
  last_turns of_directive = tt
  last_turns of_argument = tt

  function_turns : (x : Hidden) (m : Macro) (q : Parameters) (rest : List Hidden) (e : Ending) → Has x → All rest → Turns (function_turn x m q rest e)
  function_turns x m q [] e h a = last_turns e
  function_turns x m q (y ∷ rest) e h a = if_turns (is_spelled (codes "(") y.token) _ _ (taken_turns x m q (arguments_in 0 rest) h (takes 0 rest a.1)) tt

  turns_by : (x : Hidden) (m : Macro) (p : Option Parameters) (rest : List Hidden) (e : Ending) → Has x → All rest → Turns (turn_by x m p rest e)
  turns_by x m None rest e h a = (h, h, tt, a)
  turns_by x m (Some p) rest e h a = function_turns x m p rest e h a

  turns_of : (x : Hidden) (o : Option Macro) (rest : List Hidden) (e : Ending) → Has x → All rest → Turns (turn_of x o rest e)
  turns_of x None rest e h a = tt
  turns_of x (Some m) rest e h a = turns_by x m m.parameters rest e h a

  turns : (known : Known) (x : Hidden) (rest : List Hidden) (e : Ending) → Has x → All rest → Turns (turn known x rest e)
  unfolding turn
  turns known x rest e h a = if_turns (is_live_predefined x) _ _ tt (turns_of x (macro_at known x) rest e h a)

  -- ---- replacement lists

  abbrev PieceHas : Piece → Type 0
  PieceHas (one x) = Has x
  PieceHas (parameter beside space i) = Unit {0}
  PieceHas joint = Unit {0}
  PieceHas (placemarker space) = Unit {0}

  abbrev Pieces : List Piece → Type 0
  Pieces [] = Unit {0}
  Pieces (p ∷ ps) = PieceHas p × Pieces ps

  if_piece : (b : Bool) (p q : Piece) → PieceHas p → PieceHas q → PieceHas (if b then p else q)
  if_piece true p q x y = x
  if_piece false p q x y = y

  bind_res : {A B E : Type 0} (P : A → Type 0) (Q : B → Type 0) (r : Result A E) (f : A → Result B E) → Res P r → ((x : A) → P x → Res Q (f x)) → Res Q (r >>= f)
  bind_res P Q (Ok x) f p each = each x p
  bind_res P Q (Err e) f p each = tt

  abbrev Stands : Token → Type 0
  Stands t = Placed t.pos

  if_res : (b : Bool) (r s : Result Token Code) → Res Stands r → Res Stands s → Res Stands (if b then r else s)
  if_res true r s p q = p
  if_res false r s p q = q

  string_stands : (text : List ℕ) (at : Pos) → Placed at → Res Stands (string_of text at)
  string_stands text at h = if_res (is_string_kind (plain_kind text)) _ _ h tt

  joined_stands : (o : Option Kind) (text : List ℕ) (space : Bool) (at : Pos) → Placed at → Res Stands (joined_as o text space at)
  joined_stands None text space at h = tt
  joined_stands (Some k) text space at h = h

  module _ (call : Call) (h : Placed call.at) where
    by_parameter : (x : Token) (o : Option ℕ) → PieceHas (token_or_parameter call x o)
    by_parameter x None = h
    by_parameter x (Some i) = tt

    piece_has : (x : Token) → PieceHas (piece_of call x)
    piece_has x = if_piece (is_joint x) _ _ tt (by_parameter x (parameter_of call x))

    string_has : (x : Token) (i : ℕ) → Res PieceHas (string_piece call x i)
    string_has x i = bind_res Stands PieceHas (stringized (map (λ y. y.token) (list_at i call.arguments)) call.at) _ (string_stands (string_text (map (λ y. y.token) (list_at i call.arguments))) call.at h) (λ s p. p)

    front_has : (p : Piece) (r : Result (List Piece) Code) → PieceHas p → Res Pieces r → Res Pieces (in_front p r)
    front_has p r x rs = bind_res Pieces Pieces r _ rs (λ ps q. (x, q))

    either_has : (x : Token) (o : Option ℕ) (rest later : Unit {0} → Result (List Piece) Code) → Res Pieces (rest tt) → Res Pieces (later tt) → Res Pieces (string_or_piece call x o rest later)
    either_has x None rest later p q = front_has (piece_of call x) (rest tt) (piece_has x) p
    either_has x (Some i) rest later p q = bind_res PieceHas Pieces (string_piece call x i) _ (string_has x i) (λ s k. front_has s (later tt) k q)

    strings_have : (body : List Token) → Res Pieces (strings_made call body)
    unfolding strings_made
    strings_have [] = tt
    strings_have (x ∷ []) = (piece_has x, tt)
    strings_have (x ∷ y ∷ rest) = either_has x (operand_of call x y) (λ _. strings_made call (y ∷ rest)) (λ _. strings_made call rest) (strings_have (y ∷ rest)) (strings_have rest)

  sides_have : (after : Bool) (ps : List Piece) → Pieces ps → Pieces (sides after ps)
  sides_have after [] p = tt
  sides_have after (one x ∷ ps) p = (p.0, sides_have false ps p.1)
  sides_have after (parameter b s i ∷ ps) p = (tt, sides_have false ps p.1)
  sides_have after (joint ∷ ps) p = (tt, sides_have true ps p.1)
  sides_have after (placemarker s ∷ ps) p = (tt, sides_have false ps p.1)

  ones_have : (xs : List Hidden) → All xs → Pieces (ones xs)
  ones_have [] p = tt
  ones_have (x ∷ xs) p = (p.0, ones_have xs p.1)

  plain_has : (space : Bool) (xs : List Hidden) → All xs → Pieces (plain space xs)
  plain_has space [] p = (tt, tt)
  plain_has space (x ∷ xs) p = ones_have (marked space (x ∷ xs)) (all_marked space (x ∷ xs) p)

  either_full : (beside space : Bool) (xs ys : List Hidden) → All xs → All ys → Pieces (plain_or_full beside space xs ys)
  either_full true space xs ys p q = plain_has space xs p
  either_full false space xs ys p q = ones_have (marked space ys) (all_marked space ys q)

  put_has : (call : Call) (full : List (List Hidden)) (p : Piece) → Lists call.arguments → Lists full → PieceHas p → Pieces (argument_put call full p)
  put_has call full (one x) l m h = (h, tt)
  put_has call full (parameter b s i) l m h = either_full b s (list_at i call.arguments) (list_at i full) (all_at i call.arguments l) (all_at i full m)
  put_has call full joint l m h = (tt, tt)
  put_has call full (placemarker s) l m h = (tt, tt)

  pieces_append : (ps qs : List Piece) → Pieces ps → Pieces qs → Pieces (ps ++ qs)
  pieces_append [] qs p q = q
  pieces_append (x ∷ ps) qs p q = (p.0, pieces_append ps qs p.1 q)

  puts_have : (call : Call) (full : List (List Hidden)) (ps : List Piece) → Lists call.arguments → Lists full → Pieces ps → Pieces (arguments_put call full ps)
  unfolding arguments_put
  puts_have call full [] l m h = tt
  puts_have call full (p ∷ ps) l m h = pieces_append (argument_put call full p) (arguments_put call full ps) (put_has call full p l m h.0) (puts_have call full ps l m h.1)

  module _ (at : Pos) (h : Placed at) where
    joined_has : (left right : Hidden) → Res PieceHas (joined left right at)
    joined_has left right = bind_res Stands PieceHas (pasted left.token right.token at) _ (joined_stands _ _ _ at h) (λ t p. p)

    join_has : (p q : Piece) → PieceHas p → PieceHas q → Res PieceHas (join p q at)
    join_has (one left) (one right) x y = joined_has left right
    join_has (one left) (placemarker s) x y = x
    join_has (one left) (parameter b s i) x y = tt
    join_has (one left) joint x y = tt
    join_has (placemarker s) (one right) x y = y
    join_has (placemarker s) (placemarker t) x y = tt
    join_has (placemarker s) (parameter b t i) x y = tt
    join_has (placemarker s) joint x y = tt
    join_has (parameter b s i) q x y = tt
    join_has joint q x y = tt

    front_joined : (p : Piece) (r : Result (List Piece) Code) → PieceHas p → Res Pieces r → Res Pieces (in_front p r)
    front_joined p r x rs = bind_res Pieces Pieces r _ rs (λ ps q. (x, q))

    all_joined_have : (p : Piece) (ps : List Piece) → PieceHas p → Pieces ps → Res Pieces (all_joined p ps at)
    unfolding all_joined
    all_joined_have p [] x xs = (x, tt)
    all_joined_have p (joint ∷ []) x xs = (x, (tt, tt))
    all_joined_have p (joint ∷ q ∷ ps) x xs = bind_res PieceHas Pieces (join p q at) _ (join_has p q x xs.1.0) (λ r k. all_joined_have r ps k xs.1.1)
    all_joined_have p (one y ∷ ps) x xs = front_joined p (all_joined (one y) ps at) x (all_joined_have (one y) ps xs.0 xs.1)
    all_joined_have p (parameter b s i ∷ ps) x xs = front_joined p (all_joined (parameter b s i) ps at) x (all_joined_have (parameter b s i) ps tt xs.1)
    all_joined_have p (placemarker s ∷ ps) x xs = front_joined p (all_joined (placemarker s) ps at) x (all_joined_have (placemarker s) ps tt xs.1)

    joints_have : (ps : List Piece) → Pieces ps → Res Pieces (joints_done ps at)
    joints_have [] xs = tt
    joints_have (p ∷ ps) xs = all_joined_have p ps xs.0 xs.1

  tokens_have : (ps : List Piece) → Pieces ps → All (tokens_of ps)
  tokens_have [] xs = tt
  tokens_have (one x ∷ ps) xs = (xs.0, tokens_have ps xs.1)
  tokens_have (parameter b s i ∷ ps) xs = tokens_have ps xs.1
  tokens_have (joint ∷ ps) xs = tokens_have ps xs.1
  tokens_have (placemarker s ∷ ps) xs = tokens_have ps xs.1

  substituted_has : (call : Call) (full : List (List Hidden)) (ps : List Piece) → Placed call.at → Lists call.arguments → Lists full → Pieces ps → Res All (substituted call full ps)
  unfolding substituted
  substituted_has call full ps h l m p =
      bind_res Pieces All (joints_done (arguments_put call full ps) call.at) _ (joints_have call.at h (arguments_put call full ps) (puts_have call full ps l m p)) (λ qs q. tokens_have qs q)

  -- ---- two equal expansions

  at_place_res : {A : Type 0} (P : A → Type 0) (at : Pos) (r : Result A Code) → Res P r → Res P (at_place at r)
  at_place_res P at (Ok x) p = p
  at_place_res P at (Err e) p = tt

  abbrev HasList : List Hidden × ℕ → Type 0
  HasList a = All a.0

  abbrev HasLists : List (List Hidden) × ℕ → Type 0
  HasLists a = Lists a.0

  abbrev Follows : Next → Next → Type 0
  Follows f g = (xs : List Hidden) (e : Ending) (left : ℕ) → All xs → Alike HasList (f xs e left) (g xs e left)

  module _ (f g : Next) (follows : Follows f g) where
    one_argument : (wanted : Bool) (xs : List Hidden) (left : ℕ) → All xs → Alike HasList (argument_by f wanted xs left) (argument_by g wanted xs left)
    one_argument true xs left a = follows xs of_argument left a
    one_argument false xs left a = (refl, tt)

    all_expanded : (ps : List Piece) (i : ℕ) (xss : List (List Hidden)) (left : ℕ) → Lists xss → Alike HasLists (arguments_expanded f ps i xss left) (arguments_expanded g ps i xss left)
    unfolding arguments_expanded
    all_expanded ps i [] left l = (refl, tt)
    all_expanded ps i (xs ∷ xss) left l =
        bind HasList HasLists (argument_by f (is_expanded i ps) xs left) (argument_by g (is_expanded i ps) xs left) _ _ (one_argument (is_expanded i ps) xs left l.0)
        (λ a p. bind HasLists HasLists (arguments_expanded f ps (suc i) xss a.1) (arguments_expanded g ps (suc i) xss a.1) _ _ (all_expanded ps (suc i) xss a.1 l.1) (λ b q. (refl, (p, q))))

    front_all : (r : Replacement) (new : List Hidden) → All r.rest → All new → All (front_of r new)
    front_all r new a b = all_append (marked r.name.token.space_before (hiding r.hides new)) r.rest (all_marked r.name.token.space_before (hiding r.hides new) (all_hiding r.hides new b)) a

    replaces : (r : Replacement) (e : Ending) (left : ℕ) → Turns (replaced r) → Alike HasList (replace f r e left) (replace g r e left)
    unfolding replace
    replaces r e left t =
        bind_same Pieces HasList (at_place r.call.at (strings_made r.call r.call.macro.body)) _ _ (at_place_res Pieces r.call.at (strings_made r.call r.call.macro.body) (strings_have r.call t.1 r.call.macro.body))
        (λ made p.
        let ps = sides false made in
        let has : Pieces ps = sides_have false made p in
        bind HasLists HasList (arguments_expanded f ps 0 r.call.arguments left) (arguments_expanded g ps 0 r.call.arguments left) _ _ (all_expanded ps 0 r.call.arguments left t.2)
        (λ full q.
        bind_same All HasList (at_place r.call.at (substituted r.call full.0 ps)) _ _ (at_place_res All r.call.at (substituted r.call full.0 ps) (substituted_has r.call full.0 ps t.1 t.2 q has))
        (λ new k. follows (front_of r new) e full.1 (front_all r new t.3 k))))

    makes : (r : Replacement) (left : ℕ) → Turns (replaced r) → Alike HasList (made_by f r left) (made_by g r left)
    unfolding made_by
    makes r left t =
        bind_same Pieces HasList (at_place r.call.at (strings_made r.call r.call.macro.body)) _ _ (at_place_res Pieces r.call.at (strings_made r.call r.call.macro.body) (strings_have r.call t.1 r.call.macro.body))
        (λ made p.
        let ps = sides false made in
        let has : Pieces ps = sides_have false made p in
        bind HasLists HasList (arguments_expanded f ps 0 r.call.arguments left) (arguments_expanded g ps 0 r.call.arguments left) _ _ (all_expanded ps 0 r.call.arguments left t.2)
        (λ full q.
        bind_same All HasList (at_place r.call.at (substituted r.call full.0 ps)) _ _ (at_place_res All r.call.at (substituted r.call full.0 ps) (substituted_has r.call full.0 ps t.1 t.2 q has))
        (λ new k. (refl, front_all r new t.3 k))))

    replaces_one : (r : Replacement) (e : Ending) (left : ℕ) → Turns (replaced r) → Alike HasList (replace_one f r e left) (replace_one g r e left)
    replaces_one r e zero t = (refl, tt)
    replaces_one r e (suc left) t = replaces r e left t

-- ---- texts

text_kept : (t u : Texts) → KeepsNumbers t u → (f : ℕ) → f < length t → text_of t f ≡ text_of u f
text_kept t u keeps f h =
    let here : slice_get t f ≡ Some (get_or t f []) = slice_get-get_or t f [] h in
    ap text_or_empty (here ∙ sym (keeps f (get_or t f []) here))

-- a predefined macro's token, whose file has this text
abbrev token_with : List ℕ → List ℕ → Pos → Kind × List ℕ
token_with text name at =
    if bytes_eq name (codes "__LINE__") then (kind.Number, decimal at.line)
    else if bytes_eq name (codes "__FILE__") then (kind.StringLiteral, quoted text)
    else if bytes_eq name (codes "__DATE__") then (kind.StringLiteral, quoted (codes "Jan  1 1970"))
    else if bytes_eq name (codes "__TIME__") then (kind.StringLiteral, quoted (codes "00:00:00"))
    else if bytes_eq name (codes "__STDC_VERSION__") then (kind.Number, codes "201112L")
    else if bytes_eq name (codes "__STDC_HOSTED__") then (kind.Number, codes "0")
    else (kind.Number, codes "1")

module _ (m : Macros) (t u : Texts) (keeps : KeepsNumbers t u) where
  abbrev c : ℕ
  c = length t

  abbrev before : Known
  before = record { macros = m; texts = t }

  abbrev later : Known
  later = record { macros = m; texts = u }

  front_kept : (x : Hidden) → Has c x → predefined_front before x ≡ predefined_front later x
  front_kept x h = ap (λ text. predefined_by before x (token_with text x.token.spelling x.token.pos)) (text_kept t u keeps x.token.pos.file h)

  module _ (f g : Next) (follows : Follows c f g) where
    predefined_follows : (x : Hidden) (rest : List Hidden) (e : Ending) (left : ℕ) → Has c x → All c rest → Alike (HasList c) (predefined_one before f x rest e left) (predefined_one later g x rest e left)
    predefined_follows x rest e zero h a = (refl, tt)
    predefined_follows x rest e (suc left) h a =
        let both = follows (predefined_front before x ∷ rest) e left (h, a) in
        (both.0 ∙ ap (λ y. g (y ∷ rest) e left) (front_kept x h), both.1)

    taken_follows : (turned : Turn) (x : Hidden) (rest : List Hidden) (e : Ending) (left : ℕ) (kept kept2 : Unit {0} → Answer) → Turns c turned → Has c x → All c rest → Alike (HasList c) (kept tt) (kept2 tt) → Alike (HasList c) (taken before f turned x rest e left kept) (taken later g turned x rest e left kept2)
    taken_follows stands x rest e left kept kept2 d h a alike = bind (HasList c) (HasList c) (kept tt) (kept2 tt) _ _ alike (λ b p. (refl, (h, p)))
    taken_follows (refused k) x rest e left kept kept2 d h a alike = (refl, tt)
    taken_follows predefined x rest e left kept kept2 d h a alike = predefined_follows x rest e left h a
    taken_follows (replaced r) x rest e left kept kept2 d h a alike = replaces_one c f g follows r e left d

    walks : (xs : List Hidden) (e : Ending) (left : ℕ) → All c xs → Alike (HasList c) (walk before f xs e left) (walk later g xs e left)
    unfolding walk turn
    walks [] e left a = (refl, tt)
    walks (x ∷ rest) e left a =
        taken_follows (turn before x rest e) x rest e left (λ _. walk before f rest e left) (λ _. walk later g rest e left) (turns c before x rest e a.0 a.1) a.0 a.1 (walks rest e left a.1)

  expands : (n : ℕ) → Follows c (expanded_by n before) (expanded_by n later)
  unfolding expanded_by
  expands zero xs e left a = walks (λ _ _ _. Ok ([], 0)) (λ _ _ _. Ok ([], 0)) (λ ys d k b. (refl, tt)) xs e left a
  expands (suc n) xs e left a = walks (expanded_by n before) (expanded_by n later) (expands n) xs e left a

  -- ---- the pulled token

  abbrev HasPull : Option Hidden × List Hidden × ℕ → Type 0
  HasPull a = HasOne a.0 × All c a.1
    where
      HasOne : Option Hidden → Type 0
      HasOne None = Unit {0}
      HasOne (Some x) = Has c x

  one_less_alike : {A : Type 0} (P : A → Type 0) (at : Pos) (left : ℕ) (f g : ℕ → Result A Fault) → ((n : ℕ) → Alike P (f n) (g n)) → Alike P (one_less at left f) (one_less at left g)
  one_less_alike P at zero f g each = (refl, tt)
  one_less_alike P at (suc left) f g each = each left

  abbrev Pulls : (f g : List Hidden → ℕ → Pull) → Type 0
  Pulls f g = (xs : List Hidden) (left : ℕ) → All c xs → Alike HasPull (f xs left) (g xs left)

  pulls_at : (f g : List Hidden → ℕ → Pull) → Pulls f g → (turned : Turn) (x : Hidden) (rest : List Hidden) (left : ℕ) → Turns c turned → Has c x → All c rest → Alike HasPull (pulled_at before f turned x rest left) (pulled_at later g turned x rest left)
  pulls_at f g pulls stands x rest left d h a = (refl, (h, a))
  pulls_at f g pulls (refused k) x rest left d h a = (refl, tt)
  pulls_at f g pulls predefined x rest left d h a =
      one_less_alike HasPull x.token.pos left _ _ (λ n. let both = pulls (predefined_front before x ∷ rest) n (h, a) in (both.0 ∙ ap (λ y. g (y ∷ rest) n) (front_kept x h), both.1))
  pulls_at f g pulls (replaced r) x rest left d h a =
      one_less_alike HasPull r.call.at left _ _ (λ n. bind (HasList c) HasPull (made_by (expanding before) r n) (made_by (expanding later) r n) _ _ (makes c (expanding before) (expanding later) (λ xs e k b. expands k xs e k b) r n d) (λ b p. pulls b.0 b.1 p))

  pulls_first : (f g : List Hidden → ℕ → Pull) → Pulls f g → (xs : List Hidden) (e : Ending) (left : ℕ) → All c xs → Alike HasPull (pulled_first before f xs e left) (pulled_first later g xs e left)
  unfolding pulled_first turn
  pulls_first f g pulls [] e left a = (refl, (tt, tt))
  pulls_first f g pulls (x ∷ rest) e left a =
      pulls_at f g pulls (turn before x rest e) x rest left (turns c before x rest e a.0 a.1) a.0 a.1

  pulls_by : (n : ℕ) (xs : List Hidden) (e : Ending) (left : ℕ) → All c xs → Alike HasPull (pulled_by n before xs e left) (pulled_by n later xs e left)
  unfolding pulled_by
  pulls_by zero xs e left a = pulls_first (λ _ _. Ok (None, [], 0)) (λ _ _. Ok (None, [], 0)) (λ ys k b. (refl, (tt, tt))) xs e left a
  pulls_by (suc n) xs e left a =
      pulls_first (λ ys k. pulled_by n before ys e k) (λ ys k. pulled_by n later ys e k) (λ ys k b. pulls_by n ys e k b) xs e left a

-- ---- lists of tokens

all_unhidden : (texts : Texts) (xs : List Token) → HaveFiles texts xs → All (length texts) (unhidden xs)
all_unhidden texts [] h = tt
all_unhidden texts (x ∷ xs) h = (h 0 x refl, all_unhidden texts xs (λ i y e. h (suc i) y e))

have_shown : (texts : Texts) (ys : List Hidden) → All (length texts) ys → HaveFiles texts (map (λ y. y.token) ys)
have_shown texts [] a i y e = cc
have_shown texts (x ∷ xs) a zero y e = subst (λ o. Res (λ z. z.pos.file < length texts) (or_error o)) e a.0
  where
    or_error : Option Token → Result Token (Unit {0})
    or_error None = Err tt
    or_error (Some z) = Ok z
have_shown texts (x ∷ xs) a (suc i) y e = have_shown texts xs a.1 i y e

-- later texts change nothing
pub texts_may_grow : (m : Macros) (t u : Texts) (xs : List Token) (e : Ending) (left : ℕ) → KeepsNumbers t u → HaveFiles t xs → expanded (record { macros = m; texts = t }) xs e left ≡ expanded (record { macros = m; texts = u }) xs e left
unfolding expanded
texts_may_grow m t u xs e left keeps h = ap shown_answer (expands m t u keeps left (unhidden xs) e left (all_unhidden t xs h)).0

shown_have : (texts : Texts) (r : Answer) (ys : List Token) (n : ℕ) → Res (HasList (length texts)) r → shown_answer r ≡ Ok (ys, n) → HaveFiles texts ys
shown_have texts (Ok a) ys n p e =
    let same : map (λ x. x.token) a.0 ≡ ys = ap (λ r. tokens_in r) e in
    subst (HaveFiles texts) same (have_shown texts a.0 p)
  where
    tokens_in : Result (List Token × ℕ) Fault → List Token
    tokens_in (Ok b) = b.0
    tokens_in (Err k) = []
shown_have texts (Err k) ys n p e = cc

-- an expansion's tokens have files of those that it was given
pub files_stay : (m : Macros) (t : Texts) (xs : List Token) (e : Ending) (left : ℕ) (ys : List Token) (n : ℕ) → HaveFiles t xs → expanded (record { macros = m; texts = t }) xs e left ≡ Ok (ys, n) → HaveFiles t ys
unfolding expanded
files_stay m t xs e left ys n h is = shown_have t (expanded_by left (record { macros = m; texts = t }) (unhidden xs) e left) ys n (expands m t t (λ i text q. q) left (unhidden xs) e left (all_unhidden t xs h)).1 is

-- ---- lists of tokens with hide sets

abbrev HaveHidden : Texts → List Hidden → Type 0
HaveHidden texts xs = HaveFiles texts (map (λ x. x.token) xs)

all_hidden : (texts : Texts) (xs : List Hidden) → HaveHidden texts xs → All (length texts) xs
all_hidden texts [] h = tt
all_hidden texts (x ∷ xs) h = (h 0 x.token refl, all_hidden texts xs (λ i y e. h (suc i) y e))

-- later texts change nothing
pub expanding_grows : (m : Macros) (t u : Texts) (xs : List Hidden) (e : Ending) (left : ℕ) → KeepsNumbers t u → HaveHidden t xs → expanding (record { macros = m; texts = t }) xs e left ≡ expanding (record { macros = m; texts = u }) xs e left
expanding_grows m t u xs e left keeps h = (expands m t u keeps left xs e left (all_hidden t xs h)).0

pub pulled_grows : (m : Macros) (t u : Texts) (xs : List Hidden) (e : Ending) (left : ℕ) → KeepsNumbers t u → HaveHidden t xs → pulled (record { macros = m; texts = t }) xs e left ≡ pulled (record { macros = m; texts = u }) xs e left
pulled_grows m t u xs e left keeps h = (pulls_by m t u keeps left xs e left (all_hidden t xs h)).0

-- the pulled token has files of the list, and so has the list that is left
pub pulled_files : (m : Macros) (t : Texts) (xs : List Hidden) (e : Ending) (left : ℕ) (x : Hidden) (rest : List Hidden) (after : ℕ) → HaveHidden t xs → pulled (record { macros = m; texts = t }) xs e left ≡ Ok (Some x, rest, after) → (x.token.pos.file < length t) × HaveHidden t rest
pulled_files m t xs e left x rest after h is =
    let both = subst (λ p. Res (HasPull m t t (λ i text q. q)) p) is (pulls_by m t t (λ i text q. q) left xs e left (all_hidden t xs h)).1 in
    (both.0, have_shown t rest both.1)
