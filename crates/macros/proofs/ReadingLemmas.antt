-- Reading parameters.
use Rattle.std.proofs.Common.{◌≡◌, ℕ, zero, suc, ◌+◌, ◌<◌, ◌≤◌, List, [], ◌∷◌, ◌++◌, Bool, true, false, not, cond, ◌&&◌, ◌||◌, drop, length, get_or, position, Option, Some, None, refl, ap, sym, subst, ◌∙◌, slice_get, nat_eq, if◌then◌else◌, codes, arith, Vec}
use Rattle.std.proofs.lemmas.List.{drop_more, append_assoc, append-nil}
use Rattle.std.specs.declared.alloc.Global.{Global}
use Rattle.std.proofs.lemmas.Iterator.Adapters.{position_from-zero}
use Rattle.std.specs.List.{list_any, position_from}
use Rattle.std.specs.Str.{bytes_eq}
use Rattle.srcset.specs.NameTable.{Texts, NumbersOnce}
use Rattle.phases.specs.Token.{Token}
use Rattle.macros.specs.Macro.{Macro, is_identifier, is_spelled}
use Rattle.macros.specs.Definition.{Head, head_of, function_like, number_among, next_number, names_from, with_name, with_variable}
use Rattle.macros.specs.Table.{AreNumbered, AreSame, NumberedMacro}
use Rattle.macros.specs.declared.reading.Reading.{Reading}
use Rattle.macros.specs.inside.Reading.{Read, IsRead, macro_if, read_from, read_before, distinct_from, place_behind}
use Rattle.macros.specs.inside.Readings.{IsReading, IsWithin}
use Rattle.macros.proofs.TableLemmas.{alike, text_same, same_test, number_same, number_itself}

-- ---- the place of a name

abbrev shifted : ℕ → Option ℕ → Option ℕ
shifted i None = None
shifted i (Some j) = Some (i + j)

shifted_next : (i : ℕ) (o : Option ℕ) → shifted (i + 1) o ≡ shifted i (next_number o)
shifted_next i None = refl
shifted_next i (Some j) = ap Some (omega (arith))

shifted_none : (o : Option ℕ) → shifted 0 o ≡ o
shifted_none None = refl
shifted_none (Some j) = ap Some (omega (arith))

place_from : (texts : Texts) → NumbersOnce texts → (n : ℕ) (text : List ℕ) → slice_get texts n ≡ Some text
    → (keys : List ℕ) (names : List (List ℕ)) → AreNumbered texts keys names → (i : ℕ) → position_from (nat_eq n) i keys ≡ shifted i (number_among text names)
place_from texts once n text at [] [] are i = refl
place_from texts once n text at [] (p ∷ ps) are i = absurd are
place_from texts once n text at (k ∷ ks) [] are i = absurd are
place_from texts once n text at (k ∷ ks) (p ∷ ps) are i =
    rw (alike texts once n k text p at are.0) (by (bytes_eq text p) (place_from texts once n text at ks ps are.1 (i + 1)))
  where
    by : (b : Bool) → position_from (nat_eq n) (i + 1) ks ≡ shifted (i + 1) (number_among text ps)
        → cond b (Some i) (position_from (nat_eq n) (i + 1) ks) ≡ shifted i (cond b (Some 0) (next_number (number_among text ps)))
    by true e = ap Some (omega (arith))
    by false e = e ∙ shifted_next i (number_among text ps)

pub place_among : (texts : Texts) → NumbersOnce texts → (n : ℕ) (text : List ℕ) → slice_get texts n ≡ Some text
    → (keys : List ℕ) (names : List (List ℕ)) → AreNumbered texts keys names → position (nat_eq n) keys ≡ number_among text names
place_among texts once n text at keys names are =
    position_from-zero (nat_eq n) keys ∙ place_from texts once n text at keys names are 0 ∙ shifted_none (number_among text names)

pub no_place : (texts : Texts) (text : List ℕ) → ((n : ℕ) → slice_get texts n ≡ Some text → ⊥) → (keys : List ℕ) (names : List (List ℕ)) → AreNumbered texts keys names → None ≡ number_among text names
no_place texts text absent [] [] are = refl
no_place texts text absent [] (p ∷ ps) are = absurd are
no_place texts text absent (k ∷ ks) [] are = absurd are
no_place texts text absent (k ∷ ks) (p ∷ ps) are = by (bytes_eq text p) refl (no_place texts text absent ks ps are.1)
  where
    by : (b : Bool) → bytes_eq text p ≡ b → None ≡ number_among text ps → None ≡ cond b (Some 0) (next_number (number_among text ps))
    by true e rest = absurd (absent k (are.0 ∙ ap Some (sym (text_same text p e))))
    by false e rest = ap next_number rest

-- __VA_ARGS__ follows the parameters of a variadic macro
last_place : (name : List ℕ) (names : List (List ℕ)) (found : Option ℕ) → number_among name names ≡ found
    → number_among name (names ++ codes "__VA_ARGS__" ∷ []) ≡ place_behind found (bytes_eq name (codes "__VA_ARGS__")) (length names)
last_place name [] found e = by (bytes_eq name (codes "__VA_ARGS__")) found e
  where
    by : (b : Bool) (o : Option ℕ) → None ≡ o → cond b (Some 0) (next_number None) ≡ place_behind o b 0
    by true None e = refl
    by false None e = refl
    by b (Some i) e = absurd (cc)
last_place name (n ∷ ns) found e = by (bytes_eq name n) (number_among name ns) (last_place name ns (number_among name ns) refl) found e
  where
    rest : Bool
    rest = bytes_eq name (codes "__VA_ARGS__")

    shift : (o : Option ℕ) (c : Bool) → next_number (place_behind o c (length ns)) ≡ place_behind (next_number o) c (suc (length ns))
    shift (Some i) c = refl
    shift None true = refl
    shift None false = refl

    by : (b : Bool) (o : Option ℕ) → number_among name (ns ++ codes "__VA_ARGS__" ∷ []) ≡ place_behind o rest (length ns)
        → (found : Option ℕ) → cond b (Some 0) (next_number o) ≡ found
        → cond b (Some 0) (next_number (number_among name (ns ++ codes "__VA_ARGS__" ∷ []))) ≡ place_behind found rest (suc (length ns))
    by true o h found e = ap (λ f. place_behind f rest (suc (length ns))) e
    by false o h found e = ap next_number h ∙ shift o rest ∙ ap (λ f. place_behind f rest (suc (length ns))) e

pub place_variable : (name : List ℕ) (names : List (List ℕ)) (found : Option ℕ) (variadic : Bool) → found ≡ number_among name names
    → place_behind found (variadic && bytes_eq name (codes "__VA_ARGS__")) (length names) ≡ number_among name (with_variable variadic names)
place_variable name names found true e = sym (last_place name names found (sym e))
place_variable name names (Some i) false e = e
place_variable name names None false e = e

pub names_length : (texts : Texts) (keys : List ℕ) (names : List (List ℕ)) → AreNumbered texts keys names → length keys ≡ length names
names_length texts [] [] are = refl
names_length texts [] (p ∷ ps) are = absurd are
names_length texts (k ∷ ks) [] are = absurd are
names_length texts (k ∷ ks) (p ∷ ps) are = ap suc (names_length texts ks ps are.1)

-- ---- the loop over the names

drop_both : (xs : List Token) (i : ℕ) (x y : Token) → i + 1 < length xs → drop i xs ≡ get_or xs i x ∷ get_or xs (i + 1) y ∷ drop (i + 2) xs
drop_both xs i x y within =
    let k : i + 1 + 1 ≡ i + 2 = omega (arith) in
    drop_more xs i x (omega (arith, within)) ∙ ap (λ l. get_or xs i x ∷ l) (drop_more xs (i + 1) y within) ∙ ap (λ m. get_or xs i x ∷ get_or xs (i + 1) y ∷ drop m xs) k

drop_two : (xs : List Token) (i : ℕ) (x y : Token) → x ≡ get_or xs i x → y ≡ get_or xs (i + 1) y → i + 1 < length xs → drop i xs ≡ x ∷ y ∷ drop (i + 2) xs
drop_two xs i x y at_x at_y within =
    drop_both xs i x y within ∙ ap (λ u. u ∷ get_or xs (i + 1) y ∷ drop (i + 2) xs) (sym at_x) ∙ ap (λ u. x ∷ u ∷ drop (i + 2) xs) (sym at_y)

pub drop_short : (xs : List Token) (i : ℕ) → length xs ≤ i + 1 → read_from (drop i xs) ≡ None
drop_short [] zero short = refl
drop_short [] (suc i) short = refl
drop_short (a ∷ []) zero short = refl
drop_short (a ∷ b ∷ rest) zero short = absurd (omega (arith, short))
drop_short (a ∷ rest) (suc i) short = drop_short rest i (omega (arith, short))

-- the result of reading a name and the token after it
abbrev read_by : Bool → Bool → Bool → Bool → List ℕ → Option Read → Option Read
read_by ellipsis name close comma text rest =
    if ellipsis then if close then Some (record { names = []; variadic = true; len = 2 }) else None
    else if not name then None
    else if close then Some (record { names = text ∷ []; variadic = false; len = 2 })
    else if comma then read_before text rest
    else None

-- the result of reading an ellipsis and the token after it
abbrev pub read_end : Bool → Option Read
read_end close = if close then Some (record { names = []; variadic = true; len = 2 }) else None

module _ (xs : List Token) (i : ℕ) (x y : Token) (at_x : x ≡ get_or xs i x) (within : i + 1 < length xs) where
  pub no_name : is_spelled (codes "...") x ≡ false → is_identifier x ≡ false → read_from (drop i xs) ≡ None
  no_name d e =
      let z = get_or xs (i + 1) x in
      ap read_from (drop_both xs i x x within ∙ ap (λ u. u ∷ z ∷ drop (i + 2) xs) (sym at_x))
      ∙ ap (λ b. read_by b (is_identifier x) (is_spelled (codes ")") z) (is_spelled (codes ",") z) x.spelling (read_from (drop (i + 2) xs))) d
      ∙ ap (λ b. read_by false b (is_spelled (codes ")") z) (is_spelled (codes ",") z) x.spelling (read_from (drop (i + 2) xs))) e

  pub ellipsis : y ≡ get_or xs (i + 1) y → is_spelled (codes "...") x ≡ true → read_from (drop i xs) ≡ read_end (is_spelled (codes ")") y)
  ellipsis at_y d =
      ap read_from (drop_two xs i x y at_x at_y within)
      ∙ ap (λ b. read_by b (is_identifier x) (is_spelled (codes ")") y) (is_spelled (codes ",") y) x.spelling (read_from (drop (i + 2) xs))) d

  module _ (at_y : y ≡ get_or xs (i + 1) y) (no_ellipsis : is_spelled (codes "...") x ≡ false) (name : is_identifier x ≡ true) where
    read_at : (close comma : Bool) → is_spelled (codes ")") y ≡ close → is_spelled (codes ",") y ≡ comma
        → read_from (drop i xs) ≡ read_by false true close comma x.spelling (read_from (drop (i + 2) xs))
    read_at close comma e f =
        ap read_from (drop_two xs i x y at_x at_y within)
        ∙ ap (λ b. read_by b (is_identifier x) (is_spelled (codes ")") y) (is_spelled (codes ",") y) x.spelling (read_from (drop (i + 2) xs))) no_ellipsis
        ∙ ap (λ b. read_by false b (is_spelled (codes ")") y) (is_spelled (codes ",") y) x.spelling (read_from (drop (i + 2) xs))) name
        ∙ ap (λ b. read_by false true b (is_spelled (codes ",") y) x.spelling (read_from (drop (i + 2) xs))) e
        ∙ ap (λ b. read_by false true close b x.spelling (read_from (drop (i + 2) xs))) f

    pub closed : is_spelled (codes ")") y ≡ true → read_from (drop i xs) ≡ Some (record { names = x.spelling ∷ []; variadic = false; len = 2 })
    closed e = read_at true (is_spelled (codes ",") y) e refl

    pub goes_on : is_spelled (codes ")") y ≡ false → is_spelled (codes ",") y ≡ true → read_from (drop i xs) ≡ read_before x.spelling (read_from (drop (i + 2) xs))
    goes_on e f = read_at false true e f

    pub breaks_off : is_spelled (codes ")") y ≡ false → is_spelled (codes ",") y ≡ false → read_from (drop i xs) ≡ None
    breaks_off e f = read_at false false e f

-- one name more in hand
pub one_more : (texts : Texts) (x : Token) (n : ℕ) → slice_get texts n ≡ Some x.spelling → (numbers : List ℕ) (variadic : Bool) (len : ℕ) (r : Option Read)
    → IsRead texts numbers variadic len r → IsRead texts (n ∷ numbers) variadic (suc (suc len)) (read_before x.spelling r)
one_more texts x n at numbers variadic len None h = absurd h
one_more texts x n at numbers variadic len (Some r) h = ((at, h.0), h.1, ap (λ k. suc (suc k)) h.2)

-- the numbers in hand, and one more
pub more_in_hand : (texts : Texts) (x : Token) (n : ℕ) → slice_get texts n ≡ Some x.spelling → (done all numbers : List ℕ) (variadic : Bool) (i len : ℕ) (r whole : Option Read)
    → all ≡ done ++ n ∷ []
    → (IsRead texts (n ∷ numbers) variadic (suc (suc len)) (read_before x.spelling r) → IsRead texts (done ++ n ∷ numbers) variadic (i + suc (suc len)) whole)
    → IsRead texts numbers variadic len r → IsRead texts (all ++ numbers) variadic (i + 2 + len) whole
more_in_hand texts x n at done all numbers variadic i len r whole grown go h =
    let k : i + suc (suc len) ≡ i + 2 + len = omega (arith) in
    let l : done ++ n ∷ numbers ≡ all ++ numbers = sym (append_assoc done (n ∷ []) numbers) ∙ ap (λ a. a ++ numbers) (sym grown) in
    subst (λ m. IsRead texts (all ++ numbers) variadic m whole) k (subst (λ a. IsRead texts a variadic (i + suc (suc len)) whole) l (go (one_more texts x n at numbers variadic len r h)))

-- an ellipsis ends the parameters read so far
pub ends_list : (texts : Texts) (done : Vec ℕ Global) (i : ℕ) (close : Bool) (found : Option Reading) (r whole : Option Read)
    → found ≡ (if close then Some (record { numbers = done; variadic = true; len = i + 2 }) else None) → r ≡ read_end close
    → (IsRead texts [] true 2 r → IsRead texts (done.items ++ []) true (i + 2) whole) → (r ≡ None → whole ≡ None)
    → IsReading texts found whole
ends_list texts done i true found r whole e f some none =
    subst (λ o. IsReading texts o whole) (sym e) (subst (λ l. IsRead texts l true (i + 2) whole) (append-nil done.items) (some (subst (IsRead texts [] true 2) (sym f) (tt, refl, refl))))
ends_list texts done i false found r whole e f some none = subst (λ o. IsReading texts o whole) (sym e) (none f)

pub ends_within : (done : Vec ℕ Global) (i n : ℕ) (close : Bool) (found : Option Reading)
    → found ≡ (if close then Some (record { numbers = done; variadic = true; len = i + 2 }) else None) → i + 1 < n → IsWithin found n
ends_within done i n true found e within = subst (λ o. IsWithin o n) (sym e) (omega (arith, within))
ends_within done i n false found e within = subst (λ o. IsWithin o n) (sym e) tt

-- ---- parameters that are there once

-- no name is among those after it
abbrev later : List (List ℕ) → Bool
later [] = true
later (n ∷ ns) = not (list_any (bytes_eq n) ns) && later ns

abbrev later_numbers : List ℕ → Bool
later_numbers [] = true
later_numbers (n ∷ ns) = not (list_any (nat_eq n) ns) && later_numbers ns

abbrev apart : List ℕ → List ℕ → Bool
apart seen [] = true
apart seen (n ∷ ns) = not (list_any (nat_eq n) seen) && apart seen ns

any_push : (m : ℕ) (seen : List ℕ) (n : ℕ) → list_any (nat_eq m) (seen ++ n ∷ []) ≡ list_any (nat_eq m) seen || nat_eq m n
any_push m [] n = by (nat_eq m n)
  where
    by : (b : Bool) → (b || false) ≡ (false || b)
    by true = refl
    by false = refl
any_push m (s ∷ seen) n = ap (λ b. nat_eq m s || b) (any_push m seen n) ∙ by (nat_eq m s) (list_any (nat_eq m) seen) (nat_eq m n)
  where
    by : (a b c : Bool) → (a || (b || c)) ≡ ((a || b) || c)
    by true b c = refl
    by false b c = refl

number_swapped : (m n : ℕ) → nat_eq m n ≡ nat_eq n m
number_swapped m n = same_test _ _ (λ e. rw (number_same m n e) (number_itself n)) (λ e. rw (number_same n m e) (number_itself m))

apart_push : (seen : List ℕ) (n : ℕ) (ns : List ℕ) → apart (seen ++ n ∷ []) ns ≡ apart seen ns && not (list_any (nat_eq n) ns)
apart_push seen n [] = refl
apart_push seen n (m ∷ ns) =
    rw (any_push m seen n, apart_push seen n ns, number_swapped m n) (by (list_any (nat_eq m) seen) (nat_eq n m) (apart seen ns) (list_any (nat_eq n) ns))
  where
    by : (a b p q : Bool) → (not (a || b) && (p && not q)) ≡ ((not a && p) && not (b || q))
    by true b p q = refl
    by false true true q = refl
    by false true false q = refl
    by false false p q = refl

distinct_apart : (seen ns : List ℕ) → distinct_from seen ns ≡ apart seen ns && later_numbers ns
distinct_apart seen [] = refl
distinct_apart seen (n ∷ ns) =
    rw (distinct_apart (seen ++ n ∷ []) ns, apart_push seen n ns) (by (not (list_any (nat_eq n) seen)) (apart seen ns) (not (list_any (nat_eq n) ns)) (later_numbers ns))
  where
    by : (a p q r : Bool) → (a && ((p && q) && r)) ≡ ((a && p) && (q && r))
    by false p q r = refl
    by true false q r = refl
    by true true q r = refl

apart_none : (ns : List ℕ) → apart [] ns ≡ true
apart_none [] = refl
apart_none (n ∷ ns) = apart_none ns

any_alike : (texts : Texts) → NumbersOnce texts → (n : ℕ) (t : List ℕ) → slice_get texts n ≡ Some t → (ns : List ℕ) (ts : List (List ℕ)) → AreNumbered texts ns ts
    → list_any (nat_eq n) ns ≡ list_any (bytes_eq t) ts
any_alike texts once n t at [] [] are = refl
any_alike texts once n t at [] (p ∷ ps) are = absurd are
any_alike texts once n t at (k ∷ ks) [] are = absurd are
any_alike texts once n t at (k ∷ ks) (p ∷ ps) are = rw (alike texts once n k t p at are.0, any_alike texts once n t at ks ps are.1) refl

later_alike : (texts : Texts) → NumbersOnce texts → (ns : List ℕ) (ts : List (List ℕ)) → AreNumbered texts ns ts → later_numbers ns ≡ later ts
later_alike texts once [] [] are = refl
later_alike texts once [] (p ∷ ps) are = absurd are
later_alike texts once (k ∷ ks) [] are = absurd are
later_alike texts once (k ∷ ks) (p ∷ ps) are = rw (any_alike texts once k p are.0 ks ps are.1, later_alike texts once ks ps are.1) refl

distinct_later : (texts : Texts) → NumbersOnce texts → (ns : List ℕ) (ts : List (List ℕ)) → AreNumbered texts ns ts → distinct_from [] ns ≡ later ts
distinct_later texts once ns ts are = distinct_apart [] ns ∙ ap (λ b. b && later_numbers ns) (apart_none ns) ∙ later_alike texts once ns ts are

-- the parameters read, where no name occurs twice
abbrev head_if : Bool → Read → List Token → Option Head
head_if true r ts = Some (record { names = r.names; variadic = r.variadic; rest = drop r.len ts })
head_if false r ts = None

abbrev head_from : Option Read → List Token → Option Head
head_from None ts = None
head_from (Some r) ts = head_if (later r.names) r ts

with_before : (x y : Token) (rest : List Token) (r : Option Read) → with_name x.spelling (head_from r rest) ≡ head_from (read_before x.spelling r) (x ∷ y ∷ rest)
with_before x y rest None = refl
with_before x y rest (Some r) = by (later r.names) (list_any (bytes_eq x.spelling) r.names) refl refl
  where
    by : (b c : Bool) → later r.names ≡ b → list_any (bytes_eq x.spelling) r.names ≡ c
        → with_name x.spelling (head_if (later r.names) r rest) ≡ head_if (not (list_any (bytes_eq x.spelling) r.names) && later r.names) (record { names = x.spelling ∷ r.names; variadic = r.variadic; len = suc (suc r.len) }) (x ∷ y ∷ rest)
    by true true e f = rw (e, f) refl
    by true false e f = rw (e, f) refl
    by false true e f = rw (e, f) refl
    by false false e f = rw (e, f) refl

pub names_read : (ts : List Token) → names_from ts ≡ head_from (read_from ts) ts
names_read [] = refl
names_read (x ∷ []) = refl
names_read (x ∷ y ∷ rest) = by (is_spelled (codes "...") x) (is_identifier x) (is_spelled (codes ")") y) (is_spelled (codes ",") y) (ap (with_name x.spelling) (names_read rest) ∙ with_before x y rest (read_from rest))
  where
    by : (d a b c : Bool) → with_name x.spelling (names_from rest) ≡ head_from (read_before x.spelling (read_from rest)) (x ∷ y ∷ rest)
        → (if d then if b then Some (record { names = []; variadic = true; rest = rest }) else None
        else if not a then None else if b then Some (record { names = x.spelling ∷ []; variadic = false; rest = rest }) else if c then with_name x.spelling (names_from rest) else None)
        ≡ head_from (read_by d a b c x.spelling (read_from rest)) (x ∷ y ∷ rest)
    by true a true c e = refl
    by true a false c e = refl
    by false false b c e = refl
    by false true true c e = refl
    by false true false true e = e
    by false true false false e = refl

same_by : (texts : Texts) (m : Option NumberedMacro) (a b : Option Macro) → a ≡ b → AreSame texts m a → AreSame texts m b
same_by texts m a b e h = subst (AreSame texts m) e h

like_if : (b : Bool) (r : Read) (ts : List Token) → function_like (head_if b r ts) ≡ macro_if b r.names r.variadic (drop r.len ts)
like_if true r ts = refl
like_if false r ts = refl

like_head : (x : Token) (rest : List Token) → is_spelled (codes ")") x ≡ false → head_of (x ∷ rest) ≡ head_from (read_from (x ∷ rest)) (x ∷ rest)
like_head x rest e = ap (λ b. if b then Some (record { names = []; variadic = false; rest = rest }) else names_from (x ∷ rest)) e ∙ names_read (x ∷ rest)

-- the macro of the parameters read is the definition's
pub like_read : (texts : Texts) → NumbersOnce texts → (numbers : List ℕ) (variadic : Bool) (len : ℕ) (x : Token) (rest : List Token) → is_spelled (codes ")") x ≡ false
    → IsRead texts numbers variadic len (read_from (x ∷ rest)) → (m : Option NumberedMacro)
    → ((names : List (List ℕ)) → AreNumbered texts numbers names → AreSame texts m (macro_if (distinct_from [] numbers) names variadic (drop len (x ∷ rest))))
    → AreSame texts m (function_like (head_of (x ∷ rest)))
like_read texts once numbers variadic len x rest e h m made = by (read_from (x ∷ rest)) refl h
  where
    by : (o : Option Read) → read_from (x ∷ rest) ≡ o → IsRead texts numbers variadic len o → AreSame texts m (function_like (head_of (x ∷ rest)))
    by None f k = absurd k
    by (Some r) f k =
        let whole : function_like (head_of (x ∷ rest)) ≡ macro_if (later r.names) r.names r.variadic (drop r.len (x ∷ rest)) =
        ap function_like (like_head x rest e ∙ ap (λ o. head_from o (x ∷ rest)) f) ∙ like_if (later r.names) r (x ∷ rest) in
        let same : macro_if (distinct_from [] numbers) r.names variadic (drop len (x ∷ rest)) ≡ macro_if (later r.names) r.names r.variadic (drop r.len (x ∷ rest)) =
        ap (λ b. macro_if b r.names variadic (drop len (x ∷ rest))) (distinct_later texts once numbers r.names k.0)
        ∙ ap (λ v. macro_if (later r.names) r.names v (drop len (x ∷ rest))) k.1 ∙ ap (λ n. macro_if (later r.names) r.names r.variadic (drop n (x ∷ rest))) k.2 in
        same_by texts m _ _ (same ∙ sym whole) (made r.names k.0)

pub like_none : (texts : Texts) (x : Token) (rest : List Token) → is_spelled (codes ")") x ≡ false → read_from (x ∷ rest) ≡ None → AreSame texts None (function_like (head_of (x ∷ rest)))
like_none texts x rest e f = same_by texts None None _ (sym (ap function_like (like_head x rest e ∙ ap (λ o. head_from o (x ∷ rest)) f))) tt

-- a `)` directly after the `(`
pub like_empty : (x : Token) (rest : List Token) → is_spelled (codes ")") x ≡ true → function_like (head_of (x ∷ rest)) ≡ macro_if true [] false rest
like_empty x rest e = ap (λ b. function_like (if b then Some (record { names = []; variadic = false; rest = rest }) else names_from (x ∷ rest))) e

-- the same where the list is known by its first token
pub front_of : (ts : List Token) (x : Token) → x ≡ get_or ts 0 x → 1 ≤ length ts → ts ≡ x ∷ drop 1 ts
front_of ts x at some = drop_more ts 0 x (omega (arith, some)) ∙ ap (λ u. u ∷ drop 1 ts) (sym at)

module _ (texts : Texts) (ts : List Token) (x : Token) (at : ts ≡ x ∷ drop 1 ts) where
  pub reads_some : NumbersOnce texts → (numbers : List ℕ) (variadic : Bool) (len : ℕ) → is_spelled (codes ")") x ≡ false
      → IsRead texts numbers variadic len (read_from ts) → (m : Option NumberedMacro) (body : List Token) → body ≡ drop len ts
      → ((names : List (List ℕ)) → AreNumbered texts numbers names → AreSame texts m (macro_if (distinct_from [] numbers) names variadic body))
      → AreSame texts m (function_like (head_of ts))
  reads_some once numbers variadic len e h m body is made =
      subst (λ t. IsRead texts numbers variadic len (read_from t)
      → ((names : List (List ℕ)) → AreNumbered texts numbers names → AreSame texts m (macro_if (distinct_from [] numbers) names variadic (drop len t)))
      → AreSame texts m (function_like (head_of t))) (sym at) (λ k f. like_read texts once numbers variadic len x (drop 1 ts) e k m f) h
      (λ names are. subst (λ b. AreSame texts m (macro_if (distinct_from [] numbers) names variadic b)) is (made names are))

  pub reads_none : is_spelled (codes ")") x ≡ false → read_from ts ≡ None → AreSame texts None (function_like (head_of ts))
  reads_none e f = subst (λ t. read_from t ≡ None → AreSame texts None (function_like (head_of t))) (sym at) (λ g. like_none texts x (drop 1 ts) e g) f

  pub reads_empty : is_spelled (codes ")") x ≡ true → (m : Option NumberedMacro) (items : List ℕ) → items ≡ [] → (body : List Token) → body ≡ drop 1 ts
      → ((names : List (List ℕ)) → AreNumbered texts items names → AreSame texts m (macro_if (distinct_from [] items) names false body))
      → AreSame texts m (function_like (head_of ts))
  reads_empty e m items none body is made =
      let k : AreSame texts m (macro_if true [] false body) =
      subst (λ l. ((names : List (List ℕ)) → AreNumbered texts l names → AreSame texts m (macro_if (distinct_from [] l) names false body)) → AreSame texts m (macro_if true [] false body)) (sym none) (λ f. f [] tt) made in
      same_by texts m _ _ (ap (macro_if true [] false) is ∙ sym (like_empty x (drop 1 ts) e) ∙ ap (λ t. function_like (head_of t)) (sym at)) k
