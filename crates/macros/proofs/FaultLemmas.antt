-- The faults of a definition, by numbers and by names.
use Rattle.std.proofs.Common.{◌≡◌, ℕ, suc, List, [], ◌∷◌, ◌++◌, map, Bool, true, false, not, cond, ◌&&◌, ◌||◌, length, Option, Some, None, is_some, refl, ap, sym, ◌∙◌, slice_get, codes}
use Rattle.std.specs.List.{list_any}
use Rattle.std.specs.Str.{bytes_eq}
use Rattle.srcset.specs.NameTable.{Texts, NumbersOnce}
use Rattle.phases.specs.Token.{Token}
use Rattle.macros.specs.Macro.{Macro, Macros, Parameters, macro_named, is_reserved, is_identifier, is_hash, is_joint, is_spelled}
use Rattle.macros.specs.Definition as d
use Rattle.macros.specs.Table.{AreNumbered, AreParameters, AreSame, BodyToken, IsMacro, IsTable, NumberedMacro, NumberedParameters, Table, numbered, numbers_of, is_variadic, with_parameter}
use Rattle.macros.specs.inside.Faults as by_number
use Rattle.macros.proofs.TableLemmas.{alike, same_some}

pub unequal : (a b : List BodyToken) → (length a ≡ length b → ⊥) → false ≡ by_number.same_all a b
unequal [] [] h = absurd (h refl)
unequal [] (y ∷ ys) h = refl
unequal (x ∷ xs) [] h = refl
unequal (x ∷ xs) (y ∷ ys) h = by (by_number.same_token x y) (unequal xs ys (λ e. h (ap suc e)))
  where
    by : (b : Bool) → false ≡ by_number.same_all xs ys → false ≡ b && by_number.same_all xs ys
    by true e = e
    by false e = refl

-- ---- lists of names

length_push : (ns : List (List ℕ)) → length (ns ++ codes "__VA_ARGS__" ∷ []) ≡ suc (length ns)
length_push [] = refl
length_push (n ∷ ns) = ap suc (length_push ns)

module _ (texts : Texts) (once : NumbersOnce texts) where
  any_reserved : (ns : List ℕ) (ts : List (List ℕ)) → AreNumbered texts ns ts → list_any (by_number.is_number_reserved texts) ns ≡ list_any is_reserved ts
  any_reserved [] [] are = refl
  any_reserved [] (p ∷ ps) are = absurd are
  any_reserved (k ∷ ks) [] are = absurd are
  any_reserved (k ∷ ks) (p ∷ ps) are = rw (ap by_number.is_text_reserved are.0, any_reserved ks ps are.1) refl

  same_length : (ns : List ℕ) (ts : List (List ℕ)) → AreNumbered texts ns ts → length ns ≡ length ts
  same_length [] [] are = refl
  same_length [] (p ∷ ps) are = absurd are
  same_length (k ∷ ks) [] are = absurd are
  same_length (k ∷ ks) (p ∷ ps) are = ap suc (same_length ks ps are.1)

  are_names : (p : Option NumberedParameters) (q : Option Parameters) → AreParameters texts p q → AreNumbered texts (numbers_of p) (d.identifiers_of q)
  are_names None None h = tt
  are_names None (Some q) h = absurd h
  are_names (Some p) None h = absurd h
  are_names (Some p) (Some q) h = h.0

  same_places : (p : Option NumberedParameters) (q : Option Parameters) → AreParameters texts p q → by_number.places_of p ≡ length (d.names_of q)
  same_places None None h = refl
  same_places None (Some q) h = absurd h
  same_places (Some p) None h = absurd h
  same_places (Some p) (Some q) h = ap (λ v. cond v (suc (length p.names)) (length p.names)) h.1 ∙ by q.variadic (same_length p.names q.names h.0)
    where
      by : (v : Bool) → length p.names ≡ length q.names → cond v (suc (length p.names)) (length p.names) ≡ length (d.with_variable v q.names)
      by true e = ap suc e ∙ sym (length_push q.names)
      by false e = e

  both_variadic : (p : Option NumberedParameters) (q : Option Parameters) → AreParameters texts p q → is_variadic p ≡ d.is_variadic q
  both_variadic None None h = refl
  both_variadic None (Some q) h = absurd h
  both_variadic (Some p) None h = absurd h
  both_variadic (Some p) (Some q) h = h.1

  both_some : (p : Option NumberedParameters) (q : Option Parameters) → AreParameters texts p q → is_some p ≡ is_some q
  both_some None None h = refl
  both_some None (Some q) h = absurd h
  both_some (Some p) None h = absurd h
  both_some (Some p) (Some q) h = refl

  -- the same numbers where the same names are
  same_texts : (ns ms : List ℕ) (ts us : List (List ℕ)) → AreNumbered texts ns ts → AreNumbered texts ms us → bytes_eq ns ms ≡ d.same_names ts us
  same_texts [] [] [] [] a b = refl
  same_texts [] [] [] (u ∷ us) a b = absurd b
  same_texts [] [] (t ∷ ts) us a b = absurd a
  same_texts [] (m ∷ ms) [] [] a b = absurd b
  same_texts [] (m ∷ ms) [] (u ∷ us) a b = refl
  same_texts [] (m ∷ ms) (t ∷ ts) us a b = absurd a
  same_texts (n ∷ ns) [] [] us a b = absurd a
  same_texts (n ∷ ns) [] (t ∷ ts) [] a b = refl
  same_texts (n ∷ ns) [] (t ∷ ts) (u ∷ us) a b = absurd b
  same_texts (n ∷ ns) (m ∷ ms) [] us a b = absurd a
  same_texts (n ∷ ns) (m ∷ ms) (t ∷ ts) [] a b = absurd b
  same_texts (n ∷ ns) (m ∷ ms) (t ∷ ts) (u ∷ us) a b =
      rw (sym (alike texts once n m t u a.0 b.0), sym (same_texts ns ms ts us a.1 b.1)) refl

swapped : (a b : Bool) → (a && b) ≡ (b && a)
swapped true true = refl
swapped true false = refl
swapped false true = refl
swapped false false = refl

module _ (texts : Texts) (once : NumbersOnce texts) where
  same_parameters_are : (p q : Option NumberedParameters) (r s : Option Parameters) → AreParameters texts p r → AreParameters texts q s → by_number.same_numbered p q ≡ d.same_parameters r s
  same_parameters_are None None None None a b = refl
  same_parameters_are None None None (Some s) a b = absurd b
  same_parameters_are None None (Some r) s a b = absurd a
  same_parameters_are None (Some q) None None a b = absurd b
  same_parameters_are None (Some q) None (Some s) a b = refl
  same_parameters_are None (Some q) (Some r) s a b = absurd a
  same_parameters_are (Some p) None None s a b = absurd a
  same_parameters_are (Some p) None (Some r) None a b = refl
  same_parameters_are (Some p) None (Some r) (Some s) a b = absurd b
  same_parameters_are (Some p) (Some q) None s a b = absurd a
  same_parameters_are (Some p) (Some q) (Some r) None a b = absurd b
  same_parameters_are (Some p) (Some q) (Some r) (Some s) a b =
      ap (λ v. d.both_or_neither v q.variadic && bytes_eq p.names q.names) a.1 ∙ ap (λ v. d.both_or_neither r.variadic v && bytes_eq p.names q.names) b.1
      ∙ ap (λ v. d.both_or_neither r.variadic s.variadic && v) (same_texts texts once p.names q.names r.names s.names a.0 b.0)
      ∙ swapped (d.both_or_neither r.variadic s.variadic) (d.same_names r.names s.names)

-- ---- replacement lists

any_replaced : (names : List (List ℕ)) (xs : List Token) → list_any by_number.is_replaced (map (with_parameter names) xs) ≡ list_any (is_spelled (codes "__VA_ARGS__")) xs
any_replaced names [] = refl
any_replaced names (x ∷ xs) = ap (λ b. is_spelled (codes "__VA_ARGS__") x || b) (any_replaced names xs)

next_some : (o : Option ℕ) → is_some (d.next_number o) ≡ is_some o
next_some None = refl
next_some (Some i) = refl

some_among : (t : List ℕ) (ns : List (List ℕ)) → list_any (bytes_eq t) ns ≡ is_some (d.number_among t ns)
some_among t [] = refl
some_among t (n ∷ ns) = by (bytes_eq t n) (some_among t ns)
  where
    by : (b : Bool) → list_any (bytes_eq t) ns ≡ is_some (d.number_among t ns)
        → (b || list_any (bytes_eq t) ns) ≡ is_some (cond b (Some 0) (d.next_number (d.number_among t ns)))
    by true e = refl
    by false e = e ∙ sym (next_some (d.number_among t ns))

some_parameter : (names : List (List ℕ)) (x : Token) → d.is_parameter names x ≡ is_some (d.parameter_among names x)
some_parameter names x = by (is_identifier x)
  where
    by : (b : Bool) → (b && list_any (bytes_eq x.spelling) names) ≡ is_some (cond b (d.number_among x.spelling names) None)
    by true = some_among x.spelling names
    by false = refl

hash_behind : (names : List (List ℕ)) (x : Token) (xs : List Token) → d.has_lone_hash names (x ∷ xs) ≡ by_number.lone_hash_after (is_hash x) (map (with_parameter names) xs)
hash_behind names x [] = refl
hash_behind names x (y ∷ rest) = rw (some_parameter names y, hash_behind names y rest) refl

lone_hash : (names : List (List ℕ)) (xs : List Token) → d.has_lone_hash names xs ≡ by_number.lone_hash_after false (map (with_parameter names) xs)
lone_hash names [] = refl
lone_hash names (x ∷ xs) = hash_behind names x xs

begins : (names : List (List ℕ)) (xs : List Token) → d.begins_with_joint xs ≡ by_number.begins_joint (map (with_parameter names) xs)
begins names [] = refl
begins names (x ∷ xs) = refl

ends_behind : (names : List (List ℕ)) (x : Token) (xs : List Token) → d.ends_with_joint (x ∷ xs) ≡ by_number.ends_joint (is_joint x) (map (with_parameter names) xs)
ends_behind names x [] = refl
ends_behind names x (y ∷ rest) = ends_behind names y rest

ends : (names : List (List ℕ)) (xs : List Token) → d.ends_with_joint xs ≡ by_number.ends_joint false (map (with_parameter names) xs)
ends names [] = refl
ends names (x ∷ xs) = ends_behind names x xs

and_assoc : (a b c : Bool) → ((a && b) && c) ≡ (a && (b && c))
and_assoc true b c = refl
and_assoc false b c = refl

same_tokens_are : (ps qs : List (List ℕ)) (xs ys : List Token) → by_number.same_all (map (with_parameter ps) xs) (map (with_parameter qs) ys) ≡ d.same_tokens xs ys
same_tokens_are ps qs [] [] = refl
same_tokens_are ps qs [] (y ∷ ys) = refl
same_tokens_are ps qs (x ∷ xs) [] = refl
same_tokens_are ps qs (x ∷ xs) (y ∷ ys) =
    ap (λ b. (bytes_eq x.spelling y.spelling && d.same_mark x y) && b) (same_tokens_are ps qs xs ys)

same_bodies_are : (ps qs : List (List ℕ)) (xs ys : List Token) → by_number.same_list (map (with_parameter ps) xs) (map (with_parameter qs) ys) ≡ d.same_body xs ys
same_bodies_are ps qs [] [] = refl
same_bodies_are ps qs [] (y ∷ ys) = refl
same_bodies_are ps qs (x ∷ xs) [] = refl
same_bodies_are ps qs (x ∷ xs) (y ∷ ys) = ap (λ b. bytes_eq x.spelling y.spelling && b) (same_tokens_are ps qs xs ys)

-- ---- each test, and the first that holds

module _ (texts : Texts) (once : NumbersOnce texts) where
  same_is : (a b : NumberedMacro) (m n : Macro) → IsMacro texts a m → IsMacro texts b n → by_number.same_macro a b ≡ d.is_same m n
  same_is a b m n h k =
      rw (
        same_parameters_are texts once a.parameters b.parameters m.parameters n.parameters h.parameters_are k.parameters_are,
        h.body_is,
        k.body_is,
        same_bodies_are (d.names_of m.parameters) (d.names_of n.parameters) m.body n.body,
      ) refl

  differs_is : (a : Option NumberedMacro) (b : NumberedMacro) (m : Option Macro) (n : Macro) → AreSame texts a m → IsMacro texts b n → by_number.differs a b ≡ d.differs m n
  differs_is None b None n h k = refl
  differs_is None b (Some m) n h k = absurd h
  differs_is (Some a) b None n h k = absurd h
  differs_is (Some a) b (Some m) n h k = ap not (same_is a b m n h k)

  module _ (table : Table) (macros : Macros) (is : IsTable texts table macros) (n : ℕ) (name : List ℕ) (at : slice_get texts n ≡ Some name)
      (x : NumberedMacro) (m : Macro) (h : IsMacro texts x m) where
    pub fault_is : by_number.fault texts table n x ≡ d.fault_of macros name m
    fault_is =
        let names = d.names_of m.parameters in
        let identifiers = d.identifiers_of m.parameters in
        let are = are_names texts once x.parameters m.parameters h.parameters_are in
        let same = is.known n name at in
        let reserved : by_number.has_reserved texts n x ≡ d.has_reserved name m =
        rw (ap by_number.is_text_reserved at, any_reserved texts once (numbers_of x.parameters) identifiers are) refl in
        let variable : by_number.is_variable_outside x ≡ d.is_variable_outside m =
        rw (both_variadic texts once x.parameters m.parameters h.parameters_are, h.body_is, any_replaced names m.body) refl in
        let hash : by_number.is_hash_lone x ≡ d.is_hash_wrong m =
        rw (both_some texts once x.parameters m.parameters h.parameters_are, h.body_is, lone_hash names m.body) refl in
        let joint : by_number.is_joint_amiss x ≡ d.is_joint_wrong m = rw (h.body_is, begins names m.body, ends names m.body) refl in
        let many = same_places texts once x.parameters m.parameters h.parameters_are in
        let differ = differs_is (numbered table n) x (macro_named macros name) m same h in
        let known = same_some texts (numbered table n) (macro_named macros name) same in
        (λ j. by_number.first_fault (reserved j) (variable j) (hash j) (joint j) (many j) (differ j) (known j) (is.count j))
