-- Initialisers that the checker's rules take are typed (6.7.9).
use Rattle.std.proofs.Common.{◌≡◌, ◌≤◌, ℕ, ◌+◌, Bool, true, false, ◌&&◌, nat_eq, nat_le, List, [], ◌∷◌, ◌++◌, length, Option, Some, None, refl, sym, ap, ◌∙◌, subst, arith}
use Rattle.std.specs.Prelude.{slice_get}
use Rattle.std.proofs.lemmas.Bool.{false≢true, and_from}
use Rattle.std.proofs.lemmas.Bool.Decides.{nat_tests}
use Rattle.std.proofs.lemmas.List.{length-append}
use Rattle.srcset.specs.declared.code.Code.TheVariants as code
use Rattle.srcset.specs.declared.refusal.Pos.{Pos}
use Rattle.ctypes.specs.declared.types.IntType.{IntType}
use Rattle.tree.specs.Tree.{Tree, hole, identifier, constant, string, paren, call, subscript, after, before, prefix, size_of, size_of_type, cast, binary, conditional, assign, Init, init_hole, one_init, braced_init, Inits, no_inits, and_init}
use Rattle.typing_spec.specs.Types.{same_type}
use Rattle.typing_spec.specs.Program as typed
use Rattle.typing_spec.specs.Program.{Initialiser, Initialisers}
use Rattle.typing_spec.specs.Verdict.{Verdict, fine, breaks, both, then_check, provided, refuse_if, each, IfFine}
use Rattle.typing_spec.specs.Scope.{Scope, literal_of, strings}
use Rattle.typing_spec.specs.Expressions.{typing, worth, position}
use Rattle.typing_spec.specs.Initialisers as rules
use Rattle.typing_spec.specs.Initialisers.{wanted, an_array, one_number, is_character, has_characters, exceeds, text_alone, count_of, strings_of, strings_of_all, past_init, initialiser, initialisers}
use Rattle.typing_spec.specs.Nodes.{type_of_value}
use Rattle.typing_spec.specs.Uses.{uses_in_initialiser, uses_in_initialisers}
use Rattle.typing_spec.specs.WellTyped.{some_number, value_is_typed, text_fits, initialisers_in, initialiser_is_typed, initialisers_are_typed}
use Rattle.lower_wf.proofs.Verdicts.{then_some, both_some, tested}
use Rattle.lower_wf.proofs.Ground as ground
use Rattle.lower_wf.proofs.Ground.{Setting, Present, first, second, same_self, Names, TextsEnd, text_in, IsGood, IsWorth, same_some}
use Rattle.lower_wf.proofs.Effects.{good_worth}
use Rattle.lower_wf.proofs.Typings.{get_last, typing_good, front, apart}

fits_room : (n r : ℕ) → exceeds n (Some r) ≡ false → n ≤ r
fits_room n r h = grind (arith, nat_tests, h)

le_test : (n r : ℕ) → n ≤ r → nat_le n r ≡ true
le_test n r h = grind (arith, nat_tests, h)

-- ---- the requirements of an array of m elements on its initialiser, where its room is known or not

abbrev pub TextRoom : Scope → Option ℕ → ℕ → Tree → Type 0
TextRoom s room m (string own n) = exceeds (length (literal_of s n)) room ≡ false → length (literal_of s n) ≤ m
TextRoom s room m e = Unit {0}

abbrev pub ListRoom : Option ℕ → ℕ → Inits → Type 0
ListRoom room m parts = exceeds (count_of parts) room ≡ false → count_of parts ≤ m

abbrev pub BracedRoom : Scope → Option ℕ → ℕ → Bool → Inits → Option Tree → Type 0
BracedRoom s room m true parts (Some e) = TextRoom s room m e
BracedRoom s room m true parts None = ListRoom room m parts
BracedRoom s room m false parts e = ListRoom room m parts

abbrev pub Room : Scope → Option ℕ → ℕ → Bool → Init → Type 0
Room s room m b init_hole = Unit {0}
Room s room m b (one_init e) = TextRoom s room m e
Room s room m b (braced_init at parts) = BracedRoom s room m b parts (text_alone parts)

text_known : (s : Scope) (n : ℕ) (e : Tree) → TextRoom s (Some n) n e
text_known s n (string own k) = λ h. fits_room (length (literal_of s k)) n h
text_known s n hole = tt
text_known s n (identifier at k) = tt
text_known s n (constant at t v) = tt
text_known s n (paren e) = tt
text_known s n (call at f args) = tt
text_known s n (subscript at a i) = tt
text_known s n (after at o a) = tt
text_known s n (before at o a) = tt
text_known s n (prefix at o a) = tt
text_known s n (size_of at a) = tt
text_known s n (size_of_type at t) = tt
text_known s n (cast at t a) = tt
text_known s n (binary at o a b) = tt
text_known s n (conditional at c a b) = tt
text_known s n (assign at o a b) = tt

braced_known : (s : Scope) (n : ℕ) (b : Bool) (parts : Inits) (e : Option Tree) → BracedRoom s (Some n) n b parts e
braced_known s n true parts (Some e) = text_known s n e
braced_known s n true parts None = λ h. fits_room (count_of parts) n h
braced_known s n false parts e = λ h. fits_room (count_of parts) n h

pub room_known : (s : Scope) (n : ℕ) (b : Bool) (i : Init) → Room s (Some n) n b i
room_known s n b init_hole = tt
room_known s n b (one_init e) = text_known s n e
room_known s n b (braced_init at parts) = braced_known s n b parts (text_alone parts)

module _ (W : Setting) where
  abbrev V : typed.Value → Bool
  V e = value_is_typed W.program W.function e

  abbrev IsShort : ℕ → Option (List ℕ) → Type 0
  IsShort m text = (t : List ℕ) → text ≡ Some t → length t ≤ m + 1

  -- an initialiser's form, and the lengths of its object
  abbrev pub Shape : List ℕ → Initialiser → Type 0
  Shape l (typed.one_value u e) = l ≡ []
  Shape [] (typed.text k) = ⊥
  Shape (m ∷ []) (typed.text k) = IsShort m (slice_get W.program.literals k)
  Shape (m ∷ (n ∷ l)) (typed.text k) = ⊥
  Shape l (typed.in_braces i) = Shape l i
  Shape [] (typed.list is) = ⊥
  Shape (n ∷ l) (typed.list is) = initialisers_in is ≤ n

  abbrev pub InitGood : IntType → List ℕ → Initialiser → Type 0
  InitGood t l x = (Present W.program (uses_in_initialiser x) → initialiser_is_typed W.program W.function t l x ≡ true) × Shape l x

  abbrev pub PartsGood : IntType → List ℕ → Inits → Initialisers → Type 0
  PartsGood t l parts is = (Present W.program (uses_in_initialisers is) → initialisers_are_typed W.program W.function t l is ≡ true) × (initialisers_in is ≡ count_of parts)

  number_good : (s : Scope) (t : IntType) (e : Tree) → Names W s → TextsEnd W (s.literals ++ strings e) → IfFine (InitGood t []) (rules.number_from s t e)
  number_good s t e N T =
      then_some (IsGood W) (InitGood t []) (typing s e) (λ x. then_check (worth code.VoidAssigned (position x) x) (rules.of_number t)) (typing_good W s e N T) (λ x g.
      then_some (IsWorth W) (InitGood t []) (worth code.VoidAssigned (position x) x) (rules.of_number t) (good_worth W code.VoidAssigned (position x) x g) (λ w k.
      (λ u. and_from (same_type t t) (nat_eq 0 0 && (V w.e && some_number (type_of_value w.e))) (same_self t) (ground.number W w.type w.e k u), refl)))

  character : (t : IntType) (l : List ℕ) → has_characters t l ≡ true → (l ≡ []) × (is_character t ≡ true)
  character t [] h = (refl, h)
  character t (n ∷ l) h = absurd (false≢true h)

  text_typed : (t : IntType) (m : ℕ) (text : List ℕ) (o : Option (List ℕ)) → o ≡ Some (text ++ 0 ∷ []) → is_character t ≡ true → length text ≤ m → (text_fits t (m ∷ []) o ≡ true) × IsShort m o
  text_typed t m text o e c h =
      let long : length (text ++ 0 ∷ []) ≡ length text + 1 = length-append text (0 ∷ []) in
      let less : length (text ++ 0 ∷ []) ≤ m + 1 = omega (arith, long, h) in (
        ap (text_fits t (m ∷ [])) e ∙ and_from (is_character t) (nat_le (length (text ++ 0 ∷ [])) (m + 1)) c (le_test (length (text ++ 0 ∷ [])) (m + 1) less),
        λ u f. subst (λ x. length x ≤ m + 1) (same_some (text ++ 0 ∷ []) u (sym e ∙ f)) less,
      )

  text_good : (s : Scope) (at : Pos) (t : IntType) (room : Option ℕ) (m n : ℕ) → s.texts ≡ W.texts → TextsEnd W (s.literals ++ n ∷ []) → is_character t ≡ true → (exceeds (length (literal_of s n)) room ≡ false → length (literal_of s n) ≤ m) →
      IfFine (InitGood t (m ∷ [])) (rules.text_from s at room n)
  text_good s at t room m n e T c h =
      tested (InitGood t (m ∷ [])) (exceeds (length (literal_of s n)) room) code.TooManyInitialisers at (fine (typed.text (length s.literals))) (λ f.
      let z = text_typed t m (text_in W.texts n) (slice_get W.program.literals (length s.literals)) (T (length s.literals) n (get_last s.literals n)) c (subst (λ x. length (text_in x n) ≤ m) e (h f)) in
      (λ u. z.0, z.1))

  not_braced_good : (P : Initialiser → Type 0) (top : Bool) (at : Pos) → IfFine P (rules.not_braced top at)
  not_braced_good P true at = tt
  not_braced_good P false at = tt

  text_if_good : (b : Bool) (s : Scope) (at own : Pos) (t : IntType) (room : Option ℕ) (m : ℕ) (l : List ℕ) (top : Bool) (n : ℕ) → b ≡ has_characters t l → s.texts ≡ W.texts → TextsEnd W (s.literals ++ n ∷ []) →
      (exceeds (length (literal_of s n)) room ≡ false → length (literal_of s n) ≤ m) → IfFine (InitGood t (m ∷ l)) (rules.text_if b top s at own room n)
  text_if_good true s at own t room m l top n b e T h =
      let c = character t l (sym b) in subst (λ k. IfFine (InitGood t (m ∷ k)) (rules.text_from s own room n)) (sym c.0) (text_good s own t room m n e T c.1 h)
  text_if_good false s at own t room m l top n b e T h = not_braced_good (InitGood t (m ∷ l)) top at

  array_good : (s : Scope) (at : Pos) (t : IntType) (room : Option ℕ) (m : ℕ) (l : List ℕ) (top : Bool) (e : Tree) → s.texts ≡ W.texts → TextsEnd W (s.literals ++ strings e) → TextRoom s room m e → IfFine (InitGood t (m ∷ l)) (rules.array_from s at t room l top e)
  array_good s at t room m l top (string own n) e T h = text_if_good (has_characters t l) s at own t room m l top n refl e T h
  array_good s at t room m l top hole e T h = not_braced_good (InitGood t (m ∷ l)) top at
  array_good s at t room m l top (identifier p n) e T h = not_braced_good (InitGood t (m ∷ l)) top at
  array_good s at t room m l top (constant p u v) e T h = not_braced_good (InitGood t (m ∷ l)) top at
  array_good s at t room m l top (paren a) e T h = not_braced_good (InitGood t (m ∷ l)) top at
  array_good s at t room m l top (call p f as0) e T h = not_braced_good (InitGood t (m ∷ l)) top at
  array_good s at t room m l top (subscript p a i) e T h = not_braced_good (InitGood t (m ∷ l)) top at
  array_good s at t room m l top (after p o a) e T h = not_braced_good (InitGood t (m ∷ l)) top at
  array_good s at t room m l top (before p o a) e T h = not_braced_good (InitGood t (m ∷ l)) top at
  array_good s at t room m l top (prefix p o a) e T h = not_braced_good (InitGood t (m ∷ l)) top at
  array_good s at t room m l top (size_of p a) e T h = not_braced_good (InitGood t (m ∷ l)) top at
  array_good s at t room m l top (size_of_type p u) e T h = not_braced_good (InitGood t (m ∷ l)) top at
  array_good s at t room m l top (cast p u a) e T h = not_braced_good (InitGood t (m ∷ l)) top at
  array_good s at t room m l top (binary p o a b) e T h = not_braced_good (InitGood t (m ∷ l)) top at
  array_good s at t room m l top (conditional p c a b) e T h = not_braced_good (InitGood t (m ∷ l)) top at
  array_good s at t room m l top (assign p o a b) e T h = not_braced_good (InitGood t (m ∷ l)) top at

  braced : (t : IntType) (l : List ℕ) (v : Verdict Initialiser) → IfFine (InitGood t l) v → IfFine (InitGood t l) (then_check v (λ i. fine (typed.in_braces i)))
  braced t l v h = then_some (InitGood t l) (InitGood t l) v (λ i. fine (typed.in_braces i)) h (λ i g. g)

  braced_number_good : (s : Scope) (p : Pos) (t : IntType) (parts : Inits) → Names W s → TextsEnd W (s.literals ++ strings_of_all parts) → IfFine (InitGood t []) (rules.number_in_braces s p t parts)
  braced_number_good s p t no_inits N T = tt
  braced_number_good s p t (and_init init_hole is) N T = tt
  braced_number_good s p t (and_init (braced_init q ps) is) N T = tt
  braced_number_good s p t (and_init (one_init e) no_inits) N T = braced t [] (rules.number_from s t e) (number_good s t e N (front W s.literals (strings e) [] T))
  braced_number_good s p t (and_init (one_init e) (and_init i is)) N T = refused_number (rules.number_from s t e)
    where
      refused_number : (v : Verdict Initialiser) → IfFine (InitGood t []) (both v (breaks code.TooManyInitialisers p) (λ x d. fine d))
      refused_number (fine x) = tt
      refused_number v = tt

  -- a text alone in braces is the list's one part
  alone : (parts : Inits) (e : Tree) (rest : List ℕ) → TextsEnd W (rest ++ strings_of_all parts) → text_alone parts ≡ Some e → TextsEnd W (rest ++ strings e)
  alone (and_init (one_init (string own n)) no_inits) e rest T h = subst (λ x. TextsEnd W (rest ++ strings x)) (same_some (string own n) e h) (front W rest (n ∷ []) [] T)
  alone parts e rest T h = absurd (let z : ⊥ = cc in z)

  list_good : (p : Pos) (t : IntType) (room : Option ℕ) (m : ℕ) (l : List ℕ) (parts : Inits) (v : Verdict Initialisers) → IfFine (PartsGood t l parts) v → ListRoom room m parts → IfFine (InitGood t (m ∷ l)) (rules.in_list p room parts v)
  list_good p t room m l parts v g h =
      then_some (PartsGood t l parts) (InitGood t (m ∷ l)) v (λ is. provided (rules.fits_room p room parts) (fine (typed.list is))) g (λ is k.
      by_room (rules.is_none parts) (exceeds (count_of parts) room) refl is k)
    where
      by_room : (a b : Bool) → b ≡ exceeds (count_of parts) room → (is : Initialisers) → PartsGood t l parts is →
          IfFine (InitGood t (m ∷ l)) (provided (each (refuse_if a code.BadInitialiserForm p) (refuse_if b code.TooManyInitialisers p)) (fine (typed.list is)))
      by_room true b e is k = tt
      by_room false true e is k = tt
      by_room false false e is k =
          let less : initialisers_in is ≤ m = subst (λ n. n ≤ m) (sym k.1) (h (sym e)) in
          (λ u. and_from (nat_le (initialisers_in is) m) (initialisers_are_typed W.program W.function t l is) (le_test (initialisers_in is) m less) (k.0 u), less)

  list_or_text_good : (b : Bool) (s : Scope) (at p : Pos) (t : IntType) (room : Option ℕ) (m : ℕ) (l : List ℕ) (parts : Inits) (o : Option Tree) (v : Verdict Initialisers) → s.texts ≡ W.texts → TextsEnd W (s.literals ++ strings_of_all parts) →
      o ≡ text_alone parts → BracedRoom s room m b parts o → IfFine (PartsGood t l parts) v → IfFine (InitGood t (m ∷ l)) (rules.list_or_text b s at t room l o (rules.in_list p room parts v))
  list_or_text_good true s at p t room m l parts (Some e) v x T o h g =
      braced t (m ∷ l) (rules.array_from s at t room l false e) (array_good s at t room m l false e x (alone parts e s.literals T (sym o)) h)
  list_or_text_good true s at p t room m l parts None v x T o h g = list_good p t room m l parts v g h
  list_or_text_good false s at p t room m l parts o v x T f h g = list_good p t room m l parts v g h

  mutual
    pub initialiser_good : (s : Scope) (at : Pos) (t : IntType) (l : List ℕ) (top : Bool) (i : Init) → Names W s → TextsEnd W (s.literals ++ strings_of i) → IfFine (InitGood t l) (initialiser s at t (wanted l) top i)
    initialiser_good s at t [] top init_hole N T = tt
    initialiser_good s at t [] top (one_init e) N T = number_good s t e N T
    initialiser_good s at t [] top (braced_init p parts) N T = braced_number_good s p t parts N T
    initialiser_good s at t (n ∷ l) top init_hole N T = tt
    initialiser_good s at t (n ∷ l) top (one_init e) N T = array_good s at t (Some n) n l top e N.0 T (text_known s n e)
    initialiser_good s at t (n ∷ l) top (braced_init p parts) N T =
        list_or_text_good (has_characters t l) s at p t (Some n) n l parts (text_alone parts) (initialisers s p t l parts) N.0 T refl (braced_known s n (has_characters t l) parts (text_alone parts)) (parts_good s p t l parts N T)

    pub parts_good : (s : Scope) (at : Pos) (t : IntType) (l : List ℕ) (parts : Inits) → Names W s → TextsEnd W (s.literals ++ strings_of_all parts) → IfFine (PartsGood t l parts) (initialisers s at t l parts)
    parts_good s at t l no_inits N T = (λ u. refl, refl)
    parts_good s at t l (and_init i is) N T =
        both_some (InitGood t l) (PartsGood t l is) (PartsGood t l (and_init i is)) (initialiser s at t (wanted l) false i) (initialisers (past_init s i) at t l is) rules.and_part (initialiser_good s at t l false i N (front W s.literals (strings_of i) (strings_of_all is) T))
        (parts_good (past_init s i) at t l is N (apart W s.literals (strings_of i) (strings_of_all is) T)) (λ x xs g h. (
          λ u. and_from (initialiser_is_typed W.program W.function t l x) (initialisers_are_typed W.program W.function t l xs) (g.0 (first W.program (uses_in_initialiser x) (uses_in_initialisers xs) u)) (h.0 (second W.program (uses_in_initialiser x) (uses_in_initialisers xs) u)),
          ap (λ n. n + 1) h.1,
        ))

  -- of an array whose room is not known
  pub open_good : (s : Scope) (at : Pos) (t : IntType) (m : ℕ) (l : List ℕ) (top : Bool) (i : Init) → Names W s → TextsEnd W (s.literals ++ strings_of i) → Room s None m (has_characters t l) i → IfFine (InitGood t (m ∷ l)) (initialiser s at t (an_array None l) top i)
  open_good s at t m l top init_hole N T h = tt
  open_good s at t m l top (one_init e) N T h = array_good s at t None m l top e N.0 T h
  open_good s at t m l top (braced_init p parts) N T h =
      list_or_text_good (has_characters t l) s at p t None m l parts (text_alone parts) (initialisers s p t l parts) N.0 T refl h (parts_good s p t l parts N T)
