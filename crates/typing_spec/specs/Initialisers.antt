-- Initialisers (ISO/IEC 9899:2011 6.7.9): a number's is an expression, also in braces; an array's a full braced list or, for arrays of
-- characters, a string literal, also in braces.
use Rattle.std.specs.Prelude.{ℕ, zero, suc, ◌+◌, ◌-◌, Bool, true, false, ℤ, pos, nat_lt, ◌&&◌, List, [], ◌∷◌, ◌++◌, length, take, Option, Some, None, is_some, slice_get}
use Rattle.srcset.specs.declared.refusal.Pos.{Pos}
use Rattle.srcset.specs.declared.code.Code.TheVariants as code
use Rattle.ctypes.specs.declared.types.IntType.{IntType}
use Rattle.ctypes.specs.declared.types.IntType.TheVariants.{Char, SChar, UChar}
use Rattle.ctypes.specs.Types.{converted}
use Rattle.tree.specs.Tree.{Tree, string, paren, Init, init_hole, one_init, braced_init, Inits, no_inits, and_init}
use Rattle.typing_spec.specs.Types.{elements_in}
use Rattle.typing_spec.specs.Verdict.{Verdict, fine, breaks, then_check, both, refuse_if, each, provided}
use Rattle.typing_spec.specs.Program as typed
use Rattle.typing_spec.specs.Program.{Initialiser, Initialisers}
use Rattle.typing_spec.specs.Scope.{Scope, literal_of, strings, with_literals}
use Rattle.typing_spec.specs.Constants.{constant_form, folded}
use Rattle.typing_spec.specs.Expressions.{Worth, typing, worth, position, nowhere}

-- the type to initialise: a number, or an array of `room` elements (any number, where its size is unknown) that have these lengths
pub data Wanted : Type 0 where
  one_number : Wanted
  an_array : (room : Option ℕ) (lengths : List ℕ) → Wanted

abbrev pub wanted : List ℕ → Wanted
wanted [] = one_number
wanted (n ∷ lengths) = an_array (Some n) lengths

-- a character type (6.2.5p15), and an array of such elements (6.7.9p14)
abbrev pub is_character : IntType → Bool
is_character Char = true
is_character SChar = true
is_character UChar = true
is_character t = false

abbrev pub has_characters : IntType → List ℕ → Bool
has_characters t [] = is_character t
has_characters t (n ∷ ns) = false

abbrev pub exceeds : ℕ → Option ℕ → Bool
exceeds n None = false
exceeds n (Some room) = nat_lt room n

-- ---- the string literals of an initialiser, in their order

abbrev mutual
  pub strings_of : Init → List ℕ
  strings_of init_hole = []
  strings_of (one_init e) = strings e
  strings_of (braced_init at parts) = strings_of_all parts

  pub strings_of_all : Inits → List ℕ
  strings_of_all no_inits = []
  strings_of_all (and_init i is) = strings_of i ++ strings_of_all is

abbrev pub past_init : Scope → Init → Scope
past_init s i = with_literals s (strings_of i)

-- ---- one initialiser

abbrev pub of_number : IntType → Worth → Verdict Initialiser
of_number t w = fine (typed.one_value t w.e)

-- 6.7.9p11: as in an assignment; a void expression is reported at its own place
abbrev pub number_from : Scope → IntType → Tree → Verdict Initialiser
number_from s t e = then_check (typing s e) (λ x. then_check (worth code.VoidAssigned (position x) x) (of_number t))

-- 6.7.9p14: the characters; there may be no room for the zero
abbrev pub text_from : Scope → Pos → Option ℕ → ℕ → Verdict Initialiser
text_from s at room n = provided (refuse_if (exceeds (length (literal_of s n)) room) code.TooManyInitialisers at) (fine (typed.text (length s.literals)))

-- an array from an expression without braces: a string literal for characters, not in parentheses; else no form of an initialiser, or,
-- inside a list, one whose braces are left out (6.7.9p20)
abbrev pub not_braced : Bool → Pos → Verdict Initialiser
not_braced true at = breaks code.BadInitialiserForm at
not_braced false at = breaks code.LeftOutBraceElision at

abbrev pub text_if : Bool → Bool → Scope → Pos → Pos → Option ℕ → ℕ → Verdict Initialiser
text_if true top s at own room n = text_from s own room n
text_if false top s at own room n = not_braced top at

abbrev pub array_from : Scope → Pos → IntType → Option ℕ → List ℕ → Bool → Tree → Verdict Initialiser
array_from s at t room lengths top (string own n) = text_if (has_characters t lengths) top s at own room n
array_from s at t room lengths top e = not_braced top at

-- 6.7.9p11: a number in braces
abbrev pub number_in_braces : Scope → Pos → IntType → Inits → Verdict Initialiser
number_in_braces s p t (and_init (one_init e) no_inits) = then_check (number_from s t e) (λ i. fine (typed.in_braces i))
number_in_braces s p t (and_init (one_init e) (and_init i is)) = both (number_from s t e) (breaks code.TooManyInitialisers p) (λ x d. fine d)
number_in_braces s p t parts = breaks code.BadInitialiserForm p

-- the string literal that is alone in braces
abbrev pub text_alone : Inits → Option Tree
text_alone (and_init (one_init (string own n)) no_inits) = Some (string own n)
text_alone parts = None

abbrev pub count_of : Inits → ℕ
count_of no_inits = 0
count_of (and_init i is) = count_of is + 1

abbrev pub is_none : Inits → Bool
is_none no_inits = true
is_none (and_init i is) = false

-- 6.7.9p2: no more parts than the array has elements; at least one (6.7.9p1)
abbrev pub fits_room : Pos → Option ℕ → Inits → Verdict (Unit {0})
fits_room p room parts = each (refuse_if (is_none parts) code.BadInitialiserForm p) (refuse_if (exceeds (count_of parts) room) code.TooManyInitialisers p)

abbrev pub and_part : Initialiser → Initialisers → Verdict Initialisers
and_part i is = fine (typed.and_initialiser i is)

abbrev pub in_list : Pos → Option ℕ → Inits → Verdict Initialisers → Verdict Initialiser
in_list p room parts typed_parts = then_check typed_parts (λ is. provided (fits_room p room parts) (fine (typed.list is)))

-- a braced list, or a string literal alone in the braces
abbrev pub list_or_text : Bool → Scope → Pos → IntType → Option ℕ → List ℕ → Option Tree → Verdict Initialiser → Verdict Initialiser
list_or_text true s at t room lengths (Some e) list = then_check (array_from s at t room lengths false e) (λ i. fine (typed.in_braces i))
list_or_text characters s at t room lengths e list = list

abbrev mutual
  -- of an object whose elements have the type t; `at` is its declarator's place, where `top` says that it is in no list, else the list's
  pub initialiser : Scope → Pos → IntType → Wanted → Bool → Init → Verdict Initialiser
  initialiser s at t w top init_hole = breaks code.SyntaxError nowhere
  initialiser s at t one_number top (one_init e) = number_from s t e
  initialiser s at t (an_array room lengths) top (one_init e) = array_from s at t room lengths top e
  initialiser s at t one_number top (braced_init p parts) = number_in_braces s p t parts
  initialiser s at t (an_array room lengths) top (braced_init p parts) =
      list_or_text (has_characters t lengths) s at t room lengths (text_alone parts)
      (in_list p room parts (initialisers s p t lengths parts))

  pub initialisers : Scope → Pos → IntType → List ℕ → Inits → Verdict Initialisers
  initialisers s at t lengths no_inits = fine typed.no_initialisers
  initialisers s at t lengths (and_init i is) = both (initialiser s at t (wanted lengths) false i) (initialisers (past_init s i) at t lengths is) and_part

abbrev pub literal_text : Scope → Option ℕ → List ℕ
literal_text s None = []
literal_text s (Some n) = literal_of s n

-- the text of the string literal with this number among the literals
abbrev pub text_at : Scope → ℕ → List ℕ
text_at s n = literal_text s (slice_get s.literals n)

-- ---- the initialiser of an object with static storage: constant expressions, or the string literal of an array of characters (6.7.9p4, p14)

abbrev pub is_text : Tree → Bool
is_text (string own n) = true
is_text (paren e) = is_text e
is_text e = false

-- a string literal may initialise an array of characters
abbrev pub takes_text : IntType → Wanted → Bool
takes_text t one_number = false
takes_text t (an_array room lengths) = has_characters t lengths

abbrev pub part_wanted : Wanted → Wanted
part_wanted one_number = one_number
part_wanted (an_array room lengths) = wanted lengths

abbrev pub form_unless : Bool → Scope → Tree → Verdict (Unit {0})
form_unless true s e = fine tt
form_unless false s e = constant_form s e

abbrev pub parts_unless : Bool → Verdict (Unit {0}) → Verdict (Unit {0})
parts_unless true parts = fine tt
parts_unless false parts = parts

abbrev mutual
  pub constant_parts : Scope → IntType → Wanted → Init → Verdict (Unit {0})
  constant_parts s t w init_hole = fine tt
  constant_parts s t w (one_init e) = form_unless (takes_text t w && is_text e) s e
  constant_parts s t w (braced_init at parts) =
      parts_unless (takes_text t w && is_some (text_alone parts)) (all_constant s t (part_wanted w) parts)

  pub all_constant : Scope → IntType → Wanted → Inits → Verdict (Unit {0})
  all_constant s t w no_inits = fine tt
  all_constant s t w (and_init i is) = each (constant_parts s t w i) (all_constant s t w is)

-- n zeros, the values of the elements after those given
abbrev pub zeros : ℕ → List ℤ
zeros zero = []
zeros (suc n) = pos 0 ∷ zeros n

abbrev pub padded : ℕ → List ℤ → List ℤ
padded n vs = take n (vs ++ zeros (n - length vs))

abbrev pub characters : IntType → List ℕ → List ℤ
characters t [] = []
characters t (c ∷ cs) = converted t (pos c) ∷ characters t cs

abbrev pub and_values : List ℤ → List ℤ → Verdict (List ℤ)
and_values vs ws = fine (vs ++ ws)

-- the values of the elements in their order: of the parts of a list, each with as many as a part has; `s` contains their literals
abbrev mutual
  pub values : Scope → IntType → List ℕ → Initialiser → Verdict (List ℤ)
  values s t lengths (typed.one_value u e) = then_check (folded e) (λ v. fine (converted t v ∷ []))
  values s t lengths (typed.text n) = fine (characters t (text_at s n))
  values s t lengths (typed.in_braces i) = values s t lengths i
  values s t [] (typed.list is) = fine []
  values s t (n ∷ lengths) (typed.list is) = all_values s t lengths is

  pub all_values : Scope → IntType → List ℕ → Initialisers → Verdict (List ℤ)
  all_values s t lengths typed.no_initialisers = fine []
  all_values s t lengths (typed.and_initialiser i is) =
      both (then_check (values s t lengths i) (λ vs. fine (padded (elements_in lengths) vs))) (all_values s t lengths is) and_values
