-- Type specifiers (ISO/IEC 9899:2011 6.7.2, 6.7.3).
use Rattle.std.specs.Prelude.{ℕ, zero, suc, Bool, true, false, not, ◌&&◌, List, [], ◌∷◌, Option, Some, None, nat_eq, if◌then◌else◌}
use Rattle.srcset.specs.declared.refusal.Pos.{Pos}
use Rattle.srcset.specs.declared.code.Code.TheVariants as code
use Rattle.ctypes.specs.declared.types.IntType.{IntType}
use Rattle.ctypes.specs.declared.types.IntType.TheVariants as ty
use Rattle.tree.specs.declared.expression.Word.{Word}
use Rattle.tree.specs.declared.expression.Word.TheVariants.{Void, Char, Short, Int, Long, Signed, Unsigned}
use Rattle.tree.specs.declared.expression.Word.TheVariants as word
use Rattle.tree.specs.declared.expression.TypeSpecifier.{TypeSpecifier}
use Rattle.tree.specs.declared.expression.TypeSpecifier.TheVariants as specifier
use Rattle.typing_spec.specs.Verdict.{Verdict, fine, breaks, refuse_if, each, provided}
use Rattle.typing_spec.specs.Scope.{Scope, Tag, tag_in}

-- the type that specifiers name: none for void; and whether const is among them
pub record BaseType : Type 0 where
  pub type : Option IntType
  pub constant : Bool

-- ---- the elements of a list of specifiers

abbrev pub words_of : List TypeSpecifier → List Word
words_of [] = []
words_of (specifier.Const ∷ ss) = words_of ss
words_of (specifier.Word w ∷ ss) = w ∷ words_of ss
words_of (specifier.Enum t ∷ ss) = words_of ss

abbrev pub tags_of : List TypeSpecifier → List ℕ
tags_of [] = []
tags_of (specifier.Const ∷ ss) = tags_of ss
tags_of (specifier.Word w ∷ ss) = tags_of ss
tags_of (specifier.Enum t ∷ ss) = t ∷ tags_of ss

abbrev pub is_const : List TypeSpecifier → Bool
is_const [] = false
is_const (specifier.Const ∷ ss) = true
is_const (specifier.Word w ∷ ss) = is_const ss
is_const (specifier.Enum t ∷ ss) = is_const ss

-- ---- the sets of words, each in any order (6.7.2p2)

abbrev pub place_of_word : Word → ℕ
place_of_word Void = 0
place_of_word Char = 1
place_of_word Short = 2
place_of_word Int = 3
place_of_word Long = 4
place_of_word Signed = 5
place_of_word Unsigned = 6
place_of_word word.Bool = 7

abbrev pub same_word : Word → Word → Bool
same_word a b = nat_eq (place_of_word a) (place_of_word b)

-- how often a word occurs in a list
abbrev pub times : Word → List Word → ℕ
times w [] = 0
times w (v ∷ vs) = if same_word w v then suc (times w vs) else times w vs

-- each of these words occurs as often in one list as in the other
abbrev pub as_often : List Word → List Word → List Word → Bool
as_often [] a b = true
as_often (w ∷ ws) a b = nat_eq (times w a) (times w b) && as_often ws a b

-- the same words in any order
abbrev pub same_words : List Word → List Word → Bool
same_words a b = as_often (Void ∷ Char ∷ Short ∷ Int ∷ Long ∷ Signed ∷ Unsigned ∷ word.Bool ∷ []) a b

pub record WordSet : Type 0 where
  pub words : List Word
  pub type : Option IntType

abbrev pub set : List Word → Option IntType → WordSet
set words type = record { words = words; type = type }

abbrev pub sets : List WordSet
sets =
    set (Void ∷ []) None ∷
    set (Char ∷ []) (Some ty.Char) ∷
    set (Signed ∷ Char ∷ []) (Some ty.SChar) ∷
    set (Unsigned ∷ Char ∷ []) (Some ty.UChar) ∷
    set (Short ∷ []) (Some ty.Short) ∷
    set (Signed ∷ Short ∷ []) (Some ty.Short) ∷
    set (Short ∷ Int ∷ []) (Some ty.Short) ∷
    set (Signed ∷ Short ∷ Int ∷ []) (Some ty.Short) ∷
    set (Unsigned ∷ Short ∷ []) (Some ty.UShort) ∷
    set (Unsigned ∷ Short ∷ Int ∷ []) (Some ty.UShort) ∷
    set (Int ∷ []) (Some ty.Int) ∷
    set (Signed ∷ []) (Some ty.Int) ∷
    set (Signed ∷ Int ∷ []) (Some ty.Int) ∷
    set (Unsigned ∷ []) (Some ty.UInt) ∷
    set (Unsigned ∷ Int ∷ []) (Some ty.UInt) ∷
    set (Long ∷ []) (Some ty.Long) ∷
    set (Signed ∷ Long ∷ []) (Some ty.Long) ∷
    set (Long ∷ Int ∷ []) (Some ty.Long) ∷
    set (Signed ∷ Long ∷ Int ∷ []) (Some ty.Long) ∷
    set (Unsigned ∷ Long ∷ []) (Some ty.ULong) ∷
    set (Unsigned ∷ Long ∷ Int ∷ []) (Some ty.ULong) ∷
    set (word.Bool ∷ []) (Some ty.Bool) ∷ []

-- the type of a set of words, if it is one of these
abbrev pub type_among : List WordSet → List Word → Option (Option IntType)
type_among [] ws = None
type_among (row ∷ rows) ws = if same_words row.words ws then Some row.type else type_among rows ws

-- words and a number of enumerated types: words alone, or one enumerated type alone, which is int in this profile (6.7.2.2p4)
abbrev pub named_type : ℕ → List Word → Option (Option IntType)
named_type zero ws = type_among sets ws
named_type (suc zero) [] = Some (Some ty.Int)
named_type (suc n) ws = None

abbrev pub base_or_fault : Pos → Bool → Option (Option IntType) → Verdict BaseType
base_or_fault at constant None = breaks code.BadTypeSpecifiers at
base_or_fault at constant (Some t) = fine (record { type = t; constant = constant })

-- ---- tags (6.7.2.3)

-- `enum tag` without a list may appear only after the end of the list (6.7.2.3p3)
abbrev pub is_complete : Option Tag → Bool
is_complete None = false
is_complete (Some t) = t.complete

abbrev pub tags_known : Scope → Pos → List ℕ → Verdict (Unit {0})
tags_known s at [] = fine tt
tags_known s at (t ∷ ts) = each (refuse_if (not (is_complete (tag_in s.tags t))) code.BadEnumTag at) (tags_known s at ts)

abbrev pub count : List ℕ → ℕ
count [] = 0
count (n ∷ ns) = suc (count ns)

-- the type of specifiers that contain no list of enumerators, the first of them at this place
abbrev pub base_type : Scope → Pos → List TypeSpecifier → Verdict BaseType
base_type s at ss = provided (tags_known s at (tags_of ss)) (base_or_fault at (is_const ss) (named_type (count (tags_of ss)) (words_of ss)))
