-- The faults of a definition, by the numbers of names.
use Rattle.std.specs.Prelude.{ℕ, List, [], ◌∷◌, length, slice_get, nat_lt, nat_le, Bool, true, false, not, ◌&&◌, ◌||◌, Option, Some, None, is_some, codes}
use Rattle.std.specs.List.{list_any}
use Rattle.std.specs.Str.{bytes_eq}
use Rattle.srcset.specs.NameTable.{Texts}
use Rattle.srcset.specs.declared.code.Code.{Code}
use Rattle.srcset.specs.declared.code.Code.TheVariants as code
use Rattle.macros.specs.Macro.{is_reserved, is_spelled, is_hash, is_joint}
use Rattle.macros.specs.Definition.{both_or_neither, same_mark, first_of, max_parameters, max_macros}
use Rattle.macros.specs.Table.{BodyToken, NumberedMacro, NumberedParameters, Table, numbered, numbers_of, places, is_variadic}

abbrev pub is_text_reserved : Option (List ℕ) → Bool
is_text_reserved None = false
is_text_reserved (Some text) = is_reserved text

abbrev pub is_number_reserved : Texts → ℕ → Bool
is_number_reserved texts n = is_text_reserved (slice_get texts n)

abbrev pub is_replaced : BodyToken → Bool
is_replaced x = is_spelled (codes "__VA_ARGS__") x.token

-- `pending` where a `#` precedes the list
abbrev pub lone_hash_after : Bool → List BodyToken → Bool
lone_hash_after pending [] = pending
lone_hash_after pending (x ∷ xs) = (pending && not (is_some x.parameter)) || lone_hash_after (is_hash x.token) xs

abbrev pub is_hash_lone : NumberedMacro → Bool
is_hash_lone m = is_some m.parameters && lone_hash_after false m.body

abbrev pub begins_joint : List BodyToken → Bool
begins_joint [] = false
begins_joint (x ∷ xs) = is_joint x.token

-- `last` where a `##` precedes the list
abbrev pub ends_joint : Bool → List BodyToken → Bool
ends_joint last [] = last
ends_joint last (x ∷ xs) = ends_joint (is_joint x.token) xs

abbrev pub is_joint_amiss : NumberedMacro → Bool
is_joint_amiss m = begins_joint m.body || ends_joint false m.body

abbrev pub same_token : BodyToken → BodyToken → Bool
same_token x y = bytes_eq x.token.spelling y.token.spelling && same_mark x.token y.token

abbrev pub same_all : List BodyToken → List BodyToken → Bool
same_all [] [] = true
same_all (x ∷ xs) (y ∷ ys) = same_token x y && same_all xs ys
same_all _ _ = false

abbrev pub same_list : List BodyToken → List BodyToken → Bool
same_list [] [] = true
same_list (x ∷ xs) (y ∷ ys) = bytes_eq x.token.spelling y.token.spelling && same_all xs ys
same_list _ _ = false

abbrev pub same_numbered : Option NumberedParameters → Option NumberedParameters → Bool
same_numbered None None = true
same_numbered (Some p) (Some q) = both_or_neither p.variadic q.variadic && bytes_eq p.names q.names
same_numbered _ _ = false

abbrev pub same_macro : NumberedMacro → NumberedMacro → Bool
same_macro a b = same_numbered a.parameters b.parameters && same_list a.body b.body

abbrev pub differs : Option NumberedMacro → NumberedMacro → Bool
differs None new = false
differs (Some old) new = not (same_macro old new)

abbrev pub has_reserved : Texts → ℕ → NumberedMacro → Bool
has_reserved texts n m =
    is_number_reserved texts n || list_any (is_number_reserved texts) (numbers_of m.parameters)

abbrev pub is_variable_outside : NumberedMacro → Bool
is_variable_outside m = not (is_variadic m.parameters) && list_any is_replaced m.body

abbrev pub places_of : Option NumberedParameters → ℕ
places_of None = 0
places_of (Some p) = places p

-- the first fault, by the results of the tests, the counts of parameters and macros, and whether the name has a macro
abbrev pub first_fault : Bool → Bool → Bool → Bool → ℕ → Bool → Bool → ℕ → Option Code
first_fault reserved variable hash joint parameters differ known count =
    first_of (
    (reserved, code.ReservedMacroName) ∷
    (variable, code.VariableArgumentsOutside) ∷
    (hash, code.HashWithoutParameter) ∷
    (joint, code.PasteAtAnEnd) ∷
    (nat_lt max_parameters parameters, code.MacroParameterLimit) ∷
    (differ, code.MacroRedefined) ∷
    (not known && nat_le max_macros count, code.MacroLimit) ∷ [])

-- the fault of a macro under this number
abbrev pub fault : Texts → Table → ℕ → NumberedMacro → Option Code
fault texts table n m =
    first_fault (has_reserved texts n m) (is_variable_outside m) (is_hash_lone m) (is_joint_amiss m) (places_of m.parameters)
    (differs (numbered table n) m) (is_some (numbered table n)) (length table)
