-- Scopes: the meaning of each name (ISO/IEC 9899:2011 6.2.1 to 6.2.4), and the declarations of the program so far.
use Rattle.std.specs.Prelude.{ℕ, ◌+◌, ◌-◌, Bool, false, ℤ, List, [], ◌∷◌, ◌++◌, Option, Some, None, length, take, nat_eq, slice_get, codes, if◌then◌else◌}
use Rattle.std.specs.Str.{bytes_eq}
use Rattle.ctypes.specs.declared.types.IntType.TheVariants as ty
use Rattle.tree.specs.Tree.{Tree, Trees, TypeTree, hole, identifier, constant, string, paren, call, subscript, after, before, prefix, size_of, size_of_type, cast, binary, conditional, assign, no_trees, one_more, type_name}
use Rattle.typing_spec.specs.Types.{ObjectType, DeclaredType, FunctionType, number}
use Rattle.typing_spec.specs.Program.{Storage, Callee, function, get_byte, put_byte, exit, missing}

-- the meaning of an ordinary identifier: an object, an array parameter by its number among those and the type of its elements, a
-- function, or an enumerator with its value
pub data Meaning : Type 0 where
  an_object : (what : Storage) (type : DeclaredType) → Meaning
  an_array_parameter : (n : ℕ) (element : ObjectType) → Meaning
  a_function : (type : FunctionType) → Meaning
  an_enumerator : (v : ℤ) → Meaning

-- 6.2.2
pub data Linkage : Type 0 where
  no_linkage : Linkage
  internal : Linkage
  external : Linkage

-- whether a name is only declared, tentatively defined, or defined (6.9, 6.9.2)
pub data State : Type 0 where
  mentioned : State
  tentative : State
  defined : State

-- an object with static storage: its type as declared so far, where a size still unknown is 1 (6.9.2p5), and whether it is defined
pub record StaticObject : Type 0 where
  pub type : ObjectType
  pub defined : Bool

-- a name, and how deep the block is that declares it, 0 being the file
pub record Binding : Type 0 where
  pub name : ℕ
  pub level : ℕ
  pub meaning : Meaning
  pub linkage : Linkage
  pub state : State

-- a tag, and whether its list has ended (6.2.1p7, 6.7.2.3p4)
pub record Tag : Type 0 where
  pub name : ℕ
  pub level : ℕ
  pub complete : Bool

-- the names and tags in scope, the newest first, and how deep the block is; the numbers of the texts of the string literals so
-- far; the objects with static storage so far, and those of the present function. The texts are those of the unit's names, and
-- of its literals with the zero byte after them, by their numbers, the definitions the names of the functions that the unit defines anywhere, in their order
pub record Scope : Type 0 where
  pub texts : List (List ℕ)
  pub definitions : List ℕ
  pub bindings : List Binding
  pub tags : List Tag
  pub level : ℕ
  pub literals : List ℕ
  pub statics : List StaticObject
  pub objects : List ObjectType

-- the scope at the beginning of a unit
abbrev pub file_scope : List (List ℕ) → List ℕ → Scope
file_scope texts definitions = record {
  texts = texts;
  definitions = definitions;
  bindings = [];
  tags = [];
  level = 0;
  literals = [];
  statics = [];
  objects = [];
}

-- the innermost binding of a name, and of a tag (6.2.1p4)
abbrev pub binding_in : List Binding → ℕ → Option Binding
binding_in [] n = None
binding_in (b ∷ bs) n = if nat_eq b.name n then Some b else binding_in bs n

abbrev pub lookup : Scope → ℕ → Option Binding
lookup s n = binding_in s.bindings n

abbrev pub tag_in : List Tag → ℕ → Option Tag
tag_in [] n = None
tag_in (t ∷ ts) n = if nat_eq t.name n then Some t else tag_in ts n

-- one more name, one more tag
abbrev pub with_name : Scope → ℕ → Meaning → Linkage → State → Scope
with_name s n meaning linkage state =
    record s { bindings = record { name = n; level = s.level; meaning = meaning; linkage = linkage; state = state } ∷ s.bindings }

abbrev pub with_tag : Scope → ℕ → Bool → Scope
with_tag s n complete = record s { tags = record { name = n; level = s.level; complete = complete } ∷ s.tags }

-- a block begins, and ends: its names and tags leave scope, its objects and literals stay (6.2.1p4)
abbrev pub inside : Scope → Scope
inside s = record s { level = s.level + 1 }

abbrev pub outside : Scope → Scope → Scope
outside outer s = record s { bindings = outer.bindings; tags = outer.tags; level = outer.level }

-- ---- texts, built-ins

abbrev pub or_empty : Option (List ℕ) → List ℕ
or_empty None = []
or_empty (Some text) = text

abbrev pub text_of : Scope → ℕ → List ℕ
text_of s n = or_empty (slice_get s.texts n)

-- 6.4.5p6: the characters of a literal, without the zero that follows them
abbrev pub literal_of : Scope → ℕ → List ℕ
literal_of s n = let text = text_of s n in take (length text - 1) text

abbrev pub is_called : Scope → ℕ → List ℕ → Bool
is_called s n text = bytes_eq (text_of s n) text

pub record BuiltIn : Type 0 where
  pub callee : Callee
  pub type : FunctionType

-- the built-ins, by their texts: int rv_getbyte(void), void rv_putbyte(int c), void rv_exit(int status)
abbrev pub built_in : Scope → ℕ → Option BuiltIn
built_in s n =
    if is_called s n (codes "rv_getbyte") then Some (record { callee = get_byte; type = record { result = Some ty.Int; constant = false; parameters = [] } })
    else if is_called s n (codes "rv_putbyte") then
    Some (record { callee = put_byte; type = record { result = None; constant = false; parameters = number ty.Int ∷ [] } })
    else if is_called s n (codes "rv_exit") then
    Some (record { callee = exit; type = record { result = None; constant = false; parameters = number ty.Int ∷ [] } })
    else None

-- the place of a name in a list, from `from` on
abbrev pub place_from : ℕ → List ℕ → ℕ → Option ℕ
place_from from [] n = None
place_from from (d ∷ ds) n = if nat_eq d n then Some from else place_from (from + 1) ds n

abbrev pub by_definition : ℕ → Option ℕ → Callee
by_definition n None = missing n
by_definition n (Some f) = function f

abbrev pub built_in_or : Callee → Option BuiltIn → Callee
built_in_or f None = f
built_in_or f (Some b) = b.callee

-- the target of a call of the function with this name
abbrev pub callee_of : Scope → ℕ → Callee
callee_of s n = built_in_or (by_definition n (place_from 0 s.definitions n)) (built_in s n)

-- ---- string literals: each is an object of its own (6.4.5p6), also where it is not evaluated

-- the string literals of an expression, in their order
abbrev mutual
  pub strings : Tree → List ℕ
  strings hole = []
  strings (identifier at n) = []
  strings (constant at t v) = []
  strings (string at n) = n ∷ []
  strings (paren e) = strings e
  strings (call at f args) = strings_in args
  strings (subscript at a i) = strings a ++ strings i
  strings (after at op a) = strings a
  strings (before at op a) = strings a
  strings (prefix at op a) = strings a
  strings (size_of at a) = strings a
  strings (size_of_type at t) = strings_of_type t
  strings (cast at t a) = strings_of_type t ++ strings a
  strings (binary at op a b) = strings a ++ strings b
  strings (conditional at c a b) = strings c ++ strings a ++ strings b
  strings (assign at op a b) = strings a ++ strings b

  pub strings_in : Trees → List ℕ
  strings_in no_trees = []
  strings_in (one_more e es) = strings e ++ strings_in es

  pub strings_of_type : TypeTree → List ℕ
  strings_of_type (type_name at specifiers sizes) = strings_in sizes

-- the scope after an expression, and after the name of a type
abbrev pub with_literals : Scope → List ℕ → Scope
with_literals s more = record s { literals = s.literals ++ more }

abbrev pub past : Scope → Tree → Scope
past s e = with_literals s (strings e)

abbrev pub past_type : Scope → TypeTree → Scope
past_type s t = with_literals s (strings_of_type t)
