-- The models of the code's scopes.
use Rattle.std.specs.Prelude.{ℕ, ◌-◌, List, map, reverse, drop, length, Option, Some, None}
use Rattle.std.specs.Borrow.{Bor}
use Rattle.typing_scopes.specs.declared.bindings.Meaning.{Meaning}
use Rattle.typing_scopes.specs.declared.bindings.Meaning.TheVariants as meaning
use Rattle.typing_scopes.specs.declared.bindings.Linkage.{Linkage}
use Rattle.typing_scopes.specs.declared.bindings.Linkage.TheVariants as linkage
use Rattle.typing_scopes.specs.declared.bindings.State.{State}
use Rattle.typing_scopes.specs.declared.bindings.State.TheVariants as state
use Rattle.typing_scopes.specs.declared.bindings.Binding.{Binding}
use Rattle.typing_scopes.specs.declared.bindings.Tag.{Tag}
use Rattle.typing_scopes.specs.declared.bindings.StaticObject.{StaticObject}
use Rattle.typing_scopes.specs.declared.scopes.Block.{Block}
use Rattle.typed_ast.specs.View.{storage_of, object_type_of, declared_type_of, function_type_of}
use Rattle.typing_spec.specs.Types.{ObjectType}
use Rattle.typing_spec.specs.Scope as typed

abbrev pub meaning_of : Meaning → typed.Meaning
meaning_of (meaning.Object what t) = typed.an_object (storage_of what) (declared_type_of t)
meaning_of (meaning.ArrayParameter n t) = typed.an_array_parameter n (object_type_of t)
meaning_of (meaning.Function t) = typed.a_function (function_type_of t)
meaning_of (meaning.Enumerator v) = typed.an_enumerator v

abbrev pub linkage_of : Linkage → typed.Linkage
linkage_of linkage.None = typed.no_linkage
linkage_of linkage.Internal = typed.internal
linkage_of linkage.External = typed.external

abbrev pub state_of : State → typed.State
state_of state.Mentioned = typed.mentioned
state_of state.Tentative = typed.tentative
state_of state.Defined = typed.defined

abbrev pub binding_of : Binding → typed.Binding
binding_of b = record { name = b.name; level = b.level; meaning = meaning_of b.meaning; linkage = linkage_of b.linkage; state = state_of b.state }

abbrev pub tag_of : Tag → typed.Tag
tag_of t = record { name = t.name; level = t.level; complete = t.complete }

abbrev pub static_of : StaticObject → typed.StaticObject
static_of s = record { type = object_type_of s.object_type; defined = s.defined }

-- the result of a look-up, apart from the reference
abbrev pub option_binding : Option (Bor Binding) → Option typed.Binding
option_binding None = None
option_binding (Some b) = Some (binding_of b.now)

-- the newest first, of a list with the oldest first
abbrev pub newest_first : List Binding → List typed.Binding
newest_first bs = map binding_of (reverse bs)

abbrev pub newest_tags : List Tag → List typed.Tag
newest_tags ts = map tag_of (reverse ts)

abbrev pub seen_binding : Option Binding → Option typed.Binding
seen_binding None = None
seen_binding (Some b) = Some (binding_of b)

abbrev pub seen_tag : Option Tag → Option typed.Tag
seen_tag None = None
seen_tag (Some t) = Some (tag_of t)

abbrev pub bindings_names : List typed.Binding → List ℕ
bindings_names bs = map (λ b. b.name) bs

abbrev pub tags_names : List typed.Tag → List ℕ
tags_names ts = map (λ t. t.name) ts

-- a scope with the texts of the unit's names and literals
abbrev pub with_texts : List (List ℕ) → typed.Scope → typed.Scope
with_texts texts s = record s { texts = texts }

-- where a block begins
abbrev pub block_of : typed.Scope → Block
block_of s = record { names = length s.bindings; tags = length s.tags; level = s.level }

-- without the newest name, the newest tag; with the oldest n names, tags
abbrev pub one_name_less : typed.Scope → typed.Scope
one_name_less s = record s { bindings = drop 1 s.bindings }

abbrev pub one_tag_less : typed.Scope → typed.Scope
one_tag_less s = record s { tags = drop 1 s.tags }

abbrev pub names_left : ℕ → typed.Scope → typed.Scope
names_left n s = record s { bindings = drop (length s.bindings - n) s.bindings }

abbrev pub tags_left : ℕ → typed.Scope → typed.Scope
tags_left n s = record s { tags = drop (length s.tags - n) s.tags }

-- with these objects with static storage, with these of the present function
abbrev pub with_statics : List typed.StaticObject → typed.Scope → typed.Scope
with_statics os s = record s { statics = os }

abbrev pub with_objects : List ObjectType → typed.Scope → typed.Scope
with_objects os s = record s { objects = os }
