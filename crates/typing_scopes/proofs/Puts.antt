-- One element in the place of another, or after all.
use Rattle.std.proofs.Common.{◌≡◌, ℕ, zero, suc, ◌<◌, ◌≤◌, List, [], ◌∷◌, ◌++◌, length, map, refl, ap, ◌∙◌, arith, set}
use Rattle.std.proofs.lemmas.List.{map-set, map-append, length-map}
use Rattle.typing_scopes.specs.declared.bindings.StaticObject.{StaticObject}
use Rattle.typed_ast.specs.declared.types.ObjectType.{ObjectType}
use Rattle.typed_ast.specs.View.{object_type_of}
use Rattle.typing_scopes.specs.Scopes.{static_of}
use Rattle.typing_spec.specs.Types as type
use Rattle.typing_spec.specs.Scope as typed
use Rattle.typing_spec.specs.Linkage.{put_static}
use Rattle.typing_spec.specs.Declarations.{put_object}

static_within : (ys : List typed.StaticObject) (n : ℕ) (y : typed.StaticObject) → n < length ys → set ys n y ≡ put_static ys n y
static_within [] n y h = absurd (omega (arith, h))
static_within (x ∷ ys) zero y h = refl
static_within (x ∷ ys) (suc n) y h = ap (λ zs. x ∷ zs) (static_within ys n y (omega (arith, h)))

static_behind : (ys : List typed.StaticObject) (n : ℕ) (y : typed.StaticObject) → length ys ≤ n → ys ++ y ∷ [] ≡ put_static ys n y
static_behind [] n y h = refl
static_behind (x ∷ ys) zero y h = absurd (omega (arith, h))
static_behind (x ∷ ys) (suc n) y h = ap (λ zs. x ∷ zs) (static_behind ys n y (omega (arith, h)))

object_within : (ys : List type.ObjectType) (n : ℕ) (y : type.ObjectType) → n < length ys → set ys n y ≡ put_object ys n y
object_within [] n y h = absurd (omega (arith, h))
object_within (x ∷ ys) zero y h = refl
object_within (x ∷ ys) (suc n) y h = ap (λ zs. x ∷ zs) (object_within ys n y (omega (arith, h)))

object_behind : (ys : List type.ObjectType) (n : ℕ) (y : type.ObjectType) → length ys ≤ n → ys ++ y ∷ [] ≡ put_object ys n y
object_behind [] n y h = refl
object_behind (x ∷ ys) zero y h = absurd (omega (arith, h))
object_behind (x ∷ ys) (suc n) y h = ap (λ zs. x ∷ zs) (object_behind ys n y (omega (arith, h)))

pub static_set : (xs : List StaticObject) (n : ℕ) (x : StaticObject) → n < length xs → map static_of (set xs n x) ≡ put_static (map static_of xs) n (static_of x)
static_set xs n x h = map-set static_of xs n x ∙ static_within (map static_of xs) n (static_of x) (let l = length-map xs static_of in omega (arith, l, h))

pub static_pushed : (xs : List StaticObject) (n : ℕ) (x : StaticObject) → length xs ≤ n → map static_of (xs ++ x ∷ []) ≡ put_static (map static_of xs) n (static_of x)
static_pushed xs n x h = map-append static_of xs (x ∷ []) ∙ static_behind (map static_of xs) n (static_of x) (let l = length-map xs static_of in omega (arith, l, h))

pub object_set : (xs : List ObjectType) (n : ℕ) (x : ObjectType) → n < length xs → map object_type_of (set xs n x) ≡ put_object (map object_type_of xs) n (object_type_of x)
object_set xs n x h = map-set object_type_of xs n x ∙ object_within (map object_type_of xs) n (object_type_of x) (let l = length-map xs object_type_of in omega (arith, l, h))

pub object_pushed : (xs : List ObjectType) (n : ℕ) (x : ObjectType) → length xs ≤ n → map object_type_of (xs ++ x ∷ []) ≡ put_object (map object_type_of xs) n (object_type_of x)
object_pushed xs n x h = map-append object_type_of xs (x ∷ []) ∙ object_behind (map object_type_of xs) n (object_type_of x) (let l = length-map xs object_type_of in omega (arith, l, h))
