-- Scopes of a file: the invariant of declarations at file scope, and the final program.
use Rattle.std.proofs.Common.{◌≡◌, ℕ, true, List, Some}
use Rattle.std.specs.Prelude.{slice_get}
use Rattle.ctypes.specs.declared.types.IntType.TheVariants as ty
use Rattle.ctypes.specs.Types.{is_value_of}
use Rattle.typing_spec.specs.Types.{DeclaredType, FunctionType}
use Rattle.typing_spec.specs.Program as typed
use Rattle.typing_spec.specs.Program.{Storage, Function, Program}
use Rattle.typing_spec.specs.Scope.{Scope, StaticObject, Binding, BuiltIn, Meaning, an_object, an_array_parameter, a_function, an_enumerator, lookup, built_in}
use Rattle.typing_spec.specs.Linkage.{completed}
use Rattle.typing_spec.specs.Declarations.{Initial}
use Rattle.lower_wf.specs.Settled.{Setting, SizedType, Wider, callee_in, CalleeFits, Names, TextsEnd, StaticsEnd}
use Rattle.lower_wf.proofs.Scopes.{Extends}
use Rattle.lower_wf.proofs.Items.{InitialsGood}

-- ---- the names of a file

-- the newest declaration of a name gives it this meaning
abbrev pub Stands : Scope → ℕ → Meaning → Type 0
Stands s n m = (b : Binding) × (lookup s n ≡ Some b) × (b.meaning ≡ m)

-- object i with static storage has the type declared so far (6.9.2p5)
abbrev pub HasStatic : Scope → ℕ → DeclaredType → Type 0
HasStatic s i t = (o : StaticObject) × (slice_get s.statics i ≡ Some o) × (o.type ≡ completed t)

abbrev pub IsStatic : Scope → Storage → DeclaredType → Type 0
IsStatic s (typed.static i) t = HasStatic s i t
IsStatic s (typed.literal i) t = ⊥
IsStatic s (typed.automatic i) t = ⊥
IsStatic s (typed.parameter i) t = ⊥

-- the possible meanings of a name of a file: an object with static storage, a function, which has a built-in's type where it has its name, an enumerator
abbrev pub IsOfFile : Scope → ℕ → Meaning → Type 0
IsOfFile s n (an_object what t) = IsStatic s what t × SizedType t
IsOfFile s n (an_array_parameter k u) = ⊥
IsOfFile s n (a_function t) = (b : BuiltIn) → built_in s n ≡ Some b → b.type ≡ t
IsOfFile s n (an_enumerator v) = is_value_of ty.Int v ≡ true

-- each object with a name has a name of its own
abbrev pub AreApart : Scope → Type 0
AreApart s = (n k i : ℕ) (t u : DeclaredType) → Stands s n (an_object (typed.static i) t) → Stands s k (an_object (typed.static i) u) → n ≡ k

pub record IsFile (s : Scope) : Type 0 where
  pub level : s.level ≡ 0
  pub levels : (n : ℕ) (b : Binding) → lookup s n ≡ Some b → b.level ≡ 0
  pub names : (n : ℕ) (m : Meaning) → Stands s n m → IsOfFile s n m
  pub apart : AreApart s

-- ---- from one scope of a file to a later one: objects keep their numbers, a function its type (6.2.7p3)

abbrev pub StaticsWider : List StaticObject → List StaticObject → Type 0
StaticsWider os us = (n : ℕ) (o : StaticObject) → slice_get os n ≡ Some o → (x : StaticObject) × (slice_get us n ≡ Some x) × Wider o.type x.type

pub record Onward (s u : Scope) : Type 0 where
  pub texts : u.texts ≡ s.texts
  pub definitions : u.definitions ≡ s.definitions
  pub literals : Extends s.literals u.literals
  pub statics : StaticsWider s.statics u.statics
  pub functions : (n : ℕ) (t : FunctionType) → Stands s n (a_function t) → Stands u n (a_function t)

-- ---- the final program

module _ (p : Program) (texts : List (List ℕ)) (definitions : List ℕ) where
  abbrev pub in_function : Function → Setting
  in_function g = record { program = p; function = g; texts = texts; definitions = definitions }

  -- the contents of the scope are the program's
  pub record Final (u : Scope) : Type 0 where
    pub literals : (g : Function) → TextsEnd (in_function g) u.literals
    pub statics : (g : Function) → StaticsEnd (in_function g) u.statics
    pub functions : (n : ℕ) (t : FunctionType) → Stands u n (a_function t) → CalleeFits p (callee_in texts definitions n) t

  -- the names of a file denote objects and functions of the program, in each of its functions
  abbrev pub Named : Scope → Type 0
  Named s = (g : Function) → Names (in_function g) s

  -- these first values have room in their objects
  abbrev pub HaveRoom : List Initial → Type 0
  HaveRoom is = (g : Function) → InitialsGood (in_function g) is

  -- a scope of a file to which this one leads, where these first values were given between them
  abbrev pub Reaches : Scope → List Initial → Scope → Type 0
  Reaches s is u = Onward s u × IsFile u × (Named s → Final u → Named u × HaveRoom is)
