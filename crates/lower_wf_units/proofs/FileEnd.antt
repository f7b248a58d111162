-- A file's scope at the end of a unit agrees with the program.
use Rattle.std.proofs.Common.{◌≡◌, ◌≤◌, ℕ, zero, suc, ◌+◌, Bool, true, false, ◌&&◌, nat_eq, nat_le, ℤ, List, [], ◌∷◌, ◌++◌, length, Option, Some, None, refl, sym, ap, ◌∙◌, subst, arith}
use Rattle.std.specs.Prelude.{slice_get, codes, if◌then◌else◌}
use Rattle.std.proofs.lemmas.Bool.{and_from}
use Rattle.std.proofs.lemmas.Bool.Decides.{nat_tests}
use Rattle.ctypes.specs.declared.types.IntType.TheVariants as ty
use Rattle.typing_spec.specs.Types.{number, FunctionType, elements_in}
use Rattle.typing_spec.specs.Program as typed
use Rattle.typing_spec.specs.Program.{Function, Static, Program}
use Rattle.typing_spec.specs.Scope.{Scope, StaticObject, Binding, BuiltIn, a_function, file_scope, is_called, literal_of, built_in, built_in_or, by_definition, place_from}
use Rattle.typing_spec.specs.Declarations.{Initial}
use Rattle.typing_spec.specs.Units.{Built, values_for, statics_from, literals_of, program_of}
use Rattle.typing_spec.specs.WellTyped.{callee_type, values_fit, statics_are_typed}
use Rattle.lower_wf.specs.Settled.{Setting, Wider, IsWider, text_in, callee_in, CalleeFits}
use Rattle.lower_wf.proofs.Same.{same_number}
use Rattle.lower_wf.proofs.Ground.{same_some}
use Rattle.lower_wf.proofs.Items.{InitialsGood}
use Rattle.lower_wf_units.proofs.FileSteps.{wider_self}
use Rattle.lower_wf_units.proofs.FilePassed.{names_of}
use Rattle.lower_wf_units.proofs.Files.{Stands, IsFile, Final, Named}

-- ---- string literals

text_same : (s : Scope) (texts : List (List ℕ)) → s.texts ≡ texts → (k : ℕ) → literal_of s k ≡ text_in texts k
text_same s texts e k = ap (λ ts. text_in ts k) e

literals_at : (s : Scope) (texts : List (List ℕ)) → s.texts ≡ texts → (ns : List ℕ) (n k : ℕ) → slice_get ns n ≡ Some k →
    slice_get (literals_of s ns) n ≡ Some (text_in texts k ++ 0 ∷ [])
literals_at s texts e [] n k h = absurd (let z : ⊥ = cc in z)
literals_at s texts e (x ∷ ns) zero k h = ap (λ y. Some (y ++ 0 ∷ [])) (text_same s texts e x ∙ ap (text_in texts) (same_some x k h))
literals_at s texts e (x ∷ ns) (suc n) k h = literals_at s texts e ns n k h

-- ---- objects

static_there : (from : ℕ) (os : List StaticObject) (initial : List Initial) (n : ℕ) (o : StaticObject) → slice_get os n ≡ Some o →
    IsWider o.type (slice_get (statics_from from os initial) n)
static_there from [] initial n o e = absurd (let z : ⊥ = cc in z)
static_there from (x ∷ os) initial zero o e = subst (λ y. Wider y.type x.type) (same_some x o e) (wider_self x.type)
static_there from (x ∷ os) initial (suc n) o e = static_there (from + 1) os initial n o e

values_at : (from : ℕ) (os : List StaticObject) (initial : List Initial) (n : ℕ) (o : Static) → slice_get (statics_from from os initial) n ≡ Some o →
    o.values ≡ values_for (from + n) initial
values_at from [] initial n o e = absurd (let z : ⊥ = cc in z)
values_at from (x ∷ os) initial zero o e = sym (ap (λ y. y.values) (same_some _ o e)) ∙ ap (λ k. values_for k initial)
    (let z : from ≡ from + zero = omega arith in z)
values_at from (x ∷ os) initial (suc n) o e = values_at (from + 1) os initial n o e ∙ ap (λ k. values_for k initial)
    (let z : from + 1 + n ≡ from + suc n = omega arith in z)

-- ---- functions

abbrev IsNamed : List Function → ℕ → ℕ → Type 0
IsNamed fs n k = (g : Function) × (slice_get fs k ≡ Some g) × (g.name ≡ n)

named_at : (fs : List Function) (k n : ℕ) → slice_get (names_of fs) k ≡ Some n → IsNamed fs n k
named_at [] k n e = absurd (let z : ⊥ = cc in z)
named_at (g ∷ fs) zero n e = (g, refl, same_some g.name n e)
named_at (g ∷ fs) (suc k) n e = named_at fs k n e

abbrev IsPlaced : ℕ → List ℕ → ℕ → ℕ → Type 0
IsPlaced from ds n k = (j : ℕ) × (k ≡ from + j) × (slice_get ds j ≡ Some n)

placed_at : (from : ℕ) (ds : List ℕ) (n k : ℕ) → place_from from ds n ≡ Some k → IsPlaced from ds n k
placed_at from [] n k e = absurd (let z : ⊥ = cc in z)
placed_at from (d ∷ ds) n k e = by (nat_eq d n) refl e (placed_at (from + 1) ds n k)
  where
    by : (c : Bool) → c ≡ nat_eq d n → (if c then Some from else place_from (from + 1) ds n) ≡ Some k →
        (place_from (from + 1) ds n ≡ Some k → IsPlaced (from + 1) ds n k) → IsPlaced from (d ∷ ds) n k
    by true f g h = (zero, (let z = same_some from k g in omega (arith, z)), ap Some (same_number d n (sym f)))
    by false f g h = let r = h g in (suc r.0, (let z = r.1 in omega (arith, z)), r.2)

-- a name denotes one function type
one_type : (s : Scope) (n : ℕ) (t u : FunctionType) → Stands s n (a_function t) → Stands s n (a_function u) → t ≡ u
one_type s n t u h k = by h.0 k.0 (same_some h.0 k.0 (sym h.1 ∙ k.1)) h.2 k.2
  where
    same : a_function t ≡ a_function u → t ≡ u
    same e = cc

    by : (a b : Binding) → a ≡ b → a.meaning ≡ a_function t → b.meaning ≡ a_function u → t ≡ u
    by a b e f g = same (sym f ∙ ap (λ x. x.meaning) e ∙ g)

abbrev get_byte_is : BuiltIn
get_byte_is = record { callee = typed.get_byte; type = record { result = Some ty.Int; constant = false; parameters = [] } }

abbrev put_byte_is : BuiltIn
put_byte_is = record { callee = typed.put_byte; type = record { result = None; constant = false; parameters = number ty.Int ∷ [] } }

abbrev exit_is : BuiltIn
exit_is = record { callee = typed.exit; type = record { result = None; constant = false; parameters = number ty.Int ∷ [] } }

built_in_fits : (p : Program) (s : Scope) (n : ℕ) (b : BuiltIn) → built_in s n ≡ Some b → CalleeFits p b.callee b.type
built_in_fits p s n b e = by (is_called s n (codes "rv_getbyte")) (is_called s n (codes "rv_putbyte")) (is_called s n (codes "rv_exit")) e
  where
    same : (c : BuiltIn) → Some c ≡ Some b → CalleeFits p c.callee c.type → CalleeFits p b.callee b.type
    same c e h = subst (λ x. CalleeFits p x.callee x.type) (same_some c b e) h

    by : (x y z : Bool) → (if x then Some get_byte_is else if y then Some put_byte_is else if z then Some exit_is else None) ≡ Some b →
        CalleeFits p b.callee b.type
    by true y z e = same get_byte_is e refl
    by false true z e = same put_byte_is e refl
    by false false true e = same exit_is e refl
    by false false false e = absurd (let z : ⊥ = cc in z)

abbrev type_of_found : Option Function → Option FunctionType
type_of_found o = elim o as (λ x. Option FunctionType) [ None ↦ None | Some g ↦ Some g.type ]

module _ (p : Program) (texts : List (List ℕ)) (definitions : List ℕ) (s : Scope) (file : IsFile s) (same : s.texts ≡ texts)
    (named : names_of p.functions ≡ definitions)
    (stand : (k : ℕ) (g : Function) → slice_get p.functions k ≡ Some g → Stands s g.name (a_function g.type)) where
  found_fits : (n k : ℕ) (t : FunctionType) → Stands s n (a_function t) → slice_get definitions k ≡ Some n → callee_type p (typed.function k) ≡ Some t
  found_fits n k t h e =
      let r = named_at p.functions k n (ap (λ l. slice_get l k) named ∙ e) in
      let there : Stands s n (a_function r.0.type) = subst (λ m. Stands s m (a_function r.0.type)) r.2 (stand k r.0 r.1) in
      ap (λ o. type_of_found o) r.1 ∙ ap Some (one_type s n r.0.type t there h)

  place_fits : (n : ℕ) (t : FunctionType) → Stands s n (a_function t) → (o : Option ℕ) → o ≡ place_from 0 definitions n → CalleeFits p (by_definition n o) t
  place_fits n t h None e = tt
  place_fits n t h (Some k) e =
      let r = placed_at 0 definitions n k (sym e) in
      let place : k ≡ r.0 = (let z = r.1 in omega (arith, z)) in
      found_fits n k t h (ap (slice_get definitions) place ∙ r.2)

  callee_by : (n : ℕ) (t : FunctionType) → Stands s n (a_function t) → (o : Option BuiltIn) → o ≡ built_in (file_scope texts definitions) n →
      CalleeFits p (built_in_or (by_definition n (place_from 0 definitions n)) o) t
  callee_by n t h None e = place_fits n t h (place_from 0 definitions n) refl
  callee_by n t h (Some b) e =
      let here : built_in s n ≡ Some b = ap (λ ts. built_in (file_scope ts definitions) n) same ∙ sym e in
      subst (CalleeFits p b.callee) (file.names n (a_function t) h b here) (built_in_fits p s n b here)

  pub callee_fits : (n : ℕ) (t : FunctionType) → Stands s n (a_function t) → CalleeFits p (callee_in texts definitions n) t
  callee_fits n t h = callee_by n t h (built_in (file_scope texts definitions) n) refl

-- ---- the last scope of a unit

module _ (b : Built) (main : ℕ) (texts : List (List ℕ)) (definitions : List ℕ) where
  abbrev P : Program
  P = program_of b main

  pub final : IsFile b.scope → b.scope.texts ≡ texts → names_of b.functions ≡ definitions →
      ((k : ℕ) (g : Function) → slice_get b.functions k ≡ Some g → Stands b.scope g.name (a_function g.type)) → Final P texts definitions b.scope
  final file same named stand = record {
    literals = λ g n k e. literals_at b.scope texts same b.scope.literals n k e;
    statics = λ g n o e. static_there 0 b.scope.statics b.initial n o e;
    functions = callee_fits P texts definitions b.scope file same named stand;
  }

-- ---- its first scope

pub file_begins : (texts : List (List ℕ)) (definitions : List ℕ) → IsFile (file_scope texts definitions)
file_begins texts definitions = record {
  level = refl;
  levels = λ n b e. absurd (let z : ⊥ = cc in z);
  names = λ n m h. absurd (let e = h.1 in let z : ⊥ = cc in z);
  apart = λ n k i t u h l. absurd (let e = h.1 in let z : ⊥ = cc in z);
}

pub names_begin : (p : Program) (texts : List (List ℕ)) (definitions : List ℕ) → Named p texts definitions (file_scope texts definitions)
names_begin p texts definitions g = (refl, refl, tt)

-- ---- the first values of its objects

abbrev Laid : Static → List ℤ → Type 0
Laid o vs = (length vs ≤ elements_in o.type.lengths) × (values_fit o.type.element vs ≡ true)

values_laid : (W : Setting) (is : List Initial) (n : ℕ) (o : Static) → slice_get W.program.statics n ≡ Some o → InitialsGood W is → Laid o (values_for n is)
values_laid W [] n o e h = (omega arith, refl)
values_laid W (i ∷ is) n o e h = by (nat_eq i.static n) refl (values_laid W is n o e h.1)
  where
    by : (c : Bool) → c ≡ nat_eq i.static n → Laid o (values_for n is) → Laid o (if c then i.values else values_for n is)
    by true f rest = h.0 o (ap (slice_get W.program.statics) (same_number i.static n (sym f)) ∙ e)
    by false f rest = rest

at_most : (a b : ℕ) → a ≤ b → nat_le a b ≡ true
at_most a b h = grind (arith, nat_tests, h)

all_laid : (os : List Static) → ((n : ℕ) (o : Static) → slice_get os n ≡ Some o → Laid o o.values) → statics_are_typed os ≡ true
all_laid [] h = refl
all_laid (o ∷ os) h =
    let w = h zero o refl in
    and_from (nat_le (length o.values) (elements_in o.type.lengths)) (values_fit o.type.element o.values && statics_are_typed os)
    (at_most (length o.values) (elements_in o.type.lengths) w.0)
    (and_from (values_fit o.type.element o.values) (statics_are_typed os) w.1 (all_laid os (λ n x e. h (suc n) x e)))

pub statics_typed : (b : Built) (main : ℕ) (W : Setting) → W.program ≡ program_of b main → InitialsGood W b.initial →
    statics_are_typed (program_of b main).statics ≡ true
statics_typed b main W e h =
    all_laid (statics_from 0 b.scope.statics b.initial) (λ n o f.
    subst (Laid o) (sym (values_at 0 b.scope.statics b.initial n o f ∙ ap (λ k. values_for k b.initial) (let z : 0 + n ≡ n = omega arith in z)))
    (values_laid W b.initial n o (ap (λ q. slice_get q.statics n) e ∙ f) h))
