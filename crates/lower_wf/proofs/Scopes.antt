-- Scopes only grow, and end as the program has them.
use Rattle.std.proofs.Common.{◌≡◌, ◌≤◌, ℕ, ◌*◌, Bool, List, [], ◌∷◌, ◌++◌, length, Option, Some, None, refl, sym, ap, ◌∙◌, subst, append_assoc, append-nil, arith}
use Rattle.std.specs.Prelude.{slice_get}
use Rattle.std.proofs.lemmas.List.{length-append}
use Rattle.ctypes.specs.declared.types.IntType.{IntType}
use Rattle.typing_spec.specs.Types.{ObjectType, DeclaredType, complete, elements_in}
use Rattle.typing_spec.specs.Program.{Static}
use Rattle.typing_spec.specs.Scope.{Scope, Meaning, Linkage, State, with_name, with_tag, with_literals, inside, outside}
use Rattle.typing_spec.specs.Nodes.{static_type}
pub use Rattle.lower_wf.specs.Settled.{LengthsWider, Wider, IsWider, StaticsEnd, ObjectsEnd, Ends}
use Rattle.lower_wf.proofs.Ground.{Setting, RowsAre, FitsBy, Fits, fits_self, TextsEnd}
use Rattle.lower_wf.proofs.Typings.{get_left, texts_left}

pub record Extends {A : Type 0} (xs ys : List A) : Type 0 where
  pub more : List A
  pub is : ys ≡ xs ++ more

pub extends_none : {A : Type 0} (xs : List A) → Extends xs xs
extends_none xs = record { more = []; is = sym (append-nil xs) }

pub extends_by : {A : Type 0} (xs more : List A) → Extends xs (xs ++ more)
extends_by xs more = record { more = more; is = refl }

pub extends_on : {A : Type 0} (xs ys zs : List A) → Extends xs ys → Extends ys zs → Extends xs zs
extends_on xs ys zs h k = record { more = h.more ++ k.more; is = k.is ∙ ap (λ l. l ++ k.more) h.is ∙ append_assoc xs h.more k.more }

pub record Grown (s u : Scope) : Type 0 where
  pub texts : u.texts ≡ s.texts
  pub definitions : u.definitions ≡ s.definitions
  pub level : u.level ≡ s.level
  pub literals : Extends s.literals u.literals
  pub statics : Extends s.statics u.statics
  pub objects : Extends s.objects u.objects

pub stays : (s : Scope) → Grown s s
stays s = record { texts = refl; definitions = refl; level = refl; literals = extends_none s.literals; statics = extends_none s.statics; objects = extends_none s.objects }

pub onwards : (s t u : Scope) → Grown s t → Grown t u → Grown s u
onwards s t u g h = record {
  texts = h.texts ∙ g.texts;
  definitions = h.definitions ∙ g.definitions;
  level = h.level ∙ g.level;
  literals = extends_on s.literals t.literals u.literals g.literals h.literals;
  statics = extends_on s.statics t.statics u.statics g.statics h.statics;
  objects = extends_on s.objects t.objects u.objects g.objects h.objects;
}

pub literals_grow : (s : Scope) (more : List ℕ) → Grown s (with_literals s more)
literals_grow s more = record { texts = refl; definitions = refl; level = refl; literals = extends_by s.literals more; statics = extends_none s.statics; objects = extends_none s.objects }

pub name_grows : (s : Scope) (n : ℕ) (m : Meaning) (l : Linkage) (state : State) → Grown s (with_name s n m l state)
name_grows s n m l state = record { texts = refl; definitions = refl; level = refl; literals = extends_none s.literals; statics = extends_none s.statics; objects = extends_none s.objects }

pub tag_grows : (s : Scope) (n : ℕ) (c : Bool) → Grown s (with_tag s n c)
tag_grows s n c = record { texts = refl; definitions = refl; level = refl; literals = extends_none s.literals; statics = extends_none s.statics; objects = extends_none s.objects }

-- a block, from outside
pub block_grows : (s u : Scope) → Grown (inside s) u → Grown s (outside s u)
block_grows s u g = record { texts = g.texts; definitions = g.definitions; level = refl; literals = g.literals; statics = g.statics; objects = g.objects }

pub longer : (s u : Scope) → Grown s u → length s.objects ≤ length u.objects
longer s u g = let e = ap length g.objects.is in let f = length-append s.objects g.objects.more in omega (arith, e, f)

object_is : (t : ObjectType) (e : IntType) (c : Bool) (l : List ℕ) → t.element ≡ e → t.constant ≡ c → t.lengths ≡ l → t ≡ record { element = e; constant = c; lengths = l }
object_is t e c l p q r = by t.element t.constant t.lengths p q r
  where
    by : (x : IntType) (y : Bool) (z : List ℕ) → x ≡ e → y ≡ c → z ≡ l → let a : ObjectType = record { element = x; constant = y; lengths = z } in let b : ObjectType = record { element = e; constant = c; lengths = l } in a ≡ b
    by x y z p q r = cc

pub rows_by : (e : IntType) (c : Bool) (m : ℕ) (l : List ℕ) (T : Option DeclaredType) → T ≡ Some (complete (record { element = e; constant = c; lengths = m ∷ l })) → RowsAre (record { element = e; constant = c; lengths = l }) T
rows_by e c m l T h = subst (λ X. RowsAre (record { element = e; constant = c; lengths = l }) X) (sym h) (fits_self (record { element = e; constant = c; lengths = m ∷ l }))

wider_by : (e : IntType) (c : Bool) (l : List ℕ) (o : ObjectType) → o.element ≡ e → o.constant ≡ c → LengthsWider l o.lengths → FitsBy e c l (Some (complete o))
wider_by e c [] o p q h = ap (λ x. Some (complete x)) (object_is o e c [] p q h)
wider_by e c (n ∷ l) o p q h = rows_by e c h.0 l (Some (complete o)) (ap (λ x. Some (complete x)) (object_is o e c (h.0 ∷ l) p q h.1))

pub wider_fits : (t : ObjectType) (o : Option Static) → IsWider t o → Fits (complete t) (static_type o)
wider_fits t None h = absurd h
wider_fits t (Some o) h = wider_by t.element t.constant t.lengths o.type h.0 h.1 h.2

product_more : (a b k : ℕ) → a ≤ b → a * k ≤ b * k
product_more a b k h = grind (arith, h)

pub lengths_more : (l k : List ℕ) → LengthsWider l k → elements_in l ≤ elements_in k
lengths_more [] k h = subst (λ x. 1 ≤ elements_in x) (sym h) (omega arith)
lengths_more (n ∷ l) k h = subst (λ x. n * elements_in l ≤ elements_in x) (sym h.1) (product_more n h.0 (elements_in l) h.2)

pub earlier : (W : Setting) (s u : Scope) → Grown s u → Ends W u → Ends W s
earlier W s u g h = (
  texts_left W s.literals g.literals.more (subst (TextsEnd W) g.literals.is h.0),
  λ n o e. h.1 n o (subst (λ l. slice_get l n ≡ Some o) (sym g.statics.is) (get_left s.statics g.statics.more n o e)),
  λ n t e. h.2 n t (subst (λ l. slice_get l n ≡ Some t) (sym g.objects.is) (get_left s.objects g.objects.more n t e)),
)
