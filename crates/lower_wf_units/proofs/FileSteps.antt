-- Steps from one scope of a file to the next.
use Rattle.std.proofs.Common.{◌≡◌, ℕ, List, [], ◌∷◌, ◌++◌, Bool, Option, Some, None, refl, sym, ap, ◌∙◌, subst, arith}
use Rattle.std.specs.Prelude.{slice_get}
use Rattle.typing_spec.specs.Types.{ObjectType, DeclaredType}
use Rattle.typing_spec.specs.Program as typed
use Rattle.typing_spec.specs.Program.{Function, Static, Program}
use Rattle.typing_spec.specs.Scope.{Scope, StaticObject, Binding, Meaning, an_object, an_array_parameter, a_function, an_enumerator, file_scope, binding_in, built_in, with_tag, with_literals}
use Rattle.typing_spec.specs.Declarations.{Initial}
use Rattle.lower_wf.specs.Settled.{LengthsWider, Wider, IsWider, AllFit, TextsEnd}
use Rattle.lower_wf.proofs.Typings.{get_left, texts_left}
use Rattle.lower_wf.proofs.Scopes.{Extends, extends_none, extends_by, extends_on}
use Rattle.lower_wf.proofs.Items.{all_initials}
use Rattle.lower_wf_units.proofs.Files.{HasStatic, IsOfFile, IsFile, StaticsWider, Onward, in_function, Final, Named, Reaches}

-- ---- wider types

lengths_self : (l : List ℕ) → LengthsWider l l
lengths_self [] = refl
lengths_self (n ∷ l) = (n, refl, omega arith)

lengths_on : (a b c : List ℕ) → LengthsWider a b → LengthsWider b c → LengthsWider a c
lengths_on [] b c g h = subst (λ l. LengthsWider l c) g h
lengths_on (n ∷ l) b c g h =
    let k : LengthsWider (g.0 ∷ l) c = subst (λ x. LengthsWider x c) g.1 h in
    let up = g.2 in let on = k.2 in (k.0, k.1, omega (arith, up, on))

pub wider_self : (t : ObjectType) → Wider t t
wider_self t = (refl, refl, lengths_self t.lengths)

pub wider_on : (a b c : ObjectType) → Wider a b → Wider b c → Wider a c
wider_on a b c g h = (h.0 ∙ g.0, h.1 ∙ g.1, lengths_on a.lengths b.lengths c.lengths g.2 h.2)

pub is_wider_on : (t u : ObjectType) (o : Option Static) → Wider t u → IsWider u o → IsWider t o
is_wider_on t u None g h = h
is_wider_on t u (Some o) g h = wider_on t u o.type g h

pub statics_self : (os : List StaticObject) → StaticsWider os os
statics_self os n o e = (o, e, wider_self o.type)

pub statics_on : (os us vs : List StaticObject) → StaticsWider os us → StaticsWider us vs → StaticsWider os vs
statics_on os us vs g h n o e = let x = g n o e in let y = h n x.0 x.1 in (y.0, y.1, wider_on o.type x.0.type y.0.type x.2 y.2)

pub statics_longer : (os us : List StaticObject) → Extends os us → StaticsWider os us
statics_longer os us x n o e = (o, subst (λ l. slice_get l n ≡ Some o) (sym x.is) (get_left os x.more n o e), wider_self o.type)

-- ---- onward

pub onward_self : (s : Scope) → Onward s s
onward_self s = record { texts = refl; definitions = refl; literals = extends_none s.literals; statics = statics_self s.statics; functions = λ n t k. k }

pub onward_on : (s t u : Scope) → Onward s t → Onward t u → Onward s u
onward_on s t u g h = record {
  texts = h.texts ∙ g.texts;
  definitions = h.definitions ∙ g.definitions;
  literals = extends_on s.literals t.literals u.literals g.literals h.literals;
  statics = statics_on s.statics t.statics u.statics g.statics h.statics;
  functions = λ n f k. h.functions n f (g.functions n f k);
}

-- ---- a scope with the same names, and further literals and objects

pub record Keeps (s u : Scope) : Type 0 where
  pub texts : u.texts ≡ s.texts
  pub definitions : u.definitions ≡ s.definitions
  pub bindings : u.bindings ≡ s.bindings
  pub level : u.level ≡ s.level
  pub literals : Extends s.literals u.literals
  pub statics : Extends s.statics u.statics

abbrev StandsIn : List Binding → ℕ → Meaning → Type 0
StandsIn bs n m = (b : Binding) × (binding_in bs n ≡ Some b) × (b.meaning ≡ m)

pub built_in_as : (s u : Scope) (n : ℕ) → u.texts ≡ s.texts → built_in u n ≡ built_in s n
built_in_as s u n e = ap (λ texts. built_in (file_scope texts []) n) e

pub has_static_on : (s u : Scope) → Extends s.statics u.statics → (i : ℕ) (t : DeclaredType) → HasStatic s i t → HasStatic u i t
has_static_on s u x i t h = (h.0, subst (λ l. slice_get l i ≡ Some h.0) (sym x.is) (get_left s.statics x.more i h.0 h.1), h.2)

pub of_file_on : (s u : Scope) → u.texts ≡ s.texts → Extends s.statics u.statics → (n : ℕ) (m : Meaning) → IsOfFile s n m → IsOfFile u n m
of_file_on s u e x n (an_object (typed.static i) t) h = (has_static_on s u x i t h.0, h.1)
of_file_on s u e x n (an_object (typed.literal i) t) h = absurd h.0
of_file_on s u e x n (an_object (typed.automatic i) t) h = absurd h.0
of_file_on s u e x n (an_object (typed.parameter i) t) h = absurd h.0
of_file_on s u e x n (an_array_parameter k t) h = absurd h
of_file_on s u e x n (a_function t) h = λ b f. h b (sym (built_in_as s u n e) ∙ f)
of_file_on s u e x n (an_enumerator v) h = h

keeps_onward : (s u : Scope) → Keeps s u → Onward s u
keeps_onward s u k = record {
  texts = k.texts;
  definitions = k.definitions;
  literals = k.literals;
  statics = statics_longer s.statics u.statics k.statics;
  functions = λ n t h. subst (λ bs. StandsIn bs n (a_function t)) (sym k.bindings) h;
}

keeps_file : (s u : Scope) → Keeps s u → IsFile s → IsFile u
keeps_file s u k h = record {
  level = k.level ∙ h.level;
  levels = λ n b e. h.levels n b (subst (λ bs. binding_in bs n ≡ Some b) k.bindings e);
  names = λ n m f. of_file_on s u k.texts k.statics n m (h.names n m (subst (λ bs. StandsIn bs n m) k.bindings f));
  apart = λ n l i t v f g.
      h.apart n l i t v (subst (λ bs. StandsIn bs n (an_object (typed.static i) t)) k.bindings f)
      (subst (λ bs. StandsIn bs l (an_object (typed.static i) v)) k.bindings g);
}

module _ (p : Program) (texts : List (List ℕ)) (definitions : List ℕ) where
  pub final_earlier : (s u : Scope) → Onward s u → Final p texts definitions u → Final p texts definitions s
  final_earlier s u g f = record {
    literals = λ a.
        texts_left (in_function p texts definitions a) s.literals g.literals.more
        (subst (TextsEnd (in_function p texts definitions a)) g.literals.is (f.literals a));
    statics = λ a n o e. let x = g.statics n o e in is_wider_on o.type x.0.type (slice_get p.statics n) x.2 (f.statics a n x.0 x.1);
    functions = λ n t k. f.functions n t (g.functions n t k);
  }

  pub reaches_self : (s : Scope) → IsFile s → Reaches p texts definitions s [] s
  reaches_self s h = (onward_self s, h, λ N f. (N, λ a. tt))

  pub reaches_on : (s t u : Scope) (is js : List Initial) → Reaches p texts definitions s is t → Reaches p texts definitions t js u →
      Reaches p texts definitions s (is ++ js) u
  reaches_on s t u is js g h = (
    onward_on s t u g.0 h.0,
    h.1,
    λ N f.
        let x = g.2 N (final_earlier t u h.0 f) in
        let y = h.2 x.0 f in (y.0, λ a. all_initials (in_function p texts definitions a) is js (x.1 a) (y.1 a)),
  )

  keeps_named : (s u : Scope) → Keeps s u → Named p texts definitions s → Named p texts definitions u
  keeps_named s u k N a = let w = N a in (k.texts ∙ w.0, k.definitions ∙ w.1, subst (AllFit (in_function p texts definitions a)) (sym k.bindings) w.2)

  pub reaches_keeping : (s u : Scope) → Keeps s u → IsFile s → Reaches p texts definitions s [] u
  reaches_keeping s u k h = (keeps_onward s u k, keeps_file s u k h, λ N f. (keeps_named s u k N, λ a. tt))

  pub reaches_literals : (s : Scope) (more : List ℕ) → IsFile s → Reaches p texts definitions s [] (with_literals s more)
  reaches_literals s more h =
      reaches_keeping s (with_literals s more)
      (record { texts = refl; definitions = refl; bindings = refl; level = refl; literals = extends_by s.literals more; statics = extends_none s.statics }) h

  pub reaches_tag : (s : Scope) (n : ℕ) (complete : Bool) → IsFile s → Reaches p texts definitions s [] (with_tag s n complete)
  reaches_tag s n complete h =
      reaches_keeping s (with_tag s n complete)
      (record { texts = refl; definitions = refl; bindings = refl; level = refl; literals = extends_none s.literals; statics = extends_none s.statics }) h
