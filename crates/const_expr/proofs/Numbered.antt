-- Typing depends on the string literals before by their count alone.
use Rattle.std.proofs.Common.{◌≡◌, ℕ, List, [], ◌∷◌, ◌++◌, length, refl, sym, ap, ◌∙◌, arith, Option, Some, None, not}
use Rattle.std.proofs.Common.{length-append}
use Rattle.srcset.specs.declared.code.Code.TheVariants as code
use Rattle.srcset.specs.declared.refusal.Pos.{Pos}
use Rattle.tree.specs.declared.expression.TypeSpecifier.{TypeSpecifier}
use Rattle.tree.specs.Tree.{Tree, Trees, TypeTree, hole, identifier, constant, string, paren, call, subscript, after, before, prefix, size_of, size_of_type, cast, binary, conditional, assign, no_trees, one_more, type_name}
use Rattle.typing_spec.specs.Types.{ParameterType, ObjectType}
use Rattle.typing_spec.specs.Verdict.{Verdict, fine, broken, then_check, both, each, refuse_if, provided}
use Rattle.typing_spec.specs.Program as program
use Rattle.typing_spec.specs.Operators.{assigning}
use Rattle.typing_spec.specs.Scope.{Scope, Binding, Meaning, an_object, an_array_parameter, a_function, an_enumerator, lookup, tag_in, strings, strings_of_type, past, past_type, literal_of}
use Rattle.typing_spec.specs.Constants.{constant_form, no_comma}
use Rattle.typing_spec.specs.Specifiers.{tags_known, tags_of, is_complete, base_type, base_or_fault, is_const, named_type, count, words_of}
use Rattle.typing_spec.specs.Expressions as typed
use Rattle.typing_spec.specs.Expressions.{typing, arguments, named_in, lengths_in, string_type, too_large, Checked, Called, function_named, function_meant, subscripted, target, step, valued, signed_value, measured, type_measured, cast_to, operated, arms, chosen_by, assignment, argument, call_of, size_in, and_size, type_of}
use Rattle.typing_expressions.specs.Forms.{seen}

-- ---- verdicts

pub then_same : {A B : Type 0} (v w : Verdict A) (f g : A → Verdict B) → v ≡ w → ((a : A) → f a ≡ g a) → then_check v f ≡ then_check w g
then_same (fine a) w f g e h = h a ∙ ap (λ k. then_check k g) e
then_same (broken vs) w f g e h = ap (λ k. then_check k g) e

pub both_same : {A B C : Type 0} (v w : Verdict A) (x y : Verdict B) (f : A → B → Verdict C) → v ≡ w → x ≡ y → both v x f ≡ both w y f
both_same v w x y f e h = ap (λ k. both k x f) e ∙ ap (λ k. both w k f) h

-- ---- functions that do not read the literals

pub form_same : (t : List (List ℕ)) (k : List ℕ) (s : Scope) (e : Tree) → constant_form s e ≡ constant_form (seen t k s) e
form_same t k s hole = refl
form_same t k s (identifier at n) = refl
form_same t k s (constant at ty v) = refl
form_same t k s (string at n) = refl
form_same t k s (paren e) = form_same t k s e
form_same t k s (call at f args) = refl
form_same t k s (subscript at a i) = refl
form_same t k s (after at op a) = refl
form_same t k s (before at op a) = refl
form_same t k s (prefix at op a) = form_same t k s a
form_same t k s (size_of at a) = refl
form_same t k s (size_of_type at ty) = refl
form_same t k s (cast at ty a) = form_same t k s a
form_same t k s (binary at op a b) =
    ap (each (no_comma at op)) (both_same (constant_form s a) (constant_form (seen t k s) a) (constant_form s b) (constant_form (seen t k s) b) (λ u v. fine tt) (form_same t k s a) (form_same t k s b))
form_same t k s (conditional at c a b) =
    both_same (constant_form s c) (constant_form (seen t k s) c) (each (constant_form s a) (constant_form s b)) (each (constant_form (seen t k s) a) (constant_form (seen t k s) b)) (λ u v. fine tt)
    (form_same t k s c)
    (both_same (constant_form s a) (constant_form (seen t k s) a) (constant_form s b) (constant_form (seen t k s) b) (λ u v. fine tt) (form_same t k s a) (form_same t k s b))
form_same t k s (assign at op a b) = refl

tags_same : (t : List (List ℕ)) (k : List ℕ) (s : Scope) (at : Pos) (ts : List ℕ) → tags_known s at ts ≡ tags_known (seen t k s) at ts
tags_same t k s at [] = refl
tags_same t k s at (n ∷ ns) = ap (each (refuse_if (not (is_complete (tag_in s.tags n))) code.BadEnumTag at)) (tags_same t k s at ns)

pub base_same : (t : List (List ℕ)) (k : List ℕ) (s : Scope) (at : Pos) (ss : List TypeSpecifier) → base_type s at ss ≡ base_type (seen t k s) at ss
base_same t k s at ss = ap (λ v. provided v (base_or_fault at (is_const ss) (named_type (count (tags_of ss)) (words_of ss)))) (tags_same t k s at (tags_of ss))

meant_same : (t : List (List ℕ)) (k l : List ℕ) (s : Scope) (at : Pos) (f : ℕ) (m : Meaning) → function_meant (seen t k s) at f m ≡ function_meant (seen t l s) at f m
meant_same t k l s at f (an_object what u) = refl
meant_same t k l s at f (an_array_parameter n u) = refl
meant_same t k l s at f (a_function u) = refl
meant_same t k l s at f (an_enumerator v) = refl

function_same : (t : List (List ℕ)) (k l : List ℕ) (s : Scope) (at : Pos) (f : ℕ) (b : Option Binding) → function_named (seen t k s) at f b ≡ function_named (seen t l s) at f b
function_same t k l s at f None = refl
function_same t k l s at f (Some b) = meant_same t k l s at f b.meaning

pub more : (k l m : List ℕ) → length k ≡ length l → length (k ++ m) ≡ length (l ++ m)
more k l m h = omega (arith, h, length-append k m, length-append l m)

-- ---- typing

mutual
  pub typing_same : (t : List (List ℕ)) (k l : List ℕ) (s : Scope) → length k ≡ length l → (e : Tree) → typing (seen t k s) e ≡ typing (seen t l s) e
  typing_same t k l s h hole = refl
  typing_same t k l s h (identifier at n) = refl
  typing_same t k l s h (constant at ty v) = refl
  typing_same t k l s h (string at n) =
      let u = string_type (literal_of (seen t k s) n) in ap (λ m. provided (too_large at u) (fine (typed.array at (Rattle.typing_spec.specs.Types.complete u) (program.named at (program.literal m))))) h
  typing_same t k l s h (paren e) = typing_same t k l s h e
  typing_same t k l s h (call at f args) =
      then_same (function_named (seen t k s) at f (lookup s f)) (function_named (seen t l s) at f (lookup s f)) (λ g. then_check (arguments (seen t k s) at g.type.parameters args) (call_of at g))
      (λ g. then_check (arguments (seen t l s) at g.type.parameters args) (call_of at g)) (function_same t k l s at f (lookup s f))
      (λ g. ap (λ v. then_check v (call_of at g)) (arguments_same t k l s h at args g.type.parameters))
  typing_same t k l s h (subscript at a i) = both_same (typing (seen t k s) a) (typing (seen t l s) a) (typing (past (seen t k s) a) i) (typing (past (seen t l s) a) i) (subscripted at) (typing_same t k l s h a)
      (typing_same t (k ++ strings a) (l ++ strings a) s (more k l (strings a) h) i)
  typing_same t k l s h (after at o a) = ap (λ v. then_check v (λ x. then_check (target at x) (step at program.after o))) (typing_same t k l s h a)
  typing_same t k l s h (before at o a) = ap (λ v. then_check v (λ x. then_check (target at x) (step at program.before o))) (typing_same t k l s h a)
  typing_same t k l s h (prefix at o a) = ap (λ v. then_check (valued code.VoidOperand at v) (signed_value at o)) (typing_same t k l s h a)
  typing_same t k l s h (size_of at a) = ap (λ v. then_check v (measured at)) (typing_same t k l s h a)
  typing_same t k l s h (size_of_type at u) = ap (λ v. then_check v (type_measured at)) (named_same t k l s h u)
  typing_same t k l s h (cast at u a) =
      both_same (named_in (seen t k s) u) (named_in (seen t l s) u) (typing (past_type (seen t k s) u) a) (typing (past_type (seen t l s) u) a) (cast_to at) (named_same t k l s h u)
      (typing_same t (k ++ strings_of_type u) (l ++ strings_of_type u) s (more k l (strings_of_type u) h) a)
  typing_same t k l s h (binary at o a b) = both_same (typing (seen t k s) a) (typing (seen t l s) a) (typing (past (seen t k s) a) b) (typing (past (seen t l s) a) b) (operated at o) (typing_same t k l s h a)
      (typing_same t (k ++ strings a) (l ++ strings a) s (more k l (strings a) h) b)
  typing_same t k l s h (conditional at c a b) =
      both_same (valued code.VoidOperand at (typing (seen t k s) c)) (valued code.VoidOperand at (typing (seen t l s) c))
      (both (typing (past (seen t k s) c) a) (typing (past (past (seen t k s) c) a) b) arms) (both (typing (past (seen t l s) c) a) (typing (past (past (seen t l s) c) a) b) arms) (chosen_by at)
      (ap (valued code.VoidOperand at) (typing_same t k l s h c))
      (both_same (typing (seen t (k ++ strings c) s) a) (typing (seen t (l ++ strings c) s) a) (typing (past (seen t (k ++ strings c) s) a) b) (typing (past (seen t (l ++ strings c) s) a) b) arms (typing_same t (k ++ strings c) (l ++ strings c) s (more k l (strings c) h) a)
      (typing_same t ((k ++ strings c) ++ strings a) ((l ++ strings c) ++ strings a) s (more (k ++ strings c) (l ++ strings c) (strings a) (more k l (strings c) h)) b))
  typing_same t k l s h (assign at o a b) = both_same (typing (seen t k s) a) (typing (seen t l s) a) (typing (past (seen t k s) a) b) (typing (past (seen t l s) a) b) (assignment at (assigning o)) (typing_same t k l s h a)
      (typing_same t (k ++ strings a) (l ++ strings a) s (more k l (strings a) h) b)

  pub arguments_same : (t : List (List ℕ)) (k l : List ℕ) (s : Scope) → length k ≡ length l → (at : Pos) (es : Trees) (ps : List ParameterType) → arguments (seen t k s) at ps es ≡ arguments (seen t l s) at ps es
  arguments_same t k l s h at no_trees [] = refl
  arguments_same t k l s h at no_trees (p ∷ ps) = refl
  arguments_same t k l s h at (one_more e es) [] = refl
  arguments_same t k l s h at (one_more e es) (p ∷ ps) =
      both_same (typing (seen t k s) e) (typing (seen t l s) e) (arguments (past (seen t k s) e) at ps es) (arguments (past (seen t l s) e) at ps es) (argument at p) (typing_same t k l s h e)
      (arguments_same t (k ++ strings e) (l ++ strings e) s (more k l (strings e) h) at es ps)

  pub named_same : (t : List (List ℕ)) (k l : List ℕ) (s : Scope) → length k ≡ length l → (u : TypeTree) → named_in (seen t k s) u ≡ named_in (seen t l s) u
  named_same t k l s h (type_name at ss sizes) =
      both_same (base_type (seen t k s) at ss) (base_type (seen t l s) at ss) (lengths_in (seen t k s) at sizes) (lengths_in (seen t l s) at sizes) (type_of at)
      (sym (base_same t k s at ss) ∙ base_same t l s at ss) (lengths_same t k l s h at sizes)

  pub lengths_same : (t : List (List ℕ)) (k l : List ℕ) (s : Scope) → length k ≡ length l → (at : Pos) (es : Trees) → lengths_in (seen t k s) at es ≡ lengths_in (seen t l s) at es
  lengths_same t k l s h at no_trees = refl
  lengths_same t k l s h at (one_more e es) =
      both_same (then_check (constant_form (seen t k s) e) (λ u. then_check (typing (seen t k s) e) (size_in at))) (then_check (constant_form (seen t l s) e) (λ u. then_check (typing (seen t l s) e) (size_in at)))
      (lengths_in (past (seen t k s) e) at es) (lengths_in (past (seen t l s) e) at es) and_size
      (then_same (constant_form (seen t k s) e) (constant_form (seen t l s) e) (λ u. then_check (typing (seen t k s) e) (size_in at)) (λ u. then_check (typing (seen t l s) e) (size_in at))
      (sym (form_same t k s e) ∙ form_same t l s e) (λ u. ap (λ v. then_check v (size_in at)) (typing_same t k l s h e)))
      (lengths_same t (k ++ strings e) (l ++ strings e) s (more k l (strings e) h) at es)
