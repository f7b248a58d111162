-- Initialisers depend on the string literals before by their count alone.
use Rattle.std.proofs.Common.{◌≡◌, ℕ, ◌+◌, Bool, true, false, List, ◌++◌, length, refl, sym, ap, ◌∙◌, arith, Option, Some, None, length-append}
use Rattle.std.specs.Prelude.{replicate}
use Rattle.std.proofs.lemmas.List.{length-replicate}
use Rattle.srcset.specs.declared.code.Code.TheVariants as code
use Rattle.srcset.specs.declared.refusal.Pos.{Pos}
use Rattle.ctypes.specs.declared.types.IntType.{IntType}
use Rattle.tree.specs.Tree.{Tree, Init, init_hole, one_init, braced_init, Inits, no_inits, and_init, hole, identifier, constant, string, paren, call, subscript, after, before, prefix, size_of, size_of_type, cast, binary, conditional, assign}
use Rattle.typing_spec.specs.Verdict.{Verdict, fine, breaks, then_check, both, refuse_if, provided}
use Rattle.typing_spec.specs.Program as program
use Rattle.typing_spec.specs.Program.{Initialiser}
use Rattle.typing_spec.specs.Scope.{Scope, literal_of}
use Rattle.typing_spec.specs.Expressions.{Checked, worth, position}
use Rattle.typing_spec.specs.Initialisers.{Wanted, one_number, an_array, wanted, exceeds, of_number, number_from, text_from, text_if, array_from, number_in_braces, text_alone, list_or_text, in_list, initialiser, initialisers, past_init, and_part, strings_of, has_characters}
use Rattle.typing_scopes.specs.Scopes.{with_texts}
use Rattle.typing_expressions.specs.Forms.{seen}
use Rattle.typing_expressions.specs.Numbered.{numbered}
use Rattle.const_expr.proofs.Numbered.{both_same, more, typing_same}
use Rattle.decls_initialisers.specs.inside.Numbered.{initialiser_at}
use Rattle.decls_initialisers.specs.inside.Braces.{initialisers_at}

number_same : (t : List (List ℕ)) (k l : List ℕ) (s : Scope) → length k ≡ length l → (ty : IntType) (e : Tree) → number_from (seen t k s) ty e ≡ number_from (seen t l s) ty e
number_same t k l s h ty e = ap (λ v. then_check v (λ (x : Checked). then_check (worth code.VoidAssigned (position x) x) (of_number ty))) (typing_same t k l s h e)

text_same : (t : List (List ℕ)) (k l : List ℕ) (s : Scope) → length k ≡ length l → (at : Pos) (room : Option ℕ) (n : ℕ) → text_from (seen t k s) at room n ≡ text_from (seen t l s) at room n
text_same t k l s h at room n = ap (λ m. provided (refuse_if (exceeds (length (literal_of (seen t k s) n)) room) code.TooManyInitialisers at) (fine (program.text m))) h

text_if_same : (c top : Bool) (t : List (List ℕ)) (k l : List ℕ) (s : Scope) → length k ≡ length l → (at own : Pos) (room : Option ℕ) (n : ℕ) → text_if c top (seen t k s) at own room n ≡ text_if c top (seen t l s) at own room n
text_if_same true top t k l s h at own room n = text_same t k l s h own room n
text_if_same false top t k l s h at own room n = refl

array_same : (t : List (List ℕ)) (k l : List ℕ) (s : Scope) → length k ≡ length l → (p : Pos) (u : IntType) (room : Option ℕ) (lengths : List ℕ) (top : Bool) (e : Tree) →
    array_from (seen t k s) p u room lengths top e ≡ array_from (seen t l s) p u room lengths top e
array_same t k l s h p u room lengths top hole = refl
array_same t k l s h p u room lengths top (identifier at n) = refl
array_same t k l s h p u room lengths top (constant at ty v) = refl
array_same t k l s h p u room lengths top (string at n) = text_if_same (has_characters u lengths) top t k l s h p at room n
array_same t k l s h p u room lengths top (paren e) = refl
array_same t k l s h p u room lengths top (call at f args) = refl
array_same t k l s h p u room lengths top (subscript at a i) = refl
array_same t k l s h p u room lengths top (after at op a) = refl
array_same t k l s h p u room lengths top (before at op a) = refl
array_same t k l s h p u room lengths top (prefix at op a) = refl
array_same t k l s h p u room lengths top (size_of at a) = refl
array_same t k l s h p u room lengths top (size_of_type at ty) = refl
array_same t k l s h p u room lengths top (cast at ty a) = refl
array_same t k l s h p u room lengths top (binary at op a b) = refl
array_same t k l s h p u room lengths top (conditional at c a b) = refl
array_same t k l s h p u room lengths top (assign at op a b) = refl

braces_same : (t : List (List ℕ)) (k l : List ℕ) (s : Scope) → length k ≡ length l → (p : Pos) (u : IntType) (parts : Inits) → number_in_braces (seen t k s) p u parts ≡ number_in_braces (seen t l s) p u parts
braces_same t k l s h p u no_inits = refl
braces_same t k l s h p u (and_init init_hole is) = refl
braces_same t k l s h p u (and_init (one_init e) no_inits) = ap (λ v. then_check v (λ (i : Initialiser). fine (program.in_braces i))) (number_same t k l s h u e)
braces_same t k l s h p u (and_init (one_init e) (and_init j js)) = ap (λ v. both v (breaks code.TooManyInitialisers p) (λ (x d : Initialiser). fine d)) (number_same t k l s h u e)
braces_same t k l s h p u (and_init (braced_init at parts) is) = refl

or_text_same : (c : Bool) (t : List (List ℕ)) (k l : List ℕ) (s : Scope) → length k ≡ length l → (at : Pos) (u : IntType) (room : Option ℕ) (lengths : List ℕ) (o : Option Tree) (v w : Verdict Initialiser) → v ≡ w →
    list_or_text c (seen t k s) at u room lengths o v ≡ list_or_text c (seen t l s) at u room lengths o w
or_text_same true t k l s h at u room lengths None v w e = e
or_text_same true t k l s h at u room lengths (Some x) v w e = ap (λ z. then_check z (λ (i : Initialiser). fine (program.in_braces i))) (array_same t k l s h at u room lengths false x)
or_text_same false t k l s h at u room lengths o v w e = e

mutual
  pub initialiser_same : (t : List (List ℕ)) (k l : List ℕ) (s : Scope) → length k ≡ length l → (at : Pos) (u : IntType) (w : Wanted) (top : Bool) (i : Init) →
      initialiser (seen t k s) at u w top i ≡ initialiser (seen t l s) at u w top i
  initialiser_same t k l s h at u w top init_hole = refl
  initialiser_same t k l s h at u one_number top (one_init e) = number_same t k l s h u e
  initialiser_same t k l s h at u (an_array room lengths) top (one_init e) = array_same t k l s h at u room lengths top e
  initialiser_same t k l s h at u one_number top (braced_init p parts) = braces_same t k l s h p u parts
  initialiser_same t k l s h at u (an_array room lengths) top (braced_init p parts) =
      or_text_same (has_characters u lengths) t k l s h at u room lengths (text_alone parts) (in_list p room parts (initialisers (seen t k s) p u lengths parts)) (in_list p room parts (initialisers (seen t l s) p u lengths parts))
      (ap (in_list p room parts) (initialisers_same t k l s h p u lengths parts))

  pub initialisers_same : (t : List (List ℕ)) (k l : List ℕ) (s : Scope) → length k ≡ length l → (at : Pos) (u : IntType) (lengths : List ℕ) (is : Inits) →
      initialisers (seen t k s) at u lengths is ≡ initialisers (seen t l s) at u lengths is
  initialisers_same t k l s h at u lengths no_inits = refl
  initialisers_same t k l s h at u lengths (and_init i is) =
      both_same (initialiser (seen t k s) at u (wanted lengths) false i) (initialiser (seen t l s) at u (wanted lengths) false i) (initialisers (past_init (seen t k s) i) at u lengths is)
      (initialisers (past_init (seen t l s) i) at u lengths is) and_part (initialiser_same t k l s h at u (wanted lengths) false i)
      (initialisers_same t (k ++ strings_of i) (l ++ strings_of i) s (more k l (strings_of i) h) at u lengths is)

counted : (n m : ℕ) (k : List ℕ) → m ≡ n + length k → length {A = ℕ} (replicate m 0) ≡ length {A = ℕ} (replicate n 0 ++ k)
counted n m k h = omega (arith, h, length-replicate {A = ℕ} m 0, length-replicate {A = ℕ} n 0, length-append {A = ℕ} (replicate n 0) k)

-- after more literals
pub parts_past : (t : List (List ℕ)) (n m : ℕ) (s : Scope) (i : Init) (at : Pos) (u : IntType) (lengths : List ℕ) (is : Inits) → m ≡ n + length (strings_of i) →
    initialisers_at t m s at u lengths is ≡ initialisers (past_init (numbered t n s) i) at u lengths is
parts_past t n m s i at u lengths is h = initialisers_same t (replicate m 0) (replicate n 0 ++ strings_of i) s (counted n m (strings_of i) h) at u lengths is

-- in a scope that has this number of literals
pub initialiser_whole : (t : List (List ℕ)) (n : ℕ) (s : Scope) (at : Pos) (u : IntType) (w : Wanted) (top : Bool) (i : Init) → n ≡ length s.literals → initialiser (with_texts t s) at u w top i ≡ initialiser_at t n s at u w top i
initialiser_whole t n s at u w top i h = initialiser_same t s.literals (replicate n 0) s (sym (length-replicate {A = ℕ} n 0 ∙ h)) at u w top i
