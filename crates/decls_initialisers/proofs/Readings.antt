-- The parts of a list, as far as they are typed.
use Rattle.std.proofs.Common.{◌≡◌, ℕ, ◌+◌, ◌<◌, ◌≤◌, false, List, [], ◌∷◌, ◌++◌, drop, get_or, length, map, refl, sym, ap, ◌∙◌, subst, arith, append_assoc, append-nil, length-append}
use Rattle.std.proofs.lemmas.List.{drop_all, map_push}
use Rattle.srcset.specs.declared.refusal.Pos.{Pos}
use Rattle.srcset.specs.declared.refusal.Refusal.{Refusal}
use Rattle.ctypes.specs.declared.types.IntType.{IntType}
use Rattle.typed_ast.specs.declared.initialisers.Initialiser as held
use Rattle.typed_ast.specs.View.{initialiser_of, initialisers_of}
use Rattle.tree.specs.Tree.{Init, Inits, and_init}
use Rattle.tree.specs.declared.declaration.Initialiser.{Initialiser}
use Rattle.tree.specs.View.{init_of, inits_of}
use Rattle.typing_spec.specs.Verdict.{fine}
use Rattle.typing_spec.specs.Program as program
use Rattle.typing_spec.specs.Scope.{Scope}
use Rattle.typing_spec.specs.Initialisers as typed
use Rattle.typing_spec.specs.Initialisers.{wanted, past_init, and_part, strings_of, strings_of_all}
use Rattle.typing_expressions.specs.Refused.{Tells}
use Rattle.typing_expressions.specs.Numbered.{numbered}
use Rattle.typing_expressions.proofs.Verdicts.{tells_left, tells_right}
use Rattle.decls_declarators.proofs.Verdicts.{next_of, both_fine}
use Rattle.decls_initialisers.specs.inside.Numbered.{initialiser_at}
use Rattle.decls_initialisers.specs.inside.Braces.{initialisers_at}
use Rattle.decls_initialisers.proofs.Numbered.{parts_past}

abbrev pub parts_of : List Initialiser → Inits
parts_of is = inits_of (map init_of is)

-- the result on the rest determines the result on the whole
pub record Reading (t : List (List ℕ)) (s : Scope) (at : Pos) (u : IntType) (lengths : List ℕ) (start now : ℕ) (all rest : List Initialiser) (done : List held.Initialiser) : Type 0 where
  pub ok : (is : List program.Initialiser) → initialisers_at t now s at u lengths (parts_of rest) ≡ fine (initialisers_of is) → initialisers_at t start s at u lengths (parts_of all) ≡ fine (initialisers_of (map initialiser_of done ++ is))
  pub err : (r : Refusal) → Tells r (initialisers_at t now s at u lengths (parts_of rest)) → Tells r (initialisers_at t start s at u lengths (parts_of all))
  pub count : now + length (strings_of_all (parts_of rest)) ≡ start + length (strings_of_all (parts_of all))

pub begun : (t : List (List ℕ)) (s : Scope) (at : Pos) (u : IntType) (lengths : List ℕ) (n : ℕ) (all : List Initialiser) (done : List held.Initialiser) → done ≡ [] → Reading t s at u lengths n n all all done
begun t s at u lengths n all done e = subst (λ d. Reading t s at u lengths n n all all d) (sym e) (record { ok = λ is q. q; err = λ r q. q; count = refl })

one_part : (t : List (List ℕ)) (s : Scope) (at : Pos) (u : IntType) (lengths : List ℕ) (n m : ℕ) (i : Init) (is : Inits) (x : program.Initialiser) (xs : program.Initialisers) →
    initialiser_at t n s at u (wanted lengths) false i ≡ fine x → m ≡ n + length (strings_of i) → initialisers_at t m s at u lengths is ≡ fine xs →
    initialisers_at t n s at u lengths (and_init i is) ≡ fine (program.and_initialiser x xs)
one_part t s at u lengths n m i is x xs f c g =
    both_fine (initialiser_at t n s at u (wanted lengths) false i) (typed.initialisers (past_init (numbered t n s) i) at u lengths is) x xs and_part f (sym (parts_past t n m s i at u lengths is c) ∙ g)

step_rest : (t : List (List ℕ)) (s : Scope) (at : Pos) (u : IntType) (lengths : List ℕ) (start n m : ℕ) (all : List Initialiser) (part : Initialiser) (rest : List Initialiser) (done more : List held.Initialiser) (x : held.Initialiser) →
    Reading t s at u lengths start n all (part ∷ rest) done → initialiser_at t n s at u (wanted lengths) false (init_of part) ≡ fine (initialiser_of x) → m ≡ n + length (strings_of (init_of part)) → more ≡ done ++ x ∷ [] →
    Reading t s at u lengths start m all rest more
step_rest t s at u lengths start n m all part rest done more x h f c g = record {
  ok = λ is q.
      h.ok (initialiser_of x ∷ is) (one_part t s at u lengths n m (init_of part) (parts_of rest) (initialiser_of x) (initialisers_of is) f c q)
      ∙ ap (λ l. fine (initialisers_of l)) (sym (ap (λ l. map initialiser_of l ++ is) g ∙ ap (λ l. l ++ is) (map_push initialiser_of done x) ∙ append_assoc (map initialiser_of done) (initialiser_of x ∷ []) is));
  err = λ r q.
      h.err r (tells_right r (initialiser_at t n s at u (wanted lengths) false (init_of part)) (typed.initialisers (past_init (numbered t n s) (init_of part)) at u lengths (parts_of rest)) and_part
      (subst (λ v. Tells r v) (parts_past t n m s (init_of part) at u lengths (parts_of rest) c) q));
  count = let e = h.count in let k = length-append (strings_of (init_of part)) (strings_of_all (parts_of rest)) in omega (arith, e, k, c);
}

at_rest : (t : List (List ℕ)) (s : Scope) (at : Pos) (u : IntType) (lengths : List ℕ) (start n : ℕ) (all rest other : List Initialiser) (done : List held.Initialiser) → rest ≡ other → Reading t s at u lengths start n all rest done →
    Reading t s at u lengths start n all other done
at_rest t s at u lengths start n all rest other done e h = subst (λ l. Reading t s at u lengths start n all l done) e h

pub step : (t : List (List ℕ)) (s : Scope) (at : Pos) (u : IntType) (lengths : List ℕ) (start n m : ℕ) (all : List Initialiser) (i : ℕ) (part : Initialiser) (done more : List held.Initialiser) (x : held.Initialiser) → i < length all → part ≡ get_or all i part →
    Reading t s at u lengths start n all (drop i all) done → initialiser_at t n s at u (wanted lengths) false (init_of part) ≡ fine (initialiser_of x) → m ≡ n + length (strings_of (init_of part)) → more ≡ done ++ x ∷ [] →
    Reading t s at u lengths start m all (drop (i + 1) all) more
step t s at u lengths start n m all i part done more x h g inv f c k =
    step_rest t s at u lengths start n m all part (drop (i + 1) all) done more x (at_rest t s at u lengths start n all _ _ done (next_of all i part h g) inv) f c k

pub stops : (t : List (List ℕ)) (s : Scope) (at : Pos) (u : IntType) (lengths : List ℕ) (start n : ℕ) (all : List Initialiser) (i : ℕ) (part : Initialiser) (done : List held.Initialiser) (r : Refusal) → i < length all → part ≡ get_or all i part →
    Reading t s at u lengths start n all (drop i all) done → Tells r (initialiser_at t n s at u (wanted lengths) false (init_of part)) → Tells r (initialisers_at t start s at u lengths (parts_of all))
stops t s at u lengths start n all i part done r h g inv q =
    inv.err r (subst (λ l. Tells r (initialisers_at t n s at u lengths (parts_of l))) (sym (next_of all i part h g))
    (tells_left r (initialiser_at t n s at u (wanted lengths) false (init_of part)) (typed.initialisers (past_init (numbered t n s) (init_of part)) at u lengths (parts_of (drop (i + 1) all))) and_part q))

pub ended : (t : List (List ℕ)) (s : Scope) (at : Pos) (u : IntType) (lengths : List ℕ) (start n : ℕ) (all : List Initialiser) (i : ℕ) (done : List held.Initialiser) → length all ≤ i → Reading t s at u lengths start n all (drop i all) done →
    initialisers_at t start s at u lengths (parts_of all) ≡ fine (initialisers_of (map initialiser_of done))
ended t s at u lengths start n all i done h inv =
    (at_rest t s at u lengths start n all _ _ done (drop_all i all h) inv).ok [] refl ∙ ap (λ l. fine (initialisers_of l)) (append-nil (map initialiser_of done))

pub ended_count : (t : List (List ℕ)) (s : Scope) (at : Pos) (u : IntType) (lengths : List ℕ) (start n : ℕ) (all : List Initialiser) (i : ℕ) (done : List held.Initialiser) → length all ≤ i → Reading t s at u lengths start n all (drop i all) done →
    n ≡ start + length (strings_of_all (parts_of all))
ended_count t s at u lengths start n all i done h inv = let e = (at_rest t s at u lengths start n all _ _ done (drop_all i all h) inv).count in omega (arith, e)
