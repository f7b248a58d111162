-- The sizes in the name of a type, as far as they are typed.
use Rattle.std.proofs.Common.{◌≡◌, ℕ, ◌+◌, ◌<◌, ◌≤◌, List, [], ◌∷◌, ◌++◌, drop, get_or, length, map, refl, sym, ap, ◌∙◌, subst, arith, append_assoc, append-nil, length-append}
use Rattle.std.proofs.lemmas.List.{drop_all}
use Rattle.srcset.specs.declared.refusal.Pos.{Pos}
use Rattle.srcset.specs.declared.refusal.Refusal.{Refusal}
use Rattle.tree.specs.declared.expression.Expr.{Expr}
use Rattle.tree.specs.View.{tree_of, trees_of}
use Rattle.typing_spec.specs.Verdict.{fine, both, then_check}
use Rattle.typing_spec.specs.Scope.{Scope, strings, strings_in, past}
use Rattle.typing_spec.specs.Expressions as typed
use Rattle.typing_expressions.specs.Refused.{Tells}
use Rattle.typing_expressions.specs.Numbered.{numbered, size_at, lengths_at}
use Rattle.typing_expressions.proofs.Verdicts.{tells_left, tells_right}
use Rattle.const_expr.proofs.Listed.{next_of}
use Rattle.const_expr.proofs.Parts.{lengths_past}

-- the result for the rest gives the result for the whole
pub record Read (t : List (List ℕ)) (s : Scope) (at : Pos) (start now : ℕ) (all es : List Expr) (done : List ℕ) : Type 0 where
  pub ok : (ns : List ℕ) → lengths_at t now s at (trees_of (map tree_of es)) ≡ fine ns → lengths_at t start s at (trees_of (map tree_of all)) ≡ fine (done ++ ns)
  pub err : (r : Refusal) → Tells r (lengths_at t now s at (trees_of (map tree_of es))) → Tells r (lengths_at t start s at (trees_of (map tree_of all)))
  pub count : now + length (strings_in (trees_of (map tree_of es))) ≡ start + length (strings_in (trees_of (map tree_of all)))

pub read_none : (t : List (List ℕ)) (s : Scope) (at : Pos) (n : ℕ) (all : List Expr) (done : List ℕ) → done ≡ [] → Read t s at n n all all done
read_none t s at n all done e = subst (λ d. Read t s at n n all all d) (sym e) (record { ok = λ ns q. q; err = λ r q. q; count = refl })

one_size : (t : List (List ℕ)) (s : Scope) (at : Pos) (n m : ℕ) (e : Expr) (es : List Expr) (k : ℕ) (ns : List ℕ) → size_at t n s at (tree_of e) ≡ fine k → m ≡ n + length (strings (tree_of e)) →
    lengths_at t m s at (trees_of (map tree_of es)) ≡ fine ns → lengths_at t n s at (trees_of (map tree_of (e ∷ es))) ≡ fine (k ∷ ns)
one_size t s at n m e es k ns f c g =
    ap (λ v. both v (typed.lengths_in (past (numbered t n s) (tree_of e)) at (trees_of (map tree_of es))) typed.and_size) f
    ∙ ap (λ v. then_check v (typed.and_size k)) (sym (lengths_past t n m s (tree_of e) at (trees_of (map tree_of es)) c) ∙ g)

one_more : (t : List (List ℕ)) (s : Scope) (at : Pos) (start n m : ℕ) (all : List Expr) (e : Expr) (es : List Expr) (done more : List ℕ) (k : ℕ) → Read t s at start n all (e ∷ es) done → size_at t n s at (tree_of e) ≡ fine k →
    m ≡ n + length (strings (tree_of e)) → more ≡ done ++ k ∷ [] → Read t s at start m all es more
one_more t s at start n m all e es done more k h f c g = record {
  ok = λ ns q. h.ok (k ∷ ns) (one_size t s at n m e es k ns f c q) ∙ ap fine (sym (ap (λ l. l ++ ns) g ∙ append_assoc done (k ∷ []) ns));
  err = λ r q.
      h.err r (tells_right r (size_at t n s at (tree_of e)) (typed.lengths_in (past (numbered t n s) (tree_of e)) at (trees_of (map tree_of es))) typed.and_size
      (subst (λ v. Tells r v) (lengths_past t n m s (tree_of e) at (trees_of (map tree_of es)) c) q));
  count = let a = h.count in let b = length-append (strings (tree_of e)) (strings_in (trees_of (map tree_of es))) in omega (arith, a, b, c);
}

at_rest : (t : List (List ℕ)) (s : Scope) (at : Pos) (start now : ℕ) (all es fs : List Expr) (done : List ℕ) → es ≡ fs → Read t s at start now all es done → Read t s at start now all fs done
at_rest t s at start now all es fs done f h = subst (λ l. Read t s at start now all l done) f h

pub read_next : (t : List (List ℕ)) (s : Scope) (at : Pos) (start n m : ℕ) (all : List Expr) (i : ℕ) (e : Expr) (done more : List ℕ) (k : ℕ) → i < length all → e ≡ get_or all i e → Read t s at start n all (drop i all) done →
    size_at t n s at (tree_of e) ≡ fine k → m ≡ n + length (strings (tree_of e)) → more ≡ done ++ k ∷ [] → Read t s at start m all (drop (i + 1) all) more
read_next t s at start n m all i e done more k h g inv f c l = one_more t s at start n m all e (drop (i + 1) all) done more k (at_rest t s at start n all _ _ done (next_of all i e h g) inv) f c l

pub read_stops : (t : List (List ℕ)) (s : Scope) (at : Pos) (start n : ℕ) (all : List Expr) (i : ℕ) (e : Expr) (done : List ℕ) (r : Refusal) → i < length all → e ≡ get_or all i e → Read t s at start n all (drop i all) done →
    Tells r (size_at t n s at (tree_of e)) → Tells r (lengths_at t start s at (trees_of (map tree_of all)))
read_stops t s at start n all i e done r h g inv q =
    (at_rest t s at start n all _ _ done (next_of all i e h g) inv).err r
    (tells_left r (size_at t n s at (tree_of e)) (typed.lengths_in (past (numbered t n s) (tree_of e)) at (trees_of (map tree_of (drop (i + 1) all)))) typed.and_size q)

pub read_all : (t : List (List ℕ)) (s : Scope) (at : Pos) (start n : ℕ) (all : List Expr) (i : ℕ) (done : List ℕ) → length all ≤ i → Read t s at start n all (drop i all) done → lengths_at t start s at (trees_of (map tree_of all)) ≡ fine done
read_all t s at start n all i done h inv = (at_rest t s at start n all _ _ done (drop_all i all h) inv).ok [] refl ∙ ap fine (append-nil done)

pub read_count : (t : List (List ℕ)) (s : Scope) (at : Pos) (start n : ℕ) (all : List Expr) (i : ℕ) (done : List ℕ) → length all ≤ i → Read t s at start n all (drop i all) done → n ≡ start + length (strings_in (trees_of (map tree_of all)))
read_count t s at start n all i done h inv = let e = (at_rest t s at start n all _ _ done (drop_all i all h) inv).count in omega (arith, e)
