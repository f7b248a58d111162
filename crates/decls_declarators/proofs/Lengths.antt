-- The sizes of a declarator, as far as they are read.
use Rattle.std.proofs.Common.{◌≡◌, ℕ, zero, suc, ◌+◌, ◌<◌, ◌≤◌, Bool, true, false, List, [], ◌∷◌, ◌++◌, drop, get_or, length, map, Option, Some, None, refl, sym, ap, ◌∙◌, subst, arith, append_assoc, append-nil, ℤ, pos, negsuc, Ok, Err, OnOk}
use Rattle.std.specs.Prelude.{Result}
use Rattle.std.specs.Option.{is_none}
use Rattle.std.proofs.lemmas.List.{drop_all}
use Rattle.srcset.specs.NameTable.{Texts}
use Rattle.srcset.specs.declared.refusal.Pos.{Pos}
use Rattle.srcset.specs.declared.refusal.Refusal.{Refusal}
use Rattle.tree.specs.Tree.{Tree}
use Rattle.tree.specs.declared.expression.Expr.{Expr}
use Rattle.tree.specs.View.{tree_of, option_tree}
use Rattle.typing_spec.specs.Verdict.{Verdict, fine, broken, both, then_check}
use Rattle.typing_spec.specs.Scope.{Scope, with_literals, past}
use Rattle.typing_spec.specs.Expressions.{positive, Constant, constant_value}
use Rattle.typing_spec.specs.Declarators.{inner_size, inner_sizes, outer_size, sizes_in, size_of_array, and_length, and_outermost, strings_in_size, strings_in_sizes}
use Rattle.typing_expressions.specs.Refused.{Tells}
use Rattle.typing_expressions.proofs.Verdicts.{tells_left, tells_right}
use Rattle.typing_scopes.specs.Scopes.{with_texts}
use Rattle.decls_declarators.specs.Views.{sizes_with, known_size, Positive}
use Rattle.decls_declarators.proofs.Verdicts.{both_fine, next_of}
use Rattle.decls_declarators.proofs.Strings.{none_more, some_more}

-- the result for the rest gives the result for the whole
pub record Reading (t : Texts) (at : Pos) (s0 s : Scope) (all rest : List (Option Tree)) (old new : List ℕ) : Type 0 where
  pub ok : (ns : List ℕ) → inner_sizes (with_texts t s) at rest ≡ fine ns → (ms : List ℕ) × (inner_sizes (with_texts t s0) at all ≡ fine ms) × (new ++ ns ≡ old ++ ms)
  pub err : (r : Refusal) → Tells r (inner_sizes (with_texts t s) at rest) → Tells r (inner_sizes (with_texts t s0) at all)
  pub scope : with_literals s (strings_in_sizes rest) ≡ with_literals s0 (strings_in_sizes all)

pub begun : (t : Texts) (at : Pos) (s : Scope) (all : List (Option Tree)) (old : List ℕ) → Reading t at s s all all old old
begun t at s all old = record { ok = λ ns e. (ns, e, refl); err = λ r h. h; scope = refl }

step_rest : (t : Texts) (at : Pos) (s0 s next : Scope) (all : List (Option Tree)) (e : Option Tree) (es : List (Option Tree)) (old new more : List ℕ) (n : ℕ) → Reading t at s0 s all (e ∷ es) old new →
    inner_size (with_texts t s) at e ≡ fine n → more ≡ new ++ n ∷ [] → next ≡ with_literals s (strings_in_size e) → Reading t at s0 next all es old more
step_rest t at s0 s next all e es old new more n h f m g =
    let same : inner_sizes (with_texts t next) at es ≡ inner_sizes (with_literals (with_texts t s) (strings_in_size e)) at es = ap (λ k. inner_sizes (with_texts t k) at es) g in record {
      ok = λ ns q.
          let w = h.ok (n ∷ ns) (both_fine (inner_size (with_texts t s) at e) (inner_sizes (with_literals (with_texts t s) (strings_in_size e)) at es) n ns and_length f (sym same ∙ q)) in
          (w.0, w.1, ap (λ l. l ++ ns) m ∙ append_assoc new (n ∷ []) ns ∙ w.2);
      err = λ r q.
          h.err r (tells_right r (inner_size (with_texts t s) at e) (inner_sizes (with_literals (with_texts t s) (strings_in_size e)) at es) and_length (subst (λ v. Tells r v) same q));
      scope = ap (λ k. with_literals k (strings_in_sizes es)) g ∙ some_more s (strings_in_size e) (strings_in_sizes es) ∙ h.scope;
    }

next_tree : (es : List (Option Expr)) (i : ℕ) (e : Option Expr) → i < length es → e ≡ get_or es i e → map option_tree (drop i es) ≡ option_tree e ∷ map option_tree (drop (i + 1) es)
next_tree es i e h g = ap (λ l. map option_tree l) (next_of es i e h g)

at_rest : (t : Texts) (at : Pos) (s0 s : Scope) (all rest other : List (Option Tree)) (old new : List ℕ) → rest ≡ other → Reading t at s0 s all rest old new → Reading t at s0 s all other old new
at_rest t at s0 s all rest other old new e h = subst (λ l. Reading t at s0 s all l old new) e h

pub step : (t : Texts) (at : Pos) (s0 s next : Scope) (all : List (Option Tree)) (es : List (Option Expr)) (i : ℕ) (e : Option Expr) (old new more : List ℕ) (n : ℕ) → i < length es → e ≡ get_or es i e →
    Reading t at s0 s all (map option_tree (drop i es)) old new → inner_size (with_texts t s) at (option_tree e) ≡ fine n → more ≡ new ++ n ∷ [] → next ≡ with_literals s (strings_in_size (option_tree e)) →
    Reading t at s0 next all (map option_tree (drop (i + 1) es)) old more
step t at s0 s next all es i e old new more n h g inv f m w =
    step_rest t at s0 s next all (option_tree e) (map option_tree (drop (i + 1) es)) old new more n (at_rest t at s0 s all _ _ old new (next_tree es i e h g) inv) f m w

pub stops : (t : Texts) (at : Pos) (s0 s : Scope) (all : List (Option Tree)) (es : List (Option Expr)) (i : ℕ) (e : Option Expr) (old new : List ℕ) (r : Refusal) → i < length es → e ≡ get_or es i e →
    Reading t at s0 s all (map option_tree (drop i es)) old new → Tells r (inner_size (with_texts t s) at (option_tree e)) → Tells r (inner_sizes (with_texts t s0) at all)
stops t at s0 s all es i e old new r h g inv q =
    inv.err r (subst (λ l. Tells r (inner_sizes (with_texts t s) at l)) (sym (next_tree es i e h g))
    (tells_left r (inner_size (with_texts t s) at (option_tree e)) (inner_sizes (with_literals (with_texts t s) (strings_in_size (option_tree e))) at (map option_tree (drop (i + 1) es))) and_length q))

pub ended : (t : Texts) (at : Pos) (s0 s : Scope) (all : List (Option Tree)) (es : List (Option Expr)) (i : ℕ) (old new : List ℕ) → length es ≤ i → Reading t at s0 s all (map option_tree (drop i es)) old new →
    (ms : List ℕ) × (inner_sizes (with_texts t s0) at all ≡ fine ms) × (new ≡ old ++ ms) × (s ≡ with_literals s0 (strings_in_sizes all))
ended t at s0 s all es i old new h inv =
    let e : map option_tree (drop i es) ≡ [] = ap (λ l. map option_tree l) (drop_all i es h) in
    let w = (at_rest t at s0 s all _ _ old new e inv).ok [] refl in
    (w.0, w.1, sym (append-nil new) ∙ w.2, sym (none_more s) ∙ (at_rest t at s0 s all _ _ old new e inv).scope)

-- ---- the outermost size

not_none : {C : Type 0} (v : Verdict ℕ) → then_check v (λ n. fine (Some n)) ≡ fine None → C
not_none (fine n) e = absurd (cc)
not_none (broken vs) e = absurd (cc)

with_known : (s : Scope) (at : Pos) (e : Tree) (n : Option ℕ) (ns : List ℕ) → outer_size s at (Some e) ≡ fine n → and_outermost n ns ≡ fine (sizes_with false (known_size n ++ ns))
with_known s at e None ns h = not_none (size_of_array s at e) h
with_known s at e (Some n) ns h = refl

none_there : (n : Option ℕ) → fine None ≡ fine n → None ≡ n
none_there n e = cc

pub sizes_unknown : (s : Scope) (at : Pos) (rest : List (Option Tree)) (n : Option ℕ) (ns : List ℕ) → fine None ≡ fine n → inner_sizes (with_literals s []) at rest ≡ fine ns →
    sizes_in s at (None ∷ rest) ≡ fine (sizes_with true (known_size n ++ ns))
sizes_unknown s at rest n ns e f =
    both_fine (outer_size s at None) (inner_sizes (with_literals s []) at rest) None ns and_outermost refl f ∙ ap (λ k. fine (sizes_with true (known_size k ++ ns))) (none_there n e)

pub sizes_known : (s : Scope) (at : Pos) (e : Tree) (rest : List (Option Tree)) (n : Option ℕ) (ns : List ℕ) → outer_size s at (Some e) ≡ fine n →
    inner_sizes (with_literals s (strings_in_size (Some e))) at rest ≡ fine ns → sizes_in s at (Some e ∷ rest) ≡ fine (sizes_with false (known_size n ++ ns))
sizes_known s at e rest n ns f g = both_fine (outer_size s at (Some e)) (inner_sizes (with_literals s (strings_in_size (Some e))) at rest) n ns and_outermost f g ∙ with_known s at e n ns f

pub sizes_rule : (t : Texts) (s next : Scope) (at : Pos) (all : List (Option Expr)) (first : Option Expr) (rest : List (Option Expr)) (n : Option ℕ) (ns : List ℕ) (b : Bool) (empty lengths final : List ℕ) → all ≡ first ∷ rest → b ≡ is_none first → empty ≡ [] → lengths ≡ empty ++ known_size n → final ≡ lengths ++ ns →
    outer_size (with_texts t s) at (option_tree first) ≡ fine n → next ≡ with_literals s (strings_in_size (option_tree first)) → inner_sizes (with_texts t next) at (map option_tree rest) ≡ fine ns →
    sizes_in (with_texts t s) at (map option_tree all) ≡ fine (sizes_with b final)
sizes_rule t s next at all None rest n ns b empty lengths final a m z l k f g h =
    ap (λ es. sizes_in (with_texts t s) at (map option_tree es)) a ∙ sizes_unknown (with_texts t s) at (map option_tree rest) n ns f (ap (λ x. inner_sizes (with_texts t x) at (map option_tree rest)) (sym g) ∙ h)
    ∙ ap (λ x. fine (sizes_with x (known_size n ++ ns))) (sym m) ∙ ap (λ x. fine (sizes_with b x)) (sym (k ∙ ap (λ x. x ++ ns) l ∙ ap (λ x. (x ++ known_size n) ++ ns) z))
sizes_rule t s next at all (Some e) rest n ns b empty lengths final a m z l k f g h =
    ap (λ es. sizes_in (with_texts t s) at (map option_tree es)) a ∙ sizes_known (with_texts t s) at (tree_of e) (map option_tree rest) n ns f (ap (λ x. inner_sizes (with_texts t x) at (map option_tree rest)) (sym g) ∙ h)
    ∙ ap (λ x. fine (sizes_with x (known_size n ++ ns))) (sym m) ∙ ap (λ x. fine (sizes_with b x)) (sym (k ∙ ap (λ x. x ++ ns) l ∙ ap (λ x. (x ++ known_size n) ++ ns) z))

pub sizes_left : (t : Texts) (s : Scope) (at : Pos) (all : List (Option Expr)) (first : Option Expr) (rest : List (Option Expr)) (r : Refusal) → all ≡ first ∷ rest → Tells r (outer_size (with_texts t s) at (option_tree first)) →
    Tells r (sizes_in (with_texts t s) at (map option_tree all))
sizes_left t s at all first rest r a h =
    subst (λ es. Tells r (sizes_in (with_texts t s) at (map option_tree es))) (sym a)
    (tells_left r (outer_size (with_texts t s) at (option_tree first)) (inner_sizes (with_literals (with_texts t s) (strings_in_size (option_tree first))) at (map option_tree rest)) and_outermost h)

pub sizes_right : (t : Texts) (s next : Scope) (at : Pos) (all : List (Option Expr)) (first : Option Expr) (rest : List (Option Expr)) (r : Refusal) → all ≡ first ∷ rest →
    next ≡ with_literals s (strings_in_size (option_tree first)) → Tells r (inner_sizes (with_texts t next) at (map option_tree rest)) → Tells r (sizes_in (with_texts t s) at (map option_tree all))
sizes_right t s next at all first rest r a g h =
    subst (λ es. Tells r (sizes_in (with_texts t s) at (map option_tree es))) (sym a)
    (tells_right r (outer_size (with_texts t s) at (option_tree first)) (inner_sizes (with_literals (with_texts t s) (strings_in_size (option_tree first))) at (map option_tree rest)) and_outermost
    (subst (λ k. Tells r (inner_sizes (with_texts t k) at (map option_tree rest))) g h))

pub sizes_scope : (s next final : Scope) (all : List (Option Expr)) (first : Option Expr) (rest : List (Option Expr)) → all ≡ first ∷ rest → next ≡ with_literals s (strings_in_size (option_tree first)) →
    final ≡ with_literals next (strings_in_sizes (map option_tree rest)) → final ≡ with_literals s (strings_in_sizes (map option_tree all))
sizes_scope s next final all first rest a g h =
    h ∙ ap (λ k. with_literals k (strings_in_sizes (map option_tree rest))) g ∙ some_more s (strings_in_size (option_tree first)) (strings_in_sizes (map option_tree rest))
    ∙ ap (λ es. with_literals s (strings_in_sizes (map option_tree es))) (sym a)

-- ---- each size is greater than zero

positive_is : (at : Pos) (v : ℤ) (n : ℕ) → positive at v ≡ fine n → 0 < n
positive_is at (pos zero) n e = absurd (cc)
positive_is at (pos (suc m)) n e = let k : suc m ≡ n = cc in omega (arith, k)
positive_is at (negsuc m) n e = absurd (cc)

of_constant : (at : Pos) (v : Verdict Constant) (n : ℕ) → then_check v (λ c. positive at c.v) ≡ fine n → 0 < n
of_constant at (fine c) n e = positive_is at c.v n e
of_constant at (broken vs) n e = absurd (cc)

inner_positive : (s : Scope) (at : Pos) (size : Option Tree) (n : ℕ) → inner_size s at size ≡ fine n → 0 < n
inner_positive s at None n e = absurd (cc)
inner_positive s at (Some e) n h = of_constant at (constant_value s e) n h

joined : (v : Verdict ℕ) (w : Verdict (List ℕ)) (ns : List ℕ) → both v w and_length ≡ fine ns → ((n : ℕ) → v ≡ fine n → 0 < n) → ((ms : List ℕ) → w ≡ fine ms → Positive ms) → Positive ns
joined (fine n) (fine ms) ns e f g = let k : n ∷ ms ≡ ns = cc in subst Positive k (f n refl, g ms refl)
joined (fine n) (broken vs) ns e f g = absurd (cc)
joined (broken us) w ns e f g = absurd (cc)

inner_all : (s : Scope) (at : Pos) (es : List (Option Tree)) (ns : List ℕ) → inner_sizes s at es ≡ fine ns → Positive ns
inner_all s at [] ns h = let k : [] ≡ ns = cc in subst Positive k tt
inner_all s at (e ∷ es) ns h =
    joined (inner_size s at e) (inner_sizes (with_literals s (strings_in_size e)) at es) ns h (inner_positive s at e) (inner_all (with_literals s (strings_in_size e)) at es)

of_some : (at : Pos) (v : Verdict ℕ) (n : ℕ) → ((k : ℕ) → v ≡ fine k → 0 < k) → then_check v (λ k. fine (Some k)) ≡ fine (Some n) → 0 < n
of_some at (fine m) n f e = let k : m ≡ n = cc in subst (λ j. 0 < j) k (f m refl)
of_some at (broken vs) n f e = absurd (cc)

outer_all : (s : Scope) (at : Pos) (e : Option Tree) (n : Option ℕ) (ns : List ℕ) → outer_size s at e ≡ fine n → Positive ns → Positive (known_size n ++ ns)
outer_all s at e None ns h p = p
outer_all s at None (Some n) ns h p = absurd (cc)
outer_all s at (Some e) (Some n) ns h p = (of_some at (size_of_array s at e) n (λ k q. of_constant at (constant_value s e) k q) h, p)

pub sizes_positive : (t : Texts) (s next : Scope) (at : Pos) (first : Option Expr) (rest : List (Option Expr)) (n : Option ℕ) (ns : List ℕ) (empty lengths final : List ℕ) → empty ≡ [] → lengths ≡ empty ++ known_size n → final ≡ lengths ++ ns →
    outer_size (with_texts t s) at (option_tree first) ≡ fine n → inner_sizes (with_texts t next) at (map option_tree rest) ≡ fine ns → Positive final
sizes_positive t s next at first rest n ns empty lengths final z l k f h =
    subst Positive (sym (k ∙ ap (λ x. x ++ ns) l ∙ ap (λ x. (x ++ known_size n) ++ ns) z)) (outer_all (with_texts t s) at (option_tree first) n ns f (inner_all (with_texts t next) at (map option_tree rest) ns h))

-- an outermost size that is known
pub outer_known : {T E : Type 0} (r : Result T E) (t : Texts) (s next : Scope) (at : Pos) (size : Option Expr) (e : Expr) (old new : List ℕ) → size ≡ Some e →
    OnOk r ((n : ℕ) × (size_of_array (with_texts t s) at (tree_of e) ≡ fine n) × (new ≡ old ++ n ∷ []) × (next ≡ past s (tree_of e))) →
    OnOk r ((x : Option ℕ) × (outer_size (with_texts t s) at (option_tree size) ≡ fine x) × (new ≡ old ++ known_size x) × (next ≡ with_literals s (strings_in_size (option_tree size))))
outer_known (Ok x) t s next at size e old new q h =
    subst (λ z. (x : Option ℕ) × (outer_size (with_texts t s) at (option_tree z) ≡ fine x) × (new ≡ old ++ known_size x) × (next ≡ with_literals s (strings_in_size (option_tree z)))) (sym q)
    (Some h.0, ap (λ v. then_check v (λ n. fine (Some n))) h.1, h.2, h.3)
outer_known (Err x) t s next at size e old new q h = tt
