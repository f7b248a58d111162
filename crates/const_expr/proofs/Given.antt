-- The arguments of a call, as far as they are typed, and as far as they are assigned to their parameters.
use Rattle.std.proofs.Common.{◌≡◌, ◌≢◌, ℕ, ◌+◌, ◌<◌, ◌≤◌, List, [], ◌∷◌, ◌++◌, drop, get_or, length, map, refl, sym, ap, ◌∙◌, subst, arith, append_assoc, append-nil, length-append}
use Rattle.std.specs.Prelude.{reverse}
use Rattle.std.proofs.lemmas.List.{drop_all, drop_more, map_push, reverse-append}
use Rattle.srcset.specs.declared.code.Code.TheVariants as code
use Rattle.srcset.specs.declared.refusal.Pos.{Pos}
use Rattle.srcset.specs.declared.refusal.Refusal.{Refusal}
use Rattle.tree.specs.declared.expression.Expr.{Expr}
use Rattle.tree.specs.View.{tree_of, trees_of}
use Rattle.typed_ast.specs.declared.types.ParameterType.{ParameterType}
use Rattle.typed_ast.specs.declared.expressions.Argument.{Argument}
use Rattle.typed_ast.specs.View.{parameter_type_of, arguments_of, argument_of, and_given}
use Rattle.typing_spec.specs.Verdict.{fine, both, then_check}
use Rattle.typing_spec.specs.Types as types
use Rattle.typing_spec.specs.Program.{Arguments}
use Rattle.typing_spec.specs.Scope.{Scope, strings, strings_in, past}
use Rattle.typing_spec.specs.Expressions as typed
use Rattle.typing_spec.specs.Expressions.{Checked}
use Rattle.typing_expressions.specs.declared.forms.Checked as held
use Rattle.typing_expressions.specs.Refused.{Tells, refused}
use Rattle.typing_expressions.specs.Forms.{checked_of}
use Rattle.typing_expressions.specs.Numbered.{numbered, typing_at, arguments_at}
use Rattle.typing_expressions.proofs.Verdicts.{tells_left, tells_right, tells_then}
use Rattle.const_expr.specs.Given.{given_for}
use Rattle.const_expr.proofs.Listed.{next_of}
use Rattle.const_expr.proofs.Parts.{arguments_past}

abbrev pub types_of : List ParameterType → List types.ParameterType
types_of ps = map parameter_type_of ps

-- ---- typed, from the left

-- the result for the rest gives the result for the whole
pub record Reading (t : List (List ℕ)) (s : Scope) (at : Pos) (start now : ℕ) (ps rest : List ParameterType) (all es : List Expr) (done : List held.Checked) : Type 0 where
  pub ok : (xs : List Checked) → arguments_at t now s at (types_of rest) (trees_of (map tree_of es)) ≡ given_for at (types_of rest) xs →
      arguments_at t start s at (types_of ps) (trees_of (map tree_of all)) ≡ given_for at (types_of ps) (map checked_of done ++ xs)
  pub err : (r : Refusal) → Tells r (arguments_at t now s at (types_of rest) (trees_of (map tree_of es))) → Tells r (arguments_at t start s at (types_of ps) (trees_of (map tree_of all)))
  pub count : now + length (strings_in (trees_of (map tree_of es))) ≡ start + length (strings_in (trees_of (map tree_of all)))

begun : (t : List (List ℕ)) (s : Scope) (at : Pos) (n : ℕ) (ps : List ParameterType) (all : List Expr) → Reading t s at n n ps ps all all []
begun t s at n ps all = record { ok = λ xs q. q; err = λ r q. q; count = refl }

one_argument : (t : List (List ℕ)) (s : Scope) (at : Pos) (n m : ℕ) (p : ParameterType) (ps : List ParameterType) (e : Expr) (es : List Expr) (x : Checked) (xs : List Checked) →
    typing_at t n s (tree_of e) ≡ fine x → m ≡ n + length (strings (tree_of e)) → arguments_at t m s at (types_of ps) (trees_of (map tree_of es)) ≡ given_for at (types_of ps) xs →
    arguments_at t n s at (types_of (p ∷ ps)) (trees_of (map tree_of (e ∷ es))) ≡ given_for at (types_of (p ∷ ps)) (x ∷ xs)
one_argument t s at n m p ps e es x xs f c g =
    ap (λ v. both v (typed.arguments (past (numbered t n s) (tree_of e)) at (types_of ps) (trees_of (map tree_of es))) (typed.argument at (parameter_type_of p))) f
    ∙ ap (λ v. then_check v (typed.argument at (parameter_type_of p) x)) (sym (arguments_past t n m s (tree_of e) at (types_of ps) (trees_of (map tree_of es)) c) ∙ g)

one_more : (t : List (List ℕ)) (s : Scope) (at : Pos) (start n m : ℕ) (all : List ParameterType) (p : ParameterType) (ps : List ParameterType) (whole : List Expr) (e : Expr) (es : List Expr) (done more : List held.Checked) (x : held.Checked) →
    Reading t s at start n all (p ∷ ps) whole (e ∷ es) done → typing_at t n s (tree_of e) ≡ fine (checked_of x) → m ≡ n + length (strings (tree_of e)) → more ≡ done ++ x ∷ [] → Reading t s at start m all ps whole es more
one_more t s at start n m all p ps whole e es done more x h f c g = record {
  ok = λ xs q.
      h.ok (checked_of x ∷ xs) (one_argument t s at n m p ps e es (checked_of x) xs f c q)
      ∙ ap (given_for at (types_of all)) (sym (ap (λ l. map checked_of l ++ xs) g ∙ ap (λ l. l ++ xs) (map_push checked_of done x) ∙ append_assoc (map checked_of done) (checked_of x ∷ []) xs));
  err = λ r q.
      h.err r (tells_right r (typing_at t n s (tree_of e)) (typed.arguments (past (numbered t n s) (tree_of e)) at (types_of ps) (trees_of (map tree_of es))) (typed.argument at (parameter_type_of p))
      (subst (λ v. Tells r v) (arguments_past t n m s (tree_of e) at (types_of ps) (trees_of (map tree_of es)) c) q));
  count = let a = h.count in let k = length-append (strings (tree_of e)) (strings_in (trees_of (map tree_of es))) in omega (arith, a, k, c);
}

-- the first i, each for a parameter
pub record ReadTo (t : List (List ℕ)) (s : Scope) (at : Pos) (start now : ℕ) (ps : List ParameterType) (all : List Expr) (i : ℕ) (done : List held.Checked) : Type 0 where
  pub made : length done ≡ i
  pub room : i ≤ length ps
  pub reading : Reading t s at start now ps (drop i ps) all (drop i all) done

pub read_none : (t : List (List ℕ)) (s : Scope) (at : Pos) (n : ℕ) (ps : List ParameterType) (all : List Expr) (done : List held.Checked) → done ≡ [] → ReadTo t s at n n ps all 0 done
read_none t s at n ps all done e =
    subst (λ d. ReadTo t s at n n ps all 0 d) (sym e) (record { made = refl; room = omega arith; reading = begun t s at n ps all })

first_left : (ps : List ParameterType) (i : ℕ) → i < length ps → (p : ParameterType) × (drop i ps ≡ p ∷ drop (i + 1) ps)
first_left [] i h = absurd (omega (arith, h))
first_left (p ∷ ps) i h = (get_or (p ∷ ps) i p, drop_more (p ∷ ps) i p h)

at_rest : (t : List (List ℕ)) (s : Scope) (at : Pos) (start now : ℕ) (ps left other : List ParameterType) (all es fs : List Expr) (done : List held.Checked) → left ≡ other → es ≡ fs → Reading t s at start now ps left all es done →
    Reading t s at start now ps other all fs done
at_rest t s at start now ps left other all es fs done e f h =
    subst (λ l. Reading t s at start now ps other all l done) f (subst (λ l. Reading t s at start now ps l all es done) e h)

pub read_next : (t : List (List ℕ)) (s : Scope) (at : Pos) (start n m : ℕ) (ps : List ParameterType) (all : List Expr) (i : ℕ) (e : Expr) (done more : List held.Checked) (x : held.Checked) → i < length all → e ≡ get_or all i e →
    length done ≢ length ps → ReadTo t s at start n ps all i done → typing_at t n s (tree_of e) ≡ fine (checked_of x) → m ≡ n + length (strings (tree_of e)) → more ≡ done ++ x ∷ [] → ReadTo t s at start m ps all (i + 1) more
read_next t s at start n m ps all i e done more x h g u inv f c k =
    let made = inv.made in
    let room = inv.room in
    let first = first_left ps i (omega (arith, u, made, room)) in
    record {
      made = ap length k ∙ length-append done (x ∷ []) ∙ ap (λ n. n + 1) made;
      room = omega (arith, u, made, room);
      reading = one_more t s at start n m ps first.0 (drop (i + 1) ps) all e (drop (i + 1) all) done more x (at_rest t s at start n ps _ _ all _ _ done first.1 (next_of all i e h g) inv.reading) f c k;
    }

pub read_stops : (t : List (List ℕ)) (s : Scope) (at : Pos) (start n : ℕ) (ps : List ParameterType) (all : List Expr) (i : ℕ) (e : Expr) (done : List held.Checked) (r : Refusal) → i < length all → e ≡ get_or all i e →
    length done ≢ length ps → ReadTo t s at start n ps all i done → Tells r (typing_at t n s (tree_of e)) → Tells r (arguments_at t start s at (types_of ps) (trees_of (map tree_of all)))
read_stops t s at start n ps all i e done r h g u inv q =
    let made = inv.made in
    let room = inv.room in
    let first = first_left ps i (omega (arith, u, made, room)) in
    (at_rest t s at start n ps _ _ all _ _ done first.1 (next_of all i e h g) inv.reading).err r
    (tells_left r (typing_at t n s (tree_of e)) (typed.arguments (past (numbered t n s) (tree_of e)) at (types_of (drop (i + 1) ps)) (trees_of (map tree_of (drop (i + 1) all)))) (typed.argument at (parameter_type_of first.0)) q)

pub read_too_many : (t : List (List ℕ)) (s : Scope) (at : Pos) (start n : ℕ) (ps : List ParameterType) (all : List Expr) (i : ℕ) (e : Expr) (done : List held.Checked) (r : Refusal) → i < length all → e ≡ get_or all i e →
    length done ≡ length ps → ReadTo t s at start n ps all i done → r ≡ refused code.ArgumentCount at → Tells r (arguments_at t start s at (types_of ps) (trees_of (map tree_of all)))
read_too_many t s at start n ps all i e done r h g u inv q =
    let made = inv.made in
    (at_rest t s at start n ps _ _ all _ _ done (drop_all i ps (omega (arith, u, made))) (next_of all i e h g) inv.reading).err r
    (subst (λ k. Tells k (arguments_at t n s at (types_of []) (trees_of (map tree_of (e ∷ drop (i + 1) all))))) (sym q) (refl, refl))

none_more : (t : List (List ℕ)) (s : Scope) (at : Pos) (n : ℕ) (ps : List ParameterType) → arguments_at t n s at (types_of ps) (trees_of (map tree_of [])) ≡ given_for at (types_of ps) []
none_more t s at n [] = refl
none_more t s at n (p ∷ ps) = refl

pub read_all : (t : List (List ℕ)) (s : Scope) (at : Pos) (start n : ℕ) (ps : List ParameterType) (all : List Expr) (i : ℕ) (done : List held.Checked) → length all ≤ i → ReadTo t s at start n ps all i done →
    arguments_at t start s at (types_of ps) (trees_of (map tree_of all)) ≡ given_for at (types_of ps) (map checked_of done)
read_all t s at start n ps all i done h inv =
    (at_rest t s at start n ps _ _ all _ _ done refl (drop_all i all h) inv.reading).ok [] (none_more t s at n (drop i ps)) ∙ ap (given_for at (types_of ps)) (append-nil (map checked_of done))

pub read_count : (t : List (List ℕ)) (s : Scope) (at : Pos) (start n : ℕ) (ps : List ParameterType) (all : List Expr) (i : ℕ) (done : List held.Checked) → length all ≤ i → ReadTo t s at start n ps all i done →
    n ≡ start + length (strings_in (trees_of (map tree_of all)))
read_count t s at start n ps all i done h inv = let e = (at_rest t s at start n ps _ _ all _ _ done refl (drop_all i all h) inv.reading).count in omega (arith, e)

-- ---- assigned, from the right

-- those from here on are for the last parameters
pub record Assigned (at : Pos) (ps : List ParameterType) (xs left : List held.Checked) (all : List Argument) : Type 0 where
  pub done : List held.Checked
  pub whole : xs ≡ left ++ done
  pub room : length left ≤ length ps
  pub given : given_for at (types_of (drop (length left) ps)) (map checked_of done) ≡ fine (arguments_of (map argument_of (reverse all)))

pub assigned_none : (at : Pos) (ps : List ParameterType) (xs : List held.Checked) (all : List Argument) → length xs ≡ length ps → all ≡ [] → Assigned at ps xs xs all
assigned_none at ps xs all h e = record {
  done = [];
  whole = sym (append-nil xs);
  room = omega (arith, h);
  given = ap (λ l. given_for at (types_of l) []) (drop_all (length xs) ps (omega (arith, h))) ∙ ap (λ l. fine (arguments_of (map argument_of (reverse l)))) (sym e);
}

-- the parameter before those
pub record Before (ps : List ParameterType) (left rest : List held.Checked) (x : held.Checked) (p : ParameterType) : Type 0 where
  pub popped : left ≡ rest ++ x ∷ []
  pub read : p ≡ get_or ps (length rest) p
  pub within : length rest < length ps

next_left : (ps : List ParameterType) (left rest : List held.Checked) (x : held.Checked) (p : ParameterType) → Before ps left rest x p → drop (length rest) ps ≡ p ∷ drop (length left) ps
next_left ps left rest x p b = next_of ps (length rest) p b.within b.read ∙ ap (λ n. p ∷ drop n ps) (sym (ap length b.popped ∙ length-append rest (x ∷ [])))

at_parameter : (at : Pos) (ps : List ParameterType) (xs left rest : List held.Checked) (x : held.Checked) (p : ParameterType) (all : List Argument) → Before ps left rest x p → (a : Assigned at ps xs left all) →
    given_for at (types_of (drop (length rest) ps)) (map checked_of (x ∷ a.done)) ≡ typed.argument at (parameter_type_of p) (checked_of x) (arguments_of (map argument_of (reverse all)))
at_parameter at ps xs left rest x p all b a =
    ap (λ l. given_for at (types_of l) (map checked_of (x ∷ a.done))) (next_left ps left rest x p b) ∙ ap (λ v. then_check v (typed.argument at (parameter_type_of p) (checked_of x))) a.given

onto : (xs left rest done : List held.Checked) (x : held.Checked) → xs ≡ left ++ done → left ≡ rest ++ x ∷ [] → xs ≡ rest ++ x ∷ done
onto xs left rest done x e f = e ∙ ap (λ l. l ++ done) f ∙ append_assoc rest (x ∷ []) done

pub assigned_next : (at : Pos) (ps : List ParameterType) (xs left rest : List held.Checked) (x : held.Checked) (p : ParameterType) (all more : List Argument) (y : Argument) → Before ps left rest x p → Assigned at ps xs left all →
    ((rests : Arguments) → typed.argument at (parameter_type_of p) (checked_of x) rests ≡ fine (and_given (argument_of y) rests)) → more ≡ all ++ y ∷ [] → Assigned at ps xs rest more
assigned_next at ps xs left rest x p all more y b a f g =
    let within = b.within in
    record {
      done = x ∷ a.done;
      whole = onto xs left rest a.done x a.whole b.popped;
      room = omega (arith, within);
      given =
          at_parameter at ps xs left rest x p all b a ∙ f (arguments_of (map argument_of (reverse all)))
          ∙ ap (λ l. fine (arguments_of (map argument_of l))) (sym (ap reverse g ∙ reverse-append all (y ∷ [])));
    }

-- a constraint that the last arguments break is broken by all
behind : (r : Refusal) (at : Pos) (ps : List ParameterType) (xs done : List held.Checked) → length xs ≤ length ps → Tells r (given_for at (types_of (drop (length xs) ps)) (map checked_of done)) →
    Tells r (given_for at (types_of ps) (map checked_of (xs ++ done)))
behind r at ps [] done h q = q
behind r at [] (x ∷ xs) done h q = absurd (omega (arith, h))
behind r at (p ∷ ps) (x ∷ xs) done h q =
    tells_then r (given_for at (types_of ps) (map checked_of (xs ++ done))) (typed.argument at (parameter_type_of p) (checked_of x)) (behind r at ps xs done (omega (arith, h)) q)

pub assigned_stops : (at : Pos) (ps : List ParameterType) (xs left rest : List held.Checked) (x : held.Checked) (p : ParameterType) (all : List Argument) (r : Refusal) → Before ps left rest x p → Assigned at ps xs left all →
    ((rests : Arguments) → Tells r (typed.argument at (parameter_type_of p) (checked_of x) rests)) → Tells r (given_for at (types_of ps) (map checked_of xs))
assigned_stops at ps xs left rest x p all r b a q =
    let within = b.within in
    subst (λ l. Tells r (given_for at (types_of ps) (map checked_of l))) (sym (onto xs left rest a.done x a.whole b.popped))
    (behind r at ps rest (x ∷ a.done) (omega (arith, within)) (subst (λ v. Tells r v) (sym (at_parameter at ps xs left rest x p all b a)) (q (arguments_of (map argument_of (reverse all))))))

pub assigned_all : (at : Pos) (ps : List ParameterType) (xs left : List held.Checked) (all : List Argument) → left ≡ [] → Assigned at ps xs left all →
    given_for at (types_of ps) (map checked_of xs) ≡ fine (arguments_of (map argument_of (reverse all)))
assigned_all at ps xs left all e a =
    ap (λ l. given_for at (types_of ps) (map checked_of l)) (a.whole ∙ ap (λ l. l ++ a.done) e) ∙ ap (λ l. given_for at (types_of (drop (length l) ps)) (map checked_of a.done)) (sym e) ∙ a.given

miscounted : (at : Pos) (ps : List ParameterType) (xs : List held.Checked) → length xs ≢ length ps → Tells (refused code.ArgumentCount at) (given_for at (types_of ps) (map checked_of xs))
miscounted at [] [] h = absurd (omega (arith, h))
miscounted at [] (x ∷ xs) h = (refl, refl)
miscounted at (p ∷ ps) [] h = (refl, refl)
miscounted at (p ∷ ps) (x ∷ xs) h =
    tells_then (refused code.ArgumentCount at) (given_for at (types_of ps) (map checked_of xs)) (typed.argument at (parameter_type_of p) (checked_of x)) (miscounted at ps xs (omega (arith, h)))

pub count_differs : (at : Pos) (ps : List ParameterType) (xs : List held.Checked) (r : Refusal) → length xs ≢ length ps → r ≡ refused code.ArgumentCount at → Tells r (given_for at (types_of ps) (map checked_of xs))
count_differs at ps xs r h e = subst (λ k. Tells k (given_for at (types_of ps) (map checked_of xs))) (sym e) (miscounted at ps xs h)
