-- The verdicts of the rules on the forms that the code holds.
use Rattle.std.proofs.Common.{◌≡◌, ℕ, ◌+◌, ◌-◌, Bool, true, false, List, [], ◌∷◌, length, map, Option, Some, None, refl, sym, ap, ◌∙◌, subst, arith, append-nil, Global, Ok, Err, IfOk, IfErr, OnOk, inl}
use Rattle.std.specs.Prelude.{Result, Vec, slice_get, replicate, take}
use Rattle.std.specs.Bool.{◌==◌}
use Rattle.std.specs.Borrow.{Bor}
use Rattle.std.proofs.lemmas.List.{length-replicate, length-take-le}
use Rattle.srcset.specs.declared.code.Code.TheVariants as code
use Rattle.srcset.specs.declared.refusal.Pos.{Pos}
use Rattle.srcset.specs.declared.refusal.Refusal.{Refusal}
use Rattle.ctypes.specs.declared.types.IntType.{IntType}
use Rattle.typed_ast.specs.declared.initialisers.Initialiser as held
use Rattle.typed_ast.specs.View.{initialiser_of}
use Rattle.tree.specs.Tree.{Tree, init_hole, one_init, braced_init, Inits, no_inits, and_init, hole, identifier, constant, string, paren, call, subscript, after, before, prefix, size_of, size_of_type, cast, binary, conditional, assign}
use Rattle.tree.specs.declared.expression.Expr.{Expr}
use Rattle.tree.specs.declared.declaration.Initialiser.{Initialiser}
use Rattle.tree.specs.declared.declaration.Initialiser as I
use Rattle.tree.specs.View.{tree_of, init_of, inits_of}
use Rattle.typing_spec.specs.Verdict.{Verdict, fine, breaks, then_check, both, each, refuse_if, provided}
use Rattle.typing_spec.specs.Program as program
use Rattle.typing_spec.specs.Scope.{Scope, or_empty, strings}
use Rattle.typing_spec.specs.Initialisers as typed
use Rattle.typing_spec.specs.Initialisers.{exceeds, array_from, not_braced, text_if, text_from, has_characters, list_or_text, text_alone, strings_of_all}
use Rattle.typing_expressions.specs.Refused.{Tells, refused}
use Rattle.typing_expressions.specs.Numbered.{numbered}
use Rattle.typing_expressions.proofs.Verdicts.{tells_right}
use Rattle.decls_declarators.proofs.Verdicts.{then_tells, provided_left}
use Rattle.decls_initialisers.specs.declared.forms.Wanted.{Wanted}
use Rattle.decls_initialisers.specs.declared.forms.Wanted.TheVariants as wanted
use Rattle.decls_initialisers.specs.Views.{wanted_of}
use Rattle.decls_initialisers.specs.inside.Numbered.{initialiser_at}
use Rattle.decls_initialisers.specs.inside.Braces.{braced_string, string_in}
use Rattle.decls_initialisers.proofs.Shapes.{counted, sees_one, sees_list}

-- ---- results

pub gives : (r : Result held.Initialiser Refusal) (v w : Verdict program.Initialiser) → v ≡ w → IfOk r (λ i. w ≡ fine (initialiser_of i)) → IfOk r (λ i. v ≡ fine (initialiser_of i))
gives r v w e h = subst (λ k. IfOk r (λ i. k ≡ fine (initialiser_of i))) (sym e) h

pub tells : (r : Result held.Initialiser Refusal) (v w : Verdict program.Initialiser) → v ≡ w → IfErr r (λ x. Tells x w) → IfErr r (λ x. Tells x v)
tells r v w e h = subst (λ k. IfErr r (λ x. Tells x k)) (sym e) h

-- ---- string literals

characters_in : (text : List ℕ) (count : ℕ) → count ≡ length text - 1 → length (take (length text - 1) text) ≡ count
characters_in text count e = length-take-le (length text - 1) text (omega arith) ∙ sym e

-- a literal that fits, and one that does not
pub text_fits : (t : List (List ℕ)) (n : ℕ) (s : Scope) (at : Pos) (room : Option ℕ) (m count : ℕ) → count ≡ length (or_empty (slice_get t m)) - 1 → false ≡ exceeds count room → text_from (numbered t n s) at room m ≡ fine (program.text n)
text_fits t n s at room m count c h =
    ap (λ k. provided (refuse_if (exceeds k room) code.TooManyInitialisers at) (fine (program.text (length {A = ℕ} (replicate n 0))))) (characters_in (or_empty (slice_get t m)) count c)
    ∙ ap (λ b. provided (refuse_if b code.TooManyInitialisers at) (fine (program.text (length {A = ℕ} (replicate n 0))))) (sym h) ∙ ap (λ k. fine (program.text k)) (length-replicate {A = ℕ} n 0)

pub text_exceeds : (t : List (List ℕ)) (n : ℕ) (s : Scope) (at : Pos) (room : Option ℕ) (m count : ℕ) → count ≡ length (or_empty (slice_get t m)) - 1 → true ≡ exceeds count room →
    Tells (refused code.TooManyInitialisers at) (text_from (numbered t n s) at room m)
text_exceeds t n s at room m count c h =
    subst (λ v. Tells (refused code.TooManyInitialisers at) v)
    (sym (ap (λ k. provided (refuse_if (exceeds k room) code.TooManyInitialisers at) (fine (program.text (length {A = ℕ} (replicate n 0))))) (characters_in (or_empty (slice_get t m)) count c)
    ∙ ap (λ b. provided (refuse_if b code.TooManyInitialisers at) (fine (program.text (length {A = ℕ} (replicate n 0))))) (sym h)))
    (inl (refl, refl))

-- ---- an array without braces

tree_is : (e : Tree) (own : Pos) (n : ℕ) → Some (own, n) ≡ string_in e → e ≡ string own n
tree_is hole own n h = absurd (cc)
tree_is (identifier at m) own n h = absurd (cc)
tree_is (constant at t v) own n h = absurd (cc)
tree_is (string at m) own n h = let k : (own, n) ≡ (at, m) = cc in ap (λ (x : Pos × ℕ). string x.0 x.1) (sym k)
tree_is (paren e) own n h = absurd (cc)
tree_is (call at f args) own n h = absurd (cc)
tree_is (subscript at a i) own n h = absurd (cc)
tree_is (after at op a) own n h = absurd (cc)
tree_is (before at op a) own n h = absurd (cc)
tree_is (prefix at op a) own n h = absurd (cc)
tree_is (size_of at a) own n h = absurd (cc)
tree_is (size_of_type at ty) own n h = absurd (cc)
tree_is (cast at ty a) own n h = absurd (cc)
tree_is (binary at op a b) own n h = absurd (cc)
tree_is (conditional at c a b) own n h = absurd (cc)
tree_is (assign at op a b) own n h = absurd (cc)

pub array_string : (s : Scope) (p : Pos) (u : IntType) (room : Option ℕ) (lengths : List ℕ) (top : Bool) (e : Tree) (own : Pos) (n : ℕ) → Some (own, n) ≡ string_in e →
    array_from s p u room lengths top e ≡ text_if (has_characters u lengths) top s p own room n
array_string s p u room lengths top e own n h = ap (array_from s p u room lengths top) (tree_is e own n h)

pub string_count : (e : Tree) (own : Pos) (n k m : ℕ) → Some (own, n) ≡ string_in e → m ≡ k + 1 → m ≡ k + length (strings e)
string_count e own n k m h c = subst (λ x. m ≡ k + length (strings x)) (sym (tree_is e own n h)) (omega (arith, c))

pub array_other : (s : Scope) (p : Pos) (u : IntType) (room : Option ℕ) (lengths : List ℕ) (top : Bool) (e : Tree) → None ≡ string_in e → array_from s p u room lengths top e ≡ not_braced top p
array_other s p u room lengths top hole h = refl
array_other s p u room lengths top (identifier at n) h = refl
array_other s p u room lengths top (constant at ty v) h = refl
array_other s p u room lengths top (string at n) h = absurd (cc)
array_other s p u room lengths top (paren e) h = refl
array_other s p u room lengths top (call at f args) h = refl
array_other s p u room lengths top (subscript at a i) h = refl
array_other s p u room lengths top (after at op a) h = refl
array_other s p u room lengths top (before at op a) h = refl
array_other s p u room lengths top (prefix at op a) h = refl
array_other s p u room lengths top (size_of at a) h = refl
array_other s p u room lengths top (size_of_type at ty) h = refl
array_other s p u room lengths top (cast at ty a) h = refl
array_other s p u room lengths top (binary at op a b) h = refl
array_other s p u room lengths top (conditional at c a b) h = refl
array_other s p u room lengths top (assign at op a b) h = refl

-- ---- an array in braces

alone_strings : (parts : Inits) (own : Pos) (n : ℕ) → Some (string own n) ≡ text_alone parts → strings_of_all parts ≡ n ∷ []
alone_strings no_inits own n h = absurd (cc)
alone_strings (and_init init_hole is) own n h = absurd (cc)
alone_strings (and_init (braced_init at ps) is) own n h = absurd (cc)
alone_strings (and_init (one_init hole) is) own n h = absurd (cc)
alone_strings (and_init (one_init (identifier at m)) is) own n h = absurd (cc)
alone_strings (and_init (one_init (constant at ty v)) is) own n h = absurd (cc)
alone_strings (and_init (one_init (string at m)) no_inits) own n h = let k : string own n ≡ string at m = cc in ap strings (sym k)
alone_strings (and_init (one_init (string at m)) (and_init j js)) own n h = absurd (cc)
alone_strings (and_init (one_init (paren e)) is) own n h = absurd (cc)
alone_strings (and_init (one_init (call at f args)) is) own n h = absurd (cc)
alone_strings (and_init (one_init (subscript at a i)) is) own n h = absurd (cc)
alone_strings (and_init (one_init (after at op a)) is) own n h = absurd (cc)
alone_strings (and_init (one_init (before at op a)) is) own n h = absurd (cc)
alone_strings (and_init (one_init (prefix at op a)) is) own n h = absurd (cc)
alone_strings (and_init (one_init (size_of at a)) is) own n h = absurd (cc)
alone_strings (and_init (one_init (size_of_type at ty)) is) own n h = absurd (cc)
alone_strings (and_init (one_init (cast at ty a)) is) own n h = absurd (cc)
alone_strings (and_init (one_init (binary at op a b)) is) own n h = absurd (cc)
alone_strings (and_init (one_init (conditional at c a b)) is) own n h = absurd (cc)
alone_strings (and_init (one_init (assign at op a b)) is) own n h = absurd (cc)

or_text : (c : Bool) (s : Scope) (p : Pos) (u : IntType) (room : Option ℕ) (lengths : List ℕ) (o : Option Tree) (v : Verdict program.Initialiser) (own : Pos) (n : ℕ) → c ≡ has_characters u lengths → Some (string own n) ≡ braced_string c o →
    list_or_text c s p u room lengths o v ≡ then_check (text_from s own room n) (λ i. fine (program.in_braces i))
or_text true s p u room lengths o v own n c h =
    ap (λ k. list_or_text true s p u room lengths k v) (sym h) ∙ ap (λ b. then_check (text_if b false s p own room n) (λ i. fine (program.in_braces i))) (sym c)
or_text false s p u room lengths o v own n c h = absurd (cc)

pub braced_text_rule : (s : Scope) (at p : Pos) (u : IntType) (room : Option ℕ) (lengths : List ℕ) (top : Bool) (parts : Inits) (own : Pos) (n : ℕ) → Some (string own n) ≡ braced_string (has_characters u lengths) (text_alone parts) →
    typed.initialiser s at u (typed.an_array room lengths) top (braced_init p parts) ≡ then_check (text_from s own room n) (λ i. fine (program.in_braces i))
braced_text_rule s at p u room lengths top parts own n h =
    or_text (has_characters u lengths) s at u room lengths (text_alone parts) (typed.in_list p room parts (typed.initialisers s p u lengths parts)) own n refl h

of_braced : (c : Bool) (o : Option Tree) (x : Tree) → Some x ≡ braced_string c o → Some x ≡ o
of_braced true o x h = h
of_braced false o x h = absurd (cc)

pub braced_count : (c : Bool) (parts : Inits) (own : Pos) (n k m : ℕ) → Some (string own n) ≡ braced_string c (text_alone parts) → m ≡ k + 1 → m ≡ k + length (strings_of_all parts)
braced_count c parts own n k m h e = subst (λ l. m ≡ k + length l) (sym (alone_strings parts own n (of_braced c (text_alone parts) (string own n) h))) (omega (arith, e))

no_text : (c : Bool) (s : Scope) (p : Pos) (u : IntType) (room : Option ℕ) (lengths : List ℕ) (o : Option Tree) (v : Verdict program.Initialiser) → None ≡ braced_string c o → list_or_text c s p u room lengths o v ≡ v
no_text true s p u room lengths None v h = refl
no_text true s p u room lengths (Some e) v h = absurd (cc)
no_text false s p u room lengths o v h = refl

pub braced_list_rule : (s : Scope) (at p : Pos) (u : IntType) (room : Option ℕ) (lengths : List ℕ) (top : Bool) (parts : Inits) → None ≡ braced_string (has_characters u lengths) (text_alone parts) →
    typed.initialiser s at u (typed.an_array room lengths) top (braced_init p parts) ≡ typed.in_list p room parts (typed.initialisers s p u lengths parts)
braced_list_rule s at p u room lengths top parts h = no_text (has_characters u lengths) s at u room lengths (text_alone parts) (typed.in_list p room parts (typed.initialisers s p u lengths parts)) h

-- ---- in braces

pub braced_ok : (r : Result held.Initialiser Refusal) (v : Verdict program.Initialiser) (x : program.Initialiser) → v ≡ fine (program.in_braces x) → IfOk r (λ i. initialiser_of i ≡ program.in_braces x) → IfOk r (λ i. v ≡ fine (initialiser_of i))
braced_ok (Ok i) v x e h = e ∙ ap fine (sym h)
braced_ok (Err y) v x e h = tt

-- ---- a number in braces

many_parts : (s : Scope) (p : Pos) (u : IntType) (is : List Initialiser) (first j : Initialiser) (js : List Initialiser) (e : Expr) → is ≡ first ∷ (j ∷ js) → first ≡ I.One e →
    typed.number_in_braces s p u (inits_of (map init_of is)) ≡ both (typed.number_from s u (tree_of e)) (breaks code.TooManyInitialisers p) (λ (x d : program.Initialiser). fine d)
many_parts s p u is first j js e a f =
    ap (λ l. typed.number_in_braces s p u (inits_of (map init_of l))) a ∙ ap (λ k. typed.number_in_braces s p u (and_init k (and_init (init_of j) (inits_of (map init_of js))))) (ap init_of f ∙ sees_one e)

pub more_parts : (r : Refusal) (s : Scope) (p : Pos) (u : IntType) (is : List Initialiser) (first : Initialiser) (rest : List Initialiser) (e : Expr) → is ≡ first ∷ rest → first ≡ I.One e → (length rest == 0) ≡ false →
    r ≡ refused code.TooManyInitialisers p → Tells r (typed.number_in_braces s p u (inits_of (map init_of is)))
more_parts r s p u is first [] e a f h k = absurd (cc)
more_parts r s p u is first (j ∷ js) e a f h k =
    subst (λ x. Tells x (typed.number_in_braces s p u (inits_of (map init_of is)))) (sym k)
    (subst (λ v. Tells (refused code.TooManyInitialisers p) v) (sym (many_parts s p u is first j js e a f))
    (tells_right (refused code.TooManyInitialisers p) (typed.number_from s u (tree_of e)) (breaks code.TooManyInitialisers p) (λ (x d : program.Initialiser). fine d) (refl, refl)))

nothing_more : (rest : List Initialiser) → (length rest == 0) ≡ true → rest ≡ []
nothing_more [] h = refl
nothing_more (j ∷ js) h = grind arith

pub only_part : (s : Scope) (p : Pos) (u : IntType) (is : List Initialiser) (first : Initialiser) (rest : List Initialiser) (e : Expr) → is ≡ first ∷ rest → first ≡ I.One e → (length rest == 0) ≡ true →
    typed.number_in_braces s p u (inits_of (map init_of is)) ≡ then_check (typed.number_from s u (tree_of e)) (λ i. fine (program.in_braces i))
only_part s p u is first rest e a f h =
    ap (λ l. typed.number_in_braces s p u (inits_of (map init_of l))) a ∙ ap (λ l. typed.number_in_braces s p u (inits_of (map init_of (first ∷ l)))) (nothing_more rest h)
    ∙ ap (λ k. typed.number_in_braces s p u (and_init k no_inits)) (ap init_of f ∙ sees_one e)

pub only_count : (r : Result held.Initialiser Refusal) (n m : ℕ) (is : List Initialiser) (first : Initialiser) (rest : List Initialiser) (e : Expr) → is ≡ first ∷ rest → first ≡ I.One e → (length rest == 0) ≡ true →
    m ≡ n + length (strings (tree_of e)) → OnOk r (m ≡ n + length (strings_of_all (inits_of (map init_of is))))
only_count (Ok i) n m is first rest e a f h c =
    let k : strings_of_all (inits_of (map init_of is)) ≡ strings (tree_of e) = ap (λ l. strings_of_all (inits_of (map init_of l))) a ∙ ap (λ l. strings_of_all (inits_of (map init_of (first ∷ l)))) (nothing_more rest h)
    ∙ ap (λ k. strings_of_all (and_init k no_inits)) (ap init_of f ∙ sees_one e) ∙ append-nil (strings (tree_of e)) in
    c ∙ ap (λ l. n + length l) (sym k)
only_count (Err x) n m is first rest e a f h c = tt

-- ---- room

pub fits_exceeds : (r : Refusal) (p : Pos) (room : Option ℕ) (is : List Initialiser) → r ≡ refused code.TooManyInitialisers p → exceeds (length is) room ≡ true → Tells r (typed.fits_room p room (inits_of (map init_of is)))
fits_exceeds r p room is e h =
    subst (λ x. Tells x (typed.fits_room p room (inits_of (map init_of is)))) (sym e)
    (tells_right (refused code.TooManyInitialisers p) (refuse_if (typed.is_none (inits_of (map init_of is))) code.BadInitialiserForm p) (refuse_if (exceeds (typed.count_of (inits_of (map init_of is))) room) code.TooManyInitialisers p) (λ u v. fine tt)
    (subst (λ b. Tells (refused code.TooManyInitialisers p) (refuse_if b code.TooManyInitialisers p)) (sym (ap (λ n. exceeds n room) (counted is) ∙ h)) (refl, refl)))

pub fits_fine : (p : Pos) (room : Option ℕ) (is : List Initialiser) → (length is == 0) ≡ false → exceeds (length is) room ≡ false → typed.fits_room p room (inits_of (map init_of is)) ≡ fine tt
fits_fine p room [] k h = absurd (cc)
fits_fine p room (i ∷ is) k h = ap (λ b. each (fine tt) (refuse_if b code.TooManyInitialisers p)) (ap (λ n. exceeds n room) (counted (i ∷ is)) ∙ h)

pub list_of_none : (r : Refusal) (p : Pos) (room : Option ℕ) (parts : Inits) (v : Verdict program.Initialisers) (is : program.Initialisers) → v ≡ fine is → Tells r (typed.fits_room p room parts) → Tells r (typed.in_list p room parts v)
list_of_none r p room parts v is e h =
    then_tells r v is (λ is. provided (typed.fits_room p room parts) (fine (program.list is))) e (provided_left r (typed.fits_room p room parts) (fine (program.list is)) h)

-- ---- an array in braces, in the code's form

pub array_rule : (t : List (List ℕ)) (n : ℕ) (s : Scope) (at : Pos) (u : IntType) (w : Wanted) (top : Bool) (init : Initialiser) (brace : Pos) (parts : Vec Initialiser Global) (room : Option ℕ) (lengths : Bor (List ℕ)) (ps : List Initialiser) →
    w ≡ wanted.Array room lengths → init ≡ I.List brace parts → ps ≡ parts.items →
    initialiser_at t n s at u (wanted_of w) top (init_of init) ≡ initialiser_at t n s at u (typed.an_array room lengths.now) top (braced_init brace (inits_of (map init_of ps)))
array_rule t n s at u w top init brace parts room lengths ps a b c =
    ap (λ k. initialiser_at t n s at u (wanted_of k) top (init_of init)) a
    ∙ ap (λ k. initialiser_at t n s at u (typed.an_array room lengths.now) top k) (ap init_of b ∙ sees_list brace parts)
    ∙ ap (λ l. initialiser_at t n s at u (typed.an_array room lengths.now) top (braced_init brace (inits_of (map init_of l)))) (sym c)
