-- Initialisers: their string literals, and the sizes that they give.
use Rattle.std.proofs.Common.{◌≡◌, ℕ, zero, suc, ◌+◌, ◌<◌, ◌≤◌, Bool, true, false, List, [], ◌∷◌, drop, get_or, length, map, Option, Some, None, refl, sym, ap, ◌∙◌, arith}
use Rattle.std.proofs.lemmas.List.{drop_all}
use Rattle.srcset.specs.declared.code.Code.TheVariants as code
use Rattle.srcset.specs.declared.refusal.Pos.{Pos}
use Rattle.tree.specs.declared.declaration.Initialiser.{Initialiser}
use Rattle.tree.specs.Tree.{Tree, hole, identifier, constant, string, paren, call, subscript, after, before, prefix, size_of, size_of_type, cast, binary, conditional, assign, Init, init_hole, one_init, braced_init, Inits, no_inits, and_init}
use Rattle.tree.specs.View.{init_of, inits_of}
use Rattle.typing_spec.specs.Types.{ObjectType}
use Rattle.typing_spec.specs.Verdict.{fine, breaks}
use Rattle.typing_spec.specs.Scope.{Scope, with_literals, literal_of}
use Rattle.typing_spec.specs.Initialisers.{strings_of, strings_of_all, text_alone, count_of, has_characters}
use Rattle.typing_spec.specs.Declarations.{text_or_form, text_or_count, length_from}
use Rattle.decls_declarators.proofs.Strings.{none_more, some_more}
use Rattle.decls_declarators.proofs.Verdicts.{next_of}
use Rattle.decls.specs.inside.Sizes.{as_literal, alone_literal, count_of_parts, literal_size, list_size, text_size}

-- the literals of the parts that are left
abbrev pub left_of : List Initialiser → List ℕ
left_of is = strings_of_all (inits_of (map init_of is))

pub one_less : (s0 s next : Scope) (is : List Initialiser) (k : ℕ) (i : Initialiser) → k < length is → i ≡ get_or is k i → with_literals s (left_of (drop k is)) ≡ with_literals s0 (left_of is) →
    next ≡ with_literals s (strings_of (init_of i)) → with_literals next (left_of (drop (k + 1) is)) ≡ with_literals s0 (left_of is)
one_less s0 s next is k i h g inv n =
    ap (λ x. with_literals x (left_of (drop (k + 1) is))) n ∙ some_more s (strings_of (init_of i)) (left_of (drop (k + 1) is))
    ∙ ap (λ l. with_literals s (left_of l)) (sym (next_of is k i h g)) ∙ inv

pub none_left : (s0 s : Scope) (is : List Initialiser) (k : ℕ) → length is ≤ k → with_literals s (left_of (drop k is)) ≡ with_literals s0 (left_of is) → s ≡ with_literals s0 (left_of is)
none_left s0 s is k h inv = sym (none_more s) ∙ ap (λ l. with_literals s (left_of l)) (sym (drop_all k is h)) ∙ inv

-- ---- sizes

pub count_is : (is : List Initialiser) → count_of (inits_of (map init_of is)) ≡ length is
count_is [] = refl
count_is (i ∷ is) = let p = count_is is in omega (arith, p)

text_by : (s : Scope) (k : Bool) (p : Pos) (e : Tree) → text_or_form s k p e ≡ text_size s k p e
text_by s false p e = refl
text_by s true p hole = refl
text_by s true p (identifier at n) = refl
text_by s true p (constant at t v) = refl
text_by s true p (string at n) = refl
text_by s true p (paren e) = refl
text_by s true p (call at f args) = refl
text_by s true p (subscript at a i) = refl
text_by s true p (after at op a) = refl
text_by s true p (before at op a) = refl
text_by s true p (prefix at op a) = refl
text_by s true p (size_of at a) = refl
text_by s true p (size_of_type at t) = refl
text_by s true p (cast at t a) = refl
text_by s true p (binary at op a b) = refl
text_by s true p (conditional at c a b) = refl
text_by s true p (assign at op a b) = refl

abbrev some_text : Option ℕ → Option Tree → Type 0
some_text None o = o ≡ None
some_text (Some n) o = (own : Pos) × (o ≡ Some (string own n))

alone_one : (e : Tree) → some_text (as_literal e) (text_alone (and_init (one_init e) no_inits))
alone_one hole = refl
alone_one (identifier at n) = refl
alone_one (constant at t v) = refl
alone_one (string at n) = (at, refl)
alone_one (paren e) = refl
alone_one (call at f args) = refl
alone_one (subscript at a i) = refl
alone_one (after at op a) = refl
alone_one (before at op a) = refl
alone_one (prefix at op a) = refl
alone_one (size_of at a) = refl
alone_one (size_of_type at t) = refl
alone_one (cast at t a) = refl
alone_one (binary at op a b) = refl
alone_one (conditional at c a b) = refl
alone_one (assign at op a b) = refl

alone_more : (e : Tree) (j : Init) (js : Inits) → text_alone (and_init (one_init e) (and_init j js)) ≡ None
alone_more hole j js = refl
alone_more (identifier at n) j js = refl
alone_more (constant at t v) j js = refl
alone_more (string at n) j js = refl
alone_more (paren e) j js = refl
alone_more (call at f args) j js = refl
alone_more (subscript at a i) j js = refl
alone_more (after at op a) j js = refl
alone_more (before at op a) j js = refl
alone_more (prefix at op a) j js = refl
alone_more (size_of at a) j js = refl
alone_more (size_of_type at t) j js = refl
alone_more (cast at t a) j js = refl
alone_more (binary at op a b) j js = refl
alone_more (conditional at c a b) j js = refl
alone_more (assign at op a b) j js = refl

alone : (parts : Inits) → some_text (alone_literal parts) (text_alone parts)
alone no_inits = refl
alone (and_init init_hole no_inits) = refl
alone (and_init (one_init e) no_inits) = alone_one e
alone (and_init (braced_init at is) no_inits) = refl
alone (and_init init_hole (and_init j js)) = refl
alone (and_init (one_init e) (and_init j js)) = alone_more e j js
alone (and_init (braced_init at is) (and_init j js)) = refl

count_false : (s : Scope) (p : Pos) (o : Option Tree) (n : ℕ) → text_or_count s false p o n ≡ count_of_parts p n
count_false s p o zero = refl
count_false s p o (suc n) = refl

count_none : (s : Scope) (p : Pos) (n : ℕ) → text_or_count s true p None n ≡ count_of_parts p n
count_none s p zero = refl
count_none s p (suc n) = refl

of_alone : (s : Scope) (p : Pos) (m : Option ℕ) (o : Option Tree) (n : ℕ) → some_text m o → text_or_count s true p o n ≡ literal_size s m (count_of_parts p n)
of_alone s p None o n e = ap (λ x. text_or_count s true p x n) e ∙ count_none s p n
of_alone s p (Some m) o n e = ap (λ x. text_or_count s true p x n) e.1

list_by : (s : Scope) (k : Bool) (p : Pos) (parts : Inits) → text_or_count s k p (text_alone parts) (count_of parts) ≡ list_size s k p parts
list_by s false p parts = count_false s p (text_alone parts) (count_of parts)
list_by s true p parts = of_alone s p (alone_literal parts) (text_alone parts) (count_of parts) (alone parts)

pub length_of_text : (s : Scope) (p : Pos) (t : ObjectType) (e : Tree) (i : Init) (k : Bool) → k ≡ has_characters t.element t.lengths → i ≡ one_init e → text_size s k p e ≡ length_from s p t i
length_of_text s p t e i k h g = ap (λ b. text_size s b p e) h ∙ sym (text_by s (has_characters t.element t.lengths) p e) ∙ ap (length_from s p t) (sym g)

pub length_of_list : (s : Scope) (p brace : Pos) (t : ObjectType) (is js : List Initialiser) (i : Init) (k : Bool) → k ≡ has_characters t.element t.lengths → is ≡ js → i ≡ braced_init brace (inits_of (map init_of js)) →
    list_size s k brace (inits_of (map init_of is)) ≡ length_from s p t i
length_of_list s p brace t is js i k h e g =
    ap (λ b. list_size s b brace (inits_of (map init_of is))) h ∙ ap (λ l. list_size s (has_characters t.element t.lengths) brace (inits_of (map init_of l))) e
    ∙ sym (list_by s (has_characters t.element t.lengths) brace (inits_of (map init_of js))) ∙ ap (length_from s p t) (sym g)

-- ---- literals

pub none_alone : (i : Initialiser) (is : List Initialiser) → 0 < length is → None ≡ alone_literal (inits_of (map init_of (i ∷ is)))
none_alone i [] h = absurd (omega (arith, h))
none_alone i (j ∷ js) h = refl

pub list_text : (s : Scope) (k : Bool) (p : Pos) (parts : Inits) (n m : ℕ) → k ≡ true → alone_literal parts ≡ Some n → m ≡ length (literal_of s n) + 1 → list_size s k p parts ≡ fine m
list_text s k p parts n m e f g = ap (λ b. list_size s b p parts) e ∙ ap (λ o. literal_size s o (count_of_parts p (count_of parts))) f ∙ ap fine (sym g)

pub text_text : (s : Scope) (k : Bool) (p : Pos) (e : Tree) (n m : ℕ) → k ≡ true → as_literal e ≡ Some n → m ≡ length (literal_of s n) + 1 → text_size s k p e ≡ fine m
text_text s k p e n m h f g = ap (λ b. text_size s b p e) h ∙ ap (λ o. literal_size s o (breaks code.BadInitialiserForm p)) f ∙ ap fine (sym g)
