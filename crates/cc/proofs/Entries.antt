-- The entries of functions.
use Rattle.std.proofs.Common.{◌≡◌, ◌<◌, ◌≤◌, ℕ, zero, suc, ◌+◌, List, [], ◌∷◌, ◌++◌, length, map, drop, get_or, refl, sym, ap, ◌∙◌, arith}
use Rattle.std.proofs.Common.{append_assoc, drop-cons}
use Rattle.std.proofs.lemmas.List.{map-append}
use Rattle.std.specs.Prelude.{String}
use Rattle.std.specs.Global.{Global}
use Rattle.srcset.specs.NameTable.{Texts}
use Rattle.typing_spec.specs.Program as typed
use Rattle.typed_ast.specs.declared.units.Function.{Function}
use Rattle.typed_ast.specs.View.{function_of}
use Rattle.cc.specs.Compiled.{shown_entry, entry_of, entries}

drop_past : {A : Type 0} (xs : List A) (k : ℕ) → length xs ≤ k → drop k xs ≡ []
drop_past [] zero le = refl
drop_past [] (suc k) le = refl
drop_past (x ∷ xs) zero le = absurd (omega (arith, le))
drop_past (x ∷ xs) (suc k) le = drop_past xs k (omega (arith, le))

append_nil : {A : Type 0} (xs : List A) → xs ++ [] ≡ xs
append_nil [] = refl
append_nil (x ∷ xs) = ap (λ ys. x ∷ ys) (append_nil xs)

one_on : (k : ℕ) → suc k ≡ k + 1
one_on k = omega arith

next_entry : (texts : Texts) (fs : List Function) (ns : List ℕ) (k : ℕ) (f : Function) (n : ℕ) → k < length fs → k < length ns → f ≡ get_or fs k f → n ≡ get_or ns k 0
    → entries texts (map function_of (drop k fs)) (drop k ns) ≡ entry_of texts (function_of f) n ∷ entries texts (map function_of (drop (k + 1) fs)) (drop (k + 1) ns)
next_entry texts fs ns k f n lt lt2 e e2 =
    let functions : drop k fs ≡ f ∷ drop (k + 1) fs = drop-cons fs k f lt ∙ ap (λ z. z ∷ drop (suc k) fs) (sym e) ∙ ap (λ j. f ∷ drop j fs) (one_on k) in
    let numbers : drop k ns ≡ n ∷ drop (k + 1) ns = drop-cons ns k 0 lt2 ∙ ap (λ z. z ∷ drop (suc k) ns) (sym e2) ∙ ap (λ j. n ∷ drop j ns) (one_on k) in
    ap (λ xs. entries texts (map function_of xs) (drop k ns)) functions ∙ ap (entries texts (map function_of (f ∷ drop (k + 1) fs))) numbers

pub one_more : (texts : Texts) (fs : List Function) (ns : List ℕ) (k : ℕ) (f : Function) (n : ℕ) (old more : List (String Global × ℕ × ℕ)) (y : String Global × ℕ × ℕ) (all : List (List ℕ × ℕ × ℕ))
    → k < length fs → k < length ns → f ≡ get_or fs k f → n ≡ get_or ns k 0 → more ≡ old ++ y ∷ [] → shown_entry y ≡ entry_of texts (function_of f) n
    → map shown_entry old ++ entries texts (map function_of (drop k fs)) (drop k ns) ≡ all
    → map shown_entry more ++ entries texts (map function_of (drop (k + 1) fs)) (drop (k + 1) ns) ≡ all
one_more texts fs ns k f n old more y all lt lt2 e e2 grown same done =
    let rest = entries texts (map function_of (drop (k + 1) fs)) (drop (k + 1) ns) in
    let put : map shown_entry more ≡ map shown_entry old ++ entry_of texts (function_of f) n ∷ [] =
    ap (map shown_entry) grown ∙ map-append shown_entry old (y ∷ []) ∙ ap (λ z. map shown_entry old ++ z ∷ []) same in
    ap (λ z. z ++ rest) put ∙ append_assoc (map shown_entry old) (entry_of texts (function_of f) n ∷ []) rest
    ∙ ap (λ z. map shown_entry old ++ z) (sym (next_entry texts fs ns k f n lt lt2 e e2)) ∙ done

no_frames : (texts : Texts) (fs : List typed.Function) → entries texts fs [] ≡ []
no_frames texts [] = refl
no_frames texts (f ∷ fs) = refl

pub none_left : (texts : Texts) (fs : List Function) (ns : List ℕ) (k : ℕ) → length fs ≤ k → entries texts (map function_of (drop k fs)) (drop k ns) ≡ []
none_left texts fs ns k le = ap (λ xs. entries texts (map function_of xs) (drop k ns)) (drop_past fs k le)

pub no_more : (texts : Texts) (fs : List Function) (ns : List ℕ) (k : ℕ) → length ns ≤ k → entries texts (map function_of (drop k fs)) (drop k ns) ≡ []
no_more texts fs ns k le = ap (entries texts (map function_of (drop k fs))) (drop_past ns k le) ∙ no_frames texts (map function_of (drop k fs))

pub all_put : (old : List (String Global × ℕ × ℕ)) (rest all : List (List ℕ × ℕ × ℕ)) → rest ≡ [] → map shown_entry old ++ rest ≡ all → map shown_entry old ≡ all
all_put old rest all e done = sym (append_nil (map shown_entry old)) ∙ ap (λ z. map shown_entry old ++ z) (sym e) ∙ done

-- the entries that were put into an empty list
pub entries_made : (texts : Texts) (old new : List (String Global × ℕ × ℕ)) (fs gs : List Function) (ns ms : List ℕ) → old ≡ [] → gs ≡ fs → ms ≡ ns
    → map shown_entry new ≡ map shown_entry old ++ entries texts (map function_of gs) ms → map shown_entry new ≡ entries texts (map function_of fs) ns
entries_made texts old new fs gs ns ms none same_functions same_frames put =
    put ∙ ap (λ xs. map shown_entry xs ++ entries texts (map function_of gs) ms) none ∙ ap (λ xs. entries texts (map function_of xs) ms) same_functions
    ∙ ap (entries texts (map function_of fs)) same_frames
