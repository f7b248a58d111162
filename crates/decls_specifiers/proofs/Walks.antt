-- Lists of trees, as far as they are read: the result of F on the rest is its result on the whole.
use Rattle.std.proofs.Common.{◌≡◌, ℕ, ◌+◌, ◌<◌, ◌≤◌, List, [], ◌∷◌, drop, get_or, length, map, sym, ap, ◌∙◌, subst}
use Rattle.std.proofs.lemmas.List.{drop_all}
use Rattle.srcset.specs.declared.refusal.Refusal.{Refusal}
use Rattle.typing_spec.specs.Verdict.{Verdict}
use Rattle.typing_expressions.specs.Refused.{Tells}
use Rattle.decls_declarators.proofs.Verdicts.{next_of}

next_tree : {X Y : Type 0} (view : X → Y) (xs : List X) (i : ℕ) (x : X) → i < length xs → x ≡ get_or xs i x → map view (drop i xs) ≡ view x ∷ map view (drop (i + 1) xs)
next_tree view xs i x h k = ap (λ l. map view l) (next_of xs i x h k)

pub one_read : {X Y T : Type 0} (view : X → Y) (F G : List Y → T) (xs : List X) (i : ℕ) (x : X) (whole : T) → i < length xs → x ≡ get_or xs i x → ((ys : List Y) → F (view x ∷ ys) ≡ G ys) →
    F (map view (drop i xs)) ≡ whole → G (map view (drop (i + 1) xs)) ≡ whole
one_read view F G xs i x whole h k f inv = sym (f (map view (drop (i + 1) xs))) ∙ sym (ap F (next_tree view xs i x h k)) ∙ inv

pub one_told : {X Y A : Type 0} (view : X → Y) (F : List Y → Verdict A) (xs : List X) (i : ℕ) (x : X) (whole : Verdict A) (r : Refusal) → i < length xs → x ≡ get_or xs i x → ((ys : List Y) → Tells r (F (view x ∷ ys))) →
    F (map view (drop i xs)) ≡ whole → Tells r whole
one_told view F xs i x whole r h k f inv = subst (λ v. Tells r v) (sym (ap F (next_tree view xs i x h k)) ∙ inv) (f (map view (drop (i + 1) xs)))

pub all_read : {X Y T : Type 0} (view : X → Y) (F : List Y → T) (xs : List X) (i : ℕ) (whole : T) → length xs ≤ i → F (map view (drop i xs)) ≡ whole → whole ≡ F []
all_read view F xs i whole h inv = sym inv ∙ ap (λ l. F (map view l)) (drop_all i xs h)
