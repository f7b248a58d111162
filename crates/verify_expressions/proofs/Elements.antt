-- Facts about single elements, as the functions have them.
use Rattle.std.proofs.Common.{◌≡◌, ◌<◌, ◌+◌, ◌∙◌, ℕ, List, [], ◌∷◌, ◌++◌, length, take, get_or, refl, ap, sym, subst, Option, Some, true}
use Rattle.std.specs.Prelude.{slice_get, slice_set}
use Rattle.verify_logic.specs.declared.abstract_values.Interval.{Interval}
use Rattle.verify_logic.specs.declared.abstract_values.AbsValue.{AbsValue}
use Rattle.verify_logic.specs.declared.abstract_values.Fact.{Fact}
use Rattle.verify_logic.specs.States.{Known, Frame, Entails, EachEntails, KnownEntails, FactsImply, Among, Below, Contents, Reads, ReadsAll, Replaces, Writes, Forgets, ChangesOne, Changes}
use Rattle.verify_logic.specs.Calls.{HoldBelow}
use Rattle.verify_logic.proofs.Facts.{fact_there, among_at, among_found, none_implied, implied_more, implied_step, none_below, below_more, none_forgets, forgets_more, none_changes, changes_more, facts_read}
use Rattle.verify_logic.proofs.Objects.{some_contents, set_replaces, array_writes}
use Rattle.verify_expressions.specs.Parts.{Apart}

there : (facts : List Fact) (n : ℕ) (d : Fact) → n < length facts → slice_get facts n ≡ Some (get_or facts n d)
there facts n d lt = fact_there facts n (get_or facts n d) d lt refl

pub among_here : (facts : List Fact) (n : ℕ) (d : Fact) (x index : ℕ) → n < length facts → ((get_or facts n d).object ≡ x) × ((get_or facts n d).index ≡ index) → Among facts x index (get_or facts n d).interval
among_here facts n d x index lt e = among_found facts n (get_or facts n d) x index (there facts n d lt) e.0 e.1

pub forgets_begin : (x : ℕ) (facts out : List Fact) → out ≡ [] → Forgets x facts out
forgets_begin x facts out e = let P : List Fact → Type 0 = Forgets x facts in subst P (sym e) (none_forgets x facts)

pub forgets_next : (x : ℕ) (facts out out2 : List Fact) (n : ℕ) (d : Fact) → n < length facts → Apart (get_or facts n d) x → Forgets x facts out → out2 ≡ out ++ get_or facts n d ∷ [] → Forgets x facts out2
forgets_next x facts out out2 n d lt a h e = let P : List Fact → Type 0 = Forgets x facts in subst P (sym e) (forgets_more x facts out n (get_or facts n d) (there facts n d lt) a h)

pub below_begin : (k : ℕ) (facts out : List Fact) → out ≡ [] → HoldBelow k facts out
below_begin k facts out e = let P : List Fact → Type 0 = HoldBelow k facts in subst P (sym e) (none_below k facts)

pub below_next : (k : ℕ) (facts out out2 : List Fact) (n : ℕ) (d : Fact) → n < length facts → (get_or facts n d).object < k → HoldBelow k facts out → out2 ≡ out ++ get_or facts n d ∷ [] → HoldBelow k facts out2
below_next k facts out out2 n d lt a h e = let P : List Fact → Type 0 = HoldBelow k facts in subst P (sym e) (below_more k facts out n (get_or facts n d) (there facts n d lt) a h)

pub changes_begin : (x : ℕ) (j : Option Interval) (i : Interval) (facts out : List Fact) → out ≡ [] → Changes x j i facts out
changes_begin x j i facts out e = let P : List Fact → Type 0 = Changes x j i facts in subst P (sym e) (none_changes x j i facts)

pub changes_next : (x : ℕ) (j i : Interval) (facts out out2 : List Fact) (n : ℕ) (d g : Fact) → n < length facts → ChangesOne x j i (get_or facts n d) g → Changes x (Some j) i facts out → out2 ≡ out ++ g ∷ [] → Changes x (Some j) i facts out2
changes_next x j i facts out out2 n d g lt c h e = let P : List Fact → Type 0 = Changes x (Some j) i facts in subst P (sym e) (changes_more x j i facts out n (get_or facts n d) g (there facts n d lt) c h)

pub implied_begin : (facts out : List Fact) → out ≡ [] → FactsImply facts out
implied_begin facts out e = let P : List Fact → Type 0 = FactsImply facts in subst P (sym e) (none_implied facts)

pub first_joined : (xs out out2 : List Fact) (n : ℕ) (d : Fact) (k : Interval) → n < length xs → Below (get_or xs n d).interval k → FactsImply xs out →
    out2 ≡ out ++ record { object = (get_or xs n d).object; index = (get_or xs n d).index; interval = k } ∷ [] → FactsImply xs out2
first_joined xs out out2 n d k lt b h e = let P : List Fact → Type 0 = FactsImply xs in
    let f : Fact = get_or xs n d in
    subst P (sym e) (implied_more xs out f.object f.index f.interval k (among_at xs n f (there xs n d lt)) b h)

pub second_joined : (xs ys out out2 : List Fact) (n : ℕ) (d : Fact) (i k : Interval) → Among ys (get_or xs n d).object (get_or xs n d).index i → Below i k → FactsImply ys out →
    out2 ≡ out ++ record { object = (get_or xs n d).object; index = (get_or xs n d).index; interval = k } ∷ [] → FactsImply ys out2
second_joined xs ys out out2 n d i k a b h e = let P : List Fact → Type 0 = FactsImply ys in
    let f : Fact = get_or xs n d in
    subst P (sym e) (implied_more ys out f.object f.index i k a b h)

pub imply_begin : (xs ys : List Fact) → FactsImply xs (take 0 ys)
imply_begin xs ys = none_implied xs

pub imply_next : (xs ys : List Fact) (n : ℕ) (d : Fact) (i : Interval) → n < length ys → Among xs (get_or ys n d).object (get_or ys n d).index i → Below i (get_or ys n d).interval → FactsImply xs (take n ys) → FactsImply xs (take (n + 1) ys)
imply_next xs ys n d i lt a b h = implied_step xs ys n (get_or ys n d) d i lt refl a b h

-- ---- all facts, by their parts

pub same_known : (a : Known) (xs xs2 : List AbsValue) (facts facts2 : List Fact) → xs2 ≡ xs → xs ≡ a.objects → facts2 ≡ facts → facts ≡ a.facts → record { objects = xs2; facts = facts2 } ≡ a
same_known a xs xs2 facts facts2 ex ea ef eb =
    let P : List AbsValue → Known = λ xs. record { objects = xs; facts = facts2 } in
    let Q : List Fact → Known = λ facts. record { objects = a.objects; facts = facts } in
    ap P (ex ∙ ea) ∙ ap Q (ef ∙ eb)

pub contents_at : (known : Known) (xs : List AbsValue) (x : ℕ) (k : AbsValue) → xs ≡ known.objects → slice_get xs x ≡ Some k → Contents (Some known) x k
contents_at known xs x k e h = let P : List AbsValue → Type 0 = λ xs. slice_get xs x ≡ Some k in some_contents known x k (subst P e h)

pub read_at : (known : Known) (facts : List Fact) (x : ℕ) (j i : Interval) (k : AbsValue) → facts ≡ known.facts → k ≡ record { initialised = true; interval = i } → ReadsAll facts x j i → Reads (Some known) x (Some j) k
read_at known facts x j i k e ek h =
    let P : List Fact → Type 0 = λ facts. ReadsAll facts x j i in
    let Q : AbsValue → Type 0 = λ k. Reads (Some known) x (Some j) k in
    subst Q (sym ek) (facts_read known x j i (subst P e h))

pub entails_at : (a b : Known) (xs ys : List AbsValue) (facts facts2 : List Fact) → xs ≡ a.objects → ys ≡ b.objects → facts ≡ a.facts → facts2 ≡ b.facts → EachEntails xs ys → FactsImply facts facts2 → KnownEntails a b
entails_at a b xs ys facts facts2 ex ey ef eg h g =
    let P : List AbsValue → Type 0 = λ xs. EachEntails xs ys in
    let Q : List AbsValue → Type 0 = λ ys. EachEntails a.objects ys in
    let R : List Fact → Type 0 = λ facts. FactsImply facts facts2 in
    let S : List Fact → Type 0 = λ facts2. FactsImply a.facts facts2 in
    record { objects = subst Q ey (subst P ex h); facts = subst S eg (subst R ef g) }

pub replaced_at : (a : Known) (facts facts2 : List Fact) (ys : List AbsValue) (x : ℕ) (k : AbsValue) → facts ≡ a.facts → ys ≡ slice_set a.objects x k → Forgets x facts facts2 → Replaces (Some a) x k (Some (record { objects = ys; facts = facts2 }))
replaced_at a facts facts2 ys x k e d h = let P : List Fact → Type 0 = λ facts. Forgets x facts facts2 in set_replaces a (record { objects = ys; facts = facts2 }) x k d (subst P e h)

pub written_at : (fr : Frame) (a : Known) (xs ys : List AbsValue) (facts facts2 : List Fact) (x : ℕ) (old new k : AbsValue) (sub : Option Interval) (i : Interval) → xs ≡ a.objects → slice_get xs x ≡ Some old → new ≡ record { initialised = true; interval = i } → Entails old k → Entails new k →
    facts ≡ a.facts → Changes x sub i facts facts2 → ys ≡ slice_set a.objects x k → Writes fr (Some a) x sub i (Some (record { objects = ys; facts = facts2 }))
written_at fr a xs ys facts facts2 x old new k sub i ex h en f g ef ch d =
    let P : List AbsValue → Type 0 = λ xs. slice_get xs x ≡ Some old in
    let Q : List Fact → Type 0 = λ facts. Changes x sub i facts facts2 in
    let R : AbsValue → Type 0 = λ new. Entails new k in
    array_writes fr a (record { objects = ys; facts = facts2 }) x old k sub i (subst P ex h) f (subst R en g) d (subst Q ef ch)
