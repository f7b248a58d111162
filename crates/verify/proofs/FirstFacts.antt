-- What is known of single elements before the run.
use Rattle.std.proofs.Common.{◌≡◌, ◌<◌, ◌≤◌, ℕ, zero, suc, ℤ, pos, List, [], ◌∷◌, ◌++◌, drop, length, get_or, refl, sym, ap, subst, ◌∙◌, arith, Option, Some}
use Rattle.std.proofs.lemmas.Int.{ints}
use Rattle.std.specs.Prelude.{slice_get}
use Rattle.csem.specs.Store.{Tree, Element, part_of, at_path, value_of, Store, first_or_zero, row_of, laid_out, characters_of, literal_object}
use Rattle.verify_logic.specs.declared.abstract_values.Interval.{Interval}
use Rattle.verify_logic.specs.declared.abstract_values.Fact.{Fact}
use Rattle.verify_logic.specs.States.{In, just, HasValueIn, FactIs, FactsAre}
use Rattle.verify_logic.proofs.Facts.{facts_front}
use Rattle.verify.specs.Says.{TreeFacts}

pub no_facts : (t : Tree) (x : ℕ) (facts : List Fact) → TreeFacts t x facts facts
no_facts t x facts = record { is = λ store e h. facts_front facts store (t ∷ []) h }

last_is : (store : Store) (t : Tree) (x : ℕ) → length store ≡ x → slice_get (store ++ t ∷ []) x ≡ Some t
last_is [] t zero e = refl
last_is [] t (suc x) e = absurd (cc e)
last_is (u ∷ store) t zero e = absurd (cc e)
last_is (u ∷ store) t (suc x) e = last_is store t x (let q : suc (length store) ≡ suc x = e in omega (arith, q))

facts_more : (facts : List Fact) (f : Fact) (store : Store) → FactsAre facts store → FactIs f store → FactsAre (facts ++ f ∷ []) store
facts_more [] f store h g = (g, tt)
facts_more (a ∷ facts) f store h g = (h.0, facts_more facts f store h.1 g)

one_more_fact : (t : Tree) (x j : ℕ) (i : Interval) (facts out out2 : List Fact) → HasValueIn i (value_of (at_path (Some t) (j ∷ []))) → TreeFacts t x facts out → out2 ≡ out ++ record { object = x; index = j; interval = i } ∷ [] → TreeFacts t x facts out2
one_more_fact t x j i facts out out2 v h e = let P : List Fact → Type 0 = TreeFacts t x facts in subst P (sym e) (record {
  is = λ store q g.
      let Q : Option Tree → Type 0 = λ o. HasValueIn i (value_of (at_path o (j ∷ []))) in
      facts_more out _ (store ++ t ∷ []) (h.is store q g) (subst Q (sym (last_is store t x q)) v);
})

in_both : (i : Interval) (v : ℤ) → i.low ≡ v → i.high ≡ v → In i v
in_both i v el eh = (omega (arith, ints, el), omega (arith, ints, eh))

character_at : (text : List ℕ) (j d : ℕ) → j < length text → part_of (characters_of text) j ≡ Some (Element (Some (pos (get_or text j d))))
character_at [] j d lt = absurd (omega (arith, lt))
character_at (c ∷ text) zero d lt = refl
character_at (c ∷ text) (suc j) d lt = character_at text j d (let q : suc j < suc (length text) = lt in omega (arith, q))

pub text_next : (text : List ℕ) (x j d index : ℕ) (i : Interval) (facts out out2 : List Fact) → j < length text → index ≡ j → i ≡ just (pos (get_or text j d)) → TreeFacts (literal_object text) x facts out →
    out2 ≡ out ++ record { object = x; index = index; interval = i } ∷ [] → TreeFacts (literal_object text) x facts out2
text_next text x j d index i facts out out2 lt ej ei h e =
    let P : Option Tree → Type 0 = λ o. HasValueIn i (value_of o) in
    let J : ℕ → Type 0 = λ j. out2 ≡ out ++ record { object = x; index = j; interval = i } ∷ [] in
    one_more_fact (literal_object text) x j i facts out out2 (subst P (sym (character_at text j d lt)) (in_both i (pos (get_or text j d)) (ap (λ i. i.low) ei) (ap (λ i. i.high) ei))) h (subst J ej e)

element_at : (n j : ℕ) (vs : List ℤ) → j < n → part_of (row_of n 1 (laid_out []) vs) j ≡ Some (Element (Some (first_or_zero (drop j vs))))
element_at zero j vs lt = absurd (omega (arith, lt))
element_at (suc n) zero vs lt = refl
element_at (suc n) (suc j) vs lt = element_at n j (drop 1 vs) (let q : suc j < suc n = lt in omega (arith, q)) ∙ ap (λ ws. Some (Element (Some (first_or_zero ws)))) (twice j vs)
  where
    twice : (j : ℕ) (vs : List ℤ) → drop j (drop 1 vs) ≡ drop (suc j) vs
    twice zero [] = refl
    twice (suc j) [] = refl
    twice j (v ∷ vs) = refl

pub value_next : (n x j index : ℕ) (vs : List ℤ) (i : Interval) (facts out out2 : List Fact) → index < n → index ≡ j → i.low ≡ first_or_zero (drop j vs) → i.high ≡ first_or_zero (drop j vs) → TreeFacts (laid_out (n ∷ []) vs) x facts out →
    out2 ≡ out ++ record { object = x; index = index; interval = i } ∷ [] → TreeFacts (laid_out (n ∷ []) vs) x facts out2
value_next n x j index vs i facts out out2 lt ej el eh h e =
    let P : Option Tree → Type 0 = λ o. HasValueIn i (value_of o) in
    let V : ℕ → Type 0 = λ j. In i (first_or_zero (drop j vs)) in
    one_more_fact (laid_out (n ∷ []) vs) x index i facts out out2 (subst P (sym (element_at n index vs lt)) (subst V (sym ej) (in_both i (first_or_zero (drop j vs)) el eh))) h e

pub zero_past : (vs : List ℤ) (j : ℕ) → length vs ≤ j → pos 0 ≡ first_or_zero (drop j vs)
zero_past [] zero le = refl
zero_past [] (suc j) le = refl
zero_past (v ∷ vs) zero le = absurd (let q : suc (length vs) ≤ 0 = le in omega (arith, q))
zero_past (v ∷ vs) (suc j) le = zero_past vs j (let q : suc (length vs) ≤ suc j = le in omega (arith, q))

pub value_there : (vs : List ℤ) (j : ℕ) (d : ℤ) → j < length vs → get_or vs j d ≡ first_or_zero (drop j vs)
value_there [] j d lt = absurd (omega (arith, lt))
value_there (v ∷ vs) zero d lt = refl
value_there (v ∷ vs) (suc j) d lt = value_there vs j d (let q : suc j < suc (length vs) = lt in omega (arith, q))

pub row_facts : (lengths : List ℕ) (n x : ℕ) (vs : List ℤ) (facts out : List Fact) → lengths ≡ n ∷ [] → TreeFacts (laid_out (n ∷ []) vs) x facts out → TreeFacts (laid_out lengths vs) x facts out
row_facts lengths n x vs facts out e h = let P : List ℕ → Type 0 = λ l. TreeFacts (laid_out l vs) x facts out in subst P (sym e) h

pub object_facts : (l l2 : List ℕ) (vs vs2 : List ℤ) (x : ℕ) (facts out : List Fact) → l ≡ l2 → vs ≡ vs2 → TreeFacts (laid_out l vs) x facts out → TreeFacts (laid_out l2 vs2) x facts out
object_facts l l2 vs vs2 x facts out e d h =
    let P : List ℕ → Type 0 = λ l. TreeFacts (laid_out l vs) x facts out in
    let Q : List ℤ → Type 0 = λ vs. TreeFacts (laid_out l2 vs) x facts out in
    subst Q d (subst P e h)
