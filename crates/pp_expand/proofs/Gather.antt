-- The arguments of a call, token by token.
use Rattle.std.specs.Prelude.{Vec, nat_lt}
use Rattle.std.proofs.Common.{◌≡◌, ℕ, zero, suc, ◌+◌, ◌-◌, ◌<◌, ◌≤◌, List, [], ◌∷◌, ◌++◌, Bool, true, false, not, ◌&&◌, ◌||◌, nat_eq, length, Option, Some, None, refl, sym, ap, ◌∙◌, subst, append_assoc, append-nil, arith}
use Rattle.std.proofs.lemmas.List.{map-append, length-append, length-map}
use Rattle.std.proofs.lemmas.Bool.Decides.{nat_tests}
use Rattle.std.specs.declared.alloc.Global.{Global}
use Rattle.srcset.specs.NameTable.{Texts}
use Rattle.macros_substitution.specs.Substitution.{Hidden}
use Rattle.macros_substitution.specs.HideSets.{Sets}
use Rattle.macros_substitution.specs.declared.piece.HiddenToken.{HiddenToken}
use Rattle.macros_substitution.specs.Meaning.{hidden_of, hidden_all, hidden_lists, AreIn, ListsIn}
use Rattle.pp_expand.specs.Expansion.{Further, Taken, merged, with_merged, separated, Mark, opens, closes, separates, other, mark_of, with_token, behind_comma, taken_with, arguments_in}
use Rattle.pp_expand.specs.inside.Turns.{gathered}
use Rattle.pp_expand.proofs.Sets.{are_in_append, lists_in_append}

-- ---- commas

-- whether a comma separates arguments when `before` arguments precede it
abbrev pub separator : Bool → ℕ → ℕ → Bool
separator variadic named before = not variadic || nat_lt before named

pub parts : (depth : ℕ) (s : Bool) → (nat_eq depth 0 && s) ≡ true → (depth ≡ 0) × (s ≡ true)
parts depth s e = by (nat_eq depth 0) refl e
  where
    by : (b : Bool) → nat_eq depth 0 ≡ b → (b && s) ≡ true → (depth ≡ 0) × (s ≡ true)
    by true f e = let d : depth ≡ 0 = grind (arith, nat_tests) in (d, e)
    by false f e = absurd (cc)

pub stays : (depth : ℕ) (s : Bool) → (nat_eq depth 0 && s) ≡ false → depth ≡ 0 → s ≡ false
stays depth s e q = let t : nat_eq depth 0 ≡ true = grind (arith, nat_tests) in sym (ap (λ b. b && s) t) ∙ e

merged_front : (xs ys : List Hidden) (more : List Further) → merged (xs ++ ys) more ≡ xs ++ merged ys more
merged_front xs ys [] = refl
merged_front xs ys (m ∷ more) = append_assoc xs ys (m.comma ∷ merged m.argument more)

separated_last : (variadic : Bool) (named : ℕ) (first : List Hidden) → separated variadic named first [] ≡ first ∷ []
separated_last false named first = refl
separated_last true zero first = refl
separated_last true (suc named) first = refl

separated_next : (variadic : Bool) (named before after : ℕ) (now : List Hidden) (m : Further) (more : List Further) → separator variadic named before ≡ true → after ≡ before + 1
    → separated variadic (named - before) now (m ∷ more) ≡ now ∷ separated variadic (named - after) m.argument more
separated_next false named before after now m more h e = refl
separated_next true named before after now m more h e =
    let l : before < named = grind (arith, nat_tests) in
    let k : named - before ≡ suc (named - after) = omega (arith, l, e) in
    ap (λ n. with_merged n now (m ∷ more)) k

separated_merged : (variadic : Bool) (named before : ℕ) (now first : List Hidden) (x : Hidden) (more : List Further) → separator variadic named before ≡ false
    → separated variadic (named - before) (now ++ []) (record { comma = x; argument = first } ∷ more) ≡ separated variadic (named - before) ((now ++ x ∷ []) ++ first) more
separated_merged false named before now first x more h = cc
separated_merged true named before now first x more h =
    let l : named ≤ before = grind (arith, nat_tests) in
    let k : named - before ≡ 0 = omega (arith, l) in
    ap (λ n. with_merged n (now ++ []) (record { comma = x; argument = first } ∷ more)) k
    ∙ ap (λ l. (l ++ x ∷ merged first more) ∷ []) (append-nil now)
    ∙ ap (λ l. l ∷ []) (sym (append_assoc now (x ∷ []) (merged first more)) ∙ sym (merged_front (now ++ x ∷ []) first more))
    ∙ ap (λ n. with_merged n ((now ++ x ∷ []) ++ first) more) (sym k)

module _ (variadic : Bool) (named : ℕ) (before : List (List Hidden)) (now : List Hidden) where
  gathered_with : (x : Hidden) (o : Option Taken) → gathered variadic named before now (with_token x o) ≡ gathered variadic named before (now ++ x ∷ []) o
  gathered_with x None = refl
  gathered_with x (Some t) = ap (λ l. Some (before ++ separated variadic (named - length before) l t.more, t.close, t.rest)) (sym (append_assoc now (x ∷ []) t.first))

  gathered_next : (x : Hidden) (o : Option Taken) → separator variadic named (length before) ≡ true → gathered variadic named before now (behind_comma x o) ≡ gathered variadic named (before ++ now ∷ []) [] o
  gathered_next x None h = refl
  gathered_next x (Some t) h =
      let all = separated variadic (named - length (before ++ now ∷ [])) t.first t.more in
      ap (λ l. Some (before ++ separated variadic (named - length before) l (record { comma = x; argument = t.first } ∷ t.more), t.close, t.rest)) (append-nil now)
      ∙ ap (λ l. Some (before ++ l, t.close, t.rest)) (separated_next variadic named (length before) (length (before ++ now ∷ [])) now (record { comma = x; argument = t.first }) t.more h (length-append before (now ∷ [])))
      ∙ ap (λ l. Some (l, t.close, t.rest)) (sym (append_assoc before (now ∷ []) all))

  gathered_merged : (x : Hidden) (o : Option Taken) → separator variadic named (length before) ≡ false → gathered variadic named before now (behind_comma x o) ≡ gathered variadic named before (now ++ x ∷ []) o
  gathered_merged x None h = refl
  gathered_merged x (Some t) h =
      ap (λ l. Some (before ++ l, t.close, t.rest)) (separated_merged variadic named (length before) now t.first x t.more h)

  module _ (x : Hidden) (xs : List Hidden) where
    first_as : (d : ℕ) (k : Mark) → mark_of x.token ≡ k → gathered variadic named before now (arguments_in d (x ∷ xs)) ≡ gathered variadic named before now (taken_with k d x xs (λ d. arguments_in d xs))
    unfolding arguments_in
    first_as d k e = ap (λ k. gathered variadic named before now (taken_with k d x xs (λ d. arguments_in d xs))) e

    at_open : (d : ℕ) → mark_of x.token ≡ opens → gathered variadic named before now (arguments_in d (x ∷ xs)) ≡ gathered variadic named before (now ++ x ∷ []) (arguments_in (suc d) xs)
    at_open d e = first_as d opens e ∙ gathered_with x (arguments_in (suc d) xs)

    at_inner_close : (d n : ℕ) → d ≡ suc n → mark_of x.token ≡ closes → gathered variadic named before now (arguments_in d (x ∷ xs)) ≡ gathered variadic named before (now ++ x ∷ []) (arguments_in n xs)
    at_inner_close d n p e =
        ap (λ d. gathered variadic named before now (arguments_in d (x ∷ xs))) p ∙ first_as (suc n) closes e ∙ gathered_with x (arguments_in n xs)

    at_close : (d : ℕ) → d ≡ 0 → mark_of x.token ≡ closes → gathered variadic named before now (arguments_in d (x ∷ xs)) ≡ Some (before ++ now ∷ [], x, xs)
    at_close d p e =
        ap (λ d. gathered variadic named before now (arguments_in d (x ∷ xs))) p ∙ first_as 0 closes e ∙ ap (λ l. Some (before ++ l, x, xs)) (separated_last variadic (named - length before) (now ++ []) ∙ ap (λ l. l ∷ []) (append-nil now))

    at_comma : (d : ℕ) → d ≡ 0 → separator variadic named (length before) ≡ true → mark_of x.token ≡ separates → gathered variadic named before now (arguments_in d (x ∷ xs)) ≡ gathered variadic named (before ++ now ∷ []) [] (arguments_in d xs)
    at_comma d p h e =
        ap (λ d. gathered variadic named before now (arguments_in d (x ∷ xs))) p ∙ first_as 0 separates e ∙ gathered_next x (arguments_in 0 xs) h ∙ ap (λ d. gathered variadic named (before ++ now ∷ []) [] (arguments_in d xs)) (sym p)

    at_kept_comma : (d : ℕ) → (d ≡ 0 → separator variadic named (length before) ≡ false) → mark_of x.token ≡ separates → gathered variadic named before now (arguments_in d (x ∷ xs)) ≡ gathered variadic named before (now ++ x ∷ []) (arguments_in d xs)
    at_kept_comma zero h e = first_as 0 separates e ∙ gathered_merged x (arguments_in 0 xs) (h refl)
    at_kept_comma (suc n) h e = first_as (suc n) separates e ∙ gathered_with x (arguments_in (suc n) xs)

    at_other : (d : ℕ) → mark_of x.token ≡ other → gathered variadic named before now (arguments_in d (x ∷ xs)) ≡ gathered variadic named before (now ++ x ∷ []) (arguments_in d xs)
    at_other d e = first_as d other e ∙ gathered_with x (arguments_in d xs)

  pub ends_open : (d : ℕ) (l : List Hidden) → l ≡ [] → gathered variadic named before now (arguments_in d l) ≡ None
  unfolding arguments_in
  ends_open d l e = ap (λ z. gathered variadic named before now (arguments_in d z)) e

-- ---- the same of the engine's lists

-- the arguments begun so far: these lists, then the current one
abbrev pub Held : Bool → ℕ → List HiddenToken → List (Vec HiddenToken Global) → List HiddenToken → ℕ → List HiddenToken → Type 0
Held variadic named start before now depth rest =
    (texts : Texts) (sets : Sets) → gathered variadic named [] [] (arguments_in 0 (hidden_all texts sets start)) ≡ gathered variadic named (hidden_lists texts sets before) (hidden_all texts sets now) (arguments_in depth (hidden_all texts sets rest))

abbrev pub HeldIn : List HiddenToken → List (Vec HiddenToken Global) → List HiddenToken → List HiddenToken → Type 0
HeldIn start before now rest =
    (count : ℕ) → AreIn count start → AreIn count rest × AreIn count now × ListsIn count before

module _ (variadic : Bool) (named : ℕ) (start : List HiddenToken) (before : List (Vec HiddenToken Global)) (now rest : List HiddenToken) (depth : ℕ) (x : HiddenToken) (xs : List HiddenToken) (first : rest ≡ x ∷ xs) where
  count : (texts : Texts) (sets : Sets) → length (hidden_lists texts sets before) ≡ length before
  count texts sets = length-map before (λ (v : Vec HiddenToken Global). hidden_all texts sets v.items)

  begins : Held variadic named start before now depth rest → Held variadic named start before now depth (x ∷ xs)
  begins h texts sets =
      h texts sets ∙ ap (λ l. gathered variadic named (hidden_lists texts sets before) (hidden_all texts sets now) (arguments_in depth (hidden_all texts sets l))) first

  with_it : (d : ℕ) (now2 : List HiddenToken) → now2 ≡ now ++ x ∷ [] → ((texts : Texts) (sets : Sets) → gathered variadic named (hidden_lists texts sets before) (hidden_all texts sets now) (arguments_in depth (hidden_all texts sets (x ∷ xs))) ≡ gathered variadic named (hidden_lists texts sets before) (hidden_all texts sets now ++ hidden_of texts sets x ∷ []) (arguments_in d (hidden_all texts sets xs))) → Held variadic named start before now depth rest → Held variadic named start before now2 d xs
  with_it d now2 e step h texts sets =
      begins h texts sets ∙ step texts sets ∙ ap (λ l. gathered variadic named (hidden_lists texts sets before) l (arguments_in d (hidden_all texts sets xs))) (sym (map-append (λ x. hidden_of texts sets x) now (x ∷ []))) ∙ ap (λ l. gathered variadic named (hidden_lists texts sets before) (hidden_all texts sets l) (arguments_in d (hidden_all texts sets xs))) (sym e)

  module _ (now2 : List HiddenToken) (e : now2 ≡ now ++ x ∷ []) where
    pub held_open : (d : ℕ) → d ≡ suc depth → mark_of x.token ≡ opens → Held variadic named start before now depth rest → Held variadic named start before now2 d xs
    held_open d q m = with_it d now2 e (λ texts sets. at_open variadic named (hidden_lists texts sets before) (hidden_all texts sets now) (hidden_of texts sets x) (hidden_all texts sets xs) depth m ∙ ap (λ d. gathered variadic named (hidden_lists texts sets before) (hidden_all texts sets now ++ hidden_of texts sets x ∷ []) (arguments_in d (hidden_all texts sets xs))) (sym q))

    pub held_inner_close : (d : ℕ) → depth ≡ suc d → mark_of x.token ≡ closes → Held variadic named start before now depth rest → Held variadic named start before now2 d xs
    held_inner_close d q m = with_it d now2 e (λ texts sets. at_inner_close variadic named (hidden_lists texts sets before) (hidden_all texts sets now) (hidden_of texts sets x) (hidden_all texts sets xs) depth d q m)

    pub held_kept_comma : (depth ≡ 0 → separator variadic named (length before) ≡ false) → mark_of x.token ≡ separates → Held variadic named start before now depth rest → Held variadic named start before now2 depth xs
    held_kept_comma h m = with_it depth now2 e (λ texts sets. at_kept_comma variadic named (hidden_lists texts sets before) (hidden_all texts sets now) (hidden_of texts sets x) (hidden_all texts sets xs) depth (λ q. ap (separator variadic named) (count texts sets) ∙ h q) m)

    pub held_other : mark_of x.token ≡ other → Held variadic named start before now depth rest → Held variadic named start before now2 depth xs
    held_other m = with_it depth now2 e (λ texts sets. at_other variadic named (hidden_lists texts sets before) (hidden_all texts sets now) (hidden_of texts sets x) (hidden_all texts sets xs) depth m)

    pub held_in : HeldIn start before now rest → HeldIn start before now2 xs
    held_in h count k =
        let p = h count k in
        let q = subst (λ l. AreIn count l) first p.0 in
        (q.1, subst (λ l. AreIn count l) (sym e) (are_in_append count now (x ∷ []) p.1 (q.0, tt)), p.2)

  -- the current list is appended to the others
  module _ (before2 : List (Vec HiddenToken Global)) (v : Vec HiddenToken Global) (of : v.items ≡ now) (e : before2 ≡ before ++ v ∷ []) where
    lists : (texts : Texts) (sets : Sets) → hidden_lists texts sets before2 ≡ hidden_lists texts sets before ++ hidden_all texts sets now ∷ []
    lists texts sets =
        ap (hidden_lists texts sets) e ∙ map-append (λ (v : Vec HiddenToken Global). hidden_all texts sets v.items) before (v ∷ []) ∙ ap (λ l. hidden_lists texts sets before ++ hidden_all texts sets l ∷ []) of

    pub held_close : depth ≡ 0 → mark_of x.token ≡ closes → Held variadic named start before now depth rest → (texts : Texts) (sets : Sets) → gathered variadic named [] [] (arguments_in 0 (hidden_all texts sets start)) ≡ Some (hidden_lists texts sets before2, hidden_of texts sets x, hidden_all texts sets xs)
    held_close q m h texts sets =
        begins h texts sets ∙ at_close variadic named (hidden_lists texts sets before) (hidden_all texts sets now) (hidden_of texts sets x) (hidden_all texts sets xs) depth q m ∙ ap (λ l. Some (l, hidden_of texts sets x, hidden_all texts sets xs)) (sym (lists texts sets))

    pub held_comma : (now2 : List HiddenToken) → now2 ≡ [] → depth ≡ 0 → separator variadic named (length before) ≡ true → mark_of x.token ≡ separates → Held variadic named start before now depth rest → Held variadic named start before2 now2 depth xs
    held_comma now2 n q s m h texts sets =
        begins h texts sets ∙ at_comma variadic named (hidden_lists texts sets before) (hidden_all texts sets now) (hidden_of texts sets x) (hidden_all texts sets xs) depth q (ap (separator variadic named) (count texts sets) ∙ s) m ∙ ap (λ l. gathered variadic named l [] (arguments_in depth (hidden_all texts sets xs))) (sym (lists texts sets)) ∙ ap (λ l. gathered variadic named (hidden_lists texts sets before2) (hidden_all texts sets l) (arguments_in depth (hidden_all texts sets xs))) (sym n)

    lists_in : (count : ℕ) → AreIn count now → ListsIn count before → ListsIn count before2
    lists_in count p q =
        subst (λ l. ListsIn count l) (sym e) (lists_in_append count before (v ∷ []) q (subst (λ l. AreIn count l) (sym of) p, tt))

    pub comma_in : (now2 : List HiddenToken) → now2 ≡ [] → HeldIn start before now rest → HeldIn start before2 now2 xs
    comma_in now2 n h count k =
        let p = h count k in
        let q = subst (λ l. AreIn count l) first p.0 in
        (q.1, subst (λ l. AreIn count l) (sym n) tt, lists_in count p.1 p.2)

    pub close_in : HeldIn start before now rest → (count : ℕ) → AreIn count start → (ListsIn count before2 × (x.hides ≤ count)) × AreIn count xs
    close_in h count k =
        let p = h count k in
        let q = subst (λ l. AreIn count l) first p.0 in
        ((lists_in count p.1 p.2, q.0), q.1)

pub held_none : (variadic : Bool) (named : ℕ) (start : List HiddenToken) (before : List (Vec HiddenToken Global)) (now rest : List HiddenToken) (depth : ℕ) → rest ≡ [] → Held variadic named start before now depth rest → (texts : Texts) (sets : Sets) → gathered variadic named [] [] (arguments_in 0 (hidden_all texts sets start)) ≡ None
held_none variadic named start before now rest depth e h texts sets =
    h texts sets ∙ ends_open variadic named (hidden_lists texts sets before) (hidden_all texts sets now) depth (hidden_all texts sets rest) (ap (hidden_all texts sets) e)
