-- The whole expansion of a list, gathered one token after the other.
use Rattle.std.specs.Prelude.{take, slice_get, Option, Some, None}
use Rattle.std.proofs.Math.Seq.{drop-append_seam}
use Rattle.std.proofs.Common.{◌≡◌, ℕ, zero, suc, ◌-◌, ◌<◌, List, [], ◌∷◌, ◌++◌, map, length, drop, Result, Ok, Err, refl, sym, ap, ◌∙◌, subst, arith}
use Rattle.srcset.specs.NameTable.{Texts}
use Rattle.srcset.specs.declared.refusal.Refusal.{Refusal}
use Rattle.srcset.specs.declared.refusal.Refusal.TheVariants.{Memory, At, Told}
use Rattle.phases.specs.Token.{Token}
use Rattle.macros.specs.Macro.{Macros}
use Rattle.macros_substitution.specs.Substitution.{◌>>=◌, Hidden}
use Rattle.macros_substitution.specs.HideSets.{Sets}
use Rattle.macros_substitution.specs.declared.piece.HiddenToken.{HiddenToken}
use Rattle.macros_substitution.specs.Meaning.{hidden_all, AreIn}
use Rattle.pp_expand.specs.Expansion.{Ending, Known, Fault, unhidden, shown_answer, expanded}
use Rattle.pp_expand.specs.declared.run_end.RunEnd.{RunEnd}
use Rattle.pp_expand.specs.Expands.{HaveFiles, IsExpansion, ending_of, put_behind}
use Rattle.pp_expand.specs.Pulled.{expanding, Pull, pulled, then_expanded}
use Rattle.pp_expand.specs.Streams.{IsPulled}
use Rattle.pp_expand.specs.Meaning.{shown_behind, Refuses}
use Rattle.pp_expand.specs.inside.Unhidden.{IsUnhidden}
use Rattle.pp_expand.proofs.Pulls.{expanding_pulled}
use Rattle.pp_expand.proofs.Files.{files_stay}
use Rattle.pp_expand.proofs.Handing.{Behind, put_nothing, given_first, behind_ok, behind_err, all_kept}

unhidden_in : (count : ℕ) (xs : List Token) → AreIn count (map (λ x. record { token = x; hides = 0 }) xs)
unhidden_in count [] = tt
unhidden_in count (x ∷ xs) = (omega arith, unhidden_in count xs)

pub begins_in : (count : ℕ) (xs : List Token) (hidden : List HiddenToken) → IsUnhidden xs hidden → AreIn count hidden
begins_in count xs hidden e = subst (λ l. AreIn count l) (sym e) (unhidden_in count xs)

pub unhidden_all : (texts : Texts) (sets : Sets) (xs : List Token) → hidden_all texts sets (map (λ x. record { token = x; hides = 0 }) xs) ≡ unhidden xs
unhidden_all texts sets [] = refl
unhidden_all texts sets (x ∷ xs) =
    ap (λ l. let h : Hidden = record { token = x; hides = [] } in h ∷ l) (unhidden_all texts sets xs)

taken_at : (k : ℕ) (xs : List Token) (i : ℕ) (x : Token) → slice_get (take k xs) i ≡ Some x → slice_get xs i ≡ Some x
taken_at zero xs i x e = let z : ⊥ = cc in absurd z
taken_at (suc k) [] i x e = e
taken_at (suc k) (y ∷ ys) zero x e = e
taken_at (suc k) (y ∷ ys) (suc i) x e = taken_at k ys i x e

-- the definition's expansion is that of the list without hide sets
pub expanded_is : (known : Known) (list : List Token) (ending : Ending) (left : ℕ) → expanded known list ending left ≡ shown_answer (expanding known (unhidden list) ending left)
unfolding expanded
expanded_is known list ending left = refl

-- the part of a list delivered so far, and the part left
module _ (known : Known) (most : ℕ) (before : List Token) (start : List Hidden) (ending : Ending) (budget : ℕ) (given : List Token) (now : List Hidden) (left : ℕ) (same : shown_behind most given (expanding known now ending left) ≡ shown_behind most before (expanding known start ending budget)) where
  by_pull : (p : Pull) → pulled known now ending left ≡ p → shown_behind most given (p >>= λ a. then_expanded known ending a.0 a.1 a.2) ≡ shown_behind most before (expanding known start ending budget)
  by_pull p e =
      sym (ap (shown_behind most given) (expanding_pulled known now ending left ∙ ap (λ (q : Pull). q >>= λ a. then_expanded known ending a.0 a.1 a.2) e)) ∙ same

  pub goes_on : (x : Token) (rest : List Hidden) (after : ℕ) (all : List Token) → IsPulled (Ok (Some x)) rest left after (pulled known now ending left) → all ≡ put_behind most given (x ∷ []) → shown_behind most all (expanding known rest ending after) ≡ shown_behind most before (expanding known start ending budget)
  goes_on x rest after all p e =
      let y : Hidden = record { token = x; hides = p.0 } in
      ap (λ g. shown_behind most g (expanding known rest ending after)) e ∙ sym (given_first most given y (expanding known rest ending after)) ∙ by_pull (Ok (Some y, rest, after)) p.1

  pub ends : (rest : List Hidden) (after : ℕ) → IsPulled (Ok None) rest left after (pulled known now ending left) → Behind most before given after (shown_answer (expanding known start ending budget))
  ends rest after p =
      behind_ok most before given after (shown_answer (expanding known start ending budget)) (sym (by_pull (Ok (None, [], after)) p.1) ∙ ap (λ (l : List Token). Ok (l, after)) (put_nothing most given))

  pub fails : (f : Refusal) (rest : List Hidden) (after : ℕ) → IsPulled (Err f) rest left after (pulled known now ending left) → Refuses f (shown_answer (expanding known start ending budget))
  fails Memory rest after p = tt
  fails (At c pos) rest after p =
      behind_err most before (At c pos) (shown_answer (expanding known start ending budget)) (sym (by_pull (Err (record { code = c; at = pos })) p.0))
  fails (Told c pos text) rest after p = p

-- the pulled token, by other names of the delivered tokens and of where the list ends
pub pulled_as : (known : Known) (list behind : List Hidden) (left after : ℕ) (r s : Result (Option Token) Refusal) (e f : RunEnd) → r ≡ s → e ≡ f → IsPulled r behind left after (pulled known list (ending_of e) left) → IsPulled s behind left after (pulled known list (ending_of f) left)
pulled_as known list behind left after r s e f same same_end p =
    subst (λ (s : Result (Option Token) Refusal). IsPulled s behind left after (pulled known list (ending_of f) left)) same (subst (λ (f : RunEnd). IsPulled r behind left after (pulled known list (ending_of f) left)) same_end p)

-- a fault of the expansion of a list
pub fails_as : (known : Known) (list : List Token) (ending : Ending) (left now : ℕ) (f : Refusal) → now ≡ left → Refuses f (shown_answer (expanding known (unhidden list) ending left)) → IsExpansion (Err f) left now (expanded known list ending left)
fails_as known list ending left now Memory e h = e
fails_as known list ending left now (At c pos) e h = (expanded_is known list ending left ∙ h, e)
fails_as known list ending left now (Told c pos text) e h = h

-- the files of the delivered tokens
pub gives_files : (macros : Macros) (names : Texts) (list : List Token) (ending : Ending) (left most : ℕ) (given all : List Token) (after : ℕ) → HaveFiles names list → Behind most given all after (shown_answer (expanding (record { macros = macros; texts = names }) (unhidden list) ending left)) → HaveFiles names (drop (length given) all)
gives_files macros names list ending left most given all after have b =
    subst (HaveFiles names) (sym (ap (λ l. drop (length given) l) b.all_is ∙ drop-append_seam given (take (most - length given) b.list)))
    (λ i x at. files_stay macros names list ending left b.list after have (expanded_is (record { macros = macros; texts = names }) list ending left ∙ b.list_is) i x (taken_at (most - length given) b.list i x at))

-- an expansion with nothing before it, which has fewer tokens than the maximum
pub alone : (most : ℕ) (before all list : List Token) (new : ℕ) (r : Result (List Token × ℕ) Fault) → before ≡ [] → r ≡ Ok (list, new) → all ≡ put_behind most before list → length all < most
    → r ≡ Ok (all, new)
alone most before all list new r none e all_is few =
    let whole = all_kept most before list (subst (λ (l : List Token). length l < most) all_is few) in
    e ∙ ap (λ (l : List Token). Ok (l, new)) (sym (all_is ∙ whole ∙ ap (λ (b : List Token). b ++ list) none))
