-- Advancing to the next replacement of a list.
use Rattle.std.proofs.Common.{◌≡◌, ℕ, List, [], ◌∷◌, ◌++◌, Option, Some, None, Result, Ok, Err, sym, ap, ◌∙◌, subst, append-nil}
use Rattle.std.proofs.lemmas.List.{map-append}
use Rattle.srcset.specs.declared.refusal.Pos.{Pos}
use Rattle.srcset.specs.declared.refusal.Refusal.{Refusal}
use Rattle.srcset.specs.declared.refusal.Refusal.TheVariants.{Memory, At, Told}
use Rattle.macros_substitution.specs.Substitution.{Hidden}
use Rattle.macros_substitution.specs.HideSets.{Sets}
use Rattle.macros_substitution.specs.declared.piece.HiddenToken.{HiddenToken}
use Rattle.macros_substitution.specs.Meaning.{hidden_of, hidden_all}
use Rattle.pp_expand.specs.declared.level.Level.{Level}
use Rattle.pp_expand.specs.declared.task.Step.{Step}
use Rattle.pp_expand.specs.declared.task.Step.TheVariants.{Predefined, Replaced}
use Rattle.pp_expand.specs.declared.task.Turned.{Turned}
use Rattle.pp_expand.specs.declared.task.Turned.TheVariants.{Stays, Takes}
use Rattle.pp_expand.specs.Expansion.{Known, Answer, Turn, stands, refused, predefined, replaced, turn, taken, predefined_one, replace_one}
use Rattle.pp_expand.specs.Expands.{ending_of}
use Rattle.pp_expand.specs.Pulled.{expanding}
use Rattle.pp_expand.specs.Meaning.{with_list, level_meaning}
use Rattle.pp_expand.specs.inside.Turns.{IsTask, TurnIs, AdvanceIs}
use Rattle.pp_expand.proofs.Law.{expanding_first, expanding_none}
use Rattle.pp_expand.proofs.Steps.{with_list_front}

module _ (known : Known) (later : Sets) where
  abbrev all : List HiddenToken → List Hidden
  all xs = hidden_all known.texts later xs

  module _ (l : Level) (x : HiddenToken) (xs : List HiddenToken) (first : l.rest.items ≡ x ∷ xs) where
    abbrev here : Hidden
    here = hidden_of known.texts later x

    abbrev now : Turn
    now = turn known here (all xs) (ending_of l.end)

    by_turn : (t : Turn) → now ≡ t → (left : ℕ) → level_meaning known later l left ≡ with_list (all l.out.items) (taken known (expanding known) t here (all xs) (ending_of l.end) left (λ _. expanding known (all xs) (ending_of l.end) left))
    by_turn t e left =
        ap (λ r. with_list (all l.out.items) (expanding known (all r) (ending_of l.end) left)) first ∙ ap (with_list (all l.out.items)) (expanding_first known here (all xs) (ending_of l.end) left) ∙ ap (λ t. with_list (all l.out.items) (taken known (expanding known) t here (all xs) (ending_of l.end) left (λ _. expanding known (all xs) (ending_of l.end) left))) e

    pub stays_on : (u : Turned) (y : HiddenToken) (after : List HiddenToken) (m : Level) → u ≡ Stays y → TurnIs known.texts later x xs now (Ok u) after → m.rest.items ≡ after → m.out.items ≡ l.out.items ++ y ∷ [] → m.end ≡ l.end → (left : ℕ) → level_meaning known later l left ≡ level_meaning known later m left
    stays_on u y after m e t rest out end left =
        let h : (y ≡ x) × (after ≡ xs) × (now ≡ stands) = subst (λ u. TurnIs known.texts later x xs now (Ok u) after) e t in
        by_turn stands h.2 left ∙ with_list_front (all l.out.items) here (expanding known (all xs) (ending_of l.end) left) ∙ ap (λ o. with_list o (expanding known (all xs) (ending_of l.end) left)) (sym (map-append (λ x. hidden_of known.texts later x) l.out.items (x ∷ []))) ∙ ap (λ o. with_list (all o) (expanding known (all xs) (ending_of l.end) left)) (sym (out ∙ ap (λ y. l.out.items ++ y ∷ []) h.0)) ∙ ap (λ r. with_list (all m.out.items) (expanding known (all r) (ending_of l.end) left)) (sym (rest ∙ h.1)) ∙ ap (λ z. with_list (all m.out.items) (expanding known (all m.rest.items) (ending_of z) left)) (sym end)

    step_is : (s : Step) (after : List HiddenToken) (m : Level) → TurnIs known.texts later x xs now (Ok (Takes s)) after → m.rest.items ≡ after → m.out.items ≡ l.out.items → m.end ≡ l.end → AdvanceIs known later l (Ok (Some s)) m
    step_is (Predefined y) after m h rest out end =
        (end, λ left. by_turn predefined h.2 left ∙ ap (λ o. with_list (all o) (predefined_one known (expanding known) here (all xs) (ending_of l.end) left)) (sym out) ∙ ap (λ z. with_list (all m.out.items) (predefined_one known (expanding known) (hidden_of known.texts later z) (all xs) (ending_of l.end) left)) (sym h.0) ∙ ap (λ r. with_list (all m.out.items) (predefined_one known (expanding known) (hidden_of known.texts later y) (all r) (ending_of l.end) left)) (sym h.1 ∙ sym rest))
    step_is (Replaced k) after m h rest out end =
        (end, (h.0, (subst (λ r. IsTask known.texts later k r h.0) (sym rest) h.1.0, λ left. by_turn (replaced h.0) h.1.1 left ∙ ap (λ o. with_list (all o) (replace_one (expanding known) h.0 (ending_of l.end) left)) (sym out))))

    pub takes_step : (u : Turned) (s : Step) (after : List HiddenToken) (m : Level) → u ≡ Takes s → TurnIs known.texts later x xs now (Ok u) after → m.rest.items ≡ after → m.out.items ≡ l.out.items → m.end ≡ l.end → AdvanceIs known later l (Ok (Some s)) m
    takes_step u s after m e t =
        step_is s after m (subst (λ u. TurnIs known.texts later x xs now (Ok u) after) e t)

    pub fails_step : (f : Refusal) (after : List HiddenToken) (m : Level) → TurnIs known.texts later x xs now (Err f) after → AdvanceIs known later l (Err f) m
    fails_step Memory after m h = tt
    fails_step (At c pos) after m h = λ left. by_turn (refused c) h.1 left ∙ ap (λ (p : Pos). let r : Answer = Err (record { code = c; at = p }) in r) (sym h.0)
    fails_step (Told c pos text) after m h = h

  pub ends_list : (l m : Level) → l.rest.items ≡ [] → m.out.items ≡ l.out.items → (left : ℕ) → level_meaning known later l left ≡ Ok (hidden_all known.texts later m.out.items, left)
  ends_list l m e out left =
      ap (λ r. with_list (all l.out.items) (expanding known (all r) (ending_of l.end) left)) e ∙ ap (with_list (all l.out.items)) (expanding_none known (ending_of l.end) left) ∙ ap (λ o. Ok (o, left)) (append-nil (all l.out.items)) ∙ ap (λ o. Ok (all o, left)) (sym out)

  pub from_start : (start l : Level) (r : Result (Option Step) Refusal) (m : Level) → l.end ≡ start.end → ((left : ℕ) → level_meaning known later start left ≡ level_meaning known later l left) → AdvanceIs known later l r m → AdvanceIs known later start r m
  from_start start l (Ok None) m e h a = λ left. h left ∙ a left
  from_start start l (Ok (Some (Predefined x))) m e h a =
      (a.0 ∙ e, λ left. h left ∙ a.1 left ∙ ap (λ z. with_list (all m.out.items) (predefined_one known (expanding known) (hidden_of known.texts later x) (all m.rest.items) (ending_of z) left)) e)
  from_start start l (Ok (Some (Replaced k))) m e h a =
      (a.0 ∙ e, (a.1.0, (a.1.1.0, λ left. h left ∙ a.1.1.1 left ∙ ap (λ z. with_list (all m.out.items) (replace_one (expanding known) a.1.0 (ending_of z) left)) e)))
  from_start start l (Err Memory) m e h a = tt
  from_start start l (Err (At c pos)) m e h a = λ left. h left ∙ a left
  from_start start l (Err (Told c pos text)) m e h a = a
