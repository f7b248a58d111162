-- A condition that is read token by token, as it is expanded.
use Rattle.std.proofs.Common.{◌≡◌, ℕ, List, [], ◌∷◌, ◌++◌, Some, None, Ok, Err, refl, sym, ap, ◌∙◌, append-nil}
use Rattle.srcset.specs.declared.refusal.Refusal.{Refusal}
use Rattle.srcset.specs.declared.refusal.Refusal.TheVariants.{Memory, At, Told}
use Rattle.srcset.specs.NameTable.{Texts}
use Rattle.phases.specs.Token.{Token}
use Rattle.macros_substitution.specs.Substitution.{Hidden}
use Rattle.pp_cond.specs.declared.condition.ConditionReader.{ConditionReader}
use Rattle.pp_cond.specs.layer.HasRead.{HasRead}
use Rattle.pp_expand.specs.Expansion.{Known, of_directive, unhidden, shown_answer, expanded}
use Rattle.pp_expand.specs.Expands.{IsExpansion, ending_of}
use Rattle.pp_expand.specs.Pulled.{pulled, expanding}
use Rattle.pp_expand.specs.Streams.{Stream, list_left, Knows}
use Rattle.pp_expand.specs.declared.run_end.RunEnd.{RunEnd}
use Rattle.pp_expand.specs.declared.run_end.RunEnd.TheVariants.{Directive}
use Rattle.pp_expand.proofs.Whole.{expanded_is}
use Rattle.pp.specs.Left.{with_front}
use Rattle.pp.specs.inside.Calls.{Calls}
use Rattle.pp.proofs.RunLemmas.{with_none, with_more, shown_one, by_pull}

-- The expansion of a list is the tokens that are read, followed by the expansion of the rest. With the numbers of replacements left at first and now.
pub record IsRead (known : Known) (names : Texts) (list : List Token) (budget : ℕ) (reader : ConditionReader) (rest : Stream) (left : ℕ) : Type 0 where
  pub front : List Token
  pub has_read : HasRead reader front
  pub knows : Knows names rest
  pub end_is : rest.end ≡ Directive
  pub not_refused : rest.refused ≡ None
  pub expansion_is : expanded known list of_directive budget ≡ with_front front (shown_answer (expanding known (list_left known.texts rest) of_directive left))

pub read_none : (known : Known) (names : Texts) (list : List Token) (budget : ℕ) (reader : ConditionReader) (rest : Stream)
    → HasRead reader [] → Knows names rest → rest.end ≡ Directive → rest.refused ≡ None → list_left known.texts rest ≡ unhidden list → IsRead known names list budget reader rest budget
read_none known names list budget reader rest h k e n l = record {
  front = [];
  has_read = h;
  knows = k;
  end_is = e;
  not_refused = n;
  expansion_is = expanded_is known list of_directive budget ∙ sym (with_none (shown_answer (expanding known (unhidden list) of_directive budget)))
      ∙ ap (λ (l : List Hidden). with_front [] (shown_answer (expanding known l of_directive budget))) (sym l);
}

pub read_one : (known : Known) (names : Texts) (list : List Token) (budget : ℕ) (old new : ConditionReader) (rest after : Stream) (left now : ℕ) (x : Token)
    → IsRead known names list budget old rest left → Calls known rest after left now (Ok (Some x)) → ((xs : List Token) → HasRead old xs → HasRead new (xs ++ x ∷ []))
    → Knows names after → after.end ≡ rest.end → after.refused ≡ None → IsRead known names list budget new after now
read_one known names list budget old new rest after left now x r p take k e n =
    let y : Hidden = record { token = x; hides = p.0 } in
    let pull = ap (λ (n : RunEnd). pulled known (list_left known.texts rest) (ending_of n) left) (sym r.end_is) ∙ p.1 in
    let one = by_pull known of_directive (list_left known.texts rest) left (Ok (Some y, list_left known.texts after, now)) pull ∙ shown_one y (expanding known (list_left known.texts after) of_directive now) in
    record {
      front = r.front ++ x ∷ [];
      has_read = take r.front r.has_read;
      knows = k;
      end_is = e ∙ r.end_is;
      not_refused = n;
      expansion_is = r.expansion_is ∙ ap (with_front r.front) one ∙ with_more r.front (x ∷ []) (shown_answer (expanding known (list_left known.texts after) of_directive now));
    }

pub read_all : (known : Known) (names : Texts) (list : List Token) (budget : ℕ) (reader : ConditionReader) (rest after : Stream) (left now : ℕ)
    → (r : IsRead known names list budget reader rest left) → Calls known rest after left now (Ok None) → expanded known list of_directive budget ≡ Ok (r.front, now)
read_all known names list budget reader rest after left now r p =
    let pull = ap (λ (n : RunEnd). pulled known (list_left known.texts rest) (ending_of n) left) (sym r.end_is) ∙ p.1 in
    r.expansion_is ∙ ap (with_front r.front) (by_pull known of_directive (list_left known.texts rest) left (Ok (None, [], now)) pull) ∙ ap (λ (l : List Token). Ok (l, now)) (append-nil r.front)

pub read_fault : (known : Known) (names : Texts) (list : List Token) (budget : ℕ) (reader : ConditionReader) (rest after : Stream) (left now : ℕ) (f : Refusal)
    → IsRead known names list budget reader rest left → Calls known rest after left now (Err f) → IsExpansion (Err f) budget budget (expanded known list of_directive budget)
read_fault known names list budget reader rest after left now Memory r p = refl
read_fault known names list budget reader rest after left now (At c pos) r p =
    let pull = ap (λ (n : RunEnd). pulled known (list_left known.texts rest) (ending_of n) left) (sym r.end_is) ∙ p.0 in
    (r.expansion_is ∙ ap (with_front r.front) (by_pull known of_directive (list_left known.texts rest) left (Err (record { code = c; at = pos })) pull), refl)
read_fault known names list budget reader rest after left now (Told c pos text) r p = p
