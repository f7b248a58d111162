-- The rest of a run after each call that expands more of it.
use Rattle.std.proofs.Common.{◌≡◌, inl, inr, ℕ, List, [], ◌∷◌, ◌++◌, Some, None, Result, Ok, Err, refl, sym, ap, ◌∙◌, append_assoc}
use Rattle.srcset.specs.declared.code.Code.TheVariants as code
use Rattle.srcset.specs.declared.refusal.Pos.{Pos}
use Rattle.srcset.specs.declared.refusal.Refusal.{Refusal}
use Rattle.srcset.specs.declared.refusal.Refusal.TheVariants.{Memory, At, Told}
use Rattle.srcset.specs.NameTable.{Texts}
use Rattle.phases.specs.Token.{Token}
use Rattle.macros_substitution.specs.Substitution.{◌>>=◌, Hidden}
use Rattle.pp_expand.specs.Expansion.{Ending, Known, Answer, Fault, of_run, shown_answer, behind}
use Rattle.pp_expand.specs.Expands.{ending_of}
use Rattle.pp_expand.specs.Pulled.{Pull, pulled, expanding, then_expanded}
use Rattle.pp_expand.specs.Streams.{Stream, list_left, Knows}
use Rattle.pp_expand.specs.Meaning.{Refuses}
use Rattle.pp_expand.specs.declared.run_end.RunEnd.{RunEnd}
use Rattle.pp_expand.proofs.Pulls.{expanding_pulled}
use Rattle.pp.specs.Left.{with_front, run_left, IsGoing}
use Rattle.pp.specs.inside.Calls.{Calls, IsRefusedAt}

-- ---- the rest of a run

pub with_none : (r : Result (List Token × ℕ) Fault) → with_front [] r ≡ r
with_none (Ok a) = refl
with_none (Err f) = refl

pub with_more : (before more : List Token) (r : Result (List Token × ℕ) Fault) → with_front before (with_front more r) ≡ with_front (before ++ more) r
with_more before more (Ok a) = ap (λ (l : List Token). Ok (l, a.1)) (sym (append_assoc before more a.0))
with_more before more (Err f) = refl

pub shown_one : (y : Hidden) (a : Answer) → shown_answer (behind y a) ≡ with_front (y.token ∷ []) (shown_answer a)
shown_one y (Ok a) = refl
shown_one y (Err f) = refl

pub by_pull : (known : Known) (ending : Ending) (xs : List Hidden) (left : ℕ) (p : Pull) → pulled known xs ending left ≡ p
    → shown_answer (expanding known xs ending left) ≡ shown_answer (p >>= λ a. then_expanded known ending a.0 a.1 a.2)
by_pull known ending xs left p e =
    ap shown_answer (expanding_pulled known xs ending left ∙ ap (λ (q : Pull). q >>= λ a. then_expanded known ending a.0 a.1 a.2) e)

pub one_pulled : (known : Known) (names : Texts) (run new : Stream) (left after : ℕ) (x : Token) → IsGoing names run → Calls known run new left after (Ok (Some x))
    → run_left known run left ≡ with_front (x ∷ []) (run_left known new after)
one_pulled known names run new left after x g p =
    let y : Hidden = record { token = x; hides = p.0 } in
    let e = ap (λ (n : RunEnd). pulled known (list_left known.texts run) (ending_of n) left) (sym g.end_is) ∙ p.1 in
    by_pull known of_run (list_left known.texts run) left (Ok (Some y, list_left known.texts new, after)) e ∙ shown_one y (expanding known (list_left known.texts new) of_run after)

pub none_pulled : (known : Known) (names : Texts) (run new : Stream) (left after : ℕ) → IsGoing names run → Calls known run new left after (Ok None) → run_left known run left ≡ Ok ([], after)
none_pulled known names run new left after g p =
    let e = ap (λ (n : RunEnd). pulled known (list_left known.texts run) (ending_of n) left) (sym g.end_is) ∙ p.1 in
    by_pull known of_run (list_left known.texts run) left (Ok (None, [], after)) e

pub err_pulled : (known : Known) (names : Texts) (run new : Stream) (left after : ℕ) (f : Refusal) → IsGoing names run → Calls known run new left after (Err f) → Refuses f (run_left known run left)
err_pulled known names run new left after Memory g p = tt
err_pulled known names run new left after (At c pos) g p =
    let e = ap (λ (n : RunEnd). pulled known (list_left known.texts run) (ending_of n) left) (sym g.end_is) ∙ p.0 in
    by_pull known of_run (list_left known.texts run) left (Err (record { code = c; at = pos })) e
err_pulled known names run new left after (Told c pos text) g p = p

-- ---- a run that is refused after the first token in excess

-- from the first number of replacements left, this many were used
pub record Reaches (known : Known) (names : Texts) (first run : Stream) (left now : ℕ) : Type 0 where
  pub front : List Token
  pub going : IsGoing names run
  pub left_is : run_left known first left ≡ with_front front (run_left known run now)

pub reaches_first : (known : Known) (names : Texts) (run : Stream) (left : ℕ) → IsGoing names run → Reaches known names run run left left
reaches_first known names run left g = record { front = []; going = g; left_is = sym (with_none (run_left known run left)) }

pub reaches_next : (known : Known) (names : Texts) (first run new : Stream) (left now after : ℕ) (x : Token) → Reaches known names first run left now → Calls known run new now after (Ok (Some x))
    → Knows names new → new.end ≡ run.end → new.refused ≡ None → Reaches known names first new left after
reaches_next known names first run new left now after x r p k e n = record {
  front = r.front ++ x ∷ [];
  going = record { knows = k; end_is = e ∙ r.going.end_is; not_refused = n };
  left_is = r.left_is ∙ ap (with_front r.front) (one_pulled known names run new now after x r.going p) ∙ with_more r.front (x ∷ []) (run_left known new after);
}

pub reaches_end : (known : Known) (names : Texts) (first run new : Stream) (left now after : ℕ) (at : Pos) → Reaches known names first run left now → Calls known run new now after (Ok None)
    → IsRefusedAt (At code.TokenLimit at) at (run_left known first left)
reaches_end known names first run new left now after at r p =
    inr ((r.front ++ [], after), r.left_is ∙ ap (with_front r.front) (none_pulled known names run new now after r.going p), refl, refl)

pub reaches_refusal : (known : Known) (names : Texts) (first run new : Stream) (left now after : ℕ) (at : Pos) (f : Refusal) → Reaches known names first run left now
    → Calls known run new now after (Err f)
    → IsRefusedAt f at (run_left known first left)
reaches_refusal known names first run new left now after at Memory r p = tt
reaches_refusal known names first run new left now after at (At c pos) r p =
    inl (r.left_is ∙ ap (with_front r.front) (err_pulled known names run new now after (At c pos) r.going p))
reaches_refusal known names first run new left now after at (Told c pos text) r p = absurd p
