-- The way to the first token of an expansion.
use Rattle.std.proofs.Common.{◌≡◌, ℕ, zero, suc, ◌<◌, List, ◌∷◌, Some, Result, Ok, Err, refl, sym, ap, ◌∙◌, subst, arith, inl, ⊎_elim}
use Rattle.srcset.specs.declared.refusal.Pos.{Pos}
use Rattle.srcset.specs.declared.refusal.Refusal.{Refusal}
use Rattle.srcset.specs.declared.refusal.Refusal.TheVariants.{Memory, At, Told}
use Rattle.macros_substitution.specs.Substitution.{◌>>=◌, Hidden}
use Rattle.macros_substitution.specs.HideSets.{Sets}
use Rattle.macros_substitution.specs.Meaning.{hidden_of, hidden_all}
use Rattle.macros_substitution.specs.declared.piece.HiddenToken.{HiddenToken}
use Rattle.pp_expand.specs.declared.run_end.RunEnd.{RunEnd}
use Rattle.pp_expand.specs.declared.task.Step.{Step}
use Rattle.pp_expand.specs.declared.task.Step.TheVariants.{Predefined, Replaced}
use Rattle.pp_expand.specs.declared.task.Turned.{Turned}
use Rattle.pp_expand.specs.declared.task.Turned.TheVariants.{Stays, Takes}
use Rattle.pp_expand.specs.Expansion.{Known, Answer, Fault, Turn, stands, refused, predefined, replaced, turn, predefined_front}
use Rattle.pp_expand.specs.Expands.{ending_of}
use Rattle.pp_expand.specs.Pulled.{expanding, made_by, Pull, one_less, pulled_at, pulled}
use Rattle.pp_expand.specs.Meaning.{Refuses}
use Rattle.pp_expand.specs.inside.Turns.{TurnIs, OnceFor}
use Rattle.pp_expand.specs.inside.Pulls.{StepsAs, PullsAs, FallsTo}
use Rattle.pp_expand.specs.inside.Waits.{MakesAs}
use Rattle.pp_expand.proofs.Pulls.{pulled_turn}

one_then : {X Y : Type 0} (at : Pos) (left : ℕ) (f : ℕ → Result X Fault) (g : X → Result Y Fault) → one_less at left (λ n. f n >>= g) ≡ (one_less at left f >>= g)
one_then at zero f g = refl
one_then at (suc left) f g = refl

one_fewer : {A : Type 0} (at : Pos) (left n : ℕ) (f : ℕ → Result A Fault) → left ≡ suc n → one_less at left f ≡ f n
one_fewer at left n f e = ap (λ n. one_less at n f) e

-- the step of a predefined macro
abbrev predefined_made : Known → Sets → HiddenToken → List HiddenToken → ℕ → Answer
predefined_made known later x list n = Ok (predefined_front known (hidden_of known.texts later x) ∷ hidden_all known.texts later list, n)

pub step_predefined : (known : Known) (later : Sets) (x y : HiddenToken) (list new : List HiddenToken) (left after : ℕ) → left ≡ suc after → hidden_of known.texts later y ≡ predefined_front known (hidden_of known.texts later x) → new ≡ y ∷ list → one_less x.token.pos left (predefined_made known later x list) ≡ Ok (hidden_all known.texts later new, after)
step_predefined known later x y list new left after e front is =
    one_fewer x.token.pos left after (predefined_made known later x list) e ∙ ap (λ (z : Hidden). let r : Answer = Ok (z ∷ hidden_all known.texts later list, after) in r) (sym front) ∙ ap (λ (l : List HiddenToken). let r : Answer = Ok (hidden_all known.texts later l, after) in r) (sym is)

-- ---- a turn

refused_then : {A B : Type 0} (f : Refusal) (a : Result A Fault) (g : A → Result B Fault) → Refuses f a → Refuses f (a >>= g)
refused_then Memory a g h = tt
refused_then (At c pos) a g h = ap (λ r. r >>= g) h
refused_then (Told c pos text) a g h = h

module _ (known : Known) (later : Sets) (end : RunEnd) (x : HiddenToken) (xs list : List HiddenToken) (first : list ≡ x ∷ xs) (left : ℕ) where
  abbrev all : List HiddenToken → List Hidden
  all ys = hidden_all known.texts later ys

  abbrev here : Hidden
  here = hidden_of known.texts later x

  abbrev again : List Hidden → ℕ → Pull
  again ys m = pulled known ys (ending_of end) m

  abbrev now : Turn
  now = turn known here (all xs) (ending_of end)

  abbrev whole : Pull
  whole = pulled known (all list) (ending_of end) left

  by_turn : (t : Turn) → now ≡ t → whole ≡ pulled_at known again t here (all xs) left
  by_turn t e =
      ap (λ l. pulled known (all l) (ending_of end) left) first ∙ pulled_turn known here (all xs) (ending_of end) left ∙ ap (λ t. pulled_at known again t here (all xs) left) e

  pub stays : (u : Turned) (y : HiddenToken) (rest : List HiddenToken) → u ≡ Stays y → TurnIs known.texts later x xs now (Ok u) rest → PullsAs known.texts later (Ok (Some y)) rest left whole
  stays u y rest e t =
      let h : (y ≡ x) × (rest ≡ xs) × (now ≡ stands) = subst (λ u. TurnIs known.texts later x xs now (Ok u) rest) e t in
      by_turn stands h.2 ∙ ap (λ l. Ok (Some here, all l, left)) (sym h.1) ∙ ap (λ z. Ok (Some (hidden_of known.texts later z), all rest, left)) (sym h.0)

  pub refuses : (f : Refusal) (rest : List HiddenToken) → TurnIs known.texts later x xs now (Err f) rest → Refuses f whole
  refuses Memory rest h = tt
  refuses (At c pos) rest h = by_turn (refused c) h.1 ∙ ap (λ (p : Pos). let r : Pull = Err (record { code = c; at = p }) in r) (sym h.0)
  refuses (Told c pos text) rest h = h

  module _ {A : Type 0} (result : Result A Refusal) (mid new : List HiddenToken) (after : ℕ) where
    -- the step's result, whose list is pulled again
    step_made : (s : Step) → TurnIs known.texts later x xs now (Ok (Takes s)) mid → OnceFor known.texts (Takes s) → StepsAs known later s mid left result new after → (a : Answer) × ((whole ≡ (a >>= λ b. again b.0 b.1)) × MakesAs known.texts later result new after a)
    step_made (Predefined y) h once p =
        (one_less y.token.pos left (predefined_made known later y mid), (by_turn predefined h.2 ∙ one_then x.token.pos left (predefined_made known later x xs) (λ b. again b.0 b.1) ∙ ap (λ (z : HiddenToken). one_less z.token.pos left (predefined_made known later z xs) >>= λ b. again b.0 b.1) (sym h.0) ∙ ap (λ (l : List HiddenToken). one_less y.token.pos left (predefined_made known later y l) >>= λ b. again b.0 b.1) (sym h.1), p))
    step_made (Replaced k) h once p =
        (one_less h.0.call.at left (made_by (expanding known) h.0), (by_turn (replaced h.0) h.1.1 ∙ one_then h.0.call.at left (made_by (expanding known) h.0) (λ b. again b.0 b.1), p h.0 h.1.0 once))

  module _ (u : Turned) (s : Step) (is : u ≡ Takes s) (mid : List HiddenToken) (t : TurnIs known.texts later x xs now (Ok u) mid) (once : OnceFor known.texts u) (new : List HiddenToken) (after : ℕ) where
    turn_is : TurnIs known.texts later x xs now (Ok (Takes s)) mid
    turn_is = subst (λ u. TurnIs known.texts later x xs now (Ok u) mid) is t

    once_is : OnceFor known.texts (Takes s)
    once_is = subst (OnceFor known.texts) is once

    pub stepped : {A : Type 0} (a : A) → StepsAs known later s mid left (Ok a) new after → whole ≡ again (all new) after
    stepped a p =
        let m = step_made (Ok a) mid new after s turn_is once_is p in
        m.1.0 ∙ ap (λ (r : Answer). r >>= λ b. again b.0 b.1) m.1.1

    pub step_fails : (f : Refusal) → StepsAs {A = Unit {0}} known later s mid left (Err f) new after → Refuses f whole
    step_fails f p =
        let r : Result (Unit {0}) Refusal = Err f in
        let m = step_made r mid new after s turn_is once_is p in
        subst (Refuses f) (sym m.1.0) (refused_then f m.0 (λ b. again b.0 b.1) m.1.1)

-- fewer replacements are left than there were
pub falls_more : (left long after short less n : ℕ) → FallsTo left long after short → less < after → FallsTo left long less n
falls_more left long after short less n f h =
    ⊎_elim (λ (g : after < left). left_of (omega (arith, g, h))) (λ (g : (after ≡ left) × (short < long)). left_of (omega (arith, g.0, h))) f
  where
    left_of : less < left → FallsTo left long less n
    left_of g = inl g
