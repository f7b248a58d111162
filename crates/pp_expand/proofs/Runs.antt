-- The steps of a replacement whose arguments are being expanded.
use Rattle.std.specs.Prelude.{Vec, IfOk}
use Rattle.std.proofs.Common.{◌≡◌, ℕ, suc, ◌+◌, ◌*◌, ◌<◌, List, [], ◌∷◌, ◌++◌, length, Bool, true, ◌==◌, Result, Ok, Err, Some, None, refl, sym, ap, ◌∙◌, subst, arith}
use Rattle.std.proofs.lemmas.Bool.{eqb-true}
use Rattle.std.specs.declared.alloc.Global.{Global}
use Rattle.srcset.specs.declared.code.Code.TheVariants as code
use Rattle.srcset.specs.declared.refusal.Pos.{Pos}
use Rattle.srcset.specs.declared.refusal.Refusal.{Refusal}
use Rattle.srcset.specs.declared.refusal.Refusal.TheVariants.{Memory, At, Told}
use Rattle.macros_substitution.specs.Substitution.{◌>>=◌, Hidden}
use Rattle.macros_substitution.specs.HideSets.{Sets}
use Rattle.macros_substitution.specs.declared.piece.HiddenToken.{HiddenToken}
use Rattle.macros_substitution.specs.Meaning.{hidden_of, hidden_all}
use Rattle.pp_expand.specs.declared.level.Level.{Level}
use Rattle.pp_expand.specs.declared.task.Task.{Task}
use Rattle.pp_expand.specs.declared.task.Step.{Step}
use Rattle.pp_expand.specs.declared.task.Step.TheVariants.{Predefined, Replaced}
use Rattle.pp_expand.specs.declared.waiting.Waiting.{Waiting}
use Rattle.pp_expand.specs.Expansion.{Known, Answer, Fault, Replacement, predefined_front, predefined_one, replace_one, replace}
use Rattle.pp_expand.specs.Expands.{ending_of}
use Rattle.pp_expand.specs.Pulled.{expanding, made_by}
use Rattle.pp_expand.specs.Meaning.{with_list, level_meaning, Refuses}
use Rattle.pp_expand.specs.inside.Turns.{IsTask, AdvanceIs, place_of}
use Rattle.pp_expand.specs.inside.Waits.{Onward, to_end, the_rest, resume, resume_one, onward_in, level_onward, level_behind, made_in, BeginIs, JoinIs, GoesOnAs}
use Rattle.pp_expand.proofs.Steps.{resume_push, resume_err}
use Rattle.pp_expand.proofs.Pulls.{bind_bind, made_then}

-- one step of the innermost list, in which an argument goes to its end
module _ (known : Known) (later : Sets) (old : List Waiting) (some : 0 < length old) (level : Level) (left : ℕ) (m : Level) where
  abbrev all : List HiddenToken → List Hidden
  all xs = hidden_all known.texts later xs

  inside : (onward : Onward) (ws : List Waiting) → 0 < length ws → onward_in known onward ws ≡ to_end known
  inside onward [] h = absurd (omega (arith, h))
  inside onward (w ∷ ws) h = refl

  to_its_end : (onward : Onward) (l : Level) (n : ℕ) → level_behind known onward later old l n ≡ resume known onward later old (level_meaning known later l n)
  to_its_end onward l n =
      ap (λ (o : Onward). resume known onward later old (level_onward known.texts o later l n)) (inside onward old some)

  refused_as : (onward : Onward) (f : Fault) → level_meaning known later level left ≡ Err f → level_behind known onward later old level left ≡ Err f
  refused_as onward f e =
      to_its_end onward level left ∙ ap (resume known onward later old) e ∙ resume_err known onward later old f

  pub advance_fails : (new : List Waiting) (after : ℕ) (f : Refusal) → AdvanceIs known later level (Err f) m → GoesOnAs known later old level left (Err f) new after
  advance_fails new after Memory h = tt
  advance_fails new after (At c pos) h = λ onward. refused_as onward (record { code = c; at = pos }) (h left)
  advance_fails new after (Told c pos text) h = h

  pub budget_used : (new : List Waiting) (after : ℕ) (s : Step) → AdvanceIs known later level (Ok (Some s)) m → left ≡ 0 → (f : Refusal) → f ≡ At code.ReplacementLimit (place_of s) → GoesOnAs known later old level left (Err f) new after
  budget_used new after s h e f is =
      rw is (by_step s h)
    where
      by_step : (s : Step) → AdvanceIs known later level (Ok (Some s)) m → (onward : Onward) → level_behind known onward later old level left ≡ Err (record { code = code.ReplacementLimit; at = place_of s })
      by_step (Predefined x) h onward =
          refused_as onward (record { code = code.ReplacementLimit; at = x.token.pos }) (h.1 left ∙ ap (λ n. with_list (all m.out.items) (predefined_one known (expanding known) (hidden_of known.texts later x) (all m.rest.items) (ending_of level.end) n)) e)
      by_step (Replaced k) h onward =
          refused_as onward (record { code = code.ReplacementLimit; at = k.at }) (h.1.1.1 left ∙ ap (λ n. with_list (all m.out.items) (replace_one (expanding known) h.1.0 (ending_of level.end) n)) e ∙ ap (λ (p : Pos). let a : Answer = Err (record { code = code.ReplacementLimit; at = p }) in a) h.1.1.0.at_is)

  pub predefined_next : (x y : HiddenToken) (n : ℕ) (m2 : Level) → AdvanceIs known later level (Ok (Some (Predefined x))) m → left ≡ suc n → hidden_of known.texts later y ≡ predefined_front known (hidden_of known.texts later x) → m2.rest.items ≡ y ∷ m.rest.items → m2.out ≡ m.out → m2.end ≡ m.end → GoesOnAs known later old level left (Ok m2) old n
  predefined_next x y n m2 h e front rest out end onward =
      let here = hidden_of known.texts later x in
      let now : level_meaning known later level left ≡ with_list (all m.out.items) (expanding known (predefined_front known here ∷ all m.rest.items) (ending_of level.end) n) = h.1 left ∙ ap (λ n. with_list (all m.out.items) (predefined_one known (expanding known) here (all m.rest.items) (ending_of level.end) n)) e in
      let next : level_meaning known later m2 n ≡ with_list (all m.out.items) (expanding known (predefined_front known here ∷ all m.rest.items) (ending_of level.end) n) = ap (λ (o : Vec HiddenToken Global). with_list (all o.items) (expanding known (all m2.rest.items) (ending_of m2.end) n)) out ∙ ap (λ r. with_list (all m.out.items) (expanding known (all r) (ending_of m2.end) n)) rest ∙ ap (λ z. with_list (all m.out.items) (expanding known (hidden_of known.texts later y ∷ all m.rest.items) (ending_of z) n)) (end ∙ h.0) ∙ ap (λ z. with_list (all m.out.items) (expanding known (z ∷ all m.rest.items) (ending_of level.end) n)) front in
      to_its_end onward level left ∙ ap (resume known onward later old) (now ∙ sym next) ∙ sym (to_its_end onward m2 n)

  module _ (k : Task) (h : AdvanceIs known later level (Ok (Some (Replaced k))) m) (n : ℕ) (e : left ≡ suc n) where
    replaced_by : level_meaning known later level left ≡ made_in known (to_end known) later m h.1.0 n
    replaced_by =
        h.1.1.1 left ∙ ap (λ n. with_list (all m.out.items) (replace_one (expanding known) h.1.0 (ending_of level.end) n)) e ∙ ap (λ z. with_list (all m.out.items) (replace (expanding known) h.1.0 (ending_of z) n)) (sym h.0) ∙ ap (with_list (all m.out.items)) (made_then (expanding known) h.1.0 (ending_of m.end) n) ∙ bind_bind (made_by (expanding known) h.1.0 n) (λ a. expanding known a.0 (ending_of m.end) a.1) (λ a. Ok (all m.out.items ++ a.0, a.1))

    begun_at : (new : List Waiting) (r : Result Level Refusal) → BeginIs known later old m h.1.0 r new → GoesOnAs known later old level left r new n
    begun_at new (Ok made) b = λ onward. to_its_end onward level left ∙ ap (resume known onward later old) (replaced_by ∙ ap (λ (o : Onward). made_in known o later m h.1.0 n) (sym (inside onward old some))) ∙ sym (b onward n)
    begun_at new (Err Memory) b = tt
    begun_at new (Err (At c pos)) b = λ onward. refused_as onward (record { code = c; at = pos }) (replaced_by ∙ b (to_end known) n)
    begun_at new (Err (Told c pos text)) b = b

    pub begun : (new : List Waiting) (r : Result Level Refusal) → ((q : Replacement) → IsTask known.texts later k m.rest.items q → BeginIs known later old m q r new) → GoesOnAs known later old level left r new n
    begun new r b = begun_at new r (b h.1.0 h.1.1.0)

  -- at the end of a list
  module _ (h : AdvanceIs known later level (Ok None) m) (less : List Waiting) (w : Waiting) (popped : old ≡ less ++ w ∷ []) where
    resumed : (onward : Onward) → level_behind known onward later old level left ≡ resume known onward later less (resume_one known (onward_in known onward less) later w (Ok (hidden_all known.texts later m.out.items, left)))
    resumed onward =
        to_its_end onward level left ∙ ap (resume known onward later old) (h left) ∙ ap (λ l. resume known onward later l (Ok (hidden_all known.texts later m.out.items, left))) popped ∙ resume_push known onward later less w (Ok (hidden_all known.texts later m.out.items, left))

    pub joined : (new : List Waiting) (r : Result Level Refusal) → JoinIs known later less w m.out.items r new → GoesOnAs known later old level left r new left
    joined new (Ok made) b = λ onward. resumed onward ∙ sym (b onward left)
    joined new (Err Memory) b = tt
    joined new (Err (At c pos)) b = λ onward. resumed onward ∙ ap (resume known onward later less) (b (onward_in known onward less) left) ∙ resume_err known onward later less _
    joined new (Err (Told c pos text)) b = b

-- how much is left where an argument is joined
pub falls_by_join : {A : Type 0} (r : Result A Refusal) (left old new less w : ℕ) → old ≡ less + w → IfOk r (λ _. new < less + w) → IfOk r (λ _. 129 * left + new < 129 * left + old)
falls_by_join (Ok a) left old new less w e h = omega (arith, e, h)
falls_by_join (Err f) left old new less w e h = tt

pub no_item : {X : Type 0} (xs : List X) (n : ℕ) (b : Bool) → n ≡ length xs → b ≡ (n == 0) → b ≡ true → xs ≡ []
no_item [] n b l e f = refl
no_item (x ∷ xs) n b l e f = let h : n ≡ 0 = eqb-true n 0 (sym e ∙ f) in absurd (omega (arith, h, l))

-- ---- a replacement

made_alone : (a : Answer) → (a >>= λ b. Ok (b.0, b.1)) ≡ a
made_alone (Ok b) = refl
made_alone (Err f) = refl

module _ (known : Known) (later : Sets) (r : Replacement) (left : ℕ) where
  whole : (level : Level) → made_in known the_rest later level r left ≡ made_by (expanding known) r left
  whole level = made_alone (made_by (expanding known) r left)

  pub make_begins : (old : List Waiting) → old ≡ [] → (level made : Level) (new : List Waiting) → BeginIs known later old level r (Ok made) new → level_behind known the_rest later new made left ≡ made_by (expanding known) r left
  make_begins old none level made new b = (subst (λ ws. BeginIs known later ws level r (Ok made) new) none b) the_rest left ∙ whole level

  pub make_refused : (old : List Waiting) → old ≡ [] → (level : Level) (new : List Waiting) (f : Refusal) → BeginIs known later old level r (Err f) new → Refuses f (made_by (expanding known) r left)
  make_refused old none level new Memory b = tt
  make_refused old none level new (At c pos) b = sym (whole level) ∙ b the_rest left
  make_refused old none level new (Told c pos text) b = b

  module _ (ws : List Waiting) (level : Level) (now : ℕ) (is : level_behind known the_rest later ws level now ≡ made_by (expanding known) r left) where
    pub make_goes_on : (made : Level) (new : List Waiting) (after : ℕ) → GoesOnAs known later ws level now (Ok made) new after → level_behind known the_rest later new made after ≡ made_by (expanding known) r left
    make_goes_on made new after g = sym (g the_rest) ∙ is

    pub make_fails : (f : Refusal) (new : List Waiting) (after : ℕ) → GoesOnAs known later ws level now (Err f) new after → Refuses f (made_by (expanding known) r left)
    make_fails Memory new after g = tt
    make_fails (At c pos) new after g = sym is ∙ g the_rest
    make_fails (Told c pos text) new after g = g

    pub make_ends : ws ≡ [] → made_by (expanding known) r left ≡ Ok (hidden_all known.texts later level.rest.items, now)
    make_ends none = sym is ∙ ap (λ l. level_behind known the_rest later l level now) none
