-- The outcomes of the lines of a file.
use Rattle.std.proofs.Common.{◌≡◌, ◌<◌, ◌≤◌, ℕ, zero, suc, List, [], ◌∷◌, ◌++◌, length, drop, Bool, true, false, Option, Some, None, Result, Ok, Err, OnOk, IfErr, refl, sym, ap, subst, ◌∙◌, arith}
use Rattle.std.specs.Prelude.{slice_get, not, ◌&&◌}
use Rattle.std.specs.List.{list_all}
use Rattle.std.proofs.lemmas.Option.{none-some}
use Rattle.srcset.specs.declared.refusal.Refusal.{Refusal}
use Rattle.srcset.specs.declared.refusal.Refusal.TheVariants.{Memory, At, Told}
use Rattle.srcset.specs.declared.code.Code.TheVariants as code
use Rattle.srcset.specs.NameTable.{Texts, KeepsNumbers}
use Rattle.phases.specs.Token.{Token}
use Rattle.pp_expand.specs.Expands.{HaveFiles}
use Rattle.pp.specs.declared.conditionals.Open.{Open}
use Rattle.pp.specs.declared.run.Run.{Run}
use Rattle.pp.specs.declared.state.State.{State as Held}
use Rattle.pp.specs.declared.words.Role.{Role as Word}
use Rattle.pp.specs.declared.words.Role.TheVariants as word
use Rattle.pp.specs.Lines.{Line, lines_with, first_end}
use Rattle.pp.specs.Groups.{ends, Role, of_text, is_text, role_of, Parsed, to_end, in_first, with_text, with_line, parsed, groups}
use Rattle.pp.specs.Phase4.{State, Presumed, Outcome, stops, ◌>>=◌, Around, presume, group_done}
use Rattle.pp.specs.Rest.{pending, nowhere, is_active, rest_done}
use Rattle.pp.specs.inside.Pending.{run_ended}
use Rattle.pp.specs.Held.{presumed_of, IsGiven, Agrees}
use Rattle.pp.specs.declared.files.Reading.{Reading}
use Rattle.pp.specs.Left.{Stands, is_text_line, ends_run}
use Rattle.pp.specs.inside.Stepping.{role_meant, first_of, presumed_by, placed, behind_line, line_with, Goes, StopsAs, Ends, EndsAs, RestsOrStops, StandsOrStops}
use Rattle.pp.proofs.GroupLemmas.{and_left, and_right}
use Rattle.pp.proofs.RestLemmas.{in_none, text_joined, text_rest, line_rest, end_rest, end_alone, end_open, whole_rest}
use Rattle.pp.proofs.StateLemmas.{append_files, true-false}

pub keeps_through : (a b c : Texts) → KeepsNumbers a b → KeepsNumbers b c → KeepsNumbers a c
keeps_through a b c p q n text e = q n text (p n text e)

-- ---- a text line

placed_append : (p : Presumed) (xs ys : List Token) → placed p (xs ++ ys) ≡ placed p xs ++ placed p ys
placed_append p [] ys = refl
placed_append p (x ∷ xs) ys = ap (λ l. record x { pos = presumed_by p x.pos } ∷ l) (placed_append p xs ys)

from_some : Option Token → Token → Token
from_some None d = d
from_some (Some x) d = x

some_is : (a b : Token) → Some a ≡ Some b → a ≡ b
unfolding from_some
some_is a b e = ap (λ o. from_some o a) e

open_of : Option Open → Open → Open
open_of None d = d
open_of (Some x) d = x

some_open : (a b : Open) → Some a ≡ Some b → a ≡ b
unfolding open_of
some_open a b e = ap (λ o. open_of o a) e

pub placed_files : (names : Texts) (p : Presumed) (xs : List Token) → p.file < length names → HaveFiles names (placed p xs)
placed_files names p [] h i t e = absurd (none-some t e)
placed_files names p (x ∷ xs) h zero t e = subst (λ (k : Token). k.pos.file < length names) (some_is (record x { pos = presumed_by p x.pos }) t e) h
placed_files names p (x ∷ xs) h (suc i) t e = placed_files names p xs h i t e

-- a part that stops, stops the whole
pub stops_all : {A : Type 0} (given : List Token) (names : Texts) (r : Refusal) (o : Outcome A) (whole : Outcome State) (f : A → Outcome State) → whole ≡ (o >>= f) → StopsAs given names r o → StopsAs given names r whole
stops_all given names Memory o whole f e s = tt
stops_all given names (At c at) o whole f e s = record { stops_is = e ∙ ap (λ k. k >>= f) s.stops_is }
stops_all given names (Told c at n) o whole f e s = record {
  text = s.text;
  number_is = s.number_is;
  utf8 = s.utf8;
  fault_is = record { stops_is = e ∙ ap (λ k. k >>= f) s.fault_is.stops_is };
}

pub stops_then : {A B : Type 0} (given : List Token) (r : Refusal) (names : Texts) (o : Outcome A) (f : A → Outcome B) → StopsAs given names r o → StopsAs given names r (o >>= f)
stops_then given Memory names o f s = tt
stops_then given (At c at) names o f s = record { stops_is = ap (λ k. k >>= f) s.stops_is }
stops_then given (Told c at n) names o f s = record { text = s.text; number_is = s.number_is; utf8 = s.utf8; fault_is = record { stops_is = ap (λ k. k >>= f) s.fault_is.stops_is } }

-- an outcome that is another's stops as it does
pub stops_same : {A : Type 0} (given : List Token) (names : Texts) (r : Refusal) (o whole : Outcome A) → whole ≡ o → StopsAs given names r o → StopsAs given names r whole
stops_same given names r o whole e s = subst (StopsAs given names r) (sym e) s

-- a part that stops with the tokens given so far ends the whole
pub ends_with : {A : Type 0} (held new : ℕ) (given : List Token) (names : Texts) (r : Refusal) (o : Outcome A) → new ≡ held → IsGiven held given → StopsAs given names r o → EndsAs new names r o
ends_with held new given names Memory o e g s = tt
ends_with held new given names (At c at) o e g s = record { given = given; given_is = subst (λ h. IsGiven h given) (sym e) g; stops = s }
ends_with held new given names (Told c at n) o e g s = record { given = given; given_is = subst (λ h. IsGiven h given) (sym e) g; told = s }

pub text_stands : (names : Texts) (held : Held) (run after : Run) (around : Around) (os : List Open) (l : Line) (p : Parsed) (o : Outcome State)
    → role_of l.tokens ≡ of_text → is_active os ≡ true → after.begun ≡ true
    → after.tokens ≡ run.tokens ++ placed (presumed_of held.presumed) (behind_line run.begun l.tokens)
    → Stands names held run around os (with_line (role_of l.tokens) l p) o → Stands names held after around os p o
text_stands names held run after around os l p o text active begun tokens st =
    let ts = l.tokens in
    let more = behind_line run.begun ts in
    let now = st.now in
    record {
      now = now;
      text = st.text ++ more;
      agrees = st.agrees;
      run_is = tokens ∙ ap (λ k. k ++ placed (presumed_of held.presumed) more) st.run_is
          ∙ ap (λ p. presume now st.text ++ placed p more) (sym st.agrees.presumed_is) ∙ sym (placed_append now.presumed st.text more);
      fresh = λ b. absurd (true-false (sym begun ∙ b));
      active = λ b. active;
      comes_to = st.comes_to
          ∙ ap (λ r. rest_done around os (in_first (pending run.begun st.text) (with_line r l p)) now) text
          ∙ ap (λ q. rest_done around os q now) (text_joined run.begun st.text ts p st.fresh)
          ∙ ap (λ b. rest_done around os (in_first (pending b (st.text ++ more)) p) now) (sym begun);
    }

pub text_answers : {A : Type 0} → (result : Result A Refusal) (names : Texts) (held : Held) (run after : Run) (around : Around) (os : List Open) (l : Line) (p : Parsed) (o : Outcome State)
    → role_of l.tokens ≡ of_text → is_active os ≡ true → after.begun ≡ true
    → OnOk result (after.tokens ≡ run.tokens ++ placed (presumed_of held.presumed) (behind_line run.begun l.tokens))
    → IfErr result (λ r. r ≡ Memory)
    → Stands names held run around os (with_line (role_of l.tokens) l p) o → StandsOrStops result names held after around os p o
text_answers (Ok u) names held run after around os l p o text active begun ok err st = text_stands names held run after around os l p o text active begun ok st
text_answers (Err r) names held run after around os l p o text active begun ok err st = subst (λ r. EndsAs held.given names r o) (sym err) tt

pub text_files : {A : Type 0} → (result : Result A Refusal) (names : Texts) (held : Held) (run after : Run) (ts : List Token)
    → OnOk result (after.tokens ≡ run.tokens ++ placed (presumed_of held.presumed) (behind_line run.begun ts))
    → HaveFiles names run.tokens → held.presumed.file < length names → OnOk result (HaveFiles names after.tokens)
text_files (Ok u) names held run after ts ok files h =
    let more = behind_line run.begun ts in
    subst (HaveFiles names) (sym ok) (append_files names run.tokens (placed (presumed_of held.presumed) more) files (placed_files names (presumed_of held.presumed) more h))
text_files (Err r) names held run after ts ok files h = tt

pub true_or_false : (b : Bool) → b ≡ false → b ≡ true → ⊥
true_or_false b f t = true-false (sym t ∙ f)

not_begun : (b : Bool) → (b ≡ true → ⊥) → b ≡ false
not_begun true h = absurd (h refl)
not_begun false h = refl

-- text that is skipped
pub text_nothing : (names : Texts) (held : Held) (run : Run) (around : Around) (os : List Open) (l : Line) (p : Parsed) (o : Outcome State)
    → role_of l.tokens ≡ of_text → is_active os ≡ false
    → Stands names held run around os (with_line (role_of l.tokens) l p) o → Stands names held run around os p o
text_nothing names held run around os l p o text out st =
    let now = st.now in
    let quiet = not_begun run.begun (λ b. true_or_false (is_active os) out (st.active b)) in
    record {
      now = now;
      text = st.text;
      agrees = st.agrees;
      run_is = st.run_is;
      fresh = st.fresh;
      active = st.active;
      comes_to = st.comes_to
          ∙ ap (λ r. rest_done around os (in_first (pending run.begun st.text) (with_line r l p)) now) text
          ∙ ap (λ b. rest_done around os (in_first (pending b st.text) (in_first (with_text l.tokens) p)) now) quiet
          ∙ ap (λ q. rest_done around os q now) (in_none st.text (in_first (with_text l.tokens) p))
          ∙ text_rest around os l.tokens p now out
          ∙ ap (λ q. rest_done around os q now) (sym (in_none st.text p))
          ∙ ap (λ b. rest_done around os (in_first (pending b st.text) p) now) (sym quiet);
    }

-- ---- a directive

-- no run has begun at a directive
pub not_in_run : (b : Bool) (r : Role) → (b && not (is_text r)) ≡ false → is_text r ≡ false → b ≡ false
not_in_run true r e t = absurd (true-false (sym (ap not t) ∙ e))
not_in_run false r e t = refl

-- the same by the number of the line
pub ended_by : (r : Reading) (ts : List Token) → slice_get r.lines r.next ≡ Some ts → ends_run r ≡ false → (r.file.run.begun && not (is_text (role_of ts))) ≡ false
ended_by r ts e h = ap (λ o. r.file.run.begun && not (is_text_line o)) (sym e) ∙ h

pub idle_by : (r : Reading) (ts : List Token) → slice_get r.lines r.next ≡ Some ts → ends_run r ≡ false → is_text (role_of ts) ≡ false → r.file.run.begun ≡ false
idle_by r ts e h t = not_in_run r.file.run.begun (role_of ts) (ended_by r ts e h) t

-- none has begun at the end of a file
pub last_idle : (r : Reading) → length r.lines ≤ r.next → ends_run r ≡ false → r.file.run.begun ≡ false
last_idle r past h = by_begun r.file.run.begun (ap (λ o. r.file.run.begun && not (is_text_line o)) (sym (past_none r.lines r.next past)) ∙ h)
  where
    past_none : (tss : List (List Token)) (i : ℕ) → length tss ≤ i → slice_get tss i ≡ None
    past_none [] i h = refl
    past_none (t ∷ tss) zero h = absurd (omega (arith, h))
    past_none (t ∷ tss) (suc i) h = past_none tss i (omega (arith, h))

    by_begun : (b : Bool) → (b && true) ≡ false → b ≡ false
    by_begun true e = absurd (true-false e)
    by_begun false e = refl

pub still_goes : (texts names : Texts) (held : Held) (b : Bool) (xs : List Token) (s : State) → b ≡ false → Agrees names held s → Goes names held (run_ended texts b xs s)
still_goes texts names held b xs s e a = record { after = s; agrees = a; goes_is = ap (λ b. run_ended texts b xs s) e }

pub text_meant : (w : Word) → is_text (role_meant w) ≡ false
text_meant word.Opens = refl
text_meant word.Divides = refl
text_meant word.Closes = refl
text_meant word.StandsAlone = refl

pub directive_is : (names : Texts) (held : Held) (run : Run) (around : Around) (os : List Open) (w : Word) (l : Line) (p : Parsed) (o : Outcome State)
    → role_of l.tokens ≡ role_meant w → (st : Stands names held run around os (with_line (role_of l.tokens) l p) o)
    → o ≡ (run_ended around.texts run.begun st.text st.now >>= λ s. rest_done around os (with_line (role_meant w) l p) s)
directive_is names held run around os w l p o e st =
    st.comes_to
    ∙ ap (λ r. rest_done around os (in_first (pending run.begun st.text) (with_line r l p)) st.now) e
    ∙ line_rest (role_meant w) around os run.begun st.text l p st.now (text_meant w) st.active

pub directive_stands : {A : Type 0} → (result : Result A Refusal) (names after : Texts) (held between new : Held) (run run' : Run) (around : Around) (os os' : List Open) (w : Word) (l : Line) (p : Parsed) (o : Outcome State)
    → role_of l.tokens ≡ role_meant w → (st : Stands names held run around os (with_line (role_of l.tokens) l p) o)
    → run'.begun ≡ false → run'.tokens ≡ []
    → Goes names between (run_ended around.texts run.begun st.text st.now) → new.given ≡ between.given
    → ((s : State) → Agrees names between s → RestsOrStops s.given result after new around os' p (rest_done around os (with_line (role_meant w) l p) s))
    → StandsOrStops result after new run' around os' p o
directive_stands (Ok u) names after held between new run run' around os os' w l p o e st begun tokens m kept does =
    let n = does m.after m.agrees in
    record {
      now = n.after;
      text = [];
      agrees = n.agrees;
      run_is = tokens;
      fresh = λ b. refl;
      active = λ b. absurd (true_or_false run'.begun begun b);
      comes_to = directive_is names held run around os w l p o e st
          ∙ ap (λ k. k >>= λ s. rest_done around os (with_line (role_meant w) l p) s) m.goes_is
          ∙ n.rests
          ∙ ap (λ q. rest_done around os' q n.after) (sym (in_none [] p))
          ∙ ap (λ b. rest_done around os' (in_first (pending b []) p) n.after) (sym begun);
    }
directive_stands (Err r) names after held between new run run' around os os' w l p o e st begun tokens m kept does =
    ends_with between.given new.given m.after.given after r o kept m.agrees.given_is
    (stops_same m.after.given after r (rest_done around os (with_line (role_meant w) l p) m.after) o
    (directive_is names held run around os w l p o e st ∙ ap (λ k. k >>= λ s. rest_done around os (with_line (role_meant w) l p) s) m.goes_is)
    (does m.after m.agrees))

-- ---- the end of the file

end_is : (names : Texts) (held : Held) (run : Run) (around : Around) (os : List Open) (o : Outcome State) → (st : Stands names held run around os (to_end ends) o)
    → o ≡ (run_ended around.texts run.begun st.text st.now >>= λ s. rest_done around os (to_end ends) s)
end_is names held run around os o st = st.comes_to ∙ end_rest around os run.begun st.text st.now st.active

pub end_goes : (names : Texts) (held new : Held) (run : Run) (around : Around) (os : List Open) (o : Outcome State) → os ≡ [] → (st : Stands names held run around os (to_end ends) o)
    → Goes names new (run_ended around.texts run.begun st.text st.now) → Goes names new o
end_goes names held new run around os o e st m = record {
  after = m.after;
  agrees = m.agrees;
  goes_is = end_is names held run around os o st ∙ ap (λ k. k >>= λ s. rest_done around os (to_end ends) s) m.goes_is
      ∙ ap (λ os. rest_done around os (to_end ends) m.after) e ∙ end_alone around m.after;
}

pub end_missing : (names : Texts) (held new : Held) (run : Run) (around : Around) (os : List Open) (first : Open) (o : Outcome State) → Some first ≡ first_of os → (st : Stands names held run around os (to_end ends) o)
    → Goes names new (run_ended around.texts run.begun st.text st.now) → Ends new.given code.UnbalancedConditional first.at [] o
end_missing names held new run around [] first o e st m = absurd (none-some first (sym e))
end_missing names held new run around (a ∷ os) first o e st m = record {
  given = m.after.given;
  given_is = m.agrees.given_is;
  stops = record {
    stops_is = end_is names held run around (a ∷ os) o st ∙ ap (λ k. k >>= λ s. rest_done around (a ∷ os) (to_end ends) s) m.goes_is
        ∙ end_open around a os m.after ∙ ap (λ (f : Open). stops m.after.given (record { code = code.UnbalancedConditional; at = f.at; text = [] })) (sym (some_open first a e));
  };
}

-- ---- lines by their numbers

line_tokens : Option (List Token) → List Token
line_tokens None = []
line_tokens (Some t) = t

drop_end : (es : List ℕ) (i : ℕ) → drop i (drop 1 es) ≡ drop (suc i) es
drop_end [] zero = refl
drop_end [] (suc i) = refl
drop_end (e ∷ es) i = refl

pub next_of : (tss : List (List Token)) (es : List ℕ) (i : ℕ) (t : List Token) → slice_get tss i ≡ Some t
    → drop i (lines_with tss es) ≡ line_with t (first_end (drop i es)) ∷ drop (suc i) (lines_with tss es)
unfolding line_tokens
next_of [] es i t e = absurd (none-some t e)
next_of (l ∷ tss) es zero t e = ap (λ (k : List Token). line_with k (first_end es) ∷ lines_with tss (drop 1 es)) (ap line_tokens e)
next_of (l ∷ tss) es (suc i) t e =
    next_of tss (drop 1 es) i t e ∙ ap (λ k. line_with t (first_end k) ∷ drop (suc i) (lines_with tss (drop 1 es))) (drop_end es i)

pub all_get : (p : List Token → Bool) (ls : List (List Token)) (i : ℕ) (t : List Token) → list_all p ls ≡ true → slice_get ls i ≡ Some t → p t ≡ true
unfolding line_tokens
all_get p [] i t h e = absurd (none-some t e)
all_get p (l ∷ ls) zero t h e = ap p (sym (ap line_tokens e)) ∙ and_left (p l) (list_all p ls) h
all_get p (l ∷ ls) (suc i) t h e = all_get p ls i t (and_right (p l) (list_all p ls) h) e

pub none_left : (tss : List (List Token)) (es : List ℕ) (i : ℕ) → length tss ≤ i → drop i (lines_with tss es) ≡ []
none_left [] es zero h = refl
none_left [] es (suc i) h = refl
none_left (l ∷ tss) es zero h = absurd (omega (arith, h))
none_left (l ∷ tss) es (suc i) h = none_left tss (drop 1 es) i (omega (arith, h))

-- ---- from the first line to the last

pub stands_first : (names : Texts) (held : Held) (run : Run) (around : Around) (os : List Open) (ls : List Line) (s : State) → run.begun ≡ false → run.tokens ≡ [] → os ≡ [] → Agrees names held s
    → Stands names held run around os (parsed ls) (group_done around nowhere 0 (groups ls) s)
unfolding groups
stands_first names held run around os ls s begun tokens none a = record {
  now = s;
  text = [];
  agrees = a;
  run_is = tokens;
  fresh = λ b. refl;
  active = λ b. absurd (true_or_false run.begun begun b);
  comes_to = sym (whole_rest around (parsed ls) s)
      ∙ ap (λ q. rest_done around [] q s) (sym (in_none [] (parsed ls)))
      ∙ ap (λ b. rest_done around [] (in_first (pending b []) (parsed ls)) s) (sym begun)
      ∙ ap (λ os. rest_done around os (in_first (pending run.begun []) (parsed ls)) s) (sym none);
}

pub parsed_next : (ls : List Line) (l : Line) (i : ℕ) → drop i ls ≡ l ∷ drop (suc i) ls → parsed (drop i ls) ≡ with_line (role_of l.tokens) l (parsed (drop (suc i) ls))
unfolding parsed
parsed_next ls l i e = ap parsed e

pub parsed_end : (ls : List Line) (i : ℕ) → drop i ls ≡ [] → parsed (drop i ls) ≡ to_end ends
unfolding parsed
parsed_end ls i e = ap parsed e

pub next_stands : (names : Texts) (held : Held) (run : Run) (around : Around) (os : List Open) (tss : List (List Token)) (es : List ℕ) (i : ℕ) (t : List Token) (o : Outcome State) → slice_get tss i ≡ Some t
    → Stands names held run around os (parsed (drop i (lines_with tss es))) o
    → Stands names held run around os (with_line (role_of t) (line_with t (first_end (drop i es))) (parsed (drop (suc i) (lines_with tss es)))) o
next_stands names held run around os tss es i t o e st =
    subst (λ q. Stands names held run around os q o) (parsed_next (lines_with tss es) (line_with t (first_end (drop i es))) i (next_of tss es i t e)) st

pub last_stands : (names : Texts) (held : Held) (run : Run) (around : Around) (os : List Open) (tss : List (List Token)) (es : List ℕ) (i : ℕ) (o : Outcome State) → length tss ≤ i
    → Stands names held run around os (parsed (drop i (lines_with tss es))) o → Stands names held run around os (to_end ends) o
last_stands names held run around os tss es i o h st =
    subst (λ q. Stands names held run around os q o) (parsed_end (lines_with tss es) i (none_left tss es i h)) st

pub no_files : (names : Texts) (xs : List Token) → xs ≡ [] → HaveFiles names xs
no_files names xs e = subst (HaveFiles names) (sym e) (λ i t h. absurd (none-some t h))
