-- The effect of lines of conditionals on the conditionals that are open.
use Rattle.std.proofs.Common.{◌≡◌, ℕ, List, [], ◌∷◌, length, Bool, true, false, Option, Some, None, Result, Ok, Err, OnOk, IfErr, refl, sym, ap, subst, ◌∙◌}
use Rattle.std.specs.Prelude.{nat_le, if◌then◌else◌}
use Rattle.std.proofs.lemmas.Option.{none-some}
use Rattle.srcset.specs.declared.refusal.Pos.{Pos}
use Rattle.srcset.specs.declared.refusal.Refusal.{Refusal}
use Rattle.srcset.specs.declared.refusal.Refusal.TheVariants.{Memory}
use Rattle.srcset.specs.declared.code.Code.TheVariants as code
use Rattle.srcset.specs.NameTable.{Texts}
use Rattle.phases.specs.Token.{Token}
use Rattle.pp.specs.declared.conditionals.BranchState.{BranchState}
use Rattle.pp.specs.declared.conditionals.BranchState.TheVariants.{Skipped}
use Rattle.pp.specs.declared.conditionals.Open.{Open}
use Rattle.pp.specs.declared.state.State.{State as Held}
use Rattle.pp.specs.Lines.{Line}
use Rattle.pp.specs.Groups.{opens, divides, closes, stands_alone, role_of, is_else, place_of, Parsed, with_line}
use Rattle.pp.specs.Phase4.{State, Outcome, ◌>>=◌, fails, Around, max_conditionals, nested_done, directive_done, end_checked}
use Rattle.pp.specs.Rest.{is_active, next_branch, opening, closed_by, open_at, rest_done}
use Rattle.pp.specs.Held.{presumed_of, Agrees}
use Rattle.pp.specs.inside.Stepping.{first_of, behind_first, presumed_by, line_with, Gives, Stops, StopsAs, Answers, Does, Rests, RestsOrStops}
use Rattle.pp.proofs.RestLemmas.{open_rest, divide_rest, divide_amiss, divide_alone, close_rest, close_alone, directive_rest, skipped_rest}
use Rattle.pp.proofs.FileLemmas.{stops_all}

-- the place of a line of these conditionals, and its outcome
abbrev at_line : Texts → Held → State → List Token → Pos → Type 0
at_line names held s ts at = Agrees names held s × (at ≡ presumed_by (presumed_of held.presumed) (place_of ts))

place_is : (names : Texts) (held : Held) (s : State) (ts : List Token) (at : Pos) → at_line names held s ts at → presumed_by s.presumed (place_of ts) ≡ at
place_is names held s ts at h = ap (λ p. presumed_by p (place_of ts)) h.0.presumed_is ∙ sym h.1

-- ---- a conditional opens

opens_is : (names : Texts) (held : Held) (around : Around) (os : List Open) (ts : List Token) (end : ℕ) (p : Parsed) (s : State) (at : Pos) → at_line names held s ts at
    → rest_done around os (with_line opens (line_with ts end) p) s
    ≡ nested_done (length os) at s (λ u. next_branch (opening (is_active os)) around (line_with ts end) s >>= λ r. rest_done around (open_at at r.0 (line_with ts end) ∷ os) p r.1)
opens_is names held around os ts end p s at h =
    open_rest around os (line_with ts end) p s
    ∙ ap (λ at. nested_done (length os) at s (λ u. next_branch (opening (is_active os)) around (line_with ts end) s >>= λ r. rest_done around (open_at at r.0 (line_with ts end) ∷ os) p r.1)) (place_is names held s ts at h)

pub opens_full : (names : Texts) (held : Held) (around : Around) (os : List Open) (ts : List Token) (end : ℕ) (p : Parsed) (s : State) (at : Pos) → at_line names held s ts at
    → nat_le max_conditionals (length os) ≡ true → Stops s.given code.NestingLimit at [] (rest_done around os (with_line opens (line_with ts end) p) s)
opens_full names held around os ts end p s at h full =
    let go = next_branch (opening (is_active os)) around (line_with ts end) s >>= λ r. rest_done around (open_at at r.0 (line_with ts end) ∷ os) p r.1 in
    record {
      stops_is = opens_is names held around os ts end p s at h ∙ ap (λ b. if b then fails s code.NestingLimit at else go) full;
    }

opens_room : (names : Texts) (held : Held) (around : Around) (os : List Open) (ts : List Token) (end : ℕ) (p : Parsed) (s : State) (at : Pos) → at_line names held s ts at
    → nat_le max_conditionals (length os) ≡ false
    → rest_done around os (with_line opens (line_with ts end) p) s
    ≡ (next_branch (opening (is_active os)) around (line_with ts end) s >>= λ r. rest_done around (open_at at r.0 (line_with ts end) ∷ os) p r.1)
opens_room names held around os ts end p s at h room =
    let go = next_branch (opening (is_active os)) around (line_with ts end) s >>= λ r. rest_done around (open_at at r.0 (line_with ts end) ∷ os) p r.1 in
    opens_is names held around os ts end p s at h ∙ ap (λ b. if b then fails s code.NestingLimit at else go) room

pub opens_stops : (r : Refusal) (names : Texts) (held : Held) (around : Around) (os : List Open) (ts : List Token) (end : ℕ) (p : Parsed) (s : State) (at : Pos) (b : BranchState) → at_line names held s ts at
    → nat_le max_conditionals (length os) ≡ false → b ≡ opening (is_active os)
    → StopsAs s.given names r (next_branch b around (line_with ts end) s) → StopsAs s.given names r (rest_done around os (with_line opens (line_with ts end) p) s)
opens_stops r names held around os ts end p s at b h room e st =
    stops_all s.given names r (next_branch b around (line_with ts end) s) (rest_done around os (with_line opens (line_with ts end) p) s) (λ r. rest_done around (open_at at r.0 (line_with ts end) ∷ os) p r.1)
    (opens_room names held around os ts end p s at h room ∙ ap (λ b. next_branch b around (line_with ts end) s >>= λ r. rest_done around (open_at at r.0 (line_with ts end) ∷ os) p r.1) (sym e)) st

begun : {A : Type 0} (given : List Token) (result : Result A Refusal) (names : Texts) (new : Held) (around : Around) (os os' : List Open) (o : Open) (p : Parsed) (b : BranchState) (asked : Outcome (BranchState × State)) (f : BranchState × State → Outcome State) (whole : Outcome State)
    → whole ≡ (asked >>= f) → ((s : State) → f (b, s) ≡ rest_done around (o ∷ os) p s) → Gives b names new asked
    → OnOk result (os' ≡ o ∷ os) → IfErr result (λ r. r ≡ Memory) → RestsOrStops given result names new around os' p whole
begun given (Ok u) names new around os os' o p b asked f whole e each g ok err = record {
  after = g.after;
  agrees = g.agrees;
  rests = e ∙ ap (λ k. k >>= f) g.gives_is ∙ each g.after ∙ ap (λ os. rest_done around os p g.after) (sym ok);
}
begun given (Err r) names new around os os' o p b asked f whole e each g ok err = subst (λ r. StopsAs given names r whole) (sym err) tt

pub opens_answers : {A : Type 0} (result : Result A Refusal) (names : Texts) (held new : Held) (around : Around) (os os' : List Open) (ts : List Token) (end : ℕ) (p : Parsed) (s : State) (at : Pos) (b before : BranchState) (e : Bool) → at_line names held s ts at
    → nat_le max_conditionals (length os) ≡ false → before ≡ opening (is_active os) → e ≡ is_else ts
    → Gives b names new (next_branch before around (line_with ts end) s)
    → OnOk result (os' ≡ record { at = at; branch = b; behind_else = e } ∷ os) → IfErr result (λ r. r ≡ Memory)
    → RestsOrStops s.given result names new around os' p (rest_done around os (with_line opens (line_with ts end) p) s)
opens_answers result names held new around os os' ts end p s at b before e h room before_is else_is g ok err =
    begun s.given result names new around os os' (record { at = at; branch = b; behind_else = e }) p b (next_branch before around (line_with ts end) s)
    (λ r. rest_done around (open_at at r.0 (line_with ts end) ∷ os) p r.1) (rest_done around os (with_line opens (line_with ts end) p) s)
    (opens_room names held around os ts end p s at h room ∙ ap (λ b. next_branch b around (line_with ts end) s >>= λ r. rest_done around (open_at at r.0 (line_with ts end) ∷ os) p r.1) (sym before_is))
    (λ s. ap (λ (e : Bool). rest_done around (record { at = at; branch = b; behind_else = e } ∷ os) p s) (sym else_is))
    g ok err

-- ---- a further branch

open_of : Option Open → Open → Open
open_of None d = d
open_of (Some x) d = x

some_open : (a b : Open) → Some a ≡ Some b → a ≡ b
unfolding open_of
some_open a b e = ap (λ o. open_of o a) e

parts_of : (os : List Open) (o : Open) → Some o ≡ first_of os → os ≡ o ∷ behind_first os
parts_of [] o e = absurd (none-some o (sym e))
parts_of (a ∷ os) o e = ap (λ k. k ∷ os) (sym (some_open o a e))

pub none_of : (os : List Open) → None ≡ first_of os → os ≡ []
none_of [] e = refl
none_of (a ∷ os) e = absurd (none-some a e)

pub divides_alone : (names : Texts) (held : Held) (around : Around) (os : List Open) (ts : List Token) (end : ℕ) (p : Parsed) (s : State) (at : Pos) → at_line names held s ts at → None ≡ first_of os
    → Stops s.given code.UnbalancedConditional at [] (rest_done around os (with_line divides (line_with ts end) p) s)
divides_alone names held around os ts end p s at h none = record {
  stops_is = ap (λ os. rest_done around os (with_line divides (line_with ts end) p) s) (none_of os none) ∙ divide_alone around (line_with ts end) p s
      ∙ ap (λ at. fails s code.UnbalancedConditional at) (place_is names held s ts at h);
}

pub divides_amiss : (names : Texts) (held : Held) (around : Around) (os : List Open) (o : Open) (ts : List Token) (end : ℕ) (p : Parsed) (s : State) (at : Pos) → at_line names held s ts at → role_of ts ≡ divides
    → Some o ≡ first_of os → o.behind_else ≡ true
    → Stops s.given code.UnbalancedConditional at [] (rest_done around os (with_line divides (line_with ts end) p) s)
divides_amiss names held around os o ts end p s at h r first e = record {
  stops_is = ap (λ os. rest_done around os (with_line divides (line_with ts end) p) s) (parts_of os o first) ∙ divide_amiss around o (behind_first os) (line_with ts end) p s r e
      ∙ ap (λ at. fails s code.UnbalancedConditional at) (place_is names held s ts at h);
}

divides_is : (around : Around) (os : List Open) (o : Open) (ts : List Token) (end : ℕ) (p : Parsed) (s : State) → role_of ts ≡ divides → Some o ≡ first_of os → o.behind_else ≡ false
    → rest_done around os (with_line divides (line_with ts end) p) s
    ≡ (next_branch o.branch around (line_with ts end) s >>= λ r. rest_done around (open_at o.at r.0 (line_with ts end) ∷ behind_first os) p r.1)
divides_is around os o ts end p s r first e =
    ap (λ os. rest_done around os (with_line divides (line_with ts end) p) s) (parts_of os o first) ∙ divide_rest around o (behind_first os) (line_with ts end) p s r e

pub divides_stops : (f : Refusal) (names : Texts) (around : Around) (os : List Open) (o : Open) (ts : List Token) (end : ℕ) (p : Parsed) (s : State) → role_of ts ≡ divides → Some o ≡ first_of os → o.behind_else ≡ false
    → StopsAs s.given names f (next_branch o.branch around (line_with ts end) s) → StopsAs s.given names f (rest_done around os (with_line divides (line_with ts end) p) s)
divides_stops f names around os o ts end p s r first e st =
    stops_all s.given names f (next_branch o.branch around (line_with ts end) s) (rest_done around os (with_line divides (line_with ts end) p) s) (λ r. rest_done around (open_at o.at r.0 (line_with ts end) ∷ behind_first os) p r.1)
    (divides_is around os o ts end p s r first e) st

pub divides_answers : {A : Type 0} (result : Result A Refusal) (names : Texts) (new : Held) (around : Around) (os os1 os' : List Open) (o : Open) (ts : List Token) (end : ℕ) (p : Parsed) (s : State) (b : BranchState) (e : Bool)
    → role_of ts ≡ divides → Some o ≡ first_of os → os1 ≡ behind_first os → o.behind_else ≡ false → e ≡ is_else ts
    → Gives b names new (next_branch o.branch around (line_with ts end) s)
    → OnOk result (os' ≡ record { at = o.at; branch = b; behind_else = e } ∷ os1) → IfErr result (λ r. r ≡ Memory)
    → RestsOrStops s.given result names new around os' p (rest_done around os (with_line divides (line_with ts end) p) s)
divides_answers result names new around os os1 os' o ts end p s b e r first rest amiss else_is g ok err =
    begun s.given result names new around os1 os' (record { at = o.at; branch = b; behind_else = e }) p b (next_branch o.branch around (line_with ts end) s)
    (λ r. rest_done around (open_at o.at r.0 (line_with ts end) ∷ behind_first os) p r.1) (rest_done around os (with_line divides (line_with ts end) p) s)
    (divides_is around os o ts end p s r first amiss)
    (λ s. ap (λ (e : Bool). rest_done around (record { at = o.at; branch = b; behind_else = e } ∷ behind_first os) p s) (sym else_is)
    ∙ ap (λ os. rest_done around (record { at = o.at; branch = b; behind_else = e } ∷ os) p s) (sym rest))
    g ok err

-- ---- an #endif

pub closes_alone : (names : Texts) (held : Held) (around : Around) (os : List Open) (ts : List Token) (end : ℕ) (p : Parsed) (s : State) (at : Pos) → at_line names held s ts at → None ≡ first_of os
    → Stops s.given code.UnbalancedConditional at [] (rest_done around os (with_line closes (line_with ts end) p) s)
closes_alone names held around os ts end p s at h none = record {
  stops_is = ap (λ os. rest_done around os (with_line closes (line_with ts end) p) s) (none_of os none) ∙ close_alone around (line_with ts end) p s
      ∙ ap (λ at. fails s code.UnbalancedConditional at) (place_is names held s ts at h);
}

closes_is : (around : Around) (os os1 : List Open) (o : Open) (ts : List Token) (end : ℕ) (p : Parsed) (s : State) → role_of ts ≡ closes → Some o ≡ first_of os → os1 ≡ behind_first os
    → rest_done around os (with_line closes (line_with ts end) p) s ≡ (closed_by o.branch (line_with ts end) s >>= λ s. rest_done around os1 p s)
closes_is around os os1 o ts end p s r first rest =
    ap (λ os. rest_done around os (with_line closes (line_with ts end) p) s) (parts_of os o first) ∙ close_rest around o (behind_first os) (line_with ts end) p s r
    ∙ ap (λ os. closed_by o.branch (line_with ts end) s >>= λ s. rest_done around os p s) (sym rest)

pub closes_answers : {A : Type 0} (result : Result A Refusal) (names : Texts) (held : Held) (around : Around) (os os1 : List Open) (o : Open) (ts : List Token) (end : ℕ) (p : Parsed) (s : State)
    → role_of ts ≡ closes → Some o ≡ first_of os → os1 ≡ behind_first os
    → Answers s.given result names held (closed_by o.branch (line_with ts end) s)
    → RestsOrStops s.given result names held around os1 p (rest_done around os (with_line closes (line_with ts end) p) s)
closes_answers (Ok u) names held around os os1 o ts end p s r first rest g = record {
  after = g.after;
  agrees = g.agrees;
  rests = closes_is around os os1 o ts end p s r first rest ∙ ap (λ k. k >>= λ s. rest_done around os1 p s) g.goes_is;
}
closes_answers (Err f) names held around os os1 o ts end p s r first rest st =
    stops_all s.given names f (closed_by o.branch (line_with ts end) s) (rest_done around os (with_line closes (line_with ts end) p) s) (λ s. rest_done around os1 p s)
    (closes_is around os os1 o ts end p s r first rest) st

pub closes_skipped : (names : Texts) (held : Held) (around : Around) (os os1 : List Open) (o : Open) (ts : List Token) (end : ℕ) (p : Parsed) (s : State)
    → role_of ts ≡ closes → Some o ≡ first_of os → os1 ≡ behind_first os → o.branch ≡ Skipped → Agrees names held s
    → Rests names held around os1 p (rest_done around os (with_line closes (line_with ts end) p) s)
closes_skipped names held around os os1 o ts end p s r first rest is a = record {
  after = s;
  agrees = a;
  rests = closes_is around os os1 o ts end p s r first rest ∙ ap (λ b. closed_by b (line_with ts end) s >>= λ s. rest_done around os1 p s) is;
}

pub closes_checked : {A : Type 0} (result : Result A Refusal) (names : Texts) (held : Held) (around : Around) (os os1 : List Open) (o : Open) (ts : List Token) (end : ℕ) (p : Parsed) (s : State) (b : BranchState)
    → role_of ts ≡ closes → Some o ≡ first_of os → os1 ≡ behind_first os → closed_by b (line_with ts end) s ≡ end_checked (line_with ts end) s → o.branch ≡ b
    → Answers s.given result names held (end_checked (line_with ts end) s)
    → RestsOrStops s.given result names held around os1 p (rest_done around os (with_line closes (line_with ts end) p) s)
closes_checked result names held around os os1 o ts end p s b r first rest same is g =
    closes_answers result names held around os os1 o ts end p s r first rest
    (subst (Answers s.given result names held) (sym (ap (λ b. closed_by b (line_with ts end) s) is ∙ same)) g)

-- ---- other directives

pub alone_answers : {A : Type 0} (result : Result A Refusal) (names after : Texts) (held new : Held) (around : Around) (os : List Open) (l : Line) (p : Parsed) (s : State) → is_active os ≡ true → Agrees names held s
    → Does result names held after new (directive_done around.texts around.enter l)
    → RestsOrStops s.given result after new around os p (rest_done around os (with_line stands_alone l p) s)
alone_answers (Ok u) names after held new around os l p s active a does =
    let g = does s a in
    record { after = g.after; agrees = g.agrees; rests = directive_rest around os l p s active ∙ ap (λ k. k >>= λ s. rest_done around os p s) g.goes_is }
alone_answers (Err f) names after held new around os l p s active a does =
    stops_all s.given after f (directive_done around.texts around.enter l s) (rest_done around os (with_line stands_alone l p) s) (λ s. rest_done around os p s) (directive_rest around os l p s active) (does s a)

pub alone_skipped : (names : Texts) (held : Held) (around : Around) (os : List Open) (l : Line) (p : Parsed) (s : State) → is_active os ≡ false → Agrees names held s
    → Rests names held around os p (rest_done around os (with_line stands_alone l p) s)
alone_skipped names held around os l p s out a = record { after = s; agrees = a; rests = skipped_rest around os l p s out }
