-- How a stream goes on.
use Rattle.std.proofs.Common.{◌≡◌, ◌≤◌, ◌<◌, inl, inr, ℕ, zero, suc, List, [], ◌∷◌, ◌++◌, length, drop, Bool, true, false, Some, None, Result, Ok, Err, OnOk, IfOk, IfErr, refl, sym, ap, subst, ◌∙◌, arith, length-append, append_assoc, ⊎_elim}
use Rattle.std.specs.Prelude.{◌&&◌, not, slice_get, is_some}
use Rattle.srcset.specs.declared.code.Code.{Code}
use Rattle.srcset.specs.declared.code.Code.TheVariants as code
use Rattle.srcset.specs.declared.refusal.Pos.{Pos}
use Rattle.srcset.specs.declared.refusal.Refusal.{Refusal}
use Rattle.srcset.specs.declared.refusal.Refusal.TheVariants.{Memory, At, Told}
use Rattle.srcset.specs.NameTable.{Texts, KeepsNumbers}
use Rattle.phases.specs.Token.{Token}
use Rattle.macros.specs.Macro.{Macros}
use Rattle.macros.specs.Table.{IsTable}
use Rattle.pp_expand.specs.Expansion as expansion
use Rattle.pp_expand.specs.Expansion.{Known, unhidden}
use Rattle.pp_expand.specs.Streams.{Stream, list_left}
use Rattle.pp.specs.declared.files.Reading.{Reading}
use Rattle.pp.specs.declared.run.Run.{Run}
use Rattle.pp.specs.declared.state.State.{State as Held}
use Rattle.pp.specs.declared.stream.Pp.{Pp}
use Rattle.pp.specs.declared.stream.Stage.{Stage}
use Rattle.pp.specs.declared.stream.Stage.TheVariants.{Reads, Pulls, Ended, Refused}
use Rattle.pp.specs.Phase4.{Fault, State, Outcome, stops, ◌>>=◌, of_expansion, give, Phase4, ending_of, max_tokens}
use Rattle.pp.specs.Stream.{taken_of, left_behind, ComesTo, PullsTo, ends_with, RestBy, ReadsBy, Refuses, IsFirst, IsNext, IsAnswer, IsRest, IsStream, taken_after}
use Rattle.pp.specs.Left.{around_with, AreOpen, is_text_line, ends_run, run_left, run_comes, IsGoing, left_of, resumed_all, room_of}
use Rattle.pp.specs.inside.Including.{LeftOrAnswers, size_of}
use Rattle.pp.specs.Groups.{in_first}
use Rattle.pp.specs.Rest.{pending, rest_done}
use Rattle.pp.specs.inside.Reading.{stage_after, is_reading, is_pulling, run_ends, end_of, size_by, OpenBy, Stays, IsPulled}
use Rattle.pp.specs.inside.Calls.{CallsAll, KnowsAll, IsRefusedAt}
use Rattle.pp.specs.Held.{IsGiven, IsSound}
use Rattle.pp.proofs.FileLemmas.{no_files, true_or_false}
use Rattle.pp.proofs.FrontLemmas.{left_front}
use Rattle.pp.proofs.PhaseLemmas.{shown_is}
use Rattle.pp.proofs.PullLemmas.{drop_all, run_fails, run_ends_so, run_past, StopsSo, GoesSo, run_cases, begins, and_true}
use Rattle.pp.proofs.RestLemmas.{in_none}
use Rattle.pp.proofs.RunLemmas.{with_more, one_pulled, none_pulled, err_pulled}
use Rattle.pp.proofs.StackLemmas.{stops_on, ended_stacked}
use Rattle.pp.proofs.StateLemmas.{true-false}

-- ---- lists

drop_first : (xs ys more : List Token) (x : Token) (n : ℕ) → length xs ≡ n → drop n ((xs ++ x ∷ ys) ++ more) ≡ x ∷ drop (suc n) ((xs ++ x ∷ ys) ++ more)
drop_first [] ys more x zero e = refl
drop_first [] ys more x (suc n) e = absurd (omega (arith, e))
drop_first (y ∷ xs) ys more x zero e = absurd (omega (arith, e))
drop_first (y ∷ xs) ys more x (suc n) e = drop_first xs ys more x n (omega (arith, e))

-- ---- where lines are left

pub reads_now : (stage : Stage) (names : Texts) (pp : Pp) → is_reading stage ≡ true → ReadsBy stage names pp
    → IsSound names pp.state × AreOpen names pp.files.innermost pp.files.includers.items × (ends_run pp.files.innermost ≡ false)
reads_now Reads names pp e r = r
reads_now Pulls names pp e r = absurd (true-false (sym e))
reads_now Ended names pp e r = absurd (true-false (sym e))
reads_now (Refused refusal) names pp e r = absurd (true-false (sym e))

pub rest_now : (stage : Stage) (names texts : Texts) (pp : Pp) (rest : Phase4) → is_reading stage ≡ true → RestBy stage names texts pp rest → ComesTo names texts pp rest
rest_now Reads names texts pp rest e r = r
rest_now Pulls names texts pp rest e r = absurd (true-false (sym e))
rest_now Ended names texts pp rest e r = absurd (true-false (sym e))
rest_now (Refused refusal) names texts pp rest e r = absurd (true-false (sym e))

pub size_now : (stage : Stage) (pp : Pp) → is_reading stage ≡ true → size_by stage pp ≡ suc (size_of pp.files.innermost pp.files.includers.items)
size_now Reads pp e = refl
size_now Pulls pp e = absurd (true-false (sym e))
size_now Ended pp e = absurd (true-false (sym e))
size_now (Refused refusal) pp e = absurd (true-false (sym e))

-- ---- after a line

ended_at : (n : ℕ) (given : List Token) (o : Outcome State) (fault : Fault) (rest : Phase4) → length given ≤ n → o ≡ stops given fault → rest ≡ left_behind n (ending_of o)
    → rest ≡ ends_with (Some fault)
ended_at n given o fault rest g s e =
    e ∙ ap (λ k. left_behind n (ending_of k)) s
    ∙ ap (λ (l : List Token). record { tokens = l; fault = Some fault }) (drop_all given n g)

all_given : (held : ℕ) (given : List Token) → IsGiven held given → length given ≤ held
all_given held given g = omega (arith, g)

pub stepped : (done : Result Bool Refusal) (names texts : Texts) (new : Pp) (rest : Phase4) (o : Outcome State) → KeepsNumbers names texts
    → LeftOrAnswers done names new.state new.set.now texts new.files.innermost new.files.includers.items o
    → rest ≡ left_behind (taken_of new) (ending_of o) → RestBy (stage_after done) names texts new rest
stepped (Ok true) names texts new rest o keeps l e = record { outcome = o; left = l; rest_is = e }
stepped (Ok false) names texts new rest o keeps g e =
    e ∙ ap (λ k. left_behind (taken_of new) (ending_of k)) g.goes_is
    ∙ ap (λ (l : List Token). record { tokens = l; fault = None }) (drop_all g.after.given (taken_of new) (all_given new.state.given g.after.given g.agrees.given_is))
stepped (Err Memory) names texts new rest o keeps s e = tt
stepped (Err (At c at)) names texts new rest o keeps s e =
    ended_at (taken_of new) s.given o (record { code = c; at = at; text = [] }) rest (all_given new.state.given s.given s.given_is) s.stops.stops_is e
stepped (Err (Told c at n)) names texts new rest o keeps s e =
    ended_at (taken_of new) s.given o (record { code = c; at = at; text = s.told.text }) rest (all_given new.state.given s.given s.given_is) s.told.fault_is.stops_is e
    ∙ ap (λ (t : List ℕ). ends_with (Some (record { code = c; at = at; text = t }))) (sym (shown_is texts n s.told.text (keeps n s.told.text s.told.number_is) s.told.utf8))

pub read_open : (done : Result Bool Refusal) (names : Texts) (new : Pp) → OnOk done (IsSound names new.state)
    → IfOk done (λ more. more ≡ true → AreOpen names new.files.innermost new.files.includers.items) → OpenBy (stage_after done) names new
read_open (Ok true) names new sound open' = (sound, open' refl)
read_open (Ok false) names new sound open' = tt
read_open (Err refusal) names new sound open' = tt

pub stepped_less : (done : Result Bool Refusal) (new : Pp) (n : ℕ) → IfOk done (λ more. more ≡ true → size_of new.files.innermost new.files.includers.items < n)
    → size_by (stage_after done) new < suc n
stepped_less (Ok true) new n less = let h = less refl in omega (arith, h)
stepped_less (Ok false) new n less = omega arith
stepped_less (Err refusal) new n less = omega arith

-- where no run ends it reads on
pub reads_on : (stage : Stage) (names : Texts) (pp : Pp) → (is_reading stage && ends_run pp.files.innermost) ≡ false → OpenBy stage names pp → ReadsBy stage names pp
reads_on Reads names pp e o = (o.0, o.1, e)
reads_on Pulls names pp e o = absurd o
reads_on Ended names pp e o = tt
reads_on (Refused refusal) names pp e o = tt

-- ---- a run that ends is pulled

pub begun_by : (stage : Stage) (names : Texts) (pp : Pp) → is_reading stage ≡ true → OpenBy stage names pp → IsSound names pp.state × AreOpen names pp.files.innermost pp.files.includers.items
begun_by Reads names pp e o = o
begun_by Pulls names pp e o = absurd o
begun_by Ended names pp e o = absurd (true-false (sym e))
begun_by (Refused refusal) names pp e o = absurd (true-false (sym e))

-- the same files, the run of the innermost taken
abbrev pub without_run : Run → Reading → Reading
without_run run r = record { lines = r.lines; end = r.end; next = r.next; file = record { run = run; conditionals = r.file.conditionals; ends = r.file.ends } }

abbrev pub begun_with : Run → Stream → Pp → Pp
begun_with run list pp = record {
  set = pp.set;
  files = record {
    innermost = without_run run pp.files.innermost;
    includers = pp.files.includers;
    scans = pp.files.scans;
  };
  state = pp.state;
  run = list;
  stage = Pulls;
}

pub begun_rest : (names texts : Texts) (pp : Pp) (run : Run) (list : Stream) (rest : Phase4) → run_ends pp ≡ true
    → ((texts : Texts) → list_left texts list ≡ unhidden pp.files.innermost.file.run.tokens) → IsGoing names list
    → IsRest names texts pp rest → IsRest names texts (begun_with run list pp) rest
begun_rest names texts pp run list rest e left going r =
    let b = and_true (is_reading pp.stage) (ends_run pp.files.innermost) e in
    let k = rest_now pp.stage names texts pp rest b.0 r in
    let is = pp.files.includers.items in
    record {
      outcome = k.outcome;
      inner = k.left.inner;
      pulls = begins names pp.state pp.files.innermost list (around_with (room_of is) pp.set.now texts) k.left.inner b.1 k.left.stands (left texts) going;
      whole = k.left.whole;
      rest_is = k.rest_is;
    }

pub begun_stream : (names : Texts) (pp : Pp) (run : Run) (list : Stream) → run_ends pp ≡ true → taken_of pp ≤ max_tokens → run.begun ≡ false → run.tokens ≡ []
    → OpenBy pp.stage names pp → IsStream names (begun_with run list pp)
begun_stream names pp run list e few begun tokens o =
    let k = begun_by pp.stage names pp (and_true (is_reading pp.stage) (ends_run pp.files.innermost) e).0 o in
    let open' : AreOpen names (without_run run pp.files.innermost) pp.files.includers.items = record {
      stacked = ended_stacked names pp.files.innermost (without_run run pp.files.innermost).file pp.files.includers.items k.1.stacked;
      has_files = no_files names run.tokens tokens;
      idle = λ b. tokens;
    } in
    record { few = few; reads = (k.0, open', begun) }

-- ---- where a run is pulled

pub pulls_now : (stage : Stage) (names texts : Texts) (pp : Pp) (rest : Phase4) → is_pulling stage ≡ true → RestBy stage names texts pp rest → PullsTo names texts pp rest
pulls_now Reads names texts pp rest e r = absurd (true-false (sym e))
pulls_now Pulls names texts pp rest e r = r
pulls_now Ended names texts pp rest e r = absurd (true-false (sym e))
pulls_now (Refused refusal) names texts pp rest e r = absurd (true-false (sym e))

pub pulling_now : (stage : Stage) (names : Texts) (pp : Pp) → is_pulling stage ≡ true → ReadsBy stage names pp
    → IsSound names pp.state × AreOpen names pp.files.innermost pp.files.includers.items × (pp.files.innermost.file.run.begun ≡ false)
pulling_now Reads names pp e r = absurd (true-false (sym e))
pulling_now Pulls names pp e r = r
pulling_now Ended names pp e r = absurd (true-false (sym e))
pulling_now (Refused refusal) names pp e r = absurd (true-false (sym e))

-- the same stream with another state
abbrev pub with_state : Held → Stream → Stage → Pp → Pp
with_state state run stage pp = record { set = pp.set; files = pp.files; state = state; run = run; stage = stage }

-- the stream after it
abbrev pub pulled_with : Stream → ℕ → ℕ → Stage → Pp → Pp
pulled_with run left given stage pp = record { set = pp.set; files = pp.files; state = record pp.state { budget = left; given = given }; run = run; stage = stage }

abbrev known_of : Macros → Texts → Known
known_of macros texts = record { macros = macros; texts = texts }

-- the rest of the files after the run
abbrev on_file : Texts → Pp → State → Outcome State
on_file texts pp s = rest_done (around_with (room_of pp.files.includers.items) pp.set.now texts) pp.files.innermost.file.conditionals (left_of pp.files.innermost) s

-- the run that is pulled stops
stops_rest : (names texts : Texts) (pp : Pp) (rest : Phase4) (r : PullsTo names texts pp rest) (fault : Fault)
    → run_comes r.pulls.now r.pulls.before (run_left (known_of r.pulls.now.macros texts) pp.run pp.state.budget) ≡ stops r.pulls.now.given fault
    → r.outcome ≡ stops r.pulls.now.given fault
stops_rest names texts pp rest r fault e =
    let is = pp.files.includers.items in
    r.whole ∙ ap (resumed_all pp.set.now texts (room_of is) is) (r.pulls.comes_to ∙ ap (λ k. k >>= on_file texts pp) e) ∙ stops_on pp.set.now texts (room_of is) is r.pulls.now.given fault

given_before : (names texts : Texts) (pp : Pp) (rest : Phase4) (r : PullsTo names texts pp rest) → length r.pulls.now.given ≤ taken_of pp
given_before names texts pp rest r = omega (arith, r.pulls.given_is)

ends_rest : (names texts : Texts) (pp : Pp) (rest : Phase4) (r : PullsTo names texts pp rest) (fault : Fault)
    → run_comes r.pulls.now r.pulls.before (run_left (known_of r.pulls.now.macros texts) pp.run pp.state.budget) ≡ stops r.pulls.now.given fault
    → rest ≡ ends_with (Some fault)
ends_rest names texts pp rest r fault e =
    ended_at (taken_of pp) r.pulls.now.given r.outcome fault rest (given_before names texts pp rest r) (stops_rest names texts pp rest r fault e) r.rest_is

-- the last token was pulled
pub pulled_none : (names texts : Texts) (pp : Pp) (run : Stream) (after : ℕ) (rest : Phase4) → KeepsNumbers names texts → CallsAll names pp.state.table pp.run run pp.state.budget after (Ok None)
    → taken_of pp ≤ max_tokens → pp.files.innermost.file.run.begun ≡ false → pp.files.innermost.file.run.tokens ≡ []
    → PullsTo names texts pp rest → ComesTo names texts (pulled_with run after (taken_of pp) Reads pp) rest
pulled_none names texts pp run after rest keeps calls few begun tokens r =
    let p = r.pulls in
    let known = known_of p.now.macros texts in
    let none = none_pulled known names pp.run run pp.state.budget after p.going (calls p.now.macros texts p.table_is keeps p.going.knows p.going.not_refused) in
    let comes = run_ends_so p.now p.before (run_left known pp.run pp.state.budget) after none (omega (arith, few, p.given_is)) in
    let s : State = record p.now { given = p.now.given ++ (p.before ++ []); left = after } in
    let r' = pp.files.innermost in
    let around = around_with (room_of pp.files.includers.items) pp.set.now texts in
    record {
      outcome = r.outcome;
      left = record {
        inner = r.inner;
        stands = record {
          now = s;
          text = [];
          agrees = record {
            table_is = p.table_is;
            left_is = refl;
            given_is = omega
                (arith, p.given_is, length-append p.now.given (p.before ++ []), length-append p.before []);
            presumed_is = p.presumed_is;
          };
          run_is = tokens;
          fresh = λ b. refl;
          active = λ b. absurd (true_or_false r'.file.run.begun begun b);
          comes_to = p.comes_to ∙ ap (λ k. k >>= on_file texts pp) comes
              ∙ ap (λ q. rest_done around r'.file.conditionals q s) (sym (in_none [] (left_of r')))
              ∙ ap (λ b. rest_done around r'.file.conditionals (in_first (pending b []) (left_of r')) s) (sym begun);
        };
        whole = r.whole;
      };
      rest_is = r.rest_is;
    }

-- it was refused
pub pulled_err : (f : Refusal) (names texts : Texts) (pp new : Pp) (run : Stream) (after : ℕ) (rest : Phase4) → KeepsNumbers names texts
    → CallsAll names pp.state.table pp.run run pp.state.budget after (Err f)
    → PullsTo names texts pp rest → RestBy (Refused f) names texts new rest
pulled_err Memory names texts pp new run after rest keeps calls r = tt
pulled_err (At c at) names texts pp new run after rest keeps calls r =
    let p = r.pulls in
    let known = known_of p.now.macros texts in
    let e = err_pulled known names pp.run run pp.state.budget after (At c at) p.going (calls p.now.macros texts p.table_is keeps p.going.knows p.going.not_refused) in
    ends_rest names texts pp rest r (record { code = c; at = at; text = [] }) (run_fails p.now p.before (run_left known pp.run pp.state.budget) (record { code = c; at = at }) e)
pulled_err (Told c at n) names texts pp new run after rest keeps calls r =
    let p = r.pulls in
    absurd (err_pulled (known_of p.now.macros texts) names pp.run run pp.state.budget after (Told c at n) p.going (calls p.now.macros texts p.table_is keeps p.going.knows p.going.not_refused))

-- after one more token
module _ (names texts : Texts) (pp : Pp) (run : Stream) (after : ℕ) (x : Token) (rest : Phase4) (keeps : KeepsNumbers names texts)
    (calls : CallsAll names pp.state.table pp.run run pp.state.budget after (Ok (Some x)))
    (knows : KnowsAll names pp.state.table pp.run run) (end : run.end ≡ pp.run.end) (none : run.refused ≡ None) (r : PullsTo names texts pp rest) where
  going : IsGoing names run
  going = record { knows = knows r.pulls.now.macros r.pulls.table_is r.pulls.going.knows; end_is = end ∙ r.pulls.going.end_is; not_refused = none }

  abbrev left : Result (List Token × ℕ) expansion.Fault
  left = run_left (known_of r.pulls.now.macros texts) run after

  comes : run_comes r.pulls.now r.pulls.before (run_left (known_of r.pulls.now.macros texts) pp.run pp.state.budget) ≡ run_comes r.pulls.now (r.pulls.before ++ x ∷ []) left
  comes =
      let p = r.pulls in
      let one = one_pulled (known_of p.now.macros texts) names pp.run run pp.state.budget after x p.going (calls p.now.macros texts p.table_is keeps p.going.knows p.going.not_refused) in
      ap (λ k. run_comes p.now p.before k) one ∙ ap (λ k. of_expansion p.now k >>= give p.now) (with_more p.before (x ∷ []) left)

  -- it was one too many
  pub pulled_past : (f : Refusal) (new : Pp) → taken_of pp ≡ max_tokens
      → ((macros : Macros) (texts : Texts) → IsTable names pp.state.table macros → KeepsNumbers names texts → IsGoing names run
      → IsRefusedAt f x.pos (run_left (record { macros = macros; texts = texts }) run after))
      → RestBy (Refused f) names texts new rest
  pulled_past Memory new full refused = tt
  pulled_past (At c at) new full refused =
      let p = r.pulls in
      ⊎_elim
      (λ (e : left ≡ Err (record { code = c; at = at })). ends_rest names texts pp rest r (record { code = c; at = at; text = [] })
      (comes ∙ run_fails p.now (p.before ++ x ∷ []) left (record { code = c; at = at }) e))
      (λ (h : (a : List Token × ℕ) × (left ≡ Ok a) × (c ≡ code.TokenLimit) × (at ≡ x.pos)).
      ends_rest names texts pp rest r (record { code = code.TokenLimit; at = x.pos; text = [] }) (comes ∙ run_past p.now p.before x left h.0 h.1 (p.given_is ∙ full))
      ∙ ap (λ (k : Code). ends_with (Some (record { code = k; at = x.pos; text = [] }))) (sym h.2) ∙ ap (λ (q : Pos). ends_with (Some (record { code = c; at = q; text = [] }))) (sym h.3))
      (refused p.now.macros texts p.table_is keeps going)
  pulled_past (Told c at n) new full refused = absurd (refused r.pulls.now.macros texts r.pulls.table_is keeps going)

  module _ (n : ℕ) (count : n ≡ suc (taken_of pp)) where
    on : (rest' : Phase4) → rest' ≡ left_behind n (ending_of r.outcome) → PullsTo names texts (pulled_with run after n Pulls pp) rest'
    on rest' e =
        let p = r.pulls in
        record {
          outcome = r.outcome;
          inner = r.inner;
          pulls = record {
            now = p.now;
            before = p.before ++ x ∷ [];
            table_is = p.table_is;
            given_is = omega (arith, p.given_is, length-append p.before (x ∷ []), count);
            presumed_is = p.presumed_is;
            going = going;
            comes_to = p.comes_to ∙ ap (λ k. k >>= on_file texts pp) comes;
          };
          whole = r.whole;
          rest_is = e;
        }

    stopped : StopsSo r.pulls.now (r.pulls.before ++ x ∷ []) left → IsFirst x names texts (pulled_with run after n Pulls pp) rest
    stopped s =
        let given = r.pulls.now.given in
        let e = ends_rest names texts pp rest r s.fault (comes ∙ s.stops_is) in
        let more = ended_at n given r.outcome s.fault (left_behind n (ending_of r.outcome)) (omega (arith, given_before names texts pp rest r, count))
        (stops_rest names texts pp rest r s.fault (comes ∙ s.stops_is)) refl in
        inr (ap (λ (q : Phase4). q.tokens) e, ap (λ (q : Phase4). is_some q.fault) e, on rest (e ∙ sym more))

    went : GoesSo r.pulls.now (r.pulls.before ++ x ∷ []) left → IsFirst x names texts (pulled_with run after n Pulls pp) rest
    went g =
        let p = r.pulls in
        let is = pp.files.includers.items in
        let s : State = record p.now { given = p.now.given ++ ((p.before ++ x ∷ []) ++ g.tokens); left = g.left } in
        let tokens = (ending_of r.outcome).tokens in
        let f = left_front pp.set.now texts (room_of is) (room_of is) is pp.files.innermost.file.conditionals (left_of pp.files.innermost) s r.outcome
        (r.whole ∙ ap (λ k. resumed_all pp.set.now texts (room_of is) is k) (p.comes_to ∙ ap (λ k. k >>= on_file texts pp) (comes ∙ g.goes_is))) in
        let join = ap (λ (l : List Token). p.now.given ++ l) (append_assoc p.before (x ∷ []) g.tokens) ∙ sym (append_assoc p.now.given p.before (x ∷ g.tokens)) in
        let all : tokens ≡ ((p.now.given ++ p.before) ++ x ∷ g.tokens) ++ f.more = f.whole_is ∙ ap (λ (l : List Token). l ++ f.more) join in
        let first = ap (λ (l : List Token). drop (taken_of pp) l) all
        ∙ drop_first (p.now.given ++ p.before) g.tokens f.more x (taken_of pp) (length-append p.now.given p.before ∙ p.given_is)
        ∙ ap (λ l. x ∷ drop (suc (taken_of pp)) l) (sym all) in
        inl (
          drop n tokens,
          ap (λ (q : Phase4). q.tokens) r.rest_is ∙ first ∙ ap (λ k. x ∷ drop k tokens) (sym count),
          on (record { tokens = drop n tokens; fault = rest.fault }) (ap (λ (q : Phase4). record { tokens = drop n tokens; fault = q.fault }) r.rest_is),
        )

    pub pulled_some : IsFirst x names texts (pulled_with run after n Pulls pp) rest
    pulled_some = ⊎_elim stopped went (run_cases r.pulls.now (r.pulls.before ++ x ∷ []) left)

-- ---- what stays the same while no token is given

pub stays_first : (names : Texts) (pp : Pp) → Stays names names pp pp
stays_first names pp = record { rest = λ texts rest keeps r. r; taken = refl; still = λ refusal r. r }

not_reading : (pp : Pp) (refusal : Refusal) → Refuses pp refusal → is_reading pp.stage ≡ true → ⊥
not_reading pp refusal r e = true-false (sym e ∙ ap is_reading r.stage_is)

pub not_pulling : (pp : Pp) (refusal : Refusal) → Refuses pp refusal → is_pulling pp.stage ≡ true → ⊥
not_pulling pp refusal r e = true-false (sym e ∙ ap is_pulling r.stage_is)

pub stays_then : (names between after : Texts) (old pp new : Pp) → KeepsNumbers between after → Stays names between old pp → Stays between after pp new → Stays names after old new
stays_then names between after old pp new keeps r s = record {
  rest = λ texts rest later is. s.rest texts rest later (r.rest texts rest (λ n text e. later n text (keeps n text e)) is);
  taken = s.taken ∙ r.taken;
  still = λ refusal f. s.still refusal (r.still refusal f);
}

pub stays_reading : (names after : Texts) (old new : Pp) → is_reading old.stage ≡ true
    → ((texts : Texts) (rest : Phase4) → KeepsNumbers after texts → IsRest names texts old rest → IsRest after texts new rest) → taken_of new ≡ taken_of old → Stays names after old new
stays_reading names after old new reads step count = record { rest = step; taken = count; still = λ refusal f. absurd (not_reading old refusal f reads) }

pub stays_pulling : (names after : Texts) (old new : Pp) → is_pulling old.stage ≡ true
    → ((texts : Texts) (rest : Phase4) → KeepsNumbers after texts → IsRest names texts old rest → IsRest after texts new rest) → taken_of new ≡ taken_of old → Stays names after old new
stays_pulling names after old new pulls step count = record { rest = step; taken = count; still = λ refusal f. absurd (not_pulling old refusal f pulls) }

-- ---- the effect of a call that pulls

stage_pulls : (stage : Stage) → is_pulling stage ≡ true → stage ≡ Pulls
stage_pulls Reads e = absurd (true-false (sym e))
stage_pulls Pulls e = refl
stage_pulls Ended e = absurd (true-false (sym e))
stage_pulls (Refused refusal) e = absurd (true-false (sym e))

pub size_pulling : (stage : Stage) (pp : Pp) → is_pulling stage ≡ true → size_by stage pp ≡ suc (size_of pp.files.innermost pp.files.includers.items)
size_pulling Reads pp e = absurd (true-false (sym e))
size_pulling Pulls pp e = refl
size_pulling Ended pp e = absurd (true-false (sym e))
size_pulling (Refused refusal) pp e = absurd (true-false (sym e))

-- a token is given
pub some_given : (names : Texts) (pp : Pp) (run : Stream) (after n : ℕ) (x : Token) → is_pulling pp.stage ≡ true → n ≡ suc (taken_of pp)
    → CallsAll names pp.state.table pp.run run pp.state.budget after (Ok (Some x))
    → KnowsAll names pp.state.table pp.run run → run.end ≡ pp.run.end → run.refused ≡ None → IsPulled (Some x) names pp (pulled_with run after n pp.stage pp)
some_given names pp run after n x pulling count calls knows end none = (
  λ texts rest keeps is.
      subst (λ s. IsFirst x names texts (pulled_with run after n s pp) rest) (sym (stage_pulls pp.stage pulling))
      (pulled_some names texts pp run after x rest keeps calls knows end none (pulls_now pp.stage names texts pp rest pulling is) n count),
  count,
  pulling,
)

pub some_stream : (names : Texts) (pp : Pp) (run : Stream) (after n : ℕ) → is_pulling pp.stage ≡ true → n ≤ max_tokens → IsStream names pp → IsStream names (pulled_with run after n pp.stage pp)
some_stream names pp run after n pulling few s =
    let r = pulling_now pp.stage names pp pulling s.reads in
    subst (λ k. IsStream names (pulled_with run after n k pp)) (sym (stage_pulls pp.stage pulling)) (record { few = few; reads = (record { room = few; has_file = r.0.has_file }, r.1, r.2) })

pub some_size : (pp : Pp) (run : Stream) (after n : ℕ) → is_pulling pp.stage ≡ true → size_by pp.stage (pulled_with run after n pp.stage pp) ≤ size_by pp.stage pp
some_size pp run after n pulling = omega (arith, size_pulling pp.stage (pulled_with run after n pp.stage pp) pulling, size_pulling pp.stage pp pulling)

-- lines are read
pub none_given : (names : Texts) (pp : Pp) (run : Stream) (after : ℕ) → is_pulling pp.stage ≡ true → CallsAll names pp.state.table pp.run run pp.state.budget after (Ok None) → IsStream names pp
    → Stays names names pp (pulled_with run after (taken_of pp) Reads pp)
none_given names pp run after pulling calls s =
    let r = pulling_now pp.stage names pp pulling s.reads in
    stays_pulling names names pp (pulled_with run after (taken_of pp) Reads pp) pulling
    (λ texts rest keeps is. pulled_none names texts pp run after rest keeps calls s.few r.2 (r.1.idle r.2) (pulls_now pp.stage names texts pp rest pulling is)) refl

pub none_stream : (names : Texts) (pp : Pp) (run : Stream) (after : ℕ) → is_pulling pp.stage ≡ true → IsStream names pp → IsStream names (pulled_with run after (taken_of pp) Reads pp)
none_stream names pp run after pulling s =
    let r = pulling_now pp.stage names pp pulling s.reads in
    record {
      few = s.few;
      reads = (record { room = r.0.room; has_file = r.0.has_file }, r.1, ap (λ b. b && not (is_text_line (slice_get pp.files.innermost.lines pp.files.innermost.next))) r.2);
    }

pub none_size : (pp : Pp) (run : Stream) (after : ℕ) → is_pulling pp.stage ≡ true → size_by Reads (pulled_with run after (taken_of pp) Reads pp) ≤ size_by pp.stage pp
none_size pp run after pulling = omega (arith, size_pulling pp.stage pp pulling)

-- the run is refused
pub err_given : (names : Texts) (pp new : Pp) (run : Stream) (after : ℕ) (f : Refusal) → is_pulling pp.stage ≡ true → CallsAll names pp.state.table pp.run run pp.state.budget after (Err f)
    → new.stage ≡ Refused f → taken_of new ≡ taken_of pp → Stays names names pp new
err_given names pp new run after f pulling calls stage count =
    stays_pulling names names pp new pulling
    (λ texts rest keeps is. subst (λ s. RestBy s names texts new rest) (sym stage)
    (pulled_err f names texts pp new run after rest keeps calls (pulls_now pp.stage names texts pp rest pulling is))) count

pub past_given : (names : Texts) (pp new : Pp) (run : Stream) (after : ℕ) (x : Token) (f : Refusal) → is_pulling pp.stage ≡ true → taken_of pp ≡ max_tokens
    → CallsAll names pp.state.table pp.run run pp.state.budget after (Ok (Some x))
    → KnowsAll names pp.state.table pp.run run → run.end ≡ pp.run.end → run.refused ≡ None
    → ((macros : Macros) (texts : Texts) → IsTable names pp.state.table macros → KeepsNumbers names texts → IsGoing names run
    → IsRefusedAt f x.pos (run_left (record { macros = macros; texts = texts }) run after))
    → new.stage ≡ Refused f → taken_of new ≡ taken_of pp → Stays names names pp new
past_given names pp new run after x f pulling full calls knows end none refused stage count =
    stays_pulling names names pp new pulling
    (λ texts rest keeps is. subst (λ s. RestBy s names texts new rest) (sym stage)
    (pulled_past names texts pp run after x rest keeps calls knows end none (pulls_now pp.stage names texts pp rest pulling is) f new full refused)) count

-- ---- the result

pub first_answer : (names after : Texts) (old pp new : Pp) (x : Token) → Stays names after old pp → IsPulled (Some x) after pp new → IsAnswer (Ok (Some x)) names after old new
first_answer names after old pp new x r p = record {
  next = λ texts rest keeps is. p.0 texts rest keeps (r.rest texts rest keeps is);
  taken = p.1 ∙ ap suc r.taken;
  refuses = tt;
  again = λ refusal f. absurd (not_pulling pp refusal (r.still refusal f) p.2);
}

end_next : (stage : Stage) (names texts : Texts) (pp : Pp) (rest : Phase4) → is_reading stage ≡ false → is_pulling stage ≡ false → RestBy stage names texts pp rest → pp.stage ≡ stage
    → IsNext (end_of stage) names texts pp rest
end_next Reads names texts pp rest e p r s = absurd (true-false e)
end_next Pulls names texts pp rest e p r s = absurd (true-false p)
end_next Ended names texts pp rest e p r s = (r, subst (λ k. RestBy k names texts pp rest) (sym s) r)
end_next (Refused Memory) names texts pp rest e p r s = tt
end_next (Refused (At c at)) names texts pp rest e p r s = (r, subst (λ k. RestBy k names texts pp rest) (sym s) r)
end_next (Refused (Told c at n)) names texts pp rest e p r s = (r, subst (λ k. RestBy k names texts pp rest) (sym s) r)

end_taken : (stage : Stage) (n : ℕ) → taken_after (end_of stage) n ≡ n
end_taken Reads n = refl
end_taken Pulls n = refl
end_taken Ended n = refl
end_taken (Refused refusal) n = refl

end_refuses : (stage : Stage) (pp : Pp) → pp.stage ≡ stage → IfErr (end_of stage) (Refuses pp)
end_refuses Reads pp s = tt
end_refuses Pulls pp s = tt
end_refuses Ended pp s = tt
end_refuses (Refused refusal) pp s = record { stage_is = s }

pub end_answer : (names after : Texts) (old pp : Pp) → Stays names after old pp → is_reading pp.stage ≡ false → is_pulling pp.stage ≡ false → IsAnswer (end_of pp.stage) names after old pp
end_answer names after old pp r e p = record {
  next = λ texts rest keeps is. end_next pp.stage after texts pp rest e p (r.rest texts rest keeps is) refl;
  taken = r.taken ∙ sym (end_taken pp.stage (taken_of old));
  refuses = end_refuses pp.stage pp refl;
  again = λ refusal f. ap end_of (r.still refusal f).stage_is;
}
