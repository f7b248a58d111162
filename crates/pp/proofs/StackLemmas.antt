-- Files that wait for those that they include.
use Rattle.std.proofs.Common.{◌≡◌, ◌≤◌, ◌<◌, ◌-◌, ◌+◌, ◌*◌, ◌⊎◌, ℕ, zero, suc, List, [], ◌∷◌, length, drop, false, Result, Ok, Err, OnOk, refl, sym, ap, subst, ◌∙◌, arith}
use Rattle.std.proofs.Math.Nat as nat
use Rattle.srcset.specs.declared.code.Code.{Code}
use Rattle.srcset.specs.declared.refusal.Pos.{Pos}
use Rattle.srcset.specs.declared.refusal.Refusal.{Refusal}
use Rattle.srcset.specs.declared.refusal.Refusal.TheVariants.{Memory, At, Told}
use Rattle.srcset.specs.Files.{Files}
use Rattle.srcset.specs.NameTable.{Texts, KeepsNumbers}
use Rattle.phases.specs.Lines.{scanned}
use Rattle.phases.specs.Token.{Token}
use Rattle.pp_expand.specs.Expands.{HaveFiles}
use Rattle.pp.specs.declared.files.Includer.{Includer}
use Rattle.pp.specs.declared.files.Reading.{Reading}
use Rattle.pp.specs.declared.includes.Source.{Source}
use Rattle.pp.specs.declared.file.OpenFile.{OpenFile}
use Rattle.pp.specs.declared.places.Presumed.{Presumed}
use Rattle.pp.specs.declared.run.Run.{Run}
use Rattle.pp.specs.declared.conditionals.Open.{Open}
use Rattle.pp.specs.declared.state.State.{State as Held}
use Rattle.pp.specs.Lines.{lines_with}
use Rattle.pp.specs.Groups.{Parsed, parsed, groups, in_first}
use Rattle.pp.specs.Phase4.{State, Fault, Outcome, goes, stops, ◌>>=◌, Around, file_done, group_done, number_in, resumed, max_includes, max_tokens}
use Rattle.pp.specs.inside.Guards.{IsPassedOver}
use Rattle.pp.specs.Left.{around_with, left_of, IsReading, AreWaiting, AreStacked, AreOpen, room_of, back_in, goes_on, resumed_all, Left, Stands}
use Rattle.pp.specs.inside.Including.{Waits, IsOpened, weight, lines_left, weighed, size_of}
use Rattle.pp.specs.Rest.{pending, nowhere, rest_done}
use Rattle.pp.specs.Held.{presumed_of, IsGiven, Agrees, IsSound}
use Rattle.pp.specs.inside.Stepping.{Goes, Stops, EndsAs}
use Rattle.pp.proofs.FileLemmas.{stops_then, stops_same, ends_with, stands_first, no_files, true_or_false}
use Rattle.pp.proofs.PhaseLemmas.{begun_in, file_is, scan_stops}
use Rattle.pp.proofs.RestLemmas.{in_none}
use Rattle.pp.proofs.StateLemmas.{still_within}

-- ---- the rest stops

pub stops_on : (set : Files) (texts : Texts) (room : ℕ) (is : List Includer) (given : List _) (f : Fault) → resumed_all set texts room is (stops given f) ≡ stops given f
stops_on set texts room [] given f = refl
stops_on set texts room (i ∷ is) given f = stops_on set texts (suc room) is given f

ends_on : (c : Code) (at : Pos) (text : List ℕ) (given : List Token) (set : Files) (texts : Texts) (room : ℕ) (is : List Includer) (inner o : Outcome State)
    → o ≡ resumed_all set texts room is inner → Stops given c at text inner → Stops given c at text o
ends_on c at text given set texts room is inner o e s = record { stops_is = e ∙ ap (resumed_all set texts room is) s.stops_is ∙ stops_on set texts room is given _ }

pub left_stops : (r : Refusal) (held : ℕ) (names : Texts) (set : Files) (texts : Texts) (room : ℕ) (is : List Includer) (inner o : Outcome State)
    → o ≡ resumed_all set texts room is inner → EndsAs held names r inner → EndsAs held names r o
left_stops Memory held names set texts room is inner o e s = tt
left_stops (At c at) held names set texts room is inner o e s = record { given = s.given; given_is = s.given_is; stops = ends_on c at [] s.given set texts room is inner o e s.stops }
left_stops (Told c at n) held names set texts room is inner o e s = record {
  given = s.given;
  given_is = s.given_is;
  told = record { text = s.told.text; number_is = s.told.number_is; utf8 = s.told.utf8; fault_is = ends_on c at s.told.text s.given set texts room is inner o e s.told.fault_is };
}

-- ---- a file is entered

resumed_then : (set : Files) (texts : Texts) (room : ℕ) (i : Includer) (old : State) (o : Outcome State) → old.presumed ≡ presumed_of i.presumed
    → ((o >>= resumed old) >>= rest_done (around_with room set texts) i.reading.file.conditionals (left_of i.reading)) ≡ (o >>= goes_on set texts room i)
resumed_then set texts room i old (goes s) e = ap (λ p. rest_done (around_with room set texts) i.reading.file.conditionals (left_of i.reading) (record s { presumed = p })) e
resumed_then set texts room i old (stops given f) e = refl

pub first_stands : (names : Texts) (held : Held) (around : Around) (source : Source) (r : Reading) (s : State) (name : List ℕ) → IsOpened source r → number_in around.texts name ≡ source.name
    → Agrees names held (begun_in source.name s)
    → Stands names held r.file.run around r.file.conditionals (left_of r) (file_done around name source.bytes.now s)
first_stands names held around source r s name op n a =
    let ls = lines_with r.lines r.file.ends in
    let whole = file_done around name source.bytes.now s in
    let same = file_is around name source.bytes.now source.name r.lines s n op.lines_are
    ∙ ap (λ (e : List ℕ). group_done around nowhere 0 (groups (lines_with r.lines e)) (begun_in source.name s)) (sym op.ends_are) in
    subst (λ (k : ℕ). Stands names held r.file.run around r.file.conditionals (parsed (drop k ls)) whole) (sym op.fresh.first)
    (subst (λ o. Stands names held r.file.run around r.file.conditionals (parsed ls) o) (sym same)
    (stands_first names held r.file.run around r.file.conditionals ls (begun_in source.name s) op.fresh.begun op.fresh.tokens op.fresh.conditionals a))

abbrev pub includer_of : Reading → Held → Includer
includer_of innermost held = record { reading = innermost; presumed = held.presumed }

abbrev pub begun_held : ℕ → Held → Held
begun_held file held = record held { presumed = record { behind = 0; line = 1; file = file } }

room_less : (max n further : ℕ) → max - n ≡ suc further → max - suc n ≡ further
room_less max n further e = omega (arith, e)

begun_agrees : (names : Texts) (held : Held) (s : State) (file : ℕ) → Agrees names held s → Agrees names (begun_held file held) (begun_in file s)
begun_agrees names held s file a = record { table_is = a.table_is; left_is = a.left_is; given_is = a.given_is; presumed_is = refl }

pub entered_left : (names : Texts) (held : Held) (set : Files) (texts : Texts) (innermost : Reading) (is : List Includer) (source : Source) (made o : Outcome State) (r : Reading)
    → Waits names held innermost.file set texts (room_of is) source (left_of innermost) made → o ≡ resumed_all set texts (room_of is) is made
    → IsOpened source r → Left names (begun_held source.name held) set texts r (includer_of innermost held ∷ is) o
entered_left names held set texts innermost is source made o r w e op =
    let g = w.includes in
    let further = g.enters.further in
    let i = includer_of innermost held in
    let room = room_less max_includes (length is) further g.enters.room_is in
    let inner = file_done (around_with further set texts) g.enters.name source.bytes.now g.after in
    record {
      inner = inner;
      stands = subst (λ n. Stands names (begun_held source.name held) r.file.run (around_with n set texts) r.file.conditionals (left_of r) inner) (sym room)
          (first_stands names (begun_held source.name held) (around_with further set texts) source r g.after g.enters.name op g.enters.number_is (begun_agrees names held g.after source.name g.agrees));
      whole = e
          ∙ ap (resumed_all set texts (room_of is) is) (w.waits ∙ ap (λ k. k >>= rest_done (around_with (room_of is) set texts) innermost.file.conditionals (left_of innermost)) g.includes
          ∙ resumed_then set texts (room_of is) i g.after g.done g.agrees.presumed_is
          ∙ ap (λ k. k >>= goes_on set texts (room_of is) i) g.enters.enters)
          ∙ ap (λ n. resumed_all set texts n is (inner >>= goes_on set texts n i)) g.enters.room_is
          ∙ ap (λ n. resumed_all set texts (suc n) is (inner >>= goes_on set texts (suc n) i)) (sym room);
    }

pub entered_stops : (r : Refusal) (names : Texts) (held : Held) (set : Files) (texts : Texts) (innermost : Reading) (is : List Includer) (source : Source) (made o : Outcome State)
    → Waits names held innermost.file set texts (room_of is) source (left_of innermost) made → o ≡ resumed_all set texts (room_of is) is made
    → (r ≡ Memory) ⊎ (scanned source.name source.bytes.now ≡ Err r) → EndsAs held.given names r o
entered_stops r names held set texts innermost is source made o w e why =
    let g = w.includes in
    let k = rest_done (around_with (room_of is) set texts) innermost.file.conditionals (left_of innermost) in
    let f = file_done (around_with g.enters.further set texts) g.enters.name source.bytes.now g.after in
    left_stops r held.given names set texts (room_of is) is made o e
    (ends_with held.given held.given g.after.given names r made refl g.agrees.given_is
    (stops_same g.after.given names r ((f >>= resumed g.after) >>= k) made (w.waits ∙ ap (λ j. j >>= k) (g.includes ∙ ap (λ j. j >>= resumed g.after) g.enters.enters))
    (stops_then g.after.given r names (f >>= resumed g.after) k (stops_then g.after.given r names f (resumed g.after)
    (scan_stops r names (around_with g.enters.further set texts) g.enters.name source.bytes.now source.name g.after g.enters.number_is why)))))

-- ---- a file goes on

rest_stands : (names : Texts) (held : Held) (run : Run) (around : Around) (os : List Open) (p : Parsed) (s : State) → run.begun ≡ false → run.tokens ≡ [] → Agrees names held s
    → Stands names held run around os p (rest_done around os p s)
rest_stands names held run around os p s begun tokens a = record {
  now = s;
  text = [];
  agrees = a;
  run_is = tokens;
  fresh = λ b. refl;
  active = λ b. absurd (true_or_false run.begun begun b);
  comes_to = ap (λ q. rest_done around os q s) (sym (in_none [] p)) ∙ ap (λ b. rest_done around os (in_first (pending b []) p) s) (sym begun);
}

-- ---- a file is passed over

passed_whole : (old : State) (around : Around) (name bytes : List ℕ) (file : ℕ) → IsPassedOver file bytes old → number_in around.texts name ≡ file
    → (file_done around name bytes old >>= resumed old) ≡ goes old
passed_whole old around name bytes file p n = ap (λ o. o >>= resumed old) (p.nothing around name n)

given_few : (held : ℕ) (given : List Token) → IsGiven held given → held ≤ max_tokens → length given ≤ max_tokens
given_few held given g few = omega (arith, few, g)

pub passed_left : (names : Texts) (held : Held) (set : Files) (texts : Texts) (innermost : Reading) (is : List Includer) (source : Source) (made o : Outcome State)
    → Waits names held innermost.file set texts (room_of is) source (left_of innermost) made → o ≡ resumed_all set texts (room_of is) is made
    → innermost.file.run.begun ≡ false → innermost.file.run.tokens ≡ []
    → ((s : State) → Agrees names held s → length s.given ≤ max_tokens → IsPassedOver source.name source.bytes.now s) → IsSound names held
    → Left names held set texts innermost is o
passed_left names held set texts innermost is source made o w e begun tokens passes sound =
    let g = w.includes in
    let around = around_with (room_of is) set texts in
    let os = innermost.file.conditionals in
    let p = left_of innermost in
    let few = given_few held.given g.after.given g.agrees.given_is sound.room in
    let nothing = ap (λ k. k >>= resumed g.after) g.enters.enters
    ∙ passed_whole g.after (around_with g.enters.further set texts) g.enters.name source.bytes.now source.name (passes g.after g.agrees few) g.enters.number_is in
    record {
      inner = rest_done around os p g.after;
      stands = rest_stands names held innermost.file.run around os p g.after begun tokens g.agrees;
      whole = e ∙ ap (resumed_all set texts (room_of is) is) (w.waits ∙ ap (λ k. k >>= rest_done around os p) (g.includes ∙ nothing));
    }

abbrev pub resumed_held : Includer → Held → Held
resumed_held i held = record held { presumed = i.presumed }

room_more : (max n : ℕ) → suc n ≤ max → suc (max - suc n) ≡ max - n
room_more max n h = omega (arith, h)

pub resumed_left : (names : Texts) (held : Held) (set : Files) (texts : Texts) (innermost : Reading) (i : Includer) (is : List Includer) (inner o : Outcome State)
    → AreStacked names innermost (i ∷ is) → Goes names held inner
    → o ≡ resumed_all set texts (room_of (i ∷ is)) (i ∷ is) inner
    → Left names (resumed_held i held) set texts i.reading is o
resumed_left names held set texts innermost i is inner o open' g e =
    let w = open'.waiting.0 in
    let s = back_in i g.after in
    let n = max_includes - length is in
    let rest = rest_done (around_with n set texts) i.reading.file.conditionals (left_of i.reading) s in
    record {
      inner = rest;
      stands = rest_stands names (resumed_held i held) i.reading.file.run (around_with n set texts) i.reading.file.conditionals (left_of i.reading) s w.begun w.tokens
          (record { table_is = g.agrees.table_is; left_is = g.agrees.left_is; given_is = g.agrees.given_is; presumed_is = refl });
      whole = e ∙ ap (resumed_all set texts (max_includes - suc (length is)) (i ∷ is)) g.goes_is
          ∙ ap (λ n. resumed_all set texts n is (goes_on set texts n i g.after)) (room_more max_includes (length is) open'.few);
    }

-- ---- the files that wait

pub waiting_grows : (names after : Texts) (is : List Includer) → KeepsNumbers names after → AreWaiting names is → AreWaiting after is
waiting_grows names after [] keeps w = tt
waiting_grows names after (i ∷ is) keeps w =
    (record { begun = w.0.begun; tokens = w.0.tokens; has_file = still_within names after i.presumed.file keeps w.0.has_file; reading = w.0.reading }, waiting_grows names after is keeps w.1)

pub resumed_open : (names : Texts) (innermost : Reading) (i : Includer) (is : List Includer) → AreStacked names innermost (i ∷ is) → AreOpen names i.reading is
resumed_open names innermost i is o = record {
  stacked = record { few = omega (arith, o.few); reading = o.waiting.0.reading; waiting = o.waiting.1 };
  has_files = no_files names i.reading.file.run.tokens o.waiting.0.tokens;
  idle = λ b. o.waiting.0.tokens;
}

pub entered_open : (names : Texts) (held : Held) (innermost : Reading) (is : List Includer) (source : Source) (r : Reading) → AreOpen names innermost is → IsSound names held → length is < max_includes
    → innermost.file.run.begun ≡ false → innermost.file.run.tokens ≡ [] → IsOpened source r → AreOpen names r (includer_of innermost held ∷ is)
entered_open names held innermost is source r o sound room begun tokens op = record {
  stacked = record {
    few = omega (arith, room);
    reading = op.fresh.reading;
    waiting = (record { begun = begun; tokens = tokens; has_file = sound.has_file; reading = o.stacked.reading }, o.stacked.waiting);
  };
  has_files = no_files names r.file.run.tokens op.fresh.tokens;
  idle = λ b. op.fresh.tokens;
}

-- whatever became of the run of the innermost
pub ended_stacked : (names : Texts) (r : Reading) (file : OpenFile) (is : List Includer) → AreStacked names r is → AreStacked names (record { lines = r.lines; end = r.end; next = r.next; file = file }) is
ended_stacked names r file is o = record {
  few = o.few;
  reading = record { within = o.reading.within; whole = o.reading.whole; bounded = o.reading.bounded };
  waiting = o.waiting;
}

-- ---- how much is left

weight_positive : (room : ℕ) → 0 < weight room
weight_positive zero = omega arith
weight_positive (suc room) = omega (arith, weight_positive room)

pub left_positive : (r : Reading) → IsReading r → 0 < lines_left r
left_positive r h = omega (arith, h.within)

lines_light : (r : Reading) (room : ℕ) → IsReading r → lines_left r * weight room < weight (suc room)
lines_light r room h = nat.mul-lt-mul_of_pos_right {m = lines_left r} {n = 18446744073709551617} {k = weight room} (omega (arith, h.bounded)) (weight_positive room)

pub resumed_less : (names : Texts) (innermost : Reading) (i : Includer) (is : List Includer) → AreStacked names innermost (i ∷ is)
    → size_of i.reading is < size_of innermost (i ∷ is)
resumed_less names innermost i is o =
    let n = max_includes - suc (length is) in
    let more = nat.mul-lt-mul_of_pos_right {m = 0} {n = lines_left innermost} {k = weight n} (left_positive innermost o.reading) (weight_positive n) in
    subst (λ k. lines_left i.reading * weight k + weighed (suc k) is < lines_left innermost * weight n + (lines_left i.reading * weight (suc n) + weighed (suc (suc n)) is))
    (room_more max_includes (length is) o.few) (omega (arith, more))

pub entered_less : (innermost : Reading) (is : List Includer) (held : Held) (source : Source) (r : Reading) (further : ℕ) → room_of is ≡ suc further → IsOpened source r
    → size_of r (includer_of innermost held ∷ is) < size_of innermost is + weight (room_of is)
entered_less innermost is held source r further e op =
    let room = room_less max_includes (length is) further e in
    subst (λ n. lines_left r * weight n + (lines_left innermost * weight (suc n) + weighed (suc (suc n)) is) < lines_left innermost * weight (room_of is) + weighed (suc (room_of is)) is + weight (room_of is)) (sym room)
    (subst (λ n. lines_left r * weight further + (lines_left innermost * weight (suc further) + weighed (suc (suc further)) is) < lines_left innermost * weight n + weighed (suc n) is + weight n) (sym e)
    (omega (arith, lines_light r further op.fresh.reading)))

-- a line is done
times_suc : (n m p : ℕ) → suc n ≡ m → n * p + p ≡ m * p
times_suc n m p e = omega (arith, ap (λ k. k * p) e)

pub stepped_less : (old new : Reading) (is : List Includer) → new.next ≡ old.next + 1 → new.end ≡ old.end → old.next < old.end
    → size_of new is + weight (room_of is) ≡ size_of old is
stepped_less old new is n e h =
    let less = times_suc (lines_left new) (lines_left old) (weight (room_of is)) (omega (arith, e, n, h)) in
    omega (arith, less)

pub weight_more : (room : ℕ) → 0 < weight room
weight_more room = weight_positive room

pub less_by : (a b w : ℕ) → a + w ≡ b → 0 < w → a < b
less_by a b w e h = omega (arith, e, h)

pub less_with : (a room : ℕ) → a < a + weight room
less_with a room = let h = weight_more room in omega (arith, h)

pub stepped_reading : (old new : Reading) → IsReading old → old.next < old.end → new.next ≡ old.next + 1 → new.end ≡ old.end → new.lines ≡ old.lines → IsReading new
stepped_reading old new r h n e l = record {
  within = omega (arith, h, n, e);
  whole = e ∙ r.whole ∙ ap (λ k. length k) (sym l);
  bounded = omega (arith, e, r.bounded);
}

pub stepped_open : (names after : Texts) (old new : Reading) (is : List Includer) → AreOpen names old is → KeepsNumbers names after → HaveFiles after new.file.run.tokens
    → (new.file.run.begun ≡ false → new.file.run.tokens ≡ []) → IsReading new → AreOpen after new is
stepped_open names after old new is o keeps files idle r = record {
  stacked = record { few = o.stacked.few; reading = r; waiting = waiting_grows names after is keeps o.stacked.waiting };
  has_files = files;
  idle = idle;
}

pub has_place : (max n : ℕ) → 0 < max - n → n < max
has_place max n h = omega (arith, h)

pub less_then : {A : Type 0} (result : Result A Refusal) (a b c : ℕ) → b ≡ c → OnOk result (a < b) → OnOk result (a < c)
less_then (Ok u) a b c e h = omega (arith, e, h)
less_then (Err r) a b c e h = tt

-- ---- the main file

-- a file begins with its own places
pub file_same : (around : Around) (name bytes : List ℕ) (file : ℕ) (s : State) → file_done around name bytes (begun_in file s) ≡ file_done around name bytes s
unfolding file_done
file_same around name bytes file s = refl

pub begun_of : (names : Texts) (held : Held) (p : Presumed) (s : State) (file : ℕ) → p ≡ record { behind = 0; line = 1; file = file } → Agrees names held s
    → Agrees names (record held { presumed = p }) (begun_in file s)
begun_of names held p s file e a = record { table_is = a.table_is; left_is = a.left_is; given_is = a.given_is; presumed_is = ap presumed_of (sym e) }

-- nothing waits for it
pub main_left : (names : Texts) (held : Held) (set : Files) (texts : Texts) (source : Source) (r : Reading) (is : List Includer) (name : List ℕ) (s : State) → is ≡ [] → IsOpened source r
    → number_in texts name ≡ source.name → Agrees names held (begun_in source.name s) → Left names held set texts r is (file_done (around_with max_includes set texts) name source.bytes.now s)
main_left names held set texts source r is name s none op n a =
    let o = file_done (around_with max_includes set texts) name source.bytes.now s in
    subst (λ is. Left names held set texts r is o) (sym none) (record {
      inner = o;
      stands = first_stands names held (around_with max_includes set texts) source r s name op n a;
      whole = refl;
    })

pub main_open : (names : Texts) (source : Source) (r : Reading) (is : List Includer) → is ≡ [] → IsOpened source r → AreOpen names r is
main_open names source r is none op =
    subst (AreOpen names r) (sym none) (record {
      stacked = record { few = omega arith; reading = op.fresh.reading; waiting = tt };
      has_files = no_files names r.file.run.tokens op.fresh.tokens;
      idle = λ b. op.fresh.tokens;
    })
