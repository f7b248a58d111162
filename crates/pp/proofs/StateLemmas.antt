-- The effect of ends of runs and of directives on the state.
use Rattle.std.proofs.Common.{◌≡◌, ◌≤◌, ◌<◌, ℕ, zero, suc, List, [], ◌∷◌, ◌++◌, length, Bool, true, false, Result, Ok, Err, OnOk, IfErr, get_or, drop, take, ◌-◌, arith, slice_index_or, refl, sym, ap, subst, ◌∙◌}
use Rattle.std.specs.Prelude.{codes, if◌then◌else◌, map, ◌&&◌}
use Rattle.std.specs.List.{flat_map}
use Rattle.std.proofs.lemmas.List.{take_all, length-drop}
use Rattle.std.proofs.lemmas.Option.{slice_get_within, slice_get-get_or}
use Rattle.srcset.specs.declared.refusal.Pos.{Pos}
use Rattle.srcset.specs.declared.refusal.Refusal.{Refusal}
use Rattle.srcset.specs.declared.refusal.Refusal.TheVariants.{Memory, At, Told}
use Rattle.srcset.specs.declared.code.Code.{Code}
use Rattle.srcset.specs.declared.code.Code.TheVariants as code
use Rattle.srcset.specs.NameTable.{Texts, KeepsNumbers}
use Rattle.phases.specs.Token.{Token}
use Rattle.macros.specs.Macro.{Macros, is_identifier, is_spelled, is_hash}
use Rattle.macros.specs.Definition.{define, undefine}
use Rattle.macros.specs.Table.{IsTable, Defines, IsDefineRefusal, Undefines, IsUndefineRefusal}
use Rattle.pp_expand.specs.Expansion as expansion
use Rattle.pp_expand.specs.Expansion.{Ending, Known, of_run, of_directive, expanded}
use Rattle.pp_expand.specs.Expands.{HaveFiles, IsExpansion, put_behind}
use Rattle.pp.specs.declared.state.State.{State as Held}
use Rattle.pp.specs.Phase4.{Presumed, printable, State, Outcome, goes, stops, Enter, presume, with_macros, undefined, fails, of_expansion, expand, include_done, line_done, named, directive_by, directive_done, max_tokens}
use Rattle.pp.specs.inside.Including.{is_include}
use Rattle.pp.specs.inside.Pending.{is_directive}
use Rattle.pp.specs.Held.{presumed_of, IsGiven, Agrees, IsSound}
use Rattle.pp.specs.inside.Stepping.{presumed_by, placed, line_with, spaced_out, error_fault, error_done, Gives, GivesFirst, Goes, Stops, StopsAs, Answers, Does}

pub on_ok : {A : Type 0} {P : Type 0} → (result : Result A Refusal) → P → OnOk result P
on_ok (Ok u) p = p
on_ok (Err r) p = tt

-- ---- bounds

-- a number that has a text keeps it
pub still_within : (names after : Texts) (n : ℕ) → KeepsNumbers names after → n < length names → n < length after
still_within names after n keeps h =
    slice_get_within after n (get_or names n []) (keeps n (get_or names n []) (slice_get-get_or names n [] h))

pub still_files : (names after : Texts) (ts : List Token) → KeepsNumbers names after → HaveFiles names ts → HaveFiles after ts
still_files names after ts keeps h i t e = still_within names after t.pos.file keeps (h i t e)

-- files of tokens appended to others
pub append_files : (names : Texts) (xs ys : List Token) → HaveFiles names xs → HaveFiles names ys → HaveFiles names (xs ++ ys)
append_files names [] ys hx hy i t e = hy i t e
append_files names (x ∷ xs) ys hx hy zero t e = hx zero t e
append_files names (x ∷ xs) ys hx hy (suc i) t e = append_files names xs ys (λ j u d. hx (suc j) u d) hy i t e

pub still_sound : (names after : Texts) (held new : Held) → KeepsNumbers names after → IsSound names held
    → new.given ≡ held.given → new.presumed ≡ held.presumed → IsSound after new
still_sound names after held new keeps sound g p = record {
  room = subst (λ v. v ≤ max_tokens) (sym g) sound.room;
  has_file = subst (λ q. q.file < length after) (sym p) (still_within names after held.presumed.file keeps sound.has_file);
}

-- ---- #define and #undef

with_macros_goes : (names after : Texts) (held new : Held) (s : State) (at : Pos) (r : Result Macros Code) (macros : Macros)
    → Agrees names held s → r ≡ Ok macros → IsTable after new.table macros
    → new.budget ≡ held.budget → new.given ≡ held.given → new.presumed ≡ held.presumed
    → Goes after new (with_macros s at r)
with_macros_goes names after held new s at r macros a e t b g p = record {
  after = record s { macros = macros };
  agrees = record {
    table_is = t;
    left_is = a.left_is ∙ sym b;
    given_is = subst (λ v. IsGiven v s.given) (sym g) a.given_is;
    presumed_is = a.presumed_is ∙ ap presumed_of (sym p);
  };
  goes_is = ap (with_macros s at) e;
}

with_macros_stops : (s : State) (at pos : Pos) (r : Result Macros Code) (c : Code) → r ≡ Err c → pos ≡ at → Stops s.given c pos [] (with_macros s at r)
with_macros_stops s at pos r c e p = record {
  stops_is = ap (with_macros s at) e ∙ ap (λ q. stops s.given (record { code = c; at = q; text = [] })) (sym p);
}

pub defines : {A : Type 0} → (result : Result A Refusal) (names after : Texts) (held new : Held) (line : List Token) (at : Pos)
    → OnOk result (Defines names held.table line after new.table)
    → IfErr result (λ r. (macros : Macros) → IsTable names held.table macros → IsDefineRefusal macros line at r)
    → new.budget ≡ held.budget → new.given ≡ held.given → new.presumed ≡ held.presumed
    → (s : State) → Agrees names held s → Answers s.given result after new (with_macros s at (define s.macros line))
defines (Ok u) names after held new line at ok err b g p s a =
    let d = ok s.macros a.table_is in
    with_macros_goes names after held new s at (define s.macros line) d.after a d.defined d.table_is b g p
defines (Err Memory) names after held new line at ok err b g p s a = tt
defines (Err (At c pos)) names after held new line at ok err b g p s a =
    let e = err s.macros a.table_is in with_macros_stops s at pos (define s.macros line) c e.0 e.1
defines (Err (Told c pos text)) names after held new line at ok err b g p s a = absurd (err s.macros a.table_is)

pub undefines : {A : Type 0} → (result : Result A Refusal) (names : Texts) (held new : Held) (name : Token) (at : Pos)
    → OnOk result (Undefines names held.table name new.table)
    → IfErr result (IsUndefineRefusal name at)
    → new.budget ≡ held.budget → new.given ≡ held.given → new.presumed ≡ held.presumed
    → (s : State) → Agrees names held s → Answers s.given result names new (with_macros s at (undefine s.macros name))
undefines (Ok u) names held new name at ok err b g p s a =
    let d = ok s.macros a.table_is in
    with_macros_goes names names held new s at (undefine s.macros name) d.after a d.undefined d.table_is b g p
undefines (Err r) names held new name at ok err b g p s a =
    subst (λ r. StopsAs s.given names r (with_macros s at (undefine s.macros name))) (sym err.refusal_is)
    (with_macros_stops s at at (undefine s.macros name) code.ReservedMacroName (err.undefined s.macros) refl)

-- ---- the end of a run

-- ---- directives

pub if_true : {A : Type 0} (b : Bool) (u v : A) → b ≡ true → (if b then u else v) ≡ u
if_true b u v e = ap (λ c. if c then u else v) e

pub if_false : {A : Type 0} (b : Bool) (u v : A) → b ≡ false → (if b then u else v) ≡ v
if_false b u v e = ap (λ c. if c then u else v) e

-- the form of a line of two tokens or more
two_items : (ts : List Token) (h x : Token) → 2 ≤ length ts → h ≡ slice_index_or ts 0 h → x ≡ slice_index_or ts 1 x → ts ≡ h ∷ x ∷ drop 2 ts
two_items [] h x n p q = absurd (omega (arith, n))
two_items (a ∷ []) h x n p q = absurd (omega (arith, n))
two_items (a ∷ b ∷ ts) h x n p q = ap (λ k. k ∷ b ∷ ts) (sym p) ∙ ap (λ k. h ∷ k ∷ ts) (sym q)

rest_whole : (ts : List Token) → take (length ts - 2) (drop 2 ts) ≡ drop 2 ts
rest_whole ts = take_all (length ts - 2) (drop 2 ts) (omega (arith, length-drop 2 ts))

IsTruth : Bool → Type 0
IsTruth true = Unit {0}
IsTruth false = ⊥

pub true-false : true ≡ false → ⊥
unfolding IsTruth
true-false e = subst IsTruth e tt

-- a line of two tokens and more
pub record Reads (held : Held) (ts : List Token) (h x : Token) (at : Pos) : Type 0 where
  pub long : 2 ≤ length ts
  pub first : h ≡ slice_index_or ts 0 h
  pub second : x ≡ slice_index_or ts 1 x
  pub at_is : at ≡ presumed_by (presumed_of held.presumed) h.pos

pub reads_line : (held : Held) (ts : List Token) (h x : Token) (at : Pos) → Reads held ts h x at → ts ≡ h ∷ x ∷ take (length ts - 2) (drop 2 ts)
reads_line held ts h x at r = two_items ts h x r.long r.first r.second ∙ ap (λ l. h ∷ x ∷ l) (sym (rest_whole ts))

third_fails : (a b c : Bool) → (a && (b && c)) ≡ false → a ≡ true → b ≡ true → c ≡ false
third_fails true true c e ea eb = e
third_fails false b c e ea eb = absurd (true-false (sym ea))
third_fails true false c e ea eb = absurd (true-false (sym eb))

-- a directive that is no #include has another name
pub no_include : (held : Held) (ts : List Token) (h x : Token) (at : Pos) → Reads held ts h x at → is_include ts ≡ false → is_directive ts ≡ true → is_identifier x ≡ true
    → is_spelled (codes "include") x ≡ false
no_include held ts h x at r other hash i =
    let e = reads_line held ts h x at r in
    third_fails (is_hash h) (is_identifier x) (is_spelled (codes "include") x) (sym (ap is_include e) ∙ other) (sym (ap is_directive e) ∙ hash) i

pub directive_as : (texts names : Texts) (enter : Enter) (held : Held) (ts : List Token) (end : ℕ) (h x : Token) (at : Pos) (s : State) → Reads held ts h x at → Agrees names held s
    → directive_done texts enter (line_with ts end) s
    ≡ (if is_identifier x then named texts enter x (presume s (take (length ts - 2) (drop 2 ts))) end at s else fails s code.BadDirective at)
unfolding directive_done
directive_as texts names enter held ts end h x at s r a =
    let e = ap (λ p. presumed_by p h.pos) a.presumed_is ∙ sym r.at_is in
    let rest = take (length ts - 2) (drop 2 ts) in
    ap (λ l. directive_by texts enter (presume s l) end s) (reads_line held ts h x at r)
    ∙ ap (λ p. if is_identifier x then named texts enter x (presume s rest) end p s else fails s code.BadDirective p) e

pub directive_named : {A : Type 0} → (result : Result A Refusal) (texts names after : Texts) (enter : Enter) (held new : Held) (ts : List Token) (end : ℕ) (h x : Token) (at : Pos)
    → Reads held ts h x at → is_identifier x ≡ true
    → Does result names held after new (λ s. named texts enter x (presume s (take (length ts - 2) (drop 2 ts))) end at s)
    → Does result names held after new (directive_done texts enter (line_with ts end))
directive_named result texts names after enter held new ts end h x at r i does s a =
    subst (Answers s.given result after new) (sym (directive_as texts names enter held ts end h x at s r a ∙ if_true (is_identifier x) (named texts enter x (presume s (take (length ts - 2) (drop 2 ts))) end at s) (fails s code.BadDirective at) i)) (does s a)

pub directive_bad : (texts names : Texts) (enter : Enter) (held : Held) (ts : List Token) (end : ℕ) (h x : Token) (at : Pos) (s : State)
    → Reads held ts h x at → is_identifier x ≡ false → Agrees names held s → Stops s.given code.BadDirective at [] (directive_done texts enter (line_with ts end) s)
directive_bad texts names enter held ts end h x at s r i a = record {
  stops_is = directive_as texts names enter held ts end h x at s r a ∙ if_false (is_identifier x) (named texts enter x (presume s (take (length ts - 2) (drop 2 ts))) end at s) (fails s code.BadDirective at) i;
}

alone : (texts : Texts) (enter : Enter) (ts : List Token) (end : ℕ) (s : State) → length ts < 2 → directive_by texts enter (presume s ts) end s ≡ goes s
alone texts enter [] end s n = refl
alone texts enter (h ∷ []) end s n = refl
alone texts enter (h ∷ x ∷ ts) end s n = absurd (omega (arith, n))

pub does_alone : (texts names : Texts) (enter : Enter) (held : Held) (ts : List Token) (end : ℕ) (s : State)
    → length ts < 2 → Agrees names held s → Goes names held (directive_done texts enter (line_with ts end) s)
unfolding directive_done
does_alone texts names enter held ts end s n a = record { after = s; agrees = a; goes_is = alone texts enter ts end s n }

-- ---- directives by their names

-- the names that come before this one are not it
named_else : (texts : Texts) (enter : Enter) (x : Token) (xs : List Token) (end : ℕ) (at : Pos) (s : State) → is_spelled (codes "define") x ≡ false → is_spelled (codes "undef") x ≡ false → is_spelled (codes "include") x ≡ false
    → named texts enter x xs end at s
    ≡ (if is_spelled (codes "line") x then line_done texts end at xs s
    else if is_spelled (codes "error") x then stops s.given (error_fault at xs)
    else if is_spelled (codes "pragma") x then goes s
    else fails s code.BadDirective at)
named_else texts enter x xs end at s d u i =
    let l = if is_spelled (codes "line") x then line_done texts end at xs s
    else if is_spelled (codes "error") x then stops s.given (error_fault at xs)
    else if is_spelled (codes "pragma") x then goes s
    else fails s code.BadDirective at in
    let k = if is_spelled (codes "include") x then include_done texts enter at xs s else l in
    let j = if is_spelled (codes "undef") x then undefined s at xs else k in
    if_false (is_spelled (codes "define") x) (with_macros s at (define s.macros xs)) j d
    ∙ if_false (is_spelled (codes "undef") x) (undefined s at xs) k u
    ∙ if_false (is_spelled (codes "include") x) (include_done texts enter at xs s) l i

after_define : Texts → Enter → Token → List Token → ℕ → Pos → State → Outcome State
after_define texts enter x xs end at s =
    if is_spelled (codes "undef") x then undefined s at xs
    else if is_spelled (codes "include") x then include_done texts enter at xs s
    else if is_spelled (codes "line") x then line_done texts end at xs s
    else if is_spelled (codes "error") x then stops s.given (error_fault at xs)
    else if is_spelled (codes "pragma") x then goes s
    else fails s code.BadDirective at

after_undef : Texts → Enter → Token → List Token → ℕ → Pos → State → Outcome State
after_undef texts enter x xs end at s =
    if is_spelled (codes "include") x then include_done texts enter at xs s
    else if is_spelled (codes "line") x then line_done texts end at xs s
    else if is_spelled (codes "error") x then stops s.given (error_fault at xs)
    else if is_spelled (codes "pragma") x then goes s
    else fails s code.BadDirective at

after_line : Token → List Token → Pos → State → Outcome State
after_line x xs at s =
    if is_spelled (codes "error") x then stops s.given (error_fault at xs)
    else if is_spelled (codes "pragma") x then goes s
    else fails s code.BadDirective at

after_error : Token → Pos → State → Outcome State
after_error x at s = if is_spelled (codes "pragma") x then goes s else fails s code.BadDirective at

pub named_define : (texts : Texts) (enter : Enter) (x : Token) (xs : List Token) (end : ℕ) (at : Pos) (s : State) → is_spelled (codes "define") x ≡ true
    → named texts enter x xs end at s ≡ with_macros s at (define s.macros xs)
unfolding after_define
named_define texts enter x xs end at s d = if_true (is_spelled (codes "define") x) (with_macros s at (define s.macros xs)) (after_define texts enter x xs end at s) d

pub named_undef : (texts : Texts) (enter : Enter) (x : Token) (xs : List Token) (end : ℕ) (at : Pos) (s : State) → is_spelled (codes "define") x ≡ false → is_spelled (codes "undef") x ≡ true
    → named texts enter x xs end at s ≡ undefined s at xs
unfolding after_define after_undef
named_undef texts enter x xs end at s d u =
    if_false (is_spelled (codes "define") x) (with_macros s at (define s.macros xs)) (after_define texts enter x xs end at s) d
    ∙ if_true (is_spelled (codes "undef") x) (undefined s at xs) (after_undef texts enter x xs end at s) u

pub named_line : (texts : Texts) (enter : Enter) (x : Token) (xs : List Token) (end : ℕ) (at : Pos) (s : State) → is_spelled (codes "define") x ≡ false → is_spelled (codes "undef") x ≡ false → is_spelled (codes "include") x ≡ false
    → is_spelled (codes "line") x ≡ true → named texts enter x xs end at s ≡ line_done texts end at xs s
unfolding after_line
named_line texts enter x xs end at s d u i l =
    named_else texts enter x xs end at s d u i ∙ if_true (is_spelled (codes "line") x) (line_done texts end at xs s) (after_line x xs at s) l

pub named_error : (texts : Texts) (enter : Enter) (x : Token) (xs : List Token) (end : ℕ) (at : Pos) (s : State) → is_spelled (codes "define") x ≡ false → is_spelled (codes "undef") x ≡ false → is_spelled (codes "include") x ≡ false
    → is_spelled (codes "line") x ≡ false → is_spelled (codes "error") x ≡ true → named texts enter x xs end at s ≡ stops s.given (error_fault at xs)
unfolding after_line after_error
named_error texts enter x xs end at s d u i l e =
    named_else texts enter x xs end at s d u i ∙ if_false (is_spelled (codes "line") x) (line_done texts end at xs s) (after_line x xs at s) l
    ∙ if_true (is_spelled (codes "error") x) (stops s.given (error_fault at xs)) (after_error x at s) e

named_last : (texts : Texts) (enter : Enter) (x : Token) (xs : List Token) (end : ℕ) (at : Pos) (s : State) → is_spelled (codes "define") x ≡ false → is_spelled (codes "undef") x ≡ false → is_spelled (codes "include") x ≡ false
    → is_spelled (codes "line") x ≡ false → is_spelled (codes "error") x ≡ false → named texts enter x xs end at s ≡ after_error x at s
unfolding after_line after_error
named_last texts enter x xs end at s d u i l e =
    named_else texts enter x xs end at s d u i ∙ if_false (is_spelled (codes "line") x) (line_done texts end at xs s) (after_line x xs at s) l
    ∙ if_false (is_spelled (codes "error") x) (stops s.given (error_fault at xs)) (after_error x at s) e

pub named_pragma : (texts names : Texts) (held : Held) (enter : Enter) (x : Token) (xs : List Token) (end : ℕ) (at : Pos) (s : State) → is_spelled (codes "define") x ≡ false → is_spelled (codes "undef") x ≡ false → is_spelled (codes "include") x ≡ false
    → is_spelled (codes "line") x ≡ false → is_spelled (codes "error") x ≡ false → is_spelled (codes "pragma") x ≡ true → Agrees names held s
    → Goes names held (named texts enter x xs end at s)
unfolding after_error
named_pragma texts names held enter x xs end at s d u i l e p a = record {
  after = s;
  agrees = a;
  goes_is = named_last texts enter x xs end at s d u i l e ∙ if_true (is_spelled (codes "pragma") x) (goes s) (fails s code.BadDirective at) p;
}

pub named_bad : (texts : Texts) (enter : Enter) (x : Token) (xs : List Token) (end : ℕ) (at : Pos) (s : State) → is_spelled (codes "define") x ≡ false → is_spelled (codes "undef") x ≡ false → is_spelled (codes "include") x ≡ false
    → is_spelled (codes "line") x ≡ false → is_spelled (codes "error") x ≡ false → is_spelled (codes "pragma") x ≡ false
    → Stops s.given code.BadDirective at [] (named texts enter x xs end at s)
unfolding after_error
named_bad texts enter x xs end at s d u i l e p = record {
  stops_is = named_last texts enter x xs end at s d u i l e ∙ if_false (is_spelled (codes "pragma") x) (goes s) (fails s code.BadDirective at) p;
}

-- the text of an #error does not depend on places
placed_text : (p : Presumed) (xs : List Token) → flat_map spaced_out (placed p xs) ≡ flat_map spaced_out xs
placed_text p [] = refl
placed_text p (x ∷ xs) = ap (λ l. spaced_out x ++ l) (placed_text p xs)

pub error_placed : (at : Pos) (p : Presumed) (xs : List Token) → error_fault at (placed p xs) ≡ error_fault at xs
error_placed at p xs = ap (λ l. record { code = code.ErrorDirective; at = at; text = take 200 (map printable l) }) (placed_text p xs)

-- ---- the operand of #undef

pub one_item : (ts : List Token) (x : Token) → 1 ≤ length ts → length ts < 2 → x ≡ slice_index_or ts 0 x → ts ≡ x ∷ []
one_item [] x n m p = absurd (omega (arith, n))
one_item (a ∷ []) x n m p = ap (λ k. k ∷ []) (sym p)
one_item (a ∷ b ∷ ts) x n m p = absurd (omega (arith, m))

pub does_undefine : {A : Type 0} → (result : Result A Refusal) (names after : Texts) (held new : Held) (ts : List Token) (x : Token) (at : Pos) (s : State)
    → 1 ≤ length ts → length ts < 2 → x ≡ slice_index_or ts 0 x → is_identifier x ≡ true
    → Answers s.given result after new (with_macros s at (undefine s.macros x)) → Answers s.given result after new (undefined s at (presume s ts))
does_undefine result names after held new ts x at s n m p i answers =
    subst (Answers s.given result after new)
    (sym (ap (λ k. undefined s at (presume s k)) (one_item ts x n m p) ∙ if_true (is_identifier x) (with_macros s at (undefine s.macros x)) (fails s code.BadDirective at) i))
    answers

-- ---- the tokens of a directive

expand_is : (texts names : Texts) (xs : List Token) (held : Held) (s : State) (r : Result (List Token × ℕ) expansion.Fault)
    → Agrees names held s → expanded (record { macros = s.macros; texts = texts }) xs of_directive held.budget ≡ r
    → expand texts xs of_directive s ≡ of_expansion s r
expand_is texts names xs held s r a e =
    let known : Known = record { macros = s.macros; texts = texts } in
    ap (λ r. of_expansion s r) (ap (λ n. expanded known xs of_directive n) a.left_is ∙ e)

pub expand_gives : (texts names : Texts) (xs list : List Token) (held new : Held) (s : State)
    → Agrees names held s → expanded (record { macros = s.macros; texts = texts }) xs of_directive held.budget ≡ Ok (list, new.budget)
    → new.table ≡ held.table → new.given ≡ held.given → new.presumed ≡ held.presumed
    → Gives list names new (expand texts xs of_directive s)
expand_gives texts names xs list held new s a e t g p = record {
  after = record s { left = new.budget };
  agrees = record {
    table_is = subst (λ n. IsTable names n s.macros) (sym t) a.table_is;
    left_is = refl;
    given_is = subst (λ v. IsGiven v s.given) (sym g) a.given_is;
    presumed_is = a.presumed_is ∙ ap presumed_of (sym p);
  };
  gives_is = expand_is texts names xs held s (Ok (list, new.budget)) a e;
}

first_of : (most : ℕ) (before list : List Token) → before ≡ [] → put_behind most before list ≡ take most list
first_of most before list none =
    ap (λ b. put_behind most b list) none ∙ ap (λ n. take n list) (less_none most)
  where
    less_none : (n : ℕ) → n - 0 ≡ n
    less_none n = omega arith

pub expand_gives_first : (texts names : Texts) (xs : List Token) (most : ℕ) (before first list : List Token) (held new : Held) (s : State)
    → Agrees names held s → expanded (record { macros = s.macros; texts = texts }) xs of_directive held.budget ≡ Ok (list, new.budget)
    → before ≡ [] → first ≡ put_behind most before list → new.table ≡ held.table → new.given ≡ held.given → new.presumed ≡ held.presumed
    → GivesFirst most first names new (expand texts xs of_directive s)
expand_gives_first texts names xs most before first list held new s a e none f t g p = record {
  whole = list;
  gives = expand_gives texts names xs list held new s a e t g p;
  first_is = f ∙ first_of most before list none;
}

pub expand_stops : (refusal : Refusal) (texts names : Texts) (xs : List Token) (held : Held) (left : ℕ) (s : State)
    → Agrees names held s → IsExpansion (Err refusal) held.budget left (expanded (record { macros = s.macros; texts = texts }) xs of_directive held.budget)
    → StopsAs s.given names refusal (expand texts xs of_directive s)
expand_stops Memory texts names xs held left s a e = tt
expand_stops (At c pos) texts names xs held left s a e = record {
  stops_is = expand_is texts names xs held s (Err (record { code = c; at = pos })) a e.0;
}
expand_stops (Told c pos text) texts names xs held left s a e = absurd e

given_of : State → Outcome (List Token × State) → List Token
given_of s (goes a) = a.1.given
given_of s (stops given f) = s.given

IsGoing : Outcome (List Token × State) → Type 0
IsGoing (goes a) = Unit {0}
IsGoing (stops given f) = ⊥

expansion_given : (s : State) (r : Result (List Token × ℕ) expansion.Fault) (a : List Token × State) → of_expansion s r ≡ goes a → a.1.given ≡ s.given
unfolding given_of IsGoing
expansion_given s (Ok b) a e = sym (ap (λ (o : Outcome (List Token × State)). given_of s o) e)
expansion_given s (Err f) a e = absurd (subst IsGoing (sym e) tt)

-- the expansion of a directive is not given
pub expand_given : (texts : Texts) (xs : List Token) (ending : Ending) (s : State) (a : List Token × State) → expand texts xs ending s ≡ goes a → a.1.given ≡ s.given
expand_given texts xs ending s a e = expansion_given s (expanded (record { macros = s.macros; texts = texts }) xs ending s.left) a e

pub error_is : (texts : Texts) (names : Texts) (r : Refusal) (enter : Enter) (x : Token) (raw : List Token) (end : ℕ) (at : Pos) (s : State) → is_spelled (codes "define") x ≡ false → is_spelled (codes "undef") x ≡ false → is_spelled (codes "include") x ≡ false
    → is_spelled (codes "line") x ≡ false → is_spelled (codes "error") x ≡ true
    → StopsAs s.given names r (error_done at raw s) → StopsAs s.given names r (named texts enter x (presume s raw) end at s)
error_is texts names r enter x raw end at s d u i l e st =
    subst (StopsAs s.given names r) (sym (named_error texts enter x (presume s raw) end at s d u i l e ∙ ap (λ f. stops s.given f) (error_placed at s.presumed raw))) st
