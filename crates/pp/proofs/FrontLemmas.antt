-- Tokens that were given stay given: each step of phase 4 appends to them.
use Rattle.std.proofs.Common.{◌≡◌, ℕ, zero, suc, List, [], ◌∷◌, ◌++◌, length, Bool, true, false, Option, Some, None, Result, Ok, Err, refl, sym, ap, subst, ◌∙◌}
use Rattle.std.specs.Prelude.{nat_le, nat_lt, slice_get, codes, if◌then◌else◌, ◌&&◌, not}
use Rattle.srcset.specs.declared.refusal.Pos.{Pos}
use Rattle.srcset.specs.declared.refusal.Refusal.{Refusal}
use Rattle.srcset.specs.declared.refusal.Refusal.TheVariants.{Memory, At, Told}
use Rattle.srcset.specs.declared.code.Code.{Code}
use Rattle.srcset.specs.declared.code.Code.TheVariants as code
use Rattle.srcset.specs.Files.{Files}
use Rattle.srcset.specs.NameTable.{Texts}
use Rattle.phases.specs.Token.{Token}
use Rattle.macros.specs.Macro.{Macros, is_identifier, is_spelled}
use Rattle.macros.specs.Definition.{define, undefine}
use Rattle.pp_cond.specs.Condition.{holds}
use Rattle.pp_expand.specs.Expansion as expansion
use Rattle.pp_expand.specs.Expansion.{Ending, of_run, of_directive, Known, expanded}
use Rattle.pp.specs.declared.conditionals.BranchState.{BranchState}
use Rattle.pp.specs.declared.conditionals.BranchState.TheVariants.{Waiting, Taken, Past, Skipped}
use Rattle.pp.specs.declared.conditionals.Open.{Open}
use Rattle.pp.specs.declared.files.Includer.{Includer}
use Rattle.pp.specs.Lines.{Line, lines_of}
use Rattle.pp.specs.Groups.{Group, ends, run, directive, section, open_section, missing_end, unbalanced, Branches, no_branch, branch, Role, of_text, opens, divides, closes, stands_alone, role_of, is_else, place_of, Parsed, to_end, to_line, ended_by, groups}
use Rattle.pp.specs.Phase4.{Fault, State, Outcome, goes, stops, ◌>>=◌, fails, Enter, Around, ending_of, presume, presumed_at, of_expansion, expand, first_past, give, run_done, with_macros, undefined, resumed, is_plain_string, include_made, is_header_kind, include_named, include_done, is_line_number, is_file_text, inside, number_in, numbered, line_made, line_done, error_text, named, directive_by, directive_done, defined_resolved, of_truth, condition_by, is_macro, macro_asked, else_asked, asked, branch_by, branch_taken, else_checked, end_checked, first_line, unless_fault, skipped, max_conditionals, max_tokens, nested_done, taken_or_skipped, group_done, branches_done, branches_left, refused, lines_done, file_done, file_meant, entered_by, entered}
use Rattle.pp.specs.Left.{around_with, left_of, back_in, goes_on, resumed_all}
use Rattle.pp.specs.Rest.{nowhere, within, taken_if, to_branch, next_branch, closed_by, open_at, divided, behind_group, rest_done}

-- ---- fronts

pub record Front (front whole : List Token) : Type 0 where
  pub more : List Token
  pub whole_is : whole ≡ front ++ more

append_nothing : (xs : List Token) → xs ≡ xs ++ []
append_nothing [] = refl
append_nothing (x ∷ xs) = ap (λ l. x ∷ l) (append_nothing xs)

append_append : (xs ys zs : List Token) → (xs ++ ys) ++ zs ≡ xs ++ (ys ++ zs)
append_append [] ys zs = refl
append_append (x ∷ xs) ys zs = ap (λ l. x ∷ l) (append_append xs ys zs)

front_same : (xs : List Token) → Front xs xs
front_same xs = record { more = []; whole_is = append_nothing xs }

front_through : (xs ys zs : List Token) → Front xs ys → Front ys zs → Front xs zs
front_through xs ys zs f g = record { more = f.more ++ g.more; whole_is = g.whole_is ∙ ap (λ l. l ++ g.more) f.whole_is ∙ append_append xs f.more g.more }

-- an outcome gives these first, and more
OnFront : {A : Type 0} → (A → List Token) → List Token → Outcome A → Type 0
OnFront given_by front (goes x) = Front front (given_by x)
OnFront given_by front (stops given fault) = Front front given

abbrev by_state : State → List Token
by_state s = s.given

abbrev by_pair : {Y : Type 0} → Y × State → List Token
by_pair r = r.1.given

abbrev GivesMore : List Token → Outcome State → Type 0
GivesMore front o = OnFront by_state front o

abbrev PairGivesMore : {Y : Type 0} → List Token → Outcome (Y × State) → Type 0
PairGivesMore front o = OnFront by_pair front o

through : {A : Type 0} → (given_by : A → List Token) (xs ys : List Token) (o : Outcome A) → Front xs ys → OnFront given_by ys o → OnFront given_by xs o
unfolding OnFront
through given_by xs ys (goes x) f h = front_through xs ys (given_by x) f h
through given_by xs ys (stops given fault) f h = front_through xs ys given f h

then_more : {A B : Type 0} → (by_a : A → List Token) (by_b : B → List Token) (front : List Token) (o : Outcome A) (f : A → Outcome B)
    → OnFront by_a front o → ((x : A) → OnFront by_b (by_a x) (f x)) → OnFront by_b front (o >>= f)
unfolding OnFront
then_more by_a by_b front (goes x) f h each = through by_b front (by_a x) (f x) h (each x)
then_more by_a by_b front (stops given fault) f h each = h

if_more : {A : Type 0} → (given_by : A → List Token) (front : List Token) (b : Bool) (u v : Outcome A) → OnFront given_by front u → OnFront given_by front v → OnFront given_by front (if b then u else v)
if_more given_by front true u v hu hv = hu
if_more given_by front false u v hu hv = hv

goes_same : (s : State) → GivesMore s.given (goes s)
unfolding OnFront
goes_same s = front_same s.given

stops_same : {A : Type 0} → (given_by : A → List Token) (given : List Token) (f : Fault) → OnFront given_by given (stops given f)
unfolding OnFront
stops_same given_by given f = front_same given

pair_same : {Y : Type 0} → (y : Y) (s : State) → PairGivesMore s.given (goes (y, s))
unfolding OnFront
pair_same y s = front_same s.given

-- ---- runs and directives

expansion_more : (s : State) (r : Result (List Token × ℕ) expansion.Fault) → PairGivesMore s.given (of_expansion s r)
unfolding OnFront
expansion_more s (Ok a) = front_same s.given
expansion_more s (Err f) = front_same s.given

past_more : (o : Option Token) (list : List Token) (old s : State) → GivesMore old.given (first_past o (old.given ++ list) old s)
unfolding OnFront
past_more None list old s = record { more = list; whole_is = refl }
past_more (Some x) list old s = front_same old.given

given_more : (s : State) (r : Result (List Token × ℕ) expansion.Fault) → GivesMore s.given (of_expansion s r >>= give s)
unfolding OnFront
given_more s (Ok a) = past_more (slice_get (s.given ++ a.0) max_tokens) a.0 s (record s { left = a.1 })
given_more s (Err f) = front_same s.given

run_more : (texts : Texts) (xs : List Token) (s : State) → GivesMore s.given (run_done texts xs s)
unfolding run_done
run_more texts xs s = given_more s (expanded (record { macros = s.macros; texts = texts }) (presume s xs) of_run s.left)

macros_more : (s : State) (at : Pos) (r : Result Macros Code) → GivesMore s.given (with_macros s at r)
unfolding OnFront
macros_more s at (Ok macros) = front_same s.given
macros_more s at (Err c) = front_same s.given

undefined_more : (s : State) (at : Pos) (xs : List Token) → GivesMore s.given (undefined s at xs)
undefined_more s at [] = stops_same by_state s.given _
undefined_more s at (x ∷ []) = if_more by_state s.given (is_identifier x) (with_macros s at (undefine s.macros x)) (fails s code.BadDirective at) (macros_more s at (undefine s.macros x)) (stops_same by_state s.given _)
undefined_more s at (x ∷ y ∷ xs) = stops_same by_state s.given _

abbrev Enters : Enter → Type 0
Enters enter = (name : List ℕ) (at : Pos) (s : State) → GivesMore s.given (enter name at s)

back_more : (old s : State) → GivesMore s.given (resumed old s)
unfolding OnFront
back_more old s = front_same s.given

resumed_more : (enter : Enter) → Enters enter → (name : List ℕ) (at : Pos) (s : State) → GivesMore s.given (enter name at s >>= resumed s)
resumed_more enter h name at s = then_more by_state by_state s.given (enter name at s) (resumed s) (h name at s) (λ x. back_more s x)

made_more : (enter : Enter) → Enters enter → (at : Pos) (xs : List Token) (s : State) → GivesMore s.given (include_made enter at (xs, s))
made_more enter h at [] s = stops_same by_state s.given _
made_more enter h at (x ∷ []) s = if_more by_state s.given (is_plain_string x) (enter x.spelling at s >>= resumed s) (fails s code.BadDirective at) (resumed_more enter h x.spelling at s) (stops_same by_state s.given _)
made_more enter h at (x ∷ y ∷ xs) s = stops_same by_state s.given _

header_more : (enter : Enter) → Enters enter → (at : Pos) (xs : List Token) (s : State) → GivesMore s.given (include_named enter at xs s)
header_more enter h at [] s = stops_same by_state s.given _
header_more enter h at (x ∷ []) s = resumed_more enter h x.spelling at s
header_more enter h at (x ∷ y ∷ xs) s = stops_same by_state s.given _

expand_more : (texts : Texts) (xs : List Token) (ending : Ending) (s : State) → PairGivesMore s.given (expand texts xs ending s)
expand_more texts xs ending s = expansion_more s (expanded (record { macros = s.macros; texts = texts }) xs ending s.left)

include_more : (texts : Texts) (enter : Enter) → Enters enter → (at : Pos) (xs : List Token) (s : State) → GivesMore s.given (include_done texts enter at xs s)
unfolding include_done
include_more texts enter h at [] s = stops_same by_state s.given _
include_more texts enter h at (x ∷ xs) s =
    if_more by_state s.given (is_header_kind x.kind) (include_named enter at (x ∷ xs) s) (expand texts (x ∷ xs) of_directive s >>= include_made enter at)
    (header_more enter h at (x ∷ xs) s)
    (then_more by_pair by_state s.given (expand texts (x ∷ xs) of_directive s) (include_made enter at) (expand_more texts (x ∷ xs) of_directive s) (λ r. made_more enter h at r.0 r.1))

numbered_more : (end : ℕ) (digits : List ℕ) (file : ℕ) (s : State) → GivesMore s.given (numbered end digits file s)
unfolding OnFront
numbered_more end digits file s = front_same s.given

line_made_more : (texts : Texts) (end : ℕ) (at : Pos) (xs : List Token) (s : State) → GivesMore s.given (line_made texts end at (xs, s))
line_made_more texts end at [] s = stops_same by_state s.given _
line_made_more texts end at (n ∷ []) s =
    if_more by_state s.given (is_line_number n.spelling) (numbered end n.spelling s.presumed.file s) (fails s code.BadLineDirective at) (numbered_more end n.spelling s.presumed.file s) (stops_same by_state s.given _)
line_made_more texts end at (n ∷ f ∷ []) s =
    if_more by_state s.given (is_line_number n.spelling && is_file_text f) (numbered end n.spelling (number_in texts (inside f.spelling)) s) (fails s code.BadLineDirective at)
    (numbered_more end n.spelling (number_in texts (inside f.spelling)) s) (stops_same by_state s.given _)
line_made_more texts end at (n ∷ f ∷ g ∷ xs) s = stops_same by_state s.given _

line_more : (texts : Texts) (end : ℕ) (at : Pos) (xs : List Token) (s : State) → GivesMore s.given (line_done texts end at xs s)
unfolding line_done
line_more texts end at xs s =
    then_more by_pair by_state s.given (expand texts xs of_directive s) (line_made texts end at) (expand_more texts xs of_directive s) (λ r. line_made_more texts end at r.0 r.1)

named_more : (texts : Texts) (enter : Enter) → Enters enter → (name : Token) (xs : List Token) (end : ℕ) (at : Pos) (s : State) → GivesMore s.given (named texts enter name xs end at s)
named_more texts enter h name xs end at s =
    let bad = fails s code.BadDirective at in
    let pragma = if is_spelled (codes "pragma") name then goes s else bad in
    let error = if is_spelled (codes "error") name then stops s.given (record { code = code.ErrorDirective; at = at; text = error_text xs }) else pragma in
    let line = if is_spelled (codes "line") name then line_done texts end at xs s else error in
    let include = if is_spelled (codes "include") name then include_done texts enter at xs s else line in
    let undef = if is_spelled (codes "undef") name then undefined s at xs else include in
    if_more by_state s.given (is_spelled (codes "define") name) (with_macros s at (define s.macros xs)) undef (macros_more s at (define s.macros xs))
    (if_more by_state s.given (is_spelled (codes "undef") name) (undefined s at xs) include (undefined_more s at xs)
    (if_more by_state s.given (is_spelled (codes "include") name) (include_done texts enter at xs s) line (include_more texts enter h at xs s)
    (if_more by_state s.given (is_spelled (codes "line") name) (line_done texts end at xs s) error (line_more texts end at xs s)
    (if_more by_state s.given (is_spelled (codes "error") name) (stops s.given (record { code = code.ErrorDirective; at = at; text = error_text xs })) pragma (stops_same by_state s.given _)
    (if_more by_state s.given (is_spelled (codes "pragma") name) (goes s) bad (goes_same s) (stops_same by_state s.given _))))))

by_more : (texts : Texts) (enter : Enter) → Enters enter → (xs : List Token) (end : ℕ) (s : State) → GivesMore s.given (directive_by texts enter xs end s)
by_more texts enter h [] end s = goes_same s
by_more texts enter h (x ∷ []) end s = goes_same s
by_more texts enter h (x ∷ y ∷ xs) end s =
    if_more by_state s.given (is_identifier y) (named texts enter y xs end x.pos s) (fails s code.BadDirective x.pos) (named_more texts enter h y xs end x.pos s) (stops_same by_state s.given _)

directive_more : (texts : Texts) (enter : Enter) → Enters enter → (l : Line) (s : State) → GivesMore s.given (directive_done texts enter l s)
unfolding directive_done
directive_more texts enter h l s = by_more texts enter h (presume s l.tokens) l.end s

-- ---- conditions

truth_more : (s : State) (at : Pos) (r : Result Bool Code) → PairGivesMore s.given (of_truth s at r)
unfolding OnFront
truth_more s at (Ok b) = front_same s.given
truth_more s at (Err c) = front_same s.given

condition_more : (texts : Texts) (at : Pos) (o : Option (List Token)) (s : State) → PairGivesMore s.given (condition_by texts at o s)
condition_more texts at None s = stops_same by_pair s.given _
condition_more texts at (Some xs) s =
    then_more by_pair by_pair s.given (expand texts xs of_directive s) (λ r. of_truth r.1 at (holds r.0)) (expand_more texts xs of_directive s) (λ r. truth_more r.1 at (holds r.0))

macro_more : (wanted : Bool) (at : Pos) (xs : List Token) (s : State) → PairGivesMore s.given (macro_asked wanted at xs s)
macro_more wanted at [] s = stops_same by_pair s.given _
macro_more wanted at (x ∷ []) s =
    let answer = if is_macro s x.spelling then wanted else not wanted in
    if_more by_pair s.given (is_identifier x) (goes (answer, s)) (fails s code.BadDirective at) (pair_same answer s) (stops_same by_pair s.given _)
macro_more wanted at (x ∷ y ∷ xs) s = stops_same by_pair s.given _

else_more : (at : Pos) (xs : List Token) (s : State) → PairGivesMore s.given (else_asked at xs s)
else_more at [] s = pair_same true s
else_more at (x ∷ xs) s = stops_same by_pair s.given _

asked_more : (texts : Texts) (name : Token) (at : Pos) (xs : List Token) (s : State) → PairGivesMore s.given (asked texts name at xs s)
asked_more texts name at xs s =
    let condition = condition_by texts at (defined_resolved 0 s xs) s in
    let other = if is_spelled (codes "else") name then else_asked at xs s else condition in
    let ifndef = if is_spelled (codes "ifndef") name then macro_asked false at xs s else other in
    if_more by_pair s.given (is_spelled (codes "ifdef") name) (macro_asked true at xs s) ifndef (macro_more true at xs s)
    (if_more by_pair s.given (is_spelled (codes "ifndef") name) (macro_asked false at xs s) other (macro_more false at xs s)
    (if_more by_pair s.given (is_spelled (codes "else") name) (else_asked at xs s) condition (else_more at xs s) (condition_more texts at (defined_resolved 0 s xs) s)))

branch_more : (texts : Texts) (xs : List Token) (s : State) → PairGivesMore s.given (branch_by texts xs s)
branch_more texts [] s = pair_same false s
branch_more texts (x ∷ []) s = pair_same false s
branch_more texts (x ∷ y ∷ xs) s = asked_more texts y x.pos xs s

taken_more : (texts : Texts) (l : Line) (s : State) → PairGivesMore s.given (branch_taken texts l s)
unfolding branch_taken
taken_more texts l s = branch_more texts (presume s l.tokens) s

checked_more : (l : Line) (s : State) → GivesMore s.given (else_checked l s)
checked_more l s = if_more by_state s.given (is_else l.tokens && nat_lt 2 (length l.tokens)) (fails s code.BadDirective (presumed_at s (place_of l.tokens))) (goes s) (stops_same by_state s.given _) (goes_same s)

end_more : (l : Line) (s : State) → GivesMore s.given (end_checked l s)
end_more l s = if_more by_state s.given (nat_lt 2 (length l.tokens)) (fails s code.BadDirective (presumed_at s (place_of l.tokens))) (goes s) (stops_same by_state s.given _) (goes_same s)

-- ---- groups

unless_more : (o : Option Fault) (s : State) → GivesMore s.given (unless_fault o s)
unless_more None s = goes_same s
unless_more (Some f) s = stops_same by_state s.given f

nested_more : (depth : ℕ) (at : Pos) (s : State) (rest : Unit {0} → Outcome State) → GivesMore s.given (rest tt) → GivesMore s.given (nested_done depth at s rest)
nested_more depth at s rest h = if_more by_state s.given (nat_le max_conditionals depth) (fails s code.NestingLimit at) (rest tt) (stops_same by_state s.given _) h

either_more : (b : Bool) (front : List Token) (u v : Unit {0} → Outcome State) → GivesMore front (u tt) → GivesMore front (v tt) → GivesMore front (taken_or_skipped b u v)
either_more true front u v hu hv = hu
either_more false front u v hu hv = hv

mutual
  unfolding group_done branches_done branches_left

  group_more : (around : Around) → Enters around.enter → (opened : Pos) (depth : ℕ) (g : Group) (s : State) → GivesMore s.given (group_done around opened depth g s)
  group_more around h opened depth ends s = goes_same s
  group_more around h opened depth (run xs g) s =
      then_more by_state by_state s.given (run_done around.texts xs s) (λ s. group_done around opened depth g s) (run_more around.texts xs s) (λ s. group_more around h opened depth g s)
  group_more around h opened depth (directive l g) s =
      then_more by_state by_state s.given (directive_done around.texts around.enter l s) (λ s. group_done around opened depth g s) (directive_more around.texts around.enter h l s) (λ s. group_more around h opened depth g s)
  group_more around h opened depth (section bs e g) s =
      let at = presumed_at s (place_of (first_line bs)) in
      let first = nested_done depth at s (λ _. branches_done around at (suc depth) bs s) in
      then_more by_state by_state s.given (first >>= end_checked e) (λ s. group_done around opened depth g s)
      (then_more by_state by_state s.given first (end_checked e) (nested_more depth at s (λ _. branches_done around at (suc depth) bs s) (branches_more around h at (suc depth) bs s)) (λ s. end_more e s))
      (λ s. group_more around h opened depth g s)
  group_more around h opened depth (open_section bs) s =
      let at = presumed_at s (place_of (first_line bs)) in
      nested_more depth at s (λ _. branches_done around at (suc depth) bs s) (branches_more around h at (suc depth) bs s)
  group_more around h opened depth missing_end s = stops_same by_state s.given _
  group_more around h opened depth (unbalanced at) s = stops_same by_state s.given _

  branches_more : (around : Around) → Enters around.enter → (opened : Pos) (depth : ℕ) (bs : Branches) (s : State) → GivesMore s.given (branches_done around opened depth bs s)
  branches_more around h opened depth no_branch s = goes_same s
  branches_more around h opened depth (branch l g bs) s =
      then_more by_pair by_state s.given (branch_taken around.texts l s)
      (λ r. taken_or_skipped r.0 (λ _. group_done around opened depth g r.1 >>= λ s. branches_left opened depth bs s) (λ _. unless_fault (skipped r.1 opened depth g) r.1 >>= λ s. branches_done around opened depth bs s))
      (taken_more around.texts l s)
      (λ r. either_more r.0 r.1.given
      (λ _. group_done around opened depth g r.1 >>= λ s. branches_left opened depth bs s) (λ _. unless_fault (skipped r.1 opened depth g) r.1 >>= λ s. branches_done around opened depth bs s)
      (then_more by_state by_state r.1.given (group_done around opened depth g r.1) (λ s. branches_left opened depth bs s) (group_more around h opened depth g r.1) (λ s. left_more around h opened depth bs s))
      (then_more by_state by_state r.1.given (unless_fault (skipped r.1 opened depth g) r.1) (λ s. branches_done around opened depth bs s) (unless_more (skipped r.1 opened depth g) r.1) (λ s. branches_more around h opened depth bs s)))

  left_more : (around : Around) → Enters around.enter → (opened : Pos) (depth : ℕ) (bs : Branches) (s : State) → GivesMore s.given (branches_left opened depth bs s)
  left_more around h opened depth no_branch s = goes_same s
  left_more around h opened depth (branch l g bs) s =
      then_more by_state by_state s.given (else_checked l s) (λ s. unless_fault (skipped s opened depth g) s >>= λ s. branches_left opened depth bs s) (checked_more l s)
      (λ s. then_more by_state by_state s.given (unless_fault (skipped s opened depth g) s) (λ s. branches_left opened depth bs s) (unless_more (skipped s opened depth g) s) (λ s. left_more around h opened depth bs s))

-- ---- files

refused_more : (r : Refusal) (s : State) → GivesMore s.given (refused r s)
refused_more Memory s = stops_same by_state s.given _
refused_more (At c at) s = stops_same by_state s.given _
refused_more (Told c at text) s = stops_same by_state s.given _

lines_more : (around : Around) → Enters around.enter → (r : Result (List Line) Refusal) (s : State) → GivesMore s.given (lines_done around r s)
lines_more around h (Ok ls) s = group_more around h (record { file = 0; line = 0 }) 0 (groups ls) s
lines_more around h (Err r) s = refused_more r s

file_more : (around : Around) → Enters around.enter → (name bytes : List ℕ) (s : State) → GivesMore s.given (file_done around name bytes s)
unfolding file_done
file_more around h name bytes s =
    let file = number_in around.texts name in
    lines_more around h (lines_of file bytes) (record s { presumed = record { from = 1; line = 1; file = file } })

meant_more : (o : Option (List ℕ × List ℕ)) (at : Pos) (s : State) (enter : List ℕ → List ℕ → Outcome State) → ((name bytes : List ℕ) → GivesMore s.given (enter name bytes)) → GivesMore s.given (entered_by o at s enter)
meant_more None at s enter h = stops_same by_state s.given _
meant_more (Some f) at s enter h = h f.0 f.1

entered_more : (room : ℕ) (files : Files) (texts : Texts) → Enters (entered room files texts)
unfolding entered
entered_more zero files texts name at s =
    meant_more (file_meant files name) at s (λ _ _. fails s code.NestingLimit at) (λ _ _. stops_same by_state s.given _)
entered_more (suc n) files texts name at s =
    let around = around_with n files texts in
    meant_more (file_meant files name) at s (λ name bytes. file_done around name bytes s) (λ name bytes. file_more around (entered_more n files texts) name bytes s)

-- ---- the rest

within_more : (b : BranchState) (around : Around) → Enters around.enter → (at : Pos) (depth : ℕ) (g : Group) (s : State) → GivesMore s.given (within b around at depth g s)
within_more Taken around h at depth g s = group_more around h at depth g s
within_more Waiting around h at depth g s = unless_more (skipped s at depth g) s
within_more Past around h at depth g s = unless_more (skipped s at depth g) s
within_more Skipped around h at depth g s = unless_more (skipped s at depth g) s

next_more : (b : BranchState) (around : Around) (l : Line) (s : State) → PairGivesMore s.given (next_branch b around l s)
next_more Waiting around l s =
    then_more by_pair by_pair s.given (branch_taken around.texts l s) (λ r. to_branch (taken_if r.0) r.1) (taken_more around.texts l s) (λ r. pair_same (taken_if r.0) r.1)
next_more Taken around l s = then_more by_state by_pair s.given (else_checked l s) (to_branch Past) (checked_more l s) (λ s. pair_same Past s)
next_more Past around l s = then_more by_state by_pair s.given (else_checked l s) (to_branch Past) (checked_more l s) (λ s. pair_same Past s)
next_more Skipped around l s = pair_same Skipped s

closed_more : (b : BranchState) (l : Line) (s : State) → GivesMore s.given (closed_by b l s)
closed_more Waiting l s = end_more l s
closed_more Taken l s = end_more l s
closed_more Past l s = end_more l s
closed_more Skipped l s = goes_same s

divided_more : (e : Bool) (b : BranchState) (around : Around) → Enters around.enter → (at : Pos) (depth : ℕ) (g : Group) (l : Line) (rest : Open → State → Outcome State) (s : State)
    → ((o : Open) (s : State) → GivesMore s.given (rest o s)) → GivesMore s.given (divided e b around at depth g l rest s)
divided_more true b around h at depth g l rest s each = within_more b around h at depth (ended_by (unbalanced (place_of l.tokens)) g) s
divided_more false b around h at depth g l rest s each =
    then_more by_state by_state s.given (within b around at depth g s) (λ s. next_branch b around l s >>= λ r. rest (open_at at r.0 l) r.1) (within_more b around h at depth g s)
    (λ s. then_more by_pair by_state s.given (next_branch b around l s) (λ r. rest (open_at at r.0 l) r.1) (next_more b around l s) (λ r. each (open_at at r.0 l) r.1))

behind_more : (r : Role) (e : Bool) (b : BranchState) (around : Around) → Enters around.enter → (at : Pos) (depth : ℕ) (g : Group) (l : Line) (rest : Open → State → Outcome State) (out : State → Outcome State) (s : State)
    → ((o : Open) (s : State) → GivesMore s.given (rest o s)) → ((s : State) → GivesMore s.given (out s)) → GivesMore s.given (behind_group r e b around at depth g l rest out s)
behind_more closes e b around h at depth g l rest out s each leaves =
    then_more by_state by_state s.given (within b around at depth g s) (λ s. closed_by b l s >>= out) (within_more b around h at depth g s)
    (λ s. then_more by_state by_state s.given (closed_by b l s) out (closed_more b l s) leaves)
behind_more of_text e b around h at depth g l rest out s each leaves = divided_more e b around h at depth g l rest s each
behind_more opens e b around h at depth g l rest out s each leaves = divided_more e b around h at depth g l rest s each
behind_more divides e b around h at depth g l rest out s each leaves = divided_more e b around h at depth g l rest s each
behind_more stands_alone e b around h at depth g l rest out s each leaves = divided_more e b around h at depth g l rest s each

rest_more : (around : Around) → Enters around.enter → (os : List Open) (p : Parsed) (s : State) → GivesMore s.given (rest_done around os p s)
unfolding rest_done
rest_more around h [] (to_end g) s = group_more around h nowhere 0 g s
rest_more around h [] (to_line g l rest) s = group_more around h nowhere 0 (ended_by (unbalanced (place_of l.tokens)) g) s
rest_more around h (o ∷ os) (to_end g) s = within_more o.branch around h o.at (suc (length os)) (ended_by missing_end g) s
rest_more around h (o ∷ os) (to_line g l rest) s =
    behind_more (role_of l.tokens) o.behind_else o.branch around h o.at (suc (length os)) g l (λ o s. rest_done around (o ∷ os) rest s) (λ s. rest_done around os rest s) s
    (λ o s. rest_more around h (o ∷ os) rest s) (λ s. rest_more around h os rest s)

on_more : (files : Files) (texts : Texts) (room : ℕ) (i : Includer) (s : State) → GivesMore s.given (goes_on files texts room i s)
on_more files texts room i s = rest_more (around_with room files texts) (entered_more room files texts) i.reading.file.conditionals (left_of i.reading) (back_in i s)

all_more : (files : Files) (texts : Texts) (room : ℕ) (is : List Includer) (front : List Token) (o : Outcome State) → GivesMore front o → GivesMore front (resumed_all files texts room is o)
all_more files texts room [] front o h = h
all_more files texts room (i ∷ is) front o h =
    all_more files texts (suc room) is front (o >>= goes_on files texts (suc room) i) (then_more by_state by_state front o (goes_on files texts (suc room) i) h (λ s. on_more files texts (suc room) i s))

ending_front : (front : List Token) (o : Outcome State) → GivesMore front o → Front front (ending_of o).tokens
unfolding OnFront
ending_front front (goes s) h = h
ending_front front (stops given f) h = h

-- the rest of a file, and of the includers that wait for it, keeps the given tokens and appends to them
pub left_front : (files : Files) (texts : Texts) (room further : ℕ) (is : List Includer) (os : List Open) (p : Parsed) (s : State) (o : Outcome State)
    → o ≡ resumed_all files texts room is (rest_done (around_with further files texts) os p s) → Front s.given (ending_of o).tokens
left_front files texts room further is os p s o e =
    subst (λ o. Front s.given (ending_of o).tokens) (sym e)
    (ending_front s.given (resumed_all files texts room is (rest_done (around_with further files texts) os p s))
    (all_more files texts room is s.given (rest_done (around_with further files texts) os p s) (rest_more (around_with further files texts) (entered_more further files texts) os p s)))
