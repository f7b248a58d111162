-- Lines that do nothing where the macro of a guard is defined.
use Rattle.std.proofs.Common.{◌≡◌, ◌≤◌, ◌+◌, inl, inr, ℕ, zero, suc, List, [], ◌∷◌, ◌++◌, length, drop, Bool, true, false, Option, Some, None, refl, sym, ap, subst, ◌∙◌, arith}
use Rattle.std.specs.Prelude.{IfSome, Ok, slice_get, nat_le, nat_lt, if◌then◌else◌, not, codes}
use Rattle.std.specs.Borrow.{Bor}
use Rattle.std.proofs.lemmas.Option.{none-some}
use Rattle.srcset.specs.declared.refusal.Pos.{Pos}
use Rattle.srcset.specs.declared.code.Code.TheVariants as code
use Rattle.srcset.specs.NameTable.{Texts}
use Rattle.pp.proofs.TextLemmas.{same_text}
use Rattle.phases.specs.declared.token.Place.TheVariants.{Start}
use Rattle.phases.specs.Text.{logical}
use Rattle.phases.specs.Lines.{scanned}
use Rattle.phases.specs.LineEnds.{line_ends}
use Rattle.phases.specs.Token.{Token}
use Rattle.macros.specs.Macro.{is_spelled}
use Rattle.pp_expand.specs.Expansion.{of_run, Known, expanded, expanded_by, walk}
use Rattle.pp.specs.declared.conditionals.BranchState.{BranchState}
use Rattle.pp.specs.declared.conditionals.BranchState.TheVariants.{Waiting, Skipped}
use Rattle.pp.specs.declared.conditionals.Open.{Open}
use Rattle.pp.specs.Lines.{Line, lines_with, first_end}
use Rattle.pp.specs.Groups.{ends, Role, is_text, of_text, opens, divides, closes, stands_alone, role_of, place_of, Parsed, parsed, to_end, in_first, with_text, with_line, groups}
use Rattle.pp.specs.Phase4.{State, Outcome, goes, ◌>>=◌, fails, Around, presumed_at, is_macro, asked, macro_asked, branch_taken, of_expansion, first_past, give, run_done, group_done, max_tokens, max_conditionals}
use Rattle.pp.specs.inside.Guards.{AreGuarded, IsGuarded, IsDefined, Stays, IsGuardLine, is_blank, unplaced, opened_by, Passes, PassesLine, PassesTo}
use Rattle.pp.specs.Rest.{pending, nowhere, is_active, taken_if, to_branch, next_branch, opening, closed_by, open_at, rest_done}
use Rattle.pp.specs.inside.Pending.{run_ended}
use Rattle.pp.specs.inside.Stepping.{first_of, behind_first, line_with}
use Rattle.pp.proofs.FileLemmas.{true_or_false, next_of, none_left, parsed_next, parsed_end}
use Rattle.pp.proofs.PhaseLemmas.{begun_in, file_is}
use Rattle.pp.proofs.RestLemmas.{in_none, text_joined, text_rest, line_rest, end_rest, skipped_rest, open_rest, divide_rest, close_rest, end_alone, whole_rest}
use Rattle.pp.proofs.StateLemmas.{true-false}

-- ---- an empty run

append_nothing : (xs : List Token) → xs ++ [] ≡ xs
append_nothing [] = refl
append_nothing (x ∷ xs) = ap (λ l. x ∷ l) (append_nothing xs)

past_none : (xs : List Token) (n : ℕ) → length xs ≤ n → slice_get xs n ≡ None
past_none [] n h = refl
past_none (x ∷ xs) zero h = absurd (omega (arith, h))
past_none (x ∷ xs) (suc n) h = past_none xs n (omega (arith, h))

nothing_expanded : (known : Known) (left : ℕ) → expanded known [] of_run left ≡ Ok ([], left)
unfolding expanded expanded_by walk
nothing_expanded known zero = refl
nothing_expanded known (suc n) = refl

given_same : (s : State) (all : List Token) → all ≡ s.given → length s.given ≤ max_tokens → first_past (slice_get all max_tokens) all s s ≡ goes s
given_same s all e h =
    ap (λ xs. first_past (slice_get xs max_tokens) xs s s) e
    ∙ ap (λ o. first_past o s.given s s) (past_none s.given max_tokens h)

empty_run : (texts : Texts) (s : State) → length s.given ≤ max_tokens → run_done texts [] s ≡ goes s
unfolding run_done
empty_run texts s h =
    ap (λ r. of_expansion s r >>= give s) (nothing_expanded (record { macros = s.macros; texts = texts }) s.left)
    ∙ given_same s (s.given ++ []) (append_nothing s.given) h

empty_ended : (texts : Texts) (b : Bool) (s : State) → length s.given ≤ max_tokens → run_ended texts b [] s ≡ goes s
empty_ended texts false s h = refl
empty_ended texts true s h = empty_run texts s h

-- ---- conditionals without places

active_same : (os : List Open) → is_active (unplaced os) ≡ is_active os
active_same [] = refl
active_same (o ∷ os) = refl

length_same : (os : List Open) → length (unplaced os) ≡ length os
length_same [] = refl
length_same (o ∷ os) = ap (λ n. suc n) (length_same os)

active_by : (os cs : List Open) (b : Bool) → unplaced os ≡ cs → is_active cs ≡ b → is_active os ≡ b
active_by os cs b e h = sym (active_same os) ∙ ap is_active e ∙ h

length_by : (os cs : List Open) → unplaced os ≡ cs → length os ≡ length cs
length_by os cs e = sym (length_same os) ∙ ap (λ (l : List Open). length l) e

not_run : (b active : Bool) → (b ≡ true → active ≡ true) → active ≡ false → b ≡ false
not_run true active h e = absurd (true_or_false active e (h refl))
not_run false active h e = refl

-- ---- a line that does nothing

-- the rest after the line, with no run before it
passed : (around : Around) (s : State) (cs : List Open) (o : Outcome State) (p : Parsed) (os : List Open) → unplaced os ≡ cs → o ≡ rest_done around os p s → Passes around s cs o p
passed around s cs o p os u e = record {
  conditionals = os;
  begun = false;
  opened_are = u;
  active = λ b. absurd (true-false (sym b));
  comes_to = e ∙ ap (λ q. rest_done around os q s) (sym (in_none [] p));
}

-- a directive follows an empty run
directive_comes : (r : Role) (around : Around) (s : State) (cs : List Open) (o : Outcome State) (l : Line) (p : Parsed) → is_text r ≡ false → length s.given ≤ max_tokens
    → role_of l.tokens ≡ r → (w : Passes around s cs o (with_line (role_of l.tokens) l p)) → o ≡ rest_done around w.conditionals (with_line r l p) s
directive_comes r around s cs o l p t h e w =
    w.comes_to
    ∙ ap (λ r. rest_done around w.conditionals (in_first (pending w.begun []) (with_line r l p)) s) e
    ∙ line_rest r around w.conditionals w.begun [] l p s t w.active
    ∙ ap (λ k. k >>= λ s. rest_done around w.conditionals (with_line r l p) s) (empty_ended around.texts w.begun s h)

-- text that is skipped
pub text_skipped : (guard : Option (Bor (List ℕ))) (ts : List Token) (cs : List Open) → role_of ts ≡ of_text → is_active cs ≡ false → PassesLine guard ts cs cs
text_skipped guard ts cs r a around s end p o d h w =
    let os = w.conditionals in
    let out = active_by os cs false w.opened_are a in
    passed around s cs o p os w.opened_are
    (w.comes_to
    ∙ ap (λ r. rest_done around os (in_first (pending w.begun []) (with_line r (line_with ts end) p)) s) r
    ∙ ap (λ b. rest_done around os (in_first (pending b []) (in_first (with_text ts) p)) s) (not_run w.begun (is_active os) w.active out)
    ∙ ap (λ q. rest_done around os q s) (in_none [] (in_first (with_text ts) p))
    ∙ text_rest around os ts p s out)

blank_is : (ts : List Token) → is_blank ts ≡ true → ts ≡ []
blank_is [] e = refl
blank_is (x ∷ xs) e = absurd (true-false (sym e))

-- a line without tokens
pub text_empty : (guard : Option (Bor (List ℕ))) (ts : List Token) (cs : List Open) → is_blank ts ≡ true → is_active cs ≡ true → PassesLine guard ts cs cs
text_empty guard ts cs e a around s end p o d h w =
    let os = w.conditionals in
    record {
      conditionals = os;
      begun = true;
      opened_are = w.opened_are;
      active = λ b. active_by os cs true w.opened_are a;
      comes_to = w.comes_to
          ∙ ap (λ (ts : List Token). rest_done around os (in_first (pending w.begun []) (with_line (role_of ts) (line_with ts end) p)) s) (blank_is ts e)
          ∙ ap (λ q. rest_done around os q s) (text_joined w.begun [] [] p (λ b. refl));
    }

-- a directive that is skipped
pub alone_passed : (guard : Option (Bor (List ℕ))) (ts : List Token) (cs : List Open) → role_of ts ≡ stands_alone → is_active cs ≡ false → PassesLine guard ts cs cs
alone_passed guard ts cs r a around s end p o d h w =
    let os = w.conditionals in
    passed around s cs o p os w.opened_are
    (directive_comes stands_alone around s cs o (line_with ts end) p refl h r w
    ∙ skipped_rest around os (line_with ts end) p s (active_by os cs false w.opened_are a))

-- ---- a conditional opens

opened_same : (around : Around) (s : State) (cs : List Open) (o : Outcome State) (ts : List Token) (end : ℕ) (p : Parsed) (b : BranchState) → length s.given ≤ max_tokens
    → role_of ts ≡ opens → nat_le max_conditionals (length cs) ≡ false → (w : Passes around s cs o (with_line (role_of ts) (line_with ts end) p))
    → next_branch (opening (is_active w.conditionals)) around (line_with ts end) s ≡ goes (b, s) → Passes around s (opened_by ts b ∷ cs) o p
opened_same around s cs o ts end p b h r room w e =
    let os = w.conditionals in
    let l = line_with ts end in
    let at = presumed_at s (place_of ts) in
    let k = λ (r : BranchState × State). rest_done around (open_at at r.0 l ∷ os) p r.1 in
    passed around s (opened_by ts b ∷ cs) o p (open_at at b l ∷ os) (ap (λ l. opened_by ts b ∷ l) w.opened_are)
    (directive_comes opens around s cs o l p refl h r w
    ∙ open_rest around os l p s
    ∙ ap (λ t. if t then fails s code.NestingLimit at else (next_branch (opening (is_active os)) around l s >>= k)) (ap (nat_le max_conditionals) (length_by os cs w.opened_are) ∙ room)
    ∙ ap (λ q. q >>= k) e)

pub opens_skipped : (guard : Option (Bor (List ℕ))) (ts : List Token) (cs new : List Open) → role_of ts ≡ opens → nat_le max_conditionals (length cs) ≡ false → is_active cs ≡ false
    → new ≡ opened_by ts Skipped ∷ cs → PassesLine guard ts cs new
opens_skipped guard ts cs new r room a n around s end p o d h w =
    subst (λ (l : List Open). Passes around s l o p) (sym n)
    (opened_same around s cs o ts end p Skipped h r room w
    (ap (λ t. next_branch (opening t) around (line_with ts end) s) (active_by w.conditionals cs false w.opened_are a)))

-- the line of the guard is not taken
ifndef_asked : (texts : Texts) (word : Token) (at : Pos) (xs : List Token) (s : State) → is_spelled (codes "ifndef") word ≡ true → asked texts word at xs s ≡ macro_asked false at xs s
ifndef_asked texts word at xs s e = ap (λ (t : List ℕ). asked texts (record word { spelling = t }) at xs s) (same_text word.spelling (codes "ifndef") e)

if_both : {A : Type 0} (a b : Bool) (x y z : A) → a ≡ true → b ≡ true → (if a then (if b then x else y) else z) ≡ x
if_both true true x y z e f = refl
if_both true false x y z e f = absurd (true-false (sym f))
if_both false b x y z e f = absurd (true-false (sym e))

not_taken : (texts : Texts) (name : List ℕ) (ts : List Token) (end : ℕ) (s : State) → IsGuardLine name ts → is_macro s name ≡ true
    → branch_taken texts (line_with ts end) s ≡ goes (false, s)
unfolding branch_taken
not_taken texts name ts end s g d =
    let at = presumed_at s g.hash.pos in
    let x = record g.macro { pos = presumed_at s g.macro.pos } in
    ap (λ (ts : List Token). branch_taken texts (line_with ts end) s) g.tokens_are
    ∙ ifndef_asked texts (record g.word { pos = presumed_at s g.word.pos }) at (x ∷ []) s g.word_is
    ∙ ap (λ i. if i then goes ((if is_macro s g.macro.spelling then false else not false), s) else fails s code.BadDirective at) g.macro_is
    ∙ ap (λ m. goes ((if m then false else not false), s)) (ap (is_macro s) g.name_is ∙ d)

pub guard_opens : (name : Bor (List ℕ)) (ts : List Token) (cs new : List Open) → role_of ts ≡ opens → nat_le max_conditionals (length cs) ≡ false → is_active cs ≡ true
    → IsGuardLine name.now ts → new ≡ opened_by ts Waiting ∷ cs → PassesLine (Some name) ts cs new
guard_opens name ts cs new r room a g n around s end p o d h w =
    subst (λ (l : List Open). Passes around s l o p) (sym n)
    (opened_same around s cs o ts end p Waiting h r room w
    (ap (λ t. next_branch (opening t) around (line_with ts end) s) (active_by w.conditionals cs true w.opened_are a)
    ∙ ap (λ k. k >>= λ r. to_branch (taken_if r.0) r.1) (not_taken around.texts name.now ts end s g d)))

-- ---- the other lines of conditionals

open_or : Option Open → Open → Open
open_or None d = d
open_or (Some o) d = o

some_open : (a b : Open) → Some a ≡ Some b → a ≡ b
unfolding open_or
some_open a b e = ap (λ o. open_or o a) e

-- the innermost of those that are open, and the others
record Innermost (os cs rest : List Open) (first : Open) : Type 0 where
  open' : Open
  others : List Open
  all : os ≡ open' ∷ others
  branch_is : open'.branch ≡ first.branch
  else_is : open'.behind_else ≡ first.behind_else
  others_are : unplaced others ≡ rest

innermost_of : (os cs rest : List Open) (first : Open) → unplaced os ≡ cs → Some first ≡ first_of cs → rest ≡ behind_first cs → Innermost os cs rest first
innermost_of [] cs rest first u f b = absurd (none-some first (ap first_of u ∙ sym f))
innermost_of (o ∷ os) cs rest first u f b =
    let same = some_open (record o { at = nowhere }) first (ap first_of u ∙ sym f) in
    record {
      open' = o;
      others = os;
      all = refl;
      branch_is = ap (λ (o : Open). o.branch) same;
      else_is = ap (λ (o : Open). o.behind_else) same;
      others_are = ap behind_first u ∙ sym b;
    }

pub divides_skipped : (guard : Option (Bor (List ℕ))) (ts : List Token) (cs rest new : List Open) (first : Open) → role_of ts ≡ divides → Some first ≡ first_of cs → rest ≡ behind_first cs
    → first.behind_else ≡ false → first.branch ≡ Skipped → new ≡ opened_by ts Skipped ∷ rest → PassesLine guard ts cs new
divides_skipped guard ts cs rest new first r f b e br n around s end p o d h w =
    let l = line_with ts end in
    let i = innermost_of w.conditionals cs rest first w.opened_are f b in
    let k = λ (r : BranchState × State). rest_done around (open_at i.open'.at r.0 l ∷ i.others) p r.1 in
    subst (λ (l : List Open). Passes around s l o p) (sym n)
    (passed around s (opened_by ts Skipped ∷ rest) o p (open_at i.open'.at Skipped l ∷ i.others) (ap (λ l. opened_by ts Skipped ∷ l) i.others_are)
    (directive_comes divides around s cs o l p refl h r w
    ∙ ap (λ os. rest_done around os (with_line divides l p) s) i.all
    ∙ divide_rest around i.open' i.others l p s r (i.else_is ∙ e)
    ∙ ap (λ b. next_branch b around l s >>= k) (i.branch_is ∙ br)))

closed_same : (ts : List Token) (cs rest : List Open) (first : Open) (around : Around) (s : State) (end : ℕ) (p : Parsed) (o : Outcome State) → length s.given ≤ max_tokens
    → role_of ts ≡ closes → Some first ≡ first_of cs → rest ≡ behind_first cs → Passes around s cs o (with_line (role_of ts) (line_with ts end) p)
    → closed_by first.branch (line_with ts end) s ≡ goes s → Passes around s rest o p
closed_same ts cs rest first around s end p o h r f b w e =
    let l = line_with ts end in
    let i = innermost_of w.conditionals cs rest first w.opened_are f b in
    let k = λ (s : State). rest_done around i.others p s in
    passed around s rest o p i.others i.others_are
    (directive_comes closes around s cs o l p refl h r w
    ∙ ap (λ os. rest_done around os (with_line closes l p) s) i.all
    ∙ close_rest around i.open' i.others l p s r
    ∙ ap (λ b. closed_by b l s >>= k) i.branch_is
    ∙ ap (λ q. q >>= k) e)

pub closes_skipped : (guard : Option (Bor (List ℕ))) (ts : List Token) (cs rest : List Open) (first : Open) → role_of ts ≡ closes → Some first ≡ first_of cs → rest ≡ behind_first cs
    → first.branch ≡ Skipped → PassesLine guard ts cs rest
closes_skipped guard ts cs rest first r f b br around s end p o d h w =
    closed_same ts cs rest first around s end p o h r f b w (ap (λ b. closed_by b (line_with ts end) s) br)

pub not_true : (b : Bool) → not b ≡ true → b ≡ false
not_true true e = sym e
not_true false e = refl

pub guard_closes : (guard : Option (Bor (List ℕ))) (ts : List Token) (cs rest : List Open) (first : Open) → role_of ts ≡ closes → Some first ≡ first_of cs → rest ≡ behind_first cs
    → first.branch ≡ Waiting → not (nat_lt 2 (length ts)) ≡ true → PassesLine guard ts cs rest
guard_closes guard ts cs rest first r f b br n around s end p o d h w =
    closed_same ts cs rest first around s end p o h r f b w
    (ap (λ b. closed_by b (line_with ts end) s) br
    ∙ ap (λ t. if t then fails s code.BadDirective (presumed_at s (place_of ts)) else goes s) (not_true (nat_lt 2 (length ts)) n))

-- ---- all lines

earlier : (old new : Option (Bor (List ℕ))) (s : State) → Stays old new → IsDefined new s → IsDefined old s
earlier old new s (inl e) d = subst (λ g. IsDefined g s) (sym e) tt
earlier old new s (inr e) d = subst (λ g. IsDefined g s) e d

pub passes_first : (tss : List (List Token)) → PassesTo None tss 0 []
unfolding groups
passes_first tss around es s d h =
    passed around s [] (group_done around nowhere 0 (groups (lines_with tss es)) s) (parsed (lines_with tss es)) [] refl (sym (whole_rest around (parsed (lines_with tss es)) s))

pub passes_next : (old new : Option (Bor (List ℕ))) (tss : List (List Token)) (i : ℕ) (ts : List Token) (os cs : List Open) → slice_get tss i ≡ Some ts → Stays old new
    → PassesTo old tss i os → PassesLine new ts os cs → PassesTo new tss (i + 1) cs
passes_next old new tss i ts os cs e g before line around es s d h =
    let ls = lines_with tss es in
    let whole = group_done around nowhere 0 (groups ls) s in
    let end = first_end (drop i es) in
    subst (λ j. Passes around s cs whole (parsed (drop j ls))) (succ i)
    (line around s end (parsed (drop (suc i) ls)) whole d h
    (subst (λ q. Passes around s os whole q) (parsed_next ls (line_with ts end) i (next_of tss es i ts e)) (before around es s (earlier old new s g d) h)))
  where
    succ : (i : ℕ) → suc i ≡ i + 1
    succ i = omega arith

passes_all : (name : Bor (List ℕ)) (tss : List (List Token)) (i : ℕ) (os : List Open) → length tss ≤ i → first_of os ≡ None → PassesTo (Some name) tss i os → AreGuarded name.now tss
passes_all name tss i [] n f t = record {
  nothing = λ around es s h d.
      let ls = lines_with tss es in
      let whole = group_done around nowhere 0 (groups ls) s in
      let w = t around es s d h in
      none_open w.conditionals around w.begun s whole w.opened_are h
      (w.comes_to ∙ ap (λ q. rest_done around w.conditionals (in_first (pending w.begun []) q) s) (parsed_end ls i (none_left tss es i n)));
}
  where
    none_open : (os : List Open) (around : Around) (b : Bool) (s : State) (o : Outcome State) → unplaced os ≡ [] → length s.given ≤ max_tokens
        → o ≡ rest_done around os (in_first (pending b []) (to_end ends)) s → o ≡ goes s
    none_open [] around b s o u h e =
        e ∙ end_rest around [] b [] s (λ b. refl)
        ∙ ap (λ k. k >>= λ s. rest_done around [] (to_end ends) s) (empty_ended around.texts b s h)
        ∙ end_alone around s
    none_open (c ∷ os) around b s o u h e = absurd (none-some (record c { at = nowhere }) (ap first_of (sym u)))
passes_all name tss i (o ∷ os) n f t = absurd (none-some o (sym f))

guarded_file : (name : List ℕ) (tss : List (List Token)) (file : ℕ) (bytes : List ℕ) → AreGuarded name tss → scanned file bytes ≡ Ok tss → IsGuarded name file bytes
guarded_file name tss file bytes g scans s h d = record {
  nothing = λ around text n.
      file_is around text bytes file tss s n scans ∙ g.nothing around (line_ends 0 Start (logical 1 bytes)) (begun_in file s) h d;
}

pub all_passed : (guard : Option (Bor (List ℕ))) (tss : List (List Token)) (i : ℕ) (os : List Open) → length tss ≤ i → None ≡ first_of os → PassesTo guard tss i os
    → IfSome guard (λ name. (file : ℕ) (bytes : List ℕ) → scanned file bytes ≡ Ok tss → IsGuarded name.now file bytes)
all_passed None tss i os n f t = tt
all_passed (Some name) tss i os n f t = λ file bytes scans. guarded_file name.now tss file bytes (passes_all name tss i os n (sym f) t) scans
