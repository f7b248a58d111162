-- The effect of a line on the outcome of the lines from it on.
use Rattle.std.proofs.Common.{◌≡◌, ℕ, suc, List, [], ◌∷◌, ◌++◌, length, Bool, true, false, refl, sym, ap, subst, ◌∙◌}
use Rattle.std.specs.Prelude.{Option, Some, None, nat_le, if◌then◌else◌}
use Rattle.srcset.specs.declared.refusal.Pos.{Pos}
use Rattle.srcset.specs.declared.code.Code.TheVariants as code
use Rattle.phases.specs.Token.{Token}
use Rattle.pp.specs.declared.conditionals.BranchState.{BranchState}
use Rattle.pp.specs.declared.conditionals.BranchState.TheVariants.{Waiting, Taken, Past, Skipped}
use Rattle.pp.specs.declared.conditionals.Open.{Open}
use Rattle.pp.specs.Lines.{Line}
use Rattle.pp.specs.Groups.{Group, ends, run, directive, section, open_section, missing_end, unbalanced, Branches, no_branch, branch, Role, of_text, opens, divides, closes, stands_alone, is_text, role_of, is_else, place_of, Parsed, to_end, to_line, in_first, with_text, ended_by, whole_file, Tail, closed, unclosed, with_branch, divided_by, branch_ended, branches_from, with_section, with_line}
use Rattle.pp.specs.Phase4.{Fault, State, Outcome, goes, stops, ◌>>=◌, fails, Around, presumed_at, run_done, directive_done, max_conditionals, branch_taken, else_checked, end_checked, first_line, or_else, plain_fault, nested, skipped, branches_skipped, unless_fault, nested_done, taken_or_skipped, group_done, branches_done, branches_left}
use Rattle.pp.specs.Rest.{pending, nowhere, is_taken, is_active, within, taken_if, to_branch, next_branch, opening, closed_by, open_at, divided, behind_group, rest_done}
use Rattle.pp.specs.inside.Pending.{run_ended}
use Rattle.pp.specs.inside.Stepping.{behind_line}
use Rattle.pp.proofs.GroupLemmas.{text_pending}

IsTruth : Bool → Type 0
IsTruth true = Unit {0}
IsTruth false = ⊥

false-true : false ≡ true → ⊥
unfolding IsTruth
false-true e = subst IsTruth (sym e) tt

-- ---- outcomes in a row

pub bind_assoc : {A B C : Type 0} → (o : Outcome A) (f : A → Outcome B) (g : B → Outcome C) → ((o >>= f) >>= g) ≡ (o >>= λ x. f x >>= g)
bind_assoc (goes x) f g = refl
bind_assoc (stops given fault) f g = refl

pub bind_same : {A B : Type 0} → (o : Outcome A) (f g : A → Outcome B) → ((x : A) → f x ≡ g x) → (o >>= f) ≡ (o >>= g)
bind_same (goes x) f g e = e x
bind_same (stops given fault) f g e = refl

pub bind_goes : {A : Type 0} → (o : Outcome A) (f : A → Outcome A) → ((x : A) → f x ≡ goes x) → (o >>= f) ≡ o
bind_goes (goes x) f e = e x
bind_goes (stops given fault) f e = refl

-- ---- a group, where these conditionals are open

here : Around → List Open → Group → State → Outcome State
here around [] g s = group_done around nowhere 0 g s
here around (o ∷ os) g s = within o.branch around o.at (suc (length os)) g s

-- a function that prepends to a group, and the outcome of that group
record Front (around : Around) (os : List Open) (f : Group → Group) (a : State → Outcome State) : Type 0 where
  first : (g : Group) (s : State) → here around os (f g) s ≡ (a s >>= λ s. here around os g s)
  missing : (g : Group) → ended_by missing_end (f g) ≡ f (ended_by missing_end g)
  amiss : (at : Pos) (g : Group) → ended_by (unbalanced at) (f g) ≡ f (ended_by (unbalanced at) g)

front_divided : (e : Bool) (around : Around) (o : Open) (os : List Open) (f : Group → Group) (a : State → Outcome State)
    → Front around (o ∷ os) f a → (g : Group) (l : Line) (rest : Open → State → Outcome State) (s : State)
    → divided e o.branch around o.at (suc (length os)) (f g) l rest s ≡ (a s >>= λ s. divided e o.branch around o.at (suc (length os)) g l rest s)
unfolding here
front_divided true around o os f a h g l rest s =
    ap (λ g. within o.branch around o.at (suc (length os)) g s) (h.amiss (place_of l.tokens) g) ∙ h.first (ended_by (unbalanced (place_of l.tokens)) g) s
front_divided false around o os f a h g l rest s =
    let k = λ (s : State). next_branch o.branch around l s >>= λ r. rest (open_at o.at r.0 l) r.1 in
    ap (λ o. o >>= k) (h.first g s) ∙ bind_assoc (a s) (λ s. within o.branch around o.at (suc (length os)) g s) k

front_behind : (r : Role) (around : Around) (o : Open) (os : List Open) (f : Group → Group) (a : State → Outcome State)
    → Front around (o ∷ os) f a → (g : Group) (l : Line) (rest : Open → State → Outcome State) (out : State → Outcome State) (s : State)
    → behind_group r o.behind_else o.branch around o.at (suc (length os)) (f g) l rest out s
    ≡ (a s >>= λ s. behind_group r o.behind_else o.branch around o.at (suc (length os)) g l rest out s)
unfolding here
front_behind closes around o os f a h g l rest out s =
    let k = λ (s : State). closed_by o.branch l s >>= out in
    ap (λ o. o >>= k) (h.first g s) ∙ bind_assoc (a s) (λ s. within o.branch around o.at (suc (length os)) g s) k
front_behind of_text around o os f a h g l rest out s = front_divided o.behind_else around o os f a h g l rest s
front_behind opens around o os f a h g l rest out s = front_divided o.behind_else around o os f a h g l rest s
front_behind divides around o os f a h g l rest out s = front_divided o.behind_else around o os f a h g l rest s
front_behind stands_alone around o os f a h g l rest out s = front_divided o.behind_else around o os f a h g l rest s

front : (around : Around) (os : List Open) (f : Group → Group) (a : State → Outcome State) → Front around os f a → (p : Parsed) (s : State)
    → rest_done around os (in_first f p) s ≡ (a s >>= λ s. rest_done around os p s)
unfolding rest_done here
front around [] f a h (to_end g) s = h.first g s
front around [] f a h (to_line g l rest) s =
    ap (λ g. group_done around nowhere 0 g s) (h.amiss (place_of l.tokens) g) ∙ h.first (ended_by (unbalanced (place_of l.tokens)) g) s
front around (o ∷ os) f a h (to_end g) s =
    ap (λ g. within o.branch around o.at (suc (length os)) g s) (h.missing g) ∙ h.first (ended_by missing_end g) s
front around (o ∷ os) f a h (to_line g l rest) s =
    front_behind (role_of l.tokens) around o os f a h g l (λ o s. rest_done around (o ∷ os) rest s) (λ s. rest_done around os rest s) s

-- ---- text

run_within : (b : BranchState) (around : Around) (at : Pos) (depth : ℕ) (xs : List Token) (g : Group) (s : State) → is_taken b ≡ true
    → within b around at depth (run xs g) s ≡ (run_done around.texts xs s >>= λ s. within b around at depth g s)
unfolding group_done
run_within Taken around at depth xs g s e = refl
run_within Waiting around at depth xs g s e = absurd (false-true e)
run_within Past around at depth xs g s e = absurd (false-true e)
run_within Skipped around at depth xs g s e = absurd (false-true e)

run_first : (around : Around) (os : List Open) (xs : List Token) → is_active os ≡ true → (g : Group) (s : State)
    → here around os (run xs g) s ≡ (run_done around.texts xs s >>= λ s. here around os g s)
unfolding here group_done
run_first around [] xs e g s = refl
run_first around (o ∷ os) xs e g s = run_within o.branch around o.at (suc (length os)) xs g s e

-- a run that ends
pub run_rest : (around : Around) (os : List Open) (xs : List Token) (p : Parsed) (s : State) → is_active os ≡ true
    → rest_done around os (in_first (λ g. run xs g) p) s ≡ (run_done around.texts xs s >>= λ s. rest_done around os p s)
run_rest around os xs p s e =
    front around os (λ g. run xs g) (λ s. run_done around.texts xs s) (record { first = run_first around os xs e; missing = λ g. refl; amiss = λ at g. refl }) p s

text_skipped : (s : State) (at : Pos) (depth : ℕ) (ts : List Token) (g : Group) → skipped s at depth (with_text ts g) ≡ skipped s at depth g
unfolding skipped
text_skipped s at depth ts ends = refl
text_skipped s at depth ts (run xs g) = refl
text_skipped s at depth ts (directive l g) = refl
text_skipped s at depth ts (section bs e g) = refl
text_skipped s at depth ts (open_section bs) = refl
text_skipped s at depth ts missing_end = refl
text_skipped s at depth ts (unbalanced p) = refl

text_within : (b : BranchState) (around : Around) (at : Pos) (depth : ℕ) (ts : List Token) (g : Group) (s : State) → is_taken b ≡ false
    → within b around at depth (with_text ts g) s ≡ within b around at depth g s
text_within Taken around at depth ts g s e = absurd (false-true (sym e))
text_within Waiting around at depth ts g s e = ap (λ o. unless_fault o s) (text_skipped s at depth ts g)
text_within Past around at depth ts g s e = ap (λ o. unless_fault o s) (text_skipped s at depth ts g)
text_within Skipped around at depth ts g s e = ap (λ o. unless_fault o s) (text_skipped s at depth ts g)

text_here : (around : Around) (os : List Open) (ts : List Token) → is_active os ≡ false → (g : Group) (s : State)
    → here around os (with_text ts g) s ≡ here around os g s
unfolding here
text_here around [] ts e g s = absurd (false-true (sym e))
text_here around (o ∷ os) ts e g s = text_within o.branch around o.at (suc (length os)) ts g s e

text_missing : (ts : List Token) (g : Group) → ended_by missing_end (with_text ts g) ≡ with_text ts (ended_by missing_end g)
text_missing ts ends = refl
text_missing ts (run xs g) = refl
text_missing ts (directive l g) = refl
text_missing ts (section bs e g) = refl
text_missing ts (open_section bs) = refl
text_missing ts missing_end = refl
text_missing ts (unbalanced p) = refl

text_amiss : (ts : List Token) (at : Pos) (g : Group) → ended_by (unbalanced at) (with_text ts g) ≡ with_text ts (ended_by (unbalanced at) g)
text_amiss ts at ends = refl
text_amiss ts at (run xs g) = refl
text_amiss ts at (directive l g) = refl
text_amiss ts at (section bs e g) = refl
text_amiss ts at (open_section bs) = refl
text_amiss ts at missing_end = refl
text_amiss ts at (unbalanced p) = refl

-- text that is skipped
pub text_rest : (around : Around) (os : List Open) (ts : List Token) (p : Parsed) (s : State) → is_active os ≡ false
    → rest_done around os (in_first (with_text ts) p) s ≡ rest_done around os p s
text_rest around os ts p s e =
    front around os (with_text ts) (λ s. goes s) (record { first = text_here around os ts e; missing = text_missing ts; amiss = text_amiss ts }) p s

-- a text line goes to the run
pub text_joined : (b : Bool) (xs ts : List Token) (p : Parsed) → (b ≡ false → xs ≡ [])
    → in_first (pending b xs) (in_first (with_text ts) p) ≡ in_first (pending true (xs ++ behind_line b ts)) p
text_joined b xs ts (to_end g) fresh = ap to_end (text_pending b xs ts g fresh)
text_joined b xs ts (to_line g l rest) fresh = ap (λ g. to_line g l rest) (text_pending b xs ts g fresh)

-- ---- the end of a run, before something that is no text

section_run : (xs : List Token) (t : Tail) → in_first (with_text xs) (with_section t) ≡ in_first (λ g. run xs g) (with_section t)
section_run xs (closed bs e (to_end g)) = refl
section_run xs (closed bs e (to_line g l rest)) = refl
section_run xs (unclosed bs) = refl

directive_run : (xs : List Token) (l : Line) (p : Parsed) → in_first (with_text xs) (in_first (λ g. directive l g) p) ≡ in_first (λ g. run xs g) (in_first (λ g. directive l g) p)
directive_run xs l (to_end g) = refl
directive_run xs l (to_line g m rest) = refl

line_run : (r : Role) (xs : List Token) (l : Line) (p : Parsed) → is_text r ≡ false
    → in_first (with_text xs) (with_line r l p) ≡ in_first (λ g. run xs g) (with_line r l p)
line_run of_text xs l p e = absurd (false-true (sym e))
line_run opens xs l p e = section_run xs (branches_from l p)
line_run divides xs l p e = refl
line_run closes xs l p e = refl
line_run stands_alone xs l p e = directive_run xs l p

pub in_none : (xs : List Token) (p : Parsed) → in_first (pending false xs) p ≡ p
in_none xs (to_end g) = refl
in_none xs (to_line g l rest) = refl

pub line_rest : (r : Role) (around : Around) (os : List Open) (b : Bool) (xs : List Token) (l : Line) (p : Parsed) (s : State) → is_text r ≡ false → (b ≡ true → is_active os ≡ true)
    → rest_done around os (in_first (pending b xs) (with_line r l p)) s ≡ (run_ended around.texts b xs s >>= λ s. rest_done around os (with_line r l p) s)
line_rest r around os false xs l p s e h = ap (λ q. rest_done around os q s) (in_none xs (with_line r l p))
line_rest r around os true xs l p s e h = ap (λ q. rest_done around os q s) (line_run r xs l p e) ∙ run_rest around os xs (with_line r l p) s (h refl)

pub end_rest : (around : Around) (os : List Open) (b : Bool) (xs : List Token) (s : State) → (b ≡ true → is_active os ≡ true)
    → rest_done around os (in_first (pending b xs) (to_end ends)) s ≡ (run_ended around.texts b xs s >>= λ s. rest_done around os (to_end ends) s)
end_rest around os false xs s h = refl
end_rest around os true xs s h = run_rest around os xs (to_end ends) s (h refl)

-- ---- a directive that is no part of a conditional section

directive_within : (b : BranchState) (around : Around) (at : Pos) (depth : ℕ) (l : Line) (g : Group) (s : State) → is_taken b ≡ true
    → within b around at depth (directive l g) s ≡ (directive_done around.texts around.enter l s >>= λ s. within b around at depth g s)
unfolding group_done
directive_within Taken around at depth l g s e = refl
directive_within Waiting around at depth l g s e = absurd (false-true e)
directive_within Past around at depth l g s e = absurd (false-true e)
directive_within Skipped around at depth l g s e = absurd (false-true e)

directive_first : (around : Around) (os : List Open) (l : Line) → is_active os ≡ true → (g : Group) (s : State)
    → here around os (directive l g) s ≡ (directive_done around.texts around.enter l s >>= λ s. here around os g s)
unfolding here group_done
directive_first around [] l e g s = refl
directive_first around (o ∷ os) l e g s = directive_within o.branch around o.at (suc (length os)) l g s e

pub directive_rest : (around : Around) (os : List Open) (l : Line) (p : Parsed) (s : State) → is_active os ≡ true
    → rest_done around os (with_line stands_alone l p) s ≡ (directive_done around.texts around.enter l s >>= λ s. rest_done around os p s)
directive_rest around os l p s e =
    front around os (λ g. directive l g) (λ s. directive_done around.texts around.enter l s)
    (record { first = directive_first around os l e; missing = λ g. refl; amiss = λ at g. refl }) p s

directive_out : (b : BranchState) (around : Around) (at : Pos) (depth : ℕ) (l : Line) (g : Group) (s : State) → is_taken b ≡ false
    → within b around at depth (directive l g) s ≡ within b around at depth g s
unfolding skipped
directive_out Taken around at depth l g s e = absurd (false-true (sym e))
directive_out Waiting around at depth l g s e = refl
directive_out Past around at depth l g s e = refl
directive_out Skipped around at depth l g s e = refl

directive_nothing : (around : Around) (os : List Open) (l : Line) → is_active os ≡ false → (g : Group) (s : State)
    → here around os (directive l g) s ≡ here around os g s
unfolding here
directive_nothing around [] l e g s = absurd (false-true (sym e))
directive_nothing around (o ∷ os) l e g s = directive_out o.branch around o.at (suc (length os)) l g s e

pub skipped_rest : (around : Around) (os : List Open) (l : Line) (p : Parsed) (s : State) → is_active os ≡ false
    → rest_done around os (with_line stands_alone l p) s ≡ rest_done around os p s
skipped_rest around os l p s e =
    front around os (λ g. directive l g) (λ s. goes s)
    (record { first = directive_nothing around os l e; missing = λ g. refl; amiss = λ at g. refl }) p s

-- ---- conditionals: after a branch that began

others : BranchState → Around → Pos → ℕ → Branches → State → Outcome State
others Waiting around at depth bs s = branches_done around at depth bs s
others Taken around at depth bs s = branches_left at depth bs s
others Past around at depth bs s = branches_left at depth bs s
others Skipped around at depth bs s = unless_fault (branches_skipped s at depth bs) s

none_left : (b : BranchState) (around : Around) (at : Pos) (depth : ℕ) (s : State) → others b around at depth no_branch s ≡ goes s
unfolding others branches_done branches_left branches_skipped
none_left Waiting around at depth s = refl
none_left Taken around at depth s = refl
none_left Past around at depth s = refl
none_left Skipped around at depth s = refl

-- the first branch in this state, and the others
in_branches : BranchState → Around → Pos → ℕ → Branches → State → Outcome State
in_branches b around at depth no_branch s = goes s
in_branches b around at depth (branch l g bs) s = within b around at depth g s >>= λ s. others b around at depth bs s

tail_done : BranchState → Around → Pos → ℕ → Tail → (Parsed → State → Outcome State) → State → Outcome State
tail_done b around at depth (closed bs e rest) k s = in_branches b around at depth bs s >>= λ s. closed_by b e s >>= λ s. k rest s
tail_done b around at depth (unclosed bs) k s = in_branches b around at depth bs s

-- the same, before the first branch
others_done : BranchState → Around → Pos → ℕ → Tail → (Parsed → State → Outcome State) → State → Outcome State
others_done b around at depth (closed bs e rest) k s = others b around at depth bs s >>= λ s. closed_by b e s >>= λ s. k rest s
others_done b around at depth (unclosed bs) k s = others b around at depth bs s

with_branch_done : (b : BranchState) (around : Around) (at : Pos) (depth : ℕ) (l : Line) (g : Group) (t : Tail) (k : Parsed → State → Outcome State) (s : State)
    → tail_done b around at depth (with_branch l g t) k s ≡ (within b around at depth g s >>= λ s. others_done b around at depth t k s)
unfolding tail_done in_branches others_done
with_branch_done b around at depth l g (closed bs e rest) k s =
    bind_assoc (within b around at depth g s) (λ s. others b around at depth bs s) (λ s. closed_by b e s >>= λ s. k rest s)
with_branch_done b around at depth l g (unclosed bs) k s = refl

-- the line of its first branch
BeginsWith : Line → Tail → Type 0
BeginsWith l (closed no_branch e rest) = ⊥
BeginsWith l (closed (branch m g bs) e rest) = m ≡ l
BeginsWith l (unclosed no_branch) = ⊥
BeginsWith l (unclosed (branch m g bs)) = m ≡ l

begins_divided : (e : Bool) (l : Line) (g : Group) (m : Line) (t : Tail) → BeginsWith l (divided_by e l g m (λ u. t))
unfolding BeginsWith
begins_divided true l g m t = refl
begins_divided false l g m (closed bs e rest) = refl
begins_divided false l g m (unclosed bs) = refl

begins_line : (r : Role) (l : Line) (g : Group) (m : Line) (rest : Parsed) (t : Tail) → BeginsWith l (branch_ended r l g m rest (λ u. t))
unfolding BeginsWith
begins_line closes l g m rest t = refl
begins_line of_text l g m rest t = begins_divided (is_else l.tokens) l g m t
begins_line opens l g m rest t = begins_divided (is_else l.tokens) l g m t
begins_line divides l g m rest t = begins_divided (is_else l.tokens) l g m t
begins_line stands_alone l g m rest t = begins_divided (is_else l.tokens) l g m t

begins : (l : Line) (p : Parsed) → BeginsWith l (branches_from l p)
unfolding BeginsWith
begins l (to_end g) = refl
begins l (to_line g m rest) = begins_line (role_of m.tokens) l g m rest (branches_from m rest)

-- ---- how branches follow each other

fault_or_fault : (a b : Option Fault) (s : State) → unless_fault (or_else a b) s ≡ (unless_fault a s >>= λ s. unless_fault b s)
fault_or_fault None b s = refl
fault_or_fault (Some f) b s = refl

skipped_then : (s : State) (at : Pos) (depth : ℕ) (g : Group) (bs : Branches)
    → unless_fault (or_else (skipped s at depth g) (branches_skipped s at depth bs)) s ≡ (unless_fault (skipped s at depth g) s >>= λ s. unless_fault (branches_skipped s at depth bs) s)
skipped_then s at depth g bs = by_first (skipped s at depth g)
  where
    by_first : (a : Option Fault) → unless_fault (or_else a (branches_skipped s at depth bs)) s ≡ (unless_fault a s >>= λ s. unless_fault (branches_skipped s at depth bs) s)
    by_first None = refl
    by_first (Some f) = refl

taken_branch : (b : Bool) (around : Around) (at : Pos) (depth : ℕ) (l : Line) (g : Group) (bs : Branches) (s : State)
    → taken_or_skipped b
    (λ _. group_done around at depth g s >>= λ s. branches_left at depth bs s)
    (λ _. unless_fault (skipped s at depth g) s >>= λ s. branches_done around at depth bs s)
    ≡ in_branches (taken_if b) around at depth (branch l g bs) s
unfolding in_branches others
taken_branch true around at depth l g bs s = refl
taken_branch false around at depth l g bs s = refl

waiting_first : (around : Around) (at : Pos) (depth : ℕ) (l : Line) (g : Group) (bs : Branches) (s : State)
    → branches_done around at depth (branch l g bs) s
    ≡ (branch_taken around.texts l s >>= λ r. in_branches (taken_if r.0) around at depth (branch l g bs) r.1)
unfolding branches_done
waiting_first around at depth l g bs s =
    bind_same (branch_taken around.texts l s)
    (λ r. taken_or_skipped r.0 (λ _. group_done around at depth g r.1 >>= λ s. branches_left at depth bs s) (λ _. unless_fault (skipped r.1 at depth g) r.1 >>= λ s. branches_done around at depth bs s))
    (λ r. in_branches (taken_if r.0) around at depth (branch l g bs) r.1)
    (λ r. taken_branch r.0 around at depth l g bs r.1)

left_first : (around : Around) (at : Pos) (depth : ℕ) (l : Line) (g : Group) (bs : Branches) (s : State)
    → branches_left at depth (branch l g bs) s
    ≡ ((else_checked l s >>= to_branch Past) >>= λ r. in_branches r.0 around at depth (branch l g bs) r.1)
unfolding branches_left in_branches others
left_first around at depth l g bs s =
    sym (bind_assoc (else_checked l s) (to_branch Past) (λ r. in_branches r.0 around at depth (branch l g bs) r.1))

others_first : (b : BranchState) (around : Around) (at : Pos) (depth : ℕ) (l : Line) (g : Group) (bs : Branches) (s : State)
    → others b around at depth (branch l g bs) s
    ≡ (next_branch b around l s >>= λ r. in_branches r.0 around at depth (branch l g bs) r.1)
unfolding others in_branches branches_skipped
others_first Waiting around at depth l g bs s =
    waiting_first around at depth l g bs s
    ∙ sym (bind_assoc (branch_taken around.texts l s) (λ r. to_branch (taken_if r.0) r.1) (λ r. in_branches r.0 around at depth (branch l g bs) r.1))
others_first Taken around at depth l g bs s = left_first around at depth l g bs s
others_first Past around at depth l g bs s = left_first around at depth l g bs s
others_first Skipped around at depth l g bs s = skipped_then s at depth g bs

-- consecutive states of the branches of a conditional have the same #endif
same_end : (b : BranchState) (around : Around) (l : Line) (s : State) (f : BranchState → State → Outcome State) (e : Line) (k : State → Outcome State)
    → (next_branch b around l s >>= λ r. f r.0 r.1 >>= λ s. closed_by b e s >>= k)
    ≡ (next_branch b around l s >>= λ r. f r.0 r.1 >>= λ s. closed_by r.0 e s >>= k)
same_end Waiting around l s f e k =
    bind_assoc (branch_taken around.texts l s) (λ r. to_branch (taken_if r.0) r.1) (λ r. f r.0 r.1 >>= λ s. closed_by Waiting e s >>= k)
    ∙ bind_same (branch_taken around.texts l s)
    (λ r. f (taken_if r.0) r.1 >>= λ s. closed_by Waiting e s >>= k)
    (λ r. f (taken_if r.0) r.1 >>= λ s. closed_by (taken_if r.0) e s >>= k)
    (λ r. same_if r.0 r.1)
    ∙ sym (bind_assoc (branch_taken around.texts l s) (λ r. to_branch (taken_if r.0) r.1) (λ r. f r.0 r.1 >>= λ s. closed_by r.0 e s >>= k))
  where
    same_if : (b : Bool) (s : State) → (f (taken_if b) s >>= λ s. closed_by Waiting e s >>= k) ≡ (f (taken_if b) s >>= λ s. closed_by (taken_if b) e s >>= k)
    same_if true s = refl
    same_if false s = refl
same_end Taken around l s f e k = bind_assoc (else_checked l s) (to_branch Past) (λ r. f r.0 r.1 >>= λ s. closed_by Taken e s >>= k) ∙ sym (bind_assoc (else_checked l s) (to_branch Past) (λ r. f r.0 r.1 >>= λ s. closed_by r.0 e s >>= k))
same_end Past around l s f e k = bind_assoc (else_checked l s) (to_branch Past) (λ r. f r.0 r.1 >>= λ s. closed_by Past e s >>= k) ∙ sym (bind_assoc (else_checked l s) (to_branch Past) (λ r. f r.0 r.1 >>= λ s. closed_by r.0 e s >>= k))
same_end Skipped around l s f e k = refl

others_next : (b : BranchState) (around : Around) (at : Pos) (depth : ℕ) (l : Line) (t : Tail) (k : Parsed → State → Outcome State) (s : State) → BeginsWith l t
    → others_done b around at depth t k s ≡ (next_branch b around l s >>= λ r. tail_done r.0 around at depth t k r.1)
unfolding BeginsWith others_done tail_done
others_next b around at depth l (closed no_branch e rest) k s h = absurd h
others_next b around at depth l (closed (branch m g bs) e rest) k s h =
    let f = λ (b : BranchState) (s : State). in_branches b around at depth (branch m g bs) s in
    ap (λ o. o >>= λ s. closed_by b e s >>= λ s. k rest s) (others_first b around at depth m g bs s)
    ∙ bind_assoc (next_branch b around m s) (λ r. f r.0 r.1) (λ s. closed_by b e s >>= λ s. k rest s)
    ∙ same_end b around m s f e (λ s. k rest s)
    ∙ ap (λ m. next_branch b around m s >>= λ r. f r.0 r.1 >>= λ s. closed_by r.0 e s >>= λ s. k rest s) h
others_next b around at depth l (unclosed no_branch) k s h = absurd h
others_next b around at depth l (unclosed (branch m g bs)) k s h =
    others_first b around at depth m g bs s
    ∙ ap (λ m'. next_branch b around m' s >>= λ r. in_branches r.0 around at depth (branch m g bs) r.1) h

-- ---- an open conditional is the rest of its section

group_alone : (b : BranchState) (around : Around) (at : Pos) (depth : ℕ) (l : Line) (g : Group) (s : State)
    → within b around at depth g s ≡ in_branches b around at depth (branch l g no_branch) s
unfolding in_branches
group_alone b around at depth l g s = sym (bind_goes (within b around at depth g s) (λ s. others b around at depth no_branch s) (λ s. none_left b around at depth s))

tail_divided : (e : Bool) (b : BranchState) (around : Around) (at : Pos) (depth : ℕ) (l : Line) (g : Group) (m : Line) (t : Tail)
    (next : Open → State → Outcome State) (k : Parsed → State → Outcome State) (s : State) → BeginsWith m t
    → ((b : BranchState) (s : State) → next (open_at at b m) s ≡ tail_done b around at depth t k s)
    → divided e b around at depth g m next s ≡ tail_done b around at depth (divided_by e l g m (λ u. t)) k s
unfolding tail_done
tail_divided true b around at depth l g m t next k s h same = group_alone b around at depth l (ended_by (unbalanced (place_of m.tokens)) g) s
tail_divided false b around at depth l g m t next k s h same =
    bind_same (within b around at depth g s)
    (λ s. next_branch b around m s >>= λ r. next (open_at at r.0 m) r.1)
    (λ s. others_done b around at depth t k s)
    (λ s. bind_same (next_branch b around m s) (λ r. next (open_at at r.0 m) r.1) (λ r. tail_done r.0 around at depth t k r.1) (λ r. same r.0 r.1)
    ∙ sym (others_next b around at depth m t k s h))
    ∙ sym (with_branch_done b around at depth l g t k s)

tail_closed : (b : BranchState) (around : Around) (at : Pos) (depth : ℕ) (l : Line) (g : Group) (m : Line) (rest : Parsed) (k : Parsed → State → Outcome State) (s : State)
    → (within b around at depth g s >>= λ s. closed_by b m s >>= λ s. k rest s) ≡ tail_done b around at depth (closed (branch l g no_branch) m rest) k s
unfolding tail_done
tail_closed b around at depth l g m rest k s = ap (λ o. o >>= λ s. closed_by b m s >>= λ s. k rest s) (group_alone b around at depth l g s)

tail_line : (r : Role) (b : BranchState) (around : Around) (at : Pos) (depth : ℕ) (l : Line) (g : Group) (m : Line) (rest : Parsed) (t : Tail)
    (next : Open → State → Outcome State) (k : Parsed → State → Outcome State) (s : State) → BeginsWith m t
    → ((b : BranchState) (s : State) → next (open_at at b m) s ≡ tail_done b around at depth t k s)
    → behind_group r (is_else l.tokens) b around at depth g m next (λ s. k rest s) s ≡ tail_done b around at depth (branch_ended r l g m rest (λ u. t)) k s
tail_line closes b around at depth l g m rest t next k s h same = tail_closed b around at depth l g m rest k s
tail_line of_text b around at depth l g m rest t next k s h same = tail_divided (is_else l.tokens) b around at depth l g m t next k s h same
tail_line opens b around at depth l g m rest t next k s h same = tail_divided (is_else l.tokens) b around at depth l g m t next k s h same
tail_line divides b around at depth l g m rest t next k s h same = tail_divided (is_else l.tokens) b around at depth l g m t next k s h same
tail_line stands_alone b around at depth l g m rest t next k s h same = tail_divided (is_else l.tokens) b around at depth l g m t next k s h same

tail_rest : (around : Around) (os : List Open) (at : Pos) (p : Parsed) (l : Line) (b : BranchState) (s : State)
    → rest_done around (open_at at b l ∷ os) p s ≡ tail_done b around at (suc (length os)) (branches_from l p) (λ p s. rest_done around os p s) s
unfolding rest_done tail_done
tail_rest around os at (to_end g) l b s = group_alone b around at (suc (length os)) l (ended_by missing_end g) s
tail_rest around os at (to_line g m rest) l b s =
    tail_line (role_of m.tokens) b around at (suc (length os)) l g m rest (branches_from m rest)
    (λ o s. rest_done around (o ∷ os) rest s) (λ p s. rest_done around os p s) s (begins m rest)
    (λ b s. tail_rest around os at rest m b s)

-- ---- a conditional opens

nested_bind : (depth : ℕ) (at : Pos) (s : State) (f : Unit {0} → Outcome State) (g : State → Outcome State)
    → (nested_done depth at s f >>= g) ≡ nested_done depth at s (λ u. f u >>= g)
nested_bind depth at s f g = by_depth (nat_le max_conditionals depth)
  where
    by_depth : (b : Bool) → ((if b then fails s code.NestingLimit at else f tt) >>= g) ≡ (if b then fails s code.NestingLimit at else f tt >>= g)
    by_depth true = refl
    by_depth false = refl

nested_skip : (depth : ℕ) (at : Pos) (s : State) (f : Unit {0} → Option Fault)
    → unless_fault (nested depth at f) s ≡ nested_done depth at s (λ u. unless_fault (f u) s)
nested_skip depth at s f = by_depth (nat_le max_conditionals depth)
  where
    by_depth : (b : Bool) → unless_fault (if b then plain_fault code.NestingLimit at else f tt) s ≡ (if b then fails s code.NestingLimit at else unless_fault (f tt) s)
    by_depth true = refl
    by_depth false = refl

line_at : State → Branches → Pos
line_at s bs = presumed_at s (place_of (first_line bs))

section_out : (depth : ℕ) (opened : Pos) (bs : Branches) (g : Group) (s : State)
    → unless_fault (or_else (nested depth (line_at s bs) (λ u. branches_skipped s (line_at s bs) (suc depth) bs)) (skipped s opened depth g)) s
    ≡ (nested_done depth (line_at s bs) s (λ u. unless_fault (branches_skipped s (line_at s bs) (suc depth) bs) s) >>= λ s. unless_fault (skipped s opened depth g) s)
section_out depth opened bs g s =
    fault_then (nested depth (line_at s bs) (λ u. branches_skipped s (line_at s bs) (suc depth) bs))
    ∙ ap (λ o. o >>= λ s. unless_fault (skipped s opened depth g) s) (nested_skip depth (line_at s bs) s (λ u. branches_skipped s (line_at s bs) (suc depth) bs))
  where
    fault_then : (a : Option Fault) → unless_fault (or_else a (skipped s opened depth g)) s ≡ (unless_fault a s >>= λ s. unless_fault (skipped s opened depth g) s)
    fault_then None = refl
    fault_then (Some f) = refl

section_within : (b : BranchState) (around : Around) (opened : Pos) (depth : ℕ) (bs : Branches) (e : Line) (g : Group) (s : State)
    → within b around opened depth (section bs e g) s
    ≡ (nested_done depth (line_at s bs) s (λ u. others (opening (is_taken b)) around (line_at s bs) (suc depth) bs s) >>= λ s. closed_by (opening (is_taken b)) e s >>= λ s. within b around opened depth g s)
unfolding group_done skipped others line_at
section_within Taken around opened depth bs e g s =
    bind_assoc (nested_done depth (line_at s bs) s (λ u. branches_done around (line_at s bs) (suc depth) bs s)) (end_checked e) (λ s. group_done around opened depth g s)
section_within Waiting around opened depth bs e g s = section_out depth opened bs g s
section_within Past around opened depth bs e g s = section_out depth opened bs g s
section_within Skipped around opened depth bs e g s = section_out depth opened bs g s

section_first : (around : Around) (os : List Open) (bs : Branches) (e : Line) (g : Group) (s : State)
    → here around os (section bs e g) s
    ≡ ((nested_done (length os) (line_at s bs) s (λ u. others (opening (is_active os)) around (line_at s bs) (suc (length os)) bs s) >>= λ s. closed_by (opening (is_active os)) e s) >>= λ s. here around os g s)
unfolding here group_done others line_at
section_first around [] bs e g s = refl
section_first around (o ∷ os) bs e g s =
    let b = opening (is_taken o.branch) in
    section_within o.branch around o.at (suc (length os)) bs e g s
    ∙ sym (bind_assoc (nested_done (suc (length os)) (line_at s bs) s (λ u. others b around (line_at s bs) (suc (suc (length os))) bs s)) (λ s. closed_by b e s) (λ s. within o.branch around o.at (suc (length os)) g s))

open_within : (b : BranchState) (around : Around) (opened : Pos) (depth : ℕ) (bs : Branches) (s : State)
    → within b around opened depth (open_section bs) s
    ≡ nested_done depth (line_at s bs) s (λ u. others (opening (is_taken b)) around (line_at s bs) (suc depth) bs s)
unfolding group_done skipped others line_at
open_within Taken around opened depth bs s = refl
open_within Waiting around opened depth bs s = nested_skip depth (line_at s bs) s (λ u. branches_skipped s (line_at s bs) (suc depth) bs)
open_within Past around opened depth bs s = nested_skip depth (line_at s bs) s (λ u. branches_skipped s (line_at s bs) (suc depth) bs)
open_within Skipped around opened depth bs s = nested_skip depth (line_at s bs) s (λ u. branches_skipped s (line_at s bs) (suc depth) bs)

tail_line_at : State → Tail → Pos
tail_line_at s (closed bs e rest) = line_at s bs
tail_line_at s (unclosed bs) = line_at s bs

open_here : (around : Around) (os : List Open) (bs : Branches) (s : State) → rest_done around os (to_end (open_section bs)) s
    ≡ nested_done (length os) (line_at s bs) s (λ u. others (opening (is_active os)) around (line_at s bs) (suc (length os)) bs s)
unfolding rest_done group_done others line_at
open_here around [] bs s = refl
open_here around (o ∷ os) bs s = open_within o.branch around o.at (suc (length os)) bs s

section_rest : (around : Around) (os : List Open) (t : Tail) (s : State)
    → rest_done around os (with_section t) s
    ≡ nested_done (length os) (tail_line_at s t) s (λ u. others_done (opening (is_active os)) around (tail_line_at s t) (suc (length os)) t (λ p s. rest_done around os p s) s)
unfolding tail_line_at others_done
section_rest around os (closed bs e rest) s =
    let b = opening (is_active os) in
    let f = λ (s : State). nested_done (length os) (line_at s bs) s (λ u. others b around (line_at s bs) (suc (length os)) bs s) in
    front around os (λ g. section bs e g) (λ s. f s >>= λ s. closed_by b e s)
    (record { first = section_first around os bs e; missing = λ g. refl; amiss = λ at g. refl }) rest s
    ∙ bind_assoc (f s) (λ s. closed_by b e s) (λ s. rest_done around os rest s)
    ∙ nested_bind (length os) (line_at s bs) s (λ u. others b around (line_at s bs) (suc (length os)) bs s) (λ s. closed_by b e s >>= λ s. rest_done around os rest s)
section_rest around os (unclosed bs) s = open_here around os bs s

tail_place : (s : State) (l : Line) (t : Tail) → BeginsWith l t → tail_line_at s t ≡ presumed_at s (place_of l.tokens)
unfolding BeginsWith tail_line_at line_at
tail_place s l (closed no_branch e rest) h = absurd h
tail_place s l (closed (branch m g bs) e rest) h = ap (λ (m : Line). presumed_at s (place_of m.tokens)) h
tail_place s l (unclosed no_branch) h = absurd h
tail_place s l (unclosed (branch m g bs)) h = ap (λ (m : Line). presumed_at s (place_of m.tokens)) h

nested_same : (depth : ℕ) (at : Pos) (s : State) (f g : Unit {0} → Outcome State) → f tt ≡ g tt → nested_done depth at s f ≡ nested_done depth at s g
nested_same depth at s f g e = ap (λ o. if nat_le max_conditionals depth then fails s code.NestingLimit at else o) e

-- a conditional that opens
pub open_rest : (around : Around) (os : List Open) (l : Line) (p : Parsed) (s : State)
    → rest_done around os (with_line opens l p) s
    ≡ nested_done (length os) (presumed_at s (place_of l.tokens)) s
    (λ u. next_branch (opening (is_active os)) around l s >>= λ r. rest_done around (open_at (presumed_at s (place_of l.tokens)) r.0 l ∷ os) p r.1)
open_rest around os l p s =
    let b = opening (is_active os) in
    let t = branches_from l p in
    let k = λ (p : Parsed) (s : State). rest_done around os p s in
    let at = presumed_at s (place_of l.tokens) in
    section_rest around os t s
    ∙ ap (λ at. nested_done (length os) at s (λ u. others_done b around at (suc (length os)) t k s)) (tail_place s l t (begins l p))
    ∙ nested_same (length os) at s (λ u. others_done b around at (suc (length os)) t k s)
    (λ u. next_branch b around l s >>= λ r. rest_done around (open_at at r.0 l ∷ os) p r.1)
    (others_next b around at (suc (length os)) l t k s (begins l p)
    ∙ bind_same (next_branch b around l s) (λ r. tail_done r.0 around at (suc (length os)) t k r.1) (λ r. rest_done around (open_at at r.0 l ∷ os) p r.1)
    (λ r. sym (tail_rest around os at p l r.0 r.1)))

-- ---- the other lines of conditionals, and the end

ends_within : (b : BranchState) (around : Around) (at : Pos) (depth : ℕ) (s : State) → within b around at depth ends s ≡ goes s
unfolding group_done skipped
ends_within Taken around at depth s = refl
ends_within Waiting around at depth s = refl
ends_within Past around at depth s = refl
ends_within Skipped around at depth s = refl

amiss_within : (b : BranchState) (around : Around) (opened at : Pos) (depth : ℕ) (s : State)
    → within b around opened depth (unbalanced at) s ≡ fails s code.UnbalancedConditional (presumed_at s at)
unfolding group_done skipped
amiss_within Taken around opened at depth s = refl
amiss_within Waiting around opened at depth s = refl
amiss_within Past around opened at depth s = refl
amiss_within Skipped around opened at depth s = refl

missing_within : (b : BranchState) (around : Around) (opened : Pos) (depth : ℕ) (s : State)
    → within b around opened depth missing_end s ≡ fails s code.UnbalancedConditional opened
unfolding group_done skipped
missing_within Taken around opened depth s = refl
missing_within Waiting around opened depth s = refl
missing_within Past around opened depth s = refl
missing_within Skipped around opened depth s = refl

pub divide_rest : (around : Around) (o : Open) (os : List Open) (l : Line) (p : Parsed) (s : State) → role_of l.tokens ≡ divides → o.behind_else ≡ false
    → rest_done around (o ∷ os) (with_line divides l p) s
    ≡ (next_branch o.branch around l s >>= λ r. rest_done around (open_at o.at r.0 l ∷ os) p r.1)
unfolding rest_done
divide_rest around o os l p s r e =
    let depth = suc (length os) in
    let next = λ (o : Open) (s : State). rest_done around (o ∷ os) p s in
    let out = λ (s : State). rest_done around os p s in
    ap (λ r. behind_group r o.behind_else o.branch around o.at depth ends l next out s) r
    ∙ ap (λ e. divided e o.branch around o.at depth ends l next s) e
    ∙ ap (λ k. k >>= λ s. next_branch o.branch around l s >>= λ r. next (open_at o.at r.0 l) r.1) (ends_within o.branch around o.at depth s)

pub divide_amiss : (around : Around) (o : Open) (os : List Open) (l : Line) (p : Parsed) (s : State) → role_of l.tokens ≡ divides → o.behind_else ≡ true
    → rest_done around (o ∷ os) (with_line divides l p) s ≡ fails s code.UnbalancedConditional (presumed_at s (place_of l.tokens))
unfolding rest_done
divide_amiss around o os l p s r e =
    let depth = suc (length os) in
    let next = λ (o : Open) (s : State). rest_done around (o ∷ os) p s in
    let out = λ (s : State). rest_done around os p s in
    ap (λ r. behind_group r o.behind_else o.branch around o.at depth ends l next out s) r
    ∙ ap (λ e. divided e o.branch around o.at depth ends l next s) e
    ∙ amiss_within o.branch around o.at (place_of l.tokens) depth s

pub divide_alone : (around : Around) (l : Line) (p : Parsed) (s : State)
    → rest_done around [] (with_line divides l p) s ≡ fails s code.UnbalancedConditional (presumed_at s (place_of l.tokens))
unfolding rest_done group_done
divide_alone around l p s = refl

pub close_rest : (around : Around) (o : Open) (os : List Open) (l : Line) (p : Parsed) (s : State) → role_of l.tokens ≡ closes
    → rest_done around (o ∷ os) (with_line closes l p) s ≡ (closed_by o.branch l s >>= λ s. rest_done around os p s)
unfolding rest_done
close_rest around o os l p s r =
    let depth = suc (length os) in
    let next = λ (o : Open) (s : State). rest_done around (o ∷ os) p s in
    let out = λ (s : State). rest_done around os p s in
    ap (λ r. behind_group r o.behind_else o.branch around o.at depth ends l next out s) r
    ∙ ap (λ k. k >>= λ s. closed_by o.branch l s >>= out) (ends_within o.branch around o.at depth s)

pub close_alone : (around : Around) (l : Line) (p : Parsed) (s : State)
    → rest_done around [] (with_line closes l p) s ≡ fails s code.UnbalancedConditional (presumed_at s (place_of l.tokens))
unfolding rest_done group_done
close_alone around l p s = refl

pub end_alone : (around : Around) (s : State) → rest_done around [] (to_end ends) s ≡ goes s
unfolding rest_done group_done
end_alone around s = refl

pub end_open : (around : Around) (o : Open) (os : List Open) (s : State) → rest_done around (o ∷ os) (to_end ends) s ≡ fails s code.UnbalancedConditional o.at
unfolding rest_done
end_open around o os s = missing_within o.branch around o.at (suc (length os)) s

pub whole_rest : (around : Around) (p : Parsed) (s : State) → rest_done around [] p s ≡ group_done around nowhere 0 (whole_file p) s
unfolding rest_done
whole_rest around p s = refl
