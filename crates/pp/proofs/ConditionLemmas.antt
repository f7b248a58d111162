-- Which branches are taken.
use Rattle.std.proofs.Common.{◌≡◌, ◌<◌, ◌≤◌, ℕ, zero, suc, ◌+◌, ◌-◌, List, [], ◌∷◌, ◌++◌, length, drop, take, Bool, true, false, Option, Some, None, Result, Ok, Err, IfOk, IfErr, refl, sym, ap, subst, ◌∙◌, arith}
use Rattle.std.specs.Prelude.{slice_index_or, codes, ◌&&◌, if◌then◌else◌, is_some}
use Rattle.std.proofs.lemmas.List.{take_all, length-drop}
use Rattle.std.proofs.lemmas.Option.{none-some}
use Rattle.srcset.specs.declared.refusal.Pos.{Pos}
use Rattle.srcset.specs.declared.refusal.Refusal.{Refusal}
use Rattle.srcset.specs.declared.refusal.Refusal.TheVariants.{Memory, At, Told}
use Rattle.srcset.specs.declared.code.Code.TheVariants as code
use Rattle.srcset.specs.NameTable.{Texts}
use Rattle.phases.specs.Token.{Token}
use Rattle.macros.specs.Macro.{Macro, is_identifier, is_spelled}
use Rattle.macros.specs.Table.{NumberedMacro, IsFound}
use Rattle.pp_cond.specs.Condition.{holds}
use Rattle.pp_cond.specs.Refused.{IsConditionRefused}
use Rattle.pp_expand.specs.Expansion.{of_directive}
use Rattle.pp_expand.specs.Expands.{HaveFiles}
use Rattle.pp.specs.declared.state.State.{State as Held}
use Rattle.pp.specs.Lines.{Line}
use Rattle.pp.specs.Groups.{place_of}
use Rattle.pp.specs.Phase4.{State, Outcome, goes, stops, ◌>>=◌, fails, expand, presume, truth_token, is_macro, operand_of, operand_resolved, resolved_by, with_first, defined_resolved, of_truth, condition_by, macro_asked, else_asked, asked, branch_by, branch_taken, else_checked}
use Rattle.pp.specs.Held.{Agrees}
use Rattle.pp.specs.inside.Stepping.{presumed_by, line_with, Goes, Gives, StopsAs, Asks, PutsResolved, IsUnresolved, joined, Resolves}
use Rattle.pp.proofs.StateLemmas.{append_files, expand_given, if_true, if_false, Reads, reads_line}
use Rattle.pp.specs.declared.conditionals.BranchState.TheVariants.{Past}
use Rattle.pp.specs.Rest.{to_branch}
use Rattle.pp.proofs.FileLemmas.{stops_then}

-- ---- `defined`

pub first_rest : (ts : List Token) (x : Token) → 1 ≤ length ts → x ≡ slice_index_or ts 0 x → ts ≡ x ∷ drop 1 ts
first_rest [] x n p = absurd (omega (arith, n))
first_rest (a ∷ ts) x n p = ap (λ k. k ∷ ts) (sym p)

pub rest_one : (ts : List Token) → take (length ts - 1) (drop 1 ts) ≡ drop 1 ts
rest_one ts = take_all (length ts - 1) (drop 1 ts) (omega (arith, length-drop 1 ts))

pub rest_from : (ts : List Token) (i : ℕ) → take (length ts - i) (drop i ts) ≡ drop i ts
rest_from ts i = take_all (length ts - i) (drop i ts) (omega (arith, length-drop i ts))

place_first : (ts : List Token) (x : Token) → ts ≡ x ∷ drop 1 ts → x.pos ≡ place_of ts
place_first ts x e = sym (ap place_of e)

pub put_plain : (names : Texts) (held : Held) (rest old new : List Token) (x token : Token) → rest ≡ x ∷ drop 1 rest → (is_identifier x && is_spelled (codes "defined") x) ≡ false
    → token ≡ x → new ≡ old ++ token ∷ [] → PutsResolved names held rest old new 0
unfolding defined_resolved
put_plain names held rest old new x token e t same put = record {
  token = token;
  put = put;
  file_is = ap (λ (k : Token). k.pos) same ∙ place_first rest x e;
  resolved = λ s a. ap (λ ts. defined_resolved 0 s ts) e
      ∙ ap (λ b. resolved_by b s x (drop 1 rest) (λ n. defined_resolved n s (drop 1 rest))) t
      ∙ ap (λ k. with_first k (defined_resolved 0 s (drop 1 rest))) (sym same);
}

pub put_defined : (names : Texts) (held : Held) (rest old new : List Token) (x token : Token) (name : List ℕ) (taken : ℕ) (b : Bool) → rest ≡ x ∷ drop 1 rest → (is_identifier x && is_spelled (codes "defined") x) ≡ true
    → operand_of (drop 1 rest) ≡ Some (name, taken) → ((s : State) → Agrees names held s → b ≡ is_macro s name)
    → token ≡ truth_token b x → new ≡ old ++ token ∷ [] → PutsResolved names held rest old new taken
unfolding defined_resolved
put_defined names held rest old new x token name taken b e t operand answer same put = record {
  token = token;
  put = put;
  file_is = ap (λ (k : Token). k.pos) same ∙ place_first rest x e;
  resolved = λ s a. ap (λ ts. defined_resolved 0 s ts) e
      ∙ ap (λ b. resolved_by b s x (drop 1 rest) (λ n. defined_resolved n s (drop 1 rest))) t
      ∙ ap (λ o. operand_resolved o s x (λ n. defined_resolved n s (drop 1 rest))) operand
      ∙ ap (λ c. with_first (truth_token c x) (defined_resolved taken s (drop 1 rest))) (sym (answer s a))
      ∙ ap (λ k. with_first k (defined_resolved taken s (drop 1 rest))) (sym same);
}

pub no_operand : (names : Texts) (held : Held) (rest : List Token) (x : Token) (at : Pos) → rest ≡ x ∷ drop 1 rest → (is_identifier x && is_spelled (codes "defined") x) ≡ true
    → operand_of (drop 1 rest) ≡ None → IsUnresolved (At code.NotConstantCondition at) names held rest at
unfolding defined_resolved
no_operand names held rest x at e t operand = (
  refl,
  refl,
  λ s a.
      ap (λ ts. defined_resolved 0 s ts) e
      ∙ ap (λ b. resolved_by b s x (drop 1 rest) (λ n. defined_resolved n s (drop 1 rest))) t
      ∙ ap (λ o. operand_resolved o s x (λ n. defined_resolved n s (drop 1 rest))) operand,
)

append_one : (ys zs : List Token) (t : Token) → ys ++ (t ∷ zs) ≡ (ys ++ t ∷ []) ++ zs
append_one [] zs t = refl
append_one (y ∷ ys) zs t = ap (λ l. y ∷ l) (append_one ys zs t)

append_nothing : (ys : List Token) → ys ++ [] ≡ ys
append_nothing [] = refl
append_nothing (y ∷ ys) = ap (λ l. y ∷ l) (append_nothing ys)

joined_one : (ys : List Token) (t : Token) (o : Option (List Token)) → joined ys (with_first t o) ≡ joined (ys ++ t ∷ []) o
joined_one ys t None = refl
joined_one ys t (Some zs) = ap Some (append_one ys zs t)

drop_more : (xs : List Token) (i : ℕ) → drop 1 (drop i xs) ≡ drop (suc i) xs
drop_more [] zero = refl
drop_more [] (suc i) = refl
drop_more (x ∷ xs) zero = refl
drop_more (x ∷ xs) (suc i) = drop_more xs i

none_file : (names : Texts) → HaveFiles names []
none_file names i t e = absurd (none-some t e)

joined_none : (o : Option (List Token)) → o ≡ joined [] o
joined_none None = refl
joined_none (Some xs) = refl

pub resolves_none : (names : Texts) (held : Held) (tokens list : List Token) → list ≡ [] → Resolves names held tokens list 0 0
resolves_none names held tokens list e = record {
  files = subst (HaveFiles names) (sym e) (none_file names);
  so_far = λ s a. joined_none (defined_resolved 0 s tokens) ∙ ap (λ l. joined l (defined_resolved 0 s tokens)) (sym e);
}

skip_one : (s : State) (k i : ℕ) (tokens : List Token) → i < length tokens → defined_resolved (suc k) s (drop i tokens) ≡ defined_resolved k s (drop (suc i) tokens)
unfolding defined_resolved
skip_one s k i [] h = absurd (omega (arith, h))
skip_one s k zero (x ∷ xs) h = refl
skip_one s k (suc i) (x ∷ xs) h = skip_one s k i xs (omega (arith, h))

skip_next : (names : Texts) (held : Held) (tokens list : List Token) (k i : ℕ) → i < length tokens → Resolves names held tokens list (suc k) i → Resolves names held tokens list k (suc i)
skip_next names held tokens list k i h r = record {
  files = r.files;
  so_far = λ s a. r.so_far s a ∙ ap (joined list) (skip_one s k i tokens h);
}

succ : (i : ℕ) → suc i ≡ i + 1
succ i = omega arith

less_one : (k : ℕ) → 0 < k → suc (k - 1) ≡ k
less_one k h = omega (arith, h)

pub resolves_skip : (names : Texts) (held : Held) (tokens list : List Token) (k i : ℕ) → i < length tokens → 0 < k → Resolves names held tokens list k i → Resolves names held tokens list (k - 1) (i + 1)
resolves_skip names held tokens list k i h some r =
    subst (Resolves names held tokens list (k - 1)) (succ i) (skip_next names held tokens list (k - 1) i h (subst (λ k. Resolves names held tokens list k i) (sym (less_one k some)) r))

no_more : (k : ℕ) → (0 < k → ⊥) → k ≡ 0
no_more zero h = refl
no_more (suc k) h = absurd (h (omega arith))

pub no_skip : (names : Texts) (held : Held) (tokens list : List Token) (k i : ℕ) → k ≤ 0 → Resolves names held tokens list k i → Resolves names held tokens list 0 i
no_skip names held tokens list k i none r = subst (λ k. Resolves names held tokens list k i) (no_more k (λ h. omega (arith, h, none))) r

some_token : Option Token → Token → Token
some_token None d = d
some_token (Some x) d = x

one_file : (names : Texts) (t : Token) → t.pos.file < length names → HaveFiles names (t ∷ [])
unfolding some_token
one_file names t h zero x e = subst (λ (k : Token). k.pos.file < length names) (ap (λ o. some_token o t) e) h
one_file names t h (suc i) x e = absurd (none-some x e)

first_file : (names : Texts) (tokens : List Token) (i : ℕ) → HaveFiles names tokens → i < length tokens → (place_of (drop i tokens)).file < length names
first_file names [] i h n = absurd (omega (arith, n))
first_file names (x ∷ xs) zero h n = h 0 x refl
first_file names (x ∷ xs) (suc i) h n = first_file names xs i (λ j t e. h (suc j) t e) (omega (arith, n))

put_first : (names : Texts) (held : Held) (tokens old new : List Token) (i skip : ℕ) → HaveFiles names tokens → i < length tokens → Resolves names held tokens old 0 i
    → PutsResolved names held (drop i tokens) old new skip → Resolves names held tokens new skip (suc i)
put_first names held tokens old new i skip files h r p = record {
  files = subst (HaveFiles names) (sym p.put) (append_files names old (p.token ∷ []) r.files (one_file names p.token (subst (λ (q : Pos). q.file < length names) (sym p.file_is) (first_file names tokens i files h))));
  so_far = λ s a. r.so_far s a ∙ ap (joined old) (p.resolved s a) ∙ joined_one old p.token (defined_resolved skip s (drop 1 (drop i tokens)))
      ∙ ap (λ l. joined l (defined_resolved skip s (drop 1 (drop i tokens)))) (sym p.put)
      ∙ ap (λ ts. joined new (defined_resolved skip s ts)) (drop_more tokens i);
}

pub resolves_put : (result : Result ℕ Refusal) (names : Texts) (held : Held) (tokens old new : List Token) (i : ℕ) → HaveFiles names tokens → i < length tokens → Resolves names held tokens old 0 i
    → IfOk result (PutsResolved names held (drop i tokens) old new) → IfOk result (λ next. Resolves names held tokens new next (i + 1))
resolves_put (Ok next) names held tokens old new i files h r p = subst (Resolves names held tokens new next) (succ i) (put_first names held tokens old new i next files h r p)
resolves_put (Err e) names held tokens old new i files h r p = tt

unresolved_one : (r : Refusal) (names : Texts) (held : Held) (tokens old : List Token) (i : ℕ) (at : Pos) → Resolves names held tokens old 0 i
    → IsUnresolved r names held (drop i tokens) at → IsUnresolved r names held tokens at
unresolved_one Memory names held tokens old i at r u = tt
unresolved_one (At c p) names held tokens old i at r u = (u.0, u.1, λ s a. r.so_far s a ∙ ap (joined old) (u.2 s a))
unresolved_one (Told c p n) names held tokens old i at r u = u

pub unresolved_put : (result : Result ℕ Refusal) (names : Texts) (held : Held) (tokens old : List Token) (i : ℕ) (at : Pos) → Resolves names held tokens old 0 i
    → IfErr result (λ r. IsUnresolved r names held (drop i tokens) at) → IfErr result (λ r. IsUnresolved r names held tokens at)
unresolved_put (Ok next) names held tokens old i at r u = tt
unresolved_put (Err e) names held tokens old i at r u = unresolved_one e names held tokens old i at r u

past_all : (xs : List Token) (i : ℕ) → length xs ≤ i → drop i xs ≡ []
past_all [] zero h = refl
past_all [] (suc i) h = refl
past_all (x ∷ xs) zero h = absurd (omega (arith, h))
past_all (x ∷ xs) (suc i) h = past_all xs i (omega (arith, h))

pub resolves_all : (names : Texts) (held : Held) (tokens list : List Token) (skip i : ℕ) → length tokens ≤ i → Resolves names held tokens list skip i
    → (s : State) → Agrees names held s → defined_resolved 0 s tokens ≡ Some list
unfolding defined_resolved
resolves_all names held tokens list skip i h r s a =
    r.so_far s a ∙ ap (λ ts. joined list (defined_resolved skip s ts)) (past_all tokens i h) ∙ ap Some (append_nothing list)

-- ---- the condition

pub condition_gives : (result : Result Bool Refusal) (texts names : Texts) (new : Held) (list tokens : List Token) (at : Pos) (s : State)
    → Gives tokens names new (expand texts list of_directive s)
    → IfOk result (λ b. holds tokens ≡ Ok b) → IfErr result (λ r. IsConditionRefused (holds tokens) at r)
    → Asks s.given result names new (condition_by texts at (Some list) s)
condition_gives (Ok b) texts names new list tokens at s g ok err = record {
  after = g.after;
  agrees = g.agrees;
  gives_is = ap (λ k. k >>= λ r. of_truth r.1 at (holds r.0)) g.gives_is ∙ ap (of_truth g.after at) ok;
}
condition_gives (Err Memory) texts names new list tokens at s g ok err = tt
condition_gives (Err (At c p)) texts names new list tokens at s g ok err = record {
  stops_is = ap (λ k. k >>= λ r. of_truth r.1 at (holds r.0)) g.gives_is ∙ ap (of_truth g.after at) err.0
      ∙ ap (λ at. fails g.after c at) (sym err.1)
      ∙ ap (λ (l : List Token). stops l (record { code = c; at = p; text = [] })) (expand_given texts list of_directive s (tokens, g.after) g.gives_is);
}
condition_gives (Err (Told c p n)) texts names new list tokens at s g ok err = absurd err

pub condition_stops : (r : Refusal) (texts names : Texts) (list : List Token) (at : Pos) (s : State)
    → StopsAs s.given names r (expand texts list of_directive s) → StopsAs s.given names r (condition_by texts at (Some list) s)
condition_stops r texts names list at s st = stops_then s.given r names (expand texts list of_directive s) (λ r. of_truth r.1 at (holds r.0)) st

pub condition_unresolved : (r : Refusal) (texts names : Texts) (held : Held) (raw tokens : List Token) (at : Pos) (s : State) → Agrees names held s → presume s raw ≡ tokens
    → IsUnresolved r names held tokens at → StopsAs s.given names r (condition_by texts at (defined_resolved 0 s (presume s raw)) s)
condition_unresolved Memory texts names held raw tokens at s a e u = tt
condition_unresolved (At c p) texts names held raw tokens at s a e u = record {
  stops_is = ap (λ ts. condition_by texts at (defined_resolved 0 s ts) s) e ∙ ap (λ o. condition_by texts at o s) (u.2 s a)
      ∙ ap (λ c. fails s c at) (sym u.0) ∙ ap (λ at. fails s c at) (sym u.1);
}
condition_unresolved (Told c p n) texts names held raw tokens at s a e u = absurd u

-- ---- #ifdef, #ifndef, #else

pub macro_known : (names : Texts) (found : Option (ℕ × NumberedMacro)) (name : List ℕ) (o : Option Macro) → IsFound names name found o → is_some found ≡ is_some o
macro_known names None name None h = refl
macro_known names None name (Some m) h = absurd h
macro_known names (Some f) name None h = absurd h
macro_known names (Some f) name (Some m) h = refl

asked_is : (texts : Texts) (names : Texts) (held : Held) (ts : List Token) (end : ℕ) (h x : Token) (at : Pos) (s : State) → Reads held ts h x at → Agrees names held s
    → branch_taken texts (line_with ts end) s ≡ asked texts x at (presume s (take (length ts - 2) (drop 2 ts))) s
unfolding branch_taken
asked_is texts names held ts end h x at s r a =
    let rest = take (length ts - 2) (drop 2 ts) in
    ap (λ l. branch_by texts (presume s l) s) (reads_line held ts h x at r)
    ∙ ap (λ p. asked texts x p (presume s rest) s) (ap (λ p. presumed_by p h.pos) a.presumed_is ∙ sym r.at_is)

after_ifdef : Texts → Token → Pos → List Token → State → Outcome (Bool × State)
after_ifdef texts name at xs s =
    if is_spelled (codes "ifndef") name then macro_asked false at xs s
    else if is_spelled (codes "else") name then else_asked at xs s
    else condition_by texts at (defined_resolved 0 s xs) s

after_ifndef : Texts → Token → Pos → List Token → State → Outcome (Bool × State)
after_ifndef texts name at xs s =
    if is_spelled (codes "else") name then else_asked at xs s
    else condition_by texts at (defined_resolved 0 s xs) s

pub asks_ifdef : (result : Result Bool Refusal) (texts names : Texts) (held new : Held) (ts : List Token) (end : ℕ) (h x : Token) (at : Pos) (s : State) → Reads held ts h x at → Agrees names held s
    → is_spelled (codes "ifdef") x ≡ true → Asks s.given result names new (macro_asked true at (presume s (take (length ts - 2) (drop 2 ts))) s)
    → Asks s.given result names new (branch_taken texts (line_with ts end) s)
unfolding after_ifdef
asks_ifdef result texts names held new ts end h x at s r a d asks =
    let xs = presume s (take (length ts - 2) (drop 2 ts)) in
    subst (Asks s.given result names new) (sym (asked_is texts names held ts end h x at s r a ∙ if_true (is_spelled (codes "ifdef") x) (macro_asked true at xs s) (after_ifdef texts x at xs s) d)) asks

pub asks_ifndef : (result : Result Bool Refusal) (texts names : Texts) (held new : Held) (ts : List Token) (end : ℕ) (h x : Token) (at : Pos) (s : State) → Reads held ts h x at → Agrees names held s
    → is_spelled (codes "ifdef") x ≡ false → is_spelled (codes "ifndef") x ≡ true → Asks s.given result names new (macro_asked false at (presume s (take (length ts - 2) (drop 2 ts))) s)
    → Asks s.given result names new (branch_taken texts (line_with ts end) s)
unfolding after_ifdef after_ifndef
asks_ifndef result texts names held new ts end h x at s r a d n asks =
    let xs = presume s (take (length ts - 2) (drop 2 ts)) in
    subst (Asks s.given result names new) (sym (asked_is texts names held ts end h x at s r a
    ∙ if_false (is_spelled (codes "ifdef") x) (macro_asked true at xs s) (after_ifdef texts x at xs s) d
    ∙ if_true (is_spelled (codes "ifndef") x) (macro_asked false at xs s) (after_ifndef texts x at xs s) n)) asks

pub asks_else : (result : Result Bool Refusal) (texts names : Texts) (held new : Held) (ts : List Token) (end : ℕ) (h x : Token) (at : Pos) (s : State) → Reads held ts h x at → Agrees names held s
    → is_spelled (codes "ifdef") x ≡ false → is_spelled (codes "ifndef") x ≡ false → is_spelled (codes "else") x ≡ true → Asks s.given result names new (else_asked at (presume s (take (length ts - 2) (drop 2 ts))) s)
    → Asks s.given result names new (branch_taken texts (line_with ts end) s)
unfolding after_ifdef after_ifndef
asks_else result texts names held new ts end h x at s r a d n e asks =
    let xs = presume s (take (length ts - 2) (drop 2 ts)) in
    subst (Asks s.given result names new) (sym (asked_is texts names held ts end h x at s r a
    ∙ if_false (is_spelled (codes "ifdef") x) (macro_asked true at xs s) (after_ifdef texts x at xs s) d
    ∙ if_false (is_spelled (codes "ifndef") x) (macro_asked false at xs s) (after_ifndef texts x at xs s) n
    ∙ if_true (is_spelled (codes "else") x) (else_asked at xs s) (condition_by texts at (defined_resolved 0 s xs) s) e)) asks

pub asks_condition : (result : Result Bool Refusal) (texts names : Texts) (held new : Held) (ts : List Token) (end : ℕ) (h x : Token) (at : Pos) (s : State) → Reads held ts h x at → Agrees names held s
    → is_spelled (codes "ifdef") x ≡ false → is_spelled (codes "ifndef") x ≡ false → is_spelled (codes "else") x ≡ false
    → Asks s.given result names new (condition_by texts at (defined_resolved 0 s (presume s (take (length ts - 2) (drop 2 ts)))) s)
    → Asks s.given result names new (branch_taken texts (line_with ts end) s)
unfolding after_ifdef after_ifndef
asks_condition result texts names held new ts end h x at s r a d n e asks =
    let xs = presume s (take (length ts - 2) (drop 2 ts)) in
    subst (Asks s.given result names new) (sym (asked_is texts names held ts end h x at s r a
    ∙ if_false (is_spelled (codes "ifdef") x) (macro_asked true at xs s) (after_ifdef texts x at xs s) d
    ∙ if_false (is_spelled (codes "ifndef") x) (macro_asked false at xs s) (after_ifndef texts x at xs s) n
    ∙ if_false (is_spelled (codes "else") x) (else_asked at xs s) (condition_by texts at (defined_resolved 0 s xs) s) e)) asks

short_branch : (texts : Texts) (ts : List Token) (s : State) → length ts < 2 → branch_by texts (presume s ts) s ≡ goes (false, s)
short_branch texts [] s h = refl
short_branch texts (a ∷ []) s h = refl
short_branch texts (a ∷ b ∷ ts) s h = absurd (omega (arith, h))

pub asks_nothing : (texts names : Texts) (held : Held) (ts : List Token) (end : ℕ) (s : State) → length ts < 2 → Agrees names held s → Gives false names held (branch_taken texts (line_with ts end) s)
unfolding branch_taken
asks_nothing texts names held ts end s h a = record { after = s; agrees = a; gives_is = short_branch texts ts s h }

-- ---- after a branch that is taken

pub past_stops : (r : Refusal) (names : Texts) (l : Line) (s : State) → StopsAs s.given names r (else_checked l s) → StopsAs s.given names r (else_checked l s >>= to_branch Past)
past_stops r names l s st = stops_then s.given r names (else_checked l s) (to_branch Past) st

pub past_gives : (names : Texts) (held : Held) (l : Line) (s : State) → Goes names held (else_checked l s) → Gives Past names held (else_checked l s >>= to_branch Past)
past_gives names held l s g = record { after = g.after; agrees = g.agrees; gives_is = ap (λ k. k >>= to_branch Past) g.goes_is }
