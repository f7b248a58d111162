-- The run that is pulled.
use Rattle.std.proofs.Common.{◌≡◌, ◌≤◌, ◌+◌, ◌⊎◌, inl, inr, ℕ, zero, suc, List, [], ◌∷◌, ◌++◌, length, drop, Bool, true, false, Option, Some, None, Result, Ok, Err, refl, sym, ap, ◌∙◌, arith, length-append, append_assoc}
use Rattle.std.specs.Prelude.{slice_get, not, ◌&&◌}
use Rattle.std.proofs.lemmas.Option.{none-some}
use Rattle.srcset.specs.declared.code.Code.TheVariants as code
use Rattle.srcset.specs.NameTable.{Texts}
use Rattle.phases.specs.Token.{Token}
use Rattle.macros_substitution.specs.Substitution.{Hidden}
use Rattle.pp_expand.specs.Expansion as expansion
use Rattle.pp_expand.specs.Expansion.{Known, of_run, unhidden, shown_answer}
use Rattle.pp_expand.specs.Pulled.{expanding}
use Rattle.pp_expand.specs.Streams.{Stream, list_left}
use Rattle.pp_expand.proofs.Whole.{expanded_is}
use Rattle.pp.specs.declared.files.Reading.{Reading}
use Rattle.pp.specs.declared.conditionals.Open.{Open}
use Rattle.pp.specs.declared.state.State.{State as Held}
use Rattle.pp.specs.Lines.{lines_with, first_end}
use Rattle.pp.specs.Groups.{role_of, parsed, in_first}
use Rattle.pp.specs.Phase4.{State, Fault, Outcome, goes, stops, ◌>>=◌, Around, of_expansion, first_past, give, run_done, presume, max_tokens}
use Rattle.pp.specs.Left.{run_left, run_comes, IsGoing, Pulling, Stands, is_text_line, ends_run, left_of}
use Rattle.pp.specs.Rest.{pending, is_active, rest_done}
use Rattle.pp.specs.inside.Pending.{run_ended}
use Rattle.pp.specs.inside.Stepping.{line_with}
use Rattle.pp.proofs.FileLemmas.{next_of, none_left, parsed_next, parsed_end}
use Rattle.pp.proofs.RestLemmas.{line_rest, end_rest}
use Rattle.pp.proofs.RunLemmas.{with_none}
use Rattle.pp.proofs.StateLemmas.{true-false}

-- ---- lists

pub none_past : (xs : List Token) (n : ℕ) → length xs ≤ n → slice_get xs n ≡ None
none_past [] n h = refl
none_past (x ∷ xs) zero h = absurd (omega (arith, h))
none_past (x ∷ xs) (suc n) h = none_past xs n (omega (arith, h))

pub some_at : (xs ys : List Token) (x : Token) (n : ℕ) → length xs ≡ n → slice_get (xs ++ x ∷ ys) n ≡ Some x
some_at [] ys x zero e = refl
some_at [] ys x (suc n) e = absurd (omega (arith, e))
some_at (y ∷ xs) ys x zero e = absurd (omega (arith, e))
some_at (y ∷ xs) ys x (suc n) e = some_at xs ys x n (omega (arith, e))

pub drop_all : (xs : List Token) (n : ℕ) → length xs ≤ n → drop n xs ≡ []
drop_all [] zero h = refl
drop_all [] (suc n) h = refl
drop_all (x ∷ xs) zero h = absurd (omega (arith, h))
drop_all (x ∷ xs) (suc n) h = drop_all xs n (omega (arith, h))

-- ---- the outcome of a run of which some tokens were given

pub run_fails : (s : State) (before : List Token) (r : Result (List Token × ℕ) expansion.Fault) (f : expansion.Fault) → r ≡ Err f
    → run_comes s before r ≡ stops s.given (record { code = f.code; at = f.at; text = [] })
run_fails s before r f e = ap (run_comes s before) e

pub run_ends_so : (s : State) (before : List Token) (r : Result (List Token × ℕ) expansion.Fault) (left : ℕ) → r ≡ Ok ([], left) → length s.given + length before ≤ max_tokens
    → run_comes s before r ≡ goes (record s { given = s.given ++ (before ++ []); left = left })
run_ends_so s before r left e few =
    let all = s.given ++ (before ++ []) in
    ap (run_comes s before) e
    ∙ ap (λ o. first_past o all s (record s { left = left })) (none_past all max_tokens (omega (arith, few, length-append s.given (before ++ []), length-append before [])))

-- the token that is one too many
pub run_past : (s : State) (before : List Token) (x : Token) (r : Result (List Token × ℕ) expansion.Fault) (a : List Token × ℕ) → r ≡ Ok a → length s.given + length before ≡ max_tokens
    → run_comes s (before ++ x ∷ []) r ≡ stops s.given (record { code = code.TokenLimit; at = x.pos; text = [] })
run_past s before x r a e full =
    let all = s.given ++ ((before ++ x ∷ []) ++ a.0) in
    let same : all ≡ (s.given ++ before) ++ x ∷ a.0 = ap (λ (l : List Token). s.given ++ l) (append_assoc before (x ∷ []) a.0) ∙ sym (append_assoc s.given before (x ∷ a.0)) in
    ap (run_comes s (before ++ x ∷ [])) e
    ∙ ap (λ o. first_past o all s (record s { left = a.1 })) (ap (λ (l : List Token). slice_get l max_tokens) same ∙ some_at (s.given ++ before) a.0 x max_tokens
    (omega (arith, full, length-append s.given before)))

-- it stops with the tokens given before it, or continues after all of it
pub record StopsSo (s : State) (before : List Token) (r : Result (List Token × ℕ) expansion.Fault) : Type 0 where
  pub fault : Fault
  pub stops_is : run_comes s before r ≡ stops s.given fault

pub record GoesSo (s : State) (before : List Token) (r : Result (List Token × ℕ) expansion.Fault) : Type 0 where
  pub tokens : List Token
  pub left : ℕ
  pub goes_is : run_comes s before r ≡ goes (record s { given = s.given ++ (before ++ tokens); left = left })

past_cases : (s : State) (before : List Token) (a : List Token × ℕ) (o : Option Token) → slice_get (s.given ++ (before ++ a.0)) max_tokens ≡ o → StopsSo s before (Ok a) ⊎ GoesSo s before (Ok a)
past_cases s before a None e = inr (record { tokens = a.0; left = a.1; goes_is = ap (λ o. first_past o (s.given ++ (before ++ a.0)) s (record s { left = a.1 })) e })
past_cases s before a (Some x) e =
    inl (record { fault = record { code = code.TokenLimit; at = x.pos; text = [] }; stops_is = ap (λ o. first_past o (s.given ++ (before ++ a.0)) s (record s { left = a.1 })) e })

pub run_cases : (s : State) (before : List Token) (r : Result (List Token × ℕ) expansion.Fault) → StopsSo s before r ⊎ GoesSo s before r
run_cases s before (Ok a) = past_cases s before a (slice_get (s.given ++ (before ++ a.0)) max_tokens) refl
run_cases s before (Err f) = inl (record { fault = record { code = f.code; at = f.at; text = [] }; stops_is = refl })

-- ---- where a run begins

pub and_true : (a b : Bool) → (a && b) ≡ true → (a ≡ true) × (b ≡ true)
and_true true b e = (refl, e)
and_true false b e = absurd (true-false (sym e))

not_true : (a : Bool) → not a ≡ true → a ≡ false
not_true true e = absurd (true-false (sym e))
not_true false e = refl

run_first_by : (o : Option (List Token)) (around : Around) (os : List Open) (b : Bool) (xs : List Token) (tss : List (List Token)) (es : List ℕ) (i : ℕ) (s : State)
    → slice_get tss i ≡ o → is_text_line o ≡ false
    → (b ≡ true → is_active os ≡ true)
    → rest_done around os (in_first (pending b xs) (parsed (drop i (lines_with tss es)))) s ≡ (run_ended around.texts b xs s >>= λ s. rest_done around os (parsed (drop i (lines_with tss es))) s)
run_first_by None around os b xs tss es i s e t h =
    let p = parsed_end (lines_with tss es) i (none_left tss es i (past_length tss i e)) in
    ap (λ q. rest_done around os (in_first (pending b xs) q) s) p ∙ end_rest around os b xs s h ∙ ap (λ q. run_ended around.texts b xs s >>= λ s. rest_done around os q s) (sym p)
  where
    past_length : (tss : List (List Token)) (i : ℕ) → slice_get tss i ≡ None → length tss ≤ i
    past_length [] i e = omega arith
    past_length (t ∷ tss) zero e = absurd (none-some t (sym e))
    past_length (t ∷ tss) (suc i) e = let h = past_length tss i e in omega (arith, h)
run_first_by (Some ts) around os b xs tss es i s e t h =
    let p = parsed_next (lines_with tss es) (line_with ts (first_end (drop i es))) i (next_of tss es i ts e) in
    ap (λ q. rest_done around os (in_first (pending b xs) q) s) p
    ∙ line_rest (role_of ts) around os b xs (line_with ts (first_end (drop i es))) (parsed (drop (suc i) (lines_with tss es))) s t h
    ∙ ap (λ q. run_ended around.texts b xs s >>= λ s. rest_done around os q s) (sym p)

pub ends_begun : (r : Reading) → ends_run r ≡ true → r.file.run.begun ≡ true
ends_begun r e = (and_true r.file.run.begun (not (is_text_line (slice_get r.lines r.next))) e).0

-- the rest of a file whose run ends
pub run_first : (around : Around) (r : Reading) (xs : List Token) (s : State) → ends_run r ≡ true → (r.file.run.begun ≡ true → is_active r.file.conditionals ≡ true)
    → rest_done around r.file.conditionals (in_first (pending r.file.run.begun xs) (left_of r)) s ≡ (run_done around.texts xs s >>= λ s. rest_done around r.file.conditionals (left_of r) s)
run_first around r xs s e h =
    let b = and_true r.file.run.begun (not (is_text_line (slice_get r.lines r.next))) e in
    run_first_by (slice_get r.lines r.next) around r.file.conditionals r.file.run.begun xs r.lines r.file.ends r.next s refl (not_true (is_text_line (slice_get r.lines r.next)) b.1) h
    ∙ ap (λ b. run_ended around.texts b xs s >>= λ s. rest_done around r.file.conditionals (left_of r) s) b.0

done_comes : (texts : Texts) (xs : List Token) (s : State)
    → run_done texts xs s ≡ run_comes s [] (shown_answer (expanding (record { macros = s.macros; texts = texts }) (unhidden (presume s xs)) of_run s.left))
unfolding run_done
done_comes texts xs s =
    let known : Known = record { macros = s.macros; texts = texts } in
    ap (λ r. of_expansion s r >>= give s) (expanded_is known (presume s xs) of_run s.left ∙ sym (with_none (shown_answer (expanding known (unhidden (presume s xs)) of_run s.left))))

pub begins : (names : Texts) (held : Held) (r : Reading) (run : Stream) (around : Around) (o : Outcome State) → ends_run r ≡ true
    → Stands names held r.file.run around r.file.conditionals (left_of r) o
    → list_left around.texts run ≡ unhidden r.file.run.tokens → IsGoing names run → Pulling names held run around r.file.conditionals (left_of r) o
begins names held r run around o e st left g =
    let s = st.now in
    let known : Known = record { macros = s.macros; texts = around.texts } in
    record {
      now = s;
      before = [];
      table_is = st.agrees.table_is;
      given_is = omega (arith, st.agrees.given_is);
      presumed_is = st.agrees.presumed_is;
      going = g;
      comes_to = st.comes_to ∙ run_first around r st.text s e st.active
          ∙ ap (λ k. k >>= λ s. rest_done around r.file.conditionals (left_of r) s)
          (done_comes around.texts st.text s
          ∙ ap (λ (l : List Hidden). run_comes s [] (shown_answer (expanding known l of_run s.left))) (sym (left ∙ ap unhidden st.run_is))
          ∙ ap (λ n. run_comes s [] (run_left known run n)) st.agrees.left_is);
    }
