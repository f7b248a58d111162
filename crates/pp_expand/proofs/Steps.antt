-- The effect of one engine step on the meaning of its lists.
use Rattle.std.proofs.Common.{◌≡◌, ℕ, suc, ◌+◌, ◌≤◌, List, [], ◌∷◌, ◌++◌, length, drop, Bool, true, false, ◌||◌, Result, Ok, Err, refl, sym, ap, ◌∙◌, arith, append_assoc, append-nil, length-append}
use Rattle.std.proofs.lemmas.List.{drop_all}
use Rattle.std.proofs.lemmas.Bool.{eq-eqb}
use Rattle.std.specs.List.{flat_map}
use Rattle.srcset.specs.declared.code.Code.{Code}
use Rattle.macros_substitution.specs.Substitution.{◌>>=◌, Hidden, Piece, one, parameter, joint, placemarker, Call, is_expanded, list_at, argument_put, arguments_put, plain_or_full, joints_done, tokens_of, substituted, sides, strings_made}
use Rattle.macros_substitution.specs.Meaning.{stands_beside, is_beside, pieces_of}
use Rattle.pp_expand.specs.Expansion.{Ending, of_argument, Known, Answer, Fault, Replacement, argument_by, arguments_expanded, at_place, front_of}
use Rattle.pp_expand.specs.declared.waiting.Waiting.{Waiting}
use Rattle.pp_expand.specs.Pulled.{expanding, made_by}
use Rattle.pp_expand.specs.Meaning.{with_list}
use Rattle.macros_substitution.specs.HideSets.{Sets}
use Rattle.pp_expand.specs.inside.Waits.{Job, call_of, front_by, Onward, to_end, after_arguments, going, taken_up, resume_one, resume, onward_in, weight, weights}

pub with_list_none : (answer : Answer) → with_list [] answer ≡ answer
with_list_none (Ok a) = refl
with_list_none (Err e) = refl

pub with_list_front : (out : List Hidden) (x : Hidden) (answer : Answer) → with_list out (answer >>= λ a. Ok (x ∷ a.0, a.1)) ≡ with_list (out ++ x ∷ []) answer
with_list_front out x (Ok a) = ap (λ l. Ok (l, a.1)) (sym (append_assoc out (x ∷ []) a.0))
with_list_front out x (Err e) = refl

-- ---- a substitution reads only the arguments next to `##`

module _ (a b : Call) (full : List (List Hidden)) where
  put_same : (p : Piece) → ((i : ℕ) → stands_beside i p ≡ true → list_at i a.arguments ≡ list_at i b.arguments) → argument_put a full p ≡ argument_put b full p
  put_same (one x) h = refl
  put_same (parameter true space i) h = ap (λ l. plain_or_full true space l (list_at i full)) (h i (eq-eqb i i refl))
  put_same (parameter false space i) h = refl
  put_same joint h = refl
  put_same (placemarker space) h = refl

  puts_same : (ps : List Piece) → ((i : ℕ) → is_beside i ps ≡ true → list_at i a.arguments ≡ list_at i b.arguments) → flat_map (argument_put a full) ps ≡ flat_map (argument_put b full) ps
  puts_same [] h = refl
  puts_same (p ∷ ps) h =
      ap (λ l. l ++ flat_map (argument_put a full) ps) (put_same p (λ i e. h i (ap (λ t. t || is_beside i ps) e))) ∙ ap (λ l. argument_put b full p ++ l) (puts_same ps (λ i e. h i (ap (λ t. stands_beside i p || t) e ∙ or_true (stands_beside i p))))
    where
      or_true : (t : Bool) → (t || true) ≡ true
      or_true true = refl
      or_true false = refl

  pub substituted_same : (ps : List Piece) → a.at ≡ b.at → ((i : ℕ) → is_beside i ps ≡ true → list_at i a.arguments ≡ list_at i b.arguments) → substituted a full ps ≡ substituted b full ps
  unfolding substituted arguments_put
  substituted_same ps e h =
      ap (λ l. joints_done l a.at >>= λ qs. Ok (tokens_of qs)) (puts_same ps h) ∙ ap (λ at. joints_done (flat_map (argument_put b full) ps) at >>= λ qs. Ok (tokens_of qs)) e

-- ---- arguments

moved : (onward : Onward) (j : Job) (full : List (List Hidden)) (a : List Hidden) (r : Result (List (List Hidden) × ℕ) Fault) → after_arguments onward j full (r >>= λ s. Ok (a ∷ s.0, s.1)) ≡ after_arguments onward j (full ++ a ∷ []) r
unfolding after_arguments
moved onward j full a (Ok s) =
    ap (λ l. at_place j.at (substituted (call_of j.at j.arguments) l j.pieces) >>= λ new. onward j.out (front_by j new) j.ending s.1) (sym (append_assoc full (a ∷ []) s.0))
moved onward j full a (Err e) = refl

more_full : (full : List (List Hidden)) (a : List Hidden) → length (full ++ a ∷ []) ≡ suc (length full)
more_full full a = omega (arith, length-append full (a ∷ []))

arguments_first : (known : Known) (ps : List Piece) (i : ℕ) (a : List Hidden) (more : List (List Hidden)) (left : ℕ) → arguments_expanded (expanding known) ps i (a ∷ more) left ≡ (argument_by (expanding known) (is_expanded i ps) a left >>= λ r. arguments_expanded (expanding known) ps (suc i) more r.1 >>= λ s. Ok (r.0 ∷ s.0, s.1))
unfolding arguments_expanded
arguments_first known ps i a more left = refl

module _ (known : Known) (onward : Onward) (j : Job) (full : List (List Hidden)) where
  -- an argument that is expanded
  pub finish_argument : (a : List Hidden) (left : ℕ) → taken_up known onward j full (Ok (a, left)) ≡ going known onward j (full ++ a ∷ []) left
  unfolding taken_up going
  finish_argument a left =
      moved onward j full a (arguments_expanded (expanding known) j.pieces (suc (length full)) (drop (suc (length full)) j.arguments) left) ∙ ap (λ n. after_arguments onward j (full ++ a ∷ []) (arguments_expanded (expanding known) j.pieces n (drop n j.arguments) left)) (sym (more_full full a))

  -- an argument whose expansion is not needed
  pub skip_argument : (left : ℕ) (a : List Hidden) → drop (length full) j.arguments ≡ a ∷ drop (suc (length full)) j.arguments → is_expanded (length full) j.pieces ≡ false → going known onward j full left ≡ going known onward j (full ++ [] ∷ []) left
  unfolding going
  skip_argument left a d w =
      let i = length full in
      let rest = drop (suc i) j.arguments in
      ap (λ l. after_arguments onward j full (arguments_expanded (expanding known) j.pieces i l left)) d ∙ ap (after_arguments onward j full) (arguments_first known j.pieces i a rest left ∙ ap (λ b. argument_by (expanding known) b a left >>= λ r. arguments_expanded (expanding known) j.pieces (suc i) rest r.1 >>= λ s. Ok (r.0 ∷ s.0, s.1)) w) ∙ moved onward j full [] (arguments_expanded (expanding known) j.pieces (suc i) rest left) ∙ ap (λ n. after_arguments onward j (full ++ [] ∷ []) (arguments_expanded (expanding known) j.pieces n (drop n j.arguments) left)) (sym (more_full full []))

  -- an argument whose expansion is needed
  pub take_argument : (left : ℕ) (a : List Hidden) → drop (length full) j.arguments ≡ a ∷ drop (suc (length full)) j.arguments → is_expanded (length full) j.pieces ≡ true → going known onward j full left ≡ taken_up known onward j full (expanding known a of_argument left)
  unfolding going taken_up
  take_argument left a d w =
      let i = length full in
      let rest = drop (suc i) j.arguments in
      ap (λ l. after_arguments onward j full (arguments_expanded (expanding known) j.pieces i l left)) d ∙ ap (after_arguments onward j full) (arguments_first known j.pieces i a rest left ∙ ap (λ b. argument_by (expanding known) b a left >>= λ r. arguments_expanded (expanding known) j.pieces (suc i) rest r.1 >>= λ s. Ok (r.0 ∷ s.0, s.1)) w)

  -- the current argument may be dropped, unless it is next to `##`
  pub let_go : (arguments : List (List Hidden)) (answer : Answer) → drop (suc (length full)) arguments ≡ drop (suc (length full)) j.arguments → ((i : ℕ) → is_beside i j.pieces ≡ true → list_at i j.arguments ≡ list_at i arguments) → taken_up known onward j full answer ≡ taken_up known onward (record j { arguments = arguments }) full answer
  unfolding taken_up after_arguments
  let_go arguments answer d h =
      ap (λ l. after_arguments onward j full (answer >>= λ r. arguments_expanded (expanding known) j.pieces (suc (length full)) l r.1 >>= λ s. Ok (r.0 ∷ s.0, s.1))) (sym d) ∙ then_same (answer >>= λ r. arguments_expanded (expanding known) j.pieces (suc (length full)) (drop (suc (length full)) arguments) r.1 >>= λ s. Ok (r.0 ∷ s.0, s.1))
    where
      then_same : (r : Result (List (List Hidden) × ℕ) Fault) → after_arguments onward j full r ≡ after_arguments onward (record j { arguments = arguments }) full r
      then_same (Ok s) =
          ap (λ made. at_place j.at made >>= λ new. onward j.out (front_by j new) j.ending s.1) (substituted_same (call_of j.at j.arguments) (call_of j.at arguments) (full ++ s.0) j.pieces refl h)
      then_same (Err e) = refl

  -- no argument is left
  pub arguments_done : (left : ℕ) → length j.arguments ≤ length full → going known onward j full left ≡ (at_place j.at (substituted (call_of j.at j.arguments) full j.pieces) >>= λ new. onward j.out (front_by j new) j.ending left)
  unfolding going after_arguments arguments_expanded
  arguments_done left h =
      let none : drop (length full) j.arguments ≡ [] = drop_all _ _ h in
      ap (λ l. after_arguments onward j full (arguments_expanded (expanding known) j.pieces (length full) l left)) none ∙ ap (λ l. at_place j.at (substituted (call_of j.at j.arguments) l j.pieces) >>= λ new. onward j.out (front_by j new) j.ending left) (append-nil full)

-- ---- waiting replacements

-- an argument is expanded to its end in every context
onward_inside : (known : Known) (ws : List Waiting) → onward_in known (to_end known) ws ≡ to_end known
onward_inside known [] = refl
onward_inside known (w ∷ ws) = refl

pub onward_pushed : (known : Known) (onward : Onward) (ws : List Waiting) (w : Waiting) → onward_in known onward (ws ++ w ∷ []) ≡ to_end known
onward_pushed known onward [] w = refl
onward_pushed known onward (v ∷ ws) w = refl

pub resume_push : (known : Known) (onward : Onward) (sets : Sets) (ws : List Waiting) (w : Waiting) (a : Answer) → resume known onward sets (ws ++ w ∷ []) a ≡ resume known onward sets ws (resume_one known (onward_in known onward ws) sets w a)
resume_push known onward sets [] w a = refl
resume_push known onward sets (v ∷ ws) w a =
    ap (resume_one known onward sets v) (resume_push known (to_end known) sets ws w a ∙ ap (λ (o : Onward). resume known (to_end known) sets ws (resume_one known o sets w a)) (onward_inside known ws))

taken_up_err : (known : Known) (onward : Onward) (j : Job) (full : List (List Hidden)) (e : Fault) → taken_up known onward j full (Err e) ≡ Err e
unfolding taken_up after_arguments
taken_up_err known onward j full e = refl

pub resume_err : (known : Known) (onward : Onward) (sets : Sets) (ws : List Waiting) (e : Fault) → resume known onward sets ws (Err e) ≡ Err e
resume_err known onward sets [] e = refl
resume_err known onward sets (w ∷ ws) e =
    ap (resume_one known onward sets w) (resume_err known (to_end known) sets ws e) ∙ taken_up_err known onward _ _ e

pub weights_push : (ws : List Waiting) (w : Waiting) → weights (ws ++ w ∷ []) ≡ weights ws + weight w
weights_push [] w = omega arith
weights_push (v ∷ ws) w = omega (arith, weights_push ws w)

-- ---- how a replacement begins

module _ (known : Known) (out : List Hidden) (r : Replacement) (ending : Ending) (left : ℕ) where
  abbrev pub begun : List Piece → Job
  begun ps = record { out = out; space = r.name.token.space_before; at = r.call.at; hides = r.hides; arguments = r.call.arguments; pieces = ps; rest = r.rest; ending = ending }

  -- the result once the list is in pieces
  abbrev pub from_pieces : Result (List Piece) Code → Answer
  from_pieces (Ok ps) = arguments_expanded (expanding known) ps 0 r.call.arguments left >>= λ full. at_place r.call.at (substituted r.call full.0 ps) >>= λ new. Ok (front_of r new, full.1)
  from_pieces (Err c) = Err (record { code = c; at = r.call.at })

  by_strings : (made : Result (List Piece) Code) → (at_place r.call.at made >>= λ m. let pieces = sides false m in arguments_expanded (expanding known) pieces 0 r.call.arguments left >>= λ full. at_place r.call.at (substituted r.call full.0 pieces) >>= λ new. Ok (front_of r new, full.1)) ≡ from_pieces (made >>= λ m. Ok (sides false m))
  by_strings (Ok m) = refl
  by_strings (Err c) = refl

  by_pieces : made_by (expanding known) r left ≡ from_pieces (pieces_of r.call)
  unfolding made_by
  by_pieces = by_strings (strings_made r.call r.call.macro.body)

  -- the new tokens precede the rest, and the expansion of the list continues
  abbrev in_front : ℕ → Result (List Hidden) Code → Answer
  in_front n made = at_place r.call.at made >>= λ new. Ok (front_of r new, n)

  abbrev goes : Onward → Answer → Answer
  goes onward m = m >>= λ a. onward out a.0 ending a.1

  one_by_one : (onward : Onward) (n : ℕ) (made : Result (List Hidden) Code) → goes onward (in_front n made) ≡ (at_place r.call.at made >>= λ new. onward out (front_of r new) ending n)
  one_by_one onward n (Ok new) = refl
  one_by_one onward n (Err c) = refl

  each_goes : (onward : Onward) (ps : List Piece) (a : Result (List (List Hidden) × ℕ) Fault) → goes onward (a >>= λ full. in_front full.1 (substituted r.call full.0 ps)) ≡ (a >>= λ full. at_place r.call.at (substituted (call_of r.call.at r.call.arguments) ([] ++ full.0) ps) >>= λ new. onward out (front_of r new) ending full.1)
  each_goes onward ps (Ok full) =
      one_by_one onward full.1 (substituted r.call full.0 ps) ∙ ap (λ made. at_place r.call.at made >>= λ new. onward out (front_of r new) ending full.1) (substituted_same r.call (call_of r.call.at r.call.arguments) full.0 ps refl (λ i h. refl))
  each_goes onward ps (Err f) = refl

  pub made_going : (onward : Onward) (ps : List Piece) → pieces_of r.call ≡ Ok ps → (made_by (expanding known) r left >>= λ a. onward out a.0 ending a.1) ≡ going known onward (begun ps) [] left
  unfolding going after_arguments
  made_going onward ps e =
      ap (goes onward) (by_pieces ∙ ap from_pieces e) ∙ each_goes onward ps (arguments_expanded (expanding known) ps 0 r.call.arguments left)

  pub made_refused : (c : Code) → pieces_of r.call ≡ Err c → made_by (expanding known) r left ≡ Err (record { code = c; at = r.call.at })
  made_refused c e = by_pieces ∙ ap from_pieces e
