-- The invariants that the steps of a replacement keep.
use Rattle.std.specs.Prelude.{Vec, slice_set, IfOk}
use Rattle.std.proofs.Math.ListN.{length-set}
use Rattle.std.proofs.Common.{◌≡◌, ℕ, zero, suc, ◌+◌, ◌<◌, ◌≤◌, List, [], ◌∷◌, ◌++◌, length, drop, get_or, slice_get, Bool, true, false, Some, Result, Ok, Err, refl, sym, ap, ◌∙◌, subst, arith, drop-cons, length-append, ⊎_elim}
use Rattle.std.proofs.lemmas.Bool.{cases_lt}
use Rattle.std.proofs.lemmas.List.{length-map, map-append}
use Rattle.std.specs.declared.alloc.Global.{Global}
use Rattle.srcset.specs.NameTable.{Texts}
use Rattle.srcset.specs.declared.code.Code.{Code}
use Rattle.srcset.specs.declared.refusal.Pos.{Pos}
use Rattle.srcset.specs.declared.refusal.Refusal.{Refusal}
use Rattle.srcset.specs.declared.refusal.Refusal.TheVariants.{Memory, At, Told}
use Rattle.macros_substitution.specs.Substitution.{◌>>=◌, Hidden, is_expanded, list_at, substituted}
use Rattle.macros_substitution.specs.HideSets.{Sets, members, spelled}
use Rattle.macros_substitution.specs.declared.piece.HiddenToken.{HiddenToken}
use Rattle.macros_substitution.specs.declared.piece.Use.{Use}
use Rattle.macros_substitution.specs.declared.piece.Piece.{Piece as HeldPiece}
use Rattle.macros_substitution.specs.Meaning.{hidden_all, hidden_lists, pieces_as, pieces_of, use_of, is_beside, AreIn, ListsIn, PiecesIn, GivesTokens, GivesPieces}
use Rattle.pp_expand.specs.declared.level.Level.{Level}
use Rattle.pp_expand.specs.declared.task.Task.{Task}
use Rattle.pp_expand.specs.declared.waiting.Waiting.{Waiting}
use Rattle.pp_expand.specs.declared.run_end.RunEnd.TheVariants as run_end
use Rattle.pp_expand.specs.Expansion.{Known, Answer, Replacement, of_argument, at_place}
use Rattle.pp_expand.specs.Expands.{ending_of}
use Rattle.pp_expand.specs.Pulled.{expanding}
use Rattle.pp_expand.specs.Meaning.{LevelIn}
use Rattle.pp_expand.specs.inside.Turns.{IsTask, TaskIn}
use Rattle.pp_expand.specs.inside.Waits.{Job, call_of, front_by, Onward, to_end, going, job_of, waiting_going, resume_one, resume, onward_in, level_onward, level_behind, waiting_behind, made_in, weight, weights, TakesArgument, WaitingIn, WaitingsIn, ProceedIs, BeginIs, JoinIs}
use Rattle.pp_expand.proofs.Sets.{lists_in_append, pieces_in_more}
use Rattle.pp_expand.proofs.Steps.{with_list_none, take_argument, skip_argument, let_go, arguments_done, finish_argument, onward_pushed, resume_push, made_going, made_refused}

lists_length : (texts : Texts) (sets : Sets) (lists : List (Vec HiddenToken Global)) → length (hidden_lists texts sets lists) ≡ length lists
lists_length texts sets lists = length-map lists (λ (v : Vec HiddenToken Global). hidden_all texts sets v.items)

-- ---- the end of a replacement

module _ (known : Known) (later : Sets) (w : Waiting) (over : length w.arguments.items ≤ length w.full.items) where
  abbrev made_of : Result (List Hidden) Code
  made_of =
      substituted (call_of w.at (hidden_lists known.texts later w.arguments.items)) (hidden_lists known.texts later w.full.items) (pieces_as known.texts later w.pieces.items)

  abbrev goes_to : Onward → ℕ → Result (List Hidden) Code → Answer
  goes_to onward left made =
      at_place w.at made >>= λ new. onward (hidden_all known.texts later w.level.out.items) (front_by (job_of known.texts later w) new) (ending_of w.level.end) left

  done_going : (onward : Onward) (left : ℕ) → waiting_going known onward later w left ≡ goes_to onward left made_of
  done_going onward left =
      arguments_done known onward (job_of known.texts later w) (hidden_lists known.texts later w.full.items) left (omega (arith, over, lists_length known.texts later w.arguments.items, lists_length known.texts later w.full.items))

  pub finish_ok : (made : List Hidden) (level : Level) → substituted (call_of w.at (hidden_lists known.texts later w.arguments.items)) (hidden_lists known.texts later w.full.items) (pieces_as known.texts later w.pieces.items) ≡ Ok made → hidden_all known.texts later level.rest.items ≡ front_by (job_of known.texts later w) made → level.out ≡ w.level.out → level.end ≡ w.level.end → (onward : Onward) (left : ℕ) → level_onward known.texts onward later level left ≡ waiting_going known onward later w left
  finish_ok made level m rest out end onward left =
      ap (λ (o : Vec HiddenToken Global). onward (hidden_all known.texts later o.items) (hidden_all known.texts later level.rest.items) (ending_of level.end) left) out ∙ ap (λ e. onward (hidden_all known.texts later w.level.out.items) (hidden_all known.texts later level.rest.items) (ending_of e) left) end ∙ ap (λ l. onward (hidden_all known.texts later w.level.out.items) l (ending_of w.level.end) left) rest ∙ ap (goes_to onward left) (sym m) ∙ sym (done_going onward left)

  pub finish_fails : (f : Refusal) (old new : List Waiting) → GivesTokens known.texts later w.at (Err f) (substituted (call_of w.at (hidden_lists known.texts later w.arguments.items)) (hidden_lists known.texts later w.full.items) (pieces_as known.texts later w.pieces.items)) → ProceedIs known later old w (Err f) new
  finish_fails Memory old new h = tt
  finish_fails (At c pos) old new h = λ onward left. done_going onward left ∙ ap (goes_to onward left) h.1 ∙ ap (λ (p : Pos). let r : Answer = Err (record { code = c; at = p }) in r) (sym h.0)
  finish_fails (Told c pos text) old new h = h

-- ---- the current argument

use_is : (uses : List Use) (i : ℕ) (used u : Use) → slice_get uses i ≡ Some u → i < length uses → used ≡ get_or uses i used → used ≡ u
use_is [] i used u e h g = absurd (omega (arith, h))
use_is (v ∷ vs) zero used u e h g = let q : v ≡ u = cc in g ∙ q
use_is (v ∷ vs) (suc i) used u e h g = use_is vs i used u e (omega (arith, h)) g

module _ (texts : Texts) (sets : Sets) where
  abbrev shown : List (Vec HiddenToken Global) → List (List Hidden)
  shown vs = hidden_lists texts sets vs

  first_of_rest : (vs : List (Vec HiddenToken Global)) (i : ℕ) (v : Vec HiddenToken Global) → slice_get vs i ≡ Some v → drop i (shown vs) ≡ hidden_all texts sets v.items ∷ drop (suc i) (shown vs)
  first_of_rest [] i v e = let z : ⊥ = cc in absurd z
  first_of_rest (u ∷ vs) zero v e =
      let q : u ≡ v = cc in ap (λ (u : Vec HiddenToken Global). hidden_all texts sets u.items ∷ shown vs) q
  first_of_rest (u ∷ vs) (suc i) v e = first_of_rest vs i v e

  behind_same : (vs : List (Vec HiddenToken Global)) (i : ℕ) (v : Vec HiddenToken Global) → drop (suc i) (shown (slice_set vs i v)) ≡ drop (suc i) (shown vs)
  behind_same [] i v = refl
  behind_same (u ∷ vs) zero v = refl
  behind_same (u ∷ vs) (suc i) v = behind_same vs i v

  others_same : (vs : List (Vec HiddenToken Global)) (i k : ℕ) (v : Vec HiddenToken Global) → (k ≡ i → ⊥) → list_at k (shown vs) ≡ list_at k (shown (slice_set vs i v))
  others_same [] i k v n = refl
  others_same (u ∷ vs) zero zero v n = absurd (n refl)
  others_same (u ∷ vs) zero (suc k) v n = refl
  others_same (u ∷ vs) (suc i) zero v n = refl
  others_same (u ∷ vs) (suc i) (suc k) v n = others_same vs i k v (λ e. n (ap suc e))

at_index : {X : Type 0} (xs : List X) (i : ℕ) (x : X) → i < length xs → x ≡ get_or xs i x → slice_get xs i ≡ Some x
at_index [] i x h e = absurd (omega (arith, h))
at_index (y ∷ xs) zero x h e = ap (λ z. Some z) (sym e)
at_index (y ∷ xs) (suc i) x h e = at_index xs i x (omega (arith, h)) e

pub kept_argument : (old : List (Vec HiddenToken Global)) (i : ℕ) (keeps : Bool) → keeps ≡ true → (v : Vec HiddenToken Global) → i < length old → v ≡ get_or old i v → (seen : List HiddenToken) → seen ≡ v.items → (list : List HiddenToken) → list ≡ seen → TakesArgument old i keeps list old
kept_argument old i true e v h g seen s list l = (v, at_index old i v h g, l ∙ s, refl)
kept_argument old i false e v h g seen s list l = let z : ⊥ = cc in absurd z

pub let_argument : (old : List (Vec HiddenToken Global)) (i : ℕ) (keeps : Bool) → keeps ≡ false → (v empty : Vec HiddenToken Global) → i < length old → v ≡ get_or old i v → (list : List HiddenToken) → list ≡ v.items → empty.items ≡ [] → TakesArgument old i keeps list (slice_set old i empty)
let_argument old i true e v empty h g list l n = let z : ⊥ = cc in absurd z
let_argument old i false e v empty h g list l n = (v, at_index old i v h g, l, (empty, (n, refl)))

-- a replacement whose next argument is to be expanded
module _ (known : Known) (later : Sets) (w0 w w2 : Waiting) (used : Use) (list : List HiddenToken) (same : (onward : Onward) (left : ℕ) → waiting_going known onward later w0 left ≡ waiting_going known onward later w left) (used_is : used ≡ use_of (length w.full.items) (pieces_as known.texts later w.pieces.items)) (takes : TakesArgument w.arguments.items (length w.full.items) used.beside list w2.arguments.items) (like : w2 ≡ record w { arguments = w2.arguments }) where
  abbrev i : ℕ
  i = length w.full.items

  abbrev texts : Texts
  texts = known.texts

  full_length : length (hidden_lists texts later w.full.items) ≡ i
  full_length = lists_length texts later w.full.items

  kept : (k : Bool) → used.beside ≡ k → TakesArgument w.arguments.items i k list w2.arguments.items → (drop (suc i) (hidden_lists texts later w2.arguments.items) ≡ drop (suc i) (hidden_lists texts later w.arguments.items)) × ((n : ℕ) → is_beside n (pieces_as texts later w.pieces.items) ≡ true → list_at n (hidden_lists texts later w.arguments.items) ≡ list_at n (hidden_lists texts later w2.arguments.items))
  kept true b t =
      (ap (λ vs. drop (suc i) (hidden_lists texts later vs)) t.3, λ n h. ap (λ vs. list_at n (hidden_lists texts later vs)) (sym t.3))
  kept false b t =
      let e : w2.arguments.items ≡ slice_set w.arguments.items i t.3.0 = t.3.1.1 in
      let not_beside : is_beside i (pieces_as texts later w.pieces.items) ≡ false = sym (ap (λ (u : Use). u.beside) used_is) ∙ b in
      (ap (λ vs. drop (suc i) (hidden_lists texts later vs)) e ∙ behind_same texts later w.arguments.items i t.3.0, λ n h. others_same texts later w.arguments.items i n t.3.0 (λ q. let z : true ≡ false = sym h ∙ ap (λ n. is_beside n (pieces_as texts later w.pieces.items)) q ∙ not_beside in let y : ⊥ = cc in y) ∙ ap (λ vs. list_at n (hidden_lists texts later vs)) (sym e))

  pub takes_is : (old new : List Waiting) (level : Level) → used.expanded ≡ true → level.rest.items ≡ list → level.out.items ≡ [] → level.end ≡ run_end.Argument → new ≡ old ++ w2 ∷ [] → (onward : Onward) (left : ℕ) → level_behind known onward later new level left ≡ waiting_behind known onward later old w0 left
  takes_is old new level expands rest out end new_is onward left =
      let j = job_of texts later w in
      let full = hidden_lists texts later w.full.items in
      let argument = hidden_all texts later takes.0.items in
      let k = kept used.beside refl takes in
      let answer = expanding known argument of_argument left in
      let o = onward_in known onward old in
      let wanted : is_expanded (length full) j.pieces ≡ true = ap (λ n. is_expanded n j.pieces) full_length ∙ sym (ap (λ (u : Use). u.expanded) used_is) ∙ expands in
      let first : drop (length full) j.arguments ≡ argument ∷ drop (suc (length full)) j.arguments = subst (λ n. drop n j.arguments ≡ argument ∷ drop (suc n) j.arguments) (sym full_length) (first_of_rest texts later w.arguments.items i takes.0 takes.1) in
      let behind : drop (suc (length full)) (hidden_lists texts later w2.arguments.items) ≡ drop (suc (length full)) j.arguments = subst (λ n. drop (suc n) (hidden_lists texts later w2.arguments.items) ≡ drop (suc n) j.arguments) (sym full_length) k.0 in
      let meaning : level_onward texts (to_end known) later level left ≡ answer = ap (λ o. to_end known (hidden_all texts later o) (hidden_all texts later level.rest.items) (ending_of level.end) left) out ∙ with_list_none (expanding known (hidden_all texts later level.rest.items) (ending_of level.end) left) ∙ ap (λ e. expanding known (hidden_all texts later level.rest.items) (ending_of e) left) end ∙ ap (λ l. expanding known (hidden_all texts later l) of_argument left) (rest ∙ takes.2) in
      ap (λ ws. level_behind known onward later ws level left) new_is ∙ ap (λ (p : Onward). resume known onward later (old ++ w2 ∷ []) (level_onward texts p later level left)) (onward_pushed known onward old w2) ∙ ap (resume known onward later (old ++ w2 ∷ [])) meaning ∙ resume_push known onward later old w2 answer ∙ ap (resume known onward later old) (ap (λ (v : Waiting). resume_one known o later v answer) like ∙ sym (let_go known o j full (hidden_lists texts later w2.arguments.items) answer behind k.1) ∙ sym (take_argument known o j full left argument first wanted) ∙ sym (same o left))

-- a replacement whose next argument's expansion is not needed
pub skips_is : (known : Known) (later : Sets) (w0 w w2 : Waiting) (used : Use) (empty : Vec HiddenToken Global) → ((onward : Onward) (left : ℕ) → waiting_going known onward later w0 left ≡ waiting_going known onward later w left) → used ≡ use_of (length w.full.items) (pieces_as known.texts later w.pieces.items) → length w.full.items < length w.arguments.items → used.expanded ≡ false → empty.items ≡ [] → w2 ≡ record w { full = w2.full } → w2.full.items ≡ w.full.items ++ empty ∷ [] → (onward : Onward) (left : ℕ) → waiting_going known onward later w0 left ≡ waiting_going known onward later w2 left
skips_is known later w0 w w2 used empty same used_is inside unwanted none like full_is onward left =
    let texts = known.texts in
    let j = job_of texts later w in
    let full = hidden_lists texts later w.full.items in
    let n : length full ≡ length w.full.items = lists_length texts later w.full.items in
    let m : length j.arguments ≡ length w.arguments.items = lists_length texts later w.arguments.items in
    let wanted : is_expanded (length full) j.pieces ≡ false = ap (λ n. is_expanded n j.pieces) n ∙ sym (ap (λ (u : Use). u.expanded) used_is) ∙ unwanted in
    let f : hidden_lists texts later w2.full.items ≡ full ++ [] ∷ [] = ap (hidden_lists texts later) full_is ∙ map-append (λ (v : Vec HiddenToken Global). hidden_all texts later v.items) w.full.items (empty ∷ []) ∙ ap (λ (l : List HiddenToken). full ++ hidden_all texts later l ∷ []) none in
    same onward left ∙ skip_argument known onward j full left _ (drop-cons j.arguments (length full) [] (omega (arith, inside, n, m))) wanted ∙ ap (λ l. going known onward j l left) (sym f) ∙ ap (λ (v : Waiting). going known onward (job_of texts later v) (hidden_lists texts later w2.full.items) left) (sym like)

-- an argument's expansion goes to its replacement
pub joins_is : (known : Known) (later : Sets) (w w2 : Waiting) (v : Vec HiddenToken Global) → w2 ≡ record w { full = w2.full } → w2.full.items ≡ w.full.items ++ v ∷ [] → (onward : Onward) (left : ℕ) → resume_one known onward later w (Ok (hidden_all known.texts later v.items, left)) ≡ waiting_going known onward later w2 left
joins_is known later w w2 v like full_is onward left =
    let texts = known.texts in
    let j = job_of texts later w in
    let full = hidden_lists texts later w.full.items in
    let f : hidden_lists texts later w2.full.items ≡ full ++ hidden_all texts later v.items ∷ [] = ap (hidden_lists texts later) full_is ∙ map-append (λ (v : Vec HiddenToken Global). hidden_all texts later v.items) w.full.items (v ∷ []) in
    finish_argument known onward j full (hidden_all texts later v.items) left ∙ ap (λ l. going known onward j l left) (sym f) ∙ ap (λ (v : Waiting). going known onward (job_of texts later v) (hidden_lists texts later w2.full.items) left) (sym like)

pub join_is : (known : Known) (later : Sets) (old new : List Waiting) (w w2 : Waiting) (v : Vec HiddenToken Global) (r : Result Level Refusal) → w2 ≡ record w { full = w2.full } → w2.full.items ≡ w.full.items ++ v ∷ [] → ProceedIs known later old w2 r new → JoinIs known later old w v.items r new
join_is known later old new w w2 v (Ok made) like full_is h =
    λ onward left. h onward left ∙ ap (resume known onward later old) (sym (joins_is known later w w2 v like full_is (onward_in known onward old) left))
join_is known later old new w w2 v (Err Memory) like full_is h = tt
join_is known later old new w w2 v (Err (At c pos)) like full_is h =
    λ onward left. joins_is known later w w2 v like full_is onward left ∙ h onward left
join_is known later old new w w2 v (Err (Told c pos text)) like full_is h = h

-- ---- the beginning of a replacement

module _ (known : Known) (later : Sets) (old new : List Waiting) (level : Level) (k : Task) (r : Replacement) (task : IsTask known.texts later k level.rest.items r) where
  abbrev out : List Hidden
  out = hidden_all known.texts later level.out.items

  -- the task's job is that of the replacement
  going_begun : (w : Waiting) → w.level ≡ level → w.space_before ≡ k.space_before → w.at ≡ k.at → w.hides ≡ k.hides → w.arguments ≡ k.arguments → w.full.items ≡ [] → pieces_of r.call ≡ Ok (pieces_as known.texts later w.pieces.items) → (onward : Onward) (left : ℕ) → waiting_going known onward later w left ≡ made_in known onward later level r left
  going_begun w l s a h g f p onward left =
      let j : job_of known.texts later w ≡ record { out = out; space = r.name.token.space_before; at = r.call.at; hides = r.hides; arguments = r.call.arguments; pieces = pieces_as known.texts later w.pieces.items; rest = r.rest; ending = ending_of level.end } =
      ap (λ (z : Level). let j : Job = record { out = hidden_all known.texts later z.out.items; space = w.space_before; at = w.at; hides = spelled known.texts (members later w.hides); arguments = hidden_lists known.texts later w.arguments.items; pieces = pieces_as known.texts later w.pieces.items; rest = hidden_all known.texts later z.rest.items; ending = ending_of z.end } in j) l
      ∙ ap (λ (z : Bool). let j : Job = record { out = out; space = z; at = w.at; hides = spelled known.texts (members later w.hides); arguments = hidden_lists known.texts later w.arguments.items; pieces = pieces_as known.texts later w.pieces.items; rest = hidden_all known.texts later level.rest.items; ending = ending_of level.end } in j) (s ∙ sym task.space_is)
      ∙ ap (λ (z : Pos). let j : Job = record { out = out; space = r.name.token.space_before; at = z; hides = spelled known.texts (members later w.hides); arguments = hidden_lists known.texts later w.arguments.items; pieces = pieces_as known.texts later w.pieces.items; rest = hidden_all known.texts later level.rest.items; ending = ending_of level.end } in j) (a ∙ sym task.at_is)
      ∙ ap (λ (z : List (List ℕ)). let j : Job = record { out = out; space = r.name.token.space_before; at = r.call.at; hides = z; arguments = hidden_lists known.texts later w.arguments.items; pieces = pieces_as known.texts later w.pieces.items; rest = hidden_all known.texts later level.rest.items; ending = ending_of level.end } in j) (ap (λ n. spelled known.texts (members later n)) h ∙ sym task.hides_are)
      ∙ ap (λ (z : List (List Hidden)). let j : Job = record { out = out; space = r.name.token.space_before; at = r.call.at; hides = r.hides; arguments = z; pieces = pieces_as known.texts later w.pieces.items; rest = hidden_all known.texts later level.rest.items; ending = ending_of level.end } in j) (ap (λ (v : Vec (Vec HiddenToken Global) Global). hidden_lists known.texts later v.items) g ∙ sym task.arguments_are)
      ∙ ap (λ (z : List Hidden). let j : Job = record { out = out; space = r.name.token.space_before; at = r.call.at; hides = r.hides; arguments = r.call.arguments; pieces = pieces_as known.texts later w.pieces.items; rest = z; ending = ending_of level.end } in j) (sym task.rest_is) in
      ap (λ j. going known onward j (hidden_lists known.texts later w.full.items) left) j ∙ ap (λ f. going known onward (record { out = out; space = r.name.token.space_before; at = r.call.at; hides = r.hides; arguments = r.call.arguments; pieces = pieces_as known.texts later w.pieces.items; rest = r.rest; ending = ending_of level.end }) (hidden_lists known.texts later f) left) f ∙ sym (made_going known out r (ending_of level.end) left onward (pieces_as known.texts later w.pieces.items) p)

  pub begin_is : (w : Waiting) → w.level ≡ level → w.space_before ≡ k.space_before → w.at ≡ k.at → w.hides ≡ k.hides → w.arguments ≡ k.arguments → w.full.items ≡ [] → pieces_of r.call ≡ Ok (pieces_as known.texts later w.pieces.items) → (made : Result Level Refusal) → ProceedIs known later old w made new → BeginIs known later old level r made new
  begin_is w l s a h g f p (Ok made) q =
      λ onward left. q onward left ∙ ap (resume known onward later old) (going_begun w l s a h g f p (onward_in known onward old) left)
  begin_is w l s a h g f p (Err Memory) q = tt
  begin_is w l s a h g f p (Err (At c pos)) q = λ onward left. sym (going_begun w l s a h g f p onward left) ∙ q onward left
  begin_is w l s a h g f p (Err (Told c pos text)) q = q

  -- the call by the parts of the task
  pub pieces_same : (seen : List (Vec HiddenToken Global)) → seen ≡ k.arguments.items → pieces_of (record { macro = r.call.macro; at = k.at; arguments = hidden_lists known.texts later seen }) ≡ pieces_of r.call
  pieces_same seen e =
      ap (λ (at : Pos). pieces_of (record { macro = r.call.macro; at = at; arguments = hidden_lists known.texts later seen })) (sym task.at_is) ∙ ap (λ (l : List (List Hidden)). pieces_of (record { macro = r.call.macro; at = r.call.at; arguments = l })) (ap (hidden_lists known.texts later) e ∙ sym task.arguments_are)

  begin_fails_at : (f : Refusal) → GivesPieces known.texts later k.at (Err f) (pieces_of r.call) → BeginIs known later old level r (Err f) new
  begin_fails_at Memory h = tt
  begin_fails_at (At c pos) h = λ onward left. ap (λ (m : Answer). m >>= λ a. onward out a.0 (ending_of level.end) a.1) (made_refused known out r (ending_of level.end) left c h.1) ∙ ap (λ (p : Pos). let r : Answer = Err (record { code = c; at = p }) in r) (task.at_is ∙ sym h.0)
  begin_fails_at (Told c pos text) h = h

  pub begin_fails : (seen : List (Vec HiddenToken Global)) → seen ≡ k.arguments.items → (f : Refusal) → GivesPieces known.texts later k.at (Err f) (pieces_of (record { macro = r.call.macro; at = k.at; arguments = hidden_lists known.texts later seen })) → BeginIs known later old level r (Err f) new
  begin_fails seen e f h =
      begin_fails_at f (subst (λ p. GivesPieces known.texts later k.at (Err f) p) (pieces_same seen e) h)

-- ---- loops

-- how the current argument is used
pub used_as : (count : ℕ) (w : Waiting) → WaitingIn count w → (i : ℕ) → i ≡ length w.full.items → length w.full.items < length w.arguments.items → (used : Use) → used ≡ get_or w.uses.items i used → (texts : Texts) (sets : Sets) → used ≡ use_of (length w.full.items) (pieces_as texts sets w.pieces.items)
used_as count w known i n inside used g texts sets =
    use_is w.uses.items (length w.full.items) used _ (known.uses_are texts sets (length w.full.items) inside) (omega (arith, inside, known.uses_count)) (subst (λ m. used ≡ get_or w.uses.items m used) n g)

argument_in : (count : ℕ) (vs : List (Vec HiddenToken Global)) (i : ℕ) (v : Vec HiddenToken Global) → slice_get vs i ≡ Some v → ListsIn count vs → AreIn count v.items
argument_in count [] i v e h = let z : ⊥ = cc in absurd z
argument_in count (u ∷ vs) zero v e h =
    let q : u ≡ v = cc in subst (λ (u : Vec HiddenToken Global). AreIn count u.items) q h.0
argument_in count (u ∷ vs) (suc i) v e h = argument_in count vs i v e h.1

set_in : (count : ℕ) (vs : List (Vec HiddenToken Global)) (i : ℕ) (v : Vec HiddenToken Global) → v.items ≡ [] → ListsIn count vs → ListsIn count (slice_set vs i v)
set_in count [] i v e h = tt
set_in count (u ∷ vs) zero v e h = (subst (λ l. AreIn count l) (sym e) tt, h.1)
set_in count (u ∷ vs) (suc i) v e h = (h.0, set_in count vs i v e h.1)

taken_lists : (count : ℕ) (old : List (Vec HiddenToken Global)) (i : ℕ) (keeps : Bool) (list : List HiddenToken) (new : List (Vec HiddenToken Global)) → ListsIn count old → TakesArgument old i keeps list new → AreIn count list × ListsIn count new × (length new ≡ length old)
taken_lists count old i true list new h t =
    (subst (λ l. AreIn count l) (sym t.2) (argument_in count old i t.0 t.1 h), subst (λ vs. ListsIn count vs) (sym t.3) h, ap length t.3)
taken_lists count old i false list new h t =
    (subst (λ l. AreIn count l) (sym t.2) (argument_in count old i t.0 t.1 h), subst (λ vs. ListsIn count vs) (sym t.3.1.1) (set_in count old i t.3.0 t.3.1.0 h), ap length t.3.1.1 ∙ length-set old i t.3.0)

pub taken_in : (count : ℕ) (w : Waiting) → WaitingIn count w → (i : ℕ) (keeps : Bool) (list : List HiddenToken) (new : Vec (Vec HiddenToken Global) Global) → TakesArgument w.arguments.items i keeps list new.items → AreIn count list × WaitingIn count (record w { arguments = new })
taken_in count w known i keeps list new t =
    let k = taken_lists count w.arguments.items i keeps list new.items known.arguments_in t in (
      k.0,
      record {
        level_in = known.level_in;
        hides_in = known.hides_in;
        arguments_in = k.1;
        full_in = known.full_in;
        pieces_in = known.pieces_in;
        uses_count = known.uses_count ∙ sym k.2;
        uses_are = λ texts sets n h. known.uses_are texts sets n (omega (arith, h, k.2));
      },
    )

pub taken_length : (count : ℕ) (w : Waiting) → WaitingIn count w → (i : ℕ) (keeps : Bool) (list : List HiddenToken) (new : Vec (Vec HiddenToken Global) Global) → TakesArgument w.arguments.items i keeps list new.items → length new.items ≡ length w.arguments.items
taken_length count w known i keeps list new t =
    (taken_lists count w.arguments.items i keeps list new.items known.arguments_in t).2

-- the end of a replacement leaves the waiting replacements unchanged
pub proceed_from : (known : Known) (later : Sets) (old new : List Waiting) (w0 w : Waiting) (r : Result Level Refusal) → new ≡ old → ((onward : Onward) (left : ℕ) → waiting_going known onward later w0 left ≡ waiting_going known onward later w left) → ProceedIs known later [] w r [] → ProceedIs known later old w0 r new
proceed_from known later old new w0 w (Ok level) e same h =
    λ onward left. ap (λ ws. level_behind known onward later ws level left) e ∙ ap (resume known onward later old) (h (onward_in known onward old) left ∙ sym (same (onward_in known onward old) left))
proceed_from known later old new w0 w (Err Memory) e same h = tt
proceed_from known later old new w0 w (Err (At c pos)) e same h = λ onward left. same onward left ∙ h onward left
proceed_from known later old new w0 w (Err (Told c pos text)) e same h = h

pub skipped_in : (count : ℕ) (w : Waiting) → WaitingIn count w → (empty : Vec HiddenToken Global) (full : Vec (Vec HiddenToken Global) Global) → empty.items ≡ [] → full.items ≡ w.full.items ++ empty ∷ [] → WaitingIn count (record w { full = full })
skipped_in count w known empty full n e = record {
  level_in = known.level_in;
  hides_in = known.hides_in;
  arguments_in = known.arguments_in;
  full_in = subst (λ vs. ListsIn count vs) (sym e) (lists_in_append count w.full.items (empty ∷ []) known.full_in (subst (λ l. AreIn count l) (sym n) tt, tt));
  pieces_in = known.pieces_in;
  uses_count = known.uses_count;
  uses_are = known.uses_are;
}

pub joined_in : (count : ℕ) (w : Waiting) → WaitingIn count w → (argument : Vec HiddenToken Global) (full : Vec (Vec HiddenToken Global) Global) → AreIn count argument.items → full.items ≡ w.full.items ++ argument ∷ [] → WaitingIn count (record w { full = full })
joined_in count w known argument full n e = record {
  level_in = known.level_in;
  hides_in = known.hides_in;
  arguments_in = known.arguments_in;
  full_in = subst (λ vs. ListsIn count vs) (sym e) (lists_in_append count w.full.items (argument ∷ []) known.full_in (n, tt));
  pieces_in = known.pieces_in;
  uses_count = known.uses_count;
  uses_are = known.uses_are;
}

pub level_known : (count : ℕ) (r : Result Level Refusal) (ws : List Waiting) → IfOk r (λ l. LevelIn count l) → WaitingsIn count ws → IfOk r (λ l. LevelIn count l × WaitingsIn count ws)
level_known count (Ok l) ws h k = (h, k)
level_known count (Err f) ws h k = tt

-- how much is left where one more argument is expanded
pub join_weight : (w : Waiting) (argument : Vec HiddenToken Global) (full : Vec (Vec HiddenToken Global) Global) → full.items ≡ w.full.items ++ argument ∷ [] → (old new : List Waiting) (r : Result Level Refusal) → IfOk r (λ _. weights new ≤ weights old + weight (record w { full = full })) → IfOk r (λ _. length w.arguments.items ≤ length full.items → weights new ≤ weights old) → IfOk r (λ _. weights new < weights old + weight w)
join_weight w argument full e old new (Ok l) h k =
    let m : length full.items ≡ suc (length w.full.items) = omega (arith, ap length e, length-append w.full.items (argument ∷ [])) in
    ⊎_elim (λ (lt : length full.items < length w.arguments.items). omega (arith, h, lt, m)) (λ (le : length w.arguments.items ≤ length full.items). omega (arith, k le)) (cases_lt (length full.items) (length w.arguments.items))
join_weight w argument full e old new (Err f) h k = tt

pub begun_in : (count : ℕ) (level : Level) (k : Task) (uses : Vec Use Global) (pieces : Vec HeldPiece Global) (full : Vec (Vec HiddenToken Global) Global) (seen : List HeldPiece) → LevelIn count level → TaskIn count k → PiecesIn 0 pieces.items → full.items ≡ [] → length uses.items ≡ length k.arguments.items → seen ≡ pieces.items → ((texts : Texts) (sets : Sets) (i : ℕ) → i < length k.arguments.items → slice_get uses.items i ≡ Some (use_of i (pieces_as texts sets seen))) → WaitingIn count (record { level = level; space_before = k.space_before; at = k.at; hides = k.hides; arguments = k.arguments; uses = uses; pieces = pieces; full = full })
begun_in count level k uses pieces full seen l t p none n e each = record {
  level_in = l;
  hides_in = t.hides_in;
  arguments_in = t.arguments_in;
  full_in = subst (λ vs. ListsIn count vs) (sym none) tt;
  pieces_in = pieces_in_more 0 count (omega arith) pieces.items p;
  uses_count = n;
  uses_are = λ texts sets i h. each texts sets i h ∙ ap (λ ps. Some (use_of i (pieces_as texts sets ps))) e;
}
