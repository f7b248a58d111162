-- The meaning of the replacements whose arguments are being expanded.
use Rattle.std.specs.Prelude.{◌≡◌, ℕ, suc, ◌+◌, ◌-◌, ◌<◌, ◌≤◌, List, [], ◌∷◌, ◌++◌, length, drop, slice_set, Bool, true, false, Some, None, Result, Ok, Err, Vec, slice_get}
use Rattle.std.specs.declared.alloc.Global.{Global}
use Rattle.srcset.specs.NameTable.{Texts}
use Rattle.srcset.specs.declared.refusal.Pos.{Pos}
use Rattle.srcset.specs.declared.refusal.Refusal.{Refusal}
use Rattle.srcset.specs.declared.refusal.Refusal.TheVariants.{Memory, At, Told}
use Rattle.macros_substitution.specs.Substitution.{◌>>=◌, Hidden, Piece, Call, marked, hiding, substituted}
use Rattle.macros_substitution.specs.HideSets.{Sets, members, spelled}
use Rattle.macros_substitution.specs.Meaning.{hidden_all, hidden_lists, pieces_as, use_of, ListsIn, PiecesIn}
use Rattle.macros_substitution.specs.declared.piece.HiddenToken.{HiddenToken}
use Rattle.pp_expand.specs.declared.level.Level.{Level}
use Rattle.pp_expand.specs.declared.waiting.Waiting.{Waiting}
use Rattle.pp_expand.specs.Expansion.{Ending, Known, Answer, Fault, Replacement, arguments_expanded, at_place}
use Rattle.pp_expand.specs.Expands.{ending_of}
use Rattle.pp_expand.specs.Pulled.{expanding, made_by}
use Rattle.pp_expand.specs.Meaning.{with_list, LevelIn, Refuses}

-- A replacement in pieces, and the list that contains it.
pub record Job : Type 0 where
  pub out : List Hidden
  pub space : Bool
  pub at : Pos
  pub hides : List (List ℕ)
  pub arguments : List (List Hidden)
  pub pieces : List Piece
  pub rest : List Hidden
  pub ending : Ending

-- the call, whose macro is in pieces already
abbrev pub call_of : Pos → List (List Hidden) → Call
call_of at arguments = record { macro = record { parameters = None; body = [] }; at = at; arguments = arguments }

abbrev pub front_by : Job → List Hidden → List Hidden
front_by j new = marked j.space (hiding j.hides new) ++ j.rest

-- The continuation of a list: its tokens done already, the rest of it, where it ends, and the number of replacements left.
abbrev pub Onward : Type 0
Onward = List Hidden → List Hidden → Ending → ℕ → Answer

-- an argument is expanded to its end
abbrev pub to_end : Known → Onward
to_end known out xs ending left = with_list out (expanding known xs ending left)

-- of the outermost list the rest is the result, once nothing waits
abbrev pub the_rest : Onward
the_rest out xs ending left = Ok (xs, left)

-- the result of the arguments' expansions
unfoldable pub after_arguments : Onward → Job → List (List Hidden) → Result (List (List Hidden) × ℕ) Fault → Answer
after_arguments onward j full r =
    r >>= λ s. at_place j.at (substituted (call_of j.at j.arguments) (full ++ s.0) j.pieces) >>= λ new. onward j.out (front_by j new) j.ending s.1

-- these arguments are expanded, and the others are still to be
unfoldable pub going : Known → Onward → Job → List (List Hidden) → ℕ → Answer
going known onward j full left =
    after_arguments onward j full (arguments_expanded (expanding known) j.pieces (length full) (drop (length full) j.arguments) left)

-- the next argument expands to this
unfoldable pub taken_up : Known → Onward → Job → List (List Hidden) → Answer → Answer
taken_up known onward j full a =
    after_arguments onward j full (a >>= λ r. arguments_expanded (expanding known) j.pieces (suc (length full)) (drop (suc (length full)) j.arguments) r.1 >>= λ s. Ok (r.0 ∷ s.0, s.1))

abbrev pub job_of : Texts → Sets → Waiting → Job
job_of texts sets w = record {
  out = hidden_all texts sets w.level.out.items;
  space = w.space_before;
  at = w.at;
  hides = spelled texts (members sets w.hides);
  arguments = hidden_lists texts sets w.arguments.items;
  pieces = pieces_as texts sets w.pieces.items;
  rest = hidden_all texts sets w.level.rest.items;
  ending = ending_of w.level.end;
}

abbrev pub waiting_going : Known → Onward → Sets → Waiting → ℕ → Answer
waiting_going known onward sets w left =
    going known onward (job_of known.texts sets w) (hidden_lists known.texts sets w.full.items) left

abbrev pub resume_one : Known → Onward → Sets → Waiting → Answer → Answer
resume_one known onward sets w a =
    taken_up known onward (job_of known.texts sets w) (hidden_lists known.texts sets w.full.items) a

-- the innermost list is last; the first one is in the outermost list
abbrev pub resume : Known → Onward → Sets → List Waiting → Answer → Answer
resume known onward sets [] a = a
resume known onward sets (w ∷ ws) a = resume_one known onward sets w (resume known (to_end known) sets ws a)

-- the continuation of a list in which these wait
abbrev pub onward_in : Known → Onward → List Waiting → Onward
onward_in known onward [] = onward
onward_in known onward (w ∷ ws) = to_end known

abbrev pub level_onward : Texts → Onward → Sets → Level → ℕ → Answer
level_onward texts onward sets l left =
    onward (hidden_all texts sets l.out.items) (hidden_all texts sets l.rest.items) (ending_of l.end) left

-- the continuation of a level, and of a replacement, in which these wait
abbrev pub level_behind : Known → Onward → Sets → List Waiting → Level → ℕ → Answer
level_behind known onward sets ws l left =
    resume known onward sets ws (level_onward known.texts (onward_in known onward ws) sets l left)

abbrev pub waiting_behind : Known → Onward → Sets → List Waiting → Waiting → ℕ → Answer
waiting_behind known onward sets ws w left =
    resume known onward sets ws (waiting_going known (onward_in known onward ws) sets w left)

-- ---- how much work is left

abbrev pub weight : Waiting → ℕ
weight w = suc (length w.arguments.items - length w.full.items)

abbrev pub weights : List Waiting → ℕ
weights [] = 0
weights (w ∷ ws) = weight w + weights ws

-- ---- the hide sets and the uses of a replacement

pub record WaitingIn (count : ℕ) (w : Waiting) : Type 0 where
  pub level_in : LevelIn count w.level
  pub hides_in : w.hides ≤ count
  pub arguments_in : ListsIn count w.arguments.items
  pub full_in : ListsIn count w.full.items
  pub pieces_in : PiecesIn count w.pieces.items
  pub uses_count : length w.uses.items ≡ length w.arguments.items
  pub uses_are : (texts : Texts) (sets : Sets) (i : ℕ) → i < length w.arguments.items → slice_get w.uses.items i ≡ Some (use_of i (pieces_as texts sets w.pieces.items))

abbrev pub WaitingsIn : ℕ → List Waiting → Type 0
WaitingsIn count [] = Unit {0}
WaitingsIn count (w ∷ ws) = WaitingIn count w × WaitingsIn count ws

-- ---- steps

-- a replacement goes on to a level in which its next argument, or the list after it, is expanded
abbrev pub ProceedIs : Known → Sets → List Waiting → Waiting → Result Level Refusal → List Waiting → Type 0
ProceedIs known sets old w (Ok level) new =
    (onward : Onward) (left : ℕ) → level_behind known onward sets new level left ≡ waiting_behind known onward sets old w left
ProceedIs known sets old w (Err Memory) new = Unit {0}
ProceedIs known sets old w (Err (At c pos)) new =
    (onward : Onward) (left : ℕ) → waiting_going known onward sets w left ≡ Err (record { code = c; at = pos })
ProceedIs known sets old w (Err (Told c pos text)) new = ⊥

-- the result of a replacement in a level
abbrev pub made_in : Known → Onward → Sets → Level → Replacement → ℕ → Answer
made_in known onward sets level r left =
    made_by (expanding known) r left >>= λ a. onward (hidden_all known.texts sets level.out.items) a.0 (ending_of level.end) a.1

-- a task begins
abbrev pub BeginIs : Known → Sets → List Waiting → Level → Replacement → Result Level Refusal → List Waiting → Type 0
BeginIs known sets old level r (Ok made) new =
    (onward : Onward) (left : ℕ) → level_behind known onward sets new made left ≡ resume known onward sets old (made_in known (onward_in known onward old) sets level r left)
BeginIs known sets old level r (Err Memory) new = Unit {0}
BeginIs known sets old level r (Err (At c pos)) new =
    (onward : Onward) (left : ℕ) → made_in known onward sets level r left ≡ Err (record { code = c; at = pos })
BeginIs known sets old level r (Err (Told c pos text)) new = ⊥

-- an argument's expansion goes to its replacement
abbrev pub JoinIs : Known → Sets → List Waiting → Waiting → List HiddenToken → Result Level Refusal → List Waiting → Type 0
JoinIs known sets old w argument (Ok made) new =
    (onward : Onward) (left : ℕ) → level_behind known onward sets new made left ≡ resume known onward sets old (resume_one known (onward_in known onward old) sets w (Ok (hidden_all known.texts sets argument, left)))
JoinIs known sets old w argument (Err Memory) new = Unit {0}
JoinIs known sets old w argument (Err (At c pos)) new =
    (onward : Onward) (left : ℕ) → resume_one known onward sets w (Ok (hidden_all known.texts sets argument, left)) ≡ Err (record { code = c; at = pos })
JoinIs known sets old w argument (Err (Told c pos text)) new = ⊥

-- one step of the innermost list
abbrev pub GoesOnAs : Known → Sets → List Waiting → Level → ℕ → Result Level Refusal → List Waiting → ℕ → Type 0
GoesOnAs known sets old level left (Ok made) new after =
    (onward : Onward) → level_behind known onward sets old level left ≡ level_behind known onward sets new made after
GoesOnAs known sets old level left (Err Memory) new after = Unit {0}
GoesOnAs known sets old level left (Err (At c pos)) new after =
    (onward : Onward) → level_behind known onward sets old level left ≡ Err (record { code = c; at = pos })
GoesOnAs known sets old level left (Err (Told c pos text)) new after = ⊥

-- a list is left in which a replacement is made, with `left` replacements left
abbrev pub MakesAs : {A : Type 0} → Texts → Sets → Result A Refusal → List HiddenToken → ℕ → Answer → Type 0
MakesAs texts sets (Ok u) list left answer = answer ≡ Ok (hidden_all texts sets list, left)
MakesAs texts sets (Err refusal) list left answer = Refuses refusal answer

-- the argument at an index is handed out, and is empty from then on unless it is kept
abbrev pub TakesArgument : List (Vec HiddenToken Global) → ℕ → Bool → List HiddenToken → List (Vec HiddenToken Global) → Type 0
TakesArgument old i keeps list new =
    (argument : Vec HiddenToken Global) × (slice_get old i ≡ Some argument) × (list ≡ argument.items) × LeavesArguments old i keeps new
  where
    LeavesArguments : List (Vec HiddenToken Global) → ℕ → Bool → List (Vec HiddenToken Global) → Type 0
    LeavesArguments old i true new = new ≡ old
    LeavesArguments old i false new = (empty : Vec HiddenToken Global) × ((empty.items ≡ []) × (new ≡ slice_set old i empty))
