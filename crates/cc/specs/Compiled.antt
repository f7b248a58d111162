-- The promise of the compiler for a file that it returns: the sources are a program, and the file runs as that program does.
use Rattle.std.specs.Prelude.{◌≡◌, ℕ, List, [], ◌∷◌, String, Some, None, length, map, slice_get}
use Rattle.std.specs.String.{string_bytes}
use Rattle.std.specs.Global.{Global}
use Rattle.srcset.specs.Files.{Files}
use Rattle.srcset.specs.NameTable.{Texts, KeepsNumbers, NumbersOnce, shown_text}
use Rattle.phases.specs.Token.{Token as PpToken}
use Rattle.pp.specs.Preprocessed.{IsDone}
use Rattle.lexer.specs.CTokens.{ctokens}
use Rattle.lexer.specs.Numbering.{AreTokensOf}
use Rattle.lexer.specs.declared.token.Token.{Token}
use Rattle.tree.specs.Tree.{ExternalTree}
use Rattle.parser.specs.Units.{IsTreeWithin, IsOnly}
use Rattle.typing_spec.specs.Program.{Function, Program}
use Rattle.typing_spec.specs.Verdict.{Verdict, fine}
use Rattle.typing_spec.specs.Units.{unit_typed}
use Rattle.cc_backend.specs.Runs.{RunsAs}
use Rattle.cc.specs.declared.compiling.Built.{Built}

-- ---- the tokens, tree and program of a set of files from its main file on, phase by phase (ISO/IEC 9899:2011 5.1.1.2)

-- a table in which no text has two numbers, and the main file's name has one
pub record Numbers (texts : Texts) (name : List ℕ) : Type 0 where
  pub once : NumbersOnce texts
  pub file : ℕ
  pub named : slice_get texts file ≡ Some name

-- its preprocessing tokens, by phases 1 to 4; places name files by their numbers in this table, in which each name that matters has one: by
-- every table that has grown from an earlier one the tokens are the same
pub record HasList (set : Files) (name : List ℕ) (texts : Texts) (list : List PpToken) : Type 0 where
  pub numbers : Numbers texts name
  pub early : Texts
  pub keeps : KeepsNumbers early texts
  pub whole : (later : Texts) → KeepsNumbers early later → IsDone set later name list

-- its C tokens, by phases 5 to 7, with texts numbered by this table
pub record HasTokens (set : Files) (name : List ℕ) (texts : Texts) (tokens : List Token) : Type 0 where
  pub list : List PpToken
  pub has_list : HasList set name texts list
  pub no_fault : (ctokens list).fault ≡ None
  pub tokens_are : AreTokensOf texts (ctokens list).tokens tokens

-- the only tree of these tokens, and it is within the limits
pub record HasTree (set : Files) (name : List ℕ) (texts : Texts) (unit : List ExternalTree) : Type 0 where
  pub tokens : List Token
  pub has_tokens : HasTokens set name texts tokens
  pub tree : IsTreeWithin tokens unit
  pub only : IsOnly tokens unit

-- the typed program of a unit, for a stack of `stack` bytes, or the constraints that it breaks. A constraint on the unit as a whole is reported at line 1 of
-- the main file, whose name has this number
unfoldable pub typed_at : (stack : ℕ) → Texts → ℕ → List ExternalTree → Verdict Program
typed_at stack texts file unit = unit_typed stack texts (record { file = file; line = 1 }) unit

-- the typed program of a unit that breaks no constraint
pub record IsProgramOf (stack : ℕ) (name : List ℕ) (texts : Texts) (unit : List ExternalTree) (program : Program) : Type 0 where
  pub file : ℕ
  pub named : slice_get texts file ≡ Some name
  pub typed : typed_at stack texts file unit ≡ fine program

-- its only tree breaks no constraint, and this is its typed program
pub record HasProgram (stack : ℕ) (set : Files) (name : List ℕ) (texts : Texts) (unit : List ExternalTree) (program : Program) : Type 0 where
  pub has_tree : HasTree set name texts unit
  pub is_program : IsProgramOf stack name texts unit program

-- ---- the result

-- name, bytes and weight of an entry
abbrev pub shown_entry : String Global × ℕ × ℕ → List ℕ × ℕ × ℕ
shown_entry e = (string_bytes e.0, e.1, e.2)

abbrev pub frames_of : Built → List (List ℕ × ℕ × ℕ)
frames_of built = map shown_entry built.frames.items

-- of a function definition: its name, the bytes of its frame, its weight
abbrev pub entry_of : Texts → Function → ℕ → List ℕ × ℕ × ℕ
entry_of texts f n = (shown_text texts f.name, n, f.weight)

abbrev pub entries : Texts → List Function → List ℕ → List (List ℕ × ℕ × ℕ)
entries texts [] frames = []
entries texts (f ∷ fs) [] = []
entries texts (f ∷ fs) (n ∷ ns) = entry_of texts f n ∷ entries texts fs ns

-- a file that runs as a typed program does on a stack of `stack` bytes, and an entry for each of its functions
pub record BuildsProgram (stack : ℕ) (texts : Texts) (program : Program) (built : Built) : Type 0 where
  pub frames : List ℕ
  pub each : length frames ≡ length program.functions
  pub runs : RunsAs stack program frames built.elf.items
  pub entries_are : frames_of built ≡ entries texts program.functions frames

-- the set has a main file of this name, which has a tree that breaks no constraint for a stack of `stack` bytes, and the result is the file of its program,
-- with this stack
pub record Compiles (stack : ℕ) (set : Files) (name : List ℕ) (built : Built) : Type 0 where
  pub texts : Texts
  pub unit : List ExternalTree
  pub program : Program
  pub has_program : HasProgram stack set name texts unit program
  pub builds : BuildsProgram stack texts program built
