-- The relation of written instructions to the statement that they are the code of.
use Rattle.std.specs.Prelude.{ℕ, List, Option}
use Rattle.typing_spec.specs.Types.{ObjectType}
use Rattle.typing_spec.specs.Program as typed
use Rattle.typing_spec.specs.Program.{Initialiser, Initialisers, Statement, Statements}
use Rattle.tac_code.specs.declared.code.Operand.{Operand}
use Rattle.tac_code.specs.declared.code.Instruction.{Instruction}
use Rattle.csem.specs.Statements.{labels_of}
use Rattle.lower_correct.specs.Places.{size_of_place}
use Rattle.lower_correct.specs.Initialisers.{Fills, FillAll}
use Rattle.lower_correct.specs.Bodies.{Stands, StandAll, StandAt, Tests, Initialises}
use Rattle.lower_ops.specs.layer.Parts.{Wrote}
use Rattle.tac.specs.inside.Places.{places_of}
use Rattle.tac.specs.declared.elements.Start.{Start}
use Rattle.tac.specs.inside.FirstSizes.{fills_size, fill_all_size, initialises_size}
use Rattle.tac.specs.inside.Sizes.{tests_size, statement_size, statements_size}

-- of a function of a program
module _ (p : typed.Program) (f : typed.Function) where
  abbrev pub WroteStatement : Statement → (out again back : ℕ) → (old new : List Instruction) → Type 0
  WroteStatement a out again back old new = Wrote (λ w pc pc2. Stands w p f a out again back pc pc2) (statement_size p f a) old new

  abbrev pub WroteStatements : Statements → (out again back : ℕ) → (old new : List Instruction) → Type 0
  WroteStatements all out again back old new = Wrote (λ w pc pc2. StandAll w p f all out again back pc pc2) (statements_size p f all) old new

  -- the same, each label of them standing where it was said
  abbrev pub WrotePlaced : Statements → (out again back : ℕ) → (old new : List Instruction) → Type 0
  WrotePlaced all out again back old new = Wrote (λ w pc pc2. StandAt w p f all (places_of p f all pc) out again back pc pc2) (statements_size p f all) old new

  -- the tests of labels among statements that are to be placed from `at` on
  abbrev pub WroteTests : Operand → Statements → (at other : ℕ) → (old new : List Instruction) → Type 0
  WroteTests o all at other old new = Wrote (λ w pc pc2. Tests w o (labels_of all) (places_of p f all at) other pc pc2) (tests_size (labels_of all)) old new

  -- ---- initialisers

  abbrev pub WroteFills : Initialiser → List ℕ → Start → (old new : List Instruction) → Type 0
  WroteFills i lengths a old new =
      Wrote (λ w pc pc2. Fills w p.literals (size_of_place p f) i a.element lengths a.array a.number pc pc2) (fills_size p.literals i lengths) old new

  -- `count` elements or rows of these lengths
  abbrev pub WroteFillAll : Initialisers → (count : ℕ) → List ℕ → Start → (old new : List Instruction) → Type 0
  WroteFillAll all count lengths a old new =
      Wrote (λ w pc pc2. FillAll w p.literals (size_of_place p f) all a.element count lengths a.array a.number pc pc2) (fill_all_size p.literals all count lengths) old new

  -- the object that has this type, if any
  abbrev pub WroteInitialises : Option ObjectType → Initialiser → ℕ → (old new : List Instruction) → Type 0
  WroteInitialises o i n old new = Wrote (λ w pc pc2. Initialises w p f o i n pc pc2) (initialises_size p.literals o i) old new
