-- The relation of instructions to the statement (ISO/IEC 9899:2011 6.8), the function or the program that they are the code of.
--
-- `out` and `again` are the positions where `break` and `continue` go. A function has one Return, which is long in machine code, at `back`.
-- Each full expression has all temporaries and slots.
use Rattle.std.specs.Prelude.{◌≡◌, ℕ, zero, suc, ◌+◌, Bool, true, false, ◌&&◌, max, nat_le, nat_lt, nat_eq, ℤ, List, [], ◌∷◌, ◌++◌, length, map, Option, Some, None, slice_get, ◌⊎◌}
use Rattle.ctypes.specs.declared.types.IntType.{IntType}
use Rattle.typing_spec.specs.Types.{ObjectType}
use Rattle.typing_spec.specs.Program as typed
use Rattle.typing_spec.specs.Program.{Place, Value, Initialiser, Statement, Statements}
use Rattle.csem.specs.Statements.{labels_at, labels_of}
use Rattle.tac_code.specs.declared.code.Operand.{Operand}
use Rattle.tac_code.specs.declared.code.Operand.TheVariants as operand
use Rattle.tac_code.specs.declared.code.Target.{Target}
use Rattle.tac_code.specs.declared.code.Target.TheVariants as target
use Rattle.tac_code.specs.declared.code.Place.{Place as Spot}
use Rattle.tac_code.specs.declared.code.Place.TheVariants as place
use Rattle.tac_code.specs.declared.code.Reading.TheVariants as reading
use Rattle.tac_code.specs.declared.code.Comparison.TheVariants as comparison
use Rattle.tac_code.specs.declared.code.Instruction.{Instruction}
use Rattle.tac_code.specs.declared.code.Instruction.TheVariants as instruction
use Rattle.tac_code.specs.Code.{Function, Program, function_at}
use Rattle.tac_code.specs.Run.{word_for}
use Rattle.tac_code.specs.Lowered.{kind_of}
use Rattle.lower_correct.specs.Values.{keeps, waits_in, operand_of, Nowhere, If, mode_of}
use Rattle.lower_correct.specs.Places.{size_of_place}
use Rattle.lower_correct.specs.Code.{One, Converts, Into}
use Rattle.lower_correct.specs.Initialisers.{Fills}

-- object x is one of the k objects from number n on
abbrev pub is_within : ℕ → ℕ → ℕ → Bool
is_within n k x = nat_le n x && nat_lt x (n + k)

-- 6.2.4p6: the objects of a switch become indeterminate after its value, if it has any; its value then waits in a slot, since no temporary has a value after that
abbrev pub has_objects : (count : ℕ) → Bool
has_objects zero = false
has_objects (suc k) = true

abbrev pub forgets : (first count : ℕ) → Instruction
forgets first zero = instruction.Nothing
forgets first (suc k) = instruction.Forget first (suc k)

-- the positions of the labels that a statement is
abbrev pub label_places : Statement → ℕ → List ℕ
label_places x pc = map (λ l. pc) (labels_at x)

module _ (code : List Instruction) where
  -- 6.8.4.2p5: the tests of the labels, which are at these places; the last default, or `default` where there is none
  abbrev pub Tests : Operand → List (Option ℤ) → List ℕ → (default : ℕ) → ℕ → ℕ → Type 0
  Tests o [] places default pc pc2 = One code (instruction.Jump default) pc pc2
  Tests o (l ∷ labels) [] default pc pc2 = ⊥
  Tests o (None ∷ labels) (p ∷ places) default pc pc2 = Tests o labels places p pc pc2
  Tests o (Some c ∷ labels) (p ∷ places) default pc pc2 =
      (p1 : ℕ) × One code (instruction.Branch comparison.Equal reading.Signed o (operand.Constant (word_for c)) p) pc p1
      × Tests o labels places default p1 pc2

  -- 6.8.6.4: a return goes to the one Return of its function, or falls through to it
  abbrev pub Leaves : (back : ℕ) → ℕ → ℕ → Type 0
  Leaves back pc pc2 = ((pc ≡ pc2) × (pc ≡ back)) ⊎ One code (instruction.Jump back) pc pc2

  -- f is the function, of program p, that the statements are of
  module _ (p : typed.Program) (f : typed.Function) where
    -- one value to a target, converted (6.5.16.1, 6.8.6.4p3)
    abbrev pub Gives : IntType → Value → Target → ℕ → ℕ → Type 0
    Gives u e g pc pc2 = Converts code (keeps u e) (λ m a b. Into code (size_of_place p f) e m 0 0 a b) u (operand_of e 0 0) g pc pc2

    -- object n, which is no array, gets its first value, which costs a tick after its expression (6.7.9p11); a text or a list is none, and no
    -- checked program has it
    abbrev pub InitialisesWord : Initialiser → ℕ → ℕ → ℕ → Type 0
    InitialisesWord (typed.one_value u e) n pc pc2 = (p1 : ℕ) × Gives u e (target.Object n) pc p1 × One code instruction.Nothing p1 pc2
    InitialisesWord (typed.text literal) n pc pc2 = One code instruction.Nothing pc pc2
    InitialisesWord (typed.in_braces i) n pc pc2 = (p1 : ℕ) × One code instruction.Nothing pc p1 × InitialisesWord i n p1 pc2
    InitialisesWord (typed.list all) n pc pc2 = One code instruction.Nothing pc pc2

    -- object n, of this element type and these lengths; an array from its first element on (6.7.9p14, p17)
    abbrev pub InitialisesObject : IntType → List ℕ → Initialiser → ℕ → ℕ → ℕ → Type 0
    InitialisesObject t [] i n pc pc2 = InitialisesWord i n pc pc2
    InitialisesObject t (k ∷ lengths) i n pc pc2 = Fills code p.literals (size_of_place p f) i t (k ∷ lengths) n 0 pc pc2

    -- the object that has this type, if any
    abbrev pub Initialises : Option ObjectType → Initialiser → ℕ → ℕ → ℕ → Type 0
    Initialises None i n pc pc2 = pc ≡ pc2
    Initialises (Some t) i n pc pc2 = InitialisesObject t.element t.lengths i n pc pc2

    -- an expression that may be left out: nothing is evaluated; a loop goes on
    abbrev pub Effects : Option Value → ℕ → ℕ → Type 0
    Effects None pc pc2 = pc ≡ pc2
    Effects (Some e) pc pc2 = Into code (size_of_place p f) e Nowhere 0 0 pc pc2

    abbrev pub Repeats : Option Value → ℕ → ℕ → ℕ → Type 0
    Repeats None top pc pc2 = One code (instruction.Jump top) pc pc2
    Repeats (Some e) top pc pc2 = Into code (size_of_place p f) e (If true top) 0 0 pc pc2

    abbrev mutual
      pub Stands : Statement → (out again back : ℕ) → ℕ → ℕ → Type 0
      Stands typed.empty out again back pc pc2 = One code instruction.Nothing pc pc2
      Stands (typed.evaluate e) out again back pc pc2 = (p1 : ℕ) × One code instruction.Nothing pc p1 × Into code (size_of_place p f) e Nowhere 0 0 p1 pc2
      -- 6.2.4p6: an object is indeterminate each time
      Stands (typed.declare n) out again back pc pc2 = One code (instruction.Forget n 1) pc pc2
      Stands (typed.define n i) out again back pc pc2 = (p1 : ℕ) × One code (instruction.Forget n 1) pc p1 × Initialises (slice_get f.objects n) i n p1 pc2
      Stands (typed.block first count all) out again back pc pc2 =
          (p1 : ℕ) × One code (instruction.Forget first count) pc p1 × StandAll all out again back p1 pc2
      Stands (typed.branch e a) out again back pc pc2 =
          (p1 p2 : ℕ) × One code instruction.Nothing pc p1 × Into code (size_of_place p f) e (If false pc2) 0 0 p1 p2 × Stands a out again back p2 pc2
      Stands (typed.branches e a b) out again back pc pc2 =
          (p1 p2 p3 other : ℕ) × One code instruction.Nothing pc p1 × Into code (size_of_place p f) e (If false other) 0 0 p1 p2 × Stands a out again back p2 p3
          × One code (instruction.Jump pc2) p3 other × Stands b out again back other pc2
      -- its objects are forgotten after its value, which waits in none of them
      Stands (typed.switch u e first count all) out again back pc pc2 =
          let o = waits_in e (is_within first count) (has_objects count) 0 0 in
          (p1 p2 p3 p4 : ℕ) × (places : List ℕ) × One code instruction.Nothing pc p1 × Into code (size_of_place p f) e (mode_of o) 0 0 p1 p2
          × One code (forgets first count) p2 p3 × Tests o (labels_of all) places pc2 p3 p4 × StandAt all places pc2 again back p4 pc2
      Stands (typed.case v) out again back pc pc2 = One code instruction.Nothing pc pc2
      Stands typed.default out again back pc pc2 = One code instruction.Nothing pc pc2
      -- a loop's test is after its body
      Stands (typed.while e a) out again back pc pc2 =
          (top at : ℕ) × One code (instruction.Jump at) pc top × Stands a pc2 at back top at × Into code (size_of_place p f) e (If true top) 0 0 at pc2
      Stands (typed.do_while a e) out again back pc pc2 =
          (top at : ℕ) × One code instruction.Nothing pc top × Stands a pc2 at back top at × Into code (size_of_place p f) e (If true top) 0 0 at pc2
      Stands (typed.for declared start test step a) out again back pc pc2 =
          (p1 p2 p3 top next at : ℕ) × One code instruction.Nothing pc p1 × StandAll declared pc2 pc2 back p1 p2 × Effects start p2 p3
          × One code (instruction.Jump at) p3 top × Stands a pc2 next back top next × Effects step next at × Repeats test top at pc2
      Stands typed.break out again back pc pc2 = One code (instruction.Jump out) pc pc2
      Stands typed.continue out again back pc pc2 = One code (instruction.Jump again) pc pc2
      Stands typed.return_nothing out again back pc pc2 = (p1 : ℕ) × One code instruction.Nothing pc p1 × Leaves back p1 pc2
      Stands (typed.return_value u e) out again back pc pc2 =
          (p1 p2 : ℕ) × One code instruction.Nothing pc p1 × Gives u e (target.Temporary 0) p1 p2 × Leaves back p2 pc2

      pub StandAll : Statements → (out again back : ℕ) → ℕ → ℕ → Type 0
      StandAll typed.no_statements out again back pc pc2 = pc ≡ pc2
      StandAll (typed.and_statement x more) out again back pc pc2 = (p1 : ℕ) × Stands x out again back pc p1 × StandAll more out again back p1 pc2

      -- the same, the labels among them standing at these places
      pub StandAt : Statements → List ℕ → (out again back : ℕ) → ℕ → ℕ → Type 0
      StandAt typed.no_statements places out again back pc pc2 = (places ≡ []) × (pc ≡ pc2)
      StandAt (typed.and_statement x more) places out again back pc pc2 =
          (p1 : ℕ) × (rest : List ℕ) × (places ≡ label_places x pc ++ rest) × Stands x out again back pc p1 × StandAt more rest out again back p1 pc2

  -- n instructions that do nothing: the definition and each parameter take a tick
  abbrev pub Idles : ℕ → ℕ → ℕ → Type 0
  Idles zero pc pc2 = pc ≡ pc2
  Idles (suc n) pc pc2 = (p1 : ℕ) × One code instruction.Nothing pc p1 × Idles n p1 pc2

  -- from the end of the body to the Return after it; 5.1.2.2.3p1: the end of main's body returns 0, 6.9.1p12: that of another nothing
  abbrev pub Closes : (is_main : Bool) → ℕ → ℕ → Type 0
  Closes true end back = One code (instruction.Move (target.Temporary 0) (operand.Constant 0)) end back
  Closes false end back = One code (instruction.Forget 0 0) end back

-- ---- functions

-- how many temporaries, and slots, an operand, a target and an instruction need
abbrev pub temporary_in : Operand → ℕ
temporary_in (operand.Temporary k) = suc k
temporary_in o = 0

abbrev pub kept_in : Operand → ℕ
kept_in (operand.Kept k) = suc k
kept_in o = 0

abbrev pub temporary_at : Spot → ℕ
temporary_at (place.At o) = temporary_in o
temporary_at a = 0

abbrev pub kept_at : Spot → ℕ
kept_at (place.At o) = kept_in o
kept_at a = 0

abbrev pub temporary_to : Target → ℕ
temporary_to (target.Temporary k) = suc k
temporary_to g = 0

abbrev pub kept_to : Target → ℕ
kept_to (target.Kept k) = suc k
kept_to g = 0

-- a call has its arguments in the first temporaries, and its result, a byte and a status are in temporary 0
abbrev pub temporaries_of : Program → Instruction → ℕ
temporaries_of q (instruction.Move g x) = max (temporary_to g) (temporary_in x)
temporaries_of q (instruction.Compute o r g x y) = max (temporary_to g) (max (temporary_in x) (temporary_in y))
temporaries_of q (instruction.Convert t g x) = max (temporary_to g) (temporary_in x)
temporaries_of q (instruction.Load t g a) = max (temporary_to g) (temporary_at a)
temporaries_of q (instruction.Store t x a) = max (temporary_in x) (temporary_at a)
temporaries_of q (instruction.Address g a) = max (temporary_to g) (temporary_at a)
temporaries_of q (instruction.Part g x y size) = max (temporary_to g) (max (temporary_in x) (temporary_in y))
temporaries_of q (instruction.Element t g x y) = max (temporary_to g) (max (temporary_in x) (temporary_in y))
temporaries_of q (instruction.Branch c r x y to) = max (temporary_in x) (temporary_in y)
temporaries_of q (instruction.Call f) = max 1 (length (function_at q f).parameters)
temporaries_of q instruction.PutByte = 1
temporaries_of q instruction.GetByte = 1
temporaries_of q instruction.Exit = 1
temporaries_of q instruction.Return = 1
temporaries_of q i = 0

abbrev pub slots_of : Instruction → ℕ
slots_of (instruction.Move g x) = max (kept_to g) (kept_in x)
slots_of (instruction.Compute o r g x y) = max (kept_to g) (max (kept_in x) (kept_in y))
slots_of (instruction.Convert t g x) = max (kept_to g) (kept_in x)
slots_of (instruction.Load t g a) = max (kept_to g) (kept_at a)
slots_of (instruction.Store t x a) = max (kept_in x) (kept_at a)
slots_of (instruction.Address g a) = max (kept_to g) (kept_at a)
slots_of (instruction.Part g x y size) = max (kept_to g) (max (kept_in x) (kept_in y))
slots_of (instruction.Element t g x y) = max (kept_to g) (max (kept_in x) (kept_in y))
slots_of (instruction.Branch c r x y to) = max (kept_in x) (kept_in y)
slots_of i = 0

abbrev pub most : (Instruction → ℕ) → List Instruction → ℕ
most size [] = 0
most size (i ∷ code) = max (size i) (most size code)

-- its code is that of its ticks at entry, its body, its end and its Return, and it has no more temporaries and slots than its code names
pub record IsFunctionFor (p : typed.Program) (q : Program) (is_main : Bool) (f : typed.Function) (g : Function) : Type 0 where
  pub start : ℕ
  pub end : ℕ
  pub back : ℕ
  pub idles : Idles g.code (suc (length f.type.parameters)) 0 start
  pub body : Stands g.code p f f.body end end back start end
  pub closes : Closes g.code is_main end back
  pub leaves : One g.code instruction.Return back (length g.code)
  pub objects : g.objects ≡ f.objects
  pub parameters : g.parameters ≡ map kind_of f.type.parameters
  pub result : g.result ≡ f.type.result
  pub temporaries : g.temporaries ≡ most (temporaries_of q) g.code
  pub kept : g.kept ≡ most slots_of g.code

pub record IsCodeFor (p : typed.Program) (q : Program) : Type 0 where
  pub literals : q.literals ≡ p.literals
  pub statics : q.statics ≡ p.statics
  pub main : q.main ≡ p.main
  pub count : length q.functions ≡ length p.functions
  pub each : (n : ℕ) (f : typed.Function) (g : Function) → slice_get p.functions n ≡ Some f → slice_get q.functions n ≡ Some g
      → IsFunctionFor p q (nat_eq n p.main) f g
