-- A condition read token by token with a stack of frames that wait for operands.
use Rattle.std.specs.Prelude.{ℕ, Bool, true, false, Option, Some, None, List, [], ◌∷◌, ◌≡◌, reverse, map, codes, nat_le, nat_lt, if◌then◌else◌, Result, Err}
use Rattle.std.specs.Map.{lookup}
use Rattle.std.specs.Str.{bytes_eq}
use Rattle.srcset.specs.declared.code.Code.{Code}
use Rattle.srcset.specs.declared.code.Code.TheVariants as code
use Rattle.phases.specs.Token.{Token}
use Rattle.pp_cond.specs.declared.operators.Operator.{Operator}
use Rattle.pp_cond.specs.declared.operators.PrefixOperator.{PrefixOperator}
use Rattle.pp_cond.specs.declared.operators.Role.{Role}
use Rattle.pp_cond.specs.declared.operators.Role.TheVariants.{Infix, Question, Colon, Close, Nothing}
use Rattle.pp_cond.specs.declared.frame.Frame.{Frame}
use Rattle.pp_cond.specs.declared.frame.Frame.TheVariants as frame
use Rattle.pp_cond.specs.declared.reader.Reader.{Reader}
use Rattle.pp_cond.specs.Condition.{prefixes, token_value, truth_or_fault}
use Rattle.pp_cond.specs.inside.Operands.{Known, known_of, known_option, known_constant, known_prefix, known_joined, known_choice}
use Rattle.pp_cond.specs.inside.Roles.{role_of, bound_of}

-- a frame that waits for an operand, or for the token after one
pub data Waits : Type 0 where
  open_parenthesis : Waits
  sign : (op : PrefixOperator) → Waits
  left : (level : ℕ) (op : Operator) (a : Known) → Waits
  asked : (c : Known) → Waits
  otherwise : (c a : Known) → Waits

-- the newest first, and the operand just read
pub record State : Type 0 where
  pub waiting : List Waits
  pub operand : Option Known

abbrev pub wait_of : Frame → Waits
wait_of frame.Open = open_parenthesis
wait_of (frame.Prefix op) = sign op
wait_of (frame.Left level op a) = left level op (known_of a)
wait_of (frame.Asked c) = asked (known_of c)
wait_of (frame.Otherwise c a) = otherwise (known_of c) (known_of a)

abbrev pub waits_of : List Frame → List Waits
waits_of frames = map wait_of (reverse frames)

abbrev pub state_of : Reader → State
state_of r = record { waiting = waits_of r.frames.items; operand = known_option r.operand }

-- ---- ending the frames that an operand ends

abbrev pub closes : ℕ → Waits → Bool
closes bound open_parenthesis = false
closes bound (sign op) = true
closes bound (left level op a) = nat_le level bound
closes bound (asked c) = false
closes bound (otherwise c a) = nat_lt 10 bound

abbrev pub combined : Waits → Known → Known
combined open_parenthesis b = b
combined (sign op) b = known_prefix op b
combined (left level op a) b = known_joined op a b
combined (asked c) b = b
combined (otherwise c a) b = known_choice c a b

pub record Closed : Type 0 where
  pub waiting : List Waits
  pub operand : Known

abbrev pub closed : ℕ → List Waits → Known → Closed
closed bound [] a = record { waiting = []; operand = a }
closed bound (w ∷ ws) a = if closes bound w then closed bound ws (combined w a) else record { waiting = w ∷ ws; operand = a }

-- ---- a token where an operand is wanted

abbrev pub constant_taken : List Waits → Option Known → Option State
constant_taken ws None = None
constant_taken ws (Some a) = Some (record { waiting = ws; operand = Some a })

abbrev pub primary_taken : List Waits → Bool → Option Known → Option State
primary_taken ws true v = Some (record { waiting = open_parenthesis ∷ ws; operand = None })
primary_taken ws false v = constant_taken ws v

abbrev pub prefix_taken : List Waits → Option PrefixOperator → Bool → Option Known → Option State
prefix_taken ws (Some op) p v = Some (record { waiting = sign op ∷ ws; operand = None })
prefix_taken ws None p v = primary_taken ws p v

abbrev pub wanted : List Waits → Token → Option State
wanted ws x = prefix_taken ws (lookup (bytes_eq x.spelling) prefixes) (bytes_eq x.spelling (codes "(")) (known_constant (token_value x))

-- ---- a token after an operand

abbrev pub separated : List Waits → Known → Option State
separated (asked c ∷ ws) a = Some (record { waiting = otherwise c a ∷ ws; operand = None })
separated _ a = None

abbrev pub parenthesis_closed : List Waits → Known → Option State
parenthesis_closed (open_parenthesis ∷ ws) a = Some (record { waiting = ws; operand = Some a })
parenthesis_closed _ a = None

abbrev pub followed : Role → Closed → Option State
followed (Infix level op) c = Some (record { waiting = left level op c.operand ∷ c.waiting; operand = None })
followed Question c = Some (record { waiting = asked c.operand ∷ c.waiting; operand = None })
followed Colon c = separated c.waiting c.operand
followed Close c = parenthesis_closed c.waiting c.operand
followed Nothing c = None

abbrev pub behind_as : Role → List Waits → Known → Option State
behind_as r ws a = followed r (closed (bound_of r) ws a)

abbrev pub behind : List Waits → Known → Token → Option State
behind ws a x = behind_as (role_of x.spelling) ws a

-- ---- a list of tokens

abbrev pub step_at : List Waits → Option Known → Token → Option State
step_at ws None x = wanted ws x
step_at ws (Some a) x = behind ws a x

abbrev pub step : State → Token → Option State
step s x = step_at s.waiting s.operand x

abbrev pub alone : List Waits → Known → Option Known
alone [] a = Some a
alone (w ∷ ws) a = None

abbrev pub alone_in : Closed → Option Known
alone_in c = alone c.waiting c.operand

abbrev pub ended : List Waits → Option Known → Option Known
ended ws None = None
ended ws (Some a) = alone_in (closed 11 ws a)

abbrev pub then_run : Option State → (State → Option Known) → Option Known
then_run None go = None
then_run (Some s) go = go s

abbrev pub run : List Token → State → Option Known
run [] s = ended s.waiting s.operand
run (x ∷ xs) s = then_run (step s x) (λ t. run xs t)

abbrev pub start : State
start = record { waiting = []; operand = None }

-- whether a step was taken, to this state
abbrev pub IsStep : Bool → Option State → State → Type 0
IsStep true next after = next ≡ Some after
IsStep false next after = next ≡ None

abbrev pub truth_known : Option Known → Result Bool Code
truth_known None = Err code.NotConstantCondition
truth_known (Some a) = truth_or_fault a.value
