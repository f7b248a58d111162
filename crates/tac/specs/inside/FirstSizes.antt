-- How many instructions the code of an initialiser has.
use Rattle.std.specs.Prelude.{ℕ, zero, suc, ◌*◌, min, nat_lt, Bool, true, false, ◌||◌, List, [], ◌∷◌, length, Option, Some, None, slice_get}
use Rattle.ctypes.specs.declared.types.IntType.{IntType}
use Rattle.typing_spec.specs.Types.{ObjectType, elements_in}
use Rattle.typing_spec.specs.Program as typed
use Rattle.typing_spec.specs.Program.{Value, Initialiser, Initialisers}
use Rattle.csem.specs.Statements.{first_length, inner_lengths, text_or_none}
use Rattle.lower_correct.specs.Values.{keeps}
use Rattle.lower_ops.specs.declared.modes.Shape.TheVariants as shape
use Rattle.lower_ops.specs.layer.Parts.{plus}
use Rattle.lower_ops.specs.layer.FormSizes.{converts_size, puts_size, cuts_for}
use Rattle.lower_exprs.specs.layer.Sizes.{value_size, rest_shape}

-- of an object that is no array
abbrev pub word_size : Initialiser → ℕ
word_size (typed.one_value u e) = plus (converts_size (keeps u e) (value_size e) (rest_shape e) shape.Object) 1
word_size (typed.text literal) = 1
word_size (typed.in_braces i) = plus 1 (word_size i)
word_size (typed.list all) = 1

-- ---- loops

abbrev pub goes_on_size : ℕ
goes_on_size = plus 1 1

abbrev pub clears_to_size : ℕ
clears_to_size = plus 1 (plus 1 goes_on_size)

abbrev pub copies_to_size : ℕ
copies_to_size = plus 1 (plus 1 (plus 1 (plus 1 goes_on_size)))

-- ---- stretches of elements

abbrev pub begins_size : ℕ
begins_size = plus 1 1

abbrev pub clears_size : ℕ → ℕ
clears_size zero = 0
clears_size (suc zero) = 1
clears_size (suc (suc c)) = plus begins_size clears_to_size

abbrev pub clears_rest_size : Bool → ℕ
clears_rest_size true = clears_to_size
clears_rest_size false = 0

abbrev pub copies_first_size : ℕ → ℕ
copies_first_size zero = 0
copies_first_size (suc c) = copies_to_size

abbrev pub copies_size : (count characters : ℕ) → ℕ
copies_size count characters =
    plus 1 (plus begins_size (plus 1 (plus (copies_first_size (min count characters)) (clears_rest_size (nat_lt characters count)))))

-- ---- arrays

abbrev pub sets_size : IntType → Value → ℕ
sets_size u e = plus (value_size e (rest_shape e)) (puts_size (cuts_for u shape.Nowhere || keeps u e) shape.Nowhere)

module _ (texts : List (List ℕ)) where
  abbrev mutual
    pub fills_size : Initialiser → List ℕ → ℕ
    fills_size (typed.one_value u e) lengths = sets_size u e
    fills_size (typed.text m) lengths = copies_size (first_length lengths) (length (text_or_none (slice_get texts m)))
    fills_size (typed.in_braces x) lengths = plus 1 (fills_size x lengths)
    fills_size (typed.list all) lengths = plus 1 (fill_all_size all (first_length lengths) (inner_lengths lengths))

    pub fill_all_size : Initialisers → ℕ → List ℕ → ℕ
    fill_all_size typed.no_initialisers k lengths = clears_size (k * elements_in lengths)
    fill_all_size (typed.and_initialiser x more) zero lengths = 0
    fill_all_size (typed.and_initialiser x more) (suc k) lengths = plus (fills_size x lengths) (fill_all_size more k lengths)

  -- ---- objects

  abbrev pub first_size : List ℕ → Initialiser → ℕ
  first_size [] i = word_size i
  first_size (k ∷ lengths) i = fills_size i (k ∷ lengths)

  abbrev pub initialises_size : Option ObjectType → Initialiser → ℕ
  initialises_size None i = 0
  initialises_size (Some t) i = first_size t.lengths i
