-- No type has as many lengths as a word counts, since they stand in a vector.
use Rattle.std.proofs.Common.{◌≡◌, ◌⊎◌, inl, inr, ℕ, zero, suc, ◌+◌, ◌-◌, ◌<◌, ◌≤◌, ◌^◌, min, List, [], ◌∷◌, Option, Some, None, ap, sym, ◌∙◌, subst, map, length, arith}
use Rattle.std.specs.Prelude.{slice_get, option_map}
use Rattle.std.proofs.lemmas.Option.{slice_get-map}
use Rattle.typing_spec.specs.Types.{ObjectType, DeclaredType, complete, unknown_size}
use Rattle.typing_spec.specs.Program as typed
use Rattle.typing_spec.specs.Nodes.{row_type, reference_in, text_type, static_type, object_type, type_of_storage, type_of_place}
use Rattle.typed_ast.specs.declared.types.ObjectType as held
use Rattle.typed_ast.specs.declared.types.ParameterType as given
use Rattle.typed_ast.specs.declared.types.ParameterType.TheVariants.{Number, Elements}
use Rattle.typed_ast.specs.declared.units.Static as own
use Rattle.typed_ast.specs.declared.units.Function.{Function}
use Rattle.typed_ast.specs.declared.units.Program.{Program}
use Rattle.typed_ast.specs.View.{object_type_of, parameter_type_of, static_of, program_of, function_of}
use Rattle.lower_ops.specs.layer.Rows.{deep_size}
use Rattle.lower_ops.proofs.Rows.{deep_none}

-- how many rows are in one another
abbrev rank : Option DeclaredType → ℕ
rank None = 0
rank (Some (complete t)) = length t.lengths
rank (Some (unknown_size t)) = suc (length t.lengths)

abbrev Short : Option DeclaredType → Type 0
Short t = rank t ≤ 2 ^ 63

lengths_deep : (n : ℕ) (t : ObjectType) (lengths : List ℕ) → length lengths < n → deep_size n (Some (complete (record t { lengths = lengths }))) ≡ 0
lengths_deep zero t lengths h = absurd (omega (arith, h))
lengths_deep (suc n) t [] h = deep_none n
lengths_deep (suc n) t (l ∷ lengths) h = lengths_deep n t lengths (let q : suc (length lengths) < suc n = h in omega (arith, q))

far : (n : ℕ) (t : Option DeclaredType) → rank t < n → deep_size n t ≡ 0
far n None h = deep_none n
far n (Some (complete t)) h = lengths_deep n t t.lengths h
far zero (Some (unknown_size t)) h = absurd (omega (arith, h))
far (suc n) (Some (unknown_size t)) h = lengths_deep n t t.lengths (let q : suc (length t.lengths) < suc n = h in omega (arith, q))

-- ---- the types of the objects of a program are short

object_short : (t : held.ObjectType) → Short (Some (complete (object_type_of t)))
object_short t = omega (arith, t.lengths.ok.0)

looked : {A B : Type 0} (g : Option B → Option DeclaredType) (f : A → B) (xs : List A) (n : ℕ) → ((o : Option A) → Short (g (option_map f o))) → Short (g (slice_get (map f xs) n))
looked g f xs n h = subst (λ o. Short (g o)) (sym (slice_get-map f xs n)) (h (slice_get xs n))

static_short : (o : Option own.Static) → Short (static_type (option_map static_of o))
static_short None = omega arith
static_short (Some o) = object_short o.object_type

own_short : (o : Option held.ObjectType) → Short (object_type (option_map object_type_of o))
own_short None = omega arith
own_short (Some t) = object_short t

text_short : (o : Option (List ℕ)) → Short (text_type o)
text_short None = omega arith
text_short (Some text) = omega arith

reference_short : (ps : List given.ParameterType) (n : ℕ) → Short (reference_in (map parameter_type_of ps) n)
reference_short [] n = omega arith
reference_short (Number t ∷ ps) n = reference_short ps n
reference_short (Elements t ∷ ps) zero = omega (arith, t.lengths.ok.0)
reference_short (Elements t ∷ ps) (suc n) = reference_short ps n

storage_short : (p : Program) (f : Function) (what : typed.Storage) → Short (type_of_storage (program_of p) (function_of f) what)
storage_short p f (typed.literal n) = text_short (slice_get (program_of p).literals n)
storage_short p f (typed.static n) = looked static_type static_of p.statics.items n static_short
storage_short p f (typed.automatic n) = looked object_type object_type_of f.objects.items n own_short
storage_short p f (typed.parameter n) = reference_short f.function_type.parameters.items n

lengths_rank : (t : ObjectType) (lengths : List ℕ) → rank (row_type (Some (complete (record t { lengths = lengths })))) ≤ length lengths
lengths_rank t [] = omega arith
lengths_rank t (l ∷ lengths) = omega arith

row_rank : (t : Option DeclaredType) → rank (row_type t) ≤ rank t
row_rank None = omega arith
row_rank (Some (complete t)) = lengths_rank t t.lengths
row_rank (Some (unknown_size t)) = omega arith

place_short : (p : Program) (f : Function) (a : typed.Place) → Short (type_of_place (program_of p) (function_of f) a)
place_short p f (typed.named at what) = storage_short p f what
place_short p f (typed.element at array index) = omega (arith, row_rank (type_of_place (program_of p) (function_of f) array), place_short p f array)

-- ---- one deeper, as far as a word counts

either_way : (d : ℕ) → (d + 1 ≤ 2 ^ 64 - 1) ⊎ (2 ^ 64 - 1 ≤ d)
either_way d = by_order (le_or d (2 ^ 64 - 1))
  where
    le_or : (m n : ℕ) → (m + 1 ≤ n) ⊎ (n ≤ m)
    le_or m zero = inr (omega arith)
    le_or zero (suc n) = inl (omega arith)
    le_or (suc m) (suc n) = next (le_or m n)
      where
        next : (m + 1 ≤ n) ⊎ (n ≤ m) → (suc m + 1 ≤ suc n) ⊎ (suc n ≤ suc m)
        next (inl h) = inl (omega (arith, h))
        next (inr h) = inr (omega (arith, h))

    by_order : (d + 1 ≤ 2 ^ 64 - 1) ⊎ (2 ^ 64 - 1 ≤ d) → (d + 1 ≤ 2 ^ 64 - 1) ⊎ (2 ^ 64 - 1 ≤ d)
    by_order h = h

deeper : (d n : ℕ) (t : Option DeclaredType) → Short t → n ≡ min (d + 1) (2 ^ 64 - 1) → deep_size n t ≡ deep_size (d + 1) t
deeper d n t short e = by (either_way d)
  where
    by : (d + 1 ≤ 2 ^ 64 - 1) ⊎ (2 ^ 64 - 1 ≤ d) → deep_size n t ≡ deep_size (d + 1) t
    by (inl h) = ap (λ k. deep_size k t) (let q : n ≡ d + 1 = omega (arith, e, h) in q)
    by (inr h) = far n t (omega (arith, e, h, short)) ∙ sym (far (d + 1) t (omega (arith, h, short)))

pub place_deeper : (p : Program) (f : Function) (a : typed.Place) (d n : ℕ) → n ≡ min (d + 1) (2 ^ 64 - 1)
    → deep_size n (type_of_place (program_of p) (function_of f) a) ≡ deep_size (d + 1) (type_of_place (program_of p) (function_of f) a)
place_deeper p f a d n e = deeper d n (type_of_place (program_of p) (function_of f) a) (place_short p f a) e
