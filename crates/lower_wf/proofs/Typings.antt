-- Expressions that the checker's rules take are typed (6.5).
use Rattle.std.proofs.Common.{◌≡◌, ◌≤◌, ◌<◌, ℕ, zero, suc, ◌+◌, ◌*◌, ℤ, pos, negsuc, Bool, true, false, nat_eq, nat_lt, List, [], ◌∷◌, ◌++◌, length, Option, Some, None, refl, sym, subst, append_assoc, arith}
use Rattle.std.specs.Prelude.{slice_get, if◌then◌else◌}
use Rattle.std.proofs.lemmas.Bool.Decides.{nat_tests}
use Rattle.srcset.specs.declared.code.Code.TheVariants as code
use Rattle.srcset.specs.declared.refusal.Pos.{Pos}
use Rattle.ctypes.specs.declared.types.IntType.{IntType}
use Rattle.ctypes.specs.declared.types.IntType.TheVariants as ty
use Rattle.ctypes.specs.Types.{is_value_of, IsValueOf, converted, least, greatest}
use Rattle.std.specs.Prelude.{int_le, ◌≤ℤ◌}
use Rattle.std.proofs.lemmas.Int.{ints}
use Rattle.std.proofs.lemmas.Bool.{and_from}
use Rattle.ctypes.proofs.Uses.{converted_fits}
use Rattle.tree.specs.Tree.{Tree, Trees, TypeTree, hole, identifier, constant, string, paren, call, subscript, after, before, prefix, size_of, size_of_type, cast, binary, conditional, assign, no_trees, one_more, type_name}
use Rattle.typing_spec.specs.Types.{ObjectType, complete, unknown_size, ParameterType, elements_in, size_of_object}
use Rattle.typing_spec.specs.Program as typed
use Rattle.typing_spec.specs.Program.{Storage}
use Rattle.typing_spec.specs.Verdict.{Verdict, fine, both, then_check, provided, IfFine}
use Rattle.typing_spec.specs.Operators.{assigning}
use Rattle.typing_spec.specs.Scope.{Scope, Binding, Meaning, an_object, an_array_parameter, a_function, an_enumerator, binding_in, lookup, literal_of, strings, strings_in, strings_of_type, past, past_type}
use Rattle.typing_spec.specs.Specifiers.{base_type}
use Rattle.typing_spec.specs.Constants.{constant_form}
use Rattle.typing_spec.specs.Expressions as rules
use Rattle.typing_spec.specs.Expressions.{Checked, value, Worth, Called, Arms, typing, arguments, valued, worth}
use Rattle.typing_spec.specs.Nodes.{type_of_storage, text_type}
use Rattle.lower_wf.proofs.Same.{same_number}
use Rattle.lower_wf.proofs.Verdicts.{then_any, then_some, both_some, both_any, tested}
use Rattle.lower_wf.proofs.Ground.{Setting, RowsAre, Sized, fits_some, CalleeFits, callee_in, MeaningFits, AllFit, Names, TextsEnd, text_in, IsGood, IsWorth, IsTarget, IsCalled}
use Rattle.lower_wf.proofs.Effects.{good_worth, type_unused}
use Rattle.lower_wf.proofs.Forms.{designated_good, subscripted_good, ArgsTyped, argument_good, call_good, target_good, step_good, assignment_good, signed_good, measured_good, SizedOption, type_measured_good, cast_good, operated_good, choice_good}

pub get_left : {A : Type 0} (xs ys : List A) (n : ℕ) (x : A) → slice_get xs n ≡ Some x → slice_get (xs ++ ys) n ≡ Some x
get_left [] ys n x e = absurd (let z : ⊥ = cc in z)
get_left (z ∷ xs) ys zero x e = e
get_left (z ∷ xs) ys (suc n) x e = get_left xs ys n x e

pub get_last : {A : Type 0} (xs : List A) (x : A) → slice_get (xs ++ x ∷ []) (length xs) ≡ Some x
get_last [] x = refl
get_last (y ∷ xs) x = get_last xs x

pub is_value : (t : IntType) (v : ℤ) → IsValueOf t v → is_value_of t v ≡ true
is_value t v h = and_from (int_le (least t) v) (int_le v (greatest t)) (tests (least t) v h.0) (tests v (greatest t) h.1)
  where
    tests : (a b : ℤ) → a ≤ℤ b → int_le a b ≡ true
    tests a b h = grind (arith, nat_tests, ints, h)

pub converted_is_value : (t : IntType) (v : ℤ) → is_value_of t (converted t v) ≡ true
converted_is_value t v = is_value t (converted t v) (converted_fits t v)

-- ---- sizes (6.7.6.2p1, 6.7.7)

abbrev pub IsPositive : ℕ → Type 0
IsPositive n = 0 < n

pub positive_good : (at : Pos) (v : ℤ) → IfFine IsPositive (rules.positive at v)
positive_good at (pos zero) = tt
positive_good at (pos (suc n)) = omega arith
positive_good at (negsuc n) = tt

abbrev pub HasElements : List ℕ → Type 0
HasElements l = 0 < elements_in l

pub product_positive : (n k : ℕ) → 0 < n → 0 < k → 0 < n * k
product_positive zero k h l = absurd (omega (arith, h))
product_positive n zero h l = absurd (omega (arith, l))
product_positive (suc n) (suc k) h l = let e : suc n * suc k ≡ suc k + n * suc k = grind arith in omega (arith, e)

lengths_good : (s : Scope) (at : Pos) (es : Trees) → IfFine HasElements (rules.lengths_in s at es)
lengths_good s at no_trees = omega arith
lengths_good s at (one_more e es) =
    both_some IsPositive HasElements HasElements (then_check (constant_form s e) (λ u. then_check (typing s e) (rules.size_in at))) (rules.lengths_in (past s e) at es) rules.and_size
    (then_any IsPositive (constant_form s e) (λ u. then_check (typing s e) (rules.size_in at)) (λ u. then_any IsPositive (typing s e) (rules.size_in at) (λ x.
    then_any IsPositive (rules.integer x) (λ w. then_check (rules.constant_in w) (λ c. rules.positive at c.v)) (λ w. then_any IsPositive (rules.constant_in w) (λ c. rules.positive at c.v) (λ c. positive_good at c.v)))))
    (lengths_good (past s e) at es) (λ n ns h k. product_positive n (elements_in ns) h k)

pub within : (n : ℕ) → nat_lt 1048576 n ≡ false → n ≤ 1048576
within n h = grind (arith, nat_tests, h)

pub sized_part : {A : Type 0} (P : A → Type 0) (at : Pos) (t : ObjectType) (v : Verdict A) → HasElements t.lengths → (Sized t → IfFine P v) → IfFine P (provided (rules.too_large at t) v)
sized_part P at t v h g = tested P (nat_lt rules.object_limit (size_of_object t)) code.ObjectSizeLimit at v (λ e. g (h, within (size_of_object t) e))

array_type_good : (at : Pos) (t : Option IntType) (k : Bool) (ns : List ℕ) → HasElements ns → IfFine SizedOption (rules.array_type at t k ns)
array_type_good at None k [] h = tt
array_type_good at None k (n ∷ ns) h = tt
array_type_good at (Some t) k ns h = let type : ObjectType = record { element = t; constant = k; lengths = ns } in sized_part SizedOption at type (fine (Some type)) h (λ s. s)

named_in_good : (s : Scope) (t : TypeTree) → IfFine SizedOption (rules.named_in s t)
named_in_good s (type_name at specifiers sizes) =
    both_any HasElements SizedOption (base_type s at specifiers) (rules.lengths_in s at sizes) (rules.type_of at) (lengths_good s at sizes) (λ b ns h. array_type_good at b.type b.constant ns h)

module _ (W : Setting) where
  -- ---- literals, one after another

  pub texts_left : (xs ys : List ℕ) → TextsEnd W (xs ++ ys) → TextsEnd W xs
  texts_left xs ys h n k e = h n k (get_left xs ys n k e)

  pub apart : (xs ys zs : List ℕ) → TextsEnd W (xs ++ (ys ++ zs)) → TextsEnd W ((xs ++ ys) ++ zs)
  apart xs ys zs h = subst (TextsEnd W) (sym (append_assoc xs ys zs)) h

  pub front : (xs ys zs : List ℕ) → TextsEnd W (xs ++ (ys ++ zs)) → TextsEnd W (xs ++ ys)
  front xs ys zs h = texts_left (xs ++ ys) zs (apart xs ys zs h)

  -- ---- names

  abbrev pub OnBinding : ℕ → Option Binding → Type 0
  OnBinding n None = Unit {0}
  OnBinding n (Some b) = MeaningFits W n b.meaning

  pick : (b : Binding) (n : ℕ) (o : Option Binding) (c : Bool) → c ≡ nat_eq b.name n → MeaningFits W b.name b.meaning → OnBinding n o → OnBinding n (if c then Some b else o)
  pick b n o true e h k = subst (λ m. MeaningFits W m b.meaning) (same_number b.name n (sym e)) h
  pick b n o false e h k = k

  pub found : (bs : List Binding) (n : ℕ) → AllFit W bs → OnBinding n (binding_in bs n)
  found [] n h = tt
  found (b ∷ bs) n h = pick b n (binding_in bs n) (nat_eq b.name n) refl h.0 (found bs n h.1)

  meant_good : (at : Pos) (n : ℕ) (m : Meaning) → MeaningFits W n m → IfFine (IsGood W) (rules.meant at m)
  meant_good at n (an_object what (complete t)) h =
      designated_good W at t (typed.named at what) (λ u. fits_some (complete t) (type_of_storage W.program W.function what) h.0) h.0 h.1
  meant_good at n (an_object what (unknown_size t)) h = (λ u. fits_some (unknown_size t) (type_of_storage W.program W.function what) h.0, h.0, h.1)
  meant_good at n (an_array_parameter k t) h = (λ u. fits_some (unknown_size t) (type_of_storage W.program W.function (typed.parameter k)) h.0, h.0, h.1)
  meant_good at n (a_function t) h = tt
  meant_good at n (an_enumerator v) h = (λ u. h, refl)

  named_good : (at : Pos) (n : ℕ) (o : Option Binding) → OnBinding n o → IfFine (IsGood W) (rules.named at o)
  named_good at n None h = tt
  named_good at n (Some b) h = meant_good at n b.meaning h

  called_good : (s : Scope) (at : Pos) (n : ℕ) (m : Meaning) → s.texts ≡ W.texts → s.definitions ≡ W.definitions → MeaningFits W n m → IfFine (IsCalled W) (rules.function_meant s at n m)
  called_good s at n (an_object what t) e d h = tt
  called_good s at n (an_array_parameter k t) e d h = tt
  called_good s at n (a_function t) e d h =
      subst (λ T. CalleeFits W.program (callee_in T s.definitions n) t) (sym e) (subst (λ D. CalleeFits W.program (callee_in W.texts D n) t) (sym d) h)
  called_good s at n (an_enumerator v) e d h = tt

  function_good : (s : Scope) (at : Pos) (n : ℕ) (o : Option Binding) → s.texts ≡ W.texts → s.definitions ≡ W.definitions → OnBinding n o → IfFine (IsCalled W) (rules.function_named s at n o)
  function_good s at n None e d h = tt
  function_good s at n (Some b) e d h = called_good s at n b.meaning e d h

  text_rows : (o : Option (List ℕ)) (text : List ℕ) → o ≡ Some text → RowsAre (record { element = ty.Char; constant = false; lengths = [] }) (text_type o)
  text_rows o text e = subst (λ x. RowsAre (record { element = ty.Char; constant = false; lengths = [] }) (text_type x)) (sym e) (refl, refl)

  literal_good : (s : Scope) (at : Pos) (n : ℕ) → TextsEnd W (s.literals ++ n ∷ []) → IfFine (IsGood W) (rules.literal_at s at (rules.string_type (literal_of s n)))
  literal_good s at n h =
      let rows = text_rows (slice_get W.program.literals (length s.literals)) (text_in W.texts n ++ 0 ∷ []) (h (length s.literals) n (get_last s.literals n)) in
      let t = rules.string_type (literal_of s n) in
      sized_part (IsGood W) at t (fine (rules.array at (complete t) (typed.named at (typed.literal (length s.literals))))) (omega arith) (λ z.
      (λ u. fits_some (complete t) (type_of_storage W.program W.function (typed.literal (length s.literals))) rows, rows, z))

  -- ---- expressions

  abbrev AreGood : Arms → Type 0
  AreGood a = IsGood W a.first × IsGood W a.second

  mutual
    pub typing_good : (s : Scope) (e : Tree) → Names W s → TextsEnd W (s.literals ++ strings e) → IfFine (IsGood W) (typing s e)
    typing_good s hole N T = tt
    typing_good s (identifier at n) N T = named_good at n (lookup s n) (found s.bindings n N.2)
    typing_good s (constant at t v) N T = (λ u. converted_is_value t (pos v), refl)
    typing_good s (string at n) N T = literal_good s at n T
    typing_good s (paren e) N T = typing_good s e N T
    typing_good s (call at f args) N T =
        then_some (IsCalled W) (IsGood W) (rules.function_named s at f (lookup s f)) (λ g. then_check (arguments s at g.type.parameters args) (rules.call_of at g)) (function_good s at f (lookup s f) N.0 N.1 (found s.bindings f N.2)) (λ g k.
        then_some (ArgsTyped W g.type.parameters) (IsGood W) (arguments s at g.type.parameters args) (rules.call_of at g) (arguments_good s at g.type.parameters args N T) (λ given m. call_good W at g given k m))
    typing_good s (subscript at a i) N T =
        both_some (IsGood W) (IsGood W) (IsGood W) (typing s a) (typing (past s a) i) (rules.subscripted at) (typing_good s a N (front s.literals (strings a) (strings i) T))
        (typing_good (past s a) i N (apart s.literals (strings a) (strings i) T)) (λ x y g h. subscripted_good W at x y g h)
    typing_good s (after at o a) N T =
        then_some (IsGood W) (IsGood W) (typing s a) (λ x. then_check (rules.target at x) (rules.step at typed.after o)) (typing_good s a N T) (λ x g.
        then_some (IsTarget W) (IsGood W) (rules.target at x) (rules.step at typed.after o) (target_good W at x g) (λ to k. step_good W at typed.after o to k))
    typing_good s (before at o a) N T =
        then_some (IsGood W) (IsGood W) (typing s a) (λ x. then_check (rules.target at x) (rules.step at typed.before o)) (typing_good s a N T) (λ x g.
        then_some (IsTarget W) (IsGood W) (rules.target at x) (rules.step at typed.before o) (target_good W at x g) (λ to k. step_good W at typed.before o to k))
    typing_good s (prefix at o a) N T =
        then_some (IsWorth W) (IsGood W) (valued code.VoidOperand at (typing s a)) (rules.signed_value at o)
        (then_some (IsGood W) (IsWorth W) (typing s a) (worth code.VoidOperand at) (typing_good s a N T) (λ x g. good_worth W code.VoidOperand at x g)) (λ w k. signed_good W at o w k)
    typing_good s (size_of at a) N T = then_some (IsGood W) (IsGood W) (typing s a) (rules.measured at) (typing_good s a N T) (λ x g. measured_good W at x g)
    typing_good s (size_of_type at t) N T = then_some SizedOption (IsGood W) (rules.named_in s t) (rules.type_measured at) (named_in_good s t) (λ o h. type_measured_good W at o h)
    typing_good s (cast at t a) N T =
        both_any (IsGood W) (IsGood W) (rules.named_in s t) (typing (past_type s t) a) (rules.cast_to at) (typing_good (past_type s t) a N (apart s.literals (strings_of_type t) (strings a) T)) (λ o x g. cast_good W at o x g)
    typing_good s (binary at o a b) N T =
        both_some (IsGood W) (IsGood W) (IsGood W) (typing s a) (typing (past s a) b) (rules.operated at o) (typing_good s a N (front s.literals (strings a) (strings b) T))
        (typing_good (past s a) b N (apart s.literals (strings a) (strings b) T)) (λ x y g h. operated_good W at o x y g h)
    typing_good s (conditional at c a b) N T =
        let U = texts_left (s.literals ++ (strings c ++ strings a)) (strings b) (apart s.literals (strings c ++ strings a) (strings b) T) in
        let Z = subst (λ l. TextsEnd W (l ++ strings b)) (sym (append_assoc s.literals (strings c) (strings a))) (apart s.literals (strings c ++ strings a) (strings b) T) in
        both_some (IsWorth W) AreGood (IsGood W) (valued code.VoidOperand at (typing s c)) (both (typing (past s c) a) (typing (past (past s c) a) b) rules.arms) (rules.chosen_by at)
        (then_some (IsGood W) (IsWorth W) (typing s c) (worth code.VoidOperand at) (typing_good s c N (front s.literals (strings c) (strings a) U)) (λ x g. good_worth W code.VoidOperand at x g))
        (both_some (IsGood W) (IsGood W) AreGood (typing (past s c) a) (typing (past (past s c) a) b) rules.arms (typing_good (past s c) a N (apart s.literals (strings c) (strings a) U))
        (typing_good (past (past s c) a) b N Z) (λ x y g h. (g, h)))
        (λ w ab k g. choice_good W at w ab.first ab.second type_unused k g.0 g.1)
    typing_good s (assign at o a b) N T =
        both_some (IsGood W) (IsGood W) (IsGood W) (typing s a) (typing (past s a) b) (rules.assignment at (assigning o)) (typing_good s a N (front s.literals (strings a) (strings b) T))
        (typing_good (past s a) b N (apart s.literals (strings a) (strings b) T)) (λ x y g h. assignment_good W at (assigning o) x y g h)

    pub arguments_good : (s : Scope) (at : Pos) (ps : List ParameterType) (es : Trees) → Names W s → TextsEnd W (s.literals ++ strings_in es) → IfFine (ArgsTyped W ps) (arguments s at ps es)
    arguments_good s at [] no_trees N T = λ u. refl
    arguments_good s at [] (one_more e es) N T = tt
    arguments_good s at (p ∷ ps) no_trees N T = tt
    arguments_good s at (p ∷ ps) (one_more e es) N T =
        both_some (IsGood W) (ArgsTyped W ps) (ArgsTyped W (p ∷ ps)) (typing s e) (arguments (past s e) at ps es) (rules.argument at p) (typing_good s e N (front s.literals (strings e) (strings_in es) T))
        (arguments_good (past s e) at ps es N (apart s.literals (strings e) (strings_in es) T)) (λ x more g m. argument_good W at p ps x more g m)
