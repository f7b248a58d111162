-- Typed and present code designates only defined objects (6.9p3, p5).
use Rattle.std.proofs.Common.{◌≡◌, Bool, true, false, ◌&&◌, List, [], ◌∷◌, ◌++◌, Option, Some, None, refl}
use Rattle.std.specs.Prelude.{slice_get}
use Rattle.std.proofs.lemmas.Bool.{false≢true, and_from}
use Rattle.srcset.specs.declared.refusal.Pos.{Pos}
use Rattle.ctypes.specs.declared.types.IntType.{IntType}
use Rattle.typing_spec.specs.Types.{ObjectType, ParameterType, number, elements, same_type, same_result}
use Rattle.typing_spec.specs.Program as typed
use Rattle.typing_spec.specs.Program.{Storage, Place, Value, Arguments, Initialiser, Initialisers, Statement, Statements, Function, Static, Program}
use Rattle.typing_spec.specs.Nodes.{static_type, type_of_value, type_of_place}
use Rattle.typing_spec.specs.Uses.{uses, uses_in_place, uses_in_arguments, uses_in_initialiser, uses_in_initialisers, uses_in_option, uses_in_statement, uses_in_statements, use_of_callee}
use Rattle.typing_spec.specs.WellTyped.{is_scalar, is_array, rows_of, rows_alike, some_number, same_none, callee_type, params_of, call_fits, place_is_typed, value_is_typed, arguments_are_typed, initialiser_is_typed, initialisers_are_typed, initialisers_in, definition_is_typed, option_is_typed, test_is_typed, statement_is_typed, statements_are_typed}
use Rattle.std.specs.Prelude.{ℕ, ◌+◌, length, nat_eq, nat_le, nat_lt}
use Rattle.tac_code.specs.Designated.{is_defined, storage_is_defined, in_place, in_value, in_arguments, in_initialiser, in_initialisers, in_option, in_statement, in_statements}
use Rattle.lower_wf.proofs.Same.{both_true}
use Rattle.lower_wf.proofs.Ground.{Present, first, second}

module _ (p : Program) (f : Function) where
  abbrev V : Value → Bool
  V e = value_is_typed p f e

  abbrev N : Value → Bool
  N e = some_number (type_of_value e)

  static_defined : (o : Option Static) → (elim (static_type o) as (λ x. Bool) [ None ↦ false | Some t ↦ true ]) ≡ true → ((x : Static) → o ≡ Some x → x.defined ≡ true) → is_defined o ≡ true
  static_defined None h k = absurd (false≢true h)
  static_defined (Some x) h k = k x refl

  storage_defined : (at : Pos) (w : Storage) → place_is_typed p f (typed.named at w) ≡ true → Present p (uses_in_place (typed.named at w)) → storage_is_defined p w ≡ true
  storage_defined at (typed.literal n) h u = refl
  storage_defined at (typed.static n) h u = static_defined (slice_get p.statics n) h u.0
  storage_defined at (typed.automatic n) h u = refl
  storage_defined at (typed.parameter n) h u = refl

  one : (a b : Bool) → (a && b) ≡ true → a ≡ true
  one a b h = (both_true a b h).0

  other : (a b : Bool) → (a && b) ≡ true → b ≡ true
  other a b h = (both_true a b h).1

  abbrev ValueDefined : Value → Type 0
  ValueDefined e = V e ≡ true → Present p (uses e) → in_value p e ≡ true

  two : (a b : Value) → ValueDefined a → ValueDefined b → ((V a && N a) && (V b && N b)) ≡ true → Present p (uses a ++ uses b) → (in_value p a && in_value p b) ≡ true
  two a b k l h u =
      let w = both_true (V a && N a) (V b && N b) h in
      and_from (in_value p a) (in_value p b) (k (one (V a) (N a) w.0) (first p (uses a) (uses b) u)) (l (one (V b) (N b) w.1) (second p (uses a) (uses b) u))

  three : (c a b : Value) → ValueDefined c → ValueDefined a → ValueDefined b → V c ≡ true → V a ≡ true → V b ≡ true → Present p (uses c ++ uses a ++ uses b) → (in_value p c && (in_value p a && in_value p b)) ≡ true
  three c a b m k l x y z u =
      let v = first p (uses c ++ uses a) (uses b) u in
      and_from (in_value p c) (in_value p a && in_value p b) (m x (first p (uses c) (uses a) v))
      (and_from (in_value p a) (in_value p b) (k y (second p (uses c) (uses a) v)) (l z (second p (uses c ++ uses a) (uses b) u)))

  mutual
    pub place_defined : (a : Place) → place_is_typed p f a ≡ true → Present p (uses_in_place a) → in_place p a ≡ true
    place_defined (typed.named at w) h u = storage_defined at w h u
    place_defined (typed.element at a i) h u =
        let w = both_true (place_is_typed p f a) (is_array (type_of_place p f a) && (V i && N i)) h in
        let v = other (is_array (type_of_place p f a)) (V i && N i) w.1 in
        and_from (in_place p a) (in_value p i) (place_defined a w.0 (first p (uses_in_place a) (uses i) u)) (value_defined i (one (V i) (N i) v) (second p (uses_in_place a) (uses i) u))

    pub value_defined : (e : Value) → value_is_typed p f e ≡ true → Present p (uses e) → in_value p e ≡ true
    value_defined (typed.constant t v) h u = refl
    value_defined (typed.read t a) h u = place_defined a (one (place_is_typed p f a) (is_scalar t (type_of_place p f a)) h) u
    value_defined (typed.assigned at t a e) h u =
        let w = both_true (place_is_typed p f a) (is_scalar t (type_of_place p f a) && (V e && N e)) h in
        let v = other (is_scalar t (type_of_place p f a)) (V e && N e) w.1 in
        and_from (in_place p a) (in_value p e) (place_defined a w.0 (first p (uses_in_place a) (uses e) u)) (value_defined e (one (V e) (N e) v) (second p (uses_in_place a) (uses e) u))
    value_defined (typed.compound at op t of a e) h u =
        let w = both_true (place_is_typed p f a) (is_scalar t (type_of_place p f a) && (V e && N e)) h in
        let v = other (is_scalar t (type_of_place p f a)) (V e && N e) w.1 in
        and_from (in_place p a) (in_value p e) (place_defined a w.0 (first p (uses_in_place a) (uses e) u)) (value_defined e (one (V e) (N e) v) (second p (uses_in_place a) (uses e) u))
    value_defined (typed.stepped at m op t of a) h u = place_defined a (one (place_is_typed p f a) (is_scalar t (type_of_place p f a)) h) u
    value_defined (typed.unary at op t e) h u = value_defined e (one (V e) (N e) h) u
    value_defined (typed.binary at op t a b) h u = two a b (value_defined a) (value_defined b) h u
    value_defined (typed.both_true a b) h u = two a b (value_defined a) (value_defined b) h u
    value_defined (typed.one_true a b) h u = two a b (value_defined a) (value_defined b) h u
    value_defined (typed.chosen (Some t) c a b) h u =
        let w = both_true (V c && N c) ((V a && N a) && (V b && N b)) h in
        let v = both_true (V a && N a) (V b && N b) w.1 in
        three c a b (value_defined c) (value_defined a) (value_defined b) (one (V c) (N c) w.0) (one (V a) (N a) v.0) (one (V b) (N b) v.1) u
    value_defined (typed.chosen None c a b) h u =
        let w = both_true (V c && N c) (V a && (same_none (type_of_value a) && (V b && same_none (type_of_value b)))) h in
        let v = both_true (V a) (same_none (type_of_value a) && (V b && same_none (type_of_value b))) w.1 in
        let z = other (same_none (type_of_value a)) (V b && same_none (type_of_value b)) v.1 in
        three c a b (value_defined c) (value_defined a) (value_defined b) (one (V c) (N c) w.0) v.0 (one (V b) (same_none (type_of_value b)) z) u
    value_defined (typed.sequence a b) h u =
        let w = both_true (V a) (V b) h in and_from (in_value p a) (in_value p b) (value_defined a w.0 (first p (uses a) (uses b) u)) (value_defined b w.1 (second p (uses a) (uses b) u))
    value_defined (typed.cast t e) h u = value_defined e (one (V e) (N e) h) u
    value_defined (typed.discarded e) h u = value_defined e h u
    value_defined (typed.call at g t used args) h u =
        arguments_defined (params_of (callee_type p g)) args (one (arguments_are_typed p f (params_of (callee_type p g)) args) (call_fits t used (callee_type p g)) h) (second p (use_of_callee at g) (uses_in_arguments args) u)

    pub arguments_defined : (ps : List ParameterType) (args : Arguments) → arguments_are_typed p f ps args ≡ true → Present p (uses_in_arguments args) → in_arguments p args ≡ true
    arguments_defined ps typed.no_arguments h u = refl
    arguments_defined [] (typed.and_number t e more) h u = absurd (false≢true h)
    arguments_defined (elements q ∷ ps) (typed.and_number t e more) h u = absurd (false≢true h)
    arguments_defined (number q ∷ ps) (typed.and_number t e more) h u =
        let w = other (same_type q t) ((V e && N e) && arguments_are_typed p f ps more) h in
        let v = both_true (V e && N e) (arguments_are_typed p f ps more) w in
        and_from (in_value p e) (in_arguments p more) (value_defined e (one (V e) (N e) v.0) (first p (uses e) (uses_in_arguments more) u)) (arguments_defined ps more v.1 (second p (uses e) (uses_in_arguments more) u))
    arguments_defined [] (typed.and_array a more) h u = absurd (false≢true h)
    arguments_defined (number q ∷ ps) (typed.and_array a more) h u = absurd (false≢true h)
    arguments_defined (elements q ∷ ps) (typed.and_array a more) h u =
        let w = both_true (place_is_typed p f a) (rows_alike q (rows_of (type_of_place p f a)) && arguments_are_typed p f ps more) h in
        let v = other (rows_alike q (rows_of (type_of_place p f a))) (arguments_are_typed p f ps more) w.1 in
        and_from (in_place p a) (in_arguments p more) (place_defined a w.0 (first p (uses_in_place a) (uses_in_arguments more) u)) (arguments_defined ps more v (second p (uses_in_place a) (uses_in_arguments more) u))

  mutual
    pub initialiser_defined : (t : IntType) (l : List ℕ) (i : Initialiser) → initialiser_is_typed p f t l i ≡ true → Present p (uses_in_initialiser i) → in_initialiser p i ≡ true
    initialiser_defined t l (typed.one_value q e) h u =
        let w = other (same_type t q) (nat_eq (length l) 0 && (V e && N e)) h in value_defined e (one (V e) (N e) (other (nat_eq (length l) 0) (V e && N e) w)) u
    initialiser_defined t l (typed.text n) h u = refl
    initialiser_defined t l (typed.in_braces i) h u = initialiser_defined t l i h u
    initialiser_defined t [] (typed.list is) h u = absurd (false≢true h)
    initialiser_defined t (n ∷ l) (typed.list is) h u = initialisers_defined t l is (other (nat_le (initialisers_in is) n) (initialisers_are_typed p f t l is) h) u

    pub initialisers_defined : (t : IntType) (l : List ℕ) (is : Initialisers) → initialisers_are_typed p f t l is ≡ true → Present p (uses_in_initialisers is) → in_initialisers p is ≡ true
    initialisers_defined t l typed.no_initialisers h u = refl
    initialisers_defined t l (typed.and_initialiser i is) h u =
        let w = both_true (initialiser_is_typed p f t l i) (initialisers_are_typed p f t l is) h in
        and_from (in_initialiser p i) (in_initialisers p is) (initialiser_defined t l i w.0 (first p (uses_in_initialiser i) (uses_in_initialisers is) u)) (initialisers_defined t l is w.1 (second p (uses_in_initialiser i) (uses_in_initialisers is) u))

  definition_defined : (o : Option ObjectType) (i : Initialiser) → definition_is_typed p f o i ≡ true → Present p (uses_in_initialiser i) → in_initialiser p i ≡ true
  definition_defined None i h u = absurd (false≢true h)
  definition_defined (Some t) i h u = initialiser_defined t.element t.lengths i h u

  option_defined : (o : Option Value) → option_is_typed p f o ≡ true → Present p (uses_in_option o) → in_option p o ≡ true
  option_defined None h u = refl
  option_defined (Some e) h u = value_defined e h u

  test_defined : (o : Option Value) → test_is_typed p f o ≡ true → Present p (uses_in_option o) → in_option p o ≡ true
  test_defined None h u = refl
  test_defined (Some e) h u = value_defined e (one (V e) (N e) h) u

  under : (lo hi : ℕ) (e : Value) (a : Statement) → (statement_is_typed p f lo hi a ≡ true → Present p (uses_in_statement a) → in_statement p a ≡ true) → ((V e && N e) && statement_is_typed p f lo hi a) ≡ true →
      Present p (uses e ++ uses_in_statement a) → (in_value p e && in_statement p a) ≡ true
  under lo hi e a k h u =
      let w = both_true (V e && N e) (statement_is_typed p f lo hi a) h in
      and_from (in_value p e) (in_statement p a) (value_defined e (one (V e) (N e) w.0) (first p (uses e) (uses_in_statement a) u)) (k w.1 (second p (uses e) (uses_in_statement a) u))

  mutual
    pub statement_defined : (lo hi : ℕ) (x : Statement) → statement_is_typed p f lo hi x ≡ true → Present p (uses_in_statement x) → in_statement p x ≡ true
    statement_defined lo hi typed.empty h u = refl
    statement_defined lo hi (typed.evaluate e) h u = value_defined e h u
    statement_defined lo hi (typed.declare n) h u = refl
    statement_defined lo hi (typed.define n i) h u =
        let d = definition_is_typed p f (slice_get f.objects n) i in definition_defined (slice_get f.objects n) i (other (nat_lt n hi) d (other (nat_le lo n) (nat_lt n hi && d) h)) u
    statement_defined lo hi (typed.block a k all) h u =
        let d = statements_are_typed p f a (a + k) all in statements_defined a (a + k) all (other (nat_le (a + k) hi) d (other (nat_le lo a) (nat_le (a + k) hi && d) h)) u
    statement_defined lo hi (typed.branch e a) h u = under lo hi e a (statement_defined lo hi a) h u
    statement_defined lo hi (typed.branches e a b) h u =
        let w = both_true (V e && N e) (statement_is_typed p f lo hi a && statement_is_typed p f lo hi b) h in
        let v = both_true (statement_is_typed p f lo hi a) (statement_is_typed p f lo hi b) w.1 in
        let z = first p (uses e ++ uses_in_statement a) (uses_in_statement b) u in
        and_from (in_value p e) (in_statement p a && in_statement p b) (value_defined e (one (V e) (N e) w.0) (first p (uses e) (uses_in_statement a) z))
        (and_from (in_statement p a) (in_statement p b) (statement_defined lo hi a v.0 (second p (uses e) (uses_in_statement a) z)) (statement_defined lo hi b v.1 (second p (uses e ++ uses_in_statement a) (uses_in_statement b) u)))
    statement_defined lo hi (typed.switch t e a k all) h u =
        let d = statements_are_typed p f a (a + k) all in
        let w = both_true (V e && N e) (nat_le lo a && (nat_le (a + k) hi && d)) h in
        and_from (in_value p e) (in_statements p all) (value_defined e (one (V e) (N e) w.0) (first p (uses e) (uses_in_statements all) u))
        (statements_defined a (a + k) all (other (nat_le (a + k) hi) d (other (nat_le lo a) (nat_le (a + k) hi && d) w.1)) (second p (uses e) (uses_in_statements all) u))
    statement_defined lo hi (typed.case v) h u = refl
    statement_defined lo hi typed.default h u = refl
    statement_defined lo hi (typed.while e a) h u = under lo hi e a (statement_defined lo hi a) h u
    statement_defined lo hi (typed.do_while a e) h u =
        let w = both_true (statement_is_typed p f lo hi a) (V e && N e) h in
        and_from (in_statement p a) (in_value p e) (statement_defined lo hi a w.0 (first p (uses_in_statement a) (uses e) u)) (value_defined e (one (V e) (N e) w.1) (second p (uses_in_statement a) (uses e) u))
    statement_defined lo hi (typed.for all i t q a) h u =
        let d0 = statements_are_typed p f lo hi all in
        let d1 = option_is_typed p f i in
        let d2 = test_is_typed p f t in
        let d3 = option_is_typed p f q in
        let d4 = statement_is_typed p f lo hi a in
        let w0 = both_true d0 (d1 && (d2 && (d3 && d4))) h in
        let w1 = both_true d1 (d2 && (d3 && d4)) w0.1 in
        let w2 = both_true d2 (d3 && d4) w1.1 in
        let w3 = both_true d3 d4 w2.1 in
        let a0 = uses_in_statements all in
        let a1 = uses_in_option i in
        let a2 = uses_in_option t in
        let a3 = uses_in_option q in
        let a4 = uses_in_statement a in
        let u3 = first p (a0 ++ a1 ++ a2 ++ a3) a4 u in
        let u2 = first p (a0 ++ a1 ++ a2) a3 u3 in
        let u1 = first p (a0 ++ a1) a2 u2 in
        and_from (in_statements p all) (in_option p i && (in_option p t && (in_option p q && in_statement p a))) (statements_defined lo hi all w0.0 (first p a0 a1 u1))
        (and_from (in_option p i) (in_option p t && (in_option p q && in_statement p a)) (option_defined i w1.0 (second p a0 a1 u1))
        (and_from (in_option p t) (in_option p q && in_statement p a) (test_defined t w2.0 (second p (a0 ++ a1) a2 u2))
        (and_from (in_option p q) (in_statement p a) (option_defined q w3.0 (second p (a0 ++ a1 ++ a2) a3 u3)) (statement_defined lo hi a w3.1 (second p (a0 ++ a1 ++ a2 ++ a3) a4 u)))))
    statement_defined lo hi typed.break h u = refl
    statement_defined lo hi typed.continue h u = refl
    statement_defined lo hi typed.return_nothing h u = refl
    statement_defined lo hi (typed.return_value t e) h u = value_defined e (one (V e) (N e) (other (same_result f.type.result (Some t)) (V e && N e) h)) u

    pub statements_defined : (lo hi : ℕ) (xs : Statements) → statements_are_typed p f lo hi xs ≡ true → Present p (uses_in_statements xs) → in_statements p xs ≡ true
    statements_defined lo hi typed.no_statements h u = refl
    statements_defined lo hi (typed.and_statement x more) h u =
        let w = both_true (statement_is_typed p f lo hi x) (statements_are_typed p f lo hi more) h in
        and_from (in_statement p x) (in_statements p more) (statement_defined lo hi x w.0 (first p (uses_in_statement x) (uses_in_statements more) u)) (statements_defined lo hi more w.1 (second p (uses_in_statement x) (uses_in_statements more) u))
