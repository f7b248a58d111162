-- The code of a function names few temporaries and slots.
use Rattle.std.proofs.Common.{ℕ, zero, suc, ◌+◌, ◌*◌, ◌<◌, ◌≤◌, List, [], ◌∷◌, length, min, Option, Some, None, Bool, true, false, ◌||◌, ℤ, inl, inr, arith}
use Rattle.std.specs.Prelude.{slice_get, nat_lt}
use Rattle.std.proofs.lemmas.Option.{slice_get_within}
use Rattle.ctypes.specs.declared.types.IntType.{IntType}
use Rattle.typing_spec.specs.Types.{ObjectType, elements_in}
use Rattle.typing_spec.specs.Program as typed
use Rattle.typing_spec.specs.Program.{Value, Initialiser, Initialisers, Statement, Statements}
use Rattle.csem.specs.Statements.{first_length, inner_lengths, text_or_none, labels_of}
use Rattle.tac_code.specs.declared.code.Operand.{Operand}
use Rattle.tac_code.specs.declared.code.Target.{Target}
use Rattle.tac_code.specs.declared.code.Target.TheVariants as target
use Rattle.tac_code.specs.declared.code.Place.TheVariants as place
use Rattle.tac_code.specs.declared.code.Instruction.{Instruction}
use Rattle.lower_correct.specs.Values.{writes_none, keeps, waits_in, operand_of, Mode, Nowhere, To, If, mode_of}
use Rattle.lower_correct.specs.Places.{cuts, size_of_place}
use Rattle.lower_correct.specs.Code.{One, Into}
use Rattle.lower_correct.specs.Initialisers.{GoesOn, ClearsTo, CopiesTo, Clears, CopiesFirst, ClearsRest, Copies, Sets, Fills, FillAll}
use Rattle.lower_correct.specs.Bodies.{is_within, has_objects, forgets, Tests, Leaves, Gives, InitialisesWord, InitialisesObject, Initialises, Effects, Repeats, Stands, StandAll, StandAt, Idles, Closes}
use Rattle.tac.specs.layer.Functions.{IsBodyOf}
use Rattle.tac.specs.inside.Few.{Few, FewIn, AreFew}
use Rattle.tac.proofs.NamedParts.{nothing_few, NextIn, NextFor, next_in, next_mode, waits_next, Names, past, one, none, join, converts, puts}
use Rattle.tac.proofs.NamedValues.{from_zero, At, into}

few1 : Few 1
few1 = omega arith

few2 : Few 2
few2 = omega arith

few3 : Few 3
few3 = omega arith

few4 : Few 4
few4 = omega arith

next_few0 : Few (0 + 1)
next_few0 = omega arith

module _ (w : List Instruction) (short : length w < 4611686018427387904) (p : typed.Program) (f : typed.Function) where
  -- ---- full expressions

  start : (a : ℕ) → a ≤ length w → At w short 0 0 a
  start a l = (from_zero a, from_zero a, l)

  waits0 : (e : Value) (written : ℕ → Bool) (b : Bool) → NextIn (waits_in e written b 0 0)
  waits0 e written b = waits_next e written b 0 0 next_few0 nothing_few

  value : (e : Value) (m : Mode) (a b : ℕ) → a ≤ length w → NextFor m → Into w (size_of_place p f) e m 0 0 a b → Names w a b
  value e m a b l fm i = (into w short (size_of_place p f) e m 0 0 a b (start a l) fm i).names

  gives : (u : IntType) (e : Value) (g : Target) (a b : ℕ) → a ≤ length w → NextFor (To g) → Gives w p f u e g a b → Names w a b
  gives u e g a b l fg i = converts w (keeps u e) (λ m y z. Into w (size_of_place p f) e m 0 0 y z) u (operand_of e 0 0) g a b fg (waits0 e writes_none false)
      (λ m q fm j. value e m a q l fm j) i

  -- ---- first values

  word : (x : Initialiser) (n a b : ℕ) → a ≤ length w → InitialisesWord w p f x n a b → Names w a b
  word (typed.one_value u e) n a b l i = join w (gives u e (target.Object n) a i.0 l tt i.1) (one w _ i.0 b i.2 tt)
  word (typed.text m) n a b l i = one w _ a b i tt
  word (typed.in_braces x) n a b l i = join w (one w _ a i.0 i.1 tt) (word x n i.0 b (past w _ a i.0 i.1) i.2)
  word (typed.list all) n a b l i = one w _ a b i tt

  goes_on : (c top a b : ℕ) → GoesOn w c top a b → Names w a b
  goes_on c top a b i = join w (one w _ a i.0 i.1 (nothing_few, nothing_few, tt)) (one w _ i.0 b i.2 (nothing_few, tt))

  clears_to : (t : IntType) (c a b : ℕ) → ClearsTo w t c a b → Names w a b
  clears_to t c a b i = join w (one w _ a i.0 i.2 (few2, few1, nothing_few)) (join w (one w _ i.0 i.1 i.3 (tt, few2)) (goes_on c a i.1 b i.4))

  copies_to : (t : IntType) (c a b : ℕ) → CopiesTo w t c a b → Names w a b
  copies_to t c a b i =
      join w (one w _ a i.0 i.4 (few3, few2, nothing_few)) (join w (one w _ i.0 i.1 i.5 (few3, few3)) (join w (one w _ i.1 i.2 i.6 (few4, few1, nothing_few))
      (join w (one w _ i.2 i.3 i.7 (few3, few4)) (goes_on c a i.3 b i.8))))

  clears : (t : IntType) (n i c a b : ℕ) → Clears w t n i c a b → Names w a b
  clears t n i zero a b s = none w a b s
  clears t n i (suc zero) a b s = one w _ a b s (tt, tt)
  clears t n i (suc (suc c)) a b s = join w (one w _ a s.0 s.2 (nothing_few, tt)) (join w (one w _ s.0 s.1 s.3 (few1, tt)) (clears_to t (suc (suc c)) s.1 b s.4))

  copies_first : (t : IntType) (c a b : ℕ) → CopiesFirst w t c a b → Names w a b
  copies_first t zero a b s = none w a b s
  copies_first t (suc c) a b s = copies_to t (suc c) a b s

  clears_rest : (less : Bool) (t : IntType) (c a b : ℕ) → ClearsRest w less t c a b → Names w a b
  clears_rest true t c a b s = clears_to t c a b s
  clears_rest false t c a b s = none w a b s

  copies : (t : IntType) (n i m count characters a b : ℕ) → Copies w t n i m count characters a b → Names w a b
  copies t n i m count characters a b s =
      join w (one w _ a s.0 s.5 tt) (join w (one w _ s.0 s.1 s.6 (nothing_few, tt)) (join w (one w _ s.1 s.2 s.7 (few1, tt)) (join w (one w _ s.2 s.3 s.8 (few2, tt))
      (join w (copies_first t (min count characters) s.3 s.4 s.9) (clears_rest (nat_lt characters count) t count s.4 b s.10)))))

  sets : (u : IntType) (e : Value) (n i a b : ℕ) → a ≤ length w → Sets w p.literals (size_of_place p f) u e n i a b → Names w a b
  sets u e n i a b l s =
      let o = operand_of e 0 0 in
      let fo = waits0 e writes_none false in
      join w (value e (mode_of o) a s.0 l (next_mode o fo) s.1) (puts w (cuts u Nowhere || keeps u e) u o (place.Element n i u) Nowhere 0 s.0 b tt (next_in o fo) tt nothing_few s.2)

  mutual
    fills : (x : Initialiser) (t : IntType) (lengths : List ℕ) (n i a b : ℕ) → a ≤ length w → Fills w p.literals (size_of_place p f) x t lengths n i a b → Names w a b
    fills (typed.one_value u e) t lengths n i a b l s = sets u e n i a b l s
    fills (typed.text m) t lengths n i a b l s = copies t n i m (first_length lengths) (length (text_or_none (slice_get p.literals m))) a b s
    fills (typed.in_braces x) t lengths n i a b l s = join w (one w _ a s.0 s.1 tt) (fills x t lengths n i s.0 b (past w _ a s.0 s.1) s.2)
    fills (typed.list all) t lengths n i a b l s =
        join w (one w _ a s.0 s.1 tt) (fill_all all t (first_length lengths) (inner_lengths lengths) n i s.0 b (past w _ a s.0 s.1) s.2)

    fill_all : (all : Initialisers) (t : IntType) (k : ℕ) (lengths : List ℕ) (n i a b : ℕ) → a ≤ length w → FillAll w p.literals (size_of_place p f) all t k lengths n i a b
        → Names w a b
    fill_all typed.no_initialisers t k lengths n i a b l s = clears t n i (k * elements_in lengths) a b s
    fill_all (typed.and_initialiser x more) t zero lengths n i a b l s = none w a b s
    fill_all (typed.and_initialiser x more) t (suc k) lengths n i a b l s =
        let this = fills x t lengths n i a s.0 l s.1 in
        join w this (fill_all more t k lengths n (i + elements_in lengths) s.0 b (this.stays l) s.2)

  object : (t : IntType) (lengths : List ℕ) (x : Initialiser) (n a b : ℕ) → a ≤ length w → InitialisesObject w p f t lengths x n a b → Names w a b
  object t [] x n a b l s = word x n a b l s
  object t (k ∷ lengths) x n a b l s = fills x t (k ∷ lengths) n 0 a b l s

  defined : (o : Option ObjectType) (x : Initialiser) (n a b : ℕ) → a ≤ length w → Initialises w p f o x n a b → Names w a b
  defined None x n a b l s = none w a b s
  defined (Some o) x n a b l s = object o.element o.lengths x n a b l s

  -- ---- parts of statements

  effects : (o : Option Value) (a b : ℕ) → a ≤ length w → Effects w p f o a b → Names w a b
  effects None a b l i = none w a b i
  effects (Some e) a b l i = value e Nowhere a b l tt i

  repeats : (o : Option Value) (top a b : ℕ) → a ≤ length w → Repeats w p f o top a b → Names w a b
  repeats None top a b l i = one w _ a b i tt
  repeats (Some e) top a b l i = value e (If true top) a b l tt i

  tests : (o : Operand) (labels : List (Option ℤ)) (places : List ℕ) (default a b : ℕ) → FewIn o → Tests w o labels places default a b → Names w a b
  tests o [] places default a b fo i = one w _ a b i tt
  tests o (l ∷ labels) [] default a b fo i = absurd i
  tests o (None ∷ labels) (q ∷ places) default a b fo i = tests o labels places q a b fo i
  tests o (Some c ∷ labels) (q ∷ places) default a b fo i = join w (one w _ a i.0 i.1 (fo, tt)) (tests o labels places default i.0 b fo i.2)

  leaves : (back a b : ℕ) → Leaves w back a b → Names w a b
  leaves back a b (inl h) = none w a b h.0
  leaves back a b (inr i) = one w _ a b i tt

  forget_them : (n k a b : ℕ) → One w (forgets n k) a b → Names w a b
  forget_them n zero a b i = one w _ a b i tt
  forget_them n (suc k) a b i = one w _ a b i tt

  -- ---- statements

  mutual
    stands : (x : Statement) (out again back a b : ℕ) → a ≤ length w → Stands w p f x out again back a b → Names w a b
    stands typed.empty out again back a b l i = one w _ a b i tt
    stands (typed.evaluate e) out again back a b l i = join w (one w _ a i.0 i.1 tt) (value e Nowhere i.0 b (past w _ a i.0 i.1) tt i.2)
    stands (typed.declare n) out again back a b l i = one w _ a b i tt
    stands (typed.define n x) out again back a b l i = join w (one w _ a i.0 i.1 tt) (defined (slice_get f.objects n) x n i.0 b (past w _ a i.0 i.1) i.2)
    stands (typed.block n k all) out again back a b l i = join w (one w _ a i.0 i.1 tt) (stand_all all out again back i.0 b (past w _ a i.0 i.1) i.2)
    stands (typed.branch e x) out again back a b l i =
        let l1 = past w _ a i.0 i.2 in
        let test = value e (If false b) i.0 i.1 l1 tt i.3 in
        join w (one w _ a i.0 i.2 tt) (join w test (stands x out again back i.1 b (test.stays l1) i.4))
    stands (typed.branches e x y) out again back a b l i =
        let l1 = past w _ a i.0 i.4 in
        let test = value e (If false i.3) i.0 i.1 l1 tt i.5 in
        join w (one w _ a i.0 i.4 tt) (join w test (join w (stands x out again back i.1 i.2 (test.stays l1) i.6)
        (join w (one w _ i.2 i.3 i.7 tt) (stands y out again back i.3 b (past w _ i.2 i.3 i.7) i.8))))
    stands (typed.switch u e n k all) out again back a b l i =
        let o = waits_in e (is_within n k) (has_objects k) 0 0 in
        let fo = waits0 e (is_within n k) (has_objects k) in
        let test = value e (mode_of o) i.0 i.1 (past w _ a i.0 i.5) (next_mode o fo) i.6 in
        let asked = tests o (labels_of all) i.4 b i.2 i.3 (next_in o fo) i.8 in
        join w (one w _ a i.0 i.5 tt) (join w test (join w (forget_them n k i.1 i.2 i.7)
        (join w asked (stand_at all i.4 b again back i.3 b (asked.stays (past w _ i.1 i.2 i.7)) i.9))))
    stands (typed.case v) out again back a b l i = one w _ a b i tt
    stands typed.default out again back a b l i = one w _ a b i tt
    stands (typed.while e x) out again back a b l i =
        let l1 = past w _ a i.0 i.2 in
        let body = stands x b i.1 back i.0 i.1 l1 i.3 in
        join w (one w _ a i.0 i.2 tt) (join w body (value e (If true i.0) i.1 b (body.stays l1) tt i.4))
    stands (typed.do_while x e) out again back a b l i =
        let l1 = past w _ a i.0 i.2 in
        let body = stands x b i.1 back i.0 i.1 l1 i.3 in
        join w (one w _ a i.0 i.2 tt) (join w body (value e (If true i.0) i.1 b (body.stays l1) tt i.4))
    stands (typed.for declared_ first test step x) out again back a b l i =
        let l1 = past w _ a i.0 i.6 in
        let all = stand_all declared_ b b back i.0 i.1 l1 i.7 in
        let begin = effects first i.1 i.2 (all.stays l1) i.8 in
        let l4 = past w _ i.2 i.3 i.9 in
        let body = stands x b i.4 back i.3 i.4 l4 i.10 in
        let steps = effects step i.4 i.5 (body.stays l4) i.11 in
        join w (one w _ a i.0 i.6 tt) (join w all (join w begin (join w (one w _ i.2 i.3 i.9 tt) (join w body
        (join w steps (repeats test i.3 i.5 b (steps.stays (body.stays l4)) i.12))))))
    stands typed.break out again back a b l i = one w _ a b i tt
    stands typed.continue out again back a b l i = one w _ a b i tt
    stands typed.return_nothing out again back a b l i = join w (one w _ a i.0 i.1 tt) (leaves back i.0 b i.2)
    stands (typed.return_value u e) out again back a b l i =
        join w (one w _ a i.0 i.2 tt) (join w (gives u e (target.Temporary 0) i.0 i.1 (past w _ a i.0 i.2) next_few0 i.3) (leaves back i.1 b i.4))

    stand_all : (all : Statements) (out again back a b : ℕ) → a ≤ length w → StandAll w p f all out again back a b → Names w a b
    stand_all typed.no_statements out again back a b l i = none w a b i
    stand_all (typed.and_statement x more) out again back a b l i =
        let this = stands x out again back a i.0 l i.1 in
        join w this (stand_all more out again back i.0 b (this.stays l) i.2)

    stand_at : (all : Statements) (places : List ℕ) (out again back a b : ℕ) → a ≤ length w → StandAt w p f all places out again back a b → Names w a b
    stand_at typed.no_statements places out again back a b l i = none w a b i.1
    stand_at (typed.and_statement x more) places out again back a b l i =
        let this = stands x out again back a i.0 l i.3 in
        join w this (stand_at more i.1 out again back i.0 b (this.stays l) i.4)

  -- ---- functions

  idles : (n a b : ℕ) → Idles w n a b → Names w a b
  idles zero a b i = none w a b i
  idles (suc n) a b i = join w (one w _ a i.0 i.1 tt) (idles n i.0 b i.2)

  closes : (is_main : Bool) (a b : ℕ) → Closes w is_main a b → Names w a b
  closes true a b i = one w _ a b i (nothing_few, tt)
  closes false a b i = one w _ a b i tt

pub body_few : (p : typed.Program) (is_main : Bool) (f : typed.Function) (code : List Instruction) → length code < 4611686018427387904 → IsBodyOf p is_main f code → AreFew code
body_few p is_main f code short of =
    let begin = idles code short p f (suc (length f.type.parameters)) 0 of.start of.idles in
    let all = join code begin (join code (stands code short p f f.body of.end of.end of.back of.start of.end (begin.stays (from_zero (length code))) of.body)
    (join code (closes code short p f is_main of.end of.back of.closes) (one code _ of.back (length code) of.leaves tt))) in
    λ j x at. all.each j x (from_zero j) (slice_get_within code j x at) at
