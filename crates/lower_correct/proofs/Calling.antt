-- The code follows calls of functions and of the built-in functions (ISO/IEC 9899:2011 6.5.2.2).
use Rattle.std.proofs.Common.{◌≡◌, ℕ, suc, ◌+◌, ◌*◌, ◌<◌, ◌≤◌, List, [], Option, Some, Bool, ℤ, pos, negsuc, refl, sym, ap, ◌∙◌, subst, arith}
use Rattle.std.specs.Prelude.{◌%◌, ◌^◌, ◌∷◌, slice_get}
use Rattle.std.proofs.lemmas.Int.{ints}
use Rattle.srcset.specs.declared.refusal.Pos.{Pos}
use Rattle.ctypes.specs.declared.types.IntType.{IntType}
use Rattle.ctypes.specs.declared.types.IntType.TheVariants as ty
use Rattle.ctypes.specs.Types.{IsValueOf}
use Rattle.typing_spec.specs.Program as typed
use Rattle.typing_spec.specs.Program.{Arguments, Callee, Value as Expression}
use Rattle.typing_spec.specs.Types.{number, FunctionType}
use Rattle.typing_spec.specs.WellTyped.{callee_type}
use Rattle.csem.specs.Machine as machine
use Rattle.csem.specs.Machine.{Run, Goes, Stops, then_do, choose, computed_at}
use Rattle.csem.specs.Expressions.{Passed, Number, Referred, Calling, call_value, get_byte, put_byte, first_number}
use Rattle.csem.specs.History.{Did}
use Rattle.csem_events.specs.Events.{Got, GotEnd, Put}
use Rattle.ctypes.specs.Types.{modulo}
use Rattle.tac_code.specs.declared.code.Operand.TheVariants as operand
use Rattle.tac_code.specs.declared.code.Instruction.TheVariants as instruction
use Rattle.tac_code.specs.Code.{Program, function_at}
use Rattle.tac_code.specs.Run.{Value, Values, Call, State, Progress, running, ended, word, word_in, word_for, number_of, with_at, unset, result_alone, word_at, got, ◌>>=◌}
use Rattle.tac_code.specs.Run as tac
use Rattle.tac_code.specs.Sound.{AreBytes}
use Rattle.lower_correct.specs.Values.{arguments_call, arguments_write, or_int, writes_none, Mode}
use Rattle.lower_correct.specs.Code.{One, Ends, zero_word}
use Rattle.lower_correct.proofs.Words.{low8}
use Rattle.lower_correct.proofs.Steps.{reaches_on, GoesTo, goes, Sim}
use Rattle.lower_correct.proofs.Standing.{Scratch, here, does_one, world, first_automatic}
use Rattle.lower_correct.proofs.Stores.{fine_alike, after_alike, Fine, After, after_none}
use Rattle.lower_correct.proofs.Goods.{Keeps, IsFreeFor, Suits, Good, ends}
use Rattle.lower_correct.proofs.Leaves.{IntoDoes}
use Rattle.lower_correct.proofs.Passing.{AreFor, count, counts_same, Fitting, RowDoes, CallsDo, Wanted, called_known, arguments_do, function_last}

module _ (p : typed.Program) (call : Calling) (q : Program) (deep f : ℕ) where
  module _ (at : Pos) (result : Option IntType) (used : Bool) (args : Arguments) (m : Mode) (t k : ℕ) (fr : IsFreeFor m t k) (su : Suits p q f m (or_int result))
    where
      pub function_does : (g : ℕ) (type : FunctionType) (pc p1 p2 p3 pc2 : ℕ) → CallsDo p call q deep f → callee_type p (typed.function g) ≡ Some type
          → AreFor type.parameters args → type.result ≡ result → Wanted p call q deep f m used
          → IsValueOf (or_int result) (pos 0) → One (function_at q f).code instruction.Nothing pc p1 → RowDoes p call q deep f type.parameters args 0 k p1 p2
          → One (function_at q f).code (instruction.Call g) p2 p3
          → Ends (function_at q f).code m (operand.Temporary 0) p3 pc2
          → IntoDoes p call q deep f (typed.call at (typed.function g) result used args) m t k pc pc2
      function_does g type pc p1 p2 p3 pc2 ok known_type ha hr w hz i1 row i2 i3 s now ws le fine =
          arguments_do p call q deep f at (typed.function g) result used args m t k fr su type.parameters pc p1 p2 pc2
          (λ passed s. then_do (call g passed s) (λ v s. call_value used at v s)) s now ws i1 row le fine
          (λ n passed s2 now2 le2 fits k1 fine2 a1. function_last p call q deep f at (typed.function g) result used args m t k fr su g type n p2 p3 pc2 s now ws
          ok known_type (counts_same type.parameters args ha) hr w i2 i3 hz passed s2 now2 le2 fits k1 fine2 a1)

      -- ---- the next byte, or the end of the input

      byte_fits : (b : ℕ) → b < 2 ^ 8 → IsValueOf ty.Int (pos b)
      byte_fits b h = (omega (arith, ints), omega (arith, ints, h))

      end_fits : IsValueOf ty.Int (negsuc 0)
      end_fits = (omega (arith, ints), omega (arith, ints))

      -- a value that a built-in function put into temporary 0
      given : (callee : Callee) (n p3 pc2 hi : ℕ) (s : machine.State) (now now2 : Scratch) (temporaries : Values) (ws : List Call) (v : ℤ)
          (s2 s3 : machine.State)
          → result ≡ Some ty.Int → s3.base ≡ s2.base → s3.arrays ≡ s2.arrays → s3.store ≡ s2.store
          → AreBytes s3.input → IsValueOf ty.Int v → temporaries 0 ≡ Some (word (word_for v)) → Keeps (arguments_call args) 0 k now now2
          → Fine (world p q f ws) s2 → After (first_automatic q) (arguments_write args) (record s { clock = n }) s2
          → Ends (function_at q f).code m (operand.Temporary 0) p3 pc2 → 60 * s3.clock + 22 ≤ hi
          → GoesTo q 14 hi s3.clock (here f p3 (record { temporaries = temporaries; kept = now2.kept }) ws s3)
          (Good p q f (typed.call at callee result used args) m t k pc2 s now ws v) s3
      given callee n p3 pc2 hi s now now2 temporaries ws v s2 s3 hr e1 e2 e3 bytes hv there k1 fine a1 i h1 =
          let value : IsValueOf (or_int result) v = subst (λ r. IsValueOf (or_int r) v) (sym hr) hv in
          let fine3 : Fine (world p q f ws) s3 =
          fine_alike (world p q f ws) s2 s3 e1 e2 e3 bytes fine in
          let now3 : Scratch = record { temporaries = temporaries; kept = now2.kept } in
          ends p q f (typed.call at callee result used args) m t k (operand.Temporary 0) p3 pc2 hi s now now3 ws v s3 fr su i there h1
          (called_known p call q deep f at callee result used args m t k fr su ws n s now now2 now3 v s2 s3 a1 k1
          (after_alike writes_none s2 s2 s3 e1 e2 e3 (after_none writes_none s2)) fine3 (λ j. refl) value)

      small_word : (b : ℕ) → b < 2 ^ 8 → b ≡ word_for (pos b)
      small_word b h = omega (arith, h)

      byte_got : (n p2 p3 pc2 : ℕ) (s : machine.State) (now now2 : Scratch) (ws : List Call) (s2 : machine.State) (input : List ℕ) → s2.input ≡ input
          → result ≡ Some ty.Int → Keeps (arguments_call args) 0 k now now2 → Fine (world p q f ws) s2
          → After (first_automatic q) (arguments_write args) (record s { clock = n }) s2 → One (function_at q f).code instruction.GetByte p2 p3
          → Ends (function_at q f).code m (operand.Temporary 0) p3 pc2
          → Sim q 14 (60 * s2.clock + (60 + 6 * count args)) s2.clock (here f p2 now2 ws s2)
          (Good p q f (typed.call at typed.get_byte result used args) m t k pc2 s now ws) (get_byte input s2)
      byte_got n p2 p3 pc2 s now now2 ws s2 [] e hr k1 fine a1 i1 i2 =
          let s3 : machine.State = record s2 { history = Did GotEnd ∷ s2.history } in
          let temporaries = result_alone (Some 4294967295) in
          let now3 : Scratch = record { temporaries = temporaries; kept = now2.kept } in
          let Result2 = Good p q f (typed.call at typed.get_byte result used args) m t k pc2 s now ws in
          let l = given typed.get_byte n p3 pc2 (60 * s3.clock + 22) s now now2 temporaries ws (negsuc 0) s2 s3 hr refl refl refl fine.input end_fits refl k1
          fine
          a1 i2 (let le : 60 * s3.clock + 22 ≤ 60 * s3.clock + 22 = omega arith in le) in
          goes q 14 (Result2 (negsuc 0)) (60 * s2.clock + (60 + 6 * count args)) s2.clock (1 + l.j) (12 + l.c) (here f p2 now2 ws s2) l.u s3
          (reaches_on q (here f p2 now2 ws s2) (here f p3 now3 ws s3) 1 12 l.j l.c (running l.u)
          (does_one q f instruction.GetByte p2 p3 now2 ws s2 (running (here f p3 now3 ws s3)) i1
          (ap (got (here f p2 now2 ws s2)) e ∙ ap (λ n. running (here f n now3 ws s3)) i1.next)) l.reaches)
          (omega (arith, l.within)) (omega arith) l.good
      byte_got n p2 p3 pc2 s now now2 ws s2 (b ∷ more) e hr k1 fine a1 i1 i2 =
          let s3 : machine.State = record s2 { input = more; history = Did (Got b) ∷ s2.history } in
          let temporaries = result_alone (Some b) in
          let now3 : Scratch = record { temporaries = temporaries; kept = now2.kept } in
          let Result2 = Good p q f (typed.call at typed.get_byte result used args) m t k pc2 s now ws in
          let small : b < 2 ^ 8 = fine.input 0 b (ap (λ l. slice_get l 0) e) in
          let rest : AreBytes more = λ j c h. fine.input (suc j) c (ap (λ l. slice_get l (suc j)) e ∙ h) in
          let l = given typed.get_byte n p3 pc2 (60 * s3.clock + 22) s now now2 temporaries ws (pos b) s2 s3 hr refl refl refl rest (byte_fits b small)
          (ap (λ w. Some (word w)) (small_word b small)) k1 fine a1 i2 (let le : 60 * s3.clock + 22 ≤ 60 * s3.clock + 22 = omega arith in le) in
          goes q 14 (Result2 (pos b)) (60 * s2.clock + (60 + 6 * count args)) s2.clock (1 + l.j) (12 + l.c) (here f p2 now2 ws s2) l.u s3
          (reaches_on q (here f p2 now2 ws s2) (here f p3 now3 ws s3) 1 12 l.j l.c (running l.u)
          (does_one q f instruction.GetByte p2 p3 now2 ws s2 (running (here f p3 now3 ws s3)) i1
          (ap (got (here f p2 now2 ws s2)) e ∙ ap (λ n. running (here f n now3 ws s3)) i1.next)) l.reaches)
          (omega (arith, l.within)) (omega arith) l.good

      pub get_byte_does : (pc p1 p2 p3 pc2 : ℕ) → result ≡ Some ty.Int → One (function_at q f).code instruction.Nothing pc p1
          → RowDoes p call q deep f [] args 0 k p1 p2 → One (function_at q f).code instruction.GetByte p2 p3
          → Ends (function_at q f).code m (operand.Temporary 0) p3 pc2 → IntoDoes p call q deep f (typed.call at typed.get_byte result used args) m t k pc pc2
      get_byte_does pc p1 p2 p3 pc2 hr i1 row i2 i3 s now ws le fine =
          arguments_do p call q deep f at typed.get_byte result used args m t k fr su [] pc p1 p2 pc2 (λ passed s. get_byte s.input s) s now ws i1 row le fine
          (λ n passed s2 now2 le2 fits k1 fine2 a1. byte_got n p2 p3 pc2 s now now2 ws s2 s2.input refl hr k1 fine2 a1 i2 i3)

      -- ---- a byte is put; the run ends

      byte_put : (n p2 p3 pc2 : ℕ) (s : machine.State) (now now2 : Scratch) (ws : List Call) (s2 : machine.State) (passed : List Passed)
          → IsValueOf (or_int result) (pos 0) → Fitting (world p q f ws) (number ty.Int ∷ []) passed 0 now2.temporaries → Keeps (arguments_call args) 0 k now now2
          → Fine (world p q f ws) s2 → After (first_automatic q) (arguments_write args) (record s { clock = n }) s2 → One (function_at q f).code instruction.PutByte p2 p3
          → Ends (function_at q f).code m zero_word p3 pc2
          → Sim q 14 (60 * s2.clock + (60 + 6 * count args)) s2.clock (here f p2 now2 ws s2)
          (Good p q f (typed.call at typed.put_byte result used args) m t k pc2 s now ws) (put_byte (first_number passed) s2)
      byte_put n p2 p3 pc2 s now now2 ws s2 [] hz fits k1 fine a1 i1 i2 = absurd fits
      byte_put n p2 p3 pc2 s now now2 ws s2 (Referred r ∷ more) hz fits k1 fine a1 i1 i2 = absurd fits
      byte_put n p2 p3 pc2 s now now2 ws s2 (Number v ∷ more) hz fits k1 fine a1 i1 i2 =
          let s3 : machine.State = record s2 { history = Did (Put (modulo 8 v)) ∷ s2.history } in
          let now3 : Scratch = record { temporaries = unset; kept = now2.kept } in
          let Result2 = Good p q f (typed.call at typed.put_byte result used args) m t k pc2 s now ws in
          let step : tac.act q (here f p2 now2 ws s2) instruction.PutByte ≡ running (here f p3 now3 ws s3) =
          ap (λ o. word_in o >>= tac.put_byte (here f p2 now2 ws s2)) fits.1
          ∙ (ap (λ n. running (here f (p2 + 1) now3 ws (record s2 { history = Did (Put n) ∷ s2.history }))) (low8 v)
          ∙ ap (λ n. running (here f n now3 ws s3)) i1.next) in
          let l = ends p q f (typed.call at typed.put_byte result used args) m t k zero_word p3 pc2 (60 * s3.clock + 22) s now now3 ws (pos 0) s3 fr su i2 refl
          (let le : 60 * s3.clock + 22 ≤ 60 * s3.clock + 22 = omega arith in le)
          (called_known p call q deep f at typed.put_byte result used args m t k fr su ws n s now now2 now3 (pos 0) s2 s3 a1 k1
          (after_alike writes_none s2 s2 s3 refl refl refl (after_none writes_none s2))
          (fine_alike (world p q f ws) s2 s3 refl refl refl fine.input fine) (λ j. refl) hz) in
          goes q 14 (Result2 (pos 0)) (60 * s2.clock + (60 + 6 * count args)) s2.clock (1 + l.j) (10 + l.c) (here f p2 now2 ws s2) l.u s3
          (reaches_on q (here f p2 now2 ws s2) (here f p3 now3 ws s3) 1 10 l.j l.c (running l.u)
          (does_one q f instruction.PutByte p2 p3 now2 ws s2 (running (here f p3 now3 ws s3)) i1 step) l.reaches)
          (omega (arith, l.within)) (omega arith) l.good

      pub put_byte_does : (pc p1 p2 p3 pc2 : ℕ) → IsValueOf (or_int result) (pos 0) → One (function_at q f).code instruction.Nothing pc p1
          → RowDoes p call q deep f (number ty.Int ∷ []) args 0 k p1 p2 → One (function_at q f).code instruction.PutByte p2 p3
          → Ends (function_at q f).code m zero_word p3 pc2 → IntoDoes p call q deep f (typed.call at typed.put_byte result used args) m t k pc pc2
      put_byte_does pc p1 p2 p3 pc2 hz i1 row i2 i3 s now ws le fine =
          arguments_do p call q deep f at typed.put_byte result used args m t k fr su (number ty.Int ∷ []) pc p1 p2 pc2
          (λ passed s. put_byte (first_number passed) s) s now ws i1 row le fine
          (λ n passed s2 now2 le2 fits k1 fine2 a1. byte_put n p2 p3 pc2 s now now2 ws s2 passed hz fits k1 fine2 a1 i2 i3)

      exited : (p2 pc2 : ℕ) (s : machine.State) (now now2 : Scratch) (ws : List Call) (s2 : machine.State) (passed : List Passed)
          → Fitting (world p q f ws) (number ty.Int ∷ []) passed 0 now2.temporaries → One (function_at q f).code instruction.Exit p2 pc2
          → Sim q 14 (60 * s2.clock + (60 + 6 * count args)) s2.clock (here f p2 now2 ws s2)
          (Good p q f (typed.call at typed.exit result used args) m t k pc2 s now ws) (Stops (machine.Ended (modulo 8 (first_number passed))) s2)
      exited p2 pc2 s now now2 ws s2 [] fits i1 = absurd fits
      exited p2 pc2 s now now2 ws s2 (Referred r ∷ more) fits i1 = absurd fits
      exited p2 pc2 s now now2 ws s2 (Number v ∷ more) fits i1 =
          let t0 = here f p2 now2 ws s2 in
          let step : tac.act q t0 instruction.Exit ≡ ended (modulo 8 v) s2.input s2.history =
          ap (λ o. word_in o >>= λ w. ended (w % 2 ^ 8) s2.input s2.history) fits.1 ∙ ap (λ n. ended n s2.input s2.history) (low8 v) in
          record {
            j = 1;
            c = 2;
            reaches = does_one q f instruction.Exit p2 pc2 now2 ws s2 (ended (modulo 8 v) s2.input s2.history) i1 step;
            within =
                omega arith;
          }

      pub exit_does : (pc p1 p2 pc2 : ℕ) → One (function_at q f).code instruction.Nothing pc p1 → RowDoes p call q deep f (number ty.Int ∷ []) args 0 k p1 p2
          → One (function_at q f).code instruction.Exit p2 pc2
          → IntoDoes p call q deep f (typed.call at typed.exit result used args) m t k pc pc2
      exit_does pc p1 p2 pc2 i1 row i2 s now ws le fine =
          arguments_do p call q deep f at typed.exit result used args m t k fr su (number ty.Int ∷ []) pc p1 p2 pc2
          (λ passed s. Stops (machine.Ended (modulo 8 (first_number passed))) s) s now ws i1 row le fine
          (λ n passed s2 now2 le2 fits k1 fine2 a1. exited p2 pc2 s now now2 ws s2 passed fits i2)
