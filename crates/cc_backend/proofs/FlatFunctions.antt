-- Functions that are made flat one by one are flat code of the program.
use Rattle.std.proofs.Common.{◌≡◌, ◌≤◌, ◌<◌, ℕ, zero, suc, ◌+◌, ◌^◌, Bool, true, List, [], ◌∷◌, ◌++◌, length, map, Option, Some, None, refl, sym, ap, ◌∙◌, subst, length-append, arith}
use Rattle.std.specs.Prelude.{slice_get, nat_eq, option_map, max, sum_by, Result, Ok, Err, IfOk}
use Rattle.std.proofs.lemmas.Option.{slice_get-map, slice_get_within}
use Rattle.std.proofs.lemmas.List.{length-map}
use Rattle.typing_spec.specs.Program as typed
use Rattle.tac_code.specs.Code as tac
use Rattle.tac_code.specs.Code.{function_at, or_no_function}
use Rattle.tac_code.specs.Lowered.{kind_of, IsLowered}
use Rattle.tac_code.specs.Sound.{FunctionFits}
use Rattle.lower_wf.specs.Asked.{bodies_are_asked, types_are_sized}
use Rattle.lower_bounds.specs.Laws.{NamesAreThere}
use Rattle.lower_bounds.proofs.Whole.{function_is_sound, code_is_lowered}
use Rattle.tac.specs.layer.Functions.{parameters_if, parameters_at, IsFunctionWith}
use Rattle.tac.proofs.Whole.{function_is_code, functions_are_code}
use Rattle.cc_backend.proofs.Plain.{and_right, same_some, each_snoc}
use Rattle.frames_code.specs.Code as flat
use Rattle.frames_code.specs.declared.code.Function.{Function as Held}
use Rattle.frames_code.specs.Code.{frame_bytes}
use Rattle.frames.specs.Costs.{code_bytes}
use Rattle.frames.specs.Data.{data_of}
use Rattle.frames.specs.Layout.{Starts, starts_of}
use Rattle.frames.specs.Translated.{flat_function, flat_program}
use Rattle.frames.specs.layer.Alone.{with_data}
use Rattle.frames_opt.specs.Simplified.{IsSimplified}
use Rattle.frames_opt.specs.layer.Functions.{IsSimplerFunction, AreSimpler}
use Rattle.frames_opt.proofs.Whole.{is_simplified}
use Rattle.frames_reach.specs.layer.Functions.{IsReachedFunction, AreReached}
use Rattle.frames_reach.proofs.InTurn.{simplified_in_turn}
use Rattle.frames_reach.proofs.Whole.{reached_is_simplified}
use Rattle.frames_layout.specs.layer.Functions.{IsLaidOutFunction, AreLaidOut}
use Rattle.frames_layout.specs.LaidOut.{IsLaidOut}
use Rattle.frames_layout.proofs.Whole.{laid_out}
use Rattle.frames_hoist.specs.Optimised.{IsOptimised}
use Rattle.frames_hoist.specs.layer.Functions.{IsHoistedFunction, AreHoisted}
use Rattle.frames_hoist.proofs.InTurn.{optimised_in_turn}
use Rattle.frames_hoist.proofs.Whole.{is_optimised}
use Rattle.frames_leaf.specs.layer.Functions.{IsLeafAllocated, AreLeafAllocated}
use Rattle.frames_leaf.proofs.InTurn.{allocated_in_turn}
use Rattle.frames_leaf.proofs.Whole.{is_allocated}
use Rattle.frames_regalloc.specs.Renumbered.{IsRenumberedFunction, AreRenumbered, IsRenumbered}
use Rattle.cc_backend.specs.Better.{IsBetter}
use Rattle.cc_backend.specs.Made.{IsReady, IsFlatCodeOf}
use Rattle.cc_backend.specs.inside.FlatFunctions.{IsFlatFunctionOf, AreFlatFunctionsOf}
use Rattle.cc_backend.proofs.Generates.{code_of}

-- ---- one function: each function that it may name is there, though no other has its code yet

abbrev unwritten : typed.Function → tac.Function
unwritten f = record { code = []; parameters = map kind_of f.type.parameters; objects = []; result = f.type.result; temporaries = 0; kept = 0 }

abbrev unwritten_program : typed.Program → tac.Program
unwritten_program p = record { functions = map unwritten p.functions; literals = p.literals; statics = p.statics; main = p.main }

parameters_same : (o : Option typed.Function) → length (or_no_function (option_map unwritten o)).parameters ≡ parameters_if o
parameters_same None = refl
parameters_same (Some f) = length-map f.type.parameters kind_of

parameters_are : (p : typed.Program) (n : ℕ) → length (function_at (unwritten_program p) n).parameters ≡ parameters_at p.functions n
parameters_are p n = ap (λ o. length (or_no_function o).parameters) (slice_get-map unwritten p.functions n) ∙ parameters_same (slice_get p.functions n)

names_are_there : (p : typed.Program) → NamesAreThere p (unwritten_program p)
names_are_there p = record {
  literals = refl;
  statics = refl;
  callees = λ n f e. (
    subst (λ l. n < l) (sym (length-map p.functions unwritten)) (slice_get_within p.functions n f e),
    parameters_are p n ∙ ap parameters_if e,
  );
}

pub types_sized : (p : typed.Program) → IsReady p → types_are_sized p ≡ true
types_sized p ready = and_right (bodies_are_asked p) (types_are_sized p) ready.asked

pub function_fits : (p : typed.Program) → IsReady p → (k : ℕ) (f : typed.Function) → slice_get p.functions k ≡ Some f → (is_main : Bool) (g : tac.Function) → IsFunctionWith p is_main f g
    → ((q : tac.Program) × FunctionFits q g) × (length g.code < 2 ^ 32)
function_fits p ready k f e is_main g made =
    let sized = types_sized p ready in
    let q = unwritten_program p in
    let both = function_is_sound p q ready.checked sized (names_are_there p) k f g e is_main (function_is_code p q (parameters_are p) is_main f g made) in
    ((q, both.0), both.1)

pub function_in : {E : Type 0} (p : typed.Program) (s : Starts) (is_main : Bool) (f : typed.Function) (t : tac.Function) (a b u v c d : flat.Function) (most : ℕ) → IsFunctionWith p is_main f t → a ≡ flat_function s t
    → most ≤ sum_by code_bytes a.code → IsSimplerFunction a b → IsReachedFunction b u → IsLaidOutFunction most u v → IsHoistedFunction v c → IsLeafAllocated c d → (r : Result Held E) → IfOk r (λ h. IsRenumberedFunction d (flat.function_of h)) → IfOk r (λ h. IsFlatFunctionOf p s is_main f (flat.function_of h))
function_in p s is_main f t a b u v c d most lowered flattened few simplified reached laid hoisted allocated (Ok h) renumbered =
    record { code = t; lowered = lowered; simpler = b; simplified = subst (λ x. IsSimplerFunction x b) flattened simplified; shorter = u; reached = reached; most = most; most_is = subst (λ x. most ≤ sum_by code_bytes x.code) flattened few; laid = v; laid_out = laid; better = c; hoisted = hoisted; last = d; allocated = allocated; renumbered = renumbered }
function_in p s is_main f t a b u v c d most lowered flattened few simplified reached laid hoisted allocated (Err e) renumbered = tt

-- ---- all functions

pub no_functions : (p : typed.Program) (s : Starts) → AreFlatFunctionsOf p s 0 []
no_functions p s = record { count = refl; each = λ n f h e there. absurd (let z : ⊥ = cc in z) }

pub one_more_function : (p : typed.Program) (s : Starts) (n : ℕ) (old : List flat.Function) (f : typed.Function) (h : flat.Function) → slice_get p.functions n ≡ Some f → AreFlatFunctionsOf p s n old
    → IsFlatFunctionOf p s (nat_eq n p.main) f h → AreFlatFunctionsOf p s (n + 1) (old ++ h ∷ [])
one_more_function p s n old f h there x last =
    let count : length old ≡ n = x.count in
    record {
      count = length-append old (h ∷ []) ∙ ap (λ k. k + 1) count;
      each = each_snoc (λ k a b. IsFlatFunctionOf p s (nat_eq k p.main) a b) p.functions old f h (ap (slice_get p.functions) count ∙ there) (subst (λ k. IsFlatFunctionOf p s (nat_eq k p.main) f h) (sym count) last) x.each;
    }

-- the code of each third function has no more bytes than that of the first, or of the second
abbrev IsWithin : List flat.Function → List flat.Function → List flat.Function → Type 0
IsWithin xs ys zs =
    (k : ℕ) (a b c : flat.Function) → slice_get xs k ≡ Some a → slice_get ys k ≡ Some b → slice_get zs k ≡ Some c → sum_by code_bytes c.code ≤ max (sum_by code_bytes a.code) (sum_by code_bytes b.code)

none_within : IsWithin [] [] []
none_within k a b c ea eb ec = absurd (let z : ⊥ = cc in z)

one_within : (x y z : flat.Function) (most : ℕ) (xs ys zs : List flat.Function) → most ≤ sum_by code_bytes x.code → sum_by code_bytes z.code ≤ max most (sum_by code_bytes y.code) → IsWithin xs ys zs
    → IsWithin (x ∷ xs) (y ∷ ys) (z ∷ zs)
one_within x y z most xs ys zs few le more zero a b c ea eb ec =
    let first : sum_by code_bytes x.code ≡ sum_by code_bytes a.code = ap (λ (h : flat.Function). sum_by code_bytes h.code) (same_some x a ea) in
    let second : sum_by code_bytes y.code ≡ sum_by code_bytes b.code = ap (λ (h : flat.Function). sum_by code_bytes h.code) (same_some y b eb) in
    let third : sum_by code_bytes z.code ≡ sum_by code_bytes c.code = ap (λ (h : flat.Function). sum_by code_bytes h.code) (same_some z c ec) in
    omega (arith, few, le, first, second, third)
one_within x y z most xs ys zs few le more (suc k) a b c ea eb ec = more k a b c ea eb ec

-- the functions of each step, side by side
record Steps (p : typed.Program) (s : Starts) (is_main : ℕ → Bool) (fs : List typed.Function) (hs : List flat.Function) : Type 0 where
  pub codes : List tac.Function
  pub count : length codes ≡ length fs
  pub each : (n : ℕ) (f : typed.Function) (g : tac.Function) → slice_get fs n ≡ Some f → slice_get codes n ≡ Some g → IsFunctionWith p (is_main n) f g
  pub simpler : List flat.Function
  pub simplified : AreSimpler (map (flat_function s) codes) simpler
  pub shorter : List flat.Function
  pub reached : AreReached simpler shorter
  pub laid : List flat.Function
  pub laid_out : AreLaidOut shorter laid
  pub within : IsWithin (map (flat_function s) codes) shorter laid
  pub better : List flat.Function
  pub hoisted : AreHoisted laid better
  pub last : List flat.Function
  pub allocated : AreLeafAllocated better last
  pub renumbered : AreRenumbered last hs

each_cons : (P : ℕ → typed.Function → tac.Function → Type 0) (f0 : typed.Function) (g0 : tac.Function) (fs : List typed.Function) (gs : List tac.Function) → P 0 f0 g0
    → ((n : ℕ) (f : typed.Function) (g : tac.Function) → slice_get fs n ≡ Some f → slice_get gs n ≡ Some g → P (suc n) f g)
    → (n : ℕ) (f : typed.Function) (g : tac.Function) → slice_get (f0 ∷ fs) n ≡ Some f → slice_get (g0 ∷ gs) n ≡ Some g → P n f g
each_cons P f0 g0 fs gs first more zero f g e h = subst (λ k. P 0 f k) (same_some g0 g h) (subst (λ k. P 0 k g0) (same_some f0 f e) first)
each_cons P f0 g0 fs gs first more (suc n) f g e h = more n f g e h

steps : (p : typed.Program) (s : Starts) (is_main : ℕ → Bool) (fs : List typed.Function) (hs : List flat.Function) → length hs ≡ length fs
    → ((n : ℕ) (f : typed.Function) (h : flat.Function) → slice_get fs n ≡ Some f → slice_get hs n ≡ Some h → IsFlatFunctionOf p s (is_main n) f h) → Steps p s is_main fs hs
steps p s is_main [] [] count each = record { codes = []; count = refl; each = λ n f g e h. absurd (let z : ⊥ = cc in z); simpler = []; simplified = tt; shorter = []; reached = tt; laid = []; laid_out = tt; within = none_within; better = []; hoisted = tt; last = []; allocated = tt; renumbered = tt }
steps p s is_main [] (h ∷ hs) count each = absurd (omega (arith, count))
steps p s is_main (f ∷ fs) [] count each = absurd (omega (arith, count))
steps p s is_main (f ∷ fs) (h ∷ hs) count each =
    let x = each 0 f h refl refl in
    let more = steps p s (λ n. is_main (suc n)) fs hs (omega (arith, count)) (λ n. each (suc n)) in
    record {
      codes = x.code ∷ more.codes;
      count = ap suc more.count;
      each = each_cons (λ n a b. IsFunctionWith p (is_main n) a b) f x.code fs more.codes x.lowered more.each;
      simpler = x.simpler ∷ more.simpler;
      simplified = (x.simplified, more.simplified);
      shorter = x.shorter ∷ more.shorter;
      reached = (x.reached, more.reached);
      laid = x.laid ∷ more.laid;
      laid_out = ((x.laid_out.code, x.laid_out.is), more.laid_out);
      within = one_within (flat_function s x.code) x.shorter x.laid x.most (map (flat_function s) more.codes) more.shorter more.laid x.most_is x.laid_out.bytes more.within;
      better = x.better ∷ more.better;
      hoisted = (x.hoisted, more.hoisted);
      last = x.last ∷ more.last;
      allocated = (x.allocated, more.allocated);
      renumbered = (x.renumbered, more.renumbered);
    }

-- ---- the program

better_of : (plain simple laid best : flat.Program) → IsSimplified plain simple → IsLaidOut simple laid → IsWithin plain.functions simple.functions laid.functions → IsOptimised laid best → IsBetter plain best
better_of plain simple laid best simplified anew within optimised = record {
  simple = simple;
  simplified = simplified;
  laid = laid;
  laid_out = anew;
  no_longer = λ k f g ef eg. on k f g ef eg (slice_get simple.functions k) refl;
  optimised = optimised;
}
  where
    same_frames : (k : ℕ) → option_map frame_bytes (slice_get simple.functions k) ≡ option_map frame_bytes (slice_get plain.functions k)
    same_frames k = sym (slice_get-map frame_bytes simple.functions k) ∙ (ap (λ xs. slice_get xs k) simplified.frames ∙ slice_get-map frame_bytes plain.functions k)

    on : (k : ℕ) (f g : flat.Function) → slice_get plain.functions k ≡ Some f → slice_get laid.functions k ≡ Some g → (o : Option flat.Function) → slice_get simple.functions k ≡ o → sum_by code_bytes g.code ≤ sum_by code_bytes f.code
    on k f g ef eg None e = let no_such : None ≡ Some (frame_bytes f) = ap (option_map frame_bytes) (sym e) ∙ (same_frames k ∙ ap (option_map frame_bytes) ef) in absurd (let z : ⊥ = cc in z)
    on k f g ef eg (Some h) e = omega (arith, within k f h g ef e eg, simplified.bytes k f h ef e)

pub program_in : (p : typed.Program) (f : flat.Program) (s : Starts) → IsReady p → s ≡ starts_of (with_data p.literals p.statics) → AreFlatFunctionsOf p s (length p.functions) f.functions
    → f.statics ≡ data_of (with_data p.literals p.statics) → f.main ≡ p.main → IsFlatCodeOf p f
program_in p f s ready begin all statics main =
    let x = steps p s (λ n. nat_eq n p.main) p.functions f.functions all.count all.each in
    let q : tac.Program = record { functions = x.codes; literals = p.literals; statics = p.statics; main = p.main } in
    let g : flat.Program = record { functions = x.simpler; statics = data_of q; main = p.main } in
    let h : flat.Program = record { functions = x.better; statics = data_of q; main = p.main } in
    let lowered : IsLowered p q = code_is_lowered p q ready.checked ready.asked (functions_are_code p q refl refl refl x.count x.each) in
    let simpler : AreSimpler (map (flat_function (starts_of q)) x.codes) x.simpler = subst (λ t. AreSimpler (map (flat_function t) x.codes) x.simpler) begin x.simplified in
    let simplified : IsSimplified (flat_program q) g = is_simplified (flat_program q) g simpler refl refl in
    let shorter : flat.Program = record { functions = x.shorter; statics = data_of q; main = p.main } in
    let reached : IsSimplified (flat_program q) shorter = simplified_in_turn (flat_program q) g shorter simplified (reached_is_simplified g shorter x.reached refl refl) in
    let last : flat.Program = record { functions = x.last; statics = data_of q; main = p.main } in
    let anew : flat.Program = record { functions = x.laid; statics = data_of q; main = p.main } in
    let within : IsWithin (map (flat_function (starts_of q)) x.codes) x.shorter x.laid = subst (λ t. IsWithin (map (flat_function t) x.codes) x.shorter x.laid) begin x.within in
    let hoisted : IsOptimised anew h = is_optimised anew h x.hoisted refl refl in
    let optimised : IsOptimised anew last = allocated_in_turn anew h last hoisted (is_allocated h last x.allocated refl refl) in
    let better : IsBetter (flat_program q) last = better_of (flat_program q) shorter anew last reached (laid_out shorter anew x.laid_out refl refl) within optimised in
    let renumbered : IsRenumbered last f = record { functions = x.renumbered; statics = statics; main = main } in
    code_of p q last f lowered better renumbered
