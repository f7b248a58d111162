-- Arguments that are evaluated one after another and then fetched, the last one first.
use Rattle.std.proofs.Common.{◌≡◌, ℕ, zero, suc, ◌+◌, ◌<◌, ◌≤◌, List, [], ◌∷◌, ◌++◌, length, map, drop, refl, sym, ap, subst, ◌∙◌, append_assoc, append-nil, length-append, add-one, arith}
use Rattle.typing_spec.specs.Program as typed
use Rattle.typing_spec.specs.Program.{Place, Arguments}
use Rattle.typed_ast.specs.declared.expressions.Argument.{Argument}
use Rattle.typed_ast.specs.View.{Given, number_given, array_given, and_given, argument_of, arguments_of}
use Rattle.tac_code.specs.declared.code.Instruction.{Instruction}
use Rattle.lower_correct.specs.Code.{Passes}
use Rattle.lower_correct.specs.Values.{arguments_call, arguments_write, keeps, waits_in, mode_of}
use Rattle.lower_correct.specs.Places.{found}
use Rattle.lower_ops.specs.layer.Parts.{plus}
use Rattle.lower_ops.proofs.Parts.{none_wrote}
use Rattle.lower_exprs.specs.declared.places.Free.{Free}
use Rattle.lower_exprs.specs.layer.Sizes.{passes_size}
use Rattle.lower_exprs.specs.layer.Written.{WrotePasses}
use Rattle.lower_exprs.specs.inside.Waiting.{given_size, Waits, Fetches, AllWait, AllFetched}
use Rattle.lower_exprs.proofs.Nodes.{argument_nodes, given_nodes, argument_step}
use Rattle.lower_exprs.proofs.Expressions.{number_wrote}
use Rattle.lower_exprs.proofs.Located.{array_wrote}

-- ---- how many instructions there are

plus_joins : (n a b : ℕ) → plus (plus n a) b ≡ plus n (plus a b)
unfolding plus
plus_joins n a b = omega arith

plus_turns : (a b c : ℕ) → plus a (plus b c) ≡ plus (plus a c) b
unfolding plus
plus_turns a b c = omega arith

plus_none : (a b : ℕ) → plus 0 (plus a b) ≡ plus a b
unfolding plus
plus_none a b = omega arith

pub plus_within : (n m k : ℕ) → n ≡ plus m k → n ≤ 18446744073709551615
unfolding plus
plus_within n m k e = omega (arith, e)

one_size : (g : Given) (more : Arguments) → passes_size (and_given g more) ≡ plus (given_size g more) (passes_size more)
one_size (number_given u e) more = plus_turns _ _ _
one_size (array_given array) more = plus_turns _ _ _

pub size_begins : (gs : List Given) → plus 0 (passes_size (arguments_of gs)) ≡ passes_size (arguments_of gs)
unfolding plus
size_begins [] = refl
size_begins (g ∷ gs) = ap (plus 0) (one_size g (arguments_of gs)) ∙ plus_none _ _ ∙ sym (one_size g (arguments_of gs))

pub size_ends : (n : ℕ) (rest : List Argument) (whole : ℕ) → n ≤ 18446744073709551615 → length rest ≡ 0 → plus n (passes_size (arguments_of (map argument_of rest))) ≡ whole → n ≡ whole
unfolding plus
size_ends n [] whole h e w = omega (arith, w)
size_ends n (a ∷ rest) whole h e w = absurd (omega (arith, e))

pub size_next : (n : ℕ) (g : Given) (gs : List Given) (whole : ℕ) → plus n (passes_size (arguments_of (g ∷ gs))) ≡ whole
    → plus (plus n (given_size g (arguments_of gs))) (passes_size (arguments_of gs)) ≡ whole
size_next n g gs whole e = plus_joins n _ _ ∙ ap (plus n) (sym (one_size g (arguments_of gs))) ∙ e

pub size_goes : (n s n2 : ℕ) (a : Argument) (more rest : List Argument) (whole : ℕ) → rest ≡ a ∷ more → s ≡ given_size (argument_of a) (arguments_of (map argument_of more)) → n2 ≡ plus n s
    → plus n (passes_size (arguments_of (map argument_of rest))) ≡ whole → plus n2 (passes_size (arguments_of (map argument_of more))) ≡ whole
size_goes n s n2 a more rest whole er es e2 w =
    ap (λ k. plus k (passes_size (arguments_of (map argument_of more)))) (e2 ∙ ap (plus n) es)
    ∙ size_next n (argument_of a) (map argument_of more) whole (ap (λ l. plus n (passes_size (arguments_of (map argument_of l)))) (sym er) ∙ w)

pub nodes_left : (a : Argument) (more rest : List Argument) (whole : ℕ) → rest ≡ a ∷ more → argument_nodes (arguments_of (map argument_of rest)) ≤ whole
    → 1 + (given_nodes (argument_of a) + argument_nodes (arguments_of (map argument_of more))) ≤ whole
nodes_left a more rest whole er h =
    let e = ap (λ l. argument_nodes (arguments_of (map argument_of l))) er in
    omega (arith, e, argument_step (argument_of a) (arguments_of (map argument_of more)), h)

-- ---- all that is written

pub passes_of : (size : Place → ℕ) (gs : List Given) (fs : List Free) (free : Free) (c0 c1 c2 : List Instruction) → AllWait size gs fs free c0 c1 → AllFetched gs fs c1 c2
    → WrotePasses size (arguments_of gs) free.temporary free.slot c0 c2
passes_of size [] [] free c0 c1 c2 x y = none_wrote (λ w p q. Passes w size typed.no_arguments free.temporary free.slot p q) c0 c2 (sym (x.0 ∙ y)) x.1 (λ w. refl)
passes_of size [] (f ∷ fs) free c0 c1 c2 x y = absurd x
passes_of size (g ∷ gs) [] free c0 c1 c2 x y = absurd x
passes_of size (number_given u e ∷ gs) (f ∷ fs) free c0 c1 c2 x y =
    let more = arguments_of gs in
    let less : Free = x.0 in
    let o = waits_in e (arguments_write more) (arguments_call more) free.temporary free.slot in
    number_wrote size u e more free.temporary free.slot less.temporary less.slot o (mode_of o) (keeps u e) refl refl x.3.0 x.3.1 refl x.3.2
    (passes_of size gs fs less x.1 c1 y.0 x.4 y.1) (subst (λ k. Fetches (number_given u e) more k y.0 c2) x.2 y.2)
passes_of size (array_given array ∷ gs) (f ∷ fs) free c0 c1 c2 x y =
    let more = arguments_of gs in
    let less : Free = x.0 in
    array_wrote size array more free.temporary free.slot less.temporary less.slot (arguments_call more) (found array (arguments_call more) free.temporary free.slot)
    refl refl x.3.0 x.3.1 x.3.2 (passes_of size gs fs less x.1 c1 y.0 x.4 y.1) (subst (λ k. Fetches (array_given array) more k y.0 c2) x.2 y.2)

pub drop_map : (n : ℕ) (l : List Argument) → drop n (map argument_of l) ≡ map argument_of (drop n l)
drop_map zero l = refl
drop_map (suc n) [] = refl
drop_map (suc n) (a ∷ l) = drop_map n l

next_of : (n : ℕ) (l : List Given) (g : Given) (more : List Given) → drop n l ≡ g ∷ more → drop (suc n) l ≡ more
next_of zero [] g more e = absurd (cc e)
next_of zero (x ∷ l) g more e = cc e
next_of (suc n) [] g more e = absurd (cc e)
next_of (suc n) (x ∷ l) g more e = next_of n l g more e

none_of : (n : ℕ) (l : List Given) → drop n l ≡ [] → drop (suc n) l ≡ []
none_of zero [] e = refl
none_of zero (x ∷ l) e = absurd (cc e)
none_of (suc n) [] e = refl
none_of (suc n) (x ∷ l) e = none_of n l e

empty_of : (l : List Argument) → length l ≡ 0 → l ≡ []
empty_of [] e = refl
empty_of (a ∷ l) e = absurd (omega (arith, e))

pub waits_behind : (size : Place → ℕ) (a : Argument) (more rest : List Argument) (free less : Free) (frees next : List Free) (whole : List Given) (first : Free) (c c0 c1 : List Instruction)
    → rest ≡ a ∷ more → ((fs : List Free) (end : List Instruction) → AllWait size (map argument_of rest) fs free c0 end → AllWait size whole (frees ++ fs) first c end)
    → next ≡ frees ++ free ∷ [] → Waits size (argument_of a) (arguments_of (map argument_of more)) free less c0 c1
    → (fs : List Free) (end : List Instruction) → AllWait size (map argument_of more) fs less c1 end → AllWait size whole (next ++ fs) first c end
waits_behind size a more rest free less frees next whole first c c0 c1 er so_far e w fs end x =
    subst (λ l. AllWait size whole l first c end) (sym (append_assoc frees (free ∷ []) fs) ∙ ap (λ l. l ++ fs) (sym e))
    (so_far (free ∷ fs) end (subst (λ l. AllWait size (map argument_of l) (free ∷ fs) free c0 end) (sym er) (less, c1, refl, w, x)))

pub all_waited : (size : Place → ℕ) (rest : List Argument) (free : Free) (frees : List Free) (whole : List Given) (first : Free) (c c0 : List Instruction)
    → ((fs : List Free) (end : List Instruction) → AllWait size (map argument_of rest) fs free c0 end → AllWait size whole (frees ++ fs) first c end)
    → length rest ≡ 0 → length c0 < 9223372036854775808 → AllWait size whole frees first c c0
all_waited size [] free frees whole first c c0 so_far e l = subst (λ l. AllWait size whole l first c c0) (append-nil frees) (so_far [] c0 (refl, l))
all_waited size (a ∷ rest) free frees whole first c c0 so_far e l = absurd (omega (arith, e))

-- ---- and fetched

pub fetched_on : (arguments behind more : List Argument) (a : Argument) (n : ℕ) (f : Free) (fs : List Free) (c c0 c1 : List Instruction) → behind ≡ drop n arguments → behind ≡ a ∷ more
    → AllFetched (drop (n + 1) (map argument_of arguments)) fs c c0 → Fetches (argument_of a) (arguments_of (map argument_of more)) f c0 c1 → AllFetched (drop n (map argument_of arguments)) (f ∷ fs) c c1
fetched_on arguments behind more a n f fs c c0 c1 e1 e2 x y =
    let here : drop n (map argument_of arguments) ≡ argument_of a ∷ map argument_of more = drop_map n arguments ∙ ap (map argument_of) (sym e1 ∙ e2) in
    let next : drop (n + 1) (map argument_of arguments) ≡ map argument_of more = rw add-one (next_of n (map argument_of arguments) (argument_of a) (map argument_of more) here) in
    subst (λ l. AllFetched l (f ∷ fs) c c1) (sym here) (c0, subst (λ l. AllFetched l fs c c0) next x, y)

pub fetched_none : (arguments behind : List Argument) (n : ℕ) (f : Free) (fs : List Free) (c c0 : List Instruction) → behind ≡ drop n arguments → length behind ≡ 0
    → AllFetched (drop (n + 1) (map argument_of arguments)) fs c c0 → AllFetched (drop n (map argument_of arguments)) (f ∷ fs) c c0
fetched_none arguments behind n f fs c c0 e1 e2 x =
    let here : drop n (map argument_of arguments) ≡ [] = drop_map n arguments ∙ ap (map argument_of) (sym e1) ∙ ap (map argument_of) (empty_of behind e2) in
    let next : drop (n + 1) (map argument_of arguments) ≡ [] = rw add-one (none_of n (map argument_of arguments) here) in
    subst (λ l. AllFetched l (f ∷ fs) c c0) (sym here) (subst (λ l. AllFetched l fs c c0) next x)

pub fetched_nothing : (gs : List Given) (c : List Instruction) → AllFetched gs [] c c
fetched_nothing [] c = refl
fetched_nothing (g ∷ gs) c = refl

one_longer : (old new : List Free) (f : Free) → old ≡ new ++ f ∷ [] → length old ≡ length new + 1
one_longer old new f e = ap length e ∙ length-append new (f ∷ [])

one_earlier : (old new fs all : List Free) (f : Free) → old ≡ new ++ f ∷ [] → old ++ fs ≡ all → new ++ f ∷ fs ≡ all
one_earlier old new fs all f e h = sym (append_assoc new (f ∷ []) fs) ∙ ap (λ l. l ++ fs) (sym e) ∙ h

pub fetch_goes : (arguments behind more : List Argument) (a : Argument) (old new fs all : List Free) (f : Free) (k : ℕ) (c c0 c1 : List Instruction) → old ≡ new ++ f ∷ [] → k ≡ length new
    → behind ≡ drop k arguments → behind ≡ a ∷ more → old ++ fs ≡ all → AllFetched (drop (length old) (map argument_of arguments)) fs c c0 → Fetches (argument_of a) (arguments_of (map argument_of more)) f c0 c1
    → (gs : List Free) × (new ++ gs ≡ all) × AllFetched (drop (length new) (map argument_of arguments)) gs c c1
fetch_goes arguments behind more a old new fs all f k c c0 c1 e ek eb em h x y = (
  f ∷ fs,
  one_earlier old new fs all f e h,
  fetched_on arguments behind more a (length new) f fs c c0 c1 (eb ∙ ap (λ n. drop n arguments) ek) em
      (subst (λ n. AllFetched (drop n (map argument_of arguments)) fs c c0) (one_longer old new f e) x) y,
)

pub fetch_skips : (arguments behind : List Argument) (old new fs all : List Free) (f : Free) (k : ℕ) (c c0 : List Instruction) → old ≡ new ++ f ∷ [] → k ≡ length new
    → behind ≡ drop k arguments → length behind ≡ 0 → old ++ fs ≡ all → AllFetched (drop (length old) (map argument_of arguments)) fs c c0
    → (gs : List Free) × (new ++ gs ≡ all) × AllFetched (drop (length new) (map argument_of arguments)) gs c c0
fetch_skips arguments behind old new fs all f k c c0 e ek eb em h x = (
  f ∷ fs,
  one_earlier old new fs all f e h,
  fetched_none arguments behind (length new) f fs c c0 (eb ∙ ap (λ n. drop n arguments) ek) em
      (subst (λ n. AllFetched (drop n (map argument_of arguments)) fs c c0) (one_longer old new f e) x),
)

pub fetch_ends : (gs : List Given) (left fs all : List Free) (c c0 : List Instruction) → length left ≡ 0 → left ++ fs ≡ all → AllFetched (drop (length left) gs) fs c c0 → AllFetched gs all c c0
fetch_ends gs [] fs all c c0 e h x = subst (λ l. AllFetched gs l c c0) h x
fetch_ends gs (f ∷ left) fs all c c0 e h x = absurd (omega (arith, e))
