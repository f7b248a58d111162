-- What is known of the input, the output and the active calls.
use Rattle.std.proofs.Common.{◌≡◌, ◌≤◌, ℕ, List, [], ◌∷◌, ◌++◌, Option, Some, None, refl, sym, ap, ◌∙◌, subst, append_assoc, arith}
use Rattle.std.proofs.lemmas.List.{reverse-append}
use Rattle.std.specs.Io.KnownBytes.{Keeps, Appends, Consumes}
use Rattle.csem_events.specs.Events.{Event, Put, puts}
use Rattle.typing_spec.specs.Program as typed
use Rattle.csem.specs.History.{Entry, Did, active, weight_in, sum_of, greatest_sum, trace_of}
use Rattle.interp_transitions.specs.declared.tally.Tally.{Tally}
use Rattle.interp_transitions.specs.Tallied.{Tells}
use Rattle.io_ports.specs.Port.{GivesByte}
use Rattle.cabs.specs.inside.Standing.{bytes_of, waiting}

-- ---- what a port shows

pub first_taken : (i j : Option (List ℕ)) (xs : List ℕ) (b : ℕ) → Consumes i j (b ∷ []) → i ≡ Some xs → (rest : List ℕ) × ((xs ≡ b ∷ rest) × (j ≡ Some rest))
first_taken None j xs b h e = absurd (let t = e in cc)
first_taken (Some i) None xs b h e = absurd h
first_taken (Some i) (Some j) xs b h e =
    let same : i ≡ xs = let t = e in cc in
    (j, (sym same ∙ h, refl))

pub none_left : (i j : Option (List ℕ)) (xs : List ℕ) → GivesByte i j None → i ≡ Some xs → (xs ≡ []) × (j ≡ Some [])
none_left None j xs h e = absurd (let t = e in cc)
none_left (Some i) None xs h e = absurd h.1
none_left (Some i) (Some j) xs h e =
    let same : i ≡ xs = let t = e in cc in
    (sym same ∙ h.0, ap Some (h.1 ∙ h.0))

pub input_kept : (i j : Option (List ℕ)) (xs : List ℕ) → Keeps i j → i ≡ Some xs → j ≡ Some xs
input_kept None j xs h e = absurd (let t = e in cc)
input_kept (Some i) None xs h e = absurd h
input_kept (Some i) (Some j) xs h e = ap Some h ∙ e

pub output_kept : (o p q : Option (List ℕ)) (xs : List ℕ) → Keeps p q → Appends o p xs → Appends o q xs
output_kept None p q xs k h = tt
output_kept (Some o) None q xs k h = absurd h
output_kept (Some o) (Some p) None xs k h = absurd k
output_kept (Some o) (Some p) (Some q) xs k h = k ∙ h

pub output_grown : (o p q : Option (List ℕ)) (xs ys : List ℕ) → Appends p q ys → Appends o p xs → Appends o q (xs ++ ys)
output_grown None p q xs ys k h = tt
output_grown (Some o) None q xs ys k h = absurd h
output_grown (Some o) (Some p) None xs ys k h = absurd k
output_grown (Some o) (Some p) (Some q) xs ys k h = k ∙ ap (λ zs. zs ++ ys) h ∙ append_assoc o xs ys

pub append_none : (xs : List ℕ) → xs ≡ xs ++ []
append_none [] = refl
append_none (x ∷ xs) = ap (λ ys. x ∷ ys) (append_none xs)

pub nothing_sent : (o : Option (List ℕ)) → Appends o o []
nothing_sent None = tt
nothing_sent (Some xs) = append_none xs

pub output_as : (o p : Option (List ℕ)) (xs ys : List ℕ) → xs ≡ ys → Appends o p xs → Appends o p ys
output_as o p xs ys e h = let P : List ℕ → Type 0 = λ xs. Appends o p xs in subst P e h

-- ---- the bytes that a history has written

pub byte_put : (b : ℕ) (h : List Entry) (sent : List ℕ) (kept kept2 : Option ℕ) → kept ≡ None → kept2 ≡ Some b → bytes_of h ≡ sent ++ waiting kept →
    bytes_of (Did (Put b) ∷ h) ≡ sent ++ waiting kept2
byte_put b h sent kept kept2 e f k =
    reverse-append (b ∷ []) (puts (trace_of h)) ∙ ap (λ xs. xs ++ b ∷ []) (k ∙ ap (λ k. sent ++ waiting k) e ∙ sym (append_none sent)) ∙ ap (λ k. sent ++ waiting k) (sym f)

pub none_waits : (h : List Entry) (sent : List ℕ) (kept : Option ℕ) → kept ≡ None → bytes_of h ≡ sent ++ waiting kept → sent ≡ bytes_of h
none_waits h sent kept e k = append_none sent ∙ ap (λ k. sent ++ waiting k) (sym e) ∙ sym k

-- ---- the active calls

sum_bounded : (w : ℕ → ℕ) (h : List Entry) → sum_of w (active h) ≤ greatest_sum w h
sum_bounded w [] = omega arith
sum_bounded w (e ∷ h) = omega arith

pub did_tells : (p : typed.Program) (h : List Entry) (e : Event) (t : Tally) → Tells p h t → Tells p (Did e ∷ h) t
did_tells p h e t tells =
    let bound : sum_of (weight_in p) (active h) ≤ greatest_sum (weight_in p) h = sum_bounded (weight_in p) h in
    (tells.0, tells.1, tells.2 ∙ (omega arith))

pub tells_as : (p : typed.Program) (h h2 : List Entry) (t t2 : Tally) → h ≡ h2 → t2 ≡ t → Tells p h t → Tells p h2 t2
tells_as p h h2 t t2 e f tells =
    let P : List Entry → Type 0 = λ h. Tells p h t in
    let Q : Tally → Type 0 = λ t. Tells p h2 t in
    subst Q (sym f) (subst P e tells)
