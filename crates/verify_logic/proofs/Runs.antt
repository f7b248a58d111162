-- Rules for parts of a run.
use Rattle.std.proofs.Common.{◌≡◌, ℕ, zero, suc, ℤ, List, sym, subst}
use Rattle.std.specs.Prelude.{Result, Ok, Err, Bool, true, false}
use Rattle.srcset.specs.declared.refusal.Pos.{Pos}
use Rattle.ctypes.specs.declared.operators.Undef.{Undef}
use Rattle.csem.specs.Machine.{State, Ended, Undefined, TicksUsed, Run, Goes, Stops, then_do, choose, tick, tick_of, computed_at}
use Rattle.verify_logic.specs.declared.abstract_values.Interval.{Interval}
use Rattle.verify_logic.specs.States.{In, Ends}
use Rattle.verify_logic.specs.Judgements.{GivesIn, GivesOr}

pub then_ends : {A B : Type 0} (al : List Pos) (r : Run A) (go : A → State → Run B) (mid : A → State → Type 0) (post : B → State → Type 0) →
    Ends al r mid → ((a : A) (s : State) → mid a s → Ends al (go a s) post) → Ends al (then_do r go) post
then_ends al (Goes a s) go mid post h k = k a s h
then_ends al (Stops (Ended n) s) go mid post h k = tt
then_ends al (Stops (Undefined act at) s) go mid post h k = h
then_ends al (Stops TicksUsed s) go mid post h k = tt

tick_of_ends : {A : Type 0} (al : List Pos) (n : ℕ) (s : State) (go : State → Run A) (post : A → State → Type 0) →
    ((n : ℕ) → Ends al (go (record s { clock = n })) post) → Ends al (tick_of n s go) post
tick_of_ends al zero s go post h = tt
tick_of_ends al (suc n) s go post h = h n

pub tick_ends : {A : Type 0} (al : List Pos) (s : State) (go : State → Run A) (post : A → State → Type 0) →
    ((n : ℕ) → Ends al (go (record s { clock = n })) post) → Ends al (tick s go) post
tick_ends al s go post h = tick_of_ends al s.clock s go post h

pub weaker : {A : Type 0} (al : List Pos) (r : Run A) (mid post : A → State → Type 0) → Ends al r mid → ((a : A) (s : State) → mid a s → post a s) → Ends al r post
weaker al (Goes a s) mid post h k = k a s h
weaker al (Stops (Ended n) s) mid post h k = tt
weaker al (Stops (Undefined act at) s) mid post h k = h
weaker al (Stops TicksUsed s) mid post h k = tt

pub gives_or : (al : List Pos) (at : Pos) (i : Interval) (r : Result ℤ Undef) → GivesIn i r → GivesOr al at i r
gives_or al at i (Ok v) h = h
gives_or al at i (Err act) h = absurd h

pub computed_ends : (al : List Pos) (at : Pos) (r : Result ℤ Undef) (s : State) (i : Interval) (rest : State → Type 0) → GivesOr al at i r → rest s →
    Ends al (computed_at at r s) (λ v s. In i v × rest s)
computed_ends al at (Ok v) s i rest h k = (h, k)
computed_ends al at (Err act) s i rest h k = h

-- an operation, and then
pub computed_then : {B : Type 0} (al : List Pos) (at : Pos) (r : Result ℤ Undef) (s : State) (i : Interval) (go : ℤ → State → Run B) (post : B → State → Type 0) → GivesOr al at i r →
    ((v : ℤ) → In i v → Ends al (go v s) post) → Ends al (then_do (computed_at at r s) go) post
computed_then al at (Ok v) s i go post h k = k v h
computed_then al at (Err act) s i go post h k = h

pub choose_ends : {A : Type 0} (al : List Pos) (b : Bool) (x y : Run A) (post : A → State → Type 0) → Ends al x post → Ends al y post → Ends al (choose b x y) post
choose_ends al true x y post h k = h
choose_ends al false x y post h k = k

pub second : {A : Type 0} (al : List Pos) (b : Bool) (x y : Run A) (post : A → State → Type 0) → b ≡ false → Ends al y post → Ends al (choose b x y) post
second al b x y post e h = let P : Bool → Type 0 = λ b. Ends al (choose b x y) post in subst P (sym e) h

pub first : {A : Type 0} (al : List Pos) (b : Bool) (x y : Run A) (post : A → State → Type 0) → b ≡ true → Ends al x post → Ends al (choose b x y) post
first al b x y post e h = let P : Bool → Type 0 = λ b. Ends al (choose b x y) post in subst P (sym e) h
