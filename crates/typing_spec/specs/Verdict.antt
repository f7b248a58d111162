-- The verdict of a rule on a part of a program: the part's meaning, or the violated constraints.
use Rattle.std.specs.Prelude.{◌≡◌, Bool, true, false, ◌⊎◌}
use Rattle.srcset.specs.declared.code.Code.{Code}
use Rattle.srcset.specs.declared.refusal.Pos.{Pos}

-- violated constraints, each with its code and its place
pub data Violations : Type 0 where
  none : Violations
  one : (code : Code) (at : Pos) → Violations
  some : (left right : Violations) → Violations

pub data Verdict (A : Type 0) : Type 0 where
  fine : (a : A) → Verdict A
  broken : (violations : Violations) → Verdict A

abbrev pub breaks : {A : Type 0} → Code → Pos → Verdict A
breaks code at = broken (one code at)

abbrev pub violations : {A : Type 0} → Verdict A → Violations
violations (fine a) = none
violations (broken vs) = vs

-- a rule that reads the meaning of a part adds nothing where the part is broken
abbrev pub then_check : {A B : Type 0} → Verdict A → (A → Verdict B) → Verdict B
then_check (fine a) go = go a
then_check (broken vs) go = broken vs

-- two parts that do not depend on each other: the violations of both count
abbrev pub both : {A B C : Type 0} → Verdict A → Verdict B → (A → B → Verdict C) → Verdict C
both (fine a) second go = then_check second (go a)
both (broken vs) second go = broken (some vs (violations second))

-- the constraint is violated where the test is true
abbrev pub refuse_if : Bool → Code → Pos → Verdict (Unit {0})
refuse_if true code at = breaks code at
refuse_if false code at = fine tt

-- the same of two tests, and of a test and a part
abbrev pub each : Verdict (Unit {0}) → Verdict (Unit {0}) → Verdict (Unit {0})
each a b = both a b (λ u v. fine tt)

abbrev pub provided : {A : Type 0} → Verdict (Unit {0}) → Verdict A → Verdict A
provided test part = both test part (λ u a. fine a)

abbrev pub Among : Code → Pos → Violations → Type 0
Among code at none = ⊥
Among code at (one c p) = (c ≡ code) × (p ≡ at)
Among code at (some left right) = Among code at left ⊎ Among code at right

-- this constraint is violated at this place
abbrev pub Stands : {A : Type 0} → Code → Pos → Verdict A → Type 0
Stands code at (fine a) = ⊥
Stands code at (broken vs) = Among code at vs

-- the part is fine, and this holds of its meaning
abbrev pub OnFine : {A : Type 0} → (A → Type 0) → Verdict A → Type 0
OnFine P (fine a) = P a
OnFine P (broken vs) = ⊥

-- where the part is fine, this holds of its meaning
abbrev pub IfFine : {A : Type 0} → (A → Type 0) → Verdict A → Type 0
IfFine P (fine a) = P a
IfFine P (broken vs) = Unit {0}
