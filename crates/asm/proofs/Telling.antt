-- A postcondition of an inner step's value holds of the value that is returned.
use Rattle.std.proofs.Common.{◌≡◌, sym, subst}
use Rattle.std.specs.Prelude.{Result, Ok, Err, MatchResult, IfOk, IsErrAnd}
use Rattle.srcset.specs.declared.fault.Fault.{Fault}
use Rattle.asm.specs.declared.refusal.Refusal.{Refusal}

pub told_value : {A : Type 0} (P Q : A → Type 0) (E : Refusal → Fault → Type 0) (step : Result A Refusal) (answer : Result A Fault) → MatchResult step (λ v. answer ≡ Ok v) (λ e. IsErrAnd answer (E e)) → IfOk step P → ((v : A) → P v → Q v) → IfOk answer Q
told_value P Q E (Ok v) answer m p f = subst (λ x. IfOk x Q) (sym m) (f v p)
told_value P Q E (Err e) (Err x) m p f = tt
told_value P Q E (Err e) (Ok v) m p f = absurd m
