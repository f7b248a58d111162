-- Refusals that are passed on.
use Rattle.std.specs.Prelude.{Result, Ok, Err, IfOk, IfErr}
use Rattle.std.specs.Result.{IsErrAnd}
use Rattle.std.proofs.lemmas.Result.{err_from_is_err_and}
use Rattle.std.proofs.Common.{◌≡◌, ℕ, ◌+◌, ◌≤◌, Bool, false, IsTrue, arith}
use Rattle.parser_grammar.specs.declared.refusal.Refusal.{Refusal}
use Rattle.parser_grammar.specs.declared.refusal.Refusal.TheVariants.{Syntax, Depth, Memory}
use Rattle.parser_grammar.specs.layer.Answer.{Excuses}

-- refusals
pub excuses_grow : (f : Refusal) (a b j k : ℕ) → a + j ≤ b + k → Excuses f a j → Excuses f b k
excuses_grow (Syntax at) a b j k le h = h
excuses_grow (Depth at) a b j k le h = omega (arith, le, h)
excuses_grow Memory a b j k le h = tt

-- the exit of a `?`
pub passed_on : {T F : Type 0} (Q : Result T F → Type 0) (r : Result T F) (f : F) → IsErrAnd r (λ e. e ≡ f) → Q (Err f) → Q r
passed_on Q r f is h = let p = err_from_is_err_and r is in rw (p.1, p.2) h

pub err_passed_on : {T F : Type 0} (Q : F → Type 0) (r : Result T F) (f : F) → IsErrAnd r (λ e. e ≡ f) → Q f → IfErr r (λ e. Q e)
err_passed_on Q r f is h = let p = err_from_is_err_and r is in rw (p.1, p.2) h

-- a property of a result that is passed on
pub ok_gives : {T F : Type 0} (P Q : T → Type 0) (r : Result T F) → ((x : T) → P x → Q x) → IfOk r P → IfOk r Q
ok_gives P Q (Ok x) g h = g x h
ok_gives P Q (Err e) g h = tt

-- a test does not hold and fail
pub not_both : (b : Bool) → b ≡ false → IsTrue b → ⊥
not_both b e h = cc
