-- What does the same as what does the same as a program does the same as the program.
use Rattle.std.proofs.Common.{◌≡◌, refl, sym, ◌∙◌, subst}
use Rattle.frames_code.specs.Code.{Program}
use Rattle.frames_code.specs.Run.{State, Progress, running, ended, stuck, run, start}
use Rattle.frames_opt.specs.Simplified.{DoesTheSame, IsDefined, IsAtCall, RunsAlike, CallsAlike, AlikeInTurn, DefinedAlike}

same_twice : (a b c : Progress) → DoesTheSame a b → DoesTheSame b c → DoesTheSame a c
same_twice (running s) (running t) (running u) one two = (two.0 ∙ one.0, two.1 ∙ one.1, two.2 ∙ one.2)
same_twice (running s) (running t) (ended status input trace) one two = absurd two
same_twice (running s) (running t) stuck one two = absurd two
same_twice (running s) (ended status input trace) c one two = absurd one
same_twice (running s) stuck c one two = absurd one
same_twice (ended status input trace) b c one two = subst (λ x. DoesTheSame x c) one two
same_twice stuck b c one two = tt

defined_too : (a b : Progress) → DoesTheSame a b → IsDefined a → IsDefined b
defined_too (running s) (running t) same defined = tt
defined_too (running s) (ended status input trace) same defined = absurd same
defined_too (running s) stuck same defined = absurd same
defined_too (ended status input trace) b same defined = subst IsDefined (sym same) tt
defined_too stuck b same defined = absurd defined

pub defined_alike : DefinedAlike
defined_alike p q runs n input defined = defined_too (run p n (start p input)) (run q n (start q input)) (runs n input) defined

at_call_twice : (p q r : Program) (s t u : State) → IsAtCall p q s t → IsAtCall q r t u → IsAtCall p r s u
at_call_twice p q r s t u one two = record {
  calls = λ g e. let b = two.calls g e in let a = one.calls g b.0 in (a.0, λ k v h. b.1 k v (a.1 k v h));
  returns = λ e. let b = two.returns e in let a = one.returns b.0 in (a.0, λ v h. b.1 v (a.1 v h));
}

module _ (p q r : Program) (runs : RunsAlike p q) (calls : CallsAlike p q) (runs2 : RunsAlike q r) (calls2 : CallsAlike q r) where
  at_calls : CallsAlike p r
  at_calls n input s u e f = on (run q n (start q input)) refl
    where
      same : (x : Progress) → run q n (start q input) ≡ x → DoesTheSame (running s) x
      same x h = subst (DoesTheSame (running s)) h (subst (λ y. DoesTheSame y (run q n (start q input))) e (runs n input))

      on : (x : Progress) → run q n (start q input) ≡ x → IsAtCall p r s u
      on (running t) h = at_call_twice p q r s t u (calls n input s t e h) (calls2 n input t u h f)
      on (ended status left trace) h = absurd (same (ended status left trace) h)
      on stuck h = absurd (same stuck h)

pub alike_in_turn : AlikeInTurn
alike_in_turn p q r runs calls runs2 calls2 = (
  λ n input. same_twice (run p n (start p input)) (run q n (start q input)) (run r n (start r input)) (runs n input) (runs2 n input),
  at_calls p q r runs calls runs2 calls2,
)
