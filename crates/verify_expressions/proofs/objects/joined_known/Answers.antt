use Rattle.std.proofs.Common.{refl}
use Rattle.verify_expressions.proofs.Elements.{entails_at}
use Rattle.verify_expressions.proofs.objects.joined_known.Goals as goal

pub returns-clause-first : goal.returns-clause-first
returns-clause-first c = entails_at _ _ _ _ _ _ c.deref.ensures.value refl c.deref-3.ensures.value refl c.in_ok-objects.ensures.first c.in_ok-facts.ensures.first

pub returns-clause-second : goal.returns-clause-second
returns-clause-second c = entails_at _ _ _ _ _ _ c.deref-2.ensures.value refl c.deref-4.ensures.value refl c.in_ok-objects.ensures.second c.in_ok-facts.ensures.second
