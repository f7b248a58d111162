use Rattle.macros_substitution.proofs.Tables.{extends_both, one_put, below_put}
use Rattle.macros_substitution.proofs.hide_sets.HideSets.with_names.Goals as goal

pub returns-in_err-made-clause-names : goal.returns-in_err-made-clause-names
returns-in_err-made-clause-names c = λ count p q. (below_put count _ _ _ _ _ c.in-Some.ensures.items (c.loop-name.invariant.below count p q) (c.with.ensures.names count)).1

pub loop-name-preserved : goal.loop-name-preserved
loop-name-preserved c = record {
  known = c.in_ok-made.ensures.ok.0;
  grown = extends_both _ _ _ c.loop-name.invariant.grown c.with.ensures.keeps;
  same = one_put _ _ _ _ _ _ c.in-Some.ensures.items c.loop-name.invariant.same c.in_ok-made.ensures.ok.1;
  below = λ count p q. below_put count _ _ _ _ _ c.in-Some.ensures.items (c.loop-name.invariant.below count p q) (c.with.ensures.names count);
}

pub returns-clause-names : goal.returns-clause-names
returns-clause-names c = λ count p q. (c.loop-name.invariant.below count p q).1
