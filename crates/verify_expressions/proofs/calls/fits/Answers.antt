use Rattle.verify_expressions.proofs.calls.fits.Goals as goal

pub returns : goal.returns
returns c = λ t. record { function = c.same_function-called.ensures c.if-not-called.false; outer = c.same_outer-alike.ensures c.if-not-alike.false; arrays = c.same_arrays-passed.ensures c.if-not-passed.false; entry_is = c.admits.ensures t }
