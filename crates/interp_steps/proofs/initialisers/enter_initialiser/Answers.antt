use Rattle.std.proofs.Common.{map, refl}
use Rattle.typed_ast.specs.View.{initialiser_of, initialisers_of}
use Rattle.csem.specs.Statements.{first_length, inner_lengths}
use Rattle.interp_store.specs.View.{reference_of}
use Rattle.interp_steps.proofs.Given.{initialiser_as, listed_at, sees_list, sees_one, sees_text, text_as}
use Rattle.interp_steps.proofs.initialisers.enter_initialiser.Goals as goal

pub returns-in-One-clause-takes : goal.returns-in-One-clause-takes
returns-in-One-clause-takes c = let a = c.args in
    initialiser_as a.machine.now c.enter_one.new.machine c.enter_one.result a.ty (initialiser_of a.i.now) _ a.lengths.now (reference_of a.r)
    (sees_one a.i.now c.in-One.ty c.in-One.e c.in-One.is) c.enter_one.ensures.takes

pub returns-in-Text-clause-takes : goal.returns-in-Text-clause-takes
returns-in-Text-clause-takes c = let a = c.args in
    initialiser_as a.machine.now c.spend.new.machine c.spend.result a.ty (initialiser_of a.i.now) _ a.lengths.now (reference_of a.r)
    (sees_text a.i.now c.in-Text.n c.in-Text.is)
    (text_as a.machine.now c.spend.new.machine c.spend.result a.ty c.first_of-count.result c.in-Text.n a.lengths.now (reference_of a.r) c.first_of-count.ensures c.spend.ensures.takes)

pub returns-in-List-clause-takes : goal.returns-in-List-clause-takes
returns-in-List-clause-takes c = let a = c.args in
    initialiser_as a.machine.now c.list.new.machine c.list.result a.ty (initialiser_of a.i.now) _ a.lengths.now (reference_of a.r)
    (sees_list a.i.now c.in-List.all c.as_slice.result.now c.in-List.is c.as_slice.ensures.value)
    (listed_at a.machine.now c.list.new.machine c.list.result a.ty (initialisers_of (map initialiser_of c.as_slice.result.now)) (first_length a.lengths.now) c.first_of.result 0 0
    (inner_lengths a.lengths.now) c.inner_of.result.now (reference_of a.r) c.first_of.ensures refl c.inner_of.ensures c.list.ensures.takes)
