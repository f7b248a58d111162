use Rattle.std.proofs.Common.{◌≡◌, false, arith, subst, map}
use Rattle.typed_ast.specs.View.{initialiser_of, initialisers_of}
use Rattle.tree.specs.View.{init_of, inits_of}
use Rattle.typing_spec.specs.Verdict.{fine}
use Rattle.typing_expressions.specs.Numbered.{numbered}
use Rattle.decls_initialisers.specs.inside.Numbered.{initialiser_at}
use Rattle.decls_initialisers.specs.inside.Braces.{initialisers_at}
use Rattle.decls_initialisers.proofs.Readings.{begun, step, ended}
use Rattle.decls_initialisers.proofs.Rules.{gives, tells, braced_text_rule, list_of_none, array_rule}
use Rattle.decls_initialisers.proofs.typing.+typing.Goals as goal

pub typed_parts-loop-part-init : goal.typed_parts-loop-part-init
typed_parts-loop-part-init t c = begun c.args.names.now c.args.scope.now c.args.pos c.args.element c.args.lengths.now c.args.literals.now c.args.parts.now c.new-all.result.items c.new-all.ensures.items

pub typed_parts-loop-part-preserved : goal.typed_parts-loop-part-preserved
typed_parts-loop-part-preserved t c =
    step c.args.names.now c.args.scope.now c.args.pos c.args.element c.args.lengths.now c.args.literals.now c.loop-part.literals c.initialiser_behind.new.literals c.args.parts.now c.loop-part.part-index c.part-item.result
    c.loop-part.all.items c.push.new.self.items c.in-Ok.inner c.loop-part-test.true c.part-item.is c.loop-part.invariant
    (subst (λ w. initialiser_at c.args.names.now c.loop-part.literals c.args.scope.now c.args.pos c.args.element w false (init_of c.part-item.result) ≡ fine (initialiser_of c.in-Ok.inner)) c.wanted_object-wanted.ensures c.in-Ok.ensures.ok)
    c.in-Ok.ensures.count c.in-Ok-push.ensures.items

pub typed_parts-returns-clause-ok : goal.typed_parts-returns-clause-ok
typed_parts-returns-clause-ok t c =
    ended c.args.names.now c.args.scope.now c.args.pos c.args.element c.args.lengths.now c.args.literals.now c.loop-part.literals c.args.parts.now c.loop-part.part-index c.loop-part.all.items (omega (arith, c.loop-part-test.false)) c.loop-part.invariant

pub list-returns-in-Err-fits_room-clause-err : goal.list-returns-in-Err-fits_room-clause-err
list-returns-in-Err-fits_room-clause-err t c =
    list_of_none c.in-Err-fits_room.refusal c.args.pos c.args.room (inits_of (map init_of c.args.parts.now)) (initialisers_at c.args.names.now c.args.literals.now c.args.scope.now c.args.pos c.args.element c.args.lengths.now (inits_of (map init_of c.args.parts.now)))
    (initialisers_of (map initialiser_of c.in-Ok.all.items)) c.in-Ok.ensures.ok c.in-Err-fits_room.ensures.err

pub array_in_braces-returns-in-Some-clause-ok : goal.array_in_braces-returns-in-Some-clause-ok
array_in_braces-returns-in-Some-clause-ok t c = λ at top.
    gives c.text_in_braces.result _ _ (braced_text_rule (numbered c.args.names.now c.args.literals.now c.args.scope.now) at c.args.pos c.args.element c.args.room c.args.lengths.now top (inits_of (map init_of c.args.parts.now)) c.in-Some.own c.in-Some.name c.in-Some.ensures)
    (c.text_in_braces.ensures.ok c.args.scope.now)

pub array_in_braces-returns-in-Some-clause-err : goal.array_in_braces-returns-in-Some-clause-err
array_in_braces-returns-in-Some-clause-err t c = λ at top.
    tells c.text_in_braces.result _ _ (braced_text_rule (numbered c.args.names.now c.args.literals.now c.args.scope.now) at c.args.pos c.args.element c.args.room c.args.lengths.now top (inits_of (map init_of c.args.parts.now)) c.in-Some.own c.in-Some.name c.in-Some.ensures)
    (c.text_in_braces.ensures.err c.args.scope.now)

pub initialiser_behind-returns-in-Array-clause-ok : goal.initialiser_behind-returns-in-Array-clause-ok
initialiser_behind-returns-in-Array-clause-ok t c =
    gives c.array_in_braces.result _ _ (array_rule c.args.names.now c.args.literals.now c.args.scope.now c.args.pos c.args.element c.args.wanted c.args.top c.args.init.now c.in-List.brace c.in-List.parts c.in-Array.room c.in-Array.lengths c.deref-in-Array.result.now c.in-Array.is
    c.in-List.is c.deref-in-Array.ensures.value)
    (c.array_in_braces.ensures.ok c.args.pos c.args.top)

pub initialiser_behind-returns-in-Array-clause-err : goal.initialiser_behind-returns-in-Array-clause-err
initialiser_behind-returns-in-Array-clause-err t c =
    tells c.array_in_braces.result _ _ (array_rule c.args.names.now c.args.literals.now c.args.scope.now c.args.pos c.args.element c.args.wanted c.args.top c.args.init.now c.in-List.brace c.in-List.parts c.in-Array.room c.in-Array.lengths c.deref-in-Array.result.now c.in-Array.is
    c.in-List.is c.deref-in-Array.ensures.value)
    (c.array_in_braces.ensures.err c.args.pos c.args.top)
