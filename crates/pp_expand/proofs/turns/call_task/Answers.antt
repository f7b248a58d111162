use Rattle.std.proofs.Common.{◌≡◌, [], ◌∷◌, length, Some, sym, ap, ◌∙◌, subst, arith}
use Rattle.macros_substitution.specs.Meaning.{hidden_of, hidden_all}
use Rattle.macros.specs.Definition.{names_of}
use Rattle.pp_expand.specs.Expansion.{arguments_in, count_fault, refused}
use Rattle.pp_expand.specs.inside.Turns.{gathered, GathersAs, GatheredIn}
use Rattle.pp_expand.proofs.Sets.{extends_both, are_in_more, lists_in_more}
use Rattle.pp_expand.proofs.Tasks.{one_more, both_hide, shape_is, same_call, too_many, wrong_count, call_is, lists_length}
use Rattle.pp_expand.proofs.turns.call_task.Goals as goal

pub returns-then-len-gt-MAX_ARGUMENTS-clause-task : goal.returns-then-len-gt-MAX_ARGUMENTS-clause-task
returns-then-len-gt-MAX_ARGUMENTS-clause-task c = λ texts later m q parameters count is_macro number once below grown.
    let shape = shape_is texts c.args.definition.now.parameters m.parameters q parameters is_macro.parameters_are in
    let o = arguments_in 0 (hidden_all texts later c.args.rest.now.items) in
    let variadic = c.is_variadic-variadic.ensures ∙ shape.0 in
    let named = ap length c.names-named.ensures ∙ shape.1 in
    let found = subst (λ f. GathersAs texts later f c.take_arguments.new.rest.items (gathered c.is_variadic-variadic.result (length c.names-named.result.now) [] [] o)) c.in-Some.is (c.in_ok-arguments.ensures.gathers texts later) in
    let h = sym (same_call o _ _ _ _ variadic named) ∙ found in
    let k = ap length (c.without_empty-arguments.ensures.same texts later (names_of (Some q)) count) in
    let n = lists_length texts later c.without_empty-arguments.result.items in
    (c.pos-pos.ensures, too_many (hidden_of texts later c.args.x) m q o _ h (omega (arith, k, n)))

pub returns-then-len-parameters-clause-task : goal.returns-then-len-parameters-clause-task
returns-then-len-parameters-clause-task c = λ texts later m q parameters count is_macro number once below grown.
    let shape = shape_is texts c.args.definition.now.parameters m.parameters q parameters is_macro.parameters_are in
    let o = arguments_in 0 (hidden_all texts later c.args.rest.now.items) in
    let variadic = c.is_variadic-variadic.ensures ∙ shape.0 in
    let named = ap length c.names-named.ensures ∙ shape.1 in
    let found = subst (λ f. GathersAs texts later f c.take_arguments.new.rest.items (gathered c.is_variadic-variadic.result (length c.names-named.result.now) [] [] o)) c.in-Some.is (c.in_ok-arguments.ensures.gathers texts later) in
    let h = sym (same_call o _ _ _ _ variadic named) ∙ found in
    let k = ap length (c.without_empty-arguments.ensures.same texts later (names_of (Some q)) count) in
    let of : length c.without_empty-arguments.result.items ≡ c.len-then-len-parameters.result = omega (arith, c.len-then-len-parameters.ensures) in
    let n = lists_length texts later c.without_empty-arguments.result.items in (
      c.pos-pos.ensures,
      wrong_count (hidden_of texts later c.args.x) m q o _ h c.len-then-len-parameters.result (sym k ∙ n ∙ of) (omega arith) (λ e. omega (arith, k, n, of, e, count))
          ∙ ap refused (ap (λ v. count_fault v (length q.names) c.len-then-len-parameters.result) (sym variadic)
          ∙ ap (λ n. count_fault c.is_variadic-variadic.result n c.len-then-len-parameters.result) (sym named)
          ∙ sym c.count_fault.ensures),
    )

pub returns-in_err-hidden_by_both-clause-names : goal.returns-in_err-hidden_by_both-clause-names
returns-in_err-hidden_by_both-clause-names c = λ count number below. c.common.ensures.names count below

pub returns-in_err-hides-clause-names : goal.returns-in_err-hides-clause-names
returns-in_err-hides-clause-names c = λ count number below. c.with.ensures.names count number (c.common.ensures.names count below)

pub returns-clause-task : goal.returns-clause-task
returns-clause-task c = λ texts later m q parameters count is_macro number once below grown.
    let shape = shape_is texts c.args.definition.now.parameters m.parameters q parameters is_macro.parameters_are in
    let o = arguments_in 0 (hidden_all texts later c.args.rest.now.items) in
    let variadic = c.is_variadic-variadic.ensures ∙ shape.0 in
    let named = ap length c.names-named.ensures ∙ shape.1 in
    let found = subst (λ f. GathersAs texts later f c.take_arguments.new.rest.items (gathered c.is_variadic-variadic.result (length c.names-named.result.now) [] [] o)) c.in-Some.is (c.in_ok-arguments.ensures.gathers texts later) in
    let h = sym (same_call o _ _ _ _ variadic named) ∙ found in
    let k = c.without_empty-arguments.ensures.same texts later (names_of (Some q)) count in
    let n = lists_length texts later c.without_empty-arguments.result.items in
    let known = subst (λ f. GatheredIn (length c.args.sets.now) f) c.in-Some.is (c.in_ok-arguments.ensures.known (length c.args.sets.now) c.requires.behind).0 in
    let grown_common = extends_both c.common.new.self c.with.new.self later c.with.ensures.keeps grown in
    let grown_all = extends_both c.args.sets.now c.common.new.self later c.common.ensures.keeps grown_common in
    let both = both_hide texts c.args.sets.now c.common.new.self later c.args.x.hides c.requires.name grown_all c.in-Some.close.hides known.1 once below c.in_ok-hidden_by_both.hidden_by_both grown_common c.in_ok-hidden_by_both.ensures.ok.0 c.in_ok-hidden_by_both.ensures.ok.1 in
    let more = one_more texts c.common.new.self c.with.new.self later c.in_ok-hidden_by_both.hidden_by_both c.in_ok-hidden_by_both.ensures.ok.0 grown_common c.args.number c.in_ok-hides.hides c.args.x.token.spelling number grown c.in_ok-hides.ensures.ok.0 c.in_ok-hides.ensures.ok.1 in
    call_is texts later c.args.x c.in-Some.close m q o _ c.take_arguments.new.rest.items _ h is_macro c.space_before.ensures c.pos-pos.ensures k (omega arith) (omega (arith, count)) (ap (λ l. c.args.x.token.spelling ∷ l) both ∙ more)

pub returns-clause-known : goal.returns-clause-known
returns-clause-known c =
    let known = c.in_ok-arguments.ensures.known (length c.args.sets.now) c.requires.behind in
    let g = subst (λ f. GatheredIn (length c.args.sets.now) f) c.in-Some.is known.0 in
    let longer = extends_both c.args.sets.now c.common.new.self c.with.new.self c.common.ensures.keeps c.with.ensures.keeps in (
      record {
        arguments_in = lists_in_more _ _ longer.longer c.without_empty-arguments.result.items (c.without_empty-arguments.ensures.known _ g.0);
        hides_in = c.in_ok-hides.ensures.ok.0;
        few = omega arith;
      },
      are_in_more _ _ longer.longer c.take_arguments.new.rest.items known.1,
    )

pub returns-clause-names : goal.returns-clause-names
returns-clause-names c = λ count number below. c.with.ensures.names count number (c.common.ensures.names count below)
