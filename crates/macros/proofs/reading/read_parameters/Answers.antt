use Rattle.std.proofs.Common.{suc, ◌∙◌, sym, ap, subst, refl, arith, ◌∷◌, [], true, false, length, codes}
use Rattle.macros.specs.Macro.{is_spelled}
use Rattle.macros.specs.inside.Reading.{IsRead, read_before}
use Rattle.macros.proofs.ReadingLemmas.{no_name, ellipsis, ends_list, ends_within, closed, goes_on, drop_short, more_in_hand}
use Rattle.macros.proofs.reading.read_parameters.Goals as goal

pub returns-then-not-is_identifier-clause-ok : goal.returns-then-not-is_identifier-clause-ok
returns-then-not-is_identifier-clause-ok c =
    let x = c.index-tokens-at.result in
    c.loop-at.invariant.none (no_name c.args.tokens.now c.loop-at.at x x c.index-tokens-at.is c.loop-at-test.true (sym c.is_spelled.ensures ∙ c.if-is_spelled.false) (sym c.is_identifier.ensures ∙ c.if-not-is_identifier.true))

pub returns-then-is_spelled-clause-ok : goal.returns-then-is_spelled-clause-ok
returns-then-is_spelled-clause-ok c =
    let x = c.index-tokens-at.result in
    let y = c.index-tokens-at-in-loop-at.result in
    let read = ellipsis c.args.tokens.now c.loop-at.at x y c.index-tokens-at.is c.loop-at-test.true c.index-tokens-at-in-loop-at.is (sym c.is_spelled.ensures ∙ c.if-is_spelled.true) in
    let names = c.loop-at.names in
    ends_list names c.loop-at.numbers c.loop-at.at (is_spelled (codes ")") y) c.ended.result _ _ c.ended.ensures read
    (λ h. c.loop-at.invariant.some names [] true 2 (λ n t e. e) h) c.loop-at.invariant.none

pub returns-then-is_spelled-clause-within : goal.returns-then-is_spelled-clause-within
returns-then-is_spelled-clause-within c =
    ends_within c.loop-at.numbers c.loop-at.at (length c.args.tokens.now) (is_spelled (codes ")") c.index-tokens-at-in-loop-at.result) c.ended.result c.ended.ensures c.loop-at-test.true

pub returns-then-is_spelled-2-clause-ok : goal.returns-then-is_spelled-2-clause-ok
returns-then-is_spelled-2-clause-ok c =
    let x = c.index-tokens-at.result in
    let y = c.index-tokens-at-in-loop-at.result in
    let n = c.in_ok-n.n in
    let read = closed c.args.tokens.now c.loop-at.at x y c.index-tokens-at.is c.loop-at-test.true c.index-tokens-at-in-loop-at.is (sym c.is_spelled.ensures ∙ c.if-is_spelled.false) (sym c.is_identifier.ensures ∙ c.if-not-is_identifier.false) (sym c.is_spelled-in-loop-at.ensures ∙ c.if-is_spelled-2.true) in
    rw c.in_ok-push.ensures.items (c.loop-at.invariant.some c.number_of.new.names (n ∷ []) false 2 c.in_ok-n.ensures.keeps (subst (IsRead c.number_of.new.names (n ∷ []) false 2) (sym read) ((c.in_ok-n.ensures.text, tt), refl, refl)))

pub returns-clause-ok : goal.returns-clause-ok
returns-clause-ok c = c.loop-at.invariant.none (drop_short c.args.tokens.now c.loop-at.at c.loop-at-test.false)

pub loop-at-preserved : goal.loop-at-preserved
loop-at-preserved c =
    let x = c.index-tokens-at.result in
    let y = c.index-tokens-at-in-loop-at.result in
    let n = c.in_ok-n.n in
    let read = goes_on c.args.tokens.now c.loop-at.at x y c.index-tokens-at.is c.loop-at-test.true c.index-tokens-at-in-loop-at.is (sym c.is_spelled.ensures ∙ c.if-is_spelled.false) (sym c.is_identifier.ensures ∙ c.if-not-is_identifier.false) (sym c.is_spelled-in-loop-at.ensures ∙ c.if-is_spelled-2.false) (sym c.is_spelled-in-loop-at-2.ensures ∙ c.if-not-is_spelled.false) in
    record {
      some = λ texts numbers variadic len keeps h.
          more_in_hand texts x n (keeps n x.spelling c.in_ok-n.ensures.text) c.loop-at.numbers.items c.push.new.self.items numbers variadic c.loop-at.at len _ _ c.in_ok-push.ensures.items
          (λ g. c.loop-at.invariant.some texts (n ∷ numbers) variadic (suc (suc len)) (λ k t e. keeps k t (c.in_ok-n.ensures.keeps k t e)) (subst (IsRead texts (n ∷ numbers) variadic (suc (suc len))) (sym read) g)) h;
      none = λ e. c.loop-at.invariant.none (read ∙ ap (read_before x.spelling) e);
      once = c.in_ok-n.ensures.once;
      within = omega (arith, c.loop-at-test.true);
      keeps = λ k t e. c.in_ok-n.ensures.keeps k t (c.loop-at.invariant.keeps k t e);
      tables = λ t m is. c.in_ok-n.ensures.tables t m (c.loop-at.invariant.tables t m is);
    }
