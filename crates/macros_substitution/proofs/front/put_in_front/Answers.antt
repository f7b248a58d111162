use Rattle.std.proofs.Common.{◌≡◌, ◌∷◌, [], ◌==◌, length, ◌∙◌, subst, sym, ap, arith, refl}
use Rattle.macros_substitution.specs.Meaning.{AreIn}
use Rattle.macros_substitution.specs.inside.Both.{IsBoth}
use Rattle.macros_substitution.proofs.Tables.{extends_both, extends_same}
use Rattle.macros_substitution.proofs.Fronts.{are_in_more, are_in_split, front_put, both_at_first, both_later}
use Rattle.macros_substitution.proofs.front.put_in_front.Goals as goal

pub loop-last-init : goal.loop-last-init
loop-last-init c = record {
  tokens = c.requires.tokens;
  known = c.requires.known;
  last = subst (λ z. IsBoth c.args.sets.now c.args.hides (z, c.args.hides)) (sym c.empty.ensures) (both_at_first c.args.sets.now c.args.hides c.requires.known);
  behind = subst (AreIn (length c.args.sets.now)) (sym c.in_ok-reserve.ensures.items) c.requires.behind;
  grown = extends_same c.args.sets.now;
  names = λ count below. below;
  same = λ texts later once below h. refl;
}

pub united_or_last-requires-clause-second : goal.united_or_last-requires-clause-second
united_or_last-requires-clause-second c = let q = are_in_split (length c.loop-last.sets) c.pop.new.self.items (c.in-Some.last ∷ []) (subst (AreIn (length c.loop-last.sets)) c.in-Some.ensures.items c.loop-last.invariant.tokens) in q.1.0

pub returns-in_err-made-clause-names : goal.returns-in_err-made-clause-names
returns-in_err-made-clause-names c = λ count below. c.united_or_last.ensures.names count (c.loop-last.invariant.names count below)

pub loop-last-preserved : goal.loop-last-preserved
loop-last-preserved c =
    let inv = c.loop-last.invariant in
    let tokens = are_in_split (length c.loop-last.sets) c.pop.new.self.items (c.in-Some.last ∷ []) (subst (AreIn (length c.loop-last.sets)) c.in-Some.ensures.items inv.tokens) in
    let grown = c.united_or_last.ensures.keeps in
    let count : c.pop.new.self.len ≡ length c.pop.new.self.items = omega arith in
    record {
      tokens = are_in_more _ _ _ grown.longer tokens.0;
      known = omega (arith, grown.longer, inv.known);
      last = c.in_ok-made.ensures.ok;
      behind = subst (AreIn (length c.united_or_last.new.self)) (sym c.in_ok-push_front.ensures.items) (c.in_ok-made.ensures.ok.known, are_in_more _ _ _ grown.longer inv.behind);
      grown = extends_both _ _ _ inv.grown grown;
      names = λ count below. c.united_or_last.ensures.names count (inv.names count below);
      same = λ texts later once below h.
          front_put texts later c.args.space_before _ c.args.hides _ _ c.in-Some.last _ _ _ _ c.in-Some.ensures.items (c.is_empty.ensures ∙ ap (λ n. n == 0) count) c.marked_first-token.ensures
          (both_later texts c.united_or_last.new.self later c.args.hides _ _ once (c.united_or_last.ensures.names (length texts) (inv.names (length texts) below)) h (omega (arith, grown.longer, inv.known)) c.in_ok-made.ensures.ok) c.in_ok-push_front.ensures.items
          ∙ inv.same texts later once below (extends_both _ _ _ grown h);
    }

pub returns-in_err-push_front-clause-names : goal.returns-in_err-push_front-clause-names
returns-in_err-push_front-clause-names c = λ count below. c.united_or_last.ensures.names count (c.loop-last.invariant.names count below)
