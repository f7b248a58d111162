use Rattle.std.proofs.Common.{◌≡◌, ◌≤◌, ◌+◌, suc, ◌∷◌, ◌∙◌, sym, subst, ap, arith, ◌==◌, ◌&&◌, length}
use Rattle.macros_substitution.specs.HideSets.{Extends, members, NamesBelow}
use Rattle.macros_substitution.specs.inside.Nodes.{sets_of}
use Rattle.macros_substitution.proofs.Tables.{WithNode, inserted, same_node, members_with, ordered_with, names_with, extends_with, sets_of-length}
use Rattle.macros_substitution.specs.inside.Wholes.{Sound}
use Rattle.macros_substitution.proofs.FirstLemmas.{noted_at, stand_with}
use Rattle.macros_substitution.proofs.WholeLemmas.{whole_with}
use Rattle.macros_substitution.proofs.hide_sets.HideSets.with.Goals as goal

put : (c : goal.After-len-count) → WithNode c.self.inside.nodes.keys c.insert_full.new.self.keys (record { parent = c.set.inside.number; name = c.args.name }) c.in-Ok.index
put c =
    let s = c.in-Ok.ensures.stored in
    inserted (λ m n. (m.parent == n.parent) && (m.name == n.name)) _ _ _ _ s.0 same_node c.in-Ok.ensures.keys s.1 s.2

behind : (c : goal.After-len-count) → c.set.inside.number ≤ length (sets_of c.self.inside.nodes.keys)
behind c = rw (c.set.view_is, c.self.view_is) c.requires

pub overflow_add-result : goal.overflow_add-result
overflow_add-result c = omega (arith, c.in-Ok.ensures.within, c.len-count.ensures.len)

pub invariant_of-self-in_default-insert_full : goal.invariant_of-self-in_default-insert_full
invariant_of-self-in_default-insert_full c =
    let n = noted_at c.self.inside.nodes.keys c.self.inside.firsts c.note.new.self c.args.name c.len.result c.len.ensures.len c.self.invariant.stand c.in_default.ensures.ok in
    subst (λ keys. Sound keys c.note.new.self c.self.inside.wholes) (sym c.in_default-insert_full.ensures.err) (record { stand = n.1; whole = c.self.invariant.whole })

pub invariant_of-self-2 : goal.invariant_of-self-2
invariant_of-self-2 c =
    let n = noted_at c.self.inside.nodes.keys c.self.inside.firsts c.note.new.self c.args.name c.len.result c.len.ensures.len c.self.invariant.stand c.in_default.ensures.ok in
    record {
      stand = stand_with _ _ (record { parent = c.set.inside.number; name = c.args.name }) _ _ (behind c) n.0 n.1 (put c);
      whole = whole_with _ _ (record { parent = c.set.inside.number; name = c.args.name }) _ _ (put c) c.self.invariant.whole;
    }

pub returns-clause-ok : goal.returns-clause-ok
returns-clause-ok c =
    let ordered = ordered_with _ _ _ _ (behind c) c.self.invariant.stand.ordered (put c) in
    let m = members_with _ _ _ _ (behind c) ordered (put c) in
    let n : c.in-Ok.index + 1 ≡ suc c.in-Ok.index = omega arith in (
      omega (arith, sets_of-length c.insert_full.new.self.keys, c.in-Ok.ensures.within),
      ap (members (sets_of c.insert_full.new.self.keys)) n ∙ m ∙ ap (λ t. c.args.name ∷ t) (ap (λ s. members s c.set.inside.number) c.self.view_is ∙ ap (members c.args.self.now) c.set.view_is),
    )

pub returns-clause-keeps : goal.returns-clause-keeps
returns-clause-keeps c = subst (λ t. Extends t (sets_of c.insert_full.new.self.keys)) c.self.view_is (extends_with _ _ _ _ (put c))

pub returns-clause-names : goal.returns-clause-names
returns-clause-names c = λ count p below. names_with count _ _ _ _ p (subst (λ t. NamesBelow count t) (sym c.self.view_is) below) (put c)
