use Rattle.std.proofs.Common.{◌≡◌, List, Ok, length, drop, subst, arith}
use Rattle.phases.specs.Token.{Token}
use Rattle.pp_expand.specs.Expansion.{expanded}
use Rattle.pp_expand.specs.Expands.{HaveFiles, ending_of}
use Rattle.pp_expand.proofs.Whole.{alone}
use Rattle.pp_expand.proofs.expansion.try_expand.Goals as goal

pub returns-in-Ok-clause-expansion : goal.returns-in-Ok-clause-expansion
returns-in-Ok-clause-expansion c = λ macros texts is_table keeps.
    let e = c.in-Ok.ensures.expansion macros texts is_table keeps in
    subst (λ (l : List Token). expanded (record { macros = macros; texts = texts }) l (ending_of c.args.end) c.args.budget.now ≡ Ok (c.expand_behind.new.given.items, c.expand_behind.new.budget)) c.in_ok-list.ensures.ok
    (alone 18446744073709551615 _ c.expand_behind.new.given.items e.0 _ _ c.new-given.ensures.items e.1 e.2 (omega arith))

pub returns-in-Ok-clause-files : goal.returns-in-Ok-clause-files
returns-in-Ok-clause-files c = λ macros is_table.
    subst (λ old. HaveFiles c.args.names.now (drop (length old) c.expand_behind.new.given.items)) c.new-given.ensures.items (c.in-Ok.ensures.files macros is_table)
