use Rattle.std.proofs.Common.{Ok, Err, Some, None, refl, ap, ◌∙◌}
use Rattle.pp_expand.specs.Expansion.{unhidden}
use Rattle.pp_expand.specs.Expands.{ending_of}
use Rattle.pp_expand.specs.Pulled.{expanding}
use Rattle.pp_expand.specs.Streams.{list_left}
use Rattle.pp_expand.specs.Meaning.{shown_behind}
use Rattle.pp_expand.proofs.Whole.{expanded_is, goes_on, ends, fails, pulled_as, fails_as, gives_files}
use Rattle.pp_expand.proofs.expansion.expand_behind.Goals as goal

pub loop-next-init : goal.loop-next-init
loop-next-init c = record {
  same_end = c.of-expander.ensures.end;
  goes = c.of-expander.ensures.refused;
  knows = λ macros is_table. c.of-expander.ensures.known c.args.names.now c.requires;
  same = λ macros texts is_table keeps. ap (λ l. shown_behind c.args.most c.args.given.now.items (expanding (record { macros = macros; texts = texts }) l (ending_of c.args.end) c.args.budget.now)) (c.of-expander.ensures.left texts);
}

pub loop-next-preserved : goal.loop-next-preserved
loop-next-preserved c =
    let i = c.loop-next.invariant in
    record {
      same_end = c.try_next.ensures.end ∙ i.same_end;
      goes = c.in-Ok.ensures.refused;
      knows = λ macros is_table. c.try_next.ensures.known macros is_table (i.knows macros is_table);
      same = λ macros texts is_table keeps.
          goes_on (record { macros = macros; texts = texts }) c.args.most c.args.given.now.items (unhidden c.args.list) (ending_of c.args.end) c.args.budget.now c.loop-next.given.items (list_left texts c.loop-next.expander) c.loop-next.budget (i.same macros texts is_table keeps) c.in-Some.token (list_left texts c.try_next.new.self) c.try_next.new.budget c.show_one.new.given.items (pulled_as (record { macros = macros; texts = texts }) (list_left texts c.loop-next.expander) (list_left texts c.try_next.new.self) c.loop-next.budget c.try_next.new.budget (Ok c.in-Ok.next) (Ok (Some c.in-Some.token)) c.loop-next.expander.end c.args.end (ap Ok c.in-Some.is) i.same_end (c.in-Ok.ensures.pulls macros texts is_table keeps (i.knows macros is_table) i.goes)) c.in_default-show_one.ensures.ok;
    }

pub returns-in_default-clause-expansion : goal.returns-in_default-clause-expansion
returns-in_default-clause-expansion c = λ macros texts is_table keeps.
    let i = c.loop-next.invariant in
    let b = ends (record { macros = macros; texts = texts }) c.args.most c.args.given.now.items (unhidden c.args.list) (ending_of c.args.end) c.args.budget.now c.loop-next.given.items (list_left texts c.loop-next.expander) c.loop-next.budget (i.same macros texts is_table keeps) (list_left texts c.try_next.new.self) c.try_next.new.budget (pulled_as (record { macros = macros; texts = texts }) (list_left texts c.loop-next.expander) (list_left texts c.try_next.new.self) c.loop-next.budget c.try_next.new.budget (Ok c.in-Ok.next) (Ok None) c.loop-next.expander.end c.args.end (ap Ok c.in_default.is) i.same_end (c.in-Ok.ensures.pulls macros texts is_table keeps (i.knows macros is_table) i.goes)) in
    (b.list, expanded_is (record { macros = macros; texts = texts }) c.args.list (ending_of c.args.end) c.args.budget.now ∙ b.list_is, b.all_is)

pub returns-in_default-clause-files : goal.returns-in_default-clause-files
returns-in_default-clause-files c = λ macros is_table.
    let i = c.loop-next.invariant in
    gives_files macros c.args.names.now c.args.list (ending_of c.args.end) c.args.budget.now c.args.most c.args.given.now.items c.loop-next.given.items c.try_next.new.budget c.requires (ends (record { macros = macros; texts = c.args.names.now }) c.args.most c.args.given.now.items (unhidden c.args.list) (ending_of c.args.end) c.args.budget.now c.loop-next.given.items (list_left c.args.names.now c.loop-next.expander) c.loop-next.budget (i.same macros c.args.names.now is_table (λ n text e. e)) (list_left c.args.names.now c.try_next.new.self) c.try_next.new.budget (pulled_as (record { macros = macros; texts = c.args.names.now }) (list_left c.args.names.now c.loop-next.expander) (list_left c.args.names.now c.try_next.new.self) c.loop-next.budget c.try_next.new.budget (Ok c.in-Ok.next) (Ok None) c.loop-next.expander.end c.args.end (ap Ok c.in_default.is) i.same_end (c.in-Ok.ensures.pulls macros c.args.names.now is_table (λ n text e. e) (i.knows macros is_table) i.goes)))

pub returns-in-Err-clause-expansion : goal.returns-in-Err-clause-expansion
returns-in-Err-clause-expansion c = λ macros texts is_table keeps.
    let i = c.loop-next.invariant in
    fails_as (record { macros = macros; texts = texts }) c.args.list (ending_of c.args.end) c.args.budget.now c.new-in-Err.result c.in-Err.refusal (c.new-in-Err.ensures ∙ c.left-before.ensures) (fails (record { macros = macros; texts = texts }) c.args.most c.args.given.now.items (unhidden c.args.list) (ending_of c.args.end) c.args.budget.now c.loop-next.given.items (list_left texts c.loop-next.expander) c.loop-next.budget (i.same macros texts is_table keeps) c.in-Err.refusal (list_left texts c.try_next.new.self) c.try_next.new.budget (pulled_as (record { macros = macros; texts = texts }) (list_left texts c.loop-next.expander) (list_left texts c.try_next.new.self) c.loop-next.budget c.try_next.new.budget (Err c.in-Err.refusal) (Err c.in-Err.refusal) c.loop-next.expander.end c.args.end refl i.same_end (c.in-Err.ensures.pulls macros texts is_table keeps (i.knows macros is_table) i.goes)))
