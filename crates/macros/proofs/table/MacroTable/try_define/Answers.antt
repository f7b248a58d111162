use Rattle.std.proofs.Common.{◌∙◌, sym, subst, refl}
use Rattle.macros.specs.Definition.{macro_of}
use Rattle.macros.specs.Table.{AreSame}
use Rattle.macros.proofs.ReadingLemmas.{front_of}
use Rattle.macros.proofs.DefineLemmas.{refused_by, defined_by, where_ok}
use Rattle.macros.proofs.table.MacroTable.try_define.Goals as goal

pub returns-in-Some-fault_of-clause-err : goal.returns-in-Some-fault_of-clause-err
returns-in-Some-fault_of-clause-err c = λ macros is.
    let texts = c.read_macro.new.names in
    let number = c.in_ok-found.ensures.keeps c.in_ok-n.n c.name-item.result.spelling c.in_ok-n.ensures.text in
    let grown = c.in_ok-found.ensures.tables c.args.self.now macros (c.in_ok-n.ensures.tables c.args.self.now macros is) in
    let read = subst (λ o. AreSame texts o (macro_of c.behind.result.now)) c.in-Some.is c.in_ok-found.ensures.ok in (
      refused_by texts c.in_ok-found.ensures.once c.args.self.now macros grown c.args.line.now c.name-item.result c.behind.result.now
          (front_of c.args.line.now c.name-item.result c.name-item.is c.in-len1-up.len_at_least) c.behind.ensures (sym c.is_identifier.ensures ∙ c.if-not-is_identifier.false)
          c.in_ok-n.n number c.in-Some.found read c.in-Some-fault_of.code (sym c.fault_of.ensures ∙ c.in-Some-fault_of.is),
      refl,
    )

pub returns-in-Some-fault_of-clause-keeps : goal.returns-in-Some-fault_of-clause-keeps
returns-in-Some-fault_of-clause-keeps c = λ n text e. c.in_ok-found.ensures.keeps n text (c.in_ok-n.ensures.keeps n text e)

pub returns-clause-ok : goal.returns-clause-ok
returns-clause-ok c =
    let texts = c.read_macro.new.names in
    let number = c.in_ok-found.ensures.keeps c.in_ok-n.n c.name-item.result.spelling c.in_ok-n.ensures.text in
    let read = subst (λ o. AreSame texts o (macro_of c.behind.result.now)) c.in-Some.is c.in_ok-found.ensures.ok in
    where_ok c.put.result c.put.ensures.ok (λ puts macros is.
    defined_by texts c.in_ok-found.ensures.once c.args.self.now macros (c.in_ok-found.ensures.tables c.args.self.now macros (c.in_ok-n.ensures.tables c.args.self.now macros is)) c.args.line.now c.name-item.result c.behind.result.now
    (front_of c.args.line.now c.name-item.result c.name-item.is c.in-len1-up.len_at_least) c.behind.ensures (sym c.is_identifier.ensures ∙ c.if-not-is_identifier.false)
    c.in_ok-n.n number c.in-Some.found read (sym c.fault_of.ensures ∙ c.in_default-fault_of.is) c.put.new.self puts)
