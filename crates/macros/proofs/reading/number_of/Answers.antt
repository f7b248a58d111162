use Rattle.macros.proofs.TableLemmas.{table_grows}
use Rattle.macros.proofs.reading.number_of.Goals as goal

pub returns-clause-tables : goal.returns-clause-tables
returns-clause-tables c = λ table macros is. table_grows c.args.names.now c.intern.new.self table macros c.intern.ensures.keeps c.intern.ensures.once is
