use Rattle.lexer.proofs.ReadingLemmas.{again_reads, takes_reads, takes_fault, takes_texts, takes_stop, again_stop}
use Rattle.std.proofs.Common.{◌∷◌}
use Rattle.lexer.proofs.reading.Lexer.try_take.Goals as goal

pub returns-in-Some-clause-reads : goal.returns-in-Some-clause-reads
returns-in-Some-clause-reads c = again_reads c.args.names.now c.args.self.now.refused c.in-Some.refusal c.args.self.now.stored c.args.token.now c.in-Some.is

pub returns-in_default-take-clause-reads : goal.returns-in_default-take-clause-reads
returns-in_default-take-clause-reads c =
    takes_reads c.args.names.now c.take.new.names c.args.self.now.refused c.args.self.now.stored c.take.new.self c.args.token.now c.in_default.is c.in_default-take.ensures.ok c.in_default-take.ensures.settled

pub returns-in_default-take-clause-texts : goal.returns-in_default-take-clause-texts
returns-in_default-take-clause-texts c =
    takes_texts c.args.names.now c.take.new.names c.args.self.now.refused c.args.self.now.stored c.take.new.self c.args.token.now c.in_default.is c.in_default-take.ensures.ok c.in_default-take.ensures.settled

pub returns-clause-reads : goal.returns-clause-reads
returns-clause-reads c = takes_fault c.args.names.now c.args.self.now.refused c.args.self.now.stored c.args.token.now c.in-Err.refusal c.in_default.is c.in-Err.ensures.err

pub returns-clause-stops : goal.returns-clause-stops
returns-clause-stops c = takes_stop c.args.names.now c.take.new.names c.args.self.now.refused c.args.self.now.stored c.args.token.now c.in_default.is c.in-Err.ensures.stops

pub returns-in-Some-clause-stops : goal.returns-in-Some-clause-stops
returns-in-Some-clause-stops c = λ before front rest read up. again_stop c.args.names.now before front (c.args.token.now ∷ rest) up
