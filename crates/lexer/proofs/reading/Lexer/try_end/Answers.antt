use Rattle.std.proofs.lemmas.Result.{IfOk-weaker, on_err_weaker}
use Rattle.lexer.proofs.ReadingLemmas.{ends_ok, ends_constants, ends_texts, ends_stop, again_end, on_ok_from}
use Rattle.lexer.proofs.reading.Lexer.try_end.Goals as goal

pub returns-in-None-clause-ok : goal.returns-in-None-clause-ok
returns-in-None-clause-ok c = IfOk-weaker c.end.result _ _ (λ ts ends. ends_ok c.args.names.now c.end.new.names c.args.self.refused c.args.self.stored ts.items c.in-None.is ends) c.end.ensures.ok

pub returns-in-None-clause-constants : goal.returns-in-None-clause-constants
returns-in-None-clause-constants c = IfOk-weaker c.end.result _ _ (λ ts ends. ends_constants c.args.names.now c.end.new.names c.args.self.refused c.args.self.stored ts.items c.in-None.is ends) c.end.ensures.ok

pub returns-in-None-clause-texts : goal.returns-in-None-clause-texts
returns-in-None-clause-texts c = on_ok_from c.end.result _ _ (λ ts ends. ends_texts c.args.names.now c.end.new.names c.args.self.refused c.args.self.stored ts.items c.in-None.is ends) c.end.ensures.ok

pub returns-in-None-clause-stops : goal.returns-in-None-clause-stops
returns-in-None-clause-stops c = on_err_weaker c.end.result (ends_stop c.args.names.now c.end.new.names c.args.self.refused c.args.self.stored c.in-None.is) c.end.ensures.stops

pub returns-in-Some-clause-stops : goal.returns-in-Some-clause-stops
returns-in-Some-clause-stops c = λ before front read up. again_end c.args.names.now before front up
