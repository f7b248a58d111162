use Rattle.cc.proofs.front.preprocessed.Goals as goal

pub returns-in-Ok-made-clause-list : goal.returns-in-Ok-made-clause-list
returns-in-Ok-made-clause-list c = λ texts keeps once.
    let main = c.args.main.now in
    let named = c.in-Ok.ensures.named in record {
      numbers = record { once = once; file = named.0; named = keeps named.0 main (c.preprocess-made.ensures.keeps named.0 main named.1) };
      early = c.preprocess-made.new.names;
      keeps = keeps;
      whole = c.in-Ok-made.ensures.ok;
    }
