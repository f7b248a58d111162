use Rattle.std.proofs.Common.{◌∙◌, sym}
use Rattle.macros.proofs.ReadingLemmas.{place_among, no_place}
use Rattle.macros.proofs.reading.place_of.Goals as goal

pub returns-in_default : goal.returns-in_default
returns-in_default c = λ texts are. no_place c.args.names.now c.args.name.now (λ n e. let f = sym c.in_default.is ∙ (c.find.ensures.found n).1 e in absurd (cc)) c.args.parameters.now.keys texts are

pub returns : goal.returns
returns c = λ texts are.
    c.get_index_of.ensures.index ∙ place_among c.args.names.now c.find.ensures.once c.in-Some.n c.args.name.now ((c.find.ensures.found c.in-Some.n).0 c.in-Some.is) c.args.parameters.now.keys texts are
