use Rattle.std.proofs.Common.{ℕ, Vec, Global}
use Rattle.srcset.proofs.NameLemmas.{finds_number}
use Rattle.srcset.proofs.names.Names.find.Goals as goal

pub returns-clause-found : goal.returns-clause-found
returns-clause-found c =
    rw (← c.self.view_is) (finds_number (λ (v : Vec ℕ Global). v.items) c.self.inside.texts.keys c.args.text.now c.get_index_of.result c.get_index_of.ensures.index c.get_index_of.ensures.found c.self.invariant)
