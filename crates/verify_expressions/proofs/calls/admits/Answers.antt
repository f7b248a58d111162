use Rattle.verify_expressions.proofs.calls.admits.Goals as goal

pub returns : goal.returns
returns c = λ t. c.known_entails.ensures t
