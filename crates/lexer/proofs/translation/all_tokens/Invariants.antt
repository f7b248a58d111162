use Rattle.std.proofs.Common.{◌≡◌, None, take}
use Rattle.srcset.specs.NameTable.{KeepsNumbers}
use Rattle.lexer.specs.Reading.{HasRead, HasTakenUp, refusal_of}
use Rattle.lexer.proofs.translation.all_tokens.Given as goal

abbrev pub invariant-loop-token : goal.invariant-loop-token
invariant-loop-token l = record {
  reads : HasRead l.names (take l.token-index l.list) l.lexer;
  ready : refusal_of l.lexer ≡ None;
  texts : HasTakenUp l.initial.names (take l.token-index l.list) l.names;
  keeps : KeepsNumbers l.initial.names l.names;
}
