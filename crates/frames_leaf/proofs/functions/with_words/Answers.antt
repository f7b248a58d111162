use Rattle.std.proofs.Common.{ap, ◌∙◌, map}
use Rattle.frames_code.specs.Code.{function_of}
use Rattle.frames_leaf.specs.layer.Moving.{moved}
use Rattle.frames_leaf.specs.layer.Functions.{with_code}
use Rattle.frames_leaf.proofs.functions.with_words.Goals as goal

pub returns : goal.returns
returns c = record {
  words = c.args.words.now.list.items;
  first = c.args.words.now.first;
  past_result = c.requires.some;
  registers = c.requires.few;
  leaf = c.requires.leaf;
  is = ap (with_code (function_of c.args.function)) (c.in_ok-code.ensures ∙ (ap (λ ws. map (moved c.args.words.now.first ws) c.deref-2.result.now) c.deref.ensures.value ∙ ap (map (moved c.args.words.now.first c.args.words.now.list.items)) c.deref-2.ensures.value));
}
