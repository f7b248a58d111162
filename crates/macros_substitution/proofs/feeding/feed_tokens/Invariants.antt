use Rattle.std.proofs.Common.{◌≡◌, ℕ, ◌++◌, List, length, drop}
use Rattle.srcset.specs.NameTable.{Texts, NumbersOnce}
use Rattle.macros_substitution.specs.HideSets.{Sets, Extends, NamesBelow}
use Rattle.macros_substitution.specs.Meaning.{hidden_all, AreIn}
use Rattle.macros_substitution.specs.Substitution.{Piece, ones}
use Rattle.macros_substitution.specs.inside.Steps.{JoiningIn, going}
use Rattle.macros_substitution.proofs.feeding.feed_tokens.Given as goal

abbrev pub invariant-loop-token : goal.invariant-loop-token
invariant-loop-token l = record {
  known : JoiningIn (length l.sets) l.joining;
  tokens : AreIn (length l.sets) (drop l.token-index l.tokens);
  grown : Extends l.initial.sets l.sets;
  names : (count : ℕ) → NamesBelow count l.initial.sets → NamesBelow count l.sets;
  same : (texts : Texts) (later : Sets) (behind : List Piece) → NumbersOnce texts → NamesBelow (length texts) l.initial.sets → Extends l.sets later →
      going texts later l.initial.joining (ones (hidden_all texts later l.initial.tokens) ++ behind) l.at
      ≡ going texts later l.joining (ones (hidden_all texts later (drop l.token-index l.tokens)) ++ behind) l.at;
}
