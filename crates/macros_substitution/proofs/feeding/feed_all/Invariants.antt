use Rattle.std.proofs.Common.{◌≡◌, ℕ, ◌++◌, List, length}
use Rattle.srcset.specs.NameTable.{Texts, NumbersOnce}
use Rattle.macros_substitution.specs.HideSets.{Sets, Extends, NamesBelow}
use Rattle.macros_substitution.specs.Meaning.{hidden_lists, pieces_as, PiecesIn, ListsIn}
use Rattle.macros_substitution.specs.Substitution.{Piece}
use Rattle.macros_substitution.specs.inside.Steps.{JoiningIn, going, all_put}
use Rattle.macros_substitution.proofs.feeding.feed_all.Given as goal

abbrev pub invariant-loop-piece : goal.invariant-loop-piece
invariant-loop-piece l = record {
  known : JoiningIn (length l.sets) l.joining;
  pieces : PiecesIn (length l.sets) l.rest.items;
  arguments : ListsIn (length l.sets) l.arguments;
  full : ListsIn (length l.sets) l.full;
  grown : Extends l.initial.sets l.sets;
  names : (count : ℕ) → NamesBelow count l.initial.sets → NamesBelow count l.sets;
  same : (texts : Texts) (later : Sets) (behind : List Piece) → NumbersOnce texts → NamesBelow (length texts) l.initial.sets → Extends l.sets later →
      going texts later l.initial.joining (all_put (hidden_lists texts later l.arguments) (hidden_lists texts later l.full) (pieces_as texts later l.initial.rest.items) ++ behind) l.at
      ≡ going texts later l.joining (all_put (hidden_lists texts later l.arguments) (hidden_lists texts later l.full) (pieces_as texts later l.rest.items) ++ behind) l.at;
}

abbrev pub decreases-loop-piece : goal.decreases-loop-piece
decreases-loop-piece l = length l.rest.items
