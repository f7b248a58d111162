use Rattle.std.proofs.Common.{◌≡◌, ◌++◌, drop, map, length}
use Rattle.zikorape.specs.Given.{total, texts_of, lengths_of}
use Rattle.zikorape.proofs.files.file_set.Given as goal

abbrev pub invariant-loop-file : goal.invariant-loop-file
invariant-loop-file l = record {
  texts : texts_of l.set ++ l.rest ≡ l.texts;
  lengths : map lengths_of l.set ++ drop l.file-index l.files ≡ l.files;
  fits : total (drop l.file-index l.files) ≡ length l.rest;
}
