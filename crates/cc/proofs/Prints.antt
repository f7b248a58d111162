-- Tokens that were printed, or not whole.
use Rattle.std.proofs.Common.{◌≡◌, ℕ, List, inr, sym, subst}
use Rattle.std.specs.Prelude.{Result, Ok, Err, OnOk, IfErr, MatchResult}
use Rattle.std.specs.Io.KnownBytes.{Appends}
use Rattle.srcset.specs.Files.{Files}
use Rattle.srcset.specs.NameTable.{Texts, KeepsNumbers, NumbersOnce}
use Rattle.srcset.specs.declared.fault.Fault.{Fault}
use Rattle.phases.specs.Token.{Token}
use Rattle.pp.specs.Printed.{printed, IsPrintRefused}
use Rattle.cc.specs.Compiled.{HasList}
use Rattle.cc.specs.Reported.{Said}
use Rattle.cc.specs.Performed.{PrintsAll, FailsPrint}

-- the tokens of a list, by the table itself
pub list_now : (set : Files) (name : List ℕ) (texts : Texts) (items : List Token) → ((t : Texts) → KeepsNumbers texts t → NumbersOnce t → HasList set name t items) → NumbersOnce texts → HasList set name texts items
list_now set name texts items each once = each texts (λ n text e. e) once

pub print_means : {U : Type 0} (set : Files) (name : List ℕ) (texts : Texts) (items slice : List Token) (out : Said) (r : Result U Fault) → slice ≡ items → HasList set name texts items → OnOk r (Appends out.before out.after (printed slice)) → IfErr r (IsPrintRefused slice out.before out.after) → MatchResult r (λ _. PrintsAll set name out) (FailsPrint set name out)
print_means set name texts items slice out (Ok u) e has done refused = record {
  texts = texts;
  list = slice;
  has_list = subst (HasList set name texts) (sym e) has;
  written = done;
}
print_means set name texts items slice out (Err fault) e has done refused = inr (record {
  texts = texts;
  list = slice;
  has_list = subst (HasList set name texts) (sym e) has;
  refused = refused;
})
