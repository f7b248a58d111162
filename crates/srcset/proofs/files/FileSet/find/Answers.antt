use Rattle.std.proofs.Common.{◌≡◌, ℕ, List, length, refl, sym, ap, subst, nat_le}
use Rattle.std.specs.Option.{option_copied}
use Rattle.std.proofs.lemmas.Bool.{leb-true}
use Rattle.srcset.specs.Files.{file_of, max_file_bytes}
use Rattle.srcset.proofs.FileLemmas.{file_of-files_of, found_passes}
use Rattle.srcset.proofs.FindLemmas.{no_file}
use Rattle.srcset.proofs.files.FileSet.find.Goals as goal

pub returns-in_default-clause-bytes : goal.returns-in_default-clause-bytes
returns-in_default-clause-bytes c = sym (no_file c.args.self.now c.args.name.now (rw (← c.self.view_is) c.self.invariant.1) c.in_default.ensures.cases.0)

pub returns-in_err-bytes-clause-bytes : goal.returns-in_err-bytes-clause-bytes
returns-in_err-bytes-clause-bytes c =
    rw (← c.in-Ok.ensures.cases.0, ← c.self.view_is, file_of-files_of, ← c.get.ensures.value, c.in_err-bytes.was, c.from_residual.ensures) refl

pub returns-clause-bytes : goal.returns-clause-bytes
returns-clause-bytes c =
    rw (← c.in-Ok.ensures.cases.0, ← c.self.view_is, file_of-files_of, ← c.get.ensures.value, c.in_ok-bytes.was, c.as_slice.ensures.value) refl

pub returns-clause-small : goal.returns-clause-small
returns-clause-small c =
    let found = sym (returns-clause-bytes c) in
    leb-true _ _ (found_passes (λ (bytes : List ℕ). nat_le (length bytes) max_file_bytes) _ c.args.self.now _ (rw (← c.self.view_is) c.self.invariant.0.1) found)
