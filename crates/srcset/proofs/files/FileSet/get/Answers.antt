use Rattle.std.proofs.Common.{ℕ, List, length, refl, sym, ap, is_some, nat_le}
use Rattle.std.proofs.lemmas.Bool.{leb-true}
use Rattle.srcset.specs.Files.{max_file_bytes}
use Rattle.srcset.proofs.FileLemmas.{file_of-files_of, found_passes, found_name}
use Rattle.srcset.proofs.files.FileSet.get.Goals as goal

pub returns-in_err-bytes-clause-bytes : goal.returns-in_err-bytes-clause-bytes
returns-in_err-bytes-clause-bytes c =
    rw (← c.self.view_is, file_of-files_of, ← c.get.ensures.value, c.in_err-bytes.was, c.from_residual.ensures) refl

pub returns-clause-bytes : goal.returns-clause-bytes
returns-clause-bytes c =
    rw (← c.self.view_is, file_of-files_of, ← c.get.ensures.value, c.in_ok-bytes.was, c.as_slice.ensures.value) refl

pub returns-clause-small : goal.returns-clause-small
returns-clause-small c =
    let found = sym (returns-clause-bytes c) in
    leb-true _ _ (found_passes (λ (bytes : List ℕ). nat_le (length bytes) max_file_bytes) _ c.args.self.now _ (rw (← c.self.view_is) c.self.invariant.0.1) found)

pub returns-clause-named : goal.returns-clause-named
returns-clause-named c = λ found. found_name c.args.self.now c.args.name.now (rw (← c.self.view_is) c.self.invariant.1) (ap is_some (sym (returns-clause-bytes c)))
