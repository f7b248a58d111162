use Rattle.std.proofs.Common.{◌≡◌, ℕ, List, Ok, inl, refl, subst}
use Rattle.loader.specs.File.{file_image}
use Rattle.loader.specs.Loading.{loaded_image}
use Rattle.machine_kept.proofs.kept.Kept.load_file.Goals as goal

pub returns-in-Ok : goal.returns-in-Ok
returns-in-Ok c =
    let image = loaded_image c.in-Ok.program in
    inl (image, subst (λ (xs : List ℕ). file_image xs ≡ Ok image) c.as_slice.ensures.value c.in-Ok.ensures, refl, c.begin.ensures)
