use Rattle.std.proofs.Common.{◌≡◌, ◌≤◌, ◌∙◌, ap, subst, Ok, List, ℕ}
use Rattle.loader.specs.File.{file_image}
use Rattle.elf_out.specs.Written.{file_of}
use Rattle.elf_out.specs.Program.{program_image}
use Rattle.elf_out.proofs.Memory.{written_image, not_refused}
use Rattle.elf_out.proofs.writer.write_elf.Goals as goal

bytes_are : (c : goal.In-Ok) → c.in-Ok.file.items ≡ file_of c.args.image.now
bytes_are c =
    let text = c.text.result.now in
    c.in-Ok.ensures
    ∙ ap (λ (s : List ℕ). file_of (record { text = text; statics = s; stack = c.get-stack.result })) c.statics.ensures.value
    ∙ ap (λ (t : List ℕ). file_of (record { text = t; statics = c.args.image.now.statics; stack = c.get-stack.result })) c.text.ensures.value
    ∙ ap (λ (n : ℕ). file_of (record { text = c.args.image.now.text; statics = c.args.image.now.statics; stack = n })) (c.get-stack.ensures.value ∙ c.stack.ensures)

image_is : (c : goal.In-Ok) → file_image c.in-Ok.file.items ≡ Ok (program_image c.args.image.now)
image_is c = ap file_image (bytes_are c) ∙ written_image c.args.image.now c.text.ensures.fits (subst (λ (n : ℕ). n ≤ 16777216) c.stack.ensures c.get-stack.ensures.most)

pub returns-in-Ok-clause-image : goal.returns-in-Ok-clause-image
returns-in-Ok-clause-image c = image_is c

pub returns-in-Ok-clause-loads : goal.returns-in-Ok-clause-loads
returns-in-Ok-clause-loads c fault = not_refused _ _ fault (image_is c)
