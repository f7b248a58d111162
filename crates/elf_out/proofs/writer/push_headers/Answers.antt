use Rattle.std.proofs.Common.{◌≡◌, ℕ, ◌++◌, subst, ◌-◌}
use Rattle.elf_out.specs.Written.{headers_of, elf_header, program_header}
use Rattle.elf_out.proofs.Pushing.{pushed_four}
use Rattle.elf_out.proofs.writer.push_headers.Goals as goal

pub returns : goal.returns
unfolding headers_of
returns c =
    let n = c.args.text_size in
    let m = c.args.statics_size in
    let P : ℕ → Type 0 = λ s. c.push_segment-3.new.file.items ≡ c.args.file.now.items ++ (elf_header ++ program_header 0x1000 0x11000 n n 1 ++ program_header (s - 0x10000) s m m 6 ++ program_header 0 (0x80000000 - c.args.stack) 0 c.args.stack 6) in
    subst P c.data_start-data_address.ensures
    (pushed_four _ _ _ _ _ _ _ _ _ c.in_ok-push_elf_header.ensures c.in_ok-push_segment.ensures c.in_ok-push_segment-2.ensures c.in_ok-push_segment-3.ensures)
