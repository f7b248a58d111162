use Rattle.std.proofs.Common.{rules, arith, ap, ◌-◌, vec_len}
use Rattle.elf_out.proofs.Pushing.{file_made}
use Rattle.elf_out.proofs.writer.file_bytes.Goals as goal

pub returns : goal.returns
returns c =
    let s1 = c.push_headers.new.file in
    let s2 = c.resize.new.self in
    let s3 = c.extend_from_slice.new.self in
    let e1 = c.in_ok-push_headers.ensures in
    file_made (record { text = c.args.text.now; statics = c.args.statics.now; stack = c.args.stack })
    s1.items s2.items s3.items c.resize-2.new.self.items c.extend_from_slice-2.new.self.items
    (vec_len s1) (vec_len s3) (c.data_start.result - 0x10000) (omega arith) (ap (λ s. s - 0x10000) c.data_start.ensures) (search rules) (search rules)
    (search rules) c.in_ok-resize.ensures.items c.in_ok-extend_from_slice.ensures.items c.in_ok-resize-2.ensures.items c.in_ok-extend_from_slice-2.ensures.items
