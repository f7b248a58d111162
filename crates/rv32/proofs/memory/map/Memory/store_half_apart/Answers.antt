use Rattle.std.proofs.Common.{rules, ◌+◌, ◌/◌, ◌%◌, ◌^◌, ◌≡◌}
use Rattle.rv32.specs.Space.{Space, space_of, byte_put, with_bytes}
use Rattle.rv32.proofs.Spaces.{stored, stored_then}
use Rattle.rv32.proofs.memory.map.Memory.store_half_apart.Goals as goal

pub returns-then-can_write-2-clause-after : goal.returns-then-can_write-2-clause-after
returns-then-can_write-2-clause-after c =
    let a = c.args.address in
    let v = c.args.value in
    let m : Space = space_of c.args.self.now.segments.items in
    let m1 : Space = space_of c.store_byte_apart.new.self.segments.items in
    let m2 : Space = space_of c.store_byte_apart-then-can_write-2.new.self.segments.items in
    let g1 = byte_put (a + 1) (v / 2 ^ 8 % 2 ^ 8) in
    let e1 : m1 ≡ with_bytes m g1 = stored m m1 c.store_byte_apart.result (a + 1) g1 c.store_byte_apart.ensures.allowed c.store_byte_apart.ensures.after (search rules) in
    stored_then m m1 m2 c.store_byte_apart-then-can_write-2.result a g1 (byte_put a (v % 2 ^ 8)) e1 c.store_byte_apart-then-can_write-2.ensures.allowed c.store_byte_apart-then-can_write-2.ensures.after (search rules)
