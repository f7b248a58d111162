use Rattle.std.proofs.Common.{ℕ, rules, ◌+◌, ◌/◌, ◌%◌, ◌^◌, ◌≡◌}
use Rattle.rv32.specs.Space.{Space, space_of, byte_put, with_bytes}
use Rattle.rv32.proofs.Spaces.{stored, stored_then}
use Rattle.rv32.proofs.memory.map.Memory.store_word_apart.Goals as goal

pub returns-then-can_write-4-clause-after : goal.returns-then-can_write-4-clause-after
returns-then-can_write-4-clause-after c =
    let a = c.args.address in
    let v = c.args.value in
    let s1 = c.store_byte_apart in
    let s2 = c.store_byte_apart-then-can_write-4 in
    let s3 = c.store_byte_apart-then-can_write-4-2 in
    let s4 = c.store_byte_apart-then-can_write-4-3 in
    let m : Space = space_of c.args.self.now.segments.items in
    let m1 : Space = space_of s1.new.self.segments.items in
    let m2 : Space = space_of s2.new.self.segments.items in
    let m3 : Space = space_of s3.new.self.segments.items in
    let m4 : Space = space_of s4.new.self.segments.items in
    let g1 = byte_put (a + 3) (v / 2 ^ 24) in
    let h2 = byte_put (a + 2) (v / 2 ^ 16 % 2 ^ 8) in
    let g2 = λ (b x : ℕ). h2 b (g1 b x) in
    let h3 = byte_put (a + 1) (v / 2 ^ 8 % 2 ^ 8) in
    let g3 = λ (b x : ℕ). h3 b (g2 b x) in
    let e1 : m1 ≡ with_bytes m g1 = stored m m1 s1.result (a + 3) g1 s1.ensures.allowed s1.ensures.after (search rules) in
    let e2 : m2 ≡ with_bytes m g2 = stored_then m m1 m2 s2.result (a + 2) g1 h2 e1 s2.ensures.allowed s2.ensures.after (search rules) in
    let e3 : m3 ≡ with_bytes m g3 = stored_then m m2 m3 s3.result (a + 1) g2 h3 e2 s3.ensures.allowed s3.ensures.after (search rules) in
    stored_then m m3 m4 s4.result a g3 (byte_put a (v % 2 ^ 8)) e3 s4.ensures.allowed s4.ensures.after (search rules)
