-- The registers of a decoded instruction are x0 to x31.
use Rattle.std.proofs.Common.{ℕ, ◌/◌, ◌%◌, ◌^◌, ◌<◌, Option, Some, None, Bool, true, false, arith}
use Rattle.std.specs.Prelude.{◌==◌, if◌then◌else◌, option_map}
use Rattle.rv32.specs.declared.instr.Instr.{Instr}
use Rattle.rv32.specs.declared.instr.Instr.TheVariants.{Lui, Auipc, Jal, Jalr, Branch, Load, Store, Immediate, Shift, Op, Fence, Ecall, Ebreak}
use Rattle.rv32.specs.Words.{decode_of, opcode, rd, rs1, rs2, funct3, function, immediate_i, immediate_s, immediate_b, test_of, load_of, store_of, shift_of, immediate_op_of, register_op_of}

abbrev pub RegistersIn : Instr → Type 0
RegistersIn (Lui d v) = d < 32
RegistersIn (Auipc d v) = d < 32
RegistersIn (Jal d v) = d < 32
RegistersIn (Jalr d b v) = (d < 32) × (b < 32)
RegistersIn (Branch t l r v) = (l < 32) × (r < 32)
RegistersIn (Load k d b v) = (d < 32) × (b < 32)
RegistersIn (Store k s b v) = (s < 32) × (b < 32)
RegistersIn (Immediate o d l v) = (d < 32) × (l < 32)
RegistersIn (Shift o d l a) = (d < 32) × (l < 32)
RegistersIn (Op o d l r) = (d < 32) × (l < 32) × (r < 32)
RegistersIn (Fence d s v) = Unit {0}
RegistersIn Ecall = Unit {0}
RegistersIn Ebreak = Unit {0}

abbrev pub AllIn : Option Instr → Type 0
AllIn None = Unit {0}
AllIn (Some i) = RegistersIn i

if_all : (t : Bool) (x y : Option Instr) → AllIn x → AllIn y → AllIn (if t then x else y)
if_all true x y p q = p
if_all false x y p q = q

map_all : {X : Type 0} (o : Option X) (f : X → Instr) → ((x : X) → RegistersIn (f x)) → AllIn (option_map f o)
map_all None f all = tt
map_all (Some x) f all = all x

field_small : (n : ℕ) → n % 2 ^ 5 < 32
field_small n = omega arith

pub decoded_in : (w : ℕ) → AllIn (decode_of w)
decoded_in w =
    let d : rd w < 32 = field_small (w / 2 ^ 7) in
    let a : rs1 w < 32 = field_small (w / 2 ^ 15) in
    let b : rs2 w < 32 = field_small (w / 2 ^ 20) in
    if_all (opcode w == 0x37) _ _ d
    (if_all (opcode w == 0x17) _ _ d
    (if_all (opcode w == 0x6f) _ _ d
    (if_all (opcode w == 0x67) _ _ (if_all (funct3 w == 0) _ _ (d, a) tt)
    (if_all (opcode w == 0x63) _ _ (map_all (test_of (funct3 w)) (λ t. Branch t (rs1 w) (rs2 w) (immediate_b w)) (λ t. (a, b)))
    (if_all (opcode w == 0x03) _ _ (map_all (load_of (funct3 w)) (λ k. Load k (rd w) (rs1 w) (immediate_i w)) (λ k. (d, a)))
    (if_all (opcode w == 0x23) _ _ (map_all (store_of (funct3 w)) (λ k. Store k (rs2 w) (rs1 w) (immediate_s w)) (λ k. (b, a)))
    (if_all (opcode w == 0x13) _ _
    (if_all (funct3 w % 4 == 1) _ _
    (map_all (shift_of (function w)) (λ o. Shift o (rd w) (rs1 w) (rs2 w)) (λ o. (d, a)))
    (map_all (immediate_op_of (funct3 w)) (λ o. Immediate o (rd w) (rs1 w) (immediate_i w)) (λ o. (d, a))))
    (if_all (opcode w == 0x33) _ _ (map_all (register_op_of (function w)) (λ o. Op o (rd w) (rs1 w) (rs2 w)) (λ o. (d, a, b)))
    (if_all (opcode w == 0x0f) _ _ (if_all (funct3 w == 0) _ _ tt tt)
    (if_all (w == 0x73) _ _ tt
    (if_all (w == 0x100073) _ _ tt tt)))))))))))
