-- Rows of the texts of instructions: texts that assemblers take for these words (branches and JAL as LLVM's does).
use Rattle.std.specs.Prelude.{◌≡◌, refl, codes, ℕ, List, Option, Some, option_map}
use Rattle.std.specs.Fmt.{digits}
use Rattle.rv32.specs.Words.{decode_of}
use Rattle.asm.specs.Text.{text_of}

abbrev text : ℕ → Option (List ℕ)
text w = option_map text_of (decode_of w)

pub row_lui_2882397111 : text 2882397111 ≡ Some (codes "lui x7,0xABCDE")
unfolding digits
row_lui_2882397111 = refl

pub row_auipc_5143 : text 5143 ≡ Some (codes "auipc x8,0x1")
unfolding digits
row_auipc_5143 = refl

pub row_jalr_32871 : text 32871 ≡ Some (codes "jalr x0,0(x1)")
unfolding digits
row_jalr_32871 = refl

pub row_lb_4293985411 : text 4293985411 ≡ Some (codes "lb x9,-1(x2)")
unfolding digits
row_lb_4293985411 = refl

pub row_lw_2146575747 : text 2146575747 ≡ Some (codes "lw x11,2047(x4)")
unfolding digits
row_lw_2146575747 = refl

pub row_sb_4276326307 : text 4276326307 ≡ Some (codes "sb x14,-1(x7)")
unfolding digits
row_sb_4276326307 = refl

pub row_addi_2148075667 : text 2148075667 ≡ Some (codes "addi x17,x18,-2048")
unfolding digits
row_addi_2148075667 = refl

pub row_srai_1090638099 : text 1090638099 ≡ Some (codes "srai x2,x3,16")
unfolding digits
row_srai_1090638099 = refl

pub row_mulhsu_45425843 : text 45425843 ≡ Some (codes "mulhsu x9,x10,x11")
unfolding digits
row_mulhsu_45425843 = refl

pub row_ecall_115 : text 115 ≡ Some (codes "ecall")
unfolding digits
row_ecall_115 = refl

pub row_ebreak_1048691 : text 1048691 ≡ Some (codes "ebreak")
unfolding digits
row_ebreak_1048691 = refl

pub row_bne_2151780451 : text 2151780451 ≡ Some (codes "bne x3,x4,-4096")
unfolding digits
row_bne_2151780451 = refl

pub row_bgeu_4274388707 : text 4274388707 ≡ Some (codes "bgeu x11,x12,-4")
unfolding digits
row_bgeu_4274388707 = refl

pub row_jal_2147479791 : text 2147479791 ≡ Some (codes "jal x1,1048574")
unfolding digits
row_jal_2147479791 = refl

pub row_lw_4290847363 : text 4290847363 ≡ Some (codes "lw x5,-4(x2)")
unfolding digits
row_lw_4290847363 = refl
