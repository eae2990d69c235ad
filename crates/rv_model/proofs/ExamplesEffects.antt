-- Worked effects: what each operation makes of the values of its registers and its immediate. They hold
-- by computation.
use Rattle.std.proofs.Common.{◌≡◌, true, false, refl}
use Rattle.rv_model.specs.declared.instr.Op.TheVariants.{Add, Sub, Sll, Slt, Sltu, Xor, Srl, Sra, Or, And, Mul, Mulh, Mulhsu, Mulhu, Div, Divu, Rem, Remu, Addw, Subw, Addi, Slti, Sltiu, Xori, Ori, Andi, Slli, Srli, Srai, Addiw, Ld, Lbu, Jalr, Sd, Beq, Bne, Blt, Bge, Bltu, Bgeu, Lui, Auipc, Jal, AmoaddD, AmoswapD, AmoandD, AmocasD, Ecall}
use Rattle.rv_model.specs.Table.{effect, Sets, AddsPc, Branches, Links, LinksTo, Loads, LoadsByte, Stores, Swaps, Adds, Masks, Exchanges, Calls}

pub add_wraps : effect Add 0xFFFFFFFFFFFFFFFF 2 0 0 ≡ Sets 1
add_wraps = refl

pub sub_below_zero : effect Sub 1 3 0 0 ≡ Sets 0xFFFFFFFFFFFFFFFE
sub_below_zero = refl

pub sll_by_63 : effect Sll 3 0x3F 0 0 ≡ Sets 0x8000000000000000
sll_by_63 = refl

pub sll_uses_six_bits : effect Sll 5 0x41 0 0 ≡ Sets 0xA
sll_uses_six_bits = refl

pub slt_signed : effect Slt 0xFFFFFFFFFFFFFFFF 1 0 0 ≡ Sets 1
slt_signed = refl

pub slt_least_and_greatest : effect Slt 0x7FFFFFFFFFFFFFFF 0x8000000000000000 0 0 ≡ Sets 0
slt_least_and_greatest = refl

pub sltu_unsigned : effect Sltu 0xFFFFFFFFFFFFFFFF 1 0 0 ≡ Sets 0
sltu_unsigned = refl

pub sltu_less : effect Sltu 1 0xFFFFFFFFFFFFFFFF 0 0 ≡ Sets 1
sltu_less = refl

pub xor_bits : effect Xor 0xFF00FF00FF00FF00 0xFF00FF00FF00FF0 0 0 ≡ Sets 0xF0F0F0F0F0F0F0F0
xor_bits = refl

pub srl_by_63 : effect Srl 0x8000000000000000 0x3F 0 0 ≡ Sets 1
srl_by_63 = refl

pub srl_uses_six_bits : effect Srl 0x10 0x42 0 0 ≡ Sets 4
srl_uses_six_bits = refl

pub sra_by_63 : effect Sra 0x8000000000000000 0x3F 0 0 ≡ Sets 0xFFFFFFFFFFFFFFFF
sra_by_63 = refl

pub sra_positive : effect Sra 0x7FFFFFFFFFFFFFFF 0x3E 0 0 ≡ Sets 1
sra_positive = refl

pub sra_by_0 : effect Sra 0x8000000000000005 0x40 0 0 ≡ Sets 0x8000000000000005
sra_by_0 = refl

pub or_bits : effect Or 0xF0F0 0xF01 0 0 ≡ Sets 0xFFF1
or_bits = refl

pub and_bits : effect And 0xFFF0 0xFFF 0 0 ≡ Sets 0xFF0
and_bits = refl

pub mul_wraps : effect Mul 0xFFFFFFFFFFFFFFFF 0xFFFFFFFFFFFFFFFF 0 0 ≡ Sets 1
mul_wraps = refl

pub mul_low_half : effect Mul 0x100000001 0x100000001 0 0 ≡ Sets 0x200000001
mul_low_half = refl

pub mulh_of_minus_ones : effect Mulh 0xFFFFFFFFFFFFFFFF 0xFFFFFFFFFFFFFFFF 0 0 ≡ Sets 0
mulh_of_minus_ones = refl

pub mulh_of_least : effect Mulh 0x8000000000000000 0x8000000000000000 0 0 ≡ Sets 0x4000000000000000
mulh_of_least = refl

pub mulh_mixed_signs : effect Mulh 0xFFFFFFFFFFFFFFFF 2 0 0 ≡ Sets 0xFFFFFFFFFFFFFFFF
mulh_mixed_signs = refl

pub mulhsu_signed_by_unsigned : effect Mulhsu 0xFFFFFFFFFFFFFFFF 0xFFFFFFFFFFFFFFFF 0 0 ≡ Sets 0xFFFFFFFFFFFFFFFF
mulhsu_signed_by_unsigned = refl

pub mulhsu_unsigned_operand : effect Mulhsu 2 0xFFFFFFFFFFFFFFFF 0 0 ≡ Sets 1
mulhsu_unsigned_operand = refl

pub mulhu_greatest : effect Mulhu 0xFFFFFFFFFFFFFFFF 0xFFFFFFFFFFFFFFFF 0 0 ≡ Sets 0xFFFFFFFFFFFFFFFE
mulhu_greatest = refl

pub div_towards_zero : effect Div 0xFFFFFFFFFFFFFFF9 2 0 0 ≡ Sets 0xFFFFFFFFFFFFFFFD
div_towards_zero = refl

pub div_by_negative : effect Div 7 0xFFFFFFFFFFFFFFFE 0 0 ≡ Sets 0xFFFFFFFFFFFFFFFD
div_by_negative = refl

pub div_two_negatives : effect Div 0xFFFFFFFFFFFFFFF9 0xFFFFFFFFFFFFFFFE 0 0 ≡ Sets 3
div_two_negatives = refl

pub div_by_zero : effect Div 5 0 0 0 ≡ Sets 0xFFFFFFFFFFFFFFFF
div_by_zero = refl

-- the least number divided by -1
pub div_overflows : effect Div 0x8000000000000000 0xFFFFFFFFFFFFFFFF 0 0 ≡ Sets 0x8000000000000000
div_overflows = refl

pub divu_unsigned : effect Divu 0xFFFFFFFFFFFFFFFF 2 0 0 ≡ Sets 0x7FFFFFFFFFFFFFFF
divu_unsigned = refl

pub divu_by_zero : effect Divu 5 0 0 0 ≡ Sets 0xFFFFFFFFFFFFFFFF
divu_by_zero = refl

pub rem_sign_of_dividend : effect Rem 0xFFFFFFFFFFFFFFF9 2 0 0 ≡ Sets 0xFFFFFFFFFFFFFFFF
rem_sign_of_dividend = refl

pub rem_negative_divisor : effect Rem 7 0xFFFFFFFFFFFFFFFE 0 0 ≡ Sets 1
rem_negative_divisor = refl

pub rem_by_zero : effect Rem 0xFFFFFFFFFFFFFFFB 0 0 0 ≡ Sets 0xFFFFFFFFFFFFFFFB
rem_by_zero = refl

-- the least number divided by -1
pub rem_overflows : effect Rem 0x8000000000000000 0xFFFFFFFFFFFFFFFF 0 0 ≡ Sets 0
rem_overflows = refl

pub remu_unsigned : effect Remu 0xFFFFFFFFFFFFFFFF 0xA 0 0 ≡ Sets 5
remu_unsigned = refl

pub remu_by_zero : effect Remu 0xFFFFFFFFFFFFFFFF 0 0 0 ≡ Sets 0xFFFFFFFFFFFFFFFF
remu_by_zero = refl

pub addw_extends : effect Addw 0x7FFFFFFF 1 0 0 ≡ Sets 0xFFFFFFFF80000000
addw_extends = refl

pub addw_drops_upper : effect Addw 0x123400000005 6 0 0 ≡ Sets 0xB
addw_drops_upper = refl

pub subw_extends : effect Subw 0 1 0 0 ≡ Sets 0xFFFFFFFFFFFFFFFF
subw_extends = refl

pub subw_wraps : effect Subw 0x80000000 1 0 0 ≡ Sets 0x7FFFFFFF
subw_wraps = refl

pub addi_negative : effect Addi 5 0 0 0xFFFFFFFFFFFFFFF8 ≡ Sets 0xFFFFFFFFFFFFFFFD
addi_negative = refl

pub slti_signed : effect Slti 0xFFFFFFFFFFFFFFF7 0 0 0xFFFFFFFFFFFFFFF8 ≡ Sets 1
slti_signed = refl

pub sltiu_extends_first : effect Sltiu 5 0 0 0xFFFFFFFFFFFFFFFF ≡ Sets 1
sltiu_extends_first = refl

pub xori_negates : effect Xori 0xF 0 0 0xFFFFFFFFFFFFFFFF ≡ Sets 0xFFFFFFFFFFFFFFF0
xori_negates = refl

pub ori_extends : effect Ori 0 0 0 0xFFFFFFFFFFFFF800 ≡ Sets 0xFFFFFFFFFFFFF800
ori_extends = refl

pub andi_extends : effect Andi 0xFFFFFFFFFFFFFFFF 0 0 0xFFFFFFFFFFFFFFF0 ≡ Sets 0xFFFFFFFFFFFFFFF0
andi_extends = refl

pub slli_by_63 : effect Slli 3 0 0 0x3F ≡ Sets 0x8000000000000000
slli_by_63 = refl

pub srli_by_63 : effect Srli 0xFFFFFFFFFFFFFFFF 0 0 0x3F ≡ Sets 1
srli_by_63 = refl

pub srai_by_63 : effect Srai 0x8000000000000000 0 0 0x3F ≡ Sets 0xFFFFFFFFFFFFFFFF
srai_by_63 = refl

pub srai_positive : effect Srai 8 0 0 1 ≡ Sets 4
srai_positive = refl

pub addiw_extends : effect Addiw 0x7FFFFFFF 0 0 1 ≡ Sets 0xFFFFFFFF80000000
addiw_extends = refl

pub addiw_negative : effect Addiw 0 0 0 0xFFFFFFFFFFFFFFFF ≡ Sets 0xFFFFFFFFFFFFFFFF
addiw_negative = refl

pub ld_address : effect Ld 0x10 0 0 0xFFFFFFFFFFFFFFF8 ≡ Loads 8
ld_address = refl

pub lbu_address : effect Lbu 0x10 0 0 0xFFFFFFFFFFFFFFFD ≡ LoadsByte 13
lbu_address = refl

-- the lowest bit of the sum is dropped
pub jalr_even : effect Jalr 0x1003 0 0 0xFFFFFFFFFFFFFFFE ≡ LinksTo 0x1000
jalr_even = refl

pub sd_address : effect Sd 0xFFFFFFFFFFFFFFFF 0x4D 0 9 ≡ Stores 8 77
sd_address = refl

pub beq_taken : effect Beq 5 5 0 0x10 ≡ Branches true 16
beq_taken = refl

pub beq_not_taken : effect Beq 5 6 0 0x10 ≡ Branches false 16
beq_not_taken = refl

pub bne_taken : effect Bne 5 6 0 0x10 ≡ Branches true 16
bne_taken = refl

pub bne_not_taken : effect Bne 5 5 0 0x10 ≡ Branches false 16
bne_not_taken = refl

pub blt_taken : effect Blt 0xFFFFFFFFFFFFFFFF 0 0 0x10 ≡ Branches true 16
blt_taken = refl

pub blt_not_taken : effect Blt 0 0xFFFFFFFFFFFFFFFF 0 0x10 ≡ Branches false 16
blt_not_taken = refl

pub bge_taken : effect Bge 0 0xFFFFFFFFFFFFFFFF 0 0x10 ≡ Branches true 16
bge_taken = refl

pub bge_not_taken : effect Bge 0xFFFFFFFFFFFFFFFF 0 0 0x10 ≡ Branches false 16
bge_not_taken = refl

pub bltu_taken : effect Bltu 0 0xFFFFFFFFFFFFFFFF 0 0x10 ≡ Branches true 16
bltu_taken = refl

pub bltu_not_taken : effect Bltu 0xFFFFFFFFFFFFFFFF 0 0 0x10 ≡ Branches false 16
bltu_not_taken = refl

pub bgeu_taken : effect Bgeu 0xFFFFFFFFFFFFFFFF 0 0 0x10 ≡ Branches true 16
bgeu_taken = refl

pub bgeu_not_taken : effect Bgeu 0 0xFFFFFFFFFFFFFFFF 0 0x10 ≡ Branches false 16
bgeu_not_taken = refl

pub bge_equal : effect Bge 7 7 0 0x10 ≡ Branches true 16
bge_equal = refl

pub bgeu_equal : effect Bgeu 7 7 0 0x10 ≡ Branches true 16
bgeu_equal = refl

pub lui_positive : effect Lui 0 0 0 0x12345 ≡ Sets 0x12345000
lui_positive = refl

pub lui_extends : effect Lui 0 0 0 0xFFFFF ≡ Sets 0xFFFFFFFFFFFFF000
lui_extends = refl

pub auipc_extends : effect Auipc 0 0 0 0x80000 ≡ AddsPc 0xFFFFFFFF80000000
auipc_extends = refl

pub jal_offset : effect Jal 0 0 0 0xFFFFFFFFFFFFFFFC ≡ Links 0xFFFFFFFFFFFFFFFC
jal_offset = refl

pub amoadd_adds : effect AmoaddD 0x40 3 0 0 ≡ Adds 64 3
amoadd_adds = refl

pub amoswap_swaps : effect AmoswapD 0x40 3 0 0 ≡ Swaps 64 3
amoswap_swaps = refl

pub amoand_masks : effect AmoandD 0x40 3 0 0 ≡ Masks 64 3
amoand_masks = refl

-- the expected value is that of `rd`
pub amocas_expects_rd : effect AmocasD 0x40 3 9 0 ≡ Exchanges 64 9 3
amocas_expects_rd = refl

pub ecall_calls : effect Ecall 1 2 3 4 ≡ Calls
ecall_calls = refl
