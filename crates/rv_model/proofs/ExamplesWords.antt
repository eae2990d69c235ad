-- Worked words: an instruction and its word, both ways. They hold by computation.
use Rattle.std.proofs.Common.{◌≡◌, ℕ, pos, negsuc, true, false, List, [], ◌∷◌, Some, None, refl}
use Rattle.rv_model.specs.declared.instr.Op.TheVariants.{Add, Sub, Sll, Slt, Sltu, Xor, Srl, Sra, Or, And, Mul, Mulh, Mulhsu, Mulhu, Div, Divu, Rem, Remu, Addw, Subw, Addi, Slti, Sltiu, Xori, Ori, Andi, Slli, Srli, Srai, Addiw, Ld, Lbu, Jalr, Sd, Beq, Bne, Blt, Bge, Bltu, Bgeu, Lui, Auipc, Jal, AmoaddD, AmoswapD, AmoandD, AmocasD, Ecall}
use Rattle.rv_model.specs.declared.instr.Instr.{Instr}
use Rattle.rv_model.specs.Table.{bits_of, bytes_of, decoded, decoded_among}

-- an instruction has this word, and the word has this instruction
abbrev pub IsWordOf : ℕ → Instr → Type 0
IsWordOf w i = (bits_of i ≡ w) × (decoded w ≡ Some i)

-- and the word has these bytes
abbrev pub AreBytesOf : List ℕ → ℕ → Instr → Type 0
AreBytesOf bytes w i = IsWordOf w i × (bytes_of w ≡ bytes)

-- `addi x10, x0, 7`
pub addi_seven : AreBytesOf (0x13 ∷ 0x05 ∷ 0x70 ∷ 0x00 ∷ []) 0x00700513 (record { op = Addi; rd = 10; rs1 = 0; rs2 = 0; imm = pos 7; aq = false; rl = false })
unfolding decoded_among
addi_seven = ((refl, refl), refl)

-- `ld x5, 8(x2)`
pub ld_above : AreBytesOf (0x83 ∷ 0x32 ∷ 0x81 ∷ 0x00 ∷ []) 0x00813283 (record { op = Ld; rd = 5; rs1 = 2; rs2 = 0; imm = pos 8; aq = false; rl = false })
unfolding decoded_among
ld_above = ((refl, refl), refl)

-- `sd x5, 8(x2)`
pub sd_above : AreBytesOf (0x23 ∷ 0x34 ∷ 0x51 ∷ 0x00 ∷ []) 0x00513423 (record { op = Sd; rd = 0; rs1 = 2; rs2 = 5; imm = pos 8; aq = false; rl = false })
unfolding decoded_among
sd_above = ((refl, refl), refl)

-- `mul x5, x6, x7`
pub mul_registers : AreBytesOf (0xB3 ∷ 0x02 ∷ 0x73 ∷ 0x02 ∷ []) 0x027302B3 (record { op = Mul; rd = 5; rs1 = 6; rs2 = 7; imm = pos 0; aq = false; rl = false })
unfolding decoded_among
mul_registers = ((refl, refl), refl)

-- `srai x5, x5, 1`
pub srai_one : AreBytesOf (0x93 ∷ 0xD2 ∷ 0x12 ∷ 0x40 ∷ []) 0x4012D293 (record { op = Srai; rd = 5; rs1 = 5; rs2 = 0; imm = pos 1; aq = false; rl = false })
unfolding decoded_among
srai_one = ((refl, refl), refl)

-- `addiw x5, x5, -1`
pub addiw_minus_one : AreBytesOf (0x9B ∷ 0x82 ∷ 0xF2 ∷ 0xFF ∷ []) 0xFFF2829B (record { op = Addiw; rd = 5; rs1 = 5; rs2 = 0; imm = negsuc 0; aq = false; rl = false })
unfolding decoded_among
addiw_minus_one = ((refl, refl), refl)

-- `beq x1, x2, 8`
pub beq_forward : AreBytesOf (0x63 ∷ 0x84 ∷ 0x20 ∷ 0x00 ∷ []) 0x00208463 (record { op = Beq; rd = 0; rs1 = 1; rs2 = 2; imm = pos 8; aq = false; rl = false })
unfolding decoded_among
beq_forward = ((refl, refl), refl)

-- `jal x0, -4`
pub jal_back : AreBytesOf (0x6F ∷ 0xF0 ∷ 0xDF ∷ 0xFF ∷ []) 0xFFDFF06F (record { op = Jal; rd = 0; rs1 = 0; rs2 = 0; imm = negsuc 3; aq = false; rl = false })
unfolding decoded_among
jal_back = ((refl, refl), refl)

-- `lui x5, 74565`
pub lui_digits : AreBytesOf (0xB7 ∷ 0x52 ∷ 0x34 ∷ 0x12 ∷ []) 0x123452B7 (record { op = Lui; rd = 5; rs1 = 0; rs2 = 0; imm = pos 74565; aq = false; rl = false })
unfolding decoded_among
lui_digits = ((refl, refl), refl)

-- `amoswap.d x10, x11, (x12)`
pub amoswap_unordered : AreBytesOf (0x2F ∷ 0x35 ∷ 0xB6 ∷ 0x08 ∷ []) 0x08B6352F (record { op = AmoswapD; rd = 10; rs1 = 12; rs2 = 11; imm = pos 0; aq = false; rl = false })
unfolding decoded_among
amoswap_unordered = ((refl, refl), refl)

-- `amoswap.d.aqrl x10, x11, (x12)`
pub amoswap_ordered : AreBytesOf (0x2F ∷ 0x35 ∷ 0xB6 ∷ 0x0E ∷ []) 0x0EB6352F (record { op = AmoswapD; rd = 10; rs1 = 12; rs2 = 11; imm = pos 0; aq = true; rl = true })
unfolding decoded_among
amoswap_ordered = ((refl, refl), refl)

-- `amocas.d x10, x11, (x12)`
pub amocas_unordered : AreBytesOf (0x2F ∷ 0x35 ∷ 0xB6 ∷ 0x28 ∷ []) 0x28B6352F (record { op = AmocasD; rd = 10; rs1 = 12; rs2 = 11; imm = pos 0; aq = false; rl = false })
unfolding decoded_among
amocas_unordered = ((refl, refl), refl)

-- the word 0 is no instruction
pub no_instruction : (decoded 0x00000000 ≡ None) × (bytes_of 0x00000000 ≡ 0x00 ∷ 0x00 ∷ 0x00 ∷ 0x00 ∷ [])
unfolding decoded_among
no_instruction = (refl, refl)

-- `add x31, x17, x9`
pub word_of_add : IsWordOf 0x00988FB3 (record { op = Add; rd = 31; rs1 = 17; rs2 = 9; imm = pos 0; aq = false; rl = false })
unfolding decoded_among
word_of_add = (refl, refl)

-- `sub x31, x17, x9`
pub word_of_sub : IsWordOf 0x40988FB3 (record { op = Sub; rd = 31; rs1 = 17; rs2 = 9; imm = pos 0; aq = false; rl = false })
unfolding decoded_among
word_of_sub = (refl, refl)

-- `sll x31, x17, x9`
pub word_of_sll : IsWordOf 0x00989FB3 (record { op = Sll; rd = 31; rs1 = 17; rs2 = 9; imm = pos 0; aq = false; rl = false })
unfolding decoded_among
word_of_sll = (refl, refl)

-- `slt x31, x17, x9`
pub word_of_slt : IsWordOf 0x0098AFB3 (record { op = Slt; rd = 31; rs1 = 17; rs2 = 9; imm = pos 0; aq = false; rl = false })
unfolding decoded_among
word_of_slt = (refl, refl)

-- `sltu x31, x17, x9`
pub word_of_sltu : IsWordOf 0x0098BFB3 (record { op = Sltu; rd = 31; rs1 = 17; rs2 = 9; imm = pos 0; aq = false; rl = false })
unfolding decoded_among
word_of_sltu = (refl, refl)

-- `xor x31, x17, x9`
pub word_of_xor : IsWordOf 0x0098CFB3 (record { op = Xor; rd = 31; rs1 = 17; rs2 = 9; imm = pos 0; aq = false; rl = false })
unfolding decoded_among
word_of_xor = (refl, refl)

-- `srl x31, x17, x9`
pub word_of_srl : IsWordOf 0x0098DFB3 (record { op = Srl; rd = 31; rs1 = 17; rs2 = 9; imm = pos 0; aq = false; rl = false })
unfolding decoded_among
word_of_srl = (refl, refl)

-- `sra x31, x17, x9`
pub word_of_sra : IsWordOf 0x4098DFB3 (record { op = Sra; rd = 31; rs1 = 17; rs2 = 9; imm = pos 0; aq = false; rl = false })
unfolding decoded_among
word_of_sra = (refl, refl)

-- `or x31, x17, x9`
pub word_of_or : IsWordOf 0x0098EFB3 (record { op = Or; rd = 31; rs1 = 17; rs2 = 9; imm = pos 0; aq = false; rl = false })
unfolding decoded_among
word_of_or = (refl, refl)

-- `and x31, x17, x9`
pub word_of_and : IsWordOf 0x0098FFB3 (record { op = And; rd = 31; rs1 = 17; rs2 = 9; imm = pos 0; aq = false; rl = false })
unfolding decoded_among
word_of_and = (refl, refl)

-- `mul x31, x17, x9`
pub word_of_mul : IsWordOf 0x02988FB3 (record { op = Mul; rd = 31; rs1 = 17; rs2 = 9; imm = pos 0; aq = false; rl = false })
unfolding decoded_among
word_of_mul = (refl, refl)

-- `mulh x31, x17, x9`
pub word_of_mulh : IsWordOf 0x02989FB3 (record { op = Mulh; rd = 31; rs1 = 17; rs2 = 9; imm = pos 0; aq = false; rl = false })
unfolding decoded_among
word_of_mulh = (refl, refl)

-- `mulhsu x31, x17, x9`
pub word_of_mulhsu : IsWordOf 0x0298AFB3 (record { op = Mulhsu; rd = 31; rs1 = 17; rs2 = 9; imm = pos 0; aq = false; rl = false })
unfolding decoded_among
word_of_mulhsu = (refl, refl)

-- `mulhu x31, x17, x9`
pub word_of_mulhu : IsWordOf 0x0298BFB3 (record { op = Mulhu; rd = 31; rs1 = 17; rs2 = 9; imm = pos 0; aq = false; rl = false })
unfolding decoded_among
word_of_mulhu = (refl, refl)

-- `div x31, x17, x9`
pub word_of_div : IsWordOf 0x0298CFB3 (record { op = Div; rd = 31; rs1 = 17; rs2 = 9; imm = pos 0; aq = false; rl = false })
unfolding decoded_among
word_of_div = (refl, refl)

-- `divu x31, x17, x9`
pub word_of_divu : IsWordOf 0x0298DFB3 (record { op = Divu; rd = 31; rs1 = 17; rs2 = 9; imm = pos 0; aq = false; rl = false })
unfolding decoded_among
word_of_divu = (refl, refl)

-- `rem x31, x17, x9`
pub word_of_rem : IsWordOf 0x0298EFB3 (record { op = Rem; rd = 31; rs1 = 17; rs2 = 9; imm = pos 0; aq = false; rl = false })
unfolding decoded_among
word_of_rem = (refl, refl)

-- `remu x31, x17, x9`
pub word_of_remu : IsWordOf 0x0298FFB3 (record { op = Remu; rd = 31; rs1 = 17; rs2 = 9; imm = pos 0; aq = false; rl = false })
unfolding decoded_among
word_of_remu = (refl, refl)

-- `addw x31, x17, x9`
pub word_of_addw : IsWordOf 0x00988FBB (record { op = Addw; rd = 31; rs1 = 17; rs2 = 9; imm = pos 0; aq = false; rl = false })
unfolding decoded_among
word_of_addw = (refl, refl)

-- `subw x31, x17, x9`
pub word_of_subw : IsWordOf 0x40988FBB (record { op = Subw; rd = 31; rs1 = 17; rs2 = 9; imm = pos 0; aq = false; rl = false })
unfolding decoded_among
word_of_subw = (refl, refl)

-- `addi x31, x17, -3`
pub word_of_addi : IsWordOf 0xFFD88F93 (record { op = Addi; rd = 31; rs1 = 17; rs2 = 0; imm = negsuc 2; aq = false; rl = false })
unfolding decoded_among
word_of_addi = (refl, refl)

-- `slti x31, x17, -2048`
pub word_of_slti : IsWordOf 0x8008AF93 (record { op = Slti; rd = 31; rs1 = 17; rs2 = 0; imm = negsuc 2047; aq = false; rl = false })
unfolding decoded_among
word_of_slti = (refl, refl)

-- `sltiu x31, x17, -3`
pub word_of_sltiu : IsWordOf 0xFFD8BF93 (record { op = Sltiu; rd = 31; rs1 = 17; rs2 = 0; imm = negsuc 2; aq = false; rl = false })
unfolding decoded_among
word_of_sltiu = (refl, refl)

-- `xori x31, x17, -2048`
pub word_of_xori : IsWordOf 0x8008CF93 (record { op = Xori; rd = 31; rs1 = 17; rs2 = 0; imm = negsuc 2047; aq = false; rl = false })
unfolding decoded_among
word_of_xori = (refl, refl)

-- `ori x31, x17, -3`
pub word_of_ori : IsWordOf 0xFFD8EF93 (record { op = Ori; rd = 31; rs1 = 17; rs2 = 0; imm = negsuc 2; aq = false; rl = false })
unfolding decoded_among
word_of_ori = (refl, refl)

-- `andi x31, x17, -2048`
pub word_of_andi : IsWordOf 0x8008FF93 (record { op = Andi; rd = 31; rs1 = 17; rs2 = 0; imm = negsuc 2047; aq = false; rl = false })
unfolding decoded_among
word_of_andi = (refl, refl)

-- `slli x31, x17, 63`
pub word_of_slli : IsWordOf 0x03F89F93 (record { op = Slli; rd = 31; rs1 = 17; rs2 = 0; imm = pos 63; aq = false; rl = false })
unfolding decoded_among
word_of_slli = (refl, refl)

-- `srli x31, x17, 63`
pub word_of_srli : IsWordOf 0x03F8DF93 (record { op = Srli; rd = 31; rs1 = 17; rs2 = 0; imm = pos 63; aq = false; rl = false })
unfolding decoded_among
word_of_srli = (refl, refl)

-- `srai x31, x17, 63`
pub word_of_srai : IsWordOf 0x43F8DF93 (record { op = Srai; rd = 31; rs1 = 17; rs2 = 0; imm = pos 63; aq = false; rl = false })
unfolding decoded_among
word_of_srai = (refl, refl)

-- `addiw x31, x17, -2048`
pub word_of_addiw : IsWordOf 0x80088F9B (record { op = Addiw; rd = 31; rs1 = 17; rs2 = 0; imm = negsuc 2047; aq = false; rl = false })
unfolding decoded_among
word_of_addiw = (refl, refl)

-- `ld x31, -3(x17)`
pub word_of_ld : IsWordOf 0xFFD8BF83 (record { op = Ld; rd = 31; rs1 = 17; rs2 = 0; imm = negsuc 2; aq = false; rl = false })
unfolding decoded_among
word_of_ld = (refl, refl)

-- `lbu x31, -2048(x17)`
pub word_of_lbu : IsWordOf 0x8008CF83 (record { op = Lbu; rd = 31; rs1 = 17; rs2 = 0; imm = negsuc 2047; aq = false; rl = false })
unfolding decoded_among
word_of_lbu = (refl, refl)

-- `jalr x31, -3(x17)`
pub word_of_jalr : IsWordOf 0xFFD88FE7 (record { op = Jalr; rd = 31; rs1 = 17; rs2 = 0; imm = negsuc 2; aq = false; rl = false })
unfolding decoded_among
word_of_jalr = (refl, refl)

-- `sd x9, -1234(x17)`
pub word_of_sd : IsWordOf 0xB298B723 (record { op = Sd; rd = 0; rs1 = 17; rs2 = 9; imm = negsuc 1233; aq = false; rl = false })
unfolding decoded_among
word_of_sd = (refl, refl)

-- `beq x17, x9, -4096`
pub word_of_beq : IsWordOf 0x80988063 (record { op = Beq; rd = 0; rs1 = 17; rs2 = 9; imm = negsuc 4095; aq = false; rl = false })
unfolding decoded_among
word_of_beq = (refl, refl)

-- `bne x17, x9, 4094`
pub word_of_bne : IsWordOf 0x7E989FE3 (record { op = Bne; rd = 0; rs1 = 17; rs2 = 9; imm = pos 4094; aq = false; rl = false })
unfolding decoded_among
word_of_bne = (refl, refl)

-- `blt x17, x9, -1366`
pub word_of_blt : IsWordOf 0xAA98C5E3 (record { op = Blt; rd = 0; rs1 = 17; rs2 = 9; imm = negsuc 1365; aq = false; rl = false })
unfolding decoded_among
word_of_blt = (refl, refl)

-- `bge x17, x9, -4096`
pub word_of_bge : IsWordOf 0x8098D063 (record { op = Bge; rd = 0; rs1 = 17; rs2 = 9; imm = negsuc 4095; aq = false; rl = false })
unfolding decoded_among
word_of_bge = (refl, refl)

-- `bltu x17, x9, -1366`
pub word_of_bltu : IsWordOf 0xAA98E5E3 (record { op = Bltu; rd = 0; rs1 = 17; rs2 = 9; imm = negsuc 1365; aq = false; rl = false })
unfolding decoded_among
word_of_bltu = (refl, refl)

-- `bgeu x17, x9, -1366`
pub word_of_bgeu : IsWordOf 0xAA98F5E3 (record { op = Bgeu; rd = 0; rs1 = 17; rs2 = 9; imm = negsuc 1365; aq = false; rl = false })
unfolding decoded_among
word_of_bgeu = (refl, refl)

-- `lui x31, 1043915`
pub word_of_lui : IsWordOf 0xFEDCBFB7 (record { op = Lui; rd = 31; rs1 = 0; rs2 = 0; imm = pos 1043915; aq = false; rl = false })
unfolding decoded_among
word_of_lui = (refl, refl)

-- `auipc x31, 1043915`
pub word_of_auipc : IsWordOf 0xFEDCBF97 (record { op = Auipc; rd = 31; rs1 = 0; rs2 = 0; imm = pos 1043915; aq = false; rl = false })
unfolding decoded_among
word_of_auipc = (refl, refl)

-- `jal x31, -699050`
pub word_of_jal : IsWordOf 0xD5655FEF (record { op = Jal; rd = 31; rs1 = 0; rs2 = 0; imm = negsuc 699049; aq = false; rl = false })
unfolding decoded_among
word_of_jal = (refl, refl)

-- `amoadd.d x31, x9, (x17)`
pub word_of_amoaddd : IsWordOf 0x0098BFAF (record { op = AmoaddD; rd = 31; rs1 = 17; rs2 = 9; imm = pos 0; aq = false; rl = false })
unfolding decoded_among
word_of_amoaddd = (refl, refl)

-- `amoswap.d.aq x31, x9, (x17)`
pub word_of_amoswapd : IsWordOf 0x0C98BFAF (record { op = AmoswapD; rd = 31; rs1 = 17; rs2 = 9; imm = pos 0; aq = true; rl = false })
unfolding decoded_among
word_of_amoswapd = (refl, refl)

-- `amoand.d.rl x31, x9, (x17)`
pub word_of_amoandd : IsWordOf 0x6298BFAF (record { op = AmoandD; rd = 31; rs1 = 17; rs2 = 9; imm = pos 0; aq = false; rl = true })
unfolding decoded_among
word_of_amoandd = (refl, refl)

-- `amocas.d.aq x31, x9, (x17)`
pub word_of_amocasd : IsWordOf 0x2C98BFAF (record { op = AmocasD; rd = 31; rs1 = 17; rs2 = 9; imm = pos 0; aq = true; rl = false })
unfolding decoded_among
word_of_amocasd = (refl, refl)

-- `ecall`
pub word_of_ecall : IsWordOf 0x00000073 (record { op = Ecall; rd = 0; rs1 = 0; rs2 = 0; imm = pos 0; aq = false; rl = false })
unfolding decoded_among
word_of_ecall = (refl, refl)

-- EBREAK
pub none_00100073 : decoded 0x00100073 ≡ None
unfolding decoded_among
none_00100073 = refl

-- no such load
pub none_00007003 : decoded 0x00007003 ≡ None
unfolding decoded_among
none_00007003 = refl

-- no such branch
pub none_00002063 : decoded 0x00002063 ≡ None
unfolding decoded_among
none_00002063 = refl

-- no such funct7
pub none_04000033 : decoded 0x04000033 ≡ None
unfolding decoded_among
none_04000033 = refl

-- a shift whose upper six bits are none of the three
pub none_80009013 : decoded 0x80009013 ≡ None
unfolding decoded_among
none_80009013 = refl
