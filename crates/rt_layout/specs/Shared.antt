-- The lines that several routines have in common. Each definition stands in front of the lines that follow.
use Rattle.std.specs.Prelude.{ℕ, ℤ, pos, List, ◌∷◌}
use Rattle.rv_model.specs.declared.line.Line.{Line}
use Rattle.rt_layout.specs.declared.registers.TheConstants.{RA, SP, FIBER, LINK, LINK3, T0, EXN, LIMIT, A1, A2, CUR, AUX, NEW, STATIC}
use Rattle.rt_layout.specs.declared.blocks.TheConstants.{UNIT}
use Rattle.rt_layout.specs.declared.stacks.TheConstants.{F_SP, F_RA, F_EXN, F_LIMIT, SP_START, BASE_EXN}
use Rattle.rt_layout.specs.declared.labels.TheConstants.{RAISE_NEW, ROOT_EXN, NEW_FIBER}
use Rattle.rt_layout.specs.Block.{tagged_of}
use Rattle.rt_layout.specs.Assembly.{li, code, jump, call, jr, mv, ld, sd, addi}

-- the running fiber's registers go into its stack
abbrev pub save_lines : List Line → List Line
save_lines tail = sd SP F_SP FIBER ∷ sd RA F_RA FIBER ∷ sd EXN F_EXN FIBER ∷ tail

-- the registers of the fiber in x3 come from its stack
abbrev pub load_lines : List Line → List Line
load_lines tail = ld SP F_SP FIBER ∷ ld RA F_RA FIBER ∷ ld EXN F_EXN FIBER ∷ ld LIMIT F_LIMIT FIBER ∷ tail

-- the fiber in x30, which has no frames, is the running one
abbrev pub enter_lines : List Line → List Line
enter_lines tail = mv FIBER NEW ∷ addi SP FIBER SP_START ∷ li EXN BASE_EXN ∷ ld LIMIT F_LIMIT FIBER ∷ tail

-- a fiber without parent and handler is the running one
abbrev pub root_fiber_lines : List Line → List Line
root_fiber_lines tail = li A2 0 ∷ li CUR 0 ∷ code T0 ROOT_EXN ∷ call LINK3 NEW_FIBER ∷ enter_lines tail

-- the closure in x11 is applied to x10
abbrev pub apply_closure_lines : List Line → List Line
apply_closure_lines tail = ld LINK (pos 0) A1 ∷ jr LINK (pos 0) ∷ tail

-- a built-in exception without argument is raised
abbrev pub raise_plain_lines : ℕ → List Line → List Line
raise_plain_lines number tail = li CUR (tagged_of number) ∷ li AUX UNIT ∷ jump RAISE_NEW ∷ tail

-- a built-in exception is raised whose argument is a static text
abbrev pub raise_text_lines : ℕ → ℤ → List Line → List Line
raise_text_lines number text tail = li CUR (tagged_of number) ∷ addi AUX STATIC text ∷ jump RAISE_NEW ∷ tail
