-- Continuations. Each definition stands in front of the lines that follow.
use Rattle.std.specs.Prelude.{pos, List, ◌∷◌}
use Rattle.rv_model.specs.declared.line.Line.{Line}
use Rattle.rt_layout.specs.declared.registers.TheConstants.{A0, A2, A3, CUR, LINK, LINK2, ZERO}
use Rattle.rt_layout.specs.declared.blocks.TheConstants.{K_INNER, K_OUTER, TAG_CONT}
use Rattle.rt_layout.specs.declared.statics.TheConstants.{EXN_CONTINUATION_ALREADY_RESUMED}
use Rattle.rt_layout.specs.declared.labels.TheConstants.{MAKE_CONT, TAKEN_BEFORE, TAKE_CONT}
use Rattle.rt_layout.specs.Block.{header_of}
use Rattle.rt_layout.specs.Assembly.{amoswap, beq, jr, label, sd}
use Rattle.rt_layout.specs.Allocation.{new_block_lines}
use Rattle.rt_layout.specs.Shared.{raise_plain_lines}

-- makes a continuation of the innermost fiber x14 and the outermost fiber x13: x12; linked by x31
abbrev pub make_cont_lines : List Line → List Line
make_cont_lines tail =
    label MAKE_CONT
    ∷ new_block_lines A2 4 (header_of 3 TAG_CONT) (
    sd CUR K_INNER A2
    ∷ sd A3 K_OUTER A2
    ∷ jr LINK2 (pos 0)
    ∷ tail)

-- takes the continuation x10: its innermost fiber is x13; linked by x5
abbrev pub take_cont_lines : List Line → List Line
take_cont_lines tail =
    label TAKE_CONT
    ∷ amoswap A3 ZERO A0
    ∷ beq A3 ZERO TAKEN_BEFORE
    ∷ jr LINK (pos 0)
    ∷ tail

-- it was taken before
abbrev pub taken_before_lines : List Line → List Line
taken_before_lines tail =
    label TAKEN_BEFORE
    ∷ raise_plain_lines EXN_CONTINUATION_ALREADY_RESUMED tail

-- all routines
abbrev pub continuation_words_lines : List Line → List Line
continuation_words_lines tail = make_cont_lines (take_cont_lines (taken_before_lines tail))
