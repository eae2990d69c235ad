use Rattle.std.proofs.Common.{◌∙◌, ◌/◌, ◌%◌, sym, ap}
use Rattle.rv_model.specs.Machine.{part_of}
use Rattle.rv_step.proofs.Parts.{bits_before}
use Rattle.rv_step.proofs.instruction.part_of.Goals as goal

pub returns-in-Byte : goal.returns-in-Byte
returns-in-Byte c =
    ap (λ n. c.args.word / n % 256) (c.power.ensures ∙ sym (bits_before c.in-Byte.number))
    ∙ ap (λ p. part_of p c.args.word) (sym c.in-Byte.is)
