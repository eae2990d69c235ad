use Rattle.std.proofs.Common.{ap, ◌∙◌}
use Rattle.rv_model.specs.Format.{packed}
use Rattle.rv_model.specs.Table.{decoded}
use Rattle.rv_model.proofs.Decoding.{decoded-bits_of}
use Rattle.rv_table.proofs.table.encode.Goals as goal

-- a well-formed instruction is decoded from its word
pub returns-clause-back : goal.returns-clause-back
returns-clause-back c = ap decoded (c.packed.ensures ∙ ap packed c.parts_of_instr.ensures) ∙ decoded-bits_of c.args.instr.now c.requires
