use Rattle.runner_bench.proofs.Assembling.{bench_are_lines, bench_assembled}
use Rattle.runner_bench.proofs.program.code.Goals as goal

pub assemble-requires : goal.assemble-requires
assemble-requires c = bench_are_lines

pub returns : goal.returns
returns c = bench_assembled c.in_ok-assemble.field-0.code c.in_ok-assemble.field-0.places c.in_ok-assemble.ensures.assembles
