use Rattle.std.proofs.Common.{◌∙◌, refl}
use Rattle.runner_bench.proofs.Places.{bench_runs}
use Rattle.runner_bench.proofs.program.loop_image.Goals as goal

pub returns-clause-runs : goal.returns-clause-runs
returns-clause-runs c = bench_runs _ c.args.count c.gate_word.result c.in_ok-code.ensures refl c.requires.out (c.from_vec.ensures ∙ c.in_ok-start.ensures)
