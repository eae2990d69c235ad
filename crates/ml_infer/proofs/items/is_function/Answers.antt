use Rattle.std.proofs.Common.{◌≡◌, ◌∙◌, ◌-◌, ◌+◌, sym, Ok, Err, arith}
use Rattle.ml_infer.specs.Items.{literal_at}
use Rattle.ml_infer.proofs.Literals.{function_told, function_behind, function_none}
use Rattle.ml_infer.proofs.items.is_function.Goals as goal

pub returns-in-Ok : goal.returns-in-Ok
returns-in-Ok c =
    let told : literal_at c.args.arena.now c.loop-annotation.at ≡ Ok c.in-Ok.is' = cc (c.literal_at.ensures, c.in-Ok.is) in
    sym (function_told (4294967295 - c.loop-annotation._annotation) (4294967295 - (c.loop-annotation._annotation + 1)) c.args.arena.now
    c.loop-annotation.at c.in-Ok.is' (omega arith) told)
    ∙ c.loop-annotation.invariant

pub loop-annotation-preserved : goal.loop-annotation-preserved
loop-annotation-preserved c =
    let told : literal_at c.args.arena.now c.loop-annotation.at ≡ Err c.in-Err.inner = cc (c.literal_at.ensures, c.in-Err.is) in
    function_behind (4294967295 - c.loop-annotation._annotation) (4294967295 - (c.loop-annotation._annotation + 1)) c.args.arena.now
    c.loop-annotation.at c.in-Err.inner (omega arith) told
    ∙ c.loop-annotation.invariant

pub returns : goal.returns
returns c =
    sym (function_none (4294967295 - c.loop-annotation._annotation) c.args.arena.now c.loop-annotation.at (omega arith)) ∙ c.loop-annotation.invariant
