use Rattle.std.proofs.Common.{◌≡◌, ◌∙◌, ◌+◌, List, drop, slice_index_or, sym, ap, Some, None, arith}
use Rattle.ml_infer.specs.declared.inference.Compared.{Compared}
use Rattle.ml_infer.specs.Verdict.{base_of, bases}
use Rattle.ml_infer.proofs.Bases.{behind, one_compared, other_compared, one_left, all_compared}
use Rattle.ml_infer.proofs.verdict.bases.Goals as goal

-- what an index out of range would give
abbrev nothing : Compared
nothing = record { item = 0; place = record { line = 0; column = 0 }; found = 0 }

pub returns-in-None : goal.returns-in-None
returns-in-None c =
    let cs = c.args.comparisons.now in
    let i = c.loop-comparison.comparison-index in
    let here = slice_index_or cs i nothing in
    let is : base_of c.args.types.now here.found ≡ None = cc (c.base_of.ensures, c.in-None.is) in
    sym (other_compared c.args.types.now c.loop-comparison.found.items here (drop (i + 1) cs) is)
    ∙ ap (λ (xs : List Compared). behind c.loop-comparison.found.items (bases c.args.types.now xs)) (one_left cs i nothing (omega arith))
    ∙ c.loop-comparison.invariant

pub loop-comparison-preserved : goal.loop-comparison-preserved
loop-comparison-preserved c =
    let cs = c.args.comparisons.now in
    let i = c.loop-comparison.comparison-index in
    let here = slice_index_or cs i nothing in
    let is : base_of c.args.types.now here.found ≡ Some c.in-Some.base = cc (c.base_of.ensures, c.in-Some.is) in
    rw c.in_ok-push-in-Some.ensures.items
    (one_compared c.args.types.now c.loop-comparison.found.items c.in-Some.base here (drop (i + 1) cs) is
    ∙ ap (λ (xs : List Compared). behind c.loop-comparison.found.items (bases c.args.types.now xs)) (one_left cs i nothing (omega arith))
    ∙ c.loop-comparison.invariant)

pub returns : goal.returns
returns c =
    rw c.from_vec.ensures
    (sym (all_compared c.args.types.now c.loop-comparison.found.items c.args.comparisons.now c.loop-comparison.comparison-index (omega arith))
    ∙ c.loop-comparison.invariant)
