use Rattle.std.proofs.Common.{◌+◌, drop, flat_map, option_and_then, sym, ◌∙◌, ap, rules}
use Rattle.ml_syntax.specs.Depth.{binding_parts, deepest}
use Rattle.ml_syntax.proofs.Deepest.{deepest_step}
use Rattle.ml_syntax.proofs.node_depth.deepest_in_bindings.Goals as goal

pub returns-in_err-most : goal.returns-in_err-most
returns-in_err-most c =
    let rest = drop (c.loop-binding.binding-index + 1) c.args.bindings.now
    in c.from_residual.ensures
    ∙ ap (λ o. option_and_then (λ d. deepest c.args.depths.now d (flat_map binding_parts rest)) o) c.in_err-most.ensures
    ∙ sym (deepest_step binding_parts c.args.depths.now c.loop-binding.most c.args.bindings.now c.loop-binding.binding-index c.binding-item.result (search rules) c.binding-item.is)
    ∙ c.loop-binding.invariant

pub loop-binding-preserved : goal.loop-binding-preserved
loop-binding-preserved c =
    let rest = drop (c.loop-binding.binding-index + 1) c.args.bindings.now
    in ap (λ o. option_and_then (λ d. deepest c.args.depths.now d (flat_map binding_parts rest)) o) c.in_ok-most.ensures
    ∙ sym (deepest_step binding_parts c.args.depths.now c.loop-binding.most c.args.bindings.now c.loop-binding.binding-index c.binding-item.result (search rules) c.binding-item.is)
    ∙ c.loop-binding.invariant
