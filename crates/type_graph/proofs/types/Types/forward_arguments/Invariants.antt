use Rattle.std.proofs.Common.{◌≡◌, ◌-◌}
use Rattle.type_graph.specs.Copied.{forwarded_arguments}
use Rattle.type_graph.proofs.types.Types.forward_arguments.Given as goal

-- what comes of the arguments that are left comes of all
abbrev pub invariant-loop-place : goal.invariant-loop-place
invariant-loop-place l =
    forwarded_arguments (l.count - l.place) l.base l.form l.place l.self ≡ forwarded_arguments l.count l.base l.form 0 l.fn.self
