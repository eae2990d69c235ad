-- The built-in types.
use Rattle.std.proofs.Common.{ℕ, zero, suc, refl, arith}
use Rattle.type_graph.specs.Graph.{built_in, node_at}
use Rattle.type_readings.specs.WellFormed.{NamesWhatIsThere, IsRoot}
use Rattle.type_readings.specs.Laws.{BuiltInIsWellFormed}

-- each number is a root
built_in_root : (n : ℕ) → IsRoot built_in.nodes n
built_in_root zero = refl
built_in_root (suc zero) = refl
built_in_root (suc (suc zero)) = refl
built_in_root (suc (suc (suc zero))) = refl
built_in_root (suc (suc (suc (suc zero)))) = refl
built_in_root (suc (suc (suc (suc (suc zero))))) = refl
built_in_root (suc (suc (suc (suc (suc (suc n)))))) = refl

-- without arguments
built_in_names : (n : ℕ) → NamesWhatIsThere 6 0 (node_at built_in.nodes n).form
built_in_names zero = omega arith
built_in_names (suc zero) = omega arith
built_in_names (suc (suc zero)) = omega arith
built_in_names (suc (suc (suc zero))) = omega arith
built_in_names (suc (suc (suc (suc zero)))) = omega arith
built_in_names (suc (suc (suc (suc (suc zero))))) = omega arith
built_in_names (suc (suc (suc (suc (suc (suc n)))))) = tt

pub built_in_law : BuiltInIsWellFormed
built_in_law = record {
  room = omega arith;
  argument_room = omega arith;
  names = built_in_names;
  numbers = tt;
  ends = λ n. record { links = 0; end = n; leads = refl; is_root = built_in_root n; is_short = omega arith };
  weighs = omega arith;
}
