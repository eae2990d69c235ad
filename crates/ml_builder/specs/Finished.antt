-- A form that is read to its end.
use Rattle.std.specs.Prelude.{ℕ, List, [], ◌∷◌, ◌++◌, length, Option, Some}
use Rattle.ml_syntax.specs.declared.node.Node.{Node}

-- one more node, whose number is on top
abbrev pub finished : Node → List ℕ → List Node → Option (List ℕ × List Node)
finished n ks ns = Some (length ns ∷ ks, ns ++ n ∷ [])

-- the same, where something of another stack is left
abbrev pub finished_of : {A : Type 0} → Node → A → List ℕ → List Node → Option (A × List ℕ × List Node)
finished_of n rest ks ns = Some (rest, length ns ∷ ks, ns ++ n ∷ [])
