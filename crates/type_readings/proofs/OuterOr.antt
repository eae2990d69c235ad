-- What is outer, or is to be so as one of some types is.
use Rattle.std.proofs.Common.{◌≡◌, ℕ, inl, inr, List, [], ◌∷◌, ◌++◌, refl, sym, ◌∙◌, ap, ⊎_elim}
use Rattle.std.specs.List.{AllByRecursion}
use Rattle.type_graph.specs.Graph.{Graph, node_at, root, form_of, arguments_of}
use Rattle.type_readings.specs.WellFormed.{IsOuter, IsOuterOr}
use Rattle.type_readings.proofs.Lists.{each_so}

pub or_outer : (g : Graph) (ps : List ℕ) (m : ℕ) → IsOuter g m → IsOuterOr g ps m
or_outer g [] m is = is
or_outer g (p ∷ ps) m is = inr (or_outer g ps m is)

-- types of one root are so together
pub or_same_root : (g : Graph) (ps : List ℕ) (m n : ℕ) → root g.nodes m ≡ root g.nodes n → IsOuterOr g ps m → IsOuterOr g ps n
or_same_root g [] m n e is = ap (λ r. (node_at g.nodes r).is_outer) (sym e) ∙ is
or_same_root g (p ∷ ps) m n e is = ⊎_elim (λ x. inl (x ∙ e)) (λ x. inr (or_same_root g ps m n e x)) is

pub or_more : (g : Graph) (qs ps : List ℕ) (m : ℕ) → IsOuterOr g ps m → IsOuterOr g (qs ++ ps) m
or_more g [] ps m is = is
or_more g (q ∷ qs) ps m is = inr (or_more g qs ps m is)

-- the types themselves
pub all_themselves : (g : Graph) (ps : List ℕ) → AllByRecursion (IsOuterOr g ps) ps
all_themselves g [] = tt
all_themselves g (p ∷ ps) = (inl refl, each_so (IsOuterOr g ps) (IsOuterOr g (p ∷ ps)) ps (λ m is. inr is) (all_themselves g ps))

-- the arguments of outer types are so
abbrev pub OuterArgumentsOr : Graph → List ℕ → Type 0
OuterArgumentsOr g ps = (n : ℕ) → IsOuter g n → AllByRecursion (IsOuterOr g ps) (arguments_of g.arguments (form_of g.nodes n))

pub or_among : (g : Graph) (qs ps : List ℕ) → OuterArgumentsOr g ps → OuterArgumentsOr g (qs ++ ps)
or_among g qs ps arguments n is =
    each_so (IsOuterOr g ps) (IsOuterOr g (qs ++ ps)) (arguments_of g.arguments (form_of g.nodes n)) (or_more g qs ps)
    (arguments n is)
