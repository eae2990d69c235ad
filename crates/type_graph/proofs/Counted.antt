-- Steps and types that are counted, one by one.
use Rattle.std.proofs.Common.{◌≡◌, ℕ, suc, ◌+◌, List, [], ◌∷◌, Option, Some, option_and_then, refl, ap, sym}
use Rattle.type_graph.specs.declared.sizes.Count.{Count}
use Rattle.type_graph.specs.declared.sizes.Size.{Size}
use Rattle.type_graph.specs.Graph.{Graph}
use Rattle.type_graph.specs.Sized.{Counting, counting, stepped, finished, type_counted, types_counted}

-- no type is being counted
pub finished_done : (k : ℕ) (g : Graph) (s : Counting) (sizes : List Size) (cs ds : List Count) → s ≡ counting sizes cs → cs ≡ [] → ds ≡ []
    → finished k g s.sizes s.counts ≡ Some (counting sizes ds)
unfolding finished
finished_done k g s sizes cs ds e h i = rw (e, h, i) refl

-- one more step
pub finished_once : (k j : ℕ) (g : Graph) (s : Counting) (sizes : List Size) (c : Count) (cs ds : List Count) (o : Option Counting) → k ≡ suc j
    → s ≡ counting sizes ds → ds ≡ c ∷ cs → stepped g c (counting sizes cs) ≡ o
    → option_and_then (λ t. finished j g t.sizes t.counts) o ≡ finished k g s.sizes s.counts
unfolding finished
finished_once k j g s sizes c cs ds o e i d h = rw (e, i, d) (sym (ap (option_and_then (λ t. finished j g t.sizes t.counts)) h))

-- no type is left
pub types_done : (k n : ℕ) (g : Graph) (s : Counting) → k ≡ 0 → types_counted k n g s ≡ Some s
unfolding types_counted
types_done k n g s e = rw e refl

-- one more type
pub types_once : (k j n : ℕ) (g : Graph) (s : Counting) (o : Option Counting) → k ≡ suc j → type_counted g n s ≡ o
    → option_and_then (types_counted j (n + 1) g) o ≡ types_counted k n g s
unfolding types_counted
types_once k j n g s o e h = rw e (sym (ap (option_and_then (types_counted j (n + 1) g)) h))
