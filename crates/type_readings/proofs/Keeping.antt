-- What each step of unification keeps.
use Rattle.std.proofs.Common.{◌≡◌, ◌≢◌, ℕ, zero, suc, ◌==◌, List, [], ◌∷◌, length, true, false, refl, arith}
use Rattle.std.proofs.lemmas.Bool.{eqb-true}
use Rattle.std.proofs.lemmas.Bool.Decides.{nat_tests}
use Rattle.type_terms.specs.TypeTrees.{TypeVariable}
use Rattle.type_graph.specs.Graph.{Graph, node_at, root}
use Rattle.type_graph.specs.Unified.{clash, merge, argument_pairs, Pairs, pairs, roots_joined, onward, Unified, unified}
use Rattle.type_readings.specs.WellFormed.{ArePairs, IsWellFormed}
use Rattle.type_readings.proofs.Rows.{root_is_root, root_is_number}
use Rattle.type_readings.proofs.Behind.{Behind, if_either, argument_zip, behind_merge}
use Rattle.type_readings.proofs.Steps.{pairs_on}
use Rattle.type_readings.proofs.Joining.{root_node, OneRoot, one_root}

-- two roots that don't clash became one
pub record Join (a b : ℕ) (g h : Graph) : Type 0 where
  pub before : IsWellFormed g
  pub behind : Behind TypeVariable a b (argument_zip g a b) g h
  pub one : OneRoot a b g h
  pub fits : clash (node_at g.nodes a).form (node_at g.nodes b).form ≡ false

-- something holds of the pairs that were left, which are none where all were made equal
pub record Left {ℓ} (P : List (ℕ × ℕ) → Graph → Type ℓ) (o : Unified) : Type ℓ where
  pub rest : List (ℕ × ℕ)
  pub holds : P rest o.types
  pub none : o.fits ≡ true → rest ≡ []

-- what holds of pairs holds of those that are left, if it does so of those behind each step
pub unify_keeps {ℓ} :
    (P : List (ℕ × ℕ) → Graph → Type ℓ)
    → ((p : ℕ × ℕ) (ps : List (ℕ × ℕ)) (g : Graph) → root g.nodes p.0 ≡ root g.nodes p.1 → P (p ∷ ps) g → P ps g)
    → ((p : ℕ × ℕ) (ps : List (ℕ × ℕ)) (g h : Graph) → Join (root g.nodes p.0) (root g.nodes p.1) g h → P (p ∷ ps) g
    → P (argument_pairs g (root_node g p.0).form (root_node g p.1).form ps) h)
    → (steps : ℕ) (ps : List (ℕ × ℕ)) (g : Graph) → IsWellFormed g → ArePairs (length g.nodes) ps → P ps g
    → Left P (unified steps ps g)
unfolding unified
unify_keeps P same joined steps [] g well numbers holds = record { rest = []; holds = holds; none = λ e. refl }
unify_keeps P same joined zero (p ∷ ps) g well numbers holds = record { rest = p ∷ ps; holds = holds; none = λ e. absurd (cc) }
unify_keeps P same joined (suc k) (p ∷ ps) g well numbers holds =
    let a = root g.nodes p.0 in
    let b = root g.nodes p.1 in
    let x = node_at g.nodes a in
    let y = node_at g.nodes b in
    if_either (λ (s : Pairs). Left P (onward s (unified k))) (a == b) (pairs true ps g) (roots_joined a b ps g)
    (λ e. unify_keeps P same joined k ps g well numbers.1 (same p ps g (eqb-true a b e) holds))
    (λ e.
    if_either (λ (s : Pairs). Left P (onward s (unified k))) (clash x.form y.form) (pairs false ps g)
    (pairs true (argument_pairs g x.form y.form ps) (merge a b g))
    (λ c. record { rest = p ∷ ps; holds = holds; none = λ t. absurd (cc) })
    (λ c.
    let h = merge a b g in
    let apart : a ≢ b = grind (arith, nat_tests) in
    let la = root_is_number g well p.0 numbers.0.0 in
    let lb = root_is_number g well p.1 numbers.0.1 in
    let ra = root_is_root g well p.0 in
    let rb = root_is_root g well p.1 in
    let behind = behind_merge TypeVariable a b g well apart la lb ra rb c in
    let join : Join a b g h = record {
      before = well;
      behind = behind;
      one = one_root a b g well apart la lb ra rb behind.well;
      fits = c;
    } in
    unify_keeps P same joined k (argument_pairs g x.form y.form ps) h behind.well
    (pairs_on TypeVariable k p ps g well h behind.as_many numbers.1) (joined p ps g h join holds)))
