-- Readings that leave variables open.
use Rattle.std.proofs.Common.{◌≡◌, ℕ, List, [], ◌∷◌, None, refl, sym, ◌∙◌, ap}
use Rattle.type_terms.specs.TypeTrees.{Ty, TypeVariable, Constructed, Tys, NoTys, AndTy, instance_of, instances_of}
use Rattle.type_graph.specs.declared.form.Form.{Form}
use Rattle.type_graph.specs.declared.form.Form.TheVariants.{Variable, Link, Applied}
use Rattle.type_graph.specs.Graph.{Graph, node_at, root, link_of, arguments_of}
use Rattle.type_readings.specs.Readings.{trees_of, IsOfForm, Reads, LeavesOpen}
use Rattle.type_readings.specs.WellFormed.{IsWellFormed}
use Rattle.type_readings.specs.Laws.{OpenIsMostGeneral}
use Rattle.type_readings.proofs.Rows.{root_is_root, root_is_equal}

module _ (g : Graph) (f k : ℕ → Ty) (well : IsWellFormed g) (reads : Reads f g) (opens : LeavesOpen f g) (others : Reads k g) where
  -- at the form of a root
  at_form :
      (a : Form) (r v : ℕ) → link_of a ≡ None → a ≡ (node_at g.nodes r).form → IsOfForm f g.arguments a (f r) → f r ≡ TypeVariable v
      → k r ≡ k v
  at_form Variable r v l e h t =
      let is = opens r (sym e) in
      let same : r ≡ v = cc in
      ap k same
  at_form (Link m) r v l e h t = absurd (cc)
  at_form (Applied c first count) r v l e h t = absurd (cc)

  at_application :
      (ts : Tys) (instances : (ns : List ℕ) → trees_of f ns ≡ ts → trees_of k ns ≡ instances_of k ts) (a : Form) (r c : ℕ) → link_of a ≡ None → a ≡ (node_at g.nodes r).form → IsOfForm f g.arguments a (f r)
      → IsOfForm k g.arguments a (k r) → f r ≡ Constructed c ts → k r ≡ Constructed c (instances_of k ts)
  at_application ts instances Variable r c l e h o t = let is = opens r (sym e) in absurd (cc)
  at_application ts instances (Link m) r c l e h o t = absurd (cc)
  at_application ts instances (Applied d first count) r c l e h o t =
      let ns = arguments_of g.arguments (Applied d first count) in
      let all : Constructed d (trees_of f ns) ≡ Constructed c ts = sym h ∙ t in
      let same : d ≡ c = cc in
      let parts : trees_of f ns ≡ ts = cc in
      o ∙ ap (λ x. Constructed x (trees_of k ns)) same ∙ ap (Constructed c) (instances ns parts)

  mutual
    instance_at : (t : Ty) (n : ℕ) → f n ≡ t → k n ≡ instance_of k t
    instance_at (TypeVariable v) n e =
        let r = root g.nodes n in
        root_is_equal k g well others n
        ∙ at_form (node_at g.nodes r).form r v (root_is_root g well n) refl (reads r) (sym (root_is_equal f g well reads n) ∙ e)
    instance_at (Constructed c ts) n e =
        let r = root g.nodes n in
        root_is_equal k g well others n
        ∙ at_application ts (λ ns p. instances_at ts ns p) (node_at g.nodes r).form r c (root_is_root g well n) refl (reads r) (others r) (sym (root_is_equal f g well reads n) ∙ e)

    instances_at : (ts : Tys) (ns : List ℕ) → trees_of f ns ≡ ts → trees_of k ns ≡ instances_of k ts
    instances_at NoTys [] e = refl
    instances_at NoTys (n ∷ ns) e = absurd (cc)
    instances_at (AndTy t ts) [] e = absurd (cc)
    instances_at (AndTy t ts) (n ∷ ns) e =
        let first : f n ≡ t = cc in
        let rest : trees_of f ns ≡ ts = cc in
        ap (λ u. AndTy u (trees_of k ns)) (instance_at t n first) ∙ ap (AndTy (instance_of k t)) (instances_at ts ns rest)

pub open_is_most_general_law : OpenIsMostGeneral
open_is_most_general_law g f k well reads opens others n = instance_at g f k well reads opens others (f n) n refl
