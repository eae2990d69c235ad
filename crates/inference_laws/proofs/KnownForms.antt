-- Written types that are type constructors are read as types whose form is known.
use Rattle.std.proofs.Common.{◌≡◌, ℕ, zero, suc, ◌<◌, List, [], ◌∷◌, ◌++◌, length, map, Option, Some, None, Bool, true, false, refl, sym, ◌∙◌, ap, subst, append_assoc, if◌then◌else◌, slice_get, slice_index_or}
use Rattle.std.specs.List.{list_all}
use Rattle.fx_base.specs.declared.refusal.Place.{Place}
use Rattle.effect_meaning.specs.declared.core_nodes.TypeExpression.{TypeExpression}
use Rattle.effect_meaning.specs.declared.core_nodes.TypeExpression.TheVariants as type
use Rattle.effect_meaning.specs.Arena.{Parts, IsArena}
use Rattle.effect_meaning.specs.ArenaTrees.{type_at, type_tree, types_of}
use Rattle.effect_meaning.specs.Terms.{Applied, Writtens}
use Rattle.type_graph.specs.declared.types.Node.{Node}
use Rattle.type_graph.specs.declared.form.Form.TheVariants as form
use Rattle.type_graph.specs.Graph.{Graph, applied, behind, followed, form_of, fresh, is_variable, link_of, node_at, root, unknown}
use Rattle.type_readings.specs.WellFormed.{IsRoot}
use Rattle.ml_infer.specs.declared.inference.Inference.{Inference}
use Rattle.ml_infer.specs.declared.inference.Read.{Read}
use Rattle.ml_infer.specs.declared.written.Variables.{Variables}
use Rattle.ml_infer.specs.declared.written.Visit.{Visit}
use Rattle.ml_infer.specs.declared.written.Visit.TheVariants as visit
use Rattle.ml_infer.specs.Known.{known, noted}
use Rattle.ml_infer.specs.Written.{Reading, entered_type, found_of, left_type, read_before, reading, visited, visited_one, written}
use Rattle.inference_laws.specs.Whole.{HasRoom, IfKnown, ReadIsThere}
use Rattle.inference_laws.proofs.Each.{known_at}
use Rattle.inference_laws.proofs.Kept.{Kept}
use Rattle.inference_laws.proofs.Noting.{noted_same}
use Rattle.inference_laws.proofs.Trees.{got_there, type_is_tree}

-- something is known of a type
abbrev pub IsKnownForm : Graph → ℕ → Type 0
IsKnownForm g n = is_variable (form_of g.nodes n) ≡ false

-- a type from which no link leads on is its own root
followed_here : (k : ℕ) (nodes : List Node) (n : ℕ) → IsRoot nodes n → followed k nodes n ≡ n
unfolding followed
followed_here zero nodes n is = refl
followed_here (suc k) nodes n is = ap (λ o. behind o n (followed k nodes)) is

last_is : (nodes : List Node) (node d : Node) → slice_index_or (nodes ++ node ∷ []) (length nodes) d ≡ node
last_is [] node d = refl
last_is (m ∷ nodes) node d = last_is nodes node d

-- of a new type constructor something is known
pub applied_known : (c : ℕ) (ns : List ℕ) (outer : Bool) (g : Graph) → IsKnownForm (applied c ns outer g) (length g.nodes)
applied_known c ns outer g =
    let node = fresh (form.Applied c (length g.arguments) (length ns)) outer in
    let last : node_at (g.nodes ++ node ∷ []) (length g.nodes) ≡ node = last_is g.nodes node unknown in
    let here : root (g.nodes ++ node ∷ []) (length g.nodes) ≡ length g.nodes =
    followed_here 32 (g.nodes ++ node ∷ []) (length g.nodes) (ap (λ (m : Node). link_of m.form) last) in
    ap (λ k. is_variable (node_at (g.nodes ++ node ∷ []) k).form) here ∙ ap (λ (m : Node). is_variable m.form) last

module _ (p : Parts) (vars : Variables) (at : Place) where
  -- a step leaves those visits that wait
  record Waits (us : List Visit) (r : Reading) : Type 0 where
    first : List Visit
    is : r.visits ≡ first ++ us

  entered_waits :
      (o : Option TypeExpression) (n : ℕ) (vs us : List Visit) (s : Inference) → Waits us (entered_type o p vars at n (vs ++ us) s)
  entered_waits (Some (type.Variable v)) n vs us s = record { first = vs; is = refl }
  entered_waits (Some (type.Applied c ns)) n vs us s = record {
    first = map (λ a. visit.Enter a) ns ++ visit.Leave n ∷ vs;
    is = sym (append_assoc (map (λ a. visit.Enter a) ns) (visit.Leave n ∷ vs) us);
  }
  entered_waits (Some type.Any) n vs us s = record { first = vs; is = refl }
  entered_waits None n vs us s = record { first = vs; is = refl }

  visit_waits : (v : Visit) (vs us : List Visit) (s : Inference) → Waits us (visited_one p vars at v (vs ++ us) s)
  visit_waits (visit.Enter n) vs us s =
      elim (read_before s.read n)
      as (λ b. Waits us (if b then reading (vs ++ us) s else entered_type (slice_get p.types n) p vars at n (vs ++ us) s)) [
        | true ↦ record { first = vs; is = refl }
        | false ↦ entered_waits (slice_get p.types n) n vs us s
      ]
  visit_waits (visit.Leave n) vs us s = record { first = vs; is = refl }

  module _ (n c : ℕ) (ns : List ℕ) (is : slice_get p.types n ≡ Some (type.Applied c ns)) where
    -- something is known of what the written type is read as
    abbrev Known : Inference → Type 0
    Known t = t.end ≡ None → IsKnownForm t.types (found_of t.read n)

    built_known : (s : Inference) → Known (left_type (slice_get p.types n) n s)
    built_known s =
        let ts = map (found_of s.read) ns in
        let closed = list_all (read_before s.read) ns in
        let new : Read = record { found = length s.types.nodes; is_closed = closed } in
        let found : found_of (noted n new s.read) n ≡ length s.types.nodes =
        ap (λ (o : Option Read). elim o [ None ↦ 4 | Some r ↦ r.found ]) (noted_same n new s.read) in
        subst (λ o. Known (left_type o n s)) (sym is)
        (λ on. subst (IsKnownForm (applied c ts closed s.types)) (sym found) (applied_known c ts closed s.types))

    -- behind all visits, if it is left last
    last_known : (steps : ℕ) (vs : List Visit) (s : Inference) → Known (visited steps p vars at (vs ++ visit.Leave n ∷ []) s)
    unfolding visited
    last_known zero [] s on = absurd (cc)
    last_known zero (v ∷ vs) s on = absurd (cc)
    last_known (suc steps) [] s on = built_known s on
    last_known (suc steps) (v ∷ vs) s on =
        let r = visited_one p vars at v (vs ++ visit.Leave n ∷ []) s in
        let w = visit_waits v vs (visit.Leave n ∷ []) s in
        subst (λ us. Known (visited steps p vars at us r.state)) (sym w.is) (last_known steps w.first r.state) on

    -- what was read before and has no variables in it is no variable
    fixed_so :
        (g : Graph) (o : Option Read) → IfKnown (ReadIsThere g) o → elim o [ None ↦ false | Some r ↦ r.is_closed ] ≡ true
        → IsKnownForm g (elim o [ None ↦ 4 | Some r ↦ r.found ])
    fixed_so g None h e = absurd (cc)
    fixed_so g (Some r) h e = (h.1 e).1

    abbrev RoomyKnown : Inference → Type 0
    RoomyKnown t = HasRoom t.types → Known t

    module _ (s0 s : Inference) (kept : Kept s0 s) where
      read_known : (steps : ℕ) → read_before s.read n ≡ true → RoomyKnown (visited steps p vars at [] s)
      unfolding visited
      read_known steps e room on =
          fixed_so s.types (known s.read n) (known_at (ReadIsThere s.types) s.read n (kept.whole room).tables.read_there) e

      abbrev entered_now : Option TypeExpression → Reading
      entered_now o = entered_type o p vars at n [] s

      entered_known :
          (steps : ℕ)
          → RoomyKnown
          (visited steps p vars at (entered_now (slice_get p.types n)).visits (entered_now (slice_get p.types n)).state)
      entered_known steps =
          subst (λ o. RoomyKnown (visited steps p vars at (entered_now o).visits (entered_now o).state)) (sym is)
          (λ room on. last_known steps (map (λ a. visit.Enter a) ns) (entered_now (Some (type.Applied c ns))).state on)

      abbrev first_step : Bool → Reading
      first_step b = if b then reading [] s else entered_now (slice_get p.types n)

      first_so :
          (steps : ℕ) (b : Bool) → read_before s.read n ≡ b
          → RoomyKnown (visited steps p vars at (first_step b).visits (first_step b).state)
      first_so steps true e = read_known steps e
      first_so steps false e = entered_known steps

      all_known : (steps : ℕ) → RoomyKnown (visited steps p vars at (visit.Enter n ∷ []) s)
      unfolding visited
      all_known zero room on = absurd (cc)
      all_known (suc steps) room on = first_so steps (read_before s.read n) refl room on

      -- something is known of what a type constructor is read as
      pub written_known :
          HasRoom (written p n vars at s).state.types → (written p n vars at s).state.end ≡ None
          → IsKnownForm (written p n vars at s).state.types (written p n vars at s).found
      written_known room on = all_known 18446744073709551615 room on

-- a node whose tree is a type constructor with its arguments is that
pub record IsAppliedNode (p : Parts) (n c : ℕ) : Type 0 where
  pub arguments : List ℕ
  pub is : slice_get p.types n ≡ Some (type.Applied c arguments)

node_is_applied :
    (p : Parts) (n c : ℕ) (ws : Writtens) (node : TypeExpression) → slice_get p.types n ≡ Some node
    → type_tree (types_of p) node ≡ Applied c ws
    → IsAppliedNode p n c
node_is_applied p n c ws (type.Variable v) is e = absurd (cc)
node_is_applied p n c ws type.Any is e = absurd (cc)
node_is_applied p n c ws (type.Applied d ns) is e =
    let same : d ≡ c = cc in record { arguments = ns; is = is ∙ ap (λ k. Some (type.Applied k ns)) same }

pub applied_node :
    (p : Parts) → IsArena p → (n c : ℕ) (ws : Writtens) → n < length p.types → type_at (types_of p) n ≡ Applied c ws
    → IsAppliedNode p n c
applied_node p arena n c ws low e =
    let got = got_there p.types n low in node_is_applied p n c ws got.0 got.1 (sym (type_is_tree p arena n got.0 got.1) ∙ e)
