-- The types of definitions that are noted are those of items, and stay noted.
use Rattle.std.proofs.Common.{◌==◌, ℕ, ◌≤◌, Bool, true, false, List, [], ◌∷◌, map, Option, Some, None, refl, ◌∙◌, ap, subst, slice_get}
use Rattle.std.specs.List.{AllByRecursion}
use Rattle.fx_base.specs.declared.refusal.Place.{Place}
use Rattle.effect_meaning.specs.declared.core_nodes.Function.{Function}
use Rattle.effect_meaning.specs.declared.core_tables.ExceptionRow.{ExceptionRow}
use Rattle.effect_meaning.specs.declared.core_tables.Item.{Item}
use Rattle.effect_meaning.specs.declared.core_tables.ItemForm.{ItemForm}
use Rattle.effect_meaning.specs.declared.core_tables.ItemForm.TheVariants as item
use Rattle.effect_meaning.specs.Arena.{Parts}
use Rattle.type_terms.specs.TypeTrees.{Ty, size}
use Rattle.ml_infer.specs.declared.inference.End.{End}
use Rattle.ml_infer.specs.declared.inference.Inference.{Inference}
use Rattle.ml_infer.specs.declared.members.Members.{Members}
use Rattle.ml_infer.specs.declared.tasks.Task.TheVariants as task
use Rattle.ml_infer.specs.Constructors.{closed}
use Rattle.ml_infer.specs.Declarations.{exception_row_declared}
use Rattle.ml_infer.specs.Inference.{one_type}
use Rattle.ml_infer.specs.Items.{defined_as, definition_noted, done, generalised, generalised_each, given_outer, item_of, item_taken, item_while, items_taken, term_found}
use Rattle.ml_infer.specs.Known.{known}
use Rattle.ml_infer.specs.Patterns.{whole_pattern}
use Rattle.ml_infer.specs.Tasks.{first, first_one}
use Rattle.ml_infer.specs.Terms.{functions_first}
use Rattle.ml_infer.specs.Written.{refused_unless}
use Rattle.inference_laws.proofs.MembersStay.{MembersStay, argument_stays, new_names_stay, one_so, refused_stays, taken_stays}
use Rattle.inference_laws.proofs.WalkMembers.{done_stays}

-- a type of at most so many nodes as that of a definition may have
abbrev pub IsSmall : Ty → Type 0
IsSmall t = size t ≤ 4096

-- the types of the definitions that are noted are
abbrev pub AreSmall : (ℕ → Ty) → Inference → Type 0
AreSmall f s = AllByRecursion (λ d. size (f d) ≤ 4096) s.definitions

module _ (f : ℕ → Ty) where
  -- where the same are noted
  small_if_same : (s t : Inference) → MembersStay s t → AreSmall f t → AreSmall f s
  small_if_same s t same h =
      subst (λ (ds : List ℕ). AllByRecursion (λ d. size (f d) ≤ 4096) ds) (ap (λ (m : Members × Members × List ℕ). m.2) same) h

  -- behind a group
  pub generalised_small : (fs : List Function) (s : Inference) → AreSmall f (generalised_each fs s) → AreSmall f s
  generalised_small [] s h = h
  generalised_small (g ∷ fs) s h =
      let more = generalised_small fs (generalised g.name s) h in small_if_same s (one_type g.name s).state
      (one_so (known s.names g.name) g.name s) more.1

  module _ (p : Parts) where
    found_stays : (n : ℕ) (s : Inference) → MembersStay s (term_found p n s).state
    found_stays n s = let d = done p (first_one (task.Term n) s) in taken_stays d ∙ done_stays p (first_one (task.Term n) s)

    defined_small : (b : Bool) (x t : ℕ) (s : Inference) → AreSmall f (defined_as b x t s) → AreSmall f s
    defined_small true x t s h = h
    defined_small false x t s h = h

    exception_stays : (o : Option ExceptionRow) (s : Inference) → MembersStay s (exception_row_declared o p s)
    exception_stays None s = refl
    exception_stays (Some row) s = argument_stays p closed row.place row.argument s

    -- before an item
    form_small : (x : ItemForm) (at : Place) (s : Inference) → AreSmall f (item_of x p at s) → AreSmall f s
    unfolding item_of
    form_small (item.Types ts) at s h =
        let u = first (map (λ t. task.TypeDeclared t) ts) s in small_if_same s (done p u) (done_stays p u) h
    form_small (item.Exception n) at s h =
        let row = slice_get p.exception_rows n in small_if_same s (exception_row_declared row p s) (exception_stays row s) h
    form_small (item.Effects extended ns) at s h =
        let r = refused_unless (extended == 10) at s in
        let u = first (map (λ n. task.EffectDeclared n) ns) r in
        small_if_same s (done p u) (done_stays p u ∙ refused_stays (extended == 10) at s) h
    form_small (item.Define x n) at s h =
        let t = term_found p n s in
        small_if_same s t.state (found_stays n s) (defined_small _ x t.found (definition_noted t.found (given_outer t.state)) h).1
    form_small (item.Destructure q n) at s h =
        let t = term_found p n s in
        let u = whole_pattern q t.found t.state in small_if_same s (done p u) (done_stays p u ∙ found_stays n s) h.1
    form_small (item.DefineRec fs) at s h =
        let u = functions_first fs s in
        let d = done p u in
        small_if_same s d (done_stays p u ∙ new_names_stay fs s) (generalised_small fs (given_outer d) h)
    form_small (item.Evaluate n) at s h = small_if_same s (term_found p n s).state (found_stays n s) h

    while_small : (o : Option End) (x : Item) (s : Inference) → AreSmall f (item_while o p x s) → AreSmall f s
    while_small (Some e) x s h = h
    while_small None x s h = form_small x.form x.place s h

    pub items_small : (xs : List Item) (s : Inference) → AreSmall f (items_taken p xs s) → AreSmall f s
    items_small [] s h = h
    items_small (x ∷ xs) s h = while_small s.end x s (items_small xs (item_taken p x s) h)
