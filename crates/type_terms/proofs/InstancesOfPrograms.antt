-- An instance of a solution of a program's equations is a solution.
use Rattle.std.proofs.Common.{◌≡◌, refl, sym, ap, subst, ◌∙◌, ℕ, ◌==◌, Bool, true, false, if◌then◌else◌, List, [], ◌∷◌, map}
use Rattle.effect_meaning.specs.Terms.{Term, Item, Define, Destructure, DefineRec, Evaluate, Program}
use Rattle.effect_meaning.specs.Scoped.{holds, function_names}
use Rattle.type_terms.specs.TypeTrees.{Ty, instance_of}
use Rattle.type_terms.specs.Contexts.{Names, NameHas, with_names}
use Rattle.type_terms.specs.Typing.{HasType, FunctionsHave}
use Rattle.type_terms.specs.Items.{Top, OneType, Generalised, Group, is_function, item_context, uses, defined, ItemsHave, definition_types}
use Rattle.type_terms.specs.Comparisons.{compared_items}
use Rattle.type_terms.specs.Laws.{InstancesSolve}
use Rattle.type_terms.proofs.InstancesOfTypes.{either_way, instances, name_instance}
use Rattle.type_terms.proofs.InstancesOfTerms.{Instanced, names_in, pattern_instance, type_instance, functions_instance}
use Rattle.type_terms.proofs.InstancesOfComparisons.{join, compared_instance, functions_compared}

module _ (f : ℕ → Ty) where
  -- top-level names with instances of the types that they share
  abbrev pub top_instance : Top → Top
  top_instance (OneType names) = OneType (instances f names)
  top_instance (Generalised x a) = Generalised x a
  top_instance (Group fs) = Group fs

  abbrev pub top_instances : List Top → List Top
  top_instances [] = []
  top_instances (k ∷ tops) = top_instance k ∷ top_instances tops

  by_test : (b : Bool) (x : ℕ) (a : Term) (t : Ty) →
      (if b then Generalised x a else OneType ((x, instance_of f t) ∷ [])) ≡ top_instance (if b then Generalised x a else OneType ((x, t) ∷ []))
  by_test true x a t = refl
  by_test false x a t = refl

  pub defined_instance :
      (x : ℕ) (a : Term) (t : Ty) (tops others : List Top) → others ≡ top_instances tops
      → defined x a (instance_of f t) ∷ others ≡ top_instances (defined x a t ∷ tops)
  defined_instance x a t tops others e =
      ap (λ k. k ∷ others) (by_test (is_function a) x a t) ∙ ap (λ k. top_instance (defined x a t) ∷ k) e

  -- the context of an item, and its instance
  abbrev pub item_in :
      (from_tops to_tops : ℕ → Ty → Type 0) → ((x : ℕ) (t : Ty) → from_tops x t → to_tops x (instance_of f t)) → (ℕ → Ty) → Instanced f
  item_in from_tops to_tops tops variables =
      record {
        from_tops = from_tops;
        to_tops = to_tops;
        tops = tops;
        from_variables = variables;
        to_variables = λ v. instance_of f (variables v);
        variables = λ v. refl;
        from_names = [];
        to_names = [];
        names = refl;
      }

  module _ (p : Program) where
    pub uses_instance : (tops : List Top) (x : ℕ) (t : Ty) → uses p tops x t → uses p (top_instances tops) x (instance_of f t)
    uses_instance [] x t h = h
    uses_instance (OneType names ∷ tops) x t h =
        name_instance f names x t (uses p tops x t) (uses p (top_instances tops) x (instance_of f t)) (uses_instance tops x t) h
    uses_instance (Generalised y a ∷ tops) x t h =
        either_way (x == y)
        ((variables : ℕ → Ty) × HasType (item_context p (uses p tops) variables) a t)
        (uses p tops x t)
        ((variables : ℕ → Ty) × HasType (item_context p (uses p (top_instances tops)) variables) a (instance_of f t))
        (uses p (top_instances tops) x (instance_of f t))
        (λ w. (λ v. instance_of f (w.0 v), type_instance p f (item_in (uses p tops) (uses p (top_instances tops)) (uses_instance tops) w.0) a t w.1))
        (uses_instance tops x t) h
    uses_instance (Group fs ∷ tops) x t h =
        either_way (holds (function_names fs) x)
        ((variables : ℕ → Ty) × (names : Names) × FunctionsHave (with_names names (item_context p (uses p tops) variables)) fs names × NameHas names x t ⊥)
        (uses p tops x t)
        ((variables : ℕ → Ty) × (names : Names) × FunctionsHave (with_names names (item_context p (uses p (top_instances tops)) variables)) fs names
        × NameHas names x (instance_of f t) ⊥)
        (uses p (top_instances tops) x (instance_of f t))
        (λ w. (
          λ v. instance_of f (w.0 v),
          instances f w.1,
          functions_instance p f (names_in p f w.1 (item_in (uses p tops) (uses p (top_instances tops)) (uses_instance tops) w.0)) fs w.1 w.2,
          name_instance f w.1 x t ⊥ ⊥ (λ e. e) w.3,
        ))
        (uses_instance tops x t) h

    pub uses_as : (tops others : List Top) → others ≡ top_instances tops → (x : ℕ) (t : Ty) → uses p tops x t → uses p others x (instance_of f t)
    uses_as tops others e x t h = subst (λ k. uses p k x (instance_of f t)) (sym e) (uses_instance tops x t h)

    -- the context of an item behind these top-level names, and its instance behind the others
    abbrev pub behind_both : (tops others : List Top) → others ≡ top_instances tops → (ℕ → Ty) → Instanced f
    behind_both tops others e variables = item_in (uses p tops) (uses p others) (uses_as tops others e) variables

    abbrev pub items_instance : (tops others : List Top) → others ≡ top_instances tops → (is : List Item) → ItemsHave p tops is → ItemsHave p others is
    items_instance tops others e [] h = tt
    items_instance tops others e (Define x a ∷ is) h = (
      λ v. instance_of f (h.0 v),
      instance_of f h.1,
      type_instance p f (behind_both tops others e h.0) a h.1 h.2,
      items_instance (defined x a h.1 ∷ tops) (defined x a (instance_of f h.1) ∷ others) (defined_instance x a h.1 tops others e) is h.3,
    )
    items_instance tops others e (Destructure at q a ∷ is) h = (
      λ v. instance_of f (h.0 v),
      instance_of f h.1,
      instances f h.2,
      type_instance p f (behind_both tops others e h.0) a h.1 h.3,
      pattern_instance p f (behind_both tops others e h.0) q h.1 h.2 h.4,
      items_instance (OneType h.2 ∷ tops) (OneType (instances f h.2) ∷ others) (ap (λ k. OneType (instances f h.2) ∷ k) e) is h.5,
    )
    items_instance tops others e (DefineRec fs ∷ is) h = (
      λ v. instance_of f (h.0 v),
      instances f h.1,
      functions_instance p f (names_in p f h.1 (behind_both tops others e h.0)) fs h.1 h.2,
      items_instance (Group fs ∷ tops) (Group fs ∷ others) (ap (λ k. Group fs ∷ k) e) is h.3,
    )
    items_instance tops others e (Evaluate a ∷ is) h = (
      λ v. instance_of f (h.0 v),
      instance_of f h.1,
      type_instance p f (behind_both tops others e h.0) a h.1 h.2,
      items_instance tops others e is h.3,
    )

    types_of_instances : (ns : Names) → map (λ n. n.1) (instances f ns) ≡ map (instance_of f) (map (λ n. n.1) ns)
    types_of_instances [] = refl
    types_of_instances (n ∷ ns) = ap (λ k. instance_of f n.1 ∷ k) (types_of_instances ns)

    pub definitions_instance :
        (tops others : List Top) (e : others ≡ top_instances tops) (is : List Item) (h : ItemsHave p tops is)
        → definition_types p others is (items_instance tops others e is h) ≡ map (instance_of f) (definition_types p tops is h)
    definitions_instance tops others e [] h = refl
    definitions_instance tops others e (Define x a ∷ is) h =
        ap (λ k. instance_of f h.1 ∷ k)
        (definitions_instance (defined x a h.1 ∷ tops) (defined x a (instance_of f h.1) ∷ others) (defined_instance x a h.1 tops others e) is h.3)
    definitions_instance tops others e (Destructure at q a ∷ is) h =
        ap (λ k. instance_of f h.1 ∷ k)
        (definitions_instance (OneType h.2 ∷ tops) (OneType (instances f h.2) ∷ others) (ap (λ k. OneType (instances f h.2) ∷ k) e) is h.5)
    definitions_instance tops others e (DefineRec fs ∷ is) h =
        join (instance_of f) _ _ _ _ (types_of_instances h.1)
        (definitions_instance (Group fs ∷ tops) (Group fs ∷ others) (ap (λ k. Group fs ∷ k) e) is h.3)
    definitions_instance tops others e (Evaluate a ∷ is) h = definitions_instance tops others e is h.3

    -- two lists of lists
    both : (xs ys : List Ty) (xss yss : List (List Ty)) → xs ≡ map (instance_of f) ys → xss ≡ map (map (instance_of f)) yss
        → xs ∷ xss ≡ map (map (instance_of f)) (ys ∷ yss)
    both xs ys xss yss e k = ap (λ l. l ∷ xss) e ∙ ap (λ l. map (instance_of f) ys ∷ l) k

    pub comparisons_instance :
        (tops others : List Top) (e : others ≡ top_instances tops) (is : List Item) (h : ItemsHave p tops is)
        → compared_items p others is (items_instance tops others e is h) ≡ map (map (instance_of f)) (compared_items p tops is h)
    comparisons_instance tops others e [] h = refl
    comparisons_instance tops others e (Define x a ∷ is) h =
        both _ _ _ _ (compared_instance p f (behind_both tops others e h.0) a h.1 h.2)
        (comparisons_instance (defined x a h.1 ∷ tops) (defined x a (instance_of f h.1) ∷ others) (defined_instance x a h.1 tops others e) is h.3)
    comparisons_instance tops others e (Destructure at q a ∷ is) h =
        both _ _ _ _ (compared_instance p f (behind_both tops others e h.0) a h.1 h.3)
        (comparisons_instance (OneType h.2 ∷ tops) (OneType (instances f h.2) ∷ others) (ap (λ k. OneType (instances f h.2) ∷ k) e) is h.5)
    comparisons_instance tops others e (DefineRec fs ∷ is) h =
        both _ _ _ _ (functions_compared p f (names_in p f h.1 (behind_both tops others e h.0)) fs h.1 h.2)
        (comparisons_instance (Group fs ∷ tops) (Group fs ∷ others) (ap (λ k. Group fs ∷ k) e) is h.3)
    comparisons_instance tops others e (Evaluate a ∷ is) h =
        both _ _ _ _ (compared_instance p f (behind_both tops others e h.0) a h.1 h.2) (comparisons_instance tops others e is h.3)

pub instances_solve_law : InstancesSolve
instances_solve_law p h f =
    (items_instance f p [] [] refl p.items h, (definitions_instance f p [] [] refl p.items h, comparisons_instance f p [] [] refl p.items h))
