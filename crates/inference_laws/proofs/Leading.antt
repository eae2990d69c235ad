-- States that lead to others: where types are made, made equal, or both.
use Rattle.std.proofs.Common.{◌≡◌, ℕ, List, [], ◌∷◌, length, Option, Some, None, Bool, true, false, refl, sym, ◌∙◌, ap, if◌then◌else◌, nat_le}
use Rattle.fx_base.specs.declared.refusal.Place.{Place}
use Rattle.effect_meaning.specs.Arena.{Parts}
use Rattle.type_terms.specs.TypeTrees.{Ty, Constructed}
use Rattle.type_graph.specs.Graph.{Graph, applied}
use Rattle.type_graph.specs.Unified.{unified, unified_is}
use Rattle.type_readings.specs.Readings.{Reads, trees_of}
use Rattle.type_readings.specs.SignatureRules.{IsMade}
use Rattle.ml_infer.specs.declared.inference.End.{End}
use Rattle.ml_infer.specs.declared.inference.End.TheVariants as ends
use Rattle.ml_infer.specs.declared.inference.Inference.{Inference}
use Rattle.ml_infer.specs.declared.inference.KnownVariable.{KnownVariable}
use Rattle.ml_infer.specs.declared.inference.Read.{Read}
use Rattle.ml_infer.specs.declared.written.Variables.{Variables}
use Rattle.ml_infer.specs.declared.written.Variables.TheVariants as variables
use Rattle.ml_infer.specs.Inference.{equated, equated_while, new_variable, taken_equation}
use Rattle.ml_infer.specs.Known.{known}
use Rattle.ml_infer.specs.Written.{refused_unless}
use Rattle.inference_laws.specs.Whole.{HasRoom}
use Rattle.inference_laws.specs.Meanings.{VariablesAgree, StandFor, VariablesStay, SameRest, LeadsTo}
use Rattle.inference_laws.proofs.Kept.{Kept, Has, HasAll, kept_here, room_before}
use Rattle.inference_laws.proofs.Fields.{refused_unless_kept}
use Rattle.inference_laws.proofs.GraphLaws.{GraphLaws}
use Rattle.inference_laws.proofs.Signatures.{made_kept}
use Rattle.inference_laws.proofs.Steps.{equated_kept, type_made, variable_made}

-- the one state differs from the other in its types and in how the walk goes on, at most
pub record SameKnown (s t : Inference) : Type 0 where
  pub rest : SameRest s t
  pub variables : t.variables ≡ s.variables
  pub read : t.read ≡ s.read

pub same_rest_here : (s : Inference) → SameRest s s
same_rest_here s = record { same_tasks = refl; same_given = refl; same_names = refl; same_item = refl; same_pattern = refl }

pub same_rest_on : (s t u : Inference) → SameRest s t → SameRest t u → SameRest s u
same_rest_on s t u a b = record {
  same_tasks = b.same_tasks ∙ a.same_tasks;
  same_given = b.same_given ∙ a.same_given;
  same_names = b.same_names ∙ a.same_names;
  same_item = b.same_item ∙ a.same_item;
  same_pattern = b.same_pattern ∙ a.same_pattern;
}

pub same_known_here : (s : Inference) → SameKnown s s
same_known_here s = record { rest = same_rest_here s; variables = refl; read = refl }

-- the states differ in this at most
pub same_rest_but :
    (s : Inference) (types : Graph) (read : List (Option Read)) (variables : List (Option KnownVariable)) (equations : ℕ)
    (last : Place) (end : Option End)
    → SameRest s (record s { types = types; read = read; variables = variables; equations = equations; last = last; end = end })
same_rest_but s types read variables equations last end =
    record { same_tasks = refl; same_given = refl; same_names = refl; same_item = refl; same_pattern = refl }

same_known_but :
    (s : Inference) (types : Graph) (equations : ℕ) (last : Place) (end : Option End)
    → SameKnown s (record s { types = types; equations = equations; last = last; end = end })
same_known_but s types equations last end =
    record { rest = same_rest_but s types s.read s.variables equations last end; variables = refl; read = refl }

-- what is known of type variables stays from state to state
pub variables_stay_on : (s t u : Inference) → SameRest s t → VariablesStay s t → VariablesStay t u → VariablesStay s u
variables_stay_on s t u rest a b v k is item = b v k (a v k is item) (item ∙ sym rest.same_item)

-- what agrees with a later state agrees with this one
pub agree_before :
    (f vs : ℕ → Ty) (s t : Inference) → VariablesStay s t → SameRest s t → VariablesAgree f vs t → VariablesAgree f vs s
agree_before f vs s t stay rest agree v k is item = agree v k (stay v k is item) (item ∙ sym rest.same_item)

pub stand_before :
    (f vs : ℕ → Ty) (vars : Variables) (s t : Inference) → VariablesStay s t → SameRest s t → StandFor f vs t vars
    → StandFor f vs s vars
stand_before f vs variables.OfItem s t stay rest stand = agree_before f vs s t stay rest stand
stand_before f vs (variables.Parameters first count) s t stay rest stand = stand

module _ (p : Parts) where
  pub leads_here : (s : Inference) → LeadsTo p s s
  leads_here s = record { rest = same_rest_here s; stay = λ v k is item. is; meant = λ room on meant. meant }

  pub leads_on : (s t u : Inference) → Kept t u → LeadsTo p s t → LeadsTo p t u → LeadsTo p s u
  leads_on s t u kept a b = record {
    rest = same_rest_on s t u a.rest b.rest;
    stay = variables_stay_on s t u a.rest a.stay b.stay;
    meant = λ room on meant. b.meant room on (a.meant (room_before t u kept room) (kept.ended on) meant);
  }

  -- where no more is known, the types and what is known of them are kept
  pub known_leads : (s t : Inference) → Kept s t → SameKnown s t → LeadsTo p s t
  known_leads s t kept same = record {
    rest = same.rest;
    stay = λ v k is item. ap (λ xs. known xs v) same.variables ∙ is;
    meant = λ room on meant f reads n r is. meant f (kept.reads room on f reads) n r (sym (ap (λ xs. known xs n) same.read) ∙ is);
  }

module _ (l : GraphLaws) (s0 s : Inference) (kept : Kept s0 s) where
  here : Kept s s
  here = kept_here s0 s kept

  -- a new variable
  pub variable_leads : (p : Parts) → LeadsTo p s (new_variable s).state
  variable_leads p =
      known_leads p s (new_variable s).state (variable_made l s s here) (same_known_but s _ _ _ _)

  -- a type constructor with its arguments
  module _ (c : ℕ) (ns : List ℕ) where
    pub type_leads : (p : Parts) → HasAll s ns → LeadsTo p s (record s { types = applied c ns false s.types })
    type_leads p there =
        known_leads p s (record s { types = applied c ns false s.types })
        (type_made l s s c ns false here there (λ room e. absurd (cc)))
        (same_known_but s _ _ _ _)

    -- is read as that
    pub type_is_read :
        (outer : Bool) (f : ℕ → Ty) → HasRoom s.types → Reads f (applied c ns outer s.types)
        → f (length s.types.nodes) ≡ Constructed c (trees_of f ns)
    type_is_read outer f room reads = ((l.applied_reads c ns outer s.types f (kept.whole room).types.well).0 reads).1

  -- types that are made
  pub made_leads : (p : Parts) (h : Graph) → IsMade s.types h → LeadsTo p s (record s { types = h })
  made_leads p h made =
      known_leads p s (record s { types = h }) (made_kept l s s here h made)
      (same_known_but s _ _ _ _)

  -- a fault, if it isn't so
  refused_same : (is : Bool) (at : Place) → SameKnown s (refused_unless is at s)
  refused_same true at = same_known_here s
  refused_same false at = same_known_but s _ _ _ _

  pub refused_leads : (p : Parts) (is : Bool) (at : Place) → LeadsTo p s (refused_unless is at s)
  refused_leads p is at = known_leads p s (refused_unless is at s) (refused_unless_kept s s is at here) (refused_same is at)

  -- two types are made equal, or clash
  module _ (at : Place) (a b : ℕ) where
    taken_same : (fits : Bool) (h : Graph) → SameKnown s (taken_equation at (unified_is fits h) s)
    taken_same true h = same_known_but s _ _ _ _
    taken_same false h = same_known_but s _ _ _ _

    abbrev taken : Inference
    taken = taken_equation at (unified 18446744073709551615 ((a, b) ∷ []) s.types) s

    equated_same_so : (o : Option End) → SameKnown s (equated_while o at a b s)
    equated_same_so (Some e) = same_known_here s
    equated_same_so None =
        let u = unified 18446744073709551615 ((a, b) ∷ []) s.types in
        elim (nat_le s.most s.equations)
        as (λ t. SameKnown s (if t then record s { end = Some ends.Stopped } else taken)) [
          | true ↦ same_known_but s _ _ _ _
          | false ↦ taken_same u.fits u.types
        ]

    pub equated_same : SameKnown s (equated at a b s)
    equated_same = equated_same_so s.end

    pub equated_leads : (p : Parts) → Has s a → Has s b → LeadsTo p s (equated at a b s)
    equated_leads p has_a has_b = known_leads p s (equated at a b s) (equated_kept l s s at a b here has_a has_b) equated_same

    -- behind that they are equal for what reads the types, if the walk goes on
    taken_equal :
        (fits : Bool) (h : Graph) → unified 18446744073709551615 ((a, b) ∷ []) s.types ≡ unified_is fits h → HasRoom s.types
        → Has s a → Has s b
        → (taken_equation at (unified_is fits h) s).end ≡ None → (f : ℕ → Ty)
        → Reads f (taken_equation at (unified_is fits h) s).types → f a ≡ f b
    taken_equal true h is room has_a has_b on f reads =
        (l.unified_reads 18446744073709551615 ((a, b) ∷ []) s.types h f (kept.whole room).types.well
        ((has_a room, has_b room), tt) is reads).1.0
    taken_equal false h is room has_a has_b on f reads = absurd (cc)

    equal_so :
        (o : Option End) → s.end ≡ o → HasRoom s.types → Has s a → Has s b → (equated_while o at a b s).end ≡ None
        → (f : ℕ → Ty) → Reads f (equated_while o at a b s).types → f a ≡ f b
    equal_so (Some e) is room has_a has_b on f reads = absurd (cc)
    equal_so None is room has_a has_b on f reads =
        let u = unified 18446744073709551615 ((a, b) ∷ []) s.types in
        elim (nat_le s.most s.equations)
        as (λ t. (if t then record s { end = Some ends.Stopped } else taken).end ≡ None
        → Reads f (if t then record s { end = Some ends.Stopped } else taken).types → f a ≡ f b) [
          | true ↦ λ go r. absurd (cc)
          | false ↦ λ go r. taken_equal u.fits u.types refl room has_a has_b go f r
        ] on reads

    pub equated_equal :
        Has s a → Has s b → HasRoom (equated at a b s).types → (equated at a b s).end ≡ None → (f : ℕ → Ty)
        → Reads f (equated at a b s).types
        → f a ≡ f b
    equated_equal has_a has_b room on f reads =
        equal_so s.end refl (room_before s (equated at a b s) (equated_kept l s s at a b here has_a has_b) room) has_a has_b on f
        reads
