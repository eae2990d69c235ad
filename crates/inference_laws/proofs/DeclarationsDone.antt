-- Declarations make no names known, and written types are read behind them as they mean.
use Rattle.std.proofs.Common.{◌≡◌, ℕ, zero, suc, Bool, true, false, List, [], ◌∷◌, length, Option, Some, None, refl, sym, ◌∙◌, ap, subst, arith, slice_get}
use Rattle.std.specs.List.{AllByRecursion}
use Rattle.fx_base.specs.declared.refusal.Place.{Place}
use Rattle.effect_meaning.specs.declared.core_tables.EffectRow.{EffectRow}
use Rattle.effect_meaning.specs.declared.core_tables.ExceptionRow.{ExceptionRow}
use Rattle.effect_meaning.specs.declared.core_tables.FieldRow.{FieldRow}
use Rattle.effect_meaning.specs.declared.core_tables.VariantRow.{VariantRow}
use Rattle.effect_meaning.specs.Arena.{Parts, IsArena}
use Rattle.type_graph.specs.Graph.{form_of, is_of}
use Rattle.ml_infer.specs.declared.inference.End.{End}
use Rattle.ml_infer.specs.declared.inference.Inference.{Inference}
use Rattle.ml_infer.specs.declared.tasks.Task.{Task}
use Rattle.ml_infer.specs.declared.tasks.Task.TheVariants as task
use Rattle.ml_infer.specs.declared.written.Variables.{Variables}
use Rattle.ml_infer.specs.Constructors.{closed, declared_argument, new_variables, parameter_count}
use Rattle.ml_infer.specs.Declarations.{effect_row_declared, exception_declared, exception_row_declared, field_row_declared, type_declared, variant_row_declared}
use Rattle.ml_infer.specs.Inference.{new_variable}
use Rattle.ml_infer.specs.Known.{known}
use Rattle.ml_infer.specs.Walk.{acted, acted_in_group, acted_on_data, finished, next_of, onward}
use Rattle.ml_infer.specs.Written.{refused_unless, written}
use Rattle.inference_laws.specs.Whole.{TaskIsThere}
use Rattle.inference_laws.specs.Meanings.{LeadsTo}
use Rattle.inference_laws.proofs.Kept.{Kept, Roomy, kept_here}
use Rattle.inference_laws.proofs.Fields.{left_kept, refused_unless_kept}
use Rattle.inference_laws.proofs.GraphLaws.{GraphLaws}
use Rattle.inference_laws.proofs.Written.{HasVariables, written_kept}
use Rattle.inference_laws.proofs.Constructors.{argument_made}
use Rattle.inference_laws.proofs.Walk.{acted_kept}
use Rattle.inference_laws.proofs.WrittenMeant.{argument_leads, written_leads, refused_read}
use Rattle.inference_laws.proofs.Pushing.{argument_tasks, instance_tasks, refused_tasks, written_tasks}
use Rattle.inference_laws.proofs.TopNames.{Leaves, leaves_kept, leaves_on}

-- tasks of declarations
abbrev pub IsDeclaration : Task → Type 0
IsDeclaration (task.TypeDeclared t) = Unit {0}
IsDeclaration (task.FieldDeclared f vars) = Unit {0}
IsDeclaration (task.VariantDeclared v vars) = Unit {0}
IsDeclaration (task.EffectDeclared n) = Unit {0}
IsDeclaration _ = ⊥

-- new types for parameters leave what is read and the names
variables_read : (count : ℕ) (s : Inference) → (new_variables count s).state.read ≡ s.read
unfolding new_variables
variables_read zero s = refl
variables_read (suc count) s = variables_read count (new_variable s).state

variables_names : (count : ℕ) (s : Inference) → (new_variables count s).state.names ≡ s.names
unfolding new_variables
variables_names zero s = refl
variables_names (suc count) s = variables_names count (new_variable s).state

pub refused_names : (is : Bool) (at : Place) (s : Inference) → (refused_unless is at s).names ≡ s.names
refused_names true at s = refl
refused_names false at s = refl

module _ (l : GraphLaws) (p : Parts) (arena : IsArena p) (scope : List ℕ) where
  pub leaves_here : (s : Inference) → Kept s s → Leaves p scope s s
  leaves_here s kept = leaves_kept p scope s s kept refl refl

  leaves_leads : (s e : Inference) → Kept s e → LeadsTo p s e → Leaves p scope s e
  leaves_leads s e kept leads = leaves_kept_names leads
    where
      leaves_kept_names : LeadsTo p s e → Leaves p scope s e
      leaves_kept_names a = record { kept = kept; meant = a.meant; same = λ x is. ap (λ xs. known xs x) a.rest.same_names }

  -- what a declaration leaves: other declarations are to be done
  record Declared (s e : Inference) : Type 0 where
    leaves : Leaves p scope s e
    all : AllByRecursion IsDeclaration e.tasks

  module _ (s : Inference) (kept : Kept s s) (all : AllByRecursion IsDeclaration s.tasks) where
    type_step : (t : ℕ) → Kept s (type_declared p t s) → Declared s (type_declared p t s)
    type_step t after =
        let count = parameter_count p t in
        record {
          leaves = leaves_kept p scope s (type_declared p t s) after (variables_read count s) (variables_names count s);
          all = (tt, (tt, subst (AllByRecursion IsDeclaration) (sym (instance_tasks p t s)) all));
        }

    field_step :
        (o : Option FieldRow) (n : ℕ) (vars : Variables) → HasVariables s vars → Kept s (field_row_declared o p n vars s)
        → Declared s (field_row_declared o p n vars s)
    field_step None n vars there after = record { leaves = leaves_here s kept; all = all }
    field_step (Some row) n vars there after =
        let t = (written p row.annotation vars row.place s).state in
        let leads = written_leads l p arena s s kept vars row.place there row.annotation in
        let first_part = leaves_leads s t (written_kept l p vars row.place s s row.annotation kept there).0 leads in
        record {
          leaves = record { kept = after; meant = first_part.meant; same = first_part.same };
          all = (tt, subst (AllByRecursion IsDeclaration) (sym (written_tasks p vars row.place row.annotation s)) all);
        }

    variant_step :
        (o : Option VariantRow) (n : ℕ) (vars : Variables) → HasVariables s vars → Kept s (variant_row_declared o p n vars s)
        → Declared s (variant_row_declared o p n vars s)
    variant_step None n vars there after = record { leaves = leaves_here s kept; all = all }
    variant_step (Some row) n vars there after =
        let t = (declared_argument p row.argument vars row.place s).state in
        let leads = argument_leads l p arena s s kept vars row.place there row.argument in
        let first_part = leaves_leads s t (argument_made l p vars row.place s s kept there row.argument).0 leads in
        record {
          leaves = record { kept = after; meant = first_part.meant; same = first_part.same };
          all = (tt, subst (AllByRecursion IsDeclaration) (sym (argument_tasks p vars row.place row.argument s)) all);
        }

    effect_step : (o : Option EffectRow) → Declared s (effect_row_declared o p s)
    effect_step None = record { leaves = leaves_here s kept; all = all }
    effect_step (Some row) =
        let at = row.place in
        let a = (declared_argument p row.argument closed at s).state in
        let a_kept = (argument_made l p closed at s s kept (λ room. omega arith) row.argument).0 in
        let a_here = kept_here s a a_kept in
        let t = written p row.result closed at a in
        let t_kept = (written_kept l p closed at a a row.result a_here (λ room. omega arith)).0 in
        let is = is_of (form_of t.state.types.nodes t.found) 10 1 in
        let e = refused_unless is at t.state in
        let one = leaves_leads s a a_kept (argument_leads l p arena s s kept closed at (λ room. omega arith) row.argument) in
        let two = leaves_leads a t.state t_kept (written_leads l p arena a a a_here closed at (λ room. omega arith) row.result) in
        let three =
        leaves_kept p scope t.state e (refused_unless_kept t.state t.state is at (kept_here a t.state t_kept))
        (refused_read is at t.state)
        (refused_names is at t.state) in
        record {
          leaves = leaves_on p scope s a e one (leaves_on p scope a t.state e two three);
          all =
              subst (AllByRecursion IsDeclaration)
              (sym (refused_tasks is at t.state ∙ written_tasks p closed at row.result a ∙ argument_tasks p closed at row.argument
              s)) all;
        }

    -- an exception
    pub exception_leaves : (n : ℕ) → Leaves p scope s (exception_declared p n s)
    exception_leaves n = so (slice_get p.exception_rows n)
      where
        so : (o : Option ExceptionRow) → Leaves p scope s (exception_row_declared o p s)
        so None = leaves_here s kept
        so (Some row) =
            leaves_leads s (declared_argument p row.argument closed row.place s).state
            (argument_made l p closed row.place s s kept (λ room. omega arith) row.argument).0
            (argument_leads l p arena s s kept closed row.place (λ room. omega arith) row.argument)

    exception_so : (o : Option ExceptionRow) → (exception_row_declared o p s).tasks ≡ s.tasks
    exception_so None = refl
    exception_so (Some row) = argument_tasks p closed row.place row.argument s

    pub exception_tasks : (n : ℕ) → (exception_declared p n s).tasks ≡ s.tasks
    exception_tasks n = exception_so (slice_get p.exception_rows n)

    -- each declaration
    declared_step :
        (t : Task) → IsDeclaration t → s.end ≡ None → Roomy s (λ types. TaskIsThere types t) → Declared s (acted t p s)
    unfolding acted acted_on_data acted_in_group
    declared_step (task.TypeDeclared t) is on there = type_step t (acted_kept l p s s kept (task.TypeDeclared t) on there)
    declared_step (task.FieldDeclared None vars) is on there = record { leaves = leaves_here s kept; all = all }
    declared_step (task.FieldDeclared (Some n) vars) is on there =
        field_step (slice_get p.field_rows n) n vars there (acted_kept l p s s kept (task.FieldDeclared (Some n) vars) on there)
    declared_step (task.VariantDeclared None vars) is on there = record { leaves = leaves_here s kept; all = all }
    declared_step (task.VariantDeclared (Some n) vars) is on there =
        variant_step (slice_get p.variant_rows n) n vars there
        (acted_kept l p s s kept (task.VariantDeclared (Some n) vars) on there)
    declared_step (task.EffectDeclared n) is on there = effect_step (slice_get p.effect_rows n)
    declared_step _ is on there = absurd is

  -- all of them
  pub record AllDeclared (s e : Inference) : Type 0 where
    pub leaves : Leaves p scope s e
    pub idle : e.tasks ≡ []

  finished_so :
      (steps : ℕ)
      → ((s : Inference) → Kept s s → AllByRecursion IsDeclaration s.tasks → (finished steps p s).end ≡ None → AllDeclared s
      (finished steps p s))
      → (s : Inference) (o : Option End) (ts : List Task) → s.end ≡ o → s.tasks ≡ ts → Kept s s → AllByRecursion IsDeclaration ts
      → (onward (next_of o ts s).task (next_of o ts s).state (λ t. finished steps p (acted t p (next_of o ts s).state))).end ≡ None
      → AllDeclared s
      (onward (next_of o ts s).task (next_of o ts s).state (λ t. finished steps p (acted t p (next_of o ts s).state)))
  finished_so steps others s (Some e) ts is has kept all on = absurd (cc)
  finished_so steps others s None [] is has kept all on = record { leaves = leaves_here s kept; idle = has }
  finished_so steps others s None (t ∷ ts) is has kept all on =
      let u : Inference = record s { tasks = ts } in
      let there : Roomy s (λ types. AllByRecursion (TaskIsThere types) (t ∷ ts)) = λ room.
      subst (AllByRecursion (TaskIsThere (length s.types.nodes))) has (kept.whole room).numbers.tasks_there in
      let u_kept = left_kept s s ts kept (λ room. (there room).1) in
      let u_here = kept_here s u u_kept in
      let step = declared_step u u_here all.1 t all.0 is (λ room. (there room).0) in
      let after = acted t p u in
      let rest = others after (kept_here u after step.leaves.kept) step.all on in
      record {
        leaves =
            leaves_on p scope s u (finished steps p after) (leaves_kept p scope s u u_kept refl refl)
            (leaves_on p scope u after (finished steps p after) step.leaves rest.leaves);
        idle = rest.idle;
      }

  pub declared_finished :
      (steps : ℕ) (s : Inference) → Kept s s → AllByRecursion IsDeclaration s.tasks → (finished steps p s).end ≡ None
      → AllDeclared s (finished steps p s)
  unfolding finished
  declared_finished zero s kept all on = absurd (cc)
  declared_finished (suc steps) s kept all on = finished_so steps (declared_finished steps) s s.end s.tasks refl refl kept all on
