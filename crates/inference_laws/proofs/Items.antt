-- What is kept where items are taken, and at the end of a walk.
use Rattle.std.proofs.Common.{ℕ, ◌+◌, List, [], ◌∷◌, length, map, Option, Some, None, Bool, true, false, ◌==◌, arith, min, refl}
use Rattle.fx_base.specs.declared.refusal.Place.{Place}
use Rattle.effect_meaning.specs.declared.core_nodes.Function.{Function}
use Rattle.effect_meaning.specs.declared.core_tables.Item.{Item}
use Rattle.effect_meaning.specs.declared.core_tables.ItemForm.{ItemForm}
use Rattle.effect_meaning.specs.declared.core_tables.ItemForm.TheVariants as item
use Rattle.effect_meaning.specs.Arena.{Parts}
use Rattle.ml_infer.specs.declared.inference.End.{End}
use Rattle.ml_infer.specs.declared.inference.Inference.{Inference}
use Rattle.ml_infer.specs.declared.inference.NameType.TheVariants.{One, Generalised}
use Rattle.ml_infer.specs.declared.tasks.Task.{Task}
use Rattle.ml_infer.specs.declared.tasks.Task.TheVariants as task
use Rattle.ml_infer.specs.Inference.{begun, one_type}
use Rattle.ml_infer.specs.Items.{bound_outer, defined, defined_as, defined_rec, definition_noted, destructured, done, generalised, generalised_each, given_outer, is_function_at, item_of, item_taken, item_while, items_taken, outer_from_here, term_found}
use Rattle.ml_infer.specs.Patterns.{whole_pattern}
use Rattle.ml_infer.specs.Tasks.{first, first_one}
use Rattle.ml_infer.specs.Terms.{functions_first}
use Rattle.ml_infer.specs.Verdict.{walked}
use Rattle.ml_infer.specs.Written.{refused_unless}
use Rattle.inference_laws.specs.Whole.{TaskIsThere}
use Rattle.inference_laws.specs.Laws.{TaskKeepsWhole, WalkIsWhole}
use Rattle.inference_laws.proofs.Each.{each_made}
use Rattle.inference_laws.proofs.Kept.{Kept, Has, kept_here, has_later}
use Rattle.inference_laws.proofs.Fields.{counted_kept, definition_kept, first_kept, first_one_kept, name_kept, refused_unless_kept, unbound_kept}
use Rattle.inference_laws.proofs.GraphLaws.{GraphLaws}
use Rattle.inference_laws.proofs.Steps.{ended_kept, one_kept, outer_kept, taken_kept}
use Rattle.inference_laws.proofs.Written.{Gave}
use Rattle.inference_laws.proofs.Patterns.{whole_pattern_kept}
use Rattle.inference_laws.proofs.Terms.{functions_kept}
use Rattle.inference_laws.proofs.Walk.{acted_kept, exception_kept, finished_kept}

module _ (l : GraphLaws) (p : Parts) where
  done_kept : (s0 s : Inference) → Kept s0 s → Kept s0 (done p s)
  done_kept s0 s kept = finished_kept l p 18446744073709551615 s0 s kept

  -- tasks without types are done
  tasks_done :
      (s0 s : Inference) (make : ℕ → Task) (ns : List ℕ) → ((types n : ℕ) → TaskIsThere types (make n)) → Kept s0 s
      → Kept s0 (done p (first (map make ns) s))
  tasks_done s0 s make ns there kept =
      done_kept s0 (first (map make ns) s)
      (first_kept s0 s (map make ns) kept (λ room. each_made (TaskIsThere (length s.types.nodes)) make
      (there (length s.types.nodes)) ns))

  -- the type of a term
  pub found_kept : (s0 s : Inference) (n : ℕ) → Kept s0 s → Gave s0 (term_found p n s)
  found_kept s0 s n kept =
      let after = done p (first_one (task.Term n) s) in
      taken_kept l s0 after (done_kept s0 (first_one (task.Term n) s) (first_one_kept s0 s (task.Term n) kept (λ room. tt)))

  -- types become outer that are fewer than all types
  outer_one : (s0 s : Inference) (t : ℕ) → Kept s0 s → Has s t → Kept s0 (outer_from_here (t ∷ []) s)
  outer_one s0 s t kept has = outer_kept l s0 s (t ∷ []) kept (λ room. (has room, tt)) (λ room. omega arith)

  pub defined_so : (s0 s : Inference) (is : Bool) (x t : ℕ) → Kept s0 s → Has s t → Kept s0 (defined_as is x t s)
  defined_so s0 s true x t kept has = name_kept s0 s x (Generalised t) kept has tt
  defined_so s0 s false x t kept has =
      let o = outer_one s0 s t kept has in
      let here = outer_one s s t (kept_here s0 s kept) has in
      let after = outer_from_here (t ∷ []) s in
      name_kept s0 after x (One t after.pattern) o (has_later s after t here has) (omega arith)

  -- the type of a definition is noted
  pub noted_kept :
      (s0 s : Inference) (t : ℕ) → Kept s0 s → Has s t
      → Kept s0 (definition_noted t (given_outer s)) × Has (definition_noted t (given_outer s)) t
  noted_kept s0 s t kept has =
      let here = ended_kept l s s (kept_here s0 s kept) in
      let there = has_later s (given_outer s) t here has in
      (definition_kept s0 (given_outer s) t (ended_kept l s0 s kept) there, there)

  defined_kept : (s0 s : Inference) (x n : ℕ) → Kept s0 s → Kept s0 (defined p x n s)
  defined_kept s0 s x n kept =
      let t = term_found p n s in
      let k = found_kept s0 s n kept in
      let noted = noted_kept s0 t.state t.found k.0 k.1 in
      defined_so s0 (definition_noted t.found (given_outer t.state)) (is_function_at 4294967295 p n) x t.found noted.0 noted.1

  -- what a pattern binds becomes outer
  pub bound_outer_kept : (s0 s : Inference) (t : ℕ) → Kept s0 s → Has s t → Kept s0 (bound_outer t s)
  bound_outer_kept s0 s t kept has =
      outer_kept l s0 (record s { bound = [] }) (t ∷ s.bound) (unbound_kept s0 s kept)
      (λ room. (has room, (kept.whole room).numbers.bound_there))
      (λ room. let few = (kept.whole room).numbers.bound_few in let most = room.types in omega arith)

  destructured_kept : (s0 s : Inference) (q n : ℕ) → Kept s0 s → Kept s0 (destructured p q n s)
  destructured_kept s0 s q n kept =
      let t = term_found p n s in
      let k = found_kept s0 s n kept in
      let begun_pattern = whole_pattern q t.found t.state in
      let w = whole_pattern_kept s0 t.state q t.found k.0 k.1 in
      let w_here = whole_pattern_kept t.state t.state q t.found (kept_here s0 t.state k.0) k.1 in
      let d = done_kept s0 begun_pattern w in
      let d_here = done_kept t.state begun_pattern w_here in
      let after = done p begun_pattern in
      let there = has_later t.state after t.found d_here k.1 in
      bound_outer_kept s0 (definition_noted t.found after) t.found (definition_kept s0 after t.found d there) there

  -- the functions of a group are generalised
  generalised_kept : (s0 s : Inference) (x : ℕ) → Kept s0 s → Kept s0 (generalised x s)
  generalised_kept s0 s x kept =
      let t = one_type x s in
      let o = one_kept l s0 s kept x in
      name_kept s0 (definition_noted t.found t.state) x (Generalised t.found) (definition_kept s0 t.state t.found o.0 o.1) o.1 tt

  pub each_generalised : (s0 s : Inference) (fs : List Function) → Kept s0 s → Kept s0 (generalised_each fs s)
  each_generalised s0 s [] kept = kept
  each_generalised s0 s (f ∷ fs) kept = each_generalised s0 (generalised f.name s) fs (generalised_kept s0 s f.name kept)

  group_kept : (s0 s : Inference) (fs : List Function) → Kept s0 s → Kept s0 (defined_rec p fs s)
  group_kept s0 s fs kept =
      let after = done p (functions_first fs s) in
      let d = done_kept s0 (functions_first fs s) (functions_kept l p s0 s kept fs) in
      each_generalised s0 (given_outer after) fs (ended_kept l s0 after d)

  -- an item
  pub form_kept : (s0 s : Inference) (f : ItemForm) (at : Place) → Kept s0 s → Kept s0 (item_of f p at s)
  unfolding item_of
  form_kept s0 s (item.Types ts) at kept = tasks_done s0 s (λ t. task.TypeDeclared t) ts (λ types n. tt) kept
  form_kept s0 s (item.Exception n) at kept = exception_kept l p s0 s kept n
  form_kept s0 s (item.Effects extended ns) at kept =
      tasks_done s0 (refused_unless (extended == 10) at s) (λ n. task.EffectDeclared n) ns (λ types n. tt)
      (refused_unless_kept s0 s (extended == 10) at kept)
  form_kept s0 s (item.Define x n) at kept = defined_kept s0 s x n kept
  form_kept s0 s (item.Destructure q n) at kept = destructured_kept s0 s q n kept
  form_kept s0 s (item.DefineRec fs) at kept = group_kept s0 s fs kept
  form_kept s0 s (item.Evaluate n) at kept = (found_kept s0 s n kept).0

  while_kept : (s0 s : Inference) (o : Option End) (x : Item) → Kept s0 s → Kept s0 (item_while o p x s)
  while_kept s0 s (Some e) x kept = kept
  while_kept s0 s None x kept =
      let t = item_of x.form p x.place s in
      let k = ended_kept l s0 t (form_kept s0 s x.form x.place kept) in
      let g = given_outer t in
      counted_kept s0 g g.records g.equations (min (g.item + 1) 18446744073709551615) g.naming g.last k

  pub items_kept : (s0 s : Inference) (xs : List Item) → Kept s0 s → Kept s0 (items_taken p xs s)
  items_kept s0 s [] kept = kept
  items_kept s0 s (x ∷ xs) kept = items_kept s0 (item_taken p x s) xs (while_kept s0 s s.end x kept)

  -- a walk begins whole
  pub begun_kept : (most : ℕ) → Kept (begun p most) (begun p most)
  begun_kept most = record {
    types = omega arith;
    arguments = omega arith;
    first = omega arith;
    ended = λ e. e;
    reads = λ room e f is. is;
    outer = λ room e n low is. is;
    counted = refl;
    numbered = λ h. h;
    whole =
        λ room. record {
          types = record { well = l.first_form; giving = λ e. l.first_giving; built_in = omega arith };
          tables = record { read_there = tt; variables_there = tt; names_there = tt };
          numbers = record {
            bound_there = tt;
            bound_few = omega arith;
            given_there = tt;
            definitions_there = tt;
            comparisons_there = tt;
            tasks_there = tt;
          };
        };
  }

  pub walked_kept : (most : ℕ) → Kept (begun p most) (walked p most)
  walked_kept most = items_kept (begun p most) (begun p most) p.items (begun_kept most)

-- the laws
module _ (l : GraphLaws) where
  pub walk_is_whole_law : WalkIsWhole
  walk_is_whole_law p most room = (walked_kept l p most).whole room

  pub task_keeps_whole_law : TaskKeepsWhole
  task_keeps_whole_law t p s on whole there room =
      let here : Kept s s = record {
        types = omega arith;
        arguments = omega arith;
        first = whole.types.built_in;
        ended = λ e. e;
        reads = λ r e f is. is;
        outer = λ r e n low is. is;
        counted = refl;
        numbered = λ h. h;
        whole = λ r. whole;
      } in
      (acted_kept l p s s here t on (λ r. there)).whole room
