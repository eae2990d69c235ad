-- The walk over a tuple, an array and an operation with its parts gives what the rules of terms say.
use Rattle.std.proofs.Common.{◌≡◌, ℕ, zero, suc, ◌≤◌, List, [], ◌∷◌, ◌++◌, length, Some, None, Bool, true, false, ◌==◌, if◌then◌else◌, refl, sym, ◌∙◌, ap, arith, append_assoc, slice_get, map, take, ⊎_elim}
use Rattle.std.specs.Prelude.{zip}
use Rattle.std.specs.List.{AllByRecursion}
use Rattle.std.proofs.lemmas.Bool.Decides.{eqb_tells}
use Rattle.fx_base.specs.declared.refusal.Place.{Place}
use Rattle.effect_meaning.specs.declared.core_nodes.Operation.{Operation}
use Rattle.effect_meaning.specs.declared.core_nodes.Operation.TheVariants as operation
use Rattle.effect_meaning.specs.declared.core_nodes.TermForm.TheVariants as form
use Rattle.effect_meaning.specs.declared.core_nodes.TermNode.{TermNode}
use Rattle.effect_meaning.specs.Arena.{Parts}
use Rattle.effect_meaning.specs.ArenaTrees.{operation_of, terms_at, terms_of}
use Rattle.effect_meaning.specs.Terms.{Tuple, Array, Prim}
use Rattle.type_terms.specs.TypeTrees.{Ty, array}
use Rattle.type_graph.specs.declared.signatures.Signature.{Signature}
use Rattle.type_graph.specs.Graph.{applied, built_in}
use Rattle.type_graph.specs.Signatures.{signature_of}
use Rattle.type_readings.specs.Readings.{Reads, trees_of}
use Rattle.ml_infer.specs.declared.inference.Compared.{Compared}
use Rattle.ml_infer.specs.declared.inference.Inference.{Inference}
use Rattle.ml_infer.specs.declared.tasks.Task.{Task}
use Rattle.ml_infer.specs.declared.tasks.Task.TheVariants as task
use Rattle.ml_infer.specs.Constructors.{new_variables}
use Rattle.ml_infer.specs.Inference.{new_variable, refused}
use Rattle.ml_infer.specs.Tasks.{first, first_one, term_tasks}
use Rattle.ml_infer.specs.Terms.{compared, data_term, plain_term, primitive_of, term_of}
use Rattle.inference_laws.specs.Meanings.{LeadsTo}
use Rattle.inference_laws.proofs.Kept.{HasAll, kept_here, room_before}
use Rattle.inference_laws.proofs.GraphLaws.{GraphLaws}
use Rattle.inference_laws.proofs.Steps.{inner_made, variable_is, variable_made}
use Rattle.inference_laws.proofs.Constructors.{variables_made}
use Rattle.inference_laws.proofs.Instances.{many_numbers, new_numbers, variables_lead}
use Rattle.inference_laws.proofs.Leading.{leads_on, made_leads, type_is_read, type_leads, variable_leads}
use Rattle.inference_laws.proofs.Runs.{left}
use Rattle.inference_laws.proofs.Grounds.{Tops, scope_of}
use Rattle.inference_laws.proofs.Following.{follows_on}
use Rattle.inference_laws.proofs.Signatures.{signed_kept}
use Rattle.inference_laws.proofs.TasksDone.{task_left}
use Rattle.inference_laws.proofs.TermsDone.{FormIsRuled, Rule}
use Rattle.inference_laws.proofs.PartsDone.{each_done, entered_on, entered_with, given_last, not_refused, parts_end, terms_done}

-- as many types are new as are asked for
pub as_many : (many : ℕ) (s : Inference) → length (new_variables many s).value ≡ many
as_many many s =
    ap (λ (ns : List ℕ). length ns) (new_numbers many s) ∙ many_numbers (length s.types.nodes) many

-- of longer lists the first elements are zipped
zip_first : (ns ts : List ℕ) → zip ns (take (length ns) ts) ≡ zip ns ts
zip_first [] ts = refl
zip_first (n ∷ ns) [] = refl
zip_first (n ∷ ns) (t ∷ ts) = ap (λ (ps : List (ℕ × ℕ)). (n, t) ∷ ps) (zip_first ns ts)

first_tasks : (ns ts : List ℕ) (many : ℕ) → length ns ≡ many → term_tasks ns ts ≡ term_tasks ns (take many ts)
first_tasks ns ts many same =
    ap (λ (ps : List (ℕ × ℕ)). map (λ (x : ℕ × ℕ). task.TermIs x.0 x.1) ps)
    (sym (zip_first ns ts) ∙ ap (λ k. zip ns (take k ts)) same)

first_many : (many : ℕ) (ts : List ℕ) → many ≤ length ts → length (take many ts) ≡ many
first_many zero ts few = refl
first_many (suc many) [] few = absurd (omega arith)
first_many (suc many) (t ∷ ts) few = ap suc (first_many many ts (omega arith))

-- where a comparison is noted, nothing else changes
compared_is :
    (op : Operation) (at : Place) (g : Signature) (s : Inference)
    → compared op at g s ≡ record s { comparisons = (compared op at g s).comparisons }
compared_is (operation.Compare o) at g s = refl
compared_is _ at g s = refl

compared_leads :
    (p : Parts) (s t : Inference) (cs : List Compared) → LeadsTo p s t → LeadsTo p s (record t { comparisons = cs })
compared_leads p s t cs leads = record {
  rest = record {
    same_tasks = leads.rest.same_tasks;
    same_given = leads.rest.same_given;
    same_names = leads.rest.same_names;
    same_item = leads.rest.same_item;
    same_pattern = leads.rest.same_pattern;
  };
  stay = leads.stay;
  meant = leads.meant;
}

-- the walk goes on only where a test holds
pub holds_on : (b : Bool) (at : Place) (s t : Inference) → (if b then s else refused at t).end ≡ None → b ≡ true
holds_on true at s t on = refl
holds_on false at s t on = absurd (not_refused at t on)

pub equals : (m n : ℕ) → (m == n) ≡ true → m ≡ n
equals m n is = ⊎_elim (λ e. e.1) (λ e. absurd (cc)) (eqb_tells m n)

module _ (l : GraphLaws) (p : Parts) (f : ℕ → Ty) (tops : Tops) (vs : ℕ → Ty) where
  -- a tuple
  pub tuple_ruled :
      (n : ℕ) (at : Place) (ns : List ℕ) → slice_get p.terms n ≡ Some (record { place = at; form = form.Tuple ns })
      → AllByRecursion (Rule l p f tops vs) ns
      → FormIsRuled l p f tops vs n (record { place = at; form = form.Tuple ns }) (Tuple (terms_at (terms_of p) ns))
  unfolding term_of plain_term data_term
  tuple_ruled n at ns is rules sc names rest k s e d ending ground scope scoped =
      let scope_here = scope_of tops names in
      let before = (task_left l p rest k (task.Term n) s e d ground.here).0 in
      let here : Inference = left rest s in
      let many = length ns in
      let r = new_variables many here in
      let made = variables_made l many s here before in
      let c = length r.state.types.nodes in
      let tasks = term_tasks ns r.value in
      let last = task.Give c ∷ [] in
      let m : Inference = record r.state { types = applied 16 r.value false r.state.types } in
      let r_here = kept_here s r.state made.kept in
      let m_kept = inner_made l r.state r.state 16 r.value r_here made.there in
      let lead = variables_lead l p many s here before in
      let leads = leads_on p here r.state m m_kept lead (type_leads l s r.state made.kept 16 r.value p made.there) in
      let put : tasks ++ (task.Give c ∷ r.state.tasks) ≡ (tasks ++ last) ++ rest =
      ap (λ (us : List Task). tasks ++ (task.Give c ∷ us)) lead.rest.same_tasks ∙ sym (append_assoc tasks last rest) in
      let node : TermNode = record { place = at; form = form.Tuple ns } in
      let en =
      entered_with l p f tops vs n node is names rest (tasks ++ last) k s m e d ending ground
      (ap (λ (us : List Task). record m { tasks = us }) put) leads in
      let s1 : Inference = record m { tasks = (tasks ++ last) ++ rest } in
      let q = parts_end l p f tops vs rest en.steps tasks last s1 e en.others en.here ending in
      let terms =
      terms_done l p f tops vs ns r.value (sym (as_many many here)) rules sc names (last ++ rest) q.first_steps s1 q.middle
      q.first_part
      q.ending en.ground scope scoped in
      let tree_is =
      type_is_read l s r.state made.kept 16 r.value false f (room_before r.state m m_kept en.ending.room) en.ending.reads in
      given_last l p f tops vs names (Tuple (terms_at (terms_of p) ns)) rest q.other_steps c s q.middle e q.other_part q.here
      (terms.asked.gives ∙ leads.rest.same_given) (follows_on p scope_here s s1 q.middle en.follows terms.asked.follows)
      (λ agree. (trees_of f r.value, terms.typed agree, tree_is))

  -- an array
  pub array_ruled :
      (n : ℕ) (at : Place) (ns : List ℕ) → slice_get p.terms n ≡ Some (record { place = at; form = form.Array ns })
      → AllByRecursion (Rule l p f tops vs) ns
      → FormIsRuled l p f tops vs n (record { place = at; form = form.Array ns }) (Array (terms_at (terms_of p) ns))
  unfolding term_of plain_term data_term
  array_ruled n at ns is rules sc names rest k s e d ending ground scope scoped =
      let scope_here = scope_of tops names in
      let before = (task_left l p rest k (task.Term n) s e d ground.here).0 in
      let here : Inference = left rest s in
      let t = length s.types.nodes in
      let r : Inference = (new_variable here).state in
      let made = variable_made l s here before in
      let there : HasAll r (t ∷ []) = λ room. (variable_is l s here room, tt) in
      let c = length r.types.nodes in
      let tasks : List Task = map (λ (a : ℕ). task.TermIs a t) ns in
      let last = task.Give c ∷ [] in
      let m : Inference = record r { types = applied 9 (t ∷ []) false r.types } in
      let m_kept = inner_made l r r 9 (t ∷ []) (kept_here s r made) there in
      let leads = leads_on p here r m m_kept (variable_leads l s here before p) (type_leads l s r made 9 (t ∷ []) p there) in
      let node : TermNode = record { place = at; form = form.Array ns } in
      let en =
      entered_with l p f tops vs n node is names rest (tasks ++ last) k s m e d ending ground
      (ap (λ (us : List Task). record m { tasks = us }) (sym (append_assoc tasks last rest))) leads in
      let s1 : Inference = record m { tasks = (tasks ++ last) ++ rest } in
      let q = parts_end l p f tops vs rest en.steps tasks last s1 e en.others en.here ending in
      let terms =
      each_done l p f tops vs ns t rules sc names (last ++ rest) q.first_steps s1 q.middle q.first_part q.ending en.ground scope
      scoped in
      let tree_is : f c ≡ array (f t) =
      type_is_read l s r made 9 (t ∷ []) false f (room_before r m m_kept en.ending.room) en.ending.reads in
      given_last l p f tops vs names (Array (terms_at (terms_of p) ns)) rest q.other_steps c s q.middle e q.other_part q.here
      (terms.asked.gives ∙ leads.rest.same_given) (follows_on p scope_here s s1 q.middle en.follows terms.asked.follows)
      (λ agree. (f t, tree_is, terms.typed agree))

  -- an operation with its parts
  pub primitive_ruled :
      (n : ℕ) (at : Place) (op : Operation) (ns : List ℕ)
      → slice_get p.terms n ≡ Some (record { place = at; form = form.Primitive op ns }) → Reads f built_in
      → AllByRecursion (Rule l p f tops vs) ns
      → FormIsRuled l p f tops vs n (record { place = at; form = form.Primitive op ns })
      (Prim (operation_of op) (terms_at (terms_of p) ns))
  unfolding term_of plain_term data_term
  primitive_ruled n at op ns is built rules sc names rest k s e d ending ground scope scoped =
      let scope_here = scope_of tops names in
      let before = (task_left l p rest k (task.Term n) s e d ground.here).0 in
      let here : Inference = left rest s in
      let g = (signature_of op here.types).signature in
      let u : Inference = record here { types = (signature_of op here.types).types } in
      let with_last : Inference = first_one (task.Give g.gives) u in
      let m : Inference = record u { comparisons = (compared op at g with_last).comparisons } in
      let parts = take g.count g.parts in
      let tasks = term_tasks ns parts in
      let last = task.Give g.gives ∷ [] in
      let node : TermNode = record { place = at; form = form.Primitive op ns } in
      let on = entered_on l p f tops vs n node is rest k s e d ground.here ending in
      let test =
      holds_on (length ns == g.count) at (first (term_tasks ns g.parts) (compared op at g with_last)) with_last on in
      let same : length ns ≡ g.count = equals (length ns) g.count test in
      let numbers = l.signature_numbers op here.types before.first in
      let leads =
      compared_leads p here u m.comparisons (made_leads l s here before p u.types (l.signature_made op here.types before.first)) in
      let put : term_tasks ns g.parts ++ (task.Give g.gives ∷ rest) ≡ (tasks ++ last) ++ rest =
      ap (λ (us : List Task). us ++ (task.Give g.gives ∷ rest)) (first_tasks ns g.parts g.count same) ∙ sym
      (append_assoc tasks last rest) in
      let s1 : Inference = record m { tasks = (tasks ++ last) ++ rest } in
      let step : primitive_of op at ns g u ≡ s1 =
      ap (λ (b : Bool). if b then first (term_tasks ns g.parts) (compared op at g with_last) else refused at with_last) test
      ∙ (ap (λ (x : Inference). first (term_tasks ns g.parts) x) (compared_is op at g with_last)
      ∙ ap (λ (us : List Task). record m { tasks = us }) put) in
      let en = entered_with l p f tops vs n node is names rest (tasks ++ last) k s m e d ending ground step leads in
      let q = parts_end l p f tops vs rest en.steps tasks last s1 e en.others en.here ending in
      let terms =
      terms_done l p f tops vs ns parts (same ∙ sym (first_many g.count g.parts numbers.count)) rules sc names (last ++ rest)
      q.first_steps s1 q.middle q.first_part q.ending en.ground scope scoped in
      let here_room = room_before here u (signed_kept l here here op (kept_here s here before)) en.ending.room in
      let has =
      l.signature_sound op here.types f (before.whole here_room).types.well before.first built en.ending.room.types
      en.ending.room.arguments en.ending.reads in
      given_last l p f tops vs names (Prim (operation_of op) (terms_at (terms_of p) ns)) rest q.other_steps g.gives s q.middle e
      q.other_part q.here (terms.asked.gives ∙ leads.rest.same_given)
      (follows_on p scope_here s s1 q.middle en.follows terms.asked.follows) (λ agree. (trees_of f parts, terms.typed agree, has))
