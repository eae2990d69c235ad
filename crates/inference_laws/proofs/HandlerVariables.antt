-- The type variable that a handler names: in each clause it stands for what the clause's effect gives, and behind the clause for
-- what it stood for before.
use Rattle.std.proofs.Common.{◌≡◌, ℕ, ◌<◌, List, [], ◌∷◌, length, Option, Some, None, Bool, false, ◌==◌, if◌then◌else◌, refl, sym, ◌∙◌, ap, subst, ⊎_elim}
use Rattle.std.specs.Prelude.{IsTrue, option_map}
use Rattle.std.proofs.lemmas.Bool.Decides.{eqb_tells}
use Rattle.fx_base.specs.declared.refusal.Place.{Place}
use Rattle.effect_meaning.specs.Arena.{Parts, IsArena}
use Rattle.effect_meaning.specs.ArenaTrees.{program, type_at, types_of}
use Rattle.effect_meaning.specs.Scoped.{holds}
use Rattle.type_graph.specs.Graph.{applied}
use Rattle.type_terms.specs.TypeTrees.{Ty, effect}
use Rattle.type_terms.specs.WrittenTypes.{IfWritten, Means}
use Rattle.type_terms.specs.Contexts.{Names}
use Rattle.type_readings.specs.Readings.{Reads}
use Rattle.ml_infer.specs.declared.inference.Inference.{Inference}
use Rattle.ml_infer.specs.declared.inference.KnownVariable.{KnownVariable}
use Rattle.ml_infer.specs.declared.tasks.Task.{Task}
use Rattle.ml_infer.specs.declared.tasks.Task.TheVariants as task
use Rattle.ml_infer.specs.declared.written.Variables.TheVariants as variables
use Rattle.ml_infer.specs.Handlers.{parameter_entered, variable_entered, variable_leaves}
use Rattle.ml_infer.specs.Inference.{Gives, equated}
use Rattle.ml_infer.specs.Known.{known, put}
use Rattle.ml_infer.specs.Tasks.{first}
use Rattle.ml_infer.specs.Walk.{acted, acted_in_group, acted_on_data}
use Rattle.ml_infer.specs.Written.{written}
use Rattle.inference_laws.specs.Whole.{HasRoom, IfKnown}
use Rattle.inference_laws.specs.Meanings.{LeadsTo, ReadsAreMeant, VariablesAgree}
use Rattle.inference_laws.proofs.Kept.{Kept, Has, has_later, kept_here, kept_on, room_before}
use Rattle.inference_laws.proofs.Fields.{variable_kept}
use Rattle.inference_laws.proofs.GraphLaws.{GraphLaws}
use Rattle.inference_laws.proofs.Steps.{equated_kept, inner_made, type_is}
use Rattle.inference_laws.proofs.Written.{written_kept}
use Rattle.inference_laws.proofs.Handlers.{leaves_kept}
use Rattle.inference_laws.proofs.Noting.{noted_other, noted_same, put_other}
use Rattle.inference_laws.proofs.Leading.{agree_before, equated_equal, equated_leads, leads_here, leads_on, type_is_read, type_leads}
use Rattle.inference_laws.proofs.WrittenMeant.{written_leads, written_meant}
use Rattle.inference_laws.proofs.Runs.{Does}
use Rattle.inference_laws.proofs.Grounds.{Tops, scope_of, Ground, Follows}
use Rattle.inference_laws.proofs.Following.{ground_later}
use Rattle.inference_laws.proofs.Doing.{does_kept}
use Rattle.inference_laws.proofs.TasksDone.{once_done}
use Rattle.inference_laws.proofs.Opening.{follows_here}

-- it is another type variable than this one
abbrev pub IsOther : Option ℕ → ℕ → Type 0
IsOther None v = Unit {0}
IsOther (Some w) v = v ≡ w → ⊥

-- a state behind another one, where this type variable may stand for something else
pub record FollowsBut (p : Parts) (o : Option ℕ) (scope : List ℕ) (s e : Inference) : Type 0 where
  pub kept : Kept s e
  pub item : e.item ≡ s.item
  pub stay : (v : ℕ) (k : KnownVariable) → IsOther o v → known s.variables v ≡ Some k → k.item ≡ s.item
      → known e.variables v ≡ Some k
  pub meant : HasRoom e.types → e.end ≡ None → ReadsAreMeant p s → ReadsAreMeant p e
  pub same : (x : ℕ) → IsTrue (holds scope x) → known e.names x ≡ known s.names x

-- the other type variables stand for these trees
abbrev pub OthersAgree : Option ℕ → (f vs : ℕ → Ty) → Inference → Type 0
OthersAgree o f vs s = (v : ℕ) (k : KnownVariable) → IsOther o v → known s.variables v ≡ Some k → k.item ≡ s.item → vs v ≡ f k.found

-- this one stands for a type
abbrev pub StandsFor : Option ℕ → ℕ → Inference → Type 0
StandsFor None x s = Unit {0}
StandsFor (Some w) x s = known s.variables w ≡ Some (record { item = s.item; found = x })

-- and for a tree, beside the others
abbrev pub with_answer : Option ℕ → Ty → (ℕ → Ty) → ℕ → Ty
with_answer o r vs v = elim o [ None ↦ vs v | Some a ↦ if v == a then r else vs v ]

abbrev found_in : Option KnownVariable → ℕ
found_in None = 0
found_in (Some k) = k.found

pub answer_agrees :
    (f vs : ℕ → Ty) (o : Option ℕ) (x : ℕ) (s : Inference) → OthersAgree o f vs s → StandsFor o x s
    → VariablesAgree f (with_answer o (f x) vs) s
answer_agrees f vs None x s others stands v k is item = others v k tt is item
answer_agrees f vs (Some w) x s others stands v k is item =
    ⊎_elim
    (λ h.
    let same : Some k ≡ Some (record { item = s.item; found = x }) = sym is ∙ ap (known s.variables) h.1 ∙ stands in
    ap (λ (b : Bool). if b then f x else vs v) h.0 ∙ found_of k x same)
    (λ h. ap (λ (b : Bool). if b then f x else vs v) h.0 ∙ others v k h.1 is item) (eqb_tells v w)
  where
    found_of : (k : KnownVariable) (x : ℕ) → Some k ≡ Some (record { item = s.item; found = x }) → f x ≡ f k.found
    found_of k x same = ap (λ o. f (found_in o)) (sym same)

module _ (p : Parts) (o : Option ℕ) where
  pub but_follows : (scope : List ℕ) (s e : Inference) → Follows p scope s e → FollowsBut p o scope s e
  but_follows scope s e a = record {
    kept = a.kept;
    item = a.item;
    stay = λ v k other is item. a.stay v k is item;
    meant = a.meant;
    same = a.same;
  }

  pub but_on : (scope : List ℕ) (s m e : Inference) → FollowsBut p o scope s m → FollowsBut p o scope m e → FollowsBut p o scope s e
  but_on scope s m e a b = record {
    kept = kept_on s m e a.kept b.kept;
    item = b.item ∙ a.item;
    stay = λ v k other is item. b.stay v k other (a.stay v k other is item) (item ∙ sym a.item);
    meant = λ room on meant. b.meant room on (a.meant (room_before m e b.kept room) (b.kept.ended on) meant);
    same = λ x is. b.same x is ∙ a.same x is;
  }

  pub others_before : (f vs : ℕ → Ty) (scope : List ℕ) (s e : Inference) → FollowsBut p o scope s e → OthersAgree o f vs e
      → OthersAgree o f vs s
  others_before f vs scope s e a agree v k other is item = agree v k other (a.stay v k other is item) (item ∙ sym a.item)

  -- what a type variable stands for stays
  pub stands_later : (scope : List ℕ) (x : ℕ) (s e : Inference) → Follows p scope s e → StandsFor o x s → StandsFor o x e
  stands_later scope x s e a stands = stands_so o stands
    where
      stands_so : (o : Option ℕ) → StandsFor o x s → StandsFor o x e
      stands_so None stands = tt
      stands_so (Some w) stands =
          a.stay w (record { item = s.item; found = x }) stands refl
          ∙ ap (λ (i : ℕ). Some (record { item = i; found = x })) (sym a.item)

  -- so does what held where a term stood
  pub ground_but :
      (f : ℕ → Ty) (tops : Tops) (s e : Inference) (names : Names) → HasRoom e.types → e.end ≡ None → Ground p f tops s names
      → FollowsBut p o (scope_of tops names) s e → Ground p f tops e names
  ground_but f tops s e names room on g a =
      let t : Inference = record s { variables = [] } in
      let here : Kept t t = record {
        types = g.here.types;
        arguments = g.here.arguments;
        first = g.here.first;
        ended = g.here.ended;
        reads = g.here.reads;
        outer = g.here.outer;
        counted = g.here.counted;
        numbered = g.here.numbered;
        whole =
            λ r.
            let k = g.here.whole r in
            record {
              types = k.types;
              tables = record { read_there = k.tables.read_there; variables_there = tt; names_there = k.tables.names_there };
              numbers = k.numbers;
            };
      } in
      let before : Ground p f tops t names = record {
        here = here;
        meant = g.meant;
        locals = g.locals;
        counted = g.counted;
        globals = g.globals;
        outers = g.outers;
      } in
      let kept : Kept t e = record {
        types = a.kept.types;
        arguments = a.kept.arguments;
        first = a.kept.first;
        ended = a.kept.ended;
        reads = a.kept.reads;
        outer = a.kept.outer;
        counted = a.kept.counted;
        numbered = a.kept.numbered;
        whole = a.kept.whole;
      } in
      ground_later p f tops t e names room on before
      (record { kept = kept; item = a.item; stay = λ v k is item. absurd (cc); meant = a.meant; same = a.same })

  -- a clause is entered: the type variable stands for the answer
  pub entered_kept : (s0 s : Inference) (x : ℕ) → Kept s0 s → Has s x → Kept s0 (variable_entered o x s)
  entered_kept s0 s x kept has = kept_so o
    where
      kept_so : (o : Option ℕ) → Kept s0 (variable_entered o x s)
      kept_so None = kept
      kept_so (Some w) = variable_kept s0 s w x kept has

  pub entered_follows :
      (scope : List ℕ) (s : Inference) (x : ℕ) → Kept s s → Has s x → FollowsBut p o scope s (variable_entered o x s)
  entered_follows scope s x kept has = follows_so o
    where
      follows_so : (o : Option ℕ) → FollowsBut p o scope s (variable_entered o x s)
      follows_so None =
          record { kept = kept; item = refl; stay = λ v k other is item. is; meant = λ room on meant. meant; same = λ y is. refl }
      follows_so (Some w) = record {
        kept = variable_kept s s w x kept has;
        item = refl;
        stay = λ v k other is item. noted_other w v (record { item = s.item; found = x }) s.variables other ∙ is;
        meant = λ room on meant. meant;
        same = λ y is. refl;
      }

  pub entered_stands : (s : Inference) (x : ℕ) → StandsFor o x (variable_entered o x s)
  entered_stands s x = stands_so o
    where
      stands_so : (o : Option ℕ) → StandsFor o x (variable_entered o x s)
      stands_so None = tt
      stands_so (Some w) = noted_same w (record { item = s.item; found = x }) s.variables

-- where a type variable stands again for what it stood for, all do
abbrev pub StandsAgain : Option ℕ → (s e : Inference) → Type 0
StandsAgain None s e = Unit {0}
StandsAgain (Some w) s e = (k : KnownVariable) → known s.variables w ≡ Some k → known e.variables w ≡ Some k

pub follows_again :
    (p : Parts) (o : Option ℕ) (scope : List ℕ) (s e : Inference) → FollowsBut p o scope s e → StandsAgain o s e
    → Follows p scope s e
follows_again p o scope s e a again = record {
  kept = a.kept;
  item = a.item;
  stay = λ v k is item. stay_so o a.stay again v k is item;
  meant = a.meant;
  same = a.same;
}
  where
    stay_so :
        (o : Option ℕ)
        → ((v : ℕ) (k : KnownVariable) → IsOther o v → known s.variables v ≡ Some k → k.item ≡ s.item
        → known e.variables v ≡ Some k)
        → StandsAgain o s e → (v : ℕ) (k : KnownVariable) → known s.variables v ≡ Some k → k.item ≡ s.item
        → known e.variables v ≡ Some k
    stay_so None stay again v k is item = stay v k tt is item
    stay_so (Some w) stay again v k is item =
        ⊎_elim (λ h. subst (λ u. known e.variables u ≡ Some k) (sym h.1)
        (again k (subst (λ u. known s.variables u ≡ Some k) h.1 is)))
        (λ h. stay v k h.1 is item) (eqb_tells v w)

-- the task that lets a type variable stand again for what it stood for
abbrev pub was_tasks : Option ℕ → List (Option KnownVariable) → List Task
was_tasks None variables = []
was_tasks (Some w) variables = task.VariableWas w (known variables w) ∷ []

pub leaves_first : (o : Option ℕ) (s : Inference) → variable_leaves o s ≡ first (was_tasks o s.variables) s
leaves_first None s = refl
leaves_first (Some w) s = refl

module _ (l : GraphLaws) (p : Parts) where
  -- it is put first
  pub was_kept : (o : Option ℕ) (s0 s : Inference) → Kept s0 s → Kept s0 (first (was_tasks o s.variables) s)
  was_kept o s0 s kept = subst (Kept s0) (leaves_first o s) (leaves_kept l s0 s o kept)

  -- behind a clause its type variable stands again for what it stood for before
  pub record Again (o : Option ℕ) (scope : List ℕ) (s m e : Inference) : Type 0 where
    pub gives : e.given ≡ m.given
    pub follows : FollowsBut p o scope m e
    pub again : StandsAgain o s e

  pub again_done :
      (o : Option ℕ) (scope : List ℕ) (s : Inference) (rest : List Task) (k : ℕ) (m e : Inference)
      → Does p rest k (was_tasks o s.variables) m e
      → Kept m m → Again o scope s m e
  unfolding acted acted_on_data acted_in_group
  again_done None scope s rest k m e d kept =
      subst (Again None scope s m) d.1
      (record { gives = refl; follows = but_follows p None scope m m (follows_here l p scope m kept); again = tt })
  again_done (Some w) scope s rest k m e d kept =
      let was = known s.variables w in
      let once = once_done l p rest k (task.VariableWas w was) m e d refl kept in
      let t : Inference = record m { tasks = rest; variables = put w was m.variables } in
      let path : t ≡ e = once.is in
      let t_kept : Kept m t = subst (Kept m) (sym path) (does_kept l p rest k (task.VariableWas w was ∷ []) m m e d kept) in
      subst (Again (Some w) scope s m) path
      (record {
        gives = refl;
        follows = record {
          kept = t_kept;
          item = refl;
          stay = λ v k other is item. put_other w v was m.variables other ∙ is;
          meant = λ room on meant. meant;
          same = λ x is. refl;
        };
        again = λ k is. ap (λ (o : Option KnownVariable). known (put w o m.variables) w) is ∙ noted_same w k m.variables;
      })

-- the type of a handler's parameter
module _ (l : GraphLaws) (p : Parts) (arena : IsArena p) (at : Place) (s0 s : Inference) (kept : Kept s0 s) (x : ℕ) (has : Has s x)
  where
    abbrev now : ℕ → Gives
    now w = written p w variables.OfItem at s

    abbrev with_effect : ℕ → Inference
    with_effect w = let t = now w in record t.state { types = applied 10 (x ∷ []) false t.state.types }

    now_kept : (w : ℕ) → Kept s0 (now w).state × Has (now w).state (now w).found
    now_kept w = written_kept l p variables.OfItem at s0 s w kept (λ room. tt)

    now_here : (w : ℕ) → Kept s (now w).state
    now_here w = (written_kept l p variables.OfItem at s s w (kept_here s0 s kept) (λ room. tt)).0

    has_now : (w : ℕ) → Has (now w).state x
    has_now w = has_later s (now w).state x (now_here w) has

    effect_kept : (w : ℕ) → Kept s0 (with_effect w)
    effect_kept w = inner_made l s0 (now w).state 10 (x ∷ []) (now_kept w).0 (λ room. (has_now w room, tt))

    effect_here : (w : ℕ) → Kept (now w).state (with_effect w)
    effect_here w =
        inner_made l (now w).state (now w).state 10 (x ∷ []) (kept_here s0 (now w).state (now_kept w).0)
        (λ room. (has_now w room, tt))

    effect_is : (w : ℕ) → Has (with_effect w) (length (now w).state.types.nodes)
    effect_is w = type_is l s0 (now w).state 10 (x ∷ []) false

    has_found : (w : ℕ) → Has (with_effect w) (now w).found
    has_found w = has_later (now w).state (with_effect w) (now w).found (effect_here w) (now_kept w).1

    equal_here : (w : ℕ) → Kept (with_effect w) (equated at (now w).found (length (now w).state.types.nodes) (with_effect w))
    equal_here w =
        equated_kept l (with_effect w) (with_effect w) at (now w).found (length (now w).state.types.nodes)
        (kept_here s0 (with_effect w) (effect_kept w)) (has_found w) (effect_is w)

    equal_leads : (w : ℕ) → LeadsTo p (with_effect w) (equated at (now w).found (length (now w).state.types.nodes) (with_effect w))
    equal_leads w =
        equated_leads l s0 (with_effect w) (effect_kept w) at (now w).found (length (now w).state.types.nodes) p (has_found w)
        (effect_is w)

    effect_leads : (w : ℕ) → LeadsTo p (now w).state (with_effect w)
    effect_leads w = type_leads l s0 (now w).state (now_kept w).0 10 (x ∷ []) p (λ room. (has_now w room, tt))

    pub parameter_kept : (w : Option ℕ) → Kept s0 (parameter_entered w p at x s)
    parameter_kept None = kept
    parameter_kept (Some w) =
        equated_kept l s0 (with_effect w) at (now w).found (length (now w).state.types.nodes) (effect_kept w) (has_found w)
        (effect_is w)

    pub parameter_leads : (w : Option ℕ) → LeadsTo p s (parameter_entered w p at x s)
    parameter_leads None = leads_here p s
    parameter_leads (Some w) =
        let end = equated at (now w).found (length (now w).state.types.nodes) (with_effect w) in
        leads_on p s (now w).state end (kept_on (now w).state (with_effect w) end (effect_here w) (equal_here w))
        (written_leads l p arena s0 s kept variables.OfItem at (λ room. tt) w)
        (leads_on p (now w).state (with_effect w) end (equal_here w) (effect_leads w) (equal_leads w))

    pub parameter_meant :
        (w : Option ℕ) → IfKnown (λ n. n < length p.types) w → HasRoom (parameter_entered w p at x s).types
        → (parameter_entered w p at x s).end ≡ None → ReadsAreMeant p s → (f vs : ℕ → Ty)
        → Reads f (parameter_entered w p at x s).types
        → VariablesAgree f vs (parameter_entered w p at x s)
        → IfWritten (program p).types vs (option_map (type_at (types_of p)) w) (effect (f x))
    parameter_meant None low room on meant f vs reads agree = tt
    parameter_meant (Some w) low room on meant f vs reads agree =
        let t = now w in
        let u = with_effect w in
        let n = length t.state.types.nodes in
        let end = equated at t.found n u in
        let u_room = room_before u end (equal_here w) room in
        let u_on = (equal_here w).ended on in
        let u_reads = (equal_here w).reads room on f reads in
        let t_room = room_before t.state u (effect_here w) u_room in
        let equal = equated_equal l s0 u (effect_kept w) at t.found n (has_found w) (effect_is w) room on f reads in
        let is = type_is_read l s0 t.state (now_kept w).0 10 (x ∷ []) false f t_room u_reads in
        let u_leads = equal_leads w in
        let t_leads = effect_leads w in
        let u_agree = agree_before f vs u end u_leads.stay u_leads.rest agree in
        let t_agree = agree_before f vs t.state u t_leads.stay t_leads.rest u_agree in
        let means = written_meant l p arena s0 s kept variables.OfItem at (λ r. tt) w low t_room
        ((effect_here w).ended u_on) meant tt
        f vs
        ((effect_here w).reads u_room u_on f u_reads) t_agree in
        subst (λ a. Means (program p).types vs (type_at (types_of p) w) a) (equal ∙ is) means
