-- The equations of a program's items have a solution that fits where the walk over them doesn't end.
use Rattle.std.proofs.Common.{arith, ◌≡◌, ℕ, suc, ◌<◌, ◌≤◌, ◌+◌, ◌==◌, ◌&&◌, min, List, [], ◌∷◌, ◌++◌, length, map, flat_map, Option, Some, None, refl, sym, ◌∙◌, ap, subst}
use Rattle.std.specs.Prelude.{IsTrue, filter_map}
use Rattle.std.specs.List.{AllByRecursion}
use Rattle.fx_base.specs.declared.refusal.Place.{Place}
use Rattle.effect_meaning.specs.declared.core_nodes.Function.{Function}
use Rattle.effect_meaning.specs.declared.core_tables.Item.{Item}
use Rattle.effect_meaning.specs.declared.core_tables.ItemForm.{ItemForm}
use Rattle.effect_meaning.specs.declared.core_tables.ItemForm.TheVariants as item
use Rattle.effect_meaning.specs.Arena.{Parts, AllMet, EachStands, IsArena, ItemStands, counts, function_needs, item_needs}
use Rattle.effect_meaning.specs.ArenaTrees.{pattern_at, patterns_of, place_of, program, term_at, terms_of}
use Rattle.effect_meaning.specs.Scoped.{Scope, are_new, behind, first_scope, function_names, functions_scoped, holds, is_new, item_scoped, items_scoped, names_in, names_scoped, pattern_known, pattern_scoped, sides_agree, term_scoped, value_of, with_names}
use Rattle.effect_meaning.specs.Terms.{Item as ValueItem}
use Rattle.type_graph.specs.Graph.{built_in}
use Rattle.type_terms.specs.TypeTrees.{Ty}
use Rattle.type_terms.specs.Accepted.{FitsSize}
use Rattle.type_readings.specs.Readings.{Reads}
use Rattle.ml_infer.specs.declared.inference.End.{End}
use Rattle.ml_infer.specs.declared.inference.Inference.{Inference}
use Rattle.ml_infer.specs.declared.tasks.Task.{Task}
use Rattle.ml_infer.specs.declared.tasks.Task.TheVariants as task
use Rattle.ml_infer.specs.Inference.{begun}
use Rattle.ml_infer.specs.Items.{done, given_outer, item_counted, item_of, item_taken, item_while, items_taken, term_found}
use Rattle.ml_infer.specs.Tasks.{first}
use Rattle.ml_infer.specs.Verdict.{walked}
use Rattle.ml_infer.specs.Written.{refused_unless}
use Rattle.ml_infer.specs.Patterns.{whole_pattern}
use Rattle.inference_laws.proofs.WrittenMeant.{refused_read}
use Rattle.inference_laws.proofs.FieldNames.{fields_counted}
use Rattle.inference_laws.specs.Whole.{TaskIsThere}
use Rattle.inference_laws.proofs.Each.{each_appended, each_made}
use Rattle.inference_laws.proofs.Kept.{Kept, kept_here, room_before, NamesAreNumbered}
use Rattle.inference_laws.proofs.Fields.{counted_kept, first_kept, refused_unless_kept}
use Rattle.inference_laws.proofs.GraphLaws.{GraphLaws}
use Rattle.inference_laws.proofs.Steps.{ended_kept}
use Rattle.inference_laws.proofs.Items.{begun_kept, form_kept, items_kept, found_kept}
use Rattle.inference_laws.proofs.Definitions.{AreSmall, items_small}
use Rattle.inference_laws.proofs.Grounds.{Tops, Ending}
use Rattle.inference_laws.proofs.Booleans.{both_hold, fails}
use Rattle.inference_laws.proofs.TermsDone.{PatternIsRuled, TermIsRuled}
use Rattle.inference_laws.proofs.Pushing.{refused_tasks}
use Rattle.inference_laws.proofs.TopNames.{Entry, Behind, Leaves, all_names, behind_later, leaves_kept, leaves_on, tops_of}
use Rattle.inference_laws.proofs.ItemsDone.{ItemDone, ItemsFit, define_done, ends_before, evaluate_done}
use Rattle.inference_laws.proofs.GroupItemsDone.{GroupIsRuled, group_item_done, group_tree}
use Rattle.inference_laws.proofs.HeldNames.{NoneBound}
use Rattle.inference_laws.proofs.PatternItemsDone.{pattern_item_done}
use Rattle.inference_laws.proofs.DeclarationsDone.{IsDeclaration, declared_finished, exception_leaves, exception_tasks, refused_names}

-- a definition by a pattern comes with a new number for it
abbrev PatternIsNew : Parts → ItemForm → Inference → Type 0
PatternIsNew p (item.Destructure q n) s = NoneBound (whole_pattern q (term_found p n s).found (term_found p n s).state)
PatternIsNew p _ s = Unit {0}

-- a value item, or none
abbrev listed : Option ValueItem → List ValueItem
listed None = []
listed (Some i) = i ∷ []

abbrev prepended : Option ValueItem → List ValueItem → List ValueItem
prepended None is = is
prepended (Some i) is = i ∷ is

-- each item names what is there
abbrev pub ItemIsMet : Parts → Item → Type 0
ItemIsMet p x = AllMet (counts p) (item_needs x.form)

items_met : (p : Parts) (i : ℕ) (xs : List Item) → EachStands ItemStands (λ n. counts p) i xs → AllByRecursion (ItemIsMet p) xs
items_met p i [] h = tt
items_met p i (x ∷ xs) h = (h.0, items_met p (suc i) xs h.1)

module _
    (l : GraphLaws) (p : Parts) (arena : IsArena p) (few : length p.terms ≤ 4294967295)
    (terms : (f : ℕ → Ty) → Reads f built_in → (tops : Tops) (vs : ℕ → Ty) (n : ℕ) → n < length p.terms → TermIsRuled p f tops vs n)
    (patterns : (f : ℕ → Ty) → Reads f built_in → (tops : Tops) (q : ℕ) → q < length p.patterns → PatternIsRuled p f tops q)
    (groups : (f : ℕ → Ty) → Reads f built_in → (tops : Tops) (vs : ℕ → Ty) (fs : List Function) → AllMet (counts p)
    (flat_map function_needs fs)
    → GroupIsRuled p f tops vs fs)
    (f : ℕ → Ty) where
  module _ (sc : Scope) (es : List Entry) (s : Inference) (b : Behind p sc es s) where
    -- declarations
    declared_item :
        (after : Scope) (e : Inference) → ((x : ℕ) → holds after.names x ≡ holds sc.names x) → Leaves p (all_names es) s e
        → Ending f e
        → e.tasks ≡ [] → ItemDone l p f after es [] e
    declared_item after e same leaves ending idle =
        let k = behind_later p sc es s e b leaves ending.room ending.on idle in
        record {
          entries = es;
          behind = record {
            here = k.here;
            room = k.room;
            on = k.on;
            idle = k.idle;
            counted = k.counted;
            meant = k.meant;
            built = k.built;
            used = k.used;
            outers = k.outers;
            scope = λ x. same x ∙ k.scope x;
          };
          has = λ small rest h. h;
        }

    tasks_item :
        (after : Scope) (make : ℕ → Task) (ns : List ℕ) (u : Inference) → ((n : ℕ) → IsDeclaration (make n))
        → ((types n : ℕ) → TaskIsThere types (make n)) → ((x : ℕ) → holds after.names x ≡ holds sc.names x)
        → Leaves p (all_names es) s u
        → u.tasks ≡ [] → Ending f (done p (first (map make ns) u)) → ItemDone l p f after es [] (done p (first (map make ns) u))
    tasks_item after make ns u is there same leaves idle ending =
        let v = first (map make ns) u in
        let u_here = kept_here s u leaves.kept in
        let v_kept =
        first_kept u u (map make ns) u_here
        (λ room. each_made (TaskIsThere (length u.types.nodes)) make (there (length u.types.nodes)) ns) in
        let all : AllByRecursion IsDeclaration v.tasks =
        each_appended IsDeclaration (map make ns) u.tasks (each_made IsDeclaration make is ns)
        (subst (AllByRecursion IsDeclaration) (sym idle) tt) in
        let d = declared_finished l p arena (all_names es) 18446744073709551615 v (kept_here u v v_kept) all ending.on in
        declared_item after (done p v) same
        (leaves_on p (all_names es) s u (done p v) leaves
        (leaves_on p (all_names es) u v (done p v) (leaves_kept p (all_names es) u v v_kept refl refl) d.leaves)) ending d.idle

    -- an item, by its form
    item_done :
        (fm : ItemForm) (at : Place) → AllMet (counts p) (item_needs fm)
        → IsTrue (item_scoped p sc (record { place = at; form = fm }))
        → PatternIsNew p fm s → Ending f (item_of fm p at s)
        → ItemDone l p f (behind p (record { place = at; form = fm }) sc) es
        (listed (value_of p (record { place = at; form = fm }))) (item_of fm p at s)
    unfolding item_of
    item_done (item.Types ts) at met scoped new ending =
        tasks_item (behind p (record { place = at; form = item.Types ts }) sc) (λ t. task.TypeDeclared t) ts s (λ n. tt)
        (λ types n. tt) (λ x. refl)
        (leaves_kept p (all_names es) s s b.here refl refl) b.idle ending
    item_done (item.Exception n) at met scoped new ending =
        declared_item (behind p (record { place = at; form = item.Exception n }) sc) _ (λ x. refl)
        (exception_leaves l p arena (all_names es) s b.here nothing n) ending
        (exception_tasks l p arena (all_names es) s b.here nothing n ∙ b.idle)
      where
        nothing : AllByRecursion IsDeclaration s.tasks
        nothing = subst (AllByRecursion IsDeclaration) (sym b.idle) tt
    item_done (item.Effects extended ns) at met scoped new ending =
        let is = extended == 10 in
        let u = refused_unless is at s in
        tasks_item (behind p (record { place = at; form = item.Effects extended ns }) sc) (λ n. task.EffectDeclared n) ns u
        (λ n. tt) (λ types n. tt)
        (λ x. refl)
        (leaves_kept p (all_names es) s u (refused_unless_kept s s is at b.here) (refused_read is at s) (refused_names is at s))
        (refused_tasks is at s ∙ b.idle) ending
    item_done (item.Define x n) at met scoped new ending =
        let both = both_hold (is_new sc x) (term_scoped sc (term_at (terms_of p) n)) scoped in
        define_done l p arena few terms sc es s b n met.0 both.1 x f both.0 ending
    item_done (item.Destructure q n) at met scoped new ending =
        let tree = pattern_at (patterns_of p) q in
        let both = both_hold (pattern_scoped sc tree) (term_scoped sc (term_at (terms_of p) n)) scoped in
        let parts = both_hold (pattern_known sc tree && sides_agree tree) (are_new sc (names_in tree)) both.0 in
        let agree = both_hold (pattern_known sc tree) (sides_agree tree) parts.0 in
        pattern_item_done l p arena few terms patterns sc es s b q n met.0 met.1.0 agree.1 both.1 new f (place_of at) ending
    item_done (item.DefineRec fs) at met scoped new ending =
        let tree = group_tree p fs in
        let both =
        both_hold (are_new sc (function_names tree)) (functions_scoped (with_names (function_names tree) sc) tree) scoped in
        group_item_done l p groups sc es s b fs met both.0 both.1 f ending
    item_done (item.Evaluate n) at met scoped new ending = evaluate_done l p arena few terms sc es s b n met.0 scoped f ending

  -- no name is of it yet
  pattern_is_new : (fm : ItemForm) (s : Inference) → Kept s s → NamesAreNumbered s → PatternIsNew p fm s
  pattern_is_new (item.Destructure q n) s kept numbered =
      λ x v is.
      let t = (term_found p n s).state in
      let low = (found_kept l p s s n kept).0.numbered numbered x v (t.pattern + 1) is in absurd (omega arith)
  pattern_is_new (item.Types ts) s kept numbered = tt
  pattern_is_new (item.Exception n) s kept numbered = tt
  pattern_is_new (item.Effects extended ns) s kept numbered = tt
  pattern_is_new (item.Define x n) s kept numbered = tt
  pattern_is_new (item.DefineRec fs) s kept numbered = tt
  pattern_is_new (item.Evaluate n) s kept numbered = tt

  -- items one after another
  items_have :
      (xs : List Item) (sc : Scope) (es : List Entry) (s : Inference) → Behind p sc es s → AllByRecursion (ItemIsMet p) xs
      → IsTrue (items_scoped p sc xs) → NamesAreNumbered s → Ending f (items_taken p xs s) → AreSmall f (items_taken p xs s)
      → ItemsFit (program p) (tops_of f es) (filter_map (value_of p) xs)
  items_have [] sc es s b met scoped numbered ending small = (tt, tt)
  items_have (x ∷ xs) sc es s b met scoped numbered ending small =
      let t = item_of x.form p x.place s in
      let u = item_counted (given_outer t) in
      let step : item_taken p x s ≡ u = ap (λ (o : Option End). item_while o p x s) b.on in
      let t_kept = form_kept l p s s x.form x.place b.here in
      let t_here = kept_here s t t_kept in
      let g = given_outer t in
      let u_kept : Kept t u =
      counted_kept t g g.records g.equations (min (g.item + 1) 18446744073709551615) g.naming g.last
      (ended_kept l t t t_here) in
      let u_here = kept_here t u u_kept in
      let ending_all : Ending f (items_taken p xs u) = subst (λ (y : Inference). Ending f (items_taken p xs y)) step ending in
      let ending_u = ends_before f u (items_taken p xs u) (items_kept l p u u xs u_here) ending_all in
      let ending_t = ends_before f t u u_kept ending_u in
      let parts = both_hold (item_scoped p sc x) (items_scoped p (behind p x sc) xs) scoped in
      let new = pattern_is_new x.form s b.here numbered in
      let i = item_done sc es s b x.form x.place met.0 parts.0 new ending_t in
      let after = behind p x sc in
      let i_behind =
      behind_later p after i.entries t u i.behind (leaves_kept p (all_names i.entries) t u u_kept refl refl) ending_u.room
      ending_u.on i.behind.idle in
      let small_all : AreSmall f (items_taken p xs u) = subst (λ (y : Inference). AreSmall f (items_taken p xs y)) step small in
      let rest =
      items_have xs after i.entries u i_behind met.1 parts.1 (u_kept.numbered (t_kept.numbered numbered)) ending_all small_all in
      joined (value_of p x) (filter_map (value_of p) xs) es
      (i.has (items_small f p xs u small_all) (filter_map (value_of p) xs) rest)
    where
      joined :
          (o : Option ValueItem) (is : List ValueItem) (es : List Entry) → ItemsFit (program p) (tops_of f es) (listed o ++ is)
          → ItemsFit (program p) (tops_of f es) (prepended o is)
      joined None is es h = h
      joined (Some i) is es h = h

  -- the items of a program, whose names are scoped: where its walk doesn't end, and this reads its types, small ones of definitions
  pub program_items_have :
      (most : ℕ) → IsTrue (names_scoped p) → length p.field_rows ≤ 4294967295 → Ending f (walked p most)
      → AreSmall f (walked p most) → FitsSize (program p)
  program_items_have most scoped few_fields ending small =
      let s = begun p most in
      let here = begun_kept l p most in
      let room = room_before s (walked p most) (items_kept l p s s p.items here) ending.room in
      let b : Behind p first_scope [] s = record {
        here = here;
        room = room;
        on = refl;
        idle = refl;
        counted = λ t low. fields_counted t p most few_fields;
        meant = λ h reads n r is. absurd (cc);
        built = λ h reads. reads;
        used = λ h reads x is. absurd (fails is);
        outers = tt;
        scope = λ x. refl;
      } in
      items_have p.items first_scope [] s b (items_met p 0 p.items arena.items) scoped (λ x v q is. absurd (cc)) ending
      small
