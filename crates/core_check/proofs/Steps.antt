-- What a term and a pattern leave to be done is all that their rules ask for.
use Rattle.std.proofs.Common.{◌≡◌, refl, sym, ap, ◌∙◌, subst, ℕ, suc, ◌+◌, ◌-◌, ◌<◌, ◌≤◌, max, Bool, true, false, ◌==◌, ◌&&◌, ◌||◌, not, nat_lt, List, [], ◌∷◌, ◌++◌, map, length, take, drop, reverse, slice_index_or, Option, Some, None, option_map, arith, append_assoc, length-append}
use Rattle.std.specs.List.{list_all}
use Rattle.std.proofs.lemmas.List.{reverse-reverse}
use Rattle.std.proofs.lemmas.List.Folds.{list_any-append}
use Rattle.effect_meaning.specs.Terms.{Place, Written, Variable, Any, Applied, Writtens, NoTypes, AndType, Constructor, Variant, Exception, Effect, Term, Clauses, EffectClauses, Pattern, AnyPat, NamePat, ConstPat, TuplePat, ConPat, ConOfPat, RecordPat, OrPat, AliasPat, AnnotPat, Patterns, NoPatterns, AndPattern, Functions}
use Rattle.effect_meaning.specs.Arena.{Parts, IsArena}
use Rattle.effect_meaning.specs.ArenaTrees.{place_of, type_at, pattern_at, term_at, types_of, patterns_of, terms_of, patterns_at, terms_at, constructor_of, pattern_tree, term_tree, guard_tree, clauses_tree, effect_clauses_tree, functions_tree}
use Rattle.effect_meaning.specs.Scoped.{Scope, holds, differ, is_new, same, constructor_known, type_known, types_known, names_in, names_in_all, sides_agree, all_sides_agree, pattern_known, patterns_known, are_new, pattern_scoped, argument_known, argument_names, annotation_known, function_names, term_scoped, terms_scoped, functions_scoped, clauses_scoped, guard_scoped, effect_clauses_scoped}
use Rattle.effect_meaning.specs.declared.core_nodes.Constructor.{Constructor as ConstructorOf}
use Rattle.effect_meaning.specs.declared.core_nodes.Constructor.TheVariants as constructor
use Rattle.effect_meaning.specs.declared.core_nodes.FieldPart.{FieldPart}
use Rattle.effect_meaning.specs.declared.core_nodes.PatternForm.{PatternForm}
use Rattle.effect_meaning.specs.declared.core_nodes.PatternForm.TheVariants as pattern
use Rattle.effect_meaning.specs.declared.core_nodes.Clause.{Clause}
use Rattle.effect_meaning.specs.declared.core_nodes.EffectClause.{EffectClause}
use Rattle.effect_meaning.specs.declared.core_nodes.Function.{Function}
use Rattle.effect_meaning.specs.declared.core_nodes.TermForm.{TermForm}
use Rattle.effect_meaning.specs.declared.core_nodes.TermForm.TheVariants as term
use Rattle.effect_meaning.specs.declared.core_nodes.TermNode.{TermNode}
use Rattle.effect_meaning.specs.declared.core_nodes.PatternNode.{PatternNode}
use Rattle.effect_meaning.proofs.NodeTrees.{term_at_node, pattern_at_node}
use Rattle.core_check.specs.declared.known.Known.{Known}
use Rattle.core_check.specs.declared.task.Task.{Task}
use Rattle.core_check.specs.declared.task.Task.TheVariants as task
use Rattle.core_check.specs.declared.task.Sort.{Sort}
use Rattle.core_check.specs.declared.task.Sort.TheVariants as sort
use Rattle.core_check.specs.Tasks.{task_on, pushed, pushed_parts}
use Rattle.core_check.specs.Walk.{at, Covers, reach, reach_all, HasReach, is_known, are_known, is_reached, is_any_reached, pattern_test, pattern_tasks, guard_tasks, argument_tasks, clause_tasks, effect_tasks, name_tasks, body_tasks, effects_test, functions_test, term_test, term_tasks, Fine, Leads, Exchanged}
use Rattle.core_check.proofs.Lists.{left, gone, and_true, and_left, and_right}

-- the names in scope don't change what is known of rows
module _ (s : Scope) (ns : List ℕ) where
  mutual
    pub type_with_names : (w : Written) → type_known (at s ns) w ≡ type_known s w
    type_with_names (Variable v) = refl
    type_with_names Any = refl
    type_with_names (Applied t ws) = ap (λ b. holds s.types t && b) (types_with_names ws)

    types_with_names : (ws : Writtens) → types_known (at s ns) ws ≡ types_known s ws
    types_with_names NoTypes = refl
    types_with_names (AndType w ws) = ap (λ b. b && types_known (at s ns) ws) (type_with_names w) ∙ ap (λ b. type_known s w && b) (types_with_names ws)

  constructor_with_names : (c : Constructor) → constructor_known (at s ns) c ≡ constructor_known s c
  constructor_with_names (Variant n) = refl
  constructor_with_names (Exception n) = refl
  constructor_with_names (Effect n) = refl

  mutual
    pub pattern_with_names : (q : Pattern) → pattern_known (at s ns) q ≡ pattern_known s q
    pattern_with_names AnyPat = refl
    pattern_with_names (NamePat x) = refl
    pattern_with_names (ConstPat c) = refl
    pattern_with_names (TuplePat qs) = patterns_with_names qs
    pattern_with_names (ConPat con) = constructor_with_names con
    pattern_with_names (ConOfPat con q) =
        ap (λ b. b && pattern_known (at s ns) q) (constructor_with_names con) ∙ ap (λ b. constructor_known s con && b) (pattern_with_names q)
    pattern_with_names (RecordPat fields qs) = ap (λ b. list_all (holds s.fields) fields && b) (patterns_with_names qs)
    pattern_with_names (OrPat left right) =
        ap (λ b. b && pattern_known (at s ns) right) (pattern_with_names left) ∙ ap (λ b. pattern_known s left && b) (pattern_with_names right)
    pattern_with_names (AliasPat q x) = pattern_with_names q
    pattern_with_names (AnnotPat q w) =
        ap (λ b. b && type_known (at s ns) w) (pattern_with_names q) ∙ ap (λ b. pattern_known s q && b) (type_with_names w)

    patterns_with_names : (qs : Patterns) → patterns_known (at s ns) qs ≡ patterns_known s qs
    patterns_with_names NoPatterns = refl
    patterns_with_names (AndPattern q qs) =
        ap (λ b. b && patterns_known (at s ns) qs) (pattern_with_names q) ∙ ap (λ b. pattern_known s q && b) (patterns_with_names qs)

-- names that are new behind others, which are new themselves, are new together
pub new_append : (s : Scope) (xs ys names : List ℕ) → are_new (at s (ys ++ names)) xs ≡ true → are_new (at s names) ys ≡ true → are_new (at s names) (xs ++ ys) ≡ true
new_append s [] ys names h g = g
new_append s (x ∷ xs) ys names h g =
    let apart : not (holds xs x) ≡ true = grind arith in
    let others : differ xs ≡ true = grind arith in
    let new : not (holds (ys ++ names) x) ≡ true = grind arith in
    let all : list_all (is_new (at s (ys ++ names))) xs ≡ true = grind arith in
    let inner : are_new (at s (ys ++ names)) xs ≡ true = and_true {a = differ xs} {b = list_all (is_new (at s (ys ++ names))) xs} others all in
    let rest : are_new (at s names) (xs ++ ys) ≡ true = new_append s xs ys names inner g in
    let differing : differ (xs ++ ys) ≡ true = grind arith in
    let remaining : list_all (is_new (at s names)) (xs ++ ys) ≡ true = grind arith in
    let one : holds (xs ++ ys) x ≡ (holds xs x || holds ys x) = list_any-append (λ y. x == y) xs ys in
    let two : holds (ys ++ names) x ≡ (holds ys x || holds names x) = list_any-append (λ y. x == y) ys names in
    let here : not (holds (xs ++ ys) x) ≡ true = grind arith in
    let absent : not (holds names x) ≡ true = grind arith in
    and_true {a = not (holds (xs ++ ys) x) && differ (xs ++ ys)} {b = not (holds names x) && list_all (is_new (at s names)) (xs ++ ys)}
    (and_true {a = not (holds (xs ++ ys) x)} {b = differ (xs ++ ys)} here differing)
    (and_true {a = not (holds names x)} {b = list_all (is_new (at s names)) (xs ++ ys)} absent remaining)

parts_pushed : (k : Sort) (ts : List Task) (fs : List FieldPart) → pushed_parts k ts fs ≡ pushed k ts (map (λ f. f.part) fs)
parts_pushed k ts [] = refl
parts_pushed k ts (f ∷ fs) = parts_pushed k (task_on k f.part ∷ ts) fs

-- rows that pass the tests are in scope
module _ (k : Known) (s : Scope) (cover : Covers k s) where
  reach_from : (m : ℕ) (ws : Writtens) → m ≤ reach_all m ws
  reach_from m NoTypes = omega arith
  reach_from m (AndType w ws) = let rest : max m (reach w) ≤ reach_all (max m (reach w)) ws = reach_from (max m (reach w)) ws in omega arith

  mutual
    type_reached : (w : Written) → reach w ≤ k.types → type_known s w ≡ true
    type_reached (Variable v) h = refl
    type_reached Any h = refl
    type_reached (Applied t ws) h =
        let least : t + 1 ≤ reach_all (t + 1) ws = reach_from (t + 1) ws in
        let below : t < k.types = omega arith in
        let here : nat_lt t k.types ≡ true = grind arith in
        and_true {a = holds s.types t} {b = types_known s ws} (cover.types t here) (types_reached (t + 1) ws h)

    types_reached : (m : ℕ) (ws : Writtens) → reach_all m ws ≤ k.types → types_known s ws ≡ true
    types_reached m NoTypes h = refl
    types_reached m (AndType w ws) h =
        let least : max m (reach w) ≤ reach_all (max m (reach w)) ws = reach_from (max m (reach w)) ws in
        let first : reach w ≤ k.types = omega arith in
        and_true {a = type_known s w} {b = types_known s ws} (type_reached w first) (types_reached (max m (reach w)) ws h)

  constructor_covered : (c : ConstructorOf) → is_known k c ≡ true → constructor_known s (constructor_of c) ≡ true
  constructor_covered (constructor.Variant n) h = cover.variants n h
  constructor_covered (constructor.Exception n) h = cover.exceptions n h
  constructor_covered (constructor.Effect n) h = cover.effects n h

  fields_covered : (fs : List FieldPart) → are_known k fs ≡ true → list_all (holds s.fields) (map (λ f. f.field) fs) ≡ true
  fields_covered [] h = refl
  fields_covered (f ∷ fs) h = and_true (cover.fields f.field (and_left _ _ h)) (fields_covered fs (and_right _ _ h))

  module _ (p : Parts) (rs : List ℕ) (has : HasReach p rs) where
    pub reached : (t : ℕ) → is_reached k rs t ≡ true → type_known s (type_at (types_of p) t) ≡ true
    reached t h =
        let is : slice_index_or rs t 0 ≡ reach (type_at (types_of p) t) = has t in
        let low : slice_index_or rs t 0 ≤ k.types = grind arith in
        type_reached (type_at (types_of p) t) (subst (λ n. n ≤ k.types) is low)

    pub any_reached : (t : Option ℕ) → is_any_reached k rs t ≡ true → annotation_known s (option_map (type_at (types_of p)) t) ≡ true
    any_reached None h = refl
    any_reached (Some t) h = reached t h

-- what is known of a pattern, whose names are new in front of others
pub record Apart (s : Scope) (names : List ℕ) (q : Pattern) : Type 0 where
  pub known : pattern_known s q ≡ true
  pub agree : sides_agree q ≡ true
  pub new : are_new (at s names) (names_in q) ≡ true

pub record AllApart (s : Scope) (names : List ℕ) (qs : Patterns) : Type 0 where
  pub known : patterns_known s qs ≡ true
  pub agree : all_sides_agree qs ≡ true
  pub new : are_new (at s names) (names_in_all qs) ≡ true

apart_from : (s : Scope) (names : List ℕ) (q : Pattern) → pattern_scoped (at s names) q ≡ true → Apart s names q
apart_from s names q h =
    let known : pattern_known (at s names) q ≡ true = grind arith in
    let agree : sides_agree q ≡ true = grind arith in
    let new : are_new (at s names) (names_in q) ≡ true = grind arith in
    record { known = sym (pattern_with_names s names q) ∙ known; agree = agree; new = new }

scoped_from : (s : Scope) (names : List ℕ) (q : Pattern) → Apart s names q → pattern_scoped (at s names) q ≡ true
scoped_from s names q a =
    let known : pattern_known (at s names) q ≡ true = pattern_with_names s names q ∙ a.known in
    let agree : sides_agree q ≡ true = a.agree in
    let new : are_new (at s names) (names_in q) ≡ true = a.new in
    and_true {a = pattern_known (at s names) q && sides_agree q} {b = are_new (at s names) (names_in q)}
    (and_true {a = pattern_known (at s names) q} {b = sides_agree q} known agree) new

module _ (p : Parts) (s : Scope) (end : List ℕ) where
  abbrev Q : ℕ → Pattern
  Q q = pattern_at (patterns_of p) q

  patterns_done : (parts : List ℕ) (ts : List Task) (names : List ℕ) (kept : List (List ℕ))
      → Fine p s end (pushed sort.Pattern ts parts) names kept
      → AllApart s names (patterns_at (patterns_of p) parts)
      × Fine p s end ts (names_in_all (patterns_at (patterns_of p) parts) ++ names) kept
  patterns_done [] ts names kept h = (record { known = refl; agree = refl; new = refl }, h)
  patterns_done (q ∷ rest) ts names kept h =
      let N : List ℕ = names_in_all (patterns_at (patterns_of p) rest) in
      let r : AllApart s names (patterns_at (patterns_of p) rest) × Fine p s end (task.Pattern q ∷ ts) (N ++ names) kept =
      patterns_done rest (task.Pattern q ∷ ts) names kept h in
      let a : Apart s (N ++ names) (Q q) = apart_from s (N ++ names) (Q q) r.1.0 in (
        record {
          known = and_true {a = pattern_known s (Q q)} {b = patterns_known s (patterns_at (patterns_of p) rest)} a.known r.0.known;
          agree = and_true {a = sides_agree (Q q)} {b = all_sides_agree (patterns_at (patterns_of p) rest)} a.agree r.0.agree;
          new = new_append s (names_in (Q q)) N names a.new r.0.new;
        },
        subst (λ ns. Fine p s end ts ns kept) (sym (append_assoc (names_in (Q q)) N names)) r.1.1,
      )

  sides_done : (left_side right_side : ℕ) (ts : List Task) (names : List ℕ) (kept : List (List ℕ))
      → Fine p s end (task.Pattern left_side ∷ task.Turn (length names) ∷ task.Pattern right_side ∷ task.Join (length names) ∷ ts) names kept
      → Apart s names (OrPat (Q left_side) (Q right_side)) × Fine p s end ts (names_in (Q left_side) ++ names) kept
  sides_done l r ts names kept h =
      let L : List ℕ = names_in (Q l) in
      let R : List ℕ = names_in (Q r) in
      let n : ℕ = length names in
      let one : Apart s names (Q l) = apart_from s names (Q l) h.0 in
      let later : List Task = task.Pattern r ∷ task.Join n ∷ ts in
      let turned : Fine p s end later names (reverse (take (length (L ++ names) - n) (L ++ names)) ∷ kept) =
      subst (λ ns. Fine p s end later ns (reverse (take (length (L ++ names) - n) (L ++ names)) ∷ kept)) (left L names) h.1 in
      let set : Fine p s end later names (reverse L ∷ kept) =
      subst (λ l. Fine p s end later names (reverse l ∷ kept)) (gone L names) turned in
      let two : Apart s names (Q r) = apart_from s names (Q r) set.0 in
      let alike : same L R ≡ true =
      subst (λ l. same l R ≡ true) (reverse-reverse L) (subst (λ ns. same (reverse (reverse L)) ns ≡ true) (gone R names) set.1.0) in
      let differing : differ R ≡ true = and_left (differ R) (list_all (is_new (at s names)) R) two.new in (
        record {
          known = and_true {a = pattern_known s (Q l)} {b = pattern_known s (Q r)} one.known two.known;
          agree = and_true {a = (sides_agree (Q l) && sides_agree (Q r)) && differ R} {b = same L R}
              (and_true {a = sides_agree (Q l) && sides_agree (Q r)} {b = differ R}
              (and_true {a = sides_agree (Q l)} {b = sides_agree (Q r)} one.agree two.agree) differing) alike;
          new = one.new;
        },
        subst (λ l. Fine p s end ts (l ++ names) kept) (reverse-reverse L)
            (subst (λ ns. Fine p s end ts (reverse (reverse L) ++ ns) kept) (left R names) set.1.1),
      )

  one_new : (names : List ℕ) (x : ℕ) → is_new (at s names) x ≡ true → are_new (at s names) (x ∷ []) ≡ true
  one_new names x h = and_true {a = true} {b = is_new (at s names) x && true} refl (and_true {a = is_new (at s names) x} {b = true} h refl)

  module _ (k : Known) (rs : List ℕ) (cover : Covers k s) (has : HasReach p rs) where
    -- what a pattern leaves to be done is all that its rules ask for
    pub pattern_step : (f : PatternForm) (ts : List Task) (names : List ℕ) (kept : List (List ℕ))
        → pattern_test k rs f ≡ true
        → Fine p s end (pattern_tasks (length names) f ts) names kept
        → Apart s names (pattern_tree (types_of p) (patterns_of p) f)
        × Fine p s end ts (names_in (pattern_tree (types_of p) (patterns_of p) f) ++ names) kept
    pattern_step pattern.Any ts names kept t h = (record { known = refl; agree = refl; new = refl }, h)
    pattern_step (pattern.Name x) ts names kept t h = (record { known = refl; agree = refl; new = one_new names x h.0 }, h.1)
    pattern_step (pattern.Constant v) ts names kept t h = (record { known = refl; agree = refl; new = refl }, h)
    pattern_step (pattern.Tuple parts) ts names kept t h =
        let r = patterns_done parts ts names kept h in
        (record { known = r.0.known; agree = r.0.agree; new = r.0.new }, r.1)
    pattern_step (pattern.Constructor con) ts names kept t h =
        (record { known = constructor_covered k s cover con t; agree = refl; new = refl }, h)
    pattern_step (pattern.Construct con q) ts names kept t h =
        let a : Apart s names (Q q) = apart_from s names (Q q) h.0 in (
          record {
            known = and_true {a = constructor_known s (constructor_of con)} {b = pattern_known s (Q q)} (constructor_covered k s cover con t) a.known;
            agree = a.agree;
            new = a.new;
          },
          h.1,
        )
    pattern_step (pattern.Record fs) ts names kept t h =
        let parts : List ℕ = map (λ f. f.part) fs in
        let r = patterns_done parts ts names kept (subst (λ us. Fine p s end us names kept) (parts_pushed sort.Pattern ts fs) h) in (
          record {
            known = and_true {a = list_all (holds s.fields) (map (λ f. f.field) fs)} {b = patterns_known s (patterns_at (patterns_of p) parts)}
                (fields_covered k s cover fs t) r.0.known;
            agree = r.0.agree;
            new = r.0.new;
          },
          r.1,
        )
    pattern_step (pattern.Or l r) ts names kept t h = sides_done l r ts names kept h
    pattern_step (pattern.Alias q x) ts names kept t h =
        let a : Apart s (x ∷ names) (Q q) = apart_from s (x ∷ names) (Q q) h.1.0 in (
          record {
            known = a.known;
            agree = a.agree;
            new = new_append s (names_in (Q q)) (x ∷ []) names a.new (one_new names x h.0);
          },
          subst (λ ns. Fine p s end ts ns kept) (sym (append_assoc (names_in (Q q)) (x ∷ []) names)) h.1.1,
        )
    pattern_step (pattern.Annotated q w) ts names kept t h =
        let a : Apart s names (Q q) = apart_from s names (Q q) h.0 in (
          record {
            known = and_true {a = pattern_known s (Q q)} {b = type_known s (type_at (types_of p) w)} a.known (reached k s cover p rs has w t);
            agree = a.agree;
            new = a.new;
          },
          h.1,
        )

  abbrev T : ℕ → Term
  T t = term_at (terms_of p) t

  terms_done : (parts : List ℕ) (ts : List Task) (names : List ℕ) (kept : List (List ℕ))
      → Fine p s end (pushed sort.Term ts parts) names kept
      → (terms_scoped (at s names) (terms_at (terms_of p) parts) ≡ true) × Fine p s end ts names kept
  terms_done [] ts names kept h = (refl, h)
  terms_done (t ∷ rest) ts names kept h =
      let r : (terms_scoped (at s names) (terms_at (terms_of p) rest) ≡ true) × Fine p s end (task.Term t ∷ ts) names kept =
      terms_done rest (task.Term t ∷ ts) names kept h in
      (and_true {a = term_scoped (at s names) (T t)} {b = terms_scoped (at s names) (terms_at (terms_of p) rest)} r.1.0 r.0, r.1.1)

  -- a body behind names, which go then
  body_done : (b : ℕ) (xs : List ℕ) (ts : List Task) (names : List ℕ) (kept : List (List ℕ))
      → Fine p s end (task.Term b ∷ task.Leave (length names) ∷ ts) (xs ++ names) kept
      → (term_scoped (at s (xs ++ names)) (T b) ≡ true) × Fine p s end ts names kept
  body_done b xs ts names kept h = (h.0, subst (λ ns. Fine p s end ts ns kept) (left xs names) h.1)

  guard_done : (g : Option ℕ) (ts : List Task) (names : List ℕ) (kept : List (List ℕ))
      → Fine p s end (guard_tasks g ts) names kept
      → (guard_scoped (at s names) (guard_tree (terms_of p) g) ≡ true) × Fine p s end ts names kept
  guard_done None ts names kept h = (refl, h)
  guard_done (Some g) ts names kept h = h

  clauses_done : (cs : List Clause) (ts : List Task) (names : List ℕ) (kept : List (List ℕ))
      → Fine p s end (clause_tasks (length names) ts cs) names kept
      → (clauses_scoped (at s names) (clauses_tree (patterns_of p) (terms_of p) cs) ≡ true) × Fine p s end ts names kept
  clauses_done [] ts names kept h = (refl, h)
  clauses_done (c ∷ cs) ts names kept h =
      let n : ℕ = length names in
      let N : List ℕ = names_in (Q c.pattern) in
      let F : Clauses = clauses_tree (patterns_of p) (terms_of p) cs in
      let r : (clauses_scoped (at s names) F ≡ true)
      × Fine p s end (task.Pattern c.pattern ∷ guard_tasks c.guard (task.Term c.body ∷ task.Leave n ∷ ts)) names kept =
      clauses_done cs (task.Pattern c.pattern ∷ guard_tasks c.guard (task.Term c.body ∷ task.Leave n ∷ ts)) names kept h in
      let g : (guard_scoped (at s (N ++ names)) (guard_tree (terms_of p) c.guard) ≡ true)
      × Fine p s end (task.Term c.body ∷ task.Leave n ∷ ts) (N ++ names) kept =
      guard_done c.guard (task.Term c.body ∷ task.Leave n ∷ ts) (N ++ names) kept r.1.1 in
      let b : (term_scoped (at s (N ++ names)) (T c.body) ≡ true) × Fine p s end ts names kept =
      body_done c.body N ts names kept g.1 in
      let G : Bool = guard_scoped (at s (N ++ names)) (guard_tree (terms_of p) c.guard) in
      let B : Bool = term_scoped (at s (N ++ names)) (T c.body) in (
        and_true {a = (pattern_scoped (at s names) (Q c.pattern) && G) && B} {b = clauses_scoped (at s names) F}
            (and_true {a = pattern_scoped (at s names) (Q c.pattern) && G} {b = B}
            (and_true {a = pattern_scoped (at s names) (Q c.pattern)} {b = G} r.1.0 g.0) b.0) r.0,
        b.1,
      )

  -- the names of functions
  pub names_done : (fs : List Function) (ts : List Task) (names : List ℕ) (kept : List (List ℕ))
      → Fine p s end (name_tasks ts fs) names kept
      → (are_new (at s names) (function_names (functions_tree (types_of p) (terms_of p) fs)) ≡ true)
      × Fine p s end ts (function_names (functions_tree (types_of p) (terms_of p) fs) ++ names) kept
  names_done [] ts names kept h = (refl, h)
  names_done (f ∷ fs) ts names kept h =
      let N : List ℕ = function_names (functions_tree (types_of p) (terms_of p) fs) in
      let r : (are_new (at s names) N ≡ true) × Fine p s end (task.Bind f.name ∷ ts) (N ++ names) kept =
      names_done fs (task.Bind f.name ∷ ts) names kept h in
      (new_append s (f.name ∷ []) N names (one_new (N ++ names) f.name r.1.0) r.0, r.1.1)

  pub length_names : (fs : List Function) → length (function_names (functions_tree (types_of p) (terms_of p) fs)) ≡ length fs
  length_names [] = refl
  length_names (f ∷ fs) = ap (λ n. suc n) (length_names fs)

  argument_done : (q : Option ℕ) (x : ℕ) (b : ℕ) (ts : List Task) (names : List ℕ) (kept : List (List ℕ))
      → is_new (at s names) x ≡ true
      → Fine p s end (argument_tasks q (task.Term b ∷ task.Leave (length names) ∷ ts)) (x ∷ names) kept
      → (argument_known (at s names) (option_map Q q) ≡ true)
      × (are_new (at s names) (argument_names (option_map Q q) ++ x ∷ []) ≡ true)
      × (term_scoped (at s ((argument_names (option_map Q q) ++ x ∷ []) ++ names)) (T b) ≡ true)
      × Fine p s end ts names kept
  argument_done None x b ts names kept new h =
      let r : (term_scoped (at s (x ∷ names)) (T b) ≡ true) × Fine p s end ts names kept = body_done b (x ∷ []) ts names kept h in
      (refl, one_new names x new, r.0, r.1)
  argument_done (Some q) x b ts names kept new h =
      let N : List ℕ = names_in (Q q) in
      let a : Apart s (x ∷ names) (Q q) = apart_from s (x ∷ names) (Q q) h.0 in
      let moved : Fine p s end (task.Term b ∷ task.Leave (length names) ∷ ts) ((N ++ x ∷ []) ++ names) kept =
      subst (λ ns. Fine p s end (task.Term b ∷ task.Leave (length names) ∷ ts) ns kept) (sym (append_assoc N (x ∷ []) names)) h.1 in
      let r : (term_scoped (at s ((N ++ x ∷ []) ++ names)) (T b) ≡ true) × Fine p s end ts names kept =
      body_done b (N ++ x ∷ []) ts names kept moved in
      let known : pattern_known (at s names) (Q q) ≡ true = pattern_with_names s names (Q q) ∙ a.known in (
        and_true {a = pattern_known (at s names) (Q q)} {b = sides_agree (Q q)} known a.agree,
        new_append s N (x ∷ []) names a.new (one_new names x new),
        r.0,
        r.1,
      )

  annotation_with_names : (names : List ℕ) (w : Option Written) → annotation_known (at s names) w ≡ annotation_known s w
  annotation_with_names names None = refl
  annotation_with_names names (Some w) = type_with_names s names w

  module _ (k : Known) (rs : List ℕ) (cover : Covers k s) (has : HasReach p rs) where
    pub bodies_done : (fs : List Function) (ts : List Task) (names : List ℕ) (kept : List (List ℕ))
        → functions_test k rs fs ≡ true
        → Fine p s end (body_tasks (length names) ts fs) names kept
        → (functions_scoped (at s names) (functions_tree (types_of p) (terms_of p) fs) ≡ true) × Fine p s end ts names kept
    bodies_done [] ts names kept t h = (refl, h)
    bodies_done (f ∷ fs) ts names kept t h =
        let n : ℕ = length names in
        let F : Functions = functions_tree (types_of p) (terms_of p) fs in
        let type : is_any_reached k rs f.annotation ≡ true = grind arith in
        let others : functions_test k rs fs ≡ true = grind arith in
        let r : (functions_scoped (at s names) F ≡ true)
        × Fine p s end (task.Bind f.parameter ∷ task.Term f.body ∷ task.Leave n ∷ ts) names kept =
        bodies_done fs (task.Bind f.parameter ∷ task.Term f.body ∷ task.Leave n ∷ ts) names kept others h in
        let b : (term_scoped (at s (f.parameter ∷ names)) (T f.body) ≡ true) × Fine p s end ts names kept =
        body_done f.body (f.parameter ∷ []) ts names kept r.1.1 in
        let known : annotation_known (at s names) (option_map (type_at (types_of p)) f.annotation) ≡ true =
        annotation_with_names names (option_map (type_at (types_of p)) f.annotation) ∙ any_reached k s cover p rs has f.annotation type in
        let W : Bool = annotation_known (at s names) (option_map (type_at (types_of p)) f.annotation) in
        let N : Bool = is_new (at s names) f.parameter in
        let B : Bool = term_scoped (at s (f.parameter ∷ names)) (T f.body) in (
          and_true {a = (W && N) && B} {b = functions_scoped (at s names) F}
              (and_true {a = W && N} {b = B} (and_true {a = W} {b = N} known r.1.0) b.0) r.0,
          b.1,
        )

    effects_done : (cs : List EffectClause) (ts : List Task) (names : List ℕ) (kept : List (List ℕ))
        → effects_test k rs cs ≡ true
        → Fine p s end (effect_tasks (length names) ts cs) names kept
        → (effect_clauses_scoped (at s names) (effect_clauses_tree (types_of p) (patterns_of p) (terms_of p) cs) ≡ true)
        × Fine p s end ts names kept
    effects_done [] ts names kept t h = (refl, h)
    effects_done (e ∷ es) ts names kept t h =
        let E : EffectClauses = effect_clauses_tree (types_of p) (patterns_of p) (terms_of p) es in
        let after : List Task = task.Bind e.continuation ∷ argument_tasks e.argument (task.Term e.body ∷ task.Leave (length names) ∷ ts) in
        let effect : is_known k e.effect ≡ true = grind arith in
        let type : is_any_reached k rs e.annotation ≡ true = grind arith in
        let others : effects_test k rs es ≡ true = grind arith in
        let r : (effect_clauses_scoped (at s names) E ≡ true) × Fine p s end after names kept = effects_done es after names kept others h in
        let a = argument_done e.argument e.continuation e.body ts names kept r.1.0 r.1.1 in
        let known : annotation_known (at s names) (option_map (type_at (types_of p)) e.annotation) ≡ true =
        annotation_with_names names (option_map (type_at (types_of p)) e.annotation) ∙ any_reached k s cover p rs has e.annotation type in
        let xs : List ℕ = argument_names (option_map Q e.argument) ++ e.continuation ∷ [] in
        let H : Bool = constructor_known (at s names) (constructor_of e.effect) in
        let A : Bool = argument_known (at s names) (option_map Q e.argument) in
        let W : Bool = annotation_known (at s names) (option_map (type_at (types_of p)) e.annotation) in
        let N : Bool = are_new (at s names) xs in
        let B : Bool = term_scoped (at s (xs ++ names)) (T e.body) in (
          and_true {a = (((H && A) && W) && N) && B} {b = effect_clauses_scoped (at s names) E}
              (and_true {a = ((H && A) && W) && N} {b = B} (and_true {a = (H && A) && W} {b = N} (and_true {a = H && A} {b = W}
              (and_true {a = H} {b = A} (constructor_with_names s names (constructor_of e.effect) ∙ constructor_covered k s cover e.effect effect) a.0) known) a.1) a.2) r.0,
          a.3,
        )

    -- what a term leaves to be done is all that its rules ask for
    pub term_step : (f : TermForm) (place : Place) (ts : List Task) (names : List ℕ) (kept : List (List ℕ))
        → term_test k rs names f ≡ true
        → Fine p s end (term_tasks (length names) f ts) names kept
        → (term_scoped (at s names) (term_tree (types_of p) (patterns_of p) place (terms_of p) f) ≡ true) × Fine p s end ts names kept
    term_step (term.Name x) place ts names kept t h = (t, h)
    term_step (term.Constant v) place ts names kept t h = (refl, h)
    term_step (term.Function x b) place ts names kept t h =
        let r = body_done b (x ∷ []) ts names kept h.1 in
        (and_true {a = is_new (at s names) x} {b = term_scoped (at s (x ∷ names)) (T b)} h.0 r.0, r.1)
    term_step (term.Apply f a) place ts names kept t h =
        (and_true {a = term_scoped (at s names) (T f)} {b = term_scoped (at s names) (T a)} h.0 h.1.0, h.1.1)
    term_step (term.Let x a b) place ts names kept t h =
        let r = body_done b (x ∷ []) ts names kept h.1.1 in (
          and_true {a = is_new (at s names) x && term_scoped (at s names) (T a)} {b = term_scoped (at s (x ∷ names)) (T b)}
              (and_true {a = is_new (at s names) x} {b = term_scoped (at s names) (T a)} h.1.0 h.0) r.0,
          r.1,
        )
    term_step (term.LetRec fs b) place ts names kept t h =
        let F : Functions = functions_tree (types_of p) (terms_of p) fs in
        let N : List ℕ = function_names F in
        let after : List Task = task.Term b ∷ task.Leave (length names) ∷ ts in
        let r : (are_new (at s names) N ≡ true) × Fine p s end (body_tasks (length names + length fs) after fs) (N ++ names) kept =
        names_done fs (body_tasks (length names + length fs) after fs) names kept h in
        let many : length names + length fs ≡ length (N ++ names) = omega (arith, length-append N names, length_names fs) in
        let moved : Fine p s end (body_tasks (length (N ++ names)) after fs) (N ++ names) kept =
        subst (λ m. Fine p s end (body_tasks m after fs) (N ++ names) kept) many r.1 in
        let bodies : (functions_scoped (at s (N ++ names)) F ≡ true) × Fine p s end after (N ++ names) kept =
        bodies_done fs after (N ++ names) kept t moved in
        let last = body_done b N ts names kept bodies.1 in (
          and_true {a = are_new (at s names) N && functions_scoped (at s (N ++ names)) F} {b = term_scoped (at s (N ++ names)) (T b)}
              (and_true {a = are_new (at s names) N} {b = functions_scoped (at s (N ++ names)) F} r.0 bodies.0) last.0,
          last.1,
        )
    term_step (term.Sequence a b) place ts names kept t h =
        (and_true {a = term_scoped (at s names) (T a)} {b = term_scoped (at s names) (T b)} h.0 h.1.0, h.1.1)
    term_step (term.If a b d) place ts names kept t h = (
      and_true {a = term_scoped (at s names) (T a) && term_scoped (at s names) (T b)} {b = term_scoped (at s names) (T d)}
          (and_true {a = term_scoped (at s names) (T a)} {b = term_scoped (at s names) (T b)} h.0 h.1.0) h.1.1.0,
      h.1.1.1,
    )
    term_step (term.Match a cs) place ts names kept t h =
        let r = clauses_done cs ts names kept h.1 in
        (and_true {a = term_scoped (at s names) (T a)} {b = clauses_scoped (at s names) (clauses_tree (patterns_of p) (terms_of p) cs)} h.0 r.0, r.1)
    term_step (term.Tuple parts) place ts names kept t h = terms_done parts ts names kept h
    term_step (term.Constructor con) place ts names kept t h =
        (constructor_with_names s names (constructor_of con) ∙ constructor_covered k s cover con t, h)
    term_step (term.Construct con a) place ts names kept t h = (
      and_true {a = constructor_known (at s names) (constructor_of con)} {b = term_scoped (at s names) (T a)}
          (constructor_with_names s names (constructor_of con) ∙ constructor_covered k s cover con t) h.0,
      h.1,
    )
    term_step (term.Record fs) place ts names kept t h =
        let parts : List ℕ = map (λ f. f.part) fs in
        let r = terms_done parts ts names kept (subst (λ us. Fine p s end us names kept) (parts_pushed sort.Term ts fs) h) in (
          and_true {a = list_all (holds s.fields) (map (λ f. f.field) fs)} {b = terms_scoped (at s names) (terms_at (terms_of p) parts)}
              (fields_covered k s cover fs t) r.0,
          r.1,
        )
    term_step (term.Array parts) place ts names kept t h = terms_done parts ts names kept h
    term_step (term.Field field a) place ts names kept t h =
        (and_true {a = holds s.fields field} {b = term_scoped (at s names) (T a)} (cover.fields field t) h.0, h.1)
    term_step (term.SetField field a b) place ts names kept t h = (
      and_true {a = holds s.fields field && term_scoped (at s names) (T a)} {b = term_scoped (at s names) (T b)}
          (and_true {a = holds s.fields field} {b = term_scoped (at s names) (T a)} (cover.fields field t) h.0) h.1.0,
      h.1.1,
    )
    term_step (term.Primitive op parts) place ts names kept t h = terms_done parts ts names kept h
    term_step (term.Catch a values exceptions) place ts names kept t h =
        let r = clauses_done exceptions (clause_tasks (length names) ts values) names kept h.1 in
        let v = clauses_done values ts names kept r.1 in
        let A : Bool = term_scoped (at s names) (T a) in
        let V : Bool = clauses_scoped (at s names) (clauses_tree (patterns_of p) (terms_of p) values) in
        let X : Bool = clauses_scoped (at s names) (clauses_tree (patterns_of p) (terms_of p) exceptions) in
        (and_true {a = A && V} {b = X} (and_true {a = A} {b = V} h.0 v.0) r.0, v.1)
    term_step (term.Handle kind types f a v e cs) place ts names kept t h =
        let type : is_any_reached k rs types.effect ≡ true = grind arith in
        let rows : effects_test k rs cs ≡ true = grind arith in
        let known : annotation_known (at s names) (option_map (type_at (types_of p)) types.effect) ≡ true =
        annotation_with_names names (option_map (type_at (types_of p)) types.effect) ∙ any_reached k s cover p rs has types.effect type in
        let r = effects_done cs ts names kept rows h.1.1.1.1 in
        let W : Bool = annotation_known (at s names) (option_map (type_at (types_of p)) types.effect) in
        let F : Bool = term_scoped (at s names) (T f) in
        let A : Bool = term_scoped (at s names) (T a) in
        let V : Bool = term_scoped (at s names) (T v) in
        let X : Bool = term_scoped (at s names) (T e) in
        let E : Bool = effect_clauses_scoped (at s names) (effect_clauses_tree (types_of p) (patterns_of p) (terms_of p) cs) in (
          and_true {a = W && (F && (A && (V && (X && true))))} {b = E} (and_true {a = W} {b = F && (A && (V && (X && true)))} known
              (and_true {a = F} {b = A && (V && (X && true))} h.0 (and_true {a = A} {b = V && (X && true)} h.1.0
              (and_true {a = V} {b = X && true} h.1.1.0 (and_true {a = X} {b = true} h.1.1.1.0 refl))))) r.0,
          r.1,
        )
    term_step (term.Annotated a w) place ts names kept t h = (
      and_true {a = term_scoped (at s names) (T a)} {b = type_known (at s names) (type_at (types_of p) w)} h.0
          (type_with_names s names (type_at (types_of p) w) ∙ reached k s cover p rs has w t),
      h.1,
    )

-- a term that passes its test, and what it leaves to be done
pub term_leads : (p : Parts) (k : Known) (rs : List ℕ) (n : ℕ) (node : TermNode) (ts : List Task) (names : List ℕ) (kept : List (List ℕ))
    → IsArena p → n < length p.terms → node ≡ slice_index_or p.terms n node → term_test k rs names node.form ≡ true
    → Leads p k rs (task.Term n ∷ ts) names kept (term_tasks (length names) node.form ts) names kept
term_leads p k rs n node ts names kept arena inside is test s cover has end h =
    let here : slice_index_or p.terms n node ≡ node = sym is in
    let tree : term_at (terms_of p) n ≡ term_tree (types_of p) (patterns_of p) (place_of node.place) (terms_of p) node.form =
    term_at_node p n node arena inside ∙ ap (λ m. term_tree (types_of p) (patterns_of p) (place_of m.place) (terms_of p) m.form) here in
    let r = term_step p s end k rs cover has node.form (place_of node.place) ts names kept test h in
    (subst (λ t. term_scoped (at s names) t ≡ true) (sym tree) r.0, r.1)

-- a pattern that passes its test, and what it leaves to be done
pub pattern_leads : (p : Parts) (k : Known) (rs : List ℕ) (n : ℕ) (node : PatternNode) (ts : List Task) (names : List ℕ) (kept : List (List ℕ))
    → IsArena p → n < length p.patterns → node ≡ slice_index_or p.patterns n node → pattern_test k rs node.form ≡ true
    → Leads p k rs (task.Pattern n ∷ ts) names kept (pattern_tasks (length names) node.form ts) names kept
pattern_leads p k rs n node ts names kept arena inside is test s cover has end h =
    let here : slice_index_or p.patterns n node ≡ node = sym is in
    let tree : pattern_at (patterns_of p) n ≡ pattern_tree (types_of p) (patterns_of p) node.form =
    pattern_at_node p n node arena inside ∙ ap (λ m. pattern_tree (types_of p) (patterns_of p) m.form) here in
    let r = pattern_step p s end k rs cover has node.form ts names kept test h in
    let scoped : pattern_scoped (at s names) (pattern_tree (types_of p) (patterns_of p) node.form) ≡ true =
    scoped_from s names (pattern_tree (types_of p) (patterns_of p) node.form) r.0 in (
      subst (λ t. pattern_scoped (at s names) t ≡ true) (sym tree) scoped,
      subst (λ t. Fine p s end ts (names_in t ++ names) kept) (sym tree) r.1,
    )

-- the other tasks
pub bind_leads : (p : Parts) (k : Known) (rs : List ℕ) (x : ℕ) (ts : List Task) (names later : List ℕ) (kept : List (List ℕ))
    → holds names x ≡ false → later ≡ x ∷ names → Leads p k rs (task.Bind x ∷ ts) names kept ts later kept
bind_leads p k rs x ts names later kept absent is s cover has end h =
    (ap not absent, subst (λ ns. Fine p s end ts ns kept) is h)

pub turn_leads : (p : Parts) (k : Known) (rs : List ℕ) (n : ℕ) (ts : List Task) (names later : List ℕ) (kept others : List (List ℕ))
    → later ≡ drop (length names - n) names → others ≡ reverse (take (length names - n) names) ∷ kept
    → Leads p k rs (task.Turn n ∷ ts) names kept ts later others
turn_leads p k rs n ts names later kept others is more s cover has end h =
    subst (λ ks. Fine p s end ts (drop (length names - n) names) ks) more (subst (λ ns. Fine p s end ts ns others) is h)

pub join_leads : (p : Parts) (k : Known) (rs : List ℕ) (n : ℕ) (ts : List Task) (names later : List ℕ) (kept others : List (List ℕ))
    → (list : List ℕ) × (kept ≡ list ∷ others) × Exchanged list n names later
    → Leads p k rs (task.Join n ∷ ts) names kept ts later others
join_leads p k rs n ts names later kept others e s cover has end h =
    subst (λ ks. Fine p s end (task.Join n ∷ ts) names ks) (sym e.1)
    (e.2.0, subst (λ ns. Fine p s end ts ns others) e.2.1 h)

pub leave_leads : (p : Parts) (k : Known) (rs : List ℕ) (n : ℕ) (ts : List Task) (names later : List ℕ) (kept : List (List ℕ))
    → later ≡ drop (length names - n) names → Leads p k rs (task.Leave n ∷ ts) names kept ts later kept
leave_leads p k rs n ts names later kept is s cover has end h = subst (λ ns. Fine p s end ts ns kept) is h
