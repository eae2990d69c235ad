-- The trees of earlier nodes stay as they are when an arena grows.
use Rattle.std.proofs.Common.{◌≡◌, refl, sym, subst, ap, ◌∙◌, ℕ, suc, ◌+◌, ◌<◌, List, [], ◌∷◌, ◌++◌, flat_map, length, slice_index_or, Option, Some, None, option_map, arith, length-append}
use Rattle.std.proofs.lemmas.List.{get_or_append_left}
use Rattle.effect_meaning.specs.Terms.{Written, Pattern, AnnotPat, Term, LetRec, Match, Catch, Handle, Annot, AndFunction, AndClause, AndEffect, Place}
use Rattle.effect_meaning.specs.Arena.{Parts, Counts, counts, Need, AType, APattern, ATerm, AllMet, EachStands, patterns_below, terms_below, IsArena, pattern_needs, term_needs, clause_needs, effect_clause_needs, function_needs, if_any}
use Rattle.effect_meaning.specs.ArenaTrees.{trees, type_at, pattern_at, term_at, terms_at, type_tree, pattern_tree, term_tree, clauses_tree, effect_clauses_tree, functions_tree, constructor_of, guard_tree, handler_types, kind_of, types_of, patterns_of, terms_of, place_of}
use Rattle.effect_meaning.specs.declared.core_nodes.TypeExpression.{TypeExpression}
use Rattle.effect_meaning.specs.declared.core_nodes.PatternNode.{PatternNode}
use Rattle.effect_meaning.specs.declared.core_nodes.PatternForm.{PatternForm}
use Rattle.effect_meaning.specs.declared.core_nodes.PatternForm.TheVariants as pattern
use Rattle.effect_meaning.specs.declared.core_nodes.Clause.{Clause}
use Rattle.effect_meaning.specs.declared.core_nodes.EffectClause.{EffectClause}
use Rattle.effect_meaning.specs.declared.core_nodes.Function.{Function}
use Rattle.effect_meaning.specs.declared.core_nodes.TermNode.{TermNode}
use Rattle.effect_meaning.specs.declared.core_nodes.TermForm.{TermForm}
use Rattle.effect_meaning.specs.declared.core_nodes.TermForm.TheVariants as term

module _ {N T : Type 0} (tree : List T → N → T) where
  -- one more node has one more tree, behind those before it
  pub trees_push : (ts : List T) (ns : List N) (n : N) → trees tree ts (ns ++ n ∷ []) ≡ trees tree ts ns ++ tree (trees tree ts ns) n ∷ []
  trees_push ts [] n = refl
  trees_push ts (m ∷ ns) n = trees_push (ts ++ tree ts m ∷ []) ns n

  -- each node has a tree
  pub length-trees : (ts : List T) (ns : List N) → length (trees tree ts ns) ≡ length ts + length ns
  length-trees ts [] = omega arith
  length-trees ts (n ∷ ns) = omega (arith, length-trees (ts ++ tree ts n ∷ []) ns, length-append ts (tree ts n ∷ []))

-- what stands before the end is the same in a longer list
pub at_append : {X : Type 0} (xs ys : List X) (i : ℕ) (d : X) → i < length xs → slice_index_or (xs ++ ys) i d ≡ slice_index_or xs i d
at_append xs ys i d h = get_or_append_left xs ys d i h

-- two ways to make trees that agree where the needs are met make the same trees
module _ {N T : Type 0} (needs : N → List Need) (there : ℕ → Counts) (tree other : List T → N → T) where
  pub trees_same : ((ts : List T) (n : N) → AllMet (there (length ts)) (needs n) → tree ts n ≡ other ts n)
      → (i : ℕ) (ts : List T) (ns : List N) → i ≡ length ts
      → EachStands (λ c n. AllMet c (needs n)) there i ns → trees tree ts ns ≡ trees other ts ns
  trees_same agree i ts [] e h = refl
  trees_same agree i ts (n ∷ ns) e h =
      let here : tree ts n ≡ other ts n = agree ts n (subst (λ k. AllMet (there k) (needs n)) e h.0) in
      let next : suc i ≡ length (ts ++ tree ts n ∷ []) = omega (arith, e, length-append ts (tree ts n ∷ [])) in
      trees_same agree (suc i) (ts ++ tree ts n ∷ []) ns next h.1 ∙ ap (λ t. trees other (ts ++ t ∷ []) ns) here

pub met_left : (c : Counts) (ns ms : List Need) → AllMet c (ns ++ ms) → AllMet c ns
met_left c [] ms h = tt
met_left c (n ∷ ns) ms h = (h.0, met_left c ns ms h.1)

pub met_right : (c : Counts) (ns ms : List Need) → AllMet c (ns ++ ms) → AllMet c ms
met_right c [] ms h = h
met_right c (n ∷ ns) ms h = met_right c ns ms h.1

-- where the types agree that stand there, a pattern is the same
module _ (c : Counts) (ws vs : List Written) (types : (t : ℕ) → t < c.types → type_at ws t ≡ type_at vs t) where
  pub type_if_any : (o : Option ℕ) → AllMet c (if_any AType o) → option_map (type_at ws) o ≡ option_map (type_at vs) o
  type_if_any None h = refl
  type_if_any (Some t) h = ap (λ w. Some w) (types t h.0)

  pub pattern_stays : (qs : List Pattern) (q : PatternForm) → AllMet c (pattern_needs q) → pattern_tree ws qs q ≡ pattern_tree vs qs q
  pattern_stays qs pattern.Any h = refl
  pattern_stays qs (pattern.Name x) h = refl
  pattern_stays qs (pattern.Constant k) h = refl
  pattern_stays qs (pattern.Tuple parts) h = refl
  pattern_stays qs (pattern.Constructor con) h = refl
  pattern_stays qs (pattern.Construct con argument) h = refl
  pattern_stays qs (pattern.Record parts) h = refl
  pattern_stays qs (pattern.Or left right) h = refl
  pattern_stays qs (pattern.Alias q x) h = refl
  pattern_stays qs (pattern.Annotated q t) h = ap (λ w. AnnotPat (pattern_at qs q) w) (types t h.1.0)

-- where the types agree that stand there, a group of functions is the same
module _ (c : Counts) (ws vs : List Written) (types : (t : ℕ) → t < c.types → type_at ws t ≡ type_at vs t) where
  pub functions_stay : (ts : List Term) (fs : List Function) → AllMet c (flat_map function_needs fs)
      → functions_tree ws ts fs ≡ functions_tree vs ts fs
  functions_stay ts [] h = refl
  functions_stay ts (f ∷ fs) h =
      let annotation : option_map (type_at ws) f.annotation ≡ option_map (type_at vs) f.annotation =
      type_if_any c ws vs types f.annotation (met_left c (if_any AType f.annotation) (flat_map function_needs fs) h.1) in
      let others : functions_tree ws ts fs ≡ functions_tree vs ts fs =
      functions_stay ts fs (met_right c (if_any AType f.annotation) (flat_map function_needs fs) h.1) in
      ap (λ t. AndFunction f.name t f.parameter (term_at ts f.body) (functions_tree ws ts fs)) annotation
      ∙ ap (AndFunction f.name (option_map (type_at vs) f.annotation) f.parameter (term_at ts f.body)) others

-- where the types and the patterns agree that stand there, a term is the same
module _ (c : Counts) (ws vs : List Written) (types : (t : ℕ) → t < c.types → type_at ws t ≡ type_at vs t)
    (qs rs : List Pattern) (patterns : (q : ℕ) → q < c.patterns → pattern_at qs q ≡ pattern_at rs q) where
  pub pattern_if_any : (o : Option ℕ) → AllMet c (if_any APattern o) → option_map (pattern_at qs) o ≡ option_map (pattern_at rs) o
  pattern_if_any None h = refl
  pattern_if_any (Some q) h = ap (λ p. Some p) (patterns q h.0)

  pub clauses_stay : (ts : List Term) (cs : List Clause) → AllMet c (flat_map clause_needs cs) → clauses_tree qs ts cs ≡ clauses_tree rs ts cs
  clauses_stay ts [] h = refl
  clauses_stay ts (k ∷ ks) h =
      ap (λ p. AndClause p (guard_tree ts k.guard) (term_at ts k.body) (clauses_tree qs ts ks)) (patterns k.pattern h.0)
      ∙ ap (AndClause (pattern_at rs k.pattern) (guard_tree ts k.guard) (term_at ts k.body))
      (clauses_stay ts ks (met_right c (if_any ATerm k.guard) (flat_map clause_needs ks) h.1.1))

  pub effect_clauses_stay : (ts : List Term) (cs : List EffectClause) → AllMet c (flat_map effect_clause_needs cs)
      → effect_clauses_tree ws qs ts cs ≡ effect_clauses_tree vs rs ts cs
  effect_clauses_stay ts [] h = refl
  effect_clauses_stay ts (k ∷ ks) h =
      let both : AllMet c (if_any APattern k.argument ++ if_any AType k.annotation) =
      met_left c (if_any APattern k.argument ++ if_any AType k.annotation) (flat_map effect_clause_needs ks) h.1.1 in
      let argument : option_map (pattern_at qs) k.argument ≡ option_map (pattern_at rs) k.argument =
      pattern_if_any k.argument (met_left c (if_any APattern k.argument) (if_any AType k.annotation) both) in
      let annotation : option_map (type_at ws) k.annotation ≡ option_map (type_at vs) k.annotation =
      type_if_any c ws vs types k.annotation (met_right c (if_any APattern k.argument) (if_any AType k.annotation) both) in
      let others : effect_clauses_tree ws qs ts ks ≡ effect_clauses_tree vs rs ts ks =
      effect_clauses_stay ts ks (met_right c (if_any APattern k.argument ++ if_any AType k.annotation) (flat_map effect_clause_needs ks) h.1.1) in
      ap (λ a. AndEffect (constructor_of k.effect) a k.continuation (option_map (type_at ws) k.annotation) (term_at ts k.body) (effect_clauses_tree ws qs ts ks)) argument
      ∙ ap (λ t. AndEffect (constructor_of k.effect) (option_map (pattern_at rs) k.argument) k.continuation t (term_at ts k.body) (effect_clauses_tree ws qs ts ks)) annotation
      ∙ ap (AndEffect (constructor_of k.effect) (option_map (pattern_at rs) k.argument) k.continuation (option_map (type_at vs) k.annotation) (term_at ts k.body)) others

  pub term_stays : (at : Place) (ts : List Term) (a : TermForm) → AllMet c (term_needs a) → term_tree ws qs at ts a ≡ term_tree vs rs at ts a
  term_stays at ts (term.Name x) h = refl
  term_stays at ts (term.Constant k) h = refl
  term_stays at ts (term.Function x body) h = refl
  term_stays at ts (term.Apply f a) h = refl
  term_stays at ts (term.Let x a body) h = refl
  term_stays at ts (term.LetRec functions body) h = ap (λ fs. LetRec fs (term_at ts body)) (functions_stay c ws vs types ts functions h.1)
  term_stays at ts (term.Sequence a b) h = refl
  term_stays at ts (term.If k a b) h = refl
  term_stays at ts (term.Match a clauses) h = ap (Match at (term_at ts a)) (clauses_stay ts clauses h.1)
  term_stays at ts (term.Tuple parts) h = refl
  term_stays at ts (term.Constructor con) h = refl
  term_stays at ts (term.Construct con argument) h = refl
  term_stays at ts (term.Record parts) h = refl
  term_stays at ts (term.Array parts) h = refl
  term_stays at ts (term.Field field a) h = refl
  term_stays at ts (term.SetField field a b) h = refl
  term_stays at ts (term.Primitive op parts) h = refl
  term_stays at ts (term.Catch body values exceptions) h =
      ap (λ cs. Catch at (term_at ts body) cs (clauses_tree qs ts exceptions))
      (clauses_stay ts values (met_left c (flat_map clause_needs values) (flat_map clause_needs exceptions) h.1))
      ∙ ap (Catch at (term_at ts body) (clauses_tree rs ts values))
      (clauses_stay ts exceptions (met_right c (flat_map clause_needs values) (flat_map clause_needs exceptions) h.1))
  term_stays at ts (term.Handle kind written f a value exception clauses) h =
      let effect : option_map (type_at ws) written.effect ≡ option_map (type_at vs) written.effect =
      type_if_any c ws vs types written.effect (met_left c (if_any AType written.effect) (flat_map effect_clause_needs clauses) h.1.1.1.1) in
      let others : effect_clauses_tree ws qs ts clauses ≡ effect_clauses_tree vs rs ts clauses =
      effect_clauses_stay ts clauses (met_right c (if_any AType written.effect) (flat_map effect_clause_needs clauses) h.1.1.1.1) in
      ap (λ e. Handle (kind_of kind) (record { variable = written.variable; effect = e }) (terms_at ts (f ∷ a ∷ value ∷ exception ∷ [])) (effect_clauses_tree ws qs ts clauses)) effect
      ∙ ap (Handle (kind_of kind) (handler_types vs written) (terms_at ts (f ∷ a ∷ value ∷ exception ∷ []))) others
  term_stays at ts (term.Annotated a t) h = ap (Annot (term_at ts a)) (types t h.1.0)

-- each type, pattern and term has a tree
pub length-types_of : (p : Parts) → length (types_of p) ≡ length p.types
length-types_of p = omega (arith, length-trees type_tree [] p.types)

pub length-patterns_of : (p : Parts) → length (patterns_of p) ≡ length p.patterns
length-patterns_of p = omega (arith, length-trees (λ qs n. pattern_tree (types_of p) qs n.form) [] p.patterns)

pub length-terms_of : (p : Parts) → length (terms_of p) ≡ length p.terms
length-terms_of p =
    omega (arith, length-trees (λ ts n. term_tree (types_of p) (patterns_of p) (place_of n.place) ts n.form) [] p.terms)

-- where all types of an arena are there under the same numbers, its patterns are the same
patterns_same : (p : Parts) (vs : List Written) → IsArena p → ((t : ℕ) → t < length p.types → type_at (types_of p) t ≡ type_at vs t)
    → patterns_of p ≡ trees (λ qs n. pattern_tree vs qs n.form) [] p.patterns
patterns_same p vs h types =
    trees_same (λ n. pattern_needs n.form) (patterns_below (counts p)) (λ qs n. pattern_tree (types_of p) qs n.form) (λ qs n. pattern_tree vs qs n.form)
    (λ qs n k. pattern_stays (patterns_below (counts p) (length qs)) (types_of p) vs types qs n.form k) 0 [] p.patterns refl h.patterns

-- where all its types and patterns are, its terms are the same
terms_same : (p : Parts) (vs : List Written) (rs : List Pattern) → IsArena p
    → ((t : ℕ) → t < length p.types → type_at (types_of p) t ≡ type_at vs t)
    → ((q : ℕ) → q < length p.patterns → pattern_at (patterns_of p) q ≡ pattern_at rs q)
    → terms_of p ≡ trees (λ ts n. term_tree vs rs (place_of n.place) ts n.form) [] p.terms
terms_same p vs rs h types patterns =
    trees_same (λ n. term_needs n.form) (terms_below (counts p))
    (λ ts n. term_tree (types_of p) (patterns_of p) (place_of n.place) ts n.form)
    (λ ts n. term_tree vs rs (place_of n.place) ts n.form)
    (λ ts n k. term_stays (terms_below (counts p) (length ts)) (types_of p) vs types (patterns_of p) rs patterns (place_of n.place) ts n.form k)
    0 [] p.terms refl h.terms

abbrev pub with_one_type : Parts → TypeExpression → Parts
with_one_type p x = record p { types = p.types ++ x ∷ [] }

abbrev pub with_one_pattern : Parts → PatternNode → Parts
with_one_pattern p x = record p { patterns = p.patterns ++ x ∷ [] }

abbrev pub with_one_term : Parts → TermNode → Parts
with_one_term p x = record p { terms = p.terms ++ x ∷ [] }

-- a further type has its tree behind those of the others, and changes no pattern and no term
pub types_of-type : (p : Parts) (x : TypeExpression) → types_of (with_one_type p x) ≡ types_of p ++ type_tree (types_of p) x ∷ []
types_of-type p x = trees_push type_tree [] p.types x

pub type_kept : (p : Parts) (x : TypeExpression) (t : ℕ) → t < length p.types → type_at (types_of p) t ≡ type_at (types_of (with_one_type p x)) t
type_kept p x t h =
    sym (ap (λ ws. type_at ws t) (types_of-type p x)
    ∙ at_append (types_of p) (type_tree (types_of p) x ∷ []) t _ (subst (λ k. t < k) (sym (length-types_of p)) h))

pub patterns_of-type : (p : Parts) (x : TypeExpression) → IsArena p → patterns_of (with_one_type p x) ≡ patterns_of p
patterns_of-type p x h = sym (patterns_same p (types_of (with_one_type p x)) h (type_kept p x))

pub terms_of-type : (p : Parts) (x : TypeExpression) → IsArena p → terms_of (with_one_type p x) ≡ terms_of p
terms_of-type p x h =
    sym (terms_same p (types_of (with_one_type p x)) (patterns_of (with_one_type p x)) h (type_kept p x)
    (λ q k. ap (λ qs. pattern_at qs q) (sym (patterns_of-type p x h))))

-- a further pattern has its tree behind those of the others, and changes no term
pub patterns_of-pattern : (p : Parts) (x : PatternNode)
    → patterns_of (with_one_pattern p x) ≡ patterns_of p ++ pattern_tree (types_of p) (patterns_of p) x.form ∷ []
patterns_of-pattern p x = trees_push (λ qs n. pattern_tree (types_of p) qs n.form) [] p.patterns x

pub pattern_kept : (p : Parts) (x : PatternNode) (q : ℕ) → q < length p.patterns
    → pattern_at (patterns_of p) q ≡ pattern_at (patterns_of (with_one_pattern p x)) q
pattern_kept p x q h =
    sym (ap (λ qs. pattern_at qs q) (patterns_of-pattern p x)
    ∙ at_append (patterns_of p) (pattern_tree (types_of p) (patterns_of p) x.form ∷ []) q _ (subst (λ m. q < m) (sym (length-patterns_of p)) h))

pub terms_of-pattern : (p : Parts) (x : PatternNode) → IsArena p → terms_of (with_one_pattern p x) ≡ terms_of p
terms_of-pattern p x h = sym (terms_same p (types_of p) (patterns_of (with_one_pattern p x)) h (λ t k. refl) (pattern_kept p x))

-- a further term has its tree behind those of the others
pub terms_of-term : (p : Parts) (x : TermNode)
    → terms_of (with_one_term p x) ≡ terms_of p ++ term_tree (types_of p) (patterns_of p) (place_of x.place) (terms_of p) x.form ∷ []
terms_of-term p x = trees_push (λ ts n. term_tree (types_of p) (patterns_of p) (place_of n.place) ts n.form) [] p.terms x

pub term_kept : (p : Parts) (x : TermNode) (t : ℕ) → t < length p.terms
    → term_at (terms_of p) t ≡ term_at (terms_of (with_one_term p x)) t
term_kept p x t h =
    sym (ap (λ ts. term_at ts t) (terms_of-term p x)
    ∙ at_append (terms_of p) (term_tree (types_of p) (patterns_of p) (place_of x.place) (terms_of p) x.form ∷ []) t _
    (subst (λ m. t < m) (sym (length-terms_of p)) h))
