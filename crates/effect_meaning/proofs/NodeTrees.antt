-- The tree of a node is made of the trees of its parts, by their numbers in the arena: what a pass reads that goes by the
-- numbers.
use Rattle.std.proofs.Common.{◌≡◌, refl, sym, subst, ap, ◌∙◌, ℕ, zero, suc, ◌+◌, ◌<◌, List, [], ◌∷◌, ◌++◌, map, flat_map, length, slice_index_or, Option, Some, None, option_map, arith, length-append, append_assoc, append-nil}
use Rattle.std.proofs.Math.Seq.{get_or-append_seam}
use Rattle.effect_meaning.specs.Terms.{Written, Pattern, AndPattern, TuplePat, ConOfPat, RecordPat, OrPat, AliasPat, AnnotPat, Applied, AndType, Term, Fun, App, Let, LetRec, Seq, If, Match, Tuple, ConOf, Record, Array, Field, SetField, Prim, Catch, Handle, Annot, AndTerm, AndClause, When, AndEffect, AndFunction, Place}
use Rattle.effect_meaning.specs.Arena.{Parts, Counts, counts, Need, AType, APattern, ATerm, AllMet, EachStands, types_below, patterns_below, terms_below, IsArena, type_needs, pattern_needs, term_needs, clause_needs, effect_clause_needs, function_needs, record_needs, if_any}
use Rattle.effect_meaning.specs.ArenaTrees.{trees, type_at, pattern_at, term_at, types_at, patterns_at, terms_at, type_tree, pattern_tree, term_tree, clauses_tree, effect_clauses_tree, functions_tree, guard_tree, types_of, patterns_of, terms_of, place_of, constructor_of, operation_of, kind_of, handler_types}
use Rattle.effect_meaning.specs.declared.core_nodes.TypeExpression.{TypeExpression}
use Rattle.effect_meaning.specs.declared.core_nodes.TypeExpression.TheVariants as type
use Rattle.effect_meaning.specs.declared.core_nodes.FieldPart.{FieldPart}
use Rattle.effect_meaning.specs.declared.core_nodes.PatternNode.{PatternNode}
use Rattle.effect_meaning.specs.declared.core_nodes.PatternForm.{PatternForm}
use Rattle.effect_meaning.specs.declared.core_nodes.PatternForm.TheVariants as pattern
use Rattle.effect_meaning.specs.declared.core_nodes.Clause.{Clause}
use Rattle.effect_meaning.specs.declared.core_nodes.EffectClause.{EffectClause}
use Rattle.effect_meaning.specs.declared.core_nodes.Function.{Function}
use Rattle.effect_meaning.specs.declared.core_nodes.TermNode.{TermNode}
use Rattle.effect_meaning.specs.declared.core_nodes.TermForm.{TermForm}
use Rattle.effect_meaning.specs.declared.core_nodes.TermForm.TheVariants as term
use Rattle.effect_meaning.proofs.TreesStay.{at_append, met_left, met_right}

-- the trees of nodes begin with those before them
module _ {N T : Type 0} (tree : List T → N → T) where
  pub trees_begin : (ts : List T) (ns : List N) → (more : List T) × (trees tree ts ns ≡ ts ++ more)
  trees_begin ts [] = ([], sym (append-nil ts))
  trees_begin ts (n ∷ ns) =
      let rest : (more : List T) × (trees tree (ts ++ tree ts n ∷ []) ns ≡ (ts ++ tree ts n ∷ []) ++ more) = trees_begin (ts ++ tree ts n ∷ []) ns in
      (tree ts n ∷ rest.0, rest.1 ∙ append_assoc ts (tree ts n ∷ []) rest.0)

-- a tree that is made of those before it alone is made of the same ones in a longer list
module _ {N T : Type 0} (needs : N → List Need) (there : ℕ → Counts) (tree : List T → N → T)
    (agree : (ts more : List T) (n : N) → AllMet (there (length ts)) (needs n) → tree ts n ≡ tree (ts ++ more) n) where
  pub tree_at : (ts : List T) (ns : List N) (k : ℕ) (i : ℕ) (d : T) (e : N) → k ≡ length ts
      → EachStands (λ c n. AllMet c (needs n)) there k ns → i < length ns
      → slice_index_or (trees tree ts ns) (k + i) d ≡ tree (trees tree ts ns) (slice_index_or ns i e)
  tree_at ts [] k i d e h stand inside = absurd (omega (arith, inside))
  tree_at ts (n ∷ ns) k zero d e h stand inside =
      let rest : (more : List T) × (trees tree (ts ++ tree ts n ∷ []) ns ≡ (ts ++ tree ts n ∷ []) ++ more) = trees_begin tree (ts ++ tree ts n ∷ []) ns in
      let whole : trees tree ts (n ∷ ns) ≡ ts ++ tree ts n ∷ rest.0 = rest.1 ∙ append_assoc ts (tree ts n ∷ []) rest.0 in
      let at : length ts ≡ k + zero = omega (arith, h) in
      let here : slice_index_or (ts ++ tree ts n ∷ rest.0) (k + zero) d ≡ tree ts n =
      subst (λ j. slice_index_or (ts ++ tree ts n ∷ rest.0) j d ≡ tree ts n) at (get_or-append_seam ts (tree ts n) rest.0 d) in
      let same : tree ts n ≡ tree (ts ++ tree ts n ∷ rest.0) n =
      agree ts (tree ts n ∷ rest.0) n (subst (λ j. AllMet (there j) (needs n)) h stand.0) in
      ap (λ l. slice_index_or l (k + zero) d) whole ∙ here ∙ same ∙ ap (λ l. tree l n) (sym whole)
  tree_at ts (n ∷ ns) k (suc i) d e h stand inside =
      let next : suc k ≡ length (ts ++ tree ts n ∷ []) = omega (arith, h, length-append ts (tree ts n ∷ [])) in
      let less : i < length ns = omega (arith, inside) in
      let moved : suc k + i ≡ k + suc i = omega arith in
      subst (λ j. slice_index_or (trees tree (ts ++ tree ts n ∷ []) ns) j d ≡ tree (trees tree (ts ++ tree ts n ∷ []) ns) (slice_index_or ns i e)) moved
      (tree_at (ts ++ tree ts n ∷ []) ns (suc k) i d e next stand.1 less)

pub both : {A B C : Type 0} {a a' : A} {b b' : B} (f : A → B → C) → a ≡ a' → b ≡ b' → f a b ≡ f a' b'
both {a'} {b} f e h = ap (λ x. f x b) e ∙ ap (f a') h

-- where the types agree that stand there, a type is the same
module _ (c : Counts) (ws vs : List Written) (types : (t : ℕ) → t < c.types → type_at ws t ≡ type_at vs t) where
  pub types_at_same : (is : List ℕ) → AllMet c (map AType is) → types_at ws is ≡ types_at vs is
  types_at_same [] h = refl
  types_at_same (i ∷ is) h = both AndType (types i h.0) (types_at_same is h.1)

  pub type_tree_same : (t : TypeExpression) → AllMet c (type_needs t) → type_tree ws t ≡ type_tree vs t
  type_tree_same (type.Variable v) h = refl
  type_tree_same type.Any h = refl
  type_tree_same (type.Applied t arguments) h = ap (Applied t) (types_at_same arguments h.1)

-- the parts of a record are there
parts_met : (c : Counts) (need : ℕ → Need) (fs : List FieldPart) → AllMet c (record_needs need fs) → AllMet c (map need (map (λ f. f.part) fs))
parts_met c need [] h = tt
parts_met c need (f ∷ fs) h = (h.1.0, parts_met c need fs h.1.1)

-- where the patterns agree that stand there, a pattern is the same
module _ (c : Counts) (ws : List Written) (qs rs : List Pattern) (patterns : (q : ℕ) → q < c.patterns → pattern_at qs q ≡ pattern_at rs q) where
  pub patterns_at_same : (is : List ℕ) → AllMet c (map APattern is) → patterns_at qs is ≡ patterns_at rs is
  patterns_at_same [] h = refl
  patterns_at_same (i ∷ is) h = both AndPattern (patterns i h.0) (patterns_at_same is h.1)

  pub pattern_tree_same : (q : PatternForm) → AllMet c (pattern_needs q) → pattern_tree ws qs q ≡ pattern_tree ws rs q
  pattern_tree_same pattern.Any h = refl
  pattern_tree_same (pattern.Name x) h = refl
  pattern_tree_same (pattern.Constant k) h = refl
  pattern_tree_same (pattern.Tuple parts) h = ap TuplePat (patterns_at_same parts h)
  pattern_tree_same (pattern.Constructor con) h = refl
  pattern_tree_same (pattern.Construct con argument) h = ap (ConOfPat (constructor_of con)) (patterns argument h.1.0)
  pattern_tree_same (pattern.Record parts) h =
      ap (RecordPat (map (λ f. f.field) parts)) (patterns_at_same (map (λ f. f.part) parts) (parts_met c APattern parts h))
  pattern_tree_same (pattern.Or left right) h = both OrPat (patterns left h.0) (patterns right h.1.0)
  pattern_tree_same (pattern.Alias q x) h = ap (λ p. AliasPat p x) (patterns q h.0)
  pattern_tree_same (pattern.Annotated q t) h = ap (λ p. AnnotPat p (type_at ws t)) (patterns q h.0)

-- where the terms agree that stand there, a term is the same
module _ (c : Counts) (ws : List Written) (qs : List Pattern) (ts us : List Term) (terms : (t : ℕ) → t < c.terms → term_at ts t ≡ term_at us t) where
  pub terms_at_same : (is : List ℕ) → AllMet c (map ATerm is) → terms_at ts is ≡ terms_at us is
  terms_at_same [] h = refl
  terms_at_same (i ∷ is) h = both AndTerm (terms i h.0) (terms_at_same is h.1)

  pub guard_same : (g : Option ℕ) → AllMet c (if_any ATerm g) → guard_tree ts g ≡ guard_tree us g
  guard_same None h = refl
  guard_same (Some g) h = ap When (terms g h.0)

  pub clauses_same : (cs : List Clause) → AllMet c (flat_map clause_needs cs) → clauses_tree qs ts cs ≡ clauses_tree qs us cs
  clauses_same [] h = refl
  clauses_same (k ∷ ks) h =
      ap (λ g. AndClause (pattern_at qs k.pattern) g (term_at ts k.body) (clauses_tree qs ts ks))
      (guard_same k.guard (met_left c (if_any ATerm k.guard) (flat_map clause_needs ks) h.1.1))
      ∙ both (AndClause (pattern_at qs k.pattern) (guard_tree us k.guard)) (terms k.body h.1.0)
      (clauses_same ks (met_right c (if_any ATerm k.guard) (flat_map clause_needs ks) h.1.1))

  pub effect_clauses_same : (cs : List EffectClause) → AllMet c (flat_map effect_clause_needs cs)
      → effect_clauses_tree ws qs ts cs ≡ effect_clauses_tree ws qs us cs
  effect_clauses_same [] h = refl
  effect_clauses_same (k ∷ ks) h =
      both (AndEffect (constructor_of k.effect) (option_map (pattern_at qs) k.argument) k.continuation (option_map (type_at ws) k.annotation))
      (terms k.body h.1.0)
      (effect_clauses_same ks (met_right c (if_any APattern k.argument ++ if_any AType k.annotation) (flat_map effect_clause_needs ks) h.1.1))

  pub functions_same : (fs : List Function) → AllMet c (flat_map function_needs fs) → functions_tree ws ts fs ≡ functions_tree ws us fs
  functions_same [] h = refl
  functions_same (f ∷ fs) h =
      both (AndFunction f.name (option_map (type_at ws) f.annotation) f.parameter) (terms f.body h.0)
      (functions_same fs (met_right c (if_any AType f.annotation) (flat_map function_needs fs) h.1))

  pub term_tree_same : (at : Place) (a : TermForm) → AllMet c (term_needs a) → term_tree ws qs at ts a ≡ term_tree ws qs at us a
  term_tree_same at (term.Name x) h = refl
  term_tree_same at (term.Constant k) h = refl
  term_tree_same at (term.Function x body) h = ap (Fun x) (terms body h.0)
  term_tree_same at (term.Apply f a) h = both App (terms f h.0) (terms a h.1.0)
  term_tree_same at (term.Let x a body) h = both (Let x) (terms a h.0) (terms body h.1.0)
  term_tree_same at (term.LetRec functions body) h = both LetRec (functions_same functions h.1) (terms body h.0)
  term_tree_same at (term.Sequence a b) h = both Seq (terms a h.0) (terms b h.1.0)
  term_tree_same at (term.If k a b) h =
      ap (λ t. If t (term_at ts a) (term_at ts b)) (terms k h.0) ∙ both (If (term_at us k)) (terms a h.1.0) (terms b h.1.1.0)
  term_tree_same at (term.Match a clauses) h = both (Match at) (terms a h.0) (clauses_same clauses h.1)
  term_tree_same at (term.Tuple parts) h = ap Tuple (terms_at_same parts h)
  term_tree_same at (term.Constructor con) h = refl
  term_tree_same at (term.Construct con argument) h = ap (ConOf (constructor_of con)) (terms argument h.1.0)
  term_tree_same at (term.Record parts) h =
      ap (Record (map (λ f. f.field) parts)) (terms_at_same (map (λ f. f.part) parts) (parts_met c ATerm parts h))
  term_tree_same at (term.Array parts) h = ap Array (terms_at_same parts h)
  term_tree_same at (term.Field field a) h = ap (Field field) (terms a h.1.0)
  term_tree_same at (term.SetField field a b) h = both (SetField field) (terms a h.1.0) (terms b h.1.1.0)
  term_tree_same at (term.Primitive op parts) h = ap (Prim (operation_of op)) (terms_at_same parts h)
  term_tree_same at (term.Catch body values exceptions) h =
      ap (λ t. Catch at t (clauses_tree qs ts values) (clauses_tree qs ts exceptions)) (terms body h.0)
      ∙ both (Catch at (term_at us body))
      (clauses_same values (met_left c (flat_map clause_needs values) (flat_map clause_needs exceptions) h.1))
      (clauses_same exceptions (met_right c (flat_map clause_needs values) (flat_map clause_needs exceptions) h.1))
  term_tree_same at (term.Handle kind written f a value exception clauses) h =
      both (Handle (kind_of kind) (handler_types ws written))
      (terms_at_same (f ∷ a ∷ value ∷ exception ∷ []) (h.0, (h.1.0, (h.1.1.0, (h.1.1.1.0, tt)))))
      (effect_clauses_same clauses (met_right c (if_any AType written.effect) (flat_map effect_clause_needs clauses) h.1.1.1.1))
  term_tree_same at (term.Annotated a t) h = ap (λ b. Annot b (type_at ws t)) (terms a h.0)

from_zero : (i : ℕ) → 0 + i ≡ i
from_zero i = omega arith

-- a type of an arena is made of its parts there
pub type_at_node : (p : Parts) (i : ℕ) (e : TypeExpression) → IsArena p → i < length p.types
    → type_at (types_of p) i ≡ type_tree (types_of p) (slice_index_or p.types i e)
type_at_node p i e h inside =
    ap (type_at (types_of p)) (sym (from_zero i))
    ∙ tree_at type_needs (types_below (counts p)) type_tree
    (λ ts more n k. type_tree_same (types_below (counts p) (length ts)) ts (ts ++ more) (λ t j. sym (at_append ts more t _ j)) n k)
    [] p.types 0 i _ e refl h.types inside

-- a pattern of an arena is made of its parts there
pub pattern_at_node : (p : Parts) (i : ℕ) (e : PatternNode) → IsArena p → i < length p.patterns
    → pattern_at (patterns_of p) i ≡ pattern_tree (types_of p) (patterns_of p) (slice_index_or p.patterns i e).form
pattern_at_node p i e h inside =
    ap (pattern_at (patterns_of p)) (sym (from_zero i))
    ∙ tree_at (λ n. pattern_needs n.form) (patterns_below (counts p)) (λ qs n. pattern_tree (types_of p) qs n.form)
    (λ qs more n k. pattern_tree_same (patterns_below (counts p) (length qs)) (types_of p) qs (qs ++ more) (λ q j. sym (at_append qs more q _ j)) n.form k)
    [] p.patterns 0 i _ e refl h.patterns inside

-- a term of an arena is made of its parts there
pub term_at_node : (p : Parts) (i : ℕ) (e : TermNode) → IsArena p → i < length p.terms
    → term_at (terms_of p) i ≡ term_tree (types_of p) (patterns_of p) (place_of (slice_index_or p.terms i e).place) (terms_of p) (slice_index_or p.terms i e).form
term_at_node p i e h inside =
    ap (term_at (terms_of p)) (sym (from_zero i))
    ∙ tree_at (λ n. term_needs n.form) (terms_below (counts p)) (λ ts n. term_tree (types_of p) (patterns_of p) (place_of n.place) ts n.form)
    (λ ts more n k.
    term_tree_same (terms_below (counts p) (length ts)) (types_of p) (patterns_of p) ts (ts ++ more) (λ t j. sym (at_append ts more t _ j)) (place_of n.place) n.form k)
    [] p.terms 0 i _ e refl h.terms inside

-- what stands at a number of an arena has its needs met
module _ {X : Type 0} (needs : X → List Need) (there : ℕ → Counts) where
  pub stands_at : (k i : ℕ) (xs : List X) (e : X) → EachStands (λ c x. AllMet c (needs x)) there k xs → i < length xs
      → AllMet (there (k + i)) (needs (slice_index_or xs i e))
  stands_at k i [] e h inside = absurd (omega (arith, inside))
  stands_at k zero (x ∷ xs) e h inside = let at : k ≡ k + zero = omega arith in subst (λ j. AllMet (there j) (needs x)) at h.0
  stands_at k (suc i) (x ∷ xs) e h inside =
      let at : suc k + i ≡ k + suc i = omega arith in
      let less : i < length xs = omega (arith, inside) in
      subst (λ j. AllMet (there j) (needs (slice_index_or xs i e))) at (stands_at (suc k) i xs e h.1 less)
