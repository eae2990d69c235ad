-- The walk that tests names: what a term and a pattern leave to be done, and when all of it holds.
use Rattle.std.specs.Prelude.{◌≡◌, ℕ, ◌+◌, ◌-◌, Bool, true, not, ◌&&◌, nat_lt, nat_le, List, [], ◌∷◌, ◌++◌, length, max, take, drop, reverse, slice_index_or, Option, Some, None}
use Rattle.effect_meaning.specs.Terms.{Written, Variable, Any, Applied, Writtens, NoTypes, AndType}
use Rattle.effect_meaning.specs.Arena.{Parts}
use Rattle.effect_meaning.specs.ArenaTrees.{type_at, pattern_at, term_at, types_of, patterns_of, terms_of}
use Rattle.effect_meaning.specs.Scoped.{Scope, holds, is_new, same, names_in, pattern_scoped, term_scoped}
use Rattle.effect_meaning.specs.declared.core_nodes.Constructor.{Constructor}
use Rattle.effect_meaning.specs.declared.core_nodes.Constructor.TheVariants as constructor
use Rattle.effect_meaning.specs.declared.core_nodes.FieldPart.{FieldPart}
use Rattle.effect_meaning.specs.declared.core_nodes.PatternForm.{PatternForm}
use Rattle.effect_meaning.specs.declared.core_nodes.PatternForm.TheVariants as pattern
use Rattle.effect_meaning.specs.declared.core_nodes.Clause.{Clause}
use Rattle.effect_meaning.specs.declared.core_nodes.EffectClause.{EffectClause}
use Rattle.effect_meaning.specs.declared.core_nodes.Function.{Function}
use Rattle.effect_meaning.specs.declared.core_nodes.TermForm.{TermForm}
use Rattle.effect_meaning.specs.declared.core_nodes.TermForm.TheVariants as term
use Rattle.core_check.specs.declared.known.Known.{Known}
use Rattle.core_check.specs.declared.task.Task.{Task}
use Rattle.core_check.specs.declared.task.Task.TheVariants as task
use Rattle.core_check.specs.declared.task.Sort.TheVariants as sort
use Rattle.core_check.specs.Tasks.{pushed, pushed_parts}

-- a scope with these names
abbrev pub at : Scope → List ℕ → Scope
at s names = record s { names = names }

-- all rows below the numbers are in scope
pub record Covers (k : Known) (s : Scope) : Type 0 where
  pub types : (n : ℕ) → nat_lt n k.types ≡ true → holds s.types n ≡ true
  pub variants : (n : ℕ) → nat_lt n k.variants ≡ true → holds s.variants n ≡ true
  pub fields : (n : ℕ) → nat_lt n k.fields ≡ true → holds s.fields n ≡ true
  pub exceptions : (n : ℕ) → nat_lt n k.exceptions ≡ true → holds s.exceptions n ≡ true
  pub effects : (n : ℕ) → nat_lt n k.effects ≡ true → holds s.effects n ≡ true

-- a number above those of the types that a written type names
abbrev mutual
  pub reach : Written → ℕ
  reach (Variable v) = 0
  reach Any = 0
  reach (Applied t ws) = reach_all (t + 1) ws

  pub reach_all : ℕ → Writtens → ℕ
  reach_all m NoTypes = m
  reach_all m (AndType w ws) = reach_all (max m (reach w)) ws

-- the list has the reach of each type of an arena
abbrev pub HasReach : Parts → List ℕ → Type 0
HasReach p rs = (t : ℕ) → slice_index_or rs t 0 ≡ reach (type_at (types_of p) t)

-- the tests of rows
abbrev pub is_known : Known → Constructor → Bool
is_known k (constructor.Variant n) = nat_lt n k.variants
is_known k (constructor.Exception n) = nat_lt n k.exceptions
is_known k (constructor.Effect n) = nat_lt n k.effects

abbrev pub are_known : Known → List FieldPart → Bool
are_known k [] = true
are_known k (f ∷ fs) = nat_lt f.field k.fields && are_known k fs

-- the types that a written type names are below a number
abbrev pub is_within : List ℕ → ℕ → ℕ → Bool
is_within rs n t = nat_le (slice_index_or rs t 0) n

abbrev pub is_any_within : List ℕ → ℕ → Option ℕ → Bool
is_any_within rs n None = true
is_any_within rs n (Some t) = is_within rs n t

abbrev pub is_reached : Known → List ℕ → ℕ → Bool
is_reached k rs t = is_within rs k.types t

abbrev pub is_any_reached : Known → List ℕ → Option ℕ → Bool
is_any_reached k rs t = is_any_within rs k.types t

-- a pattern: the test, and the tasks before which so many names are in scope
abbrev pub pattern_test : Known → List ℕ → PatternForm → Bool
pattern_test k rs (pattern.Constructor con) = is_known k con
pattern_test k rs (pattern.Construct con argument) = is_known k con
pattern_test k rs (pattern.Record fs) = are_known k fs
pattern_test k rs (pattern.Annotated q t) = is_reached k rs t
pattern_test k rs _ = true

abbrev pub pattern_tasks : ℕ → PatternForm → List Task → List Task
pattern_tasks n pattern.Any ts = ts
pattern_tasks n (pattern.Name x) ts = task.Bind x ∷ ts
pattern_tasks n (pattern.Constant c) ts = ts
pattern_tasks n (pattern.Tuple parts) ts = pushed sort.Pattern ts parts
pattern_tasks n (pattern.Constructor con) ts = ts
pattern_tasks n (pattern.Construct con argument) ts = task.Pattern argument ∷ ts
pattern_tasks n (pattern.Record fs) ts = pushed_parts sort.Pattern ts fs
pattern_tasks n (pattern.Or left right) ts = task.Pattern left ∷ task.Turn n ∷ task.Pattern right ∷ task.Join n ∷ ts
pattern_tasks n (pattern.Alias q x) ts = task.Bind x ∷ task.Pattern q ∷ ts
pattern_tasks n (pattern.Annotated q t) ts = task.Pattern q ∷ ts

-- clauses and functions
abbrev pub guard_tasks : Option ℕ → List Task → List Task
guard_tasks None ts = ts
guard_tasks (Some g) ts = task.Term g ∷ ts

abbrev pub argument_tasks : Option ℕ → List Task → List Task
argument_tasks None ts = ts
argument_tasks (Some q) ts = task.Pattern q ∷ ts

abbrev pub clause_tasks : ℕ → List Task → List Clause → List Task
clause_tasks n ts [] = ts
clause_tasks n ts (c ∷ cs) =
    clause_tasks n (task.Pattern c.pattern ∷ guard_tasks c.guard (task.Term c.body ∷ task.Leave n ∷ ts)) cs

abbrev pub effect_tasks : ℕ → List Task → List EffectClause → List Task
effect_tasks n ts [] = ts
effect_tasks n ts (c ∷ cs) =
    effect_tasks n (task.Bind c.continuation ∷ argument_tasks c.argument (task.Term c.body ∷ task.Leave n ∷ ts)) cs

abbrev pub name_tasks : List Task → List Function → List Task
name_tasks ts [] = ts
name_tasks ts (f ∷ fs) = name_tasks (task.Bind f.name ∷ ts) fs

abbrev pub body_tasks : ℕ → List Task → List Function → List Task
body_tasks n ts [] = ts
body_tasks n ts (f ∷ fs) = body_tasks n (task.Bind f.parameter ∷ task.Term f.body ∷ task.Leave n ∷ ts) fs

abbrev pub effects_test : Known → List ℕ → List EffectClause → Bool
effects_test k rs [] = true
effects_test k rs (c ∷ cs) = is_known k c.effect && is_any_reached k rs c.annotation && effects_test k rs cs

abbrev pub functions_test : Known → List ℕ → List Function → Bool
functions_test k rs [] = true
functions_test k rs (f ∷ fs) = is_any_reached k rs f.annotation && functions_test k rs fs

-- a term: the test, and the tasks before which these names are in scope
abbrev pub term_test : Known → List ℕ → List ℕ → TermForm → Bool
term_test k rs names (term.Name x) = holds names x
term_test k rs names (term.LetRec fs body) = functions_test k rs fs
term_test k rs names (term.Constructor con) = is_known k con
term_test k rs names (term.Construct con argument) = is_known k con
term_test k rs names (term.Record fs) = are_known k fs
term_test k rs names (term.Field field a) = nat_lt field k.fields
term_test k rs names (term.SetField field a b) = nat_lt field k.fields
term_test k rs names (term.Handle kind types f a value exception cs) = is_any_reached k rs types.effect && effects_test k rs cs
term_test k rs names (term.Annotated a t) = is_reached k rs t
term_test k rs names _ = true

abbrev pub term_tasks : ℕ → TermForm → List Task → List Task
term_tasks n (term.Name x) ts = ts
term_tasks n (term.Constant c) ts = ts
term_tasks n (term.Function x body) ts = task.Bind x ∷ task.Term body ∷ task.Leave n ∷ ts
term_tasks n (term.Apply f a) ts = task.Term f ∷ task.Term a ∷ ts
term_tasks n (term.Let x a body) ts = task.Term a ∷ task.Bind x ∷ task.Term body ∷ task.Leave n ∷ ts
term_tasks n (term.LetRec fs body) ts = name_tasks (body_tasks (n + length fs) (task.Term body ∷ task.Leave n ∷ ts) fs) fs
term_tasks n (term.Sequence a b) ts = task.Term a ∷ task.Term b ∷ ts
term_tasks n (term.If c a b) ts = task.Term c ∷ task.Term a ∷ task.Term b ∷ ts
term_tasks n (term.Match a cs) ts = task.Term a ∷ clause_tasks n ts cs
term_tasks n (term.Tuple parts) ts = pushed sort.Term ts parts
term_tasks n (term.Constructor con) ts = ts
term_tasks n (term.Construct con argument) ts = task.Term argument ∷ ts
term_tasks n (term.Record fs) ts = pushed_parts sort.Term ts fs
term_tasks n (term.Array parts) ts = pushed sort.Term ts parts
term_tasks n (term.Field field a) ts = task.Term a ∷ ts
term_tasks n (term.SetField field a b) ts = task.Term a ∷ task.Term b ∷ ts
term_tasks n (term.Primitive op parts) ts = pushed sort.Term ts parts
term_tasks n (term.Catch a values exceptions) ts = task.Term a ∷ clause_tasks n (clause_tasks n ts values) exceptions
term_tasks n (term.Handle kind types f a value exception cs) ts =
    task.Term f ∷ task.Term a ∷ task.Term value ∷ task.Term exception ∷ effect_tasks n ts cs
term_tasks n (term.Annotated a t) ts = task.Term a ∷ ts

-- all tasks hold from these names on, and lead to others at the end. The names that go out of scope between the sides of
-- an or-pattern are kept, the earliest first
abbrev pub Fine : Parts → Scope → List ℕ → List Task → List ℕ → List (List ℕ) → Type 0
Fine p s end [] names kept = names ≡ end
Fine p s end (task.Term t ∷ ts) names kept = (term_scoped (at s names) (term_at (terms_of p) t) ≡ true) × Fine p s end ts names kept
Fine p s end (task.Pattern q ∷ ts) names kept =
    (pattern_scoped (at s names) (pattern_at (patterns_of p) q) ≡ true)
    × Fine p s end ts (names_in (pattern_at (patterns_of p) q) ++ names) kept
Fine p s end (task.Bind x ∷ ts) names kept = (is_new (at s names) x ≡ true) × Fine p s end ts (x ∷ names) kept
Fine p s end (task.Turn n ∷ ts) names kept = Fine p s end ts (drop (length names - n) names) (reverse (take (length names - n) names) ∷ kept)
Fine p s end (task.Join n ∷ ts) names [] = ⊥
Fine p s end (task.Join n ∷ ts) names (l ∷ kept) =
    (same (reverse l) (take (length names - n) names) ≡ true) × Fine p s end ts (reverse l ++ drop (length names - n) names) kept
Fine p s end (task.Leave n ∷ ts) names kept = Fine p s end ts (drop (length names - n) names) kept

-- where the later tasks hold, so do the earlier ones
abbrev pub Leads : Parts → Known → List ℕ → List Task → List ℕ → List (List ℕ) → List Task → List ℕ → List (List ℕ) → Type 0
Leads p k rs ts names kept us later others =
    (s : Scope) → Covers k s → HasReach p rs → (end : List ℕ) → Fine p s end us later others → Fine p s end ts names kept

-- no name of a list is in scope
abbrev pub none_held : List ℕ → List ℕ → Bool
none_held names [] = true
none_held names (x ∷ xs) = not (holds names x) && none_held names xs

-- each name of a list is in scope
abbrev pub all_held : List ℕ → List ℕ → Bool
all_held names [] = true
all_held names (x ∷ xs) = holds names x && all_held names xs

-- names come into scope in turn
abbrev pub bound_behind : List ℕ → List ℕ → List ℕ
bound_behind names [] = names
bound_behind names (x ∷ xs) = bound_behind (x ∷ names) xs

-- the names behind the first ones are those of a list, which take their places
abbrev pub Exchanged : List ℕ → ℕ → List ℕ → List ℕ → Type 0
Exchanged list first names later =
    (same (reverse list) (take (length names - first) names) ≡ true) × (later ≡ reverse list ++ drop (length names - first) names)
