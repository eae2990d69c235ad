-- The names and the slots of a program's functions, items and effect clauses, and its size. All of it is this project's own.
use Rattle.std.specs.Prelude.{ℕ, ◌+◌, max, List, [], ◌∷◌, ◌++◌, Option, Some, None, Bool, false, length, if◌then◌else◌, nat_eq, not, ◌||◌, filter}
use Rattle.effect_meaning.specs.Terms.{Pattern, AnyPat, NamePat, ConstPat, TuplePat, ConPat, ConOfPat, RecordPat, OrPat, AliasPat, AnnotPat, Patterns, NoPatterns, AndPattern, Term, Var, Const, Fun, App, Let, LetRec, Seq, If, Match, Tuple, Con, ConOf, Record, Array, Field, SetField, Prim, Catch, Handle, Annot, Terms, NoTerms, AndTerm, Functions, NoFunctions, AndFunction, Clauses, NoClauses, AndClause, Guard, NoGuard, When, EffectClauses, NoEffects, AndEffect, Item, Define, Destructure, DefineRec, Evaluate, Program}
use Rattle.effect_meaning.specs.Config.{Owner, OfItem, OfFunction, OfClause, NoText}

-- whether a name is among these
abbrev pub holds : List ℕ → ℕ → Bool
holds [] x = false
holds (y ∷ ys) x = nat_eq x y || holds ys x

-- names, each once
abbrev pub union : List ℕ → List ℕ → List ℕ
union [] ys = ys
union (x ∷ xs) ys = if holds ys x then union xs ys else x ∷ union xs ys

-- names but these
abbrev pub without : List ℕ → List ℕ → List ℕ
without xs = filter (λ x. not (holds xs x))

-- the variables of a pattern; both sides of an or-pattern have the same ones
abbrev mutual
  pub pattern_names : Pattern → List ℕ
  pattern_names AnyPat = []
  pattern_names (NamePat x) = x ∷ []
  pattern_names (ConstPat c) = []
  pattern_names (TuplePat qs) = patterns_names qs
  pattern_names (ConPat con) = []
  pattern_names (ConOfPat con q) = pattern_names q
  pattern_names (RecordPat fields qs) = patterns_names qs
  pattern_names (OrPat q r) = pattern_names q
  pattern_names (AliasPat q x) = x ∷ pattern_names q
  pattern_names (AnnotPat q t) = pattern_names q

  -- those of several patterns
  pub patterns_names : Patterns → List ℕ
  patterns_names NoPatterns = []
  patterns_names (AndPattern q qs) = pattern_names q ++ patterns_names qs

-- the variables of an effect clause's argument
abbrev pub argument_names : Option Pattern → List ℕ
argument_names None = []
argument_names (Some q) = pattern_names q

-- the names of a let rec group
abbrev pub function_names : Functions → List ℕ
function_names NoFunctions = []
function_names (AndFunction g type x body rest) = g ∷ function_names rest

-- the top-level names
abbrev pub tops : List Item → List ℕ
tops [] = []
tops (Define x a ∷ is) = x ∷ tops is
tops (Destructure at q a ∷ is) = pattern_names q ++ tops is
tops (DefineRec group ∷ is) = function_names group ++ tops is
tops (Evaluate a ∷ is) = tops is

-- the free variables of a term, each once
abbrev mutual
  pub free : Term → List ℕ
  free (Var x) = x ∷ []
  free (Const c) = []
  free (Fun x body) = without (x ∷ []) (free body)
  free (App g a) = union (free g) (free a)
  free (Let x a b) = union (free a) (without (x ∷ []) (free b))
  free (LetRec group b) = without (function_names group) (union (functions_free group) (free b))
  free (Seq a b) = union (free a) (free b)
  free (If c a b) = union (free c) (union (free a) (free b))
  free (Match at a cs) = union (free a) (clauses_free cs)
  free (Tuple ts) = terms_free ts
  free (Con con) = []
  free (ConOf con a) = free a
  free (Record fields ts) = terms_free ts
  free (Array ts) = terms_free ts
  free (Field field a) = free a
  free (SetField field a b) = union (free a) (free b)
  free (Prim op ts) = terms_free ts
  free (Catch at a values exceptions) = union (free a) (union (clauses_free values) (clauses_free exceptions))
  free (Handle kind types ts cs) = union (terms_free ts) (effects_free cs)
  free (Annot a t) = free a

  -- those of the parts of a form
  pub terms_free : Terms → List ℕ
  terms_free NoTerms = []
  terms_free (AndTerm a ts) = union (free a) (terms_free ts)

  -- those of the functions of a group, with the names of the group
  pub functions_free : Functions → List ℕ
  functions_free NoFunctions = []
  functions_free (AndFunction g type x body rest) = union (without (x ∷ []) (free body)) (functions_free rest)

  -- those of clauses
  pub clauses_free : Clauses → List ℕ
  clauses_free NoClauses = []
  clauses_free (AndClause q guard body rest) =
      union (without (pattern_names q) (union (guard_free guard) (free body))) (clauses_free rest)

  -- those of a guard
  pub guard_free : Guard → List ℕ
  guard_free NoGuard = []
  guard_free (When g) = free g

  -- those of effect clauses together
  pub effects_free : EffectClauses → List ℕ
  effects_free NoEffects = []
  effects_free (AndEffect effect argument k t body rest) =
      union (without (k ∷ argument_names argument) (free body)) (effects_free rest)

-- the free names of a function: its free variables that aren't top-level
abbrev pub free_names : List ℕ → ℕ → Term → List ℕ
free_names top x body = without top (free (Fun x body))

-- the free names of an effect clause
abbrev pub clause_free_names : List ℕ → Option Pattern → ℕ → Term → List ℕ
clause_free_names top argument k body = without top (without (k ∷ argument_names argument) (free body))

-- the number of parts
abbrev pub terms_count : Terms → ℕ
terms_count NoTerms = 0
terms_count (AndTerm a ts) = terms_count ts + 1

-- the number of functions of a group
abbrev pub functions_count : Functions → ℕ
functions_count NoFunctions = 0
functions_count (AndFunction g type x body rest) = functions_count rest + 1

-- the slots that a term needs within its function, inner functions and effect clauses apart
abbrev mutual
  pub need : Term → ℕ
  need (Var x) = 0
  need (Const c) = 0
  need (Fun x body) = 0
  need (App g a) = max 2 (max (1 + need g) (need a))
  need (Let x a b) = max (need a) (1 + need b)
  need (LetRec group b) = functions_count group + need b
  need (Seq a b) = max (need a) (need b)
  need (If c a b) = max (need c) (max (need a) (need b))
  need (Match at a cs) = max (need a) (clauses_need cs)
  need (Tuple ts) = parts_need ts
  need (Con con) = 0
  need (ConOf con a) = max 1 (need a)
  need (Record fields ts) = parts_need ts
  need (Array ts) = parts_need ts
  need (Field field a) = max 1 (need a)
  need (SetField field a b) = max 2 (max (1 + need a) (need b))
  need (Prim op ts) = parts_need ts
  need (Catch at a values exceptions) = max (1 + need a) (max (clauses_need values) (clauses_need exceptions))
  need (Handle kind types ts cs) = parts_need ts
  need (Annot a t) = need a

  -- of n parts, evaluated from the last to the first: the greatest of n and of each n - i + need of the i-th
  pub parts_need : Terms → ℕ
  parts_need NoTerms = 0
  parts_need (AndTerm a ts) = max (terms_count ts + 1) (max (terms_count ts + need a) (parts_need ts))

  -- of clauses: the subject, the pattern's variables, and the guard or the body
  pub clauses_need : Clauses → ℕ
  clauses_need NoClauses = 0
  clauses_need (AndClause q guard body rest) =
      max (1 + length (pattern_names q) + max (guard_need guard) (need body)) (clauses_need rest)

  -- of a guard
  pub guard_need : Guard → ℕ
  guard_need NoGuard = 0
  guard_need (When g) = need g

-- the slots of an item, of a function, of an effect clause, and of what stands in no text
abbrev pub slots : Owner → ℕ
slots (OfItem a) = need a
slots (OfFunction x body) = 1 + need body
slots (OfClause argument k body) = 2 + length (argument_names argument) + need body
slots NoText = 0

-- the pattern nodes of a pattern
abbrev mutual
  pub pattern_size : Pattern → ℕ
  pattern_size AnyPat = 1
  pattern_size (NamePat x) = 1
  pattern_size (ConstPat c) = 1
  pattern_size (TuplePat qs) = 1 + patterns_size qs
  pattern_size (ConPat con) = 1
  pattern_size (ConOfPat con q) = 1 + pattern_size q
  pattern_size (RecordPat fields qs) = 1 + patterns_size qs
  pattern_size (OrPat q r) = 1 + pattern_size q + pattern_size r
  pattern_size (AliasPat q x) = 1 + pattern_size q
  pattern_size (AnnotPat q t) = 1 + pattern_size q

  -- those of several patterns
  pub patterns_size : Patterns → ℕ
  patterns_size NoPatterns = 0
  patterns_size (AndPattern q qs) = pattern_size q + patterns_size qs

-- the nodes of an effect clause's pattern: its constructor and the argument's
abbrev pub effect_size : Option Pattern → ℕ
effect_size None = 1
effect_size (Some q) = 1 + pattern_size q

-- the term and pattern nodes of a term, with the free names of the functions and effect clauses in it
abbrev mutual
  pub term_size : List ℕ → Term → ℕ
  term_size top (Var x) = 1
  term_size top (Const c) = 1
  term_size top (Fun x body) = 1 + length (free_names top x body) + term_size top body
  term_size top (App g a) = 1 + term_size top g + term_size top a
  term_size top (Let x a b) = 1 + term_size top a + term_size top b
  term_size top (LetRec group b) = 1 + functions_size top group + term_size top b
  term_size top (Seq a b) = 1 + term_size top a + term_size top b
  term_size top (If c a b) = 1 + term_size top c + term_size top a + term_size top b
  term_size top (Match at a cs) = 1 + term_size top a + clauses_size top cs
  term_size top (Tuple ts) = 1 + terms_size top ts
  term_size top (Con con) = 1
  term_size top (ConOf con a) = 1 + term_size top a
  term_size top (Record fields ts) = 1 + terms_size top ts
  term_size top (Array ts) = 1 + terms_size top ts
  term_size top (Field field a) = 1 + term_size top a
  term_size top (SetField field a b) = 1 + term_size top a + term_size top b
  term_size top (Prim op ts) = 1 + terms_size top ts
  term_size top (Catch at a values exceptions) =
      1 + term_size top a + clauses_size top values + clauses_size top exceptions
  term_size top (Handle kind types ts cs) = 1 + terms_size top ts + effects_size top cs
  term_size top (Annot a t) = 1 + term_size top a

  -- of the parts of a form
  pub terms_size : List ℕ → Terms → ℕ
  terms_size top NoTerms = 0
  terms_size top (AndTerm a ts) = term_size top a + terms_size top ts

  -- each function of a group is a term node
  pub functions_size : List ℕ → Functions → ℕ
  functions_size top NoFunctions = 0
  functions_size top (AndFunction g type x body rest) =
      1 + length (free_names top x body) + term_size top body + functions_size top rest

  -- of clauses: their patterns, guards and bodies
  pub clauses_size : List ℕ → Clauses → ℕ
  clauses_size top NoClauses = 0
  clauses_size top (AndClause q guard body rest) =
      pattern_size q + guard_size top guard + term_size top body + clauses_size top rest

  -- of a guard
  pub guard_size : List ℕ → Guard → ℕ
  guard_size top NoGuard = 0
  guard_size top (When g) = term_size top g

  -- of effect clauses, each of which counts as a function
  pub effects_size : List ℕ → EffectClauses → ℕ
  effects_size top NoEffects = 0
  effects_size top (AndEffect effect argument k t body rest) =
      effect_size argument + length (clause_free_names top argument k body) + term_size top body + effects_size top rest

-- the nodes of the value items, and each item once
abbrev pub items_size : List ℕ → List Item → ℕ
items_size top [] = 0
items_size top (Define x a ∷ is) = 1 + term_size top a + items_size top is
items_size top (Destructure at q a ∷ is) = 1 + pattern_size q + term_size top a + items_size top is
items_size top (DefineRec group ∷ is) = 1 + functions_size top group + items_size top is
items_size top (Evaluate a ∷ is) = 1 + term_size top a + items_size top is

-- the size of a program: its term nodes, pattern nodes and items, and the free names of all its functions
abbrev pub size : Program → ℕ
size p = p.declarations + items_size (tops p.items) p.items
