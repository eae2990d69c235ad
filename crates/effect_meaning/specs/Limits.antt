-- The limits on slots and on free names: the functions, items and effect clauses of a program, and the greatest of their
-- numbers. All of it is this project's own.
use Rattle.std.specs.Prelude.{ℕ, ◌≤◌, max, List, [], ◌∷◌, ◌++◌, length, map}
use Rattle.effect_meaning.specs.Terms.{Term, Var, Const, Fun, App, Let, LetRec, Seq, If, Match, Tuple, Con, ConOf, Record, Array, Field, SetField, Prim, Catch, Handle, Annot, Terms, NoTerms, AndTerm, Functions, NoFunctions, AndFunction, Clauses, NoClauses, AndClause, Guard, NoGuard, When, EffectClauses, NoEffects, AndEffect, Item, Define, Destructure, DefineRec, Evaluate, Program}
use Rattle.effect_meaning.specs.Config.{Owner, OfItem, OfFunction, OfClause, NoText}
use Rattle.effect_meaning.specs.Slots.{tops, free_names, clause_free_names, slots}

-- the functions and the effect clauses in a term
abbrev mutual
  pub owners : Term → List Owner
  owners (Var x) = []
  owners (Const c) = []
  owners (Fun x body) = OfFunction x body ∷ owners body
  owners (App g a) = owners g ++ owners a
  owners (Let x a b) = owners a ++ owners b
  owners (LetRec group b) = function_owners group ++ owners b
  owners (Seq a b) = owners a ++ owners b
  owners (If c a b) = owners c ++ owners a ++ owners b
  owners (Match at a cs) = owners a ++ clause_owners cs
  owners (Tuple ts) = term_owners ts
  owners (Con con) = []
  owners (ConOf con a) = owners a
  owners (Record fields ts) = term_owners ts
  owners (Array ts) = term_owners ts
  owners (Field field a) = owners a
  owners (SetField field a b) = owners a ++ owners b
  owners (Prim op ts) = term_owners ts
  owners (Catch at a values exceptions) = owners a ++ clause_owners values ++ clause_owners exceptions
  owners (Handle kind types ts cs) = term_owners ts ++ effect_owners cs
  owners (Annot a t) = owners a

  -- those of the parts of a form
  pub term_owners : Terms → List Owner
  term_owners NoTerms = []
  term_owners (AndTerm a ts) = owners a ++ term_owners ts

  -- those of a let rec group
  pub function_owners : Functions → List Owner
  function_owners NoFunctions = []
  function_owners (AndFunction g type x body rest) = OfFunction x body ∷ owners body ++ function_owners rest

  -- those of clauses
  pub clause_owners : Clauses → List Owner
  clause_owners NoClauses = []
  clause_owners (AndClause q guard body rest) = guard_owners guard ++ owners body ++ clause_owners rest

  -- those of a guard
  pub guard_owners : Guard → List Owner
  guard_owners NoGuard = []
  guard_owners (When g) = owners g

  -- those of effect clauses
  pub effect_owners : EffectClauses → List Owner
  effect_owners NoEffects = []
  effect_owners (AndEffect effect argument k t body rest) = OfClause argument k body ∷ owners body ++ effect_owners rest

-- those of the items, and the items themselves
abbrev pub item_owners : List Item → List Owner
item_owners [] = []
item_owners (Define x a ∷ is) = OfItem a ∷ owners a ++ item_owners is
item_owners (Destructure at q a ∷ is) = OfItem a ∷ owners a ++ item_owners is
item_owners (DefineRec group ∷ is) = function_owners group ++ item_owners is
item_owners (Evaluate a ∷ is) = OfItem a ∷ owners a ++ item_owners is

-- the free names of a function and of an effect clause
abbrev pub free_count : List ℕ → Owner → ℕ
free_count top (OfItem a) = 0
free_count top (OfFunction x body) = length (free_names top x body)
free_count top (OfClause argument k body) = length (clause_free_names top argument k body)
free_count top NoText = 0

-- the greatest of these, and 0 of none
abbrev pub greatest : List ℕ → ℕ
greatest [] = 0
greatest (n ∷ ns) = max n (greatest ns)

-- the most slots that a function, an item or an effect clause of the program has
abbrev pub most_slots : Program → ℕ
most_slots p = greatest (map slots (item_owners p.items))

-- the most free names that a function or an effect clause of the program has
abbrev pub most_free : Program → ℕ
most_free p = greatest (map (free_count (tops p.items)) (item_owners p.items))

-- no function has more than 255 slots or more than 255 free names
abbrev pub IsWithinLimits : Program → Type 0
IsWithinLimits p = (most_slots p ≤ 255) × (most_free p ≤ 255)
