-- The types of the comparisons by content (= <> < > <= >= and compare) in a solution of a program's equations. Those of a copy of
-- a definition's equations are none of the program's own.
use Rattle.std.specs.Prelude.{ℕ, List, [], ◌∷◌, ◌++◌}
use Rattle.effect_meaning.specs.Terms.{Operation, Compare, Kind, HandlerTypes, Term, Var, Const, Fun, App, Let, LetRec, Seq, If, Match, Tuple, Con, ConOf, Record, Array, Field, SetField, Prim, Catch, Handle, Annot, Terms, NoTerms, AndTerm, Functions, NoFunctions, AndFunction, Clauses, NoClauses, AndClause, Guard, NoGuard, When, EffectClauses, NoEffects, AndEffect, Item, Define, Destructure, DefineRec, Evaluate, Program}
use Rattle.type_terms.specs.TypeTrees.{Ty, Tys, bool, exn, function, type_at}
use Rattle.type_terms.specs.Contexts.{Names, Context, with_name, with_names}
use Rattle.type_terms.specs.HandlerRules.{clause_context}
use Rattle.type_terms.specs.Typing.{HasType, TermsHave, EachHas, FieldsHave, FunctionsHave, ClausesHave, GuardHas, EffectClausesHave}
use Rattle.type_terms.specs.Items.{Top, OneType, Group, behind, defined, ItemsHave}

-- the type that an operation with parts of these types compares at
abbrev pub compared_at : Operation → Tys → List Ty
compared_at (Compare o) ts = type_at ts 0 ∷ []
compared_at _ ts = []

-- the types of the comparisons of a term: its parts from the left, and before them its own
abbrev mutual
  pub compared : (c : Context) (a : Term) (t : Ty) → HasType c a t → List Ty
  compared c (Var x) t h = []
  compared c (Const k) t h = []
  compared c (Fun x body) t h = compared (with_name x h.0 c) body h.1 h.3
  compared c (App f a) t h = compared c f (function h.0 t) h.1 ++ compared c a h.0 h.2
  compared c (Let x a body) t h = compared c a h.0 h.1 ++ compared (with_name x h.0 c) body t h.2
  compared c (LetRec fs body) t h =
      compared_functions (with_names h.0 c) fs h.0 h.1 ++ compared (with_names h.0 c) body t h.2
  compared c (Seq a b) t h = compared c a h.0 h.1 ++ compared c b t h.2
  compared c (If test a b) t h = compared c test bool h.0 ++ compared c a t h.1 ++ compared c b t h.2
  compared c (Match at a cs) t h = compared c a h.0 h.1 ++ compared_clauses c cs h.0 t h.2
  compared c (Tuple parts) t h = compared_terms c parts h.0 h.1
  compared c (Con con) t h = []
  compared c (ConOf con a) t h = compared c a h.0 h.3
  compared c (Record fields parts) t h = compared_fields c fields parts t h.1
  compared c (Array parts) t h = compared_each c parts h.0 h.2
  compared c (Field field a) t h = compared c a h.0 h.2
  compared c (SetField field a b) t h = compared c a h.0 h.5 ++ compared c b h.1 h.6
  compared c (Prim op parts) t h = compared_at op h.0 ++ compared_terms c parts h.0 h.1
  compared c (Catch at a values exceptions) t h =
      compared c a h.0 h.1 ++ compared_clauses c values h.0 t h.2 ++ compared_clauses c exceptions exn t h.3
  compared c (Handle kind types parts cs) t h = compared_terms c parts h.1 h.2 ++ compared_effects c kind types cs h.0 t h.5
  compared c (Annot a w) t h = compared c a t h.1

  -- of terms
  pub compared_terms : (c : Context) (parts : Terms) (ts : Tys) → TermsHave c parts ts → List Ty
  compared_terms c NoTerms ts h = []
  compared_terms c (AndTerm a parts) ts h = compared c a h.0 h.3 ++ compared_terms c parts h.1 h.4

  -- of the elements of an array
  pub compared_each : (c : Context) (parts : Terms) (u : Ty) → EachHas c parts u → List Ty
  compared_each c NoTerms u h = []
  compared_each c (AndTerm a parts) u h = compared c a u h.0 ++ compared_each c parts u h.1

  -- of the fields of a record
  pub compared_fields : (c : Context) (fields : List ℕ) (parts : Terms) (t : Ty) → FieldsHave c fields parts t → List Ty
  compared_fields c fields NoTerms t h = []
  compared_fields c fields (AndTerm a parts) t h = compared c a h.2 h.5 ++ compared_fields c h.1 parts t h.6

  -- of the functions of a group
  pub compared_functions : (c : Context) (fs : Functions) (names : Names) → FunctionsHave c fs names → List Ty
  compared_functions c NoFunctions names h = []
  compared_functions c (AndFunction f type x body fs) names h =
      compared (with_name x h.0 c) body h.1 h.5 ++ compared_functions c fs h.2 h.6

  -- of clauses, each guard before its body
  pub compared_clauses : (c : Context) (cs : Clauses) (u t : Ty) → ClausesHave c cs u t → List Ty
  compared_clauses c NoClauses u t h = []
  compared_clauses c (AndClause q guard body cs) u t h =
      compared_guard (with_names h.0 c) guard h.2 ++ compared (with_names h.0 c) body t h.3 ++ compared_clauses c cs u t h.4

  -- of a guard
  pub compared_guard : (c : Context) (guard : Guard) → GuardHas c guard → List Ty
  compared_guard c NoGuard h = []
  compared_guard c (When a) h = compared c a bool h

  -- of the clauses of a handler
  pub compared_effects :
      (c : Context) (kind : Kind) (types : HandlerTypes) (cs : EffectClauses) (b t : Ty) → EffectClausesHave c kind types cs b t → List Ty
  compared_effects c kind types NoEffects b t h = []
  compared_effects c kind types (AndEffect con argument k type body cs) b t h =
      compared (clause_context c kind types k h.0 b t h.1) body t h.3 ++ compared_effects c kind types cs b t h.4

-- the types of the comparisons of each item
abbrev pub compared_items : (p : Program) (tops : List Top) (is : List Item) → ItemsHave p tops is → List (List Ty)
compared_items p tops [] h = []
compared_items p tops (Define x a ∷ is) h =
    compared (behind p tops h.0) a h.1 h.2 ∷ compared_items p (defined x a h.1 ∷ tops) is h.3
compared_items p tops (Destructure at q a ∷ is) h =
    compared (behind p tops h.0) a h.1 h.3 ∷ compared_items p (OneType h.2 ∷ tops) is h.5
compared_items p tops (DefineRec fs ∷ is) h =
    compared_functions (with_names h.1 (behind p tops h.0)) fs h.1 h.2 ∷ compared_items p (Group fs ∷ tops) is h.3
compared_items p tops (Evaluate a ∷ is) h =
    compared (behind p tops h.0) a h.1 h.2 ∷ compared_items p tops is h.3
