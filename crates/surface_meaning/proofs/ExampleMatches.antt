-- Worked programs: clauses, exceptions and effects in `function`, `match` and `try`. They hold by computation.
use Rattle.std.proofs.Common.{◌≡◌, refl, ℕ, ◌+◌, true, List, [], ◌∷◌, length, Some, None, codes}
use Rattle.ml_syntax.specs.declared.node.LongName.{LongName}
use Rattle.ml_syntax.specs.declared.node.Clause.TheVariants as clauses
use Rattle.ml_syntax.specs.declared.node.Node.{Node}
use Rattle.ml_syntax.specs.declared.node.Node.TheVariants as node
use Rattle.ml_syntax.specs.declared.prog.Item.TheVariants as item
use Rattle.effect_meaning.specs.Terms.{Boolean, Variant, Exception, Effect, NamePat, AnyPat, TuplePat, ConPat, ConOfPat, OrPat, AliasPat, NoPatterns, AndPattern, Raise, Deep, Term, Var, Const, Fun, Match, Catch, Handle, Prim, AndTerm, Clauses, NoClauses, AndClause, NoGuard, When, EffectClauses, NoEffects, AndEffect, Item, Evaluate}
use Rattle.surface_meaning.proofs.Programs.{column, name, long, long_in, variable, integer, name_pattern, any_pattern, truth, items_of, meant, expression, here, unit, number, one}

-- the pattern Exit, the constant true, and the name Effect.t
abbrev exit_pattern : Node
exit_pattern = node.PatternConstructor (long (codes "Exit"))

abbrev truth_term : Term
truth_term = Const (Boolean true)

abbrev effect_t : LongName
effect_t = long_in 1 (codes "Effect" ∷ []) (codes "t")

-- function x -> x
example_function :
    expression (name_pattern (codes "x") ∷ variable (codes "x") ∷ node.Function (column 1) (clauses.Value 0 None 1 ∷ []) ∷ [])
    ≡ Evaluate (Fun 14 (Match here (Var 14) (AndClause (NamePat 0) NoGuard (Var 0) NoClauses))) ∷ []
example_function = refl

-- match 1 with x when true -> x
example_guard :
    expression (integer (codes "1") ∷ name_pattern (codes "x") ∷ truth ∷ variable (codes "x")
    ∷ node.Match (column 1) 0 (clauses.Value 1 (Some 2) 3 ∷ []) ∷ [])
    ≡ Evaluate (Match here (number 1) (AndClause (NamePat 6) (When truth_term) (Var 6) NoClauses)) ∷ []
example_guard = refl

-- function x :: _ | ([] as x) -> x: both sides bind the left one's x
example_or_pattern :
    expression (name_pattern (codes "x") ∷ any_pattern ∷ node.PatternCons (column 1) 0 1
    ∷ node.PatternList (column 1) [] ∷ node.PatternAlias (column 1) 3 (name (codes "x")) ∷ node.PatternOr (column 1) 2 4
    ∷ variable (codes "x") ∷ node.Function (column 1) (clauses.Value 5 None 6 ∷ []) ∷ [])
    ≡ Evaluate (Fun 44 (Match here (Var 44) (AndClause
    (OrPat (ConOfPat (Variant 3) (TuplePat (AndPattern (NamePat 0) (AndPattern AnyPat NoPatterns)))) (AliasPat (ConPat (Variant 2)) 0))
    NoGuard (Var 0) NoClauses))) ∷ []
example_or_pattern = refl

-- try 1 with Exit -> 2
example_try :
    expression (integer (codes "1") ∷ exit_pattern ∷ integer (codes "2") ∷ node.Try (column 1) 0 (clauses.Value 1 None 2 ∷ []) ∷ [])
    ≡ Evaluate (Catch here (number 1) (AndClause (NamePat 21) NoGuard (Var 21) NoClauses)
    (AndClause (ConPat (Exception 5)) NoGuard (number 2) NoClauses)) ∷ []
example_try = refl

-- match 1 with x -> x | exception Exit -> 2: the value clauses run outside the catch
example_exception_clause :
    expression (integer (codes "1") ∷ name_pattern (codes "x") ∷ variable (codes "x") ∷ exit_pattern ∷ integer (codes "2")
    ∷ node.Match (column 1) 0 (clauses.Value 1 None 2 ∷ clauses.Exception (column 1) 3 None 4 ∷ []) ∷ [])
    ≡ Evaluate (Catch here (number 1) (AndClause (NamePat 6) NoGuard (Var 6) NoClauses)
    (AndClause (ConPat (Exception 5)) NoGuard (number 2) NoClauses)) ∷ []
example_exception_clause = refl

-- type _ Effect.t += E : int Effect.t;; and the last of the nodes as an expression. The types are nodes 0 and 1
abbrev with_effect : List Node → List Item
with_effect ns =
    items_of (meant (node.TypeName (long (codes "int")) ∷ node.TypeApply (0 ∷ []) effect_t ∷ ns)
    (item.Effects (column 1) effect_t (record { name = name (codes "E"); argument = None; result = 1 } ∷ [])
    ∷ item.Expression (column 1) (length ns + 1) ∷ []))

-- the pattern E
abbrev effect_pattern : Node
effect_pattern = node.PatternConstructor (long (codes "E"))

-- | other -> raise other
abbrev raise_again : ℕ → Clauses
raise_again e = AndClause (NamePat e) NoGuard (Prim Raise (one (Var e))) NoClauses

-- a body as a function of unit under a deep handler
abbrev deep : ℕ → Term → Term → EffectClauses → Term
deep u on_value on_exception effects =
    Handle Deep (record { variable = None; effect = None })
    (AndTerm (Fun u (number 1)) (AndTerm unit (AndTerm on_value (one on_exception)))) effects

-- match 1 with x -> x | effect E, k -> 2
example_effect_clause :
    with_effect (integer (codes "1") ∷ name_pattern (codes "x") ∷ variable (codes "x") ∷ effect_pattern ∷ name_pattern (codes "k")
    ∷ integer (codes "2")
    ∷ node.Match (column 1) 2 (clauses.Value 3 None 4 ∷ clauses.Effect (column 1) 5 6 7 ∷ []) ∷ [])
    ≡ Evaluate (deep 50 (Fun 51 (Match here (Var 51) (AndClause (NamePat 18) NoGuard (Var 18) NoClauses)))
    (Fun 52 (Match here (Var 52) (raise_again 53))) (AndEffect (Effect 0) None 36 None (number 2) NoEffects)) ∷ []
example_effect_clause = refl

-- try 1 with Exit -> 2 | effect E, _ -> 2
example_try_effect :
    with_effect (integer (codes "1") ∷ exit_pattern ∷ integer (codes "2") ∷ effect_pattern ∷ any_pattern ∷ integer (codes "2")
    ∷ node.Try (column 1) 2 (clauses.Value 3 None 4 ∷ clauses.Effect (column 1) 5 6 7 ∷ []) ∷ [])
    ≡ Evaluate (deep 50 (Fun 51 (Var 51))
    (Fun 52 (Match here (Var 52) (AndClause (ConPat (Exception 5)) NoGuard (number 2) (raise_again 53))))
    (AndEffect (Effect 0) None 38 None (number 2) NoEffects)) ∷ []
example_try_effect = refl
