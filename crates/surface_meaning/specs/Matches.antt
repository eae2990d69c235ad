-- Clauses, and the forms that have them. OCaml manual, "Expressions": function, match, try; "Language extensions: Effect
-- handlers".
use Rattle.std.specs.Prelude.{ℕ, Bool, true, false, List, [], ◌∷◌, Option, Some, None, if◌then◌else◌}
use Rattle.ml_syntax.specs.declared.node.Clause.{Clause}
use Rattle.ml_syntax.specs.declared.node.Clause.TheVariants as clauses
use Rattle.ml_syntax.specs.declared.node.Node.{Node}
use Rattle.ml_syntax.specs.declared.node.Node.TheVariants as node
use Rattle.effect_meaning.specs.Terms.{Place, Constructor, Effect, Pattern, NamePat, ConPat, ConOfPat, Raise, Deep, HandlerTypes, Term, Var, Fun, Match, Prim, Catch, Handle, Terms, NoTerms, AndTerm, Clauses, NoClauses, AndClause, Guard, NoGuard, When, EffectClauses, NoEffects, AndEffect}
use Rattle.surface_meaning.specs.Scope.{Scope}
use Rattle.surface_meaning.specs.Meanings.{Binder, Meaning, part, node_at, pattern_at, binders_at, term_at, new_name}
use Rattle.surface_meaning.specs.Patterns.{with_binders}
use Rattle.surface_meaning.specs.Functions.{unit, one_clause, written_if}

-- the guard of a clause
abbrev pub guard_at : List Meaning → Option ℕ → Scope → Guard
guard_at ms None s = NoGuard
guard_at ms (Some g) s = When (term_at ms g s)

-- p when g -> a, before other clauses
abbrev pub and_clause : List Meaning → Scope → ℕ → Option ℕ → ℕ → Clauses → Clauses
and_clause ms s p g a more =
    let r = with_binders (binders_at ms p []) s in AndClause (pattern_at ms p [] s) (guard_at ms g r) (term_at ms a r) more

-- the plain clauses, before others
abbrev pub plain_clauses : List Meaning → Scope → List Clause → Clauses → Clauses
plain_clauses ms s [] more = more
plain_clauses ms s (clauses.Value p g a ∷ cs) more = and_clause ms s p g a (plain_clauses ms s cs more)
plain_clauses ms s (clauses.Exception place p g a ∷ cs) more = plain_clauses ms s cs more
plain_clauses ms s (clauses.Effect place q k a ∷ cs) more = plain_clauses ms s cs more

-- the clauses of exceptions, before others
abbrev pub exception_clauses : List Meaning → Scope → List Clause → Clauses → Clauses
exception_clauses ms s [] more = more
exception_clauses ms s (clauses.Value p g a ∷ cs) more = exception_clauses ms s cs more
exception_clauses ms s (clauses.Exception place p g a ∷ cs) more = and_clause ms s p g a (exception_clauses ms s cs more)
exception_clauses ms s (clauses.Effect place q k a ∷ cs) more = exception_clauses ms s cs more

-- the effect that a pattern names, and the pattern of its argument
abbrev pub effect_of : Pattern → Constructor
effect_of (ConPat e) = e
effect_of (ConOfPat e p) = e
effect_of _ = Effect 0

abbrev pub argument_of : Pattern → Option Pattern
argument_of (ConOfPat e p) = Some p
argument_of _ = None

-- the number of a continuation's name; `_` is a new name
abbrev pub continuation_of : List Binder → ℕ → ℕ
continuation_of [] i = new_name i 0
continuation_of (b ∷ bs) i = b.number

-- the type that a pattern gives its value
abbrev pub annotation_of : Node → Option ℕ
annotation_of (node.PatternAnnotated place p t) = Some t
annotation_of _ = None

-- effect q, k -> a, before other clauses: the name k is visible before those of q
abbrev pub and_effect : List Meaning → Scope → ℕ → ℕ → ℕ → EffectClauses → EffectClauses
and_effect ms s q k a more =
    let p = pattern_at ms q [] s in let ks = binders_at ms k []
    in let r = with_binders ks (with_binders (binders_at ms q []) s)
    in AndEffect (effect_of p) (argument_of p) (continuation_of ks (part ms k).number)
    (written_if ms (annotation_of (node_at ms k)) s) (term_at ms a r) more

-- the clauses of effects
abbrev pub effect_clauses : List Meaning → Scope → List Clause → EffectClauses
effect_clauses ms s [] = NoEffects
effect_clauses ms s (clauses.Value p g a ∷ cs) = effect_clauses ms s cs
effect_clauses ms s (clauses.Exception place p g a ∷ cs) = effect_clauses ms s cs
effect_clauses ms s (clauses.Effect place q k a ∷ cs) = and_effect ms s q k a (effect_clauses ms s cs)

-- there is a clause of exceptions
abbrev pub has_exceptions : List Clause → Bool
has_exceptions [] = false
has_exceptions (clauses.Value p g a ∷ cs) = has_exceptions cs
has_exceptions (clauses.Exception place p g a ∷ cs) = true
has_exceptions (clauses.Effect place q k a ∷ cs) = has_exceptions cs

-- there is a clause of effects
abbrev pub has_effects : List Clause → Bool
has_effects [] = false
has_effects (clauses.Value p g a ∷ cs) = has_effects cs
has_effects (clauses.Exception place p g a ∷ cs) = has_effects cs
has_effects (clauses.Effect place q k a ∷ cs) = true

-- fun x -> match x with clauses
abbrev pub matching : Place → ℕ → Clauses → Term
matching at x cs = Fun x (Match at (Var x) cs)

-- fun v -> v
abbrev pub identity : ℕ → Term
identity v = Fun v (Var v)

-- raise e
abbrev pub raise : ℕ → Term
raise e = Prim Raise (AndTerm (Var e) NoTerms)

-- the types of a handler whose text gives none
abbrev pub no_types : HandlerTypes
no_types = record { variable = None; effect = None }

-- the parts of a handler
abbrev pub four : Term → Term → Term → Term → Terms
four a b c d = AndTerm a (AndTerm b (AndTerm c (AndTerm d NoTerms)))

-- a body as a function of unit under a deep handler. An exception that no clause matches is raised again
abbrev pub deep : Place → ℕ → Term → Term → (Clauses → Clauses) → EffectClauses → Term
deep at i a on_value exceptions effects =
    let other = new_name i 3
    in Handle Deep no_types
    (four (Fun (new_name i 0) a) unit on_value (matching at (new_name i 2) (exceptions (one_clause (NamePat other) (raise other)))))
    effects

-- match a with clauses
abbrev pub match_with : List Meaning → Place → ℕ → ℕ → List Clause → Scope → Term
match_with ms at i a cs s =
    let values = plain_clauses ms s cs NoClauses
    in if has_effects cs then deep at i (term_at ms a s) (matching at (new_name i 1) values) (exception_clauses ms s cs) (effect_clauses ms s cs)
    else (if has_exceptions cs then Catch at (term_at ms a s) values (exception_clauses ms s cs NoClauses) else Match at (term_at ms a s) values)

-- try a with clauses
abbrev pub try_with : List Meaning → Place → ℕ → ℕ → List Clause → Scope → Term
try_with ms at i a cs s =
    let v = new_name i 1
    in if has_effects cs then deep at i (term_at ms a s) (identity v) (plain_clauses ms s cs) (effect_clauses ms s cs)
    else Catch at (term_at ms a s) (one_clause (NamePat v) (Var v)) (plain_clauses ms s cs NoClauses)
