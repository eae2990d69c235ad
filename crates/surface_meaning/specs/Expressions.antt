-- The expression that a node is, in Core. OCaml manual, "Expressions".
use Rattle.std.specs.Prelude.{ℕ, List, [], ◌∷◌, Option, Some, None, unwrap_or}
use Rattle.ml_syntax.specs.declared.node.Node.{Node}
use Rattle.ml_syntax.specs.declared.node.Node.TheVariants as node
use Rattle.effect_meaning.specs.Terms.{Integer, Negate, RefGet, StringGet, ArrayGet, ArraySet, Term, Const, Seq, If, Tuple, Con, ConOf, Record, Array, Field, SetField, Prim, Annot, NoTerms, AndTerm, NoClauses}
use Rattle.effect_meaning.specs.ArenaTrees.{place_of}
use Rattle.surface_meaning.specs.Scope.{Named, Scope}
use Rattle.surface_meaning.specs.BuiltinNames.{least}
use Rattle.surface_meaning.specs.Visible.{value, field, with_value}
use Rattle.surface_meaning.specs.Meanings.{InItem, Meaning, node_at, written_at, term_at, terms_at, terms_of, bound_by, new_name}
use Rattle.surface_meaning.specs.Patterns.{constant_of, constructor_or, fields_or, parts_of}
use Rattle.surface_meaning.specs.Functions.{unit, operate, function, let_in, while_loop, for_loop}
use Rattle.surface_meaning.specs.Matches.{plain_clauses, matching, match_with, try_with}
use Rattle.surface_meaning.specs.Handlers.{handle}
use Rattle.surface_meaning.specs.Applications.{name_term, head_value, application, list, operator_term}

-- a; b; c is a; (b; c)
abbrev pub sequence : Term → List Term → Term
sequence a [] = a
sequence a (b ∷ more) = Seq a (sequence b more)

-- there are at least two parts
abbrev pub sequence_of : List Term → Term
sequence_of [] = unit
sequence_of (a ∷ more) = sequence a more

-- an `else` that is absent is `else ()`
abbrev pub alternative : List Meaning → Option ℕ → Scope → Term
alternative ms None s = unit
alternative ms (Some b) s = term_at ms b s

-- the expression that a node is. What names that stand for nothing are read as never counts, since there is a breach
abbrev pub term_of : List Meaning → ℕ → ℕ → Node → Scope → Term
term_of ms i l (node.Variable n) s = name_term i (value s n)
term_of ms i l (node.Constructor c) s = Con (constructor_or s c)
term_of ms i l (node.Constant place c) s = Const (constant_of l c.kind c.text)
term_of ms i l (node.LeastInteger place t) s = Const (Integer least)
term_of ms i l (node.Unit place) s = unit
term_of ms i l (node.Bracket place a) s = term_at ms a s
term_of ms i l (node.BeginEnd place a) s = term_at ms a s
term_of ms i l (node.Annotated place a t) s = Annot (term_at ms a s) (written_at ms t InItem s)
term_of ms i l (node.List place parts) s = list (terms_at ms parts s)
term_of ms i l (node.Array place parts) s = Array (terms_of (terms_at ms parts s))
term_of ms i l (node.Record place fs) s = Record (fields_or s fs) (terms_of (terms_at ms (parts_of fs) s))
term_of ms i l (node.While place c a) s = while_loop (place_of place) i (term_at ms c s) (term_at ms a s)
term_of ms i l (node.For place x a is_down b c) s =
    for_loop i (bound_by i) is_down (term_at ms a s) (term_at ms b s) (term_at ms c (with_value x.text (Named (bound_by i)) s))
term_of ms i l (node.Dereference place a) s = Prim RefGet (AndTerm (term_at ms a s) NoTerms)
term_of ms i l (node.Field a x) s = Field (unwrap_or (field s x) 0) (term_at ms a s)
term_of ms i l (node.ArrayElement place a b) s = operate ArrayGet (term_at ms a s) (term_at ms b s)
term_of ms i l (node.StringElement place a b) s = operate StringGet (term_at ms a s) (term_at ms b s)
term_of ms i l (node.Apply f parts) s = application (head_value s (node_at ms f)) (term_at ms f s) (terms_at ms parts s)
term_of ms i l (node.Construct c a) s = ConOf (constructor_or s c) (term_at ms a s)
term_of ms i l (node.Handle f a b h) s = handle ms f.last.text a b h s
term_of ms i l (node.Negate place a) s = Prim Negate (AndTerm (term_at ms a s) NoTerms)
term_of ms i l (node.Binary place o a b) s = operator_term s o (term_at ms a s) (term_at ms b s)
term_of ms i l (node.Tuple place parts) s = Tuple (terms_of (terms_at ms parts s))
term_of ms i l (node.SetField place a x b) s = SetField (unwrap_or (field s x) 0) (term_at ms a s) (term_at ms b s)
term_of ms i l (node.SetElement place a b c) s = Prim ArraySet (terms_of (terms_at ms (a ∷ b ∷ c ∷ []) s))
term_of ms i l (node.If place c a b) s = If (term_at ms c s) (term_at ms a s) (alternative ms b s)
term_of ms i l (node.Sequence place parts) s = sequence_of (terms_at ms parts s)
term_of ms i l (node.Let place is_rec bs a) s = let_in ms (place_of place) is_rec bs a s
term_of ms i l (node.Match place a cs) s = match_with ms (place_of place) i a cs s
term_of ms i l (node.Try place a cs) s = try_with ms (place_of place) i a cs s
term_of ms i l (node.Fun place ps a) s = function ms (place_of place) ps (term_at ms a) s
term_of ms i l (node.Function place cs) s = matching (place_of place) (new_name i 0) (plain_clauses ms s cs NoClauses)
term_of ms i l _ s = unit
