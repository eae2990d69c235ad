-- Functions, definitions and loops. OCaml manual, "Expressions": fun, let, while, for.
use Rattle.std.specs.Prelude.{ℕ, pos, Bool, List, [], ◌∷◌, flat_map, Option, Some, None, option_map, if◌then◌else◌}
use Rattle.ml_syntax.specs.declared.node.Binding.{Binding}
use Rattle.ml_syntax.specs.declared.node.Binding.TheVariants as bindings
use Rattle.effect_meaning.specs.Terms.{Place, Written, Integer, UnitConst, Pattern, NamePat, ConstPat, Operation, Add, Sub, Compare, Equals, Below, Above, Term, Var, Const, Fun, App, Let, LetRec, Seq, If, Match, Prim, Annot, NoTerms, AndTerm, Functions, NoFunctions, AndFunction, Clauses, NoClauses, AndClause, NoGuard}
use Rattle.surface_meaning.specs.Scope.{Scope}
use Rattle.surface_meaning.specs.Meanings.{InItem, Binder, Meaning, part, written_at, pattern_at, binders_at, term_at, defined_by, new_name}
use Rattle.surface_meaning.specs.Patterns.{with_binders}

-- ()
abbrev pub unit : Term
unit = Const UnitConst

-- an operation of two parts
abbrev pub operate : Operation → Term → Term → Term
operate op a b = Prim op (AndTerm a (AndTerm b NoTerms))

-- one clause without guard
abbrev pub one_clause : Pattern → Term → Clauses
one_clause p a = AndClause p NoGuard a NoClauses

-- fun p -> a. A parameter that is no name is matched, under a new name
abbrev pub lambda : Place → ℕ → Pattern → Term → Term
lambda at new (NamePat x) a = Fun x a
lambda at new p a = Fun new (Match at (Var new) (one_clause p a))

-- fun p q -> a: one function in the other. What a is depends on what is visible behind the parameters
abbrev pub function : List Meaning → Place → List ℕ → (Scope → Term) → Scope → Term
function ms at [] a s = a s
function ms at (p ∷ ps) a s =
    lambda at (new_name (part ms p).number 0) (pattern_at ms p [] s) (function ms at ps a (with_binders (binders_at ms p []) s))

-- a term with its type, if the text gives one
abbrev pub annotated : Option Written → Term → Term
annotated None a = a
annotated (Some w) a = Annot a w

-- the type that the text gives, if it gives one
abbrev pub written_if : List Meaning → Option ℕ → Scope → Option Written
written_if ms t s = option_map (λ i. written_at ms i InItem s) t

-- what a binding defines its names as
abbrev pub right_side : List Meaning → Place → Scope → Binding → Term
right_side ms at s (bindings.Pattern p b) = term_at ms b s
right_side ms at s (bindings.Named x ps t b) = function ms at ps (λ r. annotated (written_if ms t r) (term_at ms b r)) s

-- the names of a binding
abbrev pub binders_of_binding : List Meaning → Binding → List Binder
binders_of_binding ms (bindings.Pattern p b) = binders_at ms p []
binders_of_binding ms (bindings.Named x ps t b) = record { name = x; number = defined_by (part ms b).number } ∷ []

-- the names of a group of bindings
abbrev pub binders_of_group : List Meaning → List Binding → List Binder
binders_of_group ms bs = flat_map (binders_of_binding ms) bs

-- the pattern that a binding binds
abbrev pub pattern_of_binding : List Meaning → Scope → Binding → Pattern
pattern_of_binding ms s (bindings.Pattern p b) = pattern_at ms p [] s
pattern_of_binding ms s (bindings.Named x ps t b) = NamePat (defined_by (part ms b).number)

-- let p = a in b: Let for a name, else Match
abbrev pub let_one : Place → Pattern → Term → Term → Term
let_one at (NamePat x) a b = Let x a b
let_one at p a b = Match at a (one_clause p b)

-- let p = a and q = b in c: one in the other; each right side sees only what was visible before
abbrev pub let_all : List Meaning → Place → Scope → List Binding → Term → Term
let_all ms at s [] c = c
let_all ms at s (b ∷ bs) c = let_one at (pattern_of_binding ms s b) (right_side ms at s b) (let_all ms at s bs c)

-- the type of a function of a group: that of a definition without parameters. Else it is the type of the body
abbrev pub type_of_function : List Meaning → List ℕ → Option ℕ → Scope → Option Written
type_of_function ms [] t s = written_if ms t s
type_of_function ms (p ∷ ps) t s = None

-- one more function of a group; each right side is one
abbrev pub and_function : ℕ → Option Written → Term → Functions → Functions
and_function f t (Fun x a) fs = AndFunction f t x a fs
and_function f t _ fs = fs

-- what a function of a group is defined as, without the type of the definition
abbrev pub function_of_group : List Meaning → Place → Scope → List ℕ → Option ℕ → ℕ → Term
function_of_group ms at s [] t b = term_at ms b s
function_of_group ms at s (p ∷ ps) t b = function ms at (p ∷ ps) (λ r. annotated (written_if ms t r) (term_at ms b r)) s

-- the functions of a let rec, whose names are visible in them
abbrev pub functions : List Meaning → Place → Scope → List Binding → Functions
functions ms at s [] = NoFunctions
functions ms at s (bindings.Named x ps t b ∷ bs) =
    and_function (defined_by (part ms b).number) (type_of_function ms ps t s) (function_of_group ms at s ps t b) (functions ms at s bs)
functions ms at s (bindings.Pattern p b ∷ bs) = functions ms at s bs

-- let bindings in c
abbrev pub let_in : List Meaning → Place → Bool → List Binding → ℕ → Scope → Term
let_in ms at is_rec bs c s =
    let r = with_binders (binders_of_group ms bs) s
    in if is_rec then LetRec (functions ms at r bs) (term_at ms c r) else let_all ms at s bs (term_at ms c r)

-- while c do a done: let rec w () = if c then (a; w ()) else () in w ()
abbrev pub while_loop : Place → ℕ → Term → Term → Term
while_loop at i c a =
    let w = new_name i 0 in let u = new_name i 1 in let again = App (Var w) unit
    in let body = lambda at u (ConstPat UnitConst) (If c (Seq a again) unit)
    in LetRec (and_function w None body NoFunctions) again

-- the comparison that ends a loop before it begins
abbrev pub is_past : Bool → Operation
is_past is_down = if is_down then Compare Below else Compare Above

-- the step of a loop's counter
abbrev pub step_of : Bool → Operation
step_of is_down = if is_down then Sub else Add

-- for x = a to b do c done:
-- let lo = a in let hi = b in
-- if lo > hi then () else let rec w x = (c; if x = hi then () else w (x + 1)) in w lo
abbrev pub for_loop : ℕ → ℕ → Bool → Term → Term → Term → Term
for_loop i x is_down a b c =
    let lo = new_name i 0 in let hi = new_name i 1 in let w = new_name i 2
    in let again = App (Var w) (operate (step_of is_down) (Var x) (Const (Integer (pos 1))))
    in let body = Seq c (If (operate (Compare Equals) (Var x) (Var hi)) unit again)
    in let turns = LetRec (AndFunction w None x body NoFunctions) (App (Var w) (Var lo))
    in Let lo a (Let hi b (If (operate (is_past is_down) (Var lo) (Var hi)) unit turns))
