-- What the nodes of a program mean: each by what the nodes before it mean, which its parts are among. A node's meaning is a
-- function of what is visible where it stands. Each binder has a number of its own, which comes from the number of its node.
use Rattle.std.specs.Prelude.{ℕ, ◌+◌, ◌*◌, List, [], ◌∷◌, map, slice_index_or}
use Rattle.fx_base.specs.declared.refusal.Place.{Place}
use Rattle.ml_syntax.specs.declared.node.Name.{Name}
use Rattle.ml_syntax.specs.declared.node.Node.{Node}
use Rattle.ml_syntax.specs.declared.node.Node.TheVariants as node
use Rattle.effect_meaning.specs.Terms.{Written, Any, Writtens, NoTypes, AndType, UnitConst, Pattern, AnyPat, Patterns, NoPatterns, AndPattern, Term, Const, Terms, NoTerms, AndTerm}
use Rattle.surface_meaning.specs.Scope.{Entry, Scope}

-- where a written type stands: in an item, or in a declaration with these parameters
pub data Site : Type 0 where
  InItem : Site
  Declared : (parameters : List (Entry ℕ)) → Site

-- a name that is bound, and its number
pub record Binder : Type 0 where
  pub name : Name
  pub number : ℕ

-- what a node means: as a type, as a pattern or as an expression, whichever it is, and the breaches of the rules on names in
-- it. A pattern is read under the names of the left sides of the or-patterns on whose right sides it stands. What a node
-- means as a form of another sort never counts
pub record Meaning : Type 0 where
  pub node : Node
  -- its number among all nodes, the prelude's first
  pub number : ℕ
  pub written : Site → Scope → Written
  pub type_breaches : Site → Scope → List Place
  pub pattern : List Binder → Scope → Pattern
  pub binders : List Binder → List Binder
  pub pattern_breaches : Scope → List Place
  pub term : Scope → Term
  pub term_breaches : Scope → List Place

-- a node that isn't there
abbrev pub no_meaning : Meaning
no_meaning = record {
  node = node.TypeAny (record { line = 1; column = 1 });
  number = 0;
  written = λ w s. Any;
  type_breaches = λ w s. [];
  pattern = λ left s. AnyPat;
  binders = λ left. [];
  pattern_breaches = λ s. [];
  term = λ s. Const UnitConst;
  term_breaches = λ s. [];
}

-- the part of this number
abbrev pub part : List Meaning → ℕ → Meaning
part ms i = slice_index_or ms i no_meaning

-- the node that a part is
abbrev pub node_at : List Meaning → ℕ → Node
node_at ms i = (part ms i).node

-- what a part means as a type
abbrev pub written_at : List Meaning → ℕ → Site → Scope → Written
written_at ms i = (part ms i).written

-- what a part means as a pattern
abbrev pub pattern_at : List Meaning → ℕ → List Binder → Scope → Pattern
pattern_at ms i = (part ms i).pattern

-- the names that a part binds
abbrev pub binders_at : List Meaning → ℕ → List Binder → List Binder
binders_at ms i = (part ms i).binders

-- what a part means as an expression
abbrev pub term_at : List Meaning → ℕ → Scope → Term
term_at ms i = (part ms i).term

-- types, patterns and terms in a row
abbrev pub writtens_of : List Written → Writtens
writtens_of [] = NoTypes
writtens_of (w ∷ ws) = AndType w (writtens_of ws)

abbrev pub patterns_of : List Pattern → Patterns
patterns_of [] = NoPatterns
patterns_of (p ∷ ps) = AndPattern p (patterns_of ps)

abbrev pub terms_of : List Term → Terms
terms_of [] = NoTerms
terms_of (t ∷ ts) = AndTerm t (terms_of ts)

-- what parts mean as expressions
abbrev pub terms_at : List Meaning → List ℕ → Scope → List Term
terms_at ms is s = map (λ i. term_at ms i s) is

-- a node has up to six names: the one that it binds, that of the definition whose right side it is, and four new ones, which
-- no text has. This is the number of one of them
abbrev pub name_of_node : ℕ → ℕ → ℕ
name_of_node i k = i * 6 + k

-- the name that a node binds
abbrev pub bound_by : ℕ → ℕ
bound_by i = name_of_node i 0

-- the name of the definition whose right side a node is
abbrev pub defined_by : ℕ → ℕ
defined_by i = name_of_node i 1

-- a new name
abbrev pub new_name : ℕ → ℕ → ℕ
new_name i k = name_of_node i (2 + k)
