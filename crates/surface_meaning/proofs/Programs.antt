-- Short ways to write small programs as nodes and items, and to read what they mean.
use Rattle.std.proofs.Common.{ℕ, ◌-◌, pos, List, [], ◌∷◌, length, Option, Some, None, codes}
use Rattle.std.specs.Prelude.{Result, Ok, Err}
use Rattle.fx_base.specs.declared.refusal.Place.{Place}
use Rattle.ml_syntax.specs.declared.node.Name.{Name}
use Rattle.ml_syntax.specs.declared.node.LongName.{LongName}
use Rattle.ml_syntax.specs.declared.node.Binding.{Binding}
use Rattle.ml_syntax.specs.declared.node.Binding.TheVariants as bindings
use Rattle.ml_syntax.specs.declared.node.LiteralKind.TheVariants as kinds
use Rattle.ml_syntax.specs.declared.node.Node.{Node}
use Rattle.ml_syntax.specs.declared.node.Node.TheVariants as node
use Rattle.ml_syntax.specs.declared.prog.Item.{Item as ItemOf}
use Rattle.ml_syntax.specs.declared.prog.Item.TheVariants as item
use Rattle.ml_syntax.specs.declared.prog.Prog.{Prog}
use Rattle.effect_meaning.specs.Terms.{Place as PlaceInCore, Integer, Term, Const, UnitConst, Terms, NoTerms, AndTerm, Item, Program}
use Rattle.surface_meaning.specs.CoreOf.{core_of}

-- the place in this column of the first line
abbrev pub column : ℕ → Place
column c = record { line = 1; column = c }

abbrev pub name_in : ℕ → List ℕ → Name
name_in c t = record { place = column c; text = t }

abbrev pub name : List ℕ → Name
name t = name_in 1 t

-- a name behind a path
abbrev pub long_in : ℕ → List (List ℕ) → List ℕ → LongName
long_in c path t = record { place = column c; path = path; last = name_in c t }

abbrev pub long : List ℕ → LongName
long t = long_in 1 [] t

abbrev pub variable : List ℕ → Node
variable t = node.Variable (long t)

abbrev pub qualified : List (List ℕ) → List ℕ → Node
qualified path t = node.Variable (long_in 1 path t)

abbrev pub integer : List ℕ → Node
integer t = node.Constant (column 1) (record { kind = kinds.Integer; text = t })

abbrev pub string : List ℕ → Node
string t = node.Constant (column 1) (record { kind = kinds.Text; text = t })

abbrev pub truth : Node
truth = node.Constant (column 1) (record { kind = kinds.True; text = codes "true" })

abbrev pub unit_node : Node
unit_node = node.Unit (column 1)

abbrev pub name_pattern : List ℕ → Node
name_pattern t = node.PatternName (column 1) t

abbrev pub any_pattern : Node
any_pattern = node.PatternAny (column 1)

-- x = the expression of this number
abbrev pub define : List ℕ → ℕ → Binding
define t b = bindings.Named (name t) [] None b

abbrev pub prog_of : List Node → List ItemOf → Prog
prog_of ns is = record { nodes = ns; items = is }

-- a program without items
abbrev pub empty : Prog
empty = prog_of [] []

-- the value items of a program that is one
abbrev pub items_of : Result Program Place → List Item
items_of (Ok p) = p.items
items_of (Err place) = []

-- the place of the first breach, if there is one
abbrev pub breach_of : Result Program Place → Option Place
breach_of (Ok p) = None
breach_of (Err place) = Some place

-- the program behind no prelude, in a file without name
abbrev pub meant : List Node → List ItemOf → Result Program Place
meant ns is = core_of empty (prog_of ns is) []

-- the value items of the last of these nodes as an expression
abbrev pub expression : List Node → List Item
expression ns = items_of (meant ns (item.Expression (column 1) (length ns - 1) ∷ []))

-- the first breach of the last of these nodes as an expression
abbrev pub breach : List Node → Option Place
breach ns = breach_of (meant ns (item.Expression (column 1) (length ns - 1) ∷ []))

-- where all forms of Core stand
abbrev pub here : PlaceInCore
here = record { line = 1; column = 1 }

abbrev pub unit : Term
unit = Const UnitConst

abbrev pub number : ℕ → Term
number n = Const (Integer (pos n))

abbrev pub one : Term → Terms
one a = AndTerm a NoTerms

abbrev pub two : Term → Term → Terms
two a b = AndTerm a (one b)
