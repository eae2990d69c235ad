-- The depth of a program: how deep its forms stand in one another.
use Rattle.std.specs.Prelude.{ℕ, suc, ◌+◌, ◌<◌, max, List, [], ◌∷◌, ◌++◌, map, flat_map, Option, Some, None, option_and_then, slice_get}
use Rattle.ml_syntax.specs.declared.node.NamedPart.{NamedPart}
use Rattle.ml_syntax.specs.declared.node.Clause.{Clause}
use Rattle.ml_syntax.specs.declared.node.Clause.TheVariants as clauses
use Rattle.ml_syntax.specs.declared.node.Binding.{Binding}
use Rattle.ml_syntax.specs.declared.node.Binding.TheVariants as bindings
use Rattle.ml_syntax.specs.declared.node.EffectRule.{EffectRule}
use Rattle.ml_syntax.specs.declared.node.Node.{Node}
use Rattle.ml_syntax.specs.declared.node.Node.TheVariants as node

-- a number that may be absent
abbrev pub if_any : Option ℕ → List ℕ
if_any None = []
if_any (Some n) = n ∷ []

abbrev pub field_parts : List NamedPart → List ℕ
field_parts fs = map (λ f. f.part) fs

abbrev pub clause_parts : Clause → List ℕ
clause_parts (clauses.Value p g b) = p ∷ if_any g ++ b ∷ []
clause_parts (clauses.Exception place p g b) = p ∷ if_any g ++ b ∷ []
clause_parts (clauses.Effect place q k b) = q ∷ k ∷ b ∷ []

unfoldable pub binding_parts : Binding → List ℕ
binding_parts (bindings.Pattern p b) = p ∷ b ∷ []
binding_parts (bindings.Named x ps a b) = ps ++ if_any a ++ b ∷ []

abbrev pub rule_parts : EffectRule → List ℕ
rule_parts r = r.pattern ∷ r.answer ∷ []

-- the parts of a form, in the order of the text
unfoldable pub parts : Node → List ℕ
parts (node.TypeVariable place x) = []
parts (node.TypeAny place) = []
parts (node.TypeName x) = []
parts (node.TypeApply ts x) = ts
parts (node.TypeBracket place t) = t ∷ []
parts (node.TypeTuple place ts) = ts
parts (node.TypeArrow place a b) = a ∷ b ∷ []
parts (node.PatternAny place) = []
parts (node.PatternName place x) = []
parts (node.PatternConstant place c) = []
parts (node.PatternUnit place) = []
parts (node.PatternBracket place p) = p ∷ []
parts (node.PatternAnnotated place p t) = p ∷ t ∷ []
parts (node.PatternList place ps) = ps
parts (node.PatternRecord place fs o) = field_parts fs
parts (node.PatternConstructor x) = []
parts (node.PatternConstruct x p) = p ∷ []
parts (node.PatternCons place p q) = p ∷ q ∷ []
parts (node.PatternTuple place ps) = ps
parts (node.PatternOr place p q) = p ∷ q ∷ []
parts (node.PatternAlias place p x) = p ∷ []
parts (node.Variable x) = []
parts (node.Constructor x) = []
parts (node.Constant place c) = []
parts (node.LeastInteger place t) = []
parts (node.Unit place) = []
parts (node.Bracket place e) = e ∷ []
parts (node.BeginEnd place e) = e ∷ []
parts (node.Annotated place e t) = e ∷ t ∷ []
parts (node.List place es) = es
parts (node.Array place es) = es
parts (node.Record place fs) = field_parts fs
parts (node.While place c b) = c ∷ b ∷ []
parts (node.For place x a d b e) = a ∷ b ∷ e ∷ []
parts (node.Dereference place e) = e ∷ []
parts (node.Field e x) = e ∷ []
parts (node.ArrayElement place e i) = e ∷ i ∷ []
parts (node.StringElement place e i) = e ∷ i ∷ []
parts (node.Apply f es) = f ∷ es
parts (node.Construct x e) = e ∷ []
parts (node.Handle x f e h) = f ∷ e ∷ h ∷ []
parts (node.Handler place fs) = field_parts fs
parts (node.EffectFunction place x p c) = p ∷ c ∷ []
parts (node.EffectCases place x rs o) = flat_map rule_parts rs ++ o ∷ []
parts (node.Resumption place k b) = k ∷ b ∷ []
parts (node.Negate place e) = e ∷ []
parts (node.Binary place o a b) = a ∷ b ∷ []
parts (node.Tuple place es) = es
parts (node.SetField place e x a) = e ∷ a ∷ []
parts (node.SetElement place e i a) = e ∷ i ∷ a ∷ []
parts (node.If place c a b) = c ∷ a ∷ if_any b
parts (node.Sequence place es) = es
parts (node.Let place r bs e) = flat_map binding_parts bs ++ e ∷ []
parts (node.Match place e cs) = e ∷ flat_map clause_parts cs
parts (node.Try place e cs) = e ∷ flat_map clause_parts cs
parts (node.Fun place ps e) = ps ++ e ∷ []
parts (node.Function place cs) = flat_map clause_parts cs

-- how many forms a node is: `Some (fun k -> e)` is an application, a bracket and a function
unfoldable pub forms : Node → ℕ
forms (node.Resumption place k b) = 3
forms _ = 1

-- the greatest of a depth and of those of parts, where all of these are there
abbrev pub deepest : List ℕ → ℕ → List ℕ → Option ℕ
deepest ds found [] = Some found
deepest ds found (p ∷ ps) = option_and_then (λ d. deepest ds (max found d) ps) (slice_get ds p)

abbrev pub or_zero : Option ℕ → ℕ
or_zero None = 0
or_zero (Some n) = n

-- the depth of a node behind others of these depths: that of its deepest part, and its own
abbrev pub node_depth : List ℕ → Node → ℕ
node_depth ds n = or_zero (deepest ds 0 (parts n)) + forms n

-- the depths of nodes behind others of these depths
unfoldable pub depths_behind : List ℕ → List Node → List ℕ
depths_behind ds [] = ds
depths_behind ds (n ∷ ns) = depths_behind (ds ++ node_depth ds n ∷ []) ns

abbrev pub depths : List Node → List ℕ
depths ns = depths_behind [] ns

-- the greatest of a number and others
unfoldable pub greatest : ℕ → List ℕ → ℕ
greatest most [] = most
greatest most (d ∷ ds) = greatest (max most d) ds

-- the depth of a program of these nodes: that of its deepest node
abbrev pub depth : List Node → ℕ
depth ns = greatest 0 (depths ns)

-- numbers that are all below another
abbrev pub AllBelow : ℕ → List ℕ → Type 0
AllBelow i [] = Unit {0}
AllBelow i (p ∷ ps) = (p < i) × AllBelow i ps

-- each node's parts stand before it; the first node of the list has this number
unfoldable pub StandFrom : ℕ → List Node → Type 0
StandFrom i [] = Unit {0}
StandFrom i (n ∷ ns) = AllBelow i (parts n) × StandFrom (suc i) ns

-- a child's number is below its parent's
abbrev pub AreBelow : List Node → Type 0
AreBelow ns = StandFrom 0 ns
