-- A program as numbered nodes and tables: what each node names, and that all of it stands there.
use Rattle.std.specs.Prelude.{ℕ, suc, ◌-◌, ◌<◌, ◌^◌, ℤ, pos, ◌≤ℤ◌, neg_ℤ, List, [], ◌∷◌, ◌++◌, map, flat_map, length, Option, Some, None}
use Rattle.effect_meaning.specs.declared.core_nodes.TypeExpression.{TypeExpression}
use Rattle.effect_meaning.specs.declared.core_nodes.TypeExpression.TheVariants as type
use Rattle.effect_meaning.specs.declared.core_nodes.Constant.{Constant}
use Rattle.effect_meaning.specs.declared.core_nodes.Constant.TheVariants as constant
use Rattle.effect_meaning.specs.declared.core_nodes.Constructor.{Constructor}
use Rattle.effect_meaning.specs.declared.core_nodes.Constructor.TheVariants as constructor
use Rattle.effect_meaning.specs.declared.core_nodes.FieldPart.{FieldPart}
use Rattle.effect_meaning.specs.declared.core_nodes.PatternNode.{PatternNode}
use Rattle.effect_meaning.specs.declared.core_nodes.PatternForm.{PatternForm}
use Rattle.effect_meaning.specs.declared.core_nodes.PatternForm.TheVariants as pattern
use Rattle.effect_meaning.specs.declared.core_nodes.Clause.{Clause}
use Rattle.effect_meaning.specs.declared.core_nodes.EffectClause.{EffectClause}
use Rattle.effect_meaning.specs.declared.core_nodes.Function.{Function}
use Rattle.effect_meaning.specs.declared.core_nodes.TermNode.{TermNode}
use Rattle.effect_meaning.specs.declared.core_nodes.TermForm.{TermForm}
use Rattle.effect_meaning.specs.declared.core_nodes.TermForm.TheVariants as term
use Rattle.effect_meaning.specs.declared.core_tables.TypeRow.{TypeRow}
use Rattle.effect_meaning.specs.declared.core_tables.VariantRow.{VariantRow}
use Rattle.effect_meaning.specs.declared.core_tables.FieldRow.{FieldRow}
use Rattle.effect_meaning.specs.declared.core_tables.ExceptionRow.{ExceptionRow}
use Rattle.effect_meaning.specs.declared.core_tables.EffectRow.{EffectRow}
use Rattle.effect_meaning.specs.declared.core_tables.Item.{Item}
use Rattle.effect_meaning.specs.declared.core_tables.ItemForm.{ItemForm}
use Rattle.effect_meaning.specs.declared.core_tables.ItemForm.TheVariants as item

-- the nodes and the tables of a program: the file's text, the string literals, the nodes of each sort, the rows, the items
pub record Parts : Type 0 where
  pub file : List ℕ
  pub literals : List (List ℕ)
  pub types : List TypeExpression
  pub patterns : List PatternNode
  pub terms : List TermNode
  pub type_rows : List TypeRow
  pub variant_rows : List VariantRow
  pub field_rows : List FieldRow
  pub exception_rows : List ExceptionRow
  pub effect_rows : List EffectRow
  pub items : List Item

-- no nodes and no rows
abbrev pub empty_parts : List ℕ → Parts
empty_parts file = record {
  file = file;
  literals = [];
  types = [];
  patterns = [];
  terms = [];
  type_rows = [];
  variant_rows = [];
  field_rows = [];
  exception_rows = [];
  effect_rows = [];
  items = [];
}

-- how many nodes and rows of each sort there are
pub record Counts : Type 0 where
  pub literals : ℕ
  pub types : ℕ
  pub patterns : ℕ
  pub terms : ℕ
  pub type_rows : ℕ
  pub variant_rows : ℕ
  pub field_rows : ℕ
  pub exception_rows : ℕ
  pub effect_rows : ℕ

abbrev pub counts : Parts → Counts
counts p = record {
  literals = length p.literals;
  types = length p.types;
  patterns = length p.patterns;
  terms = length p.terms;
  type_rows = length p.type_rows;
  variant_rows = length p.variant_rows;
  field_rows = length p.field_rows;
  exception_rows = length p.exception_rows;
  effect_rows = length p.effect_rows;
}

-- what a node or a row needs: that something of this number stands there, or that a number is in the range of its type
pub data Need : Type 0 where
  ALiteral AType APattern ATerm ATypeRow AVariantRow AFieldRow AnExceptionRow AnEffectRow : (n : ℕ) → Need
  ACharacter : (n : ℕ) → Need
  AnInteger : (n : ℤ) → Need

-- integers have 63 bits, the least one included
abbrev pub IsInteger : ℤ → Type 0
IsInteger n = (neg_ℤ (pos (2 ^ 62)) ≤ℤ n) × (n ≤ℤ pos (2 ^ 62 - 1))

-- a need is met where so many nodes and rows stand
abbrev pub Met : Counts → Need → Type 0
Met c (ALiteral n) = n < c.literals
Met c (AType n) = n < c.types
Met c (APattern n) = n < c.patterns
Met c (ATerm n) = n < c.terms
Met c (ATypeRow n) = n < c.type_rows
Met c (AVariantRow n) = n < c.variant_rows
Met c (AFieldRow n) = n < c.field_rows
Met c (AnExceptionRow n) = n < c.exception_rows
Met c (AnEffectRow n) = n < c.effect_rows
Met c (ACharacter n) = n < 256
Met c (AnInteger n) = IsInteger n

abbrev pub AllMet : Counts → List Need → Type 0
AllMet c [] = Unit {0}
AllMet c (n ∷ ns) = Met c n × AllMet c ns

abbrev pub if_any : (ℕ → Need) → Option ℕ → List Need
if_any need None = []
if_any need (Some n) = need n ∷ []

abbrev pub constant_needs : Constant → List Need
constant_needs (constant.Integer n) = AnInteger n ∷ []
constant_needs (constant.Character n) = ACharacter n ∷ []
constant_needs (constant.Boolean b) = []
constant_needs constant.Unit = []
constant_needs (constant.Literal n) = ALiteral n ∷ []

abbrev pub constructor_need : Constructor → Need
constructor_need (constructor.Variant n) = AVariantRow n
constructor_need (constructor.Exception n) = AnExceptionRow n
constructor_need (constructor.Effect n) = AnEffectRow n

abbrev pub record_needs : (ℕ → Need) → List FieldPart → List Need
record_needs need [] = []
record_needs need (f ∷ fs) = AFieldRow f.field ∷ need f.part ∷ record_needs need fs

abbrev pub type_needs : TypeExpression → List Need
type_needs (type.Variable v) = []
type_needs type.Any = []
type_needs (type.Applied t arguments) = ATypeRow t ∷ map AType arguments

abbrev pub pattern_needs : PatternForm → List Need
pattern_needs pattern.Any = []
pattern_needs (pattern.Name x) = []
pattern_needs (pattern.Constant c) = constant_needs c
pattern_needs (pattern.Tuple parts) = map APattern parts
pattern_needs (pattern.Constructor con) = constructor_need con ∷ []
pattern_needs (pattern.Construct con argument) = constructor_need con ∷ APattern argument ∷ []
pattern_needs (pattern.Record parts) = record_needs APattern parts
pattern_needs (pattern.Or left right) = APattern left ∷ APattern right ∷ []
pattern_needs (pattern.Alias q x) = APattern q ∷ []
pattern_needs (pattern.Annotated q t) = APattern q ∷ AType t ∷ []

abbrev pub clause_needs : Clause → List Need
clause_needs c = APattern c.pattern ∷ ATerm c.body ∷ if_any ATerm c.guard

abbrev pub effect_clause_needs : EffectClause → List Need
effect_clause_needs c = constructor_need c.effect ∷ ATerm c.body ∷ if_any APattern c.argument ++ if_any AType c.annotation

abbrev pub function_needs : Function → List Need
function_needs f = ATerm f.body ∷ if_any AType f.annotation

abbrev pub term_needs : TermForm → List Need
term_needs (term.Name x) = []
term_needs (term.Constant c) = constant_needs c
term_needs (term.Function x body) = ATerm body ∷ []
term_needs (term.Apply f a) = ATerm f ∷ ATerm a ∷ []
term_needs (term.Let x a body) = ATerm a ∷ ATerm body ∷ []
term_needs (term.LetRec functions body) = ATerm body ∷ flat_map function_needs functions
term_needs (term.Sequence a b) = ATerm a ∷ ATerm b ∷ []
term_needs (term.If c a b) = ATerm c ∷ ATerm a ∷ ATerm b ∷ []
term_needs (term.Match a clauses) = ATerm a ∷ flat_map clause_needs clauses
term_needs (term.Tuple parts) = map ATerm parts
term_needs (term.Constructor con) = constructor_need con ∷ []
term_needs (term.Construct con argument) = constructor_need con ∷ ATerm argument ∷ []
term_needs (term.Record parts) = record_needs ATerm parts
term_needs (term.Array parts) = map ATerm parts
term_needs (term.Field field a) = AFieldRow field ∷ ATerm a ∷ []
term_needs (term.SetField field a b) = AFieldRow field ∷ ATerm a ∷ ATerm b ∷ []
term_needs (term.Primitive op parts) = map ATerm parts
term_needs (term.Catch body values exceptions) = ATerm body ∷ flat_map clause_needs values ++ flat_map clause_needs exceptions
term_needs (term.Handle kind types f a value exception clauses) =
    ATerm f ∷ ATerm a ∷ ATerm value ∷ ATerm exception ∷ if_any AType types.effect ++ flat_map effect_clause_needs clauses
term_needs (term.Annotated a t) = ATerm a ∷ AType t ∷ []

abbrev pub item_needs : ItemForm → List Need
item_needs (item.Types rows) = map ATypeRow rows
item_needs (item.Exception row) = AnExceptionRow row ∷ []
item_needs (item.Effects extended rows) = ATypeRow extended ∷ map AnEffectRow rows
item_needs (item.Define x a) = ATerm a ∷ []
item_needs (item.Destructure q a) = APattern q ∷ ATerm a ∷ []
item_needs (item.DefineRec functions) = flat_map function_needs functions
item_needs (item.Evaluate a) = ATerm a ∷ []

abbrev pub variant_needs : VariantRow → List Need
variant_needs r = ATypeRow r.of_type ∷ if_any AType r.argument

abbrev pub field_needs : FieldRow → List Need
field_needs r = ATypeRow r.of_type ∷ AType r.annotation ∷ []

abbrev pub exception_needs : ExceptionRow → List Need
exception_needs r = if_any AType r.argument

abbrev pub effect_needs : EffectRow → List Need
effect_needs r = AType r.result ∷ if_any AType r.argument

-- a node or a row stands where its needs are met
abbrev pub TypeStands : Counts → TypeExpression → Type 0
TypeStands c t = AllMet c (type_needs t)

abbrev pub PatternStands : Counts → PatternNode → Type 0
PatternStands c n = AllMet c (pattern_needs n.form)

abbrev pub TermStands : Counts → TermNode → Type 0
TermStands c n = AllMet c (term_needs n.form)

abbrev pub VariantStands : Counts → VariantRow → Type 0
VariantStands c r = AllMet c (variant_needs r)

abbrev pub FieldStands : Counts → FieldRow → Type 0
FieldStands c r = AllMet c (field_needs r)

abbrev pub ExceptionStands : Counts → ExceptionRow → Type 0
ExceptionStands c r = AllMet c (exception_needs r)

abbrev pub EffectStands : Counts → EffectRow → Type 0
EffectStands c r = AllMet c (effect_needs r)

abbrev pub ItemStands : Counts → Item → Type 0
ItemStands c i = AllMet c (item_needs i.form)

-- each of a list stands, the first of them at this number, where what is there may go by the number
abbrev pub EachStands : {X : Type 0} → (Counts → X → Type 0) → (ℕ → Counts) → ℕ → List X → Type 0
EachStands stands there i [] = Unit {0}
EachStands stands there i (x ∷ xs) = stands (there i) x × EachStands stands there (suc i) xs

-- what is there for the node of this number: of its own sort only those before it
abbrev pub types_below : Counts → ℕ → Counts
types_below c i = record c { types = i }

abbrev pub patterns_below : Counts → ℕ → Counts
patterns_below c i = record c { patterns = i }

abbrev pub terms_below : Counts → ℕ → Counts
terms_below c i = record c { terms = i }

-- all nodes, rows and items stand where so many nodes and rows are
pub record AllStand (c : Counts) (p : Parts) : Type 0 where
  pub types : EachStands TypeStands (types_below c) 0 p.types
  pub patterns : EachStands PatternStands (patterns_below c) 0 p.patterns
  pub terms : EachStands TermStands (terms_below c) 0 p.terms
  pub variant_rows : EachStands VariantStands (λ i. c) 0 p.variant_rows
  pub field_rows : EachStands FieldStands (λ i. c) 0 p.field_rows
  pub exception_rows : EachStands ExceptionStands (λ i. c) 0 p.exception_rows
  pub effect_rows : EachStands EffectStands (λ i. c) 0 p.effect_rows
  pub items : EachStands ItemStands (λ i. c) 0 p.items

-- all that is numbered stands there, each part of a node before it, and each constant is in the range of its type
abbrev pub IsArena : Parts → Type 0
IsArena p = AllStand (counts p) p
