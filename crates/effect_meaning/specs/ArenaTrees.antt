-- The trees that the nodes of an arena stand for, and the program that they make.
use Rattle.std.specs.Prelude.{ℕ, suc, Bool, true, false, ◌==◌, List, [], ◌∷◌, ◌++◌, map, filter_map, slice_index_or, length, cond, count_by, Option, Some, None, option_map}
use Rattle.fx_base.specs.declared.refusal.Place.{Place as PlaceOf}
use Rattle.effect_meaning.specs.Terms.{Place, Written, Variable, Any, Applied, Writtens, NoTypes, AndType, Constant, Integer, Character, Boolean, UnitConst, Literal, Constructor, Variant, Exception, Effect, Pattern, AnyPat, NamePat, ConstPat, TuplePat, ConPat, ConOfPat, RecordPat, OrPat, AliasPat, AnnotPat, Patterns, NoPatterns, AndPattern, Order, Equals, Differs, Below, Above, AtMost, AtLeast, Compared, Operation, Add, Sub, Mul, Div, Mod, LAnd, LOr, LXor, Lsl, Lsr, Asr, Min, Max, Negate, Abs, Succ, Pred, Not, Fst, Snd, Ignore, Compare, Same, Other, RefMake, RefGet, RefSet, RefIncr, RefDecr, Raise, Failwith, InvalidArg, Exit, PrintInt, PrintChar, PrintString, PrintEndline, PrintNewline, StringOfInt, Concat, StringLength, StringGet, StringSub, CharCode, CharChr, ArrayMake, ArrayLength, ArrayGet, ArraySet, CIter, CFold, CTry, Perform, Continue, Discontinue, Fiber, Spawn, Join, Relax, AtomicMake, AtomicGet, AtomicSet, AtomicExchange, AtomicCas, AtomicAdd, AtomicIncr, AtomicDecr, QueuePush, QueueTake, QueueSelf, QueueSlots, Kind, Deep, ShallowContinue, ShallowDiscontinue, HandlerTypes, Term, Var, Const, Fun, App, Let, LetRec, Seq, If, Match, Tuple, Con, ConOf, Record, Array, Field, SetField, Prim, Catch, Handle, Annot, Terms, NoTerms, AndTerm, Functions, NoFunctions, AndFunction, Clauses, NoClauses, AndClause, Guard, NoGuard, When, EffectClauses, NoEffects, AndEffect, Item, Define, Destructure, DefineRec, Evaluate, TypeRow, VariantRow, FieldRow, ExceptionRow, EffectRow, Program}
use Rattle.effect_meaning.specs.declared.core_nodes.TypeExpression.{TypeExpression}
use Rattle.effect_meaning.specs.declared.core_nodes.TypeExpression.TheVariants as type
use Rattle.effect_meaning.specs.declared.core_nodes.Constant.{Constant as ConstantOf}
use Rattle.effect_meaning.specs.declared.core_nodes.Constant.TheVariants as constant
use Rattle.effect_meaning.specs.declared.core_nodes.Constructor.{Constructor as ConstructorOf}
use Rattle.effect_meaning.specs.declared.core_nodes.Constructor.TheVariants as constructor
use Rattle.effect_meaning.specs.declared.core_nodes.PatternForm.{PatternForm}
use Rattle.effect_meaning.specs.declared.core_nodes.PatternForm.TheVariants as pattern
use Rattle.effect_meaning.specs.declared.core_nodes.Comparison.{Comparison}
use Rattle.effect_meaning.specs.declared.core_nodes.Comparison.TheVariants as comparison
use Rattle.effect_meaning.specs.declared.core_nodes.Operation.{Operation as OperationOf}
use Rattle.effect_meaning.specs.declared.core_nodes.Operation.TheVariants as operation
use Rattle.effect_meaning.specs.declared.core_nodes.HandlerKind.{HandlerKind}
use Rattle.effect_meaning.specs.declared.core_nodes.HandlerKind.TheVariants as kind
use Rattle.effect_meaning.specs.declared.core_nodes.HandlerTypes.{HandlerTypes as HandlerTypesOf}
use Rattle.effect_meaning.specs.declared.core_nodes.Clause.{Clause}
use Rattle.effect_meaning.specs.declared.core_nodes.EffectClause.{EffectClause}
use Rattle.effect_meaning.specs.declared.core_nodes.Function.{Function}
use Rattle.effect_meaning.specs.declared.core_nodes.TermForm.{TermForm}
use Rattle.effect_meaning.specs.declared.core_nodes.TermForm.TheVariants as term
use Rattle.effect_meaning.specs.declared.core_tables.TypeRow.{TypeRow as TypeRowOf}
use Rattle.effect_meaning.specs.declared.core_tables.VariantRow.{VariantRow as VariantRowOf}
use Rattle.effect_meaning.specs.declared.core_tables.FieldRow.{FieldRow as FieldRowOf}
use Rattle.effect_meaning.specs.declared.core_tables.ExceptionRow.{ExceptionRow as ExceptionRowOf}
use Rattle.effect_meaning.specs.declared.core_tables.EffectRow.{EffectRow as EffectRowOf}
use Rattle.effect_meaning.specs.declared.core_tables.Item.{Item as ItemOf}
use Rattle.effect_meaning.specs.declared.core_tables.ItemForm.{ItemForm}
use Rattle.effect_meaning.specs.declared.core_tables.ItemForm.TheVariants as item
use Rattle.effect_meaning.specs.Arena.{Parts}

-- the trees of nodes, one after another, each made of those before it
abbrev pub trees : {N T : Type 0} → (List T → N → T) → List T → List N → List T
trees tree ts [] = ts
trees tree ts (n ∷ ns) = trees tree (ts ++ tree ts n ∷ []) ns

-- the tree of this number, where there is one
abbrev pub type_at : List Written → ℕ → Written
type_at ws i = slice_index_or ws i Any

abbrev pub pattern_at : List Pattern → ℕ → Pattern
pattern_at qs i = slice_index_or qs i AnyPat

abbrev pub term_at : List Term → ℕ → Term
term_at ts i = slice_index_or ts i (Const UnitConst)

abbrev pub types_at : List Written → List ℕ → Writtens
types_at ws [] = NoTypes
types_at ws (i ∷ is) = AndType (type_at ws i) (types_at ws is)

abbrev pub patterns_at : List Pattern → List ℕ → Patterns
patterns_at qs [] = NoPatterns
patterns_at qs (i ∷ is) = AndPattern (pattern_at qs i) (patterns_at qs is)

abbrev pub terms_at : List Term → List ℕ → Terms
terms_at ts [] = NoTerms
terms_at ts (i ∷ is) = AndTerm (term_at ts i) (terms_at ts is)

abbrev pub place_of : PlaceOf → Place
place_of p = record { line = p.line; column = p.column }

abbrev pub constant_of : ConstantOf → Constant
constant_of (constant.Integer n) = Integer n
constant_of (constant.Character c) = Character c
constant_of (constant.Boolean b) = Boolean b
constant_of constant.Unit = UnitConst
constant_of (constant.Literal i) = Literal i

abbrev pub constructor_of : ConstructorOf → Constructor
constructor_of (constructor.Variant n) = Variant n
constructor_of (constructor.Exception n) = Exception n
constructor_of (constructor.Effect n) = Effect n

abbrev pub order_of : Comparison → Order
order_of comparison.Equal = Equals
order_of comparison.Different = Differs
order_of comparison.Below = Below
order_of comparison.Above = Above
order_of comparison.AtMost = AtMost
order_of comparison.AtLeast = AtLeast
order_of comparison.Compare = Compared

abbrev pub operation_of : OperationOf → Operation
operation_of operation.Add = Add
operation_of operation.Subtract = Sub
operation_of operation.Multiply = Mul
operation_of operation.Divide = Div
operation_of operation.Modulo = Mod
operation_of operation.LogicalAnd = LAnd
operation_of operation.LogicalOr = LOr
operation_of operation.LogicalXor = LXor
operation_of operation.ShiftLeft = Lsl
operation_of operation.ShiftRightLogical = Lsr
operation_of operation.ShiftRightArithmetic = Asr
operation_of operation.Minimum = Min
operation_of operation.Maximum = Max
operation_of operation.Negate = Negate
operation_of operation.Absolute = Abs
operation_of operation.Successor = Succ
operation_of operation.Predecessor = Pred
operation_of operation.Not = Not
operation_of operation.First = Fst
operation_of operation.Second = Snd
operation_of operation.Ignore = Ignore
operation_of (operation.Compare o) = Compare (order_of o)
operation_of operation.Same = Same
operation_of operation.Other = Other
operation_of operation.MakeReference = RefMake
operation_of operation.GetReference = RefGet
operation_of operation.SetReference = RefSet
operation_of operation.IncrementReference = RefIncr
operation_of operation.DecrementReference = RefDecr
operation_of operation.Raise = Raise
operation_of operation.FailWith = Failwith
operation_of operation.InvalidArgument = InvalidArg
operation_of operation.Exit = Exit
operation_of operation.PrintInteger = PrintInt
operation_of operation.PrintCharacter = PrintChar
operation_of operation.PrintString = PrintString
operation_of operation.PrintLine = PrintEndline
operation_of operation.PrintNewline = PrintNewline
operation_of operation.StringOfInteger = StringOfInt
operation_of operation.Concatenate = Concat
operation_of operation.StringLength = StringLength
operation_of operation.StringGet = StringGet
operation_of operation.StringSub = StringSub
operation_of operation.CharacterCode = CharCode
operation_of operation.CharacterOfCode = CharChr
operation_of operation.ArrayMake = ArrayMake
operation_of operation.ArrayLength = ArrayLength
operation_of operation.ArrayGet = ArrayGet
operation_of operation.ArraySet = ArraySet
operation_of operation.CallIterate = CIter
operation_of operation.CallFold = CFold
operation_of operation.CallTry = CTry
operation_of operation.Perform = Perform
operation_of operation.Continue = Continue
operation_of operation.Discontinue = Discontinue
operation_of operation.Fiber = Fiber
operation_of operation.Spawn = Spawn
operation_of operation.Join = Join
operation_of operation.Relax = Relax
operation_of operation.AtomicMake = AtomicMake
operation_of operation.AtomicGet = AtomicGet
operation_of operation.AtomicSet = AtomicSet
operation_of operation.AtomicExchange = AtomicExchange
operation_of operation.AtomicCompareAndSet = AtomicCas
operation_of operation.AtomicFetchAndAdd = AtomicAdd
operation_of operation.AtomicIncrement = AtomicIncr
operation_of operation.AtomicDecrement = AtomicDecr
operation_of operation.QueuePush = QueuePush
operation_of operation.QueueTake = QueueTake
operation_of operation.QueueSelf = QueueSelf
operation_of operation.QueueSlots = QueueSlots

abbrev pub kind_of : HandlerKind → Kind
kind_of kind.Deep = Deep
kind_of kind.ShallowContinue = ShallowContinue
kind_of kind.ShallowDiscontinue = ShallowDiscontinue

-- the tree of a written type, from those before it
abbrev pub type_tree : List Written → TypeExpression → Written
type_tree ws (type.Variable v) = Variable v
type_tree ws type.Any = Any
type_tree ws (type.Applied t arguments) = Applied t (types_at ws arguments)

-- the tree of a pattern, from the types and the patterns before it
abbrev pub pattern_tree : List Written → List Pattern → PatternForm → Pattern
pattern_tree ws qs pattern.Any = AnyPat
pattern_tree ws qs (pattern.Name x) = NamePat x
pattern_tree ws qs (pattern.Constant c) = ConstPat (constant_of c)
pattern_tree ws qs (pattern.Tuple parts) = TuplePat (patterns_at qs parts)
pattern_tree ws qs (pattern.Constructor con) = ConPat (constructor_of con)
pattern_tree ws qs (pattern.Construct con argument) = ConOfPat (constructor_of con) (pattern_at qs argument)
pattern_tree ws qs (pattern.Record parts) = RecordPat (map (λ f. f.field) parts) (patterns_at qs (map (λ f. f.part) parts))
pattern_tree ws qs (pattern.Or left right) = OrPat (pattern_at qs left) (pattern_at qs right)
pattern_tree ws qs (pattern.Alias q x) = AliasPat (pattern_at qs q) x
pattern_tree ws qs (pattern.Annotated q t) = AnnotPat (pattern_at qs q) (type_at ws t)

abbrev pub guard_tree : List Term → Option ℕ → Guard
guard_tree ts None = NoGuard
guard_tree ts (Some g) = When (term_at ts g)

abbrev pub clauses_tree : List Pattern → List Term → List Clause → Clauses
clauses_tree qs ts [] = NoClauses
clauses_tree qs ts (c ∷ cs) =
    AndClause (pattern_at qs c.pattern) (guard_tree ts c.guard) (term_at ts c.body) (clauses_tree qs ts cs)

abbrev pub effect_clauses_tree : List Written → List Pattern → List Term → List EffectClause → EffectClauses
effect_clauses_tree ws qs ts [] = NoEffects
effect_clauses_tree ws qs ts (c ∷ cs) =
    AndEffect (constructor_of c.effect) (option_map (pattern_at qs) c.argument) c.continuation (option_map (type_at ws) c.annotation)
    (term_at ts c.body) (effect_clauses_tree ws qs ts cs)

abbrev pub handler_types : List Written → HandlerTypesOf → HandlerTypes
handler_types ws h = record { variable = h.variable; effect = option_map (type_at ws) h.effect }

abbrev pub functions_tree : List Written → List Term → List Function → Functions
functions_tree ws ts [] = NoFunctions
functions_tree ws ts (f ∷ fs) =
    AndFunction f.name (option_map (type_at ws) f.annotation) f.parameter (term_at ts f.body) (functions_tree ws ts fs)

-- the tree of a term at a place, from the types and patterns and the terms before it
abbrev pub term_tree : List Written → List Pattern → Place → List Term → TermForm → Term
term_tree ws qs at ts (term.Name x) = Var x
term_tree ws qs at ts (term.Constant c) = Const (constant_of c)
term_tree ws qs at ts (term.Function x body) = Fun x (term_at ts body)
term_tree ws qs at ts (term.Apply f a) = App (term_at ts f) (term_at ts a)
term_tree ws qs at ts (term.Let x a body) = Let x (term_at ts a) (term_at ts body)
term_tree ws qs at ts (term.LetRec functions body) = LetRec (functions_tree ws ts functions) (term_at ts body)
term_tree ws qs at ts (term.Sequence a b) = Seq (term_at ts a) (term_at ts b)
term_tree ws qs at ts (term.If c a b) = If (term_at ts c) (term_at ts a) (term_at ts b)
term_tree ws qs at ts (term.Match a clauses) = Match at (term_at ts a) (clauses_tree qs ts clauses)
term_tree ws qs at ts (term.Tuple parts) = Tuple (terms_at ts parts)
term_tree ws qs at ts (term.Constructor con) = Con (constructor_of con)
term_tree ws qs at ts (term.Construct con argument) = ConOf (constructor_of con) (term_at ts argument)
term_tree ws qs at ts (term.Record parts) = Record (map (λ f. f.field) parts) (terms_at ts (map (λ f. f.part) parts))
term_tree ws qs at ts (term.Array parts) = Array (terms_at ts parts)
term_tree ws qs at ts (term.Field field a) = Field field (term_at ts a)
term_tree ws qs at ts (term.SetField field a b) = SetField field (term_at ts a) (term_at ts b)
term_tree ws qs at ts (term.Primitive op parts) = Prim (operation_of op) (terms_at ts parts)
term_tree ws qs at ts (term.Catch body values exceptions) =
    Catch at (term_at ts body) (clauses_tree qs ts values) (clauses_tree qs ts exceptions)
term_tree ws qs at ts (term.Handle kind types f a value exception clauses) =
    Handle (kind_of kind) (handler_types ws types) (terms_at ts (f ∷ a ∷ value ∷ exception ∷ [])) (effect_clauses_tree ws qs ts clauses)
term_tree ws qs at ts (term.Annotated a t) = Annot (term_at ts a) (type_at ws t)

-- the trees of an arena's nodes, by their numbers
abbrev pub types_of : Parts → List Written
types_of p = trees type_tree [] p.types

abbrev pub patterns_of : Parts → List Pattern
patterns_of p = trees (λ qs n. pattern_tree (types_of p) qs n.form) [] p.patterns

abbrev pub terms_of : Parts → List Term
terms_of p = trees (λ ts n. term_tree (types_of p) (patterns_of p) (place_of n.place) ts n.form) [] p.terms

-- the numbers of the elements that pass a test, the first of them having this one
abbrev pub numbers_from : {X : Type 0} → ℕ → (X → Bool) → List X → List ℕ
numbers_from i test [] = []
numbers_from i test (x ∷ xs) = cond (test x) (i ∷ numbers_from (suc i) test xs) (numbers_from (suc i) test xs)

-- the constructors and the fields of a type, by their rows
abbrev pub variants_of : Parts → ℕ → List ℕ
variants_of p t = numbers_from 0 (λ r. r.of_type == t) p.variant_rows

abbrev pub fields_of : Parts → ℕ → List ℕ
fields_of p t = numbers_from 0 (λ r. r.of_type == t) p.field_rows

-- the fields of a record type, of which there is at least one
abbrev pub if_record : List ℕ → Option (List ℕ)
if_record [] = None
if_record (f ∷ fs) = Some (f ∷ fs)

-- the rows of the types, the first of them having this number
abbrev pub type_rows_from : Parts → ℕ → List TypeRowOf → List TypeRow
type_rows_from p i [] = []
type_rows_from p i (r ∷ rs) =
    record { parameters = length r.parameters; fields = if_record (fields_of p i) } ∷ type_rows_from p (suc i) rs

abbrev pub variant_row : List Written → VariantRowOf → VariantRow
variant_row ws r = record { of_type = r.of_type; argument = option_map (type_at ws) r.argument }

abbrev pub field_row : List Written → FieldRowOf → FieldRow
field_row ws r = record { of_type = r.of_type; index = r.index; is_mutable = r.is_mutable; type = type_at ws r.annotation }

abbrev pub exception_row : List Written → ExceptionRowOf → ExceptionRow
exception_row ws r = record { name = r.name; argument = option_map (type_at ws) r.argument }

abbrev pub effect_row : List Written → EffectRowOf → EffectRow
effect_row ws r = record { argument = option_map (type_at ws) r.argument; result = type_at ws r.result }

-- the tree of a value item, from the types, the patterns and the terms
abbrev pub item_tree : List Written → List Pattern → List Term → Place → ItemForm → Option Item
item_tree ws qs ts at (item.Types rows) = None
item_tree ws qs ts at (item.Exception row) = None
item_tree ws qs ts at (item.Effects extended rows) = None
item_tree ws qs ts at (item.Define x a) = Some (Define x (term_at ts a))
item_tree ws qs ts at (item.Destructure q a) = Some (Destructure at (pattern_at qs q) (term_at ts a))
item_tree ws qs ts at (item.DefineRec functions) = Some (DefineRec (functions_tree ws ts functions))
item_tree ws qs ts at (item.Evaluate a) = Some (Evaluate (term_at ts a))

-- the items that declare types, exceptions or effects
abbrev pub declares : ItemOf → Bool
declares i = elim i.form [ item.Types rows ↦ true | item.Exception row ↦ true | item.Effects extended rows ↦ true | _ ↦ false ]

-- the type that an item of effects extends
abbrev pub extended_by : ItemForm → Option ℕ
extended_by (item.Effects extended rows) = Some extended
extended_by _ = None

-- the program that an arena stands for
abbrev pub program : Parts → Program
program p = record {
  file = p.file;
  literals = p.literals;
  types = type_rows_from p 0 p.type_rows;
  variants = map (variant_row (types_of p)) p.variant_rows;
  fields = map (field_row (types_of p)) p.field_rows;
  exceptions = map (exception_row (types_of p)) p.exception_rows;
  effects = map (effect_row (types_of p)) p.effect_rows;
  extended = filter_map (λ i. extended_by i.form) p.items;
  declarations = count_by declares p.items;
  items = filter_map (λ i. item_tree (types_of p) (patterns_of p) (terms_of p) (place_of i.place) i.form) p.items;
}
