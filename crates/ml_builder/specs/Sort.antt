-- The sort of each rule.
use Rattle.ml_builder.specs.declared.reduction.Rule.{Rule}
use Rattle.ml_builder.specs.declared.reduction.Rule.TheVariants as rule
use Rattle.ml_builder.specs.declared.sort.Sort.{Sort}
use Rattle.ml_builder.specs.declared.sort.Sort.TheVariants as sorts
use Rattle.ml_builder.specs.declared.sort.FormSort.TheVariants as form
use Rattle.ml_builder.specs.declared.sort.NamedSort.TheVariants as named
use Rattle.ml_builder.specs.declared.sort.CompoundSort.TheVariants as compound
use Rattle.ml_builder.specs.declared.sort.HandlerSort.TheVariants as handler
use Rattle.ml_builder.specs.declared.sort.PartSort.TheVariants as part
use Rattle.ml_builder.specs.declared.sort.DefinitionSort.TheVariants as definition
use Rattle.ml_builder.specs.declared.sort.ItemSort.TheVariants as item

unfoldable pub sort : Rule → Sort
sort rule.TypeVariable = sorts.Form form.Leaf
sort rule.TypeAny = sorts.Form form.Leaf
sort rule.PatternAny = sorts.Form form.Leaf
sort rule.PatternName = sorts.Form form.Leaf
sort rule.PatternConstant = sorts.Form form.Leaf
sort rule.PatternUnit = sorts.Form form.Leaf
sort rule.Constant = sorts.Form form.Leaf
sort rule.LeastInteger = sorts.Form form.Leaf
sort rule.Unit = sorts.Form form.Leaf
sort rule.TypeBracket = sorts.Form form.Type
sort rule.TypeTuple = sorts.Form form.Type
sort rule.TypeArrow = sorts.Form form.Type
sort rule.PatternBracket = sorts.Form form.Pattern
sort rule.PatternAnnotated = sorts.Form form.Pattern
sort rule.PatternList = sorts.Form form.Pattern
sort rule.PatternCons = sorts.Form form.Pattern
sort rule.PatternTuple = sorts.Form form.Pattern
sort rule.PatternOr = sorts.Form form.Pattern
sort rule.Bracket = sorts.Form form.Bracket
sort rule.BeginEnd = sorts.Form form.Bracket
sort rule.Annotated = sorts.Form form.Bracket
sort rule.List = sorts.Form form.Several
sort rule.Array = sorts.Form form.Several
sort rule.Tuple = sorts.Form form.Several
sort rule.Sequence = sorts.Form form.Several
sort rule.While = sorts.Form form.Control
sort rule.If = sorts.Form form.Control
sort rule.IfElse = sorts.Form form.Control
sort rule.Fun = sorts.Form form.Fun
sort rule.Dereference = sorts.Form form.Operation
sort rule.Negate = sorts.Form form.Operation
sort (rule.Binary o) = sorts.Form form.Operation
sort rule.Apply = sorts.Form form.Operation
sort rule.ArrayElement = sorts.Form form.Element
sort rule.StringElement = sorts.Form form.Element
sort rule.SetElement = sorts.Form form.Element
sort rule.TypeName = sorts.Named named.Name
sort rule.PatternConstructor = sorts.Named named.Name
sort rule.Variable = sorts.Named named.Name
sort rule.Constructor = sorts.Named named.Name
sort rule.PatternAlias = sorts.Named named.WithWord
sort rule.Field = sorts.Named named.WithWord
sort rule.SetField = sorts.Named named.WithWord
sort rule.ForUpward = sorts.Named named.For
sort rule.ForDownward = sorts.Named named.For
sort rule.TypeApply = sorts.Named named.WithLongName
sort rule.PatternConstruct = sorts.Named named.WithLongName
sort rule.Construct = sorts.Named named.WithLongName
sort rule.PatternRecord = sorts.Compound compound.Record
sort rule.PatternRecordOpen = sorts.Compound compound.Record
sort rule.Record = sorts.Compound compound.Record
sort rule.Handler = sorts.Compound compound.Record
sort rule.Match = sorts.Compound compound.Match
sort rule.Try = sorts.Compound compound.Match
sort rule.Function = sorts.Compound compound.Match
sort rule.Let = sorts.Compound compound.Let
sort rule.LetRecursive = sorts.Compound compound.Let
sort rule.Handle = sorts.Handler handler.Call
sort rule.EffectRule = sorts.Handler handler.Rule
sort rule.Resumption = sorts.Handler handler.Function
sort rule.EffectFunction = sorts.Handler handler.Function
sort rule.TypedEffectFunction = sorts.Handler handler.Function
sort rule.MatchCases = sorts.Handler handler.MatchCases
sort rule.FunctionCases = sorts.Handler handler.FunctionCases
sort rule.Word = sorts.Part part.Word
sort rule.LongName = sorts.Part part.LongName
sort rule.NamedPart = sorts.Part part.NamedPart
sort rule.ValueClause = sorts.Part part.Clause
sort rule.GuardedClause = sorts.Part part.Clause
sort rule.EffectClause = sorts.Part part.Clause
sort rule.ExceptionClause = sorts.Part part.ExceptionClause
sort rule.GuardedExceptionClause = sorts.Part part.ExceptionClause
sort rule.PatternBinding = sorts.Part part.Binding
sort rule.NamedBinding = sorts.Part part.Binding
sort rule.AnnotatedBinding = sorts.Part part.Binding
sort rule.PlainConstructor = sorts.Definition definition.Constructor
sort rule.ConstructorOf = sorts.Definition definition.Constructor
sort rule.FieldType = sorts.Definition definition.Field
sort rule.MutableFieldType = sorts.Definition definition.Field
sort rule.TypeHead = sorts.Definition definition.Head
sort rule.VariantType = sorts.Definition definition.Variant
sort rule.RecordType = sorts.Definition definition.Record
sort rule.PlainEffect = sorts.Definition definition.Effect
sort rule.EffectOf = sorts.Definition definition.Effect
sort rule.ExpressionItem = sorts.Item item.Expression
sort rule.LetItem = sorts.Item item.Let
sort rule.LetRecursiveItem = sorts.Item item.Let
sort rule.TypesItem = sorts.Item item.Types
sort rule.EffectsItem = sorts.Item item.Effects
sort rule.ExceptionItem = sorts.Item item.Exception
sort rule.OpenItem = sorts.Item item.Open
