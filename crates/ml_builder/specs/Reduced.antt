-- What the reductions of a parse build.
use Rattle.std.specs.Prelude.{ℕ, List, [], ◌∷◌, Option, Some, option_map, option_and_then, slice_get}
use Rattle.ml_lexer.specs.Lexeme.{Lexeme}
use Rattle.ml_syntax.specs.declared.node.Node.{Node}
use Rattle.ml_syntax.specs.declared.prog.Prog.{Prog}
use Rattle.ml_builder.specs.declared.building.Building.{Building}
use Rattle.ml_builder.specs.declared.reduction.Reduction.{Reduction}
use Rattle.ml_builder.specs.declared.reduction.Rule.{Rule}
use Rattle.ml_builder.specs.declared.sort.Sort.{Sort}
use Rattle.ml_builder.specs.declared.sort.Sort.TheVariants as sorts
use Rattle.ml_builder.specs.declared.sort.FormSort.{FormSort}
use Rattle.ml_builder.specs.declared.sort.FormSort.TheVariants as form
use Rattle.ml_builder.specs.declared.sort.NamedSort.{NamedSort}
use Rattle.ml_builder.specs.declared.sort.NamedSort.TheVariants as named
use Rattle.ml_builder.specs.declared.sort.CompoundSort.{CompoundSort}
use Rattle.ml_builder.specs.declared.sort.CompoundSort.TheVariants as compound
use Rattle.ml_builder.specs.declared.sort.HandlerSort.{HandlerSort}
use Rattle.ml_builder.specs.declared.sort.HandlerSort.TheVariants as handler
use Rattle.ml_builder.specs.declared.sort.PartSort.{PartSort}
use Rattle.ml_builder.specs.declared.sort.PartSort.TheVariants as part
use Rattle.ml_builder.specs.declared.sort.DefinitionSort.{DefinitionSort}
use Rattle.ml_builder.specs.declared.sort.DefinitionSort.TheVariants as definition
use Rattle.ml_builder.specs.declared.sort.ItemSort.{ItemSort}
use Rattle.ml_builder.specs.declared.sort.ItemSort.TheVariants as item
use Rattle.ml_builder.specs.Sort.{sort}
use Rattle.ml_builder.specs.Bindings.{made_binding, made_let}
use Rattle.ml_builder.specs.Clauses.{made_clause, made_exception_clause, made_match}
use Rattle.ml_builder.specs.Definitions.{made_constructor, made_effect, made_field, made_head, made_record_type, made_variant_type}
use Rattle.ml_builder.specs.Expressions.{made_bracket, made_control, made_fun, made_several}
use Rattle.ml_builder.specs.Handlers.{made_effect_function, made_effect_rule, made_function_cases, made_handle, made_match_cases}
use Rattle.ml_builder.specs.Items.{made_effects_item, made_exception_item, made_expression_item, made_let_item, made_open_item, made_types_item}
use Rattle.ml_builder.specs.Leaves.{made_leaf}
use Rattle.ml_builder.specs.Named.{made_for, made_name, made_with_long_name, made_with_word}
use Rattle.ml_builder.specs.Names.{made_word, pushed_long_name}
use Rattle.ml_builder.specs.Operators.{made_element, made_operation}
use Rattle.ml_builder.specs.Patterns.{made_pattern}
use Rattle.ml_builder.specs.Records.{made_part, made_record}
use Rattle.ml_builder.specs.Types.{made_type}

-- forms whose parts are all numbers
unfoldable pub reduced_form : FormSort → Rule → Lexeme → ℕ → List ℕ → List Node → Option (List ℕ × List Node)
reduced_form form.Leaf r t c ks ns = made_leaf r t ks ns
reduced_form form.Type r t c ks ns = made_type r t.place c ks ns
reduced_form form.Pattern r t c ks ns = made_pattern r t.place c ks ns
reduced_form form.Bracket r t c ks ns = made_bracket r t.place ks ns
reduced_form form.Several r t c ks ns = made_several r t.place c ks ns
reduced_form form.Control r t c ks ns = made_control r t.place ks ns
reduced_form form.Fun r t c ks ns = made_fun t.place c ks ns
reduced_form form.Operation r t c ks ns = made_operation r t.place c ks ns
reduced_form form.Element r t c ks ns = made_element r t.place ks ns

-- forms that have a name
unfoldable pub reduced_named : NamedSort → Rule → Lexeme → ℕ → Building → Option Building
reduced_named named.Name r t c b =
    option_map (λ p. record b { words = p.0; numbers = p.1; nodes = p.2 }) (made_name r c b.words b.numbers b.nodes)
reduced_named named.WithWord r t c b =
    option_map (λ p. record b { words = p.0; numbers = p.1; nodes = p.2 }) (made_with_word r t.place b.words b.numbers b.nodes)
reduced_named named.For r t c b =
    option_map (λ p. record b { words = p.0; numbers = p.1; nodes = p.2 }) (made_for r t.place b.words b.numbers b.nodes)
reduced_named named.WithLongName r t c b =
    option_map (λ p. record b { long_names = p.0; numbers = p.1; nodes = p.2 }) (made_with_long_name r c b.long_names b.numbers b.nodes)

-- forms whose parts are no forms
unfoldable pub reduced_compound : CompoundSort → Rule → Lexeme → ℕ → Building → Option Building
reduced_compound compound.Record r t c b =
    option_map (λ p. record b { parts = p.0; numbers = p.1; nodes = p.2 }) (made_record r t.place c b.parts b.numbers b.nodes)
reduced_compound compound.Match r t c b =
    option_map (λ p. record b { clauses = p.0; numbers = p.1; nodes = p.2 }) (made_match r t.place c b.clauses b.numbers b.nodes)
reduced_compound compound.Let r t c b =
    option_map (λ p. record b { bindings = p.0; numbers = p.1; nodes = p.2 }) (made_let r t.place c b.bindings b.numbers b.nodes)

-- forms with a handler, and of its parts
unfoldable pub reduced_handler : HandlerSort → Rule → Lexeme → ℕ → Building → Option Building
reduced_handler handler.Call r t c b =
    option_map (λ p. record b { long_names = p.0; numbers = p.1; nodes = p.2 }) (made_handle b.long_names b.numbers b.nodes)
reduced_handler handler.Rule r t c b =
    option_map (λ p. record b { numbers = p.0; rules = p.1 }) (made_effect_rule b.numbers b.rules)
reduced_handler handler.Function r t c b =
    option_map (λ p. record b { words = p.0; numbers = p.1; nodes = p.2 }) (made_effect_function r t.place b.words b.numbers b.nodes)
reduced_handler handler.MatchCases r t c b =
    option_map (λ p. record b { words = p.0; rules = p.1; numbers = p.2; nodes = p.3 }) (made_match_cases t.place c b.words b.rules b.numbers b.nodes)
reduced_handler handler.FunctionCases r t c b =
    option_map (λ p. record b { rules = p.0; numbers = p.1; nodes = p.2 }) (made_function_cases t.place c b.rules b.numbers b.nodes)

-- what is no form of its own
unfoldable pub reduced_part : PartSort → Rule → Lexeme → ℕ → Building → Option Building
reduced_part part.Word r t c b = Some (record b { words = made_word t b.words })
reduced_part part.LongName r t c b =
    option_map (λ p. record b { words = p.0; long_names = p.1 }) (pushed_long_name c b.words b.long_names)
reduced_part part.NamedPart r t c b =
    option_map (λ p. record b { words = p.0; numbers = p.1; parts = p.2 }) (made_part b.words b.numbers b.parts)
reduced_part part.Clause r t c b =
    option_map (λ p. record b { numbers = p.0; clauses = p.1 }) (made_clause r t.place b.numbers b.clauses)
reduced_part part.ExceptionClause r t c b =
    option_map (λ p. record b { numbers = p.0; clauses = p.1 }) (made_exception_clause r t.place b.numbers b.clauses)
reduced_part part.Binding r t c b =
    option_map (λ p. record b { words = p.0; numbers = p.1; bindings = p.2 }) (made_binding r c b.words b.numbers b.bindings)

-- the parts of definitions
unfoldable pub reduced_definition : DefinitionSort → Rule → ℕ → Building → Option Building
reduced_definition definition.Constructor r c b =
    option_map (λ p. record b { words = p.0; numbers = p.1; constructors = p.2 }) (made_constructor r b.words b.numbers b.constructors)
reduced_definition definition.Field r c b =
    option_map (λ p. record b { words = p.0; numbers = p.1; fields = p.2 }) (made_field r b.words b.numbers b.fields)
reduced_definition definition.Head r c b =
    option_map (λ p. record b { words = p.0; heads = p.1 }) (made_head c b.words b.heads)
reduced_definition definition.Variant r c b =
    option_map (λ p. record b { heads = p.0; constructors = p.1; types = p.2 }) (made_variant_type c b.heads b.constructors b.types)
reduced_definition definition.Record r c b =
    option_map (λ p. record b { heads = p.0; fields = p.1; types = p.2 }) (made_record_type c b.heads b.fields b.types)
reduced_definition definition.Effect r c b =
    option_map (λ p. record b { words = p.0; numbers = p.1; effects = p.2 }) (made_effect r b.words b.numbers b.effects)

-- items
unfoldable pub reduced_item : ItemSort → Rule → Lexeme → ℕ → Building → Option Building
reduced_item item.Expression r t c b =
    option_map (λ p. record b { numbers = p.0; items = p.1 }) (made_expression_item t.place b.numbers b.items)
reduced_item item.Let r t c b =
    option_map (λ p. record b { bindings = p.0; items = p.1 }) (made_let_item r t.place c b.bindings b.items)
reduced_item item.Types r t c b =
    option_map (λ p. record b { types = p.0; items = p.1 }) (made_types_item t.place c b.types b.items)
reduced_item item.Effects r t c b =
    option_map (λ p. record b { long_names = p.0; effects = p.1; items = p.2 }) (made_effects_item t.place c b.long_names b.effects b.items)
reduced_item item.Exception r t c b =
    option_map (λ p. record b { constructors = p.0; items = p.1 }) (made_exception_item t.place b.constructors b.items)
reduced_item item.Open r t c b =
    option_map (λ p. record b { words = p.0; items = p.1 }) (made_open_item t.place c b.words b.items)

-- one reduction, at its token
unfoldable pub reduced_at : Sort → Rule → Lexeme → ℕ → Building → Option Building
reduced_at (sorts.Form s) r t c b = option_map (λ p. record b { numbers = p.0; nodes = p.1 }) (reduced_form s r t c b.numbers b.nodes)
reduced_at (sorts.Named s) r t c b = reduced_named s r t c b
reduced_at (sorts.Compound s) r t c b = reduced_compound s r t c b
reduced_at (sorts.Handler s) r t c b = reduced_handler s r t c b
reduced_at (sorts.Part s) r t c b = reduced_part s r t c b
reduced_at (sorts.Definition s) r t c b = reduced_definition s r c b
reduced_at (sorts.Item s) r t c b = reduced_item s r t c b

-- one reduction of the parse of these tokens
unfoldable pub reduced : List Lexeme → Reduction → Building → Option Building
reduced ts r b = option_and_then (λ t. reduced_at (sort r.rule) r.rule t r.count b) (slice_get ts r.token)

-- reductions in order
unfoldable pub built : List Lexeme → List Reduction → Building → Option Building
built ts [] b = Some b
built ts (r ∷ rs) b = option_and_then (λ c. built ts rs c) (reduced ts r b)

-- before the first reduction
abbrev pub nothing : Building
nothing = record {
  nodes = [];
  numbers = [];
  words = [];
  long_names = [];
  parts = [];
  clauses = [];
  bindings = [];
  rules = [];
  constructors = [];
  fields = [];
  heads = [];
  types = [];
  effects = [];
  items = [];
}

-- the program that is built, whatever else is left
abbrev pub program_of : Building → Prog
program_of b = record { nodes = b.nodes; items = b.items }

-- the program of all the reductions of a parse
abbrev pub program : List Lexeme → List Reduction → Option Prog
program ts rs = option_map program_of (built ts rs nothing)
