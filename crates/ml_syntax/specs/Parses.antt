-- The nodes and the items of a whole text, and which program a list of tokens parses to.
use Rattle.std.specs.Prelude.{◌≡◌, List, [], ◌∷◌, ◌++◌, Some, None}
use Rattle.fx_base.specs.declared.refusal.Place.{Place}
use Rattle.ml_lexer.specs.Lexeme.{Lexeme}
use Rattle.ml_syntax.specs.declared.node.Name.{Name}
use Rattle.ml_syntax.specs.declared.node.Node.{Node}
use Rattle.ml_syntax.specs.declared.prog.ConstructorDefinition.{ConstructorDefinition}
use Rattle.ml_syntax.specs.declared.prog.FieldDefinition.{FieldDefinition}
use Rattle.ml_syntax.specs.declared.prog.TypeBody.{TypeBody}
use Rattle.ml_syntax.specs.declared.prog.TypeBody.TheVariants as body
use Rattle.ml_syntax.specs.declared.prog.TypeDefinition.{TypeDefinition}
use Rattle.ml_syntax.specs.declared.prog.EffectDefinition.{EffectDefinition}
use Rattle.ml_syntax.specs.declared.prog.Item.{Item}
use Rattle.ml_syntax.specs.declared.prog.Item.TheVariants as item
use Rattle.ml_syntax.specs.declared.prog.Prog.{Prog}
use Rattle.ml_syntax.specs.Tree.{ConstructorTree, bare_constructor, constructor_of, ConstructorTrees, one_constructor, more_constructors, FieldTree, FieldTrees, one_field_type, more_field_types, Parameters, one_parameter, more_parameters, TypeParameters, no_parameters, a_parameter, several_parameters, TypeBodyTree, variant, fields_type, DefinitionTree, DefinitionTrees, one_definition, more_definitions, EffectTree, effect_constant, effect_of, EffectTrees, one_effect, more_effects, ItemTree, expression_item, let_item, type_item, effect_item, exception_item, open_item, ItemTrees, no_items, more_items, ProgTree, spelled}
use Rattle.ml_syntax.specs.Laid.{last, name_of, long_name, is_there, laid_type, laid, laid_bindings}
use Rattle.ml_syntax.specs.Programs.{Derives}

abbrev pub laid_constructor : List Node → ConstructorTree → List Node × ConstructorDefinition
laid_constructor ns (bare_constructor c) = (ns, record { name = name_of c; argument = None })
laid_constructor ns (constructor_of c o t) =
    let ts = laid_type ns t in (ts, record { name = name_of c; argument = Some (last ts) })

abbrev pub laid_constructors : List Node → ConstructorTrees → List Node × List ConstructorDefinition
laid_constructors ns (one_constructor v c) = let p = laid_constructor ns c in (p.0, p.1 ∷ [])
laid_constructors ns (more_constructors cs v c) =
    let p = laid_constructors ns cs in let q = laid_constructor p.0 c in (q.0, p.1 ++ q.1 ∷ [])

abbrev pub laid_field_type : List Node → FieldTree → List Node × FieldDefinition
laid_field_type ns f =
    let ts = laid_type ns f.type
    in (ts, record { is_mutable = is_there f.mutable; name = name_of f.name; annotation = last ts })

abbrev pub laid_field_types : List Node → FieldTrees → List Node × List FieldDefinition
laid_field_types ns (one_field_type f) = let p = laid_field_type ns f in (p.0, p.1 ∷ [])
laid_field_types ns (more_field_types fs s f) =
    let p = laid_field_types ns fs in let q = laid_field_type p.0 f in (q.0, p.1 ++ q.1 ∷ [])

abbrev pub variables_of : Parameters → List Name
variables_of (one_parameter v) = name_of v ∷ []
variables_of (more_parameters vs c v) = variables_of vs ++ name_of v ∷ []

abbrev pub type_parameters_of : TypeParameters → List Name
type_parameters_of no_parameters = []
type_parameters_of (a_parameter v) = name_of v ∷ []
type_parameters_of (several_parameters l vs r) = variables_of vs

abbrev pub laid_body : List Node → TypeBodyTree → List Node × TypeBody
laid_body ns (variant cs) = let p = laid_constructors ns cs in (p.0, body.Variant p.1)
laid_body ns (fields_type l fs s r) = let p = laid_field_types ns fs in (p.0, body.Record p.1)

abbrev pub laid_definition : List Node → DefinitionTree → List Node × TypeDefinition
laid_definition ns d =
    let p = laid_body ns d.body
    in (p.0, record { parameters = type_parameters_of d.parameters; name = name_of d.name; body = p.1 })

abbrev pub laid_definitions : List Node → DefinitionTrees → List Node × List TypeDefinition
laid_definitions ns (one_definition d) = let p = laid_definition ns d in (p.0, p.1 ∷ [])
laid_definitions ns (more_definitions ds a d) =
    let p = laid_definitions ns ds in let q = laid_definition p.0 d in (q.0, p.1 ++ q.1 ∷ [])

abbrev pub laid_effect : List Node → EffectTree → List Node × EffectDefinition
laid_effect ns (effect_constant c o t) =
    let ts = laid_type ns t in (ts, record { name = name_of c; argument = None; result = last ts })
laid_effect ns (effect_of c o a w t) =
    let ls = laid_type ns a in let ts = laid_type ls t
    in (ts, record { name = name_of c; argument = Some (last ls); result = last ts })

abbrev pub laid_effects : List Node → EffectTrees → List Node × List EffectDefinition
laid_effects ns (one_effect v e) = let p = laid_effect ns e in (p.0, p.1 ∷ [])
laid_effects ns (more_effects es v e) = let p = laid_effects ns es in let q = laid_effect p.0 e in (q.0, p.1 ++ q.1 ∷ [])

-- the place of the first token
abbrev pub place_of : List Lexeme → Place
place_of [] = record { line = 1; column = 1 }
place_of (t ∷ ts) = t.place

abbrev pub laid_item : List Node → ItemTree → List Node × Item
laid_item ns (expression_item x) = let xs = laid ns x in (xs, item.Expression (place_of (spelled x [])) (last xs))
laid_item ns (let_item l r bs) = let p = laid_bindings ns bs in (p.0, item.Let l.place (is_there r) p.1)
laid_item ns (type_item t ds) = let p = laid_definitions ns ds in (p.0, item.Types t.place p.1)
laid_item ns (effect_item t u qs n o es) = let p = laid_effects ns es in (p.0, item.Effects t.place (long_name qs n) p.1)
laid_item ns (exception_item e c) = let p = laid_constructor ns c in (p.0, item.Exception e.place p.1)
laid_item ns (open_item o qs n) = (ns, item.Open o.place (long_name qs n))

abbrev pub laid_items : ItemTrees → List Node × List Item
laid_items no_items = ([], [])
laid_items (more_items is g i) = let p = laid_items is in let q = laid_item p.0 i in (q.0, p.1 ++ q.1 ∷ [])

-- the program of a whole text
abbrev pub program_of : ProgTree → Prog
program_of t = let p = laid_items t.items in record { nodes = p.0; items = p.1 }

-- the tokens are those of a derivation, whose program this is
pub record Parses (tokens : List Lexeme) (prog : Prog) : Type 0 where
  pub tree : ProgTree
  pub derives : Derives tokens tree
  pub program_is : prog ≡ program_of tree
