-- The grammar of items and of whole texts. OCaml manual, "Module items", "Type and exception definitions".
use Rattle.std.specs.Prelude.{◌≡◌, false, List, [], ◌∷◌}
use Rattle.ml_lexer.specs.Lexeme.{Lexeme}
use Rattle.ml_syntax.specs.declared.role.Role.{Role}
use Rattle.ml_syntax.specs.declared.role.Role.TheVariants as roles
use Rattle.ml_syntax.specs.Tree.{TypeTree, type_variable, type_any, type_name, type_apply, type_apply_several, type_bracket, type_tuple, type_arrow, TypeParts, one_type, more_types, Binding, bound_pattern, bound_name, Bindings, one_binding, more_bindings, ConstructorTree, bare_constructor, constructor_of, ConstructorTrees, one_constructor, more_constructors, FieldTree, FieldTrees, one_field_type, more_field_types, Parameters, one_parameter, more_parameters, TypeParameters, no_parameters, a_parameter, several_parameters, TypeBodyTree, variant, fields_type, DefinitionTree, DefinitionTrees, one_definition, more_definitions, EffectTree, effect_constant, effect_of, EffectTrees, one_effect, more_effects, ItemTree, expression_item, let_item, type_item, effect_item, exception_item, open_item, ItemTrees, no_items, more_items, ProgTree, spelled_prog}
use Rattle.ml_syntax.specs.Grammar.{Is, IsIf, IsPath, IsType, type_level, IsExpression, Fits, Ends, AreBindings}

abbrev pub IsConstructor : ConstructorTree → Type 0
IsConstructor (bare_constructor c) = Is roles.Upper c
IsConstructor (constructor_of c o t) = Is roles.Upper c × Is roles.Of o × IsType t

abbrev pub AreConstructors : ConstructorTrees → Type 0
AreConstructors (one_constructor v c) = IsIf roles.Bar v × IsConstructor c
AreConstructors (more_constructors cs v c) = AreConstructors cs × Is roles.Bar v × IsConstructor c

abbrev pub IsField : FieldTree → Type 0
IsField f = IsIf roles.Mutable f.mutable × Is roles.Lower f.name × Is roles.Colon f.colon × IsType f.type

abbrev pub AreFieldTypes : FieldTrees → Type 0
AreFieldTypes (one_field_type f) = IsField f
AreFieldTypes (more_field_types fs s f) = AreFieldTypes fs × Is roles.Semicolon s × IsField f

abbrev pub AreVariables : Parameters → Type 0
AreVariables (one_parameter v) = Is roles.TypeVariable v
AreVariables (more_parameters vs c v) = AreVariables vs × Is roles.Comma c × Is roles.TypeVariable v

abbrev pub AreTypeParameters : TypeParameters → Type 0
AreTypeParameters no_parameters = Unit {0}
AreTypeParameters (a_parameter v) = Is roles.TypeVariable v
AreTypeParameters (several_parameters l vs r) = Is roles.LeftParenthesis l × AreVariables vs × Is roles.RightParenthesis r

abbrev pub IsBody : TypeBodyTree → Type 0
IsBody (variant cs) = AreConstructors cs
IsBody (fields_type l fs s r) = Is roles.LeftBrace l × AreFieldTypes fs × IsIf roles.Semicolon s × Is roles.RightBrace r

abbrev pub IsDefinition : DefinitionTree → Type 0
IsDefinition d = AreTypeParameters d.parameters × Is roles.Lower d.name × Is roles.Equals d.equals × IsBody d.body

abbrev pub AreDefinitions : DefinitionTrees → Type 0
AreDefinitions (one_definition d) = IsDefinition d
AreDefinitions (more_definitions ds a d) = AreDefinitions ds × Is roles.And a × IsDefinition d

-- a type without type variables and without `_`
abbrev mutual
  pub IsClosed : TypeTree → Type 0
  IsClosed (type_variable t) = ⊥
  IsClosed (type_any t) = ⊥
  IsClosed (type_name qs n) = Unit {0}
  IsClosed (type_apply t qs n) = IsClosed t
  IsClosed (type_apply_several l t c ps r qs n) = IsClosed t × AreClosed ps
  IsClosed (type_bracket l t r) = IsClosed t
  IsClosed (type_tuple t s ps) = IsClosed t × AreClosed ps
  IsClosed (type_arrow a o b) = IsClosed a × IsClosed b

  pub AreClosed : TypeParts → Type 0
  AreClosed (one_type t) = IsClosed t
  AreClosed (more_types ps s t) = AreClosed ps × IsClosed t

-- a type name that is applied to one type
abbrev pub IsAppliedToOne : TypeTree → Type 0
IsAppliedToOne (type_apply t qs n) = Unit {0}
IsAppliedToOne _ = ⊥

abbrev pub IsEffect : EffectTree → Type 0
IsEffect (effect_constant c o t) = Is roles.Upper c × Is roles.Colon o × IsType t × IsClosed t × IsAppliedToOne t
IsEffect (effect_of c o a w t) =
    Is roles.Upper c × Is roles.Colon o × (IsType a × IsClosed a × (type_level a ≡ 0)) × Is roles.RightArrow w
    × (IsType t × IsClosed t × IsAppliedToOne t)

abbrev pub AreEffects : EffectTrees → Type 0
AreEffects (one_effect v e) = IsIf roles.Bar v × IsEffect e
AreEffects (more_effects es v e) = AreEffects es × Is roles.Bar v × IsEffect e

-- an expression that is evaluated is no sequence
abbrev pub IsItem : ItemTree → Type 0
IsItem (expression_item x) = IsExpression false x × Fits 15 x
IsItem (let_item l r bs) = Is roles.Let l × IsIf roles.Rec r × AreBindings r bs
IsItem (type_item t ds) = Is roles.Type t × AreDefinitions ds
IsItem (effect_item t u qs n o es) =
    Is roles.Type t × Is roles.Underscore u × IsPath qs × Is roles.Lower n × Is roles.PlusEquals o × AreEffects es
IsItem (exception_item e c) = Is roles.Exception e × IsConstructor c
IsItem (open_item o qs n) = Is roles.Open o × IsPath qs × Is roles.Upper n

abbrev pub EndsBinding : Role → Binding → Type 0
EndsBinding r (bound_pattern p q b) = Ends r b
EndsBinding r (bound_name n ps a q b) = Ends r b

abbrev pub EndsBindings : Role → Bindings → Type 0
EndsBindings r (one_binding b) = EndsBinding r b
EndsBindings r (more_bindings bs a b) = EndsBinding r b

-- an item reaches as far as it can
abbrev pub EndsItem : Role → ItemTree → Type 0
EndsItem r (expression_item x) = Ends r x
EndsItem r (let_item l c bs) = EndsBindings r bs
EndsItem r _ = Unit {0}

-- an item may stand directly behind another one that ends before it; an expression may not
abbrev pub Follows : ItemTree → ItemTree → Type 0
Follows (expression_item x) i = ⊥
Follows (let_item l r bs) i = EndsItem roles.Let i
Follows (type_item t ds) i = EndsItem roles.Type i
Follows (effect_item t u qs n o es) i = EndsItem roles.Type i
Follows (exception_item e c) i = EndsItem roles.Exception i
Follows (open_item o qs n) i = EndsItem roles.Open i

-- behind these items and double semicolons
abbrev pub Stands : ItemTrees → List Lexeme → ItemTree → Type 0
Stands (more_items is h j) [] i = Follows i j
Stands _ _ i = Unit {0}

abbrev pub AreGap : List Lexeme → Type 0
AreGap [] = Unit {0}
AreGap (t ∷ ts) = Is roles.DoubleSemicolon t × AreGap ts

abbrev pub AreItems : ItemTrees → Type 0
AreItems no_items = Unit {0}
AreItems (more_items is g i) = AreItems is × AreGap g × Stands is g i × IsItem i

-- the tree is a whole text
abbrev pub IsProgram : ProgTree → Type 0
IsProgram p = AreItems p.items × AreGap p.ending

-- the tokens are those of the derivation
abbrev pub Derives : List Lexeme → ProgTree → Type 0
Derives tokens tree = (spelled_prog tree ≡ tokens) × IsProgram tree
