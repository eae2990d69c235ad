-- The items that declare types, exceptions and effects: their rows, what they bring into scope, and their breaches.
-- OCaml manual, "Type and exception definitions".
use Rattle.std.specs.Prelude.{ℕ, suc, List, [], ◌∷◌, ◌++◌, map, flat_map, length, Option, Some, None, option_map}
use Rattle.fx_base.specs.declared.refusal.Place.{Place}
use Rattle.ml_syntax.specs.declared.node.Name.{Name}
use Rattle.ml_syntax.specs.declared.prog.ConstructorDefinition.{ConstructorDefinition}
use Rattle.ml_syntax.specs.declared.prog.FieldDefinition.{FieldDefinition}
use Rattle.ml_syntax.specs.declared.prog.TypeBody.{TypeBody}
use Rattle.ml_syntax.specs.declared.prog.TypeBody.TheVariants as body
use Rattle.ml_syntax.specs.declared.prog.TypeDefinition.{TypeDefinition}
use Rattle.ml_syntax.specs.declared.prog.EffectDefinition.{EffectDefinition}
use Rattle.effect_meaning.specs.Terms.{Variant, Exception, Effect, Written, VariantRow, FieldRow, ExceptionRow, EffectRow, Program}
use Rattle.surface_meaning.specs.Scope.{Row, Entry, Scope, entry}
use Rattle.surface_meaning.specs.Visible.{with_constructor, with_field, with_type}
use Rattle.surface_meaning.specs.Meanings.{Site, InItem, Declared, Meaning, written_at}
use Rattle.surface_meaning.specs.Types.{type_breaches_at}
use Rattle.surface_meaning.specs.Patterns.{twice}

-- numbers from this one on, as many as a list has elements
abbrev pub numbers : {X : Type 0} → ℕ → List X → List ℕ
numbers n [] = []
numbers n (x ∷ xs) = n ∷ numbers (suc n) xs

-- the parameters of a declaration stand for their numbers
abbrev pub parameters_from : ℕ → List Name → List (Entry ℕ)
parameters_from n [] = []
parameters_from n (x ∷ xs) = parameters_from (suc n) xs ++ entry x.text n ∷ []

-- the types of a definition's constructors and fields stand among its parameters
abbrev pub site_of : TypeDefinition → Site
site_of d = Declared (parameters_from 0 d.parameters)

-- the type of an argument, if there is one
abbrev pub argument_at : List Meaning → Site → Scope → Option ℕ → Option Written
argument_at ms w s t = option_map (λ i. written_at ms i w s) t

-- the types of an item come into scope, from this row on
abbrev pub with_types : ℕ → List TypeDefinition → Scope → Scope
with_types n [] s = s
with_types n (d ∷ ds) s = with_types (suc n) ds (with_type d.name.text (Row n) s)

-- constructors come into scope, from this row on
abbrev pub with_variants : ℕ → List ConstructorDefinition → Scope → Scope
with_variants n [] s = s
with_variants n (c ∷ cs) s = with_variants (suc n) cs (with_constructor c.name.text (Variant n) s)

-- fields come into scope, from this row on
abbrev pub with_fields : ℕ → List FieldDefinition → Scope → Scope
with_fields n [] s = s
with_fields n (f ∷ fs) s = with_fields (suc n) fs (with_field f.name.text n s)

-- effect constructors come into scope, from this row on
abbrev pub with_effects : ℕ → List EffectDefinition → Scope → Scope
with_effects n [] s = s
with_effects n (e ∷ es) s = with_effects (suc n) es (with_constructor e.name.text (Effect n) s)

-- the rows of the constructors of a type
abbrev pub variant_rows : List Meaning → ℕ → Site → Scope → List ConstructorDefinition → List VariantRow
variant_rows ms t w s cs = map (λ c. record { of_type = t; argument = argument_at ms w s c.argument }) cs

-- the rows of the fields of a type, which stand from this place on
abbrev pub field_rows : List Meaning → ℕ → Site → Scope → ℕ → List FieldDefinition → List FieldRow
field_rows ms t w s i [] = []
field_rows ms t w s i (f ∷ fs) =
    record { of_type = t; index = i; is_mutable = f.is_mutable; type = written_at ms f.annotation w s } ∷ field_rows ms t w s (suc i) fs

-- the row of an exception: no type variable is in scope there
abbrev pub exception_row : List Meaning → Scope → ConstructorDefinition → ExceptionRow
exception_row ms s c = record { name = c.name.text; argument = argument_at ms (Declared []) s c.argument }

-- the row of an effect constructor
abbrev pub effect_row : List Meaning → Scope → EffectDefinition → EffectRow
effect_row ms s e = record { argument = argument_at ms InItem s e.argument; result = written_at ms e.result InItem s }

-- a scope, and a program as far as it is declared
pub record Declarations : Type 0 where
  pub scope : Scope
  pub program : Program

-- one more type, of the next row, with its constructors or fields
abbrev pub with_body : List Meaning → ℕ → Site → TypeBody → Declarations → Declarations
with_body ms n w (body.Variant cs) d =
    let p = d.program in let t = length p.types in record {
      scope = with_variants (length p.variants) cs d.scope;
      program = record p {
        types = p.types ++ record { parameters = n; fields = None } ∷ [];
        variants = p.variants ++ variant_rows ms t w d.scope cs;
      };
    }
with_body ms n w (body.Record fs) d =
    let p = d.program in let t = length p.types in record {
      scope = with_fields (length p.fields) fs d.scope;
      program = record p {
        types = p.types ++ record { parameters = n; fields = Some (numbers (length p.fields) fs) } ∷ [];
        fields = p.fields ++ field_rows ms t w d.scope 0 fs;
      };
    }

-- the types of an item, each of the next row
abbrev pub with_bodies : List Meaning → List TypeDefinition → Declarations → Declarations
with_bodies ms [] d = d
with_bodies ms (t ∷ ts) d = with_bodies ms ts (with_body ms (length t.parameters) (site_of t) t.body d)

-- one more item that declares
abbrev pub declaring : Program → Program
declaring p = record p { declarations = suc p.declarations }

-- type definitions: their names are visible in all of them
abbrev pub with_type_item : List Meaning → List TypeDefinition → Declarations → Declarations
with_type_item ms ts d =
    with_bodies ms ts (record { scope = with_types (length d.program.types) ts d.scope; program = declaring d.program })

-- an exception, of the next row
abbrev pub with_exception_item : List Meaning → ConstructorDefinition → Declarations → Declarations
with_exception_item ms c d =
    let p = declaring d.program in record {
      scope = with_constructor c.name.text (Exception (length p.exceptions)) d.scope;
      program = record p { exceptions = p.exceptions ++ exception_row ms d.scope c ∷ [] };
    }

-- effect constructors, which extend this type
abbrev pub with_effect_item : List Meaning → ℕ → List EffectDefinition → Declarations → Declarations
with_effect_item ms t es d =
    let p = declaring d.program in record {
      scope = with_effects (length p.effects) es d.scope;
      program = record p { effects = p.effects ++ map (effect_row ms d.scope) es; extended = p.extended ++ t ∷ [] };
    }

-- the breaches in the type of an argument
abbrev pub argument_breaches : List Meaning → Site → Scope → Option ℕ → List Place
argument_breaches ms w s None = []
argument_breaches ms w s (Some t) = type_breaches_at ms (t ∷ []) w s

-- no two constructors and no two fields of a type have one name
abbrev pub body_breaches : List Meaning → Site → Scope → TypeBody → List Place
body_breaches ms w s (body.Variant cs) =
    twice (map (λ c. c.name) cs) ++ flat_map (λ c. argument_breaches ms w s c.argument) cs
body_breaches ms w s (body.Record fs) =
    twice (map (λ f. f.name) fs) ++ flat_map (λ f. type_breaches_at ms (f.annotation ∷ []) w s) fs

-- no two parameters of a type have one name
abbrev pub definition_breaches : List Meaning → Scope → TypeDefinition → List Place
definition_breaches ms s t = twice t.parameters ++ body_breaches ms (site_of t) s t.body

-- no two types of an item have one name
abbrev pub type_item_breaches : List Meaning → List TypeDefinition → Declarations → List Place
type_item_breaches ms ts d =
    twice (map (λ t. t.name) ts) ++ flat_map (definition_breaches ms (with_types (length d.program.types) ts d.scope)) ts

-- the breaches in the types of an effect constructor
abbrev pub effect_definition_breaches : List Meaning → Scope → EffectDefinition → List Place
effect_definition_breaches ms s e = argument_breaches ms InItem s e.argument ++ type_breaches_at ms (e.result ∷ []) InItem s
