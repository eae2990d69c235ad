-- Worked programs: items, and the rows of what they declare. They hold by computation.
use Rattle.std.proofs.Common.{◌≡◌, refl, ℕ, true, false, List, [], ◌∷◌, drop, Some, None, codes}
use Rattle.std.specs.Prelude.{Result, Ok, Err}
use Rattle.fx_base.specs.declared.refusal.Place.{Place}
use Rattle.ml_syntax.specs.declared.node.Binding.TheVariants as bindings
use Rattle.ml_syntax.specs.declared.node.Node.{Node}
use Rattle.ml_syntax.specs.declared.node.Node.TheVariants as node
use Rattle.ml_syntax.specs.declared.prog.TypeBody.TheVariants as body
use Rattle.ml_syntax.specs.declared.prog.Item.{Item as ItemOf}
use Rattle.ml_syntax.specs.declared.prog.Item.TheVariants as item
use Rattle.effect_meaning.specs.Terms.{Written, Variable, Any, Applied, NoTypes, AndType, Literal, NamePat, TuplePat, NoPatterns, AndPattern, Var, Const, Tuple, Record, Field, Annot, NoFunctions, AndFunction, Define, Destructure, DefineRec, Evaluate, TypeRow, VariantRow, FieldRow, ExceptionRow, EffectRow, Program}
use Rattle.effect_meaning.specs.Builtins.{int_type, function_type, effect_type}
use Rattle.surface_meaning.proofs.Programs.{column, name, long, long_in, variable, integer, string, name_pattern, define, items_of, meant, here, number, one, two}

abbrev int : Written
int = Applied int_type NoTypes

abbrev int_node : Node
int_node = node.TypeName (long (codes "int"))

-- what a program declares behind the built-in rows
pub record Declared : Type 0 where
  types : List TypeRow
  variants : List VariantRow
  fields : List FieldRow
  exceptions : List ExceptionRow
  effects : List EffectRow
  extended : List ℕ
  declarations : ℕ

abbrev declared_by : Program → Declared
declared_by p = record {
  types = drop 17 p.types;
  variants = drop 4 p.variants;
  fields = p.fields;
  exceptions = drop 10 p.exceptions;
  effects = p.effects;
  extended = p.extended;
  declarations = p.declarations;
}

abbrev nothing : Declared
nothing = record { types = []; variants = []; fields = []; exceptions = []; effects = []; extended = []; declarations = 0 }

abbrev declared : List Node → List ItemOf → Declared
declared ns is = elim (meant ns is) [ Ok p ↦ declared_by p | Err place ↦ nothing ]

-- type 'a t = A | B of 'a and u = { mutable f : int t }
example_types :
    declared (node.TypeVariable (column 1) (codes "'a") ∷ int_node ∷ node.TypeApply (1 ∷ []) (long (codes "t")) ∷ [])
    (item.Types (column 1)
    (record {
      parameters = name (codes "'a") ∷ [];
      name = name (codes "t");
      body = body.Variant (record { name = name (codes "A"); argument = None }
          ∷ record { name = name (codes "B"); argument = Some 0 } ∷ []);
    }
    ∷ record {
      parameters = [];
      name = name (codes "u");
      body = body.Record (record { is_mutable = true; name = name (codes "f"); annotation = 2 } ∷ []);
    } ∷ []) ∷ [])
    ≡ record nothing {
      types = record { parameters = 1; fields = None } ∷ record { parameters = 0; fields = Some (0 ∷ []) } ∷ [];
      variants = record { of_type = 17; argument = None } ∷ record { of_type = 17; argument = Some (Variable 0) } ∷ [];
      fields = record { of_type = 18; index = 0; is_mutable = true; type = Applied 17 (AndType int NoTypes) } ∷ [];
      declarations = 1;
    }
example_types = refl

-- exception E of int
example_exception :
    declared (int_node ∷ []) (item.Exception (column 1) (record { name = name (codes "E"); argument = Some 0 }) ∷ [])
    ≡ record nothing { exceptions = record { name = codes "E"; argument = Some int } ∷ []; declarations = 1 }
example_exception = refl

-- type _ Effect.t += E : int -> int Effect.t
example_effect :
    declared (int_node ∷ int_node ∷ node.TypeApply (1 ∷ []) (long_in 1 (codes "Effect" ∷ []) (codes "t")) ∷ [])
    (item.Effects (column 1) (long_in 1 (codes "Effect" ∷ []) (codes "t"))
    (record { name = name (codes "E"); argument = Some 0; result = 2 } ∷ []) ∷ [])
    ≡ record nothing {
      effects = record { argument = Some int; result = Applied effect_type (AndType int NoTypes) } ∷ [];
      extended = effect_type ∷ [];
      declarations = 1;
    }
example_effect = refl

-- let (x, y) = (1, 2) and z = 3: one item after the other
example_let_items :
    items_of (meant (name_pattern (codes "x") ∷ name_pattern (codes "y") ∷ node.PatternTuple (column 1) (0 ∷ 1 ∷ [])
    ∷ integer (codes "1") ∷ integer (codes "2") ∷ node.Tuple (column 1) (3 ∷ 4 ∷ []) ∷ integer (codes "3") ∷ [])
    (item.Let (column 1) false (bindings.Pattern 2 5 ∷ define (codes "z") 6 ∷ []) ∷ []))
    ≡ Destructure here (TuplePat (AndPattern (NamePat 0) (AndPattern (NamePat 6) NoPatterns))) (Tuple (two (number 1) (number 2)))
    ∷ Define 37 (number 3) ∷ []
example_let_items = refl

-- let rec f : int -> 'a = fun x -> g and g x : _ = 1: the type of a definition without parameters stays with the function
example_types_of_functions :
    items_of (meant (int_node ∷ node.TypeVariable (column 1) (codes "'a") ∷ node.TypeArrow (column 1) 0 1
    ∷ name_pattern (codes "x") ∷ variable (codes "g") ∷ node.Fun (column 1) (3 ∷ []) 4
    ∷ name_pattern (codes "x") ∷ node.TypeAny (column 1) ∷ integer (codes "1") ∷ [])
    (item.Let (column 1) true
    (bindings.Named (name (codes "f")) [] (Some 2) 5 ∷ bindings.Named (name (codes "g")) (6 ∷ []) (Some 7) 8 ∷ []) ∷ []))
    ≡ DefineRec
    (AndFunction 31 (Some (Applied function_type (AndType int (AndType (Variable 1) NoTypes)))) 18 (Var 49)
    (AndFunction 49 None 36 (Annot (number 1) Any) NoFunctions)) ∷ []
example_types_of_functions = refl

-- type t = { f : int } let r = { f = 1 };; r.f
example_record :
    items_of (meant (int_node ∷ integer (codes "1") ∷ node.Record (column 1) (record { name = name (codes "f"); part = 1 } ∷ [])
    ∷ variable (codes "r") ∷ node.Field 3 (name (codes "f")) ∷ [])
    (item.Types (column 1) (record {
      parameters = [];
      name = name (codes "t");
      body = body.Record (record { is_mutable = false; name = name (codes "f"); annotation = 0 } ∷ []);
    } ∷ [])
    ∷ item.Let (column 1) false (define (codes "r") 2 ∷ []) ∷ item.Expression (column 1) 4 ∷ []))
    ≡ Define 13 (Record (0 ∷ []) (one (number 1))) ∷ Evaluate (Field 0 (Var 13)) ∷ []
example_record = refl

-- the literals of a program: ("a", "b")
abbrev literals_of : Result Program Place → List (List ℕ)
literals_of (Ok p) = p.literals
literals_of (Err place) = []

abbrev strings : Result Program Place
strings =
    meant (string (codes "\"a\"") ∷ string (codes "\"b\"") ∷ node.Tuple (column 1) (0 ∷ 1 ∷ []) ∷ []) (item.Expression (column 1) 2 ∷ [])

example_literals : literals_of strings ≡ codes "a" ∷ codes "b" ∷ []
example_literals = refl

example_literal_numbers : items_of strings ≡ Evaluate (Tuple (two (Const (Literal 0)) (Const (Literal 1)))) ∷ []
example_literal_numbers = refl
