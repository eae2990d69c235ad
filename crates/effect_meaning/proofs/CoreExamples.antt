-- Small programs as arenas: the trees that they stand for, and the rules that they keep or break.
use Rattle.std.proofs.Common.{◌≡◌, refl, ℕ, ◌^◌, pos, neg_ℤ, ◌-ℤ◌, ◌++◌, true, false, List, [], ◌∷◌, Option, Some, None, codes, replicate, arith}
use Rattle.effect_meaning.specs.Terms.{ConstPat, Integer, UnitConst, Add, Mul, PrintInt, Term, Const, Prim, NoTerms, AndTerm, Destructure}
use Rattle.fx_base.specs.declared.refusal.Place.{Place as PlaceOf}
use Rattle.effect_meaning.specs.declared.core_nodes.TypeExpression.{TypeExpression}
use Rattle.effect_meaning.specs.declared.core_nodes.TypeExpression.TheVariants as type
use Rattle.effect_meaning.specs.declared.core_nodes.Constant.TheVariants as constant
use Rattle.effect_meaning.specs.declared.core_nodes.Constructor.TheVariants as constructor
use Rattle.effect_meaning.specs.declared.core_nodes.Operation.TheVariants as operation
use Rattle.effect_meaning.specs.declared.core_nodes.PatternNode.{PatternNode}
use Rattle.effect_meaning.specs.declared.core_nodes.PatternForm.{PatternForm}
use Rattle.effect_meaning.specs.declared.core_nodes.PatternForm.TheVariants as pattern
use Rattle.effect_meaning.specs.declared.core_nodes.TermNode.{TermNode}
use Rattle.effect_meaning.specs.declared.core_nodes.TermForm.{TermForm}
use Rattle.effect_meaning.specs.declared.core_nodes.TermForm.TheVariants as term
use Rattle.effect_meaning.specs.declared.core_tables.TypeRow.{TypeRow}
use Rattle.effect_meaning.specs.declared.core_tables.VariantRow.{VariantRow}
use Rattle.effect_meaning.specs.declared.core_tables.FieldRow.{FieldRow}
use Rattle.effect_meaning.specs.declared.core_tables.Item.{Item as ItemOf}
use Rattle.effect_meaning.specs.declared.core_tables.ItemForm.{ItemForm}
use Rattle.effect_meaning.specs.declared.core_tables.ItemForm.TheVariants as item
use Rattle.effect_meaning.specs.Arena.{Parts, empty_parts, IsInteger}
use Rattle.effect_meaning.specs.ArenaTrees.{program}
use Rattle.effect_meaning.specs.Scoped.{names_scoped, effects_typed}

abbrev here : PlaceOf
here = record { line = 1; column = 1 }

abbrev terms : List TermForm → List TermNode
terms [] = []
terms (t ∷ ts) = record { place = here; form = t } ∷ terms ts

abbrev patterns : List PatternForm → List PatternNode
patterns [] = []
patterns (q ∷ qs) = record { place = here; form = q } ∷ patterns qs

abbrev items : List ItemForm → List ItemOf
items [] = []
items (i ∷ is) = record { place = here; form = i } ∷ items is

abbrev integer : ℕ → TermForm
integer n = term.Constant (constant.Integer (pos n))

-- patterns, terms and items without tables
abbrev plain : List PatternForm → List TermForm → List ItemForm → Parts
plain qs ts is = record (empty_parts []) { patterns = patterns qs; terms = terms ts; items = items is }

-- let () = print_int (6 * (3 + 4))
abbrev product : Parts
product = plain
    (pattern.Constant constant.Unit ∷ [])
    (integer 6 ∷ integer 3 ∷ integer 4 ∷ term.Primitive operation.Add (1 ∷ 2 ∷ [])
    ∷ term.Primitive operation.Multiply (0 ∷ 3 ∷ []) ∷ term.Primitive operation.PrintInteger (4 ∷ []) ∷ [])
    (item.Destructure 0 5 ∷ [])

abbrev number : ℕ → Term
number n = Const (Integer (pos n))

abbrev sum : Term
sum = Prim Add (AndTerm (number 3) (AndTerm (number 4) NoTerms))

product_gives : (program product).items
    ≡ Destructure (record { line = 1; column = 1 }) (ConstPat UnitConst)
    (Prim PrintInt (AndTerm (Prim Mul (AndTerm (number 6) (AndTerm sum NoTerms))) NoTerms)) ∷ []
product_gives = refl

product_scoped : names_scoped product ≡ true
product_scoped = refl

-- print_int x, where no x is in scope
unbound_refused : names_scoped (plain [] (term.Name 0 ∷ term.Primitive operation.PrintInteger (0 ∷ []) ∷ []) (item.Evaluate 1 ∷ [])) ≡ false
unbound_refused = refl

-- let x = 1, and then print_int x
bound_scoped :
    names_scoped (plain [] (integer 1 ∷ term.Name 0 ∷ term.Primitive operation.PrintInteger (1 ∷ []) ∷ []) (item.Define 0 0 ∷ item.Evaluate 2 ∷ []))
    ≡ true
bound_scoped = refl

-- let x = x
early_refused : names_scoped (plain [] (term.Name 0 ∷ []) (item.Define 0 0 ∷ [])) ≡ false
early_refused = refl

-- fun (x, x) -> 1, whose match binds a name twice
abbrev with_pattern : List PatternForm → ℕ → Parts
with_pattern qs q = plain qs (integer 1 ∷ integer 2 ∷ []) (item.Destructure q 0 ∷ item.Evaluate 1 ∷ [])

twice_refused : names_scoped (with_pattern (pattern.Name 0 ∷ pattern.Name 0 ∷ pattern.Tuple (0 ∷ 1 ∷ []) ∷ []) 2) ≡ false
twice_refused = refl

once_scoped : names_scoped (with_pattern (pattern.Name 0 ∷ pattern.Name 1 ∷ pattern.Tuple (0 ∷ 1 ∷ []) ∷ []) 2) ≡ true
once_scoped = refl

-- (x, _) | (_, y) and (x, _) | (_, x)
sides_refused :
    names_scoped (with_pattern
    (pattern.Name 0 ∷ pattern.Any ∷ pattern.Name 1 ∷ pattern.Tuple (0 ∷ 1 ∷ []) ∷ pattern.Tuple (1 ∷ 2 ∷ []) ∷ pattern.Or 3 4 ∷ []) 5) ≡ false
sides_refused = refl

sides_scoped :
    names_scoped (with_pattern
    (pattern.Name 0 ∷ pattern.Any ∷ pattern.Tuple (0 ∷ 1 ∷ []) ∷ pattern.Tuple (1 ∷ 0 ∷ []) ∷ pattern.Or 2 3 ∷ []) 4) ≡ true
sides_scoped = refl

-- let x = 1, and then let x = 2 of the same number: it would hide the first
hiding_refused : names_scoped (plain [] (integer 1 ∷ integer 2 ∷ []) (item.Define 0 0 ∷ item.Define 0 1 ∷ [])) ≡ false
hiding_refused = refl

-- 4611686018427387904 is out of range
above_range : IsInteger (pos (2 ^ 62)) → ⊥
above_range h = omega (arith, h.1)

below_range : IsInteger (neg_ℤ (pos (2 ^ 62)) -ℤ pos 1) → ⊥
below_range h = omega (arith, h.0)

least_in_range : IsInteger (neg_ℤ (pos (2 ^ 62)))
least_in_range = (omega arith, omega arith)

-- rows that stand for the built-in ones
abbrev type_row : List ℕ → List (List ℕ) → TypeRow
type_row name parameters = record { place = here; name = name; parameters = parameters }

abbrev variant_row : List ℕ → ℕ → Option ℕ → VariantRow
variant_row name of_type argument = record { place = here; name = name; of_type = of_type; argument = argument }

abbrev field_row : List ℕ → ℕ → ℕ → ℕ → FieldRow
field_row name of_type index annotation =
    record { place = here; name = name; of_type = of_type; index = index; is_mutable = false; annotation = annotation }

-- one type after the built-in ones: its parameters, the written types, its constructors and its fields
abbrev one_type : List (List ℕ) → List TypeExpression → List VariantRow → List FieldRow → Parts
one_type parameters types variants fields = record (empty_parts []) {
  types = types;
  type_rows = replicate 17 (type_row [] []) ++ type_row (codes "t") parameters ∷ [];
  variant_rows = replicate 4 (variant_row [] 6 None) ++ variants;
  field_rows = fields;
  items = items (item.Types (17 ∷ []) ∷ []);
}

-- type 'a t = A of 'a | B
variants_scoped :
    names_scoped (one_type (codes "a" ∷ []) (type.Variable 0 ∷ []) (variant_row (codes "A") 17 (Some 0) ∷ variant_row (codes "B") 17 None ∷ []) []) ≡ true
variants_scoped = refl

-- type t = A | A
constructors_refused :
    names_scoped (one_type [] [] (variant_row (codes "A") 17 None ∷ variant_row (codes "A") 17 None ∷ []) []) ≡ false
constructors_refused = refl

-- type t = A of 'a
variable_refused : names_scoped (one_type [] (type.Variable 0 ∷ []) (variant_row (codes "A") 17 (Some 0) ∷ []) []) ≡ false
variable_refused = refl

-- type ('a, 'a) t = A
parameters_refused : names_scoped (one_type (codes "a" ∷ codes "a" ∷ []) [] (variant_row (codes "A") 17 None ∷ []) []) ≡ false
parameters_refused = refl

-- type t = { x : int; y : t } and type t = { x : int; x : int }
fields_scoped :
    names_scoped (one_type [] (type.Applied 0 [] ∷ type.Applied 17 [] ∷ []) [] (field_row (codes "x") 17 0 0 ∷ field_row (codes "y") 17 1 1 ∷ [])) ≡ true
fields_scoped = refl

fields_refused :
    names_scoped (one_type [] (type.Applied 0 [] ∷ []) [] (field_row (codes "x") 17 0 0 ∷ field_row (codes "x") 17 1 0 ∷ [])) ≡ false
fields_refused = refl

-- a type that no item has declared
type_refused : names_scoped (one_type [] (type.Applied 18 [] ∷ []) (variant_row (codes "A") 17 (Some 0) ∷ []) []) ≡ false
type_refused = refl

-- effects whose own type is the last of these types, and whose argument's is the first
abbrev one_effect : List TypeExpression → ℕ → Parts
one_effect types result = record (empty_parts []) {
  types = types;
  effect_rows = record { place = here; name = codes "E"; argument = Some 0; result = result } ∷ [];
  items = items (item.Effects 10 (0 ∷ []) ∷ []);
}

-- type _ Effect.t += E : int -> int Effect.t
effect_typed_well : effects_typed (one_effect (type.Applied 0 [] ∷ type.Applied 10 (0 ∷ []) ∷ []) 1) ≡ true
effect_typed_well = refl

-- type _ Effect.t += E : int -> int
application_refused : effects_typed (one_effect (type.Applied 0 [] ∷ []) 0) ≡ false
application_refused = refl

-- type _ Effect.t += E : 'a -> int Effect.t and type _ Effect.t += E : int -> _ Effect.t
effect_variable_refused : effects_typed (one_effect (type.Variable 0 ∷ type.Applied 0 [] ∷ type.Applied 10 (1 ∷ []) ∷ []) 2) ≡ false
effect_variable_refused = refl

effect_blank_refused : effects_typed (one_effect (type.Applied 0 [] ∷ type.Any ∷ type.Applied 10 (1 ∷ []) ∷ []) 2) ≡ false
effect_blank_refused = refl

-- perform E, where E is declared and where it is not
abbrev performing : List ItemForm → Parts
performing declared = record (one_effect (type.Applied 0 [] ∷ type.Applied 10 (0 ∷ []) ∷ []) 1) {
  terms = terms (integer 1 ∷ term.Construct (constructor.Effect 0) 0 ∷ term.Primitive operation.Perform (1 ∷ []) ∷ []);
  items = items (declared ++ item.Evaluate 2 ∷ []);
}

effect_scoped : names_scoped (performing (item.Effects 10 (0 ∷ []) ∷ [])) ≡ true
effect_scoped = refl

effect_refused : names_scoped (performing []) ≡ false
effect_refused = refl
