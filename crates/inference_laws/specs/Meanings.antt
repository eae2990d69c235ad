-- What the types of a state stand for in the program that is walked over.
use Rattle.std.specs.Prelude.{◌≡◌, ℕ, ◌+◌, ◌<◌, Option, Some, None, true}
use Rattle.std.specs.List.{AllByRecursion}
use Rattle.effect_meaning.specs.Arena.{Parts}
use Rattle.effect_meaning.specs.ArenaTrees.{program, type_at, types_of}
use Rattle.effect_meaning.specs.Terms.{Written, Variable, Any, Applied, Writtens, NoTypes, AndType}
use Rattle.type_terms.specs.TypeTrees.{Ty}
use Rattle.type_terms.specs.WrittenTypes.{Means}
use Rattle.type_readings.specs.Readings.{Reads}
use Rattle.ml_infer.specs.declared.inference.Inference.{Inference}
use Rattle.ml_infer.specs.declared.inference.KnownVariable.{KnownVariable}
use Rattle.ml_infer.specs.declared.inference.Read.{Read}
use Rattle.ml_infer.specs.declared.written.Variables.{Variables}
use Rattle.ml_infer.specs.declared.written.Variables.TheVariants as variables
use Rattle.ml_infer.specs.Constructors.{parameter_count}
use Rattle.ml_infer.specs.Known.{known}
use Rattle.inference_laws.specs.Whole.{HasRoom}

-- type variables stand for these trees as far as they are known in the item at hand
abbrev pub VariablesAgree : (f variables : ℕ → Ty) → Inference → Type 0
VariablesAgree f vs s = (v : ℕ) (k : KnownVariable) → known s.variables v ≡ Some k → k.item ≡ s.item → vs v ≡ f k.found

-- so do those of the item, or the parameters of a declaration
abbrev pub StandFor : (f variables : ℕ → Ty) → Inference → Variables → Type 0
StandFor f vs s variables.OfItem = VariablesAgree f vs s
StandFor f vs s (variables.Parameters first count) = (v : ℕ) → v < count → vs v ≡ f (first + v)

-- what is known of a type variable of the item is known later
abbrev pub VariablesStay : (s later : Inference) → Type 0
VariablesStay s later =
    (v : ℕ) (k : KnownVariable) → known s.variables v ≡ Some k → k.item ≡ s.item → known later.variables v ≡ Some k

-- written types without variables mean what they were read as, whatever reads the graph
abbrev pub ReadsAreMeant : Parts → Inference → Type 0
ReadsAreMeant p s =
    (f : ℕ → Ty) → Reads f s.types → (n : ℕ) (r : Read) → known s.read n ≡ Some r → r.is_closed ≡ true
    → (vs : ℕ → Ty) → Means (program p).types vs (type_at (types_of p) n) (f r.found)

-- the one state differs from the other in its types and in what is known of written types and of type variables, at most
pub record SameRest (s t : Inference) : Type 0 where
  pub same_tasks : t.tasks ≡ s.tasks
  pub same_given : t.given ≡ s.given
  pub same_names : t.names ≡ s.names
  pub same_item : t.item ≡ s.item
  pub same_pattern : t.pattern ≡ s.pattern

-- the one state leads to the other, and what was known of type variables and of written types is known there
pub record LeadsTo (p : Parts) (s t : Inference) : Type 0 where
  pub rest : SameRest s t
  pub stay : VariablesStay s t
  pub meant : HasRoom t.types → t.end ≡ None → ReadsAreMeant p s → ReadsAreMeant p t

-- the type variables in a written type are below so many
abbrev mutual
  pub IsBelow : ℕ → Written → Type 0
  IsBelow count (Variable v) = v < count
  IsBelow count Any = Unit {0}
  IsBelow count (Applied t ws) = AreBelow count ws

  pub AreBelow : ℕ → Writtens → Type 0
  AreBelow count NoTypes = Unit {0}
  AreBelow count (AndType w ws) = IsBelow count w × AreBelow count ws

-- so they are where the variables stand for the parameters of a declaration
abbrev pub AreBelowThese : Variables → Written → Type 0
AreBelowThese variables.OfItem w = Unit {0}
AreBelowThese (variables.Parameters first count) w = IsBelow count w

-- likewise, where a type is written
abbrev pub BelowIfAny : Parts → ℕ → Option ℕ → Type 0
BelowIfAny p count None = Unit {0}
BelowIfAny p count (Some w) = IsBelow count (type_at (types_of p) w)

-- the type variables of each declaration are its parameters
pub record RowsAreBelow (p : Parts) : Type 0 where
  pub variants : AllByRecursion (λ r. BelowIfAny p (parameter_count p r.of_type) r.argument) p.variant_rows
  pub fields : AllByRecursion (λ r. IsBelow (parameter_count p r.of_type) (type_at (types_of p) r.annotation)) p.field_rows
  pub exceptions : AllByRecursion (λ r. BelowIfAny p 0 r.argument) p.exception_rows
  pub effects : AllByRecursion (λ r. BelowIfAny p 0 r.argument × IsBelow 0 (type_at (types_of p) r.result)) p.effect_rows
