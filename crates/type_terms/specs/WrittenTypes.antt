-- What a written type means, and what is asked of the types in declarations.
use Rattle.std.specs.Prelude.{◌≡◌, ℕ, ◌⊎◌, List, [], ◌∷◌, Option, Some, None, option_map, slice_get}
use Rattle.effect_meaning.specs.Terms.{Written, Variable, Any, Applied, Writtens, NoTypes, AndType, TypeRow, EffectRow, Program}
use Rattle.effect_meaning.specs.Builtins.{effect_type, tuple_type}
use Rattle.type_terms.specs.TypeTrees.{Ty, Constructed, Tys, NoTys, AndTy, count, effect}

-- it holds of each element
abbrev pub Every : {X : Type 0} → (X → Type 0) → List X → Type 0
Every P [] = Unit {0}
Every P (x ∷ xs) = P x × Every P xs

-- the number of parameters of a type constructor
abbrev pub parameters_of : List TypeRow → ℕ → Option ℕ
parameters_of rows type = option_map (λ r. r.parameters) (slice_get rows type)

-- a type constructor has its number of arguments; the tuple has any number
abbrev pub HasArguments : List TypeRow → ℕ → Tys → Type 0
HasArguments rows type ts = (type ≡ tuple_type) ⊎ (parameters_of rows type ≡ Some (count ts))

-- a written type can mean this type, where each type variable stands for one type and each blank for any
abbrev mutual
  pub Means : List TypeRow → (ℕ → Ty) → Written → Ty → Type 0
  Means rows variables (Variable v) t = t ≡ variables v
  Means rows variables Any t = Unit {0}
  Means rows variables (Applied type ws) t =
      (ts : Tys) × (t ≡ Constructed type ts) × HasArguments rows type ts × AllMean rows variables ws ts

  pub AllMean : List TypeRow → (ℕ → Ty) → Writtens → Tys → Type 0
  AllMean rows variables NoTypes ts = ts ≡ NoTys
  AllMean rows variables (AndType w ws) ts =
      (u : Ty) × (us : Tys) × (ts ≡ AndTy u us) × Means rows variables w u × AllMean rows variables ws us

-- the same where the text may give a type, or none
abbrev pub IfWritten : List TypeRow → (ℕ → Ty) → Option Written → Ty → Type 0
IfWritten rows variables None t = Unit {0}
IfWritten rows variables (Some w) t = Means rows variables w t

-- a written type is a type: each type constructor in it has its number of arguments
abbrev pub IsType : List TypeRow → Written → Type 0
IsType rows w = (variables : ℕ → Ty) × (t : Ty) × Means rows variables w t

-- the same where a type is written
abbrev pub IsTypeIfWritten : List TypeRow → Option Written → Type 0
IsTypeIfWritten rows None = Unit {0}
IsTypeIfWritten rows (Some w) = IsType rows w

-- the type of an effect is some type's Effect.t
abbrev pub EffectDeclared : List TypeRow → EffectRow → Type 0
EffectDeclared rows r = IsTypeIfWritten rows r.argument × (variables : ℕ → Ty) × (t : Ty) × Means rows variables r.result (effect t)

-- what the declarations of a program write are types, and only Effect.t is extended
pub record Declared (p : Program) : Type 0 where
  pub variants : Every (λ r. IsTypeIfWritten p.types r.argument) p.variants
  pub fields : Every (λ r. IsType p.types r.type) p.fields
  pub exceptions : Every (λ r. IsTypeIfWritten p.types r.argument) p.exceptions
  pub effects : Every (EffectDeclared p.types) p.effects
  pub extended : Every (λ type. type ≡ effect_type) p.extended
