-- What holds where a term or a pattern stands, and what it leaves behind.
use Rattle.std.proofs.Common.{◌≡◌, ℕ, ◌<◌, List, ◌∷◌, ◌++◌, length, map, Option, Some, None, false}
use Rattle.std.specs.Prelude.{IsTrue}
use Rattle.std.specs.List.{AllByRecursion}
use Rattle.effect_meaning.specs.Arena.{Parts}
use Rattle.effect_meaning.specs.ArenaTrees.{fields_of, program}
use Rattle.effect_meaning.specs.Scoped.{Scope, holds, names_in}
use Rattle.effect_meaning.specs.Terms.{Pattern, Term}
use Rattle.type_terms.specs.TypeTrees.{Ty}
use Rattle.type_terms.specs.Contexts.{Names, Context}
use Rattle.type_terms.specs.PatternTypes.{PatternHas}
use Rattle.type_terms.specs.Typing.{HasType}
use Rattle.type_readings.specs.Readings.{Reads}
use Rattle.type_readings.specs.WellFormed.{IsOuterOr}
use Rattle.ml_infer.specs.declared.inference.Inference.{Inference}
use Rattle.ml_infer.specs.declared.inference.NameType.{NameType}
use Rattle.ml_infer.specs.declared.inference.NameType.TheVariants.{One, Generalised}
use Rattle.ml_infer.specs.Known.{known}
use Rattle.ml_infer.specs.Members.{count_of}
use Rattle.inference_laws.specs.Whole.{HasRoom}
use Rattle.inference_laws.specs.Meanings.{VariablesAgree, VariablesStay, ReadsAreMeant}
use Rattle.inference_laws.proofs.Kept.{Kept, Has}

-- the top-level names of a program: the types that their uses may have, the names, and the types of those that aren't generalised
pub record Tops : Type 1 where
  pub uses : ℕ → Ty → Type 0
  pub names : List ℕ
  pub outers : List ℕ

-- a term behind these top-level names and these local ones, with these type variables
abbrev pub standing : Parts → Tops → Names → (ℕ → Ty) → Context
standing p tops names vs = record { program = program p; tops = tops.uses; variables = vs; names = names }

-- a local name has one type, with this tree
abbrev pub NameAgrees : (ℕ → Ty) → Inference → (ℕ × Ty) → Type 0
NameAgrees f s n = (v : ℕ) × (q : ℕ) × (known s.names n.0 ≡ Some (One v q)) × (f v ≡ n.1)

abbrev pub NamesAgree : (ℕ → Ty) → Inference → Names → Type 0
NamesAgree f s names = AllByRecursion (NameAgrees f s) names

-- what is known of a top-level name gives types that its uses may have: its own, or, if it is generalised, whatever reads its type and
-- the same of those that aren't
abbrev pub TopIs : (ℕ → Ty) → Inference → Tops → ℕ → Option NameType → Type 0
TopIs f s tops x None = ⊥
TopIs f s tops x (Some (One v q)) = tops.uses x (f v)
TopIs f s tops x (Some (Generalised v)) =
    (k : ℕ → Ty) → Reads k s.types → AllByRecursion (λ m. k m ≡ f m) tops.outers → tops.uses x (k v)

-- the names in scope
abbrev pub names_of : Names → List ℕ
names_of names = map (λ n. n.0) names

abbrev pub scope_of : Tops → Names → List ℕ
scope_of tops names = names_of names ++ tops.names

-- a scope has just these names
abbrev pub HasScope : Scope → Tops → Names → Type 0
HasScope sc tops names = (x : ℕ) → holds sc.names x ≡ holds (scope_of tops names) x

-- a state counts the fields of each type as they are
abbrev pub FieldsAreCounted : Parts → Inference → Type 0
FieldsAreCounted p s = (t : ℕ) → t < length p.type_rows → count_of s.fields t ≡ length (fields_of p t)

-- what holds of a state where a term stands in this scope
pub record Ground (p : Parts) (f : ℕ → Ty) (tops : Tops) (s : Inference) (names : Names) : Type 0 where
  pub here : Kept s s
  pub meant : HasRoom s.types → ReadsAreMeant p s
  pub counted : FieldsAreCounted p s
  pub locals : NamesAgree f s names
  pub globals : (x : ℕ) → IsTrue (holds tops.names x) → TopIs f s tops x (known s.names x)
  pub outers : HasRoom s.types → AllByRecursion (λ m. (m < length s.types.nodes) × IsOuterOr s.types s.types.given m) tops.outers

-- a state behind another one, where nothing else is known of these names
pub record Follows (p : Parts) (scope : List ℕ) (s e : Inference) : Type 0 where
  pub kept : Kept s e
  pub item : e.item ≡ s.item
  pub stay : VariablesStay s e
  pub meant : HasRoom e.types → e.end ≡ None → ReadsAreMeant p s → ReadsAreMeant p e
  pub same : (x : ℕ) → IsTrue (holds scope x) → known e.names x ≡ known s.names x

-- what is known of the end of a part of a walk: there is room, the walk goes on, and this reads its types
pub record Ending (f : ℕ → Ty) (e : Inference) : Type 0 where
  pub room : HasRoom e.types
  pub on : e.end ≡ None
  pub reads : Reads f e.types

-- a term is done: it gave a type, which it has, if the type variables are as they are known
pub record TermDone (p : Parts) (f : ℕ → Ty) (tops : Tops) (names : Names) (vs : ℕ → Ty) (a : Term) (s e : Inference) : Type 0 where
  pub value : ℕ
  pub gives : e.given ≡ value ∷ s.given
  pub there : Has e value
  pub follows : Follows p (scope_of tops names) s e
  pub typed : VariablesAgree f vs e → HasType (standing p tops names vs) a (f value)

-- tasks are done that give nothing
pub record Asked (p : Parts) (tops : Tops) (names : Names) (s e : Inference) : Type 0 where
  pub gives : e.given ≡ s.given
  pub follows : Follows p (scope_of tops names) s e

-- a name that a pattern binds has one type, with this tree, by the pattern at hand
abbrev pub IsBound : (ℕ → Ty) → Inference → (ℕ × Ty) → Type 0
IsBound f s n = (v : ℕ) × (known s.names n.0 ≡ Some (One v s.pattern)) × (f v ≡ n.1)

-- a state behind a pattern: of names that it doesn't bind, or that the pattern at hand has bound, nothing else is known
pub record BindsIn (p : Parts) (q : Pattern) (s e : Inference) : Type 0 where
  pub kept : Kept s e
  pub item : e.item ≡ s.item
  pub stay : VariablesStay s e
  pub meant : HasRoom e.types → e.end ≡ None → ReadsAreMeant p s → ReadsAreMeant p e
  pub pattern : e.pattern ≡ s.pattern
  pub others : (x : ℕ) → holds (names_in q) x ≡ false → known e.names x ≡ known s.names x
  pub bound_before : (x v : ℕ) → known s.names x ≡ Some (One v s.pattern) → known e.names x ≡ known s.names x

-- a pattern of a type is done: it bound names, and gave nothing
pub record PatternIsDone (p : Parts) (f : ℕ → Ty) (c : Context) (q : Pattern) (t : ℕ) (s e : Inference) : Type 0 where
  pub names : Names
  pub gives : e.given ≡ s.given
  pub binds : BindsIn p q s e
  pub typed : PatternHas c q (f t) names
  pub bound : AllByRecursion (IsBound f e) names
  pub keys : (x : ℕ) → holds (names_of names) x ≡ holds (names_in q) x
