-- New types for the parameters of a type, and the type with these.
use Rattle.std.proofs.Common.{◌≡◌, ℕ, zero, suc, ◌+◌, ◌<◌, List, [], ◌∷◌, length, Option, Some, None, option_map, false, refl, sym, ◌∙◌, ap, subst, arith, length-append, slice_get, inr}
use Rattle.effect_meaning.specs.declared.core_tables.TypeRow.{TypeRow}
use Rattle.effect_meaning.specs.Arena.{Parts}
use Rattle.effect_meaning.specs.ArenaTrees.{program}
use Rattle.type_terms.specs.TypeTrees.{Ty, Constructed, Tys, count, type_at}
use Rattle.type_terms.specs.WrittenTypes.{HasArguments}
use Rattle.type_readings.specs.Readings.{Reads, trees_of}
use Rattle.ml_infer.specs.declared.constructors.Instance.{Instance}
use Rattle.ml_infer.specs.declared.inference.Inference.{Inference}
use Rattle.ml_infer.specs.Constructors.{first_or_zero, instance, new_variables, parameter_count}
use Rattle.ml_infer.specs.Inference.{new_variable}
use Rattle.inference_laws.specs.Whole.{HasRoom}
use Rattle.inference_laws.specs.Meanings.{StandFor, LeadsTo}
use Rattle.inference_laws.proofs.Kept.{Kept, kept_here, room_before}
use Rattle.inference_laws.proofs.GraphLaws.{GraphLaws}
use Rattle.inference_laws.proofs.Steps.{inner_made, variable_made}
use Rattle.inference_laws.proofs.Constructors.{variables_made}
use Rattle.inference_laws.proofs.Trees.{got_there}
use Rattle.inference_laws.proofs.Leading.{leads_here, leads_on, type_is_read, type_leads, variable_leads}
use Rattle.inference_laws.proofs.Tables.{type_row_is}

-- so many numbers from one on
abbrev pub from_on : (first count : ℕ) → List ℕ
from_on first zero = []
from_on first (suc count) = first ∷ from_on (suc first) count

-- new variables are the types from the end on
pub new_numbers : (many : ℕ) (s : Inference) → (new_variables many s).value ≡ from_on (length s.types.nodes) many
unfolding new_variables
new_numbers zero s = refl
new_numbers (suc many) s =
    let long : length (new_variable s).state.types.nodes ≡ suc (length s.types.nodes) =
    length-append s.types.nodes _ ∙ omega arith in
    ap (λ (ns : List ℕ). length s.types.nodes ∷ ns)
    (new_numbers many (new_variable s).state ∙ ap (λ first. from_on first many) long)

pub many_numbers : (first many : ℕ) → length (from_on first many) ≡ many
many_numbers first zero = refl
many_numbers first (suc many) = ap suc (many_numbers (suc first) many)

module _ (f : ℕ → Ty) where
  -- how many trees there are
  pub count_trees : (ns : List ℕ) → count (trees_of f ns) ≡ length ns
  count_trees [] = refl
  count_trees (n ∷ ns) = ap suc (count_trees ns)

  -- the trees of numbers from one on, one by one
  tree_from : (many first v : ℕ) → v < many → type_at (trees_of f (from_on first many)) v ≡ f (first + v)
  tree_from zero first v low = absurd (omega arith)
  tree_from (suc many) first zero low = let same : first ≡ first + 0 = omega arith in ap f same
  tree_from (suc many) first (suc v) low =
      let same : suc first + v ≡ first + suc v = omega arith in tree_from many (suc first) v (omega arith) ∙ ap f same

  first_from : (many first v : ℕ) → v < many → first_or_zero (from_on first many) ≡ first
  first_from zero first v low = absurd (omega arith)
  first_from (suc many) first v low = refl

  pub trees_from :
      (many first : ℕ) (ns : List ℕ) → ns ≡ from_on first many → (v : ℕ) → v < many
      → type_at (trees_of f ns) v ≡ f (first_or_zero ns + v)
  trees_from many first ns is v low =
      let P : List ℕ → Type 0 = λ xs. type_at (trees_of f xs) v ≡ f (first_or_zero xs + v) in
      subst P (sym is) (tree_from many first v low ∙ ap (λ k. f (k + v)) (sym (first_from many first v low)))

-- a type constructor with as many arguments as its type has parameters
pub has_arguments :
    (p : Parts) (t : ℕ) (row : TypeRow) → slice_get p.type_rows t ≡ Some row → (ts : Tys) → count ts ≡ length row.parameters
    → HasArguments (program p).types t ts
has_arguments p t row is ts many =
    inr (ap (option_map (λ r. r.parameters)) (type_row_is p t row is) ∙ ap Some (sym many))

module _ (l : GraphLaws) (p : Parts) where
  pub variables_lead : (many : ℕ) (s0 s : Inference) → Kept s0 s → LeadsTo p s (new_variables many s).state
  unfolding new_variables
  variables_lead zero s0 s kept = leads_here p s
  variables_lead (suc many) s0 s kept =
      let v = new_variable s in
      let made = variable_made l s0 s kept in
      leads_on p s v.state (new_variables many v.state).state
      (variables_made l many v.state v.state (kept_here s0 v.state made)).kept
      (variable_leads l s0 s kept p) (variables_lead many s0 v.state made)

-- what an instance of a type is read as: the type with arguments, for which its variables stand
pub record InstanceIs (p : Parts) (t : ℕ) (f : ℕ → Ty) (i : Instance) : Type 0 where
  pub arguments : Tys
  pub is : f i.value ≡ Constructed t arguments
  pub has : HasArguments (program p).types t arguments
  pub stand : (s : Inference) → StandFor f (type_at arguments) s i.variables

module _ (l : GraphLaws) (p : Parts) (s0 s : Inference) (kept : Kept s0 s) (t : ℕ) where
  pub instance_leads : LeadsTo p s (instance p t s).state
  instance_leads =
      let many = parameter_count p t in
      let r = new_variables many s in
      let k = variables_made l many s0 s kept in
      let here = kept_here s0 r.state k.kept in
      leads_on p s r.state (instance p t s).state (inner_made l r.state r.state t r.value here k.there)
      (variables_lead l p many s0 s kept)
      (type_leads l s0 r.state k.kept t r.value p k.there)

  instance_of :
      (row : TypeRow) → slice_get p.type_rows t ≡ Some row → (f : ℕ → Ty) → HasRoom (instance p t s).state.types
      → Reads f (instance p t s).state.types → InstanceIs p t f (instance p t s).value
  instance_of row row_is f room reads =
      let many = parameter_count p t in
      let r = new_variables many s in
      let k = variables_made l many s0 s kept in
      let here = kept_here s0 r.state k.kept in
      let before = room_before r.state (instance p t s).state (inner_made l r.state r.state t r.value here k.there) room in
      let numbers = new_numbers many s in
      let parameters : many ≡ length row.parameters =
      ap (λ (o : Option TypeRow). elim o [ None ↦ 0 | Some row ↦ length row.parameters ]) row_is in
      let long : length r.value ≡ many = ap (λ (ns : List ℕ). length ns) numbers ∙ many_numbers (length s.types.nodes) many in
      record {
        arguments = trees_of f r.value;
        is = type_is_read l s0 r.state k.kept t r.value false f before reads;
        has = has_arguments p t row row_is (trees_of f r.value) (count_trees f r.value ∙ long ∙ parameters);
        stand = λ later v low. trees_from f many (length s.types.nodes) r.value numbers v low;
      }

  pub instance_is :
      t < length p.type_rows → (f : ℕ → Ty) → HasRoom (instance p t s).state.types → Reads f (instance p t s).state.types
      → InstanceIs p t f (instance p t s).value
  instance_is low f room reads = let got = got_there p.type_rows t low in instance_of got.0 got.1 f room reads
