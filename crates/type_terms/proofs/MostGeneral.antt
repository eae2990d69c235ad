-- A most general solution decides for all.
use Rattle.std.proofs.Common.{◌≡◌, refl, sym, ap, subst, ◌∙◌, arith, ℕ, ◌≤◌, List, [], ◌∷◌, map}
use Rattle.type_terms.specs.declared.base_type.BaseTy.{BaseTy}
use Rattle.type_terms.specs.declared.base_type.BaseTy.TheVariants as base
use Rattle.type_terms.specs.TypeTrees.{Ty, TypeVariable, Constructed, Tys, NoTys, AndTy, size, size_of_all, instance_of, instances_of, base_ty, IsBase}
use Rattle.type_terms.specs.WrittenTypes.{Every}
use Rattle.type_terms.specs.Laws.{DecidesComparisons, ComparesAlike, DecidesSize}

-- a type has a node, and an instance of it no fewer nodes than it
has_node : (t : Ty) → 1 ≤ size t
has_node (TypeVariable v) = omega arith
has_node (Constructed type ts) = omega arith

mutual
  pub grows : (f : ℕ → Ty) (t : Ty) → size t ≤ size (instance_of f t)
  grows f (TypeVariable v) = has_node (f v)
  grows f (Constructed type ts) = omega (arith, all_grow f ts)

  pub all_grow : (f : ℕ → Ty) (ts : Tys) → size_of_all ts ≤ size_of_all (instances_of f ts)
  all_grow f NoTys = omega arith
  all_grow f (AndTy t ts) = omega (arith, grows f t, all_grow f ts)

-- each of the five types is its own instance
base_is_closed : (f : ℕ → Ty) (b : BaseTy) → instance_of f (base_ty b) ≡ base_ty b
base_is_closed f base.Int = refl
base_is_closed f base.Bool = refl
base_is_closed f base.Char = refl
base_is_closed f base.Unit = refl
base_is_closed f base.Str = refl

bases_stay : (f : ℕ → Ty) (ts : List Ty) → Every IsBase ts → map (instance_of f) ts ≡ ts
bases_stay f [] h = refl
bases_stay f (t ∷ ts) h =
    ap (λ u. u ∷ map (instance_of f) ts) (ap (instance_of f) h.0.1 ∙ base_is_closed f h.0.0 ∙ sym h.0.1) ∙ ap (λ us. t ∷ us) (bases_stay f ts h.1)

all_bases_stay : (f : ℕ → Ty) (tss : List (List Ty)) → Every (Every IsBase) tss → map (map (instance_of f)) tss ≡ tss
all_bases_stay f [] h = refl
all_bases_stay f (ts ∷ tss) h =
    ap (λ us. us ∷ map (map (instance_of f)) tss) (bases_stay f ts h.0) ∙ ap (λ us. ts ∷ us) (all_bases_stay f tss h.1)

-- what fits after types were put in fitted before
fitted : (f : ℕ → Ty) (n : ℕ) (ts : List Ty) → Every (λ t. size t ≤ n) (map (instance_of f) ts) → Every (λ t. size t ≤ n) ts
fitted f n [] h = tt
fitted f n (t ∷ ts) h = (let more = grows f t in let bound = h.0 in omega (arith, more, bound), fitted f n ts h.1)

pub alike : ComparesAlike
alike p h general at_base k = let f = general k in f.1.1 ∙ all_bases_stay f.0 _ at_base

pub decides_comparisons : DecidesComparisons
decides_comparisons p h general = (λ all. all h, λ at_base k. subst (Every (Every IsBase)) (sym (alike p h general at_base k)) at_base)

pub decides_size : DecidesSize
decides_size p h general = (
  λ fits. let f = general fits.0 in fitted f.0 _ _ (subst (Every (λ t. size t ≤ 4096)) f.1.0 fits.1),
  λ fits. (h, fits),
)
