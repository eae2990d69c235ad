-- What an arena keeps stays true when a node comes behind the others.
use Rattle.std.proofs.Common.{◌≡◌, ℕ, zero, suc, ◌+◌, ◌-◌, ◌<◌, ◌^◌, max, List, [], ◌∷◌, ◌++◌, length, Option, Some, None, option_map, option_and_then, slice_get, refl, sym, ◌∙◌, ap, arith, zero-add, lit<}
use Rattle.std.proofs.lemmas.List.{length_push}
use Rattle.ml_syntax.specs.declared.node.Node.{Node}
use Rattle.ml_syntax.specs.Depth.{parts, forms, deepest, or_zero, node_depth, depths_behind, greatest, AllBelow, StandFrom}
use Rattle.ml_syntax.specs.Arena.{IsArena}

pub greatest_more : (most : ℕ) (ds : List ℕ) (d : ℕ) → greatest most (ds ++ d ∷ []) ≡ max (greatest most ds) d
unfolding greatest
greatest_more most [] d = refl
greatest_more most (e ∷ ds) d = greatest_more (max most e) ds d

pub depths_more : (ds : List ℕ) (ns : List Node) (n : Node)
    → depths_behind ds (ns ++ n ∷ []) ≡ depths_behind ds ns ++ node_depth (depths_behind ds ns) n ∷ []
unfolding depths_behind
depths_more ds [] n = refl
depths_more ds (m ∷ ns) n = depths_more (ds ++ node_depth ds m ∷ []) ns n

-- a part that has a depth is there
pub there : (ds : List ℕ) (p d : ℕ) → slice_get ds p ≡ Some d → p < length ds
there [] p d h = cc
there (x ∷ ds) zero d h = omega arith
there (x ∷ ds) (suc p) d h = let k : p < length ds = there ds p d h in omega arith

pub all_there : (ds : List ℕ) (most : ℕ) (ps : List ℕ) (d : ℕ) → deepest ds most ps ≡ Some d → AllBelow (length ds) ps
all_there ds most [] d h = tt
all_there ds most (p ∷ ps) d h =
    let P : Option ℕ → Type 0 =
    λ o. slice_get ds p ≡ o → option_and_then (λ e. deepest ds (max most e) ps) o ≡ Some d → AllBelow (length ds) (p ∷ ps)
    in (elim (slice_get ds p) as P [ None ↦ λ q k. cc | Some e ↦ λ q k. (there ds p e q, all_there ds (max most e) ps d k) ]) refl h

pub depths_count : (ds : List ℕ) (ns : List Node) → length (depths_behind ds ns) ≡ length ds + length ns
unfolding depths_behind
depths_count ds [] = omega arith
depths_count ds (n ∷ ns) =
    let h = depths_count (ds ++ node_depth ds n ∷ []) ns
    in let e : length (ds ++ node_depth ds n ∷ []) ≡ length ds + 1 = length_push ds (node_depth ds n)
    in omega arith

pub stand_more : (i : ℕ) (ns : List Node) (n : Node) → StandFrom i ns → AllBelow (i + length ns) (parts n) → StandFrom i (ns ++ n ∷ [])
unfolding StandFrom
stand_more i [] n h k = (let e : i ≡ i + 0 = omega arith in rw e k, tt)
stand_more i (m ∷ ns) n h k =
    (h.0, let e : suc i + length ns ≡ i + suc (length ns) = omega arith in stand_more (suc i) ns n h.1 (rw e k))

-- the depth of a node whose parts are all there
pub its_depth : (ds : List ℕ) (n : Node) (d : ℕ) → option_map (λ m. m + forms n) (deepest ds 0 (parts n)) ≡ Some d
    → (node_depth ds n ≡ d) × AllBelow (length ds) (parts n)
its_depth ds n d h =
    let P : Option ℕ → Type 0 =
    λ o. deepest ds 0 (parts n) ≡ o → option_map (λ m. m + forms n) o ≡ Some d
    → (or_zero o + forms n ≡ d) × AllBelow (length ds) (parts n)
    in (elim (deepest ds 0 (parts n)) as P [ None ↦ λ q k. cc | Some e ↦ λ q k. (cc, all_there ds 0 (parts n) e q) ]) refl h

pub empty_arena : IsArena [] [] 0
unfolding StandFrom depths_behind greatest
empty_arena = record { below = tt; depths_are = refl; most_is = refl; few = lit< tt }

pub arena_grows : (ns : List Node) (ds : List ℕ) (most : ℕ) (n : Node) (d : ℕ) → IsArena ns ds most → length ns < 2 ^ 32 - 1
    → option_map (λ m. m + forms n) (deepest ds 0 (parts n)) ≡ Some d
    → IsArena (ns ++ n ∷ []) (ds ++ d ∷ []) (max most d)
arena_grows ns ds most n d a few h =
    let known = its_depth ds n d h
    in let count : length ds ≡ length ns = ap length a.depths_are ∙ depths_count [] ns ∙ zero-add (length ns)
    in record {
      below = stand_more 0 ns n a.below (let e : 0 + length ns ≡ length ds = zero-add (length ns) ∙ sym count in rw e known.1);
      depths_are =
          ap (λ e. ds ++ e ∷ []) (sym known.0) ∙ ap (λ es. es ++ node_depth es n ∷ []) a.depths_are ∙ sym (depths_more [] ns n);
      most_is = ap (λ m. max m d) a.most_is ∙ sym (greatest_more 0 ds d);
      few = rw (length_push ns n) (omega arith);
    }
