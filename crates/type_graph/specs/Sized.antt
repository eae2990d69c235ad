-- How large types are, written out as trees: counted depth first, each type once.
use Rattle.std.specs.Prelude.{ℕ, zero, suc, ◌+◌, min, Bool, true, false, ◌==◌, List, [], ◌∷◌, length, replicate, slice_set, slice_index_or, Option, Some, None, option_and_then}
use Rattle.type_graph.specs.declared.sizes.Count.{Count}
use Rattle.type_graph.specs.declared.sizes.Size.{Size}
use Rattle.type_graph.specs.declared.sizes.Size.TheVariants as size
use Rattle.type_graph.specs.Graph.{Graph, root, form_of, argument_of}

-- the sizes of all types, as far as they are known, and the types whose parts are being counted, the innermost first
pub record Counting : Type 0 where
  pub sizes : List Size
  pub counts : List Count

-- likewise, in one word
abbrev pub counting : List Size → List Count → Counting
counting sizes cs = record { sizes = sizes; counts = cs }

-- the size of a type
abbrev pub size_at : List Size → ℕ → Size
size_at sizes r = slice_index_or sizes r size.Unknown

-- a sum of sizes, as far as the least size that is too large
abbrev pub capped_sum : ℕ → ℕ → ℕ
capped_sum m n = min (m + n) 4097

-- a further part of the innermost type has this size
abbrev pub part_counted : ℕ → List Count → List Count
part_counted k [] = []
part_counted k (c ∷ cs) = record { root = c.root; counted = c.counted + 1; total = capped_sum c.total k } ∷ cs

-- a type is the innermost from here on: it counts as one, and none of its parts is counted
abbrev pub begun : (root : ℕ) → Counting → Counting
begun r s = record { sizes = slice_set s.sizes r size.Open; counts = record { root = r; counted = 0; total = 1 } ∷ s.counts }

-- all parts of the innermost type are counted: its size is known, and it is a counted part of the next one
abbrev pub ended : Count → Counting → Counting
ended c s = record { sizes = slice_set s.sizes c.root (size.Known c.total); counts = part_counted c.total s.counts }

-- the next part of the innermost type: its own parts come first, where its size isn't known. None where it is being counted, since
-- it is a part of itself then
unfoldable pub part_met : (root : ℕ) → Counting → Option Counting
part_met r s =
    elim (size_at s.sizes r) as (λ k. Option Counting) [
      | size.Unknown ↦ Some (begun r s)
      | size.Open ↦ None
      | size.Known k ↦ Some (record s { counts = part_counted k s.counts })
    ]

-- one step, at the innermost type: it ends, or its next part is met
unfoldable pub stepped : Graph → Count → Counting → Option Counting
stepped g c s =
    elim (argument_of g.arguments (form_of g.nodes c.root) c.counted) as (λ k. Option Counting) [
      | None ↦ Some (ended c s)
      | Some n ↦ part_met (root g.nodes n) (record s { counts = c ∷ s.counts })
    ]

-- steps until no type is being counted, so many at the most
unfoldable pub finished : (steps : ℕ) → Graph → (sizes : List Size) → (counts : List Count) → Option Counting
finished steps g sizes [] = Some (counting sizes [])
finished zero g sizes (c ∷ cs) = None
finished (suc steps) g sizes (c ∷ cs) =
    option_and_then (λ s. finished steps g s.sizes s.counts) (stepped g c (counting sizes cs))

-- a type is counted, unless it was
unfoldable pub type_counted : Graph → (n : ℕ) → Counting → Option Counting
type_counted g n s =
    elim (size_at s.sizes (root g.nodes n)) as (λ k. Option Counting) [
      | size.Unknown ↦ finished 18446744073709551615 g (begun (root g.nodes n) s).sizes (begun (root g.nodes n) s).counts
      | _ ↦ Some s
    ]

-- so many types are counted, from a number on
unfoldable pub types_counted : (count n : ℕ) → Graph → Counting → Option Counting
types_counted zero n g s = Some s
types_counted (suc count) n g s = option_and_then (types_counted count (n + 1) g) (type_counted g n s)

-- nothing is known of so many types
abbrev pub uncounted : ℕ → Counting
uncounted count = counting (replicate count size.Unknown) []

-- the sizes of all types; none where one is a part of itself
abbrev pub all_counted : Graph → Option Counting
all_counted g = types_counted (length g.nodes) 0 g (uncounted (length g.nodes))

-- what there is, if it goes on
abbrev pub if_fits : Bool → Counting → Option Counting
if_fits true s = Some s
if_fits false s = None

-- a type has at least the least size that is too large
abbrev pub is_too_large : Counting → (root : ℕ) → Bool
is_too_large s r = elim (size_at s.sizes r) as (λ k. Bool) [ size.Known k ↦ k == 4097 | _ ↦ false ]
