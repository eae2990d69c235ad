-- Which rows of a table belong to each type.
use Rattle.std.specs.Prelude.{ℕ, ◌+◌, min, List, [], ◌∷◌, Option, Some, None}
use Rattle.ml_infer.specs.declared.members.Members.{Members}
use Rattle.ml_infer.specs.Known.{known, noted}

abbrev pub no_members : Members
no_members = record { firsts = []; nexts = []; counts = [] }

-- the first row of a type
abbrev pub first_of : Members → ℕ → Option ℕ
first_of m t = known m.firsts t

-- the next row of the same type
abbrev pub next_of : Members → ℕ → Option ℕ
next_of m row = known m.nexts row

abbrev pub or_zero : Option ℕ → ℕ
or_zero None = 0
or_zero (Some n) = n

-- how many rows a type has
abbrev pub count_of : Members → ℕ → ℕ
count_of m t = or_zero (known m.counts t)

-- before the first row that there is, if there is one
abbrev pub before : ℕ → Option ℕ → List (Option ℕ) → List (Option ℕ)
before row None nexts = nexts
before row (Some next) nexts = noted row next nexts

-- with a row before the others of its type
abbrev pub member_added : (row t : ℕ) → Members → Members
member_added row t m = record {
  firsts = noted t row m.firsts;
  nexts = before row (first_of m t) m.nexts;
  counts = noted t (min (count_of m t + 1) 4294967295) m.counts;
}

-- the rows from a number on, of which the types are given
unfoldable pub belonging : (row : ℕ) → List ℕ → Members
belonging row [] = no_members
belonging row (t ∷ ts) = member_added row t (belonging (row + 1) ts)
