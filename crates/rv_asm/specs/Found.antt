-- What the assembler has found so far: the long branches, where lines begin, and which line a label names.
use Rattle.std.specs.Prelude.{◌≡◌, ℕ, suc, ◌+◌, ◌≤◌, List, [], ◌∷◌, if◌then◌else◌, length, Bool, false, not, ◌&&◌, ◌||◌, slice_index, slice_index_or, slice_get, Option, Some, None}
use Rattle.rv_model.specs.declared.line.Line.{Line}
use Rattle.rv_model.specs.declared.line.Line.TheVariants.{Label, Plain, Branch, Jump, Const, CodeOf}
use Rattle.rv_asm.specs.Layout.{Layout, IsLeast, line_of, target_of, start_of, place_of, is_near}

-- a list as a layout
abbrev pub layout_of : List Bool → Layout
layout_of long = λ k. slice_index_or long k false

-- where each line begins, and the number of all instructions
abbrev pub AreStarts : Layout → List Line → List ℕ → Type 0
AreStarts long lines starts = (k : ℕ) → k ≤ length lines → slice_index starts k ≡ start_of long lines k

-- the number of the line that defines the label which a line names
abbrev pub line_named : List Line → Line → ℕ
line_named lines line = line_of lines (target_of line)

-- a branch that isn't long and whose label is out of its reach
abbrev pub is_far : Line → Bool → ℕ → ℕ → Bool
is_far (Label l) long from to = false
is_far (Plain i) long from to = false
is_far (Branch op rs1 rs2 l) long from to = not long && not (is_near from to)
is_far (Jump rd l) long from to = false
is_far (Const rd value) long from to = false
is_far (CodeOf rd l) long from to = false

abbrev pub is_far_if : Layout → List Line → ℕ → Option Line → Bool
is_far_if long lines k None = false
is_far_if long lines k (Some line) = is_far line (long k) (start_of long lines k) (place_of long lines (target_of line))

-- line k has a branch that isn't long and whose label is out of its reach
abbrev pub is_far_at : Layout → List Line → ℕ → Bool
is_far_at long lines k = is_far_if long lines k (slice_get lines k)

-- the layout in which these branches are long too
abbrev pub grown : List Line → Layout → Layout
grown lines long = λ k. long k || is_far_at long lines k

-- how many lines aren't long
abbrev pub short_count : List Bool → ℕ
short_count [] = 0
short_count (long ∷ rest) = (if long then 0 else 1) + short_count rest

-- the least layout, and where lines begin in it
pub record AreSettled (lines : List Line) (long : List Bool) (starts : List ℕ) : Type 0 where
  pub least : IsLeast lines (layout_of long)
  pub are_starts : AreStarts (layout_of long) lines starts
  pub all : length long ≡ length lines
  pub room : length starts ≡ suc (length lines)
