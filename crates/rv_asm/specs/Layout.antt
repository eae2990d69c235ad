-- Layouts of lines: which branches are long, and where each line begins.
use Rattle.std.specs.Prelude.{◌≡◌, ℕ, suc, ◌+◌, ◌*◌, ◌<◌, List, [], ◌∷◌, ◌++◌, Some, Bool, true, false, ◌&&◌, nat_le, ◌==◌, take, slice_get}
use Rattle.std.specs.List.{position_or_len}
use Rattle.rv_model.specs.declared.instr.Op.{Op}
use Rattle.rv_model.specs.declared.instr.Instr.{Instr}
use Rattle.rv_model.specs.declared.line.Line.{Line}
use Rattle.rv_model.specs.declared.line.Line.TheVariants.{Label, Plain, Branch, Jump, Const, CodeOf}
use Rattle.fx_base.specs.declared.refusal.LimitKind.TheVariants.{Code}
use Rattle.fx_base.specs.declared.refusal.Refusal.{Refusal}
use Rattle.fx_base.specs.declared.refusal.Refusal.TheVariants.{Usage, File, Syntax, Name, IllTyped, Limit, Memory}
use Rattle.rv_asm.specs.declared.assembled.LabelPlace.{LabelPlace}
use Rattle.rv_asm.specs.Lines.{size_of, line_code}

-- by the number of a line whether a branch there is long
abbrev pub Layout : Type 0
Layout = ℕ → Bool

-- the number of instructions of lines, the first of which has number k
abbrev pub count_from : Layout → ℕ → List Line → ℕ
count_from long k [] = 0
count_from long k (line ∷ lines) = size_of (long k) line + count_from long (suc k) lines

-- the number of instructions of all lines
abbrev pub count_of : Layout → List Line → ℕ
count_of long lines = count_from long 0 lines

-- the number of the instruction with which line k begins
abbrev pub start_of : Layout → List Line → ℕ → ℕ
start_of long lines k = count_from long 0 (take k lines)

-- the line is that of the label
abbrev pub is_label : ℕ → Line → Bool
is_label l (Label m) = m == l
is_label l (Plain i) = false
is_label l (Branch op rs1 rs2 to) = false
is_label l (Jump rd to) = false
is_label l (Const rd value) = false
is_label l (CodeOf rd label) = false

-- the number of the line that defines a label
abbrev pub line_of : List Line → ℕ → ℕ
line_of lines l = position_or_len (is_label l) lines

-- the number of the instruction that follows a label
abbrev pub place_of : Layout → List Line → ℕ → ℕ
place_of long lines l = start_of long lines (line_of lines l)

-- the label that a line names; 0 where it names none
abbrev pub target_of : Line → ℕ
target_of (Label l) = 0
target_of (Plain i) = 0
target_of (Branch op rs1 rs2 to) = to
target_of (Jump rd to) = to
target_of (Const rd value) = 0
target_of (CodeOf rd label) = label

-- an instruction is within the reach of a branch: from 4,096 bytes back to 4,092 bytes on
abbrev pub is_near : ℕ → ℕ → Bool
is_near from to = nat_le to (from + 1023) && nat_le from (to + 1024)

-- each branch that isn't long has its label in reach
abbrev pub Fits : List Line → Layout → Type 0
Fits lines long =
    (k : ℕ) (op : Op) (rs1 rs2 to : ℕ) → slice_get lines k ≡ Some (Branch op rs1 rs2 to) → long k ≡ false → is_near (start_of long lines k) (place_of long lines to) ≡ true

-- as few branches as possible are long: those that are long in each layout that fits
pub record IsLeast (lines : List Line) (long : Layout) : Type 0 where
  pub fits : Fits lines long
  pub least : (other : Layout) → Fits lines other → (k : ℕ) → long k ≡ true → other k ≡ true

-- the instructions of lines, the first of which has number k and begins at instruction number `at`
abbrev pub code_from : (ℕ → ℕ) → Layout → ℕ → ℕ → List Line → List Instr
code_from place long k at [] = []
code_from place long k at (line ∷ lines) =
    line_code at (place (target_of line)) (long k) line ++ code_from place long (suc k) (at + size_of (long k) line) lines

-- the instructions that lines stand for in a layout
abbrev pub code_of : Layout → List Line → List Instr
code_of long lines = code_from (place_of long lines) long 0 0 lines

-- a line's part of the table of places, where it begins at instruction number `at`
abbrev pub line_place : ℕ → Line → List LabelPlace
line_place at (Label l) = record { label = l; pc = 4 * at } ∷ []
line_place at (Plain i) = []
line_place at (Branch op rs1 rs2 to) = []
line_place at (Jump rd to) = []
line_place at (Const rd value) = []
line_place at (CodeOf rd label) = []

abbrev pub places_from : Layout → ℕ → ℕ → List Line → List LabelPlace
places_from long k at [] = []
places_from long k at (line ∷ lines) = line_place at line ++ places_from long (suc k) (at + size_of (long k) line) lines

-- each label with the pc of the instruction that follows it, in the order of the lines
abbrev pub places_of : Layout → List Line → List LabelPlace
places_of long lines = places_from long 0 0 lines

-- the code and the places are those of the lines in the layout with as few long branches as possible
pub record Assembles (lines : List Line) (code : List Instr) (places : List LabelPlace) : Type 0 where
  pub long : Layout
  pub least : IsLeast lines long
  pub is_code : code ≡ code_of long lines
  pub are_places : places ≡ places_of long lines

-- the layout with as few long branches as possible has so many instructions
pub record Takes (lines : List Line) (count : ℕ) : Type 0 where
  pub long : Layout
  pub least : IsLeast lines long
  pub is_count : count_of long lines ≡ count

-- why lines are refused: their code would have more than 262,144 instructions; or memory is not there
abbrev pub IsRefused : List Line → Refusal → Type 0
IsRefused lines (Limit kind found bound) = (kind ≡ Code) × (bound ≡ 262144) × (262144 < found) × Takes lines found
IsRefused lines Memory = Unit {0}
IsRefused lines Usage = ⊥
IsRefused lines File = ⊥
IsRefused lines (Syntax place) = ⊥
IsRefused lines (Name place) = ⊥
IsRefused lines (IllTyped place) = ⊥
