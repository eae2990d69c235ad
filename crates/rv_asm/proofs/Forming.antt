-- The code of lines is well-formed.
use Rattle.std.proofs.Common.{◌≡◌, ℕ, zero, suc, ◌+◌, ◌-◌, ◌*◌, ◌/◌, ◌%◌, ◌^◌, ◌<◌, ◌≤◌, ℤ, pos, negsuc, List, [], ◌∷◌, Bool, true, false, Some, length, take, get_or, ⊎_elim, refl, sym, ap, ◌∙◌, subst, arith, lit<}
use Rattle.std.specs.Prelude.{slice_get, nat_le, if◌then◌else◌}
use Rattle.std.proofs.lemmas.Bool.{lt-ltb, eq-eqb, and_from, cases_lt, leb-false}
use Rattle.std.proofs.lemmas.List.{take_all}
use Rattle.std.proofs.lemmas.List.Sums.{fails_before_first}
use Rattle.std.proofs.lemmas.Option.{slice_get-get_or, slice_get_within, get_or_from_slice_get}
use Rattle.rv_model.specs.declared.instr.Op.{Op}
use Rattle.rv_model.specs.declared.instr.Op.TheVariants.{Addi, Addiw, Jal, Beq, Bne, Blt, Bge, Bltu, Bgeu}
use Rattle.rv_model.specs.declared.line.Line.{Line}
use Rattle.rv_model.specs.declared.line.Line.TheVariants.{Label, Plain, Branch, Jump, Const, CodeOf}
use Rattle.rv_model.specs.Format.{plain, signed, is_signed, is_even, fits}
use Rattle.rv_model.specs.Table.{IsWellFormed, AreWellFormed}
use Rattle.rv_model.proofs.Fields.{signed-fits}
use Rattle.rv_model.proofs.WellFormed.{well_formed-none, well_formed-first, well_formed-append}
use Rattle.rv_asm.specs.Constant.{is_small, is_middle, pair, more_bits, large_constant, constant}
use Rattle.rv_asm.specs.Lines.{IsBranch, IsLine, AreLines, offset, opposite, size_of, line_code}
use Rattle.rv_asm.specs.Layout.{Layout, Fits, count_of, start_of, place_of, line_of, is_label, target_of, is_near, code_from, code_of}
use Rattle.rv_asm.proofs.Least.{near_is}
use Rattle.rv_asm.proofs.Starts.{start_more, start_rises}
use Rattle.rv_asm.proofs.Emitting.{start_within, code_more}

-- offsets

offset-even : (from to : ℕ) → is_even (offset from to) ≡ true
offset-even from to = by (nat_le from to) refl
  where
    by : (b : Bool) → nat_le from to ≡ b → is_even (if b then pos (4 * (to - from)) else negsuc (4 * (from - to) - 1)) ≡ true
    by true e = eq-eqb _ 0 (omega arith)
    by false e = let lt = leb-false from to e in eq-eqb _ 1 (omega (arith, lt))

offset-signed_13 : (from to : ℕ) → to ≤ from + 1023 → from ≤ to + 1024 → is_signed 13 (offset from to) ≡ true
offset-signed_13 from to h k = by (nat_le from to) refl
  where
    by : (b : Bool) → nat_le from to ≡ b → is_signed 13 (if b then pos (4 * (to - from)) else negsuc (4 * (from - to) - 1)) ≡ true
    by true e = lt-ltb (4 * (to - from)) (2 ^ 12) (omega (arith, h))
    by false e = lt-ltb (4 * (from - to) - 1) (2 ^ 12) (omega (arith, k))

offset-signed_21 : (from to : ℕ) → to < 262144 → from < 262144 → is_signed 21 (offset from to) ≡ true
offset-signed_21 from to h k = by (nat_le from to) refl
  where
    by : (b : Bool) → nat_le from to ≡ b → is_signed 21 (if b then pos (4 * (to - from)) else negsuc (4 * (from - to) - 1)) ≡ true
    by true e = lt-ltb (4 * (to - from)) (2 ^ 20) (omega (arith, h))
    by false e = lt-ltb (4 * (from - to) - 1) (2 ^ 20) (omega (arith, k))

-- branches and jumps

branch_formed : (op : Op) (rs1 rs2 : ℕ) (imm : ℤ) → IsBranch op → rs1 < 32 → rs2 < 32 → is_signed 13 imm ≡ true → is_even imm ≡ true → IsWellFormed (plain op 0 rs1 rs2 imm)
branch_formed op rs1 rs2 imm is a b in_range even =
    (lit< tt, a, b, subst (λ f. fits f (plain op 0 rs1 rs2 imm) ≡ true) (sym is.2) (and_from _ _ (and_from _ _ (and_from _ _ in_range even) refl) refl))

opposite_branch : (op : Op) → IsBranch op → IsBranch (opposite op)
opposite_branch Beq h = (0b1100011, 0b001, refl)
opposite_branch Bne h = (0b1100011, 0b000, refl)
opposite_branch Blt h = (0b1100011, 0b101, refl)
opposite_branch Bge h = (0b1100011, 0b100, refl)
opposite_branch Bltu h = (0b1100011, 0b111, refl)
opposite_branch Bgeu h = (0b1100011, 0b110, refl)
opposite_branch op h = h

jump_formed : (rd from to : ℕ) → rd < 32 → from < 262144 → to < 262144 → IsWellFormed (plain Jal rd 0 0 (offset from to))
jump_formed rd from to d h k =
    (d, lit< tt, lit< tt, and_from _ _ (and_from _ _ (and_from _ _ (and_from _ _ (offset-signed_21 from to k h) (offset-even from to)) refl) refl) refl)

-- constants

addi_low : (rd rs1 v : ℕ) → rd < 32 → rs1 < 32 → IsWellFormed (plain Addi rd rs1 0 (signed 12 (v % 2 ^ 12)))
addi_low rd rs1 v d a = (d, a, lit< tt, and_from _ _ (and_from _ _ (signed-fits 12 (v % 2 ^ 12) (λ le. omega (arith, le))) refl) refl)

addiw_low : (rd rs1 v : ℕ) → rd < 32 → rs1 < 32 → IsWellFormed (plain Addiw rd rs1 0 (signed 12 (v % 2 ^ 12)))
addiw_low rd rs1 v d a = (d, a, lit< tt, and_from _ _ (and_from _ _ (signed-fits 12 (v % 2 ^ 12) (λ le. omega (arith, le))) refl) refl)

pair_formed : (rd v : ℕ) → rd < 32 → AreWellFormed (pair rd v)
pair_formed rd v d =
    well_formed-first _ _ (d, lit< tt, lit< tt, and_from _ _ (and_from _ _ (and_from _ _ (lt-ltb ((v + 2 ^ 11) / 2 ^ 12 % 2 ^ 20) (2 ^ 20) (omega arith)) refl) refl) refl)
    (well_formed-first _ _ (addiw_low rd rd v d d) well_formed-none)

more_formed : (rd bits part : ℕ) → rd < 32 → bits < 64 → part < 2 ^ 11 → AreWellFormed (more_bits rd bits part)
more_formed rd bits part d b p =
    well_formed-first _ _ (d, d, lit< tt, and_from _ _ (and_from _ _ (lt-ltb bits 64 b) refl) refl)
    (well_formed-first _ _ (d, d, lit< tt, and_from _ _ (and_from _ _ (lt-ltb part (2 ^ 11) p) refl) refl) well_formed-none)

constant_formed : (rd v : ℕ) → rd < 32 → AreWellFormed (constant rd v)
constant_formed rd v d = by (is_small v) (is_middle v)
  where
    by : (a b : Bool) → AreWellFormed (if a then plain Addi rd 0 0 (signed 12 (v % 2 ^ 12)) ∷ [] else if b then pair rd v else large_constant rd v)
    by true b = well_formed-first _ _ (addi_low rd 0 v d (lit< tt)) well_formed-none
    by false true = pair_formed rd v d
    by false false =
        well_formed-append (pair rd (v / 2 ^ 32)) _ (pair_formed rd (v / 2 ^ 32) d)
        (well_formed-append (more_bits rd 11 (v / 2 ^ 21 % 2 ^ 11)) _ (more_formed rd 11 (v / 2 ^ 21 % 2 ^ 11) d (lit< tt) (omega arith))
        (well_formed-append (more_bits rd 11 (v / 2 ^ 10 % 2 ^ 11)) _ (more_formed rd 11 (v / 2 ^ 10 % 2 ^ 11) d (lit< tt) (omega arith))
        (more_formed rd 10 (v % 2 ^ 10) d (lit< tt) (omega arith))))

-- the code of a line
line_formed : (lines : List Line) (at to : ℕ) (long : Bool) (line : Line) → IsLine lines line → at + size_of long line ≤ 262144 → (target_of line ≡ target_of line → to < 262144) → ((op : Op) (rs1 rs2 l : ℕ) → line ≡ Branch op rs1 rs2 l → long ≡ false → is_near at to ≡ true) → AreWellFormed (line_code at to long line)
line_formed lines at to long (Label l) h room t near = well_formed-none
line_formed lines at to long (Plain i) h room t near = well_formed-first i [] h well_formed-none
line_formed lines at to true (Branch op rs1 rs2 l) h room t near =
    well_formed-first _ _ (branch_formed (opposite op) rs1 rs2 (pos 8) (opposite_branch op h.0) h.1 h.2 refl refl)
    (well_formed-first _ _ (jump_formed 0 (at + 1) to (lit< tt) (omega (arith, room)) (t refl)) well_formed-none)
line_formed lines at to false (Branch op rs1 rs2 l) h room t near =
    let n = near_is at to (near op rs1 rs2 l refl refl) in
    well_formed-first _ _ (branch_formed op rs1 rs2 (offset at to) h.0 h.1 h.2 (offset-signed_13 at to n.0 n.1) (offset-even at to)) well_formed-none
line_formed lines at to long (Jump rd l) h room t near =
    well_formed-first _ _ (jump_formed rd at to h.0 (omega (arith, room)) (t refl)) well_formed-none
line_formed lines at to long (Const rd v) h room t near = constant_formed rd v h
line_formed lines at to long (CodeOf rd l) h room t near = pair_formed rd (4 * to) h.0

-- where labels are

label_found : (lines : List Line) (l j : ℕ) → slice_get lines j ≡ Some (Label l) → line_of lines l < length lines
label_found lines l j at = ⊎_elim (λ lt. lt) past (cases_lt (line_of lines l) (length lines))
  where
    past : length lines ≤ line_of lines l → line_of lines l < length lines
    past le =
        let within = slice_get_within lines j (Label l) at in
        let no = fails_before_first (is_label l) lines j (Label 0) (omega (arith, le, within)) in
        let yes : is_label l (get_or lines j (Label 0)) ≡ true = ap (is_label l) (get_or_from_slice_get lines j (Label l) (Label 0) at) ∙ eq-eqb l l refl in
        let both : true ≡ false = sym yes ∙ no in
        absurd (cc)

constant-some : (rd v : ℕ) → 1 ≤ length (constant rd v)
constant-some rd v = by (is_small v) (is_middle v)
  where
    by : (a b : Bool) → 1 ≤ length (if a then plain Addi rd 0 0 (signed 12 (v % 2 ^ 12)) ∷ [] else if b then pair rd v else large_constant rd v)
    by true b = omega arith
    by false true = omega arith
    by false false = omega arith

-- a line that is no label has an instruction
size-some : (long : Bool) (line : Line) → ((l : ℕ) → line ≡ Label l → ⊥) → 1 ≤ size_of long line
size-some long (Label l) h = absurd (h l refl)
size-some long (Plain i) h = omega arith
size-some true (Branch op rs1 rs2 to) h = omega arith
size-some false (Branch op rs1 rs2 to) h = omega arith
size-some long (Jump rd to) h = omega arith
size-some long (Const rd v) h = constant-some rd v
size-some long (CodeOf rd l) h = omega arith

module _ (lines : List Line) (long : Layout) (are : AreLines lines) (fits : Fits lines long) (short : count_of long lines ≤ 262144) where
  -- an instruction follows each label
  pub place_within : (l j : ℕ) → slice_get lines j ≡ Some (Label l) → place_of long lines l < 262144
  place_within l j at =
      let m = line_of lines l in
      let n = length lines in
      let below : m < n = label_found lines l j at in
      let last = n - 1 in
      let lt : last < n = omega (arith, below) in
      let line = get_or lines last (Label 0) in
      let at_last : slice_get lines last ≡ Some line = slice_get-get_or lines last (Label 0) lt in
      let no_label : (q : ℕ) → line ≡ Label q → ⊥ = λ q e. let ends = are.ends last q (at_last ∙ ap Some e) in omega (arith, ends, below) in
      let one = size-some (long last) line no_label in
      let more = start_more long lines last line at_last in
      let all : start_of long lines (last + 1) ≤ count_of long lines = start_within long lines (last + 1) (omega (arith, below)) in
      let e : m + (last - m) ≡ last = omega (arith, below) in
      let up = subst (λ i. start_of long lines m ≤ start_of long lines i) e (start_rises long lines m (last - m)) in
      omega (arith, one, more, all, up, short)

  -- the code of each line
  each_formed : (k : ℕ) (line : Line) → slice_get lines k ≡ Some line → AreWellFormed (line_code (start_of long lines k) (place_of long lines (target_of line)) (long k) line)
  each_formed k line at = by line (are.each k line at) at
    where
      room : (line : Line) → slice_get lines k ≡ Some line → start_of long lines k + size_of (long k) line ≤ 262144
      room line at =
          let within = slice_get_within lines k line at in
          omega (arith, start_more long lines k line at, start_within long lines (k + 1) (omega (arith, within)), short)

      near : (line : Line) → slice_get lines k ≡ Some line → (op : Op) (rs1 rs2 l : ℕ) → line ≡ Branch op rs1 rs2 l → long k ≡ false → is_near (start_of long lines k) (place_of long lines (target_of line)) ≡ true
      near line at op rs1 rs2 l e s =
          ap (λ x. is_near (start_of long lines k) (place_of long lines (target_of x))) e ∙ fits k op rs1 rs2 l (at ∙ ap Some e) s

      by : (line : Line) → IsLine lines line → slice_get lines k ≡ Some line → AreWellFormed (line_code (start_of long lines k) (place_of long lines (target_of line)) (long k) line)
      by (Label l) h at = well_formed-none
      by (Plain i) h at = well_formed-first i [] h well_formed-none
      by (Branch op rs1 rs2 l) h at = line_formed lines (start_of long lines k) (place_of long lines l) (long k) (Branch op rs1 rs2 l) h (room (Branch op rs1 rs2 l) at) (λ e. place_within l h.3.0 h.3.1) (near (Branch op rs1 rs2 l) at)
      by (Jump rd l) h at = line_formed lines (start_of long lines k) (place_of long lines l) (long k) (Jump rd l) h (room (Jump rd l) at) (λ e. place_within l h.1.0 h.1.1) (near (Jump rd l) at)
      by (Const rd v) h at = constant_formed rd v h
      by (CodeOf rd l) h at = pair_formed rd (4 * place_of long lines l) h.0

  formed_upto : (k : ℕ) → k ≤ length lines → AreWellFormed (code_from (place_of long lines) long 0 0 (take k lines))
  formed_upto zero le = well_formed-none
  formed_upto (suc k) le =
      let line = get_or lines k (Label 0) in
      let at = slice_get-get_or lines k (Label 0) (omega (arith, le)) in
      let e : k + 1 ≡ suc k = omega arith in
      let more = sym (code_more (place_of long lines) long lines k line at) ∙ ap (λ n. code_from (place_of long lines) long 0 0 (take n lines)) e in
      subst AreWellFormed more (well_formed-append _ _ (formed_upto k (omega (arith, le))) (each_formed k line at))

  pub code_formed : AreWellFormed (code_of long lines)
  code_formed = subst (λ l. AreWellFormed (code_from (place_of long lines) long 0 0 l)) (take_all (length lines) lines (omega arith)) (formed_upto (length lines) (omega arith))
