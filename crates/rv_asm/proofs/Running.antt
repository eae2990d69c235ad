-- The code of lines does what the lines say.
use Rattle.std.proofs.Common.{◌≡◌, ℕ, zero, suc, ◌+◌, ◌*◌, ◌<◌, ◌≤◌, List, [], ◌∷◌, ◌++◌, Bool, true, false, Some, length, take, refl, sym, ap, ◌∙◌, subst, arith, append_assoc, length-append}
use Rattle.std.specs.Prelude.{slice_get, if◌then◌else◌}
use Rattle.std.proofs.Math.Seq.{get_or-append_seam}
use Rattle.std.proofs.lemmas.Option.{slice_get-get_or}
use Rattle.rv_model.specs.declared.instr.Op.{Op}
use Rattle.rv_model.specs.declared.instr.Instr.{Instr}
use Rattle.rv_model.specs.declared.line.Line.{Line}
use Rattle.rv_model.specs.declared.line.Line.TheVariants.{Label, Plain, Branch, Jump, Const, CodeOf}
use Rattle.rv_model.specs.Machine.{put}
use Rattle.rv_asm.specs.declared.assembled.LabelPlace.{LabelPlace}
use Rattle.rv_asm.specs.Constant.{pair, constant}
use Rattle.rv_asm.specs.Lines.{IsDefined, IsLine, AreLines, size_of, line_code}
use Rattle.rv_asm.specs.Layout.{Layout, Fits, count_of, start_of, place_of, target_of, code_from, code_of, Assembles}
use Rattle.rv_asm.specs.Doing.{Leads, takes, Does, DoesLines}
use Rattle.rv_asm.proofs.Starts.{start_more, size-few}
use Rattle.rv_asm.proofs.Emitting.{code-length, code_more}
use Rattle.rv_asm.proofs.Forming.{place_within}
use Rattle.rv_asm.proofs.Putting.{constant_puts, address_puts}
use Rattle.rv_asm.proofs.Leading.{HasAt, leads_block, leads_branch, leads_jump, leads_long}

-- code inside code

has_front : (code : List Instr) (k : ℕ) (a b : List Instr) → HasAt code k (a ++ b) → HasAt code k a
has_front code k [] b h = tt
has_front code k (i ∷ a) b h = (h.0, has_front code (k + 1) a b h.1)

has_all : (is before : List Instr) → HasAt (before ++ is) (length before) is
has_all [] before = tt
has_all (i ∷ is) before =
    let within : length before < length (before ++ i ∷ is) = omega (arith, length-append before (i ∷ is)) in
    let here = slice_get-get_or (before ++ i ∷ is) (length before) i within ∙ ap Some (get_or-append_seam before i is i) in
    let n : length (before ++ i ∷ []) ≡ length before + 1 = omega (arith, length-append before (i ∷ [])) in
    let rest = has_all is (before ++ i ∷ []) in
    let rest' = subst (λ l. HasAt l (length (before ++ i ∷ [])) is) (append_assoc before (i ∷ []) is) rest in
    (here, subst (λ m. HasAt (before ++ i ∷ is) m is) n rest')

module _ (place : ℕ → ℕ) (long : Layout) where
  code_front : (j at k : ℕ) (lines : List Line) → (rest : List Instr) × (code_from place long j at lines ≡ code_from place long j at (take k lines) ++ rest)
  code_front j at zero lines = (code_from place long j at lines, refl)
  code_front j at (suc k) [] = ([], refl)
  code_front j at (suc k) (x ∷ xs) =
      let r = code_front (suc j) (at + size_of (long j) x) k xs in
      let here = line_code at (place (target_of x)) (long j) x in
      (r.0, ap (λ l. here ++ l) r.1 ∙ sym (append_assoc here (code_from place long (suc j) (at + size_of (long j) x) (take k xs)) r.0))

  -- a line's instructions stand where it begins
  pub line_has : (lines : List Line) (k : ℕ) (line : Line) → slice_get lines k ≡ Some line → HasAt (code_from place long 0 0 lines) (start_of long lines k) (line_code (start_of long lines k) (place (target_of line)) (long k) line)
  line_has lines k line e =
      let r = code_front 0 0 (k + 1) lines in
      let before = code_from place long 0 0 (take k lines) in
      let here = line_code (start_of long lines k) (place (target_of line)) (long k) line in
      let whole = r.1 ∙ ap (λ l. l ++ r.0) (code_more place long lines k line e) ∙ append_assoc before here r.0 in
      let at = code-length place long 0 0 (take k lines) in
      subst (λ l. HasAt l (start_of long lines k) here) (sym whole) (subst (λ n. HasAt (before ++ (here ++ r.0)) n here) at (has_front (before ++ (here ++ r.0)) (length before) here r.0 (has_all (here ++ r.0) before)))

module _ (lines : List Line) (long : Layout) (are : AreLines lines) (fits : Fits lines long) (short : length (code_of long lines) ≤ 262144) where
  count_short : count_of long lines ≤ 262144
  count_short = subst (λ n. n ≤ 262144) (code-length (place_of long lines) long 0 0 lines) short

  near_label : (l : ℕ) (d : IsDefined lines l) → place_of long lines l ≤ 262144
  near_label l d = let lt = place_within lines long are fits count_short l d.0 d.1 in omega (arith, lt)

  branch_does : (k op_next : ℕ) (op : Op) (rs1 rs2 l : ℕ) → IsLine lines (Branch op rs1 rs2 l) → (b : Bool) → HasAt (code_of long lines) k (line_code k (place_of long lines l) b (Branch op rs1 rs2 l)) → op_next ≡ k + size_of b (Branch op rs1 rs2 l) → Does (code_of long lines) k op_next (place_of long lines l) (Branch op rs1 rs2 l)
  branch_does k next op rs1 rs2 l h true has e = λ r. subst (λ n. Leads (code_of long lines) k r (if takes op r rs1 rs2 then place_of long lines l else n) r) (sym e) (leads_long (code_of long lines) short op rs1 rs2 k (place_of long lines l) r h.0 (near_label l h.3) has)
  branch_does k next op rs1 rs2 l h false has e = λ r. subst (λ n. Leads (code_of long lines) k r (if takes op r rs1 rs2 then place_of long lines l else n) r) (sym e) (leads_branch (code_of long lines) short op rs1 rs2 k (place_of long lines l) r h.0 (near_label l h.3) has)

  line_does : (k next : ℕ) (b : Bool) (line : Line) → IsLine lines line → HasAt (code_of long lines) k (line_code k (place_of long lines (target_of line)) b line) → next ≡ k + size_of b line → Does (code_of long lines) k next (place_of long lines (target_of line)) line
  line_does k next b (Label l) h has e = omega (arith, e)
  line_does k next b (Plain i) h has e = (has.0, e)
  line_does k next b (Branch op rs1 rs2 l) h has e = branch_does k next op rs1 rs2 l h b has e
  line_does k next b (Jump rd l) h has e = λ r. subst (λ n. Leads (code_of long lines) k r (place_of long lines l) (put r rd (4 * n))) (sym e) (leads_jump (code_of long lines) short rd k (place_of long lines l) r (near_label l h.1) has)
  line_does k next b (Const rd v) h has e = λ r small. subst (λ n. Leads (code_of long lines) k r n (put r rd v)) (sym e) (leads_block (code_of long lines) short (constant rd v) k r (put r rd v) has (constant_puts rd v r small) (size-few b (Const rd v)))
  line_does k next b (CodeOf rd l) h has e =
      let near = near_label l h.1 in
      λ r. subst (λ n. Leads (code_of long lines) k r n (put r rd (4 * place_of long lines l))) (sym e) (leads_block (code_of long lines) short (pair rd (4 * place_of long lines l)) k r (put r rd (4 * place_of long lines l)) has (address_puts rd (4 * place_of long lines l) r (omega (arith, near))) (omega arith))

  lines_done : DoesLines lines (code_of long lines) long
  lines_done k line at = line_does (start_of long lines k) (start_of long lines (k + 1)) (long k) line (are.each k line at) (line_has (place_of long lines) long lines k line at) (start_more long lines k line at)

-- the code does each line
pub lines_do : (lines : List Line) (code : List Instr) (places : List LabelPlace) (a : Assembles lines code places) → AreLines lines → length code ≤ 262144 → DoesLines lines code a.long
lines_do lines code places a are short =
    subst (λ c. DoesLines lines c a.long) (sym a.is_code) (lines_done lines a.long are a.least.fits (subst (λ c. length c ≤ 262144) a.is_code short))
