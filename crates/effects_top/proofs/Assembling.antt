-- Lines that are instructions: the assembler gives just these.
use Rattle.std.proofs.Common.{◌≡◌, ℕ, zero, suc, ◌+◌, ◌≤◌, List, [], ◌∷◌, length, Some, refl, ap, sym, ◌∙◌, subst, arith}
use Rattle.std.specs.Prelude.{slice_get}
use Rattle.fx_base.specs.declared.refusal.Refusal.{Refusal}
use Rattle.fx_base.specs.declared.refusal.Refusal.TheVariants.{Usage, File, Syntax, Name, IllTyped, Limit, Memory}
use Rattle.rv_model.specs.declared.instr.Instr.{Instr}
use Rattle.rv_model.specs.declared.line.Line.{Line}
use Rattle.rv_model.specs.declared.line.Line.TheVariants.{Label, Plain}
use Rattle.rv_model.specs.Table.{AreWellFormed}
use Rattle.rv_asm.specs.declared.assembled.LabelPlace.{LabelPlace}
use Rattle.rv_asm.specs.Lines.{IsLine, AreLines}
use Rattle.rv_asm.specs.Layout.{Layout, count_from, code_from, place_of, Assembles, IsRefused}
use Rattle.effects_top.specs.Compiled.{lines_of}

-- a line of such code is an instruction of it
line_at : (code : List Instr) (k : ℕ) (line : Line) → slice_get (lines_of code) k ≡ Some line → (i : Instr) × (slice_get code k ≡ Some i) × (line ≡ Plain i)
line_at [] k line e = absurd (cc)
line_at (i ∷ code) zero line e = (i, refl, same i line e)
  where
    same : (i : Instr) (line : Line) → Some (Plain i) ≡ Some line → line ≡ Plain i
    same i line e = cc
line_at (i ∷ code) (suc k) line e = line_at code k line e

no_label : (code : List Instr) (k l : ℕ) → slice_get (lines_of code) k ≡ Some (Label l) → ⊥
no_label code k l e = let at = line_at code k (Label l) e in apart at.0 at.2
  where
    apart : (i : Instr) → Label l ≡ Plain i → ⊥
    apart i e = cc

-- well-formed code can be assembled
pub plain_lines : (code : List Instr) → AreWellFormed code → AreLines (lines_of code)
unfolding AreWellFormed
plain_lines code fit = record { each = each; once = λ j k l e f. absurd (no_label code j l e); ends = λ k l e. absurd (no_label code k l e) }
  where
    each : (k : ℕ) (line : Line) → slice_get (lines_of code) k ≡ Some line → IsLine (lines_of code) line
    each k line e = let at = line_at code k line e in subst (IsLine (lines_of code)) (sym at.2) (fit k at.0 at.1)

plain_count : (long : Layout) (k : ℕ) (code : List Instr) → count_from long k (lines_of code) ≡ length code
plain_count long k [] = refl
plain_count long k (i ∷ code) = let rest = plain_count long (suc k) code in omega (arith, rest)

plain_code : (place : ℕ → ℕ) (long : Layout) (k at : ℕ) (code : List Instr) → code_from place long k at (lines_of code) ≡ code
plain_code place long k at [] = refl
plain_code place long k at (i ∷ code) = ap (λ (is : List Instr). i ∷ is) (plain_code place long (suc k) (at + 1) code)

-- what is assembled is the code
pub plain_assembled : (code result : List Instr) (places : List LabelPlace) → Assembles (lines_of code) result places → result ≡ code
plain_assembled code result places a = a.is_code ∙ plain_code (place_of a.long (lines_of code)) a.long 0 0 code

-- short code is refused only for want of memory
pub plain_refused : (code : List Instr) (refusal : Refusal) → length code ≤ 262144 → IsRefused (lines_of code) refusal → refusal ≡ Memory
plain_refused code Memory few is = refl
plain_refused code (Limit kind found bound) few is =
    let count : found ≡ length code = sym is.3.is_count ∙ plain_count is.3.long 0 code in
    absurd (omega (arith, count, few, is.2))
plain_refused code Usage few is = absurd is
plain_refused code File few is = absurd is
plain_refused code (Syntax place) few is = absurd is
plain_refused code (Name place) few is = absurd is
plain_refused code (IllTyped place) few is = absurd is
