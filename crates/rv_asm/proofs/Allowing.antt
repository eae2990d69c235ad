-- Lines of which each stands where it may can be assembled.
use Rattle.std.proofs.Common.{◌≡◌, ℕ, zero, suc, ◌+◌, ◌<◌, List, [], ◌∷◌, Bool, true, false, cond, not, Some, length, refl, sym, ◌∙◌, ap, subst, ⊎_elim, arith}
use Rattle.std.specs.Prelude.{slice_get, ◌==◌}
use Rattle.std.specs.List.{position_or_len}
use Rattle.std.proofs.lemmas.Bool.{eqb-true, cases_lt}
use Rattle.std.proofs.lemmas.Option.{slice_get_within}
use Rattle.rv_model.specs.declared.instr.Op.{Op}
use Rattle.rv_model.specs.declared.line.Line.{Line}
use Rattle.rv_model.specs.declared.line.Line.TheVariants.{Label, Plain, Branch, Jump, Const, CodeOf}
use Rattle.rv_model.specs.Format.{Format, Register, Immediate, Shift, Store, Upper, Atomic, System}
use Rattle.rv_model.specs.Format.{Branch as BranchFormat, Jump as JumpFormat}
use Rattle.rv_model.specs.Table.{format}
use Rattle.rv_asm.specs.Lines.{IsBranch, IsDefined, IsLine, AreLines}
use Rattle.rv_asm.specs.Layout.{line_of, is_label}
use Rattle.rv_asm.specs.Standing.{StandsAt, is_of_branches, is_branch, label_of}

-- each line stands where it may
abbrev pub AllStand : List Line → Type 0
AllStand lines = (k : ℕ) (line : Line) → k < length lines → slice_get lines k ≡ Some line → StandsAt (length lines) k (line_of lines (label_of line)) line

branch_is : (op : Op) → is_branch op ≡ true → IsBranch op
branch_is op h = by (format op) refl h
  where
    by : (f : Format) → format op ≡ f → is_of_branches f ≡ true → IsBranch op
    by (Register o f g) e h = absurd (cc)
    by (Immediate o f) e h = absurd (cc)
    by (Shift o f g) e h = absurd (cc)
    by (Store o f) e h = absurd (cc)
    by (BranchFormat o f) e h = (o, f, e)
    by (Upper o) e h = absurd (cc)
    by (JumpFormat o) e h = absurd (cc)
    by (Atomic o f g) e h = absurd (cc)
    by (System o) e h = absurd (cc)

label_is : (l : ℕ) (line : Line) → is_label l line ≡ true → line ≡ Label l
label_is l (Label m) h = ap Label (eqb-true m l h)
label_is l (Plain i) h = absurd (cc)
label_is l (Branch op rs1 rs2 to) h = absurd (cc)
label_is l (Jump rd to) h = absurd (cc)
label_is l (Const rd v) h = absurd (cc)
label_is l (CodeOf rd m) h = absurd (cc)

-- a label that some line defines
defined_at : (l : ℕ) (lines : List Line) → line_of lines l < length lines → IsDefined lines l
defined_at l [] h = absurd (omega (arith, h))
defined_at l (x ∷ xs) h = by (defined_at l xs) (is_label l x) refl h
  where
    by : (line_of xs l < length xs → IsDefined xs l) → (b : Bool) → is_label l x ≡ b → cond (not b) (1 + position_or_len (is_label l) xs) 0 < suc (length xs) → IsDefined (x ∷ xs) l
    by rest true e h = (0, ap Some (label_is l x e))
    by rest false e h = let found = rest (omega (arith, h)) in (suc found.0, found.1)

line_is : (lines : List Line) (k : ℕ) (line : Line) → StandsAt (length lines) k (line_of lines (label_of line)) line → IsLine lines line
line_is lines k (Label l) h = tt
line_is lines k (Plain i) h = h
line_is lines k (Branch op rs1 rs2 to) h = (branch_is op h.0, h.1, h.2, defined_at to lines h.3)
line_is lines k (Jump rd to) h = (h.0, defined_at to lines h.1)
line_is lines k (Const rd v) h = h
line_is lines k (CodeOf rd m) h = (h.0, defined_at m lines h.1)

some_same : (a b : Line) → Some a ≡ Some b → a ≡ b
some_same a b e = cc

-- one more line that stands where it may
pub stand_more : (lines : List Line) (place defined : ℕ) (here : Line) → ((k : ℕ) (line : Line) → k < place → slice_get lines k ≡ Some line → StandsAt (length lines) k (line_of lines (label_of line)) line) → slice_get lines place ≡ Some here → defined ≡ line_of lines (label_of here) → StandsAt (length lines) place defined here → (k : ℕ) (line : Line) → k < place + 1 → slice_get lines k ≡ Some line → StandsAt (length lines) k (line_of lines (label_of line)) line
stand_more lines place defined here before at is stands k line below at' =
    ⊎_elim (λ h. before k line h at') (λ h. same (omega (arith, below, h))) (cases_lt k place)
  where
    same : k ≡ place → StandsAt (length lines) k (line_of lines (label_of line)) line
    same e =
        let now : slice_get lines place ≡ Some line = ap (slice_get lines) (sym e) ∙ at' in
        let one : here ≡ line = some_same here line (sym at ∙ now) in
        let there : StandsAt (length lines) place (line_of lines (label_of here)) here = subst (λ d. StandsAt (length lines) place d here) is stands in
        let moved : StandsAt (length lines) place (line_of lines (label_of line)) line = subst (λ x. StandsAt (length lines) place (line_of lines (label_of x)) x) one there in
        subst (λ n. StandsAt (length lines) n (line_of lines (label_of line)) line) (sym e) moved

-- such lines can be assembled
pub lines_allowed : (lines : List Line) → AllStand lines → AreLines lines
lines_allowed lines all = record {
  each = λ k line at. line_is lines k line (all k line (slice_get_within lines k line at) at);
  once = λ j k l at at'. sym (all j (Label l) (slice_get_within lines j (Label l) at) at).0 ∙ (all k (Label l) (slice_get_within lines k (Label l) at') at').0;
  ends = λ k l at. (all k (Label l) (slice_get_within lines k (Label l) at) at).1;
}
