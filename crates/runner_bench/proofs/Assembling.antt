-- The lines can be assembled, and to what.
use Rattle.std.proofs.Common.{◌≡◌, ℕ, zero, suc, ◌+◌, ◌<◌, List, [], ◌∷◌, Some, Bool, true, false, ◌||◌, refl, sym, ap, ◌∙◌, subst, lit<}
use Rattle.std.specs.Prelude.{slice_get, IsFalse}
use Rattle.rv_model.specs.declared.instr.Op.{Op}
use Rattle.rv_model.specs.declared.instr.Instr.{Instr}
use Rattle.rv_model.specs.declared.line.Line.{Line}
use Rattle.rv_model.specs.declared.line.Line.TheVariants.{Label, Plain, Branch, Jump, Const, CodeOf}
use Rattle.rv_asm.specs.declared.assembled.LabelPlace.{LabelPlace}
use Rattle.rv_asm.specs.Lines.{AreLines, IsLine}
use Rattle.rv_asm.specs.Layout.{Layout, Fits, Assembles, is_near, start_of, place_of, code_of}
use Rattle.runner_bench.specs.Program.{bench_lines, bench_code}

abbrev is_label : Line → Bool
is_label (Label l) = true
is_label (Plain i) = false
is_label (Branch op rs1 rs2 to) = false
is_label (Jump rd to) = false
is_label (Const rd value) = false
is_label (CodeOf rd label) = false

abbrev is_branch : Line → Bool
is_branch (Label l) = false
is_branch (Plain i) = false
is_branch (Branch op rs1 rs2 to) = true
is_branch (Jump rd to) = false
is_branch (Const rd value) = false
is_branch (CodeOf rd label) = false

abbrev any : (Line → Bool) → List Line → Bool
any p [] = false
any p (line ∷ lines) = p line || any p lines

-- no line passes the test
none : (p : Line → Bool) (lines : List Line) → IsFalse (any p lines) → (k : ℕ) (line : Line) → slice_get lines k ≡ Some line → IsFalse (p line)
none p [] f k line e = absurd (cc)
none p (x ∷ lines) f zero line e = subst (λ y. IsFalse (p y)) (some_is x line e) (left (p x) _ f)
  where
    some_is : (x y : Line) → Some x ≡ Some y → x ≡ y
    some_is x y e = cc

    left : (a b : Bool) → IsFalse (a || b) → IsFalse a
    left true b f = f
    left false b f = refl
none p (x ∷ lines) f (suc k) line e = none p lines (right (p x) _ f) k line e
  where
    right : (a b : Bool) → IsFalse (a || b) → IsFalse b
    right true b f = absurd (cc)
    right false b f = f

-- the lines from line n on
abbrev from : ℕ → List Line → List Line
from zero lines = lines
from (suc n) [] = []
from (suc n) (line ∷ lines) = from n lines

-- the only label is in line 1
label_at : (k l : ℕ) → slice_get bench_lines k ≡ Some (Label l) → k ≡ 1
label_at zero l e = absurd (cc)
label_at (suc zero) l e = refl
label_at (suc (suc k)) l e = absurd (apart (none is_label (from 2 bench_lines) refl k (Label l) e))
  where
    apart : true ≡ false → ⊥
    apart e = cc

-- the only branch is in line 9
branch_at : (k : ℕ) (op : Op) (rs1 rs2 to : ℕ) → slice_get bench_lines k ≡ Some (Branch op rs1 rs2 to) → (k ≡ 9) × (to ≡ 0)
branch_at zero op rs1 rs2 to e = absurd (cc)
branch_at (suc zero) op rs1 rs2 to e = absurd (cc)
branch_at (suc (suc zero)) op rs1 rs2 to e = absurd (cc)
branch_at (suc (suc (suc zero))) op rs1 rs2 to e = absurd (cc)
branch_at (suc (suc (suc (suc zero)))) op rs1 rs2 to e = absurd (cc)
branch_at (suc (suc (suc (suc (suc zero))))) op rs1 rs2 to e = absurd (cc)
branch_at (suc (suc (suc (suc (suc (suc zero)))))) op rs1 rs2 to e = absurd (cc)
branch_at (suc (suc (suc (suc (suc (suc (suc zero))))))) op rs1 rs2 to e = absurd (cc)
branch_at (suc (suc (suc (suc (suc (suc (suc (suc zero)))))))) op rs1 rs2 to e = absurd (cc)
branch_at (suc (suc (suc (suc (suc (suc (suc (suc (suc zero))))))))) op rs1 rs2 to e = (refl, cc)
branch_at (suc (suc (suc (suc (suc (suc (suc (suc (suc (suc k)))))))))) op rs1 rs2 to e = absurd (apart (none is_branch (from 10 bench_lines) refl k (Branch op rs1 rs2 to) e))
  where
    apart : true ≡ false → ⊥
    apart e = cc

abbrev AreEach : (Line → Type 0) → List Line → Type 0
AreEach P [] = Unit {0}
AreEach P (line ∷ lines) = P line × AreEach P lines

each_of : (P : Line → Type 0) (lines : List Line) → AreEach P lines → (k : ℕ) (line : Line) → slice_get lines k ≡ Some line → P line
each_of P [] all k line e = absurd (cc)
each_of P (x ∷ lines) all zero line e = subst P (some_is x line e) all.0
  where
    some_is : (x y : Line) → Some x ≡ Some y → x ≡ y
    some_is x y e = cc
each_of P (x ∷ lines) all (suc k) line e = each_of P lines all.1 k line e

all_fine : AreEach (IsLine bench_lines) bench_lines
all_fine = ((lit< tt, lit< tt, lit< tt, refl), (tt, ((lit< tt, lit< tt, lit< tt, refl), ((lit< tt, lit< tt, lit< tt, refl), ((lit< tt, lit< tt, lit< tt, refl), ((lit< tt, lit< tt, lit< tt, refl), ((lit< tt, lit< tt, lit< tt, refl), ((lit< tt, lit< tt, lit< tt, refl), ((lit< tt, lit< tt, lit< tt, refl), (((_, _, refl), lit< tt, lit< tt, (1, refl)), ((lit< tt, lit< tt, lit< tt, refl), ((lit< tt, lit< tt, lit< tt, refl), ((lit< tt, lit< tt, lit< tt, refl), ((lit< tt, lit< tt, lit< tt, refl), ((lit< tt, lit< tt, lit< tt, refl), ((lit< tt, lit< tt, lit< tt, refl), ((lit< tt, lit< tt, lit< tt, refl), ((lit< tt, lit< tt, lit< tt, refl), tt))))))))))))))))))

pub bench_are_lines : AreLines bench_lines
bench_are_lines = record {
  each = each_of (IsLine bench_lines) bench_lines all_fine;
  once = λ j k l a b. label_at j l a ∙ sym (label_at k l b);
  ends = λ k l e. subst (λ n. n + 1 < 18) (sym (label_at k l e)) (lit< tt);
}

-- with no long branch each label is in reach
near : Fits bench_lines (λ k. false)
near k op rs1 rs2 to e short =
    let at = branch_at k op rs1 rs2 to e in
    subst (λ (p : ℕ × ℕ). is_near (start_of (λ j. false) bench_lines p.0) (place_of (λ j. false) bench_lines p.1) ≡ true) (λ j. (sym at.0 j, sym at.1 j)) refl

-- the code, where the branch is long or isn't
abbrev code_if : Bool → List Instr
code_if long = code_of (λ k. long) bench_lines

differ : (b : Bool) → (b ≡ true → false ≡ true) → b ≡ false
differ true f = absurd (apart (f refl))
  where
    apart : false ≡ true → ⊥
    apart e = cc
differ false f = refl

pub bench_assembled : (code : List Instr) (places : List LabelPlace) → Assembles bench_lines code places → code ≡ bench_code
bench_assembled code places a =
    let short : a.long 9 ≡ false = differ (a.long 9) (λ t. a.least.least (λ k. false) near 9 t) in
    a.is_code ∙ same a.long ∙ ap code_if short
  where
    same : (long : Layout) → code_of long bench_lines ≡ code_of (λ k. long 9) bench_lines
    same long = refl
