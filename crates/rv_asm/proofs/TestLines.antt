-- Lines of the tests: plain instructions put between two lines keep lines well-formed.
use Rattle.std.proofs.Common.{◌≡◌, ℕ, zero, suc, ◌+◌, ◌*◌, ◌<◌, ◌≤◌, List, [], ◌∷◌, ◌++◌, Some, pos, length, replicate, refl, sym, ap, ◌∙◌, subst, arith, length-append, Result, Ok, Err, IfOk, ◌⊎◌, inl, inr, lit<}
use Rattle.std.specs.Prelude.{slice_get}
use Rattle.std.proofs.lemmas.List.{length-replicate}
use Rattle.rv_model.specs.declared.instr.Op.TheVariants.{Addi, Beq, Bge, Ecall}
use Rattle.rv_model.specs.declared.line.Line.{Line}
use Rattle.rv_model.specs.declared.line.Line.TheVariants.{Label, Plain, Branch, Jump, Const, CodeOf}
use Rattle.rv_model.specs.Format.{plain}
use Rattle.rv_asm.specs.Lines.{IsDefined, IsLine, AreLines}

-- an instruction that does nothing
abbrev pub nop : Line
nop = Plain (plain Addi 0 0 0 (pos 0))

abbrev pub stop : Line
stop = Plain (plain Ecall 0 0 0 (pos 0))

some_same : {A : Type 0} (a b : A) → Some a ≡ Some b → a ≡ b
some_same a b e = cc

-- where a line of the longer list is in the shorter one
From : List Line → ℕ → List Line → ℕ → Line → Type 0
From a n b k line = (line ≡ nop) ⊎ ((m : ℕ) × (slice_get (a ++ b) m ≡ Some line) × (((m ≡ k) × (k < length a)) ⊎ ((m + n ≡ k) × (length a ≤ m))))

from_get : (a : List Line) (n : ℕ) (b : List Line) (k : ℕ) (line : Line) → slice_get (a ++ (replicate n nop ++ b)) k ≡ Some line → From a n b k line
unfolding From
from_get [] zero b k line e = inr (k, e, inr (omega arith, omega arith))
from_get [] (suc n) b zero line e = inl (sym (some_same nop line e))
from_get [] (suc n) b (suc k) line e = next (from_get [] n b k line e)
  where
    next : From [] n b k line → From [] (suc n) b (suc k) line
    next (inl is) = inl is
    next (inr (m, at, inl (same, lt))) = absurd (omega (arith, lt))
    next (inr (m, at, inr (sum, le))) = inr (m, at, inr (omega (arith, sum), le))
from_get (x ∷ a) n b zero line e = inr (zero, e, inl (refl, omega arith))
from_get (x ∷ a) n b (suc k) line e = next (from_get a n b k line e)
  where
    next : From a n b k line → From (x ∷ a) n b (suc k) line
    next (inl is) = inl is
    next (inr (m, at, inl (same, lt))) = inr (suc m, at, inl (ap suc same, omega (arith, lt)))
    next (inr (m, at, inr (sum, le))) = inr (suc m, at, inr (omega (arith, sum), omega (arith, le)))

-- and the other way round
to_get : (a : List Line) (n : ℕ) (b : List Line) (m : ℕ) (line : Line) → slice_get (a ++ b) m ≡ Some line → (k : ℕ) × (slice_get (a ++ (replicate n nop ++ b)) k ≡ Some line)
to_get [] zero b m line e = (m, e)
to_get [] (suc n) b m line e = let r = to_get [] n b m line e in (suc r.0, r.1)
to_get (x ∷ a) n b zero line e = (zero, e)
to_get (x ∷ a) n b (suc m) line e = let r = to_get a n b m line e in (suc r.0, r.1)

defined_still : (a : List Line) (n : ℕ) (b : List Line) (l : ℕ) → IsDefined (a ++ b) l → IsDefined (a ++ (replicate n nop ++ b)) l
defined_still a n b l h = to_get a n b h.0 (Label l) h.1

line_still : (a : List Line) (n : ℕ) (b : List Line) (line : Line) → IsLine (a ++ b) line → IsLine (a ++ (replicate n nop ++ b)) line
line_still a n b (Label l) h = tt
line_still a n b (Plain i) h = h
line_still a n b (Branch op rs1 rs2 l) h = (h.0, h.1, h.2, defined_still a n b l h.3)
line_still a n b (Jump rd l) h = (h.0, defined_still a n b l h.1)
line_still a n b (Const rd v) h = h
line_still a n b (CodeOf rd l) h = (h.0, defined_still a n b l h.1)

-- plain instructions between two lines
pub lines_between : (a : List Line) (n : ℕ) (b : List Line) → 0 < length b → AreLines (a ++ b) → AreLines (a ++ (replicate n nop ++ b))
unfolding From
lines_between a n b some are = record {
  each = λ k line e. each line (from_get a n b k line e);
  once = λ j k l e f. once l (from_get a n b j (Label l) e) (from_get a n b k (Label l) f);
  ends = λ k l e. ends l (from_get a n b k (Label l) e);
}
  where
    each : {k : ℕ} (line : Line) → From a n b k line → IsLine (a ++ (replicate n nop ++ b)) line
    each line (inl is) = subst (IsLine (a ++ (replicate n nop ++ b))) (sym is) (lit< tt, lit< tt, lit< tt, refl)
    each line (inr (m, at, place)) = line_still a n b line (are.each m line at)

    once : {j k : ℕ} (l : ℕ) → From a n b j (Label l) → From a n b k (Label l) → j ≡ k
    once l (inl is) q = absurd (cc)
    once l (inr p) (inl is) = absurd (cc)
    once l (inr (m, at, inl (same, lt))) (inr (m', at', inl (same', lt'))) = let e = are.once m m' l at at' in omega (arith, e, same, same')
    once l (inr (m, at, inl (same, lt))) (inr (m', at', inr (sum, le))) = let e = are.once m m' l at at' in absurd (omega (arith, e, same, lt, le))
    once l (inr (m, at, inr (sum, le))) (inr (m', at', inl (same', lt'))) = let e = are.once m m' l at at' in absurd (omega (arith, e, same', lt', le))
    once l (inr (m, at, inr (sum, le))) (inr (m', at', inr (sum', le'))) = let e = are.once m m' l at at' in omega (arith, e, sum, sum')

    all : length (a ++ (replicate n nop ++ b)) ≡ length a + (n + length b)
    all = length-append a (replicate n nop ++ b) ∙ ap (λ x. length a + x) (length-append (replicate n nop) b ∙ ap (λ x. x + length b) (length-replicate n nop))

    ends : {k : ℕ} (l : ℕ) → From a n b k (Label l) → k + 1 < length (a ++ (replicate n nop ++ b))
    ends l (inl is) = absurd (cc)
    ends l (inr (m, at, inl (same, lt))) = omega (arith, all, lt, some)
    ends l (inr (m, at, inr (sum, le))) = let e = are.ends m l at in omega (arith, all, e, sum, length-append a b)

-- a branch to the end
pub forward : AreLines (Branch Beq 1 2 0 ∷ Label 0 ∷ stop ∷ [])
forward = record { each = each; once = λ j k l e f. at j l e ∙ sym (at k l f); ends = λ k l e. let is = at k l e in omega (arith, is) }
  where
    each : (k : ℕ) (line : Line) → slice_get (Branch Beq 1 2 0 ∷ Label 0 ∷ stop ∷ []) k ≡ Some line → IsLine (Branch Beq 1 2 0 ∷ Label 0 ∷ stop ∷ []) line
    each zero line e = subst (IsLine (Branch Beq 1 2 0 ∷ Label 0 ∷ stop ∷ [])) (some_same _ line e) ((0b1100011, 0b000, refl), lit< tt, lit< tt, (1, refl))
    each (suc zero) line e = subst (IsLine (Branch Beq 1 2 0 ∷ Label 0 ∷ stop ∷ [])) (some_same _ line e) tt
    each (suc (suc zero)) line e = subst (IsLine (Branch Beq 1 2 0 ∷ Label 0 ∷ stop ∷ [])) (some_same _ line e) (lit< tt, lit< tt, lit< tt, refl)
    each (suc (suc (suc k))) line e = absurd (cc)

    at : (k l : ℕ) → slice_get (Branch Beq 1 2 0 ∷ Label 0 ∷ stop ∷ []) k ≡ Some (Label l) → k ≡ 1
    at zero l e = absurd (cc)
    at (suc zero) l e = refl
    at (suc (suc zero)) l e = absurd (cc)
    at (suc (suc (suc k))) l e = absurd (cc)

-- a branch to the end and a branch back
abbrev pub there_and_back : List Line
there_and_back = Label 0 ∷ Branch Beq 1 2 1 ∷ Branch Bge 3 4 0 ∷ Label 1 ∷ stop ∷ []

pub both : AreLines there_and_back
both = record { each = each; once = λ j k l e f. at j l e ∙ sym (at k l f); ends = λ k l e. ends k l e }
  where
    each : (k : ℕ) (line : Line) → slice_get there_and_back k ≡ Some line → IsLine there_and_back line
    each zero line e = subst (IsLine there_and_back) (some_same _ line e) tt
    each (suc zero) line e = subst (IsLine there_and_back) (some_same _ line e) ((0b1100011, 0b000, refl), lit< tt, lit< tt, (3, refl))
    each (suc (suc zero)) line e = subst (IsLine there_and_back) (some_same _ line e) ((0b1100011, 0b101, refl), lit< tt, lit< tt, (0, refl))
    each (suc (suc (suc zero))) line e = subst (IsLine there_and_back) (some_same _ line e) tt
    each (suc (suc (suc (suc zero)))) line e = subst (IsLine there_and_back) (some_same _ line e) (lit< tt, lit< tt, lit< tt, refl)
    each (suc (suc (suc (suc (suc k))))) line e = absurd (cc)

    at : (k l : ℕ) → slice_get there_and_back k ≡ Some (Label l) → k ≡ 3 * l
    at zero l e = let is : 0 ≡ l = cc in omega (arith, is)
    at (suc zero) l e = absurd (cc)
    at (suc (suc zero)) l e = absurd (cc)
    at (suc (suc (suc zero))) l e = let is : 1 ≡ l = cc in omega (arith, is)
    at (suc (suc (suc (suc zero)))) l e = absurd (cc)
    at (suc (suc (suc (suc (suc k))))) l e = absurd (cc)

    ends : (k l : ℕ) → slice_get there_and_back k ≡ Some (Label l) → k + 1 < 5
    ends zero l e = omega arith
    ends (suc zero) l e = omega arith
    ends (suc (suc zero)) l e = omega arith
    ends (suc (suc (suc zero))) l e = omega arith
    ends (suc (suc (suc (suc zero)))) l e = absurd (cc)
    ends (suc (suc (suc (suc (suc k))))) l e = absurd (cc)

-- one line
pub one : AreLines (nop ∷ [])
one = record { each = each; once = λ j k l e f. absurd (no j l e); ends = λ k l e. absurd (no k l e) }
  where
    each : (k : ℕ) (line : Line) → slice_get (nop ∷ []) k ≡ Some line → IsLine (nop ∷ []) line
    each zero line e = subst (IsLine (nop ∷ [])) (some_same nop line e) (lit< tt, lit< tt, lit< tt, refl)
    each (suc k) line e = absurd (cc)

    no : (k l : ℕ) → slice_get (nop ∷ []) k ≡ Some (Label l) → ⊥
    no zero l e = cc
    no (suc k) l e = cc

-- each other kind of line
abbrev pub all_kinds : ℕ → List Line
all_kinds v = Const 5 v ∷ CodeOf 6 7 ∷ Jump 1 7 ∷ Label 7 ∷ stop ∷ []

pub kinds : (v : ℕ) → AreLines (all_kinds v)
kinds v = record { each = each; once = λ j k l e f. at j l e ∙ sym (at k l f); ends = λ k l e. let is = at k l e in omega (arith, is) }
  where
    each : (k : ℕ) (line : Line) → slice_get (all_kinds v) k ≡ Some line → IsLine (all_kinds v) line
    each zero line e = subst (IsLine (all_kinds v)) (some_same _ line e) (lit< tt)
    each (suc zero) line e = subst (IsLine (all_kinds v)) (some_same _ line e) (lit< tt, (3, refl))
    each (suc (suc zero)) line e = subst (IsLine (all_kinds v)) (some_same _ line e) (lit< tt, (3, refl))
    each (suc (suc (suc zero))) line e = subst (IsLine (all_kinds v)) (some_same _ line e) tt
    each (suc (suc (suc (suc zero)))) line e = subst (IsLine (all_kinds v)) (some_same _ line e) (lit< tt, lit< tt, lit< tt, refl)
    each (suc (suc (suc (suc (suc k))))) line e = absurd (cc)

    at : (k l : ℕ) → slice_get (all_kinds v) k ≡ Some (Label l) → k ≡ 3
    at zero l e = absurd (cc)
    at (suc zero) l e = absurd (cc)
    at (suc (suc zero)) l e = absurd (cc)
    at (suc (suc (suc zero))) l e = refl
    at (suc (suc (suc (suc zero)))) l e = absurd (cc)
    at (suc (suc (suc (suc (suc k))))) l e = absurd (cc)

-- what a call that puts lines together gives

pub lines_made : {V E : Type 0} (items : V → List Line) (r : Result V E) (a : List Line) (n : ℕ) (b : List Line) → 0 < length b → AreLines (a ++ b) → IfOk r (λ v. items v ≡ a ++ (replicate n nop ++ b)) → IfOk r (λ v. AreLines (items v))
lines_made items (Ok v) a n b some are e = subst AreLines (sym e) (lines_between a n b some are)
lines_made items (Err x) a n b some are e = tt

pub kinds_made : {V E : Type 0} (items : V → List Line) (r : Result V E) (n : ℕ) → IfOk r (λ v. items v ≡ all_kinds n) → IfOk r (λ v. AreLines (items v))
kinds_made items (Ok v) n e = subst AreLines (sym e) (kinds n)
kinds_made items (Err x) n e = tt
