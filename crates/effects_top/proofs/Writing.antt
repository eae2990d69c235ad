-- What a sink holds after one write and another.
use Rattle.std.proofs.Common.{◌≡◌, ℕ, ◌+◌, ◌-◌, ◌≤◌, List, [], ◌∷◌, ◌++◌, take, drop, length, Option, Some, None, ap, sym, ◌∙◌, refl, append_assoc, arith, le_refl, le_trans}
use Rattle.std.proofs.Math.Seq.{take-add, take-append-add, take-length}
use Rattle.std.proofs.lemmas.List.{take_all, take-append-le, length-drop, length-append, append-nil}
use Rattle.fx_base.specs.Told.{appended}
use Rattle.fx_base.specs.Faults.{Rose}
use Rattle.fx_base.specs.declared.settings.Written.{Written}
use Rattle.fx_base.specs.declared.settings.Written.TheVariants.{Whole, Failed}
use Rattle.effects_top.specs.Output.{Wrote, piece_bytes, joined}
use Rattle.effects_top.specs.declared.output.Piece.{Piece}

-- the part of a list from a place on
part_is : (bytes : List ℕ) (k : ℕ) → take (length bytes - k) (drop k bytes) ≡ drop k bytes
part_is bytes k = take_all (length bytes - k) (drop k bytes) (simp length-drop (omega arith))

-- n more bytes behind the first k
pub appended_on : (held : Option (List ℕ)) (bytes : List ℕ) (k n : ℕ) → appended (appended held k bytes) n (take (length bytes - k) (drop k bytes)) ≡ appended held (k + n) bytes
appended_on None bytes k n = refl
appended_on (Some h) bytes k n =
    ap (λ (l : List ℕ). Some ((h ++ take k bytes) ++ take n l)) (part_is bytes k)
    ∙ ap Some (append_assoc h (take k bytes) (take n (drop k bytes)) ∙ ap (λ (l : List ℕ). h ++ l) (sym (take-add k n bytes)))

-- nothing is written of no bytes
pub wrote-none : (held : Option (List ℕ)) (faults : ℕ) → Wrote held held faults faults [] Whole
wrote-none held faults = record {
  whole = λ e. none held;
  front = (0, le_refl 0, none held);
  failed = λ e. cc;
  counted = le_refl faults;
}
  where
    none : (held : Option (List ℕ)) → held ≡ appended held 0 []
    none None = refl
    none (Some h) = ap Some (sym (append-nil h))

-- all of the first bytes were written, and then the second ones were
pub wrote-on : (before mid after : Option (List ℕ)) (faults faults' faults'' : ℕ) (first second : List ℕ) (written : Written)
    → Wrote before mid faults faults' first Whole → Wrote mid after faults' faults'' second written → Wrote before after faults faults'' (first ++ second) written
wrote-on before mid after faults faults' faults'' first second written one two =
    let n = two.front.0 in
    let within : n ≤ length second = two.front.1 in
    let is : after ≡ appended mid n second = two.front.2 in
    record {
      whole = λ e. two.whole e ∙ ap (λ (h : Option (List ℕ)). appended h (length second) second) (one.whole refl) ∙ joined_at before first second (length second) ∙ ap (λ (k : ℕ). appended before k (first ++ second)) (sym (length-append first second));
      front = (length first + n, omega (arith, length-append first second), is ∙ ap (λ (h : Option (List ℕ)). appended h n second) (one.whole refl) ∙ joined_at before first second n);
      failed = λ e. let r = two.failed e in let c = one.counted in rose_since faults faults' faults'' c r;
      counted = le_trans one.counted two.counted;
    }
  where
    joined_at : (before : Option (List ℕ)) (first second : List ℕ) (n : ℕ) → appended (appended before (length first) first) n second ≡ appended before (length first + n) (first ++ second)
    joined_at None first second n = refl
    joined_at (Some h) first second n =
        ap (λ (l : List ℕ). Some ((h ++ l) ++ take n second)) (take-length first)
        ∙ ap Some (append_assoc h first (take n second) ∙ ap (λ (l : List ℕ). h ++ l) (sym (take-append-add first second n)))

    rose_since : (a b c : ℕ) → a ≤ b → Rose b c → Rose a c
    rose_since a b c h r = omega arith

-- the first bytes could not be written whole
pub wrote-failed : (before after : Option (List ℕ)) (faults faults' : ℕ) (first second : List ℕ) → Wrote before after faults faults' first Failed → Wrote before after faults faults' (first ++ second) Failed
wrote-failed before after faults faults' first second one =
    let n = one.front.0 in
    let within : n ≤ length first = one.front.1 in
    record {
      whole = λ e. cc;
      front = (n, omega (arith, length-append first second), one.front.2 ∙ same before first second n within);
      failed = one.failed;
      counted = one.counted;
    }
  where
    same : (before : Option (List ℕ)) (first second : List ℕ) (n : ℕ) → n ≤ length first → appended before n first ≡ appended before n (first ++ second)
    same None first second n within = refl
    same (Some h) first second n within = ap (λ (l : List ℕ). Some (h ++ l)) (sym (take-append-le n first second within))

-- the bytes of no pieces, and of a first one and others
pub joined-none : joined [] ≡ []
joined-none = refl

pub joined-first : (p : Piece) (ps : List Piece) → joined (p ∷ ps) ≡ piece_bytes p ++ joined ps
joined-first p ps = refl

-- no pieces have no bytes
pub joined-empty : (ps : List Piece) → length ps ≡ 0 → joined ps ≡ []
joined-empty [] e = joined-none
joined-empty (p ∷ ps) e = absurd (omega arith)

pub joined-parted : (ps rest : List Piece) (p : Piece) → ps ≡ p ∷ rest → joined ps ≡ piece_bytes p ++ joined rest
joined-parted ps rest p e = ap joined e ∙ joined-first p rest
