use Rattle.std.proofs.Common.{◌≡◌, ℕ, ◌+◌, ◌-◌, List, length, take, drop, length-drop, Option, Some, None, refl, sym, ◌∙◌, ap, arith}
use Rattle.std.specs.Prelude.{option_map}
use Rattle.std.proofs.lemmas.List.{drop-drop}
use Rattle.std.proofs.Math.Seq.{take-length}
use Rattle.ml_lexer.specs.Scan.{scan_parts}

twice_ahead : (i n : ℕ) (o : Option ℕ) → option_map (λ m. i + m) (option_map (λ m. n + m) o) ≡ option_map (λ m. i + n + m) o
twice_ahead i n None = refl
twice_ahead i n (Some m) = ap Some (omega arith)

-- the parts behind one more part
pub parts_ahead : (bs : List ℕ) (i n : ℕ) → scan_parts bs ≡ option_map (λ m. i + m) (scan_parts (drop i bs)) → scan_parts (drop i bs) ≡ option_map (λ m. n + m) (scan_parts (drop n (drop i bs))) → scan_parts bs ≡ option_map (λ m. i + n + m) (scan_parts (drop (i + n) bs))
parts_ahead bs i n h k = h ∙ ap (option_map (λ m. i + m)) k ∙ twice_ahead i n (scan_parts (drop n (drop i bs))) ∙ ap (λ cs. option_map (λ m. i + n + m) (scan_parts cs)) (drop-drop n i bs)

-- the slice from an index on
pub rest_slice : (i : ℕ) (bs : List ℕ) → take (length bs - i) (drop i bs) ≡ drop i bs
rest_slice i bs = ap (λ n. take n (drop i bs)) (sym (length-drop i bs)) ∙ take-length (drop i bs)
