-- The first row that a word fits is that of the operation by which the word is decoded.
use Rattle.std.proofs.Common.{◌≡◌, ℕ, zero, suc, ◌^◌, ◌<◌, ◌≤◌, List, [], ◌∷◌, Bool, true, false, Some, None, cond, map, length, get_or, refl, sym, ap, ◌∙◌, arith}
use Rattle.std.specs.Prelude.{◌==◌, if◌then◌else◌, nat_lt, slice_get, position}
use Rattle.std.specs.List.{position_or_len}
use Rattle.std.proofs.Math.ListN.{get_or-map}
use Rattle.std.proofs.lemmas.Bool.{ltb-false}
use Rattle.std.proofs.lemmas.List.{get_or-map as get_or_map}
use Rattle.std.proofs.lemmas.Option.{slice_get-get_or, slice_get_within}
use Rattle.std.proofs.lemmas.List.Quantifiers.{position-Some}
use Rattle.std.proofs.lemmas.List.Sums.{fails_before_first}
use Rattle.rv_model.specs.declared.instr.Op.{Op}
use Rattle.rv_model.specs.declared.instr.Op.TheVariants.{Add}
use Rattle.rv_model.specs.Table.{bits_of, read_as, decoded, decoded_among, ops}
use Rattle.rv_model.proofs.Decoding.{number, ops-number}
use Rattle.rv_table.specs.declared.rows.Row.{Row}
use Rattle.rv_table.specs.Rows.{row_of, has_bits}
use Rattle.rv_table.proofs.Matching.{has_bits-row}

-- the operation reads an instruction that has the word
abbrev reads : ℕ → Op → Bool
reads w op = bits_of (read_as op w) == w

some_same : {A : Type 0} (a b : A) → Some a ≡ Some b → a ≡ b
some_same a b e = cc

-- no operation reads the word
decoded_among-none : (l : List Op) (w : ℕ) → ((k : ℕ) (o : Op) → slice_get l k ≡ Some o → reads w o ≡ false) → decoded_among l w ≡ None
unfolding decoded_among
decoded_among-none [] w h = refl
decoded_among-none (op ∷ rest) w h =
    ap (λ b. if b then Some (read_as op w) else decoded_among rest w) (h 0 op refl) ∙ decoded_among-none rest w (λ k. h (suc k))

none-decoded_among : (l : List Op) (w : ℕ) → decoded_among l w ≡ None → (k : ℕ) (o : Op) → slice_get l k ≡ Some o → reads w o ≡ false
unfolding decoded_among
none-decoded_among [] w e k o at = absurd (cc)
none-decoded_among (op ∷ rest) w e k o at = by (λ later k. none-decoded_among rest w later k o) (reads w op) refl e k at
  where
    by : (decoded_among rest w ≡ None → (k : ℕ) → slice_get rest k ≡ Some o → reads w o ≡ false) → (b : Bool) → reads w op ≡ b → (if b then Some (read_as op w) else decoded_among rest w) ≡ None → (k : ℕ) → slice_get (op ∷ rest) k ≡ Some o → reads w o ≡ false
    by later true t e k at = absurd (cc)
    by later false t e zero at = ap (reads w) (sym (some_same op o at)) ∙ t
    by later false t e (suc k) at = later e k at

-- the first operation that does
decoded_among-first : (l : List Op) (w i : ℕ) (op : Op) → slice_get l i ≡ Some op → reads w op ≡ true → ((k : ℕ) (o : Op) → k < i → slice_get l k ≡ Some o → reads w o ≡ false) → decoded_among l w ≡ Some (read_as op w)
unfolding decoded_among
decoded_among-first [] w i op at t h = absurd (cc)
decoded_among-first (o ∷ rest) w zero op at t h =
    let is = some_same o op at in
    ap (λ b. if b then Some (read_as o w) else decoded_among rest w) (ap (reads w) is ∙ t) ∙ ap (λ o. Some (read_as o w)) is
decoded_among-first (o ∷ rest) w (suc i) op at t h =
    ap (λ b. if b then Some (read_as o w) else decoded_among rest w) (h 0 o (omega arith) refl) ∙ decoded_among-first rest w i op at t (λ k o' lt. h (suc k) o' (omega (arith, lt)))

get_or-slice_get : (l : List Op) (k : ℕ) (o : Op) → slice_get l k ≡ Some o → get_or l k Add ≡ o
get_or-slice_get l k o at = some_same _ _ (sym (slice_get-get_or l k Add (slice_get_within l k o at)) ∙ at)

-- what the test of a row says
test_at : (w k : ℕ) → w < 2 ^ 32 → (b : Bool) → has_bits w (get_or (map row_of ops) k (row_of Add)) ≡ b → (o : Op) → slice_get ops k ≡ Some o → reads w o ≡ b
test_at w k lt b e o at =
    sym (has_bits-row o w lt)
    ∙ ap (λ o. has_bits w (row_of o)) (sym (get_or-slice_get ops k o at))
    ∙ ap (has_bits w) (sym (get_or-map row_of ops k Add)) ∙ e

-- the row that is found
pub decoded-found : (w i : ℕ) (d : Row) → w < 2 ^ 32 → position (has_bits w) (map row_of ops) ≡ Some i → decoded w ≡ Some (read_as (get_or (map row_of ops) i d).op w)
decoded-found w i d lt e =
    let p = position-Some (has_bits w) (map row_of ops) i (row_of Add) e in
    let op = get_or ops i Add in
    let at : slice_get ops i ≡ Some op = slice_get-get_or ops i Add p.0 in
    decoded_among-first ops w i op at (test_at w i lt true p.1 op at) (λ k o below at'. test_at w k lt false (p.2 k below) o at')
    ∙ ap (λ r. Some (read_as r.op w)) (sym (get_or_map row_of ops i Add d p.0))

none_fails : (n m : ℕ) → cond (nat_lt n m) (Some n) None ≡ None → m ≤ n
none_fails n m e = by (nat_lt n m) refl e
  where
    by : (b : Bool) → nat_lt n m ≡ b → cond b (Some n) None ≡ None → m ≤ n
    by true t e = absurd (cc)
    by false t e = ltb-false n m t

-- no row is found
pub decoded-not_found : (w : ℕ) → w < 2 ^ 32 → position (has_bits w) (map row_of ops) ≡ None → decoded w ≡ None
decoded-not_found w lt e =
    let rows = map row_of ops in
    let past : length rows ≤ position_or_len (has_bits w) rows = none_fails (position_or_len (has_bits w) rows) (length rows) e in
    decoded_among-none ops w (λ k o at. test_at w k lt false (fails_before_first (has_bits w) rows k (row_of Add) (omega (arith, past, slice_get_within ops k o at))) o at)

-- a word is decoded by no operation exactly where it fits no row
pub none-no_row : (w : ℕ) → w < 2 ^ 32 → decoded w ≡ None → (op : Op) → has_bits w (row_of op) ≡ false
none-no_row w lt e op = has_bits-row op w lt ∙ none-decoded_among ops w e (number op) op (ops-number op)

pub no_row-none : (w : ℕ) → w < 2 ^ 32 → ((op : Op) → has_bits w (row_of op) ≡ false) → decoded w ≡ None
no_row-none w lt h = decoded_among-none ops w (λ k o at. sym (has_bits-row o w lt) ∙ h o)
