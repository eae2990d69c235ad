-- The rank of two roots that become one.
use Rattle.std.proofs.Common.{◌≡◌, ℕ, suc, ◌+◌, ◌*◌, ◌^◌, ◌≤◌, ◌<◌, true, false, ap, arith, ⊎_elim, nat_lt}
use Rattle.std.proofs.Math.Nat.{pow-suc}
use Rattle.std.proofs.lemmas.Bool.Decides.{eqb_tells, leb_tells, nat_tests}
use Rattle.type_graph.specs.Unified.{merged_rank}

rank_of_equal : (a b : ℕ) → a ≤ 32 → a ≡ b → merged_rank a b ≡ suc a
rank_of_equal a b h e = grind (arith, nat_tests)

rank_of_less : (a b : ℕ) → a < b → merged_rank a b ≡ b
rank_of_less a b h = grind (arith, nat_tests)

rank_of_more : (a b : ℕ) → b < a → merged_rank a b ≡ a
rank_of_more a b h = grind (arith, nat_tests)

-- a row of links to the first is shorter than one to the second may be
pub rank_above_less : (a b : ℕ) → nat_lt a b ≡ true → (suc a ≤ merged_rank a b) × (b ≤ merged_rank a b)
rank_above_less a b h =
    let lt : a < b = grind (arith, nat_tests) in
    let e = rank_of_less a b lt in
    (omega arith, omega arith)

pub rank_above_other : (a b : ℕ) → a ≤ 32 → nat_lt a b ≡ false → (suc b ≤ merged_rank a b) × (a ≤ merged_rank a b)
rank_above_other a b small h =
    let le : b ≤ a = grind (arith, nat_tests) in
    ⊎_elim
    (λ p. let e = rank_of_equal a b small p.1 in (omega arith, omega arith))
    (λ p. let lt : b < a = omega arith in let e = rank_of_more a b lt in (omega arith, omega arith))
    (eqb_tells a b)

-- no more types are needed than for both
pub rank_weighs : (a b : ℕ) → a ≤ 32 → 2 ^ merged_rank a b ≤ 2 ^ a + 2 ^ b
rank_weighs a b small =
    ⊎_elim
    (λ p.
    let twice : 2 ^ suc a ≡ 2 ^ a * 2 = pow-suc 2 a in
    let e : 2 ^ merged_rank a b ≡ 2 ^ suc a = ap (λ k. 2 ^ k) (rank_of_equal a b small p.1) in
    let same : 2 ^ a ≡ 2 ^ b = ap (λ k. 2 ^ k) p.1 in
    omega arith)
    (λ p.
    ⊎_elim
    (λ q. let e : 2 ^ merged_rank a b ≡ 2 ^ b = ap (λ k. 2 ^ k) (rank_of_less a b q.1) in omega arith)
    (λ q. let lt : b < a = omega arith in let e : 2 ^ merged_rank a b ≡ 2 ^ a = ap (λ k. 2 ^ k) (rank_of_more a b lt) in omega arith)
    (leb_tells (suc a) b))
    (eqb_tells a b)
