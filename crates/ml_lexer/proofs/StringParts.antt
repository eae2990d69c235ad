use Rattle.std.proofs.Common.{◌≡◌, ℕ, zero, suc, ◌+◌, ◌-◌, ◌<◌, ◌≤◌, List, [], ◌∷◌, ◌++◌, length, take, drop, Option, Some, None, refl, sym, ◌∙◌, ap, subst, arith, length-drop, append_assoc}
use Rattle.std.proofs.lemmas.List.{drop-drop}
use Rattle.ml_lexer.specs.Values.{part, before, parts_bytes}
use Rattle.ml_lexer.proofs.Ahead.{rest_slice}

-- what is passed stands before the rest
bytes_passed : (k : ℕ) (bs : List ℕ) → parts_bytes k bs ≡ parts_bytes zero (drop k bs)
bytes_passed zero bs = refl
bytes_passed (suc k) [] = refl
bytes_passed (suc k) (b ∷ bs) = bytes_passed k bs

-- the part at the front, and those behind it
bytes_step : (bs : List ℕ) → 0 < length bs → 0 < (part bs).1 → parts_bytes zero bs ≡ before (part bs).0 (parts_bytes zero (drop (part bs).1 bs))
bytes_step [] h k = absurd (omega arith)
bytes_step (b ∷ bs) h k = ap (before (part (b ∷ bs)).0) (bytes_passed ((part (b ∷ bs)).1 - 1) bs ∙ ap (parts_bytes zero) (one_less (part (b ∷ bs)).1 k))
  where
    one_less : (n : ℕ) → 0 < n → drop (n - 1) bs ≡ drop n (b ∷ bs)
    one_less zero h = absurd (omega arith)
    one_less (suc n) h = ap (λ m. drop m bs) (omega arith)

before_more : (items bs : List ℕ) (b : Option ℕ) → items ++ before b bs ≡ (items ++ before b []) ++ bs
before_more items bs None = ap (λ is. is ++ bs) (sym (append_nil items))
  where
    append_nil : (is : List ℕ) → is ++ [] ≡ is
    append_nil [] = refl
    append_nil (i ∷ is) = ap (λ js. i ∷ js) (append_nil is)
before_more items bs (Some b) = sym (append_assoc items (b ∷ []) bs)

-- one more part, as the loop sees it
pub parts_more : (ps items more : List ℕ) (at n : ℕ) (b : Option ℕ) → at < length ps → 0 < n → (b, n) ≡ part (take (length ps - at) (drop at ps)) → parts_bytes 0 ps ≡ items ++ parts_bytes 0 (drop at ps) → more ≡ items ++ before b [] → parts_bytes 0 ps ≡ more ++ parts_bytes 0 (drop (at + n) ps)
parts_more ps items more at n b h k p i m =
    let is : (b, n) ≡ part (drop at ps) = subst (λ us. (b, n) ≡ part us) (rest_slice at ps) p in
    let first : b ≡ (part (drop at ps)).0 = ap (λ (q : Option ℕ × ℕ). q.0) is in
    let second : n ≡ (part (drop at ps)).1 = ap (λ (q : Option ℕ × ℕ). q.1) is in
    let step : parts_bytes 0 (drop at ps) ≡ before b (parts_bytes 0 (drop n (drop at ps))) =
    bytes_step (drop at ps) (omega (arith, length-drop at ps)) (subst (λ j. 0 < j) second k)
    ∙ ap (λ o. before o (parts_bytes 0 (drop (part (drop at ps)).1 (drop at ps)))) (sym first) ∙ ap (λ j. before b (parts_bytes 0 (drop j (drop at ps)))) (sym second) in
    i ∙ ap (λ us. items ++ us) step ∙ before_more items _ b ∙ ap (λ us. us ++ parts_bytes 0 (drop n (drop at ps))) (sym m) ∙ ap (λ us. more ++ parts_bytes 0 us) (drop-drop n at ps)

pub parts_within : (ps : List ℕ) (at n : ℕ) → at < length ps → (0 < length (take (length ps - at) (drop at ps)) → n ≤ length (take (length ps - at) (drop at ps))) → at + n ≤ length ps
parts_within ps at n h k =
    let w : 0 < length (drop at ps) → n ≤ length (drop at ps) = subst (λ us. 0 < length us → n ≤ length us) (rest_slice at ps) k in
    omega (arith, w (omega (arith, length-drop at ps)), length-drop at ps)
