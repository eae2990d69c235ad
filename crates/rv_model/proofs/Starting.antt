-- Filling the words of the start.
use Rattle.std.proofs.Common.{◌≡◌, ◌≢◌, ℕ, zero, suc, ◌+◌, ◌<◌, ◌≤◌, List, [], ◌∷◌, ◌++◌, length, take, get_or, replicate, Some, Bool, true, false, inl, inr, ◌⊎◌, refl, sym, ap, ◌∙◌, subst, arith, length-take-le}
use Rattle.std.specs.Prelude.{slice_get, ◌==◌, if◌then◌else◌}
use Rattle.std.proofs.lemmas.Bool.{cases_lt, eqb-true, ne_eqb}
use Rattle.std.proofs.lemmas.List.{get_or-replicate, length-replicate, get_or_past, get_or-take, take_more}
use Rattle.std.proofs.lemmas.Option.{get_or_from_slice_get, slice_get-get_or, slice_get_within}
use Rattle.rv_model.specs.declared.image.StartWord.{StartWord}
use Rattle.rv_model.specs.Machine.{words_of, set_word}
use Rattle.rv_model.specs.Start.{first_hart, first_harts, start_words, AreRising}

-- words that are all 0
pub words_of-replicate : (n : ℕ) → words_of (replicate n 0) ≡ start_words []
words_of-replicate n = λ j k. each k j
  where
    by : (k : ℕ) → (k < n) ⊎ (n ≤ k) → words_of (replicate n 0) k ≡ 0
    by k (inl lt) = get_or-replicate n k 0 0 lt
    by k (inr ge) = get_or_past (replicate n 0) k 0 (let nothing : ℕ = 0 in let size : length (replicate n nothing) ≡ n = length-replicate n nothing in omega (arith, ge, size))

    each : (k : ℕ) → words_of (replicate n 0) k ≡ 0
    each k = by k (cases_lt k n)

-- one more start word, at a place of its own
start_words-push : (a : List StartWord) (s : StartWord) → ((j : ℕ) (x : StartWord) → slice_get a j ≡ Some x → x.at ≢ s.at) → start_words (a ++ s ∷ []) ≡ set_word (start_words a) s.at s.value
start_words-push [] s other = refl
start_words-push (x ∷ a) s other = by_rest (start_words-push a s (λ j. other (suc j)))
  where
    by : start_words (a ++ s ∷ []) ≡ set_word (start_words a) s.at s.value → (k : ℕ) (b : Bool) → (k == x.at) ≡ b → (if b then x.value else start_words (a ++ s ∷ []) k) ≡ (if k == s.at then s.value else (if b then x.value else start_words a k))
    by rest k true e = sym (ap (λ c. if c then s.value else x.value) (ne_eqb k s.at (λ here. other 0 x refl (sym (eqb-true k x.at e) ∙ here))))
    by rest k false e = ap (λ w. w k) rest

    by_rest : start_words (a ++ s ∷ []) ≡ set_word (start_words a) s.at s.value → start_words (x ∷ (a ++ s ∷ [])) ≡ set_word (start_words (x ∷ a)) s.at s.value
    by_rest rest = λ j k. by rest k (k == x.at) refl j

-- a start word's number is above those of all that stand before it
rising_below : (start : List StartWord) → AreRising start → (j k : ℕ) (a b : StartWord) → j < k → slice_get start j ≡ Some a → slice_get start k ≡ Some b → a.at < b.at
rising_below start rising j zero a b lt e f = absurd (omega (arith, lt))
rising_below start rising j (suc k) a b lt e f = by (rising_below start rising j k a) (cases_lt j k)
  where
    before : slice_get start k ≡ Some (get_or start k b)
    before = slice_get-get_or start k b (let h = slice_get_within start (suc k) b f in omega (arith, h))

    below : (get_or start k b).at < b.at
    below = rising k (get_or start k b) b before f

    some_is : (x y : StartWord) → Some x ≡ Some y → x ≡ y
    some_is x y s = cc

    by : ((c : StartWord) → j < k → slice_get start j ≡ Some a → slice_get start k ≡ Some c → a.at < c.at) → (j < k) ⊎ (k ≤ j) → a.at < b.at
    by earlier (inl less) = let h = earlier (get_or start k b) less e before in omega (arith, h, below)
    by earlier (inr ge) =
        let same : k ≡ j = omega (arith, ge, lt) in
        let is : get_or start k b ≡ a = some_is (get_or start k b) a (sym before ∙ ap (slice_get start) same ∙ e) in
        subst (λ (x : StartWord). x.at < b.at) is below

-- the words of one start word more
pub start_words-take : (start : List StartWord) → AreRising start → (k : ℕ) (d : StartWord) → k < length start → start_words (take (k + 1) start) ≡ set_word (start_words (take k start)) (get_or start k d).at (get_or start k d).value
start_words-take start rising k d lt = ap start_words (take_more start k d lt) ∙ start_words-push (take k start) (get_or start k d) earlier
  where
    earlier : (j : ℕ) (x : StartWord) → slice_get (take k start) j ≡ Some x → x.at ≢ (get_or start k d).at
    earlier j x at same =
        let within = slice_get_within (take k start) j x at in
        let less : j < k = omega (arith, within, length-take-le k start (omega (arith, lt))) in
        let is : get_or start j x ≡ x = sym (get_or-take k start j x less) ∙ get_or_from_slice_get (take k start) j x x at in
        let there : slice_get start j ≡ Some x = slice_get-get_or start j x (omega (arith, less, lt)) ∙ ap Some is in
        let above = rising_below start rising j k x (get_or start k d) less there (slice_get-get_or start k d lt) in
        absurd (omega (arith, above, same))

-- one more hart
first_harts-push : (i n : ℕ) → first_harts i (suc n) ≡ first_harts i n ++ first_hart (i + n) ∷ []
first_harts-push i zero = ap (λ k. first_hart k ∷ []) (let e : i ≡ i + 0 = omega arith in e)
first_harts-push i (suc n) = ap (λ l. first_hart i ∷ l) (first_harts-push (suc i) n ∙ ap (λ k. first_harts (suc i) n ++ first_hart k ∷ []) (let e : suc i + n ≡ i + suc n = omega arith in e))

pub first_harts-more : (n : ℕ) → first_harts 0 (n + 1) ≡ first_harts 0 n ++ first_hart n ∷ []
first_harts-more n =
    ap (first_harts 0) (let e : n + 1 ≡ suc n = omega arith in e)
    ∙ first_harts-push 0 n
    ∙ ap (λ k. first_harts 0 n ++ first_hart k ∷ []) (let e : 0 + n ≡ n = omega arith in e)
