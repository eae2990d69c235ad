use Rattle.std.proofs.Common.{◌≡◌, ℕ, zero, suc, ◌+◌, ◌-◌, ◌<◌, ◌≤◌, Bool, true, false, List, [], ◌∷◌, length, take, drop, get_or, Option, Some, None, refl, sym, ◌∙◌, ap, subst, arith, length-drop}
use Rattle.std.specs.Prelude.{option_map, ◌==◌}
use Rattle.std.proofs.lemmas.Bool.{eqb-true}
use Rattle.std.proofs.lemmas.List.{drop-drop}
use Rattle.ml_lexer.specs.declared.comments.Turn.TheVariants.{Opens, Closes, Bytes}
use Rattle.ml_lexer.specs.Comments.{opens_comment, closes_comment}
use Rattle.ml_lexer.specs.Scan.{after_one, or_one, scan_character, scan_parts, inside}
use Rattle.ml_lexer.specs.Turn.{TurnIs}
use Rattle.ml_lexer.proofs.CommentScans.{inside_next}
use Rattle.ml_lexer.proofs.Ahead.{rest_slice}

after_twice : (o : Option ℕ) → after_one (after_one o) ≡ option_map (λ m. 2 + m) o
after_twice None = refl
after_twice (Some m) = ap Some (omega arith)

pub turn_opens : (bs : List ℕ) → opens_comment bs ≡ true → (d : ℕ) → TurnIs Opens d bs
turn_opens [] h d = absurd (cc)
turn_opens (a ∷ []) h d = absurd (cc)
turn_opens (a ∷ b ∷ bs) h d = (omega arith, rw h (after_twice (inside (suc (suc d)) 0 bs)))

pub turn_closes : (bs : List ℕ) → opens_comment bs ≡ false → closes_comment bs ≡ true → (d : ℕ) → TurnIs Closes d bs
turn_closes [] h k d = absurd (cc)
turn_closes (a ∷ []) h k d = absurd (cc)
turn_closes (a ∷ b ∷ bs) h k d = (omega arith, rw (h, k, inside_next d 0 b bs) (after_twice (inside d 0 bs)))

-- what is passed stands behind
inside_ahead : (d n : ℕ) (bs : List ℕ) → n ≤ length bs → inside (suc d) n bs ≡ option_map (λ m. n + m) (inside (suc d) 0 (drop n bs))
inside_ahead d zero bs h = none_ahead (inside (suc d) 0 bs)
  where
    none_ahead : (o : Option ℕ) → o ≡ option_map (λ m. 0 + m) o
    none_ahead None = refl
    none_ahead (Some m) = ap Some (omega arith)
inside_ahead d (suc n) [] h = absurd (omega arith)
inside_ahead d (suc n) (b ∷ bs) h = ap after_one (inside_ahead d n bs (omega arith)) ∙ one_ahead (inside (suc d) 0 (drop n bs))
  where
    one_ahead : (o : Option ℕ) → after_one (option_map (λ m. n + m) o) ≡ option_map (λ m. suc n + m) o
    one_ahead None = refl
    one_ahead (Some m) = ap Some (omega arith)

pub turn_text : (bs cs : List ℕ) (n : ℕ) → cs ≡ drop 1 bs → opens_comment bs ≡ false → closes_comment bs ≡ false → 0 < length bs → get_or bs 0 0 ≡ 34 → scan_parts cs ≡ Some n → n ≤ length cs → (d : ℕ) → TurnIs (Bytes (1 + n)) d bs
turn_text [] cs n w h k l q e m d = absurd (omega arith)
turn_text (b ∷ bs) cs n w h k l q e m d =
    let p : scan_parts bs ≡ Some n = ap scan_parts (sym w) ∙ e in
    let within : n ≤ length bs = subst (λ us. n ≤ length us) w m in
    let quote : (b == 34) ≡ true = rw q refl in
    let one : suc n ≡ 1 + n = omega arith in
    (omega arith, omega arith, rw (h, k, quote, p) (subst (λ i. after_one (inside (suc d) n bs) ≡ option_map (λ m. i + m) (inside (suc d) 0 (drop i (b ∷ bs)))) one (inside_ahead d (suc n) (b ∷ bs) (omega arith))))

not_equal : (b n : ℕ) → (b ≡ n → ⊥) → (b == n) ≡ false
not_equal b n h = by_test (b == n) refl
  where
    by_test : (v : Bool) → (b == n) ≡ v → v ≡ false
    by_test true e = absurd (h (eqb-true b n e))
    by_test false e = refl

pub turn_character : (bs : List ℕ) (n : ℕ) → opens_comment bs ≡ false → closes_comment bs ≡ false → 0 < length bs → (get_or bs 0 0 ≡ 34 → ⊥) → scan_character bs ≡ Some n → 0 < n → n ≤ length bs → (d : ℕ) → TurnIs (Bytes n) d bs
turn_character [] n h k l q e p m d = absurd (omega arith)
turn_character (b ∷ bs) zero h k l q e p m d = absurd (omega arith)
turn_character (b ∷ bs) (suc n) h k l q e p m d =
    let one : suc n - 1 ≡ n = omega arith in
    let step : inside (suc d) 0 (b ∷ bs) ≡ after_one (inside (suc d) (or_one (scan_character (b ∷ bs)) - 1) bs) = rw (h, k, not_equal b 34 q) refl in
    (p, m, step ∙ ap (λ o. after_one (inside (suc d) (or_one o - 1) bs)) e ∙ ap (λ i. after_one (inside (suc d) i bs)) one ∙ inside_ahead d (suc n) (b ∷ bs) m)

pub turn_other : (bs : List ℕ) → opens_comment bs ≡ false → closes_comment bs ≡ false → 0 < length bs → (get_or bs 0 0 ≡ 34 → ⊥) → scan_character bs ≡ None → (d : ℕ) → TurnIs (Bytes 1) d bs
turn_other [] h k l q e d = absurd (omega arith)
turn_other (b ∷ bs) h k l q e d =
    let step : inside (suc d) 0 (b ∷ bs) ≡ after_one (inside (suc d) (or_one (scan_character (b ∷ bs)) - 1) bs) = rw (h, k, not_equal b 34 q) refl in
    (omega arith, omega arith, step ∙ ap (λ o. after_one (inside (suc d) (or_one o - 1) bs)) e ∙ inside_ahead d 1 (b ∷ bs) (omega arith))

twice_ahead : (i n : ℕ) (o : Option ℕ) → option_map (λ m. i + m) (option_map (λ m. n + m) o) ≡ option_map (λ m. i + n + m) o
twice_ahead i n None = refl
twice_ahead i n (Some m) = ap Some (omega arith)

-- the rest of a comment behind a turn
pub comment_ahead : (bs : List ℕ) (i n d e : ℕ) → inside 1 0 bs ≡ option_map (λ m. i + m) (inside d 0 (drop i bs)) → inside d 0 (drop i bs) ≡ option_map (λ m. n + m) (inside e 0 (drop n (drop i bs))) → inside 1 0 bs ≡ option_map (λ m. i + n + m) (inside e 0 (drop (i + n) bs))
comment_ahead bs i n d e h k =
    h ∙ ap (option_map (λ m. i + m)) k ∙ twice_ahead i n (inside e 0 (drop n (drop i bs))) ∙ ap (λ cs. option_map (λ m. i + n + m) (inside e 0 cs)) (drop-drop n i bs)

pub zero_ahead : (o : Option ℕ) → o ≡ option_map (λ m. 0 + m) o
zero_ahead None = refl
zero_ahead (Some m) = ap Some (omega arith)

-- a turn inside a comment, at an index
pub step_opens : (bs : List ℕ) (i d : ℕ) → 0 < d → inside 1 0 bs ≡ option_map (λ m. i + m) (inside d 0 (drop i bs)) → TurnIs Opens (d - 1) (take (length bs - i) (drop i bs)) → (inside 1 0 bs ≡ option_map (λ m. i + 2 + m) (inside (d + 1) 0 (drop (i + 2) bs))) × (i + 2 ≤ length bs)
step_opens bs i zero p h t = absurd (omega arith)
step_opens bs i (suc e) p h t =
    let one : suc e - 1 ≡ e = omega arith in
    let two : suc (suc e) ≡ suc e + 1 = omega arith in
    let u = subst (λ k. TurnIs Opens k (drop i bs)) one (subst (λ cs. TurnIs Opens (suc e - 1) cs) (rest_slice i bs) t) in
    (subst (λ k. inside 1 0 bs ≡ option_map (λ m. i + 2 + m) (inside k 0 (drop (i + 2) bs))) two (comment_ahead bs i 2 (suc e) (suc (suc e)) h u.1), omega (arith, u.0, length-drop i bs))

pub step_closes : (bs : List ℕ) (i d : ℕ) → 0 < d → inside 1 0 bs ≡ option_map (λ m. i + m) (inside d 0 (drop i bs)) → TurnIs Closes (d - 1) (take (length bs - i) (drop i bs)) → (inside 1 0 bs ≡ option_map (λ m. i + 2 + m) (inside (d - 1) 0 (drop (i + 2) bs))) × (i + 2 ≤ length bs)
step_closes bs i zero p h t = absurd (omega arith)
step_closes bs i (suc e) p h t =
    let one : suc e - 1 ≡ e = omega arith in
    let u = subst (λ k. TurnIs Closes k (drop i bs)) one (subst (λ cs. TurnIs Closes (suc e - 1) cs) (rest_slice i bs) t) in
    (subst (λ k. inside 1 0 bs ≡ option_map (λ m. i + 2 + m) (inside k 0 (drop (i + 2) bs))) (sym one) (comment_ahead bs i 2 (suc e) e h u.1), omega (arith, u.0, length-drop i bs))

pub step_bytes : (bs : List ℕ) (i d n : ℕ) → 0 < d → inside 1 0 bs ≡ option_map (λ m. i + m) (inside d 0 (drop i bs)) → TurnIs (Bytes n) (d - 1) (take (length bs - i) (drop i bs)) → (inside 1 0 bs ≡ option_map (λ m. i + n + m) (inside d 0 (drop (i + n) bs))) × (i + n ≤ length bs)
step_bytes bs i zero n p h t = absurd (omega arith)
step_bytes bs i (suc e) n p h t =
    let one : suc e - 1 ≡ e = omega arith in
    let u = subst (λ k. TurnIs (Bytes n) k (drop i bs)) one (subst (λ cs. TurnIs (Bytes n) (suc e - 1) cs) (rest_slice i bs) t) in
    (comment_ahead bs i n (suc e) (suc e) h u.2, omega (arith, u.1, length-drop i bs, u.0))

pub positive : (n : ℕ) → false ≡ (n == 0) → 0 < n
positive zero h = absurd (cc)
positive (suc n) h = omega arith
