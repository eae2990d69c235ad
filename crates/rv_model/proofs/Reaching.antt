-- What a run reaches, and how it goes on.
use Rattle.std.proofs.Common.{◌≡◌, ℕ, zero, suc, ◌<◌, ◌≤◌, List, [], ◌∷◌, ◌++◌, ◌+◌, length, map, Some, refl, sym, ap, ◌∙◌, subst, arith, append_assoc, get_or, length-set}
use native.Mathlib.Decide.{ℕ_discrete}
use Rattle.std.proofs.lemmas.List.{get_or-set_same, get_or-set_other}
use Rattle.std.specs.Prelude.{slice_get, slice_set, slice_index, All}
use Rattle.rv_model.specs.declared.image.Image.{Image}
use Rattle.rv_model.specs.declared.hart.Hart.{Hart as HartState}
use Rattle.rv_model.specs.declared.hart.Access.{Access}
use Rattle.rv_model.specs.declared.hart.Part.{Part}
use Rattle.rv_model.specs.Machine.{Hart, Plan, Moves, Accesses, Awaits, Goes, plan, answered, word_at, words_after, moved, next, put, part_of, place, written, hart_of, words_of}
use Rattle.rv_model.specs.Layout.{Keeps, IsSound}
use Rattle.rv_model.specs.Run.{Machine, turned, turn_of, hart_step, machine_run, reached, IsWithin, IsWithinBudget, Reaches, Runs, IsLed, machine_of}
use Rattle.rv_model.proofs.Lists.{get_set_same, set_twice, set_same, map_get, map_set, set_stored}

pub run_then : (image : Image) (s : Machine) (a : List ℕ) (n : ℕ) → machine_run image s (a ++ n ∷ []) ≡ hart_step image n (machine_run image s a)
run_then image s [] n = refl
run_then image s (i ∷ a) n = run_then image (hart_step image i s) a n

-- b is reached from a by some list within the budget, however a was reached
abbrev pub Grows : Image → Machine → Machine → Type 0
Grows image a b = (list : List ℕ) → IsWithinBudget image list → reached image list ≡ a → (more : List ℕ) × IsWithinBudget image (list ++ more) × (reached image (list ++ more) ≡ b)

pub grows_none : (image : Image) (s : Machine) → Grows image s s
grows_none image s list within e = ([], subst (λ l. IsWithinBudget image l) (sym (nil list)) within, ap (reached image) (nil list) ∙ e)
  where
    nil : (l : List ℕ) → l ++ [] ≡ l
    nil [] = refl
    nil (x ∷ l) = ap (λ m. x ∷ m) (nil l)

pub grows_then : (image : Image) (a b c : Machine) → Grows image a b → Grows image b c → Grows image a c
grows_then image a b c f g list within e =
    let x = f list within e in
    let y = g (list ++ x.0) x.1 x.2 in
    (x.0 ++ y.0, subst (λ l. IsWithinBudget image l) (append_assoc list x.0 y.0) y.1, ap (reached image) (sym (append_assoc list x.0 y.0)) ∙ y.2)

pub grows_reaches : (image : Image) (a b : Machine) → Grows image a b → Reaches image a → Reaches image b
grows_reaches image a b f r = let x = f r.0 r.1 r.2 in (r.0 ++ x.0, x.1, x.2)

-- the log grows, and an end stays
pub grows_keeps : (image : Image) (a b : Machine) → Runs image → Grows image a b → Reaches image a → Keeps a.words b.words
grows_keeps image a b runs f r =
    let x = f r.0 r.1 r.2 in
    subst (λ (p : Machine × Machine). Keeps p.0.words p.1.words) (λ i. (r.2 i, x.2 i)) (runs.keeps r.0 x.0 r.1 x.1)

pub reaches_sound : (image : Image) (s : Machine) → Runs image → Reaches image s → IsSound image.settings.out s.words
reaches_sound image s runs r = subst (λ (m : Machine). IsSound image.settings.out m.words) r.2 (runs.sound r.0 r.1)

pub all_set : (image : Image) (l : List Hart) (i : ℕ) (h : Hart) → All (λ (x : Hart). x.retired ≤ image.settings.budget) l → h.retired ≤ image.settings.budget → All (λ (x : Hart). x.retired ≤ image.settings.budget) (slice_set l i h)
all_set image l i h all le k d lt = by (ℕ_discrete k i)
  where
    by : Dec (k ≡ i) → (get_or (slice_set l i h) k d).retired ≤ image.settings.budget
    by (yes e) = subst (λ (x : Hart). x.retired ≤ image.settings.budget) (sym (ap (λ (j : ℕ). get_or (slice_set l i h) j d) e ∙ get_or-set_same l i h d (omega (arith, length-set l i h)))) le
    by (no n) = subst (λ (x : Hart). x.retired ≤ image.settings.budget) (sym (get_or-set_other l i k h d n)) (all k d (omega (arith, length-set l i h)))

-- one instruction of a hart
pub grows_step : (image : Image) (s : Machine) (i : ℕ) (h h' : Hart) (p : Plan) → slice_get s.harts i ≡ Some h → plan image.size image.code h ≡ p → answered h p (word_at p s.words) ≡ Goes h' → h'.retired ≤ image.settings.budget → Grows image s (record { words = words_after p s.words; harts = slice_set s.harts i h' })
grows_step image s i h h' p at is goes le list within e =
    let stepped : hart_step image i s ≡ record { words = words_after p s.words; harts = slice_set s.harts i h' } =
    ap (turn_of image.size image.code s i) at
    ∙ ap (λ q. turned s i q (answered h q (word_at q s.words))) is
    ∙ ap (turned s i p) goes in
    let there : reached image (list ++ i ∷ []) ≡ record { words = words_after p s.words; harts = slice_set s.harts i h' } =
    run_then image _ list i ∙ ap (hart_step image i) e ∙ stepped in
    (i ∷ [], subst (IsWithin image) (sym there) (all_set image s.harts i h' (subst (IsWithin image) e within) le), there)

-- register-only instructions
pub grows_led : (image : Image) (s : Machine) (i n : ℕ) (h h' : Hart) → slice_get s.harts i ≡ Some h → IsLed image.size image.code image.settings.budget n h h' → Grows image s (record { words = s.words; harts = slice_set s.harts i h' })
grows_led image s i zero h h' at led =
    subst (λ (l : List Hart). Grows image s (record { words = s.words; harts = l })) (sym (set_same s.harts i h at) ∙ ap (λ x. slice_set s.harts i x) led) (grows_none image s)
grows_led image s i (suc n) h h' at led =
    let m = led.0 in
    let to = led.1 in
    let r = led.2 in
    let mid : Machine = record { words = s.words; harts = slice_set s.harts i m } in
    let first = grows_led image s i n h m at led.3 in
    let goes : answered m (Moves to r) 0 ≡ Goes (moved m to r) = refl in
    let one = grows_step image mid i m (moved m to r) (Moves to r) (get_set_same s.harts i h m at) led.4 goes (omega (arith, led.5)) in
    let both = grows_then image s mid _ first one in
    subst (λ (l : List Hart). Grows image s (record { words = s.words; harts = l })) (set_twice s.harts i m (moved m to r) ∙ ap (λ x. slice_set s.harts i x) led.6) both

-- the hart k0 of a machine in lists has been led to k, which is taken up
pub led_up : (image : Image) (hs : List HartState) (ws : List ℕ) (i n : ℕ) (k0 k : HartState) → slice_get hs i ≡ Some k0 → IsLed image.size image.code image.settings.budget n (hart_of k0) (hart_of k) → Grows image (machine_of hs ws) (machine_of (slice_set hs i k) ws)
led_up image hs ws i n k0 k at led =
    subst (λ (l : List Hart). Grows image (machine_of hs ws) (record { words = words_of ws; harts = l })) (sym (map_set hart_of hs i k)) (grows_led image (machine_of hs ws) i n (hart_of k0) (hart_of k) (map_get hart_of hs i k0 at) led)

-- and then makes an access
pub led_access : (image : Image) (hs : List HartState) (ws : List ℕ) (i n : ℕ) (k0 k k' : HartState) (a : Access) (rd : ℕ) (part : Part) → slice_get hs i ≡ Some k0 → IsLed image.size image.code image.settings.budget n (hart_of k0) (hart_of k) → plan image.size image.code (hart_of k) ≡ Accesses a rd part → k.retired < image.settings.budget → place a < length ws → hart_of k' ≡ moved (hart_of k) (next (hart_of k)) (put (hart_of k).regs rd (part_of part (slice_index ws (place a)))) → Grows image (machine_of hs ws) (machine_of (slice_set hs i k') (slice_set ws (place a) (written a (slice_index ws (place a)))))
led_access image hs ws i n k0 k k' a rd part at led is below lt after =
    let up = led_up image hs ws i n k0 k at led in
    let mid = machine_of (slice_set hs i k) ws in
    let p = Accesses a rd part in
    let one = grows_step image mid i (hart_of k) (hart_of k') p (map_get hart_of (slice_set hs i k) i k (get_set_same hs i k0 k at)) is (ap Goes (sym after)) (subst (λ (x : Hart). x.retired ≤ image.settings.budget) (sym after) (omega (arith, below))) in
    let both = grows_then image (machine_of hs ws) mid _ up one in
    subst (λ (m : Machine). Grows image (machine_of hs ws) m)
    (λ j. record { words = sym (set_stored ws a lt) j; harts = (sym (map_set hart_of (slice_set hs i k) i k') ∙ ap (map hart_of) (set_twice hs i k k')) j })
    both

-- or goes on from an `await_change`
pub led_await : (image : Image) (hs : List HartState) (ws : List ℕ) (i n : ℕ) (k0 k k' : HartState) (at v : ℕ) → slice_get hs i ≡ Some k0 → IsLed image.size image.code image.settings.budget n (hart_of k0) (hart_of k) → plan image.size image.code (hart_of k) ≡ Awaits at v → k.retired < image.settings.budget → answered (hart_of k) (Awaits at v) (slice_index ws at) ≡ Goes (hart_of k') → k'.retired ≡ k.retired + 1 → Grows image (machine_of hs ws) (machine_of (slice_set hs i k') ws)
led_await image hs ws i n k0 k k' at v here led is below goes count =
    let up = led_up image hs ws i n k0 k here led in
    let mid = machine_of (slice_set hs i k) ws in
    let one = grows_step image mid i (hart_of k) (hart_of k') (Awaits at v) (map_get hart_of (slice_set hs i k) i k (get_set_same hs i k0 k here)) is goes (omega (arith, below, count)) in
    let both = grows_then image (machine_of hs ws) mid _ up one in
    subst (λ (l : List Hart). Grows image (machine_of hs ws) (record { words = words_of ws; harts = l }))
    (sym (map_set hart_of (slice_set hs i k) i k') ∙ ap (map hart_of) (set_twice hs i k k'))
    both
