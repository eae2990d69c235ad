-- What the next instructions of a hart keep, where no other hart writes.
use Rattle.std.proofs.Common.{◌≡◌, ℕ, zero, suc, ◌+◌, ◌*◌, ◌/◌, ◌%◌, ◌<◌, ◌≤◌, List, [], ◌∷◌, ◌++◌, length, Some, None, refl, sym, ap, ◌∙◌, subst, arith, append_assoc, length-append}
use Rattle.std.specs.Prelude.{slice_get, ◌==◌, if◌then◌else◌}
use Rattle.std.proofs.Math.Seq.{get_or-append_seam}
use Rattle.std.proofs.lemmas.List.{append-nil}
use Rattle.std.proofs.lemmas.Option.{slice_get-get_or, slice_get_within}
use Rattle.rv_model.specs.declared.instr.Instr.{Instr}
use Rattle.rv_model.specs.Word.{wrap}
use Rattle.rv_model.specs.Machine.{Regs, Words, Hart, Plan, Stops, Move, Goes, Waits, Stopped, Fault, effect_of, plan, planned, planned_if, answered, word_at, words_after, fetch}
use Rattle.rv_model.specs.Layout.{Keeps, log}

-- the instructions stand in the code at this place
abbrev pub HasAt : List Instr → ℕ → List Instr → Type 0
HasAt code k [] = Unit {0}
HasAt code k (i ∷ is) = (slice_get code k ≡ Some i) × HasAt code (k + 1) is

pub has_front : (code : List Instr) (k : ℕ) (a b : List Instr) → HasAt code k (a ++ b) → HasAt code k a
has_front code k [] b h = tt
has_front code k (i ∷ a) b h = (h.0, has_front code (k + 1) a b h.1)

pub has_back : (code : List Instr) (k : ℕ) (a b : List Instr) → HasAt code k (a ++ b) → HasAt code (k + length a) b
has_back code k [] b h = let e : k ≡ k + 0 = omega arith in subst (λ n. HasAt code n b) e h
has_back code k (i ∷ a) b h =
    let e : k + 1 + length a ≡ k + length (i ∷ a) = omega arith in
    subst (λ n. HasAt code n b) e (has_back code (k + 1) a b h.1)

pub has_all : (is before : List Instr) → HasAt (before ++ is) (length before) is
has_all [] before = tt
has_all (i ∷ is) before =
    let within : length before < length (before ++ i ∷ is) = omega (arith, length-append before (i ∷ is)) in
    let here = slice_get-get_or (before ++ i ∷ is) (length before) i within ∙ ap Some (get_or-append_seam before i is i) in
    let n : length (before ++ i ∷ []) ≡ length before + 1 = omega (arith, length-append before (i ∷ [])) in
    let rest = has_all is (before ++ i ∷ []) in
    let rest' = subst (λ l. HasAt l (length (before ++ i ∷ [])) is) (append_assoc before (i ∷ []) is) rest in
    (here, subst (λ m. HasAt (before ++ i ∷ is) m is) n rest')

-- a hart at the instruction with this number
abbrev pub at : ℕ → Regs → ℕ → Hart
at k r c = record { pc = 4 * k; regs = r; retired = c }

pub fetch_at : (code : List Instr) (k : ℕ) → fetch code (4 * k) ≡ slice_get code k
fetch_at code k =
    let e : (4 * k) % 4 ≡ 0 = omega arith in
    let d : (4 * k) / 4 ≡ k = omega arith in
    ap (λ x. if x == 0 then slice_get code ((4 * k) / 4) else None) e ∙ ap (λ x. slice_get code x) d

-- the plan of a hart at an instruction
pub plan_at : (size : ℕ) (code : List Instr) (k c : ℕ) (r : Regs) (i : Instr) → slice_get code k ≡ Some i → plan size code (at k r c) ≡ planned size i.rd (effect_of i r) (at k r c)
plan_at size code k c r i has = ap (λ o. planned_if size o (at k r c)) (fetch_at code k ∙ has)

-- words keep themselves, and keeping goes on
pub keeps_same : (w : Words) → Keeps w w
keeps_same w = record { grows = ([], sym (append-nil (log w))); ends = λ e x. x; stays = λ e x. refl }

pub keeps_on : (a b c : Words) → Keeps a b → Keeps b c → Keeps a c
keeps_on a b c x y = record {
  grows = (x.grows.0 ++ y.grows.0, y.grows.1 ∙ ap (λ l. l ++ y.grows.0) x.grows.1 ∙ append_assoc (log a) x.grows.0 y.grows.0);
  ends = λ e h. y.ends e (x.ends e h);
  stays = λ e h. y.stays e (x.ends e h) ∙ x.stays e h;
}

-- what follows a move: the number of steps of the program may rise, and the words keep
abbrev pub Next : (Hart → Words → ℕ → Type 0) → (ℕ → Words → Type 0) → Move → Words → Words → ℕ → Type 0
Next G D (Goes h) w' w m = (m' : ℕ) × (m ≤ m') × Keeps w w' × G h w' m'
Next G D Waits w' w m = ⊥
Next G D Stopped w' w m = D m w
Next G D Fault w' w m = ⊥

-- what follows a plan
abbrev pub NextBy : (Hart → Words → ℕ → Type 0) → (ℕ → Words → Type 0) → Hart → Plan → Words → ℕ → Type 0
NextBy G D h p w m = Next G D (answered h p (word_at p w)) (words_after p w) w m

module _ (size : ℕ) (code : List Instr) (Ok : ℕ → ℕ → Words → Type 0) (Done : ℕ → Words → Type 0) where
  -- for the next n instructions what is Ok holds before each, none is at fault, and Done holds where the hart stops
  abbrev pub Good : ℕ → Hart → Words → ℕ → Type 0
  Good zero h w m = Unit {0}
  Good (suc n) h w m = Ok m h.retired w × NextBy (Good n) Done h (plan size code h) w m

  pub fewer_next : (n : ℕ) → ((h : Hart) (w : Words) (m : ℕ) → Good (suc n) h w m → Good n h w m) → (t : Move) (w' w : Words) (m : ℕ) → Next (Good (suc n)) Done t w' w m → Next (Good n) Done t w' w m
  fewer_next n ih (Goes h) w' w m g = (g.0, g.1, g.2, ih h w' g.0 g.3)
  fewer_next n ih Waits w' w m g = g
  fewer_next n ih Stopped w' w m g = g
  fewer_next n ih Fault w' w m g = g

  pub fewer : (n : ℕ) (h : Hart) (w : Words) (m : ℕ) → Good (suc n) h w m → Good n h w m
  fewer zero h w m g = tt
  fewer (suc n) h w m g = (g.0, fewer_next n (λ h w m. fewer n h w m) (answered h (plan size code h) (word_at (plan size code h) w)) (words_after (plan size code h) w) w m g.1)

  -- one instruction that goes on
  pub goes : (n k c m m' : ℕ) (r : Regs) (w : Words) (i : Instr) (p : Plan) (h' : Hart) → slice_get code k ≡ Some i → planned size i.rd (effect_of i r) (at k r c) ≡ p → answered (at k r c) p (word_at p w) ≡ Goes h' → Ok m c w → m ≤ m' → Keeps w (words_after p w) → Good n h' (words_after p w) m' → Good n (at k r c) w m
  goes n k c m m' r w i p h' has is_plan moves ok le keeps g =
      let e : p ≡ plan size code (at k r c) = sym (plan_at size code k c r i has ∙ is_plan) in
      let next : NextBy (Good n) Done (at k r c) p w m = subst (λ t. Next (Good n) Done t (words_after p w) w m) (sym moves) (m', le, keeps, g) in
      fewer n (at k r c) w m (ok, subst (λ q. NextBy (Good n) Done (at k r c) q w m) e next)

  -- the hart stops
  pub stops : (n k c m : ℕ) (r : Regs) (w : Words) (i : Instr) → slice_get code k ≡ Some i → planned size i.rd (effect_of i r) (at k r c) ≡ Stops → Ok m c w → Done m w → Good n (at k r c) w m
  stops zero k c m r w i has is_plan ok d = tt
  stops (suc n) k c m r w i has is_plan ok d =
      let e : Stops ≡ plan size code (at k r c) = sym (plan_at size code k c r i has ∙ is_plan) in
      (ok, subst (λ q. NextBy (Good n) Done (at k r c) q w m) e d)

-- a place in a code that isn't long is a small number
pub near : (code : List Instr) (k : ℕ) (i : Instr) → length code ≤ 262144 → slice_get code k ≡ Some i → wrap (4 * k + 4) ≡ 4 * (k + 1)
near code k i short has = let lt = slice_get_within code k i has in omega (arith, lt, short)
