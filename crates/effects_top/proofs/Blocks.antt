-- Instructions that set registers alone, one after another; loads, stores and branches.
use Rattle.std.proofs.Common.{◌≡◌, ℕ, ◌+◌, ◌*◌, ◌/◌, ◌%◌, ◌<◌, ◌≤◌, List, [], ◌∷◌, length, Some, Bool, true, false, refl, sym, ap, ◌∙◌, subst, arith, le_refl}
use Rattle.std.specs.Prelude.{slice_get, ◌==◌, ◌&&◌, nat_lt, if◌then◌else◌}
use Rattle.std.proofs.lemmas.Bool.{lt-ltb}
use Rattle.rv_model.specs.declared.instr.Instr.{Instr}
use Rattle.rv_model.specs.declared.hart.Access.TheVariants.{Loading, Storing}
use Rattle.rv_model.specs.declared.hart.Part.TheVariants.{Word}
use Rattle.rv_model.specs.Word.{wrap}
use Rattle.rv_model.specs.Table.{Effect, Sets, AddsPc, Branches, Links, LinksTo, Loads, LoadsByte, Stores, Swaps, Adds, Masks, Exchanges, Calls}
use Rattle.rv_model.specs.Machine.{Regs, put, Words, set_word, Plan, Moves, Accesses, Faults, effect_of, planned}
use Rattle.rv_model.specs.Block.{with_sets, block}
use Rattle.rv_model.specs.Layout.{Keeps}
use Rattle.effects_top.proofs.Instructions.{HasAt, at, Good, goes, near, keeps_same}

-- the access at a byte address, where it is that of a word
asks_word : (size p : ℕ) (q : ℕ → Plan) → p < size → (if ((8 * p) % 8 == 0) && nat_lt ((8 * p) / 8) size then q ((8 * p) / 8) else Faults) ≡ q p
asks_word size p q h =
    let e : (8 * p) % 8 ≡ 0 = omega arith in
    let d : (8 * p) / 8 ≡ p = omega arith in
    ap (λ x. if (x == 0) && nat_lt ((8 * p) / 8) size then q ((8 * p) / 8) else Faults) e
    ∙ ap (λ x. if nat_lt x size then q x else Faults) d
    ∙ ap (λ (b : Bool). if b then q p else Faults) (lt-ltb p size h)

module _ (size : ℕ) (code : List Instr) (short : length code ≤ 262144) (Ok : ℕ → ℕ → Words → Type 0) (Done : ℕ → Words → Type 0) where
  -- the count rises and nothing else changes
  abbrev pub OkFor : ℕ → ℕ → ℕ → Words → Type 0
  OkFor m c l w = (j : ℕ) → j < l → Ok m (c + j) w

  pub at_place : (n k k' c m : ℕ) (r : Regs) (w : Words) → k' ≡ k → Good size code Ok Done n (at k r c) w m → Good size code Ok Done n (at k' r c) w m
  at_place n k k' c m r w e g = subst (λ x. Good size code Ok Done n (at x r c) w m) (sym e) g

  -- where the hart is after one more
  next_at : (n k c m : ℕ) (r : Regs) (w : Words) (i : Instr) → slice_get code k ≡ Some i → Good size code Ok Done n (at (k + 1) r (c + 1)) w m → Good size code Ok Done n (record { pc = wrap (4 * k + 4); regs = r; retired = c + 1 }) w m
  next_at n k c m r w i has g = subst (λ p. Good size code Ok Done n (record { pc = p; regs = r; retired = c + 1 }) w m) (sym (near code k i short has)) g

  pub set_one : (n k c m v : ℕ) (r : Regs) (w : Words) (i : Instr) → slice_get code k ≡ Some i → effect_of i r ≡ Sets v → Ok m c w → Good size code Ok Done n (at (k + 1) (put r i.rd v) (c + 1)) w m → Good size code Ok Done n (at k r c) w m
  set_one n k c m v r w i has e ok g =
      goes size code Ok Done n k c m m r w i (Moves (wrap (4 * k + 4)) (put r i.rd v)) (record { pc = wrap (4 * k + 4); regs = put r i.rd v; retired = c + 1 }) has
      (ap (λ x. planned size i.rd x (at k r c)) e) refl ok (le_refl m) (keeps_same w) (next_at n k c m (put r i.rd v) w i has g)

  run_more : (i : Instr) (is : List Instr) (n k c m : ℕ) (r r' : Regs) (w : Words) → ((v : ℕ) → block is (put r i.rd v) ≡ Some r' → Good size code Ok Done n (at (k + 1) (put r i.rd v) (c + 1)) w m) → slice_get code k ≡ Some i → Ok m c w → (x : Effect) → effect_of i r ≡ x → with_sets x (λ v. block is (put r i.rd v)) ≡ Some r' → Good size code Ok Done n (at k r c) w m
  run_more i is n k c m r r' w ih has ok (Sets v) e b = set_one n k c m v r w i has e ok (ih v b)
  run_more i is n k c m r r' w ih has ok (AddsPc v) e b = absurd (cc)
  run_more i is n k c m r r' w ih has ok (Branches t o) e b = absurd (cc)
  run_more i is n k c m r r' w ih has ok (Links o) e b = absurd (cc)
  run_more i is n k c m r r' w ih has ok (LinksTo o) e b = absurd (cc)
  run_more i is n k c m r r' w ih has ok (Loads o) e b = absurd (cc)
  run_more i is n k c m r r' w ih has ok (LoadsByte o) e b = absurd (cc)
  run_more i is n k c m r r' w ih has ok (Stores o v) e b = absurd (cc)
  run_more i is n k c m r r' w ih has ok (Swaps o v) e b = absurd (cc)
  run_more i is n k c m r r' w ih has ok (Adds o v) e b = absurd (cc)
  run_more i is n k c m r r' w ih has ok (Masks o v) e b = absurd (cc)
  run_more i is n k c m r r' w ih has ok (Exchanges o u v) e b = absurd (cc)
  run_more i is n k c m r r' w ih has ok Calls e b = absurd (cc)

  pub run_block : (is : List Instr) (n k c m : ℕ) (r r' : Regs) (w : Words) → HasAt code k is → block is r ≡ Some r' → OkFor m c (length is) w → Good size code Ok Done n (at (k + length is) r' (c + length is)) w m → Good size code Ok Done n (at k r c) w m
  run_block [] n k c m r r' w has b ok g =
      let s : r' ≡ r = cc in
      let ek : k + 0 ≡ k = omega arith in
      let ec : c + 0 ≡ c = omega arith in
      subst (λ x. Good size code Ok Done n (at k x c) w m) s (subst (λ x. Good size code Ok Done n (at x r' c) w m) ek (subst (λ x. Good size code Ok Done n (at (k + 0) r' x) w m) ec g))
  run_block (i ∷ is) n k c m r r' w has b ok g =
      let here : Ok m c w = subst (λ x. Ok m x w) (omega arith) (ok 0 (omega arith)) in
      let ek : k + length (i ∷ is) ≡ k + 1 + length is = omega arith in
      let ec : c + length (i ∷ is) ≡ c + 1 + length is = omega arith in
      let g1 = subst (λ x. Good size code Ok Done n (at x r' (c + length (i ∷ is))) w m) ek g in
      let g2 = subst (λ x. Good size code Ok Done n (at (k + 1 + length is) r' x) w m) ec g1 in
      let later : OkFor m (c + 1) (length is) w = λ j h. let e : c + (j + 1) ≡ c + 1 + j = omega arith in subst (λ x. Ok m x w) e (ok (j + 1) (omega arith)) in
      run_more i is n k c m r r' w (λ v b'. run_block is n (k + 1) (c + 1) m (put r i.rd v) r' w has.1 b' later g2) has.0 here (effect_of i r) refl b

  pub load_one : (n k c m p : ℕ) (r : Regs) (w : Words) (i : Instr) → slice_get code k ≡ Some i → effect_of i r ≡ Loads (8 * p) → p < size → Ok m c w → Good size code Ok Done n (at (k + 1) (put r i.rd (w p)) (c + 1)) w m → Good size code Ok Done n (at k r c) w m
  load_one n k c m p r w i has e lt ok g =
      goes size code Ok Done n k c m m r w i (Accesses (Loading p) i.rd Word) (record { pc = wrap (4 * k + 4); regs = put r i.rd (w p); retired = c + 1 }) has
      (ap (λ x. planned size i.rd x (at k r c)) e ∙ asks_word size p (λ x. Accesses (Loading x) i.rd Word) lt) refl ok (le_refl m) (keeps_same w) (next_at n k c m (put r i.rd (w p)) w i has g)

  pub store_one : (n k c m m' p v : ℕ) (r : Regs) (w : Words) (i : Instr) → slice_get code k ≡ Some i → effect_of i r ≡ Stores (8 * p) v → p < size → Ok m c w → m ≤ m' → Keeps w (set_word w p v) → Good size code Ok Done n (at (k + 1) r (c + 1)) (set_word w p v) m' → Good size code Ok Done n (at k r c) w m
  store_one n k c m m' p v r w i has e lt ok le keeps g =
      goes size code Ok Done n k c m m' r w i (Accesses (Storing p v) 0 Word) (record { pc = wrap (4 * k + 4); regs = r; retired = c + 1 }) has
      (ap (λ x. planned size i.rd x (at k r c)) e ∙ asks_word size p (λ x. Accesses (Storing x v) 0 Word) lt) refl ok le keeps (next_at n k c m' r (set_word w p v) i has g)

  pub branch_taken : (n k k' c m o : ℕ) (r : Regs) (w : Words) (i : Instr) → slice_get code k ≡ Some i → effect_of i r ≡ Branches true o → wrap (4 * k + o) ≡ 4 * k' → Ok m c w → Good size code Ok Done n (at k' r (c + 1)) w m → Good size code Ok Done n (at k r c) w m
  branch_taken n k k' c m o r w i has e to ok g =
      goes size code Ok Done n k c m m r w i (Moves (4 * k') r) (at k' r (c + 1)) has (ap (λ x. planned size i.rd x (at k r c)) e ∙ ap (λ x. Moves x r) to) refl ok (le_refl m) (keeps_same w) g

  pub branch_not : (n k c m o : ℕ) (r : Regs) (w : Words) (i : Instr) → slice_get code k ≡ Some i → effect_of i r ≡ Branches false o → Ok m c w → Good size code Ok Done n (at (k + 1) r (c + 1)) w m → Good size code Ok Done n (at k r c) w m
  branch_not n k c m o r w i has e ok g =
      goes size code Ok Done n k c m m r w i (Moves (wrap (4 * k + 4)) r) (record { pc = wrap (4 * k + 4); regs = r; retired = c + 1 }) has (ap (λ x. planned size i.rd x (at k r c)) e) refl ok (le_refl m) (keeps_same w) (next_at n k c m r w i has g)
