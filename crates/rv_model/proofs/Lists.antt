-- Lists as words, registers and harts.
use Rattle.std.proofs.Common.{◌≡◌, ◌≢◌, ℕ, zero, suc, ◌<◌, List, [], ◌∷◌, ◌+◌, length, map, get_or, set, Some, Bool, true, false, refl, ap, ◌∙◌}
use Rattle.std.specs.Prelude.{slice_get, slice_set, slice_index, ◌==◌, if◌then◌else◌, bit_and}
use Rattle.std.proofs.lemmas.List.{get_or-set_same, get_or-set_other, set-get_or}
use Rattle.std.proofs.lemmas.Bool.{eqb-true, eqb-false}
use Rattle.rv_model.specs.declared.hart.Access.{Access}
use Rattle.rv_model.specs.declared.hart.Access.TheVariants.{Loading, Storing, Swapping, Adding, Masking, Exchanging}
use Rattle.rv_model.specs.Word.{wrap}
use Rattle.rv_model.specs.Machine.{set_word, put, stored, written, place, words_of, regs_of}

-- a write into a list of words
pub set_words : (ws : List ℕ) (at v : ℕ) → at < length ws → words_of (slice_set ws at v) ≡ set_word (words_of ws) at v
set_words ws at v lt = λ i k. each k i
  where
    by_test : (k : ℕ) (b : Bool) → (k == at) ≡ b → slice_index (slice_set ws at v) k ≡ (if b then v else slice_index ws k)
    by_test k true e = ap (λ (j : ℕ). get_or (set ws at v) j 0) (eqb-true k at e) ∙ get_or-set_same ws at v 0 lt
    by_test k false e = get_or-set_other ws at k v 0 (eqb-false k at e)

    each : (k : ℕ) → words_of (slice_set ws at v) k ≡ set_word (words_of ws) at v k
    each k = by_test k (k == at) refl

-- the word that an access writes into a list is the access
pub set_stored : (ws : List ℕ) (a : Access) → place a < length ws → words_of (slice_set ws (place a) (written a (slice_index ws (place a)))) ≡ stored a (words_of ws)
set_stored ws (Loading at) lt = ap words_of (set-get_or ws at 0)
set_stored ws (Storing at v) lt = set_words ws at v lt
set_stored ws (Swapping at v) lt = set_words ws at v lt
set_stored ws (Adding at v) lt = set_words ws at (wrap (slice_index ws at + v)) lt
set_stored ws (Masking at v) lt = set_words ws at (bit_and (slice_index ws at) v) lt
set_stored ws (Exchanging at e v) lt = set_words ws at (if slice_index ws at == e then v else slice_index ws at) lt

-- a write into a list of registers; one to register 0 does nothing
abbrev pub set_reg : List ℕ → ℕ → ℕ → List ℕ
set_reg r zero v = r
set_reg r (suc d) v = slice_set r (suc d) v

pub set_regs : (r : List ℕ) (d v : ℕ) → d < length r → regs_of (set_reg r d v) ≡ put (regs_of r) d v
set_regs r zero v lt = refl
set_regs r (suc d) v lt = set_words r (suc d) v lt

module _ {A : Type 0} where
  pub get_set_same : (l : List A) (i : ℕ) (a b : A) → slice_get l i ≡ Some a → slice_get (slice_set l i b) i ≡ Some b
  get_set_same [] i a b e = absurd (cc)
  get_set_same (x ∷ xs) zero a b e = refl
  get_set_same (x ∷ xs) (suc i) a b e = get_set_same xs i a b e

  pub get_set_other : (l : List A) (i j : ℕ) (b : A) → j ≢ i → slice_get (slice_set l i b) j ≡ slice_get l j
  get_set_other [] i j b n = refl
  get_set_other (x ∷ xs) zero zero b n = absurd (n refl)
  get_set_other (x ∷ xs) zero (suc j) b n = refl
  get_set_other (x ∷ xs) (suc i) zero b n = refl
  get_set_other (x ∷ xs) (suc i) (suc j) b n = get_set_other xs i j b (λ e. n (ap suc e))

  pub set_twice : (l : List A) (i : ℕ) (a b : A) → slice_set (slice_set l i a) i b ≡ slice_set l i b
  set_twice [] i a b = refl
  set_twice (x ∷ xs) zero a b = refl
  set_twice (x ∷ xs) (suc i) a b = ap (λ l. x ∷ l) (set_twice xs i a b)

  pub set_same : (l : List A) (i : ℕ) (a : A) → slice_get l i ≡ Some a → slice_set l i a ≡ l
  set_same [] i a e = refl
  set_same (x ∷ xs) zero a e = ap (λ y. y ∷ xs) (some_same x a e)
    where
      some_same : (x a : A) → Some x ≡ Some a → a ≡ x
      some_same x a e = cc
  set_same (x ∷ xs) (suc i) a e = ap (λ l. x ∷ l) (set_same xs i a e)

pub map_get : {A B : Type 0} (f : A → B) (l : List A) (i : ℕ) (a : A) → slice_get l i ≡ Some a → slice_get (map f l) i ≡ Some (f a)
map_get f [] i a e = absurd (cc)
map_get f (x ∷ xs) zero a e = cc
map_get f (x ∷ xs) (suc i) a e = map_get f xs i a e

pub map_set : {A B : Type 0} (f : A → B) (l : List A) (i : ℕ) (a : A) → map f (slice_set l i a) ≡ slice_set (map f l) i (f a)
map_set f [] i a = refl
map_set f (x ∷ xs) zero a = refl
map_set f (x ∷ xs) (suc i) a = ap (λ l. f x ∷ l) (map_set f xs i a)
