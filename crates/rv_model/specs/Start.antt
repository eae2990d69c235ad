-- The harts and the words at the start of a run.
use Rattle.std.specs.Prelude.{◌≡◌, ◌≢◌, ℕ, zero, suc, ◌<◌, List, [], ◌∷◌, ◌==◌, if◌then◌else◌, Some, slice_get, refl}
use Rattle.rv_model.specs.declared.hart.Hart.{Hart}
use Rattle.rv_model.specs.declared.image.StartWord.{StartWord}

-- hart i at the start: register 10 has its number
abbrev pub first_hart : ℕ → Hart
first_hart i = record {
  regs = 0 ∷ 0 ∷ 0 ∷ 0 ∷ 0 ∷ 0 ∷ 0 ∷ 0 ∷ 0 ∷ 0 ∷ i ∷ 0 ∷ 0 ∷ 0 ∷ 0 ∷ 0 ∷ 0 ∷ 0 ∷ 0 ∷ 0 ∷ 0 ∷ 0 ∷ 0 ∷ 0 ∷ 0 ∷ 0 ∷ 0 ∷ 0 ∷ 0 ∷ 0 ∷ 0 ∷ 0 ∷ [];
  pc = 0;
  retired = 0;
  count = refl;
  zero = refl;
}

-- n harts at the start, from number i up
abbrev pub first_harts : ℕ → ℕ → List Hart
first_harts i zero = []
first_harts i (suc n) = first_hart i ∷ first_harts (suc i) n

-- the words at the start: 0 but for the start words
abbrev pub start_words : List StartWord → ℕ → ℕ
start_words [] k = 0
start_words (s ∷ ss) k = if k == s.at then s.value else start_words ss k

-- the numbers of the start words rise
abbrev pub AreRising : List StartWord → Type 0
AreRising start = (k : ℕ) (a b : StartWord) → slice_get start k ≡ Some a → slice_get start (suc k) ≡ Some b → a.at < b.at

-- no start word is 0
abbrev pub AreNotZero : List StartWord → Type 0
AreNotZero start = (k : ℕ) (a : StartWord) → slice_get start k ≡ Some a → a.value ≢ 0

-- each start word is among the first `size` words
abbrev pub AreBelow : ℕ → List StartWord → Type 0
AreBelow size start = (k : ℕ) (a : StartWord) → slice_get start k ≡ Some a → a.at < size
