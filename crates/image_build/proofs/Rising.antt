-- Start words that are not 0, whose numbers rise and are below a bound.
use Rattle.std.proofs.Common.{◌≡◌, ◌≢◌, ℕ, ◌<◌, List, Some}
use Rattle.std.specs.Prelude.{slice_get}
use Rattle.rv_model.specs.declared.image.StartWord.{StartWord}

-- a word that isn't 0, whose number is below the bound and above those before it
abbrev pub Stands : List StartWord → ℕ → ℕ → ℕ → StartWord → Type 0
Stands start size least j a =
    (a.value ≢ 0) × (a.at < size) × (a.at < least) × ((i : ℕ) (b : StartWord) → i < j → slice_get start i ≡ Some b → b.at < a.at)

-- so for the first n words, whose numbers are below `least`
abbrev pub FirstStand : List StartWord → ℕ → ℕ → ℕ → Type 0
FirstStand start size least n = (j : ℕ) (a : StartWord) → j < n → slice_get start j ≡ Some a → Stands start size least j a
