-- Files and a sink that are kept in memory, and fail where a test wants it.
use Rattle.std.specs.Prelude.{◌≡◌, ◌≢◌, ◌⊎◌, [], Contains, ℕ, ◌+◌, ◌-◌, ◌^◌, ◌≤◌, List, length, Option, Some, None, min, position, slice_get}
use Rattle.std.specs.Str.{bytes_eq}
use Rattle.fx_base.specs.Told.{Told, Missing, Holds}

-- a file: its name's bytes and its own
pub record NamedBytes : Type 0 where
  pub name : List ℕ
  pub bytes : List ℕ

-- files, the numbers of the reads that fail, and how far the reading has come
pub record FilesInMemory : Type 0 where
  pub files : List NamedBytes
  pub failing : List ℕ
  pub opened : Option (List ℕ)
  pub taken : ℕ
  pub reads : ℕ
  pub faults : ℕ

-- what a sink holds, the numbers of the writes that fail, the most that one write takes, and the room
pub record SinkInMemory : Type 0 where
  pub held : List ℕ
  pub failing : List ℕ
  pub most : ℕ
  pub room : ℕ
  pub writes : ℕ
  pub faults : ℕ

-- a count of 64 bits, one higher; it stands still at its last value
abbrev pub counted : ℕ → ℕ
counted n = min (n + 1) (2 ^ 64 - 1)

abbrev pub contents_of : Option NamedBytes → Told
contents_of None = Missing
contents_of (Some file) = Holds file.bytes

abbrev pub file_at : List NamedBytes → Option ℕ → Option NamedBytes
file_at files None = None
file_at files (Some i) = slice_get files i

-- the first file with this name
abbrev pub file_named : List NamedBytes → List ℕ → Option NamedBytes
file_named files name = file_at files (position (λ file. bytes_eq file.name name) files)

abbrev pub told_by : List NamedBytes → List ℕ → Told
told_by files name = contents_of (file_named files name)

-- no more was taken of the opened name than its file holds
abbrev pub IsWithinFile : List NamedBytes → Option (List ℕ) → ℕ → Type 0
IsWithinFile files opened taken = (name file : List ℕ) → opened ≡ Some name → told_by files name ≡ Holds file → taken ≤ length file

-- a sink in memory fails at this write
abbrev pub Refuses : SinkInMemory → List ℕ → Type 0
Refuses sink bytes = Contains sink.failing sink.writes ⊎ ((bytes ≢ []) × ((sink.most ≡ 0) ⊎ (sink.room ≤ length sink.held)))
