-- The listing of an image.
use Rattle.std.specs.Prelude.{◌≡◌, ℕ, suc, ◌*◌, ◌<◌, ◌^◌, List, [], ◌∷◌, ◌++◌, Some, slice_get, codes}
use Rattle.std.specs.Fmt.{decimal}
use Rattle.rv_model.specs.declared.instr.Instr.{Instr}
use Rattle.rv_model.specs.declared.image.Image.{Image}
use Rattle.rv_model.specs.declared.image.StartWord.{StartWord}
use Rattle.rv_model.specs.Table.{bits_of, AreWellFormed}
use Rattle.rv_asm.specs.Text.{hex_8, hex_16, text_of}

-- the settings and the number of words
unfoldable pub head_line : Image → List ℕ
head_line image =
    (codes "image " ++ decimal image.settings.heap) ++ ((codes " " ++ decimal image.settings.stack) ++ ((codes " " ++ decimal image.settings.out) ++
    ((codes " " ++ decimal image.settings.budget) ++ ((codes " " ++ decimal image.settings.domains) ++ ((codes " " ++ decimal image.size) ++ codes "\n")))))

-- an instruction: its address, its word and its text
unfoldable pub code_line : ℕ → Instr → List ℕ
code_line pc i = hex_8 pc ++ (codes " " ++ (hex_8 (bits_of i) ++ (codes " " ++ (text_of i ++ codes "\n"))))

-- instructions, the first of which has number k
unfoldable pub code_lines : ℕ → List Instr → List ℕ
code_lines k [] = []
code_lines k (i ∷ is) = code_line (4 * k) i ++ code_lines (suc k) is

-- a word that isn't 0 at the start: its number and its value
unfoldable pub word_line : StartWord → List ℕ
word_line word = (codes "word " ++ decimal word.at) ++ (codes " " ++ (hex_16 word.value ++ codes "\n"))

unfoldable pub word_lines : List StartWord → List ℕ
word_lines [] = []
word_lines (word ∷ words) = word_line word ++ word_lines words

-- the listing of an image
abbrev pub listed : Image → List ℕ
listed image = head_line image ++ (code_lines 0 image.code ++ word_lines image.start)

-- what the types of an image's parts keep: numbers of 64 bits, and well-formed code
pub record IsKept (image : Image) : Type 0 where
  pub size : image.size < 2 ^ 64
  pub code : AreWellFormed image.code
  pub start : (k : ℕ) (word : StartWord) → slice_get image.start k ≡ Some word → word.value < 2 ^ 64
