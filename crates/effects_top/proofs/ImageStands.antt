-- The image of an expression stands for the program that prints it.
use Rattle.std.proofs.Common.{◌≡◌, ℕ, ◌+◌, ◌*◌, ◌<◌, ◌≤◌, List, [], ◌∷◌, length, sym, ap, ◌∙◌, subst, arith, pos}
use Rattle.fx_base.specs.declared.settings.Settings.{Settings}
use Rattle.effect_meaning.specs.Terms.{Place}
use Rattle.rv_model.specs.declared.image.Image.{Image}
use Rattle.rv_model.specs.declared.image.StartWord.{StartWord}
use Rattle.rv_model.specs.declared.instr.Instr.{Instr}
use Rattle.rv_model.specs.declared.instr.Op.TheVariants.{Beq, Ecall}
use Rattle.rv_model.specs.Format.{plain}
use Rattle.rv_model.specs.Machine.{hart_of}
use Rattle.rv_model.specs.Start.{first_hart, start_words}
use Rattle.effects_top.specs.declared.reader.Postfix.{Postfix}
use Rattle.effects_top.specs.Compiled.{start_code, stack_word_of, stack_words, start_words_of, whole_code}
use Rattle.effects_top.specs.Expression.{Expression, AreIntegers, postfix_of, program_of}
use Rattle.effects_top.specs.Standing.{Stands}
use Rattle.effects_top.proofs.Instructions.{HasAt, has_front, Good}
use Rattle.effects_top.proofs.Ending.{Ok, Over}
use Rattle.effects_top.proofs.Entering.{rest_code, has_start, start_good}
use Rattle.effects_top.proofs.EveryList.{stands}

-- what hart 0 keeps over a code, a size and start words
abbrev KeptBy : (h out : ℕ) → List ℕ → Place → Expression → ℕ → List Instr → List StartWord → Type 0
KeptBy h out file place e size code start = (n : ℕ) → Good size code (Ok file place e h out) Over n (hart_of (first_hart 0)) (start_words start) 0

-- an image with this code, these start words and this size stands for the program
pub image_stands : (image : Image) (file : List ℕ) (place : Place) (e : Expression)
    → image.code ≡ whole_code image.settings.out (postfix_of e) → image.start ≡ start_words_of image.settings → image.size ≡ stack_word_of image.settings.out + stack_words
    → AreIntegers e → length (postfix_of e) < 2000 → Stands (program_of file place e) image
image_stands image file place e is_code is_start is_size small few = stands image file place e begins some good holds
  where
    begins : HasAt image.code 0 (plain Beq 0 10 0 (pos 8) ∷ plain Ecall 0 0 0 (pos 0) ∷ [])
    begins = subst (λ c. HasAt c 0 start_code) (sym is_code) (has_front (whole_code image.settings.out (postfix_of e)) 0 start_code (rest_code (8 * stack_word_of image.settings.out) e) (has_start image.settings.out e))

    some : 0 < image.settings.domains
    some = let d = image.settings.domains_in_range.0 in omega (arith, d)

    good : KeptBy image.settings.domains image.settings.out file place e image.size image.code image.start
    good =
        subst (λ z. KeptBy image.settings.domains image.settings.out file place e z image.code image.start) (sym is_size)
        (subst (λ c. KeptBy image.settings.domains image.settings.out file place e (stack_word_of image.settings.out + stack_words) c image.start) (sym is_code)
        (subst (λ w. KeptBy image.settings.domains image.settings.out file place e (stack_word_of image.settings.out + stack_words) (whole_code image.settings.out (postfix_of e)) w) (sym is_start)
        (λ n. start_good image.settings file place e image.settings.domains n small few)))

    holds : stack_word_of image.settings.out ≤ image.size
    holds = omega (arith, is_size)

-- the same over the settings and the postfix order that the image was made from
pub compiled_stands : (image : Image) (s : Settings) (ps : List Postfix) (file : List ℕ) (place : Place) (e : Expression)
    → image.settings ≡ s → image.code ≡ whole_code s.out ps → image.start ≡ start_words_of s → image.size ≡ stack_word_of s.out + stack_words
    → length ps < 2000 → AreIntegers e → ps ≡ postfix_of e → Stands (program_of file place e) image
compiled_stands image s ps file place e is_settings is_code is_start is_size few small is_postfix =
    image_stands image file place e
    (is_code ∙ ap (λ (x : Settings). whole_code x.out ps) (sym is_settings) ∙ ap (whole_code image.settings.out) is_postfix)
    (is_start ∙ ap start_words_of (sym is_settings))
    (is_size ∙ ap (λ (x : Settings). stack_word_of x.out + stack_words) (sym is_settings))
    small
    (subst (λ l. length l < 2000) is_postfix few)
