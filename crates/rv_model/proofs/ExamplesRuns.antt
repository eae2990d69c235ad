-- Worked runs: two harts that add to one word, in several orders; the log and the ends. They hold by
-- computation.
use Rattle.std.proofs.Common.{◌≡◌, ℕ, ℤ, pos, true, false, List, [], ◌∷◌, map, Some, None, refl, lit≤, ◌≤◌}
use Rattle.fx_base.specs.declared.settings.Settings.{Settings}
use Rattle.rv_model.specs.declared.instr.Op.{Op}
use Rattle.rv_model.specs.declared.instr.Op.TheVariants.{Addi, AmoaddD, Ecall}
use Rattle.rv_model.specs.declared.instr.Instr.{Instr}
use Rattle.rv_model.specs.declared.image.Image.{Image}
use Rattle.rv_model.specs.declared.image.StartWord.{StartWord}
use Rattle.rv_model.specs.declared.report.RunEnd.TheVariants.{Exited, Uncaught, HeapFull, StackFull, CallsFull, OutputFull}
use Rattle.rv_model.specs.Machine.{Hart, Words}
use Rattle.rv_model.specs.Layout.{log, log_words, end}
use Rattle.rv_model.specs.Start.{start_words}
use Rattle.rv_model.specs.Run.{Machine, first, reached}
use Rattle.rv_model.specs.Serial.{is_over, turn, turns_from, rounds}

abbrev instr : Op → ℕ → ℕ → ℕ → ℤ → Instr
instr op rd rs1 rs2 imm = record { op = op; rd = rd; rs1 = rs1; rs2 = rs2; imm = imm; aq = false; rl = false }

-- with this budget and two harts
abbrev settings : (budget : ℕ) → 1 ≤ budget → budget ≤ 4294967295 → Settings
settings budget low high = record {
  heap = 16384;
  stack = 256;
  out = 1024;
  budget = budget;
  domains = 2;
  heap_in_range = (lit≤ tt, lit≤ tt);
  stack_in_range = (lit≤ tt, lit≤ tt);
  out_in_range = (lit≤ tt, lit≤ tt);
  budget_in_range = (low, high);
  domains_in_range = (lit≤ tt, lit≤ tt);
}

-- adds the hart's number and 1 to word 12, and stops
abbrev adder : List Instr
adder = instr Addi 5 10 0 (pos 1) ∷ instr Addi 6 0 0 (pos 96) ∷ instr AmoaddD 7 6 5 (pos 0) ∷ instr Ecall 0 0 0 (pos 0) ∷ []

abbrev image : Settings → Image
image s = record { settings = s; code = adder; start = []; size = 16; rising = λ k a b x y. absurd (cc); not_zero = λ k a x. absurd (cc); below = λ k a x. absurd (cc) }

abbrev ample : Image
ample = image (settings 100 (lit≤ tt) (lit≤ tt))

abbrev short : Image
short = image (settings 2 (lit≤ tt) (lit≤ tt))

-- how many instructions each hart has carried out
abbrev counts : Machine → List ℕ
counts s = map (λ (h : Hart). h.retired) s.harts

-- a run in any order

pub one_after_the_other : (reached ample (0 ∷ 0 ∷ 0 ∷ 1 ∷ 1 ∷ 1 ∷ [])).words 12 ≡ 3
one_after_the_other = refl

pub mixed : (reached ample (1 ∷ 0 ∷ 1 ∷ 0 ∷ 1 ∷ 0 ∷ [])).words 12 ≡ 3
mixed = refl

pub only_the_second : (reached ample (1 ∷ 1 ∷ 1 ∷ [])).words 12 ≡ 2
only_the_second = refl

-- a hart at `stop` has no step, and there is no hart 2
pub numbers_without_a_step : counts (reached ample (0 ∷ 0 ∷ 0 ∷ 0 ∷ 0 ∷ 2 ∷ [])) ≡ 3 ∷ 0 ∷ []
numbers_without_a_step = refl

-- a run in turns

pub turns_of_one : (counts (rounds ample 1 2 (first ample)) ≡ 2 ∷ 2 ∷ []) × ((rounds ample 1 3 (first ample)).words 12 ≡ 3)
unfolding turn turns_from rounds
turns_of_one = (refl, refl)

pub turns_of_two : (counts (rounds ample 2 1 (first ample)) ≡ 2 ∷ 2 ∷ []) × (counts (rounds ample 2 2 (first ample)) ≡ 3 ∷ 3 ∷ [])
unfolding turn turns_from rounds
turns_of_two = (refl, refl)

-- both harts have stopped: a further round does nothing
pub at_rest : counts (rounds ample 5 4 (first ample)) ≡ 3 ∷ 3 ∷ []
unfolding turn turns_from rounds
at_rest = refl

-- the run is over as soon as a hart's budget is spent, within its turn
pub budget_is_spent : (counts (rounds short 5 3 (first short)) ≡ 2 ∷ 0 ∷ []) × (is_over short (rounds short 5 3 (first short)) ≡ true)
unfolding turn turns_from rounds
budget_is_spent = (refl, refl)

-- what the words tell

abbrev start : List StartWord
start = record { at = 3; value = 7 } ∷ record { at = 5; value = 9 } ∷ []

pub start_of_words : (start_words start 3 ≡ 7) × (start_words start 4 ≡ 0) × (start_words start 5 ≡ 9)
start_of_words = (refl, refl, refl)

-- words 1, 2, 3, 4 and 6 are these, and from word 16 and word 144 on these two
abbrev told : ℕ → ℕ → ℕ → ℕ → ℕ → ℕ → ℕ → Words
told w1 w2 w3 w4 w6 text bytes = start_words (
    record { at = 1; value = w1 } ∷ record { at = 2; value = w2 } ∷ record { at = 3; value = w3 } ∷ record { at = 4; value = w4 } ∷ record { at = 6; value = w6 }
    ∷ record { at = 16; value = text } ∷ record { at = 144; value = bytes } ∷ record { at = 145; value = 0x0A } ∷ [])

-- `hello wo`, and a newline in the next word
pub log_bytes : log (told 0 0 0 0 9 0 0x6F77206F6C6C6568) ≡ 104 ∷ 101 ∷ 108 ∷ 108 ∷ 111 ∷ 32 ∷ 119 ∷ 111 ∷ 10 ∷ []
log_bytes = refl

pub log_empty : log (told 0 0 0 0 0 0 0x6F77206F6C6C6568) ≡ []
log_empty = refl

pub log_rounds_up : (log_words 1024 ≡ 128) × (log_words 1025 ≡ 129)
log_rounds_up = (refl, refl)

pub no_end : end (told 0 5 0 0 0 0 0) ≡ None
no_end = refl

pub end_exited : end (told 1 42 0 0 0 0 0) ≡ Some (Exited 42)
end_exited = refl

-- the text is `Exit`
pub end_uncaught : end (told 2 4 0 0 0 0x74697845 0) ≡ Some (Uncaught (69 ∷ 120 ∷ 105 ∷ 116 ∷ []))
end_uncaught = refl

pub end_heap_full : end (told 3 10 20 25 0 0 0) ≡ Some (HeapFull 10 20 25)
end_heap_full = refl

pub end_stack_full : end (told 4 300 256 0 0 0 0) ≡ Some (StackFull 300 256)
end_stack_full = refl

pub end_calls_full : end (told 5 255 0 0 0 0 0) ≡ Some (CallsFull 255)
end_calls_full = refl

pub end_output_full : end (told 6 1000 30 1024 0 0 0) ≡ Some (OutputFull 1000 30 1024)
end_output_full = refl
