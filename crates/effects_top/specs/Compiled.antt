-- The code of an expression whose value is printed: hart 0 computes it on a stack of words behind the log.
use Rattle.std.specs.Prelude.{ℕ, ◌+◌, ◌*◌, ◌/◌, ◌%◌, ℤ, pos, negsuc, List, [], ◌∷◌, ◌++◌, map}
use Rattle.rv_model.specs.declared.instr.Op.TheVariants.{Add, Sub, Mul, Div, Rem, Addi, Slli, Srli, Srai, Ld, Sd, Beq, Bne, Bge, Ecall}
use Rattle.rv_model.specs.declared.instr.Instr.{Instr}
use Rattle.rv_model.specs.declared.line.Line.{Line}
use Rattle.rv_model.specs.declared.line.Line.TheVariants.{Plain}
use Rattle.rv_model.specs.declared.layout.TheConstants.{LOG_WORD}
use Rattle.rv_model.specs.declared.image.StartWord.{StartWord}
use Rattle.fx_base.specs.declared.settings.Settings.{Settings}
use Rattle.rv_model.specs.Format.{plain}
use Rattle.rv_model.specs.Word.{wrap}
use Rattle.rv_model.specs.Layout.{log_words}
use Rattle.effects_top.specs.declared.reader.Arith.{Arith}
use Rattle.effects_top.specs.declared.reader.Arith.TheVariants.{Plus, Minus, Times}
use Rattle.effects_top.specs.declared.reader.Postfix.{Postfix}
use Rattle.effects_top.specs.declared.reader.Postfix.TheVariants.{Literal, Apply}

-- the low eleven bits
abbrev pub low_bits : ℕ → ℤ
low_bits n = pos (n % 2048)

-- a constant in x10, eleven bits at a time
abbrev pub constant_code : ℕ → List Instr
constant_code v =
    plain Addi 10 0 0 (low_bits (v / 2048 / 2048 / 2048 / 2048 / 2048))
    ∷ plain Slli 10 10 0 (pos 11) ∷ plain Addi 10 10 0 (low_bits (v / 2048 / 2048 / 2048 / 2048))
    ∷ plain Slli 10 10 0 (pos 11) ∷ plain Addi 10 10 0 (low_bits (v / 2048 / 2048 / 2048))
    ∷ plain Slli 10 10 0 (pos 11) ∷ plain Addi 10 10 0 (low_bits (v / 2048 / 2048))
    ∷ plain Slli 10 10 0 (pos 11) ∷ plain Addi 10 10 0 (low_bits (v / 2048))
    ∷ plain Slli 10 10 0 (pos 11) ∷ plain Addi 10 10 0 (low_bits v) ∷ []

-- x10 goes on the stack, whose end is in x2
abbrev pub push_code : List Instr
push_code = plain Sd 0 2 10 (pos 0) ∷ plain Addi 2 2 0 (pos 8) ∷ []

-- the last two words of the stack in x10 and x11
abbrev pub operands_code : List Instr
operands_code = plain Ld 10 2 0 (negsuc 15) ∷ plain Ld 11 2 0 (negsuc 7) ∷ []

-- the word of the result in x10, from the words of the operands in x10 and x11
abbrev pub arith_code : Arith → List Instr
arith_code Plus = plain Add 10 10 11 (pos 0) ∷ plain Addi 10 10 0 (negsuc 0) ∷ []
arith_code Minus = plain Sub 10 10 11 (pos 0) ∷ plain Addi 10 10 0 (pos 1) ∷ []
arith_code Times = plain Addi 10 10 0 (negsuc 0) ∷ plain Srli 11 11 0 (pos 1) ∷ plain Mul 10 10 11 (pos 0) ∷ plain Addi 10 10 0 (pos 1) ∷ []

-- x10 takes the place of the last two words of the stack
abbrev pub replace_code : List Instr
replace_code = plain Sd 0 2 10 (negsuc 15) ∷ plain Addi 2 2 0 (negsuc 7) ∷ []

-- the word of an integer
abbrev pub tagged : ℕ → ℕ
tagged n = wrap (2 * n + 1)

abbrev pub postfix_code : Postfix → List Instr
postfix_code (Literal n) = constant_code (tagged n) ++ push_code
postfix_code (Apply operation) = operands_code ++ (arith_code operation ++ replace_code)

unfoldable pub expression_code : List Postfix → List Instr
expression_code [] = []
expression_code (p ∷ ps) = postfix_code p ++ expression_code ps

-- a hart other than 0 stops
abbrev pub start_code : List Instr
start_code = plain Beq 0 10 0 (pos 8) ∷ plain Ecall 0 0 0 (pos 0) ∷ []

-- x10 is the end of the empty stack
abbrev pub set_stack_code : List Instr
set_stack_code = plain Addi 2 10 0 (pos 0) ∷ []

-- a hart other than 0 stops; hart 0 begins with an empty stack at this byte address
unfoldable pub entry_code : ℕ → List Instr
entry_code stack = start_code ++ (constant_code stack ++ set_stack_code)

-- a byte in x13 goes in front of the text in x6, x7 and x8, whose length is in x11
abbrev pub prepend_code : List Instr
prepend_code =
    plain Slli 8 8 0 (pos 8) ∷ plain Srli 14 7 0 (pos 56) ∷ plain Add 8 8 14 (pos 0)
    ∷ plain Slli 7 7 0 (pos 8) ∷ plain Srli 14 6 0 (pos 56) ∷ plain Add 7 7 14 (pos 0)
    ∷ plain Slli 6 6 0 (pos 8) ∷ plain Add 6 6 13 (pos 0)
    ∷ plain Addi 11 11 0 (pos 1) ∷ []

-- the sign of the last word of the stack in x9 and its magnitude in x5, an empty text, and 10 in x12
abbrev pub sign_code : List Instr
sign_code =
    plain Ld 10 2 0 (negsuc 7)
    ∷ plain Srai 5 10 0 (pos 1) ∷ plain Addi 9 0 0 (pos 0) ∷ plain Bge 0 5 0 (pos 12)
    ∷ plain Sub 5 0 5 (pos 0) ∷ plain Addi 9 0 0 (pos 1)
    ∷ plain Addi 6 0 0 (pos 0) ∷ plain Addi 7 0 0 (pos 0) ∷ plain Addi 8 0 0 (pos 0) ∷ plain Addi 11 0 0 (pos 0)
    ∷ plain Addi 12 0 0 (pos 10) ∷ []

-- the last digit of x5 goes in front of the text, until x5 is 0
abbrev pub digits_code : List Instr
digits_code =
    plain Rem 13 5 12 (pos 0) ∷ plain Div 5 5 12 (pos 0) ∷ plain Addi 13 13 0 (pos 48)
    ∷ (prepend_code ++ plain Bne 0 5 0 (negsuc 47) ∷ [])

-- a minus goes in front of the text where x9 isn't 0
abbrev pub minus_code : List Instr
minus_code = plain Beq 0 9 0 (pos 44) ∷ plain Addi 13 0 0 (pos 45) ∷ prepend_code

-- the text goes into the log, then the cursor moves, then the run ends with status 0
abbrev pub end_code : List Instr
end_code =
    plain Sd 0 0 6 (pos 1152) ∷ plain Sd 0 0 7 (pos 1160) ∷ plain Sd 0 0 8 (pos 1168) ∷ plain Sd 0 0 11 (pos 48)
    ∷ plain Addi 5 0 0 (pos 1) ∷ plain Sd 0 0 5 (pos 8) ∷ plain Ecall 0 0 0 (pos 0) ∷ []

-- prints the integer whose word is the last of the stack, and ends the run
unfoldable pub print_code : List Instr
print_code = sign_code ++ (digits_code ++ (minus_code ++ end_code))

-- the word at which the stack begins: the first one behind the log
abbrev pub stack_word_of : ℕ → ℕ
stack_word_of out = LOG_WORD + log_words out

-- the words of the stack: no expression of at most 1,000 literals needs more
abbrev pub stack_words : ℕ
stack_words = 2000

-- the code of the image
unfoldable pub whole_code : ℕ → List Postfix → List Instr
whole_code out ps = entry_code (8 * stack_word_of out) ++ (expression_code ps ++ print_code)

-- instructions as lines of assembly
abbrev pub lines_of : List Instr → List Line
lines_of code = map Plain code

-- the words that aren't 0 at the start: the log's size, the one live domain, the number of harts
abbrev pub start_words_of : Settings → List StartWord
start_words_of s = record { at = 7; value = s.out } ∷ record { at = 10; value = 1 } ∷ record { at = 11; value = s.domains } ∷ []
