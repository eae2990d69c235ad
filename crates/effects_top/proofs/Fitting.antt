-- The code of an image is well-formed and short.
use Rattle.std.proofs.Common.{◌≡◌, ℕ, ◌*◌, ◌/◌, ◌%◌, ◌<◌, ◌≤◌, pos, Bool, true, false, ◌&&◌, nat_lt, List, [], ◌∷◌, ◌++◌, IsTrue, length, arith, lit<, lit≤, refl, subst, sym}
use Rattle.std.proofs.lemmas.List.{length-append}
use Rattle.std.proofs.lemmas.Bool.{lt-ltb, ltb-true}
use Rattle.rv_model.specs.declared.instr.Op.TheVariants.{Addi, Slli}
use Rattle.rv_model.specs.declared.instr.Instr.{Instr}
use Rattle.rv_model.specs.Format.{plain, fits}
use Rattle.rv_model.specs.Table.{format, IsWellFormed, AreWellFormed}
use Rattle.rv_model.proofs.WellFormed.{well_formed-none, well_formed-first, well_formed-append}
use Rattle.effects_top.specs.declared.reader.Arith.TheVariants.{Plus, Minus, Times}
use Rattle.effects_top.specs.declared.reader.Postfix.{Postfix}
use Rattle.effects_top.specs.declared.reader.Postfix.TheVariants.{Literal, Apply}
use Rattle.effects_top.specs.Compiled.{low_bits, constant_code, push_code, postfix_code, expression_code, start_code, set_stack_code, entry_code, print_code, stack_word_of, tagged, whole_code}

-- the test of an instruction, as it computes
abbrev well_formed : Instr → Bool
well_formed i = nat_lt i.rd 32 && nat_lt i.rs1 32 && nat_lt i.rs2 32 && fits (format i.op) i

abbrev all_well_formed : List Instr → Bool
all_well_formed [] = true
all_well_formed (i ∷ is) = well_formed i && all_well_formed is

both : (a b : Bool) → IsTrue (a && b) → IsTrue a × IsTrue b
both true b t = (refl, t)
both false b t = absurd (cc)

tested_one : (i : Instr) → IsTrue (well_formed i) → IsWellFormed i
tested_one i t =
    let first = both (nat_lt i.rd 32 && nat_lt i.rs1 32 && nat_lt i.rs2 32) (fits (format i.op) i) t in
    let second = both (nat_lt i.rd 32 && nat_lt i.rs1 32) (nat_lt i.rs2 32) first.0 in
    let third = both (nat_lt i.rd 32) (nat_lt i.rs1 32) second.0 in
    (ltb-true i.rd 32 third.0, ltb-true i.rs1 32 third.1, ltb-true i.rs2 32 second.1, first.1)

-- a list that passes the test is well-formed
tested : (is : List Instr) → IsTrue (all_well_formed is) → AreWellFormed is
tested [] t = well_formed-none
tested (i ∷ is) t =
    let parts = both (well_formed i) (all_well_formed is) t in
    well_formed-first i is (tested_one i parts.0) (tested is parts.1)

low_fits : (n : ℕ) → IsTrue (nat_lt (n % 2048) 2048 && true && true)
low_fits n =
    let e : nat_lt (n % 2048) 2048 ≡ true = lt-ltb (n % 2048) 2048 (omega arith) in
    subst (λ (b : Bool). IsTrue (b && true && true)) (sym e) refl

add_fits : (rs1 n : ℕ) → rs1 < 32 → IsWellFormed (plain Addi 10 rs1 0 (low_bits n))
add_fits rs1 n within = (lit< tt, within, lit< tt, low_fits n)

shift_fits : IsWellFormed (plain Slli 10 10 0 (pos 11))
shift_fits = (lit< tt, lit< tt, lit< tt, refl)

-- a shift, and the next eleven bits
more_fits : (n : ℕ) (rest : List Instr) → AreWellFormed rest → AreWellFormed (plain Slli 10 10 0 (pos 11) ∷ plain Addi 10 10 0 (low_bits n) ∷ rest)
more_fits n rest fit = well_formed-first _ _ shift_fits (well_formed-first _ rest (add_fits 10 n (lit< tt)) fit)

constant_fits : (v : ℕ) → AreWellFormed (constant_code v)
constant_fits v =
    well_formed-first _ _ (add_fits 0 (v / 2048 / 2048 / 2048 / 2048 / 2048) (lit< tt))
    (more_fits (v / 2048 / 2048 / 2048 / 2048) _ (more_fits (v / 2048 / 2048 / 2048) _ (more_fits (v / 2048 / 2048) _ (more_fits (v / 2048) _ (more_fits v [] well_formed-none)))))

part_fits : (p : Postfix) → AreWellFormed (postfix_code p)
part_fits (Literal n) = well_formed-append (constant_code (tagged n)) push_code (constant_fits (tagged n)) (tested push_code refl)
part_fits (Apply Plus) = tested (postfix_code (Apply Plus)) refl
part_fits (Apply Minus) = tested (postfix_code (Apply Minus)) refl
part_fits (Apply Times) = tested (postfix_code (Apply Times)) refl

expression_fits : (ps : List Postfix) → AreWellFormed (expression_code ps)
unfolding expression_code
expression_fits [] = well_formed-none
expression_fits (p ∷ ps) = well_formed-append (postfix_code p) (expression_code ps) (part_fits p) (expression_fits ps)

entry_fits : (stack : ℕ) → AreWellFormed (entry_code stack)
unfolding entry_code
entry_fits stack = well_formed-append start_code (constant_code stack ++ set_stack_code) (tested start_code refl) (well_formed-append (constant_code stack) set_stack_code (constant_fits stack) (tested set_stack_code refl))

print_fits : AreWellFormed print_code
unfolding print_code
print_fits = tested print_code refl

-- the code of an image is well-formed
pub whole_fits : (out : ℕ) (ps : List Postfix) → AreWellFormed (whole_code out ps)
unfolding whole_code
whole_fits out ps =
    well_formed-append (entry_code (8 * stack_word_of out)) (expression_code ps ++ print_code) (entry_fits (8 * stack_word_of out))
    (well_formed-append (expression_code ps) print_code (expression_fits ps) print_fits)

length-part : (p : Postfix) → length (postfix_code p) ≤ 13
length-part (Literal n) = lit≤ tt
length-part (Apply Plus) = lit≤ tt
length-part (Apply Minus) = lit≤ tt
length-part (Apply Times) = lit≤ tt

length-expression : (ps : List Postfix) → length (expression_code ps) ≤ 13 * length ps
unfolding expression_code
length-expression [] = lit≤ tt
length-expression (p ∷ ps) = omega (arith, length-append (postfix_code p) (expression_code ps), length-part p, length-expression ps)

length-entry : (stack : ℕ) → length (entry_code stack) ≡ 14
unfolding entry_code
length-entry stack = refl

length-print : length print_code ≡ 42
unfolding print_code
length-print = refl

-- the code of an image is short
pub whole_short : (out : ℕ) (ps : List Postfix) → length ps < 2000 → length (whole_code out ps) ≤ 262144
unfolding whole_code
whole_short out ps few =
    let e = entry_code (8 * stack_word_of out) in
    omega (arith, length-append e (expression_code ps ++ print_code), length-append (expression_code ps) print_code, length-entry (8 * stack_word_of out), length-expression ps, length-print)
