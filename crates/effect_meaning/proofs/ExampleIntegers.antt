-- Integers of 63 bits, and a text that is longer than what an uncaught exception shows.
use Rattle.std.proofs.Common.{refl, codes, ℕ, [], ◌∷◌, ◌++◌, List, negsuc, replicate}
use Rattle.effect_meaning.specs.Terms.{Add, AndClause, Catch, ConPat, Const, ConstPat, Destructure, Div, Exception, Failwith, Integer, Lsl, Lsr, Mod, NamePat, Negate, NoClauses, NoGuard, Prim, PrintInt, Program, Term, UnitConst, Var}
use Rattle.effect_meaning.specs.Builtins.{division_by_zero}
use Rattle.effect_meaning.specs.Config.{End, Exited, Uncaught}
use Rattle.effect_meaning.specs.Evaluation.{one, two}
use Rattle.effect_meaning.specs.Run.{Behaves}
use Rattle.effect_meaning.proofs.ExampleRuns.{at, int, text, plain, lowest_first, behaves}

-- let () = print_int a
abbrev printing : Term → Program
printing a = record plain { items = Destructure (at 1 1) (ConstPat UnitConst) (Prim PrintInt (one a)) ∷ [] }

abbrev Prints : Term → List ℕ → Type 0
Prints a output = Behaves (printing a) 4 output (Exited 0)

abbrev minus : ℕ → Term
minus n = Prim Negate (one (int n))

abbrev least : Term
least = Const (Integer (negsuc 4611686018427387903))

abbrev most : Term
most = int 4611686018427387903

-- (-7) / 2 rounds towards zero
pub division : Prints (Prim Div (two (minus 7) (int 2))) (codes "-3")
division = behaves (printing (Prim Div (two (minus 7) (int 2)))) 4 lowest_first (codes "-3") (Exited 0) refl

-- (-7) mod 2 has the dividend's sign
pub remainder : Prints (Prim Mod (two (minus 7) (int 2))) (codes "-1")
remainder = behaves (printing (Prim Mod (two (minus 7) (int 2)))) 4 lowest_first (codes "-1") (Exited 0) refl

-- min_int / (-1) and min_int mod (-1)
pub division_of_the_least : Prints (Prim Div (two least (minus 1))) (codes "-4611686018427387904")
division_of_the_least = behaves (printing (Prim Div (two least (minus 1)))) 4 lowest_first (codes "-4611686018427387904") (Exited 0) refl

pub remainder_of_the_least : Prints (Prim Mod (two least (minus 1))) (codes "0")
remainder_of_the_least = behaves (printing (Prim Mod (two least (minus 1)))) 4 lowest_first (codes "0") (Exited 0) refl

-- (-1) lsr 1 and 1 lsl 62
pub shift_right_of_minus_one : Prints (Prim Lsr (two (minus 1) (int 1))) (codes "4611686018427387903")
shift_right_of_minus_one = behaves (printing (Prim Lsr (two (minus 1) (int 1)))) 4 lowest_first (codes "4611686018427387903") (Exited 0) refl

pub shift_left_to_the_sign : Prints (Prim Lsl (two (int 1) (int 62))) (codes "-4611686018427387904")
shift_left_to_the_sign = behaves (printing (Prim Lsl (two (int 1) (int 62)))) 4 lowest_first (codes "-4611686018427387904") (Exited 0) refl

-- max_int + 1
pub wraps_round : Prints (Prim Add (two most (int 1))) (codes "-4611686018427387904")
wraps_round = behaves (printing (Prim Add (two most (int 1)))) 4 lowest_first (codes "-4611686018427387904") (Exited 0) refl

-- try 1 / 0 with Division_by_zero -> 8
abbrev divides_by_zero : Term
divides_by_zero =
    Catch (at 1 21) (Prim Div (two (int 1) (int 0)))
    (AndClause (NamePat 0) NoGuard (Var 0) NoClauses)
    (AndClause (ConPat (Exception division_by_zero)) NoGuard (int 8) NoClauses)

pub division_by_zero_is_caught : Prints divides_by_zero (codes "8")
division_by_zero_is_caught = behaves (printing divides_by_zero) 4 lowest_first (codes "8") (Exited 0) refl

-- let () = failwith of 2,000 times a: the text is cut to 1,024 bytes
abbrev long_text : Program
long_text =
    record plain {
      literals = replicate 2000 97 ∷ [];
      items = Destructure (at 1 1) (ConstPat UnitConst) (Prim Failwith (one (text 0))) ∷ [];
    }

abbrev long_end : End
long_end = Uncaught (codes "Failure(\"" ++ replicate 1015 97)

pub long_text_is_cut : Behaves long_text 4 [] long_end
long_text_is_cut = behaves long_text 4 lowest_first [] long_end refl
