-- The order of evaluation, exceptions, patterns and integers.
-- Each program stands above its tree.
use Rattle.std.proofs.Common.{refl, codes, [], ◌∷◌, ◌++◌, Some, pos, true, false}
use Rattle.effect_meaning.specs.Terms.{Add, AndClause, AndPattern, AndType, AnyPat, App, Below, Boolean, Compare, Con, ConOf, Const, ConstPat, Define, Destructure, Exception, Failwith, Fun, If, Integer, Let, Match, Mul, NamePat, NoClauses, NoGuard, NoPatterns, NoTypes, OrPat, Prim, PrintInt, Program, Raise, Record, RecordPat, Same, Seq, SetField, Tuple, TuplePat, UnitConst, Var, When}
use Rattle.effect_meaning.specs.Builtins.{bool_type, builtin_exceptions, exception, int_type, not_found, string_type, written, written_tuple}
use Rattle.effect_meaning.specs.Config.{Exited, Uncaught}
use Rattle.effect_meaning.specs.Evaluation.{one, two}
use Rattle.effect_meaning.specs.Run.{Behaves}
use Rattle.effect_meaning.proofs.ExampleRuns.{at, int, nothing, text, plain, field, lowest_first, behaves}

-- The right operand is evaluated first.
--   let f x = print_int x; x
--   let () = print_int (f 1 + f 2)
abbrev right_operand_first : Program
right_operand_first =
    record plain {
      items =
          Define 1 (Fun 0 (Seq (Prim PrintInt (one (Var 0))) (Var 0)))
          ∷ Destructure (at 2 1) (ConstPat UnitConst)
          (Prim PrintInt (one (Prim Add (two (App (Var 1) (int 1)) (App (Var 1) (int 2))))))
          ∷ [];
    }

pub right_operand_first_prints : Behaves right_operand_first 4 (codes "213") (Exited 0)
right_operand_first_prints = behaves right_operand_first 4 lowest_first (codes "213") (Exited 0) refl

-- The fields of a record expression are evaluated from right to left in the order of the text.
--   type r = { a : int; mutable b : int }
--   let f x = print_int x; x
--   let () = let r = { b = f 1; a = f 2 } in r.b <- 5; match r with { b = x; a = y } -> print_int (10 * x + y)
abbrev record_fields_from_the_right : Program
record_fields_from_the_right =
    record plain {
      fields = (field 17 0 false (written int_type)) ∷ (field 17 1 true (written int_type)) ∷ [];
      declarations = 1;
      items =
          Define 1 (Fun 0 (Seq (Prim PrintInt (one (Var 0))) (Var 0)))
          ∷ Destructure (at 3 1) (ConstPat UnitConst)
          (Let 2
          (Record (1 ∷ 0 ∷ []) (two (App (Var 1) (int 1)) (App (Var 1) (int 2))))
          (Seq
          (SetField 1 (Var 2) (int 5))
          (Match (at 3 52) (Var 2)
          (AndClause
          (RecordPat (1 ∷ 0 ∷ []) (AndPattern (NamePat 3) (AndPattern (NamePat 4) NoPatterns)))
          NoGuard
          (Prim PrintInt (one (Prim Add (two (Prim Mul (two (int 10) (Var 3))) (Var 4)))))
          NoClauses))))
          ∷ [];
    }

pub record_fields_from_the_right_prints : Behaves record_fields_from_the_right 4 (codes "2152") (Exited 0)
record_fields_from_the_right_prints = behaves record_fields_from_the_right 4 lowest_first (codes "2152") (Exited 0) refl

-- An uncaught exception ends the run with its text.
--   let () = raise Not_found
abbrev uncaught_exception : Program
uncaught_exception =
    record plain {
      items =
          Destructure (at 1 1) (ConstPat UnitConst) (Prim Raise (one (Con (Exception not_found))))
          ∷ [];
    }

pub uncaught_exception_prints : Behaves uncaught_exception 4 [] (Uncaught (codes "Not_found"))
uncaught_exception_prints = behaves uncaught_exception 4 lowest_first [] (Uncaught (codes "Not_found")) refl

-- A string in the text of an exception is in quotes.
--   let () = failwith "a"
abbrev uncaught_failure : Program
uncaught_failure =
    record plain {
      literals = codes "a" ∷ [];
      items =
          Destructure (at 1 1) (ConstPat UnitConst) (Prim Failwith (one (text 0)))
          ∷ [];
    }

pub uncaught_failure_prints : Behaves uncaught_failure 4 [] (Uncaught (codes "Failure(\"a\")"))
uncaught_failure_prints = behaves uncaught_failure 4 lowest_first [] (Uncaught (codes "Failure(\"a\")")) refl

-- Match_failure carries the file word and the place of the match.
--   let () = match 3 with 4 -> ()
abbrev no_clause_matches : Program
no_clause_matches =
    record plain {
      items =
          Destructure (at 1 1) (ConstPat UnitConst)
          (Match (at 1 10) (int 3) (AndClause (ConstPat (Integer (pos 4))) NoGuard nothing NoClauses))
          ∷ [];
    }

pub no_clause_matches_prints : Behaves no_clause_matches 4 [] (Uncaught (codes "Match_failure(\"m.ml\", 1, 10)"))
no_clause_matches_prints = behaves no_clause_matches 4 lowest_first [] (Uncaught (codes "Match_failure(\"m.ml\", 1, 10)")) refl

-- A tuple inside a tuple has no brackets of its own in the text of an exception.
--   exception E of (int * (string * bool))
--   let () = raise (E (3, ("b", true)))
abbrev nested_tuples_in_a_text : Program
nested_tuples_in_a_text =
    record plain {
      literals = codes "b" ∷ [];
      exceptions = builtin_exceptions ++ exception (codes "E") (Some (written_tuple (AndType (written int_type) (AndType (written_tuple (AndType (written string_type) (AndType (written bool_type) NoTypes))) NoTypes)))) ∷ [];
      declarations = 1;
      items =
          Destructure (at 2 1) (ConstPat UnitConst)
          (Prim Raise
          (one (ConOf (Exception 10) (Tuple (two (int 3) (Tuple (two (text 0) (Const (Boolean true)))))))))
          ∷ [];
    }

pub nested_tuples_in_a_text_prints : Behaves nested_tuples_in_a_text 4 [] (Uncaught (codes "E(3, \"b\", _)"))
nested_tuples_in_a_text_prints = behaves nested_tuples_in_a_text 4 lowest_first [] (Uncaught (codes "E(3, \"b\", _)")) refl

-- A guard that fails goes on with the next clause.
--   let () = print_int (match (2, 7) with
--     | (x, 3) | (2, x) when x < 5 -> 1
--     | (_, x) -> x)
abbrev or_pattern_and_guard : Program
or_pattern_and_guard =
    record plain {
      items =
          Destructure (at 1 1) (ConstPat UnitConst)
          (Prim PrintInt
          (one
          (Match (at 1 21)
          (Tuple (two (int 2) (int 7)))
          (AndClause
          (OrPat
          (TuplePat (AndPattern (NamePat 0) (AndPattern (ConstPat (Integer (pos 3))) NoPatterns)))
          (TuplePat (AndPattern (ConstPat (Integer (pos 2))) (AndPattern (NamePat 0) NoPatterns))))
          (When (Prim (Compare Below) (two (Var 0) (int 5))))
          (int 1)
          (AndClause
          (TuplePat (AndPattern AnyPat (AndPattern (NamePat 1) NoPatterns)))
          NoGuard
          (Var 1)
          NoClauses)))))
          ∷ [];
    }

pub or_pattern_and_guard_prints : Behaves or_pattern_and_guard 4 (codes "7") (Exited 0)
or_pattern_and_guard_prints = behaves or_pattern_and_guard 4 lowest_first (codes "7") (Exited 0) refl

-- Each evaluation of an exception makes a new value.
--   let () = if Not_found == Not_found then print_int 1 else print_int 0
abbrev exceptions_are_new_blocks : Program
exceptions_are_new_blocks =
    record plain {
      items =
          Destructure (at 1 1) (ConstPat UnitConst)
          (If
          (Prim Same (two (Con (Exception not_found)) (Con (Exception not_found))))
          (Prim PrintInt (one (int 1)))
          (Prim PrintInt (one (int 0))))
          ∷ [];
    }

pub exceptions_are_new_blocks_prints : Behaves exceptions_are_new_blocks 4 (codes "0") (Exited 0)
exceptions_are_new_blocks_prints = behaves exceptions_are_new_blocks 4 lowest_first (codes "0") (Exited 0) refl
