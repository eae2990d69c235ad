-- C functions: callbacks, which no effect crosses, strings, and exceptions that end a run.
-- Each program stands above its tree.
use Rattle.std.proofs.Common.{refl, codes, [], ◌∷◌, Some, None}
use Rattle.effect_meaning.specs.Terms.{Add, AndClause, AndEffect, AnyPat, Array, CFold, CIter, CTry, Catch, Compare, Con, ConOf, ConOfPat, ConPat, Concat, ConstPat, Continue, Deep, Define, Destructure, Effect, Equals, Exception, Fun, Handle, If, Match, Mul, NamePat, Negate, NoClauses, NoEffects, NoGuard, Perform, Prim, PrintInt, PrintString, Program, Raise, Seq, StringOfInt, StringSub, UnitConst, Var, Variant}
use Rattle.effect_meaning.specs.Builtins.{effect_type, exit_exception, int_type, none_con, not_found, some_con, unhandled, unit_type, written}
use Rattle.effect_meaning.specs.Config.{Exited}
use Rattle.effect_meaning.specs.Evaluation.{one, two}
use Rattle.effect_meaning.specs.Run.{Behaves}
use Rattle.effect_meaning.proofs.ExampleRuns.{at, int, nothing, text, three, four, untyped, plain, effect, lowest_first, behaves}

-- An effect that is performed in a callback finds no handler outside the C call.
--   open Effect
--   open Effect.Deep
--   type _ Effect.t += E : unit Effect.t
--   let () = match c_iter (fun _ -> try perform E with Unhandled _ -> print_string "u") [|0|] with
--     | () -> ()
--     | effect E, k -> continue k ()
abbrev no_effect_across_a_call : Program
no_effect_across_a_call =
    record plain {
      literals = codes "u" ∷ [];
      effects = effect None (written unit_type) ∷ [];
      extended = effect_type ∷ [];
      declarations = 1;
      items =
          Destructure (at 4 1) (ConstPat UnitConst)
          (Handle Deep untyped
          (four
          (Fun 0
          (Prim CIter
          (two
          (Fun 1
          (Match (at 4 24) (Var 1)
          (AndClause AnyPat NoGuard
          (Catch (at 4 33)
          (Prim Perform (one (Con (Effect 0))))
          (AndClause (NamePat 2) NoGuard (Var 2) NoClauses)
          (AndClause
          (ConOfPat (Exception unhandled) AnyPat)
          NoGuard
          (Prim PrintString (one (text 0)))
          NoClauses))
          NoClauses)))
          (Array (one (int 0))))))
          nothing
          (Fun 3 (Match (at 4 10) (Var 3) (AndClause (ConstPat UnitConst) NoGuard nothing NoClauses)))
          (Fun 4
          (Match (at 4 10) (Var 4) (AndClause (NamePat 5) NoGuard (Prim Raise (one (Var 5))) NoClauses))))
          (AndEffect (Effect 0) None 6 None (Prim Continue (two (Var 6) nothing)) NoEffects))
          ∷ [];
    }

pub no_effect_across_a_call_prints : Behaves no_effect_across_a_call 4 (codes "u") (Exited 0)
no_effect_across_a_call_prints = behaves no_effect_across_a_call 4 lowest_first (codes "u") (Exited 0) refl

-- An exception of a callback leaves c_iter; built-in names as values are functions.
--   let () =
--     (try c_iter (fun n -> if n = 2 then raise Not_found else print_int n) [|1; 2; 3|]
--      with Not_found -> print_string "n");
--     c_iter print_int [|4; 5|]
abbrev exception_through_a_call : Program
exception_through_a_call =
    record plain {
      literals = codes "n" ∷ [];
      items =
          Destructure (at 1 1) (ConstPat UnitConst)
          (Seq
          (Catch (at 2 4)
          (Prim CIter
          (two
          (Fun 0
          (If
          (Prim (Compare Equals) (two (Var 0) (int 2)))
          (Prim Raise (one (Con (Exception not_found))))
          (Prim PrintInt (one (Var 0)))))
          (Array (three (int 1) (int 2) (int 3)))))
          (AndClause (NamePat 1) NoGuard (Var 1) NoClauses)
          (AndClause (ConPat (Exception not_found)) NoGuard (Prim PrintString (one (text 0))) NoClauses))
          (Prim CIter (two (Fun 2 (Prim PrintInt (one (Var 2)))) (Array (two (int 4) (int 5))))))
          ∷ [];
    }

pub exception_through_a_call_prints : Behaves exception_through_a_call 4 (codes "1n45") (Exited 0)
exception_through_a_call_prints = behaves exception_through_a_call 4 lowest_first (codes "1n45") (Exited 0) refl

-- Strings are cut and joined.
--   let () = print_string (String.sub "effects" 0 3 ^ string_of_int (-12))
abbrev strings : Program
strings =
    record plain {
      literals = codes "effects" ∷ [];
      items =
          Destructure (at 1 1) (ConstPat UnitConst)
          (Prim PrintString
          (one
          (Prim Concat
          (two
          (Prim StringSub (three (text 0) (int 0) (int 3)))
          (Prim StringOfInt (one (Prim Negate (one (int 12)))))))))
          ∷ [];
    }

pub strings_prints : Behaves strings 4 (codes "eff-12") (Exited 0)
strings_prints = behaves strings 4 lowest_first (codes "eff-12") (Exited 0) refl

-- c_fold goes from the first element to the last.
--   let () = print_int (c_fold (fun a b -> 10 * a + b) 0 [|1; 2; 3|])
abbrev fold_in_order : Program
fold_in_order =
    record plain {
      items =
          Destructure (at 1 1) (ConstPat UnitConst)
          (Prim PrintInt
          (one
          (Prim CFold
          (three
          (Fun 0 (Fun 1 (Prim Add (two (Prim Mul (two (int 10) (Var 0))) (Var 1)))))
          (int 0)
          (Array (three (int 1) (int 2) (int 3)))))))
          ∷ [];
    }

pub fold_in_order_prints : Behaves fold_in_order 4 (codes "123") (Exited 0)
fold_in_order_prints = behaves fold_in_order 4 lowest_first (codes "123") (Exited 0) refl

-- c_try gives None where the callback raises.
--   let () = print_int (match c_try (fun () -> raise Exit) with None -> 4 | Some n -> n)
abbrev try_gives_none : Program
try_gives_none =
    record plain {
      items =
          Destructure (at 1 1) (ConstPat UnitConst)
          (Prim PrintInt
          (one
          (Match (at 1 21)
          (Prim CTry
          (one
          (Fun 0
          (Match (at 1 34) (Var 0)
          (AndClause (ConstPat UnitConst) NoGuard
          (Prim Raise (one (Con (Exception exit_exception))))
          NoClauses)))))
          (AndClause
          (ConPat (Variant none_con))
          NoGuard
          (int 4)
          (AndClause (ConOfPat (Variant some_con) (NamePat 1)) NoGuard (Var 1) NoClauses)))))
          ∷ [];
    }

pub try_gives_none_prints : Behaves try_gives_none 4 (codes "4") (Exited 0)
try_gives_none_prints = behaves try_gives_none 4 lowest_first (codes "4") (Exited 0) refl

-- A handler inside a callback of c_fold takes its effect.
--   open Effect
--   open Effect.Deep
--   type _ Effect.t += Times : int -> int Effect.t
--   let step a b = match perform (Times b) with v -> a + v | effect (Times n), k -> continue k (10 * n)
--   let () = print_int (c_fold step 7 [|1; 2|])
abbrev fold_handles_inside : Program
fold_handles_inside =
    record plain {
      effects = effect (Some (written int_type)) (written int_type) ∷ [];
      extended = effect_type ∷ [];
      declarations = 1;
      items =
          Define 9
          (Fun 0
          (Fun 1
          (Handle Deep untyped
          (four
          (Fun 2 (Prim Perform (one (ConOf (Effect 0) (Var 1)))))
          nothing
          (Fun 3
          (Match (at 4 16) (Var 3)
          (AndClause (NamePat 4) NoGuard (Prim Add (two (Var 0) (Var 4))) NoClauses)))
          (Fun 5
          (Match (at 4 16) (Var 5)
          (AndClause (NamePat 6) NoGuard (Prim Raise (one (Var 6))) NoClauses))))
          (AndEffect (Effect 0) (Some (NamePat 7)) 8 None
          (Prim Continue (two (Var 8) (Prim Mul (two (int 10) (Var 7)))))
          NoEffects))))
          ∷ Destructure (at 5 1) (ConstPat UnitConst)
          (Prim PrintInt (one (Prim CFold (three (Var 9) (int 7) (Array (two (int 1) (int 2)))))))
          ∷ [];
    }

pub fold_handles_inside_prints : Behaves fold_handles_inside 4 (codes "37") (Exited 0)
fold_handles_inside_prints = behaves fold_handles_inside 4 lowest_first (codes "37") (Exited 0) refl

-- A handler outside c_fold is not found: the callback sees Effect.Unhandled.
--   open Effect
--   open Effect.Deep
--   type _ Effect.t += E : int Effect.t
--   let () = match c_fold (fun a b -> a + (try perform E with Unhandled _ -> b)) 1 [|2; 3|] with
--     | v -> print_int v
--     | effect E, k -> continue k 100
abbrev fold_has_no_outer_handler : Program
fold_has_no_outer_handler =
    record plain {
      effects = effect None (written int_type) ∷ [];
      extended = effect_type ∷ [];
      declarations = 1;
      items =
          Destructure (at 4 1) (ConstPat UnitConst)
          (Handle Deep untyped
          (four
          (Fun 0
          (Prim CFold
          (three
          (Fun 1
          (Fun 2
          (Prim Add
          (two (Var 1)
          (Catch (at 4 40)
          (Prim Perform (one (Con (Effect 0))))
          (AndClause (NamePat 3) NoGuard (Var 3) NoClauses)
          (AndClause (ConOfPat (Exception unhandled) AnyPat) NoGuard (Var 2) NoClauses))))))
          (int 1)
          (Array (two (int 2) (int 3))))))
          nothing
          (Fun 4
          (Match (at 4 10) (Var 4)
          (AndClause (NamePat 5) NoGuard (Prim PrintInt (one (Var 5))) NoClauses)))
          (Fun 6
          (Match (at 4 10) (Var 6) (AndClause (NamePat 7) NoGuard (Prim Raise (one (Var 7))) NoClauses))))
          (AndEffect (Effect 0) None 8 None (Prim Continue (two (Var 8) (int 100))) NoEffects))
          ∷ [];
    }

pub fold_has_no_outer_handler_prints : Behaves fold_has_no_outer_handler 4 (codes "6") (Exited 0)
fold_has_no_outer_handler_prints = behaves fold_has_no_outer_handler 4 lowest_first (codes "6") (Exited 0) refl

-- Effect.Unhandled is an exception of the callback, so c_try gives None.
--   open Effect
--   open Effect.Deep
--   type _ Effect.t += E : int Effect.t
--   let () = match c_try (fun () -> perform E) with
--     | None -> print_string "none"
--     | Some n -> print_int n
--     | effect E, k -> continue k 1
abbrev try_sees_unhandled : Program
try_sees_unhandled =
    record plain {
      literals = codes "none" ∷ [];
      effects = effect None (written int_type) ∷ [];
      extended = effect_type ∷ [];
      declarations = 1;
      items =
          Destructure (at 4 1) (ConstPat UnitConst)
          (Handle Deep untyped
          (four
          (Fun 0
          (Prim CTry
          (one
          (Fun 1
          (Match (at 4 23) (Var 1)
          (AndClause (ConstPat UnitConst) NoGuard (Prim Perform (one (Con (Effect 0)))) NoClauses))))))
          nothing
          (Fun 2
          (Match (at 4 10) (Var 2)
          (AndClause
          (ConPat (Variant none_con))
          NoGuard
          (Prim PrintString (one (text 0)))
          (AndClause
          (ConOfPat (Variant some_con) (NamePat 3))
          NoGuard
          (Prim PrintInt (one (Var 3)))
          NoClauses))))
          (Fun 4
          (Match (at 4 10) (Var 4) (AndClause (NamePat 5) NoGuard (Prim Raise (one (Var 5))) NoClauses))))
          (AndEffect (Effect 0) None 6 None (Prim Continue (two (Var 6) (int 1))) NoEffects))
          ∷ [];
    }

pub try_sees_unhandled_prints : Behaves try_sees_unhandled 4 (codes "none") (Exited 0)
try_sees_unhandled_prints = behaves try_sees_unhandled 4 lowest_first (codes "none") (Exited 0) refl

-- c_try gives Some of a value that was found through an effect inside the callback.
--   open Effect
--   open Effect.Deep
--   type _ Effect.t += E : int Effect.t
--   let () = match c_try (fun () -> match perform E with v -> v + 1 | effect E, k -> continue k 8) with
--     | None -> print_string "none"
--     | Some n -> print_int n
abbrev try_resumes_inside : Program
try_resumes_inside =
    record plain {
      literals = codes "none" ∷ [];
      effects = effect None (written int_type) ∷ [];
      extended = effect_type ∷ [];
      declarations = 1;
      items =
          Destructure (at 4 1) (ConstPat UnitConst)
          (Match (at 4 10)
          (Prim CTry
          (one
          (Fun 0
          (Match (at 4 23) (Var 0)
          (AndClause (ConstPat UnitConst) NoGuard
          (Handle Deep untyped
          (four
          (Fun 1 (Prim Perform (one (Con (Effect 0)))))
          nothing
          (Fun 2
          (Match (at 4 33) (Var 2)
          (AndClause (NamePat 3) NoGuard (Prim Add (two (Var 3) (int 1))) NoClauses)))
          (Fun 4
          (Match (at 4 33) (Var 4)
          (AndClause (NamePat 5) NoGuard (Prim Raise (one (Var 5))) NoClauses))))
          (AndEffect (Effect 0) None 6 None (Prim Continue (two (Var 6) (int 8))) NoEffects))
          NoClauses)))))
          (AndClause
          (ConPat (Variant none_con))
          NoGuard
          (Prim PrintString (one (text 0)))
          (AndClause
          (ConOfPat (Variant some_con) (NamePat 7))
          NoGuard
          (Prim PrintInt (one (Var 7)))
          NoClauses)))
          ∷ [];
    }

pub try_resumes_inside_prints : Behaves try_resumes_inside 4 (codes "9") (Exited 0)
try_resumes_inside_prints = behaves try_resumes_inside 4 lowest_first (codes "9") (Exited 0) refl
