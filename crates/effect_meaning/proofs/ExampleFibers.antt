-- Shallow handlers.
-- Each program stands above its tree.
use Rattle.std.proofs.Common.{refl, codes, [], ◌∷◌, Some, None}
use Rattle.effect_meaning.specs.Terms.{Add, AndClause, AndEffect, AndFunction, AndType, Any, AnyPat, App, Applied, Catch, Con, ConOfPat, ConPat, ConstPat, Define, DefineRec, Destructure, Effect, Exception, Fiber, Fun, Handle, Match, NamePat, NoClauses, NoEffects, NoFunctions, NoGuard, NoTypes, Perform, Prim, PrintInt, PrintString, Program, Raise, Seq, ShallowContinue, ShallowDiscontinue, UnitConst, Var, Variable}
use Rattle.effect_meaning.specs.Builtins.{already_resumed, effect_type, exit_exception, int_type, shallow_type, unhandled, written}
use Rattle.effect_meaning.specs.Config.{Exited}
use Rattle.effect_meaning.specs.Evaluation.{one, two}
use Rattle.effect_meaning.specs.Run.{Behaves}
use Rattle.effect_meaning.proofs.ExampleRuns.{at, int, nothing, text, four, typed, plain, effect, lowest_first, behaves}

-- Two shallow handlers that take turns.
--   open Effect
--   open Effect.Shallow
--   type _ Effect.t += Get : int Effect.t
--   let rec run_a k v = continue_with k v
--     { retc = (fun () -> ()); exnc = raise;
--       effc = fun (type a) (eff : a Effect.t) -> match eff with
--         | Get -> Some (fun (k : (a, _) continuation) -> run_b k (v + 1))
--         | _ -> None }
--   and run_b k v = continue_with k v
--     { retc = (fun () -> ()); exnc = raise;
--       effc = fun (type a) (eff : a Effect.t) -> match eff with
--         | Get -> Some (fun (k : (a, _) continuation) -> run_a k (v + 1))
--         | _ -> None }
--   let () = run_a (fiber (fun n ->
--     print_int n; print_int (perform Get); print_int (perform Get))) 1
abbrev handlers_take_turns : Program
handlers_take_turns =
    record plain {
      effects = effect None (written int_type) ∷ [];
      extended = effect_type ∷ [];
      declarations = 1;
      items =
          DefineRec
          (AndFunction 0 None 2
          (Fun 3
          (Handle ShallowContinue
          (typed (Some 0) (Some (Applied effect_type (AndType (Variable 0) NoTypes))))
          (four (Var 2) (Var 3)
          (Fun 4 (Match (at 5 13) (Var 4) (AndClause (ConstPat UnitConst) NoGuard nothing NoClauses)))
          (Fun 5 (Prim Raise (one (Var 5)))))
          (AndEffect (Effect 0) None 6
          (Some (Applied shallow_type (AndType (Variable 0) (AndType Any NoTypes))))
          (App (App (Var 1) (Var 6)) (Prim Add (two (Var 3) (int 1))))
          NoEffects)))
          (AndFunction 1 None 7
          (Fun 8
          (Handle ShallowContinue
          (typed (Some 1) (Some (Applied effect_type (AndType (Variable 1) NoTypes))))
          (four (Var 7) (Var 8)
          (Fun 9
          (Match (at 10 13) (Var 9) (AndClause (ConstPat UnitConst) NoGuard nothing NoClauses)))
          (Fun 10 (Prim Raise (one (Var 10)))))
          (AndEffect (Effect 0) None 11
          (Some (Applied shallow_type (AndType (Variable 1) (AndType Any NoTypes))))
          (App (App (Var 0) (Var 11)) (Prim Add (two (Var 8) (int 1))))
          NoEffects)))
          NoFunctions))
          ∷ Destructure (at 14 1) (ConstPat UnitConst)
          (App
          (App (Var 0)
          (Prim Fiber
          (one
          (Fun 12
          (Seq
          (Prim PrintInt (one (Var 12)))
          (Seq
          (Prim PrintInt (one (Prim Perform (one (Con (Effect 0))))))
          (Prim PrintInt (one (Prim Perform (one (Con (Effect 0))))))))))))
          (int 1))
          ∷ [];
    }

pub handlers_take_turns_prints : Behaves handlers_take_turns 4 (codes "123") (Exited 0)
handlers_take_turns_prints = behaves handlers_take_turns 4 lowest_first (codes "123") (Exited 0) refl

-- The continuation of a shallow handler does not contain it: the handler that resumes has no clause for Get.
--   open Effect
--   open Effect.Shallow
--   type _ Effect.t += Get : int Effect.t
--   let over k v = continue_with k v { retc = (fun n -> n); exnc = raise; effc = function _ -> None }
--   let once k v = continue_with k v
--     { retc = (fun n -> n); exnc = raise;
--       effc = function Get -> Some (fun k -> over k 5) | _ -> None }
--   let () = print_int (once (fiber (fun () ->
--     (try perform Get with Unhandled _ -> 20) + perform Get)) ())
abbrev shallow_handler_is_gone : Program
shallow_handler_is_gone =
    record plain {
      effects = effect None (written int_type) ∷ [];
      extended = effect_type ∷ [];
      declarations = 1;
      items =
          Define 4
          (Fun 0
          (Fun 1
          (Handle ShallowContinue (typed (Some 0) None)
          (four (Var 0) (Var 1) (Fun 2 (Var 2)) (Fun 3 (Prim Raise (one (Var 3)))))
          NoEffects)))
          ∷ Define 10
          (Fun 5
          (Fun 6
          (Handle ShallowContinue (typed (Some 1) None)
          (four (Var 5) (Var 6) (Fun 7 (Var 7)) (Fun 8 (Prim Raise (one (Var 8)))))
          (AndEffect (Effect 0) None 9 None (App (App (Var 4) (Var 9)) (int 5)) NoEffects))))
          ∷ Destructure (at 8 1) (ConstPat UnitConst)
          (Prim PrintInt
          (one
          (App
          (App (Var 10)
          (Prim Fiber
          (one
          (Fun 11
          (Match (at 8 34) (Var 11)
          (AndClause (ConstPat UnitConst) NoGuard
          (Prim Add
          (two
          (Catch (at 9 4)
          (Prim Perform (one (Con (Effect 0))))
          (AndClause (NamePat 12) NoGuard (Var 12) NoClauses)
          (AndClause
          (ConOfPat (Exception unhandled) AnyPat)
          NoGuard
          (int 20)
          NoClauses))
          (Prim Perform (one (Con (Effect 0))))))
          NoClauses))))))
          nothing)))
          ∷ [];
    }

pub shallow_handler_is_gone_prints : Behaves shallow_handler_is_gone 4 (codes "25") (Exited 0)
shallow_handler_is_gone_prints = behaves shallow_handler_is_gone 4 lowest_first (codes "25") (Exited 0) refl

-- discontinue_with raises inside the fiber, and a second continue_with on it raises.
--   open Effect
--   open Effect.Shallow
--   let k = fiber (fun () -> print_string "never")
--   let resume f = f k
--   let () =
--     (try discontinue_with k Exit { retc = (fun () -> ()); exnc = (fun e -> match e with Exit -> print_string "e" | _ -> ()); effc = function _ -> None }
--      with Exit -> print_string "x");
--     try continue_with k () { retc = (fun () -> ()); exnc = raise; effc = function _ -> None }
--     with Continuation_already_resumed -> print_string "r"
abbrev fiber_resumed_twice : Program
fiber_resumed_twice =
    record plain {
      literals = codes "never" ∷ codes "e" ∷ codes "x" ∷ codes "r" ∷ [];
      items =
          Define 1
          (Prim Fiber
          (one
          (Fun 0
          (Match (at 3 16) (Var 0)
          (AndClause (ConstPat UnitConst) NoGuard (Prim PrintString (one (text 0))) NoClauses)))))
          ∷ Define 3 (Fun 2 (App (Var 2) (Var 1)))
          ∷ Destructure (at 5 1) (ConstPat UnitConst)
          (Seq
          (Catch (at 6 4)
          (Handle ShallowDiscontinue (typed (Some 0) None)
          (four (Var 1)
          (Con (Exception exit_exception))
          (Fun 4 (Match (at 6 42) (Var 4) (AndClause (ConstPat UnitConst) NoGuard nothing NoClauses)))
          (Fun 5
          (Match (at 6 74) (Var 5)
          (AndClause
          (ConPat (Exception exit_exception))
          NoGuard
          (Prim PrintString (one (text 1)))
          (AndClause AnyPat NoGuard nothing NoClauses)))))
          NoEffects)
          (AndClause (NamePat 6) NoGuard (Var 6) NoClauses)
          (AndClause
          (ConPat (Exception exit_exception))
          NoGuard
          (Prim PrintString (one (text 2)))
          NoClauses))
          (Catch (at 8 3)
          (Handle ShallowContinue (typed (Some 1) None)
          (four (Var 1) nothing
          (Fun 7 (Match (at 8 36) (Var 7) (AndClause (ConstPat UnitConst) NoGuard nothing NoClauses)))
          (Fun 8 (Prim Raise (one (Var 8)))))
          NoEffects)
          (AndClause (NamePat 9) NoGuard (Var 9) NoClauses)
          (AndClause
          (ConPat (Exception already_resumed))
          NoGuard
          (Prim PrintString (one (text 3)))
          NoClauses)))
          ∷ [];
    }

pub fiber_resumed_twice_prints : Behaves fiber_resumed_twice 4 (codes "er") (Exited 0)
fiber_resumed_twice_prints = behaves fiber_resumed_twice 4 lowest_first (codes "er") (Exited 0) refl
