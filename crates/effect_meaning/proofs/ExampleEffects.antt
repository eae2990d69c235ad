-- Deep handlers: which handler takes an effect, what a continuation holds, and where an exception starts.
-- Each program stands above its tree.
use Rattle.std.proofs.Common.{refl, codes, [], ◌∷◌, Some, None, pos, true}
use Rattle.effect_meaning.specs.Terms.{Above, Add, AndClause, AndEffect, AndFunction, AndPattern, AndType, Any, AnyPat, App, Applied, Catch, Compare, Con, ConOf, ConOfPat, ConPat, ConstPat, Continue, Deep, Define, DefineRec, Destructure, Discontinue, Effect, Equals, Exception, Field, Fun, Handle, If, Integer, Let, LetRec, Match, Mul, NamePat, NoClauses, NoEffects, NoFunctions, NoGuard, NoPatterns, NoTypes, Perform, Prim, PrintInt, PrintString, Program, Raise, Record, Seq, SetField, Sub, Tuple, TuplePat, UnitConst, Var, Variable, Variant}
use Rattle.effect_meaning.specs.Builtins.{already_resumed, cons_con, deep_type, effect_type, exit_exception, failure, function_type, int_type, list_type, nil_con, not_found, queue_empty, unhandled, unit_type, written}
use Rattle.effect_meaning.specs.Config.{Exited}
use Rattle.effect_meaning.specs.Evaluation.{one, two}
use Rattle.effect_meaning.specs.Run.{Behaves}
use Rattle.effect_meaning.proofs.ExampleRuns.{at, int, nothing, text, three, four, untyped, typed, plain, field, effect, lowest_first, behaves}

-- The right operand performs first and gets 2, the left one 1.
--   open Effect
--   open Effect.Deep
--   type _ Effect.t += Xchg : int -> int t
--   let comp () = perform (Xchg 0) + perform (Xchg 1)
--   let () = print_int (try_with comp () { effc = fun (type a) (eff : a t) ->
--     match eff with
--     | Xchg n -> Some (fun (k : (a, _) continuation) -> continue k (n + 1))
--     | _ -> None })
abbrev effect_with_argument : Program
effect_with_argument =
    record plain {
      effects = effect (Some (written int_type)) (written int_type) ∷ [];
      extended = effect_type ∷ [];
      declarations = 1;
      items =
          Define 1
          (Fun 0
          (Match (at 4 1) (Var 0)
          (AndClause (ConstPat UnitConst) NoGuard
          (Prim Add
          (two
          (Prim Perform (one (ConOf (Effect 0) (int 0))))
          (Prim Perform (one (ConOf (Effect 0) (int 1))))))
          NoClauses)))
          ∷ Destructure (at 5 1) (ConstPat UnitConst)
          (Prim PrintInt
          (one
          (Handle Deep
          (typed (Some 0) (Some (Applied effect_type (AndType (Variable 0) NoTypes))))
          (four (Var 1) nothing (Fun 2 (Var 2)) (Fun 3 (Prim Raise (one (Var 3)))))
          (AndEffect (Effect 0) (Some (NamePat 4)) 5
          (Some (Applied deep_type (AndType (Variable 0) (AndType Any NoTypes))))
          (Prim Continue (two (Var 5) (Prim Add (two (Var 4) (int 1)))))
          NoEffects))))
          ∷ [];
    }

pub effect_with_argument_prints : Behaves effect_with_argument 4 (codes "3") (Exited 0)
effect_with_argument_prints = behaves effect_with_argument 4 lowest_first (codes "3") (Exited 0) refl

-- An effect without a handler raises Effect.Unhandled.
--   open Effect
--   open Effect.Deep
--   type _ Effect.t += E : unit Effect.t
--   let () = try perform E with Unhandled _ -> print_int 7
abbrev unhandled_effect : Program
unhandled_effect =
    record plain {
      effects = effect None (written unit_type) ∷ [];
      extended = effect_type ∷ [];
      declarations = 1;
      items =
          Destructure (at 4 1) (ConstPat UnitConst)
          (Catch (at 4 10)
          (Prim Perform (one (Con (Effect 0))))
          (AndClause (NamePat 0) NoGuard (Var 0) NoClauses)
          (AndClause (ConOfPat (Exception unhandled) AnyPat) NoGuard (Prim PrintInt (one (int 7))) NoClauses))
          ∷ [];
    }

pub unhandled_effect_prints : Behaves unhandled_effect 4 (codes "7") (Exited 0)
unhandled_effect_prints = behaves unhandled_effect 4 lowest_first (codes "7") (Exited 0) refl

-- Effect.Unhandled is raised at the perform, inside the try, and not at the handler.
--   open Effect
--   open Effect.Deep
--   type _ Effect.t += E : unit Effect.t | F : unit Effect.t
--   let () = match (try perform E; 1 with Unhandled _ -> 7) with
--     | v -> print_int v
--     | effect F, k -> continue k ()
abbrev unhandled_at_the_perform : Program
unhandled_at_the_perform =
    record plain {
      effects = effect None (written unit_type) ∷ effect None (written unit_type) ∷ [];
      extended = effect_type ∷ [];
      declarations = 1;
      items =
          Destructure (at 4 1) (ConstPat UnitConst)
          (Handle Deep untyped
          (four
          (Fun 0
          (Catch (at 4 17)
          (Seq (Prim Perform (one (Con (Effect 0)))) (int 1))
          (AndClause (NamePat 1) NoGuard (Var 1) NoClauses)
          (AndClause (ConOfPat (Exception unhandled) AnyPat) NoGuard (int 7) NoClauses)))
          nothing
          (Fun 2
          (Match (at 4 10) (Var 2)
          (AndClause (NamePat 3) NoGuard (Prim PrintInt (one (Var 3))) NoClauses)))
          (Fun 4
          (Match (at 4 10) (Var 4) (AndClause (NamePat 5) NoGuard (Prim Raise (one (Var 5))) NoClauses))))
          (AndEffect (Effect 1) None 6 None (Prim Continue (two (Var 6) nothing)) NoEffects))
          ∷ [];
    }

pub unhandled_at_the_perform_prints : Behaves unhandled_at_the_perform 4 (codes "7") (Exited 0)
unhandled_at_the_perform_prints = behaves unhandled_at_the_perform 4 lowest_first (codes "7") (Exited 0) refl

-- A second continue raises Effect.Continuation_already_resumed.
--   open Effect
--   open Effect.Deep
--   type _ Effect.t += Stop : unit Effect.t
--   let () = match perform Stop with
--     | () -> print_string "once "
--     | effect Stop, k ->
--       continue k ();
--       (try continue k () with Continuation_already_resumed -> print_string "already")
abbrev pub resumed_twice : Program
resumed_twice =
    record plain {
      literals = codes "once " ∷ codes "already" ∷ [];
      effects = effect None (written unit_type) ∷ [];
      extended = effect_type ∷ [];
      declarations = 1;
      items =
          Destructure (at 4 1) (ConstPat UnitConst)
          (Handle Deep untyped
          (four
          (Fun 0 (Prim Perform (one (Con (Effect 0)))))
          nothing
          (Fun 1
          (Match (at 4 10) (Var 1)
          (AndClause (ConstPat UnitConst) NoGuard (Prim PrintString (one (text 0))) NoClauses)))
          (Fun 2
          (Match (at 4 10) (Var 2) (AndClause (NamePat 3) NoGuard (Prim Raise (one (Var 3))) NoClauses))))
          (AndEffect (Effect 0) None 4 None
          (Seq
          (Prim Continue (two (Var 4) nothing))
          (Catch (at 8 6)
          (Prim Continue (two (Var 4) nothing))
          (AndClause (NamePat 5) NoGuard (Var 5) NoClauses)
          (AndClause
          (ConPat (Exception already_resumed))
          NoGuard
          (Prim PrintString (one (text 1)))
          NoClauses)))
          NoEffects))
          ∷ [];
    }

pub resumed_twice_prints : Behaves resumed_twice 4 (codes "once already") (Exited 0)
resumed_twice_prints = behaves resumed_twice 4 lowest_first (codes "once already") (Exited 0) refl

-- discontinue raises inside the body.
--   open Effect
--   open Effect.Deep
--   type _ Effect.t += E : int Effect.t
--   let () = print_int (match (try perform E with Not_found -> 5) with
--     | v -> v
--     | effect E, k -> discontinue k Not_found)
abbrev discontinue_raises_inside : Program
discontinue_raises_inside =
    record plain {
      effects = effect None (written int_type) ∷ [];
      extended = effect_type ∷ [];
      declarations = 1;
      items =
          Destructure (at 4 1) (ConstPat UnitConst)
          (Prim PrintInt
          (one
          (Handle Deep untyped
          (four
          (Fun 0
          (Catch (at 4 28)
          (Prim Perform (one (Con (Effect 0))))
          (AndClause (NamePat 1) NoGuard (Var 1) NoClauses)
          (AndClause (ConPat (Exception not_found)) NoGuard (int 5) NoClauses)))
          nothing
          (Fun 2 (Match (at 4 21) (Var 2) (AndClause (NamePat 3) NoGuard (Var 3) NoClauses)))
          (Fun 4
          (Match (at 4 21) (Var 4)
          (AndClause (NamePat 5) NoGuard (Prim Raise (one (Var 5))) NoClauses))))
          (AndEffect (Effect 0) None 6 None (Prim Discontinue (two (Var 6) (Con (Exception not_found)))) NoEffects))))
          ∷ [];
    }

pub discontinue_raises_inside_prints : Behaves discontinue_raises_inside 4 (codes "5") (Exited 0)
discontinue_raises_inside_prints = behaves discontinue_raises_inside 4 lowest_first (codes "5") (Exited 0) refl

-- E passes the inner handler, which is still in the context when F is performed: (1 + 4) * 10.
--   open Effect
--   open Effect.Deep
--   type _ Effect.t += E : int Effect.t | F : int Effect.t
--   let () = print_int (
--     match (match perform F + perform E with v -> v * 10 | effect F, k -> continue k 1) with
--     | v -> v
--     | effect E, k -> continue k 4)
abbrev effect_passes_a_handler : Program
effect_passes_a_handler =
    record plain {
      effects = effect None (written int_type) ∷ effect None (written int_type) ∷ [];
      extended = effect_type ∷ [];
      declarations = 1;
      items =
          Destructure (at 4 1) (ConstPat UnitConst)
          (Prim PrintInt
          (one
          (Handle Deep untyped
          (four
          (Fun 0
          (Handle Deep untyped
          (four
          (Fun 1
          (Prim Add
          (two (Prim Perform (one (Con (Effect 0)))) (Prim Perform (one (Con (Effect 1)))))))
          nothing
          (Fun 2
          (Match (at 5 10) (Var 2)
          (AndClause (NamePat 3) NoGuard (Prim Mul (two (Var 3) (int 10))) NoClauses)))
          (Fun 4
          (Match (at 5 10) (Var 4)
          (AndClause (NamePat 5) NoGuard (Prim Raise (one (Var 5))) NoClauses))))
          (AndEffect (Effect 0) None 6 None (Prim Continue (two (Var 6) (int 1))) NoEffects)))
          nothing
          (Fun 7 (Match (at 5 3) (Var 7) (AndClause (NamePat 8) NoGuard (Var 8) NoClauses)))
          (Fun 9
          (Match (at 5 3) (Var 9)
          (AndClause (NamePat 10) NoGuard (Prim Raise (one (Var 10))) NoClauses))))
          (AndEffect (Effect 1) None 11 None (Prim Continue (two (Var 11) (int 4))) NoEffects))))
          ∷ [];
    }

pub effect_passes_a_handler_prints : Behaves effect_passes_a_handler 4 (codes "50") (Exited 0)
effect_passes_a_handler_prints = behaves effect_passes_a_handler 4 lowest_first (codes "50") (Exited 0) refl

-- The exception of an effect clause is raised outside its own handler, and outside the try that the handler is round.
--   open Effect
--   open Effect.Deep
--   type _ Effect.t += E : int Effect.t
--   let () =
--     try
--       match (try perform E with Not_found -> 1) with
--       | v -> print_int v
--       | effect E, _ -> print_int 2; raise Not_found
--     with Not_found -> print_string "f"
abbrev clause_outside_its_handler : Program
clause_outside_its_handler =
    record plain {
      literals = codes "f" ∷ [];
      effects = effect None (written int_type) ∷ [];
      extended = effect_type ∷ [];
      declarations = 1;
      items =
          Destructure (at 4 1) (ConstPat UnitConst)
          (Catch (at 5 3)
          (Handle Deep untyped
          (four
          (Fun 0
          (Catch (at 6 12)
          (Prim Perform (one (Con (Effect 0))))
          (AndClause (NamePat 1) NoGuard (Var 1) NoClauses)
          (AndClause (ConPat (Exception not_found)) NoGuard (int 1) NoClauses)))
          nothing
          (Fun 2
          (Match (at 6 5) (Var 2)
          (AndClause (NamePat 3) NoGuard (Prim PrintInt (one (Var 3))) NoClauses)))
          (Fun 4
          (Match (at 6 5) (Var 4) (AndClause (NamePat 5) NoGuard (Prim Raise (one (Var 5))) NoClauses))))
          (AndEffect (Effect 0) None 6 None
          (Seq (Prim PrintInt (one (int 2))) (Prim Raise (one (Con (Exception not_found)))))
          NoEffects))
          (AndClause (NamePat 7) NoGuard (Var 7) NoClauses)
          (AndClause (ConPat (Exception not_found)) NoGuard (Prim PrintString (one (text 0))) NoClauses))
          ∷ [];
    }

pub clause_outside_its_handler_prints : Behaves clause_outside_its_handler 4 (codes "2f") (Exited 0)
clause_outside_its_handler_prints = behaves clause_outside_its_handler 4 lowest_first (codes "2f") (Exited 0) refl

-- An exception of the body goes through the handler, whose exnc raises it again.
--   open Effect
--   open Effect.Deep
--   type _ Effect.t += E : int Effect.t
--   let body () = print_int (perform E); raise Exit
--   let () =
--     try try_with body () { effc = function E -> Some (fun k -> continue k 1) | _ -> None }
--     with Exit -> print_string "out"
abbrev raised_through_a_handler : Program
raised_through_a_handler =
    record plain {
      literals = codes "out" ∷ [];
      effects = effect None (written int_type) ∷ [];
      extended = effect_type ∷ [];
      declarations = 1;
      items =
          Define 1
          (Fun 0
          (Match (at 4 1) (Var 0)
          (AndClause (ConstPat UnitConst) NoGuard
          (Seq
          (Prim PrintInt (one (Prim Perform (one (Con (Effect 0))))))
          (Prim Raise (one (Con (Exception exit_exception)))))
          NoClauses)))
          ∷ Destructure (at 5 1) (ConstPat UnitConst)
          (Catch (at 6 3)
          (Handle Deep (typed (Some 0) None)
          (four (Var 1) nothing (Fun 2 (Var 2)) (Fun 3 (Prim Raise (one (Var 3)))))
          (AndEffect (Effect 0) None 4 None (Prim Continue (two (Var 4) (int 1))) NoEffects))
          (AndClause (NamePat 5) NoGuard (Var 5) NoClauses)
          (AndClause
          (ConPat (Exception exit_exception))
          NoGuard
          (Prim PrintString (one (text 0)))
          NoClauses))
          ∷ [];
    }

pub raised_through_a_handler_prints : Behaves raised_through_a_handler 4 (codes "1out") (Exited 0)
raised_through_a_handler_prints = behaves raised_through_a_handler 4 lowest_first (codes "1out") (Exited 0) refl

-- An exception that no clause of the handler names is raised again outside the handler.
--   open Effect
--   open Effect.Deep
--   type _ Effect.t += E : int Effect.t
--   let () =
--     try
--       match raise (Failure "deep") with
--       | v -> print_int v
--       | exception Not_found -> print_string "no"
--       | effect E, k -> continue k 1
--     with Failure s -> print_string s
abbrev no_exception_clause_matches : Program
no_exception_clause_matches =
    record plain {
      literals = codes "deep" ∷ codes "no" ∷ [];
      effects = effect None (written int_type) ∷ [];
      extended = effect_type ∷ [];
      declarations = 1;
      items =
          Destructure (at 4 1) (ConstPat UnitConst)
          (Catch (at 5 3)
          (Handle Deep untyped
          (four
          (Fun 0 (Prim Raise (one (ConOf (Exception failure) (text 0)))))
          nothing
          (Fun 1
          (Match (at 6 5) (Var 1)
          (AndClause (NamePat 2) NoGuard (Prim PrintInt (one (Var 2))) NoClauses)))
          (Fun 3
          (Match (at 6 5) (Var 3)
          (AndClause
          (ConPat (Exception not_found))
          NoGuard
          (Prim PrintString (one (text 1)))
          (AndClause (NamePat 4) NoGuard (Prim Raise (one (Var 4))) NoClauses)))))
          (AndEffect (Effect 0) None 5 None (Prim Continue (two (Var 5) (int 1))) NoEffects))
          (AndClause (NamePat 6) NoGuard (Var 6) NoClauses)
          (AndClause
          (ConOfPat (Exception failure) (NamePat 7))
          NoGuard
          (Prim PrintString (one (Var 7)))
          NoClauses))
          ∷ [];
    }

pub no_exception_clause_matches_prints : Behaves no_exception_clause_matches 4 (codes "deep") (Exited 0)
no_exception_clause_matches_prints = behaves no_exception_clause_matches 4 lowest_first (codes "deep") (Exited 0) refl

-- An effect clause whose argument pattern fails is passed: the outer handler takes the effect.
--   open Effect
--   open Effect.Deep
--   type _ Effect.t += Ask : int -> int Effect.t
--   let () = print_int (
--     match (match perform (Ask 3) with v -> v + 1 | effect (Ask 2), k -> continue k 0) with
--     | v -> v
--     | effect (Ask n), k -> continue k (n * n))
abbrev argument_pattern_goes_on : Program
argument_pattern_goes_on =
    record plain {
      effects = effect (Some (written int_type)) (written int_type) ∷ [];
      extended = effect_type ∷ [];
      declarations = 1;
      items =
          Destructure (at 4 1) (ConstPat UnitConst)
          (Prim PrintInt
          (one
          (Handle Deep untyped
          (four
          (Fun 0
          (Handle Deep untyped
          (four
          (Fun 1 (Prim Perform (one (ConOf (Effect 0) (int 3)))))
          nothing
          (Fun 2
          (Match (at 5 10) (Var 2)
          (AndClause (NamePat 3) NoGuard (Prim Add (two (Var 3) (int 1))) NoClauses)))
          (Fun 4
          (Match (at 5 10) (Var 4)
          (AndClause (NamePat 5) NoGuard (Prim Raise (one (Var 5))) NoClauses))))
          (AndEffect (Effect 0)
          (Some (ConstPat (Integer (pos 2))))
          6
          None
          (Prim Continue (two (Var 6) (int 0)))
          NoEffects)))
          nothing
          (Fun 7 (Match (at 5 3) (Var 7) (AndClause (NamePat 8) NoGuard (Var 8) NoClauses)))
          (Fun 9
          (Match (at 5 3) (Var 9)
          (AndClause (NamePat 10) NoGuard (Prim Raise (one (Var 10))) NoClauses))))
          (AndEffect (Effect 0) (Some (NamePat 11)) 12 None
          (Prim Continue (two (Var 12) (Prim Mul (two (Var 11) (Var 11)))))
          NoEffects))))
          ∷ [];
    }

pub argument_pattern_goes_on_prints : Behaves argument_pattern_goes_on 4 (codes "10") (Exited 0)
argument_pattern_goes_on_prints = behaves argument_pattern_goes_on 4 lowest_first (codes "10") (Exited 0) refl

-- A scheduler of two tasks, each of which yields after each of its three turns.
--   open Effect
--   open Effect.Deep
--   type _ Effect.t += Fork : (unit -> unit) -> unit Effect.t | Yield : unit Effect.t
--   let run main =
--     let run_q = Queue.create () in
--     let enqueue k = Queue.push (fun () -> continue k ()) run_q in
--     let dequeue () = if Queue.is_empty run_q then () else (Queue.pop run_q) () in
--     let rec spawn f =
--       match f () with
--       | () -> dequeue ()
--       | effect Yield, k -> enqueue k; dequeue ()
--       | effect (Fork g), k -> enqueue k; spawn g
--     in
--     spawn main
--   let task name () =
--     for i = 1 to 3 do
--       print_string name; print_int i; print_string " "; perform Yield
--     done
--   let () = run (fun () -> perform (Fork (task "a")); perform (Fork (task "b")))
abbrev round_robin : Program
round_robin =
    record plain {
      literals = codes " " ∷ codes "a" ∷ codes "b" ∷ [];
      fields = (field 17 0 true (Applied list_type (AndType (Variable 0) NoTypes))) ∷ (field 17 1 true (Applied list_type (AndType (Variable 0) NoTypes))) ∷ (field 17 2 true (written int_type)) ∷ [];
      effects = effect None (written unit_type) ∷ effect (Some (Applied function_type (AndType (written unit_type) (AndType (written unit_type) NoTypes)))) (written unit_type) ∷ [];
      extended = effect_type ∷ [];
      declarations = 1;
      items =
          DefineRec
          (AndFunction 0 None 1
          (Fun 2
          (Match (at 3 29) (Var 2)
          (AndClause
          (ConPat (Variant nil_con))
          NoGuard
          (Var 1)
          (AndClause
          (ConOfPat (Variant cons_con)
          (TuplePat (AndPattern (NamePat 3) (AndPattern (NamePat 4) NoPatterns))))
          NoGuard
          (App (App (Var 0) (ConOf (Variant cons_con) (Tuple (two (Var 3) (Var 1))))) (Var 4))
          NoClauses))))
          NoFunctions)
          ∷ Define 6 (Fun 5 (App (App (Var 0) (Con (Variant nil_con))) (Var 5)))
          ∷ Define 8
          (Fun 7
          (Match (at 10 1) (Var 7)
          (AndClause (ConstPat UnitConst) NoGuard
          (Record (0 ∷ 1 ∷ 2 ∷ []) (three (Con (Variant nil_con)) (Con (Variant nil_con)) (int 0)))
          NoClauses)))
          ∷ Define 11
          (Fun 9
          (Fun 10
          (Seq
          (SetField 1 (Var 10) (ConOf (Variant cons_con) (Tuple (two (Var 9) (Field 1 (Var 10))))))
          (SetField 2 (Var 10) (Prim Add (two (Field 2 (Var 10)) (int 1)))))))
          ∷ Define 13 (Fun 12 (Prim (Compare Equals) (two (Field 2 (Var 12)) (int 0))))
          ∷ DefineRec
          (AndFunction 14 None 15
          (Match (at 15 23) (Field 0 (Var 15))
          (AndClause
          (ConOfPat (Variant cons_con)
          (TuplePat (AndPattern (NamePat 16) (AndPattern (NamePat 17) NoPatterns))))
          NoGuard
          (Seq
          (SetField 0 (Var 15) (Var 17))
          (Seq (SetField 2 (Var 15) (Prim Sub (two (Field 2 (Var 15)) (int 1)))) (Var 16)))
          (AndClause
          (ConPat (Variant nil_con))
          NoGuard
          (If
          (Prim (Compare Equals) (two (Field 2 (Var 15)) (int 0)))
          (Prim Raise (one (Con (Exception queue_empty))))
          (Seq
          (SetField 0 (Var 15) (App (Var 6) (Field 1 (Var 15))))
          (Seq (SetField 1 (Var 15) (Con (Variant nil_con))) (App (Var 14) (Var 15)))))
          NoClauses)))
          NoFunctions)
          ∷ Define 34
          (Fun 18
          (Let 19 (App (Var 8) nothing)
          (Let 22
          (Fun 20
          (App
          (App (Var 11)
          (Fun 21
          (Match (at 6 31) (Var 21)
          (AndClause (ConstPat UnitConst) NoGuard
          (Prim Continue (two (Var 20) nothing))
          NoClauses))))
          (Var 19)))
          (Let 24
          (Fun 23
          (Match (at 7 3) (Var 23)
          (AndClause (ConstPat UnitConst) NoGuard
          (If (App (Var 13) (Var 19)) nothing (App (App (Var 14) (Var 19)) nothing))
          NoClauses)))
          (LetRec
          (AndFunction 25 None 26
          (Handle Deep untyped
          (four
          (Fun 27 (App (Var 26) nothing))
          nothing
          (Fun 28
          (Match (at 9 5) (Var 28)
          (AndClause (ConstPat UnitConst) NoGuard (App (Var 24) nothing) NoClauses)))
          (Fun 29
          (Match (at 9 5) (Var 29)
          (AndClause (NamePat 30) NoGuard (Prim Raise (one (Var 30))) NoClauses))))
          (AndEffect (Effect 0) None 31 None
          (Seq (App (Var 22) (Var 31)) (App (Var 24) nothing))
          (AndEffect (Effect 1) (Some (NamePat 32)) 33 None
          (Seq (App (Var 22) (Var 33)) (App (Var 25) (Var 32)))
          NoEffects)))
          NoFunctions)
          (App (Var 25) (Var 18)))))))
          ∷ Define 41
          (Fun 35
          (Fun 36
          (Match (at 15 1) (Var 36)
          (AndClause (ConstPat UnitConst) NoGuard
          (Let 37 (int 1)
          (Let 38 (int 3)
          (If
          (Prim (Compare Above) (two (Var 37) (Var 38)))
          nothing
          (LetRec
          (AndFunction 39 None 40
          (Seq
          (Seq
          (Prim PrintString (one (Var 35)))
          (Seq
          (Prim PrintInt (one (Var 40)))
          (Seq
          (Prim PrintString (one (text 0)))
          (Prim Perform (one (Con (Effect 0)))))))
          (If
          (Prim (Compare Equals) (two (Var 40) (Var 38)))
          nothing
          (App (Var 39) (Prim Add (two (Var 40) (int 1))))))
          NoFunctions)
          (App (Var 39) (Var 37))))))
          NoClauses))))
          ∷ Destructure (at 19 1) (ConstPat UnitConst)
          (App (Var 34)
          (Fun 42
          (Match (at 19 15) (Var 42)
          (AndClause (ConstPat UnitConst) NoGuard
          (Seq
          (Prim Perform (one (ConOf (Effect 1) (App (Var 41) (text 1)))))
          (Prim Perform (one (ConOf (Effect 1) (App (Var 41) (text 2))))))
          NoClauses))))
          ∷ [];
    }

pub round_robin_prints : Behaves round_robin 4 (codes "a1 b1 a2 b2 a3 b3 ") (Exited 0)
round_robin_prints = behaves round_robin 4 lowest_first (codes "a1 b1 a2 b2 a3 b3 ") (Exited 0) refl
