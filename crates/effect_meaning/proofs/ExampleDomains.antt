-- Domains, atomics and queues of fibers.
-- Each program stands above its tree.
use Rattle.std.proofs.Common.{refl, codes, [], ◌∷◌, None}
use Rattle.effect_meaning.specs.Terms.{Add, AndClause, AndEffect, AndFunction, AnyPat, App, AtomicAdd, AtomicCas, AtomicExchange, AtomicGet, AtomicIncr, AtomicMake, Catch, Con, ConOf, ConOfPat, ConPat, ConstPat, Continue, Deep, Define, DefineRec, Destructure, Effect, Exception, Exit, Failwith, Fun, Handle, If, Ignore, Join, Let, Match, NamePat, NoClauses, NoEffects, NoFunctions, NoGuard, Perform, Prim, PrintInt, PrintString, Program, QueuePush, QueueSelf, QueueSlots, QueueTake, Raise, RefGet, RefMake, RefSet, Seq, Spawn, UnitConst, Var, Variant}
use Rattle.effect_meaning.specs.Builtins.{already_resumed, effect_type, failure, int_type, none_con, not_found, some_con, unit_type, written}
use Rattle.effect_meaning.specs.Config.{Exited, Uncaught}
use Rattle.effect_meaning.specs.Evaluation.{one, two}
use Rattle.effect_meaning.specs.Run.{Behaves}
use Rattle.effect_meaning.proofs.ExampleRuns.{at, int, nothing, text, three, four, untyped, plain, effect, lowest_first, highest_first, behaves}

-- Domain 0 captures the fiber and domain 1 runs it.
--   open Effect
--   open Effect.Deep
--   type _ Effect.t += Ask : int Effect.t
--   let store = ref None
--   let _ = match 2 + perform Ask with
--     | v -> v
--     | effect Ask, k -> store := Some k; 0
--   let () = match !store with
--     | None -> ()
--     | Some k -> print_int (Domain.join (Domain.spawn (fun () -> continue k 40)))
abbrev resumed_in_another_domain : Program
resumed_in_another_domain =
    record plain {
      effects = effect None (written int_type) ∷ [];
      extended = effect_type ∷ [];
      declarations = 1;
      items =
          Define 0 (Prim RefMake (one (Con (Variant none_con))))
          ∷ Destructure (at 5 1) AnyPat
          (Handle Deep untyped
          (four
          (Fun 1 (Prim Add (two (int 2) (Prim Perform (one (Con (Effect 0)))))))
          nothing
          (Fun 2 (Match (at 5 9) (Var 2) (AndClause (NamePat 3) NoGuard (Var 3) NoClauses)))
          (Fun 4
          (Match (at 5 9) (Var 4) (AndClause (NamePat 5) NoGuard (Prim Raise (one (Var 5))) NoClauses))))
          (AndEffect (Effect 0) None 6 None
          (Seq (Prim RefSet (two (Var 0) (ConOf (Variant some_con) (Var 6)))) (int 0))
          NoEffects))
          ∷ Destructure (at 8 1) (ConstPat UnitConst)
          (Match (at 8 10)
          (Prim RefGet (one (Var 0)))
          (AndClause
          (ConPat (Variant none_con))
          NoGuard
          nothing
          (AndClause
          (ConOfPat (Variant some_con) (NamePat 7))
          NoGuard
          (Prim PrintInt
          (one
          (Prim Join
          (one
          (Prim Spawn
          (one
          (Fun 8
          (Match (at 10 53) (Var 8)
          (AndClause (ConstPat UnitConst) NoGuard
          (Prim Continue (two (Var 7) (int 40)))
          NoClauses)))))))))
          NoClauses)))
          ∷ [];
    }

pub resumed_in_another_domain_prints : Behaves resumed_in_another_domain 4 (codes "42") (Exited 0)
resumed_in_another_domain_prints = behaves resumed_in_another_domain 4 lowest_first (codes "42") (Exited 0) refl

-- Two domains race for one continuation.
--   open Effect
--   open Effect.Deep
--   type _ Effect.t += Stop : unit Effect.t
--   let cell = ref None
--   let () = match perform Stop; print_string "1" with
--     | () -> ()
--     | effect Stop, k -> cell := Some k
--   let go () = match !cell with
--     | None -> ()
--     | Some k -> (try continue k () with Continuation_already_resumed -> print_string "x")
--   let () = let d = Domain.spawn go in go (); Domain.join d
abbrev one_of_two_resumes : Program
one_of_two_resumes =
    record plain {
      literals = codes "1" ∷ codes "x" ∷ [];
      effects = effect None (written unit_type) ∷ [];
      extended = effect_type ∷ [];
      declarations = 1;
      items =
          Define 0 (Prim RefMake (one (Con (Variant none_con))))
          ∷ Destructure (at 5 1) (ConstPat UnitConst)
          (Handle Deep untyped
          (four
          (Fun 1 (Seq (Prim Perform (one (Con (Effect 0)))) (Prim PrintString (one (text 0)))))
          nothing
          (Fun 2 (Match (at 5 10) (Var 2) (AndClause (ConstPat UnitConst) NoGuard nothing NoClauses)))
          (Fun 3
          (Match (at 5 10) (Var 3) (AndClause (NamePat 4) NoGuard (Prim Raise (one (Var 4))) NoClauses))))
          (AndEffect (Effect 0) None 5 None (Prim RefSet (two (Var 0) (ConOf (Variant some_con) (Var 5)))) NoEffects))
          ∷ Define 9
          (Fun 6
          (Match (at 8 1) (Var 6)
          (AndClause (ConstPat UnitConst) NoGuard
          (Match (at 8 13)
          (Prim RefGet (one (Var 0)))
          (AndClause
          (ConPat (Variant none_con))
          NoGuard
          nothing
          (AndClause
          (ConOfPat (Variant some_con) (NamePat 7))
          NoGuard
          (Catch (at 10 16)
          (Prim Continue (two (Var 7) nothing))
          (AndClause (NamePat 8) NoGuard (Var 8) NoClauses)
          (AndClause
          (ConPat (Exception already_resumed))
          NoGuard
          (Prim PrintString (one (text 1)))
          NoClauses))
          NoClauses)))
          NoClauses)))
          ∷ Destructure (at 11 1) (ConstPat UnitConst)
          (Let 10 (Prim Spawn (one (Var 9))) (Seq (App (Var 9) nothing) (Prim Join (one (Var 10)))))
          ∷ [];
    }

pub one_of_two_resumes_prints : Behaves one_of_two_resumes 4 (codes "1x") (Exited 0)
one_of_two_resumes_prints = behaves one_of_two_resumes 4 lowest_first (codes "1x") (Exited 0) refl

pub one_of_two_resumes_prints_too : Behaves one_of_two_resumes 4 (codes "x1") (Exited 0)
one_of_two_resumes_prints_too = behaves one_of_two_resumes 4 ((1 ∷ 0 ∷ [], 60) ∷ lowest_first) (codes "x1") (Exited 0) refl

-- fetch_and_add and exchange give the old value; compare_and_set says whether it stored.
--   let () =
--     let a = Atomic.make 3 in
--     print_int (Atomic.fetch_and_add a 4);
--     print_int (Atomic.exchange a 9);
--     if Atomic.compare_and_set a 7 1 then print_string "no" else print_string "kept";
--     if Atomic.compare_and_set a 9 300 then print_int (Atomic.get a) else ()
abbrev atomic_answers : Program
atomic_answers =
    record plain {
      literals = codes "no" ∷ codes "kept" ∷ [];
      items =
          Destructure (at 1 1) (ConstPat UnitConst)
          (Let 0
          (Prim AtomicMake (one (int 3)))
          (Seq
          (Prim PrintInt (one (Prim AtomicAdd (two (Var 0) (int 4)))))
          (Seq
          (Prim PrintInt (one (Prim AtomicExchange (two (Var 0) (int 9)))))
          (Seq
          (If
          (Prim AtomicCas (three (Var 0) (int 7) (int 1)))
          (Prim PrintString (one (text 0)))
          (Prim PrintString (one (text 1))))
          (If
          (Prim AtomicCas (three (Var 0) (int 9) (int 300)))
          (Prim PrintInt (one (Prim AtomicGet (one (Var 0)))))
          nothing)))))
          ∷ [];
    }

pub atomic_answers_prints : Behaves atomic_answers 4 (codes "37kept300") (Exited 0)
atomic_answers_prints = behaves atomic_answers 4 lowest_first (codes "37kept300") (Exited 0) refl

-- Two domains add to one cell, in either order.
--   let a = Atomic.make 0
--   let add () = Atomic.incr a; ignore (Atomic.fetch_and_add a 20)
--   let () = let d = Domain.spawn add in add (); Domain.join d; print_int (Atomic.get a)
abbrev atomic_sum : Program
atomic_sum =
    record plain {
      items =
          Define 0 (Prim AtomicMake (one (int 0)))
          ∷ Define 2
          (Fun 1
          (Match (at 2 1) (Var 1)
          (AndClause (ConstPat UnitConst) NoGuard
          (Seq
          (Prim AtomicIncr (one (Var 0)))
          (Prim Ignore (one (Prim AtomicAdd (two (Var 0) (int 20))))))
          NoClauses)))
          ∷ Destructure (at 3 1) (ConstPat UnitConst)
          (Let 3
          (Prim Spawn (one (Var 2)))
          (Seq (App (Var 2) nothing)
          (Seq (Prim Join (one (Var 3))) (Prim PrintInt (one (Prim AtomicGet (one (Var 0))))))))
          ∷ [];
    }

pub atomic_sum_prints : Behaves atomic_sum 4 (codes "42") (Exited 0)
atomic_sum_prints = behaves atomic_sum 4 lowest_first (codes "42") (Exited 0) refl

pub atomic_sum_prints_too : Behaves atomic_sum 4 (codes "42") (Exited 0)
atomic_sum_prints_too = behaves atomic_sum 4 highest_first (codes "42") (Exited 0) refl

-- Fibers are taken from a queue in the order in which they were pushed.
--   open Effect
--   open Effect.Deep
--   type _ Effect.t += Pause : unit Effect.t
--   let park s = match perform Pause; print_string s with
--     | () -> ()
--     | effect Pause, k -> Fiberq.push k
--   let next () = match Fiberq.take_from 0 with None -> print_string "none" | Some k -> continue k ()
--   let () = park "a"; park "b"; next (); next (); next ()
abbrev queue_in_order : Program
queue_in_order =
    record plain {
      literals = codes "none" ∷ codes "a" ∷ codes "b" ∷ [];
      effects = effect None (written unit_type) ∷ [];
      extended = effect_type ∷ [];
      declarations = 1;
      items =
          Define 6
          (Fun 0
          (Handle Deep untyped
          (four
          (Fun 1 (Seq (Prim Perform (one (Con (Effect 0)))) (Prim PrintString (one (Var 0)))))
          nothing
          (Fun 2 (Match (at 4 14) (Var 2) (AndClause (ConstPat UnitConst) NoGuard nothing NoClauses)))
          (Fun 3
          (Match (at 4 14) (Var 3) (AndClause (NamePat 4) NoGuard (Prim Raise (one (Var 4))) NoClauses))))
          (AndEffect (Effect 0) None 5 None (Prim QueuePush (one (Var 5))) NoEffects)))
          ∷ Define 9
          (Fun 7
          (Match (at 7 1) (Var 7)
          (AndClause (ConstPat UnitConst) NoGuard
          (Match (at 7 15)
          (Prim QueueTake (one (int 0)))
          (AndClause
          (ConPat (Variant none_con))
          NoGuard
          (Prim PrintString (one (text 0)))
          (AndClause
          (ConOfPat (Variant some_con) (NamePat 8))
          NoGuard
          (Prim Continue (two (Var 8) nothing))
          NoClauses)))
          NoClauses)))
          ∷ Destructure (at 8 1) (ConstPat UnitConst)
          (Seq (App (Var 6) (text 1))
          (Seq (App (Var 6) (text 2))
          (Seq (App (Var 9) nothing) (Seq (App (Var 9) nothing) (App (Var 9) nothing)))))
          ∷ [];
    }

pub queue_in_order_prints : Behaves queue_in_order 4 (codes "abnone") (Exited 0)
queue_in_order_prints = behaves queue_in_order 4 lowest_first (codes "abnone") (Exited 0) refl

-- A slot that is not there.
--   let () = match Fiberq.take_from (Fiberq.slots ()) with None -> () | Some k -> Effect.Deep.continue k ()
abbrev queue_of_no_slot : Program
queue_of_no_slot =
    record plain {
      items =
          Destructure (at 1 1) (ConstPat UnitConst)
          (Match (at 1 10)
          (Prim QueueTake (one (Prim QueueSlots (one nothing))))
          (AndClause
          (ConPat (Variant none_con))
          NoGuard
          nothing
          (AndClause
          (ConOfPat (Variant some_con) (NamePat 0))
          NoGuard
          (Prim Continue (two (Var 0) nothing))
          NoClauses)))
          ∷ [];
    }

pub queue_of_no_slot_prints : Behaves queue_of_no_slot 2 [] (Uncaught (codes "Invalid_argument(\"Fiberq.take_from\")"))
queue_of_no_slot_prints = behaves queue_of_no_slot 2 lowest_first [] (Uncaught (codes "Invalid_argument(\"Fiberq.take_from\")")) refl

-- exit in a second domain ends the run with the low 8 bits, while domain 0 waits.
--   let () = Domain.join (Domain.spawn (fun () -> print_string "bye"; exit 300))
abbrev exit_in_another_domain : Program
exit_in_another_domain =
    record plain {
      literals = codes "bye" ∷ [];
      items =
          Destructure (at 1 1) (ConstPat UnitConst)
          (Prim Join
          (one
          (Prim Spawn
          (one
          (Fun 0
          (Match (at 1 37) (Var 0)
          (AndClause (ConstPat UnitConst) NoGuard
          (Seq (Prim PrintString (one (text 0))) (Prim Exit (one (int 300))))
          NoClauses)))))))
          ∷ [];
    }

pub exit_in_another_domain_prints : Behaves exit_in_another_domain 4 (codes "bye") (Exited 44)
exit_in_another_domain_prints = behaves exit_in_another_domain 4 lowest_first (codes "bye") (Exited 44) refl

-- exit in a second domain ends a run whose domain 0 never ends.
--   let rec loop () = loop ()
--   let () = let _ = Domain.spawn (fun () -> exit 3) in loop ()
abbrev exit_beside_a_loop : Program
exit_beside_a_loop =
    record plain {
      items =
          DefineRec
          (AndFunction 0 None 1
          (Match (at 1 1) (Var 1) (AndClause (ConstPat UnitConst) NoGuard (App (Var 0) nothing) NoClauses))
          NoFunctions)
          ∷ Destructure (at 2 1) (ConstPat UnitConst)
          (Match (at 2 10)
          (Prim Spawn
          (one
          (Fun 2
          (Match (at 2 32) (Var 2)
          (AndClause (ConstPat UnitConst) NoGuard (Prim Exit (one (int 3))) NoClauses)))))
          (AndClause AnyPat NoGuard (App (Var 0) nothing) NoClauses))
          ∷ [];
    }

pub exit_beside_a_loop_prints : Behaves exit_beside_a_loop 4 [] (Exited 3)
exit_beside_a_loop_prints = behaves exit_beside_a_loop 4 highest_first [] (Exited 3) refl

-- With one slot there is no second domain.
--   let () = try ignore (Domain.spawn (fun () -> ())) with Failure s -> print_string s
abbrev no_free_slot : Program
no_free_slot =
    record plain {
      items =
          Destructure (at 1 1) (ConstPat UnitConst)
          (Catch (at 1 10)
          (Prim Ignore
          (one
          (Prim Spawn
          (one
          (Fun 0 (Match (at 1 36) (Var 0) (AndClause (ConstPat UnitConst) NoGuard nothing NoClauses)))))))
          (AndClause (NamePat 1) NoGuard (Var 1) NoClauses)
          (AndClause
          (ConOfPat (Exception failure) (NamePat 2))
          NoGuard
          (Prim PrintString (one (Var 2)))
          NoClauses))
          ∷ [];
    }

pub no_free_slot_prints : Behaves no_free_slot 1 (codes "Domain.spawn") (Exited 0)
no_free_slot_prints = behaves no_free_slot 1 lowest_first (codes "Domain.spawn") (Exited 0) refl

-- The slot of a domain that has finished is free again.
--   let f () = Fiberq.self ()
--   let () =
--     print_int (Domain.join (Domain.spawn f));
--     print_int (Domain.join (Domain.spawn f))
abbrev slot_is_free_again : Program
slot_is_free_again =
    record plain {
      items =
          Define 1
          (Fun 0
          (Match (at 1 1) (Var 0)
          (AndClause (ConstPat UnitConst) NoGuard (Prim QueueSelf (one nothing)) NoClauses)))
          ∷ Destructure (at 2 1) (ConstPat UnitConst)
          (Seq
          (Prim PrintInt (one (Prim Join (one (Prim Spawn (one (Var 1)))))))
          (Prim PrintInt (one (Prim Join (one (Prim Spawn (one (Var 1))))))))
          ∷ [];
    }

pub slot_is_free_again_prints : Behaves slot_is_free_again 2 (codes "11") (Exited 0)
slot_is_free_again_prints = behaves slot_is_free_again 2 lowest_first (codes "11") (Exited 0) refl

-- join raises the exception of the domain, each time.
--   let d = Domain.spawn (fun () -> raise Not_found)
--   let again () = try Domain.join d with Not_found -> print_string "n"
--   let () = again (); again ()
abbrev join_raises : Program
join_raises =
    record plain {
      literals = codes "n" ∷ [];
      items =
          Define 1
          (Prim Spawn
          (one
          (Fun 0
          (Match (at 1 23) (Var 0)
          (AndClause (ConstPat UnitConst) NoGuard
          (Prim Raise (one (Con (Exception not_found))))
          NoClauses)))))
          ∷ Define 4
          (Fun 2
          (Match (at 2 1) (Var 2)
          (AndClause (ConstPat UnitConst) NoGuard
          (Catch (at 2 16)
          (Prim Join (one (Var 1)))
          (AndClause (NamePat 3) NoGuard (Var 3) NoClauses)
          (AndClause
          (ConPat (Exception not_found))
          NoGuard
          (Prim PrintString (one (text 0)))
          NoClauses))
          NoClauses)))
          ∷ Destructure (at 3 1) (ConstPat UnitConst) (Seq (App (Var 4) nothing) (App (Var 4) nothing))
          ∷ [];
    }

pub join_raises_prints : Behaves join_raises 4 (codes "nn") (Exited 0)
join_raises_prints = behaves join_raises 4 lowest_first (codes "nn") (Exited 0) refl

-- An exception that comes by join and is not caught ends the run.
--   let () = Domain.join (Domain.spawn (fun () -> print_int 1; failwith "f"))
abbrev join_raises_on : Program
join_raises_on =
    record plain {
      literals = codes "f" ∷ [];
      items =
          Destructure (at 1 1) (ConstPat UnitConst)
          (Prim Join
          (one
          (Prim Spawn
          (one
          (Fun 0
          (Match (at 1 37) (Var 0)
          (AndClause (ConstPat UnitConst) NoGuard
          (Seq (Prim PrintInt (one (int 1))) (Prim Failwith (one (text 0))))
          NoClauses)))))))
          ∷ [];
    }

pub join_raises_on_prints : Behaves join_raises_on 4 (codes "1") (Uncaught (codes "Failure(\"f\")"))
join_raises_on_prints = behaves join_raises_on 4 lowest_first (codes "1") (Uncaught (codes "Failure(\"f\")")) refl
