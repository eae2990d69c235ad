-- What the early ends say of a run, each at a small run and small sizes.
use Rattle.std.proofs.Common.{refl, sym, subst, ◌+◌, codes, ◌≡◌, ◌<◌, ◌≤◌, ◌&&◌, arith, IsTrue, is_some, ℕ, zero, suc, nat_eq, nat_le, Bool, true, false, [], ◌∷◌, List, Option, Some, None, slice_get, length}
use Rattle.effect_meaning.specs.Terms.{Add, AndClause, AndFunction, AnyPat, App, Array, AtomicGet, AtomicMake, AtomicSet, Boolean, CIter, Con, ConOf, ConOfPat, ConPat, Const, ConstPat, Define, DefineRec, Destructure, Fun, If, Join, Let, LetRec, Match, NamePat, NoClauses, NoFunctions, NoGuard, Prim, PrintInt, PrintString, Program, Seq, Spawn, UnitConst, Var, Variant}
use Rattle.effect_meaning.specs.Builtins.{none_con, some_con}
use Rattle.effect_meaning.specs.Config.{Config, Domain, Frame, Live, Operating, Parts, Return}
use Rattle.effect_meaning.specs.Focus.{given_or}
use Rattle.effect_meaning.specs.Evaluation.{one, two}
use Rattle.effect_meaning.specs.Step.{step}
use Rattle.effect_meaning.specs.Run.{Run, start}
use Rattle.effect_meaning.specs.Measures.{Growing, room}
use Rattle.effect_meaning.specs.EarlyEnds.{BudgetSpent, CallsFull, CallsWith, Deadlock, EarlyEnd, HeapFull, IsNearRoom, NoneSteps, OutputFull, Says, Sizes, StackFull, cuts, makes_c_call}
use Rattle.effect_meaning.proofs.ExampleRuns.{at, int, nothing, text, plain, lowest_first, turns, run_by, leads_there, until}
use Rattle.effect_meaning.proofs.ExampleMeasures.{arithmetic, arithmetic_run, arithmetic_spend, arithmetic_effort}

-- the settings of the examples; each hart has spent its budget
abbrev sizes : Sizes
sizes = record { heap = 4100; stack = 300; log = 5; budget = 7 }

abbrev SaysOf : (p : Program) (h : ℕ) → Run p h → EarlyEnd → Type 0
SaysOf p h r end = Says p h Growing sizes (λ hart. 7) r end

-- the heap: 4106 words are more than there are, and not more than the run may take
pub heap_full : SaysOf arithmetic 1 arithmetic_run (HeapFull 4096 10 4100)
heap_full = (refl, omega arith, subst (λ n. 4106 ≤ n) (sym arithmetic_spend) (omega arith))

-- the budget: 7 instructions are fewer than the run may need
pub budget_spent : SaysOf arithmetic 1 arithmetic_run (BudgetSpent 0 7)
budget_spent = (refl, refl, subst (λ n. 7 < n) (sym arithmetic_effort) (omega arith))

-- whether a domain is live and 64 more than the room of its innermost segment is at least this
abbrev room_at : Config → ℕ → Option Domain → Bool
room_at c n (Some (Live doing (s ∷ ss))) = nat_le n (64 + room c s.number)
room_at c n _ = false

near_room : (c : Config) (d n : ℕ) (o : Option Domain) → slice_get c.domains d ≡ o → IsTrue (room_at c n o) → IsNearRoom c n
near_room c d n (Some (Live doing (s ∷ ss))) e t = (d, doing, s, ss, e, grind (arith, t))
near_room c d n o e t = absurd (grind (arith, t))

--   let rec deep n = 1 + deep (n + 1)
--   let () = print_int (deep 0)
abbrev deepens : Program
deepens =
    record plain {
      items =
          DefineRec
          (AndFunction 0 None 1 (Prim Add (two (int 1) (App (Var 0) (Prim Add (two (Var 1) (int 1)))))) NoFunctions)
          ∷ Destructure (at 2 1) (ConstPat UnitConst) (Prim PrintInt (one (App (Var 0) (int 0))))
          ∷ [];
    }

abbrev deep_list : List ℕ
deep_list = until (λ c. room_at c 354 (slice_get c.domains 0)) 1000 deepens (start deepens 1)

abbrev deep_run : Run deepens 1
deep_run = run_by deepens 1 deep_list refl

-- the stack: a need of 354 words is more than the stack has, and at most 64 more than the room of the segment
pub stack_full : SaysOf deepens 1 deep_run (StackFull 354 300)
stack_full = (refl, omega arith, near_room deep_run.last 0 354 (slice_get deep_run.last.domains 0) refl refl)

-- whether a domain is at a value that makes the next call of c_iter, c_fold or c_try, with so many active ones
abbrev calls_at : ℕ → Option Domain → Bool
calls_at n (Some (Live (Return v) (s ∷ ss))) = makes_c_call s.frames && nat_eq n (cuts (s ∷ ss))
calls_at n _ = false

calls_with : (p : Program) (c : Config) (d n : ℕ) (o : Option Domain) → slice_get c.domains d ≡ o → IsTrue (is_some (step p c d)) → IsTrue (calls_at n o) → CallsWith p c d n
calls_with p c d n (Some (Live (Return v) (s ∷ ss))) e t u =
    (v, s, ss, given_or (step p c d) (λ next. next) c, e, leads_there (step p c d) c t, grind (arith, u), grind (arith, u))
calls_with p c d n o e t u = absurd (grind (arith, u))

--   let rec f _ = c_iter f [|0|]
--   let () = f 0
abbrev calls_for_ever : Program
calls_for_ever =
    record plain {
      items =
          DefineRec
          (AndFunction 0 None 1
          (Match (at 1 1) (Var 1)
          (AndClause AnyPat NoGuard (Prim CIter (two (Var 0) (Array (one (int 0))))) NoClauses))
          NoFunctions)
          ∷ Destructure (at 2 1) (ConstPat UnitConst) (App (Var 0) (int 0))
          ∷ [];
    }

abbrev calls_list : List ℕ
calls_list = until (λ c. calls_at 255 (slice_get c.domains 0)) 20000 calls_for_ever (start calls_for_ever 1)

abbrev calls_run : Run calls_for_ever 1
calls_run = run_by calls_for_ever 1 calls_list refl

-- the C calls: 255 are active and the next one comes
pub calls_full : SaysOf calls_for_ever 1 calls_run (CallsFull 255)
calls_full = (refl, (0, calls_with calls_for_ever calls_run.last 0 255 (slice_get calls_run.last.domains 0) refl refl refl))

-- whether a domain is at a value that is printed next
abbrev prints_next : List Frame → Bool
prints_next (Parts (Operating PrintString) [] done s ∷ ks) = true
prints_next _ = false

abbrev prints_at : Option Domain → Bool
prints_at (Some (Live (Return v) (s ∷ ss))) = prints_next s.frames
prints_at _ = false

--   let () = while true do print_string "abc" done
abbrev prints_for_ever : Program
prints_for_ever =
    record plain {
      literals = codes "abc" ∷ [];
      items =
          Destructure (at 1 1) (ConstPat UnitConst)
          (LetRec
          (AndFunction 0 None 1
          (Match (at 1 10) (Var 1)
          (AndClause (ConstPat UnitConst) NoGuard
          (If (Const (Boolean true))
          (Seq (Prim PrintString (one (text 0))) (App (Var 0) nothing))
          nothing)
          NoClauses))
          NoFunctions)
          (App (Var 0) nothing))
          ∷ [];
    }

abbrev prints_list : List ℕ
prints_list = until (λ c. nat_eq 3 (length c.output) && prints_at (slice_get c.domains 0)) 1000 prints_for_ever (start prints_for_ever 1)

abbrev prints_run : Run prints_for_ever 1
prints_run = run_by prints_for_ever 1 prints_list refl

-- the log: abc was printed, and abc comes next, which is more than 5 bytes
pub output_full : SaysOf prints_for_ever 1 prints_run (OutputFull 3 3 5)
output_full =
    (refl, refl, omega arith, (0, (given_or (step prints_for_ever prints_run.last 0) (λ next. next) prints_run.last, leads_there (step prints_for_ever prints_run.last 0) prints_run.last refl, refl)))

--   let c1 = Atomic.make None
--   let c2 = Atomic.make None
--   let rec get c = match Atomic.get c with Some d -> d | None -> get c
--   let () =
--     let d1 = Domain.spawn (fun () -> Domain.join (get c2)) in
--     let d2 = Domain.spawn (fun () -> Domain.join (get c1)) in
--     Atomic.set c1 (Some d1); Atomic.set c2 (Some d2);
--     Domain.join d1
abbrev two_wait : Program
two_wait =
    record plain {
      items =
          Define 0 (Prim AtomicMake (one (Con (Variant none_con))))
          ∷ Define 1 (Prim AtomicMake (one (Con (Variant none_con))))
          ∷ DefineRec
          (AndFunction 2 None 3
          (Match (at 3 17)
          (Prim AtomicGet (one (Var 3)))
          (AndClause
          (ConOfPat (Variant some_con) (NamePat 4))
          NoGuard
          (Var 4)
          (AndClause (ConPat (Variant none_con)) NoGuard (App (Var 2) (Var 3)) NoClauses)))
          NoFunctions)
          ∷ Destructure (at 4 1) (ConstPat UnitConst)
          (Let 6
          (Prim Spawn
          (one
          (Fun 5
          (Match (at 5 26) (Var 5)
          (AndClause (ConstPat UnitConst) NoGuard (Prim Join (one (App (Var 2) (Var 1)))) NoClauses)))))
          (Let 8
          (Prim Spawn
          (one
          (Fun 7
          (Match (at 6 26) (Var 7)
          (AndClause (ConstPat UnitConst) NoGuard
          (Prim Join (one (App (Var 2) (Var 0))))
          NoClauses)))))
          (Seq
          (Prim AtomicSet (two (Var 0) (ConOf (Variant some_con) (Var 6))))
          (Seq
          (Prim AtomicSet (two (Var 1) (ConOf (Variant some_con) (Var 8))))
          (Prim Join (one (Var 6)))))))
          ∷ [];
    }

abbrev wait_run : Run two_wait 4
wait_run = run_by two_wait 4 (turns lowest_first two_wait (start two_wait 4)) refl

no_step : NoneSteps two_wait wait_run.last
no_step zero = refl
no_step (suc zero) = refl
no_step (suc (suc zero)) = refl
no_step (suc (suc (suc d))) = refl

-- two domains that join each other: no domain can step, and the run has no end
pub deadlock : SaysOf two_wait 4 wait_run Deadlock
deadlock = no_step
