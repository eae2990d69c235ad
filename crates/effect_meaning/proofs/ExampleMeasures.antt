-- What small runs use. The numbers were counted by hand from the definitions' sentences.
use Rattle.std.proofs.Common.{refl, ◌≡◌, [], ◌∷◌, None}
use Rattle.effect_meaning.specs.Terms.{Add, AndClause, AndEffect, Con, ConstPat, Continue, Deep, Destructure, Effect, Fun, Handle, Let, Match, Mul, NamePat, NoClauses, NoEffects, NoGuard, Perform, Prim, PrintInt, Program, Raise, Term, UnitConst, Var}
use Rattle.effect_meaning.specs.Builtins.{effect_type, int_type, written}
use Rattle.effect_meaning.specs.Config.{OfClause, OfFunction}
use Rattle.effect_meaning.specs.Evaluation.{one, two}
use Rattle.effect_meaning.specs.Run.{Run, start}
use Rattle.effect_meaning.specs.Slots.{size, slots}
use Rattle.effect_meaning.specs.Limits.{most_free, most_slots}
use Rattle.effect_meaning.specs.Measures.{Fixed, Growing, begun, effort, look, spend, total, words_made}
use Rattle.effect_meaning.proofs.ExampleRuns.{at, int, nothing, four, untyped, plain, effect, lowest_first, turns, run_by}

--   let () = print_int (6 * (3 + 4))
abbrev pub arithmetic : Program
arithmetic =
    record plain {
      items =
          Destructure (at 1 1) (ConstPat UnitConst)
          (Prim PrintInt (one (Prim Mul (two (int 6) (Prim Add (two (int 3) (int 4)))))))
          ∷ [];
    }

abbrev pub arithmetic_run : Run arithmetic 1
arithmetic_run = run_by arithmetic 1 (turns lowest_first arithmetic (start arithmetic 1)) refl

-- six term nodes, the pattern () and the item
pub arithmetic_size : size arithmetic ≡ 8
arithmetic_size = refl

-- no block is made; the frames of the item and of the three operations, and the term, have 8 words and the item's 2 slots
-- each: 4096 + 256 + 8 * 50
pub arithmetic_spend : spend arithmetic 1 Growing arithmetic_run ≡ 4752
arithmetic_spend = refl

-- with stacks of 131072 words
pub arithmetic_spend_fixed : spend arithmetic 1 (Fixed 131072) arithmetic_run ≡ 135168
arithmetic_spend_fixed = refl

-- 17 steps, the two printed bytes and the pattern (): 256 * (17 + 3 + 4752) + 1024
pub arithmetic_effort : effort arithmetic 1 Growing arithmetic_run ≡ 1222656
arithmetic_effort = refl

-- the body of the match below, and its effect clause
abbrev asked : Term
asked = Let 1 (int 2) (Prim Add (two (Var 1) (Prim Perform (one (Con (Effect 0))))))

abbrev answer : Term
answer = Prim Continue (two (Var 6) (int 40))

--   open Effect
--   open Effect.Deep
--   type _ Effect.t += Ask : int Effect.t
--   let () = print_int (match let n = 2 in n + perform Ask with
--     | v -> v
--     | effect Ask, k -> continue k 40)
abbrev asks : Program
asks =
    record plain {
      effects = effect None (written int_type) ∷ [];
      extended = effect_type ∷ [];
      declarations = 1;
      items =
          Destructure (at 4 1) (ConstPat UnitConst)
          (Prim PrintInt
          (one
          (Handle Deep untyped
          (four
          (Fun 0 asked)
          nothing
          (Fun 2 (Match (at 4 21) (Var 2) (AndClause (NamePat 3) NoGuard (Var 3) NoClauses)))
          (Fun 4
          (Match (at 4 21) (Var 4)
          (AndClause (NamePat 5) NoGuard (Prim Raise (one (Var 5))) NoClauses))))
          (AndEffect (Effect 0) None 6 None answer NoEffects))))
          ∷ [];
    }

abbrev asks_run : Run asks 1
asks_run = run_by asks 1 (turns lowest_first asks (start asks 1)) refl

-- the body as a function: its parameter, n, and the sum's two parts
pub body_slots : slots (OfFunction 0 asked) ≡ 4
body_slots = refl

-- the effect clause: the continuation and one slot for its return, and two parts
pub clause_slots : slots (OfClause None 6 answer) ≡ 4
clause_slots = refl

-- the closures of f, retc and exnc 2 words each, the effect 3, the handler 4, the continuation 4
pub asks_words : total (words_made asks) (begun asks 1 asks_run) ≡ 17
asks_words = refl

-- two segments were made, domain 0's first one and the handler's
pub asks_segments : asks_run.last.made ≡ 2
asks_segments = refl

-- the room of the first segment is 4 * 12, for the item, print_int, the handler and one of its parts; that of the second 3 * 12,
-- for the sum, perform and the effect: 4096 + 17 + 2 * 256 + 8 * (48 + 36)
pub asks_spend : spend asks 1 Growing asks_run ≡ 5297
asks_spend = refl

-- the bytes 42; the patterns (), v; one clause tested, one segment captured, one segment resumed
pub asks_look : total look (begun asks 1 asks_run) ≡ 7
asks_look = refl

-- the most slots that a function, an item or an effect clause has, and the most free names: all names are their own
pub asks_most_slots : most_slots asks ≡ 4
asks_most_slots = refl

pub asks_most_free : most_free asks ≡ 0
asks_most_free = refl
