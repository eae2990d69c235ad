-- Worked programs: the functions that take a handler. They hold by computation.
use Rattle.std.proofs.Common.{◌≡◌, refl, ℕ, ◌+◌, List, [], ◌∷◌, ◌++◌, length, Some, None, codes}
use Rattle.ml_syntax.specs.declared.node.NamedPart.{NamedPart}
use Rattle.ml_syntax.specs.declared.node.LongName.{LongName}
use Rattle.ml_syntax.specs.declared.node.Node.{Node}
use Rattle.ml_syntax.specs.declared.node.Node.TheVariants as node
use Rattle.ml_syntax.specs.declared.prog.Item.TheVariants as item
use Rattle.effect_meaning.specs.Terms.{Variable, Any, Applied, NoTypes, AndType, Effect, Raise, Kind, Deep, ShallowContinue, ShallowDiscontinue, HandlerTypes, Term, Var, Fun, Handle, Prim, Terms, AndTerm, NoEffects, AndEffect, Item, Evaluate}
use Rattle.effect_meaning.specs.Builtins.{effect_type}
use Rattle.surface_meaning.proofs.Programs.{column, name, long, long_in, variable, integer, unit_node, name_pattern, any_pattern, items_of, meant, unit, number, one}

abbrev effect_t : LongName
effect_t = long_in 1 (codes "Effect" ∷ []) (codes "t")

abbrev deep : List ℕ → LongName
deep t = long_in 1 (codes "Effect" ∷ codes "Deep" ∷ []) t

abbrev shallow : List ℕ → LongName
shallow t = long_in 1 (codes "Effect" ∷ codes "Shallow" ∷ []) t

abbrev field : List ℕ → ℕ → NamedPart
field t i = record { name = name t; part = i }

-- type _ Effect.t += E : int Effect.t;; and the last of the nodes as an expression. The types are nodes 0 and 1
abbrev with_effect : List Node → List Item
with_effect ns =
    items_of (meant (node.TypeName (long (codes "int")) ∷ node.TypeApply (0 ∷ []) effect_t ∷ ns)
    (item.Effects (column 1) effect_t (record { name = name (codes "E"); argument = None; result = 1 } ∷ [])
    ∷ item.Expression (column 1) (length ns + 1) ∷ []))

abbrev parts : Term → Term → Terms
parts on_value on_exception = AndTerm (number 1) (AndTerm unit (AndTerm on_value (one on_exception)))

abbrev no_types : HandlerTypes
no_types = record { variable = None; effect = None }

-- fun v -> v and fun e -> raise e
abbrev identity : ℕ → Term
identity v = Fun v (Var v)

abbrev raises : ℕ → Term
raises e = Fun e (Prim Raise (one (Var e)))

-- fun (type a) (eff : a Effect.t) -> match eff with E -> Some (fun k -> 2) | _ -> None, as nodes 5 to 15
abbrev effc : List Node
effc =
    name_pattern (codes "eff") ∷ node.TypeName (long (codes "a")) ∷ node.TypeApply (6 ∷ []) effect_t
    ∷ node.PatternAnnotated (column 1) 5 7
    ∷ node.PatternConstructor (long (codes "E")) ∷ name_pattern (codes "k") ∷ integer (codes "2") ∷ node.Resumption (column 1) 10 11
    ∷ any_pattern
    ∷ node.EffectCases (column 1) (Some (name (codes "eff"))) (record { pattern = 9; answer = 12 } ∷ []) 13
    ∷ node.EffectFunction (column 1) (Some (name (codes "a"))) 8 14 ∷ []

-- Effect.Deep.match_with 1 () { effc = ..; retc = raise; exnc = raise }: the parts stand in a fixed order
example_match_with :
    with_effect (integer (codes "1") ∷ unit_node ∷ variable (codes "raise") ∷ effc
    ++ node.Handler (column 1) (field (codes "effc") 15 ∷ field (codes "retc") 4 ∷ field (codes "exnc") 4 ∷ [])
    ∷ node.Handle (deep (codes "match_with")) 2 3 16 ∷ [])
    ≡ Evaluate (Handle Deep
    (record { variable = Some 15; effect = Some (Applied effect_type (AndType (Variable 15) NoTypes)) })
    (parts (raises 26) (raises 26)) (AndEffect (Effect 0) None 60 None (number 2) NoEffects)) ∷ []
example_match_with = refl

-- Effect.Deep.try_with 1 () { effc = function E -> Some (fun (_ : _) -> 2) | _ -> None }
example_try_with :
    with_effect (integer (codes "1") ∷ unit_node
    ∷ node.PatternConstructor (long (codes "E")) ∷ any_pattern ∷ node.TypeAny (column 1) ∷ node.PatternAnnotated (column 1) 5 6
    ∷ integer (codes "2") ∷ node.Resumption (column 1) 7 8 ∷ any_pattern
    ∷ node.EffectCases (column 1) None (record { pattern = 4; answer = 9 } ∷ []) 10
    ∷ node.Handler (column 1) (field (codes "effc") 11 ∷ []) ∷ node.Handle (deep (codes "try_with")) 2 3 12 ∷ [])
    ≡ Evaluate (Handle Deep no_types (parts (identity 74) (raises 75)) (AndEffect (Effect 0) None 44 (Some Any) (number 2) NoEffects)) ∷ []
example_try_with = refl

-- f 1 () { retc = fun x -> x; exnc = raise; effc = function _ -> None }
abbrev shallow_call : List ℕ → List Item
shallow_call f =
    with_effect (integer (codes "1") ∷ unit_node ∷ name_pattern (codes "x") ∷ variable (codes "x") ∷ node.Fun (column 1) (4 ∷ []) 5
    ∷ variable (codes "raise") ∷ any_pattern ∷ node.EffectCases (column 1) None [] 8
    ∷ node.Handler (column 1) (field (codes "retc") 6 ∷ field (codes "exnc") 7 ∷ field (codes "effc") 9 ∷ [])
    ∷ node.Handle (shallow f) 2 3 10 ∷ [])

abbrev handled : Kind → List Item
handled k = Evaluate (Handle k no_types (parts (Fun 24 (Var 24)) (raises 44)) NoEffects) ∷ []

example_continue_with : shallow_call (codes "continue_with") ≡ handled ShallowContinue
example_continue_with = refl

example_discontinue_with : shallow_call (codes "discontinue_with") ≡ handled ShallowDiscontinue
example_discontinue_with = refl
