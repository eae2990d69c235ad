-- The typing rules of handlers at work, with the tables of ExampleData.
use Rattle.std.proofs.Common.{◌≡◌, refl, sym, ap, subst, arith, inr, [], ◌∷◌, Some, None, true, Option, ◌∙◌, if◌then◌else◌, ◌==◌}
use Rattle.std.proofs.lemmas.Option.{same_Some}
use Rattle.effect_meaning.specs.Terms.{Written, Variable, Any, Applied, NoTypes, AndType, Variant, Effect, Pattern, NamePat, AnnotPat, Deep, ShallowContinue, ShallowDiscontinue, HandlerTypes, Perform, Continue, Raise, Term, Terms, Var, Fun, Con, Prim, Handle, Exception, EffectClauses, NoEffects, AndEffect}
use Rattle.effect_meaning.specs.Builtins.{bool_type, deep_type, effect_type, int_type, not_found, some_con, written}
use Rattle.type_terms.specs.TypeTrees.{Ty, Tys, four_tys, int, unit, string, exn, effect, deep, shallow, function}
use Rattle.type_terms.specs.WrittenTypes.{Means, IfWritten}
use Rattle.type_terms.specs.Contexts.{Names, Context}
use Rattle.type_terms.specs.Constructors.{no_parameters, ArgumentIs, Constructs}
use Rattle.type_terms.specs.PatternTypes.{ArgumentPatternHas}
use Rattle.type_terms.specs.HandlerRules.{for_result, ParameterIs}
use Rattle.type_terms.specs.Typing.{HasType, TermsHave}
use Rattle.type_terms.proofs.ExampleWords.{number, truth, nothing, one, two, four, untyped, locally, first_of, rest_of}
use Rattle.type_terms.proofs.ExampleData.{context, declared}

-- the effects Ask and Tell
ask : Constructs declared (Effect 0) None (effect int)
ask = (_, _, refl, refl, (_, refl, inr refl, (_, _, refl, (_, refl, inr refl, refl), refl)), tt)

tell : Constructs declared (Effect 1) (Some string) (effect unit)
tell = (_, _, refl, refl, (_, refl, inr refl, (_, _, refl, (_, refl, inr refl, refl), refl)), (_, refl, inr refl, refl))

ask_gives_int : (a : Option Ty) (r : Ty) → Constructs declared (Effect 0) a (effect r) → r ≡ int
ask_gives_int a r h =
    let row = same_Some _ _ h.2 in
    let means = subst (λ w. Means declared.types no_parameters w (effect r)) (sym (ap (λ e. e.result) row)) h.4 in
    let type = means.1 in
    let parts = means.3.2 in
    let part = means.3.3.1 in
    let rest = means.3.3.3 in
    grind (arith, type, parts, part, rest)

-- the types of four parts, one by one
four_have :
    (c : Context) (a b d e : Term) (s t u v : Ty)
    → HasType c a s → HasType c b t → HasType c d u → HasType c e v → TermsHave c (four a b d e) (four_tys s t u v)
four_have c a b d e s t u v h i j k = (_, _, refl, h, (_, _, refl, i, (_, _, refl, j, (_, _, refl, k, refl))))

of_four :
    (c : Context) (a b d e : Term) (ts : Tys) (s t u v : Ty) → TermsHave c (four a b d e) ts → ts ≡ four_tys s t u v
    → HasType c a s × HasType c b t × HasType c d u × HasType c e v
of_four c a b d e ts s t u v h types =
    let first = sym h.2 ∙ types in
    let second = sym h.4.2 ∙ ap rest_of first in
    let third = sym h.4.4.2 ∙ ap rest_of second in
    let fourth = sym h.4.4.4.2 ∙ ap rest_of third in (
      subst (HasType c a) (ap first_of first) h.3,
      subst (HasType c b) (ap first_of second) h.4.3,
      subst (HasType c d) (ap first_of third) h.4.4.3,
      subst (HasType c e) (ap first_of fourth) h.4.4.4.3,
    )

-- fun () -> perform Ask, fun v -> v, and fun e -> raise e
abbrev asks : Term
asks = Fun 0 (Prim Perform (one (Con (Effect 0))))

abbrev gives : Term
gives = Fun 1 (Var 1)

abbrev raises : Term
raises = Fun 2 (Prim Raise (one (Var 2)))

asks_typed : HasType context asks (function unit int)
asks_typed = (_, _, refl, (_, (_, _, refl, (ask, refl), refl), (λ v. int, refl, refl)))

gives_typed : (c : Context) (t : Ty) → HasType c gives (function t t)
gives_typed c t = (_, _, refl, refl)

raises_typed : (c : Context) (t : Ty) → HasType c raises (function exn t)
raises_typed c t = (_, _, refl, (_, (_, _, refl, refl, refl), (λ v. t, refl, refl)))

-- one clause: effect Ask, k -> body, where k is the name 3
abbrev on_ask : Term → EffectClauses
on_ask body = AndEffect (Effect 0) None 3 None body NoEffects

-- continue k 1
abbrev goes_on : Term
goes_on = Prim Continue (two (Var 3) (number 1))

-- match perform Ask with v -> v | effect Ask, k -> continue k 1
deep_typed : HasType context (Handle Deep untyped (four asks nothing gives raises) (on_ask goes_on)) int
deep_typed = (
  int,
  _,
  four_have context asks nothing gives raises _ _ _ _ asks_typed refl (gives_typed context int) (raises_typed context int),
  (_, refl),
  (unit, tt),
  (
    int,
    [],
    (None, refl, ask, tt, refl, tt),
    (_, (_, _, refl, refl, (_, _, refl, refl, refl)), (λ v. int, refl, refl)),
    tt,
  ),
)

-- what fun () -> perform Ask gives is an int, and what fun v -> v gives has the type of v
asks_give_int : (a b : Ty) → HasType context asks (function a b) → b ≡ int
asks_give_int a b h =
    let function_is = h.2 in
    let result = h.3.2.2 in
    let part = ap first_of (sym h.3.1.2 ∙ h.3.2.1) in
    let performed = ask_gives_int None _ (subst (Constructs declared (Effect 0) None) part h.3.1.3.0) in
    grind (arith, function_is, result, performed)

gives_alike : (c : Context) (a b : Ty) → HasType c gives (function a b) → a ≡ b
gives_alike c a b h = let function_is = h.2 in let value = h.3 in grind (arith, function_is, value)

-- with fun () -> perform Ask and fun v -> v, a deep handler gives an int
asked_for_int : (ts : Tys) (a b t : Ty) → TermsHave context (four asks nothing gives raises) ts
    → ts ≡ four_tys (function a b) a (function b t) (function exn t) → t ≡ int
asked_for_int ts a b t h e =
    let parts = of_four context asks nothing gives raises _ _ _ _ _ h e in
    sym (gives_alike context b t parts.2) ∙ asks_give_int a b parts.0

-- match perform Ask with v -> v | effect Ask, k -> true: the clause gives another type than the value clause
clause_untyped : (t : Ty) → HasType context (Handle Deep untyped (four asks nothing gives raises) (on_ask (truth true))) t → ⊥
clause_untyped t h =
    let result = asked_for_int h.1 h.3.0 h.0 t h.2 h.3.1 in
    let clause = h.5.3 in
    grind (arith, result, clause)

-- match perform Ask with v -> v | effect Ask, k -> continue k true: k takes an int
continuation_untyped :
    (t : Ty) → HasType context (Handle Deep untyped (four asks nothing gives raises) (on_ask (Prim Continue (two (Var 3) (truth true))))) t → ⊥
continuation_untyped t h =
    let effect_type = ask_gives_int h.5.2.0 h.5.0 h.5.2.2 in
    let parts = h.5.3.1.2 in
    let continued = h.5.3.1.3 in
    let rest = h.5.3.1.4.2 in
    let value = h.5.3.1.4.3 in
    let expected = h.5.3.2.1 in
    grind (arith, effect_type, parts, continued, rest, value, expected)

-- effect Some, k: Some is no effect
no_effect_untyped :
    (t : Ty) (parts : Terms)
    → HasType context (Handle Deep untyped parts (AndEffect (Variant some_con) None 3 None nothing NoEffects)) t → ⊥
no_effect_untyped t parts h = let e = h.5.2.1 in grind (arith, e)

-- effect Tell, k: the argument is missing
tell_takes_an_argument :
    (c : Context) (a : Option Ty) (r : Ty) (names : Names) → Constructs declared (Effect 1) a (effect r) → ArgumentPatternHas c None a names → ⊥
tell_takes_an_argument c None r names h q =
    let row = same_Some _ _ h.2 in
    absurd (subst (λ e. ArgumentIs declared.types no_parameters e.argument None) (sym row) h.5)
tell_takes_an_argument c (Some a) r names h q = q

argument_untyped :
    (t : Ty) (parts : Terms)
    → HasType context (Handle Deep untyped parts (AndEffect (Effect 1) None 3 None nothing NoEffects)) t → ⊥
argument_untyped t parts h = tell_takes_an_argument context h.5.2.0 h.5.0 h.5.1 h.5.2.2 h.5.2.4

-- k, a shallow continuation that takes an int and gives an int
abbrev with_shallow : Context
with_shallow = locally declared ((0, shallow int int) ∷ [])

-- continue_with k 1 { retc = (fun v -> v); exnc = raise; effc = on Ask, fun j -> j }: the clause has a shallow continuation
shallow_typed :
    (t : Ty)
    → HasType with_shallow (Handle ShallowContinue untyped (four (Var 0) (number 1) (Fun 1 (number 2)) raises) (on_ask (number 3))) int
shallow_typed t = (
  int,
  _,
  four_have with_shallow (Var 0) (number 1) (Fun 1 (number 2)) raises _ _ _ _ refl refl (_, _, refl, refl) (raises_typed with_shallow int),
  (_, refl),
  (unit, tt),
  (int, [], (None, refl, ask, tt, refl, tt), refl, tt),
)

-- the same with continue j 1 in the clause, which wants a deep continuation
shallow_continuation_untyped : (c : Context) (t : Ty) (parts : Terms) → HasType c (Handle ShallowContinue untyped parts (on_ask goes_on)) t → ⊥
shallow_continuation_untyped c t parts h =
    let continued = h.5.3.1.3 in
    let there = h.5.3.1.2 in
    let expected = h.5.3.2.1 in
    grind (arith, continued, there, expected)

-- discontinue_with k Not_found, and discontinue_with k 1
discontinue_typed :
    HasType with_shallow (Handle ShallowDiscontinue untyped (four (Var 0) (Con (Exception not_found)) gives raises) NoEffects) int
discontinue_typed = (
  int,
  _,
  four_have with_shallow (Var 0) (Con (Exception not_found)) gives raises _ _ _ _ refl ((_, refl, refl, tt), refl)
      (gives_typed with_shallow int) (raises_typed with_shallow int),
  (_, refl),
  (unit, tt),
  tt,
)

discontinue_untyped :
    (c : Context) (t : Ty) → HasType c (Handle ShallowDiscontinue untyped (four (Var 0) (number 1) gives raises) NoEffects) t → ⊥
discontinue_untyped c t h =
    let parts = of_four c (Var 0) (number 1) gives raises _ _ _ _ _ h.2 h.3.1 in
    let value = parts.1 in
    grind (arith, value)

-- fun (type a) (eff : a Effect.t) -> .., and (k : (a, _) Effect.Deep.continuation)
abbrev of_a : HandlerTypes
of_a = record { variable = Some 0; effect = Some (Applied effect_type (AndType (Variable 0) NoTypes)) }

abbrev takes_a : Written → Option Written
takes_a w = Some (Applied deep_type (AndType (Variable 0) (AndType w NoTypes)))

-- where a stands for a type, it is that of the effect, and of what the continuation takes
a_effect : (r : Ty) → ParameterIs context of_a r
a_effect r = (_, refl, inr refl, (_, _, refl, refl, refl))

a_continuation :
    (r t : Ty) → IfWritten declared.types (for_result of_a r context).variables (takes_a Any) (deep r t)
a_continuation r t = (_, refl, inr refl, (_, _, refl, refl, (_, _, refl, tt, refl)))

-- effect Ask, (k : (a, _) continuation) -> continue k 1 | effect (Tell s), (k : (a, _) continuation) -> continue k ():
-- a stands for int in the one clause, and for unit in the other
type_name_typed :
    HasType context
    (Handle Deep of_a (four asks nothing gives raises)
    (AndEffect (Effect 0) None 3 (takes_a Any) goes_on
    (AndEffect (Effect 1) (Some (NamePat 4)) 5 (takes_a Any) (Prim Continue (two (Var 5) nothing)) NoEffects)))
    int
type_name_typed = (
  int,
  _,
  four_have context asks nothing gives raises _ _ _ _ asks_typed refl (gives_typed context int) (raises_typed context int),
  (_, refl),
  (int, a_effect int),
  (
    int,
    [],
    (None, refl, ask, a_effect int, refl, a_continuation int int),
    (_, (_, _, refl, refl, (_, _, refl, refl, refl)), (λ v. int, refl, refl)),
    (
      unit,
      (4, string) ∷ [],
      (Some string, refl, tell, a_effect unit, refl, a_continuation unit int),
      (_, (_, _, refl, refl, (_, _, refl, refl, refl)), (λ v. if v == 0 then unit else int, refl, refl)),
      tt,
    ),
  ),
)

-- the continuation has the type (a, bool) continuation, where the handler gives an int
continuation_type_untyped :
    (t : Ty)
    → HasType context (Handle Deep of_a (four asks nothing gives raises) (AndEffect (Effect 0) None 3 (takes_a (written bool_type)) goes_on NoEffects)) t
    → ⊥
continuation_type_untyped t h =
    let result = asked_for_int h.1 h.3.0 h.0 t h.2 h.3.1 in
    let type = h.5.2.5.1 in
    let parts = h.5.2.5.3.2 in
    let rest = h.5.2.5.3.4.2 in
    let given = h.5.2.5.3.4.3.1 in
    grind (arith, result, type, parts, rest, given)

-- fun (eff : int) -> match eff with _ -> None
parameter_untyped :
    (c : Context) (t : Ty) (parts : Terms)
    → HasType c (Handle Deep (record { variable = None; effect = Some (written int_type) }) parts NoEffects) t → ⊥
parameter_untyped c t parts h = let e = h.4.1.1 in grind (arith, e)

-- effect (Tell (s : a)), k: in the pattern too a stands for what the effect gives, which is no string
abbrev annotated : Pattern
annotated = AnnotPat (NamePat 4) (Variable 0)

tell_of_a :
    (a : Option Ty) (r : Ty) (names : Names)
    → Constructs declared (Effect 1) a (effect r) → ArgumentPatternHas (for_result of_a r context) (Some annotated) a names → ⊥
tell_of_a None r names h q = q
tell_of_a (Some a) r names h q =
    let row = same_Some _ _ h.2 in
    let means = subst (λ w. Means declared.types no_parameters w (effect r)) (sym (ap (λ e. e.result) row)) h.4 in
    let argument = subst (λ e. ArgumentIs declared.types no_parameters e.argument (Some a)) (sym row) h.5 in
    let declared_type = argument.1 in
    let type = means.1 in
    let parts = means.3.2 in
    let part = means.3.3.1 in
    let annotation = q.0 in
    grind (arith, declared_type, type, parts, part, annotation)

pattern_type_untyped :
    (t : Ty) (parts : Terms)
    → HasType context (Handle Deep of_a parts (AndEffect (Effect 1) (Some annotated) 5 None nothing NoEffects)) t → ⊥
pattern_type_untyped t parts h = tell_of_a h.5.2.0 h.5.0 h.5.1 h.5.2.2 h.5.2.4
