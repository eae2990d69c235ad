-- The typing rules of items at work: what is generalised, and what a program's declarations and comparisons must be.
use Rattle.std.proofs.Common.{◌≡◌, refl, sym, ap, subst, arith, inl, inr, ◌++◌, List, [], ◌∷◌, Some, None, true, ℕ, ◌∙◌}
use Rattle.std.proofs.lemmas.Option.{same_Some}
use Rattle.effect_meaning.specs.Terms.{Written, Variable, Applied, NoTypes, AndType, Variant, Compare, Equals, NamePat, TuplePat, NoPatterns, AndPattern, RefMake, RefSet, Term, Var, Fun, App, Seq, Con, ConOf, Tuple, Prim, Annot, NoFunctions, AndFunction, Item, Define, Destructure, DefineRec, Evaluate, TypeRow, Program}
use Rattle.effect_meaning.specs.Builtins.{function_type, option_type, int_type, list_type, nil_con, cons_con, written, builtin_types}
use Rattle.type_terms.specs.declared.base_type.BaseTy.{BaseTy}
use Rattle.type_terms.specs.declared.base_type.BaseTy.TheVariants as base
use Rattle.type_terms.specs.TypeTrees.{Ty, TypeVariable, int, bool, unit, list, ref, function, tuple, two_tys, type_at, base_ty}
use Rattle.type_terms.specs.WrittenTypes.{IsTypeIfWritten, Declared, EffectDeclared}
use Rattle.type_terms.specs.Contexts.{NameHas}
use Rattle.type_terms.specs.Constructors.{ArgumentIs}
use Rattle.type_terms.specs.Typing.{HasType}
use Rattle.type_terms.specs.Items.{Top, OneType, behind}
use Rattle.type_terms.specs.Accepted.{Solution, Types}
use Rattle.type_terms.specs.Laws.{IsMostGeneral}
use Rattle.type_terms.proofs.ExampleAnnotations.{too_few_arguments}
use Rattle.type_terms.proofs.ExampleWords.{at, number, truth, one, two, plain, first_of, rest_of, first_argument, arguments_of}

-- a program of these items
abbrev of_items : List Item → Program
of_items is = record plain { items = is }

-- the built-in declarations
plain_declared : (is : List Item) → Declared (of_items is)
plain_declared is = record {
  variants = (tt, ((λ v. unit, unit, refl), (tt, ((λ v. unit, _, (_, refl, inl refl, (_, _, refl, refl, (_, _, refl, (_, refl, inr refl, (_, _, refl, refl, refl)), refl)))), tt))));
  fields = tt;
  exceptions = (
    tt,
    (
      (λ v. unit, _, (_, refl, inr refl, refl)),
      (
        (λ v. unit, _, (_, refl, inr refl, refl)),
        (
          tt,
          (
            (λ v. unit, _, (_, refl, inl refl, (_, _, refl, (_, refl, inr refl, refl), (_, _, refl, (_, refl, inr refl, refl), (_, _, refl, (_, refl, inr refl, refl), refl))))),
            (tt, ((λ v. unit, unit, tt), (tt, (tt, (tt, tt))))),
          ),
        ),
      ),
    ),
  );
  effects = tt;
  extended = tt;
}

-- let id = fun x -> x, and then (id 1, id true)
abbrev at_two_types : Program
at_two_types =
    of_items
    (Define 0 (Fun 1 (Var 1)) ∷ Evaluate (Tuple (two (App (Var 0) (number 1)) (App (Var 0) (truth true)))) ∷ [])

at_two_types_solved : Solution at_two_types
at_two_types_solved = (
  λ v. unit,
  _,
  (unit, unit, refl, refl),
  (λ v. unit, _, (_, (_, _, refl, (int, (λ v. unit, (_, _, refl, refl)), refl), (_, _, refl, (bool, (λ v. unit, (_, _, refl, refl)), refl), refl)), refl), tt),
)

at_two_types_typed : Types at_two_types
at_two_types_typed = record { declarations = plain_declared _; solution = at_two_types_solved; comparisons = λ h. (tt, (tt, tt)) }

-- [], and [a]
abbrev nil : Term
nil = Con (Variant nil_con)

abbrev list_of : Term → Term
list_of a = ConOf (Variant cons_con) (Tuple (two a nil))

list_typed :
    (is : List Item) (tops : List Top) (variables : ℕ → Ty) (a : Term) (t : Ty)
    → HasType (behind (of_items is) tops variables) a t → HasType (behind (of_items is) tops variables) (list_of a) (list t)
list_typed is tops variables a t h = (
  tuple (two_tys t (list t)),
  (_, _, refl, refl, inr refl, (_, refl, inl refl, (_, _, refl, refl, (_, _, refl, (_, refl, inr refl, (_, _, refl, refl, refl)), refl)))),
  refl,
  (_, (_, _, refl, h, (_, _, refl, ((_, _, refl, refl, inr refl, tt), refl), refl)), refl),
)

-- the elements of a list have one type
elements_have :
    (is : List Item) (tops : List Top) (variables : ℕ → Ty) (a : Term) (t : Ty)
    → HasType (behind (of_items is) tops variables) (list_of a) t
    → HasType (behind (of_items is) tops variables) a (first_argument t)
elements_have is tops variables a t h =
    let row = same_Some _ _ h.1.2 in
    let means = subst (λ r. ArgumentIs builtin_types (type_at h.1.1) r.argument (Some h.0)) (sym row) h.1.5 in
    let element = ap first_argument h.1.3 in
    let parts = ap arguments_of (sym h.3.2 ∙ means.1) in
    let first = ap first_of (sym h.3.1.2 ∙ parts ∙ means.3.2) in
    subst (HasType (behind (of_items is) tops variables) a) (first ∙ means.3.3 ∙ sym element) h.3.1.3

-- let r = ref [], and then an expression
abbrev with_reference : Term → List Item
with_reference a = Define 0 (Prim RefMake (one nil)) ∷ Evaluate a ∷ []

-- r := [a]
abbrev assigned : Term → Term
assigned a = Prim RefSet (two (Var 0) (list_of a))

-- r := [1]
reference_solved : Solution (of_items (with_reference (assigned (number 1))))
reference_solved = (
  λ v. unit,
  ref (list int),
  (_, (_, _, refl, ((_, _, refl, refl, inr refl, tt), refl), refl), (λ v. list int, refl, refl)),
  (
    λ v. unit,
    _,
    (_, (_, _, refl, refl, (_, _, refl, list_typed (with_reference (assigned (number 1))) (OneType ((0, ref (list int)) ∷ []) ∷ []) (λ v. unit) (number 1) int refl, refl)), (λ v. list int, refl, refl)),
    tt,
  ),
)

-- r := [1]; r := [true]: r isn't generalised
abbrev assigned_twice : Term
assigned_twice = Seq (assigned (number 1)) (assigned (truth true))

element_assigned :
    (is : List Item) (r : Ty) (variables : ℕ → Ty) (a : Term) (t : Ty)
    → HasType (behind (of_items is) (OneType ((0, r) ∷ []) ∷ []) variables) (assigned a) t
    → HasType (behind (of_items is) (OneType ((0, r) ∷ []) ∷ []) variables) a (first_argument (first_argument r))
element_assigned is r variables a t h =
    let tops = OneType ((0, r) ∷ []) ∷ [] in
    let parts = sym h.1.2 ∙ h.2.1 in
    let reference = ap first_argument (sym h.1.3 ∙ ap first_of parts) in
    let given = ap first_of (sym h.1.4.2 ∙ ap rest_of parts) in
    let element = ap first_argument (given ∙ sym reference) in
    subst (HasType (behind (of_items is) tops variables) a) element (elements_have is tops variables a _ h.1.4.3)

reference_at_two_types : Solution (of_items (with_reference assigned_twice)) → ⊥
reference_at_two_types h =
    let numbers = element_assigned (with_reference assigned_twice) h.1 h.3.0 (number 1) _ h.3.2.1 in
    let truths = element_assigned (with_reference assigned_twice) h.1 h.3.0 (truth true) _ h.3.2.2 in
    grind (arith, numbers, truths)

-- let (f, y) = ((fun x -> x), 1), and then f 1; f true: what a pattern binds isn't generalised
pattern_at_two_types :
    Solution
    (of_items
    (Destructure at (TuplePat (AndPattern (NamePat 0) (AndPattern (NamePat 1) NoPatterns))) (Tuple (two (Fun 2 (Var 2)) (number 1)))
    ∷ Evaluate (Seq (App (Var 0) (number 1)) (App (Var 0) (truth true)))
    ∷ []))
    → ⊥
pattern_at_two_types h =
    let bound = h.4.2 in
    let names = bound.5 ∙ ap (λ k. k ++ bound.3) bound.6 in
    let first = subst (λ k. NameHas k 0 (function h.5.2.1.0 h.5.2.0) ⊥) names h.5.2.1.1 in
    let second = subst (λ k. NameHas k 0 (function h.5.2.2.0 h.5.1) ⊥) names h.5.2.2.1 in
    let number_given = h.5.2.1.2 in
    let truth_given = h.5.2.2.2 in
    grind (arith, first, second, number_given, truth_given)

-- let rec f x = f 1; f true: inside its group f isn't generalised
group_untyped :
    Solution (of_items (DefineRec (AndFunction 0 None 1 (Seq (App (Var 0) (number 1)) (App (Var 0) (truth true))) NoFunctions) ∷ [])) → ⊥
group_untyped h =
    let names = h.2.3 in
    let body = h.2.5 in
    let first = subst (λ k. NameHas (k ++ []) 0 (function body.1.0 body.0) ⊥) names body.1.1 in
    let second = subst (λ k. NameHas (k ++ []) 0 (function body.2.0 h.2.1) ⊥) names body.2.1 in
    let number_given = body.1.2 in
    let truth_given = body.2.2 in
    grind (arith, first, second, number_given, truth_given)

-- let rec f x = f x, and then f 1; f true: behind its group it is
group_solved :
    Solution
    (of_items
    (DefineRec (AndFunction 0 None 1 (App (Var 0) (Var 1)) NoFunctions)
    ∷ Evaluate (Seq (App (Var 0) (number 1)) (App (Var 0) (truth true)))
    ∷ []))
group_solved = (
  λ v. unit,
  (0, function unit unit) ∷ [],
  (_, _, [], refl, tt, (_, refl, refl), refl),
  (
    λ v. unit,
    unit,
    (
      unit,
      (int, (λ v. unit, (0, function int unit) ∷ [], (_, _, [], refl, tt, (_, refl, refl), refl), refl), refl),
      (bool, (λ v. unit, (0, function bool unit) ∷ [], (_, _, [], refl, tt, (_, refl, refl), refl), refl), refl),
    ),
    tt,
  ),
)

-- let f = (fun x -> x : 'a -> 'a), and then f 1; f true: each copy has an 'a of its own
abbrev to_itself : Written
to_itself = Applied function_type (AndType (Variable 0) (AndType (Variable 0) NoTypes))

annotated_solved :
    Solution
    (of_items (Define 0 (Annot (Fun 1 (Var 1)) to_itself) ∷ Evaluate (Seq (App (Var 0) (number 1)) (App (Var 0) (truth true))) ∷ []))
annotated_solved = (
  λ v. unit,
  _,
  ((_, refl, inr refl, (_, _, refl, refl, (_, _, refl, refl, refl))), (_, _, refl, refl)),
  (
    λ v. unit,
    bool,
    (
      int,
      (int, (λ v. int, ((_, refl, inr refl, (_, _, refl, refl, (_, _, refl, refl, refl))), (_, _, refl, refl))), refl),
      (bool, (λ v. bool, ((_, refl, inr refl, (_, _, refl, refl, (_, _, refl, refl, refl))), (_, _, refl, refl))), refl),
    ),
    tt,
  ),
)

-- let same = fun x -> 1 = x
abbrev integers : Program
integers = of_items (Define 0 (Fun 1 (Prim (Compare Equals) (two (number 1) (Var 1)))) ∷ [])

integers_typed : Types integers
integers_typed = record {
  declarations = plain_declared _;
  solution = (λ v. unit, _, (_, _, refl, (_, (_, _, refl, refl, (_, _, refl, refl, refl)), (λ v. int, refl, refl))), tt);
  comparisons = λ h. (((base.Int, ap first_of h.2.3.1.2 ∙ h.2.3.1.3), tt), tt);
}

-- let same = fun x -> fun y -> x = y: the equations have a solution, but the comparison is at no type of the five
abbrev any_two : Program
any_two = of_items (Define 0 (Fun 1 (Fun 2 (Prim (Compare Equals) (two (Var 1) (Var 2))))) ∷ [])

abbrev any_two_solved : (t : Ty) → Solution any_two
any_two_solved t = (λ v. unit, _, (_, _, refl, (t, _, refl, (_, (_, _, refl, refl, (_, _, refl, refl, refl)), (λ v. t, refl, refl)))), tt)

no_base : (b : BaseTy) (a : Ty) → list a ≡ base_ty b → ⊥
no_base base.Int a e = grind (arith, e)
no_base base.Bool a e = grind (arith, e)
no_base base.Char a e = grind (arith, e)
no_base base.Unit a e = grind (arith, e)
no_base base.Str a e = grind (arith, e)

any_two_untyped : Types any_two → ⊥
any_two_untyped types = let comparison = (types.comparisons (any_two_solved (list int))).0.0 in no_base comparison.0 int comparison.1

-- type _ option += E : int Effect.t, and type _ Effect.t += E : int option
other_type_extended : (p : Program) → Declared (record p { extended = option_type ∷ [] }) → ⊥
other_type_extended p h = let e = h.extended.0 in omega (arith, e)

effect_of_other_type : (rows : List TypeRow) → EffectDeclared rows (record { argument = None; result = Applied option_type (AndType (written int_type) NoTypes) }) → ⊥
effect_of_other_type rows h = let e = h.3.1 in grind (arith, e)

-- exception E of list
arguments_declared : IsTypeIfWritten builtin_types (Some (written list_type)) → ⊥
arguments_declared h = too_few_arguments h.0 h.1 h.2

-- its most general solution has one type variable, at which it compares
any_two_most_general : IsMostGeneral any_two (any_two_solved (TypeVariable 0))
any_two_most_general k =
    let whole = k.2.2 in
    let inner = k.2.3.2 in
    let parts = k.2.3.3.1.2 in
    let first = k.2.3.3.1.3 in
    let rest = k.2.3.3.1.4.2 in
    let second = k.2.3.3.1.4.3 in
    let compared = k.2.3.3.2.1 in
    let result = k.2.3.3.2.2 in
    let type : k.1 ≡ function k.2.0 (function k.2.0 bool) = grind (arith, whole, inner, parts, first, rest, second, compared, result) in
    (λ v. k.2.0, (ap (λ t. t ∷ []) type, ap (λ t. (t ∷ []) ∷ []) (ap first_of parts ∙ first)))
