-- Functions on lists and on queues, as a program would have them: their types, and uses at two types.
--   type 'a queue = { mutable front : 'a list; mutable size : int }
--   let rec map f l = match l with [] -> [] | x :: r -> let y = f x in y :: map f r
--   let create = fun () -> { front = []; size = 0 }
--   let push = fun x -> fun q -> q.front <- x :: q.front; q.size <- q.size + 1
--   let rec pop q = match q.front with x :: r -> q.front <- r; x | [] -> raise Queue.Empty
use Rattle.std.proofs.Common.{refl, arith, inl, inr, ◌++◌, List, [], ◌∷◌, Some, None, true, ℕ}
use Rattle.effect_meaning.specs.Terms.{Variable, Applied, AndType, NoTypes, Variant, Exception, Pattern, NamePat, ConstPat, TuplePat, ConPat, ConOfPat, NoPatterns, AndPattern, UnitConst, Add, Raise, Term, Var, Fun, App, Let, Seq, Match, Tuple, Con, ConOf, Record, Field, SetField, If, Prim, NoGuard, NoClauses, AndClause, Functions, NoFunctions, AndFunction, Item, Define, DefineRec, Evaluate, Program}
use Rattle.effect_meaning.specs.Builtins.{builtin_types, int_type, list_type, nil_con, cons_con, queue_empty, written}
use Rattle.type_terms.specs.TypeTrees.{Ty, Constructed, one_ty, two_tys, int, bool, unit, list, function, tuple}
use Rattle.type_terms.specs.Contexts.{Names, Context}
use Rattle.type_terms.specs.Constructors.{Constructs, FieldHas}
use Rattle.type_terms.specs.PatternTypes.{PatternHas}
use Rattle.type_terms.specs.Typing.{HasType, FunctionsHave}
use Rattle.type_terms.specs.Items.{Generalised, Group, uses}
use Rattle.type_terms.specs.Accepted.{Solution}
use Rattle.type_terms.proofs.ExampleWords.{at, number, nothing, one, two, plain}

-- 'a queue
abbrev queue_type : ℕ
queue_type = 17

abbrev queue : Ty → Ty
queue a = Constructed queue_type (one_ty a)

abbrev with_queue : List Item → Program
with_queue is =
    record plain {
      types = builtin_types ++ record { parameters = 1; fields = Some (0 ∷ 1 ∷ []) } ∷ [];
      fields =
          record { of_type = queue_type; index = 0; is_mutable = true; type = Applied list_type (AndType (Variable 0) NoTypes) }
          ∷ record { of_type = queue_type; index = 1; is_mutable = true; type = written int_type } ∷ [];
      declarations = 1;
      items = is;
    }

-- [], and a :: b, as terms and as patterns
abbrev nil : Term
nil = Con (Variant nil_con)

abbrev cons : Term → Term → Term
cons a b = ConOf (Variant cons_con) (Tuple (two a b))

abbrev nil_pattern : Pattern
nil_pattern = ConPat (Variant nil_con)

abbrev cons_pattern : ℕ → ℕ → Pattern
cons_pattern x r = ConOfPat (Variant cons_con) (TuplePat (AndPattern (NamePat x) (AndPattern (NamePat r) NoPatterns)))

-- map, create, push and pop
abbrev map_functions : Functions
map_functions =
    AndFunction 0 None 1
    (Fun 2
    (Match at (Var 2)
    (AndClause nil_pattern NoGuard nil
    (AndClause (cons_pattern 3 4) NoGuard
    (Let 5 (App (Var 1) (Var 3)) (cons (Var 5) (App (App (Var 0) (Var 1)) (Var 4))))
    NoClauses))))
    NoFunctions

abbrev create : Term
create = Fun 6 (Match at (Var 6) (AndClause (ConstPat UnitConst) NoGuard (Record (0 ∷ 1 ∷ []) (two nil (number 0))) NoClauses))

abbrev push : Term
push =
    Fun 7
    (Fun 8
    (Seq (SetField 0 (Var 8) (cons (Var 7) (Field 0 (Var 8)))) (SetField 1 (Var 8) (Prim Add (two (Field 1 (Var 8)) (number 1))))))

abbrev pop : Term
pop =
    Fun 9
    (Match at (Field 0 (Var 9))
    (AndClause (cons_pattern 10 11) NoGuard (Seq (SetField 0 (Var 9) (Var 11)) (Var 10))
    (AndClause nil_pattern NoGuard (Prim Raise (one (Con (Exception queue_empty)))) NoClauses)))

-- a type of map in its group
abbrev map_type : Ty → Ty → Ty
map_type a b = function (function a b) (function (list a) (list b))

-- a context of a program with queues
module _ (is : List Item) (tops : ℕ → Ty → Type 0) (variables : ℕ → Ty) where
  abbrev around : Names → Context
  around names = record { program = with_queue is; tops = tops; variables = variables; names = names }

  cons_constructs : (a : Ty) → Constructs (with_queue is) (Variant cons_con) (Some (tuple (two_tys a (list a)))) (list a)
  cons_constructs a = (_, _, refl, refl, inr refl, (_, refl, inl refl, (_, _, refl, refl, (_, _, refl, (_, refl, inr refl, (_, _, refl, refl, refl)), refl))))

  nil_typed : (names : Names) (a : Ty) → HasType (around names) nil (list a)
  nil_typed names a = ((_, _, refl, refl, inr refl, tt), refl)

  cons_typed :
      (names : Names) (x l : Term) (a : Ty)
      → HasType (around names) x a → HasType (around names) l (list a) → HasType (around names) (cons x l) (list a)
  cons_typed names x l a h k = (_, cons_constructs a, refl, (_, (_, _, refl, h, (_, _, refl, k, refl)), refl))

  nil_matches : (names : Names) (a : Ty) → PatternHas (around names) nil_pattern (list a) []
  nil_matches names a = ((_, _, refl, refl, inr refl, tt), refl)

  cons_matches : (names : Names) (x r : ℕ) (a : Ty) → PatternHas (around names) (cons_pattern x r) (list a) ((x, a) ∷ (r, list a) ∷ [])
  cons_matches names x r a = (
    _,
    cons_constructs a,
    λ e. grind (arith, e),
    (_, refl, (_, _, (x, a) ∷ [], (r, list a) ∷ [], refl, refl, refl, (_, _, (r, list a) ∷ [], [], refl, refl, refl, (refl, refl)))),
  )

  front_of : (a : Ty) → FieldHas (with_queue is) 0 (queue a) (list a)
  front_of a = (_, _, refl, refl, inr refl, (_, refl, inr refl, (_, _, refl, refl, refl)))

  size_of : (a : Ty) → FieldHas (with_queue is) 1 (queue a) int
  size_of a = (_, _, refl, refl, inr refl, (_, refl, inr refl, refl))

  map_typed : (a b : Ty) → FunctionsHave (around ((0, map_type a b) ∷ [])) map_functions ((0, map_type a b) ∷ [])
  map_typed a b = (
    function a b,
    function (list a) (list b),
    [],
    refl,
    tt,
    (
      list a,
      list b,
      refl,
      (
        list a,
        refl,
        (
          [],
          nil_matches [] a,
          tt,
          nil_typed [] b,
          (
            (3, a) ∷ (4, list a) ∷ [],
            cons_matches [] 3 4 a,
            tt,
            (
              b,
              (a, refl, refl),
              cons_typed
                  ((5, b) ∷ (3, a) ∷ (4, list a) ∷ (2, list a) ∷ (1, function a b) ∷ (0, map_type a b) ∷ [])
                  (Var 5) (App (App (Var 0) (Var 1)) (Var 4)) b refl (list a, (function a b, refl, refl), refl),
            ),
            tt,
          ),
        ),
      ),
    ),
    refl,
  )

  create_typed : (a : Ty) → HasType (around []) create (function unit (queue a))
  create_typed a = (
    unit,
    queue a,
    refl,
    (
      unit,
      refl,
      (
        [],
        (refl, refl),
        tt,
        ((_, _, _, _, refl, refl, refl, refl), (_, _, _, refl, front_of a, nil_typed [] a, (_, _, _, refl, size_of a, refl, refl))),
        tt,
      ),
    ),
  )

  push_typed : (a : Ty) → HasType (around []) push (function a (function (queue a) unit))
  push_typed a = (
    _,
    _,
    refl,
    (
      _,
      _,
      refl,
      (
        unit,
        (
          queue a,
          list a,
          refl,
          (_, refl, refl),
          front_of a,
          refl,
          cons_typed ((8, queue a) ∷ (7, a) ∷ []) (Var 7) (Field 0 (Var 8)) a refl (queue a, front_of a, refl),
        ),
        (
          queue a,
          int,
          refl,
          (_, refl, refl),
          size_of a,
          refl,
          (_, (_, _, refl, (queue a, size_of a, refl), (_, _, refl, refl, refl)), (λ v. int, refl, refl)),
        ),
      ),
    ),
  )

  pop_typed : (a : Ty) → HasType (around []) pop (function (queue a) a)
  pop_typed a = (
    _,
    _,
    refl,
    (
      list a,
      (queue a, front_of a, refl),
      (
        (10, a) ∷ (11, list a) ∷ [],
        cons_matches [] 10 11 a,
        tt,
        (unit, (queue a, list a, refl, (_, refl, refl), front_of a, refl, refl), refl),
        ([], nil_matches [] a, tt, (_, (_, _, refl, ((_, refl, refl, tt), refl), refl), (λ v. a, refl, refl)), tt),
      ),
    ),
  )

-- the definitions, and then if pop (create ()) then pop (create ()) else 0, where pop is used at two types
abbrev popped : Term
popped = App (Var 22) (App (Var 20) nothing)

abbrev queues : List Item
queues = DefineRec map_functions ∷ Define 20 create ∷ Define 21 push ∷ Define 22 pop ∷ Evaluate (If popped popped (number 0)) ∷ []

-- the types of the uses of create and of pop
abbrev behind_queues : ℕ → Ty → Type 0
behind_queues = uses (with_queue queues) (Generalised 22 pop ∷ Generalised 21 push ∷ Generalised 20 create ∷ Group map_functions ∷ [])

create_used : (a : Ty) → behind_queues 20 (function unit (queue a))
create_used a = (λ v. unit, create_typed queues (λ x t. ⊥) (λ v. unit) a)

pop_used : (a : Ty) → behind_queues 22 (function (queue a) a)
pop_used a = (λ v. unit, pop_typed queues (λ x t. ⊥) (λ v. unit) a)

popped_typed : (a : Ty) → HasType (around queues behind_queues (λ v. unit) []) popped a
popped_typed a = (queue a, pop_used a, (unit, create_used a, refl))

queues_solved : Solution (with_queue queues)
queues_solved = (
  λ v. unit,
  (0, map_type unit unit) ∷ [],
  map_typed queues (λ x t. ⊥) (λ v. unit) unit unit,
  (
    λ v. unit,
    _,
    create_typed queues (λ x t. ⊥) (λ v. unit) unit,
    (
      λ v. unit,
      _,
      push_typed queues (λ x t. ⊥) (λ v. unit) unit,
      (
        λ v. unit,
        _,
        pop_typed queues (λ x t. ⊥) (λ v. unit) unit,
        (λ v. unit, int, (popped_typed bool, popped_typed int, refl), tt),
      ),
    ),
  ),
)
