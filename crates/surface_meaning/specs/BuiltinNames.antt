-- The built-in names, those of the modules too: which operation each stands for, and how many arguments it takes.
-- OCaml manual, modules Stdlib, String, Char, Array, Effect, Domain and Atomic; c_iter, c_fold, c_try and Fiberq are own.
use Rattle.std.specs.Prelude.{ℤ, pos, negsuc, List, [], ◌∷◌, codes}
use Rattle.effect_meaning.specs.Terms.{Constructor, Variant, Exception, Min, Max, Abs, Succ, Pred, Not, Fst, Snd, Ignore, Compare, Compared, RefMake, RefIncr, RefDecr, Raise, Failwith, InvalidArg, Exit, PrintInt, PrintChar, PrintString, PrintEndline, PrintNewline, StringOfInt, StringLength, StringGet, StringSub, CharCode, CharChr, ArrayMake, ArrayLength, ArrayGet, ArraySet, CIter, CFold, CTry, Perform, Continue, Discontinue, Fiber, Spawn, Join, Relax, AtomicMake, AtomicGet, AtomicSet, AtomicExchange, AtomicCas, AtomicAdd, AtomicIncr, AtomicDecr, QueuePush, QueueTake, QueueSelf, QueueSlots}
use Rattle.effect_meaning.specs.Builtins.{int_type, bool_type, char_type, string_type, unit_type, exn_type, list_type, option_type, ref_type, array_type, effect_type, deep_type, shallow_type, domain_type, atomic_type, none_con, some_con, not_found, failure, invalid_argument, division_by_zero, match_failure, exit_exception, unhandled, already_resumed, queue_empty, fiberq_full}
use Rattle.surface_meaning.specs.Scope.{Value, Builtin, Number, TakesHandler, TypeName, Row, Module, EffectModule, DeepModule, ShallowModule, DomainModule, AtomicModule, ListModule, QueueModule, FiberqModule, StringModule, ArrayModule, CharModule, Entry, entry}

-- the greatest and the least integer
abbrev pub greatest : ℤ
greatest = pos 4611686018427387903

abbrev pub least : ℤ
least = negsuc 4611686018427387903

-- the values that stand in no module
abbrev pub plain_values : List (Entry Value)
plain_values =
    entry (codes "min") (Builtin Min 2) ∷ entry (codes "max") (Builtin Max 2)
    ∷ entry (codes "abs") (Builtin Abs 1) ∷ entry (codes "succ") (Builtin Succ 1) ∷ entry (codes "pred") (Builtin Pred 1)
    ∷ entry (codes "max_int") (Number greatest) ∷ entry (codes "min_int") (Number least)
    ∷ entry (codes "compare") (Builtin (Compare Compared) 2)
    ∷ entry (codes "not") (Builtin Not 1) ∷ entry (codes "fst") (Builtin Fst 1) ∷ entry (codes "snd") (Builtin Snd 1)
    ∷ entry (codes "ignore") (Builtin Ignore 1)
    ∷ entry (codes "ref") (Builtin RefMake 1) ∷ entry (codes "incr") (Builtin RefIncr 1) ∷ entry (codes "decr") (Builtin RefDecr 1)
    ∷ entry (codes "raise") (Builtin Raise 1) ∷ entry (codes "failwith") (Builtin Failwith 1)
    ∷ entry (codes "invalid_arg") (Builtin InvalidArg 1) ∷ entry (codes "exit") (Builtin Exit 1)
    ∷ entry (codes "print_int") (Builtin PrintInt 1) ∷ entry (codes "print_char") (Builtin PrintChar 1)
    ∷ entry (codes "print_string") (Builtin PrintString 1) ∷ entry (codes "print_endline") (Builtin PrintEndline 1)
    ∷ entry (codes "print_newline") (Builtin PrintNewline 1) ∷ entry (codes "string_of_int") (Builtin StringOfInt 1)
    ∷ entry (codes "c_iter") (Builtin CIter 2) ∷ entry (codes "c_fold") (Builtin CFold 3) ∷ entry (codes "c_try") (Builtin CTry 1)
    ∷ []

-- the built-in values of a module
abbrev pub builtin_values : Module → List (Entry Value)
builtin_values EffectModule = entry (codes "perform") (Builtin Perform 1) ∷ []
builtin_values DeepModule =
    entry (codes "continue") (Builtin Continue 2) ∷ entry (codes "discontinue") (Builtin Discontinue 2)
    ∷ entry (codes "match_with") TakesHandler ∷ entry (codes "try_with") TakesHandler ∷ []
builtin_values ShallowModule =
    entry (codes "fiber") (Builtin Fiber 1)
    ∷ entry (codes "continue_with") TakesHandler ∷ entry (codes "discontinue_with") TakesHandler ∷ []
builtin_values DomainModule =
    entry (codes "spawn") (Builtin Spawn 1) ∷ entry (codes "join") (Builtin Join 1) ∷ entry (codes "cpu_relax") (Builtin Relax 1) ∷ []
builtin_values AtomicModule =
    entry (codes "make") (Builtin AtomicMake 1) ∷ entry (codes "get") (Builtin AtomicGet 1) ∷ entry (codes "set") (Builtin AtomicSet 2)
    ∷ entry (codes "exchange") (Builtin AtomicExchange 2) ∷ entry (codes "compare_and_set") (Builtin AtomicCas 3)
    ∷ entry (codes "fetch_and_add") (Builtin AtomicAdd 2)
    ∷ entry (codes "incr") (Builtin AtomicIncr 1) ∷ entry (codes "decr") (Builtin AtomicDecr 1) ∷ []
builtin_values ListModule = []
builtin_values QueueModule = []
builtin_values FiberqModule =
    entry (codes "push") (Builtin QueuePush 1) ∷ entry (codes "take_from") (Builtin QueueTake 1)
    ∷ entry (codes "self") (Builtin QueueSelf 1) ∷ entry (codes "slots") (Builtin QueueSlots 1) ∷ []
builtin_values StringModule =
    entry (codes "length") (Builtin StringLength 1) ∷ entry (codes "get") (Builtin StringGet 2) ∷ entry (codes "sub") (Builtin StringSub 3) ∷ []
builtin_values ArrayModule =
    entry (codes "make") (Builtin ArrayMake 2) ∷ entry (codes "length") (Builtin ArrayLength 1)
    ∷ entry (codes "get") (Builtin ArrayGet 2) ∷ entry (codes "set") (Builtin ArraySet 3) ∷ []
builtin_values CharModule = entry (codes "code") (Builtin CharCode 1) ∷ entry (codes "chr") (Builtin CharChr 1) ∷ []

-- the types that stand in no module
abbrev pub plain_types : List (Entry TypeName)
plain_types =
    entry (codes "int") (Row int_type) ∷ entry (codes "bool") (Row bool_type) ∷ entry (codes "char") (Row char_type)
    ∷ entry (codes "string") (Row string_type) ∷ entry (codes "unit") (Row unit_type) ∷ entry (codes "exn") (Row exn_type)
    ∷ entry (codes "list") (Row list_type) ∷ entry (codes "option") (Row option_type) ∷ entry (codes "ref") (Row ref_type)
    ∷ entry (codes "array") (Row array_type) ∷ []

-- the built-in types of a module
abbrev pub builtin_types_in : Module → List (Entry TypeName)
builtin_types_in EffectModule = entry (codes "t") (Row effect_type) ∷ []
builtin_types_in DeepModule = entry (codes "continuation") (Row deep_type) ∷ []
builtin_types_in ShallowModule = entry (codes "continuation") (Row shallow_type) ∷ []
builtin_types_in DomainModule = entry (codes "t") (Row domain_type) ∷ []
builtin_types_in AtomicModule = entry (codes "t") (Row atomic_type) ∷ []
builtin_types_in _ = []

-- the constructors that stand in no module
abbrev pub plain_constructors : List (Entry Constructor)
plain_constructors =
    entry (codes "None") (Variant none_con) ∷ entry (codes "Some") (Variant some_con)
    ∷ entry (codes "Not_found") (Exception not_found) ∷ entry (codes "Failure") (Exception failure)
    ∷ entry (codes "Invalid_argument") (Exception invalid_argument)
    ∷ entry (codes "Division_by_zero") (Exception division_by_zero)
    ∷ entry (codes "Match_failure") (Exception match_failure) ∷ entry (codes "Exit") (Exception exit_exception) ∷ []

-- the constructors of a module
abbrev pub constructors_in : Module → List (Entry Constructor)
constructors_in EffectModule =
    entry (codes "Unhandled") (Exception unhandled) ∷ entry (codes "Continuation_already_resumed") (Exception already_resumed) ∷ []
constructors_in QueueModule = entry (codes "Empty") (Exception queue_empty) ∷ []
constructors_in FiberqModule = entry (codes "Full") (Exception fiberq_full) ∷ []
constructors_in _ = []

-- the modules that stand in no other one
abbrev pub plain_modules : List (Entry Module)
plain_modules =
    entry (codes "Effect") EffectModule ∷ entry (codes "Domain") DomainModule ∷ entry (codes "Atomic") AtomicModule
    ∷ entry (codes "List") ListModule ∷ entry (codes "Queue") QueueModule ∷ entry (codes "Fiberq") FiberqModule
    ∷ entry (codes "String") StringModule ∷ entry (codes "Array") ArrayModule ∷ entry (codes "Char") CharModule ∷ []

-- the modules of a module
abbrev pub modules_in : Module → List (Entry Module)
modules_in EffectModule = entry (codes "Deep") DeepModule ∷ entry (codes "Shallow") ShallowModule ∷ []
modules_in _ = []
