-- The types of the built-in operations. 'a and 'b stand for any types, for each use of its own.
use Rattle.std.specs.Prelude.{◌≡◌, ℕ}
use Rattle.effect_meaning.specs.Terms.{Order, Compared, Operation, Add, Sub, Mul, Div, Mod, LAnd, LOr, LXor, Lsl, Lsr, Asr, Min, Max, Negate, Abs, Succ, Pred, Not, Fst, Snd, Ignore, Compare, Same, Other, RefMake, RefGet, RefSet, RefIncr, RefDecr, Raise, Failwith, InvalidArg, Exit, PrintInt, PrintChar, PrintString, PrintEndline, PrintNewline, StringOfInt, Concat, StringLength, StringGet, StringSub, CharCode, CharChr, ArrayMake, ArrayLength, ArrayGet, ArraySet, CIter, CFold, CTry, Perform, Continue, Discontinue, Fiber, Spawn, Join, Relax, AtomicMake, AtomicGet, AtomicSet, AtomicExchange, AtomicCas, AtomicAdd, AtomicIncr, AtomicDecr, QueuePush, QueueTake, QueueSelf, QueueSlots}
use Rattle.type_terms.specs.TypeTrees.{Ty, TypeVariable, Tys, one_ty, two_tys, three_tys, int, bool, char, string, unit, exn, option, ref, array, effect, deep, shallow, domain, atomic, function, tuple, instance_of, instances_of}

-- the types of the parts of an operation, and of what it gives
pub record OperationType : Type 0 where
  pub parts : Tys
  pub result : Ty

-- an operation of one part
abbrev pub from_one : Ty → Ty → OperationType
from_one a t = record { parts = one_ty a; result = t }

-- of two parts
abbrev pub from_two : Ty → Ty → Ty → OperationType
from_two a b t = record { parts = two_tys a b; result = t }

-- of three parts
abbrev pub from_three : Ty → Ty → Ty → Ty → OperationType
from_three a b c t = record { parts = three_tys a b c; result = t }

-- 'a
abbrev pub any_a : Ty
any_a = TypeVariable 0

-- 'b
abbrev pub any_b : Ty
any_b = TypeVariable 1

-- a comparison gives a bool, compare an int
abbrev pub order_gives : Order → Ty
order_gives Compared = int
order_gives _ = bool

-- the table
abbrev pub operation_type : Operation → OperationType
operation_type Add = from_two int int int
operation_type Sub = from_two int int int
operation_type Mul = from_two int int int
operation_type Div = from_two int int int
operation_type Mod = from_two int int int
operation_type LAnd = from_two int int int
operation_type LOr = from_two int int int
operation_type LXor = from_two int int int
operation_type Lsl = from_two int int int
operation_type Lsr = from_two int int int
operation_type Asr = from_two int int int
operation_type Min = from_two int int int
operation_type Max = from_two int int int
operation_type Negate = from_one int int
operation_type Abs = from_one int int
operation_type Succ = from_one int int
operation_type Pred = from_one int int
operation_type Not = from_one bool bool
operation_type Fst = from_one (tuple (two_tys any_a any_b)) any_a
operation_type Snd = from_one (tuple (two_tys any_a any_b)) any_b
operation_type Ignore = from_one any_a unit
operation_type (Compare o) = from_two any_a any_a (order_gives o)
operation_type Same = from_two any_a any_a bool
operation_type Other = from_two any_a any_a bool
operation_type RefMake = from_one any_a (ref any_a)
operation_type RefGet = from_one (ref any_a) any_a
operation_type RefSet = from_two (ref any_a) any_a unit
operation_type RefIncr = from_one (ref int) unit
operation_type RefDecr = from_one (ref int) unit
operation_type Raise = from_one exn any_a
operation_type Failwith = from_one string any_a
operation_type InvalidArg = from_one string any_a
operation_type Exit = from_one int any_a
operation_type PrintInt = from_one int unit
operation_type PrintChar = from_one char unit
operation_type PrintString = from_one string unit
operation_type PrintEndline = from_one string unit
operation_type PrintNewline = from_one unit unit
operation_type StringOfInt = from_one int string
operation_type Concat = from_two string string string
operation_type StringLength = from_one string int
operation_type StringGet = from_two string int char
operation_type StringSub = from_three string int int string
operation_type CharCode = from_one char int
operation_type CharChr = from_one int char
operation_type ArrayMake = from_two int any_a (array any_a)
operation_type ArrayLength = from_one (array any_a) int
operation_type ArrayGet = from_two (array any_a) int any_a
operation_type ArraySet = from_three (array any_a) int any_a unit
operation_type CIter = from_two (function any_a unit) (array any_a) unit
operation_type CFold = from_three (function any_a (function any_b any_a)) any_a (array any_b) any_a
operation_type CTry = from_one (function unit any_a) (option any_a)
operation_type Perform = from_one (effect any_a) any_a
operation_type Continue = from_two (deep any_a any_b) any_a any_b
operation_type Discontinue = from_two (deep any_a any_b) exn any_b
operation_type Fiber = from_one (function any_a any_b) (shallow any_a any_b)
operation_type Spawn = from_one (function unit any_a) (domain any_a)
operation_type Join = from_one (domain any_a) any_a
operation_type Relax = from_one unit unit
operation_type AtomicMake = from_one any_a (atomic any_a)
operation_type AtomicGet = from_one (atomic any_a) any_a
operation_type AtomicSet = from_two (atomic any_a) any_a unit
operation_type AtomicExchange = from_two (atomic any_a) any_a any_a
operation_type AtomicCas = from_three (atomic any_a) any_a any_a bool
operation_type AtomicAdd = from_two (atomic int) int int
operation_type AtomicIncr = from_one (atomic int) unit
operation_type AtomicDecr = from_one (atomic int) unit
operation_type QueuePush = from_one (deep unit unit) unit
operation_type QueueTake = from_one int (option (deep unit unit))
operation_type QueueSelf = from_one unit int
operation_type QueueSlots = from_one unit int

-- an operation takes parts of these types and gives this type: an instance of its row
abbrev pub OperationHas : Operation → Tys → Ty → Type 0
OperationHas op ts t =
    (f : ℕ → Ty) × (ts ≡ instances_of f (operation_type op).parts) × (t ≡ instance_of f (operation_type op).result)
