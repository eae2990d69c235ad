-- The types of the built-in operations. 'a and 'b are new variables, for each use of its own.
use Rattle.std.specs.Prelude.{ℕ, false, List, [], ◌∷◌, length, slice_index_or}
use Rattle.effect_meaning.specs.declared.core_nodes.Comparison.{Comparison}
use Rattle.effect_meaning.specs.declared.core_nodes.Comparison.TheVariants as comparison
use Rattle.effect_meaning.specs.declared.core_nodes.Operation.{Operation}
use Rattle.effect_meaning.specs.declared.core_nodes.Operation.TheVariants as operation
use Rattle.type_graph.specs.declared.signatures.Signature.{Signature}
use Rattle.type_graph.specs.Graph.{Graph, variable_added, applied}

-- the built-in types without arguments, by their rows, which are their numbers too
abbrev pub int : ℕ
int = 0

abbrev pub bool : ℕ
bool = 1

abbrev pub char : ℕ
char = 2

abbrev pub string : ℕ
string = 3

abbrev pub unit : ℕ
unit = 4

abbrev pub exn : ℕ
exn = 5

-- the built-in type constructors, by their rows
abbrev pub option : ℕ
option = 7

abbrev pub ref : ℕ
ref = 8

abbrev pub array : ℕ
array = 9

abbrev pub effect : ℕ
effect = 10

abbrev pub deep : ℕ
deep = 11

abbrev pub shallow : ℕ
shallow = 12

abbrev pub domain : ℕ
domain = 13

abbrev pub atomic : ℕ
atomic = 14

abbrev pub arrow : ℕ
arrow = 15

abbrev pub tuple : ℕ
tuple = 16

-- the types of the parts of an operation and of what it gives, and all types behind that
pub record Signed : Type 0 where
  pub signature : Signature
  pub types : Graph

-- the types of one part, and of what an operation of it gives
abbrev pub one_part : (part gives : ℕ) → Signature
one_part a t = record { parts = a ∷ unit ∷ unit ∷ []; count = 1; gives = t }

-- of two parts
abbrev pub two_parts : (first second gives : ℕ) → Signature
two_parts a b t = record { parts = a ∷ b ∷ unit ∷ []; count = 2; gives = t }

-- of three parts
abbrev pub three_parts : (first second third gives : ℕ) → Signature
three_parts a b c t = record { parts = a ∷ b ∷ c ∷ []; count = 3; gives = t }

-- the type of the part at a place
abbrev pub part_type : Signature → ℕ → ℕ
part_type s place = slice_index_or s.parts place unit

-- no further type is made
abbrev pub one : (part gives : ℕ) → Graph → Signed
one a t g = record { signature = one_part a t; types = g }

-- likewise
abbrev pub two : (first second gives : ℕ) → Graph → Signed
two a b t g = record { signature = two_parts a b t; types = g }

-- likewise
abbrev pub three : (first second third gives : ℕ) → Graph → Signed
three a b c t g = record { signature = three_parts a b c t; types = g }

-- a new variable is made, and then what there is of its number
abbrev pub variable : (ℕ → Graph → Signed) → Graph → Signed
variable next g = next (length g.nodes) (variable_added g)

-- a type constructor with its arguments is made, and then what there is of its number
abbrev pub make : ℕ → List ℕ → (ℕ → Graph → Signed) → Graph → Signed
make c ns next g = next (length g.nodes) (applied c ns false g)

-- with a function from one type to another one
abbrev pub function_added : (argument body : ℕ) → Graph → Graph
function_added a b g = applied arrow (a ∷ b ∷ []) false g

-- a function is made, and then what there is of its number
abbrev pub function : (argument body : ℕ) → (ℕ → Graph → Signed) → Graph → Signed
function a b next g = next (length g.nodes) (function_added a b g)

-- atomic cells; where a number is added to one, it holds an int
unfoldable pub atomic_signature : Operation → (a : ℕ) → Graph → Signed
atomic_signature operation.AtomicMake a = make atomic (a ∷ []) (λ cell. one a cell)
atomic_signature operation.AtomicGet a = make atomic (a ∷ []) (λ cell. one cell a)
atomic_signature operation.AtomicSet a = make atomic (a ∷ []) (λ cell. two cell a unit)
atomic_signature operation.AtomicExchange a = make atomic (a ∷ []) (λ cell. two cell a a)
atomic_signature operation.AtomicCompareAndSet a = make atomic (a ∷ []) (λ cell. three cell a a bool)
atomic_signature operation.AtomicFetchAndAdd a = make atomic (int ∷ []) (λ cell. two cell int int)
atomic_signature _ a = make atomic (int ∷ []) (λ cell. one cell unit)

-- domains, and else atomic cells
unfoldable pub domain_signature : Operation → (a : ℕ) → Graph → Signed
domain_signature operation.Spawn a = function unit a (λ f. make domain (a ∷ []) (λ d. one f d))
domain_signature operation.Join a = make domain (a ∷ []) (λ d. one d a)
domain_signature op a = atomic_signature op a

-- queues of continuations, and else domains
unfoldable pub queue_signature : Operation → (a : ℕ) → Graph → Signed
queue_signature operation.QueuePush a = make deep (unit ∷ unit ∷ []) (λ k. one k unit)
queue_signature operation.QueueTake a = make deep (unit ∷ unit ∷ []) (λ k. make option (k ∷ []) (λ t. one int t))
queue_signature op a = domain_signature op a

-- effects and continuations, and else queues
unfoldable pub effect_signature : Operation → (a : ℕ) → Graph → Signed
effect_signature operation.Perform a = make effect (a ∷ []) (λ e. one e a)
effect_signature operation.Continue a = variable (λ b. make deep (a ∷ b ∷ []) (λ k. two k a b))
effect_signature operation.Discontinue a = variable (λ b. make deep (a ∷ b ∷ []) (λ k. two k exn b))
effect_signature operation.Fiber a = variable (λ b. function a b (λ f. make shallow (a ∷ b ∷ []) (λ k. one f k)))
effect_signature op a = queue_signature op a

-- c_iter, c_fold and c_try, and else effects
unfoldable pub callback_signature : Operation → (a : ℕ) → Graph → Signed
callback_signature operation.CallIterate a = function a unit (λ f. make array (a ∷ []) (λ t. two f t unit))
callback_signature operation.CallFold a =
    variable (λ b. function b a (λ g. function a g (λ f. make array (b ∷ []) (λ t. three f a t a))))
callback_signature operation.CallTry a = function unit a (λ f. make option (a ∷ []) (λ t. one f t))
callback_signature op a = effect_signature op a

-- arrays, and else callbacks
unfoldable pub array_signature : Operation → (a : ℕ) → Graph → Signed
array_signature operation.ArrayMake a = make array (a ∷ []) (λ t. two int a t)
array_signature operation.ArrayLength a = make array (a ∷ []) (λ t. one t int)
array_signature operation.ArrayGet a = make array (a ∷ []) (λ t. two t int a)
array_signature operation.ArraySet a = make array (a ∷ []) (λ t. three t int a unit)
array_signature op a = callback_signature op a

-- references, and else arrays
unfoldable pub reference_signature : Operation → (a : ℕ) → Graph → Signed
reference_signature operation.MakeReference a = make ref (a ∷ []) (λ r. one a r)
reference_signature operation.GetReference a = make ref (a ∷ []) (λ r. one r a)
reference_signature operation.SetReference a = make ref (a ∷ []) (λ r. two r a unit)
reference_signature operation.IncrementReference a = make ref (int ∷ []) (λ r. one r unit)
reference_signature operation.DecrementReference a = make ref (int ∷ []) (λ r. one r unit)
reference_signature op a = array_signature op a

-- a comparison gives a bool, compare an int
abbrev pub comparison_gives : Comparison → ℕ
comparison_gives comparison.Compare = int
comparison_gives _ = bool

-- operations at values of any type 'a, and else references
unfoldable pub plain_signature : Operation → (a : ℕ) → Graph → Signed
plain_signature operation.First a = variable (λ b. make tuple (a ∷ b ∷ []) (λ pair. one pair a))
plain_signature operation.Second a = variable (λ b. make tuple (a ∷ b ∷ []) (λ pair. one pair b))
plain_signature operation.Ignore a = one a unit
plain_signature (operation.Compare c) a = two a a (comparison_gives c)
plain_signature operation.Same a = two a a bool
plain_signature operation.Other a = two a a bool
plain_signature operation.Raise a = one exn a
plain_signature operation.FailWith a = one string a
plain_signature operation.InvalidArgument a = one string a
plain_signature operation.Exit a = one int a
plain_signature op a = reference_signature op a

-- texts and characters, and else operations with a new 'a
unfoldable pub text_signature : Operation → Graph → Signed
text_signature operation.StringOfInteger = one int string
text_signature operation.Concatenate = two string string string
text_signature operation.StringLength = one string int
text_signature operation.StringGet = two string int char
text_signature operation.StringSub = three string int int string
text_signature operation.CharacterCode = one char int
text_signature operation.CharacterOfCode = one int char
text_signature op = variable (λ a. plain_signature op a)

-- printing and numbers of queues, and else texts
unfoldable pub printing_signature : Operation → Graph → Signed
printing_signature operation.PrintInteger = one int unit
printing_signature operation.PrintCharacter = one char unit
printing_signature operation.PrintString = one string unit
printing_signature operation.PrintLine = one string unit
printing_signature operation.PrintNewline = one unit unit
printing_signature operation.Relax = one unit unit
printing_signature operation.QueueSelf = one unit int
printing_signature operation.QueueSlots = one unit int
printing_signature op = text_signature op

-- ints and bools, and else printing
unfoldable pub signature_of : Operation → Graph → Signed
signature_of operation.Add = two int int int
signature_of operation.Subtract = two int int int
signature_of operation.Multiply = two int int int
signature_of operation.Divide = two int int int
signature_of operation.Modulo = two int int int
signature_of operation.LogicalAnd = two int int int
signature_of operation.LogicalOr = two int int int
signature_of operation.LogicalXor = two int int int
signature_of operation.ShiftLeft = two int int int
signature_of operation.ShiftRightLogical = two int int int
signature_of operation.ShiftRightArithmetic = two int int int
signature_of operation.Minimum = two int int int
signature_of operation.Maximum = two int int int
signature_of operation.Negate = one int int
signature_of operation.Absolute = one int int
signature_of operation.Successor = one int int
signature_of operation.Predecessor = one int int
signature_of operation.Not = one bool bool
signature_of op = printing_signature op
