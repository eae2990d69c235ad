-- An expression of the form that compiles, its postfix order, and the program that it stands in.
use Rattle.std.specs.Prelude.{ℕ, ◌<◌, ◌^◌, pos, List, [], ◌∷◌, ◌++◌}
use Rattle.effect_meaning.specs.Terms.{Place, Integer, UnitConst, ConstPat, Operation, Add, Sub, Mul, PrintInt, Term, Const, Prim, NoTerms, AndTerm, Destructure, Program}
use Rattle.effect_meaning.specs.Builtins.{builtin_types, builtin_variants, builtin_exceptions}
use Rattle.effects_top.specs.declared.reader.Arith.{Arith}
use Rattle.effects_top.specs.declared.reader.Arith.TheVariants.{Plus, Minus, Times}
use Rattle.effects_top.specs.declared.reader.Postfix.{Postfix}
use Rattle.effects_top.specs.declared.reader.Postfix.TheVariants.{Literal, Apply}

-- literals, and sums, differences and products
pub data Expression : Type 0 where
  Number : (n : ℕ) → Expression
  Binary : (operation : Arith) (left right : Expression) → Expression

-- each literal is an integer
abbrev pub AreIntegers : Expression → Type 0
AreIntegers (Number n) = n < 2 ^ 62
AreIntegers (Binary operation a b) = AreIntegers a × AreIntegers b

-- the postfix order: the left part, the right part, the operation
abbrev pub postfix_of : Expression → List Postfix
postfix_of (Number n) = Literal n ∷ []
postfix_of (Binary operation a b) = postfix_of a ++ (postfix_of b ++ Apply operation ∷ [])

abbrev pub operation_of : Arith → Operation
operation_of Plus = Add
operation_of Minus = Sub
operation_of Times = Mul

-- the term of an expression
abbrev pub term_of : Expression → Term
term_of (Number n) = Const (Integer (pos n))
term_of (Binary operation a b) = Prim (operation_of operation) (AndTerm (term_of a) (AndTerm (term_of b) NoTerms))

-- the program `let () = print_int A`: the file word, the place of its `let`, and A
abbrev pub program_of : (file : List ℕ) (at : Place) (a : Expression) → Program
program_of file at a =
    record {
      file = file;
      literals = [];
      types = builtin_types;
      variants = builtin_variants;
      fields = [];
      exceptions = builtin_exceptions;
      effects = [];
      extended = [];
      declarations = 0;
      items = Destructure at (ConstPat UnitConst) (Prim PrintInt (AndTerm (term_of a) NoTerms)) ∷ [];
    }
