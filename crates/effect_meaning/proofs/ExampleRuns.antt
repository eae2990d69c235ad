-- Small words for the programs of the examples, and how an example is run: by a list of domain numbers that is made by a
-- rule, so that all of it computes.
use Rattle.std.proofs.Common.{◌≡◌, refl, ap, arith, IsTrue, is_some, if◌then◌else◌, codes, ℕ, zero, suc, pos, List, [], ◌∷◌, ◌++◌, Option, Some, None, Bool}
use Rattle.effect_meaning.specs.Terms.{AndTerm, AndType, Applied, Const, EffectRow, FieldRow, HandlerTypes, Integer, Literal, NoTypes, Place, Program, Term, Terms, UnitConst, Written}
use Rattle.effect_meaning.specs.Builtins.{HasBuiltins, builtin_exceptions, builtin_types, builtin_variants, effect_type}
use Rattle.effect_meaning.specs.Config.{Config, End}
use Rattle.effect_meaning.specs.Focus.{given_or}
use Rattle.effect_meaning.specs.Evaluation.{two}
use Rattle.effect_meaning.specs.Step.{step}
use Rattle.effect_meaning.specs.Run.{Behaves, Run, run, start}
use Rattle.effect_meaning.specs.Slots.{holds}

abbrev pub at : ℕ → ℕ → Place
at line column = record { line = line; column = column }

abbrev pub int : ℕ → Term
int n = Const (Integer (pos n))

abbrev pub nothing : Term
nothing = Const UnitConst

abbrev pub text : ℕ → Term
text i = Const (Literal i)

abbrev pub three : Term → Term → Term → Terms
three a b c = AndTerm a (two b c)

abbrev pub four : Term → Term → Term → Term → Terms
four a b c d = AndTerm a (three b c d)

-- a handler without written types, and one with (type a) and the type of effc's parameter
abbrev pub untyped : HandlerTypes
untyped = record { variable = None; effect = None }

abbrev pub typed : Option ℕ → Option Written → HandlerTypes
typed variable effect = record { variable = variable; effect = effect }

-- a program of the file m.ml without items
abbrev pub plain : Program
plain =
    record {
      file = codes "m.ml";
      literals = [];
      types = builtin_types;
      variants = builtin_variants;
      fields = [];
      exceptions = builtin_exceptions;
      effects = [];
      extended = [];
      declarations = 0;
      items = [];
    }

pub plain_has_builtins : HasBuiltins plain
plain_has_builtins = record { types = ([], refl); variants = ([], refl); exceptions = ([], refl) }

abbrev pub field : ℕ → ℕ → Bool → Written → FieldRow
field of_type index is_mutable type = record { of_type = of_type; index = index; is_mutable = is_mutable; type = type }

-- effect constructors of Effect.t
abbrev pub effect : Option Written → Written → EffectRow
effect argument result =
    record { argument = argument; result = Applied effect_type (AndType result NoTypes) }

-- the first of these domains that can step, and the configuration after its step
abbrev pub first_step : Program → Config → List ℕ → Option (ℕ × Config)
first_step p c [] = None
first_step p c (d ∷ ds) = elim (step p c d) [ Some next ↦ Some (d, next) | None ↦ first_step p c ds ]

-- the list in which each step is taken by the first of these domains that can step: for so many steps by the first order,
-- then by the next one
abbrev pub turns_of : List ℕ → ℕ → Program → Config → List ℕ × Config
turns_of order zero p c = ([], c)
turns_of order (suc most) p c =
    elim (first_step p c order) [ Some s ↦ (let rest = turns_of order most p s.1 in (s.0 ∷ rest.0, rest.1)) | None ↦ ([], c) ]

abbrev pub turns : List (List ℕ × ℕ) → Program → Config → List ℕ
turns [] p c = []
turns (o ∷ os) p c = let now = turns_of o.0 o.1 p c in now.0 ++ turns os p now.1

-- the output and the end of a run that is made so, with h slots
abbrev pub seen : Config → List ℕ × End
seen c = (c.output, c.end)

abbrev pub seen_by : Option Config → Option (List ℕ × End)
seen_by None = None
seen_by (Some c) = Some (seen c)

abbrev pub outcome : Program → ℕ → List (List ℕ × ℕ) → Option (List ℕ × End)
outcome p h orders = seen_by (run p h (turns orders p (start p h)))

seen_of : (p : Program) (h : ℕ) (ds : List ℕ) (output : List ℕ) (end : End) (o : Option Config)
    → run p h ds ≡ o → seen_by o ≡ Some (output, end) → Behaves p h output end
seen_of p h ds output end None r e = absurd (grind (arith, e))
seen_of p h ds output end (Some c) r e =
    let same : seen c ≡ (output, end) = grind (arith, e) in
    (record { list = ds; last = c; leads = r }, ap (λ s. s.0) same, ap (λ s. s.1) same)

-- the lowest domain first, and the highest first
abbrev pub lowest_first : List (List ℕ × ℕ)
lowest_first = (0 ∷ 1 ∷ 2 ∷ [], 20000) ∷ []

abbrev pub highest_first : List (List ℕ × ℕ)
highest_first = (2 ∷ 1 ∷ 0 ∷ [], 20000) ∷ []

-- what the outcome shows
pub behaves : (p : Program) (h : ℕ) (orders : List (List ℕ × ℕ)) (output : List ℕ) (end : End)
    → outcome p h orders ≡ Some (output, end) → Behaves p h output end
behaves p h orders output end e =
    seen_of p h (turns orders p (start p h)) output end (run p h (turns orders p (start p h))) refl e

-- a run by a list, and where it leads
abbrev pub last_of : Program → ℕ → List ℕ → Config
last_of p h ds = given_or (run p h ds) (λ c. c) (start p h)

pub leads_there : (o : Option Config) (c : Config) → IsTrue (is_some o) → o ≡ Some (given_or o (λ c. c) c)
leads_there None c e = absurd (grind (arith, e))
leads_there (Some d) c e = refl

abbrev pub run_by : (p : Program) (h : ℕ) (ds : List ℕ) → IsTrue (is_some (run p h ds)) → Run p h
run_by p h ds e = record { list = ds; last = last_of p h ds; leads = leads_there (run p h ds) (start p h) e }

-- domain 0 steps until this holds
abbrev pub until : (Config → Bool) → ℕ → Program → Config → List ℕ
until holds zero p c = []
until holds (suc most) p c = if holds c then [] else (elim (step p c 0) [ Some next ↦ 0 ∷ until holds most p next | None ↦ [] ])
