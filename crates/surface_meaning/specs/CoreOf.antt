-- What a program means in Core behind the prelude: its Core, or the first breach of the rules on names in text order.
use Rattle.std.specs.Prelude.{ℕ, ◌+◌, Bool, nat_lt, ◌==◌, ◌&&◌, ◌||◌, List, [], ◌∷◌, ◌++◌, map, flat_map, length, Option, Some, None, Result, Ok, Err, if◌then◌else◌}
use Rattle.fx_base.specs.declared.refusal.Place.{Place}
use Rattle.ml_syntax.specs.declared.node.Node.{Node}
use Rattle.ml_syntax.specs.declared.prog.Prog.{Prog}
use Rattle.effect_meaning.specs.Terms.{Program}
use Rattle.effect_meaning.specs.Builtins.{builtin_types, builtin_variants, builtin_exceptions}
use Rattle.effect_meaning.specs.ArenaTrees.{trees}
use Rattle.surface_meaning.specs.Visible.{first_scope, behind_prelude}
use Rattle.surface_meaning.specs.Meanings.{Meaning}
use Rattle.surface_meaning.specs.Types.{written_of, type_breaches_of}
use Rattle.surface_meaning.specs.Patterns.{strings_of, binders_of, pattern_of, pattern_breaches_of}
use Rattle.surface_meaning.specs.Expressions.{term_of}
use Rattle.surface_meaning.specs.Breaches.{term_breaches_of}
use Rattle.surface_meaning.specs.Declarations.{Declarations}
use Rattle.surface_meaning.specs.Items.{with_items, items_breaches}

-- the texts of the string literals of nodes, in order
abbrev pub literals : List Node → List (List ℕ)
literals ns = flat_map strings_of ns

-- what a node means, by those before it. Other nodes stand before its program's, and these are their string literals
abbrev pub meaning_of : List Node → List Meaning → Node → Meaning
meaning_of before ms n =
    let i = length before + length ms in let l = length (literals (before ++ map (λ m. m.node) ms)) in record {
      node = n;
      number = i;
      written = written_of ms i n;
      type_breaches = type_breaches_of ms n;
      pattern = pattern_of ms i l n;
      binders = binders_of ms i n;
      pattern_breaches = pattern_breaches_of ms n;
      term = term_of ms i l n;
      term_breaches = term_breaches_of ms i n;
    }

-- what the nodes of a program mean, one after another, behind the nodes of others
abbrev pub meanings : List Node → List Node → List Meaning
meanings before ns = trees (meaning_of before) [] ns

-- nothing but what is built in
abbrev pub nothing_declared : List ℕ → List (List ℕ) → Declarations
nothing_declared file texts = record {
  scope = first_scope;
  program = record {
    file = file;
    literals = texts;
    types = builtin_types;
    variants = builtin_variants;
    fields = [];
    exceptions = builtin_exceptions;
    effects = [];
    extended = [];
    declarations = 0;
    items = [];
  };
}

-- what is declared behind the prelude, whose own names are then reached through modules alone
abbrev pub prelude_declared : Prog → Prog → List ℕ → Declarations
prelude_declared prelude prog file =
    let d = with_items (meanings [] prelude.nodes) prelude.items (nothing_declared file (literals (prelude.nodes ++ prog.nodes)))
    in record { scope = behind_prelude d.scope; program = d.program }

-- the program in Core, the prelude's items first. Its names mean something only where there is no breach
abbrev pub program_behind : Prog → Prog → List ℕ → Program
program_behind prelude prog file =
    (with_items (meanings prelude.nodes prog.nodes) prog.items (prelude_declared prelude prog file)).program

-- the breaches of the rules on names in a program
abbrev pub breaches : Prog → Prog → List ℕ → List Place
breaches prelude prog file =
    items_breaches (meanings prelude.nodes prog.nodes) prog.items (prelude_declared prelude prog file)

-- a place stands before another one in the text
abbrev pub is_earlier : Place → Place → Bool
is_earlier p q = nat_lt p.line q.line || ((p.line == q.line) && nat_lt p.column q.column)

-- the earliest of a place and others
abbrev pub earliest : Place → List Place → Place
earliest p [] = p
earliest p (q ∷ qs) = earliest (if is_earlier q p then q else p) qs

-- the first breach in text order, if there is one
abbrev pub first_breach : List Place → Option Place
first_breach [] = None
first_breach (p ∷ ps) = Some (earliest p ps)

-- the program, unless there is a breach
abbrev pub unless : Option Place → Program → Result Program Place
unless None p = Ok p
unless (Some place) p = Err place

-- what a program means behind the prelude, with the text of its file: its Core, or the place of the first breach
abbrev pub core_of : Prog → Prog → List ℕ → Result Program Place
core_of prelude prog file = unless (first_breach (breaches prelude prog file)) (program_behind prelude prog file)
