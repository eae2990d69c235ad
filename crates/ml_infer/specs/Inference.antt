-- The state of the walk over a program, and what is noted in it.
use Rattle.std.specs.Prelude.{ℕ, ◌+◌, nat_le, min, List, [], ◌∷◌, map, length, slice_get, Option, Some, None, if◌then◌else◌}
use Rattle.fx_base.specs.declared.refusal.Place.{Place}
use Rattle.effect_meaning.specs.Arena.{Parts}
use Rattle.type_graph.specs.Graph.{built_in, variable_added}
use Rattle.type_graph.specs.Unified.{Unified, unified}
use Rattle.type_graph.specs.Copied.{copied}
use Rattle.type_graph.specs.Outer.{item_ended}
use Rattle.ml_infer.specs.declared.inference.Inference.{Inference}
use Rattle.ml_infer.specs.declared.inference.KnownVariable.{KnownVariable}
use Rattle.ml_infer.specs.declared.inference.NameType.{NameType}
use Rattle.ml_infer.specs.declared.inference.NameType.TheVariants as name
use Rattle.ml_infer.specs.declared.inference.End.{End}
use Rattle.ml_infer.specs.declared.inference.End.TheVariants as ends
use Rattle.ml_infer.specs.Known.{known, noted, put}
use Rattle.ml_infer.specs.Members.{belonging}

-- a type that is found, and the state behind that
pub record Gives : Type 0 where
  pub found : ℕ
  pub state : Inference

abbrev pub gives : ℕ → Inference → Gives
gives t s = record { found = t; state = s }

-- what is found otherwise, and the state behind that
pub record With (A : Type 0) : Type 0 where
  pub value : A
  pub state : Inference

abbrev pub valued : {A : Type 0} → A → Inference → With A
valued a s = record { value = a; state = s }

-- the walk begins
abbrev pub begun : Parts → ℕ → Inference
begun p most = record {
  types = built_in;
  variants = belonging 0 (map (λ r. r.of_type) p.variant_rows);
  fields = belonging 0 (map (λ r. r.of_type) p.field_rows);
  read = [];
  item = 0;
  variables = [];
  names = [];
  bound = [];
  pattern = 0;
  given = [];
  naming = [];
  records = 0;
  comparisons = [];
  definitions = [];
  tasks = [];
  equations = 0;
  most = most;
  last = record { line = 1; column = 1 };
  end = None;
}

-- the walk ends, unless it has ended
abbrev pub ended_first : Option End → End → Option End
ended_first None e = Some e
ended_first (Some old) e = Some old

-- a fault of types at this place
abbrev pub refused : Place → Inference → Inference
refused at s = record s { end = ended_first s.end (ends.Fault at) }

-- an equation at this place was taken, or its types clash
abbrev pub taken_equation : Place → Unified → Inference → Inference
taken_equation at u s =
    if u.fits then record s { types = u.types; equations = min (s.equations + 1) 18446744073709551615; last = at }
    else record s { types = u.types; end = Some (ends.Fault at) }

-- the equation of two types, which stands at this place, as long as the walk goes on
abbrev pub equated_while : Option End → Place → (a b : ℕ) → Inference → Inference
equated_while (Some e) at a b s = s
equated_while None at a b s =
    if nat_le s.most s.equations then record s { end = Some ends.Stopped }
    else taken_equation at (unified 18446744073709551615 ((a, b) ∷ []) s.types) s

abbrev pub equated : Place → (a b : ℕ) → Inference → Inference
equated at a b s = equated_while s.end at a b s

-- a new type of which nothing is known
abbrev pub new_variable : Inference → Gives
new_variable s = gives (length s.types.nodes) (record s { types = variable_added s.types })

-- a type is given to the form round the one at hand
abbrev pub given_back : ℕ → Inference → Inference
given_back t s = record s { given = t ∷ s.given }

-- the type that was given last is taken
abbrev pub taken_from : List ℕ → Inference → Gives
taken_from [] s = new_variable s
taken_from (t ∷ ts) s = gives t (record s { given = ts })

abbrev pub taken : Inference → Gives
taken s = taken_from s.given s

-- where a term stands
abbrev pub term_place : Parts → ℕ → Inference → Place
term_place p n s = elim (slice_get p.terms n) [ None ↦ s.last | Some node ↦ node.place ]

-- where a pattern stands
abbrev pub pattern_place : Parts → ℕ → Inference → Place
pattern_place p n s = elim (slice_get p.patterns n) [ None ↦ s.last | Some node ↦ node.place ]

-- from here on this is known of a name
abbrev pub name_noted : ℕ → NameType → Inference → Inference
name_noted x k s = record s { names = noted x k s.names }

-- from here on a name has this one type
abbrev pub of_one_type : (x t : ℕ) → Inference → Inference
of_one_type x t s = name_noted x (name.One t s.pattern) s

-- a new name, of a type of which nothing is known yet
abbrev pub new_name : ℕ → Inference → Gives
new_name x s = let v = new_variable s in gives v.found (of_one_type x v.found v.state)

-- a copy of the type of a generalised name, which shares what the item gave to outer variables so far
abbrev pub copied_type : ℕ → Inference → Gives
copied_type t s = let c = copied t (item_ended s.types) in gives c.copy (record s { types = c.types })

-- the type of a use of a name: its own, or a copy
abbrev pub type_of_known : Option NameType → ℕ → Inference → Gives
type_of_known None x s = new_name x s
type_of_known (Some (name.One t q)) x s = gives t s
type_of_known (Some (name.Generalised t)) x s = copied_type t s

abbrev pub type_of_name : ℕ → Inference → Gives
type_of_name x s = type_of_known (known s.names x) x s

-- the type of a name that isn't generalised
abbrev pub one_of_known : Option NameType → ℕ → Inference → Gives
one_of_known (Some (name.One t q)) x s = gives t s
one_of_known _ x s = new_name x s

abbrev pub one_type : ℕ → Inference → Gives
one_type x s = one_of_known (known s.names x) x s

-- from here on a type variable of the item stands for this type
abbrev pub variable_noted : (v t : ℕ) → Inference → Inference
variable_noted v t s = record s { variables = noted v (record { item = s.item; found = t }) s.variables }

-- from here on a type variable stands for what it stood for before
abbrev pub variable_was : ℕ → Option KnownVariable → Inference → Inference
variable_was v k s = record s { variables = put v k s.variables }
