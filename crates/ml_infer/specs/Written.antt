-- What written types are read as.
use Rattle.std.specs.Prelude.{ℕ, zero, suc, ◌+◌, nat_lt, min, Bool, false, ◌==◌, ◌||◌, List, [], ◌∷◌, ◌++◌, length, map, slice_get, Option, Some, None, if◌then◌else◌}
use Rattle.std.specs.List.{list_all}
use Rattle.fx_base.specs.declared.refusal.Place.{Place}
use Rattle.effect_meaning.specs.declared.core_nodes.TypeExpression.{TypeExpression}
use Rattle.effect_meaning.specs.declared.core_nodes.TypeExpression.TheVariants as type
use Rattle.effect_meaning.specs.declared.core_tables.TypeRow.{TypeRow}
use Rattle.effect_meaning.specs.Arena.{Parts}
use Rattle.type_graph.specs.Graph.{applied}
use Rattle.ml_infer.specs.declared.inference.End.TheVariants as ends
use Rattle.ml_infer.specs.declared.inference.Inference.{Inference}
use Rattle.ml_infer.specs.declared.inference.Read.{Read}
use Rattle.ml_infer.specs.declared.inference.KnownVariable.{KnownVariable}
use Rattle.ml_infer.specs.declared.written.Variables.{Variables}
use Rattle.ml_infer.specs.declared.written.Variables.TheVariants as variables
use Rattle.ml_infer.specs.declared.written.Visit.{Visit}
use Rattle.ml_infer.specs.declared.written.Visit.TheVariants as visit
use Rattle.ml_infer.specs.Known.{known, noted}
use Rattle.ml_infer.specs.Inference.{Gives, gives, equated, new_variable, refused, variable_noted}

-- what a written type was read as
abbrev pub found_of : List (Option Read) → ℕ → ℕ
found_of reads n = elim (known reads n) [ None ↦ 4 | Some r ↦ r.found ]

-- it was read, and no variable is in it
abbrev pub read_before : List (Option Read) → ℕ → Bool
read_before reads n = elim (known reads n) [ None ↦ false | Some r ↦ r.is_closed ]

-- from here on a written type is read as this one
abbrev pub noted_read : (n t : ℕ) → Bool → Inference → Inference
noted_read n t closed s = record s { read = noted n (record { found = t; is_closed = closed }) s.read }

-- the same of a type that is found
abbrev pub note_found : ℕ → Gives → Inference
note_found n g = noted_read n g.found false g.state

-- a type constructor takes so many arguments; the tuple takes any number
abbrev pub row_takes : Option TypeRow → (c count : ℕ) → Bool
row_takes None c count = false
row_takes (Some row) c count = (c == 16) || (length row.parameters == count)

abbrev pub takes : Parts → (c count : ℕ) → Bool
takes p c count = row_takes (slice_get p.type_rows c) c count

-- the type of a type variable of the item, if it is known
abbrev pub item_variable_of : Option KnownVariable → ℕ → Inference → Gives
item_variable_of None v s = let t = new_variable s in gives t.found (variable_noted v t.found t.state)
item_variable_of (Some k) v s =
    if k.item == s.item then gives k.found s
    else (let t = new_variable s in gives t.found (variable_noted v t.found t.state))

abbrev pub item_variable : ℕ → Inference → Gives
item_variable v s = item_variable_of (known s.variables v) v s

-- the type of a type variable
abbrev pub type_variable : Variables → ℕ → Inference → Gives
type_variable variables.OfItem v s = item_variable v s
type_variable (variables.Parameters first count) v s =
    if nat_lt v count then gives (min (first + v) 4294967295) s else new_variable s

-- what is still to be read, and the state behind a step
pub record Reading : Type 0 where
  pub visits : List Visit
  pub state : Inference

abbrev pub reading : List Visit → Inference → Reading
reading vs s = record { visits = vs; state = s }

-- a fault where it isn't so
abbrev pub refused_unless : Bool → Place → Inference → Inference
refused_unless is at s = if is then s else refused at s

-- a written type is begun with
abbrev pub entered_type : Option TypeExpression → Parts → Variables → Place → ℕ → List Visit → Inference → Reading
entered_type (Some (type.Variable v)) p vars at n vs s = reading vs (note_found n (type_variable vars v s))
entered_type (Some (type.Applied c ns)) p vars at n vs s =
    reading (map (λ a. visit.Enter a) ns ++ visit.Leave n ∷ vs) (refused_unless (takes p c (length ns)) at s)
entered_type _ p vars at n vs s = reading vs (note_found n (new_variable s))

-- unless it was read before, and no variable is in it
abbrev pub entered : Parts → Variables → Place → ℕ → List Visit → Inference → Reading
entered p vars at n vs s = if read_before s.read n then reading vs s else entered_type (slice_get p.types n) p vars at n vs s

-- a type constructor with its arguments, which all items share where no variable is in it
abbrev pub built : (n c : ℕ) → List ℕ → Bool → Inference → Inference
built n c ts closed s = noted_read n (length s.types.nodes) closed (record s { types = applied c ts closed s.types })

-- a written type is ended, whose arguments are read
abbrev pub left_type : Option TypeExpression → ℕ → Inference → Inference
left_type (Some (type.Applied c ns)) n s = built n c (map (found_of s.read) ns) (list_all (read_before s.read) ns) s
left_type _ n s = s

abbrev pub left : Parts → ℕ → Inference → Inference
left p n s = left_type (slice_get p.types n) n s

-- one step of reading
abbrev pub visited_one : Parts → Variables → Place → Visit → List Visit → Inference → Reading
visited_one p vars at (visit.Enter n) vs s = entered p vars at n vs s
visited_one p vars at (visit.Leave n) vs s = reading vs (left p n s)

-- all steps; the walk ends where it takes more than so many
unfoldable pub visited : (steps : ℕ) → Parts → Variables → Place → List Visit → Inference → Inference
visited steps p vars at [] s = s
visited zero p vars at (v ∷ vs) s = record s { end = Some ends.Stopped }
visited (suc steps) p vars at (v ∷ vs) s = let r = visited_one p vars at v vs s in visited steps p vars at r.visits r.state

-- the type that a written one stands for
abbrev pub written : Parts → ℕ → Variables → Place → Inference → Gives
written p n vars at s =
    let t = visited 18446744073709551615 p vars at (visit.Enter n ∷ []) s in gives (found_of t.read n) t

-- a type is the one that is written, if one is
abbrev pub annotated_if : Parts → Place → ℕ → Option ℕ → Inference → Inference
annotated_if p at t None s = s
annotated_if p at t (Some w) s = let u = written p w variables.OfItem at s in equated at t u.found u.state
