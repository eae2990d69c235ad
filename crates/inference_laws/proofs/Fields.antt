-- States with another field.
use Rattle.std.proofs.Common.{◌≡◌, ℕ, suc, ◌+◌, ◌≤◌, ◌<◌, List, [], ◌∷◌, length, Option, Some, None, Bool, true, false, arith, ⊎_elim, refl, sym, ◌∙◌, subst}
use Rattle.std.proofs.lemmas.Bool.Decides.{eqb_tells}
use Rattle.std.specs.List.{AllByRecursion}
use Rattle.fx_base.specs.declared.refusal.Place.{Place}
use Rattle.type_terms.specs.TypeTrees.{Ty}
use Rattle.type_readings.specs.Readings.{Reads}
use Rattle.type_graph.specs.Graph.{Graph}
use Rattle.type_readings.specs.OuterLaws.{IsFixed, FixedStays, OuterStays}
use Rattle.ml_infer.specs.declared.inference.Compared.{Compared}
use Rattle.ml_infer.specs.declared.inference.End.{End}
use Rattle.ml_infer.specs.declared.inference.End.TheVariants as ends
use Rattle.ml_infer.specs.declared.inference.Inference.{Inference}
use Rattle.ml_infer.specs.declared.inference.KnownVariable.{KnownVariable}
use Rattle.ml_infer.specs.declared.inference.NameType.{NameType}
use Rattle.ml_infer.specs.declared.inference.NameType.TheVariants.{One}
use Rattle.ml_infer.specs.declared.tasks.Task.{Task}
use Rattle.ml_infer.specs.Inference.{ended_first, given_back, name_noted, refused, variable_noted, variable_was}
use Rattle.ml_infer.specs.Items.{definition_noted}
use Rattle.ml_infer.specs.Known.{known, noted}
use Rattle.ml_infer.specs.Tasks.{first, first_one}
use Rattle.ml_infer.specs.Written.{noted_read, refused_unless}
use Rattle.inference_laws.specs.Whole.{HasRoom, IfKnown, NameIsThere, TaskIsThere, ReadIsThere, TypesAreWhole, IsWhole}
use Rattle.inference_laws.proofs.Each.{each_appended, known_noted, known_put}
use Rattle.inference_laws.proofs.Noting.{noted_other, noted_same}
use Rattle.inference_laws.proofs.Kept.{IsOfPattern, NamesAreNumbered, Kept, Roomy, Has, HasAll, tables_up, all_up}

-- what changes in no number keeps a state whole: record expressions, the item, how many equations were taken
pub counted_kept : (s0 s : Inference) (records equations item : ℕ) (naming : List (Option ℕ)) (at : Place) → Kept s0 s
    → Kept s0 (record s { records = records; equations = equations; item = item; naming = naming; last = at })
counted_kept s0 s records equations item naming at kept = record {
  types = kept.types;
  arguments = kept.arguments;
  first = kept.first;
  ended = kept.ended;
  reads = kept.reads;
  outer = kept.outer;
  counted = kept.counted;
  numbered = kept.numbered;
  whole = λ room. let k = kept.whole room in record { types = k.types; tables = k.tables; numbers = k.numbers };
}

-- a type is given
pub given_kept : (s0 s : Inference) (t : ℕ) → Kept s0 s → Has s t → Kept s0 (given_back t s)
given_kept s0 s t kept has = record {
  types = kept.types;
  arguments = kept.arguments;
  first = kept.first;
  ended = kept.ended;
  reads = kept.reads;
  outer = kept.outer;
  counted = kept.counted;
  numbered = kept.numbered;
  whole = λ room. let k = kept.whole room in record {
    types = k.types;
    tables = k.tables;
    numbers = record {
      bound_there = k.numbers.bound_there;
      bound_few = k.numbers.bound_few;
      given_there = (has room, k.numbers.given_there);
      definitions_there = k.numbers.definitions_there;
      comparisons_there = k.numbers.comparisons_there;
      tasks_there = k.numbers.tasks_there;
    };
  };
}

-- other types are given
pub ungiven_kept : (s0 s : Inference) (ts : List ℕ) → Kept s0 s → HasAll s ts → Kept s0 (record s { given = ts })
ungiven_kept s0 s ts kept has = record {
  types = kept.types;
  arguments = kept.arguments;
  first = kept.first;
  ended = kept.ended;
  reads = kept.reads;
  outer = kept.outer;
  counted = kept.counted;
  numbered = kept.numbered;
  whole = λ room. let k = kept.whole room in record {
    types = k.types;
    tables = k.tables;
    numbers = record {
      bound_there = k.numbers.bound_there;
      bound_few = k.numbers.bound_few;
      given_there = has room;
      definitions_there = k.numbers.definitions_there;
      comparisons_there = k.numbers.comparisons_there;
      tasks_there = k.numbers.tasks_there;
    };
  };
}

-- a name is of a pattern with this number or an earlier one
below_noted :
    (s : Inference) (x : ℕ) (n : NameType) → NamesAreNumbered s → IsOfPattern s.pattern n → NamesAreNumbered (name_noted x n s)
below_noted s x n below low y v q is =
    ⊎_elim
    (λ e.
    let same : n ≡ One v q = some_same n (One v q)
    (sym (noted_same x n s.names) ∙ subst (λ z. known (noted x n s.names) z ≡ Some (One v q)) e.1 is) in
    subst (IsOfPattern s.pattern) same low)
    (λ e. below y v q (sym (noted_other x y n s.names e.1) ∙ is))
    (eqb_tells y x)
  where
    some_same : (a b : NameType) → Some a ≡ Some b → a ≡ b
    some_same a b e = cc

-- a further pattern is at hand
pub pattern_next : (s0 s : Inference) → Kept s0 s → Kept s0 (record s { pattern = s.pattern + 1 })
pattern_next s0 s kept = record {
  types = kept.types;
  arguments = kept.arguments;
  first = kept.first;
  ended = kept.ended;
  reads = kept.reads;
  outer = kept.outer;
  counted = kept.counted;
  numbered = λ h y v q is. let low = kept.numbered h y v q is in omega arith;
  whole = λ room. let k = kept.whole room in record { types = k.types; tables = k.tables; numbers = k.numbers };
}

-- something is known of a name
pub name_kept : (s0 s : Inference) (x : ℕ) (n : NameType) → Kept s0 s → Roomy s (λ types. NameIsThere types n)
    → IsOfPattern s.pattern n → Kept s0 (name_noted x n s)
name_kept s0 s x n kept has low = record {
  types = kept.types;
  arguments = kept.arguments;
  first = kept.first;
  ended = kept.ended;
  reads = kept.reads;
  outer = kept.outer;
  counted = kept.counted;
  numbered = λ h. below_noted s x n (kept.numbered h) low;
  whole = λ room. let k = kept.whole room in record {
    types = k.types;
    tables = record {
      read_there = k.tables.read_there;
      variables_there = k.tables.variables_there;
      names_there = known_noted (NameIsThere (length s.types.nodes)) x n s.names k.tables.names_there (has room);
    };
    numbers = k.numbers;
  };
}

-- a type variable of the item is known
pub variable_kept : (s0 s : Inference) (v t : ℕ) → Kept s0 s → Has s t → Kept s0 (variable_noted v t s)
variable_kept s0 s v t kept has = record {
  types = kept.types;
  arguments = kept.arguments;
  first = kept.first;
  ended = kept.ended;
  reads = kept.reads;
  outer = kept.outer;
  counted = kept.counted;
  numbered = kept.numbered;
  whole = λ room. let k = kept.whole room in record {
    types = k.types;
    tables = record {
      read_there = k.tables.read_there;
      variables_there = known_noted (λ x. x.found < length s.types.nodes) v (record {
        item = s.item;
        found = t;
      }) s.variables k.tables.variables_there (has room);
      names_there = k.tables.names_there;
    };
    numbers = k.numbers;
  };
}

-- a type variable stands for what it stood for before
pub variable_was_kept : (s0 s : Inference) (v : ℕ) (k : Option KnownVariable) → Kept s0 s
    → Roomy s (λ types. IfKnown (λ x. x.found < types) k) → Kept s0 (variable_was v k s)
variable_was_kept s0 s v o kept has = record {
  types = kept.types;
  arguments = kept.arguments;
  first = kept.first;
  ended = kept.ended;
  reads = kept.reads;
  outer = kept.outer;
  counted = kept.counted;
  numbered = kept.numbered;
  whole = λ room. let k = kept.whole room in record {
    types = k.types;
    tables = record {
      read_there = k.tables.read_there;
      variables_there = known_put (λ x. x.found < length s.types.nodes) v o s.variables k.tables.variables_there (has room);
      names_there = k.tables.names_there;
    };
    numbers = k.numbers;
  };
}

-- a written type is read
pub read_kept : (s0 s : Inference) (n t : ℕ) (closed : Bool) → Kept s0 s → Has s t
    → (HasRoom s.types → closed ≡ true → IsFixed s.types t) → Kept s0 (noted_read n t closed s)
read_kept s0 s n t closed kept has fixed = record {
  types = kept.types;
  arguments = kept.arguments;
  first = kept.first;
  ended = kept.ended;
  reads = kept.reads;
  outer = kept.outer;
  counted = kept.counted;
  numbered = kept.numbered;
  whole = λ room. let k = kept.whole room in record {
    types = k.types;
    tables = record {
      read_there = known_noted (ReadIsThere s.types) n (record {
        found = t;
        is_closed = closed;
      }) s.read k.tables.read_there (has room, fixed room);
      variables_there = k.tables.variables_there;
      names_there = k.tables.names_there;
    };
    numbers = k.numbers;
  };
}

-- tasks come first
pub first_kept :
    (s0 s : Inference) (ts : List Task) → Kept s0 s → Roomy s (λ types. AllByRecursion (TaskIsThere types) ts)
    → Kept s0 (first ts s)
first_kept s0 s ts kept has = record {
  types = kept.types;
  arguments = kept.arguments;
  first = kept.first;
  ended = kept.ended;
  reads = kept.reads;
  outer = kept.outer;
  counted = kept.counted;
  numbered = kept.numbered;
  whole = λ room. let k = kept.whole room in record {
    types = k.types;
    tables = k.tables;
    numbers = record {
      bound_there = k.numbers.bound_there;
      bound_few = k.numbers.bound_few;
      given_there = k.numbers.given_there;
      definitions_there = k.numbers.definitions_there;
      comparisons_there = k.numbers.comparisons_there;
      tasks_there = each_appended (TaskIsThere (length s.types.nodes)) ts s.tasks (has room) k.numbers.tasks_there;
    };
  };
}

-- other tasks are left
pub left_kept :
    (s0 s : Inference) (ts : List Task) → Kept s0 s → Roomy s (λ types. AllByRecursion (TaskIsThere types) ts)
    → Kept s0 (record s { tasks = ts })
left_kept s0 s ts kept has = record {
  types = kept.types;
  arguments = kept.arguments;
  first = kept.first;
  ended = kept.ended;
  reads = kept.reads;
  outer = kept.outer;
  counted = kept.counted;
  numbered = kept.numbered;
  whole = λ room. let k = kept.whole room in record {
    types = k.types;
    tables = k.tables;
    numbers = record {
      bound_there = k.numbers.bound_there;
      bound_few = k.numbers.bound_few;
      given_there = k.numbers.given_there;
      definitions_there = k.numbers.definitions_there;
      comparisons_there = k.numbers.comparisons_there;
      tasks_there = has room;
    };
  };
}

-- the pattern at hand binds a name
pub bound_kept : (s0 s : Inference) (t : ℕ) → Kept s0 s → Has s t → Roomy s (λ types. suc (length s.bound) + 6 ≤ types)
    → Kept s0 (record s { bound = t ∷ s.bound })
bound_kept s0 s t kept has few = record {
  types = kept.types;
  arguments = kept.arguments;
  first = kept.first;
  ended = kept.ended;
  reads = kept.reads;
  outer = kept.outer;
  counted = kept.counted;
  numbered = kept.numbered;
  whole = λ room. let k = kept.whole room in record {
    types = k.types;
    tables = k.tables;
    numbers = record {
      bound_there = (has room, k.numbers.bound_there);
      bound_few = (let few_now = few room in omega arith);
      given_there = k.numbers.given_there;
      definitions_there = k.numbers.definitions_there;
      comparisons_there = k.numbers.comparisons_there;
      tasks_there = k.numbers.tasks_there;
    };
  };
}

-- none yet
pub unbound_kept : (s0 s : Inference) → Kept s0 s → Kept s0 (record s { bound = [] })
unbound_kept s0 s kept = record {
  types = kept.types;
  arguments = kept.arguments;
  first = kept.first;
  ended = kept.ended;
  reads = kept.reads;
  outer = kept.outer;
  counted = kept.counted;
  numbered = kept.numbered;
  whole = λ room. let k = kept.whole room in record {
    types = k.types;
    tables = k.tables;
    numbers = record {
      bound_there = tt;
      bound_few = k.types.built_in;
      given_there = k.numbers.given_there;
      definitions_there = k.numbers.definitions_there;
      comparisons_there = k.numbers.comparisons_there;
      tasks_there = k.numbers.tasks_there;
    };
  };
}

-- a comparison is noted
pub comparison_kept :
    (s0 s : Inference) (c : Compared) → Kept s0 s → Has s c.found → Kept s0 (record s { comparisons = c ∷ s.comparisons })
comparison_kept s0 s c kept has = record {
  types = kept.types;
  arguments = kept.arguments;
  first = kept.first;
  ended = kept.ended;
  reads = kept.reads;
  outer = kept.outer;
  counted = kept.counted;
  numbered = kept.numbered;
  whole = λ room. let k = kept.whole room in record {
    types = k.types;
    tables = k.tables;
    numbers = record {
      bound_there = k.numbers.bound_there;
      bound_few = k.numbers.bound_few;
      given_there = k.numbers.given_there;
      definitions_there = k.numbers.definitions_there;
      comparisons_there = (has room, k.numbers.comparisons_there);
      tasks_there = k.numbers.tasks_there;
    };
  };
}

-- the type of a definition is noted
pub definition_kept : (s0 s : Inference) (t : ℕ) → Kept s0 s → Has s t → Kept s0 (definition_noted t s)
definition_kept s0 s t kept has = record {
  types = kept.types;
  arguments = kept.arguments;
  first = kept.first;
  ended = kept.ended;
  reads = kept.reads;
  outer = kept.outer;
  counted = kept.counted;
  numbered = kept.numbered;
  whole = λ room. let k = kept.whole room in record {
    types = k.types;
    tables = k.tables;
    numbers = record {
      bound_there = k.numbers.bound_there;
      bound_few = k.numbers.bound_few;
      given_there = k.numbers.given_there;
      definitions_there = (has room, k.numbers.definitions_there);
      comparisons_there = k.numbers.comparisons_there;
      tasks_there = k.numbers.tasks_there;
    };
  };
}

-- one task comes first
pub first_one_kept : (s0 s : Inference) (t : Task) → Kept s0 s → Roomy s (λ types. TaskIsThere types t) → Kept s0 (first_one t s)
first_one_kept s0 s t kept has = first_kept s0 s (t ∷ []) kept (λ room. (has room, tt))

-- a walk that is to end goes on no more
not_on : (o : Option End) (e : End) → ended_first o e ≡ None → ⊥
not_on None e h = absurd (cc)
not_on (Some old) e h = absurd (cc)

-- where it goes on behind a refusal, the test held
pub goes_on : (is : Bool) (at : Place) (s : Inference) → (refused_unless is at s).end ≡ None → is ≡ true
goes_on true at s on = refl
goes_on false at s on = absurd (not_on s.end (ends.Fault at) on)

-- a fault ends the walk
pub refused_kept : (s0 s : Inference) (at : Place) → Kept s0 s → Kept s0 (refused at s)
refused_kept s0 s at kept = record {
  types = kept.types;
  arguments = kept.arguments;
  first = kept.first;
  ended = λ e. absurd (not_on s.end (ends.Fault at) e);
  reads = λ room e. absurd (not_on s.end (ends.Fault at) e);
  outer = λ room e. absurd (not_on s.end (ends.Fault at) e);
  counted = kept.counted;
  numbered = kept.numbered;
  whole =
      λ room.
      let k = kept.whole room in
      record {
        types = record { well = k.types.well; giving = λ e. absurd (not_on s.end (ends.Fault at) e); built_in = k.types.built_in };
        tables = k.tables;
        numbers = k.numbers;
      };
}

-- a walk stops
pub stopped_kept : (s0 s : Inference) → Kept s0 s → Kept s0 (record s { end = Some ends.Stopped })
stopped_kept s0 s kept = record {
  types = kept.types;
  arguments = kept.arguments;
  first = kept.first;
  ended = λ e. absurd (cc);
  reads = λ room e. absurd (cc);
  outer = λ room e. absurd (cc);
  counted = kept.counted;
  numbered = kept.numbered;
  whole =
      λ room.
      let k = kept.whole room in
      record {
        types = record { well = k.types.well; giving = λ e. absurd (cc); built_in = k.types.built_in };
        tables = k.tables;
        numbers = k.numbers;
      };
}

pub refused_unless_kept : (s0 s : Inference) (is : Bool) (at : Place) → Kept s0 s → Kept s0 (refused_unless is at s)
refused_unless_kept s0 s true at kept = kept
refused_unless_kept s0 s false at kept = refused_kept s0 s at kept

-- from these types to later ones what reads the later ones reads the others, and what is outer or given stays so
pub record Later (g h : Graph) : Type 0 where
  pub reads : (f : ℕ → Ty) → Reads f h → Reads f g
  pub outer : OuterStays g h

-- other types are known
pub types_kept :
    (s0 s : Inference) (h : Graph) (e : Option End) → Kept s0 s → length s.types.nodes ≤ length h.nodes
    → length s.types.arguments ≤ length h.arguments → (HasRoom h → IsWhole s → TypesAreWhole h e)
    → (HasRoom h → IsWhole s → FixedStays s.types h) → (e ≡ None → s.end ≡ None)
    → (HasRoom h → IsWhole s → e ≡ None → Later s.types h)
    → Kept s0 (record s { types = h; end = e })
types_kept s0 s h e kept more further whole fixed ended later =
    let a = kept.types in
    let b = kept.arguments in
    let first = kept.first in
    let before : HasRoom h → HasRoom s.types = λ room.
    let c = room.types in let d = room.arguments in record { types = omega arith; arguments = omega arith } in
    record {
      types = omega arith;
      arguments = omega arith;
      first = omega arith;
      ended = λ n. kept.ended (ended n);
      reads = λ room n f is. kept.reads (before room) (ended n) f ((later room (kept.whole (before room)) n).reads f is);
      outer =
          λ room n m low is.
          (later room (kept.whole (before room)) n).outer m (omega arith) (kept.outer (before room) (ended n) m low is);
      counted = kept.counted;
      numbered = kept.numbered;
      whole =
          λ room.
          let k = kept.whole (before room) in
          record {
            types = whole room k;
            tables = tables_up s.types h more (fixed room k) s.read s.variables s.names k.tables;
            numbers =
                all_up (length s.types.nodes) (length h.nodes) more s.bound s.given s.definitions s.comparisons s.tasks k.numbers;
          };
    }
