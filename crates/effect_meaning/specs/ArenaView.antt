-- What contracts see of an arena.
use Rattle.effect_meaning.specs.declared.core_arena.CoreArena.TheInside.{Inside}
use Rattle.effect_meaning.specs.Arena.{Parts}

abbrev pub parts_of : Inside → Parts
parts_of a = record {
  file = a.file;
  literals = a.literals.items;
  types = a.types.items;
  patterns = a.patterns.items;
  terms = a.terms.items;
  type_rows = a.type_rows.items;
  variant_rows = a.variant_rows.items;
  field_rows = a.field_rows.items;
  exception_rows = a.exception_rows.items;
  effect_rows = a.effect_rows.items;
  items = a.items.items;
}
