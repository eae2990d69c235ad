-- What contracts see of a typed program.
use Rattle.std.specs.Prelude.{List}
use Rattle.effect_meaning.specs.Arena.{Parts}
use Rattle.type_terms.specs.declared.base_type.BaseTy.{BaseTy}

-- the parts of a program, and the types of its comparisons in the order of the text
pub record TypedParts : Type 0 where
  pub core : Parts
  pub compared : List BaseTy
