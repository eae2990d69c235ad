-- Each item keeps the rows with which the tables begin.
use Rattle.std.proofs.Common.{refl, ℕ, List, [], ◌∷◌, length, Option, Some, None}
use Rattle.ml_syntax.specs.declared.prog.EffectDefinition.{EffectDefinition}
use Rattle.ml_syntax.specs.declared.prog.TypeBody.{TypeBody}
use Rattle.ml_syntax.specs.declared.prog.TypeBody.TheVariants as body
use Rattle.ml_syntax.specs.declared.prog.TypeDefinition.{TypeDefinition}
use Rattle.ml_syntax.specs.declared.prog.Item.{Item}
use Rattle.ml_syntax.specs.declared.prog.Item.TheVariants as item
use Rattle.ml_syntax.specs.declared.prog.Prog.{Prog}
use Rattle.effect_meaning.specs.Builtins.{builtin_types, builtin_variants, builtin_exceptions, HasBuiltins}
use Rattle.surface_meaning.proofs.Begins.{further}
use Rattle.surface_meaning.specs.Visible.{type_named}
use Rattle.surface_meaning.specs.Meanings.{Site, Meaning}
use Rattle.surface_meaning.specs.Declarations.{Declarations, site_of, with_body, with_bodies}
use Rattle.surface_meaning.specs.Items.{row_of, with_effects_if, with_item, with_items}
use Rattle.surface_meaning.specs.CoreOf.{nothing_declared, prelude_declared, program_behind}

body_keeps : (ms : List Meaning) (n : ℕ) (w : Site) (b : TypeBody) (d : Declarations)
    → HasBuiltins d.program → HasBuiltins (with_body ms n w b d).program
body_keeps ms n w (body.Variant cs) d h = record {
  types = further builtin_types _ _ h.types;
  variants = further builtin_variants _ _ h.variants;
  exceptions = h.exceptions;
}
body_keeps ms n w (body.Record fs) d h = record {
  types = further builtin_types _ _ h.types;
  variants = h.variants;
  exceptions = h.exceptions;
}

bodies_keep : (ms : List Meaning) (ts : List TypeDefinition) (d : Declarations)
    → HasBuiltins d.program → HasBuiltins (with_bodies ms ts d).program
bodies_keep ms [] d h = h
bodies_keep ms (t ∷ ts) d h =
    bodies_keep ms ts (with_body ms (length t.parameters) (site_of t) t.body d)
    (body_keeps ms (length t.parameters) (site_of t) t.body d h)

same_rows : (ms : List Meaning) (t : Option ℕ) (es : List EffectDefinition) (d : Declarations)
    → HasBuiltins d.program → HasBuiltins (with_effects_if ms t es d).program
same_rows ms None es d h = h
same_rows ms (Some t) es d h = record { types = h.types; variants = h.variants; exceptions = h.exceptions }

item_keeps : (ms : List Meaning) (i : Item) (d : Declarations) → HasBuiltins d.program → HasBuiltins (with_item ms i d).program
item_keeps ms (item.Expression place a) d h = record { types = h.types; variants = h.variants; exceptions = h.exceptions }
item_keeps ms (item.Let place is_rec bs) d h = record { types = h.types; variants = h.variants; exceptions = h.exceptions }
item_keeps ms (item.Types place ts) d h =
    bodies_keep ms ts _ (record { types = h.types; variants = h.variants; exceptions = h.exceptions })
item_keeps ms (item.Effects place n es) d h = same_rows ms (row_of (type_named d.scope n)) es d h
item_keeps ms (item.Exception place c) d h = record {
  types = h.types;
  variants = h.variants;
  exceptions = further builtin_exceptions _ _ h.exceptions;
}
item_keeps ms (item.Open place n) d h = record { types = h.types; variants = h.variants; exceptions = h.exceptions }

items_keep : (ms : List Meaning) (is : List Item) (d : Declarations) → HasBuiltins d.program → HasBuiltins (with_items ms is d).program
items_keep ms [] d h = h
items_keep ms (i ∷ is) d h = items_keep ms is (with_item ms i d) (item_keeps ms i d h)

start_has : (file : List ℕ) (texts : List (List ℕ)) → HasBuiltins (nothing_declared file texts).program
start_has file texts = record { types = ([], refl); variants = ([], refl); exceptions = ([], refl) }

prelude_has : (prelude prog : Prog) (file : List ℕ) → HasBuiltins (prelude_declared prelude prog file).program
prelude_has prelude prog file = items_keep _ prelude.items _ (start_has file _)

pub program_has : (prelude prog : Prog) (file : List ℕ) → HasBuiltins (program_behind prelude prog file)
program_has prelude prog file = items_keep _ prog.items _ (prelude_has prelude prog file)
