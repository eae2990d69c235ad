-- Each item keeps the value items before it.
use Rattle.std.proofs.Common.{ℕ, List, [], ◌∷◌, length, Option, Some, None}
use Rattle.ml_syntax.specs.declared.prog.EffectDefinition.{EffectDefinition}
use Rattle.ml_syntax.specs.declared.prog.TypeBody.{TypeBody}
use Rattle.ml_syntax.specs.declared.prog.TypeBody.TheVariants as body
use Rattle.ml_syntax.specs.declared.prog.TypeDefinition.{TypeDefinition}
use Rattle.ml_syntax.specs.declared.prog.Item.{Item as ItemOf}
use Rattle.ml_syntax.specs.declared.prog.Item.TheVariants as item
use Rattle.ml_syntax.specs.declared.prog.Prog.{Prog}
use Rattle.effect_meaning.specs.Terms.{Item}
use Rattle.surface_meaning.specs.Visible.{type_named}
use Rattle.surface_meaning.specs.Meanings.{Site, Meaning}
use Rattle.surface_meaning.specs.Declarations.{Declarations, site_of, with_body, with_bodies}
use Rattle.surface_meaning.specs.Items.{row_of, with_effects_if, with_item, with_items}
use Rattle.surface_meaning.specs.CoreOf.{prelude_declared, program_behind}
use Rattle.surface_meaning.proofs.Begins.{Begins, whole, further}

body_keeps : (front : List Item) (ms : List Meaning) (n : ℕ) (w : Site) (b : TypeBody) (d : Declarations)
    → Begins front d.program.items → Begins front (with_body ms n w b d).program.items
body_keeps front ms n w (body.Variant cs) d h = h
body_keeps front ms n w (body.Record fs) d h = h

bodies_keep : (front : List Item) (ms : List Meaning) (ts : List TypeDefinition) (d : Declarations)
    → Begins front d.program.items → Begins front (with_bodies ms ts d).program.items
bodies_keep front ms [] d h = h
bodies_keep front ms (t ∷ ts) d h =
    bodies_keep front ms ts (with_body ms (length t.parameters) (site_of t) t.body d)
    (body_keeps front ms (length t.parameters) (site_of t) t.body d h)

effects_keep : (front : List Item) (ms : List Meaning) (t : Option ℕ) (es : List EffectDefinition) (d : Declarations)
    → Begins front d.program.items → Begins front (with_effects_if ms t es d).program.items
effects_keep front ms None es d h = h
effects_keep front ms (Some t) es d h = h

item_keeps : (front : List Item) (ms : List Meaning) (i : ItemOf) (d : Declarations)
    → Begins front d.program.items → Begins front (with_item ms i d).program.items
item_keeps front ms (item.Expression place a) d h = further front _ _ h
item_keeps front ms (item.Let place is_rec bs) d h = further front _ _ h
item_keeps front ms (item.Types place ts) d h = bodies_keep front ms ts _ h
item_keeps front ms (item.Effects place n es) d h = effects_keep front ms (row_of (type_named d.scope n)) es d h
item_keeps front ms (item.Exception place c) d h = h
item_keeps front ms (item.Open place n) d h = h

items_keep : (front : List Item) (ms : List Meaning) (is : List ItemOf) (d : Declarations)
    → Begins front d.program.items → Begins front (with_items ms is d).program.items
items_keep front ms [] d h = h
items_keep front ms (i ∷ is) d h = items_keep front ms is (with_item ms i d) (item_keeps front ms i d h)

pub prelude_first : (prelude prog : Prog) (file : List ℕ)
    → Begins (prelude_declared prelude prog file).program.items (program_behind prelude prog file).items
prelude_first prelude prog file = items_keep _ _ prog.items _ (whole (prelude_declared prelude prog file).program.items)
