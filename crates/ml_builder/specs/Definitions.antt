-- The definitions of types, exceptions and effects.
use Rattle.std.specs.Prelude.{ℕ, ◌-◌, true, false, List, ◌∷◌, drop, Option, Some, None}
use Rattle.ml_syntax.specs.declared.node.Name.{Name}
use Rattle.ml_syntax.specs.declared.prog.ConstructorDefinition.{ConstructorDefinition}
use Rattle.ml_syntax.specs.declared.prog.FieldDefinition.{FieldDefinition}
use Rattle.ml_syntax.specs.declared.prog.TypeBody.TheVariants as body
use Rattle.ml_syntax.specs.declared.prog.TypeDefinition.{TypeDefinition}
use Rattle.ml_syntax.specs.declared.prog.EffectDefinition.{EffectDefinition}
use Rattle.ml_builder.specs.declared.definitions.TypeHead.{TypeHead}
use Rattle.ml_builder.specs.declared.reduction.Rule.{Rule}
use Rattle.ml_builder.specs.declared.reduction.Rule.TheVariants as rule
use Rattle.ml_builder.specs.Stack.{top}

unfoldable pub made_constructor : Rule → List Name → List ℕ → List ConstructorDefinition → Option (List Name × List ℕ × List ConstructorDefinition)
made_constructor rule.PlainConstructor (x ∷ ws) ks cs = Some (ws, ks, record { name = x; argument = None } ∷ cs)
made_constructor rule.ConstructorOf (x ∷ ws) (t ∷ ks) cs = Some (ws, ks, record { name = x; argument = Some t } ∷ cs)
made_constructor _ _ _ _ = None

unfoldable pub made_field : Rule → List Name → List ℕ → List FieldDefinition → Option (List Name × List ℕ × List FieldDefinition)
made_field rule.FieldType (x ∷ ws) (t ∷ ks) fs = Some (ws, ks, record { is_mutable = false; name = x; annotation = t } ∷ fs)
made_field rule.MutableFieldType (x ∷ ws) (t ∷ ks) fs = Some (ws, ks, record { is_mutable = true; name = x; annotation = t } ∷ fs)
made_field _ _ _ _ = None

-- of so many words, the last of which is the name of the type
unfoldable pub made_head : ℕ → List Name → List TypeHead → Option (List Name × List TypeHead)
made_head c (x ∷ ws) hs = Some (drop (c - 1) ws, record { parameters = top (c - 1) ws; name = x } ∷ hs)
made_head _ _ _ = None

unfoldable pub made_variant_type : ℕ → List TypeHead → List ConstructorDefinition → List TypeDefinition → Option (List TypeHead × List ConstructorDefinition × List TypeDefinition)
made_variant_type c (h ∷ hs) cs ds = Some (hs, drop c cs, record { parameters = h.parameters; name = h.name; body = body.Variant (top c cs) } ∷ ds)
made_variant_type _ _ _ _ = None

unfoldable pub made_record_type : ℕ → List TypeHead → List FieldDefinition → List TypeDefinition → Option (List TypeHead × List FieldDefinition × List TypeDefinition)
made_record_type c (h ∷ hs) fs ds = Some (hs, drop c fs, record { parameters = h.parameters; name = h.name; body = body.Record (top c fs) } ∷ ds)
made_record_type _ _ _ _ = None

unfoldable pub made_effect : Rule → List Name → List ℕ → List EffectDefinition → Option (List Name × List ℕ × List EffectDefinition)
made_effect rule.PlainEffect (x ∷ ws) (t ∷ ks) es = Some (ws, ks, record { name = x; argument = None; result = t } ∷ es)
made_effect rule.EffectOf (x ∷ ws) (t ∷ a ∷ ks) es = Some (ws, ks, record { name = x; argument = Some a; result = t } ∷ es)
made_effect _ _ _ _ = None
