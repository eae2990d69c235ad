-- The four functions that take a handler, and handlers. OCaml manual, modules Effect.Deep and Effect.Shallow.
use Rattle.std.specs.Prelude.{ℕ, List, [], ◌∷◌, Option, Some, None, option_map, unwrap_or, codes, if◌then◌else◌}
use Rattle.ml_syntax.specs.declared.node.NamedPart.{NamedPart}
use Rattle.ml_syntax.specs.declared.node.EffectRule.{EffectRule}
use Rattle.ml_syntax.specs.declared.node.Node.{Node}
use Rattle.ml_syntax.specs.declared.node.Node.TheVariants as node
use Rattle.effect_meaning.specs.Terms.{Kind, Deep, ShallowContinue, ShallowDiscontinue, HandlerTypes, Term, Fun, Handle, EffectClauses, NoEffects}
use Rattle.effect_meaning.specs.Scoped.{same_text}
use Rattle.surface_meaning.specs.Scope.{OfHandler, Scope}
use Rattle.surface_meaning.specs.Visible.{with_type}
use Rattle.surface_meaning.specs.Meanings.{Meaning, part, node_at, term_at, new_name}
use Rattle.surface_meaning.specs.Functions.{written_if}
use Rattle.surface_meaning.specs.Matches.{annotation_of, and_effect, identity, raise, no_types, four}

-- which handler a function takes
abbrev pub kind_of : List ℕ → Kind
kind_of t =
    if same_text t (codes "continue_with") then ShallowContinue
    else (if same_text t (codes "discontinue_with") then ShallowDiscontinue else Deep)

-- the fields of a handler
abbrev pub fields_of : Node → List NamedPart
fields_of (node.Handler place fs) = fs
fields_of _ = []

-- what the field of this name is
abbrev pub field_named : List ℕ → List NamedPart → Option ℕ
field_named t [] = None
field_named t (f ∷ fs) = if same_text f.name.text t then Some f.part else field_named t fs

-- the name of a (type a) is a type in its effc: the type variable of this number
abbrev pub effc_scope : Node → ℕ → Scope → Scope
effc_scope (node.EffectFunction place (Some x) p c) i s = with_type x.text (OfHandler i) s
effc_scope _ i s = s

-- the types that effc gives
abbrev pub effc_types : List Meaning → Node → ℕ → Scope → HandlerTypes
effc_types ms (node.EffectFunction place x p c) i s = record {
  variable = option_map (λ y. i) x;
  effect = written_if ms (annotation_of (node_at ms p)) (effc_scope (node.EffectFunction place x p c) i s);
}
effc_types ms _ i s = no_types

-- the rules of effc, which stand in its cases
abbrev pub rules_of : Node → List EffectRule
rules_of (node.EffectCases place x rs o) = rs
rules_of _ = []

-- the rules of an effc of either form
abbrev pub effc_rules : List Meaning → Node → List EffectRule
effc_rules ms (node.EffectFunction place x p c) = rules_of (node_at ms c)
effc_rules ms n = rules_of n

-- q -> Some (fun k -> a), before other rules
abbrev pub and_rule : List Meaning → Scope → ℕ → Node → EffectClauses → EffectClauses
and_rule ms s q (node.Resumption place k a) more = and_effect ms s q k a more
and_rule ms s q _ more = more

-- the rules as clauses of effects
abbrev pub rule_clauses : List Meaning → Scope → List EffectRule → EffectClauses
rule_clauses ms s [] = NoEffects
rule_clauses ms s (r ∷ rs) = and_rule ms s r.pattern (node_at ms r.answer) (rule_clauses ms s rs)

-- a field of a handler, or what stands for it where it is absent
abbrev pub field_or : List Meaning → Scope → List NamedPart → List ℕ → Term → Term
field_or ms s fs t other = unwrap_or (option_map (λ i. term_at ms i s) (field_named t fs)) other

-- the effc of a handler
abbrev pub effc_of : List Meaning → ℕ → Meaning
effc_of ms h = part ms (unwrap_or (field_named (codes "effc") (fields_of (node_at ms h))) h)

-- match_with f a handler, and likewise the three others. Without retc a value stays, without exnc an exception is raised again
abbrev pub handle : List Meaning → List ℕ → ℕ → ℕ → ℕ → Scope → Term
handle ms name f a h s =
    let fs = fields_of (node_at ms h) in let i = (part ms h).number in let effc = effc_of ms h
    in Handle (kind_of name) (effc_types ms effc.node effc.number s)
    (four (term_at ms f s) (term_at ms a s)
    (field_or ms s fs (codes "retc") (identity (new_name i 0)))
    (field_or ms s fs (codes "exnc") (Fun (new_name i 1) (raise (new_name i 1)))))
    (rule_clauses ms (effc_scope effc.node effc.number s) (effc_rules ms effc.node))
