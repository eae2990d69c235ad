-- The breaches of the rules on names in an expression: a name that isn't visible where it is used, at its place; a name that
-- is bound twice in one pattern or group, at the second; an or-pattern whose sides bind different names (Patterns).
use Rattle.std.specs.Prelude.{ℕ, Bool, List, [], ◌∷◌, ◌++◌, map, flat_map, Option, Some, None, if◌then◌else◌}
use Rattle.fx_base.specs.declared.refusal.Place.{Place}
use Rattle.ml_syntax.specs.declared.node.Binding.{Binding}
use Rattle.ml_syntax.specs.declared.node.Binding.TheVariants as bindings
use Rattle.ml_syntax.specs.declared.node.Clause.{Clause}
use Rattle.ml_syntax.specs.declared.node.Clause.TheVariants as clauses
use Rattle.ml_syntax.specs.declared.node.EffectRule.{EffectRule}
use Rattle.ml_syntax.specs.declared.node.Node.{Node}
use Rattle.ml_syntax.specs.declared.node.Node.TheVariants as node
use Rattle.surface_meaning.specs.Scope.{Named, Scope}
use Rattle.surface_meaning.specs.Visible.{value, constructor, field, with_value}
use Rattle.surface_meaning.specs.Meanings.{InItem, Meaning, part, node_at, binders_at, bound_by}
use Rattle.surface_meaning.specs.Types.{missing, type_breaches_at}
use Rattle.surface_meaning.specs.Patterns.{parts_of, with_binders, twice, pattern_breaches_at, field_breaches, group_breaches}
use Rattle.surface_meaning.specs.Functions.{binders_of_group}
use Rattle.surface_meaning.specs.Matches.{annotation_of}
use Rattle.surface_meaning.specs.Handlers.{effc_scope}

-- the breaches in the parts of a form that see what the form sees
abbrev pub breaches_at : List Meaning → List ℕ → Scope → List Place
breaches_at ms is s = flat_map (λ i. (part ms i).term_breaches s) is

-- those in a part that may be absent
abbrev pub option_breaches : List Meaning → Option ℕ → Scope → List Place
option_breaches ms None s = []
option_breaches ms (Some i) s = breaches_at ms (i ∷ []) s

-- those in the type of a form, if it has one
abbrev pub annotation_breaches : List Meaning → Option ℕ → Scope → List Place
annotation_breaches ms None s = []
annotation_breaches ms (Some t) s = type_breaches_at ms (t ∷ []) InItem s

-- the names of parameters come into scope
abbrev pub with_parameters : List Meaning → List ℕ → Scope → Scope
with_parameters ms ps s = with_binders (flat_map (λ p. binders_at ms p []) ps) s

-- a body behind parameters, each of which is a group of its own
abbrev pub function_breaches : List Meaning → List ℕ → Option ℕ → ℕ → Scope → List Place
function_breaches ms ps t a s =
    flat_map (λ p. group_breaches ms p s) ps ++ annotation_breaches ms t s ++ breaches_at ms (a ∷ []) (with_parameters ms ps s)

-- the pattern of a binding
abbrev pub binding_breaches : List Meaning → Scope → Binding → List Place
binding_breaches ms s (bindings.Pattern p b) = pattern_breaches_at ms (p ∷ []) s
binding_breaches ms s (bindings.Named x ps t b) = []

-- the right side of a binding
abbrev pub right_side_breaches : List Meaning → Scope → Binding → List Place
right_side_breaches ms s (bindings.Pattern p b) = breaches_at ms (b ∷ []) s
right_side_breaches ms s (bindings.Named x ps t b) = function_breaches ms ps t b s

-- a group of bindings, whose right sides see the group where it is recursive
abbrev pub let_breaches : List Meaning → Bool → List Binding → Scope → List Place
let_breaches ms is_rec bs s =
    let group = binders_of_group ms bs in let r = if is_rec then with_binders group s else s
    in flat_map (binding_breaches ms s) bs ++ twice (map (λ b. b.name) group) ++ flat_map (right_side_breaches ms r) bs

-- p when g -> a
abbrev pub plain_breaches : List Meaning → Scope → ℕ → Option ℕ → ℕ → List Place
plain_breaches ms s p g a =
    let r = with_parameters ms (p ∷ []) s in group_breaches ms p s ++ option_breaches ms g r ++ breaches_at ms (a ∷ []) r

-- effect q, k -> a: the pattern and the continuation's name are two groups
abbrev pub effect_breaches : List Meaning → Scope → ℕ → ℕ → ℕ → List Place
effect_breaches ms s q k a =
    group_breaches ms q s ++ group_breaches ms k s ++ breaches_at ms (a ∷ []) (with_parameters ms (q ∷ k ∷ []) s)

-- those in a clause
abbrev pub clause_breaches : List Meaning → Scope → Clause → List Place
clause_breaches ms s (clauses.Value p g a) = plain_breaches ms s p g a
clause_breaches ms s (clauses.Exception place p g a) = plain_breaches ms s p g a
clause_breaches ms s (clauses.Effect place q k a) = effect_breaches ms s q k a

-- q -> Some (fun k -> a)
abbrev pub resumption_breaches : List Meaning → Scope → ℕ → Node → List Place
resumption_breaches ms s q (node.Resumption place k a) = effect_breaches ms s q k a
resumption_breaches ms s q _ = []

-- those in a rule of effc
abbrev pub rule_breaches : List Meaning → Scope → EffectRule → List Place
rule_breaches ms s r = resumption_breaches ms s r.pattern (node_at ms r.answer)

-- the breaches in an expression
abbrev pub term_breaches_of : List Meaning → ℕ → Node → Scope → List Place
term_breaches_of ms i (node.Variable n) s = missing (value s n) n.place
term_breaches_of ms i (node.Constructor c) s = missing (constructor s c) c.place
term_breaches_of ms i (node.Bracket place a) s = breaches_at ms (a ∷ []) s
term_breaches_of ms i (node.BeginEnd place a) s = breaches_at ms (a ∷ []) s
term_breaches_of ms i (node.Annotated place a t) s = breaches_at ms (a ∷ []) s ++ annotation_breaches ms (Some t) s
term_breaches_of ms i (node.List place parts) s = breaches_at ms parts s
term_breaches_of ms i (node.Array place parts) s = breaches_at ms parts s
term_breaches_of ms i (node.Record place fs) s = field_breaches s fs ++ breaches_at ms (parts_of fs) s
term_breaches_of ms i (node.While place c a) s = breaches_at ms (c ∷ a ∷ []) s
term_breaches_of ms i (node.For place x a is_down b c) s =
    breaches_at ms (a ∷ b ∷ []) s ++ breaches_at ms (c ∷ []) (with_value x.text (Named (bound_by i)) s)
term_breaches_of ms i (node.Dereference place a) s = breaches_at ms (a ∷ []) s
term_breaches_of ms i (node.Field a x) s = missing (field s x) x.place ++ breaches_at ms (a ∷ []) s
term_breaches_of ms i (node.ArrayElement place a b) s = breaches_at ms (a ∷ b ∷ []) s
term_breaches_of ms i (node.StringElement place a b) s = breaches_at ms (a ∷ b ∷ []) s
term_breaches_of ms i (node.Apply f parts) s = breaches_at ms (f ∷ parts) s
term_breaches_of ms i (node.Construct c a) s = missing (constructor s c) c.place ++ breaches_at ms (a ∷ []) s
term_breaches_of ms i (node.Handle f a b h) s = missing (value s f) f.place ++ breaches_at ms (a ∷ b ∷ h ∷ []) s
term_breaches_of ms i (node.Handler place fs) s = breaches_at ms (parts_of fs) s
term_breaches_of ms i (node.EffectFunction place x p c) s =
    let r = effc_scope (node.EffectFunction place x p c) i s
    in annotation_breaches ms (annotation_of (node_at ms p)) r ++ breaches_at ms (c ∷ []) r
term_breaches_of ms i (node.EffectCases place x rs o) s = flat_map (rule_breaches ms s) rs
term_breaches_of ms i (node.Negate place a) s = breaches_at ms (a ∷ []) s
term_breaches_of ms i (node.Binary place o a b) s = breaches_at ms (a ∷ b ∷ []) s
term_breaches_of ms i (node.Tuple place parts) s = breaches_at ms parts s
term_breaches_of ms i (node.SetField place a x b) s = missing (field s x) x.place ++ breaches_at ms (a ∷ b ∷ []) s
term_breaches_of ms i (node.SetElement place a b c) s = breaches_at ms (a ∷ b ∷ c ∷ []) s
term_breaches_of ms i (node.If place c a b) s = breaches_at ms (c ∷ a ∷ []) s ++ option_breaches ms b s
term_breaches_of ms i (node.Sequence place parts) s = breaches_at ms parts s
term_breaches_of ms i (node.Let place is_rec bs a) s =
    let_breaches ms is_rec bs s ++ breaches_at ms (a ∷ []) (with_binders (binders_of_group ms bs) s)
term_breaches_of ms i (node.Match place a cs) s = breaches_at ms (a ∷ []) s ++ flat_map (clause_breaches ms s) cs
term_breaches_of ms i (node.Try place a cs) s = breaches_at ms (a ∷ []) s ++ flat_map (clause_breaches ms s) cs
term_breaches_of ms i (node.Fun place ps a) s = function_breaches ms ps None a s
term_breaches_of ms i (node.Function place cs) s = flat_map (clause_breaches ms s) cs
term_breaches_of ms i _ s = []
