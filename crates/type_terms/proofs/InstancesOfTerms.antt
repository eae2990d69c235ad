-- In an instance of its context a pattern, a term or a clause has an instance of its type.
use Rattle.std.proofs.Common.{◌≡◌, refl, sym, ap, subst, ◌∙◌, ℕ, ◌==◌, Bool, true, false, if◌then◌else◌, List, ◌∷◌, ◌++◌, Option, Some, None, option_map}
use Rattle.effect_meaning.specs.Terms.{Written, Constructor, Pattern, AnyPat, NamePat, ConstPat, TuplePat, ConPat, ConOfPat, RecordPat, OrPat, AliasPat, AnnotPat, Patterns, NoPatterns, AndPattern, Kind, Deep, ShallowContinue, ShallowDiscontinue, HandlerTypes, Term, Var, Const, Fun, App, Let, LetRec, Seq, If, Match, Tuple, Con, ConOf, Record, Array, Field, SetField, Prim, Catch, Handle, Annot, Terms, NoTerms, AndTerm, Functions, NoFunctions, AndFunction, Clauses, NoClauses, AndClause, Guard, NoGuard, When, EffectClauses, NoEffects, AndEffect, Program}
use Rattle.type_terms.specs.TypeTrees.{Ty, Tys, bool, exn, effect, function, instance_of, instances_of}
use Rattle.type_terms.specs.WrittenTypes.{Means, IfWritten}
use Rattle.type_terms.specs.Contexts.{Names, NameHas, Context}
use Rattle.type_terms.specs.PatternTypes.{PatternHas, PatternsHave, FieldPatternsHave, ArgumentPatternHas}
use Rattle.type_terms.specs.HandlerRules.{HandlerHas, continuation, result_variables, ClauseBegins}
use Rattle.type_terms.specs.Typing.{HasType, TermsHave, EachHas, FieldsHave, FunctionsHave, ClausesHave, GuardHas, EffectClausesHave}
use Rattle.type_terms.proofs.InstancesOfTypes.{means_instance, if_written_instance, constant_instance, constructs_instance, field_instance, each_field_instance, operation_instance, instances, instances_append, name_instance, same_instances}

-- a context and an instance of it
pub record Instanced (f : ℕ → Ty) : Type 1 where
  pub from_tops : ℕ → Ty → Type 0
  pub to_tops : ℕ → Ty → Type 0
  pub tops : (x : ℕ) (t : Ty) → from_tops x t → to_tops x (instance_of f t)
  pub from_variables : ℕ → Ty
  pub to_variables : ℕ → Ty
  pub variables : (v : ℕ) → to_variables v ≡ instance_of f (from_variables v)
  pub from_names : Names
  pub to_names : Names
  pub names : to_names ≡ instances f from_names

module _ (p : Program) (f : ℕ → Ty) where
  abbrev pub from : Instanced f → Context
  from i = record { program = p; tops = i.from_tops; variables = i.from_variables; names = i.from_names }

  abbrev pub to : Instanced f → Context
  to i = record { program = p; tops = i.to_tops; variables = i.to_variables; names = i.to_names }

  -- with a further name, whose type has this instance
  abbrev pub name_as : (x : ℕ) (t s : Ty) → s ≡ instance_of f t → Instanced f → Instanced f
  name_as x t s e i =
      record {
        from_tops = i.from_tops;
        to_tops = i.to_tops;
        tops = i.tops;
        from_variables = i.from_variables;
        to_variables = i.to_variables;
        variables = i.variables;
        from_names = (x, t) ∷ i.from_names;
        to_names = (x, s) ∷ i.to_names;
        names = ap (λ k. (x, k) ∷ i.to_names) e ∙ ap (λ k. (x, instance_of f t) ∷ k) i.names;
      }

  abbrev pub name_in : (x : ℕ) (t : Ty) → Instanced f → Instanced f
  name_in x t i = name_as x t (instance_of f t) refl i

  abbrev pub names_in : Names → Instanced f → Instanced f
  names_in ns i =
      record {
        from_tops = i.from_tops;
        to_tops = i.to_tops;
        tops = i.tops;
        from_variables = i.from_variables;
        to_variables = i.to_variables;
        variables = i.variables;
        from_names = ns ++ i.from_names;
        to_names = instances f ns ++ i.to_names;
        names = ap (λ k. instances f ns ++ k) i.names ∙ sym (instances_append f ns i.from_names);
      }

  -- in a clause of an effect whose perform gives r
  pub if_instance : (b : Bool) (r s t : Ty) → s ≡ instance_of f t
      → (if b then instance_of f r else s) ≡ instance_of f (if b then r else t)
  if_instance true r s t e = refl
  if_instance false r s t e = e

  pub result_instance :
      (variable : Option ℕ) (written : Option Written) (r : Ty) (variables others : ℕ → Ty)
      → ((v : ℕ) → others v ≡ instance_of f (variables v)) → (v : ℕ)
      → result_variables (record { variable = variable; effect = written }) (instance_of f r) others v
      ≡ instance_of f (result_variables (record { variable = variable; effect = written }) r variables v)
  result_instance None written r variables others e v = e v
  result_instance (Some a) written r variables others e v = if_instance (v == a) r (others v) (variables v) (e v)

  abbrev pub result_in : HandlerTypes → Ty → Instanced f → Instanced f
  result_in types r i =
      record {
        from_tops = i.from_tops;
        to_tops = i.to_tops;
        tops = i.tops;
        from_variables = result_variables types r i.from_variables;
        to_variables = result_variables types (instance_of f r) i.to_variables;
        variables = result_instance types.variable types.effect r i.from_variables i.to_variables i.variables;
        from_names = i.from_names;
        to_names = i.to_names;
        names = i.names;
      }

  pub means_in : (i : Instanced f) (w : Written) (t : Ty) → Means p.types i.from_variables w t → Means p.types i.to_variables w (instance_of f t)
  means_in i w t h = means_instance f p.types i.from_variables i.to_variables i.variables w t h

  pub written_in :
      (i : Instanced f) (w : Option Written) (t : Ty)
      → IfWritten p.types i.from_variables w t → IfWritten p.types i.to_variables w (instance_of f t)
  written_in i w t h = if_written_instance f p.types i.from_variables i.to_variables i.variables w t h

  mutual
    pub pattern_instance : (i : Instanced f) (q : Pattern) (t : Ty) (ns : Names) → PatternHas (from i) q t ns → PatternHas (to i) q (instance_of f t) (instances f ns)
    pattern_instance i AnyPat t ns h = ap (instances f) h
    pattern_instance i (NamePat x) t ns h = ap (instances f) h
    pattern_instance i (ConstPat k) t ns h = (ap (instance_of f) h.0 ∙ constant_instance f k, ap (instances f) h.1)
    pattern_instance i (TuplePat qs) t ns h = (instances_of f h.0, ap (instance_of f) h.1, patterns_instance i qs h.0 ns h.2)
    pattern_instance i (ConPat con) t ns h = (constructs_instance f p con None t h.0, ap (instances f) h.1)
    pattern_instance i (ConOfPat con q) t ns h =
        (instance_of f h.0, constructs_instance f p con (Some h.0) t h.1, h.2, pattern_instance i q h.0 ns h.3)
    pattern_instance i (RecordPat fields qs) t ns h = field_patterns_instance i fields qs t ns h
    pattern_instance i (OrPat left right) t ns h =
        (instances f h.0, pattern_instance i left t ns h.1, pattern_instance i right t h.0 h.2, same_instances f ns h.0 h.3)
    pattern_instance i (AliasPat q x) t ns h = (instances f h.0, ap (instances f) h.1, pattern_instance i q t h.0 h.2)
    pattern_instance i (AnnotPat q w) t ns h = (means_in i w t h.0, pattern_instance i q t ns h.1)

    pub patterns_instance : (i : Instanced f) (qs : Patterns) (ts : Tys) (ns : Names) → PatternsHave (from i) qs ts ns → PatternsHave (to i) qs (instances_of f ts) (instances f ns)
    patterns_instance i NoPatterns ts ns h = (ap (instances_of f) h.0, ap (instances f) h.1)
    patterns_instance i (AndPattern q qs) ts ns h = (
      instance_of f h.0,
      instances_of f h.1,
      instances f h.2,
      instances f h.3,
      ap (instances_of f) h.4,
      ap (instances f) h.5 ∙ instances_append f h.2 h.3,
      pattern_instance i q h.0 h.2 h.6,
      patterns_instance i qs h.1 h.3 h.7,
    )

    pub field_patterns_instance :
        (i : Instanced f) (fields : List ℕ) (qs : Patterns) (t : Ty) (ns : Names)
        → FieldPatternsHave (from i) fields qs t ns → FieldPatternsHave (to i) fields qs (instance_of f t) (instances f ns)
    field_patterns_instance i fields NoPatterns t ns h = (h.0, ap (instances f) h.1)
    field_patterns_instance i fields (AndPattern q qs) t ns h = (
      h.0,
      h.1,
      instance_of f h.2,
      instances f h.3,
      instances f h.4,
      h.5,
      ap (instances f) h.6 ∙ instances_append f h.3 h.4,
      field_instance f p h.0 t h.2 h.7,
      pattern_instance i q h.2 h.3 h.8,
      field_patterns_instance i h.1 qs t h.4 h.9,
    )

  pub argument_pattern_instance :
      (i : Instanced f) (q : Option Pattern) (a : Option Ty) (ns : Names)
      → ArgumentPatternHas (from i) q a ns → ArgumentPatternHas (to i) q (option_map (instance_of f) a) (instances f ns)
  argument_pattern_instance i None None ns h = ap (instances f) h
  argument_pattern_instance i None (Some a) ns h = h
  argument_pattern_instance i (Some q) None ns h = h
  argument_pattern_instance i (Some q) (Some a) ns h = pattern_instance i q a ns h

  pub handler_instance : (kind : Kind) (ts : Tys) (b t : Ty) → HandlerHas kind ts b t → HandlerHas kind (instances_of f ts) (instance_of f b) (instance_of f t)
  handler_instance Deep ts b t h = (instance_of f h.0, ap (instances_of f) h.1)
  handler_instance ShallowContinue ts b t h = (instance_of f h.0, ap (instances_of f) h.1)
  handler_instance ShallowDiscontinue ts b t h = (instance_of f h.0, ap (instances_of f) h.1)

  pub continuation_instance :
      (kind : Kind) (r b t : Ty) → continuation kind (instance_of f r) (instance_of f b) (instance_of f t) ≡ instance_of f (continuation kind r b t)
  continuation_instance Deep r b t = refl
  continuation_instance ShallowContinue r b t = refl
  continuation_instance ShallowDiscontinue r b t = refl

  pub clause_instance :
      (i : Instanced f) (kind : Kind) (types : HandlerTypes) (con : Constructor) (argument : Option Pattern) (type : Option Written)
      (r b t : Ty) (ns : Names)
      → ClauseBegins (from i) kind types con argument type r b t ns
      → ClauseBegins (to i) kind types con argument type (instance_of f r) (instance_of f b) (instance_of f t) (instances f ns)
  clause_instance i kind types con argument type r b t ns h = (
    option_map (instance_of f) h.0,
    h.1,
    constructs_instance f p con h.0 (effect r) h.2,
    written_in (result_in types r i) types.effect (effect r) h.3,
    argument_pattern_instance (result_in types r i) argument h.0 ns h.4,
    subst (IfWritten p.types (result_variables types (instance_of f r) i.to_variables) type) (sym (continuation_instance kind r b t))
        (written_in (result_in types r i) type (continuation kind r b t) h.5),
  )

  pub local_instance :
      (i : Instanced f) (x : ℕ) (t : Ty)
      → NameHas i.from_names x t (i.from_tops x t) → NameHas i.to_names x (instance_of f t) (i.to_tops x (instance_of f t))
  local_instance i x t h =
      subst (λ ns. NameHas ns x (instance_of f t) (i.to_tops x (instance_of f t))) (sym i.names)
      (name_instance f i.from_names x t (i.from_tops x t) (i.to_tops x (instance_of f t)) (i.tops x t) h)

  abbrev mutual
    pub type_instance : (i : Instanced f) (a : Term) (t : Ty) → HasType (from i) a t → HasType (to i) a (instance_of f t)
    type_instance i (Var x) t h = local_instance i x t h
    type_instance i (Const k) t h = ap (instance_of f) h ∙ constant_instance f k
    type_instance i (Fun x body) t h =
        (instance_of f h.0, instance_of f h.1, ap (instance_of f) h.2, type_instance (name_in x h.0 i) body h.1 h.3)
    type_instance i (App g a) t h = (instance_of f h.0, type_instance i g (function h.0 t) h.1, type_instance i a h.0 h.2)
    type_instance i (Let x a body) t h = (instance_of f h.0, type_instance i a h.0 h.1, type_instance (name_in x h.0 i) body t h.2)
    type_instance i (LetRec fs body) t h =
        (instances f h.0, functions_instance (names_in h.0 i) fs h.0 h.1, type_instance (names_in h.0 i) body t h.2)
    type_instance i (Seq a b) t h = (instance_of f h.0, type_instance i a h.0 h.1, type_instance i b t h.2)
    type_instance i (If test a b) t h = (type_instance i test bool h.0, type_instance i a t h.1, type_instance i b t h.2)
    type_instance i (Match at a cs) t h = (instance_of f h.0, type_instance i a h.0 h.1, clauses_instance i cs h.0 t h.2)
    type_instance i (Tuple parts) t h = (instances_of f h.0, terms_instance i parts h.0 h.1, ap (instance_of f) h.2)
    type_instance i (Con con) t h = (constructs_instance f p con None t h.0, h.1)
    type_instance i (ConOf con a) t h = (instance_of f h.0, constructs_instance f p con (Some h.0) t h.1, h.2, type_instance i a h.0 h.3)
    type_instance i (Record fields parts) t h = (each_field_instance f p fields t h.0, fields_instance i fields parts t h.1)
    type_instance i (Array parts) t h = (instance_of f h.0, ap (instance_of f) h.1, each_instance i parts h.0 h.2)
    type_instance i (Field field a) t h = (instance_of f h.0, field_instance f p field h.0 t h.1, type_instance i a h.0 h.2)
    type_instance i (SetField field a b) t h = (
      instance_of f h.0,
      instance_of f h.1,
      ap (instance_of f) h.2,
      h.3,
      field_instance f p field h.0 h.1 h.4,
      type_instance i a h.0 h.5,
      type_instance i b h.1 h.6,
    )
    type_instance i (Prim op parts) t h = (instances_of f h.0, terms_instance i parts h.0 h.1, operation_instance f op h.0 t h.2)
    type_instance i (Catch at a values exceptions) t h =
        (instance_of f h.0, type_instance i a h.0 h.1, clauses_instance i values h.0 t h.2, clauses_instance i exceptions exn t h.3)
    type_instance i (Handle kind types parts cs) t h = (
      instance_of f h.0,
      instances_of f h.1,
      terms_instance i parts h.1 h.2,
      handler_instance kind h.1 h.0 t h.3,
      (instance_of f h.4.0, written_in (result_in types h.4.0 i) types.effect (effect h.4.0) h.4.1),
      effect_clauses_instance i kind types cs h.0 t h.5,
    )
    type_instance i (Annot a w) t h = (means_in i w t h.0, type_instance i a t h.1)

    pub terms_instance : (i : Instanced f) (parts : Terms) (ts : Tys) → TermsHave (from i) parts ts → TermsHave (to i) parts (instances_of f ts)
    terms_instance i NoTerms ts h = ap (instances_of f) h
    terms_instance i (AndTerm a parts) ts h =
        (instance_of f h.0, instances_of f h.1, ap (instances_of f) h.2, type_instance i a h.0 h.3, terms_instance i parts h.1 h.4)

    pub each_instance : (i : Instanced f) (parts : Terms) (u : Ty) → EachHas (from i) parts u → EachHas (to i) parts (instance_of f u)
    each_instance i NoTerms u h = tt
    each_instance i (AndTerm a parts) u h = (type_instance i a u h.0, each_instance i parts u h.1)

    pub fields_instance :
        (i : Instanced f) (fields : List ℕ) (parts : Terms) (t : Ty) → FieldsHave (from i) fields parts t → FieldsHave (to i) fields parts (instance_of f t)
    fields_instance i fields NoTerms t h = h
    fields_instance i fields (AndTerm a parts) t h =
        (h.0, h.1, instance_of f h.2, h.3, field_instance f p h.0 t h.2 h.4, type_instance i a h.2 h.5, fields_instance i h.1 parts t h.6)

    pub functions_instance : (i : Instanced f) (fs : Functions) (ns : Names) → FunctionsHave (from i) fs ns → FunctionsHave (to i) fs (instances f ns)
    functions_instance i NoFunctions ns h = ap (instances f) h
    functions_instance i (AndFunction g type x body fs) ns h = (
      instance_of f h.0,
      instance_of f h.1,
      instances f h.2,
      ap (instances f) h.3,
      written_in i type (function h.0 h.1) h.4,
      type_instance (name_in x h.0 i) body h.1 h.5,
      functions_instance i fs h.2 h.6,
    )

    pub clauses_instance : (i : Instanced f) (cs : Clauses) (u t : Ty) → ClausesHave (from i) cs u t → ClausesHave (to i) cs (instance_of f u) (instance_of f t)
    clauses_instance i NoClauses u t h = tt
    clauses_instance i (AndClause q guard body cs) u t h = (
      instances f h.0,
      pattern_instance i q u h.0 h.1,
      guard_instance (names_in h.0 i) guard h.2,
      type_instance (names_in h.0 i) body t h.3,
      clauses_instance i cs u t h.4,
    )

    pub guard_instance : (i : Instanced f) (guard : Guard) → GuardHas (from i) guard → GuardHas (to i) guard
    guard_instance i NoGuard h = tt
    guard_instance i (When a) h = type_instance i a bool h

    pub effect_clauses_instance :
        (i : Instanced f) (kind : Kind) (types : HandlerTypes) (cs : EffectClauses) (b t : Ty)
        → EffectClausesHave (from i) kind types cs b t → EffectClausesHave (to i) kind types cs (instance_of f b) (instance_of f t)
    effect_clauses_instance i kind types NoEffects b t h = tt
    effect_clauses_instance i kind types (AndEffect con argument k type body cs) b t h = (
      instance_of f h.0,
      instances f h.1,
      clause_instance i kind types con argument type h.0 b t h.1 h.2,
      type_instance
          (name_as k (continuation kind h.0 b t) (continuation kind (instance_of f h.0) (instance_of f b) (instance_of f t))
          (continuation_instance kind h.0 b t) (names_in h.1 (result_in types h.0 i))) body t h.3,
      effect_clauses_instance i kind types cs b t h.4,
    )
