-- In an instance of a solution each comparison is at an instance of its type.
use Rattle.std.proofs.Common.{◌≡◌, refl, sym, ap, ◌∙◌, ℕ, List, [], ◌∷◌, ◌++◌, map}
use Rattle.std.proofs.lemmas.List.{map-append}
use Rattle.effect_meaning.specs.Terms.{Operation, Compare, Kind, HandlerTypes, Term, Var, Const, Fun, App, Let, LetRec, Seq, If, Match, Tuple, Con, ConOf, Record, Array, Field, SetField, Prim, Catch, Handle, Annot, Terms, NoTerms, AndTerm, Functions, NoFunctions, AndFunction, Clauses, NoClauses, AndClause, Guard, NoGuard, When, EffectClauses, NoEffects, AndEffect, Program}
use Rattle.type_terms.specs.TypeTrees.{Ty, Tys, bool, exn, function, instance_of, instances_of}
use Rattle.type_terms.specs.Contexts.{Names}
use Rattle.type_terms.specs.HandlerRules.{continuation}
use Rattle.type_terms.specs.Typing.{HasType, TermsHave, EachHas, FieldsHave, FunctionsHave, ClausesHave, GuardHas, EffectClausesHave}
use Rattle.type_terms.specs.Comparisons.{compared_at, compared, compared_terms, compared_each, compared_fields, compared_functions, compared_clauses, compared_guard, compared_effects}
use Rattle.type_terms.proofs.InstancesOfTypes.{type_at_instances, instances}
use Rattle.type_terms.proofs.InstancesOfTerms.{Instanced, from, to, name_as, name_in, names_in, result_in, continuation_instance, type_instance, terms_instance, each_instance, fields_instance, functions_instance, clauses_instance, guard_instance, effect_clauses_instance}

-- two lists of instances, one behind the other
pub join : (g : Ty → Ty) (xs ys ks ls : List Ty) → ks ≡ map g xs → ls ≡ map g ys → ks ++ ls ≡ map g (xs ++ ys)
join g xs ys ks ls e k = ap (λ l. l ++ ls) e ∙ ap (λ l. map g xs ++ l) k ∙ sym (map-append g xs ys)

module _ (p : Program) (f : ℕ → Ty) where
  at_instance : (op : Operation) (ts : Tys) → compared_at op (instances_of f ts) ≡ map (instance_of f) (compared_at op ts)
  at_instance (Compare o) ts = ap (λ t. t ∷ []) (type_at_instances f ts 0)
  at_instance _ ts = refl

  mutual
    pub compared_instance :
        (i : Instanced f) (a : Term) (t : Ty) (h : HasType (from p f i) a t)
        → compared (to p f i) a (instance_of f t) (type_instance p f i a t h) ≡ map (instance_of f) (compared (from p f i) a t h)
    compared_instance i (Var x) t h = refl
    compared_instance i (Const k) t h = refl
    compared_instance i (Fun x body) t h = compared_instance (name_in p f x h.0 i) body h.1 h.3
    compared_instance i (App g a) t h =
        join (instance_of f) _ _ _ _ (compared_instance i g (function h.0 t) h.1) (compared_instance i a h.0 h.2)
    compared_instance i (Let x a body) t h =
        join (instance_of f) _ _ _ _ (compared_instance i a h.0 h.1) (compared_instance (name_in p f x h.0 i) body t h.2)
    compared_instance i (LetRec fs body) t h =
        join (instance_of f) _ _ _ _ (functions_compared (names_in p f h.0 i) fs h.0 h.1) (compared_instance (names_in p f h.0 i) body t h.2)
    compared_instance i (Seq a b) t h = join (instance_of f) _ _ _ _ (compared_instance i a h.0 h.1) (compared_instance i b t h.2)
    compared_instance i (If test a b) t h =
        join (instance_of f) _ _ _ _
        (join (instance_of f) _ _ _ _ (compared_instance i test bool h.0) (compared_instance i a t h.1)) (compared_instance i b t h.2)
    compared_instance i (Match at a cs) t h =
        join (instance_of f) _ _ _ _ (compared_instance i a h.0 h.1) (clauses_compared i cs h.0 t h.2)
    compared_instance i (Tuple parts) t h = terms_compared i parts h.0 h.1
    compared_instance i (Con con) t h = refl
    compared_instance i (ConOf con a) t h = compared_instance i a h.0 h.3
    compared_instance i (Record fields parts) t h = fields_compared i fields parts t h.1
    compared_instance i (Array parts) t h = each_compared i parts h.0 h.2
    compared_instance i (Field field a) t h = compared_instance i a h.0 h.2
    compared_instance i (SetField field a b) t h =
        join (instance_of f) _ _ _ _ (compared_instance i a h.0 h.5) (compared_instance i b h.1 h.6)
    compared_instance i (Prim op parts) t h = join (instance_of f) _ _ _ _ (at_instance op h.0) (terms_compared i parts h.0 h.1)
    compared_instance i (Catch at a values exceptions) t h =
        join (instance_of f) _ _ _ _
        (join (instance_of f) _ _ _ _ (compared_instance i a h.0 h.1) (clauses_compared i values h.0 t h.2))
        (clauses_compared i exceptions exn t h.3)
    compared_instance i (Handle kind types parts cs) t h =
        join (instance_of f) _ _ _ _ (terms_compared i parts h.1 h.2) (effects_compared i kind types cs h.0 t h.5)
    compared_instance i (Annot a w) t h = compared_instance i a t h.1

    pub terms_compared :
        (i : Instanced f) (parts : Terms) (ts : Tys) (h : TermsHave (from p f i) parts ts)
        → compared_terms (to p f i) parts (instances_of f ts) (terms_instance p f i parts ts h) ≡ map (instance_of f) (compared_terms (from p f i) parts ts h)
    terms_compared i NoTerms ts h = refl
    terms_compared i (AndTerm a parts) ts h =
        join (instance_of f) _ _ _ _ (compared_instance i a h.0 h.3) (terms_compared i parts h.1 h.4)

    pub each_compared :
        (i : Instanced f) (parts : Terms) (u : Ty) (h : EachHas (from p f i) parts u)
        → compared_each (to p f i) parts (instance_of f u) (each_instance p f i parts u h) ≡ map (instance_of f) (compared_each (from p f i) parts u h)
    each_compared i NoTerms u h = refl
    each_compared i (AndTerm a parts) u h = join (instance_of f) _ _ _ _ (compared_instance i a u h.0) (each_compared i parts u h.1)

    pub fields_compared :
        (i : Instanced f) (fields : List ℕ) (parts : Terms) (t : Ty) (h : FieldsHave (from p f i) fields parts t)
        → compared_fields (to p f i) fields parts (instance_of f t) (fields_instance p f i fields parts t h)
        ≡ map (instance_of f) (compared_fields (from p f i) fields parts t h)
    fields_compared i fields NoTerms t h = refl
    fields_compared i fields (AndTerm a parts) t h =
        join (instance_of f) _ _ _ _ (compared_instance i a h.2 h.5) (fields_compared i h.1 parts t h.6)

    pub functions_compared :
        (i : Instanced f) (fs : Functions) (ns : Names) (h : FunctionsHave (from p f i) fs ns)
        → compared_functions (to p f i) fs (instances f ns) (functions_instance p f i fs ns h)
        ≡ map (instance_of f) (compared_functions (from p f i) fs ns h)
    functions_compared i NoFunctions ns h = refl
    functions_compared i (AndFunction g type x body fs) ns h =
        join (instance_of f) _ _ _ _ (compared_instance (name_in p f x h.0 i) body h.1 h.5) (functions_compared i fs h.2 h.6)

    pub clauses_compared :
        (i : Instanced f) (cs : Clauses) (u t : Ty) (h : ClausesHave (from p f i) cs u t)
        → compared_clauses (to p f i) cs (instance_of f u) (instance_of f t) (clauses_instance p f i cs u t h)
        ≡ map (instance_of f) (compared_clauses (from p f i) cs u t h)
    clauses_compared i NoClauses u t h = refl
    clauses_compared i (AndClause q guard body cs) u t h =
        join (instance_of f) _ _ _ _
        (join (instance_of f) _ _ _ _ (guard_compared (names_in p f h.0 i) guard h.2) (compared_instance (names_in p f h.0 i) body t h.3))
        (clauses_compared i cs u t h.4)

    pub guard_compared :
        (i : Instanced f) (guard : Guard) (h : GuardHas (from p f i) guard)
        → compared_guard (to p f i) guard (guard_instance p f i guard h) ≡ map (instance_of f) (compared_guard (from p f i) guard h)
    guard_compared i NoGuard h = refl
    guard_compared i (When a) h = compared_instance i a bool h

    pub effects_compared :
        (i : Instanced f) (kind : Kind) (types : HandlerTypes) (cs : EffectClauses) (b t : Ty) (h : EffectClausesHave (from p f i) kind types cs b t)
        → compared_effects (to p f i) kind types cs (instance_of f b) (instance_of f t) (effect_clauses_instance p f i kind types cs b t h)
        ≡ map (instance_of f) (compared_effects (from p f i) kind types cs b t h)
    effects_compared i kind types NoEffects b t h = refl
    effects_compared i kind types (AndEffect con argument k type body cs) b t h =
        join (instance_of f) _ _ _ _
        (compared_instance
        (name_as p f k (continuation kind h.0 b t) (continuation kind (instance_of f h.0) (instance_of f b) (instance_of f t))
        (continuation_instance p f kind h.0 b t) (names_in p f h.1 (result_in p f types h.0 i))) body t h.3)
        (effects_compared i kind types cs b t h.4)
