-- Instances of types, of names with types, and of what is said of them.
use Rattle.std.proofs.Common.{◌≡◌, refl, sym, ap, subst, ◌∙◌, inl, inr, ⊎_elim, ℕ, zero, suc, ◌==◌, Bool, true, false, List, [], ◌∷◌, ◌++◌, Option, Some, None, option_map, MatchBool}
use Rattle.effect_meaning.specs.Terms.{Written, Variable, Any, Applied, Writtens, NoTypes, AndType, TypeRow, Constant, Integer, Character, Boolean, UnitConst, Literal, Constructor, Variant, Exception, Effect, Operation, Program}
use Rattle.type_terms.specs.TypeTrees.{Ty, TypeVariable, Constructed, Tys, NoTys, AndTy, count, type_at, instance_of, instances_of}
use Rattle.type_terms.specs.WrittenTypes.{HasArguments, Means, AllMean, IfWritten}
use Rattle.type_terms.specs.OperationTypes.{operation_type, OperationHas}
use Rattle.type_terms.specs.Contexts.{Names, NameHas, SameNames}
use Rattle.type_terms.specs.Constructors.{constant_type, ArgumentIs, no_parameters, Constructs, FieldHas, NamesEachField}

-- an instance of an instance
mutual
  pub instance_twice : (f g : ℕ → Ty) (t : Ty) → instance_of f (instance_of g t) ≡ instance_of (λ v. instance_of f (g v)) t
  instance_twice f g (TypeVariable v) = refl
  instance_twice f g (Constructed type ts) = ap (Constructed type) (instances_twice f g ts)

  pub instances_twice : (f g : ℕ → Ty) (ts : Tys) → instances_of f (instances_of g ts) ≡ instances_of (λ v. instance_of f (g v)) ts
  instances_twice f g NoTys = refl
  instances_twice f g (AndTy t ts) =
      ap (λ u. AndTy u (instances_of f (instances_of g ts))) (instance_twice f g t)
      ∙ ap (AndTy (instance_of (λ v. instance_of f (g v)) t)) (instances_twice f g ts)

-- one of two, by a test
pub either_way : (b : Bool) (A B C D : Type 0) → (A → C) → (B → D) → MatchBool b A B → MatchBool b C D
either_way true A B C D f g h = f h
either_way false A B C D f g h = g h

module _ (f : ℕ → Ty) where
  pub count_instances : (ts : Tys) → count (instances_of f ts) ≡ count ts
  count_instances NoTys = refl
  count_instances (AndTy t ts) = ap suc (count_instances ts)

  pub type_at_instances : (ts : Tys) (i : ℕ) → type_at (instances_of f ts) i ≡ instance_of f (type_at ts i)
  type_at_instances NoTys i = refl
  type_at_instances (AndTy t ts) zero = refl
  type_at_instances (AndTy t ts) (suc i) = type_at_instances ts i

  pub arguments_instance : (rows : List TypeRow) (type : ℕ) (ts : Tys) → HasArguments rows type ts → HasArguments rows type (instances_of f ts)
  arguments_instance rows type ts h = ⊎_elim (λ e. inl e) (λ e. inr (e ∙ ap Some (sym (count_instances ts)))) h

  -- what a written type can mean, its variables standing for instances
  module _ (rows : List TypeRow) (variables others : ℕ → Ty) (same : (v : ℕ) → others v ≡ instance_of f (variables v)) where
    mutual
      pub means_instance : (w : Written) (t : Ty) → Means rows variables w t → Means rows others w (instance_of f t)
      means_instance (Variable v) t h = ap (instance_of f) h ∙ sym (same v)
      means_instance Any t h = tt
      means_instance (Applied type ws) t h =
          (instances_of f h.0, ap (instance_of f) h.1, arguments_instance rows type h.0 h.2, all_mean_instances ws h.0 h.3)

      pub all_mean_instances : (ws : Writtens) (ts : Tys) → AllMean rows variables ws ts → AllMean rows others ws (instances_of f ts)
      all_mean_instances NoTypes ts h = ap (instances_of f) h
      all_mean_instances (AndType w ws) ts h =
          (instance_of f h.0, instances_of f h.1, ap (instances_of f) h.2, means_instance w h.0 h.3, all_mean_instances ws h.1 h.4)

    pub if_written_instance : (w : Option Written) (t : Ty) → IfWritten rows variables w t → IfWritten rows others w (instance_of f t)
    if_written_instance None t h = tt
    if_written_instance (Some w) t h = means_instance w t h

    pub argument_instance :
        (w : Option Written) (a : Option Ty) → ArgumentIs rows variables w a → ArgumentIs rows others w (option_map (instance_of f) a)
    argument_instance None None h = tt
    argument_instance None (Some a) h = h
    argument_instance (Some w) None h = h
    argument_instance (Some w) (Some a) h = means_instance w a h

  pub constant_instance : (k : Constant) → instance_of f (constant_type k) ≡ constant_type k
  constant_instance (Integer n) = refl
  constant_instance (Character n) = refl
  constant_instance (Boolean b) = refl
  constant_instance UnitConst = refl
  constant_instance (Literal i) = refl

  pub constructs_instance :
      (p : Program) (con : Constructor) (a : Option Ty) (t : Ty)
      → Constructs p con a t → Constructs p con (option_map (instance_of f) a) (instance_of f t)
  constructs_instance p (Variant n) a t h = (
    h.0,
    instances_of f h.1,
    h.2,
    ap (instance_of f) h.3,
    arguments_instance p.types h.0.of_type h.1 h.4,
    argument_instance p.types (type_at h.1) (type_at (instances_of f h.1)) (type_at_instances h.1) h.0.argument a h.5,
  )
  constructs_instance p (Exception n) a t h =
      (h.0, h.1, ap (instance_of f) h.2, argument_instance p.types no_parameters no_parameters (type_at_instances NoTys) h.0.argument a h.3)
  constructs_instance p (Effect n) a t h = (
    h.0,
    instance_of f h.1,
    h.2,
    ap (instance_of f) h.3,
    means_instance p.types no_parameters no_parameters (type_at_instances NoTys) h.0.result t h.4,
    argument_instance p.types no_parameters no_parameters (type_at_instances NoTys) h.0.argument a h.5,
  )

  pub field_instance :
      (p : Program) (field : ℕ) (t a : Ty) → FieldHas p field t a → FieldHas p field (instance_of f t) (instance_of f a)
  field_instance p field t a h = (
    h.0,
    instances_of f h.1,
    h.2,
    ap (instance_of f) h.3,
    arguments_instance p.types h.0.of_type h.1 h.4,
    means_instance p.types (type_at h.1) (type_at (instances_of f h.1)) (type_at_instances h.1) h.0.type a h.5,
  )

  pub each_field_instance : (p : Program) (fields : List ℕ) (t : Ty) → NamesEachField p fields t → NamesEachField p fields (instance_of f t)
  each_field_instance p fields t h = (h.0, instances_of f h.1, h.2, h.3, ap (instance_of f) h.4, h.5, h.6, h.7)

  pub operation_instance : (op : Operation) (ts : Tys) (t : Ty) → OperationHas op ts t → OperationHas op (instances_of f ts) (instance_of f t)
  operation_instance op ts t h = (
    λ v. instance_of f (h.0 v),
    ap (instances_of f) h.1 ∙ instances_twice f h.0 (operation_type op).parts,
    ap (instance_of f) h.2 ∙ instance_twice f h.0 (operation_type op).result,
  )

  -- names with instances of their types
  abbrev pub instances : Names → Names
  instances [] = []
  instances (n ∷ ns) = (n.0, instance_of f n.1) ∷ instances ns

  pub instances_append : (ns ms : Names) → instances (ns ++ ms) ≡ instances ns ++ instances ms
  instances_append [] ms = refl
  instances_append (n ∷ ns) ms = ap (λ k. (n.0, instance_of f n.1) ∷ k) (instances_append ns ms)

  pub name_instance : (ns : Names) (x : ℕ) (t : Ty) (P Q : Type 0) → (P → Q) → NameHas ns x t P → NameHas (instances ns) x (instance_of f t) Q
  name_instance [] x t P Q g h = g h
  name_instance (n ∷ ns) x t P Q g h =
      either_way (x == n.0) (t ≡ n.1) (NameHas ns x t P) (instance_of f t ≡ instance_of f n.1) (NameHas (instances ns) x (instance_of f t) Q)
      (λ e. ap (instance_of f) e) (λ e. name_instance ns x t P Q g e) h

  -- where a name has a type among such names, it is an instance
  abbrev pub FromInstance : Names → ℕ → Ty → Type 0
  FromInstance ns x t = (s : Ty) × NameHas ns x s ⊥ × (t ≡ instance_of f s)

  from_either :
      (b : Bool) (u t : Ty) (P : Ty → Type 0) → MatchBool b (t ≡ instance_of f u) ((s : Ty) × P s × (t ≡ instance_of f s))
      → (s : Ty) × MatchBool b (s ≡ u) (P s) × (t ≡ instance_of f s)
  from_either true u t P h = (u, refl, h)
  from_either false u t P h = h

  pub from_instance : (ns : Names) (x : ℕ) (t : Ty) → NameHas (instances ns) x t ⊥ → FromInstance ns x t
  from_instance [] x t h = absurd h
  from_instance (n ∷ ns) x t h =
      from_either (x == n.0) n.1 t (λ s. NameHas ns x s ⊥)
      (either_way (x == n.0) (t ≡ instance_of f n.1) (NameHas (instances ns) x t ⊥) (t ≡ instance_of f n.1) (FromInstance ns x t) (λ e. e)
      (λ e. from_instance ns x t e) h)

  one_way :
      (ns ms : Names) (x : ℕ) → ((s : Ty) → NameHas ns x s ⊥ → NameHas ms x s ⊥) → (t : Ty)
      → NameHas (instances ns) x t ⊥ → NameHas (instances ms) x t ⊥
  one_way ns ms x g t h =
      let s = from_instance ns x t h in
      subst (λ u. NameHas (instances ms) x u ⊥) (sym s.2) (name_instance ms x s.0 ⊥ ⊥ (λ e. e) (g s.0 s.1))

  pub same_instances : (ns ms : Names) → SameNames ns ms → SameNames (instances ns) (instances ms)
  same_instances ns ms h = λ x t. (one_way ns ms x (λ s. (h x s).0) t, one_way ms ns x (λ s. (h x s).1) t)
