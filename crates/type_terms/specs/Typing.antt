-- The typing rules of terms. Each rule says that the equations of a term have a solution in which it has a type: each unknown
-- is a "there is", each equation an equality.
use Rattle.std.specs.Prelude.{◌≡◌, ℕ, List, [], ◌∷◌, Some, None, IsFalse}
use Rattle.effect_meaning.specs.Terms.{Kind, HandlerTypes, Term, Var, Const, Fun, App, Let, LetRec, Seq, If, Match, Tuple, Con, ConOf, Record, Array, Field, SetField, Prim, Catch, Handle, Annot, Terms, NoTerms, AndTerm, Functions, NoFunctions, AndFunction, Clauses, NoClauses, AndClause, Guard, NoGuard, When, EffectClauses, NoEffects, AndEffect}
use Rattle.type_terms.specs.TypeTrees.{Ty, Tys, NoTys, AndTy, bool, unit, exn, array, function, tuple}
use Rattle.type_terms.specs.WrittenTypes.{Means, IfWritten}
use Rattle.type_terms.specs.OperationTypes.{OperationHas}
use Rattle.type_terms.specs.Contexts.{Names, NameHas, Context, with_name, with_names}
use Rattle.type_terms.specs.Constructors.{constant_type, Constructs, is_unhandled, FieldHas, IsMutable, NamesEachField}
use Rattle.type_terms.specs.PatternTypes.{PatternHas}
use Rattle.type_terms.specs.HandlerRules.{HandlerHas, ParameterIs, ClauseBegins, clause_context}

-- in this context the term has type t
abbrev mutual
  pub HasType : Context → Term → Ty → Type 0
  HasType c (Var x) t = NameHas c.names x t (c.tops x t)
  HasType c (Const k) t = t ≡ constant_type k
  HasType c (Fun x body) t = (a : Ty) × (b : Ty) × (t ≡ function a b) × HasType (with_name x a c) body b
  HasType c (App f a) t = (u : Ty) × HasType c f (function u t) × HasType c a u
  HasType c (Let x a body) t = (u : Ty) × HasType c a u × HasType (with_name x u c) body t
  HasType c (LetRec fs body) t =
      (names : Names) × FunctionsHave (with_names names c) fs names × HasType (with_names names c) body t
  -- the left side may have any type
  HasType c (Seq a b) t = (u : Ty) × HasType c a u × HasType c b t
  HasType c (If test a b) t = HasType c test bool × HasType c a t × HasType c b t
  HasType c (Match at a cs) t = (u : Ty) × HasType c a u × ClausesHave c cs u t
  HasType c (Tuple parts) t = (ts : Tys) × TermsHave c parts ts × (t ≡ tuple ts)
  HasType c (Con con) t = Constructs c.program con None t × IsFalse (is_unhandled con)
  HasType c (ConOf con a) t = (u : Ty) × Constructs c.program con (Some u) t × IsFalse (is_unhandled con) × HasType c a u
  HasType c (Record fields parts) t = NamesEachField c.program fields t × FieldsHave c fields parts t
  HasType c (Array parts) t = (u : Ty) × (t ≡ array u) × EachHas c parts u
  HasType c (Field field a) t = (u : Ty) × FieldHas c.program field u t × HasType c a u
  HasType c (SetField field a b) t =
      (u : Ty) × (v : Ty) × (t ≡ unit) × IsMutable c.program field × FieldHas c.program field u v × HasType c a u × HasType c b v
  HasType c (Prim op parts) t = (ts : Tys) × TermsHave c parts ts × OperationHas op ts t
  HasType c (Catch at a values exceptions) t =
      (u : Ty) × HasType c a u × ClausesHave c values u t × ClausesHave c exceptions exn t
  HasType c (Handle kind types parts cs) t =
      (b : Ty) × (ts : Tys) × TermsHave c parts ts × HandlerHas kind ts b t × ((r : Ty) × ParameterIs c types r)
      × EffectClausesHave c kind types cs b t
  HasType c (Annot a w) t = Means c.program.types c.variables w t × HasType c a t

  -- the terms have these types
  pub TermsHave : Context → Terms → Tys → Type 0
  TermsHave c NoTerms ts = ts ≡ NoTys
  TermsHave c (AndTerm a parts) ts = (u : Ty) × (us : Tys) × (ts ≡ AndTy u us) × HasType c a u × TermsHave c parts us

  -- each of the terms has type u
  pub EachHas : Context → Terms → Ty → Type 0
  EachHas c NoTerms u = Unit {0}
  EachHas c (AndTerm a parts) u = HasType c a u × EachHas c parts u

  -- the terms have the types of these fields of a record of type t
  pub FieldsHave : Context → List ℕ → Terms → Ty → Type 0
  FieldsHave c fields NoTerms t = fields ≡ []
  FieldsHave c fields (AndTerm a parts) t =
      (field : ℕ) × (rest : List ℕ) × (u : Ty) × (fields ≡ field ∷ rest) × FieldHas c.program field t u × HasType c a u
      × FieldsHave c rest parts t

  -- the functions of a group are these names with their types
  pub FunctionsHave : Context → Functions → Names → Type 0
  FunctionsHave c NoFunctions names = names ≡ []
  FunctionsHave c (AndFunction f type x body fs) names =
      (a : Ty) × (b : Ty) × (rest : Names) × (names ≡ (f, function a b) ∷ rest)
      × IfWritten c.program.types c.variables type (function a b) × HasType (with_name x a c) body b × FunctionsHave c fs rest

  -- the clauses take values of type u and give t
  pub ClausesHave : Context → Clauses → Ty → Ty → Type 0
  ClausesHave c NoClauses u t = Unit {0}
  ClausesHave c (AndClause q guard body cs) u t =
      (names : Names) × PatternHas c q u names × GuardHas (with_names names c) guard × HasType (with_names names c) body t
      × ClausesHave c cs u t

  -- a guard is a test
  pub GuardHas : Context → Guard → Type 0
  GuardHas c NoGuard = Unit {0}
  GuardHas c (When a) = HasType c a bool

  -- the clauses of a handler whose body gives b and that gives t
  pub EffectClausesHave : Context → Kind → HandlerTypes → EffectClauses → Ty → Ty → Type 0
  EffectClausesHave c kind types NoEffects b t = Unit {0}
  EffectClausesHave c kind types (AndEffect con argument k type body cs) b t =
      (r : Ty) × (names : Names) × ClauseBegins c kind types con argument type r b t names
      × HasType (clause_context c kind types k r b t names) body t × EffectClausesHave c kind types cs b t
