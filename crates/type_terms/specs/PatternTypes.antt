-- The types of patterns, and of the names that they bind.
use Rattle.std.specs.Prelude.{◌≡◌, ℕ, List, [], ◌∷◌, ◌++◌, Option, Some, None, IsTrue}
use Rattle.effect_meaning.specs.Terms.{Pattern, AnyPat, NamePat, ConstPat, TuplePat, ConPat, ConOfPat, RecordPat, OrPat, AliasPat, AnnotPat, Patterns, NoPatterns, AndPattern}
use Rattle.type_terms.specs.TypeTrees.{Ty, Tys, NoTys, AndTy, tuple}
use Rattle.type_terms.specs.WrittenTypes.{Means}
use Rattle.type_terms.specs.Contexts.{Names, SameNames, Context}
use Rattle.type_terms.specs.Constructors.{constant_type, Constructs, is_unhandled, FieldHas}

-- a pattern matches values of type t and binds these names
abbrev mutual
  pub PatternHas : Context → Pattern → Ty → Names → Type 0
  PatternHas c AnyPat t names = names ≡ []
  PatternHas c (NamePat x) t names = names ≡ (x, t) ∷ []
  PatternHas c (ConstPat k) t names = (t ≡ constant_type k) × (names ≡ [])
  PatternHas c (TuplePat qs) t names = (ts : Tys) × (t ≡ tuple ts) × PatternsHave c qs ts names
  PatternHas c (ConPat con) t names = Constructs c.program con None t × (names ≡ [])
  PatternHas c (ConOfPat con q) t names =
      (a : Ty) × Constructs c.program con (Some a) t × (IsTrue (is_unhandled con) → q ≡ AnyPat) × PatternHas c q a names
  PatternHas c (RecordPat fields qs) t names = FieldPatternsHave c fields qs t names
  PatternHas c (OrPat left right) t names =
      (others : Names) × PatternHas c left t names × PatternHas c right t others × SameNames names others
  PatternHas c (AliasPat q x) t names = (ns : Names) × (names ≡ (x, t) ∷ ns) × PatternHas c q t ns
  PatternHas c (AnnotPat q w) t names = Means c.program.types c.variables w t × PatternHas c q t names

  -- the patterns have these types
  pub PatternsHave : Context → Patterns → Tys → Names → Type 0
  PatternsHave c NoPatterns ts names = (ts ≡ NoTys) × (names ≡ [])
  PatternsHave c (AndPattern q qs) ts names =
      (u : Ty) × (us : Tys) × (ns : Names) × (ms : Names) × (ts ≡ AndTy u us) × (names ≡ ns ++ ms) × PatternHas c q u ns
      × PatternsHave c qs us ms

  -- the patterns of these fields of a record of type t
  pub FieldPatternsHave : Context → List ℕ → Patterns → Ty → Names → Type 0
  FieldPatternsHave c fields NoPatterns t names = (fields ≡ []) × (names ≡ [])
  FieldPatternsHave c fields (AndPattern q qs) t names =
      (field : ℕ) × (rest : List ℕ) × (u : Ty) × (ns : Names) × (ms : Names) × (fields ≡ field ∷ rest) × (names ≡ ns ++ ms)
      × FieldHas c.program field t u × PatternHas c q u ns × FieldPatternsHave c rest qs t ms

-- a pattern for an argument that may be there
abbrev pub ArgumentPatternHas : Context → Option Pattern → Option Ty → Names → Type 0
ArgumentPatternHas c None None names = names ≡ []
ArgumentPatternHas c None (Some a) names = ⊥
ArgumentPatternHas c (Some q) None names = ⊥
ArgumentPatternHas c (Some q) (Some a) names = PatternHas c q a names
