-- What patterns mean: the names that they bind, their Core, and their breaches. OCaml manual, "Patterns".
use Rattle.std.specs.Prelude.{ℕ, pos, Bool, true, false, not, List, [], ◌∷◌, ◌++◌, map, filter, flat_map, unwrap_or, if◌then◌else◌}
use Rattle.std.specs.List.{list_any}
use Rattle.fx_base.specs.declared.refusal.Place.{Place}
use Rattle.ml_lexer.specs.Values.{number_value, byte_of_character, bytes_of_string}
use Rattle.ml_syntax.specs.declared.node.Name.{Name}
use Rattle.ml_syntax.specs.declared.node.LongName.{LongName}
use Rattle.ml_syntax.specs.declared.node.NamedPart.{NamedPart}
use Rattle.ml_syntax.specs.declared.node.LiteralKind.{LiteralKind}
use Rattle.ml_syntax.specs.declared.node.LiteralKind.TheVariants as kind
use Rattle.ml_syntax.specs.declared.node.Node.{Node}
use Rattle.ml_syntax.specs.declared.node.Node.TheVariants as node
use Rattle.effect_meaning.specs.Terms.{Constant, Integer, Character, Boolean, UnitConst, Literal as StringLiteral, Constructor, Variant, Pattern, AnyPat, NamePat, ConstPat, TuplePat, ConPat, ConOfPat, RecordPat, OrPat, AliasPat, AnnotPat, NoPatterns, AndPattern}
use Rattle.effect_meaning.specs.Builtins.{none_con, nil_con, cons_con}
use Rattle.effect_meaning.specs.Scoped.{same_text}
use Rattle.surface_meaning.specs.Scope.{Named, Scope}
use Rattle.surface_meaning.specs.Visible.{constructor, field, with_value}
use Rattle.surface_meaning.specs.Meanings.{InItem, Binder, Meaning, part, pattern_at, binders_at, written_at, patterns_of, bound_by}
use Rattle.surface_meaning.specs.Types.{missing, type_breaches_at}

-- the constant of a literal, a string being the literal of this number
abbrev pub constant_of : ℕ → LiteralKind → List ℕ → Constant
constant_of l kind.Integer t = Integer (pos (number_value t))
constant_of l kind.Character t = Character (unwrap_or (byte_of_character t) 0)
constant_of l kind.Text t = StringLiteral l
constant_of l kind.True t = Boolean true
constant_of l kind.False t = Boolean false

-- the text of a string literal
abbrev pub string_of : LiteralKind → List ℕ → List (List ℕ)
string_of kind.Text t = bytes_of_string t ∷ []
string_of _ t = []

-- the string literal that a node is
abbrev pub strings_of : Node → List (List ℕ)
strings_of (node.PatternConstant place c) = string_of c.kind c.text
strings_of (node.Constant place c) = string_of c.kind c.text
strings_of _ = []

-- a name on the right side of an or-pattern has its number from the left side
abbrev pub number_of : List Binder → List ℕ → ℕ → ℕ
number_of [] t i = bound_by i
number_of (b ∷ bs) t i = if same_text b.name.text t then b.number else number_of bs t i

-- a name that a node binds, with its number
abbrev pub binder : List Binder → ℕ → Name → Binder
binder left i x = record { name = x; number = number_of left x.text i }

-- the names that patterns bind, from the left
abbrev pub binders_of_parts : List Meaning → List ℕ → List Binder → List Binder
binders_of_parts ms is left = flat_map (λ i. binders_at ms i left) is

-- the parts of the fields of a record
abbrev pub parts_of : List NamedPart → List ℕ
parts_of fs = map (λ f. f.part) fs

-- a name is among others
abbrev pub is_among : List Name → Name → Bool
is_among xs x = list_any (λ y. same_text x.text y.text) xs

-- the names of either side of an or-pattern: the left one's, and others of the right one, of which there is none but by a breach
abbrev pub of_either : List Binder → List Binder → List Binder
of_either left right = left ++ filter (λ b. not (is_among (map (λ a. a.name) left) b.name)) right

-- the names that a pattern binds, from the left
abbrev pub binders_of : List Meaning → ℕ → Node → List Binder → List Binder
binders_of ms i (node.PatternName place t) left = binder left i (record { place = place; text = t }) ∷ []
binders_of ms i (node.PatternBracket place p) left = binders_at ms p left
binders_of ms i (node.PatternAnnotated place p t) left = binders_at ms p left
binders_of ms i (node.PatternList place ps) left = binders_of_parts ms ps left
binders_of ms i (node.PatternRecord place fs o) left = binders_of_parts ms (parts_of fs) left
binders_of ms i (node.PatternConstruct c p) left = binders_at ms p left
binders_of ms i (node.PatternCons place p q) left = binders_of_parts ms (p ∷ q ∷ []) left
binders_of ms i (node.PatternTuple place ps) left = binders_of_parts ms ps left
binders_of ms i (node.PatternOr place p q) left =
    let names = binders_at ms p left in of_either names (binders_at ms q (names ++ left))
binders_of ms i (node.PatternAlias place p x) left = binders_at ms p left ++ binder left i x ∷ []
binders_of ms i _ left = []

-- p :: q
abbrev pub cons_pattern : Pattern → Pattern → Pattern
cons_pattern p q = ConOfPat (Variant cons_con) (TuplePat (AndPattern p (AndPattern q NoPatterns)))

-- [p; q] is p :: q :: []
abbrev pub list_pattern : List Pattern → Pattern
list_pattern [] = ConPat (Variant nil_con)
list_pattern (p ∷ ps) = cons_pattern p (list_pattern ps)

-- a constructor. What a name that stands for nothing is read as never counts, here and elsewhere: there is a breach
abbrev pub constructor_or : Scope → LongName → Constructor
constructor_or s n = unwrap_or (constructor s n) (Variant none_con)

-- the rows of fields
abbrev pub fields_or : Scope → List NamedPart → List ℕ
fields_or s fs = map (λ f. unwrap_or (field s f.name) 0) fs

-- what parts mean as patterns
abbrev pub patterns_at : List Meaning → List ℕ → List Binder → Scope → List Pattern
patterns_at ms is left s = map (λ i. pattern_at ms i left s) is

-- the pattern that a node is
abbrev pub pattern_of : List Meaning → ℕ → ℕ → Node → List Binder → Scope → Pattern
pattern_of ms i l (node.PatternName place t) left s = NamePat (number_of left t i)
pattern_of ms i l (node.PatternConstant place c) left s = ConstPat (constant_of l c.kind c.text)
pattern_of ms i l (node.PatternUnit place) left s = ConstPat UnitConst
pattern_of ms i l (node.PatternBracket place p) left s = pattern_at ms p left s
pattern_of ms i l (node.PatternAnnotated place p t) left s = AnnotPat (pattern_at ms p left s) (written_at ms t InItem s)
pattern_of ms i l (node.PatternList place ps) left s = list_pattern (patterns_at ms ps left s)
pattern_of ms i l (node.PatternRecord place fs o) left s =
    RecordPat (fields_or s fs) (patterns_of (patterns_at ms (parts_of fs) left s))
pattern_of ms i l (node.PatternConstructor c) left s = ConPat (constructor_or s c)
pattern_of ms i l (node.PatternConstruct c p) left s = ConOfPat (constructor_or s c) (pattern_at ms p left s)
pattern_of ms i l (node.PatternCons place p q) left s = cons_pattern (pattern_at ms p left s) (pattern_at ms q left s)
pattern_of ms i l (node.PatternTuple place ps) left s = TuplePat (patterns_of (patterns_at ms ps left s))
pattern_of ms i l (node.PatternOr place p q) left s =
    OrPat (pattern_at ms p left s) (pattern_at ms q (binders_at ms p left ++ left) s)
pattern_of ms i l (node.PatternAlias place p x) left s = AliasPat (pattern_at ms p left s) (number_of left x.text i)
pattern_of ms i l _ left s = AnyPat

-- names come into scope, each before those that follow it
abbrev pub with_binders : List Binder → Scope → Scope
with_binders [] s = s
with_binders (b ∷ bs) s = with_binders bs (with_value b.name.text (Named b.number) s)

-- the names that stand a second time in a list, behind those before it
abbrev pub twice_behind : List Name → List Name → List Place
twice_behind seen [] = []
twice_behind seen (x ∷ xs) =
    let further = twice_behind (x ∷ seen) xs in if is_among seen x then x.place ∷ further else further

-- the names that stand a second time in a list
abbrev pub twice : List Name → List Place
twice xs = twice_behind [] xs

-- the names of one side of an or-pattern that the other side doesn't bind
abbrev pub alone : List Name → List Name → List Place
alone xs [] = []
alone xs (y ∷ ys) = let further = alone xs ys in if is_among xs y then further else y.place ∷ further

-- the names that a pattern binds
abbrev pub names_of : List Meaning → ℕ → List Name
names_of ms p = map (λ b. b.name) (binders_at ms p [])

-- both sides of an or-pattern bind the same names, and the right one none twice
abbrev pub or_breaches : List Name → List Name → List Place
or_breaches xs ys = alone ys xs ++ alone xs ys ++ twice ys

-- the breaches in patterns
abbrev pub pattern_breaches_at : List Meaning → List ℕ → Scope → List Place
pattern_breaches_at ms is s = flat_map (λ i. (part ms i).pattern_breaches s) is

-- names of fields that stand for nothing
abbrev pub field_breaches : Scope → List NamedPart → List Place
field_breaches s fs = flat_map (λ f. missing (field s f.name) f.name.place) fs

-- the breaches in a pattern, but for names that its group binds twice
abbrev pub pattern_breaches_of : List Meaning → Node → Scope → List Place
pattern_breaches_of ms (node.PatternBracket place p) s = pattern_breaches_at ms (p ∷ []) s
pattern_breaches_of ms (node.PatternAnnotated place p t) s = pattern_breaches_at ms (p ∷ []) s ++ type_breaches_at ms (t ∷ []) InItem s
pattern_breaches_of ms (node.PatternList place ps) s = pattern_breaches_at ms ps s
pattern_breaches_of ms (node.PatternRecord place fs o) s = field_breaches s fs ++ pattern_breaches_at ms (parts_of fs) s
pattern_breaches_of ms (node.PatternConstructor c) s = missing (constructor s c) c.place
pattern_breaches_of ms (node.PatternConstruct c p) s = missing (constructor s c) c.place ++ pattern_breaches_at ms (p ∷ []) s
pattern_breaches_of ms (node.PatternCons place p q) s = pattern_breaches_at ms (p ∷ q ∷ []) s
pattern_breaches_of ms (node.PatternTuple place ps) s = pattern_breaches_at ms ps s
pattern_breaches_of ms (node.PatternOr place p q) s =
    pattern_breaches_at ms (p ∷ q ∷ []) s ++ or_breaches (names_of ms p) (names_of ms q)
pattern_breaches_of ms (node.PatternAlias place p x) s = pattern_breaches_at ms (p ∷ []) s
pattern_breaches_of ms _ s = []

-- the breaches of a pattern that is a group of its own
abbrev pub group_breaches : List Meaning → ℕ → Scope → List Place
group_breaches ms p s = pattern_breaches_at ms (p ∷ []) s ++ twice (names_of ms p)
