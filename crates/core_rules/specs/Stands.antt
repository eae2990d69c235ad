-- Whether all that a node or a row names stands in an arena, as a test that computes.
use Rattle.std.specs.Prelude.{ℕ, ◌-◌, ◌^◌, pos, neg_ℤ, int_le, Bool, true, ◌&&◌, nat_lt, List, [], ◌∷◌, Option, Some, None}
use Rattle.std.specs.List.{list_all}
use Rattle.effect_meaning.specs.declared.core_nodes.FieldPart.{FieldPart}
use Rattle.effect_meaning.specs.Arena.{Counts, Need, ALiteral, AType, APattern, ATerm, ATypeRow, AVariantRow, AFieldRow, AnExceptionRow, AnEffectRow, ACharacter, AnInteger}

-- whether a need is met where so many nodes and rows stand
abbrev pub is_met : Counts → Need → Bool
is_met c (ALiteral n) = nat_lt n c.literals
is_met c (AType n) = nat_lt n c.types
is_met c (APattern n) = nat_lt n c.patterns
is_met c (ATerm n) = nat_lt n c.terms
is_met c (ATypeRow n) = nat_lt n c.type_rows
is_met c (AVariantRow n) = nat_lt n c.variant_rows
is_met c (AFieldRow n) = nat_lt n c.field_rows
is_met c (AnExceptionRow n) = nat_lt n c.exception_rows
is_met c (AnEffectRow n) = nat_lt n c.effect_rows
is_met c (ACharacter n) = nat_lt n 256
is_met c (AnInteger n) = int_le (neg_ℤ (pos (2 ^ 62))) n && int_le n (pos (2 ^ 62 - 1))

-- whether each of the needs is met
abbrev pub are_met : Counts → List Need → Bool
are_met c needs = list_all (is_met c) needs

-- whether a number that there may be is below this one
abbrev pub is_some_below : ℕ → Option ℕ → Bool
is_some_below k None = true
is_some_below k (Some n) = nat_lt n k

-- whether all numbers are below this one
abbrev pub all_below : ℕ → List ℕ → Bool
all_below k [] = true
all_below k (n ∷ ns) = nat_lt n k && all_below k ns

-- whether all fields are below the first number, and their parts below the second
abbrev pub fields_below : ℕ → ℕ → List FieldPart → Bool
fields_below k m [] = true
fields_below k m (f ∷ fs) = (nat_lt f.field k && nat_lt f.part m) && fields_below k m fs
