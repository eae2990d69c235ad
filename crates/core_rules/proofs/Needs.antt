-- Tests of needs: what a test that holds means, and the tests of lists of parts.
use Rattle.std.proofs.Common.{◌≡◌, ℕ, ◌<◌, ◌^◌, ◌-◌, pos, neg_ℤ, ◌≤ℤ◌, Bool, true, false, ◌&&◌, List, [], ◌∷◌, ◌++◌, map, flat_map, nat_lt, int_le, refl, ap, sym, ◌∙◌, arith}
use Rattle.std.specs.List.{list_all}
use Rattle.std.proofs.lemmas.Grind.{common_steps}
use Rattle.std.proofs.lemmas.List.Folds.{list_all-append}
use Rattle.effect_meaning.specs.Arena.{Counts, Need, ALiteral, AType, APattern, ATerm, ATypeRow, AVariantRow, AFieldRow, AnExceptionRow, AnEffectRow, ACharacter, AnInteger, Met, AllMet, record_needs, clause_needs, effect_clause_needs, function_needs}
use Rattle.effect_meaning.specs.declared.core_nodes.FieldPart.{FieldPart}
use Rattle.effect_meaning.specs.declared.core_nodes.Clause.{Clause}
use Rattle.effect_meaning.specs.declared.core_nodes.EffectClause.{EffectClause}
use Rattle.effect_meaning.specs.declared.core_nodes.Function.{Function}
use Rattle.core_rules.specs.Stands.{is_met, are_met, all_below, fields_below}

pub met_is : (c : Counts) (need : Need) → is_met c need ≡ true → Met c need
met_is c (ALiteral n) h = grind arith
met_is c (AType n) h = grind arith
met_is c (APattern n) h = grind arith
met_is c (ATerm n) h = grind arith
met_is c (ATypeRow n) h = grind arith
met_is c (AVariantRow n) h = grind arith
met_is c (AFieldRow n) h = grind arith
met_is c (AnExceptionRow n) h = grind arith
met_is c (AnEffectRow n) h = grind arith
met_is c (ACharacter n) h = grind arith
met_is c (AnInteger n) h = grind (arith, common_steps)

-- a test that holds means that each need is met
pub met_all : (c : Counts) (needs : List Need) → are_met c needs ≡ true → AllMet c needs
met_all c [] h = tt
met_all c (n ∷ ns) h =
    let first : is_met c n ≡ true = grind arith in
    let rest : are_met c ns ≡ true = grind arith in
    (met_is c n first, met_all c ns rest)

pub met_append : (c : Counts) (ns ms : List Need) → are_met c (ns ++ ms) ≡ (are_met c ns && are_met c ms)
met_append c ns ms = list_all-append (is_met c) ns ms

-- the needs that each element of a list has
each_met : {X : Type 0} (p : Need → Bool) (f : X → List Need) (xs : List X) → list_all p (flat_map f xs) ≡ list_all (λ x. list_all p (f x)) xs
each_met p f [] = refl
each_met p f (x ∷ xs) = list_all-append p (f x) (flat_map f xs) ∙ ap (λ b. list_all p (f x) && b) (each_met p f xs)

pub clauses_met : (c : Counts) (ks : List Clause) → are_met c (flat_map clause_needs ks) ≡ list_all (λ k. are_met c (clause_needs k)) ks
clauses_met c ks = each_met (is_met c) clause_needs ks

pub effect_clauses_met : (c : Counts) (ks : List EffectClause) → are_met c (flat_map effect_clause_needs ks) ≡ list_all (λ k. are_met c (effect_clause_needs k)) ks
effect_clauses_met c ks = each_met (is_met c) effect_clause_needs ks

pub functions_met : (c : Counts) (fs : List Function) → are_met c (flat_map function_needs fs) ≡ list_all (λ f. are_met c (function_needs f)) fs
functions_met c fs = each_met (is_met c) function_needs fs

-- numbers that are all below one
pub below_is : (k : ℕ) (ns : List ℕ) → list_all (λ n. nat_lt n k) ns ≡ all_below k ns
below_is k [] = refl
below_is k (n ∷ ns) = ap (λ b. nat_lt n k && b) (below_is k ns)

pub fields_below_is : (k m : ℕ) (fs : List FieldPart) → list_all (λ f. nat_lt f.field k && nat_lt f.part m) fs ≡ fields_below k m fs
fields_below_is k m [] = refl
fields_below_is k m (f ∷ fs) = ap (λ b. (nat_lt f.field k && nat_lt f.part m) && b) (fields_below_is k m fs)

-- the parts of one sort
pub types_met : (c : Counts) (ns : List ℕ) → are_met c (map AType ns) ≡ all_below c.types ns
types_met c [] = refl
types_met c (n ∷ ns) = ap (λ b. nat_lt n c.types && b) (types_met c ns)

pub patterns_met : (c : Counts) (ns : List ℕ) → are_met c (map APattern ns) ≡ all_below c.patterns ns
patterns_met c [] = refl
patterns_met c (n ∷ ns) = ap (λ b. nat_lt n c.patterns && b) (patterns_met c ns)

pub terms_met : (c : Counts) (ns : List ℕ) → are_met c (map ATerm ns) ≡ all_below c.terms ns
terms_met c [] = refl
terms_met c (n ∷ ns) = ap (λ b. nat_lt n c.terms && b) (terms_met c ns)

pub type_rows_met : (c : Counts) (ns : List ℕ) → are_met c (map ATypeRow ns) ≡ all_below c.type_rows ns
type_rows_met c [] = refl
type_rows_met c (n ∷ ns) = ap (λ b. nat_lt n c.type_rows && b) (type_rows_met c ns)

pub effect_rows_met : (c : Counts) (ns : List ℕ) → are_met c (map AnEffectRow ns) ≡ all_below c.effect_rows ns
effect_rows_met c [] = refl
effect_rows_met c (n ∷ ns) = ap (λ b. nat_lt n c.effect_rows && b) (effect_rows_met c ns)

-- the fields of a record
pub pattern_fields_met : (c : Counts) (fs : List FieldPart) → are_met c (record_needs APattern fs) ≡ fields_below c.field_rows c.patterns fs
pattern_fields_met c [] = refl
pattern_fields_met c (f ∷ fs) = let rest = pattern_fields_met c fs in grind arith

pub term_fields_met : (c : Counts) (fs : List FieldPart) → are_met c (record_needs ATerm fs) ≡ fields_below c.field_rows c.terms fs
term_fields_met c [] = refl
term_fields_met c (f ∷ fs) = let rest = term_fields_met c fs in grind arith
