-- What a push keeps of an arena.
use Rattle.std.proofs.Common.{◌≡◌, sym, subst, ℕ, suc, ◌+◌, ◌<◌, ◌≤◌, List, [], ◌∷◌, ◌++◌, length, Result, Ok, Err, OnOk, OnErr, arith, length-append}
use Rattle.std.proofs.Math.Nat.{le_refl}
use Rattle.effect_meaning.specs.Arena.{Parts, Counts, counts, Need, ALiteral, AType, APattern, ATerm, ATypeRow, AVariantRow, AFieldRow, AnExceptionRow, AnEffectRow, ACharacter, AnInteger, Met, AllMet, EachStands, types_below, patterns_below, terms_below, AllStand, IsArena, TypeStands, PatternStands, TermStands, VariantStands, FieldStands, ExceptionStands, EffectStands, ItemStands, type_needs, pattern_needs, term_needs, variant_needs, field_needs, exception_needs, effect_needs, item_needs}
use Rattle.effect_meaning.specs.declared.core_nodes.TypeExpression.{TypeExpression}
use Rattle.effect_meaning.specs.declared.core_nodes.PatternNode.{PatternNode}
use Rattle.effect_meaning.specs.declared.core_nodes.TermNode.{TermNode}
use Rattle.effect_meaning.specs.declared.core_tables.TypeRow.{TypeRow}
use Rattle.effect_meaning.specs.declared.core_tables.VariantRow.{VariantRow}
use Rattle.effect_meaning.specs.declared.core_tables.FieldRow.{FieldRow}
use Rattle.effect_meaning.specs.declared.core_tables.ExceptionRow.{ExceptionRow}
use Rattle.effect_meaning.specs.declared.core_tables.EffectRow.{EffectRow}
use Rattle.effect_meaning.specs.declared.core_tables.Item.{Item}

-- the one arena has at most as much of each sort as the other
pub record AtMost (c d : Counts) : Type 0 where
  pub literals : c.literals ≤ d.literals
  pub types : c.types ≤ d.types
  pub patterns : c.patterns ≤ d.patterns
  pub terms : c.terms ≤ d.terms
  pub type_rows : c.type_rows ≤ d.type_rows
  pub variant_rows : c.variant_rows ≤ d.variant_rows
  pub field_rows : c.field_rows ≤ d.field_rows
  pub exception_rows : c.exception_rows ≤ d.exception_rows
  pub effect_rows : c.effect_rows ≤ d.effect_rows

less_more : (n a b : ℕ) → a ≤ b → n < a → n < b
less_more n a b h k = omega (arith, h, k)

-- what is met stays so where there is more
pub met_more : (c d : Counts) → AtMost c d → (n : Need) → Met c n → Met d n
met_more c d m (ALiteral n) h = less_more n c.literals d.literals m.literals h
met_more c d m (AType n) h = less_more n c.types d.types m.types h
met_more c d m (APattern n) h = less_more n c.patterns d.patterns m.patterns h
met_more c d m (ATerm n) h = less_more n c.terms d.terms m.terms h
met_more c d m (ATypeRow n) h = less_more n c.type_rows d.type_rows m.type_rows h
met_more c d m (AVariantRow n) h = less_more n c.variant_rows d.variant_rows m.variant_rows h
met_more c d m (AFieldRow n) h = less_more n c.field_rows d.field_rows m.field_rows h
met_more c d m (AnExceptionRow n) h = less_more n c.exception_rows d.exception_rows m.exception_rows h
met_more c d m (AnEffectRow n) h = less_more n c.effect_rows d.effect_rows m.effect_rows h
met_more c d m (ACharacter n) h = h
met_more c d m (AnInteger n) h = h

pub all_met_more : (c d : Counts) → AtMost c d → (ns : List Need) → AllMet c ns → AllMet d ns
all_met_more c d m [] h = tt
all_met_more c d m (n ∷ ns) h = (met_more c d m n h.0, all_met_more c d m ns h.1)

module _ {X : Type 0} (needs : X → List Need) where
  -- each still stands where there is more
  pub each_more : (there more : ℕ → Counts) → ((i : ℕ) → AtMost (there i) (more i)) → (i : ℕ) (xs : List X)
      → EachStands (λ c x. AllMet c (needs x)) there i xs → EachStands (λ c x. AllMet c (needs x)) more i xs
  each_more there more m i [] h = tt
  each_more there more m i (x ∷ xs) h =
      (all_met_more (there i) (more i) (m i) (needs x) h.0, each_more there more m (suc i) xs h.1)

  -- one more at the end
  pub each_push : (there : ℕ → Counts) (i j : ℕ) (xs : List X) (x : X) → i + length xs ≡ j
      → EachStands (λ c y. AllMet c (needs y)) there i xs → AllMet (there j) (needs x)
      → EachStands (λ c y. AllMet c (needs y)) there i (xs ++ x ∷ [])
  each_push there i j [] x e h k = let f : j ≡ i = omega (arith, e) in (subst (λ l. AllMet (there l) (needs x)) f k, tt)
  each_push there i j (y ∷ ys) x e h k = let f : suc i + length ys ≡ j = omega (arith, e) in (h.0, each_push there (suc i) j ys x f h.1 k)

pub most_refl : (c : Counts) → AtMost c c
most_refl c = record {
  literals = le_refl c.literals;
  types = le_refl c.types;
  patterns = le_refl c.patterns;
  terms = le_refl c.terms;
  type_rows = le_refl c.type_rows;
  variant_rows = le_refl c.variant_rows;
  field_rows = le_refl c.field_rows;
  exception_rows = le_refl c.exception_rows;
  effect_rows = le_refl c.effect_rows;
}

-- all that stands still does where there is more
pub stand_more : (c d : Counts) (p : Parts) → AtMost c d → AllStand c p → AllStand d p
stand_more c d p m h = record {
  types = each_more type_needs (types_below c) (types_below d) types_more 0 p.types h.types;
  patterns = each_more (λ n. pattern_needs n.form) (patterns_below c) (patterns_below d) patterns_more 0 p.patterns h.patterns;
  terms = each_more (λ n. term_needs n.form) (terms_below c) (terms_below d) terms_more 0 p.terms h.terms;
  variant_rows = each_more variant_needs (λ i. c) (λ i. d) (λ i. m) 0 p.variant_rows h.variant_rows;
  field_rows = each_more field_needs (λ i. c) (λ i. d) (λ i. m) 0 p.field_rows h.field_rows;
  exception_rows = each_more exception_needs (λ i. c) (λ i. d) (λ i. m) 0 p.exception_rows h.exception_rows;
  effect_rows = each_more effect_needs (λ i. c) (λ i. d) (λ i. m) 0 p.effect_rows h.effect_rows;
  items = each_more (λ i. item_needs i.form) (λ i. c) (λ i. d) (λ i. m) 0 p.items h.items;
}
  where
    types_more : (i : ℕ) → AtMost (types_below c i) (types_below d i)
    types_more i = assumption (m, le_refl i)

    patterns_more : (i : ℕ) → AtMost (patterns_below c i) (patterns_below d i)
    patterns_more i = assumption (m, le_refl i)

    terms_more : (i : ℕ) → AtMost (terms_below c i) (terms_below d i)
    terms_more i = assumption (m, le_refl i)

-- a list that is longer by one
pub longer : {X : Type 0} (xs : List X) (x : X) → length xs ≤ length (xs ++ x ∷ [])
longer xs x = omega (arith, length-append xs (x ∷ []))

-- a list after a push that may be refused
pub pushed : {X T E : Type 0} (r : Result T E) (new old : List X) (x : X) (P : List X → Type 0)
    → OnOk r (new ≡ old ++ x ∷ []) → OnErr r (new ≡ old) → P old → P (old ++ x ∷ []) → P new
pushed (Ok t) new old x P ok err h k = subst P (sym ok) k
pushed (Err e) new old x P ok err h k = subst P (sym err) h

-- the numbers in a list begin at 0
from_zero : {X : Type 0} (xs : List X) → 0 + length xs ≡ length xs
from_zero xs = omega arith

pub with_literal : (p : Parts) (x : List ℕ) → IsArena p → IsArena (record p { literals = p.literals ++ x ∷ [] })
with_literal p x h = assumption (stand_more (counts p) (counts q) p more h)
  where
    q : Parts
    q = record p { literals = p.literals ++ x ∷ [] }

    more : AtMost (counts p) (counts q)
    more = assumption (most_refl (counts p), longer p.literals x)

pub with_type : (p : Parts) (x : TypeExpression) → IsArena p → TypeStands (counts p) x → IsArena (record p { types = p.types ++ x ∷ [] })
with_type p x h k = assumption (stand_more (counts p) (counts q) p more h, pushed_there)
  where
    q : Parts
    q = record p { types = p.types ++ x ∷ [] }

    more : AtMost (counts p) (counts q)
    more = assumption (most_refl (counts p), longer p.types x)

    pushed_there : EachStands TypeStands (types_below (counts q)) 0 (p.types ++ x ∷ [])
    pushed_there = each_push type_needs (types_below (counts q)) 0 (length p.types) p.types x (from_zero p.types) (stand_more (counts p) (counts q) p more h).types k

pub with_pattern : (p : Parts) (x : PatternNode) → IsArena p → PatternStands (counts p) x → IsArena (record p { patterns = p.patterns ++ x ∷ [] })
with_pattern p x h k = assumption (stand_more (counts p) (counts q) p more h, pushed_there)
  where
    q : Parts
    q = record p { patterns = p.patterns ++ x ∷ [] }

    more : AtMost (counts p) (counts q)
    more = assumption (most_refl (counts p), longer p.patterns x)

    pushed_there : EachStands PatternStands (patterns_below (counts q)) 0 (p.patterns ++ x ∷ [])
    pushed_there = each_push (λ n. pattern_needs n.form) (patterns_below (counts q)) 0 (length p.patterns) p.patterns x (from_zero p.patterns) (stand_more (counts p) (counts q) p more h).patterns k

pub with_term : (p : Parts) (x : TermNode) → IsArena p → TermStands (counts p) x → IsArena (record p { terms = p.terms ++ x ∷ [] })
with_term p x h k = assumption (stand_more (counts p) (counts q) p more h, pushed_there)
  where
    q : Parts
    q = record p { terms = p.terms ++ x ∷ [] }

    more : AtMost (counts p) (counts q)
    more = assumption (most_refl (counts p), longer p.terms x)

    pushed_there : EachStands TermStands (terms_below (counts q)) 0 (p.terms ++ x ∷ [])
    pushed_there = each_push (λ n. term_needs n.form) (terms_below (counts q)) 0 (length p.terms) p.terms x (from_zero p.terms) (stand_more (counts p) (counts q) p more h).terms k

pub with_type_row : (p : Parts) (x : TypeRow) → IsArena p → IsArena (record p { type_rows = p.type_rows ++ x ∷ [] })
with_type_row p x h = assumption (stand_more (counts p) (counts q) p more h)
  where
    q : Parts
    q = record p { type_rows = p.type_rows ++ x ∷ [] }

    more : AtMost (counts p) (counts q)
    more = assumption (most_refl (counts p), longer p.type_rows x)

pub with_variant_row : (p : Parts) (x : VariantRow) → IsArena p → VariantStands (counts p) x → IsArena (record p { variant_rows = p.variant_rows ++ x ∷ [] })
with_variant_row p x h k = assumption (stand_more (counts p) (counts q) p more h, pushed_there)
  where
    q : Parts
    q = record p { variant_rows = p.variant_rows ++ x ∷ [] }

    more : AtMost (counts p) (counts q)
    more = assumption (most_refl (counts p), longer p.variant_rows x)

    pushed_there : EachStands VariantStands (λ i. counts q) 0 (p.variant_rows ++ x ∷ [])
    pushed_there = each_push variant_needs (λ i. counts q) 0 (length p.variant_rows) p.variant_rows x (from_zero p.variant_rows) (stand_more (counts p) (counts q) p more h).variant_rows (all_met_more (counts p) (counts q) more (variant_needs x) k)

pub with_field_row : (p : Parts) (x : FieldRow) → IsArena p → FieldStands (counts p) x → IsArena (record p { field_rows = p.field_rows ++ x ∷ [] })
with_field_row p x h k = assumption (stand_more (counts p) (counts q) p more h, pushed_there)
  where
    q : Parts
    q = record p { field_rows = p.field_rows ++ x ∷ [] }

    more : AtMost (counts p) (counts q)
    more = assumption (most_refl (counts p), longer p.field_rows x)

    pushed_there : EachStands FieldStands (λ i. counts q) 0 (p.field_rows ++ x ∷ [])
    pushed_there = each_push field_needs (λ i. counts q) 0 (length p.field_rows) p.field_rows x (from_zero p.field_rows) (stand_more (counts p) (counts q) p more h).field_rows (all_met_more (counts p) (counts q) more (field_needs x) k)

pub with_exception_row : (p : Parts) (x : ExceptionRow) → IsArena p → ExceptionStands (counts p) x → IsArena (record p { exception_rows = p.exception_rows ++ x ∷ [] })
with_exception_row p x h k = assumption (stand_more (counts p) (counts q) p more h, pushed_there)
  where
    q : Parts
    q = record p { exception_rows = p.exception_rows ++ x ∷ [] }

    more : AtMost (counts p) (counts q)
    more = assumption (most_refl (counts p), longer p.exception_rows x)

    pushed_there : EachStands ExceptionStands (λ i. counts q) 0 (p.exception_rows ++ x ∷ [])
    pushed_there = each_push exception_needs (λ i. counts q) 0 (length p.exception_rows) p.exception_rows x (from_zero p.exception_rows) (stand_more (counts p) (counts q) p more h).exception_rows (all_met_more (counts p) (counts q) more (exception_needs x) k)

pub with_effect_row : (p : Parts) (x : EffectRow) → IsArena p → EffectStands (counts p) x → IsArena (record p { effect_rows = p.effect_rows ++ x ∷ [] })
with_effect_row p x h k = assumption (stand_more (counts p) (counts q) p more h, pushed_there)
  where
    q : Parts
    q = record p { effect_rows = p.effect_rows ++ x ∷ [] }

    more : AtMost (counts p) (counts q)
    more = assumption (most_refl (counts p), longer p.effect_rows x)

    pushed_there : EachStands EffectStands (λ i. counts q) 0 (p.effect_rows ++ x ∷ [])
    pushed_there = each_push effect_needs (λ i. counts q) 0 (length p.effect_rows) p.effect_rows x (from_zero p.effect_rows) (stand_more (counts p) (counts q) p more h).effect_rows (all_met_more (counts p) (counts q) more (effect_needs x) k)

pub with_item : (p : Parts) (x : Item) → IsArena p → ItemStands (counts p) x → IsArena (record p { items = p.items ++ x ∷ [] })
with_item p x h k = assumption (stand_more (counts p) (counts q) p more h, pushed_there)
  where
    q : Parts
    q = record p { items = p.items ++ x ∷ [] }

    more : AtMost (counts p) (counts q)
    more = most_refl (counts p)

    pushed_there : EachStands ItemStands (λ i. counts q) 0 (p.items ++ x ∷ [])
    pushed_there = each_push (λ i. item_needs i.form) (λ i. counts q) 0 (length p.items) p.items x (from_zero p.items) (stand_more (counts p) (counts q) p more h).items (all_met_more (counts p) (counts q) more (item_needs x.form) k)
