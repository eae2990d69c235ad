-- Counting ends.
use Rattle.std.proofs.Common.{◌≡◌, ◌≢◌, ℕ, zero, suc, ◌+◌, ◌*◌, ◌≤◌, ◌<◌, List, [], ◌∷◌, length, Option, Some, None, refl, sym, ◌∙◌, ap, subst, arith, ⊎_elim, slice_set, replicate}
use Rattle.std.specs.Prelude.{option_and_then, slice_index_or}
use Rattle.std.proofs.Math.Nat.{mul-le-mul}
use Rattle.std.proofs.lemmas.Bool.Decides.{eqb_tells, leb_tells}
use Rattle.std.proofs.lemmas.List.{get_or-set_same, length-replicate}
use Rattle.std.proofs.lemmas.List.Sums.{sum_by-le}
use Rattle.type_terms.specs.TypeTrees.{Ty}
use Rattle.type_graph.specs.declared.sizes.Count.{Count}
use Rattle.type_graph.specs.declared.sizes.Size.{Size}
use Rattle.type_graph.specs.declared.sizes.Size.TheVariants.{Unknown, Open, Known}
use Rattle.type_graph.specs.Graph.{Graph, root, form_of, argument_of}
use Rattle.type_graph.specs.Sized.{Counting, counting, size_at, ended, part_met, stepped, finished, type_counted, types_counted, all_counted}
use Rattle.type_readings.specs.Readings.{Reads}
use Rattle.type_readings.specs.WellFormed.{IsWellFormed}
use Rattle.type_readings.proofs.Rows.{root_is_number}
use Rattle.type_readings.proofs.Steps.{arguments_not_more}
use Rattle.type_readings.proofs.Counting.{Counted, Stepped, StaysKnown, steps_of, all_steps, ended_step, known_step, begun_step, begun_is, stays_set}
use Rattle.type_readings.proofs.Cycles.{part_is_number, no_cycle}

all_unknown : (n q : ℕ) → size_at (replicate n Unknown) q ≡ Unknown
all_unknown zero q = refl
all_unknown (suc n) zero = refl
all_unknown (suc n) (suc q) = all_unknown n q

apart_above : (n m : ℕ) → n ≢ m → n ≤ m → n + 1 ≤ m
apart_above n m h k =
    ⊎_elim (λ p. omega arith) (λ p. let same : n ≡ m = omega arith in absurd (h same)) (leb_tells (suc n) m)

-- nothing reads a graph
abbrev pub Unread : Graph → Type 0
Unread g = (f : ℕ → Ty) → Reads f g → ⊥

abbrev StepOutcome : Graph → List Size → List Count → Option Counting → Type 0
StepOutcome g sizes counts None = Unread g
StepOutcome g sizes counts (Some s) = Stepped g sizes counts s.sizes s.counts

stepped_last :
    (g : Graph) (c : Count) (s : Counting) → argument_of g.arguments (form_of g.nodes c.root) c.counted ≡ None
    → stepped g c s ≡ Some (ended c s)
unfolding stepped
stepped_last g c s e = rw (e, stepped) refl

stepped_next :
    (g : Graph) (c : Count) (s : Counting) (n : ℕ) → argument_of g.arguments (form_of g.nodes c.root) c.counted ≡ Some n
    → stepped g c s ≡ part_met (root g.nodes n) (counting s.sizes (c ∷ s.counts))
unfolding stepped
stepped_next g c s n e = rw (e, stepped) refl

module _ (g : Graph) (well : IsWellFormed g) where
  module _ (c : Count) (cs : List Count) (sizes : List Size) (h : Counted g sizes (c ∷ cs)) where
    met_outcome :
        (n : ℕ) (x : Size) → argument_of g.arguments (form_of g.nodes c.root) c.counted ≡ Some n → size_at sizes (root g.nodes n) ≡ x
        → StepOutcome g sizes (c ∷ cs) (part_met (root g.nodes n) (counting sizes (c ∷ cs)))
    unfolding part_met
    met_outcome n Unknown e is =
        rw is (begun_step g c cs sizes n h e is (root_is_number g well n (part_is_number g well c.root c.counted n e)))
    met_outcome n Open e is = rw is (λ f reads. no_cycle f g well reads c cs n (h.opened (root g.nodes n) is) h.chain e)
    met_outcome n (Known k) e is = rw is (known_step g well c cs sizes n k h e is)

    outcome_of_part :
        (o : Option ℕ) → argument_of g.arguments (form_of g.nodes c.root) c.counted ≡ o
        → StepOutcome g sizes (c ∷ cs) (stepped g c (counting sizes cs))
    outcome_of_part None e =
        subst (StepOutcome g sizes (c ∷ cs)) (sym (stepped_last g c (counting sizes cs) e)) (ended_step g well c cs sizes h e)
    outcome_of_part (Some n) e =
        subst (StepOutcome g sizes (c ∷ cs)) (sym (stepped_next g c (counting sizes cs) n e))
        (met_outcome n (size_at sizes (root g.nodes n)) e refl)

    step_outcome : StepOutcome g sizes (c ∷ cs) (stepped g c (counting sizes cs))
    step_outcome = outcome_of_part (argument_of g.arguments (form_of g.nodes c.root) c.counted) refl

-- all is counted
pub record Finished (g : Graph) (sizes : List Size) (s : Counting) : Type 0 where
  pub is_counted : Counted g s.sizes []
  pub none_left : s.counts ≡ []
  pub stays : StaysKnown sizes s.sizes

abbrev FinishOutcome : Graph → List Size → List Count → (steps : ℕ) → Option Counting → Type 0
FinishOutcome g sizes counts steps None = all_steps g sizes counts ≤ steps → Unread g
FinishOutcome g sizes counts steps (Some s) = Finished g sizes s

module _ (g : Graph) (well : IsWellFormed g) where
  -- a step before
  step_before :
      (k : ℕ) (sizes others : List Size) (counts further : List Count) → Stepped g sizes counts others further → (o : Option Counting)
      → FinishOutcome g others further k o → FinishOutcome g sizes counts (suc k) o
  step_before k sizes others counts further x None h = λ le. let fewer = x.fewer in h (omega arith)
  step_before k sizes others counts further x (Some s) h =
      record { is_counted = h.is_counted; none_left = h.none_left; stays = λ q p. x.stays q (h.stays q p) }

  after_step :
      (k : ℕ) (sizes : List Size) (counts : List Count)
      → ((others : List Size) (further : List Count) → Counted g others further → FinishOutcome g others further k (finished k g others further))
      → (o : Option Counting) → StepOutcome g sizes counts o
      → FinishOutcome g sizes counts (suc k) (option_and_then (λ s. finished k g s.sizes s.counts) o)
  after_step k sizes counts others None h = λ le. h
  after_step k sizes counts others (Some s) h =
      step_before k sizes s.sizes counts s.counts h (finished k g s.sizes s.counts) (others s.sizes s.counts h.is_counted)

  finish_outcome :
      (steps : ℕ) (sizes : List Size) (counts : List Count) → Counted g sizes counts
      → FinishOutcome g sizes counts steps (finished steps g sizes counts)
  unfolding finished
  finish_outcome steps sizes [] h = record { is_counted = h; none_left = refl; stays = λ q p. p }
  finish_outcome zero sizes (c ∷ cs) h =
      λ le.
      let in_parts = h.partly.0.in_parts in
      let few = arguments_not_more g.arguments (form_of g.nodes c.root) in
      absurd (omega arith)
  finish_outcome (suc k) sizes (c ∷ cs) h =
      after_step k sizes (c ∷ cs) (λ others further x. finish_outcome k others further x) (stepped g c (counting sizes cs))
      (step_outcome g well c cs sizes h)

  abbrev TypeOutcome : List Size → ℕ → Option Counting → Type 0
  TypeOutcome sizes n None = Unread g
  TypeOutcome sizes n (Some s) = Finished g sizes s × (size_at s.sizes (root g.nodes n) ≡ Unknown → ⊥)

  size_steps : (a : ℕ) (x : Size) → steps_of a x ≤ a + 2
  size_steps a Unknown = omega arith
  size_steps a Open = omega arith
  size_steps a (Known k) = omega arith

  -- there are steps enough
  enough_steps : (sizes : List Size) (r : ℕ) → length sizes ≡ length g.nodes → all_steps g sizes (record { root = r; counted = 0; total = 1 } ∷ []) ≤ 18446744073709551615
  enough_steps sizes r long =
      let a = length g.arguments in
      let sum = sum_by-le (steps_of a) (a + 2) sizes (λ k d p. size_steps a (slice_index_or sizes k d)) in
      let room = well.room in
      let argument_room = well.argument_room in
      let types : length sizes ≤ 33554432 = omega arith in
      let arguments : a + 2 ≤ 67108866 = omega arith in
      let most : length sizes * (a + 2) ≤ 33554432 * 67108866 = mul-le-mul types arguments in
      omega arith

  begun_outcome :
      (n : ℕ) (sizes : List Size) → Counted g sizes [] → n < length g.nodes → (o : Option Counting)
      → FinishOutcome g (slice_set sizes (root g.nodes n) Open) (record { root = root g.nodes n; counted = 0; total = 1 } ∷ []) 18446744073709551615 o
      → TypeOutcome sizes n o
  begun_outcome n sizes h lt None x =
      x (enough_steps (slice_set sizes (root g.nodes n) Open) (root g.nodes n) (begun_is g sizes (root g.nodes n) [] h tt).long)
  begun_outcome n sizes h lt (Some s) x =
      let r = root g.nodes n in
      let within = root_is_number g well n lt in
      let long = h.long in
      let there : r < length sizes = omega arith in
      let is_open = get_or-set_same sizes r Open Unknown there in (
        record {
          is_counted = x.is_counted;
          none_left = x.none_left;
          stays = λ q p. stays_set sizes r Open (λ no. absurd (cc)) q (x.stays q p);
        },
        λ p. let no = x.stays r p in absurd (cc),
      )

  type_outcome :
      (n : ℕ) (sizes : List Size) (x : Size) → Counted g sizes [] → n < length g.nodes → size_at sizes (root g.nodes n) ≡ x
      → TypeOutcome sizes n (type_counted g n (counting sizes []))
  unfolding type_counted
  type_outcome n sizes Unknown h lt e =
      let r = root g.nodes n in
      let others = slice_set sizes r Open in
      let first : Count = record { root = r; counted = 0; total = 1 } in
      rw e
      (begun_outcome n sizes h lt (finished 18446744073709551615 g others (first ∷ []))
      (finish_outcome 18446744073709551615 others (first ∷ []) (begun_is g sizes r [] h tt)))
  type_outcome n sizes Open h lt e =
      rw e (record { is_counted = h; none_left = refl; stays = λ q p. p }, λ p. absurd (cc))
  type_outcome n sizes (Known k) h lt e =
      rw e (record { is_counted = h; none_left = refl; stays = λ q p. p }, λ p. absurd (cc))

  -- types from one on
  abbrev pub TypesOutcome : List Size → (n count : ℕ) → Option Counting → Type 0
  TypesOutcome sizes n count None = Unread g
  TypesOutcome sizes n count (Some s) =
      Finished g sizes s × ((m : ℕ) → n ≤ m → m < n + count → size_at s.sizes (root g.nodes m) ≡ Unknown → ⊥)

  -- the first of them before
  type_before :
      (n count : ℕ) (sizes : List Size) (s : Counting) → TypeOutcome sizes n (Some s) → (o : Option Counting)
      → TypesOutcome s.sizes (n + 1) count o → TypesOutcome sizes n (suc count) o
  type_before n count sizes s h None x = x
  type_before n count sizes s h (Some t) x =
      let first = h.0 in
      let rest = x.0 in (
        record { is_counted = rest.is_counted; none_left = rest.none_left; stays = λ q p. first.stays q (rest.stays q p) },
        λ m le lt.
            ⊎_elim
            (λ p. λ e. h.1 (ap (λ k. size_at s.sizes (root g.nodes k)) p.1 ∙ rest.stays (root g.nodes m) e))
            (λ p. let above : n + 1 ≤ m = apart_above n m p.1 le in x.1 m above (omega arith))
            (eqb_tells n m),
      )

  after_type :
      (n count : ℕ) (sizes : List Size)
      → ((others : List Size) → Counted g others [] → TypesOutcome others (n + 1) count (types_counted count (n + 1) g (counting others [])))
      → (o : Option Counting) → TypeOutcome sizes n o
      → TypesOutcome sizes n (suc count) (option_and_then (types_counted count (n + 1) g) o)
  after_type n count sizes others None h = h
  after_type n count sizes others (Some s) h =
      let is : counting s.sizes [] ≡ s = ap (counting s.sizes) (sym h.0.none_left) in
      type_before n count sizes s h (types_counted count (n + 1) g s)
      (subst (λ t. TypesOutcome s.sizes (n + 1) count (types_counted count (n + 1) g t)) is (others s.sizes h.0.is_counted))

  types_outcome :
      (count n : ℕ) (sizes : List Size) → Counted g sizes [] → n + count ≤ length g.nodes
      → TypesOutcome sizes n count (types_counted count n g (counting sizes []))
  unfolding types_counted
  types_outcome zero n sizes h le = (
    record { is_counted = h; none_left = refl; stays = λ q p. p },
    λ m low high. absurd (omega arith),
  )
  types_outcome (suc count) n sizes h le =
      after_type n count sizes (λ others x. types_outcome count (n + 1) others x (omega arith)) (type_counted g n (counting sizes []))
      (type_outcome n sizes (size_at sizes (root g.nodes n)) h (omega arith) refl)

  -- of no type is the size known
  start : Counted g (replicate (length g.nodes) Unknown) []
  start =
      let none = all_unknown (length g.nodes) in
      record {
        long = length-replicate (length g.nodes) Unknown;
        known = λ q k e. let is = none q in absurd (cc);
        partly = tt;
        opened = λ q e. let is = none q in absurd (cc);
        chain = tt;
      }

  pub all_outcome : TypesOutcome (replicate (length g.nodes) Unknown) 0 (length g.nodes) (all_counted g)
  all_outcome = types_outcome (length g.nodes) 0 (replicate (length g.nodes) Unknown) start (omega arith)
