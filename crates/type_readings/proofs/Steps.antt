-- What comes of pairs that are made equal, step by step.
use Rattle.std.proofs.Common.{◌≡◌, ◌≢◌, ℕ, zero, suc, ◌+◌, ◌*◌, ◌≤◌, ◌<◌, ◌==◌, List, [], ◌∷◌, ◌++◌, length, reverse, zip, true, false, refl, sym, ◌∙◌, ap, subst, arith}
use Rattle.std.proofs.Math.Nat.{suc-mul}
use Rattle.std.proofs.lemmas.Bool.{eqb-true}
use Rattle.std.proofs.lemmas.Bool.Decides.{nat_tests}
use Rattle.std.proofs.lemmas.List.{length-append, length-reverse}
use Rattle.type_terms.specs.TypeTrees.{Ty}
use Rattle.type_graph.specs.declared.form.Form.{Form}
use Rattle.type_graph.specs.declared.form.Form.TheVariants.{Variable, Link, Applied}
use Rattle.type_graph.specs.Graph.{Graph, node_at, root, arguments_of}
use Rattle.type_graph.specs.Unified.{clash, merge, argument_pairs, Pairs, pairs, roots_joined, onward, Unified, unified, unified_is}
use Rattle.type_readings.specs.Readings.{IsOfForm, Reads, AllEqual}
use Rattle.type_readings.specs.WellFormed.{AreNumbers, ArePairs, IsWellFormed}
use Rattle.type_readings.proofs.Lists.{each_appended, each_parted, each_reversed, each_turned_back, each_of_part, part_not_longer, pairs_of_numbers}
use Rattle.type_readings.proofs.Forms.{equal_arguments, of_no_clash}
use Rattle.type_readings.proofs.Rows.{root_is_root, root_is_number, root_is_equal}
use Rattle.type_readings.proofs.Behind.{roots, Behind, if_either, argument_zip, behind_merge}

-- what is known of the graph behind all pairs
pub record Outcome (f : ℕ → Ty) (steps : ℕ) (ps : List (ℕ × ℕ)) (g : Graph) (o : Unified) : Type 0 where
  pub well : IsWellFormed o.types
  pub as_many : length o.types.nodes ≡ length g.nodes
  pub same_arguments : o.types.arguments ≡ g.arguments
  pub back : o.fits ≡ true → Reads f o.types → Reads f g × AllEqual f ps
  pub on : o.fits ≡ true → Reads f g → AllEqual f ps → Reads f o.types
  pub refuses : o.fits ≡ false → length ps + roots g.nodes * length g.arguments ≤ steps → Reads f g → AllEqual f ps → ⊥

-- the arguments of a form are numbers of types, and not more than there are
pub numbers_of_form : (types : ℕ) (arguments : List ℕ) (a : Form) → AreNumbers types arguments → AreNumbers types (arguments_of arguments a)
numbers_of_form types arguments Variable h = tt
numbers_of_form types arguments (Link m) h = tt
numbers_of_form types arguments (Applied c first count) h = each_of_part (λ n. n < types) arguments first count h

pub arguments_not_more : (arguments : List ℕ) (a : Form) → length (arguments_of arguments a) ≤ length arguments
arguments_not_more arguments Variable = omega arith
arguments_not_more arguments (Link m) = omega arith
arguments_not_more arguments (Applied c first count) = part_not_longer arguments first count

zip_not_longer : (xs ys : List ℕ) → length (zip xs ys) ≤ length xs
zip_not_longer [] ys = omega arith
zip_not_longer (x ∷ xs) [] = omega arith
zip_not_longer (x ∷ xs) (y ∷ ys) = let rest = zip_not_longer xs ys in omega arith

-- a root less makes up for its arguments
fewer_steps : (z l r all arguments k : ℕ) → suc l + all * arguments ≤ suc k → suc r ≡ all → z ≤ arguments → z + l + r * arguments ≤ k
fewer_steps z l r all arguments k h e le =
    let product : suc r * arguments ≡ r * arguments + arguments = suc-mul r arguments in
    let same : suc r * arguments ≡ all * arguments = ap (λ n. n * arguments) e in
    omega arith

module _ (f : ℕ → Ty) where
  outcome_done : (steps : ℕ) (g : Graph) → IsWellFormed g → Outcome f steps [] g (unified_is true g)
  outcome_done steps g well = record {
    well = well;
    as_many = refl;
    same_arguments = refl;
    back = λ t r. (r, tt);
    on = λ t r e. r;
    refuses = λ t. absurd (cc);
  }

  -- no step is left
  outcome_stopped : (p : ℕ × ℕ) (ps : List (ℕ × ℕ)) (g : Graph) → IsWellFormed g → Outcome f zero (p ∷ ps) g (unified_is false g)
  outcome_stopped p ps g well = record {
    well = well;
    as_many = refl;
    same_arguments = refl;
    back = λ t. absurd (cc);
    on = λ t. absurd (cc);
    refuses = λ t le r e. absurd (omega arith);
  }

  module _ (k : ℕ) (p : ℕ × ℕ) (ps : List (ℕ × ℕ)) (g : Graph) (well : IsWellFormed g) where
    -- the roots of the first pair have the trees of the pair
    roots_equal : Reads f g → f p.0 ≡ f p.1 → f (root g.nodes p.0) ≡ f (root g.nodes p.1)
    roots_equal reads e = sym (root_is_equal f g well reads p.0) ∙ e ∙ root_is_equal f g well reads p.1

    pair_equal : Reads f g → f (root g.nodes p.0) ≡ f (root g.nodes p.1) → f p.0 ≡ f p.1
    pair_equal reads e = root_is_equal f g well reads p.0 ∙ e ∙ sym (root_is_equal f g well reads p.1)

    -- both have one root
    outcome_same : (o : Unified) → root g.nodes p.0 ≡ root g.nodes p.1 → Outcome f k ps g o → Outcome f (suc k) (p ∷ ps) g o
    outcome_same o same out = record {
      well = out.well;
      as_many = out.as_many;
      same_arguments = out.same_arguments;
      back = λ t r. let h = out.back t r in (h.0, (pair_equal h.0 (ap f same), h.1));
      on = λ t r e. out.on t r e.1;
      refuses = λ t le r e. out.refuses t (omega arith) r e.1;
    }

    -- two roots clash
    outcome_clash :
        clash (node_at g.nodes (root g.nodes p.0)).form (node_at g.nodes (root g.nodes p.1)).form ≡ true
        → Outcome f (suc k) (p ∷ ps) g (unified_is false g)
    outcome_clash clashes = record {
      well = well;
      as_many = refl;
      same_arguments = refl;
      back = λ t. absurd (cc);
      on = λ t. absurd (cc);
      refuses = λ t le r e.
          let a = root g.nodes p.0 in
          let b = root g.nodes p.1 in
          let x = node_at g.nodes a in
          let y = node_at g.nodes b in
          of_no_clash f g.arguments (length g.nodes) x.form y.form (f a) clashes (well.names a) (well.names b) (r a)
          (subst (IsOfForm f g.arguments y.form) (sym (roots_equal r e.0)) (r b));
    }

    -- then their arguments are equal
    equal_on :
        Reads f g → f p.0 ≡ f p.1 → AllEqual f ps → AllEqual f (reverse (argument_zip g (root g.nodes p.0) (root g.nodes p.1)) ++ ps)
    equal_on reads e rest =
        let a = root g.nodes p.0 in
        let b = root g.nodes p.1 in
        let x = node_at g.nodes a in
        let y = node_at g.nodes b in
        let zs = argument_zip g a b in
        let E : ℕ × ℕ → Type 0 = λ q. f q.0 ≡ f q.1 in
        let equal = equal_arguments f g.arguments x.form y.form (f a) (reads a)
        (subst (IsOfForm f g.arguments y.form) (sym (roots_equal reads e)) (reads b)) in
        each_appended E (reverse zs) ps (each_reversed E zs equal) rest

    steps_left :
        (h : Graph) → suc (roots h.nodes) ≡ roots g.nodes → h.arguments ≡ g.arguments
        → suc (length ps) + roots g.nodes * length g.arguments ≤ suc k
        → length (reverse (argument_zip g (root g.nodes p.0) (root g.nodes p.1)) ++ ps) + roots h.nodes * length h.arguments ≤ k
    steps_left h fewer same le =
        let xs = arguments_of g.arguments (node_at g.nodes (root g.nodes p.0)).form in
        let ys = arguments_of g.arguments (node_at g.nodes (root g.nodes p.1)).form in
        let zs = zip xs ys in
        let short = zip_not_longer xs ys in
        let few = arguments_not_more g.arguments (node_at g.nodes (root g.nodes p.0)).form in
        let long : length (reverse zs ++ ps) ≡ length zs + length ps = simp (length-append, length-reverse) in
        let z : length zs ≤ length g.arguments = omega arith in
        let left = fewer_steps (length zs) (length ps) (roots h.nodes) (roots g.nodes) (length g.arguments) k le fewer z in
        let kept : roots h.nodes * length h.arguments ≡ roots h.nodes * length g.arguments = ap (λ (l : List ℕ). roots h.nodes * length l) same in
        omega arith

    -- the pairs that come then are of numbers
    pub pairs_on :
        (h : Graph) → length h.nodes ≡ length g.nodes → ArePairs (length g.nodes) ps
        → ArePairs (length h.nodes) (reverse (argument_zip g (root g.nodes p.0) (root g.nodes p.1)) ++ ps)
    pairs_on h same rest =
        let types = length g.nodes in
        let x = node_at g.nodes (root g.nodes p.0) in
        let y = node_at g.nodes (root g.nodes p.1) in
        let zs = zip (arguments_of g.arguments x.form) (arguments_of g.arguments y.form) in
        let N : ℕ × ℕ → Type 0 = λ q. (q.0 < types) × (q.1 < types) in
        let new = pairs_of_numbers types (arguments_of g.arguments x.form) (arguments_of g.arguments y.form)
        (numbers_of_form types g.arguments x.form well.numbers) (numbers_of_form types g.arguments y.form well.numbers) in
        subst (λ n. ArePairs n (reverse zs ++ ps)) (sym same) (each_appended N (reverse zs) ps (each_reversed N zs new) rest)

    -- two roots become one
    outcome_joined :
        (h : Graph) (o : Unified)
        → Behind f (root g.nodes p.0) (root g.nodes p.1) (argument_zip g (root g.nodes p.0) (root g.nodes p.1)) g h
        → Outcome f k (reverse (argument_zip g (root g.nodes p.0) (root g.nodes p.1)) ++ ps) h o → Outcome f (suc k) (p ∷ ps) g o
    outcome_joined h o behind out =
        let a = root g.nodes p.0 in
        let b = root g.nodes p.1 in
        let zs = argument_zip g a b in
        let E : ℕ × ℕ → Type 0 = λ q. f q.0 ≡ f q.1 in
        record {
          well = out.well;
          as_many = out.as_many ∙ behind.as_many;
          same_arguments = out.same_arguments ∙ behind.same_arguments;
          back = λ t r.
              let later = out.back t r in
              let parts = each_parted E (reverse zs) ps later.1 in
              let before = behind.back later.0 (each_turned_back E zs parts.0) in
              (before.0, (pair_equal before.0 before.1, parts.1));
          on = λ t r e. out.on t (behind.on r (roots_equal r e.0)) (equal_on r e.0 e.1);
          refuses = λ t le r e. out.refuses t (steps_left h behind.fewer behind.same_arguments le) (behind.on r (roots_equal r e.0)) (equal_on r e.0 e.1);
        }

-- one step after another
pub outcome :
    (f : ℕ → Ty) (steps : ℕ) (ps : List (ℕ × ℕ)) (g : Graph) → IsWellFormed g → ArePairs (length g.nodes) ps
    → Outcome f steps ps g (unified steps ps g)
unfolding unified
outcome f steps [] g well numbers = outcome_done f steps g well
outcome f zero (p ∷ ps) g well numbers = outcome_stopped f p ps g well
outcome f (suc k) (p ∷ ps) g well numbers =
    let a = root g.nodes p.0 in
    let b = root g.nodes p.1 in
    let x = node_at g.nodes a in
    let y = node_at g.nodes b in
    let P : Pairs → Type 0 = λ s. Outcome f (suc k) (p ∷ ps) g (onward s (unified k)) in
    if_either P (a == b) (pairs true ps g) (roots_joined a b ps g)
    (λ e. outcome_same f k p ps g well (unified k ps g) (eqb-true a b e) (outcome f k ps g well numbers.1))
    (λ e.
    if_either P (clash x.form y.form) (pairs false ps g) (pairs true (argument_pairs g x.form y.form ps) (merge a b g))
    (λ c. outcome_clash f k p ps g well c)
    (λ c.
    let h = merge a b g in
    let qs = argument_pairs g x.form y.form ps in
    let apart : a ≢ b = grind (arith, nat_tests) in
    let behind = behind_merge f a b g well apart (root_is_number g well p.0 numbers.0.0) (root_is_number g well p.1 numbers.0.1)
    (root_is_root g well p.0) (root_is_root g well p.1) c in
    outcome_joined f k p ps g well h (unified k qs h) behind
    (outcome f k qs h behind.well (pairs_on f k p ps g well h behind.as_many numbers.1))))
