-- What is known while types are counted.
use Rattle.std.proofs.Common.{◌≡◌, ◌≢◌, ℕ, suc, ◌+◌, ◌-◌, ◌≤◌, ◌<◌, ◌⊎◌, inl, inr, List, [], ◌∷◌, ◌++◌, length, take, Some, None, refl, sym, ◌∙◌, ap, subst, arith, ⊎_elim, slice_set, min}
use Rattle.std.specs.List.{AllByRecursion, sum_by}
use Rattle.std.proofs.Math.Seq.{take-suc}
use Rattle.std.proofs.lemmas.Bool.Decides.{eqb_tells, leb_tells, nat_tests}
use Rattle.std.proofs.lemmas.List.{get_or-set_same, get_or-set_other, get_or_past, set_past, take_all, length-set}
use Rattle.std.proofs.lemmas.List.Sums.{sum_by-set}
use Rattle.std.proofs.lemmas.Option.{slice_get_within, slice_get-get_or, get_or_from_slice_get}
use Rattle.type_terms.specs.TypeTrees.{Ty, TypeVariable, Constructed, Tys, NoTys, AndTy, size, size_of_all}
use Rattle.type_graph.specs.declared.form.Form.{Form}
use Rattle.type_graph.specs.declared.form.Form.TheVariants.{Variable, Link, Applied}
use Rattle.type_graph.specs.declared.sizes.Count.{Count}
use Rattle.type_graph.specs.declared.sizes.Size.{Size}
use Rattle.type_graph.specs.declared.sizes.Size.TheVariants.{Unknown, Open, Known}
use Rattle.type_graph.specs.Graph.{Graph, node_at, root, form_of, link_of, arguments_of, argument_of}
use Rattle.type_graph.specs.Sized.{size_at, capped_sum, part_counted}
use Rattle.type_readings.specs.WellFormed.{IsWellFormed}
use Rattle.type_readings.proofs.Rows.{root_is_root, followed_root}
use Rattle.type_readings.proofs.Steps.{arguments_not_more}
use Rattle.type_readings.proofs.Trees.{TreeOf, TreesOf, with_tree, size_with_tree, trees_with}

-- the arguments of a type
abbrev pub parts_at : Graph → ℕ → List ℕ
parts_at g q = arguments_of g.arguments (form_of g.nodes q)

-- a type has a tree of a size
pub record HasTree (g : Graph) (q k : ℕ) : Type 0 where
  pub tree : Ty
  pub is_tree : TreeOf g tree (root g.nodes q)
  pub is_size : k ≡ min (size tree) 4097

-- the counted parts have trees, of sizes that were summed up
pub record Partly (g : Graph) (c : Count) : Type 0 where
  pub trees : Tys
  pub are_trees : TreesOf g trees (take c.counted (parts_at g c.root))
  pub is_total : c.total ≡ min (suc (size_of_all trees)) 4097
  pub in_parts : c.counted ≤ length (parts_at g c.root)

-- a type is being counted
abbrev pub InStack : ℕ → List Count → Type 0
InStack q [] = ⊥
InStack q (c ∷ cs) = (q ≡ c.root) ⊎ InStack q cs

-- each type that is being counted is the part at hand of the next one
abbrev pub ChainUnder : Graph → ℕ → List Count → Type 0
ChainUnder g q [] = Unit {0}
ChainUnder g q (d ∷ cs) =
    (m : ℕ) × (argument_of g.arguments (form_of g.nodes d.root) d.counted ≡ Some m) × (root g.nodes m ≡ q) × ChainUnder g d.root cs

abbrev pub Chain : Graph → List Count → Type 0
Chain g [] = Unit {0}
Chain g (c ∷ cs) = ChainUnder g c.root cs

-- all of this
pub record Counted (g : Graph) (sizes : List Size) (counts : List Count) : Type 0 where
  pub long : length sizes ≡ length g.nodes
  pub known : (q k : ℕ) → size_at sizes q ≡ Known k → HasTree g q k
  pub partly : AllByRecursion (Partly g) counts
  pub opened : (q : ℕ) → size_at sizes q ≡ Open → InStack q counts
  pub chain : Chain g counts

-- how many steps a type takes at the most, and how many are left to one that is being counted
abbrev pub steps_of : (arguments : ℕ) → Size → ℕ
steps_of arguments Unknown = arguments + 2
steps_of arguments _ = 0

abbrev pub steps_left_in : (arguments : ℕ) → List Count → ℕ
steps_left_in arguments [] = 0
steps_left_in arguments (c ∷ cs) = (arguments + 1 - c.counted) + steps_left_in arguments cs

abbrev pub all_steps : Graph → List Size → List Count → ℕ
all_steps g sizes counts = sum_by (steps_of (length g.arguments)) sizes + steps_left_in (length g.arguments) counts

-- what isn't unknown stays so
abbrev pub StaysKnown : (before after : List Size) → Type 0
StaysKnown before after = (q : ℕ) → size_at after q ≡ Unknown → size_at before q ≡ Unknown

-- one step
pub record Stepped (g : Graph) (sizes : List Size) (counts : List Count) (others : List Size) (further : List Count) : Type 0 where
  pub is_counted : Counted g others further
  pub stays : StaysKnown sizes others
  pub fewer : suc (all_steps g others further) ≤ all_steps g sizes counts

-- a size is set, or not
pub size_set :
    (sizes : List Size) (r : ℕ) (k : Size) (q : ℕ)
    → ((q ≡ r) × (r < length sizes) × (size_at (slice_set sizes r k) q ≡ k))
    ⊎ ((q ≡ r → size_at sizes q ≡ Unknown) × (size_at (slice_set sizes r k) q ≡ size_at sizes q))
size_set sizes r k q =
    ⊎_elim
    (λ p.
    ⊎_elim
    (λ l. inl (p.1, l.1, ap (size_at (slice_set sizes r k)) p.1 ∙ get_or-set_same sizes r k Unknown l.1))
    (λ l.
    inr (
      λ e. ap (size_at sizes) p.1 ∙ get_or_past sizes r Unknown (omega arith),
      ap (λ (s : List Size). size_at s q) (set_past sizes r k (omega arith)),
    ))
    (leb_tells (suc r) (length sizes)))
    (λ p. inr (λ e. absurd (p.1 e), get_or-set_other sizes r q k Unknown p.1))
    (eqb_tells q r)

-- what is set to a tree's size has one
pub known_set :
    (g : Graph) (sizes : List Size) (r : ℕ) (x : Size) → ((k : ℕ) → x ≡ Known k → HasTree g r k)
    → ((q k : ℕ) → size_at sizes q ≡ Known k → HasTree g q k) → (q k : ℕ) → size_at (slice_set sizes r x) q ≡ Known k → HasTree g q k
known_set g sizes r x here known q k e =
    ⊎_elim
    (λ p. subst (λ n. HasTree g n k) (sym p.0) (here k (sym p.2 ∙ e)))
    (λ p. known q k (sym p.1 ∙ e))
    (size_set sizes r x q)

pub stays_set : (sizes : List Size) (r : ℕ) (x : Size) → x ≢ Unknown → StaysKnown sizes (slice_set sizes r x)
stays_set sizes r x is q e = ⊎_elim (λ p. absurd (is (sym p.2 ∙ e))) (λ p. sym p.1 ∙ e) (size_set sizes r x q)

-- a sum of sizes that is capped twice
pub capped : (a b : ℕ) → min (min a 4097 + min b 4097) 4097 ≡ min (a + b) 4097
capped a b = grind (arith, nat_tests)

plus_one : (n : ℕ) → n + 1 ≡ suc n
plus_one n = omega arith

suc_sum : (a b c : ℕ) → c ≡ a + b → suc a + b ≡ suc c
suc_sum a b c e = omega arith

-- what is in the stack, and isn't the first
not_first : (q r : ℕ) (cs : List Count) → q ≢ r → (q ≡ r) ⊎ InStack q cs → InStack q cs
not_first q r cs apart h = ⊎_elim (λ p. absurd (apart p)) (λ p. p) h

module _ (g : Graph) (well : IsWellFormed g) where
  root_again : (n : ℕ) → root g.nodes (root g.nodes n) ≡ root g.nodes n
  root_again n = followed_root 32 g.nodes (root g.nodes n) (root_is_root g well n)

  -- all parts of a type are counted
  all_parts :
      (a : Form) (q total : ℕ) (ts : Tys) → (node_at g.nodes (root g.nodes q)).form ≡ a → link_of a ≡ None
      → TreesOf g ts (arguments_of g.arguments a) → total ≡ min (suc (size_of_all ts)) 4097 → HasTree g q total
  all_parts Variable q total NoTys e r h k = record { tree = TypeVariable (root g.nodes q); is_tree = (refl, e); is_size = k }
  all_parts Variable q total (AndTy t ts) e r h k = absurd h
  all_parts (Link m) q total ts e r h k = absurd (cc)
  all_parts (Applied c first count) q total ts e r h k = record { tree = Constructed c ts; is_tree = (first, count, e, h); is_size = k }

  ended_tree : (c : Count) → Partly g c → argument_of g.arguments (form_of g.nodes c.root) c.counted ≡ None → HasTree g c.root c.total
  ended_tree c h e =
      let xs = parts_at g c.root in
      let all : length xs ≤ c.counted =
      ⊎_elim
      (λ p. let some = slice_get-get_or xs c.counted 0 p.1 in absurd (cc))
      (λ p. omega arith)
      (leb_tells (suc c.counted) (length xs)) in
      all_parts (form_of g.nodes c.root) c.root c.total h.trees refl (root_is_root g well c.root)
      (subst (TreesOf g h.trees) (take_all c.counted xs all) h.are_trees) h.is_total

  -- one more part is counted
  part_more :
      (d : Count) (m k : ℕ) (t : Ty) → Partly g d → argument_of g.arguments (form_of g.nodes d.root) d.counted ≡ Some m
      → TreeOf g t (root g.nodes m) → k ≡ min (size t) 4097
      → Partly g (record { root = d.root; counted = d.counted + 1; total = capped_sum d.total k })
  part_more d m k t h e is is_size =
      let xs = parts_at g d.root in
      let within = slice_get_within xs d.counted m e in
      let more : take (d.counted + 1) xs ≡ take d.counted xs ++ m ∷ [] =
      ap (λ n. take n xs) (plus_one d.counted) ∙ take-suc xs d.counted m within
      ∙ ap (λ x. take d.counted xs ++ x ∷ []) (get_or_from_slice_get xs d.counted m m e) in
      let sum = size_with_tree h.trees t in
      record {
        trees = with_tree h.trees t;
        are_trees = subst (TreesOf g (with_tree h.trees t)) (sym more) (trees_with g h.trees (take d.counted xs) t m h.are_trees is);
        is_total =
            ap (λ n. min (n + k) 4097) h.is_total ∙ ap (λ n. min (min (suc (size_of_all h.trees)) 4097 + n) 4097) is_size
            ∙ capped (suc (size_of_all h.trees)) (size t) ∙ ap (λ n. min n 4097) (suc_sum (size_of_all h.trees) (size t) (size_of_all (with_tree h.trees t)) sum);
        in_parts = omega arith;
      }

  -- the innermost type ends
  ended_partly :
      (q k : ℕ) (cs : List Count) → HasTree g q k → ChainUnder g q cs → AllByRecursion (Partly g) cs
      → AllByRecursion (Partly g) (part_counted k cs)
  ended_partly q k [] has chain h = tt
  ended_partly q k (d ∷ cs) has chain h =
      let m = chain.0 in
      let at : root g.nodes q ≡ root g.nodes m = ap (root g.nodes) (sym chain.2) ∙ root_again m in
      (part_more d m k has.tree h.0 chain.1 (subst (TreeOf g has.tree) at has.is_tree) has.is_size, h.1)

in_stack_counted : (q k : ℕ) (cs : List Count) → InStack q cs → InStack q (part_counted k cs)
in_stack_counted q k [] h = h
in_stack_counted q k (d ∷ cs) h = h

chain_counted : (g : Graph) (q k : ℕ) (cs : List Count) → ChainUnder g q cs → Chain g (part_counted k cs)
chain_counted g q k [] h = tt
chain_counted g q k (d ∷ cs) h = h.3

fewer_counted : (a k : ℕ) (cs : List Count) → steps_left_in a (part_counted k cs) ≤ steps_left_in a cs
fewer_counted a k [] = omega arith
fewer_counted a k (d ∷ cs) = omega arith

-- no more steps, where a size is set
sum_set : (a : ℕ) (sizes : List Size) (r : ℕ) (x : Size) → steps_of a x ≡ 0 → sum_by (steps_of a) (slice_set sizes r x) ≤ sum_by (steps_of a) sizes
sum_set a sizes r x e =
    ⊎_elim
    (λ l. let s = sum_by-set (steps_of a) sizes r x Unknown l.1 in omega arith)
    (λ l. let s = ap (sum_by (steps_of a)) (set_past sizes r x (omega arith)) in omega arith)
    (leb_tells (suc r) (length sizes))

parts_not_more : (g : Graph) (q : ℕ) → length (parts_at g q) ≤ length g.arguments
parts_not_more g q = arguments_not_more g.arguments (form_of g.nodes q)

pub ended_step :
    (g : Graph) (well : IsWellFormed g) (c : Count) (cs : List Count) (sizes : List Size) → Counted g sizes (c ∷ cs)
    → argument_of g.arguments (form_of g.nodes c.root) c.counted ≡ None
    → Stepped g sizes (c ∷ cs) (slice_set sizes c.root (Known c.total)) (part_counted c.total cs)
ended_step g well c cs sizes h e =
    let x = Known c.total in
    let has = ended_tree g well c h.partly.0 e in
    let a = length g.arguments in
    record {
      is_counted = record {
        long = length-set sizes c.root x ∙ h.long;
        known = known_set g sizes c.root x (λ k p. let same : c.total ≡ k = cc in subst (HasTree g c.root) same has) h.known;
        partly = ended_partly g well c.root c.total cs has h.chain h.partly.1;
        opened =
            λ q p.
            ⊎_elim
            (λ s. let no : Known c.total ≡ Open = sym s.2 ∙ p in absurd (cc))
            (λ s.
            let was : size_at sizes q ≡ Open = sym s.1 ∙ p in
            in_stack_counted q c.total cs (not_first q c.root cs (λ same. let no = s.0 same in absurd (cc)) (h.opened q was)))
            (size_set sizes c.root x q);
        chain = chain_counted g c.root c.total cs h.chain;
      };
      stays = stays_set sizes c.root x (λ p. absurd (cc));
      fewer =
          let in_parts = h.partly.0.in_parts in
          let few = parts_not_more g c.root in
          let sum = sum_set a sizes c.root x refl in
          let rest = fewer_counted a c.total cs in
          omega arith;
    }

-- a part has a size
pub known_step :
    (g : Graph) (well : IsWellFormed g) (c : Count) (cs : List Count) (sizes : List Size) (n k : ℕ) → Counted g sizes (c ∷ cs)
    → argument_of g.arguments (form_of g.nodes c.root) c.counted ≡ Some n → size_at sizes (root g.nodes n) ≡ Known k
    → Stepped g sizes (c ∷ cs) sizes (part_counted k (c ∷ cs))
known_step g well c cs sizes n k h e is =
    let has = h.known (root g.nodes n) k is in
    let a = length g.arguments in
    record {
      is_counted = record {
        long = h.long;
        known = h.known;
        partly =
            (part_more g well c n k has.tree h.partly.0 e (subst (TreeOf g has.tree) (root_again g well n) has.is_tree) has.is_size, h.partly.1);
        opened = h.opened;
        chain = h.chain;
      };
      stays = λ q p. p;
      fewer =
          let within = slice_get_within (parts_at g c.root) c.counted n e in
          let few = parts_not_more g c.root in
          omega arith;
    }

-- a type begins, whose size is unknown
pub begun_is :
    (g : Graph) (sizes : List Size) (r : ℕ) (cs : List Count) → Counted g sizes cs → ChainUnder g r cs
    → Counted g (slice_set sizes r Open) (record { root = r; counted = 0; total = 1 } ∷ cs)
begun_is g sizes r cs h under = record {
  long = length-set sizes r Open ∙ h.long;
  known = known_set g sizes r Open (λ k p. absurd (cc)) h.known;
  partly = (record { trees = NoTys; are_trees = tt; is_total = refl; in_parts = omega arith }, h.partly);
  opened = λ q p. ⊎_elim (λ s. inl s.0) (λ s. inr (h.opened q (sym s.1 ∙ p))) (size_set sizes r Open q);
  chain = under;
}

pub begun_step :
    (g : Graph) (c : Count) (cs : List Count) (sizes : List Size) (n : ℕ) → Counted g sizes (c ∷ cs)
    → argument_of g.arguments (form_of g.nodes c.root) c.counted ≡ Some n → size_at sizes (root g.nodes n) ≡ Unknown
    → root g.nodes n < length g.nodes
    → Stepped g sizes (c ∷ cs) (slice_set sizes (root g.nodes n) Open) (record { root = root g.nodes n; counted = 0; total = 1 } ∷ c ∷ cs)
begun_step g c cs sizes n h e is within =
    let r = root g.nodes n in
    let a = length g.arguments in
    record {
      is_counted = begun_is g sizes r (c ∷ cs) h (n, e, refl, h.chain);
      stays = stays_set sizes r Open (λ p. absurd (cc));
      fewer =
          let long = h.long in
          let there : r < length sizes = omega arith in
          let sum = sum_by-set (steps_of a) sizes r Open Unknown there in
          let was : steps_of a (size_at sizes r) ≡ a + 2 = ap (steps_of a) is in
          omega arith;
    }
