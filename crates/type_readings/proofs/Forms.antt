-- Two forms of one type.
use Rattle.std.proofs.Common.{◌≡◌, ℕ, ◌+◌, ◌≤◌, ◌==◌, ◌||◌, not, List, [], ◌∷◌, length, zip, true, false, Some, None, sym, ◌∙◌, ap, arith, if◌then◌else◌}
use Rattle.std.proofs.lemmas.Bool.Decides.{nat_tests}
use Rattle.type_terms.specs.TypeTrees.{Ty, Tys, Constructed}
use Rattle.type_graph.specs.declared.form.Form.{Form}
use Rattle.type_graph.specs.declared.form.Form.TheVariants.{Variable, Link, Applied}
use Rattle.type_graph.specs.Graph.{is_variable, link_of, arguments_of}
use Rattle.type_graph.specs.Unified.{clash}
use Rattle.type_readings.specs.Readings.{trees_of, IsOfForm, AllEqual}
use Rattle.type_readings.specs.WellFormed.{NamesWhatIsThere}
use Rattle.type_readings.proofs.Lists.{length_of_part, trees_from_pairs, pairs_from_trees, trees_as_many}

-- the form of two types that become one
abbrev pub one_form : Form → Form → Form
one_form a b = if is_variable a then b else a

pub one_form_is_root : (a b : Form) → link_of a ≡ None → link_of b ≡ None → link_of (one_form a b) ≡ None
one_form_is_root Variable b h k = k
one_form_is_root (Link m) b h k = h
one_form_is_root (Applied c first count) b h k = h

pub one_form_names : (n m : ℕ) (a b : Form) → NamesWhatIsThere n m a → NamesWhatIsThere n m b → NamesWhatIsThere n m (one_form a b)
one_form_names n m Variable b h k = k
one_form_names n m (Link l) b h k = h
one_form_names n m (Applied c first count) b h k = h

-- the same type constructor, and as many arguments
pub no_clash : (c d n m : ℕ) → (not (c == d) || not (n == m)) ≡ false → (c ≡ d) × (n ≡ m)
no_clash c d n m h = grind (arith, nat_tests)

pub is_clash : (c d n m : ℕ) → (not (c == d) || not (n == m)) ≡ true → c ≡ d → n ≡ m → ⊥
is_clash c d n m h p q = grind (arith, nat_tests)

same_parts : (c d : ℕ) (xs ys : Tys) → Constructed c xs ≡ Constructed d ys → xs ≡ ys
same_parts c d xs ys e = cc

same_constructor : (c d : ℕ) (xs ys : Tys) → Constructed c xs ≡ Constructed d ys → c ≡ d
same_constructor c d xs ys e = cc

module _ (f : ℕ → Ty) (arguments : List ℕ) where
  no_pairs : (xs : List ℕ) → AllEqual f (zip xs [])
  no_pairs [] = tt
  no_pairs (x ∷ xs) = tt

  -- a linked type is equal to the other
  pub through_link : (a : Form) (m : ℕ) (t : Ty) → link_of a ≡ Some m → IsOfForm f arguments a t → t ≡ f m
  through_link Variable m t e h = absurd (cc)
  through_link (Link l) m t e h =
      let same : l ≡ m = cc in
      h ∙ ap f same
  through_link (Applied c first count) m t e h = absurd (cc)

  -- what is of both forms is of the one
  pub of_one_form : (a b : Form) (t : Ty) → IsOfForm f arguments a t → IsOfForm f arguments b t → IsOfForm f arguments (one_form a b) t
  of_one_form Variable b t h k = k
  of_one_form (Link m) b t h k = h
  of_one_form (Applied c first count) b t h k = h

  -- then the arguments are equal
  pub equal_arguments :
      (a b : Form) (t : Ty) → IsOfForm f arguments a t → IsOfForm f arguments b t
      → AllEqual f (zip (arguments_of arguments a) (arguments_of arguments b))
  equal_arguments Variable b t h k = tt
  equal_arguments (Link m) b t h k = tt
  equal_arguments (Applied c first count) Variable t h k = no_pairs (arguments_of arguments (Applied c first count))
  equal_arguments (Applied c first count) (Link m) t h k = no_pairs (arguments_of arguments (Applied c first count))
  equal_arguments (Applied c first count) (Applied d second many) t h k =
      pairs_from_trees f (arguments_of arguments (Applied c first count)) (arguments_of arguments (Applied d second many)) (
      same_parts c d (trees_of f (arguments_of arguments (Applied c first count))) (trees_of f (arguments_of arguments (Applied d second many))) (sym h ∙ k)
      )

  -- two type constructors with equal arguments, in as many places
  pub same_application :
      (c d first second n m : ℕ) (t : Ty) → c ≡ d → n ≡ m → first + n ≤ length arguments → second + m ≤ length arguments
      → AllEqual f (zip (arguments_of arguments (Applied c first n)) (arguments_of arguments (Applied d second m)))
      → t ≡ Constructed c (trees_of f (arguments_of arguments (Applied c first n)))
      → t ≡ Constructed d (trees_of f (arguments_of arguments (Applied d second m)))
  same_application c d first second n m t p q h k equal e =
      let left = length_of_part arguments first n h in
      let right = length_of_part arguments second m k in
      let trees = trees_from_pairs f (arguments_of arguments (Applied c first n)) (arguments_of arguments (Applied d second m)) (left ∙ q ∙ sym right) equal in
      e ∙ ap (λ x. Constructed x (trees_of f (arguments_of arguments (Applied c first n)))) p ∙ ap (Constructed d) trees

  -- what is of the one form is of both, where the arguments are equal
  pub of_both_forms :
      (n : ℕ) (a b : Form) (t : Ty) → link_of a ≡ None → link_of b ≡ None → clash a b ≡ false
      → NamesWhatIsThere n (length arguments) a → NamesWhatIsThere n (length arguments) b
      → AllEqual f (zip (arguments_of arguments a) (arguments_of arguments b))
      → IsOfForm f arguments (one_form a b) t → IsOfForm f arguments a t × IsOfForm f arguments b t
  of_both_forms n Variable b t ra rb e ha hb equal h = (tt, h)
  of_both_forms n (Link m) b t ra rb e ha hb equal h = absurd (cc)
  of_both_forms n (Applied c first count) Variable t ra rb e ha hb equal h = (h, tt)
  of_both_forms n (Applied c first count) (Link m) t ra rb e ha hb equal h = absurd (cc)
  of_both_forms n (Applied c first count) (Applied d second many) t ra rb e ha hb equal h =
      let same = no_clash c d count many e in
      (h, same_application c d first second count many t same.0 same.1 ha hb equal h)

  -- nothing is of two forms that clash
  pub of_no_clash :
      (n : ℕ) (a b : Form) (t : Ty) → clash a b ≡ true → NamesWhatIsThere n (length arguments) a
      → NamesWhatIsThere n (length arguments) b → IsOfForm f arguments a t → IsOfForm f arguments b t → ⊥
  of_no_clash n Variable b t e ha hb h k = absurd (cc)
  of_no_clash n (Link m) b t e ha hb h k = absurd (cc)
  of_no_clash n (Applied c first count) Variable t e ha hb h k = absurd (cc)
  of_no_clash n (Applied c first count) (Link m) t e ha hb h k = absurd (cc)
  of_no_clash n (Applied c first count) (Applied d second many) t e ha hb h k =
      let xs = arguments_of arguments (Applied c first count) in
      let ys = arguments_of arguments (Applied d second many) in
      let trees = same_parts c d (trees_of f xs) (trees_of f ys) (sym h ∙ k) in
      let left = length_of_part arguments first count ha in
      let right = length_of_part arguments second many hb in
      is_clash c d count many e (same_constructor c d (trees_of f xs) (trees_of f ys) (sym h ∙ k)) (sym left ∙ trees_as_many f xs ys trees ∙ right)
