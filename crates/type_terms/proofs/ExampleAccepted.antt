-- Whole programs: the comparisons in the order of the text, and the limit on the size of types.
use Rattle.std.proofs.Common.{◌≡◌, refl, sym, ap, subst, arith, List, [], ◌∷◌, pos, ℕ, zero, suc, ◌∙◌, MatchBool}
use Rattle.std.proofs.lemmas.Bool.{eq-eqb}
use Rattle.effect_meaning.specs.declared.core_nodes.Constant.TheVariants as constant
use Rattle.effect_meaning.specs.declared.core_nodes.Comparison.TheVariants as comparison
use Rattle.effect_meaning.specs.declared.core_nodes.Operation.TheVariants as operation
use Rattle.effect_meaning.specs.declared.core_nodes.TermForm.{TermForm}
use Rattle.effect_meaning.specs.declared.core_nodes.TermForm.TheVariants as term
use Rattle.effect_meaning.specs.declared.core_nodes.TermNode.{TermNode}
use Rattle.effect_meaning.specs.declared.core_tables.ItemForm.TheVariants as item
use Rattle.effect_meaning.specs.Arena.{Parts, empty_parts}
use Rattle.effect_meaning.specs.Terms.{Term, Var, Let, Tuple, Define, Program}
use Rattle.type_terms.specs.declared.base_type.BaseTy.TheVariants as base
use Rattle.type_terms.specs.TypeTrees.{Ty, int, bool, char, tuple, two_tys, size}
use Rattle.type_terms.specs.Contexts.{NameHas, Context, with_name}
use Rattle.type_terms.specs.Typing.{HasType}
use Rattle.type_terms.specs.Items.{behind}
use Rattle.type_terms.specs.Accepted.{FitsSize, AreCompared}
use Rattle.type_terms.proofs.ExampleWords.{number, two, plain}

-- a term at a column of the first line
abbrev in_column : ℕ → TermForm → TermNode
in_column n form = record { place = record { line = 1; column = n }; form = form }

abbrev integer : ℕ → TermForm
integer n = term.Constant (constant.Integer (pos n))

abbrev character : ℕ → TermForm
character n = term.Constant (constant.Character n)

-- terms without tables, and one item, which is the last of them
abbrev expression : List TermNode → ℕ → Parts
expression terms last =
    record (empty_parts []) { terms = terms; items = record { place = record { line = 1; column = 1 }; form = item.Evaluate last } ∷ [] }

-- 1 < 2 = ('a' < 'b')
abbrev three_comparisons : Parts
three_comparisons = expression
    (in_column 1 (integer 1) ∷ in_column 5 (integer 2) ∷ in_column 3 (term.Primitive (operation.Compare comparison.Below) (0 ∷ 1 ∷ []))
    ∷ in_column 10 (character 97) ∷ in_column 16 (character 98)
    ∷ in_column 14 (term.Primitive (operation.Compare comparison.Below) (3 ∷ 4 ∷ []))
    ∷ in_column 7 (term.Primitive (operation.Compare comparison.Equal) (2 ∷ 5 ∷ [])) ∷ [])
    6

three_in_order : AreCompared three_comparisons (base.Int ∷ base.Bool ∷ base.Char ∷ [])
three_in_order = (
  (
    λ v. bool,
    bool,
    (
      _,
      (
        _,
        _,
        refl,
        (_, (_, _, refl, refl, (_, _, refl, refl, refl)), (λ v. int, refl, refl)),
        (_, _, refl, (_, (_, _, refl, refl, (_, _, refl, refl, refl)), (λ v. char, refl, refl)), refl),
      ),
      (λ v. bool, refl, refl),
    ),
    tt,
  ),
  refl,
)

-- 1 = 2 |> fun b -> 'a' < 'b': an application of what stands behind the bar to what stands before it
abbrev piped : Parts
piped = expression
    (in_column 1 (integer 1) ∷ in_column 5 (integer 2) ∷ in_column 3 (term.Primitive (operation.Compare comparison.Equal) (0 ∷ 1 ∷ []))
    ∷ in_column 19 (character 97) ∷ in_column 25 (character 98)
    ∷ in_column 23 (term.Primitive (operation.Compare comparison.Below) (3 ∷ 4 ∷ []))
    ∷ in_column 10 (term.Function 0 5) ∷ in_column 7 (term.Apply 6 2) ∷ [])
    7

piped_in_order : AreCompared piped (base.Int ∷ base.Char ∷ [])
piped_in_order = (
  (
    λ v. bool,
    bool,
    (
      bool,
      (_, _, refl, (_, (_, _, refl, refl, (_, _, refl, refl, refl)), (λ v. char, refl, refl))),
      (_, (_, _, refl, refl, (_, _, refl, refl, refl)), (λ v. int, refl, refl)),
    ),
    tt,
  ),
  refl,
)

-- let y = (x, x) in let z = (y, y) in .., so many pairs, from the name x on
abbrev pairs_from : ℕ → ℕ → Term
pairs_from zero x = Var x
pairs_from (suc n) x = Let (suc x) (Tuple (two (Var x) (Var x))) (pairs_from n (suc x))

-- its type, where x has type u
abbrev pairs_of : ℕ → Ty → Ty
pairs_of zero u = u
pairs_of (suc n) u = pairs_of n (tuple (two_tys u u))

-- let p = let x = 1 in let y = (x, x) in ..
abbrev pairs : ℕ → Program
pairs n = record plain { items = Define 100 (Let 0 (number 1) (pairs_from n 0)) ∷ [] }

-- the latest name has its type
name_has : (c : Context) (x : ℕ) (u : Ty) → HasType (with_name x u c) (Var x) u
name_has c x u = subst (λ b. MatchBool b (u ≡ u) (NameHas c.names x u (c.tops x u))) (sym (eq-eqb x x refl)) refl

name_is : (c : Context) (x : ℕ) (u t : Ty) → HasType (with_name x u c) (Var x) t → t ≡ u
name_is c x u t h = subst (λ b. MatchBool b (t ≡ u) (NameHas c.names x t (c.tops x t))) (eq-eqb x x refl) h

pairs_typed : (c : Context) (n x : ℕ) (u : Ty) → HasType (with_name x u c) (pairs_from n x) (pairs_of n u)
pairs_typed c zero x u = name_has c x u
pairs_typed c (suc n) x u = (
  tuple (two_tys u u),
  (_, (_, _, refl, name_has c x u, (_, _, refl, name_has c x u, refl)), refl),
  pairs_typed (with_name x u c) n (suc x) (tuple (two_tys u u)),
)

pairs_determined : (c : Context) (n x : ℕ) (u t : Ty) → HasType (with_name x u c) (pairs_from n x) t → t ≡ pairs_of n u
pairs_determined c zero x u t h = name_is c x u t h
pairs_determined c (suc n) x u t h =
    let first = name_is c x u _ h.1.1.3 in
    let second = name_is c x u _ h.1.1.4.3 in
    let parts = h.1.1.2 in
    let rest = h.1.1.4.2 in
    let no_more = h.1.1.4.4 in
    let whole = h.1.2 in
    let pair : h.0 ≡ tuple (two_tys u u) = grind (arith, first, second, parts, rest, no_more, whole) in
    pairs_determined (with_name x u c) n (suc x) h.0 t h.2 ∙ ap (pairs_of n) pair

-- eleven pairs have a type of 4095 nodes, twelve one of 8191
eleven_fit : FitsSize (pairs 11)
eleven_fit =
    ((λ v. int, pairs_of 11 int, (int, refl, pairs_typed (behind (pairs 11) [] (λ v. int)) 11 0 int), tt), (omega arith, tt))

twelve_are_too_many : FitsSize (pairs 12) → ⊥
twelve_are_too_many h =
    let first = h.0.2.1 in
    let whole = pairs_determined (behind (pairs 12) [] h.0.0) 12 0 h.0.2.0 h.0.1 h.0.2.2 in
    let nodes = ap size (whole ∙ ap (pairs_of 12) first) in
    let bound = h.1.0 in
    omega (arith, nodes, bound)
