-- How an operation makes its types, as a row of steps: one proof for all of them.
use Rattle.std.proofs.Common.{◌≡◌, ℕ, zero, suc, ◌≤◌, ◌<◌, List, [], ◌∷◌, ◌++◌, map, length, take, get_or, false, refl, sym, ◌∙◌, ap, subst, arith}
use Rattle.std.proofs.lemmas.List.{take-map, map-append, length-map, length-append, take-append-le, take_all}
use Rattle.std.proofs.Math.ListN.{get_or-map}
use Rattle.type_terms.specs.TypeTrees.{Ty, Constructed, Tys, AndTy, int}
use Rattle.type_terms.specs.OperationTypes.{OperationType}
use Rattle.type_graph.specs.declared.form.Form.TheVariants.{Applied}
use Rattle.type_graph.specs.Graph.{Graph, fresh, unknown, variable_added, applied}
use Rattle.type_graph.specs.Signatures.{Signed}
use Rattle.type_readings.specs.Readings.{trees_of, Reads}
use Rattle.type_readings.specs.WellFormed.{AreNumbers, IsWellFormed}
use Rattle.type_readings.specs.SignatureRules.{IsMade, NothingMade, VariableMade, TypeMade, HasNumbers, parts_of, ReadsWith}
use Rattle.type_readings.proofs.Lists.{each_appended}
use Rattle.type_readings.proofs.Making.{numbers_more, one_longer, variable_keeps_form_law, variable_asks_nothing_law, application_keeps_form_law, application_is_read_law}
use Rattle.type_readings.proofs.Made.{made_is_longer_law, made_keeps_readings_law, trees_same, reads_still, extended, extended_there, extended_before}

-- the steps in which the types of an operation are made. Each type goes by its place: the six built-in ones come first, and
-- then those that are made, in their order
pub data Recipe : Type 0 where
  -- nothing more is made: the parts, what stands behind them, and what is given
  Give : (parts further : List ℕ) (gives : ℕ) → Recipe
  -- a new variable
  NewVariable : Recipe → Recipe
  -- a type constructor with its arguments
  NewType : (c : ℕ) (arguments : List ℕ) → Recipe → Recipe

-- the number of the type at a place
abbrev pub number_at : List ℕ → ℕ → ℕ
number_at ns place = get_or ns place 0

-- the tree of the type at a place
abbrev pub tree_at : List Ty → ℕ → Ty
tree_at ts place = get_or ts place int

-- what is made by a recipe, where types of these numbers are there
abbrev pub made_by : Recipe → List ℕ → Graph → Signed
made_by (Give parts further gives) ns g = record {
  signature = record { parts = map (number_at ns) (parts ++ further); count = length parts; gives = number_at ns gives };
  types = g;
}
made_by (NewVariable r) ns g = made_by r (ns ++ length g.nodes ∷ []) (variable_added g)
made_by (NewType c arguments r) ns g = made_by r (ns ++ length g.nodes ∷ []) (applied c (map (number_at ns) arguments) false g)

-- the trees of its parts and of what it gives, where each new variable stands for a tree, and types of these trees are there
abbrev pub trees_by : Recipe → (ℕ → Ty) → List Ty → OperationType
trees_by (Give parts further gives) w ts = record { parts = trees_of (tree_at ts) parts; result = tree_at ts gives }
trees_by (NewVariable r) w ts = trees_by r (λ v. w (suc v)) (ts ++ w 0 ∷ [])
trees_by (NewType c arguments r) w ts = trees_by r w (ts ++ Constructed c (trees_of (tree_at ts) arguments) ∷ [])

-- these trees are those of a recipe, with some trees for its variables
pub record FitsRecipe (r : Recipe) (trees : List Ty) (ts : Tys) (t : Ty) : Type 0 where
  pub instance : ℕ → Ty
  pub parts : ts ≡ (trees_by r instance trees).parts
  pub gives : t ≡ (trees_by r instance trees).result

-- there is room for a graph
pub record HasRoom (g : Graph) : Type 0 where
  pub types : length g.nodes ≤ 33554432
  pub arguments : length g.arguments ≤ 67108864

-- the numbers at hand are those of types, and there is a type
pub record HaveNumbers (ns : List ℕ) (g : Graph) : Type 0 where
  pub some : 0 < length g.nodes
  pub numbers : AreNumbers (length g.nodes) ns

-- the number at a place is one
number_is_number : (types : ℕ) (ns : List ℕ) (place : ℕ) → 0 < types → AreNumbers types ns → number_at ns place < types
number_is_number types [] place some h = some
number_is_number types (n ∷ ns) zero some h = h.0
number_is_number types (n ∷ ns) (suc place) some h = number_is_number types ns place some h.1

numbers_at_places : (types : ℕ) (ns places : List ℕ) → 0 < types → AreNumbers types ns → AreNumbers types (map (number_at ns) places)
numbers_at_places types ns [] some h = tt
numbers_at_places types ns (p ∷ ps) some h = (number_is_number types ns p some h, numbers_at_places types ns ps some h)

-- with one more type the numbers are still those of types, and its own is
one_more_number : (types more : ℕ) (ns : List ℕ) → more ≡ suc types → AreNumbers types ns → AreNumbers more (ns ++ types ∷ [])
one_more_number types more ns e h =
    subst (λ k. AreNumbers k (ns ++ types ∷ [])) (sym e)
    (each_appended (λ n. n < suc types) ns (types ∷ []) (numbers_more types ns h) (omega arith, tt))

with_variable : (ns : List ℕ) (g : Graph) → HaveNumbers ns g → HaveNumbers (ns ++ length g.nodes ∷ []) (variable_added g)
with_variable ns g h =
    let longer = one_longer g.nodes unknown in
    record { some = omega arith; numbers = one_more_number (length g.nodes) (length (variable_added g).nodes) ns longer h.numbers }

with_type :
    (c : ℕ) (ms ns : List ℕ) (g : Graph) → HaveNumbers ns g → HaveNumbers (ns ++ length g.nodes ∷ []) (applied c ms false g)
with_type c ms ns g h =
    let longer = one_longer g.nodes (fresh (Applied c (length g.arguments) (length ms)) false) in
    record { some = omega arith; numbers = one_more_number (length g.nodes) (length (applied c ms false g).nodes) ns longer h.numbers }

-- the arguments of a new type
abbrev arguments_at : List ℕ → List ℕ → List ℕ
arguments_at ns places = map (number_at ns) places

-- a recipe makes types
pub recipe_makes : (r : Recipe) (ns : List ℕ) (start g : Graph) → HaveNumbers ns g → IsMade start g → IsMade start (made_by r ns g).types
recipe_makes (Give parts further gives) ns start g h m = m
recipe_makes (NewVariable r) ns start g h m =
    recipe_makes r (ns ++ length g.nodes ∷ []) start (variable_added g) (with_variable ns g h) (VariableMade g m)
recipe_makes (NewType c places r) ns start g h m =
    let ms = arguments_at ns places in
    recipe_makes r (ns ++ length g.nodes ∷ []) start (applied c ms false g) (with_type c ms ns g h)
    (TypeMade c ms g (numbers_at_places (length g.nodes) ns places h.some h.numbers) m)

-- and gives numbers of types
pub recipe_has_numbers : (r : Recipe) (ns : List ℕ) (g : Graph) → HaveNumbers ns g → HasNumbers (made_by r ns g)
recipe_has_numbers (Give parts further gives) ns g h =
    let all : length (map (number_at ns) (parts ++ further)) ≡ length (parts ++ further) = length-map (parts ++ further) (number_at ns) in
    let longer = length-append parts further in
    record {
      parts = numbers_at_places (length g.nodes) ns (parts ++ further) h.some h.numbers;
      gives = number_is_number (length g.nodes) ns gives h.some h.numbers;
      count = omega arith;
    }
recipe_has_numbers (NewVariable r) ns g h =
    recipe_has_numbers r (ns ++ length g.nodes ∷ []) (variable_added g) (with_variable ns g h)
recipe_has_numbers (NewType c places r) ns g h =
    let ms = arguments_at ns places in
    recipe_has_numbers r (ns ++ length g.nodes ∷ []) (applied c ms false g) (with_type c ms ns g h)

-- as many parts as there are stand in front
parts_in_front : (ns parts further : List ℕ) → take (length parts) (map (number_at ns) (parts ++ further)) ≡ map (number_at ns) parts
parts_in_front ns parts further =
    take-map (number_at ns) (length parts) (parts ++ further)
    ∙ ap (map (number_at ns)) (take-append-le (length parts) parts further (omega arith) ∙ take_all (length parts) parts (omega arith))

-- trees of numbers are those at their places
module _ (f : ℕ → Ty) (ns : List ℕ) (first : f 0 ≡ int) where
  tree_of_place : (place : ℕ) → f (number_at ns place) ≡ tree_at (map f ns) place
  tree_of_place place = sym (get_or-map f ns place 0) ∙ ap (get_or (map f ns) place) first

  trees_of_places : (places : List ℕ) → trees_of f (map (number_at ns) places) ≡ trees_of (tree_at (map f ns)) places
  trees_of_places [] = refl
  trees_of_places (p ∷ ps) =
      ap (λ t. AndTy t (trees_of f (map (number_at ns) ps))) (tree_of_place p)
      ∙ ap (AndTy (tree_at (map f ns) p)) (trees_of_places ps)

  trees_of_parts :
      (parts further : List ℕ)
      → trees_of f (take (length parts) (map (number_at ns) (parts ++ further))) ≡ trees_of (tree_at (map f ns)) parts
  trees_of_parts parts further = ap (trees_of f) (parts_in_front ns parts further) ∙ trees_of_places parts

  -- with one more number
  one_more_tree : (n : ℕ) (t : Ty) → f n ≡ t → map f (ns ++ n ∷ []) ≡ map f ns ++ t ∷ []
  one_more_tree n t e = map-append f ns (n ∷ []) ∙ ap (λ u. map f ns ++ u ∷ []) e

-- there was room before
room_before : (r : Recipe) (ns : List ℕ) (g : Graph) → HaveNumbers ns g → HasRoom (made_by r ns g).types → HasRoom g
room_before r ns g h room =
    let longer = made_is_longer_law g (made_by r ns g).types (recipe_makes r ns g g h NothingMade) in
    let types = longer.0 in
    let arguments = longer.1 in
    let types_room = room.types in
    let arguments_room = room.arguments in
    record { types = omega arith; arguments = omega arith }

-- and what reads the graph behind reads it before
reads_before :
    (f : ℕ → Ty) (r : Recipe) (ns : List ℕ) (g : Graph) → IsWellFormed g → HaveNumbers ns g → HasRoom (made_by r ns g).types
    → Reads f (made_by r ns g).types → Reads f g
reads_before f r ns g well h room reads =
    made_keeps_readings_law g (made_by r ns g).types f (recipe_makes r ns g g h NothingMade) well room.types room.arguments reads

-- a graph with a new type is well formed where there was room for it
variable_form : (g : Graph) → IsWellFormed g → HasRoom (variable_added g) → IsWellFormed (variable_added g)
variable_form g well room =
    let longer = one_longer g.nodes unknown in
    let types = room.types in
    variable_keeps_form_law g well (omega arith)

type_form :
    (c : ℕ) (ms : List ℕ) (g : Graph) → IsWellFormed g → AreNumbers (length g.nodes) ms → HasRoom (applied c ms false g)
    → IsWellFormed (applied c ms false g)
type_form c ms g well numbers room =
    let longer = one_longer g.nodes (fresh (Applied c (length g.arguments) (length ms)) false) in
    let longer_arguments = length-append g.arguments ms in
    let types = room.types in
    let arguments = room.arguments in
    application_keeps_form_law c ms false g well numbers (omega arith) (omega arith)

-- the first variable stands for a tree, and the others for others
abbrev with_first : Ty → (ℕ → Ty) → ℕ → Ty
with_first t w zero = t
with_first t w (suc v) = w v

-- whatever reads the graph behind gives the trees of the recipe
pub recipe_is_sound :
    (f : ℕ → Ty) → f 0 ≡ int → (r : Recipe) (ns : List ℕ) (g : Graph) → IsWellFormed g → HaveNumbers ns g
    → HasRoom (made_by r ns g).types → Reads f (made_by r ns g).types
    → FitsRecipe r (map f ns) (trees_of f (parts_of (made_by r ns g))) (f (made_by r ns g).signature.gives)
recipe_is_sound f first (Give parts further gives) ns g well h room reads = record {
  instance = f;
  parts = trees_of_parts f ns first parts further;
  gives = tree_of_place f ns first gives;
}
recipe_is_sound f first (NewVariable r) ns g well h room reads =
    let n : ℕ = length g.nodes in
    let more = with_variable ns g h in
    let form = variable_form g well (room_before r (ns ++ n ∷ []) (variable_added g) more room) in
    let s = made_by r (ns ++ n ∷ []) (variable_added g) in
    let rest =
    subst (λ trees. FitsRecipe r trees (trees_of f (parts_of s)) (f s.signature.gives)) (one_more_tree f ns first n (f n) refl)
    (recipe_is_sound f first r (ns ++ n ∷ []) (variable_added g) form more room reads) in
    record { instance = with_first (f n) rest.instance; parts = rest.parts; gives = rest.gives }
recipe_is_sound f first (NewType c places r) ns g well h room reads =
    let n : ℕ = length g.nodes in
    let ms = arguments_at ns places in
    let numbers = numbers_at_places n ns places h.some h.numbers in
    let next = applied c ms false g in
    let more = with_type c ms ns g h in
    let form = type_form c ms g well numbers (room_before r (ns ++ n ∷ []) next more room) in
    let s = made_by r (ns ++ n ∷ []) next in
    let here = (application_is_read_law c ms false g f well).0 (reads_before f r (ns ++ n ∷ []) next form more room reads) in
    let tree : f n ≡ Constructed c (trees_of (tree_at (map f ns)) places) = here.1 ∙ ap (Constructed c) (trees_of_places f ns first places) in
    let rest =
    subst (λ trees. FitsRecipe r trees (trees_of f (parts_of s)) (f s.signature.gives))
    (one_more_tree f ns first n (Constructed c (trees_of (tree_at (map f ns)) places)) tree)
    (recipe_is_sound f first r (ns ++ n ∷ []) next form more room reads) in
    record { instance = rest.instance; parts = rest.parts; gives = rest.gives }

-- the trees of numbers that are there are the same with a further one
trees_before :
    (n : ℕ) (t : Ty) (f : ℕ → Ty) (ns : List ℕ) → AreNumbers n ns → map (extended n t f) (ns ++ n ∷ []) ≡ map f ns ++ t ∷ []
trees_before n t f [] h = ap (λ u. u ∷ []) (extended_there n t f)
trees_before n t f (m ∷ ms) h =
    ap (λ u. u ∷ map (extended n t f) (ms ++ n ∷ [])) (extended_before n t f m h.0) ∙ ap (λ us. f m ∷ us) (trees_before n t f ms h.1)

-- where trees were given to all types before a new one, and this has a tree too, all types before it keep theirs
keeps_before :
    (n more : ℕ) (t : Ty) (f : ℕ → Ty) (s : Signed) (ts : Tys) (u : Ty) → more ≡ suc n
    → ReadsWith (extended n t f) more s ts u → ReadsWith f n s ts u
keeps_before n more t f s ts u e k = record {
  reading = k.reading;
  reads = k.reads;
  before = λ m less. k.before m (omega arith) ∙ extended_before n t f m less;
  parts = k.parts;
  gives = k.gives;
}

-- whatever trees a recipe has, the types of it may have
pub recipe_is_complete :
    (r : Recipe) (f : ℕ → Ty) (w : ℕ → Ty) (ns : List ℕ) (g : Graph) → f 0 ≡ int → IsWellFormed g → HaveNumbers ns g
    → HasRoom (made_by r ns g).types → Reads f g
    → ReadsWith f (length g.nodes) (made_by r ns g) (trees_by r w (map f ns)).parts (trees_by r w (map f ns)).result
recipe_is_complete (Give parts further gives) f w ns g first well h room reads = record {
  reading = f;
  reads = reads;
  before = λ m less. refl;
  parts = trees_of_parts f ns first parts further;
  gives = tree_of_place f ns first gives;
}
recipe_is_complete (NewVariable r) f w ns g first well h room reads =
    let n : ℕ = length g.nodes in
    let t = w 0 in
    let more = with_variable ns g h in
    let form = variable_form g well (room_before r (ns ++ n ∷ []) (variable_added g) more room) in
    let s = made_by r (ns ++ n ∷ []) (variable_added g) in
    let k = extended n t f in
    let still = reads_still f k g well (extended_before n t f) reads in
    keeps_before n (length (variable_added g).nodes) t f s _ _ (one_longer g.nodes unknown)
    (subst
    (λ trees.
    ReadsWith k (length (variable_added g).nodes) s (trees_by r (λ v. w (suc v)) trees).parts (trees_by r (λ v. w (suc v)) trees).result)
    (trees_before n t f ns h.numbers)
    (recipe_is_complete r k (λ v. w (suc v)) (ns ++ n ∷ []) (variable_added g) (extended_before n t f 0 h.some ∙ first) form more room
    ((variable_asks_nothing_law g k well).1 still)))
recipe_is_complete (NewType c places r) f w ns g first well h room reads =
    let n : ℕ = length g.nodes in
    let ms = arguments_at ns places in
    let numbers = numbers_at_places n ns places h.some h.numbers in
    let t = Constructed c (trees_of (tree_at (map f ns)) places) in
    let next = applied c ms false g in
    let more = with_type c ms ns g h in
    let form = type_form c ms g well numbers (room_before r (ns ++ n ∷ []) next more room) in
    let s = made_by r (ns ++ n ∷ []) next in
    let k = extended n t f in
    let still = reads_still f k g well (extended_before n t f) reads in
    let tree : k n ≡ Constructed c (trees_of k ms) =
    extended_there n t f
    ∙ sym (ap (Constructed c) (trees_same f k g well (extended_before n t f) ms numbers ∙ trees_of_places f ns first places)) in
    keeps_before n (length next.nodes) t f s _ _ (one_longer g.nodes (fresh (Applied c (length g.arguments) (length ms)) false))
    (subst (λ trees. ReadsWith k (length next.nodes) s (trees_by r w trees).parts (trees_by r w trees).result)
    (trees_before n t f ns h.numbers)
    (recipe_is_complete r k w (ns ++ n ∷ []) next (extended_before n t f 0 h.some ∙ first) form more room
    ((application_is_read_law c ms false g k well).1 (still, tree))))
