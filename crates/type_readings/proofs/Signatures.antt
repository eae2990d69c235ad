-- The types of each operation are made by a recipe, and are those of its row.
use Rattle.std.proofs.Common.{◌≡◌, ℕ, ◌≤◌, List, [], ◌∷◌, map, length, refl, sym, ◌∙◌, ap, subst, arith}
use Rattle.effect_meaning.specs.declared.core_nodes.Comparison.TheVariants as comparison
use Rattle.effect_meaning.specs.declared.core_nodes.Operation.{Operation}
use Rattle.effect_meaning.specs.declared.core_nodes.Operation.TheVariants as operation
use Rattle.effect_meaning.specs.ArenaTrees.{operation_of}
use Rattle.type_terms.specs.TypeTrees.{Ty, Constructed, Tys, instance_of, instances_of}
use Rattle.type_terms.specs.TypeTrees as tree
use Rattle.type_terms.specs.OperationTypes.{OperationType, operation_type, OperationHas}
use Rattle.type_graph.specs.Graph.{Graph, built_in}
use Rattle.type_graph.specs.Signatures.{int, bool, char, string, unit, exn, option, ref, array, effect, deep, shallow, domain, atomic, arrow, tuple, atomic_signature, domain_signature, queue_signature, effect_signature, callback_signature, array_signature, reference_signature, plain_signature, text_signature, printing_signature, signature_of}
use Rattle.type_readings.specs.Readings.{trees_of, Reads}
use Rattle.type_readings.specs.SignatureRules.{IsMade, NothingMade, HasNumbers, parts_of, ReadsWith, SignatureIsMade, SignatureHasNumbers, SignatureIsSound, SignatureIsComplete}
use Rattle.type_readings.proofs.SignatureRecipes.{Recipe, Give, NewVariable, NewType, made_by, trees_by, FitsRecipe, HaveNumbers, HasRoom, recipe_makes, recipe_has_numbers, recipe_is_sound, recipe_is_complete}

-- the places of the built-in types without arguments
abbrev built_in_places : List ℕ
built_in_places = int ∷ bool ∷ char ∷ string ∷ unit ∷ exn ∷ []

-- their trees
abbrev built_in_trees : List Ty
built_in_trees = tree.int ∷ tree.bool ∷ tree.char ∷ tree.string ∷ tree.unit ∷ tree.exn ∷ []

-- the place of 'a, which comes first behind them
abbrev a : ℕ
a = 6

-- of 'b, which comes next where there is one
abbrev b : ℕ
b = 7

-- one part, two and three
abbrev one : ℕ → ℕ → Recipe
one x t = Give (x ∷ []) (unit ∷ unit ∷ []) t

abbrev two : ℕ → ℕ → ℕ → Recipe
two x y t = Give (x ∷ y ∷ []) (unit ∷ []) t

abbrev three : ℕ → ℕ → ℕ → ℕ → Recipe
three x y z t = Give (x ∷ y ∷ z ∷ []) [] t

-- 'a is made, and 'a and 'b are
abbrev with_a : Recipe → Recipe
with_a r = NewVariable r

abbrev with_both : Recipe → Recipe
with_both r = NewVariable (NewVariable r)

-- a type constructor of one argument, and of two
abbrev of_one : ℕ → ℕ → Recipe → Recipe
of_one c x r = NewType c (x ∷ []) r

abbrev of_two : ℕ → ℕ → ℕ → Recipe → Recipe
of_two c x y r = NewType c (x ∷ y ∷ []) r

-- the row of an operation, where each variable stands for a tree
abbrev instance_of_row : (ℕ → Ty) → OperationType → OperationType
instance_of_row w row = record { parts = instances_of w row.parts; result = instance_of w row.result }

-- a recipe makes the types of an operation, and its trees are those of the operation's row
record HasRecipe (op : Operation) : Type 0 where
  recipe : Recipe
  makes : (g : Graph) → made_by recipe built_in_places g ≡ signature_of op g
  trees : (w : ℕ → Ty) → trees_by recipe w built_in_trees ≡ instance_of_row w (operation_type (operation_of op))

-- the recipe of each operation; what is made behind its variables stands at the places from 7 or 8 on
recipe_of : (op : Operation) → HasRecipe op
unfolding signature_of printing_signature text_signature plain_signature reference_signature array_signature callback_signature effect_signature queue_signature domain_signature atomic_signature
recipe_of operation.Add = record { recipe = two int int int; makes = λ g. refl; trees = λ w. refl }
recipe_of operation.Subtract = record { recipe = two int int int; makes = λ g. refl; trees = λ w. refl }
recipe_of operation.Multiply = record { recipe = two int int int; makes = λ g. refl; trees = λ w. refl }
recipe_of operation.Divide = record { recipe = two int int int; makes = λ g. refl; trees = λ w. refl }
recipe_of operation.Modulo = record { recipe = two int int int; makes = λ g. refl; trees = λ w. refl }
recipe_of operation.LogicalAnd = record { recipe = two int int int; makes = λ g. refl; trees = λ w. refl }
recipe_of operation.LogicalOr = record { recipe = two int int int; makes = λ g. refl; trees = λ w. refl }
recipe_of operation.LogicalXor = record { recipe = two int int int; makes = λ g. refl; trees = λ w. refl }
recipe_of operation.ShiftLeft = record { recipe = two int int int; makes = λ g. refl; trees = λ w. refl }
recipe_of operation.ShiftRightLogical = record { recipe = two int int int; makes = λ g. refl; trees = λ w. refl }
recipe_of operation.ShiftRightArithmetic = record { recipe = two int int int; makes = λ g. refl; trees = λ w. refl }
recipe_of operation.Minimum = record { recipe = two int int int; makes = λ g. refl; trees = λ w. refl }
recipe_of operation.Maximum = record { recipe = two int int int; makes = λ g. refl; trees = λ w. refl }
recipe_of operation.Negate = record { recipe = one int int; makes = λ g. refl; trees = λ w. refl }
recipe_of operation.Absolute = record { recipe = one int int; makes = λ g. refl; trees = λ w. refl }
recipe_of operation.Successor = record { recipe = one int int; makes = λ g. refl; trees = λ w. refl }
recipe_of operation.Predecessor = record { recipe = one int int; makes = λ g. refl; trees = λ w. refl }
recipe_of operation.Not = record { recipe = one bool bool; makes = λ g. refl; trees = λ w. refl }
recipe_of operation.PrintInteger = record { recipe = one int unit; makes = λ g. refl; trees = λ w. refl }
recipe_of operation.PrintCharacter = record { recipe = one char unit; makes = λ g. refl; trees = λ w. refl }
recipe_of operation.PrintString = record { recipe = one string unit; makes = λ g. refl; trees = λ w. refl }
recipe_of operation.PrintLine = record { recipe = one string unit; makes = λ g. refl; trees = λ w. refl }
recipe_of operation.PrintNewline = record { recipe = one unit unit; makes = λ g. refl; trees = λ w. refl }
recipe_of operation.Relax = record { recipe = one unit unit; makes = λ g. refl; trees = λ w. refl }
recipe_of operation.QueueSelf = record { recipe = one unit int; makes = λ g. refl; trees = λ w. refl }
recipe_of operation.QueueSlots = record { recipe = one unit int; makes = λ g. refl; trees = λ w. refl }
recipe_of operation.StringOfInteger = record { recipe = one int string; makes = λ g. refl; trees = λ w. refl }
recipe_of operation.Concatenate = record { recipe = two string string string; makes = λ g. refl; trees = λ w. refl }
recipe_of operation.StringLength = record { recipe = one string int; makes = λ g. refl; trees = λ w. refl }
recipe_of operation.StringGet = record { recipe = two string int char; makes = λ g. refl; trees = λ w. refl }
recipe_of operation.StringSub = record { recipe = three string int int string; makes = λ g. refl; trees = λ w. refl }
recipe_of operation.CharacterCode = record { recipe = one char int; makes = λ g. refl; trees = λ w. refl }
recipe_of operation.CharacterOfCode = record { recipe = one int char; makes = λ g. refl; trees = λ w. refl }
recipe_of operation.First = record { recipe = with_both (of_two tuple a b (one 8 a)); makes = λ g. refl; trees = λ w. refl }
recipe_of operation.Second = record { recipe = with_both (of_two tuple a b (one 8 b)); makes = λ g. refl; trees = λ w. refl }
recipe_of operation.Ignore = record { recipe = with_a (one a unit); makes = λ g. refl; trees = λ w. refl }
recipe_of (operation.Compare comparison.Compare) = record { recipe = with_a (two a a int); makes = λ g. refl; trees = λ w. refl }
recipe_of (operation.Compare c) = record { recipe = with_a (two a a bool); makes = λ g. refl; trees = λ w. refl }
recipe_of operation.Same = record { recipe = with_a (two a a bool); makes = λ g. refl; trees = λ w. refl }
recipe_of operation.Other = record { recipe = with_a (two a a bool); makes = λ g. refl; trees = λ w. refl }
recipe_of operation.Raise = record { recipe = with_a (one exn a); makes = λ g. refl; trees = λ w. refl }
recipe_of operation.FailWith = record { recipe = with_a (one string a); makes = λ g. refl; trees = λ w. refl }
recipe_of operation.InvalidArgument = record { recipe = with_a (one string a); makes = λ g. refl; trees = λ w. refl }
recipe_of operation.Exit = record { recipe = with_a (one int a); makes = λ g. refl; trees = λ w. refl }
recipe_of operation.MakeReference = record { recipe = with_a (of_one ref a (one a 7)); makes = λ g. refl; trees = λ w. refl }
recipe_of operation.GetReference = record { recipe = with_a (of_one ref a (one 7 a)); makes = λ g. refl; trees = λ w. refl }
recipe_of operation.SetReference = record { recipe = with_a (of_one ref a (two 7 a unit)); makes = λ g. refl; trees = λ w. refl }
recipe_of operation.IncrementReference = record { recipe = with_a (of_one ref int (one 7 unit)); makes = λ g. refl; trees = λ w. refl }
recipe_of operation.DecrementReference = record { recipe = with_a (of_one ref int (one 7 unit)); makes = λ g. refl; trees = λ w. refl }
recipe_of operation.ArrayMake = record { recipe = with_a (of_one array a (two int a 7)); makes = λ g. refl; trees = λ w. refl }
recipe_of operation.ArrayLength = record { recipe = with_a (of_one array a (one 7 int)); makes = λ g. refl; trees = λ w. refl }
recipe_of operation.ArrayGet = record { recipe = with_a (of_one array a (two 7 int a)); makes = λ g. refl; trees = λ w. refl }
recipe_of operation.ArraySet = record { recipe = with_a (of_one array a (three 7 int a unit)); makes = λ g. refl; trees = λ w. refl }
recipe_of operation.CallIterate = record { recipe = with_a (of_two arrow a unit (of_one array a (two 7 8 unit))); makes = λ g. refl; trees = λ w. refl }
recipe_of operation.CallFold = record { recipe = with_both (of_two arrow b a (of_two arrow a 8 (of_one array b (three 9 a 10 a)))); makes = λ g. refl; trees = λ w. refl }
recipe_of operation.CallTry = record { recipe = with_a (of_two arrow unit a (of_one option a (one 7 8))); makes = λ g. refl; trees = λ w. refl }
recipe_of operation.Perform = record { recipe = with_a (of_one effect a (one 7 a)); makes = λ g. refl; trees = λ w. refl }
recipe_of operation.Continue = record { recipe = with_both (of_two deep a b (two 8 a b)); makes = λ g. refl; trees = λ w. refl }
recipe_of operation.Discontinue = record { recipe = with_both (of_two deep a b (two 8 exn b)); makes = λ g. refl; trees = λ w. refl }
recipe_of operation.Fiber = record { recipe = with_both (of_two arrow a b (of_two shallow a b (one 8 9))); makes = λ g. refl; trees = λ w. refl }
recipe_of operation.QueuePush = record { recipe = with_a (of_two deep unit unit (one 7 unit)); makes = λ g. refl; trees = λ w. refl }
recipe_of operation.QueueTake = record { recipe = with_a (of_two deep unit unit (of_one option 7 (one int 8))); makes = λ g. refl; trees = λ w. refl }
recipe_of operation.Spawn = record { recipe = with_a (of_two arrow unit a (of_one domain a (one 7 8))); makes = λ g. refl; trees = λ w. refl }
recipe_of operation.Join = record { recipe = with_a (of_one domain a (one 7 a)); makes = λ g. refl; trees = λ w. refl }
recipe_of operation.AtomicMake = record { recipe = with_a (of_one atomic a (one a 7)); makes = λ g. refl; trees = λ w. refl }
recipe_of operation.AtomicGet = record { recipe = with_a (of_one atomic a (one 7 a)); makes = λ g. refl; trees = λ w. refl }
recipe_of operation.AtomicSet = record { recipe = with_a (of_one atomic a (two 7 a unit)); makes = λ g. refl; trees = λ w. refl }
recipe_of operation.AtomicExchange = record { recipe = with_a (of_one atomic a (two 7 a a)); makes = λ g. refl; trees = λ w. refl }
recipe_of operation.AtomicCompareAndSet = record { recipe = with_a (of_one atomic a (three 7 a a bool)); makes = λ g. refl; trees = λ w. refl }
recipe_of operation.AtomicFetchAndAdd = record { recipe = with_a (of_one atomic int (two 7 int int)); makes = λ g. refl; trees = λ w. refl }
recipe_of operation.AtomicIncrement = record { recipe = with_a (of_one atomic int (one 7 unit)); makes = λ g. refl; trees = λ w. refl }
recipe_of operation.AtomicDecrement = record { recipe = with_a (of_one atomic int (one 7 unit)); makes = λ g. refl; trees = λ w. refl }

-- the places of the built-in types are numbers of types
built_in_numbers : (g : Graph) → 6 ≤ length g.nodes → HaveNumbers built_in_places g
built_in_numbers g h = record {
  some = omega arith;
  numbers = (omega arith, (omega arith, (omega arith, (omega arith, (omega arith, (omega arith, tt))))));
}

-- and have their trees
built_in_read : (f : ℕ → Ty) → Reads f built_in → map f built_in_places ≡ built_in_trees
built_in_read f reads =
    let is_int : f int ≡ tree.int = reads 0 in
    let is_bool : f bool ≡ tree.bool = reads 1 in
    let is_char : f char ≡ tree.char = reads 2 in
    let is_string : f string ≡ tree.string = reads 3 in
    let is_unit : f unit ≡ tree.unit = reads 4 in
    let is_exn : f exn ≡ tree.exn = reads 5 in
    cc

-- only new types are made
pub signature_is_made_law : SignatureIsMade
signature_is_made_law op g h =
    let o = recipe_of op in
    subst (λ s. IsMade g s.types) (o.makes g) (recipe_makes o.recipe built_in_places g g (built_in_numbers g h) NothingMade)

-- all numbers are those of types
pub signature_has_numbers_law : SignatureHasNumbers
signature_has_numbers_law op g h =
    let o = recipe_of op in
    subst HasNumbers (o.makes g) (recipe_has_numbers o.recipe built_in_places g (built_in_numbers g h))

-- trees of a recipe are an instance of its row, and the other way round
row_of_recipe :
    (op : Operation) (o : HasRecipe op) (ts : Tys) (t : Ty) → FitsRecipe o.recipe built_in_trees ts t → OperationHas (operation_of op) ts t
row_of_recipe op o ts t c =
    let same = o.trees c.instance in
    (c.instance, c.parts ∙ ap (λ (row : OperationType). row.parts) same, c.gives ∙ ap (λ (row : OperationType). row.result) same)

-- what reads the graph behind gives the types of an instance of the row
pub signature_is_sound_law : SignatureIsSound
signature_is_sound_law op g f well h built types arguments reads =
    let o = recipe_of op in
    let room : HasRoom (signature_of op g).types = record { types = types; arguments = arguments } in
    let sound =
    subst
    (λ s. HasRoom s.types → Reads f s.types → FitsRecipe o.recipe (map f built_in_places) (trees_of f (parts_of s)) (f s.signature.gives))
    (o.makes g) (recipe_is_sound f (built 0) o.recipe built_in_places g well (built_in_numbers g h)) in
    let s = signature_of op g in
    row_of_recipe op o (trees_of f (parts_of s)) (f s.signature.gives)
    (subst (λ trees. FitsRecipe o.recipe trees (trees_of f (parts_of s)) (f s.signature.gives)) (built_in_read f built) (sound room reads))

-- and the graph behind is read with the types of any instance
pub signature_is_complete_law : SignatureIsComplete
signature_is_complete_law op g f well h built reads types arguments ts t row =
    let o = recipe_of op in
    let w = row.0 in
    let n : ℕ = length g.nodes in
    let room : HasRoom (signature_of op g).types = record { types = types; arguments = arguments } in
    let complete =
    subst
    (λ s.
    HasRoom s.types
    → ReadsWith f n s (trees_by o.recipe w (map f built_in_places)).parts (trees_by o.recipe w (map f built_in_places)).result)
    (o.makes g) (λ r. recipe_is_complete o.recipe f w built_in_places g (built 0) well (built_in_numbers g h) r reads) in
    let same : trees_by o.recipe w (map f built_in_places) ≡ instance_of_row w (operation_type (operation_of op)) =
    ap (trees_by o.recipe w) (built_in_read f built) ∙ o.trees w in
    let k = complete room in
    record {
      reading = k.reading;
      reads = k.reads;
      before = k.before;
      parts = k.parts ∙ ap (λ (row : OperationType). row.parts) same ∙ sym row.1;
      gives = k.gives ∙ ap (λ (row : OperationType). row.result) same ∙ sym row.2;
    }
