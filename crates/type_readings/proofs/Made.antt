-- Graphs that are made from others by new types.
use Rattle.std.proofs.Common.{◌≡◌, ℕ, suc, ◌<◌, ◌==◌, List, [], ◌∷◌, length, false, refl, sym, ◌∙◌, ap, subst, arith, ⊎_elim, if◌then◌else◌}
use Rattle.std.proofs.lemmas.Bool.Decides.{eqb_tells, leb_tells}
use Rattle.std.proofs.lemmas.List.{get_or_past, length-append}
use Rattle.type_terms.specs.TypeTrees.{Ty, Constructed, AndTy}
use Rattle.type_graph.specs.declared.form.Form.{Form}
use Rattle.type_graph.specs.declared.form.Form.TheVariants.{Variable, Link, Applied}
use Rattle.type_graph.specs.declared.types.Node.{Node}
use Rattle.type_graph.specs.Graph.{Graph, fresh, unknown, node_at, arguments_of}
use Rattle.type_readings.specs.Readings.{trees_of, IsOfForm, Reads}
use Rattle.type_readings.specs.WellFormed.{NamesWhatIsThere, AreNumbers, IsWellFormed}
use Rattle.type_readings.specs.SignatureRules.{NothingMade, VariableMade, TypeMade, MadeIsLonger, MadeKeepsTypes, MadeKeepsForm, MadeKeepsReadings}
use Rattle.type_readings.proofs.Lists.{each_of_part}
use Rattle.type_readings.proofs.Making.{node_before, one_longer, variable_keeps_form_law, variable_asks_nothing_law, application_keeps_form_law, application_is_read_law}

-- what is made is longer
pub made_is_longer_law : MadeIsLonger
made_is_longer_law g h NothingMade = (omega arith, omega arith, refl)
made_is_longer_law g h (VariableMade k m) =
    let before = made_is_longer_law g k m in
    let nodes = before.0 in
    let longer = one_longer k.nodes unknown in
    (omega arith, before.1, before.2)
made_is_longer_law g h (TypeMade c ns k numbers m) =
    let before = made_is_longer_law g k m in
    let nodes = before.0 in
    let arguments = before.1 in
    let longer = one_longer k.nodes (fresh (Applied c (length k.arguments) (length ns)) false) in
    let more = length-append k.arguments ns in
    (omega arith, omega arith, before.2)

-- what was there stays as it is
pub made_keeps_types_law : MadeKeepsTypes
made_keeps_types_law g h NothingMade m less = refl
made_keeps_types_law g h (VariableMade k made) m less =
    let longer = (made_is_longer_law g k made).0 in
    node_before k.nodes unknown m (omega arith) ∙ made_keeps_types_law g k made m less
made_keeps_types_law g h (TypeMade c ns k numbers made) m less =
    let longer = (made_is_longer_law g k made).0 in
    node_before k.nodes (fresh (Applied c (length k.arguments) (length ns)) false) m (omega arith) ∙ made_keeps_types_law g k made m less

-- it is well formed
pub made_keeps_form_law : MadeKeepsForm
made_keeps_form_law g h NothingMade well room more = well
made_keeps_form_law g h (VariableMade k m) well room more =
    let longer = one_longer k.nodes unknown in
    variable_keeps_form_law k (made_keeps_form_law g k m well (omega arith) more) (omega arith)
made_keeps_form_law g h (TypeMade c ns k numbers m) well room more =
    let longer = one_longer k.nodes (fresh (Applied c (length k.arguments) (length ns)) false) in
    let longer_arguments = length-append k.arguments ns in
    application_keeps_form_law c ns false k (made_keeps_form_law g k m well (omega arith) (omega arith)) numbers (omega arith) (omega arith)

-- and what reads it reads the graph before
pub made_keeps_readings_law : MadeKeepsReadings
made_keeps_readings_law g h f NothingMade well room more reads = reads
made_keeps_readings_law g h f (VariableMade k m) well room more reads =
    let longer = one_longer k.nodes unknown in
    let form = made_keeps_form_law g k m well (omega arith) more in
    made_keeps_readings_law g k f m well (omega arith) more ((variable_asks_nothing_law k f form).0 reads)
made_keeps_readings_law g h f (TypeMade c ns k numbers m) well room more reads =
    let longer = one_longer k.nodes (fresh (Applied c (length k.arguments) (length ns)) false) in
    let longer_arguments = length-append k.arguments ns in
    let form = made_keeps_form_law g k m well (omega arith) (omega arith) in
    made_keeps_readings_law g k f m well (omega arith) (omega arith) ((application_is_read_law c ns false k f form).0 reads).0

-- only the trees of types that are there count
module _ (f k : ℕ → Ty) (g : Graph) (well : IsWellFormed g) (same : (m : ℕ) → m < length g.nodes → k m ≡ f m) where
  pub trees_same : (ns : List ℕ) → AreNumbers (length g.nodes) ns → trees_of k ns ≡ trees_of f ns
  trees_same [] h = refl
  trees_same (n ∷ ns) h = ap (λ t. AndTy t (trees_of k ns)) (same n h.0) ∙ ap (AndTy (f n)) (trees_same ns h.1)

  form_same :
      (a : Form) (n : ℕ) → n < length g.nodes → NamesWhatIsThere (length g.nodes) (length g.arguments) a
      → IsOfForm f g.arguments a (f n) → IsOfForm k g.arguments a (k n)
  form_same Variable n less names h = tt
  form_same (Link m) n less names h = same n less ∙ h ∙ sym (same m names)
  form_same (Applied c first count) n less names h =
      let ns = arguments_of g.arguments (Applied c first count) in
      let numbers = each_of_part (λ m. m < length g.nodes) g.arguments first count well.numbers in
      same n less ∙ h ∙ ap (Constructed c) (sym (trees_same ns numbers))

  pub reads_still : Reads f g → Reads k g
  reads_still reads n =
      ⊎_elim (λ p. form_same (node_at g.nodes n).form n p.1 (well.names n) (reads n))
      (λ p.
      let none : node_at g.nodes n ≡ unknown = get_or_past g.nodes n unknown (omega arith) in
      subst (λ (y : Node). IsOfForm k g.arguments y.form (k n)) (sym none) tt)
      (leb_tells (suc n) (length g.nodes))

-- a number has this tree, and the others have theirs
abbrev pub extended : ℕ → Ty → (ℕ → Ty) → ℕ → Ty
extended n t f m = if m == n then t else f m

module _ (n : ℕ) (t : Ty) (f : ℕ → Ty) where
  pub extended_there : extended n t f n ≡ t
  extended_there = ⊎_elim (λ p. rw p.0) (λ p. absurd (p.1 refl)) (eqb_tells n n)

  pub extended_before : (m : ℕ) → m < n → extended n t f m ≡ f m
  extended_before m less =
      ⊎_elim
      (λ p.
      let same : m ≡ n = p.1 in
      absurd (omega arith))
      (λ p. rw p.0)
      (eqb_tells m n)
