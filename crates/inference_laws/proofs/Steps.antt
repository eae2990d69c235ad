-- What is kept where types are made, made equal, copied, and made outer.
use Rattle.std.proofs.Common.{◌≡◌, ℕ, suc, ◌+◌, ◌≤◌, List, [], ◌∷◌, ◌++◌, length, Option, Some, None, Bool, true, false, refl, sym, ◌∙◌, ap, subst, arith, if◌then◌else◌, length-append, min, nat_le}
use Rattle.std.specs.List.{AllByRecursion}
use Rattle.std.proofs.lemmas.List.Sums.{count_by-le-length}
use Rattle.fx_base.specs.declared.refusal.Place.{Place}
use Rattle.type_graph.specs.declared.types.Node.{Node}
use Rattle.type_graph.specs.Graph.{Graph, variable_added, applied}
use Rattle.type_graph.specs.Outer.{made_outer, item_ended}
use Rattle.type_graph.specs.Copied.{copied}
use Rattle.type_graph.specs.Unified.{unified, unified_is}
use Rattle.type_readings.specs.OuterLaws.{FixedStays}
use Rattle.type_readings.specs.WellFormed.{AreNumbers, IsWellFormed, IsOuter, IsOuterOr, IsGiving, is_link}
use Rattle.ml_infer.specs.declared.inference.End.{End}
use Rattle.ml_infer.specs.declared.inference.End.TheVariants as ends
use Rattle.ml_infer.specs.declared.inference.Inference.{Inference}
use Rattle.ml_infer.specs.declared.inference.NameType.{NameType}
use Rattle.ml_infer.specs.declared.inference.NameType.TheVariants.{One, Generalised}
use Rattle.ml_infer.specs.Inference.{copied_type, equated, equated_while, new_name, new_variable, one_of_known, one_type, taken, taken_from, taken_equation, type_of_known, type_of_name}
use Rattle.ml_infer.specs.Items.{given_outer, outer_from_here}
use Rattle.ml_infer.specs.Known.{known}
use Rattle.inference_laws.specs.Whole.{HasRoom, IfKnown, NameIsThere, IsWhole}
use Rattle.inference_laws.proofs.Each.{known_at}
use Rattle.inference_laws.proofs.Kept.{Kept, Roomy, Has, HasAll, kept_here, room_before, has_later}
use Rattle.inference_laws.proofs.Fields.{counted_kept, name_kept, types_kept, ungiven_kept}
use Rattle.inference_laws.proofs.GraphLaws.{GraphLaws}

-- one type more
one_more : {X : Type 0} (xs : List X) (x : X) → length (xs ++ x ∷ []) ≡ suc (length xs)
one_more xs x = length-append xs (x ∷ []) ∙ omega arith

-- no more is given than there are types
pub given_few : (g : Graph) → IsWellFormed g → IsGiving g → length g.given ≤ 33554432
given_few g well giving =
    let few = giving.given_few in
    let most = count_by-le-length (λ (node : Node). is_link node.form) g.nodes in
    let room = well.room in
    omega arith

module _ (l : GraphLaws) (s0 s : Inference) where
  -- a new variable
  pub variable_made : Kept s0 s → Kept s0 (new_variable s).state
  variable_made kept =
      let long : length (variable_added s.types).nodes ≡ suc (length s.types.nodes) = one_more s.types.nodes _ in
      types_kept s0 s (variable_added s.types) s.end kept (omega arith) (omega arith)
      (λ room w.
      let more = room.types in
      let old = w.types.built_in in
      record {
        well = l.variable_form s.types w.types.well (omega arith);
        giving = λ e. l.variable_giving s.types w.types.well (w.types.giving e);
        built_in = omega arith;
      })
      (λ room w. l.variable_fixed s.types w.types.well)
      (λ e. e)
      (λ room w e. record {
        reads = λ f is. (l.variable_reads s.types f w.types.well).0 is;
        outer = l.variable_outer s.types w.types.well;
      })

  pub variable_is : Has (new_variable s).state (new_variable s).found
  variable_is room =
      let long : length (variable_added s.types).nodes ≡ suc (length s.types.nodes) = one_more s.types.nodes _ in
      omega arith

  -- a type constructor with its arguments
  module _ (c : ℕ) (ns : List ℕ) (outer : Bool) where
    abbrev with_type : Inference
    with_type = record s { types = applied c ns outer s.types }

    pub type_made :
        Kept s0 s → HasAll s ns → (HasRoom s.types → outer ≡ true → AllByRecursion (IsOuter s.types) ns) → Kept s0 with_type
    type_made kept there are_outer =
        let long : length (applied c ns outer s.types).nodes ≡ suc (length s.types.nodes) = one_more s.types.nodes _ in
        let longer = length-append s.types.arguments ns in
        types_kept s0 s (applied c ns outer s.types) s.end kept (omega arith) (omega arith)
        (λ room w.
        let more = room.types in
        let further = room.arguments in
        let before : HasRoom s.types = record { types = omega arith; arguments = omega arith } in
        let old = w.types.built_in in
        record {
          well = l.applied_form c ns outer s.types w.types.well (there before) (omega arith) (omega arith);
          giving = λ e. l.applied_giving c ns outer s.types w.types.well (w.types.giving e) (there before) (are_outer before);
          built_in = omega arith;
        })
        (λ room w. l.applied_fixed c ns outer s.types w.types.well)
        (λ e. e)
        (λ room w e. record {
          reads = λ f is. ((l.applied_reads c ns outer s.types f w.types.well).0 is).0;
          outer = l.applied_outer c ns outer s.types w.types.well;
        })

    pub type_is : Has with_type (length s.types.nodes)
    type_is room =
        let long : length (applied c ns outer s.types).nodes ≡ suc (length s.types.nodes) = one_more s.types.nodes _ in
        omega arith

  -- one that isn't outer
  pub inner_made : (c : ℕ) (ns : List ℕ) → Kept s0 s → HasAll s ns → Kept s0 (record s { types = applied c ns false s.types })
  inner_made c ns kept there = type_made c ns false kept there (λ room e. absurd (cc))

  -- two types are made equal, or clash
  module _ (at : Place) (a b : ℕ) where
    equation_kept :
        (fits : Bool) (h : Graph) → unified 18446744073709551615 ((a, b) ∷ []) s.types ≡ unified_is fits h → s.end ≡ None
        → Kept s0 s
        → Has s a → Has s b → Kept s0 (taken_equation at (unified_is fits h) s)
    equation_kept fits h e on kept has_a has_b =
        let same = l.unified_numbers 18446744073709551615 ((a, b) ∷ []) s.types h fits e in
        let long = same.0 in
        let longer = ap (λ (xs : List ℕ). length xs) same.1 in
        let before : HasRoom h → HasRoom s.types = λ room.
        let more = room.types in let further = room.arguments in record { types = omega arith; arguments = omega arith } in
        let well : HasRoom h → IsWhole s → IsWellFormed h = λ room w.
        l.unified_form 18446744073709551615 ((a, b) ∷ []) s.types h fits w.types.well
        ((has_a (before room), has_b (before room)), tt) e in
        let fixed : HasRoom h → IsWhole s → FixedStays s.types h = λ room w n low is.
        l.unified_fixed 18446744073709551615 ((a, b) ∷ []) s.types h fits w.types.well
        ((has_a (before room), has_b (before room)), tt) e n is.0
        is.1 in
        elim fits as (λ f. unified 18446744073709551615 ((a, b) ∷ []) s.types ≡ unified_is f h
        → Kept s0 (taken_equation at (unified_is f h) s)) [
          | true ↦
              λ is.
              let t = types_kept s0 s h s.end kept (omega arith) (omega arith)
              (λ room w.
              let old = w.types.built_in in
              record {
                well = well room w;
                giving =
                    λ n. l.unified_giving 18446744073709551615 ((a, b) ∷ []) s.types h w.types.well (w.types.giving n)
                    ((has_a (before room), has_b (before room)), tt) is;
                built_in = omega arith;
              })
              fixed (λ n. n)
              (λ room w n. record {
                reads =
                    λ f r.
                    (l.unified_reads 18446744073709551615 ((a, b) ∷ []) s.types h f w.types.well
                    ((has_a (before room), has_b (before room)), tt) is
                    r).0;
                outer = l.unified_outer a b s.types h w.types.well (has_a (before room)) (has_b (before room)) is;
              }) in
              counted_kept s0 (record s { types = h }) s.records (min (s.equations + 1) 18446744073709551615) s.item s.naming at t
          | false ↦
              λ is.
              types_kept s0 s h (Some (ends.Fault at)) kept (omega arith) (omega arith)
              (λ room w.
              let old = w.types.built_in in
              record { well = well room w; giving = λ n. absurd (cc); built_in = omega arith })
              fixed (λ n. absurd (cc)) (λ room w n. absurd (cc))
        ]
        e

    equated_so :
        (o : Option End) → s.end ≡ o → Kept s0 s → Has s a → Has s b → Kept s0 (equated_while o at a b s)
    equated_so (Some e) is kept has_a has_b = kept
    equated_so None is kept has_a has_b =
        let u = unified 18446744073709551615 ((a, b) ∷ []) s.types in
        elim (nat_le s.most s.equations)
        as (λ t. Kept s0 (if t then record s { end = Some ends.Stopped } else taken_equation at u s)) [
          | true ↦
              types_kept s0 s s.types (Some ends.Stopped) kept (omega arith) (omega arith)
              (λ room w. record { well = w.types.well; giving = λ n. absurd (cc); built_in = w.types.built_in })
              (λ room w n lt is. is) (λ n. absurd (cc)) (λ room w n. absurd (cc))
          | false ↦ equation_kept u.fits u.types refl is kept has_a has_b
        ]

    pub equated_kept : Kept s0 s → Has s a → Has s b → Kept s0 (equated at a b s)
    equated_kept kept has_a has_b = equated_so s.end refl kept has_a has_b

  -- what the item gave becomes outer
  pub ended_kept : Kept s0 s → Kept s0 (given_outer s)
  ended_kept kept =
      let g = s.types in
      let same = (l.end_numbers g).0 in
      let long = same.0 in
      let longer = ap (λ (xs : List ℕ). length xs) same.1 in
      types_kept s0 s (item_ended g) s.end kept (omega arith) (omega arith)
      (λ room w.
      let old = w.types.built_in in
      record {
        well = l.end_form g w.types.well;
        giving = λ e. l.copyable_giving (item_ended g) (l.end_copyable g w.types.well (w.types.giving e)) (l.end_numbers g).1;
        built_in = omega arith;
      })
      (λ room w. l.end_fixed g)
      (λ e. e)
      (λ room w e. record {
        reads = λ f is. (l.end_reads g f).0 is;
        outer =
            λ n low is.
            let few = given_few g w.types.well (w.types.giving e) in
            subst (λ ns. IsOuterOr (item_ended g) ns n) (sym (l.end_numbers g).1)
            (l.end_outer g w.types.well n is (w.types.giving e).given_numbers few);
      })

  -- types become outer
  pub outer_kept :
      (ts : List ℕ) → Kept s0 s → HasAll s ts → (HasRoom s.types → length ts ≤ 33554432) → Kept s0 (outer_from_here ts s)
  outer_kept ts kept there few =
      let g = s.types in
      let same = l.outer_numbers 18446744073709551615 ts g in
      let long = same.0 in
      let longer = ap (λ (xs : List ℕ). length xs) same.1 in
      types_kept s0 s (made_outer 18446744073709551615 ts g) s.end kept (omega arith) (omega arith)
      (λ room w.
      let more = room.types in
      let further = room.arguments in
      let before : HasRoom g = record { types = omega arith; arguments = omega arith } in
      let old = w.types.built_in in
      record {
        well = l.outer_form 18446744073709551615 ts g w.types.well;
        giving = λ e. l.outer_giving ts g w.types.well (w.types.giving e) (there before) (few before);
        built_in = omega arith;
      })
      (λ room w. l.outer_fixed 18446744073709551615 ts g)
      (λ e. e)
      (λ room w e. record {
        reads = λ f is. (l.outer_reads 18446744073709551615 ts g f).0 is;
        outer = l.outer_outer 18446744073709551615 ts g;
      })

module _ (l : GraphLaws) (s0 s : Inference) where
  -- a copy, as long as the walk goes on
  module _ (t : ℕ) (on : s.end ≡ None) where
    abbrev ended : Graph
    ended = item_ended s.types

    copy_grows :
        (length ended.nodes ≤ length (copied t ended).types.nodes) ×
        (length ended.arguments ≤ length (copied t ended).types.arguments)
    copy_grows = let k = l.copy_numbers t (copied t ended).copy ended (copied t ended).types refl in (k.0, k.1)

    pub copy_kept : Kept s0 s → Has s t → Kept s0 (copied_type t s).state
    copy_kept kept has =
        let k = ended_kept l s s (kept_here s0 s kept) in
        let here = ended_kept l s0 s kept in
        let c = copied t ended in
        let grows = copy_grows in
        types_kept s0 (record s { types = ended }) c.types s.end here grows.0 grows.1
        (λ room w.
        let more = room.types in
        let further = room.arguments in
        let more_before = grows.0 in
        let further_before = grows.1 in
        let before : HasRoom ended = record { types = omega arith; arguments = omega arith } in
        let old = w.types.built_in in
        let there = has_later s (record s { types = ended }) t k has before in
        let whole = kept.whole (room_before s (record s { types = ended }) k before) in
        let copyable = l.end_copyable s.types whole.types.well (whole.types.giving on) in
        record {
          well = l.copy_form t c.copy ended c.types w.types.well copyable there refl room.types room.arguments;
          giving =
              λ e.
              l.copyable_giving c.types (l.copy_copyable t c.copy ended c.types w.types.well copyable there refl room.types)
              ((l.copy_numbers t c.copy ended c.types refl).2 ∙ (l.end_numbers s.types).1);
          built_in = omega arith;
        })
        (λ room w. l.copy_fixed t c.copy ended c.types w.types.well refl)
        (λ e. e)
        (λ room w e. record {
          reads = λ f is. l.copy_reads t c.copy ended c.types f w.types.well refl is;
          outer = l.copy_outer t c.copy ended c.types w.types.well refl;
        })

    pub copy_is : Kept s0 s → Has s t → Has (copied_type t s).state (copied_type t s).found
    copy_is kept has room =
        let k = ended_kept l s s (kept_here s0 s kept) in
        let c = copied t ended in
        let grows = copy_grows in
        let more = room.types in
        let further = room.arguments in
        let more_before = grows.0 in
        let further_before = grows.1 in
        let before : HasRoom ended = record { types = omega arith; arguments = omega arith } in
        let whole = kept.whole (room_before s (record s { types = ended }) k before) in
        let there = has_later s (record s { types = ended }) t k has before in
        l.copy_number t c.copy ended c.types (k.whole before).types.well
        (l.end_copyable s.types whole.types.well (whole.types.giving on)) there
        refl room.types

module _ (l : GraphLaws) (s0 s : Inference) (kept : Kept s0 s) where
  made : Kept s0 (new_variable s).state
  made = variable_made l s0 s kept

  -- a new name, of a new type
  pub named_kept : (x : ℕ) → Kept s0 (new_name x s).state
  named_kept x =
      let v = new_variable s in name_kept s0 v.state x (One v.found v.state.pattern) made (variable_is l s0 s) (omega arith)

  pub named_is : (x : ℕ) → Has (new_name x s).state (new_name x s).found
  named_is x = variable_is l s0 s

  -- what is known of names is there
  pub known_name : (x : ℕ) → Roomy s (λ types. IfKnown (NameIsThere types) (known s.names x))
  known_name x room = known_at (NameIsThere (length s.types.nodes)) s.names x (kept.whole room).tables.names_there

  module _ (x : ℕ) where
    known_kept :
        (o : Option NameType) → s.end ≡ None → Roomy s (λ types. IfKnown (NameIsThere types) o)
        → Kept s0 (type_of_known o x s).state × Has (type_of_known o x s).state (type_of_known o x s).found
    known_kept None on there = (named_kept x, named_is x)
    known_kept (Some (One t q)) on there = (kept, there)
    known_kept (Some (Generalised t)) on there = (copy_kept l s0 s t on kept there, copy_is l s0 s t on kept there)

    -- the type of a use of a name, as long as the walk goes on
    pub use_kept : s.end ≡ None → Kept s0 (type_of_name x s).state × Has (type_of_name x s).state (type_of_name x s).found
    use_kept on = known_kept (known s.names x) on (known_name x)

    one_known_kept :
        (o : Option NameType) → Roomy s (λ types. IfKnown (NameIsThere types) o)
        → Kept s0 (one_of_known o x s).state × Has (one_of_known o x s).state (one_of_known o x s).found
    one_known_kept None there = (named_kept x, named_is x)
    one_known_kept (Some (One t q)) there = (kept, there)
    one_known_kept (Some (Generalised t)) there = (named_kept x, named_is x)

    -- the type of a name that isn't generalised
    pub one_kept : Kept s0 (one_type x s).state × Has (one_type x s).state (one_type x s).found
    one_kept = one_known_kept (known s.names x) (known_name x)

  -- the type that was given last
  taken_so :
      (ts : List ℕ) → s.given ≡ ts → Kept s0 (taken_from ts s).state × Has (taken_from ts s).state (taken_from ts s).found
  taken_so [] e = (made, variable_is l s0 s)
  taken_so (t ∷ ts) e =
      let there : Roomy s (λ types. AreNumbers types (t ∷ ts)) = λ room.
      subst (AreNumbers (length s.types.nodes)) e (kept.whole room).numbers.given_there in
      (ungiven_kept s0 s ts kept (λ room. (there room).1), λ room. (there room).0)

  pub taken_kept : Kept s0 (taken s).state × Has (taken s).state (taken s).found
  taken_kept = taken_so s.given refl
