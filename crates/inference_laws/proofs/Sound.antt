-- The equations of an accepted program have a solution: that of a reading of the types of its walk.
use Rattle.std.proofs.Common.{ℕ, ◌<◌, List, length, flat_map}
use Rattle.effect_meaning.specs.declared.core_nodes.Function.{Function}
use Rattle.effect_meaning.specs.Arena.{Parts, AllMet, counts, function_needs}
use Rattle.type_graph.specs.Graph.{built_in}
use Rattle.type_terms.specs.TypeTrees.{Ty}
use Rattle.type_readings.specs.Readings.{Reads}
use Rattle.inference_laws.specs.SoundLaws.{AcceptedIsSolved, IsAsked}
use Rattle.inference_laws.specs.VerdictLaws.{AcceptedIsRead, IsAccepted, whole_walk}
use Rattle.inference_laws.proofs.GraphLaws.{GraphLaws}
use Rattle.inference_laws.proofs.Items.{walked_kept}
use Rattle.inference_laws.proofs.Grounds.{Tops}
use Rattle.inference_laws.proofs.TermsDone.{PatternIsRuled, TermIsRuled}
use Rattle.inference_laws.proofs.GroupItemsDone.{GroupIsRuled}
use Rattle.inference_laws.proofs.GroupsRuled.{group_ruled}
use Rattle.inference_laws.proofs.ItemsHold.{program_items_have}
use Rattle.inference_laws.proofs.EachTermRuled.{pattern_ruled, term_ruled}

module _ (l : GraphLaws) where
  module _ (p : Parts) (asked : IsAsked p) where
    patterns : (f : ℕ → Ty) → Reads f built_in → (tops : Tops) (q : ℕ) → q < length p.patterns → PatternIsRuled p f tops q
    patterns f built tops = pattern_ruled l p asked.arena asked.below asked.effects f tops built

    terms : (f : ℕ → Ty) → Reads f built_in → (tops : Tops) (vs : ℕ → Ty) (n : ℕ) → n < length p.terms → TermIsRuled p f tops vs n
    terms f built tops = term_ruled l p asked.arena asked.below asked.effects f tops built

    groups :
        (f : ℕ → Ty) → Reads f built_in → (tops : Tops) (vs : ℕ → Ty) (fs : List Function)
        → AllMet (counts p) (flat_map function_needs fs)
        → GroupIsRuled p f tops vs fs
    groups f built tops vs fs met = group_ruled l p asked.arena f tops vs (terms f built tops vs) fs met

  -- the law
  pub accepted_is_solved_law : AcceptedIsRead → AcceptedIsSolved
  accepted_is_solved_law read p bs asked v =
      let a : IsAccepted (whole_walk p) v.order bs = read p bs v in
      let built : Reads a.reading built_in = (walked_kept l p 18446744073709551615).reads a.there.room a.ended a.reading a.reads in
      program_items_have l p asked.arena asked.few_terms (terms p asked) (patterns p asked) (groups p asked) a.reading
      18446744073709551615 asked.scoped asked.few_fields
      (record { room = a.there.room; on = a.ended; reads = a.reads }) a.small
