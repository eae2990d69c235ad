-- A group of functions by itself is ruled, if all terms are.
use Rattle.std.proofs.Common.{◌≡◌, ℕ, ◌<◌, List, [], ◌∷◌, ◌++◌, length, flat_map, ap, refl, ◌∙◌}
use Rattle.effect_meaning.specs.declared.core_nodes.Function.{Function}
use Rattle.effect_meaning.specs.Arena.{Parts, AllMet, IsArena, counts, function_needs}
use Rattle.effect_meaning.specs.Scoped.{function_names}
use Rattle.type_terms.specs.TypeTrees.{Ty}
use Rattle.type_terms.specs.Contexts.{Names}
use Rattle.ml_infer.specs.declared.inference.Inference.{Inference}
use Rattle.ml_infer.specs.Terms.{functions_first}
use Rattle.inference_laws.proofs.Fields.{left_kept}
use Rattle.inference_laws.proofs.GraphLaws.{GraphLaws}
use Rattle.inference_laws.proofs.Terms.{functions_kept}
use Rattle.inference_laws.proofs.Runs.{left}
use Rattle.inference_laws.proofs.Grounds.{Tops, names_of, scope_of}
use Rattle.inference_laws.proofs.Following.{follows_on, follows_within}
use Rattle.inference_laws.proofs.TermsDone.{TermIsRuled}
use Rattle.inference_laws.proofs.Opening.{within_names}
use Rattle.inference_laws.proofs.GroupsDone.{AreNamed, functions_ruled, group_done, group_names}
use Rattle.inference_laws.proofs.GroupItemsDone.{GroupIsRuled, group_tree}

module _ (l : GraphLaws) (p : Parts) (arena : IsArena p) (f : ℕ → Ty) (tops : Tops) (vs : ℕ → Ty) where
  named_so : (fs : List Function) (ns : Names) → AreNamed l p arena f tops vs fs ns → names_of ns ≡ function_names (group_tree p fs)
  named_so [] [] h = refl
  named_so [] (n ∷ ns) h = absurd h
  named_so (g ∷ fs) [] h = absurd h
  named_so (g ∷ fs) (n ∷ ns) h = ap (λ (x : ℕ). x ∷ names_of ns) h.0 ∙ ap (λ (xs : List ℕ). g.name ∷ xs) (named_so fs ns h.1)

  pub group_ruled :
      ((m : ℕ) → m < length p.terms → TermIsRuled p f tops vs m) → (fs : List Function)
      → AllMet (counts p) (flat_map function_needs fs)
      → GroupIsRuled p f tops vs fs
  group_ruled terms fs met sc k s e d ending ground scope new scoped =
      let rules = functions_ruled l p arena f tops vs (length p.terms) terms fs met in
      let start : Inference = left [] s in
      let kept = functions_kept l p s start (left_kept s s [] ground.here (λ room. tt)) fs in
      let g = group_done l p arena f tops vs fs rules sc [] [] [] k s e d kept ending ground scope new scoped in
      let ns = group_names l p arena f tops vs fs start in
      record {
        group = ns;
        follows =
            follows_on p (scope_of tops []) s (functions_first fs start) e g.begin
            (follows_within p (scope_of tops []) (scope_of tops (ns ++ [])) (functions_first fs start) e
            (within_names tops ns []) g.follows);
        named = named_so fs ns g.named;
        agree = g.agree;
        typed = g.typed;
      }
