use Rattle.std.proofs.Common.{rules, ◌≡◌, ℕ, reverse, List, subst}
use Rattle.std.specs.List.Sorted.{IsStable}
use Rattle.std.proofs.lemmas.List.Sorted.{answers_always}
use Rattle.ml_infer.specs.declared.inference.Compared.{Compared}
use Rattle.ml_infer.specs.Verdict.{text_cmp}
use Rattle.ml_infer.proofs.verdict.in_text.Goals as goal

-- where a comparison stands
abbrev key : Compared → ℕ × ℕ × ℕ
key c = (c.item, c.place.line, c.place.column)

pub returns-clause-sorted : goal.returns-clause-sorted
returns-clause-sorted c = c.in_ok-sort_by_key.ensures.sorted key (answers_always _ _ _ (λ f a r f' k. search rules))

pub returns-clause-stable : goal.returns-clause-stable
returns-clause-stable c =
    let items : c.in_ok-comparisons.comparisons.items ≡ reverse c.args.walk.now.comparisons = cc (c.in_ok-comparisons.ensures.items, c.as_slice.ensures) in
    subst (λ (xs : List Compared). IsStable text_cmp xs c.sort_by_key.new.self.items) items
    (c.in_ok-sort_by_key.ensures.stable key (answers_always _ _ _ (λ f a r f' k. search rules)))
