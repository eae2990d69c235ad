-- Lines that are put together part by part.
use Rattle.std.proofs.Common.{◌≡◌, ℕ, ◌+◌, ◌<◌, List, [], ◌∷◌, ◌++◌, drop, length, refl, ap, sym, ◌∙◌, append_assoc, slice_index_or, add-one, ◌≤◌}
use Rattle.std.proofs.Math.Seq.{drop-cons}
use Rattle.std.proofs.lemmas.List.{drop_all, append-nil}
use Rattle.rv_model.specs.declared.instr.Instr.{Instr}
use Rattle.rv_model.specs.declared.line.Line.{Line}
use Rattle.rv_model.specs.declared.line.Line.TheVariants.{Plain}
use Rattle.effects_top.specs.declared.reader.Postfix.{Postfix}
use Rattle.effects_top.specs.Compiled.{postfix_code, lines_of, expression_code}

-- the lines of code in two parts
pub lines_append : (a b : List Instr) → lines_of (a ++ b) ≡ lines_of a ++ lines_of b
lines_append [] b = refl
lines_append (i ∷ a) b = ap (λ (l : List Line). Plain i ∷ l) (lines_append a b)

-- three parts behind what stands there
pub three_parts : (old : List Line) (a b c : List Instr) (first second third : List Line) → first ≡ old ++ lines_of a → second ≡ first ++ lines_of b → third ≡ second ++ lines_of c → third ≡ old ++ lines_of (a ++ (b ++ c))
three_parts old a b c first second third p q r =
    r ∙ ap (λ (l : List Line). l ++ lines_of c) (q ∙ ap (λ (l : List Line). l ++ lines_of b) p)
    ∙ append_assoc (old ++ lines_of a) (lines_of b) (lines_of c) ∙ append_assoc old (lines_of a) (lines_of b ++ lines_of c)
    ∙ ap (λ (l : List Line). old ++ l) (sym (lines_append a (b ++ c) ∙ ap (λ (l : List Line). lines_of a ++ l) (lines_append b c)))

-- the code of one more part of an expression, and of what is left
pub next_part : (lines more whole : List Line) (ps : List Postfix) (d : Postfix) (i : ℕ) → i < length ps → more ≡ lines ++ lines_of (postfix_code (slice_index_or ps i d))
    → lines ++ lines_of (expression_code (drop i ps)) ≡ whole → more ++ lines_of (expression_code (drop (i + 1) ps)) ≡ whole
unfolding expression_code
next_part lines more whole ps d i within grown before =
    let split : drop i ps ≡ slice_index_or ps i d ∷ drop (i + 1) ps = rw add-one (drop-cons ps i d within) in
    ap (λ (l : List Line). l ++ lines_of (expression_code (drop (i + 1) ps))) grown
    ∙ append_assoc lines (lines_of (postfix_code (slice_index_or ps i d))) (lines_of (expression_code (drop (i + 1) ps)))
    ∙ ap (λ (l : List Line). lines ++ l) (sym (lines_append (postfix_code (slice_index_or ps i d)) (expression_code (drop (i + 1) ps))))
    ∙ ap (λ (l : List Postfix). lines ++ lines_of (expression_code l)) (sym split)
    ∙ before

-- nothing is left
pub no_part : (lines whole : List Line) (ps : List Postfix) (i : ℕ) → length ps ≤ i → lines ++ lines_of (expression_code (drop i ps)) ≡ whole → lines ≡ whole
unfolding expression_code
no_part lines whole ps i over before =
    let none : drop i ps ≡ [] = drop_all i ps over in
    sym (append-nil lines) ∙ ap (λ (l : List Postfix). lines ++ lines_of (expression_code l)) (sym none) ∙ before
