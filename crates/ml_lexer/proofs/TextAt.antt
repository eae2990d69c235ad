use Rattle.std.proofs.Common.{◌≡◌, ℕ, List, [], ◌∷◌, drop, get_or, sym, ◌∙◌, ap, add-zero}
use Rattle.std.proofs.lemmas.List.{drop-map, get_or-drop}
use Rattle.ml_lexer.specs.Lexeme.{Lexeme, texts}

-- the text of the lexeme of a number
pub text_at : (ls rest : List Lexeme) (l : Lexeme) (i : ℕ) → drop i ls ≡ l ∷ rest → l.text ≡ get_or (texts ls) i []
text_at ls rest l i h =
    sym (ap (λ n. get_or (texts ls) n []) (sym (add-zero i)) ∙ sym (get_or-drop i (texts ls) 0 [])
    ∙ ap (λ ts. get_or ts 0 []) (drop-map (λ x. x.text) i ls) ∙ ap (λ xs. get_or (texts xs) 0 []) h)
