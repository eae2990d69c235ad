use Rattle.std.proofs.Common.{◌≡◌, ℕ, Bool, true, false, List, [], ◌∷◌, length, Some, refl, sym, ◌∙◌, ap, subst}
use Rattle.std.specs.Prelude.{bytes_eq, if◌then◌else◌}
use Rattle.std.proofs.lemmas.Slice.Eq.{bytes_eq-Decides}
use Rattle.ml_lexer.specs.declared.token.TokenKind.{TokenKind}
use Rattle.ml_lexer.specs.Tables.{kind_in}

-- the entries of a table whose texts have such a length
abbrev pub kept : (ℕ → Bool) → List (List ℕ × TokenKind) → List (List ℕ × TokenKind)
kept p [] = []
kept p (e ∷ es) = if p (length e.0) then e ∷ kept p es else kept p es

-- a text is looked up among the entries of its length
pub kept_kind : (p : ℕ → Bool) (es : List (List ℕ × TokenKind)) (t : List ℕ) → p (length t) ≡ true → kind_in es t ≡ kind_in (kept p es) t
kept_kind p [] t h = refl
kept_kind p (e ∷ es) t h = by_test (kept_kind p es t h) (bytes_eq t e.0) refl
  where
    by_length : kind_in es t ≡ kind_in (kept p es) t → bytes_eq t e.0 ≡ false → (w : Bool) → kind_in es t ≡ kind_in (if w then e ∷ kept p es else kept p es) t
    by_length again n true = again ∙ sym (ap (λ (v : Bool). if v then Some e.1 else kind_in (kept p es) t) n)
    by_length again n false = again

    by_test : kind_in es t ≡ kind_in (kept p es) t → (v : Bool) → bytes_eq t e.0 ≡ v → (if bytes_eq t e.0 then Some e.1 else kind_in es t) ≡ kind_in (if p (length e.0) then e ∷ kept p es else kept p es) t
    by_test again true k =
        let same : t ≡ e.0 = (bytes_eq-Decides t e.0).0 k in
        let long : p (length e.0) ≡ true = subst (λ u. p (length u) ≡ true) same h in
        ap (λ (v : Bool). if v then Some e.1 else kind_in es t) k ∙ sym (ap (λ (w : Bool). kind_in (if w then e ∷ kept p es else kept p es) t) long ∙ ap (λ (v : Bool). if v then Some e.1 else kind_in (kept p es) t) k)
    by_test again false k = ap (λ (v : Bool). if v then Some e.1 else kind_in es t) k ∙ by_length again k (p (length e.0))
